-- What is added for quotients and remainders.
use Rattle.std.proofs.Common.{◌≡◌, ℕ, ◌+◌, false, List, [], ◌∷◌, ◌++◌, ℤ, pos, negsuc, ◌≤ℤ◌, ◌<ℤ◌, refl, ap, ◌∙◌, subst, append_assoc, arith}
use Rattle.std.specs.Prelude.{unsigned_abs}
use Rattle.std.proofs.lemmas.Int.{ints}
use Rattle.c_tree.specs.declared.tree.Op.TheVariants.{Less, GreaterEqual}
use Rattle.flow_graph.specs.declared.graph.Edge.{Edge}
use Rattle.flow_graph.specs.declared.graph.Edge.TheVariants.{Assign}
use Rattle.flow_build.specs.declared.builder.Builder.{Builder}
use Rattle.flow_build.specs.declared.operand.Operand.TheVariants.{Variable, Constant}
use Rattle.flow_build.specs.declared.target.Target.TheVariants.{Node}
use Rattle.flow_build.specs.declared.landing.Landed.{Landed}
use Rattle.flow_build.specs.declared.landing.Reached.{Reached}
use Rattle.flow_build.specs.steps.Forms.{Value}
use Rattle.flow_build.specs.steps.Forms as form
use Rattle.flow_build.specs.steps.Operands.{scaled_lin, rest_lin, rows_where}
use Rattle.flow_build.specs.steps.Blocks.{Block, one, edges_of, ways}
use Rattle.flow_build.specs.steps.Lowering.{argument_slot, landing, nodes_of, picks, quotient_blocks, nodes_of_quotient, value_blocks}
use Rattle.flow_build.specs.steps.Additions.{AddsBlocks, AddsSlot, Adds}
use Rattle.flow_build.proofs.Adding.{both_added}
use Rattle.flow_build.proofs.Fresh.{edges_append}

-- the edges of the comparison with 0
abbrev pub sign_edges : (a from above below : ℕ) → List Edge
sign_edges a from above below =
    ways from (Node above) (rows_where GreaterEqual (Variable a) (Constant (pos 0)))
    ++ ways from (Node below) (rows_where Less (Variable a) (Constant (pos 0)))

module _ (m a t from to above below : ℕ) (b0 b1 b2 : Builder) (e1 : b1.edges.items ≡ b0.edges.items) (n1 : b1.next ≡ b0.next + 2)
    (first : above ≡ b0.next) (second : below ≡ b0.next + 1) (e2 : b2.edges.items ≡ b1.edges.items ++ sign_edges a from above below)
    (n2 : b2.next ≡ b1.next) where
  -- by a divisor from 0 on
  pub quotient_added : (c : ℤ) (b3 : Builder) → pos 0 ≤ℤ c → m ≡ unsigned_abs c →
      b3.edges.items ≡ b2.edges.items ++ edges_of (picks m a t above below to) → b3.next ≡ b2.next →
      AddsBlocks (quotient_blocks c a t from to b0.next) (nodes_of_quotient c) b0 b3
  quotient_added (pos k) b3 up is e3 n3 = record {
    edges = simp (e3, e2, e1, first, second, is, append_assoc) refl;
    next = omega (arith, n3, n2, n1);
  }
  quotient_added (negsuc k) b3 up is e3 n3 = absurd (omega (arith, ints, up))

  -- by a negative one
  pub turned_added : (c : ℤ) (turned : ℕ) (b3 b4 b5 : Builder) → c <ℤ pos 0 → m ≡ unsigned_abs c →
      b3.edges.items ≡ b2.edges.items → b3.next ≡ b2.next + 1 → turned ≡ b2.next →
      b4.edges.items ≡ b3.edges.items ++ edges_of (picks m a t above below turned) → b4.next ≡ b3.next →
      b5.edges.items ≡ b4.edges.items ++ Assign turned to t (scaled_lin (negsuc 0) (Variable t)) ∷ [] → b5.next ≡ b4.next →
      AddsBlocks (quotient_blocks c a t from to b0.next) (nodes_of_quotient c) b0 b5
  turned_added (pos k) turned b3 b4 b5 down is e3 n3 third e4 n4 e5 n5 = absurd (omega (arith, ints, down))
  turned_added (negsuc k) turned b3 b4 b5 down is e3 n3 third e4 n4 e5 n5 =
      let at : turned ≡ b0.next + 2 = third ∙ n2 ∙ n1 in
      record {
        edges = simp (e5, e4, e3, e2, e1, at, first, second, is, edges_append, append_assoc) refl;
        next = omega (arith, n5, n4, n3, n2, n1);
      }

-- the form of a quotient
pub quotient_form_added : (c : ℤ) (v : Value) (from t slot to : ℕ) (b0 b1 b2 b3 : Builder) (r : Reached) (l : Landed) →
    b1.edges.items ≡ b0.edges.items → b1.next ≡ b0.next + 1 → AddsSlot v from (t + 1) b1 b2 r slot →
    AddsBlocks (quotient_blocks c slot t r.node to b2.next) (nodes_of_quotient c) b2 b3 → to ≡ b0.next →
    l.node ≡ to → l.operand ≡ Variable t → l.slot ≡ r.slot → l.in_place ≡ false → Adds (form.quotient c v) from t b0 b3 l
quotient_form_added c v from t slot to b0 b1 b2 b3 r l e1 n1 h q at node operand free in_place =
    let Q : ℕ → ℕ → ℕ → ℕ → List Block = λ a n i lo. quotient_blocks c a t n i lo in
    let a = argument_slot v (t + 1) in
    let n = landing v from b1.next in
    let same : Q slot r.node to b2.next ≡ Q a n b0.next (b1.next + nodes_of v) =
    ap (λ x. Q x r.node to b2.next) h.slot_is ∙ ap (λ x. Q a x to b2.next) h.node ∙ ap (λ x. Q a n x b2.next) at
    ∙ ap (λ x. Q a n b0.next x) h.blocks.next in
    let P : List Block → Type 0 = λ ys. AddsBlocks ys (nodes_of_quotient c) b2 b3 in
    let Whole : ℕ → List Block = λ lo. value_blocks v from (t + 1) lo ++ Q a (landing v from lo) b0.next (lo + nodes_of v) in
    let k = both_added (value_blocks v from (t + 1) b1.next) (Q a n b0.next (b1.next + nodes_of v)) (nodes_of v) (nodes_of_quotient c)
    b1 b2 b3 h.blocks (subst P same q) in
    record {
      blocks = record {
        edges = k.edges ∙ ap (λ es. es ++ edges_of (Whole b1.next)) e1 ∙ ap (λ lo. b0.edges.items ++ edges_of (Whole lo)) n1;
        next = omega (arith, k.next, n1);
      };
      node = node ∙ at;
      operand = operand;
      slot = omega (arith, free, h.free);
      in_place = in_place;
    }

-- the form of a remainder
pub remainder_form_added : (c : ℤ) (v : Value) (from t slot to divided : ℕ) (b0 b1 b2 b3 b4 : Builder) (r : Reached) (l : Landed) →
    b1.edges.items ≡ b0.edges.items → b1.next ≡ b0.next + 2 → AddsSlot v from (t + 1) b1 b2 r slot →
    AddsBlocks (quotient_blocks c slot t r.node divided b2.next) (nodes_of_quotient c) b2 b3 → to ≡ b0.next → divided ≡ b0.next + 1 →
    b4.edges.items ≡ b3.edges.items ++ Assign divided to t (rest_lin c slot t) ∷ [] → b4.next ≡ b3.next →
    l.node ≡ to → l.operand ≡ Variable t → l.slot ≡ r.slot → l.in_place ≡ false → Adds (form.remainder c v) from t b0 b4 l
remainder_form_added c v from t slot to divided b0 b1 b2 b3 b4 r l e1 n1 h q at middle e4 n4 node operand free in_place =
    let Q : ℕ → ℕ → ℕ → ℕ → List Block = λ a n i lo. quotient_blocks c a t n i lo in
    let Last : ℕ → ℕ → ℕ → List Block = λ i j a. one i (Assign i j t (rest_lin c a t)) ∷ [] in
    let a = argument_slot v (t + 1) in
    let n = landing v from b1.next in
    let d = b0.next + 1 in
    let lo = b1.next + nodes_of v in
    let same : Q slot r.node divided b2.next ≡ Q a n d lo =
    ap (λ x. Q x r.node divided b2.next) h.slot_is ∙ ap (λ x. Q a x divided b2.next) h.node ∙ ap (λ x. Q a n x b2.next) middle
    ∙ ap (λ x. Q a n d x) h.blocks.next in
    let P : List Block → Type 0 = λ ys. AddsBlocks ys (nodes_of_quotient c) b2 b3 in
    let last : AddsBlocks (Last d b0.next a) 0 b3 b4 = record {
      edges = e4 ∙ ap (λ x. b3.edges.items ++ edges_of (Last divided to x)) h.slot_is
          ∙ ap (λ x. b3.edges.items ++ edges_of (Last divided x a)) at ∙ ap (λ x. b3.edges.items ++ edges_of (Last x b0.next a)) middle;
      next = omega (arith, n4);
    } in
    let Whole : ℕ → List Block = λ lo. value_blocks v from (t + 1) lo
    ++ (Q a (landing v from lo) d (lo + nodes_of v) ++ Last d b0.next a) in
    let tail = both_added (Q a n d lo) (Last d b0.next a) (nodes_of_quotient c) 0 b2 b3 b4 (subst P same q) last in
    let k = both_added (value_blocks v from (t + 1) b1.next) (Q a n d lo ++ Last d b0.next a) (nodes_of v) (nodes_of_quotient c + 0)
    b1 b2 b4 h.blocks tail in
    record {
      blocks = record {
        edges = k.edges ∙ ap (λ es. es ++ edges_of (Whole b1.next)) e1 ∙ ap (λ lo. b0.edges.items ++ edges_of (Whole lo)) n1;
        next = omega (arith, k.next, n1);
      };
      node = node ∙ at;
      operand = operand;
      slot = omega (arith, free, h.free);
      in_place = in_place;
    }
