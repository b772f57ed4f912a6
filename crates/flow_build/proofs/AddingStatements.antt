-- What is added for statements, piece by piece.
use Rattle.std.proofs.Common.{◌≡◌, ℕ, suc, ◌+◌, ◌*◌, ◌≤◌, ◌<◌, List, [], ◌∷◌, ◌++◌, length, drop, get_or, Bool, true, false, not, max, eqb, ◌==◌, ◌-◌, ◌⊎◌, inl, inr, IsTrue, ◌&&◌, refl, sym, ap, ◌∙◌, subst, append_assoc, arith}
use Rattle.std.proofs.Math.Nat.{add-max-add_right, add_comm, max-eq_left, max-eq_right, max-le, le-max_left, le_trans}
use Rattle.std.proofs.Math.ListN.{drop_of_length-le}
use Rattle.std.proofs.Math.Seq.{drop-cons}
use Rattle.std.proofs.lemmas.List.{length-drop}
use Rattle.std.proofs.lemmas.Bool.Decides.{eqb_tells}
use Rattle.std.proofs.lemmas.Bool.{eq-eqb, ne_eqb, true≢false}
use Rattle.std.proofs.lemmas.List.{append-nil}
use Rattle.flow_build.proofs.Fresh.{edges_append}
use Rattle.flow_build.proofs.Sizes.{between_one}
use Rattle.c_tree.specs.declared.tree.Stmt.{Stmt}
use Rattle.c_tree.specs.View.{statement_of, statements_of}
use Rattle.c_tree.specs.Syntax.{Expression, Statement, block, set, set_global, ignore, assume, assert, if_else, loop, do_while, break, continue, return, Statements, statement}
use Rattle.c_tree.specs.WellFormed.{statement_nodes, statements_nodes}
use Rattle.flow_graph.specs.declared.graph.Edge.{Edge}
use Rattle.flow_build.specs.declared.builder.Builder.{Builder}
use Rattle.flow_build.specs.declared.landing.Landed.{Landed}
use Rattle.flow_build.specs.declared.statement.Frame.{Frame}
use Rattle.flow_build.specs.declared.statement.Exits.{Exits}
use Rattle.flow_build.specs.declared.target.Target.TheVariants.{Node}
use Rattle.flow_build.specs.steps.Translation.{value_of, test_of}
use Rattle.flow_build.specs.steps.Operands.{slot_or_zero}
use Rattle.flow_build.specs.steps.Blocks.{edges_of, one}
use Rattle.flow_build.specs.steps.Lowering.{argument_slot, result_of, return_edge, landing, between, nodes_between, nodes_of_statement, nodes_of_statements, slots_of_statement, slots_of_statements, statement_blocks, statements_blocks}
use Rattle.flow_build.specs.steps.Building.{node_where, one_if, statement_literals_fit, statements_literals_fit, is_lowerable_statement, are_lowerable_statements}
use Rattle.linear_formula.proofs.Limits.{both}
use Rattle.flow_build.specs.steps.Additions.{TakesFew, Adds, AddsTest}
use Rattle.flow_build.specs.steps.StatementAdditions.{AddsResult, AddsStatement}
use Rattle.flow_build.proofs.Adding.{argument_operand}

max_three : (a b c : ℕ) → max a (max b c) ≡ max (max a b) c
max_three a b c = omega arith

pub max_add : (t a b : ℕ) → max (t + a) (t + b) ≡ t + max a b
max_add t a b = ap (λ x. max x (t + b)) (add_comm t a) ∙ ap (λ x. max (a + t) x) (add_comm t b) ∙ add-max-add_right a b t
    ∙ add_comm (max a b) t

-- one of two statements
pub choice_added : (e : Expression) (a d : Statement) (frame : Frame) (from : ℕ) (exits : Exits) (first second tested left right : ℕ)
    (b0 b1 b2 b3 b4 : Builder) →
    b1.edges.items ≡ b0.edges.items → b1.next ≡ b0.next + 2 → first ≡ b0.next → second ≡ b0.next + 1 →
    AddsTest (test_of frame.layout e) from (Node first) (Node second) frame.free b1 b2 tested → AddsStatement a frame first exits b2 b3
    left →
    AddsStatement d frame second exits b3 b4 right →
    AddsStatement (if_else e a d) frame from exits b0 b4 (max tested (max left right))
choice_added e a d frame from exits first second tested left right b0 b1 b2 b3 b4 e1 n1 f s h k m = record {
  blocks = record {
    edges = simp (
      m.blocks.edges,
      k.blocks.edges,
      h.blocks.edges,
      m.blocks.next,
      k.blocks.next,
      h.blocks.next,
      e1,
      n1,
      f,
      s,
      edges_append,
      append_assoc,
    ) refl;
    next = omega (arith, m.blocks.next, k.blocks.next, h.blocks.next, n1);
  };
  slot = simp (h.slot, k.slot, m.slot, max_add) refl;
}

-- a loop that tests before its body
pub repetition_added : (e : Expression) (step body : Statement) (frame : Frame) (from : ℕ) (exits : Exits)
    (inner again tested left right : ℕ)
    (b0 b1 b2 b3 b4 : Builder) →
    b1.edges.items ≡ b0.edges.items → b1.next ≡ b0.next + 2 → inner ≡ b0.next → again ≡ b0.next + 1 →
    AddsTest (test_of frame.layout e) from (Node inner) (Node exits.to) frame.free b1 b2 tested →
    AddsStatement body frame inner (record { to = again; on_break = exits.to; on_continue = again }) b2 b3 left →
    AddsStatement step frame again (record { to = from; on_break = exits.to; on_continue = from }) b3 b4 right →
    AddsStatement (loop e step body) frame from exits b0 b4 (max tested (max left right))
repetition_added e step body frame from exits inner again tested left right b0 b1 b2 b3 b4 e1 n1 f s h k m = record {
  blocks = record {
    edges = simp (
      m.blocks.edges,
      k.blocks.edges,
      h.blocks.edges,
      m.blocks.next,
      k.blocks.next,
      h.blocks.next,
      e1,
      n1,
      f,
      s,
      edges_append,
      append_assoc,
    ) refl;
    next = omega (arith, m.blocks.next, k.blocks.next, h.blocks.next, n1);
  };
  slot = simp (h.slot, k.slot, m.slot, max_add) refl;
}

-- a loop that tests after its body
pub tested_repetition_added : (body : Statement) (e : Expression) (frame : Frame) (from : ℕ) (exits : Exits) (again left tested : ℕ)
    (b0 b1 b2 b3 : Builder) →
    b1.edges.items ≡ b0.edges.items → b1.next ≡ b0.next + 1 → again ≡ b0.next →
    AddsStatement body frame from (record { to = again; on_break = exits.to; on_continue = again }) b1 b2 left →
    AddsTest (test_of frame.layout e) again (Node from) (Node exits.to) frame.free b2 b3 tested →
    AddsStatement (do_while body e) frame from exits b0 b3 (max left tested)
tested_repetition_added body e frame from exits again left tested b0 b1 b2 b3 e1 n1 f k h = record {
  blocks = record {
    edges = simp (h.blocks.edges, k.blocks.edges, h.blocks.next, k.blocks.next, e1, n1, f, edges_append, append_assoc) refl;
    next = omega (arith, h.blocks.next, k.blocks.next, n1);
  };
  slot = simp (h.slot, k.slot, max_add) refl;
}

-- a value, and an edge after it
pub value_then : (v : _) (d : ℕ → Edge) (from t : ℕ) (b0 b1 b2 : Builder) (l : Landed) → Adds v from t b0 b1 l → b2.edges.items
    ≡ b1.edges.items ++ d l.node ∷ [] → b2.next ≡ b1.next →
    b2.edges.items ≡ b0.edges.items ++ edges_of (Rattle.flow_build.specs.steps.Lowering.value_blocks v from t b0.next
    ++ one (landing v from b0.next) (d (landing v from b0.next)) ∷ [])
value_then v d from t b0 b1 b2 l h e n = simp (e, h.blocks.edges, h.node, edges_append, append_assoc) refl

-- Statements one after another

-- what is left of a list of statements
pub record Left (all left : Statements) (frame : Frame) (from : ℕ) (exits : Exits) (old now : Builder) (node free : ℕ) : Type 0 where
  pub edges : old.edges.items ++ edges_of (statements_blocks frame.layout frame.gives frame.free all from exits.to exits.on_break
      exits.on_continue
      old.next)
      ≡ now.edges.items ++ edges_of (statements_blocks frame.layout frame.gives frame.free left node exits.to exits.on_break
      exits.on_continue now.next)
  pub next : old.next + nodes_of_statements frame.layout all ≡ now.next + nodes_of_statements frame.layout left
  pub slots : frame.free + slots_of_statements frame.layout all ≡ max free (frame.free + slots_of_statements frame.layout left)
  pub few_nodes : now.next + 5 * statements_nodes left ≤ old.next + 5 * statements_nodes all
  pub fewer : statements_nodes left ≤ statements_nodes all
  pub few_slots : free ≤ frame.free + 2 * statements_nodes all
  pub above : frame.free ≤ free
  pub literals : statements_literals_fit all ≡ statements_literals_fit left

pub left_begins : (all : Statements) (frame : Frame) (from : ℕ) (exits : Exits) (b : Builder) → Left all all frame from exits b b from
    frame.free
left_begins all frame from exits b = record {
  edges = refl;
  next = refl;
  slots = sym (max-eq_right (omega arith));
  few_nodes = omega arith;
  fewer = omega arith;
  few_slots = omega arith;
  above = omega arith;
  literals = refl;
}

-- one statement more
pub left_goes_on : (all : Statements) (s : Statement) (r : Statements) (frame : Frame) (from : ℕ) (exits : Exits) (old b0 b1 b2 : Builder)
    (node to free reached : ℕ) (last : Bool) →
    Left all (statement s r) frame from exits old b0 node free → nodes_between r ≡ one_if (not last) → between r exits.to b0.next
    ≡ node_where last b0.next exits.to →
    b1.edges.items ≡ b0.edges.items → b1.next ≡ b0.next + one_if (not last) → to ≡ node_where last b0.next exits.to →
    AddsStatement s frame node (record { to = to; on_break = exits.on_break; on_continue = exits.on_continue }) b1 b2 reached →
    b2.next + 1 ≤ b1.next + 5 * statement_nodes s → 1 ≤ statement_nodes s → reached + 1 ≤ frame.free + 2 * statement_nodes s →
    IsTrue (statement_literals_fit s) →
    Left all r frame from exits old b2 to (max free reached)
left_goes_on all s r frame from exits old b0 b1 b2 node to free reached last h nodes goal e1 n1 t k few some low fits =
    let T = statement_blocks frame.layout frame.gives frame.free in
    let R = statements_blocks frame.layout frame.gives frame.free in
    let lo : b1.next ≡ b0.next + nodes_between r = n1 ∙ ap (λ i. b0.next + i) (sym nodes) in
    let to_is : to ≡ between r exits.to b0.next = t ∙ sym goal in
    let l = b0.next + nodes_between r in
    let m = between r exits.to b0.next in
    let kb = k.blocks in
    let slot = k.slot in
    record {
      edges = h.edges ∙ ap (λ es. b0.edges.items ++ es) (edges_append (T s node m exits.on_break exits.on_continue l)
          (R r m exits.to exits.on_break exits.on_continue (l + nodes_of_statement frame.layout s)))
          ∙ sym (append_assoc b0.edges.items (edges_of (T s node m exits.on_break exits.on_continue l))
          (edges_of (R r m exits.to exits.on_break exits.on_continue (l + nodes_of_statement frame.layout s))))
          ∙ ap (λ es. (es ++ edges_of (T s node m exits.on_break exits.on_continue l))
          ++ edges_of (R r m exits.to exits.on_break exits.on_continue (l + nodes_of_statement frame.layout s))) (sym e1)
          ∙ ap (λ i. (b1.edges.items ++ edges_of (T s node m exits.on_break exits.on_continue i))
          ++ edges_of (R r m exits.to exits.on_break exits.on_continue (i + nodes_of_statement frame.layout s))) (sym lo)
          ∙ ap (λ i. (b1.edges.items ++ edges_of (T s node i exits.on_break exits.on_continue b1.next))
          ++ edges_of (R r i exits.to exits.on_break exits.on_continue (b1.next + nodes_of_statement frame.layout s))) (sym to_is)
          ∙ ap (λ es. es ++ edges_of (R r to exits.to exits.on_break exits.on_continue (b1.next + nodes_of_statement frame.layout s)))
          (sym kb.edges)
          ∙ ap (λ i. b2.edges.items ++ edges_of (R r to exits.to exits.on_break exits.on_continue i)) (sym kb.next);
      next = let a = h.next in let b = kb.next in omega (arith, a, b, lo);
      slots = h.slots ∙ ap (λ x. max free x)
          (sym (max_add frame.free (slots_of_statement frame.layout s) (slots_of_statements frame.layout r)))
          ∙ max_three free
          (frame.free + slots_of_statement frame.layout s) (frame.free + slots_of_statements frame.layout r)
          ∙ ap (λ x. max (max free x) (frame.free + slots_of_statements frame.layout r)) (sym slot);
      few_nodes = let a = h.few_nodes in let one = between_one r in omega (arith, a, one, lo, few);
      fewer = let a = h.fewer in omega (arith, a);
      few_slots = let a = h.few_slots in let b = h.fewer in max-le a (omega (arith, low, b));
      above = le_trans h.above (le-max_left free reached);
      literals = h.literals ∙ ap (λ b. b && statements_literals_fit r) fits;
    }

-- Lists of statements of the code

between_is : (rest : List Stmt) (last : Bool) → last ≡ (length rest == 0) → (to lo : ℕ) →
    (nodes_between (statements_of rest) ≡ one_if (not last)) × (between (statements_of rest) to lo ≡ node_where last lo to)
between_is [] last e to lo = (ap (λ b. one_if (not b)) (sym e), ap (λ b. node_where b lo to) (sym e))
between_is (x ∷ rest) last e to lo =
    let no : last ≡ false = e ∙ ne_eqb (length (x ∷ rest)) 0 (λ q. omega arith) in
    (ap (λ b. one_if (not b)) (sym no), ap (λ b. node_where b lo to) (sym no))

same_test : (a b n : ℕ) → b ≡ n - a → a ≤ n → eqb a n ≡ eqb b 0
same_test a b n e le = go (eqb_tells a n) (eqb_tells b 0)
  where
    go : ((eqb a n ≡ true) × (a ≡ n)) ⊎ ((eqb a n ≡ false) × (a ≡ n → ⊥)) → ((eqb b 0 ≡ true) × (b ≡ 0))
        ⊎ ((eqb b 0 ≡ false) × (b ≡ 0 → ⊥)) →
        eqb a n ≡ eqb b 0
    go (inl p) (inl q) = p.0 ∙ sym q.0
    go (inr p) (inr q) = p.0 ∙ sym q.0
    go (inl p) (inr q) = let u = p.1 in absurd (q.1 (omega (arith, e, u)))
    go (inr p) (inl q) = let u = q.1 in absurd (p.1 (omega (arith, e, u)))

some_nodes : (s : Statement) → 1 ≤ statement_nodes s
some_nodes (block ss) = omega arith
some_nodes (set x e) = omega arith
some_nodes (set_global y e) = omega arith
some_nodes (ignore e) = omega arith
some_nodes (assume e) = omega arith
some_nodes (assert id e) = omega arith
some_nodes (if_else e a b) = omega arith
some_nodes (loop e a b) = omega arith
some_nodes (do_while a e) = omega arith
some_nodes break = omega arith
some_nodes continue = omega arith
some_nodes (return o) = omega arith

-- what the code asks of the statements that are left
module _ (es : List Stmt) (i : ℕ) (x : Stmt) (lt : i < length es) (is : x ≡ get_or es i x) where
  next_of : drop i es ≡ x ∷ drop (i + 1) es
  next_of =
      let one_more : suc i ≡ i + 1 = omega arith in
      drop-cons es i x lt ∙ ap (λ y. y ∷ drop (suc i) es) (sym is) ∙ ap (λ j. x ∷ drop j es) one_more

  pub next_lowerable : IsTrue (are_lowerable_statements (statements_of (drop i es))) →
      IsTrue (is_lowerable_statement (statement_of x)) × IsTrue (are_lowerable_statements (statements_of (drop (i + 1) es)))
  next_lowerable h =
      let P : List Stmt → Type 0 = λ l. IsTrue (are_lowerable_statements (statements_of l)) in
      both (is_lowerable_statement (statement_of x)) (are_lowerable_statements (statements_of (drop (i + 1) es))) (subst P next_of h)

  pub next_nodes : statement_nodes (statement_of x) ≤ statements_nodes (statements_of (drop i es))
  next_nodes = let e = ap (λ l. statements_nodes (statements_of l)) next_of in omega (arith, e)

pub few_if : (b : Bool) → one_if b ≤ 1
few_if true = omega arith
few_if false = omega arith

pub block_turns : (es : List Stmt) (i : ℕ) (x : Stmt) (frame : Frame) (from : ℕ) (exits : Exits) (old b0 b1 b2 : Builder)
    (node to free next_free reached : ℕ) →
    Left (statements_of es) (statements_of (drop i es)) frame from exits old b0 node free → i < length es → x ≡ get_or es i x →
    b1.edges.items ≡ b0.edges.items → b1.next ≡ b0.next + one_if (not (eqb (i + 1) (length es))) → to ≡ node_where (eqb (i + 1) (length es))
    b0.next exits.to →
    AddsStatement (statement_of x) frame node (record { to = to; on_break = exits.on_break; on_continue = exits.on_continue }) b1 b2
    reached →
    TakesFew (statement_nodes (statement_of x)) frame.free b1 b2 reached → IsTrue (statement_literals_fit (statement_of x)) →
    next_free ≡ max free reached →
    Left (statements_of es) (statements_of (drop (i + 1) es)) frame from exits old b2 to next_free
block_turns es i x frame from exits old b0 b1 b2 node to free next_free reached h lt is e1 n1 t k few fits next =
    let one_more : suc i ≡ i + 1 = omega arith in
    let split : drop i es ≡ x ∷ drop (i + 1) es = drop-cons es i x lt ∙ ap (λ y. y ∷ drop (suc i) es) (sym is) ∙ ap (λ j. x ∷ drop j es)
    one_more in
    let P : List Stmt → Type 0 = λ l. Left (statements_of es) (statements_of l) frame from exits old b0 node free in
    let test = same_test (i + 1) (length (drop (i + 1) es)) (length es) (length-drop (i + 1) es) (omega arith) in
    let between = between_is (drop (i + 1) es) (eqb (i + 1) (length es)) test exits.to b0.next in
    let Q : ℕ → Type 0 = λ f. Left (statements_of es) (statements_of (drop (i + 1) es)) frame from exits old b2 to f in
    subst Q (sym next)
    (left_goes_on (statements_of es) (statement_of x) (statements_of (drop (i + 1) es)) frame from exits old b0 b1 b2 node to free reached
    (eqb (i + 1) (length es)) (subst P split h)
    between.0 between.1 e1 n1 t k few.nodes (some_nodes (statement_of x)) few.slots fits)

filled_block : (es : List Stmt) (frame : Frame) (from : ℕ) (exits : Exits) (lo : ℕ) → (length es ≡ 0 → ⊥) →
    statements_blocks frame.layout frame.gives frame.free (statements_of es) from exits.to exits.on_break exits.on_continue lo
    ≡ statement_blocks frame.layout frame.gives frame.free (block (statements_of es)) from exits.to exits.on_break exits.on_continue lo
filled_block [] frame from exits lo h = absurd (h refl)
filled_block (x ∷ es) frame from exits lo h = refl

pub block_ends : (es : List Stmt) (i : ℕ) (frame : Frame) (from : ℕ) (exits : Exits) (b0 b1 : Builder) (node free : ℕ) (empty : Bool) →
    Left (statements_of es) (statements_of (drop i es)) frame from exits b0 b1 node free → length es ≤ i → empty ≡ (length es == 0) →
    empty ≡ false →
    AddsStatement (block (statements_of es)) frame from exits b0 b1 free
block_ends es i frame from exits b0 b1 node free empty h le test filled =
    let none : drop i es ≡ [] = drop_of_length-le es le in
    let P : List Stmt → Type 0 = λ l. Left (statements_of es) (statements_of l) frame from exits b0 b1 node free in
    let k = subst P none h in
    let some : length es ≡ 0 → ⊥ = λ q. true≢false (sym (test ∙ eq-eqb (length es) 0 q) ∙ filled) in
    record {
      blocks = record {
        edges = sym (append-nil b1.edges.items) ∙ sym k.edges ∙ ap (λ bs. b0.edges.items ++ edges_of bs)
            (filled_block es frame from exits b0.next some);
        next = let n = k.next in omega (arith, n);
      };
      slot = let z : frame.free + 0 ≤ free = let a = k.above in omega (arith, a) in sym (k.slots ∙ max-eq_left z);
    }

-- the return of a value that is kept
pub result_added : (e : Expression) (frame : Frame) (from : ℕ) (b0 b1 b2 : Builder) (m : Landed) (edge : Edge) →
    Adds (result_of frame.layout e) from frame.free b0 b1 m → edge ≡ return_edge frame.layout frame.gives m.node (slot_or_zero m.operand)
    frame.free →
    b2.edges.items ≡ b1.edges.items ++ edge ∷ [] → b2.next ≡ b1.next → AddsResult e frame from b0 b2 m.slot
result_added e frame from b0 b1 b2 m edge h is added next =
    let v = result_of frame.layout e in
    let slot : slot_or_zero m.operand ≡ argument_slot v frame.free = ap slot_or_zero
    (h.operand ∙ argument_operand false (value_of frame.layout e)
    frame.free)
    in
    let d : ℕ → Edge = λ n. return_edge frame.layout frame.gives n (argument_slot v frame.free) frame.free in
    let last = added ∙ ap (λ x. b1.edges.items ++ x ∷ []) is ∙ ap (λ j. b1.edges.items ++ return_edge frame.layout frame.gives m.node j
    frame.free ∷ [])
    slot in
    record {
      blocks = record { edges = value_then v d from frame.free b0 b1 b2 m h last next; next = next ∙ h.blocks.next };
      slot = h.slot;
    }
