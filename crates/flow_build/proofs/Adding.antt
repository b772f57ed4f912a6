-- What is added for expressions, piece by piece.
use Rattle.std.proofs.Common.{◌≡◌, ℕ, ◌+◌, List, [], ◌∷◌, ◌++◌, Bool, true, false, not, ◌&&◌, ◌||◌, ℤ, pos, refl, sym, ap, ◌∙◌, subst, append_assoc, add_assoc, arith}
use Rattle.std.proofs.lemmas.List.{append-nil}
use Rattle.flow_build.proofs.Fresh.{edges_append}
use Rattle.c_tree.specs.declared.tree.Op.{Op}
use Rattle.c_tree.specs.declared.tree.Op.TheVariants.{Equal, Unequal}
use Rattle.flow_graph.specs.Calls.{CallSite, call_edge}
use Rattle.flow_graph.specs.declared.graph.Edge.{Edge}
use Rattle.flow_graph.specs.declared.graph.Edge.TheVariants.{Assign}
use Rattle.flow_build.specs.declared.builder.Builder.{Builder}
use Rattle.flow_build.specs.declared.landing.Landed.{Landed}
use Rattle.flow_build.specs.declared.landing.Reached.{Reached}
use Rattle.flow_build.specs.declared.landing.BothSides.{BothSides}
use Rattle.flow_build.specs.declared.operand.Operand.{Operand}
use Rattle.flow_build.specs.declared.operand.Operand.TheVariants.{Variable, Constant}
use Rattle.flow_build.specs.declared.target.Target.{Target}
use Rattle.flow_build.specs.declared.target.Target.TheVariants.{Node}
use Rattle.flow_build.specs.steps.Forms.{Value, Values, Test}
use Rattle.flow_build.specs.steps.Forms as form
use Rattle.flow_build.specs.steps.Translation.{kept, kept_if, nonzero, scaled, overflows_by}
use Rattle.flow_build.specs.steps.Operands.{operand_lin, constant_lin, scaled_lin, sum_lin, difference_lin, overflows_in_place, slot_or_zero, is_constant_operand, rows_where, opposite_op}
use Rattle.flow_build.specs.steps.Blocks.{Block, edges_of, one, ways}
use Rattle.flow_build.specs.steps.Lowering.{operand_at, argument_slot, argument_slots, landing, landing_of_all, nodes_of, nodes_of_all, slots_of, value_blocks, values_blocks}
use Rattle.flow_build.specs.steps.Building.{is_in_place, copied, copied_where, copied_node, copied_nodes, copied_operand, one_if, node_where, operand_where}
use Rattle.flow_build.specs.steps.Additions.{argument_of, AddsBlocks, Adds, AddsAll, AddsSlot, AddsBoth, AddsTest}

-- one part, and then another one
pub both_added : (xs ys : List Block) (n m : ℕ) (b0 b1 b2 : Builder) → AddsBlocks xs n b0 b1 → AddsBlocks ys m b1 b2 →
    AddsBlocks (xs ++ ys) (n + m) b0 b2
both_added xs ys n m b0 b1 b2 h k = record {
  edges = k.edges ∙ ap (λ l. l ++ edges_of ys) h.edges ∙ append_assoc b0.edges.items (edges_of xs) (edges_of ys)
      ∙ ap (λ l. b0.edges.items ++ l) (sym (edges_append xs ys));
  next = k.next ∙ ap (λ i. i + m) h.next ∙ add_assoc b0.next n m;
}

pub sum_added : (v u : Value) (from t : ℕ) (b0 b1 b2 b3 : Builder) (s : BothSides) (l : Landed) → b1.edges.items ≡ b0.edges.items →
    b1.next ≡ b0.next + 1 → AddsBoth v u from (t + 1) b1 b2 s →
    b3.edges.items ≡ b2.edges.items ++ Assign s.right.node b0.next t (sum_lin s.left s.right.operand) ∷ [] → b3.next ≡ b2.next →
    l.node ≡ b0.next → l.operand ≡ Variable t → l.slot ≡ s.right.slot → l.in_place ≡ false → Adds (form.sum v u) from t b0 b3 l
sum_added v u from t b0 b1 b2 b3 s l e1 n1 both e3 n3 node operand slot in_place = record {
  blocks = record {
    edges = simp (e3, both.blocks.edges, e1, n1, both.left, both.right, both.node, edges_append, append_assoc) refl;
    next = omega (arith, n3, both.blocks.next, n1);
  };
  node = node;
  operand = operand;
  slot = omega (arith, slot, both.slot);
  in_place = in_place;
}

-- Values that are kept

-- where a value lands
abbrev pub landed_at : Value → (from t lo : ℕ) → Landed
landed_at v from t lo = record { node = landing v from lo; operand = operand_at v t; slot = t + slots_of v; in_place = is_in_place v }

pub landed_is : (v : Value) (from t : ℕ) (b0 b1 : Builder) (l : Landed) → Adds v from t b0 b1 l → l ≡ landed_at v from t b0.next
landed_is v from t b0 b1 l h =
    let N : ℕ → Landed = λ x. record { node = x; operand = l.operand; slot = l.slot; in_place = l.in_place } in
    let O : Operand → Landed = λ x. record { node = landing v from b0.next; operand = x; slot = l.slot; in_place = l.in_place } in
    let S : ℕ → Landed = λ x. record { node = landing v from b0.next; operand = operand_at v t; slot = x; in_place = l.in_place } in
    let I : Bool → Landed = λ x. record { node = landing v from b0.next; operand = operand_at v t; slot = t + slots_of v; in_place = x } in
    ap N h.node ∙ ap O h.operand ∙ ap S h.slot ∙ ap I h.in_place

-- a copy of a value in place
abbrev copy_of : ℕ → ℕ → ℕ → Operand → List Edge
copy_of from next slot a = Assign from next slot (operand_lin a) ∷ []

copy_same : (from t lo : ℕ) (a : Operand) → copy_of from lo t a ≡ copy_of from (lo + 0) (t + 0) a
copy_same from t lo a =
    let n : lo ≡ lo + 0 = omega arith in
    let s : t ≡ t + 0 = omega arith in
    ap (λ x. copy_of from x t a) n ∙ ap (λ x. copy_of from (lo + 0) x a) s

-- What is added to keep a value is its copy, where it is in place.
pub record Keeps (k : Bool) (v : Value) (from t lo : ℕ) : Type 0 where
  pub edges : edges_of (value_blocks (kept_if k v) from t lo) ≡ edges_of (value_blocks v from t lo) ++ copied k (landed_at v from t lo)
      (lo + nodes_of v)
  pub nodes : nodes_of (kept_if k v) ≡ nodes_of v + copied_nodes k (landed_at v from t lo)
  pub landing_is : landing (kept_if k v) from lo ≡ copied_node k (landed_at v from t lo) (lo + nodes_of v)
  pub operand : operand_at (kept_if k v) t ≡ copied_operand k (landed_at v from t lo)
  pub slots : slots_of (kept_if k v) ≡ slots_of v + copied_nodes k (landed_at v from t lo)
  pub in_place : is_in_place (kept_if k v) ≡ (not k && is_in_place v)

not_kept : (v : Value) (from t lo : ℕ) → Keeps false v from t lo
not_kept v from t lo = record {
  edges = sym (append-nil (edges_of (value_blocks v from t lo)));
  nodes = omega arith;
  landing_is = refl;
  operand = refl;
  slots = omega arith;
  in_place = refl;
}

-- a value with a slot of its own
kept_own : (v : Value) (from t lo : ℕ) → kept v ≡ v → is_in_place v ≡ false → Keeps true v from t lo
kept_own v from t lo same own = record {
  edges = ap (λ u. edges_of (value_blocks u from t lo)) same ∙ sym (append-nil (edges_of (value_blocks v from t lo)))
      ∙ ap (λ p. edges_of (value_blocks v from t lo) ++ copied_where p (landed_at v from t lo) (lo + nodes_of v)) (sym own);
  nodes = ap nodes_of same ∙ (let z : nodes_of v ≡ nodes_of v + 0 = omega arith in z) ∙ ap (λ p. nodes_of v + one_if p) (sym own);
  landing_is = ap (λ u. landing u from lo) same ∙ ap (λ p. node_where p (landing v from lo) (lo + nodes_of v)) (sym own);
  operand = ap (λ u. operand_at u t) same ∙ ap (λ p. operand_where p (landed_at v from t lo)) (sym own);
  slots = ap slots_of same ∙ (let z : slots_of v ≡ slots_of v + 0 = omega arith in z) ∙ ap (λ p. slots_of v + one_if p) (sym own);
  in_place = ap is_in_place same ∙ own;
}

pub keeps : (k : Bool) (v : Value) (from t lo : ℕ) → Keeps k v from t lo
keeps false v from t lo = not_kept v from t lo
keeps true (form.literal false n) from t lo = record {
  edges = copy_same from t lo (Constant n);
  nodes = refl;
  landing_is = omega arith;
  operand = let s : t ≡ t + 0 = omega arith in ap Variable s;
  slots = refl;
  in_place = refl;
}
keeps true (form.read false x) from t lo = record {
  edges = copy_same from t lo (Variable x);
  nodes = refl;
  landing_is = omega arith;
  operand = let s : t ≡ t + 0 = omega arith in ap Variable s;
  slots = refl;
  in_place = refl;
}
keeps true (form.literal true n) from t lo = kept_own (form.literal true n) from t lo refl refl
keeps true (form.read true x) from t lo = kept_own (form.read true x) from t lo refl refl
keeps true form.input from t lo = kept_own form.input from t lo refl refl
keeps true (form.call p vs gs) from t lo = kept_own (form.call p vs gs) from t lo refl refl
keeps true (form.scale c v) from t lo = kept_own (form.scale c v) from t lo refl refl
keeps true (form.sum v u) from t lo = kept_own (form.sum v u) from t lo refl refl
keeps true (form.difference v u) from t lo = kept_own (form.difference v u) from t lo refl refl
keeps true (form.quotient c v) from t lo = kept_own (form.quotient c v) from t lo refl refl
keeps true (form.remainder c v) from t lo = kept_own (form.remainder c v) from t lo refl refl
keeps true (form.truth c) from t lo = kept_own (form.truth c) from t lo refl refl

pub kept_added : (k : Bool) (v : Value) (from t : ℕ) (b0 b1 b2 : Builder) (l m : Landed) → Adds v from t b0 b1 l →
    b2.edges.items ≡ b1.edges.items ++ copied k l b1.next → b2.next ≡ b1.next + copied_nodes k l →
    m.node ≡ copied_node k l b1.next → m.operand ≡ copied_operand k l → m.slot ≡ l.slot + copied_nodes k l → m.in_place
    ≡ (not k && l.in_place) →
    Adds (kept_if k v) from t b0 b2 m
kept_added k v from t b0 b1 b2 l m h e n node operand slot in_place =
    let K = keeps k v from t b0.next in
    let at = landed_is v from t b0 b1 l h in
    let same : copied_nodes k l ≡ copied_nodes k (landed_at v from t b0.next) = ap (λ x. copied_nodes k x) at in
    record {
      blocks = record {
        edges = e ∙ ap (λ x. b1.edges.items ++ copied k x b1.next) at ∙ ap (λ i. b1.edges.items ++ copied k (landed_at v from t b0.next) i)
            h.blocks.next
            ∙ ap (λ es. es ++ copied k (landed_at v from t b0.next) (b0.next + nodes_of v)) h.blocks.edges
            ∙ append_assoc b0.edges.items (edges_of (value_blocks v from t b0.next))
            (copied k (landed_at v from t b0.next) (b0.next + nodes_of v))
            ∙ ap (λ es. b0.edges.items ++ es) (sym K.edges);
        next = omega (arith, n, same, h.blocks.next, K.nodes);
      };
      node = node ∙ ap (λ x. copied_node k x b1.next) at ∙ ap (λ i. copied_node k (landed_at v from t b0.next) i) h.blocks.next
          ∙ sym K.landing_is;
      operand = operand ∙ ap (λ x. copied_operand k x) at ∙ sym K.operand;
      slot = omega (arith, slot, same, h.slot, K.slots);
      in_place = in_place ∙ ap (λ x. not k && x) h.in_place ∙ sym K.in_place;
    }

-- A multiple overflows by its operand.
pub overflow_same : (c : ℤ) (v : Value) (t : ℕ) → overflows_by c v ≡ overflows_in_place c (operand_at v t)
overflow_same c (form.literal false n) t = refl
overflow_same c (form.literal true n) t = refl
overflow_same c (form.read false x) t = refl
overflow_same c (form.read true x) t = refl
overflow_same c form.input t = refl
overflow_same c (form.call p vs gs) t = refl
overflow_same c (form.scale d v) t = refl
overflow_same c (form.sum v u) t = refl
overflow_same c (form.difference v u) t = refl
overflow_same c (form.quotient d v) t = refl
overflow_same c (form.remainder d v) t = refl
overflow_same c (form.truth d) t = refl

-- a multiple of a value that landed
pub multiple_added : (k : Bool) (c : ℤ) (v : Value) (from t : ℕ) (b0 b1 b2 b3 : Builder) (l m : Landed) → b1.edges.items ≡ b0.edges.items →
    b1.next ≡ b0.next + 1 → Adds v from (t + 1) b1 b2 l →
    b3.edges.items ≡ b2.edges.items ++ (copied k l b2.next ++ Assign (copied_node k l b2.next) b0.next t (scaled_lin c (copied_operand k l))
    ∷ []) → b3.next ≡ b2.next + copied_nodes k l →
    m.node ≡ b0.next → m.operand ≡ Variable t → m.slot ≡ l.slot + copied_nodes k l → m.in_place ≡ false → Adds (form.scale c (kept_if k v))
    from t b0 b3 m
multiple_added k c v from t b0 b1 b2 b3 l m e1 n1 h e n node operand slot in_place =
    let u = kept_if k v in
    let L = landed_at v from (t + 1) b1.next in
    let K = keeps k v from (t + 1) b1.next in
    let at = landed_is v from (t + 1) b1 b2 l h in
    let few : copied_nodes k l ≡ copied_nodes k L = ap (λ x. copied_nodes k x) at in
    let Last : ℕ → Operand → List Edge = λ i a. Assign i b0.next t (scaled_lin c a) ∷ [] in
    let Rest : Landed → ℕ → List Edge = λ x i. copied k x i ++ Last (copied_node k x i) (copied_operand k x) in
    let V : ℕ → List Edge = λ lo. edges_of (value_blocks v from (t + 1) lo) in
    let U : ℕ → List Edge = λ lo. edges_of (value_blocks u from (t + 1) lo) in
    let Whole : ℕ → List Edge = λ lo. U lo ++ Last (landing u from lo) (operand_at u (t + 1)) in
    record {
      blocks = record {
        edges = e ∙ ap (λ x. b2.edges.items ++ Rest x b2.next) at ∙ ap (λ i. b2.edges.items ++ Rest L i) h.blocks.next
            ∙ ap (λ es. es ++ Rest L (b1.next + nodes_of v)) h.blocks.edges
            ∙ append_assoc b1.edges.items (V b1.next) (Rest L (b1.next + nodes_of v))
            ∙ ap (λ es. b1.edges.items ++ es)
            (sym (append_assoc (V b1.next) (copied k L (b1.next + nodes_of v)) (Last (copied_node k L (b1.next + nodes_of v))
            (copied_operand k L))))
            ∙ ap (λ es. b1.edges.items ++ (es ++ Last (copied_node k L (b1.next + nodes_of v)) (copied_operand k L))) (sym K.edges)
            ∙ ap (λ i. b1.edges.items ++ (U b1.next ++ Last i (copied_operand k L))) (sym K.landing_is)
            ∙ ap (λ a. b1.edges.items ++ (U b1.next ++ Last (landing u from b1.next) a)) (sym K.operand)
            ∙ ap (λ es. es ++ Whole b1.next) e1 ∙ ap (λ lo. b0.edges.items ++ Whole lo) n1
            ∙ ap (λ es. b0.edges.items ++ es)
            (sym (edges_append (value_blocks u from (t + 1) (b0.next + 1))
            (one (landing u from (b0.next + 1)) (Assign (landing u from (b0.next + 1)) b0.next t (scaled_lin c (operand_at u (t + 1))))
            ∷ [])));
        next = omega (arith, n, few, h.blocks.next, K.nodes, n1);
      };
      node = node;
      operand = operand;
      slot = omega (arith, slot, few, h.slot, K.slots);
      in_place = in_place;
    }

pub scaled_added : (c : ℤ) (v : Value) (from t : ℕ) (b0 b1 b2 b3 : Builder) (l m : Landed) → b1.edges.items ≡ b0.edges.items →
    b1.next ≡ b0.next + 1 → Adds v from (t + 1) b1 b2 l →
    b3.edges.items ≡ b2.edges.items ++ (copied (overflows_in_place c l.operand) l b2.next
    ++ Assign (copied_node (overflows_in_place c l.operand) l b2.next) b0.next t
    (scaled_lin c (copied_operand (overflows_in_place c l.operand) l))
    ∷ []) → b3.next ≡ b2.next + copied_nodes (overflows_in_place c l.operand) l →
    m.node ≡ b0.next → m.operand ≡ Variable t → m.slot ≡ l.slot + copied_nodes (overflows_in_place c l.operand) l → m.in_place ≡ false →
    Adds (scaled c v) from t b0 b3 m
scaled_added c v from t b0 b1 b2 b3 l m e1 n1 h e n node operand slot in_place =
    let k : overflows_in_place c l.operand ≡ overflows_by c v = ap (λ a. overflows_in_place c a) h.operand ∙ sym (overflow_same c v (t + 1))
    in
    let P : Bool → Type 0 = λ k. Adds (form.scale c (kept_if k v)) from t b0 b3 m in
    subst P k (multiple_added (overflows_in_place c l.operand) c v from t b0 b1 b2 b3 l m e1 n1 h e n node operand slot in_place)

-- both sides of an operation
pub sides_added : (v u : Value) (from t : ℕ) (b0 b1 b2 : Builder) (l m : Landed) (s : BothSides) → Adds v from t b0 b1 l →
    Adds u l.node l.slot b1 b2 m →
    s.left ≡ l.operand → s.right ≡ m → AddsBoth v u from t b0 b2 s
sides_added v u from t b0 b1 b2 l m s h k left right =
    let Blocks : ℕ → ℕ → ℕ → List Block = λ i j lo. value_blocks u i j lo in
    let same : Blocks l.node l.slot b1.next ≡ Blocks (landing v from b0.next) (t + slots_of v) (b0.next + nodes_of v) =
    ap (λ i. Blocks i l.slot b1.next) h.node ∙ ap (λ j. Blocks (landing v from b0.next) j b1.next) h.slot
    ∙ ap (λ lo. Blocks (landing v from b0.next) (t + slots_of v) lo) h.blocks.next in
    let P : List Block → Type 0 = λ ys. AddsBlocks ys (nodes_of u) b1 b2 in
    record {
      blocks = both_added (value_blocks v from t b0.next) (Blocks (landing v from b0.next) (t + slots_of v) (b0.next + nodes_of v))
          (nodes_of v) (nodes_of u) b0 b1 b2 h.blocks (subst P same k.blocks);
      left = left ∙ h.operand;
      right = ap (λ x. x.operand) right ∙ k.operand ∙ ap (λ j. operand_at u j) h.slot;
      node = ap (λ x. x.node) right ∙ k.node ∙ ap (λ i. landing u i b1.next) h.node ∙ ap (λ lo. landing u (landing v from b0.next) lo)
          h.blocks.next;
      slot = let same : s.right.slot ≡ m.slot = ap (λ x. x.slot) right in omega (arith, same, k.slot, h.slot);
      in_place = ap (λ x. x.in_place) right ∙ k.in_place;
    }

-- where the right side lands
right_at : (v u : Value) (from t : ℕ) (b0 b1 : Builder) (s : BothSides) → AddsBoth v u from t b0 b1 s →
    s.right ≡ landed_at u (landing v from b0.next) (t + slots_of v) (b0.next + nodes_of v)
right_at v u from t b0 b1 s h =
    let i = landing v from b0.next in
    let j = t + slots_of v in
    let lo = b0.next + nodes_of v in
    let N : ℕ → Landed = λ x. record { node = x; operand = s.right.operand; slot = s.right.slot; in_place = s.right.in_place } in
    let O : Operand → Landed = λ x. record { node = landing u i lo; operand = x; slot = s.right.slot; in_place = s.right.in_place } in
    let S : ℕ → Landed = λ x. record { node = landing u i lo; operand = operand_at u j; slot = x; in_place = s.right.in_place } in
    let I : Bool → Landed = λ x. record { node = landing u i lo; operand = operand_at u j; slot = j + slots_of u; in_place = x } in
    ap N h.node ∙ ap O h.right ∙ ap S h.slot ∙ ap I h.in_place

-- the right side kept as well
pub right_kept : (k : Bool) (v u : Value) (from t : ℕ) (b0 b1 b2 : Builder) (s z : BothSides) (m : Landed) → AddsBoth v u from t b0 b1 s →
    b2.edges.items ≡ b1.edges.items ++ copied k s.right b1.next → b2.next ≡ b1.next + copied_nodes k s.right →
    m.node ≡ copied_node k s.right b1.next → m.operand ≡ copied_operand k s.right → m.slot ≡ s.right.slot + copied_nodes k s.right →
    m.in_place ≡ (not k && s.right.in_place) →
    z.left ≡ s.left → z.right ≡ m → AddsBoth v (kept_if k u) from t b0 b2 z
right_kept k v u from t b0 b1 b2 s z m h e n node operand slot in_place left right =
    let i = landing v from b0.next in
    let j = t + slots_of v in
    let lo = b0.next + nodes_of v in
    let L = landed_at u i j lo in
    let K = keeps k u i j lo in
    let at = right_at v u from t b0 b1 s h in
    let next : b1.next ≡ lo + nodes_of u = h.blocks.next ∙ sym (add_assoc b0.next (nodes_of v) (nodes_of u)) in
    let same : copied_nodes k s.right ≡ copied_nodes k L = ap (λ x. copied_nodes k x) at in
    let X = edges_of (value_blocks v from t b0.next) in
    let Y = edges_of (value_blocks u i j lo) in
    let Z = copied k L (lo + nodes_of u) in
    record {
      blocks = record {
        edges = e ∙ ap (λ x. b1.edges.items ++ copied k x b1.next) at ∙ ap (λ a. b1.edges.items ++ copied k L a) next
            ∙ ap (λ es. es ++ Z) (h.blocks.edges ∙ ap (λ es. b0.edges.items ++ es) (edges_append (value_blocks v from t b0.next)
            (value_blocks u i j lo)))
            ∙ append_assoc b0.edges.items (X ++ Y) Z ∙ ap (λ es. b0.edges.items ++ es) (append_assoc X Y Z)
            ∙ ap (λ es. b0.edges.items ++ (X ++ es)) (sym K.edges)
            ∙ ap (λ es. b0.edges.items ++ es) (sym (edges_append (value_blocks v from t b0.next) (value_blocks (kept_if k u) i j lo)));
        next = omega (arith, n, same, h.blocks.next, K.nodes);
      };
      left = left ∙ h.left;
      right = ap (λ x. x.operand) right ∙ operand ∙ ap (λ x. copied_operand k x) at ∙ sym K.operand;
      node = ap (λ x. x.node) right ∙ node ∙ ap (λ x. copied_node k x b1.next) at ∙ ap (λ a. copied_node k L a) next ∙ sym K.landing_is;
      slot = let z_is : z.right.slot ≡ m.slot = ap (λ x. x.slot) right in let s_is = h.slot in
          omega (arith, z_is, slot, same, s_is, K.slots);
      in_place = ap (λ x. x.in_place) right ∙ in_place ∙ ap (λ x. not k && x) h.in_place ∙ sym K.in_place;
    }

pub difference_added : (v u : Value) (from t : ℕ) (b0 b1 b2 b3 : Builder) (s : BothSides) (l : Landed) → b1.edges.items ≡ b0.edges.items →
    b1.next ≡ b0.next + 1 → AddsBoth v u from (t + 1) b1 b2 s →
    b3.edges.items ≡ b2.edges.items ++ Assign s.right.node b0.next t (difference_lin s.left s.right.operand) ∷ [] → b3.next ≡ b2.next →
    l.node ≡ b0.next → l.operand ≡ Variable t → l.slot ≡ s.right.slot → l.in_place ≡ false → Adds (form.difference v u) from t b0 b3 l
difference_added v u from t b0 b1 b2 b3 s l e1 n1 both e3 n3 node operand slot in_place = record {
  blocks = record {
    edges = simp (e3, both.blocks.edges, e1, n1, both.left, both.right, both.node, edges_append, append_assoc) refl;
    next = omega (arith, n3, both.blocks.next, n1);
  };
  node = node;
  operand = operand;
  slot = omega (arith, slot, both.slot);
  in_place = in_place;
}

-- a test that becomes a value
pub truth_added : (c : Test) (from t : ℕ) (met unmet free : ℕ) (b0 b1 b2 b3 : Builder) (l : Landed) → b1.edges.items ≡ b0.edges.items →
    b1.next ≡ b0.next + 3 → met ≡ b0.next + 1 → unmet ≡ b0.next + 2 →
    AddsTest c from (Node met) (Node unmet) (t + 1) b1 b2 free →
    b3.edges.items ≡ b2.edges.items ++ Assign met b0.next t (constant_lin (pos 1)) ∷ Assign unmet b0.next t (constant_lin (pos 0)) ∷ [] →
    b3.next ≡ b2.next →
    l.node ≡ b0.next → l.operand ≡ Variable t → l.slot ≡ free → l.in_place ≡ false → Adds (form.truth c) from t b0 b3 l
truth_added c from t met unmet free b0 b1 b2 b3 l e1 n1 m u h e n node operand slot in_place = record {
  blocks = record {
    edges = simp (e, h.blocks.edges, e1, n1, m, u, edges_append, append_assoc) refl;
    next = omega (arith, n, h.blocks.next, n1);
  };
  node = node;
  operand = operand;
  slot = omega (arith, slot, h.slot);
  in_place = in_place;
}

-- two tests that are joined
pub both_tests_added : (c d : Test) (from : ℕ) (met unmet : Target) (t middle free last : ℕ) (b0 b1 b2 b3 : Builder) → b1.edges.items
    ≡ b0.edges.items → b1.next ≡ b0.next + 1 → middle ≡ b0.next →
    AddsTest c from (Node middle) unmet t b1 b2 free → AddsTest d middle met unmet free b2 b3 last → AddsTest (form.both c d) from met unmet
    t b0 b3 last
both_tests_added c d from met unmet t middle free last b0 b1 b2 b3 e1 n1 m h k = record {
  blocks = record {
    edges = simp (k.blocks.edges, h.blocks.edges, e1, h.blocks.next, h.slot, n1, m, edges_append, append_assoc) refl;
    next = omega (arith, k.blocks.next, h.blocks.next, n1);
  };
  slot = omega (arith, k.slot, h.slot);
}

pub either_tests_added : (c d : Test) (from : ℕ) (met unmet : Target) (t middle free last : ℕ) (b0 b1 b2 b3 : Builder) → b1.edges.items
    ≡ b0.edges.items → b1.next ≡ b0.next + 1 → middle ≡ b0.next →
    AddsTest c from met (Node middle) t b1 b2 free → AddsTest d middle met unmet free b2 b3 last → AddsTest (form.either c d) from met unmet
    t b0 b3 last
either_tests_added c d from met unmet t middle free last b0 b1 b2 b3 e1 n1 m h k = record {
  blocks = record {
    edges = simp (k.blocks.edges, h.blocks.edges, e1, h.blocks.next, h.slot, n1, m, edges_append, append_assoc) refl;
    next = omega (arith, k.blocks.next, h.blocks.next, n1);
  };
  slot = omega (arith, k.slot, h.slot);
}

pub compare_added : (op : Op) (v u : Value) (from : ℕ) (met unmet : Target) (t free : ℕ) (b0 b1 b2 : Builder) (s : BothSides) →
    AddsBoth v u from t b0 b1 s →
    b2.edges.items ≡ b1.edges.items ++ (ways s.right.node met (rows_where op s.left s.right.operand) ++ ways s.right.node unmet
    (rows_where (opposite_op op) s.left s.right.operand)) → b2.next ≡ b1.next → free ≡ s.right.slot →
    AddsTest (form.compare op v u) from met unmet t b0 b2 free
compare_added op v u from met unmet t free b0 b1 b2 s h e n slot = record {
  blocks = record {
    edges = simp (e, h.blocks.edges, h.left, h.right, h.node, edges_append, append_assoc, append-nil) refl;
    next = omega (arith, n, h.blocks.next);
  };
  slot = omega (arith, slot, h.slot);
}

pub nonzero_added : (v : Value) (from : ℕ) (met unmet : Target) (t free : ℕ) (b0 b1 b2 : Builder) (l : Landed) → Adds v from t b0 b1 l →
    b2.edges.items ≡ b1.edges.items ++ (ways l.node met (rows_where Unequal l.operand (Constant (pos 0))) ++ ways l.node unmet
    (rows_where Equal l.operand (Constant (pos 0)))) → b2.next ≡ b1.next → free ≡ l.slot →
    AddsTest (nonzero v) from met unmet t b0 b2 free
nonzero_added v from met unmet t free b0 b1 b2 l h e n slot = record {
  blocks = record {
    edges = simp (e, h.blocks.edges, h.operand, h.node, edges_append, append_assoc, append-nil) refl;
    next = omega (arith, n, h.blocks.next);
  };
  slot = omega (arith, slot, h.slot);
}

-- Arguments

-- An argument is kept where a later one has a call, or where it is a literal.
pub argument_kept : (later : Bool) (v : Value) (t : ℕ) → argument_of later v ≡ kept_if (later || is_constant_operand (operand_at v t)) v
argument_kept true (form.literal false n) t = refl
argument_kept false (form.literal false n) t = refl
argument_kept true (form.literal true n) t = refl
argument_kept false (form.literal true n) t = refl
argument_kept true (form.read k x) t = refl
argument_kept false (form.read false x) t = refl
argument_kept false (form.read true x) t = refl
argument_kept true form.input t = refl
argument_kept false form.input t = refl
argument_kept true (form.call p vs gs) t = refl
argument_kept false (form.call p vs gs) t = refl
argument_kept true (form.scale c v) t = refl
argument_kept false (form.scale c v) t = refl
argument_kept true (form.sum v u) t = refl
argument_kept false (form.sum v u) t = refl
argument_kept true (form.difference v u) t = refl
argument_kept false (form.difference v u) t = refl
argument_kept true (form.quotient c v) t = refl
argument_kept true (form.remainder c v) t = refl
argument_kept true (form.truth c) t = refl
argument_kept false (form.quotient c v) t = refl
argument_kept false (form.remainder c v) t = refl
argument_kept false (form.truth c) t = refl

-- The operand of an argument is its slot.
pub argument_operand : (later : Bool) (v : Value) (t : ℕ) → operand_at (argument_of later v) t
    ≡ Variable (argument_slot (argument_of later v) t)
argument_operand true (form.literal k n) t = refl
argument_operand false (form.literal k n) t = refl
argument_operand true (form.read k x) t = refl
argument_operand false (form.read false x) t = refl
argument_operand false (form.read true x) t = refl
argument_operand true form.input t = refl
argument_operand false form.input t = refl
argument_operand true (form.call p vs gs) t = refl
argument_operand false (form.call p vs gs) t = refl
argument_operand true (form.scale c v) t = refl
argument_operand false (form.scale c v) t = refl
argument_operand true (form.sum v u) t = refl
argument_operand false (form.sum v u) t = refl
argument_operand true (form.difference v u) t = refl
argument_operand false (form.difference v u) t = refl
argument_operand true (form.quotient c v) t = refl
argument_operand true (form.remainder c v) t = refl
argument_operand true (form.truth c) t = refl
argument_operand false (form.quotient c v) t = refl
argument_operand false (form.remainder c v) t = refl
argument_operand false (form.truth c) t = refl

pub slot_added : (later : Bool) (v : Value) (from t slot : ℕ) (b0 b1 : Builder) (l : Landed) (r : Reached) →
    Adds (kept_if (later || is_constant_operand (operand_at v t)) v) from t b0 b1 l →
    r.node ≡ l.node → r.slot ≡ l.slot → slot ≡ slot_or_zero l.operand → AddsSlot (argument_of later v) from t b0 b1 r slot
slot_added later v from t slot b0 b1 l r h node free is =
    let P : Value → Type 0 = λ u. Adds u from t b0 b1 l in
    let a = subst P (sym (argument_kept later v t)) h in
    record {
      blocks = a.blocks;
      node = node ∙ a.node;
      free = free ∙ a.slot;
      slot_is = is ∙ ap slot_or_zero (a.operand ∙ argument_operand later v t);
    }

pub arguments_added : (v : Value) (vs : Values) (from t slot : ℕ) (b0 b1 b2 : Builder) (l r : Reached) → AddsSlot v from t b0 b1 l slot →
    AddsAll vs l.node l.slot b1 b2 r → AddsAll (form.value v vs) from t b0 b2 r
arguments_added v vs from t slot b0 b1 b2 l r h k =
    let Blocks : ℕ → ℕ → ℕ → List Block = λ i j lo. values_blocks vs i j lo in
    let same : Blocks l.node l.slot b1.next ≡ Blocks (landing v from b0.next) (t + slots_of v) (b0.next + nodes_of v) =
    ap (λ i. Blocks i l.slot b1.next) h.node ∙ ap (λ j. Blocks (landing v from b0.next) j b1.next) h.free
    ∙ ap (λ lo. Blocks (landing v from b0.next) (t + slots_of v) lo) h.blocks.next in
    let P : List Block → Type 0 = λ ys. AddsBlocks ys (nodes_of_all vs) b1 b2 in
    record {
      blocks = both_added (value_blocks v from t b0.next) (Blocks (landing v from b0.next) (t + slots_of v) (b0.next + nodes_of v))
          (nodes_of v) (nodes_of_all vs) b0 b1 b2 h.blocks (subst P same k.blocks);
      node = k.node ∙ ap (λ i. landing_of_all vs i b1.next) h.node ∙ ap (λ lo. landing_of_all vs (landing v from b0.next) lo) h.blocks.next;
      slot = omega (arith, k.slot, h.free);
    }

pub slots_added : (v : Value) (vs : Values) (from t slot : ℕ) (b0 b1 : Builder) (l : Reached) (args0 args1 args2 : List ℕ) →
    AddsSlot v from t b0 b1 l slot → args1 ≡ args0 ++ slot ∷ [] → args2 ≡ args1 ++ argument_slots vs l.slot →
    args2 ≡ args0 ++ argument_slots (form.value v vs) t
slots_added v vs from t slot b0 b1 l args0 args1 args2 h e d =
    d ∙ ap (λ xs. xs ++ argument_slots vs l.slot) e ∙ append_assoc args0 (slot ∷ []) (argument_slots vs l.slot)
    ∙ ap (λ x. args0 ++ x ∷ argument_slots vs l.slot) h.slot_is ∙ ap (λ j. args0 ++ argument_slot v t ∷ argument_slots vs j) h.free

pub call_added : (vs : Values) (gs : List ℕ) (from t : ℕ) (b0 b1 b2 b3 : Builder) (site : CallSite) (r : Reached)
    (l : Landed) → b1.edges.items ≡ b0.edges.items → b1.next ≡ b0.next + 1 → AddsAll vs from (t + 1) b1 b2 r →
    site.arguments ≡ argument_slots vs (t + 1) ++ gs → site.results ≡ t ∷ gs →
    b3.edges.items ≡ b2.edges.items ++ call_edge r.node b0.next site ∷ [] → b3.next ≡ b2.next →
    l.node ≡ b0.next → l.operand ≡ Variable t → l.slot ≡ r.slot → l.in_place ≡ false → Adds (form.call site.procedure vs gs) from t b0 b3 l
call_added vs gs from t b0 b1 b2 b3 site r l e1 n1 h listed given e n node operand slot in_place = record {
  blocks = record {
    edges = simp (e, h.blocks.edges, e1, n1, listed, given, h.node, edges_append, append_assoc) refl;
    next = omega (arith, n, h.blocks.next, n1);
  };
  node = node;
  operand = operand;
  slot = omega (arith, slot, h.slot);
  in_place = in_place;
}
