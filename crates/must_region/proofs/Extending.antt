-- Trails that are extended give frames.
use Rattle.std.proofs.Common.{◌≡◌, ◌≢◌, ℕ, zero, suc, ◌+◌, ◌<◌, ◌≤◌, List, [], ◌∷◌, ◌++◌, length, map, Option, Some, None, Bool, true, false, cond, ◌==◌, ℤ, pos, negsuc, ◌+ℤ◌, arith, refl, sym, subst, ap, ◌∙◌, append_assoc, append-nil, nat_lt}
use Rattle.std.specs.Prelude.{slice_get, slice_set, IsTrue}
use Rattle.std.specs.List.{list_all}
use Rattle.std.proofs.lemmas.List.{map-append}
use Rattle.std.proofs.lemmas.Int.{ints}
use borrow.Author.Tests.{ne_eqb, eqb-true, eqb-false, ltb-true, lt-ltb, eq-eqb}
use Rattle.std.proofs.Math.ListN.{length-set}
use Rattle.std.proofs.lemmas.Option.{none-some}
use Rattle.linear_formula.proofs.Limits.{both}
use Rattle.c_tree.specs.Meaning.{State, entered, with_slot, is_value}
use Rattle.linear_formula.specs.LinearSum.{LinearSum, Valuation, Is64, value_of}
use Rattle.linear_formula.specs.Results.{combination_value}
use Rattle.linear_formula.specs.Replaced.{replaced_valuation}
use Rattle.linear_formula.specs.Formula.{HoldsAll}
use Rattle.linear_formula.specs.declared.formula.Atom.{Atom}
use Rattle.linear_formula.proofs.Values.{value-combination}
use Rattle.linear_formula.proofs.Replacing.{value-column}
use Rattle.flow_graph.specs.declared.graph.Lin.{Lin}
use Rattle.flow_graph.specs.declared.graph.Graph.{Graph}
use Rattle.flow_graph.specs.declared.graph.Edge.{Edge}
use Rattle.flow_graph.specs.declared.graph.Edge.TheVariants.{Entry, Assign, Guard, Input, Pick, Call, Assert, Return}
use Rattle.flow_graph.specs.Shapes.{source, target, is_return, is_assert, is_call}
use Rattle.flow_graph.specs.WellFormed.{IsGraph, first_node, is_lin, names_slots, max_slots}
use Rattle.flow_graph.specs.Runs.{Place, inside, left, Called, Frame, GraphRun, lin_value, value_of_slots}
use Rattle.flow_graph.specs.Columns.{first_symbol, first_entry}
use Rattle.summary_form.specs.Musts.{values_of}
use Rattle.must_region.specs.Traces.{Trace}
use Rattle.must_region.specs.Rules.{value_sum, range_sums, new_symbol, extended}
use Rattle.shadow_elim.specs.Sums.{total, rows_of_sums, row_sums}
use Rattle.shadow_elim.proofs.Summing.{hold-sums}
use Rattle.flow_graph.specs.Readings.{term_at, reading}
use Rattle.flow_graph.proofs.Frames.{frame_longer, step_any}
use Rattle.flow_graph.proofs.Numbers.{value_between, value_of_64}
use Rattle.must_region.proofs.Agreeing.{holds_split, holds_agree}
use Rattle.must_region.specs.Trails.{slots_at, end_place, GivesFrames, HasTerms, IsTrail, TakesStep}

-- Slots at an assignment
pub same_state : (s t : State) → ((x : ℕ) → s x ≡ t x) → s ≡ t
same_state s t h = λ i x. h x i

term_here : (terms : List LinearSum) (x : ℕ) (t : LinearSum) → x < length terms → term_at (slice_set terms x t) x ≡ t
term_here [] x t h = absurd (omega (arith, h))
term_here (u ∷ terms) zero t h = refl
term_here (u ∷ terms) (suc x) t h = term_here terms x t (omega (arith, h))

term_other : (terms : List LinearSum) (x y : ℕ) (t : LinearSum) → (y ≡ x → ⊥) → term_at (slice_set terms x t) y ≡ term_at terms y
term_other [] x y t h = refl
term_other (u ∷ terms) zero zero t h = absurd (h refl)
term_other (u ∷ terms) zero (suc y) t h = refl
term_other (u ∷ terms) (suc x) zero t h = refl
term_other (u ∷ terms) (suc x) (suc y) t h = term_other terms x y t (λ e. h (ap suc e))

slot_set : (v : Valuation) (terms : List LinearSum) (x : ℕ) (t : LinearSum) → x < length terms → (y : ℕ) → slots_at v (slice_set terms x t)
    y
    ≡ with_slot (slots_at v terms) x (value_of v t) y
slot_set v terms x t h y = by_test (y == x) refl where
  by_test : (b : Bool) → (y == x) ≡ b → slots_at v (slice_set terms x t) y ≡ cond (y == x) (value_of v t) (slots_at v terms y)
  by_test true e = rw e (ap (λ n. value_of v (term_at (slice_set terms x t) n)) (eqb-true y x e) ∙ ap (value_of v) (term_here terms x t h))
  by_test false e = rw e (ap (value_of v) (term_other terms x y t (eqb-false y x e)))

pub slots_set : (v : Valuation) (terms : List LinearSum) (x : ℕ) (t : LinearSum) → x < length terms → slots_at v (slice_set terms x t)
    ≡ with_slot (slots_at v terms) x (value_of v t)
slots_set v terms x t h = same_state (slots_at v (slice_set terms x t)) (with_slot (slots_at v terms) x (value_of v t))
    (slot_set v terms x t h)

-- what a return gives
pub values_returned : (v : Valuation) (terms : List LinearSum) (slots : List ℕ) → values_of v (map (term_at terms) slots)
    ≡ map (slots_at v terms) slots
values_returned v terms [] = refl
values_returned v terms (x ∷ xs) = ap (λ zs. slots_at v terms x ∷ zs) (values_returned v terms xs)

pub length_returned : (terms : List LinearSum) (slots : List ℕ) → length (map (term_at terms) slots) ≡ length slots
length_returned terms [] = refl
length_returned terms (x ∷ xs) = ap suc (length_returned terms xs)

-- the value of an assignment
parts_value : (v : Valuation) (slots : List LinearSum) (parts : List (ℤ × ℕ)) (c : ℤ) →
    combination_value v (map (λ p. (p.0, term_at slots p.1)) parts) c ≡ value_of_slots (slots_at v slots) parts +ℤ c
parts_value v slots [] c = omega (arith, ints)
parts_value v slots (p ∷ parts) c = omega (arith, ints, parts_value v slots parts c)

pub value_assigned : (v : Valuation) (slots : List LinearSum) (value : Lin) → value_of v (total (value_sum slots value))
    ≡ lin_value (slots_at v slots) value
value_assigned v slots value =
    value-combination v (map (λ p. (p.0, term_at slots p.1)) value.parts) value.constant ∙ parts_value v slots value.parts value.constant

-- the two rows of a sum's range
pub in_range : (v : Valuation) (t : LinearSum) → HoldsAll v (rows_of_sums (range_sums t)) → IsTrue (is_value (value_of v t))
in_range v t h =
    let u = value-combination v ((pos 1, t) ∷ []) (negsuc 9223372036854775806) in
    let l = value-combination v ((negsuc 0, t) ∷ []) (negsuc 9223372036854775807) in
    value_between (value_of v t) (omega (arith, ints, l, h.1.0)) (omega (arith, ints, u, h.0))

-- Rows that are read
pub slot_read : (v : Valuation) (slots entry : List LinearSum) (x : ℕ) → x < first_entry → value_of v (reading slots entry x)
    ≡ slots_at v slots x
slot_read v slots entry x h = rw (lt-ltb x first_entry h) refl

pub rows_hold_at : (count : ℕ) → count ≤ max_slots → (v : Valuation) (slots entry : List LinearSum) (atoms : List Atom) →
    IsTrue (list_all (names_slots count) atoms) → HoldsAll v (rows_of_sums (row_sums (reading slots entry) atoms)) →
    HoldsAll (slots_at v slots) atoms
rows_hold_at count few v slots entry atoms names h =
    holds_agree (λ x. nat_lt x count) (replaced_valuation (reading slots entry) v) (slots_at v slots) atoms
    (λ x lt. slot_read v slots entry x (omega (arith, few, ltb-true x count lt))) names (hold-sums v (reading slots entry) atoms h)

-- The places of a trail
pub inner_place : (exit : ℕ) (v : Valuation) (node : ℕ) (slots : List LinearSum) (failed : Option ℕ) → failed ≡ None → node ≢ exit →
    end_place exit v node slots failed ≡ inside node (slots_at v slots)
inner_place exit v node slots (Some id) f h = absurd cc
inner_place exit v node slots None f h = rw (ne_eqb node exit h) refl

pub exit_place : (exit : ℕ) (v : Valuation) (node : ℕ) (slots : List LinearSum) (failed : Option ℕ) → failed ≡ None → node ≡ exit →
    end_place exit v node slots failed ≡ left (values_of v slots)
exit_place exit v node slots (Some id) f h = absurd cc
exit_place exit v node slots None f h = rw (eq-eqb node exit h) refl

-- a trail has a term for each slot
pub trail_terms : (gs : List Graph) (g : Graph) (t : Trace) → IsTrail gs g t → HasTerms g t
trail_terms gs g t h = record { many = h.many; unfailed = h.unfailed }

module _ (g : Graph) (ok : IsGraph g.nodes g.exit g.fail g.params g.exits g.slots g.edges) (t : Trace) (kept : HasTerms g t) (i : ℕ) where
  -- an edge that leaves the node of the trail
  module _ (e : Edge) (at : slice_get g.edges i ≡ Some e) (src : source e ≡ Some t.node) where
    pub leave : (t.node < g.nodes) × (t.node ≢ g.exit) × (t.node ≢ g.fail)
    leave = (ok.are_edges i e at).leaves t.node src

    -- the place after an edge to an inner node
    pub behind : (v : Valuation) (to : ℕ) (slots : List LinearSum) → is_return e ≡ false → target e ≡ to →
        end_place g.exit v to slots t.failed ≡ inside to (slots_at v slots)
    behind v to slots r tgt = inner_place g.exit v to slots t.failed (kept.unfailed leave.2)
        (λ h. eqb-false (target e) g.exit (sym (ok.are_edges i e at).to_exit ∙ r) (tgt ∙ h))

    -- a slot of the graph has a term
    pub slot_here : (slot : ℕ) → IsTrue (nat_lt slot g.slots) → slot < length t.slots
    slot_here slot h = omega (arith, ltb-true slot g.slots h, kept.many leave.1)

  symbol_good : (v : Valuation) → Is64 v → IsTrue (is_value (value_of v (new_symbol t.symbols)))
  symbol_good v v64 = subst (λ z. IsTrue (is_value z)) (sym (value-column v (first_symbol + t.symbols)))
      (value_of_64 (v (first_symbol + t.symbols)) (v64 (first_symbol + t.symbols)))

  -- What meets the guard after an edge steps over it

  pub takes_step : (e : Edge) → slice_get g.edges i ≡ Some e → source e ≡ Some t.node → is_call e ≡ false → TakesStep g t e (extended t e)
  takes_step (Entry to params) at src plain v v64 h = absurd (none-some t.node src)
  takes_step (Assign from to slot value) at src plain v v64 h =
      let e : Edge = Assign from to slot value in
      let sum : LinearSum = total (value_sum t.slots value) in
      let hs = holds_split v t.guard.atoms (rows_of_sums (range_sums sum)) h in
      let named = both (nat_lt slot g.slots) (is_lin g.slots value) (ok.are_edges i e at).slots_named in
      let good : IsTrue (is_value (lin_value (slots_at v t.slots) value)) = subst (λ z. IsTrue (is_value z))
      (value_assigned v t.slots value)
      (in_range v sum hs.1) in
      let new : slots_at v (slice_set t.slots slot sum) ≡ with_slot (slots_at v t.slots) slot (lin_value (slots_at v t.slots) value) =
      slots_set v t.slots slot sum (slot_here e at src slot named.0) ∙ ap (with_slot (slots_at v t.slots) slot)
      (value_assigned v t.slots value) in
      let place = behind e at src v to (slice_set t.slots slot sum) refl refl ∙ ap (inside to) new in
      (hs.0, ([], sym (append-nil (values_of v t.inputs)), λ more. (good, place, refl)))
  takes_step (Guard from to rows) at src plain v v64 h =
      let e : Edge = Guard from to rows in
      let hs = holds_split v t.guard.atoms (rows_of_sums (row_sums (reading t.slots t.entry) rows.atoms)) h in
      let meets = rows_hold_at g.slots ok.few_slots v t.slots t.entry rows.atoms (ok.are_edges i e at).slots_named hs.1 in
      let place = behind e at src v to t.slots refl refl in
      (hs.0, ([], sym (append-nil (values_of v t.inputs)), λ more. (meets, place, refl)))
  takes_step (Input from to slot) at src plain v v64 h =
      let e : Edge = Input from to slot in
      let symbol : LinearSum = new_symbol t.symbols in
      let hs = holds_split v t.guard.atoms [] h in
      let here = slot_here e at src slot (ok.are_edges i e at).slots_named in
      let place = behind e at src v to (slice_set t.slots slot symbol) refl refl ∙ ap (inside to)
      (slots_set v t.slots slot symbol here) in (
        hs.0,
        (
          value_of v symbol ∷ [],
          map-append (value_of v) t.inputs (symbol ∷ []),
          λ more. (value_of v symbol, symbol_good v v64, refl, place),
        ),
      )
  takes_step (Pick from to slot rows) at src plain v v64 h =
      let e : Edge = Pick from to slot rows in
      let symbol : LinearSum = new_symbol t.symbols in
      let new : List LinearSum = slice_set t.slots slot symbol in
      let hs = holds_split v t.guard.atoms (rows_of_sums (row_sums (reading new t.entry) rows.atoms)) h in
      let named = both (nat_lt slot g.slots) (list_all (names_slots g.slots) rows.atoms) (ok.are_edges i e at).slots_named in
      let same : slots_at v new ≡ with_slot (slots_at v t.slots) slot (value_of v symbol) =
      slots_set v t.slots slot symbol (slot_here e at src slot named.0) in
      let meets : HoldsAll (with_slot (slots_at v t.slots) slot (value_of v symbol)) rows.atoms = subst
      (λ (s : State). HoldsAll s rows.atoms)
      same (rows_hold_at g.slots ok.few_slots v new t.entry rows.atoms named.1 hs.1) in
      let place = behind e at src v to new refl refl ∙ ap (inside to) same in
      (hs.0, ([], sym (append-nil (values_of v t.inputs)), λ more. (value_of v symbol, symbol_good v v64, meets, place, refl)))
  takes_step (Call from to proc args results) at src plain v v64 h = absurd (let clash : true ≡ false = plain in cc)
  takes_step (Assert from to id rows) at src plain v v64 h =
      let e : Edge = Assert from to id rows in
      let hs = holds_split v t.guard.atoms (rows_of_sums (row_sums (reading t.slots t.entry) rows.atoms)) h in
      let meets = rows_hold_at g.slots ok.few_slots v t.slots t.entry rows.atoms (ok.are_edges i e at).slots_named hs.1 in
      (hs.0, ([], sym (append-nil (values_of v t.inputs)), λ more. (meets, refl, refl)))
  takes_step (Return from to slots) at src plain v v64 h =
      let e : Edge = Return from to slots in
      let hs = holds_split v t.guard.atoms [] h in
      let exit : to ≡ g.exit = eqb-true to g.exit (sym (ok.are_edges i e at).to_exit) in
      let none : t.failed ≡ None = kept.unfailed (leave e at src).2 in
      let terms = map (term_at t.slots) slots in
      let place : end_place g.exit v to terms t.failed ≡ left (map (slots_at v t.slots) slots) = exit_place g.exit v to terms t.failed none
      exit ∙ ap left (values_returned v t.slots slots) in
      (hs.0, ([], sym (append-nil (values_of v t.inputs)), λ more. (place, refl)))

-- One more edge makes a longer frame
module _ (gs : List Graph) (g : Graph) (ok : IsGraph g.nodes g.exit g.fail g.params g.exits g.slots g.edges) (t : Trace)
    (kept : HasTerms g t)
    (gives : GivesFrames gs g t) (i : ℕ) (e : Edge) (at : slice_get g.edges i ≡ Some e) (src : source e ≡ Some t.node)
    (plain : is_call e ≡ false)
  where
    gives_frames : GivesFrames gs g (extended t e)
    gives_frames v v64 h =
        let new : Trace = extended t e in
        let step = takes_step g ok t kept i e at src plain v v64 h in
        let used : List ℤ = step.1.0 in
        let b : Place = end_place g.exit v new.node new.slots new.failed in
        let first : Place = inside (first_node g.edges) (entered (values_of v t.entry)) in
        let here : Place = inside t.node (slots_at v t.slots) in
        let apart = leave g ok t kept i e at src in
        let f = gives v v64 step.0 in
        let from : end_place g.exit v t.node t.slots t.failed ≡ here = inner_place g.exit v t.node t.slots t.failed (kept.unfailed apart.2)
        apart.1 in
        let C : Called = GraphRun gs f.0 in (
          f.0,
          suc f.1,
          λ more. frame_longer C g.edges f.1 first here b (values_of v new.inputs ++ more) (used ++ more) more
              (subst (λ l. Frame C g.edges f.1 first l here (used ++ more)) (sym (append_assoc (values_of v t.inputs) used more)
              ∙ ap (λ l. l ++ more) (sym step.1.1))
              (subst (λ p. Frame C g.edges f.1 first (values_of v t.inputs ++ (used ++ more)) p (used ++ more)) from
              (f.2 (used ++ more)))) (
                i,
                e,
                at,
                src,
                step_any (GraphRun [] 0) C e plain (slots_at v t.slots) (used ++ more) more b (step.1.2 more),
              ),
        )

-- Each edge that is no call
length_put : (terms : List LinearSum) (x : ℕ) (t : LinearSum) → length (slice_set terms x t) ≡ length terms
length_put terms x t = length-set terms x t

pub extended_trail : (gs : List Graph) (g : Graph) → IsGraph g.nodes g.exit g.fail g.params g.exits g.slots g.edges → (t : Trace) →
    IsTrail gs g t →
    (i : ℕ) (e : Edge) → slice_get g.edges i ≡ Some e → source e ≡ Some t.node → is_call e ≡ false → IsTrail gs g (extended t e)
extended_trail gs g ok t h i e at src plain = by_edge e at src plain where
  frames : (e : Edge) → slice_get g.edges i ≡ Some e → source e ≡ Some t.node → is_call e ≡ false → GivesFrames gs g (extended t e)
  frames e at src plain = gives_frames gs g ok t (trail_terms gs g t h) h.gives i e at src plain

  inner : (e : Edge) → slice_get g.edges i ≡ Some e → source e ≡ Some t.node → (t.node ≢ g.exit) × (t.node ≢ g.fail)
  inner e at src = let l = (ok.are_edges i e at).leaves t.node src in (l.1, l.2)

  other : (e : Edge) → slice_get g.edges i ≡ Some e → is_return e ≡ false → is_assert e ≡ false → (target e ≢ g.exit) × (target e ≢ g.fail)
  other e at r a = (
    eqb-false (target e) g.exit (sym (ok.are_edges i e at).to_exit ∙ r),
    eqb-false (target e) g.fail
        (sym (ok.are_edges i e at).to_fail ∙ a),
  )

  by_edge : (e : Edge) → slice_get g.edges i ≡ Some e → source e ≡ Some t.node → is_call e ≡ false → IsTrail gs g (extended t e)
  by_edge (Entry to params) at src plain = absurd (none-some t.node src)
  by_edge (Assign from to slot value) at src plain =
      let o = other (Assign from to slot value) at refl refl in
      let n = inner (Assign from to slot value) at src in
      record {
        gives = frames (Assign from to slot value) at src plain;
        many = λ _. length_put t.slots slot (total (value_sum t.slots value)) ∙ h.many n.0;
        returned = λ x. absurd (o.0 x);
        unfailed = λ _. h.unfailed n.1;
        is_failed = λ x. absurd (o.1 x);
        entry = h.entry;
      }
  by_edge (Guard from to rows) at src plain =
      let o = other (Guard from to rows) at refl refl in
      let n = inner (Guard from to rows) at src in
      record {
        gives = frames (Guard from to rows) at src plain;
        many = λ _. h.many n.0;
        returned = λ x. absurd (o.0 x);
        unfailed = λ _. h.unfailed n.1;
        is_failed = λ x. absurd (o.1 x);
        entry = h.entry;
      }
  by_edge (Input from to slot) at src plain =
      let o = other (Input from to slot) at refl refl in
      let n = inner (Input from to slot) at src in
      record {
        gives = frames (Input from to slot) at src plain;
        many = λ _. length_put t.slots slot (new_symbol t.symbols) ∙ h.many n.0;
        returned = λ x. absurd (o.0 x);
        unfailed = λ _. h.unfailed n.1;
        is_failed = λ x. absurd (o.1 x);
        entry = h.entry;
      }
  by_edge (Pick from to slot rows) at src plain =
      let o = other (Pick from to slot rows) at refl refl in
      let n = inner (Pick from to slot rows) at src in
      record {
        gives = frames (Pick from to slot rows) at src plain;
        many = λ _. length_put t.slots slot (new_symbol t.symbols) ∙ h.many n.0;
        returned = λ x. absurd (o.0 x);
        unfailed = λ _. h.unfailed n.1;
        is_failed = λ x. absurd (o.1 x);
        entry = h.entry;
      }
  by_edge (Call from to proc args results) at src plain = absurd (clash plain) where
    clash : true ≡ false → ⊥
    clash x = cc
  by_edge (Assert from to id rows) at src plain =
      let n = inner (Assert from to id rows) at src in
      let fail : to ≡ g.fail = eqb-true to g.fail (sym (ok.are_edges i (Assert from to id rows) at).to_fail) in
      record {
        gives = frames (Assert from to id rows) at src plain;
        many = λ _. h.many n.0;
        returned = λ x. absurd (ok.two_ends (sym x ∙ fail));
        unfailed = λ x. absurd (x fail);
        is_failed = λ _. (id, refl);
        entry = h.entry;
      }
  by_edge (Return from to slots) at src plain =
      let n = inner (Return from to slots) at src in
      let edge = ok.are_edges i (Return from to slots) at in
      let exit : to ≡ g.exit = eqb-true to g.exit (sym edge.to_exit) in
      record {
        gives = frames (Return from to slots) at src plain;
        many = λ x. absurd (x exit);
        returned = λ _. length_returned t.slots slots ∙ eqb-true (length slots) g.exits edge.lists;
        unfailed = λ _. h.unfailed n.1;
        is_failed = λ x. absurd (ok.two_ends (sym exit ∙ x));
        entry = h.entry;
      }
