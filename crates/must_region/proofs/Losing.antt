-- Extending loses no step.
use Rattle.std.proofs.Common.{◌≡◌, ℕ, ◌+◌, ◌≤◌, List, [], ◌∷◌, ◌++◌, map, Some, None, Bool, true, false, ◌==◌, nat_lt, nat_le, ℤ, pos, negsuc, arith, refl, sym, subst, ap, ◌∙◌, append-nil}
use Rattle.std.specs.Prelude.{slice_get, slice_set, IsTrue, if◌then◌else◌}
use Rattle.std.specs.List.{list_all}
use Rattle.std.proofs.lemmas.List.{map-append}
use Rattle.std.proofs.lemmas.Int.{ints}
use Rattle.std.proofs.lemmas.Option.{same_Some, none-some}
use borrow.Author.Tests.{eqb-true, eq-eqb, ne_eqb, ltb-true}
use Rattle.c_tree.specs.Meaning.{State, with_slot, is_value}
use Rattle.linear_formula.specs.LinearSum.{LinearSum, Valuation, Is64, is64, value_of}
use Rattle.linear_formula.specs.Results.{valuation_with}
use Rattle.linear_formula.specs.Formula.{HoldsAll}
use Rattle.linear_formula.specs.Replaced.{replaced_valuation}
use Rattle.linear_formula.specs.declared.formula.Atom.{Atom}
use Rattle.linear_formula.specs.declared.formula.Cube.{Cube}
use Rattle.linear_formula.proofs.Values.{value-combination}
use Rattle.linear_formula.proofs.Replacing.{value-column}
use Rattle.linear_formula.proofs.Limits.{both}
use Rattle.flow_graph.specs.declared.graph.Lin.{Lin}
use Rattle.flow_graph.specs.declared.graph.Graph.{Graph}
use Rattle.flow_graph.specs.declared.graph.Edge.{Edge}
use Rattle.flow_graph.specs.declared.graph.Edge.TheVariants.{Entry, Assign, Guard, Input, Pick, Call, Assert, Return}
use Rattle.flow_graph.specs.Shapes.{source, is_call}
use Rattle.flow_graph.specs.WellFormed.{IsGraph, is_lin, names_slots, max_slots}
use Rattle.flow_graph.specs.Runs.{inside, left, lin_value}
use Rattle.flow_graph.specs.Columns.{rows_name_only, first_symbol}
use Rattle.summary_form.specs.Musts.{values_of}
use Rattle.summary_form.specs.Symbols.{is_symbol_column, all_name_only}
use Rattle.must_region.specs.Traces.{Trace, TraceNamesOwn}
use Rattle.must_region.specs.Rules.{value_sum, range_sums, new_symbol, extended}
use Rattle.shadow_elim.specs.Sums.{total, rows_of_sums, row_sums}
use Rattle.shadow_elim.proofs.Summing.{sums-hold}
use Rattle.flow_graph.specs.Readings.{term_at, reading}
use Rattle.flow_graph.proofs.Numbers.{value_bounds, value_64}
use Rattle.must_region.proofs.Agreeing.{Agree, holds_agree, holds_append, values_agree, slots_agree}
use Rattle.must_region.specs.Trails.{slots_at, HasTerms, LosesNoStep}
use Rattle.must_region.proofs.Extending.{leave, behind, slot_here, slots_set, values_returned, value_assigned, slot_read, exit_place}

-- Rows that hold
range_holds : (v : Valuation) (t : LinearSum) → IsTrue (is_value (value_of v t)) → HoldsAll v (rows_of_sums (range_sums t))
range_holds v t h =
    let b = value_bounds (value_of v t) h in
    let u = value-combination v ((pos 1, t) ∷ []) (negsuc 9223372036854775806) in
    let l = value-combination v ((negsuc 0, t) ∷ []) (negsuc 9223372036854775807) in
    (omega (arith, ints, u, b.1), (omega (arith, ints, l, b.0), tt))

rows_read : (count : ℕ) → count ≤ max_slots → (v : Valuation) (slots entry : List LinearSum) (atoms : List Atom) →
    IsTrue (list_all (names_slots count) atoms) → HoldsAll (slots_at v slots) atoms →
    HoldsAll v (rows_of_sums (row_sums (reading slots entry) atoms))
rows_read count few v slots entry atoms names h =
    sums-hold v (reading slots entry) atoms (holds_agree (λ x. nat_lt x count) (slots_at v slots)
    (replaced_valuation (reading slots entry) v)
    atoms (λ x lt. sym (slot_read v slots entry x (omega (arith, few, ltb-true x count lt)))) names h)

-- A value for one more symbol
abbrev one_more : (symbols : ℕ) → Valuation → ℤ → Valuation
one_more symbols v z = valuation_with v (first_symbol + symbols) z

module _ (symbols : ℕ) (v : Valuation) (z : ℤ) where
  new_at : one_more symbols v z (first_symbol + symbols) ≡ z
  new_at = rw (eq-eqb (first_symbol + symbols) (first_symbol + symbols) refl) refl

  old_at : Agree (is_symbol_column symbols) v (one_more symbols v z)
  old_at x h =
      let hs = both (nat_le first_symbol x) (nat_lt x (first_symbol + symbols)) h in
      let lt = ltb-true x (first_symbol + symbols) hs.1 in
      let apart : ((first_symbol + symbols) == x) ≡ false = ne_eqb (first_symbol + symbols) x (λ e. omega (arith, lt, e)) in
      rw apart refl

  terms_old : (ts : List LinearSum) → IsTrue (all_name_only (is_symbol_column symbols) ts) → values_of (one_more symbols v z) ts
      ≡ values_of v ts
  terms_old ts n = sym (values_agree (is_symbol_column symbols) v (one_more symbols v z) ts old_at n)

  slots_old : (ts : List LinearSum) → IsTrue (all_name_only (is_symbol_column symbols) ts) → slots_at (one_more symbols v z) ts
      ≡ slots_at v ts
  slots_old ts n = sym (slots_agree (is_symbol_column symbols) v (one_more symbols v z) ts old_at n)

  guard_old : (atoms : List Atom) → IsTrue (rows_name_only (is_symbol_column symbols) atoms) → HoldsAll v atoms →
      HoldsAll (one_more symbols v z) atoms
  guard_old atoms n h = holds_agree (is_symbol_column symbols) v (one_more symbols v z) atoms old_at n h

  more_64 : Is64 v → IsTrue (is64 z) → Is64 (one_more symbols v z)
  more_64 h k x = by_test ((first_symbol + symbols) == x) where
    by_test : (b : Bool) → IsTrue (is64 (if b then z else v x))
    by_test true = k
    by_test false = h x

-- Edge by edge
module _ (g : Graph) (ok : IsGraph g.nodes g.exit g.fail g.params g.exits g.slots g.edges) (t : Trace) (kept : HasTerms g t)
    (names : TraceNamesOwn t) (i : ℕ) where
  no_inputs : (v : Valuation) (ins rest : List ℤ) → rest ≡ ins → (used : List ℤ) × (ins ≡ used ++ rest)
      × (values_of v t.inputs ≡ values_of v t.inputs ++ used)
  no_inputs v ins rest e = ([], sym e, sym (append-nil (values_of v t.inputs)))

  pub loses_assign : (from to slot : ℕ) (value : Lin) → slice_get g.edges i ≡ Some (Assign from to slot value) → from ≡ t.node →
      LosesNoStep g t (Assign from to slot value) (extended t (Assign from to slot value))
  loses_assign from to slot value at src v v64 m ins rest b st =
      let e : Edge = Assign from to slot value in
      let sum : LinearSum = total (value_sum t.slots value) in
      let src' : source e ≡ Some t.node = ap Some src in
      let named = both (nat_lt slot g.slots) (is_lin g.slots value) (ok.are_edges i e at).slots_named in
      let here = slot_here g ok t kept i e at src' slot named.0 in
      let good : IsTrue (is_value (value_of v sum)) = subst (λ z. IsTrue (is_value z)) (sym (value_assigned v t.slots value)) st.0 in
      let new : slots_at v (slice_set t.slots slot sum) ≡ with_slot (slots_at v t.slots) slot (lin_value (slots_at v t.slots) value) =
      slots_set v t.slots slot sum here ∙ ap (with_slot (slots_at v t.slots) slot) (value_assigned v t.slots value) in
      let place = behind g ok t kept i e at src' v to (slice_set t.slots slot sum) refl refl ∙ ap (inside to) new in (
        v,
        v64,
        (λ x _. refl),
        holds_append v t.guard.atoms (rows_of_sums (range_sums sum)) m (range_holds v sum good),
        place ∙ sym st.1,
        no_inputs v ins rest st.2,
      )

  pub loses_guard : (from to : ℕ) (rows : Cube) → slice_get g.edges i ≡ Some (Guard from to rows) → from ≡ t.node →
      LosesNoStep g t (Guard from to rows) (extended t (Guard from to rows))
  loses_guard from to rows at src v v64 m ins rest b st =
      let e : Edge = Guard from to rows in
      let src' : source e ≡ Some t.node = ap Some src in
      let place = behind g ok t kept i e at src' v to t.slots refl refl in (
        v,
        v64,
        (λ x _. refl),
        holds_append v t.guard.atoms (rows_of_sums (row_sums (reading t.slots t.entry) rows.atoms)) m
            (rows_read g.slots ok.few_slots v t.slots t.entry rows.atoms (ok.are_edges i e at).slots_named st.0),
        place ∙ sym st.1,
        no_inputs v ins rest st.2,
      )

  pub loses_assert : (from to id : ℕ) (rows : Cube) → slice_get g.edges i ≡ Some (Assert from to id rows) → from ≡ t.node →
      LosesNoStep g t (Assert from to id rows) (extended t (Assert from to id rows))
  loses_assert from to id rows at src v v64 m ins rest b st =
      let e : Edge = Assert from to id rows in (
        v,
        v64,
        (λ x _. refl),
        holds_append v t.guard.atoms (rows_of_sums (row_sums (reading t.slots t.entry) rows.atoms)) m
            (rows_read g.slots ok.few_slots v t.slots t.entry rows.atoms (ok.are_edges i e at).slots_named st.0),
        sym st.1,
        no_inputs v ins rest st.2,
      )

  pub loses_return : (from to : ℕ) (slots : List ℕ) → slice_get g.edges i ≡ Some (Return from to slots) → from ≡ t.node →
      LosesNoStep g t (Return from to slots) (extended t (Return from to slots))
  loses_return from to slots at src v v64 m ins rest b st =
      let e : Edge = Return from to slots in
      let src' : source e ≡ Some t.node = ap Some src in
      let exit : to ≡ g.exit = eqb-true to g.exit (sym (ok.are_edges i e at).to_exit) in
      let none : t.failed ≡ None = kept.unfailed (leave g ok t kept i e at src').2 in
      let place = exit_place g.exit v to (map (term_at t.slots) slots) t.failed none exit ∙ ap left (values_returned v t.slots slots) in
      (v, v64, (λ x _. refl), holds_append v t.guard.atoms [] m tt, place ∙ sym st.0, no_inputs v ins rest st.1)

  pub loses_input : (from to slot : ℕ) → slice_get g.edges i ≡ Some (Input from to slot) → from ≡ t.node →
      LosesNoStep g t (Input from to slot) (extended t (Input from to slot))
  loses_input from to slot at src v v64 m ins rest b st =
      let e : Edge = Input from to slot in
      let z : ℤ = st.0 in
      let w : Valuation = one_more t.symbols v z in
      let symbol : LinearSum = new_symbol t.symbols in
      let src' : source e ≡ Some t.node = ap Some src in
      let here = slot_here g ok t kept i e at src' slot (ok.are_edges i e at).slots_named in
      let value : value_of w symbol ≡ z = value-column w (first_symbol + t.symbols) ∙ new_at t.symbols v z in
      let new : slots_at w (slice_set t.slots slot symbol) ≡ with_slot (slots_at v t.slots) slot z = slots_set w t.slots slot symbol here
      ∙ ap (λ (s : State). with_slot s slot (value_of w symbol)) (slots_old t.symbols v z t.slots names.slot_names)
      ∙ ap (with_slot (slots_at v t.slots) slot) value in
      let place = behind g ok t kept i e at src' w to (slice_set t.slots slot symbol) refl refl ∙ ap (inside to) new in
      let inputs : values_of w (t.inputs ++ symbol ∷ []) ≡ values_of v t.inputs ++ z ∷ [] = map-append (value_of w) t.inputs (symbol ∷ [])
      ∙ ap (λ l. l ++ value_of w symbol ∷ []) (terms_old t.symbols v z t.inputs names.input_names)
      ∙ ap (λ y. values_of v t.inputs ++ y ∷ [])
      value in (
        w,
        more_64 t.symbols v z v64 (value_64 z st.1),
        (λ x k. sym (old_at t.symbols v z x k)),
        holds_append w t.guard.atoms []
            (guard_old t.symbols v z t.guard.atoms names.guard_names m) tt,
        place ∙ sym st.3,
        (z ∷ [], st.2, inputs),
      )

  pub loses_pick : (from to slot : ℕ) (rows : Cube) → slice_get g.edges i ≡ Some (Pick from to slot rows) → from ≡ t.node →
      LosesNoStep g t (Pick from to slot rows) (extended t (Pick from to slot rows))
  loses_pick from to slot rows at src v v64 m ins rest b st =
      let e : Edge = Pick from to slot rows in
      let z : ℤ = st.0 in
      let w : Valuation = one_more t.symbols v z in
      let symbol : LinearSum = new_symbol t.symbols in
      let terms : List LinearSum = slice_set t.slots slot symbol in
      let src' : source e ≡ Some t.node = ap Some src in
      let named = both (nat_lt slot g.slots) (list_all (names_slots g.slots) rows.atoms) (ok.are_edges i e at).slots_named in
      let here = slot_here g ok t kept i e at src' slot named.0 in
      let value : value_of w symbol ≡ z = value-column w (first_symbol + t.symbols) ∙ new_at t.symbols v z in
      let new : slots_at w terms ≡ with_slot (slots_at v t.slots) slot z = slots_set w t.slots slot symbol here
      ∙ ap (λ (s : State). with_slot s slot (value_of w symbol)) (slots_old t.symbols v z t.slots names.slot_names)
      ∙ ap (with_slot (slots_at v t.slots) slot) value in
      let place = behind g ok t kept i e at src' w to terms refl refl ∙ ap (inside to) new in
      let meets : HoldsAll (slots_at w terms) rows.atoms = subst (λ (s : State). HoldsAll s rows.atoms) (sym new) st.2 in
      let read = rows_read g.slots ok.few_slots w terms t.entry rows.atoms named.1 meets in
      let inputs : values_of w t.inputs ≡ values_of v t.inputs ++ [] = terms_old t.symbols v z t.inputs names.input_names
      ∙ sym (append-nil (values_of v t.inputs)) in (
        w,
        more_64 t.symbols v z v64 (value_64 z st.1),
        (λ x k. sym (old_at t.symbols v z x k)),
        holds_append w t.guard.atoms
            (rows_of_sums (row_sums (reading terms t.entry) rows.atoms)) (guard_old t.symbols v z t.guard.atoms names.guard_names m) read,
        place ∙ sym st.3,
        ([], sym st.4, inputs),
      )

  pub loses_none : (e : Edge) → slice_get g.edges i ≡ Some e → source e ≡ Some t.node → is_call e ≡ false → LosesNoStep g t e (extended t e)
  loses_none (Entry to params) at src plain = absurd (none-some t.node src)
  loses_none (Assign from to slot value) at src plain = loses_assign from to slot value at (same_Some from t.node src)
  loses_none (Guard from to rows) at src plain = loses_guard from to rows at (same_Some from t.node src)
  loses_none (Input from to slot) at src plain = loses_input from to slot at (same_Some from t.node src)
  loses_none (Pick from to slot rows) at src plain = loses_pick from to slot rows at (same_Some from t.node src)
  loses_none (Call from to proc args slot) at src plain = absurd (let clash : true ≡ false = plain in cc)
  loses_none (Assert from to id rows) at src plain = loses_assert from to id rows at (same_Some from t.node src)
  loses_none (Return from to slots) at src plain = loses_return from to slots at (same_Some from t.node src)
