-- No point of a trail is lost over an edge whose preimage is exact.
use Rattle.std.proofs.Common.{◌≡◌, ◌≢◌, ℕ, zero, suc, ◌+◌, ◌-◌, ◌<◌, ◌≤◌, ◌==◌, Bool, true, false, ◌||◌, ◌&&◌, nat_lt, nat_le, List, [], ◌∷◌, ◌++◌, Option, Some, None, ℤ, pos, arith, refl, sym, subst, ap, ◌∙◌}
use Rattle.std.specs.Prelude.{IsTrue}
use Rattle.std.proofs.lemmas.Option.{none-some}
use borrow.Author.Tests.{eqb-true, eqb-false, eq-eqb, ne_eqb, lt-ltb, le-ltb, ltb-true, leb-true}
use Rattle.c_tree.specs.Meaning.{State, entered}
use Rattle.linear_formula.specs.LinearSum.{LinearSum, Valuation, Is64, valuation, value_of}
use Rattle.linear_formula.specs.Formula.{HoldsAll}
use Rattle.linear_formula.specs.Replaced.{replaced_valuation}
use Rattle.linear_formula.specs.declared.formula.Atom.{Atom}
use Rattle.linear_formula.proofs.Limits.{both}
use Rattle.shadow_elim.specs.Projection.{gives}
use Rattle.shadow_elim.specs.Sums.{rows_of_sums, row_sums}
use Rattle.shadow_elim.proofs.Summing.{hold-sums, sums-hold}
use Rattle.flow_graph.specs.declared.graph.Graph.{Graph}
use Rattle.flow_graph.specs.declared.graph.Edge.{Edge}
use Rattle.flow_graph.specs.declared.graph.Edge.TheVariants.{Entry, Assign, Guard, Input, Pick, Call, Assert, Return}
use Rattle.flow_graph.specs.Columns.{AreValues, AreAllValues, columns_of, valuation_of, value_at, first_entry, first_exit, first_symbol, is_entry_column, is_value_column, rows_name_only}
use Rattle.flow_graph.specs.Laws.{HoldsValues}
use Rattle.flow_graph.specs.Linked.{AreGraphs}
use Rattle.flow_graph.specs.Readings.{term_at, reading}
use Rattle.flow_graph.specs.Regions.{GoesInto, LiesIn, MeetsBefore, is_region_column, place_columns}
use Rattle.flow_graph.specs.Runs.{Place, inside, Step, GraphRun}
use Rattle.flow_graph.specs.Shapes.{source, target, is_call, is_entry, is_return}
use Rattle.flow_graph.specs.WellFormed.{first_node}
use Rattle.flow_graph.proofs.Values.{frame_good, run_values}
use Rattle.weakest_pre.specs.Preimage.{preimage}
use Rattle.weakest_pre.proofs.Promising.{preimages-exact}
use Rattle.summary_form.specs.Musts.{values_of}
use Rattle.summary_form.specs.Symbols.{is_symbol_column}
use Rattle.may_partition.specs.declared.region.RegionEdge.{RegionEdge}
use Rattle.may_partition.proofs.Agreeing.{holds_agree}
use Rattle.may_partition.proofs.Pieces.{holds_append, holds_split}
use Rattle.must_region.specs.Rules.{extended}
use Rattle.must_region.specs.Traces.{Trace, TraceNamesOwn}
use Rattle.must_region.specs.Trails.{IsTrail, end_place, slots_at}
use Rattle.must_region.proofs.Agreeing.{values_agree}
use Rattle.must_region.proofs.Ending.{entry_values}
use Rattle.must_region.proofs.Extending.{inner_place, trail_terms}
use Rattle.must_region.proofs.Losing.{loses_none}
use Rattle.call_bridge.specs.Calls.{inner_column}
use Rattle.query_rules.specs.Rows.{Between, MarksWith, seen_at, started}
use Rattle.query_rules.specs.Steps.{Model}
use Rattle.query_rules.specs.Turns.{HasPoint, StandsAt}
use Rattle.query_rules.proofs.Finding.{entry_first, node_target}
use Rattle.query_rules.proofs.Marking.{seen_both, seen_split}
use Rattle.query_rules.proofs.Marked.{IsMarked}
use Rattle.query_rules.proofs.Reaching.{Good, edge_terms, fits_edge, pre_region}
use Rattle.query_rules.proofs.Turning.{stands_at_source}

-- What is read at the end of a trail
term_value : (v : Valuation) (terms : List LinearSum) (i : ℕ) → value_at (values_of v terms) i ≡ value_of v (term_at terms i)
term_value v [] i = refl
term_value v (t ∷ terms) zero = refl
term_value v (t ∷ terms) (suc i) = term_value v terms i

pub entry_read : (v : Valuation) (slots entry : List LinearSum) (count x : ℕ) → count ≤ first_entry → IsTrue (is_entry_column count x) →
    value_of v (reading slots entry x) ≡ value_at (values_of v entry) (x - first_entry)
entry_read v slots entry count x few h =
    let r = both (nat_le first_entry x) (nat_lt x (first_entry + count)) h in
    let low : first_entry ≤ x = leb-true first_entry x r.0 in
    let high : x < first_exit = omega (arith, few, ltb-true x (first_entry + count) r.1) in
    rw (le-ltb x first_entry low, lt-ltb x first_exit high) (sym (term_value v entry (x - first_entry)))

pub entry_stands : (s : State) (entry exit : List ℤ) (count x : ℕ) → count ≤ first_entry → IsTrue (is_entry_column count x) →
    columns_of s entry exit x ≡ value_at entry (x - first_entry)
entry_stands s entry exit count x few h =
    let r = both (nat_le first_entry x) (nat_lt x (first_entry + count)) h in
    let low : first_entry ≤ x = leb-true first_entry x r.0 in
    let high : x < first_exit = omega (arith, few, ltb-true x (first_entry + count) r.1) in
    rw (le-ltb x first_entry low, lt-ltb x first_exit high) refl

-- at an inner place
pub inner_read : (v : Valuation) (slots entry : List LinearSum) (x : ℕ) → IsTrue (inner_column x) →
    columns_of (slots_at v slots) (values_of v entry) [] x ≡ replaced_valuation (reading slots entry) v x
inner_read v slots entry x h = by_slot (nat_lt x first_entry) refl h where
  by_slot : (b : Bool) → nat_lt x first_entry ≡ b → IsTrue (b || is_entry_column first_entry x) →
      columns_of (slots_at v slots) (values_of v entry) [] x ≡ value_of v (reading slots entry x)
  by_slot true e l = rw e refl
  by_slot false e l =
      let few : first_entry ≤ first_entry = omega arith in
      entry_stands (slots_at v slots) (values_of v entry) [] first_entry x few l ∙ sym (entry_read v slots entry first_entry x few l)

-- after a return
pub value_read : (v : Valuation) (slots entry : List LinearSum) (x : ℕ) → IsTrue (is_value_column first_entry first_entry x) →
    valuation_of (values_of v entry) (values_of v slots) x ≡ replaced_valuation (reading slots entry) v x
value_read v slots entry x h = by_entry (is_entry_column first_entry x) refl h where
  by_entry : (b : Bool) → is_entry_column first_entry x ≡ b → IsTrue (b || (nat_le first_exit x && nat_lt x (first_exit + first_entry))) →
      valuation_of (values_of v entry) (values_of v slots) x ≡ value_of v (reading slots entry x)
  by_entry true e l =
      let few : first_entry ≤ first_entry = omega arith in
      entry_stands (λ y. pos 0) (values_of v entry) (values_of v slots) first_entry x few e
      ∙ sym (entry_read v slots entry first_entry x few e)
  by_entry false e l =
      let r = both (nat_le first_exit x) (nat_lt x (first_exit + first_entry)) l in
      let low : first_exit ≤ x = leb-true first_exit x r.0 in
      let high : x < first_symbol = omega (arith, ltb-true x (first_exit + first_entry) r.1) in
      let inner : first_entry ≤ x = omega (arith, low) in
      rw (le-ltb x first_entry inner, le-ltb x first_exit low, lt-ltb x first_symbol high) (term_value v slots (x - first_exit))

-- Places
pub inner_columns : (exit : ℕ) (entry : List ℤ) (v : Valuation) (node : ℕ) (slots : List LinearSum) (failed : Option ℕ) → node ≢ exit →
    place_columns entry (end_place exit v node slots failed) ≡ columns_of (slots_at v slots) entry []
inner_columns exit entry v node slots (Some id) n = refl
inner_columns exit entry v node slots None n = rw (ne_eqb node exit n) refl

left_columns : (exit : ℕ) (entry : List ℤ) (v : Valuation) (node : ℕ) (slots : List LinearSum) (failed : Option ℕ) → failed ≡ None →
    node ≡ exit →
    place_columns entry (end_place exit v node slots failed) ≡ valuation_of entry (values_of v slots)
left_columns exit entry v node slots (Some id) f n = absurd (none-some id (sym f))
left_columns exit entry v node slots None f n = rw (eq-eqb node exit n) refl

meets_before : (e : Edge) → is_entry e ≡ false → (rows : List Atom) (s : State) (entry : List ℤ) → HoldsAll (columns_of s entry []) rows →
    MeetsBefore e rows s entry
meets_before (Entry to params) n rows s entry h = absurd cc
meets_before (Assign from to slot value) n rows s entry h = h
meets_before (Guard from to more) n rows s entry h = h
meets_before (Input from to slot) n rows s entry h = h
meets_before (Pick from to slot more) n rows s entry h = h
meets_before (Call from to proc args results) n rows s entry h = h
meets_before (Assert from to id more) n rows s entry h = h
meets_before (Return from to slots) n rows s entry h = h

abbrev StepsInto : Edge → List Atom → State → List ℤ → Type 0
StepsInto e rows s entry = (ins rest : List ℤ) × (b : Place) × Step (GraphRun [] 0) e s ins b rest × LiesIn entry rows b

steps_into : (e : Edge) → is_entry e ≡ false → (rows : List Atom) (s : State) (entry : List ℤ) → GoesInto e rows s entry →
    StepsInto e rows s entry
steps_into (Entry to params) n rows s entry h = absurd cc
steps_into (Assign from to slot value) n rows s entry h = h
steps_into (Guard from to more) n rows s entry h = h
steps_into (Input from to slot) n rows s entry h = h
steps_into (Pick from to slot more) n rows s entry h = h
steps_into (Call from to proc args results) n rows s entry h = h
steps_into (Assert from to id more) n rows s entry h = h
steps_into (Return from to slots) n rows s entry h = h

no_return_named : (e : Edge) → is_return e ≡ false → (rows : List Atom) → IsTrue (rows_name_only (is_region_column e) rows) →
    IsTrue (rows_name_only inner_column rows)
no_return_named (Entry to params) n rows h = h
no_return_named (Assign from to slot value) n rows h = h
no_return_named (Guard from to more) n rows h = h
no_return_named (Input from to slot) n rows h = h
no_return_named (Pick from to slot more) n rows h = h
no_return_named (Call from to proc args results) n rows h = h
no_return_named (Assert from to id more) n rows h = h
no_return_named (Return from to slots) n rows h = absurd cc

return_named : (e : Edge) → is_return e ≡ true → (rows : List Atom) → IsTrue (rows_name_only (is_region_column e) rows) →
    IsTrue (rows_name_only (is_value_column first_entry first_entry) rows)
return_named (Entry to params) n rows h = absurd cc
return_named (Assign from to slot value) n rows h = absurd cc
return_named (Guard from to more) n rows h = absurd cc
return_named (Input from to slot) n rows h = absurd cc
return_named (Pick from to slot more) n rows h = absurd cc
return_named (Call from to proc args results) n rows h = absurd cc
return_named (Assert from to id more) n rows h = absurd cc
return_named (Return from to slots) n rows h = h

return_fails : (t : Trace) (e : Edge) → is_return e ≡ true → t.failed ≡ None → (extended t e).failed ≡ None
return_fails t (Entry to params) n h = absurd cc
return_fails t (Assign from to slot value) n h = absurd cc
return_fails t (Guard from to more) n h = absurd cc
return_fails t (Input from to slot) n h = absurd cc
return_fails t (Pick from to slot more) n h = absurd cc
return_fails t (Call from to proc args results) n h = absurd cc
return_fails t (Assert from to id more) n h = absurd cc
return_fails t (Return from to slots) n h = h

-- Crossings

-- a point of a trail that meets the atoms at its end: what is known there
pub record IsBefore (m : Model) (t : Trace) (pre : List Atom) (v : Valuation) : Type 0 where
  pub guard : HoldsAll v t.guard.atoms
  pub start : HoldsAll v (rows_of_sums (row_sums (reading t.slots t.entry) m.query.start.atoms))
  pub entry : AreAllValues (values_of v t.entry)
  pub values : AreValues (slots_at v t.slots)
  pub meets : HoldsAll (columns_of (slots_at v t.slots) (values_of v t.entry) []) pre

module _ (gs : List Graph) (linked : AreGraphs gs) (g : Graph) (m : Model) (h : IsMarked gs linked g m) where
  pub before : (n : ℕ) (t : Trace) (region : ℕ) → MarksWith m n t region → (t.node ≢ g.exit) × (t.node ≢ g.fail) → (pre : List Atom) →
      IsTrue (rows_name_only inner_column pre) → (v : Valuation) → Is64 v → HoldsAll v (seen_at m.query t pre) → IsBefore m t pre v
  before n t region w apart pre names v v64 met = record {
    guard = begun.0;
    start = begun.1;
    entry = entry;
    values = values;
    meets = holds_agree inner_column (replaced_valuation (reading t.slots t.entry) v)
        (columns_of (slots_at v t.slots) (values_of v t.entry) []) pre (λ x l. sym (inner_read v t.slots t.entry x l)) names
        (hold-sums v (reading t.slots t.entry) pre parts.1);
  } where
    is_trail : IsTrail gs g t
    is_trail = (h.marks.are_trails n t w.0).0

    parts : HoldsAll v (started m.query t) × HoldsAll v (rows_of_sums (row_sums (reading t.slots t.entry) pre))
    parts = holds_split v (started m.query t) (rows_of_sums (row_sums (reading t.slots t.entry) pre)) met

    begun : HoldsAll v t.guard.atoms × HoldsAll v (rows_of_sums (row_sums (reading t.slots t.entry) m.query.start.atoms))
    begun = holds_split v t.guard.atoms (rows_of_sums (row_sums (reading t.slots t.entry) m.query.start.atoms)) parts.0

    entry : AreAllValues (values_of v t.entry)
    entry = entry_values gs g t is_trail v v64

    values : AreValues (slots_at v t.slots)
    values =
        let f = is_trail.gives v v64 begun.0 in
        let place : end_place g.exit v t.node t.slots t.failed ≡ inside t.node (slots_at v t.slots) = inner_place g.exit v t.node t.slots
        t.failed (is_trail.unfailed apart.1) apart.0 in
        let there : HoldsValues (end_place g.exit v t.node t.slots t.failed) = frame_good (GraphRun gs f.0) (run_values gs f.0) g.edges
        f.1 (inside (first_node g.edges) (entered (values_of v t.entry))) (end_place g.exit v t.node t.slots t.failed)
        (values_of v t.inputs ++ []) [] entry (f.2 []) in
        subst HoldsValues place there

  -- the trail after it, at a point of the same entry values that meets its guard and enters the target
  pub comes_behind : (t new : Trace) (pre target : List Atom) (v u : Valuation) → IsBefore m t pre v → Is64 u →
      values_of u new.entry ≡ values_of v t.entry → HoldsAll u new.guard.atoms →
      HoldsAll (replaced_valuation (reading new.slots new.entry) u) target → HasPoint (seen_at m.query new target)
  comes_behind t new pre target v u b u64 same guard behind = (
    u,
    u64,
    holds_append u (started m.query new) (rows_of_sums (row_sums (reading new.slots new.entry) target))
        (holds_append u new.guard.atoms (rows_of_sums (row_sums (reading new.slots new.entry) m.query.start.atoms)) guard start)
        (sums-hold u (reading new.slots new.entry) target behind),
  )
    where
      few : g.params ≤ first_entry
      few = omega (arith, g.well_formed.params_in_slots, g.well_formed.few_slots)

      start : HoldsAll u (rows_of_sums (row_sums (reading new.slots new.entry) m.query.start.atoms))
      start = sums-hold u (reading new.slots new.entry) m.query.start.atoms
          (holds_agree (is_entry_column g.params) (replaced_valuation (reading t.slots t.entry) v)
          (replaced_valuation (reading new.slots new.entry) u) m.query.start.atoms
          (λ x l. entry_read v t.slots t.entry g.params x few l ∙ ap (λ vs. value_at vs (x - first_entry)) (sym same)
          ∙ sym (entry_read u new.slots new.entry g.params x few l))
          h.fits.start_names (hold-sums v (reading t.slots t.entry) m.query.start.atoms b.start))

  -- where no point of the trail meets the preimage at its end, there is an atom, and none meets it in a source
  pub parted_by_none : (k : RegionEdge) → ¬ (k.edge ≡ 0) → (w : StandsAt gs g m k) → (pre : List Atom) →
      (HasPoint (seen_at m.query w.trail pre) → ⊥) →
      (pre ≢ []) × ((source : List Atom) → ¬ HasPoint (seen_at m.query w.trail (source ++ pre)))
  parted_by_none k inside_edge w pre carried = (some, apart) where
    some : pre ≢ []
    some none =
        let r = seen_split m.query w.trail (valuation w.mark.point) w.between.source.cube.atoms (w.met inside_edge) in
        carried (
          valuation w.mark.point,
          w.values inside_edge,
          subst (λ atoms. HoldsAll (valuation w.mark.point) (seen_at m.query w.trail atoms))
              (sym none) (seen_both m.query w.trail (valuation w.mark.point) [] r.0 tt),
        )

    apart : (source : List Atom) → ¬ HasPoint (seen_at m.query w.trail (source ++ pre))
    apart source (v, v64, met) =
        let r = seen_split m.query w.trail v (source ++ pre) met in
        let rows = holds_split (replaced_valuation (reading w.trail.slots w.trail.entry) v) source pre r.1 in
        carried (v, v64, seen_both m.query w.trail v pre r.0 rows.1)

module _ (gs : List Graph) (linked : AreGraphs gs) (g : Graph) (m : Model) (h : IsMarked gs linked g m) (good : Good gs linked g m) where
  pub carries_point : (k : RegionEdge) → IsTrue (m.parted.live k) → ¬ (k.edge ≡ 0) → (b : Between g m k) → is_call b.edge ≡ false →
      (n : ℕ) (t : Trace) → MarksWith m n t k.from → TraceNamesOwn t → (pre : List Atom) →
      preimage b.edge b.target.cube.atoms ≡ gives pre None → HasPoint (seen_at m.query t pre) →
      HasPoint (seen_at m.query (extended t b.edge) b.target.cube.atoms)
  carries_point k live inside_edge b plain n t w names pre is (v, v64, met) =
      comes_behind gs linked g m h t new pre b.target.cube.atoms v step.0 at step.1 same_entry step.3 (by_return (is_return b.edge) refl)
    where
      new : Trace
      new = extended t b.edge

      is_trail : IsTrail gs g t
      is_trail = (h.marks.are_trails n t w.0).0

      src : source b.edge ≡ Some t.node
      src = stands_at_source gs linked g m h k live b inside_edge n t w

      no_entry : is_entry b.edge ≡ false
      no_entry = entry_first g g.well_formed k.edge b.edge b.at_edge inside_edge

      apart : (t.node ≢ g.exit) × (t.node ≢ g.fail)
      apart = let a = (g.well_formed.are_edges k.edge b.edge b.at_edge).leaves t.node src in (a.1, a.2)

      at : IsBefore m t pre v
      at = before gs linked g m h n t k.from w apart pre (pre_region gs linked g m good k live b plain t.node src pre (None, is)).names v
          v64
          met

      into : StepsInto b.edge b.target.cube.atoms (slots_at v t.slots) (values_of v t.entry)
      into = steps_into b.edge no_entry b.target.cube.atoms (slots_at v t.slots) (values_of v t.entry)
          (preimages-exact b.edge b.target.cube.atoms pre plain (edge_terms gs linked g m good k b) is
          (fits_edge gs linked g m good k live b plain)
          (slots_at v t.slots) (values_of v t.entry) at.values at.entry
          (meets_before b.edge no_entry pre (slots_at v t.slots) (values_of v t.entry) at.meets))

      step : (u : Valuation) × Is64 u × ((x : ℕ) → IsTrue (is_symbol_column t.symbols x) → u x ≡ v x) × HoldsAll u new.guard.atoms
          × (end_place g.exit u new.node new.slots new.failed ≡ into.2)
      step =
          let s = loses_none g g.well_formed t (trail_terms gs g t is_trail) names k.edge b.edge b.at_edge src plain v v64 at.guard into.0
          into.1 into.2 into.3
          in
          (s.0, s.1, s.2, s.3, s.4)

      same_entry : values_of step.0 t.entry ≡ values_of v t.entry
      same_entry = values_agree (is_symbol_column t.symbols) step.0 v t.entry step.2 names.entry_names

      at_place : HoldsAll (place_columns (values_of step.0 t.entry) (end_place g.exit step.0 new.node new.slots new.failed))
          b.target.cube.atoms
      at_place = subst (λ p. HoldsAll (place_columns (values_of step.0 t.entry) p) b.target.cube.atoms) (sym step.4)
          (subst (λ vs. HoldsAll (place_columns vs into.2) b.target.cube.atoms) (sym same_entry) into.4.1)

      node : new.node ≡ target b.edge
      node = node_target t b.edge plain no_entry

      to_exit : is_return b.edge ≡ (target b.edge == g.exit)
      to_exit = (g.well_formed.are_edges k.edge b.edge b.at_edge).to_exit

      by_return : (r : Bool) → is_return b.edge ≡ r → HoldsAll (replaced_valuation (reading new.slots t.entry) step.0) b.target.cube.atoms
      by_return true r =
          holds_agree (is_value_column first_entry first_entry) (valuation_of (values_of step.0 t.entry) (values_of step.0 new.slots))
          (replaced_valuation (reading new.slots t.entry) step.0) b.target.cube.atoms
          (value_read step.0 new.slots t.entry)
          (return_named b.edge r b.target.cube.atoms (fits_edge gs linked g m good k live b plain).columns)
          (subst (λ c. HoldsAll c b.target.cube.atoms) (left_columns g.exit (values_of step.0 t.entry) step.0 new.node new.slots new.failed
          (return_fails t b.edge r (is_trail.unfailed apart.1)) (node ∙ eqb-true (target b.edge) g.exit (sym to_exit ∙ r))) at_place)
      by_return false r =
          holds_agree inner_column (columns_of (slots_at step.0 new.slots) (values_of step.0 t.entry) [])
          (replaced_valuation (reading new.slots t.entry) step.0) b.target.cube.atoms
          (inner_read step.0 new.slots t.entry) (no_return_named b.edge r b.target.cube.atoms
          (fits_edge gs linked g m good k live b plain).columns)
          (subst (λ c. HoldsAll c b.target.cube.atoms) (inner_columns g.exit (values_of step.0 t.entry) step.0 new.node new.slots new.failed
          (λ x. eqb-false (target b.edge) g.exit (sym to_exit ∙ r) (sym node ∙ x))) at_place)

  pub parts_exactly : (k : RegionEdge) → IsTrue (m.parted.live k) → ¬ (k.edge ≡ 0) → (w : StandsAt gs g m k) → is_call w.between.edge
      ≡ false →
      TraceNamesOwn w.trail → (pre : List Atom) → preimage w.between.edge w.between.target.cube.atoms ≡ gives pre None →
      ¬ HasPoint (seen_at m.query (extended w.trail w.between.edge) w.between.target.cube.atoms) →
      (k.from ≢ 0) × (pre ≢ []) × (¬ HasPoint (seen_at m.query w.trail (w.between.source.cube.atoms ++ pre)))
  parts_exactly k live inside_edge w plain names pre is never =
      let r = parted_by_none gs linked g m h k inside_edge w pre
      (λ p. never (carries_point k live inside_edge w.between plain w.mark.trail w.trail w.one.marks names pre is p)) in
      (w.inner inside_edge, r.0, r.1 w.between.source.cube.atoms)
