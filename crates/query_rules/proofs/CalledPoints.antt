-- No point of a trail is lost over a call by a must whose preimage is exact.
use Rattle.std.proofs.Common.{◌≡◌, ◌≢◌, ℕ, List, [], ◌++◌, Some, None, ℤ, refl, sym, subst, ap, ◌∙◌}
use Rattle.std.specs.Prelude.{slice_get, IsTrue}
use Rattle.std.proofs.lemmas.Option.{same_Some}
use borrow.Author.Tests.{eqb-false}
use Rattle.c_tree.specs.Meaning.{State}
use Rattle.linear_formula.specs.LinearSum.{Valuation, Is64}
use Rattle.linear_formula.specs.Formula.{HoldsAll}
use Rattle.linear_formula.specs.Replaced.{replaced_valuation}
use Rattle.linear_formula.specs.declared.formula.Atom.{Atom}
use Rattle.shadow_elim.specs.Projection.{gives}
use Rattle.flow_graph.specs.Calls.{call_edge}
use Rattle.flow_graph.specs.declared.graph.Graph.{Graph}
use Rattle.flow_graph.specs.declared.graph.Edge.TheVariants.{Entry}
use Rattle.flow_graph.specs.Columns.{columns_of}
use Rattle.flow_graph.specs.Linked.{AreGraphs}
use Rattle.flow_graph.specs.Readings.{reading}
use Rattle.flow_graph.specs.Regions.{place_columns}
use Rattle.flow_graph.specs.Runs.{after_call}
use Rattle.flow_graph.specs.Shapes.{source}
use Rattle.flow_graph.specs.WellFormed.{IsEdge, first_node}
use Rattle.flow_graph.proofs.Slots.{entry_edge}
use Rattle.summary_form.specs.declared.path.Path.{Path}
use Rattle.summary_form.specs.declared.query.ExitKind.{ExitKind}
use Rattle.summary_form.specs.declared.query.ExitKind.TheVariants as kind
use Rattle.summary_form.specs.declared.summary.Summary.{Summary}
use Rattle.summary_form.specs.Musts.{values_of}
use Rattle.summary_form.specs.Runs.{end_with}
use Rattle.summary_form.specs.Symbols.{is_symbol_column}
use Rattle.may_partition.specs.declared.region.RegionEdge.{RegionEdge}
use Rattle.may_partition.proofs.Agreeing.{holds_agree}
use Rattle.must_region.specs.Rules.{must_node}
use Rattle.must_region.specs.Traces.{Trace, TraceNamesOwn}
use Rattle.must_region.specs.Trails.{IsTrail, end_place, slots_at}
use Rattle.must_region.proofs.Agreeing.{values_agree}
use Rattle.must_region.proofs.LosingRuns.{loses_none_by}
use Rattle.call_bridge.specs.Calls.{inner_column, LiesBehind}
use Rattle.call_bridge.specs.Musts.{FitsMust, Leads, must_preimage}
use Rattle.call_bridge.proofs.Leading.{must_exact, must_region}
use Rattle.query_rules.specs.Crossings.{called_trail}
use Rattle.query_rules.specs.Rows.{CallAt, MarksWith, MustAt, seen_at}
use Rattle.query_rules.specs.States.{AllHold}
use Rattle.query_rules.specs.Steps.{Model}
use Rattle.query_rules.specs.Turns.{HasPoint, StandsAt}
use Rattle.query_rules.proofs.Finding.{at_source}
use Rattle.query_rules.proofs.Marked.{IsMarked}
use Rattle.query_rules.proofs.Points.{IsBefore, before, comes_behind, inner_columns, inner_read, parted_by_none}
use Rattle.query_rules.proofs.Reaching.{Good, fits_must, inner_target}

-- the place after a call
behind_call : (exit : ExitKind) (to : ℕ) (results : List ℕ) (s : State) (entry vs : List ℤ) (target : List Atom) → LiesBehind exit results s
    entry vs
    target →
    HoldsAll (place_columns entry (after_call to results s (end_with exit vs))) target
behind_call kind.Return to results s entry vs target h = h
behind_call (kind.Fail id) to results s entry vs target h = h

module _ (gs : List Graph) (linked : AreGraphs gs) (g : Graph) (table : List Summary) (holds : AllHold gs table) (m : Model)
    (h : IsMarked gs linked g m) (good : Good gs linked g m) where
  pub carries_called : (k : RegionEdge) → IsTrue (m.parted.live k) → (c : CallAt g m k) (place : ℕ) (path : Path) →
      MustAt table c.site.procedure place c.exit path → (n : ℕ) (t : Trace) → MarksWith m n t k.from → TraceNamesOwn t → (pre : List Atom) →
      must_preimage path c.site c.between.target.cube.atoms ≡ gives pre None → HasPoint (seen_at m.query t pre) →
      HasPoint (seen_at m.query (called_trail t c path) c.between.target.cube.atoms)
  carries_called k live c place path must_at n t w names pre is (v, v64, met) =
      comes_behind gs linked g m h t new pre c.between.target.cube.atoms v step.0 before_call step.1 same_entry step.3 behind
    where
      new : Trace
      new = called_trail t c path

      is_trail : IsTrail gs g t
      is_trail = (h.marks.are_trails n t w.0).0

      stands : t.node ≡ c.from
      stands = at_source gs g g.well_formed m h.marks h.joined.connected k live c.between n t w c.from (ap source c.is_call)

      at : slice_get g.edges k.edge ≡ Some (call_edge t.node c.to c.site)
      at = c.between.at_edge ∙ ap Some c.is_call ∙ ap (λ x. Some (call_edge x c.to c.site)) (sym stands)

      edge_ok : IsEdge g.nodes g.exit g.fail g.exits g.slots (call_edge t.node c.to c.site)
      edge_ok = g.well_formed.are_edges k.edge (call_edge t.node c.to c.site) at

      apart : (t.node ≢ g.exit) × (t.node ≢ g.fail)
      apart = let a = edge_ok.leaves t.node refl in (a.1, a.2)

      fits : FitsMust path c.site c.between.target.cube.atoms
      fits = fits_must gs linked g table holds m good k live c place path must_at

      before_call : IsBefore m t pre v
      before_call = before gs linked g m h n t k.from w apart pre
          (must_region path c.site c.between.target.cube.atoms fits pre None is).names v v64 met

      leads : Leads path c.site c.between.target.cube.atoms (slots_at v t.slots) (values_of v t.entry)
      leads = must_exact path c.site c.between.target.cube.atoms fits pre None is refl (slots_at v t.slots) (values_of v t.entry)
          before_call.values before_call.entry before_call.meets

      step : (u : Valuation) × Is64 u × ((x : ℕ) → IsTrue (is_symbol_column t.symbols x) → u x ≡ v x) × HoldsAll u new.guard.atoms
          × (end_place g.exit u new.node new.slots new.failed ≡ after_call c.to c.site.results (slots_at v t.slots)
          (end_with path.exit (values_of leads.symbols path.outcome)))
      step =
          let s = loses_none_by gs g t k.edge c.to c.site path is_trail names at v leads.symbols v64 leads.bits
          before_call.guard
          leads.guard leads.passes in
          (s.0, s.1, s.2, s.3, s.4)

      same_entry : values_of step.0 t.entry ≡ values_of v t.entry
      same_entry = values_agree (is_symbol_column t.symbols) step.0 v t.entry step.2 names.entry_names

      at_place : HoldsAll (place_columns (values_of step.0 t.entry) (end_place g.exit step.0 new.node new.slots new.failed))
          c.between.target.cube.atoms
      at_place =
          let place = after_call c.to c.site.results (slots_at v t.slots) (end_with path.exit (values_of leads.symbols path.outcome)) in
          subst (λ p. HoldsAll (place_columns (values_of step.0 t.entry) p) c.between.target.cube.atoms) (sym step.4)
          (subst (λ vs. HoldsAll (place_columns vs place) c.between.target.cube.atoms) (sym same_entry)
          (behind_call path.exit c.to c.site.results (slots_at v t.slots) (values_of v t.entry) (values_of leads.symbols path.outcome)
          c.between.target.cube.atoms leads.into))

      no_exit : (exit : ExitKind) → must_node c.to g.fail exit ≢ g.exit
      no_exit kind.Return = eqb-false c.to g.exit (sym edge_ok.to_exit)
      no_exit (kind.Fail id) = λ e. g.well_formed.two_ends (sym e)

      behind : HoldsAll (replaced_valuation (reading new.slots t.entry) step.0) c.between.target.cube.atoms
      behind = holds_agree inner_column (columns_of (slots_at step.0 new.slots) (values_of step.0 t.entry) [])
          (replaced_valuation (reading new.slots t.entry) step.0) c.between.target.cube.atoms
          (inner_read step.0 new.slots t.entry) (inner_target gs linked g m good k live c)
          (subst (λ s. HoldsAll s c.between.target.cube.atoms) (inner_columns g.exit (values_of step.0 t.entry) step.0 new.node new.slots
          new.failed (no_exit path.exit)) at_place)

  pub calls_parted : (k : RegionEdge) → IsTrue (m.parted.live k) → (c : CallAt g m k) (place : ℕ) (path : Path) →
      MustAt table c.site.procedure place c.exit path → (w : StandsAt gs g m k) → TraceNamesOwn w.trail → (pre : List Atom) →
      must_preimage path c.site c.between.target.cube.atoms ≡ gives pre None →
      ¬ HasPoint (seen_at m.query (called_trail w.trail c path) c.between.target.cube.atoms) →
      (pre ≢ []) × (¬ HasPoint (seen_at m.query w.trail (c.between.source.cube.atoms ++ pre)))
  calls_parted k live c place path must_at w names pre is never =
      let r = parted_by_none gs linked g m h k inside_edge w pre
      (λ p. never (carries_called k live c place path must_at w.mark.trail w.trail w.one.marks names pre is p)) in
      (r.0, r.1 c.between.source.cube.atoms)
    where
      -- the entry edge is no call
      inside_edge : ¬ (k.edge ≡ 0)
      inside_edge e = other (same_Some _ _ (sym (entry_edge g.params g.edges g.well_formed.begins) ∙ ap (slice_get g.edges) (sym e)
          ∙ c.between.at_edge ∙ ap Some c.is_call)) where
            other : Entry (first_node g.edges) g.params ≡ call_edge c.from c.to c.site → ⊥
            other x = cc
