-- One edge that is no call, by the two laws of trails, at the place to which it leads. The trace may be of any frame.
use Rattle.std.proofs.Common.{◌≡◌, ℕ, List, [], ◌++◌, Some, false, ℤ, refl, sym, subst, ◌∙◌}
use Rattle.std.specs.Prelude.{slice_get}
use Rattle.std.proofs.lemmas.Option.{none-some}
use borrow.Author.Tests.{eqb-true}
use Rattle.linear_formula.specs.LinearSum.{Valuation, Is64}
use Rattle.linear_formula.specs.Formula.{HoldsAll}
use Rattle.flow_graph.specs.declared.graph.Graph.{Graph}
use Rattle.flow_graph.specs.declared.graph.Edge.{Edge}
use Rattle.flow_graph.specs.declared.graph.Edge.TheVariants.{Entry, Assign, Guard, Input, Pick, Call, Assert, Return}
use Rattle.flow_graph.specs.Shapes.{source, is_call}
use Rattle.flow_graph.specs.Runs.{Place, inside, left, failing, Step, GraphRun}
use Rattle.summary_form.specs.Musts.{values_of}
use Rattle.summary_form.specs.Symbols.{is_symbol_column}
use Rattle.must_region.specs.Traces.{Trace, TraceNamesOwn}
use Rattle.must_region.specs.Rules.{extended}
use Rattle.must_region.specs.Trails.{slots_at, end_place, HasTerms}
use Rattle.must_region.proofs.Agreeing.{Agree}
use Rattle.must_region.proofs.Extending.{behind, leave, exit_place, takes_step}
use Rattle.must_region.proofs.Losing.{loses_none}

-- where the trace stands after the edge
abbrev pub place_by : Valuation → Edge → Trace → Place
place_by v (Assert from to id rows) t = failing id (slots_at v t.slots)
place_by v (Return from to slots) t = left (values_of v t.slots)
place_by v edge t = inside t.node (slots_at v t.slots)

module _ (g : Graph) (t : Trace) (kept : HasTerms g t) (i : ℕ) where
  -- the inner places, the exit and `fail`
  place_is : (e : Edge) → slice_get g.edges i ≡ Some e → source e ≡ Some t.node → is_call e ≡ false → (v : Valuation) →
      end_place g.exit v (extended t e).node (extended t e).slots (extended t e).failed ≡ place_by v e (extended t e)
  place_is (Entry to params) at src plain v = absurd (none-some t.node src)
  place_is (Assign from to slot value) at src plain v =
      behind g g.well_formed t kept i (Assign from to slot value) at src v to (extended t (Assign from to slot value)).slots refl refl
  place_is (Guard from to rows) at src plain v = behind g g.well_formed t kept i (Guard from to rows) at src v to t.slots refl refl
  place_is (Input from to slot) at src plain v =
      behind g g.well_formed t kept i (Input from to slot) at src v to (extended t (Input from to slot)).slots refl refl
  place_is (Pick from to slot rows) at src plain v =
      behind g g.well_formed t kept i (Pick from to slot rows) at src v to (extended t (Pick from to slot rows)).slots refl refl
  place_is (Call from to proc args results) at src plain v = absurd cc
  place_is (Assert from to id rows) at src plain v = refl
  place_is (Return from to slots) at src plain v =
      exit_place g.exit v to (extended t (Return from to slots)).slots t.failed
      (kept.unfailed (leave g g.well_formed t kept i (Return from to slots) at src).2)
      (eqb-true to g.exit (sym ((g.well_formed).are_edges i (Return from to slots) at).to_exit))

  -- What meets the new guard meets the old one, and steps over the edge
  pub record Taken (e : Edge) (v : Valuation) : Type 0 where
    pub less : HoldsAll v t.guard.atoms
    pub used : List ℤ
    pub inputs : values_of v (extended t e).inputs ≡ values_of v t.inputs ++ used
    pub step : (more : List ℤ) → Step (GraphRun [] 0) e (slots_at v t.slots) (used ++ more) (place_by v e (extended t e)) more

  pub taken : (e : Edge) → slice_get g.edges i ≡ Some e → source e ≡ Some t.node → is_call e ≡ false → (v : Valuation) → Is64 v →
      HoldsAll v (extended t e).guard.atoms → Taken e v
  taken e at src plain v v64 h =
      let r = takes_step g g.well_formed t kept i e at src plain v v64 h in
      record {
        less = r.0;
        used = r.1.0;
        inputs = r.1.1;
        step = λ more. subst (λ p. Step (GraphRun [] 0) e (slots_at v t.slots) (r.1.0 ++ more) p more) (place_is e at src plain v)
            (r.1.2 more);
      }

  -- No step is lost
  pub record Found (e : Edge) (v : Valuation) (ins rest : List ℤ) (b : Place) : Type 0 where
    pub at : Valuation
    pub values : Is64 at
    pub agrees : Agree (is_symbol_column t.symbols) v at
    pub meets : HoldsAll at (extended t e).guard.atoms
    pub place : place_by at e (extended t e) ≡ b
    pub used : List ℤ
    pub split : ins ≡ used ++ rest
    pub inputs : values_of at (extended t e).inputs ≡ values_of v t.inputs ++ used

  pub found : TraceNamesOwn t → (e : Edge) → slice_get g.edges i ≡ Some e → source e ≡ Some t.node → is_call e ≡ false → (v : Valuation) →
      Is64 v → HoldsAll v t.guard.atoms → (ins rest : List ℤ) (b : Place) → Step (GraphRun [] 0) e (slots_at v t.slots) ins b rest →
      Found e v ins rest b
  found names e at src plain v v64 m ins rest b st =
      let r = loses_none g g.well_formed t kept names i e at src plain v v64 m ins rest b st in
      record {
        at = r.0;
        values = r.1;
        agrees = λ x h. sym (r.2 x h);
        meets = r.3;
        place = sym (place_is e at src plain r.0) ∙ r.4;
        used = r.5.0;
        split = r.5.1;
        inputs = r.5.2;
      }
