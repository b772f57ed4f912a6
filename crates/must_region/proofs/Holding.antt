-- The paths of trails are musts that hold.
use Rattle.std.proofs.Common.{◌≡◌, ℕ, List, ◌++◌, length, Some, refl, sym, subst, ap, ◌∙◌}
use Rattle.std.specs.Prelude.{slice_get}
use Rattle.std.proofs.lemmas.List.{length-map}
use Rattle.linear_formula.specs.LinearSum.{LinearSum, Valuation, Is64, value_of}
use Rattle.linear_formula.specs.Formula.{HoldsAll}
use Rattle.linear_formula.specs.declared.formula.Atom.{Atom}
use Rattle.shadow_elim.specs.Sums.{rows_of_sums, row_sums}
use Rattle.flow_graph.specs.declared.graph.Graph.{Graph}
use Rattle.flow_graph.specs.Readings.{reading}
use Rattle.flow_graph.specs.Runs.{GraphRuns}
use Rattle.summary_form.specs.declared.path.Path.{Path}
use Rattle.summary_form.specs.declared.query.Query.{Query}
use Rattle.summary_form.specs.declared.query.ExitKind.{ExitKind}
use Rattle.summary_form.specs.declared.query.ExitKind.TheVariants as kind
use Rattle.summary_form.specs.Instances.{GraphRunOf, graph_runs, arity_in, arity_of}
use Rattle.summary_form.specs.Runs.{Arity, end_with, exits_of}
use Rattle.summary_form.specs.Musts.{values_of, MustHolds}
use Rattle.must_region.specs.Traces.{Trace}
use Rattle.must_region.specs.Paths.{outcome_of, IsPathOf}
use Rattle.must_region.specs.Trails.{IsTrail}
use Rattle.must_region.specs.Laws.{IsAtEnd}
use Rattle.must_region.proofs.Agreeing.{holds_split}
use Rattle.must_region.proofs.Ending.{entry_count, entry_values, returns_run, fails_run}

module _ (gs : List Graph) (p : ℕ) (g : Graph) (at : slice_get gs p ≡ Some g) (t : Trace) (h : IsTrail gs g t) where
  end_run : (exit : ExitKind) → IsAtEnd g t exit → (v : Valuation) → Is64 v → HoldsAll v t.guard.atoms → (d : ℕ) × GraphRuns gs d p
      (values_of v t.entry) (values_of v t.inputs) (end_with exit (values_of v (outcome_of exit t)))
  end_run kind.Return e v v64 m = returns_run gs p g at g.well_formed t h e v v64 m
  end_run (kind.Fail id) e v v64 m = fails_run gs p g at g.well_formed t h id e v v64 m

  outcome_count : (exit : ExitKind) → IsAtEnd g t exit → length (outcome_of exit t) ≡ exits_of exit g.exits
  outcome_count kind.Return e = h.returned e
  outcome_count (kind.Fail id) e = refl

  abbrev Given : Valuation → ℕ → ExitKind → (entry inputs outcome : List LinearSum) → Type 0
  Given v r exit entry inputs outcome = (d : ℕ) × GraphRunOf gs d r (values_of v entry) (values_of v inputs)
      (end_with exit (values_of v outcome))

  given_run : (exit : ExitKind) → IsAtEnd g t exit → (v : Valuation) → Is64 v → HoldsAll v t.guard.atoms → Given v p exit t.entry t.inputs
      (outcome_of exit t)
  given_run exit e v v64 m =
      let r = end_run exit e v v64 m in
      let entries : g.params ≡ (arity_in gs p).entries = sym (ap (λ (a : Arity). a.entries) (ap arity_of at)) in (
        r.0,
        record {
          count = length-map t.entry (value_of v) ∙ entry_count gs g t h ∙ entries;
          values = entry_values gs g t h v v64;
          run = r.1;
        },
      )

pub path_holds : (gs : List Graph) (g : Graph) (t : Trace) (q : Query) (path : Path) → slice_get gs q.proc ≡ Some g → IsTrail gs g t →
    IsAtEnd g t q.exit → IsPathOf q t path → MustHolds (graph_runs gs) (arity_in gs path.proc) path
path_holds gs g t q path at h end is =
    let arity : arity_in gs path.proc ≡ arity_of (Some g) = ap (arity_in gs) is.proc ∙ ap arity_of at in
    let own : (v : Valuation) → HoldsAll v path.guard.atoms → HoldsAll v t.guard.atoms = λ v m.
    let rows = λ (atoms : List Atom). rows_of_sums (row_sums (reading t.slots t.entry) atoms) in
    (holds_split v t.guard.atoms (rows q.start.atoms) (holds_split v (t.guard.atoms ++ rows q.start.atoms) (rows q.end.atoms)
    (subst (HoldsAll v) is.guard m)).0).0 in
    record {
      entry_terms = ap length is.entry ∙ entry_count gs g t h ∙ sym (ap (λ (a : Arity). a.entries) arity);
      outcome_terms = ap length is.outcome ∙ outcome_count gs q.proc g at t h q.exit end ∙ ap (λ (x : ExitKind). exits_of x g.exits)
          (sym is.exit)
          ∙ ap (exits_of path.exit) (sym (ap (λ (a : Arity). a.exits) arity));
      gives_runs = λ v v64 m.
          let r = given_run gs q.proc g at t h q.exit end v v64 (own v m) in
          subst (λ n. Given gs q.proc g at t h v n path.exit path.entry path.inputs path.outcome) (sym is.proc)
          (subst (λ (x : ExitKind). Given gs q.proc g at t h v q.proc x path.entry path.inputs path.outcome) (sym is.exit)
          (subst (λ (ts : List LinearSum). Given gs q.proc g at t h v q.proc q.exit ts path.inputs path.outcome) (sym is.entry)
          (subst (λ (ts : List LinearSum). Given gs q.proc g at t h v q.proc q.exit t.entry ts path.outcome) (sym is.inputs)
          (subst (λ (ts : List LinearSum). Given gs q.proc g at t h v q.proc q.exit t.entry t.inputs ts) (sym is.outcome) r))));
    }
