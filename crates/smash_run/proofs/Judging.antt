-- What the verdicts of a board's roots say of the program.
use Rattle.std.proofs.Common.{◌≡◌, ℕ, ◌+◌, ◌<◌, ◌⊎◌, inl, inr, List, [], ◌∷◌, ◌++◌, length, Option, None, Some, ℤ, IsTrue, cond, refl, sym, ap, ◌∙◌, subst, length-append}
use Rattle.std.specs.Prelude.{slice_get}
use Rattle.std.proofs.lemmas.Bool.{eq-eqb}
use Rattle.std.proofs.lemmas.Option.{slice_get_within}
use Rattle.c_tree.specs.Meaning.{Outcome, Returned, Stopped, Failed, Reaches, Runs}
use Rattle.c_tree.specs.Syntax.{PureProcedure, PureProgram}
use Rattle.c_tree.specs.WellFormed.{IsWellFormed, takes}
use Rattle.linear_formula.specs.LinearSum.{valuation}
use Rattle.flow_build.specs.Promises.{AreBounded}
use Rattle.flow_graph.specs.ProgramGraphs.{MayTake, SameRuns}
use Rattle.flow_graph.specs.Columns.{AreAllValues}
use Rattle.flow_graph.specs.Runs.{GraphRuns, end_of, entry_list, failed}
use Rattle.flow_graph.specs.declared.graph.Graph.{Graph}
use Rattle.summary_form.specs.Instances.{arity_in, arity_of, graph_runs}
use Rattle.summary_form.specs.Musts.{values_of}
use Rattle.summary_form.specs.NotMays.{NotMayHolds}
use Rattle.summary_form.specs.declared.summary.Summary.{Summary}
use Rattle.query_rules.specs.Seen.{Seen}
use Rattle.query_tree.proofs.Lists.{from_pushed, present}
use Rattle.bolt_core.specs.Boards.{IsBegunWith, Shown, root_query}
use Rattle.bolt_core.specs.Machine.{Core, Reads, first_board, opening}
use Rattle.bolt_core.specs.States.{reads}
use Rattle.bolt_core.specs.Verdicts.{HasVerdict, IsFoundIn}
use Rattle.bolt_core.specs.declared.job.Verdict.{Verdict}
use Rattle.bolt_core.specs.declared.job.Verdict.TheVariants as verdict
use Rattle.smash_run.specs.Analysis.{IsAnalysis, IsBoardOf, IsVerdict}
use Rattle.smash_run.specs.steps.Judging.{AreVerdicts}

-- The graph of `main`

there : (o : Option PureProcedure) → IsTrue (takes o 0) → (p : PureProcedure) × (o ≡ Some p)
there None h = absurd cc
there (Some p) h = (p, refl)

-- it is there, without entry values
pub record MainGraph (P : PureProgram) (gs : List Graph) : Type 0 where
  pub graph : Graph
  pub at : slice_get gs P.main ≡ Some graph
  pub no_params : graph.params ≡ 0

pub main_graph : (P : PureProgram) (gs : List Graph) → IsWellFormed P → AreBounded P gs → MainGraph P gs
main_graph P gs fine bounds =
    let main = there (slice_get P.procedures P.main) fine.main_takes_none in
    let within = slice_get_within P.procedures P.main main.0 main.1 in
    let found = present gs P.main (subst (λ n. P.main < n) (sym bounds.each_procedure) within) in
    record {
      graph = found.0;
      at = found.1;
      no_params = (bounds.bounded P.main main.0 found.0 main.1 found.1).params
          ∙ ap (λ t. cond t 0 (main.0.params + length P.globals)) (eq-eqb P.main P.main refl);
    }

pub main_there : (P : PureProgram) (gs : List Graph) → IsWellFormed P → AreBounded P gs → (g : Graph) × (slice_get gs P.main ≡ Some g)
main_there P gs fine bounds = let w = main_graph P gs fine bounds in (w.graph, w.at)

-- Boards

-- a board that opens has no history
opens_empty : {S : Type 0} (R : Reads S) (grant : ℕ) (ss : List S) (c : Core S) → (opening R grant ss c).history ≡ c.history
opens_empty R grant [] c = refl
opens_empty R grant (s ∷ ss) c = opens_empty R grant ss _

pub begun_empty : (gs : List Graph) (main asserts budget : ℕ) (kept : List Summary) (b : Shown) →
    IsBegunWith gs main asserts budget kept b → b.core.history ≡ []
begun_empty gs main asserts budget kept b h =
    let o = h.opening in
    ap (λ (c : Core Seen). c.history) o.is ∙ opens_empty (reads b.graphs) b.budget o.roots (first_board (reads b.graphs) b.core.kept)

-- Verdicts

none_long : {A : Type 0} (xs : List A) → length xs ≡ 0 → xs ≡ []
none_long [] h = refl
none_long (x ∷ xs) h = absurd cc

-- the end of a failure is that of no other outcome
failed_of : (id : ℕ) (out : Outcome) (after : List ℤ) → failed id ≡ end_of out after → out ≡ Failed id
failed_of id (Returned v) after e = absurd cc
failed_of id Stopped after e = absurd cc
failed_of id (Failed other) after e = cc

module _ (P : PureProgram) (fine : IsWellFormed P) (opening : AreAllValues P.globals) where
  -- the entry list of `main` is empty
  enters_none : entry_list P P.main [] P.globals ≡ []
  enters_none = ap (λ t. cond t [] ([] ++ P.globals)) (eq-eqb P.main P.main refl)

  -- its run from the opening values may begin
  may_take : MayTake P P.main [] P.globals
  may_take = record {
    arguments = fine.main_takes_none;
    begins = record { count = refl; opening = λ e. refl };
    values = λ i. refl;
    global_values = opening;
  }

  module _ (gs : List Graph) (runs : SameRuns P gs) (id : ℕ) (ins : List ℤ) where
    -- inputs that reach an assertion make `main` fail there in the graphs
    pub fails_in_graphs : Reaches P id ins → (d : ℕ) × GraphRuns gs d P.main [] ins (failed id)
    fails_in_graphs w = (
      w.0,
      subst (λ xs. GraphRuns gs w.0 P.main xs ins (failed id)) enters_none
          (runs.program_to_graphs w.0 P.main [] P.globals ins (Failed id) w.1 may_take w.2),
    )

    -- and the reverse
    pub reaches_in_program : (d : ℕ) → GraphRuns gs d P.main [] ins (failed id) → Reaches P id ins
    reaches_in_program d run =
        let o = runs.graphs_to_program d P.main [] P.globals ins (failed id) may_take
        (subst (λ xs. GraphRuns gs d P.main xs ins (failed id)) (sym enters_none) run) in (
          d,
          o.1,
          subst (λ out. Runs P d P.main [] P.globals ins out o.1) (failed_of id o.0 o.1 o.2) o.3,
        )

  module _ (budget : ℕ) (kept : List Summary) (b : Shown) (is : IsBoardOf P budget kept b) (id : ℕ) where
    main_has_none : (arity_in b.graphs P.main).entries ≡ 0
    main_has_none =
        let w = main_graph P b.graphs fine is.bounds in
        ap (λ o. (arity_of o).entries) w.at ∙ w.no_params

    -- no run of `main` fails at the assertion
    never : NotMayHolds (graph_runs b.graphs) (root_query b.main id) → (ins : List ℤ) → ¬ Reaches P id ins
    never none ins w =
        let f = fails_in_graphs b.graphs is.runs id ins w in
        subst (λ m. NotMayHolds (graph_runs b.graphs) (root_query m id)) is.main none f.0 [] ins [] (record {
          count = sym main_has_none;
          values = λ i. refl;
          run = f.1;
        }) tt

    -- on these inputs `main` fails there
    reaches : (list : List ℤ) → IsFoundIn b id list → Reaches P id list
    reaches list f =
        let args = values_of (valuation f.mark.point) f.trail.entry in
        let run = subst (λ m. graph_runs b.graphs f.depth m args list (failed id)) is.main f.run in
        let none = none_long args (run.count ∙ main_has_none) in
        reaches_in_program b.graphs is.runs id list f.depth
        (subst (λ xs. GraphRuns b.graphs f.depth P.main xs list (failed id)) none run.run)

    pub judged : (v : Verdict) → HasVerdict b id v → IsVerdict P b id v
    judged verdict.Proved h = (never h.none, h)
    judged (verdict.Found list) h = (reaches list.items h, h)
    judged (verdict.Budget n) h = (tt, h)
    judged (verdict.Limit kind) h = (tt, h)

pub analysed : (P : PureProgram) (budget : ℕ) (kept : List Summary) (b : Shown) (vs : List Verdict) → IsWellFormed P →
    AreAllValues P.globals → IsBoardOf P budget kept b → AreVerdicts b (length P.asserts) vs → IsAnalysis P budget kept b vs
analysed P budget kept b vs fine opening is are = record {
  board = is;
  each = are.each;
  right = λ id v there. judged P fine opening budget kept b is id v (are.right id v there);
}

-- Verdicts that are pushed one after the other

pub none_yet : (b : Shown) → AreVerdicts b 0 []
none_yet b = record { each = refl; right = λ id v there. absurd cc }

pub one_more : (b : Shown) (n : ℕ) (vs longer : List Verdict) (v : Verdict) → AreVerdicts b n vs → HasVerdict b n v → longer ≡ vs ++ v
    ∷ [] →
    AreVerdicts b (n + 1) longer
one_more b n vs longer v are has is = subst (AreVerdicts b (n + 1)) (sym is) (record {
  each = length-append vs (v ∷ []) ∙ ap (λ k. k + 1) are.each;
  right = λ id u there. on id u (from_pushed vs v id u there);
})
  where
    on : (id : ℕ) (u : Verdict) → (slice_get vs id ≡ Some u) ⊎ ((id ≡ length vs) × (u ≡ v)) → HasVerdict b id u
    on id u (inl k) = are.right id u k
    on id u (inr k) = subst (λ i. HasVerdict b i u) (sym (k.0 ∙ are.each)) (subst (HasVerdict b n) (sym k.1) has)
