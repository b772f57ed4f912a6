-- Where both projections are exact, a must that answers the asked query of a call serves it.
use Rattle.std.proofs.Common.{◌≡◌, ◌≢◌, ◌⊎◌, inl, inr, ℕ, zero, suc, ◌+◌, ◌-◌, ◌<◌, ◌≤◌, Bool, true, false, nat_le, nat_lt, ◌||◌, List, [], ◌∷◌, ◌++◌, length, Some, None, Option, ℤ, arith, refl, sym, ap, subst, ◌∙◌}
use Rattle.std.specs.Prelude.{IsTrue, slice_get, if◌then◌else◌}
use Rattle.std.proofs.lemmas.List.{length-map}
use borrow.Author.Tests.{lt-ltb, ltb-true, ne_eqb}
use Rattle.linear_formula.specs.LinearSum.{LinearSum, Valuation, value_of}
use Rattle.linear_formula.specs.Formula.{HoldsAll, are_terms}
use Rattle.linear_formula.specs.Replaced.{column_sum}
use Rattle.linear_formula.specs.declared.formula.Atom.{Atom}
use Rattle.linear_formula.proofs.Limits.{both, both_in}
use Rattle.linear_formula.proofs.TermAtoms.{are_terms-append}
use Rattle.shadow_elim.specs.Projection.{gives}
use Rattle.shadow_elim.specs.Questions.{IsMet, IsNever}
use Rattle.shadow_elim.specs.Sums.{row_sums, rows_of_sums}
use Rattle.shadow_elim.proofs.Projecting.{gives-rows}
use Rattle.flow_graph.specs.Calls.{call_edge}
use Rattle.flow_graph.specs.Columns.{AreAllValues, columns_of, first_entry, first_exit, first_symbol, is_entry_column, is_slot_column, names_only, rows_name_only, valuation_of}
use Rattle.flow_graph.specs.Linked.{AreGraphs}
use Rattle.flow_graph.specs.Readings.{reading, term_at}
use Rattle.flow_graph.specs.declared.graph.Graph.{Graph}
use Rattle.flow_graph.proofs.Numbers.{columns_64, none_values}
use Rattle.summary_form.specs.Answering.{AnswersYes}
use Rattle.summary_form.specs.Instances.{arity_in, arity_of, graph_runs}
use Rattle.summary_form.specs.Musts.{MustHolds, values_of}
use Rattle.summary_form.specs.Runs.{end_with, exits_of}
use Rattle.summary_form.specs.Symbols.{all_name_only}
use Rattle.summary_form.specs.declared.path.Path.{Path}
use Rattle.summary_form.specs.declared.query.ExitKind.{ExitKind}
use Rattle.summary_form.specs.declared.query.ExitKind.TheVariants as kind
use Rattle.summary_form.specs.declared.query.Query.{Query}
use Rattle.summary_form.specs.declared.summary.Summary.{Summary}
use Rattle.summary_form.specs.declared.summary.Summary.TheVariants.{Must}
use Rattle.summary_form.proofs.Summaries.{graph_values}
use Rattle.may_partition.specs.Fitting.{node_column}
use Rattle.may_partition.specs.declared.region.RegionEdge.{RegionEdge}
use Rattle.may_partition.proofs.Fitting.{fit_names}
use Rattle.may_partition.proofs.Pieces.{holds_append}
use Rattle.must_region.specs.Traces.{Trace, TraceNamesOwn}
use Rattle.call_bridge.specs.Asked.{FitsCall, IsCalled, asked, end_of, start_of}
use Rattle.call_bridge.specs.Calls.{LiesBehind, inner_column}
use Rattle.call_bridge.specs.Musts.{FitsMust, Leads, is_number, must_preimage}
use Rattle.call_bridge.proofs.Calling.{asked_exact}
use Rattle.call_bridge.proofs.Leading.{must_holds, must_region}
use Rattle.call_bridge.proofs.Naming.{row_sums_named, rows_named_append, rows_wider, sums_are_terms}
use Rattle.call_bridge.proofs.Queries.{inner_low, query_holds}
use Rattle.query_rules.specs.Crossings.{IsRead, OfSome, ServesNeither, call_by, called_trail}
use Rattle.query_rules.specs.Rows.{CallAt, MustAt, seen_at}
use Rattle.query_rules.specs.States.{AllHold}
use Rattle.query_rules.specs.Steps.{Model}
use Rattle.query_rules.specs.Turns.{HasPoint, StandsAt}
use Rattle.query_rules.proofs.CalledPoints.{calls_parted}
use Rattle.query_rules.proofs.Marked.{IsMarked}
use Rattle.query_rules.proofs.Reaching.{Good, fits_call, fits_must}
use Rattle.query_rules.proofs.Shown.{names_same}
use Rattle.punch_step.proofs.PlanPoints.{met_point, never_apart}

-- Terms at the end of a trail

-- the guard of a trail is of terms, and its terms name numbers
pub record NamesTerms (t : Trace) : Type 0 where
  pub guard : IsTrue (are_terms t.guard.atoms)
  pub entry : IsTrue (all_name_only is_number t.entry)
  pub slots : IsTrue (all_name_only is_number t.slots)

number_at : (terms : List LinearSum) (i : ℕ) → IsTrue (all_name_only is_number terms) → IsTrue (names_only is_number (term_at terms i))
number_at [] i h = refl
number_at (t ∷ terms) zero h = (both (names_only is_number t) (all_name_only is_number terms) h).0
number_at (t ∷ terms) (suc i) h = number_at terms i (both (names_only is_number t) (all_name_only is_number terms) h).1

number_read : (t : Trace) → NamesTerms t → (x : ℕ) → IsTrue (inner_column x) → IsTrue (names_only is_number (reading t.slots t.entry x))
number_read t n x h = by_slot (nat_lt x first_entry) where
  before : nat_lt x first_exit ≡ true
  before = lt-ltb x first_exit (inner_low x h)

  by_slot : (b : Bool) →
      IsTrue (names_only is_number (if b then term_at t.slots x else (if nat_lt x first_exit then term_at t.entry (x - first_entry) else
      (if nat_lt x first_symbol then term_at t.slots (x - first_exit) else column_sum x))))
  by_slot true = number_at t.slots x n.slots
  by_slot false = rw before (number_at t.entry (x - first_entry) n.entry)

terms_read : (t : Trace) → NamesTerms t → (atoms : List Atom) → IsTrue (rows_name_only inner_column atoms) → IsRead t atoms →
    IsTrue (are_terms (rows_of_sums (row_sums (reading t.slots t.entry) atoms)))
terms_read t n atoms names read =
    sums_are_terms (row_sums (reading t.slots t.entry) atoms)
    (row_sums_named is_number inner_column (reading t.slots t.entry) (number_read t n) atoms names) read

entry_inner : (params x : ℕ) → params ≤ first_entry → IsTrue (is_entry_column params x) → IsTrue (inner_column x)
entry_inner params x few h =
    let r = both (nat_le first_entry x) (nat_lt x (first_entry + params)) h in
    let l = ltb-true x (first_entry + params) r.1 in
    either (is_slot_column x) (is_entry_column first_entry x)
    (both_in (nat_le first_entry x) (nat_lt x (first_entry + first_entry)) r.0
    (lt-ltb x (first_entry + first_entry) (omega (arith, few, l))))
  where
    either : (a b : Bool) → IsTrue b → IsTrue (a || b)
    either true b k = refl
    either false b k = k

-- The called procedure

few_entries : (o : Option Graph) → (arity_of o).entries ≤ first_entry
few_entries None = omega arith
few_entries (Some g) = let w = g.well_formed in omega (arith, w.params_in_slots, w.few_slots)

module _ (gs : List Graph) (linked : AreGraphs gs) (g : Graph) (table : List Summary) (holds : AllHold gs table) (m : Model)
    (h : IsMarked gs linked g m) (good : Good gs linked g m) (k : RegionEdge) (live : IsTrue (m.parted.live k)) (c : CallAt g m k)
    (place : ℕ) (path : Path) (must_at : MustAt table c.site.procedure place c.exit path) where
  abbrev source : List Atom
  source = c.between.source.cube.atoms

  abbrev target : List Atom
  target = c.between.target.cube.atoms

  held : MustHolds (graph_runs gs) (arity_in gs path.proc) path
  held = holds place (Must path) must_at.there

  fits : FitsMust path c.site target
  fits = fits_must gs linked g table holds m good k live c place path must_at

  inner_source : IsTrue (rows_name_only inner_column source)
  inner_source =
      let b = c.between in
      let at : slice_get g.edges k.edge ≡ Some (call_edge c.from c.to c.site) = b.at_edge ∙ ap Some c.is_call in
      let joined = good.keeps.connected k live (call_edge c.from c.to c.site) at b.source b.target b.at_source b.at_target in
      let apart = ((g.well_formed.are_edges k.edge (call_edge c.from c.to c.site) at).leaves c.from refl).1 in
      names_same (node_column g.exit b.source.node) inner_column source (inner_at b.source.node (λ n. apart (sym joined.0 ∙ n)))
      (fit_names (node_column g.exit b.source.node) source (good.keeps.fit k.from b.source b.at_source))
    where
      inner_at : (node : ℕ) → (node ≡ g.exit → ⊥) → (x : ℕ) → node_column g.exit node x ≡ inner_column x
      inner_at node n x = rw (ne_eqb node g.exit n) refl

  few : length c.site.arguments < first_entry + 1
  few = omega (arith, fits.behind.many, held.entry_terms, few_entries (slice_get gs path.proc))

  fits_here : FitsCall c.site source target
  fits_here = record {
    are_slots = fits.behind.are_slots;
    results_low = fits.behind.results_low;
    few = few;
    few_results = (fits_call gs linked g m good k live c).few_results;
    source_names = inner_source;
    target_names = fits.behind.names;
  }

  -- Some call between the regions is as the must says

  outcome_values : (exit : ExitKind) (d : ℕ) (called ins values : List ℤ) → length values ≡ exits_of exit (arity_in gs path.proc).exits →
      graph_runs gs d path.proc called ins (end_with exit values) → AreAllValues values
  outcome_values kind.Return d called ins values e run = (graph_values gs).returned d path.proc called ins values run
  outcome_values (kind.Fail id) d called ins [] e run = none_values
  outcome_values (kind.Fail id) d called ins (z ∷ values) e run = absurd (let no : suc (length values) ≡ 0 = e in cc)

  is_called : (q : Query) (rows : List Atom) → asked c.exit c.site source target ≡ gives rows None →
      q.start.atoms ≡ start_of rows → q.end.atoms ≡ end_of rows → (y : AnswersYes q path) →
      IsCalled c.exit c.site source target (values_of y.at path.entry) (values_of y.at path.outcome)
  is_called q rows is start end y =
      let run = held.gives_runs y.at y.values y.guarded in
      let v : Valuation = valuation_of (values_of y.at path.entry) (values_of y.at path.outcome) in
      asked_exact c.exit c.site source target fits_here rows None is refl (values_of y.at path.entry)
      (values_of y.at path.outcome)
      run.1.values
      (outcome_values path.exit run.0 (values_of y.at path.entry) (values_of y.at path.inputs) (values_of y.at path.outcome)
      (length-map path.outcome (value_of y.at) ∙ held.outcome_terms) run.1)
      (length-map path.entry (value_of y.at) ∙ fits.behind.many)
      ((query_holds v rows).0 (subst (λ (xs : List Atom). HoldsAll v (xs ++ end_of rows)) start
      (subst (λ (xs : List Atom). HoldsAll v (q.start.atoms ++ xs)) end y.met)))

  -- so something in the source meets the preimage
  in_source : (q : Query) (rows : List Atom) → asked c.exit c.site source target ≡ gives rows None →
      q.start.atoms ≡ start_of rows → q.end.atoms ≡ end_of rows → AnswersYes q path → (pre : List Atom) →
      must_preimage path c.site target ≡ gives pre None → HasPoint (source ++ pre)
  in_source q rows is start end y pre exact =
      let w = is_called q rows is start end y in
      let leads : Leads path c.site target w.state w.entry = record {
        symbols = y.at;
        bits = y.values;
        guard = y.guarded;
        passes = sym w.passes;
        into = subst (λ (x : ExitKind). LiesBehind x c.site.results w.state w.entry (values_of y.at path.outcome) target)
            (sym must_at.of_exit)
            w.into;
      } in (
        columns_of w.state w.entry [],
        columns_64 w.state w.entry [] w.are_values w.entry_values none_values,
        holds_append (columns_of w.state w.entry []) source pre w.from
            (must_holds path c.site target fits pre None exact w.state w.entry w.are_values w.entry_values leads),
      )

  -- The must serves

  seen_terms : (w : StandsAt gs g m k) → NamesTerms w.trail → (pre : List Atom) → IsTrue (rows_name_only inner_column pre) →
      IsRead w.trail (source ++ pre) → IsTrue (are_terms (seen_at m.query w.trail (source ++ pre)))
  seen_terms w n pre names read =
      let few_params : g.params ≤ first_entry = omega (arith, g.well_formed.params_in_slots, g.well_formed.few_slots) in
      let start = rows_wider (is_entry_column g.params) inner_column (λ x e. entry_inner g.params x few_params e) m.query.start.atoms
      good.fits.start_names in
      let rows : List Atom → List Atom = λ atoms. rows_of_sums (row_sums (reading w.trail.slots w.trail.entry) atoms) in
      are_terms-append (w.trail.guard.atoms ++ rows m.query.start.atoms) (rows (source ++ pre))
      (are_terms-append w.trail.guard.atoms (rows m.query.start.atoms) n.guard
      (terms_read w.trail n m.query.start.atoms start (w.starts w.trail.slots)))
      (terms_read w.trail n (source ++ pre) (rows_named_append inner_column source pre inner_source names) read)

  pub must_serves : (w : StandsAt gs g m k) → TraceNamesOwn w.trail → NamesTerms w.trail → (q : Query) (rows : List Atom) →
      asked c.exit c.site source target ≡ gives rows None → q.start.atoms ≡ start_of rows → q.end.atoms ≡ end_of rows →
      AnswersYes q path → (pre : List Atom) → must_preimage path c.site target ≡ gives pre None →
      ¬ ServesNeither m.query (w.trail ∷ []) source (call_by c path)
  must_serves w own n q rows is start end y pre exact = λ s. by_part s.not_split.pre (same s) s.not_split.fails (parted s) where
    Neither : Type 0
    Neither = ServesNeither m.query (w.trail ∷ []) source (call_by c path)

    Parted : Type 0
    Parted = (pre ≢ []) × (¬ HasPoint (seen_at m.query w.trail (source ++ pre)))

    parted : Neither → Parted
    parted s =
        calls_parted gs linked g table holds m h good k live c place path must_at w own pre exact
        (λ p. never_apart (seen_at m.query (called_trail w.trail c path) target) s.no_trail.0.never p.0 p.1 p.2)

    same : (s : Neither) → s.not_split.pre ≡ pre
    same s = gives-rows s.not_split.pre pre s.not_split.is_pre.0 None (sym s.not_split.is_pre.1 ∙ exact)

    by_part : (other : List Atom) → other ≡ pre →
        (other ≡ []) ⊎ (IsNever (source ++ other)
        ⊎ OfSome (λ t. IsRead t (source ++ other) × IsMet (seen_at m.query t (source ++ other))) (w.trail ∷ [])) → Parted → ⊥
    by_part other e (inl empty) p = p.0 (sym e ∙ empty)
    by_part other e (inr (inl never)) p =
        let point = in_source q rows is start end y pre exact in
        never_apart (source ++ pre) (subst (λ (xs : List Atom). IsNever (source ++ xs)) e never) point.0 point.1 point.2
    by_part other e (inr (inr (inr z))) p = absurd z
    by_part other e (inr (inr (inl seen))) p =
        let here = subst (λ (xs : List Atom). IsRead w.trail (source ++ xs) × IsMet (seen_at m.query w.trail (source ++ xs))) e seen in
        let names = (must_region path c.site target fits pre None exact).names in
        p.1 (met_point (seen_at m.query w.trail (source ++ pre)) (seen_terms w n pre names here.0) here.1)
