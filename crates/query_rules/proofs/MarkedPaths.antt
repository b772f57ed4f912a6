-- The path of a mark of the target holds and answers the query.
use Rattle.std.proofs.Common.{◌≡◌, ℕ, ◌≤◌, List, [], ◌++◌, Some, ℤ, arith, refl, sym, subst, ◌∙◌}
use Rattle.std.specs.Prelude.{IsTrue}
use Rattle.linear_formula.specs.LinearSum.{LinearSum, Valuation, valuation}
use Rattle.linear_formula.specs.Formula.{HoldsAll}
use Rattle.linear_formula.specs.Replaced.{replaced_valuation}
use Rattle.linear_formula.specs.declared.formula.Atom.{Atom}
use Rattle.shadow_elim.specs.Sums.{rows_of_sums, row_sums}
use Rattle.shadow_elim.proofs.Summing.{hold-sums}
use Rattle.flow_graph.specs.declared.graph.Graph.{Graph}
use Rattle.flow_graph.specs.Columns.{valuation_of, no_slots, first_entry, is_entry_column, is_value_column, rows_name_only}
use Rattle.flow_graph.specs.Linked.{AreGraphs}
use Rattle.flow_graph.specs.Readings.{reading}
use Rattle.summary_form.specs.declared.path.Path.{Path}
use Rattle.summary_form.specs.declared.query.Query.{Query}
use Rattle.summary_form.specs.declared.query.ExitKind.{ExitKind}
use Rattle.summary_form.specs.declared.query.ExitKind.TheVariants as kind
use Rattle.summary_form.specs.Answering.{AnswersYes}
use Rattle.summary_form.specs.Instances.{graph_runs, arity_of, arity_in}
use Rattle.summary_form.specs.Musts.{MustHolds, values_of}
use Rattle.summary_form.specs.NotMays.{Fits, Meets, is_end_column}
use Rattle.may_partition.specs.Parted.{end_node}
use Rattle.may_partition.proofs.Agreeing.{holds_agree}
use Rattle.may_partition.proofs.Pieces.{holds_append, holds_split}
use Rattle.must_region.specs.Laws.{IsAtEnd}
use Rattle.must_region.specs.Paths.{IsPathOf, outcome_of, path_guard}
use Rattle.must_region.specs.Traces.{Trace}
use Rattle.must_region.proofs.Holding.{path_holds}
use Rattle.query_rules.specs.Closings.{IsMarkedPath}
use Rattle.query_rules.specs.Found.{IsFound}
use Rattle.query_rules.specs.Steps.{Model, Point}
use Rattle.query_rules.proofs.Finding.{found}
use Rattle.query_rules.proofs.Fitted.{values_more}
use Rattle.query_rules.proofs.Marked.{IsMarked}
use Rattle.query_rules.proofs.Points.{entry_read, entry_stands, value_read}

at_end : (g : Graph) (t : Trace) (exit : ExitKind) → t.node ≡ end_node g exit →
    ((id : ℕ) → exit ≡ kind.Fail id → t.failed ≡ Some id) →
    IsAtEnd g t exit
at_end g t kind.Return n f = n
at_end g t (kind.Fail id) n f = f id refl

-- What meets the guard meets the query's cubes
module _ (count exits : ℕ) (few : count ≤ first_entry) (few_exits : exits ≤ first_entry) (t : Trace) (v : Valuation) where
  abbrev read : Valuation
  read = replaced_valuation (reading t.slots t.entry) v

  entries_met : (atoms : List Atom) (exit : List ℤ) → IsTrue (rows_name_only (is_entry_column count) atoms) → HoldsAll read atoms →
      HoldsAll (valuation_of (values_of v t.entry) exit) atoms
  entries_met atoms exit names h = holds_agree (is_entry_column count) read (valuation_of (values_of v t.entry) exit) atoms
      (λ x n. entry_read v t.slots t.entry count x few n ∙ sym (entry_stands no_slots (values_of v t.entry) exit count x few n)) names h

  end_met : (exit : ExitKind) (atoms : List Atom) →
      IsTrue (rows_name_only (is_end_column (record { entries = count; exits = exits }) exit) atoms) → HoldsAll read atoms →
      HoldsAll (valuation_of (values_of v t.entry) (values_of v (outcome_of exit t))) atoms
  end_met kind.Return atoms names h = holds_agree (is_value_column count exits) read
      (valuation_of (values_of v t.entry) (values_of v t.slots))
      atoms (λ x n. sym (value_read v t.slots t.entry x (values_more count exits first_entry x few few_exits n))) names h
  end_met (kind.Fail id) atoms names h = entries_met atoms [] names h

guard_meets : (g : Graph) (q : Query) → Fits q.proc (arity_of (Some g)) q → (t : Trace) (v : Valuation) →
    HoldsAll v (path_guard t q.start.atoms q.end.atoms) →
    Meets q (values_of v t.entry) (values_of v (outcome_of q.exit t))
guard_meets g q fits t v h =
    let ok = g.well_formed in
    let few : g.params ≤ first_entry = omega (arith, ok.params_in_slots, ok.few_slots) in
    let few_exits : g.exits ≤ first_entry = omega (arith, ok.few_exits) in
    let exit : List ℤ = values_of v (outcome_of q.exit t) in
    let rows = λ (atoms : List Atom). rows_of_sums (row_sums (reading t.slots t.entry) atoms) in
    let parts = holds_split v (t.guard.atoms ++ rows q.start.atoms) (rows q.end.atoms) h in
    let start = (holds_split v t.guard.atoms (rows q.start.atoms) parts.0).1 in
    holds_append (valuation_of (values_of v t.entry) exit) q.start.atoms q.end.atoms
    (entries_met g.params g.exits few few_exits t v q.start.atoms exit fits.start_names (hold-sums v (reading t.slots t.entry) q.start.atoms
    start))
    (end_met g.params g.exits few few_exits t v q.exit q.end.atoms fits.end_names (hold-sums v (reading t.slots t.entry) q.end.atoms
    parts.1))

-- a path of the trail, at a point of its guard
found_answers : (gs : List Graph) (g : Graph) (q : Query) → Fits q.proc (arity_of (Some g)) q → (t : Trace) (point : Point) →
    IsFound gs g q t point → (p : Path) → IsPathOf q t p → AnswersYes q p
found_answers gs g q fits t point f p is =
    let v : Valuation = valuation point in
    record {
      same_procedure = is.proc;
      same_exit = is.exit;
      at = v;
      values = f.values;
      guarded = subst (HoldsAll v) (sym is.guard) f.met;
      met = subst (λ (ts : List LinearSum). Meets q (values_of v ts) (values_of v p.outcome)) (sym is.entry)
          (subst (λ (ts : List LinearSum). Meets q (values_of v t.entry) (values_of v ts)) (sym is.outcome)
          (guard_meets g q fits t v f.met));
    }

pub path_answers : (gs : List Graph) (linked : AreGraphs gs) (g : Graph) (m : Model) → IsMarked gs linked g m → (p : Path) →
    IsMarkedPath g m p → MustHolds (graph_runs gs) (arity_in gs p.proc) p × AnswersYes m.query p
path_answers gs linked g m h p is =
    let f = found gs g g.well_formed m.query h.joined.at h.fits m refl h.marks is.mark is.trail is.is_mark in (
      path_holds gs g is.trail m.query p h.joined.at (h.marks.are_trails is.mark.trail is.trail is.is_mark.there).0
          (at_end g is.trail m.query.exit f.node f.failed) is.is_path,
      found_answers gs g m.query h.fits is.trail is.mark.point f p is.is_path,
    )
