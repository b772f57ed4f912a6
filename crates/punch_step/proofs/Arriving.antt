-- What extreme rows tell of the end of a trail.
use Rattle.std.proofs.Common.{◌≡◌, ℕ, List, length, None, sym, subst, ◌∙◌}
use Rattle.std.specs.Prelude.{IfSome, Option, Some}
use Rattle.linear_formula.specs.LinearSum.{Is64, valuation}
use Rattle.linear_formula.specs.Formula.{HoldsAll}
use Rattle.linear_formula.specs.Extremes.{AreExtremes, IsOutline}
use Rattle.linear_formula.specs.declared.formula.Atom.{Atom}
use Rattle.linear_formula.specs.declared.extremes.Extremes.{Extremes}
use Rattle.linear_formula.proofs.ExtremeRows.{extremes-hold, extremes-terms}
use Rattle.infeasible_cert.specs.Refutation.{refutation_of}
use Rattle.infeasible_cert.specs.Right.{Refutes}
use Rattle.infeasible_cert.specs.Terms.{HasTerms}
use Rattle.infeasible_cert.specs.declared.certificate.Certificate.{Certificate}
use Rattle.shadow_elim.specs.Sums.{first_wide, row_sums, rows_of_sums}
use Rattle.shadow_elim.proofs.ReadExtremes.{read-extremes}
use Rattle.flow_graph.specs.Readings.{reading}
use Rattle.summary_form.specs.declared.query.Query.{Query}
use Rattle.must_region.specs.Traces.{Trace}
use Rattle.query_rules.specs.Crossings.{ComesInto, Crossing, IsRead}
use Rattle.query_rules.specs.Rows.{IsRefutedBy, seen_at}
use Rattle.query_rules.specs.declared.step.Step.{Step}
use Rattle.punch_step.specs.ByExtremes.{AreSeen, ArrivesAt, IfComes}
use Rattle.punch_step.specs.Frontiers.{MadeAt}
use Rattle.punch_step.specs.declared.by_extremes.Arrival.{Arrival}
use Rattle.punch_step.specs.declared.by_extremes.Arrival.TheVariants as arrival
use Rattle.punch_step.specs.declared.carried.Carried.TheVariants as carried
use Rattle.punch_step.specs.declared.plain.Frontier.{Frontier}
use Rattle.weakest_pre.proofs.PreExtremes.{length_read}
use Rattle.punch_step.proofs.Deciding.{crossed_of_arrival}

-- extreme rows, read at the end of a trail, are the extremes of all rows, read there
pub outline_read : (t : Trace) (rows e : Extremes) → IsRead t rows.cube.atoms →
    e.cube.atoms ≡ rows_of_sums (row_sums (reading t.slots t.entry) rows.cube.atoms) → e.numbers.items ≡ rows.numbers.items →
    e.count ≡ rows.count → (all : List Atom) → IsOutline rows all →
    IsRead t all × IsOutline e (rows_of_sums (row_sums (reading t.slots t.entry) all))
outline_read t rows e read atoms numbers count all h =
    let by = reading t.slots t.entry in
    let x = read-extremes by rows.numbers.items rows.cube.atoms all h.extremes read in (
      x.0,
      record {
        count = count ∙ (h.count ∙ sym (length_read by all));
        extremes = subst (λ (ns : List ℕ). AreExtremes ns e.cube.atoms (rows_of_sums (row_sums by all))) (sym numbers)
            (subst (λ (rs : List Atom). AreExtremes rows.numbers.items rs (rows_of_sums (row_sums by all))) (sym atoms) x.1);
      },
    )

-- a certificate of extreme rows, by their numbers, refutes all rows
pub never_told : (numbers : List ℕ) (count : ℕ) (rows : List Atom) (before after : Certificate) →
    ((rows all : List Atom) → AreExtremes numbers rows all → count ≡ length all → Refutes rows (refutation_of before) →
    Refutes all (refutation_of after)) →
    (HasTerms (refutation_of before) → HasTerms (refutation_of after)) → IsRefutedBy rows before → (all : List Atom) →
    AreExtremes numbers rows all → count ≡ length all →
    IsRefutedBy all after
never_told numbers count rows before after refutes terms r all x n = record {
  right = refutes rows all x n r.right;
  atoms_terms = extremes-terms numbers rows all x r.atoms_terms;
  terms = terms r.terms;
}

-- what meets the extreme rows of what is seen of a target meets all that is seen of it
pub arrives_by : (q : Query) (t : Trace) (all : List Atom) (e : Extremes) → AreSeen q t all e → (a : Arrival) →
    IfComes (λ at. Is64 (valuation at) × HoldsAll (valuation at) e.cube.atoms) a → IfComes (ArrivesAt q t all) a
arrives_by q t all e s (arrival.Comes at) h =
    (s.0, h.0, extremes-hold (valuation at) e.numbers.items e.cube.atoms (seen_at q t all) s.1.extremes h.1)
arrives_by q t all e s arrival.Never h = tt
arrives_by q t all e s arrival.Unknown h = tt

-- a trail that was carried over, and arrives in the target, comes into it
pub comes_by : (q : Query) (t : Trace) (c : Crossing) → (c.carried t).entry ≡ t.entry → (u : Trace) → u ≡ c.carried t →
    first_wide (c.carrying t) ≡ None → (a : Arrival) → IfComes (ArrivesAt q u c.target) a → IfComes (ComesInto q t c) a
comes_by q t c entry u is none (arrival.Comes at) h = crossed_of_arrival q t c entry u is none (carried.Comes at) h
comes_by q t c entry u is none arrival.Never h = tt
comes_by q t c entry u is none arrival.Unknown h = tt

-- a step that is made whatever the number of trails is
pub made_of_any : (f : Frontier) (number : ℕ) (o : Option Step) → IfSome o (λ s. (n : ℕ) → MadeAt f n s) → IfSome o (MadeAt f number)
made_of_any f number None h = tt
made_of_any f number (Some s) h = h number
