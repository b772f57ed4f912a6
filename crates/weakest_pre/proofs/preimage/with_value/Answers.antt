use Rattle.std.proofs.Common.{◌≡◌, ◌++◌, ◌∙◌, List, None, ap, subst}
use Rattle.linear_formula.specs.declared.formula.Atom.{Atom}
use Rattle.linear_formula.specs.declared.formula.Cube.{Cube}
use Rattle.shadow_elim.specs.Projection.{gives, summed, IfRefused}
use Rattle.shadow_elim.specs.Shadows.{pair_rows}
use Rattle.shadow_elim.specs.Sums.{first_wide, row_sums, IsFirstWide}
use Rattle.shadow_elim.proofs.Projecting.{passed-on}
use Rattle.shadow_elim.proofs.Reading.{limit_in_front, limit_behind}
use Rattle.flow_graph.specs.Readings.{one_reading}
use Rattle.weakest_pre.specs.Preimage.{assigned_sums, range_sums}
use Rattle.weakest_pre.proofs.Assigning.{both-given}
use Rattle.weakest_pre.proofs.preimage.with_value.Goals as goal

pub returns-in_err-read_onto-clause-limit : goal.returns-in_err-read_onto-clause-limit
returns-in_err-read_onto-clause-limit c =
    let by = one_reading c.args.reading.now.column c.args.reading.now.by in
    let sums = row_sums by c.args.target.now.atoms in
    let more = range_sums c.args.reading.now.by in
    let e = c.in_err-read_onto.field-0.0 in
    passed-on (IsFirstWide sums) (IsFirstWide (sums ++ more)) c.from_residual-in_err-read_onto.result e
    c.from_residual-in_err-read_onto.ensures.1 (limit_in_front sums more)
    (subst (λ (l : List Atom). IfRefused e (IsFirstWide (row_sums by l))) c.as_slice-atoms.ensures.value c.in_err-read_onto.ensures.limit)

pub returns-in_err-range-clause-limit : goal.returns-in_err-range-clause-limit
returns-in_err-range-clause-limit c =
    let by = one_reading c.args.reading.now.column c.args.reading.now.by in
    let sums = row_sums by c.args.target.now.atoms in
    let more = range_sums c.args.reading.now.by in
    let e = c.in_err-range.field-0.0 in
    let none = subst (λ (l : List Atom). first_wide (row_sums by l) ≡ None) c.as_slice-atoms.ensures.value
    c.in_ok-read_onto.ensures.decided in
    passed-on (IsFirstWide more) (IsFirstWide (sums ++ more)) c.from_residual-in_err-range.result e
    c.from_residual-in_err-range.ensures.1 (λ k. limit_behind sums more k none) c.in_err-range.ensures.limit

pub returns-clause-rows : goal.returns-clause-rows
returns-clause-rows c =
    let slot = c.args.reading.now.column in
    let value = c.args.reading.now.by in
    let atoms = c.as_slice-atoms.result.now in
    let rows = c.exact.result.cube.atoms in
    let pair = pair_rows c.exact.result.inexact in
    subst (λ (l : List Atom). summed (assigned_sums slot value l) (λ rs. gives rs None) ≡ gives rows pair) c.as_slice-atoms.ensures.value
    (both-given (row_sums (one_reading slot value) atoms) (range_sums value) c.in_ok-rows.rows c.read_onto.new.rows
    c.in_ok-range.range.atoms rows pair c.in_ok-read_onto.ensures.decided c.in_ok-range.ensures.decided c.in_ok-rows.ensures
    c.in_ok-read_onto.ensures.rows c.in_ok-range.ensures.rows (ap (λ (d : Cube). d.atoms) c.exact.ensures.rows ∙ c.in_ok-append.ensures)
    (ap pair_rows c.exact.ensures.exact))
