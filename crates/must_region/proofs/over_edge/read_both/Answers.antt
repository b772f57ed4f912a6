use Rattle.std.proofs.Common.{◌≡◌, ◌++◌, List, None, subst}
use Rattle.linear_formula.specs.declared.formula.Atom.{Atom}
use Rattle.shadow_elim.specs.Projection.{IfRefused}
use Rattle.shadow_elim.specs.Sums.{first_wide, row_sums, IsFirstWide}
use Rattle.shadow_elim.proofs.Projecting.{passed-on}
use Rattle.shadow_elim.proofs.Reading.{limit_in_front, limit_behind, first_behind}
use Rattle.flow_graph.specs.Readings.{reading}
use Rattle.must_region.proofs.over_edge.read_both.Goals as goal

pub returns-in_err-read_onto-clause-limit : goal.returns-in_err-read_onto-clause-limit
returns-in_err-read_onto-clause-limit c =
    let by = reading c.args.at_end.now.slots.now c.args.at_end.now.entry.now in
    let first = row_sums by c.args.start.now.atoms in
    let second = row_sums by c.args.end.now.atoms in
    let e = c.in_err-read_onto.field-0.0 in
    passed-on (IsFirstWide first) (IsFirstWide (first ++ second)) c.from_residual-in_err-read_onto.result e
    c.from_residual-in_err-read_onto.ensures.1 (limit_in_front first second)
    (subst (λ (l : List Atom). IfRefused e (IsFirstWide (row_sums by l))) c.as_slice-first.ensures.value c.in_err-read_onto.ensures.limit)

pub returns-in_err-read_onto-2-clause-limit : goal.returns-in_err-read_onto-2-clause-limit
returns-in_err-read_onto-2-clause-limit c =
    let by = reading c.args.at_end.now.slots.now c.args.at_end.now.entry.now in
    let first = row_sums by c.args.start.now.atoms in
    let second = row_sums by c.args.end.now.atoms in
    let e = c.in_err-read_onto-2.field-0.0 in
    let none = subst (λ (l : List Atom). first_wide (row_sums by l) ≡ None) c.as_slice-first.ensures.value
    c.in_ok-read_onto.ensures.decided in
    passed-on (IsFirstWide second) (IsFirstWide (first ++ second)) c.from_residual-in_err-read_onto-2.result e
    c.from_residual-in_err-read_onto-2.ensures.1 (λ k. limit_behind first second k none)
    (subst (λ (l : List Atom). IfRefused e (IsFirstWide (row_sums by l))) c.as_slice-second.ensures.value
    c.in_err-read_onto-2.ensures.limit)

pub returns-clause-decided : goal.returns-clause-decided
returns-clause-decided c =
    let by = reading c.args.at_end.now.slots.now c.args.at_end.now.entry.now in
    first_behind (row_sums by c.args.start.now.atoms) (row_sums by c.args.end.now.atoms) None
    (subst (λ (l : List Atom). first_wide (row_sums by l) ≡ None) c.as_slice-first.ensures.value c.in_ok-read_onto.ensures.decided)
    (subst (λ (l : List Atom). first_wide (row_sums by l) ≡ None) c.as_slice-second.ensures.value c.in_ok-read_onto-2.ensures.decided)
