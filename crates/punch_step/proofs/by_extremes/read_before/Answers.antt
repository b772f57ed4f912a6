use Rattle.std.proofs.Common.{◌≡◌, ◌++◌, ◌+◌, ◌-◌, List, Option, length, subst}
use Rattle.std.specs.Prelude.{IfSome}
use Rattle.std.specs.List.{range_with_len}
use Rattle.linear_formula.specs.declared.extremes.Extremes.{Extremes}
use Rattle.linear_formula.specs.declared.formula.Atom.{Atom}
use Rattle.linear_formula.specs.declared.formula.Cube.{Cube}
use Rattle.query_rules.specs.Rows.{IsPreimage}
use Rattle.punch_step.proofs.PreOutlines.{is_pre_outline}
use Rattle.punch_step.proofs.by_extremes.read_before.Goals as goal

pub returns : goal.returns
returns c =
    let f = c.args.frontier.now in
    let t = c.args.target.now in
    let e : Extremes = record { cube = c.in-Some.cube; numbers = c.in_ok-numbers.numbers; count = c.in_ok-numbers.count } in
    is_pre_outline f t e c.requires.can c.requires.target c.requires.keeps
    (subst (λ (o : Option Cube). IfSome o (λ q. IsPreimage f.edge.now t.cube.atoms q.atoms)) c.in-Some.is c.in_ok-cube.ensures)
    (subst (λ (xs : List Atom). e.numbers.items ≡ t.numbers.items ++ range_with_len t.count (length xs - length t.numbers.items))
    c.as_slice.ensures.value c.in_ok-numbers.ensures.numbers)
    (subst (λ (xs : List Atom). e.count ≡ t.count + (length xs - length t.numbers.items)) c.as_slice.ensures.value
    c.in_ok-numbers.ensures.count)
