use Rattle.std.proofs.Common.{List, arith, sym, subst}
use Rattle.shadow_elim.specs.declared.row.Row.{Row}
use Rattle.shadow_elim.specs.steps.Making.{AreInPlace}
use Rattle.shadow_elim.proofs.InPlace.{in-place-snoc}
use Rattle.shadow_elim.proofs.eliminate.push_row.Goals as goal

pub returns-in_ok-push-in-Ok-clause-numbers : goal.returns-in_ok-push-in-Ok-clause-numbers
returns-in_ok-push-in-Ok-clause-numbers c =
    let old = c.args.rows.now in
    let row : Row = record { term = c.args.term; number = c.in-Ok.number } in
    subst (λ (rows : List Row). AreInPlace 0 rows) (sym c.in_ok-push-in-Ok.ensures.items)
    (in-place-snoc 0 old.items row c.requires (omega (arith, old.ok.0, c.in-Ok.ensures, c.len.ensures)))
