use Rattle.std.proofs.Common.{sym, ap, ◌∙◌}
use Rattle.std.specs.Prelude.{slice_get}
use Rattle.bundle_check.proofs.Judging.{first_asks}
use Rattle.bundle_check.proofs.check.is_of_assertion.Goals as goal

pub returns-in-Some : goal.returns-in-Some
returns-in-Some c =
    first_asks c.args.main c.args.bundle.now c.in-Some.claim.now
    (ap (λ xs. slice_get xs 0) (sym c.deref.ensures.value) ∙ sym c.in-Some.ensures.value) c.asks_of.result c.asks_of.ensures
