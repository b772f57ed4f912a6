use Rattle.std.proofs.Common.{subst}
use Rattle.std.specs.Prelude.{IfOk}
use Rattle.linear_formula.specs.declared.formula.Cube.{Cube}
use Rattle.bundle_check.specs.steps.Places.{IfPreimage}
use Rattle.bundle_check.proofs.place.preimage_of.Goals as goal

pub returns : goal.returns
returns c =
    subst (λ (x : Cube). IfOk c.preimage_over.result (IfPreimage c.args.over.now x.atoms)) c.in_ok-plain.ensures c.preimage_over.ensures
