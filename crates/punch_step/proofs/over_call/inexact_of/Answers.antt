use Rattle.std.proofs.Common.{Option, ap, ◌∙◌}
use Rattle.shadow_elim.specs.Projection.{gives}
use Rattle.shadow_elim.specs.Shadows.{pair_rows}
use Rattle.shadow_elim.specs.declared.shadow.Pair.{Pair}
use Rattle.punch_step.proofs.Serving.{inexact_must_limit}
use Rattle.punch_step.proofs.over_call.inexact_of.Goals as goal

pub inexact_preimage-requires-clause-pair : goal.inexact_preimage-requires-clause-pair
inexact_preimage-requires-clause-pair c =
    let rows = c.args.pre.now.cube.atoms in
    (rows, c.requires.pre ∙ ap (λ (x : Option Pair). gives rows (pair_rows x)) c.in-Some.is)

pub returns-in_ok-inexact_preimage-in-Some : goal.returns-in_ok-inexact_preimage-in-Some
returns-in_ok-inexact_preimage-in-Some c =
    let e = c.in_ok-inexact_preimage-in-Some.ensures in
    inexact_must_limit c.args.frontier.now c.requires.served.0 c.args.must.now c.in_ok-inexact_preimage-in-Some.field-0 c.requires.served.1
    c.requires.numbers e.right e.question
