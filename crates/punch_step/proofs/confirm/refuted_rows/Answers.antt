use Rattle.std.proofs.Common.{subst}
use Rattle.punch_step.specs.Sights.{IsDecision}
use Rattle.punch_step.proofs.Deciding.{refuted_copy}
use Rattle.punch_step.proofs.confirm.refuted_rows.Goals as goal

pub returns-in-Never : goal.returns-in-Never
returns-in-Never c =
    let rows = c.args.rows.atoms in
    let d = subst (IsDecision rows) c.in-Never.is c.in_ok-proof.ensures in
    refuted_copy rows c.in-Never.proof.now c.in_ok-copy.field-0 c.in_ok-copy.ensures d.1
