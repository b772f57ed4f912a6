use Rattle.std.proofs.Common.{sym, ◌∙◌}
use Rattle.bolt_workers.proofs.Crews.{over_now}
use Rattle.bolt_workers.proofs.crew.finish.Goals as goal

pub returns-clause-over : goal.returns-clause-over
returns-clause-over g c =
    over_now c.args.desk c.finish-board.result c.requires.ended c.reached.ensures c.finish-board.ensures.program
    c.finish-board.ensures.begins
    (sym c.stopped.ensures ∙ c.if-stopped.false)
