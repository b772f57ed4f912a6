use Rattle.punch_step.proofs.Noting.{noted_more}
use Rattle.punch_step.proofs.noted.note.Goals as goal

pub returns-then-region-len : goal.returns-then-region-len
returns-then-region-len c =
    noted_more c.args.partition.now c.args.noted.now.items c.args.edge.now c.requires.noted c.requires.from c.requires.to c.requires.live
