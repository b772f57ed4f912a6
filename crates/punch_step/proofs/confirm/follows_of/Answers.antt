use Rattle.punch_step.proofs.Pieces.{pieces_follow}
use Rattle.punch_step.proofs.confirm.follows_of.Goals as goal

pub returns : goal.returns
returns c = pieces_follow c.args.marked.now.graph.now c.args.marked.now.source.now.atoms c.args.pre.now.atoms c.args.atoms.now.atoms
    c.as_slice-rows.result.now c.requires c.as_slice-rows.ensures.value c.pieces_refuted.result c.pieces_refuted.ensures
