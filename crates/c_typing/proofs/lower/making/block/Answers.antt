use Rattle.c_tree.proofs.Rows.{block_of}
use Rattle.c_typing.proofs.lower.making.block.Goals as goal

pub returns : goal.returns
returns c = block_of c.args.made
