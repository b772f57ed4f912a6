use Rattle.std.proofs.Common.{rules}
use Rattle.outer_io.proofs.Known.{copied}
use Rattle.outer_io.proofs.memory.MemSourceSource.read.Goals as goal

pub returns-clause-bytes : goal.returns-clause-bytes
returns-clause-bytes c =
    rw (← c.self.view_is)
    (copied c.self.inside.bytes.items c.args.buf.now c.copy_from_slice.new.self c.self.inside.at c.min-count.result c.self.inside.piece
    c.self.invariant.0 c.self.invariant.1 c.requires (search rules) (search rules))
