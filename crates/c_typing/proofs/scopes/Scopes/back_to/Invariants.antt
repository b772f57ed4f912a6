use Rattle.std.proofs.Common.{◌≡◌, length, take}
use Rattle.c_typing.proofs.scopes.Scopes.back_to.Given as goal

abbrev pub invariant-loop-self : goal.invariant-loop-self
invariant-loop-self l = take l.mark l.self.entries.items ≡ take l.mark l.fn.self.entries.items

abbrev pub decreases-loop-self : goal.decreases-loop-self
decreases-loop-self l = length l.self.entries.items
