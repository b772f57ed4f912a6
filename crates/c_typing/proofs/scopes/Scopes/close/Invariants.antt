use Rattle.std.proofs.Common.{◌≡◌, length}
use Rattle.c_typing.specs.steps.Tables.{scopes_of, outer_of}
use Rattle.c_typing.proofs.scopes.Scopes.close.Given as goal

abbrev pub invariant-loop-entry : goal.invariant-loop-entry
invariant-loop-entry l = outer_of (scopes_of l.self) ≡ outer_of (scopes_of l.fn.self)

abbrev pub decreases-loop-entry : goal.decreases-loop-entry
decreases-loop-entry l = length l.self.entries.items
