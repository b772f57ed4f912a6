use Rattle.std.proofs.Common.{◌≡◌, take}
use Rattle.shadow_elim.specs.steps.Lists.{listed}
use Rattle.shadow_elim.proofs.lists.listed.Given as goal

abbrev pub invariant-loop-list : goal.invariant-loop-list
invariant-loop-list l = l.listed ≡ listed (take l.list-index l.lists)
