use Rattle.std.proofs.Common.{◌≡◌, false, take}
use Rattle.query_rules.specs.Paths.{is_marked}
use Rattle.bolt_core.proofs.verdict.inputs_found.Given as goal

abbrev pub invariant-loop-mark : goal.invariant-loop-mark
invariant-loop-mark l = is_marked (take l.mark-index l.mark-items) l.target ≡ false
