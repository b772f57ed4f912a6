use Rattle.std.proofs.Common.{◌≡◌, ◌+◌, ◌++◌}
use Rattle.std.specs.List.{range_with_len}
use Rattle.punch_step.proofs.by_extremes.numbers_with.Given as goal

abbrev pub invariant-loop : goal.invariant-loop
invariant-loop l =
    (l.numbers.items ≡ l.initial.numbers.items ++ range_with_len l.initial.count l.counter)
    × (l.count ≡ l.initial.count + l.counter)
