use Rattle.std.proofs.Common.{◌≡◌, ◌++◌, string_bytes}
use Rattle.std.specs.List.{flat_map}
use Rattle.workload_gen.specs.Workload.{call_of, numbers}
use Rattle.workload_gen.proofs.Numbered.{left}
use Rattle.workload_gen.proofs.text.push_calls.Given as goal

abbrev pub invariant-loop-index : goal.invariant-loop-index
invariant-loop-index l =
    string_bytes l.text ++ flat_map call_of (left l.index-counter l.number) ≡ string_bytes l.initial.text ++ flat_map call_of
    (numbers l.number)
