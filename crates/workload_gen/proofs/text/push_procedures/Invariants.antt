use Rattle.std.proofs.Common.{◌≡◌, ◌++◌, map, string_bytes}
use Rattle.workload_gen.specs.Workload.{numbers, procedure_line, text_of}
use Rattle.workload_gen.proofs.Numbered.{left}
use Rattle.workload_gen.proofs.text.push_procedures.Given as goal

abbrev pub invariant-loop-index : goal.invariant-loop-index
invariant-loop-index l =
    string_bytes l.text ++ text_of (map procedure_line (left l.index l.number)) ≡ string_bytes l.initial.text
    ++ text_of (map procedure_line (numbers l.number))
