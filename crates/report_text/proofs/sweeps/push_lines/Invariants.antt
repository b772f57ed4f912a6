use Rattle.std.proofs.Common.{◌≡◌, ◌++◌, length, drop, map}
use Rattle.std.specs.Prelude.{string_bytes}
use Rattle.report_text.specs.Sweeps.{entry_lines, entry_of}
use Rattle.report_text.proofs.sweeps.push_lines.Given as goal

abbrev pub invariant-loop-place : goal.invariant-loop-place
invariant-loop-place l =
    string_bytes l.text ++ entry_lines l.others (drop (length l.yielded) l.places) (map entry_of (drop (length l.yielded) l.found))
    ≡ string_bytes l.initial.text ++ entry_lines l.others l.places (map entry_of l.found)
