use Rattle.std.proofs.Common.{◌≡◌, ◌++◌, length, drop}
use Rattle.std.specs.Prelude.{string_bytes}
use Rattle.report_text.specs.Report.{lines_of}
use Rattle.report_text.proofs.reports.push_lines.Given as goal

abbrev pub invariant-loop-place : goal.invariant-loop-place
invariant-loop-place l =
    string_bytes l.text ++ lines_of (drop (length l.yielded) l.places) (drop (length l.yielded) l.verdicts) ≡ string_bytes l.initial.text
    ++ lines_of l.places l.verdicts
