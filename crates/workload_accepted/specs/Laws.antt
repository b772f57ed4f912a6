-- Workloads as sources.
use Rattle.std.specs.Prelude.{◌≡◌, ℕ, ◌+◌, ◌≤◌, length}
use Rattle.c_tree.specs.Syntax.{PureProgram}
use Rattle.workload_gen.specs.Workload.{text_of, workload_lines}
use Rattle.source_program.specs.Source.{IsAccepted}

-- The text of the workload of each number from 1 to 60 is accepted. Its program has as many
-- assertions, one in each of as many procedures, and `main` beside them.
abbrev pub WorkloadsAreAccepted : Type 0
WorkloadsAreAccepted =
    (n : ℕ) → 1 ≤ n → n ≤ 60 →
    (P : PureProgram) × IsAccepted (text_of (workload_lines n)) P × (length P.asserts ≡ n)
    × (length P.procedures ≡ n + 1)
