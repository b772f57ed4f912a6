use Rattle.std.proofs.Common.{◌≡◌, take, length}
use Rattle.std.specs.Prelude.{flat_map}
use Rattle.infeasible_cert.specs.Right.{rows_of}
use Rattle.lia_solver.specs.steps.Gathered.{ArePut}
use Rattle.lia_solver.specs.steps.Numbers.{numbered_from}
use Rattle.lia_solver.proofs.gather.put_blocks.Given as goal

abbrev pub invariant-loop-block : goal.invariant-loop-block
invariant-loop-block l =
    (l.next ≡ length (flat_map (λ b. b) (take l.block-index l.blocks)))
    × ArePut (numbered_from 0 (rows_of (flat_map (λ b. b) (take l.block-index l.blocks)))) l.initial.table l.table
