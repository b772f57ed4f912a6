use Rattle.std.proofs.Common.{length, ◌-◌, ◌≤◌}
use Rattle.proof_bundle.proofs.Runs.{Reaches}
use Rattle.proof_bundle.proofs.number.run_len.Given as goal

abbrev pub invariant-loop-len : goal.invariant-loop-len
invariant-loop-len l = record {
  within : l.len ≤ length l.bytes;
  reached : Reaches l.bytes l.len;
}

abbrev pub decreases-loop-len : goal.decreases-loop-len
decreases-loop-len l = length l.bytes - l.len
