use Rattle.std.proofs.Common.{◌≤◌, ◌-◌, vec_len}
use Rattle.command_words.proofs.WordsLists.{Reading}
use Rattle.command_words.proofs.words.pieces.Given as goal

abbrev pub invariant-loop-rest : goal.invariant-loop-rest
invariant-loop-rest l = record { few : vec_len l.values ≤ 10000; reading : Reading l.text l.rest l.values.items }

abbrev pub decreases-loop-rest : goal.decreases-loop-rest
decreases-loop-rest l = 10000 - vec_len l.values
