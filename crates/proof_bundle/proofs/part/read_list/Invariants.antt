use Rattle.std.proofs.Common.{◌≡◌, ◌-◌, map}
use Rattle.proof_bundle.specs.steps.Reading.{list_at}
use Rattle.proof_bundle.proofs.Lists.{with_front}
use Rattle.proof_bundle.proofs.part.read_list.Given as goal

abbrev pub invariant-loop : goal.invariant-loop
invariant-loop g l =
    with_front g.T.Part.at (map g.T.Part.pure l.items.items) (list_at g.T.Part.at (l.count - l.counter) l.rest) ≡ list_at g.T.Part.at
    l.count
    l.bytes
