use Rattle.std.proofs.Common.{◌≡◌, length}
use Rattle.std.specs.Vec.Iter.{into_iter_items, into_iter_len}
use Rattle.shadow_elim.proofs.LastPlaces.{AreDone}
use Rattle.shadow_elim.proofs.reduction.Reduction.finish.Given as goal

abbrev pub invariant-loop-place : goal.invariant-loop-place
invariant-loop-place l =
    AreDone l.fn.self l.kept.items (into_iter_items l.place-iterator.iter) l.place-iterator.count
    × (length (into_iter_items l.place-iterator.iter) ≡ into_iter_len l.place-iterator.iter)
