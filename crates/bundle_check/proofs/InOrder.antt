-- Moves one after the other.
use Rattle.std.proofs.Common.{◌≡◌, List, [], ◌∷◌, ◌++◌, refl}
use Rattle.flow_graph.specs.declared.graph.Graph.{Graph}
use Rattle.summary_form.specs.declared.query.ExitKind.{ExitKind}
use Rattle.summary_form.specs.declared.query.Query.{Query}
use Rattle.may_partition.specs.Parted.{Parted}
use Rattle.may_partition.proofs.Pieces.{get_left}
use Rattle.proof_bundle.specs.Claims.{PureMove, split, kill, kill_call}
use Rattle.bundle_check.specs.RightClaims.{AllMove, Moves, moved, moved_all}

pub all_append : (g : Graph) (exit : ExitKind) (claims : List Query) (ms ns : List PureMove) (p : Parted) → AllMove g exit claims ms p →
    AllMove g exit claims ns (moved_all ms p) → AllMove g exit claims (ms ++ ns) p
all_append g exit claims [] ns p h k = k
all_append g exit claims (m ∷ ms) ns p h k = (h.0, all_append g exit claims ms ns (moved m p) h.1 k)

pub moved_append : (ms ns : List PureMove) (p : Parted) → moved_all (ms ++ ns) p ≡ moved_all ns (moved_all ms p)
moved_append [] ns p = refl
moved_append (m ∷ ms) ns p = moved_append ms ns (moved m p)

move_longer : (g : Graph) (exit : ExitKind) (claims more : List Query) (m : PureMove) (p : Parted) → Moves g exit claims m p →
    Moves g exit (claims ++ more) m p
move_longer g exit claims more (split k atoms) p h = h
move_longer g exit claims more (kill k c) p h = h
move_longer g exit claims more (kill_call k n cs) p h = record {
  live = h.live;
  asks = h.asks;
  claim = h.claim;
  there = get_left claims n more h.claim h.there;
  of_procedure = h.of_procedure;
  of_exit = h.of_exit;
  shown = h.shown;
}

pub all_longer : (g : Graph) (exit : ExitKind) (claims more : List Query) (ms : List PureMove) (p : Parted) → AllMove g exit claims ms p →
    AllMove g exit (claims ++ more) ms p
all_longer g exit claims more [] p h = h
all_longer g exit claims more (m ∷ ms) p h =
    (move_longer g exit claims more m p h.0, all_longer g exit claims more ms (moved m p) h.1)
