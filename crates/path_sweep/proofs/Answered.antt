-- What the end of a sweep says by itself.
use Rattle.std.proofs.Common.{◌≡◌, ℕ, List, refl, subst}
use Rattle.std.specs.Prelude.{◌≢◌}
use Rattle.shadow_elim.specs.LimitKinds.{kind_of}
use Rattle.shadow_elim.specs.RightLimit.{IsRight}
use Rattle.shadow_elim.specs.declared.limit.LimitKind.TheVariants as kind
use Rattle.flow_graph.specs.declared.graph.Graph.{Graph}
use Rattle.path_sweep.specs.Ends.{ComesWhole, EndsSo, HasRightLimit, IsEnd}
use Rattle.path_sweep.specs.declared.swept.Swept.{Swept}
use Rattle.path_sweep.specs.declared.swept.SweepEnd.{SweepEnd}
use Rattle.path_sweep.specs.declared.swept.SweepEnd.TheVariants as how
use Rattle.path_sweep.proofs.Ending.{sweeps_are_whole}
use Rattle.path_sweep.proofs.Limiting.{limits_are_right}

module _ (gs : List Graph) (main edges : ℕ) (counted : List (List ℕ)) where
  whole_at : (end : SweepEnd) → IsEnd gs main edges counted end → ComesWhole gs main edges end
  whole_at how.Whole e clear paths those few = refl
  whole_at how.More e clear paths those few = absurd ((sweeps_are_whole gs main edges clear).1 paths those few counted e)
  whole_at (how.Limit kept) e clear paths those few = absurd ((sweeps_are_whole gs main edges clear).0 counted counted kept e)

  limit_at : (end : SweepEnd) → IsEnd gs main edges counted end → HasRightLimit end
  limit_at how.Whole e kept is = absurd (cc)
  limit_at how.More e kept is = absurd (cc)
  limit_at (how.Limit k) e kept is =
      let same : k ≡ kept = cc in
      subst (λ x. IsRight x × (kind_of x.limit ≢ kind.Inexact)) same (limits_are_right gs main e.path k e.meets)

pub comes_whole : (gs : List Graph) (main asserts edges : ℕ) (s : Swept) → EndsSo gs main asserts edges s → ComesWhole gs main edges s.end
comes_whole gs main asserts edges s e = whole_at gs main edges e.counted s.end e.ends

pub right_limit : (gs : List Graph) (main asserts edges : ℕ) (s : Swept) → EndsSo gs main asserts edges s → HasRightLimit s.end
right_limit gs main asserts edges s e = limit_at gs main edges e.counted s.end e.ends
