-- What distances that follow a state say of its turn.
use Rattle.std.proofs.Common.{◌≡◌, ◌||◌, suc, true, false, List, Option, length, refl, sym, ap, ◌∙◌}
use Rattle.abstract_path.specs.Routes.{is_at}
use Rattle.flow_graph.specs.declared.graph.Graph.{Graph}
use Rattle.summary_form.specs.declared.summary.Summary.{Summary}
use Rattle.may_partition.specs.declared.region.RegionEdge.{RegionEdge}
use Rattle.may_partition.specs.Parted.{end_node}
use Rattle.query_rules.specs.Paths.{is_awaited, is_marked, is_stuck}
use Rattle.query_rules.specs.Seen.{Seen}
use Rattle.query_rules.specs.Steps.{Model}
use Rattle.punch_step.specs.Analysed.{IsAnalysed}
use Rattle.punch_step.specs.declared.distances.Distances.{Distances}
use Rattle.punch_step.specs.steps.Far.{IfLastCrossing}
use Rattle.punch_step.specs.steps.Following.{IsFollowed}
use Rattle.punch_step.specs.steps.Reaching.{IfTurn, IsUnmarked}
use Rattle.punch_step.proofs.OpenWays.{if_turn}
use Rattle.punch_step.proofs.Standing.{unmarked_here}

module _ (gs : List Graph) (table : List Summary) (g : Graph) (s : Seen) (m : Model) (a : IsAnalysed gs table g s m) (d : Distances)
    (f : IsFollowed s d) (is : d.target ≡ suc (end_node g s.query.exit)) (none : is_marked s.marks d.target ≡ false) where
  pub unmarked_now : IsUnmarked (length s.partition.regions) s.partition.edges d.target g m
  unmarked_now = unmarked_here gs table g s m a d.target is (length s.partition.regions) s.partition.edges refl refl none

  pub outside_marked : is_at d.marked.items 0 ≡ true
  outside_marked = f.marked 0 ∙ ap (λ ks. is_marked ks 0) (sym a.shows.marks) ∙ unmarked_now.outside

  pub target_unmarked : is_at d.marked.items d.target ≡ false
  target_unmarked = f.marked d.target ∙ none

  pub turn_now : (o : Option RegionEdge) → IfLastCrossing s.partition.edges d.shut d.marked.items d.target o → IfTurn g m o
  turn_now o w = if_turn g m s.partition.edges d.shut d.target d.marked.items unmarked_now.ground
      (λ e. f.shut e ∙ ap (λ xs. is_stuck xs e || is_awaited s.asked e) (sym a.shows.steps)
      ∙ ap (λ xs. is_stuck m.steps e || is_awaited xs e) (sym a.shows.asked))
      (λ r. f.marked r ∙ ap (λ ks. is_marked ks r) (sym a.shows.marks)) o w
