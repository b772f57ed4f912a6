-- Open ways are open paths of the state, and distances say which regions are reached.
use Rattle.std.proofs.Common.{◌≡◌, ◌≢◌, ℕ, ◌==◌, Bool, true, false, not, ◌&&◌, List, [], ◌∷◌, ◌++◌, Option, Some, None, arith, refl, sym, subst, ap, ◌∙◌}
use Rattle.std.specs.Prelude.{IsTrue, ◌↔◌, slice_index}
use Rattle.std.specs.List.{list_all}
use borrow.Author.Tests.{eqb-true, eqb-false}
use Rattle.linear_formula.proofs.Limits.{both, both_in, not_so}
use Rattle.abstract_path.specs.Routes.{is_at}
use Rattle.flow_graph.specs.declared.graph.Graph.{Graph}
use Rattle.may_partition.specs.declared.region.RegionEdge.{RegionEdge}
use Rattle.may_partition.specs.Parted.{Parted}
use Rattle.may_partition.specs.Shown.{is_live}
use Rattle.query_rules.specs.Steps.{Model}
use Rattle.query_rules.specs.Paths.{IsOpenPath, IsPath, IsTurn, is_marked, is_shut, leaves_marked}
use Rattle.punch_step.specs.steps.Far.{AreMeasured, IfLastCrossing, IsLastCrossing, IsOpenWay, crosses}
use Rattle.punch_step.specs.steps.Reaching.{IfTurn, IsGround, IsReachedWithout, Lists}
use Rattle.punch_step.proofs.FarAway.{far_enough, way_from}

module _ (edges shut : List RegionEdge) (p : Parted) (bad : RegionEdge → Bool) (lists : Lists edges p)
    (same : (e : RegionEdge) → is_live shut e ≡ bad e) where
  pub way_of_path : (a : ℕ) (es : List RegionEdge) (b : ℕ) → IsPath p a es b → IsTrue (list_all (λ e. not (bad e)) es) →
      IsOpenWay edges shut a es b
  way_of_path a [] b h k = h
  way_of_path a (e ∷ es) b h k =
      let r = both (not (bad e)) (list_all (λ x. not (bad x)) es) k in
      ((lists e ∙ h.0, same e ∙ not_so (bad e) r.0), h.1, way_of_path e.to es b h.2 r.1)

  pub path_of_way : (a : ℕ) (es : List RegionEdge) (b : ℕ) → IsOpenWay edges shut a es b → IsPath p a es b
      × IsTrue (list_all (λ e. not (bad e)) es)
  path_of_way a [] b h = (h, refl)
  path_of_way a (e ∷ es) b h =
      let r = path_of_way e.to es b h.2 in (
        (sym (lists e) ∙ h.0.0, h.1, r.0),
        both_in (not (bad e)) (list_all (λ x. not (bad x)) es) (ap not (sym (same e) ∙ h.0.1)) r.1,
      )

  -- a distance says whether the target is reached
  pub far_reached : (n target : ℕ) (far : List ℕ) (way : List RegionEdge) → AreMeasured n edges shut target far way → (r : ℕ) →
      slice_index far r ≢ 0 ↔ IsReachedWithout p bad r target
  far_reached n target far way h r = (
    λ z. let w = way_from edges shut far way target h.lead (slice_index far r) r (omega arith) z in
        let k = path_of_way r w.0 target w.1 in
        (w.0, k.0, k.1),
    λ w. (far_enough edges shut far target h.least.bounded h.least.at_target r w.0 (way_of_path r w.0 target w.1 w.2)).0,
  )

pub bit_of : (k n : ℕ) → k ≡ n → (A : Type 0) → n ≢ 0 ↔ A → IsTrue (not (k == 0)) ↔ A
bit_of k n s A h = by (k == 0) refl where
  by : (b : Bool) → (k == 0) ≡ b → IsTrue (not b) ↔ A
  by true e = (λ t. absurd cc, λ a. absurd (h.1 a (sym s ∙ eqb-true k 0 e)))
  by false e = (λ t. h.0 (λ z. eqb-false k 0 e (s ∙ z)), λ a. refl)

pub not_reached : (n : ℕ) (A : Type 0) → n ≡ 0 → n ≢ 0 ↔ A → IsTrue false ↔ A
not_reached n A z h = (λ t. absurd cc, λ a. absurd (h.1 a z))

module _ (g : Graph) (m : Model) (edges shut : List RegionEdge) (target : ℕ) (marked : List Bool) (ground : IsGround edges target g m)
    (same : (e : RegionEdge) → is_live shut e ≡ is_shut m e) (marks : (r : ℕ) → is_at marked r ≡ is_marked m.marks r) where
  crosses_is : (e : RegionEdge) → crosses marked e ≡ leaves_marked m.marks e
  crosses_is e = ap (λ x. x && not (is_at marked e.to)) (marks e.from) ∙ ap (λ x. is_marked m.marks e.from && not x) (marks e.to)

  all_same : (es : List RegionEdge) → IsTrue (list_all (λ e. not (crosses marked e)) es) → IsTrue (list_all (λ e. not
      (leaves_marked m.marks e)) es)
  all_same [] h = refl
  all_same (e ∷ es) h =
      let r = both (not (crosses marked e)) (list_all (λ x. not (crosses marked x)) es) h in
      both_in (not (leaves_marked m.marks e)) (list_all (λ x. not (leaves_marked m.marks x)) es) (subst (λ b. IsTrue (not b)) (crosses_is e)
      r.0) (all_same es r.1)

  pub turn_of : (k : RegionEdge) → IsLastCrossing edges shut marked target k → IsTurn g m k
  turn_of k w = record {
    before = w.before;
    behind = w.behind;
    is_open = subst (λ b. IsOpenPath m 0 (w.before ++ k ∷ w.behind) b) ground.is_target
        (path_of_way edges shut m.parted (is_shut m) ground.lists same 0 (w.before ++ k ∷ w.behind) target w.is_way);
    frontier = subst IsTrue (crosses_is k) w.frontier;
    last = all_same w.behind w.last;
    shortest = λ es o.
        let v = subst (λ b. IsOpenPath m 0 es b) (sym ground.is_target) o in
        w.shortest es (way_of_path edges shut m.parted (is_shut m) ground.lists same 0 es target v.0 v.1);
  }

  pub if_turn : (o : Option RegionEdge) → IfLastCrossing edges shut marked target o → IfTurn g m o
  if_turn (Some k) w = turn_of k w
  if_turn None none = λ es o.
      let v = subst (λ b. IsOpenPath m 0 es b) (sym ground.is_target) o in
      none es (way_of_path edges shut m.parted (is_shut m) ground.lists same 0 es target v.0 v.1)
