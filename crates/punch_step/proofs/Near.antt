-- The nearest region after open edges, edge by edge.
use Rattle.std.proofs.Common.{◌≡◌, ◌≢◌, ◌⊎◌, inl, inr, ⊎_elim, ℕ, ◌≤◌, ◌==◌, Bool, true, false, ◌&&◌, ◌||◌, List, [], ◌∷◌, ◌++◌, arith, refl, sym, subst, ap, ◌∙◌}
use Rattle.std.specs.Prelude.{IsTrue, slice_index}
use borrow.Author.Tests.{eqb-true, eq-eqb}
use Rattle.linear_formula.proofs.Limits.{both, both_in}
use Rattle.may_partition.specs.declared.region.RegionEdge.{RegionEdge}
use Rattle.may_partition.specs.Parted.{same_edge}
use Rattle.may_partition.specs.Shown.{is_live}
use Rattle.may_partition.proofs.ByRegion.{same_itself}
use Rattle.may_partition.proofs.Giving.{live_given}
use Rattle.may_partition.proofs.Kept.{same_is}
use Rattle.may_partition.proofs.Splitting.{or_left, or_right}
use Rattle.punch_step.specs.declared.distances.Distances.{Distances}
use Rattle.punch_step.specs.declared.measure.Reach.{Reach}
use Rattle.punch_step.specs.steps.Far.{AreAtLeast, IsNearest}

-- of these edges
pub record IsNearestOf (xs shut : List RegionEdge) (far : List ℕ) (near : ℕ) : Type 0 where
  pub least : (e : RegionEdge) → IsTrue (is_live xs e) → is_live shut e ≡ false → slice_index far e.to ≢ 0 →
      (near ≢ 0) × (near ≤ slice_index far e.to)
  pub met : near ≢ 0 → (e : RegionEdge) × IsTrue (is_live xs e) × (is_live shut e ≡ false) × (slice_index far e.to ≡ near)

pub nearest_none : (shut : List RegionEdge) (far : List ℕ) → IsNearestOf [] shut far 0
nearest_none shut far = record { least = λ e l. absurd cc; met = λ z. absurd (z refl) }

-- the next one
module _ (xs shut : List RegionEdge) (far : List ℕ) (near : ℕ) (x : RegionEdge) (h : IsNearestOf xs shut far near) where
  parts : (e : RegionEdge) → IsTrue (is_live (xs ++ x ∷ []) e) → IsTrue (is_live xs e) ⊎ (x ≡ e)
  parts e t = by (is_live xs e) refl (subst IsTrue (live_given xs x e) t) where
    by : (b : Bool) → is_live xs e ≡ b → IsTrue (is_live xs e || same_edge x e) → IsTrue (is_live xs e) ⊎ (x ≡ e)
    by true s u = inl s
    by false s u = inr (same_is x e (sym (ap (λ b. b || same_edge x e) s) ∙ u))

  before : (e : RegionEdge) → IsTrue (is_live xs e) → IsTrue (is_live (xs ++ x ∷ []) e)
  before e t = subst IsTrue (sym (live_given xs x e)) (or_left (is_live xs e) (same_edge x e) t)

  here : IsTrue (is_live (xs ++ x ∷ []) x)
  here = subst IsTrue (sym (live_given xs x x)) (or_right (is_live xs x) (same_edge x x) (same_itself x))

  -- the edge is nearer
  pub nearest_here : (new : ℕ) → new ≡ slice_index far x.to → new ≢ 0 → (near ≢ 0 → new ≤ near) → is_live shut x ≡ false →
      IsNearestOf (xs ++ x ∷ []) shut far new
  nearest_here new is some less open_x = record {
    least = λ e t o z. ⊎_elim (λ k. let w = h.least e k o z in (some, omega (arith, less w.0, w.1)))
        (λ s. (some, omega (arith, is, ap (λ (y : RegionEdge). slice_index far y.to) s))) (parts e t);
    met = λ z. (x, here, open_x, sym is);
  }

  -- it isn't
  pub nearest_stays : (slice_index far x.to ≢ 0 → is_live shut x ≡ false → (near ≢ 0) × (near ≤ slice_index far x.to)) →
      IsNearestOf (xs ++ x ∷ []) shut far near
  nearest_stays k = record {
    least = λ e t o z. ⊎_elim (λ b. h.least e b o z)
        (λ s. subst (λ (y : RegionEdge). slice_index far y.to ≢ 0 → is_live shut y ≡ false → (near ≢ 0) × (near ≤ slice_index far y.to)) s k
        z o)
        (parts e t);
    met = λ z. let w = h.met z in (w.0, before w.0 w.1, w.2, w.3);
  }

-- of all that leave a region
pub nearest_of : (edges xs shut : List RegionEdge) (far : List ℕ) (region near : ℕ) →
    ((e : RegionEdge) → is_live xs e ≡ (is_live edges e && (e.from == region))) → IsNearestOf xs shut far near →
    IsNearest edges shut far region near
nearest_of edges xs shut far region near all h = record {
  least = λ e o f z. h.least e (subst IsTrue (sym (all e)) (both_in (is_live edges e) (e.from == region) o.0 (eq-eqb e.from region f))) o.1
      z;
  met = λ z.
      let w = h.met z in
      let r = both (is_live edges w.0) (w.0.from == region) (subst IsTrue (all w.0) w.1) in
      (w.0, (r.0, w.2), eqb-true w.0.from region r.1, w.3);
}

-- the same distances
pub kept_far : (n : ℕ) (edges shut : List RegionEdge) (target : ℕ) (reach : Reach) (new : Distances) → new.target ≡ target →
    new.shut ≡ shut → new.reach ≡ reach → AreAtLeast n edges shut target reach.far.items reach.way.items →
    AreAtLeast n edges new.shut new.target new.reach.far.items new.reach.way.items
kept_far n edges shut target reach new t s r h =
    subst (λ x. AreAtLeast n edges new.shut new.target x.far.items x.way.items) (sym r)
    (subst (λ x. AreAtLeast n edges new.shut x reach.far.items reach.way.items) (sym t)
    (subst (λ x. AreAtLeast n edges x target reach.far.items reach.way.items) (sym s) h))
