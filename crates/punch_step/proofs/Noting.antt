-- Live edges that are noted.
use Rattle.std.proofs.Common.{◌≡◌, ◌≢◌, ⊎_elim, ℕ, zero, suc, ◌<◌, ◌≤◌, Bool, true, false, not, List, [], ◌∷◌, Option, Some, None, length, arith, refl, sym, subst, ap}
use Rattle.std.specs.Prelude.{IsTrue, slice_get, slice_set}
use Rattle.std.proofs.lemmas.Option.{same_Some, slice_get_within}
use Rattle.may_partition.specs.declared.region.RegionEdge.{RegionEdge}
use Rattle.may_partition.specs.Parted.{same_edge}
use Rattle.may_partition.specs.Shown.{Shown, is_live}
use Rattle.may_partition.proofs.Kept.{same_is}
use Rattle.may_partition.proofs.Pieces.{lookup_set}
use Rattle.query_rules.specs.Seen.{Seen}
use Rattle.punch_step.specs.declared.distances.Distances.{Distances}
use Rattle.punch_step.specs.steps.Following.{AreNoted, IsSplitFrom}

none_some : {A : Type 0} (x : A) → None ≡ Some x → ⊥
none_some x h = cc

-- what is noted of the second list was noted of the first
abbrev pub Keeps : List (Option RegionEdge) → List (Option RegionEdge) → Type 0
Keeps old new = (r : ℕ) (e : RegionEdge) → slice_get new r ≡ Some (Some e) → slice_get old r ≡ Some (Some e)

pub noted_in_none : (p : Shown) (old noted : List (Option RegionEdge)) → old ≡ [] → Keeps old noted → AreNoted p noted
noted_in_none p old noted none keeps r e h =
    absurd (nothing (subst (λ (xs : List (Option RegionEdge)). slice_get xs r ≡ Some (Some e)) none (keeps r e h))) where
      nothing : slice_get [] r ≡ Some (Some e) → ⊥
      nothing h = cc

pub noted_more : (p : Shown) (noted : List (Option RegionEdge)) (e : RegionEdge) → AreNoted p noted → e.from < length p.regions →
    e.to < length p.regions → IsTrue (is_live p.edges e) → AreNoted p (slice_set noted e.from (Some e))
noted_more p noted e h from to live r x is =
    ⊎_elim (λ k. here k.0 (same_Some x e k.1)) (λ k. h r x k) (lookup_set noted e.from r (Some e) (Some x) is) where
      here : r ≡ e.from → x ≡ e → (x.from ≡ r) × (x.from < length p.regions) × (x.to < length p.regions) × IsTrue (is_live p.edges x)
      here at same =
          subst (λ (y : RegionEdge). (y.from ≡ r) × (y.from < length p.regions) × (y.to < length p.regions) × IsTrue (is_live p.edges y))
          (sym same) (sym at, from, to, live)

set_here : (noted : List (Option RegionEdge)) (f : ℕ) (e : RegionEdge) → slice_get (slice_set noted f None) f ≡ Some (Some e) → ⊥
set_here [] f e h = cc
set_here (x ∷ xs) zero e h = none_some e (same_Some None (Some e) h)
set_here (x ∷ xs) (suc f) e h = set_here xs f e h

pub forgotten : (noted : List (Option RegionEdge)) (f r : ℕ) (e : RegionEdge) → slice_get (slice_set noted f None) r ≡ Some (Some e) →
    (r ≢ f) × (slice_get noted r ≡ Some (Some e))
forgotten noted f r e h = (
  λ s. set_here noted f e (subst (λ k. slice_get (slice_set noted f None) k ≡ Some (Some e)) s h),
  ⊎_elim (λ k. absurd (none_some e (sym k.1))) (λ k. k) (lookup_set noted f r None (Some e) h),
)

pub never_noted : (noted : List (Option RegionEdge)) (f r : ℕ) (e : RegionEdge) → length noted ≤ f → slice_get noted r ≡ Some (Some e) →
    (r ≢ f) × (slice_get noted r ≡ Some (Some e))
never_noted noted f r e past h = (λ s. absurd (omega (arith, s, past, slice_get_within noted r (Some e) h)), h)

-- another edge than one that leaves elsewhere
pub is_other : (e k : RegionEdge) → e.from ≢ k.from → IsTrue (not (same_edge e k))
is_other e k h = by (same_edge e k) refl where
  by : (b : Bool) → same_edge e k ≡ b → IsTrue (not b)
  by true s = absurd (h (ap (λ (x : RegionEdge). x.from) (same_is e k s)))
  by false s = refl

pub noted_split : (from : ℕ) (s : Seen) (d : Distances) → IsSplitFrom from s d → (noted : List (Option RegionEdge)) →
    Keeps d.noted.items noted → AreNoted s.partition noted
noted_split from s d h noted keeps r e is =
    let k = h.noted r e (keeps r e is) in
    (k.0, omega (arith, k.1, h.more), omega (arith, k.2, h.more), h.stays e k.1 k.2 k.3)
