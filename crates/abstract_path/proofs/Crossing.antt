-- A path that leaves the marked regions has a last edge that leaves them.
use Rattle.std.proofs.Common.{◌≡◌, ℕ, suc, ◌<◌, List, [], ◌∷◌, length, Bool, true, false, Option, Some, None, refl, sym, ap, ◌∙◌, arith}
use Rattle.std.proofs.lemmas.Option.{none-some, same_Some}
use Rattle.std.specs.Prelude.{slice_get}
use Rattle.abstract_path.specs.Routes.{is_at, IsRoute, leaves_marked, later, last_crossing}

pub crossing : (edges : List (ℕ × ℕ)) (shut marked : List Bool) (start target : ℕ) (path : List ℕ) → is_at marked start ≡ true →
    is_at marked target ≡ false → IsRoute edges shut start path target → (at : ℕ) × (last_crossing edges marked path ≡ Some at)
crossing edges shut marked start target [] s t r = absurd (clash (sym s ∙ (ap (is_at marked) (sym r) ∙ t))) where
  clash : true ≡ false → ⊥
  clash h = cc
crossing edges shut marked start target (n ∷ path) s t r =
    by_next (λ e. crossing edges shut marked r.0 target path e t r.2) (is_at marked r.0) refl
  where
    by_next : (is_at marked r.0 ≡ true → (at : ℕ) × (last_crossing edges marked path ≡ Some at)) → (b : Bool) → is_at marked r.0 ≡ b →
        (at : ℕ) × (last_crossing edges marked (n ∷ path) ≡ Some at)
    by_next rest true e = let k = rest e in (suc k.0, rw k.1 refl)
    by_next rest false e = by_rest (last_crossing edges marked path) refl where
      by_rest : (o : Option ℕ) → last_crossing edges marked path ≡ o →
          (at : ℕ) × (later (last_crossing edges marked path) (leaves_marked marked (slice_get edges n)) ≡ Some at)
      by_rest (Some k) f = (suc k, rw f refl)
      by_rest None f = (0, rw (f, r.1.0, s, e) refl)

-- the place of the crossing is on the path
pub crossing_in : (edges : List (ℕ × ℕ)) (marked : List Bool) (path : List ℕ) (at : ℕ) → last_crossing edges marked path ≡ Some at →
    at < length path
crossing_in edges marked [] at h = absurd (none-some _ h)
crossing_in edges marked (n ∷ path) at h = by (last_crossing edges marked path) (leaves_marked marked (slice_get edges n))
    (λ i. crossing_in edges marked path i) h where
      by : (o : Option ℕ) (c : Bool) → ((i : ℕ) → o ≡ Some i → i < length path) → later o c ≡ Some at → at < suc (length path)
      by (Some i) c rest e = omega (arith, rest i refl, same_Some _ _ e)
      by None true rest e = omega (arith, same_Some _ _ e)
      by None false rest e = absurd (none-some _ e)
