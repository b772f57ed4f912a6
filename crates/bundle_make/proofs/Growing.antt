-- Lists of queries that grow.
use Rattle.std.proofs.Common.{◌≡◌, ◌⊎◌, inl, inr, ⊎_elim, ℕ, zero, suc, ◌≤◌, List, [], ◌∷◌, ◌++◌, length, Some, arith, refl, sym, subst, ap, ◌∙◌}
use Rattle.std.specs.Prelude.{slice_get}
use Rattle.std.proofs.lemmas.List.{append-nil, append_assoc}
use Rattle.std.proofs.lemmas.Option.{none-some, same_Some}
use Rattle.may_partition.proofs.Pieces.{get_left, lookup_append}
use Rattle.bundle_make.specs.steps.Growing.{IsGrown}

pub grown_none : (P : ℕ → Type 0) (xs : List ℕ) → IsGrown P xs xs
grown_none P xs = record { more = []; is = sym (append-nil xs); each = λ n x at. absurd (none-some x at) }

pub grown_one : (xs : List ℕ) (i : ℕ) → IsGrown (λ x. x ≡ i) xs (xs ++ i ∷ [])
grown_one xs i = record { more = i ∷ []; is = refl; each = λ n x at. alone n x at } where
  alone : (n x : ℕ) → slice_get (i ∷ []) n ≡ Some x → x ≡ i
  alone zero x at = sym (same_Some i x at)
  alone (suc n) x at = absurd (none-some x at)

module _ (P : ℕ → Type 0) where
  pub grown_keeps : (old new : List ℕ) → IsGrown P old new → (n x : ℕ) → slice_get old n ≡ Some x → slice_get new n ≡ Some x
  grown_keeps old new g n x at = subst (λ xs. slice_get xs n ≡ Some x) (sym g.is) (get_left old n g.more x at)

  -- it stood there, or is new
  pub grown_from : (old new : List ℕ) → IsGrown P old new → (n x : ℕ) → slice_get new n ≡ Some x →
      (slice_get old n ≡ Some x) ⊎ ((length old ≤ n) × P x)
  grown_from old new g n x at = ⊎_elim (λ o. inl o.1) (λ o. inr (omega (arith, o.1), g.each o.0 x o.2))
      (lookup_append old n g.more x (subst (λ xs. slice_get xs n ≡ Some x) g.is at))

  pub grown_then : (xs ys zs : List ℕ) → IsGrown P xs ys → IsGrown P ys zs → IsGrown P xs zs
  grown_then xs ys zs g h = record {
    more = g.more ++ h.more;
    is = h.is ∙ (ap (λ ws. ws ++ h.more) g.is ∙ append_assoc xs g.more h.more);
    each = λ n x at. ⊎_elim (λ o. g.each n x o.1) (λ o. h.each o.0 x o.2) (lookup_append g.more n h.more x at);
  }

  pub grown_as : (Q : ℕ → Type 0) (old new : List ℕ) → ((x : ℕ) → P x → Q x) → IsGrown P old new → IsGrown Q old new
  grown_as Q old new weaker g = record { more = g.more; is = g.is; each = λ n x at. weaker x (g.each n x at) }
