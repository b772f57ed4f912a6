-- Rows whose pairs are needless.
use Rattle.std.proofs.Common.{◌≡◌, ◌⊎◌, inl, inr, ℕ, zero, suc, ◌+◌, ◌<◌, ◌≤◌, Bool, true, false, ◌||◌, List, [], ◌∷◌, ◌++◌, length, get_or, take, arith, refl, sym, ap, subst, ◌∙◌}
use Rattle.std.specs.List.{list_any}
use Rattle.std.proofs.lemmas.Bool.{cases_lt}
use Rattle.std.proofs.lemmas.List.{get_or_append_left, get_or_push, length_push}
use Rattle.shadow_elim.specs.declared.row.Row.{Row}
use Rattle.shadow_elim.specs.Reduction.{is_as_strong}
use Rattle.shadow_elim.specs.steps.Marks.{AreMarked}

-- Marks

pub record IsMarking (holds : Type 0) (rows : List Row) (i : ℕ) (marks : List Bool) : Type 0 where
  pub count : length marks ≡ i
  pub needless : (k : ℕ) (r : Row) → k < i → get_or marks k false ≡ true → holds
      × (list_any (λ s. is_as_strong (get_or rows k r).term s.term) (take k rows) ≡ true)

pub marking-first : (holds : Type 0) (rows : List Row) (marks : List Bool) → marks ≡ [] → IsMarking holds rows 0 marks
marking-first holds rows marks e =
    record { count = ap length e; needless = λ k r h. absurd (omega (arith, h)) }

any-front : (p : Row → Bool) (rows : List Row) (n i : ℕ) → n ≤ i → list_any p (take n rows) ≡ true → list_any p (take i rows) ≡ true
any-front p [] zero i h e = absurd (no_way e) where
  no_way : false ≡ true → ⊥
  no_way g = cc
any-front p [] (suc n) i h e = absurd (no_way e) where
  no_way : false ≡ true → ⊥
  no_way g = cc
any-front p (r ∷ rows) zero i h e = absurd (no_way e) where
  no_way : false ≡ true → ⊥
  no_way g = cc
any-front p (r ∷ rows) (suc n) zero h e = absurd (omega (arith, h))
any-front p (r ∷ rows) (suc n) (suc i) h e =
    by_test (p r) e (any-front p rows n i (omega (arith, h))) where
      by_test : (b : Bool) → (b || list_any p (take n rows)) ≡ true → (list_any p (take n rows) ≡ true → list_any p (take i rows) ≡ true) →
          (b || list_any p (take i rows)) ≡ true
      by_test true f g = refl
      by_test false f g = g f

pub marking-more : (holds : Type 0) (rows : List Row) (i : ℕ) (marks more : List Bool) (b : Bool) → IsMarking holds rows i marks →
    more ≡ marks ++ b ∷ [] →
    ((r : Row) → b ≡ true → holds × (list_any (λ s. is_as_strong (get_or rows i r).term s.term) (take i rows) ≡ true)) →
    IsMarking holds rows (i + 1) more
marking-more holds rows i marks more b m f g =
    subst (λ (ms : List Bool). IsMarking holds rows (i + 1) ms) (sym f) (record {
      count = omega (arith, m.count, length_push marks b);
      needless = λ k r q w. by_side k r w (cases_lt k i) q;
    }) where
      by_side : (k : ℕ) (r : Row) → get_or (marks ++ b ∷ []) k false ≡ true → (k < i) ⊎ (i ≤ k) → k < i + 1 →
          holds × (list_any (λ s. is_as_strong (get_or rows k r).term s.term) (take k rows) ≡ true)
      by_side k r w (inl lt) q =
          m.needless k r lt (sym (get_or_append_left marks (b ∷ []) false k (omega (arith, lt, m.count))) ∙ w)
      by_side k r w (inr le) q =
          let same : i ≡ k = omega (arith, le, q) in
          let yes = g r (sym (get_or_push marks b false k (omega (arith, same, m.count))) ∙ w) in (
            yes.0,
            subst (λ (n : ℕ). list_any (λ s. is_as_strong (get_or rows n r).term s.term) (take n rows) ≡ true) same yes.1,
          )

pub marking-done : (holds : Type 0) (rows : List Row) (i : ℕ) (marks : List Bool) → IsMarking holds rows i marks → i ≡ length rows →
    AreMarked holds rows marks
marking-done holds rows i marks m e =
    record { count = m.count ∙ e; needless = λ k r h w. m.needless k r (omega (arith, h, e)) w }

pub skipped : (rows : List Row) (i n : ℕ) (d r : Row) → i < length rows → n ≤ i →
    list_any (λ s. is_as_strong (get_or rows i d).term s.term) (take n rows) ≡ true →
    list_any (λ s. is_as_strong (get_or rows i r).term s.term) (take i rows) ≡ true
skipped rows i n d r h l f =
    subst (λ (s : Row). list_any (λ t. is_as_strong s.term t.term) (take i rows) ≡ true) (at_default rows i d r h)
    (any-front (λ t. is_as_strong (get_or rows i d).term t.term) rows n i l f) where
      at_default : (xs : List Row) (k : ℕ) (c d : Row) → k < length xs → get_or xs k c ≡ get_or xs k d
      at_default [] k c d q = absurd (omega (arith, q))
      at_default (x ∷ xs) zero c d q = refl
      at_default (x ∷ xs) (suc k) c d q = at_default xs k c d (omega (arith, q))

pub marked-where : (holds other : Type 0) (rows : List Row) (marks : List Bool) → (holds → other) → AreMarked holds rows marks →
    AreMarked other rows marks
marked-where holds other rows marks f m = record {
  count = m.count;
  needless = λ i r h e.
      let k = m.needless i r h e in
      (f k.0, k.1);
}
