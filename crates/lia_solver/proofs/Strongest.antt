-- Rows of which each is the only one with its coefficients.
use Rattle.std.proofs.Common.{◌≡◌, inl, inr, ◌≤◌, Bool, true, false, not, ◌&&◌, List, [], ◌∷◌, ◌++◌, length, ℤ, arith, refl, sym, ap, subst, ◌∙◌}
use Rattle.std.specs.Cmp.{both_ways}
use Rattle.std.specs.Prelude.{◌≤ℤ◌, ◌<ℤ◌, int_lt, if◌then◌else◌}
use Rattle.std.specs.Cmp.{IsEquivalence}
use Rattle.std.specs.List.{IsDistinct, AllByRecursion, list_any}
use Rattle.std.specs.Set.{is_member}
use Rattle.std.proofs.lemmas.Int.{ints}
use Rattle.std.proofs.lemmas.Map.Keys.{IsDistinct-cons}
use Rattle.std.proofs.lemmas.Map.Made.{length-le_from_is_member}
use Rattle.linear_formula.specs.LinearSum.{LinearSum}
use Rattle.shadow_elim.specs.Reduction.{same_parts, is_as_strong, is_stronger, is_trivial, stays, reduced_after, reduced}
use Rattle.shadow_elim.proofs.Filtering.{among-any}
use Rattle.shadow_elim.proofs.Members.{Among, among-append_left, among-append_right, any-among}
use Rattle.shadow_elim.proofs.Staying.{same_parts-decides, HasAtLeast, IsCovered}
use Rattle.shadow_elim.proofs.Strength.{test-from_AsStrong, test-from_Stronger}
use Rattle.shadow_elim.proofs.Tests.{lt_from}
use Rattle.lia_solver.proofs.Covering.{Covers}

-- no two rows have the same coefficients
abbrev pub AreApart : List LinearSum → Type 0
AreApart [] = Unit {0}
AreApart (t ∷ ts) = ((s : LinearSum) → Among s ts → s.parts ≡ t.parts → ⊥) × AreApart ts

-- no two rows have the same coefficients, and each row can fail
pub record AreStrongest (rows : List LinearSum) : Type 0 where
  pub apart : AreApart rows
  pub real : (t : LinearSum) → Among t rows → is_trivial t ≡ false

pub apart-one : (rows : List LinearSum) (s t : LinearSum) → AreApart rows → Among s rows → Among t rows → s.parts ≡ t.parts → s ≡ t
apart-one [] s t h a b e = absurd a
apart-one (r ∷ rows) s t h (inl a) (inl b) e = sym a ∙ b
apart-one (r ∷ rows) s t h (inl a) (inr b) e = absurd (h.0 t b (sym e ∙ ap (λ (u : LinearSum). u.parts) (sym a)))
apart-one (r ∷ rows) s t h (inr a) (inl b) e = absurd (h.0 s a (e ∙ ap (λ (u : LinearSum). u.parts) (sym b)))
apart-one (r ∷ rows) s t h (inr a) (inr b) e = apart-one rows s t h.1 a b e

-- What stays of rows

no_way : true ≡ false → ⊥
no_way h = cc

none-any : (p : LinearSum → Bool) (rows : List LinearSum) (t : LinearSum) → list_any p rows ≡ false → Among t rows → p t ≡ false
none-any p rows t h a = by_value (p t) refl where
  by_value : (b : Bool) → p t ≡ b → b ≡ false
  by_value true e = absurd (no_way (sym (among-any p rows t a e) ∙ h))
  by_value false e = refl

record IsStaying (before : List LinearSum) (t : LinearSum) (after : List LinearSum) : Type 0 where
  pub real : is_trivial t ≡ false
  pub first : list_any (is_as_strong t) before ≡ false
  pub greatest : list_any (is_stronger t) after ≡ false

staying-is : (before : List LinearSum) (t : LinearSum) (after : List LinearSum) → stays before t after ≡ true → IsStaying before t after
staying-is before t after h =
    by_tests (is_trivial t) (list_any (is_as_strong t) before) (list_any (is_stronger t) after) refl refl refl h where
      by_tests : (a b c : Bool) → is_trivial t ≡ a → list_any (is_as_strong t) before ≡ b → list_any (is_stronger t) after ≡ c →
          (not a && (not b && not c)) ≡ true → IsStaying before t after
      by_tests true b c e f g k = absurd (cc)
      by_tests false true c e f g k = absurd (cc)
      by_tests false false true e f g k = absurd (cc)
      by_tests false false false e f g k = record { real = e; first = f; greatest = g }

-- a row that stays is stronger than each of its kind before it
record IsKept (before ts : List LinearSum) (s : LinearSum) : Type 0 where
  pub here : Among s ts
  pub real : is_trivial s ≡ false
  pub above : (b : LinearSum) → Among b before → b.parts ≡ s.parts → b.constant <ℤ s.constant

above-all : (before : List LinearSum) (t b : LinearSum) → list_any (is_as_strong t) before ≡ false → Among b before → b.parts ≡ t.parts →
    b.constant <ℤ t.constant
above-all before t b h a e = by_value (int_lt b.constant t.constant) refl where
  at_most : int_lt b.constant t.constant ≡ false → t.constant ≤ℤ b.constant
  at_most f = grind (arith, ints)

  by_value : (v : Bool) → int_lt b.constant t.constant ≡ v → b.constant <ℤ t.constant
  by_value true f = lt_from b.constant t.constant f
  by_value false f =
      absurd (no_way (sym (test-from_AsStrong t b (record { parts = e; constant = at_most f })) ∙ none-any (is_as_strong t) before b h a))

kept-is : (before ts : List LinearSum) (s : LinearSum) → Among s (reduced_after before ts) → IsKept before ts s
kept-is before [] s h = absurd h
kept-is before (t ∷ ts) s h = by_stay (stays before t ts) refl (kept-is (before ++ t ∷ []) ts s) h where
  later : IsKept (before ++ t ∷ []) ts s → IsKept before (t ∷ ts) s
  later k = record {
    here = inr k.here;
    real = k.real;
    above = λ b a e. k.above b (among-append_left before (t ∷ []) b a) e;
  }

  by_stay : (v : Bool) → stays before t ts ≡ v → (Among s (reduced_after (before ++ t ∷ []) ts) → IsKept (before ++ t ∷ []) ts s) →
      Among s (if v then (t ∷ reduced_after (before ++ t ∷ []) ts) else reduced_after (before ++ t ∷ []) ts) → IsKept before (t ∷ ts) s
  by_stay true e f (inl g) =
      let k = staying-is before t ts e in
      subst (IsKept before (t ∷ ts)) g (record {
        here = inl refl;
        real = k.real;
        above = λ b a d. above-all before t b k.first a d;
      })
  by_stay true e f (inr g) = later (f g)
  by_stay false e f g = later (f g)

kept-apart : (before ts : List LinearSum) → AreApart (reduced_after before ts)
kept-apart before [] = tt
kept-apart before (t ∷ ts) = by_stay (stays before t ts) refl (kept-apart (before ++ t ∷ []) ts) where
  not_same : IsStaying before t ts → (s : LinearSum) → Among s (reduced_after (before ++ t ∷ []) ts) → s.parts ≡ t.parts → ⊥
  not_same k s a e =
      let i = kept-is (before ++ t ∷ []) ts s a in
      let lt = i.above t (among-append_right before (t ∷ []) t (inl refl)) (sym e) in
      no_way (sym (test-from_Stronger t s (record { parts = e; constant = lt })) ∙ none-any (is_stronger t) ts s k.greatest i.here)

  by_stay : (v : Bool) → stays before t ts ≡ v → AreApart (reduced_after (before ++ t ∷ []) ts) →
      AreApart (if v then (t ∷ reduced_after (before ++ t ∷ []) ts) else reduced_after (before ++ t ∷ []) ts)
  by_stay true e f = (not_same (staying-is before t ts e), f)
  by_stay false e f = f

pub reduced-strongest : (rows : List LinearSum) → AreStrongest (reduced rows)
reduced-strongest rows = record {
  apart = kept-apart [] rows;
  real = λ t a. (kept-is [] rows t a).real;
}

-- Rows that cover each other

pub covered-real : (rows : List LinearSum) (t : LinearSum) → is_trivial t ≡ false → IsCovered t rows → HasAtLeast t rows
covered-real rows t h (inl e) = absurd (no_way (sym e ∙ h))
covered-real rows t h (inr g) = g

-- strongest rows are the same where they cover each other
pub strongest-among : (rows others : List LinearSum) (t : LinearSum) → AreStrongest rows → AreStrongest others → Covers rows others →
    Covers others rows → Among t rows → Among t others
strongest-among rows others t h k c d a =
    let g = covered-real others t (h.real t a) (d t a) in
    let f = covered-real rows g.0 (k.real g.0 g.1) (c g.0 g.1) in
    let same : f.0 ≡ t = apart-one rows f.0 t h.apart f.1 a (f.2.parts ∙ g.2.parts) in
    let least : g.0.constant ≤ℤ t.constant = subst (λ (s : LinearSum). g.0.constant ≤ℤ s.constant) same f.2.constant in
    subst (λ (s : LinearSum). Among s others) (row_same g.0 t g.2.parts (both g.0.constant t.constant least g.2.constant)) g.1 where
      row_same : (s r : LinearSum) → s.parts ≡ r.parts → s.constant ≡ r.constant → s ≡ r
      row_same s r e f = λ i. record { parts = e i; constant = f i }

      both : (y z : ℤ) → y ≤ℤ z → z ≤ℤ y → y ≡ z
      both y z p q = omega (arith, ints, p, q)

parts-laws : IsEquivalence same_parts
parts-laws = record {
  refl = λ t. (same_parts-decides t.parts t.parts).1 refl;
  symm = λ s t. both_ways (same_parts s t) (same_parts t s) (flip s t) (flip t s);
  congr = λ s t r e. both_ways (same_parts s r) (same_parts t r) (along s t r ((same_parts-decides s.parts t.parts).0 e))
      (along t s r (sym ((same_parts-decides s.parts t.parts).0 e)));
} where
  flip : (s t : LinearSum) → same_parts s t ≡ true → same_parts t s ≡ true
  flip s t e = (same_parts-decides t.parts s.parts).1 (sym ((same_parts-decides s.parts t.parts).0 e))

  along : (s t r : LinearSum) → s.parts ≡ t.parts → same_parts s r ≡ true → same_parts t r ≡ true
  along s t r d e = (same_parts-decides t.parts r.parts).1 (sym d ∙ (same_parts-decides s.parts r.parts).0 e)

others-apart : (t : LinearSum) (ts : List LinearSum) → ((s : LinearSum) → Among s ts → s.parts ≡ t.parts → ⊥) →
    AllByRecursion (λ s. same_parts t s ≡ false) ts
others-apart t [] h = tt
others-apart t (s ∷ ts) h =
    (by_value (same_parts t s) refl, others-apart t ts (λ r a. h r (inr a))) where
      by_value : (b : Bool) → same_parts t s ≡ b → b ≡ false
      by_value true e = absurd (h s (inl refl) (sym ((same_parts-decides t.parts s.parts).0 e)))
      by_value false e = refl

apart-distinct : (rows : List LinearSum) → AreApart rows → IsDistinct same_parts rows
unfolding IsDistinct
apart-distinct [] h = tt
apart-distinct (t ∷ ts) h = IsDistinct-cons same_parts t ts (others-apart t ts h.0) (apart-distinct ts h.1)

-- as many at most, where each has its like among the others
pub count-most : (rows others : List LinearSum) → AreStrongest rows → Covers others rows → length rows ≤ length others
count-most rows others h c =
    length-le_from_is_member parts-laws rows others (apart-distinct rows h.apart) (λ q e. found q (any-among (same_parts q) rows e)) where
      found : (q : LinearSum) → ((t : LinearSum) × Among t rows × (same_parts q t ≡ true)) → is_member same_parts others q ≡ true
      found q f =
          let g = covered-real others f.0 (h.real f.0 f.1) (c f.0 f.1) in
          among-any (same_parts q) others g.0 g.1 ((same_parts-decides q.parts g.0.parts).1 ((same_parts-decides q.parts f.0.parts).0 f.2
          ∙ sym g.2.parts))
