-- Parts in order: what keeps the order, and what the coefficients tell.
use Rattle.std.proofs.Common.{◌≡◌, ◌≢◌, ℕ, ◌<◌, ◌≤◌, ◌+◌, ◌^◌, Bool, true, false, suc, zero, List, [], ◌∷◌, ℤ, pos, negsuc, ◌+ℤ◌, ◌*ℤ◌, neg_ℤ, length, ◌==◌, nat_lt, arith, refl, ◌∙◌, ap, sym, subst}
use Rattle.std.specs.Prelude.{if◌then◌else◌}
use Rattle.std.proofs.lemmas.Int.{ints}
use borrow.Author.Tests.{eqb-true, eqb_apart, ltb-true, ltb-false, eq-eqb, lt-ltb}
use Rattle.linear_formula.specs.LinearSum.{listed_at, is_zero}
use Rattle.linear_formula.specs.steps.Order.{InOrder, AllWithin}
use Rattle.linear_formula.specs.Results.{put_part, with_part, plus_parts, without_part, negated_parts}
use Rattle.linear_formula.proofs.Ring.{zero-mul, one-mul, mul-zero, zero-add}
use Rattle.linear_formula.proofs.Values.{chosen, chosen_of_two, listed-none}

pub zero_is : (a : ℤ) → is_zero a ≡ true → a ≡ pos 0
zero_is (pos zero) h = refl
zero_is (pos (suc n)) h = cc
zero_is (negsuc n) h = cc

pub apart_from_zero : (a : ℤ) → is_zero a ≡ false → a ≢ pos 0
apart_from_zero (pos zero) h = cc
apart_from_zero (pos (suc n)) h = λ e. omega (arith, ints, e)
apart_from_zero (negsuc n) h = λ e. omega (arith, ints, e)

pub zero_test : (a : ℤ) → a ≡ pos 0 → is_zero a ≡ true
zero_test (pos zero) h = refl
zero_test (pos (suc n)) h = absurd (omega (arith, ints, h))
zero_test (negsuc n) h = absurd (omega (arith, ints, h))

pub nonzero_test : (a : ℤ) → a ≢ pos 0 → is_zero a ≡ false
nonzero_test (pos zero) h = absurd (h refl)
nonzero_test (pos (suc n)) h = refl
nonzero_test (negsuc n) h = refl

-- a lower bound may be lowered
pub InOrder-lower : (low next : ℕ) (ps : List (ℕ × ℤ)) → low ≤ next → InOrder next ps → InOrder low ps
InOrder-lower low next [] h o = tt
InOrder-lower low next (p ∷ ps) h o = (omega (arith, o.0), o.1, o.2, o.3)

pub InOrder-put : (low x : ℕ) (a : ℤ) (ps : List (ℕ × ℤ)) → low ≤ x → x < 2 ^ 32 → InOrder (x + 1) ps → InOrder low (put_part x a ps)
InOrder-put low x a ps h k o =
    chosen_of_two (λ r. InOrder low r) (is_zero a) ps ((x, a) ∷ ps) (λ _. InOrder-lower low (x + 1) ps (omega arith) o)
    (λ e. (h, k, apart_from_zero a e, o))

-- a part more keeps the order
pub InOrder-with : (low x : ℕ) (a : ℤ) (ps : List (ℕ × ℤ)) → low ≤ x → x < 2 ^ 32 → InOrder low ps → InOrder low (with_part x a ps)
InOrder-with low x a [] h k o = InOrder-put low x a [] h k tt
InOrder-with low x a (p ∷ ps) h k o =
    chosen (λ r. InOrder low r) (nat_lt x p.0) (x == p.0) (put_part x a (p ∷ ps)) (put_part x (a +ℤ p.1) ps) (p ∷ with_part x a ps)
    (λ e. InOrder-put low x a (p ∷ ps) h k (omega (arith, ltb-true x p.0 e), o.1, o.2, o.3))
    (λ _ e. InOrder-put low x (a +ℤ p.1) ps h k (InOrder-lower (x + 1) (p.0 + 1) ps (omega (arith, eqb-true x p.0 e)) o.3))
    (λ e d. (o.0, o.1, o.2, InOrder-with (p.0 + 1) x a ps (omega (arith, ltb-false x p.0 e, eqb_apart x p.0 d)) k o.3))

-- so does a multiple more
pub InOrder-plus_parts : (low : ℕ) (m : ℤ) (ps qs : List (ℕ × ℤ)) → InOrder low ps → InOrder low qs → InOrder low (plus_parts m ps qs)
InOrder-plus_parts low m [] qs o r = r
InOrder-plus_parts low m (p ∷ ps) qs o r =
    InOrder-with low p.0 (m *ℤ p.1) (plus_parts m ps qs) o.0 o.1
    (InOrder-plus_parts low m ps qs (InOrder-lower low (p.0 + 1) ps (omega (arith, o.0)) o.3) r)

pub InOrder-without : (low x : ℕ) (ps : List (ℕ × ℤ)) → InOrder low ps → InOrder low (without_part x ps)
InOrder-without low x [] o = tt
InOrder-without low x (p ∷ ps) o =
    chosen_of_two (λ r. InOrder low r) (x == p.0) (without_part x ps) (p ∷ without_part x ps)
    (λ _. InOrder-lower low (p.0 + 1) (without_part x ps) (omega (arith, o.0)) (InOrder-without (p.0 + 1) x ps o.3))
    (λ _. (o.0, o.1, o.2, InOrder-without (p.0 + 1) x ps o.3))

-- Coefficients

pub listed-absent : (y low : ℕ) (ps : List (ℕ × ℤ)) → y < low → InOrder low ps → listed_at y ps ≡ pos 0
listed-absent y low ps h o = listed-none y low ps h o

-- the coefficient that a part gives a column
abbrev pub part_at : ℕ → ℕ → ℤ → ℤ
part_at y x a = if y == x then a else pos 0

pub listed-put : (y x : ℕ) (a : ℤ) (ps : List (ℕ × ℤ)) → InOrder (x + 1) ps → listed_at y (put_part x a ps) ≡ part_at y x a +ℤ listed_at y
    ps
listed-put y x a ps o =
    by_tests (is_zero a) (y == x) refl refl where
      by_tests : (b c : Bool) → is_zero a ≡ b → (y == x) ≡ c → listed_at y (if b then ps else ((x, a) ∷ ps)) ≡ (if c then a else pos 0) +ℤ
          listed_at y ps
      by_tests true true e d = omega (arith, ints, zero_is a e)
      by_tests true false e d = omega (arith, ints)
      by_tests false true e d =
          let none : listed_at y ps ≡ pos 0 = listed-absent y (x + 1) ps (omega (arith, eqb-true y x d)) o in
          rw d (omega (arith, ints, none))
      by_tests false false e d = rw d (omega (arith, ints))

pub listed-with : (y low x : ℕ) (a : ℤ) (ps : List (ℕ × ℤ)) → InOrder low ps → listed_at y (with_part x a ps) ≡ part_at y x a +ℤ listed_at y
    ps
listed-with y low x a [] o = listed-put y x a [] tt
listed-with y low x a (p ∷ ps) o =
    chosen (λ r. listed_at y r ≡ part_at y x a +ℤ listed_at y (p ∷ ps)) (nat_lt x p.0) (x == p.0) (put_part x a (p ∷ ps))
    (put_part x (a +ℤ p.1) ps) (p ∷ with_part x a ps) (λ e. listed-put y x a (p ∷ ps) (omega (arith, ltb-true x p.0 e), o.1, o.2, o.3))
    (λ _ e. listed-put y x (a +ℤ p.1) ps (InOrder-lower (x + 1) (p.0 + 1) ps (omega (arith, eqb-true x p.0 e)) o.3) ∙ met (eqb-true x p.0 e)
    (y == x) refl) (λ e d. past (eqb_apart x p.0 d) (y == p.0) (y == x) refl refl (listed-with y (p.0 + 1) x a ps o.3)) where
      met : x ≡ p.0 → (c : Bool) → (y == x) ≡ c → (if c then a +ℤ p.1 else pos 0) +ℤ listed_at y ps ≡ (if c then a else pos 0) +ℤ listed_at
          y (p ∷ ps)
      met same true d =
          let here : (y == p.0) ≡ true = subst (λ (z : ℕ). (y == z) ≡ true) same d in
          let none : listed_at y ps ≡ pos 0 = listed-absent y (p.0 + 1) ps (omega (arith, eqb-true y p.0 here)) o.3 in
          rw here (omega (arith, ints, none))
      met same false d =
          let there : (y == p.0) ≡ false = subst (λ (z : ℕ). (y == z) ≡ false) same d in
          rw there (omega (arith, ints))

      past : (x ≡ p.0 → ⊥) → (b c : Bool) → (y == p.0) ≡ b → (y == x) ≡ c → listed_at y (with_part x a ps) ≡ part_at y x a +ℤ listed_at y
          ps →
          (if b then p.1 else listed_at y (with_part x a ps)) ≡ (if c then a else pos 0) +ℤ (if b then p.1 else listed_at y ps)
      past n true true d e h = absurd (n (sym (eqb-true y x e) ∙ eqb-true y p.0 d))
      past n true false d e h = omega (arith, ints)
      past n false true d e h = rw e at h
      past n false false d e h = rw e at h

-- the coefficients of a multiple and a sum
pub listed-plus_parts : (y low next : ℕ) (m : ℤ) (ps qs : List (ℕ × ℤ)) → InOrder low ps → InOrder next qs →
    listed_at y (plus_parts m ps qs)
    ≡ (m *ℤ listed_at y ps) +ℤ listed_at y qs
listed-plus_parts y low next m [] qs o r = omega (arith, ints, mul-zero m)
listed-plus_parts y low next m (p ∷ ps) qs o r =
    let rest : InOrder 0 (plus_parts m ps qs) = InOrder-plus_parts 0 m ps qs (InOrder-lower 0 (p.0 + 1) ps (omega arith) o.3)
    (InOrder-lower 0 next qs (omega arith) r) in
    listed-with y 0 p.0 (m *ℤ p.1) (plus_parts m ps qs) rest ∙ ap (λ z. part_at y p.0 (m *ℤ p.1) +ℤ z)
    (listed-plus_parts y (p.0 + 1) next m ps qs o.3 r) ∙ met (y == p.0) refl where
      met : (b : Bool) → (y == p.0) ≡ b → (if b then m *ℤ p.1 else pos 0) +ℤ ((m *ℤ listed_at y ps) +ℤ listed_at y qs)
          ≡ (m *ℤ (if b then p.1 else listed_at y ps)) +ℤ listed_at y qs
      met true d =
          let none : listed_at y ps ≡ pos 0 = listed-absent y (p.0 + 1) ps (omega (arith, eqb-true y p.0 d)) o.3 in
          omega (arith, ints, mul-zero m, ap (λ z. m *ℤ z) none)
      met false d = omega (arith, ints)

cons_same : (a b : ℕ) (x y : ℤ) (ps qs : List (ℕ × ℤ)) → a ≡ b → x ≡ y → ps ≡ qs → (a, x) ∷ ps ≡ (b, y) ∷ qs
cons_same a b x y ps qs e d f = cc

-- parts in order with the same coefficients are the same
pub same_parts : (low next : ℕ) (ps qs : List (ℕ × ℤ)) → InOrder low ps → InOrder next qs → ((y : ℕ) → listed_at y ps ≡ listed_at y qs) →
    ps ≡ qs
same_parts low next [] [] o r h = refl
same_parts low next [] (q ∷ qs) o r h =
    let here : (q.0 == q.0) ≡ true = eq-eqb q.0 q.0 refl in
    absurd (r.2 (sym (h q.0 ∙ rw here refl)))
same_parts low next (p ∷ ps) [] o r h =
    let here : (p.0 == p.0) ≡ true = eq-eqb p.0 p.0 refl in
    absurd (o.2 (sym (rw here refl) ∙ h p.0))
same_parts low next (p ∷ ps) (q ∷ qs) o r h =
    by_heads (nat_lt p.0 q.0) (nat_lt q.0 p.0) refl refl (same_parts (p.0 + 1) (q.0 + 1) ps qs o.3 r.3) where
      by_heads : (b c : Bool) → nat_lt p.0 q.0 ≡ b → nat_lt q.0 p.0 ≡ c → (((y : ℕ) → listed_at y ps ≡ listed_at y qs) → ps ≡ qs) →
          p ∷ ps ≡ q ∷ qs
      by_heads true c e d k =
          let here : (p.0 == p.0) ≡ true = eq-eqb p.0 p.0 refl in
          let none : listed_at p.0 (q ∷ qs) ≡ pos 0 = listed-absent p.0 q.0 (q ∷ qs) (ltb-true p.0 q.0 e) (omega arith, r.1, r.2, r.3) in
          absurd (o.2 (sym (rw here refl) ∙ h p.0 ∙ none))
      by_heads false true e d k =
          let here : (q.0 == q.0) ≡ true = eq-eqb q.0 q.0 refl in
          let none : listed_at q.0 (p ∷ ps) ≡ pos 0 = listed-absent q.0 p.0 (p ∷ ps) (ltb-true q.0 p.0 d) (omega arith, o.1, o.2, o.3) in
          absurd (r.2 (sym (rw here refl) ∙ sym (h q.0) ∙ none))
      by_heads false false e d k =
          let same : p.0 ≡ q.0 = omega (arith, ltb-false p.0 q.0 e, ltb-false q.0 p.0 d) in
          cons_same p.0 q.0 p.1 q.1 ps qs same (head_same same) (k (λ y. tail_same same y (y == p.0) refl)) where
            head_same : p.0 ≡ q.0 → p.1 ≡ q.1
            head_same same =
                let here : (p.0 == p.0) ≡ true = eq-eqb p.0 p.0 refl in
                let there : (p.0 == q.0) ≡ true = eq-eqb p.0 q.0 same in
                sym (rw here refl) ∙ h p.0 ∙ rw there refl

            tail_same : p.0 ≡ q.0 → (y : ℕ) (b : Bool) → (y == p.0) ≡ b → listed_at y ps ≡ listed_at y qs
            tail_same same y true f =
                listed-absent y (p.0 + 1) ps (omega (arith, eqb-true y p.0 f)) o.3
                ∙ sym (listed-absent y (q.0 + 1) qs (omega (arith, eqb-true y p.0 f)) r.3)
            tail_same same y false f =
                let other : (y == q.0) ≡ false = subst (λ (z : ℕ). (y == z) ≡ false) same f in
                sym (rw f refl) ∙ h y ∙ rw other refl

with_part-zero : (x low : ℕ) (ps : List (ℕ × ℤ)) → InOrder low ps → with_part x (pos 0) ps ≡ ps
with_part-zero x low [] o = refl
with_part-zero x low (p ∷ ps) o =
    chosen (λ r. r ≡ p ∷ ps) (nat_lt x p.0) (x == p.0) (put_part x (pos 0) (p ∷ ps)) (put_part x (pos 0 +ℤ p.1) ps)
    (p ∷ with_part x (pos 0) ps) (λ _. refl) (λ _ e. met (pos 0 +ℤ p.1) (zero-add p.1) (eqb-true x p.0 e))
    (λ _ _. ap (λ l. p ∷ l) (with_part-zero x (p.0 + 1) ps o.3)) where
      met : (a : ℤ) → a ≡ p.1 → x ≡ p.0 → put_part x a ps ≡ p ∷ ps
      met a e d =
          let n : is_zero p.1 ≡ false = nonzero_test p.1 o.2 in
          ap (λ z. put_part x z ps) e ∙ ap (λ y. put_part y p.1 ps) d ∙ rw n refl

-- nothing is added by the multiple 0
pub plus_parts-zero : (low : ℕ) (ps qs : List (ℕ × ℤ)) → InOrder low qs → plus_parts (pos 0) ps qs ≡ qs
plus_parts-zero low [] qs r = refl
plus_parts-zero low (p ∷ ps) qs r =
    ap (with_part p.0 (pos 0 *ℤ p.1)) (plus_parts-zero low ps qs r) ∙ ap (λ a. with_part p.0 a qs) (zero-mul p.1) ∙ with_part-zero p.0 low
    qs r

-- and once the parts, added to none, are the parts
pub plus_parts-once : (low : ℕ) (ps : List (ℕ × ℤ)) → InOrder low ps → plus_parts (pos 1) ps [] ≡ ps
plus_parts-once low ps o =
    let o' = InOrder-lower 0 low ps (omega arith) o in
    same_parts 0 0 (plus_parts (pos 1) ps []) ps (InOrder-plus_parts 0 (pos 1) ps [] o' tt) o'
    (λ y. omega (arith, ints, listed-plus_parts y 0 0 (pos 1) ps [] o' tt, one-mul (listed_at y ps)))

-- a column that has no coefficient is not there to be left out
pub without_part-absent : (low x : ℕ) (ps : List (ℕ × ℤ)) → InOrder low ps → listed_at x ps ≡ pos 0 → without_part x ps ≡ ps
without_part-absent low x [] o h = refl
without_part-absent low x (p ∷ ps) o h =
    by_test (x == p.0) refl (without_part-absent (p.0 + 1) x ps o.3) where
      by_test : (b : Bool) → (x == p.0) ≡ b → (listed_at x ps ≡ pos 0 → without_part x ps ≡ ps) →
          (if b then without_part x ps else (p ∷ without_part x ps)) ≡ p ∷ ps
      by_test true e k = absurd (o.2 (sym (rw e refl) ∙ h))
      by_test false e k = ap (λ l. p ∷ l) (k (sym (rw e refl) ∙ h))

pub AllWithin-without : (x : ℕ) (ps : List (ℕ × ℤ)) → AllWithin ps → AllWithin (without_part x ps)
AllWithin-without x [] h = tt
AllWithin-without x (p ∷ ps) h =
    chosen_of_two (λ r. AllWithin r) (x == p.0) (without_part x ps) (p ∷ without_part x ps) (λ _. AllWithin-without x ps h.1)
    (λ _. (h.0, AllWithin-without x ps h.1))

front_of : (x : ℕ) (a : ℤ) (ps : List (ℕ × ℤ)) → InOrder (x + 1) ps → with_part x a (negated_parts ps) ≡ put_part x a (negated_parts ps)
front_of x a [] o = refl
front_of x a (p ∷ ps) o =
    let before : nat_lt x p.0 ≡ true = lt-ltb x p.0 (omega (arith, o.0)) in
    rw before refl

pub InOrder-negated : (low : ℕ) (ps : List (ℕ × ℤ)) → InOrder low ps → InOrder low (negated_parts ps)
InOrder-negated low [] o = tt
InOrder-negated low (p ∷ ps) o =
    (o.0, o.1, (λ e. o.2 (omega (arith, ints, e))), InOrder-negated (p.0 + 1) ps o.3)

pub AllWithin-negated : (ps : List (ℕ × ℤ)) → AllWithin ps → AllWithin (negated_parts ps)
AllWithin-negated [] h = tt
AllWithin-negated (p ∷ ps) h = (omega (arith, ints, h.0), AllWithin-negated ps h.1)

pub length-negated : (ps : List (ℕ × ℤ)) → length (negated_parts ps) ≡ length ps
length-negated [] = refl
length-negated (p ∷ ps) = ap suc (length-negated ps)

-- the parts of -t
pub plus_parts-negated : (low : ℕ) (ps : List (ℕ × ℤ)) → InOrder low ps → plus_parts (negsuc 0) ps [] ≡ negated_parts ps
plus_parts-negated low [] o = refl
plus_parts-negated low (p ∷ ps) o =
    ap (with_part p.0 (negsuc 0 *ℤ p.1)) (plus_parts-negated (p.0 + 1) ps o.3) ∙ front (negsuc 0 *ℤ p.1) (omega (arith, ints))
    ∙ put (neg_ℤ p.1) (λ e. o.2 (omega (arith, ints, e))) where
      front : (a : ℤ) → a ≡ neg_ℤ p.1 → with_part p.0 a (negated_parts ps) ≡ put_part p.0 (neg_ℤ p.1) (negated_parts ps)
      front a e = rw e (front_of (p.0) (neg_ℤ p.1) ps o.3)

      put : (a : ℤ) → a ≢ pos 0 → put_part p.0 a (negated_parts ps) ≡ (p.0, a) ∷ negated_parts ps
      put a n = rw (nonzero_test a n) refl
