-- The rows that stay say as much as all rows.
use Rattle.std.proofs.Common.{◌≡◌, ◌⊎◌, inl, inr, ℕ, Bool, true, false, not, ◌&&◌, List, [], ◌∷◌, ◌++◌, ℤ, pos, ◌==◌, ◌↔◌, arith, refl, sym, ap, subst, ◌∙◌}
use Rattle.std.specs.Prelude.{IsTrue, ◌≤ℤ◌, ◌<ℤ◌, int_le, int_lt, if◌then◌else◌}
use Rattle.std.specs.Ordering.{int_eq}
use Rattle.std.specs.List.{list_any}
use Rattle.std.specs.Cmp.Lexicographic.{pointwise, pointwise_decides}
use Rattle.std.proofs.lemmas.Int.{ints}
use Rattle.std.proofs.lemmas.Bool.Decides.{Decides-int_eq}
use borrow.Author.Tests.{eqb-true, eq-eqb}
use Rattle.linear_formula.specs.LinearSum.{LinearSum, Valuation, value_of, value_of_parts}
use Rattle.infeasible_cert.proofs.Meeting.{AllMet}
use Rattle.shadow_elim.specs.Reduction.{is_same_part, same_parts, is_as_strong, is_stronger, has_no_parts, is_trivial, stays, reduced_after, reduced}
use Rattle.shadow_elim.proofs.Members.{Among, among-append_cases, any-among}
use Rattle.shadow_elim.proofs.Tests.{both_true, first_true, le_from, lt_from, second_true}

-- Tests

part_decides : (p q : ℕ × ℤ) → (is_same_part p q ≡ true → p ≡ q) × (p ≡ q → is_same_part p q ≡ true)
part_decides p q = (
  λ h. pair_same (eqb-true p.0 q.0 (first_true (p.0 == q.0) (int_eq p.1 q.1) h))
      ((Decides-int_eq p.1 q.1).0 (second_true (p.0 == q.0) (int_eq p.1 q.1) h)),
  λ e. both_true (p.0 == q.0) (int_eq p.1 q.1) (eq-eqb p.0 q.0 (ap (λ (r : ℕ × ℤ). r.0) e))
      ((Decides-int_eq p.1 q.1).1 (ap (λ (r : ℕ × ℤ). r.1) e)),
) where
  pair_same : p.0 ≡ q.0 → p.1 ≡ q.1 → p ≡ q
  pair_same e f = λ i. (e i, f i)

pub same_parts-decides : (ps qs : List (ℕ × ℤ)) → (pointwise is_same_part ps qs ≡ true → ps ≡ qs)
    × (ps ≡ qs → pointwise is_same_part ps qs ≡ true)
same_parts-decides ps qs = pointwise_decides part_decides ps qs

-- S has the parts of t, and a constant as great or greater

pub record IsAtLeast (s t : LinearSum) : Type 0 where
  pub parts : s.parts ≡ t.parts
  pub constant : t.constant ≤ℤ s.constant

pub at-least-itself : (t : LinearSum) → IsAtLeast t t
at-least-itself t = record { parts = refl; constant = omega (arith, ints) }

pub at-least-of : (s t u : LinearSum) → IsAtLeast s t → IsAtLeast t u → IsAtLeast s u
at-least-of s t u h k = record {
  parts = h.parts ∙ k.parts;
  constant = omega (arith, ints, h.constant, k.constant);
}

pub at-least-met : (v : Valuation) (s t : LinearSum) → IsAtLeast s t → value_of v s ≤ℤ pos 0 → value_of v t ≤ℤ pos 0
at-least-met v s t h k =
    omega (arith, ints, h.constant, k, ap (value_of_parts v) h.parts)

pub as-strong-is : (t s : LinearSum) → is_as_strong t s ≡ true → IsAtLeast s t
as-strong-is t s h = record {
  parts = (same_parts-decides s.parts t.parts).0 (first_true (same_parts s t) (int_le t.constant s.constant) h);
  constant = le_from t.constant s.constant (second_true (same_parts s t) (int_le t.constant s.constant) h);
}

stronger-is : (t s : LinearSum) → is_stronger t s ≡ true → IsAtLeast s t × (t.constant <ℤ s.constant)
stronger-is t s h =
    let lt = lt_from t.constant s.constant (second_true (same_parts s t) (int_lt t.constant s.constant) h) in (
      record {
        parts = (same_parts-decides s.parts t.parts).0 (first_true (same_parts s t) (int_lt t.constant s.constant) h);
        constant = omega (arith, ints, lt);
      },
      lt,
    )

-- Rows that always hold

pub trivial-met : (v : Valuation) (t : LinearSum) → IsTrue (is_trivial t) → value_of v t ≤ℤ pos 0
trivial-met v t h =
    let none = (same_parts-decides t.parts []).0 (first_true (has_no_parts t) (int_le t.constant (pos 0)) h) in
    let low = le_from t.constant (pos 0) (second_true (has_no_parts t) (int_le t.constant (pos 0)) h) in
    omega (arith, ints, low, ap (value_of_parts v) none)

pub trivial-parts : (t : LinearSum) → IsTrue (is_trivial t) → t.parts ≡ []
trivial-parts t h = (same_parts-decides t.parts []).0 (first_true (has_no_parts t) (int_le t.constant (pos 0)) h)

-- a row that is at least as strong as one that can fail can fail
pub can-fail : (s t : LinearSum) → IsAtLeast s t → is_trivial t ≡ false → is_trivial s ≡ false
can-fail s t h n = by_value (is_trivial s) refl where
  by_value : (b : Bool) → is_trivial s ≡ b → b ≡ false
  by_value false e = refl
  by_value true e =
      let none : t.parts ≡ [] = sym h.parts ∙ trivial-parts s e in
      let low = le_from s.constant (pos 0) (second_true (has_no_parts s) (int_le s.constant (pos 0)) e) in
      let so : is_trivial t ≡ true = both_true (has_no_parts t) (int_le t.constant (pos 0)) ((same_parts-decides t.parts []).1 none)
      (to_le t.constant s.constant h.constant low) in
      sym so ∙ n
    where
      to_le : (a b : ℤ) → a ≤ℤ b → b ≤ℤ pos 0 → int_le a (pos 0) ≡ true
      to_le a b h k = grind (arith, ints)

-- What stays

-- a row among these is at least as strong
abbrev pub HasAtLeast : LinearSum → List LinearSum → Type 0
HasAtLeast t rows = (s : LinearSum) × Among s rows × IsAtLeast s t

-- the row always holds, or one of these is at least as strong
abbrev pub IsCovered : LinearSum → List LinearSum → Type 0
IsCovered t rows = IsTrue (is_trivial t) ⊎ HasAtLeast t rows

leaves : (before : List LinearSum) (t : LinearSum) (after : List LinearSum) → stays before t after ≡ false → is_trivial t ≡ false →
    HasAtLeast t before ⊎ ((s : LinearSum) × Among s after × IsAtLeast s t × (t.constant <ℤ s.constant))
leaves before t after h n = by_tests (is_trivial t) (list_any (is_as_strong t) before) (list_any (is_stronger t) after) n refl refl h where
  by_tests : (a b c : Bool) → a ≡ false → list_any (is_as_strong t) before ≡ b → list_any (is_stronger t) after ≡ c →
      (not a && (not b && not c)) ≡ false → HasAtLeast t before ⊎ ((s : LinearSum) × Among s after × IsAtLeast s t
      × (t.constant <ℤ s.constant))
  by_tests true b c n e f h = absurd (cc)
  by_tests false true c n e f h =
      let r = any-among (is_as_strong t) before e in
      inl (r.0, r.1, as-strong-is t r.0 r.2)
  by_tests false false true n e f h =
      let r = any-among (is_stronger t) after f in
      let k = stronger-is t r.0 r.2 in
      inr (r.0, r.1, k.0, k.1)
  by_tests false false false n e f h = absurd (cc)

-- a row has one at least as strong among those that stay, or among those before
abbrev IsHandled : List LinearSum → List LinearSum → LinearSum → Type 0
IsHandled before kept t = HasAtLeast t kept ⊎ HasAtLeast t before

better : (s t : LinearSum) (rows : List LinearSum) → IsAtLeast s t → HasAtLeast s rows → HasAtLeast t rows
better s t rows h k = (k.0, k.1, at-least-of k.0 s t k.2 h)

handled-after : (before ts : List LinearSum) (t : LinearSum) → Among t ts → is_trivial t ≡ false →
    IsHandled before (reduced_after before ts)
    t
handled-after before [] t h n = absurd h
handled-after before (u ∷ us) t h n =
    by_stay (stays before u us) refl (handled-after (before ++ u ∷ []) us) h where
      by_stay : (b : Bool) → stays before u us ≡ b → ((w : LinearSum) → Among w us → is_trivial w ≡ false → IsHandled (before ++ u ∷ [])
          (reduced_after (before ++ u ∷ []) us) w) → Among t (u ∷ us) → IsHandled before (if b then
          (u ∷ reduced_after (before ++ u ∷ []) us)
          else reduced_after (before ++ u ∷ []) us) t
      by_stay true e r (inl s) = inl (u, inl refl, subst (λ (w : LinearSum). IsAtLeast u w) s (at-least-itself u))
      by_stay true e r (inr k) = more (r t k n) where
        more : IsHandled (before ++ u ∷ []) (reduced_after (before ++ u ∷ []) us) t →
            IsHandled before (u ∷ reduced_after (before ++ u ∷ []) us) t
        more (inl g) = inl (g.0, inr g.1, g.2)
        more (inr g) = split (among-append_cases before (u ∷ []) g.0 g.1) where
          split : Among g.0 before ⊎ Among g.0 (u ∷ []) → IsHandled before (u ∷ reduced_after (before ++ u ∷ []) us) t
          split (inl a) = inr (g.0, a, g.2)
          split (inr (inl a)) = inl (u, inl refl, subst (λ (w : LinearSum). IsAtLeast w t) (sym a) g.2)
          split (inr (inr a)) = absurd a
      by_stay false e r k = of_any k where
        -- of the row that leaves itself
        of_left : (w : LinearSum) → IsAtLeast u w → is_trivial u ≡ false → IsHandled before (reduced_after (before ++ u ∷ []) us) w
        of_left w h m = by_cause (leaves before u us e m) where
          by_cause : HasAtLeast u before ⊎ ((s : LinearSum) × Among s us × IsAtLeast s u × (u.constant <ℤ s.constant)) →
              IsHandled before (reduced_after (before ++ u ∷ []) us) w
          by_cause (inl g) = inr (better u w before h g)
          by_cause (inr g) = by_found (r g.0 g.1 (can-fail g.0 u g.2 m)) where
            by_found : IsHandled (before ++ u ∷ []) (reduced_after (before ++ u ∷ []) us) g.0 →
                IsHandled before (reduced_after (before ++ u ∷ []) us) w
            by_found (inl f) = inl (better u w _ h (better g.0 u _ g.2 f))
            by_found (inr f) = split (among-append_cases before (u ∷ []) f.0 f.1) where
              split : Among f.0 before ⊎ Among f.0 (u ∷ []) → IsHandled before (reduced_after (before ++ u ∷ []) us) w
              split (inl a) = inr (better u w before h (better g.0 u before g.2 (f.0, a, f.2)))
              split (inr (inl a)) = absurd (omega (arith, ints, f.2.constant, g.3, ap (λ (y : LinearSum). y.constant) a))
              split (inr (inr a)) = absurd a

        of_any : Among t (u ∷ us) → IsHandled before (reduced_after (before ++ u ∷ []) us) t
        of_any (inl s) = of_left t (subst (λ (w : LinearSum). IsAtLeast u w) s (at-least-itself u))
            (subst (λ (w : LinearSum). is_trivial w ≡ false) (sym s) n)
        of_any (inr k) = more (r t k n) where
          more : IsHandled (before ++ u ∷ []) (reduced_after (before ++ u ∷ []) us) t →
              IsHandled before (reduced_after (before ++ u ∷ []) us)
              t
          more (inl g) = inl g
          more (inr g) = split (among-append_cases before (u ∷ []) g.0 g.1) where
            split : Among g.0 before ⊎ Among g.0 (u ∷ []) → IsHandled before (reduced_after (before ++ u ∷ []) us) t
            split (inl a) = inr (g.0, a, g.2)
            split (inr (inl a)) =
                let at_u : IsAtLeast u t = subst (λ (w : LinearSum). IsAtLeast w t) (sym a) g.2 in
                of_left t at_u (can-fail u t at_u n)
            split (inr (inr a)) = absurd a

pub reduced-covers : (rows : List LinearSum) (t : LinearSum) → Among t rows → IsCovered t (reduced rows)
reduced-covers rows t h = by_value (is_trivial t) refl where
  by_value : (b : Bool) → is_trivial t ≡ b → IsCovered t (reduced rows)
  by_value true e = inl e
  by_value false e = by_side (handled-after [] rows t h e) where
    by_side : IsHandled [] (reduced rows) t → IsCovered t (reduced rows)
    by_side (inl g) = inr g
    by_side (inr g) = absurd g.1

-- only members stay
reduced_after-among : (before ts : List LinearSum) (t : LinearSum) → Among t (reduced_after before ts) → Among t ts
reduced_after-among before [] t h = absurd h
reduced_after-among before (u ∷ us) t h = by_stay (stays before u us) (reduced_after-among (before ++ u ∷ []) us t) h where
  by_stay : (b : Bool) → (Among t (reduced_after (before ++ u ∷ []) us) → Among t us) →
      Among t (if b then (u ∷ reduced_after (before ++ u ∷ []) us) else reduced_after (before ++ u ∷ []) us) → Among t (u ∷ us)
  by_stay true r (inl e) = inl e
  by_stay true r (inr k) = inr (r k)
  by_stay false r k = inr (r k)

pub reduced-among : (rows : List LinearSum) (t : LinearSum) → Among t (reduced rows) → Among t rows
reduced-among rows t h = reduced_after-among [] rows t h

-- Where rows are met

pub met-among : (v : Valuation) (rows : List LinearSum) (t : LinearSum) → AllMet v rows → Among t rows → value_of v t ≤ℤ pos 0
met-among v [] t h k = absurd k
met-among v (r ∷ rows) t h (inl e) = subst (λ (s : LinearSum). value_of v s ≤ℤ pos 0) e h.0
met-among v (r ∷ rows) t h (inr k) = met-among v rows t h.1 k

pub met-from : (v : Valuation) (rows : List LinearSum) → ((t : LinearSum) → Among t rows → value_of v t ≤ℤ pos 0) → AllMet v rows
met-from v [] h = tt
met-from v (r ∷ rows) h = (h r (inl refl), met-from v rows (λ t k. h t (inr k)))

pub covered-met : (v : Valuation) (rows : List LinearSum) (t : LinearSum) → AllMet v rows → IsCovered t rows → value_of v t ≤ℤ pos 0
covered-met v rows t h (inl e) = trivial-met v t e
covered-met v rows t h (inr g) = at-least-met v g.0 t g.2 (met-among v rows g.0 h g.1)

-- all rows hold exactly where those that stay hold
pub reduced-met : (v : Valuation) (rows : List LinearSum) → AllMet v rows ↔ AllMet v (reduced rows)
reduced-met v rows = (
  λ h. met-from v (reduced rows) (λ t k. met-among v rows t h (reduced-among rows t k)),
  λ h. met-from v rows (λ t k. covered-met v (reduced rows) t h (reduced-covers rows t k)),
)
