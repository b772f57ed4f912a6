-- A region that is met joins the next layer.
use Rattle.std.proofs.Common.{◌≡◌, ◌≢◌, ℕ, zero, suc, ◌+◌, ◌≤◌, ◌<◌, ◌⊎◌, inl, inr, Bool, List, [], ◌∷◌, ◌++◌, length, set, refl, sym, ap, ◌∙◌, subst, arith, get_or-set_same, get_or-set_other, length-set, length-append, slice_index, Contains}
use Rattle.std.proofs.lemmas.List.Elements.{Contains-push, Contains-push_cases, Contains-append_left}
use Rattle.std.proofs.lemmas.Bool.{cases_eq}
use Rattle.abstract_path.specs.Routes.{IsOpen}
use Rattle.abstract_path.specs.steps.Layers.{LeadsOn, IsSettled, Extends, unmet, IsLayered}

pub unmet-set : (far : List ℕ) (i n : ℕ) → i < length far → slice_index far i ≡ 0 → suc (unmet (set far i (suc n))) ≡ unmet far
unmet-set [] i n h e = absurd (omega (arith, h))
unmet-set (zero ∷ far) zero n h e = refl
unmet-set (suc x ∷ far) zero n h e = absurd (omega (arith, e))
unmet-set (zero ∷ far) (suc i) n h e = ap suc (unmet-set far i n (omega (arith, h)) e)
unmet-set (suc x ∷ far) (suc i) n h e = unmet-set far i n (omega (arith, h)) e

-- a number that is 0 differs from one that isn't
apart : (far : List ℕ) (s r : ℕ) → slice_index far s ≡ 0 → slice_index far r ≢ 0 → r ≢ s
apart far s r z h e = h (ap (slice_index far) e ∙ z)

module _ (far : List ℕ) (s depth : ℕ) (inside : s < length far) (is_new : slice_index far s ≡ 0) where
  abbrev new : List ℕ
  new = set far s (depth + 1)

  pub at_new : slice_index new s ≡ suc depth
  at_new = get_or-set_same far s (depth + 1) 0 inside ∙ omega arith

  pub other : (r : ℕ) → r ≢ s → slice_index new r ≡ slice_index far r
  other r h = get_or-set_other far s r (depth + 1) 0 h

  pub old : (r : ℕ) → slice_index far r ≢ 0 → slice_index new r ≡ slice_index far r
  old r h = other r (apart far s r is_new h)

  pub seen : (r : ℕ) → slice_index far r ≢ 0 → slice_index new r ≢ 0
  seen r h e = h (sym (old r h) ∙ e)

  -- either the new one, or one as before
  pub which : (P : ℕ → Type 0) (r : ℕ) → (r ≡ s → P (suc depth)) → (r ≢ s → P (slice_index far r)) → P (slice_index new r)
  which P r same differs = elim (cases_eq r s) [
    | inl e ↦ subst P (sym (ap (slice_index new) e ∙ at_new)) (same e)
    | inr h ↦ subst P (sym (other r h)) (differs h)
  ]

pub extends_met : (far : List ℕ) (s depth : ℕ) → s < length far → slice_index far s ≡ 0 → Extends far (set far s (depth + 1))
extends_met far s depth h z r e = old far s depth h z r e

pub layered_met : (edges : List (ℕ × ℕ)) (shut : List Bool) (regions target depth : ℕ) (current far way met : List ℕ) (s number x : ℕ) →
    IsLayered edges shut regions target depth current far way met → s < regions → slice_index far s ≡ 0 → IsOpen edges shut number s x →
    Contains current x → IsLayered edges shut regions target depth current (set far s (depth + 1)) (set way s number) (met ++ s ∷ [])
layered_met edges shut regions target depth current far way met s number x l h z o c = record {
  positive = l.positive;
  fars = length-set far s (depth + 1) ∙ l.fars;
  ways = length-set way s number ∙ l.ways;
  at_target = old far s depth in_far z target (λ e. one (sym l.at_target ∙ e)) ∙ l.at_target;
  leads = leads;
  within = λ r. which far s depth in_far z (λ n. n ≤ suc depth) r (λ _. omega arith) (λ _. l.within r);
  low = λ r. which far s depth in_far z (λ n. n ≤ regions) r (λ _. room) (λ _. l.low r);
  current_far = λ r k. old far s depth in_far z r (λ e. zero_depth (sym (l.current_far r k) ∙ e)) ∙ l.current_far r k;
  current_all = λ r. which far s depth in_far z (λ n. n ≡ depth → Contains current r) r (λ _ e. absurd (omega (arith, e)))
      (λ _. l.current_all r);
  met_far = λ r k. elim (Contains-push_cases met s r k) [
    | inl b ↦ old far s depth in_far z r (λ e. suc_zero (sym (l.met_far r b) ∙ e)) ∙ l.met_far r b
    | inr e ↦ ap (slice_index (set far s (depth + 1))) (sym e) ∙ at_new far s depth in_far z
  ];
  met_all = λ r. which far s depth in_far z (λ n. n ≡ suc depth → Contains (met ++ s ∷ []) r) r
      (λ e _. subst (Contains (met ++ s ∷ [])) (sym e) (Contains-push met s)) (λ _ e. Contains-append_left met (s ∷ []) r (l.met_all r e));
  before = before;
  few = few;
} where
  in_far : s < length far
  in_far = subst (λ n. s < n) (sym l.fars) h

  in_way : s < length way
  in_way = subst (λ n. s < n) (sym l.ways) h

  one : suc 0 ≢ 0
  one e = omega (arith, e)

  suc_zero : suc depth ≢ 0
  suc_zero e = omega (arith, e)

  zero_depth : depth ≢ 0
  zero_depth e = omega (arith, e, l.positive)

  x_seen : slice_index far x ≢ 0
  x_seen e = zero_depth (sym (l.current_far x c) ∙ e)

  some_current : 0 < length current
  some_current = omega (arith, c.1)

  fewer : suc (unmet (set far s (suc depth))) ≡ unmet far
  fewer = unmet-set far s depth in_far z

  room : suc depth ≤ regions
  room = omega (arith, fewer, l.few, some_current)

  few : depth + (unmet (set far s (depth + 1)) + (length (met ++ s ∷ []) + length current)) ≤ suc regions
  few = let plus : depth + 1 ≡ suc depth = omega arith in rw plus (omega (arith, fewer, l.few, length-append met (s ∷ [])))

  before : (r : ℕ) → slice_index (set far s (depth + 1)) r ≢ 0 → slice_index (set far s (depth + 1)) r < depth →
      IsSettled edges shut (set far s (depth + 1)) r
  before r = which far s depth in_far z (λ n. n ≢ 0 → n < depth → (e a : ℕ) → IsOpen edges shut e a r →
      (slice_index (set far s (depth + 1)) a ≢ 0) × (slice_index (set far s (depth + 1)) a ≤ suc n)) r (λ _ _ k. absurd (omega (arith, k)))
      (λ _ k b e a p.
      let f = l.before r k b e a p in (
        seen far s depth in_far z a f.0,
        subst (λ n. n ≤ suc (slice_index far r))
            (sym (old far s depth in_far z a f.0)) f.1,
      ))

  leads : (r : ℕ) → slice_index (set far s (depth + 1)) r ≢ 0 → LeadsOn edges shut target (set far s (depth + 1)) (set way s number) r
  leads r = which far s depth in_far z (λ n. n ≢ 0 → (r ≡ target) ⊎ ((next : ℕ) × IsOpen edges shut (slice_index (set way s number) r) r
      next
      × (slice_index (set far s (depth + 1)) next ≢ 0) × (n ≡ suc (slice_index (set far s (depth + 1)) next)))) r
      (λ e _. inr (
        x,
        subst (λ k. IsOpen edges shut k r x) (sym (ap (slice_index (set way s number)) e ∙ get_or-set_same way s number 0 in_way))
            (subst (λ k. IsOpen edges shut number k x) (sym e) o),
        seen far s depth in_far z x x_seen,
        ap suc (sym (old far s depth in_far z x x_seen ∙ l.current_far x c)),
      ))
      (λ ne k. elim (l.leads r k) [
        | inl e ↦ inl e
        | inr w ↦ inr (
          w.0,
          subst (λ j. IsOpen edges shut j r w.0) (sym (get_or-set_other way s r number 0 ne)) w.1,
          seen far s depth in_far z w.0 w.2,
          w.3 ∙ ap suc (sym (old far s depth in_far z w.0 w.2)),
        )
      ])
