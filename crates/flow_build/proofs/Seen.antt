-- The slots of variables and of globals, as a state of the source shows them.
use Rattle.std.proofs.Common.{◌≡◌, ℕ, zero, suc, ◌+◌, ◌-◌, ◌<◌, ◌≤◌, nat_lt, ◌==◌, Bool, true, false, cond, ◌∷◌, map, ℤ, refl, sym, ap, ◌∙◌, ◌⊎◌, inl, inr, arith}
use Rattle.std.specs.Prelude.{if◌then◌else◌}
use Rattle.std.proofs.lemmas.Bool.{lt-ltb, le-ltb, ltb-true, ltb-false, eq-eqb, ne_eqb, eqb-true}
use Rattle.c_tree.specs.Meaning.{State, with_slot, values_from}
use Rattle.flow_graph.specs.Runs.{with_slots}
use Rattle.flow_build.specs.declared.layout.Layout.{Layout}
use Rattle.flow_build.specs.steps.Layouts.{variable_slot, global_slot, slots_from, seen}

module _ (L : Layout) (s g : State) where
  -- below the parameters, among the globals, and after them
  pub seen_first : (z : ℕ) → z < L.params → seen L s g z ≡ s z
  seen_first z h = rw (lt-ltb z L.params h) refl

  pub seen_middle : (z : ℕ) → L.params ≤ z → z < L.params + L.globals → seen L s g z ≡ g (z - L.params)
  seen_middle z h k = rw (le-ltb z L.params h, lt-ltb z (L.params + L.globals) k) refl

  pub seen_last : (z : ℕ) → L.params + L.globals ≤ z → seen L s g z ≡ s (z - L.globals)
  seen_last z h =
      let a : L.params ≤ z = omega (arith, h) in
      rw (le-ltb z L.params a, le-ltb z (L.params + L.globals) h) refl

  pub seen_variable : (x : ℕ) → seen L s g (variable_slot L x) ≡ s x
  seen_variable x = by (nat_lt x L.params) refl
    where
      by : (b : Bool) → nat_lt x L.params ≡ b → seen L s g (if b then x else (x + L.globals)) ≡ s x
      by true e = seen_first x (ltb-true x L.params e)
      by false e =
          let low : L.params ≤ x = ltb-false x L.params e in
          let back : (x + L.globals) - L.globals ≡ x = omega arith in
          seen_last (x + L.globals) (omega (arith, low)) ∙ ap s back

  pub seen_global : (y : ℕ) → y < L.globals → seen L s g (global_slot L y) ≡ g y
  seen_global y h =
      let back : (L.params + y) - L.params ≡ y = omega arith in
      seen_middle (L.params + y) (omega arith) (omega (arith, h)) ∙ ap g back

-- where a slot lies
pub data Side (L : Layout) (z : ℕ) : Type 0 where
  first : z < L.params → Side L z
  middle : L.params ≤ z → z < L.params + L.globals → Side L z
  last : L.params + L.globals ≤ z → Side L z

pub side : (L : Layout) (z : ℕ) → Side L z
side L z = by (nat_lt z L.params) (nat_lt z (L.params + L.globals)) refl refl
  where
    by : (b c : Bool) → nat_lt z L.params ≡ b → nat_lt z (L.params + L.globals) ≡ c → Side L z
    by true c e f = first (ltb-true z L.params e)
    by false true e f = middle (ltb-false z L.params e) (ltb-true z (L.params + L.globals) f)
    by false false e f = last (ltb-false z (L.params + L.globals) f)

pub slot_other : (s : State) (x z : ℕ) (v : ℤ) → (z ≡ x → ⊥) → with_slot s x v z ≡ s z
slot_other s x z v ne = ap (λ b. cond b v (s z)) (ne_eqb z x ne)

this_slot : (s : State) (x z : ℕ) (v : ℤ) → z ≡ x → with_slot s x v z ≡ v
this_slot s x z v e = ap (λ b. cond b v (s z)) (eq-eqb z x e)

-- the same test of two pairs of numbers
same_slot : (s r : State) (x z y u : ℕ) (v : ℤ) → s z ≡ r u → (z ≡ x → u ≡ y) → (u ≡ y → z ≡ x) → with_slot s x v z ≡ with_slot r y v u
same_slot s r x z y u v h f b = by (z == x) refl
  where
    by : (t : Bool) → (z == x) ≡ t → with_slot s x v z ≡ with_slot r y v u
    by true e = this_slot s x z v (eqb-true z x e) ∙ sym (this_slot r y u v (f (eqb-true z x e)))
    by false e =
        let ne : z ≡ x → ⊥ = λ q. absurd (let t : (z == x) ≡ true = eq-eqb z x q in cc) in
        slot_other s x z v ne ∙ h ∙ sym (slot_other r y u v (λ q. ne (b q)))

-- a variable gets a value
pub seen_set : (L : Layout) (s g : State) (x : ℕ) (v : ℤ) (z : ℕ) → seen L (with_slot s x v) g z
    ≡ with_slot (seen L s g) (variable_slot L x) v z
seen_set L s g x v z = on (nat_lt x L.params) refl (side L z)
  where
    on : (b : Bool) → nat_lt x L.params ≡ b → Side L z → seen L (with_slot s x v) g z
        ≡ with_slot (seen L s g) (if b then x else (x + L.globals)) v z
    on true e (first h) =
        seen_first L (with_slot s x v) g z h
        ∙ same_slot s (seen L s g) x z x z v (sym (seen_first L s g z h)) (λ q. q) (λ q. q)
    on true e (middle h k) =
        let low : x < L.params = ltb-true x L.params e in
        seen_middle L (with_slot s x v) g z h k ∙ sym (seen_middle L s g z h k)
        ∙ sym (slot_other (seen L s g) x z v (λ q. omega (arith, low, h, q)))
    on true e (last h) =
        let low : x < L.params = ltb-true x L.params e in
        seen_last L (with_slot s x v) g z h ∙ slot_other s x (z - L.globals) v (λ q. omega (arith, low, h, q))
        ∙ sym (seen_last L s g z h) ∙ sym (slot_other (seen L s g) x z v (λ q. omega (arith, low, h, q)))
    on false e (first h) =
        let high : L.params ≤ x = ltb-false x L.params e in
        seen_first L (with_slot s x v) g z h ∙ slot_other s x z v (λ q. omega (arith, high, h, q))
        ∙ sym (seen_first L s g z h) ∙ sym (slot_other (seen L s g) (x + L.globals) z v (λ q. omega (arith, high, h, q)))
    on false e (middle h k) =
        let high : L.params ≤ x = ltb-false x L.params e in
        seen_middle L (with_slot s x v) g z h k ∙ sym (seen_middle L s g z h k)
        ∙ sym (slot_other (seen L s g) (x + L.globals) z v (λ q. omega (arith, high, k, q)))
    on false e (last h) =
        seen_last L (with_slot s x v) g z h
        ∙ same_slot s (seen L s g) x (z - L.globals) (x + L.globals) z v (sym (seen_last L s g z h)) (λ q. omega (arith, h, q))
        (λ q. omega (arith, h, q))

-- a global gets a value
pub seen_set_global : (L : Layout) (s g : State) (y : ℕ) (v : ℤ) → y < L.globals → (z : ℕ) → seen L s (with_slot g y v) z
    ≡ with_slot (seen L s g) (global_slot L y) v z
seen_set_global L s g y v lt z = on (side L z)
  where
    on : Side L z → seen L s (with_slot g y v) z ≡ with_slot (seen L s g) (global_slot L y) v z
    on (first h) =
        seen_first L s (with_slot g y v) z h ∙ sym (seen_first L s g z h)
        ∙ sym (slot_other (seen L s g) (global_slot L y) z v (λ q. omega (arith, h, q)))
    on (middle h k) =
        seen_middle L s (with_slot g y v) z h k
        ∙ same_slot g (seen L s g) y (z - L.params) (global_slot L y) z v (sym (seen_middle L s g z h k)) (λ q. omega (arith, h, q))
        (λ q. omega (arith, h, q))
    on (last h) =
        seen_last L s (with_slot g y v) z h ∙ sym (seen_last L s g z h)
        ∙ sym (slot_other (seen L s g) (global_slot L y) z v (λ q. omega (arith, h, lt, q)))

-- Lists of slots

-- what slots one after another hold, where that is known of each
pub slots_hold : (σ g : State) (x i n : ℕ) → ((k : ℕ) → k < n → σ (x + k) ≡ g (i + k)) → map σ (slots_from x n) ≡ values_from g i n
slots_hold σ g x i zero h = refl
slots_hold σ g x i (suc n) h =
    let a : x + 0 ≡ x = omega arith in
    let b : i + 0 ≡ i = omega arith in
    ap (λ v. v ∷ map σ (slots_from (suc x) n)) (sym (ap σ a) ∙ h 0 (omega arith) ∙ ap g b)
    ∙ ap (λ vs. g i ∷ vs) (slots_hold σ g (suc x) (suc i) n (λ k lt.
    let c : suc x + k ≡ x + suc k = omega arith in
    let d : suc i + k ≡ i + suc k = omega arith in
    ap σ c ∙ h (suc k) (omega (arith, lt)) ∙ sym (ap g d)))

-- slots one after another that were written
pub written_in : (σ g : State) (x i n k z : ℕ) → z ≡ x + k → k < n → with_slots σ (slots_from x n) (values_from g i n) z ≡ g (i + k)
written_in σ g x i zero k z e lt = absurd (omega (arith, lt))
written_in σ g x i (suc n) zero z e lt =
    let same : z ≡ x = omega (arith, e) in
    let b : i + 0 ≡ i = omega arith in
    this_slot (with_slots σ (slots_from (suc x) n) (values_from g (suc i) n)) x z (g i) same ∙ sym (ap g b)
written_in σ g x i (suc n) (suc k) z e lt =
    let d : suc i + k ≡ i + suc k = omega arith in
    slot_other (with_slots σ (slots_from (suc x) n) (values_from g (suc i) n)) x z (g i) (λ q. omega (arith, e, q))
    ∙ written_in σ g (suc x) (suc i) n k z (omega (arith, e)) (omega (arith, lt)) ∙ ap g d

pub written_out : (σ g : State) (x i n z : ℕ) → (z < x) ⊎ (x + n ≤ z) → with_slots σ (slots_from x n) (values_from g i n) z ≡ σ z
written_out σ g x i zero z h = refl
written_out σ g x i (suc n) z h =
    slot_other (with_slots σ (slots_from (suc x) n) (values_from g (suc i) n)) x z (g i) (λ q. apart h q)
    ∙ written_out σ g (suc x) (suc i) n z (further h)
  where
    apart : (z < x) ⊎ (x + suc n ≤ z) → z ≡ x → ⊥
    apart (inl l) q = omega (arith, l, q)
    apart (inr l) q = omega (arith, l, q)

    further : (z < x) ⊎ (x + suc n ≤ z) → (z < suc x) ⊎ (suc x + n ≤ z)
    further (inl l) = inl (omega (arith, l))
    further (inr l) = inr (omega (arith, l))
