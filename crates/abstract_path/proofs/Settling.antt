-- One region's edges, gone through.
use Rattle.std.proofs.Common.{◌≡◌, ◌≢◌, ℕ, zero, suc, ◌+◌, ◌≤◌, ◌<◌, inl, inr, Bool, List, [], ◌∷◌, length, set, replicate, refl, sym, ap, ◌∙◌, subst, arith, get_or-set_same, get_or-set_other, length-set, slice_get, slice_index, slice_index_or, Contains, Some}
use Rattle.std.proofs.lemmas.Bool.{cases_eq}
use Rattle.std.proofs.lemmas.Option.{get_or_from_slice_get}
use Rattle.std.proofs.lemmas.List.{get_or_default, length-replicate}
use Rattle.std.proofs.lemmas.List.Elements.{Contains-get_or}
use Rattle.abstract_path.specs.steps.Layers.{IsSettled, unmet, IsLayered, IsMeasured}

-- what was met has a place
pub inside : (far : List ℕ) (r : ℕ) → slice_index far r ≢ 0 → r < length far
inside [] r h = absurd (h refl)
inside (x ∷ far) zero h = omega arith
inside (x ∷ far) (suc r) h = omega (arith, inside far r h)

-- the number of a region in the layer
pub current_seen : (edges : List (ℕ × ℕ)) (shut : List Bool) (regions target depth : ℕ) (current far way met : List ℕ) (k : ℕ) →
    IsLayered edges shut regions target depth current far way met → k < length current → slice_index far (slice_index current k) ≡ depth
current_seen edges shut regions target depth current far way met k l h = l.current_far (slice_index current k)
    (Contains-get_or current k 0 h)

pub current_inside : (edges : List (ℕ × ℕ)) (shut : List Bool) (regions target depth : ℕ) (current far way met : List ℕ) (k : ℕ) →
    IsLayered edges shut regions target depth current far way met → k < length current → slice_index current k < regions
current_inside edges shut regions target depth current far way met k l h =
    subst (λ n. slice_index current k < n) l.fars
    (inside far (slice_index current k) (λ e. zero_depth (sym (current_seen edges shut regions target depth current far way met k l h)
    ∙ e))) where
      zero_depth : depth ≢ 0
      zero_depth e = omega (arith, e, l.positive)

-- where the edge leads to
pub end_is : (edges : List (ℕ × ℕ)) (e a b : ℕ) → slice_get edges e ≡ Some (a, b) → (slice_index_or edges e (0, 0)).1 ≡ b
end_is edges e a b h = ap (λ p. p.1) (get_or_from_slice_get edges e (a, b) (0, 0) h)

-- a layer without regions is the last
pub measured : (edges : List (ℕ × ℕ)) (shut : List Bool) (regions target depth : ℕ) (current far way met : List ℕ) →
    IsLayered edges shut regions target depth current far way met → current ≡ [] → met ≡ [] → IsMeasured edges shut regions target far way
measured edges shut regions target depth current far way met l c m = record {
  fars = l.fars;
  ways = l.ways;
  at_target = l.at_target;
  leads = l.leads;
  low = l.low;
  settled = λ r h. l.before r h (less r);
} where
  none : (x : ℕ) → Contains [] x → ⊥
  none x k = absurd (omega (arith, k.1))

  less : (r : ℕ) → slice_index far r < depth
  less r = elim (cases_eq (slice_index far r) depth) [
    | inl e ↦ absurd (none r (subst (λ xs. Contains xs r) c (l.current_all r e)))
    | inr n ↦ elim (cases_eq (slice_index far r) (suc depth)) [
      | inl e ↦ absurd (none r (subst (λ xs. Contains xs r) m (l.met_all r e)))
      | inr k ↦ omega (arith, l.within r, n, k)
    ]
  ]

-- the next layer
pub next_layer : (edges : List (ℕ × ℕ)) (shut : List Bool) (regions target depth : ℕ) (current far way met : List ℕ) →
    IsLayered edges shut regions target depth current far way met →
    ((k : ℕ) → k < length current → IsSettled edges shut far (slice_index current k)) → 0 < length current → IsLayered edges shut regions
    target (depth + 1) met far way []
next_layer edges shut regions target depth current far way met l settled some = record {
  positive = omega arith;
  fars = l.fars;
  ways = l.ways;
  at_target = l.at_target;
  leads = l.leads;
  within = λ r. omega (arith, l.within r);
  low = l.low;
  current_far = λ r k. l.met_far r k ∙ omega arith;
  current_all = λ r e. l.met_all r (e ∙ omega arith);
  met_far = λ r k. absurd (none r k);
  met_all = λ r e. absurd (omega (arith, e, l.within r));
  before = λ r h b. elim (cases_eq (slice_index far r) depth) [
    | inl e ↦ let k = l.current_all r e in subst (IsSettled edges shut far) (place r k) (settled k.0 k.1)
    | inr n ↦ l.before r h (omega (arith, b, n))
  ];
  few = omega (arith, l.few, some);
} where
  none : (x : ℕ) → Contains [] x → ⊥
  none x k = absurd (omega (arith, k.1))

  place : (r : ℕ) (k : Contains current r) → slice_index current k.0 ≡ r
  place r k = sym (get_or_default current k.0 r 0 k.1) ∙ k.2

abbrev zeros_of : ℕ → List ℕ
zeros_of n = replicate n 0

-- the first layer
pub first_layer : (edges : List (ℕ × ℕ)) (shut : List Bool) (regions target : ℕ) (way : List ℕ) → target < regions → length way ≡ regions →
    IsLayered edges shut regions target 1 (target ∷ []) (set (zeros_of regions) target 1) way []
first_layer edges shut regions target way h w = record {
  positive = omega arith;
  fars = length-set (zeros_of regions) target 1 ∙ fars;
  ways = w;
  at_target = one;
  leads = λ r k. inl (elim (cases_eq r target) [
    | inl e ↦ e
    | inr n ↦ absurd (k (rest r n))
  ]);
  within = λ r. by (λ n. n ≤ 2) r (omega arith) (omega arith);
  low = λ r. by (λ n. n ≤ regions) r (omega (arith, h)) (omega arith);
  current_far = λ r k. elim (cases_eq r target) [
    | inl e ↦ ap (slice_index (set (zeros_of regions) target 1)) e ∙ one
    | inr n ↦ absurd (n (only r k))
  ];
  current_all = λ r e. elim (cases_eq r target) [
    | inl s ↦ (0, omega arith, sym s)
    | inr n ↦ absurd (omega (arith, e, rest r n))
  ];
  met_far = λ r k. absurd (omega (arith, k.1));
  met_all = λ r e. absurd (omega (arith, e, by (λ n. n ≤ 1) r (omega arith) (omega arith)));
  before = λ r k b. absurd (k (omega (arith, b)));
  few = few;
} where
  fars : length (zeros_of regions) ≡ regions
  fars = length-replicate regions 0

  one : slice_index (set (zeros_of regions) target 1) target ≡ 1
  one = get_or-set_same (zeros_of regions) target 1 0 (subst (λ n. target < n) (sym fars) h)

  zeros : (n r : ℕ) → slice_index (zeros_of n) r ≡ 0
  zeros zero r = refl
  zeros (suc n) zero = refl
  zeros (suc n) (suc r) = zeros n r

  rest : (r : ℕ) → r ≢ target → slice_index (set (zeros_of regions) target 1) r ≡ 0
  rest r n = get_or-set_other (zeros_of regions) target r 1 0 n ∙ zeros regions r

  by : (P : ℕ → Type 0) (r : ℕ) → P 1 → P 0 → P (slice_index (set (zeros_of regions) target 1) r)
  by P r a b = elim (cases_eq r target) [
    | inl e ↦ subst P (sym (ap (slice_index (set (zeros_of regions) target 1)) e ∙ one)) a
    | inr n ↦ subst P (sym (rest r n)) b
  ]

  only : (r : ℕ) → Contains (target ∷ []) r → r ≡ target
  only r (zero, p, q) = sym q
  only r (suc k, p, q) = absurd (omega (arith, p))

  unmet-zeros : (n : ℕ) → unmet (zeros_of n) ≡ n
  unmet-zeros zero = refl
  unmet-zeros (suc n) = ap suc (unmet-zeros n)

  unmet-one : (n t : ℕ) → t < n → suc (unmet (set (zeros_of n) t 1)) ≡ n
  unmet-one zero t p = absurd (omega (arith, p))
  unmet-one (suc n) zero p = ap suc (unmet-zeros n)
  unmet-one (suc n) (suc t) p = ap suc (unmet-one n t (omega (arith, p)))

  few : 1 + (unmet (set (zeros_of regions) target 1) + (0 + 1)) ≤ suc regions
  few = omega (arith, unmet-one regions target h)

pub nonempty : (xs : List ℕ) → (length xs ≡ 0 → ⊥) → 0 < length xs
nonempty [] h = absurd (h refl)
nonempty (x ∷ xs) h = omega arith

pub room_of : (edges : List (ℕ × ℕ)) (shut : List Bool) (regions target depth : ℕ) (current far way met : List ℕ) →
    IsLayered edges shut regions target depth current far way met → 0 < length current → depth < regions + 1
room_of edges shut regions target depth current far way met l h = omega (arith, l.few, h)
