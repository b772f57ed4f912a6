-- How frames begin: entry lists in slots, and the opening values.
use Rattle.std.proofs.Common.{◌≡◌, ℕ, zero, suc, ◌+◌, ◌-◌, ◌<◌, ◌≤◌, ◌⊎◌, inl, inr, List, [], ◌∷◌, ◌++◌, length, get_or, ℤ, pos, refl, sym, ap, ◌∙◌, arith}
use Rattle.std.proofs.lemmas.List.{get_or_past}
use Rattle.c_tree.specs.Meaning.{State, with_slot, entered, values_from}
use Rattle.flow_graph.specs.Columns.{AreValues, AreAllValues}
use Rattle.flow_graph.proofs.Values.{values_with}
use Rattle.flow_build.specs.declared.layout.Layout.{Layout}
use Rattle.flow_build.specs.steps.Layouts.{seen}
use Rattle.flow_build.proofs.Seen.{Side, first, middle, last, side, seen_first, seen_middle, seen_last}
use Rattle.flow_build.proofs.Slots.{slot_there, slot_other, Matches}

-- Lists of values

pub append_low : (xs ys : List ℤ) (i : ℕ) → i < length xs → get_or (xs ++ ys) i (pos 0) ≡ get_or xs i (pos 0)
append_low [] ys i h = absurd (omega (arith, h))
append_low (x ∷ xs) ys zero h = refl
append_low (x ∷ xs) ys (suc i) h = append_low xs ys i (omega (arith, h))

pub append_high : (xs ys : List ℤ) (i : ℕ) → length xs ≤ i → get_or (xs ++ ys) i (pos 0) ≡ get_or ys (i - length xs) (pos 0)
append_high [] ys i h = let e : i - 0 ≡ i = omega arith in ap (λ k. get_or ys k (pos 0)) (sym e)
append_high (x ∷ xs) ys zero h = absurd (omega (arith, h))
append_high (x ∷ xs) ys (suc i) h =
    let e : i - length xs ≡ suc i - length (x ∷ xs) = omega arith in
    append_high xs ys i (omega (arith, h)) ∙ ap (λ k. get_or ys k (pos 0)) e

pub values_at : (g : State) (i n k : ℕ) → k < n → get_or (values_from g i n) k (pos 0) ≡ g (i + k)
values_at g i zero k h = absurd (omega (arith, h))
values_at g i (suc n) zero h = let e : i + 0 ≡ i = omega arith in ap g (sym e)
values_at g i (suc n) (suc k) h = let e : suc i + k ≡ i + suc k = omega arith in values_at g (suc i) n k (omega (arith, h)) ∙ ap g e

pub values_past : (g : State) (i n k : ℕ) → n ≤ k → get_or (values_from g i n) k (pos 0) ≡ pos 0
values_past g i zero k h = refl
values_past g i (suc n) zero h = absurd (omega (arith, h))
values_past g i (suc n) (suc k) h = values_past g (suc i) n k (omega (arith, h))

-- a list is what is read of it
read_from : (all xs : List ℤ) (i : ℕ) → ((k : ℕ) → get_or all (i + k) (pos 0) ≡ get_or xs k (pos 0)) → values_from (entered all) i
    (length xs)
    ≡ xs
read_from all [] i h = refl
read_from all (x ∷ xs) i h =
    let e : i ≡ i + 0 = omega arith in
    ap (λ v. v ∷ values_from (entered all) (suc i) (length xs)) (ap (λ k. get_or all k (pos 0)) e ∙ h 0)
    ∙ ap (λ vs. x ∷ vs) (read_from all xs (suc i) (λ k.
    let f : suc i + k ≡ i + suc k = omega arith in
    ap (λ m. get_or all m (pos 0)) f ∙ h (suc k)))

pub values_entered : (xs : List ℤ) (n : ℕ) → length xs ≡ n → values_from (entered xs) 0 n ≡ xs
values_entered xs n e =
    ap (λ m. values_from (entered xs) 0 m) (sym e)
    ∙ read_from xs xs 0 (λ k. let f : 0 + k ≡ k = omega arith in ap (λ m. get_or xs m (pos 0)) f)

-- A call's frame matches its arguments and the globals.
pub entered_matches : (L : Layout) (vars : ℕ) (args : List ℤ) (g : State) → length args ≡ L.params →
    Matches vars (entered (args ++ values_from g 0 L.globals)) (seen L (entered args) g)
entered_matches L vars args g count = record { each = λ x lt. at x (side L x) }
  where
    at : (x : ℕ) → Side L x → entered (args ++ values_from g 0 L.globals) x ≡ seen L (entered args) g x
    at x (first h) = append_low args (values_from g 0 L.globals) x (omega (arith, h, count)) ∙ sym (seen_first L (entered args) g x h)
    at x (middle h k) =
        let e : 0 + (x - length args) ≡ x - L.params = omega (arith, count) in
        append_high args (values_from g 0 L.globals) x (omega (arith, h, count))
        ∙ values_at g 0 L.globals (x - length args) (omega (arith, h, k, count)) ∙ ap g e ∙ sym (seen_middle L (entered args) g x h k)
    at x (last h) =
        append_high args (values_from g 0 L.globals) x (omega (arith, h, count))
        ∙ values_past g 0 L.globals (x - length args) (omega (arith, h, count))
        ∙ sym (get_or_past args (x - L.globals) (pos 0) (omega (arith, h, count))) ∙ sym (seen_last L (entered args) g x h)

-- Opening values

abbrev pub opened : State → ℕ → List ℤ → State
opened σ x [] = σ
opened σ x (z ∷ zs) = opened (with_slot σ x z) (x + 1) zs

pub opened_out : (σ : State) (x : ℕ) (zs : List ℤ) (y : ℕ) → (y < x) ⊎ (x + length zs ≤ y) → opened σ x zs y ≡ σ y
opened_out σ x [] y h = refl
opened_out σ x (z ∷ zs) y h = opened_out (with_slot σ x z) (x + 1) zs y (further h) ∙ slot_other σ x y z (λ q. apart h q)
  where
    further : (y < x) ⊎ (x + length (z ∷ zs) ≤ y) → (y < x + 1) ⊎ (x + 1 + length zs ≤ y)
    further (inl l) = inl (omega (arith, l))
    further (inr l) = inr (omega (arith, l))

    apart : (y < x) ⊎ (x + length (z ∷ zs) ≤ y) → y ≡ x → ⊥
    apart (inl l) q = omega (arith, l, q)
    apart (inr l) q = omega (arith, l, q)

pub opened_in : (σ : State) (x : ℕ) (zs : List ℤ) (k y : ℕ) → k < length zs → y ≡ x + k → opened σ x zs y ≡ get_or zs k (pos 0)
opened_in σ x [] k y h e = absurd (omega (arith, h))
opened_in σ x (z ∷ zs) zero y h e =
    let same : y ≡ x = omega (arith, e) in
    opened_out (with_slot σ x z) (x + 1) zs y (inl (omega (arith, e))) ∙ ap (with_slot σ x z) same ∙ slot_there σ x z
opened_in σ x (z ∷ zs) (suc k) y h e = opened_in (with_slot σ x z) (x + 1) zs k y (omega (arith, h)) (omega (arith, e))

pub opened_values : (σ : State) (x : ℕ) (zs : List ℤ) → AreValues σ → AreAllValues zs → AreValues (opened σ x zs)
opened_values σ x [] vals all = vals
opened_values σ x (z ∷ zs) vals all = opened_values (with_slot σ x z) (x + 1) zs (values_with σ x z vals (all 0)) (λ i. all (suc i))

-- the frame of `main` matches the opening values
pub opened_matches : (L : Layout) (vars : ℕ) (zs : List ℤ) → L.params ≡ 0 → length zs ≡ L.globals →
    Matches vars (opened (entered []) 0 zs) (seen L (entered []) (entered zs))
opened_matches L vars zs none count = record { each = λ x lt. at x (side L x) }
  where
    at : (x : ℕ) → Side L x → opened (entered []) 0 zs x ≡ seen L (entered []) (entered zs) x
    at x (first h) = absurd (omega (arith, h, none))
    at x (middle h k) =
        let e : x ≡ x - L.params = omega (arith, none) in
        opened_in (entered []) 0 zs x x (omega (arith, k, none, count)) (omega arith) ∙ ap (λ i. get_or zs i (pos 0)) e
        ∙ sym (seen_middle L (entered []) (entered zs) x h k)
    at x (last h) =
        opened_out (entered []) 0 zs x (inr (omega (arith, h, none, count))) ∙ sym (seen_last L (entered []) (entered zs) x h)
