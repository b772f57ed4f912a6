-- Slots and values.
use Rattle.std.proofs.Common.{◌≡◌, ℕ, ◌+◌, ◌-◌, ◌<◌, ◌≤◌, Bool, true, false, ◌||◌, cond, eqb, length, ◌∷◌, map, inl, inr, sym, ℤ, ◌+ℤ◌, ◌-ℤ◌, ◌*ℤ◌, IsTrue, refl, ap, ◌∙◌, arith}
use Rattle.c_tree.specs.Syntax.{PureProgram}
use Rattle.flow_build.specs.declared.layout.Layout.{Layout}
use Rattle.std.proofs.lemmas.Int.{ints}
use Rattle.std.proofs.lemmas.Bool.{eq-eqb}
use Rattle.c_tree.specs.Meaning.{State, with_slot, is_value, values_from}
use Rattle.flow_graph.specs.Runs.{lin_value, with_slots}
use Rattle.flow_build.specs.steps.Layouts.{global_slots, seen}
pub use Rattle.flow_build.proofs.Seen.{slot_other}
use Rattle.flow_build.proofs.Seen.{Side, first, middle, last, side, seen_first, seen_middle, seen_last, slots_hold, written_in, written_out}
use Rattle.flow_graph.specs.Columns.{AreValues}
use Rattle.flow_build.specs.declared.operand.Operand.{Operand}
use Rattle.flow_build.specs.declared.operand.Operand.TheVariants.{Variable, Constant}
use Rattle.flow_build.specs.steps.Forms.{Values, no_values, value, Value, literal, read, input, call, scale, sum, difference, quotient, remainder, truth}
use Rattle.flow_build.specs.steps.Operands.{constant_lin, scaled_lin, operand_lin, sum_lin, difference_lin}
use Rattle.flow_build.specs.steps.Lowering.{operand_at, argument_slot, argument_slots, slots_of}
use Rattle.flow_build.proofs.FormMeaning.{count_values, FitsValue, IsInSlot, IsSettled}

pub slot_there : (s : State) (x : ℕ) (v : ℤ) → with_slot s x v x ≡ v
slot_there s x v = ap (λ b. cond b v (s x)) (eq-eqb x x refl)

-- the graph's slots of variables and globals are those of a state of the program
pub record Matches (vars : ℕ) (σ s : State) : Type 0 where
  pub each : (x : ℕ) → x < vars → σ x ≡ s x

-- The slots from vars to below t stay, and where no call is made those below vars, too.
pub record Keeps (calls : Bool) (vars t : ℕ) (old new : State) : Type 0 where
  pub above : (x : ℕ) → vars ≤ x → x < t → new x ≡ old x
  pub below : calls ≡ false → (x : ℕ) → x < vars → new x ≡ old x

pub keeps_all : (c : Bool) (vars t : ℕ) (s : State) → Keeps c vars t s s
keeps_all c vars t s = record { above = λ x le lt. refl; below = λ none x lt. refl }

pub none_of : (c d : Bool) → (c || d) ≡ false → (c ≡ false) × (d ≡ false)
none_of false d h = (refl, h)
none_of true d h = absurd cc

pub keeps_on : (c d : Bool) (vars t u : ℕ) (a b e : State) → t ≤ u → Keeps c vars t a b → Keeps d vars u b e → Keeps (c || d) vars t a e
keeps_on c d vars t u a b e le h k = record {
  above = λ x from to. k.above x from (omega (arith, to, le)) ∙ h.above x from to;
  below = λ none x lt. let n = none_of c d none in k.below n.1 x lt ∙ h.below n.0 x lt;
}

-- where more may be called
pub keeps_weak : (c d : Bool) (vars t : ℕ) (a b : State) → Keeps c vars t a b → Keeps (c || d) vars t a b
keeps_weak c d vars t a b h = record { above = λ x from to. h.above x from to; below = λ none x lt. h.below (none_of c d none).0 x lt }

-- slots below a lower one stay, too
pub keeps_lower : (c : Bool) (vars t u : ℕ) (a b : State) → t ≤ u → Keeps c vars u a b → Keeps c vars t a b
keeps_lower c vars t u a b le h = record {
  above = λ x from to. h.above x from (omega (arith, to, le));
  below = λ none x lt. h.below none x
      lt;
}

-- a slot that is free gets a value
pub keeps_with : (c : Bool) (vars t x : ℕ) (a b : State) (v : ℤ) → vars ≤ t → t ≤ x → Keeps c vars t a b →
    Keeps c vars t a (with_slot b x v)
keeps_with c vars t x a b v low le h = record {
  above = λ y from to. slot_other b x y v (λ q. omega (arith, to, le, q)) ∙ h.above y from to;
  below = λ none y lt. slot_other b x y v (λ q. omega (arith, lt, low, le, q)) ∙ h.below none y lt;
}

pub matches_temp : (vars x : ℕ) (v : ℤ) (σ s : State) → vars ≤ x → Matches vars σ s → Matches vars (with_slot σ x v) s
matches_temp vars x v σ s le m = record { each = λ y lt. slot_other σ x y v (λ q. omega (arith, le, lt, q)) ∙ m.each y lt }

pub matches_with : (vars x : ℕ) (v z : ℤ) (σ s : State) → z ≡ v → Matches vars σ s → Matches vars (with_slot σ x z) (with_slot s x v)
matches_with vars x v z σ s e m = record { each = λ y lt. ap (λ u. cond (eqb y x) u (σ y)) e ∙ ap (λ u. cond (eqb y x) v u) (m.each y lt) }

-- the same state of the program, slot by slot
pub matches_same : (vars : ℕ) (σ s r : State) → ((x : ℕ) → s x ≡ r x) → Matches vars σ s → Matches vars σ r
matches_same vars σ s r e m = record { each = λ x lt. m.each x lt ∙ e x }

-- The state after a call: the globals have new values, and slot t what is returned.
module _ (L : Layout) (vars t : ℕ) (fit : L.params + L.globals ≤ vars) (low : vars ≤ t) (σ s g g' : State) (v : ℤ) where
  abbrev pub called : State
  called = with_slots σ (t ∷ global_slots L) (v ∷ values_from g' 0 L.globals)

  called_other : (x : ℕ) → (x ≡ t → ⊥) → called x ≡ with_slots σ (global_slots L) (values_from g' 0 L.globals) x
  called_other x ne = slot_other (with_slots σ (global_slots L) (values_from g' 0 L.globals)) t x v ne

  pub called_there : called t ≡ v
  called_there = slot_there (with_slots σ (global_slots L) (values_from g' 0 L.globals)) t v

  pub called_matches : Matches vars σ (seen L s g) → Matches vars called (seen L s g')
  called_matches m = record { each = λ x lt. called_other x (λ q. omega (arith, lt, low, q)) ∙ at x lt (side L x) }
    where
      at : (x : ℕ) → x < vars → Side L x → with_slots σ (global_slots L) (values_from g' 0 L.globals) x ≡ seen L s g' x
      at x lt (first h) = written_out σ g' L.params 0 L.globals x (inl h) ∙ m.each x lt ∙ seen_first L s g x h ∙ sym (seen_first L s g' x h)
      at x lt (middle h k) =
          let e : x ≡ L.params + (x - L.params) = omega (arith, h) in
          let zero : 0 + (x - L.params) ≡ x - L.params = omega arith in
          written_in σ g' L.params 0 L.globals (x - L.params) x e (omega (arith, h, k)) ∙ ap g' zero ∙ sym (seen_middle L s g' x h k)
      at x lt (last h) = written_out σ g' L.params 0 L.globals x (inr h) ∙ m.each x lt ∙ seen_last L s g x h ∙ sym (seen_last L s g' x h)

  pub called_keeps : (c : Bool) (σ0 : State) → Keeps c vars t σ0 σ → Keeps true vars t σ0 called
  called_keeps c σ0 k = record {
    above = λ x from to. called_other x (λ q. omega (arith, to, q))
        ∙ written_out σ g' L.params 0 L.globals x (inr (omega (arith, fit, from))) ∙ k.above x from to;
    below = λ none x lt. absurd (let no : true ≡ false = none in cc);
  }

-- the globals' slots hold the globals
pub globals_hold : (L : Layout) (vars : ℕ) (σ s g : State) → L.params + L.globals ≤ vars → Matches vars σ (seen L s g) →
    map σ (global_slots L) ≡ values_from g 0 L.globals
globals_hold L vars σ s g fit m =
    slots_hold σ g L.params 0 L.globals (λ k lt.
    let back : (L.params + k) - L.params ≡ k = omega arith in
    let zero : 0 + k ≡ k = omega arith in
    m.each (L.params + k) (omega (arith, lt, fit)) ∙ seen_middle L s g (L.params + k) (omega arith) (omega (arith, lt)) ∙ ap g back
    ∙ sym (ap g zero))

abbrev pub operand_value : State → Operand → ℤ
operand_value σ (Variable x) = σ x
operand_value σ (Constant n) = n

pub operand_is : (σ : State) (a : Operand) → lin_value σ (operand_lin a) ≡ operand_value σ a
operand_is σ (Variable x) = omega (arith, ints)
operand_is σ (Constant n) = omega (arith, ints)

pub constant_is : (σ : State) (n : ℤ) → lin_value σ (constant_lin n) ≡ n
constant_is σ n = omega (arith, ints)

pub scaled_is : (σ : State) (c : ℤ) (a : Operand) → lin_value σ (scaled_lin c a) ≡ c *ℤ operand_value σ a
scaled_is σ c (Variable x) = omega (arith, ints)
scaled_is σ c (Constant n) = omega (arith, ints)

pub sum_is : (σ : State) (a b : Operand) → lin_value σ (sum_lin a b) ≡ operand_value σ a +ℤ operand_value σ b
sum_is σ (Variable x) (Variable y) = omega (arith, ints)
sum_is σ (Variable x) (Constant n) = omega (arith, ints)
sum_is σ (Constant n) (Variable y) = omega (arith, ints)
sum_is σ (Constant n) (Constant m) = omega (arith, ints)

pub difference_is : (σ : State) (a b : Operand) → lin_value σ (difference_lin a b) ≡ operand_value σ a -ℤ operand_value σ b
difference_is σ (Variable x) (Variable y) = omega (arith, ints)
difference_is σ (Variable x) (Constant n) = omega (arith, ints)
difference_is σ (Constant n) (Variable y) = omega (arith, ints)
difference_is σ (Constant n) (Constant m) = omega (arith, ints)

-- A value's operand stays while slots above it change, and while no call is made where it is in place.
pub operand_kept : (P : PureProgram) (L : Layout) (calls : Bool) (vars t : ℕ) (v : Value) (σ σ' : State) → vars ≤ t →
    FitsValue P L vars v → IsSettled v calls → Keeps calls vars (t + slots_of v) σ σ' →
    operand_value σ' (operand_at v t) ≡ operand_value σ (operand_at v t)
operand_kept P L calls vars t (literal false n) σ σ' le fits still k = refl
operand_kept P L calls vars t (literal true n) σ σ' le fits still k = k.above t le (omega arith)
operand_kept P L calls vars t (read false x) σ σ' le fits still k = k.below still x fits
operand_kept P L calls vars t (read true x) σ σ' le fits still k = k.above t le (omega arith)
operand_kept P L calls vars t input σ σ' le fits still k = k.above t le (omega arith)
operand_kept P L calls vars t (call p vs gs) σ σ' le fits still k = k.above t le (omega arith)
operand_kept P L calls vars t (scale c v) σ σ' le fits still k = k.above t le (omega arith)
operand_kept P L calls vars t (sum v u) σ σ' le fits still k = k.above t le (omega arith)
operand_kept P L calls vars t (difference v u) σ σ' le fits still k = k.above t le (omega arith)
operand_kept P L calls vars t (quotient c v) σ σ' le fits still k = k.above t le (omega arith)
operand_kept P L calls vars t (remainder c v) σ σ' le fits still k = k.above t le (omega arith)
operand_kept P L calls vars t (truth c) σ σ' le fits still k = k.above t le (omega arith)

-- An operand has a value.
pub operand_has : (P : PureProgram) (L : Layout) (vars t : ℕ) (v : Value) (σ : State) → FitsValue P L vars v → AreValues σ →
    IsTrue (is_value (operand_value σ (operand_at v t)))
operand_has P L vars t (literal false n) σ fits h = fits
operand_has P L vars t (literal true n) σ fits h = h t
operand_has P L vars t (read false x) σ fits h = h x
operand_has P L vars t (read true x) σ fits h = h t
operand_has P L vars t input σ fits h = h t
operand_has P L vars t (call p vs gs) σ fits h = h t
operand_has P L vars t (scale c v) σ fits h = h t
operand_has P L vars t (sum v u) σ fits h = h t
operand_has P L vars t (difference v u) σ fits h = h t
operand_has P L vars t (quotient c v) σ fits h = h t
operand_has P L vars t (remainder c v) σ fits h = h t
operand_has P L vars t (truth c) σ fits h = h t

-- An argument's slot has the operand's value.
pub argument_is : (t : ℕ) (v : Value) (σ : State) → IsInSlot v → σ (argument_slot v t) ≡ operand_value σ (operand_at v t)
argument_is t (literal false n) σ h = absurd h
argument_is t (literal true n) σ h = refl
argument_is t (read false x) σ h = refl
argument_is t (read true x) σ h = refl
argument_is t input σ h = refl
argument_is t (call p vs gs) σ h = refl
argument_is t (scale c v) σ h = refl
argument_is t (sum v u) σ h = refl
argument_is t (difference v u) σ h = refl
argument_is t (quotient c v) σ h = refl
argument_is t (remainder c v) σ h = refl
argument_is t (truth c) σ h = refl

-- there is a slot for each argument
pub arguments_count : (vs : Values) (t : ℕ) → length (argument_slots vs t) ≡ count_values vs
arguments_count no_values t = refl
arguments_count (value v vs) t = let e = arguments_count vs (t + slots_of v) in omega (arith, e)
