-- The columns before an edge, read at the sums in the places of those after it.
use Rattle.std.proofs.Common.{◌≡◌, ◌⊎◌, inl, inr, cond, zero, suc, get_or, ℕ, ◌<◌, ◌≤◌, ◌+◌, ◌-◌, Bool, true, false, List, [], ◌∷◌, length, map, ℤ, pos, ◌+ℤ◌, ◌*ℤ◌, ◌==◌, nat_lt, nat_le, arith, refl, ◌∙◌, ap, sym}
use Rattle.std.specs.Prelude.{IsTrue, if◌then◌else◌}
use Rattle.std.specs.List.{list_all}
use Rattle.std.proofs.lemmas.Int.{ints}
use Rattle.std.proofs.lemmas.List.{get_or_past}
use Rattle.std.proofs.lemmas.Bool.{true≢false, le-leb}
use borrow.Author.Tests.{ltb-true, ltb-false, lt-ltb, le-ltb, eqb-true, eqb_apart, eq-eqb, ne_eqb, not-true, leb-true}
use Rattle.c_tree.specs.Meaning.{State, with_slot, entered}
use Rattle.linear_formula.specs.LinearSum.{LinearSum, Valuation, value_of}
use Rattle.linear_formula.specs.Results.{combination_value, constant_sum}
use Rattle.linear_formula.specs.Replaced.{column_sum, replaced_valuation}
use Rattle.linear_formula.proofs.Limits.{both, both_in}
use Rattle.linear_formula.proofs.Replacing.{value-column}
use Rattle.linear_formula.proofs.Values.{value-combination}
use Rattle.flow_graph.specs.declared.graph.Lin.{Lin}
use Rattle.flow_graph.specs.Columns.{first_entry, first_exit, first_symbol, value_at, columns_of, no_slots, valuation_of, is_among, is_value_column, is_slot_column}
use Rattle.flow_graph.specs.Runs.{value_of_slots, lin_value}
use Rattle.flow_graph.specs.Readings.{entry_reading, one_reading, return_reading}
use Rattle.shadow_elim.specs.Sums.{total}
use Rattle.weakest_pre.specs.Preimage.{lin_sum}
use Rattle.weakest_pre.proofs.Agreeing.{Agree, other}
use Rattle.shadow_elim.proofs.Projecting.{or-cases as either_from}

-- Slots

pub slot-at : (s : State) (entry exit : List ℤ) (x : ℕ) → nat_lt x first_entry ≡ true → columns_of s entry exit x ≡ s x
slot-at s entry exit x e = rw e refl

-- the same entry and exit values in the same columns
past-slots : (s t : State) (entry exit : List ℤ) (x : ℕ) → nat_lt x first_entry ≡ false → columns_of s entry exit x ≡ columns_of t entry
    exit x
past-slots s t entry exit x e = rw e refl

pub slots-agree : (s : State) (entry : List ℤ) → Agree is_slot_column s (columns_of s entry [])
slots-agree s entry = λ x h. sym (slot-at s entry [] x h)

-- The entry

entry-at : (s : State) (entry exit : List ℤ) (i : ℕ) → i < first_entry → columns_of s entry exit (first_entry + i) ≡ value_at entry i
entry-at s entry exit i h =
    let a : nat_lt (first_entry + i) first_entry ≡ false = le-ltb (first_entry + i) first_entry (omega arith) in
    let b : nat_lt (first_entry + i) first_exit ≡ true = lt-ltb (first_entry + i) first_exit (omega (arith, h)) in
    let d : (first_entry + i) - first_entry ≡ i = omega arith in
    rw (a, b, d) refl

pub entry-reads : (params : ℕ) (entry : List ℤ) (x : ℕ) → length entry ≡ params → value_of (valuation_of entry []) (entry_reading params x)
    ≡ columns_of (entered entry) entry [] x
entry-reads params entry x e =
    by_tests (nat_lt x first_entry) (nat_lt x params) refl refl where
      by_tests : (b c : Bool) → nat_lt x first_entry ≡ b → nat_lt x params ≡ c → value_of (valuation_of entry [])
          (if b then (if c then column_sum (first_entry + x) else constant_sum (pos 0)) else column_sum x) ≡ columns_of (entered entry)
          entry [] x
      by_tests true true d f =
          value-column (valuation_of entry []) (first_entry + x) ∙ entry-at no_slots entry [] x (ltb-true x first_entry d)
          ∙ sym (slot-at (entered entry) entry [] x d)
      by_tests true false d f =
          sym (slot-at (entered entry) entry [] x d ∙ get_or_past entry x (pos 0) (omega (arith, ltb-false x params f, e)))
      by_tests false c d f =
          value-column (valuation_of entry []) x ∙ past-slots no_slots (entered entry) entry [] x d

-- A slot with a new value

chosen_old : (b c : Bool) (new old rest : ℤ) → c ≡ false → (if b then cond c new old else rest) ≡ (if b then old else rest)
chosen_old true c new old rest e = rw e refl
chosen_old false c new old rest e = refl

module _ (s : State) (entry : List ℤ) (slot : ℕ) (z : ℤ) (small : nat_lt slot first_entry ≡ true) where
  abbrev pub before : Valuation
  before = columns_of s entry []

  abbrev pub behind : Valuation
  behind = columns_of (with_slot s slot z) entry []

  pub behind-slot : behind slot ≡ z
  behind-slot =
      let here : (slot == slot) ≡ true = eq-eqb slot slot refl in
      slot-at (with_slot s slot z) entry [] slot small ∙ rw here refl

  pub behind-other : (x : ℕ) → (x == slot) ≡ false → behind x ≡ before x
  behind-other x e =
      chosen_old (nat_lt x first_entry) (x == slot) z (s x) (if nat_lt x first_exit then value_at entry (x - first_entry) else
      (if nat_lt x first_symbol then value_at [] (x - first_exit) else pos 0)) e

  pub behind-agrees : Agree (other slot) behind before
  behind-agrees = λ x h. behind-other x (ne_eqb x slot (λ e. eqb_apart slot x (not-true (slot == x) h) (sym e)))

  pub one-reads : (t : LinearSum) → value_of before t ≡ z → (x : ℕ) → value_of before (one_reading slot t x) ≡ behind x
  one-reads t e x = by_test (x == slot) refl where
    by_test : (b : Bool) → (x == slot) ≡ b → value_of before (if b then t else column_sum x) ≡ behind x
    by_test true d = e ∙ sym behind-slot ∙ ap behind (sym (eqb-true x slot d))
    by_test false d = value-column before x ∙ sym (behind-other x d)

  -- a valuation that differs from the one before at the slot alone
  pub changed : (w : Valuation) → ((x : ℕ) → (x ≡ slot → ⊥) → w x ≡ before x) → w slot ≡ z → (x : ℕ) → w x ≡ behind x
  changed w a e x = by_test (x == slot) refl where
    by_test : (b : Bool) → (x == slot) ≡ b → w x ≡ behind x
    by_test true d = ap w (eqb-true x slot d) ∙ e ∙ sym behind-slot ∙ ap behind (sym (eqb-true x slot d))
    by_test false d = a x (eqb_apart x slot d) ∙ sym (behind-other x d)

-- The value of an assignment

abbrev multiples_of : List (ℤ × ℕ) → List (ℤ × LinearSum)
multiples_of parts = map (λ p. (p.0, column_sum p.1)) parts

multiples-value : (s : State) (v : Valuation) (parts : List (ℤ × ℕ)) (c : ℤ) → Agree is_slot_column s v →
    IsTrue (list_all (λ p. nat_lt p.1 first_entry) parts) → combination_value v (multiples_of parts) c ≡ value_of_slots s parts +ℤ c
multiples-value s v [] c a n = omega (arith, ints)
multiples-value s v (p ∷ parts) c a n =
    let ns = both (nat_lt p.1 first_entry) (list_all (λ q. nat_lt q.1 first_entry) parts) n in
    let d : value_of v (column_sum p.1) ≡ s p.1 = value-column v p.1 ∙ sym (a p.1 ns.0) in
    ap (λ y. (p.0 *ℤ y) +ℤ combination_value v (multiples_of parts) c) d ∙ ap (λ y. (p.0 *ℤ s p.1) +ℤ y)
    (multiples-value s v parts c a ns.1)
    ∙ omega (arith, ints)

pub value-assigned : (s : State) (entry : List ℤ) (value : Lin) → IsTrue (list_all (λ p. nat_lt p.1 first_entry) value.parts) →
    value_of (columns_of s entry []) (total (lin_sum value)) ≡ lin_value s value
value-assigned s entry value n =
    value-combination (columns_of s entry []) (multiples_of value.parts) value.constant ∙ multiples-value s (columns_of s entry [])
    value.parts value.constant (slots-agree s entry) n

-- The exit

past-entry : (x : ℕ) → IsTrue (is_value_column first_entry first_entry x) → first_entry ≤ x
past-entry x h = by_side (either_from (is_among first_entry first_entry x) (is_among first_exit first_entry x) h) where
  by_side : IsTrue (is_among first_entry first_entry x) ⊎ IsTrue (is_among first_exit first_entry x) → first_entry ≤ x
  by_side (inl k) = leb-true first_entry x (both (nat_le first_entry x) (nat_lt x (first_entry + first_entry)) k).0
  by_side (inr k) =
      let l : first_exit ≤ x = leb-true first_exit x (both (nat_le first_exit x) (nat_lt x (first_exit + first_entry)) k).0 in
      omega (arith, l)

-- the value of the slot at a place
slots-at : (s : State) (slots : List ℕ) (i : ℕ) → i < length slots → value_at (map s slots) i ≡ s (get_or slots i 0)
slots-at s [] i h = absurd (omega (arith, h))
slots-at s (x ∷ slots) zero h = refl
slots-at s (x ∷ slots) (suc i) h = slots-at s slots i (omega (arith, h))

slots-small : (slots : List ℕ) (i : ℕ) → i < length slots → IsTrue (list_all (λ x. nat_lt x first_entry) slots) →
    nat_lt (get_or slots i 0) first_entry ≡ true
slots-small [] i h all = absurd (omega (arith, h))
slots-small (x ∷ slots) zero h all = (both (nat_lt x first_entry) (list_all (λ y. nat_lt y first_entry) slots) all).0
slots-small (x ∷ slots) (suc i) h all =
    slots-small slots i (omega (arith, h)) (both (nat_lt x first_entry) (list_all (λ y. nat_lt y first_entry) slots) all).1

slots-length : (s : State) (slots : List ℕ) → length (map s slots) ≡ length slots
slots-length s [] = refl
slots-length s (x ∷ slots) = ap suc (slots-length s slots)

pub return-reads : (s : State) (entry : List ℤ) (slots : List ℕ) → IsTrue (list_all (λ x. nat_lt x first_entry) slots) →
    Agree (is_value_column first_entry first_entry) (replaced_valuation (return_reading slots) (columns_of s entry []))
    (valuation_of entry (map s slots))
return-reads s entry slots small = λ x h. by_test x (past-entry x h) (below-symbols x h) (is_among first_exit (length slots) x) refl where
  below-symbols : (x : ℕ) → IsTrue (is_value_column first_entry first_entry x) → x < first_symbol
  below-symbols x h = by_side (either_from (is_among first_entry first_entry x) (is_among first_exit first_entry x) h) where
    by_side : IsTrue (is_among first_entry first_entry x) ⊎ IsTrue (is_among first_exit first_entry x) → x < first_symbol
    by_side (inl k) = omega (
      arith,
      ltb-true x (first_entry + first_entry) (both (nat_le first_entry x) (nat_lt x (first_entry + first_entry))
          k).1,
    )
    by_side (inr k) = omega (
      arith,
      ltb-true x (first_exit + first_entry) (both (nat_le first_exit x) (nat_lt x (first_exit + first_entry))
          k).1,
    )

  others : (x : ℕ) → (first_exit ≤ x → length slots ≤ x - first_exit) → (b : Bool) → nat_lt x first_exit ≡ b →
      (if b then value_at entry (x - first_entry) else (if nat_lt x first_symbol then value_at [] (x - first_exit) else pos 0))
      ≡ (if b then value_at entry (x - first_entry) else (if nat_lt x first_symbol then value_at (map s slots) (x - first_exit) else pos 0))
  others x n true d = refl
  others x n false d =
      let above : length slots ≤ x - first_exit = n (ltb-false x first_exit d) in
      ap (λ y. if nat_lt x first_symbol then y else pos 0) (get_or_past [] (x - first_exit) (pos 0) (omega arith)
      ∙ sym (get_or_past (map s slots) (x - first_exit) (pos 0) (omega (arith, above, slots-length s slots))))

  past-all : (x : ℕ) → is_among first_exit (length slots) x ≡ false → first_exit ≤ x → length slots ≤ x - first_exit
  past-all x d l = by_side (nat_lt x (first_exit + length slots)) refl where
    by_side : (b : Bool) → nat_lt x (first_exit + length slots) ≡ b → length slots ≤ x - first_exit
    by_side true e = absurd
        (true≢false (sym (both_in (nat_le first_exit x) (nat_lt x (first_exit + length slots)) (le-leb first_exit x l) e)
        ∙ d))
    by_side false e = omega (arith, l, ltb-false x (first_exit + length slots) e)

  by_test : (x : ℕ) → first_entry ≤ x → x < first_symbol → (b : Bool) → is_among first_exit (length slots) x ≡ b →
      value_of (columns_of s entry []) (if b then column_sum (get_or slots (x - first_exit) 0) else column_sum x)
      ≡ valuation_of entry (map s slots) x
  by_test x l below true d =
      let k = both (nat_le first_exit x) (nat_lt x (first_exit + length slots)) d in
      let from : first_exit ≤ x = leb-true first_exit x k.0 in
      let to : x < first_exit + length slots = ltb-true x (first_exit + length slots) k.1 in
      let i : x - first_exit < length slots = omega (arith, from, to) in
      let a : nat_lt x first_entry ≡ false = le-ltb x first_entry l in
      let b : nat_lt x first_exit ≡ false = le-ltb x first_exit from in
      let c : nat_lt x first_symbol ≡ true = lt-ltb x first_symbol below in
      value-column (columns_of s entry []) (get_or slots (x - first_exit) 0)
      ∙ slot-at s entry [] (get_or slots (x - first_exit) 0) (slots-small slots (x - first_exit) i small)
      ∙ sym (slots-at s slots (x - first_exit) i) ∙ rw (a, b, c) refl
  by_test x l below false d =
      let a : nat_lt x first_entry ≡ false = le-ltb x first_entry l in
      value-column (columns_of s entry []) x ∙ rw a (others x (past-all x d) (nat_lt x first_exit) refl)
