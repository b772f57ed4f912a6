-- The states before an edge, and those that go over it into a target.
use Rattle.std.proofs.Common.{◌≡◌, ℕ, ◌<◌, Bool, true, false, List, [], ◌∷◌, ◌++◌, zero, suc, ◌-◌, ℤ, pos, negsuc, ◌+ℤ◌, ◌*ℤ◌, nat_lt, map, arith, refl, ◌∙◌, sym, subst}
use Rattle.std.specs.Prelude.{IsTrue, slice_index_or, if◌then◌else◌}
use Rattle.std.specs.List.{list_all}
use Rattle.std.proofs.lemmas.Int.{ints}
use Rattle.c_tree.specs.Meaning.{State, with_slot, entered, is_value}
use Rattle.linear_formula.specs.LinearSum.{LinearSum, Valuation, Is64, is64, value_of}
use Rattle.linear_formula.specs.Formula.{HoldsAll, are_terms}
use Rattle.linear_formula.specs.Replaced.{replaced_valuation}
use Rattle.linear_formula.specs.Results.{combination}
use Rattle.linear_formula.specs.declared.formula.Atom.{Atom}
use Rattle.linear_formula.specs.declared.formula.Cube.{Cube}
use Rattle.linear_formula.proofs.Limits.{both}
use Rattle.linear_formula.proofs.Values.{value-combination}
use Rattle.shadow_elim.specs.Shadows.{KeepsAll, NamesNone, LosesNone}
use Rattle.shadow_elim.specs.Sums.{total, rows_of_sums, row_sums}
use Rattle.shadow_elim.proofs.Summing.{sums-hold, hold-sums, holds-same, sums-append, sums-split}
use Rattle.flow_graph.specs.declared.graph.Lin.{Lin}
use Rattle.flow_graph.specs.declared.graph.Edge.TheVariants.{Entry, Assign, Guard, Input, Pick, Assert, Return}
use Rattle.flow_graph.specs.Runs.{inside, left, failing, lin_value}
use Rattle.flow_graph.specs.WellFormed.{max_slots, names_slots}
use Rattle.flow_graph.specs.Columns.{first_entry, first_exit, first_symbol, columns_of, valuation_of, is_slot_column, is_value_column, AreValues, AreAllValues, value_at}
use Rattle.flow_graph.specs.Readings.{entry_reading, one_reading, return_reading}
use Rattle.flow_graph.specs.Regions.{FitsEdge, LiesIn}
use Rattle.weakest_pre.specs.Preimage.{lin_sum, range_sums, assigned_sums}
use Rattle.weakest_pre.specs.Predecessors.{HoldsPredecessors, HoldsNoOther}
use Rattle.weakest_pre.proofs.Agreeing.{value-bounds, bounds-value, holds-agree, agree-back, holds-append, holds-split, rows-absent, other}
use Rattle.flow_graph.proofs.Numbers.{value_of_64 as is64-value}
use Rattle.flow_graph.proofs.Numbers.{value_64 as value-is64}
use Rattle.weakest_pre.proofs.Places.{slots-agree, entry-reads, one-reads, behind-agrees, changed, value-assigned, return-reads}
use Rattle.flow_graph.proofs.Values.{values_with as slot-values}

-- Rows that are read

read-holds : (v : Valuation) (by : ℕ → LinearSum) (target atoms : List Atom) → atoms ≡ rows_of_sums (row_sums by target) →
    HoldsAll (replaced_valuation by v) target → HoldsAll v atoms
read-holds v by target atoms e h = subst (HoldsAll v) (sym e) (sums-hold v by target h)

holds-read : (v : Valuation) (by : ℕ → LinearSum) (target atoms : List Atom) → atoms ≡ rows_of_sums (row_sums by target) →
    HoldsAll v atoms →
    HoldsAll (replaced_valuation by v) target
holds-read v by target atoms e h = hold-sums v by target (subst (HoldsAll v) e h)

-- The entry

module _ (to params : ℕ) (target atoms : List Atom) (e : atoms ≡ rows_of_sums (row_sums (entry_reading params) target)) where
  pub entry-holds : HoldsPredecessors (Entry to params) target atoms
  entry-holds = λ f s entry vs es g. (
    g.0,
    read-holds (valuation_of entry []) (entry_reading params) target atoms e (holds-same (columns_of (entered entry) entry [])
        (replaced_valuation (entry_reading params) (valuation_of entry [])) target (λ x. sym (entry-reads params entry x g.0)) g.1.1),
  )

  pub entry-exact : HoldsNoOther (Entry to params) target atoms
  entry-exact = λ f s entry vs es g. (
    g.0,
    (
      tt,
      holds-same (replaced_valuation (entry_reading params) (valuation_of entry [])) (columns_of (entered entry) entry []) target
          (λ x. entry-reads params entry x g.0) (holds-read (valuation_of entry []) (entry_reading params) target atoms e g.1),
    ),
  )

-- The exit

module _ (from to : ℕ) (slots : List ℕ) (target atoms : List Atom)
    (e : atoms ≡ rows_of_sums (row_sums (return_reading slots) target)) where
  abbrev by : ℕ → LinearSum
  by = return_reading slots

  pub return-holds : HoldsPredecessors (Return from to slots) target atoms
  return-holds = λ f s entry vs es g.
      let v = columns_of s entry [] in
      let w = valuation_of entry (map s slots) in
      let lies : HoldsAll w target = (subst (LiesIn entry target) g.3.0 g.4).1 in
      read-holds v by target atoms e (holds-agree (is_value_column first_entry first_entry) w (replaced_valuation by v) target
      (agree-back (is_value_column first_entry first_entry) (replaced_valuation by v) w (return-reads s entry slots f.slots)) f.columns
      lies)

  pub return-exact : HoldsNoOther (Return from to slots) target atoms
  return-exact = λ f s entry vs es g.
      let v = columns_of s entry [] in
      let w = valuation_of entry (map s slots) in (
        [],
        [],
        left (map s slots),
        (refl, refl),
        (
          tt,
          holds-agree (is_value_column first_entry first_entry) (replaced_valuation by v) w
              target (return-reads s entry slots f.slots) f.columns (holds-read v by target atoms e g),
        ),
      )

-- Rows of a guard

abbrev NamesSlots : List Atom → Type 0
NamesSlots rows = IsTrue (list_all (names_slots max_slots) rows)

rows-behind : (s : State) (entry : List ℤ) (rows : List Atom) → NamesSlots rows → HoldsAll s rows → HoldsAll (columns_of s entry []) rows
rows-behind s entry rows n h = holds-agree is_slot_column s (columns_of s entry []) rows (slots-agree s entry) n h

rows-before : (s : State) (entry : List ℤ) (rows : List Atom) → NamesSlots rows → HoldsAll (columns_of s entry []) rows → HoldsAll s rows
rows-before s entry rows n h =
    holds-agree is_slot_column (columns_of s entry []) s rows (agree-back is_slot_column s (columns_of s entry []) (slots-agree s entry)) n
    h

module _ (from to id : ℕ) (rows : Cube) (target atoms : List Atom) (e : atoms ≡ target ++ rows.atoms) where
  both-hold : (s : State) (entry : List ℤ) → NamesSlots rows.atoms → HoldsAll (columns_of s entry []) target → HoldsAll s rows.atoms →
      HoldsAll (columns_of s entry []) atoms
  both-hold s entry n h k =
      subst (HoldsAll (columns_of s entry [])) (sym e) (holds-append (columns_of s entry []) target rows.atoms h
      (rows-behind s entry rows.atoms n k))

  both-held : (s : State) (entry : List ℤ) → NamesSlots rows.atoms → HoldsAll (columns_of s entry []) atoms →
      HoldsAll (columns_of s entry []) target × HoldsAll s rows.atoms
  both-held s entry n h =
      let r = holds-split (columns_of s entry []) target rows.atoms (subst (HoldsAll (columns_of s entry [])) e h) in
      (r.0, rows-before s entry rows.atoms n r.1)

  pub guard-holds : HoldsPredecessors (Guard from to rows) target atoms
  guard-holds = λ f s entry vs es g. both-hold s entry f.slots (subst (LiesIn entry target) g.3.1 g.4).1 g.3.0

  pub guard-exact : HoldsNoOther (Guard from to rows) target atoms
  guard-exact = λ f s entry vs es g.
      let r = both-held s entry f.slots g in
      ([], [], inside to s, (r.1, refl, refl), (tt, r.0))

  pub assert-holds : HoldsPredecessors (Assert from to id rows) target atoms
  assert-holds = λ f s entry vs es g. both-hold s entry f.slots (subst (LiesIn entry target) g.3.1 g.4).1 g.3.0

  pub assert-exact : HoldsNoOther (Assert from to id rows) target atoms
  assert-exact = λ f s entry vs es g.
      let r = both-held s entry f.slots g in
      ([], [], failing id s, (r.1, refl, refl), (tt, r.0))

-- An assignment

abbrev NamesSlotsOnly : Lin → Type 0
NamesSlotsOnly value = IsTrue (list_all (λ p. nat_lt p.1 max_slots) value.parts)

abbrev upper_sum : LinearSum → LinearSum
upper_sum t = combination ((pos 1, t) ∷ []) (negsuc 9223372036854775806)

abbrev lower_sum : LinearSum → LinearSum
lower_sum t = combination ((negsuc 0, t) ∷ []) (negsuc 9223372036854775807)

upper-value : (v : Valuation) (t : LinearSum) → value_of v (upper_sum t) ≡ value_of v t +ℤ negsuc 9223372036854775806
upper-value v t = value-combination v ((pos 1, t) ∷ []) (negsuc 9223372036854775806) ∙ omega (arith, ints)

lower-value : (v : Valuation) (t : LinearSum) → value_of v (lower_sum t) ≡ (negsuc 0 *ℤ value_of v t) +ℤ negsuc 9223372036854775807
lower-value v t = value-combination v ((negsuc 0, t) ∷ []) (negsuc 9223372036854775807)

range-holds : (v : Valuation) (t : LinearSum) → IsTrue (is_value (value_of v t)) → HoldsAll v (rows_of_sums (range_sums t))
range-holds v t h =
    let b = value-bounds (value_of v t) h in
    (omega (arith, ints, upper-value v t, b.1), (omega (arith, ints, lower-value v t, b.0), tt))

holds-range : (v : Valuation) (t : LinearSum) → HoldsAll v (rows_of_sums (range_sums t)) → IsTrue (is_value (value_of v t))
holds-range v t h =
    let high = h.0 in let low = h.1.0 in
    bounds-value (value_of v t) (omega (arith, ints, lower-value v t, low)) (omega (arith, ints, upper-value v t, high))

module _ (from to slot : ℕ) (value : Lin) (target atoms : List Atom)
    (e : atoms ≡ rows_of_sums (assigned_sums slot (total (lin_sum value)) target)) where
  abbrev sum : LinearSum
  sum = total (lin_sum value)

  assigned : (s : State) (entry : List ℤ) → FitsEdge (Assign from to slot value) target → value_of (columns_of s entry []) sum
      ≡ lin_value s value
  assigned s entry f = value-assigned s entry value (both _ _ (both _ _ f.slots).1).1

  pub assign-holds : HoldsPredecessors (Assign from to slot value) target atoms
  assign-holds = λ f s entry vs es g.
      let v = columns_of s entry [] in
      let z = lin_value s value in
      let is : value_of v sum ≡ z = assigned s entry f in
      let lies : HoldsAll (columns_of (with_slot s slot z) entry []) target = (subst (LiesIn entry target) g.3.1 g.4).1 in
      let small : nat_lt slot first_entry ≡ true = (both _ _ f.slots).0 in
      let in_range : IsTrue (is_value (value_of v sum)) = subst (λ y. IsTrue (is_value y)) (sym is) g.3.0 in
      let rows = sums-hold v (one_reading slot sum) target (holds-same (columns_of (with_slot s slot z) entry [])
      (replaced_valuation (one_reading slot sum) v) target (λ x. sym (one-reads s entry slot z small sum is x)) lies) in
      subst (HoldsAll v) (sym e) (sums-append v (row_sums (one_reading slot sum) target) (range_sums sum) rows (range-holds v sum in_range))

  pub assign-exact : HoldsNoOther (Assign from to slot value) target atoms
  assign-exact = λ f s entry vs es g.
      let v = columns_of s entry [] in
      let z = lin_value s value in
      let is : value_of v sum ≡ z = assigned s entry f in
      let small : nat_lt slot first_entry ≡ true = (both _ _ f.slots).0 in
      let met = sums-split v (row_sums (one_reading slot sum) target) (range_sums sum) (subst (HoldsAll v) e g) in
      let lies = holds-same (replaced_valuation (one_reading slot sum) v) (columns_of (with_slot s slot z) entry []) target
      (λ x. one-reads s entry slot z small sum is x) (hold-sums v (one_reading slot sum) target met.0) in
      ([], [], inside to (with_slot s slot z), (subst (λ y. IsTrue (is_value y)) is (holds-range v sum met.1), refl, refl), (tt, lies))

-- A slot that gets some value

columns-values : (s : State) (entry : List ℤ) → AreValues s → AreAllValues entry → Is64 (columns_of s entry [])
columns-values s entry vs es = λ x. by_tests x (nat_lt x first_entry) (nat_lt x first_exit) (nat_lt x first_symbol) where
  by_tests : (x : ℕ) (b c d : Bool) →
      IsTrue (is64 (if b then s x else (if c then value_at entry (x - first_entry) else (if d then value_at [] (x - first_exit) else pos
      0))))
  by_tests x true c d = value-is64 (s x) (vs x)
  by_tests x false true d = value-is64 (value_at entry (x - first_entry)) (es (x - first_entry))
  by_tests x false false true = refl
  by_tests x false false false = refl

only-at : (slot x k : ℕ) → k < 1 → slice_index_or (slot ∷ []) k x ≡ x → x ≡ slot
only-at slot x zero h e = sym e
only-at slot x (suc k) h e = absurd (omega (arith, h))

module _ (slot : ℕ) (cube atoms : List Atom) where
  forgotten : IsTrue (are_terms atoms) → KeepsAll cube atoms → NamesNone (slot ∷ []) atoms → (s : State) (entry : List ℤ) (z : ℤ) →
      AreValues s → AreAllValues entry → nat_lt slot first_entry ≡ true → IsTrue (is_value z) →
      HoldsAll (columns_of (with_slot s slot z) entry []) cube → HoldsAll (columns_of s entry []) atoms
  forgotten terms keeps free s entry z vs es small h k =
      let w = columns_of (with_slot s slot z) entry [] in
      let shadow : HoldsAll w atoms = keeps w (columns-values (with_slot s slot z) entry (slot-values s slot z vs h) es) k in
      holds-agree (other slot) w (columns_of s entry []) atoms (behind-agrees s entry slot z small)
      (rows-absent slot atoms terms (free slot (0, omega arith, refl))) shadow

  -- some value with which the rows hold
  abbrev Found : State → List ℤ → Type 0
  Found s entry = (z : ℤ) × IsTrue (is_value z) × HoldsAll (columns_of (with_slot s slot z) entry []) cube

  found : LosesNone (slot ∷ []) cube atoms → (s : State) (entry : List ℤ) → AreValues s → AreAllValues entry → nat_lt slot first_entry
      ≡ true → HoldsAll (columns_of s entry []) atoms → Found s entry
  found loses s entry vs es small h =
      let r = loses (columns_of s entry []) (columns-values s entry vs es) h in
      let w = r.0 in
      let z = w slot in (
        z,
        is64-value z (r.1 slot),
        holds-same w (columns_of (with_slot s slot z) entry []) cube
            (changed s entry slot z small w (λ x n. r.2 x (λ c. n (only-at slot x c.0 c.1 c.2))) refl) r.3,
      )

module _ (from to slot : ℕ) (target atoms : List Atom) where
  pub input-holds : IsTrue (are_terms atoms) → KeepsAll target atoms → NamesNone (slot ∷ []) atoms → HoldsPredecessors (Input from to slot)
      target atoms
  input-holds terms keeps free = λ f s entry vs es g.
      forgotten slot target atoms terms keeps free s entry g.3.0 vs es f.slots g.3.1 (subst (LiesIn entry target) g.3.3 g.4).1

  pub input-exact : LosesNone (slot ∷ []) target atoms → HoldsNoOther (Input from to slot) target atoms
  input-exact loses = λ f s entry vs es g.
      let r = found slot target atoms loses s entry vs es f.slots g in
      (r.0 ∷ [], [], inside to (with_slot s slot r.0), (r.0, r.1, refl, refl), (tt, r.2))

module _ (from to slot : ℕ) (rows : Cube) (target cube atoms : List Atom) (e : cube ≡ target ++ rows.atoms) where
  pub pick-holds : IsTrue (are_terms atoms) → KeepsAll cube atoms → NamesNone (slot ∷ []) atoms → HoldsPredecessors (Pick from to slot rows)
      target atoms
  pick-holds terms keeps free = λ f s entry vs es g.
      let fs = both (nat_lt slot max_slots) (list_all (names_slots max_slots) rows.atoms) f.slots in
      let z = g.3.0 in
      let w = columns_of (with_slot s slot z) entry [] in
      let lies : HoldsAll w target = (subst (LiesIn entry target) g.3.3 g.4).1 in
      let all = holds-append w target rows.atoms lies (rows-behind (with_slot s slot z) entry rows.atoms fs.1 g.3.2) in
      forgotten slot cube atoms terms keeps free s entry z vs es fs.0 g.3.1 (subst (HoldsAll w) (sym e) all)

  pub pick-exact : LosesNone (slot ∷ []) cube atoms → HoldsNoOther (Pick from to slot rows) target atoms
  pick-exact loses = λ f s entry vs es g.
      let fs = both (nat_lt slot max_slots) (list_all (names_slots max_slots) rows.atoms) f.slots in
      let r = found slot cube atoms loses s entry vs es fs.0 g in
      let w = columns_of (with_slot s slot r.0) entry [] in
      let all = holds-split w target rows.atoms (subst (HoldsAll w) e r.2) in (
        [],
        [],
        inside to (with_slot s slot r.0),
        (r.0, r.1, rows-before (with_slot s slot r.0) entry rows.atoms fs.1 all.1, refl, refl),
        (tt, all.0),
      )
