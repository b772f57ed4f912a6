-- The rows of a preimage are terms that name columns of one kind where those of the target do: of a kind to which each slot of the
-- edge and each entry value belongs.
use Rattle.std.proofs.Common.{◌≡◌, ⊎_elim, ℕ, zero, suc, ◌+◌, ◌-◌, ◌<◌, ◌≤◌, ◌^◌, List, [], ◌∷◌, ◌++◌, length, map, get_or, None, Some, Bool, true, false, ◌==◌, ◌&&◌, nat_lt, nat_le, ℤ, pos, arith, refl, sym, subst, ◌∙◌, if◌then◌else◌}
use Rattle.std.specs.Prelude.{IsTrue}
use Rattle.std.specs.List.{list_all}
use Rattle.std.proofs.lemmas.List.Elements.{All-nil, All-cons, All-head, All-tail}
use Rattle.std.proofs.lemmas.Option.{none-some}
use borrow.Author.Tests.{eqb-true, eq-eqb, ltb-true, leb-true}
use Rattle.linear_formula.specs.LinearSum.{LinearSum, listed_at, coefficient, is_term}
use Rattle.linear_formula.specs.steps.Order.{InOrder}
use Rattle.linear_formula.specs.Replaced.{column_sum}
use Rattle.linear_formula.specs.Formula.{are_terms}
use Rattle.linear_formula.specs.declared.formula.Atom.{Atom}
use Rattle.linear_formula.proofs.Limits.{both, both_in, IsTerm-from_test}
use Rattle.linear_formula.proofs.TermAtoms.{are_terms-append}
use Rattle.shadow_elim.specs.Projection.{gives, summed, projected}
use Rattle.shadow_elim.specs.ProjectionLaws.{FitsProjection, Pair, IsUnnamed}
use Rattle.shadow_elim.specs.Sums.{total, first_wide, rows_of_sums, row_sums}
use Rattle.shadow_elim.specs.declared.sum.Sum.{Sum}
use Rattle.shadow_elim.proofs.Projecting.{unless-none, gives-rows, projections-terms, projections-name-no-other, or-cases}
use Rattle.flow_graph.specs.declared.graph.Edge.{Edge}
use Rattle.flow_graph.specs.declared.graph.Edge.TheVariants.{Entry, Assign, Guard, Input, Pick, Call, Assert, Return}
use Rattle.flow_graph.specs.declared.graph.Lin.{Lin}
use Rattle.flow_graph.specs.Columns.{first_entry, first_exit, is_among, is_entry_column, is_value_column, names_only, rows_name_only}
use Rattle.flow_graph.specs.Readings.{one_reading, return_reading}
use Rattle.flow_graph.specs.Shapes.{source, is_call}
use Rattle.flow_graph.specs.WellFormed.{has_slots, has_terms, is_lin, max_slots, names_slots}
use Rattle.weakest_pre.specs.Preimage.{preimage, lin_sum, range_sums, assigned_sums, assigned_before}
use Rattle.call_bridge.specs.Musts.{is_number}
use Rattle.query_rules.specs.Rows.{IsSome}
use Rattle.call_bridge.proofs.Naming.{parts_name_only, summands_name_only, sums_name_only, rows_named, sums_are_terms, sums_named_append, rows_named_append, row_sums_named, column_named, rows_wider, sums_wider}

-- Rows that are left

absent_part : (allowed : ℕ → Bool) (y : ℕ) → allowed y ≡ false → (ps : List (ℕ × ℤ)) → IsTrue (parts_name_only allowed ps) →
    listed_at y ps ≡ pos 0
absent_part allowed y e [] h = refl
absent_part allowed y e (p ∷ ps) h = by_test (y == p.0) refl (absent_part allowed y e ps r.1) where
  r : IsTrue (allowed p.0) × IsTrue (parts_name_only allowed ps)
  r = both (allowed p.0) (parts_name_only allowed ps) h

  clash : true ≡ false → ⊥
  clash k = cc

  by_test : (b : Bool) → (y == p.0) ≡ b → listed_at y ps ≡ pos 0 → (if b then p.1 else listed_at y ps) ≡ pos 0
  by_test true f k = absurd (clash (sym (subst (λ n. IsTrue (allowed n)) (sym (eqb-true y p.0 f)) r.0) ∙ e))
  by_test false f k = k

pub absent_atoms : (allowed : ℕ → Bool) (y : ℕ) → allowed y ≡ false → (atoms : List Atom) → IsTrue (rows_name_only allowed atoms) →
    IsUnnamed y atoms
absent_atoms allowed y e [] h = All-nil (λ a. coefficient y a.term ≡ pos 0)
absent_atoms allowed y e (a ∷ atoms) h =
    let r = both (names_only allowed a.term) (rows_name_only allowed atoms) h in
    All-cons (λ b. coefficient y b.term ≡ pos 0) a atoms (absent_part allowed y e a.term.parts r.0) (absent_atoms allowed y e atoms r.1)

-- parts in order name each column that they list
parts_from : (allowed : ℕ → Bool) (low : ℕ) (ps : List (ℕ × ℤ)) → InOrder low ps → ((y : ℕ) → allowed y ≡ false → listed_at y ps ≡ pos 0) →
    IsTrue (parts_name_only allowed ps)
parts_from allowed low [] o h = refl
parts_from allowed low (p ∷ ps) o h = by_test (allowed p.0) refl (λ t. parts_from allowed (p.0 + 1) ps o.3 (later t)) where
  clash : true ≡ false → ⊥
  clash k = cc

  later : allowed p.0 ≡ true → (y : ℕ) → allowed y ≡ false → listed_at y ps ≡ pos 0
  later t y e = by_column (y == p.0) refl (h y e) where
    by_column : (b : Bool) → (y == p.0) ≡ b → (if b then p.1 else listed_at y ps) ≡ pos 0 → listed_at y ps ≡ pos 0
    by_column true f k = absurd (clash (sym t ∙ subst (λ n. allowed n ≡ false) (eqb-true y p.0 f) e))
    by_column false f k = k

  here : allowed p.0 ≡ false → ⊥
  here e = o.2 (subst (λ b. (if b then p.1 else listed_at p.0 ps) ≡ pos 0) (same p.0) (h p.0 e)) where
    same : (x : ℕ) → (x == x) ≡ true
    same x = eq-eqb x x refl

  by_test : (b : Bool) → allowed p.0 ≡ b → (allowed p.0 ≡ true → IsTrue (parts_name_only allowed ps)) →
      IsTrue (allowed p.0 && parts_name_only allowed ps)
  by_test true e k = both_in (allowed p.0) (parts_name_only allowed ps) e (k e)
  by_test false e k = absurd (here e)

pub rows_from : (allowed : ℕ → Bool) (atoms : List Atom) → IsTrue (are_terms atoms) → ((y : ℕ) → allowed y ≡ false → IsUnnamed y atoms) →
    IsTrue (rows_name_only allowed atoms)
rows_from allowed [] t h = refl
rows_from allowed (a ∷ atoms) t h =
    let ts = both (is_term a.term) (are_terms atoms) t in
    both_in (names_only allowed a.term) (rows_name_only allowed atoms)
    (parts_from allowed 0 a.term.parts (IsTerm-from_test a.term ts.0).order (λ y e. All-head (λ b. coefficient y b.term ≡ pos 0) a atoms
    (h y e)))
    (rows_from allowed atoms ts.1 (λ y e. All-tail (λ b. coefficient y b.term ≡ pos 0) a atoms (h y e)))

-- a slot of a list is below their number
pub slot_within : (count : ℕ) (slots : List ℕ) (i : ℕ) → IsTrue (list_all (λ x. nat_lt x count) slots) → i < length slots →
    IsTrue (nat_lt (get_or slots i 0) count)
slot_within count [] i h l = absurd (omega (arith, l))
slot_within count (x ∷ xs) zero h l = (both (nat_lt x count) (list_all (λ y. nat_lt y count) xs) h).0
slot_within count (x ∷ xs) (suc i) h l = slot_within count xs i (both (nat_lt x count) (list_all (λ y. nat_lt y count) xs) h).1
    (omega (arith, l))

-- the columns of a region after the edge: at the exit the given number of entry values, and the exit values
abbrev pub named_behind : (allowed : ℕ → Bool) (entries : ℕ) → Edge → ℕ → Bool
named_behind allowed entries (Return from to slots) x = is_value_column entries (length slots) x
named_behind allowed entries _ x = allowed x

-- terms that name columns of this kind alone
pub record NamesColumns (allowed : ℕ → Bool) (rows : List Atom) : Type 0 where
  pub names : IsTrue (rows_name_only allowed rows)
  pub terms : IsTrue (are_terms rows)

-- each column of the kind has 32 bits, and the given numbers of slots and entry values are of the kind
module _ (allowed : ℕ → Bool) (count entries : ℕ) (few : count ≤ max_slots) (number : (x : ℕ) → IsTrue (allowed x) → IsTrue (is_number x))
    (slot_allowed : (x : ℕ) → IsTrue (nat_lt x count) → IsTrue (allowed x))
    (entry_allowed : (x : ℕ) → IsTrue (is_entry_column entries x) → IsTrue (allowed x)) where
  abbrev IsNamed : List Atom → Type 0
  IsNamed rows = NamesColumns allowed rows

  -- Rows of sums, and appended rows

  sums_named : (sums : List Sum) (rows : List Atom) (pair : Pair) → summed sums (λ atoms. gives atoms None) ≡ gives rows pair →
      IsTrue (sums_name_only allowed sums) → IsNamed rows
  sums_named sums rows pair e n =
      let u = unless-none (first_wide sums) (gives (rows_of_sums sums) None) rows pair e in
      subst IsNamed (gives-rows (rows_of_sums sums) rows None pair u.1) (record {
        names = rows_named allowed sums n;
        terms = sums_are_terms sums (sums_wider allowed is_number number sums n) u.0;
      })

  both_named : (atoms more : List Atom) → IsNamed atoms → IsNamed more → IsNamed (atoms ++ more)
  both_named atoms more h k = record {
    names = rows_named_append allowed atoms more h.names k.names;
    terms = are_terms-append atoms more h.terms k.terms;
  }

  left_named : (columns : List ℕ) (atoms rows : List Atom) (pair : Pair) → FitsProjection columns atoms → IsNamed atoms →
      projected columns atoms ≡ gives rows pair → IsNamed rows
  left_named columns atoms rows pair f r e =
      let terms : IsTrue (are_terms rows) = projections-terms columns atoms rows pair f e in
      record {
        names = rows_from allowed rows terms (λ y k. projections-name-no-other columns atoms rows pair f e y
            (absent_atoms allowed y k atoms r.names));
        terms = terms;
      }

  -- Slots

  -- rows of an edge name slots
  edge_named : (atoms : List Atom) → IsTrue (list_all (names_slots count) atoms) → IsTrue (are_terms atoms) → IsNamed atoms
  edge_named atoms s t = record { names = rows_wider (λ x. nat_lt x count) allowed slot_allowed atoms s; terms = t }

  slot_fits : (slot : ℕ) (atoms : List Atom) → IsNamed atoms → IsTrue (nat_lt slot count) → FitsProjection (slot ∷ []) atoms
  slot_fits slot atoms r h = record {
    terms = r.terms;
    numbers = All-cons (λ x. x < 2 ^ 32) slot [] (let l = ltb-true slot count h in omega (arith, l, few)) (All-nil (λ x. x < 2 ^ 32));
  }

  lin_named : (parts : List (ℤ × ℕ)) → IsTrue (list_all (λ p. nat_lt p.1 count) parts) →
      IsTrue (summands_name_only allowed (map (λ p. (p.0, column_sum p.1)) parts))
  lin_named [] h = refl
  lin_named (p ∷ parts) h =
      let r = both (nat_lt p.1 count) (list_all (λ q. nat_lt q.1 count) parts) h in
      both_in (names_only allowed (column_sum p.1)) (summands_name_only allowed (map (λ q. (q.0, column_sum q.1)) parts))
      (column_named allowed p.1 (slot_allowed p.1 r.0)) (lin_named parts r.1)

  range_named : (t : LinearSum) → IsTrue (names_only allowed t) → IsTrue (sums_name_only allowed (range_sums t))
  range_named t h =
      let one : IsTrue (names_only allowed t && true) = both_in (names_only allowed t) true h refl in
      both_in (names_only allowed t && true) ((names_only allowed t && true) && true) one
      (both_in (names_only allowed t && true) true one refl)

  -- another sum in the place of a column
  read_named : (named : ℕ → Bool) (column : ℕ) (by : LinearSum) → IsTrue (names_only allowed by) →
      ((x : ℕ) → IsTrue (named x) → (x == column) ≡ false → IsTrue (allowed x)) → (x : ℕ) → IsTrue (named x) →
      IsTrue (names_only allowed (one_reading column by x))
  read_named named column by h others x n = by_test (x == column) refl where
    by_test : (b : Bool) → (x == column) ≡ b → IsTrue (names_only allowed (if b then by else column_sum x))
    by_test true e = h
    by_test false e = column_named allowed x (others x n e)

  -- the slots of a return in the places of the exit values
  return_named : (slots : List ℕ) → IsTrue (list_all (λ x. nat_lt x count) slots) → (x : ℕ) →
      IsTrue (is_value_column entries (length slots) x) → IsTrue (names_only allowed (return_reading slots x))
  return_named slots h x n = by_test (is_among first_exit (length slots) x) refl where
    by_test : (b : Bool) → is_among first_exit (length slots) x ≡ b →
        IsTrue (names_only allowed (if b then column_sum (get_or slots (x - first_exit) 0) else column_sum x))
    by_test true e =
        let r = both (nat_le first_exit x) (nat_lt x (first_exit + length slots)) e in
        let l : x - first_exit < length slots = omega (arith, leb-true first_exit x r.0, ltb-true x (first_exit + length slots) r.1) in
        column_named allowed (get_or slots (x - first_exit) 0) (slot_allowed (get_or slots (x - first_exit) 0)
        (slot_within count slots (x - first_exit) h l))
    by_test false e = column_named allowed x (⊎_elim (λ k. entry_allowed x k)
        (λ k. absurd (clash (sym k ∙ e))) (or-cases (is_among first_entry entries x) (is_among first_exit (length slots) x) n))
      where
        clash : true ≡ false → ⊥
        clash k = cc

  -- The preimage

  assign_named : (slot : ℕ) (value : Lin) (target rows : List Atom) (pair : Pair) → IsTrue (is_lin count value) →
      IsTrue (rows_name_only allowed target) → assigned_before slot value target ≡ gives rows pair → IsNamed rows
  assign_named slot value target rows pair l n e =
      let u = unless-none (first_wide (lin_sum value ∷ [])) (summed (assigned_sums slot (total (lin_sum value)) target)
      (λ atoms. gives atoms None))
      rows pair e in
      sums_named (assigned_sums slot (total (lin_sum value)) target) rows pair u.1
      (sums_named_append allowed (row_sums (one_reading slot (total (lin_sum value))) target) (range_sums (total (lin_sum value)))
      (row_sums_named allowed allowed (one_reading slot (total (lin_sum value)))
      (read_named allowed slot (total (lin_sum value)) named (λ x k _. k)) target n)
      (range_named (total (lin_sum value)) named))
    where
      parts : IsTrue (list_all (λ p. nat_lt p.1 count) value.parts)
      parts = (both (nat_le (length value.parts) 2) (list_all (λ p. nat_lt p.1 count) value.parts) l).1

      named : IsTrue (names_only allowed (total (lin_sum value)))
      named = (both (names_only allowed (total (lin_sum value))) true
          (rows_named allowed (lin_sum value ∷ []) (both_in (summands_name_only allowed (lin_sum value).summands) true
          (lin_named value.parts parts) refl))).0

  pub preimage_named : (edge : Edge) (n : ℕ) (target rows : List Atom) (pair : Pair) → source edge ≡ Some n → is_call edge ≡ false →
      IsTrue (has_slots count edge) → IsTrue (has_terms edge) → IsTrue (are_terms target) →
      IsTrue (rows_name_only (named_behind allowed entries edge) target) →
      preimage edge target ≡ gives rows pair → IsNamed rows
  preimage_named (Entry to params) n target rows pair src c s t tt' names e = absurd (none-some n src)
  preimage_named (Assign from to slot value) n target rows pair src c s t tt' names e =
      assign_named slot value target rows pair (both (nat_lt slot count) (is_lin count value) s).1 names e
  preimage_named (Guard from to more) n target rows pair src c s t tt' names e =
      subst IsNamed (gives-rows (target ++ more.atoms) rows None pair e)
      (both_named target more.atoms (record { names = names; terms = tt' }) (edge_named more.atoms s t))
  preimage_named (Input from to slot) n target rows pair src c s t tt' names e =
      let cube : IsNamed target = record { names = names; terms = tt' } in
      left_named (slot ∷ []) target rows pair (slot_fits slot target cube s) cube e
  preimage_named (Pick from to slot more) n target rows pair src c s t tt' names e =
      let u = both (nat_lt slot count) (list_all (names_slots count) more.atoms) s in
      let cube : IsNamed (target ++ more.atoms) = both_named target more.atoms (record { names = names; terms = tt' })
      (edge_named more.atoms u.1 t) in
      left_named (slot ∷ []) (target ++ more.atoms) rows pair (slot_fits slot (target ++ more.atoms) cube u.0) cube e
  preimage_named (Call from to p args results) n target rows pair src c s t tt' names e = absurd (no_call c) where
    no_call : true ≡ false → ⊥
    no_call h = cc
  preimage_named (Assert from to id more) n target rows pair src c s t tt' names e =
      subst IsNamed (gives-rows (target ++ more.atoms) rows None pair e)
      (both_named target more.atoms (record { names = names; terms = tt' }) (edge_named more.atoms s t))
  preimage_named (Return from to slots) n target rows pair src c s t tt' names e =
      sums_named (row_sums (return_reading slots) target) rows pair e
      (row_sums_named allowed (is_value_column entries (length slots)) (return_reading slots) (return_named slots s) target names)

-- Atoms by which a region is split
module _ (allowed : ℕ → Bool) where
  pub some_named : (atoms all : List Atom) → IsSome atoms all → NamesColumns allowed all → NamesColumns allowed atoms
  some_named [] all s r = record { names = refl; terms = refl }
  some_named (a ∷ atoms) [] s r = absurd s
  some_named (a ∷ atoms) (b ∷ all) s r = ⊎_elim (λ k. here k.0 (some_named atoms all k.1 rest)) (λ k. some_named (a ∷ atoms) all k rest)
      s where
        names : IsTrue (names_only allowed b.term) × IsTrue (rows_name_only allowed all)
        names = both (names_only allowed b.term) (rows_name_only allowed all) r.names

        terms : IsTrue (is_term b.term) × IsTrue (are_terms all)
        terms = both (is_term b.term) (are_terms all) r.terms

        rest : NamesColumns allowed all
        rest = record { names = names.1; terms = terms.1 }

        here : a ≡ b → NamesColumns allowed atoms → NamesColumns allowed (a ∷ atoms)
        here k more = record {
          names = both_in (names_only allowed a.term) (rows_name_only allowed atoms)
              (subst (λ (x : Atom). IsTrue (names_only allowed x.term)) (sym k) names.0) more.names;
          terms = both_in (is_term a.term) (are_terms atoms) (subst (λ (x : Atom). IsTrue (is_term x.term)) (sym k) terms.0) more.terms;
        }
