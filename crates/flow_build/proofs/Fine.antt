-- What the edges of a procedure's graph keep, by their kinds.
use Rattle.std.proofs.Common.{◌≡◌, ℕ, zero, suc, ◌+◌, ◌<◌, ◌≤◌, nat_lt, nat_le, Bool, true, false, ◌||◌, ◌&&◌, ◌==◌, List, [], ◌∷◌, ◌++◌, length, Some, ℤ, pos, negsuc, IsTrue, refl, sym, ap, ◌∙◌, subst, ◌⊎◌, inl, inr, arith}
use Rattle.std.specs.Prelude.{All, Contains, slice_get, slice_index_or, unsigned_abs, neg_ℤ, ◌^◌, ◌-ℤ◌, if◌then◌else◌}
use Rattle.std.specs.List.{list_all, list_any}
use Rattle.std.proofs.lemmas.Bool.{lt-ltb, le-leb, ne_eqb, eq-eqb}
use Rattle.std.proofs.Math.IntN.{neg_ℤ-neg_ℤ}
use Rattle.std.proofs.lemmas.List.Elements.{All-from_recursion, All-append}
use Rattle.std.proofs.lemmas.List.Folds.{list_all-append}
use Rattle.linear_formula.proofs.Limits.{both, both_in}
use Rattle.c_tree.specs.declared.tree.Op.{Op}
use Rattle.c_tree.specs.declared.tree.Op.TheVariants.{Add, Subtract, Multiply, Divide, Remainder, Less, LessEqual, Greater, GreaterEqual, Equal, Unequal, And, Or}
use Rattle.c_tree.specs.Meaning.{is_value}
use Rattle.c_tree.specs.Syntax.{Statements}
use Rattle.linear_formula.specs.LinearSum.{is_ascending}
use Rattle.linear_formula.specs.declared.formula.Atom.{Atom}
use Rattle.flow_graph.specs.Calls.{CallSite, call_edge}
use Rattle.flow_graph.specs.declared.graph.Lin.{Lin}
use Rattle.flow_graph.specs.declared.graph.Edge.{Edge}
use Rattle.flow_graph.specs.declared.graph.Edge.TheVariants.{Entry, Assign, Guard, Input, Pick, Call, Assert, Return}
use Rattle.flow_graph.specs.Shapes.{source, target, is_entry, is_assert, is_return, leads}
use Rattle.flow_graph.specs.WellFormed.{names_slots, is_lin, has_slots, has_lists, are_distinct, has_terms, max_slots, IsEdge}
use Rattle.flow_build.specs.declared.operand.Operand.{Operand}
use Rattle.flow_build.specs.declared.operand.Operand.TheVariants.{Variable, Constant}
use Rattle.flow_build.specs.declared.target.Target.{Target}
use Rattle.flow_build.specs.declared.target.Target.TheVariants.{Node, Fails, Nowhere}
use Rattle.flow_build.specs.steps.Operands.{is_operand, multiple_parts, constant_lin, operand_lin, row, less, at_most, rows_where, multiple_row, rows_above, rows_below}
use Rattle.flow_build.specs.steps.Blocks.{exit_node, fail_node, entry_node, way, ways}
use Rattle.flow_build.specs.Promises.{IsCoefficient, IsBoundedEdge, is_small_row, are_small_rows, is_pick_coefficient, is_pick_row, statements_call, statements_divisors}
use Rattle.flow_build.proofs.SmallRows.{row_small}
use Rattle.flow_build.proofs.Terms.{are_ascending, row_ascends, rows_terms}
use Rattle.flow_build.proofs.Occurring.{or_left, or_right}
use Rattle.flow_build.proofs.QuotientRows.{is_ordered_row, are_ordered_rows, ordered_terms, FitsRow, above_fits, below_fits}

abbrev pub has_ordered_rows : Edge → Bool
has_ordered_rows (Guard from to rows) = are_ascending rows.atoms
has_ordered_rows (Pick from to slot rows) = are_ordered_rows rows.atoms
has_ordered_rows (Assert from to id rows) = are_ascending rows.atoms
has_ordered_rows _ = true

-- an element that passes the test
any_there : (f : ℤ → Bool) (xs : List ℤ) (k : ℕ) (x : ℤ) → k < length xs → slice_index_or xs k x ≡ x → f x ≡ true → list_any f xs ≡ true
any_there f [] k x lt e h = absurd (omega arith)
any_there f (y ∷ ys) zero x lt e h = or_left (f y) (list_any f ys) (ap f e ∙ h)
any_there f (y ∷ ys) (suc k) x lt e h = or_right (f y) (list_any f ys) (any_there f ys k x (omega arith) e h)

-- In a program with the given number of globals, in a procedure of this body, whose graph has the given numbers of nodes and slots:
module _ (globals : ℕ) (body : Statements) (nodes slots : ℕ) where
  -- what each edge but the entry keeps
  pub record Fine (e : Edge) : Type 0 where
    pub leaves : (n : ℕ) → source e ≡ Some n → (n < nodes) × (2 ≤ n)
    pub below : target e < nodes
    pub named : IsTrue (has_slots slots e)
    pub lists : IsTrue (has_lists (1 + globals) e)
    pub to_exit : is_return e ≡ (target e == exit_node)
    pub to_fail : is_assert e ≡ (target e == fail_node)
    pub inner : is_entry e ≡ false
    pub apart : leads fail_node e entry_node ≡ false
    pub bounded : IsBoundedEdge globals body e
    pub ordered : IsTrue (has_ordered_rows e)

  -- small rows in order are terms
  edge_terms : slots ≤ max_slots → (e : Edge) → Fine e → IsTrue (has_terms e)
  edge_terms few (Entry to params) f = refl
  edge_terms few (Assign from to slot value) f = refl
  edge_terms few (Guard from to rows) f = rows_terms slots few rows.atoms f.named f.bounded f.ordered
  edge_terms few (Input from to slot) f = refl
  edge_terms few (Pick from to slot rows) f = ordered_terms slots few rows.atoms (both (nat_lt slot slots)
      (list_all (names_slots slots) rows.atoms) f.named).1 f.ordered
  edge_terms few (Call from to proc args results) f = refl
  edge_terms few (Assert from to id rows) f = rows_terms slots few rows.atoms f.named f.bounded f.ordered
  edge_terms few (Return from to returned) f = refl

  pub fine_edge : slots ≤ max_slots → (e : Edge) → Fine e → IsEdge nodes exit_node fail_node (1 + globals) slots e
  fine_edge few e f = record {
    leaves = λ n h. ((f.leaves n h).0, (λ q. two (f.leaves n h).1 q), (λ q. one (f.leaves n h).1 q));
    in_range = f.below;
    slots_named = f.named;
    lists = f.lists;
    terms = edge_terms few e f;
    to_exit = f.to_exit;
    to_fail = f.to_fail;
  }
    where
      two : {n : ℕ} → 2 ≤ n → n ≡ exit_node → ⊥
      two h q = omega arith

      one : {n : ℕ} → 2 ≤ n → n ≡ fail_node → ⊥
      one h q = omega arith

  -- a node that edges leave
  pub record IsSource (n : ℕ) : Type 0 where
    pub below : n < nodes
    pub above : 2 ≤ n

  -- a node that edges leave and lead to
  pub record IsInner (n : ℕ) : Type 0 where
    pub below : n < nodes
    pub above : 2 ≤ n
    pub apart : n ≡ entry_node → ⊥

  pub inner_source : (n : ℕ) → IsInner n → IsSource n
  inner_source n h = record { below = h.below; above = h.above }

  source_leaves : (m n : ℕ) → IsSource m → Some m ≡ Some n → (n < nodes) × (2 ≤ n)
  source_leaves m n h e =
      let q : m ≡ n = cc in
      let P : ℕ → Type 0 = λ k. (k < nodes) × (2 ≤ k) in
      subst P q (h.below, h.above)

  no_exit : (n : ℕ) → IsInner n → false ≡ (n == exit_node)
  no_exit n h = let a = h.above in sym (ne_eqb n 0 (λ q. omega arith))

  no_fail : (n : ℕ) → IsInner n → false ≡ (n == fail_node)
  no_fail n h = let a = h.above in sym (ne_eqb n 1 (λ q. omega arith))

  no_entry : (n : ℕ) → IsInner n → (n == entry_node || false) ≡ false
  no_entry n h = ap (λ b. b || false) (ne_eqb n 4 h.apart)

  abbrev Coefficients : List (ℤ × ℕ) → Type 0
  Coefficients ps = All (λ (part : ℤ × ℕ). IsCoefficient body part.0) ps

  -- a sum that an assignment may have
  pub record IsLin (value : Lin) : Type 0 where
    pub named : IsTrue (is_lin slots value)
    pub coefficients : Coefficients value.parts

  pub assign_fine : (n to slot : ℕ) (value : Lin) → IsSource n → IsInner to → slot < slots → IsLin value → Fine (Assign n to slot value)
  assign_fine n to slot value s t lt v = record {
    leaves = λ m e. source_leaves n m s e;
    below = t.below;
    named = both_in (nat_lt slot slots) (is_lin slots value) (lt-ltb slot slots lt) v.named;
    lists = refl;
    to_exit = no_exit to t;
    to_fail = no_fail to t;
    inner = refl;
    apart = no_entry to t;
    bounded = v.coefficients;
    ordered = refl;
  }

  -- rows that a guard may have
  pub record AreRows (rows : List Atom) : Type 0 where
    pub named : IsTrue (list_all (names_slots slots) rows)
    pub small : IsTrue (are_small_rows rows)
    pub ascending : IsTrue (are_ascending rows)

  pub no_rows : AreRows []
  no_rows = record { named = refl; small = refl; ascending = refl }

  pub guard_fine : (n to : ℕ) (rows : List Atom) → IsSource n → IsInner to → AreRows rows → Fine (Guard n to (record { atoms = rows }))
  guard_fine n to rows s t r = record {
    leaves = λ m e. source_leaves n m s e;
    below = t.below;
    named = r.named;
    lists = refl;
    to_exit = no_exit to t;
    to_fail = no_fail to t;
    inner = refl;
    apart = no_entry to t;
    bounded = r.small;
    ordered = r.ascending;
  }

  pub input_fine : (n to slot : ℕ) → IsSource n → IsInner to → slot < slots → Fine (Input n to slot)
  input_fine n to slot s t lt = record {
    leaves = λ m e. source_leaves n m s e;
    below = t.below;
    named = lt-ltb slot slots lt;
    lists = refl;
    to_exit = no_exit to t;
    to_fail = no_fail to t;
    inner = refl;
    apart = no_entry to t;
    bounded = tt;
    ordered = refl;
  }

  pub call_fine : (n to arguments : ℕ) (site : CallSite) → IsSource n → IsInner to →
      IsTrue (list_all (λ x. nat_lt x slots) site.results) → IsTrue (list_all (λ x. nat_lt x slots) site.arguments) → length site.arguments
      ≡ arguments + globals →
      length site.results ≡ 1 + globals → IsTrue (are_distinct site.results) → IsTrue (statements_call site.procedure arguments body) →
      Fine (call_edge n to site)
  call_fine n to arguments site s t come named many as_many distinct calls = record {
    leaves = λ m e. source_leaves n m s e;
    below = t.below;
    named = both_in (list_all (λ x. nat_lt x slots) site.results) (list_all (λ x. nat_lt x slots) site.arguments) come named;
    lists = distinct;
    to_exit = no_exit to t;
    to_fail = no_fail to t;
    inner = refl;
    apart = no_entry to t;
    bounded = (arguments, many, as_many, calls);
    ordered = refl;
  }

  pub assert_fine : (n id : ℕ) (rows : List Atom) → IsSource n → 1 < nodes → AreRows rows →
      Fine (Assert n fail_node id (record { atoms = rows }))
  assert_fine n id rows s lt r = record {
    leaves = λ m e. source_leaves n m s e;
    below = lt;
    named = r.named;
    lists = refl;
    to_exit = refl;
    to_fail = refl;
    inner = refl;
    apart = refl;
    bounded = r.small;
    ordered = r.ascending;
  }

  pub return_fine : (n : ℕ) (returned : List ℕ) → IsSource n → 0 < nodes → IsTrue (list_all (λ x. nat_lt x slots) returned) →
      length returned ≡ 1 + globals → Fine (Return n exit_node returned)
  return_fine n returned s some named many = record {
    leaves = λ m e. source_leaves n m s e;
    below = some;
    named = named;
    lists = eq-eqb (length returned) (1 + globals) many;
    to_exit = refl;
    to_fail = refl;
    inner = refl;
    apart = refl;
    bounded = tt;
    ordered = refl;
  }

  -- Operands

  -- a slot that is there, or a value
  pub record IsOperand (a : Operand) : Type 0 where
    pub fits : IsTrue (is_operand a)
    pub slot : (x : ℕ) → a ≡ Variable x → x < slots

  pub variable_is : (x : ℕ) → x < slots → IsOperand (Variable x)
  variable_is x lt = record { fits = refl; slot = λ y e. at y e }
    where
      at : (y : ℕ) → Variable x ≡ Variable y → y < slots
      at y e = let q : x ≡ y = cc in omega arith

  pub constant_is : (n : ℤ) → IsTrue (is_value n) → IsOperand (Constant n)
  constant_is n h = record { fits = h; slot = λ y e. absurd cc }

  one_part : (c : ℤ) (x : ℕ) → IsCoefficient body c → Coefficients ((c, x) ∷ [])
  one_part c x k = All-from_recursion (λ (part : ℤ × ℕ). IsCoefficient body part.0) ((c, x) ∷ []) (k, tt)

  no_part : Coefficients []
  no_part = All-from_recursion (λ (part : ℤ × ℕ). IsCoefficient body part.0) [] tt

  parts_allowed : (c : ℤ) (a : Operand) → IsCoefficient body c → Coefficients (multiple_parts c a)
  parts_allowed c (Variable x) k = one_part c x k
  parts_allowed c (Constant n) k = no_part

  parts_named : (c : ℤ) (a : Operand) → IsOperand a → IsTrue (list_all (λ p. nat_lt p.1 slots) (multiple_parts c a))
  parts_named c (Variable x) h = both_in (nat_lt x slots) true (lt-ltb x slots (h.slot x refl)) refl
  parts_named c (Constant n) h = refl

  few_parts : (c : ℤ) (a : Operand) → length (multiple_parts c a) ≤ 1
  few_parts c (Variable x) = omega arith
  few_parts c (Constant n) = omega arith

  pub constant_lin_is : (n : ℤ) → IsLin (constant_lin n)
  constant_lin_is n = record { named = refl; coefficients = no_part }

  pub multiple_is : (c k : ℤ) (a : Operand) → IsCoefficient body c → IsOperand a →
      IsLin (record { parts = multiple_parts c a; constant = k })
  multiple_is c k a i h =
      let ps = multiple_parts c a in
      let few = few_parts c a in
      record {
        named = both_in (nat_le (length ps) 2) (list_all (λ p. nat_lt p.1 slots) ps) (le-leb (length ps) 2 (omega arith))
            (parts_named c a h);
        coefficients = parts_allowed c a i;
      }

  pub pair_is : (c d k : ℤ) (a b : Operand) → IsCoefficient body c → IsCoefficient body d → IsOperand a → IsOperand b →
      IsLin (record { parts = multiple_parts c a ++ multiple_parts d b; constant = k })
  pair_is c d k a b i j h g =
      let ps = multiple_parts c a in
      let qs = multiple_parts d b in
      let all = list_all-append (λ (p : ℤ × ℕ). nat_lt p.1 slots) ps qs in
      record {
        named = both_in (nat_le (length (ps ++ qs)) 2) (list_all (λ p. nat_lt p.1 slots) (ps ++ qs))
            (le-leb (length (ps ++ qs)) 2 (two a b))
            (all ∙ both_in (list_all (λ p. nat_lt p.1 slots) ps) (list_all (λ p. nat_lt p.1 slots) qs) (parts_named c a h)
            (parts_named d b g));
        coefficients = All-append (λ (part : ℤ × ℕ). IsCoefficient body part.0) ps qs (parts_allowed c a i) (parts_allowed d b j);
      }
    where
      two : (a b : Operand) → length (multiple_parts c a ++ multiple_parts d b) ≤ 2
      two (Variable x) (Variable y) = omega arith
      two (Variable x) (Constant n) = omega arith
      two (Constant n) (Variable y) = omega arith
      two (Constant n) (Constant m) = omega arith

  pub plus_one : IsCoefficient body (pos 1)
  plus_one = inl refl

  pub minus_one : IsCoefficient body (negsuc 0)
  minus_one = inr (inl refl)

  pub operand_lin_is : (a : Operand) → IsOperand a → IsLin (operand_lin a)
  operand_lin_is (Variable x) h = multiple_is (pos 1) (pos 0) (Variable x) plus_one h
  operand_lin_is (Constant n) h = multiple_is (pos 1) n (Constant n) plus_one h

  -- Rows of operands

  abbrev Named : List (ℕ × ℤ) → Type 0
  Named ps = IsTrue (list_all (λ p. nat_lt p.0 slots) ps)

  chosen : (b c : Bool) (ps qs rs : List (ℕ × ℤ)) → Named ps → Named qs → Named rs → Named (if b then ps else (if c then qs else rs))
  chosen true c ps qs rs h k l = h
  chosen false true ps qs rs h k l = k
  chosen false false ps qs rs h k l = l

  two_named : (x y : ℕ) (c d : ℤ) → x < slots → y < slots → Named ((x, c) ∷ (y, d) ∷ [])
  two_named x y c d h k = both_in (nat_lt x slots) (nat_lt y slots && true) (lt-ltb x slots h)
      (both_in (nat_lt y slots) true (lt-ltb y slots k) refl)

  row_named : (a b : Operand) (k : ℤ) → IsOperand a → IsOperand b → IsTrue (names_slots slots (row a b k))
  row_named (Variable x) (Variable y) k h g =
      let a = h.slot x refl in
      let b = g.slot y refl in
      chosen (nat_lt x y) (x == y) ((x, pos 1) ∷ (y, negsuc 0) ∷ []) [] ((y, negsuc 0) ∷ (x, pos 1) ∷ [])
      (two_named x y (pos 1) (negsuc 0) a b)
      refl (two_named y x (negsuc 0) (pos 1) b a)
  row_named (Variable x) (Constant m) k h g = both_in (nat_lt x slots) true (lt-ltb x slots (h.slot x refl)) refl
  row_named (Constant n) (Variable y) k h g = both_in (nat_lt y slots) true (lt-ltb y slots (g.slot y refl)) refl
  row_named (Constant n) (Constant m) k h g = refl

  pub record IsRow (r : Atom) : Type 0 where
    pub named : IsTrue (names_slots slots r)
    pub small : IsTrue (is_small_row r)
    pub ascending : IsTrue (is_ascending r.term.parts)

  row_is : (a b : Operand) (k : ℤ) → (k ≡ pos 0) ⊎ (k ≡ pos 1) → IsOperand a → IsOperand b → IsRow (row a b k)
  row_is a b k one h g = record { named = row_named a b k h g; small = row_small a b k h.fits g.fits one; ascending = row_ascends a b k }

  one_row : (r : Atom) → IsRow r → AreRows (r ∷ [])
  one_row r h = record {
    named = both_in (names_slots slots r) true h.named refl;
    small = both_in (is_small_row r) true h.small refl;
    ascending = both_in (is_ascending r.term.parts) true h.ascending refl;
  }

  two_rows : (r s : Atom) → IsRow r → IsRow s → AreRows (r ∷ s ∷ [])
  two_rows r s h k = record {
    named = both_in (names_slots slots r) (names_slots slots s && true) h.named (both_in (names_slots slots s) true k.named refl);
    small = both_in (is_small_row r) (is_small_row s && true) h.small (both_in (is_small_row s) true k.small refl);
    ascending = both_in (is_ascending r.term.parts) (is_ascending s.term.parts && true) h.ascending
        (both_in (is_ascending s.term.parts) true k.ascending refl);
  }

  -- each of the lists has such rows
  abbrev pub AllRows : List (List Atom) → Type 0
  AllRows [] = Unit {0}
  AllRows (rows ∷ lists) = AreRows rows × AllRows lists

  less_is : (a b : Operand) → IsOperand a → IsOperand b → IsRow (less a b)
  less_is a b h g = row_is a b (pos 1) (inr refl) h g

  at_most_is : (a b : Operand) → IsOperand a → IsOperand b → IsRow (at_most a b)
  at_most_is a b h g = row_is a b (pos 0) (inl refl) h g

  pub rows_are : (op : Op) (a b : Operand) → IsOperand a → IsOperand b → AllRows (rows_where op a b)
  rows_are Add a b h g = tt
  rows_are Subtract a b h g = tt
  rows_are Multiply a b h g = tt
  rows_are Divide a b h g = tt
  rows_are Remainder a b h g = tt
  rows_are Less a b h g = (one_row (less a b) (less_is a b h g), tt)
  rows_are LessEqual a b h g = (one_row (at_most a b) (at_most_is a b h g), tt)
  rows_are Greater a b h g = (one_row (less b a) (less_is b a g h), tt)
  rows_are GreaterEqual a b h g = (one_row (at_most b a) (at_most_is b a g h), tt)
  rows_are Equal a b h g = (two_rows (at_most a b) (at_most b a) (at_most_is a b h g) (at_most_is b a g h), tt)
  rows_are Unequal a b h g = (one_row (less b a) (less_is b a g h), (one_row (less a b) (less_is a b h g), tt))
  rows_are And a b h g = tt
  rows_are Or a b h g = tt

  -- Lists of edges

  abbrev pub AllFine : List Edge → Type 0
  AllFine [] = Unit {0}
  AllFine (e ∷ es) = Fine e × AllFine es

  pub fine_both : (xs ys : List Edge) → AllFine xs → AllFine ys → AllFine (xs ++ ys)
  fine_both [] ys h k = k
  fine_both (x ∷ xs) ys h k = (h.0, fine_both xs ys h.1 k)

  pub fine_at : (es : List Edge) (i : ℕ) (e : Edge) → AllFine es → slice_get es i ≡ Some e → Fine e
  fine_at [] i e h s = absurd cc
  fine_at (x ∷ es) zero e h s = let q : x ≡ e = cc in subst Fine q h.0
  fine_at (x ∷ es) (suc i) e h s = fine_at es i e h.1 s

  abbrev pub IsTarget : Target → Type 0
  IsTarget (Node to) = IsInner to
  IsTarget (Fails id) = Unit {0}
  IsTarget Nowhere = Unit {0}

  way_fine : (n : ℕ) (target : Target) (rows : List Atom) → 1 < nodes → IsSource n → IsTarget target → AreRows rows →
      AllFine (way n target rows)
  way_fine n (Node to) rows lt s t r = (guard_fine n to rows s t r, tt)
  way_fine n (Fails id) rows lt s t r = (assert_fine n id rows s lt r, tt)
  way_fine n Nowhere rows lt s t r = tt

  pub ways_fine : (n : ℕ) (target : Target) (lists : List (List Atom)) → 1 < nodes → IsSource n → IsTarget target → AllRows lists →
      AllFine (ways n target lists)
  ways_fine n target [] lt s t r = tt
  ways_fine n target (rows ∷ lists) lt s t r = fine_both (way n target rows) (ways n target lists) (way_fine n target rows lt s t r.0)
      (ways_fine n target lists lt s t r.1)

  -- Divisors

  -- 1, or a divisor of the body, within the limits of a coefficient
  pub record IsDivisorHere (c : ℤ) : Type 0 where
    pub there : (c ≡ pos 1) ⊎ Contains (statements_divisors body) c
    pub some : 1 ≤ unsigned_abs c
    pub few : unsigned_abs c ≤ 2 ^ 40

  pub one_divides : IsDivisorHere (pos 1)
  one_divides = record { there = inl refl; some = omega arith; few = omega arith }

  -- a quotient times the divisor may be taken away
  pub taken_away : (c : ℤ) → IsDivisorHere c → IsCoefficient body (neg_ℤ c)
  taken_away c h = on h.there
    where
      on : (c ≡ pos 1) ⊎ Contains (statements_divisors body) c → IsCoefficient body (neg_ℤ c)
      on (inl e) = inr (inl (ap neg_ℤ e))
      on (inr k) = inr (inr (inr (inr (subst (Contains (statements_divisors body)) (sym (neg_ℤ-neg_ℤ c)) k))))

  -- a coefficient of the magnitude of a divisor
  pub pick_coefficient : (c d : ℤ) → IsDivisorHere c → unsigned_abs d ≡ unsigned_abs c → is_pick_coefficient body d ≡ true
  pick_coefficient c d h same = on h.there
    where
      on : (c ≡ pos 1) ⊎ Contains (statements_divisors body) c → is_pick_coefficient body d ≡ true
      on (inl e) = or_left (unsigned_abs d == 1) (list_any (λ x. unsigned_abs x == unsigned_abs d) (statements_divisors body))
          (eq-eqb (unsigned_abs d) 1 (same ∙ ap unsigned_abs e))
      on (inr k) = or_right (unsigned_abs d == 1) (list_any (λ x. unsigned_abs x == unsigned_abs d) (statements_divisors body))
          (any_there (λ x. unsigned_abs x == unsigned_abs d) (statements_divisors body) k.0 c k.1 k.2
          (eq-eqb (unsigned_abs c) (unsigned_abs d) (sym same)))

  pick_row : (r : Atom) → FitsRow slots (is_pick_coefficient body) r → IsTrue (is_pick_row body r)
  pick_row r h =
      let t = r.term in
      both_in (nat_le (length t.parts) 2 && list_all (λ p. is_pick_coefficient body p.1) t.parts)
      (nat_le (unsigned_abs t.constant) (2 ^ 64))
      (both_in (nat_le (length t.parts) 2) (list_all (λ p. is_pick_coefficient body p.1) t.parts) h.few h.allowed) h.small

  pub pick_fine : (n to slot : ℕ) (r s : Atom) → IsSource n → IsInner to → slot < slots → FitsRow slots (is_pick_coefficient body) r →
      FitsRow slots (is_pick_coefficient body) s → Fine (Pick n to slot (record { atoms = r ∷ s ∷ [] }))
  pick_fine n to slot r s from t lt h k = record {
    leaves = λ m e. source_leaves n m from e;
    below = t.below;
    named = both_in (nat_lt slot slots) (names_slots slots r && (names_slots slots s && true)) (lt-ltb slot slots lt)
        (both_in (names_slots slots r) (names_slots slots s && true) h.named (both_in (names_slots slots s) true k.named refl));
    lists = refl;
    to_exit = no_exit to t;
    to_fail = no_fail to t;
    inner = refl;
    apart = no_entry to t;
    bounded = both_in (is_pick_row body r) (is_pick_row body s && true) (pick_row r h) (both_in (is_pick_row body s) true (pick_row s k)
        refl);
    ordered = both_in (is_ordered_row r) (is_ordered_row s && true) h.ordered (both_in (is_ordered_row s) true k.ordered refl);
  }

  -- the two rows of a quotient from 0 on, and below 0
  module _ (b a t : ℕ) (h : IsDivisorHere (pos (suc b)) ⊎ IsDivisorHere (negsuc b)) (apart : a ≡ t → ⊥) (la : a < slots)
      (lt : t < slots) where
    magnitude : (d : ℤ) → unsigned_abs d ≡ suc b → is_pick_coefficient body d ≡ true
    magnitude d e = on h
      where
        on : IsDivisorHere (pos (suc b)) ⊎ IsDivisorHere (negsuc b) → is_pick_coefficient body d ≡ true
        on (inl i) = pick_coefficient (pos (suc b)) d i e
        on (inr i) = pick_coefficient (negsuc b) d i e

    few_times : suc b ≤ 2 ^ 40
    few_times = on h
      where
        on : IsDivisorHere (pos (suc b)) ⊎ IsDivisorHere (negsuc b) → suc b ≤ 2 ^ 40
        on (inl i) = i.few
        on (inr i) = i.few

    pub above_fine : (n to : ℕ) → IsSource n → IsInner to → Fine (Pick n to t (record { atoms = rows_above (suc b) a t }))
    above_fine n to s i =
        let r = above_fits slots (is_pick_coefficient body) b a t few_times apart la lt refl refl (magnitude (pos (suc b)) refl)
        (magnitude (negsuc b) refl) in
        pick_fine n to t (multiple_row (pos (suc b)) (negsuc 0) t a (pos 0)) (multiple_row (pos 1) (negsuc b) a t (pos 1 -ℤ pos (suc b))) s
        i
        lt r.0 r.1

    pub below_fine : (n to : ℕ) → IsSource n → IsInner to → Fine (Pick n to t (record { atoms = rows_below (suc b) a t }))
    below_fine n to s i =
        let r = below_fits slots (is_pick_coefficient body) b a t few_times apart la lt refl refl (magnitude (pos (suc b)) refl)
        (magnitude (negsuc b) refl) in
        pick_fine n to t (multiple_row (pos 1) (negsuc b) a t (pos 0)) (multiple_row (pos (suc b)) (negsuc 0) t a (pos 1 -ℤ pos (suc b))) s
        i
        lt r.0 r.1
