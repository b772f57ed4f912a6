-- An expression and its form have the same value.
use Rattle.std.proofs.Common.{◌≡◌, ℕ, ◌+◌, ◌<◌, ◌≤◌, nat_lt, ◌∷◌, Bool, true, false, not, ◌||◌, Option, None, Some, ℤ, pos, negsuc, ◌+ℤ◌, ◌-ℤ◌, ◌*ℤ◌, neg_ℤ, IsTrue, refl, sym, ap, ◌∙◌, subst, arith}
use Rattle.std.specs.Prelude.{if◌then◌else◌}
use Rattle.std.proofs.lemmas.Int.{ints}
use Rattle.std.proofs.Math.IntN.{*ℤ_comm}
use Rattle.c_tree.specs.Meaning.{State, goes, Relation, Gives, Then, Choice, ExactOrStopped, RightSide, decided, Applied, Callee, is_value, is_zero, bit, Eval, Evals}
use Rattle.c_tree.specs.Syntax.{Expression, literal, read, read_global, input, call, negate, not as not_of, binary, Expressions, no_expressions, expression, Statement, block, set, set_global, ignore, assume, assert, if_else, loop, do_while, break, continue, return, Statements, no_statements, statement, PureProgram}
use Rattle.c_tree.specs.WellFormed.{is_constant, count}
use Rattle.c_tree.specs.Operators.{is_comparison}
use Rattle.flow_build.specs.declared.layout.Layout.{Layout}
use Rattle.flow_build.specs.steps.Layouts.{variable_slot, global_slot, global_slots}
use Rattle.c_tree.specs.declared.tree.Op.{Op}
use Rattle.c_tree.specs.declared.tree.Op.TheVariants.{Add, Subtract, Multiply, Divide, Remainder, Less, LessEqual, Greater, GreaterEqual, Equal, Unequal, And, Or}
use Rattle.flow_build.specs.steps.Forms.{Value, Test, opposite, both, either}
use Rattle.flow_build.specs.steps.Forms as form
use Rattle.c_tree.specs.Constants.{constant_value}
use Rattle.flow_build.specs.steps.Translation.{divisor_of, has_call, have_call, kept, kept_if, in_slot, overflows_by, scaled, overflows, added, subtracted, multiplied, compared, nonzero, value_by, test_by, value_of, values_of, test_of}
use Rattle.flow_build.specs.steps.Lowering.{result_of}
use Rattle.c_tree.proofs.Constants.{known_same, unknown_never}
pub use Rattle.c_tree.proofs.Sameness.{Same}
use Rattle.c_tree.proofs.Sameness.{itself, swapped, through, then_same, first_same, next_same, then_then, gives_then, then_gives, gives_same, exact_same, other_choice, never_same}
use Rattle.flow_build.proofs.FormCalls.{kept_if_calls, value_calls, values_call}
use Rattle.flow_build.proofs.FormMeaning.{comparison, Reads, Yields, YieldsAll, Decides, makes_call, make_call, count_values, IsCallable, IsDivisor, IsSettled, FitsValue, FitsValues, FitsTest, IsInSlot}
use Rattle.flow_build.proofs.Seen.{seen_variable, seen_global}

-- a side of a product is constant
abbrev pub HasConstantSide : Op → Expression → Expression → Type 0
HasConstantSide Multiply a b = IsTrue (is_constant a || is_constant b)
HasConstantSide _ a b = Unit {0}

-- the right side of a division is a constant other than 0
abbrev pub HasDivisor : Op → Expression → Type 0
HasDivisor Divide b = (c : ℤ) × (constant_value b ≡ Some c) × IsDivisor c
HasDivisor Remainder b = (c : ℤ) × (constant_value b ≡ Some c) × IsDivisor c
HasDivisor _ b = Unit {0}

-- Its literals are values, its names exist, its calls fit, its products have constant sides, and its
-- divisors are constants.
module _ (P : PureProgram) (L : Layout) (slots : ℕ) where
  abbrev mutual
    pub IsPlain : Expression → Type 0
    IsPlain (literal n) = IsTrue (is_value n)
    IsPlain (read x) = x < slots
    IsPlain (read_global y) = y < L.globals
    IsPlain input = Unit {0}
    IsPlain (call p es) = ArePlain es × IsCallable P p (count es)
    IsPlain (negate e) = IsPlain e
    IsPlain (not_of e) = IsPlain e
    IsPlain (binary op a b) = HasConstantSide op a b × HasDivisor op b × IsPlain a × IsPlain b

    pub ArePlain : Expressions → Type 0
    ArePlain no_expressions = Unit {0}
    ArePlain (expression e es) = IsPlain e × ArePlain es

  abbrev pub IsPlainResult : Option Expression → Type 0
  IsPlainResult None = Unit {0}
  IsPlainResult (Some e) = IsPlain e

  abbrev mutual
    pub RunsPlain : Statement → Type 0
    RunsPlain (block ss) = AllPlain ss
    RunsPlain (set x e) = (x < slots) × IsPlain e
    RunsPlain (set_global y e) = (y < L.globals) × IsPlain e
    RunsPlain (ignore e) = IsPlain e
    RunsPlain (assume e) = IsPlain e
    RunsPlain (assert id e) = IsPlain e
    RunsPlain (if_else e a b) = IsPlain e × RunsPlain a × RunsPlain b
    RunsPlain (loop e step body) = IsPlain e × RunsPlain step × RunsPlain body
    RunsPlain (do_while body e) = RunsPlain body × IsPlain e
    RunsPlain break = Unit {0}
    RunsPlain continue = Unit {0}
    RunsPlain (return o) = IsPlainResult o

    pub AllPlain : Statements → Type 0
    AllPlain no_statements = Unit {0}
    AllPlain (statement s ss) = RunsPlain s × AllPlain ss

  -- Forms fit

  abbrev pub vars : ℕ
  vars = slots + L.globals

  abbrev Fits : Value → Type 0
  Fits v = FitsValue P L vars v

  abbrev FitsT : Test → Type 0
  FitsT c = FitsTest P L vars c

  kept_fits : (v : Value) → Fits v → Fits (kept v)
  kept_fits (form.literal k n) h = h
  kept_fits (form.read k x) h = h
  kept_fits form.input h = h
  kept_fits (form.call p vs gs) h = h
  kept_fits (form.scale c v) h = h
  kept_fits (form.sum v u) h = h
  kept_fits (form.difference v u) h = h
  kept_fits (form.quotient c v) h = h
  kept_fits (form.remainder c v) h = h
  kept_fits (form.truth c) h = h

  kept_if_fits : (b : Bool) (v : Value) → Fits v → Fits (kept_if b v)
  kept_if_fits true v h = kept_fits v h
  kept_if_fits false v h = h

  in_slot_fits : (v : Value) → Fits v → Fits (in_slot v)
  in_slot_fits (form.literal k n) h = h
  in_slot_fits (form.read k x) h = h
  in_slot_fits form.input h = h
  in_slot_fits (form.call p vs gs) h = h
  in_slot_fits (form.scale c v) h = h
  in_slot_fits (form.sum v u) h = h
  in_slot_fits (form.difference v u) h = h
  in_slot_fits (form.quotient c v) h = h
  in_slot_fits (form.remainder c v) h = h
  in_slot_fits (form.truth c) h = h

  pub in_slot_is : (v : Value) → IsInSlot (in_slot v)
  in_slot_is (form.literal k n) = tt
  in_slot_is (form.read k x) = tt
  in_slot_is form.input = tt
  in_slot_is (form.call p vs gs) = tt
  in_slot_is (form.scale c v) = tt
  in_slot_is (form.sum v u) = tt
  in_slot_is (form.difference v u) = tt
  in_slot_is (form.quotient c v) = tt
  in_slot_is (form.remainder c v) = tt
  in_slot_is (form.truth c) = tt

  -- Calls in forms

  -- what is kept where a call follows is settled
  kept_settled : (v : Value) (c : Bool) → IsSettled (kept v) c
  kept_settled (form.literal k n) c = tt
  kept_settled (form.read k x) c = tt
  kept_settled form.input c = tt
  kept_settled (form.call p vs gs) c = tt
  kept_settled (form.scale i v) c = tt
  kept_settled (form.sum v u) c = tt
  kept_settled (form.difference v u) c = tt
  kept_settled (form.quotient i v) c = tt
  kept_settled (form.remainder i v) c = tt
  kept_settled (form.truth i) c = tt

  still_settled : (v : Value) (c : Bool) → c ≡ false → IsSettled v c
  still_settled (form.literal k n) c h = tt
  still_settled (form.read false x) c h = h
  still_settled (form.read true x) c h = tt
  still_settled form.input c h = tt
  still_settled (form.call p vs gs) c h = tt
  still_settled (form.scale i v) c h = tt
  still_settled (form.sum v u) c h = tt
  still_settled (form.difference v u) c h = tt
  still_settled (form.quotient i v) c h = tt
  still_settled (form.remainder i v) c h = tt
  still_settled (form.truth i) c h = tt

  -- kept where it is said, and where a call may follow
  settled : (l k : Bool) (v : Value) (c : Bool) → (l ≡ false → c ≡ false) → IsSettled (kept_if (l || k) v) c
  settled true k v c h = kept_settled v c
  settled false true v c h = kept_settled v c
  settled false false v c h = still_settled v c (h refl)

  only_settled : (l : Bool) (v : Value) (c : Bool) → (l ≡ false → c ≡ false) → IsSettled (kept_if l v) c
  only_settled true v c h = kept_settled v c
  only_settled false v c h = still_settled v c (h refl)

  in_slot_settled : (v : Value) (c : Bool) → IsSettled v c → IsSettled (in_slot v) c
  in_slot_settled (form.literal k n) c h = tt
  in_slot_settled (form.read k x) c h = h
  in_slot_settled form.input c h = tt
  in_slot_settled (form.call p vs gs) c h = tt
  in_slot_settled (form.scale i v) c h = tt
  in_slot_settled (form.sum v u) c h = tt
  in_slot_settled (form.difference v u) c h = tt
  in_slot_settled (form.quotient i v) c h = tt
  in_slot_settled (form.remainder i v) c h = tt
  in_slot_settled (form.truth i) c h = tt

  scaled_fits : (c : ℤ) (v : Value) → Fits v → Fits (scaled c v)
  scaled_fits c v h = kept_if_fits (overflows_by c v) v h

  added_fits : (l : Bool) (v u : Value) → (l ≡ false → makes_call u ≡ false) → Fits v → Fits u → Fits (added l v u)
  added_fits l v u n h k = (
    kept_if_fits (l || overflows (λ x y. x +ℤ y) v u) v h,
    k,
    settled l (overflows (λ x y. x +ℤ y) v u) v (makes_call u) n,
  )

  subtracted_fits : (l : Bool) (v u : Value) → (l ≡ false → makes_call u ≡ false) → Fits v → Fits u → Fits (subtracted l v u)
  subtracted_fits l v u n h k = (
    kept_if_fits (l || overflows (λ x y. x -ℤ y) v u) v h,
    kept_if_fits (overflows_by (negsuc 0) u) u k,
    settled l (overflows (λ x y. x -ℤ y) v u) v (makes_call (kept_if (overflows_by (negsuc 0) u) u))
        (λ q. kept_if_calls (overflows_by (negsuc 0) u) u ∙ n q),
  )

  multiplied_fits : (a b : Option ℤ) (l : Bool) (v u : Value) → (l ≡ false → makes_call u ≡ false) → Fits v → Fits u →
      Fits (multiplied a b l v u)
  multiplied_fits (Some c) b l v u n h k = scaled_fits c u k
  multiplied_fits None (Some c) l v u n h k = scaled_fits c v h
  multiplied_fits None None l v u n h k = added_fits l v u n h k

  compared_fits : (op : Op) (l : Bool) (v u : Value) → IsTrue (is_comparison op) → (l ≡ false → makes_call u ≡ false) → Fits v → Fits u →
      FitsT (compared op l v u)
  compared_fits op l v u is n h k = (is, kept_if_fits l v h, k, only_settled l v (makes_call u) n)

  -- what an operator asks of its right side
  abbrev DividesBy : Op → Option ℤ → Type 0
  DividesBy Divide b = IsDivisor (divisor_of b)
  DividesBy Remainder b = IsDivisor (divisor_of b)
  DividesBy _ b = Unit {0}

  divides_by : (op : Op) (b : Expression) → HasDivisor op b → DividesBy op (constant_value b)
  divides_by Divide b h = subst (λ o. IsDivisor (divisor_of o)) (sym h.1) h.2
  divides_by Remainder b h = subst (λ o. IsDivisor (divisor_of o)) (sym h.1) h.2
  divides_by Add b h = tt
  divides_by Subtract b h = tt
  divides_by Multiply b h = tt
  divides_by Less b h = tt
  divides_by LessEqual b h = tt
  divides_by Greater b h = tt
  divides_by GreaterEqual b h = tt
  divides_by Equal b h = tt
  divides_by Unequal b h = tt
  divides_by And b h = tt
  divides_by Or b h = tt

  value_by_fits : (op : Op) (a b : Option ℤ) (l : Bool) (v u : Value) (c d : Test) → DividesBy op b → (l ≡ false → makes_call u ≡ false) →
      Fits v → Fits u → FitsT c → FitsT d → Fits (value_by op a b l v u c d)
  value_by_fits Add a b l v u c d z n h k i j = added_fits l v u n h k
  value_by_fits Subtract a b l v u c d z n h k i j = subtracted_fits l v u n h k
  value_by_fits Multiply a b l v u c d z n h k i j = multiplied_fits a b l v u n h k
  value_by_fits Divide a b l v u c d z n h k i j = (in_slot_is v, in_slot_fits v h, z)
  value_by_fits Remainder a b l v u c d z n h k i j = (in_slot_is v, in_slot_fits v h, z)
  value_by_fits Less a b l v u c d z n h k i j = compared_fits Less l v u refl n h k
  value_by_fits LessEqual a b l v u c d z n h k i j = compared_fits LessEqual l v u refl n h k
  value_by_fits Greater a b l v u c d z n h k i j = compared_fits Greater l v u refl n h k
  value_by_fits GreaterEqual a b l v u c d z n h k i j = compared_fits GreaterEqual l v u refl n h k
  value_by_fits Equal a b l v u c d z n h k i j = compared_fits Equal l v u refl n h k
  value_by_fits Unequal a b l v u c d z n h k i j = compared_fits Unequal l v u refl n h k
  value_by_fits And a b l v u c d z n h k i j = (i, j)
  value_by_fits Or a b l v u c d z n h k i j = (i, j)

  nonzero_fits : (v : Value) → Fits v → FitsT (nonzero v)
  nonzero_fits v h = (refl, h, refl, still_settled v false refl)

  test_by_fits : (op : Op) (a b : Option ℤ) (l : Bool) (v u : Value) (c d : Test) → DividesBy op b → (l ≡ false → makes_call u ≡ false) →
      Fits v → Fits u → FitsT c → FitsT d → FitsT (test_by op a b l v u c d)
  test_by_fits Add a b l v u c d z n h k i j = nonzero_fits (added l v u) (added_fits l v u n h k)
  test_by_fits Subtract a b l v u c d z n h k i j = nonzero_fits (subtracted l v u) (subtracted_fits l v u n h k)
  test_by_fits Multiply a b l v u c d z n h k i j = nonzero_fits (multiplied a b l v u) (multiplied_fits a b l v u n h k)
  test_by_fits Divide a b l v u c d z n h k i j = nonzero_fits (form.quotient (divisor_of b) (in_slot v)) (
    in_slot_is v,
    in_slot_fits v h,
    z,
  )
  test_by_fits Remainder a b l v u c d z n h k i j = nonzero_fits (form.remainder (divisor_of b) (in_slot v))
      (in_slot_is v, in_slot_fits v h, z)
  test_by_fits Less a b l v u c d z n h k i j = compared_fits Less l v u refl n h k
  test_by_fits LessEqual a b l v u c d z n h k i j = compared_fits LessEqual l v u refl n h k
  test_by_fits Greater a b l v u c d z n h k i j = compared_fits Greater l v u refl n h k
  test_by_fits GreaterEqual a b l v u c d z n h k i j = compared_fits GreaterEqual l v u refl n h k
  test_by_fits Equal a b l v u c d z n h k i j = compared_fits Equal l v u refl n h k
  test_by_fits Unequal a b l v u c d z n h k i j = compared_fits Unequal l v u refl n h k
  test_by_fits And a b l v u c d z n h k i j = (i, j)
  test_by_fits Or a b l v u c d z n h k i j = (i, j)

  -- a variable's slot is one of those of variables and globals
  pub variable_low : (x : ℕ) → x < slots → variable_slot L x < vars
  variable_low x h = on (nat_lt x L.params)
    where
      on : (b : Bool) → (if b then x else (x + L.globals)) < slots + L.globals
      on true = omega (arith, h)
      on false = omega (arith, h)

  count_same : (es : Expressions) → count es ≡ count_values (values_of L es)
  count_same no_expressions = refl
  count_same (expression e es) = let q = count_same es in omega (arith, q)

  module _ (low : L.params ≤ slots) where
    mutual
      pub value_fits : (e : Expression) → IsPlain e → Fits (value_of L e)
      value_fits (literal n) h = h
      value_fits (read x) h = variable_low x h
      value_fits (read_global y) h = omega (arith, h, low)
      value_fits input h = tt
      value_fits (call p es) h = (values_fit es h.0, subst (IsCallable P p) (count_same es) h.1, refl)
      value_fits (negate e) h = scaled_fits (negsuc 0) (value_of L e) (value_fits e h)
      value_fits (not_of e) h = test_fits e h
      value_fits (binary op a b) h =
          value_by_fits op (constant_value a) (constant_value b) (has_call b) (value_of L a) (value_of L b) (test_of L a) (test_of L b)
          (divides_by op b h.1) (value_calls L b) (value_fits a h.2) (value_fits b h.3) (test_fits a h.2) (test_fits b h.3)

      pub values_fit : (es : Expressions) → ArePlain es → FitsValues P L vars (values_of L es)
      values_fit no_expressions h = tt
      values_fit (expression e es) h =
          let v = kept_if (have_call es) (value_of L e) in (
            in_slot_is v,
            in_slot_fits v (kept_if_fits (have_call es) (value_of L e) (value_fits e h.0)),
            values_fit es h.1,
            in_slot_settled v (make_call (values_of L es))
                (only_settled (have_call es) (value_of L e) (make_call (values_of L es)) (values_call L es)),
          )

      pub test_fits : (e : Expression) → IsPlain e → FitsT (test_of L e)
      test_fits (literal n) h = nonzero_fits (form.literal false n) h
      test_fits (read x) h = nonzero_fits (form.read false (variable_slot L x)) (variable_low x h)
      test_fits (read_global y) h = nonzero_fits (form.read false (global_slot L y)) (omega (arith, h, low))
      test_fits input h = nonzero_fits form.input tt
      test_fits (call p es) h = nonzero_fits (form.call p (values_of L es) (global_slots L))
          (values_fit es h.0, subst (IsCallable P p) (count_same es) h.1, refl)
      test_fits (negate e) h = nonzero_fits (scaled (negsuc 0) (value_of L e)) (scaled_fits (negsuc 0) (value_of L e) (value_fits e h))
      test_fits (not_of e) h = test_fits e h
      test_fits (binary op a b) h =
          test_by_fits op (constant_value a) (constant_value b) (has_call b) (value_of L a) (value_of L b) (test_of L a) (test_of L b)
          (divides_by op b h.1) (value_calls L b) (value_fits a h.2) (value_fits b h.3) (test_fits a h.2) (test_fits b h.3)

    pub result_fits : (e : Expression) → IsPlain e → Fits (result_of L e)
    result_fits e h = in_slot_fits (value_of L e) (value_fits e h)

  pub result_in_slot : (e : Expression) → IsInSlot (result_of L e)
  result_in_slot e = in_slot_is (value_of L e)

  module _ (D : Callee) where
    abbrev E : Expression → State → Relation ℤ
    E = Eval false D

    abbrev Y : Value → State → Relation ℤ
    Y = Yields L D

    abbrev T : Test → State → Relation Bool
    T = Decides L D

    variable_same : (x : ℕ) (s : State) → Same (E (read x) s) (Reads L (variable_slot L x) s)
    variable_same x s = record {
      there = λ w o h. h ∙ ap (goes w) (sym (seen_variable L s w.globals x));
      back = λ w o h. h ∙ ap (goes w) (seen_variable L s w.globals x);
    }

    global_same : (y : ℕ) → y < L.globals → (s : State) → Same (E (read_global y) s) (Reads L (global_slot L y) s)
    global_same y lt s = record {
      there = λ w o h. h ∙ ap (goes w) (sym (seen_global L s w.globals y lt));
      back = λ w o h. h ∙ ap (goes w) (seen_global L s w.globals y lt);
    }

    kept_same : (v : Value) (s : State) → Same (Y v s) (Y (kept v) s)
    kept_same (form.literal k n) s = itself (Gives n)
    kept_same (form.read k x) s = itself (Reads L x s)
    kept_same form.input s = itself (Y form.input s)
    kept_same (form.call p vs gs) s = itself (Y (form.call p vs gs) s)
    kept_same (form.scale c v) s = itself (Y (form.scale c v) s)
    kept_same (form.sum v u) s = itself (Y (form.sum v u) s)
    kept_same (form.difference v u) s = itself (Y (form.difference v u) s)
    kept_same (form.quotient c v) s = itself (Y (form.quotient c v) s)
    kept_same (form.remainder c v) s = itself (Y (form.remainder c v) s)
    kept_same (form.truth c) s = itself (Y (form.truth c) s)

    kept_if_same : (b : Bool) (v : Value) (s : State) → Same (Y v s) (Y (kept_if b v) s)
    kept_if_same true v s = kept_same v s
    kept_if_same false v s = itself (Y v s)

    in_slot_same : (v : Value) (s : State) → Same (Y v s) (Y (in_slot v) s)
    in_slot_same (form.literal k n) s = itself (Gives n)
    in_slot_same (form.read k x) s = itself (Reads L x s)
    in_slot_same form.input s = itself (Y form.input s)
    in_slot_same (form.call p vs gs) s = itself (Y (form.call p vs gs) s)
    in_slot_same (form.scale c v) s = itself (Y (form.scale c v) s)
    in_slot_same (form.sum v u) s = itself (Y (form.sum v u) s)
    in_slot_same (form.difference v u) s = itself (Y (form.difference v u) s)
    in_slot_same (form.quotient c v) s = itself (Y (form.quotient c v) s)
    in_slot_same (form.remainder c v) s = itself (Y (form.remainder c v) s)
    in_slot_same (form.truth c) s = itself (Y (form.truth c) s)

    -- Operations

    scaled_same : (c : ℤ) (v : Value) (s : State) (P : Relation ℤ) → Same P (Y v s) → Same (Then P (λ x. ExactOrStopped (c *ℤ x)))
        (Y (scaled c v) s)
    scaled_same c v s P h =
        first_same P (Y (kept_if (overflows_by c v) v) s) (λ x. ExactOrStopped (c *ℤ x))
        (through P (Y v s) (Y (kept_if (overflows_by c v) v) s) h (kept_if_same (overflows_by c v) v s))

    negated_same : (e : Expression) (s : State) → Same (E e s) (Y (value_of L e) s) →
        Same (E (negate e) s) (Y (scaled (negsuc 0) (value_of L e)) s)
    negated_same e s h =
        through (E (negate e) s) (Then (E e s) (λ x. ExactOrStopped (negsuc 0 *ℤ x))) (Y (scaled (negsuc 0) (value_of L e)) s)
        (next_same (E e s) (λ x. ExactOrStopped (neg_ℤ x)) (λ x. ExactOrStopped (negsuc 0 *ℤ x))
        (λ x. exact_same (neg_ℤ x) (negsuc 0 *ℤ x) (omega (arith, ints))))
        (scaled_same (negsuc 0) (value_of L e) s (E e s) h)

    -- both sides, the left one perhaps in a slot of its own
    sides_same : {A : Type 0} (k : Bool) (v u : Value) (s : State) (P Q : Relation ℤ) (F : ℤ → ℤ → Relation A) → Same P (Y v s) →
        Same Q (Y u s) →
        Same (Then P (λ x. Then Q (F x))) (Then (Y (kept_if k v) s) (λ x. Then (Y u s) (F x)))
    sides_same k v u s P Q F h i =
        then_same P (Y (kept_if k v) s) (λ x. Then Q (F x)) (λ x. Then (Y u s) (F x))
        (through P (Y v s) (Y (kept_if k v) s) h (kept_if_same k v s)) (λ x. first_same Q (Y u s) (F x) i)

    module _ (a b : Expression) (s : State) (ha : Same (E a s) (Y (value_of L a) s)) (hb : Same (E b s) (Y (value_of L b) s)) where
      abbrev v : Value
      v = value_of L a

      abbrev u : Value
      u = value_of L b

      added_same : (l : Bool) → Same (E (binary Add a b) s) (Y (added l v u) s)
      added_same l = sides_same (l || overflows (λ x y. x +ℤ y) v u) v u s (E a s) (E b s) (λ x y. ExactOrStopped (x +ℤ y)) ha hb

      subtracted_same : (l : Bool) → Same (E (binary Subtract a b) s) (Y (subtracted l v u) s)
      subtracted_same l =
          let k = overflows_by (negsuc 0) u in
          sides_same (l || overflows (λ x y. x -ℤ y) v u) v (kept_if k u) s (E a s) (E b s) (λ x y. ExactOrStopped (x -ℤ y)) ha
          (through (E b s) (Y u s) (Y (kept_if k u) s) hb (kept_if_same k u s))

      abbrev Product : Relation ℤ
      Product = Then (E a s) (λ x. Then (E b s) (λ y. ExactOrStopped (x *ℤ y)))

      left_known : (c : ℤ) → constant_value a ≡ Some c → Same Product (Y (scaled c u) s)
      left_known c e =
          through Product (Then (Gives c) (λ x. Then (E b s) (λ y. ExactOrStopped (x *ℤ y)))) (Y (scaled c u) s)
          (first_same (E a s) (Gives c) (λ x. Then (E b s) (λ y. ExactOrStopped (x *ℤ y))) (known_same D a s c e))
          (through (Then (Gives c) (λ x. Then (E b s) (λ y. ExactOrStopped (x *ℤ y)))) (Then (E b s) (λ y. ExactOrStopped (c *ℤ y)))
          (Y (scaled c u) s)
          (gives_then c (λ x. Then (E b s) (λ y. ExactOrStopped (x *ℤ y)))) (scaled_same c u s (E b s) hb))

      right_known : (c : ℤ) → constant_value b ≡ Some c → Same Product (Y (scaled c v) s)
      right_known c e =
          through Product (Then (E a s) (λ x. ExactOrStopped (c *ℤ x))) (Y (scaled c v) s)
          (next_same (E a s) (λ x. Then (E b s) (λ y. ExactOrStopped (x *ℤ y))) (λ x. ExactOrStopped (c *ℤ x)) (λ x.
          through (Then (E b s) (λ y. ExactOrStopped (x *ℤ y))) (Then (Gives c) (λ y. ExactOrStopped (x *ℤ y))) (ExactOrStopped (c *ℤ x))
          (first_same (E b s) (Gives c) (λ y. ExactOrStopped (x *ℤ y)) (known_same D b s c e))
          (through (Then (Gives c) (λ y. ExactOrStopped (x *ℤ y))) (ExactOrStopped (x *ℤ c)) (ExactOrStopped (c *ℤ x))
          (gives_then c (λ y. ExactOrStopped (x *ℤ y))) (exact_same (x *ℤ c) (c *ℤ x) (*ℤ_comm x c)))))
          (scaled_same c v s (E a s) ha)

      none_known : (l : Bool) → (is_constant a || is_constant b) ≡ true → constant_value a ≡ None → constant_value b ≡ None →
          Same Product (Y (added l v u) s)
      none_known l side na nb = through Product (E (binary Add a b) s) (Y (added l v u) s) (on (is_constant a) refl) (added_same l)
        where
          right_constant : is_constant a ≡ false → is_constant b ≡ true
          right_constant e = let S : Bool → Type 0 = λ x. (x || is_constant b) ≡ true in subst S e side

          on : (x : Bool) → is_constant a ≡ x → Same Product (E (binary Add a b) s)
          on true e = never_same (E a s) (λ x. Then (E b s) (λ y. ExactOrStopped (x *ℤ y)))
              (λ x. Then (E b s) (λ y. ExactOrStopped (x +ℤ y)))
              (unknown_never D a s e na)
          on false e =
              next_same (E a s) (λ x. Then (E b s) (λ y. ExactOrStopped (x *ℤ y))) (λ x. Then (E b s) (λ y. ExactOrStopped (x +ℤ y)))
              (λ x. never_same (E b s) (λ y. ExactOrStopped (x *ℤ y)) (λ y. ExactOrStopped (x +ℤ y))
              (unknown_never D b s (right_constant e) nb))

      multiplied_same : (l : Bool) → (is_constant a || is_constant b) ≡ true → Same (E (binary Multiply a b) s)
          (Y (multiplied (constant_value a) (constant_value b) l v u) s)
      multiplied_same l side = on (constant_value a) (constant_value b) refl refl
        where
          on : (x y : Option ℤ) → constant_value a ≡ x → constant_value b ≡ y → Same Product (Y (multiplied x y l v u) s)
          on (Some c) y ea eb = left_known c ea
          on None (Some c) ea eb = right_known c eb
          on None None ea eb = none_known l side ea eb

      divided_same : (F : ℤ → ℤ → Relation ℤ) (c : ℤ) → constant_value b ≡ Some c → Same (Then (E a s) (λ x. Then (E b s) (F x)))
          (Then (Y (in_slot v) s) (λ x. F x c))
      divided_same F c e =
          through (Then (E a s) (λ x. Then (E b s) (F x))) (Then (E a s) (λ x. F x c)) (Then (Y (in_slot v) s) (λ x. F x c))
          (next_same (E a s) (λ x. Then (E b s) (F x)) (λ x. F x c) (λ x.
          through (Then (E b s) (F x)) (Then (Gives c) (F x)) (F x c) (first_same (E b s) (Gives c) (F x) (known_same D b s c e))
          (gives_then c (F x))))
          (first_same (E a s) (Y (in_slot v) s) (λ x. F x c) (through (E a s) (Y v s) (Y (in_slot v) s) ha (in_slot_same v s)))

      quotient_same : HasDivisor Divide b → Same (E (binary Divide a b) s) (Y (form.quotient (divisor_of (constant_value b)) (in_slot v)) s)
      quotient_same h = subst (λ o. Same (E (binary Divide a b) s) (Y (form.quotient (divisor_of o) (in_slot v)) s)) (sym h.1)
          (divided_same (Applied Divide) h.0 h.1)

      remainder_same : HasDivisor Remainder b →
          Same (E (binary Remainder a b) s) (Y (form.remainder (divisor_of (constant_value b)) (in_slot v)) s)
      remainder_same h = subst (λ o. Same (E (binary Remainder a b) s) (Y (form.remainder (divisor_of o) (in_slot v)) s)) (sym h.1)
          (divided_same (Applied Remainder) h.0 h.1)

      compared_same : (op : Op) (l : Bool) → Same (Then (E a s) (λ x. Then (E b s) (λ y. Gives (bit (comparison op x y)))))
          (Then (T (compared op l v u) s) (λ z. Gives (bit z)))
      compared_same op l =
          through (Then (E a s) (λ x. Then (E b s) (λ y. Gives (bit (comparison op x y)))))
          (Then (Y (kept_if l v) s) (λ x. Then (Then (Y u s) (λ y. Gives (comparison op x y))) (λ z. Gives (bit z))))
          (Then (T (compared op l v u) s) (λ z. Gives (bit z)))
          (through (Then (E a s) (λ x. Then (E b s) (λ y. Gives (bit (comparison op x y)))))
          (Then (Y (kept_if l v) s) (λ x. Then (Y u s) (λ y. Gives (bit (comparison op x y)))))
          (Then (Y (kept_if l v) s) (λ x. Then (Then (Y u s) (λ y. Gives (comparison op x y))) (λ z. Gives (bit z))))
          (sides_same l v u s (E a s) (E b s) (λ x y. Gives (bit (comparison op x y))) ha hb)
          (next_same (Y (kept_if l v) s) (λ x. Then (Y u s) (λ y. Gives (bit (comparison op x y))))
          (λ x. Then (Then (Y u s) (λ y. Gives (comparison op x y))) (λ z. Gives (bit z))) (λ x.
          swapped (Then (Then (Y u s) (λ y. Gives (comparison op x y))) (λ z. Gives (bit z)))
          (Then (Y u s) (λ y. Gives (bit (comparison op x y))))
          (through (Then (Then (Y u s) (λ y. Gives (comparison op x y))) (λ z. Gives (bit z)))
          (Then (Y u s) (λ y. Then (Gives (comparison op x y)) (λ z. Gives (bit z)))) (Then (Y u s) (λ y. Gives (bit (comparison op x y))))
          (then_then (Y u s) (λ y. Gives (comparison op x y)) (λ z. Gives (bit z)))
          (next_same (Y u s) (λ y. Then (Gives (comparison op x y)) (λ z. Gives (bit z))) (λ y. Gives (bit (comparison op x y)))
          (λ y. gives_then (comparison op x y) (λ z. Gives (bit z))))))))
          (swapped (Then (T (compared op l v u) s) (λ z. Gives (bit z)))
          (Then (Y (kept_if l v) s) (λ x. Then (Then (Y u s) (λ y. Gives (comparison op x y))) (λ z. Gives (bit z))))
          (then_then (Y (kept_if l v) s) (λ x. Then (Y u s) (λ y. Gives (comparison op x y))) (λ z. Gives (bit z))))

    -- Tests

    abbrev B : Bool → Relation ℤ
    B z = Gives (bit z)

    abbrev N : ℤ → Relation Bool
    N x = Gives (not (is_zero x))

    bit_back : (z : Bool) → not (is_zero (bit z)) ≡ z
    bit_back true = refl
    bit_back false = refl

    from_bit : (P : Relation ℤ) (Q : Relation Bool) → Same P (Then Q B) → Same (Then P N) Q
    from_bit P Q h =
        through (Then P N) (Then (Then Q B) N) Q (first_same P (Then Q B) N h)
        (through (Then (Then Q B) N) (Then Q (λ z. Then (B z) N)) Q (then_then Q B N)
        (through (Then Q (λ z. Then (B z) N)) (Then Q (λ z. Gives z)) Q
        (next_same Q (λ z. Then (B z) N) (λ z. Gives z) (λ z. through (Then (B z) N) (N (bit z)) (Gives z) (gives_then (bit z) N)
        (gives_same (not (is_zero (bit z))) z (bit_back z))))
        (then_gives Q)))

    nonzero_same : (v : Value) (s : State) (P : Relation ℤ) → Same P (Y v s) → Same (Then P N) (T (nonzero v) s)
    nonzero_same v s P h =
        then_same P (Y v s) N (λ x. Then (Gives (pos 0)) (λ y. Gives (comparison Unequal x y))) h
        (λ x. swapped (Then (Gives (pos 0)) (λ y. Gives (comparison Unequal x y))) (N x)
        (through (Then (Gives (pos 0)) (λ y. Gives (comparison Unequal x y))) (Gives (comparison Unequal x (pos 0))) (N x)
        (gives_then (pos 0) (λ y. Gives (comparison Unequal x y)))
        (gives_same (comparison Unequal x (pos 0)) (not (is_zero x)) (let e : x -ℤ pos 0 ≡ x = omega (arith, ints) in
        ap (λ z. not (is_zero z)) e))))

    -- the value of a test
    bits : (P : Relation ℤ) (Q : Relation Bool) → Same (Then P N) Q → Same (Then P (λ y. Gives (bit (not (is_zero y))))) (Then Q B)
    bits P Q h =
        through (Then P (λ y. Gives (bit (not (is_zero y))))) (Then (Then P N) B) (Then Q B)
        (swapped (Then (Then P N) B) (Then P (λ y. Gives (bit (not (is_zero y)))))
        (through (Then (Then P N) B) (Then P (λ y. Then (N y) B)) (Then P (λ y. Gives (bit (not (is_zero y)))))
        (then_then P N B)
        (next_same P (λ y. Then (N y) B) (λ y. Gives (bit (not (is_zero y)))) (λ y. gives_then (not (is_zero y)) B))))
        (first_same (Then P N) Q B h)

    opposed_same : (P : Relation ℤ) (c : Test) (s : State) → Same (Then P N) (T c s) → Same (Then P (λ v. Gives (bit (is_zero v))))
        (Then (T (opposite c) s) B)
    opposed_same P c s h =
        through (Then P (λ v. Gives (bit (is_zero v)))) (Then (Then P N) (λ z. Gives (bit (not z)))) (Then (T (opposite c) s) B)
        (swapped (Then (Then P N) (λ z. Gives (bit (not z)))) (Then P (λ v. Gives (bit (is_zero v))))
        (through (Then (Then P N) (λ z. Gives (bit (not z)))) (Then P (λ y. Then (N y) (λ z. Gives (bit (not z)))))
        (Then P (λ v. Gives (bit (is_zero v))))
        (then_then P N (λ z. Gives (bit (not z))))
        (next_same P (λ y. Then (N y) (λ z. Gives (bit (not z)))) (λ v. Gives (bit (is_zero v))) (λ y.
        through (Then (N y) (λ z. Gives (bit (not z)))) (Gives (bit (not (not (is_zero y))))) (Gives (bit (is_zero y)))
        (gives_then (not (is_zero y)) (λ z. Gives (bit (not z))))
        (gives_same (bit (not (not (is_zero y)))) (bit (is_zero y)) (ap bit (not_not (is_zero y)))))))
        )
        (through (Then (Then P N) (λ z. Gives (bit (not z)))) (Then (T c s) (λ z. Gives (bit (not z)))) (Then (T (opposite c) s) B)
        (first_same (Then P N) (T c s) (λ z. Gives (bit (not z))) h)
        (swapped (Then (T (opposite c) s) B) (Then (T c s) (λ z. Gives (bit (not z))))
        (through (Then (T (opposite c) s) B) (Then (T c s) (λ z. Then (Gives (not z)) B)) (Then (T c s) (λ z. Gives (bit (not z))))
        (then_then (T c s) (λ z. Gives (not z)) B)
        (next_same (T c s) (λ z. Then (Gives (not z)) B) (λ z. Gives (bit (not z))) (λ z. gives_then (not z) B)))))
      where
        not_not : (z : Bool) → not (not z) ≡ z
        not_not true = refl
        not_not false = refl

    -- a test that chooses between relations
    chosen_same : (P : Relation ℤ) (Q : Relation Bool) (F : Bool → Relation Bool) (G : ℤ → Relation ℤ) → Same (Then P N) Q →
        ((x : ℤ) → Same (G x) (Then (F (not (is_zero x))) B)) →
        Same (Then P G) (Then (Then Q F) B)
    chosen_same P Q F G h g =
        through (Then P G) (Then (Then P N) (λ z. Then (F z) B)) (Then (Then Q F) B)
        (swapped (Then (Then P N) (λ z. Then (F z) B)) (Then P G)
        (through (Then (Then P N) (λ z. Then (F z) B)) (Then P (λ x. Then (N x) (λ z. Then (F z) B))) (Then P G)
        (then_then P N (λ z. Then (F z) B))
        (next_same P (λ x. Then (N x) (λ z. Then (F z) B)) G (λ x.
        through (Then (N x) (λ z. Then (F z) B)) (Then (F (not (is_zero x))) B) (G x) (gives_then (not (is_zero x)) (λ z. Then (F z) B))
        (swapped (G x) (Then (F (not (is_zero x))) B) (g x))))))
        (through (Then (Then P N) (λ z. Then (F z) B)) (Then Q (λ z. Then (F z) B)) (Then (Then Q F) B)
        (first_same (Then P N) Q (λ z. Then (F z) B) h)
        (swapped (Then (Then Q F) B) (Then Q (λ z. Then (F z) B)) (then_then Q F B)))

    module _ (a b : Expression) (s : State) (ha : Same (Then (E a s) N) (T (test_of L a) s))
        (hb : Same (Then (E b s) N) (T (test_of L b) s)) where
      both_same : Same (E (binary And a b) s) (Then (T (both (test_of L a) (test_of L b)) s) B)
      both_same =
          chosen_same (E a s) (T (test_of L a) s) (λ z. Choice z (T (test_of L b) s) (Gives false))
          (λ x. RightSide (decided And (is_zero x)) (Applied And x) (E b s)) ha (λ x. on (is_zero x) x)
        where
          on : (z : Bool) (x : ℤ) → Same (RightSide (decided And z) (Applied And x) (E b s))
              (Then (Choice (not z) (T (test_of L b) s) (Gives false)) B)
          on true x = swapped (Then (Gives false) B) (Gives (pos 0)) (gives_then false B)
          on false x = bits (E b s) (T (test_of L b) s) hb

      either_same : Same (E (binary Or a b) s) (Then (T (either (test_of L a) (test_of L b)) s) B)
      either_same =
          chosen_same (E a s) (T (test_of L a) s) (λ z. Choice z (Gives true) (T (test_of L b) s))
          (λ x. RightSide (decided Or (is_zero x)) (Applied Or x) (E b s)) ha (λ x. on (is_zero x) x)
        where
          on : (z : Bool) (x : ℤ) → Same (RightSide (decided Or z) (Applied Or x) (E b s))
              (Then (Choice (not z) (Gives true) (T (test_of L b) s)) B)
          on true x = bits (E b s) (T (test_of L b) s) hb
          on false x = swapped (Then (Gives true) B) (Gives (pos 1)) (gives_then true B)

    -- The sides of an operation, and how it is a value and a test.
    module _ (a b : Expression) (s : State) (va : Same (E a s) (Y (value_of L a) s)) (vb : Same (E b s) (Y (value_of L b) s))
        (ta : Same (Then (E a s) N) (T (test_of L a) s)) (tb : Same (Then (E b s) N) (T (test_of L b) s)) where
      abbrev ValueBy : Op → Value
      ValueBy op = value_by op (constant_value a) (constant_value b) (has_call b) (value_of L a) (value_of L b) (test_of L a) (test_of L b)

      abbrev TestBy : Op → Test
      TestBy op = test_by op (constant_value a) (constant_value b) (has_call b) (value_of L a) (value_of L b) (test_of L a) (test_of L b)

      binary_value : (op : Op) → HasConstantSide op a b → HasDivisor op b → Same (E (binary op a b) s) (Y (ValueBy op) s)
      binary_value Add h d = added_same a b s va vb (has_call b)
      binary_value Subtract h d = subtracted_same a b s va vb (has_call b)
      binary_value Multiply h d = multiplied_same a b s va vb (has_call b) h
      binary_value Divide h d = quotient_same a b s va vb d
      binary_value Remainder h d = remainder_same a b s va vb d
      binary_value Less h d = compared_same a b s va vb Less (has_call b)
      binary_value LessEqual h d = compared_same a b s va vb LessEqual (has_call b)
      binary_value Greater h d = compared_same a b s va vb Greater (has_call b)
      binary_value GreaterEqual h d = compared_same a b s va vb GreaterEqual (has_call b)
      binary_value Equal h d = compared_same a b s va vb Equal (has_call b)
      binary_value Unequal h d = compared_same a b s va vb Unequal (has_call b)
      binary_value And h d = both_same a b s ta tb
      binary_value Or h d = either_same a b s ta tb

      binary_test : (op : Op) → HasConstantSide op a b → HasDivisor op b → Same (Then (E (binary op a b) s) N) (T (TestBy op) s)
      binary_test Add h d = nonzero_same (ValueBy Add) s (E (binary Add a b) s) (binary_value Add h d)
      binary_test Subtract h d = nonzero_same (ValueBy Subtract) s (E (binary Subtract a b) s) (binary_value Subtract h d)
      binary_test Multiply h d = nonzero_same (ValueBy Multiply) s (E (binary Multiply a b) s) (binary_value Multiply h d)
      binary_test Divide h d = nonzero_same (ValueBy Divide) s (E (binary Divide a b) s) (binary_value Divide h d)
      binary_test Remainder h d = nonzero_same (ValueBy Remainder) s (E (binary Remainder a b) s) (binary_value Remainder h d)
      binary_test Less h d = from_bit (E (binary Less a b) s) (T (TestBy Less) s) (compared_same a b s va vb Less (has_call b))
      binary_test LessEqual h d = from_bit (E (binary LessEqual a b) s) (T (TestBy LessEqual) s)
          (compared_same a b s va vb LessEqual (has_call b))
      binary_test Greater h d = from_bit (E (binary Greater a b) s) (T (TestBy Greater) s) (compared_same a b s va vb Greater (has_call b))
      binary_test GreaterEqual h d = from_bit (E (binary GreaterEqual a b) s) (T (TestBy GreaterEqual) s)
          (compared_same a b s va vb GreaterEqual (has_call b))
      binary_test Equal h d = from_bit (E (binary Equal a b) s) (T (TestBy Equal) s) (compared_same a b s va vb Equal (has_call b))
      binary_test Unequal h d = from_bit (E (binary Unequal a b) s) (T (TestBy Unequal) s) (compared_same a b s va vb Unequal (has_call b))
      binary_test And h d = from_bit (E (binary And a b) s) (T (TestBy And) s) (both_same a b s ta tb)
      binary_test Or h d = from_bit (E (binary Or a b) s) (T (TestBy Or) s) (either_same a b s ta tb)

    mutual
      pub value_same : (e : Expression) (s : State) → IsPlain e → Same (Eval false D e s) (Yields L D (value_of L e) s)
      value_same (literal n) s h = itself (Gives n)
      value_same (read x) s h = variable_same x s
      value_same (read_global y) s h = global_same y h s
      value_same input s h = itself (E input s)
      value_same (call p es) s h = first_same (Evals false D es s) (YieldsAll L D (values_of L es) s) (D p) (values_same es s h.0)
      value_same (negate e) s h = negated_same e s (value_same e s h)
      value_same (not_of e) s h = opposed_same (E e s) (test_of L e) s (test_same e s h)
      value_same (binary op a b) s h = binary_value a b s (value_same a s h.2) (value_same b s h.3) (test_same a s h.2) (test_same b s h.3)
          op h.0 h.1

      pub values_same : (es : Expressions) (s : State) → ArePlain es → Same (Evals false D es s) (YieldsAll L D (values_of L es) s)
      values_same no_expressions s h = itself (Evals false D no_expressions s)
      values_same (expression e es) s h =
          let v = kept_if (have_call es) (value_of L e) in
          then_same (E e s) (Y (in_slot v) s) (λ x. Then (Evals false D es s) (λ xs. Gives (x ∷ xs)))
          (λ x. Then (YieldsAll L D (values_of L es) s) (λ xs. Gives (x ∷ xs)))
          (through (E e s) (Y (value_of L e) s) (Y (in_slot v) s) (value_same e s h.0)
          (through (Y (value_of L e) s) (Y v s) (Y (in_slot v) s)
          (kept_if_same (have_call es) (value_of L e) s) (in_slot_same v s)))
          (λ x. first_same (Evals false D es s) (YieldsAll L D (values_of L es) s) (λ xs. Gives (x ∷ xs)) (values_same es s h.1))

      pub test_same : (e : Expression) (s : State) → IsPlain e → Same (Then (Eval false D e s) (λ v. Gives (not (is_zero v))))
          (Decides L D (test_of L e) s)
      test_same (literal n) s h = nonzero_same (form.literal false n) s (E (literal n) s) (itself (Gives n))
      test_same (read x) s h = nonzero_same (form.read false (variable_slot L x)) s (E (read x) s) (variable_same x s)
      test_same (read_global y) s h = nonzero_same (form.read false (global_slot L y)) s (E (read_global y) s) (global_same y h s)
      test_same input s h = nonzero_same form.input s (E input s) (itself (E input s))
      test_same (call p es) s h =
          nonzero_same (form.call p (values_of L es) (global_slots L)) s (E (call p es) s)
          (first_same (Evals false D es s) (YieldsAll L D (values_of L es) s)
          (D p) (values_same es s h.0))
      test_same (negate e) s h = nonzero_same (scaled (negsuc 0) (value_of L e)) s (E (negate e) s) (negated_same e s (value_same e s h))
      test_same (not_of e) s h = from_bit (E (not_of e) s) (T (opposite (test_of L e)) s)
          (opposed_same (E e s) (test_of L e) s (test_same e s h))
      test_same (binary op a b) s h = binary_test a b s (value_same a s h.2) (value_same b s h.3) (test_same a s h.2) (test_same b s h.3) op
          h.0 h.1

    pub result_same : (e : Expression) (s : State) → IsPlain e → Same (Eval false D e s) (Yields L D (result_of L e) s)
    result_same e s h = through (E e s) (Y (value_of L e) s) (Y (result_of L e) s) (value_same e s h) (in_slot_same (value_of L e) s)

    -- what follows a condition
    pub by_test : {A : Type 0} (e : Expression) (s : State) (P Q : Relation A) → IsPlain e →
        Same (Then (Eval false D e s) (λ v. Choice (is_zero v) P Q)) (Then (Decides L D (test_of L e) s) (λ b. Choice b Q P))
    by_test e s P Q h =
        through (Then (E e s) (λ v. Choice (is_zero v) P Q)) (Then (Then (E e s) N) (λ b. Choice b Q P))
        (Then (T (test_of L e) s) (λ b. Choice b Q P))
        (swapped (Then (Then (E e s) N) (λ b. Choice b Q P)) (Then (E e s) (λ v. Choice (is_zero v) P Q))
        (through (Then (Then (E e s) N) (λ b. Choice b Q P)) (Then (E e s) (λ v. Then (N v) (λ b. Choice b Q P)))
        (Then (E e s) (λ v. Choice (is_zero v) P Q))
        (then_then (E e s) N (λ b. Choice b Q P))
        (next_same (E e s) (λ v. Then (N v) (λ b. Choice b Q P)) (λ v. Choice (is_zero v) P Q) (λ v.
        through (Then (N v) (λ b. Choice b Q P)) (Choice (not (is_zero v)) Q P) (Choice (is_zero v) P Q)
        (gives_then (not (is_zero v)) (λ b. Choice b Q P))
        (swapped (Choice (is_zero v) P Q) (Choice (not (is_zero v)) Q P) (other_choice (is_zero v) P Q))))))
        (first_same (Then (E e s) N) (T (test_of L e) s) (λ b. Choice b Q P) (test_same e s h))

    pub by_value : {A : Type 0} (e : Expression) (s : State) (Q : ℤ → Relation A) → IsPlain e → Same (Then (Eval false D e s) Q)
        (Then (Yields L D (value_of L e) s) Q)
    by_value e s Q h = first_same (E e s) (Y (value_of L e) s) Q (value_same e s h)

    pub by_result : {A : Type 0} (e : Expression) (s : State) (Q : ℤ → Relation A) → IsPlain e → Same (Then (Eval false D e s) Q)
        (Then (Yields L D (result_of L e) s) Q)
    by_result e s Q h = first_same (E e s) (Y (result_of L e) s) Q (result_same e s h)
