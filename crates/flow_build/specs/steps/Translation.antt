-- The form of an expression.
use Rattle.std.specs.Prelude.{Bool, true, false, ◌||◌, not as not_bool, Option, None, Some, ℤ, pos, negsuc, ◌+ℤ◌, ◌-ℤ◌, ◌*ℤ◌}
use Rattle.c_tree.specs.Meaning.{is_value}
use Rattle.c_tree.specs.declared.tree.Op.{Op}
use Rattle.c_tree.specs.declared.tree.Op.TheVariants.{Add, Subtract, Multiply, Divide, Remainder, Unequal, And, Or}
use Rattle.c_tree.specs.Syntax.{Expression, Expressions, no_expressions, expression}
use Rattle.c_tree.specs.Syntax as source
use Rattle.flow_build.specs.declared.layout.Layout.{Layout}
use Rattle.c_tree.specs.Constants.{constant_value}
use Rattle.flow_build.specs.steps.Layouts.{variable_slot, global_slot, global_slots}
use Rattle.flow_build.specs.steps.Forms.{Value, literal, read, input, call, scale, sum, difference, quotient, remainder, truth, Values, no_values, value, Test, compare, opposite, both, either}

abbrev mutual
  pub has_call : Expression → Bool
  has_call (source.literal n) = false
  has_call (source.read x) = false
  has_call (source.read_global y) = false
  has_call source.input = false
  has_call (source.call p es) = true
  has_call (source.negate e) = has_call e
  has_call (source.not e) = has_call e
  has_call (source.binary op a b) = has_call a || has_call b

  pub have_call : Expressions → Bool
  have_call no_expressions = false
  have_call (expression e es) = has_call e || have_call es

-- a literal or a variable, kept in a slot of its own
abbrev pub kept : Value → Value
kept (literal k n) = literal true n
kept (read k x) = read true x
kept v = v

abbrev pub kept_if : Bool → Value → Value
kept_if true v = kept v
kept_if false v = v

-- An argument is in a slot: a literal is kept.
abbrev pub in_slot : Value → Value
in_slot (literal k n) = literal true n
in_slot v = v

-- A multiple of a literal that is no value can't be the constant of an edge.
abbrev pub overflows_by : ℤ → Value → Bool
overflows_by c (literal false n) = not_bool (is_value (c *ℤ n))
overflows_by c v = false

abbrev pub scaled : ℤ → Value → Value
scaled c v = scale c (kept_if (overflows_by c v) v)

-- nor can a sum or a difference of two
abbrev pub overflows : (ℤ → ℤ → ℤ) → Value → Value → Bool
overflows f (literal false n) (literal false m) = not_bool (is_value (f n m))
overflows f v u = false

abbrev pub added : (later_call : Bool) → Value → Value → Value
added later_call v u = sum (kept_if (later_call || overflows (λ x y. x +ℤ y) v u) v) u

-- The least value has no negative one.
abbrev pub subtracted : (later_call : Bool) → Value → Value → Value
subtracted later_call v u =
    difference (kept_if (later_call || overflows (λ x y. x -ℤ y) v u) v)
    (kept_if (overflows_by (negsuc 0) u) u)

-- A product is a multiple by a side that has a value before the run. Where neither side has, a
-- constant side stops the run, and what is done with the sides' values is never reached.
abbrev pub multiplied : (left right : Option ℤ) → (later_call : Bool) → Value → Value → Value
multiplied (Some c) right later_call v u = scaled c u
multiplied None (Some c) later_call v u = scaled c v
multiplied None None later_call v u = added later_call v u

abbrev pub compared : Op → (later_call : Bool) → Value → Value → Test
compared op later_call v u = compare op (kept_if later_call v) u

-- the value is not 0
abbrev pub nonzero : Value → Test
nonzero v = compare Unequal v (literal false (pos 0))

-- (a divisor that is no literal is never divided by)
abbrev pub divisor_of : Option ℤ → ℤ
divisor_of (Some c) = c
divisor_of None = pos 1

-- the form of an operation with these sides
abbrev pub value_by : Op → (left right : Option ℤ) → (later_call : Bool) → (v u : Value) →
    (c d : Test) → Value
value_by Add left right later_call v u c d = added later_call v u
value_by Subtract left right later_call v u c d = subtracted later_call v u
value_by Multiply left right later_call v u c d = multiplied left right later_call v u
value_by Divide left right later_call v u c d = quotient (divisor_of right) (in_slot v)
value_by Remainder left right later_call v u c d = remainder (divisor_of right) (in_slot v)
value_by And left right later_call v u c d = truth (both c d)
value_by Or left right later_call v u c d = truth (either c d)
value_by op left right later_call v u c d = truth (compared op later_call v u)

abbrev pub test_by : Op → (left right : Option ℤ) → (later_call : Bool) → (v u : Value) →
    (c d : Test) → Test
test_by Add left right later_call v u c d = nonzero (added later_call v u)
test_by Subtract left right later_call v u c d = nonzero (subtracted later_call v u)
test_by Multiply left right later_call v u c d = nonzero (multiplied left right later_call v u)
test_by Divide left right later_call v u c d = nonzero (quotient (divisor_of right) (in_slot v))
test_by Remainder left right later_call v u c d = nonzero (remainder (divisor_of right) (in_slot v))
test_by And left right later_call v u c d = both c d
test_by Or left right later_call v u c d = either c d
test_by op left right later_call v u c d = compared op later_call v u

-- In a procedure whose names lie so:
module _ (L : Layout) where
  abbrev mutual
    pub value_of : Expression → Value
    value_of (source.literal n) = literal false n
    value_of (source.read x) = read false (variable_slot L x)
    value_of (source.read_global y) = read false (global_slot L y)
    value_of source.input = input
    value_of (source.call p es) = call p (values_of es) (global_slots L)
    value_of (source.negate e) = scaled (negsuc 0) (value_of e)
    value_of (source.not e) = truth (opposite (test_of e))
    value_of (source.binary op a b) = value_by op (constant_value a) (constant_value b) (has_call b)
        (value_of a) (value_of b) (test_of a) (test_of b)

    -- An argument waits in a slot of its own where a later one has a call.
    pub values_of : Expressions → Values
    values_of no_expressions = no_values
    values_of (expression e es) = value (in_slot (kept_if (have_call es) (value_of e)))
        (values_of es)

    pub test_of : Expression → Test
    test_of (source.literal n) = nonzero (literal false n)
    test_of (source.read x) = nonzero (read false (variable_slot L x))
    test_of (source.read_global y) = nonzero (read false (global_slot L y))
    test_of source.input = nonzero input
    test_of (source.call p es) = nonzero (call p (values_of es) (global_slots L))
    test_of (source.negate e) = nonzero (scaled (negsuc 0) (value_of e))
    test_of (source.not e) = opposite (test_of e)
    test_of (source.binary op a b) = test_by op (constant_value a) (constant_value b) (has_call b)
        (value_of a) (value_of b) (test_of a) (test_of b)
