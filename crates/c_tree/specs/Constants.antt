-- Which expressions have a value before the run, and what it is.
use Rattle.std.specs.Prelude.{Option, None, Some, ℤ, neg_ℤ}
use Rattle.c_tree.specs.declared.tree.Op.{Op}
use Rattle.c_tree.specs.Operators.{exact, operation}
use Rattle.c_tree.specs.Meaning.{Relation, Gives, Ends, stopped}
use Rattle.c_tree.specs.Syntax.{Expression}
use Rattle.c_tree.specs.Syntax as source

abbrev pub operation_of : Op → Option ℤ → Option ℤ → Option ℤ
operation_of op (Some x) (Some y) = operation op x y
operation_of op _ _ = None

abbrev pub negation_of : Option ℤ → Option ℤ
negation_of (Some x) = exact (neg_ℤ x)
negation_of None = None

-- the value of a constant expression, where it has one
abbrev pub constant_value : Expression → Option ℤ
constant_value (source.literal n) = Some n
constant_value (source.read x) = None
constant_value (source.read_global y) = None
constant_value source.input = None
constant_value (source.call p es) = None
constant_value (source.negate e) = negation_of (constant_value e)
constant_value (source.not e) = None
constant_value (source.binary op a b) = operation_of op (constant_value a) (constant_value b)

-- what a constant gives: its value, or the run stops
abbrev pub Known : Option ℤ → Relation ℤ
Known (Some c) = Gives c
Known None = Ends stopped
