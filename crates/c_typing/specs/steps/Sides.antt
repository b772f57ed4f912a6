-- What the check knows of an expression before a run.
use Rattle.std.specs.Prelude.{ℤ, neg_ℤ, Bool, true, false, List, Option, Some, None, if◌then◌else◌}
use Rattle.c_tree.specs.declared.tree.Op.{Op}
use Rattle.c_tree.specs.Constants.{constant_value}
use Rattle.c_tree.specs.Operators.{exact, is_arithmetic, operation}
use Rattle.c_tree.specs.SourceTree.{ExpressionTree}
use Rattle.c_typing.specs.declared.check.side.Side.{Side}
use Rattle.c_typing.specs.declared.check.side.Side.TheVariants.{Varies, Stops, Is}
use Rattle.c_typing.specs.Scope.{Scope, FileScope}
use Rattle.c_typing.specs.Lowering.{lowered}
use Rattle.c_typing.specs.Faults.{is_constant, may_divide}

-- without a value the run would stop
abbrev pub constant_side : Option ℤ → Side
constant_side None = Stops
constant_side (Some n) = Is n

abbrev pub side_of : FileScope → List Scope → ExpressionTree → Side
side_of file scopes e = if is_constant e then constant_side (constant_value (lowered file scopes e))
    else Varies

abbrev pub is_constant_side : Side → Bool
is_constant_side Varies = false
is_constant_side Stops = true
is_constant_side (Is n) = true

abbrev pub is_divisor_side : Side → Bool
is_divisor_side Varies = false
is_divisor_side Stops = false
is_divisor_side (Is n) = may_divide (Some n)

abbrev pub negated : Side → Side
negated Varies = Varies
negated Stops = Stops
negated (Is n) = constant_side (exact (neg_ℤ n))

-- of an arithmetic operator
abbrev pub combined_of : Op → Side → Side → Side
combined_of o Varies b = Varies
combined_of o Stops Varies = Varies
combined_of o Stops Stops = Stops
combined_of o Stops (Is y) = Stops
combined_of o (Is x) Varies = Varies
combined_of o (Is x) Stops = Stops
combined_of o (Is x) (Is y) = constant_side (operation o x y)

abbrev pub combined : Op → Side → Side → Side
combined o a b = if is_arithmetic o then combined_of o a b else Varies
