-- What the check knows of an expression agrees with what the expression becomes.
use Rattle.std.proofs.Common.{◌≡◌, ℤ, Bool, true, false, ◌&&◌, not as not_bool, List, ◌++◌, Option, Some, None, refl, ap, ◌∙◌, if◌then◌else◌}
use Rattle.c_tree.specs.declared.tree.Op.{Op}
use Rattle.c_tree.specs.declared.tree.Op.TheVariants.{Add, Subtract, Multiply, Divide, Remainder, Less, LessEqual, Greater, GreaterEqual, Equal, Unequal, And, Or}
use Rattle.c_tree.specs.declared.tree.Pos.{Pos}
use Rattle.c_tree.specs.Constants.{constant_value, negation_of, operation_of}
use Rattle.c_tree.specs.Operators.{is_division, is_product}
use Rattle.c_tree.specs.SourceTree.{ExpressionTree, negate, binary}
use Rattle.c_typing.specs.declared.check.side.Side.{Side}
use Rattle.c_typing.specs.declared.check.side.Side.TheVariants.{Varies}
use Rattle.c_typing.specs.declared.fault.TypeFault.TheVariants.{NotLinear, BadDivisor}
use Rattle.c_typing.specs.Scope.{Scope, FileScope}
use Rattle.c_typing.specs.Lowering.{lowered}
use Rattle.c_typing.specs.Faults.{fault_if, is_constant, may_divide, has_divisor, operator_faults}
use Rattle.c_typing.specs.steps.Sides.{constant_side, side_of, is_constant_side, is_divisor_side, negated, combined_of, combined}

-- a side of which it is known that it is constant, and its value
abbrev side_from : Bool → Option ℤ → Side
side_from c v = if c then constant_side v else Varies

constant-from : (c : Bool) (v : Option ℤ) → is_constant_side (side_from c v) ≡ c
constant-from true None = refl
constant-from true (Some n) = refl
constant-from false v = refl

divisor-from : (c : Bool) (v : Option ℤ) → is_divisor_side (side_from c v) ≡ (c && may_divide v)
divisor-from true None = refl
divisor-from true (Some n) = refl
divisor-from false v = refl

negated-from : (c : Bool) (v : Option ℤ) → negated (side_from c v) ≡ side_from c (negation_of v)
negated-from true None = refl
negated-from true (Some n) = refl
negated-from false v = refl

combined-from : (o : Op) (c d : Bool) (v w : Option ℤ) → combined_of o (side_from c v) (side_from d w)
    ≡ side_from (c && d) (operation_of o v w)
combined-from o false d v w = refl
combined-from o true false None w = refl
combined-from o true false (Some x) w = refl
combined-from o true true None None = refl
combined-from o true true None (Some y) = refl
combined-from o true true (Some x) None = refl
combined-from o true true (Some x) (Some y) = refl

pub constant_known : (file : FileScope) (ss : List Scope) (e : ExpressionTree) (s : Side) → s ≡ side_of file ss e → is_constant_side s
    ≡ is_constant e
constant_known file ss e s is = ap is_constant_side is ∙ constant-from (is_constant e) (constant_value (lowered file ss e))

pub divisor_known : (file : FileScope) (ss : List Scope) (e : ExpressionTree) (s : Side) → s ≡ side_of file ss e → is_divisor_side s
    ≡ has_divisor file ss e
divisor_known file ss e s is = ap is_divisor_side is ∙ divisor-from (is_constant e) (constant_value (lowered file ss e))

pub side-negate : (file : FileScope) (ss : List Scope) (e : ExpressionTree) (s r : Side) → s ≡ side_of file ss e → r ≡ negated s →
    r ≡ side_of file ss (negate e)
side-negate file ss e s r is made = made ∙ ap negated is ∙ negated-from (is_constant e) (constant_value (lowered file ss e))

pub side-binary : (file : FileScope) (ss : List Scope) (o : Op) (at : Pos) (a b : ExpressionTree) (s t r : Side) → s ≡ side_of file ss a →
    t ≡ side_of file ss b → r ≡ combined o s t → r ≡ side_of file ss (binary o at a b)
side-binary file ss o at a b s t r left right made =
    made ∙ ap (λ x. combined o x t) left ∙ ap (combined o (side_of file ss a)) right ∙ go o
  where
    both : (o : Op) → combined_of o (side_of file ss a) (side_of file ss b) ≡ side_from (is_constant a && is_constant b)
        (operation_of o (constant_value (lowered file ss a)) (constant_value (lowered file ss b)))
    both o = combined-from o (is_constant a) (is_constant b) (constant_value (lowered file ss a)) (constant_value (lowered file ss b))

    go : (o : Op) → combined o (side_of file ss a) (side_of file ss b) ≡ side_of file ss (binary o at a b)
    go Add = both Add
    go Subtract = both Subtract
    go Multiply = both Multiply
    go Divide = refl
    go Remainder = refl
    go Less = refl
    go LessEqual = refl
    go Greater = refl
    go GreaterEqual = refl
    go Equal = refl
    go Unequal = refl
    go And = refl
    go Or = refl

-- what is reported of an operator
pub told_of_operator : (file : FileScope) (ss : List Scope) (o : Op) (at : Pos) (constant : Bool) (b : ExpressionTree) (c : Bool)
    (t : Side) → c ≡ constant → t ≡ side_of file ss b →
    fault_if (is_product o && not_bool c) NotLinear at ++ fault_if (is_division o && not_bool (is_divisor_side t)) BadDivisor at
    ≡ operator_faults file ss o at constant b
told_of_operator file ss o at constant b c t same right =
    ap (λ x. fault_if (is_product o && not_bool x) NotLinear at ++ fault_if (is_division o && not_bool (is_divisor_side t)) BadDivisor at)
    same
    ∙ ap (λ x. fault_if (is_product o && not_bool constant) NotLinear at ++ fault_if (is_division o && not_bool x) BadDivisor at)
    (divisor_known file ss b t right)
