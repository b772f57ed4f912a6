-- A form makes a call only where its expression has one.
use Rattle.std.proofs.Common.{◌≡◌, Bool, true, false, ◌||◌, Option, None, Some, ℤ, negsuc, ◌+ℤ◌, ◌-ℤ◌, refl, ◌∙◌}
use Rattle.c_tree.specs.Syntax.{Expression, literal, read, read_global, input, call, negate, not as not_of, binary, Expressions, no_expressions, expression}
use Rattle.flow_build.specs.declared.layout.Layout.{Layout}
use Rattle.c_tree.specs.declared.tree.Op.{Op}
use Rattle.c_tree.specs.declared.tree.Op.TheVariants.{Add, Subtract, Multiply, Divide, Remainder, Less, LessEqual, Greater, GreaterEqual, Equal, Unequal, And, Or}
use Rattle.flow_build.specs.steps.Forms.{Value, Test}
use Rattle.flow_build.specs.steps.Forms as form
use Rattle.c_tree.specs.Constants.{constant_value}
use Rattle.flow_build.specs.steps.Translation.{has_call, have_call, kept, kept_if, in_slot, overflows_by, scaled, overflows, added, subtracted, multiplied, compared, value_by, test_by, value_of, values_of, test_of}
use Rattle.flow_build.proofs.Slots.{none_of}
use Rattle.flow_build.proofs.FormMeaning.{makes_call, make_call, tests_call}

kept_calls : (v : Value) → makes_call (kept v) ≡ makes_call v
kept_calls (form.literal k n) = refl
kept_calls (form.read k x) = refl
kept_calls form.input = refl
kept_calls (form.call p vs gs) = refl
kept_calls (form.scale c v) = refl
kept_calls (form.sum v u) = refl
kept_calls (form.difference v u) = refl
kept_calls (form.quotient c v) = refl
kept_calls (form.remainder c v) = refl
kept_calls (form.truth c) = refl

pub kept_if_calls : (b : Bool) (v : Value) → makes_call (kept_if b v) ≡ makes_call v
kept_if_calls true v = kept_calls v
kept_if_calls false v = refl

in_slot_calls : (v : Value) → makes_call (in_slot v) ≡ makes_call v
in_slot_calls (form.literal k n) = refl
in_slot_calls (form.read k x) = refl
in_slot_calls form.input = refl
in_slot_calls (form.call p vs gs) = refl
in_slot_calls (form.scale c v) = refl
in_slot_calls (form.sum v u) = refl
in_slot_calls (form.difference v u) = refl
in_slot_calls (form.quotient c v) = refl
in_slot_calls (form.remainder c v) = refl
in_slot_calls (form.truth c) = refl

pub neither : (a b : Bool) → a ≡ false → b ≡ false → (a || b) ≡ false
neither false b h k = k
neither true b h k = cc

added_calls : (l : Bool) (v u : Value) → makes_call v ≡ false → makes_call u ≡ false → makes_call (added l v u) ≡ false
added_calls l v u h k = neither (makes_call (kept_if (l || overflows (λ x y. x +ℤ y) v u) v)) (makes_call u)
    (kept_if_calls (l || overflows (λ x y. x +ℤ y) v u) v ∙ h) k

subtracted_calls : (l : Bool) (v u : Value) → makes_call v ≡ false → makes_call u ≡ false → makes_call (subtracted l v u) ≡ false
subtracted_calls l v u h k = neither (makes_call (kept_if (l || overflows (λ x y. x -ℤ y) v u) v))
    (makes_call (kept_if (overflows_by (negsuc 0) u) u))
    (kept_if_calls (l || overflows (λ x y. x -ℤ y) v u) v ∙ h) (kept_if_calls (overflows_by (negsuc 0) u) u ∙ k)

multiplied_calls : (a b : Option ℤ) (l : Bool) (v u : Value) → makes_call v ≡ false → makes_call u ≡ false →
    makes_call (multiplied a b l v u) ≡ false
multiplied_calls (Some c) b l v u h k = kept_if_calls (overflows_by c u) u ∙ k
multiplied_calls None (Some c) l v u h k = kept_if_calls (overflows_by c v) v ∙ h
multiplied_calls None None l v u h k = added_calls l v u h k

compared_calls : (op : Op) (l : Bool) (v u : Value) → makes_call v ≡ false → makes_call u ≡ false → tests_call (compared op l v u) ≡ false
compared_calls op l v u h k = neither (makes_call (kept_if l v)) (makes_call u) (kept_if_calls l v ∙ h) k

value_by_calls : (op : Op) (a b : Option ℤ) (l : Bool) (v u : Value) (c d : Test) → makes_call v ≡ false → makes_call u ≡ false →
    tests_call c ≡ false → tests_call d ≡ false → makes_call (value_by op a b l v u c d) ≡ false
value_by_calls Add a b l v u c d h k i j = added_calls l v u h k
value_by_calls Subtract a b l v u c d h k i j = subtracted_calls l v u h k
value_by_calls Multiply a b l v u c d h k i j = multiplied_calls a b l v u h k
value_by_calls Divide a b l v u c d h k i j = in_slot_calls v ∙ h
value_by_calls Remainder a b l v u c d h k i j = in_slot_calls v ∙ h
value_by_calls Less a b l v u c d h k i j = compared_calls Less l v u h k
value_by_calls LessEqual a b l v u c d h k i j = compared_calls LessEqual l v u h k
value_by_calls Greater a b l v u c d h k i j = compared_calls Greater l v u h k
value_by_calls GreaterEqual a b l v u c d h k i j = compared_calls GreaterEqual l v u h k
value_by_calls Equal a b l v u c d h k i j = compared_calls Equal l v u h k
value_by_calls Unequal a b l v u c d h k i j = compared_calls Unequal l v u h k
value_by_calls And a b l v u c d h k i j = neither (tests_call c) (tests_call d) i j
value_by_calls Or a b l v u c d h k i j = neither (tests_call c) (tests_call d) i j

test_by_calls : (op : Op) (a b : Option ℤ) (l : Bool) (v u : Value) (c d : Test) → makes_call v ≡ false → makes_call u ≡ false →
    tests_call c ≡ false → tests_call d ≡ false → tests_call (test_by op a b l v u c d) ≡ false
test_by_calls Add a b l v u c d h k i j = neither (makes_call (added l v u)) false (added_calls l v u h k) refl
test_by_calls Subtract a b l v u c d h k i j = neither (makes_call (subtracted l v u)) false (subtracted_calls l v u h k) refl
test_by_calls Multiply a b l v u c d h k i j = neither (makes_call (multiplied a b l v u)) false (multiplied_calls a b l v u h k) refl
test_by_calls Divide a b l v u c d h k i j = neither (makes_call (in_slot v)) false (in_slot_calls v ∙ h) refl
test_by_calls Remainder a b l v u c d h k i j = neither (makes_call (in_slot v)) false (in_slot_calls v ∙ h) refl
test_by_calls Less a b l v u c d h k i j = compared_calls Less l v u h k
test_by_calls LessEqual a b l v u c d h k i j = compared_calls LessEqual l v u h k
test_by_calls Greater a b l v u c d h k i j = compared_calls Greater l v u h k
test_by_calls GreaterEqual a b l v u c d h k i j = compared_calls GreaterEqual l v u h k
test_by_calls Equal a b l v u c d h k i j = compared_calls Equal l v u h k
test_by_calls Unequal a b l v u c d h k i j = compared_calls Unequal l v u h k
test_by_calls And a b l v u c d h k i j = neither (tests_call c) (tests_call d) i j
test_by_calls Or a b l v u c d h k i j = neither (tests_call c) (tests_call d) i j

-- In a procedure whose names lie so:
module _ (L : Layout) where
  -- an expression without a call becomes a form without one
  mutual
    pub value_calls : (e : Expression) → has_call e ≡ false → makes_call (value_of L e) ≡ false
    value_calls (literal n) h = refl
    value_calls (read x) h = refl
    value_calls (read_global y) h = refl
    value_calls input h = refl
    value_calls (call p es) h = absurd cc
    value_calls (negate e) h = kept_if_calls (overflows_by (negsuc 0) (value_of L e)) (value_of L e) ∙ value_calls e h
    value_calls (not_of e) h = test_calls e h
    value_calls (binary op a b) h =
        let n = none_of (has_call a) (has_call b) h in
        value_by_calls op (constant_value a) (constant_value b) (has_call b) (value_of L a) (value_of L b) (test_of L a) (test_of L b)
        (value_calls a n.0) (value_calls b n.1) (test_calls a n.0) (test_calls b n.1)

    test_calls : (e : Expression) → has_call e ≡ false → tests_call (test_of L e) ≡ false
    test_calls (literal n) h = refl
    test_calls (read x) h = refl
    test_calls (read_global y) h = refl
    test_calls input h = refl
    test_calls (call p es) h = absurd cc
    test_calls (negate e) h =
        neither (makes_call (scaled (negsuc 0) (value_of L e))) false
        (kept_if_calls (overflows_by (negsuc 0) (value_of L e)) (value_of L e) ∙ value_calls e h) refl
    test_calls (not_of e) h = test_calls e h
    test_calls (binary op a b) h =
        let n = none_of (has_call a) (has_call b) h in
        test_by_calls op (constant_value a) (constant_value b) (has_call b) (value_of L a) (value_of L b) (test_of L a) (test_of L b)
        (value_calls a n.0) (value_calls b n.1) (test_calls a n.0) (test_calls b n.1)

  pub values_call : (es : Expressions) → have_call es ≡ false → make_call (values_of L es) ≡ false
  values_call no_expressions h = refl
  values_call (expression e es) h =
      let n = none_of (has_call e) (have_call es) h in
      neither (makes_call (in_slot (kept_if (have_call es) (value_of L e)))) (make_call (values_of L es))
      (in_slot_calls (kept_if (have_call es) (value_of L e)) ∙ kept_if_calls (have_call es) (value_of L e) ∙ value_calls e n.0)
      (values_call es n.1)
