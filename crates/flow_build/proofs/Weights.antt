-- Counts of forms: by how much a truth, a comparison, a conjunction and a division count, where each other form counts 1.
use Rattle.std.proofs.Common.{◌≡◌, ℕ, ◌+◌, ◌*◌, ◌≤◌, Bool, true, false, ◌||◌, Option, None, Some, ℤ, negsuc, refl, ap, arith}
use Rattle.c_tree.specs.declared.tree.Op.{Op}
use Rattle.c_tree.specs.declared.tree.Op.TheVariants.{Add, Subtract, Multiply, Divide, Remainder, Less, LessEqual, Greater, GreaterEqual, Equal, Unequal, And, Or}
use Rattle.c_tree.specs.Syntax.{Expression, literal, read, read_global, input, call, negate, not as not_of, binary, Expressions, no_expressions, expression}
use Rattle.c_tree.specs.WellFormed.{nodes, nodes_all}
use Rattle.std.specs.Prelude.{◌+ℤ◌, ◌-ℤ◌}
use Rattle.flow_build.specs.declared.layout.Layout.{Layout}
use Rattle.flow_build.specs.steps.Forms.{Value, Values, no_values, value, Test, compare, opposite, both, either}
use Rattle.flow_build.specs.steps.Forms as form
use Rattle.c_tree.specs.Constants.{constant_value}
use Rattle.flow_build.specs.steps.Translation.{has_call, have_call, kept, kept_if, in_slot, overflows_by, scaled, overflows, added, subtracted, multiplied, value_by, test_by, value_of, values_of, test_of}
use Rattle.flow_build.specs.steps.Lowering.{slots_of, slots_of_all, slots_of_test}

pub some_nodes : (e : Expression) → 1 ≤ nodes e
some_nodes (literal n) = omega arith
some_nodes (read x) = omega arith
some_nodes (read_global y) = omega arith
some_nodes input = omega arith
some_nodes (call p es) = omega arith
some_nodes (negate e) = omega arith
some_nodes (not_of e) = omega arith
some_nodes (binary op a b) = omega arith

module _ (of_truth of_compare of_both of_division : ℕ) where
  abbrev mutual
    pub weight : Value → ℕ
    weight (form.literal false n) = 0
    weight (form.literal true n) = 1
    weight (form.read false x) = 0
    weight (form.read true x) = 1
    weight form.input = 1
    weight (form.call p vs gs) = 1 + weight_all vs
    weight (form.scale c v) = 1 + weight v
    weight (form.sum v u) = 1 + weight v + weight u
    weight (form.difference v u) = 1 + weight v + weight u
    weight (form.quotient c v) = of_division + weight v
    weight (form.remainder c v) = of_division + weight v
    weight (form.truth c) = of_truth + weight_test c

    pub weight_all : Values → ℕ
    weight_all no_values = 0
    weight_all (value v vs) = weight v + weight_all vs

    pub weight_test : Test → ℕ
    weight_test (compare op v u) = of_compare + weight v + weight u
    weight_test (opposite c) = weight_test c
    weight_test (both c d) = of_both + weight_test c + weight_test d
    weight_test (either c d) = of_both + weight_test c + weight_test d

  -- Each node of an expression counts for k at most.
  module _ (L : Layout) (k : ℕ) (some : 1 ≤ k) (truths : of_truth + of_compare ≤ k) (zeros : 1 + of_compare ≤ k)
      (pairs : of_truth + of_both ≤ k) (divisions : of_division + of_compare ≤ k + k) where
    kept_few : (v : Value) (n : ℕ) → 1 ≤ n → weight v ≤ n → weight (kept v) ≤ n
    kept_few (form.literal b z) n h w = h
    kept_few (form.read b x) n h w = h
    kept_few form.input n h w = w
    kept_few (form.call p vs gs) n h w = w
    kept_few (form.scale c v) n h w = w
    kept_few (form.sum v u) n h w = w
    kept_few (form.difference v u) n h w = w
    kept_few (form.quotient c v) n h w = w
    kept_few (form.remainder c v) n h w = w
    kept_few (form.truth c) n h w = w

    pub kept_if_few : (b : Bool) (v : Value) (n : ℕ) → 1 ≤ n → weight v ≤ n → weight (kept_if b v) ≤ n
    kept_if_few true v n h w = kept_few v n h w
    kept_if_few false v n h w = w

    pub in_slot_few : (v : Value) (n : ℕ) → 1 ≤ n → weight v ≤ n → weight (in_slot v) ≤ n
    in_slot_few (form.literal b z) n h w = h
    in_slot_few (form.read b x) n h w = w
    in_slot_few form.input n h w = w
    in_slot_few (form.call p vs gs) n h w = w
    in_slot_few (form.scale c v) n h w = w
    in_slot_few (form.sum v u) n h w = w
    in_slot_few (form.difference v u) n h w = w
    in_slot_few (form.quotient c v) n h w = w
    in_slot_few (form.remainder c v) n h w = w
    in_slot_few (form.truth c) n h w = w

    scaled_few : (c : ℤ) (v : Value) (n : ℕ) → 1 ≤ n → weight v ≤ n → weight (scaled c v) ≤ 1 + n
    scaled_few c v n h w = let a = kept_if_few (overflows_by c v) v n h w in omega (arith, a)

    module _ (v u : Value) (n m : ℕ) (i : 1 ≤ n) (j : k ≤ m) (h : weight v ≤ n) (w : weight u ≤ m) where
      added_few : (l : Bool) → weight (added l v u) ≤ 1 + n + m
      added_few l = let a = kept_if_few (l || overflows (λ x y. x +ℤ y) v u) v n i h in omega (arith, a)

      subtracted_few : (l : Bool) → weight (subtracted l v u) ≤ 1 + n + m
      subtracted_few l =
          let a = kept_if_few (l || overflows (λ x y. x -ℤ y) v u) v n i h in
          let b = kept_if_few (overflows_by (negsuc 0) u) u m (omega arith) w in
          omega (arith, a, b)

      multiplied_few : (a b : Option ℤ) (l : Bool) → weight (multiplied a b l v u) ≤ 1 + n + m
      multiplied_few (Some c) b l = let s = scaled_few c u m (omega arith) w in omega (arith, s)
      multiplied_few None (Some c) l = let s = scaled_few c v n i h in omega (arith, s)
      multiplied_few None None l = added_few l

      module _ (c d : Test) (p : weight_test c ≤ n) (q : weight_test d ≤ m) (a b : Option ℤ) (l : Bool) where
        compared_few : (op : Op) → weight_test (compare op (kept_if l v) u) ≤ of_compare + n + m
        compared_few op = let s = kept_if_few l v n i h in omega (arith, s)

        value_few : (op : Op) → weight (value_by op a b l v u c d) ≤ k + n + m
        value_few Add = let s = added_few l in omega (arith, s)
        value_few Subtract = let s = subtracted_few l in omega (arith, s)
        value_few Multiply = let s = multiplied_few a b l in omega (arith, s)
        value_few Divide = let s = in_slot_few v n i h in omega (arith, s)
        value_few Remainder = let s = in_slot_few v n i h in omega (arith, s)
        value_few Less = let s = compared_few Less in omega (arith, s)
        value_few LessEqual = let s = compared_few LessEqual in omega (arith, s)
        value_few Greater = let s = compared_few Greater in omega (arith, s)
        value_few GreaterEqual = let s = compared_few GreaterEqual in omega (arith, s)
        value_few Equal = let s = compared_few Equal in omega (arith, s)
        value_few Unequal = let s = compared_few Unequal in omega (arith, s)
        value_few And = omega arith
        value_few Or = omega arith

        test_few : (op : Op) → weight_test (test_by op a b l v u c d) ≤ k + n + m
        test_few Add = let s = added_few l in omega (arith, s)
        test_few Subtract = let s = subtracted_few l in omega (arith, s)
        test_few Multiply = let s = multiplied_few a b l in omega (arith, s)
        test_few Divide = let s = in_slot_few v n i h in omega (arith, s)
        test_few Remainder = let s = in_slot_few v n i h in omega (arith, s)
        test_few Less = let s = compared_few Less in omega (arith, s)
        test_few LessEqual = let s = compared_few LessEqual in omega (arith, s)
        test_few Greater = let s = compared_few Greater in omega (arith, s)
        test_few GreaterEqual = let s = compared_few GreaterEqual in omega (arith, s)
        test_few Equal = let s = compared_few Equal in omega (arith, s)
        test_few Unequal = let s = compared_few Unequal in omega (arith, s)
        test_few And = omega arith
        test_few Or = omega arith

    pub some_times : (e : Expression) → 1 ≤ k * nodes e
    some_times e = let h = some_nodes e in grind (arith, h)

    enough_times : (e : Expression) → k ≤ k * nodes e
    enough_times e = let h = some_nodes e in grind (arith, h)

    mutual
      pub few_value : (e : Expression) → weight (value_of L e) ≤ k * nodes e
      few_value (literal n) = omega arith
      few_value (read x) = omega arith
      few_value (read_global y) = omega arith
      few_value input = omega arith
      few_value (call p es) = let h = few_values es in omega (arith, h)
      few_value (negate e) = let h = scaled_few (negsuc 0) (value_of L e) (k * nodes e) (some_times e) (few_value e) in omega (arith, h)
      few_value (not_of e) = let h = few_test e in omega (arith, h)
      few_value (binary op a b) =
          let h = value_few (value_of L a) (value_of L b) (k * nodes a) (k * nodes b) (some_times a) (enough_times b) (few_value a)
          (few_value b)
          (test_of L a) (test_of L b) (few_test a) (few_test b) (constant_value a) (constant_value b) (has_call b) op in
          omega (arith, h)

      pub few_values : (es : Expressions) → weight_all (values_of L es) ≤ k * nodes_all es
      few_values no_expressions = omega arith
      few_values (expression e es) =
          let v = kept_if (have_call es) (value_of L e) in
          let h = in_slot_few v (k * nodes e) (some_times e) (kept_if_few (have_call es) (value_of L e) (k * nodes e) (some_times e)
          (few_value e))
          in
          let i = few_values es in
          omega (arith, h, i)

      pub few_test : (e : Expression) → weight_test (test_of L e) ≤ k * nodes e
      few_test (literal n) = omega arith
      few_test (read x) = omega arith
      few_test (read_global y) = omega arith
      few_test input = omega arith
      few_test (call p es) = let h = few_values es in omega (arith, h)
      few_test (negate e) = let h = scaled_few (negsuc 0) (value_of L e) (k * nodes e) (some_times e) (few_value e) in omega (arith, h)
      few_test (not_of e) = let h = few_test e in omega (arith, h)
      few_test (binary op a b) =
          let h = test_few (value_of L a) (value_of L b) (k * nodes a) (k * nodes b) (some_times a) (enough_times b) (few_value a)
          (few_value b)
          (test_of L a) (test_of L b) (few_test a) (few_test b) (constant_value a) (constant_value b) (has_call b) op in
          omega (arith, h)

    pub few_result : (e : Expression) → weight (in_slot (value_of L e)) ≤ k * nodes e
    few_result e = in_slot_few (value_of L e) (k * nodes e) (some_times e) (few_value e)

-- The slots that a form takes.
mutual
  pub slots_weigh : (v : Value) → slots_of v ≡ weight 1 0 0 1 v
  slots_weigh (form.literal false n) = refl
  slots_weigh (form.literal true n) = refl
  slots_weigh (form.read false x) = refl
  slots_weigh (form.read true x) = refl
  slots_weigh form.input = refl
  slots_weigh (form.call p vs gs) = ap (λ n. 1 + n) (slots_weigh_all vs)
  slots_weigh (form.scale c v) = ap (λ n. 1 + n) (slots_weigh v)
  slots_weigh (form.sum v u) = let a = slots_weigh v in let b = slots_weigh u in omega (arith, a, b)
  slots_weigh (form.difference v u) = let a = slots_weigh v in let b = slots_weigh u in omega (arith, a, b)
  slots_weigh (form.quotient c v) = ap (λ n. 1 + n) (slots_weigh v)
  slots_weigh (form.remainder c v) = ap (λ n. 1 + n) (slots_weigh v)
  slots_weigh (form.truth c) = ap (λ n. 1 + n) (slots_weigh_test c)

  pub slots_weigh_all : (vs : Values) → slots_of_all vs ≡ weight_all 1 0 0 1 vs
  slots_weigh_all no_values = refl
  slots_weigh_all (value v vs) = let a = slots_weigh v in let b = slots_weigh_all vs in omega (arith, a, b)

  pub slots_weigh_test : (c : Test) → slots_of_test c ≡ weight_test 1 0 0 1 c
  slots_weigh_test (compare op v u) = let a = slots_weigh v in let b = slots_weigh u in omega (arith, a, b)
  slots_weigh_test (opposite c) = slots_weigh_test c
  slots_weigh_test (both c d) = let a = slots_weigh_test c in let b = slots_weigh_test d in omega (arith, a, b)
  slots_weigh_test (either c d) = let a = slots_weigh_test c in let b = slots_weigh_test d in omega (arith, a, b)
