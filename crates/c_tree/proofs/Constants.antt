-- A constant expression has the value known before the run, or it stops.
use Rattle.std.proofs.Common.{◌≡◌, Bool, true, false, ◌&&◌, Option, None, Some, ℤ, ◌+ℤ◌, ◌-ℤ◌, ◌*ℤ◌, neg_ℤ, refl, subst}
use Rattle.std.specs.Prelude.{option_and_then, if◌then◌else◌}
use Rattle.c_tree.specs.declared.tree.Op.{Op}
use Rattle.c_tree.specs.declared.tree.Op.TheVariants.{Add, Subtract, Multiply, Divide, Remainder, Less, LessEqual, Greater, GreaterEqual, Equal, Unequal, And, Or}
use Rattle.c_tree.specs.Syntax.{Expression, literal, read, read_global, input, call, negate, not as not_of, binary}
use Rattle.c_tree.specs.Meaning.{State, Progress, goes, ends, stopped, Relation, Gives, Ends, Onward, Then, Choice, ExactOrStopped, Applied, Callee, is_value, Eval}
use Rattle.c_tree.specs.WellFormed.{is_constant}
use Rattle.c_tree.specs.Operators.{is_arithmetic, exact, operation}
use Rattle.c_tree.specs.Constants.{operation_of, negation_of, constant_value, Known}
use Rattle.c_tree.proofs.Sameness.{Same, itself, through, then_same, first_same, gives_then, Never}

module _ (C : Callee) where
  abbrev E : Expression → State → Relation ℤ
  E = Eval false C

  exact_constant : (z : ℤ) → Same (ExactOrStopped z) (Known (exact z))
  exact_constant z = on (is_value z)
    where
      on : (b : Bool) → Same (Choice b (Gives z) (Ends stopped)) (Known (if b then Some z else None))
      on true = itself (Gives z)
      on false = itself (Ends stopped)

  ends_then : {A : Type 0} (Q : ℤ → Relation A) → Same (Then (Ends stopped) Q) (Ends stopped)
  ends_then {A} Q = record {
    there = λ w o h. let S : Progress ℤ → Type 0 = λ r. Onward Q r o in subst S h.1 h.2;
    back = λ w o h. (ends w stopped, refl, h);
  }

  constant_then : (x : Option ℤ) (Q : ℤ → Relation ℤ) (f : ℤ → Option ℤ) → ((z : ℤ) → Same (Q z) (Known (f z))) →
      Same (Then (Known x) Q) (Known (option_and_then f x))
  constant_then (Some c) Q f h = through (Then (Gives c) Q) (Q c) (Known (f c)) (gives_then c Q) (h c)
  constant_then None Q f h = ends_then Q

  operated : (op : Op) → is_arithmetic op ≡ true → (x y : ℤ) → Same (Applied op x y) (Known (operation op x y))
  operated Add h x y = exact_constant (x +ℤ y)
  operated Subtract h x y = exact_constant (x -ℤ y)
  operated Multiply h x y = exact_constant (x *ℤ y)
  operated Divide h x y = absurd cc
  operated Remainder h x y = absurd cc
  operated Less h x y = absurd cc
  operated LessEqual h x y = absurd cc
  operated Greater h x y = absurd cc
  operated GreaterEqual h x y = absurd cc
  operated Equal h x y = absurd cc
  operated Unequal h x y = absurd cc
  operated And h x y = absurd cc
  operated Or h x y = absurd cc

  -- an operation whose right side is always evaluated
  plain_binary : (op : Op) → is_arithmetic op ≡ true → (a b : Expression) (s : State) → Same (E (binary op a b) s)
      (Then (E a s) (λ x. Then (E b s) (Applied op x)))
  plain_binary Add h a b s = itself (E (binary Add a b) s)
  plain_binary Subtract h a b s = itself (E (binary Subtract a b) s)
  plain_binary Multiply h a b s = itself (E (binary Multiply a b) s)
  plain_binary Divide h a b s = absurd cc
  plain_binary Remainder h a b s = absurd cc
  plain_binary Less h a b s = absurd cc
  plain_binary LessEqual h a b s = absurd cc
  plain_binary Greater h a b s = absurd cc
  plain_binary GreaterEqual h a b s = absurd cc
  plain_binary Equal h a b s = absurd cc
  plain_binary Unequal h a b s = absurd cc
  plain_binary And h a b s = absurd cc
  plain_binary Or h a b s = absurd cc

  both_constant : (op : Op) (x y : Option ℤ) → option_and_then (λ u. option_and_then (operation op u) y) x ≡ operation_of op x y
  both_constant op (Some x) (Some y) = refl
  both_constant op (Some x) None = refl
  both_constant op None (Some y) = refl
  both_constant op None None = refl

  negated : (x : Option ℤ) → option_and_then (λ z. exact (neg_ℤ z)) x ≡ negation_of x
  negated (Some x) = refl
  negated None = refl

  and_left : (a b : Bool) → (a && b) ≡ true → a ≡ true
  and_left true b h = refl
  and_left false b h = cc

  and_right : (a b : Bool) → (a && b) ≡ true → b ≡ true
  and_right true b h = h
  and_right false b h = cc

  pub constant_same : (e : Expression) (s : State) → is_constant e ≡ true → Same (E e s) (Known (constant_value e))
  constant_same (literal n) s h = itself (Gives n)
  constant_same (read x) s h = absurd cc
  constant_same (read_global y) s h = absurd cc
  constant_same input s h = absurd cc
  constant_same (call p es) s h = absurd cc
  constant_same (negate e) s h =
      let S : Option ℤ → Type 0 = λ z. Same (E (negate e) s) (Known z) in
      subst S (negated (constant_value e))
      (through (E (negate e) s) (Then (Known (constant_value e)) (λ v. ExactOrStopped (neg_ℤ v)))
      (Known (option_and_then (λ z. exact (neg_ℤ z)) (constant_value e)))
      (first_same (E e s) (Known (constant_value e)) (λ v. ExactOrStopped (neg_ℤ v)) (constant_same e s h))
      (constant_then (constant_value e) (λ v. ExactOrStopped (neg_ℤ v)) (λ z. exact (neg_ℤ z)) (λ z. exact_constant (neg_ℤ z))))
  constant_same (not_of e) s h = absurd cc
  constant_same (binary op a b) s h =
      let ab = and_left (is_arithmetic op && is_constant a) (is_constant b) h in
      let arithmetic = and_left (is_arithmetic op) (is_constant a) ab in
      let x = constant_value a in
      let y = constant_value b in
      let S : Option ℤ → Type 0 = λ z. Same (E (binary op a b) s) (Known z) in
      subst S (both_constant op x y)
      (through (E (binary op a b) s) (Then (E a s) (λ u. Then (E b s) (Applied op u)))
      (Known (option_and_then (λ u. option_and_then (operation op u) y) x))
      (plain_binary op arithmetic a b s)
      (through (Then (E a s) (λ u. Then (E b s) (Applied op u))) (Then (Known x) (λ u. Then (Known y) (Applied op u)))
      (Known (option_and_then (λ u. option_and_then (operation op u) y) x))
      (then_same (E a s) (Known x) (λ u. Then (E b s) (Applied op u)) (λ u. Then (Known y) (Applied op u))
      (constant_same a s (and_right (is_arithmetic op) (is_constant a) ab))
      (λ u. first_same (E b s) (Known y) (Applied op u)
      (constant_same b s (and_right (is_arithmetic op && is_constant a) (is_constant b) h))))
      (constant_then x (λ u. Then (Known y) (Applied op u)) (λ u. option_and_then (operation op u) y)
      (λ u. constant_then y (Applied op u) (operation op u) (operated op arithmetic u)))))

  some_of_negation : (x : Option ℤ) (c : ℤ) → negation_of x ≡ Some c → (z : ℤ) × (x ≡ Some z)
  some_of_negation (Some z) c h = (z, refl)
  some_of_negation None c h = absurd cc

  some_of_operation : (op : Op) (x y : Option ℤ) (c : ℤ) → operation_of op x y ≡ Some c → (z u : ℤ) × (x ≡ Some z) × (y ≡ Some u)
      × (operation op z u ≡ Some c)
  some_of_operation op (Some z) (Some u) c h = (z, u, refl, refl, h)
  some_of_operation op (Some z) None c h = absurd cc
  some_of_operation op None (Some u) c h = absurd cc
  some_of_operation op None None c h = absurd cc

  arithmetic_of : (op : Op) (z u c : ℤ) → operation op z u ≡ Some c → is_arithmetic op ≡ true
  arithmetic_of Add z u c h = refl
  arithmetic_of Subtract z u c h = refl
  arithmetic_of Multiply z u c h = refl
  arithmetic_of Divide z u c h = absurd cc
  arithmetic_of Remainder z u c h = absurd cc
  arithmetic_of Less z u c h = absurd cc
  arithmetic_of LessEqual z u c h = absurd cc
  arithmetic_of Greater z u c h = absurd cc
  arithmetic_of GreaterEqual z u c h = absurd cc
  arithmetic_of Equal z u c h = absurd cc
  arithmetic_of Unequal z u c h = absurd cc
  arithmetic_of And z u c h = absurd cc
  arithmetic_of Or z u c h = absurd cc

  all_three : (a b c : Bool) → a ≡ true → b ≡ true → c ≡ true → (a && b && c) ≡ true
  all_three true true true h k l = refl
  all_three true true false h k l = cc
  all_three true false c h k l = cc
  all_three false b c h k l = cc

  -- a value that is known is a constant's
  pub value_constant : (e : Expression) (c : ℤ) → constant_value e ≡ Some c → is_constant e ≡ true
  value_constant (literal n) c h = refl
  value_constant (read x) c h = absurd cc
  value_constant (read_global y) c h = absurd cc
  value_constant input c h = absurd cc
  value_constant (call p es) c h = absurd cc
  value_constant (negate e) c h = let z = some_of_negation (constant_value e) c h in value_constant e z.0 z.1
  value_constant (not_of e) c h = absurd cc
  value_constant (binary op a b) c h =
      let z = some_of_operation op (constant_value a) (constant_value b) c h in
      all_three (is_arithmetic op) (is_constant a) (is_constant b) (arithmetic_of op z.0 z.1 c z.4) (value_constant a z.0 z.2)
      (value_constant b z.1 z.3)

  pub known_same : (e : Expression) (s : State) (c : ℤ) → constant_value e ≡ Some c → Same (E e s) (Gives c)
  known_same e s c h = let S : Option ℤ → Type 0 = λ x. Same (E e s) (Known x) in subst S h (constant_same e s (value_constant e c h))

  -- a constant without a value stops
  pub unknown_never : (e : Expression) (s : State) → is_constant e ≡ true → constant_value e ≡ None → Never (E e s)
  unknown_never e s h k =
      let S : Option ℤ → Type 0 = λ x. Same (E e s) (Known x) in
      let stops = subst S k (constant_same e s h) in
      record { never = λ w w1 v p. let q : goes w1 v ≡ ends w stopped = stops.there w (goes w1 v) p in cc }
