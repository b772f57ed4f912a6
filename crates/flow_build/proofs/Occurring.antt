-- The multiples, divisors and calls of forms are those of their expressions.
use Rattle.std.proofs.Common.{◌≡◌, ℕ, ◌+◌, Bool, true, false, ◌||◌, ◌&&◌, ◌==◌, List, ◌++◌, Option, None, Some, ℤ, pos, negsuc, ◌+ℤ◌, ◌-ℤ◌, IsTrue, refl, sym, ap, arith}
use Rattle.std.specs.Prelude.{Contains}
use Rattle.std.proofs.lemmas.Bool.{eq-eqb}
use Rattle.std.proofs.lemmas.List.Elements.{Contains-append_left, Contains-append_right}
use Rattle.c_tree.specs.declared.tree.Op.{Op}
use Rattle.c_tree.specs.declared.tree.Op.TheVariants.{Add, Subtract, Multiply, Divide, Remainder, Less, LessEqual, Greater, GreaterEqual, Equal, Unequal, And, Or}
use Rattle.c_tree.specs.Syntax.{Expression, literal, read, read_global, input, call, negate, not as not_of, binary, Expressions, no_expressions, expression}
use Rattle.c_tree.specs.WellFormed.{count}
use Rattle.flow_build.specs.declared.layout.Layout.{Layout}
use Rattle.flow_build.specs.steps.Forms.{Value, Values, no_values, value, Test, compare, opposite, both, either}
use Rattle.flow_build.specs.steps.Forms as form
use Rattle.c_tree.specs.Constants.{constant_value}
use Rattle.flow_build.specs.steps.Translation.{divisor_of, has_call, have_call, kept, kept_if, in_slot, overflows_by, scaled, overflows, added, subtracted, multiplied, value_by, test_by, value_of, values_of, test_of}
use Rattle.flow_build.specs.steps.Lowering.{result_of}
use Rattle.flow_build.proofs.FormMeaning.{count_values}
use Rattle.flow_build.specs.Promises.{calls, calls_any, listed, sides, factors, factors_in, divisor_in, divisors, divisors_in}

as_many : (L : Layout) (es : Expressions) → count_values (values_of L es) ≡ count es
as_many L no_expressions = refl
as_many L (expression e es) = ap (λ n. 1 + n) (as_many L es)

pub or_left : (a b : Bool) → IsTrue a → IsTrue (a || b)
or_left true b h = refl
or_left false b h = cc

pub or_right : (a b : Bool) → IsTrue b → IsTrue (a || b)
or_right true b h = refl
or_right false b h = h

both_true : (a b : Bool) → a ≡ true → b ≡ true → (a && b) ≡ true
both_true true b h k = k
both_true false b h k = cc

-- What multiples by constants and what divisors there may be, and what procedures may be called with how many arguments:
module _ (K D : ℤ → Type 0) (C : ℕ → ℕ → Type 0) where
  abbrev mutual
    pub Keeps : Value → Type 0
    Keeps (form.literal k n) = Unit {0}
    Keeps (form.read k x) = Unit {0}
    Keeps form.input = Unit {0}
    Keeps (form.call p vs gs) = C p (count_values vs) × KeepsAll vs
    Keeps (form.scale c v) = K c × Keeps v
    Keeps (form.sum v u) = Keeps v × Keeps u
    Keeps (form.difference v u) = Keeps v × Keeps u
    Keeps (form.quotient c v) = D c × Keeps v
    Keeps (form.remainder c v) = D c × Keeps v
    Keeps (form.truth c) = KeepsTest c

    pub KeepsAll : Values → Type 0
    KeepsAll no_values = Unit {0}
    KeepsAll (value v vs) = Keeps v × KeepsAll vs

    pub KeepsTest : Test → Type 0
    KeepsTest (compare op v u) = Keeps v × Keeps u
    KeepsTest (opposite c) = KeepsTest c
    KeepsTest (both c d) = KeepsTest c × KeepsTest d
    KeepsTest (either c d) = KeepsTest c × KeepsTest d

  -- These factors, divisors and calls are among them.
  pub record Allows (fs ds : List ℤ) (called : ℕ → ℕ → Bool) : Type 0 where
    pub factor : (c : ℤ) → Contains fs c → K c
    pub divisor : (c : ℤ) → Contains ds c → D c
    pub call : (p n : ℕ) → IsTrue (called p n) → C p n

  pub allows_left : (fs gs ds es : List ℤ) (c d : ℕ → ℕ → Bool) → Allows (fs ++ gs) (ds ++ es) (λ p n. c p n || d p n) → Allows fs ds c
  allows_left fs gs ds es c d a = record {
    factor = λ x h. a.factor x (Contains-append_left fs gs x h);
    divisor = λ x h. a.divisor x (Contains-append_left ds es x h);
    call = λ p n h. a.call p n (or_left (c p n) (d p n) h);
  }

  pub allows_right : (fs gs ds es : List ℤ) (c d : ℕ → ℕ → Bool) → Allows (fs ++ gs) (ds ++ es) (λ p n. c p n || d p n) → Allows gs es d
  allows_right fs gs ds es c d a = record {
    factor = λ x h. a.factor x (Contains-append_right fs gs x h);
    divisor = λ x h. a.divisor x (Contains-append_right ds es x h);
    call = λ p n h. a.call p n (or_right (c p n) (d p n) h);
  }

  abbrev pub AllowsOf : Expression → Type 0
  AllowsOf e = Allows (factors e) (divisors e) (λ p n. calls p n e)

  abbrev pub AllowsIn : Expressions → Type 0
  AllowsIn es = Allows (factors_in es) (divisors_in es) (λ p n. calls_any p n es)

  kept_keeps : (v : Value) → Keeps v → Keeps (kept v)
  kept_keeps (form.literal k n) h = h
  kept_keeps (form.read k x) h = h
  kept_keeps form.input h = h
  kept_keeps (form.call p vs gs) h = h
  kept_keeps (form.scale c v) h = h
  kept_keeps (form.sum v u) h = h
  kept_keeps (form.difference v u) h = h
  kept_keeps (form.quotient c v) h = h
  kept_keeps (form.remainder c v) h = h
  kept_keeps (form.truth c) h = h

  kept_if_keeps : (b : Bool) (v : Value) → Keeps v → Keeps (kept_if b v)
  kept_if_keeps true v h = kept_keeps v h
  kept_if_keeps false v h = h

  in_slot_keeps : (v : Value) → Keeps v → Keeps (in_slot v)
  in_slot_keeps (form.literal k n) h = h
  in_slot_keeps (form.read k x) h = h
  in_slot_keeps form.input h = h
  in_slot_keeps (form.call p vs gs) h = h
  in_slot_keeps (form.scale c v) h = h
  in_slot_keeps (form.sum v u) h = h
  in_slot_keeps (form.difference v u) h = h
  in_slot_keeps (form.quotient c v) h = h
  in_slot_keeps (form.remainder c v) h = h
  in_slot_keeps (form.truth c) h = h

  scaled_keeps : (c : ℤ) (v : Value) → K c → Keeps v → Keeps (scaled c v)
  scaled_keeps c v k h = (k, kept_if_keeps (overflows_by c v) v h)

  -- an element of the constants that are there
  first_listed : (c : ℤ) (b : Option ℤ) → Contains (listed (Some c) ++ listed b) c
  first_listed c b = (0, omega arith, refl)

  second_listed : (c : ℤ) → Contains (listed None ++ listed (Some c)) c
  second_listed c = (0, omega arith, refl)

  only_listed : (c : ℤ) → Contains (listed (Some c)) c
  only_listed c = (0, omega arith, refl)

  module _ (v u : Value) (h : Keeps v) (k : Keeps u) where
    added_keeps : (l : Bool) → Keeps (added l v u)
    added_keeps l = (kept_if_keeps (l || overflows (λ x y. x +ℤ y) v u) v h, k)

    subtracted_keeps : (l : Bool) → Keeps (subtracted l v u)
    subtracted_keeps l = (kept_if_keeps (l || overflows (λ x y. x -ℤ y) v u) v h, kept_if_keeps (overflows_by (negsuc 0) u) u k)

    multiplied_keeps : (a b : Option ℤ) (l : Bool) → ((c : ℤ) → Contains (listed a ++ listed b) c → K c) → Keeps (multiplied a b l v u)
    multiplied_keeps (Some c) b l f = scaled_keeps c u (f c (first_listed c b)) k
    multiplied_keeps None (Some c) l f = scaled_keeps c v (f c (second_listed c)) h
    multiplied_keeps None None l f = added_keeps l

    divided : (b : Option ℤ) → D (pos 1) → ((c : ℤ) → Contains (listed b) c → D c) → D (divisor_of b)
    divided (Some c) one f = f c (only_listed c)
    divided None one f = one

    module _ (one : D (pos 1)) (a b : Expression) (c d : Test) (i : KeepsTest c) (j : KeepsTest d) (l : Bool) where
      value_by_keeps : (op : Op) → ((x : ℤ) → Contains (sides op a b) x → K x) → ((x : ℤ) → Contains (divisor_in op b) x → D x) →
          Keeps (value_by op (constant_value a) (constant_value b) l v u c d)
      value_by_keeps Add f g = added_keeps l
      value_by_keeps Subtract f g = subtracted_keeps l
      value_by_keeps Multiply f g = multiplied_keeps (constant_value a) (constant_value b) l f
      value_by_keeps Divide f g = (divided (constant_value b) one g, in_slot_keeps v h)
      value_by_keeps Remainder f g = (divided (constant_value b) one g, in_slot_keeps v h)
      value_by_keeps Less f g = (kept_if_keeps l v h, k)
      value_by_keeps LessEqual f g = (kept_if_keeps l v h, k)
      value_by_keeps Greater f g = (kept_if_keeps l v h, k)
      value_by_keeps GreaterEqual f g = (kept_if_keeps l v h, k)
      value_by_keeps Equal f g = (kept_if_keeps l v h, k)
      value_by_keeps Unequal f g = (kept_if_keeps l v h, k)
      value_by_keeps And f g = (i, j)
      value_by_keeps Or f g = (i, j)

      test_by_keeps : (op : Op) → ((x : ℤ) → Contains (sides op a b) x → K x) → ((x : ℤ) → Contains (divisor_in op b) x → D x) →
          KeepsTest (test_by op (constant_value a) (constant_value b) l v u c d)
      test_by_keeps Add f g = (added_keeps l, tt)
      test_by_keeps Subtract f g = (subtracted_keeps l, tt)
      test_by_keeps Multiply f g = (multiplied_keeps (constant_value a) (constant_value b) l f, tt)
      test_by_keeps Divide f g = ((divided (constant_value b) one g, in_slot_keeps v h), tt)
      test_by_keeps Remainder f g = ((divided (constant_value b) one g, in_slot_keeps v h), tt)
      test_by_keeps Less f g = (kept_if_keeps l v h, k)
      test_by_keeps LessEqual f g = (kept_if_keeps l v h, k)
      test_by_keeps Greater f g = (kept_if_keeps l v h, k)
      test_by_keeps GreaterEqual f g = (kept_if_keeps l v h, k)
      test_by_keeps Equal f g = (kept_if_keeps l v h, k)
      test_by_keeps Unequal f g = (kept_if_keeps l v h, k)
      test_by_keeps And f g = (i, j)
      test_by_keeps Or f g = (i, j)

  in_call : (p : ℕ) (es : Expressions) → AllowsOf (call p es) → AllowsIn es
  in_call p es a = record {
    factor = a.factor;
    divisor = a.divisor;
    call = λ q n h. a.call q n
        (or_right (p == q && count es == n) (calls_any q n es) h);
  }

  module _ (op : Op) (a b : Expression) (w : AllowsOf (binary op a b)) where
    the_sides : (x : ℤ) → Contains (sides op a b) x → K x
    the_sides x h = w.factor x (Contains-append_left (sides op a b) (factors a ++ factors b) x h)

    the_divisor : (x : ℤ) → Contains (divisor_in op b) x → D x
    the_divisor x h = w.divisor x (Contains-append_left (divisor_in op b) (divisors a ++ divisors b) x h)

    first : AllowsOf a
    first = record {
      factor = λ x h. w.factor x (Contains-append_right (sides op a b) (factors a ++ factors b) x
          (Contains-append_left (factors a) (factors b) x h));
      divisor = λ x h. w.divisor x (Contains-append_right (divisor_in op b) (divisors a ++ divisors b) x
          (Contains-append_left (divisors a) (divisors b) x h));
      call = λ p n h. w.call p n (or_left (calls p n a) (calls p n b) h);
    }

    second : AllowsOf b
    second = record {
      factor = λ x h. w.factor x (Contains-append_right (sides op a b) (factors a ++ factors b) x
          (Contains-append_right (factors a) (factors b) x h));
      divisor = λ x h. w.divisor x (Contains-append_right (divisor_in op b) (divisors a ++ divisors b) x
          (Contains-append_right (divisors a) (divisors b) x h));
      call = λ p n h. w.call p n (or_right (calls p n a) (calls p n b) h);
    }

  -- a multiple by -1 may be, and a divisor 1
  module _ (L : Layout) (minus : K (negsuc 0)) (one : D (pos 1)) where
    called : (p : ℕ) (es : Expressions) → AllowsOf (call p es) → C p (count_values (values_of L es))
    called p es a =
        let n = count_values (values_of L es) in
        a.call p n (or_left (p == p && count es == n) (calls_any p n es)
        (both_true (p == p) (count es == n) (eq-eqb p p refl) (eq-eqb (count es) n (sym (as_many L es)))))

    mutual
      pub value_keeps : (e : Expression) → AllowsOf e → Keeps (value_of L e)
      value_keeps (literal n) w = tt
      value_keeps (read x) w = tt
      value_keeps (read_global y) w = tt
      value_keeps input w = tt
      value_keeps (call p es) w = (called p es w, values_keep es (in_call p es w))
      value_keeps (negate e) w = scaled_keeps (negsuc 0) (value_of L e) minus (value_keeps e w)
      value_keeps (not_of e) w = test_keeps e w
      value_keeps (binary op a b) w =
          let x = first op a b w in
          let y = second op a b w in
          value_by_keeps (value_of L a) (value_of L b) (value_keeps a x) (value_keeps b y) one a b (test_of L a) (test_of L b)
          (test_keeps a x) (test_keeps b y) (has_call b) op (the_sides op a b w) (the_divisor op a b w)

      pub values_keep : (es : Expressions) → AllowsIn es → KeepsAll (values_of L es)
      values_keep no_expressions w = tt
      values_keep (expression e es) w =
          let v = kept_if (have_call es) (value_of L e) in
          let x = allows_left (factors e) (factors_in es) (divisors e) (divisors_in es) (λ p n. calls p n e) (λ p n. calls_any p n es) w in
          let y = allows_right (factors e) (factors_in es) (divisors e) (divisors_in es) (λ p n. calls p n e) (λ p n. calls_any p n es) w
          in
          (in_slot_keeps v (kept_if_keeps (have_call es) (value_of L e) (value_keeps e x)), values_keep es y)

      pub test_keeps : (e : Expression) → AllowsOf e → KeepsTest (test_of L e)
      test_keeps (literal n) w = (tt, tt)
      test_keeps (read x) w = (tt, tt)
      test_keeps (read_global y) w = (tt, tt)
      test_keeps input w = (tt, tt)
      test_keeps (call p es) w = ((called p es w, values_keep es (in_call p es w)), tt)
      test_keeps (negate e) w = (scaled_keeps (negsuc 0) (value_of L e) minus (value_keeps e w), tt)
      test_keeps (not_of e) w = test_keeps e w
      test_keeps (binary op a b) w =
          let x = first op a b w in
          let y = second op a b w in
          test_by_keeps (value_of L a) (value_of L b) (value_keeps a x) (value_keeps b y) one a b (test_of L a) (test_of L b)
          (test_keeps a x) (test_keeps b y) (has_call b) op (the_sides op a b w) (the_divisor op a b w)

    pub result_keeps : (e : Expression) → AllowsOf e → Keeps (result_of L e)
    result_keeps e w = in_slot_keeps (value_of L e) (value_keeps e w)
