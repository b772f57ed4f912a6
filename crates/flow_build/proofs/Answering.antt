-- From what calls ensure to what is asked of expressions.
use Rattle.std.proofs.Common.{◌≡◌, ℕ, Box, Global, Bool, true, false, not, ◌||◌, ◌&&◌, ℤ, pos, negsuc, ◌-ℤ◌, ◌*ℤ◌, IsTrue, Ok, Err, IfOk, OnOk, refl, sym, ap, ◌∙◌, subst, List, [], ◌∷◌, length, get_or, take, drop, ◌-◌, ◌≤◌, arith}
use Rattle.std.specs.Prelude.{Result, Some}
use Rattle.c_tree.specs.Constants.{constant_value}
use Rattle.std.proofs.lemmas.Int.{ints}
use Rattle.c_tree.specs.declared.tree.Op.{Op}
use Rattle.c_tree.specs.declared.tree.Op.TheVariants.{Add, Subtract, Multiply, Divide, Remainder, Less, LessEqual, Greater, GreaterEqual, Equal, Unequal, And, Or}
use Rattle.c_tree.specs.declared.tree.Expr.{Expr}
use Rattle.c_tree.specs.declared.tree.Expr.{Not, Binary}
use Rattle.c_tree.specs.declared.tree.Expr.TheVariants.{Literal, Read, ReadGlobal, Input, Call', Negate', Not', Binary'}
use Rattle.c_tree.specs.View.{expression_of}
use Rattle.c_tree.specs.Syntax.{Expression}
use Rattle.c_tree.specs.Meaning.{is_value}
use Rattle.c_tree.specs.Operators.{is_arithmetic, is_division}
use Rattle.flow_build.specs.declared.layout.Layout.{Layout}
use Rattle.flow_build.specs.declared.operand.Operand.{Operand}
use Rattle.flow_build.specs.declared.operand.Operand.TheVariants.{Variable, Constant}
use Rattle.flow_build.specs.steps.Forms.{Value}
use Rattle.flow_build.specs.steps.Forms as form
use Rattle.flow_build.specs.steps.Translation.{has_call, in_slot, kept_if, divisor_of, overflows, nonzero, value_of, test_of}
use Rattle.flow_build.specs.steps.Operands.{is_operand, constant_of, overflows_in_place}
use Rattle.flow_build.specs.steps.Building.{is_operand_landed, copied_operand, operand_where}
use Rattle.flow_build.specs.steps.Lowering.{operand_at}
use Rattle.flow_build.specs.steps.Additions.{binary_value, binary_test}

pub if_ok : {A E : Type 0} (r : Result A E) (G : A → Type 0) → ((v : A) → r ≡ Ok v → G v) → IfOk r G
if_ok (Ok v) G f = f v refl
if_ok (Err e) G f = tt

pub if_at : {A E : Type 0} (r : Result A E) (v : A) (P : A → Type 0) → r ≡ Ok v → IfOk r P → P v
if_at {A} {E} r v P e h = let S : Result A E → Type 0 = λ r. IfOk r P in subst S e h

pub on_ok : {A E : Type 0} (r : Result A E) (G : Type 0) → ((v : A) → r ≡ Ok v → G) → OnOk r G
on_ok (Ok v) G f = f v refl
on_ok (Err e) G f = tt

pub on_at : {A E : Type 0} (r : Result A E) (v : A) (P : Type 0) → r ≡ Ok v → OnOk r P → P
on_at {A} {E} r v P e h = let S : Result A E → Type 0 = λ r. OnOk r P in subst S e h

module _ (L : Layout) (a b : Expression) where
  pub value_is_truth : (op : Op) → is_arithmetic op ≡ false → is_division op ≡ false → binary_value L op a b
      ≡ form.truth (binary_test L op a b)
  value_is_truth Add h k = absurd cc
  value_is_truth Subtract h k = absurd cc
  value_is_truth Multiply h k = absurd cc
  value_is_truth Divide h k = absurd cc
  value_is_truth Remainder h k = absurd cc
  value_is_truth Less h k = refl
  value_is_truth LessEqual h k = refl
  value_is_truth Greater h k = refl
  value_is_truth GreaterEqual h k = refl
  value_is_truth Equal h k = refl
  value_is_truth Unequal h k = refl
  value_is_truth And h k = refl
  value_is_truth Or h k = refl

  pub test_is_nonzero : (op : Op) → (is_arithmetic op || is_division op) ≡ true → binary_test L op a b ≡ nonzero (binary_value L op a b)
  test_is_nonzero Add h = refl
  test_is_nonzero Subtract h = refl
  test_is_nonzero Multiply h = refl
  test_is_nonzero Divide h = refl
  test_is_nonzero Remainder h = refl
  test_is_nonzero Less h = absurd cc
  test_is_nonzero LessEqual h = absurd cc
  test_is_nonzero Greater h = absurd cc
  test_is_nonzero GreaterEqual h = absurd cc
  test_is_nonzero Equal h = absurd cc
  test_is_nonzero Unequal h = absurd cc
  test_is_nonzero And h = absurd cc
  test_is_nonzero Or h = absurd cc

  pub test_is_compared : (op : Op) → is_arithmetic op ≡ false → is_division op ≡ false → (op ≡ And → ⊥) → (op ≡ Or → ⊥) →
      binary_test L op a b ≡ form.compare op (kept_if (has_call b) (value_of L a)) (value_of L b)
  test_is_compared Add h k n m = absurd cc
  test_is_compared Subtract h k n m = absurd cc
  test_is_compared Multiply h k n m = absurd cc
  test_is_compared Divide h k n m = absurd cc
  test_is_compared Remainder h k n m = absurd cc
  test_is_compared Less h k n m = refl
  test_is_compared LessEqual h k n m = refl
  test_is_compared Greater h k n m = refl
  test_is_compared GreaterEqual h k n m = refl
  test_is_compared Equal h k n m = refl
  test_is_compared Unequal h k n m = refl
  test_is_compared And h k n m = absurd (n refl)
  test_is_compared Or h k n m = absurd (m refl)

  pub value_is_quotient : (op : Op) → is_division op ≡ true → (op ≡ Remainder → ⊥) → (x : ℤ) → constant_value b ≡ Some x →
      binary_value L op a b ≡ form.quotient x (in_slot (value_of L a))
  value_is_quotient Add h n x e = absurd cc
  value_is_quotient Subtract h n x e = absurd cc
  value_is_quotient Multiply h n x e = absurd cc
  value_is_quotient Divide h n x e = ap (λ o. form.quotient (divisor_of o) (in_slot (value_of L a))) e
  value_is_quotient Remainder h n x e = absurd (n refl)
  value_is_quotient Less h n x e = absurd cc
  value_is_quotient LessEqual h n x e = absurd cc
  value_is_quotient Greater h n x e = absurd cc
  value_is_quotient GreaterEqual h n x e = absurd cc
  value_is_quotient Equal h n x e = absurd cc
  value_is_quotient Unequal h n x e = absurd cc
  value_is_quotient And h n x e = absurd cc
  value_is_quotient Or h n x e = absurd cc

  pub value_is_remainder : (x : ℤ) → constant_value b ≡ Some x → binary_value L Remainder a b ≡ form.remainder x (in_slot (value_of L a))
  value_is_remainder x e = ap (λ o. form.remainder (divisor_of o) (in_slot (value_of L a))) e

pub left_true : (a b : Bool) → a ≡ true → (a || b) ≡ true
left_true true b h = refl
left_true false b h = cc

pub right_true : (a b : Bool) → b ≡ true → (a || b) ≡ true
right_true true b h = refl
right_true false b h = h

pub or_false : (b : Bool) → (b || false) ≡ b
or_false true = refl
or_false false = refl

pub not_false : (b : Bool) → not b ≡ false → b ≡ true
not_false true h = refl
not_false false h = cc

-- the test of an expression of the other kinds
pub other_test : (L : Layout) (e : Expr) → ((x : Box Expr Global) → e ≡ Not x → ⊥) → ((o : Op) (x y : Box Expr Global) → e ≡ Binary o x y →
    ⊥) →
    test_of L (expression_of e) ≡ nonzero (value_of L (expression_of e))
other_test L (Literal n) f g = refl
other_test L (Read x) f g = refl
other_test L (ReadGlobal y) f g = refl
other_test L Input f g = refl
other_test L (Call' p shape all) f g = refl
other_test L (Negate' p e) f g = refl
other_test L (Not' p e) f g = absurd (f (record { ptr = p.ptr; alloc = p.alloc; value = e }) refl)
other_test L (Binary' o p i q j) f g = absurd (g o (record { ptr = p.ptr; alloc = p.alloc; value = i })
    (record { ptr = q.ptr; alloc = q.alloc; value = j }) refl)

pub first_and_rest : (es : List Expr) (x : Expr) → 1 ≤ length es → x ≡ get_or es 0 x → es ≡ x ∷ take (length es - 1) (drop 1 es)
first_and_rest [] x few h = absurd (omega arith)
first_and_rest (e ∷ es) x few h =
    let n : length es ≡ length (e ∷ es) - 1 = omega arith in
    let same : e ≡ x = sym h in
    ap (λ l. e ∷ l) (sym (take_all es)) ∙ ap (λ k. e ∷ take k es) n ∙ ap (λ y. y ∷ take (length (e ∷ es) - 1) es) same
  where
    take_all : (l : List Expr) → take (length l) l ≡ l
    take_all [] = refl
    take_all (x ∷ l) = ap (λ r. x ∷ r) (take_all l)

-- Literals of both sides that are in place

constant_form : (v : Value) (t : ℕ) (n : ℤ) → operand_at v t ≡ Constant n → v ≡ form.literal false n
constant_form (form.literal false m) t n h = let e : m ≡ n = cc in ap (λ x. form.literal false x) e
constant_form (form.literal true m) t n h = absurd cc
constant_form (form.read false x) t n h = absurd cc
constant_form (form.read true x) t n h = absurd cc
constant_form form.input t n h = absurd cc
constant_form (form.call p vs gs) t n h = absurd cc
constant_form (form.scale c v) t n h = absurd cc
constant_form (form.sum v u) t n h = absurd cc
constant_form (form.difference v u) t n h = absurd cc
constant_form (form.quotient d v) t n h = absurd cc
constant_form (form.remainder d v) t n h = absurd cc
constant_form (form.truth c) t n h = absurd cc

not_kept : (k : Bool) (v : Value) (n : ℤ) → kept_if k v ≡ form.literal false n → (k ≡ false) × (v ≡ form.literal false n)
not_kept false v n h = (refl, h)
not_kept true (form.literal k m) n h = absurd cc
not_kept true (form.read k x) n h = absurd cc
not_kept true form.input n h = absurd cc
not_kept true (form.call p vs gs) n h = absurd cc
not_kept true (form.scale c v) n h = absurd cc
not_kept true (form.sum v u) n h = absurd cc
not_kept true (form.difference v u) n h = absurd cc
not_kept true (form.quotient d v) n h = absurd cc
not_kept true (form.remainder d v) n h = absurd cc
not_kept true (form.truth c) n h = absurd cc

right_false : (a b : Bool) → (a || b) ≡ false → b ≡ false
right_false false b h = h
right_false true b h = cc

pub literal_of : (k : Bool) (u : Value) (r : ℕ) (b : Operand) → b ≡ operand_at (kept_if k u) r → (m : ℤ) → b ≡ Constant m →
    u ≡ form.literal false m
literal_of k u r b e m h = (not_kept k u m (constant_form (kept_if k u) r m (sym e ∙ h))).1

-- The constant of an operation of both operands is a value.
module _ (f : ℤ → ℤ → ℤ) (right_zero : (n : ℤ) → f n (pos 0) ≡ n) where
  pub operation_fits : (later : Bool) (v u : Value) (t : ℕ) (a b : Operand) → a ≡ operand_at (kept_if (later || overflows f v u) v) t →
      ((m : ℤ) → b ≡ Constant m → u ≡ form.literal false m) → IsTrue (is_operand a) →
      IsTrue (is_value (f (pos 0) (constant_of b))) → IsTrue (is_value (f (constant_of a) (constant_of b)))
  operation_fits later v u t (Variable x) b ea eb ha hb = hb
  operation_fits later v u t (Constant n) (Variable y) ea eb ha hb = let P : ℤ → Type 0 = λ z. IsTrue (is_value z) in
      subst P (sym (right_zero n)) ha
  operation_fits later v u t (Constant n) (Constant m) ea eb ha hb =
      let k = not_kept (later || overflows f v u) v n (constant_form (kept_if (later || overflows f v u) v) t n (sym ea)) in
      let w = eb m refl in
      let P : Value → Type 0 = λ x. overflows f x u ≡ false in
      let Q : Value → Type 0 = λ x. overflows f (form.literal false n) x ≡ false in
      not_false (is_value (f n m)) (subst Q w (subst P k.1 (right_false later (overflows f v u) k.0)))

-- The negative of a right side that is kept where it has none is a value.
pub negated_fits : (node slot : ℕ) (a : Operand) (p : Bool) → IsTrue (is_operand_landed a p) →
    IsTrue (is_value
    (pos 0 -ℤ constant_of (copied_operand (overflows_in_place (negsuc 0) a)
    (record { node = node; operand = a; slot = slot; in_place = p }))))
negated_fits node slot (Variable x) p h = refl
negated_fits node slot (Constant n) false h = absurd cc
negated_fits node slot (Constant n) true h = on (is_value (negsuc 0 *ℤ n)) refl
  where
    on : (b : Bool) → is_value (negsuc 0 *ℤ n) ≡ b →
        IsTrue (is_value
        (pos 0 -ℤ constant_of (operand_where (not b && true) (record { node = node; operand = Constant n; slot = slot; in_place = true }))))
    on true e = let same : negsuc 0 *ℤ n ≡ pos 0 -ℤ n = omega (arith, ints) in let P : ℤ → Type 0 = λ z. IsTrue (is_value z) in
        subst P same e
    on false e = refl
