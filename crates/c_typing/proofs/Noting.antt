-- What was found, one part of a tree after another.
use Rattle.std.proofs.Common.{◌≡◌, ℕ, ◌+◌, ◌<◌, ◌≤◌, Bool, ◌&&◌, ◌||◌, not as not_bool, List, [], ◌∷◌, ◌++◌, length, drop, get_or, Option, refl, ap, sym, ◌∙◌, arith, append_assoc}
use Rattle.std.proofs.lemmas.List.{append-nil, at_drop_more, at_drop_all}
use Rattle.c_tree.specs.declared.tree.Pos.{Pos}
use Rattle.c_tree.specs.declared.syntax_tree.ExprTree.{ExprTree}
use Rattle.c_tree.specs.declared.tree.Op.{Op}
use Rattle.c_typing.specs.declared.fault.TypeFault.TheVariants.{NotLinear, BadDivisor}
use Rattle.c_tree.specs.Operators.{is_division, is_product}
use Rattle.c_tree.specs.SourceTree.{Identifier, binary}
use Rattle.c_tree.specs.SourceView.{tree_of, trees_of}
use Rattle.c_typing.specs.Scope.{FileScope, Scope, callee_of, if_assert, asserts_of, asserts_of_all}
use Rattle.c_typing.specs.Faults.{Fault, fault_if, callee_faults, name_faults, is_constant, operator_faults, expression_faults, arguments_faults, argument_count}
use Rattle.c_typing.specs.steps.Least.{least_from}
use Rattle.c_typing.specs.steps.Tables.{Noted, noted, places_of}
use Rattle.c_typing.proofs.Least.{least-append, least-swap}
use Rattle.c_typing.specs.declared.check.side.Side.{Side}
use Rattle.c_typing.specs.steps.Sides.{side_of, is_constant_side, is_divisor_side}
use Rattle.c_typing.proofs.Sides.{constant_known, told_of_operator}

places-append : (xs ys : List Identifier) → places_of (xs ++ ys) ≡ places_of xs ++ places_of ys
places-append [] ys = refl
places-append (x ∷ xs) ys = ap (λ r. x.at ∷ r) (places-append xs ys)

made : Option Fault → List Pos → List Pos → Noted
made b d a = record { best = b; declared = d; asserts = a }

three : (b c : Option Fault) (d e : List Pos) (a f : List Pos) → b ≡ c → d ≡ e → a ≡ f → made b d a ≡ made c e f
three b c d e a f p q r = ap (λ x. made x d a) p ∙ ap (λ x. made c x a) q ∙ ap (λ x. made c e x) r

pub noted-append : (n : Noted) (fs gs : List Fault) (ns ms : List Identifier) (as_ bs : List Pos) → noted (noted n fs ns as_) gs ms bs
    ≡ noted n (fs ++ gs) (ns ++ ms) (as_ ++ bs)
unfolding made
noted-append n fs gs ns ms as_ bs =
    three (least_from (least_from n.best fs) gs) (least_from n.best (fs ++ gs)) ((n.declared ++ places_of ns) ++ places_of ms)
    (n.declared ++ places_of (ns ++ ms)) ((n.asserts ++ as_) ++ bs) (n.asserts ++ (as_ ++ bs))
    (sym (least-append n.best fs gs))
    (append_assoc n.declared (places_of ns) (places_of ms) ∙ ap (λ r. n.declared ++ r) (sym (places-append ns ms)))
    (append_assoc n.asserts as_ bs)

pub noted-nil : (n : Noted) → noted n [] [] [] ≡ n
unfolding made
noted-nil n = three n.best n.best (n.declared ++ []) n.declared (n.asserts ++ []) n.asserts refl (append-nil n.declared)
    (append-nil n.asserts)

pub noted-swap : (n : Noted) (fs gs : List Fault) (ns : List Identifier) (as_ : List Pos) → noted n (fs ++ gs) ns as_ ≡ noted n (gs ++ fs)
    ns as_
unfolding made
noted-swap n fs gs ns as_ = ap (λ b. made b (n.declared ++ places_of ns) (n.asserts ++ as_)) (least-swap n.best fs gs)

-- two parts one after another
pub noted_two : (n n1 n2 : Noted) (fs gs : List Fault) (ns ms : List Identifier) (as_ bs : List Pos) → n1 ≡ noted n fs ns as_ →
    n2 ≡ noted n1 gs ms bs → n2 ≡ noted n (fs ++ gs) (ns ++ ms) (as_ ++ bs)
noted_two n n1 n2 fs gs ns ms as_ bs p q = q ∙ ap (λ m. noted m gs ms bs) p ∙ noted-append n fs gs ns ms as_ bs

-- a product is reported after its operands
pub noted_product : (n n1 n2 n3 : Noted) (fs gs hs : List Fault) (as_ bs : List Pos) → n1 ≡ noted n fs [] as_ → n2 ≡ noted n1 gs [] bs →
    n3 ≡ noted n2 hs [] [] → n3 ≡ noted n (hs ++ (fs ++ gs)) [] (as_ ++ bs)
noted_product n n1 n2 n3 fs gs hs as_ bs p q r =
    noted_two n n2 n3 (fs ++ gs) hs [] [] (as_ ++ bs) [] (noted_two n n1 n2 fs gs [] [] as_ bs p q) r ∙ noted-swap n (fs ++ gs) hs []
    ((as_ ++ bs) ++ []) ∙ ap (λ a. noted n (hs ++ (fs ++ gs)) [] a) (append-nil (as_ ++ bs))

pub argument_count-trees_of : (es : List ExprTree) → argument_count (trees_of es) ≡ length es
argument_count-trees_of [] = refl
argument_count-trees_of (e ∷ es) = ap (λ n. 1 + n) (argument_count-trees_of es) ∙ omega arith

module _ (file : FileScope) (ss : List Scope) where
  -- what is left of a row of arguments
  abbrev pub arguments_left : Noted → List ExprTree → Noted
  arguments_left n es = noted n (arguments_faults file ss (trees_of es)) [] (asserts_of_all (trees_of es))

  pub arguments_turn : (es : List ExprTree) (i : ℕ) (d : ExprTree) (n n1 goal : Noted) → i < length es →
      n1 ≡ noted n (expression_faults file ss (tree_of (get_or es i d))) [] (asserts_of (tree_of (get_or es i d))) →
      arguments_left n (drop i es) ≡ goal → arguments_left n1 (drop (i + 1) es) ≡ goal
  arguments_turn es i d n n1 goal less step left =
      let e = tree_of (get_or es i d) in
      let rest = trees_of (drop (i + 1) es) in
      ap (λ m. arguments_left m (drop (i + 1) es)) step ∙ noted-append n (expression_faults file ss e) (arguments_faults file ss rest) [] []
      (asserts_of e) (asserts_of_all rest) ∙ sym (at_drop_more (arguments_left n) es i d less) ∙ left

  pub arguments_end : (es : List ExprTree) (i : ℕ) (n goal : Noted) → length es ≤ i → arguments_left n (drop i es) ≡ goal → n ≡ goal
  arguments_end es i n goal past left = sym (noted-nil n) ∙ sym (at_drop_all (arguments_left n) es i past) ∙ left

pub binary_noted : (file : FileScope) (ss : List Scope) (n n1 n2 n3 : Noted) (o : Op) (at : Pos) (x y x' y' : ExprTree)
    (sx sy : Side) →
    x' ≡ x → y' ≡ y →
    n1 ≡ noted n (expression_faults file ss (tree_of x')) [] (asserts_of (tree_of x')) →
    n2 ≡ noted n1 (expression_faults file ss (tree_of y'))
    [] (asserts_of (tree_of y')) → sx ≡ side_of file ss (tree_of x') → sy ≡ side_of file ss (tree_of y') →
    n3 ≡ noted n2 (fault_if (is_product o && not_bool (is_constant_side sx || is_constant_side sy)) NotLinear at
    ++ fault_if (is_division o && not_bool (is_divisor_side sy)) BadDivisor at) [] [] →
    n3 ≡ noted n (expression_faults file ss (binary o at (tree_of x) (tree_of y))) [] (asserts_of (tree_of x) ++ asserts_of (tree_of y))
binary_noted file ss n n1 n2 n3 o at x y x' y' sx sy ex ey h1 h2 hx hy h3 =
    let left = hx ∙ ap (λ e. side_of file ss (tree_of e)) ex in
    let right = hy ∙ ap (λ e. side_of file ss (tree_of e)) ey in
    let constant = ap (λ b. b || is_constant_side sy) (constant_known file ss (tree_of x) sx left)
    ∙ ap (λ b. is_constant (tree_of x) || b) (constant_known file ss (tree_of y) sy right) in
    noted_product n n1 n2 n3 (expression_faults file ss (tree_of x)) (expression_faults file ss (tree_of y))
    (operator_faults file ss o at (is_constant (tree_of x) || is_constant (tree_of y)) (tree_of y)) (asserts_of (tree_of x))
    (asserts_of (tree_of y))
    (h1 ∙ ap (λ e. noted n (expression_faults file ss (tree_of e)) [] (asserts_of (tree_of e))) ex)
    (h2 ∙ ap (λ e. noted n1 (expression_faults file ss (tree_of e)) [] (asserts_of (tree_of e))) ey)
    (h3 ∙ ap (λ f. noted n2 f [] []) (told_of_operator file ss o at (is_constant (tree_of x) || is_constant (tree_of y)) (tree_of y)
    (is_constant_side sx || is_constant_side sy) sy constant right))

pub call_noted : (file : FileScope) (ss : List Scope) (n n1 n2 : Noted) (called : Identifier) (es es' : List ExprTree) (k : ℕ)
    (used : Bool) → k ≡ length es → es' ≡ es →
    n1 ≡ noted n (callee_faults (callee_of file.procedures called.name) called k used) [] (if_assert called) →
    n2 ≡ noted n1 (arguments_faults file ss (trees_of es')) [] (asserts_of_all (trees_of es')) →
    n2 ≡ noted n (callee_faults (callee_of file.procedures called.name) called (argument_count (trees_of es)) used ++ arguments_faults file
    ss
    (trees_of es))
    [] (if_assert called ++ asserts_of_all (trees_of es))
call_noted file ss n n1 n2 called es es' k used count same h1 h2 =
    noted_two n n1 n2 (callee_faults (callee_of file.procedures called.name) called (argument_count (trees_of es)) used)
    (arguments_faults file ss (trees_of es)) [] [] (if_assert called) (asserts_of_all (trees_of es))
    (h1 ∙ ap (λ c. noted n (callee_faults (callee_of file.procedures called.name) called c used) [] (if_assert called))
    (count ∙ sym (argument_count-trees_of es)))
    (h2 ∙ ap (λ r. noted n1 (arguments_faults file ss (trees_of r)) [] (asserts_of_all (trees_of r))) same)

pub change_noted : (file : FileScope) (ss : List Scope) (n n1 n2 n3 : Noted) (o : Op) (at : Pos) (named : Identifier) (x : ExprTree)
    (s : Side) →
    n1 ≡ noted n (name_faults file ss named) [] [] → n2 ≡ noted n1 (expression_faults file ss (tree_of x)) [] (asserts_of (tree_of x)) →
    s ≡ side_of file ss (tree_of x) →
    n3 ≡ noted n2 (fault_if (is_product o && not_bool (is_constant_side s)) NotLinear at
    ++ fault_if (is_division o && not_bool (is_divisor_side s)) BadDivisor at) [] [] →
    n3 ≡ noted n (name_faults file ss named ++ (operator_faults file ss o at (is_constant (tree_of x)) (tree_of x) ++ expression_faults
    file ss (tree_of x))) [] (asserts_of (tree_of x))
change_noted file ss n n1 n2 n3 o at named x s h1 h2 hs h3 =
    let told = operator_faults file ss o at (is_constant (tree_of x)) (tree_of x) in
    let ef = expression_faults file ss (tree_of x) in
    let last = h3 ∙ ap (λ f. noted n2 f [] []) (told_of_operator file ss o at (is_constant (tree_of x)) (tree_of x) (is_constant_side s) s
    (constant_known file ss (tree_of x) s hs) hs) in
    let both = noted_two n1 n2 n3 ef told [] [] (asserts_of (tree_of x)) [] h2 last ∙ noted-swap n1 ef told []
    (asserts_of (tree_of x) ++ [])
    ∙ ap (λ a. noted n1 (told ++ ef) [] a) (append-nil (asserts_of (tree_of x))) in
    noted_two n n1 n3 (name_faults file ss named) (told ++ ef) [] [] [] (asserts_of (tree_of x)) h1 both
