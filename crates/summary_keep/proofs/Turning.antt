-- Bodies that are the same are so the other way round, and their assertions stand at the same places.
use Rattle.std.proofs.Common.{◌≡◌, ℕ, zero, suc, ◌+◌, List, [], ◌∷◌, ◌++◌, length, Bool, Option, Some, None, refl, sym, ◌∙◌, subst, ap, length-append, arith}
use Rattle.std.specs.Prelude.{slice_get}
use Rattle.std.proofs.lemmas.Option.{same_Some, none-some}
use Rattle.c_tree.specs.Syntax.{Expression, literal, read, read_global, input, call, negate, not as not_of, binary, Expressions, no_expressions, expression, Statement, block, set, set_global, ignore, assume, assert, if_else, loop, do_while, break, continue, return, Statements, no_statements, statement}
use Rattle.c_tree.specs.WellFormed.{asserted_by, asserted_in}
use Rattle.summary_keep.specs.Bodies.{SameExpression, SameExpressions, SameOptional, SameStatement, SameStatements}

-- The other way round
module _ (R : ℕ → ℕ → Bool) (A : ℕ → ℕ → Type 0) where
  abbrev back : ℕ → ℕ → Bool
  back j i = R i j

  abbrev behind : ℕ → ℕ → Type 0
  behind b a = A a b

  mutual
    turn_expression : (e y : Expression) → SameExpression R A e y → SameExpression back behind y e
    turn_expression (literal n) y h = subst (λ z. SameExpression back behind z (literal n)) (sym h) refl
    turn_expression (read x) y h = subst (λ z. SameExpression back behind z (read x)) (sym h) refl
    turn_expression (read_global x) y h = subst (λ z. SameExpression back behind z (read_global x)) (sym h) refl
    turn_expression input y h = subst (λ z. SameExpression back behind z input) (sym h) refl
    turn_expression (call p es) y h = subst (λ z. SameExpression back behind z (call p es)) (sym h.4)
        (p, es, h.2, turn_expressions es h.1 h.3, refl)
    turn_expression (negate e) y h = subst (λ z. SameExpression back behind z (negate e)) (sym h.2) (e, turn_expression e h.0 h.1, refl)
    turn_expression (not_of e) y h = subst (λ z. SameExpression back behind z (not_of e)) (sym h.2) (e, turn_expression e h.0 h.1, refl)
    turn_expression (binary op a b) y h = subst (λ z. SameExpression back behind z (binary op a b)) (sym h.4)
        (a, b, turn_expression a h.0 h.2, turn_expression b h.1 h.3, refl)

    turn_expressions : (es ys : Expressions) → SameExpressions R A es ys → SameExpressions back behind ys es
    turn_expressions no_expressions ys h = subst (λ z. SameExpressions back behind z no_expressions) (sym h) refl
    turn_expressions (expression e es) ys h = subst (λ z. SameExpressions back behind z (expression e es)) (sym h.4)
        (e, es, turn_expression e h.0 h.2, turn_expressions es h.1 h.3, refl)

  turn_optional : (o y : Option Expression) → SameOptional R A o y → SameOptional back behind y o
  turn_optional None y h = subst (λ z. SameOptional back behind z None) (sym h) refl
  turn_optional (Some e) y h = subst (λ z. SameOptional back behind z (Some e)) (sym h.2) (e, turn_expression e h.0 h.1, refl)

  mutual
    turn_statement : (a y : Statement) → SameStatement R A a y → SameStatement back behind y a
    turn_statement (block ss) y h = subst (λ z. SameStatement back behind z (block ss)) (sym h.2) (ss, turn_statements ss h.0 h.1, refl)
    turn_statement (set x e) y h = subst (λ z. SameStatement back behind z (set x e)) (sym h.2) (e, turn_expression e h.0 h.1, refl)
    turn_statement (set_global x e) y h = subst (λ z. SameStatement back behind z (set_global x e)) (sym h.2) (
      e,
      turn_expression e h.0 h.1,
      refl,
    )
    turn_statement (ignore e) y h = subst (λ z. SameStatement back behind z (ignore e)) (sym h.2) (e, turn_expression e h.0 h.1, refl)
    turn_statement (assume e) y h = subst (λ z. SameStatement back behind z (assume e)) (sym h.2) (e, turn_expression e h.0 h.1, refl)
    turn_statement (assert i e) y h = subst (λ z. SameStatement back behind z (assert i e)) (sym h.4)
        (i, e, h.2, turn_expression e h.1 h.3, refl)
    turn_statement (if_else e a b) y h = subst (λ z. SameStatement back behind z (if_else e a b)) (sym h.6)
        (e, a, b, turn_expression e h.0 h.3, turn_statement a h.1 h.4, turn_statement b h.2 h.5, refl)
    turn_statement (loop e p b) y h = subst (λ z. SameStatement back behind z (loop e p b)) (sym h.6)
        (e, p, b, turn_expression e h.0 h.3, turn_statement p h.1 h.4, turn_statement b h.2 h.5, refl)
    turn_statement (do_while a e) y h = subst (λ z. SameStatement back behind z (do_while a e)) (sym h.4)
        (a, e, turn_statement a h.0 h.2, turn_expression e h.1 h.3, refl)
    turn_statement break y h = subst (λ z. SameStatement back behind z break) (sym h) refl
    turn_statement continue y h = subst (λ z. SameStatement back behind z continue) (sym h) refl
    turn_statement (return o) y h = subst (λ z. SameStatement back behind z (return o)) (sym h.2) (o, turn_optional o h.0 h.1, refl)

    pub turn_statements : (ss ys : Statements) → SameStatements R A ss ys → SameStatements back behind ys ss
    turn_statements no_statements ys h = subst (λ z. SameStatements back behind z no_statements) (sym h) refl
    turn_statements (statement a ss) ys h = subst (λ z. SameStatements back behind z (statement a ss)) (sym h.4)
        (a, ss, turn_statement a h.0 h.2, turn_statements ss h.1 h.3, refl)

-- As many assertions
both : (xs xs' ys ys' : List ℕ) → length xs ≡ length xs' → length ys ≡ length ys' → length (xs ++ ys) ≡ length (xs' ++ ys')
both xs xs' ys ys' h k = length-append xs ys ∙ (ap (λ n. n + length ys) h ∙ (ap (λ n. length xs' + n) k ∙ sym (length-append xs' ys')))

module _ (R : ℕ → ℕ → Bool) (A : ℕ → ℕ → Type 0) where
  mutual
    as_many_by : (a y : Statement) → SameStatement R A a y → length (asserted_by a) ≡ length (asserted_by y)
    as_many_by (block ss) y h = rw h.2 (as_many_in ss h.0 h.1)
    as_many_by (set x e) y h = rw h.2 refl
    as_many_by (set_global x e) y h = rw h.2 refl
    as_many_by (ignore e) y h = rw h.2 refl
    as_many_by (assume e) y h = rw h.2 refl
    as_many_by (assert i e) y h = rw h.4 refl
    as_many_by (if_else e a b) y h = rw h.6 (both (asserted_by a) (asserted_by h.1) (asserted_by b) (asserted_by h.2) (as_many_by a h.1 h.4)
        (as_many_by b h.2 h.5))
    as_many_by (loop e p b) y h = rw h.6 (both (asserted_by p) (asserted_by h.1) (asserted_by b) (asserted_by h.2) (as_many_by p h.1 h.4)
        (as_many_by b h.2 h.5))
    as_many_by (do_while a e) y h = rw h.4 (as_many_by a h.0 h.2)
    as_many_by break y h = rw h refl
    as_many_by continue y h = rw h refl
    as_many_by (return o) y h = rw h.2 refl

    pub as_many_in : (ss ys : Statements) → SameStatements R A ss ys → length (asserted_in ss) ≡ length (asserted_in ys)
    as_many_in no_statements ys h = rw h refl
    as_many_in (statement a ss) ys h = rw h.4 (both (asserted_by a) (asserted_by h.0) (asserted_in ss) (asserted_in h.1)
        (as_many_by a h.0 h.2) (as_many_in ss h.1 h.3))

-- What stands at one place of both lists is in the relation.
pub record Places (A : ℕ → ℕ → Type 0) (xs ys : List ℕ) : Type 0 where
  pub at : (k a b : ℕ) → slice_get xs k ≡ Some a → slice_get ys k ≡ Some b → A a b

module _ (A : ℕ → ℕ → Type 0) where
  first_there : (x x' : ℕ) (xs xs' : List ℕ) → A x x' → Places A xs xs' → Places A (x ∷ xs) (x' ∷ xs')
  first_there x x' xs xs' here h = record { at = at } where
    at : (k a b : ℕ) → slice_get (x ∷ xs) k ≡ Some a → slice_get (x' ∷ xs') k ≡ Some b → A a b
    at zero a b e f = subst (λ n. A n b) (same_Some x a e) (subst (A x) (same_Some x' b f) here)
    at (suc k) a b e f = h.at k a b e f

  fronts : (xs xs' ys ys' : List ℕ) → length xs ≡ length xs' → Places A (xs ++ ys) (xs' ++ ys') → Places A xs xs' × Places A ys ys'
  fronts [] [] ys ys' l h = (record { at = λ k a b e f. absurd (none-some a e) }, h)
  fronts [] (x' ∷ xs') ys ys' l h = absurd (omega (arith, l))
  fronts (x ∷ xs) [] ys ys' l h = absurd (omega (arith, l))
  fronts (x ∷ xs) (x' ∷ xs') ys ys' l h =
      let r = fronts xs xs' ys ys' (omega (arith, l)) (record { at = λ k a b e f. h.at (suc k) a b e f }) in
      (first_there x x' xs xs' (h.at zero x x' refl refl) r.0, r.1)

-- so assertions are related that stand at one place of bodies that are the same
module _ (R : ℕ → ℕ → Bool) (A B : ℕ → ℕ → Type 0) where
  mutual
    place_expression : (e y : Expression) → SameExpression R B e y → SameExpression R A e y
    place_expression (literal n) y h = h
    place_expression (read x) y h = h
    place_expression (read_global x) y h = h
    place_expression input y h = h
    place_expression (call p es) y h = (h.0, h.1, h.2, place_expressions es h.1 h.3, h.4)
    place_expression (negate e) y h = (h.0, place_expression e h.0 h.1, h.2)
    place_expression (not_of e) y h = (h.0, place_expression e h.0 h.1, h.2)
    place_expression (binary op a b) y h = (h.0, h.1, place_expression a h.0 h.2, place_expression b h.1 h.3, h.4)

    place_expressions : (es ys : Expressions) → SameExpressions R B es ys → SameExpressions R A es ys
    place_expressions no_expressions ys h = h
    place_expressions (expression e es) ys h = (h.0, h.1, place_expression e h.0 h.2, place_expressions es h.1 h.3, h.4)

  place_optional : (o y : Option Expression) → SameOptional R B o y → SameOptional R A o y
  place_optional None y h = h
  place_optional (Some e) y h = (h.0, place_expression e h.0 h.1, h.2)

  abbrev there : Statement → Statement → Type 0
  there a y = Places A (asserted_by a) (asserted_by y)

  abbrev all_there : Statements → Statements → Type 0
  all_there a y = Places A (asserted_in a) (asserted_in y)

  mutual
    place_statement : (a y : Statement) → SameStatement R B a y → there a y → SameStatement R A a y
    place_statement (block ss) y h t = (h.0, place_statements ss h.0 h.1 (subst (there (block ss)) h.2 t), h.2)
    place_statement (set x e) y h t = (h.0, place_expression e h.0 h.1, h.2)
    place_statement (set_global x e) y h t = (h.0, place_expression e h.0 h.1, h.2)
    place_statement (ignore e) y h t = (h.0, place_expression e h.0 h.1, h.2)
    place_statement (assume e) y h t = (h.0, place_expression e h.0 h.1, h.2)
    place_statement (assert i e) y h t =
        (h.0, h.1, (subst (there (assert i e)) h.4 t).at zero i h.0 refl refl, place_expression e h.1 h.3, h.4)
    place_statement (if_else e a b) y h t =
        let f = fronts A (asserted_by a) (asserted_by h.1) (asserted_by b) (asserted_by h.2) (as_many_by R B a h.1 h.4)
        (subst (there (if_else e a b)) h.6 t) in
        (h.0, h.1, h.2, place_expression e h.0 h.3, place_statement a h.1 h.4 f.0, place_statement b h.2 h.5 f.1, h.6)
    place_statement (loop e p b) y h t =
        let f = fronts A (asserted_by p) (asserted_by h.1) (asserted_by b) (asserted_by h.2) (as_many_by R B p h.1 h.4)
        (subst (there (loop e p b)) h.6 t) in
        (h.0, h.1, h.2, place_expression e h.0 h.3, place_statement p h.1 h.4 f.0, place_statement b h.2 h.5 f.1, h.6)
    place_statement (do_while a e) y h t =
        (h.0, h.1, place_statement a h.0 h.2 (subst (there (do_while a e)) h.4 t), place_expression e h.1 h.3, h.4)
    place_statement break y h t = h
    place_statement continue y h t = h
    place_statement (return o) y h t = (h.0, place_optional o h.0 h.1, h.2)

    pub place_statements : (ss ys : Statements) → SameStatements R B ss ys → all_there ss ys → SameStatements R A ss ys
    place_statements no_statements ys h t = h
    place_statements (statement a ss) ys h t =
        let f = fronts A (asserted_by a) (asserted_by h.0) (asserted_in ss) (asserted_in h.1) (as_many_by R B a h.0 h.2)
        (subst (all_there (statement a ss)) h.4 t) in
        (h.0, h.1, place_statement a h.0 h.2 f.0, place_statements ss h.1 h.3 f.1, h.4)
