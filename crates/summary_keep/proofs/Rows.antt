-- Lists of the code, compared expression by expression.
use Rattle.std.proofs.Common.{◌≡◌, ◌↔◌, ℕ, suc, ◌-◌, ◌<◌, ◌≤◌, ◌==◌, List, [], ◌∷◌, length, take, drop, get_or, Bool, true, false, refl, sym, ap, ◌∙◌, subst, arith, IsTrue}
use Rattle.std.proofs.lemmas.List.{take_all}
use borrow.Author.Tests.{ne_eqb}
use Rattle.c_tree.specs.declared.tree.Expr.{Expr}
use Rattle.c_tree.specs.declared.tree.Stmt.{Stmt}
use Rattle.c_tree.specs.Syntax.{Expression, literal, read, read_global, input, call, negate, not as not_of, binary, Expressions, no_expressions, expression, Statement, block, set, set_global, ignore, assume, assert, if_else, loop, do_while, break, continue, return, Statements, no_statements, statement}
use Rattle.c_tree.specs.View.{expression_of, expressions_of, statement_of, statements_of}
use Rattle.c_tree.specs.WellFormed.{nodes, statement_nodes}
use Rattle.summary_keep.specs.Bodies.{SameExpression, SameExpressions, SameStatement, SameStatements}
use Rattle.summary_keep.specs.Matching.{Any}

pub first_rest : {X : Type 0} (xs : List X) (x : X) → 1 ≤ length xs → x ≡ get_or xs 0 x → xs ≡ x ∷ take (length xs - 1) (drop 1 xs)
first_rest [] x few h = absurd (omega (arith, few))
first_rest (e ∷ es) x few h =
    let n : length (e ∷ es) - 1 ≡ length es = omega arith in
    ap (λ y. y ∷ es) (sym h) ∙ ap (λ l. x ∷ l) (sym (ap (λ k. take k es) n ∙ take_all (length es) es (omega arith)))

pub none_left : {X : Type 0} (xs : List X) → length xs < 1 → xs ≡ []
none_left [] few = refl
none_left (x ∷ xs) few = absurd (omega (arith, few))

pub some_nodes : (e : Expression) → 1 ≤ nodes e
some_nodes (literal n) = omega arith
some_nodes (read x) = omega arith
some_nodes (read_global x) = omega arith
some_nodes input = omega arith
some_nodes (call p es) = omega arith
some_nodes (negate e) = omega arith
some_nodes (not_of e) = omega arith
some_nodes (binary op a b) = omega arith

module _ (R : ℕ → ℕ → Bool) where
  call_parts : (p q : ℕ) (es fs : Expressions) → call p es ≡ call q fs → es ≡ fs
  call_parts p q es fs e = cc

  -- two calls of related procedures
  pub calls_same : (p q : ℕ) (es fs : Expressions) (b : Bool) → IsTrue (R p q) → (IsTrue b ↔ SameExpressions R Any es fs) →
      (IsTrue b ↔ SameExpression R Any (call p es) (call q fs))
  calls_same p q es fs b related h = (
    λ k. (q, fs, related, h.0 k, refl),
    λ k. h.1 (subst (SameExpressions R Any es) (sym (call_parts q k.0 fs k.1 k.4)) k.3),
  )

  -- two lists that are not empty
  pub lists_same : (e f : Expression) (es fs : Expressions) (b c : Bool) → (IsTrue b ↔ SameExpression R Any e f) →
      (IsTrue c ↔ SameExpressions R Any es fs) →
      (SameExpressions R Any (expression e es) (expression f fs) → IsTrue b × IsTrue c)
      × (IsTrue b → IsTrue c → SameExpressions R Any (expression e es) (expression f fs))
  lists_same e f es fs b c h k = (λ s. apart s, λ i j. (f, fs, h.0 i, k.0 j, refl)) where
    apart : SameExpressions R Any (expression e es) (expression f fs) → IsTrue b × IsTrue c
    apart s =
        let heads : f ≡ s.0 = (let q : expression f fs ≡ expression s.0 s.1 = s.4 in cc) in
        let tails : fs ≡ s.1 = (let q : expression f fs ≡ expression s.0 s.1 = s.4 in cc) in
        (h.1 (subst (SameExpression R Any e) (sym heads) s.2), k.1 (subst (SameExpressions R Any es) (sym tails) s.3))

  -- a list against an empty one
  pub empty_same : (olds news : List Expr) (b : Bool) → length olds < 1 → b ≡ (length news == 0) →
      (IsTrue b ↔ SameExpressions R Any (expressions_of olds) (expressions_of news))
  empty_same [] [] b few e = (λ h. refl, λ h. e)
  empty_same [] (f ∷ news) b few e =
      let none : b ≡ false = e ∙ not_zero (length news) in (
        λ h. absurd (let clash : true ≡ false = sym h ∙ none in cc),
        λ h. absurd (let clash : expression (expression_of f) (expressions_of news) ≡ no_expressions = h in cc),
      ) where
        not_zero : (n : ℕ) → (suc n == 0) ≡ false
        not_zero n = ne_eqb (suc n) 0 (λ e. omega (arith, e))
  empty_same (x ∷ olds) news b few e = absurd (omega (arith, few))

pub some_statement_nodes : (a : Statement) → 1 ≤ statement_nodes a
some_statement_nodes (block ss) = omega arith
some_statement_nodes (set x e) = omega arith
some_statement_nodes (set_global x e) = omega arith
some_statement_nodes (ignore e) = omega arith
some_statement_nodes (assume e) = omega arith
some_statement_nodes (assert i e) = omega arith
some_statement_nodes (if_else e a b) = omega arith
some_statement_nodes (loop e p b) = omega arith
some_statement_nodes (do_while a e) = omega arith
some_statement_nodes break = omega arith
some_statement_nodes continue = omega arith
some_statement_nodes (return o) = omega arith

module _ (R : ℕ → ℕ → Bool) where
  block_parts : (ss ts : Statements) → block ss ≡ block ts → ss ≡ ts
  block_parts ss ts e = cc

  pub blocks_same : (ss ts : Statements) (b : Bool) → (IsTrue b ↔ SameStatements R Any ss ts) →
      (IsTrue b ↔ SameStatement R Any (block ss) (block ts))
  blocks_same ss ts b h = (
    λ k. (ts, h.0 k, refl),
    λ k. h.1 (subst (SameStatements R Any ss) (sym (block_parts ts k.0 k.2)) k.1),
  )

  pub empty_body : (olds news : List Stmt) (b : Bool) → length olds < 1 → b ≡ (length news == 0) →
      (IsTrue b ↔ SameStatements R Any (statements_of olds) (statements_of news))
  empty_body [] [] b few e = (λ h. refl, λ h. e)
  empty_body [] (f ∷ news) b few e =
      let none : b ≡ false = e ∙ not_zero (length news) in (
        λ h. absurd (let clash : true ≡ false = sym h ∙ none in cc),
        λ h. absurd (let clash : statement (statement_of f) (statements_of news)
            ≡ no_statements = h in cc),
      ) where
        not_zero : (n : ℕ) → (suc n == 0) ≡ false
        not_zero n = ne_eqb (suc n) 0 (λ e. omega (arith, e))
  empty_body (x ∷ olds) news b few e = absurd (omega (arith, few))
