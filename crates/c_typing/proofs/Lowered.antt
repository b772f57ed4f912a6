-- The program of a tree, one part after another.
use Rattle.std.proofs.Common.{◌≡◌, ℕ, ◌+◌, ◌^◌, ◌<◌, ◌≤◌, Bool, true, false, List, [], ◌∷◌, ◌++◌, length, drop, get_or, refl, ap, sym, ◌∙◌, arith, bytes_eq, if◌then◌else◌}
use Rattle.std.proofs.lemmas.List.{at_drop_more, at_drop_all}
use Rattle.c_tree.specs.declared.tree.Expr.{Expr}
use Rattle.c_tree.specs.declared.syntax_tree.ExprTree.{ExprTree}
use Rattle.c_tree.specs.Syntax.{Expression, Expressions, no_expressions, expression}
use Rattle.c_tree.specs.View.{expression_of, expressions_of}
use Rattle.c_tree.specs.SourceTree.{Identifier, ProcedureTree, call}
use Rattle.c_tree.specs.SourceView.{tree_of, trees_of}
use Rattle.c_typing.specs.Scope.{FileScope, Scope, Callee, input, assume, assert, defined, callee_of, defined_from, is_input, is_assume, is_assert}
use Rattle.c_typing.specs.Lowering.{lowered, lowered_all, lowered_call}
use Rattle.c_typing.specs.steps.Tables.{number_in}

defined-small : (i : ℕ) (ps : List ProcedureTree) (x : List ℕ) → number_in (defined_from i ps x) ≤ i + length ps
defined-small i [] x = omega arith
defined-small i (p ∷ ps) x = go (bytes_eq p.named.name x) (defined-small (i + 1) ps x)
  where
    go : (b : Bool) → number_in (defined_from (i + 1) ps x) ≤ i + 1 + length ps →
        number_in (if b then defined i (length p.params) p.void else defined_from (i + 1) ps x) ≤ i + length (p ∷ ps)
    go true h = omega arith
    go false h = omega arith

callee-small : (ps : List ProcedureTree) (x : List ℕ) → number_in (callee_of ps x) ≤ length ps
callee-small ps x = go (is_input x) (is_assume x) (is_assert x) (defined-small 0 ps x)
  where
    go : (a b c : Bool) → number_in (defined_from 0 ps x) ≤ 0 + length ps →
        number_in (if a then input else (if b then assume else (if c then assert else defined_from 0 ps x))) ≤ length ps
    go true b c h = omega arith
    go false true c h = omega arith
    go false false true h = omega arith
    go false false false h = omega arith

pub callee_fits : (ps : List ProcedureTree) (x : List ℕ) (c : Callee) → length ps ≤ 64 → c ≡ callee_of ps x → number_in c < 2 ^ 32
callee_fits ps x c few e = let h = callee-small ps x in let same : number_in c ≡ number_in (callee_of ps x) = ap number_in e in omega arith

abbrev pub chained : Expressions → Expressions → Expressions
chained no_expressions r = r
chained (expression x xs) r = expression x (chained xs r)

chained-nil : (es : Expressions) → chained es no_expressions ≡ es
chained-nil no_expressions = refl
chained-nil (expression x xs) = ap (expression x) (chained-nil xs)

chained-push : (es : List Expr) (e : Expr) (r : Expressions) → chained (expressions_of (es ++ e ∷ [])) r ≡ chained (expressions_of es)
    (expression (expression_of e) r)
chained-push [] e r = refl
chained-push (x ∷ xs) e r = ap (expression (expression_of x)) (chained-push xs e r)

module _ (file : FileScope) (ss : List Scope) where
  abbrev pub values_left : List Expr → List ExprTree → Expressions
  values_left out es = chained (expressions_of out) (lowered_all file ss (trees_of es))

  pub values_turn : (es : List ExprTree) (i : ℕ) (d : ExprTree) (out o1 : List Expr) (e : Expr) (goal : Expressions) → i < length es →
      o1 ≡ out ++ e ∷ [] → expression_of e ≡ lowered file ss (tree_of (get_or es i d)) → values_left out (drop i es) ≡ goal →
      values_left o1 (drop (i + 1) es) ≡ goal
  values_turn es i d out o1 e goal less push made left =
      let rest = lowered_all file ss (trees_of (drop (i + 1) es)) in
      ap (λ o. chained (expressions_of o) rest) push ∙ chained-push out e rest ∙ ap (λ x. chained (expressions_of out) (expression x rest))
      made ∙ sym (at_drop_more (values_left out) es i d less) ∙ left

  pub values_end : (es : List ExprTree) (i : ℕ) (out : List Expr) (goal : Expressions) → length es ≤ i → values_left out (drop i es)
      ≡ goal →
      expressions_of out ≡ goal
  values_end es i out goal past left = sym (chained-nil (expressions_of out)) ∙ sym (at_drop_all (values_left out) es i past) ∙ left

  pub lowered_call_said : (e : Expression) (named : Identifier) (x : List ℕ) (c : Callee) (vs : Expressions) (r es : List ExprTree) →
      r ≡ es → x ≡ named.name → c ≡ callee_of file.procedures x → vs ≡ lowered_all file ss (trees_of r) → e ≡ lowered_call c vs →
      e ≡ lowered file ss (call named (trees_of es))
  lowered_call_said e named x c vs r es same text called values made =
      made ∙ ap (λ k. lowered_call k vs) (called ∙ ap (callee_of file.procedures) text)
      ∙ ap (lowered_call (callee_of file.procedures named.name))
      (values ∙ ap (λ u. lowered_all file ss (trees_of u)) same)

pub main_small : (ps : List ProcedureTree) (x : List ℕ) (n : ℕ) → length ps ≤ 64 → n ≡ number_in (defined_from 0 ps x) → n < 2 ^ 32
main_small ps x n few e = let h = defined-small 0 ps x in omega arith
