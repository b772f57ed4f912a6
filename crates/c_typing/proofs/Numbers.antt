-- The assertions in the program of a tree without faults are those of the tree, numbered in order.
use Rattle.std.proofs.Common.{◌≡◌, ℕ, pos, ◌+◌, Bool, true, false, List, [], ◌∷◌, ◌++◌, length, Option, Some, None, refl, ap, sym, ◌∙◌, arith, append_assoc}
use Rattle.std.proofs.lemmas.List.{append-nil}
use Rattle.c_tree.specs.declared.tree.Pos.{Pos}
use Rattle.c_tree.specs.Syntax as program
use Rattle.c_tree.specs.Syntax.{Expressions, Statement, Statements}
use Rattle.c_tree.specs.WellFormed.{asserted_by, asserted_in}
use Rattle.c_tree.specs.declared.tree.Op.TheVariants as op
use Rattle.c_tree.specs.SourceTree.{Identifier, SimpleStatement, set, change, add_one, subtract_one, call_statement, Declarator, ForInit, no_init, declaring, starting, StatementTree, block, empty, declare, simple, if_then, if_else, while_loop, do_while, for_loop, break, continue, return, StatementTrees, no_statements, statement}
use Rattle.c_typing.specs.Scope.{FileScope, Scope, Callee, input, assume, assert, defined, unknown, callee_of, with_variable, declared_by, declared_by_init, asserts_of_all, asserts_by_simple, asserts_by_step, asserts_by_declarators, asserts_by_init, asserts_by, asserts_in}
use Rattle.c_typing.specs.Faults.{callee_faults, argument_count, name_faults, is_constant, operator_faults, expression_faults, arguments_faults, optional_faults, simple_faults, step_faults, init_faults, init_scopes as plain_scopes, scopes_after as plain_after, return_faults, statement_faults, statements_faults}
use Rattle.c_typing.specs.Lowering.{place, read_of, right_side, lowered, joined, called_statement, lowered_all, lowered_simple, lowered_step, lowered_declarators, init_scopes, with_init, scopes_after, spliced, lowered_statement, lowered_statements}
use Rattle.c_typing.proofs.Basics.{nil_both, asserts_at, asserts_at-callee}
use Rattle.c_typing.proofs.Places.{set-asserts}
use Rattle.c_typing.proofs.Erased.{erased, erased-with_names, step-same, statement-same, statements-same, after-same}
use Rattle.c_typing.proofs.Sound.{numbered, numbered-append, no_asserts, no_asserts_all, no_asserts_optional, no_asserts_declared}

two_numbers : {a b c d : List ℕ} → a ≡ c → b ≡ d → a ++ b ≡ c ++ d
two_numbers {b = b} {c = c} p q = ap (λ x. x ++ b) p ∙ ap (λ y. c ++ y) q

asserted-joined : (xs ys : Statements) → asserted_in (joined xs ys) ≡ asserted_in xs ++ asserted_in ys
asserted-joined program.no_statements ys = refl
asserted-joined (program.statement x xs) ys = ap (λ r. asserted_by x ++ r) (asserted-joined xs ys)
    ∙ sym (append_assoc (asserted_by x) (asserted_in xs) (asserted_in ys))

called-numbers : (c : Callee) (n : Identifier) (id : ℕ) (es : Expressions) → asserted_by (called_statement c id es)
    ≡ numbered id (asserts_at c n)
called-numbers input n id es = refl
called-numbers assume n id es = refl
called-numbers assert n id es = refl
called-numbers (defined number params void) n id es = refl
called-numbers unknown n id es = refl

module _ (file : FileScope) where
  pub simple-numbers : (ss : List Scope) (id : ℕ) (s : SimpleStatement) → simple_faults file ss s ≡ [] →
      asserted_by (lowered_simple file ss id s)
      ≡ numbered id (asserts_by_simple s)
  simple-numbers ss id (set n e) h = set-asserts (place file ss n.name) (lowered file ss e) ∙ ap (numbered id)
      (sym (no_asserts file ss e (nil_both (name_faults file ss n) (expression_faults file ss e) h).1))
  simple-numbers ss id (change o at n e) h =
      let q = nil_both (name_faults file ss n) (operator_faults file ss o at (is_constant e) e ++ expression_faults file ss e) h in
      let v = place file ss n.name in
      set-asserts v (program.binary o (read_of v) (right_side o (lowered file ss e))) ∙ ap (numbered id)
      (sym (no_asserts file ss e (nil_both (operator_faults file ss o at (is_constant e) e) (expression_faults file ss e) q.1).1))
  simple-numbers ss id (add_one n) h = let v = place file ss n.name in
      set-asserts v (program.binary op.Add (read_of v) (program.literal (pos 1)))
  simple-numbers ss id (subtract_one n) h = let v = place file ss n.name in
      set-asserts v (program.binary op.Subtract (read_of v) (program.literal (pos 1)))
  simple-numbers ss id (call_statement n es) h =
      let p = nil_both (callee_faults (callee_of file.procedures n.name) n (argument_count es) false) (arguments_faults file ss es) h in
      called-numbers (callee_of file.procedures n.name) n id (lowered_all file ss es) ∙ ap (numbered id)
      (sym (append-nil (asserts_at (callee_of file.procedures n.name) n)) ∙ ap (λ r. asserts_at (callee_of file.procedures n.name) n ++ r)
      (sym (no_asserts_all file ss es p.1)) ∙ ap (λ r. r ++ asserts_of_all es) (sym (asserts_at-callee file.procedures n)))

  step-numbers : (ss : List Scope) (id : ℕ) (s : Option SimpleStatement) → step_faults file ss s ≡ [] →
      asserted_by (lowered_step file ss id s)
      ≡ numbered id (asserts_by_step s)
  step-numbers ss id None h = refl
  step-numbers ss id (Some s) h = simple-numbers ss id s h

  declared-numbers : (ss : List Scope) (next : ℕ) (ds : List Declarator) → asserted_in (lowered_declarators file ss next ds) ≡ []
  declared-numbers ss next [] = refl
  declared-numbers ss next (d ∷ ds) = declared-numbers (with_variable ss d.named.name next) (next + 1) ds

  init-numbers : (ss : List Scope) (next id : ℕ) (f : ForInit) (whole : Statement) (rest : List Pos) → init_faults file ([] ∷ ss) f ≡ [] →
      asserted_by whole ≡ numbered (id + length (asserts_by_init f)) rest →
      asserted_by (with_init file ss next id f whole) ≡ numbered id (asserts_by_init f ++ rest)
  init-numbers ss next id no_init whole rest h w = w ∙ ap (λ i. numbered i rest) (omega arith)
  init-numbers ss next id (declaring ds) whole rest h w =
      let none = no_asserts_declared file ([] ∷ ss) ds h in
      let at : id + length (asserts_by_declarators ds) ≡ id = omega (arith, ap (λ r. length r) none) in
      asserted-joined (lowered_declarators file ([] ∷ ss) next ds) (program.statement whole program.no_statements)
      ∙ two_numbers (declared-numbers ([] ∷ ss) next ds) (append-nil (asserted_by whole) ∙ w ∙ ap (λ i. numbered i rest) at)
      ∙ ap (λ r. numbered id (r ++ rest)) (sym none)
  init-numbers ss next id (starting s) whole rest h w =
      two_numbers (simple-numbers ([] ∷ ss) id s h) (append-nil (asserted_by whole) ∙ w)
      ∙ sym (numbered-append id (asserts_by_simple s) rest)

  module _ (void : Bool) where
    spliced-numbers : (ss : List Scope) (next : ℕ) (s : StatementTree) (whole : Statement) (l : Bool) → statement_faults file void l ss s
        ≡ [] → (id : ℕ) → asserted_by whole ≡ numbered id (asserts_by s) →
        asserted_in (spliced file ss next s whole) ≡ numbered id (asserts_by s)
    spliced-numbers ss next (declare ds) whole l h id w = declared-numbers ss next ds ∙ ap (numbered id)
        (sym (no_asserts_declared file ss ds h))
    spliced-numbers ss next (block a) whole l h id w = append-nil (asserted_by whole) ∙ w
    spliced-numbers ss next empty whole l h id w = append-nil (asserted_by whole) ∙ w
    spliced-numbers ss next (simple s) whole l h id w = append-nil (asserted_by whole) ∙ w
    spliced-numbers ss next (if_then e a) whole l h id w = append-nil (asserted_by whole) ∙ w
    spliced-numbers ss next (if_else e a c) whole l h id w = append-nil (asserted_by whole) ∙ w
    spliced-numbers ss next (while_loop e a) whole l h id w = append-nil (asserted_by whole) ∙ w
    spliced-numbers ss next (do_while a e) whole l h id w = append-nil (asserted_by whole) ∙ w
    spliced-numbers ss next (for_loop f t s a) whole l h id w = append-nil (asserted_by whole) ∙ w
    spliced-numbers ss next (break at) whole l h id w = append-nil (asserted_by whole) ∙ w
    spliced-numbers ss next (continue at) whole l h id w = append-nil (asserted_by whole) ∙ w
    spliced-numbers ss next (return at e) whole l h id w = append-nil (asserted_by whole) ∙ w

    mutual
      pub statement-numbers : (l : Bool) (ss : List Scope) (next id : ℕ) (s : StatementTree) → statement_faults file void l ss s ≡ [] →
          asserted_by (lowered_statement file ss next id s) ≡ numbered id (asserts_by s)
      statement-numbers l ss next id (block a) h = statements-numbers l ([] ∷ ss) next id a h
      statement-numbers l ss next id empty h = refl
      statement-numbers l ss next id (declare ds) h = declared-numbers ss next ds ∙ ap (numbered id)
          (sym (no_asserts_declared file ss ds h))
      statement-numbers l ss next id (simple s) h = simple-numbers ss id s h
      statement-numbers l ss next id (if_then e a) h =
          let p = nil_both (expression_faults file ss e) (statement_faults file void l ss a) h in
          append-nil (asserted_by (lowered_statement file ss next id a)) ∙ statement-numbers l ss next id a p.1
          ∙ ap (λ r. numbered id (r ++ asserts_by a)) (sym (no_asserts file ss e p.0))
      statement-numbers l ss next id (if_else e a c) h =
          let p = nil_both (expression_faults file ss e) (statement_faults file void l ss a ++ statement_faults file void l ss c) h in
          let q = nil_both (statement_faults file void l ss a) (statement_faults file void l ss c) p.1 in
          two_numbers (statement-numbers l ss next id a q.0) (statement-numbers l ss (next + length (declared_by a))
          (id + length (asserts_by a)) c q.1) ∙ sym (numbered-append id (asserts_by a) (asserts_by c))
          ∙ ap (λ r. numbered id (r ++ (asserts_by a ++ asserts_by c))) (sym (no_asserts file ss e p.0))
      statement-numbers l ss next id (while_loop e a) h =
          let p = nil_both (expression_faults file ss e) (statement_faults file void true ss a) h in
          statement-numbers true ss next id a p.1 ∙ ap (λ r. numbered id (r ++ asserts_by a)) (sym (no_asserts file ss e p.0))
      statement-numbers l ss next id (do_while a e) h =
          let p = nil_both (statement_faults file void true ss a) (expression_faults file ss e) h in
          statement-numbers true ss next id a p.0 ∙ ap (numbered id) (sym (append-nil (asserts_by a)) ∙ ap (λ r. asserts_by a ++ r)
          (sym (no_asserts file ss e p.1)))
      statement-numbers l ss next id (for_loop f t s a) h =
          let inside = init_scopes file ss next f in
          let plain = plain_scopes file ss f in
          let same : erased inside ≡ erased plain = erased-with_names ([] ∷ ss) ([] ∷ ss) next 0 (declared_by_init f) refl in
          let p = nil_both (init_faults file ([] ∷ ss) f)
          (optional_faults file plain t ++ (step_faults file plain s ++ statement_faults file void true plain a)) h in
          let q = nil_both (optional_faults file plain t) (step_faults file plain s ++ statement_faults file void true plain a) p.1 in
          let r = nil_both (step_faults file plain s) (statement_faults file void true plain a) q.1 in
          let id_step = id + length (asserts_by_init f) in
          let next_body = next + length (declared_by_init f) in
          let step = step-numbers inside id_step s (step-same file inside plain s same ∙ r.0) in
          let body = statement-numbers true inside next_body (id_step + length (asserts_by_step s)) a
          (statement-same file void true inside plain a same ∙ r.1) in
          let whole = two_numbers step body ∙ sym (numbered-append id_step (asserts_by_step s) (asserts_by a)) in
          init-numbers ss next id f (program.loop _ _ _) (asserts_by_step s ++ asserts_by a) p.0 whole
          ∙ ap (λ r. numbered id (asserts_by_init f ++ (r ++ (asserts_by_step s ++ asserts_by a))))
          (sym (no_asserts_optional file plain t q.0))
      statement-numbers l ss next id (break at) h = refl
      statement-numbers l ss next id (continue at) h = refl
      statement-numbers l ss next id (return at e) h = ap (numbered id)
          (sym (no_asserts_optional file ss e (nil_both (return_faults file void at e) (optional_faults file ss e) h).1))

      pub statements-numbers : (l : Bool) (ss : List Scope) (next id : ℕ) (a : StatementTrees) → statements_faults file void l ss a ≡ [] →
          asserted_in (lowered_statements file ss next id a) ≡ numbered id (asserts_in a)
      statements-numbers l ss next id no_statements h = refl
      statements-numbers l ss next id (statement s rest) h =
          let p = nil_both (statement_faults file void l ss s) (statements_faults file void l (plain_after file ss s) rest) h in
          asserted-joined (spliced file ss next s (lowered_statement file ss next id s))
          (lowered_statements file (scopes_after file ss next s)
          (next + length (declared_by s)) (id + length (asserts_by s)) rest)
          ∙ two_numbers (spliced-numbers ss next s (lowered_statement file ss next id s) l p.0 id (statement-numbers l ss next id s p.0))
          (statements-numbers l (scopes_after file ss next s) (next + length (declared_by s)) (id + length (asserts_by s)) rest
          (statements-same file void l (scopes_after file ss next s) (plain_after file ss s) rest (after-same file ss next s) ∙ p.1))
          ∙ sym (numbered-append id (asserts_by s) (asserts_in rest))
