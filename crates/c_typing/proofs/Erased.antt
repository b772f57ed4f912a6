-- Faults depend on the names in scope alone, and not on their slots.
use Rattle.std.proofs.Common.{◌≡◌, ℕ, ◌+◌, Bool, true, false, ◌&&◌, ◌||◌, not as not_bool, List, [], ◌∷◌, ◌++◌, Option, Some, None, is_some, is_none, refl, ap, sym, ◌∙◌, bytes_eq, if◌then◌else◌}
use Rattle.c_tree.specs.declared.tree.Op.{Op}
use Rattle.c_tree.specs.declared.tree.Pos.{Pos}
use Rattle.c_tree.specs.Constants.{constant_value}
use Rattle.c_tree.specs.Operators.{is_arithmetic, is_division, is_product}
use Rattle.c_tree.specs.Syntax as program
use Rattle.c_tree.specs.SourceTree.{Identifier, ExpressionTree, literal, name, call, not, negate, plus, binary, ExpressionTrees, no_arguments, argument, SimpleStatement, set, change, add_one, subtract_one, call_statement, Declarator, ForInit, no_init, declaring, starting, StatementTree, block, empty, declare, simple, if_then, if_else, while_loop, do_while, for_loop, break, continue, return, StatementTrees, no_statements, statement}
use Rattle.c_typing.specs.declared.fault.TypeFault.TheVariants.{UnknownName, Duplicate, NotLinear, BadDivisor}
use Rattle.c_typing.specs.Scope.{FileScope, Scope, global_of, slot_in, slot_of, or_outer, with_variable, with_names, names_of, is_declared_here, is_built_in, callee_of, declared_by_init}
use Rattle.c_typing.specs.Faults.{Fault, fault_if, may_divide, has_divisor, operator_faults, name_faults, expression_faults, arguments_faults, optional_faults, simple_faults, step_faults, declared_faults, declarators_faults, init_faults, init_scopes, scopes_after, statement_faults, statements_faults, callee_faults, argument_count, is_constant, return_faults}
use Rattle.c_typing.specs.Lowering.{lowered, right_side, scopes_after as real_after}
use Rattle.c_typing.proofs.Basics.{both_true}

abbrev pub erased_scope : Scope → Scope
erased_scope [] = []
erased_scope (v ∷ vs) = record { name = v.name; slot = 0 } ∷ erased_scope vs

abbrev pub erased : List Scope → List Scope
erased [] = []
erased (s ∷ ss) = erased_scope s ∷ erased ss

some_in : (s : Scope) (x : List ℕ) → is_some (slot_in s x) ≡ is_some (slot_in (erased_scope s) x)
some_in [] x = refl
some_in (v ∷ vs) x = go (bytes_eq v.name x) (some_in vs x)
  where
    go : (b : Bool) → is_some (slot_in vs x) ≡ is_some (slot_in (erased_scope vs) x) → is_some (if b then Some v.slot else slot_in vs x)
        ≡ is_some (if b then Some 0 else slot_in (erased_scope vs) x)
    go true h = refl
    go false h = h

outer-some : (a b : Option ℕ) → is_some (or_outer a b) ≡ (is_some a || is_some b)
outer-some None b = refl
outer-some (Some s) b = refl

some_of : (ss : List Scope) (x : List ℕ) → is_some (slot_of ss x) ≡ is_some (slot_of (erased ss) x)
some_of [] x = refl
some_of (s ∷ ss) x =
    outer-some (slot_in s x) (slot_of ss x) ∙ ap (λ b. b || is_some (slot_of ss x)) (some_in s x)
    ∙ ap (λ b. is_some (slot_in (erased_scope s) x) || b) (some_of ss x)
    ∙ sym (outer-some (slot_in (erased_scope s) x) (slot_of (erased ss) x))

declared_here : (ss : List Scope) (x : List ℕ) → is_declared_here ss x ≡ is_declared_here (erased ss) x
declared_here [] x = refl
declared_here (s ∷ ss) x = some_in s x

pub erased-with_variable : (ss : List Scope) (x : List ℕ) (slot : ℕ) → erased (with_variable ss x slot) ≡ with_variable (erased ss) x 0
erased-with_variable [] x slot = refl
erased-with_variable (s ∷ ss) x slot = refl

pub erased-variable : (ss ts : List Scope) (x : List ℕ) (a b : ℕ) → erased ss ≡ erased ts → erased (with_variable ss x a)
    ≡ erased (with_variable ts x b)
erased-variable ss ts x a b e = erased-with_variable ss x a ∙ ap (λ u. with_variable u x 0) e ∙ sym (erased-with_variable ts x b)

pub erased-with_names : (ss ts : List Scope) (a b : ℕ) (ns : List Identifier) → erased ss ≡ erased ts → erased (with_names ss a ns)
    ≡ erased (with_names ts b ns)
erased-with_names ss ts a b [] e = e
erased-with_names ss ts a b (n ∷ ns) e = erased-with_names (with_variable ss n.name a) (with_variable ts n.name b) (a + 1) (b + 1) ns
    (erased-variable ss ts n.name a b e)

pub erased-push : (ss ts : List Scope) → erased ss ≡ erased ts → erased ([] ∷ ss) ≡ erased ([] ∷ ts)
erased-push ss ts e = ap (λ u. [] ∷ u) e

pub declared-same : (file : FileScope) (ss ts : List Scope) (n : Identifier) → erased ss ≡ erased ts → declared_faults file ss n
    ≡ declared_faults file ts n
declared-same file ss ts n e = ap (λ b. fault_if (b || is_built_in n.name) Duplicate n.at)
    (declared_here ss n.name ∙ ap (λ u. is_declared_here u n.name) e ∙ sym (declared_here ts n.name))

two : {a b c d : List Fault} → a ≡ c → b ≡ d → a ++ b ≡ c ++ d
two {b = b} {c = c} p q = ap (λ x. x ++ b) p ∙ ap (λ y. c ++ y) q

module _ (file : FileScope) where
  name-same : (ss ts : List Scope) (n : Identifier) → erased ss ≡ erased ts → name_faults file ss n ≡ name_faults file ts n
  name-same ss ts n e = ap (λ b. fault_if (not_bool b && is_none (global_of file.globals n.name)) UnknownName n.at)
      (some_of ss n.name ∙ ap (λ u. is_some (slot_of u n.name)) e ∙ sym (some_of ts n.name))

  -- no name stands in a constant
  pub constant-same : (ss ts : List Scope) (e : ExpressionTree) → is_constant e ≡ true → lowered file ss e ≡ lowered file ts e
  constant-same ss ts (literal n) h = refl
  constant-same ss ts (name n) h = absurd cc
  constant-same ss ts (call n es) h = absurd cc
  constant-same ss ts (not e) h = absurd cc
  constant-same ss ts (negate e) h = ap program.negate (constant-same ss ts e h)
  constant-same ss ts (plus e) h = constant-same ss ts e h
  constant-same ss ts (binary o at a b) h =
      let p = both_true (is_arithmetic o && is_constant a) (is_constant b) h in
      let q = both_true (is_arithmetic o) (is_constant a) p.0 in
      ap (λ x. program.binary o x (right_side o (lowered file ss b))) (constant-same ss ts a q.1)
      ∙ ap (λ y. program.binary o (lowered file ts a) (right_side o y)) (constant-same ss ts b p.1)

  divisor-same : (ss ts : List Scope) (e : ExpressionTree) → has_divisor file ss e ≡ has_divisor file ts e
  divisor-same ss ts e = go (is_constant e) (constant-same ss ts e)
    where
      go : (c : Bool) → (c ≡ true → lowered file ss e ≡ lowered file ts e) →
          (c && may_divide (constant_value (lowered file ss e))) ≡ (c && may_divide (constant_value (lowered file ts e)))
      go true h = ap (λ x. may_divide (constant_value x)) (h refl)
      go false h = refl

  operator-same : (ss ts : List Scope) (o : Op) (at : Pos) (constant : Bool) (e : ExpressionTree) → operator_faults file ss o at constant e
      ≡ operator_faults file ts o at constant e
  operator-same ss ts o at constant e =
      ap (λ b. fault_if (is_product o && not_bool constant) NotLinear at ++ fault_if (is_division o && not_bool b) BadDivisor at)
      (divisor-same ss ts e)

  mutual
    pub expression-same : (ss ts : List Scope) (e : ExpressionTree) → erased ss ≡ erased ts → expression_faults file ss e
        ≡ expression_faults
        file ts e
    expression-same ss ts (literal n) h = refl
    expression-same ss ts (name n) h = name-same ss ts n h
    expression-same ss ts (call n es) h = ap (λ r. callee_faults (callee_of file.procedures n.name) n (argument_count es) true ++ r)
        (arguments-same ss ts es h)
    expression-same ss ts (not e) h = expression-same ss ts e h
    expression-same ss ts (negate e) h = expression-same ss ts e h
    expression-same ss ts (plus e) h = expression-same ss ts e h
    expression-same ss ts (binary o at a b) h =
        two (operator-same ss ts o at (is_constant a || is_constant b) b)
        (two (expression-same ss ts a h) (expression-same ss ts b h))

    pub arguments-same : (ss ts : List Scope) (es : ExpressionTrees) → erased ss ≡ erased ts → arguments_faults file ss es
        ≡ arguments_faults
        file ts es
    arguments-same ss ts no_arguments h = refl
    arguments-same ss ts (argument e es) h = two (expression-same ss ts e h) (arguments-same ss ts es h)

  pub optional-same : (ss ts : List Scope) (o : Option ExpressionTree) → erased ss ≡ erased ts → optional_faults file ss o ≡ optional_faults
      file ts o
  optional-same ss ts None h = refl
  optional-same ss ts (Some e) h = expression-same ss ts e h

  pub simple-same : (ss ts : List Scope) (s : SimpleStatement) → erased ss ≡ erased ts → simple_faults file ss s ≡ simple_faults file ts s
  simple-same ss ts (set n e) h = two (name-same ss ts n h) (expression-same ss ts e h)
  simple-same ss ts (change o at n e) h =
      two (name-same ss ts n h) (two (operator-same ss ts o at (is_constant e) e) (expression-same ss ts e h))
  simple-same ss ts (add_one n) h = name-same ss ts n h
  simple-same ss ts (subtract_one n) h = name-same ss ts n h
  simple-same ss ts (call_statement n es) h = ap (λ r. callee_faults (callee_of file.procedures n.name) n (argument_count es) false ++ r)
      (arguments-same ss ts es h)

  pub step-same : (ss ts : List Scope) (s : Option SimpleStatement) → erased ss ≡ erased ts → step_faults file ss s ≡ step_faults file ts s
  step-same ss ts None h = refl
  step-same ss ts (Some s) h = simple-same ss ts s h

  pub declarators-same : (ss ts : List Scope) (ds : List Declarator) → erased ss ≡ erased ts → declarators_faults file ss ds
      ≡ declarators_faults file ts ds
  declarators-same ss ts [] h = refl
  declarators-same ss ts (d ∷ ds) h =
      two (optional-same ss ts d.value h) (two (declared-same file ss ts d.named h) (declarators-same (with_variable ss d.named.name 0)
      (with_variable ts d.named.name 0) ds (erased-variable ss ts d.named.name 0 0 h)))

  pub init-same : (ss ts : List Scope) (f : ForInit) → erased ss ≡ erased ts → init_faults file ss f ≡ init_faults file ts f
  init-same ss ts no_init h = refl
  init-same ss ts (declaring ds) h = declarators-same ss ts ds h
  init-same ss ts (starting s) h = simple-same ss ts s h

  pub erased-init_scopes : (ss ts : List Scope) (f : ForInit) → erased ss ≡ erased ts → erased (init_scopes file ss f)
      ≡ erased (init_scopes file ts f)
  erased-init_scopes ss ts f h = erased-with_names ([] ∷ ss) ([] ∷ ts) 0 0 (declared_by_init f) (erased-push ss ts h)

  pub erased-scopes_after : (ss ts : List Scope) (s : StatementTree) → erased ss ≡ erased ts → erased (scopes_after file ss s)
      ≡ erased (scopes_after file ts s)
  erased-scopes_after ss ts (declare ds) h = erased-with_names ss ts 0 0 (names_of ds) h
  erased-scopes_after ss ts (block a) h = h
  erased-scopes_after ss ts empty h = h
  erased-scopes_after ss ts (simple s) h = h
  erased-scopes_after ss ts (if_then e a) h = h
  erased-scopes_after ss ts (if_else e a b) h = h
  erased-scopes_after ss ts (while_loop e a) h = h
  erased-scopes_after ss ts (do_while a e) h = h
  erased-scopes_after ss ts (for_loop f t s a) h = h
  erased-scopes_after ss ts (break at) h = h
  erased-scopes_after ss ts (continue at) h = h
  erased-scopes_after ss ts (return at e) h = h

  -- the slots don't matter
  pub after-same : (ss : List Scope) (next : ℕ) (s : StatementTree) → erased (real_after file ss next s) ≡ erased (scopes_after file ss s)
  after-same ss next (declare ds) = erased-with_names ss ss next 0 (names_of ds) refl
  after-same ss next (block a) = refl
  after-same ss next empty = refl
  after-same ss next (simple s) = refl
  after-same ss next (if_then e a) = refl
  after-same ss next (if_else e a c) = refl
  after-same ss next (while_loop e a) = refl
  after-same ss next (do_while a e) = refl
  after-same ss next (for_loop f t s a) = refl
  after-same ss next (break at) = refl
  after-same ss next (continue at) = refl
  after-same ss next (return at e) = refl

  module _ (void : Bool) where
    mutual
      pub statement-same : (l : Bool) (ss ts : List Scope) (s : StatementTree) → erased ss ≡ erased ts → statement_faults file void l ss s
          ≡ statement_faults file void l ts s
      statement-same l ss ts (block a) h = statements-same l ([] ∷ ss) ([] ∷ ts) a (erased-push ss ts h)
      statement-same l ss ts empty h = refl
      statement-same l ss ts (declare ds) h = declarators-same ss ts ds h
      statement-same l ss ts (simple s) h = simple-same ss ts s h
      statement-same l ss ts (if_then e a) h = two (expression-same ss ts e h) (statement-same l ss ts a h)
      statement-same l ss ts (if_else e a b) h = two (expression-same ss ts e h)
          (two (statement-same l ss ts a h) (statement-same l ss ts b h))
      statement-same l ss ts (while_loop e a) h = two (expression-same ss ts e h) (statement-same true ss ts a h)
      statement-same l ss ts (do_while a e) h = two (statement-same true ss ts a h) (expression-same ss ts e h)
      statement-same l ss ts (for_loop f t s a) h =
          let inside = erased-init_scopes ss ts f h in
          two (init-same ([] ∷ ss) ([] ∷ ts) f (erased-push ss ts h))
          (two (optional-same (init_scopes file ss f) (init_scopes file ts f) t inside)
          (two (step-same (init_scopes file ss f) (init_scopes file ts f) s inside)
          (statement-same true (init_scopes file ss f) (init_scopes file ts f) a inside)))
      statement-same l ss ts (break at) h = refl
      statement-same l ss ts (continue at) h = refl
      statement-same l ss ts (return at e) h = ap (λ r. return_faults file void at e ++ r) (optional-same ss ts e h)

      pub statements-same : (l : Bool) (ss ts : List Scope) (a : StatementTrees) → erased ss ≡ erased ts → statements_faults file void l ss
          a
          ≡ statements_faults file void l ts a
      statements-same l ss ts no_statements h = refl
      statements-same l ss ts (statement s rest) h =
          two (statement-same l ss ts s h) (statements-same l (scopes_after file ss s) (scopes_after file ts s) rest
          (erased-scopes_after ss ts s h))
