-- The program of a tree without faults names what exists, and its assertions are numbered one after another.
use Rattle.std.proofs.Common.{◌≡◌, ℕ, pos, ◌+◌, ◌<◌, ◌≤◌, Bool, true, false, ◌==◌, ◌&&◌, ◌||◌, not as not_bool, List, [], ◌∷◌, ◌++◌, length, Option, Some, None, slice_get, nat_lt, refl, ap, ◌∙◌, arith, length-append}
use Rattle.std.proofs.lemmas.Bool.{lt-ltb}
use Rattle.c_tree.specs.declared.tree.Pos.{Pos}
use Rattle.c_tree.specs.Syntax as program
use Rattle.c_tree.specs.Syntax.{Expressions, no_expressions, expression, Statement, Statements, PureProgram}
use Rattle.c_tree.specs.WellFormed.{takes, count, is_well_scoped, are_well_scoped, returns_well_scoped, runs_well_scoped, all_well_scoped}
use Rattle.c_tree.specs.declared.tree.Op.TheVariants as op
use Rattle.c_tree.specs.SourceTree.{Identifier, ExpressionTree, literal, name, call, not, negate, plus, binary, ExpressionTrees, no_arguments, argument, SimpleStatement, set, change, add_one, subtract_one, call_statement, Declarator, ForInit, no_init, declaring, starting, StatementTree, block, empty, declare, simple, if_then, if_else, while_loop, do_while, for_loop, break, continue, return, StatementTrees, no_statements, statement, ProcedureTree}
use Rattle.c_typing.specs.declared.fault.TypeFault.TheVariants.{WrongCount, VoidValue, MainShape, OutsideLoop}
use Rattle.c_typing.specs.Scope.{FileScope, Scope, Callee, input, assume, assert, defined, unknown, callee_of, is_main, with_variable, names_of, declared_by, declared_in, declared_by_init, if_assert, asserts_of, asserts_of_all, asserts_of_optional, asserts_by_simple, asserts_by_step, asserts_by_declarators, asserts_by_init, asserts_by, asserts_in}
use Rattle.c_typing.specs.Faults.{fault_if, callee_faults, argument_count, name_faults, is_constant, operator_faults, expression_faults, arguments_faults, optional_faults, simple_faults, step_faults, declared_faults, declarators_faults, init_faults, init_scopes as plain_scopes, scopes_after as plain_after, return_faults, statement_faults, statements_faults}
use Rattle.c_typing.specs.Lowering.{place, right_side, joined, lowered_call, first_of, called_statement, lowered, lowered_all, lowered_value, lowered_test, lowered_result, lowered_simple, lowered_step, lowered_declarators, init_scopes, with_init, scopes_after, spliced, lowered_statement, lowered_statements}
use Rattle.c_typing.proofs.Basics.{no_fault, nil_both, both, not_false, false_not, eqb-same, Below, below-push, below-names, below-one, asserts_at, asserts_at-callee}
use Rattle.c_typing.proofs.Places.{IsThere, place-there, read-sound, set-sound, changed-sound, right-sound}
use Rattle.c_typing.proofs.Erased.{erased, erased-with_names, erased-variable, optional-same, declarators-same, step-same, statement-same, statements-same, after-same}

-- what is called by a name exists in the program, and isn't `main`
pub record CallsFit (P : PureProgram) (ps : List ProcedureTree) : Type 0 where
  pub fits : (x : List ℕ) (n params : ℕ) (void : Bool) → callee_of ps x ≡ defined n params void → takes (slice_get P.procedures n) params
      ≡ true
  pub not_main : (x : List ℕ) (n params : ℕ) (void : Bool) → callee_of ps x ≡ defined n params void → is_main x ≡ false → (n == P.main)
      ≡ false

-- assertions numbered from a number on
abbrev pub numbered : ℕ → List Pos → List ℕ
numbered id [] = []
numbered id (p ∷ ps) = id ∷ numbered (id + 1) ps

pub numbered-append : (id : ℕ) (ps qs : List Pos) → numbered id (ps ++ qs) ≡ numbered id ps ++ numbered (id + length ps) qs
numbered-append id [] qs = ap (λ i. numbered i qs) (omega arith)
numbered-append id (p ∷ ps) qs = ap (λ r. id ∷ r) (numbered-append (id + 1) ps qs ∙ ap (λ i. numbered (id + 1) ps ++ numbered i qs)
    (omega arith))

count-lowered_all : (file : FileScope) (ss : List Scope) (es : ExpressionTrees) → count (lowered_all file ss es) ≡ argument_count es
count-lowered_all file ss no_arguments = refl
count-lowered_all file ss (argument e es) = ap (λ n. 1 + n) (count-lowered_all file ss es)

-- a call whose value is used asserts nothing
used_call : (c : Callee) (n : Identifier) (k : ℕ) → callee_faults c n k true ≡ [] → asserts_at c n ≡ []
used_call input n k e = refl
used_call assume n k e = refl
used_call assert n k e = absurd (let h = (nil_both (fault_if (not_bool (k == 1)) WrongCount n.at) (fault_if true VoidValue n.at) e).1 in cc)
used_call (defined number params void) n k e = refl
used_call unknown n k e = refl

module _ (file : FileScope) where
  mutual
    pub no_asserts : (ss : List Scope) (e : ExpressionTree) → expression_faults file ss e ≡ [] → asserts_of e ≡ []
    no_asserts ss (literal n) h = refl
    no_asserts ss (name n) h = refl
    no_asserts ss (call n es) h =
        let p = nil_both (callee_faults (callee_of file.procedures n.name) n (argument_count es) true) (arguments_faults file ss es) h in
        ap (λ r. r ++ asserts_of_all es) (asserts_at-callee file.procedures n ∙ used_call (callee_of file.procedures n.name) n
        (argument_count es) p.0)
        ∙ no_asserts_all ss es p.1
    no_asserts ss (not e) h = no_asserts ss e h
    no_asserts ss (negate e) h = no_asserts ss e h
    no_asserts ss (plus e) h = no_asserts ss e h
    no_asserts ss (binary o at a b) h =
        let p = (nil_both (operator_faults file ss o at (is_constant a || is_constant b) b)
        (expression_faults file ss a ++ expression_faults file ss b) h).1 in
        let q = nil_both (expression_faults file ss a) (expression_faults file ss b) p in
        ap (λ r. r ++ asserts_of b) (no_asserts ss a q.0) ∙ no_asserts ss b q.1

    pub no_asserts_all : (ss : List Scope) (es : ExpressionTrees) → arguments_faults file ss es ≡ [] → asserts_of_all es ≡ []
    no_asserts_all ss no_arguments h = refl
    no_asserts_all ss (argument e es) h =
        let q = nil_both (expression_faults file ss e) (arguments_faults file ss es) h in
        ap (λ r. r ++ asserts_of_all es) (no_asserts ss e q.0) ∙ no_asserts_all ss es q.1

  pub no_asserts_optional : (ss : List Scope) (o : Option ExpressionTree) → optional_faults file ss o ≡ [] → asserts_of_optional o ≡ []
  no_asserts_optional ss None h = refl
  no_asserts_optional ss (Some e) h = no_asserts ss e h

  pub no_asserts_declared : (ss : List Scope) (ds : List Declarator) → declarators_faults file ss ds ≡ [] → asserts_by_declarators ds ≡ []
  no_asserts_declared ss [] h = refl
  no_asserts_declared ss (d ∷ ds) h =
      let p = nil_both (optional_faults file ss d.value) (declared_faults file ss d.named ++ declarators_faults file
      (with_variable ss d.named.name 0) ds)
      h in
      let q = nil_both (declared_faults file ss d.named) (declarators_faults file (with_variable ss d.named.name 0) ds) p.1 in
      ap (λ r. r ++ asserts_by_declarators ds) (no_asserts_optional ss d.value p.0) ∙ no_asserts_declared (with_variable ss d.named.name 0)
      ds q.1

-- Names exist

module _ (P : PureProgram) (file : FileScope) (slots : ℕ) (fit : CallsFit P file.procedures)
    (few : length file.globals ≤ length P.globals) where
  name-sound : (ss : List Scope) (n : Identifier) → Below ss slots → name_faults file ss n ≡ [] → IsThere P slots (place file ss n.name)
  name-sound ss n b h = place-there P slots file ss n few b h

  call-sound : (c : Callee) (n : Identifier) (k : ℕ) (es : Expressions) (used : Bool) → callee_of file.procedures n.name ≡ c →
      callee_faults c n k used
      ≡ [] → count es ≡ k → are_well_scoped P slots es ≡ true →
      is_well_scoped P slots (lowered_call c es) ≡ true
  call-sound input n k es used e h same sound = refl
  call-sound assume n k es used e h same sound = refl
  call-sound assert n k es used e h same sound = refl
  call-sound unknown n k es used e h same sound = refl
  call-sound (defined number params void) n k es used e h same sound =
      let p = nil_both (fault_if (not_bool (k == params)) WrongCount n.at) (fault_if (used && void) VoidValue n.at
      ++ fault_if (is_main n.name) MainShape n.at) h in
      let q = nil_both (fault_if (used && void) VoidValue n.at) (fault_if (is_main n.name) MainShape n.at) p.1 in
      let enough : count es ≡ params = same ∙ eqb-same k params
      (not_false (k == params) (no_fault (not_bool (k == params)) WrongCount n.at p.0))
      in
      let there : takes (slice_get P.procedures number) (count es) ≡ true = ap (takes (slice_get P.procedures number)) enough
      ∙ fit.fits n.name number params void e in
      let other : not_bool (number == P.main) ≡ true = false_not (number == P.main)
      (fit.not_main n.name number params void e (no_fault (is_main n.name) MainShape n.at q.1)) in
      both (takes (slice_get P.procedures number) (count es) && not_bool (number == P.main)) (are_well_scoped P slots es)
      (both (takes (slice_get P.procedures number) (count es)) (not_bool (number == P.main)) there other) sound

  mutual
    pub expression-sound : (ss : List Scope) (e : ExpressionTree) → Below ss slots → expression_faults file ss e ≡ [] →
        is_well_scoped P slots (lowered file ss e) ≡ true
    expression-sound ss (literal n) b h = refl
    expression-sound ss (name n) b h = read-sound P slots (place file ss n.name) (name-sound ss n b h)
    expression-sound ss (call n es) b h =
        let p = nil_both (callee_faults (callee_of file.procedures n.name) n (argument_count es) true) (arguments_faults file ss es) h in
        call-sound (callee_of file.procedures n.name) n (argument_count es) (lowered_all file ss es) true refl p.0
        (count-lowered_all file ss es)
        (arguments-sound ss es b p.1)
    expression-sound ss (not e) b h = expression-sound ss e b h
    expression-sound ss (negate e) b h = expression-sound ss e b h
    expression-sound ss (plus e) b h = expression-sound ss e b h
    expression-sound ss (binary o at x y) b h =
        let p = (nil_both (operator_faults file ss o at (is_constant x || is_constant y) y)
        (expression_faults file ss x ++ expression_faults file ss y) h).1 in
        let q = nil_both (expression_faults file ss x) (expression_faults file ss y) p in
        both (is_well_scoped P slots (lowered file ss x)) (is_well_scoped P slots (right_side o (lowered file ss y)))
        (expression-sound ss x b q.0) (right-sound P slots o (lowered file ss y) (expression-sound ss y b q.1))

    pub arguments-sound : (ss : List Scope) (es : ExpressionTrees) → Below ss slots → arguments_faults file ss es ≡ [] →
        are_well_scoped P slots (lowered_all file ss es) ≡ true
    arguments-sound ss no_arguments b h = refl
    arguments-sound ss (argument e es) b h =
        let q = nil_both (expression_faults file ss e) (arguments_faults file ss es) h in
        both (is_well_scoped P slots (lowered file ss e)) (are_well_scoped P slots (lowered_all file ss es)) (expression-sound ss e b q.0)
        (arguments-sound ss es b q.1)

  value-sound : (ss : List Scope) (o : Option ExpressionTree) → Below ss slots → optional_faults file ss o ≡ [] →
      is_well_scoped P slots (lowered_value file ss o) ≡ true
  value-sound ss None b h = refl
  value-sound ss (Some e) b h = expression-sound ss e b h

  test-sound : (ss : List Scope) (o : Option ExpressionTree) → Below ss slots → optional_faults file ss o ≡ [] →
      is_well_scoped P slots (lowered_test file ss o) ≡ true
  test-sound ss None b h = refl
  test-sound ss (Some e) b h = expression-sound ss e b h

  result-sound : (ss : List Scope) (o : Option ExpressionTree) → Below ss slots → optional_faults file ss o ≡ [] →
      returns_well_scoped P slots
      (lowered_result file ss o) ≡ true
  result-sound ss None b h = refl
  result-sound ss (Some e) b h = expression-sound ss e b h

  first-sound : (es : Expressions) → are_well_scoped P slots es ≡ true → is_well_scoped P slots (first_of es) ≡ true
  first-sound no_expressions h = refl
  first-sound (expression e es) h = elim (is_well_scoped P slots e) as (λ b. (b && are_well_scoped P slots es) ≡ true → b ≡ true) [
    | true ↦
        λ _. refl
    | false ↦ λ g. g
  ] h

  called-sound : (l : Bool) (c : Callee) (n : Identifier) (k id : ℕ) (es : Expressions) → callee_of file.procedures n.name ≡ c →
      callee_faults c n k false
      ≡ [] → count es ≡ k → are_well_scoped P slots es ≡ true →
      id + length (asserts_at c n) ≤ length P.asserts → runs_well_scoped P slots l (called_statement c id es) ≡ true
  called-sound l input n k id es e h same sound room = refl
  called-sound l assume n k id es e h same sound room = first-sound es sound
  called-sound l assert n k id es e h same sound room =
      let low : id < length P.asserts = omega arith in both (nat_lt id (length P.asserts)) (is_well_scoped P slots (first_of es))
      (lt-ltb id (length P.asserts) low) (first-sound es sound)
  called-sound l unknown n k id es e h same sound room = refl
  called-sound l (defined number params void) n k id es e h same sound room = call-sound (defined number params void) n k es false e h same
      sound

  pub simple-sound : (l : Bool) (ss : List Scope) (id : ℕ) (s : SimpleStatement) → Below ss slots → id + length (asserts_by_simple s) ≤
      length P.asserts → simple_faults file ss s ≡ [] →
      runs_well_scoped P slots l (lowered_simple file ss id s) ≡ true
  simple-sound l ss id (set n e) b room h =
      let q = nil_both (name_faults file ss n) (expression_faults file ss e) h in
      set-sound P slots l (place file ss n.name) (lowered file ss e) (name-sound ss n b q.0) (expression-sound ss e b q.1)
  simple-sound l ss id (change o at n e) b room h =
      let q = nil_both (name_faults file ss n) (operator_faults file ss o at (is_constant e) e ++ expression_faults file ss e) h in
      let r = nil_both (operator_faults file ss o at (is_constant e) e) (expression_faults file ss e) q.1 in
      changed-sound P slots l (place file ss n.name) o (right_side o (lowered file ss e)) (name-sound ss n b q.0)
      (right-sound P slots o (lowered file ss e) (expression-sound ss e b r.1))
  simple-sound l ss id (add_one n) b room h = changed-sound P slots l (place file ss n.name) op.Add (program.literal (pos 1))
      (name-sound ss n b h) refl
  simple-sound l ss id (subtract_one n) b room h = changed-sound P slots l (place file ss n.name) op.Subtract (program.literal (pos 1))
      (name-sound ss n b h) refl
  simple-sound l ss id (call_statement n es) b room h =
      let p = nil_both (callee_faults (callee_of file.procedures n.name) n (argument_count es) false) (arguments_faults file ss es) h in
      let place : length (if_assert n ++ asserts_of_all es) ≡ length (asserts_at (callee_of file.procedures n.name) n)
      + length (asserts_of_all es) =
      length-append (if_assert n) (asserts_of_all es) ∙ ap (λ r. length r + length (asserts_of_all es))
      (asserts_at-callee file.procedures n)
      in
      called-sound l (callee_of file.procedures n.name) n (argument_count es) id (lowered_all file ss es) refl p.0
      (count-lowered_all file ss es)
      (arguments-sound ss es b p.1) (omega arith)

  step-sound : (l : Bool) (ss : List Scope) (id : ℕ) (s : Option SimpleStatement) → Below ss slots → id + length (asserts_by_step s) ≤
      length P.asserts → step_faults file ss s ≡ [] →
      runs_well_scoped P slots l (lowered_step file ss id s) ≡ true
  step-sound l ss id None b room h = refl
  step-sound l ss id (Some s) b room h = simple-sound l ss id s b room h

  all_sound-joined : (l : Bool) (xs ys : Statements) → all_well_scoped P slots l xs ≡ true → all_well_scoped P slots l ys ≡ true →
      all_well_scoped P slots l (joined xs ys) ≡ true
  all_sound-joined l program.no_statements ys p q = q
  all_sound-joined l (program.statement x xs) ys p q = go (runs_well_scoped P slots l x) p (λ h. all_sound-joined l xs ys h q)
    where
      go : (b : Bool) → (b && all_well_scoped P slots l xs) ≡ true →
          (all_well_scoped P slots l xs ≡ true → all_well_scoped P slots l (joined xs ys) ≡ true) →
          (b && all_well_scoped P slots l (joined xs ys)) ≡ true
      go true p h = h p
      go false p h = p

  declarators-sound : (l : Bool) (ss : List Scope) (next : ℕ) (ds : List Declarator) → Below ss slots → next + length (names_of ds) ≤
      slots →
      declarators_faults file ss ds ≡ [] →
      all_well_scoped P slots l (lowered_declarators file ss next ds) ≡ true
  declarators-sound l ss next [] b room h = refl
  declarators-sound l ss next (d ∷ ds) b room h =
      let p = nil_both (optional_faults file ss d.value) (declared_faults file ss d.named ++ declarators_faults file
      (with_variable ss d.named.name 0) ds)
      h in
      let q = nil_both (declared_faults file ss d.named) (declarators_faults file (with_variable ss d.named.name 0) ds) p.1 in
      let rest = declarators-same file (with_variable ss d.named.name next) (with_variable ss d.named.name 0) ds
      (erased-variable ss ss d.named.name next 0 refl) ∙ q.1 in
      let low : next < slots = omega arith in
      both (nat_lt next slots && is_well_scoped P slots (lowered_value file ss d.value))
      (all_well_scoped P slots l (lowered_declarators file (with_variable ss d.named.name next) (next + 1) ds))
      (both (nat_lt next slots) (is_well_scoped P slots (lowered_value file ss d.value)) (lt-ltb next slots low)
      (value-sound ss d.value b p.0))
      (declarators-sound l (with_variable ss d.named.name next) (next + 1) ds (below-one ss slots next d.named.name b low) (omega arith)
      rest)

  with_init-sound : (l : Bool) (ss : List Scope) (next id : ℕ) (f : ForInit) (whole : Statement) → Below ss slots →
      next + length (declared_by_init f) ≤ slots → id + length (asserts_by_init f) ≤ length P.asserts →
      init_faults file ([] ∷ ss) f ≡ [] → runs_well_scoped P slots l whole ≡ true → runs_well_scoped P slots l
      (with_init file ss next id f whole)
      ≡ true
  with_init-sound l ss next id no_init whole b room few h w = w
  with_init-sound l ss next id (declaring ds) whole b room few h w =
      all_sound-joined l (lowered_declarators file ([] ∷ ss) next ds) (program.statement whole program.no_statements)
      (declarators-sound l ([] ∷ ss) next ds (below-push ss slots b) room h) (both (runs_well_scoped P slots l whole) true w refl)
  with_init-sound l ss next id (starting s) whole b room few h w =
      both (runs_well_scoped P slots l (lowered_simple file ([] ∷ ss) id s)) (runs_well_scoped P slots l whole && true)
      (simple-sound l ([] ∷ ss) id s (below-push ss slots b) few h) (both (runs_well_scoped P slots l whole) true w refl)

  module _ (void : Bool) where
    spliced-sound : (l : Bool) (ss : List Scope) (next : ℕ) (s : StatementTree) (whole : Statement) → Below ss slots →
        next + length (declared_by s) ≤ slots → statement_faults file void l ss s ≡ [] →
        runs_well_scoped P slots l whole ≡ true → all_well_scoped P slots l (spliced file ss next s whole) ≡ true
    spliced-sound l ss next (declare ds) whole b room h w = declarators-sound l ss next ds b room h
    spliced-sound l ss next (block a) whole b room h w = both (runs_well_scoped P slots l whole) true w refl
    spliced-sound l ss next empty whole b room h w = both (runs_well_scoped P slots l whole) true w refl
    spliced-sound l ss next (simple s) whole b room h w = both (runs_well_scoped P slots l whole) true w refl
    spliced-sound l ss next (if_then e a) whole b room h w = both (runs_well_scoped P slots l whole) true w refl
    spliced-sound l ss next (if_else e a c) whole b room h w = both (runs_well_scoped P slots l whole) true w refl
    spliced-sound l ss next (while_loop e a) whole b room h w = both (runs_well_scoped P slots l whole) true w refl
    spliced-sound l ss next (do_while a e) whole b room h w = both (runs_well_scoped P slots l whole) true w refl
    spliced-sound l ss next (for_loop f t s a) whole b room h w = both (runs_well_scoped P slots l whole) true w refl
    spliced-sound l ss next (break at) whole b room h w = both (runs_well_scoped P slots l whole) true w refl
    spliced-sound l ss next (continue at) whole b room h w = both (runs_well_scoped P slots l whole) true w refl
    spliced-sound l ss next (return at e) whole b room h w = both (runs_well_scoped P slots l whole) true w refl

    below-after : (ss : List Scope) (next : ℕ) (s : StatementTree) → Below ss slots → next + length (declared_by s) ≤ slots →
        Below (scopes_after file ss next s) slots
    below-after ss next (declare ds) b room = below-names ss slots next (names_of ds) b room
    below-after ss next (block a) b room = b
    below-after ss next empty b room = b
    below-after ss next (simple s) b room = b
    below-after ss next (if_then e a) b room = b
    below-after ss next (if_else e a c) b room = b
    below-after ss next (while_loop e a) b room = b
    below-after ss next (do_while a e) b room = b
    below-after ss next (for_loop f t s a) b room = b
    below-after ss next (break at) b room = b
    below-after ss next (continue at) b room = b
    below-after ss next (return at e) b room = b

    mutual
      pub statement-sound : (l : Bool) (ss : List Scope) (next id : ℕ) (s : StatementTree) → Below ss slots → next + length (declared_by s)
          ≤ slots → id + length (asserts_by s) ≤ length P.asserts →
          statement_faults file void l ss s ≡ [] → runs_well_scoped P slots l (lowered_statement file ss next id s) ≡ true
      statement-sound l ss next id (block a) b room few h = statements-sound l ([] ∷ ss) next id a (below-push ss slots b) room few h
      statement-sound l ss next id empty b room few h = refl
      statement-sound l ss next id (declare ds) b room few h = declarators-sound l ss next ds b room h
      statement-sound l ss next id (simple s) b room few h = simple-sound l ss id s b few h
      statement-sound l ss next id (if_then e a) b room few h =
          let p = nil_both (expression_faults file ss e) (statement_faults file void l ss a) h in
          let fewer : id + length (asserts_by a) ≤ length P.asserts = omega (arith, length-append (asserts_of e) (asserts_by a)) in
          both (is_well_scoped P slots (lowered file ss e) && runs_well_scoped P slots l (lowered_statement file ss next id a)) true
          (both (is_well_scoped P slots (lowered file ss e)) (runs_well_scoped P slots l (lowered_statement file ss next id a))
          (expression-sound ss e b p.0) (statement-sound l ss next id a b room fewer p.1)) refl
      statement-sound l ss next id (if_else e a c) b room few h =
          let p = nil_both (expression_faults file ss e) (statement_faults file void l ss a ++ statement_faults file void l ss c) h in
          let q = nil_both (statement_faults file void l ss a) (statement_faults file void l ss c) p.1 in
          let lengths = length-append (asserts_of e) (asserts_by a ++ asserts_by c) in
          let others = length-append (asserts_by a) (asserts_by c) in
          let names = length-append (declared_by a) (declared_by c) in
          both (is_well_scoped P slots (lowered file ss e) && runs_well_scoped P slots l (lowered_statement file ss next id a))
          (runs_well_scoped P slots l (lowered_statement file ss (next + length (declared_by a)) (id + length (asserts_by a)) c))
          (both (is_well_scoped P slots (lowered file ss e)) (runs_well_scoped P slots l (lowered_statement file ss next id a))
          (expression-sound ss e b p.0) (statement-sound l ss next id a b (omega arith) (omega arith) q.0))
          (statement-sound l ss (next + length (declared_by a)) (id + length (asserts_by a)) c b (omega arith) (omega arith) q.1)
      statement-sound l ss next id (while_loop e a) b room few h =
          let p = nil_both (expression_faults file ss e) (statement_faults file void true ss a) h in
          let fewer : id + length (asserts_by a) ≤ length P.asserts = omega (arith, length-append (asserts_of e) (asserts_by a)) in
          both (is_well_scoped P slots (lowered file ss e) && true) (runs_well_scoped P slots true (lowered_statement file ss next id a))
          (both (is_well_scoped P slots (lowered file ss e)) true (expression-sound ss e b p.0) refl)
          (statement-sound true ss next id a b room fewer p.1)
      statement-sound l ss next id (do_while a e) b room few h =
          let p = nil_both (statement_faults file void true ss a) (expression_faults file ss e) h in
          let fewer : id + length (asserts_by a) ≤ length P.asserts = omega (arith, length-append (asserts_by a) (asserts_of e)) in
          both (runs_well_scoped P slots true (lowered_statement file ss next id a)) (is_well_scoped P slots (lowered file ss e))
          (statement-sound true ss next id a b room fewer p.0) (expression-sound ss e b p.1)
      statement-sound l ss next id (for_loop f t s a) b room few h =
          let inside = init_scopes file ss next f in
          let plain = plain_scopes file ss f in
          let same : erased inside ≡ erased plain = erased-with_names ([] ∷ ss) ([] ∷ ss) next 0 (declared_by_init f) refl in
          let p = nil_both (init_faults file ([] ∷ ss) f)
          (optional_faults file plain t ++ (step_faults file plain s ++ statement_faults file void true plain a)) h in
          let q = nil_both (optional_faults file plain t) (step_faults file plain s ++ statement_faults file void true plain a) p.1 in
          let r = nil_both (step_faults file plain s) (statement_faults file void true plain a) q.1 in
          let names = length-append (declared_by_init f) (declared_by a) in
          let one = length-append (asserts_by_init f) (asserts_of_optional t ++ (asserts_by_step s ++ asserts_by a)) in
          let more = length-append (asserts_of_optional t) (asserts_by_step s ++ asserts_by a) in
          let last = length-append (asserts_by_step s) (asserts_by a) in
          let low : Below inside slots = below-names ([] ∷ ss) slots next (declared_by_init f) (below-push ss slots b) (omega arith) in
          let id_step = id + length (asserts_by_init f) in
          let id_body = id + length (asserts_by_init f) + length (asserts_by_step s) in
          let test : is_well_scoped P slots (lowered_test file inside t) ≡ true = test-sound inside t low
          (optional-same file inside plain t same ∙ q.0) in
          let step : runs_well_scoped P slots true (lowered_step file inside id_step s) ≡ true = step-sound true inside id_step s low
          (omega arith) (step-same file inside plain s same ∙ r.0) in
          let body : runs_well_scoped P slots true (lowered_statement file inside (next + length (declared_by_init f)) id_body a) ≡ true =
          statement-sound true inside (next + length (declared_by_init f)) id_body a low (omega arith) (omega arith)
          (statement-same file void true inside plain a same ∙ r.1) in
          with_init-sound l ss next id f (program.loop (lowered_test file inside t) (lowered_step file inside id_step s)
          (lowered_statement file inside (next + length (declared_by_init f)) id_body a)) b (omega arith) (omega arith) p.0
          (both (is_well_scoped P slots (lowered_test file inside t) && runs_well_scoped P slots true (lowered_step file inside id_step s))
          (runs_well_scoped P slots true (lowered_statement file inside (next + length (declared_by_init f)) id_body a))
          (both (is_well_scoped P slots (lowered_test file inside t)) (runs_well_scoped P slots true (lowered_step file inside id_step s))
          test
          step)
          body)
      statement-sound l ss next id (break at) b room few h = not_false l (no_fault (not_bool l) OutsideLoop at h)
      statement-sound l ss next id (continue at) b room few h = not_false l (no_fault (not_bool l) OutsideLoop at h)
      statement-sound l ss next id (return at e) b room few h = result-sound ss e b
          (nil_both (return_faults file void at e) (optional_faults file ss e) h).1

      pub statements-sound : (l : Bool) (ss : List Scope) (next id : ℕ) (a : StatementTrees) → Below ss slots →
          next + length (declared_in a) ≤ slots → id + length (asserts_in a) ≤ length P.asserts →
          statements_faults file void l ss a ≡ [] → all_well_scoped P slots l (lowered_statements file ss next id a) ≡ true
      statements-sound l ss next id no_statements b room few h = refl
      statements-sound l ss next id (statement s rest) b room few h =
          let p = nil_both (statement_faults file void l ss s) (statements_faults file void l (plain_after file ss s) rest) h in
          let names = length-append (declared_by s) (declared_in rest) in
          let places = length-append (asserts_by s) (asserts_in rest) in
          let room_here : next + length (declared_by s) ≤ slots = omega arith in
          all_sound-joined l (spliced file ss next s (lowered_statement file ss next id s))
          (lowered_statements file (scopes_after file ss next s)
          (next + length (declared_by s)) (id + length (asserts_by s)) rest)
          (spliced-sound l ss next s (lowered_statement file ss next id s) b room_here p.0
          (statement-sound l ss next id s b room_here (omega arith) p.0))
          (statements-sound l (scopes_after file ss next s) (next + length (declared_by s)) (id + length (asserts_by s)) rest
          (below-after ss next s b room_here) (omega arith) (omega arith)
          (statements-same file void l (scopes_after file ss next s) (plain_after file ss s) rest (after-same file ss next s) ∙ p.1))
