-- What is found in each kind of statement.
use Rattle.std.proofs.Common.{◌≡◌, Bool, true, List, [], ◌∷◌, ◌++◌, Option, refl, ap, ◌∙◌, append_assoc}
use Rattle.std.proofs.lemmas.List.{append-nil}
use Rattle.c_tree.specs.SourceTree.{ExpressionTree, SimpleStatement, ForInit, StatementTree, block, if_then, if_else, while_loop, do_while, for_loop}
use Rattle.c_tree.specs.declared.syntax_tree.StmtTree.{StmtTree}
use Rattle.c_tree.specs.SourceView.{statement_tree_of, statement_trees_of}
use Rattle.c_typing.specs.Scope.{FileScope, Scope, declared_by_init, declared_by, declared_in, asserts_of, asserts_of_optional, asserts_by_init, asserts_by_step, asserts_by, asserts_in}
use Rattle.c_typing.specs.Faults.{expression_faults, optional_faults, init_faults, step_faults, init_scopes, statement_faults, statements_faults}
use Rattle.c_typing.specs.steps.Tables.{Noted, noted, with_zeros}
use Rattle.c_typing.proofs.Erased.{erased, optional-same, step-same, statement-same}
use Rattle.c_typing.proofs.Noting.{noted_two}
use Rattle.c_typing.proofs.Declaring.{erased-zeros}

module _ (file : FileScope) (void : Bool) where
  abbrev pub said : Bool → List Scope → Noted → StatementTree → Noted
  said l ss n s = noted n (statement_faults file void l ss s) (declared_by s) (asserts_by s)

  pub block_said : (l : Bool) (ss opened : List Scope) (n n1 : Noted) (as_ bs : List StmtTree) → opened ≡ [] ∷ ss → bs ≡ as_ →
      n1 ≡ noted n (statements_faults file void l opened (statement_trees_of bs)) (declared_in (statement_trees_of bs))
      (asserts_in (statement_trees_of bs)) → n1 ≡ said l ss n (block (statement_trees_of as_))
  block_said l ss opened n n1 as_ bs opens same h =
      h ∙ ap (λ u. noted n (statements_faults file void l u (statement_trees_of bs)) (declared_in (statement_trees_of bs))
      (asserts_in (statement_trees_of bs))) opens ∙ ap (λ r. said l ss n (block (statement_trees_of r))) same

  pub if_then_said : (l : Bool) (ss : List Scope) (n n1 n2 : Noted) (e : ExpressionTree) (a b : StmtTree) → b ≡ a →
      n1 ≡ noted n (expression_faults file ss e) [] (asserts_of e) → n2 ≡ said l ss n1 (statement_tree_of b) →
      n2 ≡ said l ss n (if_then e (statement_tree_of a))
  if_then_said l ss n n1 n2 e a b same h1 h2 =
      let s = statement_tree_of a in
      noted_two n n1 n2 (expression_faults file ss e) (statement_faults file void l ss s) [] (declared_by s) (asserts_of e) (asserts_by s)
      h1
      (h2 ∙ ap (λ x. said l ss n1 (statement_tree_of x)) same)

  pub while_said : (l : Bool) (ss : List Scope) (n n1 n2 : Noted) (e : ExpressionTree) (a b : StmtTree) → b ≡ a →
      n1 ≡ noted n (expression_faults file ss e) [] (asserts_of e) → n2 ≡ said true ss n1 (statement_tree_of b) →
      n2 ≡ said l ss n (while_loop e (statement_tree_of a))
  while_said l ss n n1 n2 e a b same h1 h2 =
      let s = statement_tree_of a in
      noted_two n n1 n2 (expression_faults file ss e) (statement_faults file void true ss s) [] (declared_by s) (asserts_of e)
      (asserts_by s)
      h1
      (h2 ∙ ap (λ x. said true ss n1 (statement_tree_of x)) same)

  pub do_while_said : (l : Bool) (ss s1 : List Scope) (n n1 n2 : Noted) (e : ExpressionTree) (a b : StmtTree) → b ≡ a → s1 ≡ ss →
      n1 ≡ said true ss n (statement_tree_of b) → n2 ≡ noted n1 (expression_faults file s1 e) [] (asserts_of e) →
      n2 ≡ said l ss n (do_while (statement_tree_of a) e)
  do_while_said l ss s1 n n1 n2 e a b same scopes h1 h2 =
      let s = statement_tree_of a in
      noted_two n n1 n2 (statement_faults file void true ss s) (expression_faults file ss e) (declared_by s) [] (asserts_by s)
      (asserts_of e)
      (h1 ∙ ap (λ x. said true ss n (statement_tree_of x)) same) (h2 ∙ ap (λ u. noted n1 (expression_faults file u e) [] (asserts_of e))
      scopes)
      ∙ ap (λ d. noted n (statement_faults file void true ss s ++ expression_faults file ss e) d (asserts_by s ++ asserts_of e))
      (append-nil (declared_by s))

  pub if_else_said : (l : Bool) (ss s1 : List Scope) (n n1 n2 n3 : Noted) (e : ExpressionTree) (a b c d : StmtTree) → b ≡ a → d ≡ c →
      s1 ≡ ss → n1 ≡ noted n (expression_faults file ss e) [] (asserts_of e) → n2 ≡ said l ss n1 (statement_tree_of b) →
      n3 ≡ said l s1 n2 (statement_tree_of d) → n3 ≡ said l ss n (if_else e (statement_tree_of a) (statement_tree_of c))
  if_else_said l ss s1 n n1 n2 n3 e a b c d same other scopes h1 h2 h3 =
      let s = statement_tree_of a in
      let t = statement_tree_of c in
      let rest = noted_two n1 n2 n3 (statement_faults file void l ss s) (statement_faults file void l ss t) (declared_by s) (declared_by t)
      (asserts_by s) (asserts_by t) (h2 ∙ ap (λ x. said l ss n1 (statement_tree_of x)) same)
      (h3 ∙ ap (λ u. said l u n2 (statement_tree_of d)) scopes ∙ ap (λ x. said l ss n2 (statement_tree_of x)) other) in
      noted_two n n1 n3 (expression_faults file ss e) (statement_faults file void l ss s ++ statement_faults file void l ss t) []
      (declared_by s ++ declared_by t) (asserts_of e) (asserts_by s ++ asserts_by t) h1 rest

  abbrev pub headed : List Scope → Noted → ForInit → Option ExpressionTree → Option SimpleStatement → Noted
  headed ss n f t s =
      noted n (init_faults file ([] ∷ ss) f ++ (optional_faults file (with_zeros ([] ∷ ss) (declared_by_init f)) t ++ step_faults file
      (with_zeros ([] ∷ ss) (declared_by_init f)) s)) (declared_by_init f) (asserts_by_init f ++ (asserts_of_optional t ++ asserts_by_step
      s))

  pub head_said : (ss opened z : List Scope) (n n1 n2 n3 : Noted) (f : ForInit) (t : Option ExpressionTree) (s : Option SimpleStatement) →
      opened ≡ [] ∷ ss → z ≡ with_zeros opened (declared_by_init f) →
      n1 ≡ noted n (init_faults file opened f) (declared_by_init f) (asserts_by_init f) → n2 ≡ noted n1 (optional_faults file z t) []
      (asserts_of_optional t) → n3 ≡ noted n2 (step_faults file z s) [] (asserts_by_step s) → n3 ≡ headed ss n f t s
  head_said ss opened z n n1 n2 n3 f t s opens inside h1 h2 h3 =
      let zeros = with_zeros ([] ∷ ss) (declared_by_init f) in
      let same : z ≡ zeros = inside ∙ ap (λ u. with_zeros u (declared_by_init f)) opens in
      let rest = noted_two n1 n2 n3 (optional_faults file zeros t) (step_faults file zeros s) [] [] (asserts_of_optional t)
      (asserts_by_step s)
      (h2 ∙ ap (λ u. noted n1 (optional_faults file u t) [] (asserts_of_optional t)) same)
      (h3 ∙ ap (λ u. noted n2 (step_faults file u s) [] (asserts_by_step s)) same) in
      noted_two n n1 n3 (init_faults file ([] ∷ ss) f) (optional_faults file zeros t ++ step_faults file zeros s) (declared_by_init f) []
      (asserts_by_init f) (asserts_of_optional t ++ asserts_by_step s)
      (h1 ∙ ap (λ u. noted n (init_faults file u f) (declared_by_init f) (asserts_by_init f)) opens) rest
      ∙ ap (λ d. noted n (init_faults file ([] ∷ ss) f ++ (optional_faults file zeros t ++ step_faults file zeros s)) d
      (asserts_by_init f ++ (asserts_of_optional t ++ asserts_by_step s))) (append-nil (declared_by_init f))

  pub for_said : (l : Bool) (ss z : List Scope) (n n1 n2 : Noted) (f : ForInit) (t : Option ExpressionTree) (s : Option SimpleStatement)
      (a b : StmtTree) → b ≡ a → z ≡ with_zeros ([] ∷ ss) (declared_by_init f) → n1 ≡ headed ss n f t s →
      n2 ≡ said true z n1 (statement_tree_of b) → n2 ≡ said l ss n (for_loop f t s (statement_tree_of a))
  for_said l ss z n n1 n2 f t s a b same inside h1 h2 =
      let body = statement_tree_of a in
      let zeros = with_zeros ([] ∷ ss) (declared_by_init f) in
      let plain = init_scopes file ss f in
      let alike : erased zeros ≡ erased plain = erased-zeros ([] ∷ ss) ([] ∷ ss) 0 (declared_by_init f) refl in
      let i = init_faults file ([] ∷ ss) f in
      let names = declared_by_init f ++ declared_by body in
      let places = asserts_by_init f ++ (asserts_of_optional t ++ (asserts_by_step s ++ asserts_by body)) in
      noted_two n n1 n2 (i ++ (optional_faults file zeros t ++ step_faults file zeros s)) (statement_faults file void true zeros body)
      (declared_by_init f) (declared_by body) (asserts_by_init f ++ (asserts_of_optional t ++ asserts_by_step s)) (asserts_by body) h1
      (h2 ∙ ap (λ x. said true z n1 (statement_tree_of x)) same ∙ ap (λ u. said true u n1 body) inside)
      ∙ ap (λ p. noted n ((i ++ (optional_faults file zeros t ++ step_faults file zeros s)) ++ statement_faults file void true zeros body)
      names
      p)
      (append_assoc (asserts_by_init f) (asserts_of_optional t ++ asserts_by_step s) (asserts_by body) ∙ ap (λ r. asserts_by_init f ++ r)
      (append_assoc (asserts_of_optional t) (asserts_by_step s) (asserts_by body)))
      ∙ ap (λ fs. noted n fs names places)
      (append_assoc i (optional_faults file zeros t ++ step_faults file zeros s) (statement_faults file void true zeros body)
      ∙ ap (λ r. i ++ r)
      (append_assoc (optional_faults file zeros t) (step_faults file zeros s) (statement_faults file void true zeros body)))
      ∙ ap (λ o. noted n (i ++ (o ++ (step_faults file zeros s ++ statement_faults file void true zeros body))) names places)
      (optional-same file zeros plain t alike)
      ∙ ap (λ o. noted n (i ++ (optional_faults file plain t ++ (o ++ statement_faults file void true zeros body))) names places)
      (step-same file zeros plain s alike)
      ∙ ap (λ o. noted n (i ++ (optional_faults file plain t ++ (step_faults file plain s ++ o))) names places)
      (statement-same file void true zeros plain body alike)
