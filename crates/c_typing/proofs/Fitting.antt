-- What a statement needs, its parts have, and what the parts become, it becomes.
use Rattle.std.proofs.Common.{◌≡◌, ℕ, ◌+◌, ◌<◌, ◌≤◌, List, [], ◌∷◌, ◌++◌, length, drop, get_or, Option, refl, ap, sym, ◌∙◌, subst, arith, length-append, Vec, Global}
use Rattle.std.proofs.lemmas.List.{at_drop_more, at_drop_all}
use Rattle.c_tree.specs.declared.syntax_tree.Declared.{Declared}
use Rattle.c_tree.specs.declared.syntax_tree.StmtTree.{StmtTree, Block, None', Some'}
use Rattle.c_tree.specs.declared.syntax_tree.StmtTree.TheVariants as code
use Rattle.c_tree.specs.Syntax as program
use Rattle.c_tree.specs.Syntax.{Expression, Statement, Statements}
use Rattle.c_tree.specs.SourceTree.{Identifier, ExpressionTree, SimpleStatement, Declarator, ForInit, no_init, declaring, starting, StatementTree, block, empty, declare, simple, if_then, if_else, while_loop, do_while, for_loop, break, continue, return}
use Rattle.c_tree.specs.SourceView.{statement_tree_of, statement_trees_of}
use Rattle.c_typing.specs.Scope.{FileScope, Scope, with_variable, with_names, names_of, declared_by, declared_in, declared_by_init, asserts_of, asserts_of_optional, asserts_by_declarators, asserts_by_init, asserts_by_step, asserts_by, asserts_in}
use Rattle.c_typing.specs.Lowering.{joined, nothing, lowered, lowered_test, lowered_step, lowered_declarators, init_scopes, with_init, scopes_after, spliced, lowered_statement, lowered_statements}
use Rattle.c_typing.specs.steps.LoweringSteps.{IsQuiet, AreQuiet, HasRoomFor, HasRoomForAll, IsLowered, IsPlaced, AreLowered, init_statements, wrapped}
use Rattle.c_typing.specs.steps.Tables.{outer_of}
use Rattle.c_tree.proofs.SourceRows.{source_block_of}
use Rattle.c_typing.proofs.Building.{joined-nil, joined-joined}
use Rattle.c_typing.proofs.Tabled.{outer-variable}

outer-with_names : (ss : List Scope) (n : ℕ) (ns : List Identifier) → outer_of (with_names ss n ns) ≡ outer_of ss
outer-with_names ss n [] = refl
outer-with_names ss n (x ∷ ns) = outer-with_names (with_variable ss x.name n) (n + 1) ns ∙ outer-variable ss x.name n

pub fits_at : (n i : ℕ) (s t : StatementTree) → s ≡ t → HasRoomFor n i s → HasRoomFor n i t
fits_at n i s t e h = subst (HasRoomFor n i) e h

pub block_shown : (v : Vec StmtTree Global) → statement_tree_of (Block v) ≡ block (statement_trees_of v.items)
block_shown v = source_block_of v

pub fits_item : (as_ : List StmtTree) (k : ℕ) (x : StmtTree) (n i n0 i0 : ℕ) → k < length as_ → x ≡ get_or as_ k x →
    HasRoomFor n0 i0 (block (statement_trees_of as_)) →
    n + length (declared_in (statement_trees_of (drop k as_))) ≡ n0 + length (declared_in (statement_trees_of as_)) →
    i + length (asserts_in (statement_trees_of (drop k as_))) ≡ i0 + length (asserts_in (statement_trees_of as_)) →
    AreQuiet (statement_trees_of (drop k as_)) → HasRoomFor n i (statement_tree_of x)
fits_item as_ k x n i n0 i0 less is h next id quiet =
    let y = statement_tree_of (get_or as_ k x) in
    let rest = statement_trees_of (drop (k + 1) as_) in
    let names = at_drop_more (λ r. length (declared_in (statement_trees_of r))) as_ k x less ∙ length-append (declared_by y)
    (declared_in rest)
    in
    let places = at_drop_more (λ r. length (asserts_in (statement_trees_of r))) as_ k x less ∙ length-append (asserts_by y)
    (asserts_in rest)
    in
    let both = subst AreQuiet (at_drop_more statement_trees_of as_ k x less) quiet in
    fits_at n i y (statement_tree_of x) (ap statement_tree_of (sym is))
    (record {
      names = (let a = h.names in omega (arith, names, next));
      places = (let a = h.places in omega (arith, places, id));
      quiet = both.0;
    })

none : (n : ℕ) (e : ExpressionTree) (a : StatementTree) → asserts_of e ≡ [] → length (asserts_of e ++ asserts_by a) ≡ length (asserts_by a)
none n e a h = ap (λ r. length (r ++ asserts_by a)) h

pub fits_block : (n i : ℕ) (as_ bs : List StmtTree) → bs ≡ as_ → HasRoomFor n i (block (statement_trees_of as_)) →
    HasRoomForAll n i (statement_trees_of bs)
fits_block n i as_ bs same h = subst (λ r. HasRoomForAll n i (statement_trees_of r)) (sym same)
    (record { names = h.names; places = h.places; quiet = h.quiet })

pub fits_then : (n i : ℕ) (e : ExpressionTree) (a b : StmtTree) → b ≡ a → HasRoomFor n i (if_then e (statement_tree_of a)) →
    HasRoomFor n i (statement_tree_of b)
fits_then n i e a b same h = fits_at n i (statement_tree_of a) (statement_tree_of b) (ap statement_tree_of (sym same))
    (record { names = h.names; places = (let p = h.places in omega (arith, none 0 e (statement_tree_of a) h.quiet.0)); quiet = h.quiet.1 })

pub fits_first : (n i : ℕ) (e : ExpressionTree) (a b : StmtTree) (c : StatementTree) → b ≡ a →
    HasRoomFor n i (if_else e (statement_tree_of a) c) → HasRoomFor n i (statement_tree_of b)
fits_first n i e a b c same h =
    let s = statement_tree_of a in
    fits_at n i s (statement_tree_of b) (ap statement_tree_of (sym same))
    (record {
      names = let p = h.names in omega (arith, length-append (declared_by s) (declared_by c));
      places = let p = h.places in omega (
        arith,
        length-append (asserts_of e) (asserts_by s ++ asserts_by c),
        length-append (asserts_by s)
            (asserts_by c),
      );
      quiet = h.quiet.1;
    })

pub fits_second : (n i n1 i1 : ℕ) (e : ExpressionTree) (a : StatementTree) (c d : StmtTree) → d ≡ c → n1 ≡ n + length (declared_by a) →
    i1 ≡ i + length (asserts_by a) → HasRoomFor n i (if_else e a (statement_tree_of c)) → HasRoomFor n1 i1 (statement_tree_of d)
fits_second n i n1 i1 e a c d same next id h =
    let t = statement_tree_of c in
    fits_at n1 i1 t (statement_tree_of d) (ap statement_tree_of (sym same))
    (record {
      names = let p = h.names in omega (arith, length-append (declared_by a) (declared_by t));
      places = let p = h.places in omega (
        arith,
        length-append (asserts_of e) (asserts_by a ++ asserts_by t),
        length-append (asserts_by a)
            (asserts_by t),
      );
      quiet = h.quiet.2;
    })

pub fits_while : (n i : ℕ) (e : ExpressionTree) (a b : StmtTree) → b ≡ a → HasRoomFor n i (while_loop e (statement_tree_of a)) →
    HasRoomFor n i (statement_tree_of b)
fits_while n i e a b same h = fits_at n i (statement_tree_of a) (statement_tree_of b) (ap statement_tree_of (sym same))
    (record { names = h.names; places = (let p = h.places in omega (arith, none 0 e (statement_tree_of a) h.quiet.0)); quiet = h.quiet.1 })

pub fits_do_while : (n i : ℕ) (e : ExpressionTree) (a b : StmtTree) → b ≡ a → HasRoomFor n i (do_while (statement_tree_of a) e) →
    HasRoomFor n i (statement_tree_of b)
fits_do_while n i e a b same h =
    fits_at n i (statement_tree_of a) (statement_tree_of b) (ap statement_tree_of (sym same))
    (record {
      names = h.names;
      places = (let p = h.places in omega (arith, length-append (asserts_by (statement_tree_of a)) (asserts_of e)));
      quiet = h.quiet.1;
    })

pub fits_body : (n i n1 i1 : ℕ) (f : ForInit) (t : Option ExpressionTree) (s : Option SimpleStatement) (a b : StmtTree) → b ≡ a →
    n1 ≡ n + length (declared_by_init f) → i1 ≡ i + length (asserts_by_init f) + length (asserts_by_step s) →
    HasRoomFor n i (for_loop f t s (statement_tree_of a)) → HasRoomFor n1 i1 (statement_tree_of b)
fits_body n i n1 i1 f t s a b same next id h =
    let x = statement_tree_of a in
    fits_at n1 i1 x (statement_tree_of b) (ap statement_tree_of (sym same))
    (record {
      names = let p = h.names in omega (arith, length-append (declared_by_init f) (declared_by x));
      places = let p = h.places in omega (
        arith,
        length-append (asserts_by_init f) (asserts_of_optional t ++ (asserts_by_step s ++ asserts_by x)),
        length-append (asserts_of_optional t) (asserts_by_step s ++ asserts_by x),
        length-append (asserts_by_step s) (asserts_by x),
      );
      quiet = h.quiet.3;
    })

-- the head of a `for`
pub for_names : (n i : ℕ) (f : ForInit) (t : Option ExpressionTree) (s : Option SimpleStatement) (a : StatementTree) →
    HasRoomFor n i (for_loop f t s a) → n + length (declared_by_init f) ≤ 24
for_names n i f t s a h = let p = h.names in omega (arith, length-append (declared_by_init f) (declared_by a))

pub for_room : (n i : ℕ) (f : ForInit) (t : Option ExpressionTree) (s : Option SimpleStatement) (a : StatementTree) →
    HasRoomFor n i (for_loop f t s a) → i + length (asserts_by_init f) + length (asserts_by_step s) ≤ 64
for_room n i f t s a h =
    let p = h.places in
    omega (
      arith,
      length-append (asserts_by_init f) (asserts_of_optional t ++ (asserts_by_step s ++ asserts_by a)),
      length-append (asserts_of_optional t) (asserts_by_step s ++ asserts_by a),
      length-append (asserts_by_step s) (asserts_by a),
    )

pub left_end : (f : List StmtTree → ℕ) (as_ : List StmtTree) (k : ℕ) → length as_ ≤ k → f [] ≡ 0 → f (drop k as_) ≡ 0
left_end f as_ k past e = at_drop_all f as_ k past ∙ e

module _ (file : FileScope) where
  pub placed_at : (ss s1 : List Scope) (n i n1 i1 : ℕ) (x : StmtTree) (as_ : List StmtTree) (k : ℕ) (old new : Statements) →
      x ≡ get_or as_ k x → IsPlaced file ss s1 n i n1 i1 (statement_tree_of x) old new → IsPlaced file ss s1 n i n1 i1
      (statement_tree_of (get_or as_ k x)) old new
  placed_at ss s1 n i n1 i1 x as_ k old new e h = subst (λ (y : StmtTree). IsPlaced file ss s1 n i n1 i1 (statement_tree_of y) old new) e h

  pub same_lowered : (ss s1 : List Scope) (n i n1 i1 : ℕ) (s t : StatementTree) (m : Statement) → s ≡ t → IsLowered file ss s1 n i n1 i1 s
      m →
      IsLowered file ss s1 n i n1 i1 t m
  same_lowered ss s1 n i n1 i1 s t m e h = subst (λ x. IsLowered file ss s1 n i n1 i1 x m) e h

  pub block_lowered : (ss opened inner s1 : List Scope) (n i n1 i1 : ℕ) (as_ bs : List StmtTree) (made : Statements) (m : Statement) →
      opened ≡ [] ∷ ss → bs ≡ as_ → s1 ≡ outer_of inner → m ≡ program.block made →
      AreLowered file opened inner n i n1 i1 (statement_trees_of bs) made → IsLowered file ss s1 n i n1 i1 (block (statement_trees_of as_))
      m
  block_lowered ss opened inner s1 n i n1 i1 as_ bs made m opens same closes is h = record {
    statement_is = is ∙ ap program.block (h.statements_are ∙ ap (λ u. lowered_statements file u n i (statement_trees_of bs)) opens
        ∙ ap (λ r. lowered_statements file ([] ∷ ss) n i (statement_trees_of r)) same);
    next_is = h.next_is ∙ ap (λ r. n + length (declared_in (statement_trees_of r))) same;
    id_is = h.id_is ∙ ap (λ r. i + length (asserts_in (statement_trees_of r))) same;
    scopes = closes ∙ h.outer ∙ ap outer_of opens;
  }

  pub declare_lowered : (ss inner : List Scope) (n i n1 i1 : ℕ) (ds : List Declarator) (made : Statements) (m : Statement) → inner ≡ ss →
      m ≡ program.block made → made ≡ lowered_declarators file inner n ds → n1 ≡ n + length (names_of ds) → i1 ≡ i →
      asserts_by_declarators ds
      ≡ [] →
      IsLowered file ss ss n i n1 i1 (declare ds) m
  declare_lowered ss inner n i n1 i1 ds made m copied is sets next id quiet = record {
    statement_is = is ∙ ap program.block (sets ∙ ap (λ u. lowered_declarators file u n ds) copied);
    next_is = next;
    id_is = let none : length (asserts_by_declarators ds) ≡ 0 = ap (λ r. length r) quiet in omega arith;
    scopes = refl;
  }

  pub if_then_lowered : (ss s1 : List Scope) (n i n1 i1 : ℕ) (e : ExpressionTree) (a b : StmtTree) (x : Expression) (y o m : Statement) →
      b ≡ a → asserts_of e ≡ [] → x ≡ lowered file ss e → o ≡ nothing → m ≡ program.if_else x y o →
      IsLowered file ss s1 n i n1 i1 (statement_tree_of b) y → IsLowered file ss s1 n i n1 i1 (if_then e (statement_tree_of a)) m
  if_then_lowered ss s1 n i n1 i1 e a b x y o m same quiet test bare is h =
      let g = same_lowered ss s1 n i n1 i1 (statement_tree_of b) (statement_tree_of a) y (ap statement_tree_of same) h in
      record {
        statement_is = is ∙ ap (λ v. program.if_else v y o) test ∙ ap (λ v. program.if_else (lowered file ss e) v o) g.statement_is
            ∙ ap (program.if_else (lowered file ss e) (lowered_statement file ss n i (statement_tree_of a))) bare;
        next_is = g.next_is;
        id_is = g.id_is ∙ ap (λ k. i + k) (sym (none 0 e (statement_tree_of a) quiet));
        scopes = g.scopes;
      }

  pub if_else_lowered : (ss s1 s2 : List Scope) (n i n1 i1 n2 i2 : ℕ) (e : ExpressionTree) (a b c d : StmtTree) (x : Expression)
      (y z m : Statement) → b ≡ a → d ≡ c → asserts_of e ≡ [] → x ≡ lowered file ss e → m ≡ program.if_else x y z →
      IsLowered file ss s1 n i n1 i1 (statement_tree_of b) y → IsLowered file s1 s2 n1 i1 n2 i2 (statement_tree_of d) z →
      IsLowered file ss s2 n i n2 i2 (if_else e (statement_tree_of a) (statement_tree_of c)) m
  if_else_lowered ss s1 s2 n i n1 i1 n2 i2 e a b c d x y z m same other quiet test is h k =
      let s = statement_tree_of a in
      let t = statement_tree_of c in
      let g = same_lowered ss s1 n i n1 i1 (statement_tree_of b) s y (ap statement_tree_of same) h in
      let w = same_lowered s1 s2 n1 i1 n2 i2 (statement_tree_of d) t z (ap statement_tree_of other) k in
      record {
        statement_is = is ∙ ap (λ v. program.if_else v y z) test ∙ ap (λ v. program.if_else (lowered file ss e) v z) g.statement_is
            ∙ ap (program.if_else (lowered file ss e) (lowered_statement file ss n i s))
            (w.statement_is ∙ ap (λ u. lowered_statement file u n1 i1 t) g.scopes ∙ ap (λ v. lowered_statement file ss v i1 t) g.next_is
            ∙ ap (λ v. lowered_statement file ss (n + length (declared_by s)) v t) g.id_is);
        next_is = let p = g.next_is in let q = w.next_is in omega (arith, length-append (declared_by s) (declared_by t));
        id_is = let p = g.id_is in let q = w.id_is in let none : length (asserts_of e) ≡ 0 = ap (λ r. length r) quiet in
            omega (arith, length-append (asserts_of e) (asserts_by s ++ asserts_by t), length-append (asserts_by s) (asserts_by t));
        scopes = w.scopes ∙ g.scopes;
      }

  pub while_lowered : (ss s1 : List Scope) (n i n1 i1 : ℕ) (e : ExpressionTree) (a b : StmtTree) (x : Expression) (y o m : Statement) →
      b ≡ a → asserts_of e ≡ [] → x ≡ lowered file ss e → o ≡ nothing → m ≡ program.loop x o y →
      IsLowered file ss s1 n i n1 i1 (statement_tree_of b) y → IsLowered file ss s1 n i n1 i1 (while_loop e (statement_tree_of a)) m
  while_lowered ss s1 n i n1 i1 e a b x y o m same quiet test bare is h =
      let g = same_lowered ss s1 n i n1 i1 (statement_tree_of b) (statement_tree_of a) y (ap statement_tree_of same) h in
      record {
        statement_is = is ∙ ap (λ v. program.loop v o y) test ∙ ap (λ v. program.loop (lowered file ss e) v y) bare
            ∙ ap (program.loop (lowered file ss e) nothing) g.statement_is;
        next_is = g.next_is;
        id_is = g.id_is ∙ ap (λ k. i + k) (sym (none 0 e (statement_tree_of a) quiet));
        scopes = g.scopes;
      }

  pub do_while_lowered : (ss s1 : List Scope) (n i n1 i1 : ℕ) (e : ExpressionTree) (a b : StmtTree) (x : Expression) (y m : Statement) →
      b ≡ a → asserts_of e ≡ [] → x ≡ lowered file s1 e → m ≡ program.do_while y x →
      IsLowered file ss s1 n i n1 i1 (statement_tree_of b) y → IsLowered file ss s1 n i n1 i1 (do_while (statement_tree_of a) e) m
  do_while_lowered ss s1 n i n1 i1 e a b x y m same quiet test is h =
      let s = statement_tree_of a in
      let g = same_lowered ss s1 n i n1 i1 (statement_tree_of b) s y (ap statement_tree_of same) h in
      record {
        statement_is = is ∙ ap (λ v. program.do_while v x) g.statement_is ∙ ap (program.do_while (lowered_statement file ss n i s))
            (test ∙ ap (λ u. lowered file u e) g.scopes);
        next_is = g.next_is;
        id_is = let p = g.id_is in let none : length (asserts_of e) ≡ 0 = ap (λ r. length r) quiet in
            omega (arith, length-append (asserts_by s) (asserts_of e));
        scopes = g.scopes;
      }

  wrapped-is : (ss : List Scope) (n i : ℕ) (f : ForInit) (whole : Statement) → wrapped f (init_statements file ([] ∷ ss) n i f) whole
      ≡ with_init file ss n i f whole
  wrapped-is ss n i no_init whole = refl
  wrapped-is ss n i (declaring ds) whole = refl
  wrapped-is ss n i (starting s) whole = refl

  outer-names : (ss : List Scope) (n : ℕ) (f : ForInit) → outer_of (init_scopes file ss n f) ≡ ss
  outer-names ss n f = outer-with_names ([] ∷ ss) n (declared_by_init f)

  pub for_lowered : (ss head inner s1 : List Scope) (n i n1 i1 n2 i2 : ℕ) (f : ForInit) (t : Option ExpressionTree)
      (s : Option SimpleStatement) (a b : StmtTree) (before : Statements) (x : Expression) (y z w m : Statement) → b ≡ a →
      asserts_of_optional t ≡ [] →
      head ≡ init_scopes file ss n f → before ≡ init_statements file ([] ∷ ss) n i f → x ≡ lowered_test file (init_scopes file ss n f) t →
      y ≡ lowered_step file (init_scopes file ss n f) (i + length (asserts_by_init f)) s →
      n1 ≡ n + length (declared_by_init f) → i1 ≡ i + length (asserts_by_init f) + length (asserts_by_step s) → IsLowered file head inner n1
      i1 n2 i2 (statement_tree_of b) z → s1 ≡ outer_of inner → w ≡ program.loop x y z → m ≡ wrapped f before w →
      IsLowered file ss s1 n i n2 i2 (for_loop f t s (statement_tree_of a)) m
  for_lowered ss head inner s1 n i n1 i1 n2 i2 f t s a b before x y z w m same quiet at sets test step next id h closes loop is =
      let body = statement_tree_of a in
      let scope = init_scopes file ss n f in
      let g = same_lowered head inner n1 i1 n2 i2 (statement_tree_of b) body z (ap statement_tree_of same) h in
      let id_body = i + length (asserts_by_init f) + length (asserts_by_step s) in
      let inside : z ≡ lowered_statement file scope (n + length (declared_by_init f)) id_body body =
      g.statement_is ∙ ap (λ u. lowered_statement file u n1 i1 body) at ∙ ap (λ v. lowered_statement file scope v i1 body) next
      ∙ ap (λ v. lowered_statement file scope (n + length (declared_by_init f)) v body) id in
      let whole = program.loop (lowered_test file scope t) (lowered_step file scope (i + length (asserts_by_init f)) s)
      (lowered_statement file scope (n + length (declared_by_init f)) id_body body) in
      record {
        statement_is = is ∙ ap (λ v. wrapped f v w) sets ∙ ap (wrapped f (init_statements file ([] ∷ ss) n i f))
            (loop ∙ ap (λ v. program.loop v y z) test ∙ ap (λ v. program.loop (lowered_test file scope t) v z) step
            ∙ ap (program.loop (lowered_test file scope t) (lowered_step file scope (i + length (asserts_by_init f)) s)) inside)
            ∙ wrapped-is ss n i f whole;
        next_is = let p = g.next_is in omega (arith, length-append (declared_by_init f) (declared_by body));
        id_is =
            let p = g.id_is in
            let none : length (asserts_of_optional t) ≡ 0 = ap (λ r. length r) quiet in
            omega (
              arith,
              length-append (asserts_by_init f) (asserts_of_optional t ++ (asserts_by_step s ++ asserts_by body)),
              length-append (asserts_of_optional t) (asserts_by_step s ++ asserts_by body),
              length-append (asserts_by_step s) (asserts_by body),
            );
        scopes = closes ∙ ap outer_of (g.scopes ∙ at) ∙ outer-names ss n f;
      }

  -- a block's statements, one after another
  abbrev pub lowered_left : List Scope → (n i : ℕ) → Statements → List StmtTree → Statements
  lowered_left ss n i out as_ = joined out (lowered_statements file ss n i (statement_trees_of as_))

  abbrev pub declared_left : List StmtTree → ℕ
  declared_left as_ = length (declared_in (statement_trees_of as_))

  abbrev pub asserts_left : List StmtTree → ℕ
  asserts_left as_ = length (asserts_in (statement_trees_of as_))

  pub lowered_turn : (as_ : List StmtTree) (k : ℕ) (d : StmtTree) (ss s1 : List Scope) (n i n1 i1 : ℕ) (out o1 goal : Statements) →
      k < length as_ → IsPlaced file ss s1 n i n1 i1 (statement_tree_of (get_or as_ k d)) out o1 → lowered_left ss n i out (drop k as_)
      ≡ goal →
      lowered_left s1 n1 i1 o1 (drop (k + 1) as_) ≡ goal
  lowered_turn as_ k d ss s1 n i n1 i1 out o1 goal less h left =
      let s = statement_tree_of (get_or as_ k d) in
      let rest = statement_trees_of (drop (k + 1) as_) in
      let here = spliced file ss n s (lowered_statement file ss n i s) in
      ap (λ o. joined o (lowered_statements file s1 n1 i1 rest)) h.statements_are
      ∙ ap (λ u. joined (joined out here) (lowered_statements file u n1 i1 rest)) h.scopes
      ∙ ap (λ v. joined (joined out here) (lowered_statements file (scopes_after file ss n s) v i1 rest)) h.next_is
      ∙ ap (λ v. joined (joined out here) (lowered_statements file (scopes_after file ss n s) (n + length (declared_by s)) v rest)) h.id_is
      ∙ joined-joined out here (lowered_statements file (scopes_after file ss n s) (n + length (declared_by s)) (i + length (asserts_by s))
      rest)
      ∙ sym (at_drop_more (lowered_left ss n i out) as_ k d less) ∙ left

  pub lowered_end : (as_ : List StmtTree) (k : ℕ) (ss : List Scope) (n i : ℕ) (out goal : Statements) → length as_ ≤ k →
      lowered_left ss n i out (drop k as_) ≡ goal → out ≡ goal
  lowered_end as_ k ss n i out goal past left = sym (joined-nil out) ∙ sym (at_drop_all (lowered_left ss n i out) as_ k past) ∙ left

  pub declared_turn : (as_ : List StmtTree) (k : ℕ) (d : StmtTree) → k < length as_ → declared_left (drop k as_)
      ≡ length (declared_by (statement_tree_of (get_or as_ k d))) + declared_left (drop (k + 1) as_)
  declared_turn as_ k d less = at_drop_more declared_left as_ k d less ∙ length-append (declared_by (statement_tree_of (get_or as_ k d)))
      (declared_in (statement_trees_of (drop (k + 1) as_)))

  pub asserts_turn : (as_ : List StmtTree) (k : ℕ) (d : StmtTree) → k < length as_ → asserts_left (drop k as_)
      ≡ length (asserts_by (statement_tree_of (get_or as_ k d))) + asserts_left (drop (k + 1) as_)
  asserts_turn as_ k d less = at_drop_more asserts_left as_ k d less ∙ length-append (asserts_by (statement_tree_of (get_or as_ k d)))
      (asserts_in (statement_trees_of (drop (k + 1) as_)))

  pub quiet_turn : (as_ : List StmtTree) (k : ℕ) (d : StmtTree) → k < length as_ → AreQuiet (statement_trees_of (drop k as_)) →
      IsQuiet (statement_tree_of (get_or as_ k d)) × AreQuiet (statement_trees_of (drop (k + 1) as_))
  quiet_turn as_ k d less h = subst (λ r. AreQuiet r) (at_drop_more statement_trees_of as_ k d less) h

  pub outer-after : (ss : List Scope) (n : ℕ) (s : StatementTree) → outer_of (scopes_after file ss n s) ≡ outer_of ss
  outer-after ss n (declare ds) = outer-with_names ss n (names_of ds)
  outer-after ss n (block a) = refl
  outer-after ss n empty = refl
  outer-after ss n (simple s) = refl
  outer-after ss n (if_then e a) = refl
  outer-after ss n (if_else e a c) = refl
  outer-after ss n (while_loop e a) = refl
  outer-after ss n (do_while a e) = refl
  outer-after ss n (for_loop f t s a) = refl
  outer-after ss n (break at) = refl
  outer-after ss n (continue at) = refl
  outer-after ss n (return at e) = refl

  abbrev pub IsPlain : StatementTree → Type 0
  IsPlain (declare ds) = ⊥
  IsPlain _ = Unit {0}

  pub plain_placed : (ss s1 : List Scope) (n i n1 i1 : ℕ) (s : StatementTree) (m : Statement) (old new : Statements) → IsPlain s →
      new ≡ joined old (program.statement m program.no_statements) → IsLowered file ss s1 n i n1 i1 s m → IsPlaced file ss s1 n i n1 i1 s
      old
      new
  plain_placed ss s1 n i n1 i1 s m old new plain push h = record {
    statements_are = push ∙ ap (λ x. joined old (program.statement x program.no_statements)) h.statement_is ∙ ap (joined old)
        (sym (alone s plain (lowered_statement file ss n i s)));
    next_is = h.next_is;
    id_is = h.id_is;
    scopes = h.scopes ∙ sym (still s plain);
  }
    where
      alone : (s : StatementTree) → IsPlain s → (whole : Statement) → spliced file ss n s whole ≡ program.statement whole
          program.no_statements
      alone (declare ds) h whole = absurd h
      alone (block a) h whole = refl
      alone empty h whole = refl
      alone (simple s) h whole = refl
      alone (if_then e a) h whole = refl
      alone (if_else e a c) h whole = refl
      alone (while_loop e a) h whole = refl
      alone (do_while a e) h whole = refl
      alone (for_loop f t s a) h whole = refl
      alone (break at) h whole = refl
      alone (continue at) h whole = refl
      alone (return at e) h whole = refl

      still : (s : StatementTree) → IsPlain s → scopes_after file ss n s ≡ ss
      still (declare ds) h = absurd h
      still (block a) h = refl
      still empty h = refl
      still (simple s) h = refl
      still (if_then e a) h = refl
      still (if_else e a c) h = refl
      still (while_loop e a) h = refl
      still (do_while a e) h = refl
      still (for_loop f t s a) h = refl
      still (break at) h = refl
      still (continue at) h = refl
      still (return at e) h = refl

  -- only a declaration isn't plain
  pub plain_tree : (t : StmtTree) → ((ds : Vec Declared Global) → t ≡ code.Declare ds → ⊥) → IsPlain (statement_tree_of t)
  plain_tree (code.Block' shape all) h = tt
  plain_tree code.Empty h = tt
  plain_tree (code.Declare ds) h = absurd (h ds refl)
  plain_tree (code.Simple s) h = tt
  plain_tree (code.If' e p a None') h = tt
  plain_tree (code.If' e p a (Some' q b)) h = tt
  plain_tree (code.While' e p a) h = tt
  plain_tree (code.DoWhile' p a e) h = tt
  plain_tree (code.For' f t s p a) h = tt
  plain_tree (code.Break at) h = tt
  plain_tree (code.Continue at) h = tt
  plain_tree (code.Return at e) h = tt
