-- Bodies that are the same by fewer pairs are so by more.
use Rattle.std.proofs.Common.{ℕ, Option, Some, None, IsTrue}
use Rattle.c_tree.specs.Syntax.{Expression, literal, read, read_global, input, call, negate, not as not_of, binary, Expressions, no_expressions, expression, Statement, block, set, set_global, ignore, assume, assert, if_else, loop, do_while, break, continue, return, Statements, no_statements, statement, PureProgram}
use Rattle.summary_keep.specs.Bodies.{SameExpression, SameExpressions, SameOptional, SameStatement, SameStatements}
use Rattle.summary_keep.specs.Matching.{Related, Any, AreRelated}

-- each pair of the first is one of the second
abbrev pub Within : Related → Related → Type 0
Within S R = (i j : ℕ) → IsTrue (S i j) → IsTrue (R i j)

module _ (S R : Related) (A : ℕ → ℕ → Type 0) (within : Within S R) where
  mutual
    more_expression : (e y : Expression) → SameExpression S A e y → SameExpression R A e y
    more_expression (literal n) y h = h
    more_expression (read x) y h = h
    more_expression (read_global x) y h = h
    more_expression input y h = h
    more_expression (call p es) y h = (h.0, h.1, within p h.0 h.2, more_expressions es h.1 h.3, h.4)
    more_expression (negate e) y h = (h.0, more_expression e h.0 h.1, h.2)
    more_expression (not_of e) y h = (h.0, more_expression e h.0 h.1, h.2)
    more_expression (binary op a b) y h = (h.0, h.1, more_expression a h.0 h.2, more_expression b h.1 h.3, h.4)

    more_expressions : (es ys : Expressions) → SameExpressions S A es ys → SameExpressions R A es ys
    more_expressions no_expressions ys h = h
    more_expressions (expression e es) ys h = (h.0, h.1, more_expression e h.0 h.2, more_expressions es h.1 h.3, h.4)

  more_optional : (o y : Option Expression) → SameOptional S A o y → SameOptional R A o y
  more_optional None y h = h
  more_optional (Some e) y h = (h.0, more_expression e h.0 h.1, h.2)

  mutual
    more_statement : (a y : Statement) → SameStatement S A a y → SameStatement R A a y
    more_statement (block ss) y h = (h.0, more_statements ss h.0 h.1, h.2)
    more_statement (set x e) y h = (h.0, more_expression e h.0 h.1, h.2)
    more_statement (set_global x e) y h = (h.0, more_expression e h.0 h.1, h.2)
    more_statement (ignore e) y h = (h.0, more_expression e h.0 h.1, h.2)
    more_statement (assume e) y h = (h.0, more_expression e h.0 h.1, h.2)
    more_statement (assert i e) y h = (h.0, h.1, h.2, more_expression e h.1 h.3, h.4)
    more_statement (if_else e a b) y h =
        (h.0, h.1, h.2, more_expression e h.0 h.3, more_statement a h.1 h.4, more_statement b h.2 h.5, h.6)
    more_statement (loop e p b) y h =
        (h.0, h.1, h.2, more_expression e h.0 h.3, more_statement p h.1 h.4, more_statement b h.2 h.5, h.6)
    more_statement (do_while a e) y h = (h.0, h.1, more_statement a h.0 h.2, more_expression e h.1 h.3, h.4)
    more_statement break y h = h
    more_statement continue y h = h
    more_statement (return o) y h = (h.0, more_optional o h.0 h.1, h.2)

    pub more_statements : (ss ys : Statements) → SameStatements S A ss ys → SameStatements R A ss ys
    more_statements no_statements ys h = h
    more_statements (statement a ss) ys h = (h.0, h.1, more_statement a h.0 h.2, more_statements ss h.1 h.3, h.4)

module _ (P Q : PureProgram) where
  pub related_more : (S R : Related) → Within S R → (i j : ℕ) → AreRelated P Q S i j → AreRelated P Q R i j
  related_more S R w i j r = record {
    old = r.old;
    new = r.new;
    old_at = r.old_at;
    new_at = r.new_at;
    globals = r.globals;
    same = record {
      name = r.same.name;
      params = r.same.params;
      slots = r.same.slots;
      gives = r.same.gives;
      body = more_statements S R Any w r.old.body r.new.body r.same.body;
    };
    main = r.main;
  }
