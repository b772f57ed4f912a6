-- Bodies that are equal where calls are of related procedures, and assertions are related.
use Rattle.std.specs.Prelude.{◌≡◌, ℕ, Bool, IsTrue, Option, None, Some}
use Rattle.c_tree.specs.Syntax.{Expression, literal, read, read_global, input, call, negate, not as not_of, binary, Expressions, no_expressions, expression, Statement, block, set, set_global, ignore, assume, assert, if_else, loop, do_while, break, continue, return, Statements, no_statements, statement}

-- Where R relates procedures of an old program to those of a new one, and A assertions. The first
-- body is of the old program.
module _ (R : ℕ → ℕ → Bool) (A : ℕ → ℕ → Type 0) where
  abbrev mutual
    pub SameExpression : Expression → Expression → Type 0
    SameExpression (literal n) y = y ≡ literal n
    SameExpression (read x) y = y ≡ read x
    SameExpression (read_global x) y = y ≡ read_global x
    SameExpression input y = y ≡ input
    SameExpression (call p es) y = (q : ℕ) × (fs : Expressions) × IsTrue (R p q)
        × SameExpressions es fs × (y ≡ call q fs)
    SameExpression (negate e) y = (f : Expression) × SameExpression e f × (y ≡ negate f)
    SameExpression (not_of e) y = (f : Expression) × SameExpression e f × (y ≡ not_of f)
    SameExpression (binary op a b) y = (c d : Expression) × SameExpression a c × SameExpression b d
        × (y ≡ binary op c d)

    pub SameExpressions : Expressions → Expressions → Type 0
    SameExpressions no_expressions ys = ys ≡ no_expressions
    SameExpressions (expression e es) ys = (f : Expression) × (fs : Expressions)
        × SameExpression e f × SameExpressions es fs × (ys ≡ expression f fs)

  abbrev pub SameOptional : Option Expression → Option Expression → Type 0
  SameOptional None y = y ≡ None
  SameOptional (Some e) y = (f : Expression) × SameExpression e f × (y ≡ Some f)

  abbrev mutual
    pub SameStatement : Statement → Statement → Type 0
    SameStatement (block ss) y = (ts : Statements) × SameStatements ss ts × (y ≡ block ts)
    SameStatement (set x e) y = (f : Expression) × SameExpression e f × (y ≡ set x f)
    SameStatement (set_global x e) y = (f : Expression) × SameExpression e f × (y ≡ set_global x f)
    SameStatement (ignore e) y = (f : Expression) × SameExpression e f × (y ≡ ignore f)
    SameStatement (assume e) y = (f : Expression) × SameExpression e f × (y ≡ assume f)
    SameStatement (assert i e) y = (j : ℕ) × (f : Expression) × A i j × SameExpression e f
        × (y ≡ assert j f)
    SameStatement (if_else e a b) y = (f : Expression) × (c d : Statement) × SameExpression e f
        × SameStatement a c × SameStatement b d × (y ≡ if_else f c d)
    SameStatement (loop e s b) y = (f : Expression) × (c d : Statement) × SameExpression e f
        × SameStatement s c × SameStatement b d × (y ≡ loop f c d)
    SameStatement (do_while s e) y = (c : Statement) × (f : Expression) × SameStatement s c
        × SameExpression e f × (y ≡ do_while c f)
    SameStatement break y = y ≡ break
    SameStatement continue y = y ≡ continue
    SameStatement (return o) y = (u : Option Expression) × SameOptional o u × (y ≡ return u)

    pub SameStatements : Statements → Statements → Type 0
    SameStatements no_statements ys = ys ≡ no_statements
    SameStatements (statement s ss) ys = (t : Statement) × (ts : Statements)
        × SameStatement s t × SameStatements ss ts × (ys ≡ statement t ts)
