-- The grammar, as a relation between whole lists of tokens and trees. Beside each text stands a
-- list that says for each of its tokens whether it is too deep: past the limit of operators in a
-- full expression, or the first of a statement that nests too deep.
use Rattle.std.specs.Prelude.{◌≡◌, ℕ, ◌+◌, ◌≤◌, nat_le, List, [], ◌∷◌, ◌++◌, Bool, true, false, ◌&&◌, if◌then◌else◌, Option, Some, None, slice_get, option_map, ℤ, neg_ℤ}
use Rattle.c_tree.specs.declared.tree.Pos.{Pos}
use Rattle.c_tree.specs.declared.tree.Op.{Op}
use Rattle.c_tree.specs.declared.tree.Op.TheVariants as op
use Rattle.c_lexer.specs.declared.token.Keyword.{Keyword}
use Rattle.c_lexer.specs.declared.token.Keyword.TheVariants as keyword
use Rattle.c_lexer.specs.declared.token.Punct.{Punct}
use Rattle.c_lexer.specs.declared.token.Punct.TheVariants as punct
use Rattle.c_lexer.specs.declared.token.TokenKind.{TokenKind}
use Rattle.c_lexer.specs.declared.token.TokenKind.TheVariants as kind
use Rattle.c_lexer.specs.Pure.{PureToken}
use Rattle.c_tree.specs.SourceTree as tree
use Rattle.c_tree.specs.SourceTree.{Identifier, ExpressionTree, ExpressionTrees, no_arguments, argument, SimpleStatement, Declarator, ForInit, no_init, declaring, starting, StatementTree, StatementTrees, no_statements, statement, Global, FileItem}

-- Tokens: a name, a literal, a word and a mark at a place. (A word's and a mark's text doesn't
-- matter here.)

abbrev pub a_name : Identifier → PureToken
a_name n = record { kind = kind.Name; at = n.at; text = n.name }

abbrev pub a_literal : ℤ → Pos → List ℕ → PureToken
a_literal n at text = record { kind = kind.Literal n; at = at; text = text }

abbrev pub a_word : Keyword → Pos → List ℕ → PureToken
a_word w at text = record { kind = kind.Word w; at = at; text = text }

abbrev pub a_mark : Punct → Pos → List ℕ → PureToken
a_mark m at text = record { kind = kind.Mark m; at = at; text = text }

-- the token is this word, this mark
abbrev pub IsWord : Keyword → PureToken → Type 0
IsWord w t = t.kind ≡ kind.Word w

abbrev pub IsMark : Punct → PureToken → Type 0
IsMark m t = t.kind ≡ kind.Mark m

-- Limits

abbrev pub max_operators : ℕ
max_operators = 256

abbrev pub max_nesting : ℕ
max_nesting = 64

-- the marks of operators, and the opening parenthesis
abbrev pub is_counted_mark : Punct → Bool
is_counted_mark punct.OpenParenthesis = true
is_counted_mark punct.Plus = true
is_counted_mark punct.Minus = true
is_counted_mark punct.Star = true
is_counted_mark punct.Slash = true
is_counted_mark punct.Percent = true
is_counted_mark punct.Not = true
is_counted_mark punct.Less = true
is_counted_mark punct.LessEqual = true
is_counted_mark punct.Greater = true
is_counted_mark punct.GreaterEqual = true
is_counted_mark punct.Equal = true
is_counted_mark punct.Unequal = true
is_counted_mark punct.And = true
is_counted_mark punct.Or = true
is_counted_mark punct.CloseParenthesis = false
is_counted_mark punct.OpenBrace = false
is_counted_mark punct.CloseBrace = false
is_counted_mark punct.Semicolon = false
is_counted_mark punct.Comma = false
is_counted_mark punct.Assign = false
is_counted_mark punct.PlusAssign = false
is_counted_mark punct.MinusAssign = false
is_counted_mark punct.StarAssign = false
is_counted_mark punct.SlashAssign = false
is_counted_mark punct.PercentAssign = false
is_counted_mark punct.Increment = false
is_counted_mark punct.Decrement = false

abbrev pub is_counted : TokenKind → Bool
is_counted (kind.Mark m) = is_counted_mark m
is_counted kind.Name = false
is_counted (kind.Literal n) = false
is_counted (kind.Word w) = false

-- in a full expression, of which n tokens were counted: which of the rest are past the limit
abbrev pub counted : ℕ → List PureToken → List Bool
counted n [] = []
counted n (t ∷ ts) = (is_counted t.kind && nat_le max_operators n)
    ∷ counted (if is_counted t.kind then n + 1 else n) ts

-- whether a statement of this nesting is too deep
abbrev pub is_nested : ℕ → Bool
is_nested n = nat_le (max_nesting + 1) n

-- the nesting of a statement in a block of nesting n: a block has one more
abbrev pub nesting_in : ℕ → StatementTree → ℕ
nesting_in n (tree.block ss) = n + 1
nesting_in n _ = n

-- Expressions

-- how tightly an operator binds
abbrev pub level : Op → ℕ
level op.Or = 1
level op.And = 2
level op.Equal = 3
level op.Unequal = 3
level op.Less = 4
level op.LessEqual = 4
level op.Greater = 4
level op.GreaterEqual = 4
level op.Add = 5
level op.Subtract = 5
level op.Multiply = 6
level op.Divide = 6
level op.Remainder = 6

abbrev pub mark_of : Op → Punct
mark_of op.Or = punct.Or
mark_of op.And = punct.And
mark_of op.Equal = punct.Equal
mark_of op.Unequal = punct.Unequal
mark_of op.Less = punct.Less
mark_of op.LessEqual = punct.LessEqual
mark_of op.Greater = punct.Greater
mark_of op.GreaterEqual = punct.GreaterEqual
mark_of op.Add = punct.Plus
mark_of op.Subtract = punct.Minus
mark_of op.Multiply = punct.Star
mark_of op.Divide = punct.Slash
mark_of op.Remainder = punct.Percent

pub data Prefix : Type 0 where
  not : Prefix
  negate : Prefix
  plus : Prefix

abbrev pub prefix_mark : Prefix → Punct
prefix_mark not = punct.Not
prefix_mark negate = punct.Minus
prefix_mark plus = punct.Plus

abbrev pub prefixed : Prefix → ExpressionTree → ExpressionTree
prefixed not e = tree.not e
prefixed negate e = tree.negate e
prefixed plus e = tree.plus e

-- IsExpression p text e: the text is that of the expression, whose outermost operators bind at
-- least as tightly as p.
-- Binary operators group to the left. IsArguments: one or more expressions, parted by commas.
mutual
  pub data IsExpression : ℕ → List PureToken → ExpressionTree → Type 0 where
    literal : {p : ℕ} {n : ℤ} {at : Pos} {text : List ℕ} → IsExpression p (a_literal n at text ∷ [])
        (tree.literal n)
    name : {p : ℕ} {n : Identifier} → IsExpression p (a_name n ∷ []) (tree.name n)
    call : {p : ℕ} {n : Identifier} {ts : List PureToken} {es : ExpressionTrees} → IsCall ts es →
        IsExpression p (a_name n ∷ ts) (tree.call n es)
    inside : {p : ℕ} {t : PureToken} {ts : List PureToken} {e : ExpressionTree} →
        IsMark punct.OpenParenthesis t → IsExpression 1 ts e → (u : PureToken) →
        IsMark punct.CloseParenthesis u →
        IsExpression p (t ∷ (ts ++ u ∷ [])) e
    under : {p : ℕ} {t : PureToken} {ts : List PureToken} {e : ExpressionTree} → (u : Prefix) →
        IsMark (prefix_mark u) t → IsExpression 7 ts e → IsExpression p (t ∷ ts) (prefixed u e)
    binary : {p : ℕ} {left right : List PureToken} {a b : ExpressionTree} →
        (o : Op) (t : PureToken) →
        IsMark (mark_of o) t → p ≤ level o → IsExpression (level o) left a →
        IsExpression (level o + 1) right b →
        IsExpression p (left ++ t ∷ right) (tree.binary o t.at a b)

  -- the parentheses of a call and what they hold
  pub data IsCall : List PureToken → ExpressionTrees → Type 0 where
    bare : {t u : PureToken} → IsMark punct.OpenParenthesis t → IsMark punct.CloseParenthesis u →
        IsCall (t ∷ u ∷ []) no_arguments
    passing : {t : PureToken} {ts : List PureToken} {es : ExpressionTrees} →
        IsMark punct.OpenParenthesis t → IsArguments ts es → (u : PureToken) →
        IsMark punct.CloseParenthesis u → IsCall (t ∷ (ts ++ u ∷ [])) es

  pub data IsArguments : List PureToken → ExpressionTrees → Type 0 where
    one : {ts : List PureToken} {e : ExpressionTree} → IsExpression 1 ts e →
        IsArguments ts (argument e no_arguments)
    more : {ts us : List PureToken} {e : ExpressionTree} {es : ExpressionTrees} →
        IsExpression 1 ts e → (t : PureToken) → IsMark punct.Comma t → IsArguments us es →
        IsArguments (ts ++ t ∷ us) (argument e es)

-- a full expression, and which of its tokens are too deep
abbrev pub IsFull : List PureToken → List Bool → ExpressionTree → Type 0
IsFull ts deep e = IsExpression 1 ts e × (deep ≡ counted 0 ts)

pub data IsOptional : List PureToken → List Bool → Option ExpressionTree → Type 0 where
  absent : IsOptional [] [] None
  present : {ts : List PureToken} {deep : List Bool} {e : ExpressionTree} → IsFull ts deep e →
      IsOptional ts deep (Some e)

-- Types

-- `int`, `long`, `long int`, `long long`, `long long int`
pub data IsType : List PureToken → Type 0 where
  int : {t : PureToken} → IsWord keyword.Int t → IsType (t ∷ [])
  long : {t : PureToken} → IsWord keyword.Long t → IsType (t ∷ [])
  long_int : {t u : PureToken} → IsWord keyword.Long t → IsWord keyword.Int u → IsType (t ∷ u ∷ [])
  long_long : {t u : PureToken} → IsWord keyword.Long t → IsWord keyword.Long u →
      IsType (t ∷ u ∷ [])
  long_long_int : {t u v : PureToken} → IsWord keyword.Long t → IsWord keyword.Long u →
      IsWord keyword.Int v → IsType (t ∷ u ∷ v ∷ [])

-- a type or `void`: whether it is `void`
pub data IsResultType : List PureToken → Bool → Type 0 where
  void : {t : PureToken} → IsWord keyword.Void t → IsResultType (t ∷ []) true
  typed : {ts : List PureToken} → IsType ts → IsResultType ts false

-- no token is too deep
abbrev pub all_shallow : List PureToken → List Bool
all_shallow [] = []
all_shallow (t ∷ ts) = false ∷ all_shallow ts

-- Declarations

-- a name with or without an initialiser
pub data IsDeclarator : List PureToken → List Bool → Declarator → Type 0 where
  bare : {n : Identifier} → IsDeclarator (a_name n ∷ []) (false ∷ [])
      (record { named = n; value = None })
  initialised : {n : Identifier} {t : PureToken} {ts : List PureToken} {deep : List Bool}
      {e : ExpressionTree} → IsMark punct.Assign t → IsFull ts deep e →
      IsDeclarator (a_name n ∷ t ∷ ts) (false ∷ false ∷ deep) (record { named = n; value = Some e })

-- names parted by commas, and the semicolon
pub data IsDeclarators : List PureToken → List Bool → List Declarator → Type 0 where
  last : {ts : List PureToken} {deep : List Bool} {d : Declarator} → IsDeclarator ts deep d →
      (t : PureToken) → IsMark punct.Semicolon t → IsDeclarators (ts ++ t ∷ []) (deep ++ false ∷ [])
      (d ∷ [])
  more : {ts us : List PureToken} {deep deeper : List Bool} {d : Declarator}
      {ds : List Declarator} →
      IsDeclarator ts deep d → (t : PureToken) → IsMark punct.Comma t → IsDeclarators us deeper ds →
      IsDeclarators (ts ++ t ∷ us) (deep ++ false ∷ deeper) (d ∷ ds)

pub data IsDeclaration : List PureToken → List Bool → List Declarator → Type 0 where
  declaration : {us : List PureToken} {deep : List Bool} {ds : List Declarator} →
      (ts : List PureToken) → IsType ts → IsDeclarators us deep ds →
      IsDeclaration (ts ++ us) (all_shallow ts ++ deep) ds

-- Simple statements

abbrev pub changing_mark : Op → Option Punct
changing_mark op.Add = Some punct.PlusAssign
changing_mark op.Subtract = Some punct.MinusAssign
changing_mark op.Multiply = Some punct.StarAssign
changing_mark op.Divide = Some punct.SlashAssign
changing_mark op.Remainder = Some punct.PercentAssign
changing_mark _ = None

-- A set, a change in place, or a call. The list leaves out the first token, which is never past the
-- limit of operators.
pub data IsSimple : PureToken → List PureToken → List Bool → SimpleStatement → Type 0 where
  set : {n : Identifier} {t : PureToken} {ts : List PureToken} {deep : List Bool}
      {e : ExpressionTree} →
      IsMark punct.Assign t → IsFull ts deep e → IsSimple (a_name n) (t ∷ ts) (false ∷ deep)
      (tree.set n e)
  change : {n : Identifier} {t : PureToken} {ts : List PureToken} {deep : List Bool}
      {e : ExpressionTree} → (o : Op) (m : Punct) → changing_mark o ≡ Some m → IsMark m t →
      IsFull ts deep e →
      IsSimple (a_name n) (t ∷ ts) (false ∷ deep) (tree.change o t.at n e)
  add_one : {n : Identifier} {t : PureToken} → IsMark punct.Increment t →
      IsSimple (a_name n) (t ∷ []) (false ∷ []) (tree.add_one n)
  one_added : {n : Identifier} {t : PureToken} → IsMark punct.Increment t →
      IsSimple t (a_name n ∷ []) (false ∷ []) (tree.add_one n)
  subtract_one : {n : Identifier} {t : PureToken} → IsMark punct.Decrement t →
      IsSimple (a_name n) (t ∷ []) (false ∷ []) (tree.subtract_one n)
  one_subtracted : {n : Identifier} {t : PureToken} → IsMark punct.Decrement t →
      IsSimple t (a_name n ∷ []) (false ∷ []) (tree.subtract_one n)
  call : {n : Identifier} {ts : List PureToken} {es : ExpressionTrees} → IsCall ts es →
      IsSimple (a_name n) ts (counted 0 ts) (tree.call_statement n es)

pub data IsOptionalSimple : List PureToken → List Bool → Option SimpleStatement → Type 0 where
  absent : IsOptionalSimple [] [] None
  present : {t : PureToken} {ts : List PureToken} {deep : List Bool} {s : SimpleStatement} →
      IsSimple t ts deep s → IsOptionalSimple (t ∷ ts) (false ∷ deep) (Some s)

-- the first part of a `for`, with its semicolon
pub data IsForInit : List PureToken → List Bool → ForInit → Type 0 where
  nothing : {t : PureToken} → IsMark punct.Semicolon t → IsForInit (t ∷ []) (false ∷ []) no_init
  declares : {ts : List PureToken} {deep : List Bool} {ds : List Declarator} →
      IsDeclaration ts deep ds → IsForInit ts deep (declaring ds)
  starts : {t : PureToken} {ts : List PureToken} {deep : List Bool} {s : SimpleStatement} →
      IsSimple t ts deep s → (u : PureToken) → IsMark punct.Semicolon u →
      IsForInit (t ∷ (ts ++ u ∷ [])) (false ∷ (deep ++ false ∷ [])) (starting s)

-- Statements

-- the statement ends in an `if` without `else`, so that an `else` after it would belong to that
-- one
abbrev pub takes_else : StatementTree → Bool
takes_else (tree.if_then e a) = true
takes_else (tree.if_else e a b) = takes_else b
takes_else (tree.while_loop e a) = takes_else a
takes_else (tree.for_loop f e s a) = takes_else a
takes_else _ = false

-- a test in parentheses
pub data IsTest : List PureToken → List Bool → ExpressionTree → Type 0 where
  test : {t : PureToken} {ts : List PureToken} {deep : List Bool} {e : ExpressionTree} →
      IsMark punct.OpenParenthesis t → IsFull ts deep e → (u : PureToken) →
      IsMark punct.CloseParenthesis u →
      IsTest (t ∷ (ts ++ u ∷ [])) (false ∷ (deep ++ false ∷ [])) e

-- IsStatement n text deep s: the statement has the nesting n. IsItems n: the declarations and
-- statements of a block of nesting n.
mutual
  pub data IsStatement : ℕ → List PureToken → List Bool → StatementTree → Type 0 where
    block : {n : ℕ} {t : PureToken} {ts : List PureToken} {deep : List Bool} {ss : StatementTrees} →
        IsMark punct.OpenBrace t → IsItems n ts deep ss → (u : PureToken) →
        IsMark punct.CloseBrace u →
        IsStatement n (t ∷ (ts ++ u ∷ [])) (is_nested n ∷ (deep ++ false ∷ [])) (tree.block ss)
    empty : {n : ℕ} {t : PureToken} → IsMark punct.Semicolon t →
        IsStatement n (t ∷ []) (is_nested n ∷ []) tree.empty
    simple : {n : ℕ} {t : PureToken} {ts : List PureToken} {deep : List Bool}
        {s : SimpleStatement} →
        IsSimple t ts deep s → (u : PureToken) → IsMark punct.Semicolon u →
        IsStatement n (t ∷ (ts ++ u ∷ [])) (is_nested n ∷ (deep ++ false ∷ [])) (tree.simple s)
    if_then : {n : ℕ} {t : PureToken} {ts us : List PureToken} {deep deeper : List Bool}
        {e : ExpressionTree} {a : StatementTree} → IsWord keyword.If t → IsTest ts deep e →
        IsStatement (n + 1) us deeper a →
        IsStatement n (t ∷ (ts ++ us)) (is_nested n ∷ (deep ++ deeper)) (tree.if_then e a)
    -- an `else` belongs to the nearest `if` without one
    if_else : {n : ℕ} {t : PureToken} {ts us vs : List PureToken} {deep deeper deepest : List Bool}
        {e : ExpressionTree} {a b : StatementTree} → IsWord keyword.If t → IsTest ts deep e →
        IsStatement (n + 1) us deeper a → takes_else a ≡ false →
        (u : PureToken) → IsWord keyword.Else u → IsStatement (n + 1) vs deepest b →
        IsStatement n (t ∷ (ts ++ (us ++ u ∷ vs)))
        (is_nested n ∷ (deep ++ (deeper ++ false ∷ deepest)))
        (tree.if_else e a b)
    while_loop : {n : ℕ} {t : PureToken} {ts us : List PureToken} {deep deeper : List Bool}
        {e : ExpressionTree} {a : StatementTree} → IsWord keyword.While t → IsTest ts deep e →
        IsStatement (n + 1) us deeper a →
        IsStatement n (t ∷ (ts ++ us)) (is_nested n ∷ (deep ++ deeper)) (tree.while_loop e a)
    do_while : {n : ℕ} {t : PureToken} {ts us : List PureToken} {deep deeper : List Bool}
        {e : ExpressionTree} {a : StatementTree} → IsWord keyword.Do t → IsStatement (n + 1) ts deep
        a →
        (u : PureToken) → IsWord keyword.While u → IsTest us deeper e → (v : PureToken) →
        IsMark punct.Semicolon v → IsStatement n (t ∷ (ts ++ u ∷ (us ++ v ∷ [])))
        (is_nested n ∷ (deep ++ false ∷ (deeper ++ false ∷ []))) (tree.do_while a e)
    for_loop : {n : ℕ} {t u : PureToken} {ts us vs ws : List PureToken} {d1 d2 d3 d4 : List Bool}
        {f : ForInit} {e : Option ExpressionTree} {s : Option SimpleStatement} {a : StatementTree} →
        IsWord keyword.For t → IsMark punct.OpenParenthesis u →
        IsForInit ts d1 f → IsOptional us d2 e → (v : PureToken) → IsMark punct.Semicolon v →
        IsOptionalSimple vs d3 s → (w : PureToken) → IsMark punct.CloseParenthesis w →
        IsStatement (n + 1) ws d4 a →
        IsStatement n (t ∷ u ∷ (ts ++ (us ++ v ∷ (vs ++ w ∷ ws))))
        (is_nested n ∷ false ∷ (d1 ++ (d2 ++ false ∷ (d3 ++ false ∷ d4)))) (tree.for_loop f e s a)
    break : {n : ℕ} {t u : PureToken} → IsWord keyword.Break t → IsMark punct.Semicolon u →
        IsStatement n (t ∷ u ∷ []) (is_nested n ∷ false ∷ []) (tree.break t.at)
    continue : {n : ℕ} {t u : PureToken} → IsWord keyword.Continue t → IsMark punct.Semicolon u →
        IsStatement n (t ∷ u ∷ []) (is_nested n ∷ false ∷ []) (tree.continue t.at)
    return : {n : ℕ} {t : PureToken} {ts : List PureToken} {deep : List Bool}
        {e : Option ExpressionTree} → IsWord keyword.Return t → IsOptional ts deep e →
        (u : PureToken) → IsMark punct.Semicolon u →
        IsStatement n (t ∷ (ts ++ u ∷ [])) (is_nested n ∷ (deep ++ false ∷ [])) (tree.return t.at e)

  pub data IsItems : ℕ → List PureToken → List Bool → StatementTrees → Type 0 where
    none : {n : ℕ} → IsItems n [] [] no_statements
    declaration : {n : ℕ} {ts us : List PureToken} {deep deeper : List Bool} {ds : List Declarator}
        {ss : StatementTrees} → IsDeclaration ts deep ds → IsItems n us deeper ss →
        IsItems n (ts ++ us) (deep ++ deeper) (statement (tree.declare ds) ss)
    statement_item : {n : ℕ} {ts us : List PureToken} {deep deeper : List Bool} {s : StatementTree}
        {ss : StatementTrees} → IsStatement (nesting_in n s) ts deep s → IsItems n us deeper ss →
        IsItems n (ts ++ us) (deep ++ deeper) (statement s ss)

-- Files

-- parameters of a prototype: types with or without names
pub data IsTypes : List PureToken → Type 0 where
  one : {ts : List PureToken} → IsType ts → IsTypes ts
  one_named : {ts : List PureToken} → IsType ts → (n : Identifier) → IsTypes (ts ++ a_name n ∷ [])
  more : {ts us : List PureToken} → IsType ts → (t : PureToken) → IsMark punct.Comma t →
      IsTypes us →
      IsTypes (ts ++ t ∷ us)
  more_named : {ts us : List PureToken} → IsType ts → (n : Identifier) (t : PureToken) →
      IsMark punct.Comma t → IsTypes us → IsTypes (ts ++ a_name n ∷ t ∷ us)

-- what the parentheses of a prototype hold
pub data IsTypeList : List PureToken → Type 0 where
  nothing : IsTypeList []
  void : {t : PureToken} → IsWord keyword.Void t → IsTypeList (t ∷ [])
  types : {ts : List PureToken} → IsTypes ts → IsTypeList ts

-- parameters of a procedure
pub data IsParameters : List PureToken → List Identifier → Type 0 where
  one : {ts : List PureToken} → IsType ts → (n : Identifier) → IsParameters (ts ++ a_name n ∷ [])
      (n ∷ [])
  more : {ts us : List PureToken} {ns : List Identifier} → IsType ts →
      (n : Identifier) (t : PureToken) → IsMark punct.Comma t → IsParameters us ns →
      IsParameters (ts ++ a_name n ∷ t ∷ us) (n ∷ ns)

pub data IsParameterList : List PureToken → List Identifier → Type 0 where
  nothing : IsParameterList [] []
  void : {t : PureToken} → IsWord keyword.Void t → IsParameterList (t ∷ []) []
  parameters : {ts : List PureToken} {ns : List Identifier} → IsParameters ts ns →
      IsParameterList ts ns

-- a literal with or without a sign
pub data IsSigned : List PureToken → ℤ → Type 0 where
  unsigned : {n : ℤ} {at : Pos} {text : List ℕ} → IsSigned (a_literal n at text ∷ []) n
  after_plus : {n : ℤ} {at : Pos} {text : List ℕ} {t : PureToken} → IsMark punct.Plus t →
      IsSigned (t ∷ a_literal n at text ∷ []) n
  after_minus : {n : ℤ} {at : Pos} {text : List ℕ} {t : PureToken} → IsMark punct.Minus t →
      IsSigned (t ∷ a_literal n at text ∷ []) (neg_ℤ n)

-- the name of a global with or without an opening value
pub data IsGlobal : List PureToken → Global → Type 0 where
  bare : {n : Identifier} → IsGlobal (a_name n ∷ []) (record { named = n; value = None })
  valued : {n : Identifier} {t : PureToken} {ts : List PureToken} {v : ℤ} → IsMark punct.Assign t →
      IsSigned ts v → IsGlobal (a_name n ∷ t ∷ ts) (record { named = n; value = Some v })

-- globals parted by commas, and the semicolon
pub data IsGlobals : List PureToken → List Global → Type 0 where
  last : {ts : List PureToken} {g : Global} → IsGlobal ts g → (t : PureToken) →
      IsMark punct.Semicolon t → IsGlobals (ts ++ t ∷ []) (g ∷ [])
  more : {ts us : List PureToken} {g : Global} {gs : List Global} → IsGlobal ts g →
      (t : PureToken) → IsMark punct.Comma t → IsGlobals us gs → IsGlobals (ts ++ t ∷ us) (g ∷ gs)

-- `extern` or nothing
pub data IsExtern : List PureToken → Type 0 where
  absent : IsExtern []
  present : {t : PureToken} → IsWord keyword.Extern t → IsExtern (t ∷ [])

abbrev pub max_tokens : ℕ
max_tokens = 4000

-- the place of the 4,001st token
abbrev pub past_place : List PureToken → Option Pos
past_place ts = option_map (λ t. t.at) (slice_get ts max_tokens)

-- the text of a procedure, from its type to its last brace, with what stands before its body
abbrev pub procedure_text : List PureToken → Identifier → PureToken → List PureToken → PureToken →
    List PureToken → List PureToken
procedure_text rs n t ts u body = rs ++ a_name n ∷ t ∷ (ts ++ u ∷ body)

pub data IsItem : List PureToken → List Bool → FileItem → Type 0 where
  prototype : {xs rs ts : List PureToken} {void : Bool} → IsExtern xs → IsResultType rs void →
      (n : Identifier) (t : PureToken) → IsMark punct.OpenParenthesis t → IsTypeList ts →
      (u v : PureToken) → IsMark punct.CloseParenthesis u → IsMark punct.Semicolon v →
      IsItem (xs ++ (rs ++ a_name n ∷ t ∷ (ts ++ u ∷ v ∷ [])))
      (all_shallow (xs ++ (rs ++ a_name n ∷ t ∷ (ts ++ u ∷ v ∷ [])))) (tree.prototype n)
  -- the body is a block of nesting 1
  procedure : {rs ts body : List PureToken} {void : Bool} {ns : List Identifier} {deep : List Bool}
      {ss : StatementTrees} → IsResultType rs void → (n : Identifier) (t : PureToken) →
      IsMark punct.OpenParenthesis t → IsParameterList ts ns →
      (u : PureToken) → IsMark punct.CloseParenthesis u → IsStatement 1 body deep (tree.block ss) →
      IsItem (procedure_text rs n t ts u body) (all_shallow (rs ++ a_name n ∷ t ∷ (ts ++ u ∷ []))
      ++ deep)
      (tree.procedure (record {
        void = void;
        named = n;
        params = ns;
        body = ss;
        past = past_place (procedure_text rs n t ts u body);
      }))
  -- neither `extern` nor `void` stands before globals
  globals : {ts us : List PureToken} {gs : List Global} → IsType ts → IsGlobals us gs →
      IsItem (ts ++ us) (all_shallow (ts ++ us)) (tree.globals gs)

-- the text is that of the file, and these of its tokens are too deep
pub data IsFile : List PureToken → List Bool → List FileItem → Type 0 where
  nothing : IsFile [] [] []
  item : {ts us : List PureToken} {deep deeper : List Bool} {i : FileItem} {is : List FileItem} →
      IsItem ts deep i → IsFile us deeper is → IsFile (ts ++ us) (deep ++ deeper) (i ∷ is)
