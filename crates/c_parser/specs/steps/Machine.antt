-- A reader of tokens, one after another: what it waits for, what it makes, and which tokens are too
-- deep.
use Rattle.std.specs.Prelude.{◌≡◌, ℕ, ◌+◌, ◌-◌, ◌<◌, ◌≤◌, nat_le, List, [], ◌∷◌, ◌++◌, length, take, Bool, true, false, ◌&&◌, if◌then◌else◌, not, Option, Some, None, ℤ, neg_ℤ}
use Rattle.c_tree.specs.declared.tree.Pos.{Pos}
use Rattle.c_tree.specs.declared.tree.Op.{Op}
use Rattle.c_tree.specs.declared.tree.Op.TheVariants as op
use Rattle.c_lexer.specs.declared.token.Keyword.TheVariants as keyword
use Rattle.c_lexer.specs.declared.token.Punct.{Punct}
use Rattle.c_lexer.specs.declared.token.Punct.TheVariants as punct
use Rattle.c_lexer.specs.declared.token.TokenKind.{TokenKind}
use Rattle.c_lexer.specs.declared.token.TokenKind.TheVariants as kind
use Rattle.c_lexer.specs.Pure.{PureToken}
use Rattle.c_tree.specs.SourceTree as tree
use Rattle.c_tree.specs.SourceTree.{Identifier, ExpressionTree, ExpressionTrees, no_arguments, argument, SimpleStatement, Declarator, ForInit, no_init, declaring, starting, StatementTree, StatementTrees, no_statements, statement, Global, FileItem}
use Rattle.c_parser.specs.Grammar.{Prefix, prefixed, level, is_counted, max_operators, is_nested, past_place}
use Rattle.c_parser.specs.Grammar as grammar

-- What was begun and is not whole

-- the beginning of a procedure or a prototype
pub record Head : Type 0 where
  pub outer : Bool
  pub void : Bool
  pub named : Identifier
  pub params : List Identifier
  -- each parameter has a name
  pub whole : Bool

-- a procedure's own block, and the statements around a place
pub data Frames : Type 0 where
  Outermost : Head → StatementTrees → Frames
  Within : StatementTrees → Frames → Frames
  Then : ExpressionTree → Frames → Frames
  Otherwise : ExpressionTree → StatementTree → Frames → Frames
  Body : ExpressionTree → Frames → Frames
  Doing : Frames → Frames
  ForBody : ForInit → Option ExpressionTree → Option SimpleStatement → Frames → Frames

-- in an expression
pub data Part : Type 0 where
  After : Op → Pos → ExpressionTree → Part
  Under : Prefix → Part
  Inside : Part
  Passing : Identifier → ExpressionTrees → Part

-- where a simple statement stands
pub data Spot : Type 0 where
  Alone : Frames → Spot
  First : Frames → Spot
  Step : ForInit → Option ExpressionTree → Frames → Spot

-- where a declaration stands
pub data Site : Type 0 where
  InBlock : Frames → Site
  InFor : Frames → Site

-- what a test in parentheses is for
pub data Tested : Type 0 where
  IfTest : Tested
  WhileTest : Tested
  DoTest : StatementTree → Tested

-- what a full expression is for
pub data Purpose : Type 0 where
  Testing : Tested → Frames → Purpose
  Setting : Identifier → Spot → Purpose
  Changing : Op → Pos → Identifier → Spot → Purpose
  Arguing : Identifier → ExpressionTrees → Spot → Purpose
  Initialising : Identifier → Site → List Declarator → Purpose
  ForTesting : ForInit → Frames → Purpose
  Returning : Pos → Frames → Purpose

-- which words of a type were read
pub data Words : Type 0 where
  AllRead : Words
  LongRead : Words
  LongLongRead : Words

-- what a type is for: a result, after `extern` or not, a parameter, a declaration
pub data Typed : Type 0 where
  Result : Bool → Typed
  Parameter : Head → Typed
  Declaring : Site → Typed

pub data State : Type 0 where
  -- an item or the end
  Begin : State
  -- `extern` was read
  Externed : State
  -- `void` was read, after `extern` or not
  Voided : Bool → State
  -- words of a type were read
  Typing : Words → Typed → State
  -- the name of a procedure or a prototype was read
  Titled : Head → State
  -- a comma was read after these globals
  GlobalNext : List Global → State
  -- the name of a further global was read
  GlobalNamed : Identifier → List Global → State
  -- `=` was read there
  GlobalAssigned : Identifier → List Global → State
  -- a sign was read there, `-` or `+`
  GlobalSigned : Bool → Identifier → List Global → State
  -- globals with their opening values were read
  GlobalRead : List Global → State
  -- its parenthesis was read
  Opened : Head → State
  -- `void` was read there
  NoParameters : Head → State
  -- a comma was read there
  NextParameter : Head → State
  -- a parameter with its name was read
  ParameterNamed : Head → State
  -- the closing parenthesis was read
  Closed : Head → State
  -- a statement, a declaration or the end of a block
  Start : Frames → State
  -- a statement was read
  Done : StatementTree → Frames → State
  -- a parenthesis and a test
  Test : Tested → Frames → State
  -- a semicolon, and the statement is read
  Ending : StatementTree → Frames → State
  -- `return` was read
  Returned : Pos → Frames → State
  -- `for` was read
  ForOpen : Frames → State
  -- the first part of a `for`
  ForFirst : Frames → State
  -- its test
  ForTest : ForInit → Frames → State
  -- its step
  ForStep : ForInit → Option ExpressionTree → Frames → State
  -- a simple statement's name was read
  Target : Identifier → Spot → State
  -- `++` was read, or `--`
  Stepping : Bool → Spot → State
  -- a name and a parenthesis were read for a call that is a statement
  CallOpened : ℕ → Identifier → Spot → State
  -- a simple statement was read
  Simple : SimpleStatement → Spot → State
  -- a declared name
  NextName : Site → List Declarator → State
  -- a declared name was read
  Declared : Identifier → Site → List Declarator → State
  -- an operand. The number counts what was read of the full expression
  Want : ℕ → List Part → Purpose → State
  -- a name was read for an operand
  Named : ℕ → Identifier → List Part → Purpose → State
  -- a name and a parenthesis were read: an argument or the end
  Called : ℕ → Identifier → List Part → Purpose → State
  -- an operand was read
  Have : ℕ → ExpressionTree → List Part → Purpose → State

-- Tests of tokens

abbrev pub is_open : TokenKind → Bool
is_open (kind.Mark punct.OpenParenthesis) = true
is_open _ = false

abbrev pub is_close : TokenKind → Bool
is_close (kind.Mark punct.CloseParenthesis) = true
is_close _ = false

abbrev pub is_semicolon : TokenKind → Bool
is_semicolon (kind.Mark punct.Semicolon) = true
is_semicolon _ = false

abbrev pub is_else : TokenKind → Bool
is_else (kind.Word keyword.Else) = true
is_else _ = false

abbrev pub first_word : TokenKind → Option Words
first_word (kind.Word keyword.Int) = Some AllRead
first_word (kind.Word keyword.Long) = Some LongRead
first_word _ = None

abbrev pub next_word : Words → TokenKind → Option Words
next_word LongRead (kind.Word keyword.Int) = Some AllRead
next_word LongRead (kind.Word keyword.Long) = Some LongLongRead
next_word LongLongRead (kind.Word keyword.Int) = Some AllRead
next_word _ _ = None

abbrev pub binary_of : Punct → Option Op
binary_of punct.Or = Some op.Or
binary_of punct.And = Some op.And
binary_of punct.Equal = Some op.Equal
binary_of punct.Unequal = Some op.Unequal
binary_of punct.Less = Some op.Less
binary_of punct.LessEqual = Some op.LessEqual
binary_of punct.Greater = Some op.Greater
binary_of punct.GreaterEqual = Some op.GreaterEqual
binary_of punct.Plus = Some op.Add
binary_of punct.Minus = Some op.Subtract
binary_of punct.Star = Some op.Multiply
binary_of punct.Slash = Some op.Divide
binary_of punct.Percent = Some op.Remainder
binary_of _ = None

-- a name and the place of a token
abbrev pub of_token : PureToken → Identifier
of_token t = record { name = t.text; at = t.at }

-- Trees

abbrev pub also_argument : ExpressionTrees → ExpressionTree → ExpressionTrees
also_argument no_arguments e = argument e no_arguments
also_argument (argument d ds) e = argument d (also_argument ds e)

abbrev pub also_statement : StatementTrees → StatementTree → StatementTrees
also_statement no_statements s = statement s no_statements
also_statement (statement t ts) s = statement t (also_statement ts s)

abbrev pub declared_bare : Identifier → Declarator
declared_bare n = record { named = n; value = None }

abbrev pub declared_as : Identifier → ExpressionTree → Declarator
declared_as n e = record { named = n; value = Some e }

abbrev pub global_bare : Identifier → Global
global_bare n = record { named = n; value = None }

abbrev pub global_as : Identifier → ℤ → Global
global_as n v = record { named = n; value = Some v }

-- Steps

-- a token may not come; the state after it; an item, of which it is the last
pub data Move : Type 0 where
  no : Move
  on : State → Move
  done : FileItem → Move

abbrev pub typing : Option Words → Typed → Move
typing None d = no
typing (Some w) d = on (Typing w d)

abbrev pub new_head : Bool → Bool → Identifier → Head
new_head outer void n = record { outer = outer; void = void; named = n; params = []; whole = true }

abbrev pub with_parameter : Head → Identifier → Head
with_parameter h n = record {
  outer = h.outer;
  void = h.void;
  named = h.named;
  params = h.params
      ++ n ∷ [];
  whole = h.whole;
}

abbrev pub without_name : Head → Head
without_name h = record {
  outer = h.outer;
  void = h.void;
  named = h.named;
  params = h.params;
  whole = false;
}

abbrev pub resulted : Bool → TokenKind → Move
resulted outer (kind.Word keyword.Void) = on (Voided outer)
resulted outer k = typing (first_word k) (Result outer)

abbrev pub begun : TokenKind → Move
begun (kind.Word keyword.Extern) = on Externed
begun k = resulted false k

abbrev pub voided : Bool → TokenKind → Identifier → Move
voided outer kind.Name x = on (Titled (new_head outer true x))
voided outer _ x = no

-- after a whole type
abbrev pub parameter_typed : Head → TokenKind → Identifier → Move
parameter_typed h kind.Name x = on (ParameterNamed (with_parameter h x))
parameter_typed h (kind.Mark punct.Comma) x = on (NextParameter (without_name h))
parameter_typed h (kind.Mark punct.CloseParenthesis) x = on (Closed (without_name h))
parameter_typed h _ x = no

abbrev pub result_typed : Bool → TokenKind → Identifier → Move
result_typed outer kind.Name x = on (Titled (new_head outer false x))
result_typed outer _ x = no

abbrev pub declaration_typed : Site → TokenKind → Identifier → Move
declaration_typed d kind.Name x = on (Declared x d [])
declaration_typed d _ x = no

abbrev pub typed : Typed → TokenKind → Identifier → Move
typed (Result outer) k x = result_typed outer k x
typed (Parameter h) k x = parameter_typed h k x
typed (Declaring d) k x = declaration_typed d k x

abbrev pub typed_on : Option Words → Typed → TokenKind → Identifier → Move
typed_on (Some w) d k x = on (Typing w d)
typed_on None d k x = typed d k x

-- after a global
abbrev pub global_read : TokenKind → List Global → Move
global_read (kind.Mark punct.Comma) gs = on (GlobalNext gs)
global_read (kind.Mark punct.Semicolon) gs = done (tree.globals gs)
global_read _ gs = no

abbrev pub global_next : TokenKind → Identifier → List Global → Move
global_next kind.Name x gs = on (GlobalNamed x gs)
global_next _ x gs = no

abbrev pub global_named : TokenKind → Identifier → List Global → Move
global_named (kind.Mark punct.Assign) n gs = on (GlobalAssigned n gs)
global_named k n gs = global_read k (gs ++ global_bare n ∷ [])

abbrev pub signed : Bool → ℤ → ℤ
signed true n = neg_ℤ n
signed false n = n

abbrev pub global_signed : Bool → TokenKind → Identifier → List Global → Move
global_signed minus (kind.Literal v) n gs = on
    (GlobalRead (gs ++ global_as n (signed minus v) ∷ []))
global_signed minus _ n gs = no

abbrev pub global_assigned : TokenKind → Identifier → List Global → Move
global_assigned (kind.Mark punct.Minus) n gs = on (GlobalSigned true n gs)
global_assigned (kind.Mark punct.Plus) n gs = on (GlobalSigned false n gs)
global_assigned k n gs = global_signed false k n gs

-- a type and a name may begin globals, where neither `extern` nor `void` stands before
abbrev pub first_global : Bool → Bool → TokenKind → Identifier → Move
first_global false false k n = global_named k n []
first_global _ _ k n = no

abbrev pub titled : Head → TokenKind → Move
titled h (kind.Mark punct.OpenParenthesis) = on (Opened h)
titled h k = first_global h.outer h.void k h.named

abbrev pub opened : Head → TokenKind → Move
opened h (kind.Mark punct.CloseParenthesis) = on (Closed h)
opened h (kind.Word keyword.Void) = on (NoParameters h)
opened h k = typing (first_word k) (Parameter h)

abbrev pub none_closed : Head → TokenKind → Move
none_closed h (kind.Mark punct.CloseParenthesis) = on (Closed h)
none_closed h _ = no

abbrev pub parameter_named : Head → TokenKind → Move
parameter_named h (kind.Mark punct.Comma) = on (NextParameter h)
parameter_named h (kind.Mark punct.CloseParenthesis) = on (Closed h)
parameter_named h _ = no

-- a procedure has names for all parameters and no `extern`
abbrev pub bodied : Bool → Head → Move
bodied true h = on (Start (Outermost h no_statements))
bodied false h = no

abbrev pub closed_head : Head → TokenKind → Move
closed_head h (kind.Mark punct.Semicolon) = done (tree.prototype h.named)
closed_head h (kind.Mark punct.OpenBrace) = bodied (h.whole && not h.outer) h
closed_head h _ = no

abbrev pub begin_simple : TokenKind → Identifier → Spot → Move
begin_simple kind.Name x p = on (Target x p)
begin_simple (kind.Mark punct.Increment) x p = on (Stepping true p)
begin_simple (kind.Mark punct.Decrement) x p = on (Stepping false p)
begin_simple _ x p = no

abbrev pub end_simple : Punct → SimpleStatement → Spot → Move
end_simple punct.Semicolon s (Alone fs) = on (Done (tree.simple s) fs)
end_simple punct.Semicolon s (First fs) = on (ForTest (starting s) fs)
end_simple punct.CloseParenthesis s (Step f t fs) = on (Start (ForBody f t (Some s) fs))
end_simple _ s p = no

abbrev pub simple_read : TokenKind → SimpleStatement → Spot → Move
simple_read (kind.Mark m) s p = end_simple m s p
simple_read _ s p = no

abbrev pub targeted : TokenKind → Identifier → Identifier → Spot → Move
targeted (kind.Mark punct.Assign) x n p = on (Want 0 [] (Setting n p))
targeted (kind.Mark punct.PlusAssign) x n p = on (Want 0 [] (Changing op.Add x.at n p))
targeted (kind.Mark punct.MinusAssign) x n p = on (Want 0 [] (Changing op.Subtract x.at n p))
targeted (kind.Mark punct.StarAssign) x n p = on (Want 0 [] (Changing op.Multiply x.at n p))
targeted (kind.Mark punct.SlashAssign) x n p = on (Want 0 [] (Changing op.Divide x.at n p))
targeted (kind.Mark punct.PercentAssign) x n p = on (Want 0 [] (Changing op.Remainder x.at n p))
targeted (kind.Mark punct.Increment) x n p = on (Simple (tree.add_one n) p)
targeted (kind.Mark punct.Decrement) x n p = on (Simple (tree.subtract_one n) p)
targeted (kind.Mark punct.OpenParenthesis) x n p = on (CallOpened 1 n p)
targeted _ x n p = no

abbrev pub stepped : Bool → Identifier → SimpleStatement
stepped true n = tree.add_one n
stepped false n = tree.subtract_one n

abbrev pub stepping : Bool → TokenKind → Identifier → Spot → Move
stepping up kind.Name x p = on (Simple (stepped up x) p)
stepping up _ x p = no

-- where an operand must come
abbrev pub wanted_mark : Punct → ℕ → List Part → Purpose → Move
wanted_mark punct.OpenParenthesis c ps p = on (Want c (Inside ∷ ps) p)
wanted_mark punct.Not c ps p = on (Want c (Under grammar.not ∷ ps) p)
wanted_mark punct.Minus c ps p = on (Want c (Under grammar.negate ∷ ps) p)
wanted_mark punct.Plus c ps p = on (Want c (Under grammar.plus ∷ ps) p)
wanted_mark _ c ps p = no

-- how many were counted after a token
abbrev pub tick : ℕ → TokenKind → ℕ
tick c k = if is_counted k then c + 1 else c

abbrev pub wanted : TokenKind → Identifier → ℕ → List Part → Purpose → Move
wanted kind.Name x c ps p = on (Named c x ps p)
wanted (kind.Literal n) x c ps p = on (Have c (tree.literal n) ps p)
wanted (kind.Mark m) x c ps p = wanted_mark m (tick c (kind.Mark m)) ps p
wanted (kind.Word w) x c ps p = no

-- after the operators of level q and above are given their right sides
abbrev pub closed : ℕ → ExpressionTree → List Part → ExpressionTree × List Part
closed q e [] = (e, [])
closed q e (After o at l ∷ ps) = if nat_le q (level o) then closed q (tree.binary o at l e) ps else
    (e, After o at l ∷ ps)
closed q e (Under u ∷ ps) = closed q (prefixed u e) ps
closed q e (Inside ∷ ps) = (e, Inside ∷ ps)
closed q e (Passing n es ∷ ps) = (e, Passing n es ∷ ps)

-- after a test
abbrev pub tested : Tested → ExpressionTree → Frames → State
tested IfTest e fs = Start (Then e fs)
tested WhileTest e fs = Start (Body e fs)
tested (DoTest s) e fs = Ending (tree.do_while s e) fs

abbrev pub with_statement : Frames → StatementTree → Frames
with_statement (Outermost h ss) s = Outermost h (also_statement ss s)
with_statement (Within ss fs) s = Within (also_statement ss s) fs
with_statement fs s = fs

abbrev pub declared : Site → List Declarator → State
declared (InBlock fs) ds = Start (with_statement fs (tree.declare ds))
declared (InFor fs) ds = ForTest (declaring ds) fs

-- a mark that ends a full expression
abbrev pub end_argument : Punct → ℕ → ExpressionTree → Identifier → ExpressionTrees → Spot → Move
end_argument punct.CloseParenthesis c e n es p = on
    (Simple (tree.call_statement n (also_argument es e)) p)
end_argument punct.Comma c e n es p = on (Want c [] (Arguing n (also_argument es e) p))
end_argument _ c e n es p = no

abbrev pub end_initial : Punct → Site → List Declarator → Move
end_initial punct.Comma d ds = on (NextName d ds)
end_initial punct.Semicolon d ds = on (declared d ds)
end_initial _ d ds = no

abbrev pub on_close : Punct → State → Move
on_close punct.CloseParenthesis s = on s
on_close _ s = no

abbrev pub on_semicolon : Punct → State → Move
on_semicolon punct.Semicolon s = on s
on_semicolon _ s = no

abbrev pub finished : Punct → ℕ → ExpressionTree → Purpose → Move
finished m c e (Testing g fs) = on_close m (tested g e fs)
finished m c e (Setting n p) = end_simple m (tree.set n e) p
finished m c e (Changing o at n p) = end_simple m (tree.change o at n e) p
finished m c e (Arguing n es p) = end_argument m c e n es p
finished m c e (Initialising n d ds) = end_initial m d (ds ++ declared_as n e ∷ [])
finished m c e (ForTesting f fs) = on_semicolon m (ForStep f (Some e) fs)
finished m c e (Returning at fs) = on_semicolon m (Done (tree.return at (Some e)) fs)

abbrev pub end_passing : Punct → ℕ → ExpressionTree → Identifier → ExpressionTrees → List Part →
    Purpose → Move
end_passing punct.CloseParenthesis c e n es ps p = on (Have c (tree.call n (also_argument es e)) ps
    p)
end_passing punct.Comma c e n es ps p = on (Want c (Passing n (also_argument es e) ∷ ps) p)
end_passing _ c e n es ps p = no

abbrev pub ends : Punct → ℕ → ExpressionTree × List Part → Purpose → Move
ends m c (e, []) p = finished m c e p
ends m c (e, Inside ∷ ps) p = on_close m (Have c e ps p)
ends m c (e, Passing n es ∷ ps) p = end_passing m c e n es ps p
ends m c (e, After o at l ∷ ps) p = no
ends m c (e, Under u ∷ ps) p = no

abbrev pub pushed : Op → Pos → ℕ → ExpressionTree × List Part → Purpose → State
pushed o at c (l, ps) p = Want c (After o at l ∷ ps) p

abbrev pub had_mark : Option Op → Punct → Pos → ℕ → ExpressionTree → List Part → Purpose → Move
had_mark (Some o) m at c e ps p = on (pushed o at c (closed (level o) e ps) p)
had_mark None m at c e ps p = ends m c (closed 0 e ps) p

abbrev pub had : TokenKind → Pos → ℕ → ExpressionTree → List Part → Purpose → Move
had (kind.Mark m) at c e ps p = had_mark (binary_of m) m at (tick c (kind.Mark m)) e ps p
had _ at c e ps p = no

abbrev pub named : TokenKind → Pos → ℕ → Identifier → List Part → Purpose → Move
named k at c n ps p = if is_open k then on (Called (tick c k) n ps p) else had k at c (tree.name n)
    ps p

abbrev pub called : TokenKind → Identifier → ℕ → Identifier → List Part → Purpose → Move
called k x c n ps p = if is_close k then on (Have c (tree.call n no_arguments) ps p) else wanted k x
    c (Passing n no_arguments ∷ ps) p

abbrev pub call_opened : TokenKind → Identifier → ℕ → Identifier → Spot → Move
call_opened k x c n p = if is_close k then on (Simple (tree.call_statement n no_arguments) p) else
    wanted k x c [] (Arguing n no_arguments p)

abbrev pub returned : TokenKind → Identifier → Pos → Frames → Move
returned k x at fs = if is_semicolon k then on (Done (tree.return at None) fs) else wanted k x 0 []
    (Returning at fs)

abbrev pub for_open : TokenKind → Frames → Move
for_open (kind.Mark punct.OpenParenthesis) fs = on (ForFirst fs)
for_open _ fs = no

abbrev pub for_first : TokenKind → Identifier → Frames → Move
for_first (kind.Mark punct.Semicolon) x fs = on (ForTest no_init fs)
for_first (kind.Word keyword.Int) x fs = on (Typing AllRead (Declaring (InFor fs)))
for_first (kind.Word keyword.Long) x fs = on (Typing LongRead (Declaring (InFor fs)))
for_first k x fs = begin_simple k x (First fs)

abbrev pub for_test : TokenKind → Identifier → ForInit → Frames → Move
for_test k x f fs = if is_semicolon k then on (ForStep f None fs) else wanted k x 0 []
    (ForTesting f fs)

abbrev pub for_step : TokenKind → Identifier → ForInit → Option ExpressionTree → Frames → Move
for_step (kind.Mark punct.CloseParenthesis) x f t fs = on (Start (ForBody f t None fs))
for_step k x f t fs = begin_simple k x (Step f t fs)

abbrev pub next_name : TokenKind → Identifier → Site → List Declarator → Move
next_name kind.Name x d ds = on (Declared x d ds)
next_name _ x d ds = no

abbrev pub name_declared : TokenKind → Identifier → Site → List Declarator → Move
name_declared (kind.Mark punct.Assign) n d ds = on (Want 0 [] (Initialising n d ds))
name_declared (kind.Mark punct.Comma) n d ds = on (NextName d (ds ++ declared_bare n ∷ []))
name_declared (kind.Mark punct.Semicolon) n d ds = on (declared d (ds ++ declared_bare n ∷ []))
name_declared _ n d ds = no

abbrev pub test_opened : TokenKind → Tested → Frames → Move
test_opened (kind.Mark punct.OpenParenthesis) g fs = on (Want 0 [] (Testing g fs))
test_opened _ g fs = no

abbrev pub ended : TokenKind → StatementTree → Frames → Move
ended (kind.Mark m) s fs = on_semicolon m (Done s fs)
ended _ s fs = no

-- a procedure without its place past the limit, which its whole text tells
abbrev pub procedure_of : Head → StatementTrees → FileItem
procedure_of h ss = tree.procedure
    (record { void = h.void; named = h.named; params = h.params; body = ss; past = None })

abbrev pub block_closed : Frames → Move
block_closed (Outermost h ss) = done (procedure_of h ss)
block_closed (Within ss fs) = on (Done (tree.block ss) fs)
block_closed _ = no

-- a declaration stands in a block alone
abbrev pub declares : Words → Frames → Move
declares w (Outermost h ss) = on (Typing w (Declaring (InBlock (Outermost h ss))))
declares w (Within ss fs) = on (Typing w (Declaring (InBlock (Within ss fs))))
declares w _ = no

abbrev pub started : TokenKind → Identifier → Frames → Move
started (kind.Mark punct.OpenBrace) x fs = on (Start (Within no_statements fs))
started (kind.Mark punct.CloseBrace) x fs = block_closed fs
started (kind.Mark punct.Semicolon) x fs = on (Done tree.empty fs)
started (kind.Word keyword.If) x fs = on (Test IfTest fs)
started (kind.Word keyword.While) x fs = on (Test WhileTest fs)
started (kind.Word keyword.Do) x fs = on (Start (Doing fs))
started (kind.Word keyword.For) x fs = on (ForOpen fs)
started (kind.Word keyword.Break) x fs = on (Ending (tree.break x.at) fs)
started (kind.Word keyword.Continue) x fs = on (Ending (tree.continue x.at) fs)
started (kind.Word keyword.Return) x fs = on (Returned x.at fs)
started (kind.Word keyword.Int) x fs = declares AllRead fs
started (kind.Word keyword.Long) x fs = declares LongRead fs
started k x fs = begin_simple k x (Alone fs)

-- the statement and what is around it, where no `else` comes
abbrev pub settled : StatementTree → Frames → StatementTree × Frames
settled s (Then e fs) = settled (tree.if_then e s) fs
settled s (Otherwise e t fs) = settled (tree.if_else e t s) fs
settled s (Body e fs) = settled (tree.while_loop e s) fs
settled s (ForBody f t p fs) = settled (tree.for_loop f t p s) fs
settled s (Outermost h ss) = (s, Outermost h ss)
settled s (Within ss fs) = (s, Within ss fs)
settled s (Doing fs) = (s, Doing fs)

-- where an `else` comes
abbrev pub elsed : StatementTree → Frames → Move
elsed s (Then e fs) = on (Start (Otherwise e s fs))
elsed s (Otherwise e t fs) = elsed (tree.if_else e t s) fs
elsed s (Body e fs) = elsed (tree.while_loop e s) fs
elsed s (ForBody f t p fs) = elsed (tree.for_loop f t p s) fs
elsed s (Outermost h ss) = no
elsed s (Within ss fs) = no
elsed s (Doing fs) = no

abbrev pub done_body : TokenKind → StatementTree → Frames → Move
done_body (kind.Word keyword.While) s fs = on (Test (DoTest s) fs)
done_body _ s fs = no

abbrev pub resumed : TokenKind → Identifier → StatementTree × Frames → Move
resumed k x (s, Outermost h ss) = started k x (Outermost h (also_statement ss s))
resumed k x (s, Within ss fs) = started k x (Within (also_statement ss s) fs)
resumed k x (s, Doing fs) = done_body k s fs
resumed k x (s, fs) = no

abbrev pub went_on : TokenKind → Identifier → StatementTree → Frames → Move
went_on k x s fs = if is_else k then elsed s fs else resumed k x (settled s fs)

abbrev pub move : State → TokenKind → Identifier → Move
move Begin k x = begun k
move Externed k x = resulted true k
move (Voided outer) k x = voided outer k x
move (Typing w d) k x = typed_on (next_word w k) d k x
move (Titled h) k x = titled h k
move (GlobalNext gs) k x = global_next k x gs
move (GlobalNamed n gs) k x = global_named k n gs
move (GlobalAssigned n gs) k x = global_assigned k n gs
move (GlobalSigned minus n gs) k x = global_signed minus k n gs
move (GlobalRead gs) k x = global_read k gs
move (Opened h) k x = opened h k
move (NoParameters h) k x = none_closed h k
move (NextParameter h) k x = typing (first_word k) (Parameter h)
move (ParameterNamed h) k x = parameter_named h k
move (Closed h) k x = closed_head h k
move (Start fs) k x = started k x fs
move (Done s fs) k x = went_on k x s fs
move (Test g fs) k x = test_opened k g fs
move (Ending s fs) k x = ended k s fs
move (Returned at fs) k x = returned k x at fs
move (ForOpen fs) k x = for_open k fs
move (ForFirst fs) k x = for_first k x fs
move (ForTest f fs) k x = for_test k x f fs
move (ForStep f t fs) k x = for_step k x f t fs
move (Target n p) k x = targeted k x n p
move (Stepping up p) k x = stepping up k x p
move (CallOpened c n p) k x = call_opened k x c n p
move (Simple s p) k x = simple_read k s p
move (NextName d ds) k x = next_name k x d ds
move (Declared n d ds) k x = name_declared k n d ds
move (Want c ps p) k x = wanted k x c ps p
move (Named c n ps p) k x = named k x.at c n ps p
move (Called c n ps p) k x = called k x c n ps p
move (Have c e ps p) k x = had k x.at c e ps p

-- the state after one token, where it may come
abbrev pub step : State → PureToken → Move
step s t = move s t.kind (of_token t)

-- Depth

abbrev pub is_over : ℕ → TokenKind → Bool
is_over c k = is_counted k && nat_le max_operators c

-- the nesting of a statement, and of a block, where the outermost statements have the nesting 1
abbrev mutual
  pub nest : Frames → ℕ
  nest (Outermost h ss) = 1
  nest (Within ss fs) = block_nest fs
  nest (Then e fs) = nest fs + 1
  nest (Otherwise e s fs) = nest fs + 1
  nest (Body e fs) = nest fs + 1
  nest (Doing fs) = nest fs + 1
  nest (ForBody f t p fs) = nest fs + 1

  pub block_nest : Frames → ℕ
  block_nest (Outermost h ss) = 2
  block_nest (Within ss fs) = block_nest fs + 1
  block_nest (Then e fs) = nest fs + 1
  block_nest (Otherwise e s fs) = nest fs + 1
  block_nest (Body e fs) = nest fs + 1
  block_nest (Doing fs) = nest fs + 1
  block_nest (ForBody f t p fs) = nest fs + 1

abbrev pub start_deep : TokenKind → Frames → Bool
start_deep (kind.Mark punct.OpenBrace) fs = is_nested (block_nest fs)
start_deep (kind.Mark punct.CloseBrace) fs = false
start_deep (kind.Word keyword.Int) fs = false
start_deep (kind.Word keyword.Long) fs = false
start_deep k fs = is_nested (nest fs)

abbrev pub resumed_deep : TokenKind → StatementTree × Frames → Bool
resumed_deep k (s, Outermost h ss) = start_deep k (Outermost h (also_statement ss s))
resumed_deep k (s, Within ss fs) = start_deep k (Within (also_statement ss s) fs)
resumed_deep k (s, fs) = false

-- whether a token is too deep where the reader is
abbrev pub is_deep : State → TokenKind → Bool
is_deep (Start fs) k = start_deep k fs
is_deep (Done s fs) k = if is_else k then false else resumed_deep k (settled s fs)
is_deep (Returned at fs) k = is_over 0 k
is_deep (ForTest f fs) k = is_over 0 k
is_deep (CallOpened c n p) k = is_over c k
is_deep (Want c ps p) k = is_over c k
is_deep (Named c n ps p) k = is_over c k
is_deep (Called c n ps p) k = is_over c k
is_deep (Have c e ps p) k = is_over c k
is_deep _ k = false

-- Whole texts

-- how a text ends: in items, each with the text after it; too early; at a token that may not come;
-- at a token that is too deep
pub data Outcome : Type 0 where
  Parsed : List (FileItem × List PureToken) → Outcome
  Short : Outcome
  Stops : List PureToken → Outcome
  Deep : List PureToken → Outcome

abbrev pub with_item : FileItem → List PureToken → Outcome → Outcome
with_item i rest (Parsed is) = Parsed ((i, rest) ∷ is)
with_item i rest Short = Short
with_item i rest (Stops ts) = Stops ts
with_item i rest (Deep ts) = Deep ts

-- which tokens are too deep, and the outcome where none is
abbrev pub Trace : Type 0
Trace = List Bool × Outcome

abbrev pub behind : List Bool → Trace → Trace
behind bs t = (bs ++ t.0, t.1)

abbrev pub noted : Bool → Move → (State → Trace) → PureToken → List PureToken → Trace
noted b no go t ts = ([], Stops (t ∷ ts))
noted b (on s) go t ts = behind (b ∷ []) (go s)
noted b (done i) go t ts = ((b ∷ []) ++ (go Begin).0, with_item i ts (go Begin).1)

abbrev pub last : State → Outcome
last Begin = Parsed []
last _ = Short

abbrev pub trace : List PureToken → State → Trace
trace [] s = ([], last s)
trace (t ∷ ts) s = noted (is_deep s t.kind) (step s t) (trace ts) t ts

-- the outcome where the first token that is too deep ends the text
abbrev pub bounded : List PureToken → List Bool → Outcome → Outcome
bounded ts [] o = o
bounded [] (b ∷ bs) o = o
bounded (t ∷ ts) (true ∷ bs) o = Deep (t ∷ ts)
bounded (t ∷ ts) (false ∷ bs) o = bounded ts bs o

abbrev pub limited : List PureToken → State → Outcome
limited ts s = bounded ts (trace ts s).0 (trace ts s).1

-- A procedure's place past the limit, by its whole text

abbrev pub with_past : Option Pos → FileItem → FileItem
with_past p (tree.globals gs) = tree.globals gs
with_past p (tree.prototype n) = tree.prototype n
with_past p (tree.procedure q) = tree.procedure
    (record { void = q.void; named = q.named; params = q.params; body = q.body; past = p })

abbrev pub past_between : List PureToken → List PureToken → Option Pos
past_between ts rest = past_place (take (length ts - length rest) ts)

-- the items of a text, of which each was read up to what is left after it
abbrev pub filed : List PureToken → List (FileItem × List PureToken) → List FileItem
filed ts [] = []
filed ts (i ∷ is) = with_past (past_between ts i.1) i.0 ∷ filed i.1 is

-- Side conditions

-- what is begun binds less tightly than q
abbrev pub Guards : ℕ → List Part → Type 0
Guards q [] = Unit {0}
Guards q (After o at l ∷ ps) = level o < q
Guards q (Under u ∷ ps) = 7 ≤ q
Guards q (Inside ∷ ps) = Unit {0}
Guards q (Passing n es ∷ ps) = Unit {0}

-- the next token isn't an operator that binds more tightly than q
abbrev pub AtMost : ℕ → Option Op → Type 0
AtMost q None = Unit {0}
AtMost q (Some o) = level o ≤ q

abbrev pub FollowsKind : ℕ → TokenKind → Type 0
FollowsKind q (kind.Mark m) = AtMost q (binary_of m)
FollowsKind q _ = Unit {0}

abbrev pub Follows : ℕ → List PureToken → Type 0
Follows q [] = Unit {0}
Follows q (t ∷ ts) = FollowsKind q t.kind

-- the next token doesn't pass the test
abbrev pub NoNext : (TokenKind → Bool) → List PureToken → Type 0
NoNext test [] = Unit {0}
NoNext test (t ∷ ts) = test t.kind ≡ false

-- where a call stands: an operand or a statement
pub data CallSite : Type 0 where
  AsOperand : List Part → Purpose → CallSite
  AsStatement : Spot → CallSite

-- the reader after a call's parenthesis, at an argument, after an argument, after the call
abbrev pub call_begun : ℕ → Identifier → CallSite → State
call_begun c n (AsOperand ps p) = Called c n ps p
call_begun c n (AsStatement p) = CallOpened c n p

abbrev pub argument_parts : Identifier → ExpressionTrees → CallSite → List Part
argument_parts n es (AsOperand ps p) = Passing n es ∷ ps
argument_parts n es (AsStatement p) = []

abbrev pub argument_purpose : Identifier → ExpressionTrees → CallSite → Purpose
argument_purpose n es (AsOperand ps p) = p
argument_purpose n es (AsStatement p) = Arguing n es p

abbrev pub call_read : ℕ → Identifier → ExpressionTrees → CallSite → State
call_read c n es (AsOperand ps p) = Have c (tree.call n es) ps p
call_read c n es (AsStatement p) = Simple (tree.call_statement n es) p

-- where a type may come
pub record Opening (s : State) (d : Typed) : Type 0 where
  pub int : (x : Identifier) → move s (kind.Word keyword.Int) x ≡ on (Typing AllRead d)
  pub long : (x : Identifier) → move s (kind.Word keyword.Long) x ≡ on (Typing LongRead d)
  pub int_shallow : is_deep s (kind.Word keyword.Int) ≡ false
  pub long_shallow : is_deep s (kind.Word keyword.Long) ≡ false

-- the block that a place is in: the procedure's own or another
pub data Room : Type 0 where
  own : Head → Room
  inner : Frames → Room

abbrev pub room : Room → StatementTrees → Frames
room (own h) ss = Outermost h ss
room (inner fs) ss = Within ss fs

abbrev pub room_nest : Room → ℕ
room_nest (own h) = 1
room_nest (inner fs) = block_nest fs
