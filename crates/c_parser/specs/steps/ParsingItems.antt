-- What the functions of the parser answer: items.
use Rattle.std.specs.Prelude.{◌≡◌, ℕ, ◌-◌, ◌<◌, ◌≤◌, List, [], ◌∷◌, ◌++◌, length, take, map, Option, Some, None, Bool, true, false}
use Rattle.std.proofs.Common.{drop}
use Rattle.c_lexer.specs.declared.token.Keyword.TheVariants as keyword
use Rattle.c_lexer.specs.declared.token.TokenKind.TheVariants as kind
use Rattle.c_lexer.specs.Pure.{PureToken}
use Rattle.c_tree.specs.SourceTree.{Identifier, FileItem}
use Rattle.c_tree.specs.SourceView.{identifier_of}
use Rattle.c_parser.specs.declared.head.Head as the_head
use Rattle.c_parser.specs.declared.head.Title as the_title
use Rattle.c_parser.specs.declared.fault.Fault.{Fault}
use Rattle.c_parser.specs.Grammar.{past_place}
use Rattle.c_tree.specs.SourceTree.{no_statements, prototype, procedure, globals}
use Rattle.c_tree.specs.SourceNodes.{statement_trees_nodes}
use Rattle.c_parser.specs.steps.Machine.{Outermost, Start, Head, State, Begin, Externed, Voided, Typing, AllRead, Result, Titled, Opened, NextParameter, ParameterNamed, Closed, new_head, with_parameter, without_name, with_past, with_item, filed, Outcome, limited}
use Rattle.c_parser.specs.steps.Parsing.{Tells}

-- after `extern` or not
abbrev pub entered : Bool → State
entered true = Externed
entered false = Begin

-- an item goes on there after its `extern`, or begins there without one
abbrev pub BeginsItem : Bool → List PureToken → Type 0
BeginsItem true ts = Unit {0}
BeginsItem false [] = ⊥
BeginsItem false (t ∷ ts) = t.kind ≡ kind.Word keyword.Extern → ⊥

-- after the type of a result
abbrev pub resulted_state : Bool → Bool → State
resulted_state true outer = Voided outer
resulted_state false outer = Typing AllRead (Result outer)

pub record ReadsResult (ts : List PureToken) (at : ℕ) (void : Bool) (next : ℕ) : Type 0 where
  pub later : at < next
  pub within : next ≤ length ts
  pub leads : (outer : Bool) → limited (drop at ts) (entered outer) ≡ limited (drop next ts)
      (resulted_state void outer)

abbrev pub FailsResult : List PureToken → ℕ → Fault → Type 0
FailsResult ts at f = (outer : Bool) → BeginsItem outer (drop at ts) →
    Tells ts f (limited (drop at ts) (entered outer))

pub record ReadsName (ts : List PureToken) (at : ℕ) (n : Identifier) (next : ℕ) : Type 0 where
  pub later : at < next
  pub within : next ≤ length ts
  pub leads : (void outer : Bool) → limited (drop at ts) (resulted_state void outer)
      ≡ limited (drop next ts) (Titled (new_head outer void n))

abbrev pub FailsName : List PureToken → ℕ → Fault → Type 0
FailsName ts at f = (void outer : Bool) →
    Tells ts f (limited (drop at ts) (resulted_state void outer))

-- the beginning of an item, from its type to its name
pub record ReadsTitle (ts : List PureToken) (at : ℕ) (h : Head) (next : ℕ) : Type 0 where
  pub later : at < next
  pub within : next ≤ length ts
  pub leads : limited (drop at ts) (entered h.outer) ≡ limited (drop next ts) (Titled h)

abbrev pub FailsTitle : List PureToken → ℕ → Bool → Fault → Type 0
FailsTitle ts at outer f = BeginsItem outer (drop at ts) →
    Tells ts f (limited (drop at ts) (entered outer))

-- a parameter with or without a name
abbrev pub after_parameter : Head → Option Identifier → Head
after_parameter h None = without_name h
after_parameter h (Some n) = with_parameter h n

pub record ReadsParameter (ts : List PureToken) (at : ℕ) (n : Option Identifier) (next : ℕ) : Type
    0 where
  pub later : at < next
  pub within : next ≤ length ts
  pub leads : (h : Head) → limited (drop at ts) (NextParameter h) ≡ limited (drop next ts)
      (ParameterNamed (after_parameter h n))

abbrev pub FailsParameter : List PureToken → ℕ → Fault → Type 0
FailsParameter ts at f = (h : Head) → Tells ts f (limited (drop at ts) (NextParameter h))

-- a head with these parameters
abbrev pub headed : Head → List Identifier → Bool → Head
headed h ns whole = record {
  outer = h.outer;
  void = h.void;
  named = h.named;
  params = ns;
  whole = whole;
}

pub record ReadsRow (ts : List PureToken) (at : ℕ) (ns : List Identifier) (whole : Bool)
    (next : ℕ) :
    Type 0 where
  pub later : at < next
  pub within : next ≤ length ts
  pub leads : (h : Head) → limited (drop at ts) (NextParameter (headed h [] true))
      ≡ limited (drop next ts) (Closed (headed h ns whole))

abbrev pub FailsRow : List PureToken → ℕ → Fault → Type 0
FailsRow ts at f = (h : Head) → Tells ts f (limited (drop at ts) (NextParameter (headed h [] true)))

pub record ReadsParameters (ts : List PureToken) (at : ℕ) (ns : List Identifier) (whole : Bool)
    (next : ℕ) : Type 0 where
  pub later : at < next
  pub within : next ≤ length ts
  pub leads : (h : Head) → limited (drop at ts) (Opened (headed h [] true)) ≡ limited (drop next ts)
      (Closed (headed h ns whole))

abbrev pub FailsParameters : List PureToken → ℕ → Fault → Type 0
FailsParameters ts at f = (h : Head) → Tells ts f (limited (drop at ts) (Opened (headed h [] true)))

-- From a state over the last tokens of an item that began at a place: the item without its place
-- past the limit, and with it.
pub record EndsItem (ts : List PureToken) (start at : ℕ) (s : State) (i : FileItem) (next : ℕ) :
    Type 0 where
  pub later : at < next
  pub within : next ≤ length ts
  pub bare : FileItem
  pub leads : limited (drop at ts) s ≡ with_item bare (drop next ts) (limited (drop next ts) Begin)
  pub whole : i ≡ with_past (past_place (take (next - start) (drop start ts))) bare

abbrev pub ReadsFileItem : List PureToken → ℕ → FileItem → ℕ → Type 0
ReadsFileItem ts at i next = EndsItem ts at at Begin i next

abbrev pub FailsFileItem : List PureToken → ℕ → Fault → Type 0
FailsFileItem ts at f = Tells ts f (limited (drop at ts) Begin)

-- what contracts see of a beginning in the code
abbrev pub title_of : the_title.Title → Head
title_of t = new_head t.outer t.void (identifier_of t.named)

abbrev pub head_of : the_head.Head → Head
head_of h = record {
  outer = h.outer;
  void = h.void;
  named = identifier_of h.named;
  params = map identifier_of h.parameters.names.items;
  whole = h.parameters.whole;
}

-- after a procedure's opening brace
abbrev pub ReadsProcedure : List PureToken → ℕ → ℕ → Head → FileItem → ℕ → Type 0
ReadsProcedure ts start at h i next = EndsItem ts start at (Start (Outermost h no_statements)) i
    next

abbrev pub FailsProcedure : List PureToken → ℕ → Head → Fault → Type 0
FailsProcedure ts at h f = Tells ts f (limited (drop at ts) (Start (Outermost h no_statements)))

-- after an item's closing parenthesis
abbrev pub ReadsClosed : List PureToken → ℕ → ℕ → Head → FileItem → ℕ → Type 0
ReadsClosed ts start at h i next = EndsItem ts start at (Closed h) i next

abbrev pub FailsClosed : List PureToken → ℕ → Head → Fault → Type 0
FailsClosed ts at h f = Tells ts f (limited (drop at ts) (Closed h))

-- after an item's name
abbrev pub ReadsTitled : List PureToken → ℕ → ℕ → Head → FileItem → ℕ → Type 0
ReadsTitled ts start at h i next = EndsItem ts start at (Titled h) i next

abbrev pub FailsTitled : List PureToken → ℕ → Head → Fault → Type 0
FailsTitled ts at h f = Tells ts f (limited (drop at ts) (Titled h))

-- whole items stand before a place
abbrev pub with_items : List (FileItem × List PureToken) → Outcome → Outcome
with_items [] o = o
with_items (q ∷ qs) o = with_item q.0 q.1 (with_items qs o)

pub record IsFront (ts : List PureToken) (next : ℕ) (is : List FileItem) : Type 0 where
  pub pieces : List (FileItem × List PureToken)
  pub leads : limited ts Begin ≡ with_items pieces (limited (drop next ts) Begin)
  pub filed_as : (others : List (FileItem × List PureToken)) → filed ts (pieces ++ others) ≡ is
      ++ filed (drop next ts) others

-- each procedure without a place past the limit becomes few nodes
abbrev pub IsSmallItem : FileItem → Type 0
IsSmallItem (prototype n) = Unit {0}
IsSmallItem (globals gs) = Unit {0}
IsSmallItem (procedure p) = p.past ≡ None → statement_trees_nodes p.body ≤ 8000

abbrev pub AreSmallItems : List FileItem → Type 0
AreSmallItems [] = Unit {0}
AreSmallItems (i ∷ is) = IsSmallItem i × AreSmallItems is
