-- What the functions of the parser answer: globals.
use Rattle.std.specs.Prelude.{◌≡◌, ℕ, ◌+◌, ◌<◌, ◌≤◌, ℤ, List, [], ◌∷◌, ◌++◌, length, Option}
use Rattle.std.proofs.Common.{drop}
use Rattle.c_tree.specs.declared.tree.Pos.{Pos}
use Rattle.c_lexer.specs.declared.token.TokenKind.TheVariants as kind
use Rattle.c_lexer.specs.Pure.{PureToken}
use Rattle.c_tree.specs.SourceTree.{Identifier, Global, globals}
use Rattle.c_parser.specs.declared.fault.Fault.{Fault}
use Rattle.c_parser.specs.Grammar.{a_literal}
use Rattle.c_parser.specs.steps.Machine.{Begin, GlobalNext, GlobalNamed, GlobalAssigned, GlobalRead, global_as, with_item, limited}
use Rattle.c_parser.specs.steps.Parsing.{rejected, Tells}

-- a literal stands there
pub record StandsLiteral (ts : List PureToken) (at : ℕ) (n : ℤ) : Type 0 where
  pub within : at < length ts
  pub place : Pos
  pub text : List ℕ
  pub here : drop at ts ≡ a_literal n place text ∷ drop (at + 1) ts

-- the first token is no literal
abbrev pub LacksLiteral : List PureToken → Type 0
LacksLiteral [] = Unit {0}
LacksLiteral (t ∷ ts) = (n : ℤ) → t.kind ≡ kind.Literal n → ⊥

-- none stands there, and the fault says so
pub record MissesLiteral (ts : List PureToken) (at : ℕ) (f : Fault) : Type 0 where
  pub lacks : LacksLiteral (drop at ts)
  pub tells : Tells ts f (rejected (drop at ts))

-- after `=`
pub record ReadsSigned (ts : List PureToken) (at : ℕ) (v : ℤ) (next : ℕ) : Type 0 where
  pub later : at < next
  pub within : next ≤ length ts
  pub leads : (n : Identifier) (gs : List Global) → limited (drop at ts) (GlobalAssigned n gs)
      ≡ limited (drop next ts) (GlobalRead (gs ++ global_as n v ∷ []))

abbrev pub FailsSigned : List PureToken → ℕ → Fault → Type 0
FailsSigned ts at f = (n : Identifier) (gs : List Global) →
    Tells ts f (limited (drop at ts) (GlobalAssigned n gs))

-- after the name of a global
pub record ReadsValue (ts : List PureToken) (at : ℕ) (v : Option ℤ) (next : ℕ) : Type 0 where
  pub later : at ≤ next
  pub within : next ≤ length ts
  pub leads : (n : Identifier) (gs : List Global) → limited (drop at ts) (GlobalNamed n gs)
      ≡ limited (drop next ts) (GlobalRead (gs ++ record { named = n; value = v } ∷ []))

abbrev pub FailsValue : List PureToken → ℕ → Fault → Type 0
FailsValue ts at f = (n : Identifier) (gs : List Global) →
    Tells ts f (limited (drop at ts) (GlobalNamed n gs))

pub record ReadsGlobal (ts : List PureToken) (at : ℕ) (g : Global) (next : ℕ) : Type 0 where
  pub later : at < next
  pub within : next ≤ length ts
  pub leads : (gs : List Global) → limited (drop at ts) (GlobalNext gs)
      ≡ limited (drop next ts) (GlobalRead (gs ++ g ∷ []))

abbrev pub FailsGlobal : List PureToken → ℕ → Fault → Type 0
FailsGlobal ts at f = (gs : List Global) → Tells ts f (limited (drop at ts) (GlobalNext gs))

-- after the name of the first global
pub record ReadsGlobals (ts : List PureToken) (at : ℕ) (first : Identifier) (gs : List Global)
    (next : ℕ) : Type 0 where
  pub later : at < next
  pub within : next ≤ length ts
  pub leads : limited (drop at ts) (GlobalNamed first []) ≡ with_item (globals gs) (drop next ts)
      (limited (drop next ts) Begin)

abbrev pub FailsGlobals : List PureToken → ℕ → Identifier → Fault → Type 0
FailsGlobals ts at first f = Tells ts f (limited (drop at ts) (GlobalNamed first []))
