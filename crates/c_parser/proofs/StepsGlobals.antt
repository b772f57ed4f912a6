-- Steps of the parser's functions: globals.
use Rattle.std.specs.Prelude.{◌≡◌, ℕ, ◌+◌, ℤ, List, [], ◌∷◌, ◌++◌, map, Bool, true, false, ◌||◌, refl}
use Rattle.std.proofs.Common.{sym, ◌∙◌, ap, subst, arith, drop}
use Rattle.c_lexer.specs.declared.token.Punct.TheVariants as punct
use Rattle.c_lexer.specs.declared.token.TokenKind.{TokenKind}
use Rattle.c_lexer.specs.declared.token.TokenKind.TheVariants as kind
use Rattle.c_lexer.specs.Pure.{PureToken}
use Rattle.c_tree.specs.SourceTree as tree
use Rattle.c_tree.specs.SourceTree.{Identifier, Global}
use Rattle.c_tree.specs.FileView.{global_of}
use Rattle.c_tree.specs.declared.syntax_tree.GlobalTree.{GlobalTree}
use Rattle.c_parser.specs.declared.fault.Fault.{Fault}
use Rattle.c_parser.specs.Grammar.{a_mark}
use Rattle.c_parser.specs.steps.Machine.{Begin, Titled, GlobalNext, GlobalNamed, GlobalAssigned, GlobalSigned, GlobalRead, global_bare, global_as, global_read, global_next, global_named, global_assigned, global_signed, signed, titled, new_head, of_token, no, with_item, limited}
use Rattle.c_parser.specs.steps.Parsing.{rejected, Tells, Stands, Lacks, Passes, Misses}
use Rattle.c_parser.specs.steps.ParsingGlobals.{StandsLiteral, LacksLiteral, MissesLiteral}
use Rattle.c_parser.proofs.Reading.{sign_mark}
use Rattle.c_parser.proofs.Outcomes.{turn, limited-turn}
use Rattle.c_parser.proofs.Steps.{limited-on}
use Rattle.c_parser.proofs.StepsStatements.{limited-no}

pub unsigned_leads : (ts : List PureToken) (at : ℕ) (v : ℤ) → StandsLiteral ts at v → (n : Identifier) (gs : List Global) →
    limited (drop at ts) (GlobalAssigned n gs) ≡ limited (drop (at + 1) ts) (GlobalRead (gs ++ global_as n v ∷ []))
unsigned_leads ts at v s n gs = ap (λ l. limited l (GlobalAssigned n gs)) s.here

sign_turn : (ts : List PureToken) (at : ℕ) (minus : Bool) → Passes ts (sign_mark minus) at (at + 1) → (n : Identifier) (gs : List Global) →
    limited (drop at ts) (GlobalAssigned n gs) ≡ limited (drop (at + 1) ts) (GlobalSigned minus n gs)
sign_turn ts at true p n gs = ap (λ l. limited l (GlobalAssigned n gs)) p.here
sign_turn ts at false p n gs = ap (λ l. limited l (GlobalAssigned n gs)) p.here

pub signed_leads : (ts : List PureToken) (at : ℕ) (minus : Bool) (v : ℤ) → Passes ts (sign_mark minus) at (at + 1) →
    StandsLiteral ts (at + 1) v → (n : Identifier) (gs : List Global) →
    limited (drop at ts) (GlobalAssigned n gs) ≡ limited (drop (at + 2) ts) (GlobalRead (gs ++ global_as n (signed minus v) ∷ []))
signed_leads ts at minus v p s n gs =
    let k : at + 1 + 1 ≡ at + 2 = omega arith in
    sign_turn ts at minus p n gs ∙ ap (λ l. limited l (GlobalSigned minus n gs)) s.here
    ∙ ap (λ m. limited (drop m ts) (GlobalRead (gs ++ global_as n (signed minus v) ∷ []))) k

pub signed_fails : (ts : List PureToken) (at : ℕ) (f : Fault) (minus : Bool) → Passes ts (sign_mark minus) at (at + 1) →
    MissesLiteral ts (at + 1) f → (n : Identifier) (gs : List Global) → Tells ts f (limited (drop at ts) (GlobalAssigned n gs))
signed_fails ts at f minus p m n gs = subst (λ o. Tells ts f o) (stops (drop (at + 1) ts) m.lacks ∙ sym (sign_turn ts at minus p n gs))
    m.tells
  where
    go : (k : TokenKind) → ((v : ℤ) → k ≡ kind.Literal v → ⊥) → global_signed minus k n gs ≡ no
    go (kind.Literal v) h = absurd (h v refl)
    go (kind.Mark m) h = refl
    go (kind.Word w) h = refl
    go kind.Name h = refl

    stops : (rest : List PureToken) → LacksLiteral rest → rejected rest ≡ limited rest (GlobalSigned minus n gs)
    stops [] h = refl
    stops (t ∷ us) h = sym (limited-no t us (GlobalSigned minus n gs) (go t.kind h))

-- neither a literal nor a sign stands there
pub unsigned_fails : (ts : List PureToken) (at : ℕ) (f : Fault) → Lacks (kind.Mark punct.Minus) (drop at ts) →
    Lacks (kind.Mark punct.Plus) (drop at ts) → MissesLiteral ts at f → (n : Identifier) (gs : List Global) →
    Tells ts f (limited (drop at ts) (GlobalAssigned n gs))
unsigned_fails ts at f l p m n gs = subst (λ o. Tells ts f o) (stops (drop at ts) l p m.lacks) m.tells
  where
    go : (k : TokenKind) → (k ≡ kind.Mark punct.Minus → ⊥) → (k ≡ kind.Mark punct.Plus → ⊥) → ((v : ℤ) → k ≡ kind.Literal v → ⊥) →
        global_assigned k n gs ≡ no
    go (kind.Literal v) l p h = absurd (h v refl)
    go (kind.Mark punct.Minus) l p h = absurd (l refl)
    go (kind.Mark punct.Plus) l p h = absurd (p refl)
    go (kind.Mark m) l p h = refl
    go (kind.Word w) l p h = refl
    go kind.Name l p h = refl

    stops : (rest : List PureToken) → Lacks (kind.Mark punct.Minus) rest → Lacks (kind.Mark punct.Plus) rest → LacksLiteral rest →
        rejected rest ≡ limited rest (GlobalAssigned n gs)
    stops [] l p h = refl
    stops (t ∷ us) l p h = sym (limited-no t us (GlobalAssigned n gs) (go t.kind l p h))

-- no value follows the name
pub limited-valueless : (rest : List PureToken) (n : Identifier) (gs : List Global) → Lacks (kind.Mark punct.Assign) rest →
    limited rest (GlobalNamed n gs) ≡ limited rest (GlobalRead (gs ++ global_bare n ∷ []))
limited-valueless [] n gs l = refl
limited-valueless (t ∷ ts) n gs l = limited-turn t ts (GlobalNamed n gs) ∙ ap (λ m. turn false m (limited ts) t ts) (go t.kind l)
    ∙ sym (limited-turn t ts (GlobalRead (gs ++ global_bare n ∷ [])))
  where
    go : (k : TokenKind) → (k ≡ kind.Mark punct.Assign → ⊥) → global_named k n gs ≡ global_read k (gs ++ global_bare n ∷ [])
    go (kind.Mark punct.Assign) l = absurd (l refl)
    go (kind.Mark m) l = refl
    go (kind.Word w) l = refl
    go (kind.Literal v) l = refl
    go kind.Name l = refl

pub assign_turn : (ts : List PureToken) (at : ℕ) (n : Identifier) (gs : List Global) → Passes ts punct.Assign at (at + 1) →
    limited (drop at ts) (GlobalNamed n gs) ≡ limited (drop (at + 1) ts) (GlobalAssigned n gs)
assign_turn ts at n gs p = ap (λ l. limited l (GlobalNamed n gs)) p.here

pub global_turn : (ts : List PureToken) (at : ℕ) (t : PureToken) (gs : List Global) → Stands ts at t → t.kind ≡ kind.Name →
    limited (drop at ts) (GlobalNext gs) ≡ limited (drop (at + 1) ts) (GlobalNamed (of_token t) gs)
global_turn ts at t gs s k = ap (λ l. limited l (GlobalNext gs)) s.here
    ∙ limited-on t (drop (at + 1) ts) (GlobalNext gs) (GlobalNamed (of_token t) gs) refl
    (ap (λ q. global_next q (of_token t) gs) k)

pub comma_turn : (ts : List PureToken) (at : ℕ) (gs : List Global) → Passes ts punct.Comma at (at + 1) →
    limited (drop at ts) (GlobalRead gs) ≡ limited (drop (at + 1) ts) (GlobalNext gs)
comma_turn ts at gs p = ap (λ l. limited l (GlobalRead gs)) p.here

pub semicolon_turn : (ts : List PureToken) (at next : ℕ) (gs : List Global) → Passes ts punct.Semicolon at next →
    limited (drop at ts) (GlobalRead gs) ≡ with_item (tree.globals gs) (drop next ts) (limited (drop next ts) Begin)
semicolon_turn ts at next gs p =
    ap (λ l. limited l (GlobalRead gs)) p.here ∙ limited-turn (a_mark punct.Semicolon p.place p.text) (drop (at + 1) ts) (GlobalRead gs)
    ∙ ap (λ k. with_item (tree.globals gs) (drop k ts) (limited (drop k ts) Begin)) (sym p.later)

pub unfinished_globals : (ts : List PureToken) (at : ℕ) (f : Fault) (gs : List Global) → Lacks (kind.Mark punct.Comma) (drop at ts) →
    Misses ts punct.Semicolon at f → Tells ts f (limited (drop at ts) (GlobalRead gs))
unfinished_globals ts at f gs c m = subst (λ o. Tells ts f o) (stops (drop at ts) c m.lacks) m.tells
  where
    go : (k : TokenKind) → (k ≡ kind.Mark punct.Comma → ⊥) → (k ≡ kind.Mark punct.Semicolon → ⊥) → global_read k gs ≡ no
    go (kind.Mark punct.Comma) c s = absurd (c refl)
    go (kind.Mark punct.Semicolon) c s = absurd (s refl)
    go (kind.Mark m) c s = refl
    go (kind.Word w) c s = refl
    go (kind.Literal v) c s = refl
    go kind.Name c s = refl

    stops : (rest : List PureToken) → Lacks (kind.Mark punct.Comma) rest → Lacks (kind.Mark punct.Semicolon) rest →
        rejected rest ≡ limited rest (GlobalRead gs)
    stops [] c s = refl
    stops (t ∷ us) c s = sym (limited-no t us (GlobalRead gs) (go t.kind c s))

-- after the name of an item, where no parenthesis follows

pub limited-first : (rest : List PureToken) (n : Identifier) → Lacks (kind.Mark punct.OpenParenthesis) rest →
    limited rest (Titled (new_head false false n)) ≡ limited rest (GlobalNamed n [])
limited-first [] n l = refl
limited-first (t ∷ ts) n l = limited-turn t ts (Titled (new_head false false n)) ∙ ap (λ m. turn false m (limited ts) t ts) (go t.kind l)
    ∙ sym (limited-turn t ts (GlobalNamed n []))
  where
    go : (k : TokenKind) → (k ≡ kind.Mark punct.OpenParenthesis → ⊥) → titled (new_head false false n) k ≡ global_named k n []
    go (kind.Mark punct.OpenParenthesis) l = absurd (l refl)
    go (kind.Mark m) l = refl
    go (kind.Word w) l = refl
    go (kind.Literal v) l = refl
    go kind.Name l = refl

pub no_globals : (rest : List PureToken) (outer void : Bool) (n : Identifier) → (outer || void) ≡ true →
    Lacks (kind.Mark punct.OpenParenthesis) rest → rejected rest ≡ limited rest (Titled (new_head outer void n))
no_globals [] outer void n e l = refl
no_globals (t ∷ ts) outer void n e l = sym (limited-no t ts (Titled (new_head outer void n)) (go outer void e t.kind l))
  where
    go : (outer void : Bool) → (outer || void) ≡ true → (k : TokenKind) → (k ≡ kind.Mark punct.OpenParenthesis → ⊥) →
        titled (new_head outer void n) k ≡ no
    go false false e k l = cc
    go true void e (kind.Mark punct.OpenParenthesis) l = absurd (l refl)
    go true void e (kind.Mark m) l = refl
    go true void e (kind.Word w) l = refl
    go true void e (kind.Literal v) l = refl
    go true void e kind.Name l = refl
    go false true e (kind.Mark punct.OpenParenthesis) l = absurd (l refl)
    go false true e (kind.Mark m) l = refl
    go false true e (kind.Word w) l = refl
    go false true e (kind.Literal v) l = refl
    go false true e kind.Name l = refl

pub globals_push : (gs : List GlobalTree) (g : GlobalTree) → map global_of (gs ++ g ∷ []) ≡ map global_of gs ++ global_of g ∷ []
globals_push [] g = refl
globals_push (h ∷ gs) g = ap (λ l. global_of h ∷ l) (globals_push gs g)
