-- Steps of the parser's functions: declarations and statements.
use Rattle.std.specs.Prelude.{◌≡◌, ℕ, ◌+◌, List, [], ◌∷◌, ◌++◌, Bool, true, false, Option, Some, None, refl}
use Rattle.std.proofs.Common.{sym, ◌∙◌, ap, subst, arith}
use Rattle.c_tree.specs.declared.tree.Pos.{Pos}
use Rattle.c_lexer.specs.declared.token.Keyword.TheVariants as keyword
use Rattle.c_lexer.specs.declared.token.Punct.{Punct}
use Rattle.c_lexer.specs.declared.token.Punct.TheVariants as punct
use Rattle.c_lexer.specs.declared.token.TokenKind.{TokenKind}
use Rattle.c_lexer.specs.declared.token.TokenKind.TheVariants as kind
use Rattle.c_lexer.specs.Pure.{PureToken}
use Rattle.c_tree.specs.SourceTree as tree
use Rattle.c_tree.specs.SourceTree.{Identifier, ExpressionTree, SimpleStatement, Declarator, ForInit, starting, StatementTree, StatementTrees, statement}
use Rattle.c_parser.specs.Grammar.{is_nested, takes_else}
use Rattle.c_parser.specs.steps.Machine.{Frames, Outermost, Within, Then, Otherwise, Body, Doing, ForBody, Spot, Alone, First, Step, Site, InBlock, InFor, DoTest, Initialising, ForTesting, Returning, AllRead, Declaring, State, Typing, Start, Done, Test, Ending, Returned, ForFirst, ForTest, ForStep, Simple, NextName, Declared, Want, Have, is_else, of_token, also_statement, declared_as, Move, no, on, done, declared, had, move, step, is_over, nest, block_nest, start_deep, is_deep, Stops, Deep, limited, FollowsKind, Follows, NoNext}
use Rattle.std.specs.Prelude.{map}
use Rattle.std.proofs.Common.{drop}
use Rattle.c_tree.specs.declared.syntax_tree.Declared as tree_code
use Rattle.c_tree.specs.declared.syntax_tree.StmtTree.{StmtTree}
use Rattle.c_tree.specs.SourceView.{declarator_of, statement_tree_of, statement_trees_of}
use Rattle.c_parser.specs.Grammar.{a_mark}
use Rattle.c_parser.specs.declared.fault.Fault.{Fault}
use Rattle.c_parser.specs.steps.Machine.{started, begin_simple, next_name, on_semicolon, for_first, for_step, simple_read, ended, declaration_typed, Room, room}
use Rattle.c_parser.specs.declared.opening.Opening as the_opening
use Rattle.c_parser.specs.declared.opening.Opening.TheVariants as opening
use Rattle.c_parser.specs.steps.Openings.{opening_of, opened_move, opened_nest}
use Rattle.c_parser.specs.steps.Parsing.{rejected, Tells, Stands, Lacks, Passes, PassesWord, Misses, StandsMark}
use Rattle.c_parser.specs.steps.ParsingStatements.{went, simple_outcome, end_declarator, declared_outcome, ReadsFull, starting_nest, brace_nest, nest_at, OpensKind, OpensStatement, EndsAt, LacksType, ReadsType, ReadsOpened, FailsOpened, ReadsStatement, FailsStatement}
use Rattle.c_parser.proofs.Alike.{trace-returned, trace-for_test}
use Rattle.c_parser.proofs.ReadStatements.{room_opening, declared-room, first_opening}
use Rattle.c_parser.proofs.Outcomes.{turn, limited-turn}
use Rattle.c_parser.proofs.Steps.{limited_by, limited-on, lacks-semicolon}

-- a full expression of an initialiser
declared-initial : (rest : List PureToken) (c : ℕ) (e : ExpressionTree) (n : Identifier) (d : Site) (ds : List Declarator) →
    Follows 0 rest →
    limited rest (Have c e [] (Initialising n d ds)) ≡ declared_outcome d (ds ++ declared_as n e ∷ []) rest
declared-initial [] c e n d ds h = refl
declared-initial (t ∷ ts) c e n d ds h = limited-turn t ts (Have c e [] (Initialising n d ds)) ∙ go t.kind h
  where
    go : (k : TokenKind) → FollowsKind 0 k → turn (is_over c k) (had k t.at c e [] (Initialising n d ds)) (limited ts) t ts
        ≡ went (end_declarator k d (ds ++ declared_as n e ∷ [])) (t ∷ ts) ts
    go kind.Name h = refl
    go (kind.Literal m) h = refl
    go (kind.Word w) h = refl
    go (kind.Mark punct.Or) h = absurd (omega arith)
    go (kind.Mark punct.And) h = absurd (omega arith)
    go (kind.Mark punct.Equal) h = absurd (omega arith)
    go (kind.Mark punct.Unequal) h = absurd (omega arith)
    go (kind.Mark punct.Less) h = absurd (omega arith)
    go (kind.Mark punct.LessEqual) h = absurd (omega arith)
    go (kind.Mark punct.Greater) h = absurd (omega arith)
    go (kind.Mark punct.GreaterEqual) h = absurd (omega arith)
    go (kind.Mark punct.Plus) h = absurd (omega arith)
    go (kind.Mark punct.Minus) h = absurd (omega arith)
    go (kind.Mark punct.Star) h = absurd (omega arith)
    go (kind.Mark punct.Slash) h = absurd (omega arith)
    go (kind.Mark punct.Percent) h = absurd (omega arith)
    go (kind.Mark m) h = refl

pub initial_leads : (ts : List PureToken) (at next : ℕ) (t : PureToken) (n : Identifier) (e : ExpressionTree) → Stands ts at t →
    t.kind ≡ kind.Name → n ≡ of_token t → Passes ts punct.Assign (at + 1) (at + 1 + 1) → ReadsFull ts (at + 2) e next →
    (d : Site) (ds : List Declarator) → limited (drop at ts) (NextName d ds) ≡ declared_outcome d (ds ++ declared_as n e ∷ [])
    (drop next ts)
initial_leads ts at next t n e s k q a r d ds =
    let two : at + 1 + 1 ≡ at + 2 = omega arith in
    ap (λ l. limited l (NextName d ds)) s.here
    ∙ limited-on t (drop (at + 1) ts) (NextName d ds) (Declared (of_token t) d ds) refl (ap (λ x. next_name x (of_token t) d ds) k)
    ∙ ap (λ l. limited l (Declared (of_token t) d ds)) a.here
    ∙ limited-on (a_mark punct.Assign a.place a.text) (drop (at + 1 + 1) ts) (Declared (of_token t) d ds)
    (Want 0 [] (Initialising (of_token t) d ds)) refl refl
    ∙ ap (λ m. limited (drop m ts) (Want 0 [] (Initialising (of_token t) d ds))) two
    ∙ r.leads (Initialising (of_token t) d ds)
    ∙ declared-initial (drop next ts) r.count e (of_token t) d ds r.follows
    ∙ ap (λ x. declared_outcome d (ds ++ declared_as x e ∷ []) (drop next ts)) (sym q)

pub declared_push : (ds : List tree_code.Declared) (x : tree_code.Declared) → map declarator_of (ds ++ x ∷ []) ≡ map declarator_of ds
    ++ declarator_of x ∷ []
declared_push [] x = refl
declared_push (d ∷ ds) x = ap (λ l. declarator_of d ∷ l) (declared_push ds x)

pub comma_declared : (ts : List PureToken) (after : ℕ) (d : Site) (ds : List Declarator) → Passes ts punct.Comma after (after + 1) →
    declared_outcome d ds (drop after ts) ≡ limited (drop (after + 1) ts) (NextName d ds)
comma_declared ts after d ds h = ap (declared_outcome d ds) h.here

pub semicolon_declared : (ts : List PureToken) (after end : ℕ) (d : Site) (ds : List Declarator) → Passes ts punct.Semicolon after end →
    declared_outcome d ds (drop after ts) ≡ limited (drop end ts) (declared d ds)
semicolon_declared ts after end d ds h = ap (declared_outcome d ds) h.here ∙ ap (λ k. limited (drop k ts) (declared d ds)) (sym h.later)

-- what a statement begins with
abbrev pub begins_statement : TokenKind → Bool
begins_statement kind.Name = true
begins_statement (kind.Mark punct.OpenBrace) = true
begins_statement (kind.Mark punct.Semicolon) = true
begins_statement (kind.Mark punct.Increment) = true
begins_statement (kind.Mark punct.Decrement) = true
begins_statement (kind.Word keyword.If) = true
begins_statement (kind.Word keyword.While) = true
begins_statement (kind.Word keyword.Do) = true
begins_statement (kind.Word keyword.For) = true
begins_statement (kind.Word keyword.Break) = true
begins_statement (kind.Word keyword.Continue) = true
begins_statement (kind.Word keyword.Return) = true
begins_statement _ = false

-- a statement's first token

pub begun_moves : (k : TokenKind) (x : Identifier) (fs : Frames) → begins_statement k ≡ true → (s : State) × (started k x fs ≡ on s)
begun_moves kind.Name x fs h = (_, refl)
begun_moves (kind.Mark punct.OpenBrace) x fs h = (_, refl)
begun_moves (kind.Mark punct.Semicolon) x fs h = (_, refl)
begun_moves (kind.Mark punct.Increment) x fs h = (_, refl)
begun_moves (kind.Mark punct.Decrement) x fs h = (_, refl)
begun_moves (kind.Word keyword.If) x fs h = (_, refl)
begun_moves (kind.Word keyword.While) x fs h = (_, refl)
begun_moves (kind.Word keyword.Do) x fs h = (_, refl)
begun_moves (kind.Word keyword.For) x fs h = (_, refl)
begun_moves (kind.Word keyword.Break) x fs h = (_, refl)
begun_moves (kind.Word keyword.Continue) x fs h = (_, refl)
begun_moves (kind.Word keyword.Return) x fs h = (_, refl)
begun_moves _ x fs h = cc

starting-plain : (fs : Frames) (k : TokenKind) → ((n : ℕ) → brace_nest k n ≡ n) → starting_nest fs k ≡ nest fs
starting-plain (Outermost h ss) k e = e 1
starting-plain (Within ss fs) k e = e (block_nest fs)
starting-plain (Then e fs) k h = refl
starting-plain (Otherwise e s fs) k h = refl
starting-plain (Body e fs) k h = refl
starting-plain (Doing fs) k h = refl
starting-plain (ForBody f t p fs) k h = refl

starting-brace : (fs : Frames) → starting_nest fs (kind.Mark punct.OpenBrace) ≡ block_nest fs
starting-brace (Outermost h ss) = refl
starting-brace (Within ss fs) = refl
starting-brace (Then e fs) = refl
starting-brace (Otherwise e s fs) = refl
starting-brace (Body e fs) = refl
starting-brace (Doing fs) = refl
starting-brace (ForBody f t p fs) = refl

begun_deep : (k : TokenKind) (fs : Frames) → begins_statement k ≡ true → start_deep k fs ≡ is_nested (starting_nest fs k)
begun_deep kind.Name fs h = ap is_nested (sym (starting-plain fs kind.Name (λ n. refl)))
begun_deep (kind.Mark punct.OpenBrace) fs h = ap is_nested (sym (starting-brace fs))
begun_deep (kind.Mark punct.Semicolon) fs h = ap is_nested (sym (starting-plain fs (kind.Mark punct.Semicolon) (λ n. refl)))
begun_deep (kind.Mark punct.Increment) fs h = ap is_nested (sym (starting-plain fs (kind.Mark punct.Increment) (λ n. refl)))
begun_deep (kind.Mark punct.Decrement) fs h = ap is_nested (sym (starting-plain fs (kind.Mark punct.Decrement) (λ n. refl)))
begun_deep (kind.Word keyword.If) fs h = ap is_nested (sym (starting-plain fs (kind.Word keyword.If) (λ n. refl)))
begun_deep (kind.Word keyword.While) fs h = ap is_nested (sym (starting-plain fs (kind.Word keyword.While) (λ n. refl)))
begun_deep (kind.Word keyword.Do) fs h = ap is_nested (sym (starting-plain fs (kind.Word keyword.Do) (λ n. refl)))
begun_deep (kind.Word keyword.For) fs h = ap is_nested (sym (starting-plain fs (kind.Word keyword.For) (λ n. refl)))
begun_deep (kind.Word keyword.Break) fs h = ap is_nested (sym (starting-plain fs (kind.Word keyword.Break) (λ n. refl)))
begun_deep (kind.Word keyword.Continue) fs h = ap is_nested (sym (starting-plain fs (kind.Word keyword.Continue) (λ n. refl)))
begun_deep (kind.Word keyword.Return) fs h = ap is_nested (sym (starting-plain fs (kind.Word keyword.Return) (λ n. refl)))
begun_deep _ fs h = cc

nest-stands : (ts : List PureToken) (at : ℕ) (t : PureToken) (fs : Frames) → Stands ts at t → nest_at fs (drop at ts) ≡ starting_nest fs
    t.kind
nest-stands ts at t fs s = ap (nest_at fs) s.here ∙ go fs
  where
    go : (fs : Frames) → nest_at fs (t ∷ drop (at + 1) ts) ≡ starting_nest fs t.kind
    go (Outermost h ss) = refl
    go (Within ss fs) = refl
    go (Then e fs) = refl
    go (Otherwise e x fs) = refl
    go (Body e fs) = refl
    go (Doing fs) = refl
    go (ForBody f e p fs) = refl

-- where a statement begins within the limit, its first token may come
pub start_turn : (ts : List PureToken) (at nesting : ℕ) (t : PureToken) (fs : Frames) → Stands ts at t → begins_statement t.kind ≡ true →
    is_nested nesting ≡ false → nest_at fs (drop at ts) ≡ nesting →
    (limited (drop at ts) (Start fs) ≡ went (started t.kind (of_token t) fs) (drop at ts) (drop (at + 1) ts))
    × (starting_nest fs t.kind ≡ nesting)
start_turn ts at nesting t fs s b few q =
    let n = sym (nest-stands ts at t fs s) ∙ q in
    let m = begun_moves t.kind (of_token t) fs b in
    let d = begun_deep t.kind fs b ∙ ap is_nested n ∙ few in (
      ap (λ l. limited l (Start fs)) s.here ∙ limited-on t (drop (at + 1) ts) (Start fs) m.0 d m.1
          ∙ ap (λ x. went x (drop at ts) (drop (at + 1) ts)) (sym m.1),
      n,
    )

-- past the limit it is too deep
pub start_deep_turn : (ts : List PureToken) (at nesting : ℕ) (t : PureToken) (fs : Frames) → Stands ts at t → begins_statement t.kind
    ≡ true →
    is_nested nesting ≡ true → nest_at fs (drop at ts) ≡ nesting →
    limited (drop at ts) (Start fs) ≡ Deep (drop at ts)
start_deep_turn ts at nesting t fs s b many q =
    let n = sym (nest-stands ts at t fs s) ∙ q in
    let m = begun_moves t.kind (of_token t) fs b in
    let d = begun_deep t.kind fs b ∙ ap is_nested n ∙ many in
    let rest = drop (at + 1) ts in
    ap (λ l. limited l (Start fs)) s.here ∙ limited-turn t rest (Start fs) ∙ ap (λ x. turn x (started t.kind (of_token t) fs) (limited rest)
    t rest) d ∙ ap (λ x. turn true x (limited rest) t rest) m.1 ∙ ap Deep (sym s.here)

statement_kind : (fs : Frames) (k : TokenKind) (x : Identifier) → begins_statement k ≡ false → OpensKind fs k → started k x fs ≡ no
statement_kind fs (kind.Literal n) x b h = refl
statement_kind fs kind.Name x b h = cc
statement_kind (Outermost o ss) (kind.Mark punct.CloseBrace) x b h = absurd (h.brace refl)
statement_kind (Within ss fs) (kind.Mark punct.CloseBrace) x b h = absurd (h.brace refl)
statement_kind (Then e fs) (kind.Mark punct.CloseBrace) x b h = refl
statement_kind (Otherwise e s fs) (kind.Mark punct.CloseBrace) x b h = refl
statement_kind (Body e fs) (kind.Mark punct.CloseBrace) x b h = refl
statement_kind (Doing fs) (kind.Mark punct.CloseBrace) x b h = refl
statement_kind (ForBody f t p fs) (kind.Mark punct.CloseBrace) x b h = refl
statement_kind fs (kind.Mark punct.OpenBrace) x b h = cc
statement_kind fs (kind.Mark punct.Semicolon) x b h = cc
statement_kind fs (kind.Mark punct.Increment) x b h = cc
statement_kind fs (kind.Mark punct.Decrement) x b h = cc
statement_kind fs (kind.Mark m) x b h = refl
statement_kind (Outermost o ss) (kind.Word keyword.Int) x b h = absurd (h.int refl)
statement_kind (Within ss fs) (kind.Word keyword.Int) x b h = absurd (h.int refl)
statement_kind (Outermost o ss) (kind.Word keyword.Long) x b h = absurd (h.long refl)
statement_kind (Within ss fs) (kind.Word keyword.Long) x b h = absurd (h.long refl)
statement_kind (Then e fs) (kind.Word keyword.Int) x b h = refl
statement_kind (Otherwise e s fs) (kind.Word keyword.Int) x b h = refl
statement_kind (Body e fs) (kind.Word keyword.Int) x b h = refl
statement_kind (Doing fs) (kind.Word keyword.Int) x b h = refl
statement_kind (ForBody f t p fs) (kind.Word keyword.Int) x b h = refl
statement_kind (Then e fs) (kind.Word keyword.Long) x b h = refl
statement_kind (Otherwise e s fs) (kind.Word keyword.Long) x b h = refl
statement_kind (Body e fs) (kind.Word keyword.Long) x b h = refl
statement_kind (Doing fs) (kind.Word keyword.Long) x b h = refl
statement_kind (ForBody f t p fs) (kind.Word keyword.Long) x b h = refl
statement_kind fs (kind.Word keyword.If) x b h = cc
statement_kind fs (kind.Word keyword.While) x b h = cc
statement_kind fs (kind.Word keyword.Do) x b h = cc
statement_kind fs (kind.Word keyword.For) x b h = cc
statement_kind fs (kind.Word keyword.Break) x b h = cc
statement_kind fs (kind.Word keyword.Continue) x b h = cc
statement_kind fs (kind.Word keyword.Return) x b h = cc
statement_kind fs (kind.Word w) x b h = refl

pub limited-no : (t : PureToken) (rest : List PureToken) (s : State) → step s t ≡ no → limited (t ∷ rest) s ≡ Stops (t ∷ rest)
limited-no t rest s e = limited-turn t rest s ∙ ap (λ m. turn (is_deep s t.kind) m (limited rest) t rest) e

opens-stands : (ts : List PureToken) (at : ℕ) (t : PureToken) (fs : Frames) → Stands ts at t → OpensStatement fs (drop at ts) →
    OpensKind fs t.kind
opens-stands ts at t fs s h = go fs (subst (λ l. OpensStatement fs l) s.here h)
  where
    go : (fs : Frames) → OpensStatement fs (t ∷ drop (at + 1) ts) → OpensKind fs t.kind
    go (Outermost o ss) h = h
    go (Within ss fs) h = h
    go (Then e fs) h = tt
    go (Otherwise e x fs) h = tt
    go (Body e fs) h = tt
    go (Doing fs) h = tt
    go (ForBody f e p fs) h = tt

pub start_stops : (ts : List PureToken) (at : ℕ) (t : PureToken) (fs : Frames) → Stands ts at t → begins_statement t.kind ≡ false →
    OpensStatement fs (drop at ts) → limited (drop at ts) (Start fs) ≡ Stops (drop at ts)
start_stops ts at t fs s b h =
    ap (λ l. limited l (Start fs)) s.here ∙ limited-no t (drop (at + 1) ts) (Start fs)
    (statement_kind fs t.kind (of_token t) b (opens-stands ts at t fs s h)) ∙ ap Stops (sym s.here)

pub statements_of-push : (ss : List StmtTree) (s : StmtTree) → statement_trees_of (ss ++ s ∷ []) ≡ also_statement (statement_trees_of ss)
    (statement_tree_of s)
statements_of-push [] s = refl
statements_of-push (x ∷ xs) s = ap (statement (statement_tree_of x)) (statements_of-push xs s)

-- The parts of statements

turn-went : (t : PureToken) (ts : List PureToken) (m : Move) → turn false m (limited ts) t ts ≡ went m (t ∷ ts) ts
turn-went t ts no = refl
turn-went t ts (on s) = refl
turn-went t ts (done i) = refl

pub limited-returned : (rest : List PureToken) (at : Pos) (fs : Frames) → Lacks (kind.Mark punct.Semicolon) rest →
    limited rest (Returned at fs) ≡ limited rest (Want 0 [] (Returning at fs))
limited-returned rest at fs h = limited_by rest (Returned at fs) (Want 0 [] (Returning at fs))
    (trace-returned rest at fs (lacks-semicolon rest h))

pub limited-for_test : (rest : List PureToken) (f : ForInit) (fs : Frames) → Lacks (kind.Mark punct.Semicolon) rest →
    limited rest (ForTest f fs) ≡ limited rest (Want 0 [] (ForTesting f fs))
limited-for_test rest f fs h = limited_by rest (ForTest f fs) (Want 0 [] (ForTesting f fs))
    (trace-for_test rest f fs (lacks-semicolon rest h))

semicolon_alone : (n : Punct) (s : State) → (n ≡ punct.Semicolon → ⊥) → on_semicolon n s ≡ no
semicolon_alone punct.Semicolon s h = absurd (h refl)
semicolon_alone n s h = refl

pub ends_returning : (at : Pos) (fs : Frames) → EndsAt punct.Semicolon (Returning at fs)
ends_returning at fs n c e h = semicolon_alone n (Done (tree.return at (Some e)) fs) h

pub ends_for_testing : (f : ForInit) (fs : Frames) → EndsAt punct.Semicolon (ForTesting f fs)
ends_for_testing f fs n c e h = semicolon_alone n (ForStep f (Some e) fs) h

pub simple_first : (rest : List PureToken) (fs : Frames) → Lacks (kind.Mark punct.Semicolon) rest → LacksType rest →
    limited rest (ForFirst fs) ≡ simple_outcome (First fs) rest
simple_first [] fs h l = refl
simple_first (t ∷ ts) fs h l = limited-turn t ts (ForFirst fs) ∙ turn-went t ts (for_first t.kind (of_token t) fs)
    ∙ ap (λ m. went m (t ∷ ts) ts) (go t.kind h l.int l.long)
  where
    go : (k : TokenKind) → (k ≡ kind.Mark punct.Semicolon → ⊥) → (k ≡ kind.Word keyword.Int → ⊥) → (k ≡ kind.Word keyword.Long → ⊥) →
        for_first k (of_token t) fs ≡ begin_simple k (of_token t) (First fs)
    go (kind.Mark punct.Semicolon) h i l = absurd (h refl)
    go (kind.Word keyword.Int) h i l = absurd (i refl)
    go (kind.Word keyword.Long) h i l = absurd (l refl)
    go k h i l = refl

pub simple_step : (rest : List PureToken) (f : ForInit) (e : Option ExpressionTree) (fs : Frames) → Lacks (kind.Mark punct.CloseParenthesis)
    rest → limited rest (ForStep f e fs) ≡ simple_outcome (Step f e fs) rest
simple_step [] f e fs h = refl
simple_step (t ∷ ts) f e fs h = limited-turn t ts (ForStep f e fs) ∙ turn-went t ts (for_step t.kind (of_token t) f e fs)
    ∙ ap (λ m. went m (t ∷ ts) ts) (go t.kind h)
  where
    go : (k : TokenKind) → (k ≡ kind.Mark punct.CloseParenthesis → ⊥) → for_step k (of_token t) f e fs ≡ begin_simple k (of_token t)
        (Step f e fs)
    go (kind.Mark punct.CloseParenthesis) h = absurd (h refl)
    go k h = refl

-- what may end a simple statement ends it, and nothing else does
abbrev pub spot_mark : Spot → Punct
spot_mark (Alone fs) = punct.Semicolon
spot_mark (First fs) = punct.Semicolon
spot_mark (Step f t fs) = punct.CloseParenthesis

abbrev pub spot_state : SimpleStatement → Spot → State
spot_state s (Alone fs) = Done (tree.simple s) fs
spot_state s (First fs) = ForTest (starting s) fs
spot_state s (Step f t fs) = Start (ForBody f t (Some s) fs)

spot_move : (s : SimpleStatement) (p : Spot) (x : Identifier) → move (Simple s p) (kind.Mark (spot_mark p)) x ≡ on (spot_state s p)
spot_move s (Alone fs) x = refl
spot_move s (First fs) x = refl
spot_move s (Step f t fs) x = refl

spot_no : (s : SimpleStatement) (p : Spot) (k : TokenKind) → (k ≡ kind.Mark (spot_mark p) → ⊥) → simple_read k s p ≡ no
spot_no s (Alone fs) (kind.Mark punct.Semicolon) h = absurd (h refl)
spot_no s (First fs) (kind.Mark punct.Semicolon) h = absurd (h refl)
spot_no s (Step f t fs) (kind.Mark punct.CloseParenthesis) h = absurd (h refl)
spot_no s (Step f t fs) (kind.Mark punct.Semicolon) h = refl
spot_no s (Alone fs) (kind.Mark m) h = refl
spot_no s (First fs) (kind.Mark m) h = refl
spot_no s (Step f t fs) (kind.Mark m) h = refl
spot_no s p (kind.Word w) h = refl
spot_no s p (kind.Literal n) h = refl
spot_no s p kind.Name h = refl

pub simple_ends : (ts : List PureToken) (end next : ℕ) (s : SimpleStatement) (p : Spot) → Passes ts (spot_mark p) end next →
    limited (drop end ts) (Simple s p) ≡ limited (drop next ts) (spot_state s p)
simple_ends ts end next s p h =
    ap (λ l. limited l (Simple s p)) h.here ∙ limited-on (a_mark (spot_mark p) h.place h.text) (drop (end + 1) ts) (Simple s p)
    (spot_state s p) refl (spot_move s p (record { name = h.text; at = h.place }))
    ∙ ap (λ k. limited (drop k ts) (spot_state s p)) (sym h.later)

pub simple_misses : (ts : List PureToken) (end : ℕ) (f : Fault) (s : SimpleStatement) (p : Spot) → Misses ts (spot_mark p) end f →
    Tells ts f (limited (drop end ts) (Simple s p))
simple_misses ts end f s p h = subst (λ o. Tells ts f o) (go (drop end ts) h.lacks) h.tells
  where
    go : (rest : List PureToken) → Lacks (kind.Mark (spot_mark p)) rest → rejected rest ≡ limited rest (Simple s p)
    go [] l = refl
    go (t ∷ rest) l = sym (limited-no t rest (Simple s p) (spot_no s p t.kind l))

-- the closing word and mark of a `do`
pub ending_misses : (ts : List PureToken) (end : ℕ) (f : Fault) (s : StatementTree) (fs : Frames) → Misses ts punct.Semicolon end f →
    Tells ts f (limited (drop end ts) (Ending s fs))
ending_misses ts end f s fs h = subst (λ o. Tells ts f o) (go (drop end ts) h.lacks) h.tells
  where
    other : (k : TokenKind) → (k ≡ kind.Mark punct.Semicolon → ⊥) → ended k s fs ≡ no
    other (kind.Mark punct.Semicolon) h = absurd (h refl)
    other (kind.Mark m) h = refl
    other (kind.Word w) h = refl
    other (kind.Literal n) h = refl
    other kind.Name h = refl

    go : (rest : List PureToken) → Lacks (kind.Mark punct.Semicolon) rest → rejected rest ≡ limited rest (Ending s fs)
    go [] l = refl
    go (t ∷ rest) l = sym (limited-no t rest (Ending s fs) (other t.kind l))

pub do_turn : (ts : List PureToken) (after next : ℕ) (s : StatementTree) (fs : Frames) → PassesWord ts keyword.While after next →
    limited (drop after ts) (Done s (Doing fs)) ≡ limited (drop next ts) (Test (DoTest s) fs)
do_turn ts after next s fs h = ap (λ l. limited l (Done s (Doing fs))) h.here ∙ ap (λ k. limited (drop k ts) (Test (DoTest s) fs))
    (sym h.later)

-- items of blocks

pub block_end : (ts : List PureToken) (end : ℕ) (ss : StatementTrees) (fs : Frames) → StandsMark ts punct.CloseBrace end →
    limited (drop end ts) (Start (Within ss fs)) ≡ limited (drop (end + 1) ts) (Done (tree.block ss) fs)
block_end ts end ss fs h = ap (λ l. limited l (Start (Within ss fs))) h.here

pub limited-declaring : (rest : List PureToken) (d : Site) → limited rest (Typing AllRead (Declaring d)) ≡ limited rest (NextName d [])
limited-declaring [] d = refl
limited-declaring (t ∷ ts) d = limited-turn t ts (Typing AllRead (Declaring d)) ∙ ap (λ m. turn false m (limited ts) t ts) (go t.kind)
    ∙ sym (limited-turn t ts (NextName d []))
  where
    go : (k : TokenKind) → declaration_typed d k (of_token t) ≡ next_name k (of_token t) d []
    go kind.Name = refl
    go (kind.Mark m) = refl
    go (kind.Word w) = refl
    go (kind.Literal n) = refl

-- a declaration of a block
pub declaration_turn : (ts : List PureToken) (at after : ℕ) (r : Room) (ss : StatementTrees) → ReadsType ts at after →
    limited (drop at ts) (Start (room r ss)) ≡ limited (drop after ts) (NextName (InBlock (room r ss)) [])
declaration_turn ts at after r ss h =
    h.leads (Start (room r ss)) (Declaring (InBlock (room r ss))) (room_opening r ss) ∙ limited-declaring (drop after ts)
    (InBlock (room r ss))

pub declaration_end : (rest : List PureToken) (r : Room) (ss : StatementTrees) (ds : List Declarator) →
    limited rest (declared (InBlock (room r ss)) ds) ≡ limited rest (Start (room r (also_statement ss (tree.declare ds))))
declaration_end rest r ss ds = ap (limited rest) (declared-room r ss ds)

pub first_turn : (ts : List PureToken) (at after : ℕ) (fs : Frames) → ReadsType ts at after → limited (drop at ts) (ForFirst fs)
    ≡ limited (drop after ts) (NextName (InFor fs) [])
first_turn ts at after fs h = h.leads (ForFirst fs) (Declaring (InFor fs)) (first_opening fs) ∙ limited-declaring (drop after ts) (InFor fs)

-- a simple statement that stands alone
pub alone_turn : (ts : List PureToken) (at : ℕ) (t : PureToken) (fs : Frames) → Stands ts at t →
    went (begin_simple t.kind (of_token t) (Alone fs)) (drop at ts) (drop (at + 1) ts) ≡ simple_outcome (Alone fs) (drop at ts)
alone_turn ts at t fs s = ap (λ l. went (begin_simple t.kind (of_token t) (Alone fs)) l (drop (at + 1) ts)) s.here
    ∙ sym (ap (simple_outcome (Alone fs)) s.here)

-- what a statement begins with

opening_begins : (k : TokenKind) (o : the_opening.Opening) → opening_of k ≡ Some o → begins_statement k ≡ true
opening_begins kind.Name o e = refl
opening_begins (kind.Literal n) o e = cc
opening_begins (kind.Mark punct.OpenBrace) o e = refl
opening_begins (kind.Mark punct.Semicolon) o e = refl
opening_begins (kind.Mark punct.Increment) o e = refl
opening_begins (kind.Mark punct.Decrement) o e = refl
opening_begins (kind.Mark m) o e = cc
opening_begins (kind.Word keyword.If) o e = refl
opening_begins (kind.Word keyword.While) o e = refl
opening_begins (kind.Word keyword.Do) o e = refl
opening_begins (kind.Word keyword.For) o e = refl
opening_begins (kind.Word keyword.Break) o e = refl
opening_begins (kind.Word keyword.Continue) o e = refl
opening_begins (kind.Word keyword.Return) o e = refl
opening_begins (kind.Word w) o e = cc

no_opening : (k : TokenKind) → opening_of k ≡ None → begins_statement k ≡ false
no_opening kind.Name e = cc
no_opening (kind.Literal n) e = refl
no_opening (kind.Mark punct.OpenBrace) e = cc
no_opening (kind.Mark punct.Semicolon) e = cc
no_opening (kind.Mark punct.Increment) e = cc
no_opening (kind.Mark punct.Decrement) e = cc
no_opening (kind.Mark m) e = refl
no_opening (kind.Word keyword.If) e = cc
no_opening (kind.Word keyword.While) e = cc
no_opening (kind.Word keyword.Do) e = cc
no_opening (kind.Word keyword.For) e = cc
no_opening (kind.Word keyword.Break) e = cc
no_opening (kind.Word keyword.Continue) e = cc
no_opening (kind.Word keyword.Return) e = cc
no_opening (kind.Word w) e = refl

record IsOpened (k : TokenKind) (x : Identifier) (fs : Frames) (o : the_opening.Opening) : Type 0 where
  moves : started k x fs ≡ opened_move o k x fs
  nests : starting_nest fs k ≡ opened_nest o fs

opened_at : (k : TokenKind) (x : Identifier) (fs : Frames) (o p : the_opening.Opening) → Some p ≡ Some o → IsOpened k x fs p →
    IsOpened k x fs o
opened_at k x fs o p e h = let q : p ≡ o = cc in subst (λ y. IsOpened k x fs y) q h

is_opened : (k : TokenKind) (x : Identifier) (fs : Frames) (o : the_opening.Opening) → opening_of k ≡ Some o → IsOpened k x fs o
is_opened kind.Name x fs o e = opened_at kind.Name x fs o opening.Simple e
    (record { moves = refl; nests = starting-plain fs kind.Name (λ n. refl) })
is_opened (kind.Literal n) x fs o e = cc
is_opened (kind.Mark punct.OpenBrace) x fs o e = opened_at (kind.Mark punct.OpenBrace) x fs o opening.Block e
    (record { moves = refl; nests = starting-brace fs })
is_opened (kind.Mark punct.Semicolon) x fs o e = opened_at (kind.Mark punct.Semicolon) x fs o opening.Empty e
    (record { moves = refl; nests = starting-plain fs (kind.Mark punct.Semicolon) (λ n. refl) })
is_opened (kind.Mark punct.Increment) x fs o e = opened_at (kind.Mark punct.Increment) x fs o opening.Simple e
    (record { moves = refl; nests = starting-plain fs (kind.Mark punct.Increment) (λ n. refl) })
is_opened (kind.Mark punct.Decrement) x fs o e = opened_at (kind.Mark punct.Decrement) x fs o opening.Simple e
    (record { moves = refl; nests = starting-plain fs (kind.Mark punct.Decrement) (λ n. refl) })
is_opened (kind.Mark m) x fs o e = cc
is_opened (kind.Word keyword.If) x fs o e = opened_at (kind.Word keyword.If) x fs o opening.If e
    (record { moves = refl; nests = starting-plain fs (kind.Word keyword.If) (λ n. refl) })
is_opened (kind.Word keyword.While) x fs o e = opened_at (kind.Word keyword.While) x fs o opening.While e
    (record { moves = refl; nests = starting-plain fs (kind.Word keyword.While) (λ n. refl) })
is_opened (kind.Word keyword.Do) x fs o e = opened_at (kind.Word keyword.Do) x fs o opening.Do e
    (record { moves = refl; nests = starting-plain fs (kind.Word keyword.Do) (λ n. refl) })
is_opened (kind.Word keyword.For) x fs o e = opened_at (kind.Word keyword.For) x fs o opening.For e
    (record { moves = refl; nests = starting-plain fs (kind.Word keyword.For) (λ n. refl) })
is_opened (kind.Word keyword.Break) x fs o e = opened_at (kind.Word keyword.Break) x fs o opening.Break e
    (record { moves = refl; nests = starting-plain fs (kind.Word keyword.Break) (λ n. refl) })
is_opened (kind.Word keyword.Continue) x fs o e = opened_at (kind.Word keyword.Continue) x fs o opening.Continue e
    (record { moves = refl; nests = starting-plain fs (kind.Word keyword.Continue) (λ n. refl) })
is_opened (kind.Word keyword.Return) x fs o e = opened_at (kind.Word keyword.Return) x fs o opening.Return e
    (record { moves = refl; nests = starting-plain fs (kind.Word keyword.Return) (λ n. refl) })
is_opened (kind.Word w) x fs o e = cc

pub record IsTurned (ts : List PureToken) (at nesting : ℕ) (t : PureToken) (o : the_opening.Opening) (fs : Frames) : Type 0 where
  pub turns : limited (drop at ts) (Start fs) ≡ went (opened_move o t.kind (of_token t) fs) (drop at ts) (drop (at + 1) ts)
  pub nests : opened_nest o fs ≡ nesting

pub opened_turn : (ts : List PureToken) (at nesting : ℕ) (t : PureToken) (o : the_opening.Opening) (fs : Frames) → Stands ts at t →
    opening_of t.kind ≡ Some o → is_nested nesting ≡ false → nest_at fs (drop at ts) ≡ nesting → IsTurned ts at nesting t o fs
opened_turn ts at nesting t o fs s e few q =
    let r = start_turn ts at nesting t fs s (opening_begins t.kind o e) few q in
    let i = is_opened t.kind (of_token t) fs o e in
    record { turns = r.0 ∙ ap (λ m. went m (drop at ts) (drop (at + 1) ts)) i.moves; nests = sym i.nests ∙ r.1 }

pub opened_deep : (ts : List PureToken) (at nesting : ℕ) (t : PureToken) (o : the_opening.Opening) (fs : Frames) → Stands ts at t →
    opening_of t.kind ≡ Some o → is_nested nesting ≡ true → nest_at fs (drop at ts) ≡ nesting → limited (drop at ts) (Start fs)
    ≡ Deep (drop at ts)
opened_deep ts at nesting t o fs s e many q = start_deep_turn ts at nesting t fs s (opening_begins t.kind o e) many q

pub not_opened : (ts : List PureToken) (at : ℕ) (t : PureToken) (fs : Frames) → Stands ts at t → opening_of t.kind ≡ None →
    OpensStatement fs (drop at ts) → limited (drop at ts) (Start fs) ≡ Stops (drop at ts)
not_opened ts at t fs s e h = start_stops ts at t fs s (no_opening t.kind e) h

pub if_err_ends : (s : StatementTree) → takes_else s ≡ false → (rest : List PureToken) → takes_else s ≡ true → NoNext is_else rest
if_err_ends s h rest e = absurd (let a : true ≡ false = sym e ∙ h in cc)

pub statement_reads : (ts : List PureToken) (at nesting : ℕ) (t : PureToken) (o : the_opening.Opening) (s : StatementTree) (next : ℕ) →
    Stands ts at t → opening_of t.kind ≡ Some o → is_nested nesting ≡ false → ReadsOpened ts at nesting t o s next →
    ReadsStatement ts at nesting s next
statement_reads ts at nesting t o s next h e few r = record {
  later = r.later;
  within = r.within;
  leads = λ fs q. let k = opened_turn ts at nesting t o fs h e few q in k.turns ∙ r.leads fs k.nests;
  ends = r.ends;
}

pub statement_fails : (ts : List PureToken) (at nesting : ℕ) (t : PureToken) (o : the_opening.Opening) (f : Fault) → Stands ts at t →
    opening_of t.kind ≡ Some o → is_nested nesting ≡ false → FailsOpened ts at nesting t o f → FailsStatement ts at nesting f
statement_fails ts at nesting t o f h e few r fs q k = let u = opened_turn ts at nesting t o fs h e few q in subst (λ x. Tells ts f x)
    (sym u.turns) (r fs u.nests)
