-- A step reads its token.
use Rattle.std.specs.Prelude.{◌≡◌, ℕ, ◌≤◌, nat_le, List, [], ◌∷◌, ◌++◌, Bool, true, false, cond, Option, Some, refl}
use Rattle.std.proofs.Common.{sym, ◌∙◌, ap, subst, arith, lit≤, append_assoc}
use Rattle.c_tree.specs.declared.tree.Op.{Op}
use Rattle.c_tree.specs.declared.tree.Op.TheVariants as op
use Rattle.c_lexer.specs.declared.token.Keyword.TheVariants as keyword
use Rattle.c_lexer.specs.declared.token.Punct.{Punct}
use Rattle.c_lexer.specs.declared.token.Punct.TheVariants as punct
use Rattle.c_lexer.specs.declared.token.TokenKind.{TokenKind}
use Rattle.c_lexer.specs.declared.token.TokenKind.TheVariants as kind
use Rattle.c_lexer.specs.Pure.{PureToken}
use Rattle.c_tree.specs.SourceTree as tree
use Rattle.c_tree.specs.SourceTree.{Identifier, ExpressionTree, ExpressionTrees, no_arguments, argument, SimpleStatement, Declarator, ForInit, no_init, StatementTree, StatementTrees, no_statements}
use Rattle.c_parser.specs.Grammar.{a_name, IsMark, level, mark_of, counted, IsExpression, IsCall, IsArguments, IsFull, IsOptional, IsType, IsDeclarators, changing_mark, IsSimple, IsOptionalSimple, IsForInit, takes_else, IsTest, IsStatement, IsTypes, IsTypeList, IsParameters, IsParameterList}
use Rattle.c_parser.specs.Grammar as grammar
use Rattle.c_parser.specs.steps.Machine.{Frames, Outermost, Within, Part, After, Spot, Site, Purpose, Words, Typed, State, Closed, first_word, next_word, binary_of, also_argument, also_statement, declared_bare, declared_as, Move, typing, closed, declared, ends, finished, pushed, had_mark, had, tick, wanted, wanted_mark, procedure_of, settled, elsed, resumed, move, Guards}
use Rattle.c_parser.proofs.Reading.{Statement, Items, Conditional, Simply, Declares, Declared', Initial, Optional, OptionalStep, Item, renested, renested_items, more_items, more_declared, Marked, Worded, token, the_mark, the_word, ExternText, absent, present, TitleText, title, Passed, nothing, named, bare, head, Around, outermost, braces, thens, others, bodies, doings, for_bodies, SpotText, alone, first, step', SiteText, in_own, in_inner, in_for, Listed, none_listed, listed, Leads, no_lead, led, Aimed, testing_if, testing_while, testing_do, setting, changing, arguing, initialising, for_testing, returning, Spelled, aimed, after, under, inside, passing, WordsText, all_read, long_read, long_long_read, TypedText, result, parameter, declaration, Reads, begin, externed, voided, typing_words, titled, next_global, named_global, assigned_global, signed_global, read_global, opened, no_parameters, next_parameter, parameter_named, closed_head, start, done_with, test_if, test_while, test_do, ending, returned, for_open, for_first, for_test, for_step, target, stepping, call_opened, simple, next_name, declared_name, want, operand_named, called, have, Reaches, reads_at, item_at}
use Rattle.std.proofs.lemmas.Bool.{leb-true, leb-false}
use Rattle.c_parser.specs.steps.Machine.{typed, typed_on, parameter_typed, resulted, begun, started, went_on, done_body, declares, block_closed, end_simple, begin_simple}
use Rattle.c_parser.proofs.Alike.{level-le, one-le}
use Rattle.c_parser.proofs.SoundGlobals.{titled_reads, named_reads, read_reads, assigned_reads, signed_reads}

reaches_at : (m : Move) {x y : List PureToken} → Reaches m x → x ≡ y → Reaches m y
reaches_at m h e = subst (λ t. Reaches m t) e h

around_at : {fs : Frames} {x y : List PureToken} → Around fs x → x ≡ y → Around fs y
around_at {fs} h e = subst (λ t. Around fs t) e h

-- Expressions

-- an expression of a higher level is one of a lower level
lower : {p q : ℕ} {ts : List PureToken} {e : ExpressionTree} → p ≤ q → IsExpression q ts e → IsExpression p ts e
lower h grammar.literal = grammar.literal
lower h grammar.name = grammar.name
lower h (grammar.call k) = grammar.call k
lower h (grammar.inside t e u k) = grammar.inside t e u k
lower h (grammar.under u t e) = grammar.under u t e
lower h (grammar.binary o t k le a b) = grammar.binary o t k (omega arith) a b

-- every expression is one of level 1
level_one : {p : ℕ} {ts : List PureToken} {e : ExpressionTree} → IsExpression p ts e → IsExpression 1 ts e
level_one grammar.literal = grammar.literal
level_one grammar.name = grammar.name
level_one (grammar.call k) = grammar.call k
level_one (grammar.inside t e u k) = grammar.inside t e u k
level_one (grammar.under u t e) = grammar.under u t e
level_one (grammar.binary o t k le a b) = grammar.binary o t k (one-le o) a b

-- an expression after what was begun, closed down to a level
record IsClosed (q : ℕ) (p : Purpose) (all : List PureToken) (x : ExpressionTree × List Part) : Type 0 where
  text : List PureToken
  own : List PureToken
  whole : text ++ own ≡ all
  begun : Spelled x.1 p text
  expr : IsExpression q own x.0
  guards : Guards q x.1

closed_at : {q : ℕ} {p : Purpose} {xs ys : List PureToken} {x : ExpressionTree × List Part} → IsClosed q p xs x → xs ≡ ys →
    IsClosed q p ys x
closed_at {q} {p} {x = x} h e = subst (λ l. IsClosed q p l x) e h

guards-seven : {ps : List Part} {p : Purpose} {text : List PureToken} → Spelled ps p text → Guards 7 ps
guards-seven (aimed a) = tt
guards-seven (after o g s h t) = omega (arith, level-le o)
guards-seven (under u s t) = lit≤ tt
guards-seven (inside s t) = tt
guards-seven (passing s t es) = tt

closes : (q m : ℕ) {ps : List Part} {p : Purpose} {text own : List PureToken} {e : ExpressionTree} → q ≤ 6 → q ≤ m → m ≤ 7 → Guards m ps →
    Spelled ps p text → IsExpression m own e → IsClosed q p (text ++ own) (closed q e ps)
closes q m {text = text} {own} q6 qm m7 g (aimed a) h = record {
  text = text;
  own = own;
  whole = refl;
  begun = aimed a;
  expr = lower qm h;
  guards = tt;
}
closes q m {p = p} {own = own} {e = e} q6 qm m7 g (after {text} {left} {t} {l} {ps} o og s front k) h =
    go (nat_le q (level o)) refl
    (λ (i : q ≤ level o). closed_at (closes q (level o) q6 i (omega (arith, level-le o)) og s
    (grammar.binary o t k.is (omega arith) front (lower (omega arith) h))) (simp append_assoc))
  where
    go : (b : Bool) → nat_le q (level o) ≡ b →
        (q ≤ level o → IsClosed q p ((text ++ (left ++ t ∷ [])) ++ own) (closed q (tree.binary o t.at l e) ps)) →
        IsClosed q p ((text ++ (left ++ t ∷ [])) ++ own) (cond b (closed q (tree.binary o t.at l e) ps) (e, After o t.at l ∷ ps))
    go true i rec = rec (leb-true q (level o) i)
    go false i rec = record {
      text = text ++ (left ++ t ∷ []);
      own = own;
      whole = refl;
      begun = after o og s front k;
      expr = lower qm h;
      guards = leb-false q (level o) i;
    }
closes q m {own = own} q6 qm m7 g (under {t = t} u s k) h =
    closed_at (closes q 7 q6 (omega arith) (omega arith) (guards-seven s) s (grammar.under {t = t} u k.is (lower g h))) (simp append_assoc)
closes q m {text = text} {own} q6 qm m7 g (inside s k) h = record {
  text = text;
  own = own;
  whole = refl;
  begun = inside s k;
  expr = lower qm h;
  guards = tt;
}
closes q m {text = text} {own} q6 qm m7 g (passing s k es) h = record {
  text = text;
  own = own;
  whole = refl;
  begun = passing s k es;
  expr = lower qm h;
  guards = tt;
}

more_arguments : {ts own : List PureToken} {t : PureToken} {es : ExpressionTrees} {e : ExpressionTree} → IsArguments ts es →
    Marked punct.Comma t → IsExpression 1 own e → IsArguments (ts ++ t ∷ own) (also_argument es e)
more_arguments {t = t} (grammar.one d) k h = grammar.more d t k.is (grammar.one h)
more_arguments {own = own} {t} {e = e} (grammar.more {ts} {us} {e = d} {es} front v i rest) k h =
    subst (λ l. IsArguments l (argument d (also_argument es e))) (sym (append_assoc ts (v ∷ us) (t ∷ own)))
    (grammar.more front v i (more_arguments rest k h))

-- the last argument
last_argument : {args own : List PureToken} {es : ExpressionTrees} {e : ExpressionTree} → Leads args es → IsExpression 1 own e →
    IsArguments (args ++ own) (also_argument es e)
last_argument no_lead h = grammar.one h
last_argument {own = own} {es = es} {e} (led {ts} {t = t} args k) h = subst (λ l. IsArguments l (also_argument es e))
    (sym (append_assoc ts (t ∷ []) own)) (more_arguments args k h)

full : {ts : List PureToken} {e : ExpressionTree} → IsExpression 1 ts e → IsFull ts (counted 0 ts) e
full h = (h, refl)

-- Statements

a_statement : {ts : List PureToken} {deep : List Bool} {s : StatementTree} → IsStatement 0 ts deep s → Statement ts s
a_statement {deep = deep} h = record { deep = deep; is = h }

statement_at : {s : StatementTree} {x y : List PureToken} → Statement x s → x ≡ y → Statement y s
statement_at {s} h e = subst (λ l. Statement l s) e h

simply : {t : PureToken} {ts : List PureToken} {deep : List Bool} {s : SimpleStatement} → IsSimple t ts deep s → Simply t ts s
simply {deep = deep} h = record { deep = deep; is = h }

initial : {ts : List PureToken} {deep : List Bool} {f : ForInit} → IsForInit ts deep f → Initial ts f
initial {deep = deep} h = record { deep = deep; is = h }

optional : {ts : List PureToken} {deep : List Bool} {e : Option ExpressionTree} → IsOptional ts deep e → Optional ts e
optional {deep = deep} h = record { deep = deep; is = h }

optional_step : {ts : List PureToken} {deep : List Bool} {s : Option SimpleStatement} → IsOptionalSimple ts deep s → OptionalStep ts s
optional_step {deep = deep} h = record { deep = deep; is = h }

conditional : {ts : List PureToken} {deep : List Bool} {e : ExpressionTree} → IsTest ts deep e → Conditional ts e
conditional {deep = deep} h = record { deep = deep; is = h }

a_test : {ts : List PureToken} {e : ExpressionTree} {t u : PureToken} → Marked punct.OpenParenthesis t → IsExpression 1 ts e →
    Marked punct.CloseParenthesis u → Conditional (t ∷ (ts ++ u ∷ [])) e
a_test {u = u} k h l = conditional (grammar.test k.is (full h) u l.is)

a_call : {ts : List PureToken} {es : ExpressionTrees} {t u : PureToken} → Marked punct.OpenParenthesis t → IsArguments ts es →
    Marked punct.CloseParenthesis u → IsCall (t ∷ (ts ++ u ∷ [])) es
a_call {u = u} k es l = grammar.passing k.is es u l.is

a_bare_call : {t u : PureToken} → Marked punct.OpenParenthesis t → Marked punct.CloseParenthesis u → IsCall (t ∷ u ∷ []) no_arguments
a_bare_call k l = grammar.bare k.is l.is

a_set : {ts : List PureToken} {e : ExpressionTree} {t : PureToken} → (n : Identifier) → Marked punct.Assign t → IsExpression 1 ts e →
    Simply (a_name n) (t ∷ ts) (tree.set n e)
a_set n k h = simply (grammar.set k.is (full h))

a_change : {ts : List PureToken} {e : ExpressionTree} {t : PureToken} → (n : Identifier) (o : Op) (m : Punct) → changing_mark o ≡ Some m →
    Marked m t → IsExpression 1 ts e → Simply (a_name n) (t ∷ ts) (tree.change o t.at n e)
a_change n o m q k h = simply (grammar.change o m q k.is (full h))

a_return : {ts : List PureToken} {e : Option ExpressionTree} {t u : PureToken} → Worded keyword.Return t → Optional ts e →
    Marked punct.Semicolon u → Statement (t ∷ (ts ++ u ∷ [])) (tree.return t.at e)
a_return {u = u} k e l = a_statement (grammar.return k.is e.is u l.is)

two_words : {t u : PureToken} → Worded keyword.Long t → Worded keyword.Int u → IsType (t ∷ u ∷ [])
two_words h k = grammar.long_int h.is k.is

three_words : {t u v : PureToken} → Worded keyword.Long t → Worded keyword.Long u → Worded keyword.Int v → IsType (t ∷ u ∷ v ∷ [])
three_words h k l = grammar.long_long_int h.is k.is l.is

a_parenthesis : {q : ℕ} {ts : List PureToken} {e : ExpressionTree} {t u : PureToken} → Marked punct.OpenParenthesis t →
    IsExpression 1 ts e →
    Marked punct.CloseParenthesis u → IsExpression q (t ∷ (ts ++ u ∷ [])) e
a_parenthesis {u = u} k h l = grammar.inside k.is h u l.is

within_one : {ts : List PureToken} {s : StatementTree} → (h : Statement ts s) → (deep : List Bool) × IsStatement 1 ts deep s
within_one h = renested h.is 1

if_then : {ts us : List PureToken} {t : PureToken} {e : ExpressionTree} {a : StatementTree} → Worded keyword.If t → Conditional ts e →
    Statement us a → Statement (t ∷ (ts ++ us)) (tree.if_then e a)
if_then k e a = a_statement (grammar.if_then k.is e.is (within_one a).1)

if_else : {ts us vs : List PureToken} {t u : PureToken} {e : ExpressionTree} {a b : StatementTree} → Worded keyword.If t →
    Conditional ts e →
    Statement us a → takes_else a ≡ false → Worded keyword.Else u → Statement vs b →
    Statement (t ∷ (ts ++ (us ++ u ∷ vs))) (tree.if_else e a b)
if_else {u = u} k e a q l b = a_statement (grammar.if_else k.is e.is (within_one a).1 q u l.is (within_one b).1)

while_loop : {ts us : List PureToken} {t : PureToken} {e : ExpressionTree} {a : StatementTree} → Worded keyword.While t → Conditional ts e →
    Statement us a → Statement (t ∷ (ts ++ us)) (tree.while_loop e a)
while_loop k e a = a_statement (grammar.while_loop k.is e.is (within_one a).1)

for_loop : {ts us vs ws : List PureToken} {t u v w : PureToken} {f : ForInit} {e : Option ExpressionTree} {s : Option SimpleStatement}
    {a : StatementTree} → Worded keyword.For t → Marked punct.OpenParenthesis u →
    Initial ts f → Optional us e → Marked punct.Semicolon v → OptionalStep vs s → Marked punct.CloseParenthesis w → Statement ws a →
    Statement (t ∷ u ∷ (ts ++ (us ++ v ∷ (vs ++ w ∷ ws)))) (tree.for_loop f e s a)
for_loop {v = v} {w} k l f e m s i a = a_statement (grammar.for_loop k.is l.is f.is e.is v m.is s.is w i.is (within_one a).1)

-- a statement after what was begun, where no `else` comes
record IsSettled (all : List PureToken) (x : StatementTree × Frames) : Type 0 where
  text : List PureToken
  own : List PureToken
  whole : text ++ own ≡ all
  around : Around x.1 text
  stmt : Statement own x.0

settled_at : {xs ys : List PureToken} {x : StatementTree × Frames} → IsSettled xs x → xs ≡ ys → IsSettled ys x
settled_at {x = x} h e = subst (λ l. IsSettled l x) e h

settles : {fs : Frames} {text own : List PureToken} {s : StatementTree} → Around fs text → Statement own s →
    IsSettled (text ++ own) (settled s fs)
settles {text = text} {own} (outermost t o ps c b items) h = record {
  text = text;
  own = own;
  whole = refl;
  around = outermost t o ps c b
      items;
  stmt = h;
}
settles {text = text} {own} (braces a k items) h = record { text = text; own = own; whole = refl; around = braces a k items; stmt = h }
settles {text = text} {own} (doings a k) h = record { text = text; own = own; whole = refl; around = doings a k; stmt = h }
settles (thens a k e) h = settled_at (settles a (if_then k e h)) (simp append_assoc)
settles (others a k e s q l) h = settled_at (settles a (if_else k e s q l h)) (simp append_assoc)
settles (bodies a k e) h = settled_at (settles a (while_loop k e h)) (simp append_assoc)
settles (for_bodies a k l f e m s i) h = settled_at (settles a (for_loop k l f e m s i h)) (simp append_assoc)

elses : {fs : Frames} {text own : List PureToken} {s : StatementTree} → Around fs text → Statement own s → takes_else s ≡ false →
    (x : Identifier) → Reaches (elsed s fs) ((text ++ own) ++ token (kind.Word keyword.Else) x ∷ [])
elses (outermost t o ps c b items) h q x = tt
elses (braces a k items) h q x = tt
elses (doings a k) h q x = tt
elses (thens a k e) h q x = reads_at (start (others a k e h q (the_word keyword.Else x))) (simp append_assoc)
elses {s = s} (others {e = e} {s = t} {fs = fs} a k c d r l) h q x = reaches_at (elsed (tree.if_else e t s) fs)
    (elses a (if_else k c d r l h) q x) (simp append_assoc)
elses {s = s} (bodies {e = e} {fs = fs} a k c) h q x = reaches_at (elsed (tree.while_loop e s) fs) (elses a (while_loop k c h) q x)
    (simp append_assoc)
elses {s = s} (for_bodies {f = f} {e = e} {s = p} {fs = fs} a k l i c m d n) h q x = reaches_at (elsed (tree.for_loop f e p s) fs)
    (elses a (for_loop k l i c m d n h) q x) (simp append_assoc)

-- Declarations

declares_of : {ts : List PureToken} {deep : List Bool} {ds : List Declarator} → IsDeclarators ts deep ds → Declares ts ds
declares_of {deep = deep} h = record { deep = deep; is = h }

declares_at : {ds : List Declarator} {x y : List PureToken} → Declares x ds → x ≡ y → Declares y ds
declares_at {ds} h e = subst (λ l. Declares l ds) e h

declares_as : {ts : List PureToken} {x y : List Declarator} → Declares ts x → x ≡ y → Declares ts y
declares_as {ts} h e = subst (λ l. Declares ts l) e h

-- the names so far and the last ones
all_listed : {ts us : List PureToken} {ds es : List Declarator} → Listed ts ds → Declares us es → Declares (ts ++ us) (ds ++ es)
all_listed none_listed h = h
all_listed {us = us} {es = es} (listed {ts} {us = vs} {t} {ds} {d} names own k) h =
    declares_as (declares_at (all_listed names (declares_of (grammar.more own.is t k.is h.is))) (simp append_assoc))
    (sym (append_assoc ds (d ∷ []) es))

declared_reads : {d : Site} {text ts us : List PureToken} {ds : List Declarator} → SiteText d text → IsType ts → Declares us ds →
    Reads (declared d ds) (text ++ (ts ++ us))
declared_reads {ts = ts} (in_own (outermost t o ps c b items)) ty h = reads_at
    (start (outermost t o ps c b (more_declared items (grammar.declaration ts ty h.is)))) (simp append_assoc)
declared_reads {ts = ts} (in_inner (braces a k items)) ty h = reads_at
    (start (braces a k (more_declared items (grammar.declaration ts ty h.is))))
    (simp append_assoc)
declared_reads {ts = ts} (in_for a k l) ty h = reads_at (for_test a k l (initial (grammar.declares (grammar.declaration ts ty h.is))))
    (simp append_assoc)

bare_declared : (n : Identifier) → Declared' (a_name n ∷ []) (declared_bare n)
bare_declared n = record { deep = _; is = grammar.bare }

declared_to : {ts : List PureToken} {t : PureToken} {e : ExpressionTree} (n : Identifier) → Marked punct.Assign t → IsExpression 1 ts e →
    Declared' (a_name n ∷ t ∷ ts) (declared_as n e)
declared_to n k h = record { deep = _; is = grammar.initialised k.is (full h) }

last_declared : {ts : List PureToken} {d : Declarator} → Declared' ts d → (x : Identifier) →
    Declares (ts ++ token (kind.Mark punct.Semicolon) x ∷ []) (d ∷ [])
last_declared h x = declares_of (grammar.last h.is (token (kind.Mark punct.Semicolon) x) refl)

-- Simple statements

end_simple_reads : {p : Spot} {text own : List PureToken} {t : PureToken} {s : SimpleStatement} → SpotText p text → Simply t own s →
    (m : Punct) (x : Identifier) → Reaches (end_simple m s p) ((text ++ t ∷ own) ++ token (kind.Mark m) x ∷ [])
end_simple_reads (alone a) h punct.Semicolon x = reads_at
    (done_with a (a_statement (grammar.simple h.is (token (kind.Mark punct.Semicolon) x) refl)) refl) (simp append_assoc)
end_simple_reads (alone a) h _ x = tt
end_simple_reads (first a k l) h punct.Semicolon x = reads_at
    (for_test a k l (initial (grammar.starts h.is (token (kind.Mark punct.Semicolon) x) refl))) (simp append_assoc)
end_simple_reads (first a k l) h _ x = tt
end_simple_reads (step' a k l f e m) h punct.CloseParenthesis x = reads_at
    (start (for_bodies a k l f e m (optional_step (grammar.present h.is)) (the_mark punct.CloseParenthesis x))) (simp append_assoc)
end_simple_reads (step' a k l f e m) h punct.Semicolon x = tt
end_simple_reads (step' a k l f e m) h _ x = tt

begin_simple_reads : {p : Spot} {text : List PureToken} → SpotText p text → (k : TokenKind) (x : Identifier) → Reaches (begin_simple k x p)
    (text ++ token k x ∷ [])
begin_simple_reads p kind.Name x = target p
begin_simple_reads p (kind.Mark punct.Increment) x = stepping true p (the_mark punct.Increment x)
begin_simple_reads p (kind.Mark punct.Decrement) x = stepping false p (the_mark punct.Decrement x)
begin_simple_reads p (kind.Mark m) x = tt
begin_simple_reads p (kind.Literal n) x = tt
begin_simple_reads p (kind.Word w) x = tt

-- The end of an expression

finished_reads : {p : Purpose} {text own : List PureToken} {e : ExpressionTree} → Aimed p text → IsExpression 1 own e →
    (m : Punct) (c : ℕ) (x : Identifier) → Reaches (finished m c e p) ((text ++ own) ++ token (kind.Mark m) x ∷ [])
finished_reads (testing_if a k l) h punct.CloseParenthesis c x = reads_at
    (start (thens a k (a_test l h (the_mark punct.CloseParenthesis x))))
    (simp append_assoc)
finished_reads (testing_if a k l) h _ c x = tt
finished_reads (testing_while a k l) h punct.CloseParenthesis c x = reads_at
    (start (bodies a k (a_test l h (the_mark punct.CloseParenthesis x))))
    (simp append_assoc)
finished_reads (testing_while a k l) h _ c x = tt
finished_reads {own = own} {e} (testing_do {own = before} {t = t} {u = u} {v = v} {s = s} a k st l o) h punct.CloseParenthesis c x =
    let y = token (kind.Mark punct.CloseParenthesis) x in
    let whole : (w : PureToken) → IsMark punct.Semicolon w → Statement (t ∷ (before ++ u ∷ ((v ∷ (own ++ y ∷ [])) ++ w ∷ [])))
    (tree.do_while s e) =
    λ w i. a_statement (grammar.do_while k.is (within_one st).1 u l.is (grammar.test o.is (full h) y refl) w i) in
    reads_at (ending (t ∷ (before ++ u ∷ (v ∷ (own ++ y ∷ [])))) a (λ w i. statement_at (whole w i) (simp append_assoc)) refl)
    (simp append_assoc)
finished_reads (testing_do a k s l o) h _ c x = tt
finished_reads {e = e} (setting {n = n} {p} sp k) h m c x = reaches_at (end_simple m (tree.set n e) p)
    (end_simple_reads sp (a_set n k h) m x)
    (simp append_assoc)
finished_reads {e = e} (changing {t = t} {n = n} {p} o q i sp k) h m c x =
    reaches_at (end_simple m (tree.change o t.at n e) p) (end_simple_reads sp (a_change n o q i k h) m x) (simp append_assoc)
finished_reads (arguing {n = n} sp k es) h punct.CloseParenthesis c x =
    reads_at (simple sp (simply (grammar.call {n = n} (a_call k (last_argument es h) (the_mark punct.CloseParenthesis x)))))
    (simp append_assoc)
finished_reads (arguing {n = n} sp k es) h punct.Comma c x = reads_at
    (want (aimed (arguing {n = n} sp k (led (last_argument es h) (the_mark punct.Comma x))))) (simp append_assoc)
finished_reads (arguing sp k es) h _ c x = tt
finished_reads (initialising {n = n} st ty names k) h punct.Comma c x = reads_at
    (next_name st ty (listed names (declared_to n k h) (the_mark punct.Comma x))) (simp append_assoc)
finished_reads (initialising {n = n} st ty names k) h punct.Semicolon c x = reads_at
    (declared_reads st ty (all_listed names (last_declared (declared_to n k h) x))) (simp append_assoc)
finished_reads (initialising st ty names k) h _ c x = tt
finished_reads (for_testing a k l f) h punct.Semicolon c x = reads_at (for_step a k l f (optional (grammar.present (full h)))
    (the_mark punct.Semicolon x)) (simp append_assoc)
finished_reads (for_testing a k l f) h _ c x = tt
finished_reads (returning a k) h punct.Semicolon c x = reads_at
    (done_with a (a_return k (optional (grammar.present (full h))) (the_mark punct.Semicolon x)) refl) (simp append_assoc)
finished_reads (returning a k) h _ c x = tt

ends_reads : {ps : List Part} {p : Purpose} {text own : List PureToken} {e : ExpressionTree} → Spelled ps p text → IsExpression 1 own e →
    (m : Punct) (c : ℕ) (x : Identifier) → Reaches (ends m c (e, ps) p) ((text ++ own) ++ token (kind.Mark m) x ∷ [])
ends_reads (aimed a) h m c x = finished_reads a h m c x
ends_reads (after o g s l k) h m c x = tt
ends_reads (under u s k) h m c x = tt
ends_reads (inside s k) h punct.CloseParenthesis c x = reads_at (have s (a_parenthesis k h (the_mark punct.CloseParenthesis x)))
    (simp append_assoc)
ends_reads (inside s k) h _ c x = tt
ends_reads (passing {n = n} s k es) h punct.CloseParenthesis c x =
    reads_at (have s (grammar.call {n = n} (a_call k (last_argument es h) (the_mark punct.CloseParenthesis x)))) (simp append_assoc)
ends_reads (passing {n = n} s k es) h punct.Comma c x = reads_at
    (want (passing {n = n} s k (led (last_argument es h) (the_mark punct.Comma x))))
    (simp append_assoc)
ends_reads (passing s k es) h _ c x = tt

push_reads : (o : Op) {p : Purpose} {all : List PureToken} {y : ExpressionTree × List Part} → IsClosed (level o) p all y →
    (c : ℕ) (x : Identifier) → Reads (pushed o x.at c y p) (all ++ token (kind.Mark (mark_of o)) x ∷ [])
push_reads o h c x =
    reads_at (want (after o h.guards h.begun h.expr (the_mark (mark_of o) x)))
    (sym (append_assoc h.text h.own (token (kind.Mark (mark_of o)) x ∷ [])) ∙ ap (λ t. t ++ token (kind.Mark (mark_of o)) x ∷ []) h.whole)

had_mark_reads : {ps : List Part} {p : Purpose} {text own : List PureToken} {e : ExpressionTree} → Spelled ps p text →
    IsExpression 7 own e →
    (m : Punct) (c : ℕ) (x : Identifier) →
    Reaches (had_mark (binary_of m) m x.at c e ps p) ((text ++ own) ++ token (kind.Mark m) x ∷ [])
had_mark_reads {ps} {p} {text} {own} {e} s h m c x = go m
  where
    operator : (o : Op) → Reads (pushed o x.at c (closed (level o) e ps) p) ((text ++ own) ++ token (kind.Mark (mark_of o)) x ∷ [])
    operator o = push_reads o (closes (level o) 7 (level-le o) (omega (arith, level-le o)) (lit≤ tt) (guards-seven s) s h) c x

    ended : (m : Punct) → Reaches (ends m c (closed 0 e ps) p) ((text ++ own) ++ token (kind.Mark m) x ∷ [])
    ended m =
        let k = closes 0 7 (lit≤ tt) (lit≤ tt) (lit≤ tt) (guards-seven s) s h in
        reaches_at (ends m c (closed 0 e ps) p) (ends_reads k.begun (level_one k.expr) m c x)
        (ap (λ t. t ++ token (kind.Mark m) x ∷ []) k.whole)

    go : (m : Punct) → Reaches (had_mark (binary_of m) m x.at c e ps p) ((text ++ own) ++ token (kind.Mark m) x ∷ [])
    go punct.Or = operator op.Or
    go punct.And = operator op.And
    go punct.Equal = operator op.Equal
    go punct.Unequal = operator op.Unequal
    go punct.Less = operator op.Less
    go punct.LessEqual = operator op.LessEqual
    go punct.Greater = operator op.Greater
    go punct.GreaterEqual = operator op.GreaterEqual
    go punct.Plus = operator op.Add
    go punct.Minus = operator op.Subtract
    go punct.Star = operator op.Multiply
    go punct.Slash = operator op.Divide
    go punct.Percent = operator op.Remainder
    go m = ended m

had_reads : {ps : List Part} {p : Purpose} {text own : List PureToken} {e : ExpressionTree} → Spelled ps p text → IsExpression 7 own e →
    (k : TokenKind) (c : ℕ) (x : Identifier) → Reaches (had k x.at c e ps p) ((text ++ own) ++ token k x ∷ [])
had_reads s h (kind.Mark m) c x = had_mark_reads s h m (tick c (kind.Mark m)) x
had_reads s h kind.Name c x = tt
had_reads s h (kind.Literal n) c x = tt
had_reads s h (kind.Word w) c x = tt

wanted_mark_reads : {ps : List Part} {p : Purpose} {text : List PureToken} → Spelled ps p text → (m : Punct) (c : ℕ) (x : Identifier) →
    Reaches (wanted_mark m c ps p) (text ++ token (kind.Mark m) x ∷ [])
wanted_mark_reads s punct.OpenParenthesis c x = want (inside s (the_mark punct.OpenParenthesis x))
wanted_mark_reads s punct.Not c x = want (under grammar.not s (the_mark punct.Not x))
wanted_mark_reads s punct.Minus c x = want (under grammar.negate s (the_mark punct.Minus x))
wanted_mark_reads s punct.Plus c x = want (under grammar.plus s (the_mark punct.Plus x))
wanted_mark_reads s _ c x = tt

wanted_reads : {ps : List Part} {p : Purpose} {text : List PureToken} → Spelled ps p text → (k : TokenKind) (c : ℕ) (x : Identifier) →
    Reaches (wanted k x c ps p) (text ++ token k x ∷ [])
wanted_reads s kind.Name c x = operand_named s
wanted_reads s (kind.Literal n) c x = have s grammar.literal
wanted_reads s (kind.Mark m) c x = wanted_mark_reads s m (tick c (kind.Mark m)) x
wanted_reads s (kind.Word w) c x = tt

-- Items

prototype_item : {outer void : Bool} {n : Identifier} {text ts : List PureToken} {t u v : PureToken} → TitleText outer void n text →
    Marked punct.OpenParenthesis t → IsTypeList ts → Marked punct.CloseParenthesis u → Marked punct.Semicolon v →
    Item (text ++ t ∷ (ts ++ u ∷ v ∷ [])) (tree.prototype n)
prototype_item {n = n} {t = t} {u} {v} (title absent r) k list l m =
    let i : Item _ (tree.prototype n) = record { deep = _; is = grammar.prototype grammar.absent r n t k.is list u v l.is m.is } in
    item_at i (simp append_assoc)
prototype_item {n = n} {t = t} {u} {v} (title (present {t = z} e) r) k list l m =
    let i : Item _ (tree.prototype n) = record {
      deep = _;
      is = grammar.prototype (grammar.present {t = z} e.is) r n t k.is list u v l.is
          m.is;
    }
    in item_at i (simp append_assoc)

procedure_item : {void : Bool} {n : Identifier} {ns : List Identifier} {text ts own : List PureToken} {t u v w : PureToken}
    {ss : StatementTrees} → TitleText false void n text → Marked punct.OpenParenthesis t → IsParameterList ts ns →
    Marked punct.CloseParenthesis u →
    Marked punct.OpenBrace v → Items own ss → Marked punct.CloseBrace w → Item (text ++ t ∷ (ts ++ u ∷ v ∷ (own ++ w ∷ [])))
    (procedure_of (head false void n ns true) ss)
procedure_item {void} {n} {ns} {t = t} {u} {v} {w} {ss} (title absent r) k ps l m items o =
    let i : Item _ (procedure_of (head false void n ns true) ss) = record {
      deep = _;
      is = grammar.procedure r n t k.is ps u l.is
          (grammar.block {t = v} m.is (renested_items items.is 1).1 w o.is);
    } in item_at i (simp append_assoc)

-- Statements

declares_reads : {fs : Frames} {text ts : List PureToken} {w : Words} → Around fs text → WordsText w ts →
    Reaches (declares w fs) (text ++ ts)
declares_reads (outermost t o ps c b items) h = typing_words (declaration (in_own (outermost t o ps c b items))) h
declares_reads (braces a k items) h = typing_words (declaration (in_inner (braces a k items))) h
declares_reads (thens a k e) h = tt
declares_reads (others a k e s q l) h = tt
declares_reads (bodies a k e) h = tt
declares_reads (doings a k) h = tt
declares_reads (for_bodies a k l f e m s i) h = tt

block_closed_reads : {fs : Frames} {text : List PureToken} → Around fs text → (x : Identifier) → Reaches (block_closed fs)
    (text ++ token (kind.Mark punct.CloseBrace) x ∷ [])
block_closed_reads (outermost t o ps c b items) x = item_at (procedure_item t o ps c b items (the_mark punct.CloseBrace x))
    (simp append_assoc)
block_closed_reads (braces {t = t} a k items) x = reads_at
    (done_with a (a_statement (grammar.block {t = t} k.is items.is (token (kind.Mark punct.CloseBrace) x) refl)) refl) (simp append_assoc)
block_closed_reads (thens a k e) x = tt
block_closed_reads (others a k e s q l) x = tt
block_closed_reads (bodies a k e) x = tt
block_closed_reads (doings a k) x = tt
block_closed_reads (for_bodies a k l f e m s i) x = tt

no_items : Items [] no_statements
no_items = record { deep = []; is = grammar.none }

started_reads : {fs : Frames} {text : List PureToken} → Around fs text → (k : TokenKind) (x : Identifier) →
    Reaches (started k x fs) (text ++ token k x ∷ [])
started_reads a (kind.Mark punct.OpenBrace) x = start (braces a (the_mark punct.OpenBrace x) no_items)
started_reads a (kind.Mark punct.CloseBrace) x = block_closed_reads a x
started_reads a (kind.Mark punct.Semicolon) x = done_with a (a_statement (grammar.empty refl)) refl
started_reads a (kind.Word keyword.If) x = test_if a (the_word keyword.If x)
started_reads a (kind.Word keyword.While) x = test_while a (the_word keyword.While x)
started_reads a (kind.Word keyword.Do) x = start (doings a (the_word keyword.Do x))
started_reads a (kind.Word keyword.For) x = for_open a (the_word keyword.For x)
started_reads a (kind.Word keyword.Break) x = ending (token (kind.Word keyword.Break) x ∷ []) a (λ u h. a_statement (grammar.break refl h))
    refl
started_reads a (kind.Word keyword.Continue) x = ending (token (kind.Word keyword.Continue) x ∷ []) a
    (λ u h. a_statement (grammar.continue refl h)) refl
started_reads a (kind.Word keyword.Return) x = returned a (the_word keyword.Return x)
started_reads a (kind.Word keyword.Int) x = declares_reads a (all_read (grammar.int refl))
started_reads a (kind.Word keyword.Long) x = declares_reads a (long_read (the_word keyword.Long x))
started_reads a (kind.Word w) x = tt
started_reads a (kind.Mark m) x = begin_simple_reads (alone a) (kind.Mark m) x
started_reads a (kind.Literal n) x = tt
started_reads a kind.Name x = target (alone a)

done_body_reads : {fs : Frames} {text own : List PureToken} {t : PureToken} {s : StatementTree} → Around fs text → Worded keyword.Do t →
    Statement own s → (k : TokenKind) (x : Identifier) → Reaches (done_body k s fs) ((text ++ t ∷ []) ++ (own ++ token k x ∷ []))
done_body_reads a i s (kind.Word keyword.While) x = reads_at (test_do a i s (the_word keyword.While x)) (simp append_assoc)
done_body_reads a i s (kind.Word w) x = tt
done_body_reads a i s (kind.Mark m) x = tt
done_body_reads a i s (kind.Literal n) x = tt
done_body_reads a i s kind.Name x = tt

resumed_reads : {fs : Frames} {text own : List PureToken} {s : StatementTree} → Around fs text → Statement own s →
    (k : TokenKind) (x : Identifier) → Reaches (resumed k x (s, fs)) ((text ++ own) ++ token k x ∷ [])
resumed_reads {s = s} (outermost {void} {n} {ns} {ss = ss} t o ps c b items) h k x =
    reaches_at (started k x (Outermost (head false void n ns true) (also_statement ss s)))
    (started_reads (outermost t o ps c b (more_items items h)) k x) (simp append_assoc)
resumed_reads {s = s} (braces {ss = ss} {fs = fs} a i items) h k x = reaches_at (started k x (Within (also_statement ss s) fs))
    (started_reads (braces a i (more_items items h)) k x) (simp append_assoc)
resumed_reads {text = text} {own} {s} (doings {fs = fs} a i) h k x = reaches_at (done_body k s fs) (done_body_reads a i h k x)
    (simp append_assoc)
resumed_reads (thens a i e) h k x = tt
resumed_reads (others a i e s q l) h k x = tt
resumed_reads (bodies a i e) h k x = tt
resumed_reads (for_bodies a i l f e m s j) h k x = tt

went_on_reads : {fs : Frames} {text own : List PureToken} {s : StatementTree} → Around fs text → Statement own s → takes_else s ≡ false →
    (k : TokenKind) (x : Identifier) → Reaches (went_on k x s fs) ((text ++ own) ++ token k x ∷ [])
went_on_reads {fs} {text} {own} {s} a h q k x = go k
  where
    resume : (k : TokenKind) → Reaches (resumed k x (settled s fs)) ((text ++ own) ++ token k x ∷ [])
    resume k =
        let r = settles a h in
        reaches_at (resumed k x (settled s fs)) (resumed_reads r.around r.stmt k x) (ap (λ t. t ++ token k x ∷ []) r.whole)

    go : (k : TokenKind) → Reaches (went_on k x s fs) ((text ++ own) ++ token k x ∷ [])
    go (kind.Word keyword.Else) = elses a h q x
    go (kind.Word w) = resume (kind.Word w)
    go (kind.Mark m) = resume (kind.Mark m)
    go (kind.Literal n) = resume (kind.Literal n)
    go kind.Name = resume kind.Name

-- Types and parameters

passed_types : {w : Bool} {ns : List Identifier} {ts us : List PureToken} → Passed w ns ts → IsTypes us → IsTypes (ts ++ us)
passed_types nothing h = h
passed_types {us = us} (named {ts = ts} {us = vs} {t = t} ps ty n k) h = let r = passed_types ps (grammar.more_named ty n t k.is h) in
    subst (λ l. IsTypes l) (simp append_assoc) r
passed_types {us = us} (bare {ts = ts} {us = vs} {t = t} ps ty k) h = let r = passed_types ps (grammar.more ty t k.is h) in
    subst (λ l. IsTypes l) (simp append_assoc) r

parameters_at : {ns ms : List Identifier} {x y : List PureToken} → IsParameters x ns → x ≡ y → ns ≡ ms → IsParameters y ms
parameters_at {ns} {ms} {x} {y} h e f = subst (λ l. IsParameters y l) f (subst (λ l. IsParameters l ns) e h)

passed_parameters : {w : Bool} {ns ms : List Identifier} {ts us : List PureToken} → Passed w ns ts → w ≡ true → IsParameters us ms →
    IsParameters (ts ++ us) (ns ++ ms)
passed_parameters nothing e h = h
passed_parameters {ms = ms} {us = us} (named {ns = ns} {ts = ts} {us = vs} {t = t} ps ty n k) e h =
    parameters_at (passed_parameters ps e (grammar.more ty n t k.is h)) (simp append_assoc) (sym (append_assoc ns (n ∷ []) ms))
passed_parameters (bare ps ty k) e h = cc

first_word_reads : {d : Typed} {text : List PureToken} → TypedText d text → (k : TokenKind) (x : Identifier) →
    Reaches (typing (first_word k) d) (text ++ token k x ∷ [])
first_word_reads d (kind.Word keyword.Int) x = typing_words d (all_read (grammar.int refl))
first_word_reads d (kind.Word keyword.Long) x = typing_words d (long_read (the_word keyword.Long x))
first_word_reads d (kind.Word w) x = tt
first_word_reads d (kind.Mark m) x = tt
first_word_reads d (kind.Literal n) x = tt
first_word_reads d kind.Name x = tt

resulted_reads : {outer : Bool} {text : List PureToken} → ExternText outer text → (k : TokenKind) (x : Identifier) →
    Reaches (resulted outer k) (text ++ token k x ∷ [])
resulted_reads e (kind.Word keyword.Void) x = voided e (the_word keyword.Void x)
resulted_reads e (kind.Word w) x = first_word_reads (result e) (kind.Word w) x
resulted_reads e (kind.Mark m) x = tt
resulted_reads e (kind.Literal n) x = tt
resulted_reads e kind.Name x = tt

begun_reads : (k : TokenKind) (x : Identifier) → Reaches (begun k) (token k x ∷ [])
begun_reads (kind.Word keyword.Extern) x = externed (the_word keyword.Extern x)
begun_reads (kind.Word w) x = resulted_reads absent (kind.Word w) x
begun_reads (kind.Mark m) x = tt
begun_reads (kind.Literal n) x = tt
begun_reads kind.Name x = tt

whole_type : {w : Words} {ts : List PureToken} → WordsText w ts → IsType ts
whole_type (all_read h) = h
whole_type (long_read h) = grammar.long h.is
whole_type (long_long_read h k) = grammar.long_long h.is k.is

parameter_typed_reads : {outer void w : Bool} {n : Identifier} {ns : List Identifier} {text ts us : List PureToken} {t : PureToken} →
    TitleText outer void n text → Marked punct.OpenParenthesis t → Passed w ns ts → IsType us → (k : TokenKind) (x : Identifier) →
    Reaches (parameter_typed (head outer void n ns w) k x) (((text ++ t ∷ ts) ++ us) ++ token k x ∷ [])
parameter_typed_reads e o ps ty kind.Name x = reads_at (parameter_named e o ps ty x) (simp append_assoc)
parameter_typed_reads e o ps ty (kind.Mark punct.Comma) x = reads_at (next_parameter e o (bare ps ty (the_mark punct.Comma x)))
    (simp append_assoc)
parameter_typed_reads e o ps ty (kind.Mark punct.CloseParenthesis) x =
    reads_at (closed_head e o (grammar.types (passed_types ps (grammar.one ty))) (λ (i : false ≡ true). absurd (cc))
    (the_mark punct.CloseParenthesis x)) (simp append_assoc)
parameter_typed_reads e o ps ty (kind.Mark m) x = tt
parameter_typed_reads e o ps ty (kind.Word w) x = tt
parameter_typed_reads e o ps ty (kind.Literal n) x = tt

typed_reads : {d : Typed} {text ts : List PureToken} → TypedText d text → IsType ts → (k : TokenKind) (x : Identifier) →
    Reaches (typed d k x) ((text ++ ts) ++ token k x ∷ [])
typed_reads (result e) ty kind.Name x = reads_at (titled (title e (grammar.typed ty))) (simp append_assoc)
typed_reads (result e) ty (kind.Mark m) x = tt
typed_reads (result e) ty (kind.Word w) x = tt
typed_reads (result e) ty (kind.Literal n) x = tt
typed_reads (parameter e o ps) ty k x = parameter_typed_reads e o ps ty k x
typed_reads (declaration s) ty kind.Name x = reads_at (declared_name s ty none_listed) (simp append_assoc)
typed_reads (declaration s) ty (kind.Mark m) x = tt
typed_reads (declaration s) ty (kind.Word w) x = tt
typed_reads (declaration s) ty (kind.Literal n) x = tt

typing_reads : {w : Words} {d : Typed} {text ts : List PureToken} → TypedText d text → WordsText w ts → (k : TokenKind) (x : Identifier) →
    Reaches (typed_on (next_word w k) d k x) ((text ++ ts) ++ token k x ∷ [])
typing_reads d (all_read h) k x = typed_reads d h k x
typing_reads d (long_read h) (kind.Word keyword.Int) x = reads_at (typing_words d (all_read (two_words h (the_word keyword.Int x))))
    (simp append_assoc)
typing_reads d (long_read h) (kind.Word keyword.Long) x = reads_at (typing_words d (long_long_read h (the_word keyword.Long x)))
    (simp append_assoc)
typing_reads d (long_read h) (kind.Word w) x = typed_reads d (whole_type (long_read h)) (kind.Word w) x
typing_reads d (long_read h) (kind.Mark m) x = typed_reads d (whole_type (long_read h)) (kind.Mark m) x
typing_reads d (long_read h) (kind.Literal n) x = typed_reads d (whole_type (long_read h)) (kind.Literal n) x
typing_reads d (long_read h) kind.Name x = typed_reads d (whole_type (long_read h)) kind.Name x
typing_reads d (long_long_read h i) (kind.Word keyword.Int) x = reads_at
    (typing_words d (all_read (three_words h i (the_word keyword.Int x))))
    (simp append_assoc)
typing_reads d (long_long_read h i) (kind.Word w) x = typed_reads d (whole_type (long_long_read h i)) (kind.Word w) x
typing_reads d (long_long_read h i) (kind.Mark m) x = typed_reads d (whole_type (long_long_read h i)) (kind.Mark m) x
typing_reads d (long_long_read h i) (kind.Literal n) x = typed_reads d (whole_type (long_long_read h i)) (kind.Literal n) x
typing_reads d (long_long_read h i) kind.Name x = typed_reads d (whole_type (long_long_read h i)) kind.Name x

bodied_reads : {outer void w : Bool} {n : Identifier} {ns : List Identifier} {text ts : List PureToken} {t u : PureToken} →
    TitleText outer void n text → Marked punct.OpenParenthesis t → (w ≡ true → IsParameterList ts ns) → Marked punct.CloseParenthesis u →
    (x : Identifier) →
    Reaches (move (Closed (head outer void n ns w)) (kind.Mark punct.OpenBrace) x)
    ((text ++ t ∷ (ts ++ u ∷ [])) ++ token (kind.Mark punct.OpenBrace) x ∷ [])
bodied_reads {outer = false} {w = true} e o params c x = reads_at
    (start (outermost e o (params refl) c (the_mark punct.OpenBrace x) no_items))
    (simp append_assoc)
bodied_reads {outer = false} {w = false} e o params c x = tt
bodied_reads {outer = true} {w = true} e o params c x = tt
bodied_reads {outer = true} {w = false} e o params c x = tt

nothing_first : (x : Identifier) → Initial (token (kind.Mark punct.Semicolon) x ∷ []) no_init
nothing_first x = initial (grammar.nothing {t = token (kind.Mark punct.Semicolon) x} refl)

name_up : {t : PureToken} (n : Identifier) → Marked punct.Increment t → Simply (a_name n) (t ∷ []) (tree.add_one n)
name_up n k = simply (grammar.add_one k.is)

name_down : {t : PureToken} (n : Identifier) → Marked punct.Decrement t → Simply (a_name n) (t ∷ []) (tree.subtract_one n)
name_down n k = simply (grammar.subtract_one k.is)

up_name : {t : PureToken} (n : Identifier) → Marked punct.Increment t → Simply t (a_name n ∷ []) (tree.add_one n)
up_name n k = simply (grammar.one_added k.is)

down_name : {t : PureToken} (n : Identifier) → Marked punct.Decrement t → Simply t (a_name n ∷ []) (tree.subtract_one n)
down_name n k = simply (grammar.one_subtracted k.is)

-- a step reads its token
pub step_reads : {s : State} {text : List PureToken} → Reads s text → (k : TokenKind) (x : Identifier) →
    Reaches (move s k x) (text ++ token k x ∷ [])
step_reads begin k x = begun_reads k x
step_reads (externed h) k x = resulted_reads (present h) k x
step_reads (voided {t = t} e h) kind.Name x = reads_at (titled (title e (grammar.void {t = t} h.is))) (simp append_assoc)
step_reads (voided e h) (kind.Mark m) x = tt
step_reads (voided e h) (kind.Word w) x = tt
step_reads (voided e h) (kind.Literal n) x = tt
step_reads (typing_words d h) k x = typing_reads d h k x
step_reads (titled e) (kind.Mark punct.OpenParenthesis) x = opened e (the_mark punct.OpenParenthesis x)
step_reads (titled e) (kind.Mark m) x = titled_reads e (kind.Mark m) x
step_reads (titled e) (kind.Literal n) x = titled_reads e (kind.Literal n) x
step_reads (titled e) (kind.Word w) x = titled_reads e (kind.Word w) x
step_reads (titled e) kind.Name x = titled_reads e kind.Name x
step_reads (next_global ty b) kind.Name x = reads_at (named_global ty b) (simp append_assoc)
step_reads (next_global ty b) _ x = tt
step_reads (named_global {n = n} ty b) k x = named_reads n ty b k x
step_reads (assigned_global {n = n} ty b a) k x = assigned_reads n ty b a k x
step_reads (signed_global {n = n} minus ty b a m) k x = signed_reads n minus ty b a m k x
step_reads (read_global ty b g) k x = read_reads ty b g k x
step_reads (opened e o) (kind.Mark punct.CloseParenthesis) x = reads_at (closed_head e o grammar.nothing (λ i. grammar.nothing)
    (the_mark punct.CloseParenthesis x)) (simp append_assoc)
step_reads (opened e o) (kind.Word keyword.Void) x = reads_at (no_parameters e o (the_word keyword.Void x)) (simp append_assoc)
step_reads (opened e o) (kind.Word w) x = first_word_reads (parameter e o nothing) (kind.Word w) x
step_reads (opened e o) (kind.Mark m) x = tt
step_reads (opened e o) (kind.Literal n) x = tt
step_reads (opened e o) kind.Name x = tt
step_reads (no_parameters {u = u} e o v) (kind.Mark punct.CloseParenthesis) x =
    let list : IsTypeList (u ∷ []) = grammar.void v.is in
    reads_at (closed_head e o list (λ i. grammar.void v.is) (the_mark punct.CloseParenthesis x)) (simp append_assoc)
step_reads (no_parameters e o v) _ x = tt
step_reads (next_parameter e o ps) k x = first_word_reads (parameter e o ps) k x
step_reads (parameter_named e o ps ty m) (kind.Mark punct.Comma) x = reads_at (next_parameter e o (named ps ty m (the_mark punct.Comma x)))
    (simp append_assoc)
step_reads (parameter_named e o ps ty m) (kind.Mark punct.CloseParenthesis) x =
    reads_at (closed_head e o (grammar.types (passed_types ps (grammar.one_named ty m)))
    (λ i. grammar.parameters (passed_parameters ps i (grammar.one ty m))) (the_mark punct.CloseParenthesis x)) (simp append_assoc)
step_reads (parameter_named e o ps ty m) _ x = tt
step_reads (closed_head e o list params c) (kind.Mark punct.Semicolon) x = item_at (prototype_item e o list c (the_mark punct.Semicolon x))
    (simp append_assoc)
step_reads (closed_head e o list params c) (kind.Mark punct.OpenBrace) x = bodied_reads e o params c x
step_reads (closed_head e o list params c) _ x = tt
step_reads (start a) k x = started_reads a k x
step_reads (done_with a h q) k x = went_on_reads a h q k x
step_reads (test_if a h) (kind.Mark punct.OpenParenthesis) x = reads_at (want (aimed (testing_if a h (the_mark punct.OpenParenthesis x))))
    (simp append_assoc)
step_reads (test_if a h) _ x = tt
step_reads (test_while a h) (kind.Mark punct.OpenParenthesis) x = reads_at
    (want (aimed (testing_while a h (the_mark punct.OpenParenthesis x))))
    (simp append_assoc)
step_reads (test_while a h) _ x = tt
step_reads (test_do a h s w) (kind.Mark punct.OpenParenthesis) x = reads_at
    (want (aimed (testing_do a h s w (the_mark punct.OpenParenthesis x))))
    (simp append_assoc)
step_reads (test_do a h s w) _ x = tt
step_reads (ending own a f q) (kind.Mark punct.Semicolon) x = reads_at (done_with a (f (token (kind.Mark punct.Semicolon) x) refl) q)
    (simp append_assoc)
step_reads (ending own a f q) (kind.Mark m) x = tt
step_reads (ending own a f q) _ x = tt
step_reads (returned a h) (kind.Mark punct.Semicolon) x = reads_at
    (done_with a (a_return h (optional grammar.absent) (the_mark punct.Semicolon x)) refl) (simp append_assoc)
step_reads (returned a h) (kind.Mark m) x = wanted_reads (aimed (returning a h)) (kind.Mark m) 0 x
step_reads (returned a h) (kind.Literal n) x = wanted_reads (aimed (returning a h)) (kind.Literal n) 0 x
step_reads (returned a h) (kind.Word w) x = tt
step_reads (returned a h) kind.Name x = wanted_reads (aimed (returning a h)) kind.Name 0 x
step_reads (for_open a h) (kind.Mark punct.OpenParenthesis) x = reads_at (for_first a h (the_mark punct.OpenParenthesis x))
    (simp append_assoc)
step_reads (for_open a h) _ x = tt
step_reads (for_first a h o) (kind.Mark punct.Semicolon) x = reads_at (for_test a h o (nothing_first x)) (simp append_assoc)
step_reads (for_first a h o) (kind.Word keyword.Int) x = typing_words (declaration (in_for a h o)) (all_read (grammar.int refl))
step_reads (for_first a h o) (kind.Word keyword.Long) x = typing_words (declaration (in_for a h o)) (long_read (the_word keyword.Long x))
step_reads (for_first a h o) (kind.Word w) x = tt
step_reads (for_first a h o) (kind.Mark m) x = begin_simple_reads (first a h o) (kind.Mark m) x
step_reads (for_first a h o) (kind.Literal n) x = tt
step_reads (for_first a h o) kind.Name x = begin_simple_reads (first a h o) kind.Name x
step_reads (for_test a h o f) (kind.Mark punct.Semicolon) x = reads_at
    (for_step a h o f (optional grammar.absent) (the_mark punct.Semicolon x))
    (simp append_assoc)
step_reads (for_test a h o f) (kind.Mark m) x = wanted_reads (aimed (for_testing a h o f)) (kind.Mark m) 0 x
step_reads (for_test a h o f) (kind.Literal n) x = wanted_reads (aimed (for_testing a h o f)) (kind.Literal n) 0 x
step_reads (for_test a h o f) (kind.Word w) x = tt
step_reads (for_test a h o f) kind.Name x = wanted_reads (aimed (for_testing a h o f)) kind.Name 0 x
step_reads (for_step a h o f e s) (kind.Mark punct.CloseParenthesis) x = reads_at
    (start (for_bodies a h o f e s (optional_step grammar.absent) (the_mark punct.CloseParenthesis x))) (simp append_assoc)
step_reads (for_step a h o f e s) (kind.Mark m) x = begin_simple_reads (step' a h o f e s) (kind.Mark m) x
step_reads (for_step a h o f e s) (kind.Word w) x = tt
step_reads (for_step a h o f e s) (kind.Literal n) x = tt
step_reads (for_step a h o f e s) kind.Name x = begin_simple_reads (step' a h o f e s) kind.Name x
step_reads (target {n = n} p) (kind.Mark punct.Assign) x = reads_at (want (aimed (setting {n = n} p (the_mark punct.Assign x))))
    (simp append_assoc)
step_reads (target {n = n} p) (kind.Mark punct.PlusAssign) x = reads_at
    (want (aimed (changing {n = n} op.Add punct.PlusAssign refl p (the_mark punct.PlusAssign x)))) (simp append_assoc)
step_reads (target {n = n} p) (kind.Mark punct.MinusAssign) x = reads_at
    (want (aimed (changing {n = n} op.Subtract punct.MinusAssign refl p (the_mark punct.MinusAssign x)))) (simp append_assoc)
step_reads (target {n = n} p) (kind.Mark punct.StarAssign) x = reads_at
    (want (aimed (changing {n = n} op.Multiply punct.StarAssign refl p (the_mark punct.StarAssign x)))) (simp append_assoc)
step_reads (target {n = n} p) (kind.Mark punct.SlashAssign) x = reads_at
    (want (aimed (changing {n = n} op.Divide punct.SlashAssign refl p (the_mark punct.SlashAssign x)))) (simp append_assoc)
step_reads (target {n = n} p) (kind.Mark punct.PercentAssign) x = reads_at
    (want (aimed (changing {n = n} op.Remainder punct.PercentAssign refl p (the_mark punct.PercentAssign x)))) (simp append_assoc)
step_reads (target {n = n} p) (kind.Mark punct.Increment) x = reads_at (simple p (name_up n (the_mark punct.Increment x)))
    (simp append_assoc)
step_reads (target {n = n} p) (kind.Mark punct.Decrement) x = reads_at (simple p (name_down n (the_mark punct.Decrement x)))
    (simp append_assoc)
step_reads (target {n = n} p) (kind.Mark punct.OpenParenthesis) x = reads_at (call_opened {n = n} p (the_mark punct.OpenParenthesis x))
    (simp append_assoc)
step_reads (target p) (kind.Mark m) x = tt
step_reads (target p) _ x = tt
step_reads (stepping true p h) kind.Name x = reads_at (simple p (up_name x h)) (simp append_assoc)
step_reads (stepping false p h) kind.Name x = reads_at (simple p (down_name x h)) (simp append_assoc)
step_reads (stepping up p h) _ x = tt
step_reads (call_opened {n = n} p h) (kind.Mark punct.CloseParenthesis) x = reads_at
    (simple p (simply (grammar.call {n = n} (a_bare_call h (the_mark punct.CloseParenthesis x))))) (simp append_assoc)
step_reads (call_opened {c} {n = n} p h) (kind.Mark m) x = wanted_reads (aimed (arguing {n = n} p h no_lead)) (kind.Mark m) c x
step_reads (call_opened {c} {n = n} p h) (kind.Literal l) x = wanted_reads (aimed (arguing {n = n} p h no_lead)) (kind.Literal l) c x
step_reads (call_opened p h) (kind.Word w) x = tt
step_reads (call_opened {c} {n = n} p h) kind.Name x = wanted_reads (aimed (arguing {n = n} p h no_lead)) kind.Name c x
step_reads (simple p h) (kind.Mark m) x = end_simple_reads p h m x
step_reads (simple p h) (kind.Literal n) x = tt
step_reads (simple p h) (kind.Word w) x = tt
step_reads (simple p h) kind.Name x = tt
step_reads (next_name s ty names) kind.Name x = reads_at (declared_name s ty names) (simp append_assoc)
step_reads (next_name s ty names) _ x = tt
step_reads (declared_name {n = n} s ty names) (kind.Mark punct.Assign) x = reads_at
    (want (aimed (initialising {n = n} s ty names (the_mark punct.Assign x)))) (simp append_assoc)
step_reads (declared_name {n = n} s ty names) (kind.Mark punct.Comma) x = reads_at
    (next_name s ty (listed names (bare_declared n) (the_mark punct.Comma x))) (simp append_assoc)
step_reads (declared_name {n = n} s ty names) (kind.Mark punct.Semicolon) x = reads_at
    (declared_reads s ty (all_listed names (last_declared (bare_declared n) x))) (simp append_assoc)
step_reads (declared_name s ty names) (kind.Mark m) x = tt
step_reads (declared_name s ty names) _ x = tt
step_reads (want {c} s) k x = wanted_reads s k c x
step_reads (operand_named {c} {n = n} s) (kind.Mark punct.OpenParenthesis) x = reads_at
    (called {n = n} s (the_mark punct.OpenParenthesis x))
    (simp append_assoc)
step_reads (operand_named {c} {n = n} s) (kind.Mark m) x = had_mark_reads s (grammar.name {n = n}) m (tick c (kind.Mark m)) x
step_reads (operand_named s) (kind.Literal l) x = tt
step_reads (operand_named s) (kind.Word w) x = tt
step_reads (operand_named s) kind.Name x = tt
step_reads (called {n = n} s h) (kind.Mark punct.CloseParenthesis) x = reads_at
    (have s (grammar.call {n = n} (a_bare_call h (the_mark punct.CloseParenthesis x)))) (simp append_assoc)
step_reads (called {c} {n = n} s h) (kind.Mark m) x = wanted_reads (passing {n = n} s h no_lead) (kind.Mark m) c x
step_reads (called {c} {n = n} s h) (kind.Literal l) x = wanted_reads (passing {n = n} s h no_lead) (kind.Literal l) c x
step_reads (called s h) (kind.Word w) x = tt
step_reads (called {c} {n = n} s h) kind.Name x = wanted_reads (passing {n = n} s h no_lead) kind.Name c x
step_reads (have {c} s h) k x = had_reads s h k c x
