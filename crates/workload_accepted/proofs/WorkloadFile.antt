-- The tokens of the workload program are those of its trees, and none is too deep.
use Rattle.std.specs.Prelude.{◌≡◌, ℕ, ◌+◌, ◌*◌, ◌%◌, ◌≤◌, ◌==◌, List, [], ◌∷◌, ◌++◌, length, map, Bool, true, false, None, option_map, refl, codes, pos}
use Rattle.std.specs.Fmt.{decimal}
use Rattle.std.proofs.Common.{sym, ◌∙◌, ap, subst, arith, lit≤, append_assoc, append-nil, length-append}
use Rattle.std.proofs.lemmas.Option.{slice_get_past}
use Rattle.c_tree.specs.declared.tree.Pos.{Pos}
use Rattle.c_tree.specs.declared.tree.Op.{Op}
use Rattle.c_tree.specs.declared.tree.Op.TheVariants as op
use Rattle.c_lexer.specs.declared.token.Keyword.{Keyword}
use Rattle.c_lexer.specs.declared.token.Keyword.TheVariants as keyword
use Rattle.c_lexer.specs.declared.token.Punct.{Punct}
use Rattle.c_lexer.specs.declared.token.Punct.TheVariants as punct
use Rattle.c_lexer.specs.Lexing.{keyword_text, mark_text}
use Rattle.c_lexer.specs.Pure.{PureToken}
use Rattle.c_parser.specs.Grammar.{a_name, a_literal, a_word, a_mark, counted, is_nested, nesting_in, level, mark_of, IsExpression, IsStatement, IsItems, IsParameterList, past_place, procedure_text, all_shallow, IsItem}
use Rattle.c_parser.specs.Grammar as grammar
use Rattle.c_parser.specs.Answer.{AllShallow, IsShallowFile}
use Rattle.c_tree.specs.SourceTree as tree
use Rattle.c_tree.specs.SourceTree.{Identifier, ExpressionTree, no_arguments, argument, StatementTree, StatementTrees, no_statements, statement, ProcedureTree, FileItem}
use Rattle.workload_accepted.proofs.WorkloadPieces.{Places, placed}
use Rattle.workload_accepted.proofs.WorkloadTokens.{name_of, guard_pieces, procedure_pieces, line_pieces, call_pieces, head_pieces, tail_pieces, placed_all, Spots, main_tokens, workload_tokens}
use Rattle.workload_accepted.proofs.WorkloadTree.{named, returning, guard_tree, line_tree, line_trees, call_tree, call_trees, reading_tree, main_tree, workload_items}

-- Tokens

abbrev word_at : Keyword → Pos → PureToken
word_at w p = a_word w p (keyword_text w)

abbrev mark_at : Punct → Pos → PureToken
mark_at m p = a_mark m p (mark_text m)

shallow-append : (xs ys : List Bool) → AllShallow xs → AllShallow ys → AllShallow (xs ++ ys)
shallow-append [] ys h k = k
shallow-append (x ∷ xs) ys h k = (h.0, shallow-append xs ys h.1 k)

-- Expressions

-- a name against a number
compares : (o : Op) (x : Identifier) (q r : Pos) (n : ℕ) (text : List ℕ) → 1 ≤ level o →
    IsExpression 1 (a_name x ∷ mark_at (mark_of o) q ∷ a_literal (pos n) r text ∷ []) (tree.binary o q (tree.name x) (tree.literal (pos n)))
compares o x q r n text h = grammar.binary {left = a_name x ∷ []} o (mark_at (mark_of o) q) refl h grammar.name grammar.literal

-- a name against a number that is negated
compares_negated : (o : Op) (x : Identifier) (q s r : Pos) (n : ℕ) (text : List ℕ) → 1 ≤ level o →
    IsExpression 1 (a_name x ∷ mark_at (mark_of o) q ∷ mark_at punct.Minus s ∷ a_literal (pos n) r text ∷ [])
    (tree.binary o q (tree.name x) (tree.negate (tree.literal (pos n))))
compares_negated o x q s r n text h = grammar.binary {left = a_name x ∷ []} o (mark_at (mark_of o) q) refl h grammar.name
    (grammar.under grammar.negate refl grammar.literal)

-- Statements of which no token is too deep

record ReadsStatement (n : ℕ) (ts : List PureToken) (s : StatementTree) : Type 0 where
  deep : List Bool
  is : IsStatement n ts deep s
  shallow : AllShallow deep

record ReadsItems (n : ℕ) (ts : List PureToken) (ss : StatementTrees) : Type 0 where
  deep : List Bool
  is : IsItems n ts deep ss
  shallow : AllShallow deep

no_items : (n : ℕ) → ReadsItems n [] no_statements
no_items n = record { deep = []; is = grammar.none; shallow = tt }

more_items : (n : ℕ) {ts us : List PureToken} {s : StatementTree} {ss : StatementTrees} → ReadsStatement (nesting_in n s) ts s →
    ReadsItems n us ss →
    ReadsItems n (ts ++ us) (statement s ss)
more_items n h k = record {
  deep = h.deep ++ k.deep;
  is = grammar.statement_item h.is k.is;
  shallow = shallow-append h.deep k.deep h.shallow k.shallow;
}

-- each statement of the program by its parts, at a nesting that isn't too deep
module _ (n : ℕ) (level_is : is_nested n ≡ false) where
  braced : (p q : Pos) {ts : List PureToken} {ss : StatementTrees} → ReadsItems n ts ss →
      ReadsStatement n (mark_at punct.OpenBrace p ∷ (ts ++ mark_at punct.CloseBrace q ∷ [])) (tree.block ss)
  braced p q h = record {
    deep = is_nested n ∷ (h.deep ++ false ∷ []);
    is = grammar.block refl h.is (mark_at punct.CloseBrace q) refl;
    shallow = (level_is, shallow-append h.deep (false ∷ []) h.shallow (refl, tt));
  }

  tested : (p q r : Pos) {ts us : List PureToken} {e : ExpressionTree} {a : StatementTree} → IsExpression 1 ts e →
      AllShallow (counted 0 ts) → ReadsStatement (n + 1) us a →
      ReadsStatement n (word_at keyword.If p ∷ ((mark_at punct.OpenParenthesis q ∷ (ts ++ mark_at punct.CloseParenthesis r ∷ [])) ++ us))
      (tree.if_then e a)
  tested p q r {ts} e shallow h = record {
    deep = is_nested n ∷ ((false ∷ (counted 0 ts ++ false ∷ [])) ++ h.deep);
    is = grammar.if_then refl (grammar.test refl (e, refl) (mark_at punct.CloseParenthesis r) refl) h.is;
    shallow = (
      level_is,
      (
        refl,
        shallow-append (counted 0 ts ++ false ∷ []) h.deep (shallow-append (counted 0 ts) (false ∷ []) shallow (refl, tt))
            h.shallow,
      ),
    );
  }

  returned : (p q r : Pos) (k : ℕ) (text : List ℕ) →
      ReadsStatement n (word_at keyword.Return p ∷ a_literal (pos k) q text ∷ mark_at punct.Semicolon r ∷ []) (returning p k)
  returned p q r k text = record {
    deep = is_nested n ∷ false ∷ false ∷ [];
    is = grammar.return {ts = a_literal (pos k) q text ∷ []} {deep = false ∷ []} refl (grammar.present (grammar.literal, refl))
        (mark_at punct.Semicolon r) refl;
    shallow = (level_is, (refl, (refl, tt)));
  }

  called : (x : Identifier) (p q r : Pos) {ts : List PureToken} {e : ExpressionTree} → IsExpression 1 ts e →
      AllShallow (counted 0 (mark_at punct.OpenParenthesis p ∷ (ts ++ mark_at punct.CloseParenthesis q ∷ []))) →
      ReadsStatement n (a_name x ∷ ((mark_at punct.OpenParenthesis p ∷ (ts ++ mark_at punct.CloseParenthesis q ∷ []))
      ++ mark_at punct.Semicolon r ∷ [])) (tree.simple (tree.call_statement x (argument e no_arguments)))
  called x p q r {ts} e shallow =
      let counts = counted 0 (mark_at punct.OpenParenthesis p ∷ (ts ++ mark_at punct.CloseParenthesis q ∷ [])) in
      record {
        deep = is_nested n ∷ (counts ++ false ∷ []);
        is = grammar.simple (grammar.call (grammar.passing refl (grammar.one e) (mark_at punct.CloseParenthesis q) refl))
            (mark_at punct.Semicolon r) refl;
        shallow = (level_is, shallow-append counts (false ∷ []) shallow (refl, tt));
      }

  -- a variable that is read
  abbrev reading_tokens : List ℕ → Places → List PureToken
  reading_tokens x at = word_at keyword.Int (at 0) ∷ a_name (named x (at 1)) ∷ mark_at punct.Assign (at 2)
      ∷ a_name (named (codes "input") (at 3)) ∷ mark_at punct.OpenParenthesis (at 4) ∷ mark_at punct.CloseParenthesis (at 5)
      ∷ mark_at punct.Semicolon (at 6) ∷ []

  reads : (x : List ℕ) (at : Places) {us : List PureToken} {ss : StatementTrees} → ReadsItems n us ss →
      ReadsItems n (reading_tokens x at ++ us) (statement (reading_tree x (at 1) (at 3)) ss)
  reads x at h =
      let value = a_name (named (codes "input") (at 3)) ∷ mark_at punct.OpenParenthesis (at 4) ∷ mark_at punct.CloseParenthesis (at 5) ∷ []
      in
      record {
        deep = false ∷ false ∷ false ∷ false ∷ false ∷ false ∷ false ∷ h.deep;
        is = grammar.declaration {ts = reading_tokens x at} {deep = false ∷ false ∷ false ∷ false ∷ false ∷ false ∷ false ∷ []}
            (grammar.declaration (word_at keyword.Int (at 0) ∷ []) (grammar.int refl)
            (grammar.last {ts = a_name (named x (at 1)) ∷ mark_at punct.Assign (at 2) ∷ value}
            {deep = false ∷ false ∷ false ∷ false ∷ false ∷ []}
            (grammar.initialised refl (grammar.call (grammar.bare refl refl), refl)) (mark_at punct.Semicolon (at 6)) refl)) h.is;
        shallow = (refl, (refl, (refl, (refl, (refl, (refl, (refl, h.shallow)))))));
      }

-- Procedures

record ReadsItem (ts : List PureToken) (i : FileItem) : Type 0 where
  deep : List Bool
  is : IsItem ts deep i
  shallow : AllShallow deep

all-shallow : (ts : List PureToken) → AllShallow (all_shallow ts)
all-shallow [] = tt
all-shallow (t ∷ ts) = (refl, all-shallow ts)

-- a procedure that gives a value, of at most 4,000 tokens
short_procedure : (r : Pos) (x : Identifier) (p q : Pos) {ts body : List PureToken} {ns : List Identifier} {ss : StatementTrees} →
    IsParameterList ts ns → ReadsStatement 1 body (tree.block ss) →
    past_place (procedure_text (word_at keyword.Int r ∷ []) x (mark_at punct.OpenParenthesis p) ts (mark_at punct.CloseParenthesis q) body)
    ≡ None →
    ReadsItem (procedure_text (word_at keyword.Int r ∷ []) x (mark_at punct.OpenParenthesis p) ts (mark_at punct.CloseParenthesis q) body)
    (tree.procedure (record { void = false; named = x; params = ns; body = ss; past = None }))
short_procedure r x p q {ts} {body} {ns} {ss} params h short =
    let text = procedure_text (word_at keyword.Int r ∷ []) x (mark_at punct.OpenParenthesis p) ts (mark_at punct.CloseParenthesis q) body in
    let front = all_shallow (word_at keyword.Int r ∷ a_name x ∷ mark_at punct.OpenParenthesis p
    ∷ (ts ++ mark_at punct.CloseParenthesis q ∷ []))
    in
    record {
      deep = front ++ h.deep;
      is = subst (λ o. IsItem text (front ++ h.deep)
          (tree.procedure (record { void = false; named = x; params = ns; body = ss; past = o })))
          short (grammar.procedure (grammar.typed (grammar.int refl)) x (mark_at punct.OpenParenthesis p) refl params
          (mark_at punct.CloseParenthesis q) refl h.is);
      shallow = shallow-append front h.deep
          (all-shallow (word_at keyword.Int r ∷ a_name x ∷ mark_at punct.OpenParenthesis p ∷ (ts ++ mark_at punct.CloseParenthesis q ∷ [])))
          h.shallow;
    }

-- The line of a procedure

guard_reads : (at : Places) → ReadsStatement 1 (placed at guard_pieces) (guard_tree at)
guard_reads at =
    tested 1 refl (at 0) (at 1) (at 5) (compares op.Greater (named (codes "a") (at 2)) (at 3) (at 4) 0 (codes "0") (lit≤ tt))
    (refl, (refl, (refl, tt)))
    (braced 2 refl (at 6) (at 10) (more_items 2 (returned 2 refl (at 7) (at 8) (at 9) 1 (codes "1")) (no_items 2)))

takes_one : (at : Places) → IsParameterList (word_at keyword.Int (at 3) ∷ a_name (named (codes "a") (at 4)) ∷ [])
    (named (codes "a") (at 4) ∷ [])
takes_one at = grammar.parameters (grammar.one (grammar.int {t = word_at keyword.Int (at 3)} refl) (named (codes "a") (at 4)))

line_reads : (b : Bool) (i : ℕ) (at : Places) → ReadsItem (placed at (procedure_pieces b i)) (tree.procedure (line_tree b i at))
line_reads true i at =
    short_procedure (at 0) (named (name_of i) (at 1)) (at 2) (at 5) (takes_one at)
    (braced 1 refl (at 6) (at 29) (more_items 1 (guard_reads (λ k. at (7 + k)))
    (more_items 1 (called 1 refl (named (codes "assert") (at 18)) (at 19) (at 24) (at 25)
    (compares_negated op.Unequal (named (codes "a") (at 20)) (at 21) (at 22) (at 23) i (decimal i) (lit≤ tt))
    (refl, (refl, (refl, (refl, (refl, (refl, tt)))))))
    (more_items 1 (returned 1 refl (at 26) (at 27) (at 28) 0 (codes "0")) (no_items 1))))) refl
line_reads false i at =
    short_procedure (at 0) (named (name_of i) (at 1)) (at 2) (at 5) (takes_one at)
    (braced 1 refl (at 6) (at 28) (more_items 1 (guard_reads (λ k. at (7 + k)))
    (more_items 1 (called 1 refl (named (codes "assert") (at 18)) (at 19) (at 23) (at 24)
    (compares op.LessEqual (named (codes "a") (at 20)) (at 21) (at 22) 0 (codes "0") (lit≤ tt))
    (refl, (refl, (refl, (refl, (refl, tt))))))
    (more_items 1 (returned 1 refl (at 25) (at 26) (at 27) 0 (codes "0")) (no_items 1))))) refl

-- `main`

call_reads : (i : ℕ) (at : Places) → ReadsStatement 1 (placed at (call_pieces i)) (call_tree i at)
call_reads i at =
    tested 1 refl (at 0) (at 1) (at 5) (compares op.Equal (named (codes "k") (at 2)) (at 3) (at 4) i (decimal i) (lit≤ tt))
    (refl, (refl, (refl, tt)))
    (braced 2 refl (at 6) (at 12) (more_items 2 (called 2 refl (named (name_of i) (at 7)) (at 8) (at 10) (at 11)
    (grammar.name {n = named (codes "v") (at 9)}) (refl, (refl, (refl, tt)))) (no_items 2)))

calls_read : (a : ℕ) (calls : List Places) {us : List PureToken} {ss : StatementTrees} → ReadsItems 1 us ss →
    ReadsItems 1 (placed_all call_pieces a calls ++ us) (call_trees a calls ss)
calls_read a [] h = h
calls_read a (at ∷ ats) {us} {ss} h =
    subst (λ ts. ReadsItems 1 ts (call_trees a (at ∷ ats) ss))
    (sym (append_assoc (placed at (call_pieces a)) (placed_all call_pieces (a + 1) ats) us))
    (more_items 1 (call_reads a at) (calls_read (a + 1) ats h))

calls_size : (a : ℕ) (calls : List Places) → length (placed_all call_pieces a calls) ≡ 13 * length calls
calls_size a [] = refl
calls_size a (at ∷ ats) =
    omega (arith, length-append (placed at (call_pieces a)) (placed_all call_pieces (a + 1) ats), calls_size (a + 1) ats)

-- at most 4,000 tokens have no 4,001st
none_past : (ts : List PureToken) → length ts ≤ 4000 → past_place ts ≡ None
none_past ts h = ap (option_map (λ t. t.at)) (slice_get_past ts 4000 h)

main_reads : (head : Places) (calls : List Places) (tail : Places) → length calls ≤ 60 →
    ReadsItem (main_tokens head calls tail) (tree.procedure (main_tree head calls tail))
main_reads head calls tail few =
    let ending = word_at keyword.Return (tail 0) ∷ a_literal (pos 0) (tail 1) (codes "0") ∷ mark_at punct.Semicolon (tail 2) ∷ [] in
    let all = placed_all call_pieces 1 calls in
    let e = append_assoc all ending (mark_at punct.CloseBrace (tail 3) ∷ []) in
    let whole = ap (λ ts. placed head head_pieces ++ ts) e in
    let size : length (main_tokens head calls tail) ≤ 4000 = omega (arith, length-append all (placed tail tail_pieces), calls_size 1 calls)
    in
    subst (λ ts. ReadsItem ts (tree.procedure (main_tree head calls tail))) whole
    (short_procedure (head 0) (named (codes "main") (head 1)) (head 2) (head 3) grammar.nothing
    (braced 1 refl (head 4) (tail 3) (reads 1 refl (codes "k") (λ i. head (5 + i)) (reads 1 refl (codes "v") (λ i. head (12 + i))
    (calls_read 1 calls (more_items 1 (returned 1 refl (tail 0) (tail 1) (tail 2) 0 (codes "0")) (no_items 1))))))
    (ap past_place whole ∙ none_past (main_tokens head calls tail) size))

-- The file

one_more : {ts us : List PureToken} {i : FileItem} {is : List FileItem} → ReadsItem ts i → IsShallowFile us is →
    IsShallowFile (ts ++ us) (i ∷ is)
one_more h k = record {
  deep = h.deep ++ k.deep;
  file = grammar.item h.is k.file;
  shallow = shallow-append h.deep k.deep h.shallow k.shallow;
}

lines_read : (a : ℕ) (lines : List Places) (us : List PureToken) (ps : List ProcedureTree) → IsShallowFile us (map tree.procedure ps) →
    IsShallowFile (placed_all line_pieces a lines ++ us) (map tree.procedure (line_trees a lines ++ ps))
lines_read a [] us ps h = h
lines_read a (at ∷ ats) us ps h =
    subst (λ ts. IsShallowFile ts (map tree.procedure (line_trees a (at ∷ ats) ++ ps)))
    (sym (append_assoc (placed at (line_pieces a)) (placed_all line_pieces (a + 1) ats) us))
    (one_more (line_reads (a % 3 == 0) a at) (lines_read (a + 1) ats us ps h))

pub workload_reads : (s : Spots) → length s.calls ≤ 60 → IsShallowFile (workload_tokens s) (workload_items s)
workload_reads s few =
    let nothing : IsShallowFile [] [] = record { deep = []; file = grammar.nothing; shallow = tt } in
    let main : IsShallowFile (main_tokens s.head s.calls s.tail) (map tree.procedure (main_tree s.head s.calls s.tail ∷ [])) =
    subst (λ ts. IsShallowFile ts (map tree.procedure (main_tree s.head s.calls s.tail ∷ [])))
    (append-nil (main_tokens s.head s.calls s.tail)) (one_more (main_reads s.head s.calls s.tail few) nothing) in
    lines_read 1 s.lines (main_tokens s.head s.calls s.tail) (main_tree s.head s.calls s.tail ∷ []) main
