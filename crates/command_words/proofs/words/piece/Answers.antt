use Rattle.std.proofs.Common.{◌≡◌, ℕ, ◌-◌, List, length, take, drop, sym, ap, ◌∙◌, true, false}
use Rattle.std.specs.List.{list_all}
use Rattle.std.proofs.lemmas.Option.{IfSome_then}
use Rattle.outer_io.proofs.Known.{whole_rest}
use Rattle.c_lexer.proofs.Words.{if_none}
use Rattle.command_words.specs.Words.{IsValue, IsPiece}
use Rattle.command_words.proofs.WordsRuns.{is_space}
use Rattle.command_words.proofs.WordsLists.{piece_made, piece_only}
use Rattle.command_words.proofs.words.piece.Goals as goal

abbrev behind : List ℕ → ℕ → List ℕ
behind text n = take (length text - n) (drop n text)

pub returns-then-is_blank-clause-some : goal.returns-then-is_blank-clause-some
returns-then-is_blank-clause-some c =
    let text = c.args.text.now in
    let n = c.run_len.result in
    let m = c.run_len-len.result in
    let rest = behind text n in
    let blank : list_all is_space (drop m rest) ≡ true = ap (list_all is_space) (sym (whole_rest rest m)) ∙ sym c.is_blank.ensures
    ∙ c.if-is_blank.true in
    IfSome_then c.value.result {P = λ z. IsValue (take m rest) z} {Q = λ z. IsPiece text z} c.value.ensures.some
    (λ z h. piece_made text rest n m c.run_len.ensures (whole_rest text n) c.run_len-len.ensures z blank h)

pub returns-then-is_blank-clause-none : goal.returns-then-is_blank-clause-none
returns-then-is_blank-clause-none c =
    let text = c.args.text.now in
    let n = c.run_len.result in
    let m = c.run_len-len.result in
    let rest = behind text n in
    if_none _ _ c.value.result (λ none z h. let k = piece_only text rest n m c.run_len.ensures (whole_rest text n) c.run_len-len.ensures z h
    in none z k.1) c.value.ensures.none

pub returns-else-is_blank-clause-none : goal.returns-else-is_blank-clause-none
returns-else-is_blank-clause-none c z h =
    let text = c.args.text.now in
    let n = c.run_len.result in
    let m = c.run_len-len.result in
    let rest = behind text n in
    let k = piece_only text rest n m c.run_len.ensures (whole_rest text n) c.run_len-len.ensures z h in
    let e : false ≡ true = sym c.if-is_blank.false ∙ c.is_blank.ensures ∙ ap (list_all is_space) (whole_rest rest m) ∙ k.0 in
    differ e
  where
    differ : false ≡ true → ⊥
    differ e = cc
