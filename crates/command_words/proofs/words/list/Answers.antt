use Rattle.std.proofs.Common.{◌∙◌, List, ℤ, sym, subst, IfSome, IfNone}
use Rattle.std.proofs.lemmas.Option.{IfSome_then}
use Rattle.c_lexer.proofs.Words.{if_none}
use Rattle.command_words.specs.Words.{IsList}
use Rattle.command_words.proofs.WordsRuns.{ok_as}
use Rattle.command_words.proofs.WordsLists.{empty_list, full_list, list_only}
use Rattle.command_words.proofs.words.list.Goals as goal

pub returns-then-is_blank-clause-some : goal.returns-then-is_blank-clause-some
returns-then-is_blank-clause-some c =
    subst (IsList c.args.text.now) (sym c.new.ensures.items) (empty_list c.args.text.now c.in-Some.inner.now c.in-Some.ensures.some
    (sym c.is_blank.ensures ∙ c.if-is_blank.true))

pub returns-else-is_blank-clause-some : goal.returns-else-is_blank-clause-some
returns-else-is_blank-clause-some c =
    let text = c.args.text.now in
    ok_as _ (λ o. IfSome o (λ v. IsList text v.items)) c.pieces.result
    (λ o read. IfSome_then o {Q = λ v. IsList text v.items} read
    (λ v h. full_list text c.in-Some.inner.now v.items c.in-Some.ensures.some h.0 h.1)) c.pieces.ensures.some

pub returns-else-is_blank-clause-none : goal.returns-else-is_blank-clause-none
returns-else-is_blank-clause-none c =
    let text = c.args.text.now in
    ok_as _ (λ o. IfNone o ((zs : List ℤ) → IsList text zs → ⊥)) c.pieces.result
    (λ o. if_none _ ((zs : List ℤ) → IsList text zs → ⊥) o
    (λ none zs h. let k = list_only text c.in-Some.inner.now zs c.in-Some.ensures.some (sym c.is_blank.ensures ∙ c.if-is_blank.false) h in
    none zs k.0 k.1)) c.pieces.ensures.none
