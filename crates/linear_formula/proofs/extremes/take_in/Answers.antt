use Rattle.std.proofs.Common.{◌≡◌, ◌<◌, List, length, refl, subst}
use Rattle.std.specs.List.{HoldsAt}
use Rattle.std.proofs.lemmas.List.Elements.{at_read}
use Rattle.linear_formula.specs.declared.extremes.ExtremePair.{ExtremePair}
use Rattle.linear_formula.proofs.ExtremePairs.{pairs_pushed_behind, pairs_widened_behind}
use Rattle.linear_formula.proofs.extremes.take_in.Goals as goal

pub returns-in_ok-widen-in-Some : goal.returns-in_ok-widen-in-Some
returns-in_ok-widen-in-Some c = λ older all e h.
    let ps = c.args.pairs.now.items in
    let i = c.in-Some.place in
    let p = c.index_mut.result.now in
    let a = c.args.atom.now in
    let l : i < length ps = subst (λ (xs : List ExtremePair). i < length xs) c.deref.ensures.value c.in-Some.ensures.within in
    let at : HoldsAt (λ r. r ≡ p) ps i = at_read ps (λ r. r ≡ p) i p l c.index_mut.ensures.value refl in
    let parts : p.greatest.atom.term.parts ≡ a.term.parts =
    cc (c.in-Some.ensures.parts p, c.index_mut.ensures.value, c.deref.ensures.value, c.parts-parts.ensures.value) in
    pairs_widened_behind older ps all i p c.widen.new.self c.args.number a e l at parts c.in_ok-widen-in-Some.ensures h

pub returns-in_ok-push-in-None : goal.returns-in_ok-push-in-None
returns-in_ok-push-in-None c = λ older all e h.
    let p = c.in_ok-of-in-None.field-0 in
    let made = c.in_ok-of-in-None.ensures in
    rw c.in_ok-push-in-None.ensures.items
    (pairs_pushed_behind older c.args.pairs.now.items all p c.args.number c.args.atom.now e made.number made.atom made.least h)
