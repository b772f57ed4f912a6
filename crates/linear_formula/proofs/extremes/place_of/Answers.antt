use Rattle.std.proofs.Common.{◌≡◌, ◌-◌, rules, arith, sym, ◌∙◌}
use Rattle.std.proofs.lemmas.List.Elements.{at_read}
use Rattle.linear_formula.specs.Equality.{same_parts}
use Rattle.linear_formula.specs.steps.SameValues.{parts-same, says}
use Rattle.linear_formula.proofs.extremes.place_of.Goals as goal

pub returns-then-eq-clause-parts : goal.returns-then-eq-clause-parts
returns-then-eq-clause-parts c =
    let x = c.parts.result.now in
    let y = c.args.parts.now in
    let e : c.eq.result ≡ same_parts x y = search rules in
    let s : x ≡ y = (says c.eq.result (same_parts x y) e (parts-same x y)).0 c.if-eq.true in
    at_read c.args.pairs.now (λ p. p.greatest.atom.term.parts ≡ y) (c.loop-place.place - 1) c.index-pairs-place.result
    (omega arith) c.index-pairs-place.is
    (sym c.parts.ensures ∙ s)
