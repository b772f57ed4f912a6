use Rattle.std.proofs.Common.{◌≡◌, ◌<◌, ◌^◌, ◌∙◌, length, arith, subst}
use Rattle.std.specs.Prelude.{slice_index}
use Rattle.std.proofs.lemmas.List.{get_or_default}
use Rattle.punch_step.proofs.FarAway.{one_raised}
use Rattle.punch_step.proofs.distances.Distances.raise.Goals as goal

pub tell-requires-clause-far : goal.tell-requires-clause-far
tell-requires-clause-far c =
    let p = c.args.partition.now in let d = c.args.self.now in let r = c.args.region in let far = d.reach.far.items in
    let low : r < length far = omega (arith, c.requires.region, c.requires.far.fars) in
    let is : c.index-old.result.now ≡ slice_index far r = c.index-old.ensures ∙ get_or_default far r c.index-old.result.now 0 low in
    one_raised (length p.regions) p.edges d.shut d.target far d.reach.way.items r c.nearest-near.result.0 c.one_more-far.result
    c.nearest-near.result.1 c.requires.far c.if-region-self.false c.requires.region (λ z. c.if-old-eq0.false (is ∙ z))
    c.nearest-near.ensures c.one_more-far.ensures.none c.one_more-far.ensures.some c.one_more-far.ensures.high
    (λ z k. c.one_more-far.ensures.greatest (slice_index far r) (subst (λ n. n < 2 ^ 64) is c.type_inv.old.fits) z k)
