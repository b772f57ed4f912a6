use Rattle.std.proofs.Common.{◌∙◌, List, Bool, sym, subst, ap}
use Rattle.may_partition.specs.Shown.{Shown, is_live}
use Rattle.may_partition.specs.declared.region.RegionEdge.{RegionEdge}
use Rattle.punch_step.specs.steps.Far.{IsOpenWay, crosses}
use Rattle.punch_step.specs.steps.Following.{AreNoted}
use Rattle.punch_step.proofs.SideSteps.{side_of, still_followed}
use Rattle.punch_step.proofs.distances.Distances.is_side.Goals as goal

pub leads_from-requires-clause-noted : goal.leads_from-requires-clause-noted
leads_from-requires-clause-noted c =
    subst (λ (p : Shown). AreNoted p c.args.self.now.noted.items) (sym c.partition-2.ensures) c.requires.followed.noted

pub returns-clause-side : goal.returns-clause-side
returns-clause-side c = λ leads m shows.
    let d = c.args.self.now in let s = c.args.state.now in let k = c.args.edge.now in
    side_of s d c.requires.followed m shows k
    (ap (λ (bits : List Bool). crosses bits k) (sym c.deref.ensures.value) ∙ sym c.crosses.ensures ∙ c.if-not-crosses.false)
    (sym c.has.ensures ∙ c.if-has.false)
    (ap (λ (p : Shown). is_live p.edges k) (sym c.partition.ensures) ∙ sym c.live.ensures ∙ c.if-not-live.false)
    (subst (λ (p : Shown). (es : List RegionEdge) × IsOpenWay p.edges d.shut k.to es d.target) c.partition-2.ensures
    (c.leads_from.ensures.way leads))

pub returns-clause-followed : goal.returns-clause-followed
returns-clause-followed c =
    let now = c.leads_from.new.self in
    still_followed c.args.state.now c.args.self.now now c.requires.followed c.leads_from.ensures.rest c.leads_from.ensures.reach
    (subst (λ (p : Shown). AreNoted p now.noted.items) c.partition-2.ensures c.leads_from.ensures.noted)
