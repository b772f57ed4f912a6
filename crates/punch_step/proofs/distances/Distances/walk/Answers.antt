use Rattle.std.proofs.Common.{◌∙◌, ◌<◌, List, Bool, Some, length, arith, sym, subst, ap}
use Rattle.std.proofs.lemmas.List.{get_or_default}
use Rattle.abstract_path.proofs.Settling.{inside}
use Rattle.punch_step.specs.steps.Far.{crosses}
use Rattle.punch_step.proofs.FarAway.{IsWalked, none_from, walk_ends, walked_on, walked_over}
use Rattle.punch_step.proofs.distances.Distances.walk.Goals as goal

pub returns-then-index-eq0-clause-walk : goal.returns-then-index-eq0-clause-walk
returns-then-index-eq0-clause-walk c = λ es o.
    let d = c.args.self.now in let p = c.args.partition.now in let far = d.reach.far.items in
    let low : d.target < length far = inside far d.target (λ z. absurd (omega (arith, z, c.requires.far.at_target))) in
    none_from p.edges d.shut far d.target c.requires.far.bounded c.requires.far.at_target 0
    (sym (c.index.ensures ∙ get_or_default far 0 c.index.result.now 0 (omega (arith, low))) ∙ c.if-index-eq0.true) es o

pub loop-here-preserved-then-crosses : goal.loop-here-preserved-then-crosses
loop-here-preserved-then-crosses c =
    let d = c.args.self.now in let p = c.args.partition.now in let e = c.index-in-loop-here.result.now in
    record {
      walked = walked_over p.edges d.shut d.marked.items d.reach.far.items c.loop-here.here c.loop-here.last e c.loop-here.invariant.walked
          (c.leads_on.ensures.leads c.if-not-leads_on.false)
          (ap (λ (bits : List Bool). crosses bits e) (sym c.deref.ensures.value) ∙ sym c.crosses.ensures ∙ c.if-crosses.true);
      noted = c.leads_on.ensures.noted;
    }

pub loop-here-preserved : goal.loop-here-preserved
loop-here-preserved c =
    let d = c.args.self.now in let p = c.args.partition.now in let e = c.index-in-loop-here.result.now in
    record {
      walked = walked_on p.edges d.shut d.marked.items d.reach.far.items c.loop-here.here c.loop-here.last e c.loop-here.invariant.walked
          (c.leads_on.ensures.leads c.if-not-leads_on.false)
          (ap (λ (bits : List Bool). crosses bits e) (sym c.deref.ensures.value) ∙ sym c.crosses.ensures ∙ c.if-crosses.false);
      noted = c.leads_on.ensures.noted;
    }

pub returns-clause-walk : goal.returns-clause-walk
returns-clause-walk c =
    let d = c.args.self.now in let p = c.args.partition.now in let far = d.reach.far.items in
    walk_ends p.edges d.shut d.marked.items far d.target c.in-Some.edge c.requires.far.bounded c.requires.far.at_target
    (subst (λ n. IsWalked p.edges d.shut d.marked.items far n (Some c.in-Some.edge)) c.loop-here-test.false
    (subst (λ o. IsWalked p.edges d.shut d.marked.items far c.loop-here.here o) c.in-Some.is c.loop-here.invariant.walked))
