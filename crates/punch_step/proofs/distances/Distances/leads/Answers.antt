use Rattle.std.proofs.Common.{◌++◌, ◌∷◌, [], sym, subst}
use Rattle.punch_step.specs.steps.Far.{IsOpenWay, LeadsNearer}
use Rattle.punch_step.proofs.FarAway.{way_more}
use Rattle.punch_step.proofs.distances.Distances.leads.Goals as goal

pub loop-here-preserved : goal.loop-here-preserved
loop-here-preserved c =
    let d = c.args.self.now in let p = c.args.partition.now in let e = c.in-Some.edge.now in
    let w = c.loop-here.invariant.walked in
    let k : LeadsNearer p.edges d.shut d.reach.far.items c.loop-here.here e = c.leads_on.ensures.leads c.if-not-leads_on.false in
    record {
      walked = (
        w.0 ++ e ∷ [],
        way_more p.edges d.shut c.args.from w.0 e (subst (λ n. IsOpenWay p.edges d.shut c.args.from w.0 n) (sym k.from) w.1) k.is_open,
      );
      noted = c.leads_on.ensures.noted;
    }
