use Rattle.std.proofs.Common.{Some, sym, subst}
use Rattle.must_region.specs.Traces.{trace_of}
use Rattle.path_sweep.specs.steps.Frames.{HasWaiting, IsBehind, IsReturned, IsBack, IsWaiting}
use Rattle.path_sweep.proofs.Adding.{if_ok_map, level_same}
use Rattle.path_sweep.proofs.step.behind.Goals as goal

pub returned-requires : goal.returned-requires
returned-requires c =
    let h : HasWaiting c.args.graphs.now c.args.levels.now (Some c.in-Return-Some.level) =
    subst (HasWaiting c.args.graphs.now c.args.levels.now) c.in-Return-Some.is-1 c.requires in (
      h.1,
      subst (λ l. IsWaiting c.args.graphs.now l h.1)
          (level_same c.args.levels.now c.in-Return-Some.level c.index-levels-level.result h.0 h.2 c.index-levels-level.is) h.3,
    )

pub returns-in-Return-Some : goal.returns-in-Return-Some
returns-in-Return-Some c =
    if_ok_map c.returned.result _ (λ f. IsBehind c.args.graphs.now c.args.levels.now c.args.frame.now c.args.edge.now
    (trace_of c.args.trail.now) f)
    (λ f k. subst (λ e. IsBehind c.args.graphs.now c.args.levels.now c.args.frame.now e (trace_of c.args.trail.now) f)
    (sym c.in-Return-Some.is-0)
    (subst (λ o. IsReturned c.args.graphs.now c.args.levels.now c.args.frame.now o (trace_of c.args.trail.now) f)
    (sym c.in-Return-Some.is-1)
    (λ l w at waits.
    let same = level_same c.args.levels.now c.in-Return-Some.level c.index-levels-level.result l at c.index-levels-level.is in
    subst (λ x. IsBack f x w c.args.trail.now.slots) (sym same)
    (k w (subst (λ x. IsWaiting c.args.graphs.now x w) same waits))))) c.returned.ensures
