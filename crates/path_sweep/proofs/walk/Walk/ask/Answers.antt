use Rattle.std.proofs.Common.{refl, sym, subst}
use Rattle.path_sweep.specs.steps.Frames.{IsStage, IsStep, IsWideStep, CanFollow}
use Rattle.path_sweep.specs.steps.Linking.{IsFirst}
use Rattle.shadow_elim.specs.Projection.{IfRefused}
use Rattle.path_sweep.specs.Guards.{Stage}
use Rattle.path_sweep.specs.steps.Walks.{IsAsked}
use Rattle.path_sweep.proofs.Adding.{if_ok_map}
use Rattle.path_sweep.proofs.Walking.{walk_names, asked_refused, asked_any}
use Rattle.path_sweep.proofs.walk.Walk.ask.Goals as goal

pub step_over-requires-clause-slot_names : goal.step_over-requires-clause-slot_names
step_over-requires-clause-slot_names c =
    let h = c.requires.walk.1 in
    (walk_names c.args.graphs.now.graphs c.args.graphs.now.well_formed c.requires.walk.0 c.args.self.now h c.args.edge
    (subst (IsFirst (CanFollow h.now.at) h.from) c.requires.next h.next).1).0

pub step_over-requires-clause-entry_names : goal.step_over-requires-clause-entry_names
step_over-requires-clause-entry_names c =
    let h = c.requires.walk.1 in
    (walk_names c.args.graphs.now.graphs c.args.graphs.now.well_formed c.requires.walk.0 c.args.self.now h c.args.edge
    (subst (IsFirst (CanFollow h.now.at) h.from) c.requires.next h.next).1).1

pub returns-in-Err : goal.returns-in-Err
returns-in-Err c =
    if_ok_map c.refused.result _ _ (λ a is main h. asked_refused c.args.graphs.now.graphs c.args.graphs.now.well_formed main c.args.self.now
    h c.args.edge
    c.in-Err.error a is (subst (λ levels. IfRefused c.in-Err.error (λ kept. (stage : Stage) →
    IsStage c.args.graphs.now.graphs levels c.args.self.now.frame stage →
    IsWideStep c.args.graphs.now.graphs c.args.self.now.symbols c.args.edge kept stage)) c.as_slice-levels.ensures.value
    c.in-Err.ensures.limit))
    c.refused.ensures

pub returns : goal.returns
returns c = λ main h.
    let s = subst (λ levels. IsStep c.args.graphs.now.graphs levels c.args.self.now.frame c.args.self.now.symbols c.args.edge c.in-Ok.step
    h.now.at)
    c.as_slice-levels.ensures.value (c.in-Ok.ensures.step h.now.at
    (subst (λ levels. IsStage c.args.graphs.now.graphs levels c.args.self.now.frame h.now.at) (sym c.as_slice-levels.ensures.value)
    h.stage))
    in
    subst (IsAsked c.args.graphs.now.graphs main c.args.self.now h.now c.args.edge) (sym c.answered.ensures)
    (asked_any c.args.graphs.now.graphs c.args.graphs.now.well_formed main c.args.self.now h c.args.edge c.in-Ok.step s
    c.in_ok-guard.guard.atoms
    c.in_ok-guard.ensures c.in_ok-guard.guard refl c.in_ok-solved.solved c.in_ok-solved.ensures.plan c.in_ok-solved.ensures.point
    c.in_ok-solved.ensures.values c.in_ok-solved.ensures.sound)
