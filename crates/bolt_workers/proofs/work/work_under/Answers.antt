use Rattle.std.proofs.Common.{◌≡◌, ◌<◌, length, IfOk, Option, Some, ap, ◌∙◌, subst, sym, rules}
use Rattle.std.specs.Prelude.{get_or}
use Rattle.bolt_core.specs.declared.history.Program.{Program}
use Rattle.bolt_workers.specs.declared.desk.Desk.{Desk}
use Rattle.bolt_workers.specs.steps.Desks.{program_of}
use Rattle.bolt_workers.proofs.Crews.{opened_sits}
use Rattle.bolt_workers.proofs.work.work_under.Goals as goal

pub run_desks-requires-after_bounds : goal.run_desks-requires-after_bounds
run_desks-requires-after_bounds g c κs within = λ i d lt.
    let o = c.in_ok-desks.ensures.desks i d lt in (
      o.lock ∙ c.requires.lock,
      opened_sits c.args.seat c.args.graphs.value.graphs c.args.room (get_or c.in_ok-desks.desks.items i d)
          c.requires.begins o,
    )

pub returns-clause-same : goal.returns-clause-same
returns-clause-same g c =
    let p = c.args.seat.view.program in
    let desk = c.remove-desk.result in
    let lt : 0 < length c.run_desks.new.desks.items = search rules in
    let all = c.run_desks.ensures.programs p (λ i d lt. ap (λ v. v.program) (c.in_ok-desks.ensures.desks i d lt).view) 0 desk lt in
    let own : desk.seat.view.program ≡ p = subst (λ (d : Desk). d.seat.view.program ≡ p) (sym c.remove-desk.ensures.value) all in
    subst (λ (q : Option Program). IfOk c.finish.result (λ b. q ≡ Some (program_of b))) own c.finish.ensures.same
