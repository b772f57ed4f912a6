use Rattle.std.proofs.Common.{◌≡◌, List, length, false, refl, sym, ap, ◌∙◌, subst, arith}
use Rattle.std.specs.Prelude.{not, vec_capacity}
use Rattle.query_tree.specs.Forest.{has_live}
use Rattle.query_rules.specs.declared.step.Step.{Step}
use Rattle.bolt_core.specs.declared.event.Event.{Event as Stored}
use Rattle.bolt_core.specs.Boards.{CanHear, Shown, core_of}
use Rattle.bolt_core.specs.contracts.board.Board.{the_view}
use Rattle.bolt_core.proofs.Going.{roomy_event, said_stays, told_length}
use Rattle.bolt_core.proofs.JobsTaken.{idle_on, steps_small, take_hears, take_on, take_taken}
use Rattle.bolt_core.proofs.Tracing.{traced_quiet}
use Rattle.bolt_core.proofs.board.Board.take.Goals as goal

pub returns-in_default-clause-taken : goal.returns-in_default-clause-taken
returns-in_default-clause-taken c =
    let b = c.self.inside in
    let p : Shown = the_view b in
    let t = c.in_default.ensures.taken in
    let over : not (has_live b.forest.entries) ≡ false =
    ap (λ (v : Shown). not (has_live v.core.entries)) c.self.view_is ∙ (sym c.over.ensures ∙ c.if-over.false) in
    idle_on p b.forest.entries c.take.new.self.entries b.slots.items b.table.summaries b.events.items b.stopped c.args.self.now
    c.self.invariant.0 c.self.view_is c.if-self.false over t.0 t.1

pub overflow_cast-steps : goal.overflow_cast-steps
overflow_cast-steps c =
    let b = c.self.inside in
    let p : Shown = the_view b in
    let small = steps_small p b.forest.entries c.take.new.self.entries b.slots.items b.table.summaries b.events.items b.stopped
    c.args.worker (length c.steps.result.now) c.in-Some.lent c.self.invariant.0 c.if-self.false c.in-Some.ensures.taken in
    omega (arith, small, ap (λ (xs : List Step). length xs) c.steps.ensures)

pub push_reserved-requires : goal.push_reserved-requires
push_reserved-requires c =
    let b = c.self.inside in
    let p : Shown = the_view b in
    let g = take_on p b.forest.entries c.take.new.self.entries b.slots.items b.table.summaries b.events.items b.stopped c.args.worker
    (length c.steps.result.now) c.in-Some.lent c.self.invariant.0 c.if-self.false c.in-Some.ensures.taken
    (ap (λ (xs : List Step). length xs) c.steps.ensures) in
    omega (arith, g.fits, c.self.invariant.1.happened, b.events.ok.0, told_length b.slots.items b.table.summaries b.events.items)

pub invariant_of-self-2 : goal.invariant_of-self-2
invariant_of-self-2 c =
    let b = c.self.inside in
    let p : Shown = the_view b in
    let g = take_on p b.forest.entries c.take.new.self.entries b.slots.items b.table.summaries b.events.items b.stopped c.args.worker
    (length c.steps.result.now) c.in-Some.lent c.self.invariant.0 c.if-self.false c.in-Some.ensures.taken
    (ap (λ (xs : List Step). length xs) c.steps.ensures) in
    rw c.push_reserved.ensures.items (
      g.board,
      roomy_event p _ b.slots.items b.events.items _ _ _ _ _ _ _ c.self.invariant.1 refl refl tt c.take.ensures.room
          c.push_reserved.ensures.capacity (said_stays p _ _ g (λ i. refl)),
      traced_quiet p c.self.invariant.0 _ _ g b.origins.items (vec_capacity b.origins) c.self.invariant.2 refl refl,
    )

pub hear-requires : goal.hear-requires
hear-requires c =
    let b = c.self.inside in
    let p : Shown = the_view b in
    let h = take_hears p b.forest.entries c.take.new.self.entries b.slots.items b.table.summaries b.events.items b.stopped c.args.worker
    (length c.steps.result.now) c.in-Some.lent c.self.invariant.0 c.if-self.false c.in-Some.ensures.taken in
    subst
    (λ (xs : List Stored). CanHear
    (record p { core = core_of (the_view b).core.kept c.take.new.self.entries b.slots.items b.table.summaries xs b.stopped })
    c.in-Some.lent.payload)
    (sym c.push_reserved.ensures.items) h

pub returns-clause-taken : goal.returns-clause-taken
returns-clause-taken c =
    let b = c.self.inside in
    let p : Shown = the_view b in
    take_taken p b.forest.entries c.take.new.self.entries b.slots.items b.table.summaries b.events.items b.stopped c.args.worker
    (length c.steps.result.now) c.in-Some.lent c.self.invariant.0 c.if-self.false c.in-Some.ensures.taken
    (ap (λ (xs : List Step). length xs) c.steps.ensures) c.args.self.now c.self.view_is c.push_reserved.new.self.items
    c.push_reserved.ensures.items c.len-taken.result (omega (arith, c.len-taken.ensures, b.events.ok.0)) c.hear.new.state c.hear.ensures
