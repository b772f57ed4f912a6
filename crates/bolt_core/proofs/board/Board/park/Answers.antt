use Rattle.std.proofs.Common.{◌<◌, List, length, refl, sym, subst, arith}
use Rattle.std.specs.Prelude.{vec_capacity}
use Rattle.bolt_core.specs.declared.event.Event.{Event as Stored}
use Rattle.bolt_core.specs.Boards.{MayBeParked, Shown, core_of}
use Rattle.bolt_core.specs.Histories.{parked}
use Rattle.bolt_core.specs.Keeps.{IsNow}
use Rattle.bolt_core.specs.Machine.{Event}
use Rattle.bolt_core.specs.States.{reads}
use Rattle.bolt_core.specs.contracts.board.Board.{the_view}
use Rattle.bolt_core.proofs.Going.{roomy_event, said_stays, told_length}
use Rattle.bolt_core.proofs.Parking.{park_gives, park_on, sound_here, sound_lent}
use Rattle.bolt_core.proofs.Storing.{back_stores}
use Rattle.bolt_core.proofs.Tracing.{traced_quiet}
use Rattle.bolt_core.proofs.board.Board.park.Goals as goal

pub ended-requires-clause-here : goal.ended-requires-clause-here
ended-requires-clause-here c =
    let b = c.self.inside in
    let p : Shown = the_view b in
    let m : MayBeParked p c.args.job c.args.rest = subst (λ (x : Shown). MayBeParked x c.args.job c.args.rest) (sym c.self.view_is)
    c.requires.job in
    subst (λ (x : Shown). c.args.job.id < length x.core.entries) c.self.view_is (sound_here p c.self.invariant.0 c.args.job m.sound)

pub waiting-requires : goal.waiting-requires
waiting-requires c =
    let b = c.self.inside in
    let p : Shown = the_view b in
    let m : MayBeParked p c.args.job c.args.rest = subst (λ (x : Shown). MayBeParked x c.args.job c.args.rest) (sym c.self.view_is)
    c.requires.job in
    sound_here p c.self.invariant.0 c.args.job m.sound

pub give_back-requires-clause-lent : goal.give_back-requires-clause-lent
give_back-requires-clause-lent c =
    let b = c.self.inside in
    let p : Shown = the_view b in
    let m : MayBeParked p c.args.job c.args.rest = subst (λ (x : Shown). MayBeParked x c.args.job c.args.rest) (sym c.self.view_is)
    c.requires.job in
    let v : IsNow p.core c.args.job.id c.args.job.taken =
    subst (λ (x : Shown). IsNow x.core c.args.job.id c.args.job.taken) (sym c.self.view_is) c.in_default.ensures in
    sound_lent p c.self.invariant.0 c.args.job m.sound v c.waiting.result (c.waiting.ensures v.own v.at)

pub give_back-requires-clause-rest : goal.give_back-requires-clause-rest
give_back-requires-clause-rest c =
    let b = c.self.inside in
    let p : Shown = the_view b in
    let m : MayBeParked p c.args.job c.args.rest = subst (λ (x : Shown). MayBeParked x c.args.job c.args.rest) (sym c.self.view_is)
    c.requires.job in
    let v : IsNow p.core c.args.job.id c.args.job.taken =
    subst (λ (x : Shown). IsNow x.core c.args.job.id c.args.job.taken) (sym c.self.view_is) c.in_default.ensures in
    park_gives p c.self.invariant.0 c.args.job c.args.rest m v c.waiting.result (c.waiting.ensures v.own v.at)

pub push_reserved-requires : goal.push_reserved-requires
push_reserved-requires c =
    let b = c.self.inside in
    let p : Shown = the_view b in
    let m : MayBeParked p c.args.job c.args.rest = subst (λ (x : Shown). MayBeParked x c.args.job c.args.rest) (sym c.self.view_is)
    c.requires.job in
    let v : IsNow p.core c.args.job.id c.args.job.taken =
    subst (λ (x : Shown). IsNow x.core c.args.job.id c.args.job.taken) (sym c.self.view_is) c.in_default.ensures in
    let g = park_on p b.forest.entries c.give_back.new.self.entries b.slots.items b.table.summaries b.events.items b.stopped c.args.worker
    c.args.job c.args.rest c.self.invariant.0 m v c.in-Ok.ensures.given in
    omega (arith, g.fits, c.self.invariant.1.happened, b.events.ok.0, told_length b.slots.items b.table.summaries b.events.items)

pub invariant_of-self : goal.invariant_of-self
invariant_of-self c =
    let b = c.self.inside in
    let p : Shown = the_view b in
    let m : MayBeParked p c.args.job c.args.rest = subst (λ (x : Shown). MayBeParked x c.args.job c.args.rest) (sym c.self.view_is)
    c.requires.job in
    let v : IsNow p.core c.args.job.id c.args.job.taken =
    subst (λ (x : Shown). IsNow x.core c.args.job.id c.args.job.taken) (sym c.self.view_is) c.in_default.ensures in
    let g = park_on p b.forest.entries c.give_back.new.self.entries b.slots.items b.table.summaries b.events.items b.stopped c.args.worker
    c.args.job c.args.rest c.self.invariant.0 m v c.in-Ok.ensures.given in
    rw c.push_reserved.ensures.items (
      g.board,
      roomy_event p _ b.slots.items b.events.items _ _ _ _ _ _ _ c.self.invariant.1 refl refl tt c.give_back.ensures.room
          c.push_reserved.ensures.capacity (said_stays p _ _ g (λ i. refl)),
      traced_quiet p c.self.invariant.0 _ _ g b.origins.items (vec_capacity b.origins) c.self.invariant.2 refl refl,
    )

pub returns-clause-parked : goal.returns-clause-parked
returns-clause-parked c =
    let b = c.self.inside in
    let p : Shown = the_view b in
    let m : MayBeParked p c.args.job c.args.rest = subst (λ (x : Shown). MayBeParked x c.args.job c.args.rest) (sym c.self.view_is)
    c.requires.job in
    let v : IsNow p.core c.args.job.id c.args.job.taken =
    subst (λ (x : Shown). IsNow x.core c.args.job.id c.args.job.taken) (sym c.self.view_is) c.in_default.ensures in
    let g = park_on p b.forest.entries c.give_back.new.self.entries b.slots.items b.table.summaries b.events.items b.stopped c.args.worker
    c.args.job c.args.rest c.self.invariant.0 m v c.in-Ok.ensures.given in
    subst
    (λ (x : Shown). Event (reads x.graphs) x.core (parked c.args.worker c.args.job.id c.args.job.spent c.args.rest)
    (core_of (the_view b).core.kept c.give_back.new.self.entries b.slots.items b.table.summaries c.push_reserved.new.self.items b.stopped))
    c.self.view_is
    (subst
    (λ (xs : List Stored). Event (reads p.graphs) p.core (parked c.args.worker c.args.job.id c.args.job.spent c.args.rest)
    (core_of (the_view b).core.kept c.give_back.new.self.entries b.slots.items b.table.summaries xs b.stopped)) (sym
    c.push_reserved.ensures.items) g.event)

pub returns-clause-stored : goal.returns-clause-stored
returns-clause-stored c =
    let k = back_stores c.self.inside.forest.entries c.give_back.new.self.entries c.args.job.id c.args.job.spent c.args.job.state
    c.args.rest c.in-Ok.ensures.given in
    record { own = k.0; at = k.1; payload = k.2 }
