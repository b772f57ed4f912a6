use Rattle.std.proofs.Common.{◌≡◌, ◌<◌, List, Some, length, refl, sym, ap, subst, arith}
use Rattle.std.specs.Prelude.{slice_get, slice_index_or, vec_capacity}
use Rattle.bolt_core.specs.declared.event.Event.{Event as Stored}
use Rattle.bolt_core.specs.Boards.{IsFedBy, MayFeed, Shown, core_of}
use Rattle.bolt_core.specs.Histories.{fed}
use Rattle.bolt_core.specs.Keeps.{IsNow}
use Rattle.bolt_core.specs.Machine.{Event}
use Rattle.bolt_core.specs.States.{reads}
use Rattle.bolt_core.specs.contracts.board.Board.{the_view}
use Rattle.bolt_core.proofs.Going.{roomy_event, said_stays, told_length}
use Rattle.query_rules.specs.declared.step.Asked.{Asked}
use Rattle.query_tree.proofs.Lists.{at_place}
use Rattle.bolt_core.proofs.LastFeeds.{feeds_within}
use Rattle.bolt_core.proofs.Parking.{feed_child, feed_on, sound_here, sound_lent}
use Rattle.bolt_core.proofs.Storing.{feed_stores}
use Rattle.bolt_core.proofs.Tracing.{traced_quiet}
use Rattle.bolt_core.proofs.board.Board.feed.Goals as goal

pub bounds-asked-asked : goal.bounds-asked-asked
bounds-asked-asked c =
    let b = c.self.inside in
    let p : Shown = the_view b in
    let m : MayFeed p c.args.job c.args.asked = subst (λ (x : Shown). MayFeed x c.args.job c.args.asked) (sym c.self.view_is) c.requires.job
    in
    omega (
      arith,
      feeds_within p.graphs _ c.args.job.state m.sound.state c.args.asked m.last,
      ap (λ (as' : List Asked). length as')
          c.asked.ensures,
    )

pub bounds-asked-asked-in_default : goal.bounds-asked-asked-in_default
bounds-asked-asked-in_default c =
    let b = c.self.inside in
    let p : Shown = the_view b in
    let m : MayFeed p c.args.job c.args.asked = subst (λ (x : Shown). MayFeed x c.args.job c.args.asked) (sym c.self.view_is) c.requires.job
    in
    omega (
      arith,
      feeds_within p.graphs _ c.args.job.state m.sound.state c.args.asked m.last,
      ap (λ (as' : List Asked). length as')
          c.asked.ensures,
    )

pub ended-requires-clause-here : goal.ended-requires-clause-here
ended-requires-clause-here c =
    let b = c.self.inside in
    let p : Shown = the_view b in
    let m : MayFeed p c.args.job c.args.asked = subst (λ (x : Shown). MayFeed x c.args.job c.args.asked) (sym c.self.view_is) c.requires.job
    in
    subst (λ (x : Shown). c.args.job.id < length x.core.entries) c.self.view_is (sound_here p c.self.invariant.0 c.args.job m.sound)

pub waiting-requires : goal.waiting-requires
waiting-requires c =
    let b = c.self.inside in
    let p : Shown = the_view b in
    let m : MayFeed p c.args.job c.args.asked = subst (λ (x : Shown). MayFeed x c.args.job c.args.asked) (sym c.self.view_is) c.requires.job
    in
    sound_here p c.self.invariant.0 c.args.job m.sound

pub feed-requires-clause-lent : goal.feed-requires-clause-lent
feed-requires-clause-lent c =
    let b = c.self.inside in
    let p : Shown = the_view b in
    let m : MayFeed p c.args.job c.args.asked = subst (λ (x : Shown). MayFeed x c.args.job c.args.asked) (sym c.self.view_is) c.requires.job
    in
    let v : IsNow p.core c.args.job.id c.args.job.taken =
    subst (λ (x : Shown). IsNow x.core c.args.job.id c.args.job.taken) (sym c.self.view_is) c.in_default.ensures in
    sound_lent p c.self.invariant.0 c.args.job m.sound v c.waiting.result (c.waiting.ensures v.own v.at)

pub feed-requires-clause-child : goal.feed-requires-clause-child
feed-requires-clause-child c =
    let b = c.self.inside in
    let p : Shown = the_view b in
    let m : MayFeed p c.args.job c.args.asked = subst (λ (x : Shown). MayFeed x c.args.job c.args.asked) (sym c.self.view_is) c.requires.job
    in
    let v : IsNow p.core c.args.job.id c.args.job.taken =
    subst (λ (x : Shown). IsNow x.core c.args.job.id c.args.job.taken) (sym c.self.view_is) c.in_default.ensures in
    let a : Asked = slice_index_or c.asked.result.now c.args.asked c.index-asked-asked.result in
    let at : slice_get c.args.job.state.asked c.args.asked ≡ Some a = subst (λ (as' : List Asked). slice_get as' c.args.asked ≡ Some a)
    c.asked.ensures (at_place c.asked.result.now c.args.asked c.index-asked-asked.result
    (omega (
      arith,
      feeds_within p.graphs _ c.args.job.state m.sound.state c.args.asked m.last,
      ap (λ (as' : List Asked). length as')
          c.asked.ensures,
    )))
    in
    feed_child p c.self.invariant.0 c.args.job c.args.asked m v a at

pub push_reserved-requires : goal.push_reserved-requires
push_reserved-requires c =
    let b = c.self.inside in
    let p : Shown = the_view b in
    let m : MayFeed p c.args.job c.args.asked = subst (λ (x : Shown). MayFeed x c.args.job c.args.asked) (sym c.self.view_is) c.requires.job
    in
    let v : IsNow p.core c.args.job.id c.args.job.taken =
    subst (λ (x : Shown). IsNow x.core c.args.job.id c.args.job.taken) (sym c.self.view_is) c.in_default.ensures in
    let a : Asked = slice_index_or c.asked.result.now c.args.asked c.index-asked-asked.result in
    let at : slice_get c.args.job.state.asked c.args.asked ≡ Some a = subst (λ (as' : List Asked). slice_get as' c.args.asked ≡ Some a)
    c.asked.ensures (at_place c.asked.result.now c.args.asked c.index-asked-asked.result
    (omega (
      arith,
      feeds_within p.graphs _ c.args.job.state m.sound.state c.args.asked m.last,
      ap (λ (as' : List Asked). length as')
          c.asked.ensures,
    )))
    in
    let g = feed_on p b.forest.entries c.feed.new.self.entries b.slots.items b.table.summaries b.events.items b.stopped c.args.worker
    c.args.job c.args.asked a c.self.invariant.0 m v at c.in-Ok.ensures.fed in
    omega (arith, g.fits, c.self.invariant.1.happened, b.events.ok.0, told_length b.slots.items b.table.summaries b.events.items)

pub invariant_of-self : goal.invariant_of-self
invariant_of-self c =
    let b = c.self.inside in
    let p : Shown = the_view b in
    let m : MayFeed p c.args.job c.args.asked = subst (λ (x : Shown). MayFeed x c.args.job c.args.asked) (sym c.self.view_is) c.requires.job
    in
    let v : IsNow p.core c.args.job.id c.args.job.taken =
    subst (λ (x : Shown). IsNow x.core c.args.job.id c.args.job.taken) (sym c.self.view_is) c.in_default.ensures in
    let a : Asked = slice_index_or c.asked.result.now c.args.asked c.index-asked-asked.result in
    let at : slice_get c.args.job.state.asked c.args.asked ≡ Some a = subst (λ (as' : List Asked). slice_get as' c.args.asked ≡ Some a)
    c.asked.ensures (at_place c.asked.result.now c.args.asked c.index-asked-asked.result
    (omega (
      arith,
      feeds_within p.graphs _ c.args.job.state m.sound.state c.args.asked m.last,
      ap (λ (as' : List Asked). length as')
          c.asked.ensures,
    )))
    in
    let g = feed_on p b.forest.entries c.feed.new.self.entries b.slots.items b.table.summaries b.events.items b.stopped c.args.worker
    c.args.job c.args.asked a c.self.invariant.0 m v at c.in-Ok.ensures.fed in
    rw c.push_reserved.ensures.items (
      g.board,
      roomy_event p _ b.slots.items b.events.items _ _ _ _ _ _ _ c.self.invariant.1 refl refl tt c.feed.ensures.room
          c.push_reserved.ensures.capacity (said_stays p _ _ g (λ i. refl)),
      traced_quiet p c.self.invariant.0 _ _ g b.origins.items (vec_capacity b.origins) c.self.invariant.2 refl refl,
    )

pub returns-clause-fed : goal.returns-clause-fed
returns-clause-fed c =
    let b = c.self.inside in
    let p : Shown = the_view b in
    let m : MayFeed p c.args.job c.args.asked = subst (λ (x : Shown). MayFeed x c.args.job c.args.asked) (sym c.self.view_is) c.requires.job
    in
    let v : IsNow p.core c.args.job.id c.args.job.taken =
    subst (λ (x : Shown). IsNow x.core c.args.job.id c.args.job.taken) (sym c.self.view_is) c.in_default.ensures in
    let a : Asked = slice_index_or c.asked.result.now c.args.asked c.index-asked-asked.result in
    let at : slice_get c.args.job.state.asked c.args.asked ≡ Some a = subst (λ (as' : List Asked). slice_get as' c.args.asked ≡ Some a)
    c.asked.ensures (at_place c.asked.result.now c.args.asked c.index-asked-asked.result
    (omega (
      arith,
      feeds_within p.graphs _ c.args.job.state m.sound.state c.args.asked m.last,
      ap (λ (as' : List Asked). length as')
          c.asked.ensures,
    )))
    in
    let g = feed_on p b.forest.entries c.feed.new.self.entries b.slots.items b.table.summaries b.events.items b.stopped c.args.worker
    c.args.job c.args.asked a c.self.invariant.0 m v at c.in-Ok.ensures.fed in
    subst
    (λ (x : Shown). IsFedBy x c.args.worker c.args.job c.args.asked (record p {
      core = core_of (the_view b).core.kept c.feed.new.self.entries b.slots.items b.table.summaries c.push_reserved.new.self.items
          b.stopped;
    })) c.self.view_is
    (record {
      entry = a;
      there = at;
      event = subst
          (λ (xs : List Stored). Event (reads p.graphs) p.core (fed c.args.worker c.args.job.id c.args.job.spent a.child)
          (core_of (the_view b).core.kept c.feed.new.self.entries b.slots.items b.table.summaries xs b.stopped)) (sym
          c.push_reserved.ensures.items) g.event;
    })

pub returns-clause-stored : goal.returns-clause-stored
returns-clause-stored c =
    let k = feed_stores c.self.inside.forest.entries c.feed.new.self.entries c.args.job.id c.args.job.spent c.args.job.state _
    c.in-Ok.ensures.fed in
    record { own = k.0; at = k.1; payload = k.2 }
