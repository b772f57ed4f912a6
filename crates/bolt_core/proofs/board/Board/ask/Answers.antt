use Rattle.std.proofs.Common.{◌≡◌, false, suc, ◌+◌, ◌-◌, ◌<◌, List, ◌∷◌, [], ◌++◌, Some, None, length, refl, sym, ap, ◌∙◌, subst, arith}
use Rattle.std.specs.Prelude.{vec_capacity}
use Rattle.std.proofs.lemmas.List.{length-map}
use Rattle.query_tree.specs.Forest.{after_ask}
use Rattle.query_tree.specs.Woods.{Went}
use Rattle.query_tree.proofs.Lists.{at_place}
use Rattle.query_rules.specs.Seen.{Seen}
use Rattle.query_rules.specs.Steps.{updated, with_child}
use Rattle.query_rules.specs.declared.step.Asked.{Asked}
use Rattle.query_rules.specs.declared.step.News.TheVariants as news
use Rattle.bolt_core.specs.declared.event.Event.TheVariants as stored
use Rattle.bolt_core.specs.declared.slot.Slot.{Slot}
use Rattle.bolt_core.specs.Boards.{MayAsk, Shown, core_of, node_of}
use Rattle.bolt_core.specs.Groups.{Node}
use Rattle.bolt_core.specs.Histories.{asked}
use Rattle.bolt_core.specs.Keeps.{IsNow}
use Rattle.bolt_core.specs.Machine.{Core, Event, told_child}
use Rattle.bolt_core.specs.States.{reads}
use Rattle.bolt_core.specs.contracts.board.Board.{the_view}
use Rattle.bolt_core.proofs.Asking.{ask_on, ask_room, asked_few, asked_some, child_slot, next_unsaid, slot_at}
use Rattle.bolt_core.proofs.BoardKeeps.{board_keeps}
use Rattle.bolt_core.proofs.Going.{most_small, roomy_query, said_stays, told_length}
use Rattle.bolt_core.proofs.Parking.{sound_here, sound_lent}
use Rattle.bolt_core.proofs.Storing.{ask_stores}
use Rattle.bolt_core.proofs.Tracing.{traced_quiet}
use Rattle.bolt_core.proofs.board.Board.ask.Goals as goal

pub ended-requires-clause-here : goal.ended-requires-clause-here
ended-requires-clause-here c =
    let b = c.self.inside in
    let p : Shown = the_view b in
    let q = c.args.query.value in
    let m : MayAsk p c.args.job c.args.child q = subst (λ (x : Shown). MayAsk x c.args.job c.args.child q) (sym c.self.view_is)
    c.requires.job
    in
    subst (λ (x : Shown). c.args.job.id < length x.core.entries) c.self.view_is (sound_here p c.self.invariant.0 c.args.job m.sound)

pub overflow_cast-number : goal.overflow_cast-number
overflow_cast-number c =
    let b = c.self.inside in
    let p : Shown = the_view b in
    let q = c.args.query.value in
    let m : MayAsk p c.args.job c.args.child q = subst (λ (x : Shown). MayAsk x c.args.job c.args.child q) (sym c.self.view_is)
    c.requires.job
    in
    let v : IsNow p.core c.args.job.id c.args.job.taken =
    subst (λ (x : Shown). IsNow x.core c.args.job.id c.args.job.taken) (sym c.self.view_is) c.in_default.ensures in
    let z : Slot = record { parent = None; level = 0; query = c.args.query; closed = None; summary = None; said = false; published = None }
    in
    let room = ask_room p b.forest.entries b.slots.items b.table.summaries b.events.items b.stopped c.args.worker c.args.job c.args.child z
    _ _ _ _ c.self.invariant.0 c.self.invariant.1 m v in
    let len : length b.forest.entries ≡ length b.slots.items =
    (board_keeps p c.self.invariant.0).paired.count ∙ length-map b.slots.items node_of in
    omega (arith, c.len-number.ensures, b.slots.ok.0, len, room.0, most_small p c.self.invariant.0)

pub index-requires : goal.index-requires
index-requires c =
    let b = c.self.inside in
    let p : Shown = the_view b in
    let q = c.args.query.value in
    let m : MayAsk p c.args.job c.args.child q = subst (λ (x : Shown). MayAsk x c.args.job c.args.child q) (sym c.self.view_is)
    c.requires.job
    in
    let len : length b.forest.entries ≡ length b.slots.items =
    (board_keeps p c.self.invariant.0).paired.count ∙ length-map b.slots.items node_of in
    omega (arith, b.slots.ok.0, len, sound_here p c.self.invariant.0 c.args.job m.sound)

pub overflow_add-level : goal.overflow_add-level
overflow_add-level c =
    let b = c.self.inside in
    let p : Shown = the_view b in
    let q = c.args.query.value in
    let m : MayAsk p c.args.job c.args.child q = subst (λ (x : Shown). MayAsk x c.args.job c.args.child q) (sym c.self.view_is)
    c.requires.job
    in
    let v : IsNow p.core c.args.job.id c.args.job.taken =
    subst (λ (x : Shown). IsNow x.core c.args.job.id c.args.job.taken) (sym c.self.view_is) c.in_default.ensures in
    let z : Slot = record { parent = None; level = 0; query = c.args.query; closed = None; summary = None; said = false; published = None }
    in
    let room = ask_room p b.forest.entries b.slots.items b.table.summaries b.events.items b.stopped c.args.worker c.args.job c.args.child z
    _ _ _ _ c.self.invariant.0 c.self.invariant.1 m v in
    let len : length b.forest.entries ≡ length b.slots.items =
    (board_keeps p c.self.invariant.0).paired.count ∙ length-map b.slots.items node_of in
    let s = slot_at p b.slots.items c.self.invariant.0 refl c.args.job m.sound c.index.result.now
    (at_place b.slots.items c.args.job.id c.index.result.now
    (omega (arith, len, sound_here p c.self.invariant.0 c.args.job m.sound)) ∙ ap Some (sym c.index.ensures)) in
    omega (arith, s.1, len, sound_here p c.self.invariant.0 c.args.job m.sound, room.0, most_small p c.self.invariant.0)

pub overflow_cast-last : goal.overflow_cast-last
overflow_cast-last c =
    let b = c.self.inside in
    let p : Shown = the_view b in
    let q = c.args.query.value in
    let m : MayAsk p c.args.job c.args.child q = subst (λ (x : Shown). MayAsk x c.args.job c.args.child q) (sym c.self.view_is)
    c.requires.job
    in
    let v : IsNow p.core c.args.job.id c.args.job.taken =
    subst (λ (x : Shown). IsNow x.core c.args.job.id c.args.job.taken) (sym c.self.view_is) c.in_default.ensures in
    let z : Slot = record { parent = None; level = 0; query = c.args.query; closed = None; summary = None; said = false; published = None }
    in
    let room = ask_room p b.forest.entries b.slots.items b.table.summaries b.events.items b.stopped c.args.worker c.args.job c.args.child z
    _ _ _ _ c.self.invariant.0 c.self.invariant.1 m v in
    omega (arith, ap (λ (l : List Asked). length l) c.asked.ensures, asked_few p c.self.invariant.0 c.args.job m.sound v room.1)

pub overflow_sub-last : goal.overflow_sub-last
overflow_sub-last c =
    let b = c.self.inside in
    let p : Shown = the_view b in
    let q = c.args.query.value in
    let m : MayAsk p c.args.job c.args.child q = subst (λ (x : Shown). MayAsk x c.args.job c.args.child q) (sym c.self.view_is)
    c.requires.job
    in
    omega (arith, ap (λ (l : List Asked). length l) c.asked.ensures, asked_some p c.args.job c.args.child q m)

pub await_child-requires : goal.await_child-requires
await_child-requires c =
    let b = c.self.inside in
    let p : Shown = the_view b in
    let q = c.args.query.value in
    let m : MayAsk p c.args.job c.args.child q = subst (λ (x : Shown). MayAsk x c.args.job c.args.child q) (sym c.self.view_is)
    c.requires.job
    in
    omega (arith, ap (λ (l : List Asked). length l) c.asked.ensures, asked_some p c.args.job c.args.child q m)

pub waiting-requires : goal.waiting-requires
waiting-requires c =
    let b = c.self.inside in
    let p : Shown = the_view b in
    let q = c.args.query.value in
    let m : MayAsk p c.args.job c.args.child q = subst (λ (x : Shown). MayAsk x c.args.job c.args.child q) (sym c.self.view_is)
    c.requires.job
    in
    sound_here p c.self.invariant.0 c.args.job m.sound

pub ask-requires-clause-lent : goal.ask-requires-clause-lent
ask-requires-clause-lent c =
    let b = c.self.inside in
    let p : Shown = the_view b in
    let q = c.args.query.value in
    let m : MayAsk p c.args.job c.args.child q = subst (λ (x : Shown). MayAsk x c.args.job c.args.child q) (sym c.self.view_is)
    c.requires.job
    in
    let v : IsNow p.core c.args.job.id c.args.job.taken =
    subst (λ (x : Shown). IsNow x.core c.args.job.id c.args.job.taken) (sym c.self.view_is) c.in_default.ensures in
    sound_lent p c.self.invariant.0 c.args.job m.sound v c.waiting.result (c.waiting.ensures v.own v.at)

pub ask-requires-clause-room : goal.ask-requires-clause-room
ask-requires-clause-room c =
    let b = c.self.inside in
    let p : Shown = the_view b in
    let q = c.args.query.value in
    let m : MayAsk p c.args.job c.args.child q = subst (λ (x : Shown). MayAsk x c.args.job c.args.child q) (sym c.self.view_is)
    c.requires.job
    in
    let v : IsNow p.core c.args.job.id c.args.job.taken =
    subst (λ (x : Shown). IsNow x.core c.args.job.id c.args.job.taken) (sym c.self.view_is) c.in_default.ensures in
    let z : Slot = record { parent = None; level = 0; query = c.args.query; closed = None; summary = None; said = false; published = None }
    in
    let room = ask_room p b.forest.entries b.slots.items b.table.summaries b.events.items b.stopped c.args.worker c.args.job c.args.child z
    _ _ _ _ c.self.invariant.0 c.self.invariant.1 m v in
    omega (arith, room.0, c.self.invariant.1.queries)

pub push_reserved-requires : goal.push_reserved-requires
push_reserved-requires c =
    let b = c.self.inside in
    let p : Shown = the_view b in
    let q = c.args.query.value in
    let m : MayAsk p c.args.job c.args.child q = subst (λ (x : Shown). MayAsk x c.args.job c.args.child q) (sym c.self.view_is)
    c.requires.job
    in
    let v : IsNow p.core c.args.job.id c.args.job.taken =
    subst (λ (x : Shown). IsNow x.core c.args.job.id c.args.job.taken) (sym c.self.view_is) c.in_default.ensures in
    let z : Slot = record { parent = None; level = 0; query = c.args.query; closed = None; summary = None; said = false; published = None }
    in
    let room = ask_room p b.forest.entries b.slots.items b.table.summaries b.events.items b.stopped c.args.worker c.args.job c.args.child z
    _ _ _ _ c.self.invariant.0 c.self.invariant.1 m v in
    let len : length b.forest.entries ≡ length b.slots.items =
    (board_keeps p c.self.invariant.0).paired.count ∙ length-map b.slots.items node_of in
    omega (arith, room.0, c.self.invariant.1.kept, len, b.slots.ok.0)

pub push_reserved-requires-2 : goal.push_reserved-requires-2
push_reserved-requires-2 c =
    let b = c.self.inside in
    let p : Shown = the_view b in
    let q = c.args.query.value in
    let m : MayAsk p c.args.job c.args.child q = subst (λ (x : Shown). MayAsk x c.args.job c.args.child q) (sym c.self.view_is)
    c.requires.job
    in
    let v : IsNow p.core c.args.job.id c.args.job.taken =
    subst (λ (x : Shown). IsNow x.core c.args.job.id c.args.job.taken) (sym c.self.view_is) c.in_default.ensures in
    let z : Slot = record { parent = None; level = 0; query = c.args.query; closed = None; summary = None; said = false; published = None }
    in
    let len : length b.forest.entries ≡ length b.slots.items =
    (board_keeps p c.self.invariant.0).paired.count ∙ length-map b.slots.items node_of in
    let s = slot_at p b.slots.items c.self.invariant.0 refl c.args.job m.sound c.index.result.now
    (at_place b.slots.items c.args.job.id c.index.result.now
    (omega (arith, len, sound_here p c.self.invariant.0 c.args.job m.sound)) ∙ ap Some (sym c.index.ensures)) in
    let place : c.len-number.result ≡ length b.slots.items = c.len-number.ensures ∙ b.slots.ok.0 in
    let up : c.index.result.now.level + 1 ≡ suc m.sound.node.level =
    omega (arith, ap (λ (x : Node). x.level) s.0) in
    let last : length c.args.job.state.asked - 1 ≡ length c.asked.result.now - 1 =
    omega (arith, ap (λ (l : List Asked). length l) c.asked.ensures) in
    let told : c.await_child.new.self ≡ told_child (reads p.graphs) c.args.job.state c.len-number.result =
    c.await_child.ensures.seen
    ∙ ap (λ k. record c.args.job.state { asked = updated (with_child c.len-number.result news.Waiting) c.args.job.state.asked k })
    (sym last)
    in
    let went = subst (λ (y : Seen). Went (λ own. after_ask b.forest.entries own c.args.job.id c.args.job.spent y c.args.child)
    b.forest.entries
    c.ask.new.self.entries c.args.job.id) told c.in-Ok.ensures.asked.1 in
    let g = ask_on p b.forest.entries c.ask.new.self.entries b.slots.items b.table.summaries b.events.items b.stopped c.args.worker
    c.args.job c.args.child z c.len-number.result (c.index.result.now.level + 1) _ _ _ _ c.self.invariant.0 c.self.invariant.1 m v
    (place ∙ sym len) place up went in
    omega (arith, g.fits, c.self.invariant.1.happened, b.events.ok.0, told_length b.slots.items b.table.summaries b.events.items)

pub invariant_of-self : goal.invariant_of-self
invariant_of-self c =
    let b = c.self.inside in
    let p : Shown = the_view b in
    let q = c.args.query.value in
    let m : MayAsk p c.args.job c.args.child q = subst (λ (x : Shown). MayAsk x c.args.job c.args.child q) (sym c.self.view_is)
    c.requires.job
    in
    let v : IsNow p.core c.args.job.id c.args.job.taken =
    subst (λ (x : Shown). IsNow x.core c.args.job.id c.args.job.taken) (sym c.self.view_is) c.in_default.ensures in
    let z : Slot = record { parent = None; level = 0; query = c.args.query; closed = None; summary = None; said = false; published = None }
    in
    let len : length b.forest.entries ≡ length b.slots.items =
    (board_keeps p c.self.invariant.0).paired.count ∙ length-map b.slots.items node_of in
    let s = slot_at p b.slots.items c.self.invariant.0 refl c.args.job m.sound c.index.result.now
    (at_place b.slots.items c.args.job.id c.index.result.now
    (omega (arith, len, sound_here p c.self.invariant.0 c.args.job m.sound)) ∙ ap Some (sym c.index.ensures)) in
    let place : c.len-number.result ≡ length b.slots.items = c.len-number.ensures ∙ b.slots.ok.0 in
    let up : c.index.result.now.level + 1 ≡ suc m.sound.node.level =
    omega (arith, ap (λ (x : Node). x.level) s.0) in
    let last : length c.args.job.state.asked - 1 ≡ length c.asked.result.now - 1 =
    omega (arith, ap (λ (l : List Asked). length l) c.asked.ensures) in
    let told : c.await_child.new.self ≡ told_child (reads p.graphs) c.args.job.state c.len-number.result =
    c.await_child.ensures.seen
    ∙ ap (λ k. record c.args.job.state { asked = updated (with_child c.len-number.result news.Waiting) c.args.job.state.asked k })
    (sym last)
    in
    let went = subst (λ (y : Seen). Went (λ own. after_ask b.forest.entries own c.args.job.id c.args.job.spent y c.args.child)
    b.forest.entries
    c.ask.new.self.entries c.args.job.id) told c.in-Ok.ensures.asked.1 in
    let g = ask_on p b.forest.entries c.ask.new.self.entries b.slots.items b.table.summaries b.events.items b.stopped c.args.worker
    c.args.job c.args.child z c.len-number.result (c.index.result.now.level + 1) _ _ _ _ c.self.invariant.0 c.self.invariant.1 m v
    (place ∙ sym len) place up went in
    rw (c.push_reserved-2.ensures.items, c.push_reserved.ensures.items) (
      g.board,
      roomy_query p _ b.slots.items (child_slot c.args.job.id (c.index.result.now.level + 1) z) b.events.items _ _ _ _ _ _ _ _
          c.self.invariant.1 refl refl (omega (arith, place)) refl refl refl c.ask.ensures.room c.push_reserved.ensures.capacity
          c.push_reserved-2.ensures.capacity (said_stays p _ _ g (λ i. refl))
          (next_unsaid p c.self.invariant.0 (length b.slots.items) len),
      traced_quiet p c.self.invariant.0 _ _ g b.origins.items (vec_capacity b.origins) c.self.invariant.2 refl refl,
    )

pub returns-clause-asked : goal.returns-clause-asked
returns-clause-asked c =
    let b = c.self.inside in
    let p : Shown = the_view b in
    let q = c.args.query.value in
    let m : MayAsk p c.args.job c.args.child q = subst (λ (x : Shown). MayAsk x c.args.job c.args.child q) (sym c.self.view_is)
    c.requires.job
    in
    let v : IsNow p.core c.args.job.id c.args.job.taken =
    subst (λ (x : Shown). IsNow x.core c.args.job.id c.args.job.taken) (sym c.self.view_is) c.in_default.ensures in
    let z : Slot = record { parent = None; level = 0; query = c.args.query; closed = None; summary = None; said = false; published = None }
    in
    let len : length b.forest.entries ≡ length b.slots.items =
    (board_keeps p c.self.invariant.0).paired.count ∙ length-map b.slots.items node_of in
    let s = slot_at p b.slots.items c.self.invariant.0 refl c.args.job m.sound c.index.result.now
    (at_place b.slots.items c.args.job.id c.index.result.now
    (omega (arith, len, sound_here p c.self.invariant.0 c.args.job m.sound)) ∙ ap Some (sym c.index.ensures)) in
    let place : c.len-number.result ≡ length b.slots.items = c.len-number.ensures ∙ b.slots.ok.0 in
    let up : c.index.result.now.level + 1 ≡ suc m.sound.node.level =
    omega (arith, ap (λ (x : Node). x.level) s.0) in
    let last : length c.args.job.state.asked - 1 ≡ length c.asked.result.now - 1 =
    omega (arith, ap (λ (l : List Asked). length l) c.asked.ensures) in
    let told : c.await_child.new.self ≡ told_child (reads p.graphs) c.args.job.state c.len-number.result =
    c.await_child.ensures.seen
    ∙ ap (λ k. record c.args.job.state { asked = updated (with_child c.len-number.result news.Waiting) c.args.job.state.asked k })
    (sym last)
    in
    let went = subst (λ (y : Seen). Went (λ own. after_ask b.forest.entries own c.args.job.id c.args.job.spent y c.args.child)
    b.forest.entries
    c.ask.new.self.entries c.args.job.id) told c.in-Ok.ensures.asked.1 in
    let g = ask_on p b.forest.entries c.ask.new.self.entries b.slots.items b.table.summaries b.events.items b.stopped c.args.worker
    c.args.job c.args.child z c.len-number.result (c.index.result.now.level + 1) _ _ _ _ c.self.invariant.0 c.self.invariant.1 m v
    (place ∙ sym len) place up went in
    let core : Core Seen = core_of (the_view b).core.kept c.ask.new.self.entries
    (b.slots.items ++ child_slot c.args.job.id (c.index.result.now.level + 1) z ∷ []) b.table.summaries
    (b.events.items ++ stored.Ask c.args.worker c.args.job.id c.args.job.spent c.len-number.result ∷ []) b.stopped in
    rw (← c.self.view_is, c.push_reserved-2.ensures.items, c.push_reserved.ensures.items)
    (subst (λ n. Event (reads p.graphs) p.core (asked c.args.worker c.args.job.id c.args.job.spent n q) core) (place ∙ sym len) g.event)

pub returns-clause-stored : goal.returns-clause-stored
returns-clause-stored c =
    let b = c.self.inside in
    let p : Shown = the_view b in
    let len : length b.forest.entries ≡ length b.slots.items =
    (board_keeps p c.self.invariant.0).paired.count ∙ length-map b.slots.items node_of in
    let place : c.len-number.result ≡ length b.forest.entries = c.len-number.ensures ∙ b.slots.ok.0 ∙ sym len in
    let last : length c.args.job.state.asked - 1 ≡ length c.asked.result.now - 1 =
    omega (arith, ap (λ (l : List Asked). length l) c.asked.ensures) in
    let told : c.await_child.new.self ≡ told_child (reads p.graphs) c.args.job.state c.len-number.result =
    c.await_child.ensures.seen
    ∙ ap (λ k. record c.args.job.state { asked = updated (with_child c.len-number.result news.Waiting) c.args.job.state.asked k })
    (sym last)
    in
    let k = ask_stores b.forest.entries c.ask.new.self.entries c.args.job.id c.args.job.spent c.await_child.new.self c.args.child
    c.in-Ok.ensures.asked.1 in
    rw (← c.self.view_is) (record {
      own = k.0;
      at = k.1;
      payload = k.2 ∙ ap Some (told ∙ ap (λ n. told_child (reads p.graphs) c.args.job.state n) place);
    })
