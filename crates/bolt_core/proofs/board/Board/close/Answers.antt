use Rattle.std.proofs.Common.{◌≡◌, ◌+◌, ◌-◌, ◌<◌, ◌++◌, List, Some, length, map, take, drop, refl, sym, ap, ◌∙◌, subst, arith}
use Rattle.std.proofs.lemmas.List.{length-append, length-map, take_at}
use Rattle.std.specs.Prelude.{slice_get, vec_capacity}
use Rattle.query_tree.specs.Forest.{changed}
use Rattle.query_tree.proofs.Lists.{at_place}
use Rattle.summary_form.specs.declared.summary.Summary.{Summary}
use Rattle.bolt_core.specs.declared.slot.Slot.{Slot}
use Rattle.bolt_core.specs.Boards.{IsClosedBy, MayBeClosed, Shown, core_of, node_of}
use Rattle.bolt_core.specs.Keeps.{IsNow}
use Rattle.bolt_core.specs.contracts.board.Board.{the_view}
use Rattle.bolt_core.proofs.BoardKeeps.{board_keeps}
use Rattle.bolt_core.proofs.ClosesOn.{close_goes, close_group, close_is, close_room, close_settles, ids_fit, roomy_close, traced_close}
use Rattle.bolt_core.proofs.Going.{board_queries, most_small, said_stays, summaries_small, told_length}
use Rattle.bolt_core.proofs.Parking.{sound_here, sound_lent}
use Rattle.bolt_core.specs.steps.Closes.{appended_by, closed_as, settled_slot, value_of}
use Rattle.bolt_core.proofs.Storing.{close_stores}
use Rattle.bolt_core.proofs.board.Board.close.Goals as goal

pub ended-requires-clause-here : goal.ended-requires-clause-here
ended-requires-clause-here c =
    let b = c.self.inside in
    let p : Shown = the_view b in
    let m : MayBeClosed p c.args.job c.args.how = subst (λ (x : Shown). MayBeClosed x c.args.job c.args.how) (sym c.self.view_is)
    c.requires.job in
    subst (λ (x : Shown). c.args.job.id < length x.core.entries) c.self.view_is (sound_here p c.self.invariant.0 c.args.job m.sound)

pub index-requires : goal.index-requires
index-requires c =
    let b = c.self.inside in
    let p : Shown = the_view b in
    let m : MayBeClosed p c.args.job c.args.how = subst (λ (x : Shown). MayBeClosed x c.args.job c.args.how) (sym c.self.view_is)
    c.requires.job in
    let len : length b.forest.entries ≡ length b.slots.items =
    (board_keeps p c.self.invariant.0).paired.count ∙ length-map b.slots.items node_of in
    omega (arith, len, sound_here p c.self.invariant.0 c.args.job m.sound, b.slots.ok.0)

pub waiting-requires : goal.waiting-requires
waiting-requires c =
    let b = c.self.inside in
    let p : Shown = the_view b in
    let m : MayBeClosed p c.args.job c.args.how = subst (λ (x : Shown). MayBeClosed x c.args.job c.args.how) (sym c.self.view_is)
    c.requires.job in
    sound_here p c.self.invariant.0 c.args.job m.sound

pub close-requires-clause-lent : goal.close-requires-clause-lent
close-requires-clause-lent c =
    let b = c.self.inside in
    let p : Shown = the_view b in
    let m : MayBeClosed p c.args.job c.args.how = subst (λ (x : Shown). MayBeClosed x c.args.job c.args.how) (sym c.self.view_is)
    c.requires.job in
    let v : IsNow p.core c.args.job.id c.args.job.taken =
    subst (λ (x : Shown). IsNow x.core c.args.job.id c.args.job.taken) (sym c.self.view_is) c.in_default.ensures in
    sound_lent p c.self.invariant.0 c.args.job m.sound v c.waiting.result (c.waiting.ensures v.own v.at)

pub overflow_cast-from : goal.overflow_cast-from
overflow_cast-from c =
    let b = c.self.inside in
    let p : Shown = the_view b in
    let m : MayBeClosed p c.args.job c.args.how = subst (λ (x : Shown). MayBeClosed x c.args.job c.args.how) (sym c.self.view_is)
    c.requires.job in
    let v : IsNow p.core c.args.job.id c.args.job.taken =
    subst (λ (x : Shown). IsNow x.core c.args.job.id c.args.job.taken) (sym c.self.view_is) c.in_default.ensures in
    let len : length b.forest.entries ≡ length b.slots.items =
    (board_keeps p c.self.invariant.0).paired.count ∙ length-map b.slots.items node_of in
    let own : Slot = c.index.result.now in
    let at : slice_get b.slots.items c.args.job.id ≡ Some own =
    at_place b.slots.items c.args.job.id own (omega (arith, len, sound_here p c.self.invariant.0 c.args.job m.sound))
    ∙ ap Some (sym c.index.ensures) in
    let is = c.closed_as-closed.ensures ∙ ap (λ l. closed_as own.level l c.args.how) c.lowest.ensures in
    let here : c.len-place.result ≡ length b.events.items = c.len-place.ensures ∙ b.events.ok.0 in
    let from : length c.all.result.now ≡ length b.table.summaries =
    sym (length-map c.all.result.now (λ s. s.value)) ∙ ap (λ (l : List Summary). length l) c.all.ensures in
    let more : List Summary = appended_by (map node_of b.slots.items) c.args.job.id own.level own.query.value c.closed_as-closed.result
    (value_of c.args.summary) in
    let room = close_room p b.forest.entries b.slots.items b.table.summaries b.events.items b.stopped c.self.invariant.0 _ _ _ _
    c.self.invariant.1 c.args.worker c.args.job c.args.how m v own at c.closed_as-closed.result is c.args.summary c.requires.summary
    c.len-place.result here in
    omega (arith, from, room.0, length-append b.table.summaries more, summaries_small p c.self.invariant.0)

pub settle-requires : goal.settle-requires
settle-requires c =
    let b = c.self.inside in
    let p : Shown = the_view b in
    let m : MayBeClosed p c.args.job c.args.how = subst (λ (x : Shown). MayBeClosed x c.args.job c.args.how) (sym c.self.view_is)
    c.requires.job in
    let v : IsNow p.core c.args.job.id c.args.job.taken =
    subst (λ (x : Shown). IsNow x.core c.args.job.id c.args.job.taken) (sym c.self.view_is) c.in_default.ensures in
    let len : length b.forest.entries ≡ length b.slots.items =
    (board_keeps p c.self.invariant.0).paired.count ∙ length-map b.slots.items node_of in
    let own : Slot = c.index.result.now in
    let at : slice_get b.slots.items c.args.job.id ≡ Some own =
    at_place b.slots.items c.args.job.id own (omega (arith, len, sound_here p c.self.invariant.0 c.args.job m.sound))
    ∙ ap Some (sym c.index.ensures) in
    let is = c.closed_as-closed.ensures ∙ ap (λ l. closed_as own.level l c.args.how) c.lowest.ensures in
    let here : c.len-place.result ≡ length b.events.items = c.len-place.ensures ∙ b.events.ok.0 in
    rw c.deref_mut.ensures.value (
      close_group p b.forest.entries b.slots.items b.table.summaries b.events.items b.stopped c.self.invariant.0 _ _ _ _
          c.self.invariant.1 c.args.worker c.args.job c.args.how m v own at c.closed_as-closed.result is c.args.summary c.requires.summary
          c.len-place.result here,
      (
        omega (arith, len, board_queries p c.self.invariant.0, most_small p c.self.invariant.0),
        (
          refl,
          (
            close_settles p b.forest.entries b.slots.items b.table.summaries b.events.items b.stopped c.self.invariant.0 _ _ _ _
                c.self.invariant.1 c.args.worker c.args.job c.args.how m v own at c.closed_as-closed.result is c.args.summary
                c.requires.summary c.len-place.result here,
            ids_fit p b.forest.entries b.slots.items b.table.summaries b.events.items b.stopped c.self.invariant.0 _ _ _ _
                c.self.invariant.1 c.args.worker c.args.job c.args.how m v own at c.closed_as-closed.result is c.args.summary
                c.requires.summary c.len-place.result here b.origins.items (vec_capacity b.origins) c.self.invariant.2,
          ),
        ),
      ),
    )

pub overflow_cast-more : goal.overflow_cast-more
overflow_cast-more c =
    let b = c.self.inside in
    let p : Shown = the_view b in
    let m : MayBeClosed p c.args.job c.args.how = subst (λ (x : Shown). MayBeClosed x c.args.job c.args.how) (sym c.self.view_is)
    c.requires.job in
    let v : IsNow p.core c.args.job.id c.args.job.taken =
    subst (λ (x : Shown). IsNow x.core c.args.job.id c.args.job.taken) (sym c.self.view_is) c.in_default.ensures in
    let len : length b.forest.entries ≡ length b.slots.items =
    (board_keeps p c.self.invariant.0).paired.count ∙ length-map b.slots.items node_of in
    let own : Slot = c.index.result.now in
    let at : slice_get b.slots.items c.args.job.id ≡ Some own =
    at_place b.slots.items c.args.job.id own (omega (arith, len, sound_here p c.self.invariant.0 c.args.job m.sound))
    ∙ ap Some (sym c.index.ensures) in
    let is = c.closed_as-closed.ensures ∙ ap (λ l. closed_as own.level l c.args.how) c.lowest.ensures in
    let here : c.len-place.result ≡ length b.events.items = c.len-place.ensures ∙ b.events.ok.0 in
    let from : length c.all.result.now ≡ length b.table.summaries =
    sym (length-map c.all.result.now (λ s. s.value)) ∙ ap (λ (l : List Summary). length l) c.all.ensures in
    let more : List Summary = appended_by (map node_of b.slots.items) c.args.job.id own.level own.query.value c.closed_as-closed.result
    (value_of c.args.summary) in
    let room = close_room p b.forest.entries b.slots.items b.table.summaries b.events.items b.stopped c.self.invariant.0 _ _ _ _
    c.self.invariant.1 c.args.worker c.args.job c.args.how m v own at c.closed_as-closed.result is c.args.summary c.requires.summary
    c.len-place.result here in
    let table : c.settle.new.table.summaries ≡ b.table.summaries ++ more =
    (rw c.deref_mut.ensures.value at c.settle.ensures.table) own at in
    let count : length c.all-2.result.now ≡ length c.settle.new.table.summaries =
    sym (length-map c.all-2.result.now (λ s. s.value)) ∙ ap (λ (l : List Summary). length l) c.all-2.ensures in
    let size : length c.settle.new.table.summaries ≡ length b.table.summaries + length more =
    ap (λ (l : List Summary). length l) table ∙ length-append b.table.summaries more in
    omega (arith, count, size, room.0, length-append b.table.summaries more, summaries_small p c.self.invariant.0)

pub overflow_sub-more : goal.overflow_sub-more
overflow_sub-more c =
    let b = c.self.inside in
    let p : Shown = the_view b in
    let m : MayBeClosed p c.args.job c.args.how = subst (λ (x : Shown). MayBeClosed x c.args.job c.args.how) (sym c.self.view_is)
    c.requires.job in
    let v : IsNow p.core c.args.job.id c.args.job.taken =
    subst (λ (x : Shown). IsNow x.core c.args.job.id c.args.job.taken) (sym c.self.view_is) c.in_default.ensures in
    let len : length b.forest.entries ≡ length b.slots.items =
    (board_keeps p c.self.invariant.0).paired.count ∙ length-map b.slots.items node_of in
    let own : Slot = c.index.result.now in
    let at : slice_get b.slots.items c.args.job.id ≡ Some own =
    at_place b.slots.items c.args.job.id own (omega (arith, len, sound_here p c.self.invariant.0 c.args.job m.sound))
    ∙ ap Some (sym c.index.ensures) in
    let is = c.closed_as-closed.ensures ∙ ap (λ l. closed_as own.level l c.args.how) c.lowest.ensures in
    let here : c.len-place.result ≡ length b.events.items = c.len-place.ensures ∙ b.events.ok.0 in
    let from : length c.all.result.now ≡ length b.table.summaries =
    sym (length-map c.all.result.now (λ s. s.value)) ∙ ap (λ (l : List Summary). length l) c.all.ensures in
    let more : List Summary = appended_by (map node_of b.slots.items) c.args.job.id own.level own.query.value c.closed_as-closed.result
    (value_of c.args.summary) in
    let room = close_room p b.forest.entries b.slots.items b.table.summaries b.events.items b.stopped c.self.invariant.0 _ _ _ _
    c.self.invariant.1 c.args.worker c.args.job c.args.how m v own at c.closed_as-closed.result is c.args.summary c.requires.summary
    c.len-place.result here in
    let table : c.settle.new.table.summaries ≡ b.table.summaries ++ more =
    (rw c.deref_mut.ensures.value at c.settle.ensures.table) own at in
    let count : length c.all-2.result.now ≡ length c.settle.new.table.summaries =
    sym (length-map c.all-2.result.now (λ s. s.value)) ∙ ap (λ (l : List Summary). length l) c.all-2.ensures in
    let size : length c.settle.new.table.summaries ≡ length b.table.summaries + length more =
    ap (λ (l : List Summary). length l) table ∙ length-append b.table.summaries more in
    omega (arith, count, size, from)

pub push_reserved-requires : goal.push_reserved-requires
push_reserved-requires c =
    let b = c.self.inside in
    let p : Shown = the_view b in
    let m : MayBeClosed p c.args.job c.args.how = subst (λ (x : Shown). MayBeClosed x c.args.job c.args.how) (sym c.self.view_is)
    c.requires.job in
    let v : IsNow p.core c.args.job.id c.args.job.taken =
    subst (λ (x : Shown). IsNow x.core c.args.job.id c.args.job.taken) (sym c.self.view_is) c.in_default.ensures in
    let len : length b.forest.entries ≡ length b.slots.items =
    (board_keeps p c.self.invariant.0).paired.count ∙ length-map b.slots.items node_of in
    let own : Slot = c.index.result.now in
    let at : slice_get b.slots.items c.args.job.id ≡ Some own =
    at_place b.slots.items c.args.job.id own (omega (arith, len, sound_here p c.self.invariant.0 c.args.job m.sound))
    ∙ ap Some (sym c.index.ensures) in
    let is = c.closed_as-closed.ensures ∙ ap (λ l. closed_as own.level l c.args.how) c.lowest.ensures in
    let here : c.len-place.result ≡ length b.events.items = c.len-place.ensures ∙ b.events.ok.0 in
    let room = close_room p b.forest.entries b.slots.items b.table.summaries b.events.items b.stopped c.self.invariant.0 _ _ _ _
    c.self.invariant.1 c.args.worker c.args.job c.args.how m v own at c.closed_as-closed.result is c.args.summary c.requires.summary
    c.len-place.result here in
    omega (arith, room.1, c.self.invariant.1.happened, b.events.ok.0, told_length b.slots.items b.table.summaries b.events.items)

pub invariant_of-self : goal.invariant_of-self
invariant_of-self c =
    let b = c.self.inside in
    let p : Shown = the_view b in
    let m : MayBeClosed p c.args.job c.args.how = subst (λ (x : Shown). MayBeClosed x c.args.job c.args.how) (sym c.self.view_is)
    c.requires.job in
    let v : IsNow p.core c.args.job.id c.args.job.taken =
    subst (λ (x : Shown). IsNow x.core c.args.job.id c.args.job.taken) (sym c.self.view_is) c.in_default.ensures in
    let len : length b.forest.entries ≡ length b.slots.items =
    (board_keeps p c.self.invariant.0).paired.count ∙ length-map b.slots.items node_of in
    let own : Slot = c.index.result.now in
    let at : slice_get b.slots.items c.args.job.id ≡ Some own =
    at_place b.slots.items c.args.job.id own (omega (arith, len, sound_here p c.self.invariant.0 c.args.job m.sound))
    ∙ ap Some (sym c.index.ensures) in
    let is = c.closed_as-closed.ensures ∙ ap (λ l. closed_as own.level l c.args.how) c.lowest.ensures in
    let here : c.len-place.result ≡ length b.events.items = c.len-place.ensures ∙ b.events.ok.0 in
    let from : length c.all.result.now ≡ length b.table.summaries =
    sym (length-map c.all.result.now (λ s. s.value)) ∙ ap (λ (l : List Summary). length l) c.all.ensures in
    let more : List Summary = appended_by (map node_of b.slots.items) c.args.job.id own.level own.query.value c.closed_as-closed.result
    (value_of c.args.summary) in
    let room = close_room p b.forest.entries b.slots.items b.table.summaries b.events.items b.stopped c.self.invariant.0 _ _ _ _
    c.self.invariant.1 c.args.worker c.args.job c.args.how m v own at c.closed_as-closed.result is c.args.summary c.requires.summary
    c.len-place.result here in
    let table : c.settle.new.table.summaries ≡ b.table.summaries ++ more =
    (rw c.deref_mut.ensures.value at c.settle.ensures.table) own at in
    let count : length c.all-2.result.now ≡ length c.settle.new.table.summaries =
    sym (length-map c.all-2.result.now (λ s. s.value)) ∙ ap (λ (l : List Summary). length l) c.all-2.ensures in
    let size : length c.settle.new.table.summaries ≡ length b.table.summaries + length more =
    ap (λ (l : List Summary). length l) table ∙ length-append b.table.summaries more in
    let are : c.settle.new.slots ≡
    changed (settled_slot (map node_of b.slots.items) c.args.job.id own.level c.closed_as-closed.result c.args.summary c.len-place.result)
    b.slots.items =
    rw c.deref_mut.ensures.value at c.settle.ensures.slots in
    let total : length c.all.result.now + (length c.all-2.result.now - length c.all.result.now) ≡ length c.settle.new.table.summaries =
    omega (arith, count, size, from) in
    let taken : take b.slots.len (c.settle.new.slots ++ drop (length c.settle.new.slots) b.slots.items) ≡ c.settle.new.slots =
    take_at c.settle.new.slots (drop (length c.settle.new.slots) b.slots.items) b.slots.len
    (omega (arith, b.slots.ok.0, c.settle.auto.slots, c.deref_mut.ensures.len)) in
    let went = c.in-Ok.ensures.closed in
    let g = close_goes p b.forest.entries b.slots.items b.table.summaries b.events.items b.stopped c.self.invariant.0 _ _ _ _
    c.self.invariant.1 c.args.worker c.args.job c.args.how m v own at c.closed_as-closed.result is c.args.summary c.requires.summary
    c.len-place.result here c.settle.new.slots are c.settle.new.table.summaries table c.push_reserved.new.self.items
    (length c.all.result.now) (length c.all-2.result.now - length c.all.result.now) from total
    c.push_reserved.ensures.items c.close.new.self.entries went in
    rw taken (
      g.board,
      roomy_close p b.forest.entries b.slots.items b.table.summaries b.events.items b.stopped c.self.invariant.0 _ _ _ _
          c.self.invariant.1 c.args.worker c.args.job c.args.how m v own at c.closed_as-closed.result is c.args.summary c.requires.summary
          c.len-place.result here c.settle.new.slots are c.settle.new.table.summaries table c.push_reserved.new.self.items
          (length c.all.result.now) (length c.all-2.result.now - length c.all.result.now) from total c.push_reserved.ensures.items
          _ _ _ _ _ refl refl c.close.ensures.room c.settle.ensures.room (omega arith) c.push_reserved.ensures.capacity
          (said_stays p _ _ g (λ j. refl)),
      traced_close p b.forest.entries b.slots.items b.table.summaries b.events.items b.stopped c.self.invariant.0 _ _ _ _
          c.self.invariant.1 c.args.worker c.args.job c.args.how m v own at c.closed_as-closed.result is c.args.summary c.requires.summary
          c.len-place.result here c.settle.new.slots are c.settle.new.table.summaries table c.push_reserved.new.self.items
          (length c.all.result.now) (length c.all-2.result.now - length c.all.result.now) from total c.push_reserved.ensures.items
          c.close.new.self.entries went b.origins.items (vec_capacity b.origins) (vec_capacity c.settle.new.origins) c.self.invariant.2
          c.settle.new.origins.items (rw c.deref_mut.ensures.value at c.settle.ensures.origins) c.settle.ensures.space,
    )

pub returns-clause-closed : goal.returns-clause-closed
returns-clause-closed c =
    let b = c.self.inside in
    let p : Shown = the_view b in
    let m : MayBeClosed p c.args.job c.args.how = subst (λ (x : Shown). MayBeClosed x c.args.job c.args.how) (sym c.self.view_is)
    c.requires.job in
    let v : IsNow p.core c.args.job.id c.args.job.taken =
    subst (λ (x : Shown). IsNow x.core c.args.job.id c.args.job.taken) (sym c.self.view_is) c.in_default.ensures in
    let len : length b.forest.entries ≡ length b.slots.items =
    (board_keeps p c.self.invariant.0).paired.count ∙ length-map b.slots.items node_of in
    let own : Slot = c.index.result.now in
    let at : slice_get b.slots.items c.args.job.id ≡ Some own =
    at_place b.slots.items c.args.job.id own (omega (arith, len, sound_here p c.self.invariant.0 c.args.job m.sound))
    ∙ ap Some (sym c.index.ensures) in
    let is = c.closed_as-closed.ensures ∙ ap (λ l. closed_as own.level l c.args.how) c.lowest.ensures in
    let here : c.len-place.result ≡ length b.events.items = c.len-place.ensures ∙ b.events.ok.0 in
    let from : length c.all.result.now ≡ length b.table.summaries =
    sym (length-map c.all.result.now (λ s. s.value)) ∙ ap (λ (l : List Summary). length l) c.all.ensures in
    let more : List Summary = appended_by (map node_of b.slots.items) c.args.job.id own.level own.query.value c.closed_as-closed.result
    (value_of c.args.summary) in
    let room = close_room p b.forest.entries b.slots.items b.table.summaries b.events.items b.stopped c.self.invariant.0 _ _ _ _
    c.self.invariant.1 c.args.worker c.args.job c.args.how m v own at c.closed_as-closed.result is c.args.summary c.requires.summary
    c.len-place.result here in
    let table : c.settle.new.table.summaries ≡ b.table.summaries ++ more =
    (rw c.deref_mut.ensures.value at c.settle.ensures.table) own at in
    let count : length c.all-2.result.now ≡ length c.settle.new.table.summaries =
    sym (length-map c.all-2.result.now (λ s. s.value)) ∙ ap (λ (l : List Summary). length l) c.all-2.ensures in
    let size : length c.settle.new.table.summaries ≡ length b.table.summaries + length more =
    ap (λ (l : List Summary). length l) table ∙ length-append b.table.summaries more in
    let are : c.settle.new.slots ≡
    changed (settled_slot (map node_of b.slots.items) c.args.job.id own.level c.closed_as-closed.result c.args.summary c.len-place.result)
    b.slots.items =
    rw c.deref_mut.ensures.value at c.settle.ensures.slots in
    let total : length c.all.result.now + (length c.all-2.result.now - length c.all.result.now) ≡ length c.settle.new.table.summaries =
    omega (arith, count, size, from) in
    let taken : take b.slots.len (c.settle.new.slots ++ drop (length c.settle.new.slots) b.slots.items) ≡ c.settle.new.slots =
    take_at c.settle.new.slots (drop (length c.settle.new.slots) b.slots.items) b.slots.len
    (omega (arith, b.slots.ok.0, c.settle.auto.slots, c.deref_mut.ensures.len)) in
    let went = c.in-Ok.ensures.closed in
    subst (λ (x : Shown). IsClosedBy x c.args.worker c.args.job c.args.how (record p {
      core = core_of (the_view b).core.kept c.close.new.self.entries
          (take b.slots.len (c.settle.new.slots ++ drop (length c.settle.new.slots) b.slots.items))
          c.settle.new.table.summaries c.push_reserved.new.self.items b.stopped;
    })) c.self.view_is
    (subst (λ (l : List Slot). IsClosedBy p c.args.worker c.args.job c.args.how (record p {
      core = core_of (the_view b).core.kept c.close.new.self.entries l c.settle.new.table.summaries c.push_reserved.new.self.items
          b.stopped;
    })) (sym taken) (close_is p b.forest.entries b.slots.items b.table.summaries b.events.items b.stopped c.self.invariant.0 _ _ _ _
    c.self.invariant.1 c.args.worker c.args.job c.args.how m v own at c.closed_as-closed.result is c.args.summary c.requires.summary
    c.len-place.result here c.settle.new.slots are c.settle.new.table.summaries table c.push_reserved.new.self.items
    (length c.all.result.now) (length c.all-2.result.now - length c.all.result.now) from total
    c.push_reserved.ensures.items c.close.new.self.entries went))

pub returns-clause-stored : goal.returns-clause-stored
returns-clause-stored c =
    let k = close_stores c.self.inside.forest.entries c.close.new.self.entries c.args.job.id c.args.job.spent c.args.job.state
    c.len-place.result c.in-Ok.ensures.closed in
    record { own = k.0; at = k.1; payload = k.2 }
