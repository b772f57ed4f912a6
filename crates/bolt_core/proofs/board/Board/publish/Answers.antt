use Rattle.std.proofs.Common.{◌≡◌, ◌<◌, List, [], ◌∷◌, length, Some, refl, sym, ap, ◌∙◌, subst, arith}
use Rattle.std.specs.Prelude.{slice_get, vec_capacity}
use Rattle.std.proofs.lemmas.List.{length-map, length_push}
use Rattle.summary_form.specs.declared.summary.Summary.{Summary}
use Rattle.query_tree.proofs.Lists.{present, within}
use Rattle.bolt_core.specs.Boards.{MayBeSaid, Shown}
use Rattle.bolt_core.specs.Groups.{Node}
use Rattle.summary_table.specs.Tables.{exit_of, proc_of}
use Rattle.bolt_core.specs.Machine.{HoldsBy}
use Rattle.bolt_core.specs.States.{reads}
use Rattle.bolt_core.specs.contracts.board.Board.{the_view}
use Rattle.bolt_core.proofs.BoardKeeps.{board_keeps}
use Rattle.bolt_core.proofs.Numbered.{board_numbered, numbered_of}
use Rattle.bolt_core.proofs.Going.{summaries_small, told_length}
use Rattle.bolt_core.proofs.Saying.{marked_is, say_goes, say_is, say_on, say_room, say_roomy, slot_here}
use Rattle.bolt_core.proofs.Tracing.{traced_more}
use Rattle.bolt_core.proofs.board.Board.publish.Goals as goal

pub may_say-requires : goal.may_say-requires
may_say-requires c =
    let b = c.self.inside in
    let p : Shown = the_view b in
    let k = board_keeps p c.self.invariant.0 in
    let lt = subst (λ (x : Shown). c.args.gone.now.job.id < length x.core.nodes) (sym c.self.view_is) c.requires.here in
    subst (λ (x : Shown). c.args.gone.now.job.id < length x.core.entries) c.self.view_is (omega (arith, lt, k.paired.count))

pub overflow_cast-place : goal.overflow_cast-place
overflow_cast-place c =
    let b = c.self.inside in
    let p : Shown = the_view b in
    let m = subst (λ (x : Shown). MayBeSaid x c.args.gone.now.job.id) (sym c.self.view_is) (c.if-not-may_say.ensures.yes refl) in
    let q = c.args.summary.value in
    let holds = subst (λ (x : Shown). HoldsBy (reads x.graphs) q) (sym c.self.view_is) c.requires.holds in
    let fits = subst (λ (x : Shown). (n : Node) → slice_get x.core.nodes c.args.gone.now.job.id ≡ Some n →
    (proc_of q ≡ n.query.proc) × (exit_of q ≡ n.query.exit)) (sym c.self.view_is) c.requires.fits in
    let room = say_room p b.forest.entries b.slots.items b.table.summaries b.events.items b.stopped c.self.invariant.0 _ _ _ _
    c.self.invariant.1 c.args.gone.now.job.id c.args.worker q m holds fits in
    let last : length c.all.result.now ≡ length b.table.summaries =
    sym (length-map c.all.result.now (λ s. s.value)) ∙ ap (λ (l : List Summary). length l) c.all.ensures in
    omega (arith, last, room, summaries_small p c.self.invariant.0)

pub push-requires-clause-numbers : goal.push-requires-clause-numbers
push-requires-clause-numbers c =
    let p : Shown = the_view c.self.inside in
    let i = c.args.gone.now.job.id in
    let q = c.args.summary.value in
    let fits = subst (λ (x : Shown). (n : Node) → slice_get x.core.nodes i ≡ Some n →
    (proc_of q ≡ n.query.proc) × (exit_of q ≡ n.query.exit)) (sym c.self.view_is) c.requires.fits in
    let low = subst (λ (x : Shown). i < length x.core.nodes) (sym c.self.view_is) c.requires.here in
    let n = present p.core.nodes i low in
    let own = fits n.0 n.1 in
    numbered_of n.0.query q (board_numbered p c.self.invariant.0 i n.0 n.1) own.0 own.1

pub push-requires-clause-room : goal.push-requires-clause-room
push-requires-clause-room c =
    let b = c.self.inside in
    let p : Shown = the_view b in
    let m = subst (λ (x : Shown). MayBeSaid x c.args.gone.now.job.id) (sym c.self.view_is) (c.if-not-may_say.ensures.yes refl) in
    let q = c.args.summary.value in
    let holds = subst (λ (x : Shown). HoldsBy (reads x.graphs) q) (sym c.self.view_is) c.requires.holds in
    let fits = subst (λ (x : Shown). (n : Node) → slice_get x.core.nodes c.args.gone.now.job.id ≡ Some n →
    (proc_of q ≡ n.query.proc) × (exit_of q ≡ n.query.exit)) (sym c.self.view_is) c.requires.fits in
    let room = say_room p b.forest.entries b.slots.items b.table.summaries b.events.items b.stopped c.self.invariant.0 _ _ _ _
    c.self.invariant.1 c.args.gone.now.job.id c.args.worker q m holds fits in
    omega (arith, room, c.self.invariant.1.summaries)

pub push_reserved-requires : goal.push_reserved-requires
push_reserved-requires c =
    let b = c.self.inside in
    let p : Shown = the_view b in
    let m = subst (λ (x : Shown). MayBeSaid x c.args.gone.now.job.id) (sym c.self.view_is) (c.if-not-may_say.ensures.yes refl) in
    let q = c.args.summary.value in
    let holds = subst (λ (x : Shown). HoldsBy (reads x.graphs) q) (sym c.self.view_is) c.requires.holds in
    let fits = subst (λ (x : Shown). (n : Node) → slice_get x.core.nodes c.args.gone.now.job.id ≡ Some n →
    (proc_of q ≡ n.query.proc) × (exit_of q ≡ n.query.exit)) (sym c.self.view_is) c.requires.fits in
    let g = say_on p b.forest.entries b.slots.items b.table.summaries b.events.items b.stopped c.self.invariant.0 _ _ _ _
    c.self.invariant.1 c.args.gone.now.job.id c.args.worker q m holds fits in
    omega (arith, g.fits, c.self.invariant.1.happened, b.events.ok.0, told_length b.slots.items b.table.summaries b.events.items)

pub push_reserved-requires-2 : goal.push_reserved-requires-2
push_reserved-requires-2 c =
    let b = c.self.inside in
    let p : Shown = the_view b in
    let m = subst (λ (x : Shown). MayBeSaid x c.args.gone.now.job.id) (sym c.self.view_is) (c.if-not-may_say.ensures.yes refl) in
    let q = c.args.summary.value in
    let holds = subst (λ (x : Shown). HoldsBy (reads x.graphs) q) (sym c.self.view_is) c.requires.holds in
    let fits = subst (λ (x : Shown). (n : Node) → slice_get x.core.nodes c.args.gone.now.job.id ≡ Some n →
    (proc_of q ≡ n.query.proc) × (exit_of q ≡ n.query.exit)) (sym c.self.view_is) c.requires.fits in
    let room = say_room p b.forest.entries b.slots.items b.table.summaries b.events.items b.stopped c.self.invariant.0 _ _ _ _
    c.self.invariant.1 c.args.gone.now.job.id c.args.worker q m holds fits in
    omega (arith, room, c.self.invariant.2.count, c.self.invariant.2.fits, b.origins.ok.0)

pub invariant_of-self : goal.invariant_of-self
invariant_of-self c =
    let b = c.self.inside in
    let p : Shown = the_view b in
    let i = c.args.gone.now.job.id in
    let m = subst (λ (x : Shown). MayBeSaid x i) (sym c.self.view_is) (c.if-not-may_say.ensures.yes refl) in
    let q = c.args.summary.value in
    let holds = subst (λ (x : Shown). HoldsBy (reads x.graphs) q) (sym c.self.view_is) c.requires.holds in
    let fits = subst (λ (x : Shown). (n : Node) → slice_get x.core.nodes i ≡ Some n →
    (proc_of q ≡ n.query.proc) × (exit_of q ≡ n.query.exit)) (sym c.self.view_is) c.requires.fits in
    let last : length c.all.result.now ≡ length b.table.summaries =
    sym (length-map c.all.result.now (λ s. s.value)) ∙ ap (λ (l : List Summary). length l) c.all.ensures in
    let here = slot_here p b.forest.entries b.slots.items b.table.summaries b.events.items b.stopped c.self.invariant.0 _ _ _ _
    c.self.invariant.1 i (within b.forest.entries i m.own m.at) in
    let are = marked_is p b.forest.entries b.slots.items b.table.summaries b.events.items b.stopped c.self.invariant.0 _ _ _ _
    c.self.invariant.1 i here c.index_mut.result.now c.index_mut.ensures.value in
    let g = say_goes p b.forest.entries b.slots.items b.table.summaries b.events.items b.stopped c.self.invariant.0 _ _ _ _
    c.self.invariant.1 i c.args.worker q m holds fits _ are c.push.new.self.summaries c.push.ensures.summaries
    c.push_reserved.new.self.items (length c.all.result.now) last c.push_reserved.ensures.items in (
      g.board,
      say_roomy p b.forest.entries b.slots.items b.table.summaries b.events.items b.stopped c.self.invariant.0 _ _ _ _
          c.self.invariant.1 i c.args.worker q m holds fits _ are c.push.new.self.summaries c.push.ensures.summaries
          c.push_reserved.new.self.items (length c.all.result.now) last c.push_reserved.ensures.items _ _ c.push.ensures.room
          c.push_reserved.ensures.capacity,
      traced_more p c.self.invariant.0 _ _ g b.origins.items (i ∷ []) (vec_capacity b.origins) (vec_capacity c.push_reserved-2.new.self)
          c.self.invariant.2 refl
          (omega (
            arith,
            ap (λ (l : List Summary). length l) c.push.ensures.summaries,
            length_push b.table.summaries q,
          ))
          c.push_reserved-2.new.self.items c.push_reserved-2.ensures.items c.push_reserved-2.ensures.capacity,
    )

pub returns-clause-published : goal.returns-clause-published
returns-clause-published c =
    let b = c.self.inside in
    let p : Shown = the_view b in
    let i = c.args.gone.now.job.id in
    let m = subst (λ (x : Shown). MayBeSaid x i) (sym c.self.view_is) (c.if-not-may_say.ensures.yes refl) in
    let q = c.args.summary.value in
    let holds = subst (λ (x : Shown). HoldsBy (reads x.graphs) q) (sym c.self.view_is) c.requires.holds in
    let fits = subst (λ (x : Shown). (n : Node) → slice_get x.core.nodes i ≡ Some n →
    (proc_of q ≡ n.query.proc) × (exit_of q ≡ n.query.exit)) (sym c.self.view_is) c.requires.fits in
    let last : length c.all.result.now ≡ length b.table.summaries =
    sym (length-map c.all.result.now (λ s. s.value)) ∙ ap (λ (l : List Summary). length l) c.all.ensures in
    let here = slot_here p b.forest.entries b.slots.items b.table.summaries b.events.items b.stopped c.self.invariant.0 _ _ _ _
    c.self.invariant.1 i (within b.forest.entries i m.own m.at) in
    let are = marked_is p b.forest.entries b.slots.items b.table.summaries b.events.items b.stopped c.self.invariant.0 _ _ _ _
    c.self.invariant.1 i here c.index_mut.result.now c.index_mut.ensures.value in
    say_is p b.forest.entries b.slots.items b.table.summaries b.events.items b.stopped c.self.invariant.0 _ _ _ _
    c.self.invariant.1 i c.args.worker q m holds fits _ are c.push.new.self.summaries c.push.ensures.summaries
    c.push_reserved.new.self.items (length c.all.result.now) last c.push_reserved.ensures.items c.args.self.now c.self.view_is
