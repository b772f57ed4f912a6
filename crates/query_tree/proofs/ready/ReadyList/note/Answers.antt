use Rattle.std.proofs.Common.{◌<◌, length, ap, subst, arith}
use Rattle.query_tree.specs.Ready.{Listed, IsMarked}
use Rattle.query_tree.proofs.Marks.{listed_note, notes_of, notes_none, notes_seen, count_room, off_of, on_of}
use Rattle.query_tree.proofs.ready.ReadyList.note.Goals as goal

pub push_reserved-requires : goal.push_reserved-requires
push_reserved-requires c =
    let s = c.self.inside in
    let here : c.args.id < length s.marks.items = omega (arith, c.requires, ap (λ (v : Listed). length v.marks) c.self.view_is) in
    let off = off_of s.marks.items c.args.id c.index.result.now c.index.ensures c.if-not-index.true in
    let i = c.self.invariant in
    omega (arith, count_room s.marks.items c.args.id here off, i.few, i.within, i.ids_room, s.ids.ok.0)

pub invariant_of-self : goal.invariant_of-self
invariant_of-self c =
    let s = c.self.inside in
    let here : c.args.id < length s.marks.items = omega (arith, c.requires, ap (λ (v : Listed). length v.marks) c.self.view_is) in
    let off = off_of s.marks.items c.args.id c.index.result.now c.index.ensures c.if-not-index.true in
    rw (c.push_reserved.ensures.items)
    (listed_note s.ids.items s.marks.items s.room _ _ _ c.args.id here off (omega (arith, c.push_reserved.ensures.capacity))
    c.self.invariant)

pub returns-then-not-index : goal.returns-then-not-index
returns-then-not-index c =
    let s = c.self.inside in
    let here : c.args.id < length s.marks.items = omega (arith, c.requires, ap (λ (v : Listed). length v.marks) c.self.view_is) in
    notes_seen _ _ _ c.args.id c.self.view_is
    (notes_of s.ids.items c.push_reserved.new.self.items s.marks.items s.room c.args.id here)

pub returns-else-not-index : goal.returns-else-not-index
returns-else-not-index c =
    let s = c.self.inside in
    let here : c.args.id < length s.marks.items = omega (arith, c.requires, ap (λ (v : Listed). length v.marks) c.self.view_is) in
    let on = on_of s.marks.items c.args.id c.index.result.now here c.index.ensures c.if-not-index.false in
    notes_none c.args.self.now c.args.id
    (subst (λ (v : Listed). IsMarked v c.args.id) c.self.view_is on)
