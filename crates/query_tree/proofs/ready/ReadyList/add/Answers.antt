use Rattle.std.proofs.Common.{◌≡◌, length, ap, ◌∙◌, sym, arith}
use Rattle.query_tree.specs.Ready.{Listed}
use Rattle.query_tree.proofs.Marks.{listed_add, grows_of, grows_seen}
use Rattle.query_tree.proofs.ready.ReadyList.add.Goals as goal

pub invariant_of-self : goal.invariant_of-self
invariant_of-self c =
    let s = c.self.inside in
    let next : c.args.id ≡ length s.marks.items = c.requires.next ∙ ap (λ (v : Listed). length v.marks) (sym c.self.view_is) in
    let room : s.room ≡ c.args.self.now.room = ap (λ (v : Listed). v.room) c.self.view_is in
    rw (c.push_reserved.ensures.items, c.push_reserved-2.ensures.items)
    (listed_add s.ids.items s.marks.items s.room _ _ _ _ c.args.id next (omega (arith, next, room, c.requires.room, c.requires.next))
    (omega (arith, c.push_reserved.ensures.capacity)) (omega (arith, c.push_reserved-2.ensures.capacity)) c.self.invariant)

pub returns : goal.returns
returns c =
    let s = c.self.inside in
    let next : c.args.id ≡ length s.marks.items = c.requires.next ∙ ap (λ (v : Listed). length v.marks) (sym c.self.view_is) in
    rw (c.push_reserved-2.ensures.items) (grows_seen _ _ _ c.args.id c.self.view_is
    (grows_of s.ids.items c.push_reserved.new.self.items s.marks.items s.room c.args.id next))
