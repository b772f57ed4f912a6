use Rattle.std.proofs.Common.{arith}
use Rattle.query_tree.proofs.Marks.{listed_pop, loses_of, loses_seen}
use Rattle.query_tree.proofs.ready.ReadyList.pop.Goals as goal

pub index_mut-requires : goal.index_mut-requires
index_mut-requires c =
    let s = c.self.inside in
    let r = listed_pop s.ids.items c.pop.new.self.items s.marks.items s.room _ _ c.in_ok-id.id c.in_ok-id.ensures.items c.self.invariant in
    omega (arith, r.0, s.marks.ok.0)

pub invariant_of-self-2 : goal.invariant_of-self-2
invariant_of-self-2 c =
    let s = c.self.inside in
    let r = listed_pop s.ids.items c.pop.new.self.items s.marks.items s.room _ _ c.in_ok-id.id c.in_ok-id.ensures.items c.self.invariant in
    record {
      listed = r.1.listed;
      inside = r.1.inside;
      few = r.1.few;
      within = r.1.within;
      ids_room = omega (arith, r.1.ids_room, c.pop.ensures.capacity);
      marks_room = r.1.marks_room;
    }

pub returns-clause-popped : goal.returns-clause-popped
returns-clause-popped c =
    let s = c.self.inside in
    let r = listed_pop s.ids.items c.pop.new.self.items s.marks.items s.room _ _ c.in_ok-id.id c.in_ok-id.ensures.items c.self.invariant in
    loses_seen _ _ _ c.in_ok-id.id c.self.view_is
    (loses_of s.ids.items c.pop.new.self.items s.marks.items s.room c.in_ok-id.id r.0)
