use Rattle.std.proofs.Common.{ap, sym, ◌∙◌}
use Rattle.query_tree.specs.declared.Entry.{Entry}
use Rattle.query_tree.proofs.Covers.{others_covered, still_covers}
use Rattle.query_tree.proofs.edits.next_ready.Goals as goal

pub loop-id-preserved : goal.loop-id-preserved
loop-id-preserved g c =
    let l = c.in-Some.ensures.popped in
    let x = c.index-entries-id in
    record {
      covers = still_covers c.args.entries.now c.pop.new.self c.in-Some.id x.result x.is
          (λ h. let z = c.if-is_ready.ensures.1 (ap (λ (y : Entry g.row.T.Denot). y.status) (sym x.is) ∙ h) in absurd (cc))
          (others_covered c.args.entries.now c.loop-id.ready c.pop.new.self c.in-Some.id l c.loop-id.invariant.covers);
      room = l.room ∙ c.loop-id.invariant.room;
    }
