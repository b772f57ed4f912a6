use Rattle.std.proofs.Common.{ap, false, refl}
use Rattle.std.proofs.lemmas.Option.{get_or_from_slice_get}
use Rattle.query_tree.specs.declared.Entry.{Entry}
use Rattle.query_tree.specs.Forest.{dropped}
use Rattle.query_tree.proofs.Counting.{write_may, write_counts}
use Rattle.query_tree.proofs.Lists.{set_changed}
use Rattle.query_tree.proofs.edits.drop_one.Goals as goal

pub settle-requires : goal.settle-requires
settle-requires g c = write_may c.args.entries.now c.args.live.now c.args.id c.index-entries-id.result c.requires.here c.requires.live
    (dropped c.args.stamp) (λ _. refl) c.is_live.result false c.is_live.ensures refl

pub returns-clause-entries : goal.returns-clause-entries
returns-clause-entries g c = set_changed (dropped c.args.stamp) c.args.entries.now c.args.id c.index-entries-id.result c.requires.here

pub returns-clause-left : goal.returns-clause-left
returns-clause-left g c e a = ap (λ (x : Entry g.row.T.Denot). x.left)
    (get_or_from_slice_get c.args.entries.now c.args.id e c.index-entries-id.result a)

pub returns-clause-live : goal.returns-clause-live
returns-clause-live g c = write_counts c.args.entries.now c.args.live.now c.args.id c.index-entries-id.result c.requires.here
    c.requires.live (dropped c.args.stamp) (λ _. refl) c.is_live.result false c.is_live.ensures refl c.settle.new.self c.settle.ensures
