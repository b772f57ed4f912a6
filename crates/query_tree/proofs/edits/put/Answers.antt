use Rattle.std.proofs.Common.{refl, arith}
use Rattle.query_tree.specs.Forest.{given}
use Rattle.query_tree.proofs.Counting.{write_may, write_counts}
use Rattle.query_tree.proofs.Lists.{at_place, set_changed}
use Rattle.query_tree.proofs.edits.put.Goals as goal

pub settle-requires : goal.settle-requires
settle-requires g c = write_may c.args.entries.now c.args.live.now c.args.id c.index-entries-id.result c.requires.here c.requires.live
    (given c.args.status c.args.left c.args.steps c.args.payload) (λ _. refl) c.is_live.result c.is_live-2.result c.is_live.ensures
    c.is_live-2.ensures

pub overflow_add-entry : goal.overflow_add-entry
overflow_add-entry g c = omega (
  arith,
  c.requires.fits _ (at_place c.args.entries.now c.args.id c.index-entries-id.result c.requires.here),
)

pub returns-clause-entries : goal.returns-clause-entries
returns-clause-entries g c = set_changed (given c.args.status c.args.left c.args.steps c.args.payload) c.args.entries.now c.args.id
    c.index-entries-id.result
    c.requires.here

pub returns-clause-live : goal.returns-clause-live
returns-clause-live g c = write_counts c.args.entries.now c.args.live.now c.args.id c.index-entries-id.result c.requires.here
    c.requires.live (given c.args.status c.args.left c.args.steps c.args.payload) (λ _. refl) c.is_live.result c.is_live-2.result
    c.is_live.ensures c.is_live-2.ensures c.settle.new.self c.settle.ensures
