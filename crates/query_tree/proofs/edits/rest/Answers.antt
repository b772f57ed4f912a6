use Rattle.std.proofs.Common.{◌≡◌, Some, refl, sym, ap, ◌∙◌, arith}
use Rattle.std.specs.Prelude.{slice_get}
use Rattle.query_tree.specs.declared.Entry.{Entry}
use Rattle.query_tree.specs.Live.{Counted}
use Rattle.query_tree.proofs.Counting.{rest_may, rest_counts}
use Rattle.query_tree.proofs.Lists.{at_place}
use Rattle.query_tree.proofs.Writes.{rest_writes, rest_writes_no, rest_here}
use Rattle.query_tree.proofs.edits.rest.Goals as goal

pub settle-requires : goal.settle-requires
settle-requires g c = rest_may c.args.entries.now c.args.live.now c.args.id c.index-entries-id.result c.requires.here c.requires.live
    c.args.status c.args.left c.args.steps c.args.payload c.is_live.result c.is_live-2.result c.is_live.ensures c.is_live-2.ensures

pub overflow_add-entry : goal.overflow_add-entry
overflow_add-entry g c = omega (
  arith,
  c.requires.fits _ (at_place c.args.entries.now c.args.id c.index-entries-id.result c.requires.here),
)

pub stir-requires : goal.stir-requires
stir-requires g c p e =
    let up = c.requires.live.above c.args.id _ p
    (at_place c.args.entries.now c.args.id c.index-entries-id.result c.requires.here) e in
    rest_here c.args.entries.now c.args.id c.index-entries-id.result c.args.status c.args.left c.args.steps c.args.payload p
    c.requires.here up

pub returns-then-is_starved : goal.returns-then-is_starved
returns-then-is_starved g c =
    let writes = λ (own : Entry g.row.T.Denot) (at : slice_get c.args.entries.now c.args.id ≡ Some own). c.stir.ensures
    ∙ rest_writes c.args.entries.now own c.args.id at c.index-entries-id.result
    c.args.status c.args.left c.args.steps c.args.payload (sym c.is_starved.ensures ∙ c.if-is_starved.true)
    (λ q h. c.requires.live.above c.args.id own q at h) _ refl in
    record {
      entries = writes;
      live = rest_counts c.args.entries.now c.args.live.now c.args.id c.index-entries-id.result c.requires.here c.requires.live
          c.args.status c.args.left c.args.steps c.args.payload c.is_live.result c.is_live-2.result c.is_live.ensures c.is_live-2.ensures
          c.settle.new.self c.settle.ensures c.stir.new.entries writes;
      room = ap (λ (x : Counted). x.room) c.settle.ensures;
    }

pub returns-else-is_starved : goal.returns-else-is_starved
returns-else-is_starved g c =
    let writes = λ (own : Entry g.row.T.Denot) (at : slice_get c.args.entries.now c.args.id ≡ Some own). rest_writes_no c.args.entries.now
    own c.args.id at c.index-entries-id.result c.args.status c.args.left
    c.args.steps c.args.payload (sym c.is_starved.ensures ∙ c.if-is_starved.false) in
    record {
      entries = writes;
      live = rest_counts c.args.entries.now c.args.live.now c.args.id c.index-entries-id.result c.requires.here c.requires.live
          c.args.status c.args.left c.args.steps c.args.payload c.is_live.result c.is_live-2.result c.is_live.ensures c.is_live-2.ensures
          c.settle.new.self c.settle.ensures _ writes;
      room = ap (λ (x : Counted). x.room) c.settle.ensures;
    }
