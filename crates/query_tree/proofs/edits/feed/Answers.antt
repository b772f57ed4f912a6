use Rattle.std.proofs.Common.{ℕ, ◌+◌, refl, ap, ◌∙◌}
use Rattle.query_tree.specs.declared.Entry.{Entry}
use Rattle.query_tree.specs.Forest.{fed, is_live}
use Rattle.query_tree.proofs.Counting.{write_may, write_counts}
use Rattle.query_tree.proofs.Lists.{set_changed}
use Rattle.query_tree.proofs.edits.feed.Goals as goal

abbrev more : {T : Type 0} → ℕ → Entry T → Entry T
more n e = record e { left = e.left + n; status = fed (e.left + n) e.status }

pub settle-requires : goal.settle-requires
settle-requires g c = write_may c.args.entries.now c.args.live.now c.args.id c.index-entries-id.result c.requires.here c.requires.live
    (more c.args.part) (λ _. refl) c.is_live-was.result c.is_live.result c.is_live-was.ensures
    (c.is_live.ensures ∙ ap is_live c.fed-entry.ensures)

pub returns-clause-entries : goal.returns-clause-entries
returns-clause-entries g c = rw c.fed-entry.ensures
    (set_changed (more c.args.part) c.args.entries.now c.args.id c.index-entries-id.result c.requires.here)

pub returns-clause-live : goal.returns-clause-live
returns-clause-live g c = rw c.fed-entry.ensures (write_counts c.args.entries.now c.args.live.now c.args.id c.index-entries-id.result
    c.requires.here c.requires.live (more c.args.part) (λ _. refl) c.is_live-was.result c.is_live.result c.is_live-was.ensures
    (c.is_live.ensures ∙ ap is_live c.fed-entry.ensures) c.settle.new.self c.settle.ensures)
