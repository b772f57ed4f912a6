use Rattle.std.proofs.Common.{refl, ap, ◌∙◌}
use Rattle.query_tree.specs.Forest.{paid, is_live}
use Rattle.query_tree.proofs.Counting.{write_may, write_counts}
use Rattle.query_tree.proofs.Lists.{set_changed}
use Rattle.query_tree.proofs.edits.pay.Goals as goal

pub settle-requires : goal.settle-requires
settle-requires g c = write_may c.args.entries.now c.args.live.now c.args.id c.index-entries-id.result c.requires.here c.requires.live
    (paid c.args.paid) (λ _. refl) c.is_live-was.result c.is_live.result c.is_live-was.ensures
    (c.is_live.ensures ∙ ap is_live (c.fed-entry.ensures ∙ rw (c.woken.ensures) refl))

pub returns-clause-entries : goal.returns-clause-entries
returns-clause-entries g c = rw (c.fed-entry.ensures, c.woken.ensures) (set_changed (paid c.args.paid) c.args.entries.now c.args.id
    c.index-entries-id.result
    c.requires.here)

pub returns-clause-live : goal.returns-clause-live
returns-clause-live g c = rw (c.fed-entry.ensures, c.woken.ensures) (write_counts c.args.entries.now c.args.live.now c.args.id
    c.index-entries-id.result c.requires.here c.requires.live
    (paid c.args.paid) (λ _. refl) c.is_live-was.result c.is_live.result c.is_live-was.ensures
    (c.is_live.ensures ∙ ap is_live (c.fed-entry.ensures ∙ rw (c.woken.ensures) refl)) c.settle.new.self c.settle.ensures)
