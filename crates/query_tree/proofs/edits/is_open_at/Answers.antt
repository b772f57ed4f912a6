use Rattle.std.proofs.Common.{◌∙◌, ap}
use Rattle.std.proofs.lemmas.Option.{get_or_from_slice_get}
use Rattle.query_tree.specs.declared.Entry.{Entry}
use Rattle.query_tree.specs.Forest.{is_open}
use Rattle.query_tree.proofs.edits.is_open_at.Goals as goal

pub returns : goal.returns
returns g c e a = c.is_open.ensures ∙ ap (λ (x : Entry g.row.T.Denot). is_open x.status)
    (get_or_from_slice_get c.args.entries.now c.args.id e c.index-entries-id.result a)
