use Rattle.std.proofs.Common.{map}
use Rattle.c_tree.specs.FileView.{item_of}
use Rattle.c_typing.specs.steps.Tables.{notes_of}
use Rattle.c_typing.proofs.Procedural.{all_said}
use Rattle.c_typing.proofs.check.procedures.all.Goals as goal

pub returns-clause-best : goal.returns-clause-best
returns-clause-best c =
    all_said (map item_of c.args.table.now.items.now) (notes_of c.new-notes.result) (notes_of c.prototypes.new.notes)
    (notes_of c.globals.new.notes) (notes_of c.procedures.new.notes) (notes_of c.limit.new.self) (notes_of c.limit-2.new.self)
    (notes_of c.limit-3.new.self) c.deref.result.now c.place_past.result c.global_past.result c.place-past.result
    c.new-notes.ensures c.prototypes.ensures c.globals.ensures c.in_ok-procedures.ensures.best c.in_ok-procedures.ensures.asserts
    c.place_past.ensures c.limit.ensures c.global_past.ensures c.limit-2.ensures c.deref.ensures.value c.place-past.ensures
    c.limit-3.ensures
