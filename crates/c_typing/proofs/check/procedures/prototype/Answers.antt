use Rattle.c_typing.specs.steps.Tables.{procedures_in, notes_of}
use Rattle.c_typing.proofs.Filed.{prototype_said}
use Rattle.c_typing.proofs.check.procedures.prototype.Goals as goal

pub returns-in-Proto : goal.returns-in-Proto
returns-in-Proto c =
    prototype_said (procedures_in c.args.table.now.items.now) (notes_of c.args.notes.now) (notes_of c.found_if.new.self) c.args.tree.now
    c.in-Proto.named c.as_str.result.now c.is_known-known.result c.in-Proto.is c.as_str.ensures.value c.is_known-known.ensures
    c.found_if.ensures
