use Rattle.std.proofs.Common.{◌∙◌, ap, [], ◌∷◌, arith}
use Rattle.c_tree.specs.FileView.{item_of}
use Rattle.c_typing.specs.Faults.{prototypes_faults}
use Rattle.c_typing.specs.steps.Tables.{procedures_in, notes_of, noted}
use Rattle.c_typing.proofs.Filed.{prototypes_turn, prototypes_end}
use Rattle.c_typing.proofs.check.procedures.prototypes.Goals as goal

pub loop-tree-preserved : goal.loop-tree-preserved
loop-tree-preserved c =
    let ps = procedures_in c.args.table.now.items.now in
    prototypes_turn ps c.args.items.now c.loop-tree.tree-index c.tree-item.result (notes_of c.loop-tree.notes)
    (notes_of c.prototype.new.notes)
    _ c.loop-tree-test.true
    (c.prototype.ensures ∙ ap (λ i. noted (notes_of c.loop-tree.notes) (prototypes_faults ps (item_of i ∷ [])) [] []) c.tree-item.is)
    c.loop-tree.invariant

pub returns : goal.returns
returns c = prototypes_end (procedures_in c.args.table.now.items.now) c.args.items.now c.loop-tree.tree-index (notes_of c.loop-tree.notes) _
    (omega arith) c.loop-tree.invariant
