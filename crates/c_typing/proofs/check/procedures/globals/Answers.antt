use Rattle.std.proofs.Common.{◌≡◌, ◌∙◌, ◌<◌, ap, get_or, length, arith}
use Rattle.c_typing.specs.steps.Tables.{notes_of}
use Rattle.c_typing.proofs.Globally.{found_turn}
use Rattle.c_typing.proofs.check.procedures.globals.Goals as goal

pub loop-number-preserved : goal.loop-number-preserved
loop-number-preserved c =
    let xs = c.args.table.now.globals.list.items in
    let same = c.deref-tree-items.ensures.value in
    let long : length c.deref-tree-items.result.now ≡ length xs = ap (λ r. length r) same in
    let less : c.loop-number.number < length xs = let test = c.loop-number-test.true in omega arith in
    found_turn c.args.table.now.items.now xs c.loop-number.number c.tree-item.result
    (notes_of c.loop-number.notes) (notes_of c.global.new.notes) _ less c.args.table.now.listed
    (c.tree-item.is ∙ ap (λ r. get_or r c.loop-number.number c.tree-item.result) same) c.global.ensures c.loop-number.invariant
