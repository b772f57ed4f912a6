use Rattle.std.proofs.Common.{◌≡◌, ◌∙◌, ◌+◌, ◌++◌, [], ◌∷◌, ap, sym, map, length, arith}
use Rattle.std.proofs.lemmas.List.{length-map}
use Rattle.c_tree.specs.View.{procedure_of}
use Rattle.c_typing.specs.Lowering.{assert_places}
use Rattle.c_typing.specs.steps.Tables.{procedures_in}
use Rattle.c_typing.proofs.Programmed.{next_item, built_item, built_from, built_end}
use Rattle.c_typing.proofs.lower.program.parts.Goals as goal

pub loop-tree-init : goal.loop-tree-init
loop-tree-init c = built_from c.args.table.now.items.now c.args.asserts.now (map procedure_of c.new-procedures.result.items)
    c.new-places.result.items c.requires.fits c.requires.asserts (ap (λ r. map procedure_of r) c.new-procedures.ensures.items)
    c.new-places.ensures.items

pub item-requires : goal.item-requires
item-requires c =
    let n = next_item c.args.table.now.items.now c.args.asserts.now c.loop-tree.tree-index
    c.tree-item.result c.loop-tree.before.asserts c.loop-tree.before.globals (map procedure_of c.loop-tree.procedures.items)
    c.loop-tree.places.items c.requires.few c.loop-tree-test.true c.tree-item.is c.loop-tree.invariant in
    record {
      few = c.requires.few;
      few_globals = c.requires.few_globals;
      fits = n.fits;
      globals = (let g = n.globals in let few = c.requires.few_globals in omega arith);
      room = (let r = n.room in omega (arith, length-map c.loop-tree.procedures.items procedure_of));
      within = n.within;
      own = n.own;
    }

pub loop-tree-preserved : goal.loop-tree-preserved
loop-tree-preserved c =
    let old = c.loop-tree.procedures.items in
    let new = c.item.new.procedures.items in
    let more = c.in_ok-item.ensures in
    let places = more.places ∙ ap (λ k. c.loop-tree.places.items ++ assert_places k (procedures_in (c.tree-item.result ∷ [])))
    (sym (length-map old procedure_of)) in
    let count : length (map procedure_of new) ≡ length (map procedure_of old) + length (procedures_in (c.tree-item.result ∷ [])) = omega
    (arith, length-map old procedure_of, length-map new procedure_of, more.count) in
    built_item c.args.table.now.items.now c.args.asserts.now c.loop-tree.tree-index
    c.tree-item.result c.loop-tree.before.asserts c.item.new.before.asserts c.loop-tree.before.globals c.item.new.before.globals
    (map procedure_of old) (map procedure_of new) c.loop-tree.places.items
    c.item.new.places.items c.loop-tree-test.true c.tree-item.is
    c.loop-tree.invariant more.procedures places more.asserts more.globals count

pub returns-clause-procedures : goal.returns-clause-procedures
returns-clause-procedures c = (built_end c.args.table.now.items.now c.args.asserts.now
    c.loop-tree.tree-index c.loop-tree.before.asserts c.loop-tree.before.globals (map procedure_of c.loop-tree.procedures.items)
    c.loop-tree.places.items (omega arith) c.loop-tree.invariant).0

pub returns-clause-places : goal.returns-clause-places
returns-clause-places c = (built_end c.args.table.now.items.now c.args.asserts.now
    c.loop-tree.tree-index c.loop-tree.before.asserts c.loop-tree.before.globals (map procedure_of c.loop-tree.procedures.items)
    c.loop-tree.places.items (omega arith) c.loop-tree.invariant).1
