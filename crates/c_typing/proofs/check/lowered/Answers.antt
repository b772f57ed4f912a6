use Rattle.std.proofs.Common.{map, refl, codes, rules}
use Rattle.c_tree.specs.FileView.{item_of}
use Rattle.c_typing.specs.Scope.{procedures_of}
use Rattle.c_tree.specs.View.{program_from}
use Rattle.c_typing.proofs.Formed.{faultless_keeps}
use Rattle.c_typing.proofs.Quieting.{file_fits}
use Rattle.c_typing.proofs.Lowered.{main_small}
use Rattle.c_typing.proofs.Programmed.{whole, whole_formed, made_program}
use Rattle.c_typing.proofs.check.lowered.Goals as goal

pub parts-requires-clause-few : goal.parts-requires-clause-few
parts-requires-clause-few c = (faultless_keeps (map item_of c.args.table.now.items.now) c.requires.faultless).few_procedures

pub parts-requires-clause-few_globals : goal.parts-requires-clause-few_globals
parts-requires-clause-few_globals c = (faultless_keeps (map item_of c.args.table.now.items.now) c.requires.faultless).few_globals

pub parts-requires-clause-fits : goal.parts-requires-clause-fits
parts-requires-clause-fits c = file_fits (map item_of c.args.table.now.items.now) c.requires.faultless

pub overflow_cast-main : goal.overflow_cast-main
overflow_cast-main c =
    let is = map item_of c.args.table.now.items.now in
    let few = (faultless_keeps is c.requires.faultless).few_procedures in
    let small = main_small (procedures_of is) (codes "main") c.number_of-main.result few c.number_of-main.ensures in
    search (rules, small)

pub new-requires : goal.new-requires
new-requires c =
    let r = c.args.table.now.items.now in
    let same = whole r c.in_ok-made.made.procedures.items c.number_of-main.result c.in_ok-made.made.places.items
    c.in_ok-globals.globals.items
    c.in_ok-made.ensures.procedures c.number_of-main.ensures c.in_ok-made.ensures.places c.in_ok-globals.ensures in
    whole_formed r (program_from c.in_ok-made.made.procedures.items c.number_of-main.result c.in_ok-made.made.places.items
    c.in_ok-globals.globals.items) same c.requires.faultless c.requires.main

pub returns : goal.returns
returns c =
    let r = c.args.table.now.items.now in
    let same = whole r c.in_ok-made.made.procedures.items c.number_of-main.result c.in_ok-made.made.places.items
    c.in_ok-globals.globals.items
    c.in_ok-made.ensures.procedures c.number_of-main.ensures c.in_ok-made.ensures.places c.in_ok-globals.ensures in
    record {
      faultless = c.requires.faultless;
      main = c.requires.main;
      lowered = made_program r r c.new.result.procedures.items c.in_ok-made.made.procedures.items c.new.result.main
          c.number_of-main.result c.new.result.asserts.items c.in_ok-made.made.places.items c.new.result.globals.items
          c.in_ok-globals.globals.items refl
          c.new.ensures.procedures c.new.ensures.main c.new.ensures.asserts c.new.ensures.globals same;
    }
