use Rattle.std.proofs.Common.{◌≡◌, drop}
use Rattle.c_typing.specs.steps.Listed.{globals_in, listed, AreNumbered}
use Rattle.c_typing.proofs.Numbered.{globals_left}
use Rattle.c_typing.proofs.globals.Globals.new.Given as goal

abbrev pub invariant-loop-item : goal.invariant-loop-item
invariant-loop-item l = record {
  list : globals_left (listed l.list.items) (drop l.item-index l.items) ≡ globals_in l.items;
  numbers : AreNumbered l.numbers l.list.items;
}
