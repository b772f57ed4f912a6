use Rattle.std.proofs.Common.{◌≡◌, [], drop}
use Rattle.c_typing.specs.Faults.{globals_faults}
use Rattle.c_typing.specs.steps.Tables.{notes_of, noted}
use Rattle.c_typing.specs.steps.Listed.{globals_in}
use Rattle.c_typing.proofs.Globally.{found_left}
use Rattle.c_typing.proofs.check.procedures.globals.Given as goal

abbrev pub invariant-loop-number : goal.invariant-loop-number
invariant-loop-number l =
    found_left l.table.items.now (notes_of l.notes) l.number (drop l.number l.table.globals.list.items)
    ≡ noted (notes_of l.fn.notes) (globals_faults [] (globals_in l.table.items.now)) [] []
