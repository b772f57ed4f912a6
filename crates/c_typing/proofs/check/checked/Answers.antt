use Rattle.std.proofs.Common.{◌≡◌, ◌∙◌, ap, sym, map, inl}
use Rattle.c_tree.specs.FileView.{item_of}
use Rattle.c_typing.specs.declared.fault.TypeError.TheVariants.{Refused}
use Rattle.c_typing.specs.declared.fault.TypeFault.TheVariants.{NoMain}
use Rattle.c_typing.specs.Answer.{start}
use Rattle.c_typing.specs.Faults.{all_faults}
use Rattle.c_typing.specs.steps.Tables.{best_of}
use Rattle.c_typing.proofs.Least.{least-none}
use Rattle.c_typing.proofs.Programmed.{whole_divides}
use Rattle.c_typing.proofs.Checked.{fault_told, fault_only, fault_no_program, told_as, lacks_main, lacks_only, lacks_program, defines_main, main_first}
use Rattle.c_typing.proofs.check.checked.Goals as goal

pub returns-in-Some-clause-refused : goal.returns-in-Some-clause-refused
returns-in-Some-clause-refused c f p e =
    let is = map item_of c.args.table.now.items.now in
    let least = sym c.in_ok-notes.ensures.best ∙ ap best_of c.in-Some.is in
    let same : Refused c.in-Some.found.fault c.in-Some.found.at ≡ Refused f p = cc in
    told_as is c.in-Some.found.fault f c.in-Some.found.at p (fault_told is c.in-Some.found.fault c.in-Some.found.at least) same

pub returns-in-Some-clause-if_fault : goal.returns-in-Some-clause-if_fault
returns-in-Some-clause-if_fault c f p h =
    let least = sym c.in_ok-notes.ensures.best ∙ ap best_of c.in-Some.is in
    inl (fault_only (map item_of c.args.table.now.items.now) c.in-Some.found.fault f c.in-Some.found.at p least h)

pub returns-in-Some-clause-only : goal.returns-in-Some-clause-only
returns-in-Some-clause-only c P h =
    absurd (fault_no_program _ _ P (sym c.in_ok-notes.ensures.best ∙ ap best_of c.in-Some.is) h)

pub returns-then-not-is_defined-clause-only : goal.returns-then-not-is_defined-clause-only
returns-then-not-is_defined-clause-only c P h =
    absurd (lacks_program (map item_of c.args.table.now.items.now) P (sym c.is_defined.ensures ∙ c.if-not-is_defined.true) h)

pub returns-then-not-is_defined-clause-refused : goal.returns-then-not-is_defined-clause-refused
returns-then-not-is_defined-clause-refused c f p e =
    let is = map item_of c.args.table.now.items.now in
    let least = sym c.in_ok-notes.ensures.best ∙ ap best_of c.in_default.is in
    let same : Refused NoMain start ≡ Refused f p = cc in
    told_as is NoMain f start p (lacks_main is least (sym c.is_defined.ensures ∙ c.if-not-is_defined.true)) same

pub returns-then-not-is_defined-clause-if_fault : goal.returns-then-not-is_defined-clause-if_fault
returns-then-not-is_defined-clause-if_fault c f p h =
    inl (lacks_only (map item_of c.args.table.now.items.now) f p (sym c.in_ok-notes.ensures.best ∙ ap best_of c.in_default.is) h)

pub lowered-requires-clause-faultless : goal.lowered-requires-clause-faultless
lowered-requires-clause-faultless c = least-none (all_faults (map item_of c.args.table.now.items.now))
    (sym c.in_ok-notes.ensures.best ∙ ap best_of c.in_default.is)

pub lowered-requires-clause-main : goal.lowered-requires-clause-main
lowered-requires-clause-main c =
    defines_main (map item_of c.args.table.now.items.now) (sym c.is_defined.ensures ∙ c.if-not-is_defined.false)

pub returns-clause-only : goal.returns-clause-only
returns-clause-only c P h = c.in_ok-lowered.ensures.lowered ∙ sym h.lowered

pub returns-clause-if_fault : goal.returns-clause-if_fault
returns-clause-if_fault c f p h =
    main_first (map item_of c.args.table.now.items.now) f p (sym c.in_ok-notes.ensures.best ∙ ap best_of c.in_default.is)
    (defines_main (map item_of c.args.table.now.items.now) (sym c.is_defined.ensures ∙ c.if-not-is_defined.false)) h

pub returns-clause-divisors : goal.returns-clause-divisors
returns-clause-divisors c =
    whole_divides c.args.table.now.items.now _ c.in_ok-lowered.ensures.lowered c.in_ok-lowered.ensures.faultless
