use Rattle.std.proofs.Common.{sym, subst, ◌<◌}
use Rattle.c_tree.specs.View.{procedure_of}
use Rattle.c_tree.specs.Whole.{program_of}
use Rattle.summary_keep.proofs.Matched.{number_at, procedure_at, procedure_within, judged}
use Rattle.summary_keep.proofs.procedures.is_changed.Goals as goal

pub index-new-requires : goal.index-new-requires
index-new-requires c =
    let e = number_at c.args.numbers.now c.args.place _ c.requires.place c.in-Some.is in
    let n = (c.requires.numbers.counterparts c.args.place c.in-Some.number e).names in
    let w = procedure_within c.args.new.now.procedures.items c.in-Some.number n.new n.new_at in
    subst (λ k. c.in-Some.number < k) (sym c.args.new.now.procedures.ok.0) w

pub returns-in-Some : goal.returns-in-Some
returns-in-Some c =
    let P = program_of c.args.old.now in
    let Q = program_of c.args.new.now in
    let e = number_at c.args.numbers.now c.args.place _ c.requires.place c.in-Some.is in
    let n = (c.requires.numbers.counterparts c.args.place c.in-Some.number e).names in
    let old = procedure_at c.args.old.now.procedures.items c.args.place c.index-old.result.now
    (procedure_within c.args.old.now.procedures.items c.args.place n.old n.old_at) c.index-old.ensures in
    let new = procedure_at c.args.new.now.procedures.items c.in-Some.number c.index-new.result.now
    (procedure_within c.args.new.now.procedures.items c.in-Some.number n.new n.new_at) c.index-new.ensures in
    let j = judged P Q c.args.numbers.now c.args.place c.in-Some.number c.requires.numbers e (procedure_of c.index-old.result.now)
    (procedure_of c.index-new.result.now) old new c.same_procedure.result c.same_procedure.ensures in
    record { other = j.other; same = j.same }
