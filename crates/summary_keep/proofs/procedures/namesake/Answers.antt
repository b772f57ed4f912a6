use Rattle.std.proofs.Common.{sym, ◌∙◌, subst, ◌<◌, ◌≤◌}
use Rattle.std.proofs.lemmas.List.{length-map}
use Rattle.c_tree.specs.View.{procedure_of}
use Rattle.c_tree.specs.Whole.{program_of}
use Rattle.summary_keep.proofs.Matched.{procedure_at}
use Rattle.summary_keep.proofs.Names.{same_bytes, other_bytes, here, nowhere, not_here, none_of, up_to}
use Rattle.summary_keep.proofs.procedures.namesake.Goals as goal

pub returns-then-is_main-place : goal.returns-then-is_main-place
returns-then-is_main-place c =
    let P = program_of c.args.old.now in
    let Q = program_of c.args.new.now in
    let old = procedure_at c.args.old.now.procedures.items c.args.place c.index.result.now
    (subst (λ n. c.args.place < n) (length-map c.args.old.now.procedures.items procedure_of) c.requires) c.index.ensures in
    let new = procedure_at c.args.new.now.procedures.items c.loop-number.number c.index-in-loop-number.result.now
    (subst (λ n. c.loop-number.number < n) (c.len-number-end.ensures ∙ c.args.new.now.procedures.ok.0) c.loop-number-test.true)
    c.index-in-loop-number.ensures in
    here P Q c.args.new.now.well_formed c.args.place c.loop-number.number (procedure_of c.index.result.now)
    (procedure_of c.index-in-loop-number.result.now) old new
    (sym (same_bytes c.index-in-loop-number.result.now.name c.index.result.now.name (sym c.eq.ensures ∙ c.if-eq.true)))
    c.if-is_main-place.true

pub returns-else-is_main-place : goal.returns-else-is_main-place
returns-else-is_main-place c =
    let P = program_of c.args.old.now in
    let Q = program_of c.args.new.now in
    let old = procedure_at c.args.old.now.procedures.items c.args.place c.index.result.now
    (subst (λ n. c.args.place < n) (length-map c.args.old.now.procedures.items procedure_of) c.requires) c.index.ensures in
    let new = procedure_at c.args.new.now.procedures.items c.loop-number.number c.index-in-loop-number.result.now
    (subst (λ n. c.loop-number.number < n) (c.len-number-end.ensures ∙ c.args.new.now.procedures.ok.0) c.loop-number-test.true)
    c.index-in-loop-number.ensures in
    nowhere P Q c.args.new.now.well_formed c.args.place c.loop-number.number (procedure_of c.index.result.now)
    (procedure_of c.index-in-loop-number.result.now) old new
    (sym (same_bytes c.index-in-loop-number.result.now.name c.index.result.now.name (sym c.eq.ensures ∙ c.if-eq.true)))
    c.if-is_main-place.false

pub loop-number-preserved : goal.loop-number-preserved
loop-number-preserved c =
    let P = program_of c.args.old.now in
    let Q = program_of c.args.new.now in
    let old = procedure_at c.args.old.now.procedures.items c.args.place c.index.result.now
    (subst (λ n. c.args.place < n) (length-map c.args.old.now.procedures.items procedure_of) c.requires) c.index.ensures in
    let new = procedure_at c.args.new.now.procedures.items c.loop-number.number c.index-in-loop-number.result.now
    (subst (λ n. c.loop-number.number < n) (c.len-number-end.ensures ∙ c.args.new.now.procedures.ok.0) c.loop-number-test.true)
    c.index-in-loop-number.ensures in
    up_to P Q c.args.place c.loop-number.number c.loop-number.invariant
    (not_here P Q c.args.new.now.well_formed c.args.place c.loop-number.number (procedure_of c.index.result.now)
    (procedure_of c.index-in-loop-number.result.now) old new
    (λ e. other_bytes c.index-in-loop-number.result.now.name c.index.result.now.name (sym c.eq.ensures ∙ c.if-eq.false) (sym e)))

pub returns : goal.returns
returns c =
    let P = program_of c.args.old.now in
    let Q = program_of c.args.new.now in
    let a = length-map c.args.new.now.procedures.items procedure_of in
    let b = c.args.new.now.procedures.ok.0 in
    let d = c.len-number-end.ensures in
    let e = c.loop-number-test.false in
    none_of P Q c.args.place c.loop-number.number (subst (λ n. n ≤ c.loop-number.number) (d ∙ (b ∙ sym a)) e) c.loop-number.invariant
