use Rattle.std.proofs.Common.{◌≡◌, ap, sym, ◌∙◌, subst, ◌<◌, ◌+◌, Some}
use Rattle.std.specs.Prelude.{slice_get}
use Rattle.std.proofs.lemmas.Option.{same_Some, none-some}
use Rattle.c_tree.specs.View.{procedure_of, statements_of}
use Rattle.c_tree.specs.WellFormed.{asserted_in}
use Rattle.c_tree.specs.Whole.{program_of}
use Rattle.summary_keep.specs.Keeping.{related_by}
use Rattle.summary_keep.specs.steps.Pairing.{ArePairedBelow, paired}
use Rattle.summary_keep.proofs.Matched.{number_at, procedure_at, procedure_within, related_some, some_related}
use Rattle.summary_keep.proofs.Pairs.{passed, paired_up, within_numbers, same_count, ok_map}
use Rattle.summary_keep.proofs.assertions.pair_procedure.Goals as goal

pub index-requires : goal.index-requires
index-requires c =
    let e = number_at c.args.procs.now c.args.place _ c.requires.place c.in-Some.is in
    let r = c.requires.matches.all c.args.place c.in-Some.number (related_some c.args.procs.now c.args.place c.in-Some.number e) in
    subst (λ n. c.args.place < n) (sym c.args.old.now.procedures.ok.0)
    (procedure_within c.args.old.now.procedures.items c.args.place r.old r.old_at)

pub index-requires-in-Some : goal.index-requires-in-Some
index-requires-in-Some c =
    let e = number_at c.args.procs.now c.args.place _ c.requires.place c.in-Some.is in
    let r = c.requires.matches.all c.args.place c.in-Some.number (related_some c.args.procs.now c.args.place c.in-Some.number e) in
    subst (λ n. c.in-Some.number < n) (sym c.args.new.now.procedures.ok.0)
    (procedure_within c.args.new.now.procedures.items c.in-Some.number r.new r.new_at)

pub pair_bodies-requires : goal.pair_bodies-requires
pair_bodies-requires c =
    let P = program_of c.args.old.now in
    let Q = program_of c.args.new.now in
    let R = related_by c.args.procs.now in
    let e = number_at c.args.procs.now c.args.place _ c.requires.place c.in-Some.is in
    let r = c.requires.matches.all c.args.place c.in-Some.number (related_some c.args.procs.now c.args.place c.in-Some.number e) in
    let old = procedure_at c.args.old.now.procedures.items c.args.place c.index.result.now
    (procedure_within c.args.old.now.procedures.items c.args.place r.old r.old_at) c.index.ensures in
    λ k a s. within_numbers P Q c.args.old.now.well_formed R c.args.place c.args.numbers.now.items c.requires.numbers c.args.place
    (procedure_of c.index.result.now) old k a (subst (λ l. slice_get (asserted_in (statements_of l)) k ≡ Some a) c.deref.ensures.value s)

pub returns-in-None : goal.returns-in-None
returns-in-None c =
    let P = program_of c.args.old.now in
    let Q = program_of c.args.new.now in
    let e = number_at c.args.procs.now c.args.place _ c.requires.place c.in-None.is in
    passed P Q c.args.old.now.well_formed (related_by c.args.procs.now) c.args.place c.args.numbers.now.items
    (λ j h. none-some j (sym e ∙ some_related c.args.procs.now c.args.place j h)) c.requires.numbers

pub returns-in-Some : goal.returns-in-Some
returns-in-Some c =
    let P = program_of c.args.old.now in
    let Q = program_of c.args.new.now in
    let R = related_by c.args.procs.now in
    let e = number_at c.args.procs.now c.args.place _ c.requires.place c.in-Some.is in
    let h = related_some c.args.procs.now c.args.place c.in-Some.number e in
    let r = c.requires.matches.all c.args.place c.in-Some.number h in
    let old = procedure_at c.args.old.now.procedures.items c.args.place c.index.result.now
    (procedure_within c.args.old.now.procedures.items c.args.place r.old r.old_at) c.index.ensures in
    let new = procedure_at c.args.new.now.procedures.items c.in-Some.number c.index-in-Some.result.now
    (procedure_within c.args.new.now.procedures.items c.in-Some.number r.new r.new_at) c.index-in-Some.ensures in
    let up = paired_up P Q c.args.old.now.well_formed R c.args.place c.in-Some.number (procedure_of c.index.result.now)
    (procedure_of c.index-in-Some.result.now) old new h
    (λ x k. same_Some x c.in-Some.number (sym (some_related c.args.procs.now c.args.place x k) ∙ e))
    (same_count P Q R c.requires.matches c.args.place c.in-Some.number h (procedure_of c.index.result.now)
    (procedure_of c.index-in-Some.result.now) old new) c.args.numbers.now.items c.requires.numbers in
    ok_map c.pair_bodies.result
    (λ is. subst (ArePairedBelow P Q R (c.args.place + 1)) (sym (is
    ∙ (ap (λ l. paired (asserted_in (statements_of l)) (asserted_in (statements_of c.deref-in-Some.result.now)) c.args.numbers.now.items)
    c.deref.ensures.value
    ∙ ap (λ l. paired (asserted_in (statements_of c.index.result.now.body.items)) (asserted_in (statements_of l)) c.args.numbers.now.items)
    c.deref-in-Some.ensures.value))) up) c.pair_bodies.ensures
