use Rattle.std.proofs.Common.{[], ◌++◌, ap, sym, ◌∙◌, subst, map}
use Rattle.std.proofs.lemmas.List.{take_all}
use Rattle.c_tree.specs.Whole.{program_of}
use Rattle.summary_keep.specs.Keeping.{SummariesHold, kept, put, renumbered}
use Rattle.summary_keep.proofs.Kepts.{all_kept_hold, one_more}
use Rattle.summary_keep.proofs.keep.keep.Goals as goal

pub loop-summary-preserved : goal.loop-summary-preserved
loop-summary-preserved c =
    let procs = c.args.matching.now.procs.items in
    let asserts = c.args.matching.now.asserts.items in
    one_more procs asserts (λ a. a.value) c.args.summaries.now c.loop-summary.summary-index c.summary-item.result
    (map (λ a. a.value) c.loop-summary.out.items) (map (λ a. a.value) c.push_some.new.out.items) c.loop-summary-test.true c.summary-item.is
    c.loop-summary.invariant
    (c.in_ok-push_some.ensures ∙ ap (λ o. map (λ a. a.value) c.loop-summary.out.items ++ put o [])
    (c.in_ok-other.ensures ∙ ap (renumbered procs asserts) c.deref.ensures))

pub returns-clause-hold : goal.returns-clause-hold
returns-clause-hold c =
    let procs = c.args.matching.now.procs.items in
    let asserts = c.args.matching.now.asserts.items in
    let P = program_of c.args.old.now in
    let Q = program_of c.args.new.now in
    let all = take_all c.loop-summary.summary-index c.args.summaries.now c.loop-summary-test.false in
    subst (SummariesHold Q) (sym (c.loop-summary.invariant ∙ ap (λ l. kept procs asserts (map (λ a. a.value) l)) all))
    (all_kept_hold P Q c.args.old.now.well_formed c.args.new.now.well_formed procs asserts c.requires.matching
    (map (λ a. a.value) c.args.summaries.now) c.requires.hold)
