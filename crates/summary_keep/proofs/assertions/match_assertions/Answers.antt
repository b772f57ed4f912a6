use Rattle.std.proofs.Common.{◌≡◌, ℕ, subst, ap, ◌∙◌, length, None, arith, List, Option}
use Rattle.std.proofs.lemmas.List.{length-replicate}
use Rattle.c_tree.specs.Whole.{program_of}
use Rattle.summary_keep.specs.Keeping.{related_by, number_in}
use Rattle.summary_keep.specs.steps.Pairing.{ArePairedBelow}
use Rattle.summary_keep.proofs.Pairs.{none_yet, none_in}
use Rattle.summary_keep.proofs.assertions.match_assertions.Goals as goal

pub loop-place-init : goal.loop-place-init
loop-place-init c =
    let P = program_of c.args.old.now in
    let Q = program_of c.args.new.now in
    let e = c.in_ok-numbers.ensures in
    let each : length c.in_ok-numbers.numbers.items ≡ length c.args.old.now.asserts.items = ap (λ (l : List (Option ℕ)). length l) e
    ∙ (length-replicate c.len.result None ∙ (c.len.ensures ∙ c.args.old.now.asserts.ok.0)) in
    none_yet P Q c.args.old.now.well_formed (related_by c.args.procs.now) c.in_ok-numbers.numbers.items each
    (λ a. ap (λ l. number_in l a) e ∙ none_in c.len.result a)

pub returns : goal.returns
returns c =
    let a = c.loop-place-test.false in
    let b = c.loop-place.auto.place-end in
    let n : c.loop-place.place ≡ length c.args.procs.now = omega (arith, a, b) in
    subst (λ k. ArePairedBelow (program_of c.args.old.now) (program_of c.args.new.now) (related_by c.args.procs.now) k
    c.loop-place.numbers.items)
    n
    c.loop-place.invariant
