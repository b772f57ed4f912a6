use Rattle.std.proofs.Common.{subst}
use Rattle.c_tree.specs.Whole.{program_of}
use Rattle.summary_keep.specs.steps.Refinement.{IsChanged}
use Rattle.summary_keep.proofs.Matched.{fewer_numbers, fewer_hold, fewer_somes}
use Rattle.summary_keep.proofs.procedures.refined.Goals as goal

pub loop-place-smaller : goal.loop-place-smaller
loop-place-smaller c =
    let o = subst (λ l. IsChanged (program_of c.args.old.now) (program_of c.args.new.now) l c.in-Some.place) c.deref.ensures.value
    c.in-Some.ensures.other.1 in
    fewer_somes c.loop-place.numbers.items c.in-Some.place o.new o.number

pub loop-place-preserved : goal.loop-place-preserved
loop-place-preserved c =
    let P = program_of c.args.old.now in
    let Q = program_of c.args.new.now in
    let o = subst (λ l. IsChanged P Q l c.in-Some.place) c.deref.ensures.value c.in-Some.ensures.other.1 in (
      fewer_numbers P Q c.loop-place.numbers.items c.in-Some.place c.loop-place.invariant.0,
      fewer_hold P Q c.loop-place.numbers.items c.in-Some.place c.loop-place.invariant.1 o,
    )
