use Rattle.std.proofs.Common.{refl, ◌∙◌, slice_set, slice_index_or, ◌-◌, arith}
use Rattle.must_region.proofs.Terms.{none_set, one_set, one_beyond, all_set}
use Rattle.path_sweep.proofs.terms.with_terms.Goals as goal

pub loop-left-init : goal.loop-left-init
loop-left-init c =
    none_set c.args.all.now c.args.places.now c.args.terms.now c.into_vec-items.result.items
    (c.into_vec-items.ensures ∙ c.in_ok-copy.ensures)

pub loop-left-preserved-then-place-len : goal.loop-left-preserved-then-place-len
loop-left-preserved-then-place-len c =
    one_set c.loop-left.left c.args.all.now c.args.places.now c.args.terms.now c.loop-left.items.items
    (slice_set c.loop-left.items.items (slice_index_or c.args.places.now (c.loop-left.left - 1) 0) c.in_ok-term.term) 0 c.in_ok-term.term
    c.loop-left-test.true c.loop-left.invariant c.in_ok-term.ensures refl

pub loop-left-preserved : goal.loop-left-preserved
loop-left-preserved c =
    one_beyond c.loop-left.left c.args.all.now c.args.places.now c.args.terms.now c.loop-left.items.items 0 c.loop-left-test.true
    c.loop-left.invariant (omega (arith, c.if-place-len.false, c.len.ensures))

pub returns : goal.returns
returns c =
    c.from_vec.ensures
    ∙ all_set c.args.all.now c.args.places.now c.args.terms.now c.loop-left.items.items c.loop-left.left c.loop-left-test.false
    c.loop-left.invariant
