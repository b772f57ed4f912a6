use Rattle.std.proofs.Common.{◌≡◌, true, arith}
use Rattle.shadow_elim.proofs.Needless.{marking-first, marking-more, marking-done}
use Rattle.shadow_elim.proofs.skipping.marks_of.Goals as goal

pub loop-place-init : goal.loop-place-init
loop-place-init c = marking-first (c.args.are_small ≡ true) c.args.rows.now c.in_ok-marks.marks.items c.in_ok-marks.ensures.items

pub loop-place-preserved : goal.loop-place-preserved
loop-place-preserved c =
    marking-more (c.args.are_small ≡ true) c.args.rows.now c.loop-place.place c.loop-place.marks.items c.push.new.self.items
    c.is_skipped.result c.loop-place.invariant c.in_ok-push.ensures.items c.is_skipped.ensures

pub returns : goal.returns
returns c = marking-done (c.args.are_small ≡ true) c.args.rows.now c.loop-place.place c.loop-place.marks.items c.loop-place.invariant
    (omega arith)
