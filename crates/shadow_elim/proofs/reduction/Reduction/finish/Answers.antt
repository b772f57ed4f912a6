use Rattle.std.proofs.Common.{◌≡◌, length, arith, ap, ◌∙◌}
use Rattle.std.specs.Vec.Iter.{into_iter_items, into_iter_len}
use Rattle.shadow_elim.proofs.LastPlaces.{done-begins, done-ends, step-left_out, step-kept, length-next}
use Rattle.shadow_elim.proofs.reduction.Reduction.finish.Goals as goal

pub loop-place-init : goal.loop-place-init
loop-place-init c =
    let g = c.into_iter-place-iterator.ensures.into_iter_gives in
    let s = c.enumerate-place-items.ensures.source in
    let e : into_iter_items c.into_iter-place-iterator.result.iter ≡ c.self.inside.rows.items = rw (g, s) c.into_iter.ensures.rest in
    let n : length (into_iter_items c.into_iter.result) ≡ into_iter_len c.into_iter.result = omega (
      arith,
      ap length c.into_iter.ensures.rest,
      c.into_iter.ensures.len,
    ) in
    let l : length (into_iter_items c.into_iter-place-iterator.result.iter) ≡ into_iter_len c.into_iter-place-iterator.result.iter =
    rw (g, s) n in (
      done-begins c.self.inside.rows.items c.args.self _ _ _ c.self.view_is c.new-kept.ensures.items e
          (rw g c.enumerate-place-items.ensures.count),
      l,
    )

pub loop-place-preserved : goal.loop-place-preserved
loop-place-preserved c =
    let s = c.in-Some.ensures.steps in (
      step-left_out c.self.inside.places.entries c.self.inside.rows.items c.args.self c.loop-place.kept.items _ _
          c.loop-place.place-iterator.count c.in-Some.place _ c.in-Some.row c.stays.result c.self.invariant c.self.view_is
          c.loop-place.invariant.0 s.0.0 s.1 s.2 c.stays.ensures c.if-stays.false,
      length-next _ _ c.in-Some.row _ _ s.0.0 c.loop-place.invariant.1 s.0.1,
    )

pub loop-place-preserved-in-Continue-1 : goal.loop-place-preserved-in-Continue-1
loop-place-preserved-in-Continue-1 c =
    let s = c.in-Some.ensures.steps in (
      step-kept c.self.inside.places.entries c.self.inside.rows.items c.args.self c.loop-place.kept.items _ _ _
          c.loop-place.place-iterator.count c.in-Some.place _ c.in-Some.row c.stays.result c.self.invariant c.self.view_is
          c.loop-place.invariant.0 s.0.0 s.1 s.2 c.stays.ensures c.if-stays.true c.in_ok-push.ensures.items,
      length-next _ _ c.in-Some.row _ _ s.0.0 c.loop-place.invariant.1 s.0.1,
    )

pub returns-clause-rows : goal.returns-clause-rows
returns-clause-rows c =
    let s = c.in-None.ensures.steps in
    done-ends c.args.self c.loop-place.kept.items _ _ c.loop-place.invariant.0 (c.loop-place.invariant.1 ∙ s.0.0)

pub returns-clause-among : goal.returns-clause-among
returns-clause-among c = c.loop-place.invariant.0.among
