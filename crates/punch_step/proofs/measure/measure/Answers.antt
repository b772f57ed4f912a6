use Rattle.std.proofs.Common.{◌≡◌, ◌∙◌, ◌+◌, suc, arith, subst, ap}
use Rattle.punch_step.specs.steps.Searching.{IsSearching}
use Rattle.punch_step.proofs.measure.measure.Goals as goal

pub loop-place-preserved : goal.loop-place-preserved
loop-place-preserved c =
    let next : suc c.loop-place.place ≡ c.loop-place.place + 1 = omega arith in
    record {
      searching = subst (λ k. IsSearching c.args.target k c.meet_all.new.self) next
          (c.in_ok-meet_all.ensures.searching c.args.target c.loop-place.invariant.searching);
      partition = ap (λ p. p.now) c.in_ok-meet_all.ensures.more.partition ∙ c.loop-place.invariant.partition;
      shut = ap (λ l. l.now) c.in_ok-meet_all.ensures.more.shut ∙ c.loop-place.invariant.shut;
    }
