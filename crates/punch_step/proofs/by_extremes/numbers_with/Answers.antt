use Rattle.std.proofs.Common.{◌≡◌, ◌++◌, ◌∷◌, ◌+◌, [], List, ℕ, append_assoc, arith, ap, ◌∙◌}
use Rattle.std.specs.List.{range_with_len}
use Rattle.punch_step.proofs.PreOutlines.{range_more}
use Rattle.punch_step.proofs.by_extremes.numbers_with.Goals as goal

pub loop-preserved : goal.loop-preserved
loop-preserved c =
    let first = c.in_ok-numbers.numbers.items in
    let from = c.args.target.now.count in
    let k = c.loop.counter in
    let pushed : c.push.new.self.items ≡ c.loop.numbers.items ++ c.loop.count ∷ [] = c.in_ok-push.ensures.items in (
      pushed ∙ ap (λ (ms : List ℕ). ms ++ c.loop.count ∷ []) c.loop.invariant.0
          ∙ ap (λ (n : ℕ). (first ++ range_with_len from k) ++ n ∷ []) c.loop.invariant.1
          ∙ append_assoc first (range_with_len from k) ((from + k) ∷ []) ∙ ap (λ (ms : List ℕ). first ++ ms) (range_more from k),
      omega (arith, c.loop.invariant.1, c.in-Some.ensures),
    )
