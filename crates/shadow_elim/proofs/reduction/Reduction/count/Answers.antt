use Rattle.std.proofs.Common.{◌+◌, ◌<◌, List, length, get_or, take, drop, arith, sym, ap, ◌∙◌}
use Rattle.shadow_elim.specs.declared.pairing.Candidate.{Candidate}
use Rattle.shadow_elim.specs.Reduction.{reduced_after}
use Rattle.shadow_elim.specs.steps.Making.{candidate_terms}
use Rattle.shadow_elim.specs.steps.Places.{is_kept}
use Rattle.shadow_elim.proofs.Holding.{staying-step}
use Rattle.shadow_elim.proofs.reduction.Reduction.count.Goals as goal
use Rattle.shadow_elim.proofs.reduction.Reduction.count.Goals.{then-stays, else-stays}

pub loop-place-preserved : goal.loop-place-preserved
loop-place-preserved c =
    let rows = c.self.inside.rows.items in
    let i = c.loop-place.place in
    let h : i < length rows = omega arith in
    let k = ap (λ (l : List Candidate). is_kept c.self.inside.places.entries i (get_or l i c.row-item.result).term)
    (sym c.deref-row-items.ensures.value) ∙ ap (λ (r : Candidate). is_kept c.self.inside.places.entries i r.term) (sym c.row-item.is)
    ∙ sym c.stays.ensures in
    elim c.if-stays.branch [
      | then-stays w ↦ record {
        count = ap (λ n. n + length (reduced_after (candidate_terms (take (i + 1) rows)) (candidate_terms (drop (i + 1) rows)))) w.count-is
            ∙ staying-step c.self.inside.places.entries rows i c.row-item.result c.loop-place.count _ _ c.self.invariant h
            c.loop-place.invariant.count (k ∙ w.if-stays.true);
        below = omega (arith, w.count-is, c.loop-place.invariant.below);
      }
      | else-stays w ↦ record {
        count = ap (λ n. n + length (reduced_after (candidate_terms (take (i + 1) rows)) (candidate_terms (drop (i + 1) rows)))) w.count-is
            ∙ staying-step c.self.inside.places.entries rows i c.row-item.result c.loop-place.count _ _ c.self.invariant h
            c.loop-place.invariant.count (k ∙ w.if-stays.false);
        below = omega (arith, w.count-is, c.loop-place.invariant.below);
      }
    ]
