use Rattle.std.proofs.Common.{List, ℕ, ℤ, sym, subst}
use Rattle.std.specs.Prelude.{IfOk}
use Rattle.linear_formula.specs.LinearSum.{Is64, valuation}
use Rattle.linear_formula.specs.Formula.{HoldsAll}
use Rattle.punch_step.specs.ByExtremes.{IsTold}
use Rattle.punch_step.specs.Sights.{IsDecision}
use Rattle.punch_step.proofs.Arriving.{never_told}
use Rattle.punch_step.proofs.by_extremes.told_of.Goals.{in-Met+in_ok-copy-in-Met, in-Never+in_ok-renumbered-in-Never, in-Limit}
use Rattle.punch_step.proofs.by_extremes.told_of.Goals as goal

pub returns : goal.returns
returns c =
    elim c.match-branch-2.branch [
      | in-Met+in_ok-copy-in-Met w ↦
          let rows = c.args.rows.atoms in
          let d = subst (IsDecision rows) w.in-Met.is c.in_ok-at.ensures in
          subst (λ r. IfOk r (IsTold c.args.numbers.now c.args.count rows)) (sym w.result-is)
          (subst (λ (at : List (ℕ × ℤ)). Is64 (valuation at) × HoldsAll (valuation at) rows) (sym w.in_ok-copy-in-Met.ensures) (d.1, d.2))
      | in-Never+in_ok-renumbered-in-Never w ↦
          let rows = c.args.rows.atoms in
          let d = subst (IsDecision rows) w.in-Never.is c.in_ok-at.ensures in
          subst (λ r. IfOk r (IsTold c.args.numbers.now c.args.count rows)) (sym w.result-is)
          (never_told c.args.numbers.now c.args.count rows w.in-Never.proof.now w.in_ok-renumbered-in-Never.field-0
          w.in_ok-renumbered-in-Never.ensures.refutes w.in_ok-renumbered-in-Never.ensures.terms d.1)
      | in-Limit w ↦
          subst (λ r. IfOk r (IsTold c.args.numbers.now c.args.count c.args.rows.atoms)) (sym w.result-is) tt
    ]
