use Rattle.std.proofs.Common.{subst}
use Rattle.std.specs.Prelude.{IsTrue}
use Rattle.linear_formula.specs.LinearSum.{is_within}
use Rattle.linear_formula.specs.Results.{negated}
use Rattle.linear_formula.specs.declared.formula.Atom.{Atom}
use Rattle.infeasible_cert.specs.Refutation.{refutation_of}
use Rattle.bundle_check.proofs.Answering.{wide_never}
use Rattle.bundle_check.proofs.Deciding.{untrue}
use Rattle.bundle_check.proofs.answered.is_shown.Goals as goal

pub returns-in-Err : goal.returns-in-Err
returns-in-Err c =
    let wide = subst (λ (a : Atom). IsTrue (is_within (negated a.term)) → ⊥) c.in_ok-negation.ensures c.in-Err.ensures.wide in (
      λ t. absurd (untrue t),
      λ h. absurd (wide_never c.args.rows.now.atoms c.args.atom.now (refutation_of c.args.by.now) wide h),
    )
