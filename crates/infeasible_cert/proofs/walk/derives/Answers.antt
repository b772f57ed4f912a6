use Rattle.std.proofs.Common.{◌<◌, ◌++◌, length, take, arith, refl, subst, IsTrue}
use Rattle.linear_formula.specs.LinearSum.{is_term}
use Rattle.infeasible_cert.specs.declared.certificate.Derived.{Derived}
use Rattle.infeasible_cert.specs.steps.Known.{rows_in, terms_of}
use Rattle.infeasible_cert.specs.Right.{IsRightStep}
use Rattle.infeasible_cert.proofs.Deriving.{known-order, derived-steps}
use Rattle.infeasible_cert.proofs.walk.derives.Goals as goal

pub is_right_step-requires : goal.is_right_step-requires
is_right_step-requires c =
    known-order (rows_in c.args.rows.now) (take c.loop-i.i c.args.derived.now) c.requires c.loop-i.invariant.terms

pub loop-i-preserved : goal.loop-i-preserved
loop-i-preserved c =
    let h : c.loop-i.i < length c.args.derived.now = omega arith in
    derived-steps (rows_in c.args.rows.now) c.args.derived.now c.loop-i.i c.index-derived-i.result c.loop-i.invariant h
    (subst (λ (d : Derived). IsTrue (is_term d.row.term)) c.index-derived-i.is c.is_right_step.ensures.term)
    (subst (λ (d : Derived). IsRightStep (rows_in c.args.rows.now ++ terms_of (take c.loop-i.i c.args.derived.now)) d) c.index-derived-i.is
    (c.if-not-is_right_step.ensures.right.0 refl))
