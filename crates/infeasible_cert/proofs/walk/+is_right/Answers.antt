use Rattle.std.proofs.Common.{◌∙◌, FitsSigned, Fits, w32, w64, arith, rules, refl, sym, ap, subst}
use Rattle.infeasible_cert.specs.Refutation.{refutation_of}
use Rattle.infeasible_cert.specs.Terms.{AreDerivedTerms}
use Rattle.infeasible_cert.specs.steps.Known.{rows_in}
use Rattle.infeasible_cert.proofs.Branching.{below-order, node-then, node-else, not_max, minus-cast, more-cast}
use Rattle.infeasible_cert.proofs.walk.+is_right.Goals as goal

pub is_right-requires : goal.is_right-requires
is_right-requires t c =
    let f : Fits w32 c.in-Branch.column = search rules in
    let e = c.deref-else-at-eq9223372036854775807.ensures.value ∙ sym c.deref-in-Branch.ensures.value in (
      omega (arith, c.if-depth-eq0.false),
      below-order (rows_in c.args.rows.now) c.deref-in-Branch.result.now c.in-Branch.column _ _
          c.requires (subst AreDerivedTerms e (c.if-not-derives.ensures.terms refl)) (omega arith) (λ d. cc),
    )

pub is_right-requires-then-is_right : goal.is_right-requires-then-is_right
is_right-requires-then-is_right t c =
    let f : Fits w32 c.in-Branch.column = search rules in
    let e = c.deref-else-at-eq9223372036854775807.ensures.value ∙ sym c.deref-in-Branch.ensures.value in (
      omega (arith, c.if-depth-eq0.false),
      below-order (rows_in c.args.rows.now) c.deref-in-Branch.result.now c.in-Branch.column _ _
          c.requires (subst AreDerivedTerms e (c.if-not-derives.ensures.terms refl)) (omega arith) (λ d. cc),
    )

pub returns-then-is_right-clause-right : goal.returns-then-is_right-clause-right
returns-then-is_right-clause-right t c =
    let f : FitsSigned w64 c.in-Branch.at = search rules in
    node-then (rows_in c.args.rows.now) c.in-Branch.derived.items c.deref-else-at-eq9223372036854775807.result.now
    c.deref-in-Branch.result.now
    c.in-Branch.column c.in-Branch.at (refutation_of c.in-Branch.low.value) (refutation_of c.deref-in-Branch-2.result.now)
    (refutation_of c.in-Branch.high.value) (refutation_of c.deref-then-is_right.result.now) (refutation_of c.args.certificate.now)
    c.args.depth _ _ c.is_right-then-is_right.result (ap refutation_of c.in-Branch.is) (omega (arith, c.if-depth-eq0.false))
    (not_max c.in-Branch.at f c.if-at-eq9223372036854775807.false) c.deref-else-at-eq9223372036854775807.ensures.value
    (c.if-not-derives.ensures.right.0 refl) c.deref-in-Branch.ensures.value (ap refutation_of c.deref-in-Branch-2.ensures)
    (ap refutation_of c.deref-then-is_right.ensures) (minus-cast c.in-Branch.at c.from.result f c.from.ensures)
    (more-cast c.in-Branch.at c.from-in-Branch.result f c.from-in-Branch.ensures) (c.if-is_right.ensures.right.0 refl)
    c.is_right-then-is_right.ensures.right

pub returns-else-is_right-clause-right : goal.returns-else-is_right-clause-right
returns-else-is_right-clause-right t c =
    let f : FitsSigned w64 c.in-Branch.at = search rules in
    node-else (rows_in c.args.rows.now) c.in-Branch.derived.items c.deref-else-at-eq9223372036854775807.result.now
    c.deref-in-Branch.result.now
    c.in-Branch.column c.in-Branch.at (refutation_of c.in-Branch.low.value) (refutation_of c.deref-in-Branch-2.result.now)
    (refutation_of c.in-Branch.high.value) (refutation_of c.args.certificate.now) c.args.depth _ c.is_right.result
    (ap refutation_of c.in-Branch.is) (omega (arith, c.if-depth-eq0.false)) (not_max c.in-Branch.at f c.if-at-eq9223372036854775807.false)
    c.deref-else-at-eq9223372036854775807.ensures.value (c.if-not-derives.ensures.right.0 refl) c.deref-in-Branch.ensures.value
    (ap refutation_of c.deref-in-Branch-2.ensures) (minus-cast c.in-Branch.at c.from.result f c.from.ensures) c.if-is_right.false
    c.is_right.ensures.right
