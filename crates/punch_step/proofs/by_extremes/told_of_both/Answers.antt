use Rattle.std.proofs.Common.{◌++◌, List, ℕ, subst}
use Rattle.std.specs.Prelude.{IfOk}
use Rattle.std.proofs.lemmas.Result.{IfOk-weaker}
use Rattle.linear_formula.specs.Extremes.{IsOutline}
use Rattle.linear_formula.specs.declared.formula.Atom.{Atom}
use Rattle.linear_formula.specs.declared.formula.Cube.{Cube}
use Rattle.punch_step.specs.ByExtremes.{IsTold, IsToldOf}
use Rattle.punch_step.proofs.PreOutlines.{same_outline, told_together}
use Rattle.punch_step.proofs.by_extremes.told_of_both.Goals as goal

pub returns : goal.returns
returns c =
    let source = c.args.source.now in
    let pre = c.args.pre.now in
    let both = c.in_ok-both.both in
    let left = c.in_ok-copied in
    let right = c.in_ok-copied-2 in
    let outline : (all more : List Atom) → IsOutline source all → IsOutline pre more → IsOutline both (all ++ more) =
    λ all more s p. c.in_ok-both.ensures all more
    (same_outline source left.field-0 all left.ensures.cube left.ensures.numbers left.ensures.count s)
    (same_outline pre right.field-0 more right.ensures.cube right.ensures.numbers right.ensures.count p) in
    IfOk-weaker c.told_of.result (IsTold both.numbers.items both.count both.cube.atoms)
    (λ t. (all more : List Atom) → IsOutline source all → IsOutline pre more →
    IsToldOf (source.cube.atoms ++ pre.cube.atoms) (all ++ more) t)
    (λ t h all more s p. told_together source pre both all more t s p (outline all more s p) h)
    (subst (λ (x : Cube). IfOk c.told_of.result (IsTold both.numbers.items both.count x.atoms)) c.of.ensures
    (subst (λ (ns : List ℕ). IfOk c.told_of.result (IsTold ns both.count c.of.result.atoms)) c.deref.ensures.value c.told_of.ensures))
