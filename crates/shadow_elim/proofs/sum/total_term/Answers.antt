use Rattle.std.proofs.Common.{◌≡◌, ◌∙◌, Err, List, ℤ, rules, ap, sym, subst, to_z, of_z, to_z-of_z, FitsSigned}
use Rattle.std.specs.Int.{w64}
use Rattle.linear_formula.specs.LinearSum.{LinearSum}
use Rattle.linear_formula.specs.Results.{combination}
use Rattle.shadow_elim.specs.RightLimit.{IsRight}
use Rattle.shadow_elim.proofs.Summing.{not-within, wide-right}
use Rattle.shadow_elim.proofs.sum.total_term.Goals as goal

pub returns-in_ok-kept-in-Err-Wide-clause-limit : goal.returns-in_ok-kept-in-Err-Wide-clause-limit
returns-in_ok-kept-in-Err-Wide-clause-limit c =
    let s = c.args.sum.now in
    let f : FitsSigned w64 c.args.sum.now.constant = search rules in
    record {
      same = c.in_ok-kept-in-Err-Wide.ensures;
      wide = not-within s c.as_slice.result.now (to_z w64 (of_z w64 c.args.sum.now.constant)) c.as_slice.ensures (to_z-of_z f)
          (c.in-Err-Wide.ensures.wide (ap Err c.in-Err-Wide.field-0-is));
    }

pub returns-in_ok-kept-in-Err-Wide-clause-right : goal.returns-in_ok-kept-in-Err-Wide-clause-right
returns-in_ok-kept-in-Err-Wide-clause-right c =
    let s = c.args.sum.now in
    let f : FitsSigned w64 c.args.sum.now.constant = search rules in
    let wide = not-within s c.as_slice.result.now (to_z w64 (of_z w64 c.args.sum.now.constant)) c.as_slice.ensures (to_z-of_z f)
    (c.in-Err-Wide.ensures.wide (ap Err c.in-Err-Wide.field-0-is)) in
    subst IsRight (sym c.in_ok-kept-in-Err-Wide.ensures) (wide-right s wide)

pub returns-in-Ok-clause-value : goal.returns-in-Ok-clause-value
returns-in-Ok-clause-value c =
    let f : FitsSigned w64 c.args.sum.now.constant = search rules in
    let a : combination c.as_slice.result.now (to_z w64 (of_z w64 c.args.sum.now.constant)) ≡ combination c.as_slice.result.now
    c.args.sum.now.constant = ap (combination c.as_slice.result.now) (to_z-of_z f) in
    c.in-Ok.ensures.value ∙ a ∙ ap (λ (s : List (ℤ × LinearSum)). combination s c.args.sum.now.constant) c.as_slice.ensures
