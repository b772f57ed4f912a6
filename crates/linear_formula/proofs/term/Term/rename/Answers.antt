use Rattle.std.proofs.Common.{ℕ, sym, subst, ap, ◌∙◌}
use Rattle.std.specs.Prelude.{unwrap_or}
use Rattle.std.specs.BTreeMap.{get}
use Rattle.std.specs.Ordering.{nat_cmp}
use Rattle.std.proofs.lemmas.Result.{err_from_is_err_and}
use Rattle.linear_formula.specs.steps.Order.{AllWithin}
use Rattle.linear_formula.specs.Results.{renamed_parts, renamed_by}
use Rattle.linear_formula.proofs.Exits.{was_wide}
use Rattle.linear_formula.proofs.Limits.{IsTerm-from_test, Within-from_test}
use Rattle.linear_formula.proofs.term.Term.rename.Goals as goal

pub add_renamed-requires-clause-limits : goal.add_renamed-requires-clause-limits
add_renamed-requires-clause-limits c =
    subst (λ l. AllWithin l) (sym c.parts.ensures.value) (IsTerm-from_test c.args.self.now c.parts.ensures.kept).within.coefficients

pub returns-in_err-items-clause-wide : goal.returns-in_err-items-clause-wide
returns-in_err-items-clause-wide c = λ w h.
    let f : ℕ → ℕ = λ x. unwrap_or (get nat_cmp c.args.columns.now x) x in
    let p = err_from_is_err_and c.from_residual-in_err-items.result c.from_residual-in_err-items.ensures.1 in
    let was = was_wide c.parts-2.result c.from_residual-in_err-items.result c.in_err-items.field-0.0 p.0 c.in_err-items.was p.1 p.2 w in
    let e = c.in_ok-add_renamed.ensures ∙ ap (renamed_parts f) c.parts.ensures.value in
    c.parts-2.ensures.wide was (subst (λ l. AllWithin l) (sym e) (Within-from_test (renamed_by f c.args.self.now) h).coefficients)
