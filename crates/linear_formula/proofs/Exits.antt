-- The error that a `?` passes on.
use Rattle.std.proofs.Common.{◌≡◌, Result, Err, subst}
use Rattle.std.specs.Prelude.{OnErr}
use Rattle.linear_formula.specs.declared.error.LinError.{LinError}
use Rattle.linear_formula.specs.declared.error.LinError.TheVariants.{Wide, Memory}

-- it is `Wide` only where the call's was
pub was_wide : {X Y : Type 0} (r : Result X LinError) (s : Result Y LinError) (e d : LinError) → r ≡ Err e → s ≡ Err d → d ≡ e →
    s ≡ Err Wide → r ≡ Err Wide
was_wide r s e d p q i w = cc

-- it is not `Wide` where memory ran out
pub not_wide : {Y : Type 0} (s : Result Y LinError) (d : LinError) → s ≡ Err d → d ≡ Memory → s ≡ Err Wide → ⊥
not_wide s d q i w = cc

-- what holds where there is an error, at that error
pub OnErr-at : {X : Type 0} (r : Result X LinError) (e : LinError) (P : Type 0) → r ≡ Err e → OnErr r P → P
OnErr-at {X = X} r e P i h = subst (λ (s : Result X LinError). OnErr s P) i h
