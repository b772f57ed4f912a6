-- Coefficients that are divided in place.
use Rattle.std.proofs.Common.{◌≡◌, ℕ, suc, zero, ◌<◌, List, [], ◌∷◌, ◌++◌, length, get_or, set, take, drop, ℤ, arith, refl, ap}
use Rattle.shadow_elim.specs.Division.{divided_parts, floor_quotient}

-- the first coefficients divided, the others as they were
abbrev pub partly_divided : ℕ → ℕ → List (ℕ × ℤ) → List (ℕ × ℤ)
partly_divided d k ps = divided_parts d (take k ps) ++ drop k ps

pub divided-next : (d k : ℕ) (ps : List (ℕ × ℤ)) (e : ℕ × ℤ) (z : ℤ) → k < length ps → z ≡ floor_quotient (get_or ps k e).1 d →
    set (partly_divided d k ps) k ((get_or ps k e).0, z) ≡ partly_divided d (suc k) ps
divided-next d k [] e z h f = absurd (omega (arith, h))
divided-next d zero (p ∷ ps) e z h f = ap (λ y. (p.0, y) ∷ ps) f
divided-next d (suc k) (p ∷ ps) e z h f = ap (λ qs. (p.0, floor_quotient p.1 d) ∷ qs) (divided-next d k ps e z (omega (arith, h)) f)

pub divided-here : (d k : ℕ) (ps : List (ℕ × ℤ)) (e : ℕ × ℤ) → k < length ps → get_or (partly_divided d k ps) k e ≡ get_or ps k e
divided-here d k [] e h = absurd (omega (arith, h))
divided-here d zero (p ∷ ps) e h = refl
divided-here d (suc k) (p ∷ ps) e h = divided-here d k ps e (omega (arith, h))

pub divided-length : (d k : ℕ) (ps : List (ℕ × ℤ)) → length (partly_divided d k ps) ≡ length ps
divided-length d zero ps = refl
divided-length d (suc k) [] = refl
divided-length d (suc k) (p ∷ ps) = ap suc (divided-length d k ps)
