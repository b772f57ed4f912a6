-- What is said of a search is a proposition, so that a field can keep it.
use Rattle.std.specs.Prelude.{◌≡◌, ℕ, Bool, List, [], ◌∷◌, Option, Some, None, Vec}
use Rattle.std.proofs.Common.{ap, sym, ◌∙◌}
use Rattle.std.specs.Coded.{Coded-set, coded_ℕ, coded_bool, coded×, coded_option, le_prop, ×_prop, Π_prop}
use mathlib.Core.HLevel.{is_prop→PathP, ⊥_prop}
use Rattle.std.specs.declared.alloc.Global.{Global}
use Rattle.abstract_path.specs.Routes.{IfShortest, IsOpen, IsRoute}

IsOpen-prop : (edges : List (ℕ × ℕ)) (shut : List Bool) (e a b : ℕ) →
    IsProp (IsOpen edges shut e a b)
IsOpen-prop edges shut e a b = ×_prop (Coded-set (coded_option (coded× coded_ℕ coded_ℕ)) _ _)
    (Coded-set coded_bool _ _)

IsRoute-prop : (edges : List (ℕ × ℕ)) (shut : List Bool) (from : ℕ) (path : List ℕ) (to : ℕ) →
    IsProp (IsRoute edges shut from path to)
IsRoute-prop edges shut from [] to u v = Coded-set coded_ℕ to from u v
IsRoute-prop edges shut from (n ∷ path) to u v = λ i. (
  same i,
  is_prop→PathP (λ j. IsOpen edges shut n from (same j))
      (λ j. IsOpen-prop edges shut n from (same j))
      u.1 v.1 i,
  is_prop→PathP (λ j. IsRoute edges shut (same j) path to)
      (λ j. IsRoute-prop edges shut (same j) path to) u.2 v.2 i,
) where
  second : Option (ℕ × ℕ) → ℕ
  second (Some e) = e.1
  second None = 0

  same : u.0 ≡ v.0
  same = ap second (sym u.1.0 ∙ v.1.0)

pub IfShortest-prop : (edges : List (ℕ × ℕ)) (shut : List Bool) (from to : ℕ)
    (found : Option (Vec ℕ Global)) → IsProp (IfShortest edges shut from to found)
IfShortest-prop edges shut from to (Some path) = ×_prop (IsRoute-prop edges shut from path.items to)
    (Π_prop (λ other. Π_prop (λ r. le_prop)))
IfShortest-prop edges shut from to None = Π_prop (λ path. Π_prop (λ r. ⊥_prop))
