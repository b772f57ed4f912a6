-- Calls at each element of a list.
use Rattle.std.specs.Prelude.{ℕ, List}
use Rattle.std.specs.Fork.{ChangesEach}
use denote.Param.Members.{Shared}
use denote.Ref.{MutBor}

-- each element is what a call of f left at that place of the old list
pub record AreCalled {F T : Type 0}
    (g : Shared F (ℕ × (MutBor T × Unit {0})) (Unit {0} × (MutBor T × Unit {0}))) (f : F)
    (olds news : List T) : Type 0 where
  pub each : ChangesEach g f olds news
