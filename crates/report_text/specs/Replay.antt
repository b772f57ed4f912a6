-- The text of a replay.
use Rattle.std.specs.Prelude.{ℕ, ◌<◌, List, [], ◌∷◌, ◌++◌, codes, slice_get, Some, Option, None}
use Rattle.std.specs.Fmt.{decimal, signed_decimal}
use Rattle.c_tree.specs.declared.tree.AssertPlace.{AssertPlace}
use Rattle.c_tree.specs.Syntax.{PureProgram}
use Rattle.c_tree.specs.Meaning.{Returned, Stopped, Failed, ReplayOutcome, Comes, Starved, Fuel}

abbrev pub used_text : ℕ → List ℕ
used_text used = codes ", inputs used " ++ (decimal used ++ 10 ∷ [])

-- the place of the assertion that failed
abbrev pub failed_text : Option AssertPlace → ℕ → List ℕ
failed_text None used = []
failed_text (Some a) used = codes "failed "
    ++ (decimal a.at.line ++ (codes ":" ++ (decimal a.at.column ++ used_text used)))

-- an assertion that failed has a place
abbrev pub HasPlace : ℕ → ReplayOutcome → Type 0
HasPlace n (Comes (Failed id)) = id < n
HasPlace n (Comes (Returned v)) = Unit {0}
HasPlace n (Comes Stopped) = Unit {0}
HasPlace n Starved = Unit {0}
HasPlace n Fuel = Unit {0}

abbrev pub replay_text : PureProgram → ℕ → ReplayOutcome → ℕ → List ℕ
replay_text P fuel (Comes (Returned v)) used = codes "returned "
    ++ (signed_decimal v ++ used_text used)
replay_text P fuel (Comes (Failed id)) used = failed_text (slice_get P.asserts id) used
replay_text P fuel (Comes Stopped) used = codes "stopped" ++ used_text used
replay_text P fuel Starved used = codes "starved" ++ used_text used
replay_text P fuel Fuel used = codes "fuel " ++ (decimal fuel ++ (codes " spent" ++ 10 ∷ []))
