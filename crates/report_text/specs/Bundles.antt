-- What is written of bundles, of those that are made and of those that are checked.
use Rattle.std.specs.Prelude.{ℕ, List, [], ◌∷◌, ◌++◌, codes}
use Rattle.std.specs.Fmt.{decimal}
use Rattle.c_tree.specs.declared.tree.AssertPlace.{AssertPlace}

-- the place of an assertion's name
abbrev pub place_text : AssertPlace → List ℕ
place_text a = decimal a.at.line ++ (codes ":" ++ decimal a.at.column)

-- the assertion is proved, and the bundle is longer than one may be
abbrev pub long_proof_line : AssertPlace → List ℕ
long_proof_line a = place_text a ++ (codes ": proved, bundle too long" ++ 10 ∷ [])

abbrev pub accepted_line : AssertPlace → List ℕ
accepted_line a = codes "accepted " ++ (place_text a ++ 10 ∷ [])

-- claims have numbers from 0
abbrev pub rejected_line : ℕ → List ℕ
rejected_line claim = codes "rejected claim " ++ (decimal claim ++ 10 ∷ [])

abbrev pub long_bundle_text : List ℕ
long_bundle_text = codes "refused: bundle longer than 16777216 bytes" ++ 10 ∷ []

abbrev pub no_bundle_text : List ℕ
no_bundle_text = codes "refused: not a bundle" ++ 10 ∷ []

abbrev pub no_assertion_text : List ℕ
no_assertion_text = codes "refused: no such assertion" ++ 10 ∷ []
