-- What is written of an edit beside the report of its new source.
use Rattle.std.specs.Prelude.{ℕ, List, [], ◌∷◌, ◌++◌, codes}
use Rattle.std.specs.Fmt.{decimal}

-- of `all` summaries of the old source `kept` are kept
abbrev pub kept_line : (kept all : ℕ) → List ℕ
kept_line kept all =
    codes "kept " ++ (decimal kept ++ (codes " of " ++ (decimal all ++ 10 ∷ [])))

-- there are fewer bytes than the old source is to have
abbrev pub short_source_text : ℕ → List ℕ
short_source_text length =
    codes "refused: old source shorter than " ++ (decimal length ++ (codes " bytes" ++ 10 ∷ []))

-- a refusal of the old source
abbrev pub old_refusal_text : List ℕ → List ℕ
old_refusal_text line = codes "old: " ++ line
