-- What is written of words that are no command.
use Rattle.std.specs.Prelude.{ℕ, List, [], ◌∷◌, ◌++◌, codes}

abbrev pub usage_text : List ℕ
usage_text =
    codes "usage: smash check [--budget n] [--workers n]" ++
    (10 ∷ codes "       smash replay [--fuel n] list" ++
    (10 ∷ codes "       smash workload n [--budget n] [--workers n]" ++
    (10 ∷ codes "       smash bundle k [--budget n]" ++
    (10 ∷ codes "       smash recheck" ++
    (10 ∷ codes "       smash sweep [--edges n]" ++
    (10 ∷ codes "       smash edit n [--budget n] [--workers n]" ++ 10 ∷ []))))))
