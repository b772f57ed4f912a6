-- Of the asked queries of a state, whether some stored step kills by it.
use Rattle.std.specs.Prelude.{◌≡◌, ℕ, Bool, true, false, List, length, slice_index_or}
use Rattle.query_rules.specs.Seen.{Seen}
use Rattle.bundle_make.specs.Bundling.{KillsByChild}

abbrev pub is_killed : List Bool → ℕ → Bool
is_killed ks j = slice_index_or ks j false

pub record AreKilled (s : Seen) (ks : List Bool) : Type 0 where
  pub many : length ks ≡ length s.asked
  pub kills : (j : ℕ) → is_killed ks j ≡ true → KillsByChild s.steps j
  pub all_kills : (j : ℕ) → KillsByChild s.steps j → is_killed ks j ≡ true
