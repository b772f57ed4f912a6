-- The words of the command line: which are a command.
use Rattle.std.specs.Prelude.{◌≡◌, ℕ, ◌+◌, ◌-◌, ◌*◌, ◌≤◌, nat_le, ◌==◌, Bool, true, false, ◌&&◌, List, [], ◌∷◌, ◌++◌, length, map, ℤ, pos, neg_ℤ, codes, string_bytes, replicate, MatchBool, Contains, filter}
use Rattle.std.specs.List.{list_all}
use Rattle.std.specs.Str.{bytes_eq}
use Rattle.std.specs.declared.string.String.{String}
use Rattle.std.specs.declared.alloc.Global.{Global}

pub data Command : Type 0 where
  check : (budget workers : ℕ) → Command
  replay : (fuel : ℕ) (list : List ℤ) → Command
  workload : (number budget workers : ℕ) → Command
  bundle : (number budget : ℕ) → Command
  recheck : Command
  sweep : (edges : ℕ) → Command
  edit : (old_length budget workers : ℕ) → Command

-- Numbers

abbrev pub is_digit : ℕ → Bool
is_digit b = nat_le 48 b && nat_le b 57

abbrev pub value_from : ℕ → List ℕ → ℕ
value_from n [] = n
value_from n (b ∷ bs) = value_from (10 * n + (b - 48)) bs

-- `0`, or digits without a leading 0
abbrev pub is_numeral : List ℕ → Bool
is_numeral [] = false
is_numeral (b ∷ []) = is_digit b
is_numeral (b ∷ c ∷ bs) = nat_le 49 b && nat_le b 57 && list_all is_digit (c ∷ bs)

abbrev pub max_digits : ℕ
max_digits = 10

-- a number of at most `max_digits` digits, from `low` to `high`
pub record IsNumber (low high : ℕ) (text : List ℕ) (n : ℕ) : Type 0 where
  pub numeral : is_numeral text ≡ true
  pub short : length text ≤ max_digits
  pub value : n ≡ value_from 0 text
  pub low_enough : low ≤ n
  pub high_enough : n ≤ high

-- Lists of inputs

-- `0`, or an optional `-` and digits without a leading 0, in the 64-bit range
abbrev pub IsValue : List ℕ → ℤ → Type 0
IsValue [] z = ⊥
IsValue (b ∷ bs) z =
    MatchBool (b == 45)
    ((is_numeral bs ≡ true) × ((bs ≡ 48 ∷ []) → ⊥) × (z ≡ neg_ℤ (pos (value_from 0 bs)))
    × (value_from 0 bs ≤ 9223372036854775808))
    ((is_numeral (b ∷ bs) ≡ true) × (z ≡ pos (value_from 0 (b ∷ bs)))
    × (value_from 0 (b ∷ bs) ≤ 9223372036854775807))

-- spaces, a value, spaces
pub record IsPiece (text : List ℕ) (z : ℤ) : Type 0 where
  pub before : ℕ
  pub value : List ℕ
  pub behind : ℕ
  pub whole : text ≡ replicate before 32 ++ (value ++ replicate behind 32)
  pub read : IsValue value z

-- pieces parted by commas
pub data ArePieces : List ℕ → List ℤ → Type 0 where
  one : {text : List ℕ} {z : ℤ} → IsPiece text z → ArePieces text (z ∷ [])
  more : {text rest : List ℕ} {z : ℤ} {zs : List ℤ} → IsPiece text z → ArePieces rest zs →
      ArePieces (text ++ 44 ∷ rest) (z ∷ zs)

abbrev pub max_inputs : ℕ
max_inputs = 10000

-- `[`, no value or at most 10,000 values parted by commas, and `]`, with any spaces between these
-- parts
pub data IsList : List ℕ → List ℤ → Type 0 where
  none : (n : ℕ) → IsList (91 ∷ (replicate n 32 ++ 93 ∷ [])) []
  some : {text : List ℕ} {zs : List ℤ} → ArePieces text zs → length zs ≤ max_inputs →
      IsList (91 ∷ (text ++ 93 ∷ [])) zs

-- Options and other words

abbrev pub Text : Type 0
Text = List ℕ

-- The words after a command's name, where its options have these names: the options that they
-- give, each with its text, and the words that are none. An option is two words, `--name` and its
-- text, whatever that looks like, or one word, `--name=` and its text. One `--` may stand, after
-- which no word is an option. (What looks like an option is no number and no list, so it is none of
-- the other words of a command.)
pub data AreParted (names : List Text) : (dashed : Bool) → List Text →
    (options : List (Text × Text)) → (others : List Text) → Type 0 where
  end : {d : Bool} → AreParted names d [] [] []
  other_word : {d : Bool} {word : Text} {words others : List Text}
      {options : List (Text × Text)} → AreParted names d words options others →
      AreParted names d (word ∷ words) options (word ∷ others)
  two_words : {name text : Text} {words others : List Text} {options : List (Text × Text)} →
      Contains names name → AreParted names false words options others →
      AreParted names false ((codes "--" ++ name) ∷ text ∷ words) ((name, text) ∷ options) others
  one_word : {name text : Text} {words others : List Text} {options : List (Text × Text)} →
      Contains names name → AreParted names false words options others →
      AreParted names false ((codes "--" ++ (name ++ 61 ∷ text)) ∷ words)
      ((name, text) ∷ options) others
  dashes : {words others : List Text} {options : List (Text × Text)} →
      AreParted names true words options others →
      AreParted names false (codes "--" ∷ words) options others

-- the texts that options of this name have
abbrev pub texts_of : Text → List (Text × Text) → List Text
texts_of name options = map (λ o. o.1) (filter (λ o. bytes_eq o.0 name) options)

-- a number from 1 to `high`, given once, or the default where it isn't given
pub data IsGivenOr (default high : ℕ) : List Text → ℕ → Type 0 where
  missing : IsGivenOr default high [] default
  given : {text : Text} {n : ℕ} → IsNumber 1 high text n → IsGivenOr default high (text ∷ []) n

abbrev pub max_fuel : ℕ
max_fuel = 1000000000

abbrev pub default_fuel : ℕ
default_fuel = 1000000

abbrev pub GivesFuel : List (Text × Text) → ℕ → Type 0
GivesFuel options n = IsGivenOr default_fuel max_fuel (texts_of (codes "fuel") options) n

abbrev pub max_budget : ℕ
max_budget = 20000

abbrev pub default_budget : ℕ
default_budget = 2000

abbrev pub GivesBudget : List (Text × Text) → ℕ → Type 0
GivesBudget options n = IsGivenOr default_budget max_budget (texts_of (codes "budget") options) n

abbrev pub max_workers : ℕ
max_workers = 16

abbrev pub default_workers : ℕ
default_workers = 4

abbrev pub GivesWorkers : List (Text × Text) → ℕ → Type 0
GivesWorkers options n =
    IsGivenOr default_workers max_workers (texts_of (codes "workers") options) n

abbrev pub max_edges : ℕ
max_edges = 5000

abbrev pub default_edges : ℕ
default_edges = 2000

abbrev pub GivesEdges : List (Text × Text) → ℕ → Type 0
GivesEdges options n = IsGivenOr default_edges max_edges (texts_of (codes "edges") options) n

-- Commands

-- the most assertions of a program
abbrev pub max_asserts : ℕ
max_asserts = 64

-- the most bytes of the old source of an edit
abbrev pub max_old_length : ℕ
max_old_length = 65536

-- the most procedures of a workload, beside `main`
abbrev pub max_number : ℕ
max_number = 60

abbrev pub replay_options : List Text
replay_options = codes "fuel" ∷ []

abbrev pub check_options : List Text
check_options = codes "budget" ∷ codes "workers" ∷ []

abbrev pub bundle_options : List Text
bundle_options = codes "budget" ∷ []

abbrev pub sweep_options : List Text
sweep_options = codes "edges" ∷ []

pub data AreWords : List Text → Command → Type 0 where
  is_check : {words : List Text} {options : List (Text × Text)} {b w : ℕ} →
      AreParted check_options false words options [] → GivesBudget options b →
      GivesWorkers options w → AreWords (codes "check" ∷ words) (check b w)
  is_replay : {words : List Text} {options : List (Text × Text)} {list : Text} {f : ℕ}
      {zs : List ℤ} → AreParted replay_options false words options (list ∷ []) →
      GivesFuel options f → IsList list zs → AreWords (codes "replay" ∷ words) (replay f zs)
  is_workload : {words : List Text} {options : List (Text × Text)} {number : Text} {n b w : ℕ} →
      AreParted check_options false words options (number ∷ []) → IsNumber 1 max_number number n →
      GivesBudget options b → GivesWorkers options w →
      AreWords (codes "workload" ∷ words) (workload n b w)
  is_bundle : {words : List Text} {options : List (Text × Text)} {number : Text} {k b : ℕ} →
      AreParted bundle_options false words options (number ∷ []) →
      IsNumber 1 max_asserts number k → GivesBudget options b →
      AreWords (codes "bundle" ∷ words) (bundle k b)
  is_recheck : {words : List Text} {options : List (Text × Text)} →
      AreParted [] false words options [] → AreWords (codes "recheck" ∷ words) recheck
  is_sweep : {words : List Text} {options : List (Text × Text)} {e : ℕ} →
      AreParted sweep_options false words options [] → GivesEdges options e →
      AreWords (codes "sweep" ∷ words) (sweep e)
  is_edit : {words : List Text} {options : List (Text × Text)} {number : Text} {n b w : ℕ} →
      AreParted check_options false words options (number ∷ []) →
      IsNumber 1 max_old_length number n → GivesBudget options b → GivesWorkers options w →
      AreWords (codes "edit" ∷ words) (edit n b w)

-- the words are this command
abbrev pub IsCommand : List (String Global) → Command → Type 0
IsCommand words c = AreWords (map string_bytes words) c

-- the words are no command
abbrev pub IsNoCommand : List (String Global) → Type 0
IsNoCommand words = (c : Command) → IsCommand words c → ⊥

-- words are one command at most
abbrev pub HasOneCommand : Type 0
HasOneCommand = (ws : List (List ℕ)) (c d : Command) → AreWords ws c → AreWords ws d → c ≡ d
