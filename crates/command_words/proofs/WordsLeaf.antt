-- The words after a command's name, as `clap` walks over them.
use Rattle.std.proofs.Common.{◌≡◌, ◌∙◌, ◌⊎◌, ℕ, Bool, cond, true, false, List, [], ◌∷◌, ◌++◌, refl, Option, Some, None, ap, sym, codes, option_map}
use Rattle.std.specs.Prelude.{Contains}
use Rattle.std.specs.List.{fold}
use Rattle.std.specs.Option.{option_map_or}
use Rattle.std.specs.Str.{bytes_eq}
use Rattle.clap.specs.Kinds.{or_else}
use Rattle.clap.specs.Lexer.{long_of}
use Rattle.clap.specs.Simple.{Shape, new_rule, new_shape}
use Rattle.clap.specs.Walk.{Held, Row, Rule, Walk, arg_by_id, arg_by_index, arg_by_long, arg_by_short, has_row, idle, option, settled, used_by_id, walked}
use Rattle.clap.specs.Faults.{settle_fault, turn_fault, use_fault, walk_fault}
use Rattle.clap.specs.declared.builder.action.ArgAction.TheVariants.{Set}
use Rattle.clap.specs.declared.builder.value_parser.ValueParser.TheVariants as vp
use Rattle.clap.specs.declared.error.kind.ErrorKind.TheVariants as kind
use Rattle.command_words.specs.Words.{Text, texts_of}
use Rattle.command_words.proofs.WordsRows.{Texts, has_no_row, no_row, row_added, rows}
use Rattle.command_words.proofs.WordsShapes.{spelled}

-- The rules of a command that is built

-- an argument of one text
abbrev pub one_text : Text → Option Text → Option ℕ → Rule
one_text id long index = record (new_rule id) {
  long = long;
  index = index;
  action = Some Set;
  parser = Some vp.String;
  range = Some (record { start_inclusive = 1; end_inclusive = 1 });
}

abbrev pub option_of : Text → Rule
option_of name = one_text name (Some name) None

abbrev pub word_of : Text → Rule
word_of name = one_text name None (Some 1)

abbrev pub leaf : Text → List Rule → Shape
leaf name c = record (new_shape name) {
  rules = c;
  no_binary_name = true;
  disable_help_flag = true;
  disable_help_subcommand = true;
  disable_version_flag = true;
  is_built = true;
}

-- the options have these names, and a word that is none has another one
pub record HasOptions (c : List Rule) (names : List Text) (other : Text) : Type 0 where
  pub known : (n : Text) → Contains names n → arg_by_long c n ≡ Some (option_of n)
  pub unknown : (n : Text) → Contains names n ⊎ (arg_by_long c n ≡ None)
  pub by_id : (n : Text) → Contains names n → arg_by_id c n ≡ Some (option_of n)
  pub no_short : (x : ℕ) → arg_by_short c x ≡ None
  pub apart : (n : Text) → Contains names n → bytes_eq other n ≡ false
  pub apart_back : (n : Text) → Contains names n → bytes_eq n other ≡ false
  pub spells : (n : Text) → Contains names n → (v : Option Text) → long_of (codes "--" ++ spelled n v) ≡ Some (n, v)

-- how many words that are no options may follow at a position
pub data Place (c : List Rule) (other : Text) : (room position : ℕ) → Type 0 where
  full : {position : ℕ} → arg_by_index c position ≡ None → Place c other 0 position
  free : arg_by_index c 1 ≡ Some (word_of other) → arg_by_index c 2 ≡ None → arg_by_id c other ≡ Some (word_of other) →
      Place c other 1 1

-- What is held between two words: the texts whose rows stand, and perhaps one more, which is pending

abbrev pub Pending : Type 0
Pending = Option (Text × Text)

abbrev pub held : Texts → Pending → Held
held given p = record { rows = rows given; pending = option_map (λ q. (q.0, q.1 ∷ [])) p; skip = 0 }

abbrev pub whole : Texts → Pending → Texts
whole given None = given
whole given (Some q) = given ++ q ∷ []

pub record Reads (c : List Rule) (id : Text) : Type 0 where
  pub long : Option Text
  pub index : Option ℕ
  pub found : arg_by_id c id ≡ Some (one_text id long index)

abbrev pub Readable : List Rule → Pending → Type 0
Readable c None = Unit {0}
Readable c (Some q) = Reads c q.0

abbrev pub Fresh : Texts → Pending → Type 0
Fresh given None = Unit {0}
Fresh given (Some q) = texts_of q.0 given ≡ []

-- a use of an argument whose name has a row already is refused
use_by_row : (id text : Text) (long : Option Text) (index : Option ℕ) (rs : List Row) (b : Bool) → has_row id rs ≡ b →
    use_fault false (one_text id long index) (text ∷ []) rs ≡ cond b (kind.ArgumentConflict ∷ []) []
use_by_row id text long index rs true e = rw e refl
use_by_row id text long index rs false e = rw e refl

pub use_well : (id text : Text) (long : Option Text) (index : Option ℕ) (given : Texts) → texts_of id given ≡ [] →
    use_fault false (one_text id long index) (text ∷ []) (rows given) ≡ []
use_well id text long index given none = use_by_row id text long index (rows given) false (has_no_row id given none)

pub use_clear : (id text : Text) (long : Option Text) (index : Option ℕ) (given : Texts) →
    use_fault false (one_text id long index) (text ∷ []) (rows given) ≡ [] → texts_of id given ≡ []
use_clear id text long index given h = no_row id given (pick (has_row id (rows given)) refl)
  where
    pick : (b : Bool) → has_row id (rows given) ≡ b → b ≡ false
    pick true e = let k = sym (use_by_row id text long index (rows given) true e) ∙ h in cc
    pick false e = refl

module _ (c : List Rule) (given : Texts) where
  settles_as : (q : Text × Text) → (r : Reads c q.0) →
      settle_fault c false (held given (Some q)) ≡ use_fault false (one_text q.0 r.long r.index) (q.1 ∷ []) (rows given)
  settles_as q r = ap (λ o. option_map_or (λ a. use_fault false a (q.1 ∷ []) (rows given)) o []) r.found

  pub settle_clear : (p : Pending) → Readable c p → settle_fault c false (held given p) ≡ [] → Fresh given p
  settle_clear None r h = tt
  settle_clear (Some q) r h = use_clear q.0 q.1 r.long r.index given (sym (settles_as q r) ∙ h)

  pub settle_well : (p : Pending) → Readable c p → Fresh given p → settle_fault c false (held given p) ≡ []
  settle_well None r f = refl
  settle_well (Some q) r f = settles_as q r ∙ use_well q.0 q.1 r.long r.index given f

  pub settled_is : (p : Pending) → Readable c p → Fresh given p → settled c (held given p) ≡ held (whole given p) None
  settled_is None r f = refl
  settled_is (Some q) r f =
      ap (λ (rs : List Row). record { rows = rs; pending = None; skip = 0 })
      (ap (λ o. used_by_id o (q.1 ∷ []) (rows given)) r.found ∙ row_added q.0 q.1 given f)

-- Where the walk stands

abbrev pub at : Texts → Pending → ℕ → Bool → Walk
at given p position dashed = record {
  held = held given p;
  waiting = idle;
  position = position;
  is_trailing = dashed;
  stopped = None;
}

-- an option waits for its text
abbrev pub awaited : Texts → Text → Held
awaited given name = record { rows = rows given; pending = Some (name, []); skip = 0 }

abbrev pub awaits : Texts → Text → ℕ → Bool → Walk
awaits given name position dashed = record {
  held = awaited given name;
  waiting = option name;
  position = position;
  is_trailing = dashed;
  stopped = None;
}

-- what `clap` makes of the words from there: nothing fails, and these are the texts
pub record Ends (name : Text) (c : List Rule) (w : Walk) (words : List Text) (all : Texts) : Type 0 where
  pub walks : walk_fault (leaf name c) [] w words ≡ []
  pub settles : settle_fault c false (fold (walked c []) w words).held ≡ []
  pub rows_are : (settled c (fold (walked c []) w words).held).rows ≡ rows all

module _ (name : Text) (c : List Rule) where
  -- one more word
  pub ends_more : (w next : Walk) (word : Text) (words : List Text) (all : Texts) → turn_fault (leaf name c) [] w word ≡ [] →
      walked c [] w word ≡ next → Ends name c next words all → Ends name c w (word ∷ words) all
  unfolding walk_fault
  ends_more w next word words all turn is h = record {
    walks = ap (λ k. or_else k (walk_fault (leaf name c) [] (walked c [] w word) words)) turn
        ∙ ap (λ v. walk_fault (leaf name c) [] v words) is ∙ h.walks;
    settles = ap (λ v. settle_fault c false (fold (walked c []) v words).held) is ∙ h.settles;
    rows_are = ap (λ v. (settled c (fold (walked c []) v words).held).rows) is ∙ h.rows_are;
  }

  pub ends_here : (given : Texts) (p : Pending) (position : ℕ) (d : Bool) → Readable c p → Fresh given p →
      Ends name c (at given p position d) [] (whole given p)
  unfolding walk_fault
  ends_here given p position d r f = record {
    walks = refl;
    settles = settle_well c given p r f;
    rows_are = ap (λ (h : Held). h.rows) (settled_is c given p r f);
  }
