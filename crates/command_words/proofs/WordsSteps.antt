-- One word of a command, as `clap` takes it.
use Rattle.std.proofs.Common.{◌≡◌, ◌∙◌, ℕ, zero, suc, ◌&&◌, ◌||◌, Bool, true, false, List, [], ◌∷◌, ◌++◌, length, refl, Option, Some, None, ap, sym, codes, option_map}
use Rattle.std.specs.Prelude.{slice_get}
use Rattle.std.specs.Option.{option_map_or}
use Rattle.std.specs.Str.{bytes_eq, chars}
use Rattle.clap.specs.declared.error.kind.ErrorKind.TheVariants as kind
use Rattle.clap.specs.Kinds.{Kinds, or_else}
use Rattle.clap.specs.Lexer.{long_of, short_of}
use Rattle.clap.specs.Walk.{Held, Row, Rule, Walk, arg_by_id, arg_by_index, arg_by_long, arg_by_short, idle, option, is_pending, pushed, reacted, settled, to_positional, used, walked}
use Rattle.std.proofs.lemmas.Str.{chars-nil}
use Rattle.clap.specs.Walk as outcome
use Rattle.clap.proofs.WalkLemmas.{bundle_ends}
use Rattle.clap.specs.Faults.{flags_fault, positional_fault, react_fault, settle_fault, turn_fault, use_fault}
use Rattle.command_words.specs.Words.{Text, texts_of}
use Rattle.command_words.proofs.WordsRows.{Texts, row_added, same_text}
use Rattle.command_words.proofs.WordsShapes.{HasNoFlag, IsOther}
use Rattle.command_words.proofs.WordsLeaf.{Fresh, Pending, Place, Readable, at, awaited, awaits, free, full, held, leaf, option_of, settle_clear, settle_well, settled_is, use_clear, use_well, whole, word_of}

pub both_none : (a b : Kinds) → or_else a b ≡ [] → (a ≡ []) × (b ≡ [])
both_none [] b h = (refl, h)
both_none (x ∷ xs) b h = cc

pub none_both : (a b : Kinds) → a ≡ [] → b ≡ [] → or_else a b ≡ []
none_both a b g h = ap (λ x. or_else x b) g ∙ h

pub no_flag_fault : (c : List Rule) (flags : Text) → slice_get (chars flags) 0 ≡ None → (k : ℕ) (h : Held) → flags_fault c false k flags 0 h
    ≡ []
unfolding flags_fault
no_flag_fault c flags none zero h = refl
no_flag_fault c flags none (suc k) h = rw none refl

-- a word may go to an argument that is no option: after `--`, or where it looks like none
abbrev pub Goes : Bool → Text → Type 0
Goes true word = Unit {0}
Goes false word = IsOther word

module _ (name : Text) (c : List Rule) (given : Texts) (p : Pending) (position : ℕ) (word : Text) where
  -- an option with its text in its word
  module _ (n text : Text) (no : bytes_eq word (codes "--") ≡ false) (is : long_of word ≡ Some (n, Some text))
      (found : arg_by_long c n ≡ Some (option_of n)) where
    pub equals_turn : turn_fault (leaf name c) [] (at given p position false) word
        ≡ or_else (react_fault c false (option_of n) (text ∷ []) (held given p)) []
    equals_turn = rw (no, is, found) refl

    pub equals_walk : walked c [] (at given p position false) word ≡ record (at given p position false) {
      held = reacted c (option_of n) (text ∷ []) (held given p);
    }
    unfolding walked
    equals_walk = rw (no, is, found) refl

  -- an option whose text is in the next word
  module _ (n : Text) (no : bytes_eq word (codes "--") ≡ false) (is : long_of word ≡ Some (n, None))
      (found : arg_by_long c n ≡ Some (option_of n)) where
    pub name_turn : turn_fault (leaf name c) [] (at given p position false) word ≡ or_else (settle_fault c false (held given p)) []
    name_turn = rw (no, is, found) refl

    pub name_walk : walked c [] (at given p position false) word ≡ record (at given p position false) {
      held = record (settled c (held given p)) { pending = Some (n, []) };
      waiting = option n;
    }
    unfolding walked
    name_walk = rw (no, is, found) refl

  -- `--`
  module _ (yes : bytes_eq word (codes "--") ≡ true) where
    pub dashes_turn : turn_fault (leaf name c) [] (at given p position false) word ≡ []
    dashes_turn = rw yes refl

    pub dashes_walk : walked c [] (at given p position false) word ≡ at given p position true
    unfolding walked
    dashes_walk = rw yes refl

  -- an option that isn't known
  pub unknown_turn : (n : Text) (v : Option Text) → bytes_eq word (codes "--") ≡ false → long_of word ≡ Some (n, v) → arg_by_long c n
      ≡ None →
      turn_fault (leaf name c) [] (at given p position false) word ≡ [] → ⊥
  unknown_turn n v plain is none h = let k = rw (plain, is, none) at h in cc

  -- a word that is no option
  other_at : (o : Option Text) → short_of word ≡ o → HasNoFlag o → bytes_eq word (codes "--") ≡ false → long_of word ≡ None →
      turn_fault (leaf name c) [] (at given p position false) word ≡ turn_fault (leaf name c) [] (at given p position true) word
  other_at None short none plain is = rw (plain, is, short) refl
  other_at (Some flags) short none plain is =
      rw (
        plain,
        is,
        short,
        no_flag_fault c flags none (length flags) (held given p),
        ← bundle_ends c (length flags) flags 0 outcome.plain
            (held given p) (sym none),
      ) refl

  pub other_turn : (d : Bool) → Goes d word → turn_fault (leaf name c) [] (at given p position d) word
      ≡ option_map_or (λ a. positional_fault c false a (held given p)) (arg_by_index c position) (kind.UnknownArgument ∷ [])
  other_turn true g = refl
  other_turn false i = other_at (short_of word) refl i.no_flag i.no_dashes i.no_long

  walk_at : (o : Option Text) → short_of word ≡ o → HasNoFlag o → bytes_eq word (codes "--") ≡ false → long_of word ≡ None →
      walked c [] (at given p position false) word ≡ to_positional c (arg_by_index c position) word (at given p position false)
      (held given p)
  unfolding walked
  walk_at None short none plain is = rw (plain, is, short) refl
  walk_at (Some flags) short none plain is =
      rw (plain, is, short, ← bundle_ends c (length flags) flags 0 outcome.plain (held given p) (sym none)) refl

  pub other_walk : (d : Bool) → Goes d word → walked c [] (at given p position d) word
      ≡ to_positional c (arg_by_index c position) word (at given p position d) (held given p)
  unfolding walked
  other_walk true g = refl
  other_walk false i = walk_at (short_of word) refl i.no_flag i.no_dashes i.no_long

-- no argument takes several values
not_several : (id : Text) (p : Pending) → (is_pending (word_of id) (option_map (λ (q : Text × Text). (q.0, q.1 ∷ [])) p) && false) ≡ false
not_several id None = refl
not_several id (Some q) = pick (bytes_eq q.0 id)
  where
    pick : (b : Bool) → (b && false) ≡ false
    pick true = refl
    pick false = refl

module _ (name : Text) (c : List Rule) (other : Text) (given : Texts) (p : Pending) (r : Readable c p) where
  -- another word, where there is room for one
  module _ (word : Text) (d : Bool) (g : Goes d word) (found : arg_by_index c 1 ≡ Some (word_of other)) where
    pub placed_turn : turn_fault (leaf name c) [] (at given p 1 d) word ≡ settle_fault c false (held given p)
    placed_turn = other_turn name c given p 1 word d g ∙ rw (found, not_several other p) refl

    next : Held → Bool → Walk
    next h b = record { held = pushed other word h; waiting = idle; position = 2; is_trailing = b; stopped = None }

    pub placed_walk : Fresh given p → walked c [] (at given p 1 d) word ≡ at (whole given p) (Some (other, word)) 2 d
    unfolding next
    placed_walk f =
        other_walk name c given p 1 word d g
        ∙ rw (found, not_several other p) (ap (λ h. next h (d || false)) (settled_is c given p r f) ∙ ap (next (held (whole given p) None))
        (or_false d))
      where
        or_false : (d : Bool) → (d || false) ≡ d
        or_false true = refl
        or_false false = refl

  -- and where there is none
  pub full_turn : (position : ℕ) (word : Text) (d : Bool) → Goes d word → arg_by_index c position ≡ None →
      turn_fault (leaf name c) [] (at given p position d) word ≡ [] → ⊥
  full_turn position word d g none h =
      let k : turn_fault (leaf name c) [] (at given p position d) word ≡ kind.UnknownArgument ∷ [] =
      other_turn name c given p position word d g ∙ rw none refl in
      let m : kind.UnknownArgument ∷ [] ≡ [] = sym k ∙ h in
      cc

  -- an option with its text, of a new name
  module _ (word n text : Text) (position : ℕ) (plain : bytes_eq word (codes "--") ≡ false) (is : long_of word ≡ Some (n, Some text))
      (found : arg_by_long c n ≡ Some (option_of n)) where
    pub equals_clear : turn_fault (leaf name c) [] (at given p position false) word ≡ [] → Fresh given p × (texts_of n (whole given p) ≡ [])
    equals_clear h =
        let k = both_none _ _ (both_none _ _ (sym (equals_turn name c given p position word n text plain is found) ∙ h)).0 in
        let f = settle_clear c given p r k.0 in (
          f,
          use_clear n text (Some n) None (whole given p)
              (sym (ap (λ (h : Held). use_fault false (option_of n) (text ∷ []) h.rows) (settled_is c given p r f)) ∙ k.1),
        )

    pub equals_well : Fresh given p → texts_of n (whole given p) ≡ [] → turn_fault (leaf name c) [] (at given p position false) word ≡ []
    equals_well f none =
        equals_turn name c given p position word n text plain is found
        ∙ none_both _ _ (none_both _ _ (settle_well c given p r f)
        (ap (λ (h : Held). use_fault false (option_of n) (text ∷ []) h.rows) (settled_is c given p r f)
        ∙ use_well n text (Some n) None (whole given p) none)) refl

    pub equals_next : Fresh given p → texts_of n (whole given p) ≡ [] →
        walked c [] (at given p position false) word ≡ at (whole given p ++ (n, text) ∷ []) None position false
    equals_next f none =
        equals_walk name c given p position word n text plain is found
        ∙ ap (λ (rs : List Row). record (at given p position false) { held = record { rows = rs; pending = None; skip = 0 } })
        (ap (λ (h : Held). used (option_of n) (text ∷ []) h.rows) (settled_is c given p r f) ∙ row_added n text (whole given p) none)

  -- the name of an option, whose text follows
  module _ (word n : Text) (position : ℕ) (plain : bytes_eq word (codes "--") ≡ false) (is : long_of word ≡ Some (n, None))
      (found : arg_by_long c n ≡ Some (option_of n)) where
    pub name_clear : turn_fault (leaf name c) [] (at given p position false) word ≡ [] → Fresh given p
    name_clear h = settle_clear c given p r (both_none _ _ (sym (name_turn name c given p position word n plain is found) ∙ h)).0

    pub name_well : Fresh given p → turn_fault (leaf name c) [] (at given p position false) word ≡ []
    name_well f = name_turn name c given p position word n plain is found ∙ none_both _ _ (settle_well c given p r f) refl

    pub name_next : Fresh given p → walked c [] (at given p position false) word ≡ awaits (whole given p) n position false
    name_next f =
        name_walk name c given p position word n plain is found
        ∙ ap (λ (h : Held). record (at given p position false) { held = record h { pending = Some (n, []) }; waiting = option n })
        (settled_is c given p r f)

-- A flag after one dash

pub flag_fault : (c : List Rule) (h : Held) (flags : Text) (x : ℕ) → slice_get (chars flags) 0 ≡ Some x → arg_by_short c x ≡ None →
    flags_fault c false (length flags) flags 0 h ≡ [] → ⊥
unfolding flags_fault
flag_fault c h [] x first unknown none =
    let e : None ≡ Some x = ap (λ cs. slice_get cs 0) (sym chars-nil) ∙ first in
    cc
flag_fault c h (y ∷ ys) x first unknown none =
    let e : kind.UnknownArgument ∷ [] ≡ [] = rw (first, unknown) at none in
    cc

module _ (name : Text) (c : List Rule) (given : Texts) (position : ℕ) (word flags : Text) (x : ℕ) (plain : bytes_eq word (codes "--")
    ≡ false)
    (is : long_of word ≡ None) (short : short_of word ≡ Some flags) (first : slice_get (chars flags) 0 ≡ Some x)
    (unknown : arg_by_short c x ≡ None) where
  pub flag_turn : (p : Pending) → turn_fault (leaf name c) [] (at given p position false) word ≡ [] → ⊥
  flag_turn p h = flag_fault c (held given p) flags x first unknown (both_none _ _ (rw (plain, is, short) at h)).0

  pub awaited_flag : (n : Text) → turn_fault (leaf name c) [] (awaits given n position false) word ≡ [] → ⊥
  awaited_flag n h = flag_fault c (awaited given n) flags x first unknown (both_none _ _ (rw (plain, is, short) at h)).0

-- An option that waits for its text

module _ (name : Text) (c : List Rule) (given : Texts) (n : Text) (found : arg_by_id c n ≡ Some (option_of n)) where
  -- it can't do without
  pub awaited_stuck : settle_fault c false (awaited given n) ≡ [] → ⊥
  awaited_stuck h = let e : kind.InvalidValue ∷ [] ≡ [] = rw found at h in cc

  module _ (position : ℕ) (word : Text) where
    awaited_at : (o : Option Text) → short_of word ≡ o → HasNoFlag o → bytes_eq word (codes "--") ≡ false → long_of word ≡ None →
        (turn_fault (leaf name c) [] (awaits given n position false) word ≡ [])
        × (walked c [] (awaits given n position false) word ≡ at given (Some (n, word)) position false)
    unfolding walked
    awaited_at None short none plain is = (rw (plain, is, short) refl, rw (plain, is, short, found, same_text n) refl)
    awaited_at (Some flags) short none plain is = (
      rw (
        plain,
        is,
        short,
        no_flag_fault c flags none (length flags) (awaited given n),
        ← bundle_ends c (length flags) flags 0 outcome.plain (awaited given n) (sym none),
      ) refl,
      rw (plain, is, short, ← bundle_ends c (length flags) flags 0 outcome.plain (awaited given n) (sym none), found, same_text n) refl,
    )

    pub awaited_text : IsOther word → (turn_fault (leaf name c) [] (awaits given n position false) word ≡ [])
        × (walked c [] (awaits given n position false) word ≡ at given (Some (n, word)) position false)
    awaited_text i = awaited_at (short_of word) refl i.no_flag i.no_dashes i.no_long

    pub awaited_dashes : bytes_eq word (codes "--") ≡ true → walked c [] (awaits given n position false) word ≡ awaits given n position true
    unfolding walked
    awaited_dashes e = rw e refl

    pub awaited_unknown : (m : Text) (v : Option Text) → bytes_eq word (codes "--") ≡ false → long_of word ≡ Some (m, v) → arg_by_long c m
        ≡ None →
        turn_fault (leaf name c) [] (awaits given n position false) word ≡ [] → ⊥
    awaited_unknown m v plain is none h = let k = rw (plain, is, none) at h in cc

    pub awaited_known : (m : Text) (v : Option Text) → bytes_eq word (codes "--") ≡ false → long_of word ≡ Some (m, v) →
        arg_by_long c m ≡ Some (option_of m) → turn_fault (leaf name c) [] (awaits given n position false) word ≡ [] → ⊥
    awaited_known m None plain is known h = awaited_stuck (both_none _ _ (rw (plain, is, known) at h)).0
    awaited_known m (Some text) plain is known h =
        awaited_stuck (both_none _ _ (both_none (react_fault c false (option_of m) (text ∷ []) (awaited given n)) _
        (rw (plain, is, known) at h)).0).0

  -- nor get it after `--`
  pub awaited_trailing : (other : Text) (room position : ℕ) → Place c other room position → (word : Text) →
      turn_fault (leaf name c) [] (awaits given n position true) word ≡ [] → ⊥
  awaited_trailing other room position (full none) word h = let k = rw none at h in cc
  awaited_trailing other room position (free one two by_id) word h = pick (bytes_eq n other) refl
    where
      pick : (b : Bool) → bytes_eq n other ≡ b → ⊥
      pick true e = awaited_stuck (rw (one, e) at h)
      pick false e = awaited_stuck (rw (one, e) at h)
