-- The words after a command's name are parted as `clap` reads them: what it takes is parted so, and what is parted so it takes.
use Rattle.std.proofs.Common.{◌≡◌, ◌∙◌, ◌⊎◌, ℕ, ◌+◌, ◌≤◌, Bool, true, false, List, [], ◌∷◌, ◌++◌, length, refl, Option, Some, None, ap, sym, subst, inl, inr, arith, codes, append_assoc, append-nil, length-append}
use Rattle.std.specs.Prelude.{Contains, slice_get}
use Rattle.std.specs.List.{fold}
use Rattle.std.specs.Str.{bytes_eq, chars}
use Rattle.std.proofs.lemmas.Slice.Eq.{bytes_eq-Decides}
use Rattle.clap.specs.Lexer.{long_of, short_of}
use Rattle.clap.specs.Walk.{Rule, Walk, arg_by_long, settled, walked}
use Rattle.clap.specs.Faults.{settle_fault, turn_fault, walk_fault}
use Rattle.command_words.specs.Words.{AreParted, Text, texts_of, end, other_word, two_words, one_word, dashes}
use Rattle.command_words.proofs.WordsRows.{Texts, rows, texts_append, texts_here, texts_last, texts_past}
use Rattle.command_words.proofs.WordsShapes.{AllOther, IsOther, long_spelled}
use Rattle.command_words.proofs.WordsLeaf.{Ends, Fresh, HasOptions, Pending, Place, Readable, Reads, at, awaits, ends_here, ends_more, free, full, leaf, settle_clear, settle_well, settled_is, whole}
use Rattle.command_words.proofs.WordsSteps.{Goes, awaited_dashes, awaited_flag, awaited_known, awaited_stuck, awaited_text, awaited_trailing, awaited_unknown, both_none, dashes_turn, dashes_walk, equals_clear, equals_next, equals_well, flag_turn, full_turn, name_clear, name_next, name_well, placed_turn, placed_walk, unknown_turn}

-- A name is given once at most

abbrev pub Few : List Text → Texts → Type 0
Few names given = (n : Text) → Contains names n → length (texts_of n given) ≤ 1

module _ (names : List Text) (given : Texts) where
  few_more : (n text : Text) → Few names given → texts_of n given ≡ [] → Few names (given ++ (n, text) ∷ [])
  few_more n text few none m within = pick (bytes_eq n m) refl
    where
      pick : (b : Bool) → bytes_eq n m ≡ b → length (texts_of m (given ++ (n, text) ∷ [])) ≤ 1
      pick true e =
          let same : n ≡ m = (bytes_eq-Decides n m).0 e in
          let P : Text → Type 0 = λ k. length (texts_of k (given ++ (n, text) ∷ [])) ≤ 1 in
          subst P same (rw (texts_last n text given, none) (omega arith))
      pick false e = rw (texts_past m n text given e) (few m within)

  few_whole : (p : Pending) → Few names given → Fresh given p → Few names (whole given p)
  few_whole None few f = few
  few_whole (Some q) few f = few_more q.0 q.1 few f

-- What `clap` read

pub record Reading (c : List Rule) (names : List Text) (other : Text) (w : Walk) (words : List Text) (d : Bool) (room : ℕ)
    (asked : List Text)
    (start : Texts) : Type 0 where
  pub options : Texts
  pub others : List Text
  pub all : Texts
  pub parted : AreParted names d asked options others
  pub rows_are : (settled c (fold (walked c []) w words).held).rows ≡ rows all
  pub of_options : (n : Text) → Contains names n → texts_of n all ≡ texts_of n (start ++ options)
  pub few : Few names (start ++ options)
  pub of_others : texts_of other all ≡ texts_of other start ++ others
  pub fits : length others ≤ room

-- where the walk stands: nothing is awaited, or the text of an option
data Stand (c : List Rule) (names : List Text) : Bool → Type 0 where
  still : {d : Bool} → (p : Pending) → Readable c p → Stand c names d
  awaiting : (n : Text) → Contains names n → Stand c names false

abbrev walk_of : {c : List Rule} {names : List Text} {d : Bool} → Stand c names d → Texts → ℕ → Walk
walk_of {d = d} (still p r) given position = at given p position d
walk_of (awaiting n within) given position = awaits given n position false

abbrev asked : {c : List Rule} {names : List Text} {d : Bool} → Stand c names d → List Text → List Text
asked (still p r) words = words
asked (awaiting n within) words = (codes "--" ++ n) ∷ words

abbrev start : {c : List Rule} {names : List Text} {d : Bool} → Stand c names d → Texts → Texts
start (still p r) given = whole given p
start (awaiting n within) given = given

module _ (name : Text) (c : List Rule) (names : List Text) (other : Text) (o : HasOptions c names other) where
  abbrev pub Takes : Walk → List Text → Type 0
  Takes w words = (walk_fault (leaf name c) [] w words ≡ []) × (settle_fault c false (fold (walked c []) w words).held ≡ [])

  abbrev Back : List Text → Type 0
  Back words = (d : Bool) (s : Stand c names d) (given : Texts) (room position : ℕ) → Place c other room position → Few names given →
      Takes (walk_of s given position) words → Reading c names other (walk_of s given position) words d room (asked s words) (start s given)

  turns : (w : Walk) (word : Text) (words : List Text) → Takes w (word ∷ words) → turn_fault (leaf name c) [] w word ≡ []
  unfolding walk_fault
  turns w word words t = (both_none _ _ t.0).0

  goes_on : (w next : Walk) (word : Text) (words : List Text) → walked c [] w word ≡ next → Takes w (word ∷ words) → Takes next words
  unfolding walk_fault
  goes_on w next word words is t = (
    ap (λ v. walk_fault (leaf name c) [] v words) (sym is) ∙ (both_none _ _ t.0).1,
    ap (λ v. settle_fault c false (fold (walked c []) v words).held) (sym is) ∙ t.1,
  )

  back_nil : Back []
  unfolding walk_fault
  back_nil d (still p r) given room position place few t =
      let f = settle_clear c given p r t.1 in
      record {
        options = [];
        others = [];
        all = whole given p;
        parted = end;
        rows_are = ap (λ h. h.rows) (settled_is c given p r f);
        of_options = λ n within. ap (texts_of n) (sym (append-nil (whole given p)));
        few = subst (Few names) (sym (append-nil (whole given p))) (few_whole names given p few f);
        of_others = sym (append-nil (texts_of other (whole given p)));
        fits = omega arith;
      }
  back_nil d (awaiting n within) given room position place few t = absurd (awaited_stuck name c given n (o.by_id n within) t.1)

  -- one more word
  module _ (word : Text) (words : List Text) (more : Back words) (given : Texts) (room position : ℕ) (place : Place c other room position)
      (few : Few names given) where
    dashes_read : (p : Pending) (r : Readable c p) → bytes_eq word (codes "--") ≡ true → Takes (at given p position false) (word ∷ words) →
        Reading c names other (at given p position false) (word ∷ words) false room (word ∷ words) (whole given p)
    dashes_read p r e t =
        let is = dashes_walk name c given p position word e in
        let q = more true (still p r) given room position place few (goes_on _ _ word words is t) in
        record {
          options = q.options;
          others = q.others;
          all = q.all;
          parted = subst (λ w. AreParted names false (w ∷ words) q.options q.others) (sym ((bytes_eq-Decides word (codes "--")).0 e))
              (dashes q.parted);
          rows_are = ap (λ v. (settled c (fold (walked c []) v words).held).rows) is ∙ q.rows_are;
          of_options = q.of_options;
          few = q.few;
          of_others = q.of_others;
          fits = q.fits;
        }

    equals_read : (p : Pending) (r : Readable c p) (n text : Text) → Contains names n → bytes_eq word (codes "--") ≡ false →
        long_of word ≡ Some (n, Some text) → Takes (at given p position false) (word ∷ words) →
        Reading c names other (at given p position false) (word ∷ words) false room (word ∷ words) (whole given p)
    equals_read p r n text within plain is t =
        let known = o.known n within in
        let k = equals_clear name c other given p r word n text position plain is known (turns _ word words t) in
        let next = equals_next name c other given p r word n text position plain is known k.0 k.1 in
        let q = more false (still None tt) (whole given p ++ (n, text) ∷ []) room position place
        (few_more names (whole given p) n text (few_whole names given p few k.0) k.1) (goes_on _ _ word words next t) in
        let joined : (whole given p ++ (n, text) ∷ []) ++ q.options ≡ whole given p ++ (n, text) ∷ q.options =
        append_assoc (whole given p) ((n, text) ∷ []) q.options in
        record {
          options = (n, text) ∷ q.options;
          others = q.others;
          all = q.all;
          parted = subst (λ w. AreParted names false (w ∷ words) ((n, text) ∷ q.options) q.others)
              (sym (long_spelled word n (Some text) is))
              (one_word within q.parted);
          rows_are = ap (λ v. (settled c (fold (walked c []) v words).held).rows) next ∙ q.rows_are;
          of_options = λ m inside. q.of_options m inside ∙ ap (texts_of m) joined;
          few = subst (Few names) joined q.few;
          of_others = q.of_others ∙ ap (λ ts. ts ++ q.others) (texts_past other n text (whole given p) (o.apart_back n within));
          fits = q.fits;
        }

    name_read : (p : Pending) (r : Readable c p) (n : Text) → Contains names n → bytes_eq word (codes "--") ≡ false →
        long_of word ≡ Some (n, None) → Takes (at given p position false) (word ∷ words) →
        Reading c names other (at given p position false) (word ∷ words) false room (word ∷ words) (whole given p)
    name_read p r n within plain is t =
        let known = o.known n within in
        let f = name_clear name c other given p r word n position plain is known (turns _ word words t) in
        let next = name_next name c other given p r word n position plain is known f in
        let q = more false (awaiting n within) (whole given p) room position place (few_whole names given p few f)
        (goes_on _ _ word words next t) in
        record {
          options = q.options;
          others = q.others;
          all = q.all;
          parted = subst (λ w. AreParted names false (w ∷ words) q.options q.others) (sym (long_spelled word n None is)) q.parted;
          rows_are = ap (λ v. (settled c (fold (walked c []) v words).held).rows) next ∙ q.rows_are;
          of_options = q.of_options;
          few = q.few;
          of_others = q.of_others;
          fits = q.fits;
        }

    text_read : (n : Text) → Contains names n → IsOther word → Takes (awaits given n position false) (word ∷ words) →
        Reading c names other (awaits given n position false) (word ∷ words) false room ((codes "--" ++ n) ∷ word ∷ words) given
    text_read n within i t =
        let k = awaited_text name c given n (o.by_id n within) position word i in
        let r : Reads c n = record { long = Some n; index = None; found = o.by_id n within } in
        let q = more false (still (Some (n, word)) r) given room position place few (goes_on _ _ word words k.1 t) in
        let joined : (given ++ (n, word) ∷ []) ++ q.options ≡ given ++ (n, word) ∷ q.options =
        append_assoc given ((n, word) ∷ []) q.options in
        record {
          options = (n, word) ∷ q.options;
          others = q.others;
          all = q.all;
          parted = two_words within q.parted;
          rows_are = ap (λ v. (settled c (fold (walked c []) v words).held).rows) k.1 ∙ q.rows_are;
          of_options = λ m inside. q.of_options m inside ∙ ap (texts_of m) joined;
          few = subst (Few names) joined q.few;
          of_others = q.of_others ∙ ap (λ ts. ts ++ q.others) (texts_past other n word given (o.apart_back n within));
          fits = q.fits;
        }

    -- an option that awaits its text takes nothing else
    dashed_stuck : (n : Text) → Contains names n → bytes_eq word (codes "--") ≡ true → Takes (awaits given n position false)
        (word ∷ words) →
        ⊥
    dashed_stuck n within e t = last words (goes_on _ _ word words (awaited_dashes name c given n (o.by_id n within) position word e) t)
      where
        last : (words : List Text) → Takes (awaits given n position true) words → ⊥
        last [] t = awaited_stuck name c given n (o.by_id n within) t.1
        last (w ∷ ws) t = awaited_trailing name c given n (o.by_id n within) other room position place w (turns _ w ws t)

  other_read : (word : Text) (words : List Text) → Back words → (given : Texts) (room position : ℕ) → Place c other room position →
      Few names given → (p : Pending) (r : Readable c p) (d : Bool) → Goes d word → Takes (at given p position d) (word ∷ words) →
      Reading c names other (at given p position d) (word ∷ words) d room (word ∷ words) (whole given p)
  other_read word words more given room position (full none) few p r d g t =
      absurd (full_turn name c other given p r position word d g none (turns _ word words t))
  other_read word words more given room position (free one two by_id) few p r d g t =
      let f = settle_clear c given p r (sym (placed_turn name c other given p r word d g one) ∙ turns _ word words t) in
      let next = placed_walk name c other given p r word d g one f in
      let s : Reads c other = record { long = None; index = Some 1; found = by_id } in
      let all = whole given p in
      let q = more d (still (Some (other, word)) s) all 0 2 (full two) (few_whole names given p few f) (goes_on _ _ word words next t) in
      let joined : (n : Text) → Contains names n → texts_of n ((all ++ (other, word) ∷ []) ++ q.options) ≡ texts_of n (all ++ q.options) =
      λ n within. texts_append n (all ++ (other, word) ∷ []) q.options
      ∙ ap (λ ts. ts ++ texts_of n q.options) (texts_past n other word all (o.apart n within)) ∙ sym (texts_append n all q.options) in
      record {
        options = q.options;
        others = word ∷ q.others;
        all = q.all;
        parted = other_word q.parted;
        rows_are = ap (λ v. (settled c (fold (walked c []) v words).held).rows) next ∙ q.rows_are;
        of_options = λ n within. q.of_options n within ∙ joined n within;
        few = λ n within. subst (λ ts. length ts ≤ 1) (joined n within) (q.few n within);
        of_others = q.of_others ∙ ap (λ ts. ts ++ q.others) (texts_last other word all)
            ∙ append_assoc (texts_of other all) (word ∷ []) q.others;
        fits = let h = q.fits in omega arith;
      }

  -- what a word that isn't `--` is
  module _ (word : Text) (plain : bytes_eq word (codes "--") ≡ false) where
    data Kind : Type 0 where
      known : (n : Text) (v : Option Text) → Contains names n → long_of word ≡ Some (n, v) → Kind
      unknown : (n : Text) (v : Option Text) → long_of word ≡ Some (n, v) → arg_by_long c n ≡ None → Kind
      flag : (flags : Text) (x : ℕ) → long_of word ≡ None → short_of word ≡ Some flags → slice_get (chars flags) 0 ≡ Some x → Kind
      none_of_them : IsOther word → Kind

    kind_of : Kind
    kind_of = by_long (long_of word) refl
      where
        by_char : (flags : Text) → (x : Option ℕ) → long_of word ≡ None → short_of word ≡ Some flags → slice_get (chars flags) 0 ≡ x → Kind
        by_char flags None e s h = none_of_them (record { no_dashes = plain; no_long = e; no_flag = rw s h })
        by_char flags (Some x) e s h = flag flags x e s h

        by_short : (f : Option Text) → long_of word ≡ None → short_of word ≡ f → Kind
        by_short None e s = none_of_them (record { no_dashes = plain; no_long = e; no_flag = rw s tt })
        by_short (Some flags) e s = by_char flags (slice_get (chars flags) 0) e s refl

        by_name : (n : Text) (v : Option Text) → Contains names n ⊎ (arg_by_long c n ≡ None) → long_of word ≡ Some (n, v) → Kind
        by_name n v (inl within) e = known n v within e
        by_name n v (inr none) e = unknown n v e none

        by_long : (l : Option (Text × Option Text)) → long_of word ≡ l → Kind
        by_long None e = by_short (short_of word) e refl
        by_long (Some (n, v)) e = by_name n v (o.unknown n) e

  module _ (word : Text) (words : List Text) (more : Back words) (given : Texts) (room position : ℕ) (place : Place c other room position)
      (few : Few names given) where
    abbrev Still : Pending → Type 0
    Still p = Reading c names other (at given p position false) (word ∷ words) false room (word ∷ words) (whole given p)

    still_read : (p : Pending) (r : Readable c p) → Takes (at given p position false) (word ∷ words) → Still p
    still_read p r t = by_dashes (bytes_eq word (codes "--")) refl
      where
        by_kind : (plain : bytes_eq word (codes "--") ≡ false) → Kind word plain → Still p
        by_kind plain (known n None within is) = name_read word words more given room position place few p r n within plain is t
        by_kind plain (known n (Some text) within is) = equals_read word words more given room position place few p r n text within plain is
            t
        by_kind plain (unknown n v is none) =
            absurd (unknown_turn name c given p position word n v plain is none (turns _ word words t))
        by_kind plain (flag flags x is short first) =
            absurd (flag_turn name c given position word flags x plain is short first (o.no_short x) p (turns _ word words t))
        by_kind plain (none_of_them i) = other_read word words more given room position place few p r false i t

        by_dashes : (b : Bool) → bytes_eq word (codes "--") ≡ b → Still p
        by_dashes true e = dashes_read word words more given room position place few p r e t
        by_dashes false e = by_kind e (kind_of word e)

    abbrev Awaiting : Text → Type 0
    Awaiting n = Reading c names other (awaits given n position false) (word ∷ words) false room ((codes "--" ++ n) ∷ word ∷ words) given

    awaiting_read : (n : Text) → Contains names n → Takes (awaits given n position false) (word ∷ words) → Awaiting n
    awaiting_read n within t = by_dashes (bytes_eq word (codes "--")) refl
      where
        by_kind : (plain : bytes_eq word (codes "--") ≡ false) → Kind word plain → Awaiting n
        by_kind plain (known m v inside is) =
            absurd (awaited_known name c given n (o.by_id n within) position word m v plain is (o.known m inside) (turns _ word words t))
        by_kind plain (unknown m v is none) =
            absurd (awaited_unknown name c given n (o.by_id n within) position word m v plain is none (turns _ word words t))
        by_kind plain (flag flags x is short first) =
            absurd (awaited_flag name c given position word flags x plain is short first (o.no_short x) n (turns _ word words t))
        by_kind plain (none_of_them i) = text_read word words more given room position place few n within i t

        by_dashes : (b : Bool) → bytes_eq word (codes "--") ≡ b → Awaiting n
        by_dashes true e = absurd (dashed_stuck word words more given room position place few n within e t)
        by_dashes false e = by_kind e (kind_of word e)

  back_cons : (word : Text) (words : List Text) → Back words → Back (word ∷ words)
  back_cons word words more true (still p r) given room position place few t = other_read word words more given room position place few p r
      true tt t
  back_cons word words more false (still p r) given room position place few t = still_read word words more given room position place few p r
      t
  back_cons word words more false (awaiting n within) given room position place few t =
      awaiting_read word words more given room position place few n within t

  back : (words : List Text) → Back words
  back [] = back_nil
  back (word ∷ words) = back_cons word words (back words)

  -- the words from the first one on
  pub what_is_taken : (words : List Text) (room : ℕ) → Place c other room 1 → Takes (at [] None 1 false) words →
      Reading c names other (at [] None 1 false) words false room words []
  what_is_taken words room place t = back words false (still None tt) [] room 1 place (λ n within. omega arith) t

  -- The other direction

  pub record Taken (w : Walk) (words : List Text) (options : Texts) (others : List Text) (given : Texts) : Type 0 where
    pub all : Texts
    pub ends : Ends name c w words all
    pub of_options : (n : Text) → Contains names n → texts_of n all ≡ texts_of n (given ++ options)
    pub of_others : texts_of other all ≡ texts_of other given ++ others

  -- what is asked of the texts that are to come
  pub record Asks (options : Texts) (others : List Text) (given : Texts) (room : ℕ) : Type 0 where
    pub fine : (n : Text) → Contains names n → AllOther (texts_of n options)
    pub plain : AllOther others
    pub few : Few names (given ++ options)
    pub fits : length others ≤ room
    pub clear : length (texts_of other given) + room ≤ 1

  goes : (d : Bool) (word : Text) → IsOther word → Goes d word
  goes true word i = tt
  goes false word i = i

  no_dashes : (word n : Text) (v : Option Text) → long_of word ≡ Some (n, v) → bytes_eq word (codes "--") ≡ false
  no_dashes word n v is = pick (bytes_eq word (codes "--")) refl
    where
      pick : (b : Bool) → bytes_eq word (codes "--") ≡ b → b ≡ false
      pick true e =
          let k : ◌≡◌ {A = Option (Text × Option Text)} None (Some (n, v)) = ap long_of (sym ((bytes_eq-Decides word (codes "--")).0 e))
          ∙ is in
          cc
      pick false e = refl

  none_left : (ts : List Text) → length ts ≤ 0 → ts ≡ []
  none_left [] h = refl
  none_left (t ∷ ts) h = absurd (omega arith)

  -- an option, by what comes after it
  module _ (n text : Text) (within : Contains names n) (options : Texts) (others : List Text) (given : Texts) (room : ℕ)
      (a : Asks ((n, text) ∷ options) others given room) where
    new_name : texts_of n given ≡ []
    new_name =
        let h = a.few n within in
        let e : texts_of n (given ++ (n, text) ∷ options) ≡ texts_of n given ++ text ∷ texts_of n options =
        texts_append n given ((n, text) ∷ options) ∙ ap (λ ts. texts_of n given ++ ts) (texts_here n text options) in
        none_left (texts_of n given) (omega (arith, h, ap length e, length-append (texts_of n given) (text ∷ texts_of n options)))

    its_text : IsOther text
    its_text = (subst AllOther (texts_here n text options) (a.fine n within)).0

    behind_option : Asks options others (given ++ (n, text) ∷ []) room
    behind_option = record {
      fine = λ m inside. pick m inside (bytes_eq n m) refl;
      plain = a.plain;
      few = subst (Few names) (sym (append_assoc given ((n, text) ∷ []) options)) a.few;
      fits = a.fits;
      clear = subst (λ ts. length ts + room ≤ 1) (sym (texts_past other n text given (o.apart_back n within))) a.clear;
    }
      where
        pick : (m : Text) → Contains names m → (b : Bool) → bytes_eq n m ≡ b → AllOther (texts_of m options)
        pick m inside true e = (rw e at (a.fine m inside)).1
        pick m inside false e = rw e at (a.fine m inside)

  -- another word, by what comes after it
  joined : (word : Text) (options : Texts) (given : Texts) (n : Text) → Contains names n →
      texts_of n ((given ++ (other, word) ∷ []) ++ options) ≡ texts_of n (given ++ options)
  joined word options given n within =
      texts_append n (given ++ (other, word) ∷ []) options
      ∙ ap (λ ts. ts ++ texts_of n options) (texts_past n other word given (o.apart n within)) ∙ sym (texts_append n given options)

  behind_other : (word : Text) (options : Texts) (others : List Text) (given : Texts) → Asks options (word ∷ others) given 1 →
      Asks options others (given ++ (other, word) ∷ []) 0
  behind_other word options others given a = record {
    fine = a.fine;
    plain = a.plain.1;
    few = λ n within. subst (λ ts. length ts ≤ 1) (sym (joined word options given n within)) (a.few n within);
    fits = let h = a.fits in omega arith;
    clear = let h = a.clear in
        omega (arith, h, ap length (texts_last other word given), length-append (texts_of other given) (word ∷ []));
  }

  pub taken : {d : Bool} {words others : List Text} {options : Texts} → AreParted names d words options others →
      (given : Texts) (p : Pending) (room position : ℕ) → Place c other room position → Readable c p → Fresh given p →
      Asks options others (whole given p) room → Taken (at given p position d) words options others (whole given p)
  taken (end {d}) given p room position place r f a = record {
    all = whole given p;
    ends = ends_here name c given p position d r f;
    of_options = λ n within. ap (texts_of n) (sym (append-nil (whole given p)));
    of_others = sym (append-nil (texts_of other (whole given p)));
  }
  taken (other_word h) given p room position (full none) r f a = let h = a.fits in absurd (omega arith)
  taken (other_word {d} {word} {words} {others} {options} h) given p room position (free one two by_id) r f a =
      let g = goes d word a.plain.0 in
      let s : Reads c other = record { long = None; index = Some 1; found = by_id } in
      let new = none_left (texts_of other (whole given p)) (let k = a.clear in omega arith) in
      let q = taken h (whole given p) (Some (other, word)) 0 2 (full two) s new (behind_other word options others (whole given p) a) in
      record {
        all = q.all;
        ends = ends_more name c _ _ word words q.all (placed_turn name c other given p r word d g one ∙ settle_well c given p r f)
            (placed_walk name c other given p r word d g one f) q.ends;
        of_options = λ n within. q.of_options n within ∙ joined word options (whole given p) n within;
        of_others = q.of_others ∙ ap (λ ts. ts ++ others) (texts_last other word (whole given p))
            ∙ append_assoc (texts_of other (whole given p)) (word ∷ []) others;
      }
  taken (two_words {name = n} {text} {words} {others} {options} within h) given p room position place r f a =
      let known = o.known n within in
      let is = o.spells n within None in
      let word = codes "--" ++ n in
      let plain = no_dashes word n None is in
      let s : Reads c n = record { long = Some n; index = None; found = o.by_id n within } in
      let new = new_name n text within options others (whole given p) room a in
      let k = awaited_text name c (whole given p) n (o.by_id n within) position text (its_text n text within options others (whole given p)
      room a)
      in
      let q = taken h (whole given p) (Some (n, text)) room position place s new (behind_option n text within options others (whole given p)
      room a) in
      record {
        all = q.all;
        ends = ends_more name c _ _ word (text ∷ words) q.all (name_well name c other given p r word n position plain is known f)
            (name_next name c other given p r word n position plain is known f) (ends_more name c _ _ text words q.all k.0 k.1 q.ends);
        of_options = λ m inside. q.of_options m inside ∙ ap (texts_of m) (append_assoc (whole given p) ((n, text) ∷ []) options);
        of_others = q.of_others ∙ ap (λ ts. ts ++ others) (texts_past other n text (whole given p) (o.apart_back n within));
      }
  taken (one_word {name = n} {text} {words} {others} {options} within h) given p room position place r f a =
      let known = o.known n within in
      let is = o.spells n within (Some text) in
      let word = codes "--" ++ (n ++ 61 ∷ text) in
      let plain = no_dashes word n (Some text) is in
      let new = new_name n text within options others (whole given p) room a in
      let q = taken h (whole given p ++ (n, text) ∷ []) None room position place tt tt
      (behind_option n text within options others (whole given p) room a) in
      record {
        all = q.all;
        ends = ends_more name c _ _ word words q.all (equals_well name c other given p r word n text position plain is known f new)
            (equals_next name c other given p r word n text position plain is known f new) q.ends;
        of_options = λ m inside. q.of_options m inside ∙ ap (texts_of m) (append_assoc (whole given p) ((n, text) ∷ []) options);
        of_others = q.of_others ∙ ap (λ ts. ts ++ others) (texts_past other n text (whole given p) (o.apart_back n within));
      }
  taken (dashes {words} {others} {options} h) given p room position place r f a =
      let q = taken h given p room position place r f a in
      record {
        all = q.all;
        ends = ends_more name c _ _ (codes "--") words q.all (dashes_turn name c given p position (codes "--") refl)
            (dashes_walk name c given p position (codes "--") refl) q.ends;
        of_options = q.of_options;
        of_others = q.of_others;
      }
