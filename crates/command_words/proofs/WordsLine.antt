-- The command line, as `clap` reads it: the name of a command, and the words after it.
use Rattle.std.proofs.Common.{◌≡◌, ◌∙◌, ◌⊎◌, ℕ, zero, suc, ◌&&◌, Bool, true, false, not, List, [], ◌∷◌, ◌++◌, length, refl, Option, Some, None, ap, ap₂, sym, subst, inl, inr, arith, codes, is_some}
use Rattle.std.specs.Prelude.{Contains, find, slice_get}
use Rattle.std.specs.List.{fold, list_any}
use Rattle.std.specs.Str.{bytes_eq, chars}
use Rattle.std.proofs.lemmas.Slice.Eq.{bytes_eq-Decides}
use Rattle.clap.specs.Kinds.{Kinds, or_else}
use Rattle.clap.specs.Lexer.{long_of, short_of}
use Rattle.clap.specs.Simple.{App, Shape, built, entered, label_of, new_shape, subcommand_of}
use Rattle.clap.specs.Takes.{is_given}
use Rattle.clap.specs.Walk.{Names, Row, Rule, Walk, answers_to, arg_by_id, arg_by_long, arg_by_short, finished, has_row, nothing_held, rows_after, settled, walk, walk_from, walked, with_default}
use Rattle.clap.specs.Faults.{check_fault, defaults_fault, entered_fault, fault_of, level_fault, settle_fault, turn_fault, walk_fault}
use Rattle.clap.specs.declared.error.kind.ErrorKind.TheVariants as kind
use Rattle.clap.specs.Walk as outcome
use Rattle.clap.proofs.WalkLemmas.{bundle_ends, walk_stopped}
use Rattle.command_words.specs.Words.{Text, bundle_options, check_options, replay_options, sweep_options}
use Rattle.command_words.specs.steps.WordsLine.{line_app}
use Rattle.command_words.proofs.WordsShapes.{spelled}
use Rattle.command_words.proofs.WordsLeaf.{HasOptions, Place, at, free, full, leaf, one_text, option_of, word_of}
use Rattle.command_words.proofs.WordsSteps.{both_none, flag_fault, no_flag_fault, none_both}

-- The rules of the commands

abbrev pub check_rules : List Rule
check_rules = option_of (codes "budget") ∷ option_of (codes "workers") ∷ []

abbrev pub replay_rules : List Rule
replay_rules = option_of (codes "fuel") ∷ word_of (codes "list") ∷ []

abbrev pub workload_rules : List Rule
workload_rules = option_of (codes "budget") ∷ option_of (codes "workers") ∷ word_of (codes "number") ∷ []

abbrev pub bundle_rules : List Rule
bundle_rules = option_of (codes "budget") ∷ word_of (codes "number") ∷ []

abbrev pub sweep_rules : List Rule
sweep_rules = option_of (codes "edges") ∷ []

abbrev pub edit_rules : List Rule
edit_rules = option_of (codes "budget") ∷ option_of (codes "workers") ∷ word_of (codes "length") ∷ []

none_of : (n : Text) → Contains [] n → ⊥
none_of n (k, lt, e) = absurd (omega arith)

one_of : (a n : Text) → Contains (a ∷ []) n → n ≡ a
one_of a n (zero, lt, e) = sym e
one_of a n (suc k, lt, e) = absurd (omega arith)

one_of_two : (a b n : Text) → Contains (a ∷ b ∷ []) n → (n ≡ a) ⊎ (n ≡ b)
one_of_two a b n (zero, lt, e) = inl (sym e)
one_of_two a b n (suc zero, lt, e) = inr (sym e)
one_of_two a b n (suc (suc k), lt, e) = absurd (omega arith)

module _ (P : Text → Type 0) where
  pub for_check : P (codes "budget") → P (codes "workers") → (n : Text) → Contains check_options n → P n
  for_check b w n within = elim (one_of_two (codes "budget") (codes "workers") n within) [
    | inl e ↦ subst P (sym e) b
    | inr e ↦ subst P (sym e) w
  ]

  pub for_one : (a : Text) → P a → (n : Text) → Contains (a ∷ []) n → P n
  for_one a h n within = subst P (sym (one_of a n within)) h

  pub for_none : (n : Text) → Contains [] n → P n
  for_none n within = absurd (none_of n within)

pub is_budget : Contains check_options (codes "budget")
is_budget = (0, omega arith, refl)

pub is_workers : Contains check_options (codes "workers")
is_workers = (1, omega arith, refl)

pub is_one : (a : Text) → Contains (a ∷ []) a
is_one a = (0, omega arith, refl)

-- how a name is spelled, with its text and without
by_text : (n : Text) → long_of (codes "--" ++ n) ≡ Some (n, None) → ((text : Text) → long_of (codes "--" ++ (n ++ 61 ∷ text))
    ≡ Some (n, Some text)) →
    (v : Option Text) → long_of (codes "--" ++ spelled n v) ≡ Some (n, v)
by_text n alone with_text None = alone
by_text n alone with_text (Some text) = with_text text

same : (a n : Text) → bytes_eq a n ≡ true → n ≡ a
same a n e = sym ((bytes_eq-Decides a n).0 e)

check_unknown : (c : List Rule) → ((n : Text) → bytes_eq (codes "budget") n ≡ false → bytes_eq (codes "workers") n ≡ false → arg_by_long c n
    ≡ None) →
    (n : Text) → Contains check_options n ⊎ (arg_by_long c n ≡ None)
check_unknown c none n = pick (bytes_eq (codes "budget") n) (bytes_eq (codes "workers") n) refl refl
  where
    pick : (b w : Bool) → bytes_eq (codes "budget") n ≡ b → bytes_eq (codes "workers") n ≡ w → Contains check_options n
        ⊎ (arg_by_long c n ≡ None)
    pick true w e f = inl (subst (Contains check_options) (sym (same (codes "budget") n e)) is_budget)
    pick false true e f = inl (subst (Contains check_options) (sym (same (codes "workers") n f)) is_workers)
    pick false false e f = inr (none n e f)

-- the options of a check
module _ (c : List Rule) (other : Text) where
  check_options_are : arg_by_long c (codes "budget") ≡ Some (option_of (codes "budget")) →
      arg_by_long c (codes "workers") ≡ Some (option_of (codes "workers")) →
      ((n : Text) → bytes_eq (codes "budget") n ≡ false → bytes_eq (codes "workers") n ≡ false → arg_by_long c n ≡ None) →
      arg_by_id c (codes "budget") ≡ Some (option_of (codes "budget")) → arg_by_id c (codes "workers")
      ≡ Some (option_of (codes "workers")) →
      ((x : ℕ) → arg_by_short c x ≡ None) → bytes_eq other (codes "budget") ≡ false → bytes_eq other (codes "workers") ≡ false →
      bytes_eq (codes "budget") other ≡ false → bytes_eq (codes "workers") other ≡ false → HasOptions c check_options other
  check_options_are known_b known_w unknown by_id_b by_id_w no_short apart_b apart_w back_b back_w = record {
    known = for_check (λ n. arg_by_long c n ≡ Some (option_of n)) known_b known_w;
    unknown = check_unknown c unknown;
    by_id = for_check (λ n. arg_by_id c n ≡ Some (option_of n)) by_id_b by_id_w;
    no_short = no_short;
    apart = for_check (λ n. bytes_eq other n ≡ false) apart_b apart_w;
    apart_back = for_check (λ n. bytes_eq n other ≡ false) back_b back_w;
    spells = for_check (λ n. (v : Option Text) → long_of (codes "--" ++ spelled n v) ≡ Some (n, v))
        (by_text (codes "budget") refl (λ text. refl))
        (by_text (codes "workers") refl (λ text. refl));
  }

pub check_has : HasOptions check_rules check_options (codes "number")
check_has = check_options_are check_rules (codes "number") refl refl (λ n e f. rw (e, f) refl) refl refl (λ x. refl) refl refl refl refl

pub workload_has : HasOptions workload_rules check_options (codes "number")
workload_has = check_options_are workload_rules (codes "number") refl refl (λ n e f. rw (e, f) refl) refl refl (λ x. refl) refl refl refl
    refl

pub edit_has : HasOptions edit_rules check_options (codes "length")
edit_has = check_options_are edit_rules (codes "length") refl refl (λ n e f. rw (e, f) refl) refl refl (λ x. refl) refl refl refl refl

-- one option
module _ (c : List Rule) (a other : Text) where
  one_unknown : ((n : Text) → bytes_eq a n ≡ false → arg_by_long c n ≡ None) → (n : Text) → Contains (a ∷ []) n ⊎ (arg_by_long c n ≡ None)
  one_unknown none n = pick (bytes_eq a n) refl
    where
      pick : (b : Bool) → bytes_eq a n ≡ b → Contains (a ∷ []) n ⊎ (arg_by_long c n ≡ None)
      pick true e = inl (subst (Contains (a ∷ [])) (sym (same a n e)) (is_one a))
      pick false e = inr (none n e)

  one_option_is : arg_by_long c a ≡ Some (option_of a) → ((n : Text) → bytes_eq a n ≡ false → arg_by_long c n ≡ None) →
      arg_by_id c a ≡ Some (option_of a) → ((x : ℕ) → arg_by_short c x ≡ None) → bytes_eq other a ≡ false → bytes_eq a other ≡ false →
      ((v : Option Text) → long_of (codes "--" ++ spelled a v) ≡ Some (a, v)) → HasOptions c (a ∷ []) other
  one_option_is known unknown by_id no_short apart back spells = record {
    known = for_one (λ n. arg_by_long c n ≡ Some (option_of n)) a known;
    unknown = one_unknown unknown;
    by_id = for_one (λ n. arg_by_id c n ≡ Some (option_of n)) a by_id;
    no_short = no_short;
    apart = for_one (λ n. bytes_eq other n ≡ false) a apart;
    apart_back = for_one (λ n. bytes_eq n other ≡ false) a back;
    spells = for_one (λ n. (v : Option Text) → long_of (codes "--" ++ spelled n v) ≡ Some (n, v)) a spells;
  }

pub replay_has : HasOptions replay_rules replay_options (codes "list")
replay_has = one_option_is replay_rules (codes "fuel") (codes "list") refl (λ n e. rw e refl) refl (λ x. refl) refl refl
    (by_text (codes "fuel") refl (λ text. refl))

pub bundle_has : HasOptions bundle_rules bundle_options (codes "number")
bundle_has = one_option_is bundle_rules (codes "budget") (codes "number") refl (λ n e. rw e refl) refl (λ x. refl) refl refl
    (by_text (codes "budget") refl (λ text. refl))

pub sweep_has : HasOptions sweep_rules sweep_options (codes "number")
sweep_has = one_option_is sweep_rules (codes "edges") (codes "number") refl (λ n e. rw e refl) refl (λ x. refl) refl refl
    (by_text (codes "edges") refl (λ text. refl))

pub recheck_has : HasOptions [] [] (codes "number")
recheck_has = record {
  known = for_none (λ n. arg_by_long [] n ≡ Some (option_of n));
  unknown = λ n. inr refl;
  by_id = for_none (λ n. arg_by_id [] n ≡ Some (option_of n));
  no_short = λ x. refl;
  apart = for_none (λ n. bytes_eq (codes "number") n ≡ false);
  apart_back = for_none (λ n. bytes_eq n (codes "number") ≡ false);
  spells = for_none (λ n. (v : Option Text) → long_of (codes "--" ++ spelled n v) ≡ Some (n, v));
}

pub check_place : Place check_rules (codes "number") 0 1
check_place = full refl

pub replay_place : Place replay_rules (codes "list") 1 1
replay_place = free refl refl refl

pub workload_place : Place workload_rules (codes "number") 1 1
workload_place = free refl refl refl

pub bundle_place : Place bundle_rules (codes "number") 1 1
bundle_place = free refl refl refl

pub recheck_place : Place [] (codes "number") 0 1
recheck_place = full refl

pub sweep_place : Place sweep_rules (codes "number") 0 1
sweep_place = full refl

pub edit_place : Place edit_rules (codes "length") 1 1
edit_place = free refl refl refl

-- One command, after its name

-- no argument has a default, and none is required
pub record AreBare (c : List Rule) : Type 0 where
  pub no_faults : (rs : List Row) → defaults_fault rs c ≡ []
  pub no_defaults : (rs : List Row) → fold with_default rs c ≡ rs
  pub none_required : (rs : List Row) → list_any (λ a. a.required && not (is_given a.id rs)) c ≡ false

pub bare_nil : AreBare []
unfolding defaults_fault
bare_nil = record { no_faults = λ rs. refl; no_defaults = λ rs. refl; none_required = λ rs. refl }

bare_more : (id : Text) (long : Option Text) (index : Option ℕ) (c : List Rule) → AreBare c → AreBare (one_text id long index ∷ c)
unfolding defaults_fault
bare_more id long index c b = record {
  no_faults = λ rs. faults rs (has_row id rs) refl;
  no_defaults = λ rs. defaults rs (has_row id rs) refl;
  none_required = b.none_required;
}
  where
    faults : (rs : List Row) → (t : Bool) → has_row id rs ≡ t → defaults_fault rs (one_text id long index ∷ c) ≡ []
    faults rs true e = rw (e) (b.no_faults rs)
    faults rs false e = rw (e) (b.no_faults rs)

    defaults : (rs : List Row) → (t : Bool) → has_row id rs ≡ t → fold with_default rs (one_text id long index ∷ c) ≡ rs
    defaults rs true e = rw e (b.no_defaults rs)
    defaults rs false e = rw e (b.no_defaults rs)

pub check_bare : AreBare check_rules
check_bare = bare_more _ _ _ _ (bare_more _ _ _ _ bare_nil)

pub replay_bare : AreBare replay_rules
replay_bare = bare_more _ _ _ _ (bare_more _ _ _ _ bare_nil)

pub workload_bare : AreBare workload_rules
workload_bare = bare_more _ _ _ _ (bare_more _ _ _ _ (bare_more _ _ _ _ bare_nil))

pub bundle_bare : AreBare bundle_rules
bundle_bare = bare_more _ _ _ _ (bare_more _ _ _ _ bare_nil)

pub sweep_bare : AreBare sweep_rules
sweep_bare = bare_more _ _ _ _ bare_nil

pub edit_bare : AreBare edit_rules
edit_bare = bare_more _ _ _ _ (bare_more _ _ _ _ (bare_more _ _ _ _ bare_nil))

module _ (name : Text) (c : List Rule) (b : AreBare c) (words : List Text) where
  abbrev end : Walk
  end = walk c [] nothing_held words

  abbrev pub leaf_fault : Kinds
  leaf_fault = level_fault (leaf name c) [] nothing_held words false []

  leaf_is : leaf_fault ≡ or_else (walk_fault (leaf name c) [] (at [] None 1 false) words) (or_else (settle_fault c false end.held) [])
  leaf_is = rw (b.no_faults (settled c end.held).rows, b.none_required (finished c end.held)) refl

  pub leaf_rows : rows_after c [] words ≡ (settled c (fold (walked c []) (at [] None 1 false) words).held).rows
  leaf_rows = b.no_defaults (settled c end.held).rows

  pub leaf_takes : leaf_fault ≡ [] → (walk_fault (leaf name c) [] (at [] None 1 false) words ≡ []) × (settle_fault c false end.held ≡ [])
  leaf_takes h =
      let k = both_none _ _ (sym leaf_is ∙ h) in
      (k.0, (both_none _ _ k.1).0)

  pub leaf_well : walk_fault (leaf name c) [] (at [] None 1 false) words ≡ [] → settle_fault c false end.held ≡ [] → leaf_fault ≡ []
  leaf_well g h = leaf_is ∙ none_both _ _ g (none_both _ _ h refl)

-- The first word

abbrev top : Shape
top = record (new_shape (codes "smash")) {
  is_leaf = false;
  no_binary_name = true;
  disable_help_flag = true;
  disable_help_subcommand = true;
  disable_version_flag = true;
  subcommand_required = true;
  is_built = true;
}

abbrev subs : List Shape
subs = leaf (codes "check") check_rules ∷ leaf (codes "replay") replay_rules ∷ leaf (codes "workload") workload_rules
    ∷ leaf (codes "bundle") bundle_rules ∷ leaf (codes "recheck") [] ∷ leaf (codes "sweep") sweep_rules ∷ leaf (codes "edit") edit_rules
    ∷ []

abbrev line : App
line = record { top = top; subs = subs }

line_is : built line_app ≡ line
line_is = refl

abbrev names : Names
names = (codes "check", []) ∷ (codes "replay", []) ∷ (codes "workload", []) ∷ (codes "bundle", []) ∷ (codes "recheck", [])
    ∷ (codes "sweep", []) ∷ (codes "edit", []) ∷ []

abbrev first : Walk
first = walk_from nothing_held

-- the faults of a line, by those of its walk and where that ends
abbrev faults_at : Kinds → Walk → Kinds
faults_at k w =
    or_else k (or_else (entered_fault line w.stopped) (or_else (settle_fault [] false w.held)
    (or_else (defaults_fault (settled [] w.held).rows []) (check_fault top (finished [] w.held) (is_some (entered line w.stopped))))))

faults_are : (words : List Text) → fault_of line_app words ≡ faults_at (walk_fault top names first words) (walk [] names nothing_held words)
faults_are words = refl

-- after the name of a subcommand the words are left to it
stopped_well : (sub : Text) (seen words : List Text) → walk_fault top names (record first { stopped = Some (sub, seen) }) words ≡ []
unfolding walk_fault walked
stopped_well sub seen [] = refl
stopped_well sub seen (w ∷ ws) = stopped_well sub (seen ++ w ∷ []) ws

or_none : (k : Kinds) → or_else k [] ≡ k
or_none [] = refl
or_none (x ∷ xs) = refl

module _ (sub : Text) (c : List Rule) (turn : turn_fault top names first sub ≡ [])
    (is : walked [] names first sub ≡ record first { stopped = Some (sub, []) })
    (here : find (λ s. answers_to sub (label_of s)) subs ≡ Some (leaf sub c)) (words : List Text) where
  walks_well : walk_fault top names first (sub ∷ words) ≡ []
  unfolding walk_fault
  walks_well = none_both _ _ turn (ap (λ w. walk_fault top names w words) is ∙ stopped_well sub [] words)

  ends_at : walk [] names nothing_held (sub ∷ words) ≡ record first { stopped = Some (sub, words) }
  ends_at = ap (λ w. fold (walked [] names) w words) is ∙ sym (walk_stopped [] names first sub [] words)

  line_faults : fault_of line_app (sub ∷ words) ≡ level_fault (leaf sub c) [] nothing_held words false []
  unfolding defaults_fault
  line_faults = faults_are (sub ∷ words) ∙ ap₂ faults_at walks_well ends_at ∙ rw here (or_none _)

  line_rows : subcommand_of line_app (sub ∷ words) ≡ Some (sub, rows_after c [] words)
  line_rows = ap (λ (w : Walk). entered line w.stopped) ends_at ∙ rw here refl

module _ (words : List Text) where
  pub check_faults : fault_of line_app (codes "check" ∷ words) ≡ level_fault (leaf (codes "check") check_rules) [] nothing_held words false
      []
  unfolding walked
  check_faults = line_faults (codes "check") check_rules refl refl refl words

  pub check_entered : subcommand_of line_app (codes "check" ∷ words) ≡ Some (codes "check", rows_after check_rules [] words)
  unfolding walked
  check_entered = line_rows (codes "check") check_rules refl refl refl words

  pub replay_faults : fault_of line_app (codes "replay" ∷ words) ≡ level_fault (leaf (codes "replay") replay_rules) [] nothing_held words
      false []
  unfolding walked
  replay_faults = line_faults (codes "replay") replay_rules refl refl refl words

  pub replay_entered : subcommand_of line_app (codes "replay" ∷ words) ≡ Some (codes "replay", rows_after replay_rules [] words)
  unfolding walked
  replay_entered = line_rows (codes "replay") replay_rules refl refl refl words

  pub workload_faults : fault_of line_app (codes "workload" ∷ words)
      ≡ level_fault (leaf (codes "workload") workload_rules) [] nothing_held words false []
  unfolding walked
  workload_faults = line_faults (codes "workload") workload_rules refl refl refl words

  pub workload_entered : subcommand_of line_app (codes "workload" ∷ words) ≡ Some (codes "workload", rows_after workload_rules [] words)
  unfolding walked
  workload_entered = line_rows (codes "workload") workload_rules refl refl refl words

  pub bundle_faults : fault_of line_app (codes "bundle" ∷ words) ≡ level_fault (leaf (codes "bundle") bundle_rules) [] nothing_held words
      false []
  unfolding walked
  bundle_faults = line_faults (codes "bundle") bundle_rules refl refl refl words

  pub bundle_entered : subcommand_of line_app (codes "bundle" ∷ words) ≡ Some (codes "bundle", rows_after bundle_rules [] words)
  unfolding walked
  bundle_entered = line_rows (codes "bundle") bundle_rules refl refl refl words

  pub recheck_faults : fault_of line_app (codes "recheck" ∷ words) ≡ level_fault (leaf (codes "recheck") []) [] nothing_held words false []
  unfolding walked
  recheck_faults = line_faults (codes "recheck") [] refl refl refl words

  pub recheck_entered : subcommand_of line_app (codes "recheck" ∷ words) ≡ Some (codes "recheck", rows_after [] [] words)
  unfolding walked
  recheck_entered = line_rows (codes "recheck") [] refl refl refl words

  pub sweep_faults : fault_of line_app (codes "sweep" ∷ words) ≡ level_fault (leaf (codes "sweep") sweep_rules) [] nothing_held words false
      []
  unfolding walked
  sweep_faults = line_faults (codes "sweep") sweep_rules refl refl refl words

  pub sweep_entered : subcommand_of line_app (codes "sweep" ∷ words) ≡ Some (codes "sweep", rows_after sweep_rules [] words)
  unfolding walked
  sweep_entered = line_rows (codes "sweep") sweep_rules refl refl refl words

  pub edit_faults : fault_of line_app (codes "edit" ∷ words) ≡ level_fault (leaf (codes "edit") edit_rules) [] nothing_held words false []
  unfolding walked
  edit_faults = line_faults (codes "edit") edit_rules refl refl refl words

  pub edit_entered : subcommand_of line_app (codes "edit" ∷ words) ≡ Some (codes "edit", rows_after edit_rules [] words)
  unfolding walked
  edit_entered = line_rows (codes "edit") edit_rules refl refl refl words

-- A first word that is no name

pub no_words : fault_of line_app [] ≡ [] → ⊥
unfolding walk_fault defaults_fault
no_words h = let e : kind.MissingSubcommand ∷ [] ≡ [] = h in cc

-- no command has this name
pub record IsNoName (word : Text) : Type 0 where
  pub no_check : bytes_eq (codes "check") word ≡ false
  pub no_replay : bytes_eq (codes "replay") word ≡ false
  pub no_workload : bytes_eq (codes "workload") word ≡ false
  pub no_bundle : bytes_eq (codes "bundle") word ≡ false
  pub no_recheck : bytes_eq (codes "recheck") word ≡ false
  pub no_sweep : bytes_eq (codes "sweep") word ≡ false
  pub no_edit : bytes_eq (codes "edit") word ≡ false

module _ (word : Text) (words : List Text) (n : IsNoName word) where
  -- the words end after `--`, or go on where nothing takes them
  behind_dashes : (w : Walk) → w ≡ record first { is_trailing = true } → (ws : List Text) → faults_at (walk_fault top names w ws)
      (fold (walked [] names) w ws) ≡ [] → ⊥
  unfolding walk_fault defaults_fault
  behind_dashes w is [] h = let e : kind.MissingSubcommand ∷ [] ≡ [] = rw is at h in cc
  behind_dashes w is (x ∷ xs) h =
      let k : turn_fault top names w x ≡ [] = (both_none _ _ (both_none _ _ h).0).0 in
      let e : kind.UnknownArgument ∷ kind.InvalidSubcommand ∷ [] ≡ [] = rw is at k in
      cc

  dashed : bytes_eq word (codes "--") ≡ true → fault_of line_app (word ∷ words) ≡ [] → ⊥
  unfolding walk_fault walked
  dashed d h =
      let next : walked [] names first word ≡ record first { is_trailing = true } =
      rw (n.no_check, n.no_replay, n.no_workload, n.no_bundle, n.no_recheck, n.no_sweep, n.no_edit, d) refl in
      let turn : turn_fault top names first word ≡ [] =
      rw (n.no_check, n.no_replay, n.no_workload, n.no_bundle, n.no_recheck, n.no_sweep, n.no_edit, d) refl in
      behind_dashes (walked [] names first word) next words (sym (faults_are (word ∷ words)
      ∙ ap (λ k. faults_at k (fold (walked [] names) (walked [] names first word) words))
      (ap (λ k. or_else k (walk_fault top names (walked [] names first word) words)) turn)) ∙ h)

  turned : fault_of line_app (word ∷ words) ≡ [] → turn_fault top names first word ≡ []
  unfolding walk_fault
  turned h = (both_none _ _ (both_none _ _ (sym (faults_are (word ∷ words)) ∙ h)).0).0

  undashed : bytes_eq word (codes "--") ≡ false → fault_of line_app (word ∷ words) ≡ [] → ⊥
  undashed d h = by_long (long_of word) refl
    where
      by_char : (flags : Text) → (x : Option ℕ) → long_of word ≡ None → short_of word ≡ Some flags → slice_get (chars flags) 0 ≡ x → ⊥
      by_char flags None e s f =
          let k : kind.UnknownArgument ∷ kind.InvalidSubcommand ∷ [] ≡ [] =
          rw (
            n.no_check,
            n.no_replay,
            n.no_workload,
            n.no_bundle,
            n.no_recheck,
            n.no_sweep,
            n.no_edit,
            d,
            e,
            s,
            no_flag_fault [] flags f (length flags) nothing_held,
            ← bundle_ends [] (length flags) flags 0 outcome.plain nothing_held (sym f),
          ) at (turned h) in
          cc
      by_char flags (Some x) e s f =
          flag_fault [] nothing_held flags x f refl (both_none _ _
          (rw (n.no_check, n.no_replay, n.no_workload, n.no_bundle, n.no_recheck, n.no_sweep, n.no_edit, d, e, s) at (turned h))).0

      by_short : (f : Option Text) → long_of word ≡ None → short_of word ≡ f → ⊥
      by_short None e s =
          let k : kind.UnknownArgument ∷ kind.InvalidSubcommand ∷ [] ≡ [] =
          rw (n.no_check, n.no_replay, n.no_workload, n.no_bundle, n.no_recheck, n.no_sweep, n.no_edit, d, e, s) at (turned h) in
          cc
      by_short (Some flags) e s = by_char flags (slice_get (chars flags) 0) e s refl

      by_long : (l : Option (Text × Option Text)) → long_of word ≡ l → ⊥
      by_long None e = by_short (short_of word) e refl
      by_long (Some p) e =
          let k = rw (n.no_check, n.no_replay, n.no_workload, n.no_bundle, n.no_recheck, n.no_sweep, n.no_edit, d, e) at (turned h) in cc

  pub no_name : fault_of line_app (word ∷ words) ≡ [] → ⊥
  no_name = pick (bytes_eq word (codes "--")) refl
    where
      pick : (b : Bool) → bytes_eq word (codes "--") ≡ b → fault_of line_app (word ∷ words) ≡ [] → ⊥
      pick true e = dashed e
      pick false e = undashed e
