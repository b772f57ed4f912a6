-- The words are a command exactly where `clap` takes them and what they give is that of the command.
use Rattle.std.proofs.Common.{◌≡◌, ◌∙◌, ℕ, ◌≤◌, Bool, true, false, List, [], ◌∷◌, length, refl, Option, Some, None, ap, ap₂, sym, subst, arith, codes}
use Rattle.std.specs.Prelude.{Contains, ◌&&◌, nat_le, ℤ}
use Rattle.std.specs.List.{list_all}
use Rattle.std.specs.Str.{bytes_eq}
use Rattle.std.proofs.lemmas.Slice.Eq.{bytes_eq-Decides}
use Rattle.clap.specs.Simple.{subcommand_of}
use Rattle.clap.specs.Walk.{Row, Rule, first_of, nothing_held, rows_after}
use Rattle.clap.specs.Faults.{fault_of, level_fault}
use Rattle.std.proofs.lemmas.Bool.Decides.{nat_tests}
use Rattle.run_replay.proofs.Keeps.{and_left}
use Rattle.command_words.specs.Words.{default_budget, default_edges, default_fuel, default_workers, max_asserts, max_budget, max_edges, max_fuel, max_number, max_old_length, max_workers, bundle, edit, is_bundle, is_edit, is_recheck, is_sweep, recheck, sweep, sweep_options, bundle_options}
use Rattle.command_words.specs.Words.{AreParted, AreWords, Command, GivesBudget, GivesWorkers, HasOneCommand, IsGivenOr, IsList, IsNumber, Text, is_digit, is_numeral, none, some, value_from, check, check_options, given, is_check, is_replay, is_workload, missing, replay, replay_options, texts_of, workload}
use Rattle.command_words.specs.steps.WordsLine as steps
use Rattle.command_words.specs.Commands.{FitsCheck, FitsCommand}
use Rattle.command_words.specs.steps.WordsLine.{Gives, line_app, listed, name_of}
use Rattle.command_words.proofs.WordsRows.{Texts, first_listed, rows}
use Rattle.command_words.proofs.WordsLists.{list_same}
use Rattle.command_words.proofs.WordsShapes.{AllOther, IsOther, first_byte, other_byte}
use Rattle.command_words.proofs.WordsLeaf.{HasOptions, Place, free, full, leaf}
use Rattle.command_words.proofs.WordsReading.{Asks, taken, what_is_taken}
use Rattle.command_words.proofs.WordsLine.{AreBare, bare_nil, bundle_bare, bundle_entered, bundle_faults, bundle_has, bundle_place, bundle_rules, check_bare, check_entered, check_faults, check_has, check_place, check_rules, edit_bare, edit_entered, edit_faults, edit_has, edit_place, edit_rules, for_check, for_none, for_one, is_budget, is_one, is_workers, leaf_rows, leaf_takes, leaf_well, no_name, no_words, recheck_entered, recheck_faults, recheck_has, recheck_place, replay_bare, replay_entered, replay_faults, replay_has, replay_place, replay_rules, sweep_bare, sweep_entered, sweep_faults, sweep_has, sweep_place, sweep_rules, workload_bare, workload_entered, workload_faults, workload_has, workload_place, workload_rules}

-- The words after a name, with the rows that `clap` makes of them

pub record Parts (c : List Rule) (names : List Text) (other : Text) (room : ℕ) (words : List Text) (options : Texts) (others : List Text) :
    Type 0 where
  pub parted : AreParted names false words options others
  pub of_options : (n : Text) → Contains names n → listed (first_of n (rows_after c [] words)) ≡ texts_of n options
  pub of_others : listed (first_of other (rows_after c [] words)) ≡ others
  pub fits : length others ≤ room

room_is : {c : List Rule} {other : Text} {room position : ℕ} → Place c other room position → room ≤ 1
room_is (full e) = omega arith
room_is (free one two by_id) = omega arith

module _ (name : Text) (c : List Rule) (names : List Text) (other : Text) (room : ℕ) (o : HasOptions c names other)
    (place : Place c other room 1)
    (b : AreBare c) (words : List Text) where
  rows_listed : (n : Text) (all : Texts) (ts : List Text) → rows_after c [] words ≡ rows all → texts_of n all ≡ ts → length ts ≤ 1 →
      listed (first_of n (rows_after c [] words)) ≡ ts
  rows_listed n all ts is e few =
      ap (λ rs. listed (first_of n rs)) is ∙ first_listed n all (subst (λ us. length us ≤ 1) (sym e) few) ∙ e

  pub parts_of : level_fault (leaf name c) [] nothing_held words false [] ≡ [] →
      (options : Texts) × (others : List Text) × Parts c names other room words options others
  parts_of h =
      let q = what_is_taken name c names other o words room place (leaf_takes name c b words h) in
      let is = leaf_rows name c b words ∙ q.rows_are in (
        q.options,
        q.others,
        record {
          parted = q.parted;
          of_options = λ n within. rows_listed n q.all (texts_of n q.options) is (q.of_options n within) (q.few n within);
          of_others = rows_listed other q.all q.others is q.of_others (let f = q.fits in let m = room_is place in omega arith);
          fits = q.fits;
        },
      )

  pub parts_taken : (options : Texts) (others : List Text) → AreParted names false words options others →
      Asks name c names other o options others [] room →
      (level_fault (leaf name c) [] nothing_held words false [] ≡ []) × Parts c names other room words options others
  parts_taken options others parted a =
      let q = taken name c names other o parted [] None room 1 place tt tt a in
      let is = leaf_rows name c b words ∙ q.ends.rows_are in (
        leaf_well name c b words q.ends.walks q.ends.settles,
        record {
          parted = parted;
          of_options = λ n within. rows_listed n q.all (texts_of n options) is (q.of_options n within) (a.few n within);
          of_others = rows_listed other q.all others is q.of_others (let f = a.fits in let m = room_is place in omega arith);
          fits = a.fits;
        },
      )

-- Numbers and lists are no options

numeral_first : (text : Text) → is_numeral text ≡ true → first_byte text ≡ 45 → ⊥
numeral_first [] h e = cc
numeral_first (b ∷ []) h e = grind (arith, nat_tests)
numeral_first (b ∷ d ∷ bs) h e = let k = and_left (nat_le 49 b && nat_le b 57) (list_all is_digit (d ∷ bs)) h in grind (arith, nat_tests)

number_other : (low high n : ℕ) (text : Text) → IsNumber low high text n → IsOther text
number_other low high n text h = other_byte text (numeral_first text h.numeral)

list_first : {text : Text} {zs : List ℤ} → IsList text zs → first_byte text ≡ 91
list_first (none n) = refl
list_first (some h le) = refl

list_other : (text : Text) (zs : List ℤ) → IsList text zs → IsOther text
list_other text zs h = other_byte text (λ e. let k : 91 ≡ 45 = sym (list_first h) ∙ e in absurd (omega arith))

module _ {default high : ℕ} where
  given_other : {ts : List Text} {n : ℕ} → IsGivenOr default high ts n → AllOther ts
  given_other missing = tt
  given_other (given {text} {n} h) = (number_other 1 high n text h, tt)

  given_few : {ts : List Text} {n : ℕ} → IsGivenOr default high ts n → length ts ≤ 1
  given_few missing = omega arith
  given_few (given h) = omega arith

  given_same : {ts : List Text} {m n : ℕ} → IsGivenOr default high ts m → IsGivenOr default high ts n → m ≡ n
  given_same missing missing = refl
  given_same (given g) (given h) = g.value ∙ sym h.value

listed_some : (o : Option Text) (t : Text) → listed o ≡ t ∷ [] → o ≡ Some t
listed_some None t e = cc
listed_some (Some u) t e = cc

-- What a command gives is what its words give

pub record IsLine (ws : List Text) (c : Command) : Type 0 where
  pub taken_well : fault_of line_app ws ≡ []
  pub all : List Row
  pub entered : subcommand_of line_app ws ≡ Some (name_of c, all)
  pub gives : Gives c (λ id. first_of id all)

module _ (options : Texts) (b w : ℕ) (budget : GivesBudget options b) (workers : GivesWorkers options w) where
  check_asks : (others : List Text) (room : ℕ) → AllOther others → length others ≤ room → room ≤ 1 →
      (name other : Text) (c : List Rule) (o : HasOptions c check_options other) → Asks name c check_options other o options others [] room
  check_asks others room plain fits le name other c o = record {
    fine = for_check (λ n. AllOther (texts_of n options)) (given_other budget) (given_other workers);
    plain = plain;
    few = for_check (λ n. length (texts_of n options) ≤ 1) (given_few budget) (given_few workers);
    fits = fits;
    clear = omega arith;
  }

  gives_numbers : (rs : List Row) → ((n : Text) → Contains check_options n → listed (first_of n rs) ≡ texts_of n options) →
      steps.GivesBudget (λ id. first_of id rs) b × steps.GivesWorkers (λ id. first_of id rs) w
  gives_numbers rs h = (
    subst (λ ts. IsGivenOr default_budget max_budget ts b) (sym (h (codes "budget") is_budget)) budget,
    subst (λ ts. IsGivenOr default_workers max_workers ts w) (sym (h (codes "workers") is_workers)) workers,
  )

-- one option
module _ (options : Texts) (a : Text) {default high n : ℕ} (number : IsGivenOr default high (texts_of a options) n) where
  one_asks : (others : List Text) (room : ℕ) → AllOther others → length others ≤ room → room ≤ 1 →
      (name other : Text) (c : List Rule) (o : HasOptions c (a ∷ []) other) → Asks name c (a ∷ []) other o options others [] room
  one_asks others room plain fits le name other c o = record {
    fine = for_one (λ n. AllOther (texts_of n options)) a (given_other number);
    plain = plain;
    few = for_one (λ n. length (texts_of n options) ≤ 1) a (given_few number);
    fits = fits;
    clear = omega arith;
  }

  gives_one : (rs : List Row) → ((n : Text) → Contains (a ∷ []) n → listed (first_of n rs) ≡ texts_of n options) →
      IsGivenOr default high (listed (first_of a rs)) n
  gives_one rs h = subst (λ ts. IsGivenOr default high ts n) (sym (h a (is_one a))) number

recheck_asks : (options : Texts) → Asks (codes "recheck") [] [] (codes "number") recheck_has options [] [] 0
recheck_asks options = record {
  fine = for_none (λ n. AllOther (texts_of n options));
  plain = tt;
  few = for_none (λ n. length (texts_of n options) ≤ 1);
  fits = omega arith;
  clear = omega arith;
}

pub is_line : {ws : List Text} {c : Command} → AreWords ws c → IsLine ws c
is_line (is_check {words} {options} {b} {w} parted budget workers) =
    let q = parts_taken (codes "check") check_rules check_options (codes "number") 0 check_has check_place check_bare words options []
    parted
    (check_asks options b w budget workers [] 0 tt (omega arith) (omega arith) (codes "check") (codes "number") check_rules check_has) in
    record {
      taken_well = check_faults words ∙ q.0;
      all = rows_after check_rules [] words;
      entered = check_entered words;
      gives = gives_numbers options b w budget workers (rows_after check_rules [] words) q.1.of_options;
    }
is_line (is_replay {words} {options} {list} {f} {zs} parted fuel read) =
    let q = parts_taken (codes "replay") replay_rules replay_options (codes "list") 1 replay_has replay_place replay_bare words options
    (list ∷ []) parted (one_asks options (codes "fuel") fuel (list ∷ []) 1 (list_other list zs read, tt) (omega arith) (omega arith)
    (codes "replay") (codes "list") replay_rules replay_has) in
    record {
      taken_well = replay_faults words ∙ q.0;
      all = rows_after replay_rules [] words;
      entered = replay_entered words;
      gives = (
        gives_one options (codes "fuel") fuel (rows_after replay_rules [] words) q.1.of_options,
        (list, listed_some _ list q.1.of_others, read),
      );
    }
is_line (is_workload {words} {options} {number} {n} {b} {w} parted read budget workers) =
    let q = parts_taken (codes "workload") workload_rules check_options (codes "number") 1 workload_has workload_place workload_bare words
    options
    (number ∷ []) parted
    (check_asks options b w budget workers (number ∷ []) 1 (number_other 1 max_number n number read, tt) (omega arith) (omega arith)
    (codes "workload") (codes "number") workload_rules workload_has) in
    record {
      taken_well = workload_faults words ∙ q.0;
      all = rows_after workload_rules [] words;
      entered = workload_entered words;
      gives = let g = gives_numbers options b w budget workers (rows_after workload_rules [] words) q.1.of_options in
          ((number, listed_some _ number q.1.of_others, read), g.0, g.1);
    }
is_line (is_bundle {words} {options} {number} {k} {b} parted read budget) =
    let q = parts_taken (codes "bundle") bundle_rules bundle_options (codes "number") 1 bundle_has bundle_place bundle_bare words options
    (number ∷ []) parted (one_asks options (codes "budget") budget (number ∷ []) 1 (number_other 1 max_asserts k number read, tt)
    (omega arith) (omega arith) (codes "bundle") (codes "number") bundle_rules bundle_has) in
    record {
      taken_well = bundle_faults words ∙ q.0;
      all = rows_after bundle_rules [] words;
      entered = bundle_entered words;
      gives = (
        (number, listed_some _ number q.1.of_others, read),
        gives_one options (codes "budget") budget (rows_after bundle_rules [] words) q.1.of_options,
      );
    }
is_line (is_recheck {words} {options} parted) =
    let q = parts_taken (codes "recheck") [] [] (codes "number") 0 recheck_has recheck_place bare_nil words options [] parted
    (recheck_asks options) in
    record { taken_well = recheck_faults words ∙ q.0; all = rows_after [] [] words; entered = recheck_entered words; gives = tt }
is_line (is_sweep {words} {options} {e} parted edges) =
    let q = parts_taken (codes "sweep") sweep_rules sweep_options (codes "number") 0 sweep_has sweep_place sweep_bare words options []
    parted (one_asks options (codes "edges") edges [] 0 tt (omega arith) (omega arith) (codes "sweep") (codes "number") sweep_rules
    sweep_has) in
    record {
      taken_well = sweep_faults words ∙ q.0;
      all = rows_after sweep_rules [] words;
      entered = sweep_entered words;
      gives = gives_one options (codes "edges") edges (rows_after sweep_rules [] words) q.1.of_options;
    }
is_line (is_edit {words} {options} {number} {n} {b} {w} parted read budget workers) =
    let q = parts_taken (codes "edit") edit_rules check_options (codes "length") 1 edit_has edit_place edit_bare words options
    (number ∷ []) parted
    (check_asks options b w budget workers (number ∷ []) 1 (number_other 1 max_old_length n number read, tt) (omega arith) (omega arith)
    (codes "edit") (codes "length") edit_rules edit_has) in
    record {
      taken_well = edit_faults words ∙ q.0;
      all = rows_after edit_rules [] words;
      entered = edit_entered words;
      gives = let g = gives_numbers options b w budget workers (rows_after edit_rules [] words) q.1.of_options in
          ((number, listed_some _ number q.1.of_others, read), g.0, g.1);
    }

-- The other direction

none_left : (ts : List Text) → length ts ≤ 0 → ts ≡ []
none_left [] h = refl
none_left (t ∷ ts) h = absurd (omega arith)

check_is : (words : List Text) (b w : ℕ) → fault_of line_app (codes "check" ∷ words) ≡ [] →
    Gives (check b w) (λ id. first_of id (rows_after check_rules [] words)) → AreWords (codes "check" ∷ words) (check b w)
check_is words b w h g =
    let q = parts_of (codes "check") check_rules check_options (codes "number") 0 check_has check_place check_bare words
    (sym (check_faults words) ∙ h) in
    let none : q.1 ≡ [] = none_left q.1 q.2.fits in
    is_check (subst (λ os. AreParted check_options false words q.0 os) none q.2.parted)
    (subst (λ ts. IsGivenOr default_budget max_budget ts b) (q.2.of_options (codes "budget") is_budget) g.0)
    (subst (λ ts. IsGivenOr default_workers max_workers ts w) (q.2.of_options (codes "workers") is_workers) g.1)

replay_is : (words : List Text) (f : ℕ) (zs : List ℤ) → fault_of line_app (codes "replay" ∷ words) ≡ [] →
    Gives (replay f zs) (λ id. first_of id (rows_after replay_rules [] words)) → AreWords (codes "replay" ∷ words) (replay f zs)
replay_is words f zs h (fuel, (list, is, read)) =
    let q = parts_of (codes "replay") replay_rules replay_options (codes "list") 1 replay_has replay_place replay_bare words
    (sym (replay_faults words) ∙ h) in
    let one : q.1 ≡ list ∷ [] = sym q.2.of_others ∙ ap listed is in
    is_replay (subst (λ os. AreParted replay_options false words q.0 os) one q.2.parted)
    (subst (λ ts. IsGivenOr default_fuel max_fuel ts f) (q.2.of_options (codes "fuel") (is_one (codes "fuel"))) fuel) read

workload_is : (words : List Text) (n b w : ℕ) → fault_of line_app (codes "workload" ∷ words) ≡ [] →
    Gives (workload n b w) (λ id. first_of id (rows_after workload_rules [] words)) → AreWords (codes "workload" ∷ words) (workload n b w)
workload_is words n b w h ((number, is, read), budget, workers) =
    let q = parts_of (codes "workload") workload_rules check_options (codes "number") 1 workload_has workload_place workload_bare words
    (sym (workload_faults words) ∙ h) in
    let one : q.1 ≡ number ∷ [] = sym q.2.of_others ∙ ap listed is in
    is_workload (subst (λ os. AreParted check_options false words q.0 os) one q.2.parted) read
    (subst (λ ts. IsGivenOr default_budget max_budget ts b) (q.2.of_options (codes "budget") is_budget) budget)
    (subst (λ ts. IsGivenOr default_workers max_workers ts w) (q.2.of_options (codes "workers") is_workers) workers)

bundle_is : (words : List Text) (k b : ℕ) → fault_of line_app (codes "bundle" ∷ words) ≡ [] →
    Gives (bundle k b) (λ id. first_of id (rows_after bundle_rules [] words)) → AreWords (codes "bundle" ∷ words) (bundle k b)
bundle_is words k b h ((number, is, read), budget) =
    let q = parts_of (codes "bundle") bundle_rules bundle_options (codes "number") 1 bundle_has bundle_place bundle_bare words
    (sym (bundle_faults words) ∙ h) in
    let one : q.1 ≡ number ∷ [] = sym q.2.of_others ∙ ap listed is in
    is_bundle (subst (λ os. AreParted bundle_options false words q.0 os) one q.2.parted) read
    (subst (λ ts. IsGivenOr default_budget max_budget ts b) (q.2.of_options (codes "budget") (is_one (codes "budget"))) budget)

recheck_is : (words : List Text) → fault_of line_app (codes "recheck" ∷ words) ≡ [] → AreWords (codes "recheck" ∷ words) recheck
recheck_is words h =
    let q = parts_of (codes "recheck") [] [] (codes "number") 0 recheck_has recheck_place bare_nil words (sym (recheck_faults words) ∙ h) in
    let none : q.1 ≡ [] = none_left q.1 q.2.fits in
    is_recheck (subst (λ os. AreParted [] false words q.0 os) none q.2.parted)

sweep_is : (words : List Text) (e : ℕ) → fault_of line_app (codes "sweep" ∷ words) ≡ [] →
    Gives (sweep e) (λ id. first_of id (rows_after sweep_rules [] words)) → AreWords (codes "sweep" ∷ words) (sweep e)
sweep_is words e h g =
    let q = parts_of (codes "sweep") sweep_rules sweep_options (codes "number") 0 sweep_has sweep_place sweep_bare words
    (sym (sweep_faults words) ∙ h) in
    let none : q.1 ≡ [] = none_left q.1 q.2.fits in
    is_sweep (subst (λ os. AreParted sweep_options false words q.0 os) none q.2.parted)
    (subst (λ ts. IsGivenOr default_edges max_edges ts e) (q.2.of_options (codes "edges") (is_one (codes "edges"))) g)

edit_is : (words : List Text) (n b w : ℕ) → fault_of line_app (codes "edit" ∷ words) ≡ [] →
    Gives (edit n b w) (λ id. first_of id (rows_after edit_rules [] words)) → AreWords (codes "edit" ∷ words) (edit n b w)
edit_is words n b w h ((number, is, read), budget, workers) =
    let q = parts_of (codes "edit") edit_rules check_options (codes "length") 1 edit_has edit_place edit_bare words
    (sym (edit_faults words) ∙ h) in
    let one : q.1 ≡ number ∷ [] = sym q.2.of_others ∙ ap listed is in
    is_edit (subst (λ os. AreParted check_options false words q.0 os) one q.2.parted) read
    (subst (λ ts. IsGivenOr default_budget max_budget ts b) (q.2.of_options (codes "budget") is_budget) budget)
    (subst (λ ts. IsGivenOr default_workers max_workers ts w) (q.2.of_options (codes "workers") is_workers) workers)

-- by the name, since the names of the commands differ in their fourth byte
abbrev pub fourth_byte : Text → ℕ
fourth_byte (a ∷ b ∷ c ∷ d ∷ bs) = d
fourth_byte bs = 0

check_all : (words : List Text) (c : Command) → fault_of line_app (codes "check" ∷ words) ≡ [] → name_of c ≡ codes "check" →
    Gives c (λ id. first_of id (rows_after check_rules [] words)) → AreWords (codes "check" ∷ words) c
check_all words (check b w) h e g = check_is words b w h g
check_all words c h e g = let k = ap fourth_byte e in absurd (omega arith)

replay_all : (words : List Text) (c : Command) → fault_of line_app (codes "replay" ∷ words) ≡ [] → name_of c ≡ codes "replay" →
    Gives c (λ id. first_of id (rows_after replay_rules [] words)) → AreWords (codes "replay" ∷ words) c
replay_all words (replay f zs) h e g = replay_is words f zs h g
replay_all words c h e g = let k = ap fourth_byte e in absurd (omega arith)

workload_all : (words : List Text) (c : Command) → fault_of line_app (codes "workload" ∷ words) ≡ [] → name_of c ≡ codes "workload" →
    Gives c (λ id. first_of id (rows_after workload_rules [] words)) → AreWords (codes "workload" ∷ words) c
workload_all words (workload n b w) h e g = workload_is words n b w h g
workload_all words c h e g = let k = ap fourth_byte e in absurd (omega arith)

bundle_all : (words : List Text) (c : Command) → fault_of line_app (codes "bundle" ∷ words) ≡ [] → name_of c ≡ codes "bundle" →
    Gives c (λ id. first_of id (rows_after bundle_rules [] words)) → AreWords (codes "bundle" ∷ words) c
bundle_all words (bundle k b) h e g = bundle_is words k b h g
bundle_all words c h e g = let k = ap fourth_byte e in absurd (omega arith)

recheck_all : (words : List Text) (c : Command) → fault_of line_app (codes "recheck" ∷ words) ≡ [] → name_of c ≡ codes "recheck" →
    Gives c (λ id. first_of id (rows_after [] [] words)) → AreWords (codes "recheck" ∷ words) c
recheck_all words recheck h e g = recheck_is words h
recheck_all words c h e g = let k = ap fourth_byte e in absurd (omega arith)

sweep_all : (words : List Text) (c : Command) → fault_of line_app (codes "sweep" ∷ words) ≡ [] → name_of c ≡ codes "sweep" →
    Gives c (λ id. first_of id (rows_after sweep_rules [] words)) → AreWords (codes "sweep" ∷ words) c
sweep_all words (sweep e) h is g = sweep_is words e h g
sweep_all words c h e g = let k = ap fourth_byte e in absurd (omega arith)

edit_all : (words : List Text) (c : Command) → fault_of line_app (codes "edit" ∷ words) ≡ [] → name_of c ≡ codes "edit" →
    Gives c (λ id. first_of id (rows_after edit_rules [] words)) → AreWords (codes "edit" ∷ words) c
edit_all words (edit n b w) h e g = edit_is words n b w h g
edit_all words c h e g = let k = ap fourth_byte e in absurd (omega arith)

pub same_pair : (m n : Text) (xs ys : List Row) → ◌≡◌ {A = Option (Text × List Row)} (Some (m, xs)) (Some (n, ys)) → (m ≡ n) × (xs ≡ ys)
same_pair m n xs ys e =
    let p : ◌≡◌ {A = Text × List Row} (m, xs) (n, ys) = cc in
    (ap (λ (q : Text × List Row). q.0) p, ap (λ (q : Text × List Row). q.1) p)

module _ (sub : Text) (words : List Text) (rs : List Row) (c : Command) (entered : subcommand_of line_app (sub ∷ words) ≡ Some (sub, rs))
    (is_it : fault_of line_app (sub ∷ words) ≡ [] → name_of c ≡ sub → Gives c (λ id. first_of id rs) → AreWords (sub ∷ words) c) where
  by_name : (word name : Text) (all : List Row) → bytes_eq sub word ≡ true → fault_of line_app (word ∷ words) ≡ [] →
      subcommand_of line_app (word ∷ words) ≡ Some (name, all) → name_of c ≡ name → Gives c (λ id. first_of id all) →
      AreWords (word ∷ words) c
  by_name word name all e h is n g =
      let same : sub ≡ word = (bytes_eq-Decides sub word).0 e in
      let met = same_pair sub name rs all (sym entered ∙ ap (λ w. subcommand_of line_app (w ∷ words)) same ∙ is) in
      subst (λ w. AreWords (w ∷ words) c) same
      (is_it (ap (λ w. fault_of line_app (w ∷ words)) same ∙ h) (n ∙ sym met.0) (subst (λ r. Gives c (λ id. first_of id r)) (sym met.1) g))

pub are_words : (ws : List Text) (name : Text) (all : List Row) (c : Command) → fault_of line_app ws ≡ [] →
    subcommand_of line_app ws ≡ Some (name, all) → name_of c ≡ name → Gives c (λ id. first_of id all) → AreWords ws c
are_words [] name all c h is n g = absurd (no_words h)
are_words (word ∷ words) name all c h is n g =
    pick (bytes_eq (codes "check") word) (bytes_eq (codes "replay") word) (bytes_eq (codes "workload") word)
    (bytes_eq (codes "bundle") word) (bytes_eq (codes "recheck") word) (bytes_eq (codes "sweep") word) (bytes_eq (codes "edit") word)
    refl refl refl refl refl refl refl
  where
    pick : (a b d f j k l : Bool) → bytes_eq (codes "check") word ≡ a → bytes_eq (codes "replay") word ≡ b →
        bytes_eq (codes "workload") word ≡ d → bytes_eq (codes "bundle") word ≡ f → bytes_eq (codes "recheck") word ≡ j →
        bytes_eq (codes "sweep") word ≡ k →
        bytes_eq (codes "edit") word ≡ l → AreWords (word ∷ words) c
    pick true b d f j k l e1 e2 e3 e4 e5 e6 e7 =
        by_name (codes "check") words (rows_after check_rules [] words) c (check_entered words) (check_all words c) word name all e1 h
        is n g
    pick false true d f j k l e1 e2 e3 e4 e5 e6 e7 =
        by_name (codes "replay") words (rows_after replay_rules [] words) c (replay_entered words) (replay_all words c) word name all e2 h
        is n g
    pick false false true f j k l e1 e2 e3 e4 e5 e6 e7 =
        by_name (codes "workload") words (rows_after workload_rules [] words) c (workload_entered words) (workload_all words c) word name
        all
        e3 h is n g
    pick false false false true j k l e1 e2 e3 e4 e5 e6 e7 =
        by_name (codes "bundle") words (rows_after bundle_rules [] words) c (bundle_entered words) (bundle_all words c) word name all e4 h
        is n g
    pick false false false false true k l e1 e2 e3 e4 e5 e6 e7 =
        by_name (codes "recheck") words (rows_after [] [] words) c (recheck_entered words) (recheck_all words c) word name all e5 h
        is n g
    pick false false false false false true l e1 e2 e3 e4 e5 e6 e7 =
        by_name (codes "sweep") words (rows_after sweep_rules [] words) c (sweep_entered words) (sweep_all words c) word name all e6 h
        is n g
    pick false false false false false false true e1 e2 e3 e4 e5 e6 e7 =
        by_name (codes "edit") words (rows_after edit_rules [] words) c (edit_entered words) (edit_all words c) word name all e7 h
        is n g
    pick false false false false false false false e1 e2 e3 e4 e5 e6 e7 =
        absurd (no_name word words (record {
          no_check = e1;
          no_replay = e2;
          no_workload = e3;
          no_bundle = e4;
          no_recheck = e5;
          no_sweep = e6;
          no_edit = e7;
        }) h)

-- One command

module _ {default high : ℕ} where
  pub same_given : {ts us : List Text} {m n : ℕ} → ts ≡ us → IsGivenOr default high ts m → IsGivenOr default high us n → m ≡ n
  same_given {n = n} e g h = given_same g (subst (λ vs. IsGivenOr default high vs n) (sym e) h)

same_word : {o : Option Text} {s t : Text} → o ≡ Some s → o ≡ Some t → t ≡ s
same_word {o} {s} {t} e f = let k : Some t ≡ Some s = sym f ∙ e in cc

same_number : {low high m n : ℕ} {s t : Text} → t ≡ s → IsNumber low high s m → IsNumber low high t n → m ≡ n
same_number e g h = g.value ∙ ap (value_from 0) (sym e) ∙ sym h.value

gives_same : (c d : Command) (text_of : Text → Option Text) → name_of c ≡ name_of d → Gives c text_of → Gives d text_of → c ≡ d
gives_same (check b w) (check b2 w2) t e g h = ap₂ check (given_same g.0 h.0) (given_same g.1 h.1)
gives_same (replay f zs) (replay f2 ys) t e (fuel, (list, is, read)) (fuel2, (list2, is2, read2)) =
    let l = same_word is is2 in
    ap₂ replay (given_same fuel fuel2) (list_same list zs ys read (subst (λ x. IsList x ys) l read2))
gives_same (workload n b w) (workload n2 b2 w2) t e ((text, is, read), budget, workers) ((text2, is2, read2), budget2, workers2) =
    let m = same_number (same_word is is2) read read2 in
    let o : b ≡ b2 = given_same budget budget2 in
    let p : w ≡ w2 = given_same workers workers2 in
    (λ i. workload (m i) (o i) (p i))
gives_same (bundle n b) (bundle n2 b2) t e ((text, is, read), budget) ((text2, is2, read2), budget2) =
    ap₂ bundle (same_number (same_word is is2) read read2) (given_same budget budget2)
gives_same recheck recheck t e g h = refl
gives_same (sweep n) (sweep n2) t e g h = ap sweep (given_same g h)
gives_same (edit n b w) (edit n2 b2 w2) t e ((text, is, read), budget, workers) ((text2, is2, read2), budget2, workers2) =
    let m = same_number (same_word is is2) read read2 in
    let o : b ≡ b2 = given_same budget budget2 in
    let p : w ≡ w2 = given_same workers workers2 in
    (λ i. edit (m i) (o i) (p i))
gives_same c d t e g h = let k = ap fourth_byte e in absurd (omega arith)

pub one_command : HasOneCommand
one_command ws c d g h =
    let j = is_line g in
    let k = is_line h in
    let met = same_pair (name_of c) (name_of d) j.all k.all (sym j.entered ∙ k.entered) in
    gives_same c d (λ id. first_of id k.all) met.0 (subst (λ r. Gives c (λ id. first_of id r)) met.1 j.gives) k.gives

-- The numbers of a command

module _ {default high : ℕ} where
  given_some : {ts : List Text} {n : ℕ} → 1 ≤ default → IsGivenOr default high ts n → 1 ≤ n
  given_some le missing = le
  given_some le (given h) = h.low_enough

  given_most : {ts : List Text} {n : ℕ} → default ≤ high → IsGivenOr default high ts n → n ≤ high
  given_most le missing = le
  given_most le (given h) = h.high_enough

fits_check : (options : Texts) (b w : ℕ) → GivesBudget options b → GivesWorkers options w → FitsCheck b w
fits_check options b w budget workers = record {
  some_budget = given_some (omega arith) budget;
  most_budget = given_most (omega arith) budget;
  some_workers = given_some (omega arith) workers;
  most_workers = given_most (omega arith) workers;
}

pub fits_command : {ws : List Text} {c : Command} → AreWords ws c → FitsCommand c
fits_command (is_check {words} {options} {b} {w} parted budget workers) = fits_check options b w budget workers
fits_command (is_replay parted fuel read) = tt
fits_command (is_workload {words} {options} {number} {n} {b} {w} parted read budget workers) =
    (read.low_enough, read.high_enough, fits_check options b w budget workers)
fits_command (is_bundle {words} {options} {number} {k} {b} parted read budget) = (
  read.low_enough,
  read.high_enough,
  record {
    some_budget = given_some (omega arith) budget;
    most_budget = given_most (omega arith) budget;
    some_workers = omega arith;
    most_workers = omega arith;
  },
)
fits_command (is_recheck parted) = tt
fits_command (is_sweep parted edges) = (given_some (omega arith) edges, given_most (omega arith) edges)
fits_command (is_edit {words} {options} {number} {n} {b} {w} parted read budget workers) =
    (read.low_enough, read.high_enough, fits_check options b w budget workers)
