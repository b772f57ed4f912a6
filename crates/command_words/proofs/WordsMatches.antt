-- From the matches to the command.
use Rattle.std.proofs.Common.{◌≡◌, ◌∙◌, ◌⊎◌, inl, inr, [], ℕ, Bool, true, false, refl, List, Option, Some, None, option_map, ap, ap₂, sym, subst, nat_eq}
use Rattle.std.specs.Cmp.Lexicographic.{same_text}
use Rattle.std.specs.Prelude.{Box}
use lib.Pointwise.{pointwise}
use Rattle.std.proofs.lemmas.Slice.Eq.{bytes_eq-Decides}
use Rattle.clap.proofs.WalkLemmas.{first_value-rows}
use Rattle.clap.specs.Matches.{found_of, subcommand_name_of}
use Rattle.clap.specs.Faults.{fault_of, is_simple_and_free}
use Rattle.clap.specs.Kinds.{HasKind}
use Rattle.clap.specs.Values.{kind_of}
use Rattle.clap.specs.declared.error.Error.{Error}
use Rattle.clap.specs.declared.error.kind.ErrorKind.TheVariants as kind
use Rattle.clap.specs.Simple.{App, HasMatchesOf, is_simple, subcommand_of, subcommand_rows, subcommand_rows_of}
use Rattle.clap.specs.Walk.{Row, first_of, rows_of}
use Rattle.clap.specs.declared.parser.matches.ArgMatches.{ArgMatches}
use Rattle.clap.specs.declared.parser.matches.SubCommand.{SubCommand}
use Rattle.clap.specs.declared.parser.matches.ArgMatches.TheViews.{out-ArgMatches, out-SubCommand}
use Rattle.std.specs.Box.{box_value}
use Rattle.command_words.specs.Words.{AreWords, Command, Text}
use Rattle.command_words.specs.steps.WordsLine.{Gives, IsTaken, line_app, name_of, texts_in}
use Rattle.command_words.proofs.WordsCommand.{are_words, is_line, same_pair}

-- the name and the matches of the subcommand that was met
pub record IsMet (m : ArgMatches) (name : Text) (given : ArgMatches) : Type 0 where
  pub named : Some name ≡ subcommand_name_of m
  pub rows : Some (rows_of (found_of given)) ≡ option_map (λ p. p.1) (subcommand_rows (out-ArgMatches m).subcommand)

joined : {Z : Type 0} (s : Option (Box SubCommand Z)) (n : Text) (rs : List Row) →
    Some n ≡ option_map (λ b. (out-SubCommand (box_value b)).name.now) s → Some rs ≡ option_map (λ p. p.1) (subcommand_rows s) →
    subcommand_rows s ≡ Some (n, rs)
joined None n rs e f = cc
joined (Some b) n rs e f =
    let k : n ≡ (out-SubCommand (box_value b)).name.now = cc in
    let l : rs ≡ rows_of (found_of (out-SubCommand (box_value b)).matches) = cc in
    sym (ap₂ (λ x y. Some (x, y)) k l)

module _ (m : ArgMatches) (name : Text) (given : ArgMatches) (met : IsMet m name given) where
  both : subcommand_rows_of m ≡ Some (name, rows_of (found_of given))
  both = joined (out-ArgMatches m).subcommand name (rows_of (found_of given)) met.named met.rows

  entered : (ws : List Text) → IsTaken ws m → subcommand_of line_app ws ≡ Some (name, rows_of (found_of given))
  entered ws t = sym t.1 ∙ both

  -- the texts, as the rows have them
  texts_are : (c : Command) → Gives c (texts_in given) ≡ Gives c (λ id. first_of id (rows_of (found_of given)))
  texts_are c = ap (Gives c) (λ i id. first_value-rows (found_of given) id i)

  pub it_is : (c : Command) → name_of c ≡ name → Gives c (texts_in given) → (ws : List Text) → IsTaken ws m → AreWords ws c
  it_is c n g ws t = are_words ws name (rows_of (found_of given)) c t.0 (entered ws t) n (subst (λ (A : Type 0). A) (texts_are c) g)

  pub it_gives : (ws : List Text) → IsTaken ws m → (c : Command) → AreWords ws c → (name_of c ≡ name) × Gives c (texts_in given)
  it_gives ws t c h =
      let l = is_line h in
      let p = same_pair (name_of c) name l.all (rows_of (found_of given)) (sym l.entered ∙ entered ws t) in (
        p.0,
        subst (λ (A : Type 0). A) (sym (texts_are c)) (subst (λ rs. Gives c (λ id. first_of id rs)) p.1 l.gives),
      )

-- where no subcommand was met, the words are no command
no_rows : {Z : Type 0} (s : Option (Box SubCommand Z)) →
    ◌≡◌ {A = Option Text} None (option_map (λ b. (out-SubCommand (box_value b)).name.now) s) →
    subcommand_rows s ≡ None
no_rows None e = refl
no_rows (Some b) e = cc

pub not_met : (m : ArgMatches) → ◌≡◌ {A = Option Text} None (subcommand_name_of m) → (ws : List Text) → IsTaken ws m → (c : Command) →
    AreWords ws c → ⊥
not_met m e ws t c h =
    let l = is_line h in
    let k : ◌≡◌ {A = Option (Text × List Row)} None (Some (name_of c, l.all)) =
    sym (no_rows (out-ArgMatches m).subcommand e) ∙ t.1 ∙ l.entered in
    cc

-- What `clap` answers

module _ (a : App) (words : List Text) (is : a ≡ line_app) where
  pub taken_by : (m : ArgMatches) → (is_simple_and_free a ≡ true → fault_of a words ≡ []) → HasMatchesOf a words m → IsTaken words m
  taken_by m well given = (
    ap (λ x. fault_of x words) (sym is) ∙ well (ap is_simple_and_free is),
    (given (ap is_simple is)).1 ∙ ap (λ x. subcommand_of x words) is,
  )

  pub refused_by : (e : Error) → (is_simple_and_free a ≡ true → HasKind (fault_of a words) e) → fault_of line_app words ≡ [] →
      kind_of e ≡ kind.OutOfMemory
  refused_by e fails none = pick (subst (λ ks. HasKind ks e) (ap (λ x. fault_of x words) is ∙ none) (fails (ap is_simple_and_free is)))
    where
      pick : (kind_of e ≡ kind.OutOfMemory) ⊎ ⊥ → kind_of e ≡ kind.OutOfMemory
      pick (inl h) = h
      pick (inr h) = absurd h

-- What the code compares

pub text_is : (text want : List ℕ) (b : Bool) → b ≡ pointwise nat_eq text want → b ≡ true → text ≡ want
text_is text want b e t = same_text text want (sym t ∙ e)

pub text_is_not : (text want : List ℕ) (b : Bool) → b ≡ pointwise nat_eq text want → b ≡ false → text ≡ want → ⊥
text_is_not text want b e f is = let k : false ≡ true = sym f ∙ e ∙ (bytes_eq-Decides text want).1 is in cc
