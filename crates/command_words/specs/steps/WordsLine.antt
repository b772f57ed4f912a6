-- The command line as `clap` has it, and what its matches give.
use Rattle.std.specs.Prelude.{◌≡◌, ℕ, List, [], ◌∷◌, codes, Option, Some, None, true}
use Rattle.clap.specs.Simple.{App, new_app, new_rule, on_top, subcommand_of, subcommand_rows_of, with_rule, with_subcommand}
use Rattle.clap.specs.Matches.{first_value, found_of}
use Rattle.clap.specs.Faults.{fault_of}
use Rattle.clap.specs.declared.parser.matches.ArgMatches.{ArgMatches}
use Rattle.clap.specs.Walk.{Rule}
use Rattle.clap.specs.declared.builder.action.ArgAction.TheVariants.{Set}
use Rattle.command_words.specs.Words.{Command, Text, check, replay, workload, bundle, recheck, sweep, edit, IsGivenOr, IsList, IsNumber}
use Rattle.command_words.specs.Words.{default_budget, default_edges, default_fuel, default_workers, max_asserts, max_budget, max_edges, max_fuel, max_number, max_old_length, max_workers}

-- The command line

-- `--name` with a text
abbrev pub option_rule : Text → Rule
option_rule name = record (new_rule name) { long = Some name; action = Some Set }

-- a word that is no option
abbrev pub word_rule : Text → Rule
word_rule name = record (new_rule name) { action = Some Set }

abbrev pub check_app : App
check_app = with_rule (with_rule (new_app (codes "check")) (option_rule (codes "budget")))
    (option_rule (codes "workers"))

abbrev pub replay_app : App
replay_app = with_rule (with_rule (new_app (codes "replay")) (option_rule (codes "fuel")))
    (word_rule (codes "list"))

abbrev pub bundle_app : App
bundle_app = with_rule (with_rule (new_app (codes "bundle")) (option_rule (codes "budget")))
    (word_rule (codes "number"))

abbrev pub recheck_app : App
recheck_app = new_app (codes "recheck")

abbrev pub sweep_app : App
sweep_app = with_rule (new_app (codes "sweep")) (option_rule (codes "edges"))

abbrev pub edit_app : App
edit_app = with_rule (with_rule (with_rule (new_app (codes "edit"))
    (option_rule (codes "budget"))) (option_rule (codes "workers"))) (word_rule (codes "length"))

abbrev pub workload_app : App
workload_app = with_rule (with_rule (with_rule (new_app (codes "workload"))
    (option_rule (codes "budget"))) (option_rule (codes "workers"))) (word_rule (codes "number"))

-- the command above them, before they are added
abbrev pub top_app : App
top_app = on_top (λ s. record s {
  no_binary_name = true;
  disable_help_flag = true;
  disable_help_subcommand = true;
  disable_version_flag = true;
  subcommand_required = true;
}) (new_app (codes "smash"))

abbrev pub line_app : App
line_app = with_subcommand (with_subcommand (with_subcommand (with_subcommand (with_subcommand
    (with_subcommand (with_subcommand top_app check_app.top) replay_app.top) workload_app.top)
    bundle_app.top) recheck_app.top) sweep_app.top) edit_app.top

-- the words fit the command line, and these are the name and the matches of the subcommand
abbrev pub IsTaken : List Text → ArgMatches → Type 0
IsTaken words m =
    (fault_of line_app words ≡ []) × (subcommand_rows_of m ≡ subcommand_of line_app words)

-- What the matches give

-- the first text of each name
abbrev pub texts_in : ArgMatches → Text → Option Text
texts_in m = first_value (found_of m)

abbrev pub listed : Option Text → List Text
listed None = []
listed (Some text) = text ∷ []

abbrev pub GivesFuel : (Text → Option Text) → ℕ → Type 0
GivesFuel text_of n = IsGivenOr default_fuel max_fuel (listed (text_of (codes "fuel"))) n

abbrev pub GivesBudget : (Text → Option Text) → ℕ → Type 0
GivesBudget text_of n = IsGivenOr default_budget max_budget (listed (text_of (codes "budget"))) n

abbrev pub GivesWorkers : (Text → Option Text) → ℕ → Type 0
GivesWorkers text_of n =
    IsGivenOr default_workers max_workers (listed (text_of (codes "workers"))) n

abbrev pub GivesEdges : (Text → Option Text) → ℕ → Type 0
GivesEdges text_of n = IsGivenOr default_edges max_edges (listed (text_of (codes "edges"))) n

-- the texts of the options, and of the word that is none, by their names, are those of the command
abbrev pub Gives : Command → (Text → Option Text) → Type 0
Gives (check budget workers) text_of = GivesBudget text_of budget × GivesWorkers text_of workers
Gives (replay fuel list) text_of = GivesFuel text_of fuel
    × ((text : Text) × (text_of (codes "list") ≡ Some text) × IsList text list)
Gives (workload number budget workers) text_of =
    ((text : Text) × (text_of (codes "number") ≡ Some text) × IsNumber 1 max_number text number)
    × GivesBudget text_of budget × GivesWorkers text_of workers
Gives (bundle number budget) text_of =
    ((text : Text) × (text_of (codes "number") ≡ Some text) × IsNumber 1 max_asserts text number)
    × GivesBudget text_of budget
Gives recheck text_of = Unit {0}
Gives (sweep edges) text_of = GivesEdges text_of edges
Gives (edit old_length budget workers) text_of =
    ((text : Text) × (text_of (codes "length") ≡ Some text)
    × IsNumber 1 max_old_length text old_length)
    × GivesBudget text_of budget × GivesWorkers text_of workers

abbrev pub name_of : Command → Text
name_of (check budget workers) = codes "check"
name_of (replay fuel list) = codes "replay"
name_of (workload number budget workers) = codes "workload"
name_of (bundle number budget) = codes "bundle"
name_of recheck = codes "recheck"
name_of (sweep edges) = codes "sweep"
name_of (edit old_length budget workers) = codes "edit"
