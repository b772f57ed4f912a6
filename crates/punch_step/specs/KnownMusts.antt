-- Musts that calls ask again and again, and what is kept of them.
use Rattle.std.specs.Prelude.{◌≡◌, ◌≤◌, ℕ, List, [], ◌∷◌, ◌++◌, length, None, Some, Option}
use Rattle.linear_formula.specs.LinearSum.{LinearSum}
use Rattle.linear_formula.specs.Extremes.{AreOuter}
use Rattle.linear_formula.specs.Formula.{renamed_atoms_by}
use Rattle.linear_formula.specs.declared.formula.Atom.{Atom}
use Rattle.infeasible_cert.specs.Right.{rows_of}
use Rattle.shadow_elim.specs.Elimination.{elimination, listed_rows, remains}
use Rattle.shadow_elim.specs.Projection.{gives, projected}
use Rattle.shadow_elim.specs.Questions.{IsNever}
use Rattle.shadow_elim.specs.Sums.{first_wide}
use Rattle.lia_solver.specs.ByParts.{KeepsRoom}
use Rattle.flow_graph.specs.Calls.{CallSite}
use Rattle.summary_form.specs.declared.path.Path.{Path}
use Rattle.summary_form.specs.declared.query.Query.{Query}
use Rattle.must_region.specs.Paths.{NameNoSymbol}
use Rattle.must_region.specs.Rules.{shifted}
use Rattle.must_region.specs.Traces.{Trace}
use Rattle.call_bridge.specs.Musts.{must_rows, must_sums, plain_rows, slot_sums, symbol_columns}
use Rattle.query_rules.specs.Crossings.{IsPreOf, IsRead}
use Rattle.query_rules.specs.Rows.{seen_at}
use Rattle.punch_step.specs.ByMusts.{crossing_by}
use Rattle.punch_step.specs.declared.by_must.Calling.{Calling}
use Rattle.punch_step.specs.declared.known_must.MustParts.{MustParts}
use Rattle.punch_step.specs.declared.own_rows.OwnRows.{OwnRows}

-- the must without the rows of its guard; its inputs don't matter
pub record IsBareOf (must bare : Path) : Type 0 where
  pub exit : bare.exit ≡ must.exit
  pub guard : bare.guard.atoms ≡ []
  pub entry : bare.entry ≡ must.entry
  pub outcome : bare.outcome ≡ must.outcome

-- extreme rows of the guard, where `before` symbols stand before those of the must
abbrev pub AreGuardRows : Path → (before : ℕ) → List Atom → Type 0
AreGuardRows must before rows =
    AreOuter rows (renamed_atoms_by (shifted before) must.guard.atoms)

-- a call with these arguments
abbrev pub site_with : List ℕ → CallSite
site_with args = record { procedure = 0; arguments = args; results = [] }

-- the rows of the must over such a call, beside those of a target
abbrev pub own_rows : Path → (args : List ℕ) → List Atom
own_rows must args = must_rows must (site_with args) []

-- all symbols of the rows but the last are eliminated from them
pub record IsReadied (rows : List Atom) (own : OwnRows) : Type 0 where
  pub columns : symbol_columns rows ≡ own.firsts.items ++ own.last ∷ []
  pub eliminated : elimination own.firsts.items
      (listed_rows rows (own.firsts.items ++ own.last ∷ [])) ≡ remains (rows_of own.rows.atoms)
  pub room : KeepsRoom own.room own.firsts.items
      (listed_rows rows (own.firsts.items ++ own.last ∷ []))

-- all symbols but the last are eliminated from the must's own rows
pub record AreOwnRows (must : Path) (args : List ℕ) (own : OwnRows) : Type 0 where
  pub sums : first_wide (must_sums must (site_with args) []) ≡ None
  pub slots : first_wide (slot_sums must args (plain_rows must (site_with args) [])) ≡ None
  pub columns : symbol_columns (own_rows must args) ≡ own.firsts.items ++ own.last ∷ []
  pub eliminated : elimination own.firsts.items
      (listed_rows (own_rows must args) (own.firsts.items ++ own.last ∷ []))
      ≡ remains (rows_of own.rows.atoms)
  pub room : KeepsRoom own.room own.firsts.items
      (listed_rows (own_rows must args) (own.firsts.items ++ own.last ∷ []))

-- if they are kept
abbrev pub IfOwnRows : Path → (args : List ℕ) → Option OwnRows → Type 0
IfOwnRows must args None = Unit {0}
IfOwnRows must args (Some own) = AreOwnRows must args own

-- the rows are extreme ones of the preimage over the must
pub record IsPreOuter (c : Calling) (must : Path) (rows : List Atom) : Type 0 where
  pub pre : List Atom
  pub is_pre : IsPreOf (crossing_by c must) pre
  pub outer : AreOuter rows pre

-- What is kept of a must, for calls with these arguments after a number of symbols

pub record IsKept (must : Path) (args : List ℕ) (before : ℕ) (k : MustParts) : Type 0 where
  pub is_bare : IsBareOf must k.bare
  pub are_guard : AreGuardRows must before k.guard.atoms
  pub if_own : IfOwnRows must args k.own

-- a slot knows the must
abbrev pub HasKept : Path → (args : List ℕ) → (before : ℕ) → Option MustParts → Type 0
HasKept must args before slot =
    (k : MustParts) × (slot ≡ Some k) × IsKept must args before k

-- What it tells

-- the rows with extreme ones of what is seen of atoms at the end of a trail have no point
abbrev pub IsNeverBehind : Query → Trace → (rows atoms : List Atom) → Type 0
IsNeverBehind q t rows atoms =
    (ends : List Atom) × IsRead t atoms × AreOuter ends (seen_at q t atoms) × IsNever (rows ++ ends)

-- what is projected of the must's own rows with others that join them
pub record IsProjectedWith (own : OwnRows) (others pre : List Atom) : Type 0 where
  pub few : length others ≤ own.room
  pub names : NameNoSymbol others
  pub pair : Option (ℕ × (LinearSum × LinearSum))
  pub given : projected (own.last ∷ []) (own.rows.atoms ++ others) ≡ gives pre pair
