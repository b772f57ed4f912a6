-- What contracts see of the tables of the check.
use Rattle.std.specs.Prelude.{◌≡◌, ℕ, ◌+◌, ◌==◌, Bool, true, false, ◌&&◌, ◌||◌, not as not_bool, nat_lt, length, take, slice_get, bytes_eq, if◌then◌else◌, refl, List, [], ◌∷◌, ◌++◌, map, Option, Some, None}
use denote.Ref.{Bor}
use Rattle.std.specs.Coded.{Coded-set, code_by, coded×, coded_ℕ, coded_bool, coded_option, Π_prop}
use Rattle.indexmap.specs.IndexMap.{IndexMap}
use Rattle.c_typing.specs.steps.Meanings.{found_in}
use Rattle.c_tree.specs.declared.tree.Pos.{Pos}
use Rattle.c_tree.specs.declared.syntax_tree.Item.{Item}
use Rattle.c_tree.specs.SourceTree.{Identifier, ProcedureTree, StatementTree, declare}
use Rattle.c_tree.specs.FileView.{item_of}
use Rattle.c_typing.specs.declared.scopes.Entry.{Entry}
use Rattle.c_typing.specs.declared.scopes.Entry.TheVariants.{Opens, Declares}
use Rattle.c_typing.specs.declared.scopes.Scopes.{Scopes}
use Rattle.c_typing.specs.declared.table.Called.{Called}
use Rattle.c_typing.specs.declared.table.Definition.{Definition}
use Rattle.c_typing.specs.declared.table.Called.TheVariants as called
use Rattle.c_typing.specs.declared.check.notes.Found.{Found}
use Rattle.c_typing.specs.declared.check.notes.Notes.{Notes}
use Rattle.c_typing.specs.declared.fault.TheConstants.{MAX_PARAMETERS, MAX_VARIABLES}
use Rattle.c_typing.specs.declared.fault.TypeFault.TheVariants.{Duplicate, MainShape}
use Rattle.c_typing.specs.declared.fault.Which.TheVariants.{Parameters, Variables, Tokens}
use Rattle.c_typing.specs.Scope.{Scope, is_built_in, is_main, FileScope, ScopedProcedure, scoped_procedures, defined_from, variables_of, parameter_scope, names_of, procedures_of, with_variable, Callee, input, assume, assert, defined, unknown}
use Rattle.c_typing.specs.Faults.{Fault, fault_if, limit_fault, place_of, parameters_faults, statements_faults}
use Rattle.c_typing.specs.steps.Least.{least_from}

-- The scopes

abbrev pub scopes_onto : List Scope → List Entry → List Scope
scopes_onto ss [] = ss
scopes_onto ss (Opens ∷ es) = scopes_onto ([] ∷ ss) es
scopes_onto ss (Declares x slot before ∷ es) = scopes_onto (with_variable ss x.now slot) es

abbrev pub scopes_of : Scopes → List Scope
scopes_of s = scopes_onto [] s.entries.items

abbrev pub outer_of : List Scope → List Scope
outer_of [] = []
outer_of (s ∷ ss) = ss

-- the later scopes have the entries of the earlier ones, and maybe more
abbrev pub IsLonger : Scopes → Scopes → Type 0
IsLonger old new = take (length old.entries.items) new.entries.items ≡ old.entries.items

-- The procedures

abbrev pub procedures_in : List Item → List ProcedureTree
procedures_in is = procedures_of (map item_of is)

-- after globals of these names
abbrev pub scoped_in : (known : List (List ℕ)) → List Item → List ScopedProcedure
scoped_in known is = scoped_procedures known (map item_of is)

abbrev pub callee_from : Called → Callee
callee_from called.Input = input
callee_from called.Assume = assume
callee_from called.Assert = assert
callee_from (called.Defined number params void) = defined number params void
callee_from called.Unknown = unknown

-- a callee is its kind and its numbers, so two proofs that callees are equal are equal
abbrev callee_code : Callee → Option (ℕ × (ℕ × Bool)) × (Bool × Bool)
callee_code input = (None, (false, false))
callee_code assume = (None, (false, true))
callee_code assert = (None, (true, false))
callee_code unknown = (None, (true, true))
callee_code (defined number params void) = (Some (number, (params, void)), (false, false))

abbrev callee_back : Option (ℕ × (ℕ × Bool)) × (Bool × Bool) → Callee
callee_back (Some d, kind) = defined d.0 d.1.0 d.1.1
callee_back (None, (false, false)) = input
callee_back (None, (false, true)) = assume
callee_back (None, (true, false)) = assert
callee_back (None, (true, true)) = unknown

callee_again : (c : Callee) → callee_back (callee_code c) ≡ c
callee_again input = refl
callee_again assume = refl
callee_again assert = refl
callee_again (defined number params void) = refl
callee_again unknown = refl

callee-set : (a b : Callee) → IsProp (a ≡ b)
callee-set a b = Coded-set (code_by (Option (ℕ × (ℕ × Bool)) × (Bool × Bool))
    (coded× (coded_option (coded× coded_ℕ (coded× coded_ℕ coded_bool)))
    (coded× coded_bool coded_bool))
    callee_code callee_back callee_again) a b

-- the first procedure of a name, where there is one
abbrev pub defined_as : Option Definition → Callee
defined_as None = unknown
defined_as (Some d) = defined d.number d.params d.void

-- the map has the first procedure of each name
abbrev pub AreDefined : {S : Type 0} → IndexMap (Bor (List ℕ)) Definition S → List Item → Type 0
AreDefined m is = (x : List ℕ) → defined_as (found_in m x) ≡ defined_from 0 (procedures_in is) x

pub AreDefined-prop : {S : Type 0} (m : IndexMap (Bor (List ℕ)) Definition S) (is : List Item) →
    IsProp (AreDefined m is)
AreDefined-prop m is = Π_prop
    (λ x. callee-set (defined_as (found_in m x)) (defined_from 0 (procedures_in is) x))

-- what a name has before, or else this procedure if it has the name
abbrev pub kept_or : Option Definition → ProcedureTree → ℕ → List ℕ → Option Definition
kept_or (Some d) p number x = Some d
kept_or None p number x = if bytes_eq p.named.name x then Some
    (record { number = number; params = length p.params; void = p.void }) else None

-- What was found

abbrev pub fault_of : Found → Fault
fault_of f = record { fault = f.fault; at = f.at }

abbrev pub best_of : Option Found → Option Fault
best_of None = None
best_of (Some f) = Some (fault_of f)

-- the first fault so far, the places of the names that the procedure declares, and those of the
-- assertions
pub record Noted : Type 0 where
  pub best : Option Fault
  pub declared : List Pos
  pub asserts : List Pos

abbrev pub notes_of : Notes → Noted
notes_of n = record {
  best = best_of n.best;
  declared = n.declared.items;
  asserts = n.asserts.items;
}

abbrev pub places_of : List Identifier → List Pos
places_of [] = []
places_of (n ∷ ns) = n.at ∷ places_of ns

-- these faults, names and assertions more
abbrev pub noted : Noted → List Fault → List Identifier → List Pos → Noted
noted n fs ns places = record {
  best = least_from n.best fs;
  declared = n.declared ++ places_of ns;
  asserts = n.asserts ++ places;
}

-- these names declared in the innermost scope; their slots don't matter to faults
abbrev pub with_zeros : List Scope → List Identifier → List Scope
with_zeros ss [] = ss
with_zeros ss (n ∷ ns) = with_zeros (with_variable ss n.name 0) ns

-- after a statement of a block
abbrev pub zeros_after : List Scope → StatementTree → List Scope
zeros_after ss (declare ds) = with_zeros ss (names_of ds)
zeros_after ss _ = ss

-- the number of what is called
abbrev pub number_in : Callee → ℕ
number_in (defined number params void) = number
number_in _ = 0

abbrev pub is_defined : Callee → Bool
is_defined (defined number params void) = true
is_defined _ = false

-- the faults of a heading; `again` says that an earlier procedure has the name
abbrev pub heading_found : (again : Bool) → ProcedureTree → List Fault
heading_found again p =
    fault_if (is_built_in p.named.name || again) Duplicate p.named.at
    ++ fault_if (is_main p.named.name && (p.void || not_bool (length p.params == 0))) MainShape
    p.named.at

-- what parameters and body say
abbrev pub body_found : FileScope → ProcedureTree → List Fault
body_found file p = parameters_faults ([] ∷ []) p.params
    ++ (limit_fault Parameters (place_of (slice_get p.params MAX_PARAMETERS)) ++ statements_faults
    file p.void false (parameter_scope p) p.body)

abbrev pub procedure_found : FileScope → (again : Bool) → ProcedureTree → List Fault
procedure_found file again p =
    heading_found again p
    ++ (body_found file p
    ++ (limit_fault Variables (place_of (slice_get (variables_of p) MAX_VARIABLES))
    ++ limit_fault Tokens p.past))

-- an earlier procedure than that of a number has its name
abbrev pub is_again : (all : List ProcedureTree) → ℕ → ProcedureTree → Bool
is_again all number p = nat_lt (number_in (defined_from 0 all p.named.name)) number

-- the procedures from a number on
abbrev pub procedures_found : (all : List ProcedureTree) → ℕ → List ScopedProcedure → List Fault
procedures_found all number [] = []
procedures_found all number (q ∷ qs) =
    procedure_found (record { procedures = all; globals = q.globals })
    (is_again all number q.tree) q.tree
    ++ procedures_found all (number + 1) qs
