-- The trees of the workload program have no fault, and become a program.
use Rattle.std.specs.Prelude.{◌≡◌, ℕ, suc, ◌+◌, ◌^◌, ◌%◌, ◌<◌, ◌≤◌, ◌==◌, List, [], ◌∷◌, ◌++◌, length, map, Bool, true, false, Some, None, is_some, refl, codes, bytes_eq, slice_get, if◌then◌else◌}
use Rattle.std.specs.Fmt.{decimal}
use Rattle.std.proofs.Common.{sym, ◌∙◌, ap, arith, length-append, inl, inr}
use Rattle.std.proofs.lemmas.Bool.{cases_lt, false≢true}
use Rattle.std.proofs.lemmas.Option.{slice_get_past}
use Rattle.std.proofs.lemmas.Slice.Eq.{bytes_eq-Decides}
use Rattle.std.proofs.lemmas.Fmt.{decimal_injective}
use Rattle.c_tree.specs.SourceTree.{StatementTrees, no_statements, statement, ProcedureTree, Global, FileItem, procedure}
use Rattle.c_typing.specs.declared.fault.Which.TheVariants.{Variables, Procedures, Assertions}
use Rattle.c_typing.specs.declared.fault.TypeFault.TheVariants.{Duplicate}
use Rattle.c_typing.proofs.Formed.{length-places}
use Rattle.c_typing.specs.Scope.{declared_in, procedures_of, globals_of, FileScope, ScopedProcedure, scoped_procedures, number_from, number_of, defined, defined_from, callee_of, Scope, variables_of, asserts_in, asserts_in_file}
use Rattle.c_typing.specs.Faults.{Fault, fault_if, callee_faults, statement_faults, place_of, statements_faults, limit_fault, heading_faults, procedure_faults, procedures_faults, globals_faults, prototypes_faults, all_faults, procedure_place, global_place}
use Rattle.c_typing.specs.Lowering.{lowered_file, lowered_procedures, assert_places}
use Rattle.c_typing.specs.Answer.{IsProgram}
use Rattle.workload_accepted.proofs.WorkloadPieces.{Places}
use Rattle.workload_accepted.proofs.WorkloadTokens.{name_of, Spots}
use Rattle.workload_accepted.proofs.WorkloadTree.{named, returning, line_tree, line_trees, call_tree, call_trees, main_tree, workload_trees, workload_items}

-- Names

-- different numbers, different names
other_name : (i j : ℕ) → i < j → j < 2 ^ 64 → bytes_eq (name_of i) (name_of j) ≡ false
other_name i j less fits = by_test (bytes_eq (name_of i) (name_of j)) refl
  where
    tail_same : (xs ys : List ℕ) → 112 ∷ xs ≡ 112 ∷ ys → xs ≡ ys
    tail_same xs ys e = cc

    by_test : (b : Bool) → bytes_eq (name_of i) (name_of j) ≡ b → bytes_eq (name_of i) (name_of j) ≡ false
    by_test false e = e
    by_test true e =
        let same = tail_same (decimal i) (decimal j) ((bytes_eq-Decides (name_of i) (name_of j)).0 e) in
        let n = decimal_injective i j (omega arith) fits same in
        absurd (omega arith)

own_name : (i : ℕ) → bytes_eq (name_of i) (name_of i) ≡ true
own_name i = (bytes_eq-Decides (name_of i) (name_of i)).1 refl

none_both : (xs ys : List Fault) → xs ≡ [] → ys ≡ [] → xs ++ ys ≡ []
none_both xs ys h k = ap (λ zs. zs ++ ys) h ∙ k

-- Calls

-- the name is that of a procedure with one parameter that gives a value
abbrev IsKnown : List ProcedureTree → ℕ → Type 0
IsKnown all i = (number : ℕ) × (callee_of all (name_of i) ≡ defined number 1 false)

known_from : (k a : ℕ) (lines : List Places) (ps : List ProcedureTree) (i : ℕ) → a ≤ i → i < a + length lines →
    (number : ℕ) × (defined_from k (line_trees a lines ++ ps) (name_of i) ≡ defined number 1 false)
known_from k a [] ps i le lt = absurd (omega arith)
known_from k a (at ∷ ats) ps i le lt =
    by_test (bytes_eq (name_of a) (name_of i)) refl (λ less. known_from (k + 1) (a + 1) ats ps i (omega arith) (omega arith))
  where
    by_test : (b : Bool) → bytes_eq (name_of a) (name_of i) ≡ b →
        (suc a ≤ i → (number : ℕ) × (defined_from (k + 1) (line_trees (a + 1) ats ++ ps) (name_of i) ≡ defined number 1 false)) →
        (number : ℕ) × ((if b then defined k 1 false else defined_from (k + 1) (line_trees (a + 1) ats ++ ps) (name_of i))
        ≡ defined number 1 false)
    by_test true e next = (k, refl)
    by_test false e next = elim (cases_lt a i) [
      | inl less ↦ next less
      | inr ge ↦
          let same : a ≡ i = omega arith in
          absurd (false≢true (sym e ∙ ap (λ j. bytes_eq (name_of a) (name_of j)) (sym same) ∙ own_name a))
    ]

-- a file without globals
abbrev bare : List ProcedureTree → FileScope
bare all = record { procedures = all; globals = [] }

-- procedures before which no globals are declared
abbrev scoped : List ProcedureTree → List ScopedProcedure
scoped [] = []
scoped (p ∷ ps) = record { tree = p; globals = [] } ∷ scoped ps

-- the scopes after the declarations of `main`
abbrev main_scopes : List Scope
main_scopes = (record { name = codes "v"; slot = 0 } ∷ record { name = codes "k"; slot = 0 } ∷ []) ∷ []

module _ (all : List ProcedureTree) where
  call_faults : (i : ℕ) (at : Places) → IsKnown all i → statement_faults (bare all) false false main_scopes (call_tree i at) ≡ []
  call_faults i at known = ap (λ c. (callee_faults c (named (name_of i) (at 7)) 1 false ++ []) ++ []) known.1

  calls_faults : (a : ℕ) (calls : List Places) (rest : StatementTrees) → ((i : ℕ) → a ≤ i → i < a + length calls → IsKnown all i) →
      statements_faults (bare all) false false main_scopes rest ≡ [] →
      statements_faults (bare all) false false main_scopes (call_trees a calls rest) ≡ []
  calls_faults a [] rest known h = h
  calls_faults a (at ∷ ats) rest known h =
      none_both (statement_faults (bare all) false false main_scopes (call_tree a at)) _
      (call_faults a at (known a (omega arith) (omega arith)))
      (calls_faults (a + 1) ats rest (λ i le lt. known i (omega arith) (omega arith)) h)

  calls_declare : (a : ℕ) (calls : List Places) (rest : StatementTrees) → declared_in (call_trees a calls rest) ≡ declared_in rest
  calls_declare a [] rest = refl
  calls_declare a (at ∷ ats) rest = calls_declare (a + 1) ats rest

  -- `main` has no fault, if none has its name before
  main_faults : (earlier : List ProcedureTree) (head : Places) (calls : List Places) (tail : Places) →
      is_some (number_of earlier (codes "main")) ≡ false → ((i : ℕ) → 1 ≤ i → i < 1 + length calls → IsKnown all i) →
      procedure_faults (bare all) earlier (main_tree head calls tail) ≡ []
  main_faults earlier head calls tail first known =
      let p = main_tree head calls tail in
      let heading : heading_faults earlier p ≡ [] = ap (λ b. fault_if b Duplicate (head 1) ++ []) first in
      let variables : limit_fault Variables (place_of (slice_get (variables_of p) 24)) ≡ [] =
      ap (λ ns. limit_fault Variables (place_of (slice_get (named (codes "k") (head 6) ∷ named (codes "v") (head 13) ∷ ns) 24)))
      (calls_declare 1 calls (statement (returning (tail 0) 0) no_statements)) in
      none_both (heading_faults earlier p) _ heading (none_both _ _ variables
      (calls_faults 1 calls (statement (returning (tail 0) 0) no_statements) known refl))

-- Names are apart

-- none of these procedures has the name of a line from the number a on, or is called `main`
record IsFresh (earlier : List ProcedureTree) (a : ℕ) : Type 0 where
  line : (i : ℕ) → a ≤ i → i < 2 ^ 64 → is_some (number_of earlier (name_of i)) ≡ false
  main : is_some (number_of earlier (codes "main")) ≡ false

not_there : (k : ℕ) (ps : List ProcedureTree) (p : ProcedureTree) (x : List ℕ) → is_some (number_from k ps x) ≡ false →
    bytes_eq p.named.name x ≡ false → is_some (number_from k (ps ++ p ∷ []) x) ≡ false
not_there k [] p x h other = ap (λ b. is_some (if b then Some k else None)) other
not_there k (q ∷ ps) p x h other = by_test (bytes_eq q.named.name x) h (λ g. not_there (k + 1) ps p x g other)
  where
    by_test : (b : Bool) → is_some (if b then Some k else number_from (k + 1) ps x) ≡ false →
        (is_some (number_from (k + 1) ps x) ≡ false → is_some (number_from (k + 1) (ps ++ p ∷ []) x) ≡ false) →
        is_some (if b then Some k else number_from (k + 1) (ps ++ p ∷ []) x) ≡ false
    by_test true h next = absurd (false≢true (sym h))
    by_test false h next = next h

fresh_more : (earlier : List ProcedureTree) (a : ℕ) (b : Bool) (at : Places) → IsFresh earlier a →
    IsFresh (earlier ++ line_tree b a at ∷ [])
    (a + 1)
fresh_more earlier a b at h = record {
  line = λ i le fits. not_there 0 earlier (line_tree b a at) (name_of i) (h.line i (omega arith) fits) (other_name a i (omega arith) fits);
  main = not_there 0 earlier (line_tree b a at) (codes "main") h.main refl;
}

-- the line of a procedure has no fault, if none has its name before
line_faults : (all earlier : List ProcedureTree) (b : Bool) (i : ℕ) (at : Places) → is_some (number_of earlier (name_of i)) ≡ false →
    procedure_faults (bare all) earlier (line_tree b i at) ≡ []
line_faults all earlier true i at first = ap (λ c. (fault_if c Duplicate (at 1) ++ []) ++ []) first
line_faults all earlier false i at first = ap (λ c. (fault_if c Duplicate (at 1) ++ []) ++ []) first

lines_faults : (all : List ProcedureTree) (a : ℕ) (lines : List Places) (earlier : List ProcedureTree) (p : ProcedureTree) →
    a + length lines ≤ 2 ^ 64 → IsFresh earlier a →
    ((before : List ProcedureTree) → is_some (number_of before (codes "main")) ≡ false → procedure_faults (bare all) before p ≡ []) →
    procedures_faults all earlier (scoped (line_trees a lines ++ p ∷ [])) ≡ []
lines_faults all a [] earlier p few fresh last = none_both _ [] (last earlier fresh.main) refl
lines_faults all a (at ∷ ats) earlier p few fresh last =
    let line = line_tree (a % 3 == 0) a at in
    none_both (procedure_faults (bare all) earlier line) _
    (line_faults all earlier (a % 3 == 0) a at (fresh.line a (omega arith) (omega arith)))
    (lines_faults all (a + 1) ats (earlier ++ line ∷ []) p (omega arith) (fresh_more earlier a (a % 3 == 0) at fresh) last)

-- Assertions

line_asserts : (b : Bool) (i : ℕ) (at : Places) → length (asserts_in (line_tree b i at).body) ≡ 1
line_asserts true i at = refl
line_asserts false i at = refl

calls_assert : (a : ℕ) (calls : List Places) (rest : StatementTrees) → asserts_in (call_trees a calls rest) ≡ asserts_in rest
calls_assert a [] rest = refl
calls_assert a (at ∷ ats) rest = calls_assert (a + 1) ats rest

lines_assert : (a : ℕ) (lines : List Places) (p : ProcedureTree) → asserts_in p.body ≡ [] →
    length (asserts_in_file (line_trees a lines ++ p ∷ [])) ≡ length lines
lines_assert a [] p h = ap (λ ps. length (ps ++ [])) h
lines_assert a (at ∷ ats) p h =
    let line = line_tree (a % 3 == 0) a at in
    omega (
      arith,
      length-append (asserts_in line.body) (asserts_in_file (line_trees (a + 1) ats ++ p ∷ [])),
      line_asserts (a % 3 == 0) a at,
      lines_assert (a + 1) ats p h,
    )

lines_size : (a : ℕ) (lines : List Places) → length (line_trees a lines) ≡ length lines
lines_size a [] = refl
lines_size a (at ∷ ats) = ap (λ k. suc k) (lines_size (a + 1) ats)

main_found : (k a : ℕ) (lines : List Places) (head : Places) (calls : List Places) (tail : Places) →
    is_some (number_from k (line_trees a lines ++ main_tree head calls tail ∷ []) (codes "main")) ≡ true
main_found k a [] head calls tail = refl
main_found k a (at ∷ ats) head calls tail = main_found (k + 1) (a + 1) ats head calls tail

-- The whole file

procedures_back : (ps : List ProcedureTree) → procedures_of (map procedure ps) ≡ ps
procedures_back [] = refl
procedures_back (p ∷ ps) = ap (λ qs. p ∷ qs) (procedures_back ps)

scoped_back : (ps : List ProcedureTree) → scoped_procedures [] (map procedure ps) ≡ scoped ps
scoped_back [] = refl
scoped_back (p ∷ ps) = ap (λ qs. record { tree = p; globals = [] } ∷ qs) (scoped_back ps)

no_globals : (ps : List ProcedureTree) → globals_of (map procedure ps) ≡ []
no_globals [] = refl
no_globals (p ∷ ps) = no_globals ps

lowered_size : (all : List ProcedureTree) (id : ℕ) (ps : List ProcedureTree) → length (lowered_procedures all id (scoped ps)) ≡ length ps
lowered_size all id [] = refl
lowered_size all id (p ∷ ps) = ap (λ k. suc k) (lowered_size all (id + length (asserts_in p.body)) ps)

no_prototypes : (all ps : List ProcedureTree) → prototypes_faults all (map procedure ps) ≡ []
no_prototypes all [] = refl
no_prototypes all (p ∷ ps) = no_prototypes all ps

-- the file has this program, with an assertion for each of n procedures, and `main` beside them
pub record IsWorkloadProgram (n : ℕ) (s : Spots) : Type 0 where
  pub program : IsProgram (workload_items s) (lowered_file (workload_items s))
  pub asserts : length (lowered_file (workload_items s)).asserts ≡ n
  pub procedures : length (lowered_file (workload_items s)).procedures ≡ n + 1

module _ (n : ℕ) (few : n ≤ 60) (s : Spots) (lines : length s.lines ≡ n) (calls : length s.calls ≡ n) where
  abbrev all : List ProcedureTree
  all = workload_trees s

  abbrev items : List FileItem
  items = workload_items s

  -- the faults of a file of these procedures and globals
  abbrev faults_of : List ProcedureTree → List ScopedProcedure → List Global → List Fault
  faults_of ps qs gs =
      prototypes_faults ps items ++ (globals_faults [] gs ++ (procedures_faults ps [] qs
      ++ (limit_fault Procedures (procedure_place (slice_get ps 64)) ++ (limit_fault Variables (global_place (slice_get gs 16))
      ++ limit_fault Assertions (slice_get (asserts_in_file ps) 64)))))

  main_asserts : asserts_in (main_tree s.head s.calls s.tail).body ≡ []
  main_asserts = calls_assert 1 s.calls (statement (returning (s.tail 0) 0) no_statements)

  asserts_are : length (asserts_in_file all) ≡ n
  asserts_are = lines_assert 1 s.lines (main_tree s.head s.calls s.tail) main_asserts ∙ lines

  procedures_are : length all ≡ n + 1
  procedures_are = omega (arith, length-append (line_trees 1 s.lines) (main_tree s.head s.calls s.tail ∷ []), lines_size 1 s.lines)

  none_faults : all_faults (workload_items s) ≡ []
  none_faults =
      let known = λ (i : ℕ) (le : 1 ≤ i) (lt : i < 1 + length s.calls). known_from 0 1 s.lines (main_tree s.head s.calls s.tail ∷ []) i le
      (omega arith) in
      let fresh : IsFresh [] 1 = record { line = λ i le fits. refl; main = refl } in
      let each = lines_faults all 1 s.lines [] (main_tree s.head s.calls s.tail) (omega arith) fresh
      (λ before first. main_faults all before s.head s.calls s.tail first known) in
      let procedures = ap (λ o. limit_fault Procedures (procedure_place o)) (slice_get_past all 64 (omega (arith, procedures_are))) in
      let assertions = ap (limit_fault Assertions) (slice_get_past (asserts_in_file all) 64 (omega (arith, asserts_are))) in
      ap (λ ps. faults_of ps (scoped_procedures [] items) (globals_of items)) (procedures_back all)
      ∙ ap (λ qs. faults_of all qs (globals_of items)) (scoped_back all) ∙ ap (λ gs. faults_of all (scoped all) gs) (no_globals all)
      ∙ none_both _ _ (no_prototypes all all) (none_both _ _ each (none_both _ _ procedures assertions))

  pub workload_program : IsWorkloadProgram n s
  workload_program =
      let back = procedures_back all in
      record {
        program = record {
          faultless = none_faults;
          main = ap (λ ps. is_some (number_of ps (codes "main"))) back ∙ main_found 0 1 s.lines s.head s.calls s.tail;
          lowered = refl;
        };
        asserts = ap (λ ps. length (assert_places 0 ps)) back ∙ length-places 0 all ∙ asserts_are;
        procedures = ap (λ ps. length (lowered_procedures ps 0 (scoped_procedures [] items))) back
            ∙ ap (λ qs. length (lowered_procedures all 0 qs)) (scoped_back all) ∙ lowered_size all 0 all ∙ procedures_are;
      }
