-- The program of a file without faults is well formed.
use Rattle.std.proofs.Common.{◌≡◌, ℕ, ◌+◌, ◌<◌, ◌≤◌, zero, suc, Bool, true, false, cond, ◌==◌, ◌&&◌, ◌||◌, not as not_bool, List, [], ◌∷◌, ◌++◌, length, map, Option, Some, None, IsSome, is_some, slice_get, unwrap_or, nat_le, count_by, bytes_eq, codes, refl, ap, sym, ◌∙◌, subst, arith, zero-add, ◌⊎◌, inl, inr, length-append, pos, if◌then◌else◌}
use Rattle.std.proofs.lemmas.List.Sums.{sum_by-cons}
use Rattle.std.proofs.lemmas.List.{length-map}
use Rattle.std.proofs.lemmas.Bool.{le-leb}
use Rattle.std.proofs.lemmas.Bool.Decides.{nat_tests}
use Rattle.std.proofs.lemmas.Option.{slice_get_cases, slice_get_within}
use Rattle.std.proofs.lemmas.Slice.Eq.{bytes_eq-Decides}
use Rattle.c_tree.specs.declared.tree.Pos.{Pos}
use Rattle.c_tree.specs.declared.tree.AssertPlace.{AssertPlace}
use Rattle.c_tree.specs.Syntax.{PureProcedure}
use Rattle.c_tree.specs.WellFormed.{IsWellFormed, DividesByLiterals, statements_divide_by_literals, takes, all_well_scoped, all_linear, asserted_in, is_well_formed_procedure, statements_nodes}
use Rattle.c_tree.specs.SourceNodes.{statement_trees_nodes}
use Rattle.c_tree.specs.SourceTree.{Identifier, ProcedureTree, Global, FileItem}
use Rattle.c_typing.specs.declared.fault.TypeFault.TheVariants.{Duplicate, MainShape}
use Rattle.c_typing.specs.declared.fault.Which.{Which}
use Rattle.c_typing.specs.declared.fault.Which.TheVariants.{Procedures, Parameters, Variables, Tokens, Assertions}
use Rattle.c_typing.specs.Scope.{FileScope, ScopedProcedure, scoped_procedures, globals_of, procedures_of, number_of, number_from, input, assume, assert, defined, callee_of, defined_from, is_input, is_assume, is_assert, is_main, is_built_in, variables_of, parameter_scope, declared_in, asserts_in, asserts_in_file}
use Rattle.c_typing.specs.declared.fault.TheConstants.{MAX_PROCEDURES, MAX_PARAMETERS, MAX_VARIABLES, MAX_GLOBALS, MAX_ASSERTIONS}
use Rattle.c_typing.specs.Faults.{fault_if, limit_fault, place_of, procedure_place, heading_faults, parameters_faults, statements_faults, procedure_faults, procedures_faults, globals_faults, global_place, prototypes_faults, all_faults}
use Rattle.c_typing.specs.Lowering.{lowered_statements, lowered_procedure, lowered_procedures, assert_places, lowered_file}
use Rattle.c_typing.specs.Answer.{DefinesMain}
use Rattle.c_typing.proofs.Basics.{no_fault, nil_both, both, or_false, and_false, not_false, eqb-same, Below, below-names}
use Rattle.c_typing.proofs.Sound.{CallsFit, numbered, statements-sound}
use Rattle.c_typing.proofs.Linear.{statements-linear}
use Rattle.c_typing.proofs.Divided.{statements-divides}
use Rattle.c_typing.proofs.Scoping.{trees, seen, scoped-trees, trees-at, scoped-at, few-seen, length-trees}
use Rattle.c_typing.proofs.Numbers.{statements-numbers}
use Rattle.c_typing.proofs.Nodes.{lowered_statements-nodes}

-- what a procedure without faults keeps
pub record IsFaultless (file : FileScope) (p : ProcedureTree) : Type 0 where
  pub main_shape : is_main p.named.name ≡ true → length p.params ≡ 0
  pub few_params : length p.params ≤ 8
  pub few_variables : length (variables_of p) ≤ 24
  pub short : p.past ≡ None
  pub body : statements_faults file p.void false (parameter_scope p) p.body ≡ []

no_limit : (w : Which) (o : Option Pos) → limit_fault w o ≡ [] → o ≡ None
no_limit w None e = refl
no_limit w (Some p) e = absurd cc

no_place : (o : Option Identifier) → place_of o ≡ None → o ≡ None
no_place None e = refl
no_place (Some n) e = absurd cc

no_procedure_place : (o : Option ProcedureTree) → procedure_place o ≡ None → o ≡ None
no_procedure_place None e = refl
no_procedure_place (Some n) e = absurd cc

pub few : {X : Type 0} (xs : List X) (n : ℕ) → slice_get xs n ≡ None → length xs ≤ n
few xs n e = elim (slice_get_cases xs n).1 [ inl there ↦ absurd (let f = there.2 in cc) | inr past ↦ past.0 ]

main-shape : (p : ProcedureTree) → (is_main p.named.name && (p.void || not_bool (length p.params == 0))) ≡ false → is_main p.named.name
    ≡ true → length p.params ≡ 0
main-shape p e m = let q = or_false p.void (not_bool (length p.params == 0))
    (and_false (is_main p.named.name) (p.void || not_bool (length p.params == 0)) e m) in eqb-same (length p.params) 0
    (not_false (length p.params == 0) q.1)

-- a procedure's faults in parts
procedure-parts : (file : FileScope) (earlier : List ProcedureTree) (p : ProcedureTree) → procedure_faults file earlier p ≡ [] →
    ((is_built_in p.named.name || is_some (number_of earlier p.named.name)) ≡ false) × IsFaultless file p
procedure-parts file earlier p e =
    let body = statements_faults file p.void false (parameter_scope p) p.body in
    let tokens = limit_fault Tokens p.past in
    let variables = limit_fault Variables (place_of (slice_get (variables_of p) MAX_VARIABLES)) in
    let parameters = limit_fault Parameters (place_of (slice_get p.params MAX_PARAMETERS)) in
    let names = parameters_faults ([] ∷ []) p.params in
    let a = nil_both (heading_faults earlier p) (names ++ (parameters ++ (variables ++ (tokens ++ body)))) e in
    let b = nil_both names (parameters ++ (variables ++ (tokens ++ body))) a.1 in
    let c = nil_both parameters (variables ++ (tokens ++ body)) b.1 in
    let d = nil_both variables (tokens ++ body) c.1 in
    let f = nil_both tokens body d.1 in
    let duplicate = is_built_in p.named.name || is_some (number_of earlier p.named.name) in
    let shape = is_main p.named.name && (p.void || not_bool (length p.params == 0)) in
    let h = nil_both (fault_if duplicate Duplicate p.named.at) (fault_if shape MainShape p.named.at) a.0 in (
      no_fault duplicate Duplicate p.named.at h.0,
      record {
        main_shape = main-shape p (no_fault shape MainShape p.named.at h.1);
        few_params = few p.params 8 (no_place (slice_get p.params 8) (no_limit Parameters (place_of (slice_get p.params 8)) c.0));
        few_variables = few (variables_of p) 24
            (no_place (slice_get (variables_of p) 24) (no_limit Variables (place_of (slice_get (variables_of p) 24)) d.0));
        short = no_limit Tokens p.past f.0;
        body = f.1;
      },
    )

first-faultless : (all earlier : List ProcedureTree) (q : ScopedProcedure) (qs : List ScopedProcedure) →
    procedures_faults all earlier (q ∷ qs) ≡ [] →
    ((is_built_in q.tree.named.name || is_some (number_of earlier q.tree.named.name)) ≡ false) × IsFaultless (seen all q) q.tree
first-faultless all earlier q qs e = procedure-parts (seen all q) earlier q.tree
    (nil_both (procedure_faults (seen all q) earlier q.tree) (procedures_faults all (earlier ++ q.tree ∷ []) qs) e).0

rest-faultless : (all earlier : List ProcedureTree) (q : ScopedProcedure) (qs : List ScopedProcedure) →
    procedures_faults all earlier (q ∷ qs) ≡ [] → procedures_faults all (earlier ++ q.tree ∷ []) qs ≡ []
rest-faultless all earlier q qs e =
    (nil_both (procedure_faults (seen all q) earlier q.tree) (procedures_faults all (earlier ++ q.tree ∷ []) qs) e).1

pub faultless-at : (all earlier : List ProcedureTree) (qs : List ScopedProcedure) → procedures_faults all earlier qs ≡ [] →
    (i : ℕ) (q : ScopedProcedure) → slice_get qs i ≡ Some q → IsFaultless (seen all q) q.tree
faultless-at all earlier [] e i q at = absurd cc
faultless-at all earlier (p ∷ ps) e zero q at =
    let same : p ≡ q = cc in
    subst (λ (r : ScopedProcedure). IsFaultless (seen all r) r.tree) same (first-faultless all earlier p ps e).1
faultless-at all earlier (p ∷ ps) e (suc i) q at = faultless-at all (earlier ++ p.tree ∷ []) ps (rest-faultless all earlier p ps e) i q at

-- Names are apart

number-append : (n : ℕ) (xs : List ProcedureTree) (y : ProcedureTree) (x : List ℕ) → is_some (number_from n (xs ++ y ∷ []) x)
    ≡ (is_some (number_from n xs x) || bytes_eq y.named.name x)
number-append n [] y x = elim (bytes_eq y.named.name x) as (λ b. is_some (if b then Some n else None) ≡ b) [ true ↦ refl | false ↦ refl ]
number-append n (p ∷ ps) y x = go (bytes_eq p.named.name x) (number-append (n + 1) ps y x)
  where
    go : (b : Bool) → is_some (number_from (n + 1) (ps ++ y ∷ []) x) ≡ (is_some (number_from (n + 1) ps x) || bytes_eq y.named.name x) →
        is_some (if b then Some n else number_from (n + 1) (ps ++ y ∷ []) x) ≡ (is_some (if b then Some n else number_from (n + 1) ps x) ||
        bytes_eq y.named.name x)
    go true h = refl
    go false h = h

-- no earlier procedure has the name of a later one
fresh : (all earlier : List ProcedureTree) (qs : List ScopedProcedure) → procedures_faults all earlier qs ≡ [] → (j : ℕ)
    (q : ScopedProcedure) → slice_get qs j ≡ Some q → is_some (number_of earlier q.tree.named.name) ≡ false
fresh all earlier [] e j q at = absurd cc
fresh all earlier (p ∷ ps) e zero q at =
    let same : p ≡ q = cc in
    subst (λ (r : ScopedProcedure). is_some (number_of earlier r.tree.named.name) ≡ false) same
    (or_false (is_built_in p.tree.named.name) (is_some (number_of earlier p.tree.named.name)) (first-faultless all earlier p ps e).0).1
fresh all earlier (p ∷ ps) e (suc j) q at =
    let ih = fresh all (earlier ++ p.tree ∷ []) ps (rest-faultless all earlier p ps e) j q at in
    (or_false (is_some (number_of earlier q.tree.named.name)) (bytes_eq p.tree.named.name q.tree.named.name)
    (sym (number-append 0 earlier p.tree q.tree.named.name) ∙ ih)).0

apart : (all earlier : List ProcedureTree) (qs : List ScopedProcedure) → procedures_faults all earlier qs ≡ [] → (i j : ℕ)
    (p q : ScopedProcedure) → i < j →
    slice_get qs i ≡ Some p → slice_get qs j ≡ Some q → p.tree.named.name ≡ q.tree.named.name → ⊥
apart all earlier [] e i j p q less at_i at_j same = cc
apart all earlier (r ∷ rs) e zero zero p q less at_i at_j same = omega arith
apart all earlier (r ∷ rs) e (suc i) zero p q less at_i at_j same = omega arith
apart all earlier (r ∷ rs) e zero (suc j) p q less at_i at_j same =
    let new = fresh all (earlier ++ r.tree ∷ []) rs (rest-faultless all earlier r rs e) j q at_j in
    let other = (or_false (is_some (number_of earlier q.tree.named.name)) (bytes_eq r.tree.named.name q.tree.named.name)
    (sym (number-append 0 earlier r.tree q.tree.named.name) ∙ new)).1 in
    let first : r ≡ p = cc in
    let equal = (bytes_eq-Decides r.tree.named.name q.tree.named.name).1 (ap (λ (t : ScopedProcedure). t.tree.named.name) first ∙ same) in
    cc
apart all earlier (r ∷ rs) e (suc i) (suc j) p q less at_i at_j same =
    apart all (earlier ++ r.tree ∷ []) rs (rest-faultless all earlier r rs e) i j p q (omega arith) at_i at_j same

-- The procedures of the program

pub length-lowered : (all : List ProcedureTree) (id : ℕ) (qs : List ScopedProcedure) → length (lowered_procedures all id qs) ≡ length qs
length-lowered all id [] = refl
length-lowered all id (q ∷ qs) = ap suc (length-lowered all (id + length (asserts_in q.tree.body)) qs)

-- how many assertions stand before a procedure
abbrev offset : List ProcedureTree → ℕ → ℕ
offset [] i = 0
offset (q ∷ qs) zero = 0
offset (q ∷ qs) (suc i) = length (asserts_in q.body) + offset qs i

-- the procedure of the program at a number is that of the tree there, with assertions from a number on
record IsLoweredAt (all : List ProcedureTree) (id : ℕ) (qs : List ScopedProcedure) (i : ℕ) (p : PureProcedure) : Type 0 where
  scoped : ScopedProcedure
  first : ℕ
  there : slice_get qs i ≡ Some scoped
  place : first ≡ id + offset (trees qs) i
  high : first + length (asserts_in scoped.tree.body) ≤ id + length (asserts_in_file (trees qs))
  made : p ≡ lowered_procedure (seen all scoped) first scoped.tree

lowered-at : (all : List ProcedureTree) (id : ℕ) (qs : List ScopedProcedure) (i : ℕ) (p : PureProcedure) →
    slice_get (lowered_procedures all id qs) i ≡ Some p → IsLoweredAt all id qs i p
lowered-at all id [] i p at = absurd cc
lowered-at all id (q ∷ qs) zero p at = record {
  scoped = q;
  first = id;
  there = refl;
  place = omega arith;
  high = omega (arith, length-append (asserts_in q.tree.body) (asserts_in_file (trees qs)));
  made = cc;
}
lowered-at all id (q ∷ qs) (suc i) p at =
    let ih = lowered-at all (id + length (asserts_in q.tree.body)) qs i p at in
    record {
      scoped = ih.scoped;
      first = ih.first;
      there = ih.there;
      place = let l = ih.place in omega arith;
      high = let l = ih.high in omega (arith, length-append (asserts_in q.tree.body) (asserts_in_file (trees qs)));
      made = ih.made;
    }

-- what a tree's procedure takes, its program's takes
takes-lowered : (all : List ProcedureTree) (id : ℕ) (qs : List ScopedProcedure) (i : ℕ) (t : ProcedureTree) →
    slice_get (trees qs) i ≡ Some t →
    takes (slice_get (lowered_procedures all id qs) i) (length t.params) ≡ true
takes-lowered all id [] i t at = absurd cc
takes-lowered all id (p ∷ ps) zero t at = let same : p.tree ≡ t = cc in
    subst (λ (r : ProcedureTree). (length p.tree.params == length r.params) ≡ true) same (grind (arith, nat_tests))
takes-lowered all id (p ∷ ps) (suc i) t at = takes-lowered all (id + length (asserts_in p.tree.body)) ps i t at

-- a procedure found by its name
record IsFound (qs : List ProcedureTree) (x : List ℕ) (from n : ℕ) : Type 0 where
  tree : ProcedureTree
  place : ℕ
  number : n ≡ from + place
  there : slice_get qs place ≡ Some tree
  named : bytes_eq tree.named.name x ≡ true

found-later : (p : ProcedureTree) (qs : List ProcedureTree) (x : List ℕ) (from n : ℕ) → IsFound qs x (from + 1) n →
    IsFound (p ∷ qs) x from n
found-later p qs x from n h = record {
  tree = h.tree;
  place = suc h.place;
  number = (let m = h.number in omega arith);
  there = h.there;
  named = h.named;
}

found-here : (p : ProcedureTree) (qs : List ProcedureTree) (x : List ℕ) (from n : ℕ) → bytes_eq p.named.name x ≡ true → from ≡ n →
    IsFound (p ∷ qs) x from n
found-here p qs x from n named e = record { tree = p; place = zero; number = omega arith; there = refl; named = named }

number-found : (from : ℕ) (qs : List ProcedureTree) (x : List ℕ) (n : ℕ) → number_from from qs x ≡ Some n → IsFound qs x from n
number-found from [] x n e = absurd cc
number-found from (p ∷ ps) x n e = go (bytes_eq p.named.name x) refl e (number-found (from + 1) ps x n)
  where
    go : (b : Bool) → bytes_eq p.named.name x ≡ b → (if b then Some from else number_from (from + 1) ps x) ≡ Some n →
        (number_from (from + 1) ps x ≡ Some n → IsFound ps x (from + 1) n) → IsFound (p ∷ ps) x from n
    go true named e h = found-here p ps x from n named cc
    go false named e h = found-later p ps x from n (h e)

record IsCallee (qs : List ProcedureTree) (x : List ℕ) (from n params : ℕ) : Type 0 where
  found : IsFound qs x from n
  takes_so_many : length found.tree.params ≡ params

callee-found : (from : ℕ) (qs : List ProcedureTree) (x : List ℕ) (n params : ℕ) (void : Bool) → defined_from from qs x ≡ defined n params
    void → IsCallee qs x from n params
unfolding found-later found-here
callee-found from [] x n params void e = absurd cc
callee-found from (p ∷ ps) x n params void e = go (bytes_eq p.named.name x) refl e (callee-found (from + 1) ps x n params void)
  where
    go : (b : Bool) → bytes_eq p.named.name x ≡ b → (if b then defined from (length p.params) p.void else defined_from (from + 1) ps x)
        ≡ defined n params void →
        (defined_from (from + 1) ps x ≡ defined n params void → IsCallee ps x (from + 1) n params) → IsCallee (p ∷ ps) x from n params
    go true named e h = record { found = found-here p ps x from n named cc; takes_so_many = cc }
    go false named e h = let later = h e in record { found = found-later p ps x from n later.found; takes_so_many = later.takes_so_many }

defined-callee : (ps : List ProcedureTree) (x : List ℕ) (n params : ℕ) (void : Bool) → callee_of ps x ≡ defined n params void →
    defined_from 0 ps x ≡ defined n params void
defined-callee ps x n params void e = go (is_input x) (is_assume x) (is_assert x) e
  where
    go : (a b c : Bool) → (if a then input else (if b then assume else (if c then assert else defined_from 0 ps x))) ≡ defined n params
        void →
        defined_from 0 ps x ≡ defined n params void
    go true b c e = absurd cc
    go false true c e = absurd cc
    go false false true e = absurd cc
    go false false false e = e

main-found : (is : List FileItem) → DefinesMain is → IsFound (procedures_of is) (codes "main") 0
    (unwrap_or (number_of (procedures_of is) (codes "main")) 0)
main-found is h = go (number_of (procedures_of is) (codes "main")) refl h
  where
    go : (o : Option ℕ) → number_of (procedures_of is) (codes "main") ≡ o → IsSome o → IsFound (procedures_of is) (codes "main") 0
        (unwrap_or o 0)
    go None e s = absurd cc
    go (Some n) e s = number-found 0 (procedures_of is) (codes "main") n e

-- the trees of the procedures that see globals
from-trees : (is : List FileItem) (i : ℕ) (t : ProcedureTree) → slice_get (procedures_of is) i ≡ Some t →
    slice_get (trees (scoped_procedures [] is)) i ≡ Some t
from-trees is i t at = ap (λ r. slice_get r i) (scoped-trees [] is) ∙ at

tree-there : (is : List FileItem) (i : ℕ) (q : ScopedProcedure) → slice_get (scoped_procedures [] is) i ≡ Some q →
    slice_get (procedures_of is) i ≡ Some q.tree
tree-there is i q at = sym (ap (λ r. slice_get r i) (scoped-trees [] is)) ∙ trees-at (scoped_procedures [] is) i q at

calls-fit : (is : List FileItem) → DefinesMain is → CallsFit (lowered_file is) (procedures_of is)
calls-fit is main = record {
  fits = λ x n params void e.
      let ps = procedures_of is in
      let qs = scoped_procedures [] is in
      let c = callee-found 0 ps x n params void (defined-callee ps x n params void e) in
      let at : c.found.place ≡ n = let m = c.found.number in omega arith in
      let t = takes-lowered ps 0 qs c.found.place c.found.tree (from-trees is c.found.place c.found.tree c.found.there) in
      subst (λ k. takes (slice_get (lowered_procedures ps 0 qs) k) params ≡ true) at
      (subst (λ k. takes (slice_get (lowered_procedures ps 0 qs) c.found.place) k ≡ true) c.takes_so_many t);
  not_main = λ x n params void e other.
      let ps = procedures_of is in
      let m = unwrap_or (number_of ps (codes "main")) 0 in
      let c = callee-found 0 ps x n params void (defined-callee ps x n params void e) in
      let f = main-found is main in
      elim (n == m) as (λ b. (n == m) ≡ b → b ≡ false) [
        | false ↦ λ same. refl
        | true ↦ λ same. absurd (
            let equal : n ≡ m = eqb-same n m same in
            let place : c.found.place ≡ f.place = let a = c.found.number in let b = f.number in omega arith in
            let tree : c.found.tree ≡ f.tree = let some : Some c.found.tree ≡ Some f.tree = sym c.found.there ∙ ap (slice_get ps) place
            ∙ f.there in cc in
            let name : x ≡ codes "main" = sym ((bytes_eq-Decides c.found.tree.named.name x).0 c.found.named)
            ∙ ap (λ (t : ProcedureTree). t.named.name) tree ∙ (bytes_eq-Decides f.tree.named.name (codes "main")).0 f.named in
            let yes_main : is_main x ≡ true = (bytes_eq-Decides x (codes "main")).1 name in
            cc)
      ] refl;
}

-- Each procedure

-- a procedure without a 4,001st token is small
pub record AreSmall (ps : List ProcedureTree) : Type 0 where
  pub small : (i : ℕ) (p : ProcedureTree) → slice_get ps i ≡ Some p → p.past ≡ None → statement_trees_nodes p.body ≤ 8000

none-below : (n : ℕ) → Below ([] ∷ []) n
none-below n = record { below = λ x s e. absurd cc }

procedure-sound : (is : List FileItem) → DefinesMain is → (q : ScopedProcedure) (first : ℕ) → IsFaultless (seen (procedures_of is) q)
    q.tree →
    length q.globals ≤ length (globals_of is) →
    first + length (asserts_in q.tree.body) ≤ length (assert_places 0 (procedures_of is)) →
    statement_trees_nodes q.tree.body ≤ 8000 →
    is_well_formed_procedure (lowered_file is) (lowered_procedure (seen (procedures_of is) q) first q.tree) ≡ true
procedure-sound is main q first h known few small =
    let file = seen (procedures_of is) q in
    let p = q.tree in
    let P = lowered_file is in
    let slots = length (variables_of p) in
    let body = lowered_statements file (parameter_scope p) (length p.params) first p.body in
    let parts = length-append p.params (declared_in p.body) in
    let b_few : length (variables_of p) ≤ 24 = h.few_variables in
    let low : Below (parameter_scope p) slots = below-names ([] ∷ []) slots 0 p.params (none-below slots) (omega arith) in
    let globals : length file.globals ≤ length P.globals =
    omega (arith, length-map (globals_of is) (λ (g : Global). unwrap_or g.value (pos 0))) in
    let sound = statements-sound P file slots (calls-fit is main) globals p.void false (parameter_scope p) (length p.params) first p.body
    low
    (omega arith) few h.body in
    let size : statements_nodes body ≤ 8000 = omega (
      arith,
      lowered_statements-nodes file (parameter_scope p) (length p.params) first
          p.body,
    )
    in
    let a = nat_le (length p.params) 8 in
    let b = nat_le (length p.params) slots in
    let c = nat_le slots 24 in
    let d = all_well_scoped P slots false body in
    both (a && b && c && d) (nat_le (statements_nodes body) 8000)
    (both (a && b && c) d
    (both (a && b) c (both a b (le-leb (length p.params) 8 h.few_params) (le-leb (length p.params) slots (omega arith)))
    (le-leb slots 24 b_few)) sound)
    (le-leb (statements_nodes body) 8000 size)

-- Each assertion stands once

pub length-places : (proc : ℕ) (ps : List ProcedureTree) → length (assert_places proc ps) ≡ length (asserts_in_file ps)
length-places proc [] = refl
length-places proc (p ∷ ps) =
    length-append (map (λ at. record { at = at; proc = proc }) (asserts_in p.body)) (assert_places (proc + 1) ps)
    ∙ ap (λ n. n + length (assert_places (proc + 1) ps)) (length-mapped (asserts_in p.body)) ∙ ap (λ n. length (asserts_in p.body) + n)
    (length-places (proc + 1) ps)
    ∙ sym (length-append (asserts_in p.body) (asserts_in_file ps))
  where
    length-mapped : (xs : List Pos) → length (map (λ (at : Pos). let a : AssertPlace = record { at = at; proc = proc } in a) xs) ≡ length xs
    length-mapped [] = refl
    length-mapped (x ∷ xs) = ap suc (length-mapped xs)

count-cons : (k i : ℕ) (is : List ℕ) → count_by (λ i. i == k) (i ∷ is) ≡ cond (i == k) 1 0 + count_by (λ i. i == k) is
count-cons k i is = sum_by-cons (λ i. cond (i == k) 1 0) i is

count-numbered : (id : ℕ) (xs : List Pos) (k : ℕ) → ((k < id) ⊎ (id + length xs ≤ k)) → count_by (λ i. i == k) (numbered id xs) ≡ 0
count-numbered id [] k h = refl
count-numbered id (x ∷ xs) k h =
    let off : (id == k) ≡ false = grind (arith, nat_tests) in
    count-cons k id (numbered (id + 1) xs) ∙ ap (λ b. cond b 1 0 + count_by (λ i. i == k) (numbered (id + 1) xs)) off
    ∙ zero-add (count_by (λ i. i == k) (numbered (id + 1) xs)) ∙ count-numbered (id + 1) xs k
    (elim h [ inl l ↦ inl (omega arith) | inr g ↦ inr (omega arith) ])

count-once : (id : ℕ) (xs : List Pos) (k : ℕ) → id ≤ k → k < id + length xs → count_by (λ i. i == k) (numbered id xs) ≡ 1
count-once id [] k low high = absurd (omega arith)
count-once id (x ∷ xs) k low high = count-cons k id (numbered (id + 1) xs) ∙ go (id == k) refl (count-once (id + 1) xs k)
  where
    go : (b : Bool) → (id == k) ≡ b → (id + 1 ≤ k → k < id + 1 + length xs → count_by (λ i. i == k) (numbered (id + 1) xs) ≡ 1) → cond b 1 0
        + count_by (λ i. i == k) (numbered (id + 1) xs) ≡ 1
    go true e h = let same : id ≡ k = eqb-same id k e in omega (arith, count-numbered (id + 1) xs k (inl (omega arith)))
    go false e h = let apart : id < k = grind (arith, nat_tests) in omega (arith, h (omega arith) (omega arith))

-- an assertion's place: the number of its procedure, and where its number lies
record IsPlaced (proc : ℕ) (qs : List ProcedureTree) (j : ℕ) (a : AssertPlace) : Type 0 where
  tree : ProcedureTree
  at : ℕ
  there : slice_get qs at ≡ Some tree
  proc_is : a.proc ≡ proc + at
  low : offset qs at ≤ j
  high : j < offset qs at + length (asserts_in tree.body)

abbrev places : ℕ → List Pos → List AssertPlace
places proc xs = map (λ (at : Pos). record { at = at; proc = proc }) xs

split-places : (proc : ℕ) (xs : List Pos) (ys : List AssertPlace) (j : ℕ) (a : AssertPlace) → slice_get (places proc xs ++ ys) j ≡ Some a →
    ((j < length xs) × (a.proc ≡ proc)) ⊎ ((k : ℕ) × (j ≡ length xs + k) × (slice_get ys k ≡ Some a))
split-places proc [] ys j a e = inr (j, omega arith, e)
split-places proc (x ∷ xs) ys zero a e = inl (
  omega arith,
  let here : Some (let p : AssertPlace = record { at = x; proc = proc } in p)
      ≡ Some a = e in proc_same x a here,
)
  where
    proc_same : (x : Pos) (a : AssertPlace) → Some (let p : AssertPlace = record { at = x; proc = proc } in p) ≡ Some a → a.proc ≡ proc
    proc_same x a e = sym (ap (λ (o : Option AssertPlace). elim o as (λ _. ℕ) [ None ↦ 0 | Some p ↦ p.proc ]) e)
split-places proc (x ∷ xs) ys (suc j) a e = elim (split-places proc xs ys j a e) [
  | inl here ↦ inl (let l = here.0 in omega arith, here.1)
  | inr later ↦ inr (later.0, let l = later.1 in omega arith, later.2)
]

placed-at : (proc : ℕ) (qs : List ProcedureTree) (j : ℕ) (a : AssertPlace) → slice_get (assert_places proc qs) j ≡ Some a →
    IsPlaced proc qs j a
placed-at proc [] j a e = absurd cc
placed-at proc (q ∷ qs) j a e = elim (split-places proc (asserts_in q.body) (assert_places (proc + 1) qs) j a e) [
  | inl here ↦ record {
    tree = q;
    at = 0;
    there = refl;
    proc_is = here.1 ∙ omega arith;
    low = omega arith;
    high = let l = here.0 in
        omega arith;
  }
  | inr later ↦ next later.0 later.1 (placed-at (proc + 1) qs later.0 a later.2)
]
  where
    next : (k : ℕ) → j ≡ length (asserts_in q.body) + k → IsPlaced (proc + 1) qs k a → IsPlaced proc (q ∷ qs) j a
    next k at h = record {
      tree = h.tree;
      at = suc h.at;
      there = h.there;
      proc_is = let p = h.proc_is in omega arith;
      low = let l = h.low in omega arith;
      high = let l = h.high in omega arith;
    }

offset-below : (qs : List ProcedureTree) (i k : ℕ) (q r : ProcedureTree) → i < k → slice_get qs i ≡ Some q → slice_get qs k ≡ Some r →
    offset qs i + length (asserts_in q.body) ≤ offset qs k
offset-below [] i k q r less at_i at_k = absurd cc
offset-below (p ∷ ps) zero zero q r less at_i at_k = omega arith
offset-below (p ∷ ps) (suc i) zero q r less at_i at_k = omega arith
offset-below (p ∷ ps) zero (suc k) q r less at_i at_k =
    let same : p ≡ q = cc in
    let lengths : length (asserts_in p.body) ≡ length (asserts_in q.body) = ap (λ (t : ProcedureTree). length (asserts_in t.body)) same in
    omega arith
offset-below (p ∷ ps) (suc i) (suc k) q r less at_i at_k = let ih = offset-below ps i k q r (omega arith) at_i at_k in omega arith

once : (all : List ProcedureTree) (qs : List ScopedProcedure) →
    ((i : ℕ) (q : ScopedProcedure) → slice_get qs i ≡ Some q → IsFaultless (seen all q) q.tree) →
    (k i : ℕ) (a : AssertPlace) (p : PureProcedure) → slice_get (assert_places 0 (trees qs)) k ≡ Some a →
    slice_get (lowered_procedures all 0 qs) i ≡ Some p → count_by (λ id. id == k) (asserted_in p.body) ≡ (if i == a.proc then 1 else 0)
once all qs sound k i a p at_k at_i =
    let l = lowered-at all 0 qs i p at_i in
    let w = placed-at 0 (trees qs) k a at_k in
    let t = l.scoped.tree in
    let numbers = statements-numbers (seen all l.scoped) t.void false (parameter_scope t) (length t.params) l.first t.body
    (sound i l.scoped l.there).body in
    ap (λ (t : PureProcedure). count_by (λ id. id == k) (asserted_in t.body)) l.made ∙ ap (λ is. count_by (λ id. id == k) is) numbers
    ∙ go l w (i == a.proc) refl
  where
    go : (l : IsLoweredAt all 0 qs i p) (w : IsPlaced 0 (trees qs) k a) (b : Bool) → (i == a.proc) ≡ b →
        count_by (λ id. id == k) (numbered l.first (asserts_in l.scoped.tree.body)) ≡ (if b then 1 else 0)
    go l w true e =
        let same : i ≡ w.at = let s = eqb-same i a.proc e in let t = w.proc_is in omega arith in
        let some : Some l.scoped.tree ≡ Some w.tree = sym (trees-at qs i l.scoped l.there) ∙ ap (slice_get (trees qs)) same ∙ w.there in
        let tree : l.scoped.tree ≡ w.tree = cc in
        let lengths : length (asserts_in l.scoped.tree.body) ≡ length (asserts_in w.tree.body) =
        ap (λ (t : ProcedureTree). length (asserts_in t.body))
        tree in
        let offsets : offset (trees qs) i ≡ offset (trees qs) w.at = ap (offset (trees qs)) same in
        let a = l.place in
        let b = w.low in
        let c = w.high in
        count-once l.first (asserts_in l.scoped.tree.body) k (omega arith) (omega arith)
    go l w false e =
        let p = l.place in
        let b = w.low in
        let c = w.high in
        let s = w.proc_is in
        let other : (i < w.at) ⊎ (w.at < i) = grind (arith, nat_tests) in
        count-numbered l.first (asserts_in l.scoped.tree.body) k
        (elim other [
          | inl less ↦ inr (omega (
            arith,
            offset-below (trees qs) i w.at l.scoped.tree w.tree less (trees-at qs i l.scoped l.there)
                w.there,
          ))
          | inr more ↦ inl
              (omega (arith, offset-below (trees qs) w.at i w.tree l.scoped.tree more w.there (trees-at qs i l.scoped l.there)))
        ])

-- The whole

-- what a file without faults keeps
pub record Keeps (is : List FileItem) : Type 0 where
  pub few_procedures : length (procedures_of is) ≤ 64
  pub few_globals : length (globals_of is) ≤ 16
  pub few_asserts : length (asserts_in_file (procedures_of is)) ≤ 64
  pub faultless : procedures_faults (procedures_of is) [] (scoped_procedures [] is) ≡ []

no_global_place : (o : Option Global) → global_place o ≡ None → o ≡ None
no_global_place None e = refl
no_global_place (Some g) e = absurd cc

pub faultless_keeps : (is : List FileItem) → all_faults is ≡ [] → Keeps is
faultless_keeps is e =
    let ps = procedures_of is in
    let gs = globals_of is in
    let each = procedures_faults ps [] (scoped_procedures [] is) in
    let procs = limit_fault Procedures (procedure_place (slice_get ps MAX_PROCEDURES)) in
    let globals = limit_fault Variables (global_place (slice_get gs MAX_GLOBALS)) in
    let asserts = limit_fault Assertions (slice_get (asserts_in_file ps) MAX_ASSERTIONS) in
    let a = nil_both (prototypes_faults ps is) (globals_faults [] gs ++ (each ++ (procs ++ (globals ++ asserts)))) e in
    let b = nil_both (globals_faults [] gs) (each ++ (procs ++ (globals ++ asserts))) a.1 in
    let c = nil_both each (procs ++ (globals ++ asserts)) b.1 in
    let d = nil_both procs (globals ++ asserts) c.1 in
    let f = nil_both globals asserts d.1 in
    record {
      few_procedures = few ps 64 (no_procedure_place (slice_get ps 64) (no_limit Procedures (procedure_place (slice_get ps 64)) d.0));
      few_globals = few gs 16 (no_global_place (slice_get gs 16) (no_limit Variables (global_place (slice_get gs 16)) f.0));
      few_asserts = few (asserts_in_file ps) 64 (no_limit Assertions (slice_get (asserts_in_file ps) 64) f.1);
      faultless = c.0;
    }

pub each-faultless : (is : List FileItem) → all_faults is ≡ [] → (i : ℕ) (q : ScopedProcedure) →
    slice_get (scoped_procedures [] is) i ≡ Some q → IsFaultless (seen (procedures_of is) q) q.tree
each-faultless is e = faultless-at (procedures_of is) [] (scoped_procedures [] is) (faultless_keeps is e).faultless

length-opening : (is : List FileItem) → length (lowered_file is).globals ≡ length (globals_of is)
length-opening is = length-map (globals_of is) (λ (g : Global). unwrap_or g.value (pos 0))

pub well_formed : (is : List FileItem) → all_faults is ≡ [] → DefinesMain is → AreSmall (procedures_of is) → IsWellFormed (lowered_file is)
well_formed is e main small =
    let ps = procedures_of is in
    let qs = scoped_procedures [] is in
    let P = lowered_file is in
    let keeps = faultless_keeps is e in
    let few_ps = keeps.few_procedures in
    let few_gs = keeps.few_globals in
    let few_as = keeps.few_asserts in
    let same = scoped-trees [] is in
    let count : length qs ≡ length ps = sym (length-trees qs) ∙ ap (λ r. length r) same in
    let f = main-found is main in
    let m = unwrap_or (number_of ps (codes "main")) 0 in
    let at : f.place ≡ m = let n = f.number in omega arith in
    let sound = each-faultless is e in
    let s = scoped-at qs f.place f.tree (from-trees is f.place f.tree f.there) in
    let none : length f.tree.params ≡ 0 = subst (λ (t : ProcedureTree). is_main t.named.name ≡ true → length t.params ≡ 0) s.tree
    (sound f.place s.scoped s.there).main_shape f.named in
    record {
      few_procedures = omega (arith, length-lowered ps 0 qs);
      main_takes_none = subst (λ k. takes (slice_get P.procedures k) 0 ≡ true) at
          (subst (λ k. takes (slice_get P.procedures f.place) k ≡ true) none
          (takes-lowered ps 0 qs f.place f.tree (from-trees is f.place f.tree f.there)));
      names_apart = λ i j p q less at_i at_j same.
          let x = lowered-at ps 0 qs i p at_i in
          let y = lowered-at ps 0 qs j q at_j in
          apart ps [] qs keeps.faultless i j x.scoped y.scoped less x.there y.there (sym (ap (λ (r : PureProcedure). r.name) x.made) ∙ same
          ∙ ap (λ (r : PureProcedure). r.name) y.made);
      procedures_well_formed = λ i p at_i.
          let x = lowered-at ps 0 qs i p at_i in
          let h = sound i x.scoped x.there in
          let seen_few = few-seen [] is i x.scoped x.there in
          let sizes : length (asserts_in_file (trees qs)) ≡ length (asserts_in_file ps) = ap (λ r. length (asserts_in_file r)) same in
          subst (λ (r : PureProcedure). is_well_formed_procedure P r ≡ true) (sym x.made)
          (procedure-sound is main x.scoped x.first h (omega arith) (let up = x.high in omega (arith, length-places 0 ps))
          (small.small i x.scoped.tree (tree-there is i x.scoped x.there) h.short));
      products_linear = λ i p at_i.
          let x = lowered-at ps 0 qs i p at_i in
          let t = x.scoped.tree in
          let h = sound i x.scoped x.there in
          subst (λ (r : PureProcedure). all_linear r.body ≡ true) (sym x.made)
          (statements-linear (seen ps x.scoped) t.void false (parameter_scope t) (length t.params) x.first t.body h.body);
      few_asserts = omega (arith, length-places 0 ps);
      few_globals = omega (arith, length-opening is);
      asserts_placed = λ k a at_k.
          let w = placed-at 0 ps k a at_k in
          let t = w.proc_is in
          omega (arith, slice_get_within ps w.at w.tree w.there, length-lowered ps 0 qs);
      asserted_once = λ k i a p at_k at_i. once ps qs sound k i a p (ap (λ r. slice_get (assert_places 0 r) k) same ∙ at_k) at_i;
    }

-- each division of the program is by a literal that may divide
pub divides : (is : List FileItem) → all_faults is ≡ [] → DividesByLiterals (lowered_file is)
divides is e i p at_i =
    let ps = procedures_of is in
    let x = lowered-at ps 0 (scoped_procedures [] is) i p at_i in
    let t = x.scoped.tree in
    let h = each-faultless is e i x.scoped x.there in
    subst (λ (r : PureProcedure). statements_divide_by_literals r.body ≡ true) (sym x.made)
    (statements-divides (seen ps x.scoped) t.void false (parameter_scope t) (length t.params) x.first t.body h.body)
