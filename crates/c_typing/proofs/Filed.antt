-- The items of a file, one after another.
use Rattle.std.proofs.Common.{◌≡◌, ℕ, ◌+◌, ◌<◌, ◌≤◌, zero, suc, Bool, true, false, ◌||◌, not as not_bool, nat_lt, List, [], ◌∷◌, ◌++◌, length, drop, get_or, map, slice_get, Option, Some, is_some, bytes_eq, string_bytes, refl, ap, sym, ◌∙◌, arith, append_assoc, if◌then◌else◌}
use Rattle.std.proofs.lemmas.Bool.Decides.{nat_tests}
use Rattle.std.proofs.lemmas.List.{append-nil, at_drop_more, at_drop_all, length-append}
use Rattle.c_tree.specs.declared.tree.Pos.{Pos}
use Rattle.c_tree.specs.declared.syntax_tree.Named.{Named}
use Rattle.c_typing.specs.declared.fault.TypeFault.TheVariants.{UnknownName}
use Rattle.c_tree.specs.declared.syntax_tree.Item.{Item}
use Rattle.c_tree.specs.declared.syntax_tree.Item.TheVariants.{Proto, Proc, Globals}
use Rattle.c_tree.specs.SourceTree.{Identifier, ProcedureTree}
use Rattle.c_tree.specs.FileView.{item_of}
use Rattle.c_typing.specs.declared.fault.Which.TheVariants.{Parameters, Variables, Tokens}
use Rattle.c_typing.specs.Scope.{FileScope, ScopedProcedure, is_built_in, number_from, number_of, defined, defined_from, variables_of, parameter_scope, asserts_in, asserts_in_file}
use Rattle.c_typing.specs.Faults.{Fault, fault_if, limit_fault, place_of, parameters_faults, statements_faults, procedure_faults, procedures_faults, prototypes_faults}
use Rattle.c_typing.specs.steps.Least.{least_from}
use Rattle.c_typing.specs.steps.Tables.{Noted, noted, places_of, procedures_in, scoped_in, number_in, is_defined, is_again, heading_found, procedure_found, procedures_found}
use Rattle.c_typing.proofs.Known.{same-bytes}
use Rattle.c_typing.proofs.Scoping.{trees, seen, item-trees, length-trees}
use Rattle.c_typing.proofs.Least.{least-append, least-swap}
use Rattle.c_typing.proofs.Noting.{noted-append, noted-nil}

-- a name is again where its first procedure stands before
again-is : (i : ℕ) (E : List ProcedureTree) (p : ProcedureTree) (R : List ProcedureTree) (x : List ℕ) → bytes_eq p.named.name x ≡ true →
    is_some (number_from i E x) ≡ nat_lt (number_in (defined_from i (E ++ p ∷ R) x)) (i + length E)
again-is i [] p R x same = go (bytes_eq p.named.name x) same
  where
    go : (b : Bool) → b ≡ true → false ≡ nat_lt (number_in (if b then defined i (length p.params) p.void else defined_from (i + 1) R x))
        (i + 0)
    go true e = grind (arith, nat_tests)
    go false e = absurd cc
again-is i (q ∷ E) p R x same = go (bytes_eq q.named.name x) (again-is (i + 1) E p R x same)
  where
    go : (b : Bool) → is_some (number_from (i + 1) E x) ≡ nat_lt (number_in (defined_from (i + 1) (E ++ p ∷ R) x)) (i + 1 + length E) →
        is_some (if b then Some i else number_from (i + 1) E x)
        ≡ nat_lt (number_in (if b then defined i (length q.params) q.void else defined_from (i + 1) (E ++ p ∷ R) x)) (i + suc (length E))
    go true h = grind (arith, nat_tests)
    go false h = h ∙ ap (λ k. nat_lt (number_in (defined_from (i + 1) (E ++ p ∷ R) x)) k) (omega arith)

pub defined-is : (i : ℕ) (ps : List ProcedureTree) (x : List ℕ) → is_defined (defined_from i ps x) ≡ is_some (number_from i ps x)
defined-is i [] x = refl
defined-is i (p ∷ ps) x = go (bytes_eq p.named.name x) (defined-is (i + 1) ps x)
  where
    go : (b : Bool) → is_defined (defined_from (i + 1) ps x) ≡ is_some (number_from (i + 1) ps x) →
        is_defined (if b then defined i (length p.params) p.void else defined_from (i + 1) ps x)
        ≡ is_some (if b then Some i else number_from (i + 1) ps x)
    go true h = refl
    go false h = h

-- the order in which a procedure's faults are found doesn't matter
procedure-same : (file : FileScope) (earlier : List ProcedureTree) (p : ProcedureTree) (again : Bool) (best : Option Fault) →
    is_some (number_of earlier p.named.name) ≡ again →
    least_from best (procedure_found file again p) ≡ least_from best (procedure_faults file earlier p)
procedure-same file earlier p again best e =
    let h = heading_found again p in
    let a = parameters_faults ([] ∷ []) p.params in
    let b = limit_fault Parameters (place_of (slice_get p.params 8)) in
    let v = limit_fault Variables (place_of (slice_get (variables_of p) 24)) in
    let t = limit_fault Tokens p.past in
    let s = statements_faults file p.void false (parameter_scope p) p.body in
    least-append best h ((a ++ (b ++ s)) ++ (v ++ t))
    ∙ ap (λ r. least_from (least_from best h) r) (append_assoc a (b ++ s) (v ++ t)) ∙ least-append (least_from best h) a
    ((b ++ s) ++ (v ++ t))
    ∙ ap (λ r. least_from (least_from (least_from best h) a) r) (append_assoc b s (v ++ t))
    ∙ least-append (least_from (least_from best h) a)
    b (s ++ (v ++ t))
    ∙ least-swap (least_from (least_from (least_from best h) a) b) s (v ++ t)
    ∙ sym (least-append (least_from (least_from best h) a) b ((v ++ t) ++ s))
    ∙ sym (least-append (least_from best h) a (b ++ ((v ++ t) ++ s)))
    ∙ sym (least-append best h (a ++ (b ++ ((v ++ t) ++ s))))
    ∙ ap (λ r. least_from best (h ++ (a ++ (b ++ r)))) (append_assoc v t s)
    ∙ ap (λ g. least_from best (heading_found g p ++ (a ++ (b ++ (v ++ (t ++ s)))))) (sym e)

-- the faults of the procedures are found by their numbers
pub procedures-same : (all earlier : List ProcedureTree) (qs : List ScopedProcedure) (number : ℕ) (best : Option Fault) →
    all ≡ earlier ++ trees qs → number ≡ length earlier →
    least_from best (procedures_found all number qs) ≡ least_from best (procedures_faults all earlier qs)
procedures-same all earlier [] number best e n = refl
procedures-same all earlier (q ∷ qs) number best e n =
    let p = q.tree in
    let again : is_some (number_of earlier p.named.name) ≡ is_again all number p = again-is 0 earlier p (trees qs) p.named.name
    (same-bytes p.named.name)
    ∙ ap (λ k. nat_lt (number_in (defined_from 0 (earlier ++ p ∷ trees qs) p.named.name)) k) (omega arith)
    ∙ ap (λ r. nat_lt (number_in (defined_from 0 r p.named.name)) number) (sym e) in
    least-append best (procedure_found (seen all q) (is_again all number p) p) (procedures_found all (number + 1) qs)
    ∙ ap (λ b. least_from b (procedures_found all (number + 1) qs)) (procedure-same (seen all q) earlier p (is_again all number p) best
    again)
    ∙ procedures-same all (earlier ++ p ∷ []) qs (number + 1) (least_from best (procedure_faults (seen all q) earlier p))
    (e ∙ sym (append_assoc earlier (p ∷ []) (trees qs))) (omega (arith, length-append earlier (p ∷ [])))
    ∙ sym (least-append best (procedure_faults (seen all q) earlier p) (procedures_faults all (earlier ++ p ∷ []) qs))

pub places-get : (ns : List Identifier) (i : ℕ) → slice_get (places_of ns) i ≡ place_of (slice_get ns i)
places-get [] i = refl
places-get (n ∷ ns) zero = refl
places-get (n ∷ ns) (suc i) = places-get ns i

-- one item more

pub procedures_in-cons : (x : Item) (xs : List Item) → procedures_in (x ∷ xs) ≡ procedures_in (x ∷ []) ++ procedures_in xs
procedures_in-cons (Proto n) xs = refl
procedures_in-cons (Proc p) xs = refl
procedures_in-cons (Globals gs) xs = refl

found-append : (all : List ProcedureTree) (number : ℕ) (xs ys : List ScopedProcedure) → procedures_found all number (xs ++ ys)
    ≡ procedures_found all number xs ++ procedures_found all (number + length xs) ys
found-append all number [] ys = ap (λ k. procedures_found all k ys) (omega arith)
found-append all number (q ∷ xs) ys =
    let here = procedure_found (seen all q) (is_again all number q.tree) q.tree in
    ap (λ r. here ++ r) (found-append all (number + 1) xs ys
    ∙ ap (λ k. procedures_found all (number + 1) xs ++ procedures_found all k ys) (omega arith))
    ∙ sym (append_assoc here (procedures_found all (number + 1) xs) (procedures_found all (number + length (q ∷ xs)) ys))

pub asserts_in_file-append : (xs ys : List ProcedureTree) → asserts_in_file (xs ++ ys) ≡ asserts_in_file xs ++ asserts_in_file ys
asserts_in_file-append [] ys = refl
asserts_in_file-append (p ∷ xs) ys = ap (λ r. asserts_in p.body ++ r) (asserts_in_file-append xs ys)
    ∙ sym (append_assoc (asserts_in p.body) (asserts_in_file xs) (asserts_in_file ys))

-- one item's procedures and then the others
pub items-best : (all : List ProcedureTree) (d : Item) (known : List (List ℕ)) (whole more : List ScopedProcedure) (number after : ℕ)
    (best b1 goal : Option Fault) → whole ≡ scoped_in known (d ∷ []) ++ more → after ≡ number + length (procedures_in (d ∷ [])) →
    b1 ≡ least_from best (procedures_found all number (scoped_in known (d ∷ []))) →
    least_from best (procedures_found all number whole) ≡ goal → least_from b1 (procedures_found all after more) ≡ goal
items-best all d known whole more number after best b1 goal parts next step left =
    let one = scoped_in known (d ∷ []) in
    let count : after ≡ number + length one = next ∙ ap (λ k. number + k) (ap (λ r. length r) (sym (item-trees known d)) ∙ length-trees one)
    in
    ap (λ b. least_from b (procedures_found all after more)) step ∙ ap (λ k. least_from (least_from best (procedures_found all number one))
    (procedures_found all k more)) count
    ∙ sym (least-append best (procedures_found all number one) (procedures_found all (number + length one) more)) ∙ ap (least_from best)
    (sym (found-append all number one more)) ∙ ap (λ r. least_from best (procedures_found all number r)) (sym parts) ∙ left

pub items-asserts : (xs : List Item) (i : ℕ) (d : Item) (places p1 goal : List Pos) → i < length xs → p1 ≡ places ++ asserts_in_file
    (procedures_in (get_or xs i d ∷ [])) →
    places ++ asserts_in_file (procedures_in (drop i xs)) ≡ goal → p1 ++ asserts_in_file (procedures_in (drop (i + 1) xs)) ≡ goal
items-asserts xs i d places p1 goal less step left =
    let one = procedures_in (get_or xs i d ∷ []) in
    let rest = procedures_in (drop (i + 1) xs) in
    ap (λ p. p ++ asserts_in_file rest) step ∙ append_assoc places (asserts_in_file one) (asserts_in_file rest) ∙ ap (λ r. places ++ r)
    (sym (asserts_in_file-append one rest))
    ∙ ap (λ r. places ++ asserts_in_file r) (sym (procedures_in-cons (get_or xs i d) (drop (i + 1) xs)))
    ∙ sym (at_drop_more (λ r. places ++ asserts_in_file (procedures_in r)) xs i d less) ∙ left

module _ (ps : List ProcedureTree) where
  abbrev pub prototypes_left : Noted → List Item → Noted
  prototypes_left n is = noted n (prototypes_faults ps (map item_of is)) [] []

  prototypes-cons : (x : Item) (xs : List Item) → prototypes_faults ps (map item_of (x ∷ xs)) ≡ prototypes_faults ps (item_of x ∷ [])
      ++ prototypes_faults ps (map item_of xs)
  prototypes-cons (Proto n) xs = ap (λ r. r ++ prototypes_faults ps (map item_of xs)) (sym (append-nil _))
  prototypes-cons (Proc p) xs = refl
  prototypes-cons (Globals gs) xs = refl

  pub prototypes_turn : (xs : List Item) (i : ℕ) (d : Item) (n n1 goal : Noted) → i < length xs →
      n1 ≡ noted n (prototypes_faults ps (item_of (get_or xs i d) ∷ [])) [] [] → prototypes_left n (drop i xs) ≡ goal →
      prototypes_left n1 (drop (i + 1) xs) ≡ goal
  prototypes_turn xs i d n n1 goal less step left =
      ap (λ m. prototypes_left m (drop (i + 1) xs)) step ∙ noted-append n (prototypes_faults ps (item_of (get_or xs i d) ∷ []))
      (prototypes_faults ps (map item_of (drop (i + 1) xs))) [] [] [] []
      ∙ ap (λ f. noted n f [] []) (sym (prototypes-cons (get_or xs i d) (drop (i + 1) xs)))
      ∙ sym (at_drop_more (prototypes_left n) xs i d less)
      ∙ left

  pub prototypes_end : (xs : List Item) (i : ℕ) (n goal : Noted) → length xs ≤ i → prototypes_left n (drop i xs) ≡ goal → n ≡ goal
  prototypes_end xs i n goal past left = sym (noted-nil n) ∙ sym (at_drop_all (prototypes_left n) xs i past) ∙ left

pub items-few : (x : Item) (number after i : ℕ) → after ≡ number + length (procedures_in (x ∷ [])) → number ≤ i → after ≤ i + 1
items-few (Proto n) number after i next few = omega arith
items-few (Proc p) number after i next few = omega arith
items-few (Globals gs) number after i next few = omega arith

pub prototype_said : (ps : List ProcedureTree) (n n1 : Noted) (t : Item) (named : Named) (x : List ℕ) (known : Bool) → t ≡ Proto named →
    x ≡ string_bytes named.name → known ≡ (is_built_in x || is_defined (defined_from 0 ps x)) →
    n1 ≡ noted n (fault_if (not_bool known) UnknownName named.at) [] [] → n1 ≡ noted n (prototypes_faults ps (item_of t ∷ [])) [] []
prototype_said ps n n1 t named x known is text test h =
    let name = string_bytes named.name in
    let wrong = fault_if (not_bool (is_built_in name || is_some (number_of ps name))) UnknownName named.at in
    h ∙ ap (λ b. noted n (fault_if (not_bool b) UnknownName named.at) [] [])
    (test ∙ ap (λ y. is_built_in y || is_defined (defined_from 0 ps y)) text ∙ ap (λ b. is_built_in name || b) (defined-is 0 ps name))
    ∙ ap (λ f. noted n f [] []) (sym (append-nil wrong)) ∙ ap (λ i. noted n (prototypes_faults ps (item_of i ∷ [])) [] []) (sym is)
