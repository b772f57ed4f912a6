-- What is found in a procedure and in a file.
use Rattle.std.proofs.Common.{◌≡◌, Bool, false, List, [], ◌∷◌, ◌++◌, map, slice_get, Option, None, refl, ap, sym, ◌∙◌}
use Rattle.std.proofs.lemmas.List.{append-nil}
use Rattle.c_tree.specs.declared.tree.Pos.{Pos}
use Rattle.c_tree.specs.declared.syntax_tree.Named.{Named}
use Rattle.c_tree.specs.declared.syntax_tree.StmtTree.{StmtTree}
use Rattle.c_tree.specs.SourceTree.{ProcedureTree, FileItem}
use Rattle.c_tree.specs.SourceView.{identifier_of, statement_trees_of}
use Rattle.c_typing.specs.declared.fault.Which.TheVariants.{Procedures, Parameters, Variables, Tokens, Assertions}
use Rattle.c_typing.specs.Scope.{FileScope, Scope, procedures_of, globals_of, scoped_procedures, with_names, variables_of, declared_in, asserts_in, asserts_in_file}
use Rattle.c_typing.specs.Faults.{Fault, limit_fault, place_of, procedure_place, parameters_faults, statements_faults, procedures_faults, globals_faults, global_place, prototypes_faults, all_faults}
use Rattle.c_typing.specs.steps.Least.{least_from}
use Rattle.c_typing.specs.steps.Tables.{Noted, noted, places_of, with_zeros, heading_found, body_found, procedure_found, procedures_found}
use Rattle.c_typing.proofs.Least.{least-append}
use Rattle.c_typing.proofs.Erased.{erased, statements-same}
use Rattle.c_typing.proofs.Noting.{noted_two}
use Rattle.c_typing.proofs.Declaring.{erased-zeros}
use Rattle.c_typing.proofs.Scoping.{scoped-trees}
use Rattle.c_typing.proofs.Filed.{places-get, procedures-same}

pub body_said : (file : FileScope) (void : Bool) (opened z : List Scope) (n n1 n2 n3 : Noted) (params p1 p2 : List Named)
    (b b1 : List StmtTree) (place : Option Pos) → opened ≡ [] ∷ [] → p1 ≡ params → p2 ≡ params → b1 ≡ b →
    z ≡ with_zeros opened (map identifier_of p1) → n1 ≡ noted n (parameters_faults opened (map identifier_of p1)) (map identifier_of p1)
    [] →
    place ≡ place_of (slice_get (map identifier_of p2) 8) → n2 ≡ noted n1 (limit_fault Parameters place) [] [] →
    n3 ≡ noted n2 (statements_faults file void false z (statement_trees_of b1)) (declared_in (statement_trees_of b1))
    (asserts_in (statement_trees_of b1)) →
    (let names = map identifier_of params in let body = statement_trees_of b in
    n3 ≡ noted n (parameters_faults ([] ∷ []) names ++ (limit_fault Parameters (place_of (slice_get names 8)) ++ statements_faults file void
    false (with_names ([] ∷ []) 0 names) body)) (names ++ declared_in body) (asserts_in body))
body_said file void opened z n n1 n2 n3 params p1 p2 b b1 place o e1 e2 eb ez h1 hp h2 h3 =
    let names = map identifier_of params in
    let body = statement_trees_of b in
    let zeros = with_zeros ([] ∷ []) names in
    let scope = with_names ([] ∷ []) 0 names in
    let z_is : z ≡ zeros = ez ∙ ap (λ u. with_zeros u (map identifier_of p1)) o ∙ ap (λ r. with_zeros ([] ∷ []) (map identifier_of r)) e1 in
    let alike : erased zeros ≡ erased scope = erased-zeros ([] ∷ []) ([] ∷ []) 0 names refl in
    let first = h1 ∙ ap (λ u. noted n (parameters_faults u (map identifier_of p1)) (map identifier_of p1) []) o
    ∙ ap (λ r. noted n (parameters_faults ([] ∷ []) (map identifier_of r)) (map identifier_of r) []) e1 in
    let limit = h2 ∙ ap (λ p. noted n1 (limit_fault Parameters p) [] []) (hp ∙ ap (λ r. place_of (slice_get (map identifier_of r) 8)) e2) in
    let last = h3 ∙ ap (λ r. noted n2 (statements_faults file void false z (statement_trees_of r)) (declared_in (statement_trees_of r))
    (asserts_in (statement_trees_of r))) eb
    ∙ ap (λ u. noted n2 (statements_faults file void false u body) (declared_in body) (asserts_in body)) z_is
    ∙ ap (λ f. noted n2 f (declared_in body) (asserts_in body)) (statements-same file void false zeros scope body alike) in
    let rest = noted_two n1 n2 n3 (limit_fault Parameters (place_of (slice_get names 8))) (statements_faults file void false scope body) []
    (declared_in body) [] (asserts_in body) limit last in
    noted_two n n1 n3 (parameters_faults ([] ∷ []) names) (limit_fault Parameters (place_of (slice_get names 8)) ++ statements_faults file
    void false scope body) names (declared_in body) [] (asserts_in body) first rest

pub procedure_said : (file : FileScope) (again : Bool) (p : ProcedureTree) (best : Option Fault) (f h b l1 l2 : Noted)
    (places : List Pos) (past : Option Pos) → f.best ≡ best → f.declared ≡ [] → h ≡ noted f (heading_found again p) [] [] →
    b ≡ noted h (body_found file p) (variables_of p) (asserts_in p.body) → places ≡ b.declared → past ≡ slice_get places 24 →
    l1 ≡ noted b (limit_fault Variables past) [] [] → l2 ≡ noted l1 (limit_fault Tokens p.past) [] [] →
    l2.best ≡ least_from best (procedure_found file again p)
procedure_said file again p best f h b l1 l2 places past same none eh eb ep at e1 e2 =
    let hf = heading_found again p in
    let bf = body_found file p in
    let vf = limit_fault Variables (place_of (slice_get (variables_of p) 24)) in
    let tf = limit_fault Tokens p.past in
    let names : b.declared ≡ places_of (variables_of p) =
    ap (λ (x : Noted). x.declared) eb ∙ ap (λ d. d ++ places_of (variables_of p)) (ap (λ (x : Noted). x.declared) eh ∙ append-nil f.declared
    ∙ none) in
    let limit : past ≡ place_of (slice_get (variables_of p) 24) = at ∙ ap (λ r. slice_get r 24) (ep ∙ names) ∙ places-get (variables_of p)
    24
    in
    ap (λ (x : Noted). x.best) e2 ∙ ap (λ o. least_from o tf)
    (ap (λ (x : Noted). x.best) e1 ∙ ap (λ o. least_from b.best (limit_fault Variables o)) limit ∙ ap (λ o. least_from o vf)
    (ap (λ (x : Noted). x.best) eb ∙ ap (λ o. least_from o bf) (ap (λ (x : Noted). x.best) eh ∙ ap (λ o. least_from o hf) same)))
    ∙ sym (least-append (least_from (least_from best hf) bf) vf tf) ∙ sym (least-append (least_from best hf) bf (vf ++ tf))
    ∙ sym (least-append best hf (bf ++ (vf ++ tf)))

pub all_said : (is : List FileItem) (n p g b l1 l2 l3 : Noted) (places : List Pos) (place global past : Option Pos) →
    n ≡ record { best = None; declared = []; asserts = [] } → p ≡ noted n (prototypes_faults (procedures_of is) is) [] [] →
    g ≡ noted p (globals_faults [] (globals_of is)) [] [] →
    b.best ≡ least_from g.best (procedures_found (procedures_of is) 0 (scoped_procedures [] is)) → b.asserts ≡ g.asserts ++ asserts_in_file
    (procedures_of is) → place ≡ procedure_place (slice_get (procedures_of is) 64) →
    l1 ≡ noted b (limit_fault Procedures place) [] [] → global ≡ global_place (slice_get (globals_of is) 16) →
    l2 ≡ noted l1 (limit_fault Variables global) [] [] → places ≡ l2.asserts → past ≡ slice_get places 64 →
    l3 ≡ noted l2 (limit_fault Assertions past) [] [] → l3.best ≡ least_from None (all_faults is)
all_said is n p g b l1 l2 l3 places place global past en ep eg eb ea at e1 global_at e2 el past_is e3 =
    let ps = procedures_of is in
    let qs = scoped_procedures [] is in
    let pf = prototypes_faults ps is in
    let gf = globals_faults [] (globals_of is) in
    let qf = procedures_faults ps [] qs in
    let rf = limit_fault Procedures (procedure_place (slice_get ps 64)) in
    let vf = limit_fault Variables (global_place (slice_get (globals_of is) 16)) in
    let af = limit_fault Assertions (slice_get (asserts_in_file ps) 64) in
    let first : p.best ≡ least_from None pf = ap (λ (x : Noted). x.best) ep ∙ ap (λ (x : Noted). least_from x.best pf) en in
    let second : g.best ≡ least_from (least_from None pf) gf = ap (λ (x : Noted). x.best) eg ∙ ap (λ o. least_from o gf) first in
    let none : p.asserts ≡ [] = ap (λ (x : Noted). x.asserts) ep ∙ append-nil n.asserts ∙ ap (λ (x : Noted). x.asserts) en in
    let empty : g.asserts ≡ [] = ap (λ (x : Noted). x.asserts) eg ∙ append-nil p.asserts ∙ none in
    let asserted : l2.asserts ≡ asserts_in_file ps = ap (λ (x : Noted). x.asserts) e2 ∙ append-nil l1.asserts
    ∙ ap (λ (x : Noted). x.asserts) e1 ∙ append-nil b.asserts ∙ ea ∙ ap (λ r. r ++ asserts_in_file ps) empty in
    let third : b.best ≡ least_from (least_from (least_from None pf) gf) qf = eb ∙ procedures-same ps [] qs 0 g.best
    (sym (scoped-trees [] is)) refl ∙ ap (λ o. least_from o qf) second in
    let fourth : l1.best ≡ least_from (least_from (least_from (least_from None pf) gf) qf) rf = ap (λ (x : Noted). x.best) e1
    ∙ ap (λ o. least_from b.best (limit_fault Procedures o)) at ∙ ap (λ o. least_from o rf) third in
    let fifth : l2.best ≡ least_from (least_from (least_from (least_from (least_from None pf) gf) qf) rf) vf = ap (λ (x : Noted). x.best) e2
    ∙ ap (λ o. least_from l1.best (limit_fault Variables o)) global_at ∙ ap (λ o. least_from o vf) fourth in
    ap (λ (x : Noted). x.best) e3 ∙ ap (λ o. least_from l2.best (limit_fault Assertions o))
    (past_is ∙ ap (λ r. slice_get r 64) (el ∙ asserted))
    ∙ ap (λ o. least_from o af) fifth
    ∙ sym (least-append (least_from (least_from (least_from (least_from None pf) gf) qf) rf) vf af)
    ∙ sym (least-append (least_from (least_from (least_from None pf) gf) qf) rf (vf ++ af))
    ∙ sym (least-append (least_from (least_from None pf) gf) qf (rf ++ (vf ++ af)))
    ∙ sym (least-append (least_from None pf) gf (qf ++ (rf ++ (vf ++ af))))
    ∙ sym (least-append None pf (gf ++ (qf ++ (rf ++ (vf ++ af)))))
