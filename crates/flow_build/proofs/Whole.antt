-- The graphs of a program's procedures, one after another.
use Rattle.std.proofs.Common.{◌≡◌, ℕ, zero, suc, ◌+◌, ◌<◌, ◌≤◌, Bool, true, false, eqb, cond, List, [], ◌∷◌, ◌++◌, length, take, map, get_or, Some, ℤ, IsTrue, refl, sym, ap, ◌∙◌, subst, arith}
use Rattle.std.specs.Prelude.{slice_get}
use Rattle.std.proofs.lemmas.Bool.{eq-eqb, ne_eqb, eqb-true, eqb-false}
use Rattle.c_tree.specs.declared.tree.Procedure.{Procedure}
use Rattle.c_tree.specs.View.{procedure_of}
use Rattle.c_tree.specs.Syntax.{PureProcedure, PureProgram}
use Rattle.c_tree.specs.WellFormed.{takes}
use Rattle.flow_graph.specs.Columns.{AreAllValues}
use Rattle.flow_graph.specs.declared.graph.Graph.{Graph}
use Rattle.flow_build.specs.steps.Building.{statements_literals_fit}
use Rattle.flow_build.specs.steps.Procedures.{IsGraphWith, IsGraphOf, AreGraphsOf, Made}
use Rattle.flow_build.proofs.SameRuns.{AllFit}

-- The graph of `main`, and of another procedure.

abbrev by_test : PureProgram → Bool → PureProcedure → Graph → Type 0
by_test P b p g = IsGraphWith (length P.globals) (cond b P.globals []) (cond b 0 (p.params + length P.globals)) p g

main_graph : (P : PureProgram) (i : ℕ) (p : PureProcedure) (g : Graph) → i ≡ P.main → IsGraphWith (length P.globals) P.globals 0 p g →
    IsGraphOf P i p g
main_graph P i p g is h = let T : Bool → Type 0 = λ b. by_test P b p g in subst T (sym (eq-eqb i P.main is)) h

other_graph : (P : PureProgram) (i : ℕ) (p : PureProcedure) (g : Graph) → (i ≡ P.main → ⊥) →
    IsGraphWith (length P.globals) [] (p.params + length P.globals) p g → IsGraphOf P i p g
other_graph P i p g apart h = let T : Bool → Type 0 = λ b. by_test P b p g in subst T (sym (ne_eqb i P.main apart)) h

same_there : (P : PureProgram) (i : ℕ) (p q : PureProcedure) → slice_get P.procedures i ≡ Some p → slice_get P.procedures i ≡ Some q → p ≡ q
same_there P i p q h k = let same : Some p ≡ Some q = sym h ∙ k in cc

pub main_found : (P : PureProgram) (i n : ℕ) (opening : List ℤ) (p : PureProcedure) (g : Graph) → slice_get P.procedures i ≡ Some p →
    n ≡ length P.globals → opening ≡ P.globals → i ≡ P.main → IsGraphWith n opening 0 p g →
    (q : PureProcedure) → slice_get P.procedures i ≡ Some q → IsGraphOf P i q g
main_found P i n opening p g at many opens is h q k =
    let N : ℕ → Type 0 = λ m. IsGraphWith m opening 0 p g in
    let O : List ℤ → Type 0 = λ zs. IsGraphWith (length P.globals) zs 0 p g in
    let Q : PureProcedure → Type 0 = λ x. IsGraphOf P i x g in
    subst Q (same_there P i p q at k) (main_graph P i p g is (subst O opens (subst N many h)))

pub other_found : (P : PureProgram) (i n entries : ℕ) (p : PureProcedure) (g : Graph) → slice_get P.procedures i ≡ Some p →
    n ≡ length P.globals → entries ≡ p.params + n → (i ≡ P.main → ⊥) → IsGraphWith n [] entries p g →
    (q : PureProcedure) → slice_get P.procedures i ≡ Some q → IsGraphOf P i q g
other_found P i n entries p g at many enters apart h q k =
    let E : ℕ → Type 0 = λ m. IsGraphWith n [] m p g in
    let N : ℕ → Type 0 = λ m. IsGraphWith m [] (p.params + m) p g in
    let Q : PureProcedure → Type 0 = λ x. IsGraphOf P i x g in
    subst Q (same_there P i p q at k) (other_graph P i p g apart (subst N many (subst E enters h)))

pub fits_found : (P : PureProgram) (i : ℕ) (p : PureProcedure) → slice_get P.procedures i ≡ Some p →
    IsTrue (statements_literals_fit p.body) →
    (q : PureProcedure) → slice_get P.procedures i ≡ Some q → IsTrue (statements_literals_fit q.body)
fits_found P i p at h q k =
    let Q : PureProcedure → Type 0 = λ x. IsTrue (statements_literals_fit x.body) in subst Q (same_there P i p q at k) h

-- The procedure of a number is there.

pub procedure_there : (ps : List Procedure) (i : ℕ) (x : Procedure) → i < length ps → x ≡ get_or ps i x → slice_get (map procedure_of ps) i
    ≡ Some (procedure_of x)
procedure_there [] i x lt is = absurd (omega arith)
procedure_there (y ∷ ps) zero x lt is = ap (λ z. Some (procedure_of z)) (sym is)
procedure_there (y ∷ ps) (suc i) x lt is = procedure_there ps i x (omega arith) is

pub length_mapped : (ps : List Procedure) → length (map procedure_of ps) ≡ length ps
length_mapped [] = refl
length_mapped (x ∷ ps) = ap suc (length_mapped ps)

there_at : (ps : List PureProcedure) (i : ℕ) → i < length ps → (p : PureProcedure) × (slice_get ps i ≡ Some p)
there_at [] i lt = absurd (omega arith)
there_at (p ∷ ps) zero lt = (p, refl)
there_at (p ∷ ps) (suc i) lt = there_at ps i (omega arith)

-- One graph after another.

pub made_none : (P : PureProgram) → Made P 0 []
made_none P = record { graphs = tt; literals = λ j p lt e. absurd (omega arith); opening = λ j lt e. absurd (omega arith) }

one_more : (P : PureProgram) (k j : ℕ) (ps : List PureProcedure) (i : ℕ) (p : PureProcedure) (gs : List Graph) (g : Graph) →
    AreGraphsOf P k (take i ps) gs → slice_get ps i ≡ Some p → j ≡ k + i → IsGraphOf P j p g →
    AreGraphsOf P k (take (suc i) ps) (gs ++ g ∷ [])
one_more P k j [] i p gs g h e is new = cc
one_more P k j (q ∷ ps) zero p [] g h e is new =
    let same : q ≡ p = cc in
    let at : j ≡ k = omega (arith, is) in
    let Q : PureProcedure → Type 0 = λ x. IsGraphOf P k x g in
    let J : ℕ → Type 0 = λ x. IsGraphOf P x p g in
    (subst Q (sym same) (subst J at new), tt)
one_more P k j (q ∷ ps) zero p (x ∷ gs) g h e is new = absurd h
one_more P k j (q ∷ ps) (suc i) p [] g h e is new = absurd h
one_more P k j (q ∷ ps) (suc i) p (x ∷ gs) g h e is new =
    (h.0, one_more P (suc k) j ps i p gs g h.1 e (omega (arith, is)) new)

literals_on : (P : PureProgram) (i : ℕ) → ((p : PureProcedure) → slice_get P.procedures i ≡ Some p →
    IsTrue (statements_literals_fit p.body)) →
    ((j : ℕ) (p : PureProcedure) → j < i → slice_get P.procedures j ≡ Some p → IsTrue (statements_literals_fit p.body)) →
    (j : ℕ) (p : PureProcedure) → j < i + 1 → slice_get P.procedures j ≡ Some p → IsTrue (statements_literals_fit p.body)
literals_on P i here below j p lt e = by_order (eqb j i) refl
  where
    by_order : (b : Bool) → eqb j i ≡ b → IsTrue (statements_literals_fit p.body)
    by_order true is = let same : j ≡ i = eqb-true j i is in here p (sym (ap (slice_get P.procedures) same) ∙ e)
    by_order false is = let apart = eqb-false j i is in below j p (omega (arith, lt, apart)) e

opening_on : (P : PureProgram) (i : ℕ) → (i ≡ P.main → AreAllValues P.globals) → ((j : ℕ) → j < i → j ≡ P.main → AreAllValues P.globals) →
    (j : ℕ) → j < i + 1 → j ≡ P.main → AreAllValues P.globals
opening_on P i here below j lt e = by_order (eqb j i) refl
  where
    by_order : (b : Bool) → eqb j i ≡ b → AreAllValues P.globals
    by_order true is = let same : j ≡ i = eqb-true j i is in here (sym same ∙ e)
    by_order false is = let apart = eqb-false j i is in below j (omega (arith, lt, apart)) e

pub made_next : (P : PureProgram) (i : ℕ) (gs hs : List Graph) (g : Graph) → Made P i gs → i < length P.procedures →
    ((p : PureProcedure) → slice_get P.procedures i ≡ Some p → IsGraphOf P i p g) →
    ((p : PureProcedure) → slice_get P.procedures i ≡ Some p → IsTrue (statements_literals_fit p.body)) →
    (i ≡ P.main → AreAllValues P.globals) → hs ≡ gs ++ g ∷ [] → Made P (i + 1) hs
made_next P i gs hs g h lt new fits opens more =
    let found = there_at P.procedures i lt in
    let next : suc i ≡ i + 1 = omega arith in
    let zeroth : i ≡ 0 + i = omega arith in
    let G : List Graph → Type 0 = λ l. AreGraphsOf P 0 (take (i + 1) P.procedures) l in
    let N : ℕ → Type 0 = λ n. AreGraphsOf P 0 (take n P.procedures) (gs ++ g ∷ []) in
    record {
      graphs = subst G (sym more) (subst N next (one_more P 0 i P.procedures i found.0 gs g h.graphs found.1 zeroth (new found.0 found.1)));
      literals = literals_on P i fits h.literals;
      opening = opening_on P i opens h.opening;
    }

take_all : (l : List PureProcedure) (j : ℕ) → length l ≤ j → take j l ≡ l
take_all [] zero le = refl
take_all [] (suc j) le = refl
take_all (x ∷ l) zero le = absurd (omega arith)
take_all (x ∷ l) (suc j) le = ap (λ r. x ∷ r) (take_all l j (omega arith))

index_low : (ps : List PureProcedure) (j : ℕ) (p : PureProcedure) → slice_get ps j ≡ Some p → j < length ps
index_low [] j p e = cc
index_low (x ∷ ps) zero p e = omega arith
index_low (x ∷ ps) (suc j) p e = let lt = index_low ps j p e in omega (arith, lt)

taken_low : (ps : List PureProcedure) (j n : ℕ) → IsTrue (takes (slice_get ps j) n) → j < length ps
taken_low [] j n h = cc
taken_low (x ∷ ps) zero n h = omega arith
taken_low (x ∷ ps) (suc j) n h = let lt = taken_low ps j n h in omega (arith, lt)

-- after the loop each procedure has its graph
module _ (P : PureProgram) (i : ℕ) (gs : List Graph) (h : Made P i gs) (all : length P.procedures ≤ i) where
  pub all_graphs : AreGraphsOf P 0 P.procedures gs
  all_graphs = let A : List PureProcedure → Type 0 = λ l. AreGraphsOf P 0 l gs in subst A (take_all P.procedures i all) h.graphs

  pub all_opening : IsTrue (takes (slice_get P.procedures P.main) 0) → AreAllValues P.globals
  all_opening main = let lt = taken_low P.procedures P.main 0 main in h.opening P.main (omega (arith, lt, all)) refl

  pub all_literals : AllFit P.procedures
  all_literals = λ j p e. let lt = index_low P.procedures j p e in h.literals j p (omega (arith, lt, all)) e
