-- The program of a file, one procedure after another.
use Rattle.std.proofs.Common.{◌≡◌, ℕ, ℤ, ◌+◌, ◌-◌, ◌<◌, ◌≤◌, zero, suc, List, [], ◌∷◌, ◌++◌, length, map, take, drop, get_or, slice_get, unwrap_or, Some, None, codes, bytes_eq, refl, ap, sym, ◌∙◌, subst, arith, append_assoc, length-append, if◌then◌else◌, Bool, true, false}
use Rattle.std.proofs.lemmas.List.{append-nil, at_drop_more, at_drop_all}
use Rattle.c_tree.specs.declared.tree.Pos.{Pos}
use Rattle.c_tree.specs.declared.tree.AssertPlace.{AssertPlace}
use Rattle.c_tree.specs.declared.tree.Procedure.{Procedure}
use Rattle.c_tree.specs.declared.syntax_tree.ProcTree.{ProcTree}
use Rattle.c_tree.specs.declared.syntax_tree.Item.{Item}
use Rattle.c_tree.specs.declared.syntax_tree.Item.TheVariants.{Proto, Proc, Globals}
use Rattle.c_tree.specs.Syntax.{PureProcedure, PureProgram}
use Rattle.c_tree.specs.View.{procedure_of, program_from}
use Rattle.c_tree.specs.WellFormed.{IsWellFormed, DividesByLiterals}
use Rattle.c_tree.specs.SourceNodes.{statement_trees_nodes}
use Rattle.c_tree.specs.SourceTree.{ProcedureTree}
use Rattle.c_tree.specs.FileView.{item_of, procedure_tree_of}
use Rattle.c_typing.specs.Scope.{ScopedProcedure, procedures_of, number_of, number_from, defined, defined_from, asserts_in, asserts_in_file}
use Rattle.c_typing.specs.Faults.{all_faults}
use Rattle.c_typing.specs.Lowering.{lowered_procedure, lowered_procedures, assert_places, opening_values, lowered_file}
use Rattle.c_typing.specs.Answer.{DefinesMain}
use Rattle.c_typing.specs.steps.LoweringSteps.{ProceduresFit, placed}
use Rattle.c_typing.specs.steps.Tables.{procedures_in, scoped_in, number_in}
use Rattle.c_typing.specs.steps.Listed.{globals_in, names_in}
use Rattle.c_typing.proofs.Filed.{procedures_in-cons, asserts_in_file-append}
use Rattle.c_typing.proofs.Formed.{AreSmall, well_formed, divides}
use Rattle.c_typing.proofs.Scoping.{trees, seen, IsReached, reached_start, reached_low, reached_next, scoped_next, item-trees}

pub placed-is : (proc : ℕ) (xs : List Pos) → placed proc xs ≡ map (λ (at : Pos). let a : AssertPlace = record { at = at; proc = proc } in a)
    xs
placed-is proc [] = refl
placed-is proc (x ∷ xs) = ap (λ r. record { at = x; proc = proc } ∷ r) (placed-is proc xs)

pub places_one : (proc count : ℕ) (p : ProcedureTree) (old new : List AssertPlace) (own : List Pos) → proc ≡ count →
    own ≡ asserts_in p.body →
    new ≡ old ++ placed proc own → new ≡ old ++ assert_places count (p ∷ [])
places_one proc count p old new own same at h =
    h ∙ ap (λ k. old ++ placed k own) same ∙ ap (λ r. old ++ placed count r) at ∙ ap (λ r. old ++ r) (placed-is count (asserts_in p.body)
    ∙ sym (append-nil _))

-- one item more

lowered-append : (all : List ProcedureTree) (id : ℕ) (xs ys : List ScopedProcedure) → lowered_procedures all id (xs ++ ys)
    ≡ lowered_procedures all id xs ++ lowered_procedures all (id + length (asserts_in_file (trees xs))) ys
lowered-append all id [] ys = ap (λ k. lowered_procedures all k ys) (omega arith)
lowered-append all id (q ∷ xs) ys =
    let here = asserts_in q.tree.body in
    ap (λ r. lowered_procedure (seen all q) id q.tree ∷ r)
    (lowered-append all (id + length here) xs ys ∙ ap (λ k. lowered_procedures all (id + length here) xs
    ++ lowered_procedures all k ys) (omega (arith, length-append here (asserts_in_file (trees xs)))))

places-append : (k : ℕ) (xs ys : List ProcedureTree) → assert_places k (xs ++ ys) ≡ assert_places k xs ++ assert_places (k + length xs) ys
places-append k [] ys = ap (λ j. assert_places j ys) (omega arith)
places-append k (p ∷ xs) ys =
    ap (λ r. placed_here ++ r) (places-append (k + 1) xs ys ∙ ap (λ j. assert_places (k + 1) xs ++ assert_places j ys) (omega arith))
    ∙ sym (append_assoc placed_here (assert_places (k + 1) xs) (assert_places (k + length (p ∷ xs)) ys))
  where
    placed_here : List AssertPlace
    placed_here = map (λ (at : Pos). record { at = at; proc = k }) (asserts_in p.body)

fit-append : (id : ℕ) (xs ys : List ProcedureTree) → ProceduresFit id (xs ++ ys) → ProceduresFit id xs × ProceduresFit
    (id + length (asserts_in_file xs)) ys
fit-append id [] ys h = (tt, subst (λ k. ProceduresFit k ys) (omega arith) h)
fit-append id (p ∷ xs) ys h =
    let rest = fit-append (id + length (asserts_in p.body)) xs ys h.1 in
    ((h.0, rest.0), subst (λ k. ProceduresFit k ys) (omega (arith, length-append (asserts_in p.body) (asserts_in_file xs))) rest.1)

-- Small procedures

small-cases : (x : Item) (ps : List ProcedureTree) → AreSmall ps → AreSmall (procedures_of (item_of x ∷ []) ++ ps)
small-cases (Proto n) ps h = h
small-cases (Globals gs) ps h = h
small-cases (Proc t) ps h = record { small = λ i p at past. go i p at past }
  where
    first : (p : ProcedureTree) → procedure_tree_of t ≡ p → p.past ≡ None → statement_trees_nodes p.body ≤ 8000
    first p same past = let P : ProcedureTree → Type 0 = λ q. q.past ≡ None → statement_trees_nodes q.body ≤ 8000 in
        subst P same t.small past

    go : (i : ℕ) (p : ProcedureTree) → slice_get (procedure_tree_of t ∷ ps) i ≡ Some p → p.past ≡ None → statement_trees_nodes p.body ≤ 8000
    go zero p at past = let same : procedure_tree_of t ≡ p = cc in first p same past
    go (suc i) p at past = h.small i p at past

pub all_small : (is : List Item) → AreSmall (procedures_in is)
all_small [] = record { small = λ i p at past. absurd cc }
all_small (x ∷ xs) = subst AreSmall (sym (procedures_in-cons x xs)) (small-cases x (procedures_in xs) (all_small xs))

-- the number of `main`

number-is : (i : ℕ) (ps : List ProcedureTree) (x : List ℕ) → number_in (defined_from i ps x) ≡ unwrap_or (number_from i ps x) 0
number-is i [] x = refl
number-is i (p ∷ ps) x = go (bytes_eq p.named.name x) (number-is (i + 1) ps x)
  where
    go : (b : Bool) → number_in (defined_from (i + 1) ps x) ≡ unwrap_or (number_from (i + 1) ps x) 0 →
        number_in (if b then defined i (length p.params) p.void else defined_from (i + 1) ps x)
        ≡ unwrap_or (if b then Some i else number_from (i + 1) ps x) 0
    go true h = refl
    go false h = h

abbrev program : List PureProcedure → ℕ → List AssertPlace → List ℤ → PureProgram
program procedures main places globals = record { procedures = procedures; main = main; asserts = places; globals = globals }

pub whole : (items : List Item) (procedures : List Procedure) (main : ℕ) (places : List AssertPlace) (globals : List ℤ) →
    map procedure_of procedures ≡ lowered_procedures (procedures_in items) 0 (scoped_in [] items) →
    main ≡ number_in (defined_from 0 (procedures_in items) (codes "main")) →
    places ≡ assert_places 0 (procedures_in items) → globals ≡ opening_values (globals_in items) →
    program_from procedures main places globals ≡ lowered_file (map item_of items)
whole items procedures main places globals ep em ea eg =
    let made = lowered_procedures (procedures_in items) 0 (scoped_in [] items) in
    let number = unwrap_or (number_of (procedures_in items) (codes "main")) 0 in
    ap (λ r. program r main places globals) ep
    ∙ ap (λ m. program made m places globals) (em ∙ number-is 0 (procedures_in items) (codes "main"))
    ∙ ap (λ a. program made number a globals) ea
    ∙ ap (λ g. program made number (assert_places 0 (procedures_in items)) g) eg

pub whole_formed : (items : List Item) (P : PureProgram) → P ≡ lowered_file (map item_of items) → all_faults (map item_of items) ≡ [] →
    DefinesMain (map item_of items) → IsWellFormed P
whole_formed items P e faultless main = subst IsWellFormed (sym e) (well_formed (map item_of items) faultless main (all_small items))

pub whole_divides : (items : List Item) (P : PureProgram) → P ≡ lowered_file (map item_of items) → all_faults (map item_of items) ≡ [] →
    DividesByLiterals P
whole_divides items P e faultless = subst DividesByLiterals (sym e) (divides (map item_of items) faultless)

pub places_item : (t : Item) (p : ProcTree) (asserts : List Pos) (id id1 proc count : ℕ) (old new : List AssertPlace) → t ≡ Proc p →
    proc ≡ count → id1 ≡ id + length (asserts_in (procedure_tree_of p).body) →
    take (length (asserts_in_file (procedures_in (t ∷ [])))) (drop id asserts) ≡ asserts_in_file (procedures_in (t ∷ [])) →
    new ≡ old ++ placed proc (take (id1 - id) (drop id asserts)) → new ≡ old ++ assert_places count (procedures_in (t ∷ []))
places_item t p asserts id id1 proc count old new is same next own h =
    let body = asserts_in (procedure_tree_of p).body in
    let one : asserts_in_file (procedures_in (t ∷ [])) ≡ body = ap (λ x. asserts_in_file (procedures_in (x ∷ []))) is ∙ append-nil body in
    let many : id1 - id ≡ length (asserts_in_file (procedures_in (t ∷ []))) = let k : length (asserts_in_file (procedures_in (t ∷ [])))
    ≡ length body = ap (λ r. length r) one in omega arith in
    places_one proc count (procedure_tree_of p) old new (take (id1 - id) (drop id asserts)) same (ap (λ n. take n (drop id asserts)) many
    ∙ own ∙ one) h ∙ ap (λ x. old ++ assert_places count (procedures_in (x ∷ []))) (sym is)

no_places : List Pos
no_places = []

drop-nil : (k : ℕ) → drop k no_places ≡ no_places
unfolding no_places
drop-nil zero = refl
drop-nil (suc k) = refl

drop-more : (xs : List Pos) (n m : ℕ) → drop (n + m) xs ≡ drop m (drop n xs)
unfolding no_places
drop-more [] zero m = ap (λ k. drop k no_places) (omega arith)
drop-more [] (suc n) m = drop-nil (suc n + m) ∙ sym (drop-nil m)
drop-more (x ∷ xs) zero m = ap (λ k. drop k (x ∷ xs)) (omega arith)
drop-more (x ∷ xs) (suc n) m = let e : suc n + m ≡ suc (n + m) = omega arith in rw e (drop-more xs n m)

take-front : {X : Type 0} (xs ys : List X) → take (length xs) (xs ++ ys) ≡ xs
take-front [] ys = refl
take-front (x ∷ xs) ys = ap (λ r. x ∷ r) (take-front xs ys)

drop-front : {X : Type 0} (xs ys : List X) → drop (length xs) (xs ++ ys) ≡ ys
drop-front [] ys = refl
drop-front (x ∷ xs) ys = drop-front xs ys

-- how far the items of a file have become a program
pub record Built (items : List Item) (asserts : List Pos) (rest : List Item) (id count : ℕ) (procedures : List PureProcedure)
    (places : List AssertPlace) : Type 0 where
  pub fits : ProceduresFit id (procedures_in rest)
  pub reached : IsReached items rest count
  pub procedures_are : procedures ++ lowered_procedures (procedures_in items) id (scoped_in (take count (names_in items)) rest)
      ≡ lowered_procedures (procedures_in items) 0 (scoped_in [] items)
  pub places_are : places ++ assert_places (length procedures) (procedures_in rest) ≡ assert_places 0 (procedures_in items)
  pub number : length procedures + length (procedures_in rest) ≡ length (procedures_in items)
  pub left : drop id asserts ≡ asserts_in_file (procedures_in rest)
  pub low : id + length (asserts_in_file (procedures_in rest)) ≡ length asserts

-- what the next item needs
pub record Next (items : List Item) (asserts : List Pos) (t : Item) (id count number : ℕ) : Type 0 where
  pub fits : ProceduresFit id (procedures_in (t ∷ []))
  pub globals : count + length (globals_in (t ∷ [])) ≤ length (globals_in items)
  pub room : number ≤ 64
  pub within : id + length (asserts_in_file (procedures_in (t ∷ []))) ≤ length asserts
  pub own : take (length (asserts_in_file (procedures_in (t ∷ [])))) (drop id asserts) ≡ asserts_in_file (procedures_in (t ∷ []))

pub next_item : (items : List Item) (asserts : List Pos) (i : ℕ) (t : Item) (id count : ℕ) (procedures : List PureProcedure)
    (places : List AssertPlace) → length (procedures_in items) ≤ 64 → i < length items → t ≡ get_or items i t →
    Built items asserts (drop i items) id count procedures places → Next items asserts t id count (length procedures)
next_item items asserts i t id count procedures places few less is h =
    let one = procedures_in (t ∷ []) in
    let more = procedures_in (drop (i + 1) items) in
    let e : procedures_in (drop i items) ≡ one ++ more = at_drop_more procedures_in items i t less
    ∙ procedures_in-cons (get_or items i t) (drop (i + 1) items) ∙ ap (λ x. procedures_in (x ∷ []) ++ more) (sym is) in
    let all : asserts_in_file (procedures_in (drop i items)) ≡ asserts_in_file one ++ asserts_in_file more = ap asserts_in_file e
    ∙ asserts_in_file-append one more in
    record {
      fits = (fit-append id one more (subst (ProceduresFit id) e h.fits)).0;
      globals = reached_low items items i t count less is h.reached;
      room = let c = h.number in omega arith;
      within = let l = h.low in let k : length (asserts_in_file (procedures_in (drop i items)))
          ≡ length (asserts_in_file one ++ asserts_in_file more) = ap (λ r. length r) all in
          omega (arith, length-append (asserts_in_file one) (asserts_in_file more));
      own = ap (take (length (asserts_in_file one))) (h.left ∙ all) ∙ take-front (asserts_in_file one) (asserts_in_file more);
    }

pub built_item : (items : List Item) (asserts : List Pos) (i : ℕ) (t : Item) (id id1 count c1 : ℕ)
    (procedures p1 : List PureProcedure) (places a1 : List AssertPlace) → i < length items → t ≡ get_or items i t →
    Built items asserts (drop i items) id count procedures places →
    p1 ≡ procedures ++ lowered_procedures (procedures_in items) id (scoped_in (take count (names_in items)) (t ∷ [])) →
    a1 ≡ places ++ assert_places (length procedures) (procedures_in (t ∷ [])) →
    id1 ≡ id + length (asserts_in_file (procedures_in (t ∷ []))) → c1 ≡ count + length (globals_in (t ∷ [])) →
    length p1 ≡ length procedures + length (procedures_in (t ∷ [])) →
    Built items asserts (drop (i + 1) items) id1 c1 p1 a1
built_item items asserts i t id id1 count c1 procedures p1 places a1 less is h ep ea ei ec en =
    let ps = procedures_in items in
    let one = procedures_in (t ∷ []) in
    let more = procedures_in (drop (i + 1) items) in
    let here = scoped_in (take count (names_in items)) (t ∷ []) in
    let others = scoped_in (take c1 (names_in items)) (drop (i + 1) items) in
    let e : procedures_in (drop i items) ≡ one ++ more = at_drop_more procedures_in items i t less
    ∙ procedures_in-cons (get_or items i t) (drop (i + 1) items) ∙ ap (λ x. procedures_in (x ∷ []) ++ more) (sym is) in
    let parts : scoped_in (take count (names_in items)) (drop i items) ≡ here ++ others =
    scoped_next items items i t count c1 less is ec h.reached in
    let own : id1 ≡ id + length (asserts_in_file (trees here)) = ei ∙ ap (λ r. id + length (asserts_in_file r))
    (sym (item-trees (take count (names_in items)) t)) in
    let all : asserts_in_file (procedures_in (drop i items)) ≡ asserts_in_file one ++ asserts_in_file more = ap asserts_in_file e
    ∙ asserts_in_file-append one more in
    let lengths = length-append (asserts_in_file one) (asserts_in_file more) in
    let sizes : length (asserts_in_file (procedures_in (drop i items))) ≡ length (asserts_in_file one ++ asserts_in_file more) =
    ap (λ r. length r) all in
    let numbers : length (procedures_in (drop i items)) ≡ length (one ++ more) = ap (λ r. length r) e in
    record {
      fits = subst (λ k. ProceduresFit k more) (sym ei) (fit-append id one more (subst (ProceduresFit id) e h.fits)).1;
      reached = reached_next items items i t count c1 less is ec h.reached;
      procedures_are =
          ap (λ r. r ++ lowered_procedures ps id1 others) ep ∙ ap (λ k. (procedures ++ lowered_procedures ps id here) ++ lowered_procedures
          ps
          k others) own ∙ append_assoc procedures (lowered_procedures ps id here)
          (lowered_procedures ps (id + length (asserts_in_file (trees here))) others)
          ∙ ap (λ r. procedures ++ r) (sym (lowered-append ps id here others) ∙ ap (lowered_procedures ps id) (sym parts))
          ∙ h.procedures_are;
      places_are =
          ap (λ r. r ++ assert_places (length p1) more) ea ∙ ap (λ k. (places ++ assert_places (length procedures) one) ++ assert_places k
          more)
          en ∙ append_assoc places (assert_places (length procedures) one) (assert_places (length procedures + length one) more)
          ∙ ap (λ r. places ++ r) (sym (places-append (length procedures) one more) ∙ ap (assert_places (length procedures)) (sym e))
          ∙ h.places_are;
      number = let c = h.number in omega (arith, length-append one more);
      left = ap (λ k. drop k asserts) ei ∙ drop-more asserts id (length (asserts_in_file one)) ∙ ap (drop (length (asserts_in_file one)))
          (h.left ∙ all) ∙ drop-front (asserts_in_file one) (asserts_in_file more);
      low = let l = h.low in omega (arith, lengths);
    }

pub built_from : (items : List Item) (asserts : List Pos) (procedures : List PureProcedure) (places : List AssertPlace) →
    ProceduresFit 0 (procedures_in items) → asserts ≡ asserts_in_file (procedures_in items) → procedures ≡ [] → places ≡ [] →
    Built items asserts items 0 0 procedures places
built_from items asserts procedures places h e ep ea =
    subst (λ p. Built items asserts items 0 0 p places) (sym ep)
    (subst (λ a. Built items asserts items 0 0 [] a) (sym ea) (record {
      fits = h;
      reached = reached_start items;
      procedures_are = refl;
      places_are = refl;
      number = omega arith;
      left = e;
      low = let k : length asserts ≡ length (asserts_in_file (procedures_in items)) = ap (λ r. length r) e in omega arith;
    }))

pub built_end : (items : List Item) (asserts : List Pos) (i id count : ℕ) (procedures : List PureProcedure)
    (places : List AssertPlace) → length items ≤ i → Built items asserts (drop i items) id count procedures places →
    (procedures ≡ lowered_procedures (procedures_in items) 0 (scoped_in [] items)) × (places ≡ assert_places 0 (procedures_in items))
built_end items asserts i id count procedures places past h =
    let g = subst (λ r. Built items asserts r id count procedures places) (at_drop_all (λ r. r) items i past) h in
    (sym (append-nil procedures) ∙ g.procedures_are, sym (append-nil places) ∙ g.places_are)

pub made_program : (items r : List Item) (p q : List Procedure) (m n : ℕ) (a b : List AssertPlace) (g h : List ℤ) → r ≡ items → p ≡ q →
    m ≡ n → a ≡ b → g ≡ h →
    program_from q n b h ≡ lowered_file (map item_of r) → program_from p m a g ≡ lowered_file (map item_of items)
made_program items r p q m n a b g h e ep em ea eg whole = ap (λ x. program_from x m a g) ep ∙ ap (λ x. program_from q x a g) em
    ∙ ap (λ x. program_from q n x g) ea ∙ ap (λ x. program_from q n b x) eg ∙ whole ∙ ap (λ x. lowered_file (map item_of x)) e
