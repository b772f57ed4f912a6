-- A program of two procedures without a statement is well-formed.
use Rattle.std.proofs.Common.{◌≡◌, ℕ, zero, suc, ◌<◌, ◌≤◌, ◌&&◌, nat_le, List, [], ◌∷◌, length, ◌==◌, false, Some, ℤ, refl, sym, ap, ◌∙◌, subst, arith, IsTrue}
use Rattle.std.specs.Prelude.{slice_get}
use Rattle.std.proofs.lemmas.Option.{same_Some, none-some}
use borrow.Author.Tests.{le-leb}
use Rattle.linear_formula.proofs.Limits.{both_in}
use Rattle.c_tree.specs.Syntax.{PureProcedure, PureProgram, Statements}
use Rattle.c_tree.specs.WellFormed.{IsWellFormed, all_linear, all_well_scoped, is_well_formed_procedure, statements_nodes}
use Rattle.keep_tests.specs.Empty.{IsEmpty}

-- what stands in a list of two is one of these
two_at : {X : Type 0} (Q : X → Type 0) (a b : X) → Q a → Q b → (i : ℕ) (x : X) → slice_get (a ∷ b ∷ []) i ≡ Some x → Q x
two_at Q a b qa qb zero x e = subst Q (same_Some a x e) qa
two_at Q a b qa qb (suc zero) x e = subst Q (same_Some b x e) qb
two_at Q a b qa qb (suc (suc i)) x e = absurd (none-some x e)

well_formed_procedure : (P : PureProgram) (p : PureProcedure) (n k : ℕ) → IsEmpty p n k → n ≤ 8 → n ≤ k → k ≤ 24 →
    IsTrue (is_well_formed_procedure P p)
well_formed_procedure P p n k h few fit most =
    let params = le-leb p.params 8 (subst (λ x. x ≤ 8) (sym h.params_are) few) in
    let within = le-leb p.params p.slots (subst (λ x. x ≤ p.slots) (sym h.params_are) (subst (λ x. n ≤ x) (sym h.slots_are) fit)) in
    let slots = le-leb p.slots 24 (subst (λ x. x ≤ 24) (sym h.slots_are) most) in
    let scoped : IsTrue (all_well_scoped P p.slots false p.body) =
    subst (λ (b : Statements). IsTrue (all_well_scoped P p.slots false b)) (sym h.none) refl in
    let nodes : IsTrue (nat_le (statements_nodes p.body) 8000) =
    subst (λ (b : Statements). IsTrue (nat_le (statements_nodes b) 8000)) (sym h.none) refl in
    both_in (nat_le p.params 8 && nat_le p.params p.slots && nat_le p.slots 24 && all_well_scoped P p.slots false p.body) _
    (both_in (nat_le p.params 8 && nat_le p.params p.slots && nat_le p.slots 24) _
    (both_in (nat_le p.params 8 && nat_le p.params p.slots) _ (both_in (nat_le p.params 8) _ params within) slots) scoped) nodes

linear : (p : PureProcedure) (n k : ℕ) → IsEmpty p n k → IsTrue (all_linear p.body)
linear p n k h = subst (λ (b : Statements). IsTrue (all_linear b)) (sym h.none) refl

module _ (f main : PureProcedure) (globals : List ℤ) (n k : ℕ) (hf : IsEmpty f n k) (hm : IsEmpty main 0 0)
    (apart : f.name ≡ main.name → ⊥) (few : n ≤ 8) (fit : n ≤ k) (most : k ≤ 24) (few_globals : length globals ≤ 16) where
  abbrev made : PureProgram
  made = record { procedures = f ∷ main ∷ []; main = 1; asserts = []; globals = globals }

  names : (i j : ℕ) (p q : PureProcedure) → i < j → slice_get made.procedures i ≡ Some p → slice_get made.procedures j ≡ Some q →
      p.name ≡ q.name → ⊥
  names zero zero p q lt a b e = omega (arith, lt)
  names zero (suc zero) p q lt a b e =
      apart (ap (λ (x : PureProcedure). x.name) (same_Some f p a) ∙ (e ∙ ap (λ (x : PureProcedure). x.name) (sym (same_Some main q b))))
  names zero (suc (suc j)) p q lt a b e = absurd (none-some q b)
  names (suc zero) zero p q lt a b e = omega (arith, lt)
  names (suc zero) (suc zero) p q lt a b e = omega (arith, lt)
  names (suc zero) (suc (suc j)) p q lt a b e = absurd (none-some q b)
  names (suc (suc i)) j p q lt a b e = absurd (none-some p a)

  pub well_formed : IsWellFormed made
  well_formed = record {
    few_procedures = omega arith;
    main_takes_none = subst (λ x. IsTrue (x == 0)) (sym hm.params_are) refl;
    names_apart = names;
    procedures_well_formed = two_at (λ p. IsTrue (is_well_formed_procedure made p)) f main
        (well_formed_procedure made f n k hf few fit most)
        (well_formed_procedure made main 0 0 hm (omega arith) (omega arith) (omega arith));
    products_linear = two_at (λ p. IsTrue (all_linear p.body)) f main (linear f n k hf) (linear main 0 0 hm);
    few_asserts = omega arith;
    few_globals = few_globals;
    asserts_placed = λ i a e. absurd (none-some a e);
    asserted_once = λ i j a p e f. absurd (none-some a e);
  }
