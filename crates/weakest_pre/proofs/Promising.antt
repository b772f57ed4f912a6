-- What the definition of preimages says without the call.
use Rattle.std.proofs.Common.{◌≡◌, ℕ, ◌<◌, ◌^◌, true, false, List, [], ◌∷◌, ◌++◌, None, arith, refl, sym}
use Rattle.std.specs.Prelude.{IsTrue, nat_lt}
use Rattle.std.proofs.lemmas.List.Elements.{All-cons, All-nil}
use borrow.Author.Tests.{ltb-true}
use Rattle.linear_formula.specs.Formula.{are_terms}
use Rattle.linear_formula.specs.declared.formula.Atom.{Atom}
use Rattle.linear_formula.proofs.Limits.{both}
use Rattle.shadow_elim.specs.Projection.{gives, summed}
use Rattle.shadow_elim.specs.ProjectionLaws.{FitsProjection, Pair}
use Rattle.shadow_elim.specs.Sums.{total, first_wide, rows_of_sums, row_sums}
use Rattle.shadow_elim.specs.declared.sum.Sum.{Sum}
use Rattle.shadow_elim.proofs.Projecting.{unless-none, gives-rows, projections-keep, projections-name-none, projections-terms, projections-lose-none}
use Rattle.flow_graph.specs.declared.graph.Lin.{Lin}
use Rattle.flow_graph.specs.declared.graph.Edge.{Edge}
use Rattle.flow_graph.specs.declared.graph.Edge.TheVariants.{Entry, Assign, Guard, Input, Pick, Call, Assert, Return}
use Rattle.flow_graph.specs.Readings.{entry_reading, return_reading}
use Rattle.flow_graph.specs.Shapes.{is_call}
use Rattle.flow_graph.specs.WellFormed.{max_slots}
use Rattle.weakest_pre.specs.Preimage.{preimage, assigned_before, assigned_sums, lin_sum}
use Rattle.weakest_pre.specs.Predecessors.{HoldsPredecessors, HoldsNoOther, asked_atoms}
use Rattle.weakest_pre.proofs.Crossing.{entry-holds, entry-exact, assign-holds, assign-exact, return-holds, return-exact, guard-holds, guard-exact, assert-holds, assert-exact, input-holds, input-exact, pick-holds, pick-exact}

no_call : true ≡ false → ⊥
no_call h = cc

-- the rows of sums that are within their limits
summed-rows : (sums : List Sum) (rows : List Atom) (pair : Pair) → summed sums (λ atoms. gives atoms None) ≡ gives rows pair →
    rows ≡ rows_of_sums sums
summed-rows sums rows pair e =
    let u = unless-none (first_wide sums) (gives (rows_of_sums sums) None) rows pair e in
    sym (gives-rows (rows_of_sums sums) rows None pair u.1)

assigned-rows : (slot : ℕ) (value : Lin) (target rows : List Atom) (pair : Pair) → assigned_before slot value target ≡ gives rows pair →
    rows ≡ rows_of_sums (assigned_sums slot (total (lin_sum value)) target)
assigned-rows slot value target rows pair e =
    let sums = assigned_sums slot (total (lin_sum value)) target in
    let u = unless-none (first_wide (lin_sum value ∷ [])) (summed sums (λ atoms. gives atoms None)) rows pair e in
    summed-rows sums rows pair u.1

fits : (slot : ℕ) (atoms : List Atom) → IsTrue (are_terms atoms) → IsTrue (nat_lt slot max_slots) → FitsProjection (slot ∷ []) atoms
fits slot atoms t h = record {
  terms = t;
  numbers = All-cons (λ x. x < 2 ^ 32) slot [] (let l = ltb-true slot max_slots h in omega (arith, l)) (All-nil (λ x. x < 2 ^ 32));
}

pub preimages-hold : (edge : Edge) (target rows : List Atom) (pair : Pair) → is_call edge ≡ false →
    IsTrue (are_terms (asked_atoms edge target)) → preimage edge target ≡ gives rows pair → HoldsPredecessors edge target rows
preimages-hold (Entry to params) target rows pair c t e =
    entry-holds to params target rows (summed-rows (row_sums (entry_reading params) target) rows pair e)
preimages-hold (Assign from to slot value) target rows pair c t e =
    assign-holds from to slot value target rows (assigned-rows slot value target rows pair e)
preimages-hold (Guard from to more) target rows pair c t e =
    guard-holds from to 0 more target rows (sym (gives-rows (target ++ more.atoms) rows None pair e))
preimages-hold (Input from to slot) target rows pair c t e = λ f.
    let fit = fits slot target t f.slots in
    input-holds from to slot target rows (projections-terms (slot ∷ []) target rows pair fit e)
    (projections-keep (slot ∷ []) target rows pair e)
    (projections-name-none (slot ∷ []) target rows pair fit e) f
preimages-hold (Pick from to slot more) target rows pair c t e = λ f.
    let cube = target ++ more.atoms in
    let fit = fits slot cube t (both _ _ f.slots).0 in
    pick-holds from to slot more target cube rows refl (projections-terms (slot ∷ []) cube rows pair fit e)
    (projections-keep (slot ∷ []) cube rows pair e) (projections-name-none (slot ∷ []) cube rows pair fit e) f
preimages-hold (Call from to p args slot) target rows pair c t e = absurd (no_call c)
preimages-hold (Assert from to id more) target rows pair c t e =
    assert-holds from to id more target rows (sym (gives-rows (target ++ more.atoms) rows None pair e))
preimages-hold (Return from to slots) target rows pair c t e =
    return-holds from to slots target rows (summed-rows (row_sums (return_reading slots) target) rows pair e)

pub preimages-exact : (edge : Edge) (target rows : List Atom) → is_call edge ≡ false → IsTrue (are_terms (asked_atoms edge target)) →
    preimage edge target ≡ gives rows None → HoldsNoOther edge target rows
preimages-exact (Entry to params) target rows c t e =
    entry-exact to params target rows (summed-rows (row_sums (entry_reading params) target) rows None e)
preimages-exact (Assign from to slot value) target rows c t e =
    assign-exact from to slot value target rows (assigned-rows slot value target rows None e)
preimages-exact (Guard from to more) target rows c t e =
    guard-exact from to 0 more target rows (sym (gives-rows (target ++ more.atoms) rows None None e))
preimages-exact (Input from to slot) target rows c t e = λ f.
    input-exact from to slot target rows (projections-lose-none (slot ∷ []) target rows (fits slot target t f.slots) e) f
preimages-exact (Pick from to slot more) target rows c t e = λ f.
    let cube = target ++ more.atoms in
    pick-exact from to slot more target cube rows refl (projections-lose-none (slot ∷ []) cube rows (fits slot cube t (both _ _ f.slots).0)
    e)
    f
preimages-exact (Call from to p args slot) target rows c t e = absurd (no_call c)
preimages-exact (Assert from to id more) target rows c t e =
    assert-exact from to id more target rows (sym (gives-rows (target ++ more.atoms) rows None None e))
preimages-exact (Return from to slots) target rows c t e =
    return-exact from to slots target rows (summed-rows (row_sums (return_reading slots) target) rows None e)
