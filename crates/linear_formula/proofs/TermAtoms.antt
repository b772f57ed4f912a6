-- Atoms that are terms.
use Rattle.std.proofs.Common.{true, List, [], ◌∷◌, ◌++◌, refl}
use Rattle.std.specs.Prelude.{IsTrue}
use Rattle.linear_formula.specs.declared.formula.Atom.{Atom}
use Rattle.linear_formula.specs.LinearSum.{is_term}
use Rattle.linear_formula.specs.Formula.{are_terms}
use Rattle.linear_formula.proofs.Limits.{both, both_in}

pub are_terms-append : (as_ bs : List Atom) → IsTrue (are_terms as_) → IsTrue (are_terms bs) → IsTrue (are_terms (as_ ++ bs))
are_terms-append [] bs h k = k
are_terms-append (a ∷ as_) bs h k =
    let hs = both (is_term a.term) (are_terms as_) h in
    both_in (is_term a.term) (are_terms (as_ ++ bs)) hs.0 (are_terms-append as_ bs hs.1 k)

pub are_terms-push : (atoms : List Atom) (a : Atom) → IsTrue (are_terms atoms) → IsTrue (is_term a.term) →
    IsTrue (are_terms (atoms ++ a ∷ []))
are_terms-push atoms a h k = are_terms-append atoms (a ∷ []) h (both_in (is_term a.term) true k refl)

-- the atoms of each part of a list are terms
pub are_terms-parts : (as_ bs : List Atom) → IsTrue (are_terms (as_ ++ bs)) → IsTrue (are_terms as_) × IsTrue (are_terms bs)
are_terms-parts [] bs h = (refl, h)
are_terms-parts (a ∷ as_) bs h =
    let hs = both (is_term a.term) (are_terms (as_ ++ bs)) h in
    let ks = are_terms-parts as_ bs hs.1 in
    (both_in (is_term a.term) (are_terms as_) hs.0 ks.0, ks.1)
