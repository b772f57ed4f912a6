-- Atoms renamed one after another.
use Rattle.std.proofs.Common.{◌≡◌, ℕ, ◌<◌, ◌≤◌, ◌+◌, Bool, true, false, cond, List, [], ◌∷◌, ◌++◌, length, drop, get_or, ℤ, pos, ◌==◌, nat_lt, Some, arith, refl, ◌∙◌, ap, sym, subst, append_assoc, append-nil, drop-cons, add-one}
use Rattle.std.specs.Prelude.{IsTrue, unwrap_or, ◌↔◌, ◌≤ℤ◌, if◌then◌else◌, Option}
use Rattle.std.specs.Ordering.{nat_cmp, is_eq}
use Rattle.std.specs.declared.cmp.Ordering.TheVariants.{Less, Equal, Greater}
use Rattle.std.proofs.lemmas.List.{drop_all}
use borrow.Author.Tests.{eqb-true, ltb-true, eqb_apart, eq-eqb, ne_eqb}
use Rattle.linear_formula.specs.declared.formula.Atom.{Atom}
use Rattle.linear_formula.specs.LinearSum.{LinearSum, is_within, is_term}
use Rattle.linear_formula.specs.Results.{with_part, renamed_column, renamed_parts, renamed_by, renamed_valuation}
use Rattle.linear_formula.specs.Formula.{HoldsAll, renamed_atoms, renamed_atoms_by, are_within}
use Rattle.linear_formula.proofs.Limits.{both, both_in, IsTerm-from_test, test-from_Within}
use Rattle.linear_formula.proofs.Values.{value-renamed_by}

-- the key that a look-up finds is the column itself
pub key_is : (x y : ℕ) → is_eq (nat_cmp x y) ≡ (y == x)
key_is x y = by_tests (nat_lt x y) (x == y) refl refl where
  by_tests : (b c : Bool) → nat_lt x y ≡ b → (x == y) ≡ c → is_eq (cond b Less (cond c Equal Greater)) ≡ (y == x)
  by_tests true c d e = sym (ne_eqb y x (λ f. omega (arith, ltb-true x y d, f)))
  by_tests false true d e = sym (eq-eqb y x (sym (eqb-true x y e)))
  by_tests false false d e = sym (ne_eqb y x (λ f. eqb_apart x y e (sym f)))

abbrev pub pair_at : List (ℕ × ℕ) → ℕ → ℕ × ℕ
pair_at map k = get_or map k (0, 0)

pub column-step : (map : List (ℕ × ℕ)) (k x : ℕ) (old new : Option ℕ) → k < length map → new ≡ cond (is_eq (nat_cmp (pair_at map k).0 x))
    (Some (pair_at map k).1) old → unwrap_or old x ≡ renamed_column (drop (k + 1) map) x → unwrap_or new x ≡ renamed_column (drop k map) x
column-step map k x old new h e i =
    let d : drop k map ≡ pair_at map k ∷ drop (k + 1) map = rw (add-one, drop-cons map k (0, 0)) refl in
    ap (λ o. unwrap_or o x) (e ∙ ap (λ b. cond b (Some (pair_at map k).1) old) (key_is (pair_at map k).0 x))
    ∙ by_test (x == (pair_at map k).0)
    ∙ sym (ap (λ l. renamed_column l x) d) where
      by_test : (b : Bool) → unwrap_or (cond b (Some (pair_at map k).1) old) x
          ≡ (if b then (pair_at map k).1 else renamed_column (drop (k + 1) map) x)
      by_test true = refl
      by_test false = i

-- equal new numbers give equal results
pub renamed_parts-same : (f g : ℕ → ℕ) (ps : List (ℕ × ℤ)) → ((x : ℕ) → f x ≡ g x) → renamed_parts f ps ≡ renamed_parts g ps
renamed_parts-same f g [] h = refl
renamed_parts-same f g (p ∷ ps) h =
    ap (with_part (f p.0) p.1) (renamed_parts-same f g ps h) ∙ ap (λ y. with_part y p.1 (renamed_parts g ps)) (h p.0)

term_same : (ps qs : List (ℕ × ℤ)) (c : ℤ) → ps ≡ qs → let s : LinearSum = record { parts = ps; constant = c } in
    let t : LinearSum = record { parts = qs; constant = c } in s ≡ t
term_same ps qs c e = cc

abbrev atom_of : LinearSum → Atom
atom_of t = record { term = t }

cons_atoms : (s t : LinearSum) (as_ bs : List Atom) → s ≡ t → as_ ≡ bs → atom_of s ∷ as_ ≡ atom_of t ∷ bs
cons_atoms s t as_ bs e d = ap (λ u. atom_of u ∷ as_) e ∙ ap (λ l. atom_of t ∷ l) d

pub renamed_atoms-same : (f g : ℕ → ℕ) (atoms : List Atom) → ((x : ℕ) → f x ≡ g x) → renamed_atoms_by f atoms ≡ renamed_atoms_by g atoms
renamed_atoms-same f g [] h = refl
renamed_atoms-same f g (atom ∷ atoms) h =
    cons_atoms (renamed_by f atom.term) (renamed_by g atom.term) (renamed_atoms_by f atoms) (renamed_atoms_by g atoms)
    (term_same (renamed_parts f atom.term.parts) (renamed_parts g atom.term.parts) atom.term.constant
    (renamed_parts-same f g atom.term.parts h))
    (renamed_atoms-same f g atoms h)

-- where renamed atoms hold
pub renamed_by-holds : (v : ℕ → ℤ) (f : ℕ → ℕ) (atoms : List Atom) → HoldsAll v (renamed_atoms_by f atoms) ↔ HoldsAll (λ x. v (f x)) atoms
renamed_by-holds v f [] = ((λ h. h), (λ h. h))
renamed_by-holds v f (atom ∷ atoms) =
    let e = value-renamed_by v f atom.term in
    let i = renamed_by-holds v f atoms in
    ((λ h. (subst (λ z. z ≤ℤ pos 0) e h.0, i.0 h.1)), (λ h. (subst (λ z. z ≤ℤ pos 0) (sym e) h.0, i.1 h.1)))

-- the law of a renamed cube
pub renamed-holds : (v : ℕ → ℤ) (map : List (ℕ × ℕ)) (atoms : List Atom) → HoldsAll v (renamed_atoms map atoms) ↔
    HoldsAll (renamed_valuation map v) atoms
renamed-holds v map atoms = renamed_by-holds v (renamed_column map) atoms

-- k atoms have been renamed
pub record Renaming (f : ℕ → ℕ) (atoms start out : List Atom) (k : ℕ) : Type 0 where
  pub items : out ++ renamed_atoms_by f (drop k atoms) ≡ start ++ renamed_atoms_by f atoms
  pub within : IsTrue (are_within start) → IsTrue (are_within out)
  pub rest : IsTrue (are_within (renamed_atoms_by f atoms)) → IsTrue (are_within (renamed_atoms_by f (drop k atoms)))

are_within-push : (out : List Atom) (t : LinearSum) → IsTrue (are_within out) → IsTrue (is_within t) →
    IsTrue (are_within (out ++ atom_of t ∷ []))
are_within-push [] t h k = both_in (is_within t) true k refl
are_within-push (a ∷ out) t h k =
    let hs = both (is_within a.term) (are_within out) h in
    both_in (is_within a.term) (are_within (out ++ atom_of t ∷ [])) hs.0 (are_within-push out t hs.1 k)

pub renaming-begins : (f : ℕ → ℕ) (atoms start : List Atom) → Renaming f atoms start start 0
renaming-begins f atoms start = record { items = refl; within = λ h. h; rest = λ h. h }

drop_atom : (atoms : List Atom) (k : ℕ) (a : Atom) → k < length atoms → a ≡ get_or atoms k a → drop k atoms ≡ a ∷ drop (k + 1) atoms
drop_atom atoms k a h e =
    let d : drop k atoms ≡ get_or atoms k a ∷ drop (k + 1) atoms = rw (add-one, drop-cons atoms k a) refl in
    d ∙ ap (λ z. z ∷ drop (k + 1) atoms) (sym e)

pub renaming-steps : (f : ℕ → ℕ) (atoms start out new : List Atom) (k : ℕ) (a : Atom) (t : LinearSum) → Renaming f atoms start out k →
    k < length atoms → a ≡ get_or atoms k a → t ≡ renamed_by f a.term → IsTrue (is_term t) → new ≡ out ++ atom_of t ∷ [] →
    Renaming f atoms start new (k + 1)
renaming-steps f atoms start out new k a t r h e et kept en =
    let d = drop_atom atoms k a h e in
    record {
      items = ap (λ l. l ++ renamed_atoms_by f (drop (k + 1) atoms)) en ∙ append_assoc out (atom_of t ∷ [])
          (renamed_atoms_by f (drop (k + 1) atoms)) ∙ ap (λ u. out ++ atom_of u ∷ renamed_atoms_by f (drop (k + 1) atoms)) et
          ∙ ap (λ l. out ++ renamed_atoms_by f l) (sym d) ∙ r.items;
      within = λ w. subst (λ l. IsTrue (are_within l)) (sym en)
          (are_within-push out t (r.within w) (test-from_Within t (IsTerm-from_test t kept).within));
      rest = λ w. (both (is_within (renamed_by f a.term)) (are_within (renamed_atoms_by f (drop (k + 1) atoms)))
          (subst (λ l. IsTrue (are_within (renamed_atoms_by f l))) d (r.rest w))).1;
    }

pub renaming-stops : (f : ℕ → ℕ) (atoms start out : List Atom) (k : ℕ) (a : Atom) → Renaming f atoms start out k → k < length atoms →
    a ≡ get_or atoms k a → ¬ IsTrue (is_within (renamed_by f a.term)) → ¬ IsTrue (are_within (renamed_atoms_by f atoms))
renaming-stops f atoms start out k a r h e n w =
    let d = drop_atom atoms k a h e in
    n (both (is_within (renamed_by f a.term)) (are_within (renamed_atoms_by f (drop (k + 1) atoms)))
    (subst (λ l. IsTrue (are_within (renamed_atoms_by f l))) d (r.rest w))).0

pub renaming-ends : (f : ℕ → ℕ) (atoms start out : List Atom) (k : ℕ) → Renaming f atoms start out k → length atoms ≤ k → out ≡ start
    ++ renamed_atoms_by f atoms
renaming-ends f atoms start out k r h =
    sym (append-nil out) ∙ ap (λ l. out ++ renamed_atoms_by f l) (sym (drop_all k atoms h)) ∙ r.items
