-- Small facts about tests, lists of faults and scopes.
use Rattle.std.proofs.Common.{◌≡◌, ℕ, ◌+◌, ◌<◌, ◌≤◌, Bool, true, false, ◌==◌, ◌&&◌, ◌||◌, not as not_bool, List, [], ◌∷◌, ◌++◌, length, Option, Some, None, refl, ap, sym, ◌∙◌, arith, bytes_eq, codes, ◌⊎◌, inl, inr, if◌then◌else◌}
use Rattle.std.proofs.lemmas.Bool.Decides.{nat_tests}
use Rattle.std.proofs.lemmas.Slice.Eq.{bytes_eq-Decides}
use Rattle.c_tree.specs.declared.tree.Pos.{Pos}
use Rattle.c_tree.specs.SourceTree.{Identifier, ProcedureTree}
use Rattle.c_typing.specs.declared.fault.TypeFault.{TypeFault}
use Rattle.c_typing.specs.Scope.{Scope, slot_of, slot_in, or_outer, with_variable, with_names, Callee, input, assume, assert, defined, unknown, callee_of, defined_from, is_input, is_assume, is_assert, if_assert}
use Rattle.c_typing.specs.Faults.{Fault, fault_if}

pub no_fault : (b : Bool) (f : TypeFault) (p : Pos) → fault_if b f p ≡ [] → b ≡ false
no_fault true f p e = absurd cc
no_fault false f p e = refl

pub nil_both : (xs ys : List Fault) → xs ++ ys ≡ [] → (xs ≡ []) × (ys ≡ [])
nil_both [] ys e = (refl, e)
nil_both (x ∷ xs) ys e = absurd cc

pub both : (a b : Bool) → a ≡ true → b ≡ true → (a && b) ≡ true
both true b p q = q
both false b p q = p

pub both_true : (a b : Bool) → (a && b) ≡ true → (a ≡ true) × (b ≡ true)
both_true true b e = (refl, e)
both_true false b e = absurd cc

pub or_false : (a b : Bool) → (a || b) ≡ false → (a ≡ false) × (b ≡ false)
or_false true b e = absurd cc
or_false false b e = (refl, e)

pub and_false : (a b : Bool) → (a && b) ≡ false → a ≡ true → b ≡ false
and_false true b e h = e
and_false false b e h = absurd cc

pub not_false : (b : Bool) → not_bool b ≡ false → b ≡ true
not_false true e = refl
not_false false e = absurd cc

pub false_not : (b : Bool) → b ≡ false → not_bool b ≡ true
false_not true e = absurd cc
false_not false e = refl

pub eqb-same : (a b : ℕ) → (a == b) ≡ true → a ≡ b
eqb-same a b e = grind (arith, nat_tests)

-- each variable in scope has a slot below
pub record Below (ss : List Scope) (slots : ℕ) : Type 0 where
  pub below : (x : List ℕ) (s : ℕ) → slot_of ss x ≡ Some s → s < slots

pub below-push : (ss : List Scope) (n : ℕ) → Below ss n → Below ([] ∷ ss) n
below-push ss n h = record { below = h.below }

added : (b : Bool) (slot s : ℕ) (i o : Option ℕ) → or_outer (if b then Some slot else i) o ≡ Some s → (slot ≡ s) ⊎ (or_outer i o ≡ Some s)
added true slot s i o e = inl cc
added false slot s i o e = inr e

below-variable : (ss : List Scope) (n : ℕ) (x : List ℕ) (slot : ℕ) → Below ss n → slot < n → Below (with_variable ss x slot) n
below-variable [] n x slot h less = record {
  below = λ y s e. elim (added (bytes_eq x y) slot s None None e) [
    | inl same ↦ omega arith
    | inr old ↦ absurd cc
  ];
}
below-variable (t ∷ ts) n x slot h less = record {
  below = λ y s e. elim (added (bytes_eq x y) slot s (slot_in t y) (slot_of ts y) e) [
    | inl
        same ↦ omega arith
    | inr old ↦ h.below y s old
  ];
}

pub below-names : (ss : List Scope) (n slot : ℕ) (ns : List Identifier) → Below ss n → slot + length ns ≤ n → Below (with_names ss slot ns)
    n
below-names ss n slot [] h room = h
below-names ss n slot (x ∷ ns) h room = below-names (with_variable ss x.name slot) n (slot + 1) ns
    (below-variable ss n x.name slot h (omega arith)) (omega arith)

pub below-one : (ss : List Scope) (n slot : ℕ) (x : List ℕ) → Below ss n → slot < n → Below (with_variable ss x slot) n
below-one ss n slot x h less = below-variable ss n x slot h less

abbrev pub asserts_at : Callee → Identifier → List Pos
asserts_at assert n = n.at ∷ []
asserts_at input n = []
asserts_at assume n = []
asserts_at (defined number params void) n = []
asserts_at unknown n = []

from_defined : (i : ℕ) (ps : List ProcedureTree) (n : Identifier) → asserts_at (defined_from i ps n.name) n ≡ []
from_defined i [] n = refl
from_defined i (p ∷ ps) n = go (bytes_eq p.named.name n.name) (from_defined (i + 1) ps n)
  where
    go : (b : Bool) → asserts_at (defined_from (i + 1) ps n.name) n ≡ [] →
        asserts_at (if b then defined i (length p.params) p.void else defined_from (i + 1) ps n.name) n ≡ []
    go true h = refl
    go false h = h

input-no_assert : (x : List ℕ) → is_input x ≡ true → is_assert x ≡ false
input-no_assert x e = rw ((bytes_eq-Decides x (codes "input")).0 e) refl

assume-no_assert : (x : List ℕ) → is_assume x ≡ true → is_assert x ≡ false
assume-no_assert x e = rw ((bytes_eq-Decides x (codes "assume")).0 e) refl

-- an assertion stands where `assert` is called
pub asserts_at-callee : (ps : List ProcedureTree) (n : Identifier) → if_assert n ≡ asserts_at (callee_of ps n.name) n
asserts_at-callee ps n = go (is_input n.name) (is_assume n.name) (is_assert n.name) (input-no_assert n.name) (assume-no_assert n.name) refl
  where
    go : (a b d : Bool) → (a ≡ true → is_assert n.name ≡ false) → (b ≡ true → is_assert n.name ≡ false) → is_assert n.name ≡ d →
        (if d then (n.at ∷ []) else [])
        ≡ asserts_at (if a then input else (if b then assume else (if d then assert else defined_from 0 ps n.name)))
        n
    go true b d p q e = ap (λ c. if c then (n.at ∷ []) else []) (sym e ∙ p refl)
    go false true d p q e = ap (λ c. if c then (n.at ∷ []) else []) (sym e ∙ q refl)
    go false false true p q e = refl
    go false false false p q e = sym (from_defined 0 ps n)
