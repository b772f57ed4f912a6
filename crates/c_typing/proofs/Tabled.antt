-- The scopes and procedures of the code, step by step.
use Rattle.std.proofs.Common.{◌≡◌, ℕ, true, false, ◌||◌, Bor, List, [], ◌∷◌, ◌++◌, length, take, Option, Some, None, is_some, refl, ap, sym, ◌∙◌, bytes_eq, if◌then◌else◌}
use Rattle.c_typing.specs.declared.scopes.Entry.{Entry}
use Rattle.c_typing.specs.declared.scopes.Entry.TheVariants.{Opens, Declares}
use Rattle.c_typing.specs.Scope.{Scope, slot_of, slot_in, or_outer, with_variable, is_declared_here}
use Rattle.c_typing.specs.steps.Tables.{scopes_onto, outer_of}
use Rattle.c_typing.specs.declared.scopes.Meaning.{Meaning}

pub scopes_onto-append : (ss : List Scope) (xs ys : List Entry) → scopes_onto ss (xs ++ ys) ≡ scopes_onto (scopes_onto ss xs) ys
scopes_onto-append ss [] ys = refl
scopes_onto-append ss (Opens ∷ xs) ys = scopes_onto-append ([] ∷ ss) xs ys
scopes_onto-append ss (Declares x slot before ∷ xs) ys = scopes_onto-append (with_variable ss x.now slot) xs ys

pub slot-variable : (ss : List Scope) (y : List ℕ) (slot : ℕ) (x : List ℕ) → slot_of (with_variable ss y slot) x
    ≡ (if bytes_eq y x then Some slot else slot_of ss x)
slot-variable [] y slot x = elim (bytes_eq y x) as (λ b. or_outer (if b then Some slot else None) None
    ≡ (if b then Some slot else None)) [ true ↦ refl | false ↦ refl ]
slot-variable (t ∷ ts) y slot x =
    elim (bytes_eq y x) as (λ b. or_outer (if b then Some slot else slot_in t x) (slot_of ts x)
    ≡ (if b then Some slot else or_outer (slot_in t x) (slot_of ts x))) [ true ↦ refl | false ↦ refl ]

pub declared-variable : (ss : List Scope) (y : List ℕ) (slot : ℕ) (x : List ℕ) → is_declared_here (with_variable ss y slot) x
    ≡ (bytes_eq y x || is_declared_here ss x)
declared-variable [] y slot x = elim (bytes_eq y x) as (λ b. is_some (if b then Some slot else None) ≡ (b || false)) [
  | true ↦ refl
  | false ↦
      refl
]
declared-variable (t ∷ ts) y slot x = elim (bytes_eq y x) as (λ b. is_some (if b then Some slot else slot_in t x)
    ≡ (b || is_some (slot_in t x))) [ true ↦ refl | false ↦ refl ]

pub outer-variable : (ss : List Scope) (x : List ℕ) (slot : ℕ) → outer_of (with_variable ss x slot) ≡ outer_of ss
outer-variable [] x slot = refl
outer-variable (s ∷ ss) x slot = refl

-- the last entry leaves
pub close_opens : (old new : List Entry) (e : Entry) → old ≡ new ++ e ∷ [] → e ≡ Opens → scopes_onto [] new ≡ outer_of (scopes_onto [] old)
close_opens old new e popped is = sym (ap (λ r. outer_of (scopes_onto [] r)) (popped ∙ ap (λ x. new ++ x ∷ []) is)
    ∙ ap outer_of (scopes_onto-append [] new (Opens ∷ [])))

pub close_declares : (old new : List Entry) (e : Entry) (y : Bor (List ℕ)) (slot : ℕ) (before : Option Meaning) → old ≡ new ++ e ∷ [] →
    e ≡ Declares y slot before → outer_of (scopes_onto [] new) ≡ outer_of (scopes_onto [] old)
close_declares old new e y slot before popped is =
    sym (ap (λ r. outer_of (scopes_onto [] r)) (popped ∙ ap (λ x. new ++ x ∷ []) is)
    ∙ ap outer_of (scopes_onto-append [] new (Declares y slot before ∷ [])) ∙ outer-variable (scopes_onto [] new) y.now slot)

-- entries that came after others, and their way back

pub longer-still : (a b c : List Entry) → take (length a) b ≡ a → take (length b) c ≡ b → take (length a) c ≡ a
longer-still [] b c h k = refl
longer-still (x ∷ a) [] c h k = absurd cc
longer-still (x ∷ a) (y ∷ b) [] h k = absurd cc
longer-still (x ∷ a) (y ∷ b) (z ∷ c) h k =
    let rest : take (length a) c ≡ a = longer-still a b c (ap rest_of h) (ap rest_of k) in
    let first : z ≡ x = ap (first_or z) k ∙ ap (first_or z) h in
    ap (λ r. z ∷ r) rest ∙ ap (λ e. e ∷ a) first
  where
    rest_of : List Entry → List Entry
    rest_of [] = []
    rest_of (e ∷ es) = es

    first_or : Entry → List Entry → Entry
    first_or d [] = d
    first_or d (e ∷ es) = e

pub back_again : (old mid new : List Entry) (mark : ℕ) → mark ≡ length old → take (length old) mid ≡ old → new ≡ take mark mid →
    scopes_onto [] new ≡ scopes_onto [] old
back_again old mid new mark is longer back = ap (scopes_onto []) (back ∙ ap (λ k. take k mid) is ∙ longer)
