-- What names mean after entries, and that it agrees with the scopes.
use Rattle.std.proofs.Common.{◌≡◌, ℕ, ◌+◌, ◌≤◌, Bool, true, false, ◌==◌, ◌||◌, Bor, List, [], ◌∷◌, ◌++◌, length, Option, Some, None, IsSome, is_some, option_map, Result, Ok, Err, IsOk, OnOk, OnErr, refl, ap, sym, ◌∙◌, subst, arith, bytes_eq, if◌then◌else◌}
use Rattle.std.proofs.lemmas.Bool.Decides.{nat_tests}
use Rattle.std.proofs.lemmas.Slice.Eq.{bytes_eq-Decides}
use Rattle.std.proofs.lemmas.Map.Text.{hash_map_updates_str}
use Rattle.indexmap.specs.IndexMap.{IndexMap, UpdatesBy}
use Rattle.c_typing.specs.declared.scopes.Meaning.{Meaning}
use Rattle.c_typing.specs.declared.scopes.Entry.{Entry}
use Rattle.c_typing.specs.declared.scopes.Entry.TheVariants.{Opens, Declares}
use Rattle.c_typing.specs.Scope.{Scope, slot_of, with_variable, is_declared_here}
use Rattle.c_typing.specs.steps.Meanings.{nothing_known, with_meaning, depth_onto, meanings_onto, AreSaved, meaning_in, found_in, IsLinked}
use Rattle.c_typing.specs.steps.Tables.{scopes_onto}
use Rattle.c_typing.proofs.Tabled.{slot-variable, declared-variable}

pub depth-append : (d : ℕ) (xs ys : List Entry) → depth_onto d (xs ++ ys) ≡ depth_onto (depth_onto d xs) ys
depth-append d [] ys = refl
depth-append d (Opens ∷ xs) ys = depth-append (d + 1) xs ys
depth-append d (Declares x slot before ∷ xs) ys = depth-append d xs ys

pub meanings-append : (d : ℕ) (f : List ℕ → Option Meaning) (xs ys : List Entry) (x : List ℕ) → meanings_onto d f (xs ++ ys) x
    ≡ meanings_onto (depth_onto d xs) (meanings_onto d f xs) ys x
meanings-append d f [] ys z = refl
meanings-append d f (Opens ∷ xs) ys z = meanings-append (d + 1) f xs ys z
meanings-append d f (Declares x slot before ∷ xs) ys z = meanings-append d (with_meaning f x.now slot d) xs ys z

pub saved-join : (d : ℕ) (f : List ℕ → Option Meaning) (xs ys : List Entry) → AreSaved d f xs → AreSaved (depth_onto d xs)
    (meanings_onto d f xs) ys → AreSaved d f (xs ++ ys)
saved-join d f [] ys h k = k
saved-join d f (Opens ∷ xs) ys h k = saved-join (d + 1) f xs ys h k
saved-join d f (Declares x slot before ∷ xs) ys h k = (h.0, saved-join d (with_meaning f x.now slot d) xs ys h.1 k)

pub saved-split : (d : ℕ) (f : List ℕ → Option Meaning) (xs ys : List Entry) → AreSaved d f (xs ++ ys) → AreSaved d f xs
    × AreSaved (depth_onto d xs) (meanings_onto d f xs) ys
saved-split d f [] ys h = (cc, h)
saved-split d f (Opens ∷ xs) ys h = saved-split (d + 1) f xs ys h
saved-split d f (Declares x slot before ∷ xs) ys h = let rest = saved-split d (with_meaning f x.now slot d) xs ys h.1 in
    ((h.0, rest.0), rest.1)

pub depth-within : (d : ℕ) (es : List Entry) → depth_onto d es ≤ d + length es
depth-within d [] = omega arith
depth-within d (Opens ∷ es) = let h = depth-within (d + 1) es in omega arith
depth-within d (Declares x slot before ∷ es) = let h = depth-within d es in omega arith

-- whether a meaning was declared at this depth of scopes
abbrev pub is_here : ℕ → Option Meaning → Bool
is_here d None = false
is_here d (Some m) = m.depth == d

abbrev IsWithin : ℕ → Option Meaning → Type 0
IsWithin d None = Unit {0}
IsWithin d (Some m) = m.depth ≤ d

-- the meanings of names agree with the scopes
record Follows (d : ℕ) (f : List ℕ → Option Meaning) (ss : List Scope) : Type 0 where
  slots : (x : List ℕ) → option_map (λ m. m.slot) (f x) ≡ slot_of ss x
  here : (x : List ℕ) → is_here d (f x) ≡ is_declared_here ss x
  within : (x : List ℕ) → IsWithin d (f x)

not-here : (d : ℕ) (o : Option Meaning) → IsWithin d o → is_here (d + 1) o ≡ false
not-here d None h = refl
not-here d (Some m) h = grind (arith, nat_tests)

within-more : (d : ℕ) (o : Option Meaning) → IsWithin d o → IsWithin (d + 1) o
within-more d None h = h
within-more d (Some m) h = omega arith

follows-opens : (d : ℕ) (f : List ℕ → Option Meaning) (ss : List Scope) → Follows d f ss → Follows (d + 1) f ([] ∷ ss)
follows-opens d f ss h = record {
  slots = h.slots;
  here = λ x. not-here d (f x) (h.within x);
  within = λ x. within-more d (f x)
      (h.within x);
}

same-number : (d : ℕ) → (d == d) ≡ true
same-number d = grind (arith, nat_tests)

follows-declares : (d : ℕ) (f : List ℕ → Option Meaning) (ss : List Scope) (x : List ℕ) (slot : ℕ) → Follows d f ss →
    Follows d (with_meaning f x slot d) (with_variable ss x slot)
follows-declares d f ss x slot h = record {
  slots = λ y. slots_at y (bytes_eq x y) ∙ sym (slot-variable ss x slot y);
  here = λ y. here_at y (bytes_eq x y) ∙ sym (declared-variable ss x slot y);
  within = λ y. within_at y (bytes_eq x y);
}
  where
    slots_at : (y : List ℕ) (b : Bool) → option_map (λ m. m.slot) (if b then Some (record { slot = slot; depth = d }) else f y)
        ≡ (if b then Some slot else slot_of ss y)
    slots_at y true = refl
    slots_at y false = h.slots y

    here_at : (y : List ℕ) (b : Bool) → is_here d (if b then Some (record { slot = slot; depth = d }) else f y)
        ≡ (b || is_declared_here ss y)
    here_at y true = same-number d
    here_at y false = h.here y

    within_at : (y : List ℕ) (b : Bool) → IsWithin d (if b then Some (record { slot = slot; depth = d }) else f y)
    within_at y true = omega arith
    within_at y false = h.within y

follows-onto : (d : ℕ) (f : List ℕ → Option Meaning) (ss : List Scope) (es : List Entry) → Follows d f ss → Follows (depth_onto d es)
    (meanings_onto d f es) (scopes_onto ss es)
follows-onto d f ss [] h = h
follows-onto d f ss (Opens ∷ es) h = follows-onto (d + 1) f ([] ∷ ss) es (follows-opens d f ss h)
follows-onto d f ss (Declares x slot before ∷ es) h = follows-onto d (with_meaning f x.now slot d) (with_variable ss x.now slot) es
    (follows-declares d f ss x.now slot h)

follows-all : (es : List Entry) → Follows (depth_onto 0 es) (meanings_onto 0 nothing_known es) (scopes_onto [] es)
follows-all es = follows-onto 0 nothing_known [] es (record { slots = λ x. refl; here = λ x. refl; within = λ x. cc })

pub known_slot : (es : List Entry) (x : List ℕ) → option_map (λ m. m.slot) (meaning_in es x) ≡ slot_of (scopes_onto [] es) x
known_slot es x = (follows-all es).slots x

pub known_here : (es : List Entry) (x : List ℕ) → is_here (depth_onto 0 es) (meaning_in es x) ≡ is_declared_here (scopes_onto [] es) x
known_here es x = (follows-all es).here x

-- what the slot and the depth of a meaning say
pub slot_told : (es : List Entry) (x : List ℕ) (o : Option Meaning) (s : Option ℕ) → o ≡ meaning_in es x → s ≡ option_map (λ m. m.slot) o →
    s ≡ slot_of (scopes_onto [] es) x
slot_told es x o s is e = e ∙ ap (option_map (λ m. m.slot)) is ∙ known_slot es x

pub here_told : (es : List Entry) (x : List ℕ) (o : Option Meaning) (depth : ℕ) (b : Bool) → o ≡ meaning_in es x → depth ≡ depth_onto 0 es →
    b ≡ is_here depth o → b ≡ is_declared_here (scopes_onto [] es) x
here_told es x o depth b is deep e = e ∙ ap (λ d. is_here d o) deep ∙ ap (is_here (depth_onto 0 es)) is ∙ known_here es x

-- A map that keeps what names mean

pub must_succeed : {T E : Type 0} (r : Result T E) {P Q : Type 0} → OnOk r P → OnErr r Q → (Q → ⊥) → P
must_succeed (Ok t) h k n = h
must_succeed (Err e) h k n = absurd (n k)

pub when_ok : {T E : Type 0} (r : Result T E) {P : Type 0} → OnOk r P → IsOk r → P
when_ok (Ok t) h ok = h
when_ok (Err e) h ok = absurd cc

pub none_there : {T : Type 0} (o : Option T) → IsSome o → o ≡ None → ⊥
none_there None h e = absurd cc
none_there (Some t) h e = absurd cc

-- after a change at a name, that name has the new value, and each other one what it had
pub changed : {V S : Type 0} (bs : List ℕ) (m n : IndexMap (Bor (List ℕ)) V S) (w w' : Option V) →
    UpdatesBy (λ x y. bytes_eq x.now y.now) (λ k. bytes_eq bs k.now) m n w → w' ≡ w →
    (x : List ℕ) → found_in n x ≡ (if bytes_eq bs x then w' else found_in m x)
changed bs m n w w' h e x = hash_map_updates_str bs m n w h x ∙ sym (ap (λ v. if bytes_eq bs x then v else found_in m x) e)

pub same-bytes : (x : List ℕ) → bytes_eq x x ≡ true
same-bytes x = (bytes_eq-Decides x x).1 refl

pub are-same : (x y : List ℕ) → bytes_eq x y ≡ true → x ≡ y
are-same x y e = (bytes_eq-Decides x y).0 e

-- Takes of the last entry

pub opens_depth : (old new : List Entry) (e : Entry) → old ≡ new ++ e ∷ [] → e ≡ Opens → depth_onto 0 old ≡ depth_onto 0 new + 1
opens_depth old new e popped is = ap (depth_onto 0) (popped ∙ ap (λ x. new ++ x ∷ []) is) ∙ depth-append 0 new (Opens ∷ [])

pub opens_linked : {S : Type 0} (old new : List Entry) (e : Entry) (m : IndexMap (Bor (List ℕ)) Meaning S) → old ≡ new ++ e ∷ [] →
    e ≡ Opens → IsLinked old m → IsLinked new m
opens_linked old new e m popped is h =
    let k : IsLinked (new ++ Opens ∷ []) m = subst (λ es. IsLinked es m) (popped ∙ ap (λ x. new ++ x ∷ []) is) h in
    (λ x. k.0 x ∙ meanings-append 0 nothing_known new (Opens ∷ []) x, (saved-split 0 nothing_known new (Opens ∷ []) k.1).0)

pub declares_depth : (old new : List Entry) (e : Entry) (y : Bor (List ℕ)) (slot : ℕ) (before : Option Meaning) → old ≡ new ++ e ∷ [] →
    e ≡ Declares y slot before → depth_onto 0 old ≡ depth_onto 0 new
declares_depth old new e y slot before popped is = ap (depth_onto 0) (popped ∙ ap (λ x. new ++ x ∷ []) is) ∙ depth-append 0 new
    (Declares y slot before ∷ [])

module _ {S : Type 0} (old new : List Entry) (e : Entry) (y : Bor (List ℕ)) (slot : ℕ) (before : Option Meaning)
    (m : IndexMap (Bor (List ℕ)) Meaning S) where
  kept-here : old ≡ new ++ e ∷ [] → e ≡ Declares y slot before → IsLinked old m → (x : List ℕ) → found_in m x
      ≡ with_meaning (meaning_in new)
      y.now slot (depth_onto 0 new) x
  kept-here popped is h x = h.0 x ∙ ap (λ es. meaning_in es x) (popped ∙ ap (λ z. new ++ z ∷ []) is) ∙ meanings-append 0 nothing_known new
      (Declares y slot before ∷ []) x

  saved-here : old ≡ new ++ e ∷ [] → e ≡ Declares y slot before → IsLinked old m → AreSaved 0 nothing_known new
      × (before ≡ meaning_in new y.now)
  saved-here popped is h =
      let k : AreSaved 0 nothing_known (new ++ Declares y slot before ∷ []) = subst (AreSaved 0 nothing_known)
      (popped ∙ ap (λ x. new ++ x ∷ []) is) h.1 in
      let parts = saved-split 0 nothing_known new (Declares y slot before ∷ []) k in
      (parts.0, parts.1.0)

  pub declares_there : old ≡ new ++ e ∷ [] → e ≡ Declares y slot before → IsLinked old m → IsSome (found_in m y.now)
  declares_there popped is h =
      ap is_some (kept-here popped is h y.now)
      ∙ ap (λ b. is_some (if b then Some (record { slot = slot; depth = depth_onto 0 new }) else meaning_in new y.now)) (same-bytes y.now)

  pub declares_linked : (m' : IndexMap (Bor (List ℕ)) Meaning S) → old ≡ new ++ e ∷ [] → e ≡ Declares y slot before → IsLinked old m →
      ((x : List ℕ) → found_in m' x ≡ (if bytes_eq y.now x then before else found_in m x)) → IsLinked new m'
  declares_linked m' popped is h restored = (λ x. restored x ∙ go x (bytes_eq y.now x) refl, (saved-here popped is h).0)
    where
      go : (x : List ℕ) (b : Bool) → bytes_eq y.now x ≡ b → (if b then before else found_in m x) ≡ meaning_in new x
      go x true same = (saved-here popped is h).1 ∙ ap (meaning_in new) (are-same y.now x same)
      go x false other = kept-here popped is h x ∙ ap (λ b. if b then Some (record { slot = slot; depth = depth_onto 0 new }) else
          meaning_in
          new x) other

-- A new entry

pub opened_linked : {S : Type 0} (old new : List Entry) (m : IndexMap (Bor (List ℕ)) Meaning S) → new ≡ old ++ Opens ∷ [] →
    IsLinked old m → IsLinked new m
opened_linked old new m pushed h =
    let k : IsLinked (old ++ Opens ∷ []) m = (
      λ x. h.0 x ∙ sym (meanings-append 0 nothing_known old (Opens ∷ []) x),
      saved-join 0 nothing_known old (Opens ∷ []) h.1 cc,
    ) in
    subst (λ es. IsLinked es m) (sym pushed) k

pub declared_linked : {S : Type 0} (old new : List Entry) (y : Bor (List ℕ)) (slot depth : ℕ) (before : Option Meaning)
    (m m1 : IndexMap (Bor (List ℕ)) Meaning S) → new ≡ old ++ Declares y slot before ∷ [] → before ≡ meaning_in old y.now →
    depth ≡ depth_onto 0 old →
    IsLinked old m → UpdatesBy (λ x y. bytes_eq x.now y.now) (λ k. bytes_eq y.now k.now) m m1
    (Some (record { slot = slot; depth = depth })) → IsLinked new m1
declared_linked old new y slot depth before m m1 pushed saved deep h updates = subst (λ es. IsLinked es m1) (sym pushed)
    (known, saved-join 0 nothing_known old (Declares y slot before ∷ []) h.1 (saved, cc))
  where
    known : (x : List ℕ) → found_in m1 x ≡ meaning_in (old ++ Declares y slot before ∷ []) x
    known x =
        changed y.now m m1 (Some (record { slot = slot; depth = depth })) (Some (record { slot = slot; depth = depth })) updates refl x
        ∙ ap (λ o. if bytes_eq y.now x then Some (record { slot = slot; depth = depth }) else o) (h.0 x)
        ∙ ap (λ d. if bytes_eq y.now x then Some (record { slot = slot; depth = d }) else meaning_in old x) deep
        ∙ sym (meanings-append 0 nothing_known old (Declares y slot before ∷ []) x)
