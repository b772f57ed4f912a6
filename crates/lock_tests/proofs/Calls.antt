-- What a seat added stays at its places.
use Rattle.std.proofs.Common.{◌≡◌, ℕ, zero, suc, ◌+◌, ◌-◌, ◌<◌, ◌≤◌, List, [], ◌∷◌, ◌++◌, length, map, Option, Some, refl, sym, ap, ◌∙◌, ⊎_elim, arith, length-append, append_assoc, subst}
use Rattle.std.specs.Prelude.{slice_get, Bool, true, cond}
use Rattle.std.proofs.lemmas.Bool.{eq-eqb, cases_lt}
use Rattle.std.proofs.lemmas.List.{map-append}
use Rattle.board_lock.specs.Views.{StartsWith, AreOwn, times, added, places_from}
use Rattle.lock_tests.specs.Calls.{events_at}

get_before : {E : Type 0} (xs ys : List E) (p : ℕ) → p < length xs → slice_get (xs ++ ys) p ≡ slice_get xs p
get_before [] ys p lt = absurd (omega (arith, lt))
get_before (x ∷ xs) ys zero lt = refl
get_before (x ∷ xs) ys (suc p) lt = get_before xs ys p (omega (arith, lt))

get_next : {E : Type 0} (xs ys : List E) (x : E) → slice_get (xs ++ x ∷ ys) (length xs) ≡ Some x
get_next [] ys x = refl
get_next (z ∷ xs) ys x = get_next xs ys x

-- after a history h stand the events xs, at the places after it
events_added : {E : Type 0} (h xs : List E) → events_at (h ++ xs) (places_from (length h) (length xs)) ≡ map (λ (x : E). Some x) xs
events_added h [] = refl
events_added {E} h (x ∷ xs) =
    let longer : (h ++ x ∷ []) ++ xs ≡ h ++ x ∷ xs = append_assoc h (x ∷ []) xs in
    let long : length (h ++ x ∷ []) ≡ suc (length h) = omega (arith, length-append h (x ∷ [])) in
    let there : events_at (h ++ x ∷ xs) (places_from (suc (length h)) (length xs)) ≡ map (λ (y : E). Some y) xs =
    subst (λ (ys : List E). events_at ys (places_from (suc (length h)) (length xs)) ≡ map (λ (y : E). Some y) xs) longer
    (subst (λ (n : ℕ). events_at ((h ++ x ∷ []) ++ xs) (places_from n (length xs)) ≡ map (λ (y : E). Some y) xs) long
    (events_added (h ++ x ∷ []) xs)) in
    rw (get_next h xs x, there) refl

is_below : {E : Type 0} (seen : List E) (p : ℕ) (ps : List ℕ) → ((q : ℕ) → length seen ≤ q → times q (p ∷ ps) ≡ 0) → p < length seen
is_below seen p ps below = ⊎_elim (λ lt. lt) (λ (past : length seen ≤ p). absurd (omega (arith, ap (λ (n : ℕ). n) (below p past), one)))
    (cases_lt p (length seen))
  where
    one : 1 ≤ times p (p ∷ ps)
    one = rw (eq-eqb p p refl) (omega arith)

-- a longer history has the same events at places of the shorter one
pub events_stay : {E : Type 0} (seen h : List E) (ps : List ℕ) → StartsWith h seen → ((q : ℕ) → length seen ≤ q → times q ps ≡ 0)
    → events_at h ps ≡ events_at seen ps
events_stay seen h [] begins below = refl
events_stay {E} seen h (p ∷ ps) begins below =
    let here : slice_get h p ≡ slice_get seen p = ap (λ (xs : List E). slice_get xs p) begins.is ∙ get_before seen begins.rest p
    (is_below seen p ps below) in
    let there = events_stay seen h ps begins (λ q past. omega (arith, below q past)) in
    rw (here, there) refl

-- the events of a seat, where a turn added these to the history
pub own_added : {E : Type 0} (seen h xs : List E) (ps : List ℕ) → AreOwn seen ps → StartsWith h seen
    → events_at (h ++ xs) (ps ++ added h (h ++ xs)) ≡ events_at seen ps ++ map (λ (x : E). Some x) xs
own_added {E} seen h xs ps own begins =
    let more : length (h ++ xs) - length h ≡ length xs = omega (arith, length-append h xs) in
    let longer : StartsWith (h ++ xs) seen = record {
      rest = begins.rest ++ xs;
      is = ap (λ (ys : List E). ys ++ xs) begins.is
          ∙ append_assoc seen begins.rest xs;
    } in
    map-append (λ p. slice_get (h ++ xs) p) ps (added h (h ++ xs)) ∙ rw (
      more,
      events_stay seen (h ++ xs) ps longer own.below,
      events_added h xs,
    ) refl

-- one place more
pub places_snoc : (p n : ℕ) → places_from p (suc n) ≡ places_from p n ++ (p + n) ∷ []
places_snoc p zero = ap (λ q. q ∷ []) (omega arith)
places_snoc p (suc n) = ap (λ qs. p ∷ qs) (places_snoc (suc p) n ∙ ap (λ q. places_from (suc p) n ++ q ∷ []) (omega arith))

-- a turn that added the next number
pub own_next : (a b c : List (Option ℕ)) (p n : ℕ) (r : Bool) → r ≡ true → b ≡ a ++ map (λ (m : ℕ). Some m) (places_from p n)
    → c ≡ b ++ map (λ (m : ℕ). Some m) (cond r ((p + n) ∷ []) []) → c ≡ a ++ map (λ (m : ℕ). Some m) (places_from p (n + 1))
own_next a b c p n r added before after =
    let one : n + 1 ≡ suc n = omega arith in
    let some : List ℕ → List (Option ℕ) = map (λ (m : ℕ). Some m) in
    after ∙ rw (added, before, one) (append_assoc a (some (places_from p n)) (Some (p + n) ∷ [])
    ∙ ap (λ (xs : List (Option ℕ)). a ++ xs) (sym (map-append (λ (m : ℕ). Some m) (places_from p n) ((p + n) ∷ []))
    ∙ ap some (sym (places_snoc p n))))
