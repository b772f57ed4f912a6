-- What a seat knows: histories that begin with others, places, and the views that a seat may have.
use Rattle.std.specs.Prelude.{◌≡◌, ℕ, zero, suc, ◌+◌, ◌-◌, ◌≤◌, List, [], ◌∷◌, ◌++◌, length, true, false, cond, ◌==◌, nat_le, Option, Some, None}
use Rattle.board_lock.specs.declared.view.View.{View}

-- Histories

-- the history ys begins with xs
pub record StartsWith {E : Type 0} (ys xs : List E) : Type 0 where
  pub rest : List E
  pub is : ys ≡ xs ++ rest

-- it begins with each of these
abbrev pub StartsWithAll : {E : Type 0} → List E → List (List E) → Type 0
StartsWithAll ys [] = Unit {0}
StartsWithAll ys (xs ∷ xss) = StartsWith ys xs × StartsWithAll ys xss

-- Places

-- how often a place stands in a list
abbrev pub times : ℕ → List ℕ → ℕ
times p [] = 0
times p (q ∷ qs) = cond (p == q) 1 0 + times p qs

-- how often it stands in the places of all views
abbrev pub times_in_all : {P E : Type 0} → ℕ → List (View P E) → ℕ
times_in_all p [] = 0
times_in_all p (v ∷ vs) = times p v.places + times_in_all p vs

-- n places, from the place p on
abbrev pub places_from : ℕ → ℕ → List ℕ
places_from p zero = []
places_from p (suc n) = p ∷ places_from (suc p) n

-- the places of the history h after what was seen
abbrev pub added : {E : Type 0} → List E → List E → List ℕ
added seen h = places_from (length seen) (length h - length seen)

-- each is a place of this history, and stands there once
pub record AreOwn {E : Type 0} (seen : List E) (places : List ℕ) : Type 0 where
  pub below : (p : ℕ) → length seen ≤ p → times p places ≡ 0
  pub once : (p : ℕ) → times p places ≤ 1

-- Views

-- a seat with the turn, and one without it
abbrev pub holding : {P E : Type 0} → Option P → List E → List ℕ → View P E
holding q h ps = record { program = q; turn = true; seen = h; heard = []; places = ps }

abbrev pub resting : {P E : Type 0} → Option P → List E → List (List E) → List ℕ → View P E
resting q h hs ps = record { program = q; turn = false; seen = h; heard = hs; places = ps }

-- a seat that was split off: the same program and seen, and no places
abbrev pub newcomer : {P E : Type 0} → View P E → View P E
newcomer v = record v { places = [] }

-- two seats that were joined: the longer seen, with the other one heard of, and the places of both
abbrev pub joined : {P E : Type 0} → View P E → View P E → View P E
joined v w = cond (nat_le (length v.seen) (length w.seen))
    (record w { heard = v.seen ∷ (v.heard ++ w.heard); places = v.places ++ w.places })
    (record v { heard = w.seen ∷ (v.heard ++ w.heard); places = v.places ++ w.places })

-- the view of a seat that a join has spent
abbrev pub spent : {P E : Type 0} → View P E
spent = resting None [] [] []

-- a view has this program; a spent one has none, and is excepted
abbrev pub IsProgram : {P : Type 0} → Option P → P → Type 0
IsProgram None q = Unit {0}
IsProgram (Some p) q = p ≡ q
