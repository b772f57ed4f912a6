-- The list of the queries that may be Ready, as it is written.
use Rattle.std.proofs.Common.{◌≡◌, ℕ, zero, suc, ◌+◌, ◌<◌, ◌≤◌, List, [], ◌∷◌, ◌++◌, length, Bool, true, false, cond, Some, refl, sym, ap, ◌∙◌, subst, ⊎_elim, arith}
use Rattle.std.specs.Prelude.{slice_get, slice_set, get_or, count_by}
use Rattle.std.specs.List.{Contains}
use Rattle.std.proofs.lemmas.Bool.{cases_eq}
use Rattle.std.proofs.lemmas.List.{length_push}
use Rattle.std.proofs.lemmas.List.Elements.{Contains-push, Contains-push_cases, Contains-append_left}
use Rattle.std.proofs.lemmas.List.Sums.{sum_by-set, sum_by_push, count_by-le-length}
use Rattle.std.proofs.lemmas.Option.{slice_get-get_or}
use Rattle.query_tree.specs.Ready.{Listed, IsListed, IsMarked, is_set, Grows, Notes, Loses}
use Rattle.query_tree.proofs.Lists.{from_pushed, to_pushed}

-- A write to one place
pub get_other : {X : Type 0} (xs : List X) (i j : ℕ) (v : X) → (j ≡ i → ⊥) → slice_get (slice_set xs i v) j ≡ slice_get xs j
get_other [] i j v d = refl
get_other (x ∷ xs) zero zero v d = absurd (d refl)
get_other (x ∷ xs) zero (suc j) v d = refl
get_other (x ∷ xs) (suc i) zero v d = refl
get_other (x ∷ xs) (suc i) (suc j) v d = get_other xs i j v (λ e. d (ap suc e))

pub get_same : {X : Type 0} (xs : List X) (i : ℕ) (v : X) → i < length xs → slice_get (slice_set xs i v) i ≡ Some v
get_same [] i v lt = absurd (omega arith)
get_same (x ∷ xs) zero v lt = refl
get_same (x ∷ xs) (suc i) v lt = get_same xs i v (omega arith)

pub length_write : {X : Type 0} (xs : List X) (i : ℕ) (v : X) → length (slice_set xs i v) ≡ length xs
length_write [] i v = refl
length_write (x ∷ xs) zero v = refl
length_write (x ∷ xs) (suc i) v = ap suc (length_write xs i v)

pub get_pushed : {X : Type 0} (xs : List X) (x : X) → slice_get (xs ++ x ∷ []) (length xs) ≡ Some x
get_pushed [] x = refl
get_pushed (y ∷ xs) x = get_pushed xs x

-- a mark counts at most one
one_at_most : (b : Bool) → cond {A = ℕ} b 1 0 ≤ 1
one_at_most true = omega arith
one_at_most false = omega arith

one_off : (b : Bool) → b ≡ false → cond {A = ℕ} b 1 0 ≡ 0
one_off true h = absurd (cc)
one_off false h = refl

-- a mark more is one more
count_on : (ms : List Bool) (i : ℕ) → i < length ms → get_or ms i false ≡ false → count_by is_set (slice_set ms i true) ≡ count_by is_set ms
    + 1
count_on ms i lt off =
    let e = sum_by-set (λ b. cond (is_set b) 1 0) ms i true false lt in
    omega (arith, e, one_off (get_or ms i false) off)

count_off : (ms : List Bool) (i : ℕ) → i < length ms → count_by is_set ms ≤ count_by is_set (slice_set ms i false) + 1
count_off ms i lt =
    let e = sum_by-set (λ b. cond (is_set b) 1 0) ms i false false lt in
    omega (arith, e, one_at_most (get_or ms i false))

count_added : (ms : List Bool) → count_by is_set (ms ++ true ∷ []) ≡ count_by is_set ms + 1
count_added ms = sum_by_push (λ b. cond (is_set b) 1 0) ms true

-- where some query isn't marked, there are fewer marks than queries
pub count_room : (ms : List Bool) (i : ℕ) → i < length ms → get_or ms i false ≡ false → count_by is_set ms < length ms
count_room ms i lt off = omega (
  arith,
  count_on ms i lt off,
  count_by-le-length is_set (slice_set ms i true),
  length_write ms i true,
)

abbrev pub listed_of : List ℕ → List Bool → ℕ → Listed
listed_of ids ms room = record { ids = ids; marks = ms; room = room }

pub marked_keeps : (ms : List Bool) (i j : ℕ) → i < length ms → slice_get ms j ≡ Some true → slice_get (slice_set ms i true) j ≡ Some true
marked_keeps ms i j lt h = ⊎_elim (λ e. rw e (get_same ms i true lt)) (λ d. get_other ms i j true d ∙ h) (cases_eq j i)

pub listed_note : (ids : List ℕ) (ms : List Bool) (room a b c id : ℕ) → id < length ms → get_or ms id false ≡ false → a ≤ c →
    IsListed (listed_of ids ms room) a b → IsListed (listed_of (ids ++ id ∷ []) (slice_set ms id true) room) c b
listed_note ids ms room a b c id lt off more h = record {
  listed = λ i m. ⊎_elim
      (λ e. subst (Contains (ids ++ id ∷ [])) (sym e) (Contains-push ids id))
      (λ d. Contains-append_left ids (id ∷ []) i (h.listed i (sym (get_other ms id i true d) ∙ m)))
      (cases_eq i id);
  inside = λ i k. ⊎_elim
      (λ k. omega (arith, h.inside i k, length_write ms id true))
      (λ e. omega (arith, e, length_write ms id true))
      (Contains-push_cases ids id i k);
  few = omega (arith, h.few, length_push ids id, count_on ms id lt off);
  within = omega (arith, h.within, length_write ms id true);
  ids_room = omega (arith, h.ids_room);
  marks_room = h.marks_room;
}

pub listed_add : (ids : List ℕ) (ms : List Bool) (room a b c d id : ℕ) → id ≡ length ms → length ms < room → a ≤ c → b ≤ d →
    IsListed (listed_of ids ms room) a b → IsListed (listed_of (ids ++ id ∷ []) (ms ++ true ∷ []) room) c d
listed_add ids ms room a b c d id next lt more more2 h = record {
  listed = λ i m. ⊎_elim
      (λ k. Contains-append_left ids (id ∷ []) i (h.listed i k))
      (λ k. subst (Contains (ids ++ id ∷ [])) (next ∙ sym k.0) (Contains-push ids id))
      (from_pushed ms true i true m);
  inside = λ i k. ⊎_elim
      (λ k. omega (arith, h.inside i k, length_push ms true))
      (λ e. omega (arith, e, next, length_push ms true))
      (Contains-push_cases ids id i k);
  few = omega (arith, h.few, length_push ids id, count_added ms);
  within = omega (arith, lt, length_push ms true);
  ids_room = omega (arith, h.ids_room);
  marks_room = omega (arith, h.marks_room);
}

pub listed_pop : (ids jds : List ℕ) (ms : List Bool) (room a b id : ℕ) → ids ≡ jds ++ id ∷ [] → IsListed (listed_of ids ms room) a b →
    (id < length ms) × IsListed (listed_of jds (slice_set ms id false) room) a b
listed_pop ids jds ms room a b id e h =
    let here : id < length ms = h.inside id (subst (λ xs. Contains xs id) (sym e) (Contains-push jds id)) in (
      here,
      record {
        listed = λ i m. ⊎_elim
            (λ q. let z : Some false ≡ Some true = sym (get_same ms id false here) ∙ subst (λ k. slice_get (slice_set ms id false) k
            ≡ Some true) q m in absurd (cc))
            (λ d. ⊎_elim (λ k. k) (λ q. absurd (d (sym q)))
            (Contains-push_cases jds id i (subst (λ xs. Contains xs i) e (h.listed i (sym (get_other ms id i false d) ∙ m)))))
            (cases_eq i id);
        inside = λ i k. omega (
          arith,
          h.inside i (subst (λ xs. Contains xs i) (sym e) (Contains-append_left jds (id ∷ []) i k)),
          length_write ms id false,
        );
        few = omega (arith, h.few, ap length e, length_push jds id, count_off ms id here);
        within = omega (arith, h.within, length_write ms id false);
        ids_room = h.ids_room;
        marks_room = h.marks_room;
      },
    )

-- What each call of the list makes of it
pub grows_of : (ids jds : List ℕ) (ms : List Bool) (room id : ℕ) → id ≡ length ms →
    Grows (listed_of ids ms room) (listed_of jds (ms ++ true ∷ []) room) id
grows_of ids jds ms room id next = record {
  room = refl;
  size = length_push ms true;
  keeps = λ i m. to_pushed ms true i true m;
  own = rw next (get_pushed ms true);
}

pub notes_of : (ids jds : List ℕ) (ms : List Bool) (room id : ℕ) → id < length ms →
    Notes (listed_of ids ms room) (listed_of jds (slice_set ms id true) room) id
notes_of ids jds ms room id lt = record {
  room = refl;
  size = length_write ms id true;
  keeps = λ i m. marked_keeps ms id i lt m;
  own = get_same ms id true lt;
}

pub notes_none : (r : Listed) (id : ℕ) → IsMarked r id → Notes r r id
notes_none r id m = record { room = refl; size = refl; keeps = λ i k. k; own = m }

pub loses_of : (ids jds : List ℕ) (ms : List Bool) (room id : ℕ) → id < length ms →
    Loses (listed_of ids ms room) (listed_of jds (slice_set ms id false) room) id
loses_of ids jds ms room id lt = record {
  room = refl;
  size = length_write ms id false;
  here = lt;
  keeps = λ i d m. get_other ms id i false d ∙ m;
}

-- a mark that is read
pub off_of : (ms : List Bool) (i : ℕ) (b : Bool) → b ≡ get_or ms i b → b ≡ false → get_or ms i false ≡ false
off_of ms i true e h = absurd (cc)
off_of ms i false e h = sym e

pub on_of : (ms : List Bool) (i : ℕ) (b : Bool) → i < length ms → b ≡ get_or ms i b → b ≡ true → slice_get ms i ≡ Some true
on_of ms i true lt e h = slice_get-get_or ms i true lt ∙ ap Some (sym e)
on_of ms i false lt e h = absurd (cc)

-- of what is seen as the list before
pub grows_seen : (r v s : Listed) (id : ℕ) → r ≡ v → Grows r s id → Grows v s id
grows_seen r v s id e h = subst (λ x. Grows x s id) e h

pub notes_seen : (r v s : Listed) (id : ℕ) → r ≡ v → Notes r s id → Notes v s id
notes_seen r v s id e h = subst (λ x. Notes x s id) e h

pub loses_seen : (r v s : Listed) (id : ℕ) → r ≡ v → Loses r s id → Loses v s id
loses_seen r v s id e h = subst (λ x. Loses x s id) e h
