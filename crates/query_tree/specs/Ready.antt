-- The list of the queries that may be Ready.
use Rattle.std.specs.Prelude.{◌≡◌, ℕ, ◌+◌, ◌<◌, ◌≤◌, List, length, Bool, true, Option, Some, slice_get, count_by}
use Rattle.std.specs.List.{Contains}
use Rattle.query_tree.specs.declared.Status.TheVariants.{Ready}
use Rattle.query_tree.specs.declared.Entry.{Entry}

-- the numbers, and for each query whether it was marked
pub record Listed : Type 0 where
  pub ids : List ℕ
  pub marks : List Bool
  pub room : ℕ

abbrev pub is_set : Bool → Bool
is_set b = b

abbrev pub IsMarked : Listed → ℕ → Type 0
IsMarked r i = slice_get r.marks i ≡ Some true

-- what is marked is in the list, which is no longer than the marks
pub record IsListed (r : Listed) (for_ids for_marks : ℕ) : Type 0 where
  pub listed : (i : ℕ) → IsMarked r i → Contains r.ids i
  pub inside : (i : ℕ) → Contains r.ids i → i < length r.marks
  pub few : length r.ids ≤ count_by is_set r.marks
  pub within : length r.marks ≤ r.room
  pub ids_room : r.room ≤ for_ids
  pub marks_room : r.room ≤ for_marks

-- what was marked is marked, and so is this query
pub record Notes (r s : Listed) (id : ℕ) : Type 0 where
  pub room : s.room ≡ r.room
  pub size : length s.marks ≡ length r.marks
  pub keeps : (i : ℕ) → IsMarked r i → IsMarked s i
  pub own : IsMarked s id

-- the same of a query that is there, if any
pub record NotesAbove (r s : Listed) (parent : Option ℕ) : Type 0 where
  pub room : s.room ≡ r.room
  pub size : length s.marks ≡ length r.marks
  pub keeps : (i : ℕ) → IsMarked r i → IsMarked s i
  pub above : (p : ℕ) → parent ≡ Some p → IsMarked s p

-- the same of a query and of the one above it
pub record NotesJob (r s : Listed) (id : ℕ) (parent : Option ℕ) : Type 0 where
  pub room : s.room ≡ r.room
  pub size : length s.marks ≡ length r.marks
  pub keeps : (i : ℕ) → IsMarked r i → IsMarked s i
  pub own : IsMarked s id
  pub above : (p : ℕ) → parent ≡ Some p → IsMarked s p

-- the same with a new query
pub record Grows (r s : Listed) (id : ℕ) : Type 0 where
  pub room : s.room ≡ r.room
  pub size : length s.marks ≡ length r.marks + 1
  pub keeps : (i : ℕ) → IsMarked r i → IsMarked s i
  pub own : IsMarked s id

-- this query alone may have lost its mark
pub record Loses (r s : Listed) (id : ℕ) : Type 0 where
  pub room : s.room ≡ r.room
  pub size : length s.marks ≡ length r.marks
  pub here : id < length r.marks
  pub keeps : (i : ℕ) → (i ≡ id → ⊥) → IsMarked r i → IsMarked s i

-- no query is marked
pub record HasNone (r : Listed) : Type 0 where
  pub none : (i : ℕ) → IsMarked r i → ⊥

module _ {T : Type 0} where
  -- each query has a place for a mark, and each Ready one is marked
  pub record Covers (es : List (Entry T)) (r : Listed) : Type 0 where
    pub size : length r.marks ≡ length es
    pub marked : (i : ℕ) (e : Entry T) → slice_get es i ≡ Some e → e.status ≡ Ready → IsMarked r i

  -- the same but for one query
  pub record CoversOthers (es : List (Entry T)) (r : Listed) (id : ℕ) : Type 0 where
    pub size : length r.marks ≡ length es
    pub marked : (i : ℕ) (e : Entry T) → slice_get es i ≡ Some e → e.status ≡ Ready →
        (i ≡ id → ⊥) → IsMarked r i
