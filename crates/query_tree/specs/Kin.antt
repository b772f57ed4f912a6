-- The children of each query, from the latest to the first.
use Rattle.std.specs.Prelude.{◌≡◌, ℕ, zero, suc, ◌+◌, ◌≤◌, ◌<◌, List, length, cond, Option, Some, None, slice_get}
use Rattle.query_tree.specs.declared.Entry.{Entry}
use Rattle.query_tree.specs.Forest.{is_place, parent_of}

-- of each query its latest child, and its parent's child next before it; and what a walk has still
-- to go to
pub record Kin : Type 0 where
  pub latest : List (Option ℕ)
  pub older : List (Option ℕ)
  pub work : List ℕ
  pub room : ℕ

pub record HasRoom (room for_latest for_older for_work : ℕ) : Type 0 where
  pub latest : room ≤ for_latest
  pub older : room ≤ for_older
  pub work : room ≤ for_work

abbrev pub with_work : Kin → List ℕ → Kin
with_work r ps = record { latest = r.latest; older = r.older; work = ps; room = r.room }

-- a new query, which has no child and is the latest of its parent, if it has one
pub record Joins (r s : Kin) (parent : Option ℕ) : Type 0 where
  pub room : s.room ≡ r.room
  pub latest_size : length s.latest ≡ length r.latest + 1
  pub older_size : length s.older ≡ length r.older + 1
  pub own : slice_get s.latest (length r.latest) ≡ Some None
  pub latest : (p : ℕ) (o : Option ℕ) → p < length r.latest → slice_get s.latest p ≡ Some o →
      cond (is_place parent p) (o ≡ Some (length r.latest)) (slice_get r.latest p ≡ Some o)
  pub older : (k : ℕ) (o : Option ℕ) → k < length r.older → slice_get s.older k ≡ Some o →
      slice_get r.older k ≡ Some o
  pub next : (p : ℕ) (o : Option ℕ) → parent ≡ Some p → slice_get s.older (length r.older)
      ≡ Some o → slice_get r.latest p ≡ Some o

module _ {T : Type 0} where
  -- the greatest place below n of a child of p
  abbrev pub child_below : List (Entry T) → ℕ → ℕ → Option ℕ
  child_below es p zero = None
  child_below es p (suc n) =
      cond (is_place (parent_of (slice_get es n)) p) (Some n) (child_below es p n)

  pub record Links (es : List (Entry T)) (r : Kin) : Type 0 where
    pub latest_size : length r.latest ≡ length es
    pub older_size : length r.older ≡ length es
    pub latest : (p : ℕ) (o : Option ℕ) → slice_get r.latest p ≡ Some o →
        o ≡ child_below es p (length es)
    pub older : (k : ℕ) (o : Option ℕ) (e : Entry T) (p : ℕ) → slice_get r.older k ≡ Some o →
        slice_get es k ≡ Some e → e.parent ≡ Some p → o ≡ child_below es p k
