-- What a board keeps of its queries, and the group of not-mays that a close publishes.
use Rattle.std.specs.Prelude.{ℕ, zero, suc, List, [], ◌∷◌, ◌++◌, length, filter, flat_map, Bool, true, false, cond, ◌&&◌, ◌||◌, not, ◌==◌, nat_le, Option, Some, None, slice_get}
use Rattle.query_tree.specs.Forest.{is_none, is_place}
use Rattle.summary_form.specs.declared.query.Query.{Query}
use Rattle.bolt_core.specs.declared.slot.ClosedAs.{ClosedAs}
use Rattle.bolt_core.specs.declared.slot.ClosedAs.TheVariants as how

pub record Node : Type 0 where
  pub parent : Option ℕ
  pub level : ℕ
  pub query : Query
  pub closed : Option ClosedAs
  -- its not-may, or its must, is in the table
  pub published : Bool

-- a not-may that leans on this level, or on a deeper one
abbrev pub leans_within : ℕ → Option ClosedAs → Bool
leans_within l None = false
leans_within l (Some (how.NotMay None)) = false
leans_within l (Some (how.NotMay (Some j))) = nat_le l j
leans_within l (Some how.Must) = false
leans_within l (Some (how.Stuck kind)) = false

-- a leaning on its own level is discharged
abbrev pub discharged : ℕ → Option ℕ → Option ℕ
discharged level None = None
discharged level (Some j) = cond (j == level) None (Some j)

abbrev pub passes : (ℕ → Bool) → Option ℕ → Bool
passes f None = false
passes f (Some p) = f p

abbrev pub places_from : ℕ → ℕ → List ℕ
places_from k zero = []
places_from k (suc n) = k ∷ places_from (suc k) n

-- the queries from the root down to a node's, by those down to its parent's
abbrev pub line_above : (ℕ → List Query) → Option ℕ → List Query
line_above f None = []
line_above f (Some p) = f p

abbrev pub line_at : (ℕ → List Query) → Option Node → List Query
line_at f None = []
line_at f (Some n) = line_above f n.parent ++ n.query ∷ []

abbrev pub line_upto : List Node → ℕ → ℕ → List Query
line_upto ns zero i = []
line_upto ns (suc n) i = line_at (line_upto ns n) (slice_get ns i)

-- a parent stands before its child, so as many as there are places up to i are enough
abbrev pub line : List Node → ℕ → List Query
line ns i = line_upto ns (suc i) i

-- the queries above a node's, by its parent
abbrev pub ancestors : List Node → ℕ → Option ℕ → List Query
ancestors ns i o = line_above (line_upto ns i) o

-- The group of a leader, which is of level l: closed as a not-may, not published yet, leaning on
-- level l or on a deeper one, and its parent is the leader or is in the group.
abbrev pub joins : (lead l : ℕ) → (ℕ → Bool) → Option Node → Bool
joins lead l above None = false
joins lead l above (Some n) =
    not n.published &&
    (leans_within l n.closed && (is_place n.parent lead || passes above n.parent))

abbrev pub is_member_upto : List Node → (lead l : ℕ) → ℕ → ℕ → Bool
is_member_upto ns lead l zero i = false
is_member_upto ns lead l (suc n) i = joins lead l (is_member_upto ns lead l n) (slice_get ns i)

abbrev pub is_member : List Node → (lead l : ℕ) → ℕ → Bool
is_member ns lead l i = is_member_upto ns lead l (suc i) i

abbrev pub level_in : Option Node → ℕ
level_in None = 0
level_in (Some n) = n.level

-- its members in order of level, and at one level of number
abbrev pub group : List Node → (lead l : ℕ) → List ℕ
group ns lead l =
    flat_map (λ k. filter (λ i. (level_in (slice_get ns i) == k) && is_member ns lead l i)
    (places_from 0 (length ns)))
    (places_from (suc l) (length ns))

-- a not-may that leans on nothing
abbrev pub leads : ClosedAs → Bool
leads (how.NotMay None) = true
leads (how.NotMay (Some j)) = false
leads how.Must = false
leads (how.Stuck kind) = false

-- its summary is published by its close
abbrev pub publishes : ClosedAs → Bool
publishes (how.NotMay low) = is_none low
publishes how.Must = true
publishes (how.Stuck kind) = false

-- What a node becomes where query i, of level l, closes; `shown` says that its summary is published
-- by that, and the group of a not-may that leans on nothing is published with it.
abbrev pub closed_at : List Node → (i : ℕ) → ClosedAs → (shown : Bool) → (l : ℕ) → ℕ → Node → Node
closed_at ns i how shown l k n =
    cond (k == i) (record n { closed = Some how; published = shown })
    (cond (leads how && is_member ns i l k) (record n { published = true }) n)

abbrev pub query_in : Option Node → List Query
query_in None = []
query_in (Some n) = n.query ∷ []

abbrev pub queries_at : List Node → List ℕ → List Query
queries_at ns is = flat_map (λ i. query_in (slice_get ns i)) is
