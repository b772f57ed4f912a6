-- As what a query is closed, and what its close makes of the slots.
use Rattle.std.specs.Prelude.{◌≡◌, ◌≤◌, ℕ, List, [], ◌∷◌, ◌++◌, length, map, filter, Bool, false, cond, ◌&&◌, ◌||◌, ◌==◌, nat_lt, Option, Some, None, slice_get}
use Rattle.std.specs.Global.{Global}
use Rattle.std.specs.Option.{option_map}
use Rattle.std.specs.declared.sync.Arc.{Arc}
use Rattle.query_tree.specs.Forest.{changed, is_none, is_place}
use Rattle.summary_form.specs.declared.query.Query.{Query}
use Rattle.summary_form.specs.declared.summary.Summary.{Summary}
use Rattle.summary_form.specs.declared.summary.Summary.TheVariants as summary
use Rattle.query_rules.specs.declared.step.Closing.{Closing}
use Rattle.query_rules.specs.declared.step.Closing.TheVariants as closing
use Rattle.summary_table.specs.Tables.{IsNumbered, exit_of, proc_of}
use Rattle.bolt_core.specs.declared.slot.ClosedAs.{ClosedAs}
use Rattle.bolt_core.specs.declared.slot.ClosedAs.TheVariants as how
use Rattle.bolt_core.specs.declared.slot.Slot.{Slot}
use Rattle.bolt_core.specs.Boards.{node_of}
use Rattle.bolt_core.specs.Groups.{Node, discharged, group, is_member, leads, leans_within, level_in, places_from, publishes, queries_at}
use Rattle.bolt_core.specs.Keeps.{AreLevelled}

abbrev pub closed_as : (level : ℕ) → Option ℕ → Closing → ClosedAs
closed_as level low closing.NotMay = how.NotMay (discharged level low)
closed_as level low (closing.Must p) = how.Must
closed_as level low (closing.Stuck kind) = how.Stuck kind

-- One slot

abbrev pub kept_slot : ClosedAs → Option (Arc Summary Global) → Slot → Slot
kept_slot how summary s = record s { closed = Some how; summary = summary }

abbrev pub shown_slot : (place : ℕ) → Slot → Slot
shown_slot place s = record s { summary = None; published = Some place }

abbrev pub only_at : ℕ → (Slot → Slot) → ℕ → Slot → Slot
only_at i f k s = cond (k == i) (f s) s

abbrev pub summaries_in : Option Summary → List Summary
summaries_in None = []
summaries_in (Some s) = s ∷ []

abbrev pub value_of : Option (Arc Summary Global) → Option Summary
value_of o = option_map (λ a. a.value) o

-- a table takes it
abbrev pub MayBeAdded : Option Summary → Type 0
MayBeAdded o = (s : Summary) → o ≡ Some s → IsNumbered (proc_of s) (exit_of s)

-- Which slots join

-- it was published at this place
abbrev pub is_shown : (place : ℕ) → Option Slot → Bool
is_shown place None = false
is_shown place (Some s) = is_place s.published place

abbrev pub is_below : List Slot → (place : ℕ) → Option ℕ → Bool
is_below ss place None = false
is_below ss place (Some p) = is_shown place (slice_get ss p)

-- it joins the group that is published at this place, whose leader is of level l
abbrev pub joins_now : List Slot → (l at place : ℕ) → Slot → Bool
joins_now ss l at place s =
    (s.level == at)
    && (is_none s.published && (leans_within l s.closed && is_below ss place s.parent))

-- Groups

abbrev pub on_level : List Node → (lead l at : ℕ) → ℕ → Bool
on_level ns lead l at i = (level_in (slice_get ns i) == at) && is_member ns lead l i

abbrev pub members_on : List Node → (lead l at : ℕ) → List ℕ
members_on ns lead l at = filter (on_level ns lead l at) (places_from 0 (length ns))

abbrev pub told_of : List Node → List ℕ → List Summary
told_of ns is = map summary.NotMay (queries_at ns is)

-- Where the levels of the group before `at` are published, and of this level the numbers before k
abbrev pub is_done : List Node → (lead l at k : ℕ) → ℕ → Slot → Bool
is_done ns lead l at k j s =
    is_member ns lead l j && (nat_lt s.level at || ((s.level == at) && nat_lt j k))

abbrev pub lead_slot : (place : ℕ) → Slot → Slot
lead_slot place s = record s {
  closed = Some (how.NotMay None);
  summary = None;
  published = Some place;
}

abbrev pub done_slot : List Node → (lead l at k place : ℕ) → ℕ → Slot → Slot
done_slot ns lead l at k place j s =
    cond (j == lead) (lead_slot place s) (cond (is_done ns lead l at k j s) (shown_slot place s) s)

abbrev pub done : List Slot → (lead l at k place : ℕ) → List Slot
done base lead l at k place = changed (done_slot (map node_of base) lead l at k place) base

-- the slots before a close of the leader, at this place
pub record IsGroupOf (base : List Slot) (lead l place : ℕ) : Type 0 where
  pub levelled : AreLevelled (map node_of base)
  pub own : Slot
  pub at : slice_get base lead ≡ Some own
  pub level : own.level ≡ l
  pub fresh : (i : ℕ) (s : Slot) → slice_get base i ≡ Some s → is_place s.published place ≡ false
  pub handed : (i : ℕ) (s : Slot) → slice_get base i ≡ Some s → (low : Option ℕ) →
      s.closed ≡ Some (how.NotMay low) → s.published ≡ None →
      value_of s.summary ≡ Some (summary.NotMay s.query.value)
  pub numbered : (i : ℕ) (s : Slot) → slice_get base i ≡ Some s →
      IsNumbered s.query.value.proc s.query.value.exit

-- Closes

abbrev pub settled_slot : List Node → (i l : ℕ) → ClosedAs → Option (Arc Summary Global) →
    (place : ℕ) → ℕ → Slot → Slot
settled_slot ns i l how summary place k s =
    cond (k == i)
    (cond (publishes how) (shown_slot place (kept_slot how summary s)) (kept_slot how summary s))
    (cond (leads how && is_member ns i l k) (shown_slot place s) s)

abbrev pub appended_by : List Node → (i l : ℕ) → Query → ClosedAs → Option Summary → List Summary
appended_by ns i l q (how.NotMay None) s = map summary.NotMay (q ∷ queries_at ns (group ns i l))
appended_by ns i l q (how.NotMay (Some j)) s = []
appended_by ns i l q how.Must s = summaries_in s
appended_by ns i l q (how.Stuck kind) s = []

-- a not-may hands in that of its query, and a must some summary
pub record HandsInFor (q : Query) (shut : ClosedAs) (s : Option Summary) : Type 0 where
  pub not_may : (low : Option ℕ) → shut ≡ how.NotMay low → s ≡ Some (summary.NotMay q)
  pub must : shut ≡ how.Must → (m : Summary) × (s ≡ Some m)

-- what the close hands in, that a table takes it, and that there is room for what it appends
pub record Settles (base : List Slot) (i l : ℕ) (shut : ClosedAs) (s : Option Summary)
    (table : List Summary) (room : ℕ) : Type 0 where
  pub hands : (own : Slot) → slice_get base i ≡ Some own → HandsInFor own.query.value shut s
  pub fits : (own : Slot) → slice_get base i ≡ Some own →
      length (table ++ appended_by (map node_of base) i l own.query.value shut s) ≤ room
  pub numbered : MayBeAdded s
