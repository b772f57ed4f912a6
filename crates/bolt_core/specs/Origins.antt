-- Of which query each summary of a table is: the fold of a history.
use Rattle.std.specs.Prelude.{◌≡◌, ℕ, suc, ◌+◌, ◌≤◌, List, [], ◌∷◌, ◌++◌, length, map, false, None, Some, slice_get}
use Rattle.query_tree.specs.Forest.{changed}
use Rattle.summary_form.specs.declared.query.Query.{Query}
use Rattle.bolt_core.specs.declared.slot.ClosedAs.{ClosedAs}
use Rattle.bolt_core.specs.declared.slot.ClosedAs.TheVariants as how
use Rattle.bolt_core.specs.Boards.{Shown, most_queries, root_query}
use Rattle.bolt_core.specs.Groups.{Node, closed_at, group, level_in, places_from, publishes}
use Rattle.bolt_core.specs.Histories.{Told, asked, closed, said}

-- the root of an assertion before the first event, and those of the first assertions
abbrev pub root_node : (main id : ℕ) → Node
root_node main id = record {
  parent = None;
  level = 0;
  query = root_query main id;
  closed = None;
  published = false;
}

abbrev pub root_nodes : (main asserts : ℕ) → List Node
root_nodes main asserts = map (root_node main) (places_from 0 asserts)

abbrev pub asked_node : List Node → (i : ℕ) → Query → Node
asked_node ns i q = record {
  parent = Some i;
  level = suc (level_in (slice_get ns i));
  query = q;
  closed = None;
  published = false;
}

-- what an event makes of the queries
abbrev pub nodes_after : List Node → Told → List Node
nodes_after ns (asked w i n c q) = ns ++ asked_node ns i q ∷ []
nodes_after ns (closed w i n shut ss) =
    changed (closed_at ns i shut (publishes shut) (level_in (slice_get ns i))) ns
nodes_after ns _ = ns

-- The queries whose summaries a close of query i, of level l, appends, in order: a not-may that
-- leans on nothing with the members of its group.
abbrev pub closed_ids : List Node → (i l : ℕ) → ClosedAs → List ℕ
closed_ids ns i l (how.NotMay None) = i ∷ group ns i l
closed_ids ns i l (how.NotMay (Some j)) = []
closed_ids ns i l how.Must = i ∷ []
closed_ids ns i l (how.Stuck kind) = []

-- the queries whose summaries the event appends, in order
abbrev pub ids_of : List Node → Told → List ℕ
ids_of ns (closed w i n shut ss) = closed_ids ns i (level_in (slice_get ns i)) shut
ids_of ns (said w i s) = i ∷ []
ids_of ns _ = []

-- and those of a history, from these queries on
abbrev pub origins_from : List Node → List Told → List ℕ
origins_from ns [] = []
origins_from ns (e ∷ es) = ids_of ns e ++ origins_from (nodes_after ns e) es

-- the query of each summary that is after the opening table, in order
abbrev pub origins_of : Shown → List ℕ
origins_of b = origins_from (root_nodes b.main b.asserts) b.core.history

-- the list has the query of each summary after the opening table, and room for all that may come
pub record HasTraced (b : Shown) (ids : List ℕ) (room : ℕ) : Type 0 where
  pub are : ids ≡ origins_of b
  pub count : length b.core.kept + length ids ≡ length b.core.table
  pub fits : most_queries b ≤ room
