-- Tests that compute what a graph keeps.
use Rattle.std.specs.Prelude.{ℕ, Bool, drop, true, false, not, ◌&&◌, ◌==◌, nat_lt, nat_le, List, length, Option, None, Some, slice_get}
use Rattle.std.specs.List.{list_all}
use Rattle.flow_graph.specs.declared.graph.Edge.{Edge}
use Rattle.flow_graph.specs.declared.graph.Edge.TheVariants.{Call}
use Rattle.flow_graph.specs.declared.graph.Graph.{Graph}
use Rattle.flow_graph.specs.Linked.{takes}
use Rattle.flow_graph.specs.Shapes.{source, target, is_entry, is_assert, is_return, leads}
use Rattle.flow_graph.specs.WellFormed.{has_lists, has_slots, has_terms, is_entry_of, first_node, max_slots}

abbrev pub are_same : Bool → Bool → Bool
are_same true b = b
are_same false b = not b

-- an edge may leave the node
abbrev pub is_node_left : (nodes exit fail : ℕ) → Option ℕ → Bool
is_node_left nodes exit fail None = true
is_node_left nodes exit fail (Some n) = nat_lt n nodes && (not (n == exit) && not (n == fail))

-- a return leads to the exit and nothing else does, and an assertion to `fail`
abbrev pub has_ends : (exit fail : ℕ) → Edge → Bool
has_ends exit fail e =
    are_same (is_return e) (target e == exit) && are_same (is_assert e) (target e == fail)

-- what an edge keeps
abbrev pub is_edge : (nodes exit fail exits slots : ℕ) → Edge → Bool
is_edge nodes exit fail exits slots e =
    is_node_left nodes exit fail (source e)
    && (nat_lt (target e) nodes && (has_slots slots e
    && (has_terms e && (has_lists exits e && has_ends exit fail e))))

-- an edge after the entry, which leads to the first node
abbrev pub is_later : (fail first : ℕ) → Edge → Bool
is_later fail first e = not (is_entry e) && not (leads fail e first)

-- the ends, the lists and the slots
abbrev pub is_frame : (nodes exit fail params exits slots : ℕ) → Bool
is_frame nodes exit fail params exits slots =
    nat_lt fail nodes && (nat_le params slots && (nat_le exits max_slots && nat_le slots max_slots))

-- what the edge calls is there, with as many values
abbrev pub is_linked : List Graph → Edge → Bool
is_linked gs (Call from to proc args results) =
    takes (slice_get gs proc) (length args) (length results)
is_linked gs _ = true

-- edges one after another, with the exit 0 and the failure 1
abbrev pub is_graph : (nodes params exits slots : ℕ) → List Edge → Bool
is_graph nodes params exits slots edges =
    is_entry_of params (slice_get edges 0)
    && (is_frame nodes 0 1 params exits slots
    && (list_all (is_edge nodes 0 1 exits slots) edges
    && list_all (is_later 1 (first_node edges)) (drop 1 edges)))
