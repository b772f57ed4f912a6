-- The origins of a table are the fold of the board's history.
use Rattle.std.proofs.Common.{◌≡◌, ℕ, suc, ◌+◌, List, [], ◌∷◌, ◌++◌, length, map, true, false, Option, Some, None, refl, sym, ap, ◌∙◌, subst, arith}
use Rattle.std.specs.Prelude.{slice_get}
use Rattle.std.proofs.lemmas.List.{append-nil, append_assoc, length-append}
use Rattle.flow_graph.specs.declared.graph.Graph.{Graph}
use Rattle.query_tree.specs.Forest.{after_root, changed}
use Rattle.query_rules.specs.Seen.{Seen}
use Rattle.summary_form.specs.declared.query.Query.{Query}
use Rattle.summary_form.specs.declared.summary.Summary.{Summary}
use Rattle.summary_form.specs.declared.summary.Summary.TheVariants as summary
use Rattle.bolt_core.specs.declared.slot.ClosedAs.{ClosedAs}
use Rattle.bolt_core.specs.declared.slot.ClosedAs.TheVariants as how
use Rattle.bolt_core.specs.Boards.{AreRootsOf, IsBoard, Shown}
use Rattle.bolt_core.specs.Groups.{Node, closed_at, group, is_member, level_in, places_from, publishes, queries_at, query_in}
use Rattle.bolt_core.specs.Histories.{Told, asked, closed, fed, parked, said, stopped, took}
use Rattle.bolt_core.specs.Machine.{AllOf, Core, Event, Reached, Reads, first_board, node_of_root, opening}
use Rattle.bolt_core.specs.Origins.{HasTraced, closed_ids, ids_of, nodes_after, origins_from, origins_of, root_node, root_nodes}
use Rattle.bolt_core.specs.States.{reads}
use Rattle.bolt_core.specs.steps.Closes.{HandsInFor, appended_by, summaries_in}
use Rattle.bolt_core.proofs.Going.{GoesOn}
use Rattle.bolt_core.proofs.Groups.{member_joins}
use Rattle.bolt_core.proofs.Reserve.{event_history, event_kept}
use Rattle.bolt_core.proofs.Shutting.{shows_is}
use Rattle.bolt_core.proofs.Truths.{all_in_group}

-- Folds

abbrev pub nodes_all : List Node → List Told → List Node
nodes_all ns [] = ns
nodes_all ns (e ∷ es) = nodes_all (nodes_after ns e) es

pub origins_push : (ns : List Node) (es : List Told) (e : Told) →
    origins_from ns (es ++ e ∷ []) ≡ origins_from ns es ++ ids_of (nodes_all ns es) e
origins_push ns [] e = append-nil (ids_of ns e)
origins_push ns (x ∷ es) e =
    ap (λ is. ids_of ns x ++ is) (origins_push (nodes_after ns x) es e)
    ∙ sym (append_assoc (ids_of ns x) (origins_from (nodes_after ns x) es) (ids_of (nodes_all (nodes_after ns x) es) e))

-- Along a run

module _ {S : Type 0} (R : Reads S) where
  pub event_nodes : (old new : Core S) (e : Told) → Event R old e new → new.nodes ≡ nodes_after old.nodes e
  event_nodes old new (took w i left steps waiting) t = ap (λ (c : Core S). c.nodes) t.new_is
  event_nodes old new (said w i s) t = ap (λ (c : Core S). c.nodes) t.new_is
  event_nodes old new (asked w i n c q) t =
      let own : slice_get old.nodes i ≡ Some t.sound.node = subst (λ j. slice_get old.nodes j ≡ Some t.sound.node) t.id t.sound.node_at in
      let level : t.sound.node.level ≡ level_in (slice_get old.nodes i) = ap level_in (sym own) in
      ap (λ (c : Core S). c.nodes) t.new_is
      ∙ ap (λ l. old.nodes ++ record { parent = Some i; level = suc l; query = q; closed = None; published = false } ∷ []) level
  event_nodes old new (fed w i n c) t = ap (λ (c : Core S). c.nodes) t.new_is
  event_nodes old new (parked w i n r) t = ap (λ (c : Core S). c.nodes) t.new_is
  event_nodes old new (closed w i n shut ss) t =
      let own : slice_get old.nodes i ≡ Some t.sound.node = subst (λ j. slice_get old.nodes j ≡ Some t.sound.node) t.id t.sound.node_at in
      let level : t.sound.node.level ≡ level_in (slice_get old.nodes i) = ap level_in (sym own) in
      ap (λ (c : Core S). c.nodes) t.new_is
      ∙ (ap (λ b. changed (closed_at old.nodes i shut b t.sound.node.level) old.nodes) (sym (shows_is R shut))
      ∙ ap (λ l. changed (closed_at old.nodes i shut (publishes shut) l) old.nodes) level)
  event_nodes old new (stopped w) t = ap (λ (c : Core S). c.nodes) t.2

  run_nodes : (es : List Told) (old new : Core S) → Reached R old es new → new.nodes ≡ nodes_all old.nodes es
  run_nodes [] old new r = ap (λ (c : Core S). c.nodes) r
  run_nodes (e ∷ es) old new r = run_nodes es r.0 new r.2 ∙ ap (λ ns. nodes_all ns es) (event_nodes old r.0 e r.1)

  opening_are : (grant : ℕ) (ss : List S) (c : Core S) → (opening R grant ss c).nodes ≡ c.nodes ++ map (node_of_root R) ss
  opening_are grant [] c = sym (append-nil c.nodes)
  opening_are grant (s ∷ ss) c =
      opening_are grant ss (record c { entries = after_root c.entries grant s; nodes = c.nodes ++ node_of_root R s ∷ [] })
      ∙ append_assoc c.nodes (node_of_root R s ∷ []) (map (node_of_root R) ss)

roots_nodes : (gs : List Graph) (main k : ℕ) (ss : List Seen) → AreRootsOf gs main k ss →
    map (node_of_root (reads gs)) ss ≡ map (root_node main) (places_from k (length ss))
roots_nodes gs main k [] h = refl
roots_nodes gs main k (s ∷ ss) h =
    ap (λ q. record { parent = None; level = 0; query = q; closed = None; published = false } ∷ map (node_of_root (reads gs)) ss)
    (sym h.0.shows.query)
    ∙ ap (λ ns. root_node main k ∷ ns) (roots_nodes gs main (suc k) ss h.1)

-- a board opens with its roots
pub opened_nodes : (b : Shown) (h : IsBoard b) → h.opened.nodes ≡ root_nodes b.main b.asserts
opened_nodes b h =
    let o = h.opening in
    ap (λ (c : Core Seen). c.nodes) o.is
    ∙ (opening_are (reads b.graphs) b.budget o.roots (first_board (reads b.graphs) h.opened.kept)
    ∙ (roots_nodes b.graphs b.main 0 o.roots o.are_roots ∙ ap (root_nodes b.main) o.count))

board_nodes : (b : Shown) → IsBoard b → nodes_all (root_nodes b.main b.asserts) b.core.history ≡ b.core.nodes
board_nodes b h =
    ap (λ ns. nodes_all ns b.core.history) (sym (opened_nodes b h))
    ∙ sym (run_nodes (reads b.graphs) b.core.history h.opened b.core h.reached)

-- one event more
pub origins_more : (b : Shown) → IsBoard b → (e : Told) (c : Core Seen) → Event (reads b.graphs) b.core e c →
    origins_of (record b { core = c }) ≡ origins_of b ++ ids_of b.core.nodes e
origins_more b h e c v =
    let ns = root_nodes b.main b.asserts in
    ap (origins_from ns) (event_history (reads b.graphs) b.core c e v)
    ∙ (origins_push ns b.core.history e ∙ ap (λ ms. origins_from ns b.core.history ++ ids_of ms e) (board_nodes b h))

-- What a board keeps of them

-- an event that appends these
pub traced_more : (b : Shown) → IsBoard b → (e : Told) (c : Core Seen) → GoesOn b e c → (ids more : List ℕ) (room wide : ℕ) →
    HasTraced b ids room → more ≡ ids_of b.core.nodes e → length c.table ≡ length b.core.table + length more → (is : List ℕ) →
    is ≡ ids ++ more → wide ≡ room → HasTraced (record b { core = c }) is wide
traced_more b h e c g ids more room wide t own many is now same = record {
  are = now ∙ (λ x. t.are x ++ own x) ∙ sym (origins_more b h e c g.event);
  count = omega (
    arith,
    t.count,
    many,
    ap length now,
    length-append ids more,
    ap (λ (ks : List Summary). length ks) (event_kept (reads b.graphs) b.core c e g.event),
  );
  fits = omega (arith, t.fits, same);
}

-- an event that appends none
pub traced_quiet : (b : Shown) → IsBoard b → (e : Told) (c : Core Seen) → GoesOn b e c → (ids : List ℕ) (room : ℕ) → HasTraced b ids room →
    ids_of b.core.nodes e ≡ [] → c.table ≡ b.core.table → HasTraced (record b { core = c }) ids room
traced_quiet b h e c g ids room t none same =
    let many : length c.table ≡ length b.core.table = ap (λ (ts : List Summary). length ts) same in
    traced_more b h e c g ids [] room room t (sym none) (omega (arith, many)) ids (sym (append-nil ids)) refl

-- As many as summaries

pub queries_many : (ns : List Node) (is : List ℕ) → AllOf (λ (k : ℕ). (x : Node) × (slice_get ns k ≡ Some x)) is →
    length (map summary.NotMay (queries_at ns is)) ≡ length is
queries_many ns [] all = refl
queries_many ns (i ∷ is) all =
    subst (λ o. length (map summary.NotMay (query_in o ++ queries_at ns is)) ≡ suc (length is)) (sym all.0.1)
    (ap suc (queries_many ns is all.1))

members_there : (ns : List Node) (i l : ℕ) (is : List ℕ) → AllOf (λ k. is_member ns i l k ≡ true) is →
    AllOf (λ (k : ℕ). (x : Node) × (slice_get ns k ≡ Some x)) is
members_there ns i l [] all = tt
members_there ns i l (k ∷ is) all =
    let j = member_joins ns i l k all.0 in
    ((j.node, j.at), members_there ns i l is all.1)

pub group_there : (ns : List Node) (i l : ℕ) → AllOf (λ (k : ℕ). (x : Node) × (slice_get ns k ≡ Some x)) (group ns i l)
group_there ns i l = members_there ns i l (group ns i l) (all_in_group ns i l)

pub closed_many : (ns : List Node) (i l : ℕ) (q : Query) (shut : ClosedAs) (s : Option Summary) → HandsInFor q shut s →
    length (appended_by ns i l q shut s) ≡ length (closed_ids ns i l shut)
closed_many ns i l q (how.NotMay None) s h = ap suc (queries_many ns (group ns i l) (group_there ns i l))
closed_many ns i l q (how.NotMay (Some j)) s h = refl
closed_many ns i l q how.Must s h = let m = h.must refl in ap (λ o. length (summaries_in o)) m.1
closed_many ns i l q (how.Stuck kind) s h = refl
