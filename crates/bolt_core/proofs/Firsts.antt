-- The roots stay what they were at the opening, and each closed query has the state with which it closed.
use Rattle.std.proofs.Common.{◌≡◌, ℕ, zero, suc, ◌+◌, ◌<◌, List, [], ◌∷◌, ◌++◌, length, Some, None, refl, sym, ap, ◌∙◌, subst, arith}
use Rattle.std.specs.Prelude.{slice_get}
use Rattle.std.proofs.lemmas.List.{length_push}
use Rattle.flow_graph.specs.declared.graph.Graph.{Graph}
use Rattle.query_tree.specs.declared.Entry.{Entry}
use Rattle.query_tree.specs.Forest.{after_root, root_of}
use Rattle.query_tree.proofs.Lists.{present, to_pushed}
use Rattle.query_tree.proofs.Marks.{get_pushed}
use Rattle.query_rules.specs.Seen.{Seen}
use Rattle.summary_form.specs.declared.query.Query.{Query}
use Rattle.bolt_core.specs.Boards.{AreRootsOf, IsBoard, Shown, root_query}
use Rattle.bolt_core.specs.Groups.{Node}
use Rattle.bolt_core.specs.Histories.{Told}
use Rattle.bolt_core.specs.Keeps.{Keeps}
use Rattle.bolt_core.specs.Lawful.{IsLawful}
use Rattle.bolt_core.specs.Machine.{Core, Event, Reached, Reads, first_board, node_of_root, opening}
use Rattle.bolt_core.specs.States.{reads}
use Rattle.bolt_core.proofs.BoardKeeps.{event_keeps, opening_keeps, roots_are}
use Rattle.bolt_core.proofs.Changes.{Become, StillAsks, event_asks, event_become}
use Rattle.bolt_core.proofs.Closings.{AreClosings, HasClosing, closes_here, event_closings, opening_closings}
use Rattle.bolt_core.proofs.StatesLawful.{states_lawful}

-- a root of this grant, which asks this
pub record IsFirst {S : Type 0} (grant : ℕ) (q : Query) (c : Core S) (i : ℕ) : Type 0 where
  pub own : Entry S
  pub node : Node
  pub at : slice_get c.entries i ≡ Some own
  pub node_at : slice_get c.nodes i ≡ Some node
  pub parent : own.parent ≡ None
  pub grants : own.grant ≡ grant
  pub query : node.query ≡ q

module _ {S : Type 0} (R : Reads S) where
  event_first : (roots : ℕ) (old new : Core S) (e : Told) → Keeps R roots old → Event R old e new → (grant : ℕ) (q : Query) (i : ℕ) →
      IsFirst grant q old i → IsFirst grant q new i
  event_first roots old new e k t grant q i f =
      let b : Become (HasClosing R (old.history ++ e ∷ [])) old.entries new.entries =
      event_become (HasClosing R (old.history ++ e ∷ [])) R old new e t (closes_here R roots old new k e) in
      let y = b.to i f.own f.at in
      let n : StillAsks new.nodes i f.node = event_asks R old new e t i f.node f.node_at in
      record {
        own = y.0;
        node = n.node;
        at = y.1;
        node_at = n.at;
        parent = y.2 ∙ f.parent;
        grants = y.3 ∙ f.grants;
        query = n.query ∙ f.query;
      }

  pub reached_first : IsLawful R → (roots : ℕ) (old : Core S) (es : List Told) (new : Core S) → Reached R old es new →
      Keeps R roots old → (grant : ℕ) (q : Query) (i : ℕ) → IsFirst grant q old i → IsFirst grant q new i
  reached_first g roots old [] new r k grant q i f = subst (λ (c : Core S). IsFirst grant q c i) (sym r) f
  reached_first g roots old (e ∷ es) new r k grant q i f =
      reached_first g roots r.0 es new r.2 (event_keeps R g roots old r.0 e k r.1) grant q i
      (event_first roots old r.0 e k r.1 grant q i f)

  pub reached_closings : IsLawful R → (roots : ℕ) (old : Core S) (es : List Told) (new : Core S) → Reached R old es new →
      Keeps R roots old → AreClosings R old → AreClosings R new
  reached_closings g roots old [] new r k h = subst (AreClosings R) (sym r) h
  reached_closings g roots old (e ∷ es) new r k h =
      reached_closings g roots r.0 es new r.2 (event_keeps R g roots old r.0 e k r.1) (event_closings R roots old r.0 k e r.1 h)

  -- The opening
  module _ (grant : ℕ) where
    abbrev with_root : Core S → S → Core S
    with_root c s = record c {
      entries = after_root c.entries grant s;
      nodes = c.nodes ++ node_of_root R s ∷ [];
    }

    first_stays : (ss : List S) (c : Core S) (q : Query) (i : ℕ) → IsFirst grant q c i → IsFirst grant q (opening R grant ss c) i
    first_stays [] c q i f = f
    first_stays (s ∷ ss) c q i f = first_stays ss (with_root c s) q i (record {
      own = f.own;
      node = f.node;
      at = to_pushed c.entries (root_of (length c.entries) grant s) i f.own f.at;
      node_at = to_pushed c.nodes (node_of_root R s) i f.node f.node_at;
      parent = f.parent;
      grants = f.grants;
      query = f.query;
    })

    first_there : (ss : List S) (c : Core S) → length c.entries ≡ length c.nodes → (i : ℕ) (s : S) → slice_get ss i ≡ Some s →
        IsFirst grant (R.query s) (opening R grant ss c) (length c.entries + i)
    first_there [] c same i s a = absurd (cc)
    first_there (x ∷ ss) c same zero s a =
        let o : Some x ≡ Some s = a in
        let v : x ≡ s = cc in
        let z : length c.entries + 0 ≡ length c.entries = omega arith in
        first_stays ss (with_root c x) (R.query s) (length c.entries + 0) (record {
          own = root_of (length c.entries) grant x;
          node = node_of_root R x;
          at = ap (slice_get (after_root c.entries grant x)) z ∙ get_pushed c.entries (root_of (length c.entries) grant x);
          node_at = ap (slice_get (c.nodes ++ node_of_root R x ∷ [])) (z ∙ same) ∙ get_pushed c.nodes (node_of_root R x);
          parent = refl;
          grants = refl;
          query = ap R.query v;
        })
    first_there (x ∷ ss) c same (suc i) s a =
        let n : length (after_root c.entries grant x) ≡ length c.entries + 1 = length_push c.entries (root_of (length c.entries) grant x) in
        let m : length (c.nodes ++ node_of_root R x ∷ []) ≡ length c.nodes + 1 = length_push c.nodes (node_of_root R x) in
        let e : length (after_root c.entries grant x) + i ≡ length c.entries + suc i = omega (arith, n) in
        subst (IsFirst grant (R.query s) (opening R grant ss (with_root c x))) e
        (first_there ss (with_root c x) (omega (arith, n, m, same)) i s a)

-- Boards

module _ (gs : List Graph) (main : ℕ) where
  roots_ask : (k : ℕ) (ss : List Seen) → AreRootsOf gs main k ss → (i : ℕ) (s : Seen) → slice_get ss i ≡ Some s →
      s.query ≡ root_query main (k + i)
  roots_ask k [] rs i s a = absurd (cc)
  roots_ask k (x ∷ ss) rs zero s a =
      let o : Some x ≡ Some s = a in
      let v : x ≡ s = cc in
      let z : k ≡ k + 0 = omega arith in
      ap (λ (y : Seen). y.query) (sym v) ∙ (sym rs.0.shows.query ∙ ap (root_query main) z)
  roots_ask k (x ∷ ss) rs (suc i) s a =
      let z : suc k + i ≡ k + suc i = omega arith in
      roots_ask (suc k) ss rs.1 i s a ∙ ap (root_query main) z

module _ (b : Shown) (h : IsBoard b) where
  abbrev R : Reads Seen
  R = reads b.graphs

  lawful : IsLawful R
  lawful = states_lawful b.graphs h.linked

  begun : Keeps R b.asserts h.opened
  begun =
      let o = h.opening in
      subst (Keeps R b.asserts) (sym o.is)
      (subst (λ n. Keeps R n (opening R b.budget o.roots (first_board R h.opened.kept))) o.count
      (opening_keeps R lawful b.budget h.some (omega (arith, h.most)) o.roots (roots_are b.graphs b.main 0 o.roots o.are_roots)
      h.opened.kept o.kept_hold))

  pub board_closings : AreClosings R b.core
  board_closings = reached_closings R lawful b.asserts h.opened b.core.history b.core h.reached begun
      (subst (AreClosings R) (sym h.opening.is) (opening_closings R b.budget h.opening.roots h.opened.kept))

  pub board_first : (i : ℕ) → i < b.asserts → IsFirst b.budget (root_query b.main i) b.core i
  board_first i lt =
      let o = h.opening in
      let s = present o.roots i (omega (arith, lt, o.count)) in
      let z : 0 + i ≡ i = omega arith in
      let asks : s.0.query ≡ root_query b.main i =
      roots_ask b.graphs b.main 0 o.roots o.are_roots i s.0 s.1 ∙ ap (root_query b.main) z in
      let there : IsFirst b.budget (root_query b.main i) (opening R b.budget o.roots (first_board R h.opened.kept)) i =
      subst (λ q. IsFirst b.budget q (opening R b.budget o.roots (first_board R h.opened.kept)) i) asks
      (subst (IsFirst b.budget s.0.query (opening R b.budget o.roots (first_board R h.opened.kept))) z
      (first_there R b.budget o.roots (first_board R h.opened.kept) refl i s.0 s.1)) in
      reached_first R lawful b.asserts h.opened b.core.history b.core h.reached begun b.budget (root_query b.main i) i
      (subst (λ (c : Core Seen). IsFirst b.budget (root_query b.main i) c i) (sym o.is) there)
