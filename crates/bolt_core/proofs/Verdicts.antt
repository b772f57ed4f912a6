-- What became of the roots of a board, by as what they closed.
use Rattle.std.proofs.Common.{◌≡◌, ℕ, zero, suc, ◌+◌, ◌<◌, List, [], Bool, true, false, cond, Option, Some, None, ℤ, refl, sym, ap, ◌∙◌, subst, arith}
use Rattle.std.specs.Prelude.{slice_get, ◌==◌}
use Rattle.std.proofs.lemmas.Bool.{eqb-true}
use Rattle.std.proofs.lemmas.Option.{none-some, same_Some}
use Rattle.linear_formula.specs.LinearSum.{valuation}
use Rattle.flow_graph.specs.Runs.{failed}
use Rattle.flow_graph.specs.declared.graph.Graph.{Graph}
use Rattle.shadow_elim.specs.declared.limit.LimitKind.{LimitKind}
use Rattle.summary_form.specs.Instances.{graph_runs}
use Rattle.summary_form.specs.Musts.{values_of}
use Rattle.summary_form.specs.NotMays.{NotMayHolds}
use Rattle.summary_form.specs.declared.path.Path.{Path}
use Rattle.summary_form.specs.declared.query.Query.{Query}
use Rattle.query_tree.specs.declared.Entry.{Entry}
use Rattle.query_tree.specs.declared.Status.{Status}
use Rattle.query_tree.specs.declared.Status.TheVariants.{Ready, Running, Blocked, Starved, Closed, Dropped}
use Rattle.query_tree.specs.Forest.{has_live, is_live_entry, is_none, is_open}
use Rattle.query_tree.specs.Kept.{EndedAbove, Held, Holds, Rooted, of_root, worth}
use Rattle.query_tree.proofs.Lists.{present, tally_same, within}
use Rattle.query_rules.specs.Closings.{IsTargetMark}
use Rattle.query_rules.specs.Seen.{Seen}
use Rattle.query_rules.specs.States.{IsStateOf}
use Rattle.query_rules.specs.declared.step.Closing.TheVariants as closing
use Rattle.bolt_core.specs.declared.slot.ClosedAs.{ClosedAs}
use Rattle.bolt_core.specs.declared.slot.ClosedAs.TheVariants as how
use Rattle.bolt_core.specs.Boards.{IsBoard, Shown, root_query}
use Rattle.bolt_core.specs.Groups.{Node, ancestors}
use Rattle.bolt_core.specs.Histories.{closed_as}
use Rattle.bolt_core.specs.Keeps.{GivenBy, Keeps}
use Rattle.bolt_core.specs.Machine.{is_over}
use Rattle.bolt_core.specs.States.{IsClosedFor, IsStateFor, reads}
use Rattle.bolt_core.specs.Verdicts.{HasSpent, IsFoundIn, IsGivenUpIn, IsProvedIn, spent_under}
use Rattle.bolt_core.specs.steps.Targets.{AreInputsAt, HasTargetMark}
use Rattle.bolt_core.proofs.BoardKeeps.{board_keeps}
use Rattle.bolt_core.proofs.Closings.{HasClosing}
use Rattle.bolt_core.proofs.Conditions.{Within, graded, table_holds}
use Rattle.bolt_core.proofs.Firsts.{IsFirst, board_first}
use Rattle.bolt_core.proofs.Roots.{none_passes, open_starved}
use Rattle.bolt_core.proofs.Groups.{not_false}
use Rattle.bolt_core.proofs.Limits.{IsShut, closed_in, closing_of, limit_of, must_is, not_may_is, payload_of, same_told, shut_there, state_of, stuck_is}
use Rattle.bolt_core.proofs.StatesLawful.{closed_state}
use Rattle.bolt_core.proofs.Targets.{fails_there}

-- A root has no ancestors: what is given of it holds

alone : (gs : List Graph) (q : Query) (low : Option ℕ) → GivenBy (Within gs) [] q (Some (how.NotMay low)) → NotMayHolds (graph_runs gs) q
alone gs q None h = λ d. h.at d
alone gs q (Some j) h = by j h where
  by : (j : ℕ) → GivenBy (Within gs) [] q (Some (how.NotMay (Some j))) → NotMayHolds (graph_runs gs) q
  by j k zero = (graded gs).none q
  by zero k (suc d) = k.next d tt
  by (suc j) k (suc d) = k.next d tt

cond_same : (c : Bool) (n m : ℕ) → (c ≡ true → n ≡ m) → cond c n 0 ≡ cond c m 0
cond_same true n m h = h refl
cond_same false n m h = refl

module _ (b : Shown) (h : IsBoard b) (root : ℕ) (lt : root < b.asserts) where
  keeps : Keeps (reads b.graphs) b.asserts b.core
  keeps = board_keeps b h

  first : IsFirst b.budget (root_query b.main root) b.core root
  first = board_first b h root lt

  -- A root that is closed

  module _ (shut : ClosedAs) (told : closed_as b.core.history root ≡ Some shut) where
    abbrev w : IsShut b h root shut
    w = shut_there b h root shut told

    abbrev z : HasClosing (reads b.graphs) b.core.history root w.own.payload
    z = closing_of b h root shut w

    node_is : w.node ≡ first.node
    node_is = same_Some w.node first.node (sym w.node_at ∙ first.node_at)

    asks : w.node.query ≡ root_query b.main root
    asks = ap (λ (n : Node). n.query) node_is ∙ first.query

    state_asks : z.state.query ≡ root_query b.main root
    state_asks = (payload_of b h root shut w z).query ∙ asks

    no_parent : w.node.parent ≡ None
    no_parent = ap (λ (n : Node). n.parent) node_is
        ∙ (sym (keeps.paired.parents root first.own first.node first.at first.node_at) ∙ first.parent)

  pub proved_in : (low : Option ℕ) → closed_as b.core.history root ≡ Some (how.NotMay low) → IsProvedIn b root
  proved_in low told =
      let shut : ClosedAs = how.NotMay low in
      let v : IsShut b h root (how.NotMay low) = w (how.NotMay low) told in
      let y = z (how.NotMay low) told in
      let given : GivenBy (Within b.graphs) (ancestors b.core.nodes root v.node.parent) v.node.query v.node.closed =
      keeps.given.given root v.node v.node_at in
      let closed : v.node.closed ≡ Some (how.NotMay low) = keeps.agrees.closed root v.node v.node_at ∙ told in
      let alone_given : GivenBy (Within b.graphs) [] (root_query b.main root) (Some (how.NotMay low)) =
      subst (GivenBy (Within b.graphs) [] (root_query b.main root)) closed
      (subst (λ q. GivenBy (Within b.graphs) [] q v.node.closed) (asks (how.NotMay low) told)
      (subst (λ o. GivenBy (Within b.graphs) (ancestors b.core.nodes root o) v.node.query v.node.closed) (no_parent (how.NotMay low) told)
      given)) in
      record {
        state = y.state;
        closed = closed_in b h root (how.NotMay low) v y closing.NotMay (not_may_is (reads b.graphs) y.state.level y.state y.closing low
            (same_told b h root (how.NotMay low) v y));
        query = state_asks (how.NotMay low) told;
        none = alone b.graphs (root_query b.main root) low alone_given;
      }

  pub given_up_in : (kind : LimitKind) → closed_as b.core.history root ≡ Some (how.Stuck kind) → IsGivenUpIn b root kind
  given_up_in kind told =
      let v : IsShut b h root (how.Stuck kind) = w (how.Stuck kind) told in
      let y = z (how.Stuck kind) told in
      record {
        state = y.state;
        closed = closed_in b h root (how.Stuck kind) v y (closing.Stuck kind) (stuck_is (reads b.graphs) y.state.level y.state y.closing
            kind
            (same_told b h root (how.Stuck kind) v y));
        query = state_asks (how.Stuck kind) told;
        down = limit_of b h root kind v;
      }

  -- A root that closed as a must

  module _ (told : closed_as b.core.history root ≡ Some how.Must) where
    abbrev pub must : IsShut b h root how.Must
    must = shut_there b h root how.Must told

    pub shut_by : HasClosing (reads b.graphs) b.core.history root must.own.payload
    shut_by = closing_of b h root how.Must must

    st : IsStateFor b.graphs b.core.table shut_by.state
    st = state_of b h root how.Must must shut_by

    asks_there : shut_by.state.query ≡ root_query b.main root
    asks_there = (payload_of b h root how.Must must shut_by).query ∙ asks how.Must told

    path_there : (p : Path) × (shut_by.closing ≡ closing.Must p)
    path_there = must_is (reads b.graphs) shut_by.state.level shut_by.state shut_by.closing (same_told b h root how.Must must shut_by)

    own_state : IsStateOf b.graphs st.graph b.core.table st.model.query st.model.ancestors st.model
    own_state = subst (λ qs. IsStateOf b.graphs st.graph b.core.table st.model.query qs st.model) (sym st.shows.ancestors)
        (subst (λ q. IsStateOf b.graphs st.graph b.core.table q shut_by.state.ancestors st.model) (sym st.shows.query) st.state)

    abbrev own_target : HasTargetMark st.graph shut_by.state
    own_target = record {
      graphs = b.graphs;
      table = b.core.table;
      id = root;
      model = st.model;
      grounded = record { graphs = h.linked; table_holds = table_holds b.graphs b.core.table keeps.holds; state = own_state };
      shows = st.shows;
      exit = ap (λ (q : Query). q.exit) (st.shows.query ∙ asks_there);
      path = path_there.0;
      closed = closed_state b.graphs b.core.table shut_by.state st (closing.Must path_there.0)
          (subst (IsClosedFor b.graphs shut_by.state) path_there.1 shut_by.is_closed);
    }

    -- its payload is the state with which it closed
    pub must_payload : (e : Entry Seen) → slice_get b.core.entries root ≡ Some e → e.payload ≡ Some shut_by.state
    must_payload e a = ap (λ (x : Entry Seen). x.payload) (same_Some e must.own (sym a ∙ must.at)) ∙ shut_by.is_payload

    module _ (g : Graph) (at : slice_get b.graphs b.main ≡ Some g) where
      graph_is : st.graph ≡ g
      graph_is = same_Some st.graph g (sym st.at ∙ (ap (λ (q : Query). slice_get b.graphs q.proc) asks_there ∙ at))

      pub must_target : HasTargetMark g shut_by.state
      must_target = subst (λ (x : Graph). HasTargetMark x shut_by.state) graph_is own_target

      pub found_in : (list : List ℤ) → AreInputsAt g shut_by.state list → IsFoundIn b root list
      found_in list a =
          let mark_at = a.at_target st.model st.shows in
          let own_at = subst (λ (x : Graph). IsTargetMark x st.model a.mark a.trail) (sym graph_is) mark_at in
          let run = fails_there st.graph shut_by.state own_target a.mark a.trail own_at in
          let proc : st.model.query.proc ≡ b.main = ap (λ (q : Query). q.proc) (st.shows.query ∙ asks_there) in
          record {
            state = shut_by.state;
            path = path_there.0;
            closed = closed_in b h root how.Must must shut_by (closing.Must path_there.0) path_there.1;
            query = asks_there;
            graph = g;
            model = st.model;
            graph_at = at;
            shows = st.shows;
            mark = a.mark;
            trail = a.trail;
            at_target = mark_at;
            inputs = a.inputs;
            depth = run.0;
            run = subst (λ p. graph_runs b.graphs run.0 p (values_of (valuation a.mark.point) a.trail.entry) list (failed root)) proc
                (subst (λ l. graph_runs b.graphs run.0 st.model.query.proc (values_of (valuation a.mark.point) a.trail.entry) l
                (failed root))
                (sym a.inputs) run.1);
          }

    -- of what its entry is read to hold
    module _ (s : Seen) (held : (e : Entry Seen) → slice_get b.core.entries root ≡ Some e → Some s ≡ e.payload) (g : Graph)
        (at : slice_get b.graphs b.main ≡ Some g) where
      state_is : shut_by.state ≡ s
      state_is = same_Some shut_by.state s (sym (held must.own must.at ∙ must_payload must.own must.at))

      pub read_target : HasTargetMark g s
      read_target = subst (HasTargetMark g) state_is (must_target g at)

      pub read_found : (list : List ℤ) → AreInputsAt g s list → IsFoundIn b root list
      read_found list a = found_in g at list (subst (λ (x : Seen). AreInputsAt g x list) (sym state_is) a)

    pub read_some : ((e : Entry Seen) → slice_get b.core.entries root ≡ Some e → None ≡ e.payload) → ⊥
    read_some held = none-some shut_by.state (held must.own must.at ∙ must_payload must.own must.at)

  -- A root that isn't closed

  module _ (none : closed_as b.core.history root ≡ None) (over : is_over (reads b.graphs) b.core ≡ true) where
    not_live : has_live b.core.entries ≡ false
    not_live = not_false (has_live b.core.entries) over

    -- it isn't closed, and no root is dropped
    root_open : (s : Status) → first.own.status ≡ s → is_open first.own.status ≡ true
    root_open Ready e = ap is_open e
    root_open Running e = ap is_open e
    root_open Blocked e = ap is_open e
    root_open Starved e = ap is_open e
    root_open Closed e =
        let full : is_none first.node.closed ≡ false = (keeps.paired.closed root first.own first.node first.at first.node_at).0 e in
        let empty : is_none first.node.closed ≡ true =
        ap is_none (keeps.agrees.closed root first.node first.node_at ∙ none) in
        absurd (cc)
    root_open (Dropped n) e =
        absurd (subst (EndedAbove b.core.entries n) first.parent (keeps.kept.ended.ended root first.own n first.at e))

    opened : is_open first.own.status ≡ true
    opened = root_open first.own.status refl

    starved : (i : ℕ) (e : Entry Seen) → slice_get b.core.entries i ≡ Some e → is_open e.status ≡ true → (e.status ≡ Starved) × (e.left ≡ 0)
    starved i e a o =
        let s : e.status ≡ Starved = open_starved e.status o (none_passes is_live_entry b.core.entries not_live i e a) in
        (s, subst (λ st. Holds st e.left e.lent (is_none e.parent)) s (keeps.kept.each.fine i e a).holds)

    own_root : first.own.root ≡ root
    own_root = subst (λ o. Rooted b.core.entries root o first.own.root) first.parent (keeps.kept.tree.rooted root first.own first.at)

    -- a root is alone at its place
    other_root : (i : ℕ) (e : Entry Seen) (o : Option ℕ) → slice_get b.core.entries i ≡ Some e → e.parent ≡ o → e.root ≡ root →
        e.status ≡ Closed → is_none o ≡ false
    other_root i e (Some p) a up r c = refl
    other_root i e None a up r c =
        let same : e.root ≡ i = subst (λ o. Rooted b.core.entries i o e.root) up (keeps.kept.tree.rooted i e a) in
        let place : i ≡ root = sym same ∙ r in
        let own : e ≡ first.own = same_Some e first.own (sym a ∙ (ap (slice_get b.core.entries) place ∙ first.at)) in
        let st : first.own.status ≡ Closed = ap (λ (x : Entry Seen). x.status) (sym own) ∙ c in
        let f : is_open Closed ≡ true = ap is_open (sym st) ∙ opened in
        absurd (cc)

    -- nothing is left in its tree
    none_left : (i : ℕ) (e : Entry Seen) (s : Status) → slice_get b.core.entries i ≡ Some e → e.root ≡ root → e.status ≡ s → e.left ≡ 0
    none_left i e Ready a r st = (starved i e a (ap is_open st)).1
    none_left i e Running a r st = (starved i e a (ap is_open st)).1
    none_left i e Blocked a r st = (starved i e a (ap is_open st)).1
    none_left i e Starved a r st = (starved i e a (ap is_open st)).1
    none_left i e Closed a r st =
        let held : Holds Closed e.left e.lent (is_none e.parent) =
        subst (λ x. Holds x e.left e.lent (is_none e.parent)) st (keeps.kept.each.fine i e a).holds in
        held (other_root i e e.parent a refl r st)
    none_left i e (Dropped n) a r st =
        subst (λ x. Holds x e.left e.lent (is_none e.parent)) st (keeps.kept.each.fine i e a).holds

    spent_alone : (i : ℕ) (e : Entry Seen) → slice_get b.core.entries i ≡ Some e → spent_under root i e ≡ worth (of_root root) i e
    spent_alone i e a = cond_same (e.root == root) e.spent (e.left + e.spent)
        (λ r. let z = none_left i e e.status a (eqb-true e.root root r) refl in omega (arith, z))

    payload_there : (o : Option Seen) → first.own.payload ≡ o → is_none first.own.payload ≡ false →
        (s : Seen) × (first.own.payload ≡ Some s)
    payload_there None e f = let g : is_none first.own.payload ≡ true = ap is_none e in absurd (cc)
    payload_there (Some s) e f = (s, e)

    pub spent_in : HasSpent b root b.budget
    spent_in =
        let st : first.own.status ≡ Starved = (starved root first.own first.at opened).0 in
        let full : is_none first.own.payload ≡ false =
        subst (λ x. Held x (is_none first.own.payload)) st (keeps.kept.each.fine root first.own first.at).held in
        let s = payload_there first.own.payload refl full in
        let p = keeps.payloads.payloads root first.own first.node first.at first.node_at s.0 s.1 in
        record {
          own = first.own;
          at = first.at;
          opened = opened;
          state = s.0;
          payload = s.1;
          query = p.query ∙ first.query;
          starved = λ i e a r o. starved i e a o;
          kept = tally_same (spent_under root) (worth (of_root root)) b.core.entries spent_alone
              ∙ (keeps.kept.granted.granted root first.own first.at first.parent ∙ first.grants);
          all = refl;
          states = λ i e q a is.
              let n = present b.core.nodes i (omega (arith, within b.core.entries i e a, keeps.paired.count)) in (
                subst (λ ts. IsStateFor b.graphs ts q) keeps.named (keeps.payloads.payloads i e n.0 a n.1 q is).state,
                keeps.stored.stored i e a q is,
              );
        }
