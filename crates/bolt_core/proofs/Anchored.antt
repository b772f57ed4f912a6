-- Each place after the opening table has its query.
use Rattle.std.proofs.Common.{◌≡◌, inl, inr, ⊎_elim, ℕ, zero, suc, ◌+◌, ◌<◌, List, [], ◌∷◌, ◌++◌, length, map, Bool, true, false, Option, Some, None, arith, refl, sym, subst, ap, ◌∙◌}
use Rattle.std.specs.Prelude.{slice_get, ◌||◌, ◌&&◌, ◌==◌}
use Rattle.std.proofs.lemmas.Bool.{eq-eqb, cond_both}
use Rattle.std.proofs.lemmas.List.{append-nil, append_assoc, length-append}
use Rattle.std.proofs.lemmas.Option.{none-some, same_Some}
use Rattle.may_partition.proofs.Pieces.{lookup_append}
use Rattle.query_tree.specs.declared.Entry.{Entry}
use Rattle.query_tree.specs.declared.Status.TheVariants.{Running, Closed}
use Rattle.query_tree.specs.Forest.{after_root, changed}
use Rattle.query_tree.proofs.Lists.{to_changed, to_pushed}
use Rattle.query_tree.proofs.Tests.{cond_eq}
use Rattle.query_rules.specs.Seen.{Seen}
use Rattle.query_rules.specs.declared.step.Closing.{Closing}
use Rattle.query_rules.specs.declared.step.Closing.TheVariants as closing
use Rattle.summary_form.specs.declared.path.Path.{Path}
use Rattle.summary_form.specs.declared.query.Query.{Query}
use Rattle.summary_form.specs.declared.summary.Summary.{Summary}
use Rattle.summary_form.specs.declared.summary.Summary.TheVariants.{NotMay, Must}
use Rattle.bolt_core.specs.declared.slot.ClosedAs.{ClosedAs}
use Rattle.bolt_core.specs.declared.slot.ClosedAs.TheVariants as how
use Rattle.bolt_core.specs.Anchors.{HasOrigins, IsAnchored, IsOrigin, LeansFrom, below, lead}
use Rattle.bolt_core.specs.Boards.{IsBoard, Shown}
use Rattle.bolt_core.specs.Groups.{Node, closed_at, group, is_member, is_member_upto, leads, level_in, publishes, queries_at, query_in}
use Rattle.bolt_core.specs.Histories.{Told, asked, closed, fed, has_said, parked, said, says_of, stopped, took}
use Rattle.bolt_core.specs.Keeps.{Keeps}
use Rattle.bolt_core.specs.Lawful.{IsLawful}
use Rattle.bolt_core.specs.Machine.{AllOf, Closes, Core, Event, Reached, Reads, appended, closed_how, first_board, node_below, node_of_root, opening}
use Rattle.bolt_core.specs.Origins.{closed_ids, ids_of, nodes_after, origins_from, origins_of}
use Rattle.bolt_core.specs.States.{reads}
use Rattle.bolt_core.proofs.Above.{close_same}
use Rattle.bolt_core.proofs.BoardKeeps.{event_keeps, opening_keeps, roots_are}
use Rattle.bolt_core.proofs.Groups.{joined}
use Rattle.bolt_core.proofs.Nodes.{open_node}
use Rattle.bolt_core.proofs.Publishes.{said_more}
use Rattle.bolt_core.proofs.StatesLawful.{states_lawful}
use Rattle.bolt_core.proofs.Telling.{all_at}
use Rattle.bolt_core.proofs.Tracing.{event_nodes, group_there, opened_nodes, queries_many}
use Rattle.bolt_core.proofs.Truths.{all_in_group}

-- Nodes stay

pub record Stays (n m : Node) : Type 0 where
  pub query : m.query ≡ n.query
  pub level : m.level ≡ n.level
  pub parent : m.parent ≡ n.parent
  pub closed : (n.closed ≡ None → ⊥) → m.closed ≡ n.closed

abbrev pub NodesStay : List Node → List Node → Type 0
NodesStay ns ms = (i : ℕ) (n : Node) → slice_get ns i ≡ Some n → (m : Node) × (slice_get ms i ≡ Some m) × Stays n m

stays_same : (ns : List Node) → NodesStay ns ns
stays_same ns i n at = (n, at, record { query = refl; level = refl; parent = refl; closed = λ h. refl })

stays_pushed : (ns : List Node) (x : Node) → NodesStay ns (ns ++ x ∷ [])
stays_pushed ns x i n at = (n, to_pushed ns x i n at, record { query = refl; level = refl; parent = refl; closed = λ h. refl })

not_none : (l : ℕ) (o : Option ClosedAs) → LeansFrom l o → o ≡ None → ⊥
not_none l None h e = h
not_none l (Some shut) h e = let f : Some shut ≡ None = e in cc

pub anchored_stays : (ns ms : List Node) → NodesStay ns ms → (l : ℕ) {i : ℕ} → IsAnchored ns l i → IsAnchored ms l i
anchored_stays ns ms s l {i} (lead n at level leans) =
    let w = s i n at in
    lead w.0 w.1 (w.2.level ∙ level) (subst (LeansFrom l) (sym (w.2.closed (not_none l n.closed leans))) leans)
anchored_stays ns ms s l {i} (below n p at leans up above) =
    let w = s i n at in
    below w.0 p w.1 (subst (LeansFrom l) (sym (w.2.closed (not_none l n.closed leans))) leans) (w.2.parent ∙ up)
    (anchored_stays ns ms s l above)

-- Groups

-- the queries of nodes that are there, one for each
at_query : (ns : List Node) (is : List ℕ) → AllOf (λ (k : ℕ). (x : Node) × (slice_get ns k ≡ Some x)) is → (j m : ℕ) (s : Query) →
    slice_get is j ≡ Some m → slice_get (map NotMay (queries_at ns is)) j ≡ Some (NotMay s) → (x : Node) × (slice_get ns m ≡ Some x)
    × (x.query ≡ s)
at_query ns [] all j m s at is = absurd (none-some m at)
at_query ns (i ∷ is) all j m s at e = by_place j at (subst (λ o. slice_get (map NotMay (query_in o ++ queries_at ns is)) j
    ≡ Some (NotMay s)) all.0.1 e) (λ k b f. at_query ns is all.1 k m s b f) where
      same_query : (q : Query) → Some (NotMay q) ≡ Some (NotMay s) → q ≡ s
      same_query q f = let g : NotMay q ≡ NotMay s = same_Some _ _ f in cc

      by_place : (j : ℕ) → slice_get (i ∷ is) j ≡ Some m → slice_get (NotMay all.0.0.query ∷ map NotMay (queries_at ns is)) j
          ≡ Some (NotMay s) → ((k : ℕ) → slice_get is k ≡ Some m → slice_get (map NotMay (queries_at ns is)) k ≡ Some (NotMay s) →
          (x : Node) × (slice_get ns m ≡ Some x) × (x.query ≡ s)) → (x : Node) × (slice_get ns m ≡ Some x) × (x.query ≡ s)
      by_place zero b f rest =
          (all.0.0, subst (λ k. slice_get ns k ≡ Some all.0.0) (same_Some i m b) all.0.1, same_query all.0.0.query f)
      by_place (suc k) b f rest = rest k b f

-- each member is anchored where its leader is
module _ (ns ms : List Node) (stay : NodesStay ns ms) (i l : ℕ) (own : IsAnchored ms l i) where
  member_anchored : (m k : ℕ) → is_member_upto ns i l m k ≡ true → IsAnchored ms l k
  member_anchored zero k h = absurd cc
  member_anchored (suc m) k h =
      let j = joined ns i l (is_member_upto ns i l m) k (slice_get ns k) refl h in
      let w = stay k j.node j.at in
      let closed : w.0.closed ≡ Some (how.NotMay (Some j.leaning.from)) = w.2.closed
      (λ e. let f : Some (how.NotMay (Some j.leaning.from)) ≡ None = sym j.leaning.is ∙ e in cc) ∙ j.leaning.is in
      below w.0 j.up.parent w.1 (subst (LeansFrom l) (sym closed) j.leaning.deep) (w.2.parent ∙ j.up.is)
      (⊎_elim (λ e. subst (IsAnchored ms l) (sym e) own) (λ e. member_anchored m j.up.parent e) j.up.here)

-- Events

or_second : (a b : Bool) → b ≡ true → (a || b) ≡ true
or_second true b e = refl
or_second false b e = e

or_first : (a b : Bool) → a ≡ true → (a || b) ≡ true
or_first true b e = refl
or_first false b e = absurd (cc)

said_on : (h : List Told) (e : Told) (i : ℕ) → has_said h i ≡ true → has_said (h ++ e ∷ []) i ≡ true
said_on h e i s = said_more h e i ∙ or_second (says_of i e) (has_said h i) s

module _ {S : Type 0} where
  -- more places
  extend : (old new : Core S) (ids more : List ℕ) (ss : List Summary) → new.kept ≡ old.kept → new.table ≡ old.table ++ ss →
      length more ≡ length ss → NodesStay old.nodes new.nodes →
      ((i : ℕ) → has_said old.history i ≡ true → has_said new.history i ≡ true) →
      ((j i : ℕ) → slice_get more j ≡ Some i → IsOrigin new (slice_get ss j) i) → HasOrigins old ids → HasOrigins new (ids ++ more)
  extend old new ids more ss held e n stay spoken news h = record {
    count = omega (arith, length-append ids more, length-append old.table ss, ap length e, ap length held, n, h.count);
    from = λ p i at. ⊎_elim (λ o. before p i o.0 (h.from p i o.1)) (λ w. behind p i w.0 w.1 (news w.0 i w.2))
        (lookup_append ids p more i at);
  }
    where
      first : (p : ℕ) → length new.kept + p ≡ length old.kept + p
      first p = ap (λ (ks : List Summary). length ks + p) held

      before : (p i : ℕ) → p < length ids → IsOrigin old (slice_get old.table (length old.kept + p)) i →
          IsOrigin new (slice_get new.table (length new.kept + p)) i
      before p i lt o =
          let w = stay i o.node o.at in
          record {
            node = w.0;
            at = w.1;
            backed = λ s f. ⊎_elim
                (λ z. ⊎_elim (λ x. inl (spoken i x)) (λ x. inr (w.2.query ∙ x.0, x.1, anchored_stays old.nodes new.nodes stay x.1 x.2))
                (o.backed s z.1))
                (λ z. absurd (omega (arith, z.1, lt, h.count)))
                (lookup_append old.table (length old.kept + p) ss (NotMay s)
                (subst (λ k. slice_get (old.table ++ ss) k ≡ Some (NotMay s)) (first p)
                (subst (λ xs. slice_get xs (length new.kept + p) ≡ Some (NotMay s)) e f)));
          }

      behind : (p i j : ℕ) → p ≡ length ids + j → IsOrigin new (slice_get ss j) i →
          IsOrigin new (slice_get new.table (length new.kept + p)) i
      behind p i j is o = record {
        node = o.node;
        at = o.at;
        backed = λ s f. ⊎_elim
            (λ z. absurd (omega (arith, z.0, is, h.count)))
            (λ z. o.backed s (subst (λ k. slice_get ss k ≡ Some (NotMay s)) (omega (arith, z.1, is, h.count)) z.2))
            (lookup_append old.table (length old.kept + p) ss (NotMay s)
            (subst (λ k. slice_get (old.table ++ ss) k ≡ Some (NotMay s)) (first p)
            (subst (λ xs. slice_get xs (length new.kept + p) ≡ Some (NotMay s)) e f)));
      }

module _ {S : Type 0} (R : Reads S) where
  -- an event that appends nothing, and leaves the nodes
  quiet : (old : Core S) (es : List (Entry S)) (e : Told) (ids : List ℕ) → HasOrigins old ids →
      HasOrigins (record old { entries = es; history = old.history ++ e ∷ [] }) (ids ++ [])
  quiet old es e ids h = extend old (record old { entries = es; history = old.history ++ e ∷ [] }) ids [] []
      refl (sym (append-nil old.table)) refl (stays_same old.nodes) (said_on old.history e) (λ j i at. absurd (none-some i at)) h

  -- a close
  module _ (roots : ℕ) (old new : Core S) (k : Keeps R roots old) (w i n : ℕ) (shut : ClosedAs) (ss : List Summary)
      (t : Closes R old i n shut ss (closed w i n shut ss) new) where
    own_at : slice_get old.nodes i ≡ Some t.sound.node
    own_at = subst (λ j. slice_get old.nodes j ≡ Some t.sound.node) t.id t.sound.node_at

    level_is : level_in (slice_get old.nodes i) ≡ t.sound.node.level
    level_is = ap level_in own_at

    abbrev change : ℕ → Node → Node
    change = closed_at old.nodes i shut (publishes shut) (level_in (slice_get old.nodes i))

    abbrev later : List Node
    later = changed change old.nodes

    clash : Running ≡ Closed → ⊥
    clash e = cc

    is_open : t.sound.node.closed ≡ None
    is_open =
        open_node old.entries old.nodes k.paired t.job.id t.own t.sound.node t.since.at t.sound.node_at
        (λ z. clash (sym t.since.running ∙ z))

    stay : NodesStay old.nodes later
    stay j m at = (
      change j m,
      to_changed change old.nodes j m at,
      record {
        query = (close_same old.nodes i shut (publishes shut) (level_in (slice_get old.nodes i)) j m).query;
        level = (close_same old.nodes i shut (publishes shut) (level_in (slice_get old.nodes i)) j m).level;
        parent = (close_same old.nodes i shut (publishes shut) (level_in (slice_get old.nodes i)) j m).parent;
        closed = λ some. cond_eq (λ (x : Node). x.closed ≡ m.closed) j i _ _
            (λ d. absurd (some
            (ap (λ (x : Node). x.closed) (same_Some m t.sound.node (sym (subst (λ x. slice_get old.nodes x ≡ Some m) d at)
            ∙ own_at)) ∙ is_open)))
            (λ d. cond_both (leads shut && is_member old.nodes i (level_in (slice_get old.nodes i)) j) _ m
            (λ (x : Node). x.closed ≡ m.closed)
            (λ _. refl) (λ _. refl));
      },
    )

    own_closed : (change i t.sound.node).closed ≡ Some shut
    own_closed = cond_eq (λ (x : Node). x.closed ≡ Some shut) i i _ _ (λ _. refl) (λ d. absurd (d refl))

    -- the closed query, at the new nodes
    own_node : slice_get later i ≡ Some (change i t.sound.node)
    own_node = to_changed change old.nodes i t.sound.node own_at

    own_same : (change i t.sound.node).query ≡ t.sound.node.query
    own_same = (close_same old.nodes i shut (publishes shut) (level_in (slice_get old.nodes i)) i t.sound.node).query

    own_level : (change i t.sound.node).level ≡ t.sound.node.level
    own_level = (close_same old.nodes i shut (publishes shut) (level_in (slice_get old.nodes i)) i t.sound.node).level

    abbrev behind : Core S
    behind = record {
      entries = new.entries;
      nodes = later;
      kept = old.kept;
      table = old.table ++ ss;
      history = old.history ++ closed w i n shut ss ∷ [];
      is_stopped = old.is_stopped;
    }

    -- a must appends no not-may
    must_origin : (p : Path) (j m : ℕ) → slice_get (i ∷ []) j ≡ Some m → IsOrigin behind (slice_get (Must p ∷ []) j) m
    must_origin p zero m at = subst (IsOrigin behind (Some (Must p))) (same_Some i m at) (record {
      node = change i t.sound.node;
      at = own_node;
      backed = λ s e. absurd (let f : Must p ≡ NotMay s = same_Some _ _ e in cc);
    })
    must_origin p (suc j) m at = absurd (none-some m at)

    -- a leader, and its group
    module _ (is_none_low : shut ≡ how.NotMay None) where
      abbrev l : ℕ
      l = level_in (slice_get old.nodes i)

      lead_anchored : IsAnchored later l i
      lead_anchored = lead (change i t.sound.node) own_node (own_level ∙ sym level_is)
          (subst (LeansFrom l) (sym (own_closed ∙ ap Some is_none_low)) tt)

      members : AllOf (λ (x : ℕ). is_member old.nodes i l x ≡ true) (group old.nodes i l)
      members = all_in_group old.nodes i l

      there : AllOf (λ (x : ℕ). (y : Node) × (slice_get old.nodes x ≡ Some y)) (group old.nodes i l)
      there = group_there old.nodes i l

      group_origin : (j m : ℕ) → slice_get (group old.nodes i l) j ≡ Some m →
          IsOrigin behind (slice_get (map NotMay (queries_at old.nodes (group old.nodes i l))) j) m
      group_origin j m at =
          let x = all_at (λ (k : ℕ). (y : Node) × (slice_get old.nodes k ≡ Some y)) (group old.nodes i l) j m there at in
          let y = stay m x.0 x.1 in
          let member = all_at (λ (k : ℕ). is_member old.nodes i l k ≡ true) (group old.nodes i l) j m members at in
          record {
            node = y.0;
            at = y.1;
            backed = λ s e.
                let q = at_query old.nodes (group old.nodes i l) there j m s at e in
                inr (
                  y.2.query ∙ (ap (λ (z : Node). z.query) (same_Some x.0 q.0 (sym x.1 ∙ q.1)) ∙ q.2),
                  l,
                  member_anchored old.nodes later stay i l lead_anchored (suc m) m member,
                );
          }

      lead_origin : (j m : ℕ) → slice_get (i ∷ group old.nodes i l) j ≡ Some m →
          IsOrigin behind (slice_get (NotMay t.sound.node.query ∷ map NotMay (queries_at old.nodes (group old.nodes i l))) j) m
      lead_origin zero m at = subst (IsOrigin behind (Some (NotMay t.sound.node.query))) (same_Some i m at) (record {
        node = change i t.sound.node;
        at = own_node;
        backed = λ s e. inr (own_same ∙ (let f : NotMay t.sound.node.query ≡ NotMay s = same_Some _ _ e in cc), l, lead_anchored);
      })
      lead_origin (suc j) m at = group_origin j m at

    -- what is appended, by as what the query closed
    abbrev Placed' : ClosedAs → Type 0
    Placed' x = (length (closed_ids old.nodes i (level_in (slice_get old.nodes i)) x) ≡ length ss)
        × ((j m : ℕ) → slice_get (closed_ids old.nodes i (level_in (slice_get old.nodes i)) x) j ≡ Some m →
        IsOrigin behind (slice_get ss j) m)

    must_places : (c : Closing) → how.Must ≡ closed_how R t.sound.node.level t.job.state c → ss ≡ appended R old.nodes i t.sound.node
        how.Must c →
        Placed' how.Must
    must_places closing.NotMay e a = absurd cc
    must_places (closing.Must p) e a = (
      sym (ap length a),
      λ j m at. subst (λ xs. IsOrigin behind (slice_get xs j) m) (sym a)
          (must_origin p j m at),
    )
    must_places (closing.Stuck kind) e a = absurd cc

    places : (x : ClosedAs) → shut ≡ x → ss ≡ appended R old.nodes i t.sound.node x t.closing →
        x ≡ closed_how R t.sound.node.level t.job.state t.closing → Placed' x
    places (how.NotMay None) e a c =
        let same : ss ≡ NotMay t.sound.node.query
        ∷ map NotMay (queries_at old.nodes (group old.nodes i (level_in (slice_get old.nodes i)))) =
        a ∙ ap (λ l. NotMay t.sound.node.query ∷ map NotMay (queries_at old.nodes (group old.nodes i l))) (sym level_is) in (
          sym (ap length same ∙ ap suc (queries_many old.nodes (group old.nodes i (level_in (slice_get old.nodes i))) (there e))),
          λ j m at. subst (λ xs. IsOrigin behind (slice_get xs j) m) (sym same) (lead_origin e j m at),
        )
    places (how.NotMay (Some j)) e a c = (sym (ap length a), λ k m at. absurd (none-some m at))
    places how.Must e a c = must_places t.closing c a
    places (how.Stuck kind) e a c = (sym (ap length a), λ k m at. absurd (none-some m at))

    close_origins : (ids : List ℕ) → HasOrigins old ids → HasOrigins new (ids ++ closed_ids old.nodes i (level_in (slice_get old.nodes i))
        shut)
    close_origins ids h =
        let p = places shut refl t.appends t.told in
        let same : new ≡ behind = now in
        subst (λ (c : Core S). HasOrigins c (ids ++ closed_ids old.nodes i (level_in (slice_get old.nodes i)) shut)) (sym same)
        (extend old behind ids (closed_ids old.nodes i (level_in (slice_get old.nodes i)) shut) ss refl refl p.0 stay
        (said_on old.history (closed w i n shut ss)) p.1 h)
      where
        now : new ≡ behind
        now = t.new_is ∙ (λ x. record {
          entries = ap (λ (c : Core S). c.entries) (sym t.new_is) x;
          nodes = (sym (ap (λ (c : Core S). c.nodes) t.new_is) ∙ event_nodes R old new (closed w i n shut ss) t) x;
          kept = old.kept;
          table = old.table ++ ss;
          history = old.history ++ closed w i n shut ss ∷ [];
          is_stopped = old.is_stopped;
        })

  -- Each event

  abbrev Goes : Core S → Told → Core S → List ℕ → Type 0
  Goes old e new ids = HasOrigins new (ids ++ ids_of old.nodes e)

  abbrev with_said : Core S → (w i : ℕ) → Summary → Core S
  with_said old w i s = record {
    entries = old.entries;
    nodes = old.nodes;
    kept = old.kept;
    table = old.table ++ s ∷ [];
    history = old.history ++ said w i s ∷ [];
    is_stopped = old.is_stopped;
  }

  event_origins : (roots : ℕ) (old : Core S) (e : Told) (new : Core S) → Keeps R roots old → Event R old e new → (ids : List ℕ) →
      HasOrigins old ids → Goes old e new ids
  event_origins roots old (took w i left steps waiting) new k t ids h =
      subst (λ (c : Core S). Goes old (took w i left steps waiting) c ids) (sym t.new_is) (quiet old _ (took w i left steps waiting) ids h)
  event_origins roots old (said w i s) new k t ids h =
      subst (λ (c : Core S). Goes old (said w i s) c ids) (sym t.new_is)
      (extend old (with_said old w i s) ids (i ∷ []) (s ∷ []) refl refl refl (stays_same old.nodes) (said_on old.history (said w i s)) one
      h)
    where
      one : (j m : ℕ) → slice_get (i ∷ []) j ≡ Some m → IsOrigin (with_said old w i s) (slice_get (s ∷ []) j) m
      one zero m at = record {
        node = t.node;
        at = subst (λ x. slice_get old.nodes x ≡ Some t.node) (same_Some i m at) t.node_at;
        backed = λ q e. inl (said_more old.history (said w i s) m
            ∙ or_first (m == i) (has_said old.history m) (eq-eqb m i (sym (same_Some i m at))));
      }
      one (suc j) m at = absurd (none-some m at)
  event_origins roots old (asked w i n c q) new k t ids h =
      subst (λ (c' : Core S). Goes old (asked w i n c q) c' ids) (sym t.new_is)
      (extend old (record {
        entries = _;
        nodes = old.nodes ++ node_below R i t.sound.node q ∷ [];
        kept = old.kept;
        table = old.table ++ [];
        history = old.history ++ asked w i n c q ∷ [];
        is_stopped = old.is_stopped;
      }) ids [] [] refl refl refl (stays_pushed old.nodes (node_below R i t.sound.node q)) (said_on old.history (asked w i n c q))
      (λ j m at. absurd (none-some m at)) h)
  event_origins roots old (fed w i n c) new k t ids h =
      subst (λ (c' : Core S). Goes old (fed w i n c) c' ids) (sym t.new_is) (quiet old _ (fed w i n c) ids h)
  event_origins roots old (parked w i n r) new k t ids h =
      subst (λ (c : Core S). Goes old (parked w i n r) c ids) (sym t.new_is) (quiet old _ (parked w i n r) ids h)
  event_origins roots old (closed w i n shut ss) new k t ids h = close_origins roots old new k w i n shut ss t ids h
  event_origins roots old (stopped w) new k t ids h =
      subst (λ (c : Core S). Goes old (stopped w) c ids) (sym t.2)
      (extend old (record {
        entries = old.entries;
        nodes = old.nodes;
        kept = old.kept;
        table = old.table;
        history = old.history ++ stopped w ∷ [];
        is_stopped = true;
      }) ids [] [] refl (sym (append-nil old.table)) refl (stays_same old.nodes) (said_on old.history (stopped w))
      (λ j m at. absurd (none-some m at)) h)

  -- Runs

  run_origins : IsLawful R → (roots : ℕ) (es : List Told) (old new : Core S) → Reached R old es new → Keeps R roots old → (ids : List ℕ) →
      HasOrigins old ids → HasOrigins new (ids ++ origins_from old.nodes es)
  run_origins g roots [] old new r k ids h =
      subst (λ (c : Core S). HasOrigins c (ids ++ [])) (sym r) (subst (HasOrigins old) (sym (append-nil ids)) h)
  run_origins g roots (e ∷ es) old new r k ids h =
      let w = event_origins roots old e r.0 k r.1 ids h in
      let rest = run_origins g roots es r.0 new r.2 (event_keeps R g roots old r.0 e k r.1) (ids ++ ids_of old.nodes e) w in
      subst (HasOrigins new) (append_assoc ids (ids_of old.nodes e) (origins_from (nodes_after old.nodes e) es))
      (subst (λ ns. HasOrigins new ((ids ++ ids_of old.nodes e) ++ origins_from ns es)) (event_nodes R old r.0 e r.1) rest)

  opening_table : (grant : ℕ) (ss : List S) (c : Core S) → c.table ≡ c.kept →
      (opening R grant ss c).table ≡ (opening R grant ss c).kept
  opening_table grant [] c same = same
  opening_table grant (s ∷ ss) c same = opening_table grant ss (record c {
    entries = after_root c.entries grant s;
    nodes = c.nodes ++ node_of_root R s ∷ [];
  }) same

pub board_origins : (b : Shown) → IsBoard b → HasOrigins b.core (origins_of b)
board_origins b h =
    let R = reads b.graphs in
    let g : IsLawful (reads b.graphs) = states_lawful b.graphs h.linked in
    let o = h.opening in
    let begun : Keeps (reads b.graphs) (length o.roots)
    (opening (reads b.graphs) b.budget o.roots (first_board (reads b.graphs) h.opened.kept)) =
    opening_keeps (reads b.graphs) g b.budget h.some (omega (arith, h.most)) o.roots
    (roots_are b.graphs b.main 0 o.roots o.are_roots) h.opened.kept o.kept_hold in
    let kept : Keeps (reads b.graphs) (length o.roots) h.opened = subst (Keeps (reads b.graphs) (length o.roots)) (sym o.is) begun in
    let same : h.opened.table ≡ h.opened.kept =
    subst (λ (c : Core Seen). c.table ≡ c.kept) (sym o.is)
    (opening_table (reads b.graphs) b.budget o.roots (first_board (reads b.graphs) h.opened.kept) refl) in
    subst (λ ns. HasOrigins b.core (origins_from ns b.core.history)) (opened_nodes b h)
    (run_origins (reads b.graphs) g (length o.roots) b.core.history h.opened b.core h.reached kept []
    (record {
      count = let many = ap (λ (ks : List Summary). length ks) same in omega (arith, many);
      from = λ p i at. absurd (none-some i at);
    }))
