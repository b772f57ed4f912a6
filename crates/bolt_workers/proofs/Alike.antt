-- Boards of one program with one history are alike: each event says all of what it makes of a board, but for the states that are stored.
use Rattle.std.proofs.Common.{◌≡◌, ℕ, suc, List, [], ◌∷◌, ◌++◌, length, map, true, false, Some, None, refl, sym, ap, ◌∙◌, subst}
use Rattle.std.specs.Prelude.{slice_get}
use Rattle.std.proofs.lemmas.Option.{same_Some}
use Rattle.query_tree.specs.declared.Entry.{Entry}
use Rattle.query_tree.specs.Forest.{after_ask, after_back, after_close, after_feed, after_root, after_take, changed}
use Rattle.flow_graph.specs.declared.graph.Graph.{Graph}
use Rattle.summary_form.specs.declared.query.Query.{Query}
use Rattle.summary_form.specs.declared.summary.Summary.{Summary}
use Rattle.query_rules.specs.Seen.{Seen}
use Rattle.bolt_core.specs.Boards.{AreRootsOf, IsBoard, IsOpening, IsRootOf, SameProgram, Shown}
use Rattle.bolt_core.specs.Groups.{Node, closed_at}
use Rattle.bolt_core.specs.Histories.{Told, asked, closed, fed, parked, said, stopped, took}
use Rattle.bolt_core.specs.Machine.{Core, Event, IsSince, IsSound, Job, Reached, Reads, first_board, node_below, node_of_root, opening, shows, told_child, with_event, with_nodes}
use Rattle.bolt_core.specs.States.{reads}
use Rattle.bolt_core.proofs.Staying.{reached_kept}
use Rattle.bolt_workers.specs.Later.{AreAlike, HistoriesTell}
use Rattle.bolt_workers.proofs.Bare.{Alike, AllAlike, asks_alike, backs_alike, closes_alike, feeds_alike, own_alike, roots_alike, takes_alike}

module _ {S : Type 0} where
  pub same_alike : (c : Core S) → AreAlike c c
  same_alike c = record { entries = refl; nodes = refl; kept = refl; table = refl; history = refl; stopped = refl }

  to_alike : (c d x y : Core S) → c ≡ x → d ≡ y → AreAlike x y → AreAlike c d
  to_alike c d x y e f a = subst (λ (z : Core S). AreAlike z d) (sym e) (subst (λ (z : Core S). AreAlike x z) (sym f) a)

module _ {S : Type 0} (R : Reads S) where
  -- what an event at the entries alone makes
  event_alike : (c d c' d' : Core S) (es fs : List (Entry S)) (e : Told) → AreAlike c d → AllAlike es fs → c' ≡ with_event R c es e →
      d' ≡ with_event R d fs e → AreAlike c' d'
  event_alike c d c' d' es fs e a b x y = to_alike c' d' (with_event R c es e) (with_event R d fs e) x y (record {
    entries = b;
    nodes = a.nodes;
    kept = a.kept;
    table = a.table;
    history = ap (λ (h : List Told). h ++ e ∷ []) a.history;
    stopped = a.stopped;
  })

  nodes_alike : (c d c' d' : Core S) (es fs : List (Entry S)) (ns ms : List Node) (ss : List Summary) (e : Told) → AreAlike c d →
      AllAlike es fs → ns ≡ ms → c' ≡ with_nodes R c es ns ss e → d' ≡ with_nodes R d fs ms ss e → AreAlike c' d'
  nodes_alike c d c' d' es fs ns ms ss e a b n x y = to_alike c' d' (with_nodes R c es ns ss e) (with_nodes R d fs ms ss e) x y (record {
    entries = b;
    nodes = n;
    kept = a.kept;
    table = ap (λ (ts : List Summary). ts ++ ss) a.table;
    history = ap (λ (h : List Told). h ++ e ∷ []) a.history;
    stopped = a.stopped;
  })

  module _ (c d : Core S) (a : AreAlike c d) (i : ℕ) (j k : Job S) (own its : Entry S) (s : IsSince R c j own) (t : IsSince R d k its)
      (e : j.id ≡ i) (f : k.id ≡ i) where
    owns_alike : Alike own its
    owns_alike = own_alike c.entries d.entries a.entries i own its
        (subst (λ (n : ℕ). slice_get c.entries n ≡ Some own) e s.at) (subst (λ (n : ℕ). slice_get d.entries n ≡ Some its) f t.at)

    nodes_same : (u : IsSound R c.kept c.history c.nodes j) → (v : IsSound R d.kept d.history d.nodes k) → u.node ≡ v.node
    nodes_same u v = same_Some u.node v.node
        (sym u.node_at ∙ (ap (λ (n : ℕ). slice_get c.nodes n) (e ∙ sym f) ∙ (ap (λ (ns : List Node). slice_get ns k.id) a.nodes
        ∙ v.node_at)))

  step_alike : (c d c' d' : Core S) (e : Told) → AreAlike c d → Event R c e c' → Event R d e d' → AreAlike c' d'
  step_alike c d c' d' (took w i left steps waiting) a t u =
      event_alike c d c' d' (after_take c.entries i) (after_take d.entries i) (took w i left steps waiting) a
      (takes_alike c.entries d.entries a.entries i) t.new_is u.new_is
  step_alike c d c' d' (said w i s) a t u =
      nodes_alike c d c' d' c.entries d.entries c.nodes d.nodes (s ∷ []) (said w i s) a a.entries a.nodes t.new_is u.new_is
  step_alike c d c' d' (asked w i n child q) a t u =
      let o = owns_alike c d a i t.job u.job t.own u.own t.since u.since t.id u.id in
      let v = nodes_same c d a i t.job u.job t.own u.own t.since u.since t.id u.id t.sound u.sound in
      nodes_alike c d c' d' (after_ask c.entries t.own i n (told_child R t.job.state child) t.child)
      (after_ask d.entries u.own i n (told_child R u.job.state child) u.child)
      (c.nodes ++ node_below R i t.sound.node q ∷ []) (d.nodes ++ node_below R i u.sound.node q ∷ []) [] (asked w i n child q) a
      (asks_alike c.entries d.entries a.entries t.own u.own o i n (told_child R t.job.state child) (told_child R u.job.state child) t.child
      u.child)
      (ap (λ (ns : List Node). ns ++ node_below R i t.sound.node q ∷ []) a.nodes
      ∙ ap (λ (x : Node). d.nodes ++ node_below R i x q ∷ []) v)
      t.new_is u.new_is
  step_alike c d c' d' (fed w i n child) a t u =
      let o = owns_alike c d a i t.job u.job t.own u.own t.since u.since t.id u.id in
      event_alike c d c' d' (after_feed c.entries t.own i n t.job.state child t.child) (after_feed d.entries u.own i n u.job.state child
      u.child)
      (fed w i n child) a
      (feeds_alike c.entries d.entries a.entries t.own u.own o t.child u.child
      (own_alike c.entries d.entries a.entries child t.child u.child t.child_at u.child_at) i n child t.job.state u.job.state)
      t.new_is u.new_is
  step_alike c d c' d' (parked w i n r) a t u =
      let o = owns_alike c d a i t.job u.job t.own u.own t.since u.since t.id u.id in
      event_alike c d c' d' (after_back c.entries t.own i n r t.job.state) (after_back d.entries u.own i n r u.job.state) (parked w i n r) a
      (backs_alike c.entries d.entries a.entries t.own u.own o i n r t.job.state u.job.state) t.new_is u.new_is
  step_alike c d c' d' (closed w i n how ss) a t u =
      let o = owns_alike c d a i t.job u.job t.own u.own t.since u.since t.id u.id in
      let v = nodes_same c d a i t.job u.job t.own u.own t.since u.since t.id u.id t.sound u.sound in
      nodes_alike c d c' d' (after_close c.entries t.own i n t.job.state (length c.history))
      (after_close d.entries u.own i n u.job.state (length d.history))
      (changed (closed_at c.nodes i how (shows R how) t.sound.node.level) c.nodes)
      (changed (closed_at d.nodes i how (shows R how) u.sound.node.level) d.nodes) ss (closed w i n how ss) a
      (subst (λ (stamp : ℕ). AllAlike (after_close c.entries t.own i n t.job.state (length c.history))
      (after_close d.entries u.own i n u.job.state stamp)) (ap (λ (h : List Told). length h) a.history)
      (closes_alike c.entries d.entries a.entries t.own u.own o i n t.job.state u.job.state (length c.history)))
      (ap (λ (ns : List Node). changed (closed_at ns i how (shows R how) t.sound.node.level) ns) a.nodes
      ∙ ap (λ (x : Node). changed (closed_at d.nodes i how (shows R how) x.level) d.nodes) v)
      t.new_is u.new_is
  step_alike c d c' d' (stopped w) a t u =
      to_alike c' d' (record c { history = c.history ++ stopped w ∷ []; is_stopped = true })
      (record d { history = d.history ++ stopped w ∷ []; is_stopped = true }) t.2 u.2 (record {
        entries = a.entries;
        nodes = a.nodes;
        kept = a.kept;
        table = a.table;
        history = ap (λ (h : List Told). h ++ stopped w ∷ []) a.history;
        stopped = refl;
      })

  pub reached_alike : (es : List Told) (c d c' d' : Core S) → AreAlike c d → Reached R c es c' → Reached R d es d' → AreAlike c' d'
  reached_alike [] c d c' d' a t u = to_alike c' d' c d t u a
  reached_alike (e ∷ es) c d c' d' a t u =
      reached_alike es t.0 u.0 c' d' (step_alike c d t.0 u.0 e a t.1 u.1) t.2 u.2

  -- boards that open with roots of the same queries
  pub openings_alike : (grant : ℕ) (ss ts : List S) (c d : Core S) → map R.query ss ≡ map R.query ts → AreAlike c d →
      AreAlike (opening R grant ss c) (opening R grant ts d)
  openings_alike grant [] [] c d q a = a
  openings_alike grant [] (t ∷ ts) c d q a = absurd (cc)
  openings_alike grant (s ∷ ss) [] c d q a = absurd (cc)
  openings_alike grant (s ∷ ss) (t ∷ ts) c d q a =
      let x : R.query s ≡ R.query t = cc in
      let y : map R.query ss ≡ map R.query ts = cc in
      openings_alike grant ss ts
      (record c { entries = after_root c.entries grant s; nodes = c.nodes ++ node_of_root R s ∷ [] })
      (record d { entries = after_root d.entries grant t; nodes = d.nodes ++ node_of_root R t ∷ [] }) y (record {
        entries = roots_alike c.entries d.entries a.entries grant s t;
        nodes = ap (λ (ns : List Node). ns ++ node_of_root R s ∷ []) a.nodes
            ∙ ap (λ (z : Query). d.nodes ++ record { parent = None; level = 0; query = z; closed = None; published = false } ∷ []) x;
        kept = a.kept;
        table = a.table;
        history = a.history;
        stopped = a.stopped;
      })

  -- Runs

  pub reached_parts : (es fs : List Told) (c d : Core S) → Reached R c (es ++ fs) d → (mid : Core S) × Reached R c es mid × Reached R mid fs
      d
  reached_parts [] fs c d r = (c, refl, r)
  reached_parts (e ∷ es) fs c d r =
      let p = reached_parts es fs r.0 d r.2 in
      (p.0, (r.0, r.1, p.1), p.2)

  pub opening_history : (grant : ℕ) (ss : List S) (c : Core S) → (opening R grant ss c).history ≡ c.history
  opening_history grant [] c = refl
  opening_history grant (s ∷ ss) c =
      opening_history grant ss (record c { entries = after_root c.entries grant s; nodes = c.nodes ++ node_of_root R s ∷ [] })

-- Roots of one program

root_query_same : (gs : List Graph) (main k : ℕ) (s t : Seen) → IsRootOf gs main k s → IsRootOf gs main k t → s.query ≡ t.query
root_query_same gs main k s t a b = sym a.shows.query ∙ b.shows.query

roots_same : (gs : List Graph) (main k : ℕ) (ss ts : List Seen) → length ss ≡ length ts → AreRootsOf gs main k ss →
    AreRootsOf gs main k ts →
    map (λ (s : Seen). s.query) ss ≡ map (λ (s : Seen). s.query) ts
roots_same gs main k [] [] l a b = refl
roots_same gs main k [] (t ∷ ts) l a b = absurd (cc)
roots_same gs main k (s ∷ ss) [] l a b = absurd (cc)
roots_same gs main k (s ∷ ss) (t ∷ ts) l a b =
    let n : length ss ≡ length ts = cc in
    let x : s.query ≡ t.query = root_query_same gs main k s t a.0 b.0 in
    let y : map (λ (z : Seen). z.query) ss ≡ map (λ (z : Seen). z.query) ts = roots_same gs main (suc k) ss ts n a.1 b.1 in
    cc

module _ (b : Shown) (c d : Core Seen) (x : IsOpening b c) (y : IsOpening b d) where
  pub opened_alike : c.kept ≡ d.kept → AreAlike c d
  opened_alike same =
      let R = reads b.graphs in
      let first : AreAlike (first_board R c.kept) (first_board R d.kept) =
      subst (λ (ks : List Summary). AreAlike (first_board R c.kept) (first_board R ks)) same (same_alike (first_board R c.kept)) in
      to_alike c d (opening R b.budget x.roots (first_board R c.kept)) (opening R b.budget y.roots (first_board R d.kept)) x.is y.is
      (openings_alike R b.budget x.roots y.roots (first_board R c.kept) (first_board R d.kept)
      (roots_same b.graphs b.main 0 x.roots y.roots (x.count ∙ sym y.count) x.are_roots y.are_roots) first)

-- what is of the same program is this board with another core
pub with_core : (a b : Shown) → SameProgram a b → record a { core = b.core } ≡ b
with_core a b s =
    ap (λ (gs : List Graph). record a { graphs = gs; core = b.core }) (sym s.graphs)
    ∙ (ap (λ (n : ℕ). record b { main = n; asserts = a.asserts; budget = a.budget }) (sym s.main)
    ∙ (ap (λ (n : ℕ). record b { asserts = n; budget = a.budget }) (sym s.asserts)
    ∙ ap (λ (n : ℕ). record b { budget = n }) (sym s.budget)))

-- of one board with two cores
cores_alike : (b : Shown) (c d : Core Seen) → IsBoard (record b { core = c }) → IsBoard (record b { core = d }) → d.kept ≡ c.kept →
    d.history ≡ c.history → AreAlike c d
cores_alike b c d x y same e =
    let R = reads b.graphs in
    let kept : x.opened.kept ≡ y.opened.kept =
    sym (reached_kept R x.opened c c.history x.reached) ∙ (sym same ∙ reached_kept R y.opened d d.history y.reached) in
    reached_alike R c.history x.opened y.opened c d
    (opened_alike b x.opened y.opened
    (record {
      roots = x.opening.roots;
      count = x.opening.count;
      are_roots = x.opening.are_roots;
      kept_hold = x.opening.kept_hold;
      is = x.opening.is;
    })
    (record {
      roots = y.opening.roots;
      count = y.opening.count;
      are_roots = y.opening.are_roots;
      kept_hold = y.opening.kept_hold;
      is = y.opening.is;
    }) kept)
    x.reached (subst (λ (h : List Told). Reached R y.opened h d) e y.reached)

pub histories_tell : HistoriesTell
histories_tell a b x y s e =
    cores_alike a a.core b.core x (subst IsBoard (sym (with_core a b s)) y) s.kept e
