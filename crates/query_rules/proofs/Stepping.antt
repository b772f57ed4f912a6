-- Each step of a query keeps what its state keeps, and a closed state answers.
use Rattle.std.proofs.Common.{◌≡◌, ◌⊎◌, inl, inr, ⊎_elim, ℕ, zero, suc, ◌+◌, ◌<◌, ◌≤◌, List, [], ◌∷◌, ◌++◌, drop, length, Option, Some, None, Bool, true, false, ◌==◌, arith, refl, sym, subst, ap, ◌∙◌, ℤ}
use Rattle.std.specs.Prelude.{slice_get, slice_set, IsTrue}
use Rattle.std.specs.List.{list_all}
use borrow.Author.Tests.{eqb-true, not-true, eqb-false}
use Rattle.std.proofs.lemmas.List.{drop-append-le, length-append, length-set}
use Rattle.std.proofs.Math.ListN.{drop_of_length-le}
use Rattle.std.proofs.lemmas.Bool.{cases_lt}
use Rattle.std.proofs.lemmas.Option.{same_Some, none-some}
use Rattle.c_tree.specs.Meaning.{State}
use Rattle.linear_formula.specs.LinearSum.{Valuation}
use Rattle.linear_formula.specs.Formula.{HoldsAll}
use Rattle.linear_formula.specs.declared.formula.Atom.{Atom}
use Rattle.flow_graph.specs.declared.graph.Graph.{Graph}
use Rattle.flow_graph.specs.declared.graph.Edge.{Edge}
use Rattle.flow_graph.specs.declared.graph.Edge.TheVariants.{Entry, Assign, Guard, Input, Pick, Call, Assert, Return}
use Rattle.flow_graph.specs.Linked.{AreGraphs}
use Rattle.flow_graph.specs.WellFormed.{IsGraph, first_node}
use Rattle.flow_graph.specs.Runs.{inside, left, failing, halted, Called, Step, GraphRun}
use Rattle.flow_graph.specs.Columns.{columns_of, rows_name_only, is_value_column, first_entry}
use Rattle.flow_graph.proofs.Slots.{entry_edge}
use Rattle.summary_form.specs.declared.query.Query.{Query}
use Rattle.summary_form.specs.declared.query.ExitKind.{ExitKind}
use Rattle.summary_form.specs.declared.query.ExitKind.TheVariants as kind
use Rattle.summary_form.specs.Instances.{graph_runs, arity_of}
use Rattle.summary_form.specs.NotMays.{NotMayWithin, NotMayHolds, Fits}
use Rattle.summary_form.specs.Answering.{AnswersNo}
use Rattle.may_partition.specs.declared.region.Region.{Region}
use Rattle.may_partition.specs.declared.region.RegionEdge.{RegionEdge}
use Rattle.may_partition.specs.Parted.{Parted, split_region, split_regions, pieces, begin_parted, left_out, end_node, region, beginning}
use Rattle.may_partition.specs.Spots.{Spot, outside, standing, spot_node, spot_columns, Goes, leaves_out, is_out}
use Rattle.may_partition.specs.Fitting.{AreFit, is_fit, is_fit_both, node_column}
use Rattle.may_partition.proofs.Pieces.{lookup_append, lookup_set}
use Rattle.may_partition.proofs.Splitting.{placed_split, parent_old, parent_new}
use Rattle.may_partition.proofs.Numbers.{CameFrom, split_came, split_old, split_one}
use Rattle.may_partition.proofs.Beginning.{begin_crosses, begin_covers, region_node, region_there}
use Rattle.may_partition.proofs.Fitting.{split_fits}
use Rattle.may_partition.proofs.Connected.{kill_connected, split_connected, begin_connected}
use Rattle.call_bridge.specs.Calls.{LiesBehind}
use Rattle.query_rules.specs.declared.step.Asked.{Asked}
use Rattle.query_rules.specs.declared.step.News.TheVariants as news
use Rattle.query_rules.specs.Conditional.{AllNotMay, Gives}
use Rattle.query_rules.specs.Leaning.{leaned, levels_of}
use Rattle.query_rules.specs.Paths.{HasNoPath, target_region}
use Rattle.query_rules.specs.Rows.{call_exit}
use Rattle.query_rules.specs.States.{IsTrueNews}
use Rattle.query_rules.specs.Steps.{updated}
use Rattle.query_rules.specs.invariants.Soundness.{Wanted, IsSound, HasOneTarget, HasOneOutside}
use Rattle.query_rules.specs.invariants.Keeping.{Core, Asks, Keeps, IsOutside, AreFitAtExit, killed, split, asked_of, updated_core, begin_core}
use Rattle.query_rules.proofs.Discharging.{graphs_deepen, discharge, alone, given, all_split}
use Rattle.query_rules.proofs.Fitted.{start_fits, end_fits, end_at_exit}
use Rattle.query_rules.proofs.Killing.{IsIdle, IsCutBy, sound_kill, sound_split, idle_call}
use Rattle.query_rules.proofs.Leaned.{entails_not_may, leaned_left, leaned_right, leaned_at}
use Rattle.query_rules.proofs.Walking.{closed_not_may, end_there}

-- Smaller regions
lies_smaller : (exit : ExitKind) (results : List ℕ) (s : State) (entry values : List ℤ) (old new : List Atom) →
    ((v : Valuation) → HoldsAll v new → HoldsAll v old) → LiesBehind exit results s entry values new → LiesBehind exit results s entry
    values old
lies_smaller kind.Return results s entry values old new f h = f _ h
lies_smaller (kind.Fail id) results s entry values old new f h = f _ h

asks_split : (g : Graph) (exit : ExitKind) (regions : List Region) (from : ℕ) (atoms : List Atom) → from < length regions →
    (k : RegionEdge) (q : Query) → Asks g exit regions k q → Asks g exit (split_regions regions from atoms) k q
asks_split g exit regions from atoms lt k q a =
    let s = split_old regions from atoms lt k.from a.source a.at_source in
    let t = split_old regions from atoms lt k.to a.target a.at_target in
    record {
      from = a.from;
      to = a.to;
      site = a.site;
      call = a.call;
      source = s.0;
      target = t.0;
      at_source = s.1;
      at_target = t.1;
      kind = a.kind;
      is_kind = subst (λ n. call_exit g.fail exit n ≡ Some a.kind) (sym t.2.same_node) a.is_kind;
      met = record {
        of_procedure = a.met.of_procedure;
        of_exit = a.met.of_exit;
        meets = λ st entry values vs ve vx h l. a.met.meets st entry values vs ve vx (s.2.had (columns_of st entry []) h)
            (lies_smaller a.kind a.site.results st entry values a.target.cube.atoms t.0.cube.atoms t.2.had l);
      };
    }

split_outside : (g : Graph) (regions : List Region) (from : ℕ) (atoms : List Atom) → from < length regions → IsOutside g regions →
    IsOutside g (split_regions regions from atoms)
split_outside g regions from atoms lt out r e =
    let c = split_came regions from atoms lt 0 r e in
    c.2 ∙ out c.0 (subst (λ n. slice_get regions n ≡ Some c.0) (parent_old (length regions) from 0 (omega (arith, lt))) c.1)

-- a region at the exit is no piece
split_at_exit : (exit exits : ℕ) (regions : List Region) (from : ℕ) (atoms : List Atom) → from < length regions → (s : Region) →
    slice_get regions from ≡ Some s → (s.node ≡ exit → ⊥) → AreFitAtExit exit exits regions →
    AreFitAtExit exit exits (split_regions regions from atoms)
split_at_exit exit exits regions from atoms lt s es apart fit a r e n =
    ⊎_elim within (λ past. absurd (apart (came past (split_came regions from atoms lt a r e)))) (cases_lt a (length regions))
  where
    came : length regions ≤ a → CameFrom regions from a r → s.node ≡ exit
    came past c =
        let same : c.0 ≡ s = same_Some c.0 s (sym c.1 ∙ subst (λ m. slice_get regions m ≡ Some s)
        (sym (parent_new (length regions) from a past))
        es)
        in
        ap (λ (x : Region). x.node) (sym same) ∙ sym c.2 ∙ n

    kept : Region
    kept = region s.node (s.cube.atoms ++ atoms)

    here : slice_get (slice_set regions from kept) a ≡ Some r → IsTrue (rows_name_only (is_value_column first_entry exits) r.cube.atoms)
    here h = ⊎_elim (λ k. absurd (apart (ap (λ (x : Region). x.node) (sym k.1) ∙ n))) (λ k. fit a r k n)
        (lookup_set regions from a kept r h)

    within : a < length regions → IsTrue (rows_name_only (is_value_column first_entry exits) r.cube.atoms)
    within le =
        ⊎_elim (λ u. here u.1) (λ u. absurd (omega (arith, le, u.1, length-set regions from kept)))
        (lookup_append (slice_set regions from kept) a (pieces s.node s.cube.atoms atoms) r
        (subst (λ o. slice_get (split_region regions from atoms o) a ≡ Some r) es e))

-- Asked entries
-- what an entry was before one of them changed
abbrev Was : (Asked → Asked) → List Asked → ℕ → ℕ → Asked → Type 0
Was f asked i j a = (b : Asked) × (slice_get asked j ≡ Some b) × (((j ≡ i) × (f b ≡ a)) ⊎ (b ≡ a))

entry_at : (f : Asked → Asked) (asked : List Asked) (i j : ℕ) (a : Asked) → slice_get (updated f asked i) j ≡ Some a → Was f asked i j a
entry_at f [] i j a e = absurd (none-some a e)
entry_at f (b ∷ asked) zero zero a e = (b, refl, inl (refl, same_Some (f b) a e))
entry_at f (b ∷ asked) zero (suc j) a e = (a, e, inr refl)
entry_at f (b ∷ asked) (suc i) zero a e = (b, refl, inr (same_Some b a e))
entry_at f (b ∷ asked) (suc i) (suc j) a e =
    let r = entry_at f asked i j a e in
    (r.0, r.1, ⊎_elim (λ h. inl (ap suc h.0, h.1)) (λ h. inr h) r.2)

module _ (gs : List Graph) (linked : AreGraphs gs) (g : Graph) (q : Query) (at : slice_get gs q.proc ≡ Some g)
    (ok : IsGraph g.nodes g.exit g.fail g.params g.exits g.slots g.edges) (ancestors : List Query) where
  abbrev Holding : Core → Type 0
  Holding c = Keeps gs g q (levels_of ancestors q) c

  -- Kill
  pub keeps_kill : (c : Core) (k : RegionEdge) (leans : Option ℕ) →
      ((d : ℕ) → AllNotMay (graph_runs gs) d (leaned leans (levels_of ancestors q)) → IsIdle (GraphRun gs d) g q c.parted k) → Holding c →
      Holding (killed k leans c)
  keeps_kill c k leans idle h = record {
    sound = λ d a. sound_kill (GraphRun gs d) g q c.parted k
        (idle d (leaned_right (graph_runs gs) d (levels_of ancestors q) c.lowest leans a))
        (h.sound d (leaned_left (graph_runs gs) d (levels_of ancestors q) c.lowest leans a));
    all = h.all;
    outside = h.outside;
    one_outside = h.one_outside;
    one_target = h.one_target;
    asks = h.asks;
    fit = h.fit;
    exit_fit = h.exit_fit;
    connected = kill_connected g q.exit c.parted k h.connected;
    told = h.told;
  }

  -- a call that asks what has no run of the depth
  idle_asked : (p : Parted) (k : RegionEdge) (asked : Query) → Asks g q.exit p.regions k asked → (d : ℕ) → NotMayWithin (graph_runs gs) d
      asked → IsIdle (GraphRun gs d) g q p k
  idle_asked p k asked a d none = idle_call gs linked g q at ok p k a.from a.to a.site a.call a.source a.target a.at_source
      a.at_target a.kind a.is_kind asked a.met d none

  -- by a not-may of the table
  pub kill_table : (c : Core) (k : RegionEdge) (asked s : Query) → Asks g q.exit c.parted.regions k asked → AnswersNo asked s →
      NotMayHolds (graph_runs gs) s → Holding c → Holding (killed k None c)
  kill_table c k asked s a entails none h =
      keeps_kill c k None (λ d _. idle_asked c.parted k asked a d (entails_not_may gs d asked s entails (none d))) h

  -- by what was reported to an asked entry of the edge
  pub kill_child : (c : Core) (i : ℕ) (a : Asked) (lowest : Option ℕ) → slice_get c.asked i ≡ Some a → a.news ≡ news.NotMay lowest →
      Holding c → Holding (killed a.edge lowest c)
  kill_child c i a lowest e n h = keeps_kill c a.edge lowest (λ d all. idle_asked c.parted a.edge a.query (h.asks i a e) d
      (by_lowest lowest (subst (IsTrueNews gs (levels_of ancestors q) a.query) n (h.told i a e)) d all)) h
    where
      by_lowest : (l : Option ℕ) → IsTrueNews gs (levels_of ancestors q) a.query (news.NotMay l) → (d : ℕ) → AllNotMay (graph_runs gs) d
          (leaned l (levels_of ancestors q)) → NotMayWithin (graph_runs gs) d a.query
      by_lowest None t d all = t d
      by_lowest (Some j) t d all = given (graph_runs gs) (graphs_deepen gs) (leaned (Some j) (levels_of ancestors q)) a.query t d all

  -- by an ancestor, or by the query itself
  pub kill_ancestor : (c : Core) (k : RegionEdge) (asked : Query) (j : ℕ) (s : Query) → Asks g q.exit c.parted.regions k asked →
      slice_get (levels_of ancestors q) j ≡ Some s → AnswersNo asked s → Holding c → Holding (killed k (Some j) c)
  kill_ancestor c k asked j s a e entails h =
      keeps_kill c k (Some j)
      (λ d all. idle_asked c.parted k asked a d (entails_not_may gs d asked s entails (leaned_at (graph_runs gs) d (levels_of ancestors q) j
      s e all)))
      h

  -- Split
  pub keeps_split : (c : Core) (k : RegionEdge) (atoms : List Atom) → k.from < length c.parted.regions → k.to < length c.parted.regions →
      (s : Region) → slice_get c.parted.regions k.from ≡ Some s → (s.node ≡ g.nodes → ⊥) → (s.node ≡ end_node g q.exit → ⊥) →
      (s.node ≡ g.exit → ⊥) → IsTrue (list_all (is_fit_both (node_column g.exit s.node)) atoms) →
      ((d : ℕ) → IsCutBy (GraphRun gs d) g q c.parted k atoms) → Holding c → Holding (split k atoms c)
  keeps_split c k atoms hf ht r er inner before early fit cut h = record {
    sound = λ d a. sound_split (GraphRun gs d) g q c.parted k atoms hf ht (cut d) (h.sound d a);
    all = λ d entry x o. placed_split Spot (spot_node g) (spot_columns entry) c.parted.regions k.from atoms x (h.all d entry x o);
    outside = split_outside g c.parted.regions k.from atoms hf h.outside;
    one_outside = split_one c.parted.regions k.from atoms hf r er g.nodes 0 inner h.one_outside;
    one_target = split_one c.parted.regions k.from atoms hf r er (end_node g q.exit) (target_region g q) before h.one_target;
    asks = λ i a e. asks_split g q.exit c.parted.regions k.from atoms hf a.edge a.query (h.asks i a e);
    fit = split_fits g.exit c.parted.regions k.from atoms r er fit h.fit;
    exit_fit = split_at_exit g.exit g.exits c.parted.regions k.from atoms hf r er early h.exit_fit;
    connected = split_connected g q.exit c.parted k atoms hf h.connected;
    told = h.told;
  }

  -- Ask and tell
  pub keeps_ask : (c : Core) (k : RegionEdge) (asked : Query) → Asks g q.exit c.parted.regions k asked → Holding c →
      Holding (asked_of k asked c)
  keeps_ask c k asked a h = record {
    sound = h.sound;
    all = h.all;
    outside = h.outside;
    one_outside = h.one_outside;
    one_target = h.one_target;
    fit = h.fit;
    exit_fit = h.exit_fit;
    connected = h.connected;
    asks = λ i b e. ⊎_elim (λ o. h.asks i b o.1) (λ n. last_asks n.0 b n.2) (lookup_append c.asked i (entry ∷ []) b e);
    told = λ i b e. ⊎_elim (λ o. h.told i b o.1) (λ n. last_told n.0 b n.2) (lookup_append c.asked i (entry ∷ []) b e);
  }
    where
      entry : Asked
      entry = record { edge = k; query = asked; child = 0; news = news.Waiting }

      last_asks : (j : ℕ) (b : Asked) → slice_get (entry ∷ []) j ≡ Some b → Asks g q.exit c.parted.regions b.edge b.query
      last_asks zero b e = subst (λ (x : Asked). Asks g q.exit c.parted.regions x.edge x.query) (same_Some entry b e) a
      last_asks (suc j) b e = absurd (none-some b e)

      last_told : (j : ℕ) (b : Asked) → slice_get (entry ∷ []) j ≡ Some b → IsTrueNews gs (levels_of ancestors q) b.query b.news
      last_told zero b e = subst (λ (x : Asked). IsTrueNews gs (levels_of ancestors q) x.query x.news) (same_Some entry b e) tt
      last_told (suc j) b e = absurd (none-some b e)

  -- one entry changes, but neither its edge nor its query
  pub keeps_update : (c : Core) (i : ℕ) (f : Asked → Asked) → ((a : Asked) → (f a).edge ≡ a.edge) → ((a : Asked) → (f a).query ≡ a.query) →
      ((a : Asked) → slice_get c.asked i ≡ Some a → IsTrueNews gs (levels_of ancestors q) a.query (f a).news) → Holding c →
      Holding (updated_core f i c)
  keeps_update c i f same_edge same_query is_true h = record {
    sound = h.sound;
    all = h.all;
    outside = h.outside;
    one_outside = h.one_outside;
    one_target = h.one_target;
    asks = λ j a e. asks_of j a (entry_at f c.asked i j a e);
    fit = h.fit;
    exit_fit = h.exit_fit;
    connected = h.connected;
    told = λ j a e. told_as j a (entry_at f c.asked i j a e);
  }
    where
      changed : (b : Asked) → Asks g q.exit c.parted.regions b.edge b.query → Asks g q.exit c.parted.regions (f b).edge (f b).query
      changed b k = subst (λ x. Asks g q.exit c.parted.regions x (f b).query) (sym (same_edge b))
          (subst (λ x. Asks g q.exit c.parted.regions b.edge x) (sym (same_query b)) k)

      asks_of : (j : ℕ) (a : Asked) → Was f c.asked i j a → Asks g q.exit c.parted.regions a.edge a.query
      asks_of j a r =
          ⊎_elim (λ n. subst (λ (x : Asked). Asks g q.exit c.parted.regions x.edge x.query) n.1 (changed r.0 (h.asks j r.0 r.1)))
          (λ n. subst (λ (x : Asked). Asks g q.exit c.parted.regions x.edge x.query) n (h.asks j r.0 r.1)) r.2

      told_as : (j : ℕ) (a : Asked) → Was f c.asked i j a → IsTrueNews gs (levels_of ancestors q) a.query a.news
      told_as j a r =
          ⊎_elim (λ n. subst (λ (x : Asked). IsTrueNews gs (levels_of ancestors q) x.query x.news) n.1
          (subst (λ x. IsTrueNews gs (levels_of ancestors q) x (f r.0).news) (sym (same_query r.0))
          (is_true r.0 (subst (λ m. slice_get c.asked m ≡ Some r.0) n.0 r.1)))) (λ n. subst (λ (x : Asked). IsTrueNews gs
          (levels_of ancestors q) x.query x.news) n (h.told j r.0 r.1)) r.2

  -- A closed state
  module _ (fits : Fits q.proc (arity_of (Some g)) q) (c : Core) (h : Holding c) (none : HasNoPath g q c.parted) where
    closed_at : (d : ℕ) → AllNotMay (graph_runs gs) d (leaned c.lowest (levels_of ancestors q)) → NotMayWithin (graph_runs gs) (suc d) q
    closed_at d a = closed_not_may gs g q at ok fits c.parted d (h.sound d a) (h.all d) h.one_outside h.one_target none

    -- without leaning there is no run
    pub closed_alone : c.lowest ≡ None → NotMayHolds (graph_runs gs) q
    closed_alone e = alone (graph_runs gs) (graphs_deepen gs) q
        (λ d a. closed_at d (subst (λ l. AllNotMay (graph_runs gs) d (leaned l (levels_of ancestors q))) (sym e) tt))

    -- What leans on a level is given by the ancestors from that level on: its own is discharged.
    pub closed_given : (j : ℕ) → c.lowest ≡ Some j → Gives (graph_runs gs) (drop j ancestors) q
    closed_given j e = ⊎_elim (λ lt. leans (omega (arith, lt))) (λ past. none_left past) (cases_lt j (suc (length ancestors))) where
      leans : j ≤ length ancestors → Gives (graph_runs gs) (drop j ancestors) q
      leans le = discharge (graph_runs gs) (graphs_deepen gs) (drop j ancestors) q
          (λ d a own. closed_at d (subst (λ l. AllNotMay (graph_runs gs) d (leaned l (levels_of ancestors q))) (sym e)
          (subst (AllNotMay (graph_runs gs) d) (sym (drop-append-le j ancestors (q ∷ []) le)) (all_split (graph_runs gs) (graphs_deepen gs)
          d (drop j ancestors) (q ∷ []) a (own, tt)))))

      none_left : suc (length ancestors) ≤ j → Gives (graph_runs gs) (drop j ancestors) q
      none_left past d a = closed_at d (subst (λ l. AllNotMay (graph_runs gs) d (leaned l (levels_of ancestors q))) (sym e)
          (subst (AllNotMay (graph_runs gs) d)
          (sym (drop_of_length-le (levels_of ancestors q) (omega (arith, past, length-append ancestors (q ∷ []))))) tt))

-- Begin
-- an assertion of another id leads to no place on the way
out_unwanted : (C : Called) (g : Graph) (q : Query) (entry : List ℤ) (i : ℕ) (x y : Spot) → Wanted q.exit y → Goes C g entry i x y →
    IsTrue (leaves_out g q i) → ⊥
out_unwanted C g q entry i outside outside w go t = go
out_unwanted C g q entry i outside (standing b) w go t =
    let u : IsTrue (is_out q.exit (Some (Entry go.0 go.1))) = subst (λ o. IsTrue (is_out q.exit o))
    (subst (λ j. slice_get g.edges j ≡ Some (Entry go.0 go.1)) (sym go.2) go.3) t in
    by_exit q.exit go.0 go.1 u
  where
    by_exit : (e : ExitKind) (to params : ℕ) → IsTrue (left_out e (Entry to params)) → ⊥
    by_exit kind.Return to params u = cc
    by_exit (kind.Fail id) to params u = cc
out_unwanted C g q entry i (standing (inside n s)) outside w go t = go
out_unwanted C g q entry i (standing (inside n s)) (standing b) w go t =
    let u : IsTrue (left_out q.exit go.0) = subst (λ o. IsTrue (is_out q.exit o)) go.3 t in
    by_exit q.exit go.0 w go.5 u
  where
    by_exit : (x : ExitKind) (e : Edge) → Wanted x (standing b) → Step C e s go.1 b go.2 → IsTrue (left_out x e) → ⊥
    by_exit kind.Return e w st u = cc
    by_exit (kind.Fail id) (Entry to params) w st u = cc
    by_exit (kind.Fail id) (Assign from to slot value) w st u = cc
    by_exit (kind.Fail id) (Guard from to rows) w st u = cc
    by_exit (kind.Fail id) (Input from to slot) w st u = cc
    by_exit (kind.Fail id) (Pick from to slot rows) w st u = cc
    by_exit (kind.Fail id) (Call from to proc args results) w st u = cc
    by_exit (kind.Fail id) (Assert from to other rows) w st u =
        let same : other ≡ id = subst (λ p. Wanted (kind.Fail id) (standing p)) st.1 w in
        eqb-false other id (not-true (other == id) u) same
    by_exit (kind.Fail id) (Return from to slots) w st u = cc
out_unwanted C g q entry i (standing (left vs)) y w go t = go
out_unwanted C g q entry i (standing (failing id s)) y w go t = go
out_unwanted C g q entry i (standing halted) y w go t = go

-- at the beginning the outside lies in region 0 alone
pub begin_outside : (g : Graph) (q : Query) → HasOneOutside g (begin_parted g q)
begin_outside g q zero r e n = refl
begin_outside g q (suc a) r e n = let h = region_node g q 0 g.nodes a r e in absurd (omega (arith, h.0, h.1, n))

module _ (gs : List Graph) (g : Graph) (q : Query) (ok : IsGraph g.nodes g.exit g.fail g.params g.exits g.slots g.edges)
    (fits : Fits q.proc (arity_of (Some g)) q) (levels : List Query) where
  begin_sound : (C : Called) → IsSound C g q (begin_parted g q)
  begin_sound C entry x y i a b ox oy go sx sy =
      ⊎_elim (λ l. inl l) (λ r. ⊎_elim (λ k. inr (inl k)) (λ o. absurd (out_unwanted C g q entry i x y oy.wanted go o)) r)
      (begin_crosses C g q entry ok x y i a b ox.covered oy.covered go sx sy)

  target_one : HasOneTarget g q (begin_parted g q)
  target_one zero r e n = absurd (omega (arith, n, ap (λ (x : Region). x.node) (same_Some _ _ e), end_there g ok q.exit))
  target_one (suc a) r e n = let h = region_node g q 0 g.nodes a r e in omega (arith, h.0, n)

  fit_beginning : (n : ℕ) (t u : Bool) → (n == first_node g.edges) ≡ t → (n == end_node g q.exit) ≡ u →
      IsTrue (list_all (is_fit (node_column g.exit n)) (beginning g q n))
  fit_beginning n true u e f = rw e (start_fits g q ok fits n)
  fit_beginning n false true e f = rw (e, f) (subst (λ m. IsTrue (list_all (is_fit (node_column g.exit m)) q.end.atoms))
      (sym (eqb-true n (end_node g q.exit) f)) (end_fits g q ok fits))
  fit_beginning n false false e f = rw (e, f) refl

  fit_at : AreFit g.exit (begin_parted g q).regions
  fit_at zero r e = subst (λ (x : Region). IsTrue (list_all (is_fit (node_column g.exit x.node)) x.cube.atoms))
      (same_Some (region g.nodes []) r e) refl
  fit_at (suc a) r e =
      let h = region_node g q 0 g.nodes a r e in
      let same : region (0 + a) (beginning g q (0 + a)) ≡ r = same_Some _ _ (sym (region_there g q 0 g.nodes a h.1) ∙ e) in
      subst (λ (x : Region). IsTrue (list_all (is_fit (node_column g.exit x.node)) x.cube.atoms)) same
      (fit_beginning (0 + a) (0 + a == first_node g.edges) (0 + a == end_node g q.exit) refl refl)

  -- the node after the entry is no exit
  entry_apart : first_node g.edges ≡ g.exit → ⊥
  entry_apart e = no_return (ok.are_edges 0 (Entry (first_node g.edges) g.params) (entry_edge g.params g.edges ok.begins)).to_exit where
    no_return : false ≡ (first_node g.edges == g.exit) → ⊥
    no_return h = eqb-false (first_node g.edges) g.exit (sym h) e

  exit_beginning : (t u : Bool) → (g.exit == first_node g.edges) ≡ t → (g.exit == end_node g q.exit) ≡ u →
      IsTrue (rows_name_only (is_value_column first_entry g.exits) (beginning g q g.exit))
  exit_beginning true u e f = absurd (entry_apart (sym (eqb-true g.exit (first_node g.edges) e)))
  exit_beginning false true e f = rw (e, f) (end_at_exit g q ok fits (eqb-true g.exit (end_node g q.exit) f))
  exit_beginning false false e f = rw (e, f) refl

  exit_at : AreFitAtExit g.exit g.exits (begin_parted g q).regions
  exit_at zero r e n = absurd (omega (arith, n, ok.exit_named, ap (λ (x : Region). x.node) (same_Some (region g.nodes []) r e)))
  exit_at (suc a) r e n =
      let h = region_node g q 0 g.nodes a r e in
      let same : region (0 + a) (beginning g q (0 + a)) ≡ r = same_Some _ _ (sym (region_there g q 0 g.nodes a h.1) ∙ e) in
      let there : 0 + a ≡ g.exit = sym h.0 ∙ n in
      subst (λ (x : Region). IsTrue (rows_name_only (is_value_column first_entry g.exits) x.cube.atoms)) same
      (subst (λ m. IsTrue (rows_name_only (is_value_column first_entry g.exits) (beginning g q m))) (sym there)
      (exit_beginning (g.exit == first_node g.edges) (g.exit == end_node g q.exit) refl refl))

  pub begin_keeps : Keeps gs g q levels (begin_core g q)
  begin_keeps = record {
    sound = λ d a. begin_sound (GraphRun gs d);
    all = λ d entry x o. begin_covers (GraphRun gs d) g q entry ok fits.start_names x o.covered;
    outside = λ r e. ap (λ (x : Region). x.node) (sym (same_Some (region g.nodes []) r e));
    one_outside = begin_outside g q;
    one_target = target_one;
    fit = fit_at;
    exit_fit = exit_at;
    connected = begin_connected g q;
    asks = λ i a e. absurd (none-some a e);
    told = λ i a e. absurd (none-some a e);
  }
