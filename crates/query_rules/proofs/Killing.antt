-- Edges that may be killed: no step on the way is over them.
use Rattle.std.proofs.Common.{◌≡◌, ◌⊎◌, inl, inr, ⊎_elim, ℕ, ◌<◌, List, [], ◌++◌, length, map, Option, None, Some, Bool, true, false, not, ◌==◌, ◌&&◌, ℤ, arith, refl, sym, subst, ap, ◌∙◌}
use Rattle.std.specs.Prelude.{slice_get, IsTrue, if◌then◌else◌}
use borrow.Author.Tests.{eqb-true, eqb-false}
use Rattle.std.proofs.lemmas.List.{length-map}
use Rattle.std.proofs.lemmas.Option.{same_Some, none-some}
use Rattle.c_tree.specs.Meaning.{State, entered}
use Rattle.linear_formula.specs.LinearSum.{Valuation, Is64}
use Rattle.linear_formula.specs.Formula.{HoldsAll}
use Rattle.linear_formula.specs.declared.formula.Atom.{Atom}
use Rattle.linear_formula.proofs.Limits.{both, both_in}
use Rattle.flow_graph.specs.Calls.{CallSite, call_edge}
use Rattle.flow_graph.specs.declared.graph.Graph.{Graph}
use Rattle.flow_graph.specs.declared.graph.Edge.{Edge}
use Rattle.flow_graph.specs.declared.graph.Edge.TheVariants.{Entry, Assign, Guard, Input, Pick, Call, Assert, Return}
use Rattle.flow_graph.specs.Shapes.{source, is_call}
use Rattle.flow_graph.specs.Linked.{AreGraphs, takes}
use Rattle.flow_graph.specs.WellFormed.{IsGraph}
use Rattle.flow_graph.specs.Runs.{Place, inside, left, failing, halted, Called, Step, End, came, stopped, failed, after_call, GraphRun}
use Rattle.flow_graph.specs.Columns.{AreValues, AreAllValues, columns_of, no_slots}
use Rattle.flow_graph.specs.Regions.{place_columns, LiesIn, FitsEdge, GoesInto, MeetsBefore}
use Rattle.flow_graph.proofs.Frames.{step_any}
use Rattle.flow_graph.proofs.Numbers.{columns_64, values_64, none_values, no_slot_values}
use Rattle.flow_graph.proofs.Uses.{run_cut, exact}
use Rattle.flow_graph.proofs.Values.{values_map, run_values}
use Rattle.weakest_pre.specs.Predecessors.{HoldsPredecessors}
use Rattle.summary_form.specs.declared.query.Query.{Query}
use Rattle.summary_form.specs.declared.query.ExitKind.{ExitKind}
use Rattle.summary_form.specs.declared.query.ExitKind.TheVariants as kind
use Rattle.summary_form.specs.Instances.{graph_runs, arity_of}
use Rattle.summary_form.specs.Runs.{end_with}
use Rattle.summary_form.specs.NotMays.{NotMayWithin, Meets, read_with}
use Rattle.may_partition.specs.declared.region.Region.{Region}
use Rattle.may_partition.specs.declared.region.RegionEdge.{RegionEdge}
use Rattle.may_partition.specs.Parted.{Parted, kill_edge, split_edge, same_edge}
use Rattle.may_partition.specs.Changes.{Valued}
use Rattle.may_partition.specs.Crossing.{Stands, edge_of, IsSplitBy}
use Rattle.may_partition.specs.Spots.{Spot, outside, standing, spot_node, spot_columns, Goes, IsThere}
use Rattle.may_partition.proofs.Pieces.{holds_append}
use Rattle.may_partition.proofs.Splitting.{split_crosses, not_in}
use Rattle.call_bridge.specs.Calls.{LiesBehind}
use Rattle.query_rules.specs.Rows.{call_exit, failing_exit}
use Rattle.query_rules.specs.invariants.Soundness.{IsEntry, OnWay, Wanted, IsSound, unkilled, none_out}
use Rattle.query_rules.specs.invariants.Keeping.{MeetsCalls}
use Rattle.query_rules.proofs.Walking.{only_live}

-- no step on the way is over the edge between its regions
abbrev pub IsIdle : Called → Graph → Query → Parted → RegionEdge → Type 0
IsIdle C g q p k =
    (entry : List ℤ) (x y : Spot) → OnWay g q entry x → OnWay g q entry y → Goes C g entry k.edge x y → Stands Spot (spot_node g)
    (spot_columns entry) p.regions k.from x → Stands Spot (spot_node g) (spot_columns entry) p.regions k.to y → ⊥

module _ (C : Called) (g : Graph) (q : Query) where
  pub sound_kill : (p : Parted) (k : RegionEdge) → IsIdle C g q p k → IsSound C g q p → IsSound C g q (kill_edge k p)
  sound_kill p k idle sound entry x y i a b ox oy go sx sy =
      inl (both_in (p.live e) (not (same_edge e k)) (only_live (p.live e) (sound entry x y i a b ox oy go sx sy))
      (not_in (same_edge e k) other))
    where
      e : RegionEdge
      e = edge_of i a b

      other : IsTrue (same_edge e k) → ⊥
      other t =
          let u = both (i == k.edge) (a == k.from && b == k.to) t in
          let w = both (a == k.from) (b == k.to) u.1 in
          let same_i : i ≡ k.edge = eqb-true i k.edge u.0 in
          let same_a : a ≡ k.from = eqb-true a k.from w.0 in
          let same_b : b ≡ k.to = eqb-true b k.to w.1 in
          idle entry x y ox oy (subst (λ (j : ℕ). Goes C g entry j x y) same_i go)
          (subst (λ n. Stands Spot (spot_node g) (spot_columns entry) p.regions n x) same_a sx)
          (subst (λ n. Stands Spot (spot_node g) (spot_columns entry) p.regions n y) same_b sy)

  -- every step over the edge between its regions is from a state that meets the atoms
  abbrev pub IsCutBy : Parted → RegionEdge → List Atom → Type 0
  IsCutBy p k atoms = (entry : List ℤ) → IsSplitBy Spot (spot_node g) (spot_columns entry) (OnWay g q entry) (Goes C g entry) none_out p k
      atoms

  pub sound_split : (p : Parted) (k : RegionEdge) (atoms : List Atom) → k.from < length p.regions → k.to < length p.regions →
      IsCutBy p k atoms → IsSound C g q p → IsSound C g q (split_edge k atoms p)
  sound_split p k atoms hf ht cut sound entry = split_crosses Spot (spot_node g) (spot_columns entry) (OnWay g q entry) (Goes C g entry)
      none_out (unkilled p) k atoms hf ht (cut entry) (sound entry)

-- Calls
pub exit_cases : (fail : ℕ) (exit : ExitKind) (node : ℕ) (e : ExitKind) → call_exit fail exit node ≡ Some e →
    ((node ≡ fail → ⊥) × (e ≡ kind.Return)) ⊎ ((node ≡ fail) × (id : ℕ) × (exit ≡ kind.Fail id) × (e ≡ kind.Fail id))
exit_cases fail exit node e h = by_test (node == fail) refl h where
  at_fail : (x : ExitKind) → node ≡ fail → failing_exit x ≡ Some e → ((node ≡ fail → ⊥) × (e ≡ kind.Return))
      ⊎ ((node ≡ fail) × (id : ℕ) × (x ≡ kind.Fail id) × (e ≡ kind.Fail id))
  at_fail kind.Return n k = absurd (none-some e k)
  at_fail (kind.Fail id) n k = inr (n, id, refl, sym (same_Some _ _ k))

  by_test : (t : Bool) → (node == fail) ≡ t → (if t then failing_exit exit else Some kind.Return) ≡ Some e →
      ((node ≡ fail → ⊥) × (e ≡ kind.Return)) ⊎ ((node ≡ fail) × (id : ℕ) × (exit ≡ kind.Fail id) × (e ≡ kind.Fail id))
  by_test true t k = at_fail exit (eqb-true node fail t) k
  by_test false t k = inl (eqb-false node fail t, sym (same_Some _ _ k))

pub takes_entries : (o : Option Graph) (n m : ℕ) → IsTrue (takes o n m) → n ≡ (arity_of o).entries
takes_entries None n m t = absurd cc
takes_entries (Some g) n m t = sym (eqb-true g.params n (both (g.params == n) (g.exits == m) t).0)

pub takes_exits : (o : Option Graph) (n m : ℕ) → IsTrue (takes o n m) → m ≡ (arity_of o).exits
takes_exits None n m t = absurd cc
takes_exits (Some g) n m t = sym (eqb-true g.exits m (both (g.params == n) (g.exits == m) t).1)

-- as many arguments as the called procedure has parameters
fits_call : (gs : List Graph) → AreGraphs gs → (p : ℕ) (g : Graph) → slice_get gs p ≡ Some g →
    (i from to : ℕ) (site : CallSite) →
    slice_get g.edges i ≡ Some (call_edge from to site) → (s : State) → length (map s site.arguments)
    ≡ (arity_of (slice_get gs site.procedure)).entries
fits_call gs linked p g at i from to site e s =
    rw length-map (takes_entries (slice_get gs site.procedure) (length site.arguments) (length site.results)
    (linked p g at i from to site e))

module _ (gs : List Graph) (linked : AreGraphs gs) (g : Graph) (q : Query) (at : slice_get gs q.proc ≡ Some g)
    (ok : IsGraph g.nodes g.exit g.fail g.params g.exits g.slots g.edges) where
  -- the run of a call that the asked query asks for
  called : (d i from to : ℕ) (site : CallSite) → slice_get g.edges i ≡ Some (call_edge from to site) → (asked : Query) →
      asked.proc ≡ site.procedure → NotMayWithin (graph_runs gs) d asked → (s : State) → AreValues s → (ins rest values : List ℤ)
      (end : End) →
      end ≡ end_with asked.exit values → GraphRun gs d site.procedure (map s site.arguments) ins rest end →
      Meets asked (map s site.arguments) (read_with asked.exit values) →
      ⊥
  called d i from to site e asked same none s v ins rest values end k run meets =
      let alone = exact (λ x r. GraphRun gs d site.procedure (map s site.arguments) x r end) ins rest
      (run_cut gs d site.procedure (map s site.arguments) ins rest end run) in
      let exactly : GraphRun gs d site.procedure (map s site.arguments) alone.0 [] (end_with asked.exit values) = subst
      (λ x. GraphRun gs d site.procedure (map s site.arguments) alone.0 [] x) k alone.2 in
      let there : graph_runs gs d site.procedure (map s site.arguments) alone.0 (end_with asked.exit values) = record {
        count = fits_call gs linked q.proc g at
            i from to site e s;
        values = values_map s v site.arguments;
        run = exactly;
      } in
      none (map s site.arguments) alone.0 values (subst (λ x. graph_runs gs d x (map s site.arguments) alone.0 (end_with asked.exit values))
      (sym same) there)
      meets

  -- where the asked query has no run of the calls' depth, no call goes from the source into the target
  idle_step : (d i from to : ℕ) (site : CallSite) → slice_get g.edges i ≡ Some (call_edge from to site) →
      (source target : List Atom) (node : ℕ) (exit : ExitKind) → call_exit g.fail q.exit node ≡ Some exit → (asked : Query) →
      MeetsCalls site exit source target asked → NotMayWithin (graph_runs gs) d asked → (entry : List ℤ) → AreAllValues entry →
      (s : State) → AreValues s → HoldsAll (columns_of s entry []) source → (ins rest : List ℤ) (b : Place) → spot_node g (standing b) <
      g.nodes → Wanted q.exit (standing b) → node ≡ spot_node g (standing b) → HoldsAll (place_columns entry b) target → (end : End) →
      b ≡ after_call to site.results s end → GraphRun gs d site.procedure (map s site.arguments) ins rest end → ⊥
  idle_step d i from to site e source target node exit ex asked ask none entry ve s vs hs ins rest b there wanted nb hb
      (came values) eb run =
      ⊎_elim returns (λ h. absurd (apart (sym (ap (λ x. spot_node g (standing x)) eb) ∙ sym nb ∙ h.0)))
      (exit_cases g.fail q.exit node exit ex)
    where
      apart : to ≡ g.fail → ⊥
      apart = eqb-false to g.fail (sym (ok.are_edges i (call_edge from to site) e).to_fail)

      returns : ((node ≡ g.fail → ⊥) × (exit ≡ kind.Return)) → ⊥
      returns h =
          let kind_of : asked.exit ≡ kind.Return = ask.of_exit ∙ h.1 in
          let good : AreAllValues values = run_values gs d site.procedure (map s site.arguments) ins rest (came values)
          (values_map s vs site.arguments) run in
          let lies : LiesBehind kind.Return site.results s entry values target = subst (λ x. HoldsAll (place_columns entry x) target) eb hb
          in
          let meets = ask.meets s entry values vs ve good hs (subst (λ x. LiesBehind x site.results s entry values target) (sym h.1) lies)
          in
          called d i from to site e asked ask.of_procedure none s vs ins rest values (came values)
          (ap (λ x. end_with x values) (sym kind_of)) run (subst (λ x. Meets asked (map s site.arguments) (read_with x values))
          (sym kind_of)
          meets)
  idle_step d i from to site e source target node exit ex asked ask none entry ve s vs hs ins rest b there wanted nb hb stopped
      eb
      run =
      omega (arith, there, ap (λ x. spot_node g (standing x)) eb)
  idle_step d i from to site e source target node exit ex asked ask none entry ve s vs hs ins rest b there wanted nb hb
      (failed id)
      eb run =
      ⊎_elim (λ h. h.0 (nb ∙ ap (λ x. spot_node g (standing x)) eb)) fails (exit_cases g.fail q.exit node exit ex)
    where
      fails : ((node ≡ g.fail) × (other : ℕ) × (q.exit ≡ kind.Fail other) × (exit ≡ kind.Fail other)) → ⊥
      fails h =
          let same : id ≡ h.1 = subst (λ x. Wanted x (standing (failing id s))) h.2 (subst (λ x. Wanted q.exit (standing x)) eb wanted) in
          let kind_of : asked.exit ≡ kind.Fail h.1 = ask.of_exit ∙ h.3 in
          let lies : LiesBehind (kind.Fail h.1) site.results s entry [] target = subst (λ x. HoldsAll (place_columns entry x) target) eb hb
          in
          let meets = ask.meets s entry [] vs ve none_values hs (subst (λ x. LiesBehind x site.results s entry [] target) (sym h.3) lies) in
          called d i from to site e asked ask.of_procedure none s vs ins rest [] (failed id)
          (ap failed same ∙ ap (λ x. end_with x []) (sym kind_of)) run (subst (λ x. Meets asked (map s site.arguments) (read_with x []))
          (sym kind_of)
          meets)

  pub idle_call : (p : Parted) (k : RegionEdge) (from to : ℕ) (site : CallSite) → slice_get g.edges k.edge
      ≡ Some (call_edge from to site) → (r t : Region) → slice_get p.regions k.from ≡ Some r → slice_get p.regions k.to ≡ Some t →
      (exit : ExitKind) → call_exit g.fail q.exit t.node ≡ Some exit → (asked : Query) → MeetsCalls site exit r.cube.atoms
      t.cube.atoms asked → (d : ℕ) → NotMayWithin (graph_runs gs) d asked → IsIdle (GraphRun gs d) g q p k
  idle_call p k from to site e r t er et exit ex asked ask d none entry outside outside ox oy go sx sy = absurd go
  idle_call p k from to site e r t er et exit ex asked ask d none entry outside (standing b) ox oy go sx sy =
      let i : ℕ = k.edge in
      let same : call_edge from to site ≡ Entry go.0 go.1 = same_Some _ _
      (sym e ∙ subst (λ j. slice_get g.edges j ≡ Some (Entry go.0 go.1)) (sym go.2) go.3) in
      absurd cc
  idle_call p k from to site e r t er et exit ex asked ask d none entry (standing (inside n s)) outside ox oy go sx sy = absurd
      go
  idle_call p k from to site e r t er et exit ex asked ask d none entry (standing (inside n s)) (standing b) ox oy go sx sy =
      let same : go.0 ≡ call_edge from to site = same_Some _ _ (sym go.3 ∙ e) in
      let st : Step (GraphRun gs d) (call_edge from to site) s go.1 b go.2 = subst (λ x. Step (GraphRun gs d) x s go.1 b go.2) same
      go.5
      in
      let same_r : sx.region ≡ r = same_Some _ _ (sym sx.there ∙ er) in
      let same_t : sy.region ≡ t = same_Some _ _ (sym sy.there ∙ et) in
      let hs : HoldsAll (columns_of s entry []) r.cube.atoms = subst (λ (x : Region). HoldsAll (columns_of s entry []) x.cube.atoms) same_r
      sx.lies.meets in
      let hb : HoldsAll (place_columns entry b) t.cube.atoms = subst (λ (x : Region). HoldsAll (place_columns entry b) x.cube.atoms) same_t
      sy.lies.meets in
      let nb : t.node ≡ spot_node g (standing b) = subst (λ (x : Region). x.node ≡ spot_node g (standing b)) same_t sy.lies.stands in
      idle_step d k.edge from to site e r.cube.atoms t.cube.atoms t.node exit ex asked ask none entry ox.arguments.values s
      ox.valued hs go.1 go.2 b oy.covered.there oy.wanted nb hb st.0 st.2 st.1
  idle_call p k from to site e r t er et exit ex asked ask d none entry (standing (left vs)) y ox oy go sx sy = absurd go
  idle_call p k from to site e r t er et exit ex asked ask d none entry (standing (failing id s)) y ox oy go sx sy = absurd go
  idle_call p k from to site e r t er et exit ex asked ask d none entry (standing halted) y ox oy go sx sy = absurd go

-- Other edges
no_call : true ≡ false → ⊥
no_call h = cc

-- what weakest preconditions give of an edge that is no call: each step into the target is from a state that meets the rows
abbrev pub Predicts : Graph → RegionEdge → (target rows : List Atom) → Type 0
Predicts g k target rows = (e : Edge) → slice_get g.edges k.edge ≡ Some e → (is_call e ≡ false) × FitsEdge e target × HoldsPredecessors e
    target rows

-- the state before the edge meets the rows
module _ (gs : List Graph) (d : ℕ) (g : Graph) (q : Query) (p : Parted) (k : RegionEdge) (r t : Region) (er : slice_get p.regions k.from
    ≡ Some r) (et : slice_get p.regions k.to ≡ Some t) (rows : List Atom) (predicts : Predicts g k t.cube.atoms rows) where
  -- a place that is no halt lies in the rows as for weakest preconditions
  lies_in : (entry : List ℤ) (rows : List Atom) (b : Place) → spot_node g (standing b) < g.nodes → HoldsAll (place_columns entry b) rows →
      LiesIn entry rows b
  lies_in entry rows (inside n s) there h = (tt, h)
  lies_in entry rows (left values) there h = (tt, h)
  lies_in entry rows (failing id s) there h = (tt, h)
  lies_in entry rows halted there h = absurd (omega (arith, there))

  goes_into : (e : Edge) → (is_call e ≡ false) → (n : ℕ) → source e ≡ Some n → (target : List Atom) (s : State) (entry ins rest : List ℤ)
      (b : Place) → Step (GraphRun gs d) e s ins b rest → LiesIn entry target b → GoesInto e target s entry
  goes_into e nc n src target s entry ins rest b st l = by_edge e src (step_any (GraphRun gs d) (GraphRun [] 0) e nc s ins rest b st) where
    by_edge : (e : Edge) → source e ≡ Some n → Step (GraphRun [] 0) e s ins b rest → GoesInto e target s entry
    by_edge (Entry to params) src st = absurd st
    by_edge (Assign from to x value) src st = (ins, rest, b, st, l)
    by_edge (Guard from to rows) src st = (ins, rest, b, st, l)
    by_edge (Input from to x) src st = (ins, rest, b, st, l)
    by_edge (Pick from to x rows) src st = (ins, rest, b, st, l)
    by_edge (Call from to proc args x) src st = (ins, rest, b, st, l)
    by_edge (Assert from to id rows) src st = (ins, rest, b, st, l)
    by_edge (Return from to x) src st = (ins, rest, b, st, l)

  meets_inside : (e : Edge) (n : ℕ) → source e ≡ Some n → (rows : List Atom) (s : State) (entry : List ℤ) → MeetsBefore e rows s entry →
      HoldsAll (columns_of s entry []) rows
  meets_inside (Entry to params) n src rows s entry m = absurd (none-some n src)
  meets_inside (Assign from to x value) n src rows s entry m = m
  meets_inside (Guard from to atoms) n src rows s entry m = m
  meets_inside (Input from to x) n src rows s entry m = m
  meets_inside (Pick from to x atoms) n src rows s entry m = m
  meets_inside (Call from to proc args x) n src rows s entry m = m
  meets_inside (Assert from to id atoms) n src rows s entry m = m
  meets_inside (Return from to x) n src rows s entry m = m

  -- a step of values over the edge is from a state that meets the rows
  pub before_step : (entry : List ℤ) (x y : Spot) → AreAllValues entry → Valued x → IsThere g y → Goes (GraphRun gs d) g entry k.edge x y →
      Stands Spot (spot_node g) (spot_columns entry) p.regions k.to y → HoldsAll (spot_columns entry x) rows
  before_step entry outside outside values valued there go sy = absurd go
  before_step entry outside (standing b) values valued there go sy =
      let e : Edge = Entry go.0 go.1 in
      let at : slice_get g.edges k.edge ≡ Some e = subst (λ j. slice_get g.edges j ≡ Some e) (sym go.2) go.3 in
      let u = predicts e at in
      let same_t : sy.region ≡ t = same_Some _ _ (sym sy.there ∙ et) in
      let hb : HoldsAll (place_columns entry b) t.cube.atoms = subst (λ (x : Region). HoldsAll (place_columns entry b) x.cube.atoms) same_t
      sy.lies.meets in
      let lies : LiesIn entry t.cube.atoms (inside go.0 (entered entry)) = subst (LiesIn entry t.cube.atoms) go.5
      (lies_in entry t.cube.atoms b there hb) in
      (u.2 u.1 no_slots entry no_slot_values values (go.4, lies)).1
  before_step entry (standing (inside n s)) outside values valued there go sy = absurd go
  before_step entry (standing (inside n s)) (standing b) values valued there go sy =
      let e : Edge = go.0 in
      let u = predicts e go.3 in
      let same_t : sy.region ≡ t = same_Some _ _ (sym sy.there ∙ et) in
      let hb : HoldsAll (place_columns entry b) t.cube.atoms = subst (λ (x : Region). HoldsAll (place_columns entry b) x.cube.atoms) same_t
      sy.lies.meets in
      let lies : LiesIn entry t.cube.atoms b = lies_in entry t.cube.atoms b there hb in
      meets_inside e n go.4 rows s entry (u.2 u.1 s entry valued values (goes_into e u.0 n go.4 t.cube.atoms s entry go.1 go.2 b go.5 lies))
  before_step entry (standing (left vs)) y values valued there go sy = absurd go
  before_step entry (standing (failing id s)) y values valued there go sy = absurd go
  before_step entry (standing halted) y values valued there go sy = absurd go

  -- the columns of a spot where a step begins hold values
  spot_64 : (entry : List ℤ) (x : Spot) → IsEntry g entry → Valued x → (i : ℕ) (y : Spot) → Goes (GraphRun gs d) g entry i x y →
      Is64 (spot_columns entry x)
  spot_64 entry outside fit v i y go = values_64 entry [] fit.values none_values
  spot_64 entry (standing (inside n s)) fit v i y go = columns_64 s entry [] v fit.values none_values
  spot_64 entry (standing (left vs)) fit v i y go = absurd go
  spot_64 entry (standing (failing id s)) fit v i y go = absurd go
  spot_64 entry (standing halted) fit v i y go = absurd go

  -- where a step begins, the source and the rows hold
  begins_in : (entry : List ℤ) (x y : Spot) → OnWay g q entry x → OnWay g q entry y → Goes (GraphRun gs d) g entry k.edge x y →
      Stands Spot (spot_node g) (spot_columns entry) p.regions k.from x → Stands Spot (spot_node g) (spot_columns entry) p.regions k.to y →
      HoldsAll (spot_columns entry x) (r.cube.atoms ++ rows)
  begins_in entry x y ox oy go sx sy =
      let same_r : sx.region ≡ r = same_Some _ _ (sym sx.there ∙ er) in
      let hs : HoldsAll (spot_columns entry x) r.cube.atoms = subst (λ (z : Region). HoldsAll (spot_columns entry x) z.cube.atoms) same_r
      sx.lies.meets in
      holds_append (spot_columns entry x) r.cube.atoms rows hs (before_step entry x y ox.arguments.values ox.valued oy.covered.there go sy)

  -- a certificate that refutes the source with the rows
  pub idle_refuted : ((v : Valuation) → Is64 v → HoldsAll v (r.cube.atoms ++ rows) → ⊥) → IsIdle (GraphRun gs d) g q p k
  idle_refuted never entry x y ox oy go sx sy =
      never (spot_columns entry x) (spot_64 entry x ox.arguments ox.valued k.edge y go) (begins_in entry x y ox oy go sx sy)

  -- what follows from both splits
  pub cut_by : (atoms : List Atom) → ((v : Valuation) → Is64 v → HoldsAll v (r.cube.atoms ++ rows) → HoldsAll v atoms) →
      IsCutBy (GraphRun gs d) g q p k atoms
  cut_by atoms follow entry x y ox oy go sx sy =
      follow (spot_columns entry x) (spot_64 entry x ox.arguments ox.valued k.edge y go) (begins_in entry x y ox oy go sx sy)
