-- A path that ends in a failure is of a run that fails.
use Rattle.std.proofs.Common.{◌≡◌, ℕ, suc, ◌+◌, List, [], ◌∷◌, Some, ℤ, false, map, refl, sym, subst, arith}
use Rattle.std.specs.Prelude.{slice_get}
use Rattle.c_tree.specs.Meaning.{State, entered}
use Rattle.flow_graph.specs.Calls.{CallSite, call_edge}
use Rattle.flow_graph.specs.declared.graph.Edge.{Edge}
use Rattle.flow_graph.specs.declared.graph.Edge.TheVariants.{Entry, Assign, Guard, Input, Pick, Call, Assert, Return}
use Rattle.flow_graph.specs.declared.graph.Graph.{Graph}
use Rattle.flow_graph.specs.Shapes.{source, is_call}
use Rattle.flow_graph.specs.Runs.{End, came, stopped, failed, Place, inside, left, failing, halted, with_slots, Step, EndsIn, EntersGraph, GraphRun, GraphRuns}
use Rattle.flow_graph.proofs.Frames.{step_any, deeper, ends_more}
use Rattle.path_sweep.specs.Executions.{Caller, Standing, entering, running, ended, returns, standing_at, OverEdge, Over, Takes}
use Rattle.path_sweep.specs.Laws.{PathsFail}

module _ (gs : List Graph) (id : ℕ) (rest : List ℤ) where
  -- from this place of a frame the frame ends so
  record Ends (g : Graph) (a : Place) (ins : List ℤ) (end : End) (mid : List ℤ) : Type 0 where
    pub depth : ℕ
    pub count : ℕ
    pub ends : EndsIn (GraphRun gs depth) g.edges count a ins mid end

  -- after such an end the execution goes on to the failure: the frame failed, or returned, and the
  -- one that called it goes on
  abbrev Goes : End → List Caller → List ℤ → Type 0
  Goes stopped cs mid = ⊥
  Goes (failed i) cs mid = (i ≡ id) × (mid ≡ rest)
  Goes (came values) [] mid = ⊥
  Goes (came values) (c ∷ cs) mid =
      (end : End) × (later : List ℤ)
      × Ends c.graph (inside c.to (with_slots c.slots c.results values)) mid end later × Goes end cs later

  abbrev Fails : Standing → List ℤ → Type 0
  Fails (entering g args cs) ins = (end : End) × (mid : List ℤ) × (d : ℕ) × EntersGraph (GraphRun gs d) (Some g) args ins mid end
      × Goes end cs mid
  Fails (running g n s cs) ins = (end : End) × (mid : List ℤ) × Ends g (inside n s) ins end mid × Goes end cs mid
  Fails (ended (failed i)) ins = (i ≡ id) × (ins ≡ rest)
  Fails (ended (came values)) ins = ⊥
  Fails (ended stopped) ins = ⊥

  module _ (g : Graph) (n : ℕ) (s : State) (cs : List Caller) (i : ℕ) where
    step : (e : Edge) → slice_get g.edges i ≡ Some e → source e ≡ Some n → (place : Place) (ins mid : List ℤ) (end : End) (later : List ℤ) →
        (d : ℕ) → Step (GraphRun gs d) e s ins place mid → (k : ℕ) → EndsIn (GraphRun gs d) g.edges k place mid later end →
        Ends g (inside n s) ins end later
    step e at src place ins mid end later d st k ends = record {
      depth = d;
      count = suc k;
      ends = (place, mid, (i, e, at, src, st), ends);
    }

    plain : (e : Edge) → is_call e ≡ false → slice_get g.edges i ≡ Some e → source e ≡ Some n → (ins mid : List ℤ) (c : Standing) →
        (place : Place) → Step (GraphRun [] 0) e s ins place mid → c ≡ standing_at g cs place → Fails c mid → Fails (running g n s cs) ins
    plain e p at src ins mid c place st is f = by_place place st (subst (λ z. Fails z mid) is f) where
      at_depth : (d : ℕ) (place : Place) → Step (GraphRun [] 0) e s ins place mid → Step (GraphRun gs d) e s ins place mid
      at_depth d place st = step_any (GraphRun [] 0) (GraphRun gs d) e p s ins mid place st

      by_callers : (cs : List Caller) (values : List ℤ) → Fails (returns values cs) mid → Goes (came values) cs mid
      by_callers [] values f = absurd f
      by_callers (c ∷ cs) values f = f

      by_place : (place : Place) → Step (GraphRun [] 0) e s ins place mid → Fails (standing_at g cs place) mid →
          Fails (running g n s cs) ins
      by_place (inside m t) st f =
          (f.0, f.1, step e at src (inside m t) ins mid f.0 f.1 f.2.depth (at_depth f.2.depth (inside m t) st) f.2.count f.2.ends, f.3)
      by_place (left values) st f = (
        came values,
        mid,
        step e at src (left values) ins mid (came values) mid 0 (at_depth 0 (left values) st) 0 (refl, refl),
        by_callers cs values f,
      )
      by_place (failing j t) st f =
          (failed j, mid, step e at src (failing j t) ins mid (failed j) mid 0 (at_depth 0 (failing j t) st) 0 (refl, refl), f)
      by_place halted st f = absurd f

    calls : (from to : ℕ) (site : CallSite) → slice_get g.edges i ≡ Some (call_edge from to site) →
        source (call_edge from to site) ≡ Some n → (h : Graph) → slice_get gs site.procedure ≡ Some h → (ins : List ℤ) →
        Fails (entering h (map s site.arguments) (record { graph = g; to = to; results = site.results; slots = s } ∷ cs)) ins →
        Fails (running g n s cs) ins
    calls from to site at src h at_h ins f = by_end f.0 f.1 f.2 f.3 f.4 where
      e : Edge
      e = call_edge from to site

      w : Caller
      w = record { graph = g; to = to; results = site.results; slots = s }

      by_end : (end : End) (mid : List ℤ) (d : ℕ) → EntersGraph (GraphRun gs d) (Some h) (map s site.arguments) ins mid end →
          Goes end (w ∷ cs) mid →
          Fails (running g n s cs) ins
      by_end stopped mid d run go = absurd go
      by_end (failed j) mid d run go =
          let r : GraphRun gs (suc d) site.procedure (map s site.arguments) ins mid (failed j) = subst
          (λ o. EntersGraph (GraphRun gs d) o (map s site.arguments) ins mid
          (failed j)) (sym at_h) run in
          (failed j, mid, step e at src (failing j s) ins mid (failed j) mid (suc d) (failed j, r, refl) 0 (refl, refl), go)
      by_end (came values) mid d run go =
          let r : GraphRun gs (suc d) site.procedure (map s site.arguments) ins mid (came values) = subst
          (λ o. EntersGraph (GraphRun gs d) o (map s site.arguments) ins
          mid
          (came values)) (sym at_h) run in
          let k = go.2.depth in
          let same : suc d + k ≡ k + suc d = omega arith in
          let place : Place = inside to (with_slots s site.results values) in
          let more = subst (λ x. EndsIn (GraphRun gs x) g.edges go.2.count place mid go.1 go.0) same
          (ends_more (GraphRun gs k) (GraphRun gs (suc d + k)) (deeper gs k (suc d)) g.edges go.2.count place mid go.1 go.0 go.2.ends) in (
            go.0,
            go.1,
            step e at src place ins mid go.0 go.1 (k + suc d)
                (came values, deeper gs (suc d) k site.procedure (map s site.arguments) ins mid (came values) r, refl) go.2.count more,
            go.3,
          )

  back : (i : ℕ) (a c : Standing) (ins mid : List ℤ) → Over gs i a ins c mid → Fails c mid → Fails a ins
  back i (ended e) c ins mid o f = absurd o
  back i (entering g args cs) c ins mid o f =
      let f' : Fails (running g o.1 (entered args) cs) ins = subst (λ l. Fails (running g o.1 (entered args) cs) l) o.5
      (subst (λ z. Fails z mid) o.4 f) in
      (f'.0, f'.1, f'.2.depth, (o.1, o.2, f'.2.count, o.3, f'.2.ends), f'.3)
  back i (running g n s cs) c ins mid o f = by_edge o.0 o.1 o.2 o.3 where
    by_edge : (e : Edge) → slice_get g.edges i ≡ Some e → source e ≡ Some n → OverEdge gs g cs e s ins c mid → Fails (running g n s cs) ins
    by_edge (Entry to params) at src o = absurd o.1
    by_edge (Assign from to x value) at src o = plain g n s cs i (Assign from to x value) refl at src ins mid c o.0 o.1 o.2 f
    by_edge (Guard from to rows) at src o = plain g n s cs i (Guard from to rows) refl at src ins mid c o.0 o.1 o.2 f
    by_edge (Input from to x) at src o = plain g n s cs i (Input from to x) refl at src ins mid c o.0 o.1 o.2 f
    by_edge (Pick from to x rows) at src o = plain g n s cs i (Pick from to x rows) refl at src ins mid c o.0 o.1 o.2 f
    by_edge (Assert from to j rows) at src o = plain g n s cs i (Assert from to j rows) refl at src ins mid c o.0 o.1 o.2 f
    by_edge (Return from to x) at src o = plain g n s cs i (Return from to x) refl at src ins mid c o.0 o.1 o.2 f
    by_edge (Call from to proc args results) at src o =
        calls g n s cs i from to (record { procedure = proc; arguments = args; results = results }) at src o.0 o.1 ins (subst (λ l. Fails
        (entering o.0 (map s args) (record { graph = g; to = to; results = results; slots = s } ∷ cs)) l) o.3 (subst (λ z. Fails z mid) o.2
        f))

  fold : (path : List ℕ) (a : Standing) (ins : List ℤ) → Takes gs path a ins (ended (failed id)) rest → Fails a ins
  fold [] a ins t = subst (λ z. Fails z ins) t.0 (refl, sym t.1)
  fold (i ∷ path) a ins t = back i a t.0 ins t.1 t.2 (fold path t.0 t.1 t.3)

pub paths_fail : PathsFail
paths_fail gs main path ins id t =
    by_end (fold gs id [] path (entering t.graph [] []) ins t.takes) where
      by_end : Fails gs id [] (entering t.graph [] []) ins → (d : ℕ) × GraphRuns gs d main [] ins (failed id)
      by_end f = by_kind f.0 f.1 f.2 f.3 f.4 where
        by_kind : (end : End) (mid : List ℤ) (d : ℕ) → EntersGraph (GraphRun gs d) (Some t.graph) [] ins mid end →
            Goes gs id [] end [] mid →
            (d : ℕ) × GraphRuns gs d main [] ins (failed id)
        by_kind stopped mid d run go = absurd go
        by_kind (came values) mid d run go = absurd go
        by_kind (failed i) mid d run go = (
          suc d,
          subst (λ o. EntersGraph (GraphRun gs d) o [] ins [] (failed id)) (sym t.at)
              (subst (λ l. EntersGraph (GraphRun gs d) (Some t.graph) [] ins l (failed id)) go.1
              (subst (λ n. EntersGraph (GraphRun gs d) (Some t.graph) [] ins mid (failed n)) go.0 run)),
        )
