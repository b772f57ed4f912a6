-- A query whose partition has no live path has no run.
use Rattle.std.proofs.Common.{◌≡◌, ◌≢◌, ◌⊎◌, inl, inr, ℕ, zero, suc, ◌<◌, ◌≤◌, List, [], ◌∷◌, ◌++◌, length, Some, Bool, true, false, ℤ, arith, refl, sym, subst, ap, ◌∙◌}
use Rattle.std.specs.Prelude.{slice_get, IsTrue}
use borrow.Author.Tests.{eqb-true, eqb-false}
use Rattle.c_tree.specs.Meaning.{State, entered}
use Rattle.linear_formula.specs.Formula.{HoldsAll}
use Rattle.flow_graph.specs.declared.graph.Graph.{Graph}
use Rattle.flow_graph.specs.declared.graph.Edge.{Edge}
use Rattle.flow_graph.specs.declared.graph.Edge.TheVariants.{Entry, Assign, Guard, Input, Pick, Call, Assert, Return}
use Rattle.flow_graph.specs.Shapes.{target, is_assert, is_return}
use Rattle.flow_graph.specs.WellFormed.{IsGraph, IsEdge, is_entry_of}
use Rattle.flow_graph.specs.Laws.{HoldsValues}
use Rattle.flow_graph.specs.Runs.{Place, inside, left, failing, halted, Called, Step, End, came, stopped, failed, after_call, EndsIn, Finishes, GraphRun, EntersGraph}
use Rattle.flow_graph.specs.Columns.{AreValues, columns_of, valuation_of, no_slots, first_entry, is_entry_column, rows_name_only}
use Rattle.flow_graph.proofs.Values.{AllReturnValues, step_good, run_values}
use Rattle.summary_form.specs.declared.query.Query.{Query}
use Rattle.summary_form.specs.declared.query.ExitKind.{ExitKind}
use Rattle.summary_form.specs.declared.query.ExitKind.TheVariants as kind
use Rattle.summary_form.specs.Instances.{graph_runs, arity_of}
use Rattle.summary_form.specs.Runs.{end_with}
use Rattle.summary_form.specs.NotMays.{NotMayWithin, Meets, Fits, is_end_column, read_with}
use Rattle.may_partition.specs.declared.region.RegionEdge.{RegionEdge}
use Rattle.may_partition.specs.Parted.{Parted, end_node}
use Rattle.may_partition.specs.Crossing.{Stands, edge_of}
use Rattle.may_partition.specs.Spots.{Spot, outside, standing, spot_node, spot_columns}
use Rattle.may_partition.proofs.Agreeing.{Agree, holds_agree}
use Rattle.may_partition.proofs.Beginning.{entries_agree}
use Rattle.may_partition.proofs.Pieces.{holds_split}
use Rattle.query_rules.specs.Paths.{IsPath, HasNoPath}
use Rattle.query_rules.specs.invariants.Soundness.{IsEntry, OnWay, Wanted, IsSound, HasAll, HasOneTarget, HasOneOutside}

agree_back : (allowed : ℕ → Bool) (v w : ℕ → ℤ) → Agree allowed v w → Agree allowed w v
agree_back allowed v w a = λ x n. sym (a x n)

pub only_live : (t : Bool) → IsTrue t ⊎ (IsTrue false ⊎ IsTrue false) → IsTrue t
only_live true h = refl
only_live false (inl h) = h
only_live false (inr (inl h)) = h
only_live false (inr (inr h)) = h

-- Paths
pub path_more : (p : Parted) (a : ℕ) (es : List RegionEdge) (b c i : ℕ) → IsPath p a es b → IsTrue (p.live (edge_of i b c)) →
    IsPath p a (es ++ edge_of i b c ∷ []) c
path_more p a [] b c i h l = (l, h, refl)
path_more p a (e ∷ es) b c i h l = (h.0, h.1, path_more p e.to es b c i h.2 l)

-- Ends of the exit kind
ends_left : (exit : ExitKind) (values vs : List ℤ) → end_with exit values ≡ came vs → (exit ≡ kind.Return) × (read_with exit values ≡ vs)
ends_left kind.Return values vs e = (refl, cc)
ends_left (kind.Fail id) values vs e = absurd cc

ends_failing : (exit : ExitKind) (values : List ℤ) (id : ℕ) → end_with exit values ≡ failed id → exit ≡ kind.Fail id
ends_failing kind.Return values id e = absurd cc
ends_failing (kind.Fail other) values id e = cc

ends_stopped : (exit : ExitKind) (values : List ℤ) → end_with exit values ≡ stopped → ⊥
ends_stopped kind.Return values e = cc
ends_stopped (kind.Fail id) values e = cc

wanted_inside : (exit : ExitKind) (n : ℕ) (s : State) → Wanted exit (standing (inside n s))
wanted_inside kind.Return n s = tt
wanted_inside (kind.Fail id) n s = tt

wanted_left : (exit : ExitKind) (vs : List ℤ) → Wanted exit (standing (left vs))
wanted_left kind.Return vs = tt
wanted_left (kind.Fail id) vs = tt

wanted_outside : (exit : ExitKind) → Wanted exit outside
wanted_outside kind.Return = tt
wanted_outside (kind.Fail id) = tt

-- Places of a frame
module _ (g : Graph) (ok : IsGraph g.nodes g.exit g.fail g.params g.exits g.slots g.edges) where
  -- an inner node is none of the two ends, and slots hold values
  abbrev pub Fine : Place → Type 0
  Fine (inside n s) = (n < g.nodes) × (n ≢ g.exit) × (n ≢ g.fail) × AreValues s
  Fine (left values) = Unit {0}
  Fine (failing id s) = Unit {0}
  Fine halted = Unit {0}

  inner : (e : Edge) → IsEdge g.nodes g.exit g.fail g.exits g.slots e → is_return e ≡ false → is_assert e ≡ false → (target e < g.nodes)
      × (target e ≢ g.exit) × (target e ≢ g.fail)
  inner e k r a = (k.in_range, eqb-false (target e) g.exit (sym k.to_exit ∙ r), eqb-false (target e) g.fail (sym k.to_fail ∙ a))

  fine_inside : (to : ℕ) (s : State) (b : Place) → b ≡ inside to s → (to < g.nodes) × (to ≢ g.exit) × (to ≢ g.fail) → HoldsValues b → Fine b
  fine_inside to s b e h v =
      let values : AreValues s = subst HoldsValues e v in
      subst Fine (sym e) (h.0, h.1, h.2, values)

  fine_step : (C : Called) → AllReturnValues C → (e : Edge) → IsEdge g.nodes g.exit g.fail g.exits g.slots e →
      (s : State) (ins rest : List ℤ)
      (b : Place) → AreValues s → Step C e s ins b rest → Fine b
  fine_step C good e k s ins rest b v st = by_edge e k st (step_good C good e s ins rest b v st) where
    by_edge : (e : Edge) → IsEdge g.nodes g.exit g.fail g.exits g.slots e → Step C e s ins b rest → HoldsValues b → Fine b
    by_edge (Entry to params) k st w = absurd st
    by_edge (Assign from to x value) k st w = fine_inside to _ b st.1 (inner (Assign from to x value) k refl refl) w
    by_edge (Guard from to rows) k st w = fine_inside to _ b st.1 (inner (Guard from to rows) k refl refl) w
    by_edge (Input from to x) k st w = fine_inside to _ b st.3 (inner (Input from to x) k refl refl) w
    by_edge (Pick from to x rows) k st w = fine_inside to _ b st.3 (inner (Pick from to x rows) k refl refl) w
    by_edge (Call from to proc args x) k st w = by_end st.0 st.2 where
      by_end : (end : End) → b ≡ after_call to x s end → Fine b
      by_end (came values) e = fine_inside to _ b e (inner (Call from to proc args x) k refl refl) w
      by_end stopped e = subst Fine (sym e) tt
      by_end (failed id) e = subst Fine (sym e) tt
    by_edge (Assert from to id rows) k st w = subst Fine (sym st.1) tt
    by_edge (Return from to x) k st w = subst Fine (sym st.0) tt

-- a node that is no end of a graph is not the query's end
pub not_end : (g : Graph) (exit : ExitKind) (n : ℕ) → n ≢ g.exit → n ≢ g.fail → n ≡ end_node g exit → ⊥
not_end g kind.Return n h k e = h e
not_end g (kind.Fail id) n h k e = k e

pub end_there : (g : Graph) → IsGraph g.nodes g.exit g.fail g.params g.exits g.slots g.edges → (exit : ExitKind) → end_node g exit < g.nodes
end_there g ok kind.Return = ok.exit_named
end_there g ok (kind.Fail id) = ok.fail_named

-- The way of a run
module _ (C : Called) (good : AllReturnValues C) (g : Graph) (ok : IsGraph g.nodes g.exit g.fail g.params g.exits g.slots g.edges)
    (q : Query)
    (start_names : IsTrue (rows_name_only (is_entry_column g.params) q.start.atoms)) (fail_names : (id : ℕ) → q.exit ≡ kind.Fail id →
    IsTrue (rows_name_only (is_entry_column g.params) q.end.atoms)) (entry : List ℤ) (fit : IsEntry g entry) (values : List ℤ) (meets :
    Meets q entry (read_with q.exit values)) where
  few : g.params ≤ first_entry
  few = omega (arith, ok.params_in_slots, ok.few_slots)

  start : HoldsAll (valuation_of entry []) q.start.atoms
  start =
      holds_agree (is_entry_column g.params) (valuation_of entry (read_with q.exit values)) (valuation_of entry []) q.start.atoms
      (agree_back (is_entry_column g.params) (valuation_of entry []) (valuation_of entry (read_with q.exit values))
      (entries_agree g.params few no_slots entry (read_with q.exit values))) start_names (holds_split
      (valuation_of entry (read_with q.exit values)) q.start.atoms q.end.atoms meets).0

  end_met : HoldsAll (valuation_of entry (read_with q.exit values)) q.end.atoms
  end_met = (holds_split (valuation_of entry (read_with q.exit values)) q.start.atoms q.end.atoms meets).1

  -- with a failure the end reads entry values alone
  fail_met : (id : ℕ) → q.exit ≡ kind.Fail id → (s : State) → HoldsAll (columns_of s entry []) q.end.atoms
  fail_met id e s =
      let at : HoldsAll (valuation_of entry []) q.end.atoms = holds_agree (is_entry_column g.params)
      (valuation_of entry (read_with q.exit values)) (valuation_of entry []) q.end.atoms
      (agree_back (is_entry_column g.params) (valuation_of entry []) (valuation_of entry (read_with q.exit values))
      (entries_agree g.params few no_slots entry (read_with q.exit values))) (fail_names id e) end_met in
      holds_agree (is_entry_column g.params) (valuation_of entry []) (columns_of s entry []) q.end.atoms
      (entries_agree g.params few s entry [])
      (fail_names id e) at

  outside_on : OnWay g q entry outside
  outside_on = record {
    arguments = fit;
    covered = record { there = tt; starts = λ e. start; ends = λ e. absurd (omega (arith, e, end_there g ok q.exit)) };
    valued = tt;
    wanted = wanted_outside q.exit;
  }

  -- a place from which the run reaches such an end is on the way
  on_way : (b : Place) → Fine g ok b → (k : ℕ) (ins : List ℤ) → EndsIn C g.edges k b ins [] (end_with q.exit values) →
      OnWay g q entry (standing b)
  on_way (inside n s) f k ins h = record {
    arguments = fit;
    covered = record { there = f.0; starts = λ e. start; ends = λ e. absurd (not_end g q.exit n f.1 f.2 e) };
    valued = f.3;
    wanted = wanted_inside q.exit n s;
  }
  on_way (left vs) f zero ins h =
      let e = ends_left q.exit values vs h.0 in
      record {
        arguments = fit;
        covered = record {
          there = ok.exit_named;
          starts = λ _. start;
          ends = λ _. subst (λ l. HoldsAll (valuation_of entry l) q.end.atoms)
              e.1 end_met;
        };
        valued = tt;
        wanted = wanted_left q.exit vs;
      }
  on_way (left vs) f (suc k) ins h = absurd h.2
  on_way (failing id s) f zero ins h =
      let e : q.exit ≡ kind.Fail id = ends_failing q.exit values id h.0 in
      record {
        arguments = fit;
        covered = record { there = ok.fail_named; starts = λ _. start; ends = λ _. fail_met id e s };
        valued = tt;
        wanted = subst (λ x. Wanted x (standing (failing id s))) (sym e) refl;
      }
  on_way (failing id s) f (suc k) ins h = absurd h.2
  on_way halted f zero ins h = absurd (ends_stopped q.exit values h.0)
  on_way halted f (suc k) ins h = absurd h.2

  -- where the run ends is the target node
  at_end : (b : Place) → Finishes C g.edges b (end_with q.exit values) → spot_node g (standing b) ≡ end_node g q.exit
  at_end (inside n s) h = absurd (ends_stopped q.exit values h.0)
  at_end (left vs) h = ap (λ x. end_node g x) (sym (ends_left q.exit values vs h).0)
  at_end (failing id s) h = ap (λ x. end_node g x) (sym (ends_failing q.exit values id h))
  at_end halted h = absurd (ends_stopped q.exit values h)

  module _ (p : Parted) (sound : IsSound C g q p) (all : HasAll C g q p) (one : HasOneTarget g q p) (none : HasNoPath g q p) where
    walk : (k : ℕ) (b : Place) → Fine g ok b → (a : ℕ) (es : List RegionEdge) → Stands Spot (spot_node g) (spot_columns entry) p.regions a
        (standing b) → IsPath p 0 es a → (ins : List ℤ) → EndsIn C g.edges k b ins [] (end_with q.exit values) → ⊥
    walk zero b f a es s path ins h =
        none es (subst (IsPath p 0 es) (one a s.region s.there (s.lies.stands ∙ at_end b h.0)) path)
    walk (suc k) (inside n t) f a es s path ins h =
        let b : Place = h.0 in
        let fb : Fine g ok b = fine_step g ok C good h.2.1 (ok.are_edges h.2.0 h.2.1 h.2.2) t ins h.1 b f.3 h.2.4 in
        let before = on_way (inside n t) f (suc k) ins h in
        let behind = on_way b fb k h.1 h.3 in
        let placed = all entry (standing b) behind in
        let live = sound entry (standing (inside n t)) (standing b) h.2.0 a placed.0 before behind (h.2.1, ins, h.1, h.2.2, h.2.3, h.2.4) s
        placed.1 in
        let path' = path_more p 0 es a placed.0 h.2.0 path (only_live (p.live (edge_of h.2.0 a placed.0)) live) in
        walk k b fb placed.0 (es ++ edge_of h.2.0 a placed.0 ∷ []) placed.1 path' h.1 h.3
    walk (suc k) (left vs) f a es s path ins h = absurd h.2
    walk (suc k) (failing id t) f a es s path ins h = absurd h.2
    walk (suc k) halted f a es s path ins h = absurd h.2

    -- a frame that begins has a path
    enter : HasOneOutside g p → (to params k : ℕ) → slice_get g.edges 0 ≡ Some (Entry to params) → (ins : List ℤ) →
        EndsIn C g.edges k (inside to (entered entry)) ins [] (end_with q.exit values) → ⊥
    enter first to params k at ins h =
        let e : Edge = Entry to params in
        let m = inner g ok e (ok.are_edges 0 e at) refl refl in
        let b : Place = inside to (entered entry) in
        let count : length entry ≡ params = fit.count
        ∙ sym (eqb-true params g.params (subst (λ o. IsTrue (is_entry_of g.params o)) at ok.begins))
        in
        let fb : Fine g ok b = (m.0, m.1, m.2, fit.values) in
        let behind = on_way b fb k ins h in
        let out = all entry outside outside_on in
        let placed = all entry (standing b) behind in
        let zero_out : out.0 ≡ 0 = first out.0 out.1.region out.1.there out.1.lies.stands in
        let live = sound entry outside (standing b) 0 out.0 placed.0 outside_on behind (to, params, refl, at, count, refl) out.1 placed.1 in
        let path = path_more p 0 [] out.0 placed.0 0 zero_out (only_live (p.live (edge_of 0 out.0 placed.0)) live) in
        walk k b fb placed.0 (edge_of 0 out.0 placed.0 ∷ []) placed.1 path ins h

-- A closed query

-- the end of a failure names entry values alone
pub end_entries : (g : Graph) (q : Query) → Fits q.proc (arity_of (Some g)) q → (id : ℕ) → q.exit ≡ kind.Fail id →
    IsTrue (rows_name_only (is_entry_column g.params) q.end.atoms)
end_entries g q fits id e = subst (λ x. IsTrue (rows_name_only (is_end_column (arity_of (Some g)) x) q.end.atoms)) e fits.end_names

-- where each step on the way is over a live edge, of calls of depth d, and no path is live, there is no run of depth d + 1
pub closed_not_may : (gs : List Graph) (g : Graph) (q : Query) → slice_get gs q.proc ≡ Some g → IsGraph g.nodes g.exit g.fail g.params
    g.exits
    g.slots g.edges → Fits q.proc (arity_of (Some g)) q → (p : Parted) (d : ℕ) → IsSound (GraphRun gs d) g q p → HasAll (GraphRun gs d) g q
    p →
    HasOneOutside g p → HasOneTarget g q p → HasNoPath g q p → NotMayWithin (graph_runs gs) (suc d) q
closed_not_may gs g q at ok fits p d sound all first one none args ins values run meets =
    let e : EntersGraph (GraphRun gs d) (Some g) args ins [] (end_with q.exit values) = subst
    (λ o. EntersGraph (GraphRun gs d) o args ins [] (end_with q.exit values)) at run.run in
    let count : length args ≡ g.params = subst (λ o. length args ≡ (arity_of o).entries) at run.count in
    let fit : IsEntry g args = record { count = count; values = run.values } in
    enter (GraphRun gs d) (run_values gs d) g ok q fits.start_names (end_entries g q fits) args fit values meets p sound all one none first
    e.0 e.1 e.2 e.3 ins e.4
