-- A marked target gives a run.
use Rattle.std.proofs.Common.{◌≡◌, ◌≢◌, inl, inr, ⊎_elim, ℕ, zero, suc, ◌+◌, ◌<◌, ◌≤◌, List, [], ◌∷◌, ◌++◌, length, Some, None, Bool, true, false, not, ◌&&◌, ◌||◌, ◌==◌, arith, refl, sym, subst, ap, ◌∙◌}
use Rattle.std.specs.Prelude.{slice_get, IsTrue}
use Rattle.std.specs.List.{list_any}
use Rattle.std.proofs.lemmas.List.{append-nil, length-map}
use Rattle.std.proofs.lemmas.Option.{same_Some, none-some}
use borrow.Author.Tests.{eqb-true, eqb-false, eq-eqb, ne_eqb, not-true, not-false}
use Rattle.linear_formula.specs.LinearSum.{LinearSum, Valuation, Is64, valuation, value_of}
use Rattle.linear_formula.specs.Formula.{HoldsAll}
use Rattle.linear_formula.proofs.Limits.{both}
use Rattle.flow_graph.specs.Calls.{call_edge}
use Rattle.flow_graph.specs.declared.graph.Graph.{Graph}
use Rattle.flow_graph.specs.declared.graph.Edge.{Edge}
use Rattle.flow_graph.specs.declared.graph.Edge.TheVariants.{Entry, Assign, Guard, Input, Pick, Call, Assert, Return}
use Rattle.flow_graph.specs.Shapes.{source, target, leads, is_call, is_entry}
use Rattle.flow_graph.specs.WellFormed.{IsGraph, IsEdge, first_node, max_slots}
use Rattle.summary_form.specs.declared.query.Query.{Query}
use Rattle.may_partition.specs.declared.region.Region.{Region}
use Rattle.may_partition.specs.declared.region.RegionEdge.{RegionEdge}
use Rattle.may_partition.specs.Parted.{region, left_out, begin_parted, beginning, end_node}
use Rattle.may_partition.specs.Connected.{LeavesFrom, AreConnected}
use Rattle.may_partition.proofs.Pieces.{get_right, holds_split}
use Rattle.may_partition.proofs.Beginning.{region_there}
use Rattle.flow_graph.specs.Runs.{GraphRuns}
use Rattle.summary_form.specs.Runs.{end_with, exits_of}
use Rattle.summary_form.specs.Musts.{MustHolds, values_of}
use Rattle.summary_form.specs.Instances.{graph_runs, arity_of, arity_in}
use Rattle.summary_form.specs.NotMays.{Fits}
use Rattle.summary_form.specs.declared.summary.Summary.TheVariants.{Must}
use Rattle.query_rules.specs.States.{AllHold}
use Rattle.query_rules.specs.Paths.{target_region}
use Rattle.query_rules.proofs.Walking.{end_there}
use Rattle.must_region.specs.Traces.{Trace}
use Rattle.shadow_elim.specs.Sums.{first_wide, rows_of_sums, row_sums}
use Rattle.flow_graph.specs.Readings.{reading}
use Rattle.must_region.specs.Rules.{begin_trail, extended, extended_must, sums_of, must_sums, must_node, must_failed, node_after}
use Rattle.must_region.specs.Paths.{path_guard, outcome_of}
use Rattle.must_region.specs.Trails.{IsTrail, GivesRuns}
use Rattle.query_rules.specs.Found.{IsFound}
use Rattle.query_rules.specs.Closings.{IsTargetMark}
use Rattle.must_region.proofs.Extending.{extended_trail}
use Rattle.must_region.proofs.Calling.{extended_must_trail}
use Rattle.flow_graph.proofs.Slots.{entry_edge}
use Rattle.must_region.proofs.Ending.{entry_count, entry_values, begin_is_trail, returns_run, fails_run}
use Rattle.must_region.proofs.Starting.{wide_append, wide_behind, start_read}
use Rattle.flow_graph.specs.Linked.{AreGraphs}
use Rattle.summary_form.specs.declared.summary.Summary.{Summary}
use Rattle.summary_form.specs.declared.query.ExitKind.{ExitKind}
use Rattle.query_rules.specs.Rows.{call_exit, Between, MarksWith, seen_at}
use Rattle.query_rules.proofs.Killing.{exit_cases, takes_entries}
use Rattle.query_rules.specs.declared.step.Mark.{Mark}
use Rattle.query_rules.specs.Steps.{Point, Model}
use Rattle.query_rules.specs.Legal.{Extends, ExtendsCall}
use Rattle.query_rules.specs.invariants.Marking.{Sees, IsGoodMark, FailsAsAsked, KeepsMarks}
use Rattle.query_rules.proofs.Shown.{leads_node}
use Rattle.query_rules.proofs.Marking.{marks_more}
use Rattle.summary_form.specs.declared.query.ExitKind.TheVariants as kind

pub any_at : {A : Type 0} (p : A → Bool) (xs : List A) → IsTrue (list_any p xs) → (j : ℕ) × (x : A) × (slice_get xs j ≡ Some x)
    × IsTrue (p x)
any_at p [] h = absurd cc
any_at p (x ∷ xs) h = by_test (p x) refl (λ k. any_at p xs k) h where
  by_test : (b : Bool) → p x ≡ b → (IsTrue (list_any p xs) → (j : ℕ) × (y : _) × (slice_get xs j ≡ Some y) × IsTrue (p y)) →
      IsTrue (b || list_any p xs) → (j : ℕ) × (y : _) × (slice_get (x ∷ xs) j ≡ Some y) × IsTrue (p y)
  by_test true e rest k = (0, x, refl, e)
  by_test false e rest k = let r = rest k in (suc r.0, r.1, r.2, r.3)

-- an entry edge stands at place 0 alone
pub entry_first : (g : Graph) → IsGraph g.nodes g.exit g.fail g.params g.exits g.slots g.edges → (i : ℕ) (e : Edge) → slice_get g.edges i
    ≡ Some e →
    i ≢ 0 → is_entry e ≡ false
entry_first g ok zero e at h = absurd (h refl)
entry_first g ok (suc i) e at h = ok.one_entry (suc i) e (omega arith) at

pub node_target : (t : Trace) (e : Edge) → is_call e ≡ false → is_entry e ≡ false → node_after t e ≡ target e
node_target t (Entry to params) c n = absurd cc
node_target t (Assign from to slot value) c n = refl
node_target t (Guard from to rows) c n = refl
node_target t (Input from to slot) c n = refl
node_target t (Pick from to slot rows) c n = refl
node_target t (Call from to proc args results) c n = absurd cc
node_target t (Assert from to id rows) c n = refl
node_target t (Return from to slots) c n = refl

pub source_some : (e : Edge) → is_entry e ≡ false → (n : ℕ) × (source e ≡ Some n)
source_some (Entry to params) n = absurd cc
source_some (Assign from to slot value) n = (from, refl)
source_some (Guard from to rows) n = (from, refl)
source_some (Input from to slot) n = (from, refl)
source_some (Pick from to slot rows) n = (from, refl)
source_some (Call from to proc args results) n = (from, refl)
source_some (Assert from to id rows) n = (from, refl)
source_some (Return from to slots) n = (from, refl)

-- where a call by a must of the region edge's exit kind leads
call_node : (fail : ℕ) (exit : ExitKind) (to node : ℕ) (e : ExitKind) → call_exit fail exit node ≡ Some e →
    IsTrue ((to == node) || (node == fail)) → must_node to fail e ≡ node
call_node fail exit to node e h l = ⊎_elim (λ r. subst (λ x. must_node to fail x ≡ node) (sym r.1) (returns r.0 (to == node) refl l))
    (λ f. subst (λ x. must_node to fail x ≡ node) (sym f.3) (sym f.0)) (exit_cases fail exit node e h) where
      returns : (node ≡ fail → ⊥) → (t : Bool) → (to == node) ≡ t → IsTrue (t || (node == fail)) → to ≡ node
      returns apart true f k = eqb-true to node f
      returns apart false f k = absurd (apart (eqb-true node fail k))

-- failures of trails that are extended
fails_extended : (exit : ExitKind) (t : Trace) (e : Edge) → IsTrue (not (left_out exit e)) → FailsAsAsked exit t →
    FailsAsAsked exit (extended t e)
fails_extended exit t (Entry to params) l f = f
fails_extended exit t (Assign from to slot value) l f = f
fails_extended exit t (Guard from to rows) l f = f
fails_extended exit t (Input from to slot) l f = f
fails_extended exit t (Pick from to slot rows) l f = f
fails_extended exit t (Call from to proc args results) l f = f
fails_extended exit t (Assert from to own rows) l f = λ id other x e.
    let same : own ≡ other = same_Some own other e in
    let u : IsTrue (not (not (own == id))) = subst (λ y. IsTrue (not (left_out y (Assert from to own rows)))) x l in
    sym same ∙ eqb-true own id (not-false (own == id) (not-true (not (own == id)) u))
fails_extended exit t (Return from to slots) l f = f

fails_must : (exit : ExitKind) (t : Trace) (x : ExitKind) → ((id : ℕ) → x ≡ kind.Fail id → exit ≡ kind.Fail id) → FailsAsAsked exit t →
    (id other : ℕ) → exit ≡ kind.Fail id → must_failed x t.failed ≡ Some other → other ≡ id
fails_must exit t kind.Return same f id other e h = f id other e h
fails_must exit t (kind.Fail own) same f id other e h =
    let a : kind.Fail own ≡ kind.Fail id = sym (same own refl) ∙ e in
    let b : own ≡ other = same_Some own other h in
    sym b ∙ fail_one own id a
  where
    fail_one : (a b : ℕ) → kind.Fail a ≡ kind.Fail b → a ≡ b
    fail_one a b h = cc

call_fails : (fail : ℕ) (exit : ExitKind) (node : ℕ) (e : ExitKind) → call_exit fail exit node ≡ Some e → (id : ℕ) → e ≡ kind.Fail id →
    exit ≡ kind.Fail id
call_fails fail exit node e h id f = ⊎_elim (λ r. absurd (apart id (sym r.1 ∙ f))) (λ k. k.2 ∙ sym k.3 ∙ f)
    (exit_cases fail exit node e h) where
      apart : (i : ℕ) → kind.Return ≡ kind.Fail i → ⊥
      apart i x = cc

-- the node after the entry is no end
no_first : (g : Graph) → IsGraph g.nodes g.exit g.fail g.params g.exits g.slots g.edges → (exit : ExitKind) → end_node g exit
    ≡ first_node g.edges →
    ⊥
no_first g ok exit e = by_exit exit e where
  k : IsEdge g.nodes g.exit g.fail g.exits g.slots (Entry (first_node g.edges) g.params)
  k = ok.are_edges 0 (Entry (first_node g.edges) g.params) (entry_edge g.params g.edges ok.begins)

  by_exit : (x : ExitKind) → end_node g x ≡ first_node g.edges → ⊥
  by_exit kind.Return f = eqb-false (first_node g.edges) g.exit (sym k.to_exit) (sym f)
  by_exit (kind.Fail id) f = eqb-false (first_node g.edges) g.fail (sym k.to_fail) (sym f)

module _ (gs : List Graph) (g : Graph) (ok : IsGraph g.nodes g.exit g.fail g.params g.exits g.slots g.edges) (m : Model)
    (h : KeepsMarks gs g m.query m.trails m.marks m.parted.regions) (joined : AreConnected g m.query.exit m.parted) where
  -- the mark of a trail
  mark_of : (n : ℕ) (t : Trace) (r : ℕ) → MarksWith m n t r → (k : Mark) × (k.trail ≡ n) × (k.region ≡ r) × IsGoodMark m.query m.trails
      m.parted.regions k
  mark_of n t r w =
      let a = any_at (λ k. k.trail == n && k.region == r) m.marks w.1 in
      let b = both (a.1.trail == n) (a.1.region == r) a.3 in
      (a.1, eqb-true a.1.trail n b.0, eqb-true a.1.region r b.1, h.good a.0 a.1 a.2)

  -- a trail that marks the source of an edge from a node stands at the node
  pub at_source : (k : RegionEdge) → IsTrue (m.parted.live k) → (b : Between g m k) → (n : ℕ) (t : Trace) → MarksWith m n t k.from →
      (x : ℕ) →
      source b.edge ≡ Some x → t.node ≡ x
  at_source k live b n t w x src =
      let c = mark_of n t k.from w in
      let u = joined k live b.edge b.at_edge b.source b.target b.at_source b.at_target in
      let from : b.source.node ≡ x = subst (λ o. LeavesFrom g o b.source.node) src u.0 in
      ⊎_elim (λ o. absurd (out c.0 o (c.2) from)) (λ z. inside c.0 c.1 c.2 z from) c.3
    where
      out : (c : Mark) → (c.region ≡ 0) × (c.trail ≡ 0) → c.region ≡ k.from → b.source.node ≡ x → ⊥
      out c o same from =
          let zero_from : 0 ≡ k.from = sym o.0 ∙ same in
          let r : region g.nodes [] ≡ b.source = same_Some _ b.source
          (sym h.outside ∙ subst (λ j. slice_get m.parted.regions j ≡ Some b.source) (sym zero_from) b.at_source) in
          let node : g.nodes ≡ b.source.node = ap (λ (y : Region). y.node) r in
          let low = (ok.are_edges k.edge b.edge b.at_edge).leaves x src in
          omega (arith, low.0, node, from)

      inside : (c : Mark) → c.trail ≡ n → c.region ≡ k.from → Sees m.query m.trails m.parted.regions c → b.source.node ≡ x → t.node ≡ x
      inside c nt same z from =
          let trail : z.trail ≡ t = same_Some z.trail t (sym z.there ∙ subst (λ j. slice_get m.trails j ≡ Some t) (sym nt) w.0) in
          let place : z.place ≡ b.source = same_Some z.place b.source
          (sym z.at_place ∙ subst (λ j. slice_get m.parted.regions j ≡ Some b.source) (sym same) b.at_source) in
          ap (λ (y : Trace). y.node) (sym trail) ∙ z.same_node ∙ ap (λ (y : Region). y.node) place ∙ from

  -- the target of an edge is no outside
  inner_target : (k : RegionEdge) (b : Between g m k) → b.target.node < g.nodes → k.to ≢ 0
  inner_target k b low e =
      let r : region g.nodes [] ≡ b.target = same_Some _ b.target (sym h.outside ∙ subst (λ j. slice_get m.parted.regions j ≡ Some b.target)
      e b.at_target) in
      omega (arith, low, ap (λ (y : Region). y.node) r)

  -- an edge into the target's region leads to the query's end
  to_end : (k : RegionEdge) (b : Between g m k) → k.to ≡ target_region g m.query → b.target ≡ region (end_node g m.query.exit)
      m.query.end.atoms
  to_end k b r = same_Some _ _
      (sym b.at_target ∙ subst (λ j. slice_get m.parted.regions j ≡ Some (region (end_node g m.query.exit) m.query.end.atoms)) (sym r)
      h.target)

  read_at : (k : RegionEdge) (b : Between g m k) (new : Trace) → slice_get (m.trails ++ new ∷ []) (length m.trails) ≡ Some new →
      first_wide (row_sums (reading new.slots new.entry) b.target.cube.atoms) ≡ None → k.to ≡ target_region g m.query → (t : Trace) →
      slice_get (m.trails ++ new ∷ []) (length m.trails) ≡ Some t → first_wide (row_sums (reading t.slots t.entry) m.query.end.atoms) ≡ None
  read_at k b new there read r t y =
      subst (λ (x : Trace). first_wide (row_sums (reading x.slots x.entry) m.query.end.atoms) ≡ None) (same_Some new t (sym there ∙ y))
      (subst (λ (x : Region). first_wide (row_sums (reading new.slots new.entry) x.cube.atoms) ≡ None) (to_end k b r) read)

  -- Extend
  pub extend_inner : (k : RegionEdge) → IsTrue (m.parted.live k) → (n : ℕ) (point : Point) → (l : Extends g m k n point) → k.edge ≢ 0 →
      KeepsMarks gs g m.query (m.trails ++ extended l.trail l.at.between.edge ∷ [])
      (m.marks ++ record { trail = length m.trails; region = k.to; point = point } ∷ []) m.parted.regions
  extend_inner k live n point l inner =
      let b = l.at.between in
      let entry : is_entry b.edge ≡ false = entry_first g ok k.edge b.edge b.at_edge inner in
      let src = source_some b.edge entry in
      let stands : l.trail.node ≡ src.0 = at_source k live b n l.trail l.marks src.0 src.1 in
      let leads_to : b.target.node ≡ target b.edge = leads_node g.fail b.edge b.target.node l.at.plain
      (joined k live b.edge b.at_edge b.source b.target b.at_source b.at_target).1 in
      let low : b.target.node < g.nodes = subst (λ x. x < g.nodes) (sym leads_to) (ok.are_edges k.edge b.edge b.at_edge).in_range in
      let new : Trace = extended l.trail b.edge in
      let is_trail : IsTrail gs g new = extended_trail gs g ok l.trail (h.are_trails n l.trail l.marks.0).0 k.edge b.edge b.at_edge
      (src.1 ∙ ap Some (sym stands)) l.at.plain in
      let there : slice_get (m.trails ++ new ∷ []) (length m.trails) ≡ Some new = subst (λ j. slice_get (m.trails ++ new ∷ []) j ≡ Some new)
      (plus_zero (length m.trails)) (get_right m.trails 0 (new ∷ []) new refl) in
      marks_more gs g m.query m.trails m.marks m.parted.regions (new ∷ [])
      (record { trail = length m.trails; region = k.to; point = point })
      (one_trail new is_trail (fails_extended m.query.exit l.trail b.edge (joined k live b.edge b.at_edge b.source b.target b.at_source
      b.at_target).2 (h.are_trails n l.trail l.marks.0).1)) (inr (record {
        trail = new;
        there = there;
        place = b.target;
        at_place = b.at_target;
        inner = inner_target k b low;
        same_node = node_target l.trail b.edge l.at.plain entry ∙ sym leads_to;
        values = l.comes.values;
        seen = l.comes.met;
      })) (λ r t y. read_at k b new there (wide_behind (sums_of l.trail b.edge) (row_sums (reading new.slots new.entry) b.target.cube.atoms)
      l.comes.decided) r t y) h
    where
      plus_zero : (j : ℕ) → j + 0 ≡ j
      plus_zero j = omega arith

      one_trail : (new : Trace) → IsTrail gs g new → FailsAsAsked m.query.exit new → (j : ℕ) (t : Trace) → slice_get (new ∷ []) j ≡ Some t →
          IsTrail gs g t × FailsAsAsked m.query.exit t
      one_trail new i f zero t e = subst (λ x. IsTrail gs g x × FailsAsAsked m.query.exit x) (same_Some new t e) (i, f)
      one_trail new i f (suc j) t e = absurd (none-some t e)

  -- over edge 0 the trail is the first one
  pub extend_entry : ((a : ℕ) (r : Region) → slice_get m.parted.regions a ≡ Some r → r.node ≡ g.nodes → a ≡ 0) → (k : RegionEdge) →
      IsTrue (m.parted.live k) → (n : ℕ) (point : Point) → (l : Extends g m k n point) → k.edge ≡ 0 →
      KeepsMarks gs g m.query (m.trails ++ []) (m.marks ++ record { trail = 0; region = k.to; point = point } ∷ []) m.parted.regions
  extend_entry one k live n point l zero_edge =
      marks_more gs g m.query m.trails m.marks m.parted.regions [] (record { trail = 0; region = k.to; point = point })
      (λ j t e. absurd (none-some t e))
      (inr (record {
        trail = first;
        there = there;
        place = b.target;
        at_place = b.at_target;
        inner = inner_target k b low;
        same_node = sym to_first;
        values = l.comes.values;
        seen = seen;
      })) (λ r t y. absurd (no_first g ok m.query.exit (sym (ap (λ (x : Region). x.node) (to_end k b r)) ∙ to_first))) h
    where
      b : Between g m k
      b = l.at.between

      first : Trace
      first = begin_trail (first_node g.edges) g.params g.slots

      entry : Edge
      entry = Entry (first_node g.edges) g.params

      is : l.at.between.edge ≡ Entry (first_node g.edges) g.params
      is = same_Some _ _ (sym l.at.between.at_edge ∙ subst (λ j. slice_get g.edges j ≡ Some (Entry (first_node g.edges) g.params))
          (sym zero_edge) (entry_edge g.params g.edges ok.begins))

      outer : l.at.between.source.node ≡ g.nodes
      outer = subst (λ e. LeavesFrom g (source e) l.at.between.source.node) is (joined k live l.at.between.edge l.at.between.at_edge
          l.at.between.source l.at.between.target l.at.between.at_source l.at.between.at_target).0

      zero_from : k.from ≡ 0
      zero_from = one k.from l.at.between.source l.at.between.at_source outer

      to_first : l.at.between.target.node ≡ first_node g.edges
      to_first = leads_node g.fail l.at.between.edge l.at.between.target.node l.at.plain
          (joined k live l.at.between.edge l.at.between.at_edge l.at.between.source l.at.between.target l.at.between.at_source
          l.at.between.at_target).1 ∙ ap target is

      low : l.at.between.target.node < g.nodes
      low = subst (λ x. x < g.nodes) (ap target is ∙ sym to_first) (ok.are_edges k.edge l.at.between.edge l.at.between.at_edge).in_range

      there : slice_get (m.trails ++ []) 0 ≡ Some (begin_trail (first_node g.edges) g.params g.slots)
      there = subst (λ ts. slice_get ts 0 ≡ Some (begin_trail (first_node g.edges) g.params g.slots)) (sym (append-nil m.trails)) h.first

      by_mark : (c : Mark) → c.trail ≡ n → c.region ≡ k.from → IsGoodMark m.query m.trails m.parted.regions c → n ≡ 0
      by_mark c nt same (inl o) = sym nt ∙ o.1
      by_mark c nt same (inr z) = absurd (z.inner (same ∙ zero_from))

      is_first : l.trail ≡ begin_trail (first_node g.edges) g.params g.slots
      is_first = let c = mark_of n l.trail k.from l.marks in
          same_Some _ _ (sym l.marks.0 ∙ subst (λ j. slice_get m.trails j ≡ Some (begin_trail (first_node g.edges) g.params g.slots))
          (sym (by_mark c.0 c.1 c.2 c.3)) h.first)

      met : HoldsAll (valuation point)
          (seen_at m.query (extended (begin_trail (first_node g.edges) g.params g.slots) (Entry (first_node g.edges) g.params))
          l.at.between.target.cube.atoms)
      met = subst (λ t. HoldsAll (valuation point) (seen_at m.query (extended t (Entry (first_node g.edges) g.params))
          l.at.between.target.cube.atoms))
          is_first (subst (λ e. HoldsAll (valuation point) (seen_at m.query (extended l.trail e) l.at.between.target.cube.atoms)) is
          l.comes.met)

      seen : HoldsAll (valuation point) (seen_at m.query (begin_trail (first_node g.edges) g.params g.slots) l.at.between.target.cube.atoms)
      seen = met

  -- Calls
  pub extend_called : AreGraphs gs → slice_get gs m.query.proc ≡ Some g → (table : List Summary) → AllHold gs table → (k : RegionEdge) →
      IsTrue (m.parted.live k) → (n place : ℕ) (point : Point) → (l : ExtendsCall g table m k n place point) →
      KeepsMarks gs g m.query (m.trails ++ extended_must l.trail l.call.to g.fail l.call.site l.path ∷ [])
      (m.marks ++ record { trail = length m.trails; region = k.to; point = point } ∷ []) m.parted.regions
  extend_called linked at table musts k live n place point l =
      marks_more gs g m.query m.trails m.marks m.parted.regions (new ∷ [])
      (record { trail = length m.trails; region = k.to; point = point })
      one_trail (inr (record {
        trail = new;
        there = there;
        place = b.target;
        at_place = b.at_target;
        inner = inner_target k b low;
        same_node = node;
        values = l.comes.values;
        seen = l.comes.met;
      })) (λ r t y. read_at k b new there (wide_behind (must_sums l.trail l.call.site.arguments l.path) (row_sums
      (reading new.slots new.entry)
      b.target.cube.atoms) l.comes.decided) r t y) h
    where
      b : Between g m k
      b = l.call.between

      call_at : slice_get g.edges k.edge ≡ Some (call_edge l.call.from l.call.to l.call.site)
      call_at = l.call.between.at_edge ∙ ap Some l.call.is_call

      call_ok : IsEdge g.nodes g.exit g.fail g.exits g.slots (call_edge l.call.from l.call.to l.call.site)
      call_ok = ok.are_edges k.edge (call_edge l.call.from l.call.to l.call.site) call_at

      held : MustHolds (graph_runs gs) (arity_in gs l.path.proc) l.path
      held = musts place (Must l.path) l.must_at.there

      gives : GivesRuns gs l.path
      gives = λ v v64 guard. let run = held.gives_runs v v64 guard in (run.0, run.1.run)

      stands : l.trail.node ≡ l.call.from
      stands = at_source k live l.call.between n l.trail l.marks l.call.from (ap source l.call.is_call)

      count : length l.call.site.arguments ≡ length l.path.entry
      count =
          takes_entries (slice_get gs l.call.site.procedure) (length l.call.site.arguments) (length l.call.site.results)
          (linked m.query.proc g at k.edge l.call.from l.call.to l.call.site call_at)
          ∙ ap (λ p. (arity_in gs p).entries) (sym l.must_at.of_procedure) ∙ sym held.entry_terms

      new : Trace
      new = extended_must l.trail l.call.to g.fail l.call.site l.path

      is_trail : IsTrail gs g (extended_must l.trail l.call.to g.fail l.call.site l.path)
      is_trail = extended_must_trail gs g ok l.trail (h.are_trails n l.trail l.marks.0).0 k.edge l.call.from l.call.to l.call.site call_at
          (sym stands) l.path gives l.must_at.of_procedure count

      kind_of : (id : ℕ) → l.call.exit ≡ kind.Fail id → m.query.exit ≡ kind.Fail id
      kind_of id e = call_fails g.fail m.query.exit l.call.between.target.node l.call.exit l.call.is_kind id e

      fails_as : FailsAsAsked m.query.exit (extended_must l.trail l.call.to g.fail l.call.site l.path)
      fails_as = fails_must m.query.exit l.trail l.path.exit (λ id e. kind_of id (sym l.must_at.of_exit ∙ e))
          (h.are_trails n l.trail l.marks.0).1

      one_trail : (j : ℕ) (t : Trace) → slice_get (new ∷ []) j ≡ Some t → IsTrail gs g t × FailsAsAsked m.query.exit t
      one_trail zero t e = subst (λ x. IsTrail gs g x × FailsAsAsked m.query.exit x) (same_Some _ t e) (is_trail, fails_as)
      one_trail (suc j) t e = absurd (none-some t e)

      there : slice_get (m.trails ++ new ∷ []) (length m.trails) ≡ Some new
      there = subst (λ j. slice_get (m.trails ++ new ∷ []) j ≡ Some new) (let z : length m.trails + 0 ≡ length m.trails = omega arith in z)
          (get_right m.trails 0 (new ∷ []) new refl)

      leads_to : IsTrue (leads g.fail (call_edge l.call.from l.call.to l.call.site) l.call.between.target.node)
      leads_to = subst (λ e. IsTrue (leads g.fail e l.call.between.target.node)) l.call.is_call
          (joined k live l.call.between.edge l.call.between.at_edge l.call.between.source l.call.between.target l.call.between.at_source
          l.call.between.at_target).1

      node : must_node l.call.to g.fail l.path.exit ≡ l.call.between.target.node
      node = subst (λ x. must_node l.call.to g.fail x ≡ l.call.between.target.node) (sym l.must_at.of_exit)
          (call_node g.fail m.query.exit l.call.to l.call.between.target.node l.call.exit l.call.is_kind leads_to)

      low : l.call.between.target.node < g.nodes
      low = subst (λ x. x < g.nodes) (node) (must_low l.path.exit) where
        must_low : (x : ExitKind) → must_node l.call.to g.fail x < g.nodes
        must_low kind.Return = call_ok.in_range
        must_low (kind.Fail id) = ok.fail_named

-- The beginning
pub begin_marks : (gs : List Graph) (g : Graph) (q : Query) → IsGraph g.nodes g.exit g.fail g.params g.exits g.slots g.edges →
    KeepsMarks gs g q (begin_trail (first_node g.edges) g.params g.slots ∷ []) (record { trail = 0; region = 0; point = [] } ∷ [])
    (begin_parted g q).regions
begin_marks gs g q ok = record {
  first = refl;
  are_trails = trails;
  good = marks;
  outside = refl;
  target = target_there;
  end_read = unread;
}
  where
    first : Trace
    first = begin_trail (first_node g.edges) g.params g.slots

    trails : (n : ℕ) (t : Trace) → slice_get (begin_trail (first_node g.edges) g.params g.slots ∷ []) n ≡ Some t → IsTrail gs g t
        × FailsAsAsked q.exit t
    trails zero t e = subst (λ x. IsTrail gs g x × FailsAsAsked q.exit x) (same_Some _ t e) (
      begin_is_trail gs g ok,
      λ id other x y. absurd (none-some other y),
    )
    trails (suc n) t e = absurd (none-some t e)

    marks : (j : ℕ) (k : Mark) → slice_get (record { trail = 0; region = 0; point = [] } ∷ []) j ≡ Some k →
        IsGoodMark q (begin_trail (first_node g.edges) g.params g.slots ∷ []) (begin_parted g q).regions k
    marks zero k e = inl (ap (λ (x : Mark). x.region) (sym (same_Some _ k e)), ap (λ (x : Mark). x.trail) (sym (same_Some _ k e)))
    marks (suc j) k e = absurd (none-some k e)

    unread : (j : ℕ) (k : Mark) → slice_get (record { trail = 0; region = 0; point = [] } ∷ []) j ≡ Some k → k.region ≡ target_region g q →
        (t : Trace) → slice_get (begin_trail (first_node g.edges) g.params g.slots ∷ []) k.trail ≡ Some t →
        first_wide (row_sums (reading t.slots t.entry) q.end.atoms) ≡ None
    unread zero k e r t y = let z : 0 ≡ k.region = ap (λ (x : Mark). x.region) (same_Some _ k e) in absurd (omega (arith, z, r))
    unread (suc j) k e r t y = absurd (none-some k e)

    at_end : (n : ℕ) → n ≡ end_node g q.exit → beginning g q n ≡ q.end.atoms
    at_end n e = rw (ne_eqb n (first_node g.edges) (λ f. apart (sym e ∙ f)), eq-eqb n (end_node g q.exit) e) refl where
      apart : end_node g q.exit ≡ first_node g.edges → ⊥
      apart f = no_first g ok q.exit f

    target_there : slice_get (begin_parted g q).regions (suc (end_node g q.exit)) ≡ Some (region (end_node g q.exit) q.end.atoms)
    target_there = region_there g q 0 g.nodes (end_node g q.exit) (end_there g ok q.exit) ∙ ap (λ n. Some (region n (beginning g q n)))
        zero_plus ∙ ap (λ a. Some (region (end_node g q.exit) a)) (at_end (end_node g q.exit) refl) where
          zero_plus : 0 + end_node g q.exit ≡ end_node g q.exit
          zero_plus = omega arith

-- A closed query
module _ (gs : List Graph) (g : Graph) (ok : IsGraph g.nodes g.exit g.fail g.params g.exits g.slots g.edges) (q : Query)
    (at : slice_get gs q.proc ≡ Some g) (fits : Fits q.proc (arity_of (Some g)) q) where
  ended : (exit : ExitKind) → q.exit ≡ exit → (t : Trace) → IsTrail gs g t → FailsAsAsked q.exit t → t.node ≡ end_node g exit →
      (v : Valuation) → Is64 v → HoldsAll v t.guard.atoms → (d : ℕ) × GraphRuns gs d q.proc (values_of v t.entry) (values_of v t.inputs)
      (end_with exit (values_of v (outcome_of exit t)))
  ended kind.Return e t h f n v v64 m = returns_run gs q.proc g at ok t h n v v64 m
  ended (kind.Fail id) e t h f n v v64 m =
      let failed_at = h.is_failed n in
      fails_run gs q.proc g at ok t h id (failed_at.1 ∙ ap Some (f id failed_at.0 e failed_at.1)) v v64 m

  outcomes_of : (exit : ExitKind) → (t : Trace) → IsTrail gs g t → t.node ≡ end_node g exit → length (outcome_of exit t) ≡ exits_of exit
      g.exits
  outcomes_of kind.Return t h n = h.returned n
  outcomes_of (kind.Fail id) t h n = refl

  fails_as : (t : Trace) → IsTrail gs g t → FailsAsAsked q.exit t → t.node ≡ end_node g q.exit → (id : ℕ) → q.exit ≡ kind.Fail id →
      t.failed ≡ Some id
  fails_as t h f n id x =
      let there : t.node ≡ g.fail = n ∙ ap (end_node g) x in
      let a = h.is_failed there in
      a.1 ∙ ap Some (f id a.0 x a.1)

  -- the start is read at single symbols
  pub starts_read : (t : Trace) → IsTrail gs g t → (slots : List LinearSum) →
      first_wide (row_sums (reading slots t.entry) q.start.atoms) ≡ None
  starts_read t h slots =
      subst (λ e. first_wide (row_sums (reading slots e) q.start.atoms) ≡ None) (sym h.entry)
      (start_read g.params few slots q.start.atoms fits.start_terms fits.start_names)
    where
      few : g.params ≤ max_slots
      few = omega (arith, ok.params_in_slots, ok.few_slots)

  entry_value_count : (v : Valuation) (t : Trace) → IsTrail gs g t → length (values_of v t.entry) ≡ g.params
  entry_value_count v t h = length-map t.entry (value_of v) ∙ entry_count gs g t h

  pub found : (m : Model) → m.query ≡ q → KeepsMarks gs g q m.trails m.marks m.parted.regions → (k : Mark) (t : Trace) →
      IsTargetMark g m k t → IsFound gs g q t k.point
  found m same h k t mark = by_mark (mark.at_target ∙ ap (target_region g) same) (h.good mark.number k mark.among) where
    by_mark : k.region ≡ target_region g q → IsGoodMark q m.trails m.parted.regions k → IsFound gs g q t k.point
    by_mark r (inl o) = absurd (omega (arith, r, o.0))
    by_mark r (inr z) =
        let same_trail : z.trail ≡ t = same_Some _ _ (sym z.there ∙ mark.there) in
        let end : z.place ≡ region (end_node g q.exit) q.end.atoms = same_Some _ _
        (sym z.at_place ∙ subst (λ j. slice_get m.parted.regions j ≡ Some (region (end_node g q.exit) q.end.atoms)) (sym r) h.target) in
        let node : t.node ≡ end_node g q.exit = ap (λ (x : Trace). x.node) (sym same_trail) ∙ z.same_node ∙ ap (λ (x : Region). x.node) end
        in
        let seen : HoldsAll (valuation k.point) (seen_at q t z.place.cube.atoms) = subst
        (λ (x : Trace). HoldsAll (valuation k.point) (seen_at q x z.place.cube.atoms)) same_trail z.seen in
        let met : HoldsAll (valuation k.point) (path_guard t q.start.atoms q.end.atoms) = subst
        (λ (x : Region). HoldsAll (valuation k.point) (seen_at q t x.cube.atoms)) end seen in
        let ts = h.are_trails k.trail t mark.there in
        record {
          node = node;
          failed = fails_as t ts.0 ts.1 node;
          entries = entry_count gs g t ts.0;
          outcomes = outcomes_of q.exit t ts.0 node;
          decided = wide_append (row_sums (reading t.slots t.entry) q.start.atoms) (row_sums (reading t.slots t.entry) q.end.atoms)
              (starts_read t ts.0 t.slots) (h.end_read mark.number k mark.among r t mark.there);
          values = z.values;
          met = met;
          runs = λ v v64 w.
              let guard : HoldsAll v t.guard.atoms =
              (holds_split v t.guard.atoms (rows_of_sums (row_sums (reading t.slots t.entry) q.start.atoms))
              (holds_split v (t.guard.atoms ++ rows_of_sums (row_sums (reading t.slots t.entry) q.start.atoms))
              (rows_of_sums (row_sums (reading t.slots t.entry) q.end.atoms)) w).0).0 in
              let run = ended q.exit refl t ts.0 ts.1 node v v64 guard in (
                run.0,
                record {
                  count = entry_value_count v t ts.0 ∙ ap (λ o. (arity_of o).entries) (sym at);
                  values = entry_values gs g t ts.0 v v64;
                  run = run.1;
                },
              );
        }
