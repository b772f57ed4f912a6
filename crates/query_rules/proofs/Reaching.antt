-- Each state of a query keeps what makes its answer true.
use Rattle.std.proofs.Common.{◌≡◌, ◌≢◌, ◌⊎◌, inl, inr, ⊎_elim, ℕ, zero, suc, ◌<◌, ◌≤◌, List, [], ◌∷◌, ◌++◌, take, drop, length, map, Option, Some, None, Bool, true, false, cond, not, ◌&&◌, ◌||◌, nat_lt, ◌==◌, ℤ, arith, refl, sym, subst, ap, ◌∙◌}
use Rattle.std.specs.Prelude.{slice_get, IsTrue}
use Rattle.std.specs.List.{list_all, filter}
use Rattle.std.proofs.lemmas.Option.{same_Some, none-some, slice_get_within}
use borrow.Author.Tests.{eqb-true, eqb-false, ne_eqb, ltb-true}
use Rattle.linear_formula.specs.LinearSum.{Valuation}
use Rattle.linear_formula.specs.Formula.{HoldsAll, are_terms}
use Rattle.c_tree.specs.Meaning.{State}
use Rattle.linear_formula.specs.declared.formula.Atom.{Atom}
use Rattle.linear_formula.proofs.Limits.{both}
use Rattle.linear_formula.proofs.TermAtoms.{are_terms-append}
use Rattle.infeasible_cert.specs.declared.certificate.Certificate.{Certificate}
use Rattle.flow_graph.specs.Calls.{call_edge}
use Rattle.flow_graph.specs.declared.graph.Graph.{Graph}
use Rattle.flow_graph.specs.declared.graph.Edge.{Edge}
use Rattle.flow_graph.specs.declared.graph.Edge.TheVariants.{Entry, Assign, Guard, Input, Pick, Call, Assert, Return}
use Rattle.flow_graph.specs.Shapes.{source, target, leads, is_call, is_return}
use Rattle.flow_graph.specs.Linked.{AreGraphs}
use Rattle.flow_graph.specs.WellFormed.{IsGraph, IsEdge, has_slots, has_terms, max_slots, is_entry_of}
use Rattle.flow_graph.specs.Runs.{Place, inside, left, failing, halted, Called, GraphRun}
use Rattle.flow_graph.specs.Columns.{first_entry, rows_name_only, is_value_column, valuation_of, AreValues, AreAllValues}
use Rattle.flow_graph.proofs.Numbers.{values_64}
use Rattle.flow_graph.specs.Regions.{FitsEdge, is_region_column}
use Rattle.flow_graph.proofs.Slots.{edges_name_slots}
use Rattle.weakest_pre.specs.Predecessors.{HoldsPredecessors, asked_atoms}
use Rattle.weakest_pre.proofs.Promising.{preimages-hold}
use Rattle.summary_form.specs.declared.query.Query.{Query}
use Rattle.summary_form.specs.declared.path.Path.{Path}
use Rattle.summary_form.specs.Musts.{MustHolds}
use Rattle.summary_form.specs.declared.summary.Summary.{Summary}
use Rattle.summary_form.specs.declared.summary.Summary.TheVariants.{NotMay, Must}
use Rattle.summary_form.specs.Instances.{graph_runs, arity_of, arity_in}
use Rattle.summary_form.specs.Answering.{AnswersNo}
use Rattle.summary_form.specs.NotMays.{NotMayHolds, Fits, Meets}
use Rattle.shadow_elim.specs.Questions.{is_negatable}
use Rattle.may_partition.specs.declared.region.Region.{Region}
use Rattle.may_partition.specs.declared.region.RegionEdge.{RegionEdge}
use Rattle.may_partition.specs.Parted.{end_node}
use Rattle.may_partition.specs.Connected.{LeavesFrom}
use Rattle.may_partition.specs.Spots.{Spot, outside, standing, Goes}
use Rattle.may_partition.specs.Fitting.{node_column}
use Rattle.may_partition.proofs.Fitting.{fit_terms, fit_names}
use Rattle.may_partition.proofs.Pieces.{holds_append}
use Rattle.call_bridge.specs.Asked.{FitsCall, names_exit}
use Rattle.call_bridge.specs.Musts.{FitsMust}
use Rattle.call_bridge.specs.Calls.{inner_column}
use Rattle.call_bridge.specs.Laws.{IsRegion}
use Rattle.call_bridge.proofs.Calling.{asked_holds}
use Rattle.call_bridge.proofs.Leading.{must_region}
use Rattle.query_rules.specs.declared.step.Asked.{Asked}
use Rattle.query_rules.specs.declared.step.Killer.{Killer}
use Rattle.query_rules.specs.declared.step.Killer.TheVariants as killer
use Rattle.query_rules.specs.declared.step.News.TheVariants as news
use Rattle.query_rules.specs.declared.step.Step.{Step}
use Rattle.query_rules.specs.declared.step.Step.TheVariants as step
use Rattle.query_rules.specs.Conditional.{Gives}
use Rattle.query_rules.specs.Leaning.{levels_of}
use Rattle.query_rules.specs.Legal.{Splits, SplitsCall, Kills, MayAsk, IsLegal}
use Rattle.query_rules.specs.Paths.{HasNoPath}
use Rattle.query_rules.specs.Rows.{Between, CallAt, AsksAt, IsPreimage, MustAt}
use Rattle.query_rules.specs.States.{IsTrueNews, Happening, made, heard, after, Happens, AllHappen, after_all, IsStateOf, AllHold}
use Rattle.query_rules.specs.Steps.{Model, effect, stepped, uncut, begin_model, with_news, with_child, lowest_of, news_lowest}
use Rattle.query_rules.specs.invariants.Keeping.{Asks, Keeps, killed, split, core_of}
use Rattle.query_rules.proofs.Closing.{turn_live}
use Rattle.query_rules.proofs.Killing.{Predicts, takes_entries, takes_exits, idle_refuted, cut_by, IsCutBy}
use Rattle.query_rules.proofs.Preimages.{preimage_region, behind_column, follow_region, own_region, both_fit}
use Rattle.query_rules.proofs.Shown.{refuted_never, entails_answers, follow_holds, leads_node, column_named, names_same}
use Rattle.query_rules.proofs.Stepping.{keeps_kill, kill_table, kill_child, kill_ancestor, keeps_split, keeps_ask, keeps_update, begin_keeps, closed_alone, closed_given}
use Rattle.query_rules.proofs.Walking.{not_end}

pub take_get : {A : Type 0} (n : ℕ) (xs : List A) (i : ℕ) (x : A) → slice_get (take n xs) i ≡ Some x → slice_get xs i ≡ Some x
take_get zero [] i x e = absurd (none-some x e)
take_get zero (y ∷ xs) i x e = absurd (none-some x e)
take_get (suc n) [] i x e = absurd (none-some x e)
take_get (suc n) (y ∷ xs) zero x e = e
take_get (suc n) (y ∷ xs) (suc i) x e = take_get n xs i x e

-- the slots of a list hold values
passed_values : (s : State) → AreValues s → (args : List ℕ) → AreAllValues (map s args)
passed_values s vs [] i = refl
passed_values s vs (x ∷ args) zero = vs x
passed_values s vs (x ∷ args) (suc i) = passed_values s vs args i

slots_below : (args : List ℕ) → IsTrue (list_all (λ x. nat_lt x max_slots) args) → (j a : ℕ) → slice_get args j ≡ Some a → a < first_entry
slots_below [] h j a e = absurd (none-some a e)
slots_below (x ∷ args) h zero a e = subst (λ n. n < first_entry) (same_Some x a e)
    (ltb-true x first_entry (both (nat_lt x max_slots) (list_all (λ y. nat_lt y max_slots) args) h).0)
slots_below (x ∷ args) h (suc j) a e = slots_below args (both (nat_lt x max_slots) (list_all (λ y. nat_lt y max_slots) args) h).1 j a e

-- an edge that is no return leads to no exit
leads_exit : (g : Graph) → IsGraph g.nodes g.exit g.fail g.params g.exits g.slots g.edges → (e : Edge) → IsEdge g.nodes g.exit g.fail
    g.exits g.slots e →
    is_return e ≡ false → (n : ℕ) → IsTrue (leads g.fail e n) → n ≡ g.exit → ⊥
leads_exit g ok e k r n l x = ⊎_elim (λ t. eqb-false (target e) g.exit (sym k.to_exit ∙ r) (eqb-true (target e) n t ∙ x))
    (λ t. ok.two_ends (sym x ∙ eqb-true n g.fail (both (is_call e) (n == g.fail) t).1))
    (or_cases (target e == n) (is_call e && (n == g.fail)) l) where
      or_cases : (t u : Bool) → IsTrue (t || u) → IsTrue t ⊎ IsTrue u
      or_cases true u h = inl refl
      or_cases false u h = inr h

-- no step from an inner place is over edge 0
pub no_entry : (C : Called) (g : Graph) → IsGraph g.nodes g.exit g.fail g.params g.exits g.slots g.edges → (entry : List ℤ) (b : Place)
    (y : Spot) →
    Goes C g entry 0 (standing b) y → ⊥
no_entry C g ok entry (inside n s) outside go = go
no_entry C g ok entry (inside n s) (standing c) go = by_edge go.0 go.4 (subst (λ o. IsTrue (is_entry_of g.params o)) go.3 ok.begins) where
  by_edge : (e : Edge) → source e ≡ Some n → IsTrue (is_entry_of g.params (Some e)) → ⊥
  by_edge (Entry to params) src t = none-some n src
  by_edge (Assign from to slot value) src t = cc
  by_edge (Guard from to rows) src t = cc
  by_edge (Input from to slot) src t = cc
  by_edge (Pick from to slot rows) src t = cc
  by_edge (Call from to proc args results) src t = cc
  by_edge (Assert from to id rows) src t = cc
  by_edge (Return from to slots) src t = cc
no_entry C g ok entry (left vs) y go = go
no_entry C g ok entry (failing id s) y go = go
no_entry C g ok entry halted y go = go

-- the columns of a node that is no exit
inner_at : (exit node : ℕ) → (node ≡ exit → ⊥) → (x : ℕ) → node_column exit node x ≡ inner_column x
inner_at exit node n x = rw (ne_eqb node exit n) refl

-- the columns after an edge, where a region at the exit names the exit values
behind_named : (g : Graph) (e : Edge) → IsEdge g.nodes g.exit g.fail g.exits g.slots e → (node : ℕ) → node ≡ target e →
    (atoms : List Atom) →
    IsTrue (rows_name_only (node_column g.exit node) atoms) →
    (node ≡ g.exit → IsTrue (rows_name_only (is_value_column first_entry g.exits) atoms)) →
    IsTrue (rows_name_only (behind_column e) atoms)
behind_named g e ok node same atoms names at_exit = by_edge e ok same where
  inner : (to : ℕ) → false ≡ (to == g.exit) → node ≡ to → IsTrue (rows_name_only inner_column atoms)
  inner to h s = names_same (node_column g.exit node) inner_column atoms
      (inner_at g.exit node (λ k. eqb-false to g.exit (sym h) (sym s ∙ k)))
      names

  by_edge : (e : Edge) → IsEdge g.nodes g.exit g.fail g.exits g.slots e → node ≡ target e → IsTrue (rows_name_only (behind_column e) atoms)
  by_edge (Entry to params) k s = inner to k.to_exit s
  by_edge (Assign from to slot value) k s = inner to k.to_exit s
  by_edge (Guard from to rows) k s = inner to k.to_exit s
  by_edge (Input from to slot) k s = inner to k.to_exit s
  by_edge (Pick from to slot rows) k s = inner to k.to_exit s
  by_edge (Call from to proc args results) k s = inner to k.to_exit s
  by_edge (Assert from to id rows) k s = inner to k.to_exit s
  by_edge (Return from to slots) k s =
      subst (λ n. IsTrue (rows_name_only (is_value_column first_entry n) atoms)) (sym (eqb-true (length slots) g.exits k.lists))
      (at_exit (s ∙ eqb-true to g.exit (sym k.to_exit)))

asked_terms : (e : Edge) → IsTrue (has_terms e) → (atoms : List Atom) → IsTrue (are_terms atoms) → IsTrue (are_terms (asked_atoms e atoms))
asked_terms (Entry to params) h atoms t = t
asked_terms (Assign from to slot value) h atoms t = t
asked_terms (Guard from to rows) h atoms t = t
asked_terms (Input from to slot) h atoms t = t
asked_terms (Pick from to slot rows) h atoms t = are_terms-append atoms rows.atoms t h
asked_terms (Call from to proc args results) h atoms t = t
asked_terms (Assert from to id rows) h atoms t = t
asked_terms (Return from to slots) h atoms t = t

pub holds_filter : (v : Valuation) (p : Atom → Bool) (atoms : List Atom) → HoldsAll v atoms → HoldsAll v (filter p atoms)
holds_filter v p [] h = tt
holds_filter v p (a ∷ atoms) h = by_test (p a) (holds_filter v p atoms h.1) where
  by_test : (b : Bool) → HoldsAll v (filter p atoms) → HoldsAll v (cond b (a ∷ filter p atoms) (filter p atoms))
  by_test true k = (h.0, k)
  by_test false k = k

-- What legal steps show
module _ (gs : List Graph) (linked : AreGraphs gs) (g : Graph) where
  pub record Good (m : Model) : Type 0 where
    pub at : slice_get gs m.query.proc ≡ Some g
    pub fits : Fits m.query.proc (arity_of (Some g)) m.query
    pub keeps : Keeps gs g m.query (levels_of m.ancestors m.query) (core_of m)

  ok : IsGraph g.nodes g.exit g.fail g.params g.exits g.slots g.edges
  ok = g.well_formed

  -- the target of a live edge that is no call is as the edge wants it
  slots_of : (k : RegionEdge) (e : Edge) → slice_get g.edges k.edge ≡ Some e → IsTrue (has_slots max_slots e)
  slots_of k e at = edges_name_slots g k.edge e at

  target_node : (m : Model) → Good m → (k : RegionEdge) → IsTrue (m.parted.live k) → (b : Between g m k) → is_call b.edge ≡ false →
      b.target.node ≡ target b.edge
  target_node m h k live b plain =
      leads_node g.fail b.edge b.target.node plain (h.keeps.connected k live b.edge b.at_edge b.source b.target b.at_source b.at_target).1

  target_terms : (m : Model) → Good m → (k : RegionEdge) → (b : Between g m k) → IsTrue (are_terms b.target.cube.atoms)
  target_terms m h k b = fit_terms (node_column g.exit b.target.node) b.target.cube.atoms (h.keeps.fit k.to b.target b.at_target)

  target_names : (m : Model) → Good m → (k : RegionEdge) → (b : Between g m k) →
      IsTrue (rows_name_only (node_column g.exit b.target.node) b.target.cube.atoms)
  target_names m h k b = fit_names (node_column g.exit b.target.node) b.target.cube.atoms (h.keeps.fit k.to b.target b.at_target)

  pub edge_terms : (m : Model) → Good m → (k : RegionEdge) → (b : Between g m k) →
      IsTrue (are_terms (asked_atoms b.edge b.target.cube.atoms))
  edge_terms m h k b = asked_terms b.edge (ok.are_edges k.edge b.edge b.at_edge).terms b.target.cube.atoms (target_terms m h k b)

  -- the target of a live edge that is no call is a region after the edge
  pub fits_edge : (m : Model) → Good m → (k : RegionEdge) → IsTrue (m.parted.live k) → (b : Between g m k) → is_call b.edge ≡ false →
      FitsEdge b.edge b.target.cube.atoms
  fits_edge m h k live b plain = record {
    slots = slots_of k b.edge b.at_edge;
    columns = names_same (node_column g.exit b.target.node) (is_region_column b.edge) b.target.cube.atoms
        (λ x. column_named g.exit b.edge b.target.node (ok.are_edges k.edge b.edge b.at_edge).to_exit (target_node m h k live b plain) x)
        (target_names m h k b);
  }

  -- such an edge is predicted by its preimage
  pub predicts : (m : Model) → Good m → (k : RegionEdge) → IsTrue (m.parted.live k) → (b : Between g m k) → is_call b.edge ≡ false →
      (pre : List Atom) → IsPreimage b.edge b.target.cube.atoms pre → Predicts g k b.target.cube.atoms pre
  predicts m h k live b plain pre is e at =
      let same : b.edge ≡ e = same_Some b.edge e (sym b.at_edge ∙ at) in
      subst (λ x. (is_call x ≡ false) × FitsEdge x b.target.cube.atoms × HoldsPredecessors x b.target.cube.atoms pre) same (
        plain,
        fits_edge m h k live b plain,
        preimages-hold b.edge b.target.cube.atoms pre is.0 plain (edge_terms m h k b) is.1,
      )

  -- the rows of its preimage are those of a region
  pub pre_region : (m : Model) → Good m → (k : RegionEdge) → IsTrue (m.parted.live k) → (b : Between g m k) → is_call b.edge ≡ false →
      (n : ℕ) →
      source b.edge ≡ Some n → (pre : List Atom) → IsPreimage b.edge b.target.cube.atoms pre → IsRegion pre
  pre_region m h k live b plain n src pre is =
      let edge_ok = ok.are_edges k.edge b.edge b.at_edge in
      preimage_region b.edge n b.target.cube.atoms pre is.0 src plain (slots_of k b.edge b.at_edge) edge_ok.terms (target_terms m h k b)
      (behind_named g b.edge edge_ok b.target.node (target_node m h k live b plain) b.target.cube.atoms (target_names m h k b)
      (h.keeps.exit_fit k.to b.target b.at_target)) is.1

  -- Calls
  inner_source : (m : Model) → Good m → (k : RegionEdge) → IsTrue (m.parted.live k) → (c : CallAt g m k) →
      IsTrue (rows_name_only inner_column c.between.source.cube.atoms)
  inner_source m h k live c =
      let b = c.between in
      let e : slice_get g.edges k.edge ≡ Some (call_edge c.from c.to c.site) = b.at_edge ∙ ap Some c.is_call in
      let joined = h.keeps.connected k live (call_edge c.from c.to c.site) e b.source b.target b.at_source b.at_target in
      let edge_ok = ok.are_edges k.edge (call_edge c.from c.to c.site) e in
      names_same (node_column g.exit b.source.node) inner_column b.source.cube.atoms
      (inner_at g.exit b.source.node (λ n. (edge_ok.leaves c.from refl).1 (sym joined.0 ∙ n)))
      (fit_names (node_column g.exit b.source.node) b.source.cube.atoms (h.keeps.fit k.from b.source b.at_source))

  pub inner_target : (m : Model) → Good m → (k : RegionEdge) → IsTrue (m.parted.live k) → (c : CallAt g m k) →
      IsTrue (rows_name_only inner_column c.between.target.cube.atoms)
  inner_target m h k live c =
      let b = c.between in
      let e : slice_get g.edges k.edge ≡ Some (call_edge c.from c.to c.site) = b.at_edge ∙ ap Some c.is_call in
      let joined = h.keeps.connected k live (call_edge c.from c.to c.site) e b.source b.target b.at_source b.at_target in
      let edge_ok = ok.are_edges k.edge (call_edge c.from c.to c.site) e in
      names_same (node_column g.exit b.target.node) inner_column b.target.cube.atoms
      (inner_at g.exit b.target.node (leads_exit g ok (call_edge c.from c.to c.site) edge_ok refl b.target.node joined.1))
      (target_names m h k b)

  -- the slots of a call
  call_slots : (m : Model) (k : RegionEdge) (c : CallAt g m k) → IsTrue (list_all (λ x. nat_lt x max_slots) c.site.results)
      × IsTrue (list_all (λ x. nat_lt x max_slots) c.site.arguments)
  call_slots m k c = both (list_all (λ x. nat_lt x max_slots) c.site.results) (list_all (λ x. nat_lt x max_slots) c.site.arguments)
      (slots_of k (call_edge c.from c.to c.site) (c.between.at_edge ∙ ap Some c.is_call))

  -- as many arguments as the called procedure has parameters
  call_many : (m : Model) → Good m → (k : RegionEdge) (c : CallAt g m k) → length c.site.arguments ≡ (arity_in gs c.site.procedure).entries
  call_many m h k c = takes_entries (slice_get gs c.site.procedure) (length c.site.arguments) (length c.site.results)
      (linked m.query.proc g h.at k.edge c.from c.to c.site (c.between.at_edge ∙ ap Some c.is_call))

  -- and as many results as it has exit values
  call_exits : (m : Model) → Good m → (k : RegionEdge) (c : CallAt g m k) → length c.site.results ≡ (arity_in gs c.site.procedure).exits
  call_exits m h k c = takes_exits (slice_get gs c.site.procedure) (length c.site.arguments) (length c.site.results)
      (linked m.query.proc g h.at k.edge c.from c.to c.site (c.between.at_edge ∙ ap Some c.is_call))

  few_exits : (o : Option Graph) → (arity_of o).exits ≤ first_entry
  few_exits None = omega arith
  few_exits (Some other) = let w = other.well_formed in omega (arith, w.few_exits)

  few_entries : (o : Option Graph) → (arity_of o).entries ≤ first_entry
  few_entries None = omega arith
  few_entries (Some other) = let w = other.well_formed in omega (arith, w.params_in_slots, w.few_slots)

  pub fits_call : (m : Model) → Good m → (k : RegionEdge) → IsTrue (m.parted.live k) → (c : CallAt g m k) →
      FitsCall c.site c.between.source.cube.atoms c.between.target.cube.atoms
  fits_call m h k live c = record {
    are_slots = slots_below c.site.arguments (call_slots m k c).1;
    results_low = slots_below c.site.results (call_slots m k c).0;
    few_results = omega (arith, call_exits m h k c, few_exits (slice_get gs c.site.procedure));
    few = omega (arith, call_many m h k c, few_entries (slice_get gs c.site.procedure));
    source_names = inner_source m h k live c;
    target_names = inner_target m h k live c;
  }

  -- every call of the edge meets the asked query
  pub asks_of : (m : Model) → Good m → (k : RegionEdge) → IsTrue (m.parted.live k) → (q : Query) → AsksAt g m k q →
      Asks g m.query.exit m.parted.regions k q
  asks_of m h k live q a = record {
    from = a.call.from;
    to = a.call.to;
    site = a.call.site;
    call = a.call.between.at_edge ∙ ap Some a.call.is_call;
    source = a.call.between.source;
    target = a.call.between.target;
    at_source = a.call.between.at_source;
    at_target = a.call.between.at_target;
    kind = a.call.exit;
    is_kind = a.call.is_kind;
    met = record {
      of_procedure = a.of_procedure;
      of_exit = a.of_exit;
      meets = λ s entry values vs ve vx hs hb. meets s values
          (asked_holds a.call.exit a.call.site a.call.between.source.cube.atoms a.call.between.target.cube.atoms
          (fits_call m h k live a.call) a.rows a.pair a.is_asked s entry values vs ve vx hs hb);
    };
  }
    where
      meets : (s : State) (values : List ℤ) → HoldsAll (valuation_of (map s a.call.site.arguments) values) a.rows →
          Meets q (map s a.call.site.arguments) values
      meets s values all =
          let v : Valuation = valuation_of (map s a.call.site.arguments) values in
          holds_append v q.start.atoms q.end.atoms
          (subst (HoldsAll v) (sym a.start) (holds_filter v (λ x. not (names_exit x)) a.rows all))
          (subst (HoldsAll v) (sym a.end) (holds_filter v names_exit a.rows all))

  -- Kills
  kill_holds : (table : List Summary) → AllHold gs table → (m : Model) (k : RegionEdge) (by : Killer) → Good m → IsTrue (m.parted.live k) →
      Kills g table m k by → Keeps gs g m.query (levels_of m.ancestors m.query) (core_of (effect g table (step.Kill k by) m))
  kill_holds table holds m k (killer.Certificate c) h live l =
      let b = l.at.between in
      let p = predicts m h k live b l.at.plain l.pre l.is_pre in
      keeps_kill gs linked g m.query h.at ok m.ancestors (core_of m) k None (λ d _. idle_refuted gs d g m.query m.parted k b.source b.target
      b.at_source b.at_target l.pre p (refuted_never (b.source.cube.atoms ++ l.pre) c l.refuted)) h.keeps
  kill_holds table holds m k (killer.Table place proofs) h live l =
      kill_table gs linked g m.query h.at ok m.ancestors (core_of m) k l.query l.summary (asks_of m h k live l.query l.asks)
      (entails_answers l.query l.summary proofs l.entails) (holds place (NotMay l.summary) l.there) h.keeps
  kill_holds table holds m k (killer.Child i) h live l =
      let leans : lowest_of (slice_get m.asked i) ≡ l.lowest = ap lowest_of l.there ∙ ap news_lowest l.is_news in
      subst (λ o. Keeps gs g m.query (levels_of m.ancestors m.query) (killed k o (core_of m))) (sym leans)
      (subst (λ e. Keeps gs g m.query (levels_of m.ancestors m.query) (killed e l.lowest (core_of m))) l.same
      (kill_child gs linked g m.query h.at ok m.ancestors (core_of m) i l.entry l.lowest l.there l.is_news h.keeps))
  kill_holds table holds m k (killer.Ancestor level proofs) h live l =
      kill_ancestor gs linked g m.query h.at ok m.ancestors (core_of m) k l.query level l.summary (asks_of m h k live l.query l.asks)
      l.there (entails_answers l.query l.summary proofs l.entails) h.keeps

  -- Splits

  -- the source of a split is neither the outside nor an end
  pub not_outside : (m : Model) → Good m → (k : RegionEdge) (s : Region) → slice_get m.parted.regions k.from ≡ Some s → k.from ≢ 0 →
      s.node ≡ g.nodes → ⊥
  not_outside m h k s e inner n = inner (h.keeps.one_outside k.from s e n)

  -- nor does a live edge leave an end
  pub apart_ends : (m : Model) → Good m → (k : RegionEdge) → IsTrue (m.parted.live k) → (b : Between g m k) → (b.source.node ≢ g.exit)
      × (b.source.node ≢ g.fail)
  apart_ends m h k live b = by_source (source b.edge) refl (h.keeps.connected k live b.edge b.at_edge b.source b.target b.at_source
      b.at_target).0 where
        by_source : (o : Option ℕ) → source b.edge ≡ o → LeavesFrom g o b.source.node → (b.source.node ≢ g.exit) × (b.source.node ≢ g.fail)
        by_source None s l = ((λ e. omega (arith, e, l, ok.exit_named)), (λ e. omega (arith, e, l, ok.fail_named)))
        by_source (Some n) s l = let w = (ok.are_edges k.edge b.edge b.at_edge).leaves n s in
            ((λ e. w.1 (sym l ∙ e)), (λ e. w.2 (sym l ∙ e)))

  pub not_target : (m : Model) → Good m → (k : RegionEdge) → IsTrue (m.parted.live k) → (b : Between g m k) → b.source.node ≢ end_node g
      m.query.exit
  not_target m h k live b = let w = apart_ends m h k live b in not_end g m.query.exit b.source.node w.0 w.1

  -- a call is inside
  pub call_inner : (m : Model) → Good m → (k : RegionEdge) → IsTrue (m.parted.live k) → (c : CallAt g m k) → k.from ≢ 0
  call_inner m h k live c e =
      let b = c.between in
      let l : b.source.node ≡ c.from = subst (λ x. LeavesFrom g (source x) b.source.node) c.is_call
      (h.keeps.connected k live b.edge b.at_edge b.source b.target b.at_source b.at_target).0 in
      let outer : b.source.node ≡ g.nodes = h.keeps.outside b.source (subst (λ j. slice_get m.parted.regions j ≡ Some b.source) e
      b.at_source)
      in
      let low = (ok.are_edges k.edge b.edge b.at_edge).leaves c.from (ap source c.is_call) in
      omega (arith, low.0, l, outer)

  -- an edge from an inner region is none of the entry
  pub source_node : (m : Model) → Good m → (k : RegionEdge) → IsTrue (m.parted.live k) → (b : Between g m k) → k.from ≢ 0 →
      (n : ℕ) × (source b.edge ≡ Some n)
  source_node m h k live b inner = by_source (source b.edge) refl (h.keeps.connected k live b.edge b.at_edge b.source b.target b.at_source
      b.at_target).0 where
        by_source : (o : Option ℕ) → source b.edge ≡ o → LeavesFrom g o b.source.node → (n : ℕ) × (source b.edge ≡ Some n)
        by_source None s l = absurd (not_outside m h k b.source b.at_source inner l)
        by_source (Some n) s l = (n, s)

  split_holds : (m : Model) (k : RegionEdge) (atoms : List Atom) (follows proofs : List Certificate) → Good m →
      IsTrue (m.parted.live k) → Splits g m k atoms follows proofs →
      Keeps gs g m.query (levels_of m.ancestors m.query) (split k atoms (core_of m))
  split_holds m k atoms follows proofs h live l =
      let b = l.at.between in
      let src = source_node m h k live b l.inner in
      let p = predicts m h k live b l.at.plain l.pre l.is_pre in
      let region : IsRegion atoms = follow_region g ok b.source.cube.atoms l.pre atoms follows l.parts.follow
      (pre_region m h k live b l.at.plain src.0 src.1 l.pre l.is_pre) in
      let early = (apart_ends m h k live b).0 in
      keeps_split gs linked g m.query h.at ok m.ancestors (core_of m) k atoms (slice_get_within m.parted.regions k.from b.source
      b.at_source)
      (slice_get_within m.parted.regions k.to b.target b.at_target) b.source b.at_source (not_outside m h k b.source b.at_source l.inner)
      (not_target m h k live b) early (both_fit g.exit b.source.node early atoms region l.parts.negatable)
      (λ d. cut_by gs d g m.query m.parted k b.source b.target b.at_source b.at_target l.pre p atoms
      (follow_holds g b.source.cube.atoms l.pre atoms follows l.parts.follow)) h.keeps

  -- no step is over edge 0 from an inner node
  pub entry_idle : (C : Called) (m : Model) → Good m → (k : RegionEdge) (s : Region) → slice_get m.parted.regions k.from ≡ Some s →
      k.from ≢ 0 →
      (atoms : List Atom) → IsCutBy C g m.query m.parted (record { edge = 0; from = k.from; to = k.from }) atoms
  entry_idle C m h k s e inner atoms entry outside y ox oy go sx sy =
      absurd (inner (h.keeps.one_outside k.from sx.region sx.there sx.lies.stands))
  entry_idle C m h k s e inner atoms entry (standing b) y ox oy go sx sy = absurd (no_entry C g ok entry b y go)

  pub fits_must : (table : List Summary) → AllHold gs table → (m : Model) → Good m → (k : RegionEdge) → IsTrue (m.parted.live k) →
      (c : CallAt g m k) (place : ℕ) (path : Path) → MustAt table c.site.procedure place c.exit path → FitsMust path c.site
      c.between.target.cube.atoms
  fits_must table holds m h k live c place path must_at =
      let held : MustHolds (graph_runs gs) (arity_in gs path.proc) path = holds place (Must path) must_at.there in
      record {
        behind = record {
          are_slots = slots_below c.site.arguments (call_slots m k c).1;
          results_low = slots_below c.site.results (call_slots m k c).0;
          many = held.entry_terms ∙ ap (λ p. (arity_in gs p).entries) must_at.of_procedure ∙ sym (call_many m h k c);
          names = inner_target m h k live c;
        };
        numbers = must_at.numbers;
      }

  -- the preimage over a must is of the source's node
  must_rows : (table : List Summary) → AllHold gs table → (m : Model) (k : RegionEdge) (place : ℕ) (atoms : List Atom)
      (follows proofs : List Certificate) → Good m → IsTrue (m.parted.live k) → SplitsCall g table m k place atoms follows proofs →
      IsRegion atoms
  must_rows table holds m k place atoms follows proofs h live l =
      let c = l.call in
      follow_region g ok c.between.source.cube.atoms l.pre atoms follows l.parts.follow
      (must_region l.path c.site c.between.target.cube.atoms (fits_must table holds m h k live c place l.path l.must_at) l.pre
      l.is_pre.0 l.is_pre.1)

  -- a split over a call cuts no edge
  call_split_holds : (m : Model) (k : RegionEdge) (atoms : List Atom) → Good m → IsTrue (m.parted.live k) → CallAt g m k →
      IsRegion atoms → IsTrue (list_all is_negatable atoms) →
      Keeps gs g m.query (levels_of m.ancestors m.query) (split (uncut k) atoms (core_of m))
  call_split_holds m k atoms h live call region negatable =
      let b = call.between in
      let within = slice_get_within m.parted.regions k.from b.source b.at_source in
      let inner = call_inner m h k live call in
      let early = (apart_ends m h k live b).0 in
      keeps_split gs linked g m.query h.at ok m.ancestors (core_of m) (uncut k) atoms within within
      b.source b.at_source (not_outside m h k b.source b.at_source inner) (not_target m h k live b) early
      (both_fit g.exit b.source.node early atoms region negatable)
      (λ depth. entry_idle (GraphRun gs depth) m h k b.source b.at_source inner atoms) h.keeps

  -- every call of the edge meets a weaker query
  weaker_asks : (m : Model) → (k : RegionEdge) → (asked q : Query) → Asks g m.query.exit m.parted.regions k asked → AnswersNo asked q →
      Asks g m.query.exit m.parted.regions k q
  weaker_asks m k asked q a answers = record {
    from = a.from;
    to = a.to;
    site = a.site;
    call = a.call;
    source = a.source;
    target = a.target;
    at_source = a.at_source;
    at_target = a.at_target;
    kind = a.kind;
    is_kind = a.is_kind;
    met = record {
      of_procedure = answers.same_procedure ∙ a.met.of_procedure;
      of_exit = answers.same_exit ∙ a.met.of_exit;
      meets = λ s entry values vs ve vx hs hb. answers.entails (valuation_of (map s a.site.arguments) values)
          (values_64 (map s a.site.arguments) values (passed_values s vs a.site.arguments) vx)
          (a.met.meets s entry values vs ve vx hs hb);
    };
  }

  -- and what a step may ask
  pub may_asks : (m : Model) → Good m → (k : RegionEdge) → IsTrue (m.parted.live k) → (table : List Summary) (q : Query)
      (follows : List Certificate) (seen : ℕ) → MayAsk g table m k q follows seen → Asks g m.query.exit m.parted.regions k q
  may_asks m h k live table q follows seen l = ⊎_elim
      (λ same. subst (Asks g m.query.exit m.parted.regions k) (sym same.0) (asks_of m h k live l.asked l.asks))
      (λ weak. weaker_asks m k l.asked q (asks_of m h k live l.asked l.asks) (entails_answers l.asked q follows weak.entails)) l.follow

  -- The steps
  pub step_good : (table : List Summary) → AllHold gs table → (m : Model) (s : Step) → Good m → IsLegal g table m s →
      Good (stepped g table s m)
  step_good table holds m (step.Extend k n point) h l = record { at = h.at; fits = h.fits; keeps = h.keeps }
  step_good table holds m (step.Split k atoms follows proofs) h l = record {
    at = h.at;
    fits = h.fits;
    keeps = split_holds m k atoms follows proofs
        h (turn_live g m k l.0) l.1;
  }
  step_good table holds m (step.Kill k by) h l = record {
    at = h.at;
    fits = h.fits;
    keeps = kill_holds table holds m k by h
        (turn_live g m k l.0) l.1;
  }
  step_good table holds m (step.CallExtend k n place point) h l = record { at = h.at; fits = h.fits; keeps = h.keeps }
  step_good table holds m (step.CallSplit k place atoms follows proofs) h l = record {
    at = h.at;
    fits = h.fits;
    keeps = call_split_holds m k atoms h (turn_live g m k l.0) l.1.call
        (must_rows table holds m k place atoms follows proofs h (turn_live g m k l.0) l.1) l.1.parts.negatable;
  }
  step_good table holds m (step.CallPart k by atom atoms follows proofs) h l = record {
    at = h.at;
    fits = h.fits;
    keeps = call_split_holds m k atoms h (turn_live g m k l.0) l.1.call (own_region g ok atoms l.1.own) l.1.parts.negatable;
  }
  step_good table holds m (step.Ask k q follows seen) h l = record {
    at = h.at;
    fits = h.fits;
    keeps = keeps_ask gs linked g m.query h.at
        ok m.ancestors (core_of m) k q (may_asks m h k (turn_live g m k l.0) table q follows seen l.1) h.keeps;
  }
  step_good table holds m (step.Feed i) h l = record {
    at = h.at;
    fits = h.fits;
    keeps = keeps_update gs linked g m.query h.at ok
        m.ancestors (core_of m) i (with_news news.Waiting) (λ a. refl) (λ a. refl) (λ a e. tt) h.keeps;
  }
  step_good table holds m (step.Stuck k why seen) h l = record { at = h.at; fits = h.fits; keeps = h.keeps }

  module _ (table : List Summary) (holds : AllHold gs table) where
    pub happening_good : (e : Happening) (m : Model) → Good m → Happens gs g table e m → Good (after gs g table e m)
    happening_good (made s n) m h l = step_good (take n table) (λ place x e. holds place x (take_get n table place x e))
        m s h l.1
    happening_good (heard i number known) m h l = record {
      at = h.at;
      fits = h.fits;
      keeps = keeps_update gs linked g m.query h.at ok m.ancestors (core_of m) i (with_child number known) (λ a. refl) (λ a. refl)
          (λ a e. subst (λ (x : Asked). IsTrueNews gs (levels_of m.ancestors m.query) x.query known) (same_Some l.entry a (sym l.there ∙ e))
          l.is_true) h.keeps;
    }

    all_good : (es : List Happening) (m : Model) → Good m → AllHappen gs g table es m → Good (after_all gs g table es m)
    all_good [] m h l = h
    all_good (e ∷ es) m h l = all_good es (after gs g table e m) (happening_good e m h l.0) l.1

    pub begin_good : (q : Query) (ancestors : List Query) (m : Model) → IsStateOf gs g table q ancestors m →
        Good (begin_model g q ancestors)
    begin_good q ancestors m s = record { at = s.at; fits = fits; keeps = begin_keeps gs g q ok fits (levels_of ancestors q) } where
      fits : Fits q.proc (arity_of (Some g)) q
      fits = subst (λ o. Fits q.proc (arity_of o) q) s.at s.fits

    -- each state keeps what makes its answer true
    pub state_good : (q : Query) (ancestors : List Query) (m : Model) → IsStateOf gs g table q ancestors m → Good m
    state_good q ancestors m s =
        subst Good (sym s.reached) (all_good s.happenings (begin_model g q ancestors) (begin_good q ancestors m s) s.happen)

    -- Closed states
    module _ (m : Model) (h : Good m) (none : HasNoPath g m.query m.parted) where
      pub answer_alone : m.lowest ≡ None → NotMayHolds (graph_runs gs) m.query
      answer_alone e = closed_alone gs linked g m.query h.at ok m.ancestors h.fits (core_of m) h.keeps none e

      pub answer_given : (j : ℕ) → m.lowest ≡ Some j → Gives (graph_runs gs) (drop j m.ancestors) m.query
      answer_given j e = closed_given gs linked g m.query h.at ok m.ancestors h.fits (core_of m) h.keeps none j e
