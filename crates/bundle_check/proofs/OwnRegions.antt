-- Each region of a state names the graph's own columns, at the exit entry values and exit values. So do the atoms of each split.
use Rattle.std.proofs.Common.{◌≡◌, ◌≢◌, inl, inr, ⊎_elim, ℕ, zero, suc, ◌+◌, List, [], ◌∷◌, ◌++◌, length, Some, Bool, true, false, ◌==◌, ◌&&◌, nat_lt, pos, negsuc, refl, sym, subst, ap, ◌∙◌, if◌then◌else◌}
use Rattle.std.specs.Prelude.{slice_get, slice_set, IsTrue}
use Rattle.std.specs.List.{list_all}
use Rattle.std.proofs.lemmas.Option.{none-some, same_Some}
use borrow.Author.Tests.{eqb-true, eqb-false, ne_eqb}
use Rattle.linear_formula.specs.LinearSum.{LinearSum}
use Rattle.linear_formula.specs.Results.{negated}
use Rattle.linear_formula.specs.declared.formula.Atom.{Atom}
use Rattle.linear_formula.proofs.Limits.{both, both_in}
use Rattle.infeasible_cert.specs.declared.certificate.Certificate.{Certificate}
use Rattle.shadow_elim.specs.declared.sum.Sum.{Sum}
use Rattle.shadow_elim.proofs.Projecting.{or-cases}
use Rattle.flow_graph.specs.Calls.{call_edge}
use Rattle.flow_graph.specs.declared.graph.Graph.{Graph}
use Rattle.flow_graph.specs.declared.graph.Edge.{Edge}
use Rattle.flow_graph.specs.declared.graph.Edge.TheVariants.{Entry, Assign, Guard, Input, Pick, Call, Assert, Return}
use Rattle.flow_graph.specs.Columns.{first_entry, first_exit, is_among, is_entry_column, is_value_column, names_only, rows_name_only}
use Rattle.flow_graph.specs.Linked.{AreGraphs}
use Rattle.flow_graph.specs.Shapes.{is_call, is_return, leads, source, target}
use Rattle.flow_graph.specs.WellFormed.{IsEdge, IsGraph, first_node}
use Rattle.summary_form.specs.declared.query.ExitKind.{ExitKind}
use Rattle.summary_form.specs.declared.query.ExitKind.TheVariants as kind
use Rattle.summary_form.specs.declared.query.Query.{Query}
use Rattle.summary_form.specs.declared.summary.Summary.{Summary}
use Rattle.summary_form.specs.Instances.{arity_of}
use Rattle.summary_form.specs.NotMays.{Fits}
use Rattle.may_partition.specs.declared.region.Region.{Region}
use Rattle.may_partition.specs.declared.region.RegionEdge.{RegionEdge}
use Rattle.may_partition.specs.Fitting.{node_column}
use Rattle.may_partition.specs.Parted.{beginning, begin_parted, end_node, negation, node_regions, pieces, region, split_region, split_regions}
use Rattle.may_partition.proofs.Fitting.{fit_terms}
use Rattle.may_partition.proofs.Pieces.{lookup_append, lookup_set}
use Rattle.call_bridge.specs.Musts.{is_number}
use Rattle.call_bridge.proofs.Leading.{must_region}
use Rattle.call_bridge.proofs.MustNames.{preimage_names}
use Rattle.call_bridge.proofs.Naming.{rows_named, rows_named_append, rows_wider, sums_name_only}
use Rattle.query_rules.specs.Legal.{IsLegal, Splits, SplitsCall}
use Rattle.query_rules.specs.Rows.{Between, Follow, IsPreimage, is_own_column}
use Rattle.query_rules.specs.States.{AllHold}
use Rattle.query_rules.specs.Steps.{Model, stepped}
use Rattle.query_rules.specs.declared.step.Step.{Step}
use Rattle.query_rules.specs.declared.step.Step.TheVariants as step
use Rattle.query_rules.proofs.Closing.{turn_live}
use Rattle.query_rules.proofs.NamedPreimages.{NamesColumns, named_behind, preimage_named, some_named}
use Rattle.query_rules.proofs.Preimages.{inner_number}
use Rattle.query_rules.proofs.Reaching.{Good, apart_ends, fits_must, source_node}
use Rattle.call_bridge.proofs.Queries.{either_in}
use Rattle.query_rules.proofs.Shown.{leads_node}
use Rattle.bundle_check.proofs.Showing.{own_inner}

abbrev pub own_at : Graph → (node : ℕ) → ℕ → Bool
own_at g node x = if node == g.exit then is_value_column g.params g.exits x else is_own_column g x

abbrev pub AreOwn : Graph → List Region → Type 0
AreOwn g regions = (a : ℕ) (r : Region) → slice_get regions a ≡ Some r → IsTrue (rows_name_only (own_at g r.node) r.cube.atoms)

-- Negations

negated_named : (allowed : ℕ → Bool) (t : LinearSum) → IsTrue (names_only allowed t) → IsTrue (names_only allowed (negated t))
negated_named allowed t n = (both (names_only allowed (negated t)) true (rows_named allowed (opposite ∷ []) named)).0 where
  opposite : Sum
  opposite = record { summands = (negsuc 0, t) ∷ []; constant = pos 1 }

  named : IsTrue (sums_name_only allowed (opposite ∷ []))
  named = both_in (names_only allowed t && true) true (both_in (names_only allowed t) true n refl) refl

-- Beginnings

module _ (g : Graph) where
  entry_at : (node x : ℕ) → IsTrue (is_entry_column g.params x) → IsTrue (own_at g node x)
  entry_at node x h = by_test (node == g.exit) where
    by_test : (b : Bool) → IsTrue (if b then is_value_column g.params g.exits x else is_own_column g x)
    by_test true = either_in (is_among first_entry g.params x) (is_among first_exit g.exits x) (inl h)
    by_test false = either_in (nat_lt x g.slots) (is_entry_column g.params x) (inr h)

  at_exit : (node : ℕ) → node ≡ g.exit → (x : ℕ) → IsTrue (is_value_column g.params g.exits x) → IsTrue (own_at g node x)
  at_exit node e x h = subst (λ n. IsTrue (own_at g n x)) (sym e) (by_test (g.exit == g.exit) refl) where
    by_test : (b : Bool) → (g.exit == g.exit) ≡ b → IsTrue (if b then is_value_column g.params g.exits x else is_own_column g x)
    by_test true k = h
    by_test false k = absurd (eqb-false g.exit g.exit k refl)

  from_exit : (node : ℕ) → node ≡ g.exit → (x : ℕ) → IsTrue (own_at g node x) → IsTrue (is_value_column g.params g.exits x)
  from_exit node e x h = by_test (node == g.exit) refl h where
    by_test : (b : Bool) → (node == g.exit) ≡ b → IsTrue (if b then is_value_column g.params g.exits x else is_own_column g x) →
        IsTrue (is_value_column g.params g.exits x)
    by_test true k n = n
    by_test false k n = absurd (eqb-false node g.exit k e)

  inside_at : (node : ℕ) → node ≢ g.exit → (x : ℕ) → IsTrue (is_own_column g x) → IsTrue (own_at g node x)
  inside_at node apart x h = rw (ne_eqb node g.exit apart) h

  from_inside : (node : ℕ) → node ≢ g.exit → (x : ℕ) → IsTrue (own_at g node x) → IsTrue (is_own_column g x)
  from_inside node apart x h =
      subst (λ b. IsTrue (if b then is_value_column g.params g.exits x else is_own_column g x)) (ne_eqb node g.exit apart) h

  ends_own : (q : Query) → Fits q.proc (arity_of (Some g)) q → (node : ℕ) → node ≡ end_node g q.exit →
      IsTrue (rows_name_only (own_at g node) q.end.atoms)
  ends_own q f node e = by_kind q.exit f.end_names e where
    by_kind : (k : ExitKind) → IsTrue (rows_name_only (Rattle.summary_form.specs.NotMays.is_end_column (arity_of (Some g)) k) q.end.atoms) →
        node ≡ end_node g k → IsTrue (rows_name_only (own_at g node) q.end.atoms)
    by_kind kind.Return n same = rows_wider (is_value_column g.params g.exits) (own_at g node) (at_exit node same) q.end.atoms n
    by_kind (kind.Fail id) n same = rows_wider (is_entry_column g.params) (own_at g node) (entry_at node) q.end.atoms n

  beginning_own : (q : Query) → Fits q.proc (arity_of (Some g)) q → (node : ℕ) →
      IsTrue (rows_name_only (own_at g node) (beginning g q node))
  beginning_own q f node = by_start (node == first_node g.edges) where
    by_end : (b : Bool) → (node == end_node g q.exit) ≡ b → IsTrue (rows_name_only (own_at g node) (if b then q.end.atoms else []))
    by_end true e = ends_own q f node (eqb-true node (end_node g q.exit) e)
    by_end false e = refl

    by_start : (b : Bool) → IsTrue (rows_name_only (own_at g node) (if b then q.start.atoms else
        (if node == end_node g q.exit then q.end.atoms else [])))
    by_start true = rows_wider (is_entry_column g.params) (own_at g node) (entry_at node) q.start.atoms f.start_names
    by_start false = by_end (node == end_node g q.exit) refl

  same_own : (r s : Region) → r ≡ s → IsTrue (rows_name_only (own_at g r.node) r.cube.atoms) →
      IsTrue (rows_name_only (own_at g s.node) s.cube.atoms)
  same_own r s e h = subst (λ (x : Region). IsTrue (rows_name_only (own_at g x.node) x.cube.atoms)) e h

  nodes_own : (q : Query) → Fits q.proc (arity_of (Some g)) q → (n count : ℕ) → AreOwn g (node_regions g q n count)
  nodes_own q f n zero a r e = absurd (none-some r e)
  nodes_own q f n (suc count) zero r e = same_own (region n (beginning g q n)) r (same_Some (region n (beginning g q n)) r e)
      (beginning_own q f n)
  nodes_own q f n (suc count) (suc a) r e = nodes_own q f (n + 1) count a r e

  pub begin_own : (q : Query) → Fits q.proc (arity_of (Some g)) q → AreOwn g (begin_parted g q).regions
  begin_own q f zero r e = same_own (region g.nodes []) r (same_Some (region g.nodes []) r e) refl
  begin_own q f (suc a) r e = nodes_own q f 0 g.nodes a r e

  -- Splits
  pieces_own : (node : ℕ) (done atoms : List Atom) → IsTrue (rows_name_only (own_at g node) done) →
      IsTrue (rows_name_only (own_at g node) atoms) → AreOwn g (pieces node done atoms)
  pieces_own node done [] d n a r e = absurd (none-some r e)
  pieces_own node done (x ∷ atoms) d n zero r e =
      let w = both (names_only (own_at g node) x.term) (rows_name_only (own_at g node) atoms) n in
      same_own (region node (done ++ negation x ∷ [])) r (same_Some (region node (done ++ negation x ∷ [])) r e)
      (rows_named_append (own_at g node) done (negation x ∷ []) d
      (both_in (names_only (own_at g node) (negated x.term)) true (negated_named (own_at g node) x.term w.0) refl))
  pieces_own node done (x ∷ atoms) d n (suc a) r e =
      let w = both (names_only (own_at g node) x.term) (rows_name_only (own_at g node) atoms) n in
      pieces_own node (done ++ x ∷ []) atoms (rows_named_append (own_at g node) done (x ∷ []) d
      (both_in (names_only (own_at g node) x.term) true w.0 refl)) w.1 a r e

  split_own : (regions : List Region) (from : ℕ) (atoms : List Atom) (s : Region) → slice_get regions from ≡ Some s →
      IsTrue (rows_name_only (own_at g s.node) atoms) → AreOwn g regions → AreOwn g (split_regions regions from atoms)
  split_own regions from atoms s at n h = subst (λ o. AreOwn g (split_region regions from atoms o)) (sym at) by_piece where
    kept : Region
    kept = region s.node (s.cube.atoms ++ atoms)

    kept_own : IsTrue (rows_name_only (own_at g s.node) (s.cube.atoms ++ atoms))
    kept_own = rows_named_append (own_at g s.node) s.cube.atoms atoms (h from s at) n

    by_piece : AreOwn g (split_region regions from atoms (Some s))
    by_piece a r e = ⊎_elim
        (λ k. ⊎_elim (λ w. same_own kept r (sym w.1) kept_own) (λ w. h a r w) (lookup_set regions from a kept r k.1))
        (λ k. pieces_own s.node s.cube.atoms atoms (h from s at) n k.0 r k.2)
        (lookup_append (slice_set regions from kept) a (pieces s.node s.cube.atoms atoms) r e)

-- Targets

leads_exit : (g : Graph) → IsGraph g.nodes g.exit g.fail g.params g.exits g.slots g.edges → (e : Edge) → IsEdge g.nodes g.exit g.fail
    g.exits g.slots e →
    is_return e ≡ false → (n : ℕ) → IsTrue (leads g.fail e n) → n ≡ g.exit → ⊥
leads_exit g ok e k r n l x = ⊎_elim (λ t. eqb-false (target e) g.exit (sym k.to_exit ∙ r) (eqb-true (target e) n t ∙ x))
    (λ t. ok.two_ends (sym x ∙ eqb-true n g.fail (both (is_call e) (n == g.fail) t).1))
    (or-cases (target e == n) (is_call e && (n == g.fail)) l)

module _ (gs : List Graph) (linked : AreGraphs gs) (g : Graph) where
  ok : IsGraph g.nodes g.exit g.fail g.params g.exits g.slots g.edges
  ok = g.well_formed

  own_number : (x : ℕ) → IsTrue (is_own_column g x) → IsTrue (is_number x)
  own_number x h = inner_number x (own_inner g ok x h)

  slot_own : (x : ℕ) → IsTrue (nat_lt x g.slots) → IsTrue (is_own_column g x)
  slot_own x h = either_in (nat_lt x g.slots) (is_entry_column g.params x) (inl h)

  entry_own : (x : ℕ) → IsTrue (is_entry_column g.params x) → IsTrue (is_own_column g x)
  entry_own x h = either_in (nat_lt x g.slots) (is_entry_column g.params x) (inr h)

  -- the columns after an edge
  behind_own : (e : Edge) → IsEdge g.nodes g.exit g.fail g.exits g.slots e → (node : ℕ) → node ≡ target e → (atoms : List Atom) →
      IsTrue (rows_name_only (own_at g node) atoms) → IsTrue (rows_name_only (named_behind (is_own_column g) g.params e) atoms)
  behind_own e is node same atoms names = by_edge e is same where
    inner : (to : ℕ) → false ≡ (to == g.exit) → node ≡ to → IsTrue (rows_name_only (is_own_column g) atoms)
    inner to h s = rows_wider (own_at g node) (is_own_column g) (from_inside g node (λ k. eqb-false to g.exit (sym h) (sym s ∙ k))) atoms
        names

    by_edge : (e : Edge) → IsEdge g.nodes g.exit g.fail g.exits g.slots e → node ≡ target e →
        IsTrue (rows_name_only (named_behind (is_own_column g) g.params e) atoms)
    by_edge (Entry to params) k s = inner to k.to_exit s
    by_edge (Assign from to slot value) k s = inner to k.to_exit s
    by_edge (Guard from to rows) k s = inner to k.to_exit s
    by_edge (Input from to slot) k s = inner to k.to_exit s
    by_edge (Pick from to slot rows) k s = inner to k.to_exit s
    by_edge (Call from to proc args results) k s = inner to k.to_exit s
    by_edge (Assert from to id rows) k s = inner to k.to_exit s
    by_edge (Return from to slots) k s =
        subst (λ n. IsTrue (rows_name_only (is_value_column g.params n) atoms)) (sym (eqb-true (length slots) g.exits k.lists))
        (rows_wider (own_at g node) (is_value_column g.params g.exits) (from_exit g node (s ∙ eqb-true to g.exit (sym k.to_exit))) atoms
        names)

  module _ (m : Model) (h : Good gs linked g m) (own : AreOwn g m.parted.regions) where
    -- Over edges that are no calls
    pre_own : (k : RegionEdge) → IsTrue (m.parted.live k) → (b : Between g m k) → is_call b.edge ≡ false → (n : ℕ) →
        source b.edge ≡ Some n → (pre : List Atom) → IsPreimage b.edge b.target.cube.atoms pre → NamesColumns (is_own_column g) pre
    pre_own k live b plain n src pre is =
        let is_edge = ok.are_edges k.edge b.edge b.at_edge in
        let joined = h.keeps.connected k live b.edge b.at_edge b.source b.target b.at_source b.at_target in
        preimage_named (is_own_column g) g.slots g.params ok.few_slots own_number slot_own entry_own b.edge n b.target.cube.atoms pre is.0
        src plain is_edge.slots_named is_edge.terms
        (fit_terms (node_column g.exit b.target.node) b.target.cube.atoms (h.keeps.fit k.to b.target b.at_target))
        (behind_own b.edge is_edge b.target.node (leads_node g.fail b.edge b.target.node plain joined.1) b.target.cube.atoms
        (own k.to b.target b.at_target)) is.1

    -- what follows from a preimage names them too
    follow_names : (source pre atoms : List Atom) (follows : List Certificate) → Follow g source pre atoms follows →
        NamesColumns (is_own_column g) pre → NamesColumns (is_own_column g) atoms
    follow_names source pre atoms [] f r = some_named (is_own_column g) atoms pre f r
    follow_names source pre atoms (c ∷ cs) f r =
        ⊎_elim (λ s. some_named (is_own_column g) atoms pre s r) (λ o. record { names = o.names; terms = o.terms }) f.0

    pub split_names : (k : RegionEdge) (atoms : List Atom) (follows proofs : List Certificate) → IsTrue (m.parted.live k) →
        Splits g m k atoms follows proofs → NamesColumns (is_own_column g) atoms
    split_names k atoms follows proofs live l =
        let b = l.at.between in
        let src = source_node gs linked g m h k live b l.inner in
        follow_names b.source.cube.atoms l.pre atoms follows l.parts.follow (pre_own k live b l.at.plain src.0 src.1 l.pre l.is_pre)

    -- Over calls
    slots_own : (args : List ℕ) → IsTrue (list_all (λ x. nat_lt x g.slots) args) → (j a : ℕ) → slice_get args j ≡ Some a →
        IsTrue (is_own_column g a)
    slots_own [] n j a e = absurd (none-some a e)
    slots_own (x ∷ args) n zero a e =
        let w = both (nat_lt x g.slots) (list_all (λ y. nat_lt y g.slots) args) n in
        subst (λ y. IsTrue (is_own_column g y)) (same_Some x a e) (either_in (nat_lt x g.slots) (is_entry_column g.params x) (inl w.0))
    slots_own (x ∷ args) n (suc j) a e =
        slots_own args (both (nat_lt x g.slots) (list_all (λ y. nat_lt y g.slots) args) n).1 j a e

    pub call_names : (table : List Summary) → AllHold gs table → (k : RegionEdge) (place : ℕ) (atoms : List Atom)
        (follows proofs : List Certificate) → IsTrue (m.parted.live k) → SplitsCall g table m k place atoms follows proofs →
        NamesColumns (is_own_column g) atoms
    call_names table holds k place atoms follows proofs live l =
        let c = l.call in
        let b = c.between in
        let e : slice_get g.edges k.edge ≡ Some (call_edge c.from c.to c.site) = b.at_edge ∙ ap Some c.is_call in
        let joined = h.keeps.connected k live (call_edge c.from c.to c.site) e b.source b.target b.at_source b.at_target in
        let is_edge = ok.are_edges k.edge (call_edge c.from c.to c.site) e in
        let slots = both (list_all (λ x. nat_lt x g.slots) c.site.results) (list_all (λ x. nat_lt x g.slots) c.site.arguments)
        is_edge.slots_named in
        let apart = leads_exit g ok (call_edge c.from c.to c.site) is_edge refl b.target.node joined.1 in
        follow_names b.source.cube.atoms l.pre atoms follows l.parts.follow (record {
          names = preimage_names (is_own_column g) (own_inner g ok) l.path c.site b.target.cube.atoms l.pre l.is_pre.0 (record {
            args_allowed = slots_own c.site.arguments slots.1;
            target_allowed = rows_wider (own_at g b.target.node) (is_own_column g) (from_inside g b.target.node apart) b.target.cube.atoms
                (own k.to b.target b.at_target);
            numbers = l.must_at.numbers;
          }) l.is_pre.1;
          terms = (must_region l.path c.site b.target.cube.atoms
              (fits_must gs linked g table holds m h k live c place l.path l.must_at) l.pre l.is_pre.0 l.is_pre.1).terms;
        })

    -- Divided sources
    divided_own : (k : RegionEdge) (atoms : List Atom) → IsTrue (m.parted.live k) → Between g m k → NamesColumns (is_own_column g) atoms →
        AreOwn g (split_regions m.parted.regions k.from atoms)
    divided_own k atoms live b n =
        let apart = (apart_ends gs linked g m h k live b).0 in
        split_own g m.parted.regions k.from atoms b.source b.at_source
        (rows_wider (is_own_column g) (own_at g b.source.node) (inside_at g b.source.node apart) atoms n.names) own

    -- All steps
    pub step_own : (table : List Summary) → AllHold gs table → (s : Step) → IsLegal g table m s →
        AreOwn g (stepped g table s m).parted.regions
    step_own table holds (step.Extend k trail point) l = own
    step_own table holds (step.Split k atoms follows proofs) l =
        let live = turn_live g m k l.0 in
        divided_own k atoms live l.1.at.between (split_names k atoms follows proofs live l.1)
    step_own table holds (step.Kill k by) l = own
    step_own table holds (step.CallExtend k trail place point) l = own
    step_own table holds (step.CallSplit k place atoms follows proofs) l =
        let live = turn_live g m k l.0 in
        divided_own k atoms live l.1.call.between (call_names table holds k place atoms follows proofs live l.1)
    step_own table holds (step.CallPart k by atom atoms follows proofs) l =
        divided_own k atoms (turn_live g m k l.0) l.1.call.between (record { names = l.1.own.names; terms = l.1.own.terms })
    step_own table holds (step.Ask k q follows seen) l = own
    step_own table holds (step.Feed i) l = own
    step_own table holds (step.Stuck k why seen) l = own
