-- The partition that a query begins with.
use Rattle.std.proofs.Common.{◌≡◌, ◌⊎◌, inl, inr, ℕ, zero, suc, ◌+◌, ◌-◌, ◌<◌, ◌≤◌, List, [], Option, Some, Bool, true, false, not, ◌&&◌, ◌==◌, nat_lt, nat_le, ℤ, arith, refl, sym, subst, ap, ◌∙◌}
use Rattle.std.specs.Prelude.{slice_get, IsTrue}
use borrow.Author.Tests.{lt-ltb, le-ltb, eq-eqb, eqb-true, ltb-true, leb-true}
use Rattle.std.proofs.lemmas.Option.{same_Some, none-some}
use Rattle.linear_formula.specs.Formula.{HoldsAll}
use Rattle.linear_formula.specs.declared.formula.Atom.{Atom}
use Rattle.linear_formula.proofs.Limits.{both, both_in}
use Rattle.flow_graph.specs.declared.graph.Graph.{Graph}
use Rattle.flow_graph.specs.declared.graph.Edge.{Edge}
use Rattle.flow_graph.specs.declared.graph.Edge.TheVariants.{Entry, Assign, Guard, Input, Pick, Call, Assert, Return}
use Rattle.flow_graph.specs.Shapes.{source, target, leads, is_call}
use Rattle.flow_graph.specs.Runs.{Place, inside, left, failing, halted, Called, Step, End, came, stopped, failed, after_call}
use Rattle.c_tree.specs.Meaning.{State}
use Rattle.flow_graph.specs.Columns.{columns_of, valuation_of, first_entry, first_exit, no_slots, value_at, is_entry_column, rows_name_only}
use Rattle.flow_graph.specs.Regions.{place_columns}
use Rattle.flow_graph.specs.WellFormed.{IsGraph, IsEdge, first_node}
use Rattle.summary_form.specs.declared.query.Query.{Query}
use Rattle.summary_form.specs.declared.query.ExitKind.{ExitKind}
use Rattle.may_partition.specs.declared.region.RegionEdge.{RegionEdge}
use Rattle.may_partition.proofs.Agreeing.{Agree, holds_agree}
use Rattle.may_partition.specs.declared.region.Region.{Region}
use Rattle.may_partition.specs.Parted.{region, node_regions, begin_parted, beginning, end_node, left_out, connects, leaves_at, comes_to}
use Rattle.may_partition.specs.Crossing.{Stands, Covers, Crosses, edge_of}
use Rattle.may_partition.proofs.Splitting.{or_left, or_right}
use Rattle.may_partition.specs.Spots.{Spot, outside, standing, spot_columns, spot_node, Goes, Covered, IsThere, leaves_out, is_out}

-- The regions by their numbers
pub region_there : (g : Graph) (q : Query) (n count k : ℕ) → k < count → slice_get (node_regions g q n count) k
    ≡ Some (region (n + k) (beginning g q (n + k)))
region_there g q n zero k h = absurd (omega (arith, h))
region_there g q n (suc count) zero h = ap (λ m. Some (region m (beginning g q m))) (omega arith)
region_there g q n (suc count) (suc k) h =
    region_there g q (n + 1) count k (omega (arith, h)) ∙ ap (λ m. Some (region m (beginning g q m))) (omega arith)

pub region_node : (g : Graph) (q : Query) (n count k : ℕ) (r : Region) → slice_get (node_regions g q n count) k ≡ Some r → (r.node ≡ n + k)
    × (k < count)
region_node g q n zero k r e = absurd (none-some r e)
region_node g q n (suc count) zero r e = (ap (λ (t : Region). t.node) (sym (same_Some _ _ e)) ∙ omega arith, omega arith)
region_node g q n (suc count) (suc k) r e = let h = region_node g q (n + 1) count k r e in (omega (arith, h.0), omega (arith, h.1))

-- the number of the region at the beginning
abbrev pub first_number : Graph → Spot → ℕ
first_number g outside = 0
first_number g (standing p) = suc (spot_node g (standing p))

module _ (g : Graph) (q : Query) (entry : List ℤ) where
  numbered : (a : ℕ) (x : Spot) → IsThere g x → Stands Spot (spot_node g) (spot_columns entry) (begin_parted g q).regions a x →
      a ≡ first_number g x
  numbered zero outside c s = refl
  numbered zero (standing p) c s =
      let same : region g.nodes [] ≡ s.region = same_Some _ _ s.there in
      absurd (omega (arith, c, ap (λ (t : Region). t.node) same, s.lies.stands))
  numbered (suc a) outside c s =
      let h = region_node g q 0 g.nodes a s.region s.there in
      absurd (omega (arith, h.0, h.1, s.lies.stands))
  numbered (suc a) (standing p) c s =
      let h = region_node g q 0 g.nodes a s.region s.there in
      omega (arith, h.0, h.1, s.lies.stands)

-- Where a step leads
module _ (g : Graph) where
  leads_target : (e : Edge) (n : ℕ) → n ≡ target e → IsTrue (leads g.fail e n)
  leads_target e n h = or_left (target e == n) (is_call e && (n == g.fail)) (eq-eqb (target e) n (sym h))

  leads_step : (C : Called) (e : Edge) → IsEdge g.nodes g.exit g.fail g.exits g.slots e → (s : State) (ins : List ℤ) (b : Place)
      (rest : List ℤ) →
      IsThere g (standing b) → Step C e s ins b rest → IsTrue (leads g.fail e (spot_node g (standing b)))
  leads_step C (Entry to params) k s ins b rest c st = absurd st
  leads_step C (Assign from to slot value) k s ins b rest c st = leads_target (Assign from to slot value) (spot_node g (standing b))
      (ap (λ p. spot_node g (standing p)) st.1)
  leads_step C (Guard from to rows) k s ins b rest c st = leads_target (Guard from to rows) (spot_node g (standing b))
      (ap (λ p. spot_node g (standing p)) st.1)
  leads_step C (Input from to slot) k s ins b rest c st = leads_target (Input from to slot) (spot_node g (standing b))
      (ap (λ p. spot_node g (standing p)) st.3)
  leads_step C (Pick from to slot rows) k s ins b rest c st = leads_target (Pick from to slot rows) (spot_node g (standing b))
      (ap (λ p. spot_node g (standing p)) st.3)
  leads_step C (Call from to proc args slot) k s ins b rest c st = by_end st.0 st.2 where
    by_end : (end : End) → b ≡ after_call to slot s end → IsTrue (leads g.fail (Call from to proc args slot) (spot_node g (standing b)))
    by_end (came values) e = leads_target (Call from to proc args slot) (spot_node g (standing b)) (ap (λ p. spot_node g (standing p)) e)
    by_end stopped e = absurd (omega (arith, c, ap (λ p. spot_node g (standing p)) e))
    by_end (failed id) e = or_right (to == spot_node g (standing b)) (spot_node g (standing b) == g.fail)
        (eq-eqb (spot_node g (standing b)) g.fail (ap (λ p. spot_node g (standing p)) e))
  leads_step C (Assert from to id rows) k s ins b rest c st = leads_target (Assert from to id rows) (spot_node g (standing b))
      (ap (λ p. spot_node g (standing p)) st.1 ∙ sym (eqb-true to g.fail (sym k.to_fail)))
  leads_step C (Return from to slot) k s ins b rest c st = leads_target (Return from to slot) (spot_node g (standing b))
      (ap (λ p. spot_node g (standing p)) st.0 ∙ sym (eqb-true to g.exit (sym k.to_exit)))

-- a cube of entry values holds wherever it holds of the entry values
pub entry_column : (s : State) (entry exit : List ℤ) (x : ℕ) → first_entry ≤ x → x < first_exit → columns_of s entry exit x ≡ value_at entry
    (x - first_entry)
entry_column s entry exit x low high =
    let a : nat_lt x first_entry ≡ false = le-ltb x first_entry low in
    let b : nat_lt x first_exit ≡ true = lt-ltb x first_exit high in
    rw (a, b) refl

pub entries_agree : (params : ℕ) → params ≤ first_entry → (s : State) (entry exit : List ℤ) → Agree (is_entry_column params)
    (valuation_of entry []) (columns_of s entry exit)
entries_agree params few s entry exit x h =
    let hs = both (nat_le first_entry x) (nat_lt x (first_entry + params)) h in
    let low : first_entry ≤ x = leb-true first_entry x hs.0 in
    let high : x < first_exit = omega (arith, few, ltb-true x (first_entry + params) hs.1) in
    entry_column no_slots entry [] x low high ∙ sym (entry_column s entry exit x low high)

pub starts_at : (g : Graph) (entry : List ℤ) (atoms : List Atom) → g.params ≤ first_entry →
    IsTrue (rows_name_only (is_entry_column g.params) atoms) → (p : Place) → IsThere g (standing p) → HoldsAll (valuation_of entry [])
    atoms →
    HoldsAll (place_columns entry p) atoms
starts_at g entry atoms few names (inside n s) c h = holds_agree (is_entry_column g.params) (valuation_of entry []) (columns_of s entry [])
    atoms (entries_agree g.params few s entry []) names h
starts_at g entry atoms few names (left values) c h = holds_agree (is_entry_column g.params) (valuation_of entry [])
    (valuation_of entry values) atoms (entries_agree g.params few no_slots entry values) names h
starts_at g entry atoms few names (failing id s) c h = holds_agree (is_entry_column g.params) (valuation_of entry [])
    (columns_of s entry [])
    atoms (entries_agree g.params few s entry []) names h
starts_at g entry atoms few names halted c h = absurd (omega (arith, c))

-- The first partition crosses and covers
over_edge : (g : Graph) (exit : ExitKind) (o : Option Edge) (e : Edge) (k : RegionEdge) → o ≡ Some e →
    IsTrue (leaves_at (source e) k.from) →
    IsTrue (comes_to g.fail e k.to) → IsTrue (connects g exit o k) ⊎ (IsTrue false ⊎ IsTrue (is_out exit o))
over_edge g exit o e k at l c = subst (λ p. IsTrue (connects g exit p k) ⊎ (IsTrue false ⊎ IsTrue (is_out exit p))) (sym at)
    (by_test (left_out exit e) refl) where
      by_test : (t : Bool) → left_out exit e ≡ t → IsTrue (not (left_out exit e) && (leaves_at (source e) k.from && comes_to g.fail e k.to))
          ⊎ (IsTrue false ⊎ IsTrue (left_out exit e))
      by_test true h = inr (inr h)
      by_test false h = inl (both_in (not (left_out exit e)) (leaves_at (source e) k.from && comes_to g.fail e k.to) (rw h refl)
          (both_in (leaves_at (source e) k.from) (comes_to g.fail e k.to) l c))

module _ (C : Called) (g : Graph) (q : Query) (entry : List ℤ) (ok : IsGraph g.nodes g.exit g.fail g.params g.exits g.slots g.edges) where
  pub begin_crosses : Crosses Spot (spot_node g) (spot_columns entry) (Covered g q entry) (Goes C g entry) (leaves_out g q)
      (begin_parted g q)
  begin_crosses outside outside i a b cx cy go sx sy = absurd go
  begin_crosses outside (standing p) i a b cx cy go sx sy =
      let na : a ≡ 0 = numbered g q entry a outside cx.there sx in
      let nb : b ≡ suc (spot_node g (standing p)) = numbered g q entry b (standing p) cy.there sy in
      let e : Edge = Entry go.0 go.1 in
      let at : slice_get g.edges i ≡ Some e = subst (λ j. slice_get g.edges j ≡ Some e) (sym go.2) go.3 in
      let here : IsTrue (leaves_at (source e) a) = eq-eqb a 0 na in
      let there : IsTrue (comes_to g.fail e b) = subst (λ n. IsTrue (comes_to g.fail e n)) (sym nb)
      (leads_target g e (spot_node g (standing p)) (ap (λ p. spot_node g (standing p)) go.5)) in
      over_edge g q.exit (slice_get g.edges i) e (edge_of i a b) at here there
  begin_crosses (standing (inside n s)) outside i a b cx cy go sx sy = absurd go
  begin_crosses (standing (inside n s)) (standing p) i a b cx cy go sx sy =
      let na : a ≡ suc n = numbered g q entry a (standing (inside n s)) cx.there sx in
      let nb : b ≡ suc (spot_node g (standing p)) = numbered g q entry b (standing p) cy.there sy in
      let e : Edge = go.0 in
      let here : IsTrue (leaves_at (source e) a) = subst (λ o. IsTrue (leaves_at o a)) (sym go.4) (eq-eqb a (n + 1) (omega (arith, na))) in
      let there : IsTrue (comes_to g.fail e b) = subst (λ n. IsTrue (comes_to g.fail e n)) (sym nb)
      (leads_step g C e (ok.are_edges i e go.3) s go.1 p go.2 cy.there go.5) in
      over_edge g q.exit (slice_get g.edges i) e (edge_of i a b) go.3 here there
  begin_crosses (standing (left values)) y i a b cx cy go sx sy = absurd go
  begin_crosses (standing (failing id s)) y i a b cx cy go sx sy = absurd go
  begin_crosses (standing halted) y i a b cx cy go sx sy = absurd go

  pub begin_covers : IsTrue (rows_name_only (is_entry_column g.params) q.start.atoms) → Covers Spot (spot_node g) (spot_columns entry)
      (Covered g q entry) (Goes C g entry) (leaves_out g q) (begin_parted g q).regions
  begin_covers names outside c = (0, record { region = region g.nodes []; there = refl; lies = record { stands = refl; meets = tt } })
  begin_covers names (standing p) c = (
    suc (spot_node g (standing p)),
    record {
      region = region (spot_node g (standing p)) (beginning g q (spot_node g (standing p)));
      there = found;
      lies = record {
        stands = refl;
        meets = by_tests (spot_node g (standing p) == first_node g.edges)
            (spot_node g (standing p) == end_node g q.exit) refl refl;
      };
    },
  )
    where
      few : g.params ≤ first_entry
      few = omega (arith, ok.params_in_slots, ok.few_slots)

      found : slice_get (node_regions g q 0 g.nodes) (spot_node g (standing p))
          ≡ Some (region (spot_node g (standing p)) (beginning g q (spot_node g (standing p))))
      found = region_there g q 0 g.nodes (spot_node g (standing p)) c.there ∙ ap (λ m. Some (region m (beginning g q m))) (omega arith)

      by_tests : (t u : Bool) → (spot_node g (standing p) == first_node g.edges) ≡ t → (spot_node g (standing p) == end_node g q.exit) ≡ u →
          HoldsAll (place_columns entry p) (beginning g q (spot_node g (standing p)))
      by_tests true u e f = rw e (starts_at g entry q.start.atoms few names p c.there
          (c.starts (eqb-true (spot_node g (standing p)) (first_node g.edges) e)))
      by_tests false true e f = rw (e, f) (c.ends (eqb-true (spot_node g (standing p)) (end_node g q.exit) f))
      by_tests false false e f = rw (e, f) tt
