-- The closings of a state exclude each other.
use Rattle.std.proofs.Common.{◌≡◌, ◌≢◌, ◌⊎◌, inl, inr, ⊎_elim, ℕ, zero, suc, ◌+◌, ◌<◌, ◌≤◌, List, [], ◌∷◌, ◌++◌, get_or, length, Option, Some, None, Bool, true, false, not, ◌&&◌, ◌||◌, ◌==◌, arith, refl, sym, subst, ap, ◌∙◌}
use Rattle.std.specs.Prelude.{slice_get, IsTrue}
use Rattle.std.specs.List.{list_any, list_all}
use Rattle.std.proofs.lemmas.Option.{same_Some, none-some, slice_get_within, slice_get_cases}
use borrow.Author.Tests.{eqb-true, not-true}
use Rattle.linear_formula.proofs.Limits.{both, both_in}
use Rattle.flow_graph.specs.declared.graph.Graph.{Graph}
use Rattle.flow_graph.specs.declared.graph.Edge.{Edge}
use Rattle.flow_graph.specs.declared.graph.Edge.TheVariants.{Entry}
use Rattle.flow_graph.specs.Shapes.{source, target, is_call}
use Rattle.flow_graph.specs.WellFormed.{IsGraph, first_node}
use Rattle.summary_form.specs.declared.query.Query.{Query}
use Rattle.may_partition.specs.declared.region.Region.{Region}
use Rattle.may_partition.specs.declared.region.RegionEdge.{RegionEdge}
use Rattle.may_partition.specs.Parted.{Parted, region, left_out, leaves_at, comes_to, connects, begin_parted}
use Rattle.may_partition.specs.Connected.{AreConnected}
use Rattle.may_partition.proofs.Making.{regions_length}
use Rattle.must_region.specs.Traces.{Trace}
use Rattle.flow_graph.proofs.Slots.{entry_edge}
use Rattle.query_rules.specs.Paths.{IsAdvance, IsPath, IsTurn, is_stuck, is_shut, is_marked, target_region}
use Rattle.query_rules.specs.invariants.Soundness.{HasOneOutside}
use Rattle.query_rules.specs.declared.step.Step.{Step}
use Rattle.query_rules.specs.declared.step.Mark.{Mark}
use Rattle.query_rules.specs.Steps.{Model}
use Rattle.query_rules.specs.Rows.{MarksWith}
use Rattle.query_rules.specs.invariants.Marking.{KeepsMarks, IsGoodMark}
use Rattle.query_rules.specs.invariants.Leading.{IsLed, IsInRange, KeepsLeading}
use Rattle.query_rules.proofs.Finding.{any_at}

-- The beginning
begin_range : (g : Graph) (q : Query) → IsGraph g.nodes g.exit g.fail g.params g.exits g.slots g.edges → (e : RegionEdge) →
    IsTrue ((begin_parted g q).live e) → IsInRange (begin_parted g q) e
begin_range g q ok e h = by_edge (slice_get g.edges e.edge) refl h where
  count : length (begin_parted g q).regions ≡ suc g.nodes
  count = ap suc (regions_length g q 0 g.nodes)

  from_low : (x : Edge) → slice_get g.edges e.edge ≡ Some x → (o : Option ℕ) → source x ≡ o → IsTrue (leaves_at o e.from) →
      e.from < length (begin_parted g q).regions
  from_low x at None s l = omega (arith, count, eqb-true e.from 0 l)
  from_low x at (Some n) s l = let low = ((ok.are_edges e.edge x at).leaves n s).0 in omega (arith, count, eqb-true e.from (n + 1) l, low)

  or_cases : (t u : Bool) → IsTrue (t || u) → IsTrue t ⊎ IsTrue u
  or_cases true u l = inl refl
  or_cases false u l = inr l

  to_low : (x : Edge) → slice_get g.edges e.edge ≡ Some x → (y : ℕ) → IsTrue (comes_to g.fail x y) → y < length (begin_parted g q).regions
  to_low x at zero l = absurd cc
  to_low x at (suc n) l =
      ⊎_elim (λ t. omega (arith, count, eqb-true (target x) n t, (ok.are_edges e.edge x at).in_range))
      (λ t. omega (arith, count, eqb-true n g.fail (both (is_call x) (n == g.fail) t).1, ok.fail_named))
      (or_cases (target x == n) (is_call x && (n == g.fail)) l)

  by_edge : (o : Option Edge) → slice_get g.edges e.edge ≡ o → IsTrue (connects g q.exit o e) → IsInRange (begin_parted g q) e
  by_edge None at l = absurd cc
  by_edge (Some x) at l =
      let u = both (leaves_at (source x) e.from) (comes_to g.fail x e.to)
      (both (not (left_out q.exit x)) (leaves_at (source x) e.from && comes_to g.fail x e.to) l).1 in
      (from_low x at (source x) refl u.0, to_low x at e.to u.1)

pub begin_leading : (g : Graph) (q : Query) → IsGraph g.nodes g.exit g.fail g.params g.exits g.slots g.edges →
    KeepsLeading [] (begin_parted g q)
    (record { trail = 0; region = 0; point = [] } ∷ [])
begin_leading g q ok = record { led = led; one = one; live_in = begin_range g q ok; stuck_in = λ e t. absurd (no t) } where
  no : IsTrue false → ⊥
  no t = cc

  led : (j : ℕ) (k : Mark) → slice_get (record { trail = 0; region = 0; point = [] } ∷ []) j ≡ Some k → (k.region ≡ 0)
      ⊎ IsLed [] (begin_parted g q) (record { trail = 0; region = 0; point = [] } ∷ []) j k
  led zero k e = inl (ap (λ (x : Mark). x.region) (sym (same_Some _ k e)))
  led (suc j) k e = absurd (none-some k e)

  one : (i j : ℕ) (a b : Mark) → slice_get (record { trail = 0; region = 0; point = [] } ∷ []) i ≡ Some a →
      slice_get (record { trail = 0; region = 0; point = [] } ∷ []) j ≡ Some b → a.region ≡ b.region → i ≡ j
  one zero zero a b x y same = refl
  one zero (suc j) a b x y same = absurd (none-some b y)
  one (suc i) j a b x y same = absurd (none-some a x)

-- A turn
pub marks_within : (gs : List Graph) (g : Graph) (q : Query) (trails : List Trace) (marks : List Mark) (regions : List Region) →
    KeepsMarks gs g q trails marks regions → (j : ℕ) (k : Mark) → slice_get marks j ≡ Some k → k.region < length regions
marks_within gs g q trails marks regions h j k e = by_mark (h.good j k e) where
  by_mark : IsGoodMark q trails regions k → k.region < length regions
  by_mark (inl o) = omega (arith, o.0, slice_get_within regions 0 (region g.nodes []) h.outside)
  by_mark (inr z) = slice_get_within regions k.region z.place z.at_place

or_left_false : (a b : Bool) → (a || b) ≡ false → a ≡ false
or_left_false true b h = absurd cc
or_left_false false b h = refl

all_middle : {A : Type 0} (p : A → Bool) (before : List A) (x : A) (behind : List A) → IsTrue (list_all p (before ++ x ∷ behind)) →
    IsTrue (p x)
all_middle p [] x behind h = (both (p x) (list_all p behind) h).0
all_middle p (y ∷ before) x behind h = all_middle p before x behind (both (p y) (list_all p (before ++ x ∷ behind)) h).1

all_after : {A : Type 0} (p : A → Bool) (before : List A) (x : A) (behind : List A) → IsTrue (list_all p (before ++ x ∷ behind)) →
    IsTrue (list_all p behind)
all_after p [] x behind h = (both (p x) (list_all p behind) h).1
all_after p (y ∷ before) x behind h = all_after p before x behind (both (p y) (list_all p (before ++ x ∷ behind)) h).1

module _ (g : Graph) (m : Model) (k : RegionEdge) (t : IsTurn g m k) where
  -- the edge of a turn is live
  pub turn_live : IsTrue (m.parted.live k)
  turn_live = on_path t.before t.behind 0 (target_region g m.query) t.is_open.0 where
    on_path : (before behind : List RegionEdge) (a b : ℕ) → IsPath m.parted a (before ++ k ∷ behind) b → IsTrue (m.parted.live k)
    on_path [] behind a b p = p.0
    on_path (e ∷ before) behind a b p = on_path before behind e.to b p.2

  pub turn_from : is_marked m.marks k.from ≡ true
  turn_from = (both (is_marked m.marks k.from) (not (is_marked m.marks k.to)) t.frontier).0

  pub turn_to : is_marked m.marks k.to ≡ false
  turn_to = not-true (is_marked m.marks k.to) (both (is_marked m.marks k.from) (not (is_marked m.marks k.to)) t.frontier).1

  pub turn_free : is_stuck m.steps k ≡ false
  turn_free =
      or_left_false (is_stuck m.steps k) _ (not-true (is_shut m k) (all_middle (λ e. not (is_shut m e)) t.before k t.behind t.is_open.1))

  pub turn_apart : k.to ≢ k.from
  turn_apart e = clash (sym turn_from ∙ subst (λ r. is_marked m.marks r ≡ false) e turn_to) where
    clash : true ≡ false → ⊥
    clash x = cc

  -- such an edge may carry a trail on
  pub turn_advances : IsAdvance g m k
  turn_advances = record {
    way = t.before ++ k ∷ t.behind;
    is_way = t.is_open;
    lives = turn_live;
    free = not-true (is_shut m k) (all_middle (λ e. not (is_shut m e)) t.before k t.behind t.is_open.1);
    frontier = t.frontier;
    rest = t.behind;
    leads_on = (
      path_after t.before 0 (target_region g m.query) t.is_open.0,
      all_after (λ e. not (is_shut m e)) t.before k t.behind t.is_open.1,
    );
  }
    where
      path_after : (before : List RegionEdge) (a b : ℕ) → IsPath m.parted a (before ++ k ∷ t.behind) b → IsPath m.parted k.to t.behind b
      path_after [] a b p = p.2
      path_after (e ∷ before) a b p = path_after before e.to b p.2

module _ (g : Graph) (m : Model) (k : RegionEdge) (t : IsAdvance g m k) where
  pub advance_from : is_marked m.marks k.from ≡ true
  advance_from = (both (is_marked m.marks k.from) (not (is_marked m.marks k.to)) t.frontier).0

  pub advance_to : is_marked m.marks k.to ≡ false
  advance_to = not-true (is_marked m.marks k.to) (both (is_marked m.marks k.from) (not (is_marked m.marks k.to)) t.frontier).1

  pub advance_free : is_stuck m.steps k ≡ false
  advance_free = or_left_false (is_stuck m.steps k) _ t.free

-- the mark of a trail at a region
pub mark_there : (m : Model) (n : ℕ) (t : Trace) (r : ℕ) → MarksWith m n t r → (j : ℕ) × (k : Mark) × (slice_get m.marks j ≡ Some k)
    × (k.region ≡ r) × (k.trail ≡ n)
mark_there m n t r w =
    let a = any_at (λ k. k.trail == n && k.region == r) m.marks w.1 in
    let b = both (a.1.trail == n) (a.1.region == r) a.3 in
    (a.0, a.1, a.2, eqb-true a.1.region r b.1, eqb-true a.1.trail n b.0)

-- no edge by which the frame begins leaves an inner region
pub entry_outside : (g : Graph) → IsGraph g.nodes g.exit g.fail g.params g.exits g.slots g.edges → (q : Query) (p : Parted) →
    AreConnected g q.exit p → HasOneOutside g p → (x : RegionEdge) → IsTrue (p.live x) → IsInRange p x → x.edge ≡ 0 → x.from ≡ 0
entry_outside g ok q p joined one x live range zero_edge = by_regions (slice_get_cases p.regions x.from).1
    (slice_get_cases p.regions x.to).1 where
      at : slice_get g.edges x.edge ≡ Some (Entry (first_node g.edges) g.params)
      at = subst (λ j. slice_get g.edges j ≡ Some (Entry (first_node g.edges) g.params)) (sym zero_edge)
          (entry_edge g.params g.edges ok.begins)

      by_regions : ((r : Region) × (x.from < length p.regions) × (slice_get p.regions x.from ≡ Some r) × (get_or p.regions x.from r ≡ r))
          ⊎ ((length p.regions ≤ x.from) × (slice_get p.regions x.from ≡ None)) →
          ((r : Region) × (x.to < length p.regions) × (slice_get p.regions x.to ≡ Some r) × (get_or p.regions x.to r ≡ r))
          ⊎ ((length p.regions ≤ x.to) × (slice_get p.regions x.to ≡ None)) → x.from ≡ 0
      by_regions (inl a) (inl b) = one x.from a.0 a.2 (joined x live (Entry (first_node g.edges) g.params) at a.0 b.0 a.2 b.2).0
      by_regions (inl a) (inr b) = absurd (omega (arith, range.1, b.0))
      by_regions (inr a) b = absurd (omega (arith, range.0, a.0))

-- A path to each mark
path_snoc : (p : Parted) (a : ℕ) (es : List RegionEdge) (b : ℕ) (e : RegionEdge) → IsPath p a es b → IsTrue (p.live e) → e.from ≡ b →
    IsPath p a (es ++ e ∷ []) e.to
path_snoc p a [] b e h l f = (l, f ∙ h, refl)
path_snoc p a (x ∷ es) b e h l f = (h.0, h.1, path_snoc p x.to es b e h.2 l f)

all_snoc : {A : Type 0} (p : A → Bool) (xs : List A) (x : A) → IsTrue (list_all p xs) → IsTrue (p x) → IsTrue (list_all p (xs ++ x ∷ []))
all_snoc p [] x h k = both_in (p x) true k refl
all_snoc p (y ∷ xs) x h k =
    let u = both (p y) (list_all p xs) h in
    both_in (p y) (list_all p (xs ++ x ∷ [])) u.0 (all_snoc p xs x u.1 k)

pub any_none : {A : Type 0} (p : A → Bool) (xs : List A) → IsTrue (list_any p xs) → IsTrue (list_all (λ x. not (p x)) xs) → ⊥
any_none p [] h k = absurd cc
any_none p (x ∷ xs) h k = by_test (p x) h (both (not (p x)) (list_all (λ y. not (p y)) xs) k).0
    (λ l. any_none p xs l (both (not (p x)) (list_all (λ y. not (p y)) xs) k).1) where
      by_test : (b : Bool) → IsTrue (b || list_any p xs) → IsTrue (not b) → (IsTrue (list_any p xs) → ⊥) → ⊥
      by_test true l n rest = cc
      by_test false l n rest = rest l

module _ (steps : List Step) (p : Parted) (marks : List Mark) (h : KeepsLeading steps p marks) where
  abbrev FreePath : ℕ → Type 0
  FreePath r = (es : List RegionEdge) × IsPath p 0 es r × IsTrue (list_all (λ e. not (is_stuck steps e)) es)

  by_led : (j : ℕ) (k : Mark) → (k.region ≡ 0) ⊎ IsLed steps p marks j k → ((i : ℕ) (o : Mark) → i < j → slice_get marks i ≡ Some o →
      FreePath o.region) → FreePath k.region
  by_led j k (inl z) rest = ([], z, refl)
  by_led j k (inr l) rest =
      let r = rest l.number l.mark l.earlier l.among in (
        r.0 ++ l.edge ∷ [],
        subst (λ b. IsPath p 0 (r.0 ++ l.edge ∷ []) b) l.leads (path_snoc p 0 r.0 l.mark.region l.edge r.1 l.is_live l.leaves),
        all_snoc (λ e. not (is_stuck steps e)) r.0 l.edge r.2 (rw l.free refl),
      )

  path_within : (fuel j : ℕ) → j < fuel → (k : Mark) → slice_get marks j ≡ Some k → FreePath k.region
  path_within zero j low k e = absurd (omega (arith, low))
  path_within (suc fuel) j low k e = by_led j k (h.led j k e) (λ i o lt there. path_within fuel i (omega (arith, low, lt)) o there)

  pub path_to : (j : ℕ) (k : Mark) → slice_get marks j ≡ Some k → FreePath k.region
  path_to j k e = path_within (suc j) j (omega arith) k e
