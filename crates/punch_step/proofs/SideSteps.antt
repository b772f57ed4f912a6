-- Edges off the shortest path, and the steps by which a mark's own point is carried over them.
use Rattle.std.proofs.Common.{◌≡◌, ◌≢◌, ◌⊎◌, inl, inr, ℕ, suc, ◌<◌, ◌≤◌, ◌==◌, ◌&&◌, ◌||◌, not, false, List, ◌∷◌, ◌++◌, Option, Some, None, get_or, length, arith, refl, sym, ap, subst, ◌∙◌}
use Rattle.std.specs.Prelude.{Err, IfOk, IfSome, IsTrue, Ok, Result, slice_get}
use Rattle.std.proofs.lemmas.Option.{slice_get_cases}
use borrow.Author.Tests.{eq-eqb}
use Rattle.linear_formula.specs.LinearSum.{Is64, valuation}
use Rattle.linear_formula.specs.Formula.{HoldsAll}
use Rattle.linear_formula.specs.declared.formula.Atom.{Atom}
use Rattle.linear_formula.proofs.Limits.{both_in}
use Rattle.shadow_elim.specs.Sums.{first_wide, row_sums}
use Rattle.abstract_path.specs.Routes.{is_at}
use Rattle.flow_graph.specs.Readings.{reading}
use Rattle.flow_graph.specs.Shapes.{is_call, source}
use Rattle.flow_graph.specs.declared.graph.Edge.{Edge}
use Rattle.flow_graph.specs.declared.graph.Graph.{Graph}
use Rattle.summary_form.specs.declared.query.Query.{Query}
use Rattle.summary_form.specs.declared.summary.Summary.{Summary}
use Rattle.may_partition.specs.Parted.{end_node}
use Rattle.may_partition.specs.Shown.{Shown, is_live}
use Rattle.may_partition.specs.declared.region.Region.{Region}
use Rattle.may_partition.specs.declared.region.RegionEdge.{RegionEdge}
use Rattle.must_region.specs.Paths.{read_sums}
use Rattle.must_region.specs.Rules.{extended, sums_of}
use Rattle.must_region.specs.Traces.{Trace, trace_of}
use Rattle.must_region.specs.declared.trail.Trail.{Trail}
use Rattle.query_rules.specs.Legal.{IsLegal}
use Rattle.query_rules.specs.Paths.{IsAdvance, IsOpenPath, IsTurn, is_awaited, is_marked, is_shut, is_stuck, leaves_marked, target_region}
use Rattle.query_rules.specs.Rows.{Between, MarksWith, seen_at}
use Rattle.query_rules.specs.Seen.{Seen, ShowsModel}
use Rattle.query_rules.specs.Steps.{Model, Point}
use Rattle.query_rules.specs.declared.step.Mark.{Mark}
use Rattle.query_rules.specs.declared.step.Step.{Step}
use Rattle.query_rules.specs.declared.step.Step.TheVariants as step
use Rattle.query_rules.specs.invariants.Marking.{IsGoodMark, Sees}
use Rattle.query_rules.proofs.AppliedSteps.{front_fits}
use Rattle.query_rules.proofs.CarriedTrails.{trace_at}
use Rattle.query_rules.proofs.Closing.{entry_outside}
use Rattle.query_rules.proofs.Leading.{any_there}
use Rattle.query_rules.proofs.Marked.{IsMarked, state_marked}
use Rattle.query_rules.proofs.Turning.{stands_at_source}
use Rattle.punch_step.specs.Analysed.{IsAnalysed}
use Rattle.punch_step.specs.Confirming.{IsSideStep}
use Rattle.punch_step.specs.Sides.{IsLanded, IsSide, LandsAt}
use Rattle.punch_step.specs.declared.distances.Distances.{Distances}
use Rattle.punch_step.specs.declared.measure.Reach.{Reach}
use Rattle.punch_step.specs.steps.Far.{AreAtLeast, IsOpenWay, crosses}
use Rattle.punch_step.specs.steps.Following.{AreNoted, AreOf, IsFollowed, KeepsRest}
use Rattle.punch_step.proofs.Deciding.{wide_behind}
use Rattle.punch_step.proofs.Followed.{kept_followed}
use Rattle.punch_step.proofs.OpenWays.{path_of_way}

-- What distances say of an edge

module _ (s : Seen) (d : Distances) (f : IsFollowed s d) (m : Model) (shows : ShowsModel s m) (k : RegionEdge) where
  same_shut : (e : RegionEdge) → is_live d.shut e ≡ is_shut m e
  same_shut e = f.shut e ∙ ap (λ xs. is_stuck xs e || is_awaited s.asked e) (sym shows.steps)
      ∙ ap (λ xs. is_stuck m.steps e || is_awaited xs e) (sym shows.asked)

  same_marked : (r : ℕ) → is_at d.marked.items r ≡ is_marked m.marks r
  same_marked r = f.marked r ∙ ap (λ ks. is_marked ks r) (sym shows.marks)

  same_frontier : crosses d.marked.items k ≡ leaves_marked m.marks k
  same_frontier = ap (λ x. x && not (is_at d.marked.items k.to)) (same_marked k.from)
      ∙ ap (λ x. is_marked m.marks k.from && not x) (same_marked k.to)

  pub side_of : IsTrue (crosses d.marked.items k) → is_live d.shut k ≡ false → IsTrue (is_live s.partition.edges k) →
      (es : List RegionEdge) × IsOpenWay s.partition.edges d.shut k.to es d.target → IsSide m d.target k
  side_of crossing free live way = record {
    lives = sym (shows.partition.live k) ∙ live;
    free = sym (same_shut k) ∙ free;
    frontier = sym same_frontier ∙ crossing;
    rest = way.0;
    leads_on = path_of_way s.partition.edges d.shut m.parted (is_shut m) shows.partition.live same_shut k.to way.0 d.target way.1;
  }

kept_far : (p : Shown) (d new : Distances) → AreOf p d → KeepsRest d new → new.reach ≡ d.reach → AreOf p new
kept_far p d new h keeps reach =
    subst (λ (r : Reach). AreAtLeast (length p.regions) p.edges new.shut new.target r.far.items r.way.items) (sym reach)
    (subst (λ (n : ℕ). AreAtLeast (length p.regions) p.edges new.shut n d.reach.far.items d.reach.way.items) (sym keeps.target)
    (subst (λ (es : List RegionEdge). AreAtLeast (length p.regions) p.edges es d.target d.reach.far.items d.reach.way.items)
    (sym keeps.shut) h))

pub still_followed : (s : Seen) (d new : Distances) → IsFollowed s d → KeepsRest d new → new.reach ≡ d.reach →
    AreNoted s.partition new.noted.items → IsFollowed s new
still_followed s d new f keeps reach noted = kept_followed s d new f keeps (kept_far s.partition d new f.far keeps reach) noted

-- The step over an edge

read_end : (t : Trace) (start end : List Atom) → first_wide (read_sums t start end) ≡ None →
    first_wide (row_sums (reading t.slots t.entry) end) ≡ None
read_end t start end h =
    let first = row_sums (reading t.slots t.entry) start in let more = row_sums (reading t.slots t.entry) end in
    sym (wide_behind first more (front_fits first more h)) ∙ h

module _ (gs : List Graph) (table : List Summary) (g : Graph) (s : Seen) (m : Model) (a : IsAnalysed gs table g s m) (target : ℕ)
    (k : RegionEdge) (side : IsSide m target k) (number : ℕ) (mark : Mark) (among : slice_get s.marks number ≡ Some mark)
    (from : k.from ≡ mark.region) (inner : k.from ≢ 0) (over : Edge) (at_edge : slice_get g.edges k.edge ≡ Some over)
    (trail : Trail) (there : slice_get s.trails mark.trail ≡ Some trail) where
  marked : IsMarked gs a.grounded.graphs g m
  marked = state_marked gs a.grounded.graphs g table a.grounded.table_holds m.query m.ancestors m a.grounded.state

  among_model : slice_get m.marks number ≡ Some mark
  among_model = ap (λ (ks : List Mark). slice_get ks number) a.shows.marks ∙ among

  range : (k.from < length m.parted.regions) × (k.to < length m.parted.regions)
  range = marked.leads.live_in k side.lives

  not_entry : k.edge ≢ 0
  not_entry z = inner (entry_outside g g.well_formed m.query m.parted marked.joined.connected marked.joined.one_outside k side.lives range
      z)

  sees : Sees m.query m.trails m.parted.regions mark
  sees = by_mark (marked.marks.good number mark among_model) where
    by_mark : IsGoodMark m.query m.trails m.parted.regions mark → Sees m.query m.trails m.parted.regions mark
    by_mark (inl o) = absurd (inner (from ∙ o.0))
    by_mark (inr z) = z

  marks_with : MarksWith m mark.trail (trace_of trail) k.from
  marks_with = (
    ap (λ (ts : List Trace). slice_get ts mark.trail) a.shows.trails ∙ trace_at s.trails mark.trail trail there,
    any_there (λ x. x.trail == mark.trail && x.region == k.from) m.marks number mark among_model
        (both_in (mark.trail == mark.trail) (mark.region == k.from) (eq-eqb mark.trail mark.trail refl)
        (eq-eqb mark.region k.from (sym from))),
  )

  between_to : (r : Region) → slice_get m.parted.regions k.to ≡ Some r → Between g m k
  between_to r at = record {
    edge = over;
    source = sees.place;
    target = r;
    at_edge = at_edge;
    at_source = ap (slice_get m.parted.regions) from ∙ sees.at_place;
    at_target = at;
  }

  target_there : (r : Region) × (slice_get m.parted.regions k.to ≡ Some r)
  target_there = by_cases (slice_get_cases m.parted.regions k.to).1 where
    by_cases : ((r : Region) × (k.to < length m.parted.regions) × (slice_get m.parted.regions k.to ≡ Some r)
        × (get_or m.parted.regions k.to r ≡ r))
        ⊎ ((length m.parted.regions ≤ k.to) × (slice_get m.parted.regions k.to ≡ None)) → (r : Region)
        × (slice_get m.parted.regions k.to ≡ Some r)
    by_cases (inl c) = (c.0, c.2)
    by_cases (inr c) = absurd (omega (arith, range.1, c.0))

  -- the trail stands where the edge leaves
  pub leaves_there : source over ≡ Some trail.node
  unfolding between_to
  leaves_there =
      stands_at_source gs a.grounded.graphs g m marked k side.lives (between_to target_there.0 target_there.1) not_entry mark.trail
      (trace_of trail) marks_with

  module _ (is : target ≡ suc (end_node g s.query.exit)) (plain : is_call over ≡ false) (at : RegionEdge) (turn : IsTurn g m at) where
    at_target : target ≡ target_region g m.query
    at_target = is ∙ ap (λ (q : Query). suc (end_node g q.exit)) (sym a.shows.query)

    advance : IsAdvance g m k
    advance = record {
      way = turn.before ++ at ∷ turn.behind;
      is_way = turn.is_open;
      lives = side.lives;
      free = side.free;
      frontier = side.frontier;
      rest = side.rest;
      leads_on = subst (λ (n : ℕ). IsOpenPath m k.to side.rest n) at_target side.leads_on;
    }

    abbrev carried : Trace
    carried = extended (trace_of trail) over

    lands_legal : (point : Point) → point ≡ mark.point → first_wide (sums_of (trace_of trail) over) ≡ None → LandsAt s carried k point →
        IsLegal g table m (step.Extend k mark.trail point)
    unfolding between_to
    lands_legal point same decided lands =
        let end = lands.target.cube.atoms in
        let read = read_end carried s.query.start.atoms end lands.read in (
          advance,
          record {
            at = record {
              between = between_to lands.target (ap (λ (rs : List Region). slice_get rs k.to) (sym a.shows.partition.regions)
                  ∙ lands.at_target);
              plain = plain;
            };
            trail = trace_of trail;
            marks = marks_with;
            comes = record {
              decided = wide_behind (sums_of (trace_of trail) over) (row_sums (reading carried.slots carried.entry) end) decided ∙ read;
              values = subst (λ (p : Point). Is64 (valuation p)) (sym same) sees.values;
              met = subst (λ (q : Query). HoldsAll (valuation point) (seen_at q carried end)) (sym a.shows.query) lands.met;
            };
          },
        )

    pub steps_over : (t : Trace) → t ≡ extended (trace_of trail) over → first_wide (sums_of (trace_of trail) over) ≡ None →
        (made : Step) → IsLanded s t mark k made → IsSideStep g table m made
    steps_over t is_t decided (step.Extend k' n point) l =
        subst (λ (e : RegionEdge). IsLegal g table m (step.Extend e n point)) (sym l.0)
        (subst (λ (i : ℕ). IsLegal g table m (step.Extend k i point)) (sym l.1)
        (lands_legal point l.2 decided (subst (λ (x : Trace). LandsAt s x k point) is_t l.3)))
    steps_over t is_t decided (step.Split over' atoms follows proofs) l = absurd l
    steps_over t is_t decided (step.Kill over' by) l = absurd l
    steps_over t is_t decided (step.CallExtend over' n place point) l = absurd l
    steps_over t is_t decided (step.CallSplit over' place atoms follows proofs) l = absurd l
    steps_over t is_t decided (step.CallPart over' by atom atoms follows proofs) l = absurd l
    steps_over t is_t decided (step.Ask over' q follows seen) l = absurd l
    steps_over t is_t decided (step.Feed i) l = absurd l
    steps_over t is_t decided (step.Stuck over' why seen) l = absurd l

-- at each frontier the step is legal
abbrev pub IsSideHere : Graph → Seen → Step → Type 0
IsSideHere g s made =
    (gs : List Graph) (table : List Summary) (m : Model) (at : RegionEdge) → IsAnalysed gs table g s m → IsTurn g m at →
    IsSideStep g table m made

pub sides_here : {E : Type 0} (r : Result (Option Step) E) (P : Step → Type 0) (g : Graph) (s : Seen) →
    ((made : Step) → P made → IsSideHere g s made) → IfOk r (λ o. IfSome o P) → IfOk r (λ o. IfSome o (IsSideHere g s))
sides_here (Ok (Some made)) P g s f h = f made h
sides_here (Ok None) P g s f h = h
sides_here (Err e) P g s f h = h
