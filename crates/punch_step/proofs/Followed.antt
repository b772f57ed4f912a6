-- Distances that follow a state over one step.
use Rattle.std.proofs.Common.{◌≡◌, ◌≢◌, ℕ, ◌-◌, ◌<◌, ◌≤◌, ◌==◌, Bool, true, false, not, ◌&&◌, ◌||◌, List, [], ◌∷◌, ◌++◌, Option, Some, None, length, arith, refl, sym, subst, ap, ◌∙◌}
use Rattle.std.specs.Result.{OnOk}
use Rattle.std.specs.Prelude.{Err, IsTrue, Ok, Result, nat_lt, slice_get, slice_set}
use borrow.Author.Tests.{eqb-true, eqb-false, lt-ltb, lt-leb}
use Rattle.std.proofs.Math.ListN.{length-set, length-append}
use Rattle.std.proofs.Math.Bool.{or-false}
use Rattle.std.proofs.lemmas.Option.{same_Some}
use Rattle.std.proofs.lemmas.List.{get_or-set_same, get_or-set_other}
use Rattle.std.proofs.lemmas.List.Folds.{list_any-append}
use Rattle.linear_formula.proofs.Limits.{both, both_in}
use Rattle.linear_formula.specs.declared.formula.Atom.{Atom}
use Rattle.abstract_path.specs.Routes.{is_at}
use Rattle.flow_graph.specs.declared.graph.Graph.{Graph}
use Rattle.summary_form.specs.declared.summary.Summary.{Summary}
use Rattle.may_partition.specs.declared.region.Region.{Region}
use Rattle.may_partition.specs.declared.region.RegionEdge.{RegionEdge}
use Rattle.may_partition.specs.Parted.{Parted, has_regions, is_cut, parents, same_edge, split_edge, split_region, split_regions, pieces}
use Rattle.may_partition.specs.Shown.{is_live}
use Rattle.query_rules.specs.declared.step.Killer.{Killer}
use Rattle.query_rules.specs.declared.step.Mark.{Mark}
use Rattle.query_rules.specs.declared.step.Step.{Step}
use Rattle.query_rules.specs.declared.step.Step.TheVariants as step
use Rattle.query_rules.specs.declared.step.Why.{Why}
use Rattle.query_rules.specs.Paths.{gives_up, is_awaited, is_marked, is_stuck}
use Rattle.query_rules.specs.Seen.{Seen}
use Rattle.query_rules.specs.Steps.{Model, stepped}
use Rattle.query_rules.proofs.Effects.{one_step_more}
use Rattle.query_rules.proofs.Closing.{marks_within}
use Rattle.query_rules.proofs.Marked.{state_marked}
use Rattle.punch_step.specs.Analysed.{IsAnalysed}
use Rattle.punch_step.specs.Slices.{end_of}
use Rattle.punch_step.specs.declared.distances.Distances.{Distances}
use Rattle.punch_step.specs.steps.Far.{AreAtLeast, IsOpenEdge}
use Rattle.punch_step.specs.steps.Following.{AreNoted, AreOf, IsBehind, IsFollowed, IsSplitFrom, KeepsRest}
use Rattle.punch_step.specs.steps.Reaching.{AreMarksWithin}
use Rattle.punch_step.proofs.FarAway.{fewer_open}
use Rattle.punch_step.proofs.Noting.{Keeps, is_other}

clash : true ≡ false → ⊥
clash h = cc

pub on_ok : {T E P : Type 0} (r : Result T E) → P → OnOk r P
on_ok (Ok x) p = p
on_ok (Err e) p = tt

same_asked : (g : Graph) (table : List Summary) (made : Step) (m : Model) → end_of made ≡ None → (stepped g table made m).asked ≡ m.asked
same_asked g table (step.Extend k n point) m o = refl
same_asked g table (step.Split k atoms follows proofs) m o = refl
same_asked g table (step.Kill k by) m o = refl
same_asked g table (step.CallExtend k n place point) m o = refl
same_asked g table (step.CallSplit k place atoms follows proofs) m o = refl
same_asked g table (step.CallPart k by atom atoms follows proofs) m o = refl
same_asked g table (step.Ask k q follows seen) m o = absurd cc
same_asked g table (step.Feed i) m o = absurd cc
same_asked g table (step.Stuck k why seen) m o = refl

last_at : (xs : List Step) (x : Step) → slice_get (xs ++ x ∷ []) (length (xs ++ x ∷ []) - 1) ≡ Some x
last_at xs x = ap (slice_get (xs ++ x ∷ [])) (omega (arith, length-append xs (x ∷ []))) ∙ at xs where
  at : (ys : List Step) → slice_get (ys ++ x ∷ []) (length ys) ≡ Some x
  at [] = refl
  at (y ∷ ys) = at ys

pub all_within : (gs : List Graph) (table : List Summary) (g : Graph) (s : Seen) (m : Model) → IsAnalysed gs table g s m →
    AreMarksWithin (length s.partition.regions) s.marks
all_within gs table g s m a i k e =
    subst (λ rs. k.region < length rs) (sym a.shows.partition.regions)
    (marks_within gs g m.query m.trails m.marks m.parted.regions
    (state_marked gs a.grounded.graphs g table a.grounded.table_holds m.query m.ancestors m a.grounded.state).marks i k
    (ap (λ ks. slice_get ks i) a.shows.marks ∙ e))

-- where what else is kept stays
pub kept_followed : (s : Seen) (d new : Distances) → IsFollowed s d → KeepsRest d new → AreOf s.partition new →
    AreNoted s.partition new.noted.items → IsFollowed s new
kept_followed s d new f keeps far noted = record {
  shut = λ e. ap (λ l. is_live l e) keeps.shut ∙ f.shut e;
  many = ap length keeps.marked ∙ f.many;
  marked = λ r. ap (λ bits. is_at bits r) keeps.marked ∙ f.marked r;
  target = subst (λ t. t < length s.partition.regions) (sym keeps.target) f.target;
  far = far;
  noted = noted;
}

module _ (s : Seen) (d : Distances) (b : IsBehind s d) where
  abbrev m : Model
  m = b.model

  abbrev made : Model
  made = stepped b.graph b.table b.step b.model

  steps_are : s.steps ≡ b.before.steps ++ b.step ∷ []
  steps_are = sym b.is.shows.steps ∙ one_step_more b.graph b.table b.step m ∙ ap (λ xs. xs ++ b.step ∷ []) b.was.shows.steps

  asked_are : s.asked ≡ b.before.asked
  asked_are = sym b.is.shows.asked ∙ same_asked b.graph b.table b.step m b.goes_on ∙ b.was.shows.asked

  -- the step is the last one
  pub last_is : slice_get s.steps (length s.steps - 1) ≡ Some b.step
  last_is = subst (λ xs. slice_get xs (length xs - 1) ≡ Some b.step) (sym steps_are) (last_at b.before.steps b.step)

  pub is_last : (x : Step) → slice_get s.steps (length s.steps - 1) ≡ Some x → b.step ≡ x
  is_last x e = same_Some b.step x (sym last_is ∙ e)

  pub some_last : slice_get s.steps (length s.steps - 1) ≡ None → ⊥
  some_last e = none (sym last_is ∙ e) where
    none : Some b.step ≡ None → ⊥
    none h = cc

  shuts : (e : RegionEdge) (c : Bool) → gives_up e b.step ≡ c →
      (is_stuck s.steps e || is_awaited s.asked e) ≡ ((is_stuck b.before.steps e || c) || is_awaited b.before.asked e)
  shuts e c h =
      ap (λ xs. is_stuck xs e || is_awaited s.asked e) steps_are ∙ ap (λ xs. is_stuck (b.before.steps ++ b.step ∷ []) e || is_awaited xs e)
      asked_are
      ∙ ap (λ t. t || is_awaited b.before.asked e) (list_any-append (gives_up e) b.before.steps (b.step ∷ [])
      ∙ ap (λ t. is_stuck b.before.steps e || (t || false)) h ∙ ap (λ t. is_stuck b.before.steps e || t) (or-false c))

  -- where no edge is given up
  same_shut : (e : RegionEdge) → gives_up e b.step ≡ false → is_live d.shut e ≡ (is_stuck s.steps e || is_awaited s.asked e)
  same_shut e h =
      b.followed.shut e
      ∙ sym (shuts e false h ∙ ap (λ t. t || is_awaited b.before.asked e) (or-false (is_stuck b.before.steps e)))

  live_is : (made_is : Model) → made ≡ made_is → (e : RegionEdge) → is_live s.partition.edges e ≡ made_is.parted.live e
  live_is made_is h e = b.is.shows.partition.live e ∙ ap (λ (n : Model). n.parted.live e) h

  -- The same regions
  module _ (regions : made.parted.regions ≡ m.parted.regions) where
    same_regions : s.partition.regions ≡ b.before.partition.regions
    same_regions = b.is.shows.partition.regions ∙ regions ∙ sym b.was.shows.partition.regions

    count : length s.partition.regions ≡ length b.before.partition.regions
    count = ap length same_regions

    far_of : (shut : List RegionEdge) → ((e : RegionEdge) → IsOpenEdge s.partition.edges shut e → IsOpenEdge b.before.partition.edges d.shut
        e) →
        AreAtLeast (length s.partition.regions) s.partition.edges shut d.target d.reach.far.items d.reach.way.items
    far_of shut fewer = record {
      fars = b.followed.far.fars ∙ sym count;
      ways = b.followed.far.ways ∙ sym count;
      at_target = b.followed.far.at_target;
      bounded = fewer_open b.before.partition.edges d.shut s.partition.edges shut d.reach.far.items b.followed.far.bounded fewer;
    }

    noted_of : (noted : List (Option RegionEdge)) → Keeps d.noted.items noted →
        ((r : ℕ) (e : RegionEdge) → slice_get noted r ≡ Some (Some e) → e.from ≡ r → IsTrue (m.parted.live e) →
        IsTrue (made.parted.live e)) →
        AreNoted s.partition noted
    noted_of noted keeps live r e at =
        let h = b.followed.noted r e (keeps r e at) in (
          h.0,
          subst (λ n. e.from < n) (sym count) h.1,
          subst (λ n. e.to < n) (sym count) h.2,
          b.is.shows.partition.live e ∙ live r e at h.0 (sym (b.was.shows.partition.live e) ∙ h.3),
        )

    target_in : d.target < length s.partition.regions
    target_in = subst (λ n. d.target < n) (sym count) b.followed.target

    same_marked : made.marks ≡ m.marks → (r : ℕ) → is_at d.marked.items r ≡ is_marked s.marks r
    same_marked h r = b.followed.marked r ∙ ap (λ ks. is_marked ks r) (sym b.was.shows.marks ∙ sym h ∙ b.is.shows.marks)

  -- A kill
  module _ (k : RegionEdge) (by : Killer) (is : b.step ≡ step.Kill k by) where
    made_kill : made ≡ stepped b.graph b.table (step.Kill k by) m
    made_kill = ap (λ x. stepped b.graph b.table x m) is

    kill_regions : made.parted.regions ≡ m.parted.regions
    kill_regions = ap (λ (n : Model). n.parted.regions) made_kill

    pub far_kill : AreOf s.partition d
    far_kill = far_of kill_regions d.shut (λ e o. (
      b.was.shows.partition.live e
          ∙ left e (subst IsTrue (live_is (stepped b.graph b.table (step.Kill k by) m) made_kill e) o.0),
      o.1,
    )) where
      left : (e : RegionEdge) → IsTrue (m.parted.live e && not (same_edge e k)) → IsTrue (m.parted.live e)
      left e t = (both (m.parted.live e) (not (same_edge e k)) t).0

    pub noted_kill : (noted : List (Option RegionEdge)) →
        ((r : ℕ) (e : RegionEdge) → slice_get noted r ≡ Some (Some e) → (r ≢ k.from) × (slice_get d.noted.items r ≡ Some (Some e))) →
        AreNoted s.partition noted
    noted_kill noted left = noted_of kill_regions noted (λ r e at. (left r e at).1)
        (λ r e at from live. ap (λ (n : Model). n.parted.live e) made_kill
        ∙ both_in (m.parted.live e) (not (same_edge e k)) live (is_other e k (λ z. (left r e at).0 (sym from ∙ z))))

    pub kill_followed : (new : Distances) → KeepsRest d new → AreOf s.partition new → AreNoted s.partition new.noted.items →
        IsFollowed s new
    kill_followed new keeps far noted = record {
      shut = λ e. ap (λ l. is_live l e) keeps.shut ∙ same_shut e (ap (gives_up e) is);
      many = ap length keeps.marked ∙ b.followed.many ∙ sym (count kill_regions);
      marked = λ r. ap (λ bits. is_at bits r) keeps.marked ∙ same_marked kill_regions (ap (λ (n : Model). n.marks) made_kill) r;
      target = subst (λ t. t < length s.partition.regions) (sym keeps.target) (target_in kill_regions);
      far = far;
      noted = noted;
    }

  -- An edge is given up
  module _ (k : RegionEdge) (why : Why) (seen : ℕ) (is : b.step ≡ step.Stuck k why seen) (shut : List RegionEdge)
      (more : (e : RegionEdge) → is_live shut e ≡ (is_live d.shut e || same_edge k e)) where
    made_stuck : made ≡ stepped b.graph b.table (step.Stuck k why seen) m
    made_stuck = ap (λ x. stepped b.graph b.table x m) is

    stuck_regions : made.parted.regions ≡ m.parted.regions
    stuck_regions = ap (λ (n : Model). n.parted.regions) made_stuck

    or_left_false : (x y : Bool) → (x || y) ≡ false → x ≡ false
    or_left_false true y h = absurd (clash h)
    or_left_false false y h = refl

    pub far_stuck : AreAtLeast (length s.partition.regions) s.partition.edges shut d.target d.reach.far.items d.reach.way.items
    far_stuck = far_of stuck_regions shut (λ e o. (
      b.was.shows.partition.live e ∙ sym (live_is (stepped b.graph b.table (step.Stuck k why seen) m) made_stuck e) ∙ o.0,
      or_left_false (is_live d.shut e) (same_edge k e) (sym (more e) ∙ o.1),
    ))

    swapped : (x y z : Bool) → ((x || z) || y) ≡ ((x || y) || z)
    swapped true y z = refl
    swapped false true true = refl
    swapped false true false = refl
    swapped false false true = refl
    swapped false false false = refl

    pub stuck_followed : (new : Distances) → new.target ≡ d.target → new.shut ≡ shut → new.marked.items ≡ d.marked.items →
        new.noted ≡ d.noted → AreOf s.partition new → IsFollowed s new
    stuck_followed new t sh ms same far = record {
      shut = λ e.
          ap (λ l. is_live l e) sh ∙ more e ∙ ap (λ x. x || same_edge k e) (b.followed.shut e)
          ∙ swapped (is_stuck b.before.steps e) (same_edge k e) (is_awaited b.before.asked e)
          ∙ sym (shuts e (same_edge k e) (ap (gives_up e) is));
      many = ap length ms ∙ b.followed.many ∙ sym (count stuck_regions);
      marked = λ r. ap (λ bits. is_at bits r) ms ∙ same_marked stuck_regions (ap (λ (n : Model). n.marks) made_stuck) r;
      target = subst (λ x. x < length s.partition.regions) (sym t) (target_in stuck_regions);
      far = far;
      noted = noted_of stuck_regions new.noted.items (λ r e at. subst (λ v. slice_get v.items r ≡ Some (Some e)) same at)
          (λ r e at from live. ap (λ (n : Model). n.parted.live e) made_stuck ∙ live);
    }

  -- A region is marked
  module _ (k : RegionEdge) (trail : ℕ) (point : List (ℕ × Rattle.std.proofs.Common.ℤ)) (regions : made.parted.regions ≡ m.parted.regions)
      (live : (e : RegionEdge) → made.parted.live e ≡ m.parted.live e)
      (marks : made.marks ≡ m.marks ++ record { trail = trail; region = k.to; point = point } ∷ [])
      (free : (e : RegionEdge) → gives_up e b.step ≡ false) where
    new_marks : s.marks ≡ b.before.marks ++ record { trail = trail; region = k.to; point = point } ∷ []
    new_marks = sym b.is.shows.marks ∙ marks
        ∙ ap (λ ks. ks ++ record { trail = trail; region = k.to; point = point } ∷ []) b.was.shows.marks

    last_mark : slice_get s.marks (length b.before.marks) ≡ Some (record { trail = trail; region = k.to; point = point })
    last_mark = ap (λ ks. slice_get ks (length b.before.marks)) new_marks ∙ at b.before.marks where
      at : (ys : List Mark) → slice_get (ys ++ record { trail = trail; region = k.to; point = point } ∷ []) (length ys)
          ≡ Some (record { trail = trail; region = k.to; point = point })
      at [] = refl
      at (y ∷ ys) = at ys

    pub mark_within : k.to < length d.marked.items
    mark_within = subst (λ n. k.to < n) (sym (b.followed.many ∙ sym (count regions)))
        (all_within b.graphs b.table b.graph s made b.is (length b.before.marks) (record { trail = trail; region = k.to; point = point })
        last_mark)

    pub marked_more : (r : ℕ) → is_at (slice_set d.marked.items k.to true) r ≡ is_marked s.marks r
    marked_more r =
        by (k.to == r) refl ∙ sym (ap (λ ks. is_marked ks r) new_marks
        ∙ list_any-append (λ (x : Mark). x.region == r) b.before.marks (record { trail = trail; region = k.to; point = point } ∷ [])
        ∙ ap (λ t. is_marked b.before.marks r || t) (or-false (k.to == r)))
      where
        or_true : (x : Bool) → true ≡ (x || true)
        or_true true = refl
        or_true false = refl

        by : (c : Bool) → (k.to == r) ≡ c → is_at (slice_set d.marked.items k.to true) r ≡ (is_marked b.before.marks r || (k.to == r))
        by true e =
            subst (λ n. is_at (slice_set d.marked.items k.to true) n ≡ true) (eqb-true k.to r e)
            (get_or-set_same d.marked.items k.to true false mark_within)
            ∙ or_true (is_marked b.before.marks r) ∙ ap (λ t. is_marked b.before.marks r || t) (sym e)
        by false e =
            get_or-set_other d.marked.items k.to r true false (λ z. eqb-false k.to r e (sym z)) ∙ b.followed.marked r
            ∙ sym (ap (λ t. is_marked b.before.marks r || t) e ∙ or-false (is_marked b.before.marks r))

    pub mark_followed : (new : Distances) → new.target ≡ d.target → new.shut ≡ d.shut → new.reach ≡ d.reach →
        new.marked.items ≡ slice_set d.marked.items k.to true → new.noted ≡ d.noted → IsFollowed s new
    mark_followed new t sh re ms same = record {
      shut = λ e. ap (λ l. is_live l e) sh ∙ same_shut e (free e);
      many = ap length ms ∙ length-set d.marked.items k.to true ∙ b.followed.many ∙ sym (count regions);
      marked = λ r. ap (λ bits. is_at bits r) ms ∙ marked_more r;
      target = subst (λ x. x < length s.partition.regions) (sym t) (target_in regions);
      far = moved new t sh re (far_of regions d.shut (λ e o. (
        b.was.shows.partition.live e ∙ sym (live e) ∙ sym (b.is.shows.partition.live e) ∙ o.0,
        o.1,
      )));
      noted = noted_of regions new.noted.items (λ r e at. subst (λ v. slice_get v.items r ≡ Some (Some e)) same at)
          (λ r e at from l. live e ∙ l);
    } where
      moved : (new : Distances) → new.target ≡ d.target → new.shut ≡ d.shut → new.reach ≡ d.reach → AreOf s.partition d →
          AreOf s.partition new
      moved new t sh re far =
          subst (λ r. AreAtLeast (length s.partition.regions) s.partition.edges new.shut new.target r.far.items r.way.items) (sym re)
          (subst (λ x. AreAtLeast (length s.partition.regions) s.partition.edges new.shut x d.reach.far.items d.reach.way.items) (sym t)
          (subst (λ x. AreAtLeast (length s.partition.regions) s.partition.edges x d.target d.reach.far.items d.reach.way.items) (sym sh)
          far))

  -- A split
  module _ (k : RegionEdge) (atoms : List Atom) (parted : made.parted ≡ split_edge k atoms m.parted)
      (free : (e : RegionEdge) → gives_up e b.step ≡ false) where
    pub split_from : IsSplitFrom k.from s d
    split_from = record {
      shut = λ e. same_shut e (free e);
      target = omega (arith, b.followed.target, longer);
      marks = all_within b.graphs b.table b.graph s made b.is;
      old = b.before.partition;
      far = b.followed.far;
      noted = b.followed.noted;
      more = longer;
      live = λ e l. subst (λ n. IsTrue (is_live b.before.partition.edges (parents n k.from e))) (sym counts)
          (b.was.shows.partition.live (parents (length m.parted.regions) k.from e) ∙ parent_live e l);
      stays = stays;
    } where
      counts : length b.before.partition.regions ≡ length m.parted.regions
      counts = ap length b.was.shows.partition.regions

      grows : (rs : List Region) (o : Option Region) → length rs ≤ length (split_region rs k.from atoms o)
      grows rs None = omega arith
      grows rs (Some r) = omega (
        arith,
        length-append (slice_set rs k.from (Rattle.may_partition.specs.Parted.region r.node (r.cube.atoms ++ atoms)))
            (pieces r.node r.cube.atoms atoms),
        length-set rs k.from (Rattle.may_partition.specs.Parted.region r.node (r.cube.atoms ++ atoms)),
      )

      longer : length b.before.partition.regions ≤ length s.partition.regions
      longer =
          let e : length s.partition.regions ≡ length (split_regions m.parted.regions k.from atoms) =
          ap length b.is.shows.partition.regions ∙ ap (λ (p : Parted). length p.regions) parted in
          omega (arith, e, counts, grows m.parted.regions (slice_get m.parted.regions k.from))

      parent_live : (e : RegionEdge) → IsTrue (is_live s.partition.edges e) →
          IsTrue (m.parted.live (parents (length m.parted.regions) k.from e))
      parent_live e l =
          let t : IsTrue ((split_edge k atoms m.parted).live e) =
          sym (b.is.shows.partition.live e ∙ ap (λ (p : Parted). p.live e) parted) ∙ l in
          let u = both (has_regions (length (split_regions m.parted.regions k.from atoms)) e)
          (m.parted.live (parents (length m.parted.regions) k.from e) && not (is_cut (length m.parted.regions) k e)) t in
          (both (m.parted.live (parents (length m.parted.regions) k.from e)) (not (is_cut (length m.parted.regions) k e)) u.1).0

      old_parents : (n : ℕ) (e : RegionEdge) → e.from < n → e.to < n → parents n k.from e ≡ e
      old_parents n e from to = rw (lt-ltb e.from n from, lt-ltb e.to n to) refl

      not_cut : (n : ℕ) (e : RegionEdge) → e.from < n → IsTrue (not (is_cut n k e))
      not_cut n e from = rw (lt-leb n e.from from) refl

      stays : (e : RegionEdge) → e.from < length b.before.partition.regions → e.to < length b.before.partition.regions →
          IsTrue (is_live b.before.partition.edges e) → IsTrue (is_live s.partition.edges e)
      stays e from to l =
          let n = length m.parted.regions in let grown = length (split_regions m.parted.regions k.from atoms) in
          let more : length s.partition.regions ≡ grown =
          ap length b.is.shows.partition.regions ∙ ap (λ (p : Parted). length p.regions) parted in
          let same : parents n k.from e ≡ e = old_parents n e (omega (arith, from, counts)) (omega (arith, to, counts)) in
          b.is.shows.partition.live e ∙ ap (λ (p : Parted). p.live e) parted
          ∙ both_in (has_regions grown e) (m.parted.live (parents n k.from e) && not (is_cut n k e))
          (both_in (nat_lt e.from grown) (nat_lt e.to grown) (lt-ltb e.from grown (omega (arith, from, longer, more)))
          (lt-ltb e.to grown (omega (arith, to, longer, more))))
          (both_in (m.parted.live (parents n k.from e)) (not (is_cut n k e))
          (subst (λ (x : RegionEdge). IsTrue (m.parted.live x)) (sym same) (sym (b.was.shows.partition.live e) ∙ l))
          (not_cut n e (omega (arith, from, counts))))
