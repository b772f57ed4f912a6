-- The walk along the stored steps of a query, with the moves that were made so far.
use Rattle.std.proofs.Common.{◌≡◌, ℕ, zero, suc, ◌+◌, ◌≤◌, List, [], ◌∷◌, ◌++◌, length, map, take, Option, Some, None, Bool, arith, refl, sym, subst, ap, ◌∙◌}
use Rattle.std.specs.Prelude.{slice_get}
use Rattle.std.specs.Option.{option_map}
use Rattle.std.proofs.lemmas.List.{take_all}
use Rattle.std.proofs.lemmas.Option.{same_Some, slice_get-map, slice_get_within}
use Rattle.infeasible_cert.specs.declared.certificate.Certificate.{Certificate}
use Rattle.flow_graph.specs.Linked.{AreGraphs}
use Rattle.flow_graph.specs.declared.graph.Graph.{Graph}
use Rattle.summary_form.specs.declared.query.Query.{Query}
use Rattle.summary_form.specs.declared.summary.Summary.{Summary}
use Rattle.summary_form.specs.Instances.{arity_of}
use Rattle.summary_form.specs.NotMays.{Fits}
use Rattle.may_partition.specs.declared.region.RegionEdge.{RegionEdge}
use Rattle.may_partition.specs.Parted.{Parted, begin_parted}
use Rattle.may_partition.specs.Shown.{Shown, Shows}
use Rattle.may_partition.proofs.Pieces.{get_right}
use Rattle.query_rules.specs.Laws.{IsGrounded}
use Rattle.query_rules.specs.Paths.{HasNoPath}
use Rattle.query_rules.specs.Rows.{levels_known}
use Rattle.query_rules.specs.Seen.{Seen}
use Rattle.query_rules.specs.States.{AllHold, Happening, after, after_all, heard, made}
use Rattle.query_rules.specs.Steps.{Model, stepped, updated, with_child}
use Rattle.query_rules.specs.declared.step.Asked.{Asked}
use Rattle.query_rules.specs.declared.step.Closing.TheVariants as closing
use Rattle.query_rules.specs.declared.step.News.TheVariants as news
use Rattle.query_rules.specs.declared.step.Step.{Step}
use Rattle.query_rules.specs.declared.step.Step.TheVariants as step
use Rattle.bolt_core.specs.Boards as boards
use Rattle.bolt_core.specs.Groups.{Node}
use Rattle.bolt_core.specs.Verdicts.{IsClosedIn}
use Rattle.bolt_core.proofs.Leading.{closed_grounded}
use Rattle.proof_bundle.specs.Claims.{PureClaim, PureMove}
use Rattle.bundle_check.specs.RightClaims.{IsRightClaim, moved_all}
use Rattle.bundle_check.specs.Walked.{Gives, Makes}
use Rattle.bundle_check.proofs.InOrder.{moved_append}
use Rattle.bundle_check.proofs.Naming.{all_extend, child_kills}
use Rattle.bundle_check.proofs.Walking.{Walk, entries_after, walk_begins, walk_ends, walk_gives, walk_longer, walk_next}
use Rattle.bundle_make.specs.Bundling.{IsClaimOf, MakesAll, asked_after}
use Rattle.bundle_make.specs.steps.Killing.{is_killed}
use Rattle.bundle_make.specs.steps.Listing.{AreAskedBy}
use Rattle.bundle_make.specs.steps.Making.{Does, HasEntry, IsMaker, IsShown, StepMade}
use Rattle.bundle_make.proofs.Appending.{asked_all, asked_append, asked_few, makes_append, same_entries, take_next}
use Rattle.bundle_make.proofs.Killers.{same_kills}

-- Claims of the listed queries

abbrev query_in : Option Node → Query
query_in None = boards.root_query 0 0
query_in (Some n) = n.query

pub some_claims : (ns : List Node) (ids : List ℕ) → (claims : List Query) × AreAskedBy ns ids claims
some_claims ns ids = (
  map (λ i. query_in (slice_get ns i)) ids,
  λ n i node at there. slice_get-map (λ x. query_in (slice_get ns x)) ids n ∙ (ap (option_map (λ x. query_in (slice_get ns x))) at
      ∙ ap (λ o. Some (query_in o)) there),
)

-- An asked entry is of its step's query

module _ (gs : List Graph) (g : Graph) (table : List Summary) (last : Model) where
  steps_after : (t : List Summary) (m : Model) (s : Step) → (stepped g t s m).steps ≡ m.steps ++ s ∷ []
  steps_after t m (step.Extend k trail point) = refl
  steps_after t m (step.Split k atoms follows proofs) = refl
  steps_after t m (step.Kill k by) = refl
  steps_after t m (step.CallExtend k trail place point) = refl
  steps_after t m (step.CallSplit k place atoms follows proofs) = refl
  steps_after t m (step.CallPart k by atom atoms follows proofs) = refl
  steps_after t m (step.Ask k q follows seen) = refl
  steps_after t m (step.Feed i) = refl
  steps_after t m (step.Stuck k why seen) = refl

  length_updated : (f : Asked → Asked) (xs : List Asked) (i : ℕ) → length (updated f xs i) ≡ length xs
  length_updated f [] i = refl
  length_updated f (x ∷ xs) zero = refl
  length_updated f (x ∷ xs) (suc i) = ap suc (length_updated f xs i)

  stored_at : (t : Step) (n : ℕ) (es : List Happening) (m : Model) → after_all gs g table (made t n ∷ es) m ≡ last →
      slice_get last.steps (length m.steps + 0) ≡ Some t
  stored_at t n es m e =
      let x = all_extend gs g table es (after gs g table (made t n) m) in
      subst (λ (z : Model). slice_get z.steps (length m.steps + 0) ≡ Some t) e
      (x.steps (length m.steps + 0) t (subst (λ xs. slice_get xs (length m.steps + 0) ≡ Some t) (sym (steps_after (take n table) m t))
      (get_right m.steps 0 (t ∷ []) t refl)))

  abbrev Asks : ℕ → Query → Type 0
  Asks entry q = (x : Asked) × (slice_get last.asked entry ≡ Some x) × (x.query ≡ q)

  asked_here : (k : RegionEdge) (q : Query) (follows : List Certificate) (seen n : ℕ) (es : List Happening) (m : Model)
      (entry : ℕ) → after_all gs g table (made (step.Ask k q follows seen) n ∷ es) m ≡ last → length m.asked ≡ entry → Asks entry q
  asked_here k q follows seen n es m entry e many =
      let next : Model = after gs g table (made (step.Ask k q follows seen) n) m in
      let new : Asked = record { edge = k; query = q; child = 0; news = news.Waiting } in
      let place : length m.asked + 0 ≡ entry = omega (arith, many) in
      let here : slice_get (m.asked ++ new ∷ []) entry ≡ Some new = subst (λ i. slice_get (m.asked ++ new ∷ []) i ≡ Some new) place
      (get_right m.asked 0 (new ∷ []) new refl) in
      let x = (all_extend gs g table es next).asked entry new here in
      (x.0, ap (λ (z : Model). slice_get z.asked entry) (sym e) ∙ x.1, x.2)

  pub asks_in : (rest : List Happening) (m : Model) (j entry : ℕ) (k : RegionEdge) (q : Query) (follows : List Certificate) (seen : ℕ) →
      after_all gs g table rest m ≡ last → length m.steps ≡ j → length m.asked ≡ entry →
      slice_get last.steps j ≡ Some (step.Ask k q follows seen) → Asks entry q
  asks_in [] m j entry k q follows seen ends steps many at =
      absurd (omega (arith, slice_get_within last.steps j (step.Ask k q follows seen) at, steps, ap (λ (x : Model). length x.steps) ends))
  asks_in (made t n ∷ es) m j entry k q follows seen ends steps many at =
      let place : length m.steps + 0 ≡ j = omega (arith, steps) in
      let same : t ≡ step.Ask k q follows seen = same_Some t (step.Ask k q follows seen) (sym (stored_at t n es m ends)
      ∙ (ap (λ i. slice_get last.steps i) place ∙ at)) in
      asked_here k q follows seen n es m entry (subst (λ x. after_all gs g table (made x n ∷ es) m ≡ last) same ends) many
  asks_in (heard i number known ∷ es) m j entry k q follows seen ends steps many at =
      asks_in es (after gs g table (heard i number known) m) j entry k q follows seen ends steps
      (length_updated (with_child number known) m.asked i ∙ many) at

-- The model of a maker's state

pub record Ending (b : boards.Shown) (s : Seen) (g : Graph) (killed : List Bool) : Type 0 where
  pub linked : AreGraphs b.graphs
  pub holds : AllHold b.graphs b.core.table
  pub last : Model
  pub steps : last.steps ≡ s.steps
  pub asked : last.asked ≡ s.asked
  pub levels : levels_known last ≡ s.ancestors ++ s.query ∷ []
  pub kills : is_killed killed ≡ child_kills last.steps
  pub none : HasNoPath g s.query last.parted

-- before stored step j, with `entry` asked entries, the moves that were made, and what they led to
pub record Going (b : boards.Shown) (ids : List ℕ) (s : Seen) (g : Graph) (killed : List Bool) (j entry : ℕ) (done : List PureMove)
    (shown : Shown) : Type 0 where
  pub ending : Ending b s g killed
  pub entry_is : entry ≡ asked_all (take j s.steps) 0
  pub few : entry ≤ j
  pub shows : Shows shown (moved_all done (begin_parted g s.query))
  pub walks : (claims : List Query) → AreAskedBy b.core.nodes ids claims →
      Walk b.graphs ending.linked g b.core.table ending.holds s.query ending.last claims j entry
      (moved_all done (begin_parted g s.query)) done
  pub makes : (claims : List Query) → AreAskedBy b.core.nodes ids claims →
      MakesAll g s.query.exit b.core.table (s.ancestors ++ s.query ∷ []) claims (is_killed killed) (take j s.steps) 0
      (begin_parted g s.query) done

module _ (b : boards.Shown) (ids : List ℕ) (s : Seen) (g : Graph) (killed : List Bool) (j entry : ℕ) (done : List PureMove) (shown : Shown)
    (h : Going b ids s g killed j entry done shown) (t : Step) (at : slice_get s.steps j ≡ Some t) where
  abbrev e : Ending b s g killed
  e = h.ending

  abbrev begin : Parted
  begin = begin_parted g s.query

  there : slice_get e.last.steps j ≡ Some t
  there = ap (λ xs. slice_get xs j) e.steps ∙ at

  pub going_gives : IsShown shown (λ p. Gives g s.query.exit p t)
  going_gives =
      let w = some_claims b.core.nodes ids in (
        moved_all done begin,
        h.shows,
        walk_gives b.graphs e.linked g b.core.table e.holds s.query e.last w.0 j entry (moved_all done begin) done t (h.walks w.0 w.1)
            there,
      )

  pub going_entry : HasEntry s.asked t entry
  going_entry = by_step t there where
    by_step : (x : Step) → slice_get e.last.steps j ≡ Some x → HasEntry s.asked x entry
    by_step (step.Extend k trail point) a = tt
    by_step (step.Split k atoms follows proofs) a = tt
    by_step (step.Kill k by) a = tt
    by_step (step.CallExtend k trail place point) a = tt
    by_step (step.CallSplit k place atoms follows proofs) a = tt
    by_step (step.CallPart k by atom atoms follows proofs) a = tt
    by_step (step.Ask k q follows seen) a =
        let claims = some_claims b.core.nodes ids in
        let w = h.walks claims.0 claims.1 in
        let x = asks_in b.graphs g b.core.table e.last w.rest w.m j entry k q follows seen w.ends w.steps w.entries a in
        (x.0, ap (λ xs. slice_get xs entry) (sym e.asked) ∙ x.1, x.2)
    by_step (step.Feed i) a = tt
    by_step (step.Stuck k why seen) a = tt

  module _ (new : Shown) (one : List PureMove) (d : Does shown new (StepMade b ids s g killed t entry) one) where
    walked : (claims : List Query) → AreAskedBy b.core.nodes ids claims →
        Walk b.graphs e.linked g b.core.table e.holds s.query e.last claims (j + 1) (asked_after t entry) (moved_all (done ++ one) begin)
        (done ++ one)
    walked claims asked =
        let p : Parted = moved_all done begin in
        let levels = s.ancestors ++ s.query ∷ [] in
        let made : Makes g s.query.exit p b.core.table levels claims (is_killed killed) t entry one = d.makes p h.shows claims asked in
        let by_levels : Makes g s.query.exit p b.core.table (levels_known e.last) claims (is_killed killed) t entry one =
        subst (λ qs. Makes g s.query.exit p b.core.table qs claims (is_killed killed) t entry one) (sym e.levels) made in
        let by_kills : Makes g s.query.exit p b.core.table (levels_known e.last) claims (child_kills e.last.steps) t entry one =
        subst (λ f. Makes g s.query.exit p b.core.table (levels_known e.last) claims f t entry one) e.kills by_levels in
        let w = walk_next b.graphs e.linked g b.core.table e.holds s.query e.last claims j entry p done t (h.walks claims asked) there one
        by_kills in
        subst (λ n. Walk b.graphs e.linked g b.core.table e.holds s.query e.last claims (j + 1) n (moved_all (done ++ one) begin)
        (done ++ one)) (same_entries t entry)
        (subst (λ x. Walk b.graphs e.linked g b.core.table e.holds s.query e.last claims (j + 1) (entries_after t entry) x (done ++ one))
        (sym (moved_append done one begin)) w)

    made_all : (claims : List Query) → AreAskedBy b.core.nodes ids claims →
        MakesAll g s.query.exit b.core.table (s.ancestors ++ s.query ∷ []) claims (is_killed killed) (take (j + 1) s.steps) 0 begin
        (done ++ one)
    made_all claims asked =
        let p : Parted = moved_all done begin in
        let levels = s.ancestors ++ s.query ∷ [] in
        let made : Makes g s.query.exit p b.core.table levels claims (is_killed killed) t entry one = d.makes p h.shows claims asked in
        let there = subst (λ n. Makes g s.query.exit p b.core.table levels claims (is_killed killed) t n one) h.entry_is made in
        subst (λ steps. MakesAll g s.query.exit b.core.table levels claims (is_killed killed) steps 0 begin (done ++ one))
        (sym (take_next s.steps j t at))
        (makes_append g s.query.exit b.core.table levels claims (is_killed killed) (take j s.steps) t 0 begin done one
        (h.makes claims asked) there)

    pub going_next : Going b ids s g killed (j + 1) (asked_after t entry) (done ++ one) new
    going_next = record {
      ending = e;
      entry_is = ap (asked_after t) h.entry_is ∙ (sym (asked_append (take j s.steps) t 0)
          ∙ ap (λ xs. asked_all xs 0) (sym (take_next s.steps j t at)));
      few = omega (arith, asked_few t entry, h.few);
      shows = subst (Shows new) (sym (moved_append done one begin)) (d.shows (moved_all done begin) h.shows);
      walks = walked;
      makes = made_all;
    }

module _ (b : boards.Shown) (ids : List ℕ) (numbers : List (Option ℕ)) (i : ℕ) (s : Seen) (g : Graph) (killed : List Bool)
    (m : IsMaker b ids numbers i s g killed) where
  abbrev c : IsClosedIn b i s closing.NotMay
  c = m.closed

  its_graph : c.state.graph ≡ g
  its_graph = same_Some c.state.graph g (sym c.state.at ∙ m.at)

  grounded : IsGrounded b.graphs g b.core.table s.query s.ancestors c.state.model
  grounded = subst (λ (x : Graph). IsGrounded b.graphs x b.core.table s.query s.ancestors c.state.model) its_graph
      (closed_grounded b m.board i s c).0

  kills : (j : ℕ) → is_killed killed j ≡ child_kills c.state.model.steps j
  kills j = same_kills s killed m.are_killed j ∙ ap (λ xs. child_kills xs j) (sym c.state.shows.steps)

  none_left : HasNoPath g s.query c.state.model.parted
  none_left = subst (λ (q : Query). HasNoPath g q c.state.model.parted) c.state.shows.query
      (subst (λ (x : Graph). HasNoPath x c.state.model.query c.state.model.parted) its_graph (closed_grounded b m.board i s c).1)

  abbrev ending : Ending b s g killed
  ending = record {
    linked = grounded.graphs;
    holds = grounded.table_holds;
    last = c.state.model;
    steps = c.state.shows.steps;
    asked = c.state.shows.asked;
    levels = λ x. c.state.shows.ancestors x ++ c.state.shows.query x ∷ [];
    kills = λ x j. kills j x;
    none = none_left;
  }

  pub going_begins : (shown : Shown) → Shows shown (begin_parted g s.query) → Going b ids s g killed 0 0 [] shown
  going_begins shown sh = record {
    ending = ending;
    entry_is = refl;
    few = omega arith;
    shows = sh;
    walks = λ claims asked.
        walk_longer b.graphs grounded.graphs g b.core.table grounded.table_holds s.query c.state.model [] claims 0 0
        (begin_parted g s.query)
        [] (walk_begins b.graphs g b.core.table s.query s.ancestors c.state.model grounded);
    makes = λ claims asked. refl;
  }

  module _ (j entry : ℕ) (done : List PureMove) (shown : Shown) (h : Going b ids s g killed j entry done shown)
      (all : j ≡ length s.steps) (claims : List Query) (asked : AreAskedBy b.core.nodes ids claims) where
    abbrev claim : PureClaim
    claim = record { query = s.query; moves = done }

    pub going_claims : IsClaimOf b claims i claim
    going_claims = record {
      state = s;
      closed = c;
      query = refl;
      graph = g;
      at = m.at;
      killed = is_killed killed;
      kills = m.are_killed.kills;
      all_kills = m.are_killed.all_kills;
      made = subst (λ steps. MakesAll g s.query.exit b.core.table (s.ancestors ++ s.query ∷ []) claims (is_killed killed) steps 0
          (begin_parted g s.query) done) (take_all j s.steps (omega (arith, all))) (h.makes claims asked);
    }

    pub going_right : IsRightClaim b.graphs claims claim
    going_right =
        let e = h.ending in
        let n : j ≡ length e.last.steps = all ∙ ap (λ xs. length xs) (sym e.steps) in
        let w = subst (λ x. Walk b.graphs e.linked g b.core.table e.holds s.query e.last claims x entry
        (moved_all done (begin_parted g s.query)) done) n (h.walks claims asked) in
        walk_ends b.graphs e.linked g b.core.table e.holds s.query e.last claims entry (moved_all done (begin_parted g s.query)) done w m.at
        (subst (λ o. Fits s.query.proc (arity_of o) s.query) m.at grounded.state.fits) e.none
