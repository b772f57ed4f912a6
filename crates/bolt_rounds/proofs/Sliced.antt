-- A job whose slice was made is sound, and what the slice's end says of it.
use Rattle.std.proofs.Common.{◌≡◌, ℕ, suc, ◌-◌, ◌^◌, ◌<◌, ◌≤◌, List, [], ◌∷◌, ◌++◌, length, take, drop, true, Option, Some, None, refl, sym, ap, ◌∙◌, subst, arith}
use Rattle.std.specs.Prelude.{slice_get}
use Rattle.std.proofs.lemmas.List.{length-append, length_push}
use Rattle.std.proofs.lemmas.Option.{same_Some}
use Rattle.infeasible_cert.specs.declared.certificate.Certificate.{Certificate}
use Rattle.flow_graph.specs.declared.graph.Graph.{Graph}
use Rattle.query_tree.proofs.Lists.{within}
use Rattle.query_tree.proofs.Marks.{get_pushed}
use Rattle.summary_form.specs.declared.query.Query.{Query}
use Rattle.summary_form.specs.declared.summary.Summary.{Summary}
use Rattle.summary_form.specs.Instances.{arity_in}
use Rattle.summary_form.specs.NotMays.{Fits}
use Rattle.query_rules.specs.Laws.{IsGrounded}
use Rattle.query_rules.specs.Closings.{IsClosedAs, IsWaiting}
use Rattle.query_rules.specs.Legal.{IsLegal}
use Rattle.query_rules.specs.Seen.{Seen}
use Rattle.query_rules.specs.States.{IsStateOf}
use Rattle.query_rules.specs.Steps.{Model, stepped}
use Rattle.query_rules.specs.declared.step.Asked.{Asked}
use Rattle.query_rules.specs.declared.step.Closing.{Closing}
use Rattle.query_rules.specs.declared.step.Closing.TheVariants as closing
use Rattle.query_rules.specs.declared.step.Step.{Step}
use Rattle.query_rules.specs.declared.step.Step.TheVariants as step
use Rattle.query_rules.proofs.AskedQueries.{may_fit}
use Rattle.query_rules.proofs.Closing.{turn_live}
use Rattle.query_rules.proofs.Marked.{state_marked}
use Rattle.query_rules.proofs.MarkedPaths.{path_answers}
use Rattle.query_rules.proofs.Reaching.{state_good}
use Rattle.query_rules.proofs.Successors.{step_leads}
use Rattle.may_partition.specs.declared.region.RegionEdge.{RegionEdge}
use Rattle.punch_step.specs.Analysed.{IsAnalysed}
use Rattle.punch_step.specs.Sliced.{HasSliced}
use Rattle.punch_step.specs.Slices.{AllLegal, AsksLast, IsQuiet, last_step}
use Rattle.punch_step.specs.declared.slice.Sliced.{Sliced}
use Rattle.bolt_core.specs.declared.job.Job.{Job as Given}
use Rattle.bolt_core.specs.Boards.{IsBoard, IsSoundFor, MayBeClosed, Shown, job_of}
use Rattle.bolt_core.specs.Histories.{closed_as, asks_of, table_of}
use Rattle.bolt_core.specs.Machine.{AllOf, AsksNotLast, IsNews, Matches, MayCloseAs, asks_more}
use Rattle.bolt_core.specs.States.{IsStateFor, WaitsFor, last_as, last_of, reads, seen_in}
use Rattle.bolt_core.proofs.BoardKeeps.{board_keeps}
use Rattle.bolt_core.proofs.Conditions.{table_holds}
use Rattle.bolt_core.proofs.Going.{board_queries, most_small}
use Rattle.bolt_core.proofs.Lines.{level_within}
use Rattle.bolt_rounds.specs.Moves.{IsJustTaken}
use Rattle.bolt_rounds.specs.steps.Moving.{HasAskedLast}
use Rattle.bolt_rounds.proofs.Slicing.{all_asked, all_stored, asked_after, asks_at_last, fresh_entry, last_counts, last_from, last_made, matches_begun, matches_last, matches_none, news_after, no_steps, quiet_asked, seen_all, some_awaited, some_last, table_longer}

-- the query that the last of legal steps asked is of a graph, and fits it
module _ (gs : List Graph) (g : Graph) (table : List Summary) (own : Query) (above : List Query) where
  last_fits : (steps : List Step) (m : Model) → IsGrounded gs g table own above m → AllLegal g table steps m →
      (k : RegionEdge) (q : Query) (follows : List Certificate) (seen : ℕ) → last_step steps ≡ Some (step.Ask k q follows seen) →
      (callee : Graph) × (slice_get gs q.proc ≡ Some callee) × Fits q.proc (arity_in gs q.proc) q
  last_fits [] m s legal k q follows seen e = absurd (let no' : None ≡ Some (step.Ask k q follows seen) = e in cc)
  last_fits (t ∷ []) m s legal k q follows seen e =
      let l : IsLegal g table m (step.Ask k q follows seen) = subst (IsLegal g table m) (same_Some t (step.Ask k q follows seen) e) legal.0
      in
      may_fit gs s.graphs g m (state_good gs s.graphs g table s.table_holds own above m s.state) k (turn_live g m k l.0) table q follows
      seen l.1
  last_fits (t ∷ u ∷ steps) m s legal k q follows seen e =
      last_fits (u ∷ steps) (stepped g table t m)
      (record {
        graphs = s.graphs;
        table_holds = s.table_holds;
        state = step_leads gs g table own above m t s.state legal.0;
      })
      legal.1 k q follows seen e

-- A job that was just taken

-- the job's state is one that an analysis has led to
pub is_begun : (b : Shown) (j : Given) → IsBoard b → (t : IsJustTaken b j) →
    IsAnalysed b.graphs b.core.table t.sound.state.graph j.state t.sound.state.model
is_begun b j h t =
    let k = board_keeps b h in
    let s = t.sound.state in
    let gs = b.graphs in
    record {
      shows = s.shows;
      at = subst (λ (q : Query). slice_get gs q.proc ≡ Some s.graph) (sym s.shows.query) s.at;
      grounded = record {
        graphs = h.linked;
        table_holds = table_holds gs b.core.table k.holds;
        state = subst (λ (l : List Summary). IsStateOf gs s.graph l s.model.query s.model.ancestors s.model) k.named
            (subst (λ (q : Query). IsStateOf gs s.graph (b.core.kept ++ table_of b.core.history) q s.model.ancestors s.model)
            (sym s.shows.query)
            (subst (λ (qs : List Query). IsStateOf gs s.graph (b.core.kept ++ table_of b.core.history) j.state.query qs s.model)
            (sym s.shows.ancestors) s.state));
      };
    }

-- for the graphs and the table that the slice was given
module _ (b : Shown) (j : Given) (h : IsBoard b) (t : IsJustTaken b j) (gs : List Graph) (table : List Summary) (e : gs ≡ b.graphs)
    (f : table ≡ b.core.table) where
  pub begun_at : IsAnalysed gs table t.sound.state.graph j.state t.sound.state.model
  begun_at =
      let s = t.sound.state in
      subst (λ (x : List Graph). IsAnalysed x table s.graph j.state s.model) (sym e)
      (subst (λ (l : List Summary). IsAnalysed b.graphs l s.graph j.state s.model) (sym f) (is_begun b j h t))

  pub sliced_at : (most : ℕ) (s : Seen) (made : Sliced) →
      ((g : Graph) (m : Model) → IsAnalysed gs table g j.state m → HasSliced gs g table j.left most m s made) →
      HasSliced b.graphs t.sound.state.graph b.core.table j.left most t.sound.state.model s made
  sliced_at most s made k =
      let v = t.sound.state in
      subst (λ (x : List Graph). HasSliced x v.graph b.core.table j.left most v.model s made) e
      (subst (λ (l : List Summary). HasSliced gs v.graph l j.left most v.model s made) f (k v.graph v.model begun_at))

abbrev pub sliced_job : Given → Seen → Sliced → Given
sliced_job j s made = record { id = j.id; taken = j.taken; left = j.left; spent = made.steps; state = s }

module _ (b : Shown) (j : Given) (h : IsBoard b) (t : IsJustTaken b j) (most : ℕ) (s : Seen) (made : Sliced)
    (o : HasSliced b.graphs t.sound.state.graph b.core.table j.left most t.sound.state.model s made) where
  abbrev old : IsStateFor b.graphs (b.core.kept ++ table_of b.core.history) j.state
  old = t.sound.state

  steps_are : s.steps ≡ j.state.steps ++ o.sliced.steps
  steps_are =
      sym o.analysed.shows.steps
      ∙ (ap (λ (m : Model). m.steps) o.sliced.reached
      ∙ (all_stored old.graph b.core.table o.sliced.steps old.model ∙ ap (λ (xs : List Step). xs ++ o.sliced.steps) old.shows.steps))

  pub asked_are : s.asked ≡ asked_after (last_step o.sliced.steps) j.state.asked
  asked_are =
      sym o.analysed.shows.asked
      ∙ (ap (λ (m : Model). m.asked) o.sliced.reached
      ∙ (all_asked old.graph b.core.table o.sliced.steps old.model o.sliced.cut
      ∙ ap (asked_after (last_step o.sliced.steps)) old.shows.asked))

  query_same : s.query ≡ j.state.query
  query_same = sym o.analysed.shows.query ∙ (o.same_query ∙ old.shows.query)

  above_same : s.ancestors ≡ j.state.ancestors
  above_same = sym o.analysed.shows.ancestors ∙ (o.same_ancestors ∙ old.shows.ancestors)

  level_same : s.level ≡ j.state.level
  level_same = o.analysed.shows.level ∙ (ap (λ (qs : List Query). length qs) above_same ∙ sym old.shows.level)

  at_graph : slice_get b.graphs s.query.proc ≡ Some old.graph
  at_graph = subst (λ (q : Query). slice_get b.graphs q.proc ≡ Some old.graph) o.analysed.shows.query o.analysed.at

  state_now : IsStateFor b.graphs (b.core.kept ++ table_of b.core.history) s
  state_now = record {
    graph = old.graph;
    model = o.new;
    at = at_graph;
    shows = o.analysed.shows;
    state = subst (λ (l : List Summary). IsStateOf b.graphs old.graph l s.query s.ancestors o.new) (sym (board_keeps b h).named)
        (subst (λ (qs : List Query). IsStateOf b.graphs old.graph b.core.table s.query qs o.new) o.analysed.shows.ancestors
        (subst (λ (q : Query). IsStateOf b.graphs old.graph b.core.table q o.new.ancestors o.new) o.analysed.shows.query
        o.analysed.grounded.state));
  }

  pub last_is : (x : Step) → last_step o.sliced.steps ≡ Some x → last_of s.steps ≡ last_as x
  last_is x e = ap last_of steps_are ∙ last_from j.state.steps o.sliced.steps x e

  pub made_one : (x : Step) → last_step o.sliced.steps ≡ Some x → 1 ≤ made.steps
  made_one x e = omega (arith, last_counts o.sliced.steps x e, o.sliced.counted)

  abbrev asks : List (ℕ × Query)
  asks = asks_of (take j.taken b.core.history) j.id

  begun_matches : Matches j.state.asked asks 0
  begun_matches = matches_begun j.state.asked asks j.spent (last_of j.state.steps) t.none t.sound.entries

  matches_now : (l : Option Step) → last_step o.sliced.steps ≡ l → Matches (asked_after l j.state.asked) asks
      (asks_more made.steps (last_of s.steps))
  matches_now None e = matches_none j.state.asked asks made.steps (last_of s.steps) none begun_matches where
    none : made.steps ≡ 0
    none = sym o.sliced.counted ∙ no_steps o.sliced.steps e
  matches_now (Some x) e =
      subst (λ l. Matches (asked_after (Some x) j.state.asked) asks (asks_more made.steps l)) (sym (last_is x e))
      (matches_last x j.state.asked asks made.steps (made_one x e) begun_matches)

  pub sound_now : IsSoundFor b (sliced_job j s made)
  sound_now = record {
    worker = t.sound.worker;
    stored = t.sound.stored;
    waiting = t.sound.waiting;
    node = t.sound.node;
    take_at = t.sound.take_at;
    node_at = t.sound.node_at;
    state = state_now;
    query = query_same ∙ t.sound.query;
    level = level_same ∙ t.sound.level;
    above = above_same ∙ t.sound.above;
    made = omega (
      arith,
      ap (λ (xs : List Step). length xs) steps_are,
      length-append j.state.steps o.sliced.steps,
      o.sliced.counted,
      t.sound.made,
      t.none,
    );
    within = o.sliced.in_left;
    entries = subst (λ (xs : List Asked). Matches xs asks (asks_more made.steps (last_of s.steps))) (sym asked_are)
        (matches_now (last_step o.sliced.steps) refl);
    news = subst (AllOf (λ (a : Asked). IsNews a.news (closed_as (take j.taken b.core.history) a.child))) (sym asked_are)
        (news_after (closed_as (take j.taken b.core.history)) (last_step o.sliced.steps) j.state.asked t.sound.news);
    seen = subst (λ (xs : List Step). AllOf (λ n. length (b.core.kept ++ table_of (take j.taken b.core.history)) ≤ n)
        (seen_in (drop (length xs - made.steps) xs))) (sym steps_are)
        (subst (λ (xs : List Step). AllOf (λ n. length (b.core.kept ++ table_of (take j.taken b.core.history)) ≤ n) (seen_in xs))
        (sym (last_made j.state.steps o.sliced.steps made.steps o.sliced.counted))
        (seen_all (length (b.core.kept ++ table_of (take j.taken b.core.history))) (length b.core.table) o.sliced.steps
        (omega (
          arith,
          table_longer b.core.kept b.core.history j.taken,
          ap (λ (ss : List Summary). length ss) (board_keeps b h).named,
        )) o.sliced.seen));
  }

  -- What the ends say

  pub asks_not : IsQuiet old.graph o.new o.sliced.steps → AsksNotLast (reads b.graphs) (job_of (sliced_job j s made))
  asks_not quiet q le e =
      let l = some_last o.sliced.steps (omega (arith, le, o.sliced.counted)) in
      quiet.not_asked (asks_at_last l.0 o.sliced.steps q l.1 (sym (last_is l.0 l.1) ∙ e))

  pub waits_for : IsWaiting old.graph o.new → WaitsFor b.graphs s
  waits_for w = record { graph = old.graph; model = o.new; at = at_graph; shows = o.analysed.shows; waits = w }

  -- what is awaited was awaited at the take
  was_waiting : IsWaiting old.graph o.new → IsQuiet old.graph o.new o.sliced.steps → t.sound.waiting ≡ true
  was_waiting w quiet =
      let a = some_awaited old.graph o.new w in
      let same : o.new.asked ≡ j.state.asked =
      o.analysed.shows.asked
      ∙ (asked_are ∙ quiet_asked (last_step o.sliced.steps) j.state.asked (λ k q follows seen e. quiet.not_asked (k, q, follows, seen, e))
      quiet.not_fed) in
      t.waits a.0 a.1 (ap (λ (xs : List Asked). slice_get xs a.0) (sym same) ∙ a.2) a.3

  pub still_waiting : IsWaiting old.graph o.new → IsQuiet old.graph o.new o.sliced.steps → sound_now.waiting ≡ true
  unfolding sound_now
  still_waiting w quiet = was_waiting w quiet

  may_close_as : (c : Closing) → IsClosedAs old.graph o.new c → MayCloseAs (reads b.graphs) s.query c
  may_close_as closing.NotMay e = tt
  may_close_as (closing.Must p) e =
      let k = o.analysed.grounded in
      let a = path_answers b.graphs k.graphs old.graph o.new
      (state_marked b.graphs k.graphs old.graph b.core.table k.table_holds o.new.query o.new.ancestors o.new k.state) p e in
      subst (λ (q : Query). MayCloseAs (reads b.graphs) q (closing.Must p)) o.analysed.shows.query a
  may_close_as (closing.Stuck kind) e = tt

  pub may_be_closed : (c : Closing) → IsClosedAs old.graph o.new c → MayBeClosed b (sliced_job j s made) c
  may_be_closed c e = record {
    sound = sound_now;
    is_closed = record { graph = old.graph; model = o.new; at = at_graph; shows = o.analysed.shows; closed = e };
    may = may_close_as c e;
  }

  few_levels : suc s.level < 2 ^ 32
  few_levels =
      let k = board_keeps b h in
      omega (
        arith,
        level_same,
        t.sound.level,
        level_within b.core.nodes k.levelled j.id t.sound.node t.sound.node_at,
        within b.core.nodes j.id t.sound.node t.sound.node_at,
        k.paired.count,
        board_queries b h,
        most_small b h,
      )

  pub asked_now : (k : RegionEdge) (q : Query) (follows : List Certificate) (seen : ℕ) → last_step o.sliced.steps
      ≡ Some (step.Ask k q follows seen) →
      s.asked ≡ j.state.asked ++ fresh_entry k q ∷ []
  asked_now k q follows seen e = asked_are ∙ ap (λ (l : Option Step). asked_after l j.state.asked) e

  pub last_entry : (k : RegionEdge) (q : Query) (follows : List Certificate) (seen : ℕ) → last_step o.sliced.steps
      ≡ Some (step.Ask k q follows seen) →
      slice_get s.asked (length s.asked - 1) ≡ Some (fresh_entry k q)
  last_entry k q follows seen e =
      let a = asked_now k q follows seen e in
      let n : length s.asked - 1 ≡ length j.state.asked =
      let l = ap (λ (xs : List Asked). length xs) a in omega (arith, l, length_push j.state.asked (fresh_entry k q)) in
      ap (slice_get s.asked) n
      ∙ (ap (λ (xs : List Asked). slice_get xs (length j.state.asked)) a ∙ get_pushed j.state.asked (fresh_entry k q))

  pub asked_last : AsksLast o.sliced.steps → HasAskedLast b.graphs s
  asked_last a =
      let begun = is_begun b j h t in
      let f = last_fits b.graphs old.graph b.core.table old.model.query old.model.ancestors o.sliced.steps old.model begun.grounded
      o.sliced.legal a.0 a.1 a.2 a.3 a.4 in
      record {
        entry = fresh_entry a.0 a.1;
        there = last_entry a.0 a.1 a.2 a.3 a.4;
        callee = f.0;
        at = f.1;
        fits = f.2;
        level = o.analysed.shows.level;
        few = few_levels;
      }
