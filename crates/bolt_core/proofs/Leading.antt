-- Kills lead from anchored queries to anchored queries.
use Rattle.std.proofs.Common.{◌≡◌, ◌⊎◌, inl, inr, ⊎_elim, ℕ, zero, suc, ◌+◌, ◌-◌, ◌<◌, ◌≤◌, List, [], ◌∷◌, ◌++◌, length, take, drop, true, false, Option, Some, None, arith, refl, sym, subst, ap, ◌∙◌}
use Rattle.std.specs.Prelude.{slice_get, ◌==◌}
use Rattle.std.proofs.lemmas.Bool.{cases_lt, eqb-true, cond_both}
use Rattle.std.proofs.lemmas.List.{append_assoc, length-append, take-append-drop}
use Rattle.std.proofs.lemmas.Option.{none-some, same_Some, slice_get_within}
use Rattle.infeasible_cert.specs.declared.certificate.Certificate.{Certificate}
use Rattle.may_partition.specs.declared.region.RegionEdge.{RegionEdge}
use Rattle.may_partition.proofs.Pieces.{lookup_append, get_left}
use Rattle.query_rules.specs.Laws.{IsGrounded}
use Rattle.query_rules.specs.Paths.{HasNoPath}
use Rattle.query_rules.specs.Seen.{Seen}
use Rattle.query_rules.specs.declared.step.Asked.{Asked}
use Rattle.query_rules.specs.declared.step.Closing.TheVariants as closing
use Rattle.query_rules.specs.declared.step.Killer.{Killer}
use Rattle.query_rules.specs.declared.step.Killer.TheVariants as killer
use Rattle.query_rules.specs.declared.step.News.{News}
use Rattle.query_rules.specs.declared.step.Step.{Step}
use Rattle.query_rules.specs.declared.step.Step.TheVariants as step
use Rattle.summary_form.specs.declared.query.Query.{Query}
use Rattle.summary_form.specs.declared.summary.Summary.TheVariants.{NotMay}
use Rattle.bolt_core.specs.declared.slot.ClosedAs.{ClosedAs}
use Rattle.bolt_core.specs.declared.slot.ClosedAs.TheVariants as how
use Rattle.bolt_core.specs.Boards.{IsBoard, Shown, root_query}
use Rattle.bolt_core.specs.Groups.{Node, ancestors, discharged, line}
use Rattle.bolt_core.specs.Histories.{Told, asks_by, asks_of, closed_as, has_said}
use Rattle.bolt_core.specs.Keeps.{AreLevelled, IsPayload, Keeps, Placed}
use Rattle.bolt_core.specs.Machine.{IsNews, Matches, an_ask}
use Rattle.bolt_core.specs.States.{last_of, reads}
use Rattle.bolt_core.specs.Verdicts.{IsClosedIn, IsProvedIn}
use Rattle.bolt_core.proofs.BoardKeeps.{board_keeps}
use Rattle.bolt_core.proofs.Conditions.{table_holds}
use Rattle.bolt_core.proofs.Firsts.{IsFirst, board_first}
use Rattle.bolt_core.proofs.Limits.{closed_in, closing_of, not_may_is, same_told, shut_there}
use Rattle.bolt_core.proofs.Lines.{ancestors_line, line_step}
use Rattle.bolt_core.proofs.StatesLawful.{closed_state}
use Rattle.bolt_core.proofs.Telling.{all_at}
use Rattle.query_rules.specs.Killed.{Covers, IsKilledBy, KilledByChild, KilledByLevel}
use Rattle.query_rules.proofs.Killed.{kills_stay}
use Rattle.bolt_core.specs.Anchors.{IsAnchored, LeansFrom, below, lead}
use Rattle.bolt_core.specs.Leads.{IsAbove, IsClaimable, LeadsTo, own, up}
use Rattle.bolt_core.specs.Origins.{origins_of}
use Rattle.query_tree.proofs.Lists.{present}
use Rattle.bolt_core.proofs.Anchored.{board_origins}
use Rattle.bolt_core.proofs.ClosedAsks.{board_asks}

-- Anchored queries are closed

-- closed as a not-may
shut_of : (l : ℕ) (o : Option ClosedAs) → LeansFrom l o → (low : Option ℕ) × (o ≡ Some (how.NotMay low))
shut_of l None h = absurd h
shut_of l (Some (how.NotMay low)) h = (low, refl)
shut_of l (Some how.Must) h = absurd h
shut_of l (Some (how.Stuck kind)) h = absurd h

pub anchored_node : (ns : List Node) (l : ℕ) {i : ℕ} → IsAnchored ns l i → (n : Node) × (slice_get ns i ≡ Some n) × LeansFrom l n.closed
anchored_node ns l {i} (lead n at level leans) = (n, at, leans)
anchored_node ns l {i} (below n p at leans above a) = (n, at, leans)

module _ (b : Shown) (h : IsBoard b) where
  keeps : Keeps (reads b.graphs) b.asserts b.core
  keeps = board_keeps b h

  pub anchored_closed : (i l : ℕ) → IsAnchored b.core.nodes l i → (s : Seen) × IsClosedIn b i s closing.NotMay
  anchored_closed i l a =
      let n = anchored_node b.core.nodes l a in
      let shut = shut_of l n.0.closed n.2 in
      let told : closed_as b.core.history i ≡ Some (how.NotMay shut.0) = sym (keeps.agrees.closed i n.0 n.1) ∙ shut.1 in
      let w = shut_there b h i (how.NotMay shut.0) told in
      let z = closing_of b h i (how.NotMay shut.0) w in (
        z.state,
        closed_in b h i (how.NotMay shut.0) w z closing.NotMay
            (not_may_is (reads b.graphs) z.state.level z.state z.closing shut.0 (same_told b h i (how.NotMay shut.0) w z)),
      )

-- Levels

module _ (ns : List Node) (t : AreLevelled ns) where
  parent_level : (i : ℕ) (n : Node) (p : ℕ) → slice_get ns i ≡ Some n → n.parent ≡ Some p → (m : Node) × (slice_get ns p ≡ Some m)
      × (n.level ≡ suc m.level)
  parent_level i n p at above = let h = subst (λ o. Placed ns i o n.level) above (t.placed i n at) in (h.1, h.2, h.3)

  level_from : (l : ℕ) {i : ℕ} → IsAnchored ns l i → (n : Node) → slice_get ns i ≡ Some n → l ≤ n.level
  level_from l {i} (lead m at level leans) n there = omega (arith, level, ap (λ (x : Node). x.level) (same_Some m n (sym at ∙ there)))
  level_from l {i} (below m p at leans above a) n there =
      let w = parent_level i m p at above in
      omega (arith, level_from l a w.0 w.1, w.2, ap (λ (x : Node). x.level) (same_Some m n (sym at ∙ there)))

  -- the query at a level of an anchored one, not above its anchor
  pub record Climbed (l level i : ℕ) (q : Query) : Type 0 where
    pub number : ℕ
    pub above : IsAbove ns level i number
    pub node : Node
    pub at : slice_get ns number ≡ Some node
    pub asks : node.query ≡ q
    pub anchored : IsAnchored ns l number

  -- by the queries from the root down
  line_last : (i : ℕ) (n : Node) → slice_get ns i ≡ Some n → length (line ns i) ≡ suc n.level → (q : Query) →
      slice_get (line ns i) n.level ≡ Some q → n.query ≡ q
  line_last i n at many q there =
      let e : line ns i ≡ ancestors ns i n.parent ++ n.query ∷ [] = line_step ns t i n at in
      let few = length-append (ancestors ns i n.parent) (n.query ∷ []) in
      ⊎_elim (λ o. absurd (omega (arith, o.0, few, ap length e, many))) (λ w. last w.0 w.1 w.2 (omega (arith, few, ap length e, many)))
      (lookup_append (ancestors ns i n.parent) n.level (n.query ∷ []) q (subst (λ xs. slice_get xs n.level ≡ Some q) e there))
    where
      last : (k : ℕ) → n.level ≡ length (ancestors ns i n.parent) + k → slice_get (n.query ∷ []) k ≡ Some q →
          length (ancestors ns i n.parent) ≡ n.level → n.query ≡ q
      last zero f g z = same_Some n.query q g
      last (suc k) f g z = absurd (none-some q g)

  climb : (l level : ℕ) {i : ℕ} → IsAnchored ns l i → (n : Node) → slice_get ns i ≡ Some n → length (line ns i) ≡ suc n.level →
      l ≤ level → level ≤ n.level → (q : Query) → slice_get (line ns i) level ≡ Some q → Climbed l level i q
  climb l level {i} (lead m at is leans) n there many low high q found =
      let same = same_Some m n (sym at ∙ there) in
      let e : level ≡ n.level = omega (arith, low, high, is, ap (λ (x : Node). x.level) same) in
      record {
        number = i;
        above = own n there (sym e);
        node = n;
        at = there;
        asks = line_last i n there many q (subst (λ k. slice_get (line ns i) k ≡ Some q) e found);
        anchored = lead m at is leans;
      }
  climb l level {i} (below m p at leans above a) n there many low high q found =
      ⊎_elim (λ lt. higher lt (climb l level a)) (λ le. here (omega (arith, le, high))) (cases_lt level n.level)
    where
      here : level ≡ n.level → Climbed l level i q
      here e = record {
        number = i;
        above = own n there (sym e);
        node = n;
        at = there;
        asks = line_last i n there many q (subst (λ k. slice_get (line ns i) k ≡ Some q) e found);
        anchored = below m p at leans above a;
      }

      parent : n.parent ≡ Some p
      parent = subst (λ (x : Node). x.parent ≡ Some p) (same_Some m n (sym at ∙ there)) above

      higher : level < n.level → ((x : Node) → slice_get ns p ≡ Some x → length (line ns p) ≡ suc x.level → l ≤ level → level ≤ x.level →
          (r : Query) → slice_get (line ns p) level ≡ Some r → Climbed l level p r) → Climbed l level i q
      higher lt rest =
          let w = parent_level i n p there parent in
          let e : line ns i ≡ line ns p ++ n.query ∷ [] = line_step ns t i n there
          ∙ ap (λ qs. qs ++ n.query ∷ []) (ancestors_line ns t i n p there parent) in
          let few = length-append (line ns p) (n.query ∷ []) in
          let long : length (line ns p) ≡ suc w.0.level = omega (arith, few, ap length e, many, w.2) in
          let inside : slice_get (line ns p) level ≡ Some q = ⊎_elim (λ o. o.1) (λ x. absurd (omega (arith, x.1, long, w.2, lt)))
          (lookup_append (line ns p) level (n.query ∷ []) q (subst (λ xs. slice_get xs level ≡ Some q) e found)) in
          let c = rest w.0 w.1 long low (omega (arith, lt, w.2)) q inside in
          record {
            number = c.number;
            above = up n p there parent c.above;
            node = c.node;
            at = c.at;
            asks = c.asks;
            anchored = c.anchored;
          }

-- Leanings

child_leans : (l level : ℕ) (m low : Option ℕ) → l ≤ level → LeansFrom l (Some (how.NotMay (discharged level m))) → Covers m low →
    LeansFrom l (Some (how.NotMay low))
child_leans l level m None le h c = tt
child_leans l level None (Some j) le h c = absurd c
child_leans l level (Some k) (Some j) le h c =
    cond_both (k == level) None (Some k) (λ o. LeansFrom l (Some (how.NotMay o)) → l ≤ j) (λ e x. omega (arith, le, c, eqb-true k level e))
    (λ e x. omega (arith, x, c)) h

-- Asked entries

matched_at : (xs : List Asked) (cs : List (ℕ × Query)) (more a : ℕ) (e : Asked) → Matches xs cs more → a < length cs → slice_get xs a
    ≡ Some e →
    (x : ℕ × Query) × (slice_get cs a ≡ Some x) × (e.child ≡ x.0) × (e.query ≡ x.1)
matched_at [] [] more a e m lt at = absurd (none-some e at)
matched_at [] (c ∷ cs) more a e m lt at = absurd m
matched_at (x ∷ xs) [] more a e m lt at = absurd (omega (arith, lt))
matched_at (x ∷ xs) (c ∷ cs) more zero e m lt at =
    let same = same_Some x e at in
    (c, refl, ap (λ (y : Asked). y.child) (sym same) ∙ m.0, ap (λ (y : Asked). y.query) (sym same) ∙ m.1)
matched_at (x ∷ xs) (c ∷ cs) more (suc a) e m lt at = matched_at xs cs more a e m.2 (omega (arith, lt)) at

matched_many : (xs : List Asked) (cs : List (ℕ × Query)) (more : ℕ) → Matches xs cs more → length xs ≡ length cs + more
matched_many [] [] more m = omega (arith, m)
matched_many [] (c ∷ cs) more m = absurd m
matched_many (x ∷ xs) [] more m = omega (arith, m.0, ap length m.1)
matched_many (x ∷ xs) (c ∷ cs) more m = omega (arith, matched_many xs cs more m.2)

ends_ask : (steps : List Step) (q : Query) → last_of steps ≡ an_ask q → (before : List Step) × (k : RegionEdge) × (r : Query)
    × (follows : List Certificate) × (seen : ℕ)
    × (steps ≡ before ++ step.Ask k r follows seen ∷ [])
ends_ask [] q e = absurd cc
ends_ask (step.Ask k r follows seen ∷ []) q e = ([], k, r, follows, seen, refl)
ends_ask (step.Extend k trail point ∷ []) q e = absurd cc
ends_ask (step.Split k atoms follows proofs ∷ []) q e = absurd cc
ends_ask (step.Kill k by ∷ []) q e = absurd cc
ends_ask (step.CallExtend k trail place point ∷ []) q e = absurd cc
ends_ask (step.CallSplit k place atoms follows proofs ∷ []) q e = absurd cc
ends_ask (step.CallPart k by atom atoms follows proofs ∷ []) q e = absurd cc
ends_ask (step.Feed i ∷ []) q e = absurd cc
ends_ask (step.Stuck k why seen ∷ []) q e = absurd cc
ends_ask (s ∷ t ∷ steps) q e =
    let w = ends_ask (t ∷ steps) q e in
    (s ∷ w.0, w.1, w.2, w.3, w.4, ap (λ xs. s ∷ xs) w.5)

asks_append : (xs ys : List Told) (i : ℕ) → asks_of (xs ++ ys) i ≡ asks_of xs i ++ asks_of ys i
asks_append [] ys i = refl
asks_append (x ∷ xs) ys i = ap (λ zs. asks_by i x ++ zs) (asks_append xs ys i)
    ∙ sym (append_assoc (asks_by i x) (asks_of xs i) (asks_of ys i))

-- Kills

clash : true ≡ false → ⊥
clash e = cc

module _ (b : Shown) (h : IsBoard b) (none : (i : ℕ) → has_said b.core.history i ≡ false) (i l : ℕ) (a : IsAnchored b.core.nodes l i)
    (s : Seen)
    (c : IsClosedIn b i s closing.NotMay) where
  kept : Keeps (reads b.graphs) b.asserts b.core
  kept = board_keeps b h

  payload : IsPayload (reads b.graphs) b.core i c.node c.own.status s
  payload = kept.payloads.payloads i c.own c.node c.at c.node_at s c.payload

  leans : LeansFrom l (Some (how.NotMay (discharged c.node.level s.lowest)))
  leans =
      let n = anchored_node b.core.nodes l a in
      subst (LeansFrom l) (ap (λ (x : Node). x.closed) (same_Some n.0 c.node (sym n.1 ∙ c.node_at)) ∙ (kept.agrees.closed i c.node c.node_at
      ∙ c.told)) n.2

  deep : l ≤ c.node.level
  deep = level_from b.core.nodes kept.levelled l a c.node c.node_at

  line_is : line b.core.nodes i ≡ s.ancestors ++ s.query ∷ []
  line_is = line_step b.core.nodes kept.levelled i c.node c.node_at ∙ (λ x. sym payload.above x ++ sym c.query x ∷ [])

  long : length (line b.core.nodes i) ≡ suc c.node.level
  long = omega (arith, ap length line_is, length-append s.ancestors (s.query ∷ []), payload.level, c.state.shows.level)

  -- what the state's kill keeps
  covered : (low : Option ℕ) → Covers c.state.model.lowest low → LeansFrom l (Some (how.NotMay low))
  covered low h2 = child_leans l c.node.level s.lowest low deep leans (subst (λ o. Covers o low) c.state.shows.lowest h2)

  abbrev ByTable : ℕ → Type 0
  ByTable place =
      (place < length b.core.kept) ⊎ ((r : Query) × (slice_get b.core.table place ≡ Some (NotMay r)) × (x : ℕ)
      × (slice_get (origins_of b) (place - length b.core.kept) ≡ Some x) × IsClaimable b x r)

  by_table : (place : ℕ) (q : Query) → slice_get b.core.table place ≡ Some (NotMay q) → ByTable place
  by_table place q at = ⊎_elim (λ lt. inl lt) (λ le. inr (behind le)) (cases_lt place (length b.core.kept)) where
    behind : length b.core.kept ≤ place → (r : Query) × (slice_get b.core.table place ≡ Some (NotMay r)) × (x : ℕ)
        × (slice_get (origins_of b) (place - length b.core.kept) ≡ Some x) × IsClaimable b x r
    behind le =
        let o = board_origins b h in
        let n : ℕ = place - length b.core.kept in
        let whole : length b.core.kept + n ≡ place = omega (arith, le) in
        let x = present (origins_of b) n (omega (arith, o.count, slice_get_within b.core.table place (NotMay q) at, whole)) in
        let r = o.from n x.0 x.1 in
        let w = ⊎_elim (λ e. absurd (clash (sym e ∙ none x.0))) (λ e. e)
        (r.backed q (subst (λ k. slice_get b.core.table k ≡ Some (NotMay q)) (sym whole) at)) in
        (q, at, x.0, x.1, record { node = r.node; at = r.at; asks = w.0; level = w.1; anchored = w.2 })

  by_level : (level : ℕ) → KilledByLevel c.state.model level → (q : Query) × (slice_get (s.ancestors ++ s.query ∷ []) level ≡ Some q)
      × (x : ℕ)
      × IsAbove b.core.nodes level i x × IsClaimable b x q
  by_level level w =
      let levels : c.state.model.ancestors ++ c.state.model.query ∷ [] ≡ s.ancestors ++ s.query ∷ [] =
      (λ x. c.state.shows.ancestors x ++ c.state.shows.query x ∷ []) in
      let there : slice_get (s.ancestors ++ s.query ∷ []) level ≡ Some w.query = ap (λ qs. slice_get qs level) (sym levels) ∙ w.there in
      let found : slice_get (line b.core.nodes i) level ≡ Some w.query = ap (λ qs. slice_get qs level) line_is ∙ there in
      let high : level ≤ c.node.level = omega (arith, slice_get_within (line b.core.nodes i) level w.query found, long) in
      let r = climb b.core.nodes kept.levelled l level a c.node c.node_at long (covered (Some level) w.covered) high w.query found in (
        w.query,
        there,
        r.number,
        r.above,
        record { node = r.node; at = r.at; asks = r.asks; level = l; anchored = r.anchored },
      )

  by_child : (number : ℕ) → KilledByChild c.state.model number → (e : Asked) × (slice_get s.asked number ≡ Some e)
      × IsClaimable b e.child e.query
  by_child number w =
      let z = (board_asks b h).asks i c.own c.at c.closed in
      let state_is : z.state ≡ s = same_Some z.state s (sym z.is_payload ∙ c.payload) in
      let matches : Matches s.asked (asks_of (take z.place b.core.history) i) z.more = subst (λ (x : Seen). Matches x.asked
      (asks_of (take z.place b.core.history) i) z.more) state_is z.matches in
      let there : slice_get s.asked number ≡ Some w.entry = ap (λ xs. slice_get xs number) (sym c.state.shows.asked) ∙ w.there in
      let within = slice_get_within s.asked number w.entry there in
      let many = matched_many s.asked (asks_of (take z.place b.core.history) i) z.more matches in
      let few : number < length (asks_of (take z.place b.core.history) i) = ⊎_elim (λ e. omega (arith, within, many, e))
      (λ e.
      let f = ends_ask s.steps e.1 (ap (λ (x : Seen). last_of x.steps) (sym state_is) ∙ e.2) in
      let g = w.earlier f.0 f.1 f.2 f.3 f.4 (c.state.shows.steps ∙ f.5) in
      omega (arith, g, many, e.0, ap length c.state.shows.asked)) z.last in
      let r = matched_at s.asked (asks_of (take z.place b.core.history) i) z.more number w.entry matches few there in
      let whole : slice_get (asks_of b.core.history i) number ≡ Some r.0 = subst (λ (xs : List Told). slice_get (asks_of xs i) number
      ≡ Some r.0)
      (take-append-drop z.place b.core.history)
      (ap (λ xs. slice_get xs number) (asks_append (take z.place b.core.history) (drop z.place b.core.history) i)
      ∙ get_left (asks_of (take z.place b.core.history) i) number (asks_of (drop z.place b.core.history) i) r.0 r.1) in
      let n = all_at (λ (x : ℕ × Query). (n : Node) × (slice_get b.core.nodes x.0 ≡ Some n) × (n.parent ≡ Some i) × (n.query ≡ x.1))
      (asks_of b.core.history i) number r.0 (kept.agrees.asked i) whole in
      let told : IsNews w.entry.news (closed_as b.core.history w.entry.child) = all_at
      (λ (x : Asked). IsNews x.news (closed_as b.core.history x.child)) s.asked number w.entry payload.news there in
      let closed_is : closed_as b.core.history w.entry.child ≡ Some (how.NotMay w.low) = subst (λ (k : News). IsNews k
      (closed_as b.core.history w.entry.child)) w.is_news told in
      let at : slice_get b.core.nodes w.entry.child ≡ Some n.0 = subst (λ k. slice_get b.core.nodes k ≡ Some n.0) (sym r.2) n.1 in
      let shut : n.0.closed ≡ Some (how.NotMay w.low) = kept.agrees.closed w.entry.child n.0 at ∙ closed_is in (
        w.entry,
        there,
        record {
          node = n.0;
          at = at;
          asks = n.3 ∙ sym r.3;
          level = l;
          anchored = below n.0 i at (subst (LeansFrom l) (sym shut) (covered w.low w.covered)) n.2 a;
        },
      )

  leads_by : (by : Killer) → IsKilledBy b.core.table c.state.model by → LeadsTo b i s by
  leads_by (killer.Certificate x) w = tt
  leads_by (killer.Table place proof) w = by_table place w.0 w.1
  leads_by (killer.Child number) w = by_child number w
  leads_by (killer.Ancestor level proof) w = by_level level w

  pub kills_lead : (n : ℕ) (k : RegionEdge) (by : Killer) → slice_get s.steps n ≡ Some (step.Kill k by) → LeadsTo b i s by
  kills_lead n k by at = leads_by by (kills_stay b.graphs c.state.graph b.core.table s.query s.ancestors c.state.model c.state.state n k by
      (ap (λ xs. slice_get xs n) c.state.shows.steps ∙ at))

-- Roots

-- a root leans on nothing above
at_zero : (low : Option ℕ) → LeansFrom 0 (Some (how.NotMay low))
at_zero None = tt
at_zero (Some j) = omega arith

pub root_anchored : (b : Shown) → IsBoard b → (root : ℕ) → root < b.asserts → IsProvedIn b root → IsAnchored b.core.nodes 0 root
root_anchored b h root lt p =
    let keeps : Keeps (reads b.graphs) b.asserts b.core = board_keeps b h in
    let first : IsFirst b.budget (root_query b.main root) b.core root = board_first b h root lt in
    let c = p.closed in
    let closed : c.node.closed ≡ Some (how.NotMay (discharged c.node.level p.state.lowest)) =
    keeps.agrees.closed root c.node c.node_at ∙ c.told in
    let no_parent : c.node.parent ≡ None = ap (λ (n : Node). n.parent) (same_Some c.node first.node (sym c.node_at ∙ first.node_at))
    ∙ (sym (keeps.paired.parents root first.own first.node first.at first.node_at) ∙ first.parent) in
    let placed = subst (λ o. Placed b.core.nodes root o c.node.level) no_parent (keeps.levelled.placed root c.node c.node_at) in
    lead c.node c.node_at placed (subst (LeansFrom 0) (sym closed) (at_zero (discharged c.node.level p.state.lowest)))

-- States

pub closed_grounded : (b : Shown) → IsBoard b → (i : ℕ) (s : Seen) (c : IsClosedIn b i s closing.NotMay) →
    IsGrounded b.graphs c.state.graph b.core.table s.query s.ancestors c.state.model
    × HasNoPath c.state.graph c.state.model.query c.state.model.parted
closed_grounded b h i s c = (
  record {
    graphs = h.linked;
    table_holds = table_holds b.graphs b.core.table (board_keeps b h).holds;
    state = c.state.state;
  },
  closed_state b.graphs b.core.table s c.state closing.NotMay c.is_closed,
)
