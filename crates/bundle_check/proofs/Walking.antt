-- A walk along the stored steps, with the moves that they make so far.
use Rattle.std.proofs.Common.{◌≡◌, ℕ, zero, suc, ◌+◌, ◌<◌, ◌≤◌, List, [], ◌∷◌, ◌++◌, length, take, Bool, true, false, Some, arith, refl, sym, subst, ap, ◌∙◌}
use Rattle.std.specs.Prelude.{slice_get, IsTrue}
use Rattle.std.proofs.lemmas.Option.{same_Some, slice_get_within}
use Rattle.std.proofs.lemmas.List.{length-append}
use Rattle.linear_formula.specs.declared.formula.Atom.{Atom}
use Rattle.infeasible_cert.specs.Refutation.{refutation_of}
use Rattle.infeasible_cert.specs.declared.certificate.Certificate.{Certificate}
use Rattle.flow_graph.specs.Calls.{call_edge}
use Rattle.flow_graph.specs.declared.graph.Graph.{Graph}
use Rattle.flow_graph.specs.Linked.{AreGraphs}
use Rattle.flow_graph.specs.Shapes.{is_call}
use Rattle.summary_form.specs.declared.query.Query.{Query}
use Rattle.summary_form.specs.Instances.{arity_of}
use Rattle.summary_form.specs.NotMays.{Fits}
use Rattle.summary_form.specs.declared.summary.Summary.{Summary}
use Rattle.summary_form.specs.declared.summary.Summary.TheVariants.{NotMay}
use Rattle.may_partition.specs.declared.region.RegionEdge.{RegionEdge}
use Rattle.may_partition.specs.Parted.{Parted, begin_parted, kill_edge}
use Rattle.may_partition.proofs.Pieces.{get_right}
use Rattle.query_rules.specs.Laws.{IsGrounded}
use Rattle.query_rules.specs.Paths.{HasNoPath}
use Rattle.query_rules.specs.Legal.{IsLegal, Kills, MayAsk}
use Rattle.query_rules.specs.Rows.{AsksAt, Follow, levels_known, rows_of_query}
use Rattle.query_rules.specs.Rows as rows
use Rattle.query_rules.specs.States.{AllHappen, AllHold, Happening, Happens, after, after_all, heard, made}
use Rattle.query_rules.specs.Steps.{Model, begin_model, stepped, updated, with_child, with_news}
use Rattle.query_rules.specs.declared.step.Asked.{Asked}
use Rattle.query_rules.specs.declared.step.Killer.{Killer}
use Rattle.query_rules.specs.declared.step.Killer.TheVariants as killer
use Rattle.query_rules.specs.declared.step.News.TheVariants as news
use Rattle.query_rules.specs.declared.step.Step.{Step}
use Rattle.query_rules.specs.declared.step.Step.TheVariants as step
use Rattle.query_rules.proofs.Closing.{turn_live}
use Rattle.query_rules.proofs.Reaching.{Good, begin_good, happening_good, take_get}
use Rattle.proof_bundle.specs.Claims.{PureMove, kill, kill_call}
use Rattle.bundle_check.specs.Made.{HasClaim}
use Rattle.bundle_check.specs.RightClaims as right
use Rattle.bundle_check.specs.RightClaims.{AllMove, IsRightClaim, Moves, asked_query, moved, moved_all}
use Rattle.bundle_check.specs.Walked.{Gives, GivesFor, HasEnds, Makes, MakesCall, MakesKill, kept}
use Rattle.bundle_check.proofs.Claiming.{asked_same}
use Rattle.bundle_check.proofs.Closed.{next_own, no_path, query_same}
use Rattle.bundle_check.proofs.Following.{Follows, ask_kill, asked_rows, asks, between, call_kill, follows_asked, follows_begin, follows_dead, follows_idle, follows_kill, follows_same, follows_updated, plain_live}
use Rattle.bundle_check.proofs.InOrder.{all_append, all_longer, moved_append}
use Rattle.bundle_check.proofs.Naming.{Extends, all_extend, child_kills, told_kill}
use Rattle.bundle_check.proofs.OwnRegions.{AreOwn, begin_own, call_names}
use Rattle.bundle_check.proofs.SplitMoves.{call_leads, one_each, split_leads}

clash : true ≡ false → ⊥
clash e = cc

length_updated : (f : Asked → Asked) (xs : List Asked) (i : ℕ) → length (updated f xs i) ≡ length xs
length_updated f [] i = refl
length_updated f (x ∷ xs) zero = refl
length_updated f (x ∷ xs) (suc i) = ap suc (length_updated f xs i)

-- there are no more certificates than atoms that follow
few_follow : (g : Graph) (source pre atoms : List Atom) (follows : List Certificate) → Follow g source pre atoms follows →
    length follows ≤ length atoms
few_follow g source pre atoms [] f = omega arith
few_follow g source pre atoms (c ∷ cs) f = omega (arith, one_each source pre atoms (c ∷ cs) f.1)

module _ (gs : List Graph) (linked : AreGraphs gs) (g : Graph) (table : List Summary) (holds : AllHold gs table) (claims : List Query)
    (last : Model) where
  abbrev killed : ℕ → Bool
  killed i = child_kills last.steps i

  -- One step

  module _ (m : Model) (good : Good gs linked g m) (own : AreOwn g m.parted.regions) (p : Parted) (h : Follows g killed m p) (n : ℕ)
      (extends : levels_known last ≡ levels_known m) where
    abbrev After : Step → List PureMove → Type 0
    After s one = AllMove g m.query.exit claims one p × Follows g killed (stepped g (take n table) s m) (moved_all one p)

    none_made : (s : Step) (one : List PureMove) → Follows g killed (stepped g (take n table) s m) p → one ≡ [] → After s one
    none_made s one f e = subst (After s) (sym e) (tt, f)

    one_made : (s : Step) (mv : PureMove) (one : List PureMove) → Moves g m.query.exit claims mv p →
        Follows g killed (stepped g (take n table) s m) (moved mv p) → one ≡ mv ∷ [] → After s one
    one_made s mv one w f e = subst (After s) (sym e) ((w, tt), f)

    called : {k : RegionEdge} (c : rows.CallAt g m k) → is_call c.between.edge ≡ true
    called c = ap is_call c.is_call

    call_made : (s : Step) (k : RegionEdge) (q t : Query) (proofs : List Certificate) → (a : AsksAt g m k q) → rows.Entails q t proofs →
        (stepped g (take n table) s m).parted ≡ kill_edge k m.parted → (stepped g (take n table) s m).asked ≡ m.asked →
        (one : List PureMove) →
        MakesCall g m.query.exit p table (levels_known last) claims killed t k proofs one → After s one
    call_made s k q t proofs a entails parted asked_is one w = by_test (p.live k) refl where
      by_test : (b : Bool) → p.live k ≡ b → After s one
      by_test false l = none_made s one (follows_dead g killed m (stepped g (take n table) s m) p k parted asked_is l a.call.between.edge
          a.call.between.at_edge (called a.call) h) (w.0 l)
      by_test true l =
          let z = w.1 l in
          let claim : HasClaim claims t = record { number = z.1; there = z.2 } in
          let c = call_kill g killed m p h claims k q t a proofs entails claim l in
          let same : rows_of_query q ≡ rows_of_query (asked_query z.0) = asked_rows g killed m p h a
          ∙ ap rows_of_query (asked_same g m.query.exit p k (asks g killed m p h a) z.0) in
          one_made s (kill_call k z.1 (kept (rows_of_query (asked_query z.0)) (rows_of_query t) proofs)) one
          (subst (λ rs. right.KillsCall g m.query.exit claims p k z.1 (kept rs (rows_of_query t) proofs)) same c.kills)
          (follows_kill g killed m (stepped g (take n table) s m) p k parted asked_is h) z.3

    kill_made : (k : RegionEdge) (by : Killer) → IsTrue (m.parted.live k) → Kills g (take n table) m k by → (i : ℕ) →
        slice_get last.steps i ≡ Some (step.Kill k by) → (one : List PureMove) →
        MakesKill g m.query.exit p table (levels_known last) claims killed by k one → After (step.Kill k by) one
    kill_made k (killer.Certificate c) live l i at one e =
        one_made (step.Kill k (killer.Certificate c)) (kill k (refutation_of c)) one (record {
          live = plain_live g killed m p h k l.at live;
          pre = record {
            between = between g killed m p h l.at.between;
            plain = l.at.plain;
            rows = l.pre;
            pair = l.is_pre.0;
            is_pre = l.is_pre.1;
          };
          refuted = record { right = l.refuted.right; atoms_terms = l.refuted.atoms_terms; terms = l.refuted.terms };
        }) (follows_kill g killed m (stepped g (take n table) (step.Kill k (killer.Certificate c)) m) p k refl refl h) e
    kill_made k (killer.Table place proofs) live l i at one w =
        call_made (step.Kill k (killer.Table place proofs)) k l.query l.summary proofs l.asks l.entails refl refl one
        (w l.summary (take_get n table place (NotMay l.summary) l.there))
    kill_made k (killer.Child j) live l i at one e =
        let d = h.dead j l.entry l.there (told_kill last.steps i k j at) in
        let a = good.keeps.asks j l.entry l.there in
        let dead : p.live k ≡ false = subst (λ x. p.live x ≡ false) l.same d.dead in
        let call : slice_get g.edges k.edge ≡ Some (call_edge a.from a.to a.site) = subst
        (λ (x : RegionEdge). slice_get g.edges x.edge ≡ Some (call_edge a.from a.to a.site)) l.same a.call in
        none_made (step.Kill k (killer.Child j)) one
        (follows_dead g killed m (stepped g (take n table) (step.Kill k (killer.Child j)) m) p k refl refl dead
        (call_edge a.from a.to a.site) call refl h) e
    kill_made k (killer.Ancestor level proofs) live l i at one w =
        call_made (step.Kill k (killer.Ancestor level proofs)) k l.query l.summary proofs l.asks l.entails refl refl one
        (w l.summary (ap (λ qs. slice_get qs level) extends ∙ l.there))

    abbrev new_entry : RegionEdge → Query → Asked
    new_entry k q = record { edge = k; query = q; child = 0; news = news.Waiting }

    ask_made : (k : RegionEdge) (q : Query) (follows : List Certificate) (seen : ℕ) (l : MayAsk g (take n table) m k q follows seen)
        (one : List PureMove) →
        Makes g m.query.exit p table (levels_known last) claims killed (step.Ask k q follows seen) (length m.asked) one →
        After (step.Ask k q follows seen) one
    ask_made k q follows seen l one w = by_test (killed (length m.asked)) (p.live k) refl refl where
      s : Step
      s = step.Ask k q follows seen

      c : rows.CallAt g m k
      c = l.asks.call

      b : right.Between g p k
      b = between g killed m p h c.between

      from : k.from < length p.regions
      from = slice_get_within p.regions k.from b.source b.at_source

      to : k.to < length p.regions
      to = slice_get_within p.regions k.to b.target b.at_target

      by_test : (t u : Bool) → killed (length m.asked) ≡ t → p.live k ≡ u → After s one
      by_test false u is live =
          none_made s one (follows_idle g killed m (stepped g (take n table) s m) p (new_entry k q) refl refl
          (λ e. absurd (clash (sym e ∙ is))) h) (w.0 is)
      by_test true false is live =
          none_made s one (follows_idle g killed m (stepped g (take n table) s m) p (new_entry k q) refl refl
          (λ e. record { dead = live; from = from; to = to }) h) ((w.1 is).0 live)
      by_test true true is live =
          let z = (w.1 is).1 live in
          let claim : HasClaim claims q = record { number = z.1; there = z.2 } in
          let same : asked_query (asks g killed m p h l.asks) ≡ asked_query z.0 = asked_same g m.query.exit p k (asks g killed m p h l.asks)
          z.0 in
          one_made s (kill_call k z.1 (kept (rows_of_query (asked_query z.0)) (rows_of_query q) follows)) one
          (subst (λ (x : Query). right.KillsCall g m.query.exit claims p k z.1 (kept (rows_of_query x) (rows_of_query q) follows)) same
          (ask_kill g killed m p h claims k (take n table) q follows seen l claim live))
          (follows_asked g killed m (stepped g (take n table) s m) p (new_entry k q) refl refl from to c.between.edge c.between.at_edge
          (called c) h) z.3

    step_made : (s : Step) → IsLegal g (take n table) m s → (i : ℕ) → slice_get last.steps i ≡ Some s → (one : List PureMove) →
        Makes g m.query.exit p table (levels_known last) claims killed s (length m.asked) one → After s one
    step_made (step.Extend k trail point) l i at one e =
        none_made (step.Extend k trail point) one (follows_same g killed m (stepped g (take n table) (step.Extend k trail point) m) p refl
        refl
        h) e
    step_made (step.Split k atoms follows proofs) l i at one e =
        subst (After (step.Split k atoms follows proofs)) (sym e)
        (split_leads gs linked g claims killed m good own p h (stepped g (take n table) (step.Split k atoms follows proofs) m) k atoms
        follows proofs l.0 l.1 refl refl)
    step_made (step.Kill k by) l i at one w = kill_made k by (turn_live g m k l.0) l.1 i at one w
    step_made (step.CallExtend k trail place point) l i at one e =
        none_made (step.CallExtend k trail place point) one
        (follows_same g killed m (stepped g (take n table) (step.CallExtend k trail place point) m) p refl refl h) e
    step_made (step.CallSplit k place atoms follows proofs) l i at one e =
        let w = l.1 in
        let live = turn_live g m k l.0 in
        subst (After (step.CallSplit k place atoms follows proofs)) (sym e)
        (call_leads gs linked g claims killed m good own p h (stepped g (take n table) (step.CallSplit k place atoms follows proofs) m) k
        live w.call atoms
        (call_names gs linked g m good own (take n table) (λ x y e2. holds x y (take_get n table x y e2)) k place atoms follows proofs live
        w) w.parts.several w.parts.negatable refl refl)
    step_made (step.CallPart k by atom atoms follows proofs) l i at one e =
        let w = l.1 in
        subst (After (step.CallPart k by atom atoms follows proofs)) (sym e)
        (call_leads gs linked g claims killed m good own p h (stepped g (take n table) (step.CallPart k by atom atoms follows proofs) m) k
        (turn_live g m k l.0) w.call atoms (record { names = w.own.names; terms = w.own.terms }) w.parts.several w.parts.negatable refl
        refl)
    step_made (step.Ask k q follows seen) l i at one w = ask_made k q follows seen l.1 one w
    step_made (step.Feed j) l i at one e =
        none_made (step.Feed j) one
        (follows_updated g killed m (stepped g (take n table) (step.Feed j) m) p (with_news news.Waiting) j (λ a. refl) refl refl h) e
    step_made (step.Stuck k why seen) l i at one e =
        none_made (step.Stuck k why seen) one (follows_same g killed m (stepped g (take n table) (step.Stuck k why seen) m) p refl refl h) e

    -- what a step gives
    ends_of : (k : RegionEdge) → rows.Between g m k → HasEnds g m.query.exit p k
    ends_of k b =
        let c = between g killed m p h b in
        (slice_get_within p.regions k.from c.source c.at_source, slice_get_within p.regions k.to c.target c.at_target)

    kill_gives : (k : RegionEdge) (by : Killer) → Kills g (take n table) m k by → GivesFor g m.query.exit p by k
    kill_gives k (killer.Certificate c) l = ends_of k l.at.between
    kill_gives k (killer.Table place proofs) l = (ends_of k l.asks.call.between, asks g killed m p h l.asks)
    kill_gives k (killer.Child j) l = tt
    kill_gives k (killer.Ancestor level proofs) l = (ends_of k l.asks.call.between, asks g killed m p h l.asks)

    step_gives : (s : Step) → IsLegal g (take n table) m s → Gives g m.query.exit p s
    step_gives (step.Extend k trail point) l = tt
    step_gives (step.Split k atoms follows proofs) l = (
      ends_of k l.1.at.between,
      l.1.parts.negatable,
      few_follow g l.1.at.between.source.cube.atoms l.1.pre atoms follows l.1.parts.follow,
    )
    step_gives (step.Kill k by) l = kill_gives k by l.1
    step_gives (step.CallExtend k trail place point) l = tt
    step_gives (step.CallSplit k place atoms follows proofs) l = (ends_of k l.1.call.between, l.1.parts.negatable)
    step_gives (step.CallPart k by atom atoms follows proofs) l = (ends_of k l.1.call.between, l.1.parts.negatable)
    step_gives (step.Ask k q follows seen) l = (ends_of k l.1.asks.call.between, asks g killed m p h l.1.asks)
    step_gives (step.Feed j) l = tt
    step_gives (step.Stuck k why seen) l = tt

-- What a step leaves

abbrev pub entries_after : Step → ℕ → ℕ
entries_after (step.Ask k q follows seen) entry = entry + 1
entries_after _ entry = entry

module _ (g : Graph) (t : List Summary) (m : Model) where
  steps_after : (s : Step) → (stepped g t s m).steps ≡ m.steps ++ s ∷ []
  steps_after (step.Extend k trail point) = refl
  steps_after (step.Split k atoms follows proofs) = refl
  steps_after (step.Kill k by) = refl
  steps_after (step.CallExtend k trail place point) = refl
  steps_after (step.CallSplit k place atoms follows proofs) = refl
  steps_after (step.CallPart k by atom atoms follows proofs) = refl
  steps_after (step.Ask k q follows seen) = refl
  steps_after (step.Feed i) = refl
  steps_after (step.Stuck k why seen) = refl

  asked_after : (s : Step) → length (stepped g t s m).asked ≡ entries_after s (length m.asked)
  asked_after (step.Extend k trail point) = refl
  asked_after (step.Split k atoms follows proofs) = refl
  asked_after (step.Kill k by) = refl
  asked_after (step.CallExtend k trail place point) = refl
  asked_after (step.CallSplit k place atoms follows proofs) = refl
  asked_after (step.CallPart k by atom atoms follows proofs) = refl
  asked_after (step.Ask k q follows seen) = length-append m.asked (record { edge = k; query = q; child = 0; news = news.Waiting } ∷ [])
  asked_after (step.Feed i) = length_updated (with_news news.Waiting) m.asked i
  asked_after (step.Stuck k why seen) = refl

-- The walk

module _ (gs : List Graph) (linked : AreGraphs gs) (g : Graph) (table : List Summary) (holds : AllHold gs table) (q : Query)
    (last : Model) where
  abbrev pub kills_of : ℕ → Bool
  kills_of j = child_kills last.steps j

  -- before stored step i, with `entry` asked entries, a partition and the moves that led to it
  pub record Walk (claims : List Query) (i entry : ℕ) (p : Parted) (ms : List PureMove) : Type 0 where
    pub m : Model
    pub rest : List Happening
    pub good : Good gs linked g m
    pub own : AreOwn g m.parted.regions
    pub follows : Follows g kills_of m p
    pub happen : AllHappen gs g table rest m
    pub ends : after_all gs g table rest m ≡ last
    pub steps : length m.steps ≡ i
    pub entries : length m.asked ≡ entry
    pub query : m.query ≡ q
    pub moves : AllMove g q.exit claims ms (begin_parted g q)
    pub led : moved_all ms (begin_parted g q) ≡ p

  -- at the next stored step, after the news before it
  record At (i entry : ℕ) (p : Parted) (s : Step) : Type 0 where
    pub m : Model
    pub n : ℕ
    pub rest : List Happening
    pub good : Good gs linked g m
    pub own : AreOwn g m.parted.regions
    pub follows : Follows g kills_of m p
    pub is : Happens gs g table (made s n) m
    pub happen : AllHappen gs g table rest (after gs g table (made s n) m)
    pub ends : after_all gs g table rest (after gs g table (made s n) m) ≡ last
    pub steps : length m.steps ≡ i
    pub entries : length m.asked ≡ entry
    pub query : m.query ≡ q

  stored_at : (t : Step) (n : ℕ) (es : List Happening) (m : Model) → after_all gs g table (made t n ∷ es) m ≡ last →
      slice_get last.steps (length m.steps + 0) ≡ Some t
  stored_at t n es m e =
      let x = all_extend gs g table es (after gs g table (made t n) m) in
      subst (λ (z : Model). slice_get z.steps (length m.steps + 0) ≡ Some t) e
      (x.steps (length m.steps + 0) t (subst (λ xs. slice_get xs (length m.steps + 0) ≡ Some t) (sym (steps_after g (take n table) m t))
      (get_right m.steps 0 (t ∷ []) t refl)))

  find : (rest : List Happening) (m : Model) (i entry : ℕ) (p : Parted) (s : Step) → Good gs linked g m → AreOwn g m.parted.regions →
      Follows g kills_of m p → AllHappen gs g table rest m → after_all gs g table rest m ≡ last → length m.steps ≡ i →
      length m.asked ≡ entry → m.query ≡ q → slice_get last.steps i ≡ Some s → At i entry p s
  find [] m i entry p s good own f happen ends steps entries query at =
      absurd (omega (arith, slice_get_within last.steps i s at, steps, ap (λ (x : Model). length x.steps) ends))
  find (made t n ∷ es) m i entry p s good own f happen ends steps entries query at =
      let place : length m.steps + 0 ≡ i = omega (arith, steps) in
      let same : t ≡ s = same_Some t s (sym (stored_at t n es m ends) ∙ (ap (λ j. slice_get last.steps j) place ∙ at)) in
      subst (At i entry p) same (record {
        m = m;
        n = n;
        rest = es;
        good = good;
        own = own;
        follows = f;
        is = happen.0;
        happen = happen.1;
        ends = ends;
        steps = steps;
        entries = entries;
        query = query;
      })
  find (heard j number known ∷ es) m i entry p s good own f happen ends steps entries query at =
      let n : Model = after gs g table (heard j number known) m in
      find es n i entry p s (happening_good gs linked g table holds (heard j number known) m good happen.0) own
      (follows_updated g kills_of m n p (with_child number known) j (λ a. refl) refl refl f) happen.1 ends steps
      (length_updated (with_child number known) m.asked j ∙ entries) query at

  found : (claims : List Query) (i entry : ℕ) (p : Parted) (ms : List PureMove) (s : Step) → Walk claims i entry p ms →
      slice_get last.steps i ≡ Some s → At i entry p s
  found claims i entry p ms s w at =
      find w.rest w.m i entry p s w.good w.own w.follows w.happen w.ends w.steps w.entries w.query at

  levels_at : (i entry : ℕ) (p : Parted) (s : Step) (a : At i entry p s) → levels_known last ≡ levels_known a.m
  levels_at i entry p s a =
      (subst (λ (x : Model). Extends a.m x) a.ends (all_extend gs g table (made s a.n ∷ a.rest) a.m)).levels

  -- at each stored step there is what it needs
  pub walk_gives : (claims : List Query) (i entry : ℕ) (p : Parted) (ms : List PureMove) (s : Step) → Walk claims i entry p ms →
      slice_get last.steps i ≡ Some s → Gives g q.exit p s
  walk_gives claims i entry p ms s w at =
      let a = found claims i entry p ms s w at in
      subst (λ (x : Query). Gives g x.exit p s) a.query
      (step_gives gs linked g table holds claims last a.m a.good a.own p a.follows a.n (levels_at i entry p s a) s a.is.1)

  -- and after it are the moves that it makes
  pub walk_next : (claims : List Query) (i entry : ℕ) (p : Parted) (ms : List PureMove) (s : Step) → Walk claims i entry p ms →
      slice_get last.steps i ≡ Some s → (one : List PureMove) →
      Makes g q.exit p table (levels_known last) claims kills_of s entry one →
      Walk claims (i + 1) (entries_after s entry) (moved_all one p) (ms ++ one)
  walk_next claims i entry p ms s w at one makes =
      let a = found claims i entry p ms s w at in
      let n : Model = after gs g table (made s a.n) a.m in
      let here : Makes g a.m.query.exit p table (levels_known last) claims kills_of s (length a.m.asked) one = subst
      (λ (x : Query). Makes g x.exit p table (levels_known last) claims kills_of s (length a.m.asked) one) (sym a.query)
      (subst (λ j. Makes g q.exit p table (levels_known last) claims kills_of s j one) (sym a.entries) makes) in
      let r = step_made gs linked g table holds claims last a.m a.good a.own p a.follows a.n (levels_at i entry p s a) s a.is.1 i at one
      here
      in
      let all : AllMove g q.exit claims one p = subst (λ (x : Query). AllMove g x.exit claims one p) a.query r.0 in
      record {
        m = n;
        rest = a.rest;
        good = happening_good gs linked g table holds (made s a.n) a.m a.good a.is;
        own = next_own gs linked g table holds claims kills_of (made s a.n) a.m a.good a.own a.is;
        follows = r.1;
        happen = a.happen;
        ends = a.ends;
        steps = omega (arith, ap length (steps_after g (take a.n table) a.m s), length-append a.m.steps (s ∷ []), a.steps);
        entries = asked_after g (take a.n table) a.m s ∙ ap (entries_after s) a.entries;
        query = query_same gs linked g table holds claims kills_of (made s a.n) a.m ∙ a.query;
        moves = all_append g q.exit claims ms one (begin_parted g q) w.moves
            (subst (λ x. AllMove g q.exit claims one x) (sym w.led) all);
        led = moved_append ms one (begin_parted g q) ∙ ap (moved_all one) w.led;
      }

  -- more claims
  pub walk_longer : (claims more : List Query) (i entry : ℕ) (p : Parted) (ms : List PureMove) → Walk claims i entry p ms →
      Walk (claims ++ more) i entry p ms
  walk_longer claims more i entry p ms w = record {
    m = w.m;
    rest = w.rest;
    good = w.good;
    own = w.own;
    follows = w.follows;
    happen = w.happen;
    ends = w.ends;
    steps = w.steps;
    entries = w.entries;
    query = w.query;
    moves = all_longer g q.exit claims more ms (begin_parted g q) w.moves;
    led = w.led;
  }

  -- after the last step only news follow
  news_left : (rest : List Happening) (m : Model) (p : Parted) → Follows g kills_of m p → after_all gs g table rest m ≡ last →
      length m.steps ≡ length last.steps → Follows g kills_of last p
  news_left [] m p f ends many = subst (λ (x : Model). Follows g kills_of x p) ends f
  news_left (made t n ∷ es) m p f ends many =
      absurd (omega (arith, slice_get_within last.steps (length m.steps + 0) t (stored_at t n es m ends), many))
  news_left (heard j number known ∷ es) m p f ends many =
      let n : Model = after gs g table (heard j number known) m in
      news_left es n p (follows_updated g kills_of m n p (with_child number known) j (λ a. refl) refl refl f) ends many

  pub walk_ends : (claims : List Query) (entry : ℕ) (p : Parted) (ms : List PureMove) → Walk claims (length last.steps) entry p ms →
      slice_get gs q.proc ≡ Some g → Fits q.proc (arity_of (Some g)) q → HasNoPath g q last.parted →
      IsRightClaim gs claims (record { query = q; moves = ms })
  walk_ends claims entry p ms w at fits none = record {
    graph = g;
    at = at;
    fits = fits;
    all_move = w.moves;
    none = no_path g q last.parted (moved_all ms (begin_parted g q))
        (subst (λ (x : Parted). (e : RegionEdge) → IsTrue (x.live e) → IsTrue (last.parted.live e)) (sym w.led)
        (news_left w.rest w.m p w.follows w.ends w.steps).fewer) none;
  }

pub walk_begins : (gs : List Graph) (g : Graph) (table : List Summary) (q : Query) (ancestors : List Query) (last : Model) →
    (s : IsGrounded gs g table q ancestors last) → Walk gs s.graphs g table s.table_holds q last [] 0 0 (begin_parted g q) []
walk_begins gs g table q ancestors last s =
    let z = s.state in
    let good = begin_good gs s.graphs g table s.table_holds q ancestors last z in
    record {
      m = begin_model g q ancestors;
      rest = z.happenings;
      good = good;
      own = begin_own g q good.fits;
      follows = follows_begin g (λ j. child_kills last.steps j) q ancestors;
      happen = z.happen;
      ends = sym z.reached;
      steps = refl;
      entries = refl;
      query = refl;
      moves = tt;
      led = refl;
    }
