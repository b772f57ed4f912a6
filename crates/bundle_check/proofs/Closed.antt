-- The moves that the steps of a query become, one after the other, and that they prove its claim.
use Rattle.std.proofs.Common.{◌≡◌, ℕ, ◌<◌, List, [], ◌∷◌, ◌++◌, length, take, Bool, true, false, Some, refl, sym, subst, ap, ◌∙◌}
use Rattle.std.specs.Prelude.{slice_get, IsTrue}
use Rattle.std.proofs.lemmas.Option.{slice_get_within}
use Rattle.infeasible_cert.specs.Refutation.{refutation_of}
use Rattle.infeasible_cert.specs.declared.certificate.Certificate.{Certificate}
use Rattle.flow_graph.specs.Calls.{call_edge}
use Rattle.flow_graph.specs.declared.graph.Graph.{Graph}
use Rattle.flow_graph.specs.Linked.{AreGraphs}
use Rattle.flow_graph.specs.Shapes.{is_call}
use Rattle.summary_form.specs.declared.query.Query.{Query}
use Rattle.summary_form.specs.declared.query.ExitKind.{ExitKind}
use Rattle.summary_form.specs.declared.summary.Summary.{Summary}
use Rattle.summary_form.specs.declared.summary.Summary.TheVariants.{NotMay}
use Rattle.summary_form.specs.Instances.{arity_of}
use Rattle.summary_form.specs.NotMays.{Fits}
use Rattle.may_partition.specs.declared.region.RegionEdge.{RegionEdge}
use Rattle.may_partition.specs.Parted.{Parted, begin_parted, kill_edge}
use Rattle.query_rules.specs.declared.step.Asked.{Asked}
use Rattle.query_rules.specs.declared.step.Killer.{Killer}
use Rattle.query_rules.specs.declared.step.Killer.TheVariants as killer
use Rattle.query_rules.specs.declared.step.News.TheVariants as news
use Rattle.query_rules.specs.declared.step.Step.{Step}
use Rattle.query_rules.specs.declared.step.Step.TheVariants as step
use Rattle.query_rules.specs.Laws.{IsGrounded}
use Rattle.query_rules.specs.Legal.{IsLegal, Kills, MayAsk}
use Rattle.query_rules.specs.Paths.{HasNoPath, IsPath, target_region}
use Rattle.query_rules.specs.Rows.{rows_of_query}
use Rattle.query_rules.specs.Rows as rows
use Rattle.query_rules.specs.States.{Happening, made, heard, after, AllHappen, Happens, after_all, AllHold}
use Rattle.query_rules.specs.Steps.{Model, begin_model, stepped, uncut, with_child, with_news}
use Rattle.query_rules.proofs.Closing.{turn_live}
use Rattle.query_rules.proofs.Reaching.{Good, begin_good, happening_good, take_get}
use Rattle.proof_bundle.specs.Claims.{PureMove, split, kill, kill_call}
use Rattle.bundle_check.specs.Made.{AreNamed, HasClaim, IsNamed}
use Rattle.bundle_check.specs.RightClaims as right
use Rattle.bundle_check.specs.RightClaims.{AllMove, IsRightClaim, Moves, asked_query, moved, moved_all}
use Rattle.bundle_check.specs.Walked.{kept, split_moves}
use Rattle.bundle_check.proofs.Following.{CallKill, Follows, ask_kill, asks, between, call_kill, follows_asked, follows_begin, follows_dead, follows_idle, follows_kill, follows_same, follows_updated, plain_live}
use Rattle.bundle_check.proofs.InOrder.{all_append, moved_append}
use Rattle.bundle_check.proofs.OwnRegions.{AreOwn, begin_own, call_names, step_own}
use Rattle.bundle_check.proofs.SplitMoves.{call_leads, split_leads}

module _ (gs : List Graph) (linked : AreGraphs gs) (g : Graph) (table : List Summary) (holds : AllHold gs table) (claims : List Query)
    (killed : ℕ → Bool) where
  -- right moves, and what they lead to
  abbrev Next : ExitKind → Model → Parted → Type 0
  Next exit n p = (ms : List PureMove) × AllMove g exit claims ms p × Follows g killed n (moved_all ms p)

  none : (exit : ExitKind) (n : Model) (p : Parted) → Follows g killed n p → Next exit n p
  none exit n p f = ([], tt, f)

  one : (exit : ExitKind) (n : Model) (p : Parted) (mv : PureMove) → Moves g exit claims mv p → Follows g killed n (moved mv p) →
      Next exit n p
  one exit n p mv w f = (mv ∷ [], (w, tt), f)

  module _ (m : Model) (good : Good gs linked g m) (regions : AreOwn g m.parted.regions) (p : Parted) (h : Follows g killed m p) where
    abbrev Step_ : Step → ℕ → Type 0
    Step_ s n = Next m.query.exit (stepped g (take n table) s m) p

    idle : (s : Step) (n : ℕ) → Follows g killed (stepped g (take n table) s m) p → Step_ s n
    idle s n f = none m.query.exit (stepped g (take n table) s m) p f

    moving : (s : Step) (n : ℕ) (mv : PureMove) → Moves g m.query.exit claims mv p → Follows g killed (stepped g (take n table) s m)
        (moved mv p) →
        Step_ s n
    moving s n mv w f = one m.query.exit (stepped g (take n table) s m) p mv w f

    called : {k : RegionEdge} (c : rows.CallAt g m k) → is_call c.between.edge ≡ true
    called c = ap is_call c.is_call

    -- a kill at a call, where its edge is still live
    at_call : (s : Step) (n : ℕ) (k : RegionEdge) → (c : rows.CallAt g m k) → (stepped g (take n table) s m).parted ≡ kill_edge k m.parted →
        (stepped g (take n table) s m).asked ≡ m.asked → (IsTrue (p.live k) → CallKill g killed m p h claims k) → Step_ s n
    at_call s n k c e a f = by_test (p.live k) refl where
      by_test : (t : Bool) → p.live k ≡ t → Step_ s n
      by_test true l = let w = f l in
          moving s n (kill_call k w.number w.proofs) w.kills (follows_kill g killed m (stepped g (take n table) s m) p k e a h)
      by_test false l =
          idle s n (follows_dead g killed m (stepped g (take n table) s m) p k e a l c.between.edge c.between.at_edge (called c) h)

    kills : (n : ℕ) (k : RegionEdge) (by : Killer) → IsTrue (m.parted.live k) → Kills g (take n table) m k by →
        IsNamed g table claims killed m (step.Kill k by) → Step_ (step.Kill k by) n
    kills n k (killer.Certificate c) live l named =
        moving (step.Kill k (killer.Certificate c)) n (kill k (refutation_of c)) (record {
          live = plain_live g killed m p h k l.at live;
          pre = record {
            between = between g killed m p h l.at.between;
            plain = l.at.plain;
            rows = l.pre;
            pair = l.is_pre.0;
            is_pre = l.is_pre.1;
          };
          refuted = record { right = l.refuted.right; atoms_terms = l.refuted.atoms_terms; terms = l.refuted.terms };
        }) (follows_kill g killed m (stepped g (take n table) (step.Kill k (killer.Certificate c)) m) p k refl refl h)
    kills n k (killer.Table place proof) live l named =
        at_call (step.Kill k (killer.Table place proof)) n k l.asks.call refl refl
        (λ t. call_kill g killed m p h claims k l.query l.summary l.asks proof l.entails
        (named l.summary (take_get n table place (NotMay l.summary) l.there)) t)
    kills n k (killer.Child i) live l named =
        let d = h.dead i l.entry l.there named in
        let a = good.keeps.asks i l.entry l.there in
        let dead : p.live k ≡ false = subst (λ x. p.live x ≡ false) l.same d.dead in
        let at : slice_get g.edges k.edge ≡ Some (call_edge a.from a.to a.site) = subst
        (λ (x : RegionEdge). slice_get g.edges x.edge ≡ Some (call_edge a.from a.to a.site)) l.same a.call in
        idle (step.Kill k (killer.Child i)) n
        (follows_dead g killed m (stepped g (take n table) (step.Kill k (killer.Child i)) m) p k refl refl dead
        (call_edge a.from a.to a.site) at refl h)
    kills n k (killer.Ancestor level proof) live l named =
        at_call (step.Kill k (killer.Ancestor level proof)) n k l.asks.call refl refl
        (λ t. call_kill g killed m p h claims k l.query l.summary l.asks proof l.entails (named l.summary l.there) t)

    clash : true ≡ false → ⊥
    clash x = cc

    asked : (n : ℕ) (k : RegionEdge) (q : Query) (follows : List Certificate) (seen : ℕ) → MayAsk g (take n table) m k q follows seen →
        IsNamed g table claims killed m (step.Ask k q follows seen) → Step_ (step.Ask k q follows seen) n
    asked n k q follows seen l named = by_test (killed (length m.asked)) (p.live k) refl refl where
      s : Step
      s = step.Ask k q follows seen

      new : Asked
      new = record { edge = k; query = q; child = 0; news = news.Waiting }

      c : rows.CallAt g m k
      c = l.asks.call

      b : right.Between g p k
      b = between g killed m p h c.between

      from : k.from < length p.regions
      from = slice_get_within p.regions k.from b.source b.at_source

      to : k.to < length p.regions
      to = slice_get_within p.regions k.to b.target b.at_target

      by_test : (t u : Bool) → killed (length m.asked) ≡ t → p.live k ≡ u → Step_ s n
      by_test false u is live =
          idle s n (follows_idle g killed m (stepped g (take n table) s m) p new refl refl (λ e. absurd (clash (sym e ∙ is))) h)
      by_test true false is live =
          idle s n (follows_idle g killed m (stepped g (take n table) s m) p new refl refl
          (λ e. record { dead = live; from = from; to = to })
          h)
      by_test true true is live =
          let claim : HasClaim claims q = named is in
          moving s n (kill_call k claim.number (kept (rows_of_query (asked_query (asks g killed m p h l.asks))) (rows_of_query q) follows))
          (ask_kill g killed m p h claims k (take n table) q follows seen l claim live)
          (follows_asked g killed m (stepped g (take n table) s m) p new refl refl from to c.between.edge c.between.at_edge (called c) h)

    pub step_next : (s : Step) (n : ℕ) → IsLegal g (take n table) m s → IsNamed g table claims killed m s → Step_ s n
    step_next (step.Extend k trail point) n l named =
        idle (step.Extend k trail point) n (follows_same g killed m (stepped g (take n table) (step.Extend k trail point) m) p refl refl h)
    step_next (step.Split k atoms follows proofs) n l named =
        let w = split_leads gs linked g claims killed m good regions p h
        (stepped g (take n table) (step.Split k atoms follows proofs) m) k atoms follows proofs l.0 l.1 refl refl
        in
        (split_moves (length p.regions) k atoms follows, w.0, w.1)
    step_next (step.Kill k by) n l named = kills n k by (turn_live g m k l.0) l.1 named
    step_next (step.CallExtend k trail place point) n l named =
        idle (step.CallExtend k trail place point) n
        (follows_same g killed m (stepped g (take n table) (step.CallExtend k trail place point) m) p refl refl h)
    step_next (step.CallSplit k place atoms follows proofs) n l named =
        let live = turn_live g m k l.0 in
        let z = call_names gs linked g m good regions (take n table) (λ at x e. holds at x (take_get n table at x e)) k place atoms follows
        proofs live l.1 in
        let w = call_leads gs linked g claims killed m good regions p h
        (stepped g (take n table) (step.CallSplit k place atoms follows proofs) m) k live l.1.call atoms z l.1.parts.several
        l.1.parts.negatable refl refl in
        (split (uncut k) atoms ∷ [], w.0, w.1)
    step_next (step.CallPart k by atom atoms follows proofs) n l named =
        let w = call_leads gs linked g claims killed m good regions p h
        (stepped g (take n table) (step.CallPart k by atom atoms follows proofs) m) k (turn_live g m k l.0) l.1.call atoms
        (record { names = l.1.own.names; terms = l.1.own.terms }) l.1.parts.several l.1.parts.negatable refl refl in
        (split (uncut k) atoms ∷ [], w.0, w.1)
    step_next (step.Ask k q follows seen) n l named = asked n k q follows seen l.1 named
    step_next (step.Feed i) n l named =
        idle (step.Feed i) n
        (follows_updated g killed m (stepped g (take n table) (step.Feed i) m) p (with_news news.Waiting) i (λ a. refl) refl refl h)
    step_next (step.Stuck k why seen) n l named =
        idle (step.Stuck k why seen) n (follows_same g killed m (stepped g (take n table) (step.Stuck k why seen) m) p refl refl h)

  pub query_same : (e : Happening) (m : Model) → (after gs g table e m).query ≡ m.query
  query_same (made (step.Extend k trail point) n) m = refl
  query_same (made (step.Split k atoms follows proofs) n) m = refl
  query_same (made (step.Kill k by) n) m = refl
  query_same (made (step.CallExtend k trail place point) n) m = refl
  query_same (made (step.CallSplit k place atoms follows proofs) n) m = refl
  query_same (made (step.CallPart k by atom atoms follows proofs) n) m = refl
  query_same (made (step.Ask k q follows seen) n) m = refl
  query_same (made (step.Feed i) n) m = refl
  query_same (made (step.Stuck k why seen) n) m = refl
  query_same (heard i number known) m = refl

  pub next_own : (e : Happening) (m : Model) → Good gs linked g m → AreOwn g m.parted.regions → Happens gs g table e m →
      AreOwn g (after gs g table e m).parted.regions
  next_own (made s n) m good regions l =
      step_own gs linked g m good regions (take n table) (λ at x e. holds at x (take_get n table at x e)) s l.1
  next_own (heard i number known) m good regions l = regions

  next : (e : Happening) (es : List Happening) (m : Model) (p : Parted) → Good gs linked g m → AreOwn g m.parted.regions →
      Follows g killed m p → Happens gs g table e m →
      AreNamed g table claims killed gs (e ∷ es) m →
      Next m.query.exit (after gs g table e m) p × AreNamed g table claims killed gs es (after gs g table e m)
  next (made s n) es m p good regions h l named = (step_next m good regions p h s n l.1 named.0, named.1)
  next (heard i number known) es m p good regions h l named = (
    none m.query.exit (after gs g table (heard i number known) m) p
        (follows_updated g killed m (after gs g table (heard i number known) m) p (with_child number known) i (λ a. refl) refl refl h),
    named,
  )

  -- all of them
  joined : (exit : ExitKind) (n last : Model) (p : Parted) → Next exit n p → ((r : Parted) → Follows g killed n r → Next exit last r) →
      Next exit last p
  joined exit n last p x rest =
      let w = rest (moved_all x.0 p) x.2 in (
        x.0 ++ w.0,
        all_append g exit claims x.0 w.0 p x.1 w.1,
        subst (Follows g killed last) (sym (moved_append x.0 w.0 p)) w.2,
      )

  follow : (es : List Happening) (m : Model) (p : Parted) → Good gs linked g m → AreOwn g m.parted.regions → Follows g killed m p →
      AllHappen gs g table es m →
      AreNamed g table claims killed gs es m → Next m.query.exit (after_all gs g table es m) p
  follow [] m p good regions h l named = ([], tt, h)
  follow (e ∷ es) m p good regions h l named =
      let n : Model = after gs g table e m in
      let w = next e es m p good regions h l.0 named in
      let good' = happening_good gs linked g table holds e m good l.0 in
      joined m.query.exit n (after_all gs g table es n) p w.0
      (λ r f. subst (λ (x : Query). Next x.exit (after_all gs g table es n) r) (query_same e m)
      (follow es n r good' (next_own e m good regions l.0) f l.1 w.1))

more_path : (p r : Parted) → ((e : RegionEdge) → IsTrue (r.live e) → IsTrue (p.live e)) → (es : List RegionEdge) (a b : ℕ) →
    IsPath r a es b → IsPath p a es b
more_path p r fewer [] a b h = h
more_path p r fewer (e ∷ es) a b h = (fewer e h.0, h.1, more_path p r fewer es e.to b h.2)

pub no_path : (g : Graph) (q : Query) (p r : Parted) → ((e : RegionEdge) → IsTrue (r.live e) → IsTrue (p.live e)) → HasNoPath g q p →
    HasNoPath g q r
no_path g q p r fewer none es path = none es (more_path p r fewer es 0 (target_region g q) path)

pub closed_proved : (gs : List Graph) (g : Graph) (table : List Summary) (q : Query) (ancestors : List Query) (m : Model) →
    (s : IsGrounded gs g table q ancestors m) → HasNoPath g m.query m.parted → (claims : List Query) (killed : ℕ → Bool) →
    AreNamed g table claims killed gs s.state.happenings (begin_model g q ancestors) →
    (ms : List PureMove) × IsRightClaim gs claims (record { query = q; moves = ms })
closed_proved gs g table q ancestors m s none claims killed named =
    let z = s.state in
    let b = begin_model g q ancestors in
    let w = follow gs s.graphs g table s.table_holds claims killed z.happenings b (begin_parted g q)
    (begin_good gs s.graphs g table s.table_holds q ancestors m z)
    (begin_own g q (begin_good gs s.graphs g table s.table_holds q ancestors m z).fits) (follows_begin g killed q ancestors) z.happen named
    in
    let end : Model = after_all gs g table z.happenings b in
    let closed : HasNoPath g end.query end.parted = subst (λ (x : Model). HasNoPath g x.query x.parted) z.reached none in (
      w.0,
      record {
        graph = g;
        at = z.at;
        fits = subst (λ o. Fits q.proc (arity_of o) q) z.at z.fits;
        all_move = w.1;
        none = no_path g q end.parted (moved_all w.0 (begin_parted g q)) w.2.fewer
            (subst (λ (x : Query). HasNoPath g x end.parted) (queries_same z.happenings b) closed);
      },
    )
  where
    queries_same : (es : List Happening) (n : Model) → (after_all gs g table es n).query ≡ n.query
    queries_same [] n = refl
    queries_same (e ∷ es) n = queries_same es (after gs g table e n) ∙ query_same gs s.graphs g table s.table_holds claims killed e n
