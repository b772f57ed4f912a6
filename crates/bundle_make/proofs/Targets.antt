-- The queries to which the kills of a maker's state lead: listed, anchored, and asking what is asked.
use Rattle.std.proofs.Common.{◌≡◌, ⊎_elim, ℕ, ◌-◌, ◌<◌, List, [], ◌∷◌, ◌++◌, get_or, length, Option, Some, None, Bool, true, arith, refl, sym, subst, ap, ◌∙◌}
use Rattle.std.specs.Prelude.{slice_get}
use Rattle.std.proofs.lemmas.Option.{none-some, same_Some, slice_get-get_or, slice_get_within}
use Rattle.infeasible_cert.specs.declared.certificate.Certificate.{Certificate}
use Rattle.flow_graph.specs.declared.graph.Graph.{Graph}
use Rattle.may_partition.specs.declared.region.RegionEdge.{RegionEdge}
use Rattle.may_partition.specs.Parted.{Parted}
use Rattle.summary_form.specs.declared.query.Query.{Query}
use Rattle.summary_form.specs.declared.summary.Summary.{Summary}
use Rattle.summary_form.specs.declared.summary.Summary.TheVariants.{NotMay}
use Rattle.query_tree.specs.declared.Entry.{Entry}
use Rattle.query_rules.specs.Seen.{Seen}
use Rattle.query_rules.specs.declared.step.Asked.{Asked}
use Rattle.query_rules.specs.declared.step.Closing.TheVariants as closing
use Rattle.query_rules.specs.declared.step.Killer.{Killer}
use Rattle.query_rules.specs.declared.step.Killer.TheVariants as killer
use Rattle.query_rules.specs.declared.step.Step.TheVariants as step
use Rattle.bolt_core.specs.Anchors.{IsAnchored}
use Rattle.bolt_core.specs.Boards.{IsBoard, Shown}
use Rattle.bolt_core.specs.Groups.{Node}
use Rattle.bolt_core.specs.Leads.{IsClaimable, LeadsTo}
use Rattle.bolt_core.specs.Origins.{origins_of}
use Rattle.bolt_core.specs.Verdicts.{IsClosedIn}
use Rattle.bolt_core.proofs.BoardKeeps.{board_keeps}
use Rattle.bolt_core.proofs.Leading.{anchored_closed, kills_lead}
use Rattle.proof_bundle.specs.Claims.{PureMove}
use Rattle.bundle_check.specs.Walked.{MakesCall}
use Rattle.bundle_make.specs.Bundling.{IsLead, Listed}
use Rattle.bundle_make.specs.steps.Killing.{is_killed}
use Rattle.bundle_make.specs.steps.Listing.{IsListing}
use Rattle.bundle_make.specs.steps.Making.{CallMade, HasProof, IsMaker, KillMade}
use Rattle.bundle_make.proofs.Leading.{above_one}

-- Numbers of claims

module _ (count : ℕ) (ids : List ℕ) (numbers : List (Option ℕ)) (h : IsListing count ids numbers) (x : ℕ) (listed : Listed ids x) where
  pub number_there : x < length numbers
  number_there = slice_get_within numbers x (Some listed.0) (h.back x listed.0 listed.1)

  pub number_some : (n : ℕ) (o : Option ℕ) → slice_get numbers x ≡ Some o → o ≡ Some n → slice_get ids n ≡ Some x
  number_some n o at some = h.there x n (at ∙ ap Some some)

  pub number_none : (o : Option ℕ) → slice_get numbers x ≡ Some o → o ≡ None → ⊥
  number_none o at none = none-some listed.0 (sym none ∙ same_Some o (Some listed.0) (sym at ∙ h.back x listed.0 listed.1))

-- The state of an anchored query

module _ (b : Shown) (h : IsBoard b) (i : ℕ) (a : (l : ℕ) × IsAnchored b.core.nodes l i) (es : List (Entry Seen))
    (same : es ≡ b.core.entries) where
  closed : (s : Seen) × IsClosedIn b i s closing.NotMay
  closed = anchored_closed b h i a.0 a.1

  there : slice_get es i ≡ Some closed.1.own
  there = ap (λ xs. slice_get xs i) same ∙ closed.1.at

  pub entry_within : i < length es
  entry_within = slice_get_within es i closed.1.own there

  pub state_held : (s : Seen) → ((e : Entry Seen) → slice_get es i ≡ Some e → Some s ≡ e.payload) → IsClosedIn b i s closing.NotMay
  state_held s f =
      subst (λ x. IsClosedIn b i x closing.NotMay) (sym (same_Some s closed.0 (f closed.1.own there ∙ closed.1.payload))) closed.1

  pub state_missing : ((e : Entry Seen) → slice_get es i ≡ Some e → None ≡ e.payload) → ⊥
  state_missing f = none-some closed.0 (f closed.1.own there ∙ closed.1.payload)

-- Targets

module _ (b : Shown) (ids : List ℕ) (numbers : List (Option ℕ)) (i : ℕ) (s : Seen) (g : Graph) (killed : List Bool)
    (m : IsMaker b ids numbers i s g killed) where
  pub leads_to : (n : ℕ) (k : RegionEdge) (by : Killer) → slice_get s.steps n ≡ Some (step.Kill k by) → LeadsTo b i s by
  leads_to n k by at = kills_lead b m.board m.bare.unsaid i m.anchored.0 m.anchored.1 s m.closed n k by at

  pub is_listed : (n : ℕ) (k : RegionEdge) (by : Killer) → slice_get s.steps n ≡ Some (step.Kill k by) → (x : ℕ) → IsLead b i s by x →
      Listed ids x
  is_listed n k by at x lead = m.led x (record {
    state = s;
    closed = m.closed;
    place = n;
    edge = k;
    by = by;
    kill = at;
    lead = lead;
  })

  -- which queries a kill by the table or an ancestor names
  abbrev pub Tells : Killer → Query → Type 0
  Tells (killer.Certificate c) q = ⊥
  Tells (killer.Table place proof) q = slice_get b.core.table place ≡ Some (NotMay q)
  Tells (killer.Child j) q = ⊥
  Tells (killer.Ancestor level proof) q = slice_get (s.ancestors ++ s.query ∷ []) level ≡ Some q

  pub record IsTarget (by : Killer) (x : ℕ) : Type 0 where
    pub node : Node
    pub at : slice_get b.core.nodes x ≡ Some node
    pub anchored : (l : ℕ) × IsAnchored b.core.nodes l x
    pub asks : (q : Query) → Tells by q → q ≡ node.query

  not_may_of : (o q : Query) → NotMay o ≡ NotMay q → o ≡ q
  not_may_of o q e = cc

  target_by : (by : Killer) (x : ℕ) (claimed : Query) → IsClaimable b x claimed → ((o : Query) → Tells by o → o ≡ claimed) → IsTarget by x
  target_by by x claimed c same = record {
    node = c.node;
    at = c.at;
    anchored = (c.level, c.anchored);
    asks = λ o t. same o t ∙ sym c.asks;
  }

  pub target_of : (by : Killer) (cs : List Certificate) → HasProof by cs → LeadsTo b i s by → (x : ℕ) → IsLead b i s by x → IsTarget by x
  target_of (killer.Certificate c) cs p w x l = absurd p
  target_of (killer.Table place proof) cs p w x l =
      ⊎_elim (λ low. absurd (omega (arith, low, ap (λ (xs : List Summary). length xs) m.bare.none))) (λ z.
      let place_is : place - length b.core.kept ≡ place = omega (arith, ap (λ (xs : List Summary). length xs) m.bare.none) in
      let one : z.2 ≡ x = same_Some z.2 x (sym z.3 ∙ (ap (λ n. slice_get (origins_of b) n) place_is ∙ l)) in
      target_by (killer.Table place proof) x z.0 (subst (λ y. IsClaimable b y z.0) one z.4)
      (λ o t. not_may_of o z.0 (same_Some (NotMay o) (NotMay z.0) (sym t ∙ z.1)))) w
  target_of (killer.Child j) cs p w x l = absurd p
  target_of (killer.Ancestor level proof) cs p w x l =
      let keeps = board_keeps b m.board in
      let one : w.2 ≡ x = above_one b.core.nodes keeps.levelled level w.3 l in
      target_by (killer.Ancestor level proof) x w.0 (subst (λ y. IsClaimable b y w.0) one w.4)
      (λ o t. same_Some o w.0 (sym t ∙ w.1))

  -- the child of an asked query by which some step kills
  pub child_target : (entry : ℕ) → is_killed killed entry ≡ true → (x : Asked) → slice_get s.asked entry ≡ Some x →
      Listed ids x.child × IsClaimable b x.child x.query
  child_target entry is x at =
      let w = m.are_killed.kills entry is in
      let z = leads_to w.0 w.1 (killer.Child entry) w.2 in
      let same : z.0 ≡ x = same_Some z.0 x (sym z.1 ∙ at) in (
        is_listed w.0 w.1 (killer.Child entry) w.2 x.child (x, at, refl),
        subst (λ (e : Asked). IsClaimable b e.child e.query) same z.2,
      )

  -- and of the entry that is looked up
  pub child_at : (entry : ℕ) → is_killed killed entry ≡ true → (x : Asked) × (slice_get s.asked entry ≡ Some x) → (xs : List Asked) →
      xs ≡ s.asked → (x : Asked) → x ≡ get_or xs entry x →
      (slice_get s.asked entry ≡ Some x) × Listed ids x.child × IsClaimable b x.child x.query
  child_at entry is has xs same x at =
      let low = slice_get_within s.asked entry has.0 has.1 in
      let there : slice_get s.asked entry ≡ Some x = slice_get-get_or s.asked entry x low
      ∙ ap Some (sym (at ∙ ap (λ (ys : List Asked). get_or ys entry x) same)) in
      let child = child_target entry is x there in
      (there, child.0, child.1)

  pub has_lead : (by : Killer) (cs : List Certificate) → HasProof by cs → LeadsTo b i s by → (x : ℕ) × IsLead b i s by x
  has_lead (killer.Certificate c) cs p w = absurd p
  has_lead (killer.Table place proof) cs p w =
      ⊎_elim (λ low. absurd (omega (arith, low, ap (λ (xs : List Summary). length xs) m.bare.none))) (λ z.
      let place_is : place - length b.core.kept ≡ place = omega (arith, ap (λ (xs : List Summary). length xs) m.bare.none) in
      (z.2, ap (λ n. slice_get (origins_of b) n) (sym place_is) ∙ z.3)) w
  has_lead (killer.Child j) cs p w = absurd p
  has_lead (killer.Ancestor level proof) cs p w = (w.2, w.3)

  -- what a kill by its target's claim makes
  pub led_made : (by : Killer) (cs : List Certificate) → HasProof by cs → (x : ℕ) → IsTarget by x → (k : RegionEdge) (p : Parted)
      (one : List PureMove) → CallMade b ids s g killed x k cs p one → KillMade b ids s g killed by k p one
  led_made (killer.Certificate c) cs h x t k p one made = absurd h
  led_made (killer.Table place proof) cs h x t k p one made = λ claims asked q tells.
      let call = made claims asked t.node t.at in
      subst (λ ds. MakesCall g s.query.exit p b.core.table (s.ancestors ++ s.query ∷ []) claims (is_killed killed) q k ds one) h
      (subst (λ o. MakesCall g s.query.exit p b.core.table (s.ancestors ++ s.query ∷ []) claims (is_killed killed) o k cs one)
      (sym (t.asks q tells)) call)
  led_made (killer.Child j) cs h x t k p one made = absurd h
  led_made (killer.Ancestor level proof) cs h x t k p one made = λ claims asked q tells.
      let call = made claims asked t.node t.at in
      subst (λ ds. MakesCall g s.query.exit p b.core.table (s.ancestors ++ s.query ∷ []) claims (is_killed killed) q k ds one) h
      (subst (λ o. MakesCall g s.query.exit p b.core.table (s.ancestors ++ s.query ∷ []) claims (is_killed killed) o k cs one)
      (sym (t.asks q tells)) call)
