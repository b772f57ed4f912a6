-- The kills of one query, as far as the queries to which they lead were listed.
use Rattle.std.proofs.Common.{◌≡◌, ⊎_elim, ℕ, suc, ◌<◌, ◌≤◌, List, length, Option, Some, None, arith, refl, sym, subst, ap, ◌∙◌}
use Rattle.std.specs.Prelude.{slice_get}
use Rattle.std.proofs.lemmas.Bool.{cases_lt}
use Rattle.std.proofs.lemmas.Option.{none-some, same_Some, slice_get_within}
use Rattle.query_tree.specs.declared.Entry.{Entry}
use Rattle.query_rules.specs.Seen.{Seen}
use Rattle.query_rules.specs.declared.step.Closing.TheVariants as closing
use Rattle.query_rules.specs.declared.step.Killer.{Killer}
use Rattle.query_rules.specs.declared.step.Step.{Step}
use Rattle.query_rules.specs.declared.step.Step.TheVariants as step
use Rattle.may_partition.specs.declared.region.RegionEdge.{RegionEdge}
use Rattle.bolt_core.specs.Anchors.{IsAnchored}
use Rattle.bolt_core.specs.Boards.{IsBoard, Shown}
use Rattle.bolt_core.specs.Verdicts.{IsClosedIn}
use Rattle.bolt_core.proofs.Leading.{anchored_closed}
use Rattle.bundle_make.specs.Bundling.{IsBare, IsLead, LeadsOn, Listed}
use Rattle.bundle_make.specs.steps.Growing.{IsGrown}
use Rattle.bundle_make.specs.steps.Leading.{AreFollowed, StepLeads}
use Rattle.bundle_make.proofs.Growing.{grown_keeps}
use Rattle.bundle_make.proofs.Leading.{anchored_within, closed_same, lead_one, leads_anchored}

pub listed_stays : (P : ℕ → Type 0) (old new : List ℕ) → IsGrown P old new → (x : ℕ) → Listed old x → Listed new x
listed_stays P old new g x l = (l.0, grown_keeps P old new g l.0 x l.1)

-- The stored state of an anchored query

module _ (b : Shown) (h : IsBoard b) (i : ℕ) (a : (l : ℕ) × IsAnchored b.core.nodes l i) (es : List (Entry Seen))
    (same : es ≡ b.core.entries) where
  pub stored_within : i < length es
  stored_within = subst (λ (xs : List (Entry Seen)). i < length xs) (sym same) (anchored_within b h i a)

  stored : (o : Option Seen) → ((e : Entry Seen) → slice_get es i ≡ Some e → o ≡ e.payload) →
      (s : Seen) × (o ≡ Some s) × IsClosedIn b i s closing.NotMay
  stored o read =
      let z = anchored_closed b h i a.0 a.1 in
      (z.0, read z.1.own (ap (λ (xs : List (Entry Seen)). slice_get xs i) same ∙ z.1.at) ∙ z.1.payload, z.1)

  pub stored_closed : (s : Seen) → ((e : Entry Seen) → slice_get es i ≡ Some e → Some s ≡ e.payload) → IsClosedIn b i s closing.NotMay
  stored_closed s read =
      let w = stored (Some s) read in
      subst (λ (t : Seen). IsClosedIn b i t closing.NotMay) (sym (same_Some s w.0 w.1)) w.2

  pub stored_some : ((e : Entry Seen) → slice_get es i ≡ Some e → None ≡ e.payload) → ⊥
  stored_some read = let w = stored None read in none-some w.0 w.1

-- Steps

same_killer : (j k : RegionEdge) (x y : Killer) → step.Kill j x ≡ step.Kill k y → x ≡ y
same_killer j k x y e = cc

module _ (b : Shown) (h : IsBoard b) (i : ℕ) (s : Seen) (c : IsClosedIn b i s closing.NotMay) where
  -- a step that leads to a query is a kill that does
  pub step_leads_on : (n x : ℕ) (e : Step) → slice_get s.steps n ≡ Some e → StepLeads b i s e x → LeadsOn b i x
  step_leads_on n x e at d = record {
    state = s;
    closed = c;
    place = n;
    edge = d.edge;
    by = d.by;
    kill = at ∙ ap Some d.kill;
    lead = d.lead;
  }

  -- Where one kill leads

  module _ (n : ℕ) (k : RegionEdge) (by : Killer) (e : Step) (at : slice_get s.steps n ≡ Some e) (is : e ≡ step.Kill k by) (x : ℕ)
      (lead : IsLead b i s by x) where
    kill_leads : StepLeads b i s e x
    kill_leads = record { edge = k; by = by; kill = is; lead = lead }

    pub kill_within : IsBare b → (l : ℕ) × IsAnchored b.core.nodes l i → x < length b.core.entries
    kill_within bare a = anchored_within b h x (leads_anchored b h bare i x a (step_leads_on n x e at kill_leads))

    -- and nowhere else
    pub kill_listed : (ids : List ℕ) → Listed ids x → (y : ℕ) → StepLeads b i s e y → Listed ids y
    kill_listed ids l y d =
        let same : d.by ≡ by = same_killer d.edge k d.by by (sym d.kill ∙ is) in
        subst (Listed ids) (lead_one b h i s by x y lead (subst (λ (z : Killer). IsLead b i s z y) same d.lead)) l

  -- The first steps

  pub followed_none : (ids : List ℕ) → AreFollowed b i s 0 ids
  followed_none ids n x e lt at d = absurd (omega (arith, lt))

  pub followed_more : (P : ℕ → Type 0) (k : ℕ) (e : Step) (old new : List ℕ) → slice_get s.steps k ≡ Some e → AreFollowed b i s k old →
      IsGrown P old new → ((x : ℕ) → StepLeads b i s e x → Listed new x) → AreFollowed b i s (suc k) new
  followed_more P k e old new there done g all n x f lt at d =
      ⊎_elim (λ less. listed_stays P old new g x (done n x f less at d)) (λ le. last (omega (arith, lt, le))) (cases_lt n k) where
        last : n ≡ k → Listed new x
        last same =
            let is : f ≡ e = same_Some f e (sym at ∙ (ap (slice_get s.steps) same ∙ there)) in
            all x (subst (λ (z : Step). StepLeads b i s z x) is d)

  pub followed_all : (k : ℕ) (ids : List ℕ) → length s.steps ≤ k → AreFollowed b i s k ids → (x : ℕ) → LeadsOn b i x → Listed ids x
  followed_all k ids le done x d =
      let same : d.state ≡ s = closed_same b h i s c d.state d.closed in
      let at : slice_get s.steps d.place ≡ Some (step.Kill d.edge d.by) =
      subst (λ (t : Seen). slice_get t.steps d.place ≡ Some (step.Kill d.edge d.by)) same d.kill in
      done d.place x (step.Kill d.edge d.by)
      (omega (arith, le, slice_get_within s.steps d.place (step.Kill d.edge d.by) at)) at (record {
        edge = d.edge;
        by = d.by;
        kill = refl;
        lead = subst (λ (t : Seen). IsLead b i t d.by x) same d.lead;
      })
