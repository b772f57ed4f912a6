-- To which query a kill leads.
use Rattle.std.proofs.Common.{◌≡◌, ⊎_elim, ℕ, suc, ◌+◌, ◌-◌, ◌<◌, ◌≤◌, List, [], length, Option, Some, None, arith, refl, sym, subst, ap, ◌∙◌}
use Rattle.std.specs.Prelude.{slice_get}
use Rattle.std.proofs.lemmas.Option.{same_Some, slice_get_within}
use Rattle.query_tree.specs.declared.Entry.{Entry}
use Rattle.query_tree.proofs.Lists.{present}
use Rattle.query_rules.specs.Seen.{Seen}
use Rattle.query_rules.specs.declared.step.Asked.{Asked}
use Rattle.query_rules.specs.declared.step.Closing.TheVariants as closing
use Rattle.query_rules.specs.declared.step.Killer.{Killer}
use Rattle.query_rules.specs.declared.step.Killer.TheVariants as killer
use Rattle.bolt_core.specs.Anchors.{IsAnchored}
use Rattle.bolt_core.specs.Boards.{IsBoard, Shown}
use Rattle.bolt_core.specs.Groups.{Node}
use Rattle.bolt_core.specs.Keeps.{AreLevelled, Keeps, Placed}
use Rattle.bolt_core.specs.Leads.{IsAbove, LeadsTo, own, up}
use Rattle.bolt_core.specs.Origins.{origins_of}
use Rattle.bolt_core.specs.States.{reads}
use Rattle.bolt_core.specs.Verdicts.{IsClosedIn}
use Rattle.bolt_core.proofs.BoardKeeps.{board_keeps}
use Rattle.bolt_core.proofs.Leading.{anchored_node, kills_lead}
use Rattle.bundle_make.specs.Bundling.{IsBare, IsLead, LeadsOn}
use Rattle.bundle_make.specs.steps.Leading.{IsOnLevel, IsOnWay}

-- Levels

module _ (ns : List Node) (t : AreLevelled ns) where
  parent_level : (i : ℕ) (n : Node) (p : ℕ) → slice_get ns i ≡ Some n → n.parent ≡ Some p →
      (m : Node) × (slice_get ns p ≡ Some m) × (n.level ≡ suc m.level)
  parent_level i n p at above = let h = subst (λ o. Placed ns i o n.level) above (t.placed i n at) in (h.1, h.2, h.3)

  pub above_low : (level : ℕ) {i a : ℕ} → IsAbove ns level i a → (n : Node) → slice_get ns i ≡ Some n → level ≤ n.level
  above_low level {i} (own m at is) n there = omega (arith, is, ap (λ (x : Node). x.level) (same_Some m n (sym at ∙ there)))
  above_low level {i} (up m p at parent more) n there =
      let w = parent_level i m p at parent in
      omega (arith, above_low level more w.0 w.1, w.2, ap (λ (x : Node). x.level) (same_Some m n (sym at ∙ there)))

  -- a query of the level itself has none above
  not_above : (level i a : ℕ) (n : Node) (p : ℕ) → slice_get ns i ≡ Some n → n.level ≡ level → n.parent ≡ Some p →
      IsAbove ns level p a → ⊥
  not_above level i a n p at is parent more =
      let w = parent_level i n p at parent in
      omega (arith, above_low level more w.0 w.1, w.2, is)

  pub above_one : (level : ℕ) {i x y : ℕ} → IsAbove ns level i x → IsAbove ns level i y → x ≡ y
  above_one level {i} (own m at is) (own n there also) = refl
  above_one level {i} {x} {y} (own m at is) (up n p there parent more) =
      absurd (not_above level i y n p there (ap (λ (z : Node). z.level) (same_Some n m (sym there ∙ at)) ∙ is) parent more)
  above_one level {i} {x} (up m p at parent more) (own n there is) =
      absurd (not_above level i x m p at (ap (λ (z : Node). z.level) (same_Some m n (sym at ∙ there)) ∙ is) parent more)
  above_one level {i} {x} {y} (up m p at parent more) (up n q there above rest) =
      let same : q ≡ p = same_Some q p (sym above ∙ (ap (λ (z : Node). z.parent) (same_Some n m (sym there ∙ at)) ∙ parent)) in
      above_one level more (subst (λ k. IsAbove ns level k y) same rest)

module _ (b : Shown) (h : IsBoard b) where
  keeps : Keeps (reads b.graphs) b.asserts b.core
  keeps = board_keeps b h

  pub node_within : (i : ℕ) (n : Node) → slice_get b.core.nodes i ≡ Some n → i < length b.core.entries
  node_within i n at = omega (arith, slice_get_within b.core.nodes i n at, keeps.paired.count)

  -- The way up

  pub way_begins : (level left i : ℕ) → IsOnLevel b.core.nodes (level + left) i → IsOnWay b.core.nodes level i left i
  way_begins level left i o = record { on = o; way = λ x a. a }

  pub way_goes : (level i upto k a : ℕ) → k < upto → IsOnWay b.core.nodes level i (upto - k) a → (es : List (Entry Seen)) →
      es ≡ b.core.entries → (o : Option ℕ) → ((e : Entry Seen) → slice_get es a ≡ Some e → o ≡ e.parent) →
      (p : ℕ) × (o ≡ Some p) × IsOnWay b.core.nodes level i (upto - (k + 1)) p
  way_goes level i upto k a lt w es same o read =
      let n = w.on.node in
      let e = present b.core.entries a (node_within a n w.on.at) in
      by_parent n.parent refl (read e.0 (ap (λ (xs : List (Entry Seen)). slice_get xs a) same ∙ e.1)
      ∙ keeps.paired.parents a e.0 n e.1 w.on.at) (keeps.levelled.placed a n w.on.at)
    where
      by_parent : (p : Option ℕ) → w.on.node.parent ≡ p → o ≡ w.on.node.parent → Placed b.core.nodes a w.on.node.parent w.on.node.level →
          (p : ℕ) × (o ≡ Some p) × IsOnWay b.core.nodes level i (upto - (k + 1)) p
      by_parent None is here placed =
          absurd (omega (arith, lt, subst (λ q. Placed b.core.nodes a q w.on.node.level) is placed, w.on.is_level))
      by_parent (Some p) is here placed =
          let d : Placed b.core.nodes a (Some p) w.on.node.level = subst (λ q. Placed b.core.nodes a q w.on.node.level) is placed in (
            p,
            here ∙ is,
            record {
              on = record { node = d.1; at = d.2; is_level = omega (arith, lt, d.3, w.on.is_level) };
              way = λ x above. w.way x (up w.on.node p w.on.at is above);
            },
          )

  pub way_ends : (level i a : ℕ) → IsOnWay b.core.nodes level i 0 a → IsAbove b.core.nodes level i a
  way_ends level i a w = w.way a (own w.on.node w.on.at (omega (arith, w.on.is_level)))

  -- A closed query

  module _ (i : ℕ) (s : Seen) (c : IsClosedIn b i s closing.NotMay) where
    pub closed_level : IsOnLevel b.core.nodes s.level i
    closed_level = record {
      node = c.node;
      at = c.node_at;
      is_level = sym (keeps.payloads.payloads i c.own c.node c.at c.node_at s c.payload).level;
    }

    pub closed_same : (t : Seen) → IsClosedIn b i t closing.NotMay → t ≡ s
    closed_same t d =
        let same : d.own ≡ c.own = same_Some d.own c.own (sym d.at ∙ c.at) in
        same_Some t s (sym d.payload ∙ (ap (λ (e : Entry Seen). e.payload) same ∙ c.payload))

    -- what a kill by this level leads to is above the query
    pub led_within : (level x : ℕ) → IsAbove b.core.nodes level i x → level ≤ s.level
    led_within level x a = omega (
      arith,
      above_low b.core.nodes keeps.levelled level a c.node c.node_at,
      (keeps.payloads.payloads i c.own c.node c.at c.node_at s c.payload).level,
    )

  -- Kills

  pub lead_one : (i : ℕ) (s : Seen) (by : Killer) (x y : ℕ) → IsLead b i s by x → IsLead b i s by y → x ≡ y
  lead_one i s (killer.Certificate c) x y p q = absurd p
  lead_one i s (killer.Table place proof) x y p q = same_Some x y (sym p ∙ q)
  lead_one i s (killer.Child number) x y p q =
      p.2 ∙ (ap (λ (e : Asked). e.child) (same_Some p.0 q.0 (sym p.1 ∙ q.1)) ∙ sym q.2)
  lead_one i s (killer.Ancestor level proof) x y p q = above_one b.core.nodes keeps.levelled level p q

  -- a query to which a kill leads is anchored
  module _ (none : b.core.kept ≡ []) where
    pub behind_none : (place : ℕ) → place - length b.core.kept ≡ place
    behind_none place = omega (arith, ap length none)

    pub lead_anchored : (i : ℕ) (s : Seen) (by : Killer) → LeadsTo b i s by → (x : ℕ) → IsLead b i s by x →
        (l : ℕ) × IsAnchored b.core.nodes l x
    lead_anchored i s (killer.Certificate c) t x p = absurd p
    lead_anchored i s (killer.Table place proof) t x p = ⊎_elim (λ lt. absurd (omega (arith, lt, ap length none)))
        (λ w.
        let same : w.2 ≡ x = same_Some w.2 x (sym w.3 ∙ (ap (slice_get (origins_of b)) (behind_none place) ∙ p)) in
        (w.4.level, subst (λ k. IsAnchored b.core.nodes w.4.level k) same w.4.anchored))
        t
    lead_anchored i s (killer.Child number) t x p =
        let same : t.0.child ≡ x = ap (λ (e : Asked). e.child) (same_Some t.0 p.0 (sym t.1 ∙ p.1)) ∙ sym p.2 in
        (t.2.level, subst (λ k. IsAnchored b.core.nodes t.2.level k) same t.2.anchored)
    lead_anchored i s (killer.Ancestor level proof) t x p =
        let same : t.2 ≡ x = above_one b.core.nodes keeps.levelled level t.3 p in
        (t.4.level, subst (λ k. IsAnchored b.core.nodes t.4.level k) same t.4.anchored)

  pub anchored_within : (x : ℕ) → ((l : ℕ) × IsAnchored b.core.nodes l x) → x < length b.core.entries
  anchored_within x a = let n = anchored_node b.core.nodes a.0 a.1 in node_within x n.0 n.1

  pub leads_anchored : IsBare b → (i x : ℕ) → ((l : ℕ) × IsAnchored b.core.nodes l i) → LeadsOn b i x →
      (l : ℕ) × IsAnchored b.core.nodes l x
  leads_anchored bare i x a d =
      lead_anchored bare.none i d.state d.by (kills_lead b h bare.unsaid i a.0 a.1 d.state d.closed d.place d.edge d.by d.kill) x d.lead
