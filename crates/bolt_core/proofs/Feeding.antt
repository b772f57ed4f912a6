-- What is fed is a child of the query.
use Rattle.std.proofs.Common.{◌≡◌, arith, ℕ, zero, suc, List, [], ◌∷◌, Some, sym, ap, ◌∙◌, subst}
use Rattle.std.specs.Prelude.{slice_get, take}
use Rattle.summary_form.specs.declared.query.Query.{Query}
use Rattle.query_rules.specs.declared.step.Asked.{Asked}
use Rattle.bolt_core.specs.Groups.{Node}
use Rattle.bolt_core.specs.Histories.{Told, took, said, asked, fed, parked, closed, stopped, asks_of}
use Rattle.bolt_core.specs.Keeps.{AgreeOn, AreLinked, ArePaired}
use Rattle.bolt_core.specs.KeptEntries.{FeedsAChild}
use Rattle.bolt_core.specs.Machine.{AllOf, Core, Event, Feeds, Matches, Reads, asks_more}
use Rattle.bolt_core.proofs.Links.{quiet_is}

-- of an asked entry that matches, what is true of its Ask
pub matched : (P : ℕ → Query → Type 0) (as' : List Asked) (cs : List (ℕ × Query)) → Matches as' cs 0 →
    AllOf (λ (x : ℕ × Query). P x.0 x.1) cs → (k : ℕ) (a : Asked) → slice_get as' k ≡ Some a → P a.child a.query
matched P [] cs m h k a at = absurd (cc)
matched P (b ∷ as') [] m h k a at = absurd (omega (arith, m.0))
matched P (b ∷ as') (c ∷ cs) m h zero a at =
    let s : Some b ≡ Some a = at in
    let e : b ≡ a = cc in
    subst (λ (x : Asked). P x.child x.query) e (rw (m.0, m.1) h.0)
matched P (b ∷ as') (c ∷ cs) m h (suc k) a at = matched P as' cs m.2 h.1 k a at

module _ {S : Type 0} (R : Reads S) (old new : Core S) (l : AreLinked old.entries old.history) (g : AgreeOn old.nodes old.history)
    (p : ArePaired old.entries old.nodes) where
  fed_child : (w i n c : ℕ) → Feeds R old i n c (fed w i n c) new → FeedsAChild old (fed w i n c)
  fed_child w i n c t e at =
      let j = t.job in
      let quiet = quiet_is R old j t.own l t.sound t.since in
      let m : Matches (R.entries j.state) (asks_of old.history j.id) 0 =
      subst (λ cs. Matches (R.entries j.state) cs 0) quiet
      (subst (λ k. Matches (R.entries j.state) (asks_of (take j.taken old.history) j.id) (asks_more j.spent k)) t.last t.sound.entries) in
      let o = matched (λ x q. (n : Node) × (slice_get old.nodes x ≡ Some n) × (n.parent ≡ Some j.id) × (n.query ≡ q)) (R.entries j.state)
      (asks_of old.history j.id) m (g.asked j.id) t.number t.entry t.asked in
      let there : slice_get old.nodes c ≡ Some o.0 = ap (slice_get old.nodes) (sym t.is_child) ∙ o.1 in
      p.parents c e o.0 at there ∙ (o.2 ∙ ap Some t.id)

  pub feeds_a_child : (e : Told) → Event R old e new → FeedsAChild old e
  feeds_a_child (took w i left steps waiting) t = tt
  feeds_a_child (said w i s) t = tt
  feeds_a_child (asked w i n c q) t = tt
  feeds_a_child (fed w i n c) t = fed_child w i n c t
  feeds_a_child (parked w i n r) t = tt
  feeds_a_child (closed w i n how ss) t = tt
  feeds_a_child (stopped w) t = tt
