-- What is reported to a state of its asked queries is true.
use Rattle.std.proofs.Common.{◌≡◌, ℕ, zero, suc, ◌<◌, List, [], ◌∷◌, ◌++◌, length, take, Option, Some, None, refl, sym, ap, ◌∙◌, subst, arith}
use Rattle.std.specs.Prelude.{slice_get}
use Rattle.summary_form.specs.declared.query.Query.{Query}
use Rattle.query_rules.specs.declared.step.Asked.{Asked}
use Rattle.query_rules.specs.declared.step.News.{News}
use Rattle.query_rules.specs.declared.step.News.TheVariants as news
use Rattle.query_rules.specs.States.{StaysNews}
use Rattle.bolt_core.specs.declared.slot.ClosedAs.TheVariants as how
use Rattle.bolt_core.specs.Groups.{Node, ancestors}
use Rattle.bolt_core.specs.Histories.{Told, asks_by, asks_of, closed_as}
use Rattle.bolt_core.specs.Keeps.{GivenBy}
use Rattle.bolt_core.specs.KeptNodes.{KeepsNodes}
use Rattle.bolt_core.specs.Lawful.{GivenFrom, IsTrueNews, MayTell, levels_of}
use Rattle.bolt_core.specs.Machine.{AllOf, Core, IsNews, IsSound, Job, Matches, Reads}
use Rattle.bolt_core.proofs.Agreeing.{IsAsk}
use Rattle.bolt_core.proofs.Lines.{ancestors_line, line_step}
use Rattle.bolt_core.proofs.Truths.{all_append}

-- what holds of all holds of each
pub all_at : {X : Type 0} (P : X → Type 0) (xs : List X) (i : ℕ) (x : X) → AllOf P xs → slice_get xs i ≡ Some x → P x
all_at P [] i x h at = absurd (cc)
all_at P (y ∷ xs) zero x h at =
    let s : Some y ≡ Some x = at in
    let e : y ≡ x = cc in
    subst P e h.0
all_at P (y ∷ xs) (suc i) x h at = all_at P xs i x h.1 at

all_first : {X : Type 0} (P : X → Type 0) (xs ys : List X) → AllOf P (xs ++ ys) → AllOf P xs × AllOf P ys
all_first P [] ys h = (tt, h)
all_first P (x ∷ xs) ys h = let r = all_first P xs ys h.1 in ((h.0, r.0), r.1)

-- what holds of all that the history asked holds of what a beginning asked
asks_earlier : (P : ℕ × Query → Type 0) (h : List Told) (t i : ℕ) → AllOf P (asks_of h i) → AllOf P (asks_of (take t h) i)
asks_earlier P [] zero i a = tt
asks_earlier P [] (suc t) i a = tt
asks_earlier P (x ∷ h) zero i a = tt
asks_earlier P (x ∷ h) (suc t) i a =
    let r = all_first P (asks_by i x) (asks_of h i) a in
    all_append P (asks_by i x) (asks_of (take t h) i) r.0 (asks_earlier P h t i r.1)

-- the entry at a place is that of the Ask at that place
pub entry_matched : (as' : List Asked) (cs : List (ℕ × Query)) (more i : ℕ) (a : Asked) → Matches as' cs more →
    slice_get as' i ≡ Some a → i < length cs →
    (x : ℕ × Query) × (slice_get cs i ≡ Some x) × (a.child ≡ x.0) × (a.query ≡ x.1)
entry_matched [] [] more i a m at lt = absurd (omega (arith, lt))
entry_matched [] (x ∷ cs) more i a m at lt = absurd m
entry_matched (b ∷ as') [] more i a m at lt = absurd (omega (arith, lt))
entry_matched (b ∷ as') (x ∷ cs) more zero a m at lt =
    let s : Some b ≡ Some a = at in
    let e : b ≡ a = cc in
    (x, refl, ap (λ (z : Asked). z.child) (sym e) ∙ m.0, ap (λ (z : Asked). z.query) (sym e) ∙ m.1)
entry_matched (b ∷ as') (x ∷ cs) more (suc i) a m at lt = entry_matched as' cs more i a m.2 at (omega (arith, lt))

-- as many entries as Asks
pub entry_within : (as' : List Asked) (cs : List (ℕ × Query)) (i : ℕ) (a : Asked) → Matches as' cs 0 → slice_get as' i ≡ Some a →
    i < length cs
entry_within [] cs i a m at = absurd (cc)
entry_within (b ∷ as') [] i a m at = absurd (omega (arith, m.0))
entry_within (b ∷ as') (x ∷ cs) zero a m at = omega arith
entry_within (b ∷ as') (x ∷ cs) (suc i) a m at = omega (arith, entry_within as' cs i a m.2 at)

module _ {S : Type 0} (R : Reads S) where
  given_from : (levels : List Query) (q : Query) (low : Option ℕ) → GivenBy R.nm levels q (Some (how.NotMay low)) →
      GivenFrom R.nm levels q low
  given_from levels q None h = h
  given_from levels q (Some j) h = h

  module _ (c : Core S) (k : KeepsNodes R c) (i : ℕ) (n : Node) (at : slice_get c.nodes i ≡ Some n) (s : S)
      (query : R.query s ≡ n.query) (above : R.above s ≡ ancestors c.nodes i n.parent) where
    -- as what a child closed is true for its parent
    pub true_news : (child : ℕ) (q : Query) → IsAsk c.nodes i (child, q) → (known : News) → IsNews known (closed_as c.history child) →
        IsTrueNews R s q known
    true_news child q a news.Waiting h = tt
    true_news child q a news.Starved h = tt
    true_news child q a news.Must h = tt
    true_news child q a (news.Stuck kind) h = tt
    true_news child q a (news.NotMay low) h =
        let m : Node = a.0 in
        let shut : m.closed ≡ Some (how.NotMay low) = k.agrees.closed child m a.1 ∙ h in
        let given : GivenBy R.nm (ancestors c.nodes child m.parent) m.query (Some (how.NotMay low)) =
        subst (GivenBy R.nm (ancestors c.nodes child m.parent) m.query) shut (k.given.given child m a.1) in
        let up : ancestors c.nodes child m.parent ≡ levels_of R s =
        ancestors_line c.nodes k.levelled child m i a.1 a.2
        ∙ (line_step c.nodes k.levelled i n at
        ∙ (ap (λ qs. qs ++ n.query ∷ []) (sym above) ∙ ap (λ q. R.above s ++ q ∷ []) (sym query))) in
        subst (λ q. GivenFrom R.nm (levels_of R s) q low) a.3
        (given_from (levels_of R s) m.query low
        (subst (λ qs. GivenBy R.nm qs m.query (Some (how.NotMay low))) up given))

    -- of an entry that matches its Ask
    pub may_tell : (t more : ℕ) → Matches (R.entries s) (asks_of (take t c.history) i) more → (number : ℕ) (a : Asked) →
        slice_get (R.entries s) number ≡ Some a → number < length (asks_of (take t c.history) i) → (known : News) →
        StaysNews a.news known → IsNews known (closed_as c.history a.child) → MayTell R s number known
    may_tell t more m number a there lt known stays news =
        let x = entry_matched (R.entries s) (asks_of (take t c.history) i) more number a m there lt in
        let ask : IsAsk c.nodes i x.0 = all_at (IsAsk c.nodes i) (asks_of (take t c.history) i) number x.0
        (asks_earlier (IsAsk c.nodes i) c.history t i (k.agrees.asked i)) x.1 in
        let own : IsAsk c.nodes i (a.child, a.query) =
        let d = x.2 in let q = x.3 in
        (ask.0, ap (slice_get c.nodes) d ∙ ask.1, ask.2, ask.3 ∙ sym q) in
        record {
          entry = a;
          there = there;
          stays = stays;
          is_true = true_news a.child a.query own known news;
        }

  -- a sound job may hear how its children closed
  pub told_true : (c : Core S) → KeepsNodes R c → (j : Job S) → IsSound R c.kept c.history c.nodes j → (i : ℕ) (a : Asked) →
      slice_get (R.entries j.state) i ≡ Some a → i < length (asks_of (take j.taken c.history) j.id) → (known : News) →
      StaysNews a.news known → IsNews known (closed_as c.history a.child) → MayTell R j.state i known
  told_true c k j s i a at lt known stays news =
      may_tell c k j.id s.node s.node_at j.state s.query s.above j.taken _ s.entries i a at lt known stays news
