-- What a state keeps of the kills that it made.
use Rattle.std.proofs.Common.{◌≡◌, ⊎_elim, ℕ, zero, suc, ◌<◌, List, [], ◌∷◌, ◌++◌, length, take, Option, Some, None, arith, refl, sym, subst, ap, ◌∙◌}
use Rattle.std.specs.Prelude.{slice_get}
use Rattle.std.proofs.lemmas.Option.{same_Some, none-some, slice_get_within}
use Rattle.std.proofs.lemmas.List.{length-append}
use Rattle.infeasible_cert.specs.declared.certificate.Certificate.{Certificate}
use Rattle.flow_graph.specs.declared.graph.Graph.{Graph}
use Rattle.summary_form.specs.declared.query.Query.{Query}
use Rattle.summary_form.specs.declared.summary.Summary.{Summary}
use Rattle.summary_form.specs.declared.summary.Summary.TheVariants.{NotMay}
use Rattle.may_partition.specs.declared.region.RegionEdge.{RegionEdge}
use Rattle.may_partition.proofs.Pieces.{lookup_append, get_left}
use Rattle.query_rules.specs.Leaning.{least}
use Rattle.query_rules.specs.Legal.{IsLegal, Kills}
use Rattle.query_rules.specs.Rows.{levels_known}
use Rattle.query_rules.specs.States.{Happening, made, heard, after, AllHappen, after_all, IsStateOf, StaysNews, Tells}
use Rattle.query_rules.specs.Steps.{Model, begin_model, leans_on, lowest_of, news_lowest, stepped, updated, with_child, with_news}
use Rattle.query_rules.specs.declared.step.Asked.{Asked}
use Rattle.query_rules.specs.declared.step.Killer.{Killer}
use Rattle.query_rules.specs.declared.step.Killer.TheVariants as killer
use Rattle.query_rules.specs.declared.step.News.{News}
use Rattle.query_rules.specs.declared.step.News.TheVariants as news
use Rattle.query_rules.specs.declared.step.Step.{Step}
use Rattle.query_rules.specs.declared.step.Step.TheVariants as step
use Rattle.query_rules.proofs.Reaching.{take_get}
use Rattle.query_rules.specs.Killed.{Covers, KilledByChild, IsKilledBy}

-- Leanings

covers_more : (low l more : Option ℕ) → Covers low l → Covers (least low more) l
covers_more low None more h = tt
covers_more None (Some j) more h = absurd h
covers_more (Some m) (Some j) None h = h
covers_more (Some m) (Some j) (Some k) h = omega (arith, h)

covers_new : (low l : Option ℕ) → Covers (least low l) l
covers_new low None = tt
covers_new None (Some j) = omega arith
covers_new (Some m) (Some j) = omega arith

-- Entries

-- the entry of this place stands there still, and its not-may stays
abbrev Stay : List Asked → List Asked → Type 0
Stay xs ys = (i : ℕ) (a : Asked) (low : Option ℕ) → slice_get xs i ≡ Some a → a.news ≡ news.NotMay low →
    (b : Asked) × (slice_get ys i ≡ Some b) × (b.news ≡ news.NotMay low)

stay_same : (xs : List Asked) → Stay xs xs
stay_same xs i a low at is = (a, at, is)

stay_more : (xs ys : List Asked) → Stay xs (xs ++ ys)
stay_more xs ys i a low at is = (a, get_left xs i ys a at, is)

-- of one entry the news changes, and where it was a not-may it doesn't
stay_updated : (f : Asked → Asked) (xs : List Asked) (j : ℕ) → ((a : Asked) (low : Option ℕ) → slice_get xs j ≡ Some a →
    a.news ≡ news.NotMay low → (f a).news ≡ news.NotMay low) → Stay xs (updated f xs j)
stay_updated f [] j h i a low at is = absurd (none-some a at)
stay_updated f (x ∷ xs) zero h zero a low at is =
    (f x, refl, h x low refl (ap (λ (y : Asked). y.news) (same_Some x a at) ∙ is))
stay_updated f (x ∷ xs) zero h (suc i) a low at is = (a, at, is)
stay_updated f (x ∷ xs) (suc j) h zero a low at is = (a, at, is)
stay_updated f (x ∷ xs) (suc j) h (suc i) a low at is = stay_updated f xs j h i a low at is

-- a place below the end stays one
updated_within : (f : Asked → Asked) (xs : List Asked) (i j : ℕ) → j < length xs → j < length (updated f xs i)
updated_within f [] i j h = h
updated_within f (x ∷ xs) zero j h = h
updated_within f (x ∷ xs) (suc i) zero h = omega arith
updated_within f (x ∷ xs) (suc i) (suc j) h = let k = updated_within f xs i j (omega (arith, h)) in omega (arith, k)

final : (old known : News) (low : Option ℕ) → StaysNews old known → old ≡ news.NotMay low → known ≡ news.NotMay low
final news.Waiting known low s e = absurd cc
final news.Starved known low s e = absurd cc
final (news.NotMay other) known low s e = s ∙ e
final news.Must known low s e = absurd cc
final (news.Stuck kind) known low s e = absurd cc

-- Steps

module _ (table : List Summary) where
  abbrev AllKilled : Model → Type 0
  AllKilled m = (n : ℕ) (k : RegionEdge) (by : Killer) → slice_get m.steps n ≡ Some (step.Kill k by) → IsKilledBy table m by

  abbrev Later : Model → Model → Type 0
  Later m n = (i : ℕ) → KilledByChild m i → (before : List Step) (k : RegionEdge) (q : Query) (follows : List Certificate) (seen : ℕ) →
      n.steps ≡ before ++ step.Ask k q follows seen ∷ [] → suc i < length n.asked

  kept_by : (m n : Model) → Stay m.asked n.asked → levels_known n ≡ levels_known m → (l : Option ℕ) → n.lowest ≡ least m.lowest l →
      Later m n → (by : Killer) → IsKilledBy table m by → IsKilledBy table n by
  kept_by m n stay levels l low later (killer.Certificate c) h = tt
  kept_by m n stay levels l low later (killer.Table place proof) h = h
  kept_by m n stay levels l low later (killer.Child i) h =
      let w = stay i h.entry h.low h.there h.is_news in
      record {
        entry = w.0;
        there = w.1;
        low = h.low;
        is_news = w.2;
        covered = subst (λ o. Covers o h.low) (sym low) (covers_more m.lowest h.low l h.covered);
        earlier = λ before k q follows seen e. later i h before k q follows seen e;
      }
  kept_by m n stay levels l low later (killer.Ancestor level proof) h = record {
    query = h.query;
    there = ap (λ qs. slice_get qs level) levels ∙ h.there;
    covered = subst (λ o. Covers o (Some level)) (sym low) (covers_more m.lowest (Some level) l h.covered);
  }

  -- a step is added at the end
  pushed : (m n : Model) (s : Step) → n.steps ≡ m.steps ++ s ∷ [] → AllKilled m → ((by : Killer) → IsKilledBy table m by →
      IsKilledBy table n by) → ((k : RegionEdge) (by : Killer) → s ≡ step.Kill k by → IsKilledBy table n by) → AllKilled n
  pushed m n s e all stays new j k by at =
      ⊎_elim (λ o. stays by (all j k by o.1)) (λ w. last w.0 w.2)
      (lookup_append m.steps j (s ∷ []) (step.Kill k by) (subst (λ xs. slice_get xs j ≡ Some (step.Kill k by)) e at))
    where
      last : (i : ℕ) → slice_get (s ∷ []) i ≡ Some (step.Kill k by) → IsKilledBy table n by
      last zero h = new k by (same_Some s (step.Kill k by) h)
      last (suc i) h = absurd (none-some (step.Kill k by) h)

  last_is : (xs before : List Step) (s t : Step) → xs ++ s ∷ [] ≡ before ++ t ∷ [] → s ≡ t
  last_is [] [] s t e = head_of s t [] [] e where
    head_of : (a b : Step) (ps qs : List Step) → a ∷ ps ≡ b ∷ qs → a ≡ b
    head_of a b ps qs e = cc
  last_is [] (y ∷ before) s t e = absurd (omega (arith, length-append before (t ∷ []), ap length e))
  last_is (x ∷ xs) [] s t e = absurd (omega (arith, length-append xs (s ∷ []), ap length e))
  last_is (x ∷ xs) (y ∷ before) s t e = last_is xs before s t (tail_of x y _ _ e) where
    tail_of : (a b : Step) (ps qs : List Step) → a ∷ ps ≡ b ∷ qs → ps ≡ qs
    tail_of a b ps qs e = cc

  -- after another step than an Ask
  no_ask : (m n : Model) (s : Step) → n.steps ≡ m.steps ++ s ∷ [] → ((k : RegionEdge) (q : Query) (follows : List Certificate) (seen : ℕ) →
      s ≡ step.Ask k q follows seen → ⊥) →
      Later m n
  no_ask m n s e not i h before k q follows seen f = absurd
      (not k q follows seen (last_is m.steps before s (step.Ask k q follows seen) (sym e ∙ f)))

  none_new : (n : Model) (s : Step) → ((k : RegionEdge) (by : Killer) → s ≡ step.Kill k by → ⊥) → (k : RegionEdge) (by : Killer) →
      s ≡ step.Kill k by → IsKilledBy table n by
  none_new n s not k by e = absurd (not k by e)

  -- a step that neither asks nor kills, and leaves the entries
  plain : (m n : Model) (s : Step) → n.steps ≡ m.steps ++ s ∷ [] → n.asked ≡ m.asked → levels_known n ≡ levels_known m →
      n.lowest ≡ m.lowest →
      ((k : RegionEdge) (q : Query) (follows : List Certificate) (seen : ℕ) → s ≡ step.Ask k q follows seen → ⊥) →
      ((k : RegionEdge) (by : Killer) → s ≡ step.Kill k by → ⊥) →
      AllKilled m → AllKilled n
  plain m n s e a levels low asks kills all =
      pushed m n s e all
      (kept_by m n (subst (λ xs. Stay m.asked xs) (sym a) (stay_same m.asked)) levels None (low ∙ sym (least_none m.lowest))
      (no_ask m n s e asks)) (none_new n s kills)
    where
      least_none : (o : Option ℕ) → least o None ≡ o
      least_none None = refl
      least_none (Some j) = refl

  least_none : (o : Option ℕ) → least o None ≡ o
  least_none None = refl
  least_none (Some j) = refl

  module _ (g : Graph) where
    kill_here : (m : Model) (n : ℕ) (k : RegionEdge) (by : Killer) → Kills g (take n table) m k by →
        IsKilledBy table (stepped g (take n table) (step.Kill k by) m) by
    kill_here m n k (killer.Certificate c) l = tt
    kill_here m n k (killer.Table place proof) l = (l.summary, take_get n table place (NotMay l.summary) l.there)
    kill_here m n k (killer.Child i) l = record {
      entry = l.entry;
      there = l.there;
      low = l.lowest;
      is_news = l.is_news;
      covered = subst (λ o. Covers (least m.lowest o) l.lowest) (sym (ap lowest_of l.there ∙ ap news_lowest l.is_news))
          (covers_new m.lowest l.lowest);
      earlier = λ before x q follows seen e. absurd
          (not_ask x q follows seen (last_is m.steps before (step.Kill k (killer.Child i)) (step.Ask x q follows seen)
          e));
    }
      where
        not_ask : (x : RegionEdge) (q : Query) (follows : List Certificate) (seen : ℕ) → step.Kill k (killer.Child i) ≡ step.Ask x q follows
            seen → ⊥
        not_ask x q follows seen e = cc
    kill_here m n k (killer.Ancestor level proof) l =
        record { query = l.summary; there = l.there; covered = covers_new m.lowest (Some level) }

    kill_step : (m : Model) (n : ℕ) (k : RegionEdge) (by : Killer) → Kills g (take n table) m k by → AllKilled m →
        AllKilled (stepped g (take n table) (step.Kill k by) m)
    kill_step m n k by l all =
        pushed m (stepped g (take n table) (step.Kill k by) m) (step.Kill k by) refl all
        (kept_by m (stepped g (take n table) (step.Kill k by) m) (stay_same m.asked) refl (leans_on m.asked by) refl
        (no_ask m (stepped g (take n table) (step.Kill k by) m) (step.Kill k by) refl (λ x q follows seen e. not_ask x q follows seen e)))
        (λ x other e. subst (λ b. IsKilledBy table (stepped g (take n table) (step.Kill k by) m) b) (same x other e) (kill_here m n k by l))
      where
        not_ask : (x : RegionEdge) (q : Query) (follows : List Certificate) (seen : ℕ) → step.Kill k by ≡ step.Ask x q follows seen → ⊥
        not_ask x q follows seen e = cc

        same : (x : RegionEdge) (other : Killer) → step.Kill k by ≡ step.Kill x other → by ≡ other
        same x other e = cc

    ask_step : (m : Model) (n : ℕ) (k : RegionEdge) (q : Query) (follows : List Certificate) (seen : ℕ) → AllKilled m →
        AllKilled (stepped g (take n table) (step.Ask k q follows seen) m)
    ask_step m n k q follows seen all =
        let a : Asked = record { edge = k; query = q; child = 0; news = news.Waiting } in
        pushed m (stepped g (take n table) (step.Ask k q follows seen) m) (step.Ask k q follows seen) refl all
        (kept_by m (stepped g (take n table) (step.Ask k q follows seen) m) (stay_more m.asked (a ∷ [])) refl None
        (sym (least_none m.lowest))
        (λ i h before x r f t e. omega (arith, slice_get_within m.asked i h.entry h.there, length-append m.asked (a ∷ []))))
        (none_new (stepped g (take n table) (step.Ask k q follows seen) m) (step.Ask k q follows seen) (λ x by e. not_kill x by e))
      where
        not_kill : (x : RegionEdge) (by : Killer) → step.Ask k q follows seen ≡ step.Kill x by → ⊥
        not_kill x by e = cc

    feed_step : (m : Model) (n i : ℕ) (entry : Asked) → slice_get m.asked i ≡ Some entry → entry.news ≡ news.Starved → AllKilled m →
        AllKilled (stepped g (take n table) (step.Feed i) m)
    feed_step m n i entry there starved all =
        pushed m (stepped g (take n table) (step.Feed i) m) (step.Feed i) refl all
        (kept_by m (stepped g (take n table) (step.Feed i) m) (stay_updated (with_news news.Waiting) m.asked i not_starved) refl None
        (sym (least_none m.lowest)) (no_ask m (stepped g (take n table) (step.Feed i) m) (step.Feed i) refl
        (λ x q follows seen e. not_ask x q follows seen e)))
        (none_new (stepped g (take n table) (step.Feed i) m) (step.Feed i) (λ x by e. not_kill x by e))
      where
        clash : (low : Option ℕ) → news.Starved ≡ news.NotMay low → ⊥
        clash low e = cc

        not_starved : (a : Asked) (low : Option ℕ) → slice_get m.asked i ≡ Some a → a.news ≡ news.NotMay low →
            (with_news news.Waiting a).news ≡ news.NotMay low
        not_starved a low at is = absurd (clash low (sym starved ∙ (ap (λ (x : Asked). x.news) (same_Some entry a (sym there ∙ at)) ∙ is)))

        not_ask : (x : RegionEdge) (q : Query) (follows : List Certificate) (seen : ℕ) → step.Feed i ≡ step.Ask x q follows seen → ⊥
        not_ask x q follows seen e = cc

        not_kill : (x : RegionEdge) (by : Killer) → step.Feed i ≡ step.Kill x by → ⊥
        not_kill x by e = cc

    news_told : (gs : List Graph) (m : Model) (i number : ℕ) (known : News) → Tells gs m i known → AllKilled m →
        AllKilled (after gs g table (heard i number known) m)
    news_told gs m i number known t all j k by at =
        kept_by m (after gs g table (heard i number known) m) (stay_updated (with_child number known) m.asked i stays) refl None
        (sym (least_none m.lowest))
        (λ x h before y q follows seen e. updated_within (with_child number known) m.asked i (suc x) (h.earlier before y q follows seen e))
        by
        (all j k by at)
      where
        stays : (a : Asked) (low : Option ℕ) → slice_get m.asked i ≡ Some a → a.news ≡ news.NotMay low →
            (with_child number known a).news ≡ news.NotMay low
        stays a low at2 is =
            final t.entry.news known low t.stays (ap (λ (x : Asked). x.news) (same_Some t.entry a (sym t.there ∙ at2)) ∙ is)

    step_kept : (m : Model) (n : ℕ) (s : Step) → IsLegal g (take n table) m s → AllKilled m → AllKilled (stepped g (take n table) s m)
    step_kept m n (step.Extend k trail point) l all =
        plain m (stepped g (take n table) (step.Extend k trail point) m) (step.Extend k trail point) refl refl refl refl
        (λ x q follows seen e. cc) (λ x by e. cc) all
    step_kept m n (step.Split k atoms follows proofs) l all =
        plain m (stepped g (take n table) (step.Split k atoms follows proofs) m) (step.Split k atoms follows proofs) refl refl refl refl
        (λ x q follows seen e. cc) (λ x by e. cc) all
    step_kept m n (step.Kill k by) l all = kill_step m n k by l.1 all
    step_kept m n (step.CallExtend k trail place point) l all =
        plain m (stepped g (take n table) (step.CallExtend k trail place point) m) (step.CallExtend k trail place point) refl refl refl refl
        (λ x q follows seen e. cc) (λ x by e. cc) all
    step_kept m n (step.CallSplit k place atoms follows proofs) l all =
        plain m (stepped g (take n table) (step.CallSplit k place atoms follows proofs) m) (step.CallSplit k place atoms follows proofs)
        refl refl refl refl
        (λ x q follows seen e. cc) (λ x by e. cc) all
    step_kept m n (step.CallPart k by atom atoms follows proofs) l all =
        plain m (stepped g (take n table) (step.CallPart k by atom atoms follows proofs) m) (step.CallPart k by atom atoms follows proofs)
        refl refl refl refl (λ x q follows seen e. cc) (λ x by e. cc) all
    step_kept m n (step.Ask k q follows seen) l all = ask_step m n k q follows seen all
    step_kept m n (step.Feed i) l all = feed_step m n i l.entry l.there l.starved all
    step_kept m n (step.Stuck k why seen) l all =
        plain m (stepped g (take n table) (step.Stuck k why seen) m) (step.Stuck k why seen) refl refl refl refl
        (λ x q follows seen e. cc) (λ x by e. cc) all

    all_kept : (gs : List Graph) (es : List Happening) (m : Model) → AllHappen gs g table es m → AllKilled m →
        AllKilled (after_all gs g table es m)
    all_kept gs [] m l all = all
    all_kept gs (made s n ∷ es) m l all = all_kept gs es (after gs g table (made s n) m) l.1 (step_kept m n s l.0.1 all)
    all_kept gs (heard i number known ∷ es) m l all =
        all_kept gs es (after gs g table (heard i number known) m) l.1 (news_told gs m i number known l.0 all)

pub kills_stay : (gs : List Graph) (g : Graph) (table : List Summary) (q : Query) (ancestors : List Query) (m : Model) →
    IsStateOf gs g table q ancestors m → (n : ℕ) (k : RegionEdge) (by : Killer) → slice_get m.steps n ≡ Some (step.Kill k by) →
    IsKilledBy table m by
kills_stay gs g table q ancestors m s =
    subst (λ (x : Model). (n : ℕ) (k : RegionEdge) (by : Killer) → slice_get x.steps n ≡ Some (step.Kill k by) → IsKilledBy table x by)
    (sym s.reached)
    (all_kept table g gs s.happenings (begin_model g q ancestors) s.happen (λ n k by at. absurd (none-some (step.Kill k by) at)))
