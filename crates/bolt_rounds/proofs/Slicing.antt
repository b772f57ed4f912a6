-- What legal steps make of the asked entries, and what the last of them says.
use Rattle.std.proofs.Common.{◌≡◌, ℕ, zero, suc, ◌-◌, ◌≤◌, List, [], ◌∷◌, ◌++◌, length, take, drop, true, Option, Some, None, refl, sym, ap, ◌∙◌, subst, append_assoc, arith}
use Rattle.std.specs.Prelude.{slice_get, ◌==◌, cond}
use Rattle.std.proofs.lemmas.Bool.{and_parts}
use Rattle.std.proofs.lemmas.List.{append-nil, length-append, take-append-drop}
use Rattle.std.proofs.lemmas.Option.{same_Some}
use Rattle.std.proofs.Math.Seq.{drop-append_seam}
use Rattle.infeasible_cert.specs.declared.certificate.Certificate.{Certificate}
use Rattle.flow_graph.specs.declared.graph.Graph.{Graph}
use Rattle.may_partition.specs.Parted.{same_edge}
use Rattle.may_partition.specs.declared.region.RegionEdge.{RegionEdge}
use Rattle.query_tree.proofs.Tests.{cond_eq}
use Rattle.summary_form.specs.declared.query.Query.{Query}
use Rattle.summary_form.specs.declared.summary.Summary.{Summary}
use Rattle.query_rules.specs.Closings.{IsWaiting}
use Rattle.query_rules.specs.Paths.{awaits, is_awaited, is_waiting}
use Rattle.query_rules.specs.Steps.{Model, stepped, updated, with_news}
use Rattle.query_rules.specs.declared.step.Asked.{Asked}
use Rattle.query_rules.specs.declared.step.News.{News}
use Rattle.query_rules.specs.declared.step.News.TheVariants as news
use Rattle.query_rules.specs.declared.step.Step.{Step}
use Rattle.query_rules.specs.declared.step.Step.TheVariants as step
use Rattle.query_rules.proofs.Effects.{one_step_more}
use Rattle.query_rules.proofs.Finding.{any_at}
use Rattle.punch_step.specs.Slices.{AllSee, AsksLast, GoOnBefore, GoesOn, SeesAll, after_steps, last_step}
use Rattle.bolt_core.specs.declared.slot.ClosedAs.{ClosedAs}
use Rattle.bolt_core.specs.Histories.{Told, named, table_of}
use Rattle.bolt_core.specs.Machine.{AllOf, IsNews, Last, Matches, a_feed, an_ask, asks_more, other}
use Rattle.bolt_core.specs.States.{last_as, last_of, seen_by, seen_in}
use Rattle.bolt_core.proofs.LastAsks.{last_push}
use Rattle.bolt_core.proofs.Truths.{all_append}

-- The asked entries

abbrev pub fresh_entry : RegionEdge → Query → Asked
fresh_entry k q = record { edge = k; query = q; child = 0; news = news.Waiting }

abbrev pub asked_after : Option Step → List Asked → List Asked
asked_after None xs = xs
asked_after (Some (step.Ask k q follows seen)) xs = xs ++ fresh_entry k q ∷ []
asked_after (Some (step.Feed i)) xs = updated (with_news news.Waiting) xs i
asked_after (Some (step.Extend k n point)) xs = xs
asked_after (Some (step.Split k atoms follows proofs)) xs = xs
asked_after (Some (step.Kill k by)) xs = xs
asked_after (Some (step.CallExtend k n place point)) xs = xs
asked_after (Some (step.CallSplit k place atoms follows proofs)) xs = xs
asked_after (Some (step.CallPart k by atom atoms follows proofs)) xs = xs
asked_after (Some (step.Stuck k why seen)) xs = xs

asked_goes : (s : Step) (xs : List Asked) → GoesOn s → asked_after (Some s) xs ≡ xs
asked_goes (step.Ask k q follows seen) xs go = absurd go
asked_goes (step.Feed i) xs go = absurd go
asked_goes (step.Extend k n point) xs go = refl
asked_goes (step.Split k atoms follows proofs) xs go = refl
asked_goes (step.Kill k by) xs go = refl
asked_goes (step.CallExtend k n place point) xs go = refl
asked_goes (step.CallSplit k place atoms follows proofs) xs go = refl
asked_goes (step.CallPart k by atom atoms follows proofs) xs go = refl
asked_goes (step.Stuck k why seen) xs go = refl

module _ (g : Graph) (table : List Summary) where
  one_asked : (s : Step) (m : Model) → (stepped g table s m).asked ≡ asked_after (Some s) m.asked
  one_asked (step.Ask k q follows seen) m = refl
  one_asked (step.Feed i) m = refl
  one_asked (step.Extend k n point) m = refl
  one_asked (step.Split k atoms follows proofs) m = refl
  one_asked (step.Kill k by) m = refl
  one_asked (step.CallExtend k n place point) m = refl
  one_asked (step.CallSplit k place atoms follows proofs) m = refl
  one_asked (step.CallPart k by atom atoms follows proofs) m = refl
  one_asked (step.Stuck k why seen) m = refl

  -- of steps one after the other the last alone touches the asked entries
  pub all_asked : (steps : List Step) (m : Model) → GoOnBefore steps →
      (after_steps g table steps m).asked ≡ asked_after (last_step steps) m.asked
  all_asked [] m go = refl
  all_asked (s ∷ []) m go = one_asked s m
  all_asked (s ∷ t ∷ steps) m go =
      all_asked (t ∷ steps) (stepped g table s m) go.1
      ∙ ap (asked_after (last_step (t ∷ steps))) (one_asked s m ∙ asked_goes s m.asked go.0)

  pub all_stored : (steps : List Step) (m : Model) → (after_steps g table steps m).steps ≡ m.steps ++ steps
  all_stored [] m = sym (append-nil m.steps)
  all_stored (s ∷ steps) m =
      all_stored steps (stepped g table s m)
      ∙ (ap (λ (xs : List Step). xs ++ steps) (one_step_more g table s m) ∙ append_assoc m.steps (s ∷ []) steps)

-- The last step

pub last_from : (xs steps : List Step) (s : Step) → last_step steps ≡ Some s → last_of (xs ++ steps) ≡ last_as s
last_from xs [] s e = absurd (let no' : None ≡ Some s = e in cc)
last_from xs (t ∷ []) s e = last_push xs t ∙ ap last_as (same_Some t s e)
last_from xs (t ∷ u ∷ steps) s e =
    ap last_of (sym (append_assoc xs (t ∷ []) (u ∷ steps))) ∙ last_from (xs ++ t ∷ []) (u ∷ steps) s e

pub some_last : (steps : List Step) → 1 ≤ length steps → (s : Step) × (last_step steps ≡ Some s)
some_last [] le = absurd (omega (arith, le))
some_last (s ∷ []) le = (s, refl)
some_last (s ∷ t ∷ steps) le = some_last (t ∷ steps) (omega arith)

pub last_counts : (steps : List Step) (s : Step) → last_step steps ≡ Some s → 1 ≤ length steps
last_counts [] s e = absurd (let no' : None ≡ Some s = e in cc)
last_counts (t ∷ steps) s e = omega arith

pub no_steps : (steps : List Step) → last_step steps ≡ None → length steps ≡ 0
no_steps [] e = refl
no_steps (s ∷ []) e = absurd (let no' : Some s ≡ None = e in cc)
no_steps (s ∷ t ∷ steps) e = absurd (omega (arith, no_steps (t ∷ steps) e))

-- a last Ask is one of the machine too
pub asks_at_last : (s : Step) (steps : List Step) (q : Query) → last_step steps ≡ Some s → last_as s ≡ an_ask q → AsksLast steps
asks_at_last (step.Ask k p follows seen) steps q e is = (k, p, follows, seen, e)
asks_at_last (step.Feed i) steps q e is = absurd (cc)
asks_at_last (step.Extend k n point) steps q e is = absurd (cc)
asks_at_last (step.Split k atoms follows proofs) steps q e is = absurd (cc)
asks_at_last (step.Kill k by) steps q e is = absurd (cc)
asks_at_last (step.CallExtend k n place point) steps q e is = absurd (cc)
asks_at_last (step.CallSplit k place atoms follows proofs) steps q e is = absurd (cc)
asks_at_last (step.CallPart k by atom atoms follows proofs) steps q e is = absurd (cc)
asks_at_last (step.Stuck k why seen) steps q e is = absurd (cc)

-- where no last step is an Ask or a Feed, the entries are as they were
pub quiet_asked : (o : Option Step) (xs : List Asked) → ((k : RegionEdge) (q : Query) (follows : List Certificate) (seen : ℕ) →
    o ≡ Some (step.Ask k q follows seen) → ⊥) →
    ((i : ℕ) → o ≡ Some (step.Feed i) → ⊥) → asked_after o xs ≡ xs
quiet_asked None xs a f = refl
quiet_asked (Some (step.Ask k q follows seen)) xs a f = absurd (a k q follows seen refl)
quiet_asked (Some (step.Feed i)) xs a f = absurd (f i refl)
quiet_asked (Some (step.Extend k n point)) xs a f = refl
quiet_asked (Some (step.Split k atoms follows proofs)) xs a f = refl
quiet_asked (Some (step.Kill k by)) xs a f = refl
quiet_asked (Some (step.CallExtend k n place point)) xs a f = refl
quiet_asked (Some (step.CallSplit k place atoms follows proofs)) xs a f = refl
quiet_asked (Some (step.CallPart k by atom atoms follows proofs)) xs a f = refl
quiet_asked (Some (step.Stuck k why seen)) xs a f = refl

-- They match the Asks

matches_pushed : (xs : List Asked) (cs : List (ℕ × Query)) (a : Asked) → Matches xs cs 0 → Matches (xs ++ a ∷ []) cs 1
matches_pushed [] [] a m = (refl, refl)
matches_pushed [] (c ∷ cs) a m = absurd m
matches_pushed (x ∷ xs) [] a m = absurd (omega (arith, m.0))
matches_pushed (x ∷ xs) (c ∷ cs) a m = (m.0, m.1, matches_pushed xs cs a m.2)

matches_fed : (xs : List Asked) (cs : List (ℕ × Query)) (i : ℕ) → Matches xs cs 0 →
    Matches (updated (with_news news.Waiting) xs i) cs 0
matches_fed [] cs i m = m
matches_fed (x ∷ xs) [] i m = absurd (omega (arith, m.0))
matches_fed (x ∷ xs) (c ∷ cs) zero m = m
matches_fed (x ∷ xs) (c ∷ cs) (suc i) m = (m.0, m.1, matches_fed xs cs i m.2)

asks_none : (n : ℕ) (l : Last) → n ≡ 0 → asks_more n l ≡ 0
asks_none n (an_ask q) e = ap (λ k. cond (k == 0) 0 1) e
asks_none n (a_feed i) e = refl
asks_none n other e = refl

asks_one : (n : ℕ) (q : Query) → 1 ≤ n → asks_more n (an_ask q) ≡ 1
asks_one n q le = cond_eq (λ (k : ℕ). k ≡ 1) n 0 0 1 (λ d. absurd (omega (arith, d, le))) (λ _. refl)

-- before the first step none is more than the Asks
pub matches_begun : (xs : List Asked) (cs : List (ℕ × Query)) (n : ℕ) (l : Last) → n ≡ 0 → Matches xs cs (asks_more n l) → Matches xs cs 0
matches_begun xs cs n l e m = subst (Matches xs cs) (asks_none n l e) m

pub matches_none : (xs : List Asked) (cs : List (ℕ × Query)) (n : ℕ) (l : Last) → n ≡ 0 → Matches xs cs 0 → Matches xs cs (asks_more n l)
matches_none xs cs n l e m = subst (Matches xs cs) (sym (asks_none n l e)) m

pub matches_last : (s : Step) (xs : List Asked) (cs : List (ℕ × Query)) (n : ℕ) → 1 ≤ n → Matches xs cs 0 →
    Matches (asked_after (Some s) xs) cs (asks_more n (last_as s))
matches_last (step.Ask k q follows seen) xs cs n le m =
    subst (Matches (xs ++ fresh_entry k q ∷ []) cs) (sym (asks_one n q le)) (matches_pushed xs cs (fresh_entry k q) m)
matches_last (step.Feed i) xs cs n le m = matches_fed xs cs i m
matches_last (step.Extend k t point) xs cs n le m = m
matches_last (step.Split k atoms follows proofs) xs cs n le m = m
matches_last (step.Kill k by) xs cs n le m = m
matches_last (step.CallExtend k t place point) xs cs n le m = m
matches_last (step.CallSplit k place atoms follows proofs) xs cs n le m = m
matches_last (step.CallPart k by atom atoms follows proofs) xs cs n le m = m
matches_last (step.Stuck k why seen) xs cs n le m = m

-- Their news

module _ (closes : ℕ → Option ClosedAs) where
  abbrev pub IsTold : Asked → Type 0
  IsTold a = IsNews a.news (closes a.child)

  news_fed : (xs : List Asked) (i : ℕ) → AllOf IsTold xs → AllOf IsTold (updated (with_news news.Waiting) xs i)
  news_fed [] i h = h
  news_fed (x ∷ xs) zero h = (tt, h.1)
  news_fed (x ∷ xs) (suc i) h = (h.0, news_fed xs i h.1)

  pub news_after : (o : Option Step) (xs : List Asked) → AllOf IsTold xs → AllOf IsTold (asked_after o xs)
  news_after None xs h = h
  news_after (Some (step.Ask k q follows seen)) xs h = all_append IsTold xs (fresh_entry k q ∷ []) h (tt, tt)
  news_after (Some (step.Feed i)) xs h = news_fed xs i h
  news_after (Some (step.Extend k n point)) xs h = h
  news_after (Some (step.Split k atoms follows proofs)) xs h = h
  news_after (Some (step.Kill k by)) xs h = h
  news_after (Some (step.CallExtend k n place point)) xs h = h
  news_after (Some (step.CallSplit k place atoms follows proofs)) xs h = h
  news_after (Some (step.CallPart k by atom atoms follows proofs)) xs h = h
  news_after (Some (step.Stuck k why seen)) xs h = h

waiting_is : (k : News) → is_waiting k ≡ true → k ≡ news.Waiting
waiting_is news.Waiting e = refl
waiting_is news.Starved e = absurd (cc)
waiting_is (news.NotMay low) e = absurd (cc)
waiting_is news.Must e = absurd (cc)
waiting_is (news.Stuck kind) e = absurd (cc)

-- a state that waits awaits an asked query
pub some_awaited : (g : Graph) (m : Model) → IsWaiting g m →
    (i : ℕ) × (a : Asked) × (slice_get m.asked i ≡ Some a) × (a.news ≡ news.Waiting)
some_awaited g m w =
    let e = any_at (is_awaited m.asked) w.path (w.each w.path w.is_path w.free) in
    let a = any_at (awaits e.1) m.asked e.3 in
    (a.0, a.1, a.2, waiting_is a.1.news (and_parts (same_edge a.1.edge e.1) (is_waiting a.1.news) a.3).1)

-- What they have seen

seen_one : (low n : ℕ) (s : Step) → low ≤ n → SeesAll n s → AllOf (λ k. low ≤ k) (seen_by s)
seen_one low n (step.Ask k q follows seen) le h = (omega (arith, le, h), tt)
seen_one low n (step.Stuck k why seen) le h = (omega (arith, le, h), tt)
seen_one low n (step.Feed i) le h = tt
seen_one low n (step.Extend k t point) le h = tt
seen_one low n (step.Split k atoms follows proofs) le h = tt
seen_one low n (step.Kill k by) le h = tt
seen_one low n (step.CallExtend k t place point) le h = tt
seen_one low n (step.CallSplit k place atoms follows proofs) le h = tt
seen_one low n (step.CallPart k by atom atoms follows proofs) le h = tt

pub seen_all : (low n : ℕ) (steps : List Step) → low ≤ n → AllSee n steps → AllOf (λ k. low ≤ k) (seen_in steps)
seen_all low n [] le h = tt
seen_all low n (s ∷ steps) le h =
    all_append (λ k. low ≤ k) (seen_by s) (seen_in steps) (seen_one low n s le h.0) (seen_all low n steps le h.1)

-- the last n of the steps are those that were made
pub last_made : (xs steps : List Step) (n : ℕ) → length steps ≡ n → drop (length (xs ++ steps) - n) (xs ++ steps) ≡ steps
last_made xs steps n e =
    let k : length (xs ++ steps) - n ≡ length xs = omega (arith, length-append xs steps, e) in
    ap (λ i. drop i (xs ++ steps)) k ∙ drop-append_seam xs steps

-- the table grows with the history
table_joined : (h l : List Told) → table_of (h ++ l) ≡ table_of h ++ table_of l
table_joined [] l = refl
table_joined (e ∷ h) l =
    ap (λ (ss : List Summary). named e ++ ss) (table_joined h l) ∙ sym (append_assoc (named e) (table_of h) (table_of l))

pub table_longer : (ks : List Summary) (h : List Told) (n : ℕ) → length (ks ++ table_of (take n h)) ≤ length (ks ++ table_of h)
table_longer ks h n =
    let e : table_of h ≡ table_of (take n h) ++ table_of (drop n h) =
    ap table_of (sym (take-append-drop n h)) ∙ table_joined (take n h) (drop n h) in
    omega (
      arith,
      ap (λ (ss : List Summary). length ss) e,
      length-append (table_of (take n h)) (table_of (drop n h)),
      length-append ks (table_of (take n h)),
      length-append ks (table_of h),
    )
