-- Each payload stays a state of its query, with true news, whatever event comes.
use Rattle.std.proofs.Common.{◌≡◌, ℕ, zero, suc, ◌+◌, ◌-◌, ◌<◌, ◌≤◌, List, [], ◌∷◌, ◌++◌, length, take, drop, Bool, true, false, Option, Some, refl, sym, ap, ◌∙◌, subst, ⊎_elim, arith}
use Rattle.std.specs.Prelude.{slice_get, ◌==◌, ◌&&◌}
use Rattle.std.proofs.lemmas.Bool.{cond_both, eq-eqb, ne_eqb}
use Rattle.std.proofs.lemmas.List.{append-nil, take-append-drop}
use Rattle.query_tree.specs.declared.Entry.{Entry}
use Rattle.query_tree.specs.declared.Rest.{Rest}
use Rattle.query_tree.specs.declared.Status.{Status}
use Rattle.query_tree.specs.declared.Status.TheVariants.{Closed}
use Rattle.query_tree.specs.Forest.{after_ask, after_back, after_close, after_feed, after_root, after_take, at_rest, back_as, changed, child_of, close_at, fed_at, has_live_child, is_open, is_place, is_starved, less_at, part, purse, rest_at, root_of, share, stir, take_at, woken}
use Rattle.query_tree.proofs.Close.{close_cases}
use Rattle.query_tree.proofs.Lists.{from_changed, from_pushed, length_changed, to_pushed, within}
use Rattle.query_tree.proofs.Marks.{get_pushed}
use Rattle.query_tree.proofs.Tests.{cond_eq, open_fed, open_woken}
use Rattle.summary_form.specs.declared.query.Query.{Query}
use Rattle.summary_form.specs.declared.summary.Summary.{Summary}
use Rattle.query_rules.specs.declared.step.Asked.{Asked}
use Rattle.query_rules.specs.declared.step.News.{News}
use Rattle.query_rules.specs.declared.step.News.TheVariants as news
use Rattle.query_rules.specs.Steps.{updated, with_child}
use Rattle.bolt_core.specs.declared.slot.ClosedAs.{ClosedAs}
use Rattle.bolt_core.specs.declared.slot.ClosedAs.TheVariants as how
use Rattle.bolt_core.specs.Groups.{Node, ancestors, closed_at}
use Rattle.bolt_core.specs.Histories.{Told, asked, asks_by, asks_of, closed, closed_as, fed, named, parked, said, stopped, table_of, took}
use Rattle.bolt_core.specs.Keeps.{AreLevelled, ArePayloads, AreLinked, IsPayload, Placed}
use Rattle.bolt_core.specs.KeptNodes.{KeepsNodes}
use Rattle.bolt_core.specs.Lawful.{IsLawful}
use Rattle.bolt_core.specs.Machine.{AllOf, Asks, Closes, Core, Event, Feeds, HoldsBy, IsNews, IsRoot, IsSince, IsSound, Job, Last, Matches, Parks, Reads, Says, Takes, a_feed, an_ask, asks_more, first_board, node_below, node_of_root, opening, other, shows, told_child, with_event, with_nodes}
use Rattle.bolt_core.proofs.Above.{SameNode, ancestors_changed, ancestors_pushed, close_same, levelled_pushed}
use Rattle.bolt_core.proofs.Agreeing.{IsAsk, asks_push, closed_append, orelse, kept_push}
use Rattle.bolt_core.proofs.Lines.{ancestors_line, line_step}
use Rattle.bolt_core.proofs.Links.{asks_more_of, quiet_is}
use Rattle.bolt_core.proofs.Nodes.{empty_nodes, root_nodes}
use Rattle.bolt_core.proofs.Truths.{all_map}

-- News and asked entries

pub news_stays : (k : News) (o p : Option ClosedAs) → IsNews k o → IsNews k (orelse o p)
news_stays news.Waiting o p h = tt
news_stays news.Starved o p h = tt
news_stays (news.NotMay low) o p h = subst (λ z. orelse z p ≡ Some (how.NotMay low)) (sym h) refl
news_stays news.Must o p h = subst (λ z. orelse z p ≡ Some how.Must) (sym h) refl
news_stays (news.Stuck kind) o p h = subst (λ z. orelse z p ≡ Some (how.Stuck kind)) (sym h) refl

-- what was reported stays true as more events come
pub news_later : (xs ys : List Told) (as' : List Asked) → AllOf (λ a. IsNews a.news (closed_as xs a.child)) as' →
    AllOf (λ a. IsNews a.news (closed_as (xs ++ ys) a.child)) as'
news_later xs ys = all_map (λ (a : Asked). IsNews a.news (closed_as xs a.child)) (λ a. IsNews a.news (closed_as (xs ++ ys) a.child))
    (λ a h. subst (IsNews a.news) (sym (closed_append xs ys a.child)) (news_stays a.news (closed_as xs a.child) (closed_as ys a.child) h))

pub news_since : (t : ℕ) (h : List Told) (as' : List Asked) → AllOf (λ a. IsNews a.news (closed_as (take t h) a.child)) as' →
    AllOf (λ a. IsNews a.news (closed_as h a.child)) as'
news_since t h as' k = subst (λ (xs : List Told). AllOf (λ (a : Asked). IsNews a.news (closed_as xs a.child)) as') (take-append-drop t h)
    (news_later (take t h) (drop t h) as' k)

news_told : (h : List Told) (c : ℕ) (as' : List Asked) (i : ℕ) → AllOf (λ a. IsNews a.news (closed_as h a.child)) as' →
    AllOf (λ a. IsNews a.news (closed_as h a.child)) (updated (with_child c news.Waiting) as' i)
news_told h c [] i k = tt
news_told h c (a ∷ as') zero k = (tt, k.1)
news_told h c (a ∷ as') (suc i) k = (k.0, news_told h c as' i k.1)

one_left : (as' : List Asked) (cs : List (ℕ × Query)) → length as' ≡ 0 → Matches as' cs 1 → ⊥
one_left [] [] e m = omega (arith, m)
one_left [] (x ∷ cs) e m = m
one_left (a ∷ as') cs e m = omega (arith, e)

-- the last asked entry gets its child, which the new Ask names
matches_told : (c : ℕ) (q : Query) (as' : List Asked) (cs : List (ℕ × Query)) (k : ℕ) (a : Asked) → length as' ≡ suc k →
    Matches as' cs 1 → slice_get as' k ≡ Some a → a.query ≡ q →
    Matches (updated (with_child c news.Waiting) as' k) (cs ++ (c, q) ∷ []) 0
matches_told c q [] cs k a n m at is = absurd (omega (arith, n))
matches_told c q (b ∷ as') [] zero a n m at is =
    let s : Some b ≡ Some a = at in
    let e : b ≡ a = cc in
    (refl, ap (λ (x : Asked). x.query) e ∙ is, subst (λ (xs : List Asked). Matches xs [] 0) (sym m.1) refl)
matches_told c q (b ∷ as') [] (suc k) a n m at is =
    let l = ap (λ (xs : List Asked). length xs) m.1 in absurd (omega (arith, n, l))
matches_told c q (b ∷ as') (x ∷ cs) zero a n m at is = absurd (one_left as' cs (omega (arith, n)) m.2)
matches_told c q (b ∷ as') (x ∷ cs) (suc k) a n m at is = (m.0, m.1, matches_told c q as' cs k a (omega (arith, n)) m.2 at is)

pub no_more : (n : ℕ) (l : Last) → ((q : Query) → 1 ≤ n → l ≡ an_ask q → ⊥) → asks_more n l ≡ 0
no_more n (an_ask q) f = cond_both (n == 0) 0 1 (λ m. m ≡ 0) (λ _. refl) (λ e. absurd (f q (some n e) refl)) where
  some : (n : ℕ) → (n == 0) ≡ false → 1 ≤ n
  some zero e = absurd (cc)
  some (suc n) e = omega arith
no_more n (a_feed i) f = refl
no_more n other f = refl

-- an Ask names a child, which has a node
asks_none : (ns : List Node) (i : ℕ) (cs : List (ℕ × Query)) → AreLevelled ns → length ns ≤ i → AllOf (IsAsk ns i) cs → cs ≡ []
asks_none ns i [] t le h = refl
asks_none ns i (x ∷ cs) t le h =
    let n = h.0 in
    let p : Placed ns x.0 (Some i) n.0.level = subst (λ o. Placed ns x.0 o n.0.level) n.2 (t.placed x.0 n.0 n.1) in
    absurd (omega (arith, le, within ns i p.1 p.2))

-- a node that keeps what a payload has of it
pub record SameFor (ns ms : List Node) (i : ℕ) (n m : Node) : Type 0 where
  pub query : m.query ≡ n.query
  pub level : m.level ≡ n.level
  pub above : ancestors ms i m.parent ≡ ancestors ns i n.parent

-- the node at a place was there
pub record WasFor (ns ms : List Node) (i : ℕ) (m : Node) : Type 0 where
  pub node : Node
  pub at : slice_get ns i ≡ Some node
  pub same : SameFor ns ms i node m

pub same_for : (ns : List Node) (i : ℕ) (m : Node) → slice_get ns i ≡ Some m → WasFor ns ns i m
same_for ns i m at = record { node = m; at = at; same = record { query = refl; level = refl; above = refl } }

pub pushed_for : (ns : List Node) (x : Node) → AreLevelled ns → (i : ℕ) (m : Node) → i < length ns →
    slice_get (ns ++ x ∷ []) i ≡ Some m → WasFor ns (ns ++ x ∷ []) i m
pushed_for ns x t i m lt at = ⊎_elim
    (λ b. record { node = m; at = b; same = record { query = refl; level = refl; above = ancestors_pushed ns x t i m b } })
    (λ b. absurd (omega (arith, lt, b.0)))
    (from_pushed ns x i m at)

pub changed_for : (ns : List Node) (f : ℕ → Node → Node) → ((k : ℕ) (n : Node) → SameNode n (f k n)) → (i : ℕ) (m : Node) →
    slice_get (changed f ns) i ≡ Some m → WasFor ns (changed f ns) i m
changed_for ns f same i m at =
    let r = from_changed f ns i m at in
    subst (λ (y : Node). WasFor ns (changed f ns) i y) (sym r.2) (record {
      node = r.0;
      at = r.1;
      same = record {
        query = (same i r.0).query;
        level = (same i r.0).level;
        above = ancestors_changed ns f same i (f i r.0).parent ∙ ap (ancestors ns i) (same i r.0).parent;
      };
    })

module _ {S : Type 0} (R : Reads S) where
  abbrev pub PayloadIn : Core S → ℕ → Node → Entry S → Type 0
  PayloadIn c i n e = (s : S) → e.payload ≡ Some s → IsPayload R c i n e.status s

  abbrev pub PayloadsIn : Core S → List (Entry S) → Type 0
  PayloadsIn c es = (i : ℕ) (e : Entry S) (n : Node) → slice_get es i ≡ Some e → slice_get c.nodes i ≡ Some n → PayloadIn c i n e

  payloads_changed : (c : Core S) (es : List (Entry S)) (f : ℕ → Entry S → Entry S) →
      ((k : ℕ) (x : Entry S) (n : Node) → slice_get es k ≡ Some x → slice_get c.nodes k ≡ Some n → PayloadIn c k n (f k x)) →
      PayloadsIn c (changed f es)
  payloads_changed c es f each i e n a b =
      let r = from_changed f es i e a in
      subst (PayloadIn c i n) (sym r.2) (each i r.0 n r.1 b)

  -- another status, open only if the old one was
  restated : (c : Core S) (i : ℕ) (n : Node) (st st' : Status) (s : S) → (is_open st' ≡ true → is_open st ≡ true) →
      IsPayload R c i n st s → IsPayload R c i n st' s
  restated c i n st st' s opens p = record {
    state = p.state;
    query = p.query;
    level = p.level;
    above = p.above;
    news = p.news;
    entries = λ o. p.entries (opens o);
  }

  -- At an event
  module _ (g : IsLawful R) (old new : Core S) (e : Told) (grown : new.history ≡ old.history ++ e ∷ [])
      (same_kept : new.kept ≡ old.kept) where
    state_more : (s : S) → R.IsState (old.kept ++ table_of old.history) s → R.IsState (new.kept ++ table_of new.history) s
    state_more s h = subst (λ t. R.IsState t s) (sym (ap (λ ks. ks ++ table_of new.history) same_kept
        ∙ (ap (λ h. old.kept ++ table_of h) grown ∙ kept_push old.kept old.history e)))
        (g.longer (old.kept ++ table_of old.history) (named e) s h)

    news_more : (as' : List Asked) → AllOf (λ a. IsNews a.news (closed_as old.history a.child)) as' →
        AllOf (λ a. IsNews a.news (closed_as new.history a.child)) as'
    news_more as' h = subst (λ (xs : List Told). AllOf (λ (a : Asked). IsNews a.news (closed_as xs a.child)) as') (sym grown)
        (news_later old.history (e ∷ []) as' h)

    asks_same : (i : ℕ) → asks_by i e ≡ [] → asks_of new.history i ≡ asks_of old.history i
    asks_same i none = ap (λ h. asks_of h i) grown ∙ asks_more_of old.history e i none

    pub payload_stays : (i : ℕ) (n m : Node) (st st' : Status) (s : S) → SameFor old.nodes new.nodes i n m →
        (is_open st' ≡ true → is_open st ≡ true) → asks_by i e ≡ [] → IsPayload R old i n st s → IsPayload R new i m st' s
    payload_stays i n m st st' s same opens none p = record {
      state = state_more s p.state;
      query = p.query ∙ sym same.query;
      level = p.level ∙ sym same.level;
      above = p.above ∙ sym same.above;
      news = news_more (R.entries s) p.news;
      entries = λ o. subst (λ cs. Matches (R.entries s) cs 0) (sym (asks_same i none)) (p.entries (opens o));
    }

    -- the state of a sound job
    job_payload : (j : Job S) (sound : IsSound R old.kept old.history old.nodes j) (m : Node) (st : Status) →
        SameFor old.nodes new.nodes j.id sound.node m →
        (is_open st ≡ true → Matches (R.entries j.state) (asks_of new.history j.id) 0) → IsPayload R new j.id m st j.state
    job_payload j sound m st same entries = record {
      state = state_more j.state sound.state;
      query = sound.query ∙ sym same.query;
      level = sound.level ∙ sym same.level;
      above = sound.above ∙ sym same.above;
      news = news_more (R.entries j.state) (news_since j.taken old.history (R.entries j.state) sound.news);
      entries = entries;
    }

    -- of a job whose last step isn't an Ask
    matched_job : (j : Job S) (own : Entry S) (l : AreLinked old.entries old.history) (sound : IsSound R old.kept old.history old.nodes j)
        (since : IsSince R old j own) → asks_more j.spent (R.last j.state) ≡ 0 → asks_by j.id e ≡ [] →
        Matches (R.entries j.state) (asks_of new.history j.id) 0
    matched_job j own l sound since no' none =
        subst (λ cs. Matches (R.entries j.state) cs 0) (quiet_is R old j own l sound since ∙ sym (asks_same j.id none))
        (subst (λ k. Matches (R.entries j.state) (asks_of (take j.taken old.history) j.id) k) no' sound.entries)

    -- each node of an old query was there
    module _ (was : (k : ℕ) (x : Entry S) (m : Node) → slice_get old.entries k ≡ Some x → slice_get new.nodes k ≡ Some m →
        WasFor old.nodes new.nodes k m) (h : ArePayloads R old) where
      payload_at : (k : ℕ) (x : Entry S) (m : Node) (st : Status) → slice_get old.entries k ≡ Some x → slice_get new.nodes k ≡ Some m →
          (is_open st ≡ true → is_open x.status ≡ true) → asks_by k e ≡ [] → (s : S) → x.payload ≡ Some s → IsPayload R new k m st s
      payload_at k x m st a b opens none s is =
          let w = was k x m a b in
          payload_stays k w.node m x.status st s w.same opens none (h.payloads k x w.node a w.at s is)

      same_payloads : ((k : ℕ) → asks_by k e ≡ []) → PayloadsIn new old.entries
      same_payloads none k x m a b = payload_at k x m x.status a b (λ o. o) (none k)

      take_payloads : (i : ℕ) (b : Bool) → ((k : ℕ) → asks_by k e ≡ []) → PayloadsIn new (changed (take_at i b) old.entries)
      take_payloads i b none = payloads_changed new old.entries (take_at i b)
          (λ k x m a c. cond_eq (PayloadIn new k m) k i _ _ (λ _ s is. absurd (cc)) (λ _. payload_at k x m x.status a c (λ o. o) (none k)))

      module _ (own : Entry S) (i : ℕ) (at : slice_get old.entries i ≡ Some own) (p : S)
          (none : (k : ℕ) → (k ≡ i → ⊥) → asks_by k e ≡ []) where
        abbrev GivenAs : Status → Type 0
        GivenAs st = (m : Node) → slice_get new.nodes i ≡ Some m → IsPayload R new i m st p

        given_at : (st : Status) → GivenAs st → (k : ℕ) (m : Node) → slice_get new.nodes k ≡ Some m → k ≡ i → (s : S) →
            Some p ≡ Some s → IsPayload R new k m st s
        given_at st given k m b d s is =
            let w : p ≡ s = cc in
            subst (λ (s : S). IsPayload R new k m st s) w
            (subst (λ j. IsPayload R new j m st p) (sym d) (given m (subst (λ j. slice_get new.nodes j ≡ Some m) d b)))

        rest_payloads : (st : Status) (left n : ℕ) → GivenAs st → PayloadsIn new (changed (rest_at own i st left n p) old.entries)
        rest_payloads st left n given = payloads_changed new old.entries (rest_at own i st left n p)
            (λ k x m a b. cond_eq (PayloadIn new k m) k i _ _
            (λ d. given_at st given k m b d)
            (λ ne. cond_both (is_place own.parent k && is_starved st) (stir x) x (PayloadIn new k m)
            (λ _. payload_at k x m (woken x.status) a b (λ o. sym (open_woken x.status) ∙ o) (none k ne))
            (λ _. payload_at k x m x.status a b (λ o. o) (none k ne))))

        feed_payloads : (n c : ℕ) (child : Entry S) → ((st : Status) → GivenAs st) →
            PayloadsIn new (after_feed old.entries own i n p c child)
        feed_payloads n c child given =
            let m : ℕ = share child (own.left - n) in
            let keep : ℕ = (own.left - n) - m in
            let es : List (Entry S) = changed (less_at own i n p m) old.entries in
            let k : PayloadsIn new es = rest_payloads (at_rest keep) keep n (given (at_rest keep)) in
            payloads_changed new es (fed_at c m) (λ j x o a b. cond_eq (PayloadIn new j o) j c _ _
            (λ _ s is. restated new j o x.status _ s (λ f. sym (open_fed (x.left + m) x.status) ∙ f) (k j x o a b s is))
            (λ _. k j x o a b))

        close_payloads : (n stamp : ℕ) → GivenAs Closed → PayloadsIn new (after_close old.entries own i n p stamp)
        close_payloads n stamp given = payloads_changed new old.entries (close_at old.entries own i n p stamp)
            (λ k x m a b. close_cases (PayloadIn new k m) old.entries own i n p stamp k x
            (λ d. given_at Closed given k m b d)
            (λ ne _. payload_at k x m _ a b (λ o. absurd (cc)) (none k ne))
            (λ ne _ _. payload_at k x m _ a b
            (λ o. sym (open_fed (x.left + purse old.entries own i n) (woken x.status) ∙ open_woken x.status) ∙ o) (none k ne))
            (λ ne _ _. payload_at k x m x.status a b (λ o. o) (none k ne)))

        ask_payloads : (n : ℕ) (c : S) → ((st : Status) → GivenAs st) →
            ((st : Status) (m : Node) → slice_get new.nodes (length old.entries) ≡ Some m → IsPayload R new (length old.entries) m st c) →
            PayloadsIn new (changed (less_at own i n p (part (own.left - n))) old.entries ++ child_of own i n c ∷ [])
        ask_payloads n c given below j x m a b =
            let h : ℕ = part (own.left - n) in
            let keep : ℕ = (own.left - n) - h in
            let es : List (Entry S) = changed (less_at own i n p h) old.entries in
            ⊎_elim
            (λ o. rest_payloads (at_rest keep) keep n (given (at_rest keep)) j x m o b)
            (λ o.
            let place : j ≡ length old.entries = o.0 ∙ length_changed (less_at own i n p h) 0 old.entries in
            subst (PayloadIn new j m) (sym o.1) (λ s is.
            let w : Some c ≡ Some s = is in
            let v : c ≡ s = cc in
            subst (λ (s : S). IsPayload R new j m (at_rest h) s) v
            (subst (λ k. IsPayload R new k m (at_rest h) c) (sym place)
            (below (at_rest h) m (subst (λ k. slice_get new.nodes k ≡ Some m) place b)))))
            (from_pushed es (child_of own i n c) j x a)

      -- the state of the job that is given back
      given_for : (j : Job S) (own : Entry S) (sound : IsSound R old.kept old.history old.nodes j) → IsSince R old j own → (i : ℕ) →
          j.id ≡ i →
          (st : Status) → (is_open st ≡ true → Matches (R.entries j.state) (asks_of new.history j.id) 0) → (m : Node) →
          slice_get new.nodes i ≡ Some m → IsPayload R new i m st j.state
      given_for j own sound since i id st entries m b =
          let c : slice_get new.nodes j.id ≡ Some m = subst (λ k. slice_get new.nodes k ≡ Some m) (sym id) b in
          let w = was j.id own m since.at c in
          let n : w.node ≡ sound.node = let x = w.at in let y = sound.node_at in cc in
          subst (λ k. IsPayload R new k m st j.state) id
          (job_payload j sound m st (subst (λ (o : Node). SameFor old.nodes new.nodes j.id o m) n w.same) entries)

      -- the state of an asking job, whose last entry gets the child
      told_for : (j : Job S) (own : Entry S) → AreLinked old.entries old.history → (sound : IsSound R old.kept old.history old.nodes j) →
          IsSince R old j own → (i : ℕ) → j.id ≡ i → (c : ℕ) (q : Query) → R.last j.state ≡ an_ask q → 1 ≤ j.spent →
          asks_by j.id e ≡ (c, q) ∷ [] → (st : Status) (m : Node) → slice_get new.nodes i ≡ Some m →
          IsPayload R new i m st (told_child R j.state c)
      told_for j own l sound since i id c q last made asks st m b =
          let s : S = j.state in
          let n : ℕ = length (R.entries s) - 1 in
          let a = g.asks_last (old.kept ++ table_of old.history) s q sound.state last in
          let b' : slice_get new.nodes j.id ≡ Some m = subst (λ k. slice_get new.nodes k ≡ Some m) (sym id) b in
          let w = was j.id own m since.at b' in
          let o : w.node ≡ sound.node = let x = w.at in let y = sound.node_at in cc in
          let same : SameFor old.nodes new.nodes j.id sound.node m =
          subst (λ (o : Node). SameFor old.nodes new.nodes j.id o m) o w.same in
          let one : asks_more j.spent (R.last s) ≡ 1 =
          subst (λ k. asks_more j.spent k ≡ 1) (sym last) (rw (ne_eqb j.spent 0 (λ z. omega (arith, z, made))) refl) in
          let matched : Matches (R.entries s) (asks_of old.history j.id) 1 =
          subst (λ cs. Matches (R.entries s) cs 1) (quiet_is R old j own l sound since)
          (subst (λ k. Matches (R.entries s) (asks_of (take j.taken old.history) j.id) k) one sound.entries) in
          let more : asks_of new.history j.id ≡ asks_of old.history j.id ++ (c, q) ∷ [] =
          ap (λ h. asks_of h j.id) grown ∙ (asks_push old.history e j.id ∙ ap (λ ys. asks_of old.history j.id ++ ys) asks) in
          let full : length (R.entries s) ≡ suc n = omega (arith, within (R.entries s) n a.entry a.there) in
          subst (λ k. IsPayload R new k m st (told_child R s c)) id (record {
            state = state_more (told_child R s c) (g.tell_asked (old.kept ++ table_of old.history) s q c sound.state last);
            query = g.tell_query n c news.Waiting s ∙ (sound.query ∙ sym same.query);
            level = g.tell_level n c news.Waiting s ∙ (sound.level ∙ sym same.level);
            above = g.tell_above n c news.Waiting s ∙ (sound.above ∙ sym same.above);
            news = subst (AllOf (λ (x : Asked). IsNews x.news (closed_as new.history x.child))) (sym (g.tell_entries n c news.Waiting s))
                (news_told new.history c (R.entries s) n
                (news_more (R.entries s) (news_since j.taken old.history (R.entries s) sound.news)));
            entries = λ _. subst (λ cs. Matches (R.entries (told_child R s c)) cs 0) (sym more)
                (subst (λ (xs : List Asked). Matches xs (asks_of old.history j.id ++ (c, q) ∷ []) 0)
                (sym (g.tell_entries n c news.Waiting s))
                (matches_told c q (R.entries s) (asks_of old.history j.id) n a.entry full matched a.there a.query));
          })

  -- The events
  module _ (g : IsLawful R) (old : Core S) (k : KeepsNodes R old) (l : AreLinked old.entries old.history) (h : ArePayloads R old) where
    same_nodes : (j : ℕ) (x : Entry S) (m : Node) → slice_get old.entries j ≡ Some x → slice_get old.nodes j ≡ Some m →
        WasFor old.nodes old.nodes j m
    same_nodes j x m a b = same_for old.nodes j m b

    took_payloads : (new : Core S) (w i left steps : ℕ) (waiting : Bool) →
        Takes R old i left steps waiting (took w i left steps waiting) new → ArePayloads R new
    took_payloads new w i left steps waiting t =
        let e : Told = took w i left steps waiting in
        let c : Core S = with_event R old (after_take old.entries i) e in
        let p : ArePayloads R c = record {
          payloads = take_payloads g old c e refl refl same_nodes h i (has_live_child old.entries i) (λ _. refl);
        } in
        subst (ArePayloads R) (sym t.new_is) p

    said_payloads : (new : Core S) (w i : ℕ) (s : Summary) → Says R old i s (said w i s) new → ArePayloads R new
    said_payloads new w i s t =
        let e : Told = said w i s in
        let c : Core S = with_nodes R old old.entries old.nodes (s ∷ []) e in
        let p : ArePayloads R c = record { payloads = same_payloads g old c e refl refl same_nodes h (λ _. refl) } in
        subst (ArePayloads R) (sym t.new_is) p

    stopped_payloads : (new : Core S) (w : ℕ) → Event R old (stopped w) new → ArePayloads R new
    stopped_payloads new w t =
        let e : Told = stopped w in
        let c : Core S = record old { history = old.history ++ e ∷ []; is_stopped = true } in
        let p : ArePayloads R c = record { payloads = same_payloads g old c e refl refl same_nodes h (λ _. refl) } in
        subst (ArePayloads R) (sym t.2) p

    fed_payloads : (new : Core S) (w i n c : ℕ) → Feeds R old i n c (fed w i n c) new → ArePayloads R new
    fed_payloads new w i n d t =
        let e : Told = fed w i n d in
        let j : Job S = t.job in
        let at : slice_get old.entries i ≡ Some t.own = subst (λ j. slice_get old.entries j ≡ Some t.own) t.id t.since.at in
        let c : Core S = with_event R old (after_feed old.entries t.own i n j.state d t.child) e in
        let p : ArePayloads R c = record {
          payloads = feed_payloads g old c e refl refl same_nodes h t.own i at j.state (λ _ _. refl) n d t.child
              (λ st. given_for g old c e refl refl same_nodes h j t.own t.sound t.since i t.id st
              (λ _. matched_job g old c e refl refl j t.own l t.sound t.since
              (subst (λ x. asks_more j.spent x ≡ 0) (sym t.last) refl) refl));
        } in
        subst (ArePayloads R) (sym t.new_is) p

    parked_payloads : (new : Core S) (w i n : ℕ) (r : Rest) → Parks R old i n r (parked w i n r) new → ArePayloads R new
    parked_payloads new w i n r t =
        let e : Told = parked w i n r in
        let j : Job S = t.job in
        let at : slice_get old.entries i ≡ Some t.own = subst (λ j. slice_get old.entries j ≡ Some t.own) t.id t.since.at in
        let c : Core S = with_event R old (after_back old.entries t.own i n r j.state) e in
        let st : Status = back_as r t.own.stirred (t.own.left - n) in
        let p : ArePayloads R c = record {
          payloads = rest_payloads g old c e refl refl same_nodes h t.own i at j.state (λ _ _. refl) st (t.own.left - n) n
              (given_for g old c e refl refl same_nodes h j t.own t.sound t.since i t.id st
              (λ _. matched_job g old c e refl refl j t.own l t.sound t.since (no_more j.spent (R.last j.state) t.no_ask) refl));
        } in
        subst (ArePayloads R) (sym t.new_is) p

    closed_payloads : (new : Core S) (w i n : ℕ) (shut : ClosedAs) (ss : List Summary) →
        Closes R old i n shut ss (closed w i n shut ss) new → ArePayloads R new
    closed_payloads new w i n shut ss t =
        let e : Told = closed w i n shut ss in
        let j : Job S = t.job in
        let stamp : ℕ = length old.history in
        let at : slice_get old.entries i ≡ Some t.own = subst (λ j. slice_get old.entries j ≡ Some t.own) t.id t.since.at in
        let f : ℕ → Node → Node = closed_at old.nodes i shut (shows R shut) t.sound.node.level in
        let c : Core S = with_nodes R old (after_close old.entries t.own i n j.state stamp) (changed f old.nodes) ss e in
        let was : (o : ℕ) (x : Entry S) (m : Node) → slice_get old.entries o ≡ Some x → slice_get c.nodes o ≡ Some m →
        WasFor old.nodes c.nodes o m =
        λ o x m a b. changed_for old.nodes f (close_same old.nodes i shut (shows R shut) t.sound.node.level) o m b in
        let p : ArePayloads R c = record {
          payloads = close_payloads g old c e refl refl was h t.own i at j.state (λ _ _. refl) n stamp
              (given_for g old c e refl refl was h j t.own t.sound t.since i t.id Closed (λ o. absurd (cc)));
        } in
        subst (ArePayloads R) (sym t.new_is) p

    asked_payloads : (new : Core S) (w i n c : ℕ) (q : Query) → Asks R old i n c q (asked w i n c q) new → ArePayloads R new
    asked_payloads new w i n d q t =
        let e : Told = asked w i n d q in
        let j : Job S = t.job in
        let s : S = j.state in
        let ns : List Node = old.nodes in
        let node : Node = t.sound.node in
        let p' : S = told_child R s d in
        let at : slice_get old.entries i ≡ Some t.own = subst (λ j. slice_get old.entries j ≡ Some t.own) t.id t.since.at in
        let node_at : slice_get ns i ≡ Some node = subst (λ j. slice_get ns j ≡ Some node) t.id t.sound.node_at in
        let x : Node = node_below R i node q in
        let c : Core S = with_nodes R old (after_ask old.entries t.own i n p' t.child) (ns ++ x ∷ []) [] e in
        let count : length old.entries ≡ length ns = k.paired.count in
        let was : (o : ℕ) (y : Entry S) (m : Node) → slice_get old.entries o ≡ Some y → slice_get c.nodes o ≡ Some m →
        WasFor ns c.nodes o m =
        λ o y m a b. pushed_for ns x k.levelled o m (omega (arith, within old.entries o y a, count)) b in
        let lt : i < length ns = within ns i node node_at in
        let levelled : AreLevelled (ns ++ x ∷ []) = levelled_pushed ns x k.levelled (lt, node, node_at, refl) in
        let place : ℕ = length old.entries in
        let last_at : slice_get (ns ++ x ∷ []) place ≡ Some x = ap (slice_get (ns ++ x ∷ [])) count ∙ get_pushed ns x in
        let above_is : R.above s ≡ ancestors ns i node.parent = t.sound.above ∙ ap (λ o. ancestors ns o node.parent) t.id in
        let above : R.above t.child ≡ ancestors (ns ++ x ∷ []) place x.parent =
        t.fresh.above ∙ (ap (λ qs. qs ++ R.query s ∷ []) above_is
        ∙ (ap (λ q. ancestors ns i node.parent ++ q ∷ []) t.sound.query
        ∙ sym (ancestors_line (ns ++ x ∷ []) levelled place x i last_at refl
        ∙ (line_step (ns ++ x ∷ []) levelled i node (to_pushed ns x i node node_at)
        ∙ ap (λ qs. qs ++ node.query ∷ []) (ancestors_pushed ns x k.levelled i node node_at))))) in
        let none : R.entries t.child ≡ [] = g.unasked (old.kept ++ table_of old.history) t.child t.fresh.state t.fresh.none in
        let asks : asks_of c.history place ≡ [] =
        asks_push old.history e place
        ∙ (ap (λ ys. asks_of old.history place ++ ys) (let ne : (i == place) ≡ _ = ne_eqb i place (λ z. omega (arith, z, lt, count)) in
        rw ne refl)
        ∙ ap (λ (ys : List (ℕ × Query)). ys ++ [])
        (asks_none ns place (asks_of old.history place) k.levelled (omega (arith, count)) (k.agrees.asked place))) in
        let below : (st : Status) → IsPayload R c place x st t.child = λ st. record {
          state = state_more g old c e refl refl t.child t.fresh.state;
          query = t.fresh.query;
          level = t.fresh.level ∙ ap suc t.sound.level;
          above = above;
          news = subst (AllOf (λ (y : Asked). IsNews y.news (closed_as c.history y.child))) (sym none) tt;
          entries = λ _. subst (λ cs. Matches (R.entries t.child) cs 0) (sym asks)
              (subst (λ (xs : List Asked). Matches xs [] 0) (sym none) refl);
        } in
        let p : ArePayloads R c = record {
          payloads = ask_payloads g old c e refl refl was h t.own i at p'
              (λ o ne. rw (ne_eqb i o (λ z. ne (sym z))) refl) n t.child
              (λ st. told_for g old c e refl refl was h j t.own l t.sound t.since i t.id d q t.last (omega (arith, t.spent, t.made))
              (rw (t.id, eq-eqb i i refl) refl) st)
              (λ st m b. let o : Some x ≡ Some m = sym last_at ∙ b in
              let v : x ≡ m = cc in subst (λ (m : Node). IsPayload R c place m st t.child) v (below st));
        } in
        subst (ArePayloads R) (sym t.new_is) p

    pub event_payloads : (e : Told) (new : Core S) → Event R old e new → ArePayloads R new
    event_payloads (took w i left steps waiting) new t = took_payloads new w i left steps waiting t
    event_payloads (said w i s) new t = said_payloads new w i s t
    event_payloads (asked w i n c q) new t = asked_payloads new w i n c q t
    event_payloads (fed w i n c) new t = fed_payloads new w i n c t
    event_payloads (parked w i n r) new t = parked_payloads new w i n r t
    event_payloads (closed w i n shut ss) new t = closed_payloads new w i n shut ss t
    event_payloads (stopped w) new t = stopped_payloads new w t

  -- Roots
  module _ (g : IsLawful R) (grant : ℕ) where
    abbrev with_root : Core S → S → Core S
    with_root c s = record c {
      entries = after_root c.entries grant s;
      nodes = c.nodes ++ node_of_root R s ∷ [];
    }

    root_payloads : (c : Core S) (s : S) → c.history ≡ [] → KeepsNodes R c → IsRoot R s → ArePayloads R c → ArePayloads R (with_root c s)
    root_payloads c s none k r h =
        let x : Node = node_of_root R s in
        let y : Entry S = root_of (length c.entries) grant s in
        let at : slice_get (c.nodes ++ x ∷ []) (length c.entries) ≡ Some x =
        ap (slice_get (c.nodes ++ x ∷ [])) k.paired.count ∙ get_pushed c.nodes x in
        let state : R.IsState (c.kept ++ table_of c.history) s =
        subst (λ (t : List Told). R.IsState (c.kept ++ table_of t) s) (sym none)
        (subst (λ (t : List Summary). R.IsState t s) (sym (append-nil c.kept)) (g.longer [] c.kept s r.state)) in
        let empty : R.entries s ≡ [] = g.unasked [] s r.state r.none in
        let own : (i : ℕ) → IsPayload R (with_root c s) i x y.status s = λ i. record {
          state = state;
          query = refl;
          level = r.level;
          above = r.above;
          news = subst (AllOf (λ (z : Asked). IsNews z.news (closed_as c.history z.child))) (sym empty) tt;
          entries = λ _. subst (λ (t : List Told). Matches (R.entries s) (asks_of t i) 0) (sym none)
              (subst (λ (xs : List Asked). Matches xs [] 0) (sym empty) refl);
        } in
        record {
          payloads = λ i e n a b. ⊎_elim
              (λ o.
              let w = pushed_for c.nodes x k.levelled i n (omega (arith, within c.entries i e o, k.paired.count)) b in
              λ q is. let p : IsPayload R c i w.node e.status q = h.payloads i e w.node o w.at q is in
              record {
                state = p.state;
                query = p.query ∙ sym w.same.query;
                level = p.level ∙ sym w.same.level;
                above = p.above ∙ sym w.same.above;
                news = p.news;
                entries = p.entries;
              })
              (λ o.
              let z : Some x ≡ Some n = sym at ∙ (ap (slice_get (c.nodes ++ x ∷ [])) (sym o.0) ∙ b) in
              let v : x ≡ n = cc in
              subst (PayloadIn (with_root c s) i n) (sym o.1) (λ q is.
              let f : Some s ≡ Some q = is in
              let u : s ≡ q = cc in
              subst (λ (q : S). IsPayload R (with_root c s) i n y.status q) u
              (subst (λ (n : Node). IsPayload R (with_root c s) i n y.status s) v (own i))))
              (from_pushed c.entries y i e a);
        }

    pub roots_payloads : (ss : List S) (c : Core S) → c.history ≡ [] → KeepsNodes R c → AllOf (IsRoot R) ss → ArePayloads R c →
        ArePayloads R (opening R grant ss c)
    roots_payloads [] c none k rs h = h
    roots_payloads (s ∷ ss) c none k rs h =
        roots_payloads ss (with_root c s) none (root_nodes R c grant s none k) rs.1 (root_payloads c s none k rs.0 h)

    pub opening_payloads : (ss : List S) (ks : List Summary) → AllOf (HoldsBy R) ks → AllOf (IsRoot R) ss →
        ArePayloads R (opening R grant ss (first_board R ks))
    opening_payloads ss ks holds rs = roots_payloads ss (first_board R ks) refl (empty_nodes R ks holds) rs
        (record { payloads = λ i e n a b s is. absurd (cc) })
