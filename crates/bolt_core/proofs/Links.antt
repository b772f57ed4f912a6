-- The last Take of a Running query.
use Rattle.std.proofs.Common.{◌≡◌, ℕ, ◌+◌, ◌-◌, ◌≤◌, List, [], ◌∷◌, ◌++◌, length, take, Bool, Some, refl, sym, ap, ◌∙◌, subst, ⊎_elim, arith}
use Rattle.std.specs.Prelude.{slice_get, ◌==◌, ◌&&◌}
use Rattle.std.proofs.lemmas.Bool.{cond_both}
use Rattle.std.proofs.lemmas.List.{take-append-le}
use Rattle.std.proofs.Math.Seq.{take-append_seam}
use Rattle.query_tree.specs.declared.Status.{Status}
use Rattle.query_tree.specs.declared.Status.TheVariants.{Ready, Running, Blocked, Starved, Closed, Dropped}
use Rattle.query_tree.specs.declared.Rest.{Rest}
use Rattle.query_tree.specs.declared.Rest.TheVariants.{Ready as RestReady, Blocked as RestBlocked, Starved as RestStarved}
use Rattle.query_tree.specs.declared.Entry.{Entry}
use Rattle.query_tree.specs.Forest.{changed, is_starved, is_place, has_live_child, woken, fed, at_rest, back_as, stir, part, share, take_at, rest_at, fed_at, child_of, purse, close_at, after_take, after_back, after_ask, after_feed, after_close}
use Rattle.query_tree.proofs.Lists.{from_changed, from_pushed, to_pushed, within}
use Rattle.query_tree.proofs.Marks.{get_pushed}
use Rattle.query_tree.proofs.Tests.{cond_eq, one_at}
use Rattle.query_tree.proofs.Close.{close_cases}
use Rattle.bolt_core.specs.Histories.{Told, took, asks_by, asks_of, IsLastTake}
use Rattle.bolt_core.specs.Machine.{Reads, Job, Core, IsSound, IsSince}
use Rattle.bolt_core.specs.Keeps.{IsLinkedTo, AreLinked}

pub rest_runs : (m : ℕ) → at_rest m ≡ Running → ⊥
rest_runs m = cond_both (m == 0) Starved Ready (λ s. s ≡ Running → ⊥) (λ _ h. absurd (cc)) (λ _ h. absurd (cc))

pub back_runs : (r : Rest) (b : Bool) (m : ℕ) → back_as r b m ≡ Running → ⊥
back_runs RestReady b m h = absurd (cc)
back_runs RestBlocked b m h = cond_both b Ready Blocked (λ s. s ≡ Running → ⊥) (λ _ h. absurd (cc)) (λ _ h. absurd (cc)) h
back_runs RestStarved b m h = rest_runs m h

pub woken_runs : (s : Status) → woken s ≡ Running → s ≡ Running
woken_runs Ready h = absurd (cc)
woken_runs Running h = refl
woken_runs Blocked h = absurd (cc)
woken_runs Starved h = absurd (cc)
woken_runs Closed h = absurd (cc)
woken_runs (Dropped n) h = absurd (cc)

pub fed_runs : (m : ℕ) (s : Status) → fed m s ≡ Running → s ≡ Running
fed_runs m Ready h = absurd (cc)
fed_runs m Running h = refl
fed_runs m Blocked h = absurd (cc)
fed_runs m Starved h = absurd (rest_runs m h)
fed_runs m Closed h = absurd (cc)
fed_runs m (Dropped n) h = absurd (cc)

-- the event is no Take of the query
abbrev pub TakesNot : Told → ℕ → Type 0
TakesNot e i = (w left steps : ℕ) (b : Bool) → e ≡ took w i left steps b → ⊥

-- the event takes nothing
abbrev pub TakesNone : Told → Type 0
TakesNone e = (i : ℕ) → TakesNot e i

-- only this query asks by it
abbrev pub AsksAlone : Told → ℕ → Type 0
AsksAlone e i = (k : ℕ) → (k ≡ i → ⊥) → asks_by k e ≡ []

pub last_more : (h : List Told) (e : Told) (i t : ℕ) → TakesNot e i → IsLastTake h i t → IsLastTake (h ++ e ∷ []) i t
last_more h e i t no' last k w left steps b a = ⊎_elim
    (λ c. last k w left steps b c)
    (λ c. absurd (no' w left steps b (sym c.1)))
    (from_pushed h e k (took w i left steps b) a)

pub asks_more_of : (h : List Told) (e : Told) (i : ℕ) → asks_by i e ≡ [] → asks_of (h ++ e ∷ []) i ≡ asks_of h i
asks_more_of [] e i none = rw none refl
asks_more_of (x ∷ h) e i none = ap (λ xs. asks_by i x ++ xs) (asks_more_of h e i none)

-- the link of a query stays at an event that neither takes it nor asks for it
pub link_more : {S : Type 0} (h : List Told) (e : Told) (i : ℕ) (x : Entry S) → TakesNot e i → asks_by i e ≡ [] → IsLinkedTo h i x →
    IsLinkedTo (h ++ e ∷ []) i x
link_more h e i x no' none l = record {
  taken = l.taken;
  worker = l.worker;
  at = to_pushed h e l.taken _ l.at;
  last = last_more h e i l.taken no' l.last;
  quiet = ap (λ (g : List Told). asks_of g i) (take-append-le l.taken h (e ∷ []) (let lt = within h l.taken _ l.at in omega arith))
      ∙ (l.quiet ∙ sym (asks_more_of h e i none));
}

-- what is Running was Running, with what was lent
pub record Stays {S : Type 0} (x y : Entry S) : Type 0 where
  pub running : x.status ≡ Running
  pub lent : y.lent ≡ x.lent
  pub waiting : y.waiting ≡ x.waiting
  pub spent : y.spent ≡ x.spent

stays_same : {S : Type 0} (x : Entry S) → x.status ≡ Running → Stays x x
stays_same x runs = record { running = runs; lent = refl; waiting = refl; spent = refl }

link_stays : {S : Type 0} (h : List Told) (i : ℕ) (x y : Entry S) → Stays x y → IsLinkedTo h i x → IsLinkedTo h i y
link_stays h i x y s l = record {
  taken = l.taken;
  worker = l.worker;
  at = l.at ∙ (let a = sym s.lent in let b = sym s.waiting in let d = sym s.spent in cc);
  last = l.last;
  quiet = l.quiet;
}

rest_stays : {S : Type 0} (own : Entry S) (i : ℕ) (st : Status) (left n : ℕ) (p : S) → (st ≡ Running → ⊥) → (k : ℕ) (x : Entry S) →
    (rest_at own i st left n p k x).status ≡ Running → (k ≡ i → ⊥) × Stays x (rest_at own i st left n p k x)
rest_stays own i st left n p no' k x = cond_eq (λ (y : Entry _). y.status ≡ Running → (k ≡ i → ⊥) × Stays x y) k i _ _
    (λ d runs. absurd (no' runs))
    (λ ne. cond_both (is_place own.parent k && is_starved st) (stir x) x (λ (y : Entry _). y.status ≡ Running → (k ≡ i → ⊥) × Stays x y)
    (λ _ runs. (ne, record { running = woken_runs x.status runs; lent = refl; waiting = refl; spent = refl }))
    (λ _ runs. (ne, stays_same x runs)))

module _ {S : Type 0} (es : List (Entry S)) (h : List Told) where
  linked_by : (f : ℕ → Entry S → Entry S) (g : List Told) →
      ((k : ℕ) (x : Entry S) → slice_get es k ≡ Some x → (f k x).status ≡ Running → Stays x (f k x)
      × (IsLinkedTo h k x → IsLinkedTo g k x)) →
      AreLinked es h → AreLinked (changed f es) g
  linked_by f g each l = record {
    linked = λ i y a runs.
        let r = from_changed f es i y a in
        let o = each i r.0 r.1 (subst (λ (z : Entry S). z.status ≡ Running) r.2 runs) in
        subst (λ (z : Entry S). IsLinkedTo g i z) (sym r.2) (link_stays g i r.0 (f i r.0) o.0 (o.1 (l.linked i r.0 r.1 o.0.running)));
  }

  pub linked_same : (e : Told) → TakesNone e → ((k : ℕ) → asks_by k e ≡ []) → AreLinked es h → AreLinked es (h ++ e ∷ [])
  linked_same e no' none l = record { linked = λ i y a runs. link_more h e i y (no' i) (none i) (l.linked i y a runs) }

  pub linked_pushed : (x : Entry S) → (x.status ≡ Running → ⊥) → AreLinked es h → AreLinked (es ++ x ∷ []) h
  linked_pushed x no' l = record {
    linked = λ i y a runs. ⊎_elim
        (λ b. l.linked i y b runs)
        (λ b. absurd (no' (ap (λ (z : Entry S). z.status) (sym b.1) ∙ runs)))
        (from_pushed es x i y a);
  }

  -- a change with no event
  linked_only : (f : ℕ → Entry S → Entry S) → ((k : ℕ) (x : Entry S) → (f k x).status ≡ Running → Stays x (f k x)) → AreLinked es h →
      AreLinked (changed f es) h
  linked_only f stays = linked_by f h (λ k x a runs. (stays k x runs, λ l. l))

module _ {S : Type 0} (es : List (Entry S)) (h : List Told) (e : Told) (no' : TakesNone e) (own : Entry S) (i : ℕ) (alone : AsksAlone e i)
    (l : AreLinked es h) where
  linked_rest : (st : Status) (left n : ℕ) (p : S) → (st ≡ Running → ⊥) → AreLinked (changed (rest_at own i st left n p) es) (h ++ e ∷ [])
  linked_rest st left n p stops = linked_by es h (rest_at own i st left n p) (h ++ e ∷ [])
      (λ k x a runs. let s = rest_stays own i st left n p stops k x runs in (s.1, λ o. link_more h e k x (no' k) (alone k s.0) o)) l

  pub linked_back : (n : ℕ) (r : Rest) (p : S) → AreLinked (after_back es own i n r p) (h ++ e ∷ [])
  linked_back n r p =
      let st : Status = back_as r own.stirred (own.left - n) in
      linked_rest st (own.left - n) n p (back_runs r own.stirred (own.left - n))

  pub linked_ask : (n : ℕ) (p c : S) → AreLinked (after_ask es own i n p c) (h ++ e ∷ [])
  linked_ask n p c =
      let m : ℕ = part (own.left - n) in
      let keep : ℕ = (own.left - n) - m in
      linked_pushed _ (h ++ e ∷ []) (child_of own i n c) (rest_runs m) (linked_rest (at_rest keep) keep n p (rest_runs keep))

  pub linked_feed : (n : ℕ) (p : S) (c : ℕ) (child : Entry S) → AreLinked (after_feed es own i n p c child) (h ++ e ∷ [])
  linked_feed n p c child =
      let m : ℕ = share child (own.left - n) in
      let keep : ℕ = (own.left - n) - m in
      linked_only _ (h ++ e ∷ []) (fed_at c m) (λ k x. cond_eq (λ (y : Entry S). y.status ≡ Running → Stays x y) k c _ _
      (λ _ runs. record { running = fed_runs (x.left + m) x.status runs; lent = refl; waiting = refl; spent = refl })
      (λ _ runs. stays_same x runs))
      (linked_rest (at_rest keep) keep n p (rest_runs keep))

  pub linked_close : (n : ℕ) (p : S) (stamp : ℕ) → AreLinked (after_close es own i n p stamp) (h ++ e ∷ [])
  linked_close n p stamp = linked_by es h (close_at es own i n p stamp) (h ++ e ∷ [])
      (λ k x a. close_cases (λ (y : Entry S). y.status ≡ Running → Stays x y × (IsLinkedTo h k x → IsLinkedTo (h ++ e ∷ []) k x)) es own i n
      p stamp k x
      (λ _ runs. absurd (cc))
      (λ _ _ runs. absurd (cc))
      (λ ne _ _ runs. (
        record {
          running = woken_runs x.status (fed_runs (x.left + purse es own i n) (woken x.status) runs);
          lent = refl;
          waiting = refl;
          spent = refl;
        },
        λ o. link_more h e k x (no' k) (alone k ne) o,
      ))
      (λ ne _ _ runs. (stays_same x runs, λ o. link_more h e k x (no' k) (alone k ne) o))) l

-- at a Take
module _ {S : Type 0} (es : List (Entry S)) (h : List Told) (i w : ℕ) (own : Entry S) (at : slice_get es i ≡ Some own) where
  abbrev take_event : Told
  take_event = took w i own.left own.spent (has_live_child es i)

  pub linked_take : AreLinked es h → AreLinked (after_take es i) (h ++ take_event ∷ [])
  linked_take l = record {
    linked = λ k y a runs.
        let r = from_changed (take_at i (has_live_child es i)) es k y a in
        subst (λ (z : Entry S). IsLinkedTo (h ++ take_event ∷ []) k z) (sym r.2)
        (here k r.0 r.1 (subst (λ (z : Entry S). z.status ≡ Running) r.2 runs));
  }
    where
      here : (k : ℕ) (x : Entry S) → slice_get es k ≡ Some x → (take_at i (has_live_child es i) k x).status ≡ Running →
          IsLinkedTo (h ++ take_event ∷ []) k (take_at i (has_live_child es i) k x)
      here k x a = cond_eq (λ (z : Entry S). z.status ≡ Running → IsLinkedTo (h ++ take_event ∷ []) k z) k i _ _
          (λ d runs. record {
            taken = length h;
            worker = w;
            at = get_pushed h take_event ∙ (let o : own ≡ x = sym (one_at es i k own x at a d) in let f : i ≡ k = sym d in cc);
            last = λ j v left steps b c. ⊎_elim
                (λ f. omega (arith, within h j _ f))
                (λ f. omega (arith, f.0))
                (from_pushed h take_event j (took v k left steps b) c);
            quiet = ap (λ (g : List Told). asks_of g k) (take-append_seam h (take_event ∷ [])) ∙ sym (asks_more_of h take_event k refl);
          })
          (λ ne runs. link_more h take_event k x (λ v left steps b is. ne (let f : i ≡ k = cc in sym f)) refl (l.linked k x a runs))

-- What its last Take says of a sound job
module _ {S : Type 0} (R : Reads S) (c : Core S) (j : Job S) (own : Entry S) (l : AreLinked c.entries c.history)
    (s : IsSound R c.kept c.history c.nodes j) (since : IsSince R c j own) where
  link : IsLinkedTo c.history j.id own
  link = l.linked j.id own since.at since.running

  same_place : link.taken ≡ j.taken
  same_place =
      let a : j.taken ≤ link.taken = link.last j.taken s.worker j.left s.stored s.waiting s.take_at in
      let b : link.taken ≤ j.taken = since.last link.taken link.worker own.lent own.spent own.waiting link.at in
      omega arith

  same_take : took link.worker j.id own.lent own.spent own.waiting ≡ took s.worker j.id j.left s.stored s.waiting
  same_take =
      let e : Some (took link.worker j.id own.lent own.spent own.waiting) ≡ Some (took s.worker j.id j.left s.stored s.waiting) =
      sym link.at ∙ (ap (slice_get c.history) same_place ∙ s.take_at) in
      cc

  -- what was lent
  pub lent_is : own.lent ≡ j.left
  lent_is = let e = same_take in cc

  -- the stored steps
  pub stored_is : s.stored ≡ own.spent
  stored_is = let e = same_take in cc

  -- whether it waited
  pub waiting_is : own.waiting ≡ s.waiting
  waiting_is = let e = same_take in cc

  -- it has asked nothing since
  pub quiet_is : asks_of (take j.taken c.history) j.id ≡ asks_of c.history j.id
  quiet_is = subst (λ t. asks_of (take t c.history) j.id ≡ asks_of c.history j.id) same_place link.quiet
