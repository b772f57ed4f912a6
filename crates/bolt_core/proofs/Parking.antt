-- What the board's calls make of it is one event.
use Rattle.std.proofs.Common.{◌≡◌, ℕ, ◌<◌, List, [], ◌∷◌, ◌++◌, length, Bool, true, false, Some, refl, sym, ap, ◌∙◌, subst, arith}
use Rattle.std.specs.Prelude.{slice_get, not, take}
use Rattle.query_tree.specs.declared.Entry.{Entry}
use Rattle.query_tree.specs.declared.Rest.{Rest}
use Rattle.query_tree.specs.declared.Rest.TheVariants as rest
use Rattle.query_tree.specs.declared.Status.TheVariants.{Running, Dropped}
use Rattle.query_tree.specs.Forest.{after_back, after_feed, has_live, is_live_entry}
use Rattle.query_tree.specs.Woods.{Fed, IsChild, IsLent, MayGive, WasDropped, Went}
use Rattle.query_tree.proofs.Lists.{any_at, present, within}
use Rattle.query_tree.proofs.Tests.{one_at}
use Rattle.query_rules.specs.Seen.{Seen}
use Rattle.query_rules.specs.declared.step.Asked.{Asked}
use Rattle.summary_form.specs.declared.query.Query.{Query}
use Rattle.summary_form.specs.declared.summary.Summary.{Summary}
use Rattle.bolt_core.specs.declared.event.Event.{Event as Stored}
use Rattle.bolt_core.specs.declared.event.Event.TheVariants as stored
use Rattle.bolt_core.specs.declared.job.Job.{Job as Given}
use Rattle.bolt_core.specs.declared.slot.Slot.{Slot}
use Rattle.bolt_core.specs.Boards.{IsBoard, IsSoundFor, MayBeParked, MayFeed, Shown, core_of, job_of}
use Rattle.bolt_core.specs.Groups.{Node}
use Rattle.bolt_core.specs.Histories.{WasTaken, asks_of, fed, parked, stopped}
use Rattle.bolt_core.specs.Keeps.{IsNow}
use Rattle.bolt_core.specs.Machine.{Core, IsSince, Matches, MayPark, asks_more}
use Rattle.bolt_core.specs.States.{reads}
use Rattle.bolt_core.proofs.BoardKeeps.{board_keeps}
use Rattle.bolt_core.proofs.Going.{GoesOn, goes_on, history_push}
use Rattle.bolt_core.proofs.Feeding.{matched}
use Rattle.bolt_core.proofs.Links.{lent_is, quiet_is, waiting_is}

pub live_is : (b : Bool) → not b ≡ false → b ≡ true
live_is true h = refl
live_is false h = absurd (cc)

pub stop_on : (p : Shown) (es : List (Entry Seen)) (ss : List Slot) (ts : List Summary) (xs : List Stored) (st : Bool) (w : ℕ) →
    IsBoard (record p { core = core_of p.core.kept es ss ts xs st }) → st ≡ false → not (has_live es) ≡ false →
    GoesOn (record p { core = core_of p.core.kept es ss ts xs st }) (stopped w) (core_of p.core.kept es ss ts (xs ++ stored.Stop w ∷ [])
    true)
stop_on p es ss ts xs st w b going over =
    let a = any_at is_live_entry es (live_is (has_live es) over) in
    let old : Shown = record p { core = core_of p.core.kept es ss ts xs st } in
    goes_on old (stopped w) (core_of p.core.kept es ss ts (xs ++ stored.Stop w ∷ []) true) b
    (over, going, ap (λ h. record (core_of p.core.kept es ss ts xs true) { history = h }) (history_push ss ts xs (stored.Stop w)))
    (omega (arith, within es a.0 a.1 a.2))

-- Of a sound job
module _ (b : Shown) (h : IsBoard b) (g : Given) (s : IsSoundFor b g) where
  pub sound_taken : WasTaken b.core.history g.id g.taken
  sound_taken = record { worker = s.worker; left = g.left; steps = s.stored; waiting = s.waiting; at = s.take_at }

  pub sound_here : g.id < length b.core.entries
  sound_here = omega (arith, within b.core.nodes g.id s.node s.node_at, (board_keeps b h).paired.count)

  pub since_now : (v : IsNow b.core g.id g.taken) → IsSince (reads b.graphs) b.core (job_of g) v.own
  since_now v = record { at = v.at; running = v.running; last = v.last }

  pub sound_lent : (v : IsNow b.core g.id g.taken) (w : Bool) → w ≡ v.own.waiting → IsLent b.core.entries g.id g.left w
  sound_lent v w is = record {
    own = v.own;
    at = v.at;
    left_is = lent_is (reads b.graphs) b.core (job_of g) v.own (board_keeps b h).linked s (since_now v);
    waiting_is = sym is;
    out = rw v.running tt;
  }

  pub sound_waits : (v : IsNow b.core g.id g.taken) → v.own.waiting ≡ s.waiting
  sound_waits v = waiting_is (reads b.graphs) b.core (job_of g) v.own (board_keeps b h).linked s (since_now v)

-- a query that is Running was not dropped
pub not_dropped : (c : Core Seen) (i t stamp : ℕ) → IsNow c i t → WasDropped c.entries i stamp → ⊥
not_dropped c i t stamp v d =
    let q : Running ≡ Dropped stamp = sym (ap (λ (y : Entry Seen). y.status) (one_at c.entries i i v.own d.own v.at d.at refl) ∙ v.running)
    ∙ d.dropped in
    absurd (cc)

may_give : (b : Shown) (r : Rest) (g : Given) (w v : Bool) → v ≡ w → MayPark (reads b.graphs) r (job_of g) w → MayGive r g.spent g.left v
may_give b rest.Ready g w v e h = tt
may_give b rest.Blocked g w v e h = e ∙ h.2
may_give b rest.Starved g w v e h = h

pub park_gives : (b : Shown) → IsBoard b → (g : Given) (r : Rest) → (p : MayBeParked b g r) → (v : IsNow b.core g.id g.taken) (w : Bool) →
    w ≡ v.own.waiting → MayGive r g.spent g.left w
park_gives b h g r p v w is = may_give b r g p.sound.waiting w (is ∙ sound_waits b h g p.sound v) p.may

pub park_on : (p : Shown) (es fs : List (Entry Seen)) (ss : List Slot) (ts : List Summary) (xs : List Stored) (st : Bool) (w : ℕ)
    (g : Given)
    (r : Rest) → let b : Shown = record p { core = core_of p.core.kept es ss ts xs st } in IsBoard b → MayBeParked b g r →
    IsNow b.core g.id g.taken → Went (λ own. after_back es own g.id g.spent r g.state) es fs g.id →
    GoesOn b (parked w g.id g.spent r) (core_of p.core.kept fs ss ts (xs ++ stored.Park w g.id g.spent r ∷ []) st)
park_on p es fs ss ts xs st w g r h m v t =
    let b : Shown = record p { core = core_of p.core.kept es ss ts xs st } in
    let x : Stored = stored.Park w g.id g.spent r in
    let same : t.own ≡ v.own = one_at es g.id g.id v.own t.own v.at t.at refl in
    goes_on b (parked w g.id g.spent r) (core_of p.core.kept fs ss ts (xs ++ x ∷ []) st) h
    (record {
      job = job_of g;
      own = v.own;
      sound = m.sound;
      since = since_now b h g m.sound v;
      id = refl;
      spent = refl;
      may = m.may;
      no_ask = m.no_ask;
      new_is = ap (λ gs. core_of p.core.kept gs ss ts (xs ++ x ∷ []) st) (t.becomes ∙ ap (λ own. after_back es own g.id g.spent r g.state)
          same)
          ∙ ap (λ h. record (core_of p.core.kept (after_back es v.own g.id g.spent r g.state) ss ts xs st) { history = h })
          (history_push ss ts xs x);
    })
    (omega (arith, within es g.id v.own v.at))

-- what is fed is a child
pub feed_child : (b : Shown) → IsBoard b → (g : Given) (n : ℕ) → MayFeed b g n → IsNow b.core g.id g.taken → (a : Asked) →
    slice_get g.state.asked n ≡ Some a → IsChild b.core.entries a.child g.id
feed_child b h g n m v a at =
    let R = reads b.graphs in
    let k = board_keeps b h in
    let own : List Asked = g.state.asked in
    let asks : List (ℕ × Query) = asks_of b.core.history g.id in
    let quiet = quiet_is R b.core (job_of g) v.own k.linked m.sound (since_now b h g m.sound v) in
    let now : Matches own asks 0 = subst (λ cs. Matches own cs 0) quiet
    (subst (λ l. Matches own (asks_of (take g.taken b.core.history) g.id) (asks_more g.spent l)) m.last m.sound.entries) in
    let o = matched (λ x q. (d : Node) × (slice_get b.core.nodes x ≡ Some d) × (d.parent ≡ Some g.id) × (d.query ≡ q)) own asks now
    (k.agrees.asked g.id) n a at in
    let e = present b.core.entries a.child (omega (arith, within b.core.nodes a.child o.0 o.1, k.paired.count)) in
    record { entry = e.0; at = e.1; parent = k.paired.parents a.child e.0 o.0 e.1 o.1 ∙ o.2 }

pub feed_on : (p : Shown) (es fs : List (Entry Seen)) (ss : List Slot) (ts : List Summary) (xs : List Stored) (st : Bool) (w : ℕ)
    (g : Given)
    (n : ℕ) (a : Asked) → let b : Shown = record p { core = core_of p.core.kept es ss ts xs st } in IsBoard b → MayFeed b g n →
    IsNow b.core g.id g.taken → slice_get g.state.asked n ≡ Some a →
    Fed (λ own entry. after_feed es own g.id g.spent g.state a.child entry) es fs g.id a.child →
    GoesOn b (fed w g.id g.spent a.child) (core_of p.core.kept fs ss ts (xs ++ stored.Feed w g.id g.spent a.child ∷ []) st)
feed_on p es fs ss ts xs st w g n a h m v at t =
    let b : Shown = record p { core = core_of p.core.kept es ss ts xs st } in
    let x : Stored = stored.Feed w g.id g.spent a.child in
    goes_on b (fed w g.id g.spent a.child) (core_of p.core.kept fs ss ts (xs ++ x ∷ []) st) h
    (record {
      job = job_of g;
      own = t.own;
      child = t.entry;
      number = n;
      entry = a;
      sound = m.sound;
      since = record { at = t.at; running = t.running; last = v.last };
      id = refl;
      spent = refl;
      made = m.made;
      last = m.last;
      asked = at;
      is_child = refl;
      child_at = t.child_at;
      new_is = ap (λ gs. core_of p.core.kept gs ss ts (xs ++ x ∷ []) st) t.becomes
          ∙ ap (λ h. record (core_of p.core.kept (after_feed es t.own g.id g.spent g.state a.child t.entry) ss ts xs st) { history = h })
          (history_push ss ts xs x);
    })
    (omega (arith, within es g.id v.own v.at))
