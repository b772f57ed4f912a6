-- A close of the board is one event.
use Rattle.std.proofs.Common.{◌≡◌, ℕ, zero, suc, ◌+◌, ◌*◌, ◌<◌, ◌≤◌, List, [], ◌∷◌, ◌++◌, length, map, take, drop, Bool, true, false, cond, Option, Some, None, refl, sym, ap, ◌∙◌, subst, ⊎_elim, arith}
use Rattle.std.specs.Prelude.{slice_get, ◌==◌, ◌&&◌, not}
use Rattle.std.specs.Global.{Global}
use Rattle.std.specs.declared.sync.Arc.{Arc}
use Rattle.std.specs.Option.{option_map}
use Rattle.std.proofs.lemmas.Bool.{eqb-true}
use Rattle.std.proofs.lemmas.List.{length-append, length_push}
use Rattle.std.proofs.lemmas.Option.{slice_get-map}
use Rattle.query_tree.specs.declared.Entry.{Entry}
use Rattle.query_tree.specs.declared.Status.TheVariants.{Running, Closed}
use Rattle.query_tree.specs.Forest.{after_close, changed, changed_from, is_none}
use Rattle.query_tree.specs.Woods.{Went}
use Rattle.query_tree.proofs.Lists.{from_changed, from_pushed, length_changed, within}
use Rattle.query_tree.proofs.Tests.{one_at}
use Rattle.query_rules.specs.Seen.{Seen}
use Rattle.query_rules.specs.declared.step.Closing.{Closing}
use Rattle.summary_form.specs.declared.query.Query.{Query}
use Rattle.summary_form.specs.declared.summary.Summary.{Summary}
use Rattle.summary_form.specs.declared.summary.Summary.TheVariants as summary
use Rattle.summary_table.specs.Tables.{IsNumbered}
use Rattle.bolt_core.specs.declared.event.Event.{Event as Stored}
use Rattle.bolt_core.specs.declared.event.Event.TheVariants as stored
use Rattle.bolt_core.specs.declared.job.Job.{Job as Given}
use Rattle.bolt_core.specs.declared.slot.ClosedAs.{ClosedAs}
use Rattle.bolt_core.specs.declared.slot.ClosedAs.TheVariants as how
use Rattle.bolt_core.specs.declared.slot.Slot.{Slot}
use Rattle.bolt_core.specs.Boards.{HandsIn, IsBoard, IsClosedBy, IsRoomy, IsSettled, MayBeClosed, Shown, core_of, history_of, job_of, most_queries, most_summaries, node_of, said_as, told_by}
use Rattle.bolt_core.specs.Groups.{Node, closed_at, is_member, leads, level_in, publishes}
use Rattle.bolt_core.specs.Histories.{Told, closed, has_said}
use Rattle.bolt_core.specs.Keeps.{IsNow}
use Rattle.bolt_core.specs.Machine.{Core, Event, appended, closed_how, shows}
use Rattle.bolt_core.specs.Origins.{HasTraced, closed_ids}
use Rattle.bolt_core.specs.States.{reads}
use Rattle.bolt_core.specs.steps.Closes.{HandsInFor, IsGroupOf, Settles, appended_by, closed_as, kept_slot, settled_slot, shown_slot, value_of}
use Rattle.bolt_core.proofs.Asking.{slot_at}
use Rattle.bolt_core.proofs.BoardKeeps.{board_keeps, nodes_of}
use Rattle.bolt_core.proofs.Going.{AllSettled, GoesOn, get_front, goes_on, history_push, told_length}
use Rattle.bolt_core.proofs.Nodes.{open_node, table_within}
use Rattle.bolt_core.proofs.Numbered.{board_numbered, handed_numbered}
use Rattle.bolt_core.proofs.Showing.{none_is}
use Rattle.bolt_core.proofs.Shutting.{appended_is, appended_part, closed_is, group_of, hands_in, shows_is}
use Rattle.bolt_core.proofs.Tracing.{closed_many, traced_more}

-- Changed lists

map_changed_from : {X Y : Type 0} (m : X → Y) (f : ℕ → X → X) (h : ℕ → Y → Y) (k : ℕ) (xs : List X) →
    ((j : ℕ) (x : X) → slice_get xs j ≡ Some x → m (f (k + j) x) ≡ h (k + j) (m x)) →
    map m (changed_from k f xs) ≡ changed_from k h (map m xs)
map_changed_from m f h k [] same = refl
map_changed_from m f h k (x ∷ xs) same =
    let e : k + 0 ≡ k = omega arith in
    let first : m (f k x) ≡ h k (m x) = subst (λ (j : ℕ). m (f j x) ≡ h j (m x)) e (same 0 x refl) in
    ap (λ y. y ∷ map m (changed_from (suc k) f xs)) first
    ∙ ap (λ ys. h k (m x) ∷ ys) (map_changed_from m f h (suc k) xs (λ j y a.
    let d : k + suc j ≡ suc k + j = omega arith in
    subst (λ (l : ℕ). m (f l y) ≡ h l (m y)) d (same (suc j) y a)))

map_changed : {X Y : Type 0} (m : X → Y) (f : ℕ → X → X) (h : ℕ → Y → Y) (xs : List X) →
    ((j : ℕ) (x : X) → slice_get xs j ≡ Some x → m (f j x) ≡ h j (m x)) → map m (changed f xs) ≡ changed h (map m xs)
map_changed m f h xs same = map_changed_from m f h 0 xs (λ j x a.
    let e : j ≡ 0 + j = omega arith in
    subst (λ (l : ℕ). m (f l x) ≡ h l (m x)) e (same j x a))

pub map_kept : {X Y : Type 0} (m : X → Y) (f : ℕ → X → X) (k : ℕ) (xs : List X) → ((j : ℕ) (x : X) → m (f j x) ≡ m x) →
    map m (changed_from k f xs) ≡ map m xs
map_kept m f k [] same = refl
map_kept m f k (x ∷ xs) same = ap (λ y. y ∷ map m (changed_from (suc k) f xs)) (same k x)
    ∙ ap (λ ys. m x ∷ ys) (map_kept m f (suc k) xs same)

-- One slot: whether it is the query's own, whether that is published, whether it is of the group

abbrev settled_by : (own shown member : Bool) → ClosedAs → Option (Arc Summary Global) → ℕ → Slot → Slot
settled_by own shown member how o place s =
    cond own (cond shown (shown_slot place (kept_slot how o s)) (kept_slot how o s)) (cond member (shown_slot place s) s)

abbrev shut_by : (own shown member : Bool) → ClosedAs → Node → Node
shut_by own shown member how n =
    cond own (record n { closed = Some how; published = shown }) (cond member (record n { published = true }) n)

node_by : (own shown member : Bool) (how : ClosedAs) (o : Option (Arc Summary Global)) (place : ℕ) (s : Slot) →
    (own ≡ true → s.published ≡ None) → node_of (settled_by own shown member how o place s) ≡ shut_by own shown member how (node_of s)
node_by true true member how o place s hidden = refl
node_by true false member how o place s hidden =
    ap (λ (x : Option ℕ). record (node_of s) { closed = Some how; published = not (is_none x) }) (hidden refl)
node_by false shown true how o place s hidden = refl
node_by false shown false how o place s hidden = refl

query_by : (own shown member : Bool) (how : ClosedAs) (o : Option (Arc Summary Global)) (place : ℕ) (s : Slot) →
    (settled_by own shown member how o place s).query.value ≡ s.query.value
query_by true true member how o place s = refl
query_by true false member how o place s = refl
query_by false shown true how o place s = refl
query_by false shown false how o place s = refl

said_by : (own shown member : Bool) (how : ClosedAs) (o : Option (Arc Summary Global)) (place : ℕ) (s : Slot) →
    (settled_by own shown member how o place s).said ≡ s.said
said_by true true member how o place s = refl
said_by true false member how o place s = refl
said_by false shown true how o place s = refl
said_by false shown false how o place s = refl

abbrev pub Handed : Slot → Type 0
Handed s = (low : Option ℕ) → s.closed ≡ Some (how.NotMay low) → s.published ≡ None →
    value_of s.summary ≡ Some (summary.NotMay s.query.value)

handed_by : (own shown member : Bool) (shut : ClosedAs) (o : Option (Arc Summary Global)) (place : ℕ) (s : Slot) →
    (own ≡ true → HandsInFor s.query.value shut (value_of o)) → Handed s → Handed (settled_by own shown member shut o place s)
handed_by true true member shut o place s h old low is out = absurd (cc)
handed_by true false member shut o place s h old low is out = (h refl).not_may low (cc)
handed_by false shown true shut o place s h old low is out = absurd (cc)
handed_by false shown false shut o place s h old low is out = old low is out

place_by : (own shown member : Bool) (how : ClosedAs) (o : Option (Arc Summary Global)) (place : ℕ) (s : Slot) (n k : ℕ) → place < n →
    (s.published ≡ Some k → k < n) → (settled_by own shown member how o place s).published ≡ Some k → k < n
place_by true true member how o place s n k lt old is = let e : place ≡ k = cc in omega (arith, e, lt)
place_by true false member how o place s n k lt old is = old is
place_by false shown true how o place s n k lt old is = let e : place ≡ k = cc in omega (arith, e, lt)
place_by false shown false how o place s n k lt old is = old is

-- A settled event says the same with a longer table

take_front : (ts us : List Summary) (k : ℕ) → k ≤ length ts → take k (ts ++ us) ≡ take k ts
take_front ts us zero le = refl
take_front [] us (suc k) le = absurd (omega (arith, le))
take_front (t ∷ ts) us (suc k) le = ap (λ vs. t ∷ vs) (take_front ts us k (omega (arith, le)))

part_front : (ts us : List Summary) (from more : ℕ) → from + more ≤ length ts → take more (drop from (ts ++ us)) ≡ take more (drop from ts)
part_front ts us zero more le = take_front ts us more (omega (arith, le))
part_front [] us (suc from) more le = absurd (omega (arith, le))
part_front (t ∷ ts) us (suc from) more le = part_front ts us from more (omega (arith, le))

told_longer : (nq : ℕ) (qs : List Query) (ts us : List Summary) (x : Stored) → IsSettled nq (length ts) x →
    told_by qs (ts ++ us) x ≡ told_by qs ts x
told_longer nq qs ts us (stored.Take w i left steps waiting) s = refl
told_longer nq qs ts us (stored.Publish w i place) s = ap (said_as w i) (get_front ts us place s)
told_longer nq qs ts us (stored.Ask w i n c) s = refl
told_longer nq qs ts us (stored.Feed w i n c) s = refl
told_longer nq qs ts us (stored.Park w i n rest) s = refl
told_longer nq qs ts us (stored.Close w i n shut from more) s = ap (closed w i n shut) (part_front ts us from more s)
told_longer nq qs ts us (stored.Stop w) s = refl

pub all_longer : (nq : ℕ) (qs : List Query) (ts us : List Summary) (xs : List Stored) → AllSettled nq (length ts) xs →
    map (told_by qs (ts ++ us)) xs ≡ map (told_by qs ts) xs
all_longer nq qs ts us [] s = refl
all_longer nq qs ts us (x ∷ xs) s =
    ap (λ y. y ∷ map (told_by qs (ts ++ us)) xs) (told_longer nq qs ts us x (s 0 x refl))
    ∙ ap (λ ys. told_by qs ts x ∷ ys) (all_longer nq qs ts us xs (λ i e at. s (suc i) e at))

pub longer_settled : (nq nt mt : ℕ) (x : Stored) → nt ≤ mt → IsSettled nq nt x → IsSettled nq mt x
longer_settled nq nt mt (stored.Take w i left steps waiting) le s = tt
longer_settled nq nt mt (stored.Publish w i place) le s = omega (arith, le, s)
longer_settled nq nt mt (stored.Ask w i n c) le s = s
longer_settled nq nt mt (stored.Feed w i n c) le s = tt
longer_settled nq nt mt (stored.Park w i n rest) le s = tt
longer_settled nq nt mt (stored.Close w i n shut from more) le s = omega (arith, le, s)
longer_settled nq nt mt (stored.Stop w) le s = tt

-- A close

module _ (p : Shown) (es : List (Entry Seen)) (ss : List Slot) (ts : List Summary) (xs : List Stored) (st : Bool)
    (h : IsBoard (record p { core = core_of p.core.kept es ss ts xs st })) (f t s v : ℕ)
    (r : IsRoomy (record p { core = core_of p.core.kept es ss ts xs st }) ss xs f t s v) (w : ℕ) (g : Given) (c : Closing)
    (m : MayBeClosed (record p { core = core_of p.core.kept es ss ts xs st }) g c) (n : IsNow (core_of p.core.kept es ss ts xs st) g.id
    g.taken)
    (own : Slot)
    (at : slice_get ss g.id ≡ Some own) (shut : ClosedAs) (is : shut ≡ closed_as own.level g.state.lowest c)
    (o : Option (Arc Summary Global)) (i : HandsIn g.state.query c (value_of o)) (place : ℕ) (here : place ≡ length xs) where
  abbrev before : Shown
  before = record p { core = core_of p.core.kept es ss ts xs st }

  abbrev pub settled : List Slot
  settled = changed (settled_slot (map node_of ss) g.id own.level shut o place) ss

  abbrev pub added : List Summary
  added = appended_by (map node_of ss) g.id own.level own.query.value shut (value_of o)

  node_is : m.sound.node ≡ node_of own
  node_is = (slot_at before ss h refl g m.sound own at).0

  silent : own.published ≡ None
  silent =
      let k = board_keeps before h in
      none_is own.published
      (ap (λ (x : Node). x.published) (sym node_is)
      ∙ k.counted.silent g.id m.sound.node m.sound.node_at
      (open_node es (map node_of ss) k.paired g.id n.own m.sound.node n.at m.sound.node_at
      (λ z. let e : Running ≡ Closed = sym n.running ∙ z in absurd (cc))))

  nodes_are : map node_of settled
      ≡ changed (closed_at (map node_of ss) g.id shut (shows (reads p.graphs) shut) m.sound.node.level) (map node_of ss)
  nodes_are =
      let ns : List Node = map node_of ss in
      map_changed node_of (settled_slot ns g.id own.level shut o place) (closed_at ns g.id shut (publishes shut) own.level) ss
      (λ j y a. node_by (j == g.id) (publishes shut) (leads shut && is_member ns g.id own.level j) shut o place y
      (λ e. ap (λ (x : Slot). x.published) (one_at ss g.id j own y at a (eqb-true j g.id e)) ∙ silent))
      ∙ (ap (λ b. changed (closed_at ns g.id shut b own.level) ns) (shows_is (reads p.graphs) shut)
      ∙ ap (λ (x : Node). changed (closed_at ns g.id shut (shows (reads p.graphs) shut) x.level) ns) (sym node_is))

  queries_are : map (λ (x : Slot). x.query.value) settled ≡ map (λ (x : Slot). x.query.value) ss
  queries_are =
      let ns : List Node = map node_of ss in
      map_kept (λ (x : Slot). x.query.value) (settled_slot ns g.id own.level shut o place) 0 ss
      (λ j y. query_by (j == g.id) (publishes shut) (leads shut && is_member ns g.id own.level j) shut o place y)

  appends : added ≡ appended (reads p.graphs) (map node_of ss) g.id m.sound.node shut c
  appends =
      let R = reads p.graphs in
      let ns : List Node = map node_of ss in
      subst (λ (x : ClosedAs). appended_by ns g.id own.level own.query.value x (value_of o) ≡ appended R ns g.id m.sound.node x c) (sym is)
      (subst
      (λ (x : Node). appended_by ns g.id own.level own.query.value (closed_as own.level g.state.lowest c) (value_of o)
      ≡ appended R ns g.id x (closed_as own.level g.state.lowest c) c)
      (sym node_is)
      (appended_is R ns g.id (node_of own) own.level g.state.lowest g.state.query c (value_of o) i))

  told_is : shut ≡ closed_how (reads p.graphs) m.sound.node.level g.state c
  told_is = is ∙ (closed_is (reads p.graphs) own.level g.state c
      ∙ ap (λ (x : Node). closed_how (reads p.graphs) x.level g.state c) (sym node_is))

  abbrev event_of : ℕ → ℕ → Stored
  event_of from more = stored.Close w g.id g.spent shut from more

  history_is : history_of settled (ts ++ added) (xs ++ event_of (length ts) (length added) ∷ [])
      ≡ history_of ss ts xs ++ closed w g.id g.spent shut added ∷ []
  history_is =
      let x : Stored = event_of (length ts) (length added) in
      let qs : List Query = map (λ (y : Slot). y.query.value) ss in
      history_push settled (ts ++ added) xs x
      ∙ (ap (λ (q : List Query). map (told_by q (ts ++ added)) xs ++ told_by q (ts ++ added) x ∷ []) queries_are
      ∙ (ap (λ (l : List Told). l ++ told_by qs (ts ++ added) x ∷ []) (all_longer (length ss) qs ts added xs r.settled)
      ∙ ap (λ (us : List Summary). history_of ss ts xs ++ closed w g.id g.spent shut us ∷ []) (appended_part ts added)))

  pub close_on : (fs : List (Entry Seen)) → Went (λ own. after_close es own g.id g.spent g.state place) es fs g.id →
      GoesOn before (closed w g.id g.spent shut added)
      (core_of p.core.kept fs settled (ts ++ added) (xs ++ event_of (length ts) (length added) ∷ []) st)
  close_on fs wt =
      let R = reads p.graphs in
      let ns : List Node = map node_of ss in
      let ms : List Node = changed (closed_at ns g.id shut (shows R shut) m.sound.node.level) ns in
      let us : List Summary = ts ++ added in
      let ys : List Stored = xs ++ event_of (length ts) (length added) ∷ [] in
      let e : Told = closed w g.id g.spent shut added in
      let stamp : place ≡ length (history_of ss ts xs) = here ∙ sym (told_length ss ts xs) in
      let after : List (Entry Seen) = after_close es wt.own g.id g.spent g.state (length (history_of ss ts xs)) in
      goes_on before e (core_of p.core.kept fs settled us ys st) h
      (record {
        job = job_of g;
        own = wt.own;
        closing = c;
        sound = m.sound;
        since = record { at = wt.at; running = wt.running; last = n.last };
        id = refl;
        spent = refl;
        is_closed = m.is_closed;
        may = m.may;
        told = told_is;
        appends = appends;
        new_is = ap (λ gs. core_of p.core.kept gs settled us ys st)
            (wt.becomes ∙ ap (λ k. after_close es wt.own g.id g.spent g.state k) stamp)
            ∙ (ap (λ l. record (core_of p.core.kept after settled us ys st) { history = l }) history_is
            ∙ ap (λ (l : List Node). record (core_of p.core.kept after ss us ys st) { nodes = l; history = history_of ss ts xs ++ e ∷ [] })
            nodes_are);
      })
      (omega (arith, within es g.id n.own n.at))

  -- there is room for what it appends
  pub close_room : (length (ts ++ added) ≤ most_summaries before) × (length (history_of ss ts xs) < 16 * most_queries before)
  close_room =
      let fs : List (Entry Seen) = after_close es n.own g.id g.spent g.state place in
      let o = close_on fs (record { own = n.own; at = n.at; running = n.running; becomes = refl }) in
      let ys : List Stored = xs ++ event_of (length ts) (length added) ∷ [] in
      let new : Shown = record p { core = core_of p.core.kept fs settled (ts ++ added) ys st } in
      let k = board_keeps new o.board in (
        omega (arith, o.few, k.paired.count, table_within (reads p.graphs) new.core (nodes_of (reads p.graphs) p.asserts new.core k)),
        o.fits,
      )

  hands : (d : Slot) → slice_get ss g.id ≡ Some d → HandsInFor d.query.value shut (value_of o)
  hands d a =
      let same : d ≡ own = one_at ss g.id g.id own d at a refl in
      let q : g.state.query ≡ d.query.value =
      m.sound.query ∙ (ap (λ (x : Node). x.query) node_is ∙ ap (λ (x : Slot). x.query.value) (sym same)) in
      subst (λ (x : ClosedAs). HandsInFor d.query.value x (value_of o)) (sym is)
      (hands_in g.state.query d.query.value own.level g.state.lowest c (value_of o) q i)

  pub ids_many : length added ≡ length (closed_ids (map node_of ss) g.id own.level shut)
  ids_many = closed_many (map node_of ss) g.id own.level own.query.value shut (value_of o) (hands own at)

  -- there is room for the numbers
  pub ids_fit : (ids : List ℕ) (room : ℕ) → HasTraced before ids room →
      length (ids ++ closed_ids (map node_of ss) g.id own.level shut) ≤ room
  ids_fit ids room d = omega (
    arith,
    close_room.0,
    length-append ts added,
    ids_many,
    length-append ids (closed_ids (map node_of ss) g.id own.level shut),
    d.count,
    d.fits,
  )

  pub close_settles : Settles ss g.id own.level shut (value_of o) ts t
  close_settles = record {
    hands = hands;
    fits = λ d a. subst
        (λ (x : Slot). length (ts ++ appended_by (map node_of ss) g.id own.level x.query.value shut (value_of o)) ≤ t)
        (sym (one_at ss g.id g.id own d at a refl)) (omega (arith, close_room.0, r.summaries));
    numbered = handed_numbered p.graphs g.state.query numbered c m.may (value_of o) i;
  }
    where
      numbered : IsNumbered g.state.query.proc g.state.query.exit
      numbered = subst (λ (q : Query). IsNumbered q.proc q.exit) (sym m.sound.query)
          (board_numbered before h g.id m.sound.node m.sound.node_at)

  pub close_group : IsGroupOf ss g.id own.level place
  close_group = group_of p es ss ts xs st f t s v h r place here g.id own at

  -- with what the calls gave
  module _ (ls : List Slot) (are : ls ≡ settled) (us : List Summary) (table : us ≡ ts ++ added) (ys : List Stored) (from more : ℕ)
      (begun : from ≡ length ts) (count : from + more ≡ length us) (pushed : ys ≡ xs ++ stored.Close w g.id g.spent shut from more ∷ [])
    where
      event_is : ys ≡ xs ++ event_of (length ts) (length added) ∷ []
      event_is =
          let k : more ≡ length added =
          omega (arith, begun, count, ap (λ (l : List Summary). length l) table, length-append ts added) in
          pushed ∙ (ap (λ j. xs ++ event_of j more ∷ []) begun ∙ ap (λ j. xs ++ event_of (length ts) j ∷ []) k)

      pub close_goes : (fs : List (Entry Seen)) → Went (λ own. after_close es own g.id g.spent g.state place) es fs g.id →
          GoesOn before (closed w g.id g.spent shut added) (core_of p.core.kept fs ls us ys st)
      close_goes fs wt = subst (λ (x : Core Seen). GoesOn before (closed w g.id g.spent shut added) x)
          (sym (ap (λ l. core_of p.core.kept fs l us ys st) are ∙ (ap (λ l. core_of p.core.kept fs settled l ys st) table
          ∙ ap (λ l. core_of p.core.kept fs settled (ts ++ added) l st) event_is)))
          (close_on fs wt)

      pub close_is : (fs : List (Entry Seen)) → Went (λ own. after_close es own g.id g.spent g.state place) es fs g.id →
          IsClosedBy before w g c (record p { core = core_of p.core.kept fs ls us ys st })
      close_is fs wt =
          let R = reads p.graphs in
          record {
            summaries = added;
            level = own.level;
            event = subst
                (λ (x : ClosedAs). Event R (core_of p.core.kept es ss ts xs st) (closed w g.id g.spent x added)
                (core_of p.core.kept fs ls us ys st))
                (is ∙ closed_is R own.level g.state c) (close_goes fs wt).event;
          }

      pub traced_close : (fs : List (Entry Seen)) → Went (λ own. after_close es own g.id g.spent g.state place) es fs g.id →
          (ids : List ℕ) (room wide : ℕ) → HasTraced before ids room → (is : List ℕ) →
          is ≡ ids ++ closed_ids (map node_of ss) g.id own.level shut → wide ≡ room →
          HasTraced (record p { core = core_of p.core.kept fs ls us ys st }) is wide
      traced_close fs wt ids room wide d is now same =
          let ns : List Node = map node_of ss in
          let there : slice_get ns g.id ≡ Some (node_of own) = slice_get-map node_of ss g.id ∙ ap (option_map node_of) at in
          traced_more before h (closed w g.id g.spent shut added) (core_of p.core.kept fs ls us ys st) (close_goes fs wt) ids
          (closed_ids ns g.id own.level shut) room wide d (ap (λ l. closed_ids ns g.id l shut) (sym (ap level_in there)))
          (omega (arith, ap (λ (l : List Summary). length l) table, length-append ts added, ids_many)) is now same

      pub roomy_close : (d : Core Seen) (fr tr sr er : ℕ) → d.table ≡ us → d.kept ≡ p.core.kept → fr ≡ f → tr ≡ t → s ≤ sr → er ≡ v →
          ((j : ℕ) → has_said d.history j ≡ has_said (history_of ss ts xs) j) → IsRoomy (record p { core = d }) ls ys fr tr sr er
      roomy_close d fr tr sr er seen held room wide kept same quiet =
          let ns : List Node = map node_of ss in
          let longer : length ts ≤ length us = omega (arith, ap (λ (l : List Summary). length l) table, length-append ts added) in
          let size : length ls ≡ length ss =
          ap (λ (l : List Slot). length l) are ∙ length_changed (settled_slot ns g.id own.level shut o place) 0 ss in
          let back = λ (j : ℕ) (y : Slot) (a : slice_get ls j ≡ Some y).
          from_changed (settled_slot ns g.id own.level shut o place) ss j y (subst (λ (l : List Slot). slice_get l j ≡ Some y) are a) in
          let number : length ys ≡ suc (length xs) =
          omega (arith, ap (λ (l : List Stored). length l) pushed, length_push xs (event_of from more)) in
          record {
            queries = room ∙ r.queries;
            kept = omega (arith, r.kept, kept);
            summaries = omega (arith, wide, r.summaries, ap (λ (ks : List Summary). length ks) held);
            happened = omega (arith, r.happened, same);
            settled = λ j x a. subst (λ (l : List Summary). IsSettled (length ls) (length l) x) (sym seen)
                (subst (λ k. IsSettled k (length us) x) (sym size)
                (⊎_elim
                (λ z. longer_settled (length ss) (length ts) (length us) x longer (r.settled j x z))
                (λ z. let le : from + more ≤ length us = omega (arith, count) in
                subst (IsSettled (length ss) (length us)) (sym z.1) le)
                (from_pushed xs (event_of from more) j x (subst (λ (l : List Stored). slice_get l j ≡ Some x) pushed a))));
            handed = λ j y a.
                let x = back j y a in
                subst Handed (sym x.2) (handed_by (j == g.id) (publishes shut) (leads shut && is_member ns g.id own.level j) shut o place
                x.0 (λ e. hands x.0 (subst (λ k. slice_get ss k ≡ Some x.0) (eqb-true j g.id e) x.1)) (r.handed j x.0 x.1));
            shown = λ j y a k e.
                let x = back j y a in
                place_by (j == g.id) (publishes shut) (leads shut && is_member ns g.id own.level j) shut o place x.0 (length ys) k
                (omega (arith, here, number))
                (λ z. omega (arith, r.shown j x.0 x.1 k z, number))
                (ap (λ (q : Slot). q.published) (sym x.2) ∙ e);
            said_is = λ j y a.
                let x = back j y a in
                ap (λ (q : Slot). q.said) x.2
                ∙ (said_by (j == g.id) (publishes shut) (leads shut && is_member ns g.id own.level j) shut o place x.0
                ∙ (r.said_is j x.0 x.1 ∙ sym (quiet j)));
          }
