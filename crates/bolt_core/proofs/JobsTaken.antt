-- A take of the board is one event, and the job hears its children's news.
use Rattle.std.proofs.Common.{◌≡◌, ℕ, zero, suc, ◌^◌, ◌<◌, ◌≤◌, List, [], ◌∷◌, ◌++◌, length, map, take, drop, Bool, true, false, Option, Some, None, refl, sym, ap, ◌∙◌, subst, ⊎_elim, arith}
use Rattle.std.specs.Prelude.{slice_get, get_or, not}
use Rattle.std.proofs.lemmas.List.{length-map}
use Rattle.flow_graph.specs.declared.graph.Graph.{Graph}
use Rattle.query_tree.specs.declared.Entry.{Entry}
use Rattle.query_tree.specs.declared.Lent.{Lent}
use Rattle.query_tree.specs.declared.Status.{Status}
use Rattle.query_tree.specs.declared.Status.TheVariants.{Ready, Running, Starved}
use Rattle.query_tree.specs.Forest.{after_take, changed, has_live, has_live_child, is_live, is_live_entry, is_open, take_at}
use Rattle.query_tree.specs.Kept.{IsKept}
use Rattle.query_tree.specs.Takes.{HasNoReady, Took}
use Rattle.query_tree.proofs.Lists.{any_at, at_place, from_changed, length_changed, present, to_changed, within}
use Rattle.query_tree.proofs.Tests.{cond_eq, one_at, live_open}
use Rattle.query_tree.proofs.Work.{work_from}
use Rattle.query_rules.specs.Leaning.{levels_of}
use Rattle.query_rules.specs.Answered.{AreAnswered}
use Rattle.query_rules.specs.Seen.{Seen, ShowsModel}
use Rattle.query_rules.specs.States.{IsTrueNews, Tells}
use Rattle.query_rules.specs.Steps.{Model, updated, with_child}
use Rattle.query_rules.specs.declared.step.Asked.{Asked}
use Rattle.query_rules.specs.declared.step.News.{News}
use Rattle.query_rules.specs.declared.step.News.TheVariants as news
use Rattle.summary_form.specs.declared.query.Query.{Query}
use Rattle.summary_form.specs.declared.summary.Summary.{Summary}
use Rattle.bolt_core.specs.declared.event.Event.{Event as Stored}
use Rattle.bolt_core.specs.declared.event.Event.TheVariants as stored
use Rattle.bolt_core.specs.declared.job.Job.{Job as Given}
use Rattle.bolt_core.specs.declared.slot.ClosedAs.{ClosedAs}
use Rattle.bolt_core.specs.declared.slot.Slot.{Slot}
use Rattle.bolt_core.specs.Boards.{CanHear, IsBoard, IsBusy, IsIdle, IsTaken, Shown, core_of, hears, news_at, news_by, news_of, node_of, told_as}
use Rattle.bolt_core.specs.Groups.{Node}
use Rattle.bolt_core.specs.Histories.{Told, closed_as, took}
use Rattle.bolt_core.specs.Lawful.{IsTrueNews as IsTold, MayTell}
use Rattle.bolt_core.specs.Machine.{Core, IsSound, Takes}
use Rattle.bolt_core.specs.States.{IsStateFor, reads}
use Rattle.bolt_core.proofs.Agreeing.{closes_not}
use Rattle.bolt_core.proofs.AskedFew.{payload_steps}
use Rattle.bolt_core.proofs.BoardKeeps.{board_keeps}
use Rattle.bolt_core.proofs.Going.{GoesOn, goes_on, history_push, told_length}
use Rattle.bolt_core.proofs.Hearing.{can_hear, taken_answered, taken_sound, taken_waits}
use Rattle.bolt_core.proofs.StatesLawful.{states_lawful, tell_state, told_news}
use Rattle.bolt_core.proofs.Parking.{live_is}

-- News of a query

pub here_entry : (c : Core Seen) (i : ℕ) → i < length c.entries → (st : Status) →
    ((e : Entry Seen) → slice_get c.entries i ≡ Some e → st ≡ e.status) → news_by (closed_as c.history i) st ≡ news_at c i
here_entry c i lt st f =
    let e = present c.entries i lt in
    ap (news_by (closed_as c.history i)) (f e.0 e.1) ∙ ap (news_of (closed_as c.history i)) (sym e.1)

-- each query has a slot
pub has_slot : (p : Shown) → IsBoard p → (ss : List Slot) → p.core.nodes ≡ map node_of ss → length p.core.entries ≡ length ss
has_slot p h ss same =
    (board_keeps p h).paired.count ∙ (ap (λ (ns : List Node). length ns) same ∙ length-map ss node_of)

-- the slot keeps as what the query closed
pub slot_closed : (p : Shown) → IsBoard p → (ss : List Slot) → p.core.nodes ≡ map node_of ss → (i : ℕ) (s : Slot) →
    slice_get ss i ≡ Some s → s.closed ≡ closed_as p.core.history i
slot_closed p h ss same i s at = (board_keeps p h).agrees.closed i (node_of s)
    (ap (λ (ns : List Node). slice_get ns i) same ∙ mapped ss i s at) where
      mapped : (xs : List Slot) (k : ℕ) (x : Slot) → slice_get xs k ≡ Some x → slice_get (map node_of xs) k ≡ Some (node_of x)
      mapped [] k x at = absurd (cc)
      mapped (y ∷ xs) zero x at = let s : Some y ≡ Some x = at in let e : y ≡ x = cc in ap (λ (z : Slot). Some (node_of z)) e
      mapped (y ∷ xs) (suc k) x at = mapped xs k x at

-- Some entries have heard

abbrev pub heard : Core Seen → Asked → Asked
heard c a = told_as (news_at c a.child) a

-- the first n have heard
abbrev pub upto : (Asked → Asked) → ℕ → List Asked → List Asked
upto f n xs = map f (take n xs) ++ drop n xs

abbrev pub told_upto : Core Seen → ℕ → Seen → Seen
told_upto c n s = record s { asked = upto (heard c) n s.asked }

none_told : (f : Asked → Asked) (xs : List Asked) → upto f 0 xs ≡ xs
none_told f [] = refl
none_told f (x ∷ xs) = refl

pub length_upto : (f : Asked → Asked) (n : ℕ) (xs : List Asked) → length (upto f n xs) ≡ length xs
length_upto f zero [] = refl
length_upto f zero (x ∷ xs) = refl
length_upto f (suc n) [] = refl
length_upto f (suc n) (x ∷ xs) = ap suc (length_upto f n xs)

get_upto : (f : Asked → Asked) (n : ℕ) (xs : List Asked) → slice_get (upto f n xs) n ≡ slice_get xs n
get_upto f zero [] = refl
get_upto f zero (x ∷ xs) = refl
get_upto f (suc n) [] = refl
get_upto f (suc n) (x ∷ xs) = get_upto f n xs

all_upto : (f : Asked → Asked) (n : ℕ) (xs : List Asked) → length xs ≤ n → upto f n xs ≡ map f xs
all_upto f zero [] le = refl
all_upto f zero (x ∷ xs) le = absurd (omega (arith, le))
all_upto f (suc n) [] le = refl
all_upto f (suc n) (x ∷ xs) le = ap (λ ys. f x ∷ ys) (all_upto f n xs (omega (arith, le)))

-- and one more
more_upto : (f g : Asked → Asked) (n : ℕ) (xs : List Asked) (a : Asked) → slice_get xs n ≡ Some a → f a ≡ g a →
    updated g (upto f n xs) n ≡ upto f (suc n) xs
more_upto f g n [] a at e = absurd (cc)
more_upto f g zero (x ∷ xs) a at e =
    let s : Some x ≡ Some a = at in
    let d : x ≡ a = cc in
    ap (λ y. y ∷ xs) (ap g d ∙ (sym e ∙ ap f (sym d)))
more_upto f g (suc n) (x ∷ xs) a at e = ap (λ ys. f x ∷ ys) (more_upto f g n xs a at e)

same_upto : (f : Asked → Asked) (n : ℕ) (xs : List Asked) (a : Asked) → slice_get xs n ≡ Some a → f a ≡ a →
    upto f n xs ≡ upto f (suc n) xs
same_upto f n [] a at e = absurd (cc)
same_upto f zero (x ∷ xs) a at e =
    let s : Some x ≡ Some a = at in
    let d : x ≡ a = cc in
    ap (λ y. y ∷ xs) (d ∙ (sym e ∙ ap f (sym d)))
same_upto f (suc n) (x ∷ xs) a at e = ap (λ ys. f x ∷ ys) (same_upto f n xs a at e)

told_none : (o : Option News) (a : Asked) → o ≡ None → told_as o a ≡ a
told_none o a e = ap (λ o. told_as o a) e

told_some : (o : Option News) (a : Asked) (known : News) → o ≡ Some known → told_as o a ≡ with_child a.child known a
told_some o a known e = ap (λ o. told_as o a) e

pub told_first : (c : Core Seen) (s : Seen) → s ≡ told_upto c 0 s
told_first c s = ap (λ xs. record s { asked = xs }) (sym (none_told (heard c) s.asked))

pub told_all : (c : Core Seen) (s : Seen) (n : ℕ) → length s.asked ≤ n → told_upto c n s ≡ hears c s
told_all c s n le = ap (λ xs. record s { asked = xs }) (all_upto (heard c) n s.asked le)

pub told_more : (c : Core Seen) (s : Seen) (n : ℕ) (a : Asked) (known : News) → slice_get s.asked n ≡ Some a →
    news_at c a.child ≡ Some known →
    record s { asked = updated (with_child a.child known) (upto (heard c) n s.asked) n } ≡ told_upto c (suc n) s
told_more c s n a known at is = ap (λ xs. record s { asked = xs })
    (more_upto (heard c) (with_child a.child known) n s.asked a at (told_some (news_at c a.child) a known is))

pub told_same : (c : Core Seen) (s : Seen) (n : ℕ) (a : Asked) → slice_get s.asked n ≡ Some a → news_at c a.child ≡ None →
    told_upto c n s ≡ told_upto c (suc n) s
told_same c s n a at is = ap (λ xs. record s { asked = xs })
    (same_upto (heard c) n s.asked a at (told_none (news_at c a.child) a is))

pub told_there : (c : Core Seen) (s : Seen) (n : ℕ) → slice_get (told_upto c n s).asked n ≡ slice_get s.asked n
told_there c s n = get_upto (heard c) n s.asked

-- the next entry is as it was
pub entry_next : (c : Core Seen) (s : Seen) (n : ℕ) (a : Asked) (t : Seen) (xs : List Asked) → t ≡ told_upto c n s → xs ≡ t.asked →
    n < length s.asked → a ≡ get_or xs n a → slice_get s.asked n ≡ Some a
entry_next c s n a t xs same seen lt is =
    let ys : xs ≡ upto (heard c) n s.asked = seen ∙ ap (λ (x : Seen). x.asked) same in
    let more : n < length xs = omega (arith, lt, ap (λ (zs : List Asked). length zs) ys, length_upto (heard c) n s.asked) in
    sym (told_there c s n) ∙ (ap (λ (zs : List Asked). slice_get zs n) (sym ys) ∙ (at_place xs n a more ∙ ap Some (sym is)))

-- A state that hears
module _ (b : Shown) (s : Seen) (h : CanHear b s) where
  still_true : (n : ℕ) (q : Query) (k : News) → IsTold (reads b.graphs) s q k → IsTold (reads b.graphs) (told_upto b.core n s) q k
  still_true n q (news.NotMay low) t = t
  still_true n q news.Waiting t = t
  still_true n q news.Starved t = t
  still_true n q news.Must t = t
  still_true n q (news.Stuck kind) t = t

  pub may_next : (n : ℕ) (a : Asked) (known : News) → slice_get s.asked n ≡ Some a → news_at b.core a.child ≡ Some known →
      MayTell (reads b.graphs) (told_upto b.core n s) n known
  may_next n a known at is =
      let m = h.may n a at known is in
      record {
        entry = m.entry;
        there = told_there b.core s n ∙ m.there;
        stays = m.stays;
        is_true = still_true n m.entry.query known m.is_true;
      }

-- What may be heard is heard
module _ (gs : List Graph) where
  pub tells_by : (table : List Summary) (s : Seen) (i : ℕ) (k : News) → IsStateFor gs table s → MayTell (reads gs) s i k →
      (g : List Graph) × (m : Model) × ShowsModel s m × Tells g m i k
  tells_by table s i k h t =
      let levels : levels_of h.model.ancestors h.model.query ≡ levels_of s.ancestors s.query =
      ap (λ l. levels_of l h.model.query) h.shows.ancestors ∙ ap (levels_of s.ancestors) h.shows.query in (
        gs,
        h.model,
        h.shows,
        record {
          entry = t.entry;
          there = ap (λ (asked : List Asked). slice_get asked i) h.shows.asked ∙ t.there;
          stays = t.stays;
          is_true = subst (λ l. IsTrueNews gs l t.entry.query k) (sym levels) (told_news gs s t.entry.query k t.is_true);
        },
      )

-- the next entry hears
pub hear_next : (p : Shown) (s : Seen) → CanHear p s → (n : ℕ) (a : Asked) (known : News) (t : Seen) →
    slice_get s.asked n ≡ Some a → news_at p.core a.child ≡ Some known → t ≡ told_upto p.core n s → IsStateFor p.graphs p.core.table t →
    let u : Seen = record t { asked = updated (with_child a.child known) t.asked n } in
    (u ≡ told_upto p.core (suc n) s) × IsStateFor p.graphs p.core.table u
hear_next p s h n a known t at is same state = (
  ap (λ (x : Seen). record x { asked = updated (with_child a.child known) x.asked n }) same ∙ told_more p.core s n a known at is,
  tell_state p.graphs p.core.table t n a.child known state
      (subst (λ (x : Seen). MayTell (reads p.graphs) x n known) (sym same) (may_next p s h n a known at is)),
)

-- of a query that is dropped there is no news
pub pass_next : (c : Core Seen) (s : Seen) (n : ℕ) (a : Asked) (t : Seen) → slice_get s.asked n ≡ Some a → news_at c a.child ≡ None →
    t ≡ told_upto c n s → t ≡ told_upto c (suc n) s
pass_next c s n a t at is same = same ∙ told_same c s n a at is

-- A take

-- some query is Running where none is Ready and the board isn't over
starved_not : (s : Status) → is_live s ≡ true → s ≡ Starved → ⊥
starved_not s h e = let d : is_live Starved ≡ true = ap is_live (sym e) ∙ h in absurd (cc)

pub some_running : (es : List (Entry Seen)) → IsKept es → HasNoReady es → not (has_live es) ≡ false → IsBusy es
some_running es k none going =
    let a = any_at is_live_entry es (live_is (has_live es) going) in
    ⊎_elim
    (λ o. absurd (starved_not a.1.status a.3 (o.starved a.0 a.1 a.2 refl (live_open a.1.status a.3))))
    (λ w. record {
      id = w.place;
      own = w.entry;
      at = w.at;
      running = ⊎_elim (λ r. absurd (none.none w.place w.entry w.at r)) (λ r. r) w.ready;
    })
    ((work_from es k.tree k.leaning).works a.1.root)

-- the take of the forest is an event
module _ (p : Shown) (es fs : List (Entry Seen)) (ss : List Slot) (ts : List Summary) (xs : List Stored) (st : Bool) (w n : ℕ)
    (lent : Lent Seen) where
  abbrev pub before : Shown
  before = record p { core = core_of p.core.kept es ss ts xs st }

  abbrev pub take_event : Stored
  take_event = stored.Take w lent.id lent.left n lent.waiting

  abbrev pub take_told : Told
  take_told = took w lent.id lent.left n lent.waiting

  abbrev pub taken_core : Core Seen
  taken_core = core_of p.core.kept fs ss ts (xs ++ take_event ∷ []) st

  module _ (b : IsBoard before) (going : st ≡ false) (t : Took es fs lent) where
    pub steps_small : length lent.payload.steps < 2 ^ 32
    steps_small = payload_steps p.graphs p.asserts before.core (board_keeps before b) lent.id t.own t.at lent.payload t.payload

    abbrev pub takes_is : n ≡ length lent.payload.steps → Takes (reads p.graphs) before.core lent.id lent.left n lent.waiting take_told
        taken_core
    takes_is steps = record {
      own = t.own;
      state = lent.payload;
      at = t.at;
      ready = t.ready;
      going = going;
      left_is = t.left;
      payload = t.payload;
      steps_is = steps;
      waiting_is = t.waiting;
      new_is = ap (λ gs. core_of p.core.kept gs ss ts (xs ++ take_event ∷ []) st) t.becomes
          ∙ ap (λ h. record (core_of p.core.kept (after_take es lent.id) ss ts xs st) { history = h }) (history_push ss ts xs take_event);
    }

    pub take_on : n ≡ length lent.payload.steps → GoesOn before take_told taken_core
    take_on steps = goes_on before take_told taken_core b (takes_is steps) (omega (arith, within es lent.id t.own t.at))

    pub hears_before : CanHear before lent.payload
    hears_before = can_hear before b lent.id t.own t.at lent.payload t.payload (ap is_open t.ready)

-- News after the Take

entry_news : (o : Option ClosedAs) (f : ℕ → Entry Seen → Entry Seen) (es : List (Entry Seen)) →
    ((k : ℕ) (e : Entry Seen) → slice_get es k ≡ Some e → news_by o (f k e).status ≡ news_by o e.status) →
    (i : ℕ) (x y : Option (Entry Seen)) →
    slice_get es i ≡ x → slice_get (changed f es) i ≡ y → news_of o y ≡ news_of o x
entry_news o f es same i None None a b = refl
entry_news o f es same i None (Some y) a b =
    let r = from_changed f es i y b in
    let e : Some r.0 ≡ None = sym r.1 ∙ a in
    absurd (cc)
entry_news o f es same i (Some e) None a b =
    let d : None ≡ Some (f i e) = sym b ∙ to_changed f es i e a in
    absurd (cc)
entry_news o f es same i (Some e) (Some y) a b =
    let r = from_changed f es i y b in
    ap (λ (z : Entry Seen). news_by o z.status) r.2
    ∙ (same i r.0 r.1 ∙ ap (λ (z : Entry Seen). news_by o z.status) (one_at es i i e r.0 a r.1 refl))

taken_news : (o : Option ClosedAs) (es : List (Entry Seen)) (i : ℕ) (own : Entry Seen) (waiting : Bool) → slice_get es i ≡ Some own →
    own.status ≡ Ready → (k : ℕ) (e : Entry Seen) → slice_get es k ≡ Some e →
    news_by o (take_at i waiting k e).status ≡ news_by o e.status
taken_news o es i own waiting at ready k e there =
    cond_eq (λ (z : Entry Seen). news_by o z.status ≡ news_by o e.status) k i
    (record e { status = Running; lent = e.left; waiting = waiting; stirred = false; payload = None }) e
    (λ same. let d : e ≡ own = one_at es i k own e at there same in
    ap (news_by o) (sym (ap (λ (z : Entry Seen). z.status) d ∙ ready)))
    (λ _. refl)

map_same : {X Y : Type 0} (f g : X → Y) (xs : List X) → ((x : X) → f x ≡ g x) → map f xs ≡ map g xs
map_same f g [] h = refl
map_same f g (x ∷ xs) h = ap (λ y. y ∷ map f xs) (h x) ∙ ap (λ ys. g x ∷ ys) (map_same f g xs h)

module _ (old new : Core Seen) (w i left n : ℕ) (waiting : Bool)
    (t : (own : Entry Seen) × (slice_get old.entries i ≡ Some own) × (own.status ≡ Ready))
    (es : new.entries ≡ after_take old.entries i) (hs : new.history ≡ old.history ++ took w i left n waiting ∷ []) where
  pub news_same : (k : ℕ) → news_at new k ≡ news_at old k
  news_same k =
      let o : Option ClosedAs = closed_as old.history k in
      let c : closed_as new.history k ≡ o =
      ap (λ (h : List Told). closed_as h k) hs ∙ closes_not old.history (took w i left n waiting) k refl in
      ap (λ (z : Option ClosedAs). news_of z (slice_get new.entries k)) c
      ∙ (ap (λ (xs : List (Entry Seen)). news_of o (slice_get xs k)) es
      ∙ entry_news o (take_at i (has_live_child old.entries i)) old.entries
      (taken_news o old.entries i t.0 (has_live_child old.entries i) t.1 t.2) k (slice_get old.entries k)
      (slice_get (after_take old.entries i) k) refl refl)

  pub hears_same : (s : Seen) → hears new s ≡ hears old s
  hears_same s = ap (λ xs. record s { asked = xs })
      (map_same (heard new) (heard old) s.asked (λ a. ap (λ (o : Option News). told_as o a) (news_same a.child)))

-- the state may hear after the Take too
pub hears_after : (p : Shown) (old new : Core Seen) (s : Seen) → CanHear (record p { core = old }) s → new.table ≡ old.table →
    length new.entries ≡ length old.entries → ((k : ℕ) → news_at new k ≡ news_at old k) → CanHear (record p { core = new }) s
hears_after p old new s h table count same = record {
  state = subst (λ (ts : List Summary). IsStateFor p.graphs ts s) (sym table) h.state;
  few = h.few;
  children = λ i a at. omega (arith, h.children i a at, count);
  may = λ i a at known is. h.may i a at known (sym (same a.child) ∙ is);
}

-- What a take gives

pub take_gives : (old : Shown) (c : Core Seen) (w n : ℕ) (waiting : Bool) (j : Given) → IsBoard old →
    (t : Takes (reads old.graphs) old.core j.id j.left n waiting (took w j.id j.left n waiting) c) → j.taken ≡ length old.core.history →
    j.spent ≡ 0 → j.state ≡ hears old.core t.state → IsTaken old w (record old { core = c }) j
take_gives old c w n waiting j b t place none state =
    let R = reads old.graphs in
    let g = states_lawful old.graphs b.linked in
    let k = board_keeps old b in
    record {
      stored = n;
      waiting = waiting;
      event = t;
      place = place;
      none = none;
      hears_all = λ own at s is.
          let d : Some t.state ≡ Some s =
          sym t.payload ∙ (ap (λ (e : Entry Seen). e.payload) (sym (one_at old.core.entries j.id j.id t.own own t.at at refl)) ∙ is) in
          let e : t.state ≡ s = cc in
          state ∙ ap (hears old.core) e;
      sound = subst
          (λ (s : Seen). IsSound R c.kept c.history c.nodes (record {
            id = j.id;
            taken = j.taken;
            left = j.left;
            spent = j.spent;
            state = s;
          }))
          (sym state)
          (subst
          (λ m. IsSound R c.kept c.history c.nodes
          (record { id = j.id; taken = j.taken; left = j.left; spent = m; state = hears old.core t.state })) (sym none)
          (subst
          (λ m. IsSound R c.kept c.history c.nodes
          (record { id = j.id; taken = m; left = j.left; spent = 0; state = hears old.core t.state }))
          (sym place) (taken_sound old.graphs g old.asserts old.core k c w j.id j.left n waiting t)));
      answered = subst (λ (s : Seen). AreAnswered c.table s.asked) (sym state)
          (taken_answered old.graphs g old.asserts old.core k c w j.id j.left n waiting t);
      waits = subst
          (λ (s : Seen). (i : ℕ) (a : Asked) → slice_get s.asked i ≡ Some a → a.news ≡ news.Waiting → waiting ≡ true)
          (sym state)
          (taken_waits old.graphs g old.asserts old.core k c w j.id j.left n waiting t);
    }

-- where no query is Ready
pub idle_on : (p : Shown) (es fs : List (Entry Seen)) (ss : List Slot) (ts : List Summary) (xs : List Stored) (st : Bool) (x : Shown) →
    IsBoard (record p { core = core_of p.core.kept es ss ts xs st }) → record p { core = core_of p.core.kept es ss ts xs st } ≡ x →
    st ≡ false →
    not (has_live es) ≡ false → fs ≡ es → HasNoReady es → IsIdle x (record p { core = core_of p.core.kept fs ss ts xs st })
idle_on p es fs ss ts xs st x b is going over same none =
    let old : Shown = record p { core = core_of p.core.kept es ss ts xs st } in
    subst (λ (x : Shown). IsIdle x (record p { core = core_of p.core.kept fs ss ts xs st })) is (record {
      same = ap (λ es. record p { core = core_of p.core.kept es ss ts xs st }) same;
      going = going;
      not_over = over;
      none = none;
      busy = some_running es (board_keeps old b).kept none over;
    })

module _ (p : Shown) (es fs : List (Entry Seen)) (ss : List Slot) (ts : List Summary) (xs : List Stored) (st : Bool) (w n : ℕ)
    (lent : Lent Seen) (b : IsBoard (before p es fs ss ts xs st w n lent)) (going : st ≡ false) (t : Took es fs lent) where
  abbrev old : Shown
  old = before p es fs ss ts xs st w n lent

  abbrev new : Core Seen
  new = taken_core p es fs ss ts xs st w n lent

  abbrev event : Stored
  event = take_event p es fs ss ts xs st w n lent

  was_ready : (own : Entry Seen) × (slice_get es lent.id ≡ Some own) × (own.status ≡ Ready)
  was_ready = (t.own, t.at, t.ready)

  pub take_hears : CanHear (record p { core = new }) lent.payload
  take_hears = hears_after p old.core new lent.payload (hears_before p es fs ss ts xs st w n lent b going t) refl
      (ap (λ (xs : List (Entry Seen)). length xs) t.becomes ∙ length_changed (take_at lent.id (has_live_child es lent.id)) 0 es)
      (news_same old.core new w lent.id lent.left n lent.waiting was_ready t.becomes (history_push ss ts xs event))

  pub take_taken : n ≡ length lent.payload.steps → (x : Shown) → old ≡ x → (ys : List Stored) → ys ≡ xs ++ event ∷ [] → (k : ℕ) →
      k ≡ length xs → (s : Seen) → s ≡ hears (core_of p.core.kept fs ss ts ys st) lent.payload →
      IsTaken x w (record p { core = core_of p.core.kept fs ss ts ys st })
      (record { id = lent.id; taken = k; left = lent.left; spent = 0; state = s })
  take_taken steps x is ys pushed k place s heard' =
      let j : Given = record { id = lent.id; taken = k; left = lent.left; spent = 0; state = s } in
      let state : s ≡ hears old.core lent.payload =
      heard' ∙ (ap (λ zs. hears (core_of p.core.kept fs ss ts zs st) lent.payload) pushed
      ∙ hears_same old.core new w lent.id lent.left n lent.waiting was_ready t.becomes (history_push ss ts xs event) lent.payload) in
      let g : IsTaken old w (record p { core = new }) j = take_gives old new w n lent.waiting j b
      (takes_is p es fs ss ts xs st w n lent b going t steps) (place ∙ sym (told_length ss ts xs)) refl state in
      subst (λ (x : Shown). IsTaken x w (record p { core = core_of p.core.kept fs ss ts ys st }) j) is
      (subst (λ zs. IsTaken old w (record p { core = core_of p.core.kept fs ss ts zs st }) j) (sym pushed) g)
