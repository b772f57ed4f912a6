-- A job that is taken, with the news of its children, is sound.
use Rattle.std.proofs.Common.{◌≡◌, ℕ, zero, suc, ◌≤◌, List, [], ◌∷◌, ◌++◌, length, map, take, Bool, true, false, Option, Some, None, refl, sym, ap, ◌∙◌, subst, arith, append_assoc}
use Rattle.std.specs.Option.{option_map}
use Rattle.std.specs.Prelude.{slice_get, ◌||◌}
use Rattle.std.proofs.Math.Seq.{take-append_seam}
use Rattle.flow_graph.specs.declared.graph.Graph.{Graph}
use Rattle.query_tree.specs.declared.Entry.{Entry}
use Rattle.query_tree.specs.declared.Status.{Status}
use Rattle.query_tree.specs.declared.Status.TheVariants.{Ready, Running, Blocked, Starved, Closed, Dropped}
use Rattle.query_tree.specs.Forest.{has_live_child, is_live, is_live_child, is_none, is_open}
use Rattle.query_tree.specs.Kept.{EndedAbove, Ended}
use Rattle.query_tree.proofs.Lists.{present, within}
use Rattle.query_tree.proofs.Marks.{get_pushed}
use Rattle.query_tree.proofs.Tests.{is_place_at}
use Rattle.query_rules.specs.Answered.{AreAnswered}
use Rattle.query_rules.specs.Seen.{Seen}
use Rattle.query_rules.specs.Steps.{updated, with_child}
use Rattle.query_rules.specs.States.{StaysNews}
use Rattle.query_rules.specs.declared.step.Asked.{Asked}
use Rattle.query_rules.specs.declared.step.News.{News}
use Rattle.query_rules.specs.declared.step.News.TheVariants as news
use Rattle.summary_form.specs.Answering.{AnswersYes}
use Rattle.summary_form.specs.declared.query.Query.{Query}
use Rattle.summary_form.specs.declared.summary.Summary.{Summary}
use Rattle.bolt_core.specs.declared.slot.ClosedAs.{ClosedAs}
use Rattle.bolt_core.specs.declared.slot.ClosedAs.TheVariants as how
use Rattle.bolt_core.specs.Boards.{CanHear, IsBoard, Shown, closed_news, hears, news_at, news_by, told_as}
use Rattle.bolt_core.specs.Groups.{Node}
use Rattle.bolt_core.specs.Histories.{Told, asks_of, closed_as, named, table_of, took}
use Rattle.bolt_core.specs.Keeps.{IsPayload, Keeps}
use Rattle.bolt_core.specs.KeptNodes.{KeepsNodes}
use Rattle.bolt_core.specs.Lawful.{IsLawful, IsTrueNews}
use Rattle.bolt_core.specs.Machine.{AllOf, Core, IsNews, IsSound, Job, Matches, Takes, asks_more}
use Rattle.bolt_core.specs.States.{IsStateFor, reads}
use Rattle.bolt_core.proofs.Agreeing.{IsAsk, kept_push}
use Rattle.bolt_core.proofs.AskedFew.{payload_few}
use Rattle.bolt_core.proofs.BoardKeeps.{board_keeps, nodes_of}
use Rattle.bolt_core.proofs.Feeding.{matched}
use Rattle.bolt_core.proofs.Payloads.{no_more}
use Rattle.bolt_core.proofs.StatesLawful.{states_lawful}
use Rattle.bolt_core.proofs.Telling.{all_at, true_news}

-- Lists

updated_mid : (f : Asked → Asked) (front rest : List Asked) (a : Asked) →
    updated f (front ++ a ∷ rest) (length front) ≡ front ++ f a ∷ rest
updated_mid f [] rest a = refl
updated_mid f (x ∷ front) rest a = ap (λ ys. x ∷ ys) (updated_mid f front rest a)

get_mid : (front rest : List Asked) (a : Asked) → slice_get (front ++ a ∷ rest) (length front) ≡ Some a
get_mid [] rest a = refl
get_mid (x ∷ front) rest a = get_mid front rest a

from_mapped : {X Y : Type 0} (f : X → Y) (xs : List X) (k : ℕ) (y : Y) → slice_get (map f xs) k ≡ Some y →
    (x : X) × (slice_get xs k ≡ Some x) × (y ≡ f x)
from_mapped f [] k y at = absurd (cc)
from_mapped f (x ∷ xs) zero y at = let s : Some (f x) ≡ Some y = at in (x, refl, cc)
from_mapped f (x ∷ xs) (suc k) y at = from_mapped f xs k y at

-- a live child is one of a query that has one
live_there : (i : ℕ) (es : List (Entry Seen)) (k : ℕ) (e : Entry Seen) → slice_get es k ≡ Some e → is_live_child i e ≡ true →
    has_live_child es i ≡ true
live_there i [] k e at h = absurd (cc)
live_there i (x ∷ es) zero e at h =
    let s : Some x ≡ Some e = at in
    let d : x ≡ e = cc in
    let f : is_live_child i x ≡ true = ap (is_live_child i) d ∙ h in
    rw f refl
live_there i (x ∷ es) (suc k) e at h = left_or (is_live_child i x) (has_live_child es i) (live_there i es k e at h) where
  left_or : (a b : Bool) → b ≡ true → (a || b) ≡ true
  left_or true b h = refl
  left_or false b h = h

-- News of a child

still_open : (k known : News) → IsNews k None → StaysNews k known
still_open news.Waiting known h = tt
still_open news.Starved known h = tt
still_open (news.NotMay low) known h = absurd (cc)
still_open news.Must known h = absurd (cc)
still_open (news.Stuck kind) known h = absurd (cc)

open_by : (o : Option ClosedAs) (k known : News) → (is_none o ≡ false → ⊥) → IsNews k o → StaysNews k known
open_by None k known f h = still_open k known h
open_by (Some how) k known f h = absurd (f refl)

closed_stays : (c : ClosedAs) (k : News) → IsNews k (Some c) → StaysNews k (closed_news c)
closed_stays c news.Waiting h = tt
closed_stays c news.Starved h = tt
closed_stays c (news.NotMay low) h = let e : c ≡ how.NotMay low = cc in ap closed_news e
closed_stays c news.Must h = let e : c ≡ how.Must = cc in ap closed_news e
closed_stays c (news.Stuck kind) h = let e : c ≡ how.Stuck kind = cc in ap closed_news e

closed_is : (c : ClosedAs) → IsNews (closed_news c) (Some c)
closed_is (how.NotMay low) = refl
closed_is how.Must = refl
closed_is (how.Stuck kind) = refl

-- what is reported of a child by its status changes no final news, and is as what it closed
record Hears (o : Option ClosedAs) (k known : News) : Type 0 where
  pub stays : StaysNews k known
  pub is_news : IsNews known o

hears_open : (o : Option ClosedAs) (k now known : News) → (is_none o ≡ false → ⊥) → IsNews k o → IsNews now o → Some now ≡ Some known →
    Hears o k known
hears_open o k now known f h n e =
    let d : now ≡ known = cc in
    record { stays = open_by o k known f h; is_news = subst (λ m. IsNews m o) d n }

hears_closed : (o : Option ClosedAs) (k known : News) → IsNews k o → option_map closed_news o ≡ Some known → Hears o k known
hears_closed None k known h e = absurd (cc)
hears_closed (Some c) k known h e =
    let d : closed_news c ≡ known = cc in
    subst (Hears (Some c) k) d (record { stays = closed_stays c k h; is_news = closed_is c })

hears_by : (o : Option ClosedAs) (k known : News) (st : Status) → (is_none o ≡ false → st ≡ Closed) → IsNews k o →
    news_by o st ≡ Some known → Hears o k known
hears_by o k known Ready f h e = hears_open o k news.Waiting known (λ z. let d = f z in absurd (cc)) h tt e
hears_by o k known Running f h e = hears_open o k news.Waiting known (λ z. let d = f z in absurd (cc)) h tt e
hears_by o k known Blocked f h e = hears_open o k news.Waiting known (λ z. let d = f z in absurd (cc)) h tt e
hears_by o k known Starved f h e = hears_open o k news.Starved known (λ z. let d = f z in absurd (cc)) h tt e
hears_by o k known Closed f h e = hears_closed o k known h e
hears_by o k known (Dropped n) f h e = absurd (cc)

told_end : (o : Option ClosedAs) (a : Asked) → is_none o ≡ false → (told_as (option_map closed_news o) a).news ≡ news.Waiting → ⊥
told_end None a f h = absurd (cc)
told_end (Some (how.NotMay low)) a f h = absurd (cc)
told_end (Some how.Must) a f h = absurd (cc)
told_end (Some (how.Stuck kind)) a f h = absurd (cc)

-- what waits is live
waits_live : (o : Option ClosedAs) (a : Asked) (st : Status) → (st ≡ Closed → is_none o ≡ false) → ((n : ℕ) → st ≡ Dropped n → ⊥) →
    (told_as (news_by o st) a).news ≡ news.Waiting → is_live st ≡ true
waits_live o a Ready f g h = refl
waits_live o a Running f g h = refl
waits_live o a Blocked f g h = refl
waits_live o a Starved f g h = absurd (cc)
waits_live o a Closed f g h = absurd (told_end o a (f refl) h)
waits_live o a (Dropped n) f g h = absurd (g n refl)

-- News change no child and no query
told_child_same : (o : Option News) (a : Asked) → (told_as o a).child ≡ a.child
told_child_same None a = refl
told_child_same (Some known) a = refl

told_query_same : (o : Option News) (a : Asked) → (told_as o a).query ≡ a.query
told_query_same None a = refl
told_query_same (Some known) a = refl

told_news : (o : Option News) (a : Asked) (c : Option ClosedAs) → IsNews a.news c → ((known : News) → o ≡ Some known → IsNews known c) →
    IsNews (told_as o a).news c
told_news None a c h f = h
told_news (Some known) a c h f = f known refl

module _ (gs : List Graph) (lawful : IsLawful (reads gs)) (roots : ℕ) (old : Core Seen) (k : Keeps (reads gs) roots old) where
  nodes : KeepsNodes (reads gs) old
  nodes = nodes_of (reads gs) roots old k

  abbrev heard : Asked → Asked
  heard a = told_as (news_at old a.child) a

  matches_heard : (as' : List Asked) (cs : List (ℕ × Query)) → Matches as' cs 0 → Matches (map heard as') cs 0
  matches_heard [] [] m = m
  matches_heard [] (x ∷ cs) m = m
  matches_heard (a ∷ as') [] m = absurd (omega (arith, m.0))
  matches_heard (a ∷ as') (x ∷ cs) m =
      (told_child_same (news_at old a.child) a ∙ m.0, told_query_same (news_at old a.child) a ∙ m.1, matches_heard as' cs m.2)

  -- what is known of an asked entry and of what it hears
  record MayHear (s : Seen) (i : ℕ) (a : Asked) : Type 0 where
    pub child : Entry Seen
    pub node : Node
    pub at : slice_get old.entries a.child ≡ Some child
    pub node_at : slice_get old.nodes a.child ≡ Some node
    pub parent : child.parent ≡ Some i
    pub query : node.query ≡ a.query
    pub news : news_at old a.child ≡ news_by (closed_as old.history a.child) child.status
    pub hears_it : (known : News) → news_at old a.child ≡ Some known → Hears (closed_as old.history a.child) a.news known
    pub is_true : (known : News) → news_at old a.child ≡ Some known → IsTrueNews (reads gs) s a.query known
    pub is_news : IsNews (heard a).news (closed_as old.history (heard a).child)

  one_heard : (table : List Summary) (s : Seen) (front rest : List Asked) (a : Asked) (o : Option News) →
      ((known : News) → o ≡ Some known → StaysNews a.news known × IsTrueNews (reads gs) s a.query known) →
      IsStateFor gs table (record s { asked = front ++ a ∷ rest }) →
      IsStateFor gs table (record s { asked = front ++ told_as o a ∷ rest })
  one_heard table s front rest a None f h = h
  one_heard table s front rest a (Some known) f h = subst (λ (xs : List Asked). IsStateFor gs table (record s { asked = xs }))
      (updated_mid (with_child a.child known) front rest a)
      (lawful.tell_state table (record s { asked = front ++ a ∷ rest }) (length front) a.child known h (record {
        entry = a;
        there = get_mid front rest a;
        stays = (f known refl).0;
        is_true = (f known refl).1;
      }))

  all_heard : (table : List Summary) (s : Seen) (i : ℕ) (front rest : List Asked) → AllOf (MayHear s i) rest →
      IsStateFor gs table (record s { asked = front ++ rest }) →
      IsStateFor gs table (record s { asked = front ++ map heard rest })
  all_heard table s i front [] m h = h
  all_heard table s i front (a ∷ rest) m h =
      let b : Asked = heard a in
      let one : IsStateFor gs table (record s { asked = front ++ b ∷ rest }) =
      one_heard table s front rest a (news_at old a.child) (λ known is. ((m.0.hears_it known is).stays, m.0.is_true known is)) h in
      let two : IsStateFor gs table (record s { asked = (front ++ b ∷ []) ++ rest }) =
      subst (λ (xs : List Asked). IsStateFor gs table (record s { asked = xs })) (sym (append_assoc front (b ∷ []) rest)) one in
      subst (λ (xs : List Asked). IsStateFor gs table (record s { asked = xs })) (append_assoc front (b ∷ []) (map heard rest))
      (all_heard table s i (front ++ b ∷ []) rest m.1 two)

  module _ (i : ℕ) (own : Entry Seen) (at : slice_get old.entries i ≡ Some own) (s : Seen) (payload : own.payload ≡ Some s)
      (opens : is_open own.status ≡ true) where
    own_node : (n : Node) × (slice_get old.nodes i ≡ Some n)
    own_node = present old.nodes i (omega (arith, within old.entries i own at, k.paired.count))

    is_payload : IsPayload (reads gs) old i own_node.0 own.status s
    is_payload = k.payloads.payloads i own own_node.0 at own_node.1 s payload

    hears_at : (number : ℕ) (a : Asked) → slice_get s.asked number ≡ Some a → IsNews a.news (closed_as old.history a.child) →
        MayHear s i a
    hears_at number a there is =
        let ask : IsAsk old.nodes i (a.child, a.query) = matched (λ x q. IsAsk old.nodes i (x, q)) s.asked (asks_of old.history i)
        (is_payload.entries opens) (k.agrees.asked i) number a there in
        let n : Node = ask.0 in
        let c = present old.entries a.child (omega (arith, within old.nodes a.child n ask.1, k.paired.count)) in
        let x : Entry Seen = c.0 in
        let o : Option ClosedAs = closed_as old.history a.child in
        let same : n.closed ≡ o = k.agrees.closed a.child n ask.1 in
        let of_node = k.paired.closed a.child x n c.1 ask.1 in
        let told : news_at old a.child ≡ news_by o x.status = rw c.1 refl in
        let hear : (known : News) → news_at old a.child ≡ Some known → Hears o a.news known =
        λ known e. hears_by o a.news known x.status (λ z. of_node.1 (ap is_none same ∙ z)) is (sym told ∙ e) in
        record {
          child = x;
          node = n;
          at = c.1;
          node_at = ask.1;
          parent = k.paired.parents a.child x n c.1 ask.1 ∙ ask.2;
          query = ask.3;
          news = told;
          hears_it = hear;
          is_true = λ known e. true_news (reads gs) old nodes i own_node.0 own_node.1 s is_payload.query is_payload.above a.child a.query
              ask known (hear known e).is_news;
          is_news = subst (λ d. IsNews (heard a).news (closed_as old.history d)) (sym (told_child_same (news_at old a.child) a))
              (told_news (news_at old a.child) a o is (λ known e. (hear known e).is_news));
        }

    all_may : AllOf (MayHear s i) s.asked
    all_may = may s.asked (λ number a there. hears_at number a there) is_payload.news where
      may : (xs : List Asked) →
          ((number : ℕ) (a : Asked) → slice_get xs number ≡ Some a → IsNews a.news (closed_as old.history a.child) → MayHear s i a) →
          AllOf (λ a. IsNews a.news (closed_as old.history a.child)) xs → AllOf (MayHear s i) xs
      may [] f h = tt
      may (a ∷ xs) f h = (f 0 a refl h.0, may xs (λ number b there. f (suc number) b there) h.1)

    heard_state : IsStateFor gs (old.kept ++ table_of old.history) (hears old s)
    heard_state = all_heard (old.kept ++ table_of old.history) s i [] s.asked all_may is_payload.state

    heard_news : AllOf (λ a. IsNews a.news (closed_as old.history a.child)) (map heard s.asked)
    heard_news = news_all s.asked all_may where
      news_all : (xs : List Asked) → AllOf (MayHear s i) xs → AllOf (λ a. IsNews a.news (closed_as old.history a.child))
          (map heard xs)
      news_all [] h = tt
      news_all (a ∷ xs) h = (h.0.is_news, news_all xs h.1)

    may_at : (number : ℕ) (a : Asked) → slice_get s.asked number ≡ Some a → MayHear s i a
    may_at number a there = all_at (MayHear s i) s.asked number a all_may there

  -- A Take
  module _ (new : Core Seen) (w i left steps : ℕ) (waiting : Bool)
      (t : Takes (reads gs) old i left steps waiting (took w i left steps waiting) new) where
    abbrev pub taken_job : Job Seen
    taken_job = record { id = i; taken = length old.history; left = left; spent = 0; state = hears old t.state }

    opened : is_open t.own.status ≡ true
    opened = ap is_open t.ready

    taken_in : IsSound (reads gs) old.kept (old.history ++ took w i left steps waiting ∷ []) old.nodes taken_job
    taken_in =
        let e : Told = took w i left steps waiting in
        let h : List Told = old.history in
        let p = is_payload i t.own t.at t.state t.payload opened in
        let n = own_node i t.own t.at t.state t.payload opened in
        let last = (reads gs).last t.state in
        let front : take (length h) (h ++ e ∷ []) ≡ h = take-append_seam h (e ∷ []) in
        record {
          worker = w;
          stored = steps;
          waiting = waiting;
          node = n.0;
          take_at = get_pushed h e;
          node_at = n.1;
          state = subst (λ (x : List Summary). IsStateFor gs x (hears old t.state)) (sym (kept_push old.kept h e))
              (lawful.longer (old.kept ++ table_of h) (named e) (hears old t.state) (heard_state i t.own t.at t.state t.payload opened));
          query = p.query;
          level = p.level;
          above = p.above;
          made = let made = t.steps_is in omega (arith, made);
          within = omega arith;
          entries = subst (λ (x : List Told). Matches (map heard t.state.asked) (asks_of x i) (asks_more 0 last)) (sym front)
              (subst (Matches (map heard t.state.asked) (asks_of h i)) (sym (no_more 0 last (λ q le. absurd (omega (arith, le)))))
              (matches_heard t.state.asked (asks_of h i) (p.entries opened)));
          news = subst (λ (x : List Told). AllOf (λ (a : Asked). IsNews a.news (closed_as x a.child)) (map heard t.state.asked))
              (sym front) (heard_news i t.own t.at t.state t.payload opened);
          seen = subst (AllOf (λ n. length (old.kept ++ table_of (take (length h) (h ++ e ∷ []))) ≤ n))
              (sym (lawful.seen_none (hears old t.state))) tt;
        }

    -- the job is sound
    pub taken_sound : IsSound (reads gs) new.kept new.history new.nodes taken_job
    taken_sound = subst (λ (c : Core Seen). IsSound (reads gs) c.kept c.history c.nodes taken_job) (sym t.new_is) taken_in

    -- for each must that it hears, the table has one that answers
    pub taken_answered : AreAnswered new.table (hears old t.state).asked
    taken_answered number b there must =
        let r = from_mapped heard t.state.asked number b there in
        let m = may_at i t.own t.at t.state t.payload opened number r.0 r.1 in
        let is : (heard r.0).news ≡ news.Must = ap (λ (a : Asked). a.news) (sym r.2) ∙ must in
        let shut : closed_as old.history r.0.child ≡ Some how.Must =
        subst (λ d. closed_as old.history d ≡ Some how.Must) (told_child_same (news_at old r.0.child) r.0)
        (subst (λ v. IsNews v (closed_as old.history (heard r.0).child)) is m.is_news) in
        let a = k.answered.answered r.0.child m.node m.node_at (k.agrees.closed r.0.child m.node m.node_at ∙ shut) in (
          a.0,
          a.1,
          ap (λ (c : Core Seen). slice_get c.table a.0) t.new_is ∙ a.2,
          subst (λ q. AnswersYes q a.1)
              (m.query ∙ (sym (told_query_same (news_at old r.0.child) r.0) ∙ ap (λ (x : Asked). x.query) (sym r.2))) a.3,
        )

    -- where it hears of a child that works or waits, the Take said that it has one
    pub taken_waits : (number : ℕ) (b : Asked) → slice_get (hears old t.state).asked number ≡ Some b → b.news ≡ news.Waiting →
        waiting ≡ true
    taken_waits number b there waits =
        let r = from_mapped heard t.state.asked number b there in
        let m = may_at i t.own t.at t.state t.payload opened number r.0 r.1 in
        let o : Option ClosedAs = closed_as old.history r.0.child in
        let is : (told_as (news_by o m.child.status) r.0).news ≡ news.Waiting =
        ap (λ (n : Option News). (told_as n r.0).news) (sym m.news) ∙ (ap (λ (a : Asked). a.news) (sym r.2) ∙ waits) in
        let both = k.paired.closed r.0.child m.child m.node m.at m.node_at in
        let shut : m.child.status ≡ Closed → is_none o ≡ false =
        λ c. ap is_none (sym (k.agrees.closed r.0.child m.node m.node_at)) ∙ both.0 c in
        let dropped : (n : ℕ) → m.child.status ≡ Dropped n → ⊥ =
        λ n d.
        let up : EndedAbove old.entries n (Some i) =
        subst (EndedAbove old.entries n) m.parent (k.kept.ended.ended r.0.child m.child n m.at d) in
        let own : Ended n Ready = subst (Ended n) t.ready (up t.own t.at) in
        own in
        let live : is_live m.child.status ≡ true = waits_live o r.0 m.child.status shut dropped is in
        let own : is_live_child i m.child ≡ true = rw (is_place_at m.child.parent i m.parent) live in
        t.waiting_is ∙ live_there i old.entries r.0.child m.child m.at own

-- an open query's payload may hear the news of its children
pub can_hear : (b : Shown) → IsBoard b → (i : ℕ) (own : Entry Seen) → slice_get b.core.entries i ≡ Some own → (s : Seen) →
    own.payload ≡ Some s → is_open own.status ≡ true → CanHear b s
can_hear b h i own at s payload opens =
    let g = states_lawful b.graphs h.linked in
    let k = board_keeps b h in
    let p = is_payload b.graphs g b.asserts b.core k i own at s payload opens in
    record {
      state = subst (λ (t : List Summary). IsStateFor b.graphs t s) k.named p.state;
      few = payload_few b.graphs b.asserts b.core k i own at s payload p.state;
      children = λ number a there.
          let m = may_at b.graphs g b.asserts b.core k i own at s payload opens number a there in
          within b.core.entries a.child m.child m.at;
      may = λ number a there known is.
          let m = may_at b.graphs g b.asserts b.core k i own at s payload opens number a there in
          record { entry = a; there = there; stays = (m.hears_it known is).stays; is_true = m.is_true known is };
    }
