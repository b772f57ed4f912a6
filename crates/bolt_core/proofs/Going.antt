-- A board goes on by one event.
use Rattle.std.proofs.Common.{◌≡◌, ℕ, zero, suc, ◌*◌, ◌<◌, ◌≤◌, ◌^◌, List, [], ◌∷◌, ◌++◌, length, map, false, Some, None, refl, sym, ap, ◌∙◌, subst, ⊎_elim, arith}
use Rattle.std.specs.Prelude.{slice_get}
use Rattle.std.proofs.lemmas.List.{length_push, length-map, map-append}
use Rattle.std.proofs.Math.Nat.{mul-le-mul_right}
use Rattle.query_tree.proofs.Lists.{from_pushed}
use Rattle.query_rules.specs.Seen.{Seen}
use Rattle.summary_form.specs.declared.query.Query.{Query}
use Rattle.summary_form.specs.declared.summary.Summary.{Summary}
use Rattle.bolt_core.specs.declared.event.Event.{Event as Stored}
use Rattle.bolt_core.specs.declared.event.Event.TheVariants as stored
use Rattle.bolt_core.specs.declared.slot.ClosedAs.TheVariants as how
use Rattle.bolt_core.specs.declared.slot.Slot.{Slot}
use Rattle.bolt_core.specs.Boards.{IsBoard, IsRoomy, IsSettled, Shown, asked_as, history_of, most_queries, most_summaries, told_by}
use Rattle.bolt_core.specs.Histories.{Told, has_said, says_of}
use Rattle.bolt_core.specs.KeptEntries.{KeepsEntries}
use Rattle.bolt_core.specs.Machine.{Core, Event, Reached, first_board}
use Rattle.bolt_core.specs.States.{reads}
use Rattle.bolt_core.proofs.Agreeing.{says_not}
use Rattle.bolt_core.proofs.BoardKeeps.{board_keeps}
use Rattle.bolt_core.proofs.Reserve.{event_history, event_kept, events_within, grants_of, opening_grants, queries_within, reached_more, run_grants}

-- What the run of a board gives

pub board_entries : (b : Shown) → IsBoard b → KeepsEntries (reads b.graphs) b.asserts b.core
board_entries b h =
    let k = board_keeps b h in
    record {
      kept = k.kept;
      stocked = k.stocked;
      stored = k.stored;
      room = k.room;
      linked = k.linked;
      ended = k.ended;
      said = k.said;
    }

-- each root has its grant
pub board_grants : (b : Shown) → IsBoard b → grants_of (reads b.graphs) b.core ≡ b.asserts * b.budget
board_grants b h =
    let R = reads b.graphs in
    let o = h.opening in
    let opened : grants_of R h.opened ≡ length o.roots * b.budget =
    ap (grants_of R) o.is ∙ (let e = opening_grants R b.budget o.roots (first_board R h.opened.kept) in omega (arith, e)) in
    run_grants R b.core.history h.opened b.core h.reached ∙ (opened ∙ ap (λ n. n * b.budget) o.count)

-- the queries of a board
pub board_queries : (b : Shown) → IsBoard b → length b.core.entries ≤ most_queries b
board_queries b h = omega (arith, queries_within (reads b.graphs) b.asserts b.core (board_entries b h), board_grants b h)

pub summaries_small : (b : Shown) → IsBoard b → most_summaries b < 2 ^ 32
summaries_small b h =
    let m : b.asserts * b.budget ≤ 64 * b.budget = mul-le-mul_right b.budget h.few in
    omega (arith, m, h.few, h.most, h.few_kept)

pub most_small : (b : Shown) → IsBoard b → most_queries b < 2 ^ 32
most_small b h =
    let m : b.asserts * b.budget ≤ 64 * b.budget = mul-le-mul_right b.budget h.few in
    omega (arith, m, h.few, h.most)

-- a board with a query has a root
some_roots : (n : ℕ) (b : Shown) → n ≡ b.asserts → IsBoard b → 1 ≤ length b.core.entries → 1 ≤ b.asserts
some_roots zero b z h one =
    let m : b.asserts * b.budget ≡ 0 = ap (λ k. k * b.budget) (sym z) ∙ (let o : 0 * b.budget ≡ 0 = omega arith in o) in
    absurd (omega (arith, one, board_queries b h, m, z))
some_roots (suc n) b z h one = omega (arith, z)

-- there is room for the event, and the next board is one
pub record GoesOn (b : Shown) (e : Told) (c : Core Seen) : Type 0 where
  pub event : Event (reads b.graphs) b.core e c
  pub fits : length b.core.history < 16 * most_queries b
  pub board : IsBoard (record b { core = c })
  pub few : length c.entries ≤ most_queries b

pub goes_on : (b : Shown) (e : Told) (c : Core Seen) → IsBoard b → Event (reads b.graphs) b.core e c → 1 ≤ length b.core.entries →
    GoesOn b e c
goes_on b e c h v one =
    let R = reads b.graphs in
    let new : Shown = record b { core = c } in
    let goes : Reached R h.opened c.history c =
    subst (λ l. Reached R h.opened l c) (sym (event_history R b.core c e v)) (reached_more R b.core.history e h.opened b.core c h.reached v)
    in
    let next : IsBoard new = record {
      linked = h.linked;
      small = h.small;
      graph = h.graph;
      main = h.main;
      few = h.few;
      some = h.some;
      most = h.most;
      few_kept = omega (arith, h.few_kept, ap (λ (ks : List Summary). length ks) (event_kept R b.core c e v));
      opened = h.opened;
      opening = record {
        roots = h.opening.roots;
        count = h.opening.count;
        are_roots = h.opening.are_roots;
        kept_hold = h.opening.kept_hold;
        is = h.opening.is;
      };
      reached = goes;
    } in
    let in' = events_within R b.asserts c (board_entries new next) (some_roots b.asserts b refl h one) in
    record {
      event = v;
      fits = omega (
        arith,
        in',
        board_grants new next,
        ap length (event_history R b.core c e v),
        length_push b.core.history e,
      );
      board = next;
      few = board_queries new next;
    }

-- what was said, where the event says nothing
pub said_stays : (b : Shown) (e : Told) (c : Core Seen) → GoesOn b e c → ((i : ℕ) → says_of i e ≡ false) → (i : ℕ) →
    has_said c.history i ≡ has_said b.core.history i
said_stays b e c g quiet i =
    ap (λ (h : List Told). has_said h i) (event_history (reads b.graphs) b.core c e g.event) ∙ says_not b.core.history e i (quiet i)

-- Histories of what is stored

pub history_push : (ss : List Slot) (ts : List Summary) (xs : List Stored) (x : Stored) →
    history_of ss ts (xs ++ x ∷ []) ≡ history_of ss ts xs ++ told_by (map (λ s. s.query.value) ss) ts x ∷ []
history_push ss ts xs x = map-append (told_by (map (λ s. s.query.value) ss) ts) xs (x ∷ [])

pub told_length : (ss : List Slot) (ts : List Summary) (xs : List Stored) → length (history_of ss ts xs) ≡ length xs
told_length ss ts xs = length-map xs (told_by (map (λ s. s.query.value) ss) ts)

-- what stands in front stays where more follows
pub get_front : {X : Type 0} (xs ys : List X) (k : ℕ) → k < length xs → slice_get (xs ++ ys) k ≡ slice_get xs k
get_front [] ys k lt = absurd (omega (arith, lt))
get_front (x ∷ xs) ys zero lt = refl
get_front (x ∷ xs) ys (suc k) lt = get_front xs ys k (omega (arith, lt))

-- a settled event says the same where more queries follow
told_more : (qs more : List Query) (ts : List Summary) (x : Stored) → IsSettled (length qs) (length ts) x →
    told_by (qs ++ more) ts x ≡ told_by qs ts x
told_more qs more ts (stored.Take w i left steps waiting) s = refl
told_more qs more ts (stored.Publish w i place) s = refl
told_more qs more ts (stored.Ask w i n c) s = ap (asked_as w i n c) (get_front qs more c s)
told_more qs more ts (stored.Feed w i n c) s = refl
told_more qs more ts (stored.Park w i n rest) s = refl
told_more qs more ts (stored.Close w i n how from more') s = refl
told_more qs more ts (stored.Stop w) s = refl

abbrev pub AllSettled : (queries summaries : ℕ) → List Stored → Type 0
AllSettled nq nt xs = (i : ℕ) (e : Stored) → slice_get xs i ≡ Some e → IsSettled nq nt e

all_told : (qs more : List Query) (ts : List Summary) (xs : List Stored) → AllSettled (length qs) (length ts) xs →
    map (told_by (qs ++ more) ts) xs ≡ map (told_by qs ts) xs
all_told qs more ts [] s = refl
all_told qs more ts (x ∷ xs) s =
    let a = told_more qs more ts x (s 0 x refl) in
    let b = all_told qs more ts xs (λ i e at. s (suc i) e at) in
    ap (λ y. y ∷ map (told_by (qs ++ more) ts) xs) a ∙ ap (λ ys. told_by qs ts x ∷ ys) b

pub told_same : (ss more : List Slot) (ts : List Summary) (xs : List Stored) → AllSettled (length ss) (length ts) xs →
    history_of (ss ++ more) ts xs ≡ history_of ss ts xs
told_same ss more ts xs s =
    let q : List Query = map (λ s. s.query.value) ss in
    let m : List Query = map (λ s. s.query.value) more in
    let n : length q ≡ length ss = length-map ss (λ s. s.query.value) in
    ap (λ (qs : List Query). map (told_by qs ts) xs) (map-append (λ s. s.query.value) ss more)
    ∙ all_told q m ts xs (subst (λ k. AllSettled k (length ts) xs) (sym n) s)

-- Room

settled_pushed : (nq nt : ℕ) (xs : List Stored) (x : Stored) → AllSettled nq nt xs → IsSettled nq nt x → AllSettled nq nt (xs ++ x ∷ [])
settled_pushed nq nt xs x all own i e at = ⊎_elim
    (λ o. all i e o)
    (λ o. subst (IsSettled nq nt) (sym o.1) own)
    (from_pushed xs x i e at)

more_settled : (nq mq nt : ℕ) (x : Stored) → nq ≤ mq → IsSettled nq nt x → IsSettled mq nt x
more_settled nq mq nt (stored.Take w i left steps waiting) le s = tt
more_settled nq mq nt (stored.Publish w i place) le s = s
more_settled nq mq nt (stored.Ask w i n c) le s = omega (arith, le, s)
more_settled nq mq nt (stored.Feed w i n c) le s = tt
more_settled nq mq nt (stored.Park w i n rest) le s = tt
more_settled nq mq nt (stored.Close w i n how from more) le s = s
more_settled nq mq nt (stored.Stop w) le s = tt

-- one event more
pub roomy_event : (b : Shown) (c : Core Seen) (ss : List Slot) (xs : List Stored) (x : Stored) (f g t s v w : ℕ) → IsRoomy b ss xs f t s v →
    c.table ≡ b.core.table → c.kept ≡ b.core.kept → IsSettled (length ss) (length b.core.table) x → g ≡ f → w ≡ v →
    ((i : ℕ) → has_said c.history i ≡ has_said b.core.history i) → IsRoomy (record b { core = c }) ss (xs ++ x ∷ []) g t s w
roomy_event b c ss xs x f g t s v w r table held own room same quiet = record {
  queries = room ∙ r.queries;
  kept = r.kept;
  summaries = omega (arith, r.summaries, ap (λ (ks : List Summary). length ks) held);
  happened = omega (arith, r.happened, same);
  settled = subst (λ (ts : List Summary). AllSettled (length ss) (length ts) (xs ++ x ∷ [])) (sym table)
      (settled_pushed (length ss) (length b.core.table) xs x r.settled own);
  handed = r.handed;
  shown = λ i y at place is. omega (arith, r.shown i y at place is, length_push xs x);
  said_is = λ i y at. r.said_is i y at ∙ sym (quiet i);
}

-- and one query
pub roomy_query : (b : Shown) (c : Core Seen) (ss : List Slot) (z : Slot) (xs : List Stored) (x : Stored) (f g t s u v w : ℕ) →
    IsRoomy b ss xs f t s v → c.table ≡ b.core.table → c.kept ≡ b.core.kept → IsSettled (suc (length ss)) (length b.core.table) x →
    z.closed ≡ None →
    z.published ≡ None → z.said ≡ false → g ≡ f → u ≡ s → w ≡ v →
    ((i : ℕ) → has_said c.history i ≡ has_said b.core.history i) → has_said b.core.history (length ss) ≡ false →
    IsRoomy (record b { core = c }) (ss ++ z ∷ []) (xs ++ x ∷ []) g t u w
roomy_query b c ss z xs x f g t s u v w r table held own open' hidden silent room wide same quiet fresh =
    let n : length (ss ++ z ∷ []) ≡ suc (length ss) = omega (arith, length_push ss z) in
    let nt : ℕ = length b.core.table in
    let more : AllSettled (suc (length ss)) nt xs = λ i e at. more_settled (length ss) (suc (length ss)) nt e (omega arith)
    (r.settled i e at)
    in
    record {
      queries = room ∙ r.queries;
      kept = omega (arith, r.kept, wide);
      summaries = omega (arith, r.summaries, ap (λ (ks : List Summary). length ks) held);
      happened = omega (arith, r.happened, same);
      settled = subst (λ (ts : List Summary). AllSettled (length (ss ++ z ∷ [])) (length ts) (xs ++ x ∷ [])) (sym table)
          (subst (λ k. AllSettled k nt (xs ++ x ∷ [])) (sym n) (settled_pushed (suc (length ss)) nt xs x more own));
      handed = λ i y at low is out. ⊎_elim
          (λ o. r.handed i y o low is out)
          (λ o. let e : Some (how.NotMay low) ≡ None = sym is ∙ (ap (λ (y : Slot). y.closed) o.1 ∙ open') in absurd (cc))
          (from_pushed ss z i y at);
      shown = λ i y at place is. ⊎_elim
          (λ o. omega (arith, r.shown i y o place is, length_push xs x))
          (λ o. let e : Some place ≡ None = sym is ∙ (ap (λ (y : Slot). y.published) o.1 ∙ hidden) in absurd (cc))
          (from_pushed ss z i y at);
      said_is = λ i y at. ⊎_elim
          (λ o. r.said_is i y o ∙ sym (quiet i))
          (λ o. ap (λ (y : Slot). y.said) o.1 ∙ (silent ∙ sym (quiet i ∙ (ap (has_said b.core.history) o.0 ∙ fresh))))
          (from_pushed ss z i y at);
    }
