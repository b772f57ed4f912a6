-- A job that is reported as if it were of the take with which the board began.
use Rattle.std.proofs.Common.{◌≡◌, ℕ, ◌≤◌, List, [], ◌∷◌, ◌++◌, length, Some, sym, ap, ◌∙◌, subst, arith}
use Rattle.std.specs.Prelude.{slice_get}
use Rattle.board_lock.specs.Views.{StartsWith}
use Rattle.may_partition.proofs.Pieces.{get_left}
use Rattle.query_tree.specs.declared.Rest.TheVariants as rest
use Rattle.query_rules.specs.Seen.{Seen}
use Rattle.query_rules.specs.declared.step.Asked.{Asked}
use Rattle.summary_form.specs.declared.query.Query.{Query}
use Rattle.bolt_core.specs.declared.job.Gone.{Gone as GoneJob}
use Rattle.summary_form.specs.declared.summary.Summary.{Summary}
use Rattle.bolt_core.specs.declared.job.Job.{Job as Given}
use Rattle.bolt_core.specs.Boards.{IsBoard, IsGone, IsSoundFor, MayBeParked, Shown}
use Rattle.bolt_core.specs.Histories.{Told, closed_as, table_of, took}
use Rattle.bolt_core.specs.Machine.{AllOf, IsNews, Matches, an_ask, asks_more}
use Rattle.bolt_core.specs.States.{reads}
use Rattle.bolt_core.proofs.Payloads.{no_more}
use Rattle.bolt_core.proofs.StatesLawful.{states_lawful}
use Rattle.bolt_rounds.specs.declared.moves.Move.{Move}
use Rattle.bolt_rounds.specs.declared.moves.Move.TheVariants as move
use Rattle.bolt_rounds.specs.Moves.{MayMove}
use Rattle.board_tests.specs.Plays.{IsFirstTake, IsOfTake, IsSince}

all_more : (ns : List ℕ) → AllOf (λ n. 0 ≤ n) ns
all_more [] = tt
all_more (n ∷ ns) = (omega arith, all_more ns)

none_at : (xs : List Asked) (n : ℕ) (a : Asked) → xs ≡ [] → slice_get xs n ≡ Some a → ⊥
none_at xs n a e h = let z : slice_get [] n ≡ Some a = subst (λ (ys : List Asked). slice_get ys n ≡ Some a) e h in absurd (cc)

-- a job that may be given back is sound
pub sound_of : (b : Shown) (j : Given) (m : Move) → MayMove b j m → IsSoundFor b j
sound_of b j (move.Ask child query) a = a.sound
sound_of b j (move.Feed number) a = a.sound
sound_of b j (move.Park r) a = a.sound
sound_of b j (move.Close how summary) a = a.0.sound

-- the take of a sound job of the first take is the board's first event
pub first_is : (b : Shown) (j : Given) (id left stored : ℕ) → IsSoundFor b j → IsOfTake j id left stored → IsFirstTake b id left stored
first_is b j id left stored s t =
    let n : s.stored ≡ stored = omega (arith, s.made, t.made) in
    record {
      worker = s.worker;
      waiting = s.waiting;
      at = ap (slice_get b.core.history) (sym t.first) ∙ s.take_at ∙ ap Some
          (ap (λ i. took s.worker i j.left s.stored s.waiting) t.query ∙ (ap (λ l. took s.worker id l s.stored s.waiting) t.left
          ∙ ap (λ k. took s.worker id left k s.waiting) n));
    }

-- and stays so
pub first_stays : (old new : Shown) (id left stored : ℕ) → StartsWith new.core.history old.core.history → IsFirstTake old id left stored →
    IsFirstTake new id left stored
first_stays old new id left stored f t = record {
  worker = t.worker;
  waiting = t.waiting;
  at = ap (λ (l : List Told). slice_get l 0) f.is ∙ get_left old.core.history 0 f.rest _ t.at;
}

module _ (b : Shown) (h : IsBoard b) (j : Given) (s : IsSoundFor b j) (left stored spent : ℕ) (id : ℕ)
    (t : IsFirstTake b id left stored) (p : IsSince id left stored j spent) (bare : b.core.kept ≡ []) where
  abbrev pub late : Given
  late = record { id = j.id; taken = 0; left = left; spent = spent; state = j.state }

  asks_nothing : (q : Query) → 1 ≤ spent → (reads b.graphs).last j.state ≡ an_ask q → ⊥
  asks_nothing q _ e =
      let a = (states_lawful b.graphs h.linked).asks_last (b.core.kept ++ table_of b.core.history) j.state q s.state e in
      none_at j.state.asked _ a.entry p.none a.there

  sound_late : IsSoundFor b late
  sound_late = record {
    worker = t.worker;
    stored = stored;
    waiting = t.waiting;
    node = s.node;
    take_at = t.at ∙ ap (λ i. Some (took t.worker i left stored t.waiting)) p.query;
    node_at = s.node_at;
    state = s.state;
    query = s.query;
    level = s.level;
    above = s.above;
    made = p.made;
    within = omega (arith, p.less);
    entries = subst (λ (xs : List Asked). Matches xs [] (asks_more spent ((reads b.graphs).last j.state))) (sym p.none)
        (no_more spent ((reads b.graphs).last j.state) asks_nothing);
    news = subst (AllOf (λ (a : Asked). IsNews a.news (closed_as [] a.child))) (sym p.none) tt;
    seen = subst (λ (ks : List Summary). AllOf (λ n. length (ks ++ []) ≤ n) ((reads b.graphs).seen j.state spent)) (sym bare) (all_more _);
  }

  pub parks_late : MayBeParked b late rest.Ready
  parks_late = record { sound = sound_late; may = (p.some, p.less); no_ask = asks_nothing }

-- where that is answered with the job, it may still be given back as what it is
pub kept_still : (old new : Shown) (j k : Given) (gone : GoneJob) (m : Move) → MayMove old j m → k.state ≡ j.state →
    IsGone old new k gone →
    MayMove new (record { id = j.id; taken = j.taken; left = j.left; spent = j.spent; state = gone.job.state }) m
kept_still old new j k gone m may e g =
    let state : gone.job.state ≡ j.state = ap (λ (x : Given). x.state) g.job ∙ e in
    subst (λ (b : Shown). MayMove b (record j { state = gone.job.state }) m) (sym g.same)
    (subst (λ (x : Seen). MayMove old (record j { state = x }) m) (sym state) may)
