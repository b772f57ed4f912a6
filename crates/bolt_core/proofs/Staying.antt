-- What a call asks of a job is kept while events come.
use Rattle.std.proofs.Common.{◌≡◌, ℕ, List, [], ◌∷◌, ◌++◌, Bool, Some, sym, ap, ◌∙◌, subst, append_assoc}
use Rattle.std.specs.Prelude.{slice_get}
use Rattle.std.proofs.lemmas.List.{append-nil}
use Rattle.flow_graph.specs.declared.graph.Graph.{Graph}
use Rattle.query_tree.specs.declared.Rest.{Rest}
use Rattle.query_tree.proofs.Lists.{within}
use Rattle.query_rules.specs.Seen.{Seen}
use Rattle.query_rules.specs.declared.step.Closing.{Closing}
use Rattle.summary_form.specs.declared.query.Query.{Query}
use Rattle.summary_form.specs.declared.summary.Summary.{Summary}
use Rattle.bolt_core.specs.declared.job.Job.{Job as Given}
use Rattle.bolt_core.specs.Boards.{IsBoard, IsSoundFor, MayAsk, MayBeClosed, MayBeParked, MayFeed, Shown, job_of}
use Rattle.bolt_core.specs.Histories.{Told, named, table_of, took}
use Rattle.bolt_core.specs.Keeps.{Keeps}
use Rattle.bolt_core.specs.KeptBoards.{MovesStay}
use Rattle.bolt_core.specs.Lawful.{IsLawful}
use Rattle.bolt_core.specs.Machine.{Core, MayPark, Reached, Reads}
use Rattle.bolt_core.specs.States.{reads}
use Rattle.bolt_core.proofs.Agreeing.{kept_push}
use Rattle.bolt_core.proofs.BoardKeeps.{board_keeps, reached_keeps}
use Rattle.bolt_core.proofs.Going.{get_front}
use Rattle.bolt_core.proofs.Reserve.{event_history, event_kept}
use Rattle.bolt_core.proofs.Sounds.{sound_reached}
use Rattle.bolt_core.proofs.StatesLawful.{states_lawful}

module _ {S : Type 0} (R : Reads S) where
  pub reached_history : (old new : Core S) (es : List Told) → Reached R old es new → new.history ≡ old.history ++ es
  reached_history old new [] r = ap (λ (c : Core S). c.history) r ∙ sym (append-nil old.history)
  reached_history old new (e ∷ es) r =
      reached_history r.0 new es r.2
      ∙ (ap (λ (h : List Told). h ++ es) (event_history R old r.0 e r.1) ∙ append_assoc old.history (e ∷ []) es)

  pub reached_kept : (old new : Core S) (es : List Told) → Reached R old es new → new.kept ≡ old.kept
  reached_kept old new [] r = ap (λ (c : Core S). c.kept) r
  reached_kept old new (e ∷ es) r = reached_kept r.0 new es r.2 ∙ event_kept R old r.0 e r.1

  state_reached : IsLawful R → (old new : Core S) (es : List Told) → Reached R old es new → (s : S) →
      R.IsState (old.kept ++ table_of old.history) s → R.IsState (new.kept ++ table_of new.history) s
  state_reached g old new [] r s is = subst (λ (c : Core S). R.IsState (c.kept ++ table_of c.history) s) (sym r) is
  state_reached g old new (e ∷ es) r s is = state_reached g r.0 new es r.2 s
      (subst (λ (t : List Summary). R.IsState t s) (sym (ap (λ ks. ks ++ table_of r.0.history) (event_kept R old r.0 e r.1)
      ∙ (ap (λ h. old.kept ++ table_of h) (event_history R old r.0 e r.1) ∙ kept_push old.kept old.history e)))
      (g.longer (old.kept ++ table_of old.history) (named e) s is))

-- The board may have further parts, and its graphs are named
module _ (old new : Shown) (es : List Told) (h : IsBoard old) (j : Given) where
  abbrev R : Reads Seen
  R = reads old.graphs

  module _ (r : Reached R old.core es new.core) where
    lawful : IsLawful R
    lawful = states_lawful old.graphs h.linked

    kept : Keeps R old.asserts new.core
    kept = reached_keeps R lawful old.asserts old.core es new.core r (board_keeps old h)

    pub sound_stays : IsSoundFor old j → IsSoundFor (record new { graphs = old.graphs }) j
    sound_stays s = sound_reached R lawful old.asserts old.core es new.core r (board_keeps old h) (job_of j) s

    waiting_stays : (s : IsSoundFor old j) (t : IsSoundFor (record new { graphs = old.graphs }) j) → t.waiting ≡ s.waiting
    waiting_stays s t =
        let there : slice_get new.core.history j.taken ≡ Some (took s.worker j.id j.left s.stored s.waiting) =
        ap (λ (l : List Told). slice_get l j.taken) (reached_history R old.core new.core es r)
        ∙ (get_front old.core.history es j.taken (within old.core.history j.taken _ s.take_at) ∙ s.take_at) in
        let same : Some (took t.worker j.id j.left t.stored t.waiting) ≡ Some (took s.worker j.id j.left s.stored s.waiting) =
        sym t.take_at ∙ there in
        cc

    pub park_stays : (rest : Rest) → MayBeParked old j rest → MayBeParked (record new { graphs = old.graphs }) j rest
    park_stays rest m = record {
      sound = sound_stays m.sound;
      may = subst (λ (b : Bool). MayPark R rest (job_of j) b) (sym (waiting_stays m.sound (sound_stays m.sound))) m.may;
      no_ask = m.no_ask;
    }

    pub ask_stays : (child : Seen) (q : Query) → MayAsk old j child q → MayAsk (record new { graphs = old.graphs }) j child q
    ask_stays child q m = record {
      sound = sound_stays m.sound;
      made = m.made;
      last = m.last;
      fresh = record {
        state = subst (λ (t : List Summary). R.IsState t child) kept.named
            (state_reached R lawful old.core new.core es r child
            (subst (λ (t : List Summary). R.IsState t child) (sym (board_keeps old h).named) m.fresh.state));
        none = m.fresh.none;
        query = m.fresh.query;
        level = m.fresh.level;
        above = m.fresh.above;
      };
    }

    pub feed_stays : (number : ℕ) → MayFeed old j number → MayFeed (record new { graphs = old.graphs }) j number
    feed_stays number m = record { sound = sound_stays m.sound; made = m.made; last = m.last }

    pub close_stays : (c : Closing) → MayBeClosed old j c → MayBeClosed (record new { graphs = old.graphs }) j c
    close_stays c m = record { sound = sound_stays m.sound; is_closed = m.is_closed; may = m.may }

pub moves_stay : MovesStay
moves_stay old new es j h same r =
    let to : record new { graphs = old.graphs } ≡ new = ap (λ (gs : List Graph). record new { graphs = gs }) (sym same) in (
      λ s. subst (λ (b : Shown). IsSoundFor b j) to (sound_stays old new es h j r s),
      λ rest m. subst (λ (b : Shown). MayBeParked b j rest) to (park_stays old new es h j r rest m),
      λ child q m. subst (λ (b : Shown). MayAsk b j child q) to (ask_stays old new es h j r child q m),
      λ number m. subst (λ (b : Shown). MayFeed b j number) to (feed_stays old new es h j r number m),
      λ c m. subst (λ (b : Shown). MayBeClosed b j c) to (close_stays old new es h j r c m),
    )
