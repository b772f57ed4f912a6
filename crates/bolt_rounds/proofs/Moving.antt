-- Each end of a slice lets the job be given back so.
use Rattle.std.proofs.Common.{◌≡◌, ℕ, ◌-◌, ◌≤◌, List, [], ◌∷◌, ◌++◌, length, get_or, Some, sym, ap, ◌∙◌, subst, arith}
use Rattle.std.specs.Prelude.{slice_get}
use Rattle.std.proofs.lemmas.Option.{same_Some}
use Rattle.std.proofs.lemmas.List.{length_push}
use Rattle.flow_graph.specs.declared.graph.Graph.{Graph}
use Rattle.query_tree.proofs.Lists.{at_place, within}
use Rattle.summary_form.specs.declared.query.Query.{Query}
use Rattle.summary_form.specs.declared.summary.Summary.{Summary}
use Rattle.query_rules.specs.Seen.{Seen, ShowsModel}
use Rattle.query_rules.specs.States.{IsStateOf}
use Rattle.query_rules.specs.Steps.{begin_model}
use Rattle.query_rules.specs.declared.step.Asked.{Asked}
use Rattle.query_rules.specs.declared.step.Closing.{Closing}
use Rattle.query_rules.specs.declared.step.Step.{Step}
use Rattle.query_rules.specs.declared.step.Step.TheVariants as step
use Rattle.punch_step.specs.Sliced.{HasSliced}
use Rattle.punch_step.specs.Slices.{AsksLast, IsEnd}
use Rattle.punch_step.specs.declared.slice.SliceEnd.{SliceEnd}
use Rattle.punch_step.specs.declared.slice.SliceEnd.TheVariants as ends
use Rattle.punch_step.specs.declared.slice.Sliced.{Sliced}
use Rattle.bolt_core.specs.declared.job.Job.{Job as Given}
use Rattle.bolt_core.specs.Boards.{IsBoard, Shown}
use Rattle.bolt_core.specs.Machine.{an_ask}
use Rattle.bolt_rounds.specs.declared.moves.Move.{Move}
use Rattle.bolt_rounds.specs.declared.moves.Move.TheVariants as move
use Rattle.bolt_rounds.specs.Moves.{IsJustTaken, MayMove}
use Rattle.bolt_rounds.specs.steps.Moving.{BeginsAsked, HasAskedLast, IsAskOf, IsCloseOf, IsMoveOf, MayEnd}
use Rattle.bolt_rounds.proofs.Slicing.{fresh_entry}
use Rattle.bolt_rounds.proofs.Sliced.{asked_last, asks_not, last_entry, last_is, made_one, may_be_closed, sliced_job, sound_now, still_waiting, waits_for}

-- A child begins

pub last_there : (xs ys : List Asked) (d e : Asked) → xs ≡ ys → slice_get ys (length ys - 1) ≡ Some e → get_or xs (length xs - 1) d ≡ e
last_there xs ys d e same there =
    let i : ℕ = length xs - 1 in
    let at : slice_get xs i ≡ Some e = ap (λ (l : List Asked). slice_get l (length l - 1)) same ∙ there in
    same_Some (get_or xs i d) e (sym (at_place xs i d (within xs i e at)) ∙ at)

pub begins_asked : (gs : List Graph) (s child : Seen) (q own : Query) (above : List Query) (h : HasAskedLast gs s) → q ≡ own →
    own ≡ h.entry.query → above ≡ s.ancestors ++ s.query ∷ [] →
    ((g : Graph) → slice_get gs own.proc ≡ Some g → ShowsModel child (begin_model g own above)) →
    ((g : Graph) (table : List Summary) → slice_get gs own.proc ≡ Some g → IsStateOf gs g table own above (begin_model g own above)) →
    BeginsAsked gs s child q
begins_asked gs s child q own above h e f up shows state =
    let at : slice_get gs own.proc ≡ Some h.callee = ap (λ (x : Query). slice_get gs x.proc) f ∙ h.at in
    let seen = shows h.callee at in
    record {
      entry = h.entry;
      there = h.there;
      query = e ∙ f;
      fresh = λ table. record {
        state = record {
          graph = h.callee;
          model = begin_model h.callee own above;
          at = subst (λ (x : Query). slice_get gs x.proc ≡ Some h.callee) seen.query at;
          shows = seen;
          state = subst (λ (x : Query). IsStateOf gs h.callee table x child.ancestors (begin_model h.callee own above)) seen.query
              (subst (λ (l : List Query). IsStateOf gs h.callee table own l (begin_model h.callee own above)) seen.ancestors
              (state h.callee table at));
        };
        none = ap (λ (l : List Step). length l) (sym seen.steps);
        query = sym seen.query ∙ sym e;
        level = omega (
          arith,
          seen.level,
          ap (λ (l : List Query). length l) seen.ancestors,
          ap (λ (l : List Query). length l) up,
          length_push s.ancestors s.query,
          h.level,
        );
        above = sym seen.ancestors ∙ up;
      };
    }

-- Ends

module _ (b : Shown) (j : Given) (h : IsBoard b) (t : IsJustTaken b j) (most : ℕ) (some : 1 ≤ most) (s : Seen) (made : Sliced)
    (o : HasSliced b.graphs t.sound.state.graph b.core.table j.left most t.sound.state.model s made) where
  abbrev pub EndsSo : SliceEnd → Type 0
  EndsSo e = IsEnd t.sound.state.graph j.left most o.sliced.steps o.new e

  ends_of : (e : SliceEnd) → EndsSo e → MayEnd b.graphs s e
  ends_of ends.Goes w = tt
  ends_of ends.Asked w = asked_last b j h t most s made o w
  ends_of (ends.Fed i) w = tt
  ends_of (ends.Closed c) w = tt
  ends_of ends.Waits w = tt
  ends_of ends.Spent w = tt

  pub may_end : MayEnd b.graphs s made.end
  may_end = ends_of made.end o.sliced.is_end

  abbrev job : Given
  job = sliced_job j s made

  asks_so : AsksLast o.sliced.steps → (m : Move) → IsAskOf b.graphs s m → MayMove b job m
  asks_so a (move.Ask child query) k =
      let x = step.Ask a.0 a.1 a.2 a.3 in
      let e : k.entry ≡ fresh_entry a.0 a.1 =
      same_Some k.entry (fresh_entry a.0 a.1) (sym k.there ∙ last_entry b j h t most s made o a.0 a.1 a.2 a.3 a.4) in
      let q : query.value ≡ a.1 = k.query ∙ ap (λ (y : Asked). y.query) e in
      record {
        sound = sound_now b j h t most s made o;
        made = made_one b j h t most s made o x a.4;
        last = last_is b j h t most s made o x a.4 ∙ ap an_ask (sym q);
        fresh = k.fresh b.core.table;
      }
  asks_so a (move.Feed i) k = absurd k
  asks_so a (move.Park r) k = absurd k
  asks_so a (move.Close how summary) k = absurd k

  closes_so : (c : Closing) → EndsSo (ends.Closed c) → (m : Move) → IsCloseOf s.query c m → MayMove b job m
  closes_so c w (move.Close how summary) k =
      subst (λ (d : Closing). MayMove b job (move.Close d summary)) (sym k.0) (may_be_closed b j h t most s made o c w, k.1)
  closes_so c w (move.Ask child query) k = absurd k
  closes_so c w (move.Feed i) k = absurd k
  closes_so c w (move.Park r) k = absurd k

  moves_of : (e : SliceEnd) → EndsSo e → (m : Move) → IsMoveOf b.graphs s e m → MayMove b job m
  moves_of ends.Goes w m k = subst (MayMove b job) (sym k) (record {
    sound = sound_now b j h t most s made o;
    may = (omega (arith, w.0, o.sliced.counted, some), omega (arith, w.1, o.sliced.counted));
    no_ask = asks_not b j h t most s made o w.2;
  })
  moves_of ends.Asked w m k = asks_so w m k
  moves_of (ends.Fed i) w m k = subst (MayMove b job) (sym k) (record {
    sound = sound_now b j h t most s made o;
    made = made_one b j h t most s made o (step.Feed i) w;
    last = last_is b j h t most s made o (step.Feed i) w;
  })
  moves_of (ends.Closed c) w m k = closes_so c w m k
  moves_of ends.Waits w m k = subst (MayMove b job) (sym k) (record {
    sound = sound_now b j h t most s made o;
    may = (
      waits_for b j h t most s made o w.0,
      omega (arith, w.1, o.sliced.counted),
      still_waiting b j h t most s made o w.0 w.2,
    );
    no_ask = asks_not b j h t most s made o w.2;
  })
  moves_of ends.Spent w m k = subst (MayMove b job) (sym k) (record {
    sound = sound_now b j h t most s made o;
    may = omega (arith, w.0, o.sliced.counted);
    no_ask = asks_not b j h t most s made o w.1;
  })

  pub may_move : (m : Move) → IsMoveOf b.graphs s made.end m → MayMove b job m
  may_move m k = moves_of made.end o.sliced.is_end m k
