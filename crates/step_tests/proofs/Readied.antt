-- States stay ready: at their beginning, after slices, and when they and the table learn.
use Rattle.std.proofs.Common.{◌≡◌, ℕ, zero, suc, List, [], ◌∷◌, ◌++◌, Some, ⊎_elim, refl, sym, ap, subst, ◌∙◌}
use Rattle.std.specs.Prelude.{slice_get}
use Rattle.std.proofs.lemmas.Option.{same_Some, none-some}
use Rattle.flow_graph.specs.Linked.{AreGraphs}
use Rattle.flow_graph.specs.declared.graph.Graph.{Graph}
use Rattle.summary_form.specs.Answering.{AnswersYes, SummaryHolds}
use Rattle.summary_form.specs.Instances.{arity_in, graph_runs}
use Rattle.summary_form.specs.declared.path.Path.{Path}
use Rattle.summary_form.specs.declared.query.Query.{Query}
use Rattle.summary_form.specs.declared.summary.Summary.{Summary}
use Rattle.summary_form.specs.declared.summary.Summary.TheVariants.{Must}
use Rattle.may_partition.proofs.Pieces.{lookup_append}
use Rattle.query_rules.specs.Applying.{StepsLead}
use Rattle.query_rules.specs.Laws.{ALongerTable, AskedFits, IsGrounded}
use Rattle.query_rules.specs.Legal.{IsLegal}
use Rattle.query_rules.specs.Seen.{Seen, ShowsModel}
use Rattle.query_rules.specs.States.{AllHold, IsStateOf, Tells}
use Rattle.query_rules.specs.Steps.{Model, begin_model, stepped, updated, with_news}
use Rattle.query_rules.specs.declared.step.Asked.{Asked}
use Rattle.query_rules.specs.declared.step.News.{News}
use Rattle.query_rules.specs.declared.step.News.TheVariants as news
use Rattle.query_rules.specs.declared.step.Step.{Step}
use Rattle.query_rules.specs.declared.step.Step.TheVariants as step
use Rattle.query_rules.specs.Answered.{AreAnswered}
use Rattle.punch_step.specs.Analysed.{IsAnalysed}
use Rattle.punch_step.specs.Sliced.{HasSliced}
use Rattle.punch_step.specs.Slices.{AllLegal, IsEnd, after_steps}
use Rattle.punch_step.specs.declared.slice.SliceEnd.{SliceEnd}
use Rattle.punch_step.specs.declared.slice.SliceEnd.TheVariants as ends
use Rattle.punch_step.specs.declared.slice.Sliced.{Sliced}
use Rattle.step_tests.specs.Ready.{AreFitting, IsAskedAs, IsClosedBy, IsEnded, IsFitting, IsReady}

-- Lists of asked queries

abbrev Each : (Asked → Type 0) → List Asked → Type 0
Each P asked = (i : ℕ) (a : Asked) → slice_get asked i ≡ Some a → P a

pub each_updated : (P : Asked → Type 0) (f : Asked → Asked) (asked : List Asked) (i : ℕ) → Each P asked →
    ((a : Asked) → slice_get asked i ≡ Some a → P (f a)) → Each P (updated f asked i)
each_updated P f [] i each at j a e = absurd (none-some a e)
each_updated P f (x ∷ asked) zero each at zero a e = subst P (same_Some (f x) a e) (at x refl)
each_updated P f (x ∷ asked) zero each at (suc j) a e = each (suc j) a e
each_updated P f (x ∷ asked) (suc i) each at zero a e = each zero a e
each_updated P f (x ∷ asked) (suc i) each at (suc j) a e = each_updated P f asked i (λ n b h. each (suc n) b h) at j a e

alone : (P : Asked → Type 0) (x : Asked) → P x → Each P (x ∷ [])
alone P x h zero a e = subst P (same_Some x a e) h
alone P x h (suc j) a e = absurd (none-some a e)

each_more : (P : Asked → Type 0) (asked : List Asked) (x : Asked) → Each P asked → P x → Each P (asked ++ x ∷ [])
each_more P asked x each h i a e = ⊎_elim (λ l. each i a l.1) (λ r. alone P x h r.0 a r.2) (lookup_append asked i (x ∷ []) a e)

-- Tables

still_there : (table more : List Summary) (place : ℕ) (x : Summary) → slice_get table place ≡ Some x →
    slice_get (table ++ more) place ≡ Some x
still_there [] more place x e = absurd (none-some x e)
still_there (y ∷ table) more zero x e = e
still_there (y ∷ table) more (suc place) x e = still_there table more place x e

held_more : (gs : List Graph) (table : List Summary) (x : Summary) → AllHold gs table →
    SummaryHolds (graph_runs gs) (arity_in gs) x → AllHold gs (table ++ x ∷ [])
held_more gs table x holds h place y e = ⊎_elim (λ l. holds place y l.1) (λ r. new r.0 r.2) (lookup_append table place (x ∷ []) y e)
  where
    new : (k : ℕ) → slice_get (x ∷ []) k ≡ Some y → SummaryHolds (graph_runs gs) (arity_in gs) y
    new zero e = subst (SummaryHolds (graph_runs gs) (arity_in gs)) (same_Some x y e) h
    new (suc k) e = absurd (none-some y e)

-- The table has a must that answers it, if a must is reported
abbrev pub IfMust : List Summary → Asked → Type 0
IfMust table a = a.news ≡ news.Must → (place : ℕ) × (path : Path) × (slice_get table place ≡ Some (Must path)) × AnswersYes a.query path

-- The beginning

pub ready : (gs : List Graph) (table : List Summary) (g : Graph) (q : Query) (ancestors : List Query) (s : Seen) → AreGraphs gs →
    AllHold gs table → slice_get gs q.proc ≡ Some g → ShowsModel s (begin_model g q ancestors) →
    IsStateOf gs g table q ancestors (begin_model g q ancestors) → IsReady gs table s
ready gs table g q ancestors s graphs holds at shows state = record {
  graph = g;
  model = begin_model g q ancestors;
  analysed = record {
    shows = shows;
    at = at;
    grounded = record { graphs = graphs; table_holds = holds; state = state };
  };
  answered = subst (AreAnswered table) shows.asked (λ i a e. absurd (none-some a e));
  fitting = subst (AreFitting gs) shows.asked (λ i a e. absurd (none-some a e));
}

-- Slices

module _ (steps_lead : StepsLead) (asked_fits : AskedFits) (gs : List Graph) (g : Graph) (table : List Summary) (q : Query)
    (ancestors : List Query) where
  abbrev IsKept : Model → Type 0
  IsKept m = AreAnswered table m.asked × AreFitting gs m.asked

  one_kept : (m : Model) (s : Step) → IsGrounded gs g table q ancestors m → IsLegal g table m s → IsKept m → IsKept (stepped g table s m)
  one_kept m (step.Extend k trail point) grounded legal kept = kept
  one_kept m (step.Split k atoms follows proofs) grounded legal kept = kept
  one_kept m (step.Kill k by) grounded legal kept = kept
  one_kept m (step.CallExtend k trail place point) grounded legal kept = kept
  one_kept m (step.CallSplit k place atoms follows proofs) grounded legal kept = kept
  one_kept m (step.CallPart k by atom atoms follows proofs) grounded legal kept = kept
  one_kept m (step.Ask k asked follows seen) grounded legal kept =
      let x : Asked = record { edge = k; query = asked; child = 0; news = news.Waiting } in (
        each_more (IfMust table) m.asked x kept.0 (λ e. cc),
        each_more (λ a. IsFitting gs a.query) m.asked x kept.1 (asked_fits gs g table q ancestors m grounded k asked follows seen legal),
      )
  one_kept m (step.Feed i) grounded legal kept = (
    each_updated (IfMust table) (with_news news.Waiting) m.asked i kept.0 (λ a e same. cc),
    each_updated (λ a. IsFitting gs a.query) (with_news news.Waiting) m.asked i kept.1 (λ a e. kept.1 i a e),
  )
  one_kept m (step.Stuck k why seen) grounded legal kept = kept

  all_kept : (steps : List Step) (m : Model) → IsGrounded gs g table q ancestors m → AllLegal g table steps m → IsKept m →
      IsKept (after_steps g table steps m)
  all_kept [] m grounded legal kept = kept
  all_kept (s ∷ steps) m grounded legal kept =
      let next : IsGrounded gs g table q ancestors (stepped g table s m) = record {
        graphs = grounded.graphs;
        table_holds = grounded.table_holds;
        state = steps_lead gs g table q ancestors m s grounded.state legal.0;
      }
      in
      all_kept steps (stepped g table s m) next legal.1 (one_kept m s grounded legal.0 kept)

module _ (steps_lead : StepsLead) (asked_fits : AskedFits) (gs : List Graph) (table : List Summary) (left most : ℕ) (old new : Seen)
    (s : Sliced) (h : IsReady gs table old)
    (f : (g : Graph) (m : Model) → IsAnalysed gs table g old m → HasSliced gs g table left most m new s) where
  made : HasSliced gs h.graph table left most h.model new s
  made = f h.graph h.model h.analysed

  pub slice_ready : IsReady gs table new
  slice_ready =
      let m = h.model in
      let kept = all_kept steps_lead asked_fits gs h.graph table m.query m.ancestors made.sliced.steps m h.analysed.grounded
      made.sliced.legal
      (subst (AreAnswered table) (sym h.analysed.shows.asked) h.answered, subst (AreFitting gs) (sym h.analysed.shows.asked) h.fitting)
      in
      let same : (after_steps h.graph table made.sliced.steps m).asked ≡ new.asked = ap (λ (x : Model). x.asked) (sym made.sliced.reached)
      ∙ made.analysed.shows.asked
      in
      record {
        graph = h.graph;
        model = made.new;
        analysed = made.analysed;
        answered = subst (AreAnswered table) same kept.0;
        fitting = subst (AreFitting gs) same kept.1;
      }

  closed_by : (end : SliceEnd) → IsEnd h.graph left most made.sliced.steps made.new end → IsClosedBy h.graph made.new end
  closed_by ends.Goes e = tt
  closed_by ends.Asked e = tt
  closed_by (ends.Fed i) e = tt
  closed_by (ends.Closed c) e = e
  closed_by ends.Waits e = tt
  closed_by ends.Spent e = tt

  pub slice_ended : IsEnded gs table new s.end
  slice_ended = record {
    graph = h.graph;
    model = made.new;
    analysed = made.analysed;
    closed = closed_by s.end made.sliced.is_end;
  }

-- What is learned

pub ready_longer : ALongerTable → (gs : List Graph) (table : List Summary) (x : Summary) (s : Seen) →
    SummaryHolds (graph_runs gs) (arity_in gs) x → IsReady gs table s → IsReady gs (table ++ x ∷ []) s
ready_longer longer gs table x s holds h =
    let a = h.analysed in
    record {
      graph = h.graph;
      model = h.model;
      analysed = record {
        shows = a.shows;
        at = a.at;
        grounded = record {
          graphs = a.grounded.graphs;
          table_holds = held_more gs table x a.grounded.table_holds holds;
          state = longer gs h.graph table (x ∷ []) h.model.query h.model.ancestors h.model a.grounded.state;
        };
      };
      answered = λ i b e same. let found = h.answered i b e same in
          (found.0, found.1, still_there table (x ∷ []) found.0 (Must found.1) found.2, found.3);
      fitting = h.fitting;
    }

pub tells_of : (gs : List Graph) (table : List Summary) (s : Seen) (h : IsReady gs table s) (i : ℕ) (q : Query) (known : News) →
    IsAskedAs s i q → ((a : Asked) → a.query ≡ q → a.news ≡ news.Waiting → Tells gs h.model i known) → Tells gs h.model i known
tells_of gs table s h i q known asked f = f asked.entry asked.query asked.waits

pub none_hold : (gs : List Graph) (table : List Summary) → table ≡ [] → AllHold gs table
none_hold gs table none = subst (AllHold gs) (sym none) (λ place x e. absurd (none-some x e))
