-- States stay ready when they hear how a child closed, and the table gets what that says.
use Rattle.std.proofs.Common.{◌≡◌, ℕ, List, [], ◌∷◌, ◌++◌, length, None, Some, refl, sym, arith, ap, subst, ◌∙◌}
use Rattle.std.specs.Prelude.{slice_get}
use Rattle.std.proofs.lemmas.List.{length-append}
use Rattle.std.proofs.lemmas.Option.{same_Some, slice_get_read}
use Rattle.std.proofs.Math.Seq.{get_or-append_seam}
use Rattle.flow_graph.specs.declared.graph.Graph.{Graph}
use Rattle.summary_form.specs.Answering.{AnswersYes}
use Rattle.summary_form.specs.Instances.{arity_in, graph_runs}
use Rattle.summary_form.specs.Musts.{MustHolds}
use Rattle.summary_form.specs.NotMays.{NotMayHolds}
use Rattle.summary_form.specs.declared.path.Path.{Path}
use Rattle.summary_form.specs.declared.query.Query.{Query}
use Rattle.summary_form.specs.declared.summary.Summary.{Summary}
use Rattle.summary_form.specs.declared.summary.Summary.TheVariants.{Must, NotMay}
use Rattle.query_rules.specs.Applying.{NewsLead}
use Rattle.query_rules.specs.Laws.{ALongerTable, MustAnswers, NoRun}
use Rattle.query_rules.specs.Leaning.{levels_of}
use Rattle.query_rules.specs.Seen.{Seen, ShowsModel}
use Rattle.query_rules.specs.States.{IsTrueNews, StaysNews, Tells}
use Rattle.query_rules.specs.Steps.{Model, told, with_child}
use Rattle.query_rules.specs.declared.step.Asked.{Asked}
use Rattle.query_rules.specs.declared.step.Closing.TheVariants as closing
use Rattle.query_rules.specs.declared.step.News.{News}
use Rattle.query_rules.specs.declared.step.News.TheVariants as news
use Rattle.query_rules.specs.Answered.{AreAnswered}
use Rattle.punch_step.specs.declared.slice.SliceEnd.TheVariants as ends
use Rattle.step_tests.specs.Ready.{AreFitting, IsAskedAs, IsEnded, IsFitting, IsReady}
use Rattle.step_tests.proofs.Readied.{IfMust, each_updated, ready_longer}

-- News

abbrev pub MayTell : Seen → ℕ → News → Type 0
MayTell s i known = (gs : List Graph) × (m : Model) × ShowsModel s m × Tells gs m i known

tells_in : (gs : List Graph) (table : List Summary) (s : Seen) (h : IsReady gs table s) (i : ℕ) (q : Query) (known : News) →
    IsAskedAs s i q → IsTrueNews gs (levels_of h.model.ancestors h.model.query) q known → Tells gs h.model i known
tells_in gs table s h i q known asked t = record {
  entry = asked.entry;
  there = subst (λ (xs : List Asked). slice_get xs i ≡ Some asked.entry) (sym h.analysed.shows.asked) asked.there;
  stays = subst (λ (n : News). StaysNews n known) (sym asked.waits) tt;
  is_true = subst (λ (x : Query). IsTrueNews gs (levels_of h.model.ancestors h.model.query) x known) (sym asked.query) t;
}

-- the state that hears it is ready, where the table has a must if a must is reported
heard : NewsLead → (gs : List Graph) (table : List Summary) (s new : Seen) (h : IsReady gs table s) (i number : ℕ) (known : News) →
    Tells gs h.model i known → ((a : Asked) → slice_get s.asked i ≡ Some a → IfMust table (with_child number known a)) →
    ((m : Model) → ShowsModel s m → ShowsModel new (told i number known m)) → IsReady gs table new
heard lead gs table s new h i number known tells must shows =
    let m = h.model in
    let a = h.analysed in
    let after = shows m a.shows in
    record {
      graph = h.graph;
      model = told i number known m;
      analysed = record {
        shows = after;
        at = a.at;
        grounded = record {
          graphs = a.grounded.graphs;
          table_holds = a.grounded.table_holds;
          state = lead gs h.graph table m.query m.ancestors m i number known a.grounded.state tells;
        };
      };
      answered = subst (AreAnswered table) after.asked
          (each_updated (IfMust table) (with_child number known) m.asked i (subst (AreAnswered table) (sym a.shows.asked) h.answered)
          (λ b e. must b (subst (λ (xs : List Asked). slice_get xs i ≡ Some b) a.shows.asked e)));
      fitting = subst (AreFitting gs) after.asked
          (each_updated (λ b. IsFitting gs b.query) (with_child number known) m.asked i
          (subst (AreFitting gs) (sym a.shows.asked) h.fitting)
          (λ b e. h.fitting i b (subst (λ (xs : List Asked). slice_get xs i ≡ Some b) a.shows.asked e)));
    }

-- What a closed child says

must_holds : MustAnswers → (gs : List Graph) (table : List Summary) (child : Seen) (path : Path) →
    (e : IsEnded gs table child (ends.Closed (closing.Must path))) →
    MustHolds (graph_runs gs) (arity_in gs path.proc) path × AnswersYes e.model.query path
must_holds answers gs table child path e =
    let a = e.analysed in
    answers gs e.graph table e.model.query e.model.ancestors e.model a.grounded path e.closed

not_may_holds : NoRun → (gs : List Graph) (table : List Summary) (child : Seen) → IsEnded gs table child (ends.Closed closing.NotMay) →
    child.lowest ≡ None → NotMayHolds (graph_runs gs) child.query
not_may_holds never gs table child e none =
    let a = e.analysed in
    subst (NotMayHolds (graph_runs gs)) a.shows.query
    (never gs e.graph table e.model.query e.model.ancestors e.model a.grounded e.closed (a.shows.lowest ∙ none))

-- What the table gets

pub must_kept : MustAnswers → ALongerTable → (gs : List Graph) (table after : List Summary) (s child : Seen) (path copied : Path) →
    IsReady gs table s → IsEnded gs table child (ends.Closed (closing.Must path)) → copied ≡ path → after ≡ table ++ Must copied ∷ [] →
    IsReady gs after s
must_kept answers longer gs table after s child path copied h e same is =
    subst (λ (l : List Summary). IsReady gs l s) (sym (is ∙ ap (λ (p : Path). table ++ Must p ∷ []) same))
    (ready_longer longer gs table (Must path) s (must_holds answers gs table child path e).0 h)

pub not_may_kept : NoRun → ALongerTable → (gs : List Graph) (table after : List Summary) (s child : Seen) (copied : Query) →
    IsReady gs table s → IsEnded gs table child (ends.Closed closing.NotMay) → child.lowest ≡ None → copied ≡ child.query →
    after ≡ table ++ NotMay copied ∷ [] → IsReady gs after s
not_may_kept never longer gs table after s child copied h e none same is =
    subst (λ (l : List Summary). IsReady gs l s) (sym (is ∙ ap (λ (q : Query). table ++ NotMay q ∷ []) same))
    (ready_longer longer gs table (NotMay child.query) s (not_may_holds never gs table child e none) h)

-- What the state learns

module _ (gs : List Graph) (table after : List Summary) (s child new : Seen) (i number : ℕ) (h : IsReady gs table s)
    (asked : IsAskedAs s i child.query) where
  -- A must
  pub must_tells : MayTell s i news.Must
  must_tells = (gs, h.model, h.analysed.shows, tells_in gs table s h i child.query news.Must asked tt)

  pub must_learned : MustAnswers → ALongerTable → NewsLead → (path copied : Path) →
      IsEnded gs table child (ends.Closed (closing.Must path)) →
      copied ≡ path → after ≡ table ++ Must copied ∷ [] →
      ((m : Model) → ShowsModel s m → ShowsModel new (told i number news.Must m)) → IsReady gs after new
  must_learned answers longer lead path copied e same is shows =
      let a = e.analysed in
      let got : MustHolds (graph_runs gs) (arity_in gs path.proc) path × AnswersYes e.model.query path =
      must_holds answers gs table child path e
      in
      let long = ready_longer longer gs table (Must path) s got.0 h in
      let query = λ (b : Asked) (at : slice_get s.asked i ≡ Some b). a.shows.query
      ∙ (sym asked.query ∙ ap (λ (x : Asked). x.query) (same_Some asked.entry b (sym asked.there ∙ at)))
      in
      let last : slice_get (table ++ Must path ∷ []) (length table) ≡ Some (Must path) =
      slice_get_read (table ++ Must path ∷ []) _ (length table) (Must path) refl (omega (arith, length-append table (Must path ∷ [])))
      (sym (get_or-append_seam table (Must path) [] (Must path)))
      in
      subst (λ (l : List Summary). IsReady gs l new) (sym (is ∙ ap (λ (p : Path). table ++ Must p ∷ []) same))
      (heard lead gs (table ++ Must path ∷ []) s new long i number news.Must
      (tells_in gs (table ++ Must path ∷ []) s long i child.query news.Must asked tt)
      (λ b at told. (length table, path, last, subst (λ (q : Query). AnswersYes q path) (query b at) got.1)) shows)

  -- A not-may
  module _ (no : NoRun) (e : IsEnded gs table child (ends.Closed closing.NotMay)) (none : child.lowest ≡ None) where
    holds : NotMayHolds (graph_runs gs) child.query
    holds = not_may_holds no gs table child e none

    pub not_may_tells : MayTell s i (news.NotMay None)
    not_may_tells = (gs, h.model, h.analysed.shows, tells_in gs table s h i child.query (news.NotMay None) asked holds)

    pub not_may_learned : ALongerTable → NewsLead → (copied : Query) → copied ≡ child.query → after ≡ table ++ NotMay copied ∷ [] →
        ((m : Model) → ShowsModel s m → ShowsModel new (told i number (news.NotMay None) m)) → IsReady gs after new
    not_may_learned longer lead copied same is shows =
        let long = ready_longer longer gs table (NotMay child.query) s holds h in
        subst (λ (l : List Summary). IsReady gs l new) (sym (is ∙ ap (λ (q : Query). table ++ NotMay q ∷ []) same))
        (heard lead gs (table ++ NotMay child.query ∷ []) s new long i number (news.NotMay None)
        (tells_in gs (table ++ NotMay child.query ∷ []) s long i child.query (news.NotMay None) asked holds) (λ b at told. cc)
        shows)

-- News without an answer

module _ (gs : List Graph) (table : List Summary) (s new : Seen) (i number : ℕ) (q : Query) (known : News) (h : IsReady gs table s)
    (asked : IsAskedAs s i q) (fits : IsTrueNews gs (levels_of h.model.ancestors h.model.query) q known)
  where
    open_in : Tells gs h.model i known
    open_in = tells_in gs table s h i q known asked fits

    pub open_tells : MayTell s i known
    open_tells = (gs, h.model, h.analysed.shows, open_in)

    pub open_learned : NewsLead → (known ≡ news.Must → ⊥) → ((m : Model) → ShowsModel s m → ShowsModel new (told i number known m)) →
        IsReady gs table new
    open_learned lead none shows = heard lead gs table s new h i number known open_in (λ b at is. absurd (none is)) shows
