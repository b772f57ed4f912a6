-- An asked query ends as the state's own does, or with a return.
use Rattle.std.proofs.Common.{◌≡◌, ◌⊎◌, inl, inr, ℕ, zero, suc, ◌==◌, Bool, true, false, List, [], ◌∷◌, Some, refl, sym, ap, ◌∙◌, subst, take, ⊎_elim}
use Rattle.std.specs.Prelude.{slice_get, if◌then◌else◌}
use Rattle.may_partition.specs.declared.region.RegionEdge.{RegionEdge}
use Rattle.flow_graph.specs.declared.graph.Graph.{Graph}
use Rattle.query_tree.proofs.Lists.{from_pushed}
use Rattle.summary_form.specs.declared.query.ExitKind.{ExitKind}
use Rattle.summary_form.specs.declared.query.ExitKind.TheVariants.{Return, Fail}
use Rattle.summary_form.specs.declared.query.Query.{Query}
use Rattle.summary_form.specs.declared.summary.Summary.{Summary}
use Rattle.query_rules.specs.Rows.{AsksAt, failing_exit}
use Rattle.query_rules.specs.Seen.{Seen}
use Rattle.query_rules.specs.States.{AllHappen, Happening, Happens, after, after_all, heard, made}
use Rattle.query_rules.specs.Steps.{Model, begin_model, updated, with_child, with_news}
use Rattle.query_rules.proofs.AskedQueries.{may_exit}
use Rattle.query_rules.specs.declared.step.Asked.{Asked}
use Rattle.query_rules.specs.declared.step.News.TheVariants as news
use Rattle.query_rules.specs.declared.step.Step.{Step}
use Rattle.query_rules.specs.declared.step.Step.TheVariants as step
use Rattle.bolt_core.specs.Machine.{an_ask}
use Rattle.bolt_core.specs.States.{IsStateFor, last_of}
use Rattle.bolt_core.proofs.LastAsks.{IsAsked, asks_last}

abbrev pub IsKindOf : (own q : Query) → Type 0
IsKindOf own q = (q.exit ≡ Return) ⊎ (q.exit ≡ own.exit)

-- a call ends with a return, or as its caller fails
failing : (exit kind : ExitKind) → failing_exit exit ≡ Some kind → kind ≡ exit
failing Return kind h = absurd (cc)
failing (Fail id) kind h = cc

called : (at_fail : Bool) (exit kind : ExitKind) → (if at_fail then failing_exit exit else Some Return) ≡ Some kind →
    (kind ≡ Return) ⊎ (kind ≡ exit)
called true exit kind h = inr (failing exit kind h)
called false exit kind h = inl (cc)

-- A changed entry is of the same query

kinds_updated : (own : Query) (f : Asked → Asked) → ((a : Asked) → (f a).query ≡ a.query) → (as' : List Asked) (n i : ℕ) (a : Asked) →
    ((j : ℕ) (b : Asked) → slice_get as' j ≡ Some b → IsKindOf own b.query) → slice_get (updated f as' n) i ≡ Some a → IsKindOf own a.query
kinds_updated own f same [] n i a h at = h i a at
kinds_updated own f same (b ∷ as') zero zero a h at =
    let e : f b ≡ a = cc in subst (λ (c : Asked). IsKindOf own c.query) e (subst (IsKindOf own) (sym (same b)) (h 0 b refl))
kinds_updated own f same (b ∷ as') zero (suc i) a h at = h (suc i) a at
kinds_updated own f same (b ∷ as') (suc n) zero a h at = h 0 a at
kinds_updated own f same (b ∷ as') (suc n) (suc i) a h at = kinds_updated own f same as' n i a (λ j. h (suc j)) at

-- States

pub record AreKinds (own : Query) (m : Model) : Type 0 where
  pub query : m.query ≡ own
  pub kinds : (i : ℕ) (a : Asked) → slice_get m.asked i ≡ Some a → IsKindOf own a.query

module _ (gs : List Graph) (g : Graph) (table : List Summary) (own : Query) where
  asked_kind : (m : Model) → m.query ≡ own → (k : RegionEdge) (asked q : Query) → q.exit ≡ asked.exit → AsksAt g m k asked →
      IsKindOf own q
  asked_kind m same k asked q x a = ⊎_elim (λ e. inl (x ∙ (a.of_exit ∙ e)))
      (λ e. inr (x ∙ (a.of_exit ∙ (e ∙ ap (λ (o : Query). o.exit) same))))
      (called (a.call.between.target.node == g.fail) m.query.exit a.call.exit a.call.is_kind)

  one_more : (e : Happening) (m : Model) → AreKinds own m → Happens gs g table e m → AreKinds own (after gs g table e m)
  one_more (made (step.Extend k trail point) n) m h l = record { query = h.query; kinds = h.kinds }
  one_more (made (step.Split k atoms follows proofs) n) m h l = record { query = h.query; kinds = h.kinds }
  one_more (made (step.Kill k by) n) m h l = record { query = h.query; kinds = h.kinds }
  one_more (made (step.CallExtend k trail place point) n) m h l = record { query = h.query; kinds = h.kinds }
  one_more (made (step.CallSplit k place atoms follows proofs) n) m h l = record { query = h.query; kinds = h.kinds }
  one_more (made (step.CallPart k by atom atoms follows proofs) n) m h l = record { query = h.query; kinds = h.kinds }
  one_more (made (step.Ask k query follows seen) n) m h l = record {
    query = h.query;
    kinds = λ i a at. ⊎_elim (λ b. h.kinds i a b) (λ b. subst (λ (x : Asked). IsKindOf own x.query) (sym b.1)
        (asked_kind m h.query k l.1.1.asked query (may_exit g (take n table) m k query follows seen l.1.1) l.1.1.asks)) (from_pushed m.asked
        (record { edge = k; query = query; child = 0; news = news.Waiting })
        i a at);
  }
  one_more (made (step.Feed i) n) m h l = record {
    query = h.query;
    kinds = λ j a at. kinds_updated own (with_news news.Waiting) (λ b. refl) m.asked i j a h.kinds at;
  }
  one_more (made (step.Stuck k why seen) n) m h l = record { query = h.query; kinds = h.kinds }
  one_more (heard i number known) m h l = record {
    query = h.query;
    kinds = λ j a at. kinds_updated own (with_child number known) (λ b. refl) m.asked i j a h.kinds at;
  }

  all_more : (es : List Happening) (m : Model) → AreKinds own m → AllHappen gs g table es m → AreKinds own (after_all gs g table es m)
  all_more [] m h l = h
  all_more (e ∷ es) m h l = all_more es (after gs g table e m) (one_more e m h l.0) l.1

-- where the last step is an Ask
pub last_kind : (gs : List Graph) (table : List Summary) (s : Seen) (q : Query) → IsStateFor gs table s → last_of s.steps ≡ an_ask q →
    IsKindOf s.query q
last_kind gs table s q h last =
    let kinds : AreKinds s.query h.model = subst (AreKinds s.query) (sym h.state.reached)
    (all_more gs h.graph table s.query h.state.happenings (begin_model h.graph s.query s.ancestors)
    (record { query = refl; kinds = λ i a at. absurd (cc) }) h.state.happen) in
    let a : IsAsked gs h.graph table s.query s.ancestors h.model q =
    asks_last gs h.graph table s.query s.ancestors h.model h.state q (ap (λ (steps : List Step). last_of steps) h.shows.steps ∙ last) in
    subst (IsKindOf s.query) a.query (kinds.kinds _ a.entry a.there)
