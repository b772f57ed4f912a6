-- A state whose last step is a Feed: what is fed is an asked entry.
use Rattle.std.proofs.Common.{◌≡◌, ℕ, ◌<◌, List, [], ◌∷◌, length, take, sym, ap, ◌∙◌, subst, arith}
use Rattle.flow_graph.specs.declared.graph.Graph.{Graph}
use Rattle.query_tree.proofs.Lists.{within}
use Rattle.summary_form.specs.declared.query.Query.{Query}
use Rattle.summary_form.specs.declared.summary.Summary.{Summary}
use Rattle.query_rules.specs.Legal.{IsLegal}
use Rattle.query_rules.specs.Seen.{Seen}
use Rattle.query_rules.specs.declared.step.Asked.{Asked}
use Rattle.query_rules.specs.declared.step.News.TheVariants as news
use Rattle.query_rules.specs.declared.step.Step.{Step}
use Rattle.query_rules.specs.declared.step.Step.TheVariants as step
use Rattle.query_rules.specs.States.{AllHappen, Happening, Happens, IsStateOf, after, after_all, heard, made}
use Rattle.query_rules.specs.Steps.{Model, begin_model, with_child, with_news}
use Rattle.bolt_core.specs.Machine.{a_feed}
use Rattle.bolt_core.specs.States.{IsStateFor, last_as, last_of}
use Rattle.bolt_core.proofs.LastAsks.{length_updated, steps_pushed}

abbrev FeedsLast : Model → Type 0
FeedsLast m = (i : ℕ) → last_of m.steps ≡ a_feed i → i < length m.asked

module _ (gs : List Graph) (g : Graph) (table : List Summary) (own : Query) (above : List Query) where
  made_last : (s : Step) (n : ℕ) (m : Model) → IsLegal g (take n table) m s → (i : ℕ) → last_as s ≡ a_feed i →
      i < length (after gs g table (made s n) m).asked
  made_last (step.Feed j) n m h i e =
      let d : a_feed j ≡ a_feed i = e in
      let same : j ≡ i = cc in
      omega (arith, within m.asked j h.entry h.there, same, length_updated (with_news news.Waiting) m.asked j)
  made_last (step.Ask k q follows seen) n m h i e = absurd (cc)
  made_last (step.Extend k t p) n m h i e = absurd (cc)
  made_last (step.Split k a follows p) n m h i e = absurd (cc)
  made_last (step.Kill k b) n m h i e = absurd (cc)
  made_last (step.CallExtend k t p v) n m h i e = absurd (cc)
  made_last (step.CallSplit k p a follows r) n m h i e = absurd (cc)
  made_last (step.CallPart k by atom a follows r) n m h i e = absurd (cc)
  made_last (step.Stuck k w v) n m h i e = absurd (cc)

  one_more : (e : Happening) (m : Model) → FeedsLast m → Happens gs g table e m → FeedsLast (after gs g table e m)
  one_more (made s n) m l h i e = made_last s n m h.1 i (sym (steps_pushed gs g table own above s n m) ∙ e)
  one_more (heard j d k) m l h i e = omega (arith, l i e, length_updated (with_child d k) m.asked j)

  all_more : (es : List Happening) (m : Model) → FeedsLast m → AllHappen gs g table es m → FeedsLast (after_all gs g table es m)
  all_more [] m l h = l
  all_more (e ∷ es) m l h = all_more es (after gs g table e m) (one_more e m l h.0) h.1

  feeds_last : (m : Model) → IsStateOf gs g table own above m → FeedsLast m
  feeds_last m s = subst FeedsLast (sym s.reached) (all_more s.happenings (begin_model g own above) (λ i e. absurd (cc)) s.happen)

pub feeds_within : (gs : List Graph) (table : List Summary) (s : Seen) → IsStateFor gs table s → (i : ℕ) → last_of s.steps ≡ a_feed i →
    i < length s.asked
feeds_within gs table s h i e =
    let l = feeds_last gs h.graph table s.query s.ancestors h.model h.state i (ap last_of h.shows.steps ∙ e) in
    omega (arith, l, ap (λ (xs : List Asked). length xs) h.shows.asked)
