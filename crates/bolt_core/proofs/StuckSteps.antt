-- Each given up edge of a state has a right limit, or a child that gave up, and keeps it.
use Rattle.std.proofs.Common.{◌≡◌, ℕ, zero, suc, List, [], ◌∷◌, ◌++◌, take, Some, refl, sym, ap, ◌∙◌, subst, ⊎_elim}
use Rattle.std.specs.Prelude.{slice_get}
use Rattle.shadow_elim.specs.RightLimit.{IsRight}
use Rattle.shadow_elim.specs.declared.limit.LimitKind.{LimitKind}
use Rattle.flow_graph.specs.declared.graph.Graph.{Graph}
use Rattle.may_partition.specs.declared.region.RegionEdge.{RegionEdge}
use Rattle.query_tree.proofs.Lists.{from_pushed, to_pushed}
use Rattle.summary_form.specs.declared.query.Query.{Query}
use Rattle.summary_form.specs.declared.summary.Summary.{Summary}
use Rattle.query_rules.specs.Legal.{GivesUp, IsLegal}
use Rattle.query_rules.specs.States.{AllHappen, Happening, Happens, IsStateOf, StaysNews, Tells, after, after_all, heard, made}
use Rattle.query_rules.specs.Steps.{Model, begin_model, effect, effect_of, stepped, told, updated, with_child, with_news}
use Rattle.query_rules.proofs.Effects.{same_steps_by}
use Rattle.query_rules.specs.declared.step.Asked.{Asked}
use Rattle.query_rules.specs.declared.step.News.{News}
use Rattle.query_rules.specs.declared.step.News.TheVariants as news
use Rattle.query_rules.specs.declared.step.Step.{Step}
use Rattle.query_rules.specs.declared.step.Step.TheVariants as step
use Rattle.query_rules.specs.declared.step.Why.{Why}
use Rattle.query_rules.specs.declared.step.Why.TheVariants as why

-- the entry of this number tells a limit
pub record IsGivenUp (asked : List Asked) (number : ℕ) : Type 0 where
  pub entry : Asked
  pub kind : LimitKind
  pub there : slice_get asked number ≡ Some entry
  pub is_news : entry.news ≡ news.Stuck kind

abbrev pub IsFinal : List Asked → Step → Type 0
IsFinal asked (step.Stuck k (why.Own kept) seen) = IsRight kept
IsFinal asked (step.Stuck k (why.Child number) seen) = IsGivenUp asked number
IsFinal asked _ = Unit {0}

abbrev pub AllFinal : Model → Type 0
AllFinal m = (n : ℕ) (s : Step) → slice_get m.steps n ≡ Some s → IsFinal m.asked s

-- Entries that tell a limit still do

abbrev StaysGiven : List Asked → List Asked → Type 0
StaysGiven xs ys = (i : ℕ) → IsGivenUp xs i → IsGivenUp ys i

final_later : (xs ys : List Asked) → StaysGiven xs ys → (s : Step) → IsFinal xs s → IsFinal ys s
final_later xs ys stays (step.Stuck k (why.Own kept) seen) h = h
final_later xs ys stays (step.Stuck k (why.Child number) seen) h = stays number h
final_later xs ys stays (step.Extend k t p) h = tt
final_later xs ys stays (step.Split k a follows p) h = tt
final_later xs ys stays (step.Kill k b) h = tt
final_later xs ys stays (step.CallExtend k t p v) h = tt
final_later xs ys stays (step.CallSplit k p a follows r) h = tt
final_later xs ys stays (step.CallPart k by atom a follows r) h = tt
final_later xs ys stays (step.Ask k q follows v) h = tt
final_later xs ys stays (step.Feed i) h = tt

-- where the updated entry keeps its limit
updated_stays : (f : Asked → Asked) (xs : List Asked) (j : ℕ) →
    ((x : Asked) (kind : LimitKind) → slice_get xs j ≡ Some x → x.news ≡ news.Stuck kind → (f x).news ≡ news.Stuck kind) →
    StaysGiven xs (updated f xs j)
updated_stays f [] j h i e = e
updated_stays f (x ∷ xs) zero h zero e = record { entry = f x; kind = e.kind; there = refl; is_news = h x e.kind refl tells } where
  tells : x.news ≡ news.Stuck e.kind
  tells = let o : Some x ≡ Some e.entry = e.there in let v : x ≡ e.entry = cc in ap (λ (a : Asked). a.news) v ∙ e.is_news
updated_stays f (x ∷ xs) zero h (suc i) e = record { entry = e.entry; kind = e.kind; there = e.there; is_news = e.is_news }
updated_stays f (x ∷ xs) (suc j) h zero e = record { entry = e.entry; kind = e.kind; there = e.there; is_news = e.is_news }
updated_stays f (x ∷ xs) (suc j) h (suc i) e =
    let r = updated_stays f xs j h i (record { entry = e.entry; kind = e.kind; there = e.there; is_news = e.is_news }) in
    record { entry = r.entry; kind = r.kind; there = r.there; is_news = r.is_news }

pushed_stays : (xs : List Asked) (x : Asked) → StaysGiven xs (xs ++ x ∷ [])
pushed_stays xs x i e = record { entry = e.entry; kind = e.kind; there = to_pushed xs x i e.entry e.there; is_news = e.is_news }

stays_stuck : (k : News) (kind : LimitKind) (known : News) → k ≡ news.Stuck kind → StaysNews k known → known ≡ news.Stuck kind
stays_stuck k kind known e h = subst (λ o. StaysNews o known) e h

module _ (gs : List Graph) (g : Graph) (table : List Summary) where
  module _ (t : List Summary) (m : Model) where
    gives_final : (k : RegionEdge) (w : Why) (seen : ℕ) → GivesUp g t m k w seen → IsFinal m.asked (step.Stuck k w seen)
    gives_final k (why.Own kept) seen h = h.1.right
    gives_final k (why.Child number) seen h = record { entry = h.entry; kind = h.kind; there = h.there; is_news = h.is_news }

    effect_stays : (s : Step) → IsLegal g t m s → StaysGiven m.asked (effect g t s m).asked
    effect_stays (step.Ask k q follows seen) h = pushed_stays m.asked (record { edge = k; query = q; child = 0; news = news.Waiting })
    effect_stays (step.Feed i) h = updated_stays (with_news news.Waiting) m.asked i (λ x kind a e.
        let o : Some x ≡ Some h.entry = sym a ∙ h.there in
        let v : x ≡ h.entry = cc in
        let n : news.Stuck kind ≡ news.Starved = sym e ∙ (ap (λ (y : Asked). y.news) v ∙ h.starved) in
        absurd (cc))
    effect_stays (step.Extend k n p) h = λ i e. e
    effect_stays (step.Split k a follows p) h = λ i e. e
    effect_stays (step.Kill k b) h = λ i e. e
    effect_stays (step.CallExtend k n p v) h = λ i e. e
    effect_stays (step.CallSplit k p a follows r) h = λ i e. e
    effect_stays (step.CallPart k by atom a follows r) h = λ i e. e
    effect_stays (step.Stuck k w seen) h = λ i e. e

    step_final : (s : Step) → IsLegal g t m s → IsFinal (effect g t s m).asked s
    step_final (step.Ask k q follows seen) h = tt
    step_final (step.Feed i) h = tt
    step_final (step.Extend k n p) h = tt
    step_final (step.Split k a follows p) h = tt
    step_final (step.Kill k b) h = tt
    step_final (step.CallExtend k n p v) h = tt
    step_final (step.CallSplit k p a follows r) h = tt
    step_final (step.CallPart k by atom a follows r) h = tt
    step_final (step.Stuck k w seen) h = gives_final k w seen h.1

    made_final : (s : Step) → IsLegal g t m s → AllFinal m → AllFinal (stepped g t s m)
    made_final s h f n x a =
        let steps : slice_get (m.steps ++ s ∷ []) n ≡ Some x =
        ap (λ (xs : List Step). slice_get (xs ++ s ∷ []) n) (sym (same_steps_by (effect_of g t s m) m)) ∙ a in
        ⊎_elim
        (λ o. final_later m.asked (effect g t s m).asked (effect_stays s h) x (f n x o))
        (λ o. subst (IsFinal (effect g t s m).asked) (sym o.1) (step_final s h))
        (from_pushed m.steps s n x steps)

  heard_final : (i number : ℕ) (known : News) (m : Model) → Tells gs m i known → AllFinal m → AllFinal (told i number known m)
  heard_final i number known m h f n x a =
      final_later m.asked (updated (with_child number known) m.asked i)
      (updated_stays (with_child number known) m.asked i (λ y kind at e.
      let o : Some y ≡ Some h.entry = sym at ∙ h.there in
      let v : h.entry ≡ y = cc in
      stays_stuck h.entry.news kind known (ap (λ (z : Asked). z.news) v ∙ e) h.stays))
      x (f n x a)

  one_final : (e : Happening) (m : Model) → Happens gs g table e m → AllFinal m → AllFinal (after gs g table e m)
  one_final (made s n) m h f = made_final (take n table) m s h.1 f
  one_final (heard i number known) m h f = heard_final i number known m h f

  all_final : (es : List Happening) (m : Model) → AllHappen gs g table es m → AllFinal m → AllFinal (after_all gs g table es m)
  all_final [] m h f = f
  all_final (e ∷ es) m h f = all_final es (after gs g table e m) h.1 (one_final e m h.0 f)

  pub state_final : (q : Query) (above : List Query) (m : Model) → IsStateOf gs g table q above m → AllFinal m
  state_final q above m s = subst AllFinal (sym s.reached)
      (all_final s.happenings (begin_model g q above) s.happen (λ n x a. absurd (cc)))
