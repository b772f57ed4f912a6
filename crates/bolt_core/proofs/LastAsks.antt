-- A state whose last step is an Ask: its entry stands last, and may get its child.
use Rattle.std.proofs.Common.{◌≡◌, ℕ, zero, suc, ◌-◌, List, [], ◌∷◌, ◌++◌, length, take, Some, refl, sym, ap, ◌∙◌, subst, arith}
use Rattle.std.specs.Prelude.{slice_get}
use Rattle.std.proofs.lemmas.List.{length_push}
use Rattle.flow_graph.specs.declared.graph.Graph.{Graph}
use Rattle.query_tree.proofs.Marks.{get_pushed}
use Rattle.query_tree.proofs.Tests.{cond_eq}
use Rattle.summary_form.specs.declared.query.Query.{Query}
use Rattle.summary_form.specs.declared.summary.Summary.{Summary}
use Rattle.query_rules.specs.declared.step.Asked.{Asked}
use Rattle.query_rules.specs.declared.step.News.{News}
use Rattle.query_rules.specs.declared.step.News.TheVariants as news
use Rattle.query_rules.specs.declared.step.Step.{Step}
use Rattle.query_rules.specs.declared.step.Step.TheVariants as step
use Rattle.query_rules.specs.States.{AllHappen, Happening, Happens, IsStateOf, Tells, after, after_all, heard, made}
use Rattle.query_rules.specs.Steps.{Model, begin_model, effect, told, updated, with_child}
use Rattle.bolt_core.specs.Machine.{an_ask}
use Rattle.bolt_core.specs.States.{last_as, last_of}

pub last_push : (steps : List Step) (s : Step) → last_of (steps ++ s ∷ []) ≡ last_as s
last_push [] s = refl
last_push (x ∷ []) s = refl
last_push (x ∷ y ∷ steps) s = last_push (y ∷ steps) s

-- Updated lists

pub length_updated : (f : Asked → Asked) (xs : List Asked) (i : ℕ) → length (updated f xs i) ≡ length xs
length_updated f [] i = refl
length_updated f (x ∷ xs) zero = refl
length_updated f (x ∷ xs) (suc i) = ap suc (length_updated f xs i)

updated_twice : (c d : ℕ) (k l : News) (xs : List Asked) (i : ℕ) →
    updated (with_child c k) (updated (with_child d l) xs i) i ≡ updated (with_child c k) xs i
updated_twice c d k l [] i = refl
updated_twice c d k l (x ∷ xs) zero = refl
updated_twice c d k l (x ∷ xs) (suc i) = ap (λ ys. x ∷ ys) (updated_twice c d k l xs i)

updated_swapped : (f h : Asked → Asked) (xs : List Asked) (i j : ℕ) → (i ≡ j → ⊥) →
    updated f (updated h xs i) j ≡ updated h (updated f xs j) i
updated_swapped f h [] i j ne = refl
updated_swapped f h (x ∷ xs) zero zero ne = absurd (ne refl)
updated_swapped f h (x ∷ xs) zero (suc j) ne = refl
updated_swapped f h (x ∷ xs) (suc i) zero ne = refl
updated_swapped f h (x ∷ xs) (suc i) (suc j) ne = ap (λ ys. x ∷ ys) (updated_swapped f h xs i j (λ e. ne (ap suc e)))

updated_else : (f : Asked → Asked) (xs : List Asked) (i j : ℕ) (x : Asked) → (i ≡ j → ⊥) → slice_get xs j ≡ Some x →
    slice_get (updated f xs i) j ≡ Some x
updated_else f [] i j x ne at = at
updated_else f (y ∷ xs) zero zero x ne at = absurd (ne refl)
updated_else f (y ∷ xs) zero (suc j) x ne at = at
updated_else f (y ∷ xs) (suc i) zero x ne at = at
updated_else f (y ∷ xs) (suc i) (suc j) x ne at = updated_else f xs i j x (λ e. ne (ap suc e)) at

updated_query : (c : ℕ) (k : News) (xs : List Asked) (i j : ℕ) (x : Asked) → slice_get xs j ≡ Some x →
    (y : Asked) × (slice_get (updated (with_child c k) xs i) j ≡ Some y) × (y.query ≡ x.query)
updated_query c k [] i j x at = absurd (cc)
updated_query c k (z ∷ xs) zero zero x at = let e : z ≡ x = cc in (with_child c k z, refl, ap (λ (a : Asked). a.query) e)
updated_query c k (z ∷ xs) zero (suc j) x at = (x, at, refl)
updated_query c k (z ∷ xs) (suc i) zero x at = (x, at, refl)
updated_query c k (z ∷ xs) (suc i) (suc j) x at = updated_query c k xs i j x at

-- States

module _ (gs : List Graph) (g : Graph) (table : List Summary) (own : Query) (above : List Query) where
  after_last : (es : List Happening) (e : Happening) (m : Model) →
      after_all gs g table (es ++ e ∷ []) m ≡ after gs g table e (after_all gs g table es m)
  after_last [] e m = refl
  after_last (x ∷ es) e m = after_last es e (after gs g table x m)

  happen_last : (es : List Happening) (e : Happening) (m : Model) → AllHappen gs g table es m →
      Happens gs g table e (after_all gs g table es m) → AllHappen gs g table (es ++ e ∷ []) m
  happen_last [] e m h l = (l, tt)
  happen_last (x ∷ es) e m h l = (h.0, happen_last es e (after gs g table x m) h.1 l)

  state_after : (m : Model) (e : Happening) → IsStateOf gs g table own above m → Happens gs g table e m →
      IsStateOf gs g table own above (after gs g table e m)
  state_after m e s h = record {
    at = s.at;
    fits = s.fits;
    happenings = s.happenings ++ e ∷ [];
    happen = happen_last s.happenings e (begin_model g own above) s.happen (subst (Happens gs g table e) s.reached h);
    reached = ap (after gs g table e) s.reached ∙ sym (after_last s.happenings e (begin_model g own above));
  }

  -- the entry of the query stands last, and may get its child
  pub record IsAsked (m : Model) (q : Query) : Type 0 where
    pub entry : Asked
    pub there : slice_get m.asked (length m.asked - 1) ≡ Some entry
    pub query : entry.query ≡ q
    pub told_to : (c : ℕ) → IsStateOf gs g table own above (told (length m.asked - 1) c news.Waiting m)

  abbrev AsksLast : Model → Type 0
  AsksLast m = (q : Query) → last_of m.steps ≡ an_ask q → IsAsked m q

  asked_now : (m m' : Model) (x : Asked) (q : Query) → IsStateOf gs g table own above m' → m'.asked ≡ m.asked ++ x ∷ [] →
      x.news ≡ news.Waiting → x.query ≡ q → IsAsked m' q
  asked_now m m' x q s grown waits of_query =
      let n : length m'.asked - 1 ≡ length m.asked =
      let l = ap (λ (xs : List Asked). length xs) grown in omega (arith, l, length_push m.asked x) in
      let at : slice_get m'.asked (length m'.asked - 1) ≡ Some x =
      ap (slice_get m'.asked) n ∙ (ap (λ (xs : List Asked). slice_get xs (length m.asked)) grown ∙ get_pushed m.asked x) in
      record {
        entry = x;
        there = at;
        query = of_query;
        told_to = λ c. state_after m' (heard (length m'.asked - 1) c news.Waiting) s
            (record { entry = x; there = at; stays = rw waits tt; is_true = tt });
      }

  made_last : (s : Step) (n : ℕ) (m : Model) → IsStateOf gs g table own above (after gs g table (made s n) m) → (q : Query) →
      last_as s ≡ an_ask q → IsAsked (after gs g table (made s n) m) q
  made_last (step.Ask k q' follows seen) n m s q e =
      asked_now m _ (record { edge = k; query = q'; child = 0; news = news.Waiting }) q s refl refl (let d : an_ask q' ≡ an_ask q = e in cc)
  made_last (step.Extend k t p) n m s q e = absurd (cc)
  made_last (step.Split k a follows p) n m s q e = absurd (cc)
  made_last (step.Kill k b) n m s q e = absurd (cc)
  made_last (step.CallExtend k t p v) n m s q e = absurd (cc)
  made_last (step.CallSplit k p a follows r) n m s q e = absurd (cc)
  made_last (step.CallPart k by atom a follows r) n m s q e = absurd (cc)
  made_last (step.Feed i) n m s q e = absurd (cc)
  made_last (step.Stuck k w v) n m s q e = absurd (cc)

  pub steps_pushed : (s : Step) (n : ℕ) (m : Model) → last_of (after gs g table (made s n) m).steps ≡ last_as s
  steps_pushed s n m = last_push (effect g (take n table) s m).steps s

  heard_last : (m : Model) (i d : ℕ) (k : News) → Tells gs m i k → (q : Query) → IsAsked m q → IsAsked (told i d k m) q
  heard_last m i d k t q a =
      let last : ℕ = length m.asked - 1 in
      let same : length (updated (with_child d k) m.asked i) - 1 ≡ last = ap (λ n. n - 1) (length_updated (with_child d k) m.asked i) in
      let y = updated_query d k m.asked i last a.entry a.there in
      record {
        entry = y.0;
        there = ap (slice_get (updated (with_child d k) m.asked i)) same ∙ y.1;
        query = y.2 ∙ a.query;
        told_to = λ c. subst (λ n. IsStateOf gs g table own above (told n c news.Waiting (told i d k m))) (sym same)
            (cond_eq (λ (u : ℕ). IsStateOf gs g table own above (told last c news.Waiting (told i d k m))) i last 0 0
            (λ e. subst (λ j. IsStateOf gs g table own above (told last c news.Waiting (told j d k m))) (sym e)
            (subst (λ (xs : List Asked). IsStateOf gs g table own above (record m { asked = xs }))
            (sym (updated_twice c d news.Waiting k m.asked last)) (a.told_to c)))
            (λ ne. subst (λ (xs : List Asked). IsStateOf gs g table own above (record m { asked = xs }))
            (sym (updated_swapped (with_child c news.Waiting) (with_child d k) m.asked i last ne))
            (state_after (told last c news.Waiting m) (heard i d k) (a.told_to c) (record {
              entry = t.entry;
              there = updated_else (with_child c news.Waiting) m.asked last i t.entry (λ e. ne (sym e)) t.there;
              stays = t.stays;
              is_true = t.is_true;
            }))));
      }

  one_more : (e : Happening) (m : Model) → IsStateOf gs g table own above m → AsksLast m → Happens gs g table e m →
      AsksLast (after gs g table e m)
  one_more (made s n) m st l h q e = made_last s n m (state_after m (made s n) st h) q (sym (steps_pushed s n m) ∙ e)
  one_more (heard i d k) m st l h q e = heard_last m i d k h q (l q e)

  all_more : (es : List Happening) (m : Model) → IsStateOf gs g table own above m → AsksLast m → AllHappen gs g table es m →
      AsksLast (after_all gs g table es m)
  all_more [] m st l h = l
  all_more (e ∷ es) m st l h = all_more es (after gs g table e m) (state_after m e st h.0) (one_more e m st l h.0) h.1

  pub asks_last : (m : Model) → IsStateOf gs g table own above m → AsksLast m
  asks_last m s = subst AsksLast (sym s.reached)
      (all_more s.happenings (begin_model g own above)
      (record { at = s.at; fits = s.fits; happenings = []; happen = tt; reached = refl }) (λ q e. absurd (cc)) s.happen)
