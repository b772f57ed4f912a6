-- The stages that an elimination passes through.
use Rattle.std.proofs.Common.{◌≡◌, ℕ, suc, ◌+◌, ◌<◌, List, [], ◌∷◌, ◌++◌, length, get_or, take, drop, drop-cons, Result, Err, refl, sym, ap, subst, ◌∙◌}
use Rattle.std.proofs.lemmas.List.{take_more, take-append-drop}
use Rattle.linear_formula.specs.LinearSum.{LinearSum}
use Rattle.shadow_elim.specs.declared.shadow.ShadowError.{ShadowError}
use Rattle.shadow_elim.specs.declared.elimination.Stage.{Stage}
use Rattle.shadow_elim.specs.Elimination.{after_column, and_then, elimination, Remainder, remains}
use Rattle.shadow_elim.specs.Stages.{IsStage, AreStages}

-- one more column
pub stages-push : (xs : List ℕ) (rows : List LinearSum) (ss : List Stage) (mid : List LinearSum) (x : ℕ) (s : Stage)
    (left : List LinearSum) →
    AreStages xs rows ss mid → IsStage x mid s → after_column x mid ≡ remains left → AreStages (xs ++ x ∷ []) rows (ss ++ s ∷ []) left
stages-push [] rows [] mid x s left h k e = (
  subst (λ (ts : List LinearSum). IsStage x ts s) h k,
  (
    left,
    subst (λ (ts : List LinearSum). after_column x ts ≡ remains left) h e,
    refl,
  ),
)
stages-push [] rows (r ∷ ss) mid x s left h k e = absurd h
stages-push (y ∷ xs) rows [] mid x s left h k e = absurd h
stages-push (y ∷ xs) rows (r ∷ ss) mid x s left h k e =
    (h.0, (h.1.0, h.1.1, stages-push xs h.1.0 ss mid x s left h.1.2 k e))

-- the elimination goes on from the rows that are left
pub stages-go_on : (xs ys : List ℕ) (rows : List LinearSum) (ss : List Stage) (mid : List LinearSum) → AreStages xs rows ss mid →
    elimination (xs ++ ys) rows ≡ elimination ys mid
stages-go_on [] ys rows [] mid h = ap (elimination ys) (sym h)
stages-go_on [] ys rows (s ∷ ss) mid h = absurd h
stages-go_on (x ∷ xs) ys rows [] mid h = absurd h
stages-go_on (x ∷ xs) ys rows (s ∷ ss) mid h =
    ap (and_then (elimination (xs ++ ys))) h.1.1 ∙ stages-go_on xs ys h.1.0 ss mid h.1.2

-- the rows that are left are those of the elimination
pub stages-end : (xs : List ℕ) (rows : List LinearSum) (ss : List Stage) (left : List LinearSum) → AreStages xs rows ss left →
    elimination xs rows ≡ remains left
stages-end [] rows [] left h = ap remains (sym h)
stages-end [] rows (s ∷ ss) left h = absurd h
stages-end (x ∷ xs) rows [] left h = absurd h
stages-end (x ∷ xs) rows (s ∷ ss) left h =
    ap (and_then (elimination xs)) h.1.1 ∙ stages-end xs h.1.0 ss left h.1.2

-- where a column has another end, the elimination has it too
pub stages-stop : (xs : List ℕ) (x : ℕ) (ys : List ℕ) (rows : List LinearSum) (ss : List Stage) (mid : List LinearSum) (end : Remainder) →
    AreStages xs rows ss mid → after_column x mid ≡ end → elimination (xs ++ x ∷ ys) rows ≡ and_then (elimination ys) end
stages-stop xs x ys rows ss mid end h e =
    stages-go_on xs (x ∷ ys) rows ss mid h ∙ ap (and_then (elimination ys)) e

-- Columns by their places

pub passing-more : (columns : List ℕ) (i : ℕ) (rows : List LinearSum) (ss next : List Stage) (mid left : List LinearSum) (s : Stage) →
    i < length columns → AreStages (take i columns) rows ss mid → IsStage (get_or columns i 0) mid s → after_column (get_or columns i 0) mid
    ≡ remains left → next ≡ ss ++ s ∷ [] → AreStages (take (i + 1) columns) rows next left
passing-more columns i rows ss next mid left s h a k e n =
    subst (λ (ts : List Stage). AreStages (take (i + 1) columns) rows ts left) (sym n)
    (subst (λ (xs : List ℕ). AreStages xs rows (ss ++ s ∷ []) left) (sym (take_more columns i 0 h))
    (stages-push (take i columns) rows ss mid (get_or columns i 0) s left a k e))

pub passing-stop : (columns : List ℕ) (i : ℕ) (rows : List LinearSum) (ss : List Stage) (mid : List LinearSum) (end : Remainder) →
    i < length columns → AreStages (take i columns) rows ss mid → after_column (get_or columns i 0) mid ≡ end → elimination columns rows
    ≡ and_then (elimination (drop (suc i) columns)) end
passing-stop columns i rows ss mid end h a e =
    ap (λ (xs : List ℕ). elimination xs rows) (sym (take-append-drop i columns) ∙ ap (λ (xs : List ℕ). take i columns ++ xs)
    (drop-cons columns i 0 h)) ∙ stages-stop (take i columns) (get_or columns i 0) (drop (suc i) columns) rows ss mid end a e

-- An error is passed on as it is

pub same_error : {Y : Type 0} (s : Result Y ShadowError) (e d f : ShadowError) → s ≡ Err e → e ≡ d → s ≡ Err f → d ≡ f
same_error s e d f p q w = cc
