-- A sweep has one end, and what the ends say of runs.
use Rattle.std.proofs.Common.{◌≡◌, ◌≢◌, ◌⊎◌, inl, inr, ℕ, ◌≤◌, List, [], ◌∷◌, ◌++◌, length, Some, None, refl, sym, subst, ap, ◌∙◌, arith, length-append}
use Rattle.std.specs.Prelude.{slice_get}
use Rattle.std.proofs.lemmas.Option.{same_Some, none-some}
use Rattle.linear_formula.specs.declared.question.Question.TheVariants as asks
use Rattle.linear_formula.specs.declared.formula.Atom.{Atom}
use Rattle.flow_graph.specs.declared.graph.Graph.{Graph}
use Rattle.flow_graph.specs.Runs.{failed}
use Rattle.shadow_elim.specs.Plan.{solution, limit_met}
use Rattle.shadow_elim.specs.Sums.{IsFirstWide, first_wide, wide_sum}
use Rattle.shadow_elim.specs.declared.limit.Kept.{Kept}
use Rattle.shadow_elim.specs.declared.limit.Limit.{Limit}
use Rattle.shadow_elim.specs.declared.sum.Sum.{Sum}
use Rattle.path_sweep.specs.Executions.{IsFeasible, IsTaken, ended}
use Rattle.path_sweep.specs.Guards.{Walked, begun, ComesTo, Follows}
use Rattle.path_sweep.specs.Order.{Before, AreThose}
use Rattle.path_sweep.specs.Ends.{IsQuestion, MeetsLimit, FeasibleBefore, IsWhole, IsMore, IsLimited}
use Rattle.path_sweep.specs.Laws.{HasOneEnd, WholeDecides, FoundReaches, SweepsAreWhole}
use Rattle.path_sweep.proofs.Following.{failures_have_paths}
use Rattle.path_sweep.proofs.Folding.{paths_fail}
use Rattle.path_sweep.proofs.Ordering.{through, ordered, not_longer, push_ascends, push_those}
use Rattle.path_sweep.proofs.Trees.{follows_one, comes_one}

-- the last edge and what stands before it
pub front_one : (p q : List ℕ) (i j : ℕ) → p ++ i ∷ [] ≡ q ++ j ∷ [] → (p ≡ q) × (i ≡ j)
front_one [] [] i j e = (refl, (let x : i ≡ j = cc in x))
front_one [] (y ∷ []) i j e = absurd (let x : i ∷ [] ≡ y ∷ j ∷ [] = e in cc)
front_one [] (y ∷ z ∷ q) i j e = absurd (let x : i ∷ [] ≡ y ∷ z ∷ (q ++ j ∷ []) = e in cc)
front_one (x ∷ []) [] i j e = absurd (let y : x ∷ i ∷ [] ≡ j ∷ [] = e in cc)
front_one (x ∷ z ∷ p) [] i j e = absurd (let y : x ∷ z ∷ (p ++ i ∷ []) ≡ j ∷ [] = e in cc)
front_one (x ∷ p) (y ∷ q) i j e =
    let tails : p ++ i ∷ [] ≡ q ++ j ∷ [] = cc in
    let heads : x ≡ y = cc in
    let r = front_one p q i j tails in
    (ap (λ n. n ∷ p) heads ∙ ap (λ l. y ∷ l) r.0, r.1)

module _ (gs : List Graph) (main : ℕ) where
  record SameAsked (a b : List Sum) (x y : Walked) : Type 0 where
    pub sums : a ≡ b
    pub after : x ≡ y

  question_one : (path : List ℕ) (a b : IsQuestion gs main path) → SameAsked a.sums b.sums a.after b.after
  question_one path a b =
      let parts = front_one a.front b.front a.edge b.edge (sym a.is ∙ b.is) in
      let g : a.graph ≡ b.graph = same_Some a.graph b.graph (sym a.at ∙ b.at) in
      let comes : ComesTo gs b.front (begun b.graph) a.before =
      subst (λ p. ComesTo gs p (begun b.graph) a.before) parts.0 (subst (λ z. ComesTo gs a.front (begun z) a.before) g a.comes) in
      let before : a.before ≡ b.before = comes_one gs b.front (begun b.graph) a.before b.before comes b.comes in
      let follows : Follows gs b.edge b.before a.sums a.after =
      subst (λ n. Follows gs n b.before a.sums a.after) parts.1 (subst (λ w. Follows gs a.edge w a.sums a.after) before a.follows) in
      let one = follows_one gs b.edge b.before a.sums b.sums a.after b.after follows b.follows in
      record { sums = one.0; after = one.1 }

  limit_one : (x y : Limit) → limit_met x ≡ limit_met y → x ≡ y
  limit_one x y e = cc

  kept_one : (x y : Kept) → x.question ≡ y.question → x.limit ≡ y.limit → x ≡ y
  kept_one x y q l = λ i. record { question = q i; limit = l i }

  limits_one : (path : List ℕ) (x y : Kept) → MeetsLimit gs main path x → MeetsLimit gs main path y → x ≡ y
  limits_one path x y a b = by_kind a.meets b.meets where
    one : SameAsked a.question.sums b.question.sums a.question.after b.question.after
    one = question_one path a.question b.question

    wide_one : IsFirstWide a.question.sums x → IsFirstWide b.question.sums y → x ≡ y
    wide_one h k =
        let s : h.sum ≡ k.sum = same_Some h.sum k.sum (sym h.first ∙ (ap first_wide one.sums ∙ k.first)) in
        h.same ∙ (ap wide_sum s ∙ sym k.same)

    by_kind : IsFirstWide a.question.sums x ⊎ ((first_wide a.question.sums ≡ None)
        × (x.question ≡ asks.Cube (record { atoms = a.question.after.guard })) × (solution a.question.after.guard ≡ limit_met x.limit)) →
        IsFirstWide b.question.sums y ⊎ ((first_wide b.question.sums ≡ None)
        × (y.question ≡ asks.Cube (record { atoms = b.question.after.guard })) × (solution b.question.after.guard ≡ limit_met y.limit)) →
        x ≡ y
    by_kind (inl h) (inl k) = wide_one h k
    by_kind (inl h) (inr k) = absurd (none-some h.sum (sym k.0 ∙ (ap first_wide (sym one.sums) ∙ h.first)))
    by_kind (inr h) (inl k) = absurd (none-some k.sum (sym h.0 ∙ (ap first_wide one.sums ∙ k.first)))
    by_kind (inr h) (inr k) =
        let same : a.question.after.guard ≡ b.question.after.guard = ap (λ (w : Walked). w.guard) one.after in
        kept_one x y (h.1 ∙ (ap (λ (r : List Atom). asks.Cube (record { atoms = r })) same ∙ sym k.1))
        (limit_one x.limit y.limit (sym h.2 ∙ (ap solution same ∙ k.2)))

  -- more than `edges` paths are none too many
  too_many : (edges : ℕ) (G : List ℕ → Type 0) (before counted : List (List ℕ)) (last : List ℕ) → AreThose (FeasibleBefore gs main last)
      before →
      length before ≡ edges → AreThose G counted → ((p : List ℕ) → FeasibleBefore gs main last p → G p) → G last → length counted ≤ edges →
      ⊥
  too_many edges G before counted last h full c up own few =
      let xs = before ++ last ∷ [] in
      let a = push_ascends before last (record { in_order = h.in_order }) (λ k p e. (h.each k p e).1) in
      let those = push_those (FeasibleBefore gs main last) (λ p. FeasibleBefore gs main last p ⊎ (p ≡ last)) before last h (inr refl)
      (λ p f. (inl f, f.1)) (λ p f. f) in
      let n = not_longer xs counted a (record { in_order = c.in_order }) (λ k p e. member p (those.each k p e)) in
      let l = length-append before (last ∷ []) in
      omega (arith, n, l, full, few) where
        member : (p : List ℕ) → FeasibleBefore gs main last p ⊎ (p ≡ last) → (l : ℕ) × (slice_get counted l ≡ Some p)
        member p (inl f) = c.all p (up p f)
        member p (inr e) = c.all p (subst G (sym e) own)

  whole_more : (edges : ℕ) (c d : List (List ℕ)) → IsWhole gs main edges c → IsMore gs main edges d → ⊥
  whole_more edges c d w m = too_many edges (IsFeasible gs main) m.before c m.last m.those m.full w.those (λ p f. f.0) m.feasible w.few

  whole_limited : (edges : ℕ) (c d : List (List ℕ)) (k : Kept) → IsWhole gs main edges c → IsLimited gs main edges d k → ⊥
  whole_limited edges c d k w l = w.clear l.path (k, l.meets)

  more_limited : (edges : ℕ) (c d : List (List ℕ)) (k : Kept) → IsMore gs main edges c → IsLimited gs main edges d k → ⊥
  more_limited edges c d k m l = by_order (ordered l.path m.last) where
    by_order : Before l.path m.last ⊎ ((l.path ≡ m.last) ⊎ Before m.last l.path) → ⊥
    by_order (inl o) = m.clear l.path (inr o) (k, l.meets)
    by_order (inr (inl o)) = m.clear l.path (inl o) (k, l.meets)
    by_order (inr (inr o)) = too_many edges (FeasibleBefore gs main l.path) m.before d m.last m.those m.full l.those
        (λ p f. (f.0, through p m.last l.path f.1 o)) (m.feasible, o) l.few

  limited_limited : (edges : ℕ) (c d : List (List ℕ)) (x y : Kept) → IsLimited gs main edges c x → IsLimited gs main edges d y → x ≡ y
  limited_limited edges c d x y a b = by_order (ordered a.path b.path) where
    by_order : Before a.path b.path ⊎ ((a.path ≡ b.path) ⊎ Before b.path a.path) → x ≡ y
    by_order (inl o) = absurd (b.clear a.path o (x, a.meets))
    by_order (inr (inl o)) = limits_one b.path x y (subst (λ p. MeetsLimit gs main p x) o a.meets) b.meets
    by_order (inr (inr o)) = absurd (a.clear b.path o (y, b.meets))

pub one_end : HasOneEnd
one_end gs main edges c d x y = (
  whole_more gs main edges c d,
  whole_limited gs main edges c d x,
  more_limited gs main edges c d x,
  limited_limited gs main edges c d x y,
)

pub sweeps_are_whole : SweepsAreWhole
sweeps_are_whole gs main edges clear = (
  λ c d k l. clear l.path (k, l.meets),
  λ paths those few c m. whole_more gs main edges paths c (record { those = those; few = few; clear = clear }) m,
)

pub whole_decides : WholeDecides
whole_decides gs main edges counted id w none ins d run =
    let p = failures_have_paths gs main d ins id run in
    let place = w.those.all p.0 (record { some = some p.0 p.1; ins = ins; to = ended (failed id); taken = p.1 }) in
    none place.0 p.0 place.1 (ins, p.1) where
      some : (path : List ℕ) → IsTaken gs main path ins (ended (failed id)) → path ≢ []
      some [] t e = let x = t.takes.0 in cc
      some (i ∷ path) t e = cc

pub found_reaches : FoundReaches
found_reaches gs main counted id ins h = paths_fail gs main h.1 ins id h.3
