-- The root and the queries to which kills lead, as far as they were listed.
use Rattle.std.proofs.Common.{◌≡◌, ◌⊎◌, ⊎_elim, ℕ, suc, ◌<◌, ◌≤◌, List, [], length, Option, Some, arith, sym, subst, ap, ◌∙◌}
use Rattle.std.specs.Prelude.{slice_get}
use Rattle.std.proofs.lemmas.Bool.{cases_lt}
use Rattle.std.proofs.lemmas.Option.{none-some, same_Some, slice_get_within}
use Rattle.query_tree.proofs.Lists.{present}
use Rattle.bolt_core.specs.Anchors.{IsAnchored}
use Rattle.bolt_core.specs.Boards.{IsBoard, Shown}
use Rattle.bundle_make.specs.Bundling.{AreClaimed, IsBare, LeadsOn, Listed}
use Rattle.bundle_make.specs.steps.Growing.{IsGrown}
use Rattle.bundle_make.specs.steps.Leading.{IsFilled}
use Rattle.bundle_make.specs.steps.Listing.{IsListing}
use Rattle.bundle_make.proofs.Following.{listed_stays}
use Rattle.bundle_make.proofs.Growing.{grown_from, grown_keeps}
use Rattle.bundle_make.proofs.Leading.{leads_anchored}
use Rattle.bundle_make.proofs.Listings.{listed_once}

module _ (b : Shown) (h : IsBoard b) (bare : IsBare b) (root : ℕ) where
  -- the root alone
  pub filled_first : (count : ℕ) (old ids : List ℕ) (numbers : List (Option ℕ)) → IsListing count ids numbers → old ≡ [] →
      IsGrown (λ x. x ≡ root) old ids → Listed ids root → IsAnchored b.core.nodes 0 root → IsFilled b root 0 ids
  filled_first count old ids numbers l none g there a = record {
    first = first;
    anchored = λ n i at. (0, subst (IsAnchored b.core.nodes 0) (sym (alone n i at)) a);
    all = λ n i x lt. absurd (omega (arith, lt));
    led = λ n x at. absurd (omega (
      arith,
      listed_once count ids numbers l 0 (suc n) root first (at ∙ ap Some (alone (suc n) x at)),
    ));
  } where
    alone : (n x : ℕ) → slice_get ids n ≡ Some x → x ≡ root
    alone n x at = ⊎_elim (λ o. absurd (none-some x (subst (λ xs. slice_get xs n ≡ Some x) none o))) (λ o. o.1)
        (grown_from (λ y. y ≡ root) old ids g n x at)

    first : slice_get ids 0 ≡ Some root
    first =
        let w = present ids 0 (omega (arith, slice_get_within ids there.0 root there.1)) in
        w.1 ∙ ap Some (alone 0 w.0 w.1)

  -- the kills of one more
  pub filled_more : (k i : ℕ) (old new : List ℕ) → IsFilled b root k old → slice_get old k ≡ Some i → IsGrown (LeadsOn b i) old new →
      ((x : ℕ) → LeadsOn b i x → Listed new x) → IsFilled b root (suc k) new
  filled_more k i old new f there g all = record {
    first = keeps 0 root f.first;
    anchored = λ n x at. ⊎_elim (λ o. f.anchored n x o) (λ o. leads_anchored b h bare i x (f.anchored k i there) o.1) (from n x at);
    all = λ n j x lt at d. ⊎_elim (λ less. before n j x less at d) (λ le. last n j x (omega (arith, lt, le)) at d) (cases_lt n k);
    led = λ n x at. ⊎_elim (λ o. let w = f.led n x o in (w.0, w.1, w.2, keeps w.0 w.1 w.3, w.4))
        (λ o. (k, i, omega (arith, o.0, within), keeps k i there, o.1)) (from (suc n) x at);
  } where
    keeps : (n x : ℕ) → slice_get old n ≡ Some x → slice_get new n ≡ Some x
    keeps = grown_keeps (LeadsOn b i) old new g

    from : (n x : ℕ) → slice_get new n ≡ Some x → (slice_get old n ≡ Some x) ⊎ ((length old ≤ n) × LeadsOn b i x)
    from = grown_from (LeadsOn b i) old new g

    within : k < length old
    within = slice_get_within old k i there

    before : (n j x : ℕ) → n < k → slice_get new n ≡ Some j → LeadsOn b j x → Listed new x
    before n j x less at d = ⊎_elim (λ o. listed_stays (LeadsOn b i) old new g x (f.all n j x less o d))
        (λ o. absurd (omega (arith, o.0, less, within))) (from n j at)

    last : (n j x : ℕ) → n ≡ k → slice_get new n ≡ Some j → LeadsOn b j x → Listed new x
    last n j x same at d =
        let is : j ≡ i = same_Some j i (sym at ∙ (ap (slice_get new) same ∙ keeps k i there)) in
        all x (subst (λ y. LeadsOn b y x) is d)

  pub filled_claimed : (count k : ℕ) (ids : List ℕ) (numbers : List (Option ℕ)) → IsListing count ids numbers → length ids ≤ k →
      IsFilled b root k ids → AreClaimed b root ids
  filled_claimed count k ids numbers l le f = record {
    first = f.first;
    once = listed_once count ids numbers l;
    all = λ i x w d. f.all w.0 i x (omega (arith, le, slice_get_within ids w.0 i w.1)) w.1 d;
    led = f.led;
  }
