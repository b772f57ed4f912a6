-- Distances to a target: what they say of open ways, and what changes of them and of the edges keep.
use Rattle.std.proofs.Common.{◌≡◌, ◌≢◌, ◌⊎◌, inl, inr, ℕ, zero, suc, ◌+◌, ◌<◌, ◌≤◌, ◌==◌, Bool, true, false, not, ◌&&◌, ◌||◌, List, [], ◌∷◌, ◌++◌, Option, Some, None, length, arith, refl, sym, subst, ap, ◌∙◌}
use Rattle.std.specs.Prelude.{IsTrue, slice_index, slice_set}
use Rattle.std.specs.List.{list_all, list_any}
use borrow.Author.Tests.{eqb-true, eqb-false, eq-eqb}
use Rattle.std.proofs.Math.ListN.{length-set}
use Rattle.std.proofs.lemmas.Bool.{cases_lt}
use Rattle.std.proofs.lemmas.List.{get_or-set_same, get_or-set_other, append_assoc, length-append}
use Rattle.std.proofs.lemmas.List.Folds.{list_all-append}
use Rattle.linear_formula.proofs.Limits.{both_in}
use Rattle.abstract_path.specs.Routes.{is_at}
use Rattle.abstract_path.proofs.Settling.{inside}
use Rattle.may_partition.specs.declared.region.RegionEdge.{RegionEdge}
use Rattle.may_partition.specs.Parted.{parent, parents, same_edge}
use Rattle.may_partition.specs.Shown.{is_live}
use Rattle.may_partition.proofs.Kept.{same_is}
use Rattle.may_partition.proofs.Splitting.{or_left, or_right, parent_old, parent_new}
use Rattle.punch_step.specs.steps.Far.{AreAtLeast, AreBounded, IsLastCrossing, IsNearest, IsOpenEdge, IsOpenWay, LeadOn, LeadsNearer, crosses, way_at}

clash : true ≡ false → ⊥
clash h = cc

-- Ways

pub way_more : (edges shut : List RegionEdge) (a : ℕ) (es : List RegionEdge) (e : RegionEdge) → IsOpenWay edges shut a es e.from →
    IsOpenEdge edges shut e → IsOpenWay edges shut a (es ++ e ∷ []) e.to
way_more edges shut a [] e h o = (o, h, refl)
way_more edges shut a (x ∷ es) e h o = (h.0, h.1, way_more edges shut x.to es e h.2 o)

-- each distance is at most that of any way
pub far_enough : (edges shut : List RegionEdge) (far : List ℕ) (target : ℕ) → AreBounded edges shut far → slice_index far target ≡ 1 →
    (a : ℕ) (es : List RegionEdge) → IsOpenWay edges shut a es target →
    (slice_index far a ≢ 0) × (slice_index far a ≤ suc (length es))
far_enough edges shut far target h one a [] w =
    let same : slice_index far a ≡ 1 = ap (slice_index far) (sym w) ∙ one in
    (λ z. absurd (omega (arith, same, z)), omega (arith, same))
far_enough edges shut far target h one a (e ∷ es) w =
    let r = far_enough edges shut far target h one e.to es w.2 in
    let k = h e w.0 r.0 in
    let same : slice_index far e.from ≡ slice_index far a = ap (slice_index far) w.1 in
    (λ z. k.0 (same ∙ z), omega (arith, same, k.1, r.1))

-- no distance is that of no way
pub none_from : (edges shut : List RegionEdge) (far : List ℕ) (target : ℕ) → AreBounded edges shut far → slice_index far target ≡ 1 →
    (a : ℕ) → slice_index far a ≡ 0 → (es : List RegionEdge) → IsOpenWay edges shut a es target → ⊥
none_from edges shut far target h one a z es w = (far_enough edges shut far target h one a es w).0 z

-- ways lead to the target
pub way_from : (edges shut : List RegionEdge) (far : List ℕ) (way : List RegionEdge) (target : ℕ) → LeadOn edges shut target far way →
    (n r : ℕ) → slice_index far r ≤ n → slice_index far r ≢ 0 → (es : List RegionEdge) × IsOpenWay edges shut r es target
way_from edges shut far way target h zero r low some = absurd (some (omega (arith, low)))
way_from edges shut far way target h (suc n) r low some =
    by (r == target) refl (λ (e : RegionEdge) (k : LeadsNearer edges shut far r e).
    way_from edges shut far way target h n e.to (omega (arith, low, k.nearer)) k.known)
  where
    by : (b : Bool) → (r == target) ≡ b → ((e : RegionEdge) → LeadsNearer edges shut far r e → (es : List RegionEdge)
        × IsOpenWay edges shut e.to es target) → (es : List RegionEdge) × IsOpenWay edges shut r es target
    by true s rest = ([], sym (eqb-true r target s))
    by false s rest =
        let k = h r (eqb-false r target s) some in
        let w = rest (way_at way r) k in
        (way_at way r ∷ w.0, (k.is_open, k.from, w.1))

-- Fewer open edges

pub fewer_open : (edges shut fewer more : List RegionEdge) (far : List ℕ) → AreBounded edges shut far →
    ((e : RegionEdge) → IsOpenEdge fewer more e → IsOpenEdge edges shut e) → AreBounded fewer more far
fewer_open edges shut fewer more far h k e o = h e (k e o)

-- A region is raised

module _ (edges shut : List RegionEdge) (far : List ℕ) (region near new : ℕ) (within : region < length far)
    (h : AreBounded edges shut far) (n : IsNearest edges shut far region near) (some : slice_index far region ≢ 0)
    (none : near ≡ 0 → new ≡ 0) (raised : near ≢ 0 → new ≢ 0) (high : new ≤ suc near)
    (greatest : near ≢ 0 → slice_index far region ≤ suc near → slice_index far region ≤ new) where
  at_same : (r : ℕ) → r ≡ region → slice_index (slice_set far region new) r ≡ new
  at_same r s = ap (slice_index (slice_set far region new)) s ∙ get_or-set_same far region new 0 within

  at_other : (r : ℕ) → r ≢ region → slice_index (slice_set far region new) r ≡ slice_index far r
  at_other r s = get_or-set_other far region r new 0 s

  abbrev Far : RegionEdge → Type 0
  Far e = (slice_index (slice_set far region new) e.from ≢ 0) × (slice_index (slice_set far region new) e.from
      ≤ suc (slice_index (slice_set far region new) e.to))

  low : near ≢ 0 → slice_index far region ≤ new
  low z =
      let w = n.met z in
      let k = h w.0 w.1 (λ y. z (sym w.3 ∙ y)) in
      let from = ap (slice_index far) w.2 in
      greatest z (omega (arith, k.1, w.3, from))

  pub raise_bounded : AreBounded edges shut (slice_set far region new)
  raise_bounded e o known = by (e.from == region) (e.to == region) refl refl where
    by : (b c : Bool) → (e.from == region) ≡ b → (e.to == region) ≡ c → Far e
    by true true f t =
        let from = at_same e.from (eqb-true e.from region f) in
        let to = at_same e.to (eqb-true e.to region t) in
        (λ z. known (to ∙ sym from ∙ z), omega (arith, from, to))
    by true false f t =
        let from = at_same e.from (eqb-true e.from region f) in
        let to = at_other e.to (eqb-false e.to region t) in
        let k = n.least e o (eqb-true e.from region f) (λ z. known (to ∙ z)) in
        (λ z. raised k.0 (sym from ∙ z), omega (arith, from, to, k.1, high))
    by false true f t =
        let from = at_other e.from (eqb-false e.from region f) in
        let to = at_same e.to (eqb-true e.to region t) in
        let is = ap (slice_index far) (eqb-true e.to region t) in
        let k = h e o (λ z. some (sym is ∙ z)) in
        let up = low (λ z. known (to ∙ none z)) in
        (λ z. k.0 (sym from ∙ z), omega (arith, from, to, is, k.1, up))
    by false false f t =
        let from = at_other e.from (eqb-false e.from region f) in
        let to = at_other e.to (eqb-false e.to region t) in
        let k = h e o (λ z. known (to ∙ z)) in
        (λ z. k.0 (sym from ∙ z), omega (arith, from, to, k.1))

-- A region is divided

no_any : (p : RegionEdge → Bool) (xs : List RegionEdge) (e : RegionEdge) → list_any p xs ≡ false → IsTrue (p e) → is_live xs e ≡ false
no_any p [] e h t = refl
no_any p (x ∷ xs) e h t = by (p x) (same_edge x e) refl refl h (λ k. no_any p xs e k t) where
  by : (b c : Bool) → p x ≡ b → same_edge x e ≡ c → list_any p (x ∷ xs) ≡ false → (list_any p xs ≡ false → is_live xs e ≡ false) →
      is_live (x ∷ xs) e ≡ false
  by true c a s k rest = absurd (clash (sym (ap (λ y. y || list_any p xs) a) ∙ k))
  by false true a s k rest = absurd (clash (sym (subst (λ y. p y ≡ true) (sym (same_is x e s)) t) ∙ a))
  by false false a s k rest = rw s (rest (sym (ap (λ y. y || list_any p xs) a) ∙ k))

module _ (edges shut pieces : List RegionEdge) (far new : List ℕ) (n m region : ℕ)
    (h : AreBounded edges shut far)
    (apart : list_any (λ e. e.from == region || e.to == region) shut ≡ false)
    (live : (e : RegionEdge) → IsTrue (is_live pieces e) → IsTrue (is_live edges (parents n region e)))
    (within : (e : RegionEdge) → IsTrue (is_live pieces e) → (e.from < m) × (e.to < m))
    (copied : (r : ℕ) → r < m → slice_index new r ≡ slice_index far (parent n region r)) where
  old_open : (e : RegionEdge) → is_live shut e ≡ false → is_live shut (parents n region e) ≡ false
  old_open e o = by (cases_lt e.from n) (cases_lt e.to n) where
    by : (e.from < n) ⊎ (n ≤ e.from) → (e.to < n) ⊎ (n ≤ e.to) → is_live shut (parents n region e) ≡ false
    by (inl f) (inl t) = subst (λ x. is_live shut x ≡ false)
        (λ i. record { edge = e.edge; from = sym (parent_old n region e.from f) i; to = sym (parent_old n region e.to t) i }) o
    by (inr f) _ = no_any (λ x. x.from == region || x.to == region) shut (parents n region e) apart
        (or_left (parent n region e.from == region) (parent n region e.to == region) (eq-eqb (parent n region e.from) region
        (parent_new n region e.from f)))
    by (inl f) (inr t) = no_any (λ x. x.from == region || x.to == region) shut (parents n region e) apart
        (or_right (parent n region e.from == region) (parent n region e.to == region) (eq-eqb (parent n region e.to) region
        (parent_new n region e.to t)))

  pub divide_bounded : AreBounded pieces shut new
  divide_bounded e o known =
      let w = within e o.0 in
      let from = copied e.from w.0 in
      let to = copied e.to w.1 in
      let k = h (parents n region e) (live e o.0, old_open e o.1) (λ z. known (to ∙ z)) in
      (λ z. k.0 (sym from ∙ z), omega (arith, from, to, k.1))

-- A walk

-- the last edge of those that were walked that leads from a marked region to one that isn't
pub record IsLastOf (marked : List Bool) (es : List RegionEdge) (k : RegionEdge) : Type 0 where
  pub before : List RegionEdge
  pub behind : List RegionEdge
  pub is : es ≡ before ++ k ∷ behind
  pub frontier : IsTrue (crosses marked k)
  pub last : IsTrue (list_all (λ e. not (crosses marked e)) behind)

abbrev pub IfLastOf : List Bool → List RegionEdge → ℕ → Option RegionEdge → Type 0
IfLastOf marked es here None = is_at marked here ≡ true
IfLastOf marked es here (Some k) = IsLastOf marked es k

pub record IsWalked (edges shut : List RegionEdge) (marked : List Bool) (far : List ℕ) (here : ℕ) (last : Option RegionEdge) : Type 0 where
  pub es : List RegionEdge
  pub is_way : IsOpenWay edges shut 0 es here
  pub nearer : length es + slice_index far here ≤ slice_index far 0
  pub known : slice_index far here ≢ 0
  pub last_is : IfLastOf marked es here last

pub begin_walked : (edges shut : List RegionEdge) (marked : List Bool) (far : List ℕ) → is_at marked 0 ≡ true → slice_index far 0 ≢ 0 →
    IsWalked edges shut marked far 0 None
begin_walked edges shut marked far m z = record { es = []; is_way = refl; nearer = omega arith; known = z; last_is = m }

one_further : (es : List RegionEdge) (e : RegionEdge) (a b c : ℕ) → length es + a ≤ c → b < a → length (es ++ e ∷ []) + b ≤ c
one_further es e a b c h l = omega (arith, h, l, length-append es (e ∷ []))

pub walked_over : (edges shut : List RegionEdge) (marked : List Bool) (far : List ℕ) (here : ℕ) (last : Option RegionEdge)
    (e : RegionEdge) →
    IsWalked edges shut marked far here last → LeadsNearer edges shut far here e → IsTrue (crosses marked e) →
    IsWalked edges shut marked far e.to (Some e)
walked_over edges shut marked far here last e w k c = record {
  es = w.es ++ e ∷ [];
  is_way = way_more edges shut 0 w.es e (subst (λ n. IsOpenWay edges shut 0 w.es n) (sym k.from) w.is_way) k.is_open;
  nearer = one_further w.es e (slice_index far here) (slice_index far e.to) (slice_index far 0) w.nearer k.nearer;
  known = k.known;
  last_is = record { before = w.es; behind = []; is = refl; frontier = c; last = refl };
}

pub walked_on : (edges shut : List RegionEdge) (marked : List Bool) (far : List ℕ) (here : ℕ) (last : Option RegionEdge) (e : RegionEdge) →
    IsWalked edges shut marked far here last → LeadsNearer edges shut far here e → crosses marked e ≡ false →
    IsWalked edges shut marked far e.to last
walked_on edges shut marked far here last e w k c = record {
  es = w.es ++ e ∷ [];
  is_way = way_more edges shut 0 w.es e (subst (λ n. IsOpenWay edges shut 0 w.es n) (sym k.from) w.is_way) k.is_open;
  nearer = one_further w.es e (slice_index far here) (slice_index far e.to) (slice_index far 0) w.nearer k.nearer;
  known = k.known;
  last_is = by last w.last_is;
} where
  stays : (a b : Bool) → (a && not b) ≡ false → a ≡ true → b ≡ true
  stays true true h s = refl
  stays true false h s = absurd (clash h)
  stays false b h s = absurd (clash (sym s))

  by : (o : Option RegionEdge) → IfLastOf marked w.es here o → IfLastOf marked (w.es ++ e ∷ []) e.to o
  by None m = stays (is_at marked e.from) (is_at marked e.to) c (ap (is_at marked) k.from ∙ m)
  by (Some x) l = record {
    before = l.before;
    behind = l.behind ++ e ∷ [];
    is = ap (λ xs. xs ++ e ∷ []) l.is ∙ append_assoc l.before (x ∷ l.behind) (e ∷ []);
    frontier = l.frontier;
    last = subst IsTrue (sym (list_all-append (λ y. not (crosses marked y)) l.behind (e ∷ [])))
        (both_in (list_all (λ y. not (crosses marked y)) l.behind) (not (crosses marked e) && true) l.last
        (both_in (not (crosses marked e)) true (ap not c) refl));
  }

pub walk_ends : (edges shut : List RegionEdge) (marked : List Bool) (far : List ℕ) (target : ℕ) (k : RegionEdge) →
    AreBounded edges shut far → slice_index far target ≡ 1 → IsWalked edges shut marked far target (Some k) →
    IsLastCrossing edges shut marked target k
walk_ends edges shut marked far target k h one w = record {
  before = w.last_is.before;
  behind = w.last_is.behind;
  is_way = subst (λ es. IsOpenWay edges shut 0 es target) w.last_is.is w.is_way;
  frontier = w.last_is.frontier;
  last = w.last_is.last;
  shortest = λ es o. omega (arith, (far_enough edges shut far target h one 0 es o).1, w.nearer, one, ap length w.last_is.is);
}

pub walk_crosses : (edges shut : List RegionEdge) (marked : List Bool) (far : List ℕ) (target : ℕ) → is_at marked target ≡ false →
    IsWalked edges shut marked far target None → ⊥
walk_crosses edges shut marked far target m w = clash (sym w.last_is ∙ m)

-- The distances of a partition

pub one_raised : (n : ℕ) (edges shut : List RegionEdge) (target : ℕ) (far : List ℕ) (way : List RegionEdge) (region near new : ℕ)
    (w : RegionEdge) → AreAtLeast n edges shut target far way → region ≢ target → region < n → slice_index far region ≢ 0 →
    IsNearest edges shut far region near → (near ≡ 0 → new ≡ 0) → (near ≢ 0 → new ≢ 0) → new ≤ suc near →
    (near ≢ 0 → slice_index far region ≤ suc near → slice_index far region ≤ new) →
    AreAtLeast n edges shut target (slice_set far region new) (slice_set way region w)
one_raised n edges shut target far way region near new w h apart l some near_is none raised high greatest = record {
  fars = length-set far region new ∙ h.fars;
  ways = length-set way region w ∙ h.ways;
  at_target = get_or-set_other far region target new 0 (λ z. apart (sym z)) ∙ h.at_target;
  bounded = raise_bounded edges shut far region near new (omega (arith, l, h.fars)) h.bounded near_is some none raised high greatest;
}

pub other_way : (n : ℕ) (edges shut : List RegionEdge) (target : ℕ) (far : List ℕ) (way : List RegionEdge) (region : ℕ) (w : RegionEdge) →
    AreAtLeast n edges shut target far way → AreAtLeast n edges shut target far (slice_set way region w)
other_way n edges shut target far way region w h =
    record { fars = h.fars; ways = length-set way region w ∙ h.ways; at_target = h.at_target; bounded = h.bounded }

pub all_divided : (edges shut pieces : List RegionEdge) (far new : List ℕ) (way : List RegionEdge) (n m region target : ℕ)
    (old : List RegionEdge) →
    AreAtLeast n edges shut target far old →
    list_any (λ e. e.from == region || e.to == region) shut ≡ false →
    ((e : RegionEdge) → IsTrue (is_live pieces e) → IsTrue (is_live edges (parents n region e))) →
    ((e : RegionEdge) → IsTrue (is_live pieces e) → (e.from < m) × (e.to < m)) → n ≤ m →
    ((r : ℕ) → r < m → slice_index new r ≡ slice_index far (parent n region r)) → length new ≡ m → length way ≡ m →
    AreAtLeast m pieces shut target new way
all_divided edges shut pieces far new way n m region target old h apart live within le copied fars ways =
    let t : target < length far = inside far target (λ z. absurd (omega (arith, z, h.at_target))) in
    record {
      fars = fars;
      ways = ways;
      at_target = copied target (omega (arith, t, h.fars, le)) ∙ ap (slice_index far)
          (parent_old n region target (omega (arith, t, h.fars)))
          ∙ h.at_target;
      bounded = divide_bounded edges shut pieces far new n m region h.bounded apart live within copied;
    }
