-- A search for distances, step by step.
use Rattle.std.proofs.Common.{◌≡◌, ◌≢◌, ◌⊎◌, inl, inr, ⊎_elim, ℕ, zero, suc, ◌+◌, ◌<◌, ◌≤◌, ◌==◌, Bool, true, false, ◌&&◌, ◌||◌, replicate, List, [], ◌∷◌, ◌++◌, length, arith, refl, sym, subst, ap, ◌∙◌}
use Rattle.std.specs.Prelude.{IsTrue, slice_index, slice_set}
use borrow.Author.Tests.{eqb-true, eqb-false, eq-eqb}
use Rattle.linear_formula.proofs.Limits.{both, both_in}
use Rattle.may_partition.specs.Parted.{same_edge}
use Rattle.may_partition.proofs.Giving.{live_given}
use Rattle.may_partition.proofs.Kept.{same_is}
use Rattle.std.proofs.Math.ListN.{length-set}
use Rattle.std.proofs.lemmas.Bool.{cases_lt}
use Rattle.std.proofs.lemmas.List.{get_or-set_same, get_or-set_other, get_or_append_left, length-append, length-replicate}
use Rattle.abstract_path.specs.steps.Layers.{unmet}
use Rattle.abstract_path.proofs.Meeting.{unmet-set}
use Rattle.may_partition.specs.declared.region.RegionEdge.{RegionEdge}
use Rattle.may_partition.specs.Shown.{is_live}
use Rattle.punch_step.specs.declared.measure.Search.{Search}
use Rattle.punch_step.specs.steps.Searching.{IsSearching, MeetsMore, Searches, far_in, met_at}
use Rattle.punch_step.specs.steps.Far.{AreMeasured, IsOpenEdge, LeadsNearer, no_edge, way_at}

get_last : (xs : List ℕ) (x k : ℕ) → k ≡ length xs → slice_index (xs ++ x ∷ []) k ≡ x
get_last [] x zero e = refl
get_last [] x (suc k) e = absurd (omega (arith, e))
get_last (y ∷ xs) x zero e = absurd (omega (arith, e))
get_last (y ∷ xs) x (suc k) e = get_last xs x k (omega (arith, e))

get_before : (xs : List ℕ) (x k : ℕ) → k < length xs → slice_index (xs ++ x ∷ []) k ≡ slice_index xs k
get_before xs x k l = get_or_append_left xs (x ∷ []) 0 k l

pub record MetOne (met met2 far far2 : List ℕ) : Type 0 where
  pub longer : length met ≤ length met2
  pub met_same : (k : ℕ) → k < length met → slice_index met2 k ≡ slice_index met k
  pub count : unmet far2 + length met2 ≡ unmet far + length met

module _ (edges shut : List RegionEdge) (n target place : ℕ) (met far : List ℕ) (way : List RegionEdge)
    (h : Searches edges shut n target place met far way) (at : place < length met) where
  -- a region that wasn't met
  module _ (x : RegionEdge) (new : ℕ) (is_open : IsOpenEdge edges shut x) (to : x.to ≡ slice_index met place) (within : x.from < n)
      (unmet_is : slice_index far x.from ≡ 0) (new_is : new ≡ suc (slice_index far x.to)) where
    abbrev far2 : List ℕ
    far2 = slice_set far x.from new

    abbrev met2 : List ℕ
    met2 = met ++ x.from ∷ []

    abbrev way2 : List RegionEdge
    way2 = slice_set way x.from x

    long : length met2 ≡ suc (length met)
    long = omega (arith, length-append met (x.from ∷ []))

    in_far : x.from < length far
    in_far = omega (arith, within, h.fars)

    apart : (r : ℕ) → slice_index far r ≢ 0 → r ≢ x.from
    apart r z s = z (ap (slice_index far) s ∙ unmet_is)

    pub far_stays : (r : ℕ) → slice_index far r ≢ 0 → slice_index far2 r ≡ slice_index far r
    far_stays r z = get_or-set_other far x.from r new 0 (apart r z)

    far_here : slice_index far2 x.from ≡ new
    far_here = get_or-set_same far x.from new 0 in_far

    met_stays : (k : ℕ) → k < length met → slice_index met2 k ≡ slice_index met k
    met_stays k l = get_before met x.from k l

    met_here : (k : ℕ) → k ≡ length met → slice_index met2 k ≡ x.from
    met_here k e = get_last met x.from k e

    far_old : (k : ℕ) → k < length met → slice_index far2 (slice_index met2 k) ≡ slice_index far (slice_index met k)
    far_old k l = ap (slice_index far2) (met_stays k l) ∙ far_stays (slice_index met k) (h.far_met k l)

    far_new : (k : ℕ) → k ≡ length met → slice_index far2 (slice_index met2 k) ≡ new
    far_new k e = ap (slice_index far2) (met_here k e) ∙ far_here

    to_far : slice_index far x.to ≡ slice_index far (slice_index met place)
    to_far = ap (slice_index far) to

    to_known : slice_index far x.to ≢ 0
    to_known z = h.far_met place at (sym to_far ∙ z)

    cases : (k : ℕ) → k < length met2 → (k < length met) ⊎ (k ≡ length met)
    cases k l = ⊎_elim inl (λ past. inr (omega (arith, past, l, long))) (cases_lt k (length met))

    leads_old : (r : ℕ) → slice_index far r ≢ 0 → LeadsNearer edges shut far r (way_at way r) → r ≢ x.from →
        LeadsNearer edges shut far2 r (way_at way2 r)
    leads_old r z l s =
        let w : way_at way2 r ≡ way_at way r = get_or-set_other way x.from r x no_edge s in
        subst (LeadsNearer edges shut far2 r) (sym w) (record {
          is_open = l.is_open;
          from = l.from;
          known = λ y. l.known (sym (far_stays (way_at way r).to l.known) ∙ y);
          nearer = omega (arith, l.nearer, far_stays r z, far_stays (way_at way r).to l.known);
        })

    leads_here : (r : ℕ) → r ≡ x.from → LeadsNearer edges shut far2 r (way_at way2 r)
    leads_here r s =
        let w : way_at way2 r ≡ x = ap (way_at way2) s ∙ get_or-set_same way x.from x no_edge (omega (arith, within, h.ways)) in
        subst (LeadsNearer edges shut far2 r) (sym w) (record {
          is_open = is_open;
          from = sym s;
          known = λ y. to_known (sym (far_stays x.to to_known) ∙ y);
          nearer = omega (arith, far_stays x.to to_known, ap (slice_index far2) s, far_here, new_is);
        })

    pub one_met : Searches edges shut n target place met2 far2 way2
    one_met = record {
      fars = length-set far x.from new ∙ h.fars;
      ways = length-set way x.from x ∙ h.ways;
      at_target = far_stays target (λ z. absurd (omega (arith, z, h.at_target))) ∙ h.at_target;
      known = λ r z. known_by r z (r == x.from) refl;
      within = λ k l. ⊎_elim (λ b. subst (λ y. y < n) (sym (met_stays k b)) (h.within k b))
          (λ e. subst (λ y. y < n) (sym (met_here k e)) within) (cases k l);
      far_met = λ k l z. ⊎_elim (λ b. h.far_met k b (sym (far_old k b) ∙ z)) (λ e. absurd (omega (arith, far_new k e, z, new_is)))
          (cases k l);
      low = λ k l. ⊎_elim (λ b. omega (arith, far_old k b, h.low k b))
          (λ e. omega (arith, far_new k e, new_is, to_far, h.low place at, at, e)) (cases k l);
      rising = λ j k le l. rises j k le (cases k l);
      near = λ k l p. ⊎_elim (λ b. omega (arith, far_old k b, far_old place at, h.near k b at))
          (λ e. omega (arith, far_new k e, far_old place at, new_is, to_far)) (cases k l);
      settled = λ k l e o t. settles k l e o t;
      lead = λ r apart_target z. lead_by r apart_target z (r == x.from) refl;
    } where
      known_by : (r : ℕ) → slice_index far2 r ≢ 0 → (b : Bool) → (r == x.from) ≡ b → (k : ℕ) × (k < length met2) × (slice_index met2 k ≡ r)
      known_by r z true s = (length met, omega (arith, long), met_here (length met) refl ∙ sym (eqb-true r x.from s))
      known_by r z false s =
          let old = get_or-set_other far x.from r new 0 (eqb-false r x.from s) in
          let w = h.known r (λ y. z (old ∙ y)) in
          (w.0, omega (arith, w.1, long), met_stays w.0 w.1 ∙ w.2)

      rises : (j k : ℕ) → j ≤ k → (k < length met) ⊎ (k ≡ length met) →
          slice_index far2 (slice_index met2 j) ≤ slice_index far2 (slice_index met2 k)
      rises j k le (inl b) = omega (arith, far_old j (omega (arith, le, b)), far_old k b, h.rising j k le b)
      rises j k le (inr e) = by (cases_lt j (length met)) where
        by : (j < length met) ⊎ (length met ≤ j) → slice_index far2 (slice_index met2 j) ≤ slice_index far2 (slice_index met2 k)
        by (inl b) = omega (arith, far_old j b, far_new k e, h.near j b at, new_is, to_far)
        by (inr past) = omega (arith, far_new j (omega (arith, past, le, e)), far_new k e)

      settles : (k : ℕ) → k < place → (e : RegionEdge) → IsOpenEdge edges shut e → e.to ≡ slice_index met2 k →
          (slice_index far2 e.from ≢ 0) × (slice_index far2 e.from ≤ suc (slice_index far2 (slice_index met2 k)))
      settles k l e o t =
          let b : k < length met = omega (arith, l, at) in
          let w = h.settled k l e o (t ∙ met_stays k b) in
          let same = far_stays e.from w.0 in
          (λ z. w.0 (sym same ∙ z), omega (arith, same, w.1, far_old k b))

      lead_by : (r : ℕ) → r ≢ target → slice_index far2 r ≢ 0 → (b : Bool) → (r == x.from) ≡ b → LeadsNearer edges shut far2 r
          (way_at way2 r)
      lead_by r t z true s = leads_here r (eqb-true r x.from s)
      lead_by r t z false s =
          let apart_from = eqb-false r x.from s in
          let old = get_or-set_other far x.from r new 0 apart_from in
          let some : slice_index far r ≢ 0 = λ y. z (old ∙ y) in
          leads_old r some (h.lead r t some) apart_from

    pub unmet_less : unmet far2 + length met2 ≡ unmet far + length met
    unmet_less =
        let u : suc (unmet (slice_set far x.from (suc (slice_index far x.to)))) ≡ unmet far = unmet-set far x.from (slice_index far x.to)
        in_far
        unmet_is in
        let v : unmet far2 ≡ unmet (slice_set far x.from (suc (slice_index far x.to))) = ap (λ y. unmet (slice_set far x.from y)) new_is in
        omega (arith, u, v, long)

    pub met_one : MetOne met met2 far far2
    met_one = record { longer = omega (arith, long); met_same = met_stays; count = unmet_less }

    pub now_known : slice_index far2 x.from ≢ 0
    now_known z = absurd (omega (arith, far_here, z, new_is))

  -- all open edges into the region come from regions that were met
  pub place_settled : ((e : RegionEdge) → IsOpenEdge edges shut e → e.to ≡ slice_index met place → slice_index far e.from ≢ 0) →
      Searches edges shut n target (suc place) met far way
  place_settled all = record {
    fars = h.fars;
    ways = h.ways;
    at_target = h.at_target;
    known = h.known;
    within = h.within;
    far_met = h.far_met;
    low = h.low;
    rising = h.rising;
    near = λ k l p. omega (arith, h.near k l at, h.rising place (suc place) (omega arith) p);
    settled = λ k l e o t. by k e o t (cases_lt k place) l;
    lead = h.lead;
  } where
    here : (e : RegionEdge) → IsOpenEdge edges shut e → e.to ≡ slice_index met place →
        (slice_index far e.from ≢ 0) × (slice_index far e.from ≤ suc (slice_index far (slice_index met place)))
    here e o t =
        let z = all e o t in
        let w = h.known e.from z in
        (z, subst (λ y. slice_index far y ≤ suc (slice_index far (slice_index met place))) w.2 (h.near w.0 w.1 at))

    by : (k : ℕ) (e : RegionEdge) → IsOpenEdge edges shut e → e.to ≡ slice_index met k → (k < place) ⊎ (place ≤ k) → k < suc place →
        (slice_index far e.from ≢ 0) × (slice_index far e.from ≤ suc (slice_index far (slice_index met k)))
    by k e o t (inl b) l = h.settled k b e o t
    by k e o t (inr past) l =
        let same : k ≡ place = omega (arith, past, l) in
        subst (λ y. (slice_index far e.from ≢ 0) × (slice_index far e.from ≤ suc (slice_index far (slice_index met y)))) (sym same)
        (here e o (t ∙ ap (slice_index met) same))

pub to_within : (n place : ℕ) (met far : List ℕ) (to : ℕ) → to ≡ slice_index met place → length far ≡ n → slice_index met place < n →
    to < length far
to_within n place met far to h l w = omega (arith, h, l, w)

-- all regions that were met are settled
pub all_settled : (edges shut : List RegionEdge) (n target place : ℕ) (met far : List ℕ) (way : List RegionEdge) →
    Searches edges shut n target place met far way → length met ≤ place → AreMeasured n edges shut target far way
all_settled edges shut n target place met far way h past = record {
  least = record {
    fars = h.fars;
    ways = h.ways;
    at_target = h.at_target;
    bounded = λ e o z.
        let w = h.known e.to z in
        let s = h.settled w.0 (omega (arith, w.1, past)) e o (sym w.2) in
        (s.0, subst (λ y. slice_index far e.from ≤ suc (slice_index far y)) w.2 s.1);
  };
  lead = h.lead;
}

-- at the target
pub begin_search : (edges shut : List RegionEdge) (n target : ℕ) (far : List ℕ) (way : List RegionEdge) → target < n →
    far ≡ slice_set (replicate n 0) target 1 → length way ≡ n → Searches edges shut n target 0 (target ∷ []) far way
begin_search edges shut n target far way l f w = record {
  fars = ap length f ∙ length-set (replicate n 0) target 1 ∙ length-replicate {A = ℕ} n 0;
  ways = w;
  at_target = one;
  known = λ r z. (0, omega arith, sym (only r z));
  within = within_at;
  far_met = met_at;
  low = low_at;
  rising = rising_at;
  near = λ k lt p. near_at k lt;
  settled = λ k lt. absurd (omega (arith, lt));
  lead = λ r t z. absurd (t (only r z));
} where
  one : slice_index far target ≡ 1
  one = ap (λ xs. slice_index xs target) f ∙ get_or-set_same (replicate n 0) target 1 0 (omega (arith, l, length-replicate {A = ℕ} n 0))

  none_at : (m r : ℕ) → slice_index (replicate m 0) r ≡ 0
  none_at zero zero = refl
  none_at zero (suc r) = refl
  none_at (suc m) zero = refl
  none_at (suc m) (suc r) = none_at m r

  only : (r : ℕ) → slice_index far r ≢ 0 → r ≡ target
  only r z = by (r == target) refl where
    by : (b : Bool) → (r == target) ≡ b → r ≡ target
    by true s = eqb-true r target s
    by false s = absurd (z (ap (λ xs. slice_index xs r) f ∙ get_or-set_other (replicate n 0) target r 1 0 (eqb-false r target s)
        ∙ none_at n r))

  within_at : (k : ℕ) → k < length (target ∷ []) → slice_index (target ∷ []) k < n
  within_at zero lt = l
  within_at (suc k) lt = absurd (omega (arith, lt))

  met_at : (k : ℕ) → k < length (target ∷ []) → slice_index far (slice_index (target ∷ []) k) ≢ 0
  met_at zero lt z = absurd (omega (arith, z, one))
  met_at (suc k) lt z = absurd (omega (arith, lt))

  low_at : (k : ℕ) → k < length (target ∷ []) → slice_index far (slice_index (target ∷ []) k) ≤ suc k
  low_at zero lt = omega (arith, one)
  low_at (suc k) lt = absurd (omega (arith, lt))

  rising_at : (j k : ℕ) → j ≤ k → k < length (target ∷ []) →
      slice_index far (slice_index (target ∷ []) j) ≤ slice_index far (slice_index (target ∷ []) k)
  rising_at zero zero le lt = omega arith
  rising_at (suc j) zero le lt = absurd (omega (arith, le))
  rising_at zero (suc k) le lt = absurd (omega (arith, lt))
  rising_at (suc j) (suc k) le lt = absurd (omega (arith, lt))

  near_at : (k : ℕ) → k < length (target ∷ []) →
      slice_index far (slice_index (target ∷ []) k) ≤ suc (slice_index far (slice_index (target ∷ []) 0))
  near_at zero lt = omega arith
  near_at (suc k) lt = absurd (omega (arith, lt))

-- The search's own words

-- what the edges into a region are
pub item_into : (all edges : List RegionEdge) (region : ℕ) (e : RegionEdge) → ((y : RegionEdge) → is_live all y ≡ (is_live edges y && (y.to
    == region))) → IsTrue (is_live all e) → IsTrue (is_live edges e) × (e.to ≡ region)
item_into all edges region e h l =
    let r = both (is_live edges e) (e.to == region) (subst IsTrue (h e) l) in
    (r.0, eqb-true e.to region r.1)

pub more_trans : (a b c : Search) → MeetsMore a b → MeetsMore b c → MeetsMore a c
more_trans a b c h k = record {
  partition = k.partition ∙ h.partition;
  shut = k.shut ∙ h.shut;
  far = λ r z. k.far r (λ y. z (sym (h.far r z) ∙ y)) ∙ h.far r z;
  longer = omega (arith, h.longer, k.longer);
  met = λ n l. k.met n (omega (arith, l, h.longer)) ∙ h.met n l;
  count = k.count ∙ h.count;
}

-- the edges that were passed come from regions that were met
pub one_passed : (xs shut : List RegionEdge) (x : RegionEdge) (old new : Search) → MeetsMore old new →
    ((e : RegionEdge) → IsTrue (is_live xs e) → is_live shut e ≡ false → far_in old e.from ≢ 0) →
    (is_live shut x ≡ false → far_in new x.from ≢ 0) → (e : RegionEdge) → IsTrue (is_live (xs ++ x ∷ []) e) → is_live shut e ≡ false →
    far_in new e.from ≢ 0
one_passed xs shut x old new more h here e t o =
    ⊎_elim (λ k z. h e k o (sym (more.far e.from (h e k o)) ∙ z))
    (λ s. subst (λ y. is_live shut y ≡ false → far_in new y.from ≢ 0) (same_is x e s) here o)
    (or_parts (is_live xs e) (same_edge x e) (subst IsTrue (live_given xs x e) t))
  where
    or_parts : (t u : Bool) → IsTrue (t || u) → IsTrue t ⊎ IsTrue u
    or_parts true u h = inl refl
    or_parts false u h = inr h

pub settle_place : (s : Search) (target place : ℕ) → IsSearching target place s → place < length s.met.items → (items : List RegionEdge)
    (region : ℕ) → region ≡ met_at s place → ((e : RegionEdge) → is_live items e ≡ (is_live s.partition.now.edges e && (e.to == region))) →
    ((e : RegionEdge) → IsTrue (is_live items e) → is_live s.shut.now e ≡ false → far_in s e.from ≢ 0) → IsSearching target (suc place) s
settle_place s target place h at items region is all passed =
    place_settled s.partition.now.edges s.shut.now (length s.partition.now.regions) target place s.met.items s.reach.far.items
    s.reach.way.items h at
    (λ e o t. passed e (subst IsTrue (sym (all e)) (both_in (is_live s.partition.now.edges e) (e.to == region) o.0
    (eq-eqb e.to region (t ∙ sym is)))) o.1)
