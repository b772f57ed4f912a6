-- A group is published level by level, and at each level in order of number.
use Rattle.std.proofs.Common.{◌≡◌, ℕ, zero, suc, ◌+◌, ◌-◌, ◌<◌, ◌≤◌, List, [], ◌∷◌, ◌++◌, length, map, Bool, true, false, cond, Option, Some, None, refl, sym, ap, ◌∙◌, subst, ⊎_elim, arith, append-nil}
use Rattle.std.specs.Prelude.{slice_get, ◌==◌, ◌&&◌, ◌||◌, not, filter, flat_map, nat_lt}
use Rattle.std.specs.Option.{option_map}
use Rattle.std.specs.Global.{Global}
use Rattle.std.specs.declared.sync.Arc.{Arc}
use Rattle.std.proofs.lemmas.Bool.{and_parts, and_right, cases_Bool, cond_both, eq-eqb, eqb-true, ne_eqb, false_from_ne_true, ltb-true, ltb-false, lt-ltb, le-ltb, or_cases, eqb-false}
use Rattle.std.proofs.lemmas.List.{length-map, map-append, length-append, append_assoc}
use Rattle.std.proofs.lemmas.Option.{same_Some, slice_get-map}
use Rattle.query_tree.specs.Forest.{changed, is_none, is_place}
use Rattle.shadow_elim.proofs.Tests.{both_true}
use Rattle.query_tree.proofs.Lists.{changed_changed, changed_same, from_changed, length_changed, present, to_changed, within}
use Rattle.query_tree.proofs.Tests.{cond_eq, one_at}
use Rattle.summary_form.specs.declared.summary.Summary.{Summary}
use Rattle.summary_form.specs.declared.summary.Summary.TheVariants as summary
use Rattle.summary_table.specs.Tables.{IsNumbered, exit_of, proc_of}
use Rattle.bolt_core.specs.declared.slot.ClosedAs.TheVariants as how
use Rattle.bolt_core.specs.declared.slot.Slot.{Slot}
use Rattle.bolt_core.specs.Boards.{node_of}
use Rattle.bolt_core.specs.Groups.{Node, is_member, is_member_upto, joins, leans_within, level_in, passes, places_from, queries_at, query_in}
use Rattle.bolt_core.specs.Keeps.{AreLevelled, Placed}
use Rattle.bolt_core.specs.steps.Closes.{IsGroupOf, MayBeAdded, done, done_slot, is_below, is_done, is_shown, joins_now, kept_slot, lead_slot, members_on, on_level, only_at, settled_slot, shown_slot, summaries_in, told_of, value_of}
use Rattle.bolt_core.proofs.Groups.{joined, member_below, member_joins}
use Rattle.bolt_core.proofs.Lines.{level_within}

-- Tests

and_when : (a b c : Bool) → (a ≡ true → b ≡ c) → (a && b) ≡ (a && c)
and_when true b c h = h refl
and_when false b c h = refl

not_not : (b : Bool) → not (not b) ≡ b
not_not true = refl
not_not false = refl

lt_more : (j k : ℕ) → (j ≡ k → ⊥) → nat_lt j k ≡ nat_lt j (suc k)
lt_more j k ne = ⊎_elim
    (λ t. t ∙ sym (lt-ltb j (suc k) (omega (arith, ltb-true j k t))))
    (λ f. f ∙ sym (le-ltb j (suc k) (let le : k ≤ j = ltb-false j k f in omega (arith, le, ne))))
    (cases_Bool (nat_lt j k))

apart_step : (m e lt x y : Bool) → (e && m) ≡ false → (m && (lt || (e && x))) ≡ (m && (lt || (e && y)))
apart_step false e lt x y h = refl
apart_step true false lt x y h = refl
apart_step true true lt x y h = absurd (cc)

pub none_is : {X : Type 0} (o : Option X) → not (is_none o) ≡ false → o ≡ None
none_is None h = refl
none_is (Some x) h = absurd (cc)

and_keep : (m x : Bool) → (m ≡ true → x ≡ true) → (m && x) ≡ m
and_keep true x h = h refl
and_keep false x h = refl

over_bits : (a e x b f y : Bool) → x ≡ true → y ≡ false → (a ≡ true → b ≡ true) → (a ≡ false → e ≡ true → b ≡ true) →
    (a ≡ false → e ≡ false → b ≡ false) → (a || (e && x)) ≡ (b || (f && y))
over_bits true e x b f y hx hy p q r = ap (λ c. c || (f && y)) (sym (p refl))
over_bits false true x b f y hx hy p q r = hx ∙ ap (λ c. c || (f && y)) (sym (q refl refl))
over_bits false false x b f y hx hy p q r =
    sym (and_right f y hy) ∙ ap (λ c. c || (f && y)) (sym (r refl refl))

-- Members

module _ (ns : List Node) (t : AreLevelled ns) (lead l : ℕ) where
  same_passes : (f h : ℕ → Bool) (i : ℕ) (o : Option ℕ) (level : ℕ) → Placed ns i o level → ((p : ℕ) → p < i → f p ≡ h p) →
      passes f o ≡ passes h o
  same_passes f h i None level d same = refl
  same_passes f h i (Some p) level d same = same p d.0

  same_joins : (f h : ℕ → Bool) (i : ℕ) (o : Option Node) → slice_get ns i ≡ o → ((p : ℕ) → p < i → f p ≡ h p) →
      joins lead l f o ≡ joins lead l h o
  same_joins f h i None a same = refl
  same_joins f h i (Some x) a same = ap (λ b. not x.published && (leans_within l x.closed && (is_place x.parent lead || b)))
      (same_passes f h i x.parent x.level (t.placed i x a) same)

  -- more steps than places change nothing
  same_upto : (m n i : ℕ) → i < m → i < n → is_member_upto ns lead l m i ≡ is_member_upto ns lead l n i
  same_upto zero n i lt lt2 = absurd (omega (arith, lt))
  same_upto (suc m) zero i lt lt2 = absurd (omega (arith, lt2))
  same_upto (suc m) (suc n) i lt lt2 = same_joins (is_member_upto ns lead l m) (is_member_upto ns lead l n) i (slice_get ns i) refl
      (λ p less. same_upto m n p (omega (arith, less, lt)) (omega (arith, less, lt2)))

  pub member_at : (m p : ℕ) → p < m → is_member_upto ns lead l m p ≡ is_member ns lead l p
  member_at m p lt = same_upto m (suc p) p lt (omega arith)

  after_upto : (m i : ℕ) → is_member_upto ns lead l m i ≡ true → lead < i
  after_upto zero i h = absurd (cc)
  after_upto (suc m) i h =
      let j = joined ns lead l (is_member_upto ns lead l m) i (slice_get ns i) refl h in
      let d : Placed ns i (Some j.up.parent) j.node.level = subst (λ o. Placed ns i o j.node.level) j.up.is (t.placed i j.node j.at) in
      ⊎_elim (λ e. omega (arith, e, d.0)) (λ e. omega (arith, d.0, after_upto m j.up.parent e)) j.up.here

  -- a member stands after its leader
  pub member_after : (i : ℕ) → is_member ns lead l i ≡ true → lead < i
  member_after i h = after_upto (suc i) i h

-- Lists of places

pub filter_step : (p : ℕ → Bool) (k n : ℕ) → k < n → filter p (places_from k (n - k))
    ≡ cond (p k) (k ∷ filter p (places_from (suc k) (n - suc k))) (filter p (places_from (suc k) (n - suc k)))
filter_step p k n lt = let e : n - k ≡ suc (n - suc k) = omega (arith, lt) in rw e refl

pub filter_done : (p : ℕ → Bool) (k n : ℕ) → n ≤ k → filter p (places_from k (n - k)) ≡ []
filter_done p k n le = let e : n - k ≡ 0 = omega (arith, le) in rw e refl

pub levels_step : (f : ℕ → List ℕ) (k n : ℕ) → k < n →
    flat_map f (places_from k (n - k)) ≡ f k ++ flat_map f (places_from (suc k) (n - suc k))
levels_step f k n lt = let e : n - k ≡ suc (n - suc k) = omega (arith, lt) in rw e refl

filter_none : (p : ℕ → Bool) → ((i : ℕ) → p i ≡ true → ⊥) → (is : List ℕ) → filter p is ≡ []
filter_none p no' [] = refl
filter_none p no' (i ∷ is) = cond_both (p i) (i ∷ filter p is) (filter p is) (λ xs. xs ≡ [])
    (λ e. absurd (no' i e)) (λ _. filter_none p no' is)

filter_has : (p : ℕ → Bool) (k n i : ℕ) → k ≤ i → i < k + n → p i ≡ true → filter p (places_from k n) ≡ [] → ⊥
filter_has p k zero i le lt t = absurd (omega (arith, le, lt))
filter_has p k (suc n) i le lt t =
    cond_both (p k) (k ∷ filter p (places_from (suc k) n)) (filter p (places_from (suc k) n)) (λ xs. xs ≡ [] → ⊥)
    (λ _ e. absurd (cc))
    (λ f e.
    let ne : i ≡ k → ⊥ = λ d. let z : true ≡ false = sym t ∙ (ap p d ∙ f) in absurd (cc) in
    filter_has p (suc k) n i (omega (arith, le, ne)) (omega (arith, lt)) t e)

levels_none : (f : ℕ → List ℕ) (a : ℕ) → ((k : ℕ) → a ≤ k → f k ≡ []) → (m k : ℕ) → a ≤ k → flat_map f (places_from k m) ≡ []
levels_none f a none zero k le = refl
levels_none f a none (suc m) k le =
    let e : f k ≡ [] = none k le in
    rw e (levels_none f a none m (suc k) (omega (arith, le)))

-- What is reported

queries_append : (ns : List Node) (is js : List ℕ) → queries_at ns (is ++ js) ≡ queries_at ns is ++ queries_at ns js
queries_append ns [] js = refl
queries_append ns (i ∷ is) js =
    ap (λ qs. query_in (slice_get ns i) ++ qs) (queries_append ns is js)
    ∙ sym (append_assoc (query_in (slice_get ns i)) (queries_at ns is) (queries_at ns js))

pub told_append : (ns : List Node) (is js : List ℕ) → told_of ns (is ++ js) ≡ told_of ns is ++ told_of ns js
told_append ns is js = ap (map summary.NotMay) (queries_append ns is js)
    ∙ map-append summary.NotMay (queries_at ns is) (queries_at ns js)

told_one : (ns : List Node) (i : ℕ) (x : Node) (is : List ℕ) → slice_get ns i ≡ Some x →
    told_of ns (i ∷ is) ≡ summary.NotMay x.query ∷ told_of ns is
told_one ns i x is a = ap (λ o. map summary.NotMay (query_in o ++ queries_at ns is)) a

-- The walk

module _ (base : List Slot) (lead l place : ℕ) (g : IsGroupOf base lead l place) where
  abbrev pub ns : List Node
  ns = map node_of base

  pub node_at : (i : ℕ) (s : Slot) → slice_get base i ≡ Some s → slice_get ns i ≡ Some (node_of s)
  node_at i s a = slice_get-map node_of base i ∙ ap (option_map node_of) a

  nodes_length : length ns ≡ length base
  nodes_length = length-map base node_of

  slot_at : (i : ℕ) (x : Node) → slice_get ns i ≡ Some x → (s : Slot) × (slice_get base i ≡ Some s) × (node_of s ≡ x)
  slot_at i x a =
      let p = present base i (omega (arith, within ns i x a, nodes_length)) in
      (p.0, p.1, let b : slice_get ns i ≡ Some (node_of p.0) = node_at i p.0 p.1 in cc)

  pub lead_node : slice_get ns lead ≡ Some (node_of g.own)
  lead_node = node_at lead g.own g.at

  -- a member's level is below the leader's
  member_deep : (i : ℕ) (x : Node) → slice_get ns i ≡ Some x → is_member ns lead l i ≡ true → l < x.level
  member_deep i x a m =
      let d : is_member ns lead g.own.level i ≡ true = ap (λ n. is_member ns lead n i) g.level ∙ m in
      let lt : g.own.level < x.level = member_below ns g.levelled lead (node_of g.own) lead_node i x a d in
      omega (arith, lt, g.level)

  parent_shown : (at k : ℕ) (s : Slot) → slice_get base k ≡ Some s → s.level ≡ at → (o : Option ℕ) → Placed ns k o s.level →
      is_below (done base lead l at k place) place o ≡ (is_place o lead || passes (is_member_upto ns lead l k) o)
  parent_shown at k s a deep None d = refl
  parent_shown at k s a deep (Some p) d =
      let u = slot_at p d.1 d.2 in
      let v : Slot = u.0 in
      let now : slice_get (done base lead l at k place) p ≡ Some (done_slot ns lead l at k place p v) =
      to_changed (done_slot ns lead l at k place) base p v u.1 in
      let up : is_member_upto ns lead l k p ≡ is_member ns lead l p = member_at ns g.levelled lead l k p d.0 in
      let level : v.level < at = let e : v.level ≡ d.1.level = ap (λ (x : Node). x.level) u.2 in omega (arith, e, d.3, deep) in
      ap (is_shown place) now
      ∙ cond_eq (λ (y : Slot). is_place y.published place ≡ ((lead == p) || is_member_upto ns lead l k p)) p lead _ _
      (λ e. eq-eqb place place refl ∙ sym (ap (λ b. b || is_member_upto ns lead l k p) (eq-eqb lead p (sym e))))
      (λ ne. cond_both (is_done ns lead l at k p v) (shown_slot place v) v
      (λ (y : Slot). is_place y.published place ≡ ((lead == p) || is_member_upto ns lead l k p))
      (λ e. eq-eqb place place refl
      ∙ sym (rw (ne_eqb lead p (λ f. ne (sym f)), up) (and_parts (is_member ns lead l p) _ e).0))
      (λ e. g.fresh p v u.1
      ∙ sym (rw (ne_eqb lead p (λ f. ne (sym f)), up) (false_from_ne_true (is_member ns lead l p) (λ m.
      let z : is_done ns lead l at k p v ≡ true = rw (m, lt-ltb v.level at level) refl in
      let y : true ≡ false = sym z ∙ e in absurd (cc))))))

  shown_not : (at k : ℕ) (s : Slot) → is_done ns lead l at k k s ≡ true → ((s.level == at) && is_member ns lead l k) ≡ false
  shown_not at k s e = false_from_ne_true ((s.level == at) && is_member ns lead l k) (λ h.
      let d : s.level ≡ at = eqb-true s.level at (and_parts (s.level == at) (is_member ns lead l k) h).0 in
      let o = and_parts (is_member ns lead l k) (nat_lt s.level at || ((s.level == at) && nat_lt k k)) e in
      ⊎_elim
      (λ b. let lt : s.level < at = ltb-true s.level at b in absurd (omega (arith, lt, d)))
      (λ b. let lt : k < k = ltb-true k k (and_parts (s.level == at) (nat_lt k k) b).1 in absurd (omega (arith, lt)))
      (or_cases (nat_lt s.level at) ((s.level == at) && nat_lt k k) o.1))

  wanted_plain : (at k : ℕ) (s : Slot) → slice_get base k ≡ Some s →
      joins_now (done base lead l at k place) l at place s ≡ on_level ns lead l at k
  wanted_plain at k s a =
      let level : level_in (slice_get ns k) ≡ s.level = ap level_in (node_at k s a) in
      let own : is_member ns lead l k ≡ joins lead l (is_member_upto ns lead l k) (Some (node_of s)) =
      ap (joins lead l (is_member_upto ns lead l k)) (node_at k s a) in
      and_when (s.level == at) _ (is_member ns lead l k) (λ e.
      let q = parent_shown at k s a (eqb-true s.level at e) s.parent (g.levelled.placed k (node_of s) (node_at k s a)) in
      ap (λ b. is_none s.published && (leans_within l s.closed && b)) q
      ∙ (ap (λ b. b && (leans_within l s.closed && (is_place s.parent lead || passes (is_member_upto ns lead l k) s.parent)))
      (sym (not_not (is_none s.published))) ∙ sym own))
      ∙ ap (λ n. (n == at) && is_member ns lead l k) (sym level)

  -- the code's test is that of the group
  pub wanted : (at k : ℕ) (s : Slot) → slice_get base k ≡ Some s →
      joins_now (done base lead l at k place) l at place (done_slot ns lead l at k place k s) ≡ on_level ns lead l at k
  wanted at k s a =
      let level : level_in (slice_get ns k) ≡ s.level = ap level_in (node_at k s a) in
      cond_eq (λ (y : Slot). joins_now (done base lead l at k place) l at place y ≡ on_level ns lead l at k) k lead _ _
      (λ e. and_right (s.level == at) false refl
      ∙ sym (and_right (level_in (slice_get ns k) == at) (is_member ns lead l k)
      (false_from_ne_true (is_member ns lead l k) (λ m. absurd (omega (arith, member_after ns g.levelled lead l k m, e))))))
      (λ ne. cond_both (is_done ns lead l at k k s) (shown_slot place s) s
      (λ (y : Slot). joins_now (done base lead l at k place) l at place y ≡ on_level ns lead l at k)
      (λ e. and_right (s.level == at) false refl
      ∙ sym (ap (λ n. (n == at) && is_member ns lead l k) level ∙ shown_not at k s e))
      (λ e. wanted_plain at k s a))

  -- Steps of the walk

  level_here : (at k : ℕ) (s : Slot) → slice_get base k ≡ Some s → on_level ns lead l at k ≡ ((s.level == at) && is_member ns lead l k)
  level_here at k s a = ap (λ o. (level_in o == at) && is_member ns lead l k) (node_at k s a)

  later : (at k j : ℕ) (s : Slot) → (j ≡ k → ⊥) → done_slot ns lead l at k place j s ≡ done_slot ns lead l at (suc k) place j s
  later at k j s ne = ap
      (λ b. cond (j == lead) (lead_slot place s)
      (cond (is_member ns lead l j && (nat_lt s.level at || ((s.level == at) && b))) (shown_slot place s) s)) (lt_more j k ne)

  pub step_yes : (at k : ℕ) → on_level ns lead l at k ≡ true →
      changed (only_at k (shown_slot place)) (done base lead l at k place) ≡ done base lead l at (suc k) place
  step_yes at k on = changed_changed (done_slot ns lead l at k place) (only_at k (shown_slot place)) 0 base
      ∙ changed_same _ (done_slot ns lead l at (suc k) place) base (λ j s a. cond_eq
      (λ (y : Slot). y ≡ done_slot ns lead l at (suc k) place j s) j k _ _
      (λ d.
      let h = and_parts (s.level == at) (is_member ns lead l k)
      (sym (level_here at k s (subst (λ i. slice_get base i ≡ Some s) d a)) ∙ on) in
      let lt : lead < k = member_after ns g.levelled lead l k h.1 in
      let m : is_member ns lead l j ≡ true = ap (is_member ns lead l) d ∙ h.1 in
      let yes' : is_done ns lead l at (suc k) j s ≡ true =
      rw (m, h.0, lt-ltb j (suc k) (omega (arith, d))) (or_true (nat_lt s.level at)) in
      rw (ne_eqb j lead (λ e. omega (arith, e, d, lt)), yes') (shown_twice (is_done ns lead l at k j s) s))
      (λ ne. later at k j s ne))
    where
      shown_twice : (b : Bool) (s : Slot) → shown_slot place (cond b (shown_slot place s) s) ≡ shown_slot place s
      shown_twice true s = refl
      shown_twice false s = refl

      or_true : (b : Bool) → (b || true) ≡ true
      or_true true = refl
      or_true false = refl

  pub step_no : (at k : ℕ) → on_level ns lead l at k ≡ false → done base lead l at k place ≡ done base lead l at (suc k) place
  step_no at k off = changed_same _ _ base (λ j s a. ⊎_elim
      (λ e.
      let d : j ≡ k = eqb-true j k e in
      let h : ((s.level == at) && is_member ns lead l j) ≡ false =
      subst (λ i. ((s.level == at) && is_member ns lead l i) ≡ false) (sym d)
      (sym (level_here at k s (subst (λ i. slice_get base i ≡ Some s) d a)) ∙ off) in
      ap (λ b. cond (j == lead) (lead_slot place s) (cond b (shown_slot place s) s))
      (apart_step (is_member ns lead l j) (s.level == at) (nat_lt s.level at) (nat_lt j k) (nat_lt j (suc k)) h))
      (λ e. later at k j s (eqb-false j k e))
      (cases_Bool (j == k)))

  off_before : (at k : ℕ) → k ≤ lead → on_level ns lead l at k ≡ false
  off_before at k le = false_from_ne_true (on_level ns lead l at k) (λ h.
      omega (arith, le, member_after ns g.levelled lead l k (and_parts (level_in (slice_get ns k) == at) (is_member ns lead l k) h).1))

  pub start_slots : (at k : ℕ) → k ≤ suc lead → done base lead l at 0 place ≡ done base lead l at k place
  start_slots at zero le = refl
  start_slots at (suc k) le = start_slots at k (omega (arith, le)) ∙ step_no at k (off_before at k (omega (arith, le)))

  pub start_list : (at k : ℕ) → k ≤ suc lead →
      filter (on_level ns lead l at) (places_from k (length ns - k)) ≡ members_on ns lead l at
  start_list at zero le = let e : length ns - 0 ≡ length ns = omega arith in rw e refl
  start_list at (suc k) le =
      let lt : k < length ns = omega (arith, le, within ns lead (node_of g.own) lead_node) in
      let off : on_level ns lead l at k ≡ false = off_before at k (omega (arith, le)) in
      let s = filter_step (on_level ns lead l at) k (length ns) lt in
      sym (s ∙ ap (λ b. cond b (k ∷ filter (on_level ns lead l at) (places_from (suc k) (length ns - suc k)))
      (filter (on_level ns lead l at) (places_from (suc k) (length ns - suc k)))) off)
      ∙ start_list at k (omega (arith, le))

  level_over : (at j n v : ℕ) → j < n → (nat_lt v at || ((v == at) && nat_lt j n)) ≡ (nat_lt v (suc at) || ((v == suc at) && nat_lt j 0))
  level_over at j n v lt = over_bits (nat_lt v at) (v == at) (nat_lt j n) (nat_lt v (suc at)) (v == suc at) (nat_lt j 0)
      (lt-ltb j n lt)
      (le-ltb j 0 (omega arith))
      (λ t. lt-ltb v (suc at) (let u : v < at = ltb-true v at t in omega (arith, u)))
      (λ f e. lt-ltb v (suc at) (omega (arith, eqb-true v at e)))
      (λ f e. le-ltb v (suc at) (let le : at ≤ v = ltb-false v at f in let ne : v ≡ at → ⊥ = eqb-false v at e in omega (arith, le, ne)))

  pub level_end : (at k : ℕ) → length base ≤ k → done base lead l at k place ≡ done base lead l (suc at) 0 place
  level_end at k le = changed_same _ _ base (λ j s a. ap
      (λ b. cond (j == lead) (lead_slot place s) (cond (is_member ns lead l j && b) (shown_slot place s) s))
      (level_over at j k s.level (omega (arith, within base j s a, le))))

  -- The end of the walk

  abbrev pub AllBelow : ℕ → Type 0
  AllBelow at = (i : ℕ) (x : Node) → slice_get ns i ≡ Some x → is_member ns lead l i ≡ true → x.level < at

  pub all_levels : AllBelow (length base)
  all_levels i x a m = omega (arith, level_within ns g.levelled i x a, within ns i x a, nodes_length)

  none_higher : (at : ℕ) → l < at → members_on ns lead l at ≡ [] → (d i : ℕ) (x : Node) → slice_get ns i ≡ Some x →
      is_member ns lead l i ≡ true → x.level ≡ at + d → ⊥
  none_higher at deep none zero i x a m e =
      let on : on_level ns lead l at i ≡ true =
      both_true (level_in (slice_get ns i) == at) (is_member ns lead l i)
      (eq-eqb (level_in (slice_get ns i)) at (ap level_in a ∙ omega (arith, e))) m in
      filter_has (on_level ns lead l at) 0 (length ns) i (omega arith) (omega (arith, within ns i x a)) on none
  none_higher at deep none (suc d) i x a m e =
      let j = joined ns lead l (is_member_upto ns lead l i) i (slice_get ns i) refl m in
      let same : j.node ≡ x = cc in
      let up : x.parent ≡ Some j.up.parent = subst (λ (z : Node). z.parent ≡ Some j.up.parent) same j.up.is in
      let p : Placed ns i (Some j.up.parent) x.level = subst (λ o. Placed ns i o x.level) up (g.levelled.placed i x a) in
      ⊎_elim
      (λ k.
      let z : p.1 ≡ node_of g.own = one_at ns lead j.up.parent (node_of g.own) p.1 lead_node p.2 k in
      omega (arith, e, deep, p.3, ap (λ (y : Node). y.level) z, g.level))
      (λ k. none_higher at deep none d j.up.parent p.1 p.2
      (sym (member_at ns g.levelled lead l i j.up.parent p.0) ∙ k) (omega (arith, e, p.3)))
      j.up.here

  pub below_empty : (at : ℕ) → l < at → members_on ns lead l at ≡ [] → AllBelow at
  below_empty at deep none i x a m = ⊎_elim
      (λ t. ltb-true x.level at t)
      (λ f.
      let le : at ≤ x.level = ltb-false x.level at f in
      absurd (none_higher at deep none (x.level - at) i x a m (omega (arith, le))))
      (cases_Bool (nat_lt x.level at))

  none_on : (at : ℕ) → AllBelow at → (k : ℕ) → at ≤ k → members_on ns lead l k ≡ []
  none_on at b k le = filter_none (on_level ns lead l k) (λ i h.
      let q = and_parts (level_in (slice_get ns i) == k) (is_member ns lead l i) h in
      let j = member_joins ns lead l i q.1 in
      omega (arith, le, b i j.node j.at q.1, eqb-true (level_in (slice_get ns i)) k q.0, ap level_in j.at)) (places_from 0 (length ns))

  pub rest_none : (at : ℕ) → AllBelow at → (m k : ℕ) → at ≤ k → flat_map (members_on ns lead l) (places_from k m) ≡ []
  rest_none at b = levels_none (members_on ns lead l) at (none_on at b)

  done_at : (at j : ℕ) (s : Slot) → slice_get base j ≡ Some s → AllBelow at → is_done ns lead l at 0 j s ≡ is_member ns lead l j
  done_at at j s a b = and_keep (is_member ns lead l j) (nat_lt s.level at || ((s.level == at) && nat_lt j 0)) (λ m.
      let lt : s.level < at = b j (node_of s) (node_at j s a) m in
      ap (λ c. c || ((s.level == at) && nat_lt j 0)) (lt-ltb s.level at lt))

  pub walk_end : (at : ℕ) → AllBelow at → done base lead l at 0 place ≡ done base lead l (length base) 0 place
  walk_end at b = changed_same _ _ base (λ j s a. ap
      (λ c. cond (j == lead) (lead_slot place s) (cond c (shown_slot place s) s))
      (done_at at j s a b ∙ sym (done_at (length base) j s a all_levels)))

  -- what the close of the leader makes of all slots
  pub settled_lead : (summary : Option (Arc Summary Global)) →
      done base lead l (length base) 0 place ≡ changed (settled_slot ns lead l (how.NotMay None) summary place) base
  settled_lead o = changed_same _ _ base (λ j s a. ap
      (λ c. cond (j == lead) (lead_slot place s) (cond c (shown_slot place s) s))
      (done_at (length base) j s a all_levels))

  not_yet : (j : ℕ) (s : Slot) → slice_get base j ≡ Some s → is_done ns lead l (suc l) 0 j s ≡ false
  not_yet j s a = ⊎_elim
      (λ m.
      let lt : l < s.level = member_deep j (node_of s) (node_at j s a) m in
      rw (m, le-ltb s.level (suc l) (omega (arith, lt)), le-ltb j 0 (omega arith)) (and_right (s.level == suc l) false refl))
      (λ m. rw m refl)
      (cases_Bool (is_member ns lead l j))

  -- the leader is kept and shown first
  pub lead_first : (summary : Option (Arc Summary Global)) →
      changed (only_at lead (shown_slot place)) (changed (only_at lead (kept_slot (how.NotMay None) summary)) base)
      ≡ done base lead l (suc l) 0 place
  lead_first o = changed_changed (only_at lead (kept_slot (how.NotMay None) o)) (only_at lead (shown_slot place)) 0 base
      ∙ changed_same _ (done_slot ns lead l (suc l) 0 place) base (λ j s a. cond_eq
      (λ (y : Slot). only_at lead (shown_slot place) j y ≡ done_slot ns lead l (suc l) 0 place j s) j lead _ _
      (λ e. rw (eq-eqb j lead e) refl)
      (λ ne. rw (ne_eqb j lead ne, not_yet j s a) refl))

  -- What each call finds

  pub done_length : (at k : ℕ) → length (done base lead l at k place) ≡ length base
  done_length at k = length_changed (done_slot ns lead l at k place) 0 base

  same_parent : (at k j : ℕ) (s : Slot) → (done_slot ns lead l at k place j s).parent ≡ s.parent
  same_parent at k j s = cond_both (j == lead) _ _ (λ (y : Slot). y.parent ≡ s.parent) (λ _. refl)
      (λ _. cond_both (is_done ns lead l at k j s) _ _ (λ (y : Slot). y.parent ≡ s.parent) (λ _. refl) (λ _. refl))

  pub parents_in : (at k j : ℕ) (y : Slot) (p : ℕ) → slice_get (done base lead l at k place) j ≡ Some y → y.parent ≡ Some p →
      p < length (done base lead l at k place)
  parents_in at k j y p a up =
      let r = from_changed (done_slot ns lead l at k place) base j y a in
      let o : r.0.parent ≡ Some p = sym (same_parent at k j r.0) ∙ (ap (λ (z : Slot). z.parent) (sym r.2) ∙ up) in
      let d : Placed ns j (Some p) r.0.level =
      subst (λ q. Placed ns j q r.0.level) o (g.levelled.placed j (node_of r.0) (node_at j r.0 r.1)) in
      omega (arith, d.0, within base j r.0 r.1, done_length at k)

  plain : (at k : ℕ) (s : Slot) → slice_get base k ≡ Some s → on_level ns lead l at k ≡ true → done_slot ns lead l at k place k s ≡ s
  plain at k s a on =
      let h : ((s.level == at) && is_member ns lead l k) ≡ true = sym (level_here at k s a) ∙ on in
      let lt : lead < k = member_after ns g.levelled lead l k (and_parts (s.level == at) (is_member ns lead l k) h).1 in
      let off : is_done ns lead l at k k s ≡ false = false_from_ne_true (is_done ns lead l at k k s) (λ e.
      let z : true ≡ false = sym h ∙ shown_not at k s e in absurd (cc)) in
      rw (ne_eqb k lead (λ e. omega (arith, e, lt)), off) refl

  its_summary : (k : ℕ) (s : Slot) → slice_get base k ≡ Some s → is_member ns lead l k ≡ true →
      value_of s.summary ≡ Some (summary.NotMay s.query.value)
  its_summary k s a m =
      let j = member_joins ns lead l k m in
      let same : j.node ≡ node_of s = (let b : slice_get ns k ≡ Some (node_of s) = node_at k s a in let e = j.at in cc) in
      let shut : s.closed ≡ Some (how.NotMay (Some j.leaning.from)) =
      subst (λ (x : Node). x.closed ≡ Some (how.NotMay (Some j.leaning.from))) same j.leaning.is in
      g.handed k s a (Some j.leaning.from) shut
      (none_is s.published (subst (λ (x : Node). x.published ≡ false) same j.silent))

  -- the slot at k, and what showing it tells
  pub record IsNext (at k : ℕ) (y : Slot) : Type 0 where
    pub test : joins_now (done base lead l at k place) l at place y ≡ on_level ns lead l at k
    pub tells : on_level ns lead l at k ≡ true → told_of ns (filter (on_level ns lead l at) (places_from k (length ns - k)))
        ≡ summaries_in (value_of y.summary)
        ++ told_of ns (filter (on_level ns lead l at) (places_from (suc k) (length ns - suc k)))
    pub numbers : on_level ns lead l at k ≡ true → MayBeAdded (value_of y.summary)
    pub some : on_level ns lead l at k ≡ true →
        1 ≤ length (told_of ns (filter (on_level ns lead l at) (places_from k (length ns - k))))
    pub goes : on_level ns lead l at k ≡ false → filter (on_level ns lead l at) (places_from k (length ns - k))
        ≡ filter (on_level ns lead l at) (places_from (suc k) (length ns - suc k))

  pub next : (at k : ℕ) (y : Slot) → slice_get (done base lead l at k place) k ≡ Some y → IsNext at k y
  next at k y a =
      let r = from_changed (done_slot ns lead l at k place) base k y a in
      let s : Slot = r.0 in
      let p : ℕ → Bool = on_level ns lead l at in
      let rest : List ℕ = filter p (places_from (suc k) (length ns - suc k)) in
      let lt : k < length ns = within ns k (node_of s) (node_at k s r.1) in
      let step = filter_step p k (length ns) lt in
      let told : p k ≡ true → told_of ns (filter p (places_from k (length ns - k))) ≡ summary.NotMay s.query.value ∷ told_of ns rest =
      λ on. ap (told_of ns) (step ∙ ap (λ b. cond b (k ∷ rest) rest) on) ∙ told_one ns k (node_of s) rest (node_at k s r.1) in
      record {
        test = subst (λ (z : Slot). joins_now (done base lead l at k place) l at place z ≡ p k) (sym r.2) (wanted at k s r.1);
        tells = λ on.
            let e : y ≡ s = r.2 ∙ plain at k s r.1 on in
            let m = (and_parts (level_in (slice_get ns k) == at) (is_member ns lead l k) on).1 in
            told on ∙ sym (ap (λ o. summaries_in o ++ told_of ns rest)
            (ap (λ (z : Slot). value_of z.summary) e ∙ its_summary k s r.1 m));
        numbers = λ on x is.
            let e : y ≡ s = r.2 ∙ plain at k s r.1 on in
            let m = (and_parts (level_in (slice_get ns k) == at) (is_member ns lead l k) on).1 in
            let same : summary.NotMay s.query.value ≡ x =
            same_Some _ _ (sym (ap (λ (z : Slot). value_of z.summary) e ∙ its_summary k s r.1 m) ∙ is) in
            subst (λ (z : Summary). IsNumbered (proc_of z) (exit_of z)) same (g.numbered k s r.1);
        some = λ on. omega (arith, ap (λ (ts : List Summary). length ts) (told on));
        goes = λ off. step ∙ ap (λ b. cond b (k ∷ rest) rest) off;
      }

  abbrev pub left_on : (at k : ℕ) → List ℕ
  left_on at k = filter (on_level ns lead l at) (places_from k (length ns - k))

  -- the same in the slots of the code
  pub next_in : (at k : ℕ) (slots : List Slot) → slots ≡ done base lead l at k place → k < length slots →
      (y : Slot) × (slice_get slots k ≡ Some y) × (joins_now slots l at place y ≡ on_level ns lead l at k) × IsNext at k y
  next_in at k slots is lt = subst
      (λ (xs : List Slot). k < length xs → (y : Slot) × (slice_get xs k ≡ Some y)
      × (joins_now xs l at place y ≡ on_level ns lead l at k) × IsNext at k y)
      (sym is)
      (λ h. let y = present (done base lead l at k place) k h in let n = next at k y.0 y.1 in (y.0, y.1, n.test, n))
      lt

  pub walk_yes : (at k m : ℕ) → m ≡ suc k → (y : Slot) → IsNext at k y → on_level ns lead l at k ≡ true → (old new : List Slot) →
      old ≡ done base lead l at k place → new ≡ changed (only_at k (shown_slot place)) old → (ts us all : List Summary) →
      ts ++ told_of ns (left_on at k) ≡ all → us ≡ ts ++ summaries_in (value_of y.summary) →
      (new ≡ done base lead l at m place) × (us ++ told_of ns (left_on at m) ≡ all)
  walk_yes at k m e y n on old new is shown ts us all told added = subst
      (λ j. (new ≡ done base lead l at j place) × (us ++ told_of ns (left_on at j) ≡ all))
      (sym e) (
        shown ∙ (ap (changed (only_at k (shown_slot place))) is ∙ step_yes at k on),
        ap (λ vs. vs ++ told_of ns (left_on at (suc k))) added
            ∙ (append_assoc ts (summaries_in (value_of y.summary)) (told_of ns (left_on at (suc k)))
            ∙ (ap (λ vs. ts ++ vs) (sym (n.tells on)) ∙ told)),
      )

  pub walk_no : (at k m : ℕ) → m ≡ suc k → (y : Slot) → IsNext at k y → on_level ns lead l at k ≡ false → (old : List Slot) →
      old ≡ done base lead l at k place →
      (old ≡ done base lead l at m place) × (left_on at m ≡ left_on at k)
  walk_no at k m e y n off old is = subst
      (λ j. (old ≡ done base lead l at j place) × (left_on at j ≡ left_on at k))
      (sym e)
      (is ∙ step_no at k off, sym (n.goes off))

  -- the numbers that are left, where the one at k is taken
  pub left_yes : (at k m : ℕ) → m ≡ suc k → k < length base → on_level ns lead l at k ≡ true → (is js all : List ℕ) →
      is ++ left_on at k ≡ all → js ≡ is ++ k ∷ [] → js ++ left_on at m ≡ all
  left_yes at k m e lt on is js all told added = subst (λ j. js ++ left_on at j ≡ all) (sym e)
      (ap (λ us. us ++ left_on at (suc k)) added
      ∙ (append_assoc is (k ∷ []) (left_on at (suc k))
      ∙ (ap (λ us. is ++ us) (sym (filter_step (on_level ns lead l at) k (length ns) (omega (arith, lt, nodes_length))
      ∙ ap (λ b. cond b (k ∷ left_on at (suc k)) (left_on at (suc k))) on)) ∙ told)))

  pub left_some : (at k : ℕ) → k < length base → on_level ns lead l at k ≡ true → 1 ≤ length (left_on at k)
  left_some at k lt on =
      let e = filter_step (on_level ns lead l at) k (length ns) (omega (arith, lt, nodes_length))
      ∙ ap (λ b. cond b (k ∷ left_on at (suc k)) (left_on at (suc k))) on in
      omega (arith, ap (λ (us : List ℕ). length us) e)

  pub level_over_all : (at k : ℕ) → length base ≤ k → done base lead l at k place ≡ done base lead l at (length base) place
  level_over_all at k le = level_end at k le ∙ sym (level_end at (length base) (omega arith))

  pub left_none : (at k : ℕ) → length base ≤ k → left_on at k ≡ []
  left_none at k le = filter_done (on_level ns lead l at) k (length ns) (omega (arith, le, nodes_length))

  -- Level by level

  pub lead_level : suc l ≤ length base
  lead_level = omega (arith, level_within ns g.levelled lead (node_of g.own) lead_node, g.level, within base lead g.own g.at)

  abbrev pub levels_from : (at : ℕ) → List ℕ
  levels_from at = flat_map (members_on ns lead l) (places_from at ((suc l + length ns) - at))

  pub level_first : (at : ℕ) → at < length base → (ts : List Summary) →
      ts ++ told_of ns (levels_from at) ≡ (ts ++ told_of ns (members_on ns lead l at)) ++ told_of ns (levels_from (suc at))
  level_first at lt ts =
      ap (λ is. ts ++ told_of ns is) (levels_step (members_on ns lead l) at (suc l + length ns) (omega (arith, lt, nodes_length)))
      ∙ (ap (λ vs. ts ++ vs) (told_append ns (members_on ns lead l at) (levels_from (suc at)))
      ∙ sym (append_assoc ts (told_of ns (members_on ns lead l at)) (told_of ns (levels_from (suc at)))))

  pub level_room : (at : ℕ) → at < length base → (ts all : List Summary) (room : ℕ) → ts ++ told_of ns (levels_from at) ≡ all →
      length all ≤ room → length (ts ++ told_of ns (members_on ns lead l at)) ≤ room
  level_room at lt ts all room e le = omega (
    arith,
    le,
    ap (λ (vs : List Summary). length vs) (sym (level_first at lt ts) ∙ e),
    length-append (ts ++ told_of ns (members_on ns lead l at)) (told_of ns (levels_from (suc at))),
  )

  pub level_next : (at m : ℕ) → m ≡ suc at → at < length base → (old : List Slot) → old ≡ done base lead l at (length base) place →
      (ts us all : List Summary) → ts ++ told_of ns (levels_from at) ≡ all → us ≡ ts ++ told_of ns (members_on ns lead l at) →
      (old ≡ done base lead l m 0 place) × (us ++ told_of ns (levels_from m) ≡ all)
  level_next at m e lt old is ts us all told added = subst
      (λ j. (old ≡ done base lead l j 0 place) × (us ++ told_of ns (levels_from j) ≡ all))
      (sym e) (
        is ∙ level_end at (length base) (omega arith),
        ap (λ vs. vs ++ told_of ns (levels_from (suc at))) added ∙ (sym (level_first at lt ts) ∙ told),
      )

  numbers_first : (at : ℕ) → at < length base → (is : List ℕ) →
      is ++ levels_from at ≡ (is ++ members_on ns lead l at) ++ levels_from (suc at)
  numbers_first at lt is =
      ap (λ js. is ++ js) (levels_step (members_on ns lead l) at (suc l + length ns) (omega (arith, lt, nodes_length)))
      ∙ sym (append_assoc is (members_on ns lead l at) (levels_from (suc at)))

  pub numbers_room : (at : ℕ) → at < length base → (is all : List ℕ) (room : ℕ) → is ++ levels_from at ≡ all → length all ≤ room →
      length (is ++ members_on ns lead l at) ≤ room
  numbers_room at lt is all room e le = omega (
    arith,
    le,
    ap (λ (js : List ℕ). length js) (sym (numbers_first at lt is) ∙ e),
    length-append (is ++ members_on ns lead l at) (levels_from (suc at)),
  )

  pub numbers_next : (at m : ℕ) → m ≡ suc at → at < length base → (is js all : List ℕ) → is ++ levels_from at ≡ all →
      js ≡ is ++ members_on ns lead l at → js ++ levels_from m ≡ all
  numbers_next at m e lt is js all told added = subst (λ k. js ++ levels_from k ≡ all) (sym e)
      (ap (λ us. us ++ levels_from (suc at)) added ∙ (sym (numbers_first at lt is) ∙ told))

  pub numbers_over : (at : ℕ) → AllBelow at → (is all : List ℕ) → is ++ levels_from at ≡ all → is ≡ all
  numbers_over at b is all told =
      sym (ap (λ js. is ++ js) (rest_none at b ((suc l + length ns) - at) at (omega arith)) ∙ append-nil is) ∙ told

  pub levels_over : (at : ℕ) → AllBelow at → (old : List Slot) → old ≡ done base lead l at 0 place → (ts all : List Summary) →
      ts ++ told_of ns (levels_from at) ≡ all → (old ≡ done base lead l (length base) 0 place) × (ts ≡ all)
  levels_over at b old is ts all told = (
    is ∙ walk_end at b,
    sym (ap (λ js. ts ++ told_of ns js) (rest_none at b ((suc l + length ns) - at) at (omega arith)) ∙ append-nil ts) ∙ told,
  )

  pub all_over : (at : ℕ) → length base ≤ at → AllBelow at
  all_over at le i x a m = omega (arith, le, all_levels i x a m)

  -- a level without members is the last
  pub last_level : (at m : ℕ) → m ≡ suc at → l < at → members_on ns lead l at ≡ [] → AllBelow m
  last_level at m e deep none i x a y = omega (arith, e, below_empty at deep none i x a y)

pub room_for : {X : Type 0} (ts rest all : List X) (room : ℕ) → ts ++ rest ≡ all → length all ≤ room → 1 ≤ length rest → length ts < room
room_for ts rest all room e le some = omega (arith, length-append ts rest, ap length e, le, some)
