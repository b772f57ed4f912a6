-- What a close makes of the slots and the table.
use Rattle.std.proofs.Common.{◌≡◌, ℕ, suc, ◌<◌, ◌≤◌, List, [], ◌∷◌, ◌++◌, length, map, true, cond, Option, Some, None, refl, sym, ap, ◌∙◌, subst, arith}
use Rattle.std.specs.Prelude.{slice_get}
use Rattle.std.specs.Global.{Global}
use Rattle.std.specs.declared.sync.Arc.{Arc}
use Rattle.std.proofs.lemmas.Bool.{eq-eqb, ne_eqb}
use Rattle.std.proofs.lemmas.List.{append_assoc, length-append}
use Rattle.std.proofs.lemmas.Option.{same_Some}
use Rattle.query_tree.specs.Forest.{changed}
use Rattle.query_tree.proofs.Lists.{changed_changed, changed_same, length_changed, to_changed, within}
use Rattle.query_tree.proofs.Tests.{cond_eq}
use Rattle.summary_form.specs.declared.query.Query.{Query}
use Rattle.summary_form.specs.declared.summary.Summary.{Summary}
use Rattle.summary_form.specs.declared.summary.Summary.TheVariants as summary
use Rattle.bolt_core.specs.declared.slot.ClosedAs.{ClosedAs}
use Rattle.bolt_core.specs.declared.slot.ClosedAs.TheVariants as how
use Rattle.bolt_core.specs.declared.slot.Slot.{Slot}
use Rattle.bolt_core.specs.Boards.{node_of}
use Rattle.bolt_core.specs.Groups.{Node, group, publishes}
use Rattle.bolt_core.specs.Origins.{closed_ids}
use Rattle.bolt_core.specs.steps.Closes.{HandsInFor, IsGroupOf, MayBeAdded, Settles, appended_by, done, kept_slot, only_at, settled_slot, shown_slot, summaries_in, told_of, value_of}
use Rattle.bolt_core.proofs.Showing.{lead_first, settled_lead}

-- what is published is appended, so there is room for it
room_before : (ns : List Node) (i l : ℕ) (q : Query) (shut : ClosedAs) (s : Option Summary) (ts : List Summary) (room : ℕ) →
    publishes shut ≡ true → HandsInFor q shut s → length (ts ++ appended_by ns i l q shut s) ≤ room → length ts < room
room_before ns i l q (how.NotMay None) s ts room p h le =
    omega (arith, le, length-append ts (summary.NotMay q ∷ told_of ns (group ns i l)))
room_before ns i l q (how.NotMay (Some j)) s ts room p h le = absurd (cc)
room_before ns i l q how.Must s ts room p h le =
    let m = h.must refl in
    omega (arith, le, length-append ts (summaries_in s), ap (λ o. length (summaries_in o)) m.1)
room_before ns i l q (how.Stuck kind) s ts room p h le = absurd (cc)

-- The numbers of what is published

-- there is room for one, where its summary is published
pub numbers_some : (ns : List Node) (i l : ℕ) (shut : ClosedAs) → publishes shut ≡ true → (is : List ℕ) (room : ℕ) →
    length (is ++ closed_ids ns i l shut) ≤ room → length is < room
numbers_some ns i l (how.NotMay None) p is room le = omega (arith, le, length-append is (i ∷ group ns i l))
numbers_some ns i l (how.NotMay (Some j)) p is room le = absurd (cc)
numbers_some ns i l how.Must p is room le = omega (arith, le, length-append is (i ∷ []))
numbers_some ns i l (how.Stuck kind) p is room le = absurd (cc)

-- the leader's number, and then those of its group
pub numbers_all : (ns : List Node) (i l : ℕ) (shut : ClosedAs) → shut ≡ how.NotMay None → (is js : List ℕ) → js ≡ is ++ i ∷ [] →
    (ks : List ℕ) → ks ≡ js ++ group ns i l → ks ≡ is ++ closed_ids ns i l shut
numbers_all ns i l shut e is js one ks more = more
    ∙ (ap (λ us. us ++ group ns i l) one
    ∙ (append_assoc is (i ∷ []) (group ns i l) ∙ ap (λ c. is ++ closed_ids ns i l c) (sym e)))

pub numbers_more : (ns : List Node) (i l : ℕ) (shut : ClosedAs) → shut ≡ how.NotMay None → (is js : List ℕ) (room : ℕ) →
    js ≡ is ++ i ∷ [] → length (is ++ closed_ids ns i l shut) ≤ room → length (js ++ group ns i l) ≤ room
numbers_more ns i l shut e is js room one le =
    omega (arith, le, ap length (numbers_all ns i l shut e is js one (js ++ group ns i l) refl))

lead_told : (ns : List Node) (i l : ℕ) (q : Query) (s : Option Summary) (ts : List Summary) → s ≡ Some (summary.NotMay q) →
    (ts ++ summaries_in s) ++ told_of ns (group ns i l) ≡ ts ++ appended_by ns i l q (how.NotMay None) s
lead_told ns i l q s ts e = ap (λ o. (ts ++ summaries_in o) ++ told_of ns (group ns i l)) e
    ∙ append_assoc ts (summary.NotMay q ∷ []) (told_of ns (group ns i l))

module _ (base : List Slot) (i l place : ℕ) (g : IsGroupOf base i l place) (shut : ClosedAs) (o : Option (Arc Summary Global))
    (ts : List Summary) (room : ℕ) (s : Settles base i l shut (value_of o) ts room) where
  abbrev pub kept : List Slot
  kept = changed (only_at i (kept_slot shut o)) base

  pub here : (old : List Slot) → old ≡ base → i < length old
  here old is = omega (arith, ap (λ (xs : List Slot). length xs) is, within base i g.own g.at)

  pub here_kept : (old : List Slot) → old ≡ kept → i < length old
  here_kept old is = omega (
    arith,
    ap (λ (xs : List Slot). length xs) is,
    length_changed (only_at i (kept_slot shut o)) 0 base,
    within base i g.own g.at,
  )

  pub kept_at : (old : List Slot) → old ≡ kept → slice_get old i ≡ Some (kept_slot shut o g.own)
  kept_at old is = ap (λ (xs : List Slot). slice_get xs i) is
      ∙ (to_changed (only_at i (kept_slot shut o)) base i g.own g.at
      ∙ ap (λ b. Some (cond b (kept_slot shut o g.own) g.own)) (eq-eqb i i refl))

  pub kept_numbers : (old : List Slot) → old ≡ kept → (y : Slot) → slice_get old i ≡ Some y → MayBeAdded (value_of y.summary)
  kept_numbers old is y at =
      let e : kept_slot shut o g.own ≡ y = same_Some _ _ (sym (kept_at old is) ∙ at) in
      subst (λ (z : Slot). MayBeAdded (value_of z.summary)) e s.numbered

  pub room_first : publishes shut ≡ true → length ts < room
  room_first p = room_before (map node_of base) i l g.own.query.value shut (value_of o) ts room p (s.hands g.own g.at) (s.fits g.own g.at)

  -- A must

  pub must_slots : shut ≡ how.Must → changed (only_at i (shown_slot place)) kept
      ≡ changed (settled_slot (map node_of base) i l shut o place) base
  must_slots e = subst
      (λ (c : ClosedAs). changed (only_at i (shown_slot place)) (changed (only_at i (kept_slot c o)) base)
      ≡ changed (settled_slot (map node_of base) i l c o place) base)
      (sym e)
      (changed_changed (only_at i (kept_slot how.Must o)) (only_at i (shown_slot place)) 0 base
      ∙ changed_same _ _ base (λ j x a. cond_eq
      (λ (y : Slot). only_at i (shown_slot place) j y ≡ settled_slot (map node_of base) i l how.Must o place j x) j i _ _
      (λ d. rw (eq-eqb j i d) refl)
      (λ ne. rw (ne_eqb j i ne) refl)))

  pub must_table : shut ≡ how.Must → (us : List Summary) → us ≡ ts ++ summaries_in (value_of o) →
      (own : Slot) → slice_get base i ≡ Some own →
      us ≡ ts ++ appended_by (map node_of base) i l own.query.value shut (value_of o)
  must_table e us is own a = is
      ∙ ap (λ (c : ClosedAs). ts ++ appended_by (map node_of base) i l own.query.value c (value_of o)) (sym e)

  -- A leader

  pub lead_slots : shut ≡ how.NotMay None → changed (only_at i (shown_slot place)) kept ≡ done base i l (suc l) 0 place
  lead_slots e = subst
      (λ (c : ClosedAs). changed (only_at i (shown_slot place)) (changed (only_at i (kept_slot c o)) base) ≡ done base i l (suc l) 0 place)
      (sym e) (lead_first base i l place g o)

  lead_all : shut ≡ how.NotMay None → (us : List Summary) → us ≡ ts ++ summaries_in (value_of o) →
      (own : Slot) → slice_get base i ≡ Some own →
      us ++ told_of (map node_of base) (group (map node_of base) i l)
      ≡ ts ++ appended_by (map node_of base) i l own.query.value shut (value_of o)
  lead_all e us is own a = ap (λ (vs : List Summary). vs ++ told_of (map node_of base) (group (map node_of base) i l)) is
      ∙ (lead_told (map node_of base) i l own.query.value (value_of o) ts ((s.hands own a).not_may None e)
      ∙ ap (λ (c : ClosedAs). ts ++ appended_by (map node_of base) i l own.query.value c (value_of o)) (sym e))

  pub lead_room : shut ≡ how.NotMay None → (us : List Summary) → us ≡ ts ++ summaries_in (value_of o) →
      length (us ++ told_of (map node_of base) (group (map node_of base) i l)) ≤ room
  lead_room e us is = omega (
    arith,
    s.fits g.own g.at,
    ap (λ (vs : List Summary). length vs) (lead_all e us is g.own g.at),
  )

  pub lead_done : shut ≡ how.NotMay None → (old : List Slot) → old ≡ done base i l (length base) 0 place →
      old ≡ changed (settled_slot (map node_of base) i l shut o place) base
  lead_done e old is = is ∙ (settled_lead base i l place g o
      ∙ ap (λ (c : ClosedAs). changed (settled_slot (map node_of base) i l c o place) base) (sym e))

  pub lead_table : shut ≡ how.NotMay None → (us vs : List Summary) → us ≡ ts ++ summaries_in (value_of o) →
      vs ≡ us ++ told_of (map node_of base) (group (map node_of base) i l) → (own : Slot) → slice_get base i ≡ Some own →
      vs ≡ ts ++ appended_by (map node_of base) i l own.query.value shut (value_of o)
  lead_table e us vs is told own a = told ∙ lead_all e us is own a
