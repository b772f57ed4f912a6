-- Each query of a group holds by itself, once its leader does.
use Rattle.std.proofs.Common.{◌≡◌, ℕ, zero, suc, ◌<◌, ◌≤◌, List, [], ◌∷◌, ◌++◌, length, drop, Bool, true, false, Option, Some, None, refl, sym, ap, subst, ◌⊎◌, inl, inr, ⊎_elim, arith}
use Rattle.std.specs.Prelude.{slice_get, ◌==◌, ◌&&◌, ◌||◌, not}
use Rattle.std.proofs.lemmas.Bool.{and_parts, or_cases, eqb-true, leb-true, cond_both}
use Rattle.query_tree.specs.Forest.{is_place}
use Rattle.summary_form.specs.declared.query.Query.{Query}
use Rattle.bolt_core.specs.declared.slot.ClosedAs.{ClosedAs}
use Rattle.bolt_core.specs.declared.slot.ClosedAs.TheVariants as how
use Rattle.bolt_core.specs.Given.{AllAt, Gives, Always, IsGraded}
use Rattle.bolt_core.specs.Groups.{Node, leans_within, discharged, passes, line, ancestors, joins, is_member_upto, is_member}
use Rattle.bolt_core.specs.Keeps.{AreLevelled, GivenBy, Placed}
use Rattle.bolt_core.specs.Lawful.{GivenFrom}
use Rattle.bolt_core.proofs.Depths.{all_drop_push, all_deeper, all_past, discharge, given_always}
use Rattle.bolt_core.proofs.Lines.{ancestors_short, line_step, ancestors_line}

-- how a query leans
pub record Leans (l : ℕ) (c : Option ClosedAs) : Type 0 where
  pub from : ℕ
  pub is : c ≡ Some (how.NotMay (Some from))
  pub deep : l ≤ from

leans : (l : ℕ) (c : Option ClosedAs) → leans_within l c ≡ true → Leans l c
leans l None h = absurd (cc)
leans l (Some (how.NotMay None)) h = absurd (cc)
leans l (Some (how.NotMay (Some j))) h = record { from = j; is = refl; deep = leb-true l j h }
leans l (Some how.Must) h = absurd (cc)
leans l (Some (how.Stuck kind)) h = absurd (cc)

-- a parent that is the leader, or is in the group
pub record Under (lead : ℕ) (above : ℕ → Bool) (o : Option ℕ) : Type 0 where
  pub parent : ℕ
  pub is : o ≡ Some parent
  pub here : (parent ≡ lead) ⊎ (above parent ≡ true)

under : (lead : ℕ) (above : ℕ → Bool) (o : Option ℕ) → (is_place o lead || passes above o) ≡ true →
    Under lead above o
under lead above None h = absurd (cc)
under lead above (Some p) h = record {
  parent = p;
  is = refl;
  here = ⊎_elim (λ e. inl (sym (eqb-true lead p e))) (λ e. inr e) (or_cases (lead == p) (above p) h);
}

pub not_false : (b : Bool) → not b ≡ true → b ≡ false
not_false true h = absurd (cc)
not_false false h = refl

pub record Joins (ns : List Node) (lead l : ℕ) (above : ℕ → Bool) (i : ℕ) : Type 0 where
  pub node : Node
  pub at : slice_get ns i ≡ Some node
  pub silent : node.published ≡ false
  pub leaning : Leans l node.closed
  pub up : Under lead above node.parent

pub joined : (ns : List Node) (lead l : ℕ) (above : ℕ → Bool) (i : ℕ) (o : Option Node) → slice_get ns i ≡ o →
    joins lead l above o ≡ true → Joins ns lead l above i
joined ns lead l above i None a h = absurd (cc)
joined ns lead l above i (Some x) a h =
    let b = and_parts (not x.published) (leans_within l x.closed && (is_place x.parent lead || passes above x.parent)) h in
    let c = and_parts (leans_within l x.closed) (is_place x.parent lead || passes above x.parent) b.1 in
    record {
      node = x;
      at = a;
      silent = not_false x.published b.0;
      leaning = leans l x.closed c.0;
      up = under lead above x.parent c.1;
    }

pub member_joins : (ns : List Node) (lead l i : ℕ) → is_member ns lead l i ≡ true →
    Joins ns lead l (is_member_upto ns lead l i) i
member_joins ns lead l i h = joined ns lead l (is_member_upto ns lead l i) i (slice_get ns i) refl h

-- a query that isn't closed is in no group
pub open_apart : (ns : List Node) (lead l i : ℕ) (n : Node) → slice_get ns i ≡ Some n → n.closed ≡ None →
    is_member ns lead l i ≡ true → ⊥
open_apart ns lead l i n at open' h =
    let j = member_joins ns lead l i h in
    let e : j.node ≡ n = cc in
    let c : n.closed ≡ Some (how.NotMay (Some j.leaning.from)) = subst (λ (y : Node). y.closed ≡ Some (how.NotMay (Some j.leaning.from))) e
    j.leaning.is in
    absurd (cc)

-- each member stands below its leader
module _ (ns : List Node) (t : AreLevelled ns) (lead : ℕ) (n : Node) (at : slice_get ns lead ≡ Some n) where
  member_upto : (m i : ℕ) (x : Node) → slice_get ns i ≡ Some x → is_member_upto ns lead n.level m i ≡ true → n.level < x.level
  member_upto zero i x a h = absurd (cc)
  member_upto (suc m) i x a h =
      let j = joined ns lead n.level (is_member_upto ns lead n.level m) i (slice_get ns i) refl h in
      let e : j.node ≡ x = cc in
      let up : x.parent ≡ Some j.up.parent = subst (λ (z : Node). z.parent ≡ Some j.up.parent) e j.up.is in
      let above : (z : Node) × (slice_get ns j.up.parent ≡ Some z) × (x.level ≡ suc z.level) =
      let h = subst (λ o. Placed ns i o x.level) up (t.placed i x a) in (h.1, h.2, h.3) in
      ⊎_elim
      (λ k. let same : above.0 ≡ n = cc in omega (arith, above.2, ap (λ (z : Node). z.level) same))
      (λ k. omega (arith, above.2, member_upto m j.up.parent above.0 above.1 k))
      j.up.here

  pub member_below : (i : ℕ) (x : Node) → slice_get ns i ≡ Some x → is_member ns lead n.level i ≡ true → n.level < x.level
  member_below i x a h = member_upto (suc i) i x a h

module _ (nm : ℕ → Query → Type 0) (g : IsGraded nm) (ns : List Node) (t : AreLevelled ns)
    (given : (i : ℕ) (x : Node) → slice_get ns i ≡ Some x → GivenBy nm (ancestors ns i x.parent) x.query x.closed)
    (lead : ℕ) (n : Node) (at : slice_get ns lead ≡ Some n) (holds : Always nm n.query) where
  -- the queries from the leader's level down to a member's hold
  leader_line : (d : ℕ) → AllAt nm d (drop n.level (line ns lead))
  leader_line d = rw (line_step ns t lead n at) (all_drop_push nm d n.level (ancestors ns lead n.parent) n.query
      (all_past nm d n.level (ancestors ns lead n.parent) (ancestors_short ns t lead n at)) (holds.at d))

  member_both : (m i : ℕ) → is_member_upto ns lead n.level m i ≡ true →
      (x : Node) × (slice_get ns i ≡ Some x) × Always nm x.query × ((d : ℕ) → AllAt nm d (drop n.level (line ns i)))
  member_both zero i h = absurd (cc)
  member_both (suc m) i h =
      let j = joined ns lead n.level (is_member_upto ns lead n.level m) i (slice_get ns i) refl h in
      let x : Node = j.node in
      let up : (d : ℕ) → AllAt nm d (drop n.level (line ns j.up.parent)) = λ d. ⊎_elim
      (λ e. subst (λ p. AllAt nm d (drop n.level (line ns p))) (sym e) (leader_line d))
      (λ e. (member_both m j.up.parent e).3 d) j.up.here in
      let is = ancestors_line ns t i x j.up.parent j.at j.up.is in
      let above : (d : ℕ) → AllAt nm d (drop n.level (ancestors ns i x.parent)) =
      λ d. subst (λ qs. AllAt nm d (drop n.level qs)) (sym is) (up d) in
      let gives : Gives nm (drop j.leaning.from (ancestors ns i x.parent)) x.query =
      subst (GivenBy nm (ancestors ns i x.parent) x.query) j.leaning.is (given i x j.at) in
      let always : (d : ℕ) → nm d x.query = given_always nm g (drop j.leaning.from (ancestors ns i x.parent)) x.query gives
      (λ d. all_deeper nm d n.level j.leaning.from (ancestors ns i x.parent) j.leaning.deep (above d)) in (
        x,
        j.at,
        record { at = always },
        λ d. subst (λ qs. AllAt nm d (drop n.level qs)) (sym (line_step ns t i x j.at))
            (all_drop_push nm d n.level (ancestors ns i x.parent) x.query (above d) (always d)),
      )

  -- each query of the group holds by itself
  pub member_holds : (i : ℕ) → is_member ns lead n.level i ≡ true →
      (x : Node) × (slice_get ns i ≡ Some x) × Always nm x.query
  member_holds i h = let b = member_both (suc i) i h in (b.0, b.1, b.2)

-- A leaning on its own level is discharged; a query that then leans on nothing holds by itself.
pub close_given : (nm : ℕ → Query → Type 0) → IsGraded nm → (above : List Query) (q : Query) (level : ℕ) →
    length above ≤ level → (low : Option ℕ) → GivenFrom nm (above ++ q ∷ []) q low →
    GivenBy nm above q (Some (how.NotMay (discharged level low)))
close_given nm g above q level le None h = h
close_given nm g above q level le (Some j) h =
    cond_both (j == level) None (Some j) (λ o. GivenBy nm above q (Some (how.NotMay o)))
    (λ e. record {
      at = given_always nm g (drop j above) q (discharge nm g j above q h)
          (λ d. all_past nm d j above (omega (arith, eqb-true j level e)));
    })
    (λ e. discharge nm g j above q h)
