use Rattle.std.proofs.Common.{Err, ◌≡◌, ◌<◌, ◌≤◌, ◌+◌, Bool, true, List, length, get_or, take, arith, sym, ap, subst, ◌∙◌}
use Rattle.std.specs.Prelude.{IsTrue, All, nat_lt}
use Rattle.std.specs.List.{sum_by}
use Rattle.std.proofs.lemmas.Bool.{and_parts}
use Rattle.std.proofs.lemmas.Result.{err_from_is_err_and}
use Rattle.std.proofs.lemmas.List.Elements.{All-nil, All-more}
use Rattle.linear_formula.specs.LinearSum.{is_within}
use Rattle.shadow_elim.specs.declared.row.Row.{Row}
use Rattle.shadow_elim.specs.Elimination.{pair_sum}
use Rattle.shadow_elim.specs.steps.Making.{made_of_all}
use Rattle.shadow_elim.specs.declared.pairing.Candidate.{Candidate}
use Rattle.shadow_elim.specs.steps.Lists.{staying, AreAdded}
use Rattle.shadow_elim.specs.steps.Marks.{IsSmall, AreMarked}
use Rattle.shadow_elim.proofs.Assembling.{was_wide}
use Rattle.shadow_elim.proofs.Needless.{marked-where}
use Rattle.shadow_elim.proofs.TooMany.{many-first}
use Rattle.shadow_elim.proofs.Weaker.{within-upper, upper-skipped}
use Rattle.shadow_elim.proofs.Holding.{added-none, added-upper, added-all}
use Rattle.shadow_elim.proofs.column.add_pairs.Goals as goal
use Rattle.shadow_elim.proofs.column.add_pairs.Goals.{then-not-is_skipped+in_ok-add_pairs_of, else-not-is_skipped}

pub loop-place-init : goal.loop-place-init
loop-place-init c = record {
  within = All-nil (λ (u : Row). All (λ (r : Row). IsTrue (is_within (pair_sum c.args.column (u.term, r.term)))) c.args.lowers.now);
  added = added-none c.args.others.now c.args.lists.now.items;
}

pub add_pairs_of-requires-clause-lists : goal.add_pairs_of-requires-clause-lists
add_pairs_of-requires-clause-lists c = omega (arith, c.loop-place.invariant.added.count, c.requires.lists)

pub add_pairs_of-requires-clause-marks : goal.add_pairs_of-requires-clause-marks
add_pairs_of-requires-clause-marks c =
    let x = c.args.column in
    let u = c.index-uppers-place.result in
    let h : c.loop-place.place < length c.args.uppers.now = omega arith in
    subst (λ (ms : List Bool). AreMarked (IsSmall x u.term × All (λ (l : Row). IsSmall x l.term) c.args.lowers.now) c.args.lowers.now ms)
    (sym c.deref.ensures.value) (marked-where (c.are_both_small-are_small.result ≡ true) (IsSmall x u.term
    × All (λ (l : Row). IsSmall x l.term) c.args.lowers.now) c.args.lowers.now c.in_ok-marks.marks.items (λ e.
    let both = c.are_both_small-are_small.ensures e in (
      subst (λ (r : Row). IsSmall x r.term) (sym c.index-uppers-place.is) (both.0 c.loop-place.place u h),
      both.1,
    )) c.in_ok-marks.ensures)

pub loop-place-preserved : goal.loop-place-preserved
loop-place-preserved c =
    let x = c.args.column in
    let us = c.args.uppers.now in
    let ls = c.args.lowers.now in
    let i = c.loop-place.place in
    let h : i < length us = omega arith in
    let u = c.index-uppers-place.result in
    elim c.if-not-is_skipped.branch [
      | then-not-is_skipped+in_ok-add_pairs_of w ↦ record {
        within = All-more (λ (v : Row). All (λ (r : Row). IsTrue (is_within (pair_sum x (v.term, r.term)))) ls) us i u h
            c.loop-place.invariant.within (subst (λ (v : Row). All (λ (r : Row). IsTrue (is_within (pair_sum x (v.term, r.term)))) ls)
            c.index-uppers-place.is w.in_ok-add_pairs_of.ensures.within);
        added = subst (λ (ks : List (List Candidate)). AreAdded c.args.others.now (made_of_all x (take (i + 1) us) ls)
            c.args.lists.now.items ks) (ap (λ v. v.items) (sym w.lists-is)) (added-upper c.args.others.now x us ls i u
            c.args.lists.now.items c.loop-place.lists.items w.add_pairs_of.new.lists.items h c.index-uppers-place.is
            c.loop-place.invariant.added w.in_ok-add_pairs_of.ensures.added);
      }
      | else-not-is_skipped w ↦
          let k = c.is_skipped.ensures u w.if-not-is_skipped.false in
          let both = c.are_both_small-are_small.ensures k.0 in
          record {
            within = All-more (λ (v : Row). All (λ (r : Row). IsTrue (is_within (pair_sum x (v.term, r.term)))) ls) us i u h
                c.loop-place.invariant.within (within-upper x (get_or us i u).term (take i us) ls (c.requires.uppers i u h)
                c.requires.lowers
                (both.0 i u h) both.1 k.1 c.loop-place.invariant.within);
            added = subst (λ (ks : List (List Candidate)). AreAdded c.args.others.now (made_of_all x (take (i + 1) us) ls)
                c.args.lists.now.items ks) (ap (λ v. v.items) (sym w.lists-is)) (upper-skipped c.args.others.now x us ls i u
                c.args.lists.now.items c.loop-place.lists.items h k.1 c.loop-place.invariant.added);
          }
    ]

pub returns-clause-added : goal.returns-clause-added
returns-clause-added c =
    let h : length c.args.uppers.now ≤ c.loop-place.place = omega arith in
    added-all (λ (rs : List Row). made_of_all c.args.column rs c.args.lowers.now) c.args.others.now c.args.uppers.now
    c.loop-place.place c.args.lists.now.items c.loop-place.lists.items h c.loop-place.invariant.added

pub returns-in_err-add_pairs_of-clause-wide : goal.returns-in_err-add_pairs_of-clause-wide
returns-in_err-add_pairs_of-clause-wide c = λ w none.
    let p = err_from_is_err_and c.from_residual-in_err-add_pairs_of.result c.from_residual-in_err-add_pairs_of.ensures.1 in
    let e = was_wide c.from_residual-in_err-add_pairs_of.result p.0 c.in_err-add_pairs_of.field-0.0 p.1 p.2 w in
    let h : c.loop-place.place < length c.args.uppers.now = omega arith in
    c.in_err-add_pairs_of.ensures.wide (ap Err e) (subst (λ (v : Row). All (λ (r : Row). IsTrue (is_within (pair_sum c.args.column (
      v.term,
      r.term,
    )))) c.args.lowers.now) (sym c.index-uppers-place.is) (none c.loop-place.place c.index-uppers-place.result h))

pub returns-then-is_seen_beyond-clause-rows : goal.returns-then-is_seen_beyond-clause-rows
returns-then-is_seen_beyond-clause-rows c = λ _.
    let x = c.args.column in
    let us = c.args.uppers.now in
    let ls = c.args.lowers.now in
    let i = c.loop-place.place in
    let h : i < length us = omega arith in
    let u = c.index-uppers-place.result in
    let now = c.if-not-is_skipped.lists.items in
    let all : AreAdded c.args.others.now (made_of_all x (take (i + 1) us) ls) c.args.lists.now.items now =
    elim c.if-not-is_skipped.branch [
      | then-not-is_skipped+in_ok-add_pairs_of w ↦ subst (λ (ks : List (List Candidate)). AreAdded c.args.others.now (made_of_all x
          (take (i + 1) us) ls) c.args.lists.now.items ks) (ap (λ v. v.items) (sym w.lists-is)) (added-upper c.args.others.now x us ls i
          u c.args.lists.now.items c.loop-place.lists.items w.add_pairs_of.new.lists.items h c.index-uppers-place.is
          c.loop-place.invariant.added w.in_ok-add_pairs_of.ensures.added)
      | else-not-is_skipped w ↦ subst (λ (ks : List (List Candidate)). AreAdded c.args.others.now (made_of_all x (take (i + 1) us) ls)
          c.args.lists.now.items ks) (ap (λ v. v.items) (sym w.lists-is)) (upper-skipped c.args.others.now x us ls i u
          c.args.lists.now.items c.loop-place.lists.items h (c.is_skipped.ensures u w.if-not-is_skipped.false).1
          c.loop-place.invariant.added)
    ] in
    many-first c.args.others.now x (i + 1) us ls c.args.lists.now.items now all (subst (λ (ks : List (List Candidate)).
    nat_lt 4096 (sum_by staying ks) ≡ true) c.deref-then-do_fit.ensures.value (and_parts _ _ (sym c.is_seen_beyond.ensures.seen
    ∙ c.if-is_seen_beyond.true)).1)
