use Rattle.std.proofs.Common.{◌<◌, ◌≤◌, ◌+◌, List, length, map, get_or, take, arith, sym, ap, subst}
use Rattle.std.specs.Prelude.{IsTrue}
use Rattle.std.proofs.lemmas.List.Elements.{All-nil, All-more}
use Rattle.linear_formula.specs.LinearSum.{is_within}
use Rattle.shadow_elim.specs.declared.row.Row.{Row}
use Rattle.shadow_elim.specs.Elimination.{pair_sum}
use Rattle.shadow_elim.specs.steps.Making.{made}
use Rattle.shadow_elim.specs.declared.pairing.Candidate.{Candidate}
use Rattle.shadow_elim.specs.steps.Lists.{AreAdded}
use Rattle.shadow_elim.proofs.Weaker.{within-lower, pair-skipped}
use Rattle.shadow_elim.proofs.Holding.{added-none, added-pair, added-all}
use Rattle.shadow_elim.proofs.column.add_pairs_of.Goals as goal
use Rattle.shadow_elim.proofs.column.add_pairs_of.Goals.{then-not-marks-place+in_ok-row+in_ok-add_row, else-not-marks-place}

pub loop-place-init : goal.loop-place-init
loop-place-init c = record {
  within = All-nil (λ (r : Row). IsTrue (is_within (pair_sum c.args.column (c.args.upper.now.term, r.term))));
  added = added-none c.args.others.now c.args.lists.now.items;
}

pub add_row-requires : goal.add_row-requires
add_row-requires c = omega (arith, c.loop-place.invariant.added.count, c.requires.lists)

pub loop-place-preserved : goal.loop-place-preserved
loop-place-preserved c =
    let x = c.args.column in
    let u = c.args.upper.now in
    let ls = c.args.lowers.now in
    let i = c.loop-place.place in
    let h : i < length ls = omega arith in
    let l = c.index-lowers-place.result in
    elim c.if-not-marks-place.branch [
      | then-not-marks-place+in_ok-row+in_ok-add_row w ↦ record {
        within = All-more (λ (r : Row). IsTrue (is_within (pair_sum x (u.term, r.term)))) ls i l h c.loop-place.invariant.within
            (subst (λ (r : Row). IsTrue (is_within (pair_sum x (u.term, r.term)))) c.index-lowers-place.is w.in_ok-row.ensures.within);
        added = subst (λ (ks : List (List Candidate)). AreAdded c.args.others.now (map (made x u) (take (i + 1) ls)) c.args.lists.now.items
            ks) (ap (λ v. v.items) (sym w.lists-is)) (added-pair c.args.others.now x u ls i l c.args.lists.now.items
            c.loop-place.lists.items w.add_row.new.lists.items w.in_ok-row.row h c.index-lowers-place.is w.in_ok-row.ensures.made
            c.loop-place.invariant.added w.in_ok-add_row.ensures);
      }
      | else-not-marks-place w ↦
          let m = c.requires.marks.needless i l h (w.if-not-marks-place.false) in
          record {
            within = All-more (λ (r : Row). IsTrue (is_within (pair_sum x (u.term, r.term)))) ls i l h c.loop-place.invariant.within
                (within-lower x u.term (get_or ls i l).term (take i ls) c.requires.upper (c.requires.lowers i l h) m.0.0 (m.0.1 i l h) m.1
                c.loop-place.invariant.within);
            added = subst (λ (ks : List (List Candidate)). AreAdded c.args.others.now (map (made x u) (take (i + 1) ls))
                c.args.lists.now.items
                ks) (ap (λ v. v.items) (sym w.lists-is)) (pair-skipped c.args.others.now x u ls i l c.args.lists.now.items
                c.loop-place.lists.items h m.1 c.loop-place.invariant.added);
          }
    ]

pub returns-clause-added : goal.returns-clause-added
returns-clause-added c =
    let h : length c.args.lowers.now ≤ c.loop-place.place = omega arith in
    added-all (λ (rs : List Row). map (made c.args.column c.args.upper.now) rs) c.args.others.now c.args.lowers.now c.loop-place.place
    c.args.lists.now.items c.loop-place.lists.items h c.loop-place.invariant.added
