use Rattle.std.proofs.Common.{◌≡◌, ◌-◌, ◌∷◌, [], take, drop, ℕ, pos, negsuc, ◌+ℤ◌, FitsSigned, to_z, of_z, w64, arith, refl, sym, ap, subst, ◌∙◌}
use Rattle.std.proofs.lemmas.Int.{ints, to_z-of_z}
use Rattle.linear_formula.specs.LinearSum.{LinearSum, valuation}
use Rattle.infeasible_cert.specs.Refutation.{refutation_of}
use Rattle.infeasible_cert.specs.Right.{at_most, at_least}
use Rattle.infeasible_cert.proofs.Branching.{minus-cast, more-cast}
use Rattle.shadow_elim.specs.Points.{split}
use Rattle.shadow_elim.specs.Plan.{outcome_of, search, with_row, nothing, limit_met}
use Rattle.shadow_elim.specs.declared.limit.Limit.TheVariants.{Branches}
use Rattle.lia_solver.specs.declared.search.Searched.{Searched}
use Rattle.lia_solver.specs.steps.Branches.{planned, IsRightOutcome, IsSearched, branch_rows}
use Rattle.lia_solver.proofs.Sides.{search-point, search-refuted, search-wide, search-rows, search-too_deep, search-too_many, holds-question, searchable-more, IsSplit, IsLowSide, low-answer, high-answer, after-low, both-refuted, refuted-same, IsRefuted}
use Rattle.lia_solver.proofs.search.Search.+search.Goals as goal
use Rattle.lia_solver.proofs.search.Search.+search.Goals.{split-then-depth-eq0-via-then-depth-eq0, split-then-depth-eq0-via-else-depth-eq0+then-len}

pub branch-returns-in-Wide-clause-searched : goal.branch-returns-in-Wide-clause-searched
branch-returns-in-Wide-clause-searched t c =
    let atoms = c.args.cube.atoms in let n = c.args.self.now.atoms in
    subst (λ (s : Searched). IsSearched (take n atoms) (drop n atoms) c.args.depth c.outcome.new.self.splits.items
    (search c.args.depth c.args.self.now.splits.items atoms) s) (sym c.limited.ensures) (
      search-wide c.args.depth c.args.self.now.splits.items
          atoms (c.in_ok-at.ensures.plan ∙ ap planned c.in-Wide.is),
      tt,
    )

pub branch-returns-in-Rows-clause-searched : goal.branch-returns-in-Rows-clause-searched
branch-returns-in-Rows-clause-searched t c =
    let atoms = c.args.cube.atoms in let n = c.args.self.now.atoms in
    subst (λ (s : Searched). IsSearched (take n atoms) (drop n atoms) c.args.depth c.outcome.new.self.splits.items
    (search c.args.depth c.args.self.now.splits.items atoms) s) (sym c.limited-in-Rows.ensures) (
      search-rows c.args.depth
          c.args.self.now.splits.items atoms (c.in_ok-at.ensures.plan ∙ ap planned c.in-Rows.is),
      tt,
    )

pub branch-returns-in-Point-clause-searched : goal.branch-returns-in-Point-clause-searched
branch-returns-in-Point-clause-searched t c =
    let atoms = c.args.cube.atoms in let n = c.args.self.now.atoms in
    let right = subst (IsRightOutcome (take n atoms) (drop n atoms)) c.in-Point.is c.in_ok-at.ensures.right in (
      search-point c.args.depth c.args.self.now.splits.items atoms c.in-Point.at (c.in_ok-at.ensures.plan ∙ ap planned c.in-Point.is),
      holds-question (valuation c.in-Point.at) n atoms right,
    )

pub branch-returns-in-Refuted-clause-searched : goal.branch-returns-in-Refuted-clause-searched
branch-returns-in-Refuted-clause-searched t c =
    let atoms = c.args.cube.atoms in let n = c.args.self.now.atoms in
    let right = subst (IsRightOutcome (take n atoms) (drop n atoms)) c.in-Refuted.is c.in_ok-at.ensures.right in (
      search-refuted c.args.depth c.args.self.now.splits.items atoms (c.in_ok-at.ensures.plan ∙ ap planned c.in-Refuted.is)
          ∙ ap nothing (sym c.outcome.ensures.splits),
      omega arith,
      right,
    )

pub split-returns-then-depth-eq0-clause-searched : goal.split-returns-then-depth-eq0-clause-searched
split-returns-then-depth-eq0-clause-searched t c =
    let atoms = c.args.cube.atoms in let n = c.args.self.now.atoms in let splits = c.args.self.now.splits.items in
    let f : FitsSigned w64 c.args.at = c.ranges.at in
    let plan : outcome_of atoms ≡ split c.args.column c.args.at = c.requires.plan in
    let met : search c.args.depth splits atoms ≡ limit_met (Branches splits) =
    elim c.then-depth-eq0.branch [
      | split-then-depth-eq0-via-then-depth-eq0 w ↦
          (let none : c.args.depth ≡ 0 = omega (arith, w.if-depth-eq0.true) in ap (λ d. search d splits atoms) none) ∙ search-too_deep
          splits atoms c.args.column c.args.at plan
      | split-then-depth-eq0-via-else-depth-eq0+then-len w ↦ search-too_many c.args.depth splits atoms c.args.column c.args.at plan
          (omega arith)
    ] in
    subst (λ (s : Searched). IsSearched (take n atoms) (drop n atoms) c.args.depth c.replace-branches.new.dest.items
    (search c.args.depth splits atoms) s) (sym c.limited.ensures) (
      met ∙ ap (λ cs. limit_met (Branches cs))
          (cc (c.from_vec.ensures, c.replace-branches.ensures.value)),
      tt,
    )

pub split-branch-self-requires : goal.split-branch-self-requires
split-branch-self-requires t c = (
  omega (arith, c.if-depth-eq0.false),
  searchable-more c.args.self.now
      (record {
        alloc = c.args.self.now.alloc;
        atoms = c.args.self.now.atoms;
        columns = c.args.self.now.columns;
        splits = c.push.new.self;
        work = c.args.self.now.work;
        table = c.args.self.now.table;
      })
      c.args.cube.atoms c.in_ok-low.low.atoms c.in_ok-below.below c.args.column (pos 1) c.requires.branch refl refl c.in_ok-low.ensures
      (ap (λ (u : LinearSum). u.parts) c.in_ok-below.ensures) c.requires.column,
)

pub split-branch-self-requires-2 : goal.split-branch-self-requires-2
split-branch-self-requires-2 t c = (
  omega (arith, c.if-depth-eq0.false),
  searchable-more c.args.self.now c.branch-self.new.self c.args.cube.atoms c.in_ok-high.high.atoms
      c.in_ok-beyond.beyond c.args.column (negsuc 0) c.requires.branch c.branch-self.ensures.atoms c.branch-self.ensures.columns
      c.in_ok-high.ensures (ap (λ (u : LinearSum). u.parts) c.in_ok-beyond.ensures) c.requires.column,
)

pub split-returns-in_default-clause-searched : goal.split-returns-in_default-clause-searched
split-returns-in_default-clause-searched t c =
    let f : FitsSigned w64 c.args.at = c.ranges.at in
    let atoms = c.args.cube.atoms in let n = c.args.self.now.atoms in let d = c.args.depth in let splits = c.args.self.now.splits.items in
    let plan : outcome_of atoms ≡ split c.args.column c.args.at = c.requires.plan in
    let s : IsSplit d (d - 1) splits atoms c.args.column c.args.at = record {
      deeper = omega (arith, c.if-depth-eq0.false);
      plan = plan;
      room = omega arith;
    } in
    let below : c.in_ok-below.below ≡ at_most c.args.column c.args.at = c.in_ok-below.ensures
    ∙ ap (λ z. record { parts = (c.args.column, pos 1) ∷ []; constant = z }) (minus-cast c.args.at c.from.result f c.from.ensures) in
    let beyond : c.in_ok-beyond.beyond ≡ at_least c.args.column (c.args.at +ℤ pos 1) = c.in_ok-beyond.ensures
    ∙ ap (λ z. record { parts = (c.args.column, negsuc 0) ∷ []; constant = z }) (more-cast c.args.at c.from-2.result f c.from-2.ensures) in
    let low = c.in_ok-low.low.atoms in let high = c.in_ok-high.high.atoms in
    let l : IsLowSide splits c.push.new.self.items atoms low c.args.column c.args.at = record {
      pushed_is = c.in_ok-push.ensures.items;
      low_is = c.in_ok-low.ensures ∙ ap (with_row atoms) below;
    } in
    low-answer n d (d - 1) splits c.push.new.self.items c.branch-self.new.self.splits.items atoms low c.args.column c.args.at
    c.in_ok-answer.answer c.requires.branch.question s l c.in_ok-answer.ensures.answered c.in_default.not-Nothing
    c.in_ok-answer.ensures.searched

pub split-returns-in_default-2-clause-searched : goal.split-returns-in_default-2-clause-searched
split-returns-in_default-2-clause-searched t c =
    let f : FitsSigned w64 c.args.at = c.ranges.at in
    let atoms = c.args.cube.atoms in let n = c.args.self.now.atoms in let d = c.args.depth in let splits = c.args.self.now.splits.items in
    let plan : outcome_of atoms ≡ split c.args.column c.args.at = c.requires.plan in
    let s : IsSplit d (d - 1) splits atoms c.args.column c.args.at = record {
      deeper = omega (arith, c.if-depth-eq0.false);
      plan = plan;
      room = omega arith;
    } in
    let below : c.in_ok-below.below ≡ at_most c.args.column c.args.at = c.in_ok-below.ensures
    ∙ ap (λ z. record { parts = (c.args.column, pos 1) ∷ []; constant = z }) (minus-cast c.args.at c.from.result f c.from.ensures) in
    let beyond : c.in_ok-beyond.beyond ≡ at_least c.args.column (c.args.at +ℤ pos 1) = c.in_ok-beyond.ensures
    ∙ ap (λ z. record { parts = (c.args.column, negsuc 0) ∷ []; constant = z }) (more-cast c.args.at c.from-2.result f c.from-2.ensures) in
    let low = c.in_ok-low.low.atoms in let high = c.in_ok-high.high.atoms in
    let l : IsLowSide splits c.push.new.self.items atoms low c.args.column c.args.at = record {
      pushed_is = c.in_ok-push.ensures.items;
      low_is = c.in_ok-low.ensures ∙ ap (with_row atoms) below;
    } in
    let side : high ≡ with_row atoms (at_least c.args.column (c.args.at +ℤ pos 1)) = c.in_ok-high.ensures ∙ ap (with_row atoms) beyond in
    let first = c.branch-self.new.self.splits.items in
    let lower : IsRefuted (search (d - 1) c.push.new.self.items low) first (d - 1) (branch_rows (take n low) (drop n low))
    (refutation_of c.in-Nothing.certificate) = subst (λ (r : Searched). IsSearched (take n low) (drop n low) (d - 1) first
    (search (d - 1) c.push.new.self.items low) r) c.in-Nothing.is c.in_ok-answer.ensures.searched in
    let m = c.branch-self.new.self.atoms in
    let same : m ≡ n = c.branch-self.ensures.atoms in
    high-answer n d (d - 1) splits first c.branch-self-2.new.self.splits.items atoms high (at_least c.args.column (c.args.at +ℤ pos 1))
    c.in_ok-answer-2.answer c.requires.branch.question side (after-low d (d - 1) splits c.push.new.self.items first atoms low high
    c.args.column c.args.at s l lower.0 side) c.in_ok-answer-2.ensures.answered c.in_default-2.not-Nothing (subst
    (λ (k : ℕ). IsSearched (take k high) (drop k high) (d - 1) c.branch-self-2.new.self.splits.items (search (d - 1) first high)
    c.in_ok-answer-2.answer) same c.in_ok-answer-2.ensures.searched)

pub split-returns-in_ok-new-in-Nothing-2-2-clause-searched : goal.split-returns-in_ok-new-in-Nothing-2-2-clause-searched
split-returns-in_ok-new-in-Nothing-2-2-clause-searched t c =
    let f : FitsSigned w64 c.args.at = c.ranges.at in
    let atoms = c.args.cube.atoms in let n = c.args.self.now.atoms in let d = c.args.depth in let splits = c.args.self.now.splits.items in
    let plan : outcome_of atoms ≡ split c.args.column c.args.at = c.requires.plan in
    let s : IsSplit d (d - 1) splits atoms c.args.column c.args.at = record {
      deeper = omega (arith, c.if-depth-eq0.false);
      plan = plan;
      room = omega arith;
    } in
    let below : c.in_ok-below.below ≡ at_most c.args.column c.args.at = c.in_ok-below.ensures
    ∙ ap (λ z. record { parts = (c.args.column, pos 1) ∷ []; constant = z }) (minus-cast c.args.at c.from.result f c.from.ensures) in
    let beyond : c.in_ok-beyond.beyond ≡ at_least c.args.column (c.args.at +ℤ pos 1) = c.in_ok-beyond.ensures
    ∙ ap (λ z. record { parts = (c.args.column, negsuc 0) ∷ []; constant = z }) (more-cast c.args.at c.from-2.result f c.from-2.ensures) in
    let low = c.in_ok-low.low.atoms in let high = c.in_ok-high.high.atoms in
    let l : IsLowSide splits c.push.new.self.items atoms low c.args.column c.args.at = record {
      pushed_is = c.in_ok-push.ensures.items;
      low_is = c.in_ok-low.ensures ∙ ap (with_row atoms) below;
    } in
    let side : high ≡ with_row atoms (at_least c.args.column (c.args.at +ℤ pos 1)) = c.in_ok-high.ensures ∙ ap (with_row atoms) beyond in
    let first = c.branch-self.new.self.splits.items in let more = c.branch-self-2.new.self.splits.items in
    let lower : IsRefuted (search (d - 1) c.push.new.self.items low) first (d - 1) (branch_rows (take n low) (drop n low))
    (refutation_of c.in-Nothing.certificate) = subst (λ (r : Searched). IsSearched (take n low) (drop n low) (d - 1) first
    (search (d - 1) c.push.new.self.items low) r) c.in-Nothing.is c.in_ok-answer.ensures.searched in
    let same : c.branch-self.new.self.atoms ≡ n = c.branch-self.ensures.atoms in
    let upper : IsRefuted (search (d - 1) first high) more (d - 1) (branch_rows (take n high) (drop n high))
    (refutation_of c.in-Nothing-2.high) = subst (λ (r : Searched). IsSearched (take n high) (drop n high) (d - 1) more
    (search (d - 1) first high) r) c.in-Nothing-2.is (subst (λ (k : ℕ). IsSearched (take k high) (drop k high) (d - 1) more
    (search (d - 1) first high) c.in_ok-answer-2.answer) same c.in_ok-answer-2.ensures.searched) in
    refuted-same (search d splits atoms) more d (branch_rows (take n atoms) (drop n atoms)) c.args.column c.new-in-Nothing-2.result.items
    c.args.at (to_z w64 (of_z w64 c.args.at)) (refutation_of c.in-Nothing.certificate)
    (refutation_of c.in_ok-new-in-Nothing-2.field-0.value)
    (refutation_of c.in-Nothing-2.high) (refutation_of c.in_ok-new-in-Nothing-2-2.field-0.value) c.new-in-Nothing-2.ensures.items
    (to_z-of_z w64 c.args.at f) (ap refutation_of c.in_ok-new-in-Nothing-2.ensures.ok)
    (ap refutation_of c.in_ok-new-in-Nothing-2-2.ensures.ok)
    (both-refuted n d (d - 1) splits c.push.new.self.items first more atoms low high c.args.column c.args.at
    (refutation_of c.in-Nothing.certificate) (refutation_of c.in-Nothing-2.high) c.requires.branch.question s l side (omega (arith, ints))
    lower upper)
