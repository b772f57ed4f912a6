use Rattle.std.proofs.Common.{◌≡◌, ◌<◌, ◌+◌, true, false, List, length, Err, ap, sym, arith, ◌∙◌}
use Rattle.std.specs.Prelude.{nat_lt}
use Rattle.std.specs.List.{sum_by}
use Rattle.std.proofs.lemmas.Result.{err_from_is_err_and}
use Rattle.shadow_elim.specs.declared.shadow.ShadowError.TheVariants.{Wide, Rows}
use Rattle.shadow_elim.specs.declared.pairing.Candidate.{Candidate}
use Rattle.shadow_elim.specs.Stages.{terms_of}
use Rattle.shadow_elim.specs.steps.Lists.{staying}
use Rattle.shadow_elim.proofs.Passing.{same_error}
use Rattle.shadow_elim.proofs.Standing.{passing-first, passing-next, passing-wide, passing-too_many, passing-many, right-first, right-next, all-others, all-others_many}
use Rattle.shadow_elim.proofs.elimination.eliminate_columns.Goals as goal

pub loop-place-init : goal.loop-place-init
loop-place-init c = record {
  passing = passing-first c.args.columns.now (terms_of c.args.rows.items) c.in_ok-stages.stages.items c.in_ok-lists.lists.items
      c.in_ok-stages.ensures.items c.in_ok-lists.ensures.count c.in_ok-lists.ensures.empty;
  steps = λ base e n. right-first base c.args.rows.items c.new-steps.result.items c.in_ok-lists.lists.items c.new-steps.ensures.items n
      c.in_ok-lists.ensures.empty;
}

pub loop-place-preserved : goal.loop-place-preserved
loop-place-preserved c =
    let h : c.loop-place.place < length c.args.columns.now = omega arith in
    let a = all-others c.args.columns.now (c.loop-place.place + 1) _ c.loop-place.lists.items c.eliminate_column.new.lists.items
    c.in_ok-stage.ensures.added in
    let m : nat_lt 4096 (sum_by staying c.eliminate_column.new.lists.items) ≡ false = ap (λ (ls : List (List Candidate)).
    nat_lt 4096 (sum_by staying ls)) (sym c.deref.ensures.value) ∙ sym c.is_beyond.ensures ∙ c.if-is_beyond.false in
    record {
      passing = passing-next c.args.columns.now c.loop-place.place c.args.first (terms_of c.args.rows.items) c.loop-place.left.items
          c.in_ok-left.left.items c.loop-place.stages.items c.push.new.self.items c.in_ok-stage.stage c.loop-place.lists.items
          c.eliminate_column.new.lists.items c.take_rows.new.lists.items c.loop-place.steps.items c.take_rows.new.steps.items h
          c.loop-place.invariant.passing c.in_ok-stage.ensures.stage a c.in_ok-stage.ensures.within m c.in_ok-push.ensures.items
          c.in_ok-left.ensures.taken;
      steps = λ base e n. right-next base c.args.first _ _ c.loop-place.left.items c.in_ok-left.left.items c.loop-place.steps.items
          c.take_rows.new.steps.items c.loop-place.lists.items c.eliminate_column.new.lists.items c.take_rows.new.lists.items e
          (c.loop-place.invariant.steps base e n) c.in_ok-stage.ensures.terms c.in_ok-stage.ensures.added c.in_ok-left.ensures.taken;
    }

pub returns-in_err-stage-clause-wide : goal.returns-in_err-stage-clause-wide
returns-in_err-stage-clause-wide c = λ w.
    let h : c.loop-place.place < length c.args.columns.now = omega arith in
    let p = err_from_is_err_and c.from_residual-in_err-stage.result c.from_residual-in_err-stage.ensures.1 in
    passing-wide c.args.columns.now c.loop-place.place (terms_of c.args.rows.items) c.loop-place.stages.items
    (terms_of c.loop-place.left.items) c.loop-place.lists.items h c.loop-place.invariant.passing
    (c.in_err-stage.ensures.wide (ap Err (same_error c.from_residual-in_err-stage.result p.0 c.in_err-stage.field-0.0 Wide p.1 p.2 w)))

pub returns-in_err-stage-clause-too_many : goal.returns-in_err-stage-clause-too_many
returns-in_err-stage-clause-too_many c = λ w.
    let h : c.loop-place.place < length c.args.columns.now = omega arith in
    let p = err_from_is_err_and c.from_residual-in_err-stage.result c.from_residual-in_err-stage.ensures.1 in
    let e = ap Err (same_error c.from_residual-in_err-stage.result p.0 c.in_err-stage.field-0.0 Rows p.1 p.2 w) in
    passing-many c.args.columns.now c.loop-place.place (terms_of c.args.rows.items) c.loop-place.stages.items c.loop-place.left.items
    c.loop-place.lists.items c.eliminate_column.new.lists.items h c.loop-place.invariant.passing (all-others_many c.args.columns.now
    (c.loop-place.place + 1) _ c.loop-place.lists.items c.eliminate_column.new.lists.items (c.in_err-stage.ensures.rows e))
    (c.in_err-stage.ensures.narrow e)

pub returns-then-is_beyond-clause-too_many : goal.returns-then-is_beyond-clause-too_many
returns-then-is_beyond-clause-too_many c = λ w.
    let h : c.loop-place.place < length c.args.columns.now = omega arith in
    let a = all-others c.args.columns.now (c.loop-place.place + 1) _ c.loop-place.lists.items c.eliminate_column.new.lists.items
    c.in_ok-stage.ensures.added in
    let m : nat_lt 4096 (sum_by staying c.eliminate_column.new.lists.items) ≡ true = ap (λ (ls : List (List Candidate)).
    nat_lt 4096 (sum_by staying ls)) (sym c.deref.ensures.value) ∙ sym c.is_beyond.ensures ∙ c.if-is_beyond.true in
    passing-too_many c.args.columns.now c.loop-place.place (terms_of c.args.rows.items) c.loop-place.stages.items c.loop-place.left.items
    c.loop-place.lists.items c.eliminate_column.new.lists.items h c.loop-place.invariant.passing a c.in_ok-stage.ensures.within m
