use Rattle.std.proofs.Common.{ap, ◌∙◌, refl, Err}
use Rattle.std.proofs.lemmas.Result.{err_from_is_err_and}
use Rattle.shadow_elim.specs.declared.shadow.ShadowError.TheVariants.{Wide, Rows}
use Rattle.shadow_elim.specs.Elimination.{is_upper, is_lower}
use Rattle.shadow_elim.specs.Stages.{terms_of}
use Rattle.shadow_elim.proofs.Assembling.{sums-all-within, sums-not-within, added-all_candidates, passes-terms, terms-filter}
use Rattle.shadow_elim.proofs.Passing.{same_error}
use Rattle.shadow_elim.proofs.TooMany.{many-candidates}
use Rattle.shadow_elim.proofs.column.eliminate_column.Goals as goal

pub add_pairs-requires-clause-uppers : goal.add_pairs-requires-clause-uppers
add_pairs-requires-clause-uppers c =
    passes-terms (is_upper c.args.column) c.args.rows.items c.deref.result.now (c.deref.ensures.value ∙ c.in_ok-uppers.ensures.uppers)

pub add_pairs-requires-clause-lowers : goal.add_pairs-requires-clause-lowers
add_pairs-requires-clause-lowers c =
    passes-terms (is_lower c.args.column) c.args.rows.items c.deref-2.result.now (c.deref-2.ensures.value ∙ c.in_ok-uppers.ensures.lowers)

pub returns-in_err-add_pairs-clause-wide : goal.returns-in_err-add_pairs-clause-wide
returns-in_err-add_pairs-clause-wide c = λ w.
    let p = err_from_is_err_and c.from_residual-in_err-add_pairs.result c.from_residual-in_err-add_pairs.ensures.1 in
    let e = ap Err (same_error c.from_residual-in_err-add_pairs.result p.0 c.in_err-add_pairs.field-0.0 Wide p.1 p.2 w) in
    sums-not-within c.args.column c.args.rows.items c.deref.result.now c.deref-2.result.now
    (c.deref.ensures.value ∙ c.in_ok-uppers.ensures.uppers)
    (c.deref-2.ensures.value ∙ c.in_ok-uppers.ensures.lowers) (c.in_err-add_pairs.ensures.wide e)

pub returns-in_err-add_pairs-clause-narrow : goal.returns-in_err-add_pairs-clause-narrow
returns-in_err-add_pairs-clause-narrow c = λ w.
    let p = err_from_is_err_and c.from_residual-in_err-add_pairs.result c.from_residual-in_err-add_pairs.ensures.1 in
    let e = ap Err (same_error c.from_residual-in_err-add_pairs.result p.0 c.in_err-add_pairs.field-0.0 Rows p.1 p.2 w) in
    sums-all-within c.args.column c.args.rows.items c.deref.result.now c.deref-2.result.now
    (c.deref.ensures.value ∙ c.in_ok-uppers.ensures.uppers)
    (c.deref-2.ensures.value ∙ c.in_ok-uppers.ensures.lowers) (c.in_err-add_pairs.ensures.narrow e)

pub returns-in_err-add_pairs-clause-rows : goal.returns-in_err-add_pairs-clause-rows
returns-in_err-add_pairs-clause-rows c = λ w.
    let p = err_from_is_err_and c.from_residual-in_err-add_pairs.result c.from_residual-in_err-add_pairs.ensures.1 in
    let e = ap Err (same_error c.from_residual-in_err-add_pairs.result p.0 c.in_err-add_pairs.field-0.0 Rows p.1 p.2 w) in
    many-candidates c.args.column c.args.others.now c.args.rows.items c.deref.result.now c.deref-2.result.now
    c.in_ok-uppers.field-0.free.items c.args.lists.now.items c.add_free.new.lists.items c.add_pairs.new.lists.items
    (c.deref.ensures.value ∙ c.in_ok-uppers.ensures.uppers) (c.deref-2.ensures.value ∙ c.in_ok-uppers.ensures.lowers)
    c.in_ok-uppers.ensures.free c.in_ok-add_free.ensures (c.in_err-add_pairs.ensures.rows e)

pub returns-clause-stage : goal.returns-clause-stage
returns-clause-stage c = record {
  column = refl;
  uppers = ap terms_of c.in_ok-uppers.ensures.uppers ∙ terms-filter (is_upper c.args.column) c.args.rows.items;
  lowers = ap terms_of c.in_ok-uppers.ensures.lowers ∙ terms-filter (is_lower c.args.column) c.args.rows.items;
}

pub returns-clause-added : goal.returns-clause-added
returns-clause-added c =
    added-all_candidates c.args.column c.args.others.now c.args.rows.items c.deref.result.now c.deref-2.result.now
    c.in_ok-uppers.field-0.free.items c.args.lists.now.items c.add_free.new.lists.items c.add_pairs.new.lists.items
    (c.deref.ensures.value ∙ c.in_ok-uppers.ensures.uppers) (c.deref-2.ensures.value ∙ c.in_ok-uppers.ensures.lowers)
    c.in_ok-uppers.ensures.free c.in_ok-add_free.ensures c.in_ok-add_pairs.ensures.added

pub returns-clause-within : goal.returns-clause-within
returns-clause-within c =
    sums-all-within c.args.column c.args.rows.items c.deref.result.now c.deref-2.result.now
    (c.deref.ensures.value ∙ c.in_ok-uppers.ensures.uppers) (c.deref-2.ensures.value ∙ c.in_ok-uppers.ensures.lowers)
    c.in_ok-add_pairs.ensures.within
