use Rattle.std.proofs.Common.{◌≡◌, ◌∙◌, ap}
use Rattle.std.specs.Prelude.{Some}
use Rattle.std.proofs.lemmas.Result.{IfOk-weaker}
use Rattle.linear_formula.specs.declared.formula.Cube.{Cube}
use Rattle.linear_formula.specs.declared.question.Question.TheVariants as asks
use Rattle.shadow_elim.specs.Projection.{cube_of}
use Rattle.shadow_elim.specs.Shadows.{pair_rows}
use Rattle.call_bridge.specs.Musts.{must_rows, symbol_columns}
use Rattle.call_bridge.proofs.Eliminated.{left_at, must_left, must_rows_are, question_at}
use Rattle.call_bridge.proofs.inexact.preimage_limit.Goals as goal

pub inexact_limit-requires : goal.inexact_limit-requires
inexact_limit-requires c =
    let must = c.args.must.now in let site = c.args.site.now in let target = c.args.target.now.atoms in
    let all = must_rows must site target in
    let pair = pair_rows (Some c.args.pair.now) in
    let rows = must_rows_are must site target c.in_ok-others.others.atoms c.in_ok-plain.plain.atoms
    c.in_ok-rows.rows.atoms
    c.deref.result.now c.in_ok-columns.field-0.sums.items c.deref-2.result.now c.in_ok-renamed.renamed.items
    c.in_ok-columns.field-0.columns.items
    c.deref.ensures.value c.in_ok-columns.ensures.sums c.in_ok-columns.ensures.columns
    (ap (λ (k : Cube). k.atoms) c.in_ok-others.ensures) c.in_ok-plain.ensures c.deref-2.ensures.value c.in_ok-renamed.ensures
    (ap (λ (k : Cube). k.atoms) c.in_ok-rows.ensures) in
    let l = must_left must site target c.requires.0 pair c.requires.1 in
    left_at c.in_ok-left.left.items (symbol_columns all) c.in_ok-rows.rows.atoms all pair (c.in_ok-left.ensures ∙ ap symbol_columns rows)
    rows
    (l.left, l.is)

pub returns-clause-question : goal.returns-clause-question
returns-clause-question c =
    let must = c.args.must.now in let site = c.args.site.now in let target = c.args.target.now.atoms in
    let all = must_rows must site target in
    let rows = must_rows_are must site target c.in_ok-others.others.atoms c.in_ok-plain.plain.atoms
    c.in_ok-rows.rows.atoms
    c.deref.result.now c.in_ok-columns.field-0.sums.items c.deref-2.result.now c.in_ok-renamed.renamed.items
    c.in_ok-columns.field-0.columns.items
    c.deref.ensures.value c.in_ok-columns.ensures.sums c.in_ok-columns.ensures.columns
    (ap (λ (k : Cube). k.atoms) c.in_ok-others.ensures) c.in_ok-plain.ensures c.deref-2.ensures.value c.in_ok-renamed.ensures
    (ap (λ (k : Cube). k.atoms) c.in_ok-rows.ensures) in
    IfOk-weaker c.inexact_limit.result (λ kept. kept.question ≡ asks.Eliminate c.in_ok-rows.rows c.in_ok-left.left.items)
    (λ kept. kept.question ≡ asks.Eliminate (cube_of all) (symbol_columns all))
    (λ kept e. question_at symbol_columns kept.question all c.in_ok-rows.rows.atoms c.in_ok-left.left.items e rows c.in_ok-left.ensures)
    c.inexact_limit.ensures.question
