use Rattle.std.proofs.Common.{◌≤◌, arith, sym, ◌∙◌}
use Rattle.std.specs.List.{sum_by}
use Rattle.std.proofs.lemmas.Bool.{le-ltb}
use Rattle.shadow_elim.specs.steps.Lists.{staying}
use Rattle.shadow_elim.proofs.Holding.{staying-within}
use Rattle.shadow_elim.proofs.lists.is_beyond.Goals as goal

pub returns-else-listed-gt-MAX_ROWS : goal.returns-else-listed-gt-MAX_ROWS
returns-else-listed-gt-MAX_ROWS c =
    let ls = c.args.lists.now in
    let few : sum_by staying ls ≤ 4096 = omega (arith, staying-within ls, c.listed.ensures, c.if-listed-gt-MAX_ROWS.false) in
    le-ltb 4096 c.listed.result c.if-listed-gt-MAX_ROWS.false ∙ sym (le-ltb 4096 (sum_by staying ls) few)
