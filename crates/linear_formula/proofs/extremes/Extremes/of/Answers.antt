use Rattle.std.proofs.Common.{◌≡◌, ℕ, length, rules, refl, sym, subst}
use Rattle.std.specs.List.{range_with_len}
use Rattle.linear_formula.specs.Extremes.{AreExtremes}
use Rattle.linear_formula.proofs.ExtremeRows.{own-extremes}
use Rattle.linear_formula.proofs.extremes.Extremes.of.Goals as goal

pub returns : goal.returns
returns c =
    let rows = c.args.cube.atoms in
    let count : c.in-Ok.count ≡ length rows = search rules in (
      record {
        count = count;
        extremes = rw c.in_ok-numbers.ensures
            (subst (λ (n : ℕ). AreExtremes (range_with_len 0 n) rows rows) (sym count) (own-extremes rows));
      },
      refl,
    )
