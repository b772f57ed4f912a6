use Rattle.std.proofs.Common.{◌≡◌, length, suc, ◌-◌, arith, sym}
use borrow.Author.Tests.{eqb_apart}
use Rattle.infeasible_cert.proofs.Deriving.{ends-at}
use Rattle.infeasible_cert.proofs.walk.ends_in_contradiction.Goals as goal

pub returns : goal.returns
returns c =
    let some = eqb_apart (length c.args.derived.now) 0 (sym c.if-is_empty.ensures) in
    let n : length c.args.derived.now ≡ suc (length c.args.derived.now - 1) = omega (arith, some) in
    let e = ends-at c.args.derived.now (length c.args.derived.now - 1) c.index-derived-derived.result n in
    (λ g. e.1 (c.is_contradiction.ensures.0 g), λ g. c.is_contradiction.ensures.1 (e.0 g))
