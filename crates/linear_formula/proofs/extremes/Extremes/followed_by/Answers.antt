use Rattle.std.proofs.Common.{ℕ, ◌+◌, ◌++◌, length-append, map, arith, sym, subst}
use Rattle.linear_formula.specs.Extremes.{AreExtremes}
use Rattle.linear_formula.proofs.ExtremeRows.{append-extremes}
use Rattle.linear_formula.proofs.extremes.Extremes.followed_by.Goals as goal

pub returns : goal.returns
returns c = λ all more h k.
    let s = c.args.self in
    let o = c.args.other in
    record {
      count = simp length-append (omega (arith, h.count, k.count, c.in-Some.ensures));
      extremes = rw (c.in_ok-push_later.ensures, c.deref.ensures.value, c.in_ok-append.ensures)
          (subst (λ (b : ℕ). AreExtremes (s.numbers.items ++ map (λ n. b + n) o.numbers.items) (s.cube.atoms ++ o.cube.atoms) (all ++ more))
          (sym h.count)
          (append-extremes s.numbers.items o.numbers.items s.cube.atoms o.cube.atoms all more h.extremes k.extremes));
    }
