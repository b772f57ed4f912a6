use Rattle.std.proofs.Common.{◌≡◌, ◌<◌, ℕ, ℤ, List, length, set, to_z, of_z, to_z-of_z, FitsSigned, add-one, arith, rules, sym, ap, ◌∙◌}
use Rattle.std.specs.Int.{w128}
use Rattle.linear_formula.proofs.Merging.{at}
use Rattle.shadow_elim.specs.Division.{floor_quotient}
use Rattle.lia_solver.proofs.DividedParts.{partly_divided, divided-next, divided-here, divided-length}
use Rattle.lia_solver.proofs.division.divide_all.Goals as goal

pub loop-part-preserved : goal.loop-part-preserved
loop-part-preserved c =
    let ps = c.args.parts.now in
    let d = c.args.divisor in
    let k = c.loop-part.part-index in
    let now = c.loop-part.parts in
    let h : k < length ps = omega (arith, ap (λ (xs : List (ℕ × ℤ)). length xs) c.loop-part.invariant, divided-length d k ps) in
    let f : FitsSigned w128 (at now k).1 = search rules in
    let z = to_z w128 (of_z w128 c.quotient-part.result) in
    let g : FitsSigned w128 c.quotient-part.result = search rules in
    let q : z ≡ floor_quotient (at now k).1 d = to_z-of_z g ∙ c.quotient-part.ensures ∙ ap (λ (y : ℤ). floor_quotient y d) (to_z-of_z f) in
    let here : at now k ≡ at ps k = ap (λ (xs : List (ℕ × ℤ)). at xs k) c.loop-part.invariant ∙ divided-here d k ps _ h in
    let quotient : z ≡ floor_quotient (at ps k).1 d = q ∙ ap (λ (p : ℕ × ℤ). floor_quotient p.1 d) here in
    ap (λ (p : ℕ × ℤ). set now k (p.0, z)) here ∙ ap (λ (xs : List (ℕ × ℤ)). set xs k ((at ps k).0, z)) c.loop-part.invariant
    ∙ divided-next d k ps _ z h quotient ∙ ap (λ (n : ℕ). partly_divided d n ps) (sym (add-one k))
