use Rattle.std.proofs.Common.{◌≡◌, ◌++◌, ◌∷◌, ◌+◌, [], ℕ, zero, suc, arith, ap, ◌∙◌}
use Rattle.std.specs.List.{range_with_len}
use Rattle.linear_formula.proofs.extremes.first_numbers.Goals as goal

one_more : (a n : ℕ) → range_with_len a n ++ (a + n) ∷ [] ≡ range_with_len a (suc n)
one_more a zero = ap (λ m. m ∷ []) (omega arith)
one_more a (suc n) =
    let e : a + suc n ≡ a + 1 + n = omega arith in
    ap (λ ms. a ∷ ms) (ap (λ m. range_with_len (a + 1) n ++ m ∷ []) e ∙ one_more (a + 1) n)

pub loop-number-preserved : goal.loop-number-preserved
loop-number-preserved c =
    let n = c.loop-number.number in
    let e : suc n ≡ n + 1 = omega arith in
    let z : n ≡ 0 + n = omega arith in
    let more : c.push.new.self.items ≡ c.loop-number.numbers.items ++ n ∷ [] = c.in_ok-push.ensures.items in
    more ∙ ap (λ ms. ms ++ n ∷ []) c.loop-number.invariant ∙ ap (λ m. range_with_len 0 n ++ m ∷ []) z ∙ one_more 0 n
    ∙ ap (range_with_len 0) e
