-- Division in two steps.
use Rattle.std.proofs.Common.{◌≡◌, ◌∙◌, ◌+◌, ◌*◌, ◌/◌, ◌%◌, ◌<◌, ℕ, zero, ap, sym}
use Rattle.std.proofs.Math.Nat.{add-mul, add_assoc, mul-add-div, mul_assoc, mul_left_comm}
use Rattle.std.proofs.lemmas.Nat.{div-add-mod'}

-- what is left of the upper part goes before the lower one
pub in_two : (n w d : ℕ) → zero < d → n / w / d * w + (n / w % d * w + n % w) / d ≡ n / d
in_two n w d some =
    let upper = n / w in let first = upper / d in let rest = upper % d in let lower = n % w in
    let whole : d * (first * w) + (rest * w + lower) ≡ n = regroup first d rest w lower
    ∙ (ap (λ k. k * w + lower) (div-add-mod' upper d) ∙ div-add-mod' n w)
    in
    sym (mul-add-div some (first * w) (rest * w + lower)) ∙ ap (λ k. k / d) whole where
      regroup : (q k r m l : ℕ) → k * (q * m) + (r * m + l) ≡ (q * k + r) * m + l
      regroup q k r m l =
          ap (λ x. x + (r * m + l)) (sym (mul_assoc q k m ∙ mul_left_comm q k m))
          ∙ (sym (add_assoc (q * k * m) (r * m) l) ∙ ap (λ x. x + l) (sym (add-mul (q * k) r m)))
