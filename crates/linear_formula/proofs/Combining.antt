-- The combination, from its last summand on.
use Rattle.std.proofs.Common.{◌≡◌, ℕ, ◌<◌, ◌≤◌, ◌+◌, ◌*◌, ◌-◌, ◌^◌, List, [], ◌∷◌, length, drop, get_or, ℤ, pos, ◌+ℤ◌, ◌*ℤ◌, arith, refl, ◌∙◌, ap, sym, subst, drop-cons, add-one, to_z, of_z, to_z-of_z, FitsSigned}
use Rattle.std.specs.Int.{w64}
use Rattle.std.proofs.lemmas.List.{drop_all, get_or_default}
use Rattle.std.specs.Prelude.{unsigned_abs}
use Rattle.std.proofs.lemmas.Int.{ints}
use Rattle.linear_formula.specs.declared.exact_sum.ExactSum.{ExactSum}
use Rattle.linear_formula.specs.steps.Exact.{exact_value, HasRoom}
use Rattle.linear_formula.specs.steps.Gathered.{Gathered}
use Rattle.linear_formula.specs.LinearSum.{LinearSum}
use Rattle.linear_formula.specs.Results.{plus_parts, combination, constant_sum}

-- what has been added from the summand `left` on
pub record Adding (summands : List (ℤ × LinearSum)) (c : ℤ) (left : ℕ) (g : Gathered) (total : ExactSum) : Type 0 where
  pub bound : left ≤ length summands
  pub parts : g.parts ≡ (combination (drop left summands) c).parts
  pub adds : g.adds + left * 1024 ≤ length summands * 1024
  pub constant : exact_value total ≡ (combination (drop left summands) c).constant
  pub room : HasRoom (length summands - left) total

abbrev pub summand_at : List (ℤ × LinearSum) → ℕ → ℤ × LinearSum
summand_at summands k = get_or summands k (pos 0, constant_sum (pos 0))

drop_summand : (summands : List (ℤ × LinearSum)) (k : ℕ) → k < length summands → drop k summands ≡ summand_at summands k
    ∷ drop (k + 1) summands
drop_summand summands k h =
    rw (add-one, drop-cons summands k (pos 0, constant_sum (pos 0))) refl

pub adding-begins : (summands : List (ℤ × LinearSum)) (c : ℤ) (g : Gathered) (total : ExactSum) → g.parts ≡ [] → g.adds ≡ 0 →
    exact_value total ≡ c → HasRoom 0 total → Adding summands c (length summands) g total
adding-begins summands c g total ep ea ec r =
    let e : drop (length summands) summands ≡ [] = drop_all (length summands) summands (omega arith) in
    record {
      bound = omega arith;
      parts = ep ∙ sym (ap (λ l. (combination l c).parts) e);
      adds = omega (arith, ea);
      constant = ec ∙ sym (ap (λ l. (combination l c).constant) e);
      room = (omega (arith, r.0), r.1);
    }

pub adding-steps : (summands : List (ℤ × LinearSum)) (c : ℤ) (before left : ℕ) (g new : Gathered) (total sum : ExactSum)
    (s : ℤ × LinearSum) →
    Adding summands c before g total → before ≡ left + 1 → s ≡ summand_at summands left → length s.1.parts ≤ 1024 →
    new.parts ≡ plus_parts s.0 s.1.parts g.parts → new.adds ≡ g.adds + length s.1.parts → exact_value sum ≡ exact_value total +ℤ
    (s.0 *ℤ s.1.constant) → unsigned_abs sum.high ≤ unsigned_abs total.high + 2 ^ 53 → unsigned_abs sum.low < 2 ^ 96 →
    Adding summands c left new sum
adding-steps summands c before left g new total sum s a' eb es count ep ea ec eh el =
    let a : Adding summands c (left + 1) g total = subst (λ n. Adding summands c n g total) eb a' in
    let b : left < length summands = omega (arith, a.bound) in
    let e : drop left summands ≡ s ∷ drop (left + 1) summands = drop_summand summands left b ∙ ap (λ z. z ∷ drop (left + 1) summands)
    (sym es)
    in
    record {
      bound = omega (arith, a.bound);
      parts = ep ∙ ap (plus_parts s.0 s.1.parts) a.parts ∙ sym (ap (λ l. (combination l c).parts) e);
      adds = omega (arith, a.adds, ea, count);
      constant = ec ∙ ap (λ z. z +ℤ (s.0 *ℤ s.1.constant)) a.constant ∙ swapped ∙ sym (ap (λ l. (combination l c).constant) e);
      room = (omega (arith, a.room.0, a.bound, eh), el);
    } where
      swapped : (combination (drop (left + 1) summands) c).constant +ℤ (s.0 *ℤ s.1.constant) ≡ (s.0 *ℤ s.1.constant) +ℤ
          (combination (drop (left + 1) summands) c).constant
      swapped = omega (arith, ints)

pub summand-is : (summands : List (ℤ × LinearSum)) (k : ℕ) (s : ℤ × LinearSum) → k < length summands → s ≡ get_or summands k s →
    s ≡ summand_at summands k
summand-is summands k s h e = e ∙ get_or_default summands k s (pos 0, constant_sum (pos 0)) h

pub record Added (summands : List (ℤ × LinearSum)) (c : ℤ) (g : Gathered) (total : ExactSum) : Type 0 where
  pub parts : g.parts ≡ (combination summands c).parts
  pub constant : exact_value total ≡ (combination summands c).constant

pub adding-ends : (summands : List (ℤ × LinearSum)) (c : ℤ) (left : ℕ) (g : Gathered) (total : ExactSum) → FitsSigned w64 c →
    Adding summands (to_z w64 (of_z w64 c)) left g total → left ≡ 0 → Added summands c g total
adding-ends summands c left g total f a z =
    let b : Adding summands c 0 g total = subst (λ n. Adding summands c n g total) z
    (subst (λ d. Adding summands d left g total) (to_z-of_z f) a)
    in
    record { parts = b.parts; constant = b.constant }
