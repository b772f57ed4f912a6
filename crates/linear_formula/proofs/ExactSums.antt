-- Sums of products in two limbs.
use Rattle.std.proofs.Common.{◌≡◌, ◌<◌, ◌≤◌, ◌+◌, ◌*◌, ◌^◌, ℤ, pos, ◌+ℤ◌, ◌*ℤ◌, to_z, of_z, FitsSigned, arith, ◌∙◌, ap, sym, subst, to_z-of_z}
use Rattle.std.specs.Int.{w64, w128}
use Rattle.std.specs.Prelude.{unsigned_abs}
use Rattle.std.proofs.lemmas.Int.{ints, unsigned_abs-mul, fits_signed_from_abs}
use Rattle.std.proofs.Math.Nat.{mul-le-mul}
use Rattle.linear_formula.proofs.Finishing.{cast_wide}
use Rattle.linear_formula.proofs.Ring.{mul-add, mul-assoc}
use Rattle.linear_formula.proofs.Evaluating.{sum_limit}

size_of_64 : (a : ℤ) → FitsSigned w64 a → unsigned_abs a ≤ 2 ^ 63
size_of_64 a f = omega (arith, ints, f)

pub product_limit : (a b : ℤ) → FitsSigned w64 a → unsigned_abs (a *ℤ b) ≤ 2 ^ 63 * unsigned_abs b
product_limit a b f =
    let e : unsigned_abs a * unsigned_abs b ≤ 2 ^ 63 * unsigned_abs b = mul-le-mul (size_of_64 a f) (omega arith) in
    omega (arith, unsigned_abs-mul a b, e)

pub product_cast : (a b a' b' : ℤ) → a' ≡ a → b' ≡ b → FitsSigned w64 a → unsigned_abs b ≤ 2 ^ 63 → to_z w128 (of_z w128 (a' *ℤ b'))
    ≡ a *ℤ b
product_cast a b a' b' e d f h =
    let small : unsigned_abs (a *ℤ b) ≤ 2 ^ 126 = omega (arith, product_limit a b f, h) in
    subst (λ x. to_z w128 (of_z w128 (x *ℤ b')) ≡ a *ℤ b) (sym e) (subst (λ y. to_z w128 (of_z w128 (a *ℤ y)) ≡ a *ℤ b) (sym d)
    (cast_wide (a *ℤ b) small))

-- the limbs of a sum and a product: f is the factor, q and r its halves, h and t those of the product with q, and g and l the limbs of what
-- is left
pub limbs_add : (high low m f q r p h t u g l : ℤ) → f ≡ (q *ℤ pos (2 ^ 48)) +ℤ r → p ≡ m *ℤ q → p ≡ (h *ℤ pos (2 ^ 48)) +ℤ t → u ≡ m *ℤ r →
    (low +ℤ (t *ℤ pos (2 ^ 48))) +ℤ u ≡ (g *ℤ pos (2 ^ 96)) +ℤ l → (((high +ℤ h) +ℤ g) *ℤ pos (2 ^ 96)) +ℤ l
    ≡ ((high *ℤ pos (2 ^ 96)) +ℤ low)
    +ℤ (m *ℤ f)
limbs_add high low m f q r p h t u g l ef ep es eu el =
    let d : m *ℤ f ≡ ((m *ℤ q) *ℤ pos (2 ^ 48)) +ℤ (m *ℤ r) = ap (λ z. m *ℤ z) ef ∙ mul-add m (q *ℤ pos (2 ^ 48)) r
    ∙ ap (λ z. z +ℤ (m *ℤ r))
    (sym (mul-assoc m q (pos (2 ^ 48)))) in
    linear (m *ℤ f) (m *ℤ q) (m *ℤ r) d (sym ep) (sym eu) where
      linear : (mf mq mr : ℤ) → mf ≡ (mq *ℤ pos (2 ^ 48)) +ℤ mr → mq ≡ p → mr ≡ u → (((high +ℤ h) +ℤ g) *ℤ pos (2 ^ 96)) +ℤ l
          ≡ ((high *ℤ pos (2 ^ 96)) +ℤ low) +ℤ mf
      linear mf mq mr a b c = omega (arith, ints, a, b, c, es, el)

-- a number as the code passes it
abbrev pub passed : ℤ → ℤ
passed z = to_z w128 (of_z w128 z)

abbrev pub passed_64 : ℤ → ℤ
passed_64 z = to_z w64 (of_z w64 z)

pub passed_is : (z : ℤ) → unsigned_abs z < 2 ^ 127 → passed z ≡ z
passed_is z h = to_z-of_z (fits_signed_from_abs w128 z h)

fits_most : (z : ℤ) → unsigned_abs z < 2 ^ 127 → FitsSigned w128 z
fits_most z h = fits_signed_from_abs w128 z h

pub record Limbs (m f q r p h t u : ℤ) : Type 0 where
  pub factor : f ≡ (q *ℤ pos (2 ^ 48)) +ℤ r
  pub product : p ≡ m *ℤ q
  pub split : p ≡ (h *ℤ pos (2 ^ 48)) +ℤ t
  pub rest : u ≡ m *ℤ r
  pub h_limit : unsigned_abs h ≤ 2 ^ 51
  pub t_limit : unsigned_abs t < 2 ^ 48
  pub u_limit : unsigned_abs u ≤ 2 ^ 111

pub limbs_in : (m f q r p h t u : ℤ) → FitsSigned w64 m → unsigned_abs f ≤ 2 ^ 84 → passed f ≡ (q *ℤ pos (2 ^ 48)) +ℤ r →
    unsigned_abs q * 2 ^ 48 ≤ unsigned_abs (passed f) → unsigned_abs r < 2 ^ 48 → p ≡ passed_64 m *ℤ passed q → unsigned_abs p ≤ 2 ^ 63 *
    unsigned_abs (passed q) → passed p ≡ (h *ℤ pos (2 ^ 48)) +ℤ t → unsigned_abs h * 2 ^ 48 ≤ unsigned_abs (passed p) →
    unsigned_abs t < 2 ^ 48 → u ≡ passed_64 m *ℤ passed r → unsigned_abs u ≤ 2 ^ 63 * unsigned_abs (passed r) → Limbs m f q r p h t u
limbs_in m f q r p h t u fm lf ef lq lr ep lp es lh lt eu lu =
    let cf : passed f ≡ f = passed_is f (omega (arith, lf)) in
    let bq : unsigned_abs q ≤ 2 ^ 36 = omega (arith, lq, ap unsigned_abs cf, lf) in
    let cq : passed q ≡ q = passed_is q (omega (arith, bq)) in
    let bp : unsigned_abs p ≤ 2 ^ 99 = omega (arith, lp, ap unsigned_abs cq, bq) in
    let cp : passed p ≡ p = passed_is p (omega (arith, bp)) in
    let bh : unsigned_abs h ≤ 2 ^ 51 = omega (arith, lh, ap unsigned_abs cp, bp) in
    let cr : passed r ≡ r = passed_is r (omega (arith, lr)) in
    let bu : unsigned_abs u ≤ 2 ^ 111 = omega (arith, lu, ap unsigned_abs cr, lr) in
    let cm : passed_64 m ≡ m = to_z-of_z fm in
    record {
      factor = sym cf ∙ ef;
      product = ep ∙ ap (λ z. z *ℤ passed q) cm ∙ ap (λ z. m *ℤ z) cq;
      split = sym cp ∙ es;
      rest = eu ∙ ap (λ z. z *ℤ passed r) cm ∙ ap (λ z. m *ℤ z) cr;
      h_limit = bh;
      t_limit = lt;
      u_limit = bu;
    }

-- the sum of the low limb, the middle and the rest, as the code computes it
abbrev pub middle_of : ℤ → ℤ
middle_of t = passed t *ℤ pos (2 ^ 48)

abbrev pub low_and_middle : ℤ → ℤ → ℤ
low_and_middle low t = passed low +ℤ passed (middle_of t)

abbrev pub low_sum : ℤ → ℤ → ℤ → ℤ
low_sum low t u = passed (low_and_middle low t) +ℤ passed u

middle_is : (t : ℤ) → unsigned_abs t < 2 ^ 48 → (passed (middle_of t) ≡ t *ℤ pos (2 ^ 48)) × (unsigned_abs (t *ℤ pos (2 ^ 48)) < 2 ^ 96)
middle_is t h =
    let b : unsigned_abs (t *ℤ pos (2 ^ 48)) < 2 ^ 96 = omega (arith, ints, h) in
    (ap (λ z. passed (z *ℤ pos (2 ^ 48))) (passed_is t (omega (arith, h))) ∙ passed_is (t *ℤ pos (2 ^ 48)) (omega (arith, b)), b)

low_and_middle_is : (low t : ℤ) → unsigned_abs low < 2 ^ 96 → unsigned_abs t < 2 ^ 48 → (low_and_middle low t ≡ low +ℤ (t *ℤ pos (2 ^ 48)))
    × (unsigned_abs (low +ℤ (t *ℤ pos (2 ^ 48))) < 2 ^ 97)
low_and_middle_is low t hl ht =
    let k = middle_is t ht in (
      ap (λ z. z +ℤ passed (middle_of t)) (passed_is low (omega (arith, hl))) ∙ ap (λ z. low +ℤ z) k.0,
      omega (arith, sum_limit low (t *ℤ pos (2 ^ 48)), hl, k.1),
    )

pub fits_low_and_middle : (low t : ℤ) → unsigned_abs low < 2 ^ 96 → unsigned_abs t < 2 ^ 48 → FitsSigned w128 (low_and_middle low t)
fits_low_and_middle low t hl ht =
    let k = low_and_middle_is low t hl ht in
    subst (λ z. FitsSigned w128 z) (sym k.0) (fits_most (low +ℤ (t *ℤ pos (2 ^ 48))) (omega (arith, k.1)))

low_sum_is : (low t u : ℤ) → unsigned_abs low < 2 ^ 96 → unsigned_abs t < 2 ^ 48 → unsigned_abs u ≤ 2 ^ 111 →
    (low_sum low t u ≡ (low +ℤ (t *ℤ pos (2 ^ 48))) +ℤ u) × (unsigned_abs ((low +ℤ (t *ℤ pos (2 ^ 48))) +ℤ u) ≤ 2 ^ 112)
low_sum_is low t u hl ht hu =
    let k = low_and_middle_is low t hl ht in
    let s = low +ℤ (t *ℤ pos (2 ^ 48)) in (
      ap (λ z. z +ℤ passed u) (ap passed k.0 ∙ passed_is s (omega (arith, k.1))) ∙ ap (λ z. s +ℤ z) (passed_is u (omega (arith, hu))),
      omega (arith, sum_limit s u, k.1, hu),
    )

pub fits_low_sum : (low t u : ℤ) → unsigned_abs low < 2 ^ 96 → unsigned_abs t < 2 ^ 48 → unsigned_abs u ≤ 2 ^ 111 →
    FitsSigned w128 (low_sum low t u)
fits_low_sum low t u hl ht hu =
    let k = low_sum_is low t u hl ht hu in
    subst (λ z. FitsSigned w128 z) (sym k.0) (fits_most ((low +ℤ (t *ℤ pos (2 ^ 48))) +ℤ u) (omega (arith, k.1)))

pub passed_low_sum : (low t u : ℤ) → unsigned_abs low < 2 ^ 96 → unsigned_abs t < 2 ^ 48 → unsigned_abs u ≤ 2 ^ 111 →
    passed (low_sum low t u) ≡ (low +ℤ (t *ℤ pos (2 ^ 48))) +ℤ u
passed_low_sum low t u hl ht hu =
    let k = low_sum_is low t u hl ht hu in
    ap passed k.0 ∙ passed_is ((low +ℤ (t *ℤ pos (2 ^ 48))) +ℤ u) (omega (arith, k.1))

pub carry_limit : (low t u g : ℤ) → unsigned_abs low < 2 ^ 96 → unsigned_abs t < 2 ^ 48 → unsigned_abs u ≤ 2 ^ 111 →
    unsigned_abs g * 2 ^ 96 ≤ unsigned_abs (passed (low_sum low t u)) → unsigned_abs g ≤ 2 ^ 16
carry_limit low t u g hl ht hu h =
    omega (arith, h, ap unsigned_abs (passed_low_sum low t u hl ht hu), (low_sum_is low t u hl ht hu).1)

-- the high limb
abbrev pub high_sum : ℤ → ℤ → ℤ
high_sum high h = passed high +ℤ passed h

pub high_sum_is : (high h : ℤ) → unsigned_abs high ≤ 2 ^ 126 + 2 ^ 51 → unsigned_abs h ≤ 2 ^ 51 → (high_sum high h ≡ high +ℤ h)
    × (unsigned_abs (high +ℤ h) ≤ unsigned_abs high + unsigned_abs h)
high_sum_is high h a b =
    (ap (λ z. z +ℤ passed h) (passed_is high (omega (arith, a))) ∙ ap (λ z. high +ℤ z) (passed_is h (omega (arith, b))), sum_limit high h)

pub fits_high_sum : (high h : ℤ) → unsigned_abs high ≤ 2 ^ 126 + 2 ^ 51 → unsigned_abs h ≤ 2 ^ 51 → FitsSigned w128 (high_sum high h)
fits_high_sum high h a b =
    let k = high_sum_is high h a b in
    subst (λ z. FitsSigned w128 z) (sym k.0) (fits_most (high +ℤ h) (omega (arith, k.1, a, b)))

pub record HighSum (high h g : ℤ) : Type 0 where
  pub value : passed (passed (high_sum high h) +ℤ passed g) ≡ (high +ℤ h) +ℤ g
  pub limit : unsigned_abs ((high +ℤ h) +ℤ g) ≤ unsigned_abs high + 2 ^ 53
  pub fits : FitsSigned w128 (passed (high_sum high h) +ℤ passed g)

pub high_sum_in : (high h g : ℤ) → unsigned_abs high ≤ 2 ^ 126 → unsigned_abs h ≤ 2 ^ 51 → unsigned_abs g ≤ 2 ^ 16 → HighSum high h g
high_sum_in high h g a b d =
    let k = high_sum_is high h (omega (arith, a)) b in
    let s : unsigned_abs (high +ℤ h) ≤ 2 ^ 126 + 2 ^ 51 = omega (arith, k.1, a, b) in
    let c : passed (high_sum high h) ≡ high +ℤ h = ap passed k.0 ∙ passed_is (high +ℤ h) (omega (arith, s)) in
    let e : passed (high_sum high h) +ℤ passed g ≡ (high +ℤ h) +ℤ g = ap (λ z. z +ℤ passed g) c ∙ ap (λ z. (high +ℤ h) +ℤ z)
    (passed_is g (omega (arith, d))) in
    let l : unsigned_abs ((high +ℤ h) +ℤ g) ≤ unsigned_abs high + 2 ^ 53 = omega (arith, k.1, sum_limit (high +ℤ h) g, b, d) in
    record {
      value = ap passed e ∙ passed_is ((high +ℤ h) +ℤ g) (omega (arith, l, a));
      limit = l;
      fits = subst (λ z. FitsSigned w128 z) (sym e) (fits_most ((high +ℤ h) +ℤ g) (omega (arith, l, a)));
    }
