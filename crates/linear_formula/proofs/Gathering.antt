-- Sums by their columns, as parts.
use Rattle.std.proofs.Common.{◌≡◌, ℕ, ◌<◌, ◌≤◌, ◌+◌, ◌^◌, Bool, true, false, cond, List, [], ◌∷◌, ◌++◌, ℤ, ◌+ℤ◌, ◌*ℤ◌, ◌==◌, nat_lt, Some, to_z, of_z, to_z-of_z, FitsSigned, append-nil, arith, refl, ◌∙◌, ap, sym, subst}
use Rattle.std.specs.Prelude.{unsigned_abs, unwrap_or}
use Rattle.std.specs.Int.{w64, w128}
use Rattle.linear_formula.specs.steps.Gathered.{Gathered}
use Rattle.std.specs.Ordering.{nat_cmp, is_eq, match_ordering}
use Rattle.std.specs.declared.cmp.Ordering.TheVariants.{Less, Equal, Greater}
use Rattle.std.specs.Map.{lookup}
use Rattle.std.specs.BTreeMap.{insert_entry, is_at}
use Rattle.std.proofs.lemmas.Int.{ints}
use borrow.Author.Tests.{eqb-true, ltb-true, ltb-false, eqb_apart}
use Rattle.linear_formula.specs.declared.exact_sum.ExactSum.{ExactSum}
use Rattle.linear_formula.specs.steps.Exact.{exact_value, exact_parts, HasRoom, AreSums, no_sum}
use Rattle.linear_formula.specs.steps.Order.{InOrder, AllWithin}
use Rattle.linear_formula.specs.Results.{put_part, with_part}
use Rattle.linear_formula.proofs.Fronts.{with_part-front, with_part-past, with_part-met}
use Rattle.linear_formula.proofs.Order.{InOrder-put}
use Rattle.linear_formula.proofs.Merging.{pushed, pushed-within, stopped}

pub AreSums-lower : (adds low next : ℕ) (es : List (ℕ × ExactSum)) → low ≤ next → AreSums adds next es → AreSums adds low es
AreSums-lower adds low next [] h s = tt
AreSums-lower adds low next (e ∷ es) h s = (omega (arith, s.0), s.1, s.2, s.3)

pub HasRoom-more : (adds more : ℕ) (s : ExactSum) → adds ≤ more → HasRoom adds s → HasRoom more s
HasRoom-more adds more s h r = (omega (arith, h, r.0), r.1)

pub AreSums-more : (adds more low : ℕ) (es : List (ℕ × ExactSum)) → adds ≤ more → AreSums adds low es → AreSums more low es
AreSums-more adds more low [] h s = tt
AreSums-more adds more low (e ∷ es) h s = (s.0, s.1, HasRoom-more adds more e.1 h s.2, AreSums-more adds more (e.0 + 1) es h s.3)

pub InOrder-exact : (adds low : ℕ) (es : List (ℕ × ExactSum)) → AreSums adds low es → InOrder low (exact_parts es)
InOrder-exact adds low [] s = tt
InOrder-exact adds low (e ∷ es) s =
    InOrder-put low e.0 (exact_value e.1) (exact_parts es) s.0 s.1 (InOrder-exact adds (e.0 + 1) es s.3)

-- the sum that a look-up finds
abbrev pub found_at : ℕ → List (ℕ × ExactSum) → ExactSum
found_at x es = unwrap_or (lookup (is_at (nat_cmp x)) es) no_sum

pub found-room : (adds low x : ℕ) (es : List (ℕ × ExactSum)) → AreSums adds low es → HasRoom adds (found_at x es)
found-room adds low x [] s = (omega (arith, ints), omega (arith, ints))
found-room adds low x (e ∷ es) s =
    by_test (is_at (nat_cmp x) e.0) (found-room adds (e.0 + 1) x es s.3) where
      by_test : (b : Bool) → HasRoom adds (found_at x es) → HasRoom adds (unwrap_or (cond b (Some e.1) (lookup (is_at (nat_cmp x)) es))
          no_sum)
      by_test true h = s.2
      by_test false h = h

absent : (adds low x : ℕ) (es : List (ℕ × ExactSum)) → x < low → AreSums adds low es → found_at x es ≡ no_sum
absent adds low x [] h s = refl
absent adds low x (e ∷ es) h s =
    by_tests (nat_lt x e.0) (x == e.0) refl refl (absent adds (e.0 + 1) x es (omega (arith, s.0)) s.3) where
      by_tests : (b c : Bool) → nat_lt x e.0 ≡ b → (x == e.0) ≡ c → found_at x es ≡ no_sum →
          unwrap_or (cond (is_eq (cond b Less (cond c Equal Greater))) (Some e.1) (lookup (is_at (nat_cmp x)) es)) no_sum ≡ no_sum
      by_tests true c d f k = k
      by_tests false true d f k = absurd (omega (arith, eqb-true x e.0 f, s.0))
      by_tests false false d f k = k

pub AreSums-insert : (adds low x : ℕ) (new : ExactSum) (es : List (ℕ × ExactSum)) → low ≤ x → x < 2 ^ 32 → HasRoom adds new →
    AreSums adds low es → AreSums adds low (insert_entry nat_cmp es x new)
AreSums-insert adds low x new [] h k r s = (h, k, r, tt)
AreSums-insert adds low x new (e ∷ es) h k r s =
    by_tests (nat_lt x e.0) (x == e.0) refl refl (λ m. AreSums-insert adds (e.0 + 1) x new es m k r s.3) where
      by_tests : (b c : Bool) → nat_lt x e.0 ≡ b → (x == e.0) ≡ c → (e.0 + 1 ≤ x → AreSums adds (e.0 + 1) (insert_entry nat_cmp es x new)) →
          AreSums adds low (match_ordering (cond b Less (cond c Equal Greater)) ((x, new) ∷ e ∷ es) ((e.0, new) ∷ es)
          (e ∷ insert_entry nat_cmp es x new))
      by_tests true c d f g = (h, k, r, (omega (arith, ltb-true x e.0 d), s.1, s.2, s.3))
      by_tests false true d f g = (s.0, s.1, r, s.3)
      by_tests false false d f g =
          (s.0, s.1, s.2, g (omega (arith, ltb-false x e.0 d, eqb_apart x e.0 f)))

-- a sum put back with d more is a part more
pub exact-insert : (adds low x : ℕ) (new : ExactSum) (d : ℤ) (es : List (ℕ × ExactSum)) → AreSums adds low es → exact_value new
    ≡ exact_value (found_at x es) +ℤ d → exact_parts (insert_entry nat_cmp es x new) ≡ with_part x d (exact_parts es)
exact-insert adds low x new d [] s h = ap (λ z. put_part x z []) (h ∙ omega (arith, ints))
exact-insert adds low x new d (e ∷ es) s h =
    by_tests (nat_lt x e.0) (x == e.0) refl refl h (λ k. exact-insert adds (e.0 + 1) x new d es s.3 k) where
      by_tests : (b c : Bool) → nat_lt x e.0 ≡ b → (x == e.0) ≡ c → exact_value new
          ≡ exact_value (unwrap_or (cond (is_eq (cond b Less (cond c Equal Greater))) (Some e.1) (lookup (is_at (nat_cmp x)) es)) no_sum) +ℤ
          d → (exact_value new ≡ exact_value (found_at x es) +ℤ d → exact_parts (insert_entry nat_cmp es x new) ≡ with_part x d
          (exact_parts es)) →
          exact_parts (match_ordering (cond b Less (cond c Equal Greater)) ((x, new) ∷ e ∷ es) ((e.0, new) ∷ es)
          (e ∷ insert_entry nat_cmp es x new))
          ≡ with_part x d (put_part e.0 (exact_value e.1) (exact_parts es))
      by_tests true c l f k g =
          let before : AreSums adds (x + 1) (e ∷ es) = (omega (arith, ltb-true x e.0 l), s.1, s.2, s.3) in
          let none : found_at x es ≡ no_sum = absent adds (e.0 + 1) x es (omega (arith, ltb-true x e.0 l)) s.3 in
          let is : exact_value new ≡ d = k ∙ ap (λ z. exact_value z +ℤ d) none ∙ omega (arith, ints) in
          ap (λ z. put_part x z (exact_parts (e ∷ es))) is
          ∙ sym (with_part-front x d (exact_parts (e ∷ es)) (InOrder-exact adds (x + 1) (e ∷ es) before))
      by_tests false true l f k g =
          let is : exact_value new ≡ d +ℤ exact_value e.1 = k ∙ omega (arith, ints) in
          let same : e.0 ≡ x = sym (eqb-true x e.0 f) in
          let rest : InOrder (e.0 + 1) (exact_parts es) = InOrder-exact adds (e.0 + 1) es s.3 in
          ap (λ z. put_part e.0 z (exact_parts es)) is ∙ sym (with_part-met e.0 d (exact_value e.1) (exact_parts es) rest)
          ∙ ap (λ y. with_part y d (put_part e.0 (exact_value e.1) (exact_parts es))) same
      by_tests false false l f k g =
          ap (put_part e.0 (exact_value e.1)) (g k) ∙ sym (with_part-past e.0 x (exact_value e.1) d (exact_parts es)
          (omega (arith, ltb-false x e.0 l, eqb_apart x e.0 f)))

-- the parts are listed as far as the rest
pub record Listing (adds : ℕ) (whole : List (ℕ × ℤ)) (out : List (ℕ × ℤ)) (rest : List (ℕ × ExactSum)) : Type 0 where
  pub sums : AreSums adds 0 rest
  pub items : out ++ exact_parts rest ≡ whole
  pub limit : AllWithin out

pub listing-steps : (adds : ℕ) (whole : List (ℕ × ℤ)) (out new : List (ℕ × ℤ)) (e : ℕ × ExactSum) (rest after : List (ℕ × ExactSum)) (x : ℕ)
    (c : ℤ) → Listing adds whole out rest → rest ≡ e ∷ after → x ≡ e.0 → c ≡ exact_value e.1 → new ≡ out ++ put_part x c [] →
    unsigned_abs c ≤ 2 ^ 40 → Listing adds whole new after
listing-steps adds whole out new e rest after x c s is ex ec en small =
    let k : AreSums adds 0 (e ∷ after) = subst (λ l. AreSums adds 0 l) is s.sums in
    record {
      sums = AreSums-lower adds 0 (e.0 + 1) after (omega arith) k.3;
      items = pushed out new (exact_parts after) x c en ∙ ap (λ y. out ++ put_part y c (exact_parts after)) ex
          ∙ ap (λ z. out ++ put_part e.0 z (exact_parts after)) ec ∙ ap (λ l. out ++ exact_parts l) (sym is) ∙ s.items;
      limit = pushed-within out new x c en small s.limit;
    }

pub listing-stops : (adds : ℕ) (whole : List (ℕ × ℤ)) (out : List (ℕ × ℤ)) (e : ℕ × ExactSum) (rest after : List (ℕ × ExactSum)) →
    Listing adds whole out rest → rest ≡ e ∷ after → 2 ^ 40 < unsigned_abs (exact_value e.1) → ¬ AllWithin whole
listing-stops adds whole out e rest after s is wide =
    stopped out (exact_parts after) whole e.0 (exact_value e.1) (ap (λ l. out ++ exact_parts l) (sym is) ∙ s.items) wide

pub listing-ends : (adds : ℕ) (whole : List (ℕ × ℤ)) (out : List (ℕ × ℤ)) (rest : List (ℕ × ExactSum)) → Listing adds whole out rest →
    rest ≡ [] → out ≡ whole
listing-ends adds whole out rest s is =
    sym (append-nil out) ∙ ap (λ l. out ++ exact_parts l) (sym is) ∙ s.items

-- a product as the code passes its factors
pub factors_passed : (m k : ℤ) → FitsSigned w64 m → FitsSigned w128 k → to_z w64 (of_z w64 m) *ℤ to_z w128 (of_z w128 k) ≡ m *ℤ k
factors_passed m k f g = ap (λ z. z *ℤ to_z w128 (of_z w128 k)) (to_z-of_z f) ∙ ap (λ z. m *ℤ z) (to_z-of_z g)

pub listing-begins : (g : Gathered) (adds : ℕ) (es : List (ℕ × ExactSum)) (out : List (ℕ × ℤ)) → AreSums adds 0 es → adds ≡ g.adds →
    exact_parts es ≡ g.parts → out ≡ [] → Listing g.adds g.parts out es
listing-begins g adds es out s e d o = record {
  sums = subst (λ n. AreSums n 0 es) e s;
  items = ap (λ l. l ++ exact_parts es) o ∙ d;
  limit = subst (λ l. AllWithin l) (sym o) tt;
}
