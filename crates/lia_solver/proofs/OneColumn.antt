-- The columns of a table, one after another.
use Rattle.std.proofs.Common.{◌≡◌, ◌⊎◌, inl, inr, ℕ, ◌<◌, ◌≤◌, ◌+◌, ◌^◌, Bool, true, false, List, [], ◌∷◌, length, ℤ, pos, arith, refl, sym, ap, subst, ◌∙◌}
use Rattle.std.specs.Prelude.{IsTrue, ◌<ℤ◌, int_le}
use Rattle.std.specs.List.{list_any}
use Rattle.std.proofs.lemmas.Int.{ints}
use Rattle.linear_formula.specs.LinearSum.{LinearSum, is_ascending_from, is_within}
use Rattle.infeasible_cert.proofs.Ascending.{Ascends}
use Rattle.shadow_elim.specs.Elimination.{pair_sum}
use Rattle.shadow_elim.specs.Points.{chosen, too_wide, too_many_rows, outcome}
use Rattle.shadow_elim.specs.Reduction.{has_no_parts, is_trivial, is_contradiction}
use Rattle.shadow_elim.proofs.Filtering.{among-any}
use Rattle.shadow_elim.proofs.Keeping.{IsPairOf}
use Rattle.shadow_elim.proofs.Members.{any-among, contains-among, among-contains}
use Rattle.shadow_elim.proofs.Staying.{same_parts-decides}
use Rattle.shadow_elim.proofs.Tests.{both_true}
use Rattle.lia_solver.specs.declared.columnwise.Chosen.{Chosen}
use Rattle.lia_solver.specs.declared.columnwise.Chosen.TheVariants as found
use Rattle.lia_solver.specs.declared.table.Origin.{Origin}
use Rattle.lia_solver.specs.declared.table.Origin.TheVariants.{Given, Made}
use Rattle.lia_solver.specs.steps.Entries.{Entry, entry_at, sum_at}
use Rattle.lia_solver.specs.steps.Solved.{AreReady, IsMadeEarlier, IsOf, HaveOrigins, AreKept, IsChosenIn}
use Rattle.lia_solver.specs.steps.Tables.{starts_from, live, AreRows, IsOld, IsMadeIn, IsGrown, IsBehind, IsOverfull, HasWide}
use Rattle.lia_solver.proofs.Behind.{IsReady, ready-is, is-ready, live-among, live-place, live-strongest, places-pair, pair-places, grown-from, behind-ready}
use Rattle.lia_solver.proofs.ChosenPoints.{ascends-from_lower, values-ascend, outcome-chosen}
use Rattle.lia_solver.proofs.Closing.{is-contradiction, contradiction-is}
use Rattle.lia_solver.proofs.FirstColumns.{sum-starts}
use Rattle.lia_solver.proofs.Growing.{made-forth, same-then, same-lower}
use Rattle.lia_solver.proofs.Stepping.{column-wide, column-overfull}

no_way : true ≡ false → ⊥
no_way h = cc

-- Without columns

-- a row without columns that can fail never holds
pub bare-never : (entries : List Entry) (i : ℕ) → AreRows entries → i < length entries → (sum_at entries i).parts ≡ [] →
    IsTrue (is_contradiction (sum_at entries i))
bare-never entries i r h e =
    by_value (int_le t.constant (pos 0)) refl where
      t : LinearSum
      t = sum_at entries i

      by_value : (b : Bool) → int_le t.constant (pos 0) ≡ b → IsTrue (is_contradiction t)
      by_value true k =
          let trivial : is_trivial t ≡ true = both_true (has_no_parts t) (int_le t.constant (pos 0)) ((same_parts-decides t.parts []).1 e) k
          in
          absurd (no_way (sym trivial ∙ r.real i h))
      by_value false k =
          is-contradiction t (ap (λ (ps : List (ℕ × ℤ)). length ps) e) (above t.constant k) where
            above : (z : ℤ) → int_le z (pos 0) ≡ false → pos 0 <ℤ z
            above z q = grind (arith, ints)

pub bare-contradiction : (low : ℕ) (entries : List Entry) (i : ℕ) → AreRows entries → i < length entries → (sum_at entries i).parts ≡ [] →
    list_any is_contradiction (live low entries) ≡ true
bare-contradiction low entries i r h e =
    among-any is_contradiction (live low entries) (sum_at entries i) (live-among low entries i h (ap (starts_from low) e))
    (bare-never entries i r h e)

pub bare-none : (low : ℕ) (entries : List Entry) → ((i : ℕ) → i < length entries → (sum_at entries i).parts ≡ [] → ⊥) →
    list_any is_contradiction (live low entries) ≡ false
bare-none low entries n = by_value (list_any is_contradiction (live low entries)) refl where
  by_value : (b : Bool) → list_any is_contradiction (live low entries) ≡ b → b ≡ false
  by_value true e =
      let f = any-among is_contradiction (live low entries) e in
      let p = live-place low entries f.0 f.1 in
      absurd (n p.place p.inside (ap (λ (t : LinearSum). t.parts) p.here ∙ (contradiction-is f.0 f.2).parts))
  by_value false e = refl

-- Origins

origin-later : (base : List LinearSum) (low high : ℕ) (entries : List Entry) (e : Entry) (o : Origin) → low ≤ high →
    IsOf base low entries e o → IsOf base high entries e o
origin-later base low high entries e (Given n) h k = k
origin-later base low high entries e (Made m) h k = record {
  column = k.column;
  earlier = omega (arith, h, k.earlier);
  beyond = k.beyond;
  made = k.made;
}

pub origins-later : (base : List LinearSum) (low high : ℕ) (entries : List Entry) → low ≤ high → HaveOrigins base low entries →
    HaveOrigins base high entries
origins-later base low high entries h k i q =
    origin-later base low high entries (entry_at entries i) (entry_at entries i).origin h (k i q)

pub origins-grown : (base : List LinearSum) (low x : ℕ) (old new : List Entry) → low ≤ x → HaveOrigins base low old → IsGrown x old new →
    HaveOrigins base (x + 1) new
origins-grown base low x old new h k g i q = by_from (entry_at new i) (g.from i q) where
  by_made : (e : Entry) → IsMadeIn x old e → IsMadeEarlier (x + 1) new e
  by_made e m =
      let p = m.paired in
      let s = sum-starts x (sum_at old m.upper) (sum_at old m.lower) (p.terms.greatest m.upper p.upper_place)
      (p.terms.greatest m.lower p.lower_place) p.above p.below m.within in
      record {
        column = x;
        earlier = omega arith;
        beyond = ap (λ (t : LinearSum). starts_from (x + 1) t.parts) m.sum ∙ s.1;
        made = made-forth x old new e g.rows g.same m;
      }

  by_old : (e f : Entry) (o : Origin) → e.sum ≡ f.sum → e.origin ≡ f.origin → IsOf base low old f o → IsOf base (x + 1) new e o
  by_old e f (Given n) s r p = (p.0, p.1 ∙ sym s)
  by_old e f (Made m) s r p =
      let below : p.column + 1 ≤ x + 1 = omega (arith, p.earlier, h) in
      record {
        column = p.column;
        earlier = omega (arith, p.earlier, h);
        beyond = ap (λ (t : LinearSum). starts_from (p.column + 1) t.parts) s ∙ p.beyond;
        made = made-forth p.column old new e g.rows (same-lower (p.column + 1) (x + 1) old new below g.same) (record {
          upper = p.made.upper;
          lower = p.made.lower;
          paired = p.made.paired;
          within = p.made.within;
          sum = s ∙ p.made.sum;
          origin = r ∙ p.made.origin;
        });
      }

  by_from : (e : Entry) → IsOld old e ⊎ IsMadeIn x old e → IsOf base (x + 1) new e e.origin
  by_from e (inl o) =
      subst (IsOf base (x + 1) new e) (sym o.origin) (by_old e (entry_at old o.place) (entry_at old o.place).origin o.sum o.origin
      (k o.place o.inside))
  by_from e (inr m) = subst (IsOf base (x + 1) new e) (sym m.origin) (by_made e m)

-- One column

pub wide-is : (x : ℕ) (xs : List ℕ) (low : ℕ) (entries : List Entry) → AreReady low (x ∷ xs) entries → HasWide x entries →
    outcome (x ∷ xs) (live low entries) ≡ too_wide
wide-is x xs low entries ready w =
    let r = ready-is low (x ∷ xs) entries ready in
    column-wide x xs (live low entries) (sum_at entries w.upper) (sum_at entries w.lower)
    (places-pair x low entries w.upper w.lower r.ascends.0 w.paired) w.wide

pub overfull-is : (x : ℕ) (xs : List ℕ) (low : ℕ) (old new : List Entry) → AreReady low (x ∷ xs) old → IsOverfull x old new →
    outcome (x ∷ xs) (live low old) ≡ too_many_rows
overfull-is x xs low old new ready o =
    let r = ready-is low (x ∷ xs) old ready in
    column-overfull x xs (live low old) (live (x + 1) new) (live-strongest (x + 1) new o.grown.rows)
    (λ u l p. narrow u l r p) (grown-from x xs low old new r o.grown) o.count where
      narrow : (u l : LinearSum) → IsReady low (x ∷ xs) old → IsPairOf x (live low old) u l → IsTrue (is_within (pair_sum x (u, l)))
      narrow u l r p =
          let f = pair-places x xs low old u l r p in
          subst (λ (s : LinearSum). IsTrue (is_within (pair_sum x (s, l)))) f.3 (subst (λ (s : LinearSum). IsTrue
          (is_within (pair_sum x (sum_at old f.0, s)))) f.4 (o.narrow f.0 f.1 f.2))

-- the others are ready after it
pub ready-next : (x : ℕ) (xs : List ℕ) (low : ℕ) (old new : List Entry) → x < 2 ^ 32 → AreReady low (x ∷ xs) old → IsBehind x old new →
    AreReady (x + 1) xs new
ready-next x xs low old new h ready b =
    is-ready (x + 1) xs new (omega (arith, h)) (behind-ready x xs low old new (ready-is low (x ∷ xs) old ready) b)

-- values of the others ascend
pub values-above : (x : ℕ) (xs : List ℕ) (entries : List Entry) (values : List (ℕ × ℤ)) → AreReady (x + 1) xs entries →
    outcome xs (live (x + 1) entries) ≡ chosen values → IsTrue (is_ascending_from (x + 1) values)
values-above x xs entries values ready o =
    let r = ready-is (x + 1) xs entries ready in
    let c = outcome-chosen xs (live (x + 1) entries) values (ascends-from_lower (x + 1) 0 xs (omega arith) r.ascends) r.terms r.named o in
    values-ascend (x + 1) values (subst (Ascends (x + 1)) (sym c.columns) r.ascends)

pub kept-next : (x : ℕ) (xs : List ℕ) (old mid new : List Entry) → IsBehind x old mid → AreReady (x + 1) xs mid → AreKept xs mid new →
    AreKept (x ∷ xs) old new
kept-next x xs old mid new b ready k = record {
  rows = k.rows;
  same = λ low first.
      let r = ready-is low (x ∷ xs) old first in
      same-lower low (x + 1) old new (omega (arith, r.ascends.0)) (same-then (x + 1) old mid new b.grown.same (k.same (x + 1) ready));
}

pub found-passed : (x : ℕ) (xs : List ℕ) (old mid new : List Entry) (c : Chosen) → IsBehind x old mid → AreReady (x + 1) xs mid →
    ((values : List (ℕ × ℤ)) → c ≡ found.Values values → ⊥) → IsChosenIn xs mid new c → IsChosenIn (x ∷ xs) old new c
found-passed x xs old mid new (found.Values values) b ready n h = absurd (n values refl)
found-passed x xs old mid new (found.Split y at) b ready n h =
    (h.0, among-contains (x ∷ xs) y (inr (contains-among xs y h.1)))
found-passed x xs old mid new (found.Contradiction place) b ready n h = record {
  rows = h.rows;
  inside = h.inside;
  never = h.never;
  origins = λ base low first k.
      let r = ready-is low (x ∷ xs) old first in
      h.origins base (x + 1) ready (origins-grown base low x old mid r.ascends.0 k b.grown);
}
found-passed x xs old mid new found.Wide b ready n h = tt
found-passed x xs old mid new found.Rows b ready n h = tt
