-- The entries that the lines of a table stand for.
use Rattle.std.proofs.Common.{◌≡◌, inl, inr, ℕ, ◌<◌, Bool, true, false, Option, None, Some, List, [], ◌∷◌, ◌++◌, length, get_or, set, ℤ, arith, refl, sym, ap, subst, ◌∙◌}
use Rattle.std.specs.Int.{int_min}
use Rattle.std.specs.Prelude.{MatchOption, int_lt, if◌then◌else◌}
use Rattle.std.proofs.lemmas.List.{get_or-map, length-map, map-append, map-set}
use Rattle.linear_formula.specs.LinearSum.{LinearSum}
use Rattle.lia_solver.specs.declared.table.Line.{Line}
use Rattle.lia_solver.specs.declared.table.Origin.{Origin}
use Rattle.lia_solver.specs.steps.Entries.{Entry, entry_of, first_of, joined, IsAdded}
use Rattle.lia_solver.specs.steps.Lines.{parts_of_line, entries_of, parts_at, joined_line, AreInPool}
use Rattle.lia_solver.proofs.Chains.{no_line, map-more, range-more, parts-map, IsLastLine, last-parts}

abbrev pub entry_of_line : List (ℕ × ℤ) → Line → Entry
entry_of_line pool l = record {
  sum = record { parts = parts_of_line pool l; constant = l.constant };
  least = l.least;
  origin = l.origin;
}

entry-at : (pool : List (ℕ × ℤ)) (lines : List Line) (i : ℕ) (d : Line) (e : Entry) → i < length lines → get_or (entries_of pool lines) i e
    ≡ entry_of_line pool (get_or lines i d)
entry-at pool lines i d e h = get_or-map (entry_of_line pool) lines i d e h

entry-parts : (pool : List (ℕ × ℤ)) (lines : List Line) (i : ℕ) (e : Entry) → i < length lines →
    (get_or (entries_of pool lines) i e).sum.parts ≡ parts_at pool lines i
entry-parts pool lines i e h =
    ap (λ (x : Entry). x.sum.parts) (entry-at pool lines i no_line e h) ∙ sym (parts-map pool lines i no_line h)

-- the first column of a row, as its line keeps it
pub first-is : (pool : List (ℕ × ℤ)) (lines : List Line) (old : List Entry) (i : ℕ) (d : Line) (e : Entry) → entries_of pool lines ≡ old →
    AreInPool pool lines → i < length old → (get_or lines i d).first ≡ first_of (get_or old i e).sum.parts
first-is pool lines old i d e v p h =
    p.first i d inside ∙ ap first_of (sym (entry-parts pool lines i e inside))
    ∙ ap (λ (es : List Entry). first_of (get_or es i e).sum.parts) v where
      inside : i < length lines
      inside = omega (arith, h, ap (λ (es : List Entry). length es) v, length-map lines (entry_of_line pool))

joined-entry : (pool : List (ℕ × ℤ)) (l : Line) (t : LinearSum) (o : Origin) → parts_of_line pool l ≡ t.parts →
    entry_of_line pool (joined_line l t.constant o) ≡ joined (entry_of_line pool l) t o
joined-entry pool l t o e = by_test (int_lt l.constant t.constant) where
  by_test : (b : Bool) →
      entry_of_line pool (if b then record l { constant = t.constant; least = int_min l.least t.constant; origin = o }
      else record l { least = int_min l.least t.constant })
      ≡ (if b then record { sum = t; least = int_min l.least t.constant; origin = o }
      else record {
        sum = record { parts = parts_of_line pool l; constant = l.constant };
        least = int_min l.least t.constant;
        origin = l.origin;
      })
  by_test true = λ i. record {
    sum = record { parts = e i; constant = t.constant };
    least = int_min l.least t.constant;
    origin = o;
  }
  by_test false = refl

pub added-joined : (pool : List (ℕ × ℤ)) (lines : List Line) (old : List Entry) (i : ℕ) (t : LinearSum) (o : Origin) →
    entries_of pool lines ≡ old → i < length lines → parts_at pool lines i ≡ t.parts →
    IsAdded t o old (entries_of pool (set lines i (joined_line (get_or lines i no_line) t.constant o)))
added-joined pool lines old i t o v h e = inl (record {
  place = i;
  entry = entry_of_line pool line;
  inside = subst (λ (es : List Entry). i < length es) v (omega (arith, h, length-map lines (entry_of_line pool)));
  here = subst (λ (es : List Entry). entry_of_line pool line ≡ get_or es i (entry_of_line pool line)) v
      (sym (entry-at pool lines i no_line (entry_of_line pool line) h));
  parts = here;
  set = map-set (entry_of_line pool) lines i (joined_line line t.constant o) ∙ ap (λ (x : Entry). set (entries_of pool lines) i x)
      (joined-entry pool line t o here) ∙ ap (λ (es : List Entry). set es i (joined (entry_of_line pool line) t o)) v;
}) where
  line : Line
  line = get_or lines i no_line

  here : parts_of_line pool line ≡ t.parts
  here = sym (parts-map pool lines i no_line h) ∙ e

pub added-new : (chains : ℕ) (pool : List (ℕ × ℤ)) (lines : List Line) (heads : List ℕ) (old : List Entry) (t : LinearSum) (o : Origin)
    (l : Line) → entries_of pool lines ≡ old → AreInPool pool lines → ((i : ℕ) → i < length lines → parts_at pool lines i ≡ t.parts → ⊥) →
    IsLastLine chains pool t.parts heads l → l.constant ≡ t.constant → l.least ≡ t.constant → l.origin ≡ o →
    IsAdded t o old (entries_of (pool ++ t.parts) (lines ++ l ∷ []))
added-new chains pool lines heads old t o l v c n h e f g = inr (record {
  other = λ i x k d. n i (inside i k) (sym (entry-parts pool lines i x (inside i k)) ∙ ap (λ (es : List Entry). (get_or es i x).sum.parts) v
      ∙ d);
  pushed = map-append (entry_of_line all) lines (l ∷ []) ∙ ap (λ (es : List Entry). es ++ entry_of_line all l ∷ []) (same ∙ v)
      ∙ ap (λ (x : Entry). old ++ x ∷ []) whole;
}) where
  all : List (ℕ × ℤ)
  all = pool ++ t.parts

  inside : (i : ℕ) → i < length old → i < length lines
  inside i k = omega (arith, k, ap (λ (es : List Entry). length es) v, length-map lines (entry_of_line pool))

  same : entries_of all lines ≡ entries_of pool lines
  same = map-more (entry_of_line all) (entry_of_line pool) lines (λ i d k. ap (λ ps. record {
    sum = record { parts = ps; constant = (get_or lines i d).constant };
    least = (get_or lines i d).least;
    origin = (get_or lines i d).origin;
  }) (range-more pool t.parts (get_or lines i d).start (get_or lines i d).end (c.inside i d k).0 (c.inside i d k).1))

  whole : entry_of_line all l ≡ entry_of t o
  whole = λ i. record {
    sum = record { parts = last-parts chains pool t.parts heads l h i; constant = e i };
    least = f i;
    origin = g i;
  }

-- a row with these coefficients, as a search along its chain finds it
pub place-is : (sought pool items : List (ℕ × ℤ)) (lines found : List Line) (old : List Entry) (o : Option ℕ) → items ≡ pool →
    found ≡ lines →
    entries_of pool lines ≡ old → MatchOption o ((i : ℕ) → i < length found → parts_at items found i ≡ sought → ⊥) (λ i. (i < length found)
    × (parts_at items found i ≡ sought)) → MatchOption o ((i : ℕ) (e : Entry) → i < length old → (get_or old i e).sum.parts ≡ sought → ⊥)
    (λ i. (i < length old) × ((e : Entry) → (get_or old i e).sum.parts ≡ sought))
place-is sought pool items lines found old o p l v m = by_option o m where
  count : length found ≡ length old
  count =
      ap (λ (ls : List Line). length ls) l ∙ sym (length-map lines (entry_of_line pool)) ∙ ap (λ (es : List Entry). length es) v

  parts : (i : ℕ) (e : Entry) → i < length old → (get_or old i e).sum.parts ≡ parts_at items found i
  parts i e h =
      ap (λ (es : List Entry). (get_or es i e).sum.parts) (sym v)
      ∙ entry-parts pool lines i e (omega (arith, h, count, ap (λ (ls : List Line). length ls) l))
      ∙ sym (ap (λ ls. parts_at items ls i) l ∙ ap (λ ps. parts_at ps lines i) p)

  by_option : (q : Option ℕ) → MatchOption q ((i : ℕ) → i < length found → parts_at items found i ≡ sought → ⊥) (λ i. (i < length found)
      × (parts_at items found i ≡ sought)) → MatchOption q ((i : ℕ) (e : Entry) → i < length old → (get_or old i e).sum.parts ≡ sought → ⊥)
      (λ i. (i < length old) × ((e : Entry) → (get_or old i e).sum.parts ≡ sought))
  by_option None h = λ i e k d. h i (omega (arith, k, count)) (sym (parts i e k) ∙ d)
  by_option (Some i) h =
      let inside : i < length old = omega (arith, h.0, count) in
      (inside, λ e. parts i e inside ∙ h.1)
