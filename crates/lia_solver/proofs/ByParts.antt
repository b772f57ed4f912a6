-- Columns that are eliminated from some rows before others join them.
use Rattle.std.proofs.Common.{◌≡◌, ◌⊎◌, inl, inr, ℕ, zero, suc, ◌+◌, ◌-◌, ◌*◌, ◌≤◌, ◌==◌, Bool, true, false, ◌||◌, List, [], ◌∷◌, ◌++◌, length, Option, ℤ, pos, negsuc, Contains, arith, refl, sym, ap, subst, ◌∙◌}
use Rattle.std.specs.Prelude.{IsTrue, ◌≤ℤ◌, nat_le, nat_lt, int_lt, filter, flat_map, map, if◌then◌else◌}
use Rattle.std.specs.List.{list_all}
use Rattle.std.proofs.lemmas.Bool.Decides.{nat_tests}
use Rattle.std.proofs.lemmas.Int.{ints}
use Rattle.std.proofs.lemmas.List.{length-append, map-append, length-map}
use borrow.Author.Tests.{eqb-true}
use Rattle.linear_formula.specs.LinearSum.{LinearSum, coefficient, is_within, is_zero}
use Rattle.linear_formula.specs.declared.formula.Atom.{Atom}
use Rattle.infeasible_cert.specs.Right.{rows_of, range_rows}
use Rattle.shadow_elim.specs.Division.{tightened}
use Rattle.shadow_elim.specs.Elimination.{is_upper, is_lower, is_free, pairs, pair_sum, pair_sums, Remainder, remains, wide, too_many, counted, after_column, and_then, elimination, first_inexact, listed_rows}
use Rattle.shadow_elim.specs.Projection.{gives, atoms_of, left_by, projected}
use Rattle.shadow_elim.specs.Reduction.{reduced}
use Rattle.shadow_elim.specs.Shadows.{NamesNone}
use Rattle.shadow_elim.specs.Stages.{IsStage, AreStages}
use Rattle.shadow_elim.specs.declared.elimination.Stage.{Stage}
use Rattle.shadow_elim.specs.declared.limit.TheConstants.{MAX_ROWS}
use Rattle.shadow_elim.proofs.Keeping.{IsPairOf, IsFreeIn, IsMadeOf, IsAfter, after-is, elimination-first, remains-same}
use Rattle.shadow_elim.proofs.Members.{Among, among-append_left, among-append_right, among-append_cases, among-contains}
use Rattle.shadow_elim.proofs.Naming.{IsAbsent}
use Rattle.shadow_elim.proofs.Projecting.{absent-range, unnamed-absent, projected-left}
use Rattle.shadow_elim.proofs.Staying.{IsCovered, at-least-itself, can-fail, reduced-among}
use Rattle.lia_solver.specs.ByParts.{KeepsRoom, most_rows, rows_behind}
use Rattle.lia_solver.proofs.Covered.{behind, behind-is, behind-strongest, SameBehind, behind-same, width-among}
use Rattle.lia_solver.proofs.Covering.{Covers, covered-weaker, covers-among, covers-behind, free-same}
use Rattle.lia_solver.proofs.ProjectedExtremes.{IsProjectedOf, behind_encloses, behind_count, enclosed_outer}
use Rattle.lia_solver.proofs.SameAnswers.{Enclose}
use Rattle.lia_solver.proofs.Stepping.{within-all, le_yes}
use Rattle.lia_solver.proofs.Strongest.{AreStrongest, apart-one, reduced-strongest, covered-real, count-most}

-- Strongest rows

-- strongest rows are among any rows that they cover and that cover them
strongest_some : (rows others : List LinearSum) → AreStrongest rows → Covers rows others → Covers others rows → (t : LinearSum) →
    Among t rows → Among t others
strongest_some rows others h c d t a =
    let g = covered-real others t (h.real t a) (d t a) in
    let f = covered-real rows g.0 (can-fail g.0 t g.2 (h.real t a)) (c g.0 g.1) in
    let same : f.0 ≡ t = apart-one rows f.0 t h.apart f.1 a (f.2.parts ∙ g.2.parts) in
    let least : g.0.constant ≤ℤ t.constant = subst (λ (s : LinearSum). g.0.constant ≤ℤ s.constant) same f.2.constant in
    subst (λ (s : LinearSum). Among s others) (row_same g.0 t g.2.parts (equal g.0.constant t.constant least g.2.constant)) g.1 where
      row_same : (s r : LinearSum) → s.parts ≡ r.parts → s.constant ≡ r.constant → s ≡ r
      row_same s r e f = λ i. record { parts = e i; constant = f i }

      equal : (y z : ℤ) → y ≤ℤ z → z ≤ℤ y → y ≡ z
      equal y z p q = omega (arith, ints, p, q)

-- A column that rows don't name

upper_named : (x : ℕ) (t : LinearSum) → IsTrue (is_upper x t) → coefficient x t ≡ pos 0 → ⊥
upper_named x t u e = absurd (clash (sym u ∙ ap (λ a. int_lt (pos 0) a) e)) where
  clash : true ≡ false → ⊥
  clash n = cc

lower_named : (x : ℕ) (t : LinearSum) → IsTrue (is_lower x t) → coefficient x t ≡ pos 0 → ⊥
lower_named x t l e = absurd (clash (sym l ∙ ap (λ a. int_lt a (pos 0)) e)) where
  clash : true ≡ false → ⊥
  clash n = cc

-- rows without the column stay as they are
after_joined : (x : ℕ) (rows next more : List LinearSum) → IsAfter x rows next → IsAbsent x more → IsAfter x (rows ++ more) (next ++ more)
after_joined x rows next more a n = record {
  within = λ u l p. a.within u l (pair_there u l p);
  made = λ u l p. covered_left (tightened_sum u l) (a.made u l (pair_there u l p));
  free = λ t f. free_row t f.free (among-append_cases rows more t f.here);
  from = λ t k. by_side t (among-append_cases next more t k);
} where
  tightened_sum : LinearSum → LinearSum → LinearSum
  tightened_sum u l = tightened (pair_sum x (u, l))

  named_there : (t : LinearSum) → (coefficient x t ≡ pos 0 → ⊥) → Among t rows ⊎ Among t more → Among t rows
  named_there t m (inl k) = k
  named_there t m (inr k) = absurd (m (n t k))

  pair_there : (u l : LinearSum) → IsPairOf x (rows ++ more) u l → IsPairOf x rows u l
  pair_there u l p = record {
    upper = named_there u (upper_named x u p.is_upper) (among-append_cases rows more u p.upper);
    lower = named_there l (lower_named x l p.is_lower) (among-append_cases rows more l p.lower);
    is_upper = p.is_upper;
    is_lower = p.is_lower;
  }

  covered_left : (t : LinearSum) → IsCovered t next → IsCovered t (next ++ more)
  covered_left t (inl e) = inl e
  covered_left t (inr g) = inr (g.0, among-append_left next more g.0 g.1, g.2)

  free_row : (t : LinearSum) → IsTrue (is_free x t) → Among t rows ⊎ Among t more → IsCovered t (next ++ more)
  free_row t f (inl k) = covered_left t (a.free t (record { here = k; free = f }))
  free_row t f (inr k) = inr (t, among-append_right next more t k, at-least-itself t)

  pair_more : (u l : LinearSum) → IsPairOf x rows u l → IsPairOf x (rows ++ more) u l
  pair_more u l p = record {
    upper = among-append_left rows more u p.upper;
    lower = among-append_left rows more l p.lower;
    is_upper = p.is_upper;
    is_lower = p.is_lower;
  }

  by_origin : (t : LinearSum) → IsFreeIn x rows t ⊎ IsMadeOf x rows t → IsFreeIn x (rows ++ more) t ⊎ IsMadeOf x (rows ++ more) t
  by_origin t (inl f) = inl (record { here = among-append_left rows more t f.here; free = f.free })
  by_origin t (inr m) = inr (record {
    first = m.first;
    second = m.second;
    pair = pair_more m.first m.second m.pair;
    same = m.same;
  })

  by_side : (t : LinearSum) → Among t next ⊎ Among t more → IsFreeIn x (rows ++ more) t ⊎ IsMadeOf x (rows ++ more) t
  by_side t (inl k) = by_origin t (a.from t k)
  by_side t (inr k) = inl (record { here = among-append_right rows more t k; free = ap is_zero (n t k) })

-- a row without the column stays covered
covered_behind : (x : ℕ) (rows next : List LinearSum) (t : LinearSum) → IsAfter x rows next → coefficient x t ≡ pos 0 → IsCovered t rows →
    IsCovered t next
covered_behind x rows next t a n (inl e) = inl e
covered_behind x rows next t a n (inr g) =
    covered-weaker next g.0 t g.2 (a.free g.0 (record { here = g.1; free = free-same x g.0 t g.2 ∙ ap is_zero n }))

-- An elimination that goes on

elimination_append : (xs ys : List ℕ) (rows : List LinearSum) → elimination (xs ++ ys) rows
    ≡ and_then (elimination ys) (elimination xs rows)
elimination_append [] ys rows = refl
elimination_append (x ∷ xs) ys rows = by_remainder (after_column x rows) (λ next. elimination_append xs ys next) where
  by_remainder : (r : Remainder) → ((next : List LinearSum) → elimination (xs ++ ys) next
      ≡ and_then (elimination ys) (elimination xs next)) → and_then (elimination (xs ++ ys)) r
      ≡ and_then (elimination ys) (and_then (elimination xs) r)
  by_remainder (remains next) rest = rest next
  by_remainder wide rest = refl
  by_remainder too_many rest = refl

-- the rows after a column that was eliminated
record RemainsBehind (x : ℕ) (rows next : List LinearSum) : Type 0 where
  pub width : list_all is_within (pair_sums x rows) ≡ true
  pub few : length next ≤ MAX_ROWS
  pub same : behind x rows ≡ next

column_behind : (x : ℕ) (rows next : List LinearSum) → after_column x rows ≡ remains next → RemainsBehind x rows next
column_behind x rows next h =
    by_tests (list_all is_within (pair_sums x rows)) (nat_le (length (behind x rows)) MAX_ROWS) refl refl h where
      count_yes : (m n : ℕ) → nat_le m n ≡ true → m ≤ n
      count_yes m n e = grind (arith, nat_tests)

      by_tests : (a b : Bool) → list_all is_within (pair_sums x rows) ≡ a → nat_le (length (behind x rows)) MAX_ROWS ≡ b →
          (if a then (if b then remains (behind x rows) else too_many) else wide) ≡ remains next → RemainsBehind x rows next
      by_tests true true e f k =
          let same = remains-same (behind x rows) next k in
          record {
            width = e;
            few = subst (λ (ts : List LinearSum). length ts ≤ MAX_ROWS) same (count_yes (length (behind x rows)) MAX_ROWS f);
            same = same;
          }
      by_tests true false e f k = absurd (cc)
      by_tests false b e f k = absurd (cc)

behind_remains : (x : ℕ) (rows : List LinearSum) → list_all is_within (pair_sums x rows) ≡ true → length (behind x rows) ≤ MAX_ROWS →
    after_column x rows ≡ remains (behind x rows)
behind_remains x rows w n =
    ap (λ b. if b then counted (behind x rows) else wide) w
    ∙ ap (λ b. if b then remains (behind x rows) else too_many) (le_yes (length (behind x rows)) MAX_ROWS n)

-- Columns after which others join

-- some rows of both lists, which cover them all and further rows too
record StandFor (rows own more ranges : List LinearSum) : Type 0 where
  pub some_of : (t : LinearSum) → Among t rows → Among t (own ++ more)
  pub covers : Covers rows (own ++ more)
  pub further : Covers rows ranges

record StandForLeft (own more ranges : List LinearSum) (left : Remainder) : Type 0 where
  pub whole : List LinearSum
  pub given : left ≡ remains whole
  pub stand : StandFor whole own more ranges

-- after a column too, where there is room for the other rows
record StandBehind (x : ℕ) (rows next more ranges : List LinearSum) : Type 0 where
  pub given : after_column x rows ≡ remains (behind x rows)
  pub stand : StandFor (behind x rows) next more ranges

stand_behind : (x : ℕ) (rows own next more ranges : List LinearSum) → IsAbsent x more → IsAbsent x ranges → StandFor rows own more ranges →
    IsAfter x own next → length next + length more ≤ MAX_ROWS → StandBehind x rows next more ranges
stand_behind x rows own next more ranges n m s a room = record {
  given = behind_remains x rows width (omega (arith, room, few, length-append next more));
  stand = record {
    some_of = strongest_some (behind x rows) (next ++ more) (behind-strongest x rows) covers covered;
    covers = covers;
    further = λ t k. covered_behind x rows (behind x rows) t (behind-is x rows width) (m t k) (s.further t k);
  };
} where
  joined : IsAfter x (own ++ more) (next ++ more)
  joined = after_joined x own next more a n

  width : list_all is_within (pair_sums x rows) ≡ true
  width = width-among x (own ++ more) rows s.some_of (within-all x (own ++ more) joined.within)

  covers : Covers (behind x rows) (next ++ more)
  covers = covers-behind x rows (own ++ more) (behind x rows) (next ++ more) s.covers (behind-is x rows width) joined

  covered : Covers (next ++ more) (behind x rows)
  covered = covers-behind x (own ++ more) rows (next ++ more) (behind x rows) (covers-among (own ++ more) rows s.some_of) joined
      (behind-is x rows width)

  few : length (behind x rows) ≤ length (next ++ more)
  few = count-most (behind x rows) (next ++ more) (behind-strongest x rows) covered

stand_left : (columns : List ℕ) (rows own left more ranges : List LinearSum) → ((x : ℕ) → Among x columns → IsAbsent x more) →
    ((x : ℕ) → Among x columns → IsAbsent x ranges) → StandFor rows own more ranges → KeepsRoom (length more) columns own →
    elimination columns own ≡ remains left → StandForLeft left more ranges (elimination columns rows)
stand_left [] rows own left more ranges n m s r h = record {
  whole = rows;
  given = refl;
  stand = subst (λ (ts : List LinearSum). StandFor rows ts more ranges) (remains-same own left h) s;
}
stand_left (x ∷ xs) rows own left more ranges n m s r h =
    let f = elimination-first x xs own left h in
    let room = r f.next f.column in
    let b = stand_behind x rows own f.next more ranges (n x (inl refl)) (m x (inl refl)) s (after-is x own f.next f.column) room.0 in
    let rest = stand_left xs (behind x rows) f.next left more ranges (λ y k. n y (inr k)) (λ y k. m y (inr k)) b.stand room.1 f.others in
    record {
      whole = rest.whole;
      given = ap (and_then (elimination xs)) b.given ∙ rest.given;
      stand = rest.stand;
    }

-- The last column

-- where the others join before it
record BehindLast (last : ℕ) (rows : List LinearSum) (pre : List LinearSum) : Type 0 where
  pub given : after_column last rows ≡ remains (behind last rows)
  pub enclosed : Enclose pre (behind last rows)

behind_last : (last : ℕ) (rows left more ranges pre : List LinearSum) → StandFor rows left more ranges →
    after_column last ((left ++ more) ++ ranges) ≡ remains pre → BehindLast last rows pre
behind_last last rows left more ranges pre s h = record {
  given = behind_remains last rows width (omega (arith, b.few, ap length b.same, behind_count last rows all same));
  enclosed = subst (λ (ts : List LinearSum). Enclose ts (behind last rows)) b.same (behind_encloses last all rows other);
} where
  all : List LinearSum
  all = (left ++ more) ++ ranges

  b : RemainsBehind last all pre
  b = column_behind last all pre h

  there : (t : LinearSum) → Among t rows → Among t all
  there t k = among-append_left (left ++ more) ranges t (s.some_of t k)

  by_side : (t : LinearSum) → Among t (left ++ more) ⊎ Among t ranges → IsCovered t rows
  by_side t (inl k) = s.covers t k
  by_side t (inr k) = s.further t k

  covers : Covers rows all
  covers t k = by_side t (among-append_cases (left ++ more) ranges t k)

  width : list_all is_within (pair_sums last rows) ≡ true
  width = width-among last all rows there b.width

  same : SameBehind last rows all
  same = behind-same last rows all covers (covers-among all rows there) width b.width

  other : SameBehind last all rows
  other = behind-same last all rows (covers-among all rows there) covers b.width width

-- All columns

ranges_behind : (xs ys : List ℕ) (t : LinearSum) → Among t (range_rows ys) → Among t (range_rows (xs ++ ys))
ranges_behind [] ys t k = k
ranges_behind (x ∷ xs) ys t k = inr (inr (ranges_behind xs ys t k))

-- at the start
stand_start : (firsts : List ℕ) (last : ℕ) (own others : List Atom) → StandFor (listed_rows (own ++ others) (firsts ++ last ∷ []))
    (listed_rows own (firsts ++ last ∷ [])) (rows_of others) (range_rows (last ∷ []))
stand_start firsts last own others = record {
  some_of = λ t k. some_by t (among-append_cases (rows_of (own ++ others)) ranges t k);
  covers = covers-among rows (listed_rows own columns ++ rows_of others) (λ t k. back_by t
      (among-append_cases (listed_rows own columns) (rows_of others) t k));
  further = covers-among rows (range_rows (last ∷ [])) (λ t k. among-append_right (rows_of (own ++ others)) ranges t
      (ranges_behind firsts (last ∷ []) t k));
} where
  columns : List ℕ
  columns = firsts ++ last ∷ []

  ranges : List LinearSum
  ranges = range_rows columns

  rows : List LinearSum
  rows = listed_rows (own ++ others) columns

  both : rows_of (own ++ others) ≡ rows_of own ++ rows_of others
  both = map-append (λ (a : Atom). a.term) own others

  of_both : (t : LinearSum) → Among t (rows_of own) ⊎ Among t (rows_of others) → Among t (listed_rows own columns ++ rows_of others)
  of_both t (inl k) = among-append_left (listed_rows own columns) (rows_of others) t (among-append_left (rows_of own) ranges t k)
  of_both t (inr k) = among-append_right (listed_rows own columns) (rows_of others) t k

  some_by : (t : LinearSum) → Among t (rows_of (own ++ others)) ⊎ Among t ranges → Among t (listed_rows own columns ++ rows_of others)
  some_by t (inl k) =
      of_both t (among-append_cases (rows_of own) (rows_of others) t (subst (λ (ts : List LinearSum). Among t ts) both k))
  some_by t (inr k) = among-append_left (listed_rows own columns) (rows_of others) t (among-append_right (rows_of own) ranges t k)

  in_both : (t : LinearSum) → Among t (rows_of own ++ rows_of others) → Among t rows
  in_both t k = among-append_left (rows_of (own ++ others)) ranges t (subst (λ (ts : List LinearSum). Among t ts) (sym both) k)

  back_own : (t : LinearSum) → Among t (rows_of own) ⊎ Among t ranges → Among t rows
  back_own t (inl k) = in_both t (among-append_left (rows_of own) (rows_of others) t k)
  back_own t (inr k) = among-append_right (rows_of (own ++ others)) ranges t k

  back_by : (t : LinearSum) → Among t (listed_rows own columns) ⊎ Among t (rows_of others) → Among t rows
  back_by t (inl k) = back_own t (among-append_cases (rows_of own) ranges t k)
  back_by t (inr k) = in_both t (among-append_right (rows_of own) (rows_of others) t k)

-- another column has no part in the ranges of the last one
range_absent : (x last : ℕ) → (x ≡ last → ⊥) → IsAbsent x (range_rows (last ∷ []))
range_absent x last n = absent-range x (last ∷ []) (by_value (x == last) refl) where
  by_value : (b : Bool) → (x == last) ≡ b → (b || false) ≡ false
  by_value true e = absurd (n (eqb-true x last e))
  by_value false e = refl

-- rows that name none of the first columns may join once these are eliminated
pub by-parts : (firsts : List ℕ) (last : ℕ) (own others left pre : List Atom) (pair : Option (ℕ × (LinearSum × LinearSum))) →
    (¬ Contains firsts last) → elimination firsts (listed_rows own (firsts ++ last ∷ [])) ≡ remains (rows_of left) →
    KeepsRoom (length others) firsts (listed_rows own (firsts ++ last ∷ [])) → NamesNone firsts others →
    projected (last ∷ []) (left ++ others) ≡ gives pre pair → IsProjectedOf (firsts ++ last ∷ []) (own ++ others) pre
by-parts firsts last own others left pre pair apart h room n p =
    let columns = firsts ++ last ∷ [] in
    let all = own ++ others in
    let start = stand_start firsts last own others in
    let kept = subst (λ k. KeepsRoom k firsts (listed_rows own columns)) (sym (length-map others (λ (a : Atom). a.term))) room in
    let behind_firsts = stand_left firsts (listed_rows all columns) (listed_rows own columns) (rows_of left) (rows_of others)
    (range_rows (last ∷ [])) unnamed other_range start kept h in
    let joined = ap (λ ts. elimination (last ∷ []) (ts ++ range_rows (last ∷ []))) (map-append (λ (a : Atom). a.term) left others) in
    let behind_all = elimination-first last [] ((rows_of left ++ rows_of others) ++ range_rows (last ∷ [])) (rows_of pre)
    (sym joined ∙ (projected-left (last ∷ []) (left ++ others) pre pair p).eliminated) in
    let e = behind_last last behind_firsts.whole (rows_of left) (rows_of others) (range_rows (last ∷ [])) (rows_of pre) behind_firsts.stand
    (behind_all.column ∙ behind_all.others) in
    record {
      whole = atoms_of (behind last behind_firsts.whole);
      pair = first_inexact columns (listed_rows all columns);
      given = ap (left_by columns all) (elimination_append firsts (last ∷ []) (listed_rows all columns)
          ∙ ap (and_then (elimination (last ∷ []))) behind_firsts.given ∙ ap (and_then (elimination [])) e.given);
      outer = enclosed_outer pre (behind last behind_firsts.whole) e.enclosed;
    } where
      unnamed : (x : ℕ) → Among x firsts → IsAbsent x (rows_of others)
      unnamed x k = unnamed-absent x others (n x (among-contains firsts x k))

      other_range : (x : ℕ) → Among x firsts → IsAbsent x (range_rows (last ∷ []))
      other_range x k = range_absent x last (λ e. apart (subst (λ y. Contains firsts y) e (among-contains firsts x k)))

-- Room after each column

abbrev paired : List LinearSum → List LinearSum → List (LinearSum × LinearSum)
paired us ls = flat_map (λ u. map (λ l. (u, l)) ls) us

pairs_length : (us ls : List LinearSum) → length (paired us ls) ≡ length us * length ls
pairs_length [] ls = grind arith
pairs_length (u ∷ us) ls =
    let pair : LinearSum → LinearSum × LinearSum = λ l. (u, l) in
    let both = length-append (map pair ls) (paired us ls) in
    grind (arith, both, length-map ls pair, pairs_length us ls)

-- each row is an upper, a lower or a free one
abbrev number_of_yes : Bool → ℕ
number_of_yes b = if b then 1 else 0

one_side : (z : ℤ) → number_of_yes (int_lt (pos 0) z) + number_of_yes (int_lt z (pos 0)) + number_of_yes (is_zero z) ≡ 1
one_side (pos zero) = refl
one_side (pos (suc n)) =
    ap (λ b. number_of_yes b + number_of_yes (nat_lt (suc n) 0) + 0) above ∙ ap (λ b. 1 + number_of_yes b + 0) below where
      above : nat_lt 0 (suc n) ≡ true
      above = grind (arith, nat_tests)

      below : nat_lt (suc n) 0 ≡ false
      below = grind (arith, nat_tests)
one_side (negsuc n) = refl

length_if : (b : Bool) (t : LinearSum) (rows : List LinearSum) → length (if b then (t ∷ rows) else rows) ≡ number_of_yes b + length rows
length_if true t rows = omega arith
length_if false t rows = omega arith

sides_count : (x : ℕ) (rows : List LinearSum) → length (filter (is_upper x) rows) + length (filter (is_lower x) rows)
    + length (filter (is_free x) rows) ≡ length rows
sides_count x [] = refl
sides_count x (t ∷ rows) = omega (
  arith,
  one_side (coefficient x t),
  length_if (is_upper x t) t (filter (is_upper x) rows),
  length_if (is_lower x t) t (filter (is_lower x) rows),
  length_if (is_free x t) t (filter (is_free x) rows),
  sides_count x rows,
)

reduced_most : (rows : List LinearSum) → length (reduced rows) ≤ length rows
reduced_most rows = count-most (reduced rows) rows (reduced-strongest rows) (covers-among rows (reduced rows) (reduced-among rows))

-- no more than the free rows and the pairs
behind_most : (x : ℕ) (rows : List LinearSum) → length (behind x rows) ≤
    (length rows - (length (filter (is_upper x) rows) + length (filter (is_lower x) rows)))
    + length (filter (is_upper x) rows) * length (filter (is_lower x) rows)
behind_most x rows =
    let frees = filter (is_free x) rows in
    let sums = map tightened (pair_sums x rows) in
    omega (
      arith,
      reduced_most (frees ++ sums),
      length-append frees sums,
      sides_count x rows,
      length-map (pair_sums x rows) tightened,
      length-map (pairs x rows) (pair_sum x),
      pairs_length (filter (is_upper x) rows) (filter (is_lower x) rows),
    )

stage_most : (x : ℕ) (rows next : List LinearSum) (s : Stage) → IsStage x rows s → after_column x rows ≡ remains next →
    length next ≤ rows_behind (length rows) s
stage_most x rows next s i h = most (length s.uppers.items) (length s.lowers.items)
    (sym (length-map s.uppers.items (λ r. r.term)) ∙ ap length i.uppers)
    (sym (length-map s.lowers.items (λ r. r.term)) ∙ ap length i.lowers) where
      most : (m n : ℕ) → m ≡ length (filter (is_upper x) rows) → n ≡ length (filter (is_lower x) rows) →
          length next ≤ (length rows - (m + n)) + m * n
      most m n e f =
          let same = ap (λ k. k * n) e ∙ ap (λ k. length (filter (is_upper x) rows) * k) f in
          omega (arith, e, f, same, behind_most x rows, ap length (column_behind x rows next h).same)

-- of more rows before, more are left
more_left : (m n : ℕ) (stages : List Stage) → m ≤ n → most_rows m stages ≤ most_rows n stages
more_left m n [] h = omega arith
more_left m n (s ∷ ss) h = omega (arith, h, more_left (rows_behind m s) (rows_behind n s) ss (omega (arith, h)))

-- where there is room for the rows that are left at most after some stage
pub stages-room : (columns : List ℕ) (rows : List LinearSum) (stages : List Stage) (left : List LinearSum) (more : ℕ) →
    AreStages columns rows stages left → most_rows (length rows) stages + more ≤ MAX_ROWS → KeepsRoom more columns rows
stages-room [] rows stages left more h room = tt
stages-room (x ∷ xs) rows [] left more h room = absurd h
stages-room (x ∷ xs) rows (s ∷ ss) left more h room = λ next e.
    let most = stage_most x rows next s h.0 e in
    let same = remains-same h.1.0 next (sym h.1.1 ∙ e) in
    let rest = subst (λ ts. AreStages xs ts ss left) same h.1.2 in
    let fewer = more_left (length next) (rows_behind (length rows) s) ss most in
    (omega (arith, most, room), stages-room xs next ss left more rest (omega (arith, fewer, room)))
