-- What the rows after a column, and after all columns, say: nothing is met that was not met before.
use Rattle.std.proofs.Common.{◌≡◌, ◌⊎◌, inl, inr, ℕ, Bool, true, false, List, [], ◌∷◌, ◌++◌, length, map, pos, refl, ap, subst, ◌∙◌}
use Rattle.std.specs.Prelude.{IsTrue, ◌≤ℤ◌, filter, nat_le, if◌then◌else◌}
use Rattle.std.specs.List.{list_all}
use Rattle.linear_formula.specs.LinearSum.{LinearSum, Valuation, value_of, is_within}
use Rattle.linear_formula.specs.Formula.{HoldsAll}
use Rattle.linear_formula.specs.declared.formula.Atom.{Atom}
use Rattle.infeasible_cert.specs.Right.{rows_of, range_rows}
use Rattle.infeasible_cert.proofs.Meeting.{AllMet, met-append, ranges-met}
use Rattle.shadow_elim.specs.Division.{tightened}
use Rattle.shadow_elim.specs.Reduction.{reduced}
use Rattle.shadow_elim.specs.Elimination.{is_upper, is_lower, is_free, pairs, pair_sum, pair_sums, Remainder, remains, wide, too_many, counted, after_column, and_then, elimination, listed_rows}
use Rattle.shadow_elim.specs.declared.limit.TheConstants.{MAX_ROWS}
use Rattle.shadow_elim.specs.Shadows.{KeepsAll}
use Rattle.shadow_elim.proofs.Tightening.{tightened-meets}
use Rattle.shadow_elim.proofs.PairSums.{pair_sum-met}
use Rattle.shadow_elim.proofs.Members.{Among, among-append_left, among-append_right, among-append_cases, among-filter, filter-among, among-map, map-among, among-flat_map, flat_map-among, all-among}
use Rattle.shadow_elim.proofs.Staying.{IsCovered, reduced-covers, reduced-among, met-among, met-from}

-- Atoms and their rows

pub holds-met : (v : Valuation) (atoms : List Atom) → HoldsAll v atoms → AllMet v (rows_of atoms)
holds-met v [] h = tt
holds-met v (a ∷ atoms) h = (h.0, holds-met v atoms h.1)

pub met-holds : (v : Valuation) (atoms : List Atom) → AllMet v (rows_of atoms) → HoldsAll v atoms
met-holds v [] h = tt
met-holds v (a ∷ atoms) h = (h.0, met-holds v atoms h.1)

-- Pairs

pub among-pairs : (x : ℕ) (rows : List LinearSum) (u l : LinearSum) → Among u rows → Among l rows → IsTrue (is_upper x u) →
    IsTrue (is_lower x l) → Among (u, l) (pairs x rows)
among-pairs x rows u l hu hl iu il =
    among-flat_map (λ s. map (λ t. (s, t)) (filter (is_lower x) rows)) (filter (is_upper x) rows) u (u, l)
    (among-filter (is_upper x) rows u hu iu) (among-map (λ t. (u, t)) (filter (is_lower x) rows) l (among-filter (is_lower x) rows l hl il))

-- an upper and a lower row of the column
pub record IsPairOf (x : ℕ) (rows : List LinearSum) (u l : LinearSum) : Type 0 where
  pub upper : Among u rows
  pub lower : Among l rows
  pub is_upper : IsTrue (is_upper x u)
  pub is_lower : IsTrue (is_lower x l)

pub pairs-among : (x : ℕ) (rows : List LinearSum) (p : LinearSum × LinearSum) → Among p (pairs x rows) → IsPairOf x rows p.0 p.1
pairs-among x rows p h =
    let f = flat_map-among (λ s. map (λ t. (s, t)) (filter (is_lower x) rows)) (filter (is_upper x) rows) p h in
    let g = map-among (λ t. (f.0, t)) (filter (is_lower x) rows) p f.2 in
    let u = filter-among (is_upper x) rows f.0 f.1 in
    let l = filter-among (is_lower x) rows g.0 g.1 in
    subst (λ (q : LinearSum × LinearSum). IsPairOf x rows q.0 q.1) g.2 (record {
      upper = u.0;
      lower = l.0;
      is_upper = u.1;
      is_lower = l.1;
    })

-- The rows after a column

-- the row was there without the column, or is made of a pair
pub record IsMadeOf (x : ℕ) (rows : List LinearSum) (t : LinearSum) : Type 0 where
  pub first : LinearSum
  pub second : LinearSum
  pub pair : IsPairOf x rows first second
  pub same : tightened (pair_sum x (first, second)) ≡ t

pub record IsFreeIn (x : ℕ) (rows : List LinearSum) (t : LinearSum) : Type 0 where
  pub here : Among t rows
  pub free : IsTrue (is_free x t)

pub record IsAfter (x : ℕ) (rows next : List LinearSum) : Type 0 where
  pub within : (u l : LinearSum) → IsPairOf x rows u l → IsTrue (is_within (pair_sum x (u, l)))
  pub made : (u l : LinearSum) → IsPairOf x rows u l → IsCovered (tightened (pair_sum x (u, l))) next
  pub free : (t : LinearSum) → IsFreeIn x rows t → IsCovered t next
  pub from : (t : LinearSum) → Among t next → IsFreeIn x rows t ⊎ IsMadeOf x rows t

after-reduced : (x : ℕ) (rows : List LinearSum) → list_all is_within (pair_sums x rows) ≡ true →
    IsAfter x rows (reduced (filter (is_free x) rows ++ map tightened (pair_sums x rows)))
after-reduced x rows w =
    let all = filter (is_free x) rows ++ map tightened (pair_sums x rows) in
    record {
      within = λ u l p. all-among is_within (pair_sums x rows) (pair_sum x (u, l)) w (pair_there u l p);
      made = λ u l p. reduced-covers all (tightened (pair_sum x (u, l))) (among-append_right (filter (is_free x) rows)
          (map tightened (pair_sums x rows)) (tightened (pair_sum x (u, l))) (among-map tightened (pair_sums x rows) (pair_sum x (u, l))
          (pair_there u l p)));
      free = λ t f. reduced-covers all t (among-append_left (filter (is_free x) rows) (map tightened (pair_sums x rows)) t
          (among-filter (is_free x) rows t f.here f.free));
      from = λ t h. by_side t (among-append_cases (filter (is_free x) rows) (map tightened (pair_sums x rows)) t (reduced-among all t h));
    } where
      pair_there : (u l : LinearSum) → IsPairOf x rows u l → Among (pair_sum x (u, l)) (pair_sums x rows)
      pair_there u l p =
          among-map (pair_sum x) (pairs x rows) (u, l) (among-pairs x rows u l p.upper p.lower p.is_upper p.is_lower)

      by_side : (t : LinearSum) → Among t (filter (is_free x) rows) ⊎ Among t (map tightened (pair_sums x rows)) → IsFreeIn x rows t
          ⊎ IsMadeOf x rows t
      by_side t (inl h) =
          let f = filter-among (is_free x) rows t h in
          inl (record { here = f.0; free = f.1 })
      by_side t (inr h) =
          let g = map-among tightened (pair_sums x rows) t h in
          let p = map-among (pair_sum x) (pairs x rows) g.0 g.1 in
          inr (record {
            first = p.0.0;
            second = p.0.1;
            pair = pairs-among x rows p.0 p.1;
            same = ap tightened p.2 ∙ g.2;
          })

pub after-is : (x : ℕ) (rows next : List LinearSum) → after_column x rows ≡ remains next → IsAfter x rows next
after-is x rows next h =
    by_width (list_all is_within (pair_sums x rows)) refl h where
      by_count : (b : Bool) → list_all is_within (pair_sums x rows) ≡ true →
          (if b then remains (reduced (filter (is_free x) rows ++ map tightened (pair_sums x rows))) else too_many) ≡ remains next →
          IsAfter x rows next
      by_count true w e =
          let same : reduced (filter (is_free x) rows ++ map tightened (pair_sums x rows)) ≡ next = cc in
          subst (IsAfter x rows) same (after-reduced x rows w)
      by_count false w e = absurd (cc)

      by_width : (b : Bool) → list_all is_within (pair_sums x rows) ≡ b →
          (if b then counted (reduced (filter (is_free x) rows ++ map tightened (pair_sums x rows))) else wide) ≡ remains next →
          IsAfter x rows next
      by_width true w e = by_count (nat_le (length (reduced (filter (is_free x) rows ++ map tightened (pair_sums x rows)))) MAX_ROWS) w e
      by_width false w e = absurd (cc)

-- What is met

pub after-met : (v : Valuation) (x : ℕ) (rows next : List LinearSum) → IsAfter x rows next → AllMet v rows → AllMet v next
after-met v x rows next a h = met-from v next (λ t k. by_origin t (a.from t k)) where
  by_origin : (t : LinearSum) → IsFreeIn x rows t ⊎ IsMadeOf x rows t → value_of v t ≤ℤ pos 0
  by_origin t (inl f) = met-among v rows t h f.here
  by_origin t (inr m) =
      let s = pair_sum-met v x m.first m.second (met-among v rows m.first h m.pair.upper) (met-among v rows m.second h m.pair.lower) in
      subst (λ (r : LinearSum). value_of v r ≤ℤ pos 0) m.same ((tightened-meets v (pair_sum x (m.first, m.second))).0 s)

-- the first column, and the others
pub record IsFirst (x : ℕ) (xs : List ℕ) (rows left : List LinearSum) : Type 0 where
  pub next : List LinearSum
  pub column : after_column x rows ≡ remains next
  pub others : elimination xs next ≡ remains left

pub elimination-first : (x : ℕ) (xs : List ℕ) (rows left : List LinearSum) → elimination (x ∷ xs) rows ≡ remains left →
    IsFirst x xs rows left
elimination-first x xs rows left h = by_remainder (after_column x rows) refl h where
  by_remainder : (r : Remainder) → after_column x rows ≡ r → and_then (elimination xs) r ≡ remains left → IsFirst x xs rows left
  by_remainder (remains next) e k = record { next = next; column = e; others = k }
  by_remainder wide e k = absurd (cc)
  by_remainder too_many e k = absurd (cc)

pub remains-same : (rows left : List LinearSum) → remains rows ≡ remains left → rows ≡ left
remains-same rows left h = cc

-- an elimination keeps what is met
pub elimination-met : (v : Valuation) (xs : List ℕ) (rows left : List LinearSum) → elimination xs rows ≡ remains left → AllMet v rows →
    AllMet v left
elimination-met v [] rows left h k = subst (AllMet v) (remains-same rows left h) k
elimination-met v (x ∷ xs) rows left h k =
    let f = elimination-first x xs rows left h in
    elimination-met v xs f.next left f.others (after-met v x rows f.next (after-is x rows f.next f.column) k)

pub keeps-all : (atoms shadow : List Atom) (columns : List ℕ) → elimination columns (listed_rows atoms columns) ≡ remains (rows_of shadow) →
    KeepsAll atoms shadow
keeps-all atoms shadow columns h = λ v w k.
    met-holds v shadow (elimination-met v columns (listed_rows atoms columns) (rows_of shadow) h
    (met-append v (rows_of atoms) (range_rows columns) (holds-met v atoms k) (ranges-met v columns w)))
