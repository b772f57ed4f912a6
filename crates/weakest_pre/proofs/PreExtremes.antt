-- The preimage of extreme rows: the extremes of the preimage of all rows, with what the edge adds after both.
use Rattle.std.proofs.Common.{◌≡◌, ℕ, suc, ◌+◌, ◌-◌, ◌≤◌, Bool, true, false, List, [], ◌∷◌, ◌++◌, length, None, Some, Option, append-nil, arith, refl, sym, ap, subst, ◌∙◌}
use Rattle.std.specs.Prelude.{slice_index_or, if◌then◌else◌}
use Rattle.std.specs.List.{range_with_len}
use Rattle.std.proofs.lemmas.List.{length-append}
use Rattle.std.proofs.lemmas.List.Elements.{All-append, All-contains_itself}
use Rattle.linear_formula.specs.LinearSum.{LinearSum, is_within}
use Rattle.linear_formula.specs.Extremes.{IsBetween, AreExtremes}
use Rattle.linear_formula.specs.declared.formula.Atom.{Atom}
use Rattle.linear_formula.proofs.ExtremeRows.{numbered_append, numbered_append_left, numbered_own, between_append_left, between_append_right, between_itself}
use Rattle.shadow_elim.specs.Projection.{gives, summed, unless_wide}
use Rattle.shadow_elim.specs.Sums.{total, first_wide, rows_of_sums, row_sums}
use Rattle.shadow_elim.specs.declared.sum.Sum.{Sum}
use Rattle.shadow_elim.proofs.Projecting.{unless-none, gives-rows}
use Rattle.shadow_elim.proofs.Reading.{first_behind}
use Rattle.shadow_elim.proofs.ReadExtremes.{read-extremes}
use Rattle.shadow_elim.proofs.Summing.{rows-more}
use Rattle.flow_graph.specs.declared.graph.Lin.{Lin}
use Rattle.flow_graph.specs.declared.graph.Edge.{Edge}
use Rattle.flow_graph.specs.declared.graph.Edge.TheVariants.{Entry, Assign, Guard, Input, Pick, Call, Assert, Return}
use Rattle.flow_graph.specs.Readings.{entry_reading, one_reading, return_reading}
use Rattle.weakest_pre.specs.Preimage.{preimage, read_before, assigned_before, assigned_sums, lin_sum, range_sums}

-- an edge over which no column is eliminated
abbrev pub KeepsColumns : Edge → Type 0
KeepsColumns (Entry to params) = Unit {0}
KeepsColumns (Assign from to slot value) = Unit {0}
KeepsColumns (Guard from to rows) = Unit {0}
KeepsColumns (Input from to slot) = ⊥
KeepsColumns (Pick from to slot rows) = ⊥
KeepsColumns (Call from to proc args results) = ⊥
KeepsColumns (Assert from to id rows) = Unit {0}
KeepsColumns (Return from to slots) = Unit {0}

-- the same rows after extreme rows and after all
pub extremes_before : (ns : List ℕ) (rows all own : List Atom) → AreExtremes ns rows all →
    AreExtremes (ns ++ range_with_len (length all) (length own)) (rows ++ own) (all ++ own)
extremes_before ns rows all own x = record {
  numbered = numbered_append ns (range_with_len (length all) (length own)) rows own (all ++ own)
      (numbered_append_left ns rows all own x.numbered)
      (numbered_own all own (length all) refl);
  between = All-append (λ (a : Atom). IsBetween (rows ++ own) a.term) all own
      (λ i d h. between_append_left rows own (slice_index_or all i d).term (x.between i d h))
      (λ i d h. between_append_right rows own (slice_index_or own i d).term
      (between_itself own (slice_index_or own i d) (All-contains_itself own i d h)));
}

-- What is read of the rows, with own rows after

-- how many rows the edge adds, and the extremes
record IsBehind (ns : List ℕ) (rows all pre whole : List Atom) : Type 0 where
  more : length rows ≤ length pre
  count : length whole ≡ length all + (length pre - length rows)
  extremes : AreExtremes (ns ++ range_with_len (length all) (length pre - length rows)) pre whole

behind : (ns : List ℕ) (rows all own front kept pre : List Atom) → length front ≡ length rows → length kept ≡ length all →
    AreExtremes ns front kept → front ++ own ≡ pre → IsBehind ns rows all pre (kept ++ own)
behind ns rows all own front kept pre e f x is =
    let size : length pre ≡ length rows + length own = ap (λ (l : List Atom). length l) (sym is) ∙ length-append front own
    ∙ ap (λ n. n + length own) e in
    let rest : length own ≡ length pre - length rows = omega (arith, size) in
    record {
      more = omega (arith, size);
      count = omega (arith, length-append kept own, f, rest);
      extremes = subst (λ (l : List Atom). AreExtremes (ns ++ range_with_len (length all) (length pre - length rows)) l (kept ++ own)) is
          (subst (λ (n : ℕ). AreExtremes (ns ++ range_with_len (length all) n) (front ++ own) (kept ++ own)) rest
          (subst (λ (n : ℕ). AreExtremes (ns ++ range_with_len n (length own)) (front ++ own) (kept ++ own)) f
          (extremes_before ns front kept own x)));
    }

pub length_read : (by : ℕ → LinearSum) (rows : List Atom) → length (rows_of_sums (row_sums by rows)) ≡ length rows
length_read by [] = refl
length_read by (a ∷ rows) = ap suc (length_read by rows)

-- Sums that are all within the limits

none_both : (a b : List Sum) → first_wide (a ++ b) ≡ None → (first_wide a ≡ None) × (first_wide b ≡ None)
none_both [] b h = (refl, h)
none_both (s ∷ a) b h = by_test (is_within (total s)) (λ r. none_both a b r) h where
  by_test : (t : Bool) → (first_wide (a ++ b) ≡ None → (first_wide a ≡ None) × (first_wide b ≡ None)) →
      (if t then first_wide (a ++ b) else Some s) ≡ None → ((if t then first_wide a else Some s) ≡ None) × (first_wide b ≡ None)
  by_test true rest r = rest r
  by_test false rest r = absurd cc

abbrev Pair : Type 0
Pair = Option (ℕ × (LinearSum × LinearSum))

summed_none : (sums : List Sum) → first_wide sums ≡ None → summed sums (λ rows. gives rows None) ≡ gives (rows_of_sums sums) None
summed_none sums e = ap (λ o. unless_wide o (gives (rows_of_sums sums) None)) e

-- The edges

-- what pre-extremes says of the rows before an edge
abbrev Whole : Edge → List ℕ → List Atom → List Atom → List Atom → Type 0
Whole edge ns rows all pre = (whole : List Atom) × (preimage edge all ≡ gives whole None) × (length rows ≤ length pre)
    × (length whole ≡ length all + (length pre - length rows))
    × AreExtremes (ns ++ range_with_len (length all) (length pre - length rows)) pre whole

module _ (ns : List ℕ) (rows all pre : List Atom) (pair : Pair) (x : AreExtremes ns rows all) where
  given : (edge : Edge) (whole : List Atom) → preimage edge all ≡ gives whole None → IsBehind ns rows all pre whole →
      Whole edge ns rows all pre
  given edge whole e h = (whole, e, h.more, h.count, h.extremes)

  -- sums of the rows, with others after
  record IsSummed (by : ℕ → LinearSum) (own : List Sum) : Type 0 where
    whole : List Atom
    given : summed (row_sums by all ++ own) (λ l. gives l None) ≡ gives whole None
    behind : IsBehind ns rows all pre whole

  all_summed : (by : ℕ → LinearSum) (own : List Sum) → summed (row_sums by rows ++ own) (λ l. gives l None) ≡ gives pre pair →
      IsSummed by own
  all_summed by own e =
      let sums = row_sums by rows ++ own in
      let u = unless-none (first_wide sums) (gives (rows_of_sums sums) None) pre pair e in
      let n = none_both (row_sums by rows) own u.0 in
      let r = read-extremes by ns rows all x n.0 in
      let narrow = first_behind (row_sums by all) own None r.0 n.1 in
      record {
        whole = rows_of_sums (row_sums by all) ++ rows_of_sums own;
        given = summed_none (row_sums by all ++ own) narrow ∙ ap (λ l. gives l None) (rows-more (row_sums by all) own);
        behind = behind ns rows all (rows_of_sums own) (rows_of_sums (row_sums by rows)) (rows_of_sums (row_sums by all)) pre
            (length_read by rows) (length_read by all) r.1
            (sym (rows-more (row_sums by rows) own) ∙ gives-rows (rows_of_sums sums) pre None pair u.1);
      }

  all_read : (by : ℕ → LinearSum) → read_before by rows ≡ gives pre pair →
      (whole : List Atom) × (read_before by all ≡ gives whole None) × IsBehind ns rows all pre whole
  all_read by e =
      let alone : (sums : List Sum) → summed (sums ++ []) (λ l. gives l None) ≡ summed sums (λ l. gives l None) = λ sums.
      ap (λ (l : List Sum). summed l (λ m. gives m None)) (append-nil sums) in
      let r = all_summed by [] (alone (row_sums by rows) ∙ e) in
      (r.whole, sym (alone (row_sums by all)) ∙ r.given, r.behind)

  all_assigned : (slot : ℕ) (value : Lin) → assigned_before slot value rows ≡ gives pre pair →
      (whole : List Atom) × (assigned_before slot value all ≡ gives whole None) × IsBehind ns rows all pre whole
  all_assigned slot value e =
      let sum = total (lin_sum value) in
      let u = unless-none (first_wide (lin_sum value ∷ [])) (summed (assigned_sums slot sum rows) (λ l. gives l None)) pre pair e in
      let r = all_summed (one_reading slot sum) (range_sums sum) u.1 in
      (r.whole, ap (λ o. unless_wide o (summed (assigned_sums slot sum all) (λ l. gives l None))) u.0 ∙ r.given, r.behind)

  all_tested : (own : List Atom) → gives (rows ++ own) None ≡ gives pre pair → IsBehind ns rows all pre (all ++ own)
  all_tested own e = behind ns rows all own rows all pre refl refl x (gives-rows (rows ++ own) pre None pair e)

-- the preimage of extreme rows has the extremes of the preimage of all rows; what the edge adds of its own stands after both
pub pre-extremes : (edge : Edge) (ns : List ℕ) (rows all pre : List Atom) (pair : Option (ℕ × (LinearSum × LinearSum))) →
    KeepsColumns edge → AreExtremes ns rows all → preimage edge rows ≡ gives pre pair →
    (whole : List Atom) × (preimage edge all ≡ gives whole None) × (length rows ≤ length pre)
    × (length whole ≡ length all + (length pre - length rows))
    × AreExtremes (ns ++ range_with_len (length all) (length pre - length rows)) pre whole
pre-extremes (Entry to params) ns rows all pre pair k x e =
    let r = all_read ns rows all pre pair x (entry_reading params) e in
    given ns rows all pre pair x (Entry to params) r.0 r.1 r.2
pre-extremes (Assign from to slot value) ns rows all pre pair k x e =
    let r = all_assigned ns rows all pre pair x slot value e in
    given ns rows all pre pair x (Assign from to slot value) r.0 r.1 r.2
pre-extremes (Guard from to own) ns rows all pre pair k x e =
    given ns rows all pre pair x (Guard from to own) (all ++ own.atoms) refl (all_tested ns rows all pre pair x own.atoms e)
pre-extremes (Input from to slot) ns rows all pre pair k x e = absurd k
pre-extremes (Pick from to slot own) ns rows all pre pair k x e = absurd k
pre-extremes (Call from to proc args results) ns rows all pre pair k x e = absurd k
pre-extremes (Assert from to id own) ns rows all pre pair k x e =
    given ns rows all pre pair x (Assert from to id own) (all ++ own.atoms) refl (all_tested ns rows all pre pair x own.atoms e)
pre-extremes (Return from to slots) ns rows all pre pair k x e =
    let r = all_read ns rows all pre pair x (return_reading slots) e in
    given ns rows all pre pair x (Return from to slots) r.0 r.1 r.2
