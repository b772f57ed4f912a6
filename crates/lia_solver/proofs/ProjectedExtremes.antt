-- What is projected of extreme rows encloses what is projected of all rows.
use Rattle.std.proofs.Common.{◌≡◌, inl, inr, ℕ, Bool, true, false, List, [], ◌∷◌, ◌++◌, length, Some, Option, refl, ap, subst, ◌∙◌}
use Rattle.std.specs.Prelude.{nat_le, if◌then◌else◌}
use Rattle.std.specs.List.{list_all}
use Rattle.std.proofs.lemmas.List.Elements.{All-contains_itself}
use Rattle.std.proofs.lemmas.Option.{slice_get-get_or}
use Rattle.linear_formula.specs.LinearSum.{LinearSum, is_within}
use Rattle.linear_formula.specs.Extremes.{AreExtremes, AreOuter, HaveNumbers, IsBetween}
use Rattle.linear_formula.specs.declared.formula.Atom.{Atom}
use Rattle.infeasible_cert.specs.Right.{rows_of, range_rows}
use Rattle.shadow_elim.specs.Elimination.{Remainder, remains, wide, too_many, counted, and_then, elimination, pair_sums, first_inexact, listed_rows}
use Rattle.shadow_elim.specs.Projection.{gives, atoms_of, left_by, projected}
use Rattle.shadow_elim.specs.declared.limit.TheConstants.{MAX_ROWS}
use Rattle.shadow_elim.proofs.Keeping.{remains-same}
use Rattle.shadow_elim.proofs.Members.{Among, among-map, map-among, among-contains, contains-among}
use Rattle.shadow_elim.proofs.Projecting.{projected-left}
use Rattle.shadow_elim.proofs.Staying.{at-least-itself}
use Rattle.lia_solver.proofs.Covered.{behind, behind-strongest, SameBehind, behind-same, count-same}
use Rattle.lia_solver.proofs.Covering.{Covers, covers-among}
use Rattle.lia_solver.proofs.Strongest.{AreStrongest, strongest-among}
use Rattle.lia_solver.proofs.SameAnswers.{LiesBetween, Enclose, enclose_append, enclosed_width, extremes_enclose}

-- After a column

enclosed_covered : (rows others : List LinearSum) → Enclose rows others → Covers rows others
enclosed_covered rows others e t a = let b = e.between t a in inr (b.upper, b.upper_there, b.above)

-- strongest rows that cover each other are the same, so each is its own upper and lower row
strongest_enclose : (rows others : List LinearSum) → AreStrongest rows → AreStrongest others → Covers rows others → Covers others rows →
    Enclose rows others
strongest_enclose rows others h k c d = record {
  some_of = λ t a. strongest-among rows others t h k c d a;
  between = λ t a. lies_there t (strongest-among others rows t k h d c a);
} where
  lies_there : (t : LinearSum) → Among t rows → LiesBetween rows t
  lies_there t a = record {
    upper = t;
    upper_there = a;
    above = at-least-itself t;
    lower = t;
    lower_there = a;
    below = at-least-itself t;
  }

-- these are the same rows
pub behind_encloses : (x : ℕ) (rows others : List LinearSum) → SameBehind x rows others → Enclose (behind x rows) (behind x others)
behind_encloses x rows others s =
    strongest_enclose (behind x rows) (behind x others) (behind-strongest x rows) (behind-strongest x others) s.covers s.covered

pub behind_count : (x : ℕ) (rows others : List LinearSum) → SameBehind x rows others → length (behind x rows) ≡ length (behind x others)
behind_count x rows others s =
    count-same (behind x rows) (behind x others) (behind-strongest x rows) (behind-strongest x others) s.covers s.covered

-- After all columns

-- some rows are left, which these enclose
record EnclosesLeft (rows : List LinearSum) (left : Remainder) : Type 0 where
  pub whole : List LinearSum
  pub given : left ≡ remains whole
  pub enclosed : Enclose rows whole

elimination_encloses : (columns : List ℕ) (rows others left : List LinearSum) → Enclose rows others → elimination columns rows
    ≡ remains left → EnclosesLeft left (elimination columns others)
elimination_encloses [] rows others left e h = record {
  whole = others;
  given = refl;
  enclosed = subst (λ (ts : List LinearSum). Enclose ts others) (remains-same rows left h) e;
}
elimination_encloses (x ∷ xs) rows others left e h =
    by_width (elimination_encloses xs (behind x rows) (behind x others) left) (list_all is_within (pair_sums x rows))
    (list_all is_within (pair_sums x others)) refl refl (enclosed_width x rows others e) h where
      Next : Type 0
      Next = Enclose (behind x rows) (behind x others) → elimination xs (behind x rows) ≡ remains left →
          EnclosesLeft left (elimination xs (behind x others))

      by_count : Next → SameBehind x rows others → (b c : Bool) → b ≡ c →
          and_then (elimination xs) (if b then remains (behind x rows) else too_many) ≡ remains left →
          EnclosesLeft left (and_then (elimination xs) (if c then remains (behind x others) else too_many))
      by_count next s true true n k = next (behind_encloses x rows others s) k
      by_count next s true false n k = absurd (cc)
      by_count next s false c n k = absurd (cc)

      by_width : Next → (a b : Bool) → list_all is_within (pair_sums x rows) ≡ a → list_all is_within (pair_sums x others) ≡ b → a ≡ b →
          and_then (elimination xs) (if a then counted (behind x rows) else wide) ≡ remains left →
          EnclosesLeft left (and_then (elimination xs) (if b then counted (behind x others) else wide))
      by_width next true true v w f k =
          let s = behind-same x rows others (enclosed_covered rows others e) (covers-among others rows e.some_of) v w in
          by_count next s (nat_le (length (behind x rows)) MAX_ROWS) (nat_le (length (behind x others)) MAX_ROWS)
          (ap (λ (n : ℕ). nat_le n MAX_ROWS) (behind_count x rows others s)) k
      by_width next true false v w f k = absurd (cc)
      by_width next false b v w f k = absurd (cc)

-- Atoms of rows

pub numbers_among : (rows all : List Atom) → ((a : Atom) → Among a rows → Among a all) → (ns : List ℕ) × HaveNumbers ns rows all
numbers_among [] all h = ([], tt)
numbers_among (a ∷ rows) all h =
    let c = among-contains all a (h a (inl refl)) in
    let rest = numbers_among rows all (λ b k. h b (inr k)) in
    (c.0 ∷ rest.0, (slice_get-get_or all c.0 a c.1 ∙ ap Some c.2, rest.1))

pub enclosed_outer : (rows : List Atom) (whole : List LinearSum) → Enclose (rows_of rows) whole → AreOuter rows (atoms_of whole)
enclosed_outer rows whole e = record {
  numbers = numbers.0;
  extremes = record {
    numbered = numbers.1;
    between = λ k d l. of_atom _ (contains-among (atoms_of whole) _ (All-contains_itself (atoms_of whole) k d l));
  };
} where
  single_atom : LinearSum → Atom
  single_atom t = record { term = t }

  some_of : (a : Atom) → Among a rows → Among a (atoms_of whole)
  some_of a k = among-map single_atom whole a.term (e.some_of a.term (among-map (λ (b : Atom). b.term) rows a k))

  numbers : (ns : List ℕ) × HaveNumbers ns rows (atoms_of whole)
  numbers = numbers_among rows (atoms_of whole) some_of

  atom_there : (t : LinearSum) → Among t (rows_of rows) → Among (single_atom t) rows
  atom_there t k =
      let m = map-among (λ (b : Atom). b.term) rows t k in
      subst (λ (s : LinearSum). Among (single_atom s) rows) m.2 m.1

  between_atoms : (t : LinearSum) → LiesBetween (rows_of rows) t → IsBetween rows t
  between_atoms t b = record {
    upper = single_atom b.upper;
    upper_there = among-contains rows (single_atom b.upper) (atom_there b.upper b.upper_there);
    above = record { parts = b.above.parts; constant = b.above.constant };
    lower = single_atom b.lower;
    lower_there = among-contains rows (single_atom b.lower) (atom_there b.lower b.lower_there);
    below = record { parts = b.below.parts; constant = b.below.constant };
  }

  of_atom : (a : Atom) → Among a (atoms_of whole) → IsBetween rows a.term
  of_atom a k =
      let m = map-among single_atom whole a k in
      subst (λ (b : Atom). IsBetween rows b.term) m.2 (between_atoms m.0 (e.between m.0 m.1))

-- Projections

-- what is projected of all rows, whose extreme ones project to these
pub record IsProjectedOf (columns : List ℕ) (all pre : List Atom) : Type 0 where
  pub whole : List Atom
  pub pair : Option (ℕ × (LinearSum × LinearSum))
  pub given : projected columns all ≡ gives whole pair
  pub outer : AreOuter pre whole

pub projected-extremes : (columns ns : List ℕ) (rows all pre : List Atom) (pair : Option (ℕ × (LinearSum × LinearSum))) →
    AreExtremes ns rows all → projected columns rows ≡ gives pre pair → IsProjectedOf columns all pre
projected-extremes columns ns rows all pre pair e h =
    let ranges = range_rows columns in
    let left = projected-left columns rows pre pair h in
    let around = elimination_encloses columns (rows_of rows ++ ranges) (rows_of all ++ ranges) (rows_of pre)
    (enclose_append (rows_of rows) (rows_of all) ranges (extremes_enclose ns rows all e)) left.eliminated in
    record {
      whole = atoms_of around.whole;
      pair = first_inexact columns (listed_rows all columns);
      given = ap (left_by columns all) around.given;
      outer = enclosed_outer pre around.whole around.enclosed;
    }
