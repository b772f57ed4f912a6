-- Rows and cubes are what is read of their texts.
use Rattle.std.proofs.Common.{◌≡◌, ℕ, suc, ◌^◌, ◌<◌, true, ◌&&◌, nat_le, nat_lt, Some, List, [], ◌∷◌, ◌++◌, length, ℤ, pos, negsuc, arith, refl, sym, subst, ap, ◌∙◌}
use Rattle.std.specs.Prelude.{IsTrue, codes, flat_map, map, unsigned_abs}
use Rattle.std.proofs.lemmas.Bool.{leb-true, le-leb, lt-ltb, ltb-true}
use Rattle.std.proofs.lemmas.List.{map-id}
use Rattle.linear_formula.specs.LinearSum.{LinearSum, are_coefficients_within, has_columns, has_no_zero, is_ascending, is_term, is_within, max_coefficient, max_constant, max_parts}
use Rattle.linear_formula.specs.Formula.{are_terms}
use Rattle.linear_formula.specs.declared.formula.Atom.{Atom}
use Rattle.linear_formula.proofs.Limits.{both, both_in}
use Rattle.std.specs.List.{AllByRecursion}
use Rattle.proof_bundle.specs.Text.{AreEach, Is32, IsRow, cube_text, item, pair_text, row_text, signed_item, signed_last}
use Rattle.proof_bundle.specs.steps.Reading.{IsFrom, list_at, max_count, max_thing, number_at, signed_at, tag_at, tagged_at}
use Rattle.proof_bundle.specs.steps.Bundles.{cube_at, is_row, pair_at, row_at}
use Rattle.proof_bundle.proofs.Listing.{lists, tagged}
use Rattle.proof_bundle.proofs.Numbers.{counts, signeds, things}
use Rattle.proof_bundle.proofs.Parsing.{Parses, bind_again, bind_is, glue, some_is, tag_takes, tag_then, test_is, then_again}

-- Columns and coefficients

abbrev pub IsPair : ℕ × ℤ → Type 0
IsPair p = Is32 p.0 × IsFrom max_coefficient max_coefficient p.1

coefficients : Parses (IsFrom max_coefficient max_coefficient) signed_item (signed_at 32 max_coefficient max_coefficient)
coefficients = signeds 32 (omega arith) max_coefficient max_coefficient (omega arith) (omega arith)

constants : Parses (IsFrom max_constant max_constant) signed_last (signed_at 10 max_constant max_constant)
constants = signeds 10 (omega arith) max_constant max_constant (omega arith) (omega arith)

pair_takes : (bytes : List ℕ) (x : (ℕ × ℤ) × List ℕ) → pair_at bytes ≡ Some x → IsPair x.0 × (bytes ≡ pair_text x.0 ++ x.1)
unfolding pair_at
pair_takes bytes x e =
    let a = bind_is (number_at 32 max_thing bytes) _ x e in
    let b = bind_is (signed_at 32 max_coefficient max_coefficient a.0.1) _ x a.2 in
    let t = (things 32 (omega arith)).takes bytes a.0 a.1 in
    let u = coefficients.takes a.0.1 b.0 b.1 in
    subst (λ (y : (ℕ × ℤ) × List ℕ). IsPair y.0 × (bytes ≡ pair_text y.0 ++ y.1)) (some_is ((a.0.0, b.0.0), b.0.1) x b.2)
    ((t.0, u.0), glue bytes (item a.0.0) a.0.1 (signed_item b.0.0) b.0.1 t.1 u.1)

pair_again : (p : ℕ × ℤ) (rest : List ℕ) → IsPair p → pair_at (pair_text p ++ rest) ≡ Some (p, rest)
unfolding pair_at
pair_again p rest h =
    bind_again (number_at 32 max_thing (pair_text p ++ rest)) _ (p.0, signed_item p.1 ++ rest)
    (then_again (things 32 (omega arith)) p.0 (signed_item p.1) rest h.0)
    ∙ bind_again (signed_at 32 max_coefficient max_coefficient (signed_item p.1 ++ rest)) _ (p.1, rest) (coefficients.again p.1 rest h.1)

pub pairs : Parses IsPair pair_text pair_at
pairs = record { takes = pair_takes; again = pair_again }

-- Terms

within : (m : ℕ) (z : ℤ) → IsFrom m m z → IsTrue (nat_le (unsigned_abs z) m)
within m (pos n) h = le-leb n m h
within m (negsuc n) h = le-leb (suc n) m (omega (arith, h))

from_within : (m : ℕ) (z : ℤ) → IsTrue (nat_le (unsigned_abs z) m) → IsFrom m m z
from_within m (pos n) h = leb-true n m h
from_within m (negsuc n) h = let l = leb-true (suc n) m h in omega (arith, l)

columns_of : (ps : List (ℕ × ℤ)) → AllByRecursion IsPair ps → IsTrue (has_columns ps)
columns_of [] h = refl
columns_of (p ∷ ps) h = both_in (nat_lt p.0 (2 ^ 32)) (has_columns ps) (lt-ltb p.0 (2 ^ 32) h.0.0) (columns_of ps h.1)

coefficients_of : (ps : List (ℕ × ℤ)) → AllByRecursion IsPair ps → IsTrue (are_coefficients_within ps)
coefficients_of [] h = refl
coefficients_of (p ∷ ps) h =
    both_in (nat_le (unsigned_abs p.1) max_coefficient) (are_coefficients_within ps) (within max_coefficient p.1 h.0.1)
    (coefficients_of ps h.1)

each_pair : (ps : List (ℕ × ℤ)) → IsTrue (has_columns ps) → IsTrue (are_coefficients_within ps) → AllByRecursion IsPair ps
each_pair [] c w = tt
each_pair (p ∷ ps) c w =
    let cs = both (nat_lt p.0 (2 ^ 32)) (has_columns ps) c in
    let ws = both (nat_le (unsigned_abs p.1) max_coefficient) (are_coefficients_within ps) w in
    ((ltb-true p.0 (2 ^ 32) cs.0, from_within max_coefficient p.1 ws.0), each_pair ps cs.1 ws.1)

abbrev sum_of : List (ℕ × ℤ) → ℤ → LinearSum
sum_of ps z = record { parts = ps; constant = z }

-- what is tested of a row, with the ranges of its numbers, is that it is a term
pub term_of : (ps : List (ℕ × ℤ)) (z : ℤ) → is_row ps ≡ true → AllByRecursion IsPair ps → IsFrom max_constant max_constant z →
    IsTrue (is_term (sum_of ps z))
term_of ps z row each constant =
    let u = both (nat_le (length ps) max_parts && is_ascending ps) (has_no_zero ps) row in
    let w = both (nat_le (length ps) max_parts) (is_ascending ps) u.0 in
    let order = both_in (is_ascending ps) (has_no_zero ps) w.1 u.1 in
    let few = both_in (nat_le (length ps) max_parts) (are_coefficients_within ps) w.0 (coefficients_of ps each) in
    both_in (is_ascending ps && has_no_zero ps && has_columns ps) (is_within (sum_of ps z))
    (both_in (is_ascending ps && has_no_zero ps) (has_columns ps) order (columns_of ps each))
    (both_in (nat_le (length ps) max_parts && are_coefficients_within ps) (nat_le (unsigned_abs z) max_constant) few
    (within max_constant z constant))

pub record Term (ps : List (ℕ × ℤ)) (z : ℤ) : Type 0 where
  pub row : is_row ps ≡ true
  pub each : AllByRecursion IsPair ps
  pub constant : IsFrom max_constant max_constant z
  pub few : length ps < 2 ^ 64

pub of_term : (ps : List (ℕ × ℤ)) (z : ℤ) → IsTrue (is_term (sum_of ps z)) → Term ps z
of_term ps z h =
    let u = both (is_ascending ps && has_no_zero ps && has_columns ps) (is_within (sum_of ps z)) h in
    let v = both (is_ascending ps && has_no_zero ps) (has_columns ps) u.0 in
    let o = both (is_ascending ps) (has_no_zero ps) v.0 in
    let w = both (nat_le (length ps) max_parts && are_coefficients_within ps) (nat_le (unsigned_abs z) max_constant) u.1 in
    let few = both (nat_le (length ps) max_parts) (are_coefficients_within ps) w.0 in
    let count = leb-true (length ps) max_parts few.0 in
    record {
      row = both_in (nat_le (length ps) max_parts && is_ascending ps) (has_no_zero ps)
          (both_in (nat_le (length ps) max_parts) (is_ascending ps) few.0 o.0) o.1;
      each = each_pair ps v.1 few.1;
      constant = from_within max_constant z w.1;
      few = omega (arith, count);
    }

-- Rows

row_takes : (bytes : List ℕ) (x : Atom × List ℕ) → row_at bytes ≡ Some x → IsRow x.0 × (bytes ≡ row_text x.0 ++ x.1)
unfolding row_at
row_takes bytes x e =
    let a = bind_is (tag_at (codes "row ") bytes) _ x e in
    let b = bind_is (number_at 32 max_count a.0) _ x a.2 in
    let c = bind_is (list_at pair_at b.0.0 b.0.1) _ x b.2 in
    let d = bind_is (signed_at 10 max_constant max_constant c.0.1) _ x c.2 in
    let atom : Atom = record { term = sum_of c.0.0 d.0.0 } in
    let t = test_is (is_row c.0.0) (atom, d.0.1) x d.2 in
    let n = (counts 32 (omega arith)).takes a.0 b.0 b.1 in
    let ps = (lists IsPair pair_text pair_at pairs b.0.0).takes b.0.1 c.0 c.1 in
    let z = constants.takes c.0.1 d.0 d.1 in
    subst (λ (y : Atom × List ℕ). IsRow y.0 × (bytes ≡ row_text y.0 ++ y.1)) t.1 (
      term_of c.0.0 d.0.0 t.0 ps.0.1 z.0,
      glue bytes (codes "row ") a.0 (item (length c.0.0) ++ (flat_map pair_text c.0.0 ++ signed_last d.0.0)) d.0.1
          (tag_takes (codes "row ") bytes a.0 a.1)
          (glue a.0 (item (length c.0.0)) b.0.1 (flat_map pair_text c.0.0 ++ signed_last d.0.0) d.0.1
          (n.1 ∙ ap (λ k. item k ++ b.0.1) (sym ps.0.0))
          (glue b.0.1 (flat_map pair_text c.0.0) c.0.1 (signed_last d.0.0) d.0.1 ps.1 z.1)),
    )

row_again : (r : Atom) (rest : List ℕ) → IsRow r → row_at (row_text r ++ rest) ≡ Some (r, rest)
unfolding row_at
row_again r rest h =
    let ps = r.term.parts in
    let z = r.term.constant in
    let t = of_term ps z h in
    bind_again (tag_at (codes "row ") (row_text r ++ rest)) _ ((item (length ps) ++ (flat_map pair_text ps ++ signed_last z)) ++ rest)
    (tag_then (codes "row ") (item (length ps) ++ (flat_map pair_text ps ++ signed_last z)) rest)
    ∙ bind_again (number_at 32 max_count ((item (length ps) ++ (flat_map pair_text ps ++ signed_last z)) ++ rest)) _
    (length ps, (flat_map pair_text ps ++ signed_last z) ++ rest)
    (then_again (counts 32 (omega arith)) (length ps) (flat_map pair_text ps ++ signed_last z) rest t.few)
    ∙ bind_again (list_at pair_at (length ps) ((flat_map pair_text ps ++ signed_last z) ++ rest)) _ (ps, signed_last z ++ rest)
    (then_again (lists IsPair pair_text pair_at pairs (length ps)) ps (signed_last z) rest (refl, t.each))
    ∙ bind_again (signed_at 10 max_constant max_constant (signed_last z ++ rest)) _ (z, rest) (constants.again z rest t.constant)
    ∙ rw t.row refl

pub rows : Parses IsRow row_text row_at
rows = record { takes = row_takes; again = row_again }

pub cubes : Parses (AreEach IsRow) cube_text cube_at
unfolding cube_at
cubes = tagged IsRow row_text row_at rows (codes "cube ")

pub are_terms_of : (atoms : List Atom) → AllByRecursion IsRow atoms → IsTrue (are_terms atoms)
are_terms_of [] h = refl
are_terms_of (a ∷ atoms) h = both_in (is_term a.term) (are_terms atoms) h.0 (are_terms_of atoms h.1)

pub cubes_are_terms : (bytes : List ℕ) (atoms : List Atom) (rest : List ℕ) →
    tagged_at (codes "cube ") row_at bytes ≡ Some (map (λ (a : Atom). a) atoms, rest) → IsTrue (are_terms atoms)
cubes_are_terms bytes atoms rest e =
    let t = (tagged IsRow row_text row_at rows (codes "cube ")).takes bytes (map (λ a. a) atoms, rest) e in
    are_terms_of atoms (subst (AllByRecursion IsRow) (map-id atoms) t.0.1)
