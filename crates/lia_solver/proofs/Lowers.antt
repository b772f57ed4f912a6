-- Rows that bound a column from below, and how many rows a column has passed.
use Rattle.std.proofs.Common.{◌≡◌, ◌⊎◌, inl, inr, ℕ, suc, ◌<◌, ◌≤◌, ◌+◌, Bool, true, false, not, List, [], ◌∷◌, ◌++◌, length, take, ℤ, arith, refl, sym, ap, subst, ◌∙◌}
use Rattle.std.specs.Prelude.{IsTrue, Contains, filter, if◌then◌else◌}
use Rattle.std.proofs.lemmas.Bool.{cases_lt}
use Rattle.std.proofs.lemmas.List.{length-append, length-take-le, take_more, take_all}
use Rattle.std.proofs.lemmas.List.Elements.{filter-append}
use Rattle.shadow_elim.proofs.Members.{Among, among-append_left, among-append_right, among-append_cases, contains-among, among-contains}
use Rattle.lia_solver.specs.steps.Entries.{Entry, no_entry, entry_at, sum_at, bounds_below}
use Rattle.lia_solver.specs.steps.Tables.{starts_from, is_passed, passed, AreLowerPlaces}
use Rattle.lia_solver.proofs.FirstColumns.{below-starts}
use Rattle.lia_solver.proofs.Growing.{filter-no}

-- those among the first rows
pub record AreLowersTo (x : ℕ) (entries : List Entry) (n : ℕ) (places : List ℕ) : Type 0 where
  pub right : (i : ℕ) → Contains places i → (i < length entries) × IsTrue (bounds_below x (sum_at entries i).parts)
  pub all : (i : ℕ) → i < n → IsTrue (bounds_below x (sum_at entries i).parts) → Contains places i

-- one more row, which does
pub lowers-push : (x : ℕ) (entries : List Entry) (n : ℕ) (places next : List ℕ) → AreLowersTo x entries n places → n < length entries →
    IsTrue (bounds_below x (sum_at entries n).parts) → next ≡ places ++ n ∷ [] → AreLowersTo x entries (n + 1) next
lowers-push x entries n places next a h k e = subst (AreLowersTo x entries (n + 1)) (sym e) (record {
  right = λ i c. by_side i (among-append_cases places (n ∷ []) i (contains-among (places ++ n ∷ []) i c));
  all = λ i q b. by_place i b (cases_lt i n) q;
}) where
  by_side : (i : ℕ) → Among i places ⊎ Among i (n ∷ []) → (i < length entries) × IsTrue (bounds_below x (sum_at entries i).parts)
  by_side i (inl m) = a.right i (among-contains places i m)
  by_side i (inr (inl s)) = subst (λ (j : ℕ). (j < length entries) × IsTrue (bounds_below x (sum_at entries j).parts)) s (h, k)
  by_side i (inr (inr m)) = absurd m

  by_place : (i : ℕ) → IsTrue (bounds_below x (sum_at entries i).parts) → (i < n) ⊎ (n ≤ i) → i < n + 1 → Contains (places ++ n ∷ []) i
  by_place i b (inl lt) q =
      among-contains (places ++ n ∷ []) i (among-append_left places (n ∷ []) i (contains-among places i (a.all i lt b)))
  by_place i b (inr ge) q =
      among-contains (places ++ n ∷ []) i (among-append_right places (n ∷ []) i (inl (omega (arith, ge, q))))

-- a row that names no column up to x doesn't bound it
pub below-apart : (x : ℕ) (ps : List (ℕ × ℤ)) → starts_from (x + 1) ps ≡ true → bounds_below x ps ≡ false
below-apart x ps h = by_value (bounds_below x ps) refl where
  by_value : (b : Bool) → bounds_below x ps ≡ b → b ≡ false
  by_value true e = sym h ∙ below-starts x (x + 1) ps (omega arith) e
  by_value false e = refl

-- one more row, which doesn't
pub lowers-skip : (x : ℕ) (entries : List Entry) (n : ℕ) (places : List ℕ) → AreLowersTo x entries n places →
    bounds_below x (sum_at entries n).parts ≡ false → AreLowersTo x entries (n + 1) places
lowers-skip x entries n places a h = record {
  right = a.right;
  all = λ i q b. by_place i b (cases_lt i n) q;
} where
  by_place : (i : ℕ) → IsTrue (bounds_below x (sum_at entries i).parts) → (i < n) ⊎ (n ≤ i) → i < n + 1 → Contains places i
  by_place i b (inl lt) q = a.all i lt b
  by_place i b (inr ge) q =
      let same : i ≡ n = omega (arith, ge, q) in
      absurd (apart (sym b ∙ ap (λ (j : ℕ). bounds_below x (sum_at entries j).parts) same ∙ h)) where
        apart : true ≡ false → ⊥
        apart e = cc

pub lowers-all : (x : ℕ) (entries : List Entry) (n : ℕ) (places : List ℕ) → length entries ≤ n → AreLowersTo x entries n places →
    AreLowerPlaces x entries places
lowers-all x entries n places h a = record {
  right = a.right;
  all = λ i q b. a.all i (omega (arith, q, h)) b;
}

-- Rows that are passed

passed-more : (x : ℕ) (entries : List Entry) (n : ℕ) → n < length entries → passed x (take (n + 1) entries)
    ≡ passed x (take n entries) + length (filter (is_passed x) (entry_at entries n ∷ []))
passed-more x entries n h =
    ap (passed x) (take_more entries n no_entry h)
    ∙ ap (λ (es : List Entry). length es) (filter-append (is_passed x) (take n entries) (entry_at entries n ∷ []))
    ∙ length-append (filter (is_passed x) (take n entries)) (filter (is_passed x) (entry_at entries n ∷ []))

pub passed-one : (x : ℕ) (entries : List Entry) (n : ℕ) → n < length entries → starts_from x (sum_at entries n).parts ≡ false →
    passed x (take (n + 1) entries) ≡ passed x (take n entries) + 1
passed-one x entries n h k =
    passed-more x entries n h ∙ ap (λ m. passed x (take n entries) + m)
    (ap (λ b. length (if b then (entry_at entries n ∷ []) else [])) (ap not k))

pub passed-none : (x : ℕ) (entries : List Entry) (n : ℕ) → n < length entries → starts_from x (sum_at entries n).parts ≡ true →
    passed x (take (n + 1) entries) ≡ passed x (take n entries)
passed-none x entries n h k =
    passed-more x entries n h ∙ ap (λ m. passed x (take n entries) + m)
    (ap (λ (es : List Entry). length es) (filter-no (is_passed x) (entry_at entries n) [] (ap not k))) ∙ omega arith

passed-below : (p : Entry → Bool) (entries : List Entry) → length (filter p entries) ≤ length entries
passed-below p [] = omega arith
passed-below p (e ∷ es) = by_test (p e) (passed-below p es) where
  by_test : (b : Bool) → length (filter p es) ≤ length es → length (if b then (e ∷ filter p es) else filter p es) ≤ suc (length es)
  by_test true h = omega (arith, h)
  by_test false h = omega (arith, h)

pub passed-limit : (x : ℕ) (entries : List Entry) (n : ℕ) → n ≤ length entries → passed x (take n entries) ≤ n
passed-limit x entries n h =
    omega (arith, h, passed-below (is_passed x) (take n entries), length-take-le n entries h)

pub passed-all : (x : ℕ) (entries : List Entry) (n : ℕ) → length entries ≤ n → passed x (take n entries) ≡ passed x entries
passed-all x entries n h = ap (passed x) (take_all n entries h)
