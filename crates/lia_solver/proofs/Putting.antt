-- What becomes of the rows of a table when one is put into it.
use Rattle.std.proofs.Common.{◌≡◌, ◌⊎◌, inl, inr, ℕ, ◌<◌, ◌+◌, ◌*◌, ◌^◌, List, [], ◌∷◌, ◌++◌, length, take, get_or, ℤ, arith, refl, sym, ap, subst, ◌∙◌}
use Rattle.std.specs.Prelude.{IsTrue, Contains, flat_map}
use Rattle.std.proofs.lemmas.Int.{ints}
use Rattle.std.proofs.lemmas.Grind.{flat_map-append}
use Rattle.std.proofs.lemmas.List.{append-nil, append_assoc, length-append, length-map, length-take, map-append, take_more}
use Rattle.std.proofs.lemmas.List.Folds.{length-flat_map-take}
use Rattle.linear_formula.specs.LinearSum.{LinearSum, is_term}
use Rattle.linear_formula.specs.declared.formula.Atom.{Atom}
use Rattle.infeasible_cert.specs.Right.{rows_of, upper_range, lower_range, range_rows}
use Rattle.infeasible_cert.proofs.Ranges.{length-ranges}
use Rattle.shadow_elim.specs.Stages.{terms_of}
use Rattle.shadow_elim.specs.declared.row.Row.{Row}
use Rattle.shadow_elim.proofs.InPlace.{ranges-more}
use Rattle.shadow_elim.proofs.Naming.{ranges-terms}
use Rattle.shadow_elim.proofs.Members.{Among, among-append_left, among-append_right, among-append_cases, contains-among, among-contains}
use Rattle.lia_solver.specs.declared.table.Origin.{Origin}
use Rattle.lia_solver.specs.declared.table.Origin.TheVariants.{Given}
use Rattle.lia_solver.specs.steps.Entries.{Entry, entry_at, sum_at, least_at}
use Rattle.lia_solver.specs.steps.Gathered.{IsSpanned, IsGivenIn, AreGathered, ArePut, numbered_rows}
use Rattle.lia_solver.specs.steps.Numbers.{numbered_from}
use Rattle.lia_solver.specs.steps.Tables.{IsPut}
use Rattle.lia_solver.proofs.Adding.{IsStep, added-step, row-same}
use Rattle.lia_solver.proofs.Branching.{rows-append, terms-append}
use Rattle.lia_solver.proofs.Growing.{step-rows}
use Rattle.lia_solver.proofs.Ranges.{all-from}

pub gathered-none : AreGathered [] []
gathered-none = record {
  table = record {
    terms = record { greatest = λ i h. absurd (omega (arith, h)); least = λ i h. absurd (omega (arith, h)) };
    apart = λ i j h. absurd (omega (arith, h));
    real = λ i h. absurd (omega (arith, h));
  };
  spanned = λ r c. absurd (contains-among [] r c);
  given = λ i h. absurd (omega (arith, h));
  least = λ i h. absurd (omega (arith, h));
}

-- One row more

abbrev pub numbered_row : LinearSum → ℕ → Row
numbered_row t n = record { term = t; number = n }

given-more : (rows : List Row) (row : Row) (e : Entry) → IsGivenIn rows e → IsGivenIn (rows ++ row ∷ []) e
given-more rows row e g = record {
  number = g.number;
  origin = g.origin;
  here = among-contains (rows ++ row ∷ []) (numbered_row e.sum g.number) (among-append_left rows (row ∷ []) (numbered_row e.sum g.number)
      (contains-among rows (numbered_row e.sum g.number) g.here));
}

least-more : (rows : List Row) (row : Row) (t : LinearSum) → Contains (terms_of rows) t → Contains (terms_of (rows ++ row ∷ [])) t
least-more rows row t c =
    among-contains (terms_of (rows ++ row ∷ [])) t (subst (λ (ts : List LinearSum). Among t ts) (sym (terms-append rows (row ∷ [])))
    (among-append_left (terms_of rows) (row.term ∷ []) t (contains-among (terms_of rows) t c)))

last-there : (rows : List Row) (row : Row) → Contains (rows ++ row ∷ []) row
last-there rows row =
    among-contains (rows ++ row ∷ []) row (among-append_right rows (row ∷ []) row (inl refl))

last-term : (rows : List Row) (row : Row) → Contains (terms_of (rows ++ row ∷ [])) row.term
last-term rows row =
    among-contains (terms_of (rows ++ row ∷ [])) row.term (subst (λ (ts : List LinearSum). Among row.term ts)
    (sym (terms-append rows (row ∷ []))) (among-append_right (terms_of rows) (row.term ∷ []) row.term (inl refl)))

-- each of the rows and the new one
each-more : (P : Row → Type 0) (rows : List Row) (row : Row) → ((r : Row) → Contains rows r → P r) → P row →
    (r : Row) → Contains (rows ++ row ∷ []) r → P r
each-more P rows row h k r c = by_side (among-append_cases rows (row ∷ []) r (contains-among (rows ++ row ∷ []) r c)) where
  by_side : Among r rows ⊎ ((row ≡ r) ⊎ ⊥) → P r
  by_side (inl a) = h r (among-contains rows r a)
  by_side (inr (inl e)) = subst P e k
  by_side (inr (inr a)) = absurd a

spanned-step : (t s : LinearSum) (o : Origin) (old new : List Entry) → IsStep t o old new → IsSpanned s old → IsSpanned s new
spanned-step t s o old new p (inl e) = inl e
spanned-step t s o old new p (inr h) = inr (
  h.0,
  omega (arith, h.1, p.count),
  p.parts h.0 h.1 ∙ h.2,
  omega (arith, ints, p.below h.0 h.1, h.3),
  omega (arith, ints, p.above h.0 h.1, h.4),
)

pub gathered-put : (rows : List Row) (t : LinearSum) (n : ℕ) (old new : List Entry) → AreGathered rows old → IsPut t (Given n) old new →
    IsTrue (is_term t) → AreGathered (rows ++ numbered_row t n ∷ []) new
gathered-put rows t n old new g (inl h) term = subst (AreGathered (rows ++ numbered_row t n ∷ [])) (sym h.1) (record {
  table = g.table;
  spanned = each-more (λ r. IsSpanned r.term old) rows (numbered_row t n) g.spanned (inl h.0);
  given = λ i k. given-more rows (numbered_row t n) (entry_at old i) (g.given i k);
  least = λ i k. least-more rows (numbered_row t n) (least_at old i) (g.least i k);
})
gathered-put rows t n old new g (inr h) term = record {
  table = step-rows t (Given n) old new s g.table term h.0;
  spanned = each-more (λ r. IsSpanned r.term new) rows row (λ r c. spanned-step t r.term (Given n) old new s (g.spanned r c))
      (inr (s.place, s.inside, s.here, s.weak, s.strong));
  given = λ i k. by_each i (s.each i k);
  least = λ i k. by_least i (s.least i k);
} where
  row : Row
  row = numbered_row t n

  s : IsStep t (Given n) old new
  s = added-step t (Given n) old new h.1

  by_each : (i : ℕ) → ((i < length old) × (sum_at new i ≡ sum_at old i) × ((entry_at new i).origin ≡ (entry_at old i).origin))
      ⊎ ((sum_at new i ≡ t) × ((entry_at new i).origin ≡ Given n)) → IsGivenIn (rows ++ row ∷ []) (entry_at new i)
  by_each i (inl e) =
      let g = given-more rows row (entry_at old i) (g.given i e.0) in
      record {
        number = g.number;
        origin = e.2 ∙ g.origin;
        here = subst (λ (r : LinearSum). Contains (rows ++ row ∷ []) (numbered_row r g.number)) (sym e.1) g.here;
      }
  by_each i (inr e) = record {
    number = n;
    origin = e.1;
    here = subst (λ (r : LinearSum). Contains (rows ++ row ∷ []) (numbered_row r n)) (sym e.0) (last-there rows row);
  }

  by_least : (i : ℕ) → ((i < length old) × ((entry_at new i).least ≡ (entry_at old i).least)) ⊎ (((sum_at new i).parts ≡ t.parts)
      × ((entry_at new i).least ≡ t.constant)) → Contains (terms_of (rows ++ row ∷ [])) (least_at new i)
  by_least i (inl e) =
      subst (Contains (terms_of (rows ++ row ∷ []))) (row-same (least_at old i) (least_at new i) (sym (s.parts i e.0)) (sym e.1))
      (least-more rows row (least_at old i) (g.least i e.0))
  by_least i (inr e) =
      subst (Contains (terms_of (rows ++ row ∷ []))) (row-same t (least_at new i) (sym e.0) (sym e.1)) (last-term rows row)

-- Rows of atoms

pub put-then : (first second : List Row) (old mid new : List Entry) → ArePut first old mid → ArePut second mid new →
    ArePut (first ++ second) old new
put-then first second old mid new h k = λ rows g.
    subst (λ (rs : List Row). AreGathered rs new) (append_assoc rows first second) (k (rows ++ first) (h rows g))

pub put-one : (t : LinearSum) (n : ℕ) (old new : List Entry) → IsPut t (Given n) old new → IsTrue (is_term t) →
    ArePut (numbered_row t n ∷ []) old new
put-one t n old new h term = λ rows g. gathered-put rows t n old new g h term

numbered-joined : (n : ℕ) (ts us : List LinearSum) (m : ℕ) → m ≡ n + length ts → numbered_from n (ts ++ us)
    ≡ numbered_from n ts ++ numbered_from m us
numbered-joined n [] us m e = ap (λ (k : ℕ). numbered_from k us) (omega (arith, e))
numbered-joined n (t ∷ ts) us m e =
    ap (λ (rs : List Row). numbered_row t n ∷ rs) (numbered-joined (n + 1) ts us m (omega (arith, e)))

pub put-atoms : (atoms : List Atom) (first i number : ℕ) (atom : Atom) (old mid new : List Entry) → i < length atoms →
    atom ≡ get_or atoms i atom → number ≡ first + i → ArePut (numbered_from first (rows_of (take i atoms))) old mid →
    IsPut atom.term (Given number) mid new → IsTrue (is_term atom.term) →
    ArePut (numbered_from first (rows_of (take (i + 1) atoms))) old new
put-atoms atoms first i number atom old mid new h e m a p term =
    subst (λ (rs : List Row). ArePut rs old new) (sym whole) (put-then (numbered_from first (rows_of (take i atoms)))
    (numbered_row atom.term number ∷ []) old mid new a (put-one atom.term number mid new p term)) where
      taken : rows_of (take (i + 1) atoms) ≡ rows_of (take i atoms) ++ atom.term ∷ []
      taken = ap rows_of (take_more atoms i atom h) ∙ map-append (λ (a : Atom). a.term) (take i atoms) (get_or atoms i atom ∷ [])
          ∙ ap (λ (a : Atom). rows_of (take i atoms) ++ a.term ∷ []) (sym e)

      count : number ≡ first + length (rows_of (take i atoms))
      count = omega (arith, m, length-map (take i atoms) (λ (a : Atom). a.term), length-take i atoms, h)

      whole : numbered_from first (rows_of (take (i + 1) atoms))
          ≡ numbered_from first (rows_of (take i atoms)) ++ numbered_row atom.term number ∷ []
      whole = ap (numbered_from first) taken ∙ numbered-joined first (rows_of (take i atoms)) (atom.term ∷ []) number count

-- a row in the code's words
pub put-cast : (t : LinearSum) (ps : List (ℕ × ℤ)) (c d : ℤ) (o : Origin) (old new : List Entry) → ps ≡ t.parts → d ≡ t.constant →
    c ≡ d → IsPut (record { parts = ps; constant = c }) o old new → IsPut t o old new
put-cast t ps c d o old new e f g p =
    subst (λ (s : LinearSum). IsPut s o old new) (row-same (record { parts = ps; constant = c }) t e (g ∙ f)) p

-- Rows of ranges

pub put-ranges : (columns : List ℕ) (first i number next x : ℕ) (old mid half new : List Entry) → i < length columns →
    get_or columns i 0 ≡ x → number ≡ first + 2 * i → next ≡ number + 1 →
    ArePut (numbered_from first (range_rows (take i columns))) old mid → IsPut (upper_range x) (Given number) mid half →
    IsPut (lower_range x) (Given next) half new → x < 2 ^ 32 → ArePut (numbered_from first (range_rows (take (i + 1) columns))) old new
put-ranges columns first i number next x old mid half new h e m k a p q small =
    subst (λ (rs : List Row). ArePut rs old new) (sym whole) (put-then (numbered_from first (range_rows (take i columns)))
    (numbered_row (upper_range x) number ∷ numbered_row (lower_range x) next ∷ []) old mid new a
    (put-then (numbered_row (upper_range x) number ∷ []) (numbered_row (lower_range x) next ∷ []) mid half new
    (put-one (upper_range x) number mid half p (terms (upper_range x) (inl refl)))
    (put-one (lower_range x) next half new q (terms (lower_range x) (inr (inl refl)))))) where
      each : (y : ℕ) → Among y (x ∷ []) → y < 2 ^ 32
      each y (inl e) = subst (λ (z : ℕ). z < 2 ^ 32) e small
      each y (inr b) = absurd b

      terms : (t : LinearSum) → Among t (range_rows (x ∷ [])) → IsTrue (is_term t)
      terms = ranges-terms (x ∷ []) (all-from (λ (y : ℕ). y < 2 ^ 32) (x ∷ []) (λ y b. each y b))

      taken : range_rows (take (i + 1) columns) ≡ range_rows (take i columns) ++ upper_range x ∷ lower_range x ∷ []
      taken = ap range_rows (take_more columns i 0 h ∙ ap (λ (y : ℕ). take i columns ++ y ∷ []) e) ∙ ranges-more (take i columns) x

      count : number ≡ first + length (range_rows (take i columns))
      count = omega (arith, m, length-ranges (take i columns), length-take i columns, h)

      whole : numbered_from first (range_rows (take (i + 1) columns)) ≡ numbered_from first (range_rows (take i columns))
          ++ numbered_row (upper_range x) number ∷ numbered_row (lower_range x) next ∷ []
      whole = ap (numbered_from first) taken
          ∙ numbered-joined first (range_rows (take i columns)) (upper_range x ∷ lower_range x ∷ []) number count
          ∙ ap (λ (j : ℕ). numbered_from first (range_rows (take i columns)) ++ numbered_row (upper_range x) number
          ∷ numbered_row (lower_range x) j ∷ []) (sym k)

-- Rows of blocks

-- rows after those that have the first numbers
pub put-behind : (first second : List Atom) (next : ℕ) (old mid new : List Entry) → next ≡ length first →
    ArePut (numbered_from 0 (rows_of first)) old mid → ArePut (numbered_from next (rows_of second)) mid new →
    ArePut (numbered_from 0 (rows_of (first ++ second))) old new
put-behind first second next old mid new e h k =
    subst (λ (rs : List Row). ArePut rs old new) (sym whole)
    (put-then (numbered_from 0 (rows_of first)) (numbered_from next (rows_of second)) old mid new h k) where
      whole : numbered_from 0 (rows_of (first ++ second)) ≡ numbered_from 0 (rows_of first) ++ numbered_from next (rows_of second)
      whole = ap (numbered_from 0) (rows-append first second) ∙ numbered-joined 0 (rows_of first) (rows_of second) next
          (omega (arith, e, length-map first (λ (a : Atom). a.term)))

block-taken : (blocks : List (List Atom)) (i : ℕ) (atoms block : List Atom) → i < length blocks → block ≡ get_or blocks i block →
    atoms ≡ block → flat_map (λ b. b) (take (i + 1) blocks) ≡ flat_map (λ b. b) (take i blocks) ++ atoms
block-taken blocks i atoms block h e ea =
    ap (λ (bs : List (List Atom)). flat_map (λ b. b) bs) (take_more blocks i block h)
    ∙ flat_map-append (λ (b : List Atom). b) (take i blocks) (get_or blocks i block ∷ [])
    ∙ ap (λ (as_ : List Atom). flat_map (λ b. b) (take i blocks) ++ as_) (append-nil (get_or blocks i block) ∙ sym (ea ∙ e))

pub block-fits : (blocks : List (List Atom)) (i next : ℕ) (atoms block : List Atom) → i < length blocks → block ≡ get_or blocks i block →
    atoms ≡ block → next ≡ length (flat_map (λ b. b) (take i blocks)) → length (flat_map (λ b. b) blocks) < 2 ^ 32 →
    next + length atoms < 2 ^ 32
block-fits blocks i next atoms block h e ea en small =
    omega (arith, ap length (ea ∙ e), en, small, length-flat_map-take (λ (b : List Atom). b) blocks i block h)

pub block-count : (blocks : List (List Atom)) (i next : ℕ) (atoms block : List Atom) → i < length blocks → block ≡ get_or blocks i block →
    atoms ≡ block → next ≡ length (flat_map (λ b. b) (take i blocks)) → next + length atoms
    ≡ length (flat_map (λ b. b) (take (i + 1) blocks))
block-count blocks i next atoms block h e ea en =
    omega (arith, en, ap length (block-taken blocks i atoms block h e ea), length-append (flat_map (λ b. b) (take i blocks)) atoms)

pub put-block : (blocks : List (List Atom)) (i next : ℕ) (atoms block : List Atom) (old mid new : List Entry) → i < length blocks →
    block ≡ get_or blocks i block → atoms ≡ block → next ≡ length (flat_map (λ b. b) (take i blocks)) →
    ArePut (numbered_from 0 (rows_of (flat_map (λ b. b) (take i blocks)))) old mid → ArePut (numbered_from next (rows_of atoms)) mid new →
    ArePut (numbered_from 0 (rows_of (flat_map (λ b. b) (take (i + 1) blocks)))) old new
put-block blocks i next atoms block old mid new h e ea en p q =
    subst (λ (as_ : List Atom). ArePut (numbered_from 0 (rows_of as_)) old new) (sym (block-taken blocks i atoms block h e ea))
    (put-behind (flat_map (λ b. b) (take i blocks)) atoms next old mid new en p q)

-- A branch

pub gathered-all : (question splits : List Atom) (columns : List ℕ) (count : ℕ) (none first mid new : List Entry) → none ≡ [] →
    count ≡ length question → ArePut (numbered_from 0 (rows_of question)) none first →
    ArePut (numbered_from (count + 2 * length columns) (rows_of splits)) first mid →
    ArePut (numbered_from count (range_rows columns)) mid new → AreGathered (numbered_rows question splits columns) new
gathered-all question splits columns count none first mid new e n h k m =
    subst (λ (i : ℕ). AreGathered (nq ++ (ns i ++ nr i)) new) n (put-then nq (ns count ++ nr count) none first new h
    (put-then (ns count) (nr count) first mid new k m) [] (subst (AreGathered []) (sym e) gathered-none)) where
      nq : List Row
      nq = numbered_from 0 (rows_of question)

      ns : ℕ → List Row
      ns i = numbered_from (i + 2 * length columns) (rows_of splits)

      nr : ℕ → List Row
      nr i = numbered_from i (range_rows columns)
