-- The lines of the program: how they are put together, and how long they are.
use Rattle.std.proofs.Common.{◌≡◌, ℕ, ◌+◌, ◌*◌, ◌%◌, ◌<◌, ◌≤◌, ◌++◌, suc, zero, List, [], ◌∷◌, length, map, Bool, true, false, if◌then◌else◌, ◌==◌, ap, ◌∙◌, codes, append_assoc, append-nil, length-append, arith, eq-eqb, suc-mul}
use Rattle.std.specs.List.{flat_map, range_with_len}
use Rattle.std.specs.Fmt.{decimal}
use Rattle.std.proofs.lemmas.Fmt.{length-decimal-le}
use Rattle.std.proofs.lemmas.Grind.{flat_map-append}
use Rattle.std.proofs.lemmas.List.Folds.{flat_map-map}
use Rattle.workload_gen.specs.Workload.{call_of, ended, failing_line, main_line, numbers, procedure_line, safe_line, text_of, workload_lines}

-- a line whose number 3 divides
pub third_line : (i : ℕ) → i % 3 ≡ 0 →
    ended (procedure_line i) ≡ codes "int p" ++ (decimal i ++ (codes "(int a) { if (a > 0) { return 1; } assert(a != -" ++ (decimal i
    ++ (codes "); return 0; }" ++ 10 ∷ []))))
third_line i h =
    let e : (i % 3 == 0) ≡ true = eq-eqb _ _ h in
    ap (λ b. ended (if b then failing_line i else safe_line i)) e ∙ simp append_assoc

-- the lines of the procedures, and then that of `main`
pub in_order : (n : ℕ) (a b d : List ℕ) → a ≡ [] → b ≡ a ++ text_of (map procedure_line (numbers n)) →
    d ≡ b ++ ended (main_line n) → d ≡ text_of (workload_lines n)
in_order n a b d at_first procedures whole =
    whole ∙ (rw (procedures, at_first) (simp (flat_map-append, append-nil)))

-- Lengths: at most 80 bytes for the line of a procedure, and 40 for a call in `main`

decimal_short : (i : ℕ) → i < 100 → length (decimal i) ≤ 2
decimal_short i h = length-decimal-le 2 i (omega arith) h (omega arith)

failing_short : (i : ℕ) → i < 100 → length (ended (failing_line i)) ≤ 80
failing_short i h =
    let d = decimal_short i h in
    simp length-append (omega arith)

safe_short : (i : ℕ) → i < 100 → length (ended (safe_line i)) ≤ 80
safe_short i h =
    let d = decimal_short i h in
    simp length-append (omega arith)

call_short : (i : ℕ) → i < 100 → length (call_of i) ≤ 40
call_short i h =
    let d = decimal_short i h in
    simp length-append (omega arith)

line_short : (i : ℕ) → i < 100 → length (ended (procedure_line i)) ≤ 80
line_short i h = by_choice (i % 3 == 0)
  where
    by_choice : (b : Bool) → length (ended (if b then failing_line i else safe_line i)) ≤ 80
    by_choice true = failing_short i h
    by_choice false = safe_short i h

-- texts for n numbers
pieces_short : (f : ℕ → List ℕ) (most : ℕ) → ((i : ℕ) → i < 100 → length (f i) ≤ most) →
    (n a : ℕ) → a + n ≤ 100 → length (flat_map f (range_with_len a n)) ≤ n * most
pieces_short f most short zero a h = omega arith
pieces_short f most short (suc n) a h =
    let now = short a (omega arith) in
    let more = pieces_short f most short n (a + 1) (omega arith) in
    simp length-append (omega (arith, suc-mul n most))

-- the whole text
pub text_fits : (n : ℕ) → n ≤ 60 → length (text_of (workload_lines n)) ≤ 8192
text_fits n h =
    let lines = pieces_short (λ i. ended (procedure_line i)) 80 line_short n 1 (omega arith) in
    let calls = pieces_short call_of 40 call_short n 1 (omega arith) in
    simp (flat_map-append, flat_map-map, length-append) (omega arith)
