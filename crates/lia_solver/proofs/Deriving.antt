-- Steps that derive rows of a table, one after another.
use Rattle.std.proofs.Common.{◌≡◌, ◌⊎◌, inl, inr, ℕ, zero, suc, ◌<◌, ◌≤◌, ◌+◌, ◌^◌, ◌==◌, nat_le, true, Ok, Err, List, [], ◌∷◌, ◌++◌, length, get_or, set, replicate, ℤ, pos, arith, refl, sym, ap, subst, ◌∙◌}
use Rattle.std.specs.Prelude.{IsTrue, Result, IfOk, OnOk, int_lt}
use Rattle.std.proofs.lemmas.Bool.{cases_eq}
use Rattle.std.proofs.lemmas.Bool.Decides.{nat_tests}
use borrow.Author.Tests.{eqb-true}
use Rattle.std.proofs.lemmas.List.{length-append, length-set, append_assoc, get_or_append_left, get_or_push, get_or-set_same, get_or-set_other}
use Rattle.linear_formula.specs.LinearSum.{LinearSum}
use Rattle.infeasible_cert.specs.declared.certificate.Derived.{Derived}
use Rattle.infeasible_cert.specs.Right.{row_at, rows_after, IsRightStep, AreRightSteps}
use Rattle.infeasible_cert.specs.Terms.{AreDerivedTerms}
use Rattle.shadow_elim.specs.Division.{tightened}
use Rattle.shadow_elim.specs.Elimination.{pair_sum}
use Rattle.shadow_elim.proofs.MadeRight.{made-right, rows_after-append, length-rows_after, right-append}
use Rattle.shadow_elim.proofs.Tests.{first_true}
use Rattle.lia_solver.specs.declared.derivation.Derivation.{Derivation}
use Rattle.lia_solver.specs.declared.table.Making.{Making}
use Rattle.lia_solver.specs.declared.table.Origin.TheVariants.{Given, Made}
use Rattle.lia_solver.specs.steps.Deriving.{IsNumbered, IsDerivation, IsFounded, step_by, level}
use Rattle.lia_solver.specs.steps.Entries.{Entry, entry_at, sum_at, making_of, bounds_above, bounds_below}
use Rattle.lia_solver.specs.steps.Solved.{IsMadeEarlier, IsOf, HaveOrigins}
use Rattle.lia_solver.specs.steps.Tables.{starts_from, IsMadeIn}
use Rattle.lia_solver.proofs.FirstColumns.{above-upper, below-lower}
use Rattle.lia_solver.proofs.Closing.{terms-push}

-- Numbers

rows-more : (rows : List LinearSum) (ds : List Derived) → (more : List LinearSum) × (rows_after rows ds ≡ rows ++ more)
rows-more rows [] = ([], sym (none rows)) where
  none : (xs : List LinearSum) → xs ++ [] ≡ xs
  none [] = refl
  none (x ∷ xs) = ap (λ ys. x ∷ ys) (none xs)
rows-more rows (d ∷ ds) =
    let f = rows-more (rows ++ d.row.term ∷ []) ds in
    (d.row.term ∷ f.0, f.1 ∙ append_assoc rows (d.row.term ∷ []) f.0)

numbered-more : (rows more : List LinearSum) (n : ℕ) (t : LinearSum) → IsNumbered rows n t → IsNumbered (rows ++ more) n t
numbered-more rows more n t h = record {
  inside = omega (arith, h.inside, length-append rows more);
  here = get_or_append_left rows more _ n h.inside ∙ h.here;
}

-- a row keeps its number
pub numbered-later : (base : List LinearSum) (ds es : List Derived) (n : ℕ) (t : LinearSum) → IsNumbered (rows_after base ds) n t →
    IsNumbered (rows_after base (ds ++ es)) n t
numbered-later base ds es n t h =
    let f = rows-more (rows_after base ds) es in
    subst (λ (rows : List LinearSum). IsNumbered rows n t) (sym (rows_after-append base ds es ∙ f.1))
    (numbered-more (rows_after base ds) f.0
    n t h)

-- a given row has its own
pub numbered-given : (base : List LinearSum) (ds : List Derived) (n : ℕ) (t : LinearSum) → n < length base → row_at base n ≡ t →
    IsNumbered (rows_after base ds) n t
numbered-given base ds n t h e =
    let f = rows-more base ds in
    subst (λ (rows : List LinearSum). IsNumbered rows n t) (sym f.1) (numbered-more base f.0 n t (record { inside = h; here = e }))

-- One more step

-- the step of a row follows from the two rows that it is made of
pub step-right : (rows : List LinearSum) (entries : List Entry) (x : ℕ) (e : Entry) (m : Making) (upper lower : ℕ) → IsMadeIn x entries e →
    e.origin ≡ Made m → IsNumbered rows upper (sum_at entries m.upper) → IsNumbered rows lower (sum_at entries m.lower) →
    IsRightStep rows (step_by e.sum m upper lower)
step-right rows entries x e m upper lower h o nu nl =
    subst (λ (n : Making). IsRightStep rows (step_by e.sum n upper lower)) (sym same) (subst (λ t. IsRightStep rows
    (step_by t (making_of x entries h.upper h.lower) upper lower)) (sym h.sum) right) where
      same : m ≡ making_of x entries h.upper h.lower
      same = made-same (sym o ∙ h.origin) where
        made-same : {a b : Making} → Made a ≡ Made b → a ≡ b
        made-same k = cc

      u : LinearSum
      u = sum_at entries h.upper

      l : LinearSum
      l = sum_at entries h.lower

      nu_here : IsNumbered rows upper u
      nu_here = subst (λ (n : Making). IsNumbered rows upper (sum_at entries n.upper)) same nu

      nl_here : IsNumbered rows lower l
      nl_here = subst (λ (n : Making). IsNumbered rows lower (sum_at entries n.lower)) same nl

      right : IsRightStep rows (step_by (tightened (pair_sum x (u, l))) (making_of x entries h.upper h.lower) upper lower)
      right =
          made-right rows x (record { term = u; number = upper }) (record { term = l; number = lower }) nu_here.inside nu_here.here
          nl_here.inside nl_here.here (h.paired.terms.greatest h.upper h.paired.upper_place)
          (h.paired.terms.greatest h.lower h.paired.lower_place) (above-upper x u h.paired.above) (below-lower x l h.paired.below)

pub pushed-numbered : (base : List LinearSum) (ds : List Derived) (d : Derived) (n : ℕ) → n ≡ length base + length ds →
    IsNumbered (rows_after base (ds ++ d ∷ [])) n d.row.term
pushed-numbered base ds d n e =
    subst (λ (rows : List LinearSum). IsNumbered rows n d.row.term) (sym (rows_after-append base ds (d ∷ []))) (record {
      inside = omega (arith, e, length-append (rows_after base ds) (d.row.term ∷ []), length-rows_after base ds);
      here = get_or_push (rows_after base ds) d.row.term _ n (omega (arith, e, length-rows_after base ds));
    })

-- the derivation with one more step, of the row at a place
pub derivation-pushed : (base : List LinearSum) (entries : List Entry) (old new : Derivation) (place : ℕ) (d : Derived) →
    IsDerivation base entries old → place < length entries → IsRightStep (rows_after base old.steps.items) d → AreDerivedTerms (d ∷ []) →
    d.row.term ≡ sum_at entries place → new.first ≡ old.first → new.numbers.items ≡ set old.numbers.items place
    (old.first + length old.steps.items + 1) → new.steps.items ≡ old.steps.items ++ d ∷ [] → IsDerivation base entries new
derivation-pushed base entries old new place d h inside right terms row first numbers steps = record {
  first = h.first ∙ sym first;
  count = ap (λ (ns : List ℕ). length ns) numbers ∙ length-set old.numbers.items place next ∙ h.count;
  right = subst (AreRightSteps base) (sym steps) (right-append base ds (d ∷ []) h.right (right, tt));
  terms = subst AreDerivedTerms (sym steps) (terms-push ds d terms h.terms);
  found = λ i n e. subst (λ (es : List Derived). IsNumbered (rows_after base es) n (sum_at entries i)) (sym steps)
      (by_place i n (ap (λ (ns : List ℕ). get_or ns i 0) (sym numbers) ∙ e) (cases_eq i place));
} where
  ds : List Derived
  ds = old.steps.items

  next : ℕ
  next = old.first + length old.steps.items + 1

  by_place : (i n : ℕ) → get_or (set old.numbers.items place next) i 0 ≡ n + 1 → (i ≡ place) ⊎ (i ≡ place → ⊥) →
      IsNumbered (rows_after base (ds ++ d ∷ [])) n (sum_at entries i)
  by_place i n e (inl same) =
      let there : next ≡ n + 1 = sym (ap (λ j. get_or (set old.numbers.items place next) j 0) same
      ∙ get_or-set_same old.numbers.items place next 0 (omega (arith, inside, h.count))) ∙ e in
      subst (λ (t : LinearSum). IsNumbered (rows_after base (ds ++ d ∷ [])) n t) (row ∙ sym (ap (sum_at entries) same))
      (pushed-numbered base ds d n (omega (arith, there, h.first)))
  by_place i n e (inr apart) =
      numbered-later base ds (d ∷ []) n (sum_at entries i)
      (h.found i n (sym (get_or-set_other old.numbers.items place i next 0 apart) ∙ e))

-- nothing is derived so far
pub derivation-none : (base : List LinearSum) (entries : List Entry) (d : Derivation) → length base ≡ d.first →
    d.numbers.items ≡ replicate (length entries) 0 → d.steps.items ≡ [] → IsDerivation base entries d
derivation-none base entries d e n s = record {
  first = e;
  count = ap (λ (ns : List ℕ). length ns) n ∙ length-zeros (length entries);
  right = subst (AreRightSteps base) (sym s) tt;
  terms = subst AreDerivedTerms (sym s) tt;
  found = λ i n' k. absurd (omega (arith, k, ap (λ (ns : List ℕ). get_or ns i 0) n ∙ zeros (length entries) i));
} where
  length-zeros : (k : ℕ) → length {A = ℕ} (replicate k 0) ≡ k
  length-zeros zero = refl
  length-zeros (suc k) = ap suc (length-zeros k)

  zeros : (k i : ℕ) → get_or {A = ℕ} (replicate k 0) i 0 ≡ 0
  zeros zero i = refl
  zeros (suc k) zero = refl
  zeros (suc k) (suc i) = zeros k i

-- What a row is made of

-- a made row is of two rows of an earlier column
pub made-of : (base : List LinearSum) (entries : List Entry) (place : ℕ) (m : Making) → HaveOrigins base (2 ^ 32) entries →
    place < length entries → (entry_at entries place).origin ≡ Made m → IsMadeEarlier (2 ^ 32) entries (entry_at entries place)
made-of base entries place m h k e = subst (IsOf base (2 ^ 32) entries (entry_at entries place)) e (h place k)

pub given-of : (base : List LinearSum) (entries : List Entry) (place n : ℕ) → HaveOrigins base (2 ^ 32) entries → place < length entries →
    (entry_at entries place).origin ≡ Given n → (n < length base) × (row_at base n ≡ sum_at entries place)
given-of base entries place n h k e = subst (IsOf base (2 ^ 32) entries (entry_at entries place)) e (h place k)

level-above : (x : ℕ) (ps : List (ℕ × ℤ)) → IsTrue (bounds_above x ps) → level ps ≡ x
level-above x [] h = absurd (cc)
level-above x (p ∷ ps) h = sym (eqb-true x p.0 (first_true (x == p.0) (int_lt (pos 0) p.1) h))

level-below : (x : ℕ) (ps : List (ℕ × ℤ)) → IsTrue (bounds_below x ps) → level ps ≡ x
level-below x [] h = absurd (cc)
level-below x (p ∷ ps) h = sym (eqb-true x p.0 (first_true (x == p.0) (int_lt p.1 (pos 0)) h))

level-beyond : (x : ℕ) (ps : List (ℕ × ℤ)) → x < 2 ^ 32 → starts_from (x + 1) ps ≡ true → x < level ps
level-beyond x [] h k = h
level-beyond x (p ∷ ps) h k = omega (arith, at_least (x + 1) p.0 k) where
  at_least : (a b : ℕ) → nat_le a b ≡ true → a ≤ b
  at_least a b e = grind (arith, nat_tests)

-- both rows are there, and have an earlier first column
pub record HasParts (entries : List Entry) (place : ℕ) (m : Making) : Type 0 where
  pub upper : m.upper < length entries
  pub lower : m.lower < length entries
  pub upper_level : level (sum_at entries m.upper).parts < level (sum_at entries place).parts
  pub lower_level : level (sum_at entries m.lower).parts < level (sum_at entries place).parts

pub parts-of : (base : List LinearSum) (entries : List Entry) (place : ℕ) (m : Making) → HaveOrigins base (2 ^ 32) entries →
    place < length entries → (entry_at entries place).origin ≡ Made m → HasParts entries place m
parts-of base entries place m h k e =
    let f = made-of base entries place m h k e in
    let p = f.made.paired in
    let above : f.column < level (sum_at entries place).parts = level-beyond f.column (sum_at entries place).parts f.earlier f.beyond in
    subst (HasParts entries place) (sym (made-same (sym e ∙ f.made.origin))) (record {
      upper = p.upper_place;
      lower = p.lower_place;
      upper_level = omega (arith, above, level-above f.column (sum_at entries f.made.upper).parts p.above);
      lower_level = omega (arith, above, level-below f.column (sum_at entries f.made.lower).parts p.below);
    }) where
      made-same : {a b : Making} → Made a ≡ Made b → a ≡ b
      made-same q = cc

-- Steps that follow others

pub later-then : (a b c more again : List Derived) → b ≡ a ++ more → c ≡ b ++ again → (all : List Derived) × (c ≡ a ++ all)
later-then a b c more again e f =
    (more ++ again, f ∙ ap (λ (ds : List Derived). ds ++ again) e ∙ append_assoc a more again)

-- All that one more step needs

-- the step of a row, after those of the two rows that it is made of
pub record IsNext (base : List LinearSum) (entries : List Entry) (a b : Derivation) (m : Making) (i j : ℕ) (more : List Derived) : Type 0
  where
    pub founded : IsFounded base entries b
    pub upper : IsNumbered (rows_after base a.steps.items) i (sum_at entries m.upper)
    pub later : b.steps.items ≡ a.steps.items ++ more
    pub lower : IsNumbered (rows_after base b.steps.items) j (sum_at entries m.lower)

pub next-founded : (base : List LinearSum) (entries : List Entry) (a b new : Derivation) (place : ℕ) (m : Making) (upper lower : ℕ)
    (more : List Derived) (t : LinearSum) (d : Derived) → IsNext base entries a b m upper lower more → place < length entries →
    (entry_at entries place).origin ≡ Made m → t ≡ sum_at entries place → d ≡ step_by t m upper lower → AreDerivedTerms (d ∷ []) →
    new.first ≡ b.first → new.numbers.items ≡ set b.numbers.items place (b.first + length b.steps.items + 1) →
    new.steps.items ≡ b.steps.items ++ d ∷ [] → IsFounded base entries new
next-founded base entries a b new place m upper lower more t d h inside o et ed terms first numbers steps =
    let f = made-of base entries place m h.founded.origins inside o in
    let nu = subst (λ (ds : List Derived). IsNumbered (rows_after base ds) upper (sum_at entries m.upper)) (sym h.later)
    (numbered-later base a.steps.items more upper (sum_at entries m.upper) h.upper) in
    let right = step-right (rows_after base b.steps.items) entries f.column (entry_at entries place) m upper lower f.made o nu h.lower in
    let same : d ≡ step_by (sum_at entries place) m upper lower = ed ∙ ap (λ (s : LinearSum). step_by s m upper lower) et in
    record {
      derivation = derivation-pushed base entries b new place d h.founded.derivation inside
          (subst (IsRightStep (rows_after base b.steps.items)) (sym same) right) terms (ap (λ (e : Derived). e.row.term) same) first numbers
          steps;
      origins = h.founded.origins;
    }

pub next-numbered : (base : List LinearSum) (entries : List Entry) (b new : Derivation) (place n : ℕ) (m : Making) (upper lower : ℕ)
    (t : LinearSum) (d : Derived) → IsFounded base entries b → t ≡ sum_at entries place → d ≡ step_by t m upper lower →
    n ≡ b.first + length b.steps.items → new.steps.items ≡ b.steps.items ++ d ∷ [] →
    IsNumbered (rows_after base new.steps.items) n (sum_at entries place)
next-numbered base entries b new place n m upper lower t d f et ed en steps =
    subst (λ (ds : List Derived). IsNumbered (rows_after base ds) n (sum_at entries place)) (sym steps)
    (subst (λ (s : LinearSum). IsNumbered (rows_after base (b.steps.items ++ d ∷ [])) n s) (ap (λ (e : Derived). e.row.term) ed ∙ et)
    (pushed-numbered base b.steps.items d n (omega (arith, en, f.derivation.first))))

-- Results

pub ok-two : {T E : Type 0} (r : Result T E) (A B C : Type 0) → (A → B → C) → OnOk r A → OnOk r B → OnOk r C
ok-two (Ok x) A B C f a b = f a b
ok-two (Err e) A B C f a b = tt

pub ok-one : {T E : Type 0} (r : Result T E) (A C : Type 0) → (A → C) → OnOk r A → OnOk r C
ok-one (Ok x) A C f a = f a
ok-one (Err e) A C f a = tt

pub ok-value : {T E : Type 0} (r : Result T E) (N R : T → Type 0) (A : Type 0) → ((x : T) → N x → A → R x) → IfOk r N → OnOk r A →
    IfOk r R
ok-value (Ok x) N R A f n a = f x n a
ok-value (Err e) N R A f n a = tt
