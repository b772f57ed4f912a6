-- Numbers and the procedures that they name.
use Rattle.std.proofs.Common.{◌≡◌, ◌↔◌, ℕ, zero, suc, ◌<◌, ◌==◌, List, [], ◌∷◌, length, map, get_or, Bool, true, false, not, Option, None, Some, refl, sym, ap, ◌∙◌, subst, arith, IsTrue}
use Rattle.std.specs.Prelude.{slice_get, slice_set}
use Rattle.std.specs.Option.{option_map}
use Rattle.std.proofs.lemmas.Option.{same_Some, none-some, slice_get_within, slice_get-get_or, slice_get_read, slice_get-map}
use Rattle.std.proofs.lemmas.List.{length-map}
use Rattle.std.proofs.Math.ListN.{length-set}
use borrow.Author.Tests.{eqb-true, eqb-false, eq-eqb}
use Rattle.c_tree.specs.declared.tree.Procedure.{Procedure}
use Rattle.c_tree.specs.Syntax.{PureProcedure, PureProgram}
use Rattle.c_tree.specs.View.{procedure_of}
use Rattle.summary_keep.specs.Keeping.{joined, number_in, is_number, related_by}
use Rattle.summary_keep.specs.Matching.{Related, AreSame, AreRelated, IsMatching, IsGreatest}
use Rattle.summary_keep.specs.steps.Refinement.{AreAllCounterparts, IncludesEach, AreCandidates, IsChanged}
use Rattle.summary_keep.proofs.Refining as refining

pub number_at : (numbers : List (Option ℕ)) (i : ℕ) (o : Option ℕ) → i < length numbers → get_or numbers i None ≡ o → number_in numbers i
    ≡ o
number_at numbers i o within e = ap joined (slice_get-get_or numbers i None within) ∙ e

-- what stands in the list of the code stands in the program
pub procedure_at : (items : List Procedure) (i : ℕ) (p : Procedure) → i < length items → p ≡ get_or items i p →
    slice_get (map procedure_of items) i ≡ Some (procedure_of p)
procedure_at items i p within e =
    slice_get-map procedure_of items i ∙ ap (option_map procedure_of) (slice_get_read items (length items) i p refl within e)

pub procedure_within : (items : List Procedure) (i : ℕ) (p : PureProcedure) → slice_get (map procedure_of items) i ≡ Some p →
    i < length items
procedure_within items i p e = subst (λ n. i < n) (length-map items procedure_of) (slice_get_within (map procedure_of items) i p e)

pub related_some : (numbers : List (Option ℕ)) (i j : ℕ) → number_in numbers i ≡ Some j → IsTrue (related_by numbers i j)
related_some numbers i j e = rw e (eq-eqb j j refl)

pub some_related : (numbers : List (Option ℕ)) (i j : ℕ) → IsTrue (related_by numbers i j) → number_in numbers i ≡ Some j
some_related numbers i j h = by_number (number_in numbers i) refl h where
  by_number : (o : Option ℕ) → number_in numbers i ≡ o → IsTrue (is_number o j) → number_in numbers i ≡ Some j
  by_number None e k = absurd (let clash : false ≡ true = k in cc)
  by_number (Some n) e k = e ∙ ap Some (eqb-true n j k)

module _ (P Q : PureProgram) (numbers : List (Option ℕ)) where
  abbrev R : Related
  R = related_by numbers

  pub record Verdict (i : ℕ) (b : Bool) : Type 0 where
    pub other : b ≡ true → IsChanged P Q numbers i
    pub same : b ≡ false → (j : ℕ) → number_in numbers i ≡ Some j → AreRelated P Q R i j

  pub no_number : (i : ℕ) → number_in numbers i ≡ None → (j : ℕ) → number_in numbers i ≡ Some j → AreRelated P Q R i j
  no_number i e j f = absurd (none-some j (sym e ∙ f))

  pub judged : (i n : ℕ) → AreCandidates P Q numbers → number_in numbers i ≡ Some n → (old new : PureProcedure) →
      slice_get P.procedures i ≡ Some old → slice_get Q.procedures n ≡ Some new → (b : Bool) → (IsTrue b ↔ AreSame R old new) →
      Verdict i (not b)
  judged i n are e old new at at' b h = by_test b h where
    by_test : (b : Bool) → (IsTrue b ↔ AreSame R old new) → Verdict i (not b)
    by_test true h = record {
      other = λ k. absurd (let clash : false ≡ true = k in cc);
      same = λ _ j f.
          let same : n ≡ j = same_Some n j (sym e ∙ f) in
          subst (AreRelated P Q R i) same (record {
            old = old;
            new = new;
            old_at = at;
            new_at = at';
            same = h.0 refl;
            globals = (are.counterparts i n e).globals;
            main = (are.counterparts i n e).names.main;
          });
    }
    by_test false h = record {
      other = λ _. record {
        new = n;
        number = e;
        other = λ r.
            let o : r.old ≡ old = same_Some r.old old (sym r.old_at ∙ at) in
            let w : r.new ≡ new = same_Some r.new new (sym r.new_at ∙ at') in
            let s : AreSame R old new = subst (AreSame R old) w (subst (λ x. AreSame R x r.new) o r.same) in
            let clash : false ≡ true = h.1 s in cc;
      };
      same = λ k. absurd (let clash : true ≡ false = k in cc);
    }

  -- where each pair is the same, the relation is a matching
  pub all_same : length numbers ≡ length P.procedures →
      ((i : ℕ) → i < length numbers → (j : ℕ) → number_in numbers i ≡ Some j → AreRelated P Q R i j) → IsMatching P Q R
  all_same each h = record {
    all = λ i j r.
        let e = some_related numbers i j r in
        h i (within i j e) j e;
  } where
    within : (i j : ℕ) → number_in numbers i ≡ Some j → i < length numbers
    within i j e = by_slot (slice_get numbers i) refl e where
      by_slot : (o : Option (Option ℕ)) → slice_get numbers i ≡ o → joined o ≡ Some j → i < length numbers
      by_slot None f g = absurd (none-some j g)
      by_slot (Some o) f g = slice_get_within numbers i o f

-- One pair less

pub set_other : (numbers : List (Option ℕ)) (a i : ℕ) (o : Option ℕ) → (i ≡ a → ⊥) → number_in (slice_set numbers a o) i ≡ number_in numbers
    i
set_other [] a i o h = refl
set_other (x ∷ xs) zero zero o h = absurd (h refl)
set_other (x ∷ xs) zero (suc i) o h = refl
set_other (x ∷ xs) (suc a) zero o h = refl
set_other (x ∷ xs) (suc a) (suc i) o h = set_other xs a i o (λ e. h (ap suc e))

set_none : (numbers : List (Option ℕ)) (a : ℕ) → number_in (slice_set numbers a None) a ≡ None
set_none [] a = refl
set_none (x ∷ xs) zero = refl
set_none (x ∷ xs) (suc a) = set_none xs a

module _ (P Q : PureProgram) (numbers : List (Option ℕ)) (a : ℕ) where
  abbrev fewer : List (Option ℕ)
  fewer = slice_set numbers a None

  old_number : (i j : ℕ) → number_in fewer i ≡ Some j → number_in numbers i ≡ Some j
  old_number i j e = by_test (i == a) refl where
    by_test : (t : Bool) → (i == a) ≡ t → number_in numbers i ≡ Some j
    by_test true f = absurd (none-some j (sym (set_none numbers a) ∙ subst (λ x. number_in fewer x ≡ Some j) (eqb-true i a f) e))
    by_test false f = sym (set_other numbers a i None (eqb-false i a f)) ∙ e

  pub fewer_numbers : AreCandidates P Q numbers → AreCandidates P Q fewer
  fewer_numbers h = record {
    each = length-set numbers a None ∙ h.each;
    counterparts = λ i j e. h.counterparts i j (old_number i j e);
  }

  pub fewer_hold : IncludesEach P Q (related_by numbers) → IsChanged P Q numbers a → IncludesEach P Q (related_by fewer)
  fewer_hold h o = record { each = λ S m i j s. by_test S m i j s (i == a) refl } where
    by_test : (S : Related) → IsMatching P Q S → (i j : ℕ) → IsTrue (S i j) → (t : Bool) → (i == a) ≡ t → IsTrue (related_by fewer i j)
    by_test S m i j s false f =
        let r = some_related numbers i j (h.each S m i j s) in
        related_some fewer i j (set_other numbers a i None (eqb-false i a f) ∙ r)
    by_test S m i j s true f =
        let at : i ≡ a = eqb-true i a f in
        let r : number_in numbers a ≡ Some j = subst (λ x. number_in numbers x ≡ Some j) at (some_related numbers i j (h.each S m i j s)) in
        let one : j ≡ o.new = same_Some j o.new (sym r ∙ o.number) in
        absurd (o.other (subst (λ y. AreRelated P Q (related_by numbers) a y) one (subst (λ x. AreRelated P Q (related_by numbers) x j) at
        (refining.related_more P Q S (related_by numbers) (h.each S m) i j (m.all i j s)))))

-- how many have a number
abbrev pub somes : List (Option ℕ) → ℕ
somes [] = 0
somes (None ∷ xs) = somes xs
somes (Some n ∷ xs) = suc (somes xs)

pub fewer_somes : (numbers : List (Option ℕ)) (a n : ℕ) → number_in numbers a ≡ Some n → somes (slice_set numbers a None) < somes numbers
fewer_somes [] a n e = absurd (none-some n e)
fewer_somes (None ∷ xs) zero n e = absurd (none-some n e)
fewer_somes (Some m ∷ xs) zero n e = omega arith
fewer_somes (None ∷ xs) (suc a) n e = fewer_somes xs a n e
fewer_somes (Some m ∷ xs) (suc a) n e = let r = fewer_somes xs a n e in omega (arith, r)

-- The numbers of counterparts

pub first_numbers : (P Q : PureProgram) (numbers : List (Option ℕ)) → AreAllCounterparts P Q numbers → AreCandidates P Q numbers
first_numbers P Q numbers h = record { each = h.each; counterparts = λ i j e. (h.counterparts i j (within numbers i j e)).0 e } where
  within : (numbers : List (Option ℕ)) (i j : ℕ) → number_in numbers i ≡ Some j → i < length numbers
  within [] i j e = absurd (none-some j e)
  within (x ∷ xs) zero j e = omega arith
  within (x ∷ xs) (suc i) j e = let r = within xs i j e in omega (arith, r)

pub first_hold : (P Q : PureProgram) (numbers : List (Option ℕ)) → AreAllCounterparts P Q numbers → IncludesEach P Q (related_by numbers)
first_hold P Q numbers h = record {
  each = λ S m i j s.
      let r = m.all i j s in
      let within : i < length numbers = subst (λ n. i < n) (sym h.each) (slice_get_within P.procedures i r.old r.old_at) in
      related_some numbers i j ((h.counterparts i j within).1 (record {
        names = record {
          old = r.old;
          new = r.new;
          old_at = r.old_at;
          new_at = r.new_at;
          name = r.same.name;
          main = r.main;
        };
        globals = r.globals;
      }));
}

pub greatest_left : (P Q : PureProgram) (numbers : List (Option ℕ)) → IncludesEach P Q (related_by numbers) →
    IsMatching P Q (related_by numbers) →
    IsGreatest P Q (related_by numbers)
greatest_left P Q numbers h m = record { matches = m; includes_each = h.each }
