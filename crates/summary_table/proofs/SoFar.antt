-- What is known once the summaries before a place are asked.
use Rattle.std.proofs.Common.{◌≡◌, ◌⊎◌, inl, inr, ℕ, ◌+◌, ◌<◌, ◌≤◌, List, length, Option, None, Some, arith, subst, below_more, map, get_or, refl, sym, ap, ◌∙◌}
use Rattle.std.specs.Prelude.{slice_get}
use Rattle.std.specs.Option.{option_or, option_map}
use Rattle.std.proofs.lemmas.Option.{slice_get_within, slice_get_read, slice_get-map}
use Rattle.shadow_elim.specs.RightLimit.{IsRight}
use Rattle.shadow_elim.specs.declared.limit.Kept.{Kept}
use Rattle.summary_form.specs.Answering.{Answers}
use Rattle.summary_form.specs.declared.query.Query.{Query}
use Rattle.summary_form.specs.declared.summary.Summary.{Summary}
use Rattle.summary_table.specs.Asked.{IsShownNotToAnswer, MeetsLimitAt, NoneBefore, AllDecided, IsFirstLimit, NoneAnswers}

-- each summary before the place was decided, and doesn't answer
abbrev pub AreDecided : Query → List Summary → ℕ → Type 0
AreDecided q table place =
    (i : ℕ) (s : Summary) → i < place → slice_get table i ≡ Some s → IsShownNotToAnswer q s × (¬ Answers q s)

-- the first limit that was met
pub record IsFirstMet (q : Query) (table : List Summary) (kept : Kept) : Type 0 where
  pub at : ℕ
  pub summary : Summary
  pub there : slice_get table at ≡ Some summary
  pub limit : MeetsLimitAt q summary kept
  pub right : IsRight kept
  pub decided_before : (i : ℕ) (s : Summary) → i < at → slice_get table i ≡ Some s → IsShownNotToAnswer q s

abbrev pub IsLimitOf : Query → List Summary → ℕ → Option Kept → Type 0
IsLimitOf q table place None = AreDecided q table place
IsLimitOf q table place (Some kept) = IsFirstMet q table kept

pub record IsSoFar (q : Query) (table : List Summary) (place : ℕ) (limit : Option Kept) : Type 0 where
  pub none_before : NoneBefore q table place
  pub first : IsLimitOf q table place limit

pub so_far_begun : (q : Query) (table : List Summary) → IsSoFar q table 0 None
so_far_begun q table = record {
  none_before = λ i s h _. absurd (omega (arith, h));
  first = λ i s h _. absurd (omega (arith, h));
}

-- one place more
up_to : (P : Summary → Type 0) (table : List Summary) (place : ℕ) (here : Summary) → slice_get table place ≡ Some here →
    ((i : ℕ) (s : Summary) → i < place → slice_get table i ≡ Some s → P s) → P here →
    (i : ℕ) (s : Summary) → i < place + 1 → slice_get table i ≡ Some s → P s
up_to P table place here at below p = λ i s h is.
    below_more (λ k. (t : Summary) → slice_get table k ≡ Some t → P t) place (λ k l t e. below k t l e)
    (λ t e. let same : here ≡ t = cc in subst P same p) i h s is

pub so_far_not : (q : Query) (table : List Summary) (place : ℕ) (limit : Option Kept) (s : Summary) → IsSoFar q table place limit →
    slice_get table place ≡ Some s → IsShownNotToAnswer q s → (¬ Answers q s) → IsSoFar q table (place + 1) limit
so_far_not q table place limit s h at shown none = record {
  none_before = up_to (λ t. IsShownNotToAnswer q t ⊎ ((kept : Kept) × MeetsLimitAt q t kept)) table place s at h.none_before (inl shown);
  first = by_limit limit h.first;
}
  where
    by_limit : (o : Option Kept) → IsLimitOf q table place o → IsLimitOf q table (place + 1) o
    by_limit None f = up_to (λ t. IsShownNotToAnswer q t × (¬ Answers q t)) table place s at f (shown, none)
    by_limit (Some kept) f = f

pub so_far_limit : (q : Query) (table : List Summary) (place : ℕ) (limit : Option Kept) (s : Summary) (kept : Kept) →
    IsSoFar q table place limit → slice_get table place ≡ Some s → MeetsLimitAt q s kept → IsRight kept →
    IsSoFar q table (place + 1) (option_or limit (Some kept))
so_far_limit q table place limit s kept h at meets right = record {
  none_before = up_to (λ t. IsShownNotToAnswer q t ⊎ ((k : Kept) × MeetsLimitAt q t k)) table place s at h.none_before
      (inr (kept, meets));
  first = by_limit limit h.first;
}
  where
    by_limit : (o : Option Kept) → IsLimitOf q table place o → IsLimitOf q table (place + 1) (option_or o (Some kept))
    by_limit None f = record {
      at = place;
      summary = s;
      there = at;
      limit = meets;
      right = right;
      decided_before = λ i t l is. (f i t l is).0;
    }
    by_limit (Some earlier) f = f

-- Once all are asked

pub all_decided : (q : Query) (table : List Summary) (n : ℕ) → length table ≤ n → IsSoFar q table n None → AllDecided q table
all_decided q table n e h = λ i s is. (h.first i s (omega (arith, e, slice_get_within table i s is)) is).0

pub none_answers : (q : Query) (table : List Summary) (n : ℕ) → length table ≤ n → IsSoFar q table n None → NoneAnswers q table
none_answers q table n e h = λ i s is. (h.first i s (omega (arith, e, slice_get_within table i s is)) is).1

pub first_limit : (q : Query) (table : List Summary) (n : ℕ) (kept : Kept) → length table ≤ n → IsSoFar q table n (Some kept) →
    IsFirstLimit q table kept
first_limit q table n kept e h = record {
  place = h.first.at;
  summary = h.first.summary;
  there = h.first.there;
  limit = h.first.limit;
  right = h.first.right;
  decided_before = h.first.decided_before;
  none = λ i s is. h.none_before i s (omega (arith, e, slice_get_within table i s is)) is;
}

-- The summary at a place

pub summary_at : {A : Type 0} (f : A → Summary) (items from : List A) (table : List Summary) (i : ℕ) (x : A) (s : Summary) →
    items ≡ from → map f from ≡ table → i < length items → x ≡ get_or items i x → s ≡ f x → slice_get table i ≡ Some s
summary_at f items from table i x s e t h at is =
    let there : slice_get items i ≡ Some x = slice_get_read items (length items) i x refl h at in
    ap (λ xs. slice_get xs i) (sym t ∙ ap (map f) (sym e)) ∙ slice_get-map f items i ∙ ap (option_map f) there ∙ ap Some (sym is)
