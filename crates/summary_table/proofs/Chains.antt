-- What an index of chains keeps while summaries are pushed.
use Rattle.std.proofs.Common.{◌≡◌, ◌⊎◌, inl, inr, ℕ, zero, suc, ◌<◌, ◌≤◌, List, [], ◌∷◌, ◌++◌, length, Option, None, Some, arith, subst, sym, ap, refl, ◌∙◌, length-append}
use Rattle.std.specs.Prelude.{slice_get, slice_set}
use Rattle.std.proofs.lemmas.Bool.{cases_lt, cases_eq}
use Rattle.std.proofs.lemmas.List.{length-replicate, length-set}
use Rattle.std.proofs.Math.ListN.{replicate}
use Rattle.std.proofs.lemmas.Option.{same_Some, slice_get_within}
use Rattle.summary_form.specs.declared.query.ExitKind.{ExitKind}
use Rattle.summary_form.specs.declared.query.ExitKind.TheVariants.{Return, Fail}
use Rattle.summary_form.specs.declared.summary.Summary.{Summary}
use Rattle.summary_table.specs.declared.keys.TheConstants.{KEYS}
use Rattle.summary_table.specs.Tables.{AreAllNumbered, IsAbout, IsNextFrom, IsNumbered, IsPlaceFrom, NoneFrom, exit_of, proc_of}
use Rattle.summary_table.specs.steps.Chains.{AreChained, IsLast, IsPlaceLast, key_of}

-- Keys

-- keys of different pairs are different
key_apart : (p q : ℕ) (d e : ExitKind) → IsNumbered p d → IsNumbered q e → key_of p d ≡ key_of q e → (p ≡ q) × (d ≡ e)
key_apart p q Return Return m n h = (omega arith, refl)
key_apart p q Return (Fail j) m n h = absurd (omega arith)
key_apart p q (Fail i) Return m n h = absurd (omega arith)
key_apart p q (Fail i) (Fail j) m n h = let same : i ≡ j = omega arith in (omega arith, ap Fail same)

same_key : (p q : ℕ) (d e : ExitKind) → p ≡ q → d ≡ e → key_of p d ≡ key_of q e
same_key p q d e same_p same_d = ap (λ r. key_of r d) same_p ∙ ap (key_of q) same_d

-- Elements of lists

-- one is added after the others
from_behind : {X : Type 0} (xs : List X) (x : X) (i : ℕ) (y : X) → slice_get (xs ++ x ∷ []) i ≡ Some y →
    ((i < length xs) × (slice_get xs i ≡ Some y)) ⊎ ((i ≡ length xs) × (x ≡ y))
from_behind [] x zero y h = inr (refl, cc)
from_behind [] x (suc i) y h = absurd (cc)
from_behind (z ∷ xs) x zero y h = inl (omega arith, h)
from_behind (z ∷ xs) x (suc i) y h =
    elim (from_behind xs x i y h) [ inl k ↦ inl (omega (arith, k.0), k.1) | inr k ↦ inr (ap suc k.0, k.1) ]

to_behind : (table : List Summary) (s : Summary) (i : ℕ) (x : Summary) → slice_get table i ≡ Some x →
    slice_get (table ++ s ∷ []) i ≡ Some x
to_behind [] s i x h = absurd (cc)
to_behind (y ∷ table) s zero x h = h
to_behind (y ∷ table) s (suc i) x h = to_behind table s i x h

behind_all : (table : List Summary) (s : Summary) → slice_get (table ++ s ∷ []) (length table) ≡ Some s
behind_all [] s = refl
behind_all (y ∷ table) s = behind_all table s

-- one is put in the place of another
from_put : {X : Type 0} (xs : List X) (f : ℕ) (x : X) (i : ℕ) (y : X) → slice_get (slice_set xs f x) i ≡ Some y →
    ((i ≡ f) × (x ≡ y)) ⊎ ((i ≡ f → ⊥) × (slice_get xs i ≡ Some y))
from_put [] f x i y h = absurd (cc)
from_put (z ∷ xs) zero x zero y h = inl (refl, cc)
from_put (z ∷ xs) zero x (suc i) y h = inr (λ e. omega arith, h)
from_put (z ∷ xs) (suc f) x zero y h = inr (λ e. omega arith, h)
from_put (z ∷ xs) (suc f) x (suc i) y h =
    elim (from_put xs f x i y h) [ inl k ↦ inl (ap suc k.0, k.1) | inr k ↦ inr (λ e. k.0 (omega arith), k.1) ]

-- Places once one more summary is there

place_stays : (table : List Summary) (s : Summary) (p : ℕ) (d : ExitKind) (from place : ℕ) → IsPlaceFrom table p d from place →
    IsPlaceFrom (table ++ s ∷ []) p d from place
place_stays table s p d from place h =
    let within = slice_get_within table place h.summary h.there in
    record {
      later = h.later;
      summary = h.summary;
      there = to_behind table s place h.summary h.there;
      is_about = h.is_about;
      none_before = λ i x l k at. elim (from_behind table s i x at) [
        | inl b ↦ h.none_before i x l k b.1
        | inr e ↦ absurd (omega (arith, k, e.0, within))
      ];
    }

none_stays : (table : List Summary) (s : Summary) (p : ℕ) (d : ExitKind) (from : ℕ) → NoneFrom table p d from → (¬ IsAbout p d s) →
    NoneFrom (table ++ s ∷ []) p d from
none_stays table s p d from none apart = λ i x l at. elim (from_behind table s i x at) [
  | inl b ↦ none i x l b.1
  | inr e ↦ subst (λ y. ¬ IsAbout p d y) e.1 apart
]

next_stays : (table : List Summary) (s : Summary) (p : ℕ) (d : ExitKind) (from : ℕ) (o : Option ℕ) → IsNextFrom table p d from o →
    (NoneFrom table p d from → ¬ IsAbout p d s) → IsNextFrom (table ++ s ∷ []) p d from o
next_stays table s p d from None none apart = none_stays table s p d from none (apart none)
next_stays table s p d from (Some place) h apart = place_stays table s p d from place h

last_stays : (table : List Summary) (s : Summary) (p : ℕ) (d : ExitKind) (o : Option ℕ) → IsLast table p d o → (¬ IsAbout p d s) →
    IsLast (table ++ s ∷ []) p d o
last_stays table s p d None none apart = none_stays table s p d 0 none apart
last_stays table s p d (Some place) h apart = record {
  summary = h.summary;
  there = to_behind table s place h.summary h.there;
  is_about = h.is_about;
  none_behind = none_stays table s p d (suc place) h.none_behind apart;
}

-- where there was none, the new one is the least
now_there : (table : List Summary) (s : Summary) (p : ℕ) (d : ExitKind) (from : ℕ) → from ≤ length table → NoneFrom table p d from →
    IsAbout p d s → IsPlaceFrom (table ++ s ∷ []) p d from (length table)
now_there table s p d from within none about = record {
  later = within;
  summary = s;
  there = behind_all table s;
  is_about = about;
  none_before = λ i x l k at. elim (from_behind table s i x at) [
    | inl b ↦ none i x l b.1
    | inr e ↦ absurd (omega (arith, k, e.0))
  ];
}

-- none stands after it
none_behind : (table : List Summary) (s : Summary) (p : ℕ) (d : ExitKind) (from : ℕ) → length table < from →
    NoneFrom (table ++ s ∷ []) p d from
none_behind table s p d from behind = λ i x l at. elim (from_behind table s i x at) [
  | inl b ↦ absurd (omega (arith, l, behind, b.0))
  | inr e ↦ absurd (omega (arith, l, behind, e.0))
]

-- what is said of a procedure and exit kind, of the same ones
none_of : (table : List Summary) (p q : ℕ) (d e : ExitKind) (from : ℕ) → p ≡ q → d ≡ e → NoneFrom table q e from → NoneFrom table p d from
none_of table p q d e from same_p same_d none = λ i x l at about. none i x l at (about.0 ∙ same_p, about.1 ∙ same_d)

-- The index

abbrev own_key : Summary → ℕ
own_key s = key_of (proc_of s) (exit_of s)

not_about : (p : ℕ) (d : ExitKind) (s : Summary) → (key_of p d ≡ own_key s → ⊥) → ¬ IsAbout p d s
not_about p d s apart about = apart (sym (same_key (proc_of s) p (exit_of s) d about.0 about.1))

numbered_still : (table : List Summary) (s : Summary) → AreAllNumbered table → IsNumbered (proc_of s) (exit_of s) →
    AreAllNumbered (table ++ s ∷ [])
numbered_still table s all own = λ i x at. elim (from_behind table s i x at) [
  | inl b ↦ all i x b.1
  | inr e ↦ subst (λ y. IsNumbered (proc_of y) (exit_of y)) e.1 own
]

is_last_still : (table : List Summary) (first last next : List (Option ℕ)) (s : Summary) → AreChained table first last next →
    IsNumbered (proc_of s) (exit_of s) → (p : ℕ) (d : ExitKind) → IsNumbered p d → (o : Option ℕ) →
    slice_get (slice_set last (own_key s) (Some (length table))) (key_of p d) ≡ Some o → IsLast (table ++ s ∷ []) p d o
is_last_still table first last next s h own p d n o at = elim (from_put last (own_key s) (Some (length table)) (key_of p d) o at) [
  | inl e ↦
      let same = key_apart p (proc_of s) d (exit_of s) n own e.0 in
      let new : IsPlaceLast (table ++ s ∷ []) p d (length table) = record {
        summary = s;
        there = behind_all table s;
        is_about = (sym same.0, sym same.1);
        none_behind = none_behind table s p d (suc (length table)) (omega arith);
      } in
      subst (IsLast (table ++ s ∷ []) p d) e.1 new
  | inr e ↦ last_stays table s p d o (h.is_last p d n o e.1) (not_about p d s e.0)
]

-- of the new summary none stands after it
is_next_new : (table : List Summary) (s : Summary) (i : ℕ) (z : Summary) (o : Option ℕ) → i ≡ length table → None ≡ o →
    IsNextFrom (table ++ s ∷ []) (proc_of z) (exit_of z) (suc i) o
is_next_new table s i z o e is =
    subst (IsNextFrom (table ++ s ∷ []) (proc_of z) (exit_of z) (suc i)) is
    (none_behind table s (proc_of z) (exit_of z) (suc i) (omega (arith, e)))

-- where there was none of its key, the new place is the first one
chained_first : (table : List Summary) (first last next : List (Option ℕ)) (s : Summary) → AreChained table first last next →
    IsNumbered (proc_of s) (exit_of s) → slice_get last (key_of (proc_of s) (exit_of s)) ≡ Some None →
    AreChained (table ++ s ∷ []) (slice_set first (key_of (proc_of s) (exit_of s)) (Some (length table)))
    (slice_set last (key_of (proc_of s) (exit_of s)) (Some (length table))) (next ++ None ∷ [])
chained_first table first last next s h own was = record {
  numbered = numbered_still table s h.numbered own;
  firsts = length-set first (own_key s) (Some (length table)) ∙ h.firsts;
  lasts = length-set last (own_key s) (Some (length table)) ∙ h.lasts;
  nexts = omega (arith, h.nexts, length-append next (None ∷ []), length-append table (s ∷ []));
  is_first = λ p d n o at. elim (from_put first (own_key s) (Some (length table)) (key_of p d) o at) [
    | inl e ↦
        let same = key_apart p (proc_of s) d (exit_of s) n own e.0 in
        subst (IsNextFrom (table ++ s ∷ []) p d 0) e.1
        (now_there table s p d 0 (omega arith) (none_of table p (proc_of s) d (exit_of s) 0 same.0 same.1 none) (sym same.0, sym same.1))
    | inr e ↦ next_stays table s p d 0 o (h.is_first p d n o e.1) (λ _. not_about p d s e.0)
  ];
  is_last = is_last_still table first last next s h own;
  is_next = λ i z at o is. elim (from_behind table s i z at) [
    | inl b ↦ elim (from_behind next None i o is) [
      | inl k ↦ next_stays table s (proc_of z) (exit_of z) (suc i) o (h.is_next i z b.1 o k.1)
          (λ _ about. none i z (omega arith) b.1 (sym about.0, sym about.1))
      | inr k ↦ absurd (omega (arith, b.0, k.0, h.nexts))
    ]
    | inr b ↦ elim (from_behind next None i o is) [
      | inl k ↦ absurd (omega (arith, b.0, k.0, h.nexts))
      | inr k ↦ is_next_new table s i z o b.0 k.1
    ]
  ];
}
  where
    none : NoneFrom table (proc_of s) (exit_of s) 0
    none = h.is_last (proc_of s) (exit_of s) own None was

-- and else it stands after the last one
chained_behind : (table : List Summary) (first last next : List (Option ℕ)) (s : Summary) (before : ℕ) →
    AreChained table first last next → IsNumbered (proc_of s) (exit_of s) →
    slice_get last (key_of (proc_of s) (exit_of s)) ≡ Some (Some before) →
    AreChained (table ++ s ∷ []) first (slice_set last (key_of (proc_of s) (exit_of s)) (Some (length table)))
    (slice_set next before (Some (length table)) ++ None ∷ [])
chained_behind table first last next s before h own was = record {
  numbered = numbered_still table s h.numbered own;
  firsts = h.firsts;
  lasts = length-set last (own_key s) (Some (length table)) ∙ h.lasts;
  nexts = omega (
    arith,
    h.nexts,
    sets,
    length-append (slice_set next before (Some (length table))) (None ∷ []),
    length-append table (s ∷ []),
  );
  is_first = λ p d n o at. next_stays table s p d 0 o (h.is_first p d n o at) (λ none about.
      none before old.summary (omega arith) old.there (old.is_about.0 ∙ about.0, old.is_about.1 ∙ about.1));
  is_last = is_last_still table first last next s h own;
  is_next = λ i z at o is. elim (from_behind table s i z at) [
    | inl b ↦ elim (from_behind (slice_set next before (Some (length table))) None i o is) [
      | inl k ↦ linked i z o b.0 b.1 k.1
      | inr k ↦ absurd (omega (arith, b.0, k.0, sets, h.nexts))
    ]
    | inr b ↦ elim (from_behind (slice_set next before (Some (length table))) None i o is) [
      | inl k ↦ absurd (omega (arith, b.0, k.0, sets, h.nexts))
      | inr k ↦ is_next_new table s i z o b.0 k.1
    ]
  ];
}
  where
    old : IsPlaceLast table (proc_of s) (exit_of s) before
    old = h.is_last (proc_of s) (exit_of s) own (Some before) was

    sets : length (slice_set next before (Some (length table))) ≡ length next
    sets = length-set next before (Some (length table))

    linked : (i : ℕ) (z : Summary) (o : Option ℕ) → i < length table → slice_get table i ≡ Some z →
        slice_get (slice_set next before (Some (length table))) i ≡ Some o →
        IsNextFrom (table ++ s ∷ []) (proc_of z) (exit_of z) (suc i) o
    linked i z o l at is = elim (from_put next before (Some (length table)) i o is) [
      | inl e ↦
          let there : slice_get table before ≡ Some z = subst (λ k. slice_get table k ≡ Some z) e.0 at in
          let same : old.summary ≡ z = cc (old.there, there) in
          let about : IsAbout (proc_of s) (exit_of s) z = subst (IsAbout (proc_of s) (exit_of s)) same old.is_about in
          let none : NoneFrom table (proc_of s) (exit_of s) (suc i) =
          subst (λ k. NoneFrom table (proc_of s) (exit_of s) (suc k)) (sym e.0) old.none_behind in
          subst (IsNextFrom (table ++ s ∷ []) (proc_of z) (exit_of z) (suc i)) e.1
          (now_there table s (proc_of z) (exit_of z) (suc i) (omega (arith, l))
          (none_of table (proc_of z) (proc_of s) (exit_of z) (exit_of s) (suc i) about.0 about.1 none) (sym about.0, sym about.1))
      | inr e ↦ next_stays table s (proc_of z) (exit_of z) (suc i) o (h.is_next i z at o e.1)
          (λ none about. elim (cases_lt i before) [
            | inl k ↦ none before old.summary (omega (arith, k)) old.there (old.is_about.0 ∙ about.0, old.is_about.1 ∙ about.1)
            | inr k ↦ elim (cases_eq i before) [
              | inl same ↦ e.0 same
              | inr apart ↦ old.none_behind i z (omega (arith, k, apart)) at (sym about.0, sym about.1)
            ]
          ])
    ]

-- the same of lists that are equal
same_chained : (ts us : List Summary) (f g l m x y : List (Option ℕ)) → us ≡ ts → g ≡ f → m ≡ l → y ≡ x → AreChained ts f l x →
    AreChained us g m y
same_chained ts us f g l m x y a b c d h =
    subst (λ vs. AreChained vs g m y) (sym a) (subst (λ e. AreChained ts e m y) (sym b)
    (subst (λ e. AreChained ts f e y) (sym c) (subst (AreChained ts f l) (sym d) h)))

-- as the code makes them
module _ (table : List Summary) (first last next : List (Option ℕ)) (s : Summary) (key place : ℕ) (h : AreChained table first last next)
    (own : IsNumbered (proc_of s) (exit_of s)) (is_key : key ≡ key_of (proc_of s) (exit_of s)) (is_place : place ≡ length table)
    (us : List Summary) (f l x : List (Option ℕ)) (more : us ≡ table ++ s ∷ []) (lasts : l ≡ slice_set last key (Some place))
  where
    last_is : l ≡ slice_set last (own_key s) (Some (length table))
    last_is = lasts ∙ (ap (λ k. slice_set last k (Some place)) is_key ∙ ap (λ n. slice_set last (own_key s) (Some n)) is_place)

    last_at : (o : Option ℕ) → slice_get last key ≡ Some o → slice_get last (own_key s) ≡ Some o
    last_at o at = subst (λ k. slice_get last k ≡ Some o) is_key at

    pub linked_first : slice_get last key ≡ Some None → f ≡ slice_set first key (Some place) → x ≡ next ++ None ∷ [] → AreChained us f l x
    linked_first was firsts nexts = same_chained _ us _ f _ l _ x more
        (firsts ∙ (ap (λ k. slice_set first k (Some place)) is_key ∙ ap (λ n. slice_set first (own_key s) (Some n)) is_place)) last_is nexts
        (chained_first table first last next s h own (last_at None was))

    pub linked_behind : (before : ℕ) → slice_get last key ≡ Some (Some before) → f ≡ first →
        x ≡ slice_set next before (Some place) ++ None ∷ [] → AreChained us f l x
    linked_behind before was firsts nexts = same_chained _ us _ f _ l _ x more firsts last_is
        (nexts ∙ ap (λ n. slice_set next before (Some n) ++ None ∷ []) is_place)
        (chained_behind table first last next s before h own (last_at (Some before) was))

    pub last_within : (before : ℕ) → slice_get last key ≡ Some (Some before) → before < length next
    last_within before was =
        let old = h.is_last (proc_of s) (exit_of s) own (Some before) (last_at (Some before) was) in
        omega (arith, h.nexts, slice_get_within table before old.summary old.there)

-- The empty index

all_none : (first : List (Option ℕ)) → ((i : ℕ) (o : Option ℕ) → slice_get first i ≡ Some o → o ≡ None) → (p : ℕ) (d : ExitKind)
    (o : Option ℕ) → slice_get first (key_of p d) ≡ Some o → IsNextFrom [] p d 0 o
all_none first none p d o at = subst (IsNextFrom [] p d 0) (sym (none (key_of p d) o at)) (λ i s l is. absurd (cc))

last_none : (last : List (Option ℕ)) → ((i : ℕ) (o : Option ℕ) → slice_get last i ≡ Some o → o ≡ None) → (p : ℕ) (d : ExitKind)
    (o : Option ℕ) → slice_get last (key_of p d) ≡ Some o → IsLast [] p d o
last_none last none p d o at = subst (IsLast [] p d) (sym (none (key_of p d) o at)) (λ i s l is. absurd (cc))

-- of places that were all made so there is none
pub none_in : (xs : List (Option ℕ)) (n : ℕ) → xs ≡ replicate n None → (i : ℕ) (o : Option ℕ) → slice_get xs i ≡ Some o → o ≡ None
none_in xs n e i o at = none_at n i (subst (λ ys. slice_get ys i ≡ Some o) e at) where
  none_at : (k i : ℕ) → slice_get (replicate k None) i ≡ Some o → o ≡ None
  none_at zero i h = absurd (cc)
  none_at (suc k) zero h = sym (same_Some None o h)
  none_at (suc k) (suc i) h = none_at k i h

-- what follows where a copy of none is none
pub by_copies : (P : Option ℕ → Type 0) (R : Type 0) → (((o : Option ℕ) → P o → o ≡ None) → R) → ((x : ℕ) → P (Some x) → ⊥) → R
by_copies P R follows none = follows only where
  only : (o : Option ℕ) → P o → o ≡ None
  only None p = refl
  only (Some x) p = absurd (none x p)

pub chained_begun : (table : List Summary) (first last next : List (Option ℕ)) → table ≡ [] → first ≡ replicate KEYS None →
    last ≡ replicate KEYS None → next ≡ [] → AreChained table first last next
chained_begun table first last next empty firsts lasts nexts =
    subst (λ (ts : List Summary). AreChained ts first last next) (sym empty)
    (subst (λ xs. AreChained [] first last xs) (sym nexts) (record {
      numbered = λ i s at. absurd (cc);
      firsts = ap length firsts ∙ length-replicate {A = Option ℕ} KEYS None;
      lasts = ap length lasts ∙ length-replicate {A = Option ℕ} KEYS None;
      nexts = refl;
      is_first = λ p d n o at. all_none first (none_in first KEYS firsts) p d o at;
      is_last = λ p d n o at. last_none last (none_in last KEYS lasts) p d o at;
      is_next = λ i s at o is. absurd (cc);
    }))
