-- The last places of coefficients.
use Rattle.std.proofs.Common.{◌≡◌, ◌≢◌, ℕ, suc, zero, ◌<◌, ◌≤◌, ◌⊎◌, Bool, true, false, ◌||◌, List, [], ◌∷◌, ◌++◌, length, get_or, ℤ, Option, Some, None, Vec, arith, refl, sym, ap, ◌∙◌, subst, inl, inr, ⊎_elim}
use Rattle.std.specs.Prelude.{◌<ℤ◌, ◌≤ℤ◌, int_le, MatchOption}
use Rattle.std.specs.List.{list_any}
use Rattle.std.specs.Map.{lookup, IsKeyTest, AreApart, KeepsOthers}
use Rattle.std.specs.Cmp.Lexicographic.{pointwise}
use Rattle.std.specs.declared.alloc.Global.{Global}
use Rattle.std.proofs.lemmas.Bool.{false_from_ne_true, cases_lt, cases_order}
use Rattle.std.proofs.lemmas.Int.{ints}
use Rattle.std.proofs.lemmas.List.{get_or_append_left, get_or_push, length_push}
use Rattle.std.proofs.lemmas.List.Folds.{list_any_at, Any-from_list_any}
use Rattle.linear_formula.specs.LinearSum.{LinearSum}
use Rattle.shadow_elim.specs.declared.pairing.Candidate.{Candidate}
use Rattle.shadow_elim.specs.steps.Making.{candidate_terms}
use Rattle.shadow_elim.specs.steps.Places.{IsLastPlace, AreLastPlaces}
use Rattle.shadow_elim.specs.Reduction.{is_same_part, is_as_strong}
use Rattle.shadow_elim.proofs.Strength.{Decides-same_list, AsStrong, AsStrong-from_test, test-from_AsStrong}

no_way : true ≡ false → ⊥
no_way h = cc

pub any_terms : (p : LinearSum → Bool) (rows : List Candidate) → list_any p (candidate_terms rows) ≡ list_any (λ c. p c.term) rows
any_terms p [] = refl
any_terms p (r ∷ rows) = ap (λ z. p r.term || z) (any_terms p rows)

-- no row has the coefficients
abbrev pub HasNone : List Candidate → List (ℕ × ℤ) → Type 0
HasNone rows ps = (j : ℕ) (d : Candidate) → j < length rows → (get_or rows j d).term.parts ≢ ps

-- a later row with the same coefficients is stronger
abbrev pub AreRising : List Candidate → Type 0
AreRising rows = (i j : ℕ) (d : Candidate) → i < j → j < length rows → (get_or rows i d).term.parts ≡ (get_or rows j d).term.parts →
    (get_or rows i d).term.constant <ℤ (get_or rows j d).term.constant

pub any_default : (rows : List Candidate) (k : ℕ) (d e : Candidate) → k < length rows → get_or rows k d ≡ get_or rows k e
any_default [] k d e h = absurd (omega (arith, h))
any_default (r ∷ rows) zero d e h = refl
any_default (r ∷ rows) (suc k) d e h = any_default rows k d e (omega (arith, h))

-- a row as strong, by its place
pub as_strong_place : (t : LinearSum) (rows : List Candidate) → list_any (is_as_strong t) (candidate_terms rows) ≡ true →
    (k : ℕ) × (x : Candidate) × (k < length rows) × (get_or rows k x ≡ x) × AsStrong t x.term
as_strong_place t rows h =
    let a = Any-from_list_any (λ (c : Candidate). is_as_strong t c.term) rows (sym (any_terms (is_as_strong t) rows) ∙ h) in
    (a.0, a.1, a.2, a.3, AsStrong-from_test t a.1.term a.4)

pub none-as_strong : (rows : List Candidate) (t : LinearSum) → HasNone rows t.parts → list_any (is_as_strong t) (candidate_terms rows)
    ≡ false
none-as_strong rows t n =
    false_from_ne_true (list_any (is_as_strong t) (candidate_terms rows)) (λ h.
    let a = as_strong_place t rows h in
    n a.0 a.1 a.2 (ap (λ (c : Candidate). c.term.parts) a.3 ∙ a.4.parts))

pub last-as_strong : (rows : List Candidate) (t : LinearSum) (i : ℕ) (r : Candidate) → AreRising rows → IsLastPlace rows t.parts i →
    r ≡ get_or rows i r → list_any (is_as_strong t) (candidate_terms rows) ≡ int_le t.constant r.term.constant
last-as_strong rows t i r rising last e = by_test (int_le t.constant r.term.constant) refl where
  here : r.term.parts ≡ t.parts
  here = ap (λ (c : Candidate). c.term.parts) e ∙ last.1 r

  by_test : (b : Bool) → int_le t.constant r.term.constant ≡ b → list_any (is_as_strong t) (candidate_terms rows) ≡ b
  by_test true f =
      let s : AsStrong t r.term = record { parts = here; constant = omega (arith, ints, f) } in
      any_terms (is_as_strong t) rows ∙ list_any_at (λ (c : Candidate). is_as_strong t c.term) rows i r last.0
      (ap (λ (c : Candidate). is_as_strong t c.term) (sym e) ∙ test-from_AsStrong t r.term s)
  by_test false f =
      false_from_ne_true (list_any (is_as_strong t) (candidate_terms rows)) (λ h.
      let a = as_strong_place t rows h in
      at_place a.0 a.2 (subst (λ (c : Candidate). AsStrong t c.term) (sym a.3 ∙ any_default rows a.0 a.1 r a.2) a.4)) where
        at_place : (k : ℕ) → k < length rows → AsStrong t (get_or rows k r).term → ⊥
        at_place k l s =
            let p : (get_or rows i r).term.parts ≡ t.parts = last.1 r in
            ⊎_elim (λ g. omega (
              arith,
              ints,
              f,
              subst (λ (c : Candidate). t.constant ≤ℤ c.term.constant) (ap (λ n. get_or rows n r) g ∙ sym e)
                  s.constant,
            )) (λ g. ⊎_elim (λ lt. omega (
              arith,
              ints,
              f,
              s.constant,
              ap (λ (c : Candidate). c.term.constant) e,
              rising k i r lt last.0 (s.parts ∙ sym p),
            )) (λ lt. last.2 k r lt l s.parts) g) (cases_order k i)

-- One row more

none-at : (rows : List Candidate) (t : LinearSum) (i : ℕ) (d : Candidate) → list_any (is_as_strong t) (candidate_terms rows) ≡ false →
    i < length rows → (get_or rows i d).term.parts ≡ t.parts → (get_or rows i d).term.constant <ℤ t.constant
none-at rows t i d none h e =
    by_test (int_le t.constant (get_or rows i d).term.constant) refl where
      by_test : (b : Bool) → int_le t.constant (get_or rows i d).term.constant ≡ b → (get_or rows i d).term.constant <ℤ t.constant
      by_test true f =
          let s : AsStrong t (get_or rows i d).term = record { parts = e; constant = omega (arith, ints, f) } in
          absurd (no_way (sym (any_terms (is_as_strong t) rows ∙ list_any_at (λ (c : Candidate). is_as_strong t c.term) rows i d h
          (test-from_AsStrong t (get_or rows i d).term s)) ∙ none))
      by_test false f = omega (arith, ints, f)

pub AreRising-push : (rows : List Candidate) (row : Candidate) → AreRising rows → list_any (is_as_strong row.term) (candidate_terms rows)
    ≡ false → AreRising (rows ++ row ∷ [])
AreRising-push rows row rising none i j d h k e =
    by_side (cases_lt j (length rows)) where
      by_side : (j < length rows) ⊎ (length rows ≤ j) → (get_or (rows ++ row ∷ []) i d).term.constant <ℤ
          (get_or (rows ++ row ∷ []) j d).term.constant
      by_side (inl l) =
          let f = get_or_append_left rows (row ∷ []) d i (omega (arith, h, l)) in
          let g = get_or_append_left rows (row ∷ []) d j l in
          let p : (get_or rows i d).term.parts ≡ (get_or rows j d).term.parts = ap (λ (c : Candidate). c.term.parts) (sym f) ∙ e
          ∙ ap (λ (c : Candidate). c.term.parts) g in
          omega (arith, ints, ap (λ (c : Candidate). c.term.constant) f, ap (λ (c : Candidate). c.term.constant) g, rising i j d h l p)
      by_side (inr m) =
          let l : i < length rows = omega (arith, h, k, length_push rows row) in
          let f = get_or_append_left rows (row ∷ []) d i l in
          let g = get_or_push rows row d j (omega (arith, m, k, length_push rows row)) in
          let p : (get_or rows i d).term.parts ≡ row.term.parts = ap (λ (c : Candidate). c.term.parts) (sym f) ∙ e
          ∙ ap (λ (c : Candidate). c.term.parts) g in
          omega (
            arith,
            ints,
            ap (λ (c : Candidate). c.term.constant) f,
            ap (λ (c : Candidate). c.term.constant) g,
            none-at rows row.term i d none l p,
          )

-- a row of the longer list
at_push : (rows : List Candidate) (row : Candidate) (ps : List (ℕ × ℤ)) (j : ℕ) (d : Candidate) → ps ≢ row.term.parts →
    j < length (rows ++ row ∷ []) → (get_or (rows ++ row ∷ []) j d).term.parts ≡ ps → (j < length rows)
    × ((get_or rows j d).term.parts ≡ ps)
at_push rows row ps j d n k e = by_side (cases_lt j (length rows)) where
  by_side : (j < length rows) ⊎ (length rows ≤ j) → (j < length rows) × ((get_or rows j d).term.parts ≡ ps)
  by_side (inl l) =
      (l, ap (λ (c : Candidate). c.term.parts) (sym (get_or_append_left rows (row ∷ []) d j l)) ∙ e)
  by_side (inr m) =
      let g = get_or_push rows row d j (omega (arith, m, k, length_push rows row)) in
      absurd (n (sym e ∙ ap (λ (c : Candidate). c.term.parts) g))

-- The entry of the new row

same_key : (ps qs rs : List (ℕ × ℤ)) → ps ≡ qs → pointwise is_same_part ps rs ≡ pointwise is_same_part qs rs
same_key ps qs rs e = ap (λ l. pointwise is_same_part l rs) e

IsKeyTest-list : (ps : List (ℕ × ℤ)) → IsKeyTest (λ (x y : Vec (ℕ × ℤ) Global). pointwise is_same_part x.items y.items)
    (λ k. pointwise is_same_part ps k.items)
IsKeyTest-list ps x y h = same_key ps x.items y.items ((Decides-same_list ps x.items).0 h)

AreApart-list : (ps qs : List (ℕ × ℤ)) → qs ≢ ps → AreApart {K = Vec (ℕ × ℤ) Global} (λ k. pointwise is_same_part ps k.items)
    (λ k. pointwise is_same_part qs k.items)
AreApart-list ps qs n k h =
    false_from_ne_true (pointwise is_same_part qs k.items)
    (λ g. n ((Decides-same_list qs k.items).0 g ∙ sym ((Decides-same_list ps k.items).0 h)))

other_found : (ps qs : List (ℕ × ℤ)) (es fs : List (Vec (ℕ × ℤ) Global × ℕ)) →
    KeepsOthers (λ (x y : Vec (ℕ × ℤ) Global). pointwise is_same_part x.items y.items) (λ k. pointwise is_same_part ps k.items) es fs →
    qs ≢ ps → lookup (λ k. pointwise is_same_part qs k.items) fs ≡ lookup (λ k. pointwise is_same_part qs k.items) es
unfolding KeepsOthers
other_found ps qs es fs kept n =
    kept (λ k. pointwise is_same_part qs k.items) (IsKeyTest-list qs) (AreApart-list ps qs n)

-- what a look-up finds, of the rows
abbrev pub IsRight : List Candidate → List (ℕ × ℤ) → Option ℕ → Type 0
IsRight rows ps o = MatchOption o (HasNone rows ps) (IsLastPlace rows ps)

last-is_here : (rows : List Candidate) (row : Candidate) → IsLastPlace (rows ++ row ∷ []) row.term.parts (length rows)
last-is_here rows row = (
  omega (arith, length_push rows row),
  (λ d. ap (λ (c : Candidate). c.term.parts) (get_or_push rows row d (length rows) refl)),
  (λ j d h k. absurd (omega (arith, h, k, length_push rows row))),
)

IsRight-push : (rows : List Candidate) (row : Candidate) (ps : List (ℕ × ℤ)) → ps ≢ row.term.parts → (o : Option ℕ) → IsRight rows ps o →
    IsRight (rows ++ row ∷ []) ps o
IsRight-push rows row ps n None h = λ j d k e.
    let a = at_push rows row ps j d n k e in
    h j d a.0 a.1
IsRight-push rows row ps n (Some i) h = (
  omega (arith, h.0, length_push rows row),
  (λ d. ap (λ (c : Candidate). c.term.parts) (get_or_append_left rows (row ∷ []) d i h.0) ∙ h.1 d),
  (λ j d l k e.
      let a = at_push rows row ps j d n k e in
      h.2 j d l a.0 a.1),
)

pub AreLastPlaces-push : (rows : List Candidate) (row : Candidate) (es fs : List (Vec (ℕ × ℤ) Global × ℕ)) → AreLastPlaces es rows →
    list_any (is_as_strong row.term) (candidate_terms rows) ≡ false →
    KeepsOthers (λ (x y : Vec (ℕ × ℤ) Global). pointwise is_same_part x.items y.items) (λ k. pointwise is_same_part row.term.parts k.items)
    es fs → lookup (λ k. pointwise is_same_part row.term.parts k.items) fs ≡ Some (length rows) → AreLastPlaces fs (rows ++ row ∷ [])
AreLastPlaces-push rows row es fs old none kept here = record {
  places = λ ps. by_test ps (pointwise is_same_part ps row.term.parts) refl;
  rising = AreRising-push rows row old.rising none;
} where
  by_test : (ps : List (ℕ × ℤ)) → (b : Bool) → pointwise is_same_part ps row.term.parts ≡ b → IsRight (rows ++ row ∷ []) ps
      (lookup (λ k. pointwise is_same_part ps k.items) fs)
  by_test ps true e =
      let same : ps ≡ row.term.parts = (Decides-same_list ps row.term.parts).0 e in
      subst (λ (qs : List (ℕ × ℤ)). IsRight (rows ++ row ∷ []) qs (lookup (λ k. pointwise is_same_part qs k.items) fs)) (sym same)
      (subst (λ (o : Option ℕ). IsRight (rows ++ row ∷ []) row.term.parts o) (sym here) (last-is_here rows row))
  by_test ps false e =
      let apart : ps ≢ row.term.parts = λ g. no_way (sym ((Decides-same_list ps row.term.parts).1 g) ∙ e) in
      subst (λ (o : Option ℕ). IsRight (rows ++ row ∷ []) ps o) (sym (other_found row.term.parts ps es fs kept apart))
      (IsRight-push rows row ps apart (lookup (λ k. pointwise is_same_part ps k.items) es) (old.places ps))

-- What the code finds

pub found_place : (es : List (Vec (ℕ × ℤ) Global × ℕ)) (rows : List Candidate) (ps qs : List (ℕ × ℤ)) (o : Option ℕ) →
    AreLastPlaces es rows →
    qs ≡ ps → o ≡ lookup (λ k. pointwise is_same_part qs k.items) es → IsRight rows ps o
found_place es rows ps qs o a e f =
    subst (λ (l : List (ℕ × ℤ)). IsRight rows l o) e (subst (λ (z : Option ℕ). IsRight rows qs z) (sym f) (a.places qs))

pub needless_at : (es : List (Vec (ℕ × ℤ) Global × ℕ)) (rows value : List Candidate) (t : LinearSum) (qs : List (ℕ × ℤ)) (i : ℕ)
    (r : Candidate) (x y : ℤ) → AreLastPlaces es rows → rows ≡ value → qs ≡ t.parts →
    Some i ≡ lookup (λ k. pointwise is_same_part qs k.items)
    es → r ≡ get_or rows i r → x ≡ t.constant → y ≡ r.term.constant → int_le x y ≡ list_any (is_as_strong t) (candidate_terms value)
needless_at es rows value t qs i r x y a v e f g cx cy =
    ap (λ z. int_le z y) cx ∙ ap (int_le t.constant) cy
    ∙ sym (last-as_strong rows t i r a.rising (found_place es rows t.parts qs (Some i) a e f) g)
    ∙ ap (λ l. list_any (is_as_strong t) (candidate_terms l)) v

pub needless_nowhere : (es : List (Vec (ℕ × ℤ) Global × ℕ)) (rows value : List Candidate) (t : LinearSum) (qs : List (ℕ × ℤ)) →
    AreLastPlaces es rows → rows ≡ value → qs ≡ t.parts → None ≡ lookup (λ k. pointwise is_same_part qs k.items) es →
    false ≡ list_any (is_as_strong t) (candidate_terms value)
needless_nowhere es rows value t qs a v e f =
    sym (none-as_strong rows t (found_place es rows t.parts qs None a e f)) ∙ ap (λ l. list_any (is_as_strong t) (candidate_terms l)) v

pub AreLastPlaces-added : (es fs : List (Vec (ℕ × ℤ) Global × ℕ)) (rows value next : List Candidate) (row : Candidate) (ks : List (ℕ × ℤ))
    (n : ℕ) (x : Bool) → AreLastPlaces es rows → rows ≡ value → ks ≡ row.term.parts → x ≡ list_any (is_as_strong row.term)
    (candidate_terms value) → x ≡ false → KeepsOthers (λ (a b : Vec (ℕ × ℤ) Global). pointwise is_same_part a.items b.items)
    (λ k. pointwise is_same_part ks k.items) es fs → lookup (λ k. pointwise is_same_part ks k.items) fs ≡ Some n → n ≡ length rows →
    next ≡ rows ++ row ∷ [] → AreLastPlaces fs next
AreLastPlaces-added es fs rows value next row ks n x a v e needless not_so kept here l g =
    let none : list_any (is_as_strong row.term) (candidate_terms rows)
    ≡ false = ap (λ (z : List Candidate). list_any (is_as_strong row.term)
    (candidate_terms z)) v ∙ sym needless ∙ not_so in
    let kept' = subst (λ (ps : List (ℕ × ℤ)). KeepsOthers (λ (a b : Vec (ℕ × ℤ) Global). pointwise is_same_part a.items b.items)
    (λ k. pointwise is_same_part ps k.items) es fs) e kept in
    let here' : lookup (λ k. pointwise is_same_part row.term.parts k.items) fs ≡ Some (length rows) = subst
    (λ (ps : List (ℕ × ℤ)). lookup (λ k. pointwise is_same_part ps k.items) fs ≡ Some n) e here ∙ ap (λ z. Some z) l in
    subst (λ (z : List Candidate). AreLastPlaces fs z) (sym g) (AreLastPlaces-push rows row es fs a none kept' here')
