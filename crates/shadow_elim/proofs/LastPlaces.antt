-- The rows that stay, by the last places of their coefficients.
use Rattle.std.proofs.Common.{◌≡◌, ℕ, ◌<◌, ◌+◌, ◌-◌, Bool, true, false, ◌==◌, not, ◌&&◌, List, [], ◌∷◌, ◌++◌, length, get_or, take, drop, length-drop, length-take, get_or-drop, get_or-take, append-nil, ℤ, Option, Some, None, Vec, arith, refl, sym, ap, ◌∙◌, subst, ⊎_elim}
use Rattle.std.specs.Prelude.{All, Contains, if◌then◌else◌}
use Rattle.std.specs.List.{list_any}
use Rattle.std.specs.Map.{lookup}
use Rattle.std.specs.Cmp.Lexicographic.{pointwise}
use Rattle.std.specs.declared.alloc.Global.{Global}
use Rattle.std.proofs.lemmas.Bool.{false_from_ne_true, cases_order, eqb-true, eqb-false}
use Rattle.std.proofs.lemmas.Int.{ints}
use Rattle.std.proofs.lemmas.List.{append_assoc, map_push, map_more, drop_more}
use Rattle.std.proofs.lemmas.List.Elements.{All-push, Contains-get_or}
use Rattle.std.proofs.lemmas.List.Folds.{list_any_at, Any-from_list_any}
use Rattle.linear_formula.specs.LinearSum.{LinearSum}
use Rattle.shadow_elim.specs.declared.pairing.Candidate.{Candidate}
use Rattle.shadow_elim.specs.steps.Making.{candidate_terms}
use Rattle.shadow_elim.specs.steps.Places.{AreLastPlaces, is_found, is_kept}
use Rattle.shadow_elim.specs.Reduction.{is_same_part, is_as_strong, is_stronger, is_trivial, stays, reduced_after, reduced}
use Rattle.shadow_elim.proofs.Strength.{AsStrong, Stronger, Stronger-from_test, test-from_Stronger}
use Rattle.shadow_elim.proofs.Placing.{any_terms, AreRising, as_strong_place, any_default, IsRight}

not_earlier : (rows : List Candidate) (i : ℕ) (d : Candidate) → AreRising rows → i < length rows →
    list_any (is_as_strong (get_or rows i d).term) (candidate_terms (take i rows)) ≡ false
not_earlier rows i d rising h =
    false_from_ne_true (list_any (is_as_strong (get_or rows i d).term) (candidate_terms (take i rows))) (λ g.
    let a = as_strong_place (get_or rows i d).term (take i rows) g in
    let l : a.0 < i = omega (arith, a.2, length-take i rows) in
    let e : a.1 ≡ get_or rows a.0 d = sym a.3 ∙ get_or-take i rows a.0 a.1 l ∙ any_default rows a.0 a.1 d (omega (arith, l, h)) in
    let s : AsStrong (get_or rows i d).term (get_or rows a.0 d).term = subst (λ (c : Candidate). AsStrong (get_or rows i d).term c.term) e
    a.4
    in
    omega (arith, ints, s.constant, rising a.0 i d l h s.parts))

-- a later stronger row, by its place
stronger_place : (t : LinearSum) (rows : List Candidate) (i : ℕ) (d : Candidate) →
    list_any (is_stronger t) (candidate_terms (drop (i + 1) rows))
    ≡ true → (j : ℕ) × (i < j) × (j < length rows) × ((get_or rows j d).term.parts ≡ t.parts)
stronger_place t rows i d h =
    let a = Any-from_list_any (λ (c : Candidate). is_stronger t c.term) (drop (i + 1) rows)
    (sym (any_terms (is_stronger t) (drop (i + 1) rows)) ∙ h) in
    let l : (i + 1) + a.0 < length rows = omega (arith, a.2, length-drop (i + 1) rows) in
    let e : a.1 ≡ get_or rows ((i + 1) + a.0) d = sym a.3 ∙ get_or-drop (i + 1) rows a.0 a.1 ∙ any_default rows ((i + 1) + a.0) a.1 d l in
    ((i + 1) + a.0, omega arith, l, ap (λ (c : Candidate). c.term.parts) (sym e) ∙ (Stronger-from_test t a.1.term a.4).parts)

stronger_at : (rows : List Candidate) (i n : ℕ) (d : Candidate) → AreRising rows → i < n → n < length rows → (get_or rows n d).term.parts
    ≡ (get_or rows i d).term.parts → list_any (is_stronger (get_or rows i d).term) (candidate_terms (drop (i + 1) rows)) ≡ true
stronger_at rows i n d rising h k e =
    let t = (get_or rows i d).term in
    let m : ℕ = n - (i + 1) in
    let there : get_or (drop (i + 1) rows) m d ≡ get_or rows n d = get_or-drop (i + 1) rows m d ∙ ap (λ (z : ℕ). get_or rows z d)
    (omega arith)
    in
    let s : Stronger (get_or rows i d).term (get_or rows n d).term = record { parts = e; constant = rising i n d h k (sym e) } in
    any_terms (is_stronger (get_or rows i d).term) (drop (i + 1) rows) ∙ list_any_at (λ (c : Candidate). is_stronger (get_or rows i d).term
    c.term) (drop (i + 1) rows) m d (omega (arith, h, k, length-drop (i + 1) rows))
    (ap (λ (c : Candidate). is_stronger (get_or rows i d).term c.term) there ∙ test-from_Stronger (get_or rows i d).term
    (get_or rows n d).term s)

-- no stronger row comes later exactly where the place is the last one
last_behind : (rows : List Candidate) (i : ℕ) (d : Candidate) (o : Option ℕ) → AreRising rows → i < length rows →
    IsRight rows (get_or rows i d).term.parts o → not (list_any (is_stronger (get_or rows i d).term) (candidate_terms (drop (i + 1) rows)))
    ≡ is_found i o
last_behind rows i d None rising h r = absurd (r i d h refl)
last_behind rows i d (Some n) rising h r = by_test (n == i) refl where
  by_test : (b : Bool) → (n == i) ≡ b → not (list_any (is_stronger (get_or rows i d).term) (candidate_terms (drop (i + 1) rows))) ≡ b
  by_test true e =
      let same : n ≡ i = eqb-true n i e in
      ap not (false_from_ne_true (list_any (is_stronger (get_or rows i d).term) (candidate_terms (drop (i + 1) rows))) (λ g.
      let a = stronger_place (get_or rows i d).term rows i d g in
      r.2 a.0 d (omega (arith, same, a.1)) a.2 a.3))
  by_test false e =
      ⊎_elim (λ g. absurd (eqb-false n i e g)) (λ g. ⊎_elim (λ lt. absurd (r.2 i d lt h refl))
      (λ lt. ap not (stronger_at rows i n d rising lt r.0 (r.1 d))) g) (cases_order n i)

kept_tests : (a b c f : Bool) → b ≡ false → not c ≡ f → (not a && (not b && not c)) ≡ (not a && f)
kept_tests a b c f e g =
    ap (λ z. not a && (not z && not c)) e ∙ ap (λ z. not a && z) g

pub stays-is_kept : (es : List (Vec (ℕ × ℤ) Global × ℕ)) (rows : List Candidate) (i : ℕ) (d : Candidate) → AreLastPlaces es rows →
    i < length rows → stays (candidate_terms (take i rows)) (get_or rows i d).term (candidate_terms (drop (i + 1) rows))
    ≡ is_kept es i (get_or rows i d).term
stays-is_kept es rows i d a h =
    let o = lookup (λ k. pointwise is_same_part (get_or rows i d).term.parts k.items) es in
    kept_tests (is_trivial (get_or rows i d).term) (list_any (is_as_strong (get_or rows i d).term) (candidate_terms (take i rows)))
    (list_any (is_stronger (get_or rows i d).term) (candidate_terms (drop (i + 1) rows))) (is_found i o) (not_earlier rows i d a.rising h)
    (last_behind rows i d o a.rising h (a.places (get_or rows i d).term.parts))

-- The loop: the first rows are done

pub record AreDone (rows kept rest : List Candidate) (i : ℕ) : Type 0 where
  pub left : rest ≡ drop i rows
  pub result : candidate_terms kept ++ reduced_after (candidate_terms (take i rows)) (candidate_terms rest) ≡ reduced (candidate_terms rows)
  pub among : All (λ c. Contains rows c) kept

pub done-begins : (rows value kept rest : List Candidate) (n : ℕ) → rows ≡ value → kept ≡ [] → rest ≡ rows → n ≡ 0 →
    AreDone value kept rest n
done-begins rows value kept rest n v k e z =
    subst (λ (i : ℕ). AreDone value kept rest i) (sym z) (subst (λ (l : List Candidate). AreDone value l rest 0) (sym k) (record {
      left = e ∙ v;
      result = ap (λ (l : List Candidate). reduced (candidate_terms l)) (e ∙ v);
      among = λ j d h. absurd (omega (arith, h));
    }))

-- the next row
record IsNext (rows rest : List Candidate) (i : ℕ) (row : Candidate) : Type 0 where
  bound : i < length rows
  here : row ≡ get_or rows i row
  behind : rest ≡ drop (i + 1) rows

next-is : (rows kept rest : List Candidate) (i : ℕ) (row : Candidate) → AreDone rows kept (row ∷ rest) i → IsNext rows rest i row
next-is rows kept rest i row s =
    let l : i < length rows = omega (arith, length-drop i rows, ap length s.left) in
    let e : row ∷ rest ≡ get_or rows i row ∷ drop (i + 1) rows = s.left ∙ drop_more rows i row l in
    record { bound = l; here = cc; behind = cc }

pub reduced_after-step : (bs ts : List LinearSum) (t : LinearSum) (b : Bool) → stays bs t ts ≡ b → reduced_after bs (t ∷ ts)
    ≡ (if b then (t ∷ reduced_after (bs ++ t ∷ []) ts) else reduced_after (bs ++ t ∷ []) ts)
reduced_after-step bs ts t b e =
    ap (λ (z : Bool). if z then (t ∷ reduced_after (bs ++ t ∷ []) ts) else reduced_after (bs ++ t ∷ []) ts) e

-- the terms before the next row, and with it
pub with_next : (rows : List Candidate) (i : ℕ) (row : Candidate) → i < length rows → row ≡ get_or rows i row →
    candidate_terms (take (i + 1) rows) ≡ candidate_terms (take i rows) ++ row.term ∷ []
with_next rows i row h e =
    map_more (λ (c : Candidate). c.term) rows i row h ∙ ap (λ (c : Candidate). candidate_terms (take i rows) ++ c.term ∷ []) (sym e)

-- what is left to do after the next row, by whether it stays
after_next : (es : List (Vec (ℕ × ℤ) Global × ℕ)) (rows kept rest : List Candidate) (i : ℕ) (row : Candidate) (b : Bool) →
    AreLastPlaces es rows → AreDone rows kept (row ∷ rest) i → is_kept es i row.term ≡ b → candidate_terms kept
    ++ (if b then (row.term ∷ reduced_after (candidate_terms (take (i + 1) rows)) (candidate_terms rest)) else reduced_after
    (candidate_terms (take (i + 1) rows)) (candidate_terms rest)) ≡ reduced (candidate_terms rows)
after_next es rows kept rest i row b a s e =
    let n = next-is rows kept rest i row s in
    let g : stays (candidate_terms (take i rows)) row.term (candidate_terms rest)
    ≡ b = ap (λ (l : List Candidate). stays (candidate_terms (take i rows)) row.term (candidate_terms l)) n.behind
    ∙ ap (λ (c : Candidate). stays (candidate_terms (take i rows)) c.term (candidate_terms (drop (i + 1) rows))) n.here ∙ stays-is_kept es
    rows i row a n.bound ∙ ap (λ (c : Candidate). is_kept es i c.term) (sym n.here) ∙ e in
    let f : List LinearSum → List LinearSum = λ bs. candidate_terms kept ++ (if b then (row.term ∷ reduced_after bs (candidate_terms rest))
    else reduced_after bs (candidate_terms rest)) in
    ap f (with_next rows i row n.bound n.here) ∙ ap (λ l. candidate_terms kept ++ l)
    (sym (reduced_after-step (candidate_terms (take i rows)) (candidate_terms rest) row.term b g)) ∙ s.result

pub done-left_out : (es : List (Vec (ℕ × ℤ) Global × ℕ)) (rows kept rest : List Candidate) (i : ℕ) (row : Candidate) →
    AreLastPlaces es rows →
    AreDone rows kept (row ∷ rest) i → is_kept es i row.term ≡ false → AreDone rows kept rest (i + 1)
done-left_out es rows kept rest i row a s e = record {
  left = (next-is rows kept rest i row s).behind;
  result = after_next es rows kept rest i row false a s e;
  among = s.among;
}

pub done-kept : (es : List (Vec (ℕ × ℤ) Global × ℕ)) (rows kept more rest : List Candidate) (i : ℕ) (row : Candidate) →
    AreLastPlaces es rows → AreDone rows kept (row ∷ rest) i → is_kept es i row.term ≡ true → more ≡ kept ++ row ∷ [] →
    AreDone rows more rest (i + 1)
done-kept es rows kept more rest i row a s e g =
    let n = next-is rows kept rest i row s in
    let left = reduced_after (candidate_terms (take (i + 1) rows)) (candidate_terms rest) in
    let r : candidate_terms (kept ++ row ∷ []) ++ reduced_after (candidate_terms (take (i + 1) rows)) (candidate_terms rest)
    ≡ reduced (candidate_terms rows) = ap (λ l. l ++ reduced_after (candidate_terms (take (i + 1) rows)) (candidate_terms rest))
    (map_push (λ (c : Candidate). c.term) kept row) ∙ append_assoc (candidate_terms kept) (row.term ∷ [])
    (reduced_after (candidate_terms (take (i + 1) rows)) (candidate_terms rest)) ∙ after_next es rows kept rest i row true a s e in
    let there : Contains rows row = subst (λ (c : Candidate). Contains rows c) (sym n.here) (Contains-get_or rows i row n.bound) in
    record {
      left = n.behind;
      result = ap (λ l. candidate_terms l ++ reduced_after (candidate_terms (take (i + 1) rows)) (candidate_terms rest)) g ∙ r;
      among = subst (λ l. All (λ c. Contains rows c) l) (sym g) (All-push (λ c. Contains rows c) kept row s.among there);
    }

none_left : (rows : List Candidate) → length rows ≡ 0 → rows ≡ []
none_left [] h = refl
none_left (r ∷ rows) h = absurd (omega (arith, h))

pub done-ends : (rows kept rest : List Candidate) (i : ℕ) → AreDone rows kept rest i → length rest ≡ 0 → candidate_terms kept
    ≡ reduced (candidate_terms rows)
done-ends rows kept rest i s h =
    let e = none_left rest h in
    sym (append-nil (candidate_terms kept)) ∙ ap (λ (l : List Candidate). candidate_terms kept ++ reduced_after
    (candidate_terms (take i rows))
    (candidate_terms l)) (sym e) ∙ s.result

-- The same, in the code's words

pub step-left_out : (es : List (Vec (ℕ × ℤ) Global × ℕ)) (rows value kept now rest : List Candidate) (i j n : ℕ) (row : Candidate)
    (b : Bool) →
    AreLastPlaces es rows → rows ≡ value → AreDone value kept now i → now ≡ row ∷ rest → j ≡ i → n ≡ i + 1 → b ≡ is_kept es j row.term →
    b ≡ false → AreDone value kept rest n
step-left_out es rows value kept now rest i j n row b a v s e f g h k =
    let a' = subst (λ (l : List Candidate). AreLastPlaces es l) v a in
    let s' = subst (λ (l : List Candidate). AreDone value kept l i) e s in
    subst (λ (m : ℕ). AreDone value kept rest m) (sym g) (done-left_out es value kept rest i row a' s'
    (ap (λ m. is_kept es m row.term) (sym f) ∙ sym h ∙ k))

pub step-kept : (es : List (Vec (ℕ × ℤ) Global × ℕ)) (rows value kept more now rest : List Candidate) (i j n : ℕ) (row : Candidate)
    (b : Bool) →
    AreLastPlaces es rows → rows ≡ value → AreDone value kept now i → now ≡ row ∷ rest → j ≡ i → n ≡ i + 1 → b ≡ is_kept es j row.term →
    b ≡ true → more ≡ kept ++ row ∷ [] → AreDone value more rest n
step-kept es rows value kept more now rest i j n row b a v s e f g h k m =
    let a' = subst (λ (l : List Candidate). AreLastPlaces es l) v a in
    let s' = subst (λ (l : List Candidate). AreDone value kept l i) e s in
    subst (λ (m : ℕ). AreDone value more rest m) (sym g) (done-kept es value kept more rest i row a' s'
    (ap (λ m. is_kept es m row.term) (sym f) ∙ sym h ∙ k) m)

pub length-next : (now rest : List Candidate) (row : Candidate) (m n : ℕ) → now ≡ row ∷ rest → length now ≡ m → n + 1 ≡ m → length rest ≡ n
length-next now rest row m n e f g = omega (arith, ap length e, f, g)
