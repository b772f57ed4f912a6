-- Pieces and lists.
use Rattle.std.specs.Prelude.{◌≡◌, ◌≢◌, ℕ, ◌+◌, ◌<◌, ◌≤◌, List, [], ◌∷◌, ◌++◌, length, take, true, false, refl, ℤ, replicate, ◌⊎◌, Option, Some, None, IfSome, MatchOption}
use Rattle.std.specs.List.{list_all}
use Rattle.std.proofs.Common.{drop, get_or, sym, ◌∙◌, ap, subst, arith, append_assoc, append-nil, length-append, inl, inr, Bor}
use Rattle.c_lexer.proofs.Lists.{each-behind, drop_first, same_run}
use Rattle.command_words.specs.Words.{IsValue, IsPiece, ArePieces, one, more, IsList, none, some, max_inputs}
use Rattle.c_lexer.specs.Lexing.{Each, RunEnds}
use Rattle.command_words.specs.steps.WordsView.{IsRun, Encloses}
use Rattle.command_words.proofs.WordsRuns.{is_space, is_of_word, is_of_piece, each_both, each_all, all_each, each_not, not_of, spaces_are, are_spaces, spaces_no_comma, spaces_end_word, front_of}
use Rattle.command_words.proofs.WordsNumbers.{value_word, value_piece, value_first, value_same}

-- Pieces

pub piece_same : (text : List ℕ) (y z : ℤ) → IsPiece text y → IsPiece text z → y ≡ z
piece_same text y z g h =
    let p = same_run is_space (replicate g.before 32) (replicate h.before 32) (g.value ++ replicate g.behind 32)
    (h.value ++ replicate h.behind 32) (sym g.whole ∙ h.whole)
    (are_spaces g.before) (are_spaces h.before) (value_first g.value (replicate g.behind 32) y g.read)
    (value_first h.value (replicate h.behind 32) z h.read) in
    let q = same_run is_of_word g.value h.value (replicate g.behind 32) (replicate h.behind 32) p.1 (value_word g.value y g.read)
    (value_word h.value z h.read) (spaces_end_word g.behind) (spaces_end_word h.behind) in
    let P : List ℕ → Type 0 = λ v. IsValue v y in
    value_same h.value y z (subst P q.0 g.read) h.read

pub piece_no_comma : (text : List ℕ) (z : ℤ) → IsPiece text z → Each is_of_piece text
piece_no_comma text z h =
    subst (Each is_of_piece) (sym h.whole)
    (each_both is_of_piece (replicate h.before 32) (h.value ++ replicate h.behind 32) (spaces_no_comma h.before)
    (each_both is_of_piece h.value (replicate h.behind 32) (value_piece h.value z h.read) (spaces_no_comma h.behind)))

piece_no_space : (text : List ℕ) (z : ℤ) → IsPiece text z → Each is_space text → ⊥
piece_no_space text z h e =
    let k = each-behind is_space (replicate h.before 32) (h.value ++ replicate h.behind 32) (subst (Each is_space) h.whole e) in
    none_left h.value (replicate h.behind 32) h.read k
  where
    none_left : (v rest : List ℕ) → IsValue v z → Each is_space (v ++ rest) → ⊥
    none_left [] rest r k = absurd r
    none_left (b ∷ bs) rest r k = let f = value_first (b ∷ bs) rest z r in let n : false ≡ true = sym f ∙ k.0 in cc

-- what the code reads of a piece
module _ (text rest : List ℕ) (n m : ℕ) (r : IsRun is_space text n) (is : rest ≡ drop n text) (s : IsRun is_of_word rest m) where
  pub piece_made : (z : ℤ) → list_all is_space (drop m rest) ≡ true → IsValue (take m rest) z → IsPiece text z
  piece_made z blank h =
      let front = front_of is_of_word rest m s in
      record {
        before = length r.text;
        value = take m rest;
        behind = length (drop m rest);
        whole = r.whole ∙ ap (λ x. x ++ drop n text) (spaces_are r.text r.each) ∙ ap (λ x. replicate (length r.text) 32 ++ x)
            (sym is ∙ s.whole ∙ ap (λ x. x ++ drop m rest) (sym front) ∙ ap (λ x. take m rest ++ x)
            (spaces_are (drop m rest) (each_all is_space (drop m rest) blank)));
        read = h;
      }

  pub piece_only : (z : ℤ) → IsPiece text z → (list_all is_space (drop m rest) ≡ true) × IsValue (take m rest) z
  piece_only z h =
      let p = same_run is_space r.text (replicate h.before 32) (drop n text) (h.value ++ replicate h.behind 32) (sym r.whole ∙ h.whole)
      r.each (are_spaces h.before) r.ends (value_first h.value (replicate h.behind 32) z h.read) in
      let q = same_run is_of_word s.text h.value (drop m rest) (replicate h.behind 32) (sym s.whole ∙ is ∙ p.1) s.each
      (value_word h.value z h.read) s.ends (spaces_end_word h.behind) in
      let P : List ℕ → Type 0 = λ v. IsValue v z in
      let B : List ℕ → Type 0 = λ v. list_all is_space v ≡ true in (
        subst B (sym q.1) (all_each is_space (replicate h.behind 32) (are_spaces h.behind)),
        subst P (sym (front_of is_of_word rest m s ∙ q.0))
            h.read,
      )

-- Pieces parted by commas, by the first one

pub record IsLast (text : List ℕ) (zs : List ℤ) : Type 0 where
  pub z : ℤ
  pub piece : IsPiece text z
  pub values : zs ≡ z ∷ []

pub record IsFirst (text front rest : List ℕ) (zs : List ℤ) : Type 0 where
  pub z : ℤ
  pub others : List ℤ
  pub piece : IsPiece front z
  pub pieces : ArePieces rest others
  pub values : zs ≡ z ∷ others

View : List ℕ → List ℤ → Type 0
View text zs = IsLast text zs ⊎ ((front : List ℕ) × (rest : List ℕ) × (text ≡ front ++ 44 ∷ rest) × IsFirst text front rest zs)

view : {text : List ℕ} {zs : List ℤ} → ArePieces text zs → View text zs
unfolding View
view (one {z} p) = inl (record { z = z; piece = p; values = refl })
view (more {text} {rest} {z} {zs} p h) = inr (text, rest, refl, record { z = z; others = zs; piece = p; pieces = h; values = refl })

pub last_only : (text : List ℕ) (zs : List ℤ) → Each is_of_piece text → ArePieces text zs → IsLast text zs
unfolding View
last_only text zs e h = elim (view h) [
  | inl w ↦ w
  | inr w ↦ absurd (each_not is_of_piece w.0 w.1 44 refl (subst (Each is_of_piece) w.2 e))
]

pub first_only : (text front rest : List ℕ) (zs : List ℤ) → text ≡ front ++ 44 ∷ rest → Each is_of_piece front → ArePieces text zs →
    IsFirst text front rest zs
unfolding View
first_only text front rest zs is e h = elim (view h) [
  | inl w ↦ absurd (each_not is_of_piece front rest 44 refl (subst (Each is_of_piece) is (piece_no_comma text w.z w.piece)))
  | inr w ↦
      let k = w.3 in
      let p = same_run is_of_piece w.0 front (44 ∷ w.1) (44 ∷ rest) (sym w.2 ∙ is) (piece_no_comma w.0 k.z k.piece) e refl refl in
      let q : w.1 ≡ rest = let d = p.1 in cc in
      record {
        z = k.z;
        others = k.others;
        piece = subst (λ x. IsPiece x k.z) p.0 k.piece;
        pieces = subst (λ x. ArePieces x k.others) q
            k.pieces;
        values = k.values;
      }
]

pub pieces_same : {text : List ℕ} {ys : List ℤ} (ws : List ℤ) → ArePieces text ys → ArePieces text ws → ys ≡ ws
pieces_same ws (one {text} {z} p) h =
    let k = last_only text ws (piece_no_comma text z p) h in
    ap (λ y. y ∷ []) (piece_same text z k.z p k.piece) ∙ sym k.values
pieces_same ws (more {text} {rest} {z} {zs} p g) h =
    let k = first_only (text ++ 44 ∷ rest) text rest ws refl (piece_no_comma text z p) h in
    ap (λ y. y ∷ zs) (piece_same text z k.z p k.piece) ∙ ap (λ w. k.z ∷ w) (pieces_same k.others g k.pieces) ∙ sym k.values

pub pieces_no_space : (text : List ℕ) (zs : List ℤ) → ArePieces text zs → list_all is_space text ≡ true → ⊥
unfolding View
pieces_no_space text zs h e = elim (view h) [
  | inl w ↦ piece_no_space text w.z w.piece (each_all is_space text e)
  | inr w ↦ each_not is_space w.0 w.1 44 refl (subst (Each is_space) w.2 (each_all is_space text e))
]

-- The loop over pieces

pub record Reading (text rest : List ℕ) (values : List ℤ) : Type 0 where
  pub sound : (zs : List ℤ) → ArePieces rest zs → ArePieces text (values ++ zs)
  pub complete : (zs : List ℤ) → ArePieces text zs → (ws : List ℤ) × (zs ≡ values ++ ws) × ArePieces rest ws

module _ (text rest : List ℕ) (values : List ℤ) (len : ℕ) (so_far : Reading text rest values) (r : IsRun is_of_piece rest len) where
  front_each : Each is_of_piece (take len rest)
  front_each = subst (Each is_of_piece) (sym (front_of is_of_piece rest len r)) r.each

  -- the front ends at the end of the text
  ended : len ≡ length rest → rest ≡ take len rest
  ended e = r.whole ∙ ap (λ x. x ++ drop len rest) (sym (front_of is_of_piece rest len r)) ∙ ap (λ x. take len rest ++ x)
      (nothing (drop len rest) (none_left e)) ∙ append-nil (take len rest)
    where
      nothing : (xs : List ℕ) → length xs ≡ 0 → xs ≡ []
      nothing [] e = refl
      nothing (x ∷ xs) e = absurd (omega arith)

      none_left : len ≡ length rest → length (drop len rest) ≡ 0
      none_left e = let n : length rest ≡ length r.text + length (drop len rest) = ap length r.whole ∙ length-append r.text (drop len rest)
          in omega (arith, n, r.size)

  -- or before a comma
  parted : len < length rest → rest ≡ take len rest ++ 44 ∷ drop (len + 1) rest
  parted lt =
      let d = drop_first rest len lt in
      let P : List ℕ → Type 0 = RunEnds is_of_piece in
      let c : get_or rest len 0 ≡ 44 = not_of (get_or rest len 0) 44 (subst P d r.ends) in
      r.whole ∙ ap (λ x. x ++ drop len rest) (sym (front_of is_of_piece rest len r)) ∙ ap (λ x. take len rest ++ x)
      (d ∙ ap (λ x. x ∷ drop (len + 1) rest) c)

  pub reading_last : len ≡ length rest → (z : ℤ) → IsPiece (take len rest) z → ArePieces text (values ++ z ∷ [])
  reading_last e z p = so_far.sound (z ∷ []) (one (subst (λ x. IsPiece x z) (sym (ended e)) p))

  pub reading_more : len < length rest → (z : ℤ) → IsPiece (take len rest) z → Reading text (drop (len + 1) rest) (values ++ z ∷ [])
  reading_more lt z p = record {
    sound = λ zs h.
        let P : List ℤ → Type 0 = ArePieces text in
        let Q : List ℕ → Type 0 = λ x. ArePieces x (z ∷ zs) in
        subst P (sym (append_assoc values (z ∷ []) zs)) (so_far.sound (z ∷ zs) (subst Q (sym (parted lt)) (more p h)));
    complete = λ zs h.
        let c = so_far.complete zs h in
        let k = first_only rest (take len rest) (drop (len + 1) rest) c.0 (parted lt) front_each c.2 in (
          k.others,
          c.1 ∙ ap (λ x. values ++ x) (k.values ∙ ap (λ y. y ∷ k.others) (piece_same (take len rest) k.z z k.piece p))
              ∙ sym (append_assoc values (z ∷ []) k.others),
          k.pieces,
        );
  }

  pub no_piece : ((z : ℤ) → IsPiece (take len rest) z → ⊥) → (zs : List ℤ) → ArePieces text zs → ⊥
  no_piece n zs h =
      let c = so_far.complete zs h in
      elim (split len (length rest) r.within) [
        | inl e ↦ let k = last_only (take len rest) c.0 front_each (subst (λ x. ArePieces x c.0) (ended e) c.2) in n k.z k.piece
        | inr lt ↦ let k = first_only rest (take len rest) (drop (len + 1) rest) c.0 (parted lt) front_each c.2 in n k.z k.piece
      ]
    where
      split : (a b : ℕ) → a ≤ b → (a ≡ b) ⊎ (a < b)
      split a b h = grind arith

-- Lists

pub snoc_same : (xs ys : List ℕ) (b : ℕ) → xs ++ b ∷ [] ≡ ys ++ b ∷ [] → xs ≡ ys
snoc_same [] [] b e = refl
snoc_same [] (y ∷ ys) b e = let n : length (b ∷ []) ≡ length (y ∷ (ys ++ b ∷ [])) = ap length e in
    absurd (omega (arith, n, length-append ys (b ∷ [])))
snoc_same (x ∷ xs) [] b e = let n : length (x ∷ (xs ++ b ∷ [])) ≡ length (b ∷ []) = ap length e in
    absurd (omega (arith, n, length-append xs (b ∷ [])))
snoc_same (x ∷ xs) (y ∷ ys) b e =
    let h : x ≡ y = cc in
    let t : xs ++ b ∷ [] ≡ ys ++ b ∷ [] = cc in
    ap (λ k. k ∷ xs) h ∙ ap (λ k. y ∷ k) (snoc_same xs ys b t)

pub enclosed_same : (text a b : List ℕ) → Encloses text a → Encloses text b → a ≡ b
enclosed_same text a b g h = let e : 91 ∷ (a ++ 93 ∷ []) ≡ 91 ∷ (b ++ 93 ∷ []) = sym g ∙ h in let t : a ++ 93 ∷ [] ≡ b ++ 93 ∷ [] = cc in
    snoc_same a b 93 t

pub record IsListOf (text : List ℕ) (zs : List ℤ) : Type 0 where
  pub inner : List ℕ
  pub whole : Encloses text inner
  pub kind : ((list_all is_space inner ≡ true) × (zs ≡ [])) ⊎ (ArePieces inner zs × (length zs ≤ max_inputs))

pub list_of : {text : List ℕ} {zs : List ℤ} → IsList text zs → IsListOf text zs
list_of (none n) = record { inner = replicate n 32; whole = refl; kind = inl (all_each is_space (replicate n 32) (are_spaces n), refl) }
list_of (some {text} {zs} h le) = record { inner = text; whole = refl; kind = inr (h, le) }

pub empty_list : (text inner : List ℕ) → Encloses text inner → list_all is_space inner ≡ true → IsList text []
empty_list text inner e h =
    let P : List ℕ → Type 0 = λ x. IsList x [] in
    subst P (sym (e ∙ ap (λ x. 91 ∷ (x ++ 93 ∷ [])) (spaces_are inner (each_all is_space inner h)))) (none (length inner))

pub full_list : (text inner : List ℕ) (zs : List ℤ) → Encloses text inner → ArePieces inner zs → length zs ≤ max_inputs → IsList text zs
full_list text inner zs e h le = let P : List ℕ → Type 0 = λ x. IsList x zs in subst P (sym e) (some h le)

-- a list of a text with an inner part that isn't blank
pub list_only : (text inner : List ℕ) (zs : List ℤ) → Encloses text inner → list_all is_space inner ≡ false → IsList text zs →
    ArePieces inner zs × (length zs ≤ max_inputs)
list_only text inner zs e f h =
    let k = list_of h in
    let q = enclosed_same text k.inner inner k.whole e in
    elim k.kind [
      | inl w ↦ let n : true ≡ false = sym w.0 ∙ ap (list_all is_space) q ∙ f in cc
      | inr w ↦ (subst (λ x. ArePieces x zs) q w.0, w.1)
    ]

pub list_same : (text : List ℕ) (ys zs : List ℤ) → IsList text ys → IsList text zs → ys ≡ zs
list_same text ys zs g h =
    let j = list_of g in
    let k = list_of h in
    let q = enclosed_same text k.inner j.inner k.whole j.whole in
    elim j.kind [
      | inl v ↦ elim k.kind [
        | inl w ↦ v.1 ∙ sym w.1
        | inr w ↦ absurd (pieces_no_space j.inner zs (subst (λ x. ArePieces x zs) q w.0) v.0)
      ]
      | inr v ↦ elim k.kind [
        | inl w ↦ absurd (pieces_no_space k.inner ys (subst (λ x. ArePieces x ys) (sym q) v.0) w.0)
        | inr w ↦ pieces_same zs v.0 (subst (λ x. ArePieces x zs) q w.0)
      ]
    ]

-- what the code reads between the brackets
module _ (text middle : List ℕ) (whole : text ≡ 91 ∷ middle) where
  pub encloses_some : (r : Option (Bor (List ℕ))) → MatchOption r ((front : List ℕ) → middle ≢ front ++ 93 ∷ [])
      (λ x. middle ≡ x.now ++ 93 ∷ []) → IfSome r (λ x. Encloses text x.now)
  encloses_some None h = tt
  encloses_some (Some x) h = whole ∙ ap (λ m. 91 ∷ m) h
