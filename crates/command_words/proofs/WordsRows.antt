-- Texts by their names, and the rows that `clap` keeps of them.
use Rattle.std.proofs.Common.{◌≡◌, ◌∙◌, ◌≤◌, Bool, cond, true, false, List, [], ◌∷◌, ◌++◌, length, map, refl, Some, None, ap, sym, subst, arith, append-nil}
use Rattle.std.specs.Prelude.{◌||◌, find, slice_get, option_and_then}
use Rattle.std.specs.Str.{bytes_eq}
use Rattle.std.proofs.lemmas.List.Elements.{filter-append}
use Rattle.std.proofs.lemmas.List.{map-append}
use Rattle.std.proofs.lemmas.Slice.Eq.{bytes_eq-Decides}
use Rattle.clap.specs.Simple.{new_rule}
use Rattle.clap.specs.Walk.{Row, first_of, has_row, more_values, reading_by, with_values, without}
use Rattle.clap.specs.declared.builder.value_parser.Reading.{Reading}
use Rattle.clap.specs.declared.parser.matches.ValueSource.TheVariants.{CommandLine}
use Rattle.command_words.specs.Words.{Text, texts_of}
use Rattle.command_words.specs.steps.WordsLine.{listed}

abbrev pub Texts : Type 0
Texts = List (Text × Text)

pub same_text : (t : Text) → bytes_eq t t ≡ true
same_text t = (bytes_eq-Decides t t).1 refl

pub other_text : (s t : Text) → (s ≡ t → ⊥) → bytes_eq s t ≡ false
other_text s t differ = pick (bytes_eq s t) refl
  where
    pick : (b : Bool) → bytes_eq s t ≡ b → b ≡ false
    pick true e = absurd (differ ((bytes_eq-Decides s t).0 e))
    pick false e = refl

-- Texts by their names

pub texts_append : (name : Text) (xs ys : Texts) → texts_of name (xs ++ ys) ≡ texts_of name xs ++ texts_of name ys
texts_append name xs ys =
    ap (map (λ (o : Text × Text). o.1)) (filter-append (λ (o : Text × Text). bytes_eq o.0 name) xs ys)
    ∙ map-append (λ (o : Text × Text). o.1) _ _

pub texts_here : (name text : Text) (xs : Texts) → texts_of name ((name, text) ∷ xs) ≡ text ∷ texts_of name xs
texts_here name text xs = rw (same_text name) refl

pub texts_there : (name other text : Text) (xs : Texts) → bytes_eq other name ≡ false → texts_of name ((other, text) ∷ xs) ≡ texts_of name
    xs
texts_there name other text xs e = rw e refl

-- one more text, of another name
pub texts_past : (name other text : Text) (xs : Texts) → bytes_eq other name ≡ false → texts_of name (xs ++ (other, text) ∷ [])
    ≡ texts_of name xs
texts_past name other text xs e =
    texts_append name xs ((other, text) ∷ []) ∙ ap (λ ts. texts_of name xs ++ ts) (texts_there name other text [] e)
    ∙ append-nil (texts_of name xs)

pub texts_last : (name text : Text) (xs : Texts) → texts_of name (xs ++ (name, text) ∷ []) ≡ texts_of name xs ++ text ∷ []
texts_last name text xs = texts_append name xs ((name, text) ∷ []) ∙ ap (λ ts. texts_of name xs ++ ts) (texts_here name text [])

-- Rows

-- the reading of a text as it is written
abbrev pub plain_reading : Reading
plain_reading = reading_by (new_rule [])

abbrev pub row : Text × Text → Row
row g = record {
  id = g.0;
  values = g.1 ∷ [];
  count = None;
  source = Some CommandLine;
  reading = plain_reading;
}

abbrev pub rows : Texts → List Row
rows = map row

pub rows_append : (xs ys : Texts) → rows (xs ++ ys) ≡ rows xs ++ rows ys
rows_append xs ys = map-append row xs ys

-- a name that has no row
pub no_row : (name : Text) (xs : Texts) → has_row name (rows xs) ≡ false → texts_of name xs ≡ []
no_row name [] h = refl
no_row name (x ∷ xs) h = pick (bytes_eq x.0 name) refl h (no_row name xs)
  where
    pick : (b : Bool) → bytes_eq x.0 name ≡ b → (b || has_row name (rows xs)) ≡ false →
        (has_row name (rows xs) ≡ false → texts_of name xs ≡ []) → texts_of name (x ∷ xs) ≡ []
    pick true e k more = cc
    pick false e k more = texts_there name x.0 x.1 xs e ∙ more k

pub has_no_row : (name : Text) (xs : Texts) → texts_of name xs ≡ [] → has_row name (rows xs) ≡ false
has_no_row name [] h = refl
has_no_row name (x ∷ xs) h = pick (bytes_eq x.0 name) refl (has_no_row name xs)
  where
    pick : (b : Bool) → bytes_eq x.0 name ≡ b → (texts_of name xs ≡ [] → has_row name (rows xs) ≡ false) →
        (b || has_row name (rows xs)) ≡ false
    pick true e more = let k : x.1 ∷ texts_of name xs ≡ [] = rw e at h in cc
    pick false e more = more (sym (texts_there name x.0 x.1 xs e) ∙ h)

-- a text of a new name becomes the last row
module _ (name : Text) where
  without_none : (rs : List Row) → has_row name rs ≡ false → without name rs ≡ rs
  without_none [] h = refl
  without_none (r ∷ rs) h = pick (bytes_eq r.id name) h (without_none rs)
    where
      pick : (b : Bool) → (b || has_row name rs) ≡ false → (has_row name rs ≡ false → without name rs ≡ rs) →
          cond b rs (r ∷ without name rs) ≡ r ∷ rs
      pick true k more = cc
      pick false k more = ap (λ x. r ∷ x) (more k)

  with_none : (text : Text) (rs : List Row) → has_row name rs ≡ false →
      with_values name plain_reading CommandLine (text ∷ []) rs ≡ rs ++ row (name, text) ∷ []
  with_none text [] h = refl
  with_none text (r ∷ rs) h = pick (bytes_eq r.id name) h (with_none text rs)
    where
      pick : (b : Bool) → (b || has_row name rs) ≡ false →
          (has_row name rs ≡ false → with_values name plain_reading CommandLine (text ∷ []) rs ≡ rs ++ row (name, text) ∷ []) →
          cond b (more_values CommandLine (text ∷ []) r ++ rs) (r ∷ with_values name plain_reading CommandLine (text ∷ []) rs)
          ≡ r ∷ (rs ++ row (name, text) ∷ [])
      pick true k more = cc
      pick false k more = ap (λ x. r ∷ x) (more k)

  pub row_added : (text : Text) (xs : Texts) → texts_of name xs ≡ [] →
      with_values name plain_reading CommandLine (text ∷ []) (without name (rows xs)) ≡ rows (xs ++ (name, text) ∷ [])
  row_added text xs none =
      let h = has_no_row name xs none in
      ap (with_values name plain_reading CommandLine (text ∷ [])) (without_none (rows xs) h) ∙ with_none text (rows xs) h
      ∙ sym (rows_append xs ((name, text) ∷ []))

  -- the first text of a name that has one at most
  pub first_listed : (xs : Texts) → length (texts_of name xs) ≤ 1 → listed (first_of name (rows xs)) ≡ texts_of name xs
  first_listed [] h = refl
  first_listed (x ∷ xs) h = pick (bytes_eq x.0 name) refl (first_listed xs)
    where
      alone : texts_of name (x ∷ xs) ≡ x.1 ∷ texts_of name xs → x.1 ∷ [] ≡ texts_of name (x ∷ xs)
      alone e = none (texts_of name xs) e
        where
          none : (ts : List Text) → texts_of name (x ∷ xs) ≡ x.1 ∷ ts → x.1 ∷ [] ≡ texts_of name (x ∷ xs)
          none [] e = sym e
          none (t ∷ ts) e = let n = ap length e in absurd (omega arith)

      pick : (b : Bool) → bytes_eq x.0 name ≡ b →
          (length (texts_of name xs) ≤ 1 → listed (first_of name (rows xs)) ≡ texts_of name xs) →
          listed (option_and_then (λ (r : Row). slice_get r.values 0) (cond b (Some (row x)) (find (λ r. bytes_eq r.id name) (rows xs))))
          ≡ texts_of name (x ∷ xs)
      pick true e more = alone (rw e refl)
      pick false e more =
          let t : texts_of name (x ∷ xs) ≡ texts_of name xs = texts_there name x.0 x.1 xs e in
          more (subst (λ ts. length ts ≤ 1) t h) ∙ sym t
