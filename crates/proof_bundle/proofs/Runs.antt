-- The digits that a text begins with, found one by one.
use Rattle.std.proofs.Common.{◌≡◌, ℕ, ◌+◌, ◌<◌, ◌≤◌, true, false, List, [], ◌∷◌, ◌++◌, length, take, drop, get_or, add-one, refl, sym, ap, ◌∙◌}
use Rattle.std.proofs.Math.Seq.{drop-cons}
use Rattle.std.proofs.lemmas.List.{append-nil, append_assoc, drop_all, take_more}
use Rattle.proof_bundle.specs.steps.Reading.{behind_digits, digits_of, is_digit}

-- the first `n` bytes are digits
pub record Reaches (bytes : List ℕ) (n : ℕ) : Type 0 where
  pub run : digits_of bytes ≡ take n bytes ++ digits_of (drop n bytes)
  pub rest : behind_digits bytes ≡ behind_digits (drop n bytes)

pub reached_none : (bytes : List ℕ) → Reaches bytes 0
reached_none bytes = record { run = refl; rest = refl }

pub drop_first : (bytes : List ℕ) (i : ℕ) → i < length bytes → drop i bytes ≡ get_or bytes i 0 ∷ drop (i + 1) bytes
drop_first bytes i lt = drop-cons bytes i 0 lt ∙ ap (λ n. get_or bytes i 0 ∷ drop n bytes) (sym (add-one i))

digits_more : (b : ℕ) (bs : List ℕ) → is_digit b ≡ true → digits_of (b ∷ bs) ≡ b ∷ digits_of bs
digits_more b bs h = rw h refl

behind_more : (b : ℕ) (bs : List ℕ) → is_digit b ≡ true → behind_digits (b ∷ bs) ≡ behind_digits bs
behind_more b bs h = rw h refl

digits_stop : (b : ℕ) (bs : List ℕ) → is_digit b ≡ false → digits_of (b ∷ bs) ≡ []
digits_stop b bs h = rw h refl

behind_stop : (b : ℕ) (bs : List ℕ) → is_digit b ≡ false → behind_digits (b ∷ bs) ≡ b ∷ bs
behind_stop b bs h = rw h refl

pub reached_more : (bytes : List ℕ) (n : ℕ) → n < length bytes → is_digit (get_or bytes n 0) ≡ true → Reaches bytes n →
    Reaches bytes (n + 1)
reached_more bytes n lt q h =
    let b = get_or bytes n 0 in
    record {
      run = h.run ∙ ap (λ t. take n bytes ++ digits_of t) (drop_first bytes n lt)
          ∙ ap (λ t. take n bytes ++ t) (digits_more b (drop (n + 1) bytes) q)
          ∙ sym (append_assoc (take n bytes) (b ∷ []) (digits_of (drop (n + 1) bytes)))
          ∙ ap (λ t. t ++ digits_of (drop (n + 1) bytes)) (sym (take_more bytes n 0 lt));
      rest = h.rest ∙ ap behind_digits (drop_first bytes n lt) ∙ behind_more b (drop (n + 1) bytes) q;
    }

pub stopped : (bytes : List ℕ) (n : ℕ) → n < length bytes → is_digit (get_or bytes n 0) ≡ false → Reaches bytes n →
    (take n bytes ≡ digits_of bytes) × (drop n bytes ≡ behind_digits bytes)
stopped bytes n lt q h =
    let b = get_or bytes n 0 in (
      sym (h.run ∙ ap (λ t. take n bytes ++ digits_of t) (drop_first bytes n lt)
          ∙ ap (λ t. take n bytes ++ t) (digits_stop b (drop (n + 1) bytes) q) ∙ append-nil (take n bytes)),
      sym (h.rest ∙ ap behind_digits (drop_first bytes n lt) ∙ behind_stop b (drop (n + 1) bytes) q ∙ sym (drop_first bytes n lt)),
    )

pub ended : (bytes : List ℕ) (n : ℕ) → length bytes ≤ n → Reaches bytes n →
    (take n bytes ≡ digits_of bytes) × (drop n bytes ≡ behind_digits bytes)
ended bytes n le h =
    let e : drop n bytes ≡ [] = drop_all n bytes le in
    (sym (h.run ∙ ap (λ t. take n bytes ++ digits_of t) e ∙ append-nil (take n bytes)), e ∙ sym (h.rest ∙ ap behind_digits e))
