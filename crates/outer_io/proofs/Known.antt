-- Lemmas on bytes that are known.
use Rattle.std.specs.Prelude.{◌≡◌, ℕ, ◌+◌, ◌-◌, ◌<◌, ◌≤◌, min, List, [], ◌++◌, length, take}
use Rattle.std.specs.declared.option.Option.{Option}
use Rattle.std.specs.Io.KnownBytes.{Consumes}
use Rattle.std.proofs.Common.{drop, sym, ◌∙◌, ap, subst, arith, length-append, length-take, length-drop}
use Rattle.std.proofs.KnownBytes.{Consumes-trans}
use Rattle.std.proofs.Math.ListN.{drop_of_length-le}
use Rattle.std.proofs.Math.Seq.{take-append_seam, take-length}
use Rattle.std.proofs.lemmas.List.{take-append-drop, drop-drop}
use Rattle.outer_io.specs.Causes.{Took, TookAtMost}

-- what a read from memory gives
pub copied : (bytes buf copy : List ℕ) (at count piece : ℕ) → at ≤ length bytes → 1 ≤ piece → 0 < length buf
    → count ≡ min (min piece (length buf)) (length bytes - at) → copy ≡ take count (drop at bytes)
    → (drop at bytes ≡ take count (copy ++ drop count buf) ++ drop (at + count) bytes)
    × (count ≡ 0 → 0 < length (copy ++ drop count buf) → drop (at + count) bytes ≡ [])
copied bytes buf copy at count piece within some room c e =
    let n : length copy ≡ count = ap length e ∙ length-take count (drop at bytes) ∙ omega (arith, length-drop at bytes, c) in
    let t : take count (copy ++ drop count buf) ≡ copy = ap (λ k. take k (copy ++ drop count buf)) (sym n) ∙ take-append_seam copy
    (drop count buf) in (
      sym (take-append-drop count (drop at bytes)) ∙ ap (λ x. take count (drop at bytes) ++ x) (drop-drop count at bytes)
          ∙ ap (λ x. x ++ drop (at + count) bytes) (sym (t ∙ e)),
      λ z _. drop_of_length-le bytes (omega (arith, c, z)),
    )

-- the whole of what is left to write
pub whole_rest : (xs : List ℕ) (d : ℕ) → take (length xs - d) (drop d xs) ≡ drop d xs
whole_rest xs d = ap (λ n. take n (drop d xs)) (sym (length-drop d xs)) ∙ take-length (drop d xs)

-- a call that failed after it took some bytes
pub took_more : (old mid new : Option (List ℕ)) (taken : List ℕ) (room limit : ℕ) → Consumes old mid taken
    → length taken ≤ limit → TookAtMost mid new room → room ≤ limit + 1 - length taken
    → TookAtMost old new (limit + 1)
took_more old mid new taken room limit h le (n, within, (bytes, k, e)) fits = (
  length taken + n,
  omega arith,
  (taken ++ bytes, Consumes-trans old mid new taken bytes h k, length-append taken bytes ∙ ap (λ m. length taken + m) e),
)

-- the last call passed the limit
pub took_past : (old mid new : Option (List ℕ)) (taken bytes all : List ℕ) (n limit : ℕ) → Consumes old mid taken
    → Consumes mid new bytes → length bytes ≡ n → all ≡ taken ++ bytes → limit < length all
    → n ≤ limit + 1 - length taken → length taken ≤ limit → Took old new (limit + 1)
took_past old mid new taken bytes all n limit h k e joined past fits within = (
  all,
  subst (λ x. Consumes old new x) (sym joined) (Consumes-trans old mid new taken bytes h k),
  omega (arith, ap length joined, length-append taken bytes),
)
