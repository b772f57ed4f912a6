-- What is taken of a source.
use Rattle.std.proofs.Common.{◌≡◌, ℕ, ◌+◌, ◌≤◌, List, [], ◌++◌, length, Option, Some, None, refl, sym, ap, ◌∙◌, arith, append-nil, length-append}
use Rattle.std.specs.Io.KnownBytes.{Consumes, IsAtEnd}
use Rattle.std.proofs.KnownBytes.{Consumes-nil}
use Rattle.outer_io.specs.Causes.{TookAtMost}

-- what was read whole is all that there was
pub whole : (before after : Option (List ℕ)) (all bytes : List ℕ) → before ≡ Some all → Consumes before after bytes → IsAtEnd after →
    bytes ≡ all
whole None after all bytes told h end = absurd (let k = told in cc)
whole (Some xs) None all bytes told h end = absurd h
whole (Some xs) (Some ys) all bytes told h end =
    let same : xs ≡ all = cc in
    sym (append-nil bytes) ∙ ap (λ z. bytes ++ z) (sym end) ∙ sym h ∙ same

-- no more is taken than there was
pub at_most : (before after : Option (List ℕ)) (all bytes : List ℕ) → before ≡ Some all → Consumes before after bytes →
    length bytes ≤ length all
at_most None after all bytes told h = absurd (let k = told in cc)
at_most (Some xs) None all bytes told h = absurd h
at_most (Some xs) (Some ys) all bytes told h =
    let same : xs ≡ all = cc in
    omega (arith, length-append bytes ys, ap length h, ap length same)

-- nothing is taken from what stays as it was
pub took_none : (a : Option (List ℕ)) (most : ℕ) → TookAtMost a a most
took_none a most = (0, omega arith, ([], Consumes-nil a, refl))

pub took_whole : (a b : Option (List ℕ)) (bytes : List ℕ) (most : ℕ) → Consumes a b bytes → length bytes ≤ most → TookAtMost a b (most + 1)
took_whole a b bytes most h fits = (length bytes, omega (arith, fits), (bytes, h, refl))
