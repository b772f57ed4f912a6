-- The order of faults is total, and equal keys are equal faults.
use Rattle.std.proofs.Common.{◌≡◌, ℕ, ◌<◌, true, false, ◌==◌, ◌⊎◌, refl, ap, sym, ◌∙◌, arith, if◌then◌else◌}
use Rattle.std.proofs.lemmas.Bool.Decides.{nat_tests}
use Rattle.c_typing.specs.declared.fault.TypeFault.{TypeFault}
use Rattle.c_typing.specs.declared.fault.TypeFault.TheVariants.{UnknownName, Duplicate, WrongCount, VoidValue, NotLinear, NoMain, MainShape, OutsideLoop, OverLimit, BadDivisor}
use Rattle.c_typing.specs.declared.fault.Which.TheVariants.{Procedures, Parameters, Variables, Tokens, Assertions}
use Rattle.c_typing.specs.Faults.{Fault}
use Rattle.c_typing.specs.Answer.{IsBefore, rank}
use Rattle.c_typing.specs.steps.Least.{is_before, is_before_by}

abbrev Lex : (a b c x y z : ℕ) → Type 0
Lex a b c x y z = (a < x) ⊎ ((a ≡ x) × ((b < y) ⊎ ((b ≡ y) × (c < z))))

lex-true : (a b c x y z : ℕ) → is_before_by a b c x y z ≡ true → Lex a b c x y z
lex-true a b c x y z e = grind (arith, nat_tests)

lex-false : (a b c x y z : ℕ) → is_before_by a b c x y z ≡ false → Lex a b c x y z → ⊥
lex-false a b c x y z e h = grind (arith, nat_tests)

lex-irrefl : (a b c : ℕ) → Lex a b c a b c → ⊥
lex-irrefl a b c h = grind arith

lex-between : (a b c x y z u v w : ℕ) → Lex a b c x y z → (Lex a b c u v w → ⊥) → (Lex u v w x y z → ⊥) → ⊥
lex-between a b c x y z u v w h n m = grind arith

lex-trans : (a b c x y z u v w : ℕ) → Lex a b c x y z → Lex x y z u v w → Lex a b c u v w
lex-trans a b c x y z u v w h n = grind arith

lex-same : (a b c x y z : ℕ) → (Lex a b c x y z → ⊥) → (Lex x y z a b c → ⊥) → (a ≡ x) × (b ≡ y) × (c ≡ z)
lex-same a b c x y z h n = (grind arith, grind arith, grind arith)

-- a fault by its rank
abbrev fault_by : ℕ → TypeFault
fault_by n =
    if n == 1 then UnknownName else
    (if n == 2 then Duplicate else
    (if n == 3 then WrongCount else (if n == 4 then VoidValue else (if n == 5 then NotLinear else (if n == 6 then NoMain else
    (if n == 7 then MainShape else
    (if n == 8 then OutsideLoop else
    (if n == 9 then OverLimit Procedures else
    (if n == 10 then OverLimit Parameters else (if n == 11 then OverLimit Variables else (if n == 12 then OverLimit Tokens else
    (if n == 13 then OverLimit Assertions else BadDivisor))))))))))))

fault_by-rank : (f : TypeFault) → fault_by (rank f) ≡ f
fault_by-rank UnknownName = refl
fault_by-rank Duplicate = refl
fault_by-rank WrongCount = refl
fault_by-rank VoidValue = refl
fault_by-rank NotLinear = refl
fault_by-rank NoMain = refl
fault_by-rank MainShape = refl
fault_by-rank OutsideLoop = refl
fault_by-rank (OverLimit Procedures) = refl
fault_by-rank (OverLimit Parameters) = refl
fault_by-rank (OverLimit Variables) = refl
fault_by-rank (OverLimit Tokens) = refl
fault_by-rank (OverLimit Assertions) = refl
fault_by-rank BadDivisor = refl

rank-apart : (f g : TypeFault) → rank f ≡ rank g → f ≡ g
rank-apart f g e = sym (fault_by-rank f) ∙ ap fault_by e ∙ fault_by-rank g

pub is_before-true : (f g : Fault) → is_before f g ≡ true → IsBefore f g
is_before-true f g e = lex-true f.at.line f.at.column (rank f.fault) g.at.line g.at.column (rank g.fault) e

pub is_before-false : (f g : Fault) → is_before f g ≡ false → IsBefore f g → ⊥
is_before-false f g e h = lex-false f.at.line f.at.column (rank f.fault) g.at.line g.at.column (rank g.fault) e h

pub before-irrefl : (f : Fault) → IsBefore f f → ⊥
before-irrefl f h = lex-irrefl f.at.line f.at.column (rank f.fault) h

-- where one is before another, a third is after the one or before the other
pub before-between : (f g h : Fault) → IsBefore f g → (IsBefore f h → ⊥) → (IsBefore h g → ⊥) → ⊥
before-between f g h b n m = lex-between f.at.line f.at.column (rank f.fault) g.at.line g.at.column (rank g.fault) h.at.line h.at.column
    (rank h.fault) b n m

pub before-trans : (f g h : Fault) → IsBefore f g → IsBefore g h → IsBefore f h
before-trans f g h b n = lex-trans f.at.line f.at.column (rank f.fault) g.at.line g.at.column (rank g.fault) h.at.line h.at.column
    (rank h.fault) b n

fault_at : TypeFault → ℕ → ℕ → Fault
fault_at f line column = record { fault = f; at = record { line = line; column = column } }

pub before-same : (f g : Fault) → (IsBefore f g → ⊥) → (IsBefore g f → ⊥) → f ≡ g
unfolding fault_at
before-same f g h n =
    let s = lex-same f.at.line f.at.column (rank f.fault) g.at.line g.at.column (rank g.fault) h n in
    ap (λ k. fault_at k f.at.line f.at.column) (rank-apart f.fault g.fault s.2) ∙ ap (λ l. fault_at g.fault l f.at.column) s.0
    ∙ ap (λ c. fault_at g.fault g.at.line c) s.1
