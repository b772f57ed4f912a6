-- What names mean while scopes open and variables are declared, and how a map keeps it.
use Rattle.std.specs.Prelude.{◌≡◌, ℕ, ◌+◌, List, [], ◌∷◌, Option, Some, None, bytes_eq, if◌then◌else◌, refl}
use denote.Ref.{Bor}
use Rattle.std.specs.Coded.{Coded, Coded-set, code_by, coded×, coded_ℕ, coded_option, ×_prop, Π_prop, Unit-prop}
use Rattle.indexmap.specs.IndexMap.{IndexMap, get_by}
use Rattle.c_typing.specs.declared.scopes.Meaning.{Meaning}
use Rattle.c_typing.specs.declared.scopes.Entry.{Entry}
use Rattle.c_typing.specs.declared.scopes.Entry.TheVariants.{Opens, Declares}

-- what a map has at a name
abbrev pub found_in : {V S : Type 0} → IndexMap (Bor (List ℕ)) V S → List ℕ → Option V
found_in m x = get_by (λ k. bytes_eq x k.now) m

abbrev pub nothing_known : List ℕ → Option Meaning
nothing_known x = None

-- a name means a slot that was declared at this depth of scopes
abbrev pub with_meaning : (List ℕ → Option Meaning) → List ℕ → (slot depth : ℕ) → List ℕ →
    Option Meaning
with_meaning f x slot depth y = if bytes_eq x y then Some (record { slot = slot; depth = depth })
    else f y

-- how many scopes are open after entries
abbrev pub depth_onto : ℕ → List Entry → ℕ
depth_onto depth [] = depth
depth_onto depth (Opens ∷ es) = depth_onto (depth + 1) es
depth_onto depth (Declares x slot before ∷ es) = depth_onto depth es

-- what names mean after entries
abbrev pub meanings_onto : ℕ → (List ℕ → Option Meaning) → List Entry → List ℕ → Option Meaning
meanings_onto depth f [] = f
meanings_onto depth f (Opens ∷ es) = meanings_onto (depth + 1) f es
meanings_onto depth f (Declares x slot before ∷ es) = meanings_onto depth
    (with_meaning f x.now slot depth) es

-- each declaration keeps what its name meant before
abbrev pub AreSaved : ℕ → (List ℕ → Option Meaning) → List Entry → Type 0
AreSaved depth f [] = Unit {0}
AreSaved depth f (Opens ∷ es) = AreSaved (depth + 1) f es
AreSaved depth f (Declares x slot before ∷ es) = (before ≡ f x.now) × AreSaved depth
    (with_meaning f x.now slot depth) es

abbrev pub meaning_in : List Entry → List ℕ → Option Meaning
meaning_in es x = meanings_onto 0 nothing_known es x

-- the map has what each name means
abbrev pub IsLinked : {S : Type 0} → List Entry → IndexMap (Bor (List ℕ)) Meaning S → Type 0
IsLinked es m = ((x : List ℕ) → found_in m x ≡ meaning_in es x) × AreSaved 0 nothing_known es

coded_meaning : Coded Meaning
coded_meaning = code_by (ℕ × ℕ) (coded× coded_ℕ coded_ℕ) (λ m. (m.slot, m.depth))
    (λ v. record { slot = v.0; depth = v.1 }) (λ m. refl)

meaning-set : (a b : Option Meaning) → IsProp (a ≡ b)
meaning-set a b = Coded-set (coded_option coded_meaning) a b

AreSaved-prop : (depth : ℕ) (f : List ℕ → Option Meaning) (es : List Entry) →
    IsProp (AreSaved depth f es)
AreSaved-prop depth f [] = Unit-prop
AreSaved-prop depth f (Opens ∷ es) = AreSaved-prop (depth + 1) f es
AreSaved-prop depth f (Declares x slot before ∷ es) = ×_prop (meaning-set before (f x.now))
    (AreSaved-prop depth (with_meaning f x.now slot depth) es)

pub IsLinked-prop : {S : Type 0} (es : List Entry) (m : IndexMap (Bor (List ℕ)) Meaning S) →
    IsProp (IsLinked es m)
IsLinked-prop es m = ×_prop (Π_prop (λ x. meaning-set (found_in m x) (meaning_in es x)))
    (AreSaved-prop 0 nothing_known es)
