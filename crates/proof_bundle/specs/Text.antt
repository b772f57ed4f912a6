-- The text of a bundle, in lines of items that are parted by one blank.
use Rattle.std.specs.Prelude.{◌≡◌, ℕ, suc, ◌^◌, ◌<◌, ◌≤◌, IsTrue, List, [], ◌∷◌, ◌++◌, length, flat_map, codes, ℤ}
use Rattle.std.specs.List.{AllByRecursion}
use Rattle.std.specs.Fmt.{decimal, signed_decimal}
use Rattle.linear_formula.specs.LinearSum.{is64, is_term}
use Rattle.linear_formula.specs.declared.formula.Atom.{Atom}
use Rattle.infeasible_cert.specs.Refutation.{Refutation, close, branch}
use Rattle.infeasible_cert.specs.Right.{max_nesting, nesting}
use Rattle.infeasible_cert.specs.declared.certificate.Derived.{Derived}
use Rattle.summary_form.specs.declared.query.ExitKind.{ExitKind}
use Rattle.summary_form.specs.declared.query.ExitKind.TheVariants.{Return, Fail}
use Rattle.may_partition.specs.declared.region.RegionEdge.{RegionEdge}
use Rattle.proof_bundle.specs.Claims.{PureBundle, PureClaim, PureMove, split, kill, kill_call}

-- Numbers, in decimal: `0`, or digits without a leading 0, after a `-` below 0

-- with a blank after it, or at the end of a line
abbrev pub item : ℕ → List ℕ
item n = decimal n ++ 32 ∷ []

abbrev pub last : ℕ → List ℕ
last n = decimal n ++ 10 ∷ []

abbrev pub signed_item : ℤ → List ℕ
signed_item z = signed_decimal z ++ 32 ∷ []

abbrev pub signed_last : ℤ → List ℕ
signed_last z = signed_decimal z ++ 10 ∷ []

-- Lists: their length ends a line, and the lines of each are after it
abbrev pub lines_text : {A : Type 0} → (A → List ℕ) → List A → List ℕ
lines_text f xs = last (length xs) ++ flat_map f xs

-- Rows

-- a column or a number, and a coefficient or a multiplier
abbrev pub pair_text : ℕ × ℤ → List ℕ
pair_text p = item p.0 ++ signed_item p.1

abbrev pub row_text : Atom → List ℕ
row_text a =
    codes "row " ++ (item (length a.term.parts)
    ++ (flat_map pair_text a.term.parts ++ signed_last a.term.constant))

abbrev pub cube_text : List Atom → List ℕ
cube_text atoms = codes "cube " ++ lines_text row_text atoms

-- Certificates

abbrev pub derived_text : Derived → List ℕ
derived_text d =
    codes "derive " ++ (item (length d.parts)
    ++ (flat_map pair_text d.parts ++ (signed_last d.divide ++ row_text d.row)))

abbrev pub refutation_text : Refutation → List ℕ
refutation_text (close ds) = codes "close " ++ lines_text derived_text ds
refutation_text (branch ds x at low high) =
    codes "branch " ++ (item (length ds) ++ (item x ++ (signed_last at
    ++ (flat_map derived_text ds ++ (refutation_text low ++ refutation_text high)))))

-- Moves

-- the graph edge and its two regions, of which `end` writes the second
abbrev pub edge_text : (ℕ → List ℕ) → RegionEdge → List ℕ
edge_text end k = item k.edge ++ (item k.from ++ end k.to)

abbrev pub move_text : PureMove → List ℕ
move_text (split k atoms) = codes "split " ++ (edge_text last k ++ cube_text atoms)
move_text (kill k c) = codes "kill " ++ (edge_text last k ++ refutation_text c)
move_text (kill_call k number cs) =
    codes "call " ++ (edge_text item k ++ (item number ++ lines_text refutation_text cs))

-- Claims

abbrev pub exit_text : ExitKind → List ℕ
exit_text Return = codes "return" ++ 10 ∷ []
exit_text (Fail id) = codes "fail " ++ last id

-- the query's two cubes, and the moves
abbrev pub claim_text : PureClaim → List ℕ
claim_text c =
    codes "claim " ++ (item c.query.proc ++ (exit_text c.query.exit
    ++ (cube_text c.query.start.atoms ++ (cube_text c.query.end.atoms
    ++ (codes "moves " ++ lines_text move_text c.moves)))))

-- the assertion is counted from 1
abbrev pub bundle_text : PureBundle → List ℕ
bundle_text b =
    codes "smash-bundle 1" ++ (10 ∷ codes "source " ++ (last (length b.source)
    ++ (b.source ++ (10 ∷ codes "assert " ++ (last (suc b.id)
    ++ (codes "claims " ++ lines_text claim_text b.claims))))))

-- Ranges

abbrev pub Is32 : ℕ → Type 0
Is32 n = n < 2 ^ 32

-- as many as a memory can hold, each in its range
abbrev pub AreEach : {A : Type 0} → (A → Type 0) → List A → Type 0
AreEach P xs = (length xs < 2 ^ 64) × AllByRecursion P xs

abbrev pub IsRow : Atom → Type 0
IsRow a = IsTrue (is_term a.term)

abbrev pub IsMultiple : ℕ × ℤ → Type 0
IsMultiple p = Is32 p.0 × IsTrue (is64 p.1)

pub record IsDerived (d : Derived) : Type 0 where
  pub parts : AreEach IsMultiple d.parts
  pub divide : IsTrue (is64 d.divide)
  pub row : IsRow d.row

abbrev pub HasRanges : Refutation → Type 0
HasRanges (close ds) = AreEach IsDerived ds
HasRanges (branch ds x at low high) =
    AreEach IsDerived ds × Is32 x × IsTrue (is64 at) × HasRanges low × HasRanges high

abbrev pub IsCertificate : Refutation → Type 0
IsCertificate c = (nesting c ≤ max_nesting) × HasRanges c

pub record IsEdge (k : RegionEdge) : Type 0 where
  pub edge : Is32 k.edge
  pub from : Is32 k.from
  pub to : Is32 k.to

abbrev pub IsMove : PureMove → Type 0
IsMove (split k atoms) = IsEdge k × AreEach IsRow atoms
IsMove (kill k c) = IsEdge k × IsCertificate c
IsMove (kill_call k number cs) = IsEdge k × Is32 number × AreEach IsCertificate cs

abbrev pub IsExit : ExitKind → Type 0
IsExit Return = Unit {0}
IsExit (Fail id) = Is32 id

pub record IsClaim (c : PureClaim) : Type 0 where
  pub proc : Is32 c.query.proc
  pub exit : IsExit c.query.exit
  pub start : AreEach IsRow c.query.start.atoms
  pub end : AreEach IsRow c.query.end.atoms
  pub moves : AreEach IsMove c.moves

abbrev pub max_source : ℕ
max_source = 65536

pub record IsBundle (b : PureBundle) : Type 0 where
  pub source : length b.source ≤ max_source
  pub id : Is32 b.id
  pub claims : AreEach IsClaim b.claims

-- no two bundles have one text
abbrev pub OneText : Type 0
OneText =
    (b c : PureBundle) → IsBundle b → IsBundle c → bundle_text b ≡ bundle_text c → b ≡ c
