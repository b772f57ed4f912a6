-- A bundle is what is read of its text.
use Rattle.std.proofs.Common.{◌≡◌, ℕ, zero, suc, ◌^◌, ◌≤◌, true, nat_le, Some, List, [], ◌∷◌, ◌++◌, length, take, drop, arith, refl, sym, subst, ap, ◌∙◌}
use Rattle.std.specs.Prelude.{codes}
use Rattle.std.proofs.lemmas.Bool.{leb-true, le-leb}
use Rattle.std.proofs.lemmas.List.{append-nil, append_assoc, drop_at, length-append, length-take, take-append-drop, take_at}
use Rattle.proof_bundle.specs.Claims.{PureBundle, PureClaim}
use Rattle.proof_bundle.specs.Text.{AreEach, Is32, IsBundle, IsClaim, OneText, bundle_text, claim_text, last, lines_text, max_source}
use Rattle.proof_bundle.specs.steps.Reading.{bytes_at, number_at, tag_at, tagged_at}
use Rattle.proof_bundle.specs.steps.Bundles.{before, bundle_at, claim_at, ended, id_at, source_at}
use Rattle.proof_bundle.proofs.Claims.{claims}
use Rattle.proof_bundle.proofs.Listing.{tagged}
use Rattle.proof_bundle.proofs.Numbers.{numbers}
use Rattle.proof_bundle.proofs.Parsing.{Parses, bind_again, bind_is, glue, some_is, tag_takes, tag_then, test_is, then_again}

-- Bytes

bytes_takes : (n : ℕ) (bytes : List ℕ) (x : List ℕ × List ℕ) → bytes_at n bytes ≡ Some x → (length x.0 ≡ n) × (bytes ≡ x.0 ++ x.1)
unfolding bytes_at
bytes_takes n bytes x e =
    let t = test_is (nat_le n (length bytes)) (take n bytes, drop n bytes) x e in
    let le = leb-true n (length bytes) t.0 in
    subst (λ (y : List ℕ × List ℕ). (length y.0 ≡ n) × (bytes ≡ y.0 ++ y.1)) t.1
    (omega (arith, le, length-take n bytes), sym (take-append-drop n bytes))

bytes_again : (n : ℕ) (xs rest : List ℕ) → length xs ≡ n → bytes_at n (xs ++ rest) ≡ Some (xs, rest)
unfolding bytes_at
bytes_again n xs rest h =
    let le : nat_le n (length (xs ++ rest)) ≡ true = le-leb n (length (xs ++ rest)) (omega (arith, h, length-append xs rest)) in
    rw le (λ i. Some (take_at xs rest n h i, drop_at xs rest n h i))

counted_bytes : (n : ℕ) → Parses (λ (xs : List ℕ). length xs ≡ n) (λ xs. xs) (bytes_at n)
counted_bytes n = record { takes = bytes_takes n; again = bytes_again n }

-- The source

abbrev head : List ℕ
head = codes "smash-bundle 1" ++ (10 ∷ codes "source ")

abbrev source_text : List ℕ → List ℕ
source_text s = head ++ (last (length s) ++ s)

abbrev IsSource : List ℕ → Type 0
IsSource s = length s ≤ max_source

sizes : Parses (λ n. n ≤ max_source) last (number_at 10 max_source)
sizes = numbers 10 (omega arith) max_source (omega arith)

source_takes : (bytes : List ℕ) (x : List ℕ × List ℕ) → source_at bytes ≡ Some x → IsSource x.0 × (bytes ≡ source_text x.0 ++ x.1)
unfolding source_at
source_takes bytes x e =
    let a = bind_is (tag_at head bytes) _ x e in
    let b = bind_is (number_at 10 max_source a.0) _ x a.2 in
    let n = sizes.takes a.0 b.0 b.1 in
    let s = bytes_takes b.0.0 b.0.1 x b.2 in (
      omega (arith, n.0, s.0),
      glue bytes head a.0 (last (length x.0) ++ x.0) x.1 (tag_takes head bytes a.0 a.1)
          (glue a.0 (last (length x.0)) b.0.1 x.0 x.1 (n.1 ∙ ap (λ k. last k ++ b.0.1) (sym s.0)) s.1),
    )

source_again : (s rest : List ℕ) → IsSource s → source_at (source_text s ++ rest) ≡ Some (s, rest)
unfolding source_at
source_again s rest h =
    bind_again (tag_at head (source_text s ++ rest)) _ ((last (length s) ++ s) ++ rest) (tag_then head (last (length s) ++ s) rest)
    ∙ bind_again (number_at 10 max_source ((last (length s) ++ s) ++ rest)) _ (length s, s ++ rest) (then_again sizes (length s) s rest h)
    ∙ bytes_again (length s) s rest refl

sources : Parses IsSource source_text source_at
sources = record { takes = source_takes; again = source_again }

-- The assertion

abbrev assert : List ℕ
assert = 10 ∷ codes "assert "

abbrev id_text : ℕ → List ℕ
id_text id = assert ++ last (suc id)

from_one : Parses (λ n. n ≤ 2 ^ 32) last (number_at 10 (2 ^ 32))
from_one = numbers 10 (omega arith) (2 ^ 32) (omega arith)

before_is : (n id : ℕ) → before n ≡ Some id → n ≡ suc id
before_is zero id e = absurd cc
before_is (suc m) id e = ap suc (some_is m id e)

id_takes : (bytes : List ℕ) (x : ℕ × List ℕ) → id_at bytes ≡ Some x → Is32 x.0 × (bytes ≡ id_text x.0 ++ x.1)
unfolding id_at
id_takes bytes x e =
    let a = bind_is (tag_at assert bytes) _ x e in
    let b = bind_is (number_at 10 (2 ^ 32) a.0) _ x a.2 in
    let c = bind_is (before b.0.0) _ x b.2 in
    let n = from_one.takes a.0 b.0 b.1 in
    let k = before_is b.0.0 c.0 c.1 in
    subst (λ (y : ℕ × List ℕ). Is32 y.0 × (bytes ≡ id_text y.0 ++ y.1)) (some_is (c.0, b.0.1) x c.2) (
      omega (arith, n.0, k),
      glue bytes assert a.0 (last (suc c.0)) b.0.1 (tag_takes assert bytes a.0 a.1) (n.1 ∙ ap (λ m. last m ++ b.0.1) k),
    )

id_again : (id : ℕ) (rest : List ℕ) → Is32 id → id_at (id_text id ++ rest) ≡ Some (id, rest)
unfolding id_at
id_again id rest h =
    bind_again (tag_at assert (id_text id ++ rest)) _ (last (suc id) ++ rest) (tag_then assert (last (suc id)) rest)
    ∙ bind_again (number_at 10 (2 ^ 32) (last (suc id) ++ rest)) _ (suc id, rest) (from_one.again (suc id) rest (omega (arith, h)))

ids : Parses Is32 id_text id_at
ids = record { takes = id_takes; again = id_again }

-- The whole

claim_lines : Parses (AreEach IsClaim) (λ cs. codes "claims " ++ lines_text claim_text cs) (tagged_at (codes "claims ") claim_at)
claim_lines = tagged IsClaim claim_text claim_at claims (codes "claims ")

is_over : (bytes : List ℕ) → ended bytes ≡ true → bytes ≡ []
is_over [] h = refl
is_over (b ∷ bs) h = absurd cc

abbrev claims_text : List PureClaim → List ℕ
claims_text cs = codes "claims " ++ lines_text claim_text cs

-- the text by its three parts
by_parts : (b : PureBundle) → bundle_text b ≡ source_text b.source ++ (id_text b.id ++ claims_text b.claims)
by_parts b =
    ap (λ t. head ++ (last (length b.source) ++ (b.source ++ t))) (sym (append_assoc assert (last (suc b.id)) (claims_text b.claims)))
    ∙ ap (λ t. head ++ t) (sym (append_assoc (last (length b.source)) b.source (id_text b.id ++ claims_text b.claims)))
    ∙ sym (append_assoc head (last (length b.source) ++ b.source) (id_text b.id ++ claims_text b.claims))

pub bundle_takes : (bytes : List ℕ) (b : PureBundle) → bundle_at bytes ≡ Some b → IsBundle b × (bytes ≡ bundle_text b)
unfolding bundle_at
bundle_takes bytes b e =
    let s = bind_is (source_at bytes) _ b e in
    let i = bind_is (id_at s.0.1) _ b s.2 in
    let c = bind_is (tagged_at (codes "claims ") claim_at i.0.1) _ b i.2 in
    let read : PureBundle = record { source = s.0.0; id = i.0.0; claims = c.0.0 } in
    let t = test_is (ended c.0.1) read b c.2 in
    let source = sources.takes bytes s.0 s.1 in
    let id = ids.takes s.0.1 i.0 i.1 in
    let cs = claim_lines.takes i.0.1 c.0 c.1 in
    let over : i.0.1 ≡ claims_text c.0.0 = cs.1 ∙ ap (λ r. claims_text c.0.0 ++ r) (is_over c.0.1 t.0) ∙ append-nil (claims_text c.0.0) in
    subst (λ y. IsBundle y × (bytes ≡ bundle_text y)) t.1 (
      record { source = source.0; id = id.0; claims = cs.0 },
      source.1 ∙ ap (λ r. source_text s.0.0 ++ r) (id.1 ∙ ap (λ r. id_text i.0.0 ++ r) over) ∙ sym (by_parts read),
    )

pub bundle_again : (b : PureBundle) → IsBundle b → bundle_at (bundle_text b) ≡ Some b
unfolding bundle_at
bundle_again b h =
    let asserted = id_text b.id ++ claims_text b.claims in
    bind_again (source_at (bundle_text b)) _ (b.source, asserted)
    (ap source_at (by_parts b) ∙ sources.again b.source asserted h.source)
    ∙ bind_again (id_at asserted) _ (b.id, claims_text b.claims) (ids.again b.id (claims_text b.claims) h.id)
    ∙ bind_again (tagged_at (codes "claims ") claim_at (claims_text b.claims)) _ (b.claims, [])
    (ap (tagged_at (codes "claims ") claim_at) (sym (append-nil (claims_text b.claims))) ∙ claim_lines.again b.claims [] h.claims)

pub one_text : OneText
one_text b c hb hc e = some_is b c (sym (bundle_again b hb) ∙ (ap bundle_at e ∙ bundle_again c hc))
