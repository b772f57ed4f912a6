-- Certificates are what is read of their texts.
use Rattle.std.proofs.Common.{◌≡◌, ℕ, zero, suc, ◌-◌, ◌^◌, ◌≤◌, Bool, true, false, Some, List, ◌++◌, length, ℤ, arith, refl, sym, subst, ap, ◌∙◌, if◌then◌else◌}
use Rattle.std.specs.Prelude.{codes, flat_map}
use Rattle.std.proofs.Math.Nat.{le-max_left, le-max_right, max-le}
use Rattle.infeasible_cert.specs.Refutation.{Refutation, close, branch}
use Rattle.infeasible_cert.specs.Right.{max_nesting, nesting}
use Rattle.infeasible_cert.specs.declared.certificate.Derived.{Derived}
use Rattle.proof_bundle.specs.Text.{AreEach, HasRanges, IsCertificate, IsDerived, IsMultiple, derived_text, item, lines_text, pair_text, refutation_text, row_text, signed_item, signed_last}
use Rattle.proof_bundle.specs.steps.Reading.{begins, list_at, max_count, max_thing, number_at, signed_at, tag_at, tagged_at}
use Rattle.proof_bundle.specs.steps.Bundles.{branch_at, certificate_at, close_at, derived_at, multiple_at, refutation_at, row_at}
use Rattle.proof_bundle.proofs.Listing.{lists, tagged}
use Rattle.proof_bundle.proofs.Numbers.{counts, longs, things}
use Rattle.proof_bundle.proofs.Parsing.{Parses, bind_again, bind_is, glue, some_is, tag_takes, tag_then, then_again}
use Rattle.proof_bundle.proofs.Rows.{rows}

-- Derived rows

multiple_takes : (bytes : List ℕ) (x : (ℕ × ℤ) × List ℕ) → multiple_at bytes ≡ Some x → IsMultiple x.0 × (bytes ≡ pair_text x.0 ++ x.1)
unfolding multiple_at
multiple_takes bytes x e =
    let a = bind_is (number_at 32 max_thing bytes) _ x e in
    let b = bind_is (signed_at 32 (2 ^ 63) (2 ^ 63 - 1) a.0.1) _ x a.2 in
    let t = (things 32 (omega arith)).takes bytes a.0 a.1 in
    let u = (longs 32 (omega arith)).takes a.0.1 b.0 b.1 in
    subst (λ (y : (ℕ × ℤ) × List ℕ). IsMultiple y.0 × (bytes ≡ pair_text y.0 ++ y.1)) (some_is ((a.0.0, b.0.0), b.0.1) x b.2)
    ((t.0, u.0), glue bytes (item a.0.0) a.0.1 (signed_item b.0.0) b.0.1 t.1 u.1)

multiple_again : (p : ℕ × ℤ) (rest : List ℕ) → IsMultiple p → multiple_at (pair_text p ++ rest) ≡ Some (p, rest)
unfolding multiple_at
multiple_again p rest h =
    bind_again (number_at 32 max_thing (pair_text p ++ rest)) _ (p.0, signed_item p.1 ++ rest)
    (then_again (things 32 (omega arith)) p.0 (signed_item p.1) rest h.0)
    ∙ bind_again (signed_at 32 (2 ^ 63) (2 ^ 63 - 1) (signed_item p.1 ++ rest)) _ (p.1, rest) ((longs 32 (omega arith)).again p.1 rest h.1)

multiples : Parses IsMultiple pair_text multiple_at
multiples = record { takes = multiple_takes; again = multiple_again }

derived_takes : (bytes : List ℕ) (x : Derived × List ℕ) → derived_at bytes ≡ Some x → IsDerived x.0 × (bytes ≡ derived_text x.0 ++ x.1)
unfolding derived_at
derived_takes bytes x e =
    let a = bind_is (tag_at (codes "derive ") bytes) _ x e in
    let b = bind_is (number_at 32 max_count a.0) _ x a.2 in
    let c = bind_is (list_at multiple_at b.0.0 b.0.1) _ x b.2 in
    let d = bind_is (signed_at 10 (2 ^ 63) (2 ^ 63 - 1) c.0.1) _ x c.2 in
    let r = bind_is (row_at d.0.1) _ x d.2 in
    let n = (counts 32 (omega arith)).takes a.0 b.0 b.1 in
    let ps = (lists IsMultiple pair_text multiple_at multiples b.0.0).takes b.0.1 c.0 c.1 in
    let z = (longs 10 (omega arith)).takes c.0.1 d.0 d.1 in
    let row = rows.takes d.0.1 r.0 r.1 in
    let derived : Derived = record { row = r.0.0; parts = c.0.0; divide = d.0.0 } in
    subst (λ (y : Derived × List ℕ). IsDerived y.0 × (bytes ≡ derived_text y.0 ++ y.1)) (some_is (derived, r.0.1) x r.2) (
      record { parts = (omega (arith, n.0, ps.0.0), ps.0.1); divide = z.0; row = row.0 },
      glue bytes (codes "derive ") a.0 (item (length c.0.0) ++ (flat_map pair_text c.0.0 ++ (signed_last d.0.0 ++ row_text r.0.0))) r.0.1
          (tag_takes (codes "derive ") bytes a.0 a.1)
          (glue a.0 (item (length c.0.0)) b.0.1 (flat_map pair_text c.0.0 ++ (signed_last d.0.0 ++ row_text r.0.0)) r.0.1
          (n.1 ∙ ap (λ k. item k ++ b.0.1) (sym ps.0.0))
          (glue b.0.1 (flat_map pair_text c.0.0) c.0.1 (signed_last d.0.0 ++ row_text r.0.0) r.0.1 ps.1
          (glue c.0.1 (signed_last d.0.0) d.0.1 (row_text r.0.0) r.0.1 z.1 row.1))),
    )

derived_again : (d : Derived) (rest : List ℕ) → IsDerived d → derived_at (derived_text d ++ rest) ≡ Some (d, rest)
unfolding derived_at
derived_again d rest h =
    let last = signed_last d.divide ++ row_text d.row in
    let parts = flat_map pair_text d.parts ++ last in
    bind_again (tag_at (codes "derive ") (derived_text d ++ rest)) _ ((item (length d.parts) ++ parts) ++ rest)
    (tag_then (codes "derive ") (item (length d.parts) ++ parts) rest)
    ∙ bind_again (number_at 32 max_count ((item (length d.parts) ++ parts) ++ rest)) _ (length d.parts, parts ++ rest)
    (then_again (counts 32 (omega arith)) (length d.parts) parts rest h.parts.0)
    ∙ bind_again (list_at multiple_at (length d.parts) (parts ++ rest)) _ (d.parts, last ++ rest)
    (then_again (lists IsMultiple pair_text multiple_at multiples (length d.parts)) d.parts last rest (refl, h.parts.1))
    ∙ bind_again (signed_at 10 (2 ^ 63) (2 ^ 63 - 1) (last ++ rest)) _ (d.divide, row_text d.row ++ rest)
    (then_again (longs 10 (omega arith)) d.divide (row_text d.row) rest h.divide)
    ∙ bind_again (row_at (row_text d.row ++ rest)) _ (d.row, rest) (rows.again d.row rest h.row)

pub deriveds : Parses IsDerived derived_text derived_at
deriveds = record { takes = derived_takes; again = derived_again }

-- Closed ones

closed_rows : Parses (AreEach IsDerived) (λ ds. codes "close " ++ lines_text derived_text ds) (tagged_at (codes "close ") derived_at)
closed_rows = tagged IsDerived derived_text derived_at deriveds (codes "close ")

abbrev Shallow : ℕ → Refutation → Type 0
Shallow depth c = (nesting c ≤ depth) × HasRanges c

close_takes : (depth : ℕ) (bytes : List ℕ) (x : Refutation × List ℕ) → close_at bytes ≡ Some x →
    Shallow depth x.0 × (bytes ≡ refutation_text x.0 ++ x.1)
unfolding close_at
close_takes depth bytes x e =
    let a = bind_is (tagged_at (codes "close ") derived_at bytes) _ x e in
    let t = closed_rows.takes bytes a.0 a.1 in
    subst (λ (y : Refutation × List ℕ). Shallow depth y.0 × (bytes ≡ refutation_text y.0 ++ y.1)) (some_is (close a.0.0, a.0.1) x a.2)
    ((omega arith, t.0), t.1)

close_again : (ds : List Derived) (rest : List ℕ) → AreEach IsDerived ds → close_at (refutation_text (close ds) ++ rest)
    ≡ Some (close ds, rest)
unfolding close_at
close_again ds rest h =
    bind_again (tagged_at (codes "close ") derived_at (refutation_text (close ds) ++ rest)) _ (ds, rest) (closed_rows.again ds rest h)

-- Branches

module _ (depth : ℕ) (one : Parses (Shallow depth) refutation_text (refutation_at depth)) where
  branch_takes : (bytes : List ℕ) (x : Refutation × List ℕ) → branch_at (refutation_at depth) bytes ≡ Some x →
      Shallow (suc depth) x.0 × (bytes ≡ refutation_text x.0 ++ x.1)
  unfolding branch_at
  branch_takes bytes x e =
      let a = bind_is (tag_at (codes "branch ") bytes) _ x e in
      let b = bind_is (number_at 32 max_count a.0) _ x a.2 in
      let c = bind_is (number_at 32 max_thing b.0.1) _ x b.2 in
      let d = bind_is (signed_at 10 (2 ^ 63) (2 ^ 63 - 1) c.0.1) _ x c.2 in
      let l = bind_is (list_at derived_at b.0.0 d.0.1) _ x d.2 in
      let p = bind_is (refutation_at depth l.0.1) _ x l.2 in
      let q = bind_is (refutation_at depth p.0.1) _ x p.2 in
      let n = (counts 32 (omega arith)).takes a.0 b.0 b.1 in
      let column = (things 32 (omega arith)).takes b.0.1 c.0 c.1 in
      let z = (longs 10 (omega arith)).takes c.0.1 d.0 d.1 in
      let ds = (lists IsDerived derived_text derived_at deriveds b.0.0).takes d.0.1 l.0 l.1 in
      let low = one.takes l.0.1 p.0 p.1 in
      let high = one.takes p.0.1 q.0 q.1 in
      let both = refutation_text p.0.0 ++ refutation_text q.0.0 in
      let rows = flat_map derived_text l.0.0 ++ both in
      let bound = signed_last d.0.0 ++ rows in
      let named = item c.0.0 ++ bound in
      subst (λ (y : Refutation × List ℕ). Shallow (suc depth) y.0 × (bytes ≡ refutation_text y.0 ++ y.1))
      (some_is (branch l.0.0 c.0.0 d.0.0 p.0.0 q.0.0, q.0.1) x q.2) (
        (omega (arith, max-le low.0.0 high.0.0), ((omega (arith, n.0, ds.0.0), ds.0.1), column.0, z.0, low.0.1, high.0.1)),
        glue bytes (codes "branch ") a.0 (item (length l.0.0) ++ named) q.0.1 (tag_takes (codes "branch ") bytes a.0 a.1)
            (glue a.0 (item (length l.0.0)) b.0.1 named q.0.1 (n.1 ∙ ap (λ k. item k ++ b.0.1) (sym ds.0.0))
            (glue b.0.1 (item c.0.0) c.0.1 bound q.0.1 column.1
            (glue c.0.1 (signed_last d.0.0) d.0.1 rows q.0.1 z.1
            (glue d.0.1 (flat_map derived_text l.0.0) l.0.1 both q.0.1 ds.1
            (glue l.0.1 (refutation_text p.0.0) p.0.1 (refutation_text q.0.0) q.0.1 low.1 high.1))))),
      )

  branch_again : (ds : List Derived) (x : ℕ) (at : ℤ) (low high : Refutation) (rest : List ℕ) →
      Shallow (suc depth) (branch ds x at low high) →
      branch_at (refutation_at depth) (refutation_text (branch ds x at low high) ++ rest) ≡ Some (branch ds x at low high, rest)
  unfolding branch_at
  branch_again ds x at low high rest h =
      let both = refutation_text low ++ refutation_text high in
      let rows = flat_map derived_text ds ++ both in
      let bound = signed_last at ++ rows in
      let named = item x ++ bound in
      let shallow_low : nesting low ≤ depth = omega (arith, h.0, le-max_left (nesting low) (nesting high)) in
      let shallow_high : nesting high ≤ depth = omega (arith, h.0, le-max_right (nesting low) (nesting high)) in
      bind_again (tag_at (codes "branch ") (refutation_text (branch ds x at low high) ++ rest)) _ ((item (length ds) ++ named) ++ rest)
      (tag_then (codes "branch ") (item (length ds) ++ named) rest)
      ∙ bind_again (number_at 32 max_count ((item (length ds) ++ named) ++ rest)) _ (length ds, named ++ rest)
      (then_again (counts 32 (omega arith)) (length ds) named rest h.1.0.0)
      ∙ bind_again (number_at 32 max_thing (named ++ rest)) _ (x, bound ++ rest) (then_again (things 32 (omega arith)) x bound rest h.1.1)
      ∙ bind_again (signed_at 10 (2 ^ 63) (2 ^ 63 - 1) (bound ++ rest)) _ (at, rows ++ rest)
      (then_again (longs 10 (omega arith)) at rows rest h.1.2)
      ∙ bind_again (list_at derived_at (length ds) (rows ++ rest)) _ (ds, both ++ rest)
      (then_again (lists IsDerived derived_text derived_at deriveds (length ds)) ds both rest (refl, h.1.0.1))
      ∙ bind_again (refutation_at depth (both ++ rest)) _ (low, refutation_text high ++ rest)
      (then_again one low (refutation_text high) rest (shallow_low, h.1.3))
      ∙ bind_again (refutation_at depth (refutation_text high ++ rest)) _ (high, rest) (one.again high rest (shallow_high, h.1.4))

-- All

refutation_takes : (depth : ℕ) → Parses (Shallow depth) refutation_text (refutation_at depth) → (bytes : List ℕ) (x : Refutation × List ℕ) →
    refutation_at (suc depth) bytes ≡ Some x → Shallow (suc depth) x.0 × (bytes ≡ refutation_text x.0 ++ x.1)
unfolding refutation_at
refutation_takes depth one bytes x e = by_test (begins 98 bytes) e where
  by_test : (t : Bool) → (if t then branch_at (refutation_at depth) bytes else close_at bytes) ≡ Some x →
      Shallow (suc depth) x.0 × (bytes ≡ refutation_text x.0 ++ x.1)
  by_test true k = branch_takes depth one bytes x k
  by_test false k = close_takes (suc depth) bytes x k

refutation_again : (depth : ℕ) → Parses (Shallow depth) refutation_text (refutation_at depth) → (c : Refutation) (rest : List ℕ) →
    Shallow (suc depth) c → refutation_at (suc depth) (refutation_text c ++ rest) ≡ Some (c, rest)
unfolding refutation_at
refutation_again depth one (close ds) rest h = close_again ds rest h.1
refutation_again depth one (branch ds x at low high) rest h = branch_again depth one ds x at low high rest h

no_depth_takes : (bytes : List ℕ) (x : Refutation × List ℕ) → refutation_at 0 bytes ≡ Some x →
    Shallow 0 x.0 × (bytes ≡ refutation_text x.0 ++ x.1)
unfolding refutation_at
no_depth_takes bytes x e = close_takes 0 bytes x e

no_depth_again : (c : Refutation) (rest : List ℕ) → Shallow 0 c → refutation_at 0 (refutation_text c ++ rest) ≡ Some (c, rest)
unfolding refutation_at
no_depth_again (close ds) rest h = close_again ds rest h.1
no_depth_again (branch ds x at low high) rest h = absurd (omega (arith, h.0))

refutations : (depth : ℕ) → Parses (Shallow depth) refutation_text (refutation_at depth)
refutations zero = record { takes = no_depth_takes; again = no_depth_again }
refutations (suc depth) = record {
  takes = refutation_takes depth (refutations depth);
  again = refutation_again depth (refutations depth);
}

pub certificates : Parses IsCertificate refutation_text certificate_at
unfolding certificate_at
certificates = refutations max_nesting
