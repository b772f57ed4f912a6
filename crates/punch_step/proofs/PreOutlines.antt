-- The extreme rows of a preimage, and what they tell with those of a source.
use Rattle.std.proofs.Common.{◌≡◌, ℕ, zero, suc, ◌+◌, ◌-◌, false, List, [], ◌∷◌, ◌++◌, length, None, Some, arith, refl, sym, ap, subst, ◌∙◌}
use Rattle.std.specs.Prelude.{ℤ, slice_get}
use Rattle.std.specs.List.{range_with_len}
use Rattle.linear_formula.specs.LinearSum.{Valuation, valuation}
use Rattle.linear_formula.specs.Formula.{Holds, HoldsAll}
use Rattle.linear_formula.specs.Extremes.{AreExtremes, HaveNumbers, IsOutline}
use Rattle.linear_formula.specs.declared.formula.Atom.{Atom}
use Rattle.linear_formula.specs.declared.formula.Cube.{Cube}
use Rattle.linear_formula.specs.declared.extremes.Extremes.{Extremes}
use Rattle.linear_formula.proofs.ExtremeRows.{extremes-hold}
use Rattle.linear_formula.proofs.JoinedRows.{holds_both, holds_parts}
use Rattle.flow_graph.specs.declared.graph.Edge.{Edge}
use Rattle.flow_graph.specs.declared.graph.Edge.TheVariants.{Entry, Assign, Guard, Input, Pick, Call, Assert, Return}
use Rattle.flow_graph.specs.Shapes.{is_call}
use Rattle.weakest_pre.proofs.PreExtremes.{KeepsColumns, pre-extremes}
use Rattle.query_rules.specs.Crossings.{pre_columns}
use Rattle.query_rules.specs.Rows.{IsPreimage}
use Rattle.punch_step.specs.ByExtremes.{HasPoint, IsPreOutline, IsTold, IsToldOf}
use Rattle.punch_step.specs.Frontiers.{CanGo}
use Rattle.punch_step.specs.declared.plain.Frontier.{Frontier}
use Rattle.punch_step.specs.declared.by_extremes.Told.{Told}
use Rattle.punch_step.specs.declared.by_extremes.Told.TheVariants as told

-- Numbers after others

-- one more
pub range_more : (a n : ℕ) → range_with_len a n ++ (a + n) ∷ [] ≡ range_with_len a (n + 1)
range_more a n = let e : suc n ≡ n + 1 = omega arith in one_more a n ∙ ap (range_with_len a) e where
  one_more : (a n : ℕ) → range_with_len a n ++ (a + n) ∷ [] ≡ range_with_len a (suc n)
  one_more a zero = ap (λ m. m ∷ []) (omega arith)
  one_more a (suc n) =
      let e : a + suc n ≡ a + 1 + n = omega arith in
      ap (λ ms. a ∷ ms) (ap (λ m. range_with_len (a + 1) n ++ m ∷ []) e ∙ one_more (a + 1) n)

-- as many as rows
pub as_many : (ns : List ℕ) (rows all : List Atom) → HaveNumbers ns rows all → length ns ≡ length rows
as_many [] [] all h = refl
as_many [] (a ∷ rows) all h = absurd h
as_many (n ∷ ns) [] all h = absurd h
as_many (n ∷ ns) (a ∷ rows) all h = ap suc (as_many ns rows all h.1)

-- The preimage

-- an edge without columns of its own, which is no call, eliminates none
pub keeps_columns : (edge : Edge) → is_call edge ≡ false → pre_columns edge ≡ [] → KeepsColumns edge
keeps_columns (Entry to params) h e = tt
keeps_columns (Assign from to slot value) h e = tt
keeps_columns (Guard from to rows) h e = tt
keeps_columns (Input from to slot) h e = absurd cc
keeps_columns (Pick from to slot rows) h e = absurd cc
keeps_columns (Call from to proc args results) h e = absurd cc
keeps_columns (Assert from to id rows) h e = tt
keeps_columns (Return from to slots) h e = tt

-- by the numbers of the target's extreme rows, and those after all
pub is_pre_outline : (f : Frontier) (target e : Extremes) → CanGo f → IsOutline target f.target.now.atoms →
    pre_columns f.edge.now ≡ [] → IsPreimage f.edge.now target.cube.atoms e.cube.atoms →
    e.numbers.items ≡ target.numbers.items ++ range_with_len target.count (length e.cube.atoms - length target.numbers.items) →
    e.count ≡ target.count + (length e.cube.atoms - length target.numbers.items) → IsPreOutline f e
is_pre_outline f target e can o none p ns c =
    let all = f.target.now.atoms in
    let pre = e.cube.atoms in
    let same : length target.numbers.items ≡ length target.cube.atoms =
    as_many target.numbers.items target.cube.atoms all o.extremes.numbered in
    let w = pre-extremes f.edge.now target.numbers.items target.cube.atoms all pre p.0
    (keeps_columns f.edge.now can.no_call none) o.extremes p.1 in
    let numbers : target.numbers.items ++ range_with_len (length all) (length pre - length target.cube.atoms) ≡ e.numbers.items =
    sym (ns ∙ ap (λ (n : ℕ). target.numbers.items ++ range_with_len n (length pre - length target.numbers.items)) o.count
    ∙ ap (λ (n : ℕ). target.numbers.items ++ range_with_len (length all) (length pre - n)) same) in (
      w.0,
      (None, w.1),
      record {
        count = c ∙ ap (λ (n : ℕ). n + (length pre - length target.numbers.items)) o.count
            ∙ ap (λ (n : ℕ). length all + (length pre - n)) same ∙ sym w.3;
        extremes = subst (λ (l : List ℕ). AreExtremes l pre w.0) numbers w.4;
      },
    )

-- What holds of all rows holds of the extreme ones

holds_at : (v : Valuation) (all : List Atom) (n : ℕ) (a : Atom) → slice_get all n ≡ Some a → HoldsAll v all → Holds v a
holds_at v [] n a h k = absurd cc
holds_at v (b ∷ all) zero a h k = let e : b ≡ a = cc in subst (Holds v) e k.0
holds_at v (b ∷ all) (suc n) a h k = holds_at v all n a h k.1

pub extremes_met : (v : Valuation) (ns : List ℕ) (rows all : List Atom) → HaveNumbers ns rows all → HoldsAll v all → HoldsAll v rows
extremes_met v [] [] all h k = tt
extremes_met v [] (a ∷ rows) all h k = absurd h
extremes_met v (n ∷ ns) [] all h k = absurd h
extremes_met v (n ∷ ns) (a ∷ rows) all h k = (holds_at v all n a h.0 k, extremes_met v ns rows all h.1 k)

-- What is said of both

-- the same rows
pub same_outline : (e d : Extremes) (all : List Atom) → d.cube ≡ e.cube → d.numbers.items ≡ e.numbers.items → d.count ≡ e.count →
    IsOutline e all → IsOutline d all
same_outline e d all q ns c h = record {
  count = c ∙ h.count;
  extremes = subst (λ (l : List ℕ). AreExtremes l d.cube.atoms all) (sym ns)
      (subst (λ (x : Cube). AreExtremes e.numbers.items x.atoms all) (sym q) h.extremes);
}

pub told_together : (source pre both : Extremes) (all more : List Atom) (t : Told) → IsOutline source all → IsOutline pre more →
    IsOutline both (all ++ more) → IsTold both.numbers.items both.count both.cube.atoms t →
    IsToldOf (source.cube.atoms ++ pre.cube.atoms) (all ++ more) t
told_together source pre both all more (told.Met at) s p b h =
    let v = valuation at in
    let parts = holds_parts v all more (extremes-hold v both.numbers.items both.cube.atoms (all ++ more) b.extremes h.1) in (
      h.0,
      holds_both v source.cube.atoms pre.cube.atoms
          (extremes_met v source.numbers.items source.cube.atoms all s.extremes.numbered parts.0)
          (extremes_met v pre.numbers.items pre.cube.atoms more p.extremes.numbered parts.1),
    )
told_together source pre both all more (told.Never proof) s p b h = h (all ++ more) b.extremes b.count
told_together source pre both all more told.Nothing s p b h = tt

-- something meets the extreme rows of both
pub possible_by : (f : Frontier) (source pre : Extremes) (at : List (ℕ × ℤ)) (rows : List Atom) →
    IsOutline source f.source.now.atoms → IsPreOutline f pre →
    ((all more : List Atom) → IsOutline source all → IsOutline pre more → IsToldOf rows (all ++ more) (told.Met at)) →
    HasPoint rows
possible_by f source pre at rows s p h =
    let r = h f.source.now.atoms p.0 s p.2 in
    record { point = valuation at; values = r.0; holds = r.1 }
