use Rattle.std.proofs.Common.{◌≡◌, ◌+◌, ◌++◌, ◌∷◌, [], suc, List, length, length-append, append_assoc, take, arith, sym, ap, subst, ◌∙◌}
use Rattle.std.specs.Prelude.{flat_map}
use Rattle.std.proofs.lemmas.Result.{IfOk-weaker}
use Rattle.std.proofs.lemmas.List.{take_all}
use Rattle.std.proofs.Math.Seq.{take-suc}
use Rattle.linear_formula.specs.declared.extremes.ExtremePair.{ExtremePair}
use Rattle.linear_formula.specs.declared.extremes.Outline.{Outline}
use Rattle.linear_formula.specs.declared.formula.Atom.{Atom}
use Rattle.linear_formula.specs.steps.Outlines.{older_of, pairs_of, ArePairs, Outlines}
use Rattle.linear_formula.proofs.extremes.Outline.with.Goals as goal

pub loop-atom-preserved : goal.loop-atom-preserved
loop-atom-preserved c = λ all h.
    let i = c.loop-atom.atom-index in
    let more = c.args.more.now in
    let a = c.atom-item.result in
    let older = flat_map (λ (ps : List ExtremePair). ps) (older_of c.args.self.now) in
    let known = c.loop-atom.invariant all h in
    let step : suc i ≡ i + 1 = omega arith in
    let next : take i more ++ a ∷ [] ≡ take (i + 1) more =
    ap (λ x. take i more ++ x ∷ []) c.atom-item.is ∙ sym (take-suc more i a c.loop-atom-test.true) ∙ ap (λ n. take n more) step in
    let whole : (all ++ take i more) ++ a ∷ [] ≡ all ++ take (i + 1) more =
    append_assoc all (take i more) (a ∷ []) ∙ ap (λ l. all ++ l) next in
    let pairs = c.in_ok-take_in.ensures older (all ++ take i more) known.0 known.1 in (
      omega (arith, known.0, c.in-Some.ensures, length-append (all ++ take i more) (a ∷ []), ap (λ (l : List Atom). length l) whole),
      subst (λ (l : List Atom). ArePairs (older ++ c.take_in.new.pairs.items) l) whole pairs,
    )

pub returns : goal.returns
returns c =
    let i = c.loop-atom.atom-index in
    let more = c.args.more.now in
    let all_taken : take i more ≡ more = take_all i more c.loop-atom-test.false in
    let older = flat_map (λ (ps : List ExtremePair). ps) (older_of c.args.self.now) in
    let made : (o : Outline) → (pairs_of o ≡ older ++ c.loop-atom.pairs.items) × (o.count ≡ c.loop-atom.count) →
    (all : List Atom) → Outlines c.args.self.now all → Outlines o (all ++ more) = λ o e all h.
    let known = c.loop-atom.invariant all h in
    let whole = ap (λ l. all ++ l) all_taken in
    record {
      count = e.1 ∙ known.0 ∙ ap (λ (l : List Atom). length l) whole;
      pairs = subst (λ (ps : List ExtremePair). ArePairs ps (all ++ more)) (sym e.0)
          (subst (λ (l : List Atom). ArePairs (older ++ c.loop-atom.pairs.items) l) whole known.1);
    } in
    IfOk-weaker c.renewed.result (λ o. (pairs_of o ≡ older ++ c.loop-atom.pairs.items) × (o.count ≡ c.loop-atom.count))
    (λ o. (all : List Atom) → Outlines c.args.self.now all → Outlines o (all ++ more)) made c.renewed.ensures
