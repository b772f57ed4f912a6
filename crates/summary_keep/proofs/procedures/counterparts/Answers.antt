use Rattle.std.proofs.Common.{◌≡◌, ◌∷◌, [], ◌++◌, ap, sym, ◌∙◌, length, arith, length-append}
use Rattle.std.proofs.lemmas.List.{length-map}
use Rattle.c_tree.specs.View.{procedure_of}
use Rattle.c_tree.specs.Whole.{program_of}
use Rattle.summary_keep.proofs.Names.{one_more, all_named}
use Rattle.summary_keep.proofs.procedures.counterparts.Goals as goal

pub loop-place-preserved : goal.loop-place-preserved
loop-place-preserved c =
    let P = program_of c.args.old.now in
    let Q = program_of c.args.new.now in
    let e = c.in_ok-push.ensures.items in
    let l = length-append c.loop-place.numbers.items (c.counterpart.result ∷ []) in
    let k = c.loop-place.invariant.0 in
    let n : length c.push.new.self.items ≡ length (c.loop-place.numbers.items ++ c.counterpart.result ∷ []) = ap (λ xs. length xs) e in (
      omega (arith, n, l, k),
      one_more P Q c.loop-place.numbers.items c.push.new.self.items c.counterpart.result c.loop-place.place k e
          c.loop-place.invariant.1 c.counterpart.ensures,
    )

pub returns : goal.returns
returns c =
    let a = c.loop-place-test.false in
    let b = c.len-place-end.ensures in
    let d = c.loop-place.auto.place-end in
    let l = length-map c.args.old.now.procedures.items procedure_of in
    let k = c.args.old.now.procedures.ok.0 in
    let i = c.loop-place.invariant.0 in
    let place : c.loop-place.place ≡ c.len-place-end.result = omega (arith, a, d) in
    all_named (program_of c.args.old.now) (program_of c.args.new.now) c.loop-place.numbers.items c.loop-place.place i
    (place ∙ (b ∙ (k ∙ sym l))) c.loop-place.invariant.1
