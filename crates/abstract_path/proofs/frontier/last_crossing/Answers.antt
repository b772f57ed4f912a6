use Rattle.std.proofs.Common.{take, true, false, Some, sym, ap, ◌∙◌, arith, slice_index_or}
use Rattle.std.proofs.lemmas.List.{take_more, take_all, length-take-le}
use Rattle.abstract_path.specs.Routes.{last_crossing}
use Rattle.abstract_path.proofs.Walked.{crossing_more}
use Rattle.abstract_path.proofs.frontier.last_crossing.Goals as goal
use Rattle.abstract_path.proofs.frontier.last_crossing.Goals.{then-leaves, else-leaves}

pub loop-place-preserved : goal.loop-place-preserved
loop-place-preserved c =
    let edges = c.args.edges.now in let marked = c.args.marked.now in let path = c.args.path.now in
    let i = c.loop-place.place in
    let n = slice_index_or path i 0 in
    let more = ap (last_crossing edges marked) (take_more path i 0 c.loop-place-test.true) in
    elim c.if-leaves.branch [
      | then-leaves w ↦ rw w.last-is (more
          ∙ crossing_more edges marked n (take i path) true (sym c.leaves.ensures ∙ w.if-leaves.true) c.loop-place.last
          c.loop-place.invariant
          ∙ ap (λ k. Some k) (length-take-le i path (omega (arith, c.loop-place-test.true))))
      | else-leaves w ↦ rw w.last-is (more
          ∙ crossing_more edges marked n (take i path) false (sym c.leaves.ensures ∙ w.if-leaves.false) c.loop-place.last
          c.loop-place.invariant)
    ]

pub returns : goal.returns
returns c =
    sym c.loop-place.invariant ∙ ap (last_crossing c.args.edges.now c.args.marked.now) (take_all c.loop-place.place c.args.path.now
    (omega (arith, c.loop-place-test.false)))
