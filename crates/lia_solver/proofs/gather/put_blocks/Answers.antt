use Rattle.std.proofs.Common.{List, arith, subst}
use Rattle.std.specs.Prelude.{flat_map}
use Rattle.std.proofs.lemmas.List.{take_all}
use Rattle.linear_formula.specs.declared.formula.Atom.{Atom}
use Rattle.infeasible_cert.specs.Right.{rows_of}
use Rattle.lia_solver.specs.steps.Gathered.{ArePut}
use Rattle.lia_solver.specs.steps.Numbers.{numbered_from}
use Rattle.lia_solver.proofs.Putting.{block-fits, block-count, put-block}
use Rattle.lia_solver.proofs.gather.put_blocks.Goals as goal

pub put_atoms-requires-clause-numbers : goal.put_atoms-requires-clause-numbers
put_atoms-requires-clause-numbers c =
    block-fits c.args.blocks.now c.loop-block.block-index c.loop-block.next c.as_slice-atoms.result.now c.block-item.result
    c.loop-block-test.true c.block-item.is c.as_slice-atoms.ensures.value c.loop-block.invariant.0 c.requires

pub overflow_cast-next : goal.overflow_cast-next
overflow_cast-next c =
    let fits = block-fits c.args.blocks.now c.loop-block.block-index c.loop-block.next c.as_slice-atoms.result.now c.block-item.result
    c.loop-block-test.true c.block-item.is c.as_slice-atoms.ensures.value c.loop-block.invariant.0 c.requires in
    omega (arith, fits)

pub overflow_add-next : goal.overflow_add-next
overflow_add-next c =
    let fits = block-fits c.args.blocks.now c.loop-block.block-index c.loop-block.next c.as_slice-atoms.result.now c.block-item.result
    c.loop-block-test.true c.block-item.is c.as_slice-atoms.ensures.value c.loop-block.invariant.0 c.requires in
    omega (arith, fits)

pub loop-block-preserved : goal.loop-block-preserved
loop-block-preserved c =
    let blocks = c.args.blocks.now in let i = c.loop-block.block-index in let next = c.loop-block.next in
    let atoms = c.as_slice-atoms.result.now in let block = c.block-item.result in (
      block-count blocks i next atoms block c.loop-block-test.true c.block-item.is c.as_slice-atoms.ensures.value
          c.loop-block.invariant.0,
      put-block blocks i next atoms block c.args.table.now c.loop-block.table c.put_atoms.new.table c.loop-block-test.true
          c.block-item.is c.as_slice-atoms.ensures.value c.loop-block.invariant.0 c.loop-block.invariant.1 c.in_ok-put_atoms.ensures,
    )

pub returns-clause-rows : goal.returns-clause-rows
returns-clause-rows c =
    subst (λ (bs : List (List Atom)). ArePut (numbered_from 0 (rows_of (flat_map (λ b. b) bs))) c.args.table.now c.loop-block.table)
    (take_all c.loop-block.block-index c.args.blocks.now c.loop-block-test.false) c.loop-block.invariant.1
