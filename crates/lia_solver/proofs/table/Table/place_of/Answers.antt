use Rattle.std.proofs.Common.{◌∙◌, ap}
use Rattle.lia_solver.specs.steps.Lines.{heads_of}
use Rattle.lia_solver.proofs.Chains.{chained-in}
use Rattle.lia_solver.proofs.TableEntries.{place-is}
use Rattle.lia_solver.proofs.table.Table.place_of.Goals as goal

pub find-requires-clause-chained : goal.find-requires-clause-chained
find-requires-clause-chained c =
    chained-in c.self.inside.parts.items c.deref-2.result.now c.self.inside.lines.items c.deref-3.result.now
    (heads_of c.self.inside.few c.self.inside.many.items) c.heads_of-heads.result.now c.chain_of.result c.hash_of-hash.result
    c.args.parts.now c.self.invariant c.deref-2.ensures.value c.deref-3.ensures.value
    (c.heads_of-heads.ensures ∙ ap (heads_of c.self.inside.few) c.deref.ensures.value) c.hash_of-hash.ensures
    c.chain_of.ensures.value

pub returns : goal.returns
returns c =
    place-is c.args.parts.now c.self.inside.parts.items c.deref-2.result.now c.self.inside.lines.items c.deref-3.result.now c.args.self.now
    c.find.result
    c.deref-2.ensures.value c.deref-3.ensures.value c.self.view_is c.find.ensures
