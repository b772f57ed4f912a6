use Rattle.std.proofs.Common.{◌+◌, ◌∙◌, sym, subst, take}
use Rattle.std.proofs.lemmas.List.{take_more}
use Rattle.may_partition.specs.declared.region.RegionEdge.{RegionEdge}
use Rattle.may_partition.proofs.Dividing.{AddsCopies, one_added}
use Rattle.may_partition.proofs.division.Division.add_all_copies.Goals as goal

pub loop-edge-preserved : goal.loop-edge-preserved
loop-edge-preserved c =
    let d = c.args.self.now in let i = c.loop-edge.edge-index in let divided = c.args.divided.now in
    let none : RegionEdge = record { edge = 0; from = 0; to = 0 } in
    let h : AddsCopies d c.args.edges.now.edges c.add_copies.new.edges.edges (take (i + 1) divided) =
    subst (AddsCopies d c.args.edges.now.edges c.add_copies.new.edges.edges) (sym (take_more divided i none c.loop-edge-test.true))
    (one_added d c.args.edges.now.edges c.loop-edge.edges.edges c.add_copies.new.edges.edges (take i divided) _ c.loop-edge.invariant.live
    c.in_ok-add_copies.ensures.live) in
    record {
      live = h;
      kept = record {
        count = c.add_copies.ensures.kept.count ∙ c.loop-edge.invariant.kept.count;
        edges = c.add_copies.ensures.kept.edges ∙ c.loop-edge.invariant.kept.edges;
      };
    }
