use Rattle.std.proofs.Common.{arith}
use Rattle.shadow_elim.proofs.Holding.{added-row, rank-within}
use Rattle.shadow_elim.proofs.lists.add_row.Goals as goal

pub index_mut-requires : goal.index_mut-requires
index_mut-requires c =
    omega (
      arith,
      rank-within c.args.columns.now c.args.lists.now.items c.rank-place.result c.args.row.term c.requires c.rank-place.ensures,
    )

pub returns : goal.returns
returns c =
    added-row c.args.columns.now c.args.lists.now.items c.rank-place.result c.args.row c.index_mut.result.now c.add.new.self c.add.result
    c.requires c.rank-place.ensures c.index_mut.ensures.value c.add.ensures.same c.add.ensures.among
