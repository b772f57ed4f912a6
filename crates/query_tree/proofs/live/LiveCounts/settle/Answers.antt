use Rattle.query_tree.proofs.Counting.{may_at, settled_some, settled_none}
use Rattle.query_tree.proofs.live.LiveCounts.settle.Goals as goal

pub moved-requires : goal.moved-requires
moved-requires c = may_at _ _ c.args.parent c.args.was c.args.now c.in-Some.p c.index.result.now c.self.view_is c.requires c.in-Some.is
    c.index.ensures

pub returns-in-Some : goal.returns-in-Some
returns-in-Some c = settled_some _ _ c.args.parent c.args.was c.args.now c.in-Some.p c.index.result.now c.moved.result
    c.moved-self-inside.result c.self.view_is c.requires c.in-Some.is c.index.ensures c.moved.ensures c.moved-self-inside.ensures

pub returns-in_default : goal.returns-in_default
returns-in_default c = settled_none _ _ c.args.parent c.args.was c.args.now c.moved-self-inside.result c.self.view_is c.in_default.is
    c.moved-self-inside.ensures
