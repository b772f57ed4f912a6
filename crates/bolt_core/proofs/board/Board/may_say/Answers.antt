use Rattle.std.proofs.Common.{◌<◌, length, sym, subst, arith}
use Rattle.bolt_core.specs.Boards.{MayBeSaid, Shown}
use Rattle.bolt_core.specs.contracts.board.Board.{the_view}
use Rattle.bolt_core.proofs.Saying.{may_not_say, may_say, slot_here}
use Rattle.bolt_core.proofs.board.Board.may_say.Goals as goal

pub index-requires : goal.index-requires
index-requires c =
    let b = c.self.inside in
    let p : Shown = the_view b in
    let i = c.args.id in
    let lt : i < length b.forest.entries = subst (λ (x : Shown). i < length x.core.entries) (sym c.self.view_is) c.requires in
    omega (
      arith,
      slot_here p b.forest.entries b.slots.items b.table.summaries b.events.items b.stopped c.self.invariant.0 _ _ _ _ c.self.invariant.1 i
          lt,
      b.slots.ok.0,
    )

pub returns-then-is_none-clause-yes : goal.returns-then-is_none-clause-yes
returns-then-is_none-clause-yes c =
    let b = c.self.inside in
    let p : Shown = the_view b in
    let i = c.args.id in
    let lt : i < length b.forest.entries = subst (λ (x : Shown). i < length x.core.entries) (sym c.self.view_is) c.requires in
    λ fresh. subst (λ (x : Shown). MayBeSaid x i) c.self.view_is
    (may_say p b.forest.entries b.slots.items b.table.summaries b.events.items b.stopped c.self.invariant.0 _ _ _ _ c.self.invariant.1 i lt
    c.index.result.now c.index.ensures c.payload.result c.if-is_none.ensures c.payload.ensures c.in-Dropped.stamp c.in-Dropped.ensures
    fresh)

pub returns-then-is_none-clause-no : goal.returns-then-is_none-clause-no
returns-then-is_none-clause-no c =
    let b = c.self.inside in
    let p : Shown = the_view b in
    let i = c.args.id in
    let lt : i < length b.forest.entries = subst (λ (x : Shown). i < length x.core.entries) (sym c.self.view_is) c.requires in
    λ told m. may_not_say p b.forest.entries b.slots.items b.table.summaries b.events.items b.stopped c.self.invariant.0 _ _ _ _
    c.self.invariant.1 i lt c.index.result.now c.index.ensures told (subst (λ (x : Shown). MayBeSaid x i) (sym c.self.view_is) m)
