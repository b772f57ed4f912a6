use Rattle.std.proofs.Common.{◌≡◌, ◌<◌, length, Some, sym, ap, ◌∙◌, subst, ⊎_elim, arith}
use Rattle.std.specs.Prelude.{slice_get}
use Rattle.query_rules.specs.Seen.{Seen}
use Rattle.query_tree.proofs.Lists.{at_place}
use Rattle.bolt_core.specs.Boards.{Shown, core_of}
use Rattle.bolt_core.specs.Histories.{WasTaken}
use Rattle.bolt_core.specs.Keeps.{IsEnd, IsNow}
use Rattle.bolt_core.specs.Machine.{Core}
use Rattle.bolt_core.specs.contracts.board.Board.{the_view}
use Rattle.bolt_core.proofs.BoardKeeps.{board_keeps}
use Rattle.bolt_core.proofs.Ending.{is_now}
use Rattle.bolt_core.proofs.Going.{told_length}
use Rattle.bolt_core.proofs.Walk.{below, end_here, not_here}
use Rattle.bolt_core.proofs.board.Board.ended.Goals as goal

pub returns-then-is_end : goal.returns-then-is_end
returns-then-is_end c =
    let b = c.self.inside in
    let k = c.loop-place.place in
    let is = ap (λ (v : Shown). v.core) c.self.view_is in
    let event : slice_get b.events.items k ≡ Some c.index.result.now =
    at_place b.events.items k c.index.result.now (omega (arith, c.loop-place-test.true, c.len-place-end.ensures, b.events.ok.0))
    ∙ ap Some (sym c.index.ensures) in
    let here : c.args.id < length b.forest.entries = omega (arith, c.requires.here, ap (λ (m : Core Seen). length m.entries) is) in
    record {
      after = omega (arith, c.loop-place.auto.place);
      is_end = subst (λ (m : Core Seen). IsEnd m c.args.id k) is
          (end_here (the_view b).core.kept b.forest.entries b.slots.items b.table.summaries b.events.items b.stopped c.args.id k
          c.index.result.now event
          c.status-status.result here c.status-status.ensures (c.self.invariant.1.settled k c.index.result.now event)
          (sym c.is_end.ensures ∙ c.if-is_end.true));
      first = c.loop-place.invariant;
    }

pub loop-place-preserved : goal.loop-place-preserved
loop-place-preserved c j after before z =
    let b = c.self.inside in
    let k = c.loop-place.place in
    let is = ap (λ (v : Shown). v.core) c.self.view_is in
    let event : slice_get b.events.items k ≡ Some c.index.result.now =
    at_place b.events.items k c.index.result.now (omega (arith, c.loop-place-test.true, c.len-place-end.ensures, b.events.ok.0))
    ∙ ap Some (sym c.index.ensures) in
    let here : c.args.id < length b.forest.entries = omega (arith, c.requires.here, ap (λ (m : Core Seen). length m.entries) is) in
    ⊎_elim
    (λ lt. c.loop-place.invariant j after lt z)
    (λ same. not_here (the_view b).core.kept b.forest.entries b.slots.items b.table.summaries b.events.items b.stopped c.args.id k
    c.index.result.now event
    c.status-status.result here c.status-status.ensures (c.self.invariant.1.settled k c.index.result.now event)
    (sym c.is_end.ensures ∙ c.if-is_end.false)
    (subst (λ n. IsEnd (core_of (the_view b).core.kept b.forest.entries b.slots.items b.table.summaries b.events.items b.stopped) c.args.id
    n)
    same
    (subst (λ (m : Core Seen). IsEnd m c.args.id j) (sym is) z)))
    (below j k before)

pub returns : goal.returns
returns c =
    let b = c.self.inside in
    let v : Shown = the_view b in
    let is = ap (λ (v : Shown). v.core) c.self.view_is in
    subst (λ (m : Core Seen). IsNow m c.args.id c.args.taken) is
    (is_now v.core (board_keeps v c.self.invariant.0).ended c.args.id c.args.taken
    (subst (λ (m : Core Seen). WasTaken m.history c.args.id c.args.taken) (sym is) c.requires.taken)
    (λ j after before z. c.loop-place.invariant j after
    (omega (
      arith,
      before,
      told_length b.slots.items b.table.summaries b.events.items,
      c.loop-place-test.false,
      c.len-place-end.ensures,
      b.events.ok.0,
    ))
    (subst (λ (m : Core Seen). IsEnd m c.args.id j) is z)))
