use Rattle.std.proofs.Common.{◌≡◌, false, refl, sym, ap, ◌∙◌, arith}
use Rattle.std.specs.Prelude.{not, vec_capacity}
use Rattle.query_tree.specs.Forest.{has_live}
use Rattle.bolt_core.specs.Boards.{Shown}
use Rattle.bolt_core.specs.contracts.board.Board.{the_view}
use Rattle.bolt_core.proofs.Going.{roomy_event, said_stays, told_length}
use Rattle.bolt_core.proofs.Parking.{stop_on}
use Rattle.bolt_core.proofs.Tracing.{traced_quiet}
use Rattle.bolt_core.proofs.board.Board.stop.Goals as goal

pub push_reserved-requires : goal.push_reserved-requires
push_reserved-requires c =
    let b = c.self.inside in
    let p : Shown = the_view b in
    let over : not (has_live b.forest.entries) ≡ false =
    ap (λ (v : Shown). not (has_live v.core.entries)) c.self.view_is ∙ (sym c.over.ensures ∙ c.if-over.false) in
    let g = stop_on p b.forest.entries b.slots.items b.table.summaries b.events.items b.stopped c.args.worker c.self.invariant.0
    c.if-self.false over in
    omega (arith, g.fits, c.self.invariant.1.happened, b.events.ok.0, told_length b.slots.items b.table.summaries b.events.items)

pub invariant_of-self : goal.invariant_of-self
invariant_of-self c =
    let b = c.self.inside in
    let p : Shown = the_view b in
    let over : not (has_live b.forest.entries) ≡ false =
    ap (λ (v : Shown). not (has_live v.core.entries)) c.self.view_is ∙ (sym c.over.ensures ∙ c.if-over.false) in
    let g = stop_on p b.forest.entries b.slots.items b.table.summaries b.events.items b.stopped c.args.worker c.self.invariant.0
    c.if-self.false over in
    rw c.push_reserved.ensures.items (
      g.board,
      roomy_event p _ b.slots.items b.events.items _ _ _ _ _ _ _ c.self.invariant.1 refl refl tt refl c.push_reserved.ensures.capacity
          (said_stays p _ _ g (λ i. refl)),
      traced_quiet p c.self.invariant.0 _ _ g b.origins.items (vec_capacity b.origins) c.self.invariant.2 refl refl,
    )
