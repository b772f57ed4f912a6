use Rattle.std.proofs.Common.{Some, sym, ◌∙◌, arith}
use Rattle.board_lock.proofs.Between.{rests_as}
use Rattle.board_lock.proofs.Keeps.{try_keeps, has_won, has_slot}
use Rattle.board_lock.proofs.lock.BoardLock.hold.Goals as goal

pub compare_exchange-found-requires : goal.compare_exchange-found-requires
compare_exchange-found-requires g c =
    let token = c.loop.seat-inside.token in
    let v = c.args.seat.now.view in (
      c.loop.invariant.lock ∙ (c.requires.lock ∙ sym c.self.view_is),
      omega (arith, c.self.invariant.0),
      rw (c.self.invariant.1, rests_as token.me v c.loop.invariant.seated c.loop.invariant.view c.requires.rests)
          (try_keeps g.B.Chronicle.program g.B.Chronicle.events token.id v.program v.seen v.heard v.places),
    )

pub exchange-requires : goal.exchange-requires
exchange-requires g c =
    let token = c.loop.seat-inside.token in
    let e = c.compare_exchange-found.ensures in
    let won = has_won g.B.Chronicle.program g.B.Chronicle.events token.me c.compare_exchange-found.new.seat.me
    c.compare_exchange-found.result
    e.2 c.if-found-eq0.true in (
      e.0 ∙ (c.loop.invariant.lock ∙ (c.requires.lock ∙ sym c.self.view_is)),
      (Some won.0, has_slot c.compare_exchange-found.new.seat.me _ (0, Some won.0) won.1),
    )
