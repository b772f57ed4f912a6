use Rattle.std.proofs.Common.{sym, ◌∙◌, arith}
use Rattle.board_lock.proofs.Between.{same_lock, same_view, rests_as}
use Rattle.board_lock.proofs.Keeps.{split_keeps}
use Rattle.board_lock.proofs.lock.BoardLock.split.Goals as goal

pub split_seat-token-requires : goal.split_seat-token-requires
split_seat-token-requires g c =
    let token = c.seat.inside.token in
    let v = c.args.seat.now.view in (
      same_lock _ _ c.seat.view_is ∙ (c.requires.lock ∙ sym c.self.view_is),
      omega (arith, c.self.invariant.0),
      rw (rests_as token.me v c.seat.invariant (same_view _ _ c.seat.view_is) c.requires.rests)
          (split_keeps g.B.Chronicle.program g.B.Chronicle.events token.id v.program v.seen v.heard v.places),
    )
