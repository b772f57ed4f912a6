use Rattle.std.proofs.Common.{refl, sym, ◌∙◌, arith}
use Rattle.board_lock.proofs.Between.{same_lock, same_view, rests_as}
use Rattle.board_lock.proofs.Keeps.{join_keeps}
use Rattle.board_lock.proofs.lock.BoardLock.join.Goals as goal

pub join_seat-requires : goal.join_seat-requires
join_seat-requires g c =
    let token = c.seat.inside.token in
    let other = c.other.inside.token in
    let rests = rests_as token.me c.args.seat.now.view c.seat.invariant (same_view _ _ c.seat.view_is) c.requires.rests in
    let other_rests = rests_as other.me c.args.other.view c.other.invariant (same_view _ _ c.other.view_is) c.requires.other_rests in (
      same_lock _ _ c.seat.view_is ∙ (c.requires.lock ∙ sym c.self.view_is),
      same_lock _ _ c.other.view_is ∙ (c.requires.other_lock ∙ sym c.self.view_is),
      rw other_rests refl,
      omega (arith, c.self.invariant.0),
      join_keeps g.B.Chronicle.program g.B.Chronicle.events token.id token.me.0 other.id other.me.0 (rw rests refl) (rw other_rests refl),
    )
