use Rattle.std.proofs.Common.{◌≡◌, [], ◌∷◌, ◌++◌, Some, refl, sym, ◌∙◌, arith}
use Rattle.board_lock.specs.Views.{holding, added}
use Rattle.board_lock.proofs.Between.{same_lock, same_view, holds_as}
use Rattle.board_lock.proofs.Keeps.{count_keeps, release_keeps}
use Rattle.board_lock.proofs.lock.BoardLock.free.Goals as goal

pub store-requires : goal.store-requires
store-requires g c =
    let e = c.exchange-nothing.ensures in
    let v = c.args.seat.now.view in
    let holds = holds_as c.seat.inside.token.me v c.seat.invariant (same_view _ _ c.seat.view_is) c.requires.holds in
    let me : c.exchange-nothing.new.seat.me ≡ (holding v.program v.seen v.places, (0, Some c.args.board) ∷ []) = e.3 ∙ rw holds refl in (
      e.0 ∙ (same_lock _ _ c.seat.view_is ∙ (c.requires.lock ∙ sym c.self.view_is)),
      omega (arith, c.self.invariant.0),
      rw (c.self.invariant.1, me) (count_keeps g.B.Chronicle.program g.B.Chronicle.events c.exchange-nothing.new.seat.id v.program v.seen
          v.places c.args.board c.count-count.result c.count-count.ensures c.requires.begins),
    )

pub store-requires-2 : goal.store-requires-2
store-requires-2 g c =
    let e = c.exchange-nothing.ensures in
    let f = c.store.ensures in
    let v = c.args.seat.now.view in
    let h = g.B.Chronicle.events c.args.board in
    let ps = v.places ++ added v.seen h in
    let holds = holds_as c.seat.inside.token.me v c.seat.invariant (same_view _ _ c.seat.view_is) c.requires.holds in
    let me : c.exchange-nothing.new.seat.me ≡ (holding v.program v.seen v.places, (0, Some c.args.board) ∷ []) = e.3 ∙ rw holds refl in
    let counted : c.store.new.seat.me ≡ (holding (Some (g.B.Chronicle.program c.args.board)) h ps, (0, Some c.args.board) ∷ []) = f.2
    ∙ rw (me, c.requires.program) refl in (
      f.0 ∙ (e.0 ∙ (same_lock _ _ c.seat.view_is ∙ (c.requires.lock ∙ sym c.self.view_is))),
      omega (arith, c.self.invariant.0),
      rw (c.self.invariant.1, counted) (release_keeps g.B.Chronicle.program g.B.Chronicle.events c.store.new.seat.id c.args.board ps),
    )
