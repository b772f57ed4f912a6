use Rattle.std.proofs.Common.{◌≡◌, refl, ◌∙◌, [], ◌∷◌, Some}
use Rattle.board_lock.proofs.Keeps.{opening_keeps}
use Rattle.board_lock.proofs.lock.BoardLock.new.Goals as goal

pub new-requires : goal.new-requires
new-requires g c =
    let items : c.push_reserved.new.self.items ≡ Some c.args.board ∷ [] = c.push_reserved.ensures.items ∙ rw c.in_ok-slots.ensures.items
    refl
    in
    rw (c.of-opened.ensures, items) (opening_keeps g.B.Chronicle.program g.B.Chronicle.events c.args.board c.count-count.result
    c.count-count.ensures)
