use Rattle.std.proofs.Common.{◌≡◌, ◌+◌, suc, List, length, Some, None, sym, ap, ◌∙◌, subst, arith}
use Rattle.std.specs.Prelude.{slice_get}
use Rattle.query_rules.specs.Seen.{Seen}
use Rattle.query_rules.specs.Steps.{updated, with_child}
use Rattle.query_rules.specs.declared.step.Asked.{Asked}
use Rattle.bolt_core.specs.Boards.{CanHear, Shown, news_at}
use Rattle.bolt_core.specs.Lawful.{MayTell}
use Rattle.bolt_core.specs.States.{IsStateFor, reads}
use Rattle.bolt_core.proofs.JobsTaken.{entry_next, hear_next, may_next, pass_next, tells_by, told_upto}
use Rattle.bolt_core.proofs.board.Board.hear.Goals as goal
use Rattle.bolt_core.proofs.board.Board.hear.Goals.{in-Some, in_default}

pub tell-requires-clause-tells : goal.tell-requires-clause-tells
tell-requires-clause-tells c =
    let p : Shown = c.args.self.now in
    let s : Seen = c.args.state.now in
    let l = c.loop-number in
    let a : Asked = c.index-asked-number.result in
    let h : CanHear p s = c.requires in
    let at : slice_get s.asked l.number ≡ Some a = entry_next p.core s l.number a l.state c.asked.result.now l.invariant.told
    c.asked.ensures (omega (arith, c.loop-number-test.true, ap (λ (xs : List Asked). length xs) c.asked-number-end.ensures))
    c.index-asked-number.is in
    let is : news_at p.core a.child ≡ Some c.in-Some.news =
    ap (λ (x : Asked). news_at p.core x.child) c.index-asked-number.is ∙ (sym c.news_of.ensures ∙ c.in-Some.is) in
    tells_by p.graphs p.core.table l.state l.number c.in-Some.news l.invariant.state
    (subst (λ (x : Seen). MayTell (reads p.graphs) x l.number c.in-Some.news) (sym l.invariant.told)
    (may_next p s h l.number a c.in-Some.news at is))

pub loop-number-preserved : goal.loop-number-preserved
loop-number-preserved c =
    let p : Shown = c.args.self.now in
    let s : Seen = c.args.state.now in
    let l = c.loop-number in
    let a : Asked = c.index-asked-number.result in
    let h : CanHear p s = c.requires in
    let at : slice_get s.asked l.number ≡ Some a = entry_next p.core s l.number a l.state c.asked.result.now l.invariant.told
    c.asked.ensures (omega (arith, c.loop-number-test.true, ap (λ (xs : List Asked). length xs) c.asked-number-end.ensures))
    c.index-asked-number.is in
    let next : suc l.number ≡ l.number + 1 = omega arith in
    elim c.match-news_of.branch [
      | in-Some w ↦
          let is : news_at p.core a.child ≡ Some w.in-Some.news =
          ap (λ (x : Asked). news_at p.core x.child) c.index-asked-number.is ∙ (sym c.news_of.ensures ∙ w.in-Some.is) in
          let n = hear_next p s h l.number a w.in-Some.news l.state at is l.invariant.told l.invariant.state in
          let v : c.match-news_of.state ≡ record l.state { asked = updated (with_child a.child w.in-Some.news) l.state.asked l.number } =
          w.state-is ∙ (w.tell.ensures.seen
          ∙ ap (λ (x : Asked). record l.state { asked = updated (with_child x.child w.in-Some.news) l.state.asked l.number })
          (sym c.index-asked-number.is)) in
          record {
            told = subst (λ m. c.match-news_of.state ≡ told_upto p.core m s) next (v ∙ n.0);
            state = subst (IsStateFor p.graphs p.core.table) (sym v) n.1;
          }
      | in_default w ↦
          let is : news_at p.core a.child ≡ None =
          ap (λ (x : Asked). news_at p.core x.child) c.index-asked-number.is ∙ (sym c.news_of.ensures ∙ w.in_default.is) in
          record {
            told = subst (λ m. c.match-news_of.state ≡ told_upto p.core m s) next
                (w.state-is ∙ pass_next p.core s l.number a l.state at is l.invariant.told);
            state = subst (IsStateFor p.graphs p.core.table) (sym w.state-is) l.invariant.state;
          }
    ]
