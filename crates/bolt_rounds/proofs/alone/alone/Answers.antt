use Rattle.std.proofs.Common.{◌++◌, refl, sym, ap, ◌∙◌, List}
use Rattle.summary_form.specs.declared.summary.Summary.{Summary}
use Rattle.bolt_core.specs.Histories.{Told, has_said}
use Rattle.bolt_rounds.proofs.Turning.{begun_going, none_back}
use Rattle.bolt_rounds.proofs.alone.alone.Goals as goal

pub loop-board-init : goal.loop-board-init
loop-board-init c =
    let b = c.args.board in
    record {
      same = record { graphs = refl; main = refl; asserts = refl; budget = refl; kept = refl };
      back = none_back b.core c.requires;
      said = λ i. ap (λ (l : List Told). has_said l i) c.requires;
      going = begun_going b c.reached.ensures c.requires;
      room = c.in_ok-known.ensures.room ∙ c.room.ensures.room;
      front = record { rest = b.core.table; is = ap (λ (l : List Summary). l ++ b.core.table) (sym c.in_ok-known.ensures.none) };
    }
