-- What `bundle` answers, put together.
use Rattle.std.proofs.Common.{◌≡◌, ℕ, suc, false, List, [], subst, sym}
use Rattle.c_tree.specs.Syntax.{PureProgram}
use Rattle.c_tree.specs.WellFormed.{IsWellFormed}
use Rattle.flow_graph.specs.Columns.{AreAllValues}
use Rattle.bolt_core.specs.Boards.{Shown}
use Rattle.bolt_core.specs.Histories.{has_said}
use Rattle.smash_run.specs.Analysis.{IsBoardOf, Witness, board_alone}
use Rattle.smash_run.specs.Bundled.{IsBundled, TellsVerdict}
use Rattle.smash_run.specs.declared.bundles.Told.{Told}
use Rattle.smash_run.specs.steps.Handing.{IsTold}
use Rattle.smash_run.proofs.Judging.{judged}

pub bundled : (P : PureProgram) → IsWellFormed P → AreAllValues P.globals → (bytes : List ℕ) (number id budget : ℕ) → number ≡ suc id →
    (board : Shown) → IsBoardOf P budget [] board → ((i : ℕ) → has_said board.core.history i ≡ false) → (t : Told) →
    IsTold P board bytes id t → (status : ℕ) (text : List ℕ) (w : Witness) →
    status ≡ t.status → text ≡ t.text.items → w ≡ board_alone board → IsBundled P bytes number budget status text w
bundled P fine opening bytes number id budget counted board is unsaid t told status text w status_is text_is handed = record {
  id = id;
  counted = counted;
  place = told.place;
  at = told.at;
  board = board;
  board_is = is;
  unsaid = unsaid;
  handed = handed;
  verdict = told.verdict;
  right = judged P fine opening budget [] board is id told.verdict told.right;
  told = subst (λ n. TellsVerdict board bytes id told.place told.verdict n text) (sym status_is)
      (subst (TellsVerdict board bytes id told.place told.verdict t.status) (sym text_is) told.told);
}
