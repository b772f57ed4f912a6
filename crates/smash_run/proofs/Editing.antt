-- What an edit answers, put together.
use Rattle.std.proofs.Common.{◌≡◌, ℕ, ◌-◌, ◌++◌, List, [], drop, length, take, Some, ap, subst, sym, ◌∙◌}
use Rattle.std.proofs.Math.Seq.{take-length}
use Rattle.std.proofs.lemmas.List.{length-drop}
use Rattle.c_tree.specs.Syntax.{PureProgram}
use Rattle.summary_form.specs.declared.summary.Summary.{Summary}
use Rattle.bolt_core.specs.Boards.{Shown}
use Rattle.bolt_core.specs.declared.job.Verdict.{Verdict}
use Rattle.report_text.specs.Edits.{kept_line}
use Rattle.report_text.specs.Report.{report_of}
use Rattle.smash_run.specs.Analysis.{IsAnalysis, IsBoardOf, Witness, board_alone}
use Rattle.smash_run.specs.Asked.{status_of}
use Rattle.smash_run.specs.Edited.{IsEdited}
use Rattle.smash_run.specs.steps.Handing.{IsEditedFrom}
use Rattle.smash_run.specs.steps.Judging.{IsKept}

module _ (P Q : PureProgram) (old : Shown) (budget : ℕ) where
  pub edited_from : (summaries : List Summary) → IsKept P Q old summaries → (board : Shown) (vs : List Verdict) →
      IsAnalysis Q budget summaries board vs → (status count all : ℕ) (text : List ℕ) (w : Witness) → status ≡ status_of vs →
      count ≡ length summaries → all ≡ length old.core.table → text ≡ report_of Q.asserts vs ++ kept_line count all →
      w ≡ board_alone board → IsEditedFrom P Q old budget status text w
  edited_from summaries k board vs judged status count all text w ended few many told handed = record {
    procs = k.procs;
    asserts = k.asserts;
    matching = k.matching;
    board = board;
    verdicts = vs;
    judged = subst (λ ss. IsAnalysis Q budget ss board vs) k.are judged;
    ended = ended;
    told = told ∙ (ap (λ n. report_of Q.asserts vs ++ kept_line n all) (few ∙ ap length (sym judged.board.began))
        ∙ ap (λ n. report_of Q.asserts vs ++ kept_line (length board.core.kept) n) many);
    handed = handed;
  }

  pub edited : IsBoardOf P budget [] old → (status other : ℕ) (text same : List ℕ) (w both : Witness) →
      IsEditedFrom P Q old budget status text w → other ≡ status → same ≡ text → both ≡ record w { old = Some old } →
      IsEdited P Q budget other same both
  edited is status other text same w both k status_is text_is both_is = record {
    old = old;
    old_is = is;
    procs = k.procs;
    asserts = k.asserts;
    matching = k.matching;
    board = k.board;
    verdicts = k.verdicts;
    judged = k.judged;
    ended = status_is ∙ k.ended;
    told = text_is ∙ k.told;
    handed = both_is ∙ ap (λ (x : Witness). record x { old = Some old }) k.handed;
  }

-- all bytes after the first ones
pub all_behind : (n : ℕ) (xs : List ℕ) → take (length xs - n) (drop n xs) ≡ drop n xs
all_behind n xs = ap (λ k. take k (drop n xs)) (sym (length-drop n xs)) ∙ take-length (drop n xs)
