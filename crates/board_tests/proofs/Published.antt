-- A publish of what a gone job lets its worker publish.
use Rattle.std.proofs.Common.{ℕ, List, [], ◌∷◌, Option, refl, sym, subst, ⊎_elim}
use Rattle.summary_form.specs.declared.summary.Summary.{Summary}
use Rattle.summary_table.specs.Tables.{Listed}
use Rattle.bolt_core.specs.declared.job.Job.{Job as Given}
use Rattle.bolt_core.specs.Boards.{IsBoard, Publishes, SameProgram, Shown}
use Rattle.bolt_core.specs.Histories.{said}
use Rattle.bolt_rounds.specs.declared.moves.Worked.{Worked}
use Rattle.bolt_rounds.specs.Moves.{MayBeShown}
use Rattle.bolt_rounds.proofs.Shown.{moves_keep, said_decided}
use Rattle.board_tests.specs.Plays.{IsPlay}
use Rattle.board_tests.proofs.Plays.{play_goes}

module _ (old new : Shown) (w : ℕ) (j : Given) (s : Summary) (h : IsBoard old) (same : SameProgram old new)
    (t : Publishes old w j.id s new) where
  pub play_said : (asserts : ℕ) (known : Listed) (jobs : List (Option Worked)) → IsPlay old asserts known jobs →
      IsPlay new asserts known jobs
  play_said asserts known jobs p =
      ⊎_elim (λ m. play_goes old new (said w j.id s) h same (t.acts m) asserts known jobs p)
      (λ n. subst (λ (b : Shown). IsPlay b asserts known jobs) (sym (t.keeps n)) p) (said_decided old j.id)

  -- it may be published again
  pub shown_again : MayBeShown old j s → MayBeShown new j s
  shown_again a =
      ⊎_elim (λ m. (moves_keep old new (said w j.id s ∷ []) j h same.graphs (new.core, t.acts m, refl)).1 s a)
      (λ n. subst (λ (b : Shown). MayBeShown b j s) (sym (t.keeps n)) a) (said_decided old j.id)
