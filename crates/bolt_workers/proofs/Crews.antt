-- Desks that are opened, and what one that has ended says of the board at the end.
use Rattle.std.proofs.Common.{◌≡◌, ℕ, List, [], ◌++◌, true, false, IfOk, Result, Ok, Err, Option, Some, refl, sym, ap, ◌∙◌, subst, ⊎_elim}
use Rattle.summary_form.specs.declared.summary.Summary.{Summary}
use Rattle.flow_graph.specs.declared.graph.Graph.{Graph}
use Rattle.board_lock.specs.Seats.{Seated}
use Rattle.board_lock.specs.Views.{StartsWith}
use Rattle.bolt_core.specs.declared.history.Program.{Program}
use Rattle.bolt_core.specs.Boards.{IsBoard, SameProgram, Shown}
use Rattle.bolt_core.specs.Histories.{Told}
use Rattle.bolt_core.specs.Machine.{is_over}
use Rattle.bolt_core.specs.States.{reads}
use Rattle.bolt_workers.specs.declared.desk.Desk.{Desk}
use Rattle.bolt_workers.specs.Later.{IsLater}
use Rattle.bolt_workers.specs.steps.Desks.{BeginsAt, HasEnded, IsOpen, Sits, program_of}
use Rattle.bolt_workers.proofs.Later.{ends_stay}

some_same : (p q : Program) → Some p ≡ Some q → p ≡ q
some_same p q e = cc

-- boards of which a seat knows the same program
pub same_program_of : (a b : Shown) → program_of a ≡ program_of b → SameProgram a b
same_program_of a b e = record {
  graphs = sym (ap (λ (p : Program). p.graphs) e);
  main = sym (ap (λ (p : Program). p.main) e);
  asserts = sym (ap (λ (p : Program). p.asserts) e);
  budget = sym (ap (λ (p : Program). p.budget) e);
  kept = sym (ap (λ (p : Program). p.kept) e);
}

pub seat_programs : (o : Option Program) (a b : Shown) → o ≡ Some (program_of a) → o ≡ Some (program_of b) → SameProgram a b
seat_programs o a b e f = same_program_of a b (some_same (program_of a) (program_of b) (sym e ∙ f))

-- what has ended is over in the end, if nobody stopped it
pub over_now : (d : Desk) (b : Shown) → HasEnded d → IsBoard b → d.seat.view.program ≡ Some (program_of b) →
    StartsWith b.core.history d.seat.view.seen → b.core.is_stopped ≡ false → is_over (reads b.graphs) b.core ≡ true
over_now d b h is p s going =
    let l : IsLater h.board b = record {
      is_old = h.has_seen.board;
      is_new = is;
      same = seat_programs d.seat.view.program h.board b h.has_seen.program p;
      begins = subst (λ (k : List Told). StartsWith b.core.history k) h.has_seen.seen s;
    } in
    let e = ends_stay h.board b l in
    ⊎_elim (λ o. e.0 o) (λ t. let u : b.core.is_stopped ≡ true = e.1 t in absurd (cc)) h.ended

-- A desk that was just opened

pub opened_sits : (from : Seated Program Told) (gs : List Graph) (room : ℕ) (d : Desk) → BeginsAt from.view gs room →
    IsOpen from gs room d →
    Sits d
opened_sits from gs room d b o = record {
  board = b.board;
  has_seen = record {
    board = b.has_seen.board;
    rests = ap (λ v. v.turn) o.view ∙ b.has_seen.rests;
    program = ap (λ v. v.program) o.view ∙ b.has_seen.program;
    seen = ap (λ v. v.seen) o.view ∙ b.has_seen.seen;
  };
  are_of = record {
    graphs = o.graphs ∙ b.graphs;
    room = o.begun.room ∙ b.room;
    front = record {
      rest = b.board.core.table;
      is = ap (λ (l : List Summary). l ++ b.board.core.table) (sym o.begun.none);
    };
  };
}

-- nothing happened yet

pub fresh_begins : {E : Type 0} (r : Result Shown E) → IfOk r (λ b. StartsWith b.core.history [])
fresh_begins (Ok b) = record { rest = b.core.history; is = refl }
fresh_begins (Err e) = tt
