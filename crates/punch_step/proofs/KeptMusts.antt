-- What is kept of a must serves each one that is alike.
use Rattle.std.proofs.Common.{◌≡◌, ◌∙◌, sym, ap, subst, ℕ, List, [], ◌∷◌, ◌++◌, Option, None, Some}
use Rattle.linear_formula.specs.Extremes.{AreOuter}
use Rattle.linear_formula.specs.Formula.{renamed_atoms_by}
use Rattle.linear_formula.specs.LinearSum.{LinearSum}
use Rattle.linear_formula.specs.Results.{renamed_column}
use Rattle.linear_formula.specs.declared.formula.Atom.{Atom}
use Rattle.linear_formula.specs.declared.formula.Cube.{Cube}
use Rattle.infeasible_cert.specs.Right.{rows_of}
use Rattle.shadow_elim.specs.Elimination.{elimination, listed_rows, remains}
use Rattle.shadow_elim.specs.Sums.{first_wide, renaming, row_sums, rows_of_sums}
use Rattle.shadow_elim.specs.declared.sum.Sum.{Sum}
use Rattle.lia_solver.specs.ByParts.{KeepsRoom}
use Rattle.must_region.specs.Rules.{shifted}
use Rattle.summary_form.specs.declared.path.Path.{Path}
use Rattle.call_bridge.specs.Musts.{other_sums, replacing, symbol_columns}
use Rattle.punch_step.specs.KnownMusts.{AreOwnRows, IfOwnRows, IsKept, own_rows}
use Rattle.punch_step.specs.Memos.{AreAlike}
use Rattle.punch_step.specs.declared.known_must.MustParts.{MustParts}
use Rattle.punch_step.specs.declared.own_rows.OwnRows.{OwnRows}

-- the sums of the arguments alone, and of the guard with them
abbrev argument_sums : List ℕ → List LinearSum → List Sum
argument_sums args entry = other_sums [] args entry ++ []

abbrev slot_sums_by : List ℕ → Cube → List LinearSum → List Sum
slot_sums_by args guard entry = row_sums (renaming (renamed_column (replacing [] args entry)))
    (guard.atoms ++ rows_of_sums (argument_sums args entry))

module _ (a b : Path) (alike : AreAlike a b) (args : List ℕ) where
  alike_slots : slot_sums_by args a.guard a.entry ≡ slot_sums_by args b.guard b.entry
  alike_slots = ap (λ guard. slot_sums_by args guard a.entry) alike.guard ∙ ap (slot_sums_by args b.guard) alike.entry

  alike_rows : own_rows a args ≡ own_rows b args
  alike_rows = ap rows_of_sums alike_slots

  alike_own_rows : (own : OwnRows) → AreOwnRows a args own → AreOwnRows b args own
  alike_own_rows own h = record {
    sums = ap (λ entry. first_wide (argument_sums args entry)) (sym alike.entry) ∙ h.sums;
    slots = ap first_wide (sym alike_slots) ∙ h.slots;
    columns = ap symbol_columns (sym alike_rows) ∙ h.columns;
    eliminated = subst (λ (rows : List Atom). elimination own.firsts.items (listed_rows rows (own.firsts.items ++ own.last ∷ []))
        ≡ remains (rows_of own.rows.atoms)) alike_rows h.eliminated;
    room = subst (λ (rows : List Atom). KeepsRoom own.room own.firsts.items (listed_rows rows (own.firsts.items ++ own.last ∷ [])))
        alike_rows h.room;
  }

  if_alike_own_rows : (own : Option OwnRows) → IfOwnRows a args own → IfOwnRows b args own
  if_alike_own_rows None h = tt
  if_alike_own_rows (Some own) h = alike_own_rows own h

  pub alike_kept : (before : ℕ) (k : MustParts) → IsKept a args before k → IsKept b args before k
  alike_kept before k h = record {
    is_bare = record {
      exit = h.is_bare.exit ∙ alike.exit;
      guard = h.is_bare.guard;
      entry = h.is_bare.entry ∙ alike.entry;
      outcome = h.is_bare.outcome ∙ alike.outcome;
    };
    are_guard = subst (λ (c : Cube). AreOuter k.guard.atoms (renamed_atoms_by (shifted before) c.atoms)) alike.guard h.are_guard;
    if_own = if_alike_own_rows k.own h.if_own;
  }
