use Rattle.std.proofs.Common.{◌≡◌, ℕ, ◌+◌, ◌*◌, ◌≤◌, List, [], ◌∷◌, ◌++◌, length, IfSome, arith, sym, ap, subst, ◌∙◌}
use Rattle.std.proofs.lemmas.List.{length-append, length-map}
use Rattle.std.proofs.lemmas.Option.{IfSome_then}
use Rattle.std.proofs.lemmas.Result.{IfOk-weaker}
use Rattle.linear_formula.specs.declared.formula.Atom.{Atom}
use Rattle.infeasible_cert.specs.Right.{range_rows, rows_of}
use Rattle.infeasible_cert.proofs.Ranges.{length-ranges}
use Rattle.shadow_elim.specs.Elimination.{listed_rows, remains}
use Rattle.shadow_elim.specs.Stages.{AreStages, terms_of}
use Rattle.shadow_elim.specs.declared.elimination.Elimination.{Elimination}
use Rattle.shadow_elim.specs.declared.limit.TheConstants.{MAX_ROWS}
use Rattle.shadow_elim.proofs.Passing.{stages-end}
use Rattle.lia_solver.specs.ByParts.{most_rows}
use Rattle.lia_solver.proofs.ByParts.{stages-room}
use Rattle.call_bridge.specs.Musts.{symbol_columns}
use Rattle.punch_step.specs.KnownMusts.{IsReadied}
use Rattle.punch_step.specs.declared.own_rows.OwnRows.{OwnRows}
use Rattle.punch_step.proofs.own_rows.readied.Goals as goal

-- what is kept of the elimination
abbrev IsLeftBy : Elimination → (count : ℕ) → (firsts : List ℕ) → (last : ℕ) → OwnRows → Type 0
IsLeftBy e count firsts last own =
    (own.firsts.items ≡ firsts) × (own.last ≡ last) × (rows_of own.rows.atoms ≡ terms_of e.rows.items)
    × (most_rows count e.stages.items + own.room ≤ MAX_ROWS)

listed_count : (rows : List Atom) (columns : List ℕ) (count : ℕ) → length rows + 2 * length columns ≡ count →
    length (listed_rows rows columns) ≡ count
listed_count rows columns count h = omega (
  arith,
  h,
  length-append (rows_of rows) (range_rows columns),
  length-map rows (λ (a : Atom). a.term),
  length-ranges columns,
)

left_readied : (rows : List Atom) (columns firsts : List ℕ) (last count : ℕ) (e : Elimination) (own : OwnRows) →
    columns ≡ symbol_columns rows → columns ≡ firsts ++ last ∷ [] → length rows + 2 * length columns ≡ count →
    AreStages firsts (listed_rows rows columns) e.stages.items (terms_of e.rows.items) → IsLeftBy e count firsts last own →
    IsReadied rows own
left_readied rows columns firsts last count e own is split few h k =
    let all = own.firsts.items ++ own.last ∷ [] in
    let same : columns ≡ all = split ∙ ap (λ ns. ns ++ last ∷ []) (sym k.0) ∙ ap (λ n. own.firsts.items ++ n ∷ []) (sym k.1) in
    let stages : AreStages own.firsts.items (listed_rows rows all) e.stages.items (terms_of e.rows.items) =
    subst (λ (ns : List ℕ). AreStages own.firsts.items (listed_rows rows ns) e.stages.items (terms_of e.rows.items)) same
    (subst (λ (ns : List ℕ). AreStages ns (listed_rows rows columns) e.stages.items (terms_of e.rows.items)) (sym k.0) h) in
    let most : length (listed_rows rows all) ≡ count =
    subst (λ (ns : List ℕ). length (listed_rows rows ns) ≡ count) same (listed_count rows columns count few) in
    record {
      columns = sym is ∙ same;
      eliminated = stages-end own.firsts.items (listed_rows rows all) e.stages.items (terms_of e.rows.items) stages
          ∙ ap remains (sym k.2);
      room = stages-room own.firsts.items (listed_rows rows all) e.stages.items (terms_of e.rows.items) own.room stages
          (subst (λ (n : ℕ). most_rows n e.stages.items + own.room ≤ MAX_ROWS) (sym most) k.3);
    }

pub returns-in-Ok : goal.returns-in-Ok
returns-in-Ok c =
    let rows = c.args.rows.now.atoms in
    let columns = c.in_ok-columns.columns.items in
    let firsts = c.in-Some.firsts.now in
    let last = c.in-Some.last.now in
    let count = c.saturating_add-count.result in
    let e = c.in-Ok.elimination in
    let few : length rows + 2 * length columns ≡ count = omega (
      arith,
      c.saturating_add-count.ensures,
      ap length c.as_slice.ensures.value,
      c.as_slice.type_inv.1,
      c.len.ensures,
      c.in_ok-columns.columns.ok.0,
      ap length c.deref.ensures.value,
      c.deref.type_inv.1,
    ) in
    let stages = subst (λ (ns : List ℕ). AreStages firsts (listed_rows rows ns) e.stages.items (terms_of e.rows.items))
    c.deref-2.ensures.value c.in-Ok.ensures in
    let split = sym c.deref.ensures.value ∙ c.in-Some.ensures.cases.0 in
    let kept : (own : OwnRows) → IsLeftBy e count firsts last own → IsReadied rows own =
    λ own k. left_readied rows columns firsts last count e own c.in_ok-columns.ensures split few stages k in
    IfOk-weaker c.left_by.result (λ o. IfSome o (IsLeftBy e count firsts last)) (λ o. IfSome o (IsReadied rows))
    (λ o h. IfSome_then o h kept) c.left_by.ensures
