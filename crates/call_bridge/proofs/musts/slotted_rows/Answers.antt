use Rattle.std.proofs.Common.{◌≡◌, ◌∙◌}
use Rattle.shadow_elim.specs.Projection.{refuses}
use Rattle.shadow_elim.specs.Sums.{IsFirstWide}
use Rattle.shadow_elim.proofs.Projecting.{passed-on}
use Rattle.call_bridge.specs.Musts.{must_preimage}
use Rattle.call_bridge.proofs.Coding.{must_rows_read, must_rows_wide}
use Rattle.call_bridge.proofs.musts.slotted_rows.Goals as goal

pub returns-clause-rows : goal.returns-clause-rows
returns-clause-rows c =
    must_rows_read c.args.must.now c.args.site.now c.args.target.now.atoms c.deref.result.now
    c.in_ok-columns.field-0.columns.items c.in_ok-others.others.atoms c.in_ok-plain.plain.atoms c.deref-2.result.now c.in_ok-rows.rows
    (c.deref.ensures.value ∙ c.in_ok-columns.ensures.sums) c.in_ok-columns.ensures.columns c.in_ok-others.ensures.decided
    c.in_ok-others.ensures.rows c.in_ok-plain.ensures (c.deref-2.ensures.value ∙ c.in_ok-renamed.ensures) c.in_ok-rows.ensures.decided
    c.in_ok-rows.ensures.rows

pub returns-in_err-rows-clause-limit : goal.returns-in_err-rows-clause-limit
returns-in_err-rows-clause-limit c =
    let must = c.args.must.now in
    let site = c.args.site.now in
    let target = c.args.target.now.atoms in
    passed-on (IsFirstWide c.deref-2.result.now) (λ kept. must_preimage must site target ≡ refuses kept) c.from_residual-in_err-rows.result
    c.in_err-rows.field-0.0 c.from_residual-in_err-rows.ensures.1
    (λ kept w. must_rows_wide must site target c.deref.result.now c.in_ok-columns.field-0.columns.items c.in_ok-others.others.atoms
    c.in_ok-plain.plain.atoms c.deref-2.result.now kept (c.deref.ensures.value ∙ c.in_ok-columns.ensures.sums)
    c.in_ok-columns.ensures.columns
    c.in_ok-others.ensures.decided c.in_ok-others.ensures.rows c.in_ok-plain.ensures (c.deref-2.ensures.value ∙ c.in_ok-renamed.ensures) w)
    c.in_err-rows.ensures.limit
