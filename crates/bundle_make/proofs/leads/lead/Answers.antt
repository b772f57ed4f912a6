use Rattle.std.proofs.Common.{◌≡◌, ℕ, ◌≤◌, List, Some, get_or, sym, subst, ap, ◌∙◌}
use Rattle.std.specs.Prelude.{slice_get}
use Rattle.std.proofs.lemmas.Option.{get_or_from_slice_get}
use Rattle.query_rules.specs.declared.step.Asked.{Asked}
use Rattle.query_rules.specs.declared.step.Killer.{Killer}
use Rattle.bolt_core.specs.Leads.{LeadsTo}
use Rattle.bundle_make.specs.Bundling.{IsLead}
use Rattle.bundle_make.specs.steps.Leading.{IsOnLevel}
use Rattle.bundle_make.proofs.Leading.{closed_level, led_within}
use Rattle.bundle_make.proofs.leads.lead.Goals as goal

pub above-requires-clause-on : goal.above-requires-clause-on
above-requires-clause-on c =
    let b = c.args.board.now in
    subst (λ (level : ℕ). IsOnLevel b.core.nodes level c.args.id) (sym c.level.ensures)
    (closed_level b c.reached.ensures c.args.id c.args.state.now c.requires.closed)

pub above-requires-clause-within : goal.above-requires-clause-within
above-requires-clause-within c =
    let b = c.args.board.now in
    let s = c.args.state.now in
    let t = subst (λ (k : Killer). LeadsTo b c.args.id s k) c.in-Ancestor.is c.requires.leads in
    subst (λ (level : ℕ). c.in-Ancestor.level ≤ level) (sym c.level.ensures)
    (led_within b c.reached.ensures c.args.id s c.requires.closed c.in-Ancestor.level t.2 t.3)

pub returns-in-Child-clause-some : goal.returns-in-Child-clause-some
returns-in-Child-clause-some c =
    let b = c.args.board.now in
    let s = c.args.state.now in
    let t = subst (λ (k : Killer). LeadsTo b c.args.id s k) c.in-Child.is c.requires.leads in
    let there : slice_get c.asked.result.now c.in-Child.asked ≡ Some t.0 =
    ap (λ (xs : List Asked). slice_get xs c.in-Child.asked) c.asked.ensures ∙ t.1 in
    let read = get_or_from_slice_get c.asked.result.now c.in-Child.asked t.0 c.index-asked-asked.result there in
    subst (λ (k : Killer). IsLead b c.args.id s k
    (get_or c.asked.result.now c.in-Child.asked c.index-asked-asked.result).child) (sym c.in-Child.is) (
      t.0,
      t.1,
      ap (λ (e : Asked). e.child) read,
    )
