use Rattle.std.proofs.Common.{◌++◌, ◌∷◌, [], ap, sym, ◌∙◌, arith}
use Rattle.std.proofs.lemmas.List.Elements.{Contains-append_left, Contains-get_or}
use Rattle.std.proofs.lemmas.List.{map-append}
use Rattle.shadow_elim.specs.steps.Making.{candidate_terms}
use Rattle.shadow_elim.specs.Reduction.{reduced}
use Rattle.shadow_elim.proofs.Placing.{AreLastPlaces-added}
use Rattle.shadow_elim.proofs.Among.{among_all, among_none}
use Rattle.shadow_elim.proofs.Reducing.{reduced-needless}
use Rattle.shadow_elim.proofs.reduction.Reduction.add.Goals as goal
use Rattle.shadow_elim.proofs.reduction.Reduction.add.Goals.{in-Ok, in-Err}

pub returns-then-is_needless-clause-same : goal.returns-then-is_needless-clause-same
returns-then-is_needless-clause-same c = λ more.
    ap (λ l. reduced (l ++ more)) (map-append (λ d. d.term) c.args.self.now (c.args.row ∷ [])) ∙ reduced-needless
    (candidate_terms c.args.self.now) more c.args.row.term (sym c.is_needless.ensures ∙ c.if-is_needless.true)

pub returns-then-is_needless-clause-among : goal.returns-then-is_needless-clause-among
returns-then-is_needless-clause-among c = λ k d h.
    Contains-append_left c.args.self.now (c.args.row ∷ []) _ (Contains-get_or c.args.self.now k d h)

pub invariant_of-self-in-Ok : goal.invariant_of-self-in-Ok
invariant_of-self-in-Ok c =
    let u = c.in-Ok.ensures.updates in
    AreLastPlaces-added c.self.inside.places.entries c.insert.new.self.entries c.self.inside.rows.items c.args.self.now
    c.push.new.self.items
    c.args.row c.in_ok-key.key.items c.len-place.result c.is_needless.result c.self.invariant c.self.view_is
    (c.in_ok-key.ensures.items ∙ c.parts.ensures.value) c.is_needless.ensures c.if-is_needless.false u.3 u.1 (omega arith)
    c.in_ok-push.ensures.items

pub returns-clause-among : goal.returns-clause-among
returns-clause-among c =
    elim c.match-insert.branch [
      | in-Ok w ↦ among_all c.args.self.now c.match-insert.self c.self.inside.rows.items c.args.row
          c.match-insert.result (w.self-is ∙ c.in_ok-push.ensures.items) c.self.view_is
      | in-Err w ↦ among_none _ c.match-insert.result _ w.result-is
    ]
