use Rattle.std.proofs.Common.{◌≡◌, Some, map, subst, sym, ap, ◌∙◌}
use Rattle.std.proofs.lemmas.Result.{IfOk-weaker}
use Rattle.infeasible_cert.specs.Refutation.{refutation_of}
use Rattle.summary_form.specs.declared.query.Query.{Query}
use Rattle.may_partition.specs.Parted.{Parted}
use Rattle.may_partition.specs.Shown.{Shows}
use Rattle.query_rules.specs.Rows.{rows_of_query}
use Rattle.bundle_check.specs.RightClaims.{HasAsked, asked_query}
use Rattle.bundle_check.specs.Walked.{kept}
use Rattle.bundle_check.specs.steps.Places.{IfAsked}
use Rattle.bundle_make.proofs.making.Maker.proof_over.Goals as goal

pub unreachable-requires : goal.unreachable-requires
unreachable-requires c =
    let g = c.args.self.now.graph.now in
    let k = c.args.edge.now in
    let r = c.requires in
    let exit = ap (λ (q : Query). q.exit) (c.deref.ensures ∙ c.query.ensures) in
    let none = subst (IfAsked g c.deref.result.now.exit c.args.partition.now k) c.in-None.is c.in_ok-asked.ensures in
    none r.0 r.1 (subst (λ e. HasAsked g e r.0 k) (sym exit) r.2)

pub returns : goal.returns
returns c =
    let g = c.args.self.now.graph.now in
    let k = c.args.edge.now in
    let claimed : Query = c.args.claimed.now in
    let proof = c.args.proof.now in
    let exit = ap (λ (q : Query). q.exit) (c.deref.ensures ∙ c.query.ensures) in
    let asks = subst (λ e. IfAsked g e c.args.partition.now k (Some c.in-Some.asked)) exit
    (subst (IfAsked g c.deref.result.now.exit c.args.partition.now k) c.in-Some.is c.in_ok-asked.ensures) in
    IfOk-weaker c.kept_of.result (λ ks. map refutation_of ks ≡ kept (rows_of_query c.in-Some.asked) (rows_of_query claimed) proof)
    (λ ks. (p : Parted) → Shows c.args.partition.now p → (h : HasAsked g c.args.self.now.state.now.query.exit p k)
    × (map refutation_of ks ≡ kept (rows_of_query (asked_query h)) (rows_of_query claimed) proof))
    (λ ks e p sh. let w = asks p sh in (w.0, e ∙ ap (λ (q : Query). kept (rows_of_query q) (rows_of_query claimed) proof) (sym w.1)))
    c.kept_of.ensures
