use Rattle.std.proofs.Common.{map, sym, ap, ◌∙◌}
use Rattle.infeasible_cert.specs.Refutation.{refutation_of}
use Rattle.summary_form.specs.declared.query.Query.{Query}
use Rattle.query_rules.specs.Rows.{rows_of_query}
use Rattle.bundle_check.specs.RightClaims.{asked_query}
use Rattle.bundle_check.specs.Walked.{kept}
use Rattle.bundle_make.proofs.Doing.{call_done}
use Rattle.bundle_make.proofs.making.Maker.call_move.Goals as goal

pub returns : goal.returns
returns c =
    let proof = c.args.proof.now in
    let claimed = c.closed_state.ensures in
    let query = c.deref.ensures ∙ (c.query-claimed.ensures ∙ claimed.query) in
    call_done c.args.self.now.board.now c.args.self.now.listing.now.ids.items c.args.self.now.state.now c.args.self.now.graph.now
    c.args.self.now.killed.now c.args.target c.args.edge proof c.args.partition.now (sym c.live.ensures ∙ c.if-not-live.false)
    c.remove.new.partition c.remove.ensures.shows c.number-claim.result c.number-claim.ensures claimed.node claimed.node_at
    (map refutation_of c.in_ok-proof.proof)
    (λ p sh.
    let w = c.in_ok-proof.ensures p sh in
    (w.0, w.1 ∙ ap (λ (q : Query). kept (rows_of_query (asked_query w.0)) (rows_of_query q) proof) query))
