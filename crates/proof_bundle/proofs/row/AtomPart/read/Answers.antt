use Rattle.std.proofs.Common.{FitsSigned, sym, subst, ap, rules, to_z-of_z, ◌∙◌}
use Rattle.std.specs.Int.{w128}
use Rattle.std.specs.Prelude.{IsTrue, map}
use Rattle.std.proofs.lemmas.List.{map-id}
use Rattle.linear_formula.specs.LinearSum.{is_term}
use Rattle.std.specs.List.{AllByRecursion}
use Rattle.proof_bundle.specs.Text.{pair_text}
use Rattle.proof_bundle.specs.steps.Bundles.{is_row, pair_at}
use Rattle.proof_bundle.proofs.Listing.{lists}
use Rattle.proof_bundle.proofs.Rows.{IsPair, pairs, term_of}
use Rattle.proof_bundle.proofs.row.AtomPart.read.Goals as goal

pub new-term-requires : goal.new-term-requires
new-term-requires c =
    let items = c.in_ok-parts.parts.items in
    let t = (lists IsPair pair_text pair_at pairs c.in_ok-count.count).takes c.in_ok-count.rest.now
    (map (λ p. p) items, c.in_ok-parts.rest.now) c.in_ok-parts.ensures in
    let row = ap is_row (sym c.deref.ensures.value) ∙ (sym c.is_row.ensures ∙ c.if-not-is_row.false) in
    let f : FitsSigned w128 c.in_ok-constant.constant = search rules in
    subst (λ z. IsTrue (is_term (record { parts = c.from_vec.result; constant = z }))) (sym (to_z-of_z f))
    (subst (λ ps. IsTrue (is_term (record { parts = ps; constant = c.in_ok-constant.constant }))) (sym c.from_vec.ensures)
    (term_of items c.in_ok-constant.constant row (subst (AllByRecursion IsPair) (map-id items) t.0.1) c.in_ok-constant.ensures.most))
