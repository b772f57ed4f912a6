use Rattle.std.proofs.Common.{◌≡◌, ◌↔◌, ℕ, List, IsTrue, Some, subst, ◌∙◌, slice_get}
use Rattle.std.proofs.lemmas.Result.{IfOk-weaker}
use Rattle.abstract_path.specs.Routes.{IsRoute}
use Rattle.bundle_check.specs.steps.Roads.{IsJoined}
use Rattle.bundle_check.proofs.Travelling.{joined_is, pairs_within}
use Rattle.bundle_check.proofs.paths.is_joined.Goals as goal

pub is_reached-requires-clause-edges : goal.is_reached-requires-clause-edges
is_reached-requires-clause-edges c n a b h =
    pairs_within c.args.regions c.args.edges.now c.requires.within n a b
    (subst (λ x. slice_get x n ≡ Some (a, b)) (c.deref.ensures.value ∙ c.in_ok-pairs.ensures) h)

pub returns : goal.returns
returns c =
    let pairs = c.deref.result.now in
    let shut = c.deref-2.result.now in
    IfOk-weaker c.is_reached.result (λ r. IsTrue r ↔ ((path : List ℕ) × IsRoute pairs shut c.args.from path c.args.to))
    (λ r. IsTrue r ↔ IsJoined c.args.edges.now c.args.from c.args.to)
    (λ r h. joined_is c.args.edges.now pairs shut _ c.args.from c.args.to r (c.deref.ensures.value ∙ c.in_ok-pairs.ensures)
    (c.deref-2.ensures.value ∙ c.in_ok-shut.ensures) h)
    c.is_reached.ensures
