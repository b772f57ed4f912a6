use Rattle.std.proofs.Common.{◌≡◌, ◌↔◌, ℕ, List, ℤ, subst}
use Rattle.std.proofs.lemmas.Result.{IfOk-weaker}
use Rattle.c_tree.specs.Meaning.{Reaches}
use Rattle.c_tree.specs.Whole.{program_of}
use Rattle.flow_graph.specs.Columns.{AreAllValues}
use Rattle.proof_bundle.specs.Claims.{pure_of}
use Rattle.bundle_check.specs.RightClaims.{IsFirstWrong, IsRightProof}
use Rattle.bundle_check.specs.declared.check.Checked.TheVariants as checked
use Rattle.bundle_check.specs.steps.Checks.{Says}
use Rattle.bundle_check.proofs.Judging.{exactly_right, exactly_wrong, sound}
use Rattle.bundle_check.proofs.check.check_bundle.Goals as goal

pub returns-clause-right : goal.returns-clause-right
returns-clause-right c =
    let gs = c.args.graphs.now.graphs in
    let main = c.args.program.now.main in
    let b = pure_of c.args.bundle.now in
    IfOk-weaker c.answer.result (Says gs main b) (λ x. (x ≡ checked.Right) ↔ IsRightProof gs main b) (λ x s. exactly_right gs main b x s)
    c.answer.ensures

pub returns-clause-wrong : goal.returns-clause-wrong
returns-clause-wrong c =
    let gs = c.args.graphs.now.graphs in
    let main = c.args.program.now.main in
    let b = pure_of c.args.bundle.now in
    IfOk-weaker c.answer.result (Says gs main b) (λ x. (n : ℕ) → (x ≡ checked.Wrong n) ↔ IsFirstWrong gs main b n)
    (λ x s. exactly_wrong gs main b x s) c.answer.ensures

pub returns-clause-sound : goal.returns-clause-sound
returns-clause-sound c =
    let gs = c.args.graphs.now.graphs in
    let P = program_of c.args.program.now in
    let b = pure_of c.args.bundle.now in
    IfOk-weaker c.answer.result (Says gs P.main b) (λ x. x ≡ checked.Right → (ins : List ℤ) → Reaches P b.id ins → ⊥)
    (λ x s. sound P gs c.args.program.now.well_formed (subst AreAllValues c.deref.ensures.value c.are_values.ensures) c.requires.runs
    c.requires.arities c.args.graphs.now.well_formed b x s) c.answer.ensures
