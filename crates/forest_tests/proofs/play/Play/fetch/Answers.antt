use Rattle.std.proofs.Common.{◌≡◌, Some, set, sym, ap, ◌∙◌, subst, arith}
use Rattle.std.specs.Prelude.{slice_get}
use Rattle.query_tree.proofs.Lists.{within, at_place}
use Rattle.forest_tests.specs.Jobs.{AreOut, IsFree}
use Rattle.forest_tests.proofs.Jobs.{fetched_out, fetched_free, number_at, out_at}
use Rattle.forest_tests.proofs.play.Play.fetch.Goals as goal

pub invariant_of-self : goal.invariant_of-self
invariant_of-self c =
    let s = c.args.self.now in
    record {
      has_room = s.has_room;
      well_formed = subst (λ o. AreOut s.forest.entries (set s.jobs.items c.args.id o)) (sym c.take.ensures.after)
          (fetched_out s.forest.entries s.jobs.items c.args.id s.well_formed);
    }

pub returns-then-place-len-clause-free : goal.returns-then-place-len-clause-free
returns-then-place-len-clause-free c = subst (λ o. IsFree (set c.args.self.now.jobs.items c.args.id o) c.args.id) (sym c.take.ensures.after)
    (fetched_free c.args.self.now.jobs.items c.args.id)

pub returns-then-place-len-clause-number : goal.returns-then-place-len-clause-number
returns-then-place-len-clause-number c =
    let s = c.args.self.now in
    let was = c.take.ensures.value ∙ c.index_mut.ensures.value in
    let at : slice_get s.jobs.items c.args.id ≡ Some c.take.result = at_place s.jobs.items c.args.id _ (omega (arith, s.jobs.ok.0))
    ∙ ap Some (sym was) in
    number_at s.forest.entries s.jobs.items c.args.id c.take.result s.well_formed at

pub returns-then-place-len-clause-out : goal.returns-then-place-len-clause-out
returns-then-place-len-clause-out c =
    let s = c.args.self.now in
    let was = c.take.ensures.value ∙ c.index_mut.ensures.value in
    let at : slice_get s.jobs.items c.args.id ≡ Some c.take.result = at_place s.jobs.items c.args.id _ (omega (arith, s.jobs.ok.0))
    ∙ ap Some (sym was) in
    out_at s.forest.entries s.jobs.items c.args.id c.take.result s.well_formed at

pub returns-else-place-len-clause-free : goal.returns-else-place-len-clause-free
returns-else-place-len-clause-free c = λ job a. omega (
  arith,
  within c.args.self.now.jobs.items c.args.id (Some job) a,
  c.if-place-len.false,
  c.args.self.now.jobs.ok.0,
)
