use Rattle.std.proofs.Common.{◌∙◌, ℕ, List, length, replicate, sym, subst, ap}
use Rattle.std.specs.Prelude.{slice_set}
use Rattle.punch_step.specs.steps.Searching.{Searches}
use Rattle.punch_step.proofs.Searches.{begin_search}
use Rattle.punch_step.proofs.measure.Search.new.Goals as goal

pub returns-clause-searching : goal.returns-clause-searching
returns-clause-searching c =
    let p = c.args.partition.now in let target = c.args.target in
    let far = slice_set c.in_ok-far.far.items target 1 in
    subst (λ (ms : List ℕ). Searches p.edges c.args.shut.now (length p.regions) target 0 ms far c.in_ok-way.way.items)
    (sym c.in_ok-met.ensures.items)
    (begin_search p.edges c.args.shut.now (length p.regions) target far c.in_ok-way.way.items c.requires
    (ap (λ xs. slice_set xs target 1) (c.in_ok-far.ensures ∙ ap (λ rs. replicate (length rs) 0) c.regions-regions.ensures))
    (c.in_ok-way.ensures ∙ ap length c.regions-regions.ensures))
