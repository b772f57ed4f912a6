use Rattle.std.proofs.Common.{rules, ◌∙◌, ◌||◌, length, ap}
use Rattle.may_partition.specs.Shown.{Shown, is_live}
use Rattle.query_rules.specs.Paths.{is_awaited, is_marked, is_stuck}
use Rattle.punch_step.proofs.distances.Distances.new.Goals as goal

pub returns-clause-followed : goal.returns-clause-followed
returns-clause-followed c =
    let s = c.args.state.now in let reach = c.in_ok-reach.reach in
    record {
      shut = λ e.
          ap (λ l. is_live l e) c.shut.view_is ∙ c.in_ok-shut.ensures e
          ∙ ap (λ xs. is_stuck xs e || is_awaited c.asked.result.now e) c.steps.ensures
          ∙ ap (λ xs. is_stuck s.steps e || is_awaited xs e) c.asked.ensures;
      many = c.in_ok-marked.ensures.length ∙ ap length (c.regions-regions.ensures ∙ ap (λ (p : Shown). p.regions) c.partition.ensures);
      marked = λ r. c.in_ok-marked.ensures.marked r ∙ ap (λ ks. is_marked ks r) c.marks.ensures;
      target = c.requires.target;
      far = search rules;
      noted = c.in_ok-nothing.ensures s.partition;
    }
