-- What each effect of a step leaves as it was.
use Rattle.std.proofs.Common.{◌≡◌, ◌∷◌, ◌++◌, [], List, ap, refl}
use Rattle.flow_graph.specs.declared.graph.Graph.{Graph}
use Rattle.summary_form.specs.declared.summary.Summary.{Summary}
use Rattle.query_rules.specs.declared.step.Step.{Step}
use Rattle.query_rules.specs.Steps.{Effect, Model, divides_one, effect_of, leaves_all, marks_one, removes_edge, sets_asked, stepped, with_effect}

-- a state's query, ancestors and steps
same_query_by : (e : Effect) (m : Model) → (with_effect e m).query ≡ m.query
same_query_by (marks_one new mark) m = refl
same_query_by (divides_one k atoms) m = refl
same_query_by (removes_edge k leans) m = refl
same_query_by (sets_asked asked) m = refl
same_query_by leaves_all m = refl

same_ancestors_by : (e : Effect) (m : Model) → (with_effect e m).ancestors ≡ m.ancestors
same_ancestors_by (marks_one new mark) m = refl
same_ancestors_by (divides_one k atoms) m = refl
same_ancestors_by (removes_edge k leans) m = refl
same_ancestors_by (sets_asked asked) m = refl
same_ancestors_by leaves_all m = refl

pub same_steps_by : (e : Effect) (m : Model) → (with_effect e m).steps ≡ m.steps
same_steps_by (marks_one new mark) m = refl
same_steps_by (divides_one k atoms) m = refl
same_steps_by (removes_edge k leans) m = refl
same_steps_by (sets_asked asked) m = refl
same_steps_by leaves_all m = refl

module _ (g : Graph) (table : List Summary) (s : Step) (m : Model) where
  pub same_query : (stepped g table s m).query ≡ m.query
  same_query = same_query_by (effect_of g table s m) m

  pub same_ancestors : (stepped g table s m).ancestors ≡ m.ancestors
  same_ancestors = same_ancestors_by (effect_of g table s m) m

  pub one_step_more : (stepped g table s m).steps ≡ m.steps ++ s ∷ []
  one_step_more = ap (λ (xs : List Step). xs ++ s ∷ []) (same_steps_by (effect_of g table s m) m)
