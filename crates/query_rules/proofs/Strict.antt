-- A step that is legal by the strictest rows is legal.
use Rattle.std.proofs.Common.{◌≡◌, inl, inr, List, [], ◌∷◌, refl}
use Rattle.linear_formula.specs.declared.formula.Atom.{Atom}
use Rattle.infeasible_cert.specs.declared.certificate.Certificate.{Certificate}
use Rattle.flow_graph.specs.declared.graph.Graph.{Graph}
use Rattle.summary_form.specs.declared.summary.Summary.{Summary}
use Rattle.query_rules.specs.declared.step.Step.{Step}
use Rattle.query_rules.specs.declared.step.Step.TheVariants as step
use Rattle.query_rules.specs.Legal.{IsLegal}
use Rattle.query_rules.specs.Rows.{Follow, IsSome}
use Rattle.query_rules.specs.Steps.{Model}
use Rattle.query_rules.specs.Strict.{IsStrict, MayFollow}
use Rattle.query_rules.proofs.Closing.{turn_advances}
use Rattle.query_rules.proofs.Turning.{all_some}

some_follow : (g : Graph) (source pre atoms : List Atom) (follows : List Certificate) → IsSome atoms pre →
    MayFollow source pre atoms follows → Follow g source pre atoms follows
some_follow g source pre atoms [] s f = s
some_follow g source pre atoms (c ∷ cs) s (inl e) = absurd (let no : c ∷ cs ≡ [] = e in cc)
some_follow g source pre atoms (c ∷ cs) s (inr f) = (inl s, f)

pub strict_legal : (g : Graph) (table : List Summary) (m : Model) (s : Step) → IsStrict g table m s → IsLegal g table m s
strict_legal g table m (step.Extend k n point) l = (turn_advances g m k l.0, l.1)
strict_legal g table m (step.Split k atoms follows proofs) l =
    let r = l.1 in (
      l.0,
      record {
        at = r.at;
        inner = r.inner;
        pre = r.pre;
        is_pre = r.is_pre;
        parts = record {
          some_state = r.some_state;
          values = r.values;
          possible = r.possible;
          follow = some_follow g r.at.between.source.cube.atoms r.pre atoms follows r.some r.follow;
          several = r.several;
          negatable = r.negatable;
          apart = r.apart;
        };
      },
    )
strict_legal g table m (step.Kill k by) l = l
strict_legal g table m (step.CallExtend k n place point) l = (turn_advances g m k l.0, l.1)
strict_legal g table m (step.CallSplit k place atoms follows proofs) l =
    let r = l.1 in (
      l.0,
      record {
        call = r.call;
        path = r.path;
        must_at = r.must_at;
        pre = atoms;
        is_pre = r.is_pre;
        parts = record {
          some_state = r.some_state;
          values = r.values;
          possible = r.possible;
          follow = some_follow g r.call.between.source.cube.atoms atoms atoms follows (all_some atoms) r.follow;
          several = r.several;
          negatable = r.negatable;
          apart = r.apart;
        };
      },
    )
strict_legal g table m (step.CallPart k by atom atoms follows proofs) l = absurd l
strict_legal g table m (step.Ask k q follows seen) l =
    let r = l.1 in (
      l.0,
      record {
        asked = q;
        asks = r.asks;
        follow = inl (refl, r.none_follow);
        leans_not = r.leans_not;
        few = r.few;
        none_serves = r.none_serves;
        others = r.others;
      },
    )
strict_legal g table m (step.Feed i) l = l
strict_legal g table m (step.Stuck k why seen) l = l
