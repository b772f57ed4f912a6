-- Two models that one state shows are closed alike.
use Rattle.std.proofs.Common.{◌≡◌, ℕ, List, [], ◌∷◌, ◌++◌, refl, sym, subst, ◌∙◌}
use Rattle.std.specs.Prelude.{IsTrue}
use Rattle.flow_graph.specs.declared.graph.Graph.{Graph}
use Rattle.may_partition.specs.Parted.{Parted}
use Rattle.may_partition.specs.declared.region.RegionEdge.{RegionEdge}
use Rattle.query_rules.specs.declared.step.Closing.{Closing}
use Rattle.query_rules.specs.declared.step.Closing.TheVariants as closing
use Rattle.query_rules.specs.declared.step.Step.{Step}
use Rattle.query_rules.specs.declared.step.Step.TheVariants as step
use Rattle.query_rules.specs.Closings.{IsClosedAs, StopsAPath}
use Rattle.query_rules.specs.Paths.{IsPath, IsWay, target_region}
use Rattle.query_rules.specs.Seen.{Seen, ShowsModel}
use Rattle.query_rules.specs.Steps.{Model}

-- the same live edges
abbrev pub SameLive : Parted → Parted → Type 0
SameLive p r = (e : RegionEdge) → p.live e ≡ r.live e

path_along : (p r : Parted) → SameLive p r → (a : ℕ) (es : List RegionEdge) (b : ℕ) → IsPath p a es b → IsPath r a es b
path_along p r same a [] b h = h
path_along p r same a (e ∷ es) b h = (subst (λ t. IsTrue t) (same e) h.0, h.1, path_along p r same e.to es b h.2)

abbrev pub with_parted : Model → Parted → Model
with_parted m r = record m { parted = r }

-- of another partition with the same live edges
module _ (g : Graph) (m : Model) (r : Parted) (same : SameLive m.parted r) where
  way_there : (es : List RegionEdge) → IsWay g m es → IsWay g (with_parted m r) es
  way_there es way = path_along m.parted r same 0 es (target_region g m.query) way

  way_back : (es : List RegionEdge) → IsWay g (with_parted m r) es → IsWay g m es
  way_back es way = path_along r m.parted (λ e. sym (same e)) 0 es (target_region g m.query) way

  stops_there : (x : Step) → StopsAPath g m x → StopsAPath g (with_parted m r) x
  stops_there (step.Stuck k why seen) h = (h.0, h.1, way_there (h.0 ++ k ∷ h.1) h.2)
  stops_there (step.Extend k trail point) h = h
  stops_there (step.Split k atoms follows proofs) h = h
  stops_there (step.Kill k by) h = h
  stops_there (step.CallExtend k trail place point) h = h
  stops_there (step.CallSplit k place atoms follows proofs) h = h
  stops_there (step.CallPart k by atom atoms follows proofs) h = h
  stops_there (step.Ask k query follows seen) h = h
  stops_there (step.Feed i) h = h

  stops_back : (x : Step) → StopsAPath g (with_parted m r) x → StopsAPath g m x
  stops_back (step.Stuck k why seen) h = (h.0, h.1, way_back (h.0 ++ k ∷ h.1) h.2)
  stops_back (step.Extend k trail point) h = h
  stops_back (step.Split k atoms follows proofs) h = h
  stops_back (step.Kill k by) h = h
  stops_back (step.CallExtend k trail place point) h = h
  stops_back (step.CallSplit k place atoms follows proofs) h = h
  stops_back (step.CallPart k by atom atoms follows proofs) h = h
  stops_back (step.Ask k query follows seen) h = h
  stops_back (step.Feed i) h = h

  closed_there : (c : Closing) → IsClosedAs g m c → IsClosedAs g (with_parted m r) c
  closed_there closing.NotMay none = λ es way. none es (way_back es way)
  closed_there (closing.Must p) h = record {
    mark = h.mark;
    trail = h.trail;
    is_mark = record {
      number = h.is_mark.number;
      among = h.is_mark.among;
      at_target = h.is_mark.at_target;
      there = h.is_mark.there;
    };
    is_path = h.is_path;
  }
  closed_there (closing.Stuck kind) h = record {
    path = h.path;
    is_path = way_there h.path h.is_path;
    each = λ es way. h.each es (way_back es way);
    first = h.first;
    is_first = record {
      before = h.is_first.before;
      behind = h.is_first.behind;
      steps = h.is_first.steps;
      none_before = λ x among stops. h.is_first.none_before x among (stops_back x stops);
      stops = stops_there h.first h.is_first.stops;
    };
    is_kind = h.is_kind;
  }

module _ (s : Seen) (m n : Model) (first : ShowsModel s m) (second : ShowsModel s n) where
  same_live : SameLive m.parted n.parted
  same_live e = sym (first.partition.live e) ∙ second.partition.live e

  -- they differ in their partitions alone
  same_else : with_parted m n.parted ≡ n
  same_else = rw (first.query, first.ancestors, first.steps, first.trails, first.marks, first.asked, first.lowest)
      (sym (rw (second.query, second.ancestors, second.steps, second.trails, second.marks, second.asked, second.lowest) refl))

  pub closed_along : (g : Graph) (c : Closing) → IsClosedAs g m c → IsClosedAs g n c
  closed_along g c h = subst (λ (k : Model). IsClosedAs g k c) same_else (closed_there g m n.parted same_live c h)
