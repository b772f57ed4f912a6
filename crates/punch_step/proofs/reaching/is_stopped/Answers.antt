use Rattle.std.proofs.Common.{◌≡◌, ◌∙◌, ◌<◌, ℕ, Bool, false, length, arith, sym, ap}
use Rattle.std.specs.Prelude.{IsTrue, ◌↔◌, slice_index}
use Rattle.std.proofs.lemmas.List.{get_or_default}
use Rattle.std.proofs.lemmas.Result.{IfOk-weaker}
use Rattle.flow_graph.specs.declared.graph.Graph.{Graph}
use Rattle.may_partition.specs.Parted.{Parted}
use Rattle.may_partition.specs.Shown.{is_live}
use Rattle.may_partition.specs.declared.region.RegionEdge.{RegionEdge}
use Rattle.query_rules.specs.Closings.{StopsAPath}
use Rattle.query_rules.specs.Steps.{Model}
use Rattle.punch_step.specs.steps.Far.{AreMeasured}
use Rattle.punch_step.specs.steps.Reaching.{IsGround, IsReachedWithout, Lists}
use Rattle.punch_step.proofs.Closings.{stop_apart, stop_dead, stop_is}
use Rattle.punch_step.proofs.OpenWays.{far_reached}
use Rattle.punch_step.proofs.Standing.{live_within}
use Rattle.punch_step.proofs.reaching.is_stopped.Goals as goal

pub returns-then-not-live : goal.returns-then-not-live
returns-then-not-live c = λ g m t far h.
    stop_dead g m c.args.partition.now.edges t h c.args.step.now c.in-Stuck.edge c.in-Stuck.why c.in-Stuck.seen c.in-Stuck.is
    (sym c.live.ensures ∙ c.if-not-live.true)

pub index-requires : goal.index-requires
index-requires c =
    let p = c.args.partition.now in
    let r = live_within (length p.regions) p.edges c.live_within.ensures c.in-Stuck.edge (sym c.live.ensures ∙ c.if-not-live.false) in
    omega (arith, r.1, c.requires.measured.1.least.fars, c.args.reach.now.far.ok.0)

pub returns-then-index-eq0 : goal.returns-then-index-eq0
returns-then-index-eq0 c = λ g m t far h.
    let p = c.args.partition.now in let k = c.in-Stuck.edge in let fars = c.args.reach.now.far.items in
    let r = live_within (length p.regions) p.edges c.live_within.ensures k (sym c.live.ensures ∙ c.if-not-live.false) in
    let low : k.to < length fars = omega (arith, r.1, far.least.fars) in
    let zero : slice_index fars k.to ≡ 0 = sym (c.index.ensures ∙ get_or_default fars k.to c.index.result.now 0 low) ∙ c.if-index-eq0.true
    in
    stop_apart g m p.edges t h c.args.step.now k c.in-Stuck.why c.in-Stuck.seen c.in-Stuck.is
    (λ w. (far_reached p.edges c.args.none.now m.parted (λ e. false) h.lists (λ e. ap (λ l. is_live l e) c.requires.none) (length p.regions)
    t
    fars c.args.reach.now.way.items far k.to).1 w zero)

pub reaches-requires-clause-to : goal.reaches-requires-clause-to
reaches-requires-clause-to c =
    let p = c.args.partition.now in
    (live_within (length p.regions) p.edges c.live_within.ensures c.in-Stuck.edge (sym c.live.ensures ∙ c.if-not-live.false)).0

pub returns : goal.returns
returns c =
    let p = c.args.partition.now in let k = c.in-Stuck.edge in let fars = c.args.reach.now.far.items in let none = c.args.none.now in
    let ways = c.args.reach.now.way.items in
    let lives = sym c.live.ensures ∙ c.if-not-live.false in
    let r = live_within (length p.regions) p.edges c.live_within.ensures k lives in
    let same : (e : RegionEdge) → is_live none e ≡ false = λ e. ap (λ l. is_live l e) c.requires.none in
    IfOk-weaker c.reaches.result
    (λ b. (q : Parted) (bad : RegionEdge → Bool) → Lists p.edges q → ((e : RegionEdge) → is_live none e ≡ bad e) →
    (IsTrue b ↔ IsReachedWithout q bad 0 k.from))
    (λ b. (g : Graph) (m : Model) (t : ℕ) → AreMeasured (length p.regions) p.edges none t fars ways → IsGround p.edges t g m →
    (IsTrue b ↔ StopsAPath g m c.args.step.now))
    (λ b f g m t far h.
    stop_is g m p.edges t h c.args.step.now k c.in-Stuck.why c.in-Stuck.seen c.in-Stuck.is lives
    ((far_reached p.edges none m.parted (λ e. false) h.lists same (length p.regions) t fars ways far k.to).0
    (λ z. c.if-index-eq0.false (c.index.ensures ∙ get_or_default fars k.to c.index.result.now 0 (omega (arith, r.1, far.least.fars)) ∙ z)))
    b (f m.parted (λ e. false) h.lists same))
    c.reaches.ensures
