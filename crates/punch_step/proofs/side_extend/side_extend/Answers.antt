use Rattle.std.proofs.Common.{◌≡◌, ◌∙◌, List, Some, refl, sym, ap}
use Rattle.std.specs.Prelude.{slice_get}
use Rattle.std.proofs.lemmas.Option.{slice_get_read}
use Rattle.flow_graph.proofs.Slots.{edges_name_slots}
use Rattle.flow_graph.specs.declared.graph.Edge.{Edge}
use Rattle.must_region.specs.Traces.{trace_of}
use Rattle.must_region.specs.declared.trail.Trail.{Trail}
use Rattle.query_rules.specs.declared.step.Mark.{Mark}
use Rattle.punch_step.specs.Sides.{IsLanded}
use Rattle.punch_step.proofs.SideSteps.{leaves_there, sides_here, steps_over}
use Rattle.punch_step.proofs.side_extend.side_extend.Goals as goal

pub extend-requires-clause-leaves : goal.extend-requires-clause-leaves
extend-requires-clause-leaves c =
    let h = c.requires.state in let g = c.args.graph.now in let s = c.args.state.now in let k = c.args.edge in
    let n = c.args.number in let mark = c.in-Some.mark.now in let over = c.in-Some-get.over.now in
    let trail = c.in-Some-get-2.trail.now in
    let e = c.in-Some.ensures.lookup in
    let among : slice_get s.marks n ≡ Some mark = ap (λ (xs : List Mark). slice_get xs n) (sym c.marks.ensures)
    ∙ slice_get_read c.marks.result.now _ n mark refl e.3.0 e.1 in
    let f = c.in-Some-get.ensures.lookup in
    let at_edge : slice_get g.edges k.edge ≡ Some over = ap (λ (xs : List Edge). slice_get xs k.edge) (sym c.as_slice.ensures)
    ∙ slice_get_read c.as_slice.result.now _ k.edge over refl f.3.0 f.1 in
    let l = c.in-Some-get-2.ensures.lookup in
    let there : slice_get s.trails mark.trail ≡ Some trail = ap (λ (xs : List Trail). slice_get xs mark.trail) (sym c.trails.ensures)
    ∙ slice_get_read c.trails.result.now _ mark.trail trail refl l.3.0 l.1 in
    leaves_there h.0 h.1 g s h.2 h.3 c.args.distances.now.target k (c.is_side.ensures.side c.if-not-is_side.false h.2 h.3.shows) n mark
    among
    c.if-edge-mark.false c.if-edge-eq0.false over at_edge trail there

pub extend-requires-clause-slots : goal.extend-requires-clause-slots
extend-requires-clause-slots c =
    let g = c.args.graph.now in let k = c.args.edge in let over = c.in-Some-get.over.now in
    let f = c.in-Some-get.ensures.lookup in
    let at_edge : slice_get g.edges k.edge ≡ Some over = ap (λ (xs : List Edge). slice_get xs k.edge) (sym c.as_slice.ensures)
    ∙ slice_get_read c.as_slice.result.now _ k.edge over refl f.3.0 f.1 in
    edges_name_slots g k.edge over at_edge

pub returns-in-Ok-clause-step : goal.returns-in-Ok-clause-step
returns-in-Ok-clause-step c =
    let g = c.args.graph.now in let s = c.args.state.now in let k = c.args.edge in
    let n = c.args.number in let mark = c.in-Some.mark.now in let over = c.in-Some-get.over.now in
    let trail = c.in-Some-get-2.trail.now in
    let e = c.in-Some.ensures.lookup in
    let among : slice_get s.marks n ≡ Some mark = ap (λ (xs : List Mark). slice_get xs n) (sym c.marks.ensures)
    ∙ slice_get_read c.marks.result.now _ n mark refl e.3.0 e.1 in
    let f = c.in-Some-get.ensures.lookup in
    let at_edge : slice_get g.edges k.edge ≡ Some over = ap (λ (xs : List Edge). slice_get xs k.edge) (sym c.as_slice.ensures)
    ∙ slice_get_read c.as_slice.result.now _ k.edge over refl f.3.0 f.1 in
    let l = c.in-Some-get-2.ensures.lookup in
    let there : slice_get s.trails mark.trail ≡ Some trail = ap (λ (xs : List Trail). slice_get xs mark.trail) (sym c.trails.ensures)
    ∙ slice_get_read c.trails.result.now _ mark.trail trail refl l.3.0 l.1 in
    let u = trace_of c.in-Ok.carried in
    sides_here c.landed.result (IsLanded s u mark k) g s (λ made lands gs table m at a turn.
    steps_over gs table g s m a c.args.distances.now.target k (c.is_side.ensures.side c.if-not-is_side.false m a.shows) n mark among
    c.if-edge-mark.false c.if-edge-eq0.false over at_edge trail there c.requires.target (sym c.is_call.ensures ∙ c.if-is_call.false) at turn
    u c.in-Ok.ensures.trail c.in-Ok.ensures.decided made lands) c.landed.ensures
