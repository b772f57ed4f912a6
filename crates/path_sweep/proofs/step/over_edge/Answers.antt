use Rattle.std.proofs.Common.{◌≡◌, Some, refl, sym, subst, ◌∙◌, ap}
use Rattle.std.specs.Prelude.{slice_get, IfOk, IfErr}
use Rattle.std.proofs.lemmas.Option.{slice_get_within}
use Rattle.linear_formula.specs.declared.formula.Cube.{Cube}
use Rattle.flow_graph.specs.Calls.{CallSite}
use Rattle.flow_graph.specs.Shapes.{source}
use Rattle.flow_graph.proofs.Slots.{edges_name_slots}
use Rattle.must_region.specs.Traces.{trace_of}
use Rattle.shadow_elim.specs.Projection.{IfRefused}
use Rattle.shadow_elim.specs.RightLimit.{IsRight}
use Rattle.path_sweep.specs.Guards.{Stage}
use Rattle.path_sweep.specs.steps.Frames.{IsStage, IsStep, IsWideStep}
use Rattle.path_sweep.proofs.Adding.{call_step, plain_step, plain_wide, edge_here, not_call, waits_at, running, callee_at, callee_read, err_is, refused_map}
use Rattle.path_sweep.proofs.step.over_edge.Goals as goal

pub bounds-graphs-proc : goal.bounds-graphs-proc
bounds-graphs-proc c =
    let k = edge_here c.args.graphs.now c.args.levels.now c.args.frame.now c.args.number c.args.node c.requires.at c.requires.follows
    c.index-graphs-frame.result c.as_slice.result.now c.index-as_slice-number.result c.index-graphs-frame.is c.as_slice.ensures
    c.index-as_slice-number.is in
    let here = subst (λ x. slice_get c.index-graphs-frame.result.edges c.args.number ≡ Some x) c.in-Call.is k.here in
    let callee = callee_at c.args.graphs.now c.requires.linked c.args.frame.now.proc c.index-graphs-frame.result k.at c.args.number
    c.in-Call.from c.in-Call.to (record { procedure = c.in-Call.proc; arguments = c.in-Call.args; results = c.in-Call.results }) here in
    slice_get_within c.args.graphs.now c.in-Call.proc callee.0 callee.1

pub over_call-requires : goal.over_call-requires
over_call-requires c =
    let k = edge_here c.args.graphs.now c.args.levels.now c.args.frame.now c.args.number c.args.node c.requires.at c.requires.follows
    c.index-graphs-frame.result c.as_slice.result.now c.index-as_slice-number.result c.index-graphs-frame.is c.as_slice.ensures
    c.index-as_slice-number.is in
    let here = subst (λ x. slice_get c.index-graphs-frame.result.edges c.args.number ≡ Some x) c.in-Call.is k.here in
    (callee_read c.args.graphs.now c.requires.linked c.args.frame.now.proc c.index-graphs-frame.result k.at c.args.number c.in-Call.from
    c.in-Call.to (record { procedure = c.in-Call.proc; arguments = c.in-Call.args; results = c.in-Call.results }) here
    c.index-graphs-proc.result c.index-graphs-proc.is).1

pub returns-in-Call-clause-step : goal.returns-in-Call-clause-step
returns-in-Call-clause-step c = λ stage h.
    let k = edge_here c.args.graphs.now c.args.levels.now c.args.frame.now c.args.number c.args.node c.requires.at c.requires.follows
    c.index-graphs-frame.result c.as_slice.result.now c.index-as_slice-number.result c.index-graphs-frame.is c.as_slice.ensures
    c.index-as_slice-number.is in
    let here = subst (λ x. slice_get c.index-graphs-frame.result.edges c.args.number ≡ Some x) c.in-Call.is k.here in
    let site : CallSite = record { procedure = c.in-Call.proc; arguments = c.in-Call.args; results = c.in-Call.results } in
    let callee = callee_read c.args.graphs.now c.requires.linked c.args.frame.now.proc c.index-graphs-frame.result k.at c.args.number
    c.in-Call.from
    c.in-Call.to site here c.index-graphs-proc.result c.index-graphs-proc.is in
    call_step c.args.graphs.now c.args.levels.now c.args.frame.now c.in_ok-next.next c.args.symbols c.args.number c.args.node c.in-Call.from
    c.in-Call.to site c.index-graphs-proc.result c.bare.result stage c.requires.at
    c.index-graphs-frame.result k.at here (ap source (sym c.in-Call.is) ∙ k.leaves) callee.0 c.in_ok-next.ensures c.bare.ensures.frame
    c.bare.ensures.rows c.bare.ensures.read c.bare.ensures.symbols h

pub trail_over-requires : goal.trail_over-requires
trail_over-requires c =
    let k = edge_here c.args.graphs.now c.args.levels.now c.args.frame.now c.args.number c.args.node c.requires.at c.requires.follows
    c.index-graphs-frame.result c.as_slice.result.now c.index-as_slice-number.result c.index-graphs-frame.is c.as_slice.ensures
    c.index-as_slice-number.is in
    record {
      no_call = not_call c.index-as_slice-number.result c.in_default.not-Call;
      leaves = k.leaves;
      slots = edges_name_slots c.index-graphs-frame.result c.args.number c.index-as_slice-number.result k.here;
      slot_names = c.requires.slot_names;
      entry_names = c.requires.entry_names;
    }

pub returns-in_err-trail : goal.returns-in_err-trail
returns-in_err-trail c =
    let k = edge_here c.args.graphs.now c.args.levels.now c.args.frame.now c.args.number c.args.node c.requires.at c.requires.follows
    c.index-graphs-frame.result c.as_slice.result.now c.index-as_slice-number.result c.index-graphs-frame.is c.as_slice.ensures
    c.index-as_slice-number.is in
    let is = err_is c.from_residual-in_err-trail.result c.in_err-trail.field-0.0 c.from_residual-in_err-trail.ensures.0
    c.from_residual-in_err-trail.ensures.1 in
    record {
      step = subst (λ r. IfOk r (λ s. (stage : Stage) → IsStage c.args.graphs.now c.args.levels.now c.args.frame.now stage →
          IsStep c.args.graphs.now c.args.levels.now c.args.frame.now c.args.symbols c.args.number s stage)) (sym is) tt;
      limit = subst (λ r. IfErr r (λ e. IfRefused e (λ kept. (stage : Stage) →
          IsStage c.args.graphs.now c.args.levels.now c.args.frame.now stage →
          IsWideStep c.args.graphs.now c.args.symbols c.args.number kept stage))) (sym is)
          (refused_map c.in_err-trail.field-0.0 _ _ (λ kept wide stage h. plain_wide c.args.graphs.now c.args.levels.now c.args.frame.now
          c.args.symbols c.args.number c.args.node c.index-as_slice-number.result kept stage c.requires.at c.index-graphs-frame.result k.at
          k.here
          k.leaves (not_call c.index-as_slice-number.result c.in_default.not-Call) wide h) c.in_err-trail.ensures.limit);
      right = subst (λ r. IfErr r (λ e. IfRefused e IsRight)) (sym is) c.in_err-trail.ensures.right;
    }

pub behind-requires : goal.behind-requires
behind-requires c =
    let n = c.requires.follows in
    let en = running c.args.graphs.now c.args.levels.now c.args.frame.now c.args.node n.stage c.requires.at n.is in
    waits_at c.args.graphs.now c.args.levels.now c.args.frame.now.caller en.ws en.waits

pub returns : goal.returns
returns c =
    let k = edge_here c.args.graphs.now c.args.levels.now c.args.frame.now c.args.number c.args.node c.requires.at c.requires.follows
    c.index-graphs-frame.result c.as_slice.result.now c.index-as_slice-number.result c.index-graphs-frame.is c.as_slice.ensures
    c.index-as_slice-number.is in
    record {
      step = λ stage h. plain_step c.args.graphs.now c.args.levels.now c.args.frame.now c.in_ok-next-2.next c.args.symbols c.args.number
          c.args.node
          c.index-as_slice-number.result record {
            frame = c.in_ok-next-2.next;
            rows = c.in_ok-rows.rows;
            read = c.in_ok-trail.trail.inputs;
            symbols = c.in_ok-trail.trail.symbols;
          } stage c.requires.at c.index-graphs-frame.result k.at k.here k.leaves (not_call c.index-as_slice-number.result
          c.in_default.not-Call)
          (trace_of c.in_ok-trail.trail) c.in_ok-trail.ensures.trail c.in_ok-trail.ensures.decided c.in_ok-next-2.ensures refl
          (ap (λ (x : Cube). x.atoms) c.in_ok-rows.ensures) refl refl h;
      limit = tt;
      right = tt;
    }
