use Rattle.std.proofs.Common.{◌≡◌, ◌<◌, length, List, Some, sym, ap, ◌∙◌, subst, arith}
use Rattle.std.specs.Prelude.{slice_get, slice_index_or}
use Rattle.std.proofs.lemmas.Option.{slice_get_within}
use Rattle.std.proofs.lemmas.Result.{IfOk-weaker}
use Rattle.flow_graph.specs.declared.graph.Graph.{Graph}
use Rattle.flow_graph.specs.declared.graphs.Graphs.{Graphs}
use Rattle.query_tree.proofs.Lists.{within}
use Rattle.bolt_core.specs.declared.slot.ClosedAs.TheVariants as how
use Rattle.bolt_core.specs.Boards.{IsBoard, Shown}
use Rattle.bolt_core.specs.Histories.{closed_as}
use Rattle.bolt_core.specs.Verdicts.{IsFoundIn}
use Rattle.bolt_core.specs.contracts.board.Board.{the_view}
use Rattle.bolt_core.specs.steps.Targets.{AreInputsAt}
use Rattle.bolt_core.proofs.Firsts.{board_first}
use Rattle.bolt_core.proofs.Targets.{item_there}
use Rattle.bolt_core.proofs.Verdicts.{read_found, read_some, read_target}
use Rattle.bolt_core.proofs.board.Board.inputs_of.Goals as goal

pub payload-requires : goal.payload-requires
payload-requires c =
    let p : Shown = the_view c.self.inside in
    let lt : c.args.root < p.asserts = subst (λ (x : Shown). c.args.root < x.asserts) (sym c.self.view_is) c.requires.root in
    let f = board_first p c.self.invariant.0 c.args.root lt in
    within p.core.entries c.args.root f.own f.at

graph_there : (p : Shown) → IsBoard p → (gs : List Graph) → gs ≡ p.graphs → (g : Graph) → g ≡ slice_index_or gs p.main g →
    slice_get p.graphs p.main ≡ Some g
graph_there p h gs same g is =
    item_there gs p.graphs p.main g same (omega (
      arith,
      slice_get_within p.graphs p.main h.graph h.main,
      ap (λ (xs : List Graph). length xs)
          same,
    ))
    is

pub inputs_found-requires : goal.inputs_found-requires
inputs_found-requires c =
    let b = c.self.inside in
    let p : Shown = the_view b in
    let h = c.self.invariant.0 in
    let lt : c.args.root < p.asserts = subst (λ (x : Shown). c.args.root < x.asserts) (sym c.self.view_is) c.requires.root in
    let told : closed_as p.core.history c.args.root ≡ Some how.Must =
    subst (λ (x : Shown). closed_as x.core.history c.args.root ≡ Some how.Must) (sym c.self.view_is) c.requires.must in
    let g = c.index-as_slice-self.result in
    let at = graph_there p h c.as_slice.result.now (c.as_slice.ensures ∙ ap (λ (x : Graphs). x.graphs) c.deref.ensures) g
    c.index-as_slice-self.is in
    read_target p h c.args.root lt told c.in-Some.state.now c.in-Some.ensures g at

pub unreachable-requires : goal.unreachable-requires
unreachable-requires c =
    let p : Shown = the_view c.self.inside in
    let lt : c.args.root < p.asserts = subst (λ (x : Shown). c.args.root < x.asserts) (sym c.self.view_is) c.requires.root in
    let told : closed_as p.core.history c.args.root ≡ Some how.Must =
    subst (λ (x : Shown). closed_as x.core.history c.args.root ≡ Some how.Must) (sym c.self.view_is) c.requires.must in
    read_some p c.self.invariant.0 c.args.root lt told c.in-None.ensures

pub returns : goal.returns
returns c =
    let b = c.self.inside in
    let p : Shown = the_view b in
    let h = c.self.invariant.0 in
    let lt : c.args.root < p.asserts = subst (λ (x : Shown). c.args.root < x.asserts) (sym c.self.view_is) c.requires.root in
    let told : closed_as p.core.history c.args.root ≡ Some how.Must =
    subst (λ (x : Shown). closed_as x.core.history c.args.root ≡ Some how.Must) (sym c.self.view_is) c.requires.must in
    let g = c.index-as_slice-self.result in
    let s = c.in-Some.state.now in
    let at = graph_there p h c.as_slice.result.now (c.as_slice.ensures ∙ ap (λ (x : Graphs). x.graphs) c.deref.ensures) g
    c.index-as_slice-self.is in
    IfOk-weaker c.inputs_found.result (λ list. AreInputsAt g s list.items) (λ list. IsFoundIn c.args.self.now c.args.root list.items)
    (λ list a. subst (λ (x : Shown). IsFoundIn x c.args.root list.items) c.self.view_is
    (read_found p h c.args.root lt told s c.in-Some.ensures g at list.items a))
    c.inputs_found.ensures
