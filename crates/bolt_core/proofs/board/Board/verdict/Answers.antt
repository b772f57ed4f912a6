use Rattle.std.proofs.Common.{◌≡◌, ℕ, ◌<◌, List, length, map, get_or, Some, refl, sym, ap, ◌∙◌, subst, true, arith}
use Rattle.query_tree.proofs.Lists.{at_place, within}
use Rattle.bolt_core.specs.declared.slot.ClosedAs.TheVariants as how
use Rattle.bolt_core.specs.declared.slot.Slot.{Slot}
use Rattle.bolt_core.specs.Boards.{IsBoard, Shown, node_of}
use Rattle.bolt_core.specs.Histories.{closed_as}
use Rattle.bolt_core.specs.Machine.{is_over}
use Rattle.bolt_core.specs.States.{reads}
use Rattle.bolt_core.specs.Verdicts.{HasSpent, IsGivenUpIn, IsProvedIn}
use Rattle.bolt_core.specs.contracts.board.Board.{the_view}
use Rattle.bolt_core.proofs.Firsts.{board_first}
use Rattle.bolt_core.proofs.JobsTaken.{has_slot, slot_closed}
use Rattle.bolt_core.proofs.Verdicts.{given_up_in, proved_in, spent_in}
use Rattle.bolt_core.proofs.board.Board.verdict.Goals as goal

-- a root has a slot, which keeps as what it closed
module _ (p : Shown) (h : IsBoard p) (i : ℕ) (lt : i < p.asserts) (ss : List Slot) (same : p.core.nodes ≡ map node_of ss) where
  has_one : i < length ss
  has_one =
      let f = board_first p h i lt in
      omega (arith, within p.core.entries i f.own f.at, has_slot p h ss same)

  tells : (s : Slot) → s ≡ get_or ss i s → closed_as p.core.history i ≡ s.closed
  tells s is = sym (slot_closed p h ss same i s (at_place ss i s has_one ∙ ap Some (sym is)))

pub index-requires : goal.index-requires
index-requires c =
    let b = c.self.inside in
    let p : Shown = the_view b in
    let lt : c.args.root < p.asserts = subst (λ (x : Shown). c.args.root < x.asserts) (sym c.self.view_is) c.requires.root in
    omega (arith, has_one p c.self.invariant.0 c.args.root lt b.slots.items refl, b.slots.ok.0)

pub returns-in_default : goal.returns-in_default
returns-in_default c =
    let b = c.self.inside in
    let p : Shown = the_view b in
    let i = c.args.root in
    let lt : i < p.asserts = subst (λ (x : Shown). i < x.asserts) (sym c.self.view_is) c.requires.root in
    let over = subst (λ (x : Shown). is_over (reads x.graphs) x.core ≡ true) (sym c.self.view_is) c.requires.over in
    let none = tells p c.self.invariant.0 i lt b.slots.items refl c.index.result.now c.index.ensures in
    subst (λ (x : Shown). HasSpent x i b.budget) c.self.view_is (spent_in p c.self.invariant.0 i lt (none ∙ c.in_default.is) over)

pub inputs_of-requires-clause-must : goal.inputs_of-requires-clause-must
inputs_of-requires-clause-must c =
    let b = c.self.inside in
    let p : Shown = the_view b in
    let i = c.args.root in
    let lt : i < p.asserts = subst (λ (x : Shown). i < x.asserts) (sym c.self.view_is) c.requires.root in
    let told = tells p c.self.invariant.0 i lt b.slots.items refl c.index.result.now c.index.ensures in
    subst (λ (x : Shown). closed_as x.core.history i ≡ Some how.Must) c.self.view_is (told ∙ (c.in-Some.is ∙ ap Some c.in-Must.is))

pub returns-in-NotMay : goal.returns-in-NotMay
returns-in-NotMay c =
    let b = c.self.inside in
    let p : Shown = the_view b in
    let i = c.args.root in
    let lt : i < p.asserts = subst (λ (x : Shown). i < x.asserts) (sym c.self.view_is) c.requires.root in
    let told = tells p c.self.invariant.0 i lt b.slots.items refl c.index.result.now c.index.ensures in
    subst (λ (x : Shown). IsProvedIn x i) c.self.view_is
    (proved_in p c.self.invariant.0 i lt c.in-NotMay.lowest (told ∙ (c.in-Some.is ∙ ap Some c.in-NotMay.is)))

pub returns-in-Stuck : goal.returns-in-Stuck
returns-in-Stuck c =
    let b = c.self.inside in
    let p : Shown = the_view b in
    let i = c.args.root in
    let lt : i < p.asserts = subst (λ (x : Shown). i < x.asserts) (sym c.self.view_is) c.requires.root in
    let told = tells p c.self.invariant.0 i lt b.slots.items refl c.index.result.now c.index.ensures in
    subst (λ (x : Shown). IsGivenUpIn x i c.in-Stuck.kind) c.self.view_is
    (given_up_in p c.self.invariant.0 i lt c.in-Stuck.kind (told ∙ (c.in-Some.is ∙ ap Some c.in-Stuck.is)))
