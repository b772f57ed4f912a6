use Rattle.std.proofs.Common.{◌≡◌, Global, Vec, ℕ, suc, ◌+◌, ◌<◌, ◌++◌, List, Some, refl, subst, length, map, true, false, sym, ap, ◌∙◌, arith, append-nil}
use Rattle.std.specs.Prelude.{slice_get, vec_capacity}
use Rattle.std.proofs.lemmas.Option.{same_Some}
use Rattle.summary_table.specs.Tables.{Listed}
use Rattle.bolt_core.specs.declared.slot.Slot.{Slot}
use Rattle.bolt_core.specs.Boards.{node_of}
use Rattle.bolt_core.specs.steps.Closes.{MayBeAdded, on_level, told_of, value_of}
use Rattle.bolt_core.proofs.Showing.{done_length, left_none, left_on, left_some, left_yes, level_over_all, next_in, parents_in, room_for, start_list, start_slots, walk_no, walk_yes}
use Rattle.bolt_core.proofs.closing.show_level.Goals as goal
use Rattle.bolt_core.proofs.closing.show_level.Goals.{then-joins, else-joins}

pub overflow_cast-id-end : goal.overflow_cast-id-end
overflow_cast-id-end g c = omega (
  arith,
  c.requires.1.1.0,
  ap (λ (xs : List Slot). length xs) c.requires.1.1.1.0,
  done_length g.base c.args.lead c.args.level c.args.place c.requires.0 c.args.at 0,
)

pub loop-id-init : goal.loop-id-init
loop-id-init g c =
    let start = start_list g.base c.args.lead c.args.level c.args.place c.requires.0 c.args.at (c.args.lead + 1) (omega arith) in
    record {
      slots = c.requires.1.1.1.0
          ∙ start_slots g.base c.args.lead c.args.level c.args.place c.requires.0 c.args.at (c.args.lead + 1) (omega arith);
      room = refl;
      table = ap (λ is. c.args.table.now.summaries ++ told_of (map node_of g.base) is) start;
      space = refl;
      origins = ap (λ is. c.args.origins.now.items ++ is) start;
      none = λ _. start;
    }

pub joins-requires-clause-above : goal.joins-requires-clause-above
joins-requires-clause-above g c = subst
    (λ (xs : List Slot). (s : Slot) (p : ℕ) → slice_get xs c.loop-id.id ≡ Some s → s.parent ≡ Some p → p < length xs)
    (sym c.loop-id.invariant.slots)
    (λ s p a up. parents_in g.base c.args.lead c.args.level c.args.place c.requires.0 c.args.at c.loop-id.id c.loop-id.id s p a up)

pub show-requires-clause-room : goal.show-requires-clause-room
show-requires-clause-room g c =
    let q = next_in g.base c.args.lead c.args.level c.args.place c.requires.0 c.args.at c.loop-id.id c.loop-id.slots
    c.loop-id.invariant.slots (omega (arith, c.loop-id-test.true, c.loop-id.auto.slots)) in
    let on : on_level (map node_of g.base) c.args.lead c.args.level c.args.at c.loop-id.id ≡ true =
    sym q.2 ∙ (sym (c.joins.ensures q.0 q.1) ∙ c.if-joins.true) in
    omega (
      arith,
      c.loop-id.invariant.room,
      room_for c.loop-id.table.summaries _ _ c.args.table.now.room c.loop-id.invariant.table c.requires.1.1.1.1.0 (q.3.some on),
    )

pub show-requires-clause-space : goal.show-requires-clause-space
show-requires-clause-space g c =
    let q = next_in g.base c.args.lead c.args.level c.args.place c.requires.0 c.args.at c.loop-id.id c.loop-id.slots
    c.loop-id.invariant.slots (omega (arith, c.loop-id-test.true, c.loop-id.auto.slots)) in
    let on : on_level (map node_of g.base) c.args.lead c.args.level c.args.at c.loop-id.id ≡ true =
    sym q.2 ∙ (sym (c.joins.ensures q.0 q.1) ∙ c.if-joins.true) in
    let lt : c.loop-id.id < length g.base = omega (
      arith,
      c.loop-id-test.true,
      c.loop-id.auto.slots,
      ap (λ (xs : List Slot). length xs) c.loop-id.invariant.slots,
      done_length g.base c.args.lead c.args.level c.args.place c.requires.0 c.args.at c.loop-id.id,
    )
    in
    omega (
      arith,
      c.loop-id.invariant.space,
      room_for c.loop-id.origins.items _ _ (vec_capacity c.args.origins.now) c.loop-id.invariant.origins c.requires.1.1.1.1.1
          (left_some g.base c.args.lead c.args.level c.args.place c.requires.0 c.args.at c.loop-id.id lt on),
    )

pub show-requires-clause-numbers : goal.show-requires-clause-numbers
show-requires-clause-numbers g c s a =
    let q = next_in g.base c.args.lead c.args.level c.args.place c.requires.0 c.args.at c.loop-id.id c.loop-id.slots
    c.loop-id.invariant.slots (omega (arith, c.loop-id-test.true, c.loop-id.auto.slots)) in
    let on : on_level (map node_of g.base) c.args.lead c.args.level c.args.at c.loop-id.id ≡ true =
    sym q.2 ∙ (sym (c.joins.ensures q.0 q.1) ∙ c.if-joins.true) in
    let same : q.0 ≡ s = same_Some _ _ (sym q.1 ∙ a) in
    subst (λ (y : Slot). MayBeAdded (value_of y.summary)) same (q.3.numbers on)

pub loop-id-preserved : goal.loop-id-preserved
loop-id-preserved g c =
    let q = next_in g.base c.args.lead c.args.level c.args.place c.requires.0 c.args.at c.loop-id.id c.loop-id.slots
    c.loop-id.invariant.slots (omega (arith, c.loop-id-test.true, c.loop-id.auto.slots)) in
    let e : c.loop-id.id + 1 ≡ suc c.loop-id.id = omega arith in
    let lt : c.loop-id.id < length g.base = omega (
      arith,
      c.loop-id-test.true,
      c.loop-id.auto.slots,
      ap (λ (xs : List Slot). length xs) c.loop-id.invariant.slots,
      done_length g.base c.args.lead c.args.level c.args.place c.requires.0 c.args.at c.loop-id.id,
    )
    in
    elim c.if-joins.branch [
      | then-joins w ↦
          let on : on_level (map node_of g.base) c.args.lead c.args.level c.args.at c.loop-id.id ≡ true =
          sym q.2 ∙ (sym (c.joins.ensures q.0 q.1) ∙ w.if-joins.true) in
          let f = walk_yes g.base c.args.lead c.args.level c.args.place c.requires.0 c.args.at c.loop-id.id (c.loop-id.id + 1) e q.0 q.3
          on c.loop-id.slots c.if-joins.slots c.loop-id.invariant.slots (w.slots-is ∙ w.show.ensures.slots) c.loop-id.table.summaries
          c.if-joins.table.summaries _ c.loop-id.invariant.table
          (ap (λ (t : Listed). t.summaries) w.table-is ∙ w.show.ensures.table q.0 q.1) in
          record {
            slots = f.0;
            room = ap (λ (t : Listed). t.room) w.table-is ∙ (w.show.ensures.room ∙ c.loop-id.invariant.room);
            table = f.1;
            space = ap vec_capacity w.origins-is ∙ (w.show.ensures.space ∙ c.loop-id.invariant.space);
            origins = left_yes g.base c.args.lead c.args.level c.args.place c.requires.0 c.args.at c.loop-id.id (c.loop-id.id + 1) e lt
                on c.loop-id.origins.items c.if-joins.origins.items _ c.loop-id.invariant.origins
                (ap (λ (v : Vec ℕ Global). v.items) w.origins-is ∙ w.show.ensures.origins);
            none = λ z. let y : true ≡ false = sym w.any-is ∙ z in absurd (cc);
          }
      | else-joins w ↦
          let off : on_level (map node_of g.base) c.args.lead c.args.level c.args.at c.loop-id.id ≡ false =
          sym q.2 ∙ (sym (c.joins.ensures q.0 q.1) ∙ w.if-joins.false) in
          let f = walk_no g.base c.args.lead c.args.level c.args.place c.requires.0 c.args.at c.loop-id.id (c.loop-id.id + 1) e q.0 q.3
          off c.loop-id.slots c.loop-id.invariant.slots in
          record {
            slots = w.slots-is ∙ f.0;
            room = ap (λ (t : Listed). t.room) w.table-is ∙ c.loop-id.invariant.room;
            table = ap (λ (t : Listed). t.summaries ++ told_of (map node_of g.base) (left_on g.base c.args.lead c.args.level c.args.place
                c.requires.0 c.args.at (c.loop-id.id + 1))) w.table-is
                ∙ (ap (λ is. c.loop-id.table.summaries ++ told_of (map node_of g.base) is) f.1 ∙ c.loop-id.invariant.table);
            space = ap vec_capacity w.origins-is ∙ c.loop-id.invariant.space;
            origins = ap (λ (v : Vec ℕ Global). v.items ++ left_on g.base c.args.lead c.args.level c.args.place c.requires.0 c.args.at
                (c.loop-id.id + 1)) w.origins-is
                ∙ (ap (λ is. c.loop-id.origins.items ++ is) f.1 ∙ c.loop-id.invariant.origins);
            none = λ z. f.1 ∙ c.loop-id.invariant.none (sym w.any-is ∙ z);
          }
    ]

pub returns-clause-slots : goal.returns-clause-slots
returns-clause-slots g c = c.loop-id.invariant.slots
    ∙ level_over_all g.base c.args.lead c.args.level c.args.place c.requires.0 c.args.at c.loop-id.id (omega (
      arith,
      c.loop-id-test.false,
      ap (λ (xs : List Slot). length xs) c.requires.1.1.1.0,
      done_length g.base c.args.lead c.args.level c.args.place c.requires.0 c.args.at 0,
    ))

pub returns-clause-table : goal.returns-clause-table
returns-clause-table g c =
    let none = left_none g.base c.args.lead c.args.level c.args.place c.requires.0 c.args.at c.loop-id.id (omega (
      arith,
      c.loop-id-test.false,
      ap (λ (xs : List Slot). length xs) c.requires.1.1.1.0,
      done_length g.base c.args.lead c.args.level c.args.place c.requires.0 c.args.at 0,
    )) in
    sym (ap (λ is. c.loop-id.table.summaries ++ told_of (map node_of g.base) is) none ∙ append-nil c.loop-id.table.summaries)
    ∙ c.loop-id.invariant.table

pub returns-clause-origins : goal.returns-clause-origins
returns-clause-origins g c =
    let none = left_none g.base c.args.lead c.args.level c.args.place c.requires.0 c.args.at c.loop-id.id (omega (
      arith,
      c.loop-id-test.false,
      ap (λ (xs : List Slot). length xs) c.requires.1.1.1.0,
      done_length g.base c.args.lead c.args.level c.args.place c.requires.0 c.args.at 0,
    )) in
    sym (ap (λ is. c.loop-id.origins.items ++ is) none ∙ append-nil c.loop-id.origins.items) ∙ c.loop-id.invariant.origins

pub returns-clause-none : goal.returns-clause-none
returns-clause-none g c z =
    let none = left_none g.base c.args.lead c.args.level c.args.place c.requires.0 c.args.at c.loop-id.id (omega (
      arith,
      c.loop-id-test.false,
      ap (λ (xs : List Slot). length xs) c.requires.1.1.1.0,
      done_length g.base c.args.lead c.args.level c.args.place c.requires.0 c.args.at 0,
    )) in
    sym (c.loop-id.invariant.none z) ∙ none
