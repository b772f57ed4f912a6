use Rattle.std.proofs.Common.{◌≡◌, suc, ◌+◌, ◌<◌, List, length, refl, ap, ◌∙◌, arith}
use Rattle.std.specs.Prelude.{vec_capacity}
use Rattle.bolt_core.specs.declared.slot.Slot.{Slot}
use Rattle.bolt_core.proofs.Showing.{all_over, done_length, last_level, lead_level, level_next, level_room, levels_over, numbers_next, numbers_over, numbers_room}
use Rattle.bolt_core.proofs.closing.show_group.Goals as goal

pub overflow_step-at : goal.overflow_step-at
overflow_step-at g c = omega (
  arith,
  c.requires.1.0,
  lead_level g.base c.args.lead c.args.level c.args.place c.requires.0,
)

pub overflow_cast-at-end : goal.overflow_cast-at-end
overflow_cast-at-end g c = omega (
  arith,
  c.requires.1.0,
  ap (λ (xs : List Slot). length xs) c.requires.1.1.0,
  done_length g.base c.args.lead c.args.level c.args.place c.requires.0 (suc c.args.level) 0,
)

pub show_level-requires : goal.show_level-requires
show_level-requires g c =
    let lt : c.loop-at.at < length g.base = omega (
      arith,
      c.loop-at-test.true,
      ap (λ (xs : List Slot). length xs) c.requires.1.1.0,
      done_length g.base c.args.lead c.args.level c.args.place c.requires.0 (suc c.args.level) 0,
    ) in (
      c.requires.0,
      (
        omega (arith, c.loop-at.auto.at),
        (
          c.requires.1.0,
          (
            c.loop-at.invariant.slots,
            (
              omega (
                arith,
                c.loop-at.invariant.room,
                level_room g.base c.args.lead c.args.level c.args.place c.requires.0 c.loop-at.at lt c.loop-at.table.summaries _
                    c.args.table.now.room c.loop-at.invariant.table c.requires.1.1.1.0,
              ),
              omega (
                arith,
                c.loop-at.invariant.space,
                numbers_room g.base c.args.lead c.args.level c.args.place c.requires.0 c.loop-at.at lt c.loop-at.origins.items _
                    (vec_capacity c.args.origins.now) c.loop-at.invariant.origins c.requires.1.1.1.1,
              ),
            ),
          ),
        ),
      ),
    )

pub returns-then-not-show_level-clause-slots : goal.returns-then-not-show_level-clause-slots
returns-then-not-show_level-clause-slots g c =
    let lt : c.loop-at.at < length g.base = omega (
      arith,
      c.loop-at-test.true,
      ap (λ (xs : List Slot). length xs) c.requires.1.1.0,
      done_length g.base c.args.lead c.args.level c.args.place c.requires.0 (suc c.args.level) 0,
    ) in
    let n = level_next g.base c.args.lead c.args.level c.args.place c.requires.0 c.loop-at.at (suc c.loop-at.at) refl lt
    c.show_level.new.slots c.show_level.ensures.slots c.loop-at.table.summaries c.show_level.new.table.summaries _
    c.loop-at.invariant.table c.show_level.ensures.table in
    let b = last_level g.base c.args.lead c.args.level c.args.place c.requires.0 c.loop-at.at (suc c.loop-at.at) refl
    (omega (arith, c.loop-at.auto.at)) (c.show_level.ensures.none c.if-not-show_level.true) in
    (levels_over g.base c.args.lead c.args.level c.args.place c.requires.0 (suc c.loop-at.at) b c.show_level.new.slots n.0
    c.show_level.new.table.summaries _ n.1).0

pub returns-then-not-show_level-clause-table : goal.returns-then-not-show_level-clause-table
returns-then-not-show_level-clause-table g c =
    let lt : c.loop-at.at < length g.base = omega (
      arith,
      c.loop-at-test.true,
      ap (λ (xs : List Slot). length xs) c.requires.1.1.0,
      done_length g.base c.args.lead c.args.level c.args.place c.requires.0 (suc c.args.level) 0,
    ) in
    let n = level_next g.base c.args.lead c.args.level c.args.place c.requires.0 c.loop-at.at (suc c.loop-at.at) refl lt
    c.show_level.new.slots c.show_level.ensures.slots c.loop-at.table.summaries c.show_level.new.table.summaries _
    c.loop-at.invariant.table c.show_level.ensures.table in
    let b = last_level g.base c.args.lead c.args.level c.args.place c.requires.0 c.loop-at.at (suc c.loop-at.at) refl
    (omega (arith, c.loop-at.auto.at)) (c.show_level.ensures.none c.if-not-show_level.true) in
    (levels_over g.base c.args.lead c.args.level c.args.place c.requires.0 (suc c.loop-at.at) b c.show_level.new.slots n.0
    c.show_level.new.table.summaries _ n.1).1

pub returns-then-not-show_level-clause-origins : goal.returns-then-not-show_level-clause-origins
returns-then-not-show_level-clause-origins g c =
    let lt : c.loop-at.at < length g.base = omega (
      arith,
      c.loop-at-test.true,
      ap (λ (xs : List Slot). length xs) c.requires.1.1.0,
      done_length g.base c.args.lead c.args.level c.args.place c.requires.0 (suc c.args.level) 0,
    ) in
    let n = numbers_next g.base c.args.lead c.args.level c.args.place c.requires.0 c.loop-at.at (suc c.loop-at.at) refl lt
    c.loop-at.origins.items c.show_level.new.origins.items _ c.loop-at.invariant.origins c.show_level.ensures.origins in
    let b = last_level g.base c.args.lead c.args.level c.args.place c.requires.0 c.loop-at.at (suc c.loop-at.at) refl
    (omega (arith, c.loop-at.auto.at)) (c.show_level.ensures.none c.if-not-show_level.true) in
    numbers_over g.base c.args.lead c.args.level c.args.place c.requires.0 (suc c.loop-at.at) b c.show_level.new.origins.items _ n

pub returns-then-not-show_level-clause-space : goal.returns-then-not-show_level-clause-space
returns-then-not-show_level-clause-space g c = c.show_level.ensures.space ∙ c.loop-at.invariant.space

pub loop-at-preserved : goal.loop-at-preserved
loop-at-preserved g c =
    let lt : c.loop-at.at < length g.base = omega (
      arith,
      c.loop-at-test.true,
      ap (λ (xs : List Slot). length xs) c.requires.1.1.0,
      done_length g.base c.args.lead c.args.level c.args.place c.requires.0 (suc c.args.level) 0,
    ) in
    let e : c.loop-at.at + 1 ≡ suc c.loop-at.at = omega arith in
    let n = level_next g.base c.args.lead c.args.level c.args.place c.requires.0 c.loop-at.at (c.loop-at.at + 1) e lt
    c.show_level.new.slots c.show_level.ensures.slots c.loop-at.table.summaries c.show_level.new.table.summaries _
    c.loop-at.invariant.table c.show_level.ensures.table in
    record {
      slots = n.0;
      room = c.show_level.ensures.room ∙ c.loop-at.invariant.room;
      table = n.1;
      space = c.show_level.ensures.space ∙ c.loop-at.invariant.space;
      origins = numbers_next g.base c.args.lead c.args.level c.args.place c.requires.0 c.loop-at.at (c.loop-at.at + 1) e lt
          c.loop-at.origins.items c.show_level.new.origins.items _ c.loop-at.invariant.origins c.show_level.ensures.origins;
    }

pub returns-clause-slots : goal.returns-clause-slots
returns-clause-slots g c =
    let b = all_over g.base c.args.lead c.args.level c.args.place c.requires.0 c.loop-at.at (omega (
      arith,
      c.loop-at-test.false,
      ap (λ (xs : List Slot). length xs) c.requires.1.1.0,
      done_length g.base c.args.lead c.args.level c.args.place c.requires.0 (suc c.args.level) 0,
    )) in
    (levels_over g.base c.args.lead c.args.level c.args.place c.requires.0 c.loop-at.at b c.loop-at.slots c.loop-at.invariant.slots
    c.loop-at.table.summaries _ c.loop-at.invariant.table).0

pub returns-clause-table : goal.returns-clause-table
returns-clause-table g c =
    let b = all_over g.base c.args.lead c.args.level c.args.place c.requires.0 c.loop-at.at (omega (
      arith,
      c.loop-at-test.false,
      ap (λ (xs : List Slot). length xs) c.requires.1.1.0,
      done_length g.base c.args.lead c.args.level c.args.place c.requires.0 (suc c.args.level) 0,
    )) in
    (levels_over g.base c.args.lead c.args.level c.args.place c.requires.0 c.loop-at.at b c.loop-at.slots c.loop-at.invariant.slots
    c.loop-at.table.summaries _ c.loop-at.invariant.table).1

pub returns-clause-origins : goal.returns-clause-origins
returns-clause-origins g c =
    let b = all_over g.base c.args.lead c.args.level c.args.place c.requires.0 c.loop-at.at (omega (
      arith,
      c.loop-at-test.false,
      ap (λ (xs : List Slot). length xs) c.requires.1.1.0,
      done_length g.base c.args.lead c.args.level c.args.place c.requires.0 (suc c.args.level) 0,
    )) in
    numbers_over g.base c.args.lead c.args.level c.args.place c.requires.0 c.loop-at.at b c.loop-at.origins.items _
    c.loop-at.invariant.origins
