use Rattle.std.proofs.Common.{◌≡◌, ◌++◌, map, None, sym, ap, ◌∙◌, arith, append-nil}
use Rattle.std.specs.Prelude.{vec_capacity}
use Rattle.query_tree.specs.Forest.{changed}
use Rattle.bolt_core.specs.declared.slot.ClosedAs.TheVariants as how
use Rattle.bolt_core.specs.Boards.{node_of}
use Rattle.bolt_core.specs.Groups.{publishes}
use Rattle.bolt_core.specs.Origins.{closed_ids}
use Rattle.bolt_core.specs.steps.Closes.{kept_slot, only_at, shown_slot}
use Rattle.bolt_core.proofs.Settling.{kept_at, kept_numbers, lead_done, lead_room, lead_slots, lead_table, must_slots, must_table, numbers_all, numbers_more, numbers_some, room_first}
use Rattle.bolt_core.proofs.closing.settle.Goals as goal

pub show-requires-clause-room : goal.show-requires-clause-room
show-requires-clause-room g c =
    let e : c.args.how ≡ how.NotMay None = c.in-NotMay.is ∙ ap how.NotMay c.in-None.is in
    room_first g.base c.args.id c.args.level c.args.place c.requires.0 c.args.how c.args.summary c.args.table.now.summaries
    c.args.table.now.room c.requires.1.1.1.0 (ap publishes e)

pub show-requires-in-Must-clause-room : goal.show-requires-in-Must-clause-room
show-requires-in-Must-clause-room g c =
    room_first g.base c.args.id c.args.level c.args.place c.requires.0 c.args.how c.args.summary c.args.table.now.summaries
    c.args.table.now.room c.requires.1.1.1.0 (ap publishes c.in-Must.is)

pub show-requires-clause-numbers : goal.show-requires-clause-numbers
show-requires-clause-numbers g c =
    kept_numbers g.base c.args.id c.args.level c.args.place c.requires.0 c.args.how c.args.summary c.args.table.now.summaries
    c.args.table.now.room c.requires.1.1.1.0 c.keep.new.slots
    (c.keep.ensures ∙ ap (changed (only_at c.args.id (kept_slot c.args.how c.args.summary))) c.requires.1.1.0)

pub show-requires-in-Must-clause-numbers : goal.show-requires-in-Must-clause-numbers
show-requires-in-Must-clause-numbers g c =
    kept_numbers g.base c.args.id c.args.level c.args.place c.requires.0 c.args.how c.args.summary c.args.table.now.summaries
    c.args.table.now.room c.requires.1.1.1.0 c.keep.new.slots
    (c.keep.ensures ∙ ap (changed (only_at c.args.id (kept_slot c.args.how c.args.summary))) c.requires.1.1.0)

pub show_group-requires : goal.show_group-requires
show_group-requires g c =
    let e : c.args.how ≡ how.NotMay None = c.in-NotMay.is ∙ ap how.NotMay c.in-None.is in
    let is = c.keep.ensures ∙ ap (changed (only_at c.args.id (kept_slot c.args.how c.args.summary))) c.requires.1.1.0 in
    let told = c.show.ensures.table _ (kept_at g.base c.args.id c.args.level c.args.place c.requires.0 c.args.how c.args.summary
    c.args.table.now.summaries c.args.table.now.room c.requires.1.1.1.0 c.keep.new.slots is) in (
      c.requires.0,
      (
        c.requires.1.0,
        (
          c.show.ensures.slots ∙ (ap (changed (only_at c.args.id (shown_slot c.args.place))) is
              ∙ lead_slots g.base c.args.id c.args.level c.args.place c.requires.0 c.args.how c.args.summary c.args.table.now.summaries
              c.args.table.now.room c.requires.1.1.1.0 e),
          (
            omega (
              arith,
              c.show.ensures.room,
              lead_room g.base c.args.id c.args.level c.args.place c.requires.0 c.args.how c.args.summary c.args.table.now.summaries
                  c.args.table.now.room c.requires.1.1.1.0 e c.show.new.table.summaries told,
            ),
            omega (
              arith,
              c.show.ensures.space,
              numbers_more (map node_of g.base) c.args.id c.args.level c.args.how e c.args.origins.now.items c.show.new.origins.items
                  (vec_capacity c.args.origins.now) c.show.ensures.origins c.requires.1.1.1.1,
            ),
          ),
        ),
      ),
    )

pub returns-in-None-clause-slots : goal.returns-in-None-clause-slots
returns-in-None-clause-slots g c =
    let e : c.args.how ≡ how.NotMay None = c.in-NotMay.is ∙ ap how.NotMay c.in-None.is in
    lead_done g.base c.args.id c.args.level c.args.place c.requires.0 c.args.how c.args.summary c.args.table.now.summaries
    c.args.table.now.room c.requires.1.1.1.0 e c.show_group.new.slots c.show_group.ensures.slots

pub returns-in-None-clause-table : goal.returns-in-None-clause-table
returns-in-None-clause-table g c own a =
    let e : c.args.how ≡ how.NotMay None = c.in-NotMay.is ∙ ap how.NotMay c.in-None.is in
    let is = c.keep.ensures ∙ ap (changed (only_at c.args.id (kept_slot c.args.how c.args.summary))) c.requires.1.1.0 in
    let told = c.show.ensures.table _ (kept_at g.base c.args.id c.args.level c.args.place c.requires.0 c.args.how c.args.summary
    c.args.table.now.summaries c.args.table.now.room c.requires.1.1.1.0 c.keep.new.slots is) in
    lead_table g.base c.args.id c.args.level c.args.place c.requires.0 c.args.how c.args.summary c.args.table.now.summaries
    c.args.table.now.room c.requires.1.1.1.0 e c.show.new.table.summaries c.show_group.new.table.summaries told c.show_group.ensures.table
    own a

pub returns-in-Must-clause-slots : goal.returns-in-Must-clause-slots
returns-in-Must-clause-slots g c =
    let is = c.keep.ensures ∙ ap (changed (only_at c.args.id (kept_slot c.args.how c.args.summary))) c.requires.1.1.0 in
    c.show-in-Must.ensures.slots ∙ (ap (changed (only_at c.args.id (shown_slot c.args.place))) is
    ∙ must_slots g.base c.args.id c.args.level c.args.place c.requires.0 c.args.how c.args.summary c.args.table.now.summaries
    c.args.table.now.room c.requires.1.1.1.0 c.in-Must.is)

pub returns-in-Must-clause-table : goal.returns-in-Must-clause-table
returns-in-Must-clause-table g c own a =
    let is = c.keep.ensures ∙ ap (changed (only_at c.args.id (kept_slot c.args.how c.args.summary))) c.requires.1.1.0 in
    must_table g.base c.args.id c.args.level c.args.place c.requires.0 c.args.how c.args.summary c.args.table.now.summaries
    c.args.table.now.room c.requires.1.1.1.0 c.in-Must.is c.show-in-Must.new.table.summaries
    (c.show-in-Must.ensures.table _ (kept_at g.base c.args.id c.args.level c.args.place c.requires.0 c.args.how c.args.summary
    c.args.table.now.summaries c.args.table.now.room c.requires.1.1.1.0 c.keep.new.slots is)) own a

pub show-requires-clause-space : goal.show-requires-clause-space
show-requires-clause-space g c =
    numbers_some (map node_of g.base) c.args.id c.args.level c.args.how (ap publishes (c.in-NotMay.is ∙ ap how.NotMay c.in-None.is))
    c.args.origins.now.items (vec_capacity c.args.origins.now) c.requires.1.1.1.1

pub show-requires-in-Must-clause-space : goal.show-requires-in-Must-clause-space
show-requires-in-Must-clause-space g c =
    numbers_some (map node_of g.base) c.args.id c.args.level c.args.how (ap publishes c.in-Must.is) c.args.origins.now.items
    (vec_capacity c.args.origins.now) c.requires.1.1.1.1

pub returns-in-None-clause-space : goal.returns-in-None-clause-space
returns-in-None-clause-space g c = c.show_group.ensures.space ∙ c.show.ensures.space

pub returns-in-None-clause-origins : goal.returns-in-None-clause-origins
returns-in-None-clause-origins g c =
    numbers_all (map node_of g.base) c.args.id c.args.level c.args.how (c.in-NotMay.is ∙ ap how.NotMay c.in-None.is)
    c.args.origins.now.items c.show.new.origins.items c.show.ensures.origins c.show_group.new.origins.items c.show_group.ensures.origins

pub returns-in-Must-clause-origins : goal.returns-in-Must-clause-origins
returns-in-Must-clause-origins g c = c.show-in-Must.ensures.origins
    ∙ ap (λ h. c.args.origins.now.items ++ closed_ids (map node_of g.base) c.args.id c.args.level h) (sym c.in-Must.is)

pub returns-in-Some-clause-origins : goal.returns-in-Some-clause-origins
returns-in-Some-clause-origins g c = sym (append-nil c.args.origins.now.items)
    ∙ ap (λ h. c.args.origins.now.items ++ closed_ids (map node_of g.base) c.args.id c.args.level h)
    (sym (c.in-NotMay.is ∙ ap how.NotMay c.in-Some.is))

pub returns-in-Stuck-clause-origins : goal.returns-in-Stuck-clause-origins
returns-in-Stuck-clause-origins g c = sym (append-nil c.args.origins.now.items)
    ∙ ap (λ h. c.args.origins.now.items ++ closed_ids (map node_of g.base) c.args.id c.args.level h) (sym c.in-Stuck.is)
