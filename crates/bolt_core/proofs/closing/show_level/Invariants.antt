use Rattle.std.proofs.Common.{◌≡◌, ◌-◌, ◌++◌, length, map, false}
use Rattle.std.specs.Prelude.{filter, vec_capacity}
use Rattle.bolt_core.specs.Boards.{node_of}
use Rattle.bolt_core.specs.Groups.{places_from}
use Rattle.bolt_core.specs.steps.Closes.{done, members_on, on_level, told_of}
use Rattle.bolt_core.proofs.closing.show_level.Given as goal

abbrev pub invariant-loop-id : goal.invariant-loop-id
invariant-loop-id g l = record {
  slots : l.slots ≡ done g.base l.lead l.level l.at l.id l.place;
  room : l.table.room ≡ l.fn.table.room;
  table : l.table.summaries
      ++ told_of (map node_of g.base)
      (filter (on_level (map node_of g.base) l.lead l.level l.at) (places_from l.id (length (map node_of g.base) - l.id)))
      ≡ l.fn.table.summaries ++ told_of (map node_of g.base) (members_on (map node_of g.base) l.lead l.level l.at);
  space : vec_capacity l.origins ≡ vec_capacity l.fn.origins;
  origins : l.origins.items
      ++ filter (on_level (map node_of g.base) l.lead l.level l.at) (places_from l.id (length (map node_of g.base) - l.id))
      ≡ l.fn.origins.items ++ members_on (map node_of g.base) l.lead l.level l.at;
  none : l.any ≡ false →
      filter (on_level (map node_of g.base) l.lead l.level l.at) (places_from l.id (length (map node_of g.base) - l.id))
      ≡ members_on (map node_of g.base) l.lead l.level l.at;
}
