use Rattle.std.proofs.Common.{◌≡◌, suc, ◌+◌, ◌-◌, ◌++◌, length, map}
use Rattle.std.specs.Prelude.{flat_map, vec_capacity}
use Rattle.bolt_core.specs.Boards.{node_of}
use Rattle.bolt_core.specs.Groups.{group, places_from}
use Rattle.bolt_core.specs.steps.Closes.{done, members_on, told_of}
use Rattle.bolt_core.proofs.closing.show_group.Given as goal

abbrev pub ghost-show_level : goal.ghost-show_level
ghost-show_level g a = g.base

abbrev pub invariant-loop-at : goal.invariant-loop-at
invariant-loop-at g l = record {
  slots : l.slots ≡ done g.base l.lead l.level l.at 0 l.place;
  room : l.table.room ≡ l.fn.table.room;
  table : l.table.summaries
      ++ told_of (map node_of g.base) (flat_map (members_on (map node_of g.base) l.lead l.level)
      (places_from l.at ((suc l.level + length (map node_of g.base)) - l.at)))
      ≡ l.fn.table.summaries ++ told_of (map node_of g.base) (group (map node_of g.base) l.lead l.level);
  space : vec_capacity l.origins ≡ vec_capacity l.fn.origins;
  origins : l.origins.items
      ++ flat_map (members_on (map node_of g.base) l.lead l.level)
      (places_from l.at ((suc l.level + length (map node_of g.base)) - l.at))
      ≡ l.fn.origins.items ++ group (map node_of g.base) l.lead l.level;
}
