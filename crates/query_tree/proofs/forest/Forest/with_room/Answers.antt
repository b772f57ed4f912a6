use Rattle.std.proofs.Common.{rules}
use Rattle.query_tree.proofs.Chains.{no_links}
use Rattle.query_tree.proofs.Counting.{no_counts}
use Rattle.query_tree.proofs.Feed.{none_kept}
use Rattle.query_tree.proofs.forest.Forest.with_room.Goals as goal

pub invariant_of-result : goal.invariant_of-result
invariant_of-result g c =
    let live = c.in_ok-with_room-2.ensures in
    let kin = c.in_ok-with_room-3.ensures in
    record {
      kept = none_kept _ c.in_ok-with_capacity.ensures.items;
      within = search rules;
      reserved = search rules;
      small = search rules;
      list_room = search rules;
      covers = search rules;
      live_room = live.0;
      counts = no_counts _ _ c.in_ok-with_capacity.ensures.items live.1 live.2;
      kin_room = kin.0;
      links = no_links _ _ c.in_ok-with_capacity.ensures.items kin.1 kin.2;
    }
