use Rattle.std.proofs.Common.{◌≡◌, ◌-◌, ◌≤◌, [], length, map, drop}
use Rattle.c_tree.specs.SourceView.{identifier_of}
use Rattle.c_tree.specs.FileView.{global_of}
use Rattle.c_parser.specs.steps.Machine.{GlobalNamed, GlobalRead, limited}
use Rattle.c_parser.specs.steps.Parsing.{text_of}
use Rattle.c_parser.proofs.globals.globals.Given as goal

abbrev pub invariant-globals : goal.invariant-globals
invariant-globals l = record {
  later : l.fn.at ≤ l.next;
  within : l.next ≤ length (text_of l.source);
  leads : limited (drop l.fn.at (text_of l.source)) (GlobalNamed (identifier_of l.fn.first) [])
      ≡ limited (drop l.next (text_of l.source)) (GlobalRead (map global_of l.found.items));
}

abbrev pub decreases-globals : goal.decreases-globals
decreases-globals l = length l.source.tokens.now - l.next
