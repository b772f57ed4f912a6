use Rattle.std.proofs.Common.{◌∙◌, map, arith}
use Rattle.c_tree.specs.FileView.{global_of}
use Rattle.c_parser.specs.steps.Parsing.{text_of}
use Rattle.c_parser.proofs.StepsGlobals.{semicolon_turn}
use Rattle.c_parser.proofs.globals.globals.Goals as goal

pub returns-clause-ok : goal.returns-clause-ok
returns-clause-ok c =
    let ts = text_of c.args.source.now in
    let i = c.globals.invariant in
    let q = c.in_ok-end.ensures.ok in
    record {
      later = omega (arith, i.later, q.later);
      within = omega (arith, q.later, q.within);
      leads = i.leads ∙ semicolon_turn ts c.globals.next c.in_ok-end.end (map global_of c.globals.found.items) q;
    }
