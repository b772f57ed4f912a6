use Rattle.std.proofs.Common.{◌≡◌, ◌++◌, drop, map}
use Rattle.std.specs.Prelude.{flat_map, string_bytes}
use Rattle.proof_bundle.proofs.part.write_list.Given as goal

abbrev pub invariant-loop-item : goal.invariant-loop-item
invariant-loop-item g l =
    string_bytes l.out ++ flat_map g.T.Part.text (map g.T.Part.pure (drop l.item-index l.items)) ≡ string_bytes l.initial.out
    ++ flat_map g.T.Part.text (map g.T.Part.pure l.items)
