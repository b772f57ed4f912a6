use Rattle.std.proofs.Common.{◌∙◌, rules, sym, tests}
use Rattle.std.proofs.lemmas.Iterator.{YieldsList-from_slice}
use Rattle.std.proofs.lemmas.Iterator.Search.{any_from_yields_List}
use Rattle.report_text.specs.Sweeps.{entry_of, is_unfound_entry}
use Rattle.report_text.proofs.Entries.{list_any_map}
use Rattle.report_text.proofs.sweeps.is_any_unfound.Goals as goal

pub returns : goal.returns
returns c =
    any_from_yields_List (λ o. is_unfound_entry (entry_of o)) _ _ c.any.result c.any.ensures.ran (YieldsList-from_slice c.args.found.now cc)
    (λ x b q k. search (rules, tests))
    ∙ sym (list_any_map is_unfound_entry entry_of c.args.found.now)
