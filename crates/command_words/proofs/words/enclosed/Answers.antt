use Rattle.std.proofs.Common.{◌∷◌, [], Some}
use Rattle.std.proofs.lemmas.Bool.Decides.{Decides-eqb}
use Rattle.std.proofs.lemmas.Slice.Eq.{strip_prefix_is, strip_suffix_is}
use Rattle.command_words.proofs.WordsLists.{encloses_some}
use Rattle.command_words.proofs.words.enclosed.Goals as goal

pub returns-clause-some : goal.returns-clause-some
returns-clause-some c =
    let middle = c.in_ok-strip_prefix.field-0.now in
    encloses_some c.args.text.now middle (strip_prefix_is Decides-eqb c.args.text.now (91 ∷ []) (Some c.in_ok-strip_prefix.field-0)
    c.in_ok-strip_prefix.ensures.cases) c.strip_suffix.result
    (strip_suffix_is Decides-eqb middle (93 ∷ []) c.strip_suffix.result c.strip_suffix.ensures.cases)
