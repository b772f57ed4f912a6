use Rattle.std.proofs.Common.{◌≡◌, ap, sym, ◌∙◌, length, map, rules}
use Rattle.std.proofs.lemmas.List.{length-map}
use Rattle.c_tree.specs.SourceView.{identifier_of}
use Rattle.c_tree.specs.FileView.{procedure_tree_of}
use Rattle.c_typing.proofs.Defined.{added}
use Rattle.c_typing.proofs.table.add.Goals as goal

pub returns-in_ok-insert : goal.returns-in_ok-insert
returns-in_ok-insert c =
    let p = c.args.procedure.now in
    let count : c.len.result ≡ length (map identifier_of p.params.items) = search (rules, length-map p.params.items identifier_of) in
    added c.as_str-name.result.now c.args.definitions.now c.insert.new.self _ (procedure_tree_of p) c.args.number
    c.as_str-name.ensures.value
    (ap (λ k. record { number = c.args.number; params = k; void = p.void }) count)
    (sym c.contains_key.ensures ∙ c.if-not-contains_key.true) c.in_ok-insert.ensures.updates
