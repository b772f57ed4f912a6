use Rattle.std.proofs.Common.{◌≡◌, ◌∙◌, List, ap, sym, subst, map}
use Rattle.std.proofs.lemmas.Result.{IfOk-weaker}
use Rattle.c_tree.specs.FileView.{file_of, item_of}
use Rattle.c_tree.specs.SourceTree.{FileItem}
use Rattle.c_tree.specs.Whole.{program_of}
use Rattle.c_typing.specs.Answer.{IsProgram, IsFirstFault}
use Rattle.c_typing.proofs.check.check_types.Goals as goal

pub returns-clause-ok : goal.returns-clause-ok
returns-clause-ok c =
    let same : map item_of c.in_ok-table.table.items.now ≡ file_of c.args.tree.now = ap (λ r. map item_of r)
    (c.in_ok-table.ensures ∙ c.deref.ensures.value) in
    IfOk-weaker c.checked.result (λ p. IsProgram (map item_of c.in_ok-table.table.items.now) (program_of p))
    (λ p. IsProgram (file_of c.args.tree.now) (program_of p))
    (λ p h. subst (λ (is : List FileItem). IsProgram is (program_of p)) same h) c.checked.ensures.ok

pub returns-clause-only : goal.returns-clause-only
returns-clause-only c P h =
    let same : map item_of c.in_ok-table.table.items.now ≡ file_of c.args.tree.now = ap (λ r. map item_of r)
    (c.in_ok-table.ensures ∙ c.deref.ensures.value) in
    c.checked.ensures.only P (subst (λ (is : List FileItem). IsProgram is P) (sym same) h)

pub returns-clause-refused : goal.returns-clause-refused
returns-clause-refused c f p e =
    let same : map item_of c.in_ok-table.table.items.now ≡ file_of c.args.tree.now = ap (λ r. map item_of r)
    (c.in_ok-table.ensures ∙ c.deref.ensures.value) in
    subst (λ (is : List FileItem). IsFirstFault is f p) same (c.checked.ensures.refused f p e)

pub returns-clause-if_fault : goal.returns-clause-if_fault
returns-clause-if_fault c f p h =
    let same : map item_of c.in_ok-table.table.items.now ≡ file_of c.args.tree.now = ap (λ r. map item_of r)
    (c.in_ok-table.ensures ∙ c.deref.ensures.value) in
    c.checked.ensures.if_fault f p (subst (λ (is : List FileItem). IsFirstFault is f p) (sym same) h)
