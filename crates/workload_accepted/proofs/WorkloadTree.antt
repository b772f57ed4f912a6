-- The trees of the workload program, by where its tokens stand.
use Rattle.std.specs.Prelude.{ℕ, ◌+◌, ◌%◌, ◌==◌, List, [], ◌∷◌, ◌++◌, map, Bool, true, false, Some, None, codes, pos}
use Rattle.c_tree.specs.declared.tree.Pos.{Pos}
use Rattle.c_tree.specs.declared.tree.Op.TheVariants as op
use Rattle.c_tree.specs.SourceTree.{Identifier, ExpressionTree, literal, name, call, negate, binary, no_arguments, argument, call_statement, StatementTree, block, declare, simple, if_then, return, StatementTrees, no_statements, statement, ProcedureTree, FileItem, procedure}
use Rattle.workload_accepted.proofs.WorkloadPieces.{Places}
use Rattle.workload_accepted.proofs.WorkloadTokens.{name_of, Spots}

-- a name at a place
abbrev pub named : List ℕ → Pos → Identifier
named x p = record { name = x; at = p }

-- The line of procedure i. The assertion can fail where 3 divides i

abbrev asserted : Bool → ℕ → Places → ExpressionTree
asserted true i at = binary op.Unequal (at 21) (name (named (codes "a") (at 20))) (negate (literal (pos i)))
asserted false i at = binary op.LessEqual (at 21) (name (named (codes "a") (at 20))) (literal (pos 0))

-- the place of the last `return`
abbrev last_return : Bool → Places → Pos
last_return true at = at 26
last_return false at = at 25

abbrev pub returning : Pos → ℕ → StatementTree
returning p n = return p (Some (literal (pos n)))

abbrev pub guard_tree : Places → StatementTree
guard_tree at =
    if_then (binary op.Greater (at 3) (name (named (codes "a") (at 2))) (literal (pos 0)))
    (block (statement (returning (at 7) 1) no_statements))

abbrev body_tree : Places → ExpressionTree → Pos → StatementTrees
body_tree at e p =
    statement (guard_tree (λ i. at (7 + i)))
    (statement (simple (call_statement (named (codes "assert") (at 18)) (argument e no_arguments)))
    (statement (returning p 0) no_statements))

abbrev pub line_tree : Bool → ℕ → Places → ProcedureTree
line_tree b i at = record {
  void = false;
  named = named (name_of i) (at 1);
  params = named (codes "a") (at 4) ∷ [];
  body = body_tree at (asserted b i at) (last_return b at);
  past = None;
}

-- the lines from the number a on
abbrev pub line_trees : ℕ → List Places → List ProcedureTree
line_trees a [] = []
line_trees a (at ∷ ats) = line_tree (a % 3 == 0) a at ∷ line_trees (a + 1) ats

-- `main`

abbrev pub call_tree : ℕ → Places → StatementTree
call_tree i at =
    if_then (binary op.Equal (at 3) (name (named (codes "k") (at 2))) (literal (pos i)))
    (block (statement (simple (call_statement (named (name_of i) (at 7)) (argument (name (named (codes "v") (at 9))) no_arguments)))
    no_statements))

abbrev pub call_trees : ℕ → List Places → StatementTrees → StatementTrees
call_trees a [] rest = rest
call_trees a (at ∷ ats) rest = statement (call_tree a at) (call_trees (a + 1) ats rest)

-- a variable that is read: the places of its name and of `input`
abbrev pub reading_tree : List ℕ → Pos → Pos → StatementTree
reading_tree x p q = declare (record { named = named x p; value = Some (call (named (codes "input") q) no_arguments) } ∷ [])

abbrev calls_body : List Places → Places → StatementTrees
calls_body calls tail = call_trees 1 calls (statement (returning (tail 0) 0) no_statements)

abbrev main_body : Places → List Places → Places → StatementTrees
main_body head calls tail =
    statement (reading_tree (codes "k") (head 6) (head 8))
    (statement (reading_tree (codes "v") (head 13) (head 15)) (calls_body calls tail))

abbrev pub main_tree : Places → List Places → Places → ProcedureTree
main_tree head calls tail = record {
  void = false;
  named = named (codes "main") (head 1);
  params = [];
  body = main_body head calls tail;
  past = None;
}

-- The file

abbrev pub workload_trees : Spots → List ProcedureTree
workload_trees s = line_trees 1 s.lines ++ main_tree s.head s.calls s.tail ∷ []

abbrev pub workload_items : Spots → List FileItem
workload_items s = map procedure (workload_trees s)
