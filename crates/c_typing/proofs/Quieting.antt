-- A tree without faults is quiet and leaves room.
use Rattle.std.proofs.Common.{◌≡◌, ℕ, ◌+◌, ◌≤◌, zero, suc, Bool, true, false, List, [], ◌∷◌, ◌++◌, length, slice_get, Option, Some, None, refl, ap, subst, arith, length-append}
use Rattle.c_tree.specs.SourceTree.{FileItem, SimpleStatement, set, change, add_one, subtract_one, call_statement, ForInit, no_init, declaring, starting, StatementTree, block, empty, declare, simple, if_then, if_else, while_loop, do_while, for_loop, break, continue, return, StatementTrees, no_statements, statement, ProcedureTree}
use Rattle.c_typing.specs.Scope.{FileScope, ScopedProcedure, scoped_procedures, procedures_of, Scope, callee_of, asserts_in, asserts_in_file}
use Rattle.c_typing.specs.Faults.{callee_faults, argument_count, name_faults, is_constant, operator_faults, expression_faults, arguments_faults, optional_faults, simple_faults, step_faults, init_faults, init_scopes, scopes_after, return_faults, statement_faults, statements_faults, all_faults}
use Rattle.c_typing.specs.steps.LoweringSteps.{IsQuietSimple, IsQuietStep, IsQuietInit, IsQuiet, AreQuiet, ProceduresFit}
use Rattle.c_typing.proofs.Basics.{nil_both}
use Rattle.c_typing.proofs.Sound.{no_asserts, no_asserts_all, no_asserts_optional, no_asserts_declared}
use Rattle.c_typing.proofs.Formed.{IsFaultless, faultless_keeps, each-faultless}
use Rattle.c_typing.proofs.Scoping.{trees, seen, scoped-trees}

module _ (file : FileScope) where
  quiet_simple : (ss : List Scope) (s : SimpleStatement) → simple_faults file ss s ≡ [] → IsQuietSimple s
  quiet_simple ss (set n e) h = no_asserts file ss e (nil_both (name_faults file ss n) (expression_faults file ss e) h).1
  quiet_simple ss (change o at n e) h =
      let q = nil_both (name_faults file ss n) (operator_faults file ss o at (is_constant e) e ++ expression_faults file ss e) h
      in
      no_asserts file ss e (nil_both (operator_faults file ss o at (is_constant e) e) (expression_faults file ss e) q.1).1
  quiet_simple ss (add_one n) h = tt
  quiet_simple ss (subtract_one n) h = tt
  quiet_simple ss (call_statement n es) h = no_asserts_all file ss es
      (nil_both (callee_faults (callee_of file.procedures n.name) n (argument_count es) false)
      (arguments_faults file ss es) h).1

  quiet_step : (ss : List Scope) (s : Option SimpleStatement) → step_faults file ss s ≡ [] → IsQuietStep s
  quiet_step ss None h = tt
  quiet_step ss (Some s) h = quiet_simple ss s h

  quiet_init : (ss : List Scope) (f : ForInit) → init_faults file ss f ≡ [] → IsQuietInit f
  quiet_init ss no_init h = tt
  quiet_init ss (declaring ds) h = no_asserts_declared file ss ds h
  quiet_init ss (starting s) h = quiet_simple ss s h

  module _ (void : Bool) where
    mutual
      quiet_statement : (l : Bool) (ss : List Scope) (s : StatementTree) → statement_faults file void l ss s ≡ [] → IsQuiet s
      quiet_statement l ss (block a) h = quiet_statements l ([] ∷ ss) a h
      quiet_statement l ss empty h = tt
      quiet_statement l ss (declare ds) h = no_asserts_declared file ss ds h
      quiet_statement l ss (simple s) h = quiet_simple ss s h
      quiet_statement l ss (if_then e a) h = let p = nil_both (expression_faults file ss e) (statement_faults file void l ss a) h in
          (no_asserts file ss e p.0, quiet_statement l ss a p.1)
      quiet_statement l ss (if_else e a b) h =
          let p = nil_both (expression_faults file ss e) (statement_faults file void l ss a ++ statement_faults file void l ss b) h in
          let q = nil_both (statement_faults file void l ss a) (statement_faults file void l ss b) p.1 in
          (no_asserts file ss e p.0, quiet_statement l ss a q.0, quiet_statement l ss b q.1)
      quiet_statement l ss (while_loop e a) h = let p = nil_both (expression_faults file ss e) (statement_faults file void true ss a) h in
          (no_asserts file ss e p.0, quiet_statement true ss a p.1)
      quiet_statement l ss (do_while a e) h = let p = nil_both (statement_faults file void true ss a) (expression_faults file ss e) h in
          (no_asserts file ss e p.1, quiet_statement true ss a p.0)
      quiet_statement l ss (for_loop f t s a) h =
          let inside = init_scopes file ss f in
          let p = nil_both (init_faults file ([] ∷ ss) f)
          (optional_faults file inside t ++ (step_faults file inside s ++ statement_faults file void true inside a)) h in
          let q = nil_both (optional_faults file inside t) (step_faults file inside s ++ statement_faults file void true inside a) p.1 in
          let r = nil_both (step_faults file inside s) (statement_faults file void true inside a) q.1 in
          (quiet_init ([] ∷ ss) f p.0, no_asserts_optional file inside t q.0, quiet_step inside s r.0, quiet_statement true inside a r.1)
      quiet_statement l ss (break at) h = tt
      quiet_statement l ss (continue at) h = tt
      quiet_statement l ss (return at e) h = no_asserts_optional file ss e
          (nil_both (return_faults file void at e) (optional_faults file ss e)
          h).1

      quiet_statements : (l : Bool) (ss : List Scope) (a : StatementTrees) → statements_faults file void l ss a ≡ [] → AreQuiet a
      quiet_statements l ss no_statements h = tt
      quiet_statements l ss (statement s rest) h =
          let p = nil_both (statement_faults file void l ss s) (statements_faults file void l (scopes_after file ss s) rest) h in
          (quiet_statement l ss s p.0, quiet_statements l (scopes_after file ss s) rest p.1)

pub procedures_fit : (all : List ProcedureTree) (qs : List ScopedProcedure) (id : ℕ) →
    ((i : ℕ) (q : ScopedProcedure) → slice_get qs i ≡ Some q → IsFaultless (seen all q) q.tree) →
    id + length (asserts_in_file (trees qs)) ≤ 64 → ProceduresFit id (trees qs)
procedures_fit all [] id sound room = tt
procedures_fit all (q ∷ qs) id sound room =
    let h = sound zero q refl in
    let p = q.tree in
    let lengths = length-append (asserts_in p.body) (asserts_in_file (trees qs)) in (
      record { names = h.few_variables; places = omega arith; quiet = quiet_statements (seen all q) p.void false _ p.body h.body },
      procedures_fit all qs (id + length (asserts_in p.body)) (λ i r at. sound (suc i) r at) (omega arith),
    )

-- and its procedures fit
pub file_fits : (is : List FileItem) → all_faults is ≡ [] → ProceduresFit 0 (procedures_of is)
file_fits is e =
    let qs = scoped_procedures [] is in
    let same = scoped-trees [] is in
    let few = (faultless_keeps is e).few_asserts in
    let sizes : length (asserts_in_file (trees qs)) ≡ length (asserts_in_file (procedures_of is)) =
    ap (λ r. length (asserts_in_file r)) same in
    subst (ProceduresFit 0) same (procedures_fit (procedures_of is) qs 0 (each-faultless is e) (omega arith))
