-- The graph of a procedure is made of its edges.
use Rattle.std.proofs.Common.{◌≡◌, ℕ, ◌+◌, ◌∷◌, [], ◌++◌, List, length, max, ℤ, pos, sym, ap, ◌∙◌, subst, append_assoc}
use Rattle.std.proofs.Math.Nat.{max_comm}
use Rattle.c_tree.specs.Syntax.{block, PureProcedure}
use Rattle.flow_graph.specs.WellFormed.{IsGraph}
use Rattle.flow_graph.specs.declared.graph.Edge.{Edge}
use Rattle.flow_graph.specs.declared.graph.Edge.TheVariants.{Entry, Assign, Return}
use Rattle.flow_build.specs.declared.builder.Builder.{Builder}
use Rattle.flow_build.specs.declared.layout.Layout.{Layout}
use Rattle.flow_build.specs.steps.Layouts.{global_slots}
use Rattle.flow_build.specs.steps.Operands.{constant_lin}
use Rattle.flow_build.specs.steps.Blocks.{Block, one, edges_of, opening_blocks}
use Rattle.flow_build.specs.steps.Lowering.{statement_blocks, nodes_of_statements, slots_of_statements}
use Rattle.flow_build.specs.steps.Procedures.{layout_of, free_slot, nodes_of_procedure, slots_of_procedure, procedure_edges, Makes}
use Rattle.flow_build.specs.steps.StatementAdditions.{AddsStatement}
use Rattle.flow_build.proofs.Fresh.{edges_append}
use Rattle.flow_build.proofs.AddingStatements.{max_add}

-- what is left of the opening values
pub record Opens (all left : List ℤ) (old now : Builder) (node slot : ℕ) : Type 0 where
  pub edges : now.edges.items ++ edges_of (opening_blocks node 5 now.next slot left)
      ≡ old.edges.items ++ edges_of (opening_blocks 4 5 old.next 0 all)
  pub next : now.next + length left ≡ old.next + length all
  pub slots : slot + length left ≡ length all

-- the edges round a body
abbrev pub frame_edges : Layout → (free : ℕ) (opening : List ℤ) (entries : ℕ) → List Edge
frame_edges L free opening entries = Entry 4 entries ∷ (edges_of (opening_blocks 4 5 6 0 opening)
    ++ Assign 2 3 free (constant_lin (pos 0)) ∷ Return 3 0 (free ∷ global_slots L) ∷ [])

-- the slots of a body, and at least the one that is returned
slots_are : (vars most free : ℕ) → free ≡ vars + most → max free (vars + 1) ≡ vars + max 1 most
slots_are vars most free h = ap (λ f. max f (vars + 1)) h ∙ max_add vars most 1 ∙ ap (λ m. vars + m) (max_comm most 1)

made_with : (n : ℕ) (opening : List ℤ) (entries : ℕ) (p : PureProcedure) (b0 b1 : Builder) (reached slots : ℕ) →
    b0.edges.items ≡ frame_edges (layout_of n p) (free_slot n p) opening entries → b0.next ≡ 6 + length opening →
    AddsStatement (block p.body) (record { gives = p.gives; layout = layout_of n p; free = free_slot n p }) 5
    (record { to = 2; on_break = 2; on_continue = 2 }) b0 b1 reached → slots ≡ max reached (free_slot n p + 1) →
    Makes n opening entries p b1 slots
made_with n opening entries p b0 b1 reached slots e at h s =
    let L = layout_of n p in
    let free = free_slot n p in
    let Body : ℕ → List Block = λ lo. statement_blocks L p.gives free (block p.body) 5 2 2 2 lo in
    let Last : List Edge = Assign 2 3 free (constant_lin (pos 0)) ∷ Return 3 0 (free ∷ global_slots L) ∷ [] in
    let opens = opening_blocks 4 5 6 0 opening in
    let lo = 6 + length opening in
    record {
      nodes = h.blocks.next ∙ ap (λ i. i + nodes_of_statements L p.body) at;
      slots_are = s ∙ slots_are free (slots_of_statements L p.body) reached h.slot;
      edges = h.blocks.edges ∙ ap (λ es. es ++ edges_of (Body b0.next)) e
          ∙ ap (λ i. frame_edges L free opening entries ++ edges_of (Body i)) at
          ∙ ap (λ es. Entry 4 entries ∷ es) (append_assoc (edges_of opens) Last (edges_of (Body lo))
          ∙ sym (edges_append opens
          (one 2 (Assign 2 3 free (constant_lin (pos 0))) ∷ one 3 (Return 3 0 (free ∷ global_slots L)) ∷ Body lo)));
    }

pub makes : (n : ℕ) (opening : List ℤ) (entries : ℕ) (p : PureProcedure) (L : Layout) (free : ℕ) (b0 b1 : Builder) (reached slots : ℕ) →
    L ≡ layout_of n p → free ≡ free_slot n p → b0.edges.items ≡ frame_edges L free opening entries → b0.next ≡ 6 + length opening →
    AddsStatement (block p.body) (record { gives = p.gives; layout = L; free = free }) 5
    (record { to = 2; on_break = 2; on_continue = 2 }) b0 b1 reached → slots ≡ max reached (free + 1) →
    Makes n opening entries p b1 slots
makes n opening entries p L free b0 b1 reached slots same_layout same_free e at h s =
    let A : Layout → ℕ → Type 0 = λ l f. AddsStatement (block p.body) (record { gives = p.gives; layout = l; free = f }) 5
    (record { to = 2; on_break = 2; on_continue = 2 }) b0 b1 reached in
    let B : Layout → Type 0 = λ l. A l free in
    let C : ℕ → Type 0 = λ f. A (layout_of n p) f in
    made_with n opening entries p b0 b1 reached slots
    (e ∙ ap (λ l. frame_edges l free opening entries) same_layout ∙ ap (λ f. frame_edges (layout_of n p) f opening entries) same_free) at
    (subst C same_free (subst B same_layout h)) (s ∙ ap (λ f. max reached (f + 1)) same_free)

pub graph_from : (n : ℕ) (opening : List ℤ) (entries : ℕ) (p : PureProcedure) (b : Builder) (slots : ℕ) (edges : List Edge) →
    Makes n opening entries p b slots → edges ≡ b.edges.items →
    IsGraph (nodes_of_procedure n opening p) 0 1 entries (1 + n) (slots_of_procedure n p) (procedure_edges n opening entries p) →
    IsGraph b.next 0 1 entries (1 + n) slots edges
graph_from n opening entries p b slots edges m is g =
    let N : ℕ → Type 0 = λ k. IsGraph k 0 1 entries (1 + n) (slots_of_procedure n p) (procedure_edges n opening entries p) in
    let S : ℕ → Type 0 = λ s. IsGraph b.next 0 1 entries (1 + n) s (procedure_edges n opening entries p) in
    let E : List Edge → Type 0 = λ es. IsGraph b.next 0 1 entries (1 + n) slots es in
    subst E (sym (is ∙ m.edges)) (subst S (sym m.slots_are) (subst N (sym m.nodes) g))
