-- Each run of a program is one of its graphs.
use Rattle.std.proofs.Common.{◌≡◌, ℕ, zero, suc, ◌+◌, ◌≤◌, List, [], ◌∷◌, ◌++◌, length, Bool, false, Option, Some, None, ℤ, pos, IsTrue, refl, sym, ap, subst}
use Rattle.std.specs.Prelude.{slice_get}
use Rattle.c_tree.specs.Syntax.{block, PureProcedure, PureProgram}
use Rattle.c_tree.specs.Meaning.{State, with_slot, is_value, values_from, globals_of, World, Progress, goes, ends, stopped as source_stopped, failed as source_failed, starved, spent, Flow, normal, broken, continued, returned, Gives, Then, Callee, Execs, entered, returned_value, Enters, Run, Outcome, ComesOut, started, Runs}
use Rattle.flow_graph.specs.declared.graph.Edge.{Edge}
use Rattle.flow_graph.specs.declared.graph.Edge.TheVariants.{Assign, Return}
use Rattle.flow_graph.specs.declared.graph.Graph.{Graph}
use Rattle.flow_graph.specs.Runs.{End, came, stopped, failed, inside, Called, EndsIn, EntersGraph, GraphRun, GraphRuns, entry_list, end_of, lin_value}
use Rattle.flow_graph.specs.Columns.{AreAllValues}
use Rattle.flow_graph.proofs.Values.{run_values}
use Rattle.flow_build.specs.declared.layout.Layout.{Layout}
use Rattle.flow_build.specs.steps.Layouts.{global_slots, seen}
use Rattle.flow_build.specs.steps.Operands.{constant_lin}
use Rattle.flow_build.specs.steps.Blocks.{Block, one, opening_blocks, exit_node, end_node, return_node, entry_node, body_node, first_free}
use Rattle.flow_build.specs.steps.Lowering.{statement_blocks}
use Rattle.flow_build.specs.steps.Procedures.{layout_of, free_slot, procedure_blocks, procedure_edges, opening_of, entries_of}
use Rattle.flow_graph.specs.ProgramGraphs.{MayTake}
use Rattle.flow_build.proofs.Translated.{AllPlain}
use Rattle.flow_build.proofs.Outgoing.{At, at_left, at_right}
use Rattle.flow_build.proofs.FormMeaning.{IsCallable}
use Rattle.flow_build.proofs.Slots.{Matches, constant_is}
use Rattle.flow_build.proofs.Reaching.{Told, Reach, Covers, then_covers, passed, assigned}
use Rattle.flow_build.proofs.ForwardStatements.{AfterFlow, zero_returned, exec_reaches}
use Rattle.flow_build.proofs.Numbered.{graph_of}
use Rattle.flow_build.proofs.Begins.{opened, opened_values}
use Rattle.flow_build.proofs.Ready.{Ready, Begins, opening_values, called_begins, run_begins}

-- over the opening values
opening_reaches : (C : Called) (g : List Edge) (rest : List ℤ) (end : End) (from to lo x : ℕ) (zs : List ℤ) (σ : State) (ins : List ℤ) →
    At g (opening_blocks from to lo x zs) → AreAllValues zs → Reach C g rest end (inside to (opened σ x zs)) ins →
    Reach C g rest end (inside from σ) ins
opening_reaches C g rest end from to lo x [] σ ins at ok more = passed C g rest end from to σ ins at.0 more
opening_reaches C g rest end from to lo x (z ∷ zs) σ ins at ok more =
    let l = constant_lin z in
    let is : lin_value σ l ≡ z = constant_is σ z in
    assigned C g rest end from lo x l σ ins at.0 (subst (λ y. IsTrue (is_value y)) (sym is) (ok 0))
    (opening_reaches C g rest end lo to (lo + 1) (x + 1) zs (with_slot σ x (lin_value σ l)) ins at.1 (λ i. ok (suc i))
    (subst (λ y. Reach C g rest end (inside to (opened (with_slot σ x y) (x + 1) zs)) ins) (sym is) more))

module _ (P : PureProgram) (opening : List ℤ) (entries : ℕ) (p : PureProcedure) (low : p.params ≤ p.slots)
    (at : At (procedure_edges (length P.globals) opening entries p) (procedure_blocks (length P.globals) opening p)) (C : Called)
    (rest : List ℤ) (end : End) where
  abbrev n : ℕ
  n = length P.globals

  abbrev L : Layout
  L = layout_of n p

  abbrev edges : List Edge
  edges = procedure_edges n opening entries p

  abbrev front : List Block
  front = opening_blocks entry_node body_node first_free 0 opening

  -- what stands after the opening
  abbrev rear : List Block
  rear =
      one end_node (Assign end_node return_node (free_slot n p) (constant_lin (pos 0)))
      ∷ one return_node (Return return_node exit_node (free_slot n p ∷ global_slots L))
      ∷ statement_blocks L p.gives (free_slot n p) (block p.body) body_node end_node end_node end_node (first_free + length opening)

  behind : At edges rear
  behind = at_right edges front rear at

  abbrev Closes : World → ℤ → Type 0
  Closes w v = (end ≡ came (v ∷ values_from w.globals 0 n)) × (rest ≡ w.inputs)

  flow_closes : (b : Bool) (w : World) (f : Flow) → Closes w (returned_value b f) → AfterFlow C edges rest end P L p.slots low
      behind.1.0 b end_node end_node end_node w f
  flow_closes b w (normal s) k = λ σ ms vals. zero_returned C edges rest end P L p.slots low behind.1.0 end_node s σ w ms behind.0 k
  flow_closes b w (broken s) k = λ σ ms vals. zero_returned C edges rest end P L p.slots low behind.1.0 end_node s σ w ms behind.0 k
  flow_closes b w (continued s) k = λ σ ms vals. zero_returned C edges rest end P L p.slots low behind.1.0 end_node s σ w ms behind.0 k
  flow_closes b w (returned v) k = k

  procedure_reaches : (D : Callee) (told : (q : ℕ) (args : List ℤ) (w : World) (r : Progress ℤ) → IsCallable P q (length args) →
      AreAllValues (args ++ values_from w.globals 0 n) → D q args w r → Told n (C q (args ++ values_from w.globals 0 n) w.inputs) r) →
      AllPlain P L p.slots p.body → AreAllValues opening → (args list : List ℤ) (w : World) →
      Matches (free_slot n p) (opened (entered list) 0 opening) (seen L (entered args) w.globals) → AreAllValues list → (r : Progress ℤ) →
      Then (Execs false D p.body (entered args)) (λ f. Gives (returned_value p.gives f)) w r → Covers C edges rest end Closes r →
      Reach C edges rest end (inside entry_node (entered list)) w.inputs
  procedure_reaches D told plain opens args list w ms ok r h cov =
      opening_reaches C edges rest end entry_node body_node first_free 0 opening (entered list) w.inputs (at_left edges front rear at) opens
      (exec_reaches C edges rest end P L p.slots low behind.1.0 p.gives D told (block p.body) body_node end_node end_node end_node
      (first_free + length opening) plain behind.1.1 (entered args) (opened (entered list) 0 opening) w ms
      (opened_values (entered list) 0 opening ok opens) h.0 h.1
      (then_covers C edges rest end (λ f. Gives (returned_value p.gives f)) Closes
      (AfterFlow C edges rest end P L p.slots low behind.1.0 p.gives end_node end_node end_node) r
      (λ w1 f q. flow_closes p.gives w1 f (subst (Covers C edges rest end Closes) q cov)) h.0 h.2 cov))

  enters_graph : (g : Graph) → g.edges ≡ edges → (list ins : List ℤ) → Reach C edges rest end
      (inside entry_node (entered list)) ins → EntersGraph C (Some g) list ins rest end
  enters_graph g e list ins k = (
    entry_node,
    entries,
    k.0,
    ap (λ es. slice_get es 0) e,
    subst (λ es. EndsIn C es k.0 (inside entry_node (entered list)) ins rest end)
        (sym e) k.1,
  )

module _ (P : PureProgram) (gs : List Graph) (ready : Ready P gs) where
  abbrev globals : ℕ
  globals = length P.globals

  abbrev Tells : ℕ → Type 0
  Tells d =
      (q : ℕ) (args : List ℤ) (w : World) (r : Progress ℤ) → IsCallable P q (length args) →
      AreAllValues (args ++ values_from w.globals 0 globals) → Run false P d q args w r →
      Told globals (GraphRun gs d q (args ++ values_from w.globals 0 globals) w.inputs) r

  module _ (d : ℕ) (told : Tells d) (i : ℕ) (p : PureProcedure)
      (e : slice_get P.procedures i ≡ Some p) (args list : List ℤ) (w : World) (begins : Begins P i p args list w) where
    abbrev edges_here : List Edge
    edges_here = procedure_edges globals (opening_of P i) (entries_of P i p) p

    run : (rest : List ℤ) (end : End) → Reach (GraphRun gs d) edges_here rest end (inside entry_node (entered list)) w.inputs →
        GraphRun gs (suc d) i list w.inputs rest end
    run rest end k =
        let found = graph_of P gs ready.graphs i p e in
        subst (λ o. EntersGraph (GraphRun gs d) o list w.inputs rest end) (sym found.1)
        (enters_graph P (opening_of P i) (entries_of P i p) p (ready.low i p e) (ready.placed i p e) (GraphRun gs d) rest end
        found.0 found.2.edges list w.inputs k)

    -- what the body says, the graph's run says
    reached : (rest : List ℤ) (end : End) (r : Progress ℤ) →
        Then (Execs false (Run false P d) p.body (entered args)) (λ f. Gives (returned_value p.gives f)) w r →
        Covers (GraphRun gs d) edges_here rest end
        (λ w1 v. (end ≡ came (v ∷ values_from w1.globals 0 globals)) × (rest ≡ w1.inputs)) r → GraphRun gs (suc d) i list w.inputs rest end
    reached rest end r h cov =
        run rest end (procedure_reaches P (opening_of P i) (entries_of P i p) p (ready.low i p e) (ready.placed i p e) (GraphRun gs d) rest
        end (Run false P d) told (ready.plain i p e) (opening_values P i ready.opening) args list w begins.matches begins.values r h cov)

    pub enters_told : (r : Progress ℤ) → Then (Execs false (Run false P d) p.body (entered args)) (λ f. Gives (returned_value p.gives f)) w
        r →
        Told globals (GraphRun gs (suc d) i list w.inputs) r
    enters_told (goes w' v) h =
        let end = came (v ∷ values_from w'.globals 0 globals) in
        let k = reached w'.inputs end (goes w' v) h (refl, refl) in
        (k, run_values gs (suc d) i list w.inputs w'.inputs end begins.values k)
    enters_told (ends w' source_stopped) h = reached w'.inputs stopped (ends w' source_stopped) h (refl, refl)
    enters_told (ends w' (source_failed id)) h = reached w'.inputs (failed id) (ends w' (source_failed id)) h (refl, refl)
    enters_told (ends w' starved) h = tt
    enters_told (ends w' spent) h = tt

  entered_told : (d : ℕ) → Tells d → (i : ℕ) (args list : List ℤ) (w : World) →
      ((p : PureProcedure) → slice_get P.procedures i ≡ Some p → Begins P i p args list w) → (o : Option PureProcedure) →
      slice_get P.procedures i ≡ o → (r : Progress ℤ) → Enters false (Run false P d) o args w r →
      Told globals (GraphRun gs (suc d) i list w.inputs) r
  entered_told d told i args list w begins None e r h = absurd h
  entered_told d told i args list w begins (Some p) e r h = enters_told d told i p e args list w (begins p e) r h

  -- the end of a call of the program is the end of the graphs' call
  call_told : (d : ℕ) → Tells d
  call_told zero q args w r fits ok h = absurd h
  call_told (suc d) q args w r fits ok h =
      entered_told d (call_told d) q args (args ++ values_from w.globals 0 globals) w (λ p e. called_begins P q p e args w fits ok)
      (slice_get P.procedures q) refl r h

  told_run : (d i : ℕ) (list ins : List ℤ) (out : Outcome) (after : List ℤ) (r : Progress ℤ) →
      Told globals (GraphRun gs d i list ins) r → ComesOut out r → after ≡ globals_of P r → GraphRun gs d i list ins [] (end_of out after)
  told_run d i list ins out after (goes w v) t o a =
      subst (λ x. GraphRun gs d i list ins [] (end_of x after)) (sym o.0)
      (subst (λ xs. GraphRun gs d i list ins [] (came (v ∷ xs))) (sym a)
      (subst (λ m. GraphRun gs d i list ins m (came (v ∷ values_from w.globals 0 globals))) o.1 t.0))
  told_run d i list ins out after (ends w source_stopped) t o a =
      subst (λ x. GraphRun gs d i list ins [] (end_of x after)) (sym o.0) (subst (λ m. GraphRun gs d i list ins m stopped) o.1 t)
  told_run d i list ins out after (ends w (source_failed id)) t o a =
      subst (λ x. GraphRun gs d i list ins [] (end_of x after)) (sym o.0) (subst (λ m. GraphRun gs d i list ins m (failed id)) o.1 t)
  told_run d i list ins out after (ends w starved) t o a = absurd o
  told_run d i list ins out after (ends w spent) t o a = absurd o

  -- each run of the program is one of its graphs
  pub run_of_graph : (d i : ℕ) (args before ins : List ℤ) (out : Outcome) (after : List ℤ) → MayTake P i args before →
      Runs P d i args before ins out after → GraphRuns gs d i (entry_list P i args before) ins (end_of out after)
  run_of_graph zero i args before ins out after may h = absurd h.1
  run_of_graph (suc d) i args before ins out after may h =
      told_run (suc d) i (entry_list P i args before) ins out after h.0
      (entered_told d (call_told d) i args (entry_list P i args before) (started before ins 0)
      (λ p e. run_begins P i p e ready.main_takes_none ready.opening args before ins may) (slice_get P.procedures i) refl h.0 h.1) h.2 h.3
