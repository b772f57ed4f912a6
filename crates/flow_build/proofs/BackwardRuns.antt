-- From a run of the graphs to a run of the program.
use Rattle.std.proofs.Common.{◌≡◌, ℕ, zero, suc, ◌+◌, ◌≤◌, List, [], ◌∷◌, ◌++◌, length, false, Option, Some, None, ℤ, pos, IsTrue, refl, sym, subst}
use Rattle.std.specs.Prelude.{slice_get}
use Rattle.c_tree.specs.Syntax.{block, PureProcedure, PureProgram}
use Rattle.c_tree.specs.Meaning.{State, with_slot, is_value, values_from, World, Progress, goes, ends, stopped as source_stopped, failed as source_failed, starved, spent, Flow, normal, broken, continued, returned, Gives, Then, Callee, Execs, entered, returned_value, Enters, Run, Outcome, Returned, Stopped, Failed, started, MayBegin, Runs}
use Rattle.flow_graph.specs.declared.graph.Edge.{Edge}
use Rattle.flow_graph.specs.declared.graph.Edge.TheVariants.{Entry, Assign, Return}
use Rattle.flow_graph.specs.declared.graph.Graph.{Graph}
use Rattle.flow_graph.specs.Runs.{End, came, inside, Called, EndsIn, EntersGraph, GraphRun, GraphRuns, entry_list, end_of, lin_value}
use Rattle.flow_graph.specs.Columns.{AreValues, AreAllValues}
use Rattle.flow_graph.proofs.Values.{run_values}
use Rattle.flow_build.specs.declared.layout.Layout.{Layout}
use Rattle.flow_build.specs.steps.Layouts.{global_slots, seen}
use Rattle.flow_build.specs.steps.Operands.{constant_lin}
use Rattle.flow_build.specs.steps.Blocks.{Block, edges_of, one, opening_blocks, exit_node, end_node, return_node, entry_node, body_node, first_free}
use Rattle.flow_build.specs.steps.Lowering.{statement_blocks}
use Rattle.flow_build.specs.steps.Procedures.{layout_of, free_slot, procedure_blocks, procedure_edges, opening_of, entries_of, IsGraphOf}
use Rattle.flow_graph.specs.ProgramGraphs.{MayTake}
use Rattle.flow_build.proofs.Translated.{AllPlain}
use Rattle.flow_build.proofs.Outgoing.{At, at_left, at_right}
use Rattle.flow_build.proofs.Slots.{Matches, constant_is}
use Rattle.flow_build.proofs.Coming.{le_self, lt_le, Hears, Heard, Covers, Comes, Within, within, then_comes, over_value, over_skip}
use Rattle.flow_build.proofs.BackwardStatements.{BehindFlow, exec_comes, zero_returned}
use Rattle.flow_build.proofs.Numbered.{procedure_of}
use Rattle.flow_build.proofs.Begins.{opened, opened_values}
use Rattle.flow_build.proofs.Ready.{Ready, Begins, opening_values, called_begins, run_begins}

entry_leads : (entries b m : ℕ) (es : List Edge) → slice_get (Entry entry_node entries ∷ es) 0 ≡ Some (Entry m b) → m ≡ entry_node
entry_leads entries b m es q = same entries b entry_node m q
  where
    same : (a b n m : ℕ) → Some (Entry n a) ≡ Some (Entry m b) → m ≡ n
    same a b n m q = cc

-- over the opening values
opening_comes : (C : Called) (g : List Edge) (rest : List ℤ) (end : End) (K k from to lo x : ℕ) (zs : List ℤ) (σ : State) (ins : List ℤ) →
    At g (opening_blocks from to lo x zs) → AreAllValues zs → k ≤ K → EndsIn C g k (inside from σ) ins rest end →
    Within C g rest end K (inside to (opened σ x zs)) ins
opening_comes C g rest end K k from to lo x [] σ ins at ok le h =
    within C g rest end K (inside to σ) ins (over_skip C g rest end K k from to σ ins at.0 le h)
opening_comes C g rest end K k from to lo x (z ∷ zs) σ ins at ok le h =
    let l = constant_lin z in
    let is : lin_value σ l ≡ z = constant_is σ z in
    let b = over_value C g rest end K k from lo x l σ ins at.0 (subst (λ y. IsTrue (is_value y)) (sym is) (ok 0)) le h in
    opening_comes C g rest end K b.0 lo to (lo + 1) (x + 1) zs (with_slot σ x z) ins at.1 (λ i. ok (suc i)) (lt_le b.0 K b.1)
    (subst (λ y. EndsIn C g b.0 (inside lo (with_slot σ x y)) ins rest end) is b.2)

module _ (P : PureProgram) (opening : List ℤ) (entries : ℕ) (p : PureProcedure) (low : p.params ≤ p.slots)
    (at : At (procedure_edges (length P.globals) opening entries p) (procedure_blocks (length P.globals) opening p)) (C : Called)
    (rest : List ℤ) (end : End) where
  abbrev n : ℕ
  n = length P.globals

  abbrev L : Layout
  L = layout_of n p

  abbrev edges : List Edge
  edges = procedure_edges n opening entries p

  abbrev front : List Block
  front = opening_blocks entry_node body_node first_free 0 opening

  -- what stands after the opening
  abbrev rear : List Block
  rear =
      one end_node (Assign end_node return_node (free_slot n p) (constant_lin (pos 0)))
      ∷ one return_node (Return return_node exit_node (free_slot n p ∷ global_slots L))
      ∷ statement_blocks L p.gives (free_slot n p) (block p.body) body_node end_node end_node end_node (first_free + length opening)

  behind : At edges rear
  behind = at_right edges front rear at

  -- what follows a procedure
  abbrev pub Closes : World → ℤ → Type 0
  Closes w v = (end ≡ came (v ∷ values_from w.globals 0 n)) × (rest ≡ w.inputs)

  flow_closes : (D : Callee) → Hears P n C D → (K : ℕ) (w : World) (f : Flow) →
      BehindFlow C edges rest end p.gives P L p.slots low K end_node end_node end_node w f → Closes w (returned_value p.gives f)
  flow_closes D hears K w (normal s) b = zero_returned C edges rest end p.gives P L p.slots low D hears (free_slot n p)
      (le_self (free_slot n p)) behind.1.0 b.3.0 end_node s b.0 w b.1 behind.0 b.3.2
  flow_closes D hears K w (broken s) b = zero_returned C edges rest end p.gives P L p.slots low D hears (free_slot n p)
      (le_self (free_slot n p)) behind.1.0 b.3.0 end_node s b.0 w b.1 behind.0 b.3.2
  flow_closes D hears K w (continued s) b = zero_returned C edges rest end p.gives P L p.slots low D hears (free_slot n p)
      (le_self (free_slot n p)) behind.1.0 b.3.0 end_node s b.0 w b.1 behind.0 b.3.2
  flow_closes D hears K w (returned v) b = b

  pub procedure_comes : (D : Callee) → Hears P n C D → AllPlain P L p.slots p.body → AreAllValues opening → (args list : List ℤ)
      (w : World) → Matches (free_slot n p) (opened (entered list) 0 opening) (seen L (entered args) w.globals) → AreAllValues list →
      (k : ℕ) → EndsIn C edges k (inside entry_node (entered list)) w.inputs rest end
      → Comes C edges rest end (Then (Execs false D p.body (entered args)) (λ f. Gives (returned_value p.gives f))) w Closes
  procedure_comes D hears plain opens args list w ms ok k h =
      let σ = opened (entered list) 0 opening in
      let b = opening_comes C edges rest end k k entry_node body_node first_free 0 opening (entered list) w.inputs
      (at_left edges front rear at) opens (le_self k) h in
      let vals : AreValues σ = opened_values (entered list) 0 opening ok opens in
      then_comes C edges rest end (Execs false D p.body (entered args)) (λ f. Gives (returned_value p.gives f)) w
      (BehindFlow C edges rest end p.gives P L p.slots low b.0 end_node end_node end_node) Closes
      (exec_comes C edges rest end p.gives P L p.slots low D hears (free_slot n p) (le_self (free_slot n p)) behind.1.0 (block p.body)
      body_node end_node end_node end_node (first_free + length opening) plain behind.1.1 (entered args) σ w ms vals b.0 b.0 (le_self b.0)
      b.2)
      (λ w1 f c. (goes w1 (returned_value p.gives f), refl, flow_closes D hears b.0 w1 f c))

  pub heard_from : (r : Progress ℤ) → Covers C edges rest end Closes r → Heard n rest end r
  heard_from (goes w v) c = (c.1, c.0)
  heard_from (ends w source_stopped) c = (c.1, c.0)
  heard_from (ends w (source_failed id)) c = (c.1, c.0)
  heard_from (ends w starved) c = c
  heard_from (ends w spent) c = c

module _ (P : PureProgram) (gs : List Graph) (ready : Ready P gs) where
  abbrev globals : ℕ
  globals = length P.globals

  -- the graph of a number is its procedure's
  graph_at : (C : Called) (i : ℕ) (list ins rest : List ℤ) (end : End) (o : Option Graph) → slice_get gs i ≡ o →
      EntersGraph C o list ins rest end
      → (p : PureProcedure) × (g : Graph) × (slice_get P.procedures i ≡ Some p) × IsGraphOf P i p g × EntersGraph C (Some g) list ins rest
      end
  graph_at C i list ins rest end None e h = absurd h
  graph_at C i list ins rest end (Some g) e h = let c = procedure_of P gs ready.graphs i g e in (c.0, g, c.1, c.2, h)

  enters_heard : (d : ℕ) → Hears P globals (GraphRun gs d) (Run false P d) → (i : ℕ) (args list : List ℤ) (w : World) (mid : List ℤ)
      (end : End) → ((p : PureProcedure) → slice_get P.procedures i ≡ Some p → Begins P i p args list w) →
      GraphRun gs (suc d) i list w.inputs mid end
      → (r : Progress ℤ) × Run false P (suc d) i args w r × Heard globals mid end r
  enters_heard d hears i args list w mid end begin h =
      let C = GraphRun gs d in
      let D = Run false P d in
      let c = graph_at C i list w.inputs mid end (slice_get gs i) refl h in
      let p = c.0 in
      let run = c.4 in
      let edges = procedure_edges globals (opening_of P i) (entries_of P i p) p in
      let begins = begin p c.2 in
      let first = subst (λ es. slice_get es 0 ≡ Some (Entry run.0 run.1)) c.3.edges run.3 in
      let start = subst (λ es. EndsIn C es run.2 (inside run.0 (entered list)) w.inputs mid end) c.3.edges run.4 in
      let start' = subst (λ n. EndsIn C edges run.2 (inside n (entered list)) w.inputs mid end)
      (entry_leads (entries_of P i p) run.1 run.0 (edges_of (procedure_blocks globals (opening_of P i) p)) first) start in
      let r = procedure_comes P (opening_of P i) (entries_of P i p) p (ready.low i p c.2) (ready.placed i p c.2) C mid end D hears
      (ready.plain i p c.2) (opening_values P i ready.opening) args list w begins.matches begins.values run.2 start' in (
        r.0,
        subst (λ o. Enters false D o args w r.0) (sym c.2) r.1,
        heard_from P (opening_of P i) (entries_of P i p) p (ready.low i p c.2) (ready.placed i p c.2) C mid end r.0 r.2,
      )

  pub run_heard : (d : ℕ) → Hears P globals (GraphRun gs d) (Run false P d)
  run_heard zero = record { good = λ i args w mid e fits ok h. absurd h; result = λ i args w mid e fits ok h. absurd h }
  run_heard (suc d) = record {
    good = λ i args w mid e fits ok h. run_values gs (suc d) i (args ++ values_from w.globals 0 globals) w.inputs mid e ok h;
    result = λ i args w mid e fits ok h. enters_heard d (run_heard d) i args (args ++ values_from w.globals 0 globals) w mid e
        (λ p there. called_begins P i p there args w fits ok) h;
  }

  outcome_of : (d i : ℕ) (args before ins : List ℤ) (e : End) → MayBegin P i before → (r : Progress ℤ) →
      Run false P d i args (started before ins 0) r → Heard globals [] e r →
      (out : Outcome) × (after : List ℤ) × (e ≡ end_of out after) × Runs P d i args before ins out after
  outcome_of d i args before ins e may (goes w v) run h =
      (Returned v, values_from w.globals 0 globals, h.1, (goes w v, run, (refl, sym h.0), refl, may))
  outcome_of d i args before ins e may (ends w source_stopped) run h =
      (Stopped, values_from w.globals 0 globals, h.1, (ends w source_stopped, run, (refl, sym h.0), refl, may))
  outcome_of d i args before ins e may (ends w (source_failed id)) run h =
      (Failed id, values_from w.globals 0 globals, h.1, (ends w (source_failed id), run, (refl, sym h.0), refl, may))
  outcome_of d i args before ins e may (ends w starved) run h = absurd h
  outcome_of d i args before ins e may (ends w spent) run h = absurd h

  -- each run of the graphs is one of the program
  pub graph_of_run : (d i : ℕ) (args before ins : List ℤ) (end : End) → MayTake P i args before →
      GraphRuns gs d i (entry_list P i args before) ins end →
      (out : Outcome) × (after : List ℤ) × (end ≡ end_of out after) × Runs P d i args before ins out after
  graph_of_run zero i args before ins end may h = absurd h
  graph_of_run (suc d) i args before ins end may h =
      let c = enters_heard d (run_heard d) i args (entry_list P i args before) (started before ins 0) [] end
      (λ p there. run_begins P i p there ready.main_takes_none ready.opening args before ins may) h in
      outcome_of (suc d) i args before ins end may.begins c.0 c.1 c.2
