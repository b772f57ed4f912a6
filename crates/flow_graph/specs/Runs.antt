-- The runs of graphs.
use Rattle.std.specs.Prelude.{◌≡◌, ℕ, zero, suc, ◌==◌, cond, List, [], ◌∷◌, ◌++◌, map, drop, Option, Some, None, ℤ, pos, ◌+ℤ◌, ◌*ℤ◌, get_or, slice_get, IsTrue, false}
use Rattle.c_tree.specs.Syntax.{PureProgram}
use Rattle.c_tree.specs.Meaning.{State, with_slot, entered, is_value, Outcome, Returned, Stopped, Failed}
use Rattle.linear_formula.specs.Formula.{HoldsAll}
use Rattle.flow_graph.specs.declared.graph.Edge.{Edge}
use Rattle.flow_graph.specs.declared.graph.Edge.TheVariants.{Entry, Assign, Guard, Input, Pick, Call, Assert, Return}
use Rattle.flow_graph.specs.declared.graph.Lin.{Lin}
use Rattle.flow_graph.specs.declared.graph.Graph.{Graph}
use Rattle.flow_graph.specs.Shapes.{source, is_call}

abbrev pub value_of_slots : State → List (ℤ × ℕ) → ℤ
value_of_slots s [] = pos 0
value_of_slots s (part ∷ parts) = (part.0 *ℤ s part.1) +ℤ value_of_slots s parts

-- the exact value at the slots
abbrev pub lin_value : State → Lin → ℤ
lin_value s value = value_of_slots s value.parts +ℤ value.constant

-- how a graph run ends: with exit values, stopped, or failed at an assertion
pub data End : Type 0 where
  came : List ℤ → End
  stopped : End
  failed : ℕ → End

-- The entry list of a run of the program: its arguments and then the globals before it; that of
-- `main` is empty.
abbrev pub entry_list : PureProgram → ℕ → (args before : List ℤ) → List ℤ
entry_list P p args before = cond (p == P.main) [] (args ++ before)

-- the exit list of a run that returns: the value and then the globals after it
abbrev pub exit_list : ℤ → (after : List ℤ) → List ℤ
exit_list v after = v ∷ after

-- the end of a graph's run where the run of the program comes out so and leaves these globals
abbrev pub end_of : Outcome → (after : List ℤ) → End
end_of (Returned v) after = came (exit_list v after)
end_of Stopped after = stopped
end_of (Failed id) after = failed id

-- where a frame stands: at an inner node, at the exit, at `fail`, or at a call whose run is stopped
pub data Place : Type 0 where
  inside : (node : ℕ) (slots : State) → Place
  left : (values : List ℤ) → Place
  failing : (id : ℕ) (slots : State) → Place
  halted : Place

-- a call of a procedure with these arguments, from these inputs, leaves those and ends so
abbrev pub Called : Type 1
Called = ℕ → List ℤ → List ℤ → List ℤ → End → Type 0

-- the state in which each of these slots has the value at its place, or 0; of a slot at several
-- places the first counts
abbrev pub with_slots : State → (slots : List ℕ) → (values : List ℤ) → State
with_slots s [] values = s
with_slots s (x ∷ xs) values = with_slot (with_slots s xs (drop 1 values)) x
    (get_or values 0 (pos 0))

-- where a call leads
abbrev pub after_call : ℕ → (results : List ℕ) → State → End → Place
after_call to results s (came values) = inside to (with_slots s results values)
after_call to results s stopped = halted
after_call to results s (failed id) = failing id s

-- over the edge, from these slots and inputs, to that place with those inputs left
abbrev pub Step : Called → Edge → State → List ℤ → Place → List ℤ → Type 0
Step C (Entry to params) s ins b rest = ⊥
Step C (Assign from to slot value) s ins b rest =
    IsTrue (is_value (lin_value s value)) × (b ≡ inside to (with_slot s slot (lin_value s value)))
    × (rest ≡ ins)
Step C (Guard from to rows) s ins b rest = HoldsAll s rows.atoms × (b ≡ inside to s) × (rest ≡ ins)
Step C (Input from to slot) s ins b rest =
    (v : ℤ) × IsTrue (is_value v) × (ins ≡ v ∷ rest) × (b ≡ inside to (with_slot s slot v))
Step C (Pick from to slot rows) s ins b rest =
    (v : ℤ) × IsTrue (is_value v) × HoldsAll (with_slot s slot v) rows.atoms
    × (b ≡ inside to (with_slot s slot v)) × (rest ≡ ins)
Step C (Call from to proc args results) s ins b rest =
    (end : End) × C proc (map s args) ins rest end × (b ≡ after_call to results s end)
Step C (Assert from to id rows) s ins b rest = HoldsAll s rows.atoms × (b ≡ failing id s)
    × (rest ≡ ins)
Step C (Return from to slots) s ins b rest = (b ≡ left (map s slots)) × (rest ≡ ins)

module _ (C : Called) (edges : List Edge) where
  -- over one of the edges, from one place to the next
  abbrev pub Moves : Place → List ℤ → Place → List ℤ → Type 0
  Moves (inside n s) ins b rest =
      (i : ℕ) × (e : Edge) × (slice_get edges i ≡ Some e) × (source e ≡ Some n) × Step C e s ins b
      rest
  Moves (left values) ins b rest = ⊥
  Moves (failing id s) ins b rest = ⊥
  Moves halted ins b rest = ⊥

  -- over k edges
  abbrev pub Frame : ℕ → Place → List ℤ → Place → List ℤ → Type 0
  Frame zero a ins b rest = (b ≡ a) × (rest ≡ ins)
  Frame (suc k) a ins b rest = (c : Place) × (mid : List ℤ) × Moves a ins c mid × Frame k c mid b
      rest

  -- no call leaves the node, and no step is possible there
  abbrev pub IsStuck : ℕ → State → Type 0
  IsStuck n s = (i : ℕ) (e : Edge) → slice_get edges i ≡ Some e → source e ≡ Some n →
      (is_call e ≡ false) × ((ins rest : List ℤ) (b : Place) → Step C e s ins b rest → ⊥)

  abbrev pub Finishes : Place → End → Type 0
  Finishes (inside n s) end = (end ≡ stopped) × IsStuck n s
  Finishes (left values) end = end ≡ came values
  Finishes (failing id s) end = end ≡ failed id
  Finishes halted end = end ≡ stopped

  -- from a place to an end, over k edges
  abbrev pub EndsIn : ℕ → Place → List ℤ → List ℤ → End → Type 0
  EndsIn zero a ins rest end = Finishes a end × (rest ≡ ins)
  EndsIn (suc k) a ins rest end = (b : Place) × (mid : List ℤ) × Moves a ins b mid × EndsIn k b mid
      rest end

-- a frame begins over edge 0, with the entry list in the first slots and 0 in the others
abbrev pub EntersGraph : Called → Option Graph → List ℤ → List ℤ → List ℤ → End → Type 0
EntersGraph C None args ins rest end = ⊥
EntersGraph C (Some g) args ins rest end =
    (to params k : ℕ) × (slice_get g.edges 0 ≡ Some (Entry to params)) × EndsIn C g.edges k
    (inside to (entered args)) ins rest end

-- the runs of depth at most d
abbrev pub GraphRun : List Graph → ℕ → Called
GraphRun gs zero p args ins rest end = ⊥
GraphRun gs (suc d) p args ins rest end = EntersGraph (GraphRun gs d) (slice_get gs p) args ins rest
    end

-- the run consumes exactly these inputs
abbrev pub GraphRuns : List Graph → ℕ → ℕ → List ℤ → List ℤ → End → Type 0
GraphRuns gs d p args ins end = GraphRun gs d p args ins [] end
