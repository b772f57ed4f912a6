-- The inputs that a graph's run consumes are values.
use Rattle.std.proofs.Common.{ℕ, zero, suc, List, [], ◌∷◌, Option, Some, None, ℤ, refl, sym, subst, IsTrue}
use Rattle.std.specs.Prelude.{slice_get}
use Rattle.c_tree.specs.Meaning.{State, entered, is_value}
use Rattle.flow_graph.specs.declared.graph.Edge.{Edge}
use Rattle.flow_graph.specs.declared.graph.Edge.TheVariants.{Entry, Assign, Guard, Input, Pick, Call, Assert, Return}
use Rattle.flow_graph.specs.declared.graph.Graph.{Graph}
use Rattle.flow_graph.specs.Columns.{AreAllValues, value_at}
use Rattle.flow_graph.specs.Runs.{End, Place, inside, left, failing, halted, Called, Step, Moves, EndsIn, EntersGraph, GraphRun}

-- a value that stands before others
value_before : (v : ℤ) (rest : List ℤ) → IsTrue (is_value v) → AreAllValues rest → (i : ℕ) → IsTrue (is_value (value_at (v ∷ rest) i))
value_before v rest ok h zero = ok
value_before v rest ok h (suc i) = h i

-- where what is left are values, so are the inputs
abbrev TakesValues : Called → Type 0
TakesValues C = (p : ℕ) (args ins rest : List ℤ) (e : End) → C p args ins rest e → AreAllValues rest → AreAllValues ins

module _ (C : Called) (takes : TakesValues C) where
  step_takes : (e : Edge) (s : State) (ins rest : List ℤ) (b : Place) → Step C e s ins b rest → AreAllValues rest → AreAllValues ins
  step_takes (Entry to params) s ins rest b st h = absurd st
  step_takes (Assign from to x value) s ins rest b st h = subst AreAllValues st.2 h
  step_takes (Guard from to rows) s ins rest b st h = subst AreAllValues st.2 h
  step_takes (Input from to x) s ins rest b st h = subst AreAllValues (sym st.2) (value_before st.0 rest st.1 h)
  step_takes (Pick from to x rows) s ins rest b st h = subst AreAllValues st.4 h
  step_takes (Call from to p args x) s ins rest b st h = takes p _ ins rest st.0 st.1 h
  step_takes (Assert from to id rows) s ins rest b st h = subst AreAllValues st.2 h
  step_takes (Return from to x) s ins rest b st h = subst AreAllValues st.1 h

  moves_take : (g : List Edge) (a b : Place) (ins rest : List ℤ) → Moves C g a ins b rest → AreAllValues rest → AreAllValues ins
  moves_take g (inside n s) b ins rest m h = step_takes m.1 s ins rest b m.4 h
  moves_take g (left values) b ins rest m h = absurd m
  moves_take g (failing id s) b ins rest m h = absurd m
  moves_take g halted b ins rest m h = absurd m

  ends_take : (g : List Edge) (k : ℕ) (a : Place) (ins rest : List ℤ) (e : End) → EndsIn C g k a ins rest e → AreAllValues rest →
      AreAllValues ins
  ends_take g zero a ins rest e f h = subst AreAllValues f.1 h
  ends_take g (suc k) a ins rest e f h = moves_take g a f.0 ins f.1 f.2 (ends_take g k f.0 f.1 rest e f.3 h)

  enters_take : (o : Option Graph) (args ins rest : List ℤ) (e : End) → EntersGraph C o args ins rest e → AreAllValues rest →
      AreAllValues ins
  enters_take None args ins rest e f h = absurd f
  enters_take (Some g) args ins rest e f h = ends_take g.edges f.2 (inside f.0 (entered args)) ins rest e f.4 h

run_takes : (gs : List Graph) (d : ℕ) → TakesValues (GraphRun gs d)
run_takes gs zero p args ins rest e f h = absurd f
run_takes gs (suc d) p args ins rest e f h = enters_take (GraphRun gs d) (run_takes gs d) (slice_get gs p) args ins rest e f h

-- the inputs of a run are values
pub run_inputs : (gs : List Graph) (d p : ℕ) (args ins : List ℤ) (e : End) → GraphRun gs d p args ins [] e → AreAllValues ins
run_inputs gs d p args ins e f = run_takes gs d p args ins [] e f (λ i. refl)
