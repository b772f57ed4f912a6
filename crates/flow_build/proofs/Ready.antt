-- What the runs of graphs rest on: each procedure's blocks stand in its graph, and its frame begins as its procedure does.
use Rattle.std.proofs.Common.{◌≡◌, ℕ, zero, suc, ◌≤◌, Bool, true, false, not, cond, eqb, List, [], ◌∷◌, ◌++◌, length, Option, Some, None, ℤ, IsTrue, refl, sym, ap, ◌∙◌, subst, arith}
use Rattle.std.proofs.lemmas.Bool.{true≢false}
use Rattle.std.proofs.lemmas.Bool.{eqb-true}
use Rattle.std.specs.Prelude.{slice_get}
use Rattle.c_tree.specs.Syntax.{PureProcedure, PureProgram}
use Rattle.c_tree.specs.WellFormed.{takes}
use Rattle.c_tree.specs.Meaning.{entered, values_from, World, started}
use Rattle.flow_graph.specs.declared.graph.Graph.{Graph}
use Rattle.flow_graph.specs.Runs.{entry_list}
use Rattle.flow_graph.specs.Columns.{AreAllValues}
use Rattle.flow_build.specs.steps.Layouts.{seen}
use Rattle.flow_build.specs.steps.Procedures.{layout_of, free_slot, procedure_blocks, procedure_edges, opening_of, entries_of, AreGraphsOf}
use Rattle.flow_graph.specs.ProgramGraphs.{MayTake}
use Rattle.flow_build.proofs.Translated.{AllPlain}
use Rattle.flow_build.proofs.Outgoing.{At}
use Rattle.flow_build.proofs.FormMeaning.{IsCallable}
use Rattle.flow_build.proofs.Slots.{Matches}
use Rattle.flow_build.proofs.Begins.{values_entered, entered_matches, opened, opened_matches}

pub record Ready (P : PureProgram) (gs : List Graph) : Type 0 where
  pub graphs : AreGraphsOf P 0 P.procedures gs
  pub placed : (i : ℕ) (p : PureProcedure) → slice_get P.procedures i ≡ Some p →
      At (procedure_edges (length P.globals) (opening_of P i) (entries_of P i p) p) (procedure_blocks (length P.globals) (opening_of P i) p)
  pub plain : (i : ℕ) (p : PureProcedure) → slice_get P.procedures i ≡ Some p → AllPlain P (layout_of (length P.globals) p) p.slots p.body
  pub low : (i : ℕ) (p : PureProcedure) → slice_get P.procedures i ≡ Some p → p.params ≤ p.slots
  pub opening : AreAllValues P.globals
  pub main_takes_none : IsTrue (takes (slice_get P.procedures P.main) 0)

-- the frame of the entry list begins, after the opening values, as the procedure does
pub record Begins (P : PureProgram) (i : ℕ) (p : PureProcedure) (args list : List ℤ) (w : World) : Type 0 where
  pub matches : Matches (free_slot (length P.globals) p) (opened (entered list) 0 (opening_of P i))
      (seen (layout_of (length P.globals) p) (entered args) w.globals)
  pub values : AreAllValues list

abbrev opening_by : PureProgram → Bool → List ℤ
opening_by P b = cond b P.globals []

all_none : AreAllValues []
all_none i = refl

opening_values_by : (P : PureProgram) → AreAllValues P.globals → (b : Bool) → AreAllValues (opening_by P b)
opening_values_by P ok true = ok
opening_values_by P ok false = all_none

pub opening_values : (P : PureProgram) (i : ℕ) → AreAllValues P.globals → AreAllValues (opening_of P i)
opening_values P i ok = opening_values_by P ok (eqb i P.main)

params_are : (o : Option PureProcedure) (p : PureProcedure) (n : ℕ) → o ≡ Some p → IsTrue (takes o n) → n ≡ p.params
params_are None p n e h = absurd (true≢false (sym h))
params_are (Some q) p n e h = let same : q ≡ p = cc in let at : q.params ≡ n = eqb-true q.params n h in sym at ∙ ap (λ x. x.params) same

no_values : (args : List ℤ) → length args ≡ 0 → args ≡ []
no_values [] e = refl
no_values (x ∷ xs) e = absurd (omega (arith, e))

both_values : (xs ys : List ℤ) → AreAllValues xs → AreAllValues ys → AreAllValues (xs ++ ys)
both_values [] ys a b i = b i
both_values (x ∷ xs) ys a b zero = a 0
both_values (x ∷ xs) ys a b (suc i) = both_values xs ys (λ k. a (suc k)) b i

-- a procedure other than `main`
module _ (P : PureProgram) (i : ℕ) (p : PureProcedure) (e : slice_get P.procedures i ≡ Some p) where
  called_by : (b : Bool) → (eqb i P.main) ≡ b → IsTrue (not b) → (args : List ℤ) (w : World) → length args ≡ p.params →
      AreAllValues (args ++ values_from w.globals 0 (length P.globals)) →
      Begins P i p args (args ++ values_from w.globals 0 (length P.globals)) w
  called_by true at none args w count ok = absurd (true≢false (sym none))
  called_by false at yet args w count ok =
      let n = length P.globals in
      let L = layout_of n p in
      let list = args ++ values_from w.globals 0 n in
      let closed : opening_of P i ≡ [] = ap (opening_by P) at in
      record {
        matches = subst (λ zs. Matches (free_slot n p) (opened (entered list) 0 zs) (seen L (entered args) w.globals)) (sym closed)
            (entered_matches L (free_slot n p) args w.globals count);
        values = ok;
      }

  pub called_begins : (args : List ℤ) (w : World) → IsCallable P i (length args) →
      AreAllValues (args ++ values_from w.globals 0 (length P.globals)) →
      Begins P i p args (args ++ values_from w.globals 0 (length P.globals)) w
  called_begins args w fits ok =
      called_by (eqb i P.main) refl fits.1 args w (params_are (slice_get P.procedures i) p (length args) e fits.0) ok

  begins_by : (b : Bool) → (eqb i P.main) ≡ b → IsTrue (takes (slice_get P.procedures P.main) 0) → AreAllValues P.globals →
      (args before ins : List ℤ) → MayTake P i args before → Begins P i p args (cond b [] (args ++ before)) (started before ins 0)
  begins_by true at none ok args before ins may =
      let n = length P.globals in
      let L = layout_of n p in
      let main : i ≡ P.main = eqb-true i P.main at in
      let zero_params : 0 ≡ p.params = params_are (slice_get P.procedures P.main) p 0 (ap (slice_get P.procedures) (sym main) ∙ e) none in
      let count = params_are (slice_get P.procedures i) p (length args) e may.arguments in
      let no_args : args ≡ [] = no_values args (count ∙ sym zero_params) in
      let opens : before ≡ P.globals = may.begins.opening main in
      let all : opening_of P i ≡ P.globals = ap (opening_by P) at in
      record {
        matches = subst (λ zs. Matches (free_slot n p) (opened (entered []) 0 zs) (seen L (entered args) (entered before))) (sym all)
            (subst (λ xs. Matches (free_slot n p) (opened (entered []) 0 P.globals) (seen L (entered xs) (entered before))) (sym no_args)
            (subst (λ xs. Matches (free_slot n p) (opened (entered []) 0 P.globals) (seen L (entered []) (entered xs))) (sym opens)
            (opened_matches L (free_slot n p) P.globals (sym zero_params) refl)));
        values = all_none;
      }
  begins_by false at none ok args before ins may =
      let n = length P.globals in
      let w = started before ins 0 in
      let same : values_from w.globals 0 n ≡ before = values_entered before n may.begins.count in
      let count = params_are (slice_get P.procedures i) p (length args) e may.arguments in
      let values = both_values args before may.values may.global_values in
      subst (λ xs. Begins P i p args (args ++ xs) w) same
      (called_by false at refl args w count (subst (λ xs. AreAllValues (args ++ xs)) (sym same) values))

  -- a run that may begin
  pub run_begins : IsTrue (takes (slice_get P.procedures P.main) 0) → AreAllValues P.globals → (args before ins : List ℤ) →
      MayTake P i args before → Begins P i p args (entry_list P i args before) (started before ins 0)
  run_begins none ok args before ins may = begins_by (eqb i P.main) refl none ok args before ins may
