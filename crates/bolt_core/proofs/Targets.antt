-- Marks of the target of a state that closed by a path: their inputs, and the runs on these.
use Rattle.std.proofs.Common.{◌≡◌, ℕ, suc, ◌+◌, ◌<◌, false, inl, inr, List, length, map, get_or, Option, None, Some, ℤ, arith, refl, sym, ap, ◌∙◌, subst}
use Rattle.std.specs.Prelude.{slice_get, option_map}
use Rattle.std.proofs.lemmas.Option.{none-some, slice_get-map, slice_get_read, slice_get_within, same_Some}
use Rattle.linear_formula.specs.LinearSum.{valuation}
use Rattle.flow_graph.specs.Columns.{AreAllValues}
use Rattle.flow_graph.specs.Runs.{failed}
use Rattle.flow_graph.specs.declared.graph.Graph.{Graph}
use Rattle.summary_form.specs.Instances.{graph_runs}
use Rattle.summary_form.specs.Musts.{values_of}
use Rattle.summary_form.specs.Runs.{end_with}
use Rattle.summary_form.specs.declared.query.ExitKind.{ExitKind}
use Rattle.may_partition.specs.Parted.{end_node}
use Rattle.must_region.specs.Paths.{outcome_of}
use Rattle.must_region.specs.Traces.{Trace, trace_of}
use Rattle.must_region.specs.declared.trail.Trail.{Trail}
use Rattle.query_rules.specs.Closings.{IsTargetMark}
use Rattle.query_rules.specs.Found.{IsFound}
use Rattle.query_rules.specs.Paths.{is_marked, target_region}
use Rattle.query_rules.specs.Seen.{Seen, ShowsModel}
use Rattle.query_rules.specs.Steps.{Model}
use Rattle.query_rules.specs.declared.step.Mark.{Mark}
use Rattle.query_rules.specs.invariants.Marking.{IsGoodMark}
use Rattle.query_rules.proofs.Finding.{found}
use Rattle.query_rules.proofs.Leading.{marked_at}
use Rattle.query_rules.proofs.Marked.{IsMarked, state_marked}
use Rattle.bolt_core.specs.steps.Targets.{AreInputsAt, HasTargetMark}
use Rattle.bolt_core.proofs.InputValues.{run_inputs}

-- the element from which a list's view comes
viewed : {A B : Type 0} (view : A → B) (xs : List A) (n : ℕ) (y : B) → slice_get (map view xs) n ≡ Some y →
    (x : A) × (slice_get xs n ≡ Some x) × (view x ≡ y)
viewed view xs n y h = by (slice_get xs n) refl (sym (slice_get-map view xs n) ∙ h) where
  by : (o : Option _) → slice_get xs n ≡ o → option_map view o ≡ Some y → (x : _) × (slice_get xs n ≡ Some x) × (view x ≡ y)
  by None e k = absurd (none-some y k)
  by (Some x) e k = (x, e, same_Some (view x) y k)

-- what a loop reads from a list that is equal
pub item_there : {A : Type 0} (xs ys : List A) (i : ℕ) (x : A) → xs ≡ ys → i < length xs → x ≡ get_or xs i x → slice_get ys i ≡ Some x
item_there xs ys i x same low is = ap (λ zs. slice_get zs i) (sym same) ∙ slice_get_read xs (length xs) i x refl low is

-- a mark of the target by one model is one by each that the state shows
pub mark_along : (g : Graph) (s : Seen) (m n : Model) → ShowsModel s m → ShowsModel s n → (k : Mark) (t : Trace) → IsTargetMark g m k t →
    IsTargetMark g n k t
mark_along g s m n first second k t a = record {
  number = a.number;
  among = ap (λ (ks : List Mark). slice_get ks a.number) (second.marks ∙ sym first.marks) ∙ a.among;
  at_target = a.at_target ∙ ap (target_region g) (first.query ∙ sym second.query);
  there = ap (λ (ts : List Trace). slice_get ts k.trail) (second.trails ∙ sym first.trails) ∙ a.there;
}

module _ (g : Graph) (s : Seen) (h : HasTargetMark g s) where
  abbrev m : Model
  m = h.model

  marked : IsMarked h.graphs h.grounded.graphs g h.model
  marked = state_marked h.graphs h.grounded.graphs g h.table h.grounded.table_holds h.model.query h.model.ancestors h.model h.grounded.state

  abbrev pub target : ℕ
  target = g.fail + 1

  target_is : g.fail + 1 ≡ target_region g h.model.query
  target_is = add-one ∙ ap (λ (e : ExitKind). suc (end_node g e)) (sym h.exit) where
    add-one : g.fail + 1 ≡ suc g.fail
    add-one = omega arith

  module _ (i : ℕ) (k : Mark) (there : slice_get s.marks i ≡ Some k) (at : k.region ≡ g.fail + 1) where
    among : slice_get h.model.marks i ≡ Some k
    among = ap (λ ks. slice_get ks i) h.shows.marks ∙ there

    -- the mark's trail is there
    pub trail_of : (u : Trail) × (slice_get s.trails k.trail ≡ Some u) × IsTargetMark g h.model k (trace_of u)
    trail_of = by (marked.marks.good i k among) where
      by : IsGoodMark h.model.query h.model.trails h.model.parted.regions k →
          (u : Trail) × (slice_get s.trails k.trail ≡ Some u) × IsTargetMark g h.model k (trace_of u)
      by (inl o) = absurd (omega (arith, o.0, at))
      by (inr z) =
          let w = viewed trace_of s.trails k.trail z.trail (ap (λ ts. slice_get ts k.trail) (sym h.shows.trails) ∙ z.there) in (
            w.0,
            w.1,
            record {
              number = i;
              among = among;
              at_target = at ∙ target_is;
              there = z.there ∙ ap (λ t. Some t) (sym w.2);
            },
          )

    -- what is read at its number is that trail
    pub read_trail : (ts : List Trail) (x : Trail) → ts ≡ s.trails → x ≡ get_or ts k.trail x → IsTargetMark g h.model k (trace_of x)
    read_trail ts x same is =
        let low = slice_get_within s.trails k.trail trail_of.0 trail_of.1 in
        let here = item_there ts s.trails k.trail x same (omega (arith, low, ap length same)) is in
        subst (λ (u : Trail). IsTargetMark g h.model k (trace_of u)) (same_Some trail_of.0 x (sym trail_of.1 ∙ here)) trail_of.2

  module _ (k : Mark) (t : Trace) (at : IsTargetMark g h.model k t) where
    gives : IsFound h.graphs g h.model.query t k.point
    gives = found h.graphs g g.well_formed h.model.query marked.joined.at marked.fits h.model refl marked.marks k t at

    -- on the inputs at the mark a run fails
    pub fails_there : (d : ℕ) × graph_runs h.graphs d h.model.query.proc (values_of (valuation k.point) t.entry)
        (values_of (valuation k.point) t.inputs) (failed h.id)
    fails_there = subst (λ (e : ExitKind). (d : ℕ) × graph_runs h.graphs d h.model.query.proc (values_of (valuation k.point) t.entry)
        (values_of (valuation k.point) t.inputs) (end_with e (values_of (valuation k.point) (outcome_of e t)))) h.exit
        (gives.runs (valuation k.point) gives.values gives.met)

    pub are_values : AreAllValues (values_of (valuation k.point) t.inputs)
    are_values = run_inputs h.graphs fails_there.0 h.model.query.proc (values_of (valuation k.point) t.entry)
        (values_of (valuation k.point) t.inputs) (failed h.id) fails_there.1.run

    pub inputs_there : (list : List ℤ) → list ≡ values_of (valuation k.point) t.inputs → AreInputsAt g s list
    inputs_there list same = record {
      mark = k;
      trail = t;
      at_target = λ n shows. mark_along g s h.model n h.shows shows k t at;
      inputs = same;
    }

  -- a path of a mark of the target has a mark
  pub some_mark : is_marked s.marks (g.fail + 1) ≡ false → ⊥
  some_mark none =
      let w = h.closed in
      marked_at h.model.marks w.is_mark.number w.mark (g.fail + 1) w.is_mark.among (w.is_mark.at_target ∙ sym target_is)
      (ap (λ ks. is_marked ks (g.fail + 1)) h.shows.marks ∙ none)
