-- How the walk's bound moves, and what is found.
use Rattle.std.proofs.Common.{◌≡◌, ◌≢◌, ◌⊎◌, inl, inr, ℕ, zero, suc, ◌+◌, ◌-◌, ◌<◌, ◌≤◌, ◌^◌, ◌==◌, Bool, true, false, List, [], ◌∷◌, ◌++◌, length, take, replicate, pos, Option, Some, None, refl, sym, subst, ap, ◌∙◌, arith, length-append, ℤ}
use Rattle.std.specs.Prelude.{slice_get, Vec}
use Rattle.std.specs.declared.alloc.Global.{Global}
use Rattle.std.proofs.lemmas.List.{map-append}
use Rattle.std.proofs.lemmas.Option.{same_Some, none-some, slice_get_within}
use borrow.Author.Tests.{eqb-true, eqb-false}
use Rattle.linear_formula.specs.LinearSum.{LinearSum, Valuation, valuation}
use Rattle.linear_formula.specs.declared.formula.Cube.{Cube}
use Rattle.flow_graph.specs.declared.graph.Graph.{Graph}
use Rattle.flow_graph.specs.Linked.{AreGraphs}
use Rattle.flow_graph.specs.Runs.{failed}
use Rattle.shadow_elim.specs.declared.limit.Kept.{Kept}
use Rattle.summary_form.specs.Musts.{values_of}
use Rattle.path_sweep.specs.Ends.{MeetsLimit, Undecided, FeasibleBefore, FailsAt, IsEntry, IsWhole, IsMore, IsLimited, inputs_in}
use Rattle.c_tree.specs.Meaning.{entered}
use Rattle.linear_formula.specs.Results.{constant_sum}
use Rattle.flow_graph.specs.Columns.{AreAllValues, first_symbol}
use Rattle.flow_graph.specs.WellFormed.{first_node}
use Rattle.must_region.specs.Traces.{Trace}
use Rattle.must_region.specs.Rules.{begin_trail, symbols_from}
use Rattle.path_sweep.specs.Executions.{IsFeasible, IsTaken, running, ended}
use Rattle.path_sweep.specs.Guards.{Stage, enters, runs, gave, fails, Walked, begun, opened, stage_at, ComesTo}
use Rattle.path_sweep.specs.Order.{Before, AreThose}
use Rattle.path_sweep.specs.declared.frames.Level.{Level}
use Rattle.path_sweep.specs.declared.frames.Frame.{Frame}
use Rattle.path_sweep.specs.declared.frames.Place.TheVariants.{At, Returned, Failed}
use Rattle.path_sweep.specs.declared.step.Step.{Step}
use Rattle.path_sweep.specs.declared.walk.Walk.{Walk}
use Rattle.path_sweep.specs.steps.Frames.{IsStage, CanFollow}
use Rattle.path_sweep.specs.steps.Linking.{IsFirst}
use Rattle.path_sweep.specs.steps.Walks.{first_walked, path_of, path_with, level_of, Leads, IsWalk, IsPoint, IsFilled}
use Rattle.path_sweep.proofs.Bounds.{Begins, passes, counts, goes_back, is_whole, clear_passes, clear_counts, clear_back}
use Rattle.path_sweep.proofs.Adding.{entry_at}
use Rattle.path_sweep.proofs.Ending.{front_one}
use Rattle.path_sweep.proofs.Guarding.{guards_are_taken, taken_paths_have_guards}
use Rattle.path_sweep.proofs.Ordering.{through, never, get_pushed, last_pushed, old_pushed}
use Rattle.path_sweep.proofs.TermValues.{AreColumns, columns_split, columns_values, comes_columns}
use Rattle.path_sweep.proofs.Trees.{comes_one, fronts, any_front, begins_with, not_empty}
use Rattle.path_sweep.proofs.Walking.{path_comes, first_comes, comes_join, leads_push, Popped, leads_pop, can_follow, nothing_follows, is_feasible, guard_front, inputs_front}

-- Entries

module _ (gs : List Graph) (main : ℕ) where
  fails_apart : (v : Valuation) (stage : Stage) (id : ℕ) → stage_at v stage ≡ ended (failed id) → stage ≡ fails id
  fails_apart v (enters g args ws) id e = absurd (cc)
  fails_apart v (runs g node slots entry ws) id e = absurd (cc)
  fails_apart v (gave terms) id e = absurd (cc)
  fails_apart v (fails j) id e = let same : j ≡ id = cc in ap fails same

  -- a path that fails ends in a failure
  pub fails_as : AreGraphs gs → (g : Graph) → slice_get gs main ≡ Some g → g.params ≡ 0 → (q : List ℕ) (after : Walked) →
      ComesTo gs q (begun g) after → (id : ℕ) → FailsAt gs main id q → after.at ≡ fails id
  fails_as linked g at none q after comes id f =
      let h = taken_paths_have_guards gs main g q f.0 (ended (failed id)) linked at none f.1 in
      let same : h.new ≡ after = comes_one gs q (begun g) h.new after h.comes comes in
      ap (λ (x : Walked). x.at) (sym same) ∙ fails_apart h.at h.new.at id h.place

  entry_kept : (paths : List (List ℕ)) (q : List ℕ) (id : ℕ) (o : Option (List ℤ)) → (o ≡ None → FailsAt gs main id q → ⊥) →
      IsEntry gs main paths id o → IsEntry gs main (paths ++ q ∷ []) id o
  entry_kept paths q id None other h = λ k p e f. on k p f (get_pushed paths q k p e) where
    on : (k : ℕ) (p : List ℕ) → FailsAt gs main id p → (slice_get paths k ≡ Some p) ⊎ ((k ≡ length paths) × (p ≡ q)) → ⊥
    on k p f (inl e) = h k p e f
    on k p f (inr e) = other refl (subst (FailsAt gs main id) e.1 f)
  entry_kept paths q id (Some ins) other h =
      (h.0, h.1, old_pushed paths q h.0 h.1 h.2, h.3, λ l r lt e f. on l r lt f (get_pushed paths q l r e)) where
        on : (l : ℕ) (r : List ℕ) → l < h.0 → FailsAt gs main id r → (slice_get paths l ≡ Some r) ⊎ ((l ≡ length paths) × (r ≡ q)) → ⊥
        on l r lt f (inl e) = h.4 l r lt e f
        on l r lt f (inr e) =
            let within = slice_get_within paths h.0 h.1 h.2 in let z = e.0 in omega (arith, within, lt, z)

  entry_new : (paths : List (List ℕ)) (q : List ℕ) (id : ℕ) (ins : List ℤ) → IsEntry gs main paths id None →
      IsTaken gs main q ins (ended (failed id)) → IsEntry gs main (paths ++ q ∷ []) id (Some ins)
  entry_new paths q id ins h t = (length paths, q, last_pushed paths q, t, λ l r lt e f. on l r lt f (get_pushed paths q l r e)) where
    on : (l : ℕ) (r : List ℕ) → l < length paths → FailsAt gs main id r → (slice_get paths l ≡ Some r) ⊎ ((l ≡ length paths) × (r ≡ q)) → ⊥
    on l r lt f (inl e) = h l r e f
    on l r lt f (inr e) = let z = e.0 in omega (arith, lt, z)

  abbrev pub AreEntries : List (List ℕ) → List (Option (Vec ℤ Global)) → Type 0
  AreEntries paths found = (id : ℕ) (o : Option (Vec ℤ Global)) → slice_get found id ≡ Some o → IsEntry gs main paths id (inputs_in o)

  -- the path fails nowhere
  pub entries_kept : (paths : List (List ℕ)) (q : List ℕ) (found : List (Option (Vec ℤ Global))) → ((id : ℕ) → FailsAt gs main id q → ⊥) →
      AreEntries paths found → AreEntries (paths ++ q ∷ []) found
  entries_kept paths q found other h = λ id o e. entry_kept paths q id (inputs_in o) (λ _. other id) (h id o e)

  -- it fails here, on these inputs
  pub entries_filled : (paths : List (List ℕ)) (q : List ℕ) (j : ℕ) (ins : List ℤ) (found new : List (Option (Vec ℤ Global))) →
      ((id : ℕ) → FailsAt gs main id q → id ≡ j) → IsTaken gs main q ins (ended (failed j)) → IsFilled j ins found new →
      AreEntries paths found → AreEntries (paths ++ q ∷ []) new
  entries_filled paths q j ins found new only t filled h = λ id o e. by_id id o e (id == j) refl where
    here : (o : Option (Vec ℤ Global)) → slice_get new j ≡ Some o → (old : Option (Vec ℤ Global)) → slice_get found j ≡ Some old →
        IsEntry gs main (paths ++ q ∷ []) j (inputs_in o)
    here o e None old =
        let f = filled.filled old in
        let same : o ≡ Some f.0 = same_Some o (Some f.0) (sym e ∙ f.1) in
        subst (IsEntry gs main (paths ++ q ∷ []) j) (sym (ap inputs_in same ∙ ap Some f.2)) (entry_new paths q j ins (h j None old) t)
    here o e (Some v) old =
        let same : o ≡ Some v = same_Some o (Some v) (sym e ∙ filled.full v old) in
        subst (λ x. IsEntry gs main (paths ++ q ∷ []) j (inputs_in x)) (sym same)
        (entry_kept paths q j (Some v.items) (λ z. absurd (none-some v.items (sym z))) (h j (Some v) old))

    within_old : (o : Option (Vec ℤ Global)) → slice_get new j ≡ Some o → (x : Option (Vec ℤ Global)) × (slice_get found j ≡ Some x)
    within_old o e = there found j (let w = slice_get_within new j o e in omega (arith, w, filled.same)) where
      there : (xs : List (Option (Vec ℤ Global))) (k : ℕ) → k < length xs → (x : Option (Vec ℤ Global)) × (slice_get xs k ≡ Some x)
      there [] k lt = absurd (omega (arith, lt))
      there (x ∷ xs) zero lt = (x, refl)
      there (x ∷ xs) (suc k) lt = there xs k (omega (arith, lt))

    by_id : (id : ℕ) (o : Option (Vec ℤ Global)) → slice_get new id ≡ Some o → (b : Bool) → (id == j) ≡ b →
        IsEntry gs main (paths ++ q ∷ []) id (inputs_in o)
    by_id id o e true t' =
        let s : id ≡ j = eqb-true id j t' in
        let e' : slice_get new j ≡ Some o = subst (λ k. slice_get new k ≡ Some o) s e in
        let old = within_old o e' in
        subst (λ k. IsEntry gs main (paths ++ q ∷ []) k (inputs_in o)) (sym s) (here o e' old.0 old.1)
    by_id id o e false t' =
        let s : id ≢ j = eqb-false id j t' in
        entry_kept paths q id (inputs_in o) (λ _ f. s (only id f)) (h id o (sym (filled.others id s) ∙ e))

  -- The bound

  asked : (q : List ℕ) → Undecided gs main q → (p : List ℕ) × (i : ℕ) × (q ≡ p ++ i ∷ []) × IsFeasible gs main p
  asked q u = (u.1.question.front, u.1.question.edge, u.1.question.is, u.1.question.feasible)

  -- what stands before the path with this number after it was counted
  pub record Reached (p : List ℕ) (i : ℕ) (paths : List (List ℕ)) : Type 0 where
    pub those : AreThose (FeasibleBefore gs main (p ++ i ∷ [])) paths
    pub clear : (q : List ℕ) → Before q (p ++ i ∷ []) → Undecided gs main q → ⊥

  abbrev pub IsOut : List ℕ → Type 0
  IsOut q = (IsFeasible gs main q → ⊥) × (Undecided gs main q → ⊥)

  pub reach_on : (p : List ℕ) (i : ℕ) (paths : List (List ℕ)) → IsOut (p ++ i ∷ []) → Reached p i paths → Reached p (suc i) paths
  reach_on p i paths out r = record {
    those = passes (IsFeasible gs main) (fronts gs main) p i paths out.0 r.those;
    clear = clear_passes (IsFeasible gs main) (fronts gs main) (Undecided gs main) asked p i out.0 out.1 r.clear;
  }

  reach_far : (p : List ℕ) (d i j : ℕ) (paths : List (List ℕ)) → j ≡ d + i → ((k : ℕ) → i ≤ k → k < j → IsOut (p ++ k ∷ [])) →
      Reached p i paths →
      Reached p j paths
  reach_far p zero i j paths e out r = subst (λ n. Reached p n paths) (let s : i ≡ j = omega (arith, e) in s) r
  reach_far p (suc d) i j paths e out r =
      let before = reach_far p d i (d + i) paths refl (λ k le lt. out k le (omega (arith, lt, e))) r in
      let s : suc (d + i) ≡ j = omega (arith, e) in
      subst (λ n. Reached p n paths) s (reach_on p (d + i) paths (out (d + i) (omega arith) (omega (arith, e))) before)

  pub reach_to : (p : List ℕ) (i j : ℕ) (paths : List (List ℕ)) → i ≤ j → ((k : ℕ) → i ≤ k → k < j → IsOut (p ++ k ∷ [])) →
      Reached p i paths →
      Reached p j paths
  reach_to p i j paths le out r = reach_far p (j - i) i j paths (omega (arith, le)) out r

  pub reach_down : (p : List ℕ) (i : ℕ) (paths : List (List ℕ)) → IsFeasible gs main (p ++ i ∷ []) → (Undecided gs main (p ++ i ∷ []) → ⊥) →
      Reached p i paths → Reached (p ++ i ∷ []) 0 (paths ++ (p ++ i ∷ []) ∷ [])
  reach_down p i paths own clear r = record {
    those = counts (IsFeasible gs main) (fronts gs main) p i paths own r.those;
    clear = clear_counts (IsFeasible gs main) (fronts gs main) (Undecided gs main) asked p i clear r.clear;
  }

  pub reach_back : (p : List ℕ) (j i : ℕ) (paths : List (List ℕ)) → ((k : ℕ) → i ≤ k → IsOut ((p ++ j ∷ []) ++ k ∷ [])) →
      Reached (p ++ j ∷ []) i paths → Reached p (suc j) paths
  reach_back p j i paths out r = record {
    those = goes_back (IsFeasible gs main) (fronts gs main) p j i paths (λ k le. (out k le).0) r.those;
    clear = clear_back (IsFeasible gs main) (fronts gs main) (Undecided gs main) asked p j i out r.clear;
  }

  first_before : (q : List ℕ) → Begins (0 ∷ []) q → Before q (1 ∷ [])
  first_before q b = subst (λ r. Before r (1 ∷ [])) (sym b.is) (inl (omega arith))

  begins_more : (p more q : List ℕ) → Begins (0 ∷ []) p → q ≡ p ++ more → Begins (0 ∷ []) q
  begins_more p more q b e = record { more = b.more ++ more; is = e ∙ ap (λ r. r ++ more) b.is }

  pub reach_all : (edges : ℕ) (paths : List (List ℕ)) → length paths ≤ edges → Reached [] 1 paths → IsWhole gs main edges paths
  reach_all edges paths few r = record {
    those = is_whole (IsFeasible gs main) (fronts gs main) paths (begins_with gs main) r.those;
    few = few;
    clear = λ q u. r.clear q (first_before q (begins_more u.1.question.front (u.1.question.edge ∷ []) q
        (begins_with gs main u.1.question.front u.1.question.feasible) u.1.question.is)) u;
  }

  -- one more was counted
  last_of : (x : List ℕ) (xs : List (List ℕ)) → (before : List (List ℕ)) × (last : List ℕ) × (x ∷ xs ≡ before ++ last ∷ [])
  last_of x [] = ([], x, refl)
  last_of x (y ∷ ys) = let r = last_of y ys in (x ∷ r.0, r.1, ap (λ zs. x ∷ zs) r.2)

  pub reach_more : (edges : ℕ) (p : List ℕ) (i : ℕ) (paths : List (List ℕ)) → length paths ≡ edges + 1 → Reached p i paths →
      IsMore gs main edges paths
  reach_more edges p i [] n r = absurd (omega (arith, n))
  reach_more edges p i (x ∷ xs) n r = on (last_of x xs) where
    on : (before : List (List ℕ)) × (last : List ℕ) × (x ∷ xs ≡ before ++ last ∷ []) → IsMore gs main edges (x ∷ xs)
    on l = make l.0 l.1 l.2 (subst (Reached p i) l.2 r) where
      make : (before : List (List ℕ)) (last : List ℕ) → x ∷ xs ≡ before ++ last ∷ [] → Reached p i (before ++ last ∷ []) →
          IsMore gs main edges (x ∷ xs)
      make before last is r =
          let own = r.those.each (length before) last (last_pushed before last) in
          record {
            before = before;
            last = last;
            is = is;
            those = record {
              each = λ k q e. (
                (r.those.each k q (old_pushed before last k q e)).0,
                r.those.in_order k (length before) q last (slice_get_within before k q e) (old_pushed before last k q e)
                    (last_pushed before last),
              );
              all = λ q f. all q f;
              in_order = λ k l q s o e f. r.those.in_order k l q s o (old_pushed before last k q e) (old_pushed before last l s f);
            };
            full = let a = ap length is in let b = length-append before (last ∷ []) in omega (arith, n, a, b);
            feasible = own.0;
            clear = λ q o u. clear q o u;
          } where
            all : (q : List ℕ) → FeasibleBefore gs main last q → (k : ℕ) × (slice_get before k ≡ Some q)
            all q f =
                let own = r.those.each (length before) last (last_pushed before last) in
                let place = r.those.all q (f.0, through q last (p ++ i ∷ []) f.1 own.1) in
                on_place q f place.0 (get_pushed before last place.0 q place.1) where
                  on_place : (q : List ℕ) → FeasibleBefore gs main last q → (k : ℕ) → (slice_get before k ≡ Some q)
                      ⊎ ((k ≡ length before) × (q ≡ last)) →
                      (k : ℕ) × (slice_get before k ≡ Some q)
                  on_place q f k (inl e) = (k, e)
                  on_place q f k (inr e) = absurd (never last (subst (λ z. Before z last) e.1 f.1))

            clear : (q : List ℕ) → (q ≡ last) ⊎ Before q last → Undecided gs main q → ⊥
            clear q (inl e) u =
                let own = r.those.each (length before) last (last_pushed before last) in
                r.clear q (subst (λ z. Before z (p ++ i ∷ [])) (sym e) own.1) u
            clear q (inr b) u =
                let own = r.those.each (length before) last (last_pushed before last) in
                r.clear q (through q last (p ++ i ∷ []) b own.1) u

  pub reach_limit : (edges : ℕ) (p : List ℕ) (i : ℕ) (paths : List (List ℕ)) (kept : Kept) →
      length paths ≤ edges → MeetsLimit gs main (p ++ i ∷ []) kept → Reached p i paths → IsLimited gs main edges paths kept
  reach_limit edges p i paths kept few meets r = record {
    path = p ++ i ∷ [];
    those = r.those;
    few = few;
    meets = meets;
    clear = λ q b u. r.clear q b u;
  }

-- where the frame of a step stands

pub stage_returned : (gs : List Graph) (levels : List Level) (f : Frame) (stage : Stage) → f.place ≡ Returned → IsStage gs levels f stage →
    ((k : ℕ) → CanFollow stage k → ⊥) × ((id : ℕ) → stage ≡ fails id → ⊥)
stage_returned gs levels f (enters g args ws) p h = absurd (let e = sym h.0 ∙ p in cc)
stage_returned gs levels f (runs g node slots entry ws) p h = absurd (let e = sym h.0 ∙ p in cc)
stage_returned gs levels f (gave terms) p h = (λ k can. can, λ id e. cc)
stage_returned gs levels f (fails id) p h = absurd (let e = sym h ∙ p in cc)

pub stage_failed : (gs : List Graph) (levels : List Level) (f : Frame) (id : ℕ) (stage : Stage) → f.place ≡ Failed id →
    IsStage gs levels f stage →
    stage ≡ fails id
stage_failed gs levels f id (enters g args ws) p h = absurd (let e = sym h.0 ∙ p in cc)
stage_failed gs levels f id (runs g node slots entry ws) p h = absurd (let e = sym h.0 ∙ p in cc)
stage_failed gs levels f id (gave terms) p h = absurd (let e = sym h.0 ∙ p in cc)
stage_failed gs levels f id (fails j) p h = same j (sym h ∙ p) where
  same : (j : ℕ) → Failed j ≡ Failed id → fails j ≡ fails id
  same j e = let n : j ≡ id = cc in ap fails n

pub stage_goes : (gs : List Graph) (levels : List Level) (f : Frame) (stage : Stage) → ((id : ℕ) → f.place ≡ Failed id → ⊥) →
    IsStage gs levels f stage →
    (id : ℕ) → stage ≡ fails id → ⊥
stage_goes gs levels f stage other h id e = other id (subst (IsStage gs levels f) e h)

none_follow : (stage : Stage) (id : ℕ) → stage ≡ fails id → (k : ℕ) → CanFollow stage k → ⊥
none_follow stage id e k can = subst (λ s. CanFollow s k) e can

only_one : (stage : Stage) (i j : ℕ) → stage ≡ fails i → stage ≡ fails j → j ≡ i
only_one stage i j e f = same (sym f ∙ e) where
  same : fails j ≡ fails i → j ≡ i
  same e = cc

path_push : (levels : List Level) (l : Level) → path_of (levels ++ l ∷ []) ≡ path_of levels ++ l.edge ∷ []
path_push levels l = ap (λ es. 0 ∷ es) (map-append (λ (x : Level). x.edge) levels (l ∷ []))

-- The walk over a feasible path

module _ (gs : List Graph) (linked : AreGraphs gs) (main : ℕ) (old : Walk) (h : IsWalk gs main old) where
  here : ComesTo gs (path_of old.levels.items) (begun h.graph) h.now
  here = path_comes gs h.graph old.levels.items h.now h.leads

  pub reached : Reached gs main (path_of old.levels.items) h.from h.paths
  reached = record { those = h.those; clear = h.clear }

  out_at : (k : ℕ) → (CanFollow h.now.at k → ⊥) → IsOut gs main (path_of old.levels.items ++ k ∷ [])
  out_at k none = nothing_follows gs linked main h.graph h.at h.none (path_of old.levels.items) h.now here k none

  pub reached_next : (edge : ℕ) → old.next ≡ Some edge → Reached gs main (path_of old.levels.items) edge h.paths
  reached_next edge next =
      let nx = subst (IsFirst (CanFollow h.now.at) h.from) next h.next in
      reach_to gs main (path_of old.levels.items) h.from edge h.paths nx.0 (λ k le lt. out_at k (nx.2 k le lt)) reached

  pub none_left : old.next ≡ None → (k : ℕ) → h.from ≤ k → IsOut gs main (path_of old.levels.items ++ k ∷ [])
  none_left next k le = out_at k ((subst (IsFirst (CanFollow h.now.at) h.from) next h.next) k le)

  pub may_follow : (edge : ℕ) → old.next ≡ Some edge → CanFollow h.now.at edge
  may_follow edge next = (subst (IsFirst (CanFollow h.now.at) h.from) next h.next).1

  -- the walk passes an edge whose path isn't feasible
  pub walk_passes : (edge : ℕ) → old.next ≡ Some edge → IsOut gs main (path_with old.levels.items edge) → (next : Option ℕ) →
      IsFirst (CanFollow h.now.at) (edge + 1) next → (new : Walk) → new ≡ record old { next = next } → IsWalk gs main new
  walk_passes edge at_next out next first new is =
      let r = reach_on gs main (path_of old.levels.items) edge h.paths out (reached_next edge at_next) in
      subst (IsWalk gs main) (sym is) (record {
        graph = h.graph;
        at = h.at;
        none = h.none;
        now = h.now;
        leads = h.leads;
        stage = h.stage;
        symbols = h.symbols;
        guard = h.guard;
        inputs = h.inputs;
        feasible = h.feasible;
        from = suc edge;
        next = subst (λ n. IsFirst (CanFollow h.now.at) n next) (let s : edge + 1 ≡ suc edge = omega arith in s) first;
        paths = h.paths;
        count = h.count;
        those = r.those;
        clear = r.clear;
        entries = h.entries;
      })

  module _ (edge : ℕ) (at_next : old.next ≡ Some edge) (step : Step) (guard : Cube) (at : List (ℕ × ℤ))
      (pt : IsPoint gs main old h.now edge step guard at) where
    comes : ComesTo gs (path_with old.levels.items edge) (begun h.graph) pt.after
    comes = comes_join gs (path_of old.levels.items) edge (begun h.graph) h.now pt.after pt.sums here pt.follows

    pub feasible : IsFeasible gs main (path_with old.levels.items edge)
    feasible = is_feasible gs linked main h.graph h.at h.none (path_of old.levels.items) h.now here edge pt.sums pt.after pt.follows
        (valuation at)
        pt.values pt.meets

    pub taken : IsTaken gs main (path_with old.levels.items edge) (values_of (valuation at) pt.after.inputs)
        (stage_at (valuation at) pt.after.at)
    taken = guards_are_taken gs main h.graph (path_with old.levels.items edge) pt.after linked h.at h.none comes (valuation at) pt.values
        pt.meets

    pub fails_only : (id : ℕ) → FailsAt gs main id (path_with old.levels.items edge) → pt.after.at ≡ fails id
    fails_only id f = fails_as gs main linked h.graph h.at h.none (path_with old.levels.items edge) pt.after comes id f

    -- the values of its inputs are of 64 bits
    pub inputs_values : AreAllValues (values_of (valuation at) old.inputs.items) × AreAllValues (values_of (valuation at) step.read)
    inputs_values =
        let columns = comes_columns gs (path_with old.levels.items edge) (begun h.graph) pt.after comes tt in
        let r = columns_split old.inputs.items step.read (subst AreColumns (sym pt.inputs_are) columns) in
        (columns_values (valuation at) pt.values old.inputs.items r.0, columns_values (valuation at) pt.values step.read r.1)

    counted : Reached gs main (path_with old.levels.items edge) 0 (h.paths ++ path_with old.levels.items edge ∷ [])
    counted = reach_down gs main (path_of old.levels.items) edge h.paths feasible pt.clear (reached_next edge at_next)

    more_paths : (n : ℕ) → n ≡ old.counted + 1 → length (h.paths ++ path_with old.levels.items edge ∷ []) ≡ n
    more_paths n e = length-append h.paths (path_with old.levels.items edge ∷ []) ∙ (ap (λ k. k + 1) h.count ∙ sym e)

    -- it goes on
    pub walk_down : edge < 2 ^ 64 → ((id : ℕ) → pt.after.at ≡ fails id → ⊥) → (new : Walk) → new.frame ≡ step.frame → new.guard.atoms
        ≡ guard.atoms →
        new.inputs.items ≡ old.inputs.items ++ step.read → new.symbols ≡ step.symbols →
        new.levels.items ≡ old.levels.items ++ level_of old edge ∷ [] → IsFirst (CanFollow pt.after.at) 0 new.next → new.counted
        ≡ old.counted + 1 →
        new.found.items ≡ old.found.items → IsWalk gs main new
    walk_down fits goes new frame guards inputs symbols levels next number found =
        let path : path_of new.levels.items ≡ path_with old.levels.items edge = ap path_of levels ∙ path_push old.levels.items
        (level_of old edge) in
        record {
          graph = h.graph;
          at = h.at;
          none = h.none;
          now = pt.after;
          leads = subst (λ ls. Leads gs [] ls (first_walked h.graph) pt.after) (sym levels)
              (leads_push gs [] old.levels.items (level_of old edge) (first_walked h.graph) h.now pt.after pt.sums h.leads (record {
                symbols = h.symbols;
                rows = ap length h.guard;
                read = ap length h.inputs;
                fits = fits;
                stage = h.stage;
              }) pt.follows);
          stage = subst (λ ls. IsStage gs ls new.frame pt.after.at) (sym levels)
              (subst (λ f. IsStage gs (old.levels.items ++ level_of old edge ∷ []) f pt.after.at) (sym frame)
              (pt.lies (level_of old edge) refl refl));
          symbols = symbols ∙ pt.count;
          guard = guards ∙ pt.guard_is;
          inputs = inputs ∙ pt.inputs_are;
          feasible = subst (IsFeasible gs main) (sym path) feasible;
          from = 0;
          next = next;
          paths = h.paths ++ path_with old.levels.items edge ∷ [];
          count = more_paths new.counted number;
          those = subst (λ q. AreThose (FeasibleBefore gs main (q ++ 0 ∷ [])) (h.paths ++ path_with old.levels.items edge ∷ [])) (sym path)
              counted.those;
          clear = subst (λ q. (r : List ℕ) → Before r (q ++ 0 ∷ []) → Undecided gs main r → ⊥) (sym path) counted.clear;
          entries = subst (AreEntries gs main (h.paths ++ path_with old.levels.items edge ∷ [])) (sym found)
              (entries_kept gs main h.paths (path_with old.levels.items edge) old.found.items (λ id f. goes id (fails_only id f))
              h.entries);
        }

    -- it ends there
    pub walk_stays : ((k : ℕ) → CanFollow pt.after.at k → ⊥) → (new : Walk) → new.frame ≡ old.frame → new.guard ≡ old.guard →
        new.inputs ≡ old.inputs → new.symbols ≡ old.symbols → new.levels ≡ old.levels → IsFirst (CanFollow h.now.at) (edge + 1) new.next →
        new.counted ≡ old.counted + 1 →
        AreEntries gs main (h.paths ++ path_with old.levels.items edge ∷ []) new.found.items → IsWalk gs main new
    walk_stays ends new frame guards inputs symbols levels next number entries =
        let items : new.levels.items ≡ old.levels.items = ap (λ (x : Vec Level Global). x.items) levels in
        let r = reach_back gs main (path_of old.levels.items) edge 0 (h.paths ++ path_with old.levels.items edge ∷ [])
        (λ k _. nothing_follows gs linked main h.graph h.at h.none (path_with old.levels.items edge) pt.after comes k (ends k)) counted in
        record {
          graph = h.graph;
          at = h.at;
          none = h.none;
          now = h.now;
          leads = subst (λ ls. Leads gs [] ls (first_walked h.graph) h.now) (sym items) h.leads;
          stage = subst (λ ls. IsStage gs ls new.frame h.now.at) (sym items) (subst (λ f. IsStage gs old.levels.items f h.now.at)
              (sym frame)
              h.stage);
          symbols = symbols ∙ h.symbols;
          guard = ap (λ (x : Cube). x.atoms) guards ∙ h.guard;
          inputs = ap (λ (x : Vec LinearSum Global). x.items) inputs ∙ h.inputs;
          feasible = subst (λ ls. IsFeasible gs main (path_of ls)) (sym items) h.feasible;
          from = suc edge;
          next = subst (λ n. IsFirst (CanFollow h.now.at) n new.next) (let s : edge + 1 ≡ suc edge = omega arith in s) next;
          paths = h.paths ++ path_with old.levels.items edge ∷ [];
          count = more_paths new.counted number;
          those = subst (λ ls. AreThose (FeasibleBefore gs main (path_of ls ++ suc edge ∷ [])) (h.paths ++ path_with old.levels.items edge
              ∷ []))
              (sym items) r.those;
          clear = subst (λ ls. (q : List ℕ) → Before q (path_of ls ++ suc edge ∷ []) → Undecided gs main q → ⊥) (sym items) r.clear;
          entries = entries;
        }

    -- it failed at the assertion
    pub walk_fails : (id : ℕ) → step.frame.place ≡ Failed id → (new : Walk) → new.frame ≡ old.frame → new.guard ≡ old.guard →
        new.inputs ≡ old.inputs → new.symbols ≡ old.symbols → new.levels ≡ old.levels → IsFirst (CanFollow h.now.at) (edge + 1) new.next →
        new.counted ≡ old.counted + 1 →
        IsFilled id (values_of (valuation at) (old.inputs.items ++ step.read)) old.found.items new.found.items → IsWalk gs main new
    walk_fails id place new frame guards inputs symbols levels next number filled =
        let at_end : pt.after.at ≡ fails id = stage_failed gs (old.levels.items ++ level_of old edge ∷ []) step.frame id pt.after.at place
        (pt.lies (level_of old edge) refl refl) in
        let t : IsTaken gs main (path_with old.levels.items edge) (values_of (valuation at) (old.inputs.items ++ step.read))
        (ended (failed id)) =
        subst (λ ts. IsTaken gs main (path_with old.levels.items edge) (values_of (valuation at) ts) (ended (failed id)))
        (sym pt.inputs_are)
        (subst (λ s. IsTaken gs main (path_with old.levels.items edge) (values_of (valuation at) pt.after.inputs)
        (stage_at (valuation at) s))
        at_end
        taken) in
        walk_stays (none_follow pt.after.at id at_end) new frame guards inputs symbols levels next number
        (entries_filled gs main h.paths (path_with old.levels.items edge) id (values_of (valuation at) (old.inputs.items ++ step.read))
        old.found.items
        new.found.items (λ j f. only_one pt.after.at id j at_end (fails_only j f)) t filled h.entries)

    -- `main` returned
    pub walk_returns : step.frame.place ≡ Returned → (new : Walk) → new.frame ≡ old.frame → new.guard ≡ old.guard →
        new.inputs ≡ old.inputs → new.symbols ≡ old.symbols → new.levels ≡ old.levels → IsFirst (CanFollow h.now.at) (edge + 1) new.next →
        new.counted ≡ old.counted + 1 → new.found.items ≡ old.found.items → IsWalk gs main new
    walk_returns place new frame guards inputs symbols levels next number found =
        let s = stage_returned gs (old.levels.items ++ level_of old edge ∷ []) step.frame pt.after.at place
        (pt.lies (level_of old edge) refl refl) in
        walk_stays s.0 new frame guards inputs symbols levels next number
        (subst (AreEntries gs main (h.paths ++ path_with old.levels.items edge ∷ [])) (sym found)
        (entries_kept gs main h.paths (path_with old.levels.items edge) old.found.items (λ id f. s.1 id (fails_only id f)) h.entries))

  -- The walk is at its end
  pub walk_whole : old.next ≡ None → old.levels.items ≡ [] → (edges : ℕ) → old.counted ≤ edges → IsWhole gs main edges h.paths
  walk_whole none_next empty edges few =
      let out = subst (λ ls. (k : ℕ) → h.from ≤ k → IsOut gs main (path_of ls ++ k ∷ [])) empty (none_left none_next) in
      let r = subst (λ ls. Reached gs main (path_of ls) h.from h.paths) empty reached in
      reach_all gs main edges h.paths (let n = h.count in omega (arith, n, few)) (reach_back gs main [] 0 h.from h.paths out r)

  pub walk_more : (edges : ℕ) → old.counted ≡ edges + 1 → IsMore gs main edges h.paths
  walk_more edges n = reach_more gs main edges (path_of old.levels.items) h.from h.paths (h.count ∙ n) reached

  pub walk_limit : (edge : ℕ) → old.next ≡ Some edge → (kept : Kept) → MeetsLimit gs main (path_with old.levels.items edge) kept →
      (edges : ℕ) →
      old.counted ≤ edges → IsLimited gs main edges h.paths kept
  walk_limit edge next kept meets edges few =
      reach_limit gs main edges (path_of old.levels.items) edge h.paths kept (let n = h.count in omega (arith, n, few)) meets
      (reached_next edge next)

  -- The walk goes back over its last level
  module _ (levels : List Level) (l : Level) (split : old.levels.items ≡ levels ++ l ∷ []) (none_next : old.next ≡ None) where
    pub record Back : Type 0 where
      pub mid : Walked
      pub stage : IsStage gs levels l.frame mid.at
      pub can : CanFollow mid.at l.edge
      pub fits : l.edge < 2 ^ 64
      pub walk : (new : Walk) → new.frame ≡ l.frame → new.guard.atoms ≡ take l.rows old.guard.atoms → new.inputs.items
          ≡ take l.read old.inputs.items →
          new.symbols ≡ l.symbols → new.levels.items ≡ levels → IsFirst (CanFollow mid.at) (l.edge + 1) new.next → new.counted
          ≡ old.counted →
          new.found.items ≡ old.found.items → IsWalk gs main new

    pub goes_up : Back
    goes_up =
        let parted = leads_pop gs [] levels l (first_walked h.graph) h.now (subst (λ ls. Leads gs [] ls (first_walked h.graph) h.now) split
        h.leads) in
        record {
          mid = parted.mid;
          stage = parted.is.stage;
          fits = parted.is.fits;
          can = can_follow gs l.edge parted.mid parted.mid.at parted.sums h.now parted.follows;
          walk = λ new frame guards inputs symbols items next number found. make parted new frame guards inputs symbols items next number
              found;
        } where
          make : (parted : Popped gs [] levels l (first_walked h.graph) h.now) (new : Walk) → new.frame ≡ l.frame →
              new.guard.atoms ≡ take l.rows old.guard.atoms → new.inputs.items ≡ take l.read old.inputs.items → new.symbols ≡ l.symbols →
              new.levels.items ≡ levels → IsFirst (CanFollow parted.mid.at) (l.edge + 1) new.next → new.counted ≡ old.counted →
              new.found.items ≡ old.found.items → IsWalk gs main new
          make parted new frame guards inputs symbols items next number found =
              let path : path_of old.levels.items ≡ path_of levels ++ l.edge ∷ [] = ap path_of split ∙ path_push levels l in
              let r = reach_back gs main (path_of levels) l.edge h.from h.paths
              (subst (λ q. (k : ℕ) → h.from ≤ k → IsOut gs main (q ++ k ∷ [])) path (none_left none_next))
              (subst (λ q. Reached gs main q h.from h.paths) path reached) in
              let front : IsFeasible gs main (path_of levels) = shorter in
              record {
                graph = h.graph;
                at = h.at;
                none = h.none;
                now = parted.mid;
                leads = subst (λ ls. Leads gs [] ls (first_walked h.graph) parted.mid) (sym items) parted.leads;
                stage = subst (λ ls. IsStage gs ls new.frame parted.mid.at) (sym items)
                    (subst (λ f. IsStage gs levels f parted.mid.at) (sym frame) parted.is.stage);
                symbols = symbols ∙ parted.is.symbols;
                guard = guards ∙ (ap (λ n. take n old.guard.atoms) parted.is.rows ∙ (ap (take (length parted.mid.guard)) h.guard
                    ∙ guard_front gs l.edge parted.mid parted.sums h.now parted.follows));
                inputs = inputs ∙ (ap (λ n. take n old.inputs.items) parted.is.read ∙ (ap (take (length parted.mid.inputs)) h.inputs
                    ∙ inputs_front gs l.edge parted.mid parted.sums h.now parted.follows));
                feasible = subst (λ ls. IsFeasible gs main (path_of ls)) (sym items) front;
                from = suc l.edge;
                next = subst (λ n. IsFirst (CanFollow parted.mid.at) n new.next) (let s : l.edge + 1 ≡ suc l.edge = omega arith in s) next;
                paths = h.paths;
                count = h.count ∙ sym number;
                those = subst (λ ls. AreThose (FeasibleBefore gs main (path_of ls ++ suc l.edge ∷ [])) h.paths) (sym items) r.those;
                clear = subst (λ ls. (q : List ℕ) → Before q (path_of ls ++ suc l.edge ∷ []) → Undecided gs main q → ⊥) (sym items) r.clear;
                entries = subst (AreEntries gs main h.paths) (sym found) h.entries;
              } where
                shorter : IsFeasible gs main (path_of levels)
                shorter = any_front gs main (path_of levels) (l.edge ∷ []) (λ e. cc)
                    (subst (IsFeasible gs main) (ap path_of split ∙ path_push levels l) h.feasible)

-- The path of edge 0

module _ (gs : List Graph) (main : ℕ) where
  none_before : (q : List ℕ) → q ≢ [] → Before q (0 ∷ []) → ⊥
  none_before [] some b = some refl
  none_before (x ∷ q) some (inl lt) = omega (arith, lt)
  none_before (x ∷ q) some (inr e) = e.1

  question_some : (q : List ℕ) → Undecided gs main q → q ≢ []
  question_some q u e = not_empty gs u.1.question.front u.1.question.edge (sym u.1.question.is ∙ e)

  first_reached : Reached gs main [] 0 []
  first_reached = record {
    those = record {
      each = λ k p e. absurd (none-some p e);
      all = λ p f. absurd (none_before p f.0.some f.1);
      in_order = λ k l p q o e f. absurd (none-some p e);
    };
    clear = λ q b u. none_before q (question_some q u) b;
  }

  first_undecided : Undecided gs main (0 ∷ []) → ⊥
  first_undecided u =
      let parts = front_one [] u.1.question.front 0 u.1.question.edge u.1.question.is in
      u.1.question.feasible.some (sym parts.0)

  module _ (linked : AreGraphs gs) (g : Graph) (at : slice_get gs main ≡ Some g) (none : g.params ≡ 0) where
    first_feasible : IsFeasible gs main (0 ∷ [])
    first_feasible =
        let start = entry_at g in
        record {
          some = λ e. cc;
          ins = [];
          to = running g start.0 (entered []) [];
          taken = record {
            graph = g;
            at = at;
            takes = (running g start.0 (entered []) [], [], (refl, start.0, g.params, start.1, refl, refl), (refl, refl));
          };
        }

    first_fails : (id : ℕ) → FailsAt gs main id (0 ∷ []) → ⊥
    first_fails id f =
        let e = fails_as gs main linked g at none (0 ∷ []) (first_walked g) ([], first_walked g, first_comes gs g, refl) id f in cc

    pub first_stage : (t : Trace) → t ≡ begin_trail (first_node g.edges) g.params g.slots →
        runs g t.node t.slots t.entry [] ≡ runs g (first_node g.edges) (opened g []) [] []
    first_stage t is = ap (λ (x : Trace). runs g x.node x.slots x.entry []) is ∙ on g.params none where
      on : (n : ℕ) → n ≡ 0 → runs g (first_node g.edges) (symbols_from first_symbol n ++ replicate (g.slots - n) (constant_sum (pos 0)))
          (symbols_from first_symbol n) [] ≡ runs g (first_node g.edges) (replicate (g.slots - n) (constant_sum (pos 0))) [] []
      on n e = ap (λ m. runs g (first_node g.edges) (symbols_from first_symbol m ++ replicate (g.slots - n) (constant_sum (pos 0)))
          (symbols_from first_symbol m) []) e

    pub walk_begins : (t : Trace) → t ≡ begin_trail (first_node g.edges) g.params g.slots → (walk : Walk) →
        walk.frame ≡ record { proc = main; place = At t.node; slots = t.slots; entry = t.entry; caller = None } → walk.guard.atoms
        ≡ t.guard.atoms →
        walk.inputs.items ≡ [] → walk.symbols ≡ 0 → walk.levels.items ≡ [] → IsFirst (CanFollow (runs g t.node t.slots t.entry [])) 0
        walk.next →
        walk.counted ≡ 1 → (n : ℕ) → walk.found.items ≡ replicate n None → IsWalk gs main walk
    walk_begins t is walk frame guard inputs symbols levels next counted n found =
        let r = reach_down gs main [] 0 [] first_feasible first_undecided first_reached in
        let same = first_stage t is in
        record {
          graph = g;
          at = at;
          none = none;
          now = first_walked g;
          leads = subst (λ ls. Leads gs [] ls (first_walked g) (first_walked g)) (sym levels) refl;
          stage = subst (λ ls. IsStage gs ls walk.frame (first_walked g).at) (sym levels)
              (subst (λ f. IsStage gs [] f (first_walked g).at) (sym frame)
              (subst (IsStage gs [] record { proc = main; place = At t.node; slots = t.slots; entry = t.entry; caller = None }) same
              (refl, at, refl, refl, tt)));
          symbols = symbols;
          guard = guard ∙ ap (λ (x : Trace). x.guard.atoms) is;
          inputs = inputs;
          feasible = subst (λ ls. IsFeasible gs main (path_of ls)) (sym levels) first_feasible;
          from = 0;
          next = subst (λ s. IsFirst (CanFollow s) 0 walk.next) same next;
          paths = (0 ∷ []) ∷ [];
          count = sym counted;
          those = subst (λ ls. AreThose (FeasibleBefore gs main (path_of ls ++ 0 ∷ [])) ((0 ∷ []) ∷ [])) (sym levels) r.those;
          clear = subst (λ ls. (q : List ℕ) → Before q (path_of ls ++ 0 ∷ []) → Undecided gs main q → ⊥) (sym levels) r.clear;
          entries = λ id o e. entry id o e (nothing_at n id o (subst (λ xs. slice_get xs id ≡ Some o) found e));
        } where
          nothing_at : (n id : ℕ) (o : Option (Vec ℤ Global)) → slice_get (replicate n None) id ≡ Some o → o ≡ None
          nothing_at zero id o e = absurd (none-some o e)
          nothing_at (suc n) zero o e = sym (same_Some None o e)
          nothing_at (suc n) (suc id) o e = nothing_at n id o e

          entry : (id : ℕ) (o : Option (Vec ℤ Global)) → slice_get walk.found.items id ≡ Some o → o ≡ None →
              IsEntry gs main ((0 ∷ []) ∷ []) id (inputs_in o)
          entry id o e is = subst (λ x. IsEntry gs main ((0 ∷ []) ∷ []) id (inputs_in x)) (sym is)
              (λ k p at f. first_fails id (subst (FailsAt gs main id) (only k p at) f)) where
                only : (k : ℕ) (p : List ℕ) → slice_get ((0 ∷ []) ∷ []) k ≡ Some p → p ≡ 0 ∷ []
                only zero p at = sym (same_Some (0 ∷ []) p at)
                only (suc k) p at = absurd (none-some p at)
