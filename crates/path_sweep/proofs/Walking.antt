-- The state of a path, one edge more, and what is known of its question.
use Rattle.std.proofs.Common.{◌≡◌, ◌⊎◌, inl, inr, ℕ, List, [], ◌∷◌, ◌++◌, length, map, take, Some, None, refl, sym, subst, ap, ◌∙◌, append_assoc, append-nil, ℤ}
use Rattle.std.specs.Prelude.{slice_get}
use Rattle.std.proofs.lemmas.Option.{same_Some, none-some}
use Rattle.linear_formula.specs.LinearSum.{LinearSum, Valuation, Is64, valuation}
use Rattle.linear_formula.specs.Formula.{HoldsAll}
use Rattle.linear_formula.specs.declared.formula.Atom.{Atom}
use Rattle.linear_formula.specs.declared.formula.Cube.{Cube}
use Rattle.linear_formula.specs.declared.question.Question.TheVariants as asks
use Rattle.flow_graph.specs.declared.graph.Edge.{Edge}
use Rattle.flow_graph.specs.declared.graph.Edge.TheVariants.{Entry, Assign, Guard, Input, Pick, Call, Assert, Return}
use Rattle.flow_graph.specs.declared.graph.Graph.{Graph}
use Rattle.flow_graph.specs.Linked.{AreGraphs}
use Rattle.shadow_elim.specs.Plan.{Search, solution, found, nothing, limit_met}
use Rattle.shadow_elim.specs.Questions.{IsNothing}
use Rattle.shadow_elim.specs.Projection.{IfRefused}
use Rattle.shadow_elim.specs.declared.projection.ProjectionError.{ProjectionError}
use Rattle.shadow_elim.specs.declared.projection.ProjectionError.TheVariants as refusal
use Rattle.shadow_elim.specs.Sums.{first_wide, IsFirstWide}
use Rattle.shadow_elim.specs.declared.limit.Kept.{Kept}
use Rattle.shadow_elim.specs.declared.limit.Limit.{Limit}
use Rattle.shadow_elim.specs.declared.sum.Sum.{Sum}
use Rattle.lia_solver.specs.Answers.{IsAnswer, IfPoint, IfNever}
use Rattle.lia_solver.specs.declared.solved.Solved.{Solved}
use Rattle.lia_solver.specs.declared.solved.Solved.TheVariants as solved
use Rattle.path_sweep.specs.Ends.{IsQuestion, MeetsLimit, Undecided}
use Rattle.path_sweep.specs.Executions.{IsFeasible}
use Rattle.path_sweep.specs.Guards.{Waiting, Stage, enters, runs, gave, fails, Walked, begun, opened, stage_at, FollowsEdge, FollowsAt, Follows, ComesTo}
use Rattle.path_sweep.specs.declared.frames.Frame.{Frame}
use Rattle.path_sweep.specs.declared.frames.Level.{Level}
use Rattle.path_sweep.specs.declared.step.Step.{Step}
use Rattle.path_sweep.specs.declared.walk.Asked.{Asked}
use Rattle.path_sweep.specs.declared.walk.Walk.{Walk}
use Rattle.path_sweep.specs.steps.Frames.{IsStage, CanFollow, bare, IsStep, IsWideStep}
use Rattle.path_sweep.specs.steps.Walks.{first_walked, path_of, path_with, Leads, IsLevel, IsWalk, IsPoint, IsAsked, IsRefused, answered}
use Rattle.path_sweep.proofs.Adding.{entry_at, first_is}
use Rattle.path_sweep.proofs.Ending.{front_one}
use Rattle.path_sweep.proofs.Fitting.{Named, StageFits, Fits, still_fits, begins, opened_fits}
use Rattle.path_sweep.proofs.Guarding.{guards_are_taken, taken_paths_have_guards}
use Rattle.path_sweep.proofs.Trees.{follows_one, comes_one, not_empty}

walked_same : (x y : Walked) → x.symbols ≡ y.symbols → x.guard ≡ y.guard → x.inputs ≡ y.inputs → x.at ≡ y.at → x ≡ y
walked_same x y p q r s = λ i. record { symbols = p i; guard = q i; inputs = r i; at = s i }

take_front : {X : Type 0} (xs ys : List X) → take (length xs) (xs ++ ys) ≡ xs
take_front [] ys = refl
take_front (x ∷ xs) ys = ap (λ zs. x ∷ zs) (take_front xs ys)

-- What an edge adds to the guard and the inputs

pub record Grows (w new : Walked) : Type 0 where
  pub rows : List Atom
  pub read : List LinearSum
  pub guard : new.guard ≡ w.guard ++ rows
  pub inputs : new.inputs ≡ w.inputs ++ read

-- the path with what the edge adds
abbrev pub grown : Walked → Walked → Walked
grown w a = record { symbols = a.symbols; guard = w.guard ++ a.guard; inputs = w.inputs ++ a.inputs; at = a.at }

module _ (gs : List Graph) where
  same_grows : (w new : Walked) (stage : Stage) → new ≡ record w { at = stage } → Grows w new
  same_grows w new stage e = record {
    rows = [];
    read = [];
    guard = ap (λ (x : Walked). x.guard) e ∙ sym (append-nil w.guard);
    inputs = ap (λ (x : Walked). x.inputs) e ∙ sym (append-nil w.inputs);
  }

  edge_grows : (w : Walked) (g : Graph) (node : ℕ) (slots entry : List LinearSum) (ws : List Waiting) (e : Edge) (sums : List Sum)
      (new : Walked) →
      FollowsEdge gs w g node slots entry ws e sums new → Grows w new
  edge_grows w g node slots entry ws (Entry to params) sums new h = record {
    rows = _;
    read = [];
    guard = ap (λ (x : Walked). x.guard) h.1;
    inputs = ap (λ (x : Walked). x.inputs) h.1 ∙ sym (append-nil w.inputs);
  }
  edge_grows w g node slots entry ws (Assign from to slot value) sums new h = record {
    rows = _;
    read = [];
    guard = ap (λ (x : Walked). x.guard) h.1;
    inputs = ap (λ (x : Walked). x.inputs) h.1 ∙ sym (append-nil w.inputs);
  }
  edge_grows w g node slots entry ws (Guard from to rows) sums new h = record {
    rows = _;
    read = [];
    guard = ap (λ (x : Walked). x.guard) h.1;
    inputs = ap (λ (x : Walked). x.inputs) h.1 ∙ sym (append-nil w.inputs);
  }
  edge_grows w g node slots entry ws (Input from to slot) sums new h = record {
    rows = _;
    read = _;
    guard = ap (λ (x : Walked). x.guard) h.1;
    inputs = ap (λ (x : Walked). x.inputs) h.1;
  }
  edge_grows w g node slots entry ws (Pick from to slot rows) sums new h = record {
    rows = _;
    read = [];
    guard = ap (λ (x : Walked). x.guard) h.1;
    inputs = ap (λ (x : Walked). x.inputs) h.1 ∙ sym (append-nil w.inputs);
  }
  edge_grows w g node slots entry ws (Call from to proc args results) sums new h = same_grows w new _ h.3
  edge_grows w g node slots entry ws (Assert from to id rows) sums new h = record {
    rows = _;
    read = [];
    guard = ap (λ (x : Walked). x.guard) h.1;
    inputs = ap (λ (x : Walked). x.inputs) h.1 ∙ sym (append-nil w.inputs);
  }
  edge_grows w g node slots entry ws (Return from to returned) sums new h = record {
    rows = _;
    read = [];
    guard = ap (λ (x : Walked). x.guard) h.1;
    inputs = ap (λ (x : Walked). x.inputs) h.1 ∙ sym (append-nil w.inputs);
  }

  grows_at : (i : ℕ) (w : Walked) (stage : Stage) (sums : List Sum) (new : Walked) → FollowsAt gs i w stage sums new → Grows w new
  grows_at i w (enters g args ws) sums new h = same_grows w new _ h.5
  grows_at i w (runs g node slots entry ws) sums new h = edge_grows w g node slots entry ws h.0 sums new h.3
  grows_at i w (gave terms) sums new h = absurd h
  grows_at i w (fails id) sums new h = absurd h

  pub guard_front : (i : ℕ) (w : Walked) (sums : List Sum) (new : Walked) → Follows gs i w sums new → take (length w.guard) new.guard
      ≡ w.guard
  guard_front i w sums new h =
      let g = grows_at i w w.at sums new h in ap (take (length w.guard)) g.guard ∙ take_front w.guard g.rows

  pub inputs_front : (i : ℕ) (w : Walked) (sums : List Sum) (new : Walked) → Follows gs i w sums new → take (length w.inputs) new.inputs
      ≡ w.inputs
  inputs_front i w sums new h =
      let g = grows_at i w w.at sums new h in ap (take (length w.inputs)) g.inputs ∙ take_front w.inputs g.read

  -- From the frame alone to the path

  edge_from : (w : Walked) (stage : Stage) (g : Graph) (node : ℕ) (slots entry : List LinearSum) (ws : List Waiting) (e : Edge)
      (sums : List Sum)
      (a : Walked) → FollowsEdge gs (bare w.symbols stage) g node slots entry ws e sums a →
      FollowsEdge gs w g node slots entry ws e sums (grown w a)
  edge_from w stage g node slots entry ws (Entry to params) sums a h = (
    h.0,
    walked_same _ _ (ap (λ (x : Walked). x.symbols) h.1)
        (ap (λ (x : Walked). w.guard ++ x.guard) h.1) (ap (λ (x : Walked). w.inputs ++ x.inputs) h.1 ∙ append-nil w.inputs)
        (ap (λ (x : Walked). x.at) h.1),
  )
  edge_from w stage g node slots entry ws (Assign from to slot value) sums a h = (
    h.0,
    walked_same _ _ (ap (λ (x : Walked). x.symbols) h.1)
        (ap (λ (x : Walked). w.guard ++ x.guard) h.1) (ap (λ (x : Walked). w.inputs ++ x.inputs) h.1 ∙ append-nil w.inputs)
        (ap (λ (x : Walked). x.at) h.1),
  )
  edge_from w stage g node slots entry ws (Guard from to rows) sums a h = (
    h.0,
    walked_same _ _ (ap (λ (x : Walked). x.symbols) h.1)
        (ap (λ (x : Walked). w.guard ++ x.guard) h.1) (ap (λ (x : Walked). w.inputs ++ x.inputs) h.1 ∙ append-nil w.inputs)
        (ap (λ (x : Walked). x.at) h.1),
  )
  edge_from w stage g node slots entry ws (Input from to slot) sums a h = (
    h.0,
    walked_same _ _ (ap (λ (x : Walked). x.symbols) h.1)
        (ap (λ (x : Walked). w.guard ++ x.guard) h.1) (ap (λ (x : Walked). w.inputs ++ x.inputs) h.1) (ap (λ (x : Walked). x.at) h.1),
  )
  edge_from w stage g node slots entry ws (Pick from to slot rows) sums a h = (
    h.0,
    walked_same _ _ (ap (λ (x : Walked). x.symbols) h.1)
        (ap (λ (x : Walked). w.guard ++ x.guard) h.1) (ap (λ (x : Walked). w.inputs ++ x.inputs) h.1 ∙ append-nil w.inputs)
        (ap (λ (x : Walked). x.at) h.1),
  )
  edge_from w stage g node slots entry ws (Call from to proc args results) sums a h = (
    h.0,
    h.1,
    h.2,
    walked_same _ _
        (ap (λ (x : Walked). x.symbols) h.3) (ap (λ (x : Walked). w.guard ++ x.guard) h.3 ∙ append-nil w.guard)
        (ap (λ (x : Walked). w.inputs ++ x.inputs) h.3 ∙ append-nil w.inputs) (ap (λ (x : Walked). x.at) h.3),
  )
  edge_from w stage g node slots entry ws (Assert from to id rows) sums a h = (
    h.0,
    walked_same _ _ (ap (λ (x : Walked). x.symbols) h.1)
        (ap (λ (x : Walked). w.guard ++ x.guard) h.1) (ap (λ (x : Walked). w.inputs ++ x.inputs) h.1 ∙ append-nil w.inputs)
        (ap (λ (x : Walked). x.at) h.1),
  )
  edge_from w stage g node slots entry ws (Return from to returned) sums a h = (
    h.0,
    walked_same _ _ (ap (λ (x : Walked). x.symbols) h.1)
        (ap (λ (x : Walked). w.guard ++ x.guard) h.1) (ap (λ (x : Walked). w.inputs ++ x.inputs) h.1 ∙ append-nil w.inputs)
        (ap (λ (x : Walked). x.at) h.1),
  )

  stage_from : (i : ℕ) (w : Walked) (stage : Stage) (sums : List Sum) (a : Walked) → FollowsAt gs i (bare w.symbols stage) stage sums a →
      FollowsAt gs i w stage sums (grown w a)
  stage_from i w (enters g args ws) sums a h = (
    h.0,
    h.1,
    h.2,
    h.3,
    h.4,
    walked_same _ _
        (ap (λ (x : Walked). x.symbols) h.5) (ap (λ (x : Walked). w.guard ++ x.guard) h.5 ∙ append-nil w.guard)
        (ap (λ (x : Walked). w.inputs ++ x.inputs) h.5 ∙ append-nil w.inputs) (ap (λ (x : Walked). x.at) h.5),
  )
  stage_from i w (runs g node slots entry ws) sums a h =
      (h.0, h.1, h.2, edge_from w (runs g node slots entry ws) g node slots entry ws h.0 sums a h.3)
  stage_from i w (gave terms) sums a h = absurd h
  stage_from i w (fails id) sums a h = absurd h

  pub from_bare : (i symbols : ℕ) (w : Walked) (sums : List Sum) (a : Walked) → symbols ≡ w.symbols → FollowsAt gs i (bare symbols w.at)
      w.at sums a →
      Follows gs i w sums (grown w a)
  from_bare i symbols w sums a e h = stage_from i w w.at sums a (subst (λ n. FollowsAt gs i (bare n w.at) w.at sums a) e h)

  -- An edge that follows may follow
  pub can_follow : (i : ℕ) (w : Walked) (stage : Stage) (sums : List Sum) (new : Walked) → FollowsAt gs i w stage sums new →
      CanFollow stage i
  can_follow i w (enters g args ws) sums new h = h.0
  can_follow i w (runs g node slots entry ws) sums new h = (h.0, h.1, h.2)
  can_follow i w (gave terms) sums new h = absurd h
  can_follow i w (fails id) sums new h = absurd h

  -- the terms of a frame that goes on name the symbols
  pub frame_names : (levels : List Level) (f : Frame) (edge n : ℕ) (stage : Stage) → IsStage gs levels f stage → StageFits gs n stage →
      CanFollow stage edge → Named n f.slots × Named n f.entry
  frame_names levels f edge n (enters g args ws) h s can =
      let o = opened_fits gs n g args s.0 s.1 s.2 in
      (subst (Named n) (sym h.2) o.slot_names, subst (Named n) (sym h.3) s.2)
  frame_names levels f edge n (runs g node slots entry ws) h s can =
      (subst (Named n) (sym h.2) s.0.slot_names, subst (Named n) (sym h.3) s.0.entry_names)
  frame_names levels f edge n (gave terms) h s can = absurd can
  frame_names levels f edge n (fails id) h s can = absurd can

  -- Paths with one edge more

  pub comes_join : (p : List ℕ) (k : ℕ) (w mid new : Walked) (sums : List Sum) → ComesTo gs p w mid → Follows gs k mid sums new →
      ComesTo gs (p ++ k ∷ []) w new
  comes_join [] k w mid new sums h f = (sums, new, subst (λ x. Follows gs k x sums new) h f, refl)
  comes_join (i ∷ p) k w mid new sums h f = (h.0, h.1, h.2, comes_join p k h.1 mid new sums h.3 f)

  pub record Parted (p : List ℕ) (k : ℕ) (w new : Walked) : Type 0 where
    pub mid : Walked
    pub comes : ComesTo gs p w mid
    pub sums : List Sum
    pub follows : Follows gs k mid sums new

  pub comes_part : (p : List ℕ) (k : ℕ) (w new : Walked) → ComesTo gs (p ++ k ∷ []) w new → Parted p k w new
  comes_part [] k w new h =
      record { mid = w; comes = refl; sums = h.0; follows = subst (λ x. Follows gs k w h.0 x) (sym h.3) h.2 }
  comes_part (i ∷ p) k w new h =
      let r = comes_part p k h.1 new h.3 in
      record { mid = r.mid; comes = (h.0, h.1, h.2, r.comes); sums = r.sums; follows = r.follows }

  pub all_fit : AreGraphs gs → (p : List ℕ) (w new : Walked) → Fits gs w → ComesTo gs p w new → Fits gs new
  all_fit linked [] w new f h = subst (Fits gs) (sym h) f
  all_fit linked (i ∷ p) w new f h = all_fit linked p h.1 new (still_fits gs linked w f i h.0 h.1 h.2) h.3

  -- Levels

  pub leads_comes : (done levels : List Level) (w new : Walked) → Leads gs done levels w new → ComesTo gs (map (λ l. l.edge) levels) w new
  leads_comes done [] w new h = h
  leads_comes done (l ∷ levels) w new h = (h.1.0, h.1.1, h.1.2, leads_comes (done ++ l ∷ []) levels h.1.1 new h.1.3)

  pub first_comes : (g : Graph) → Follows gs 0 (begun g) [] (first_walked g)
  first_comes g =
      let start = entry_at g in (
        refl,
        start.0,
        g.params,
        start.1,
        refl,
        ap (λ n. record (begun g) { at = runs g n (opened g []) [] [] }) (first_is g.edges start.0 g.params start.1),
      )

  pub path_comes : (g : Graph) (levels : List Level) (new : Walked) → Leads gs [] levels (first_walked g) new →
      ComesTo gs (path_of levels) (begun g) new
  path_comes g levels new h = ([], first_walked g, first_comes g, leads_comes [] levels (first_walked g) new h)

  pub leads_push : (done levels : List Level) (l : Level) (w mid new : Walked) (sums : List Sum) → Leads gs done levels w mid →
      IsLevel gs (done ++ levels) l mid → Follows gs l.edge mid sums new → Leads gs done (levels ++ l ∷ []) w new
  leads_push done [] l w mid new sums h is f = (
    subst (λ ls. IsLevel gs ls l w) (append-nil done) (subst (IsLevel gs (done ++ []) l) h is),
    (sums, new, subst (λ x. Follows gs l.edge x sums new) h f, refl),
  )
  leads_push done (x ∷ levels) l w mid new sums h is f = (
    h.0,
    (
      h.1.0,
      h.1.1,
      h.1.2,
      leads_push (done ++ x ∷ []) levels l h.1.1 mid new sums h.1.3
          (subst (λ ls. IsLevel gs ls l mid) (sym (append_assoc done (x ∷ []) levels)) is) f,
    ),
  )

  pub record Popped (done levels : List Level) (l : Level) (w new : Walked) : Type 0 where
    pub mid : Walked
    pub leads : Leads gs done levels w mid
    pub is : IsLevel gs (done ++ levels) l mid
    pub sums : List Sum
    pub follows : Follows gs l.edge mid sums new

  pub leads_pop : (done levels : List Level) (l : Level) (w new : Walked) → Leads gs done (levels ++ l ∷ []) w new →
      Popped done levels l w new
  leads_pop done [] l w new h = record {
    mid = w;
    leads = refl;
    is = subst (λ ls. IsLevel gs ls l w) (sym (append-nil done)) h.0;
    sums = h.1.0;
    follows = subst (λ x. Follows gs l.edge w h.1.0 x) (sym h.1.3) h.1.2;
  }
  leads_pop done (x ∷ levels) l w new h =
      let r = leads_pop (done ++ x ∷ []) levels l h.1.1 new h.1.3 in
      record {
        mid = r.mid;
        leads = (h.0, (h.1.0, h.1.1, h.1.2, r.leads));
        is = subst (λ ls. IsLevel gs ls l r.mid) (append_assoc done (x ∷ []) levels) r.is;
        sums = r.sums;
        follows = r.follows;
      }

  -- What is known of a question

  module _ (linked : AreGraphs gs) (main : ℕ) (g : Graph) (at : slice_get gs main ≡ Some g) (none : g.params ≡ 0) (p : List ℕ)
      (now : Walked)
      (comes : ComesTo gs p (begun g) now) where
    -- a feasible path with one edge more goes on from there
    pub record GoesOver (k : ℕ) : Type 0 where
      pub sums : List Sum
      pub new : Walked
      pub follows : Follows gs k now sums new
      pub v : Valuation
      pub values : Is64 v
      pub meets : HoldsAll v new.guard

    pub feasible_goes : (k : ℕ) → IsFeasible gs main (p ++ k ∷ []) → GoesOver k
    feasible_goes k f =
        let h = taken_paths_have_guards gs main g (p ++ k ∷ []) f.ins f.to linked at none f.taken in
        let parted = comes_part p k (begun g) h.new h.comes in
        let same : parted.mid ≡ now = comes_one gs p (begun g) parted.mid now parted.comes comes in
        record {
          sums = parted.sums;
          new = h.new;
          follows = subst (λ x. Follows gs k x parted.sums h.new) same parted.follows;
          v = h.at;
          values = h.values;
          meets = h.meets;
        }

    pub question_follows : (k : ℕ) (q : IsQuestion gs main (p ++ k ∷ [])) → Follows gs k now q.sums q.after
    question_follows k q =
        let parts = front_one p q.front k q.edge q.is in
        let g_is : q.graph ≡ g = same_Some q.graph g (sym q.at ∙ at) in
        let from : ComesTo gs p (begun g) q.before = subst (λ r. ComesTo gs r (begun g) q.before) (sym parts.0)
        (subst (λ z. ComesTo gs q.front (begun z) q.before) g_is q.comes) in
        let same : q.before ≡ now = comes_one gs p (begun g) q.before now from comes in
        subst (λ n. Follows gs n now q.sums q.after) (sym parts.1) (subst (λ x. Follows gs q.edge x q.sums q.after) same q.follows)

    -- what can't follow is neither feasible nor a question
    pub nothing_follows : (k : ℕ) → (CanFollow now.at k → ⊥) →
        (IsFeasible gs main (p ++ k ∷ []) → ⊥) × (Undecided gs main (p ++ k ∷ []) → ⊥)
    nothing_follows k never = (
      λ f. let r = feasible_goes k f in never (can_follow k now now.at r.sums r.new r.follows),
      λ u. never (can_follow k now now.at u.1.question.sums u.1.question.after (question_follows k u.1.question)),
    )

    module _ (k : ℕ) (sums : List Sum) (after : Walked) (follows : Follows gs k now sums after) where
      pub never_feasible : ((v : Valuation) → Is64 v → HoldsAll v after.guard → ⊥) → IsFeasible gs main (p ++ k ∷ []) → ⊥
      never_feasible never f =
          let r = feasible_goes k f in
          let one = follows_one gs k now r.sums sums r.new after r.follows follows in
          never r.v r.values (subst (λ (x : Walked). HoldsAll r.v x.guard) one.1 r.meets)

      pub is_feasible : (v : Valuation) → Is64 v → HoldsAll v after.guard → IsFeasible gs main (p ++ k ∷ [])
      is_feasible v v64 h = record {
        some = not_empty gs p k;
        ins = _;
        to = stage_at v after.at;
        taken = guards_are_taken gs main g (p ++ k ∷ []) after linked at none (comes_join p k (begun g) now after sums comes follows) v v64
            h;
      }

      pub no_limit : first_wide sums ≡ None → ((l : Limit) → solution after.guard ≡ limit_met l → ⊥) → Undecided gs main (p ++ k ∷ []) → ⊥
      no_limit narrow never u = by_kind u.1.meets where
        one : (u.1.question.sums ≡ sums) × (u.1.question.after ≡ after)
        one = follows_one gs k now u.1.question.sums sums u.1.question.after after (question_follows k u.1.question) follows

        by_kind : IsFirstWide u.1.question.sums u.0 ⊎ ((first_wide u.1.question.sums ≡ None)
            × (u.0.question ≡ asks.Cube (record { atoms = u.1.question.after.guard }))
            × (solution u.1.question.after.guard ≡ limit_met u.0.limit)) → ⊥
        by_kind (inl h) = none-some h.sum (sym narrow ∙ (ap first_wide (sym one.0) ∙ h.first))
        by_kind (inr h) = never u.0.limit (ap (λ (x : Walked). solution x.guard) (sym one.1) ∙ h.2)

      abbrev question : IsFeasible gs main p → IsQuestion gs main (p ++ k ∷ [])
      question f = record {
        front = p;
        edge = k;
        is = refl;
        feasible = f;
        graph = g;
        at = at;
        before = now;
        comes = comes;
        sums = sums;
        after = after;
        follows = follows;
      }

      pub meets_wide : IsFeasible gs main p → (kept : Kept) → IsFirstWide sums kept → MeetsLimit gs main (p ++ k ∷ []) kept
      meets_wide f kept h = record { question = question f; meets = inl h }

      pub meets_limit : IsFeasible gs main p → first_wide sums ≡ None → (kept : Kept) →
          kept.question ≡ asks.Cube (record { atoms = after.guard }) → solution after.guard ≡ limit_met kept.limit →
          MeetsLimit gs main (p ++ k ∷ []) kept
      meets_limit f narrow kept q s = record { question = question f; meets = inr (narrow, q, s) }

-- The question of a walk

found_limit : (values : List (ℕ × ℤ)) (l : Limit) → found values ≡ limit_met l → ⊥
found_limit values l e = cc

nothing_limit : (search : Search) (l : Limit) → IsNothing search → search ≡ limit_met l → ⊥
nothing_limit search l h e = clash h.0 l (sym h.1 ∙ e) where
  clash : (splits : List Cube) (l : Limit) → nothing splits ≡ limit_met l → ⊥
  clash splits l e = cc

module _ (gs : List Graph) (linked : AreGraphs gs) (main : ℕ) (walk : Walk) (h : IsWalk gs main walk) (edge : ℕ) where
  here : ComesTo gs (path_of walk.levels.items) (begun h.graph) h.now
  here = path_comes gs h.graph walk.levels.items h.now h.leads

  pub walk_fits : Fits gs h.now
  walk_fits = all_fit gs linked (path_of walk.levels.items) (begun h.graph) h.now (begins gs h.graph (main, h.at) h.none) here

  pub walk_names : CanFollow h.now.at edge → Named walk.symbols walk.frame.slots × Named walk.symbols walk.frame.entry
  walk_names can = frame_names gs walk.levels.items walk.frame edge walk.symbols h.now.at h.stage
      (subst (λ n. StageFits gs n h.now.at) (sym h.symbols) walk_fits.stage) can

  pub asked_wide : (kept : Kept) → IsWideStep gs walk.symbols edge kept h.now.at → MeetsLimit gs main (path_with walk.levels.items edge)
      kept
  asked_wide kept s =
      meets_wide gs linked main h.graph h.at h.none (path_of walk.levels.items) h.now here edge s.sums (grown h.now s.after)
      (from_bare gs edge walk.symbols h.now s.sums s.after h.symbols s.follows) h.feasible kept s.wide

  module _ (step : Step) (s : IsStep gs walk.levels.items walk.frame walk.symbols edge step h.now.at) (guard : List Atom)
      (is : guard ≡ walk.guard.atoms ++ step.rows.atoms) where
    abbrev after : Walked
    after = grown h.now s.after

    follows : Follows gs edge h.now s.sums (grown h.now s.after)
    follows = from_bare gs edge walk.symbols h.now s.sums s.after h.symbols s.follows

    guard_same : guard ≡ h.now.guard ++ s.after.guard
    guard_same = is ∙ (ap (λ xs. xs ++ step.rows.atoms) h.guard ∙ ap (λ xs. h.now.guard ++ xs) s.rows)

    clear : ((l : Limit) → solution guard ≡ limit_met l → ⊥) → Undecided gs main (path_with walk.levels.items edge) → ⊥
    clear never = no_limit gs linked main h.graph h.at h.none (path_of walk.levels.items) h.now here edge s.sums (grown h.now s.after)
        follows
        s.narrow (λ l e. never l (ap solution guard_same ∙ e))

    pub asked_never : IsNothing (solution guard) → ((v : Valuation) → Is64 v → HoldsAll v guard → ⊥) →
        (IsFeasible gs main (path_with walk.levels.items edge) → ⊥) × (Undecided gs main (path_with walk.levels.items edge) → ⊥)
    asked_never n never = (
      never_feasible gs linked main h.graph h.at h.none (path_of walk.levels.items) h.now here edge s.sums (grown h.now s.after) follows
          (λ v v64 m. never v v64 (subst (HoldsAll v) (sym guard_same) m)),
      clear (λ l e. nothing_limit (solution guard) l n e),
    )

    pub asked_limit : (kept : Kept) → kept.question ≡ asks.Cube (record { atoms = guard }) → solution guard ≡ limit_met kept.limit →
        MeetsLimit gs main (path_with walk.levels.items edge) kept
    asked_limit kept q e =
        meets_limit gs linked main h.graph h.at h.none (path_of walk.levels.items) h.now here edge s.sums (grown h.now s.after) follows
        h.feasible
        s.narrow kept (q ∙ ap (λ (xs : List Atom). asks.Cube (record { atoms = xs })) guard_same) (ap solution (sym guard_same) ∙ e)

    pub asked_point : (cube : Cube) → cube.atoms ≡ guard → (at : List (ℕ × ℤ)) → solution guard ≡ found at → HoldsAll (valuation at) guard →
        Is64 (valuation at) → IsPoint gs main walk h.now edge step cube at
    asked_point cube same at e m v64 = record {
      sums = s.sums;
      after = grown h.now s.after;
      follows = follows;
      guard_is = same ∙ guard_same;
      inputs_are = ap (λ xs. xs ++ step.read) h.inputs ∙ ap (λ xs. h.now.inputs ++ xs) s.read;
      count = s.count;
      lies = s.lies;
      values = v64;
      meets = subst (HoldsAll (valuation at)) guard_same m;
      clear = clear (λ l x. found_limit at l (sym e ∙ x));
    }

    pub asked_any : (cube : Cube) → cube.atoms ≡ guard → (solved : Solved) → IsAnswer (solution guard) solved →
        IfPoint solved (λ at. HoldsAll (valuation at) guard) → IfPoint solved (λ at. Is64 (valuation at)) →
        IfNever solved (λ c. (v : Valuation) → Is64 v → HoldsAll v guard → ⊥) → IsAsked gs main walk h.now edge (answered solved step cube)
    asked_any cube same (solved.Point at) plan m v64 never = asked_point cube same at plan m v64
    asked_any cube same (solved.Never c) plan m v64 never = asked_never plan never
    asked_any cube same (solved.Limit l) plan m v64 never =
        asked_limit record { question = asks.Cube cube; limit = l }
        (ap (λ (xs : List Atom). asks.Cube (record { atoms = xs })) same) plan

  pub asked_refused : (e : ProjectionError) (a : Asked) → IsRefused e a →
      IfRefused e (λ kept. (stage : Stage) → IsStage gs walk.levels.items walk.frame stage → IsWideStep gs walk.symbols edge kept stage) →
      IsAsked gs main walk h.now edge a
  asked_refused (refusal.Limit kept) a is w =
      subst (IsAsked gs main walk h.now edge) (sym is) (asked_wide kept (w h.now.at h.stage))
  asked_refused refusal.Memory a is w = absurd is
