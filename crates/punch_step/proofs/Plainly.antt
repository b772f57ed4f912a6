-- What is known at a frontier where the trail doesn't come into the target.
use Rattle.std.proofs.Common.{arith, suc, true, length, ◌≡◌, ◌≢◌, ℕ, List, [], ◌∷◌, ◌++◌, Option, None, Some, refl, sym, ap, subst, ◌∙◌, ◌⊎◌, inl, inr}
use Rattle.std.specs.Prelude.{IsTrue, Contains, ◌==◌, map}
use Rattle.std.specs.List.{list_all}
use Rattle.linear_formula.specs.LinearSum.{LinearSum}
use Rattle.linear_formula.specs.declared.formula.Atom.{Atom}
use Rattle.linear_formula.specs.declared.question.Question.{Question}
use Rattle.linear_formula.specs.declared.question.Question.TheVariants as asks
use Rattle.infeasible_cert.specs.declared.certificate.Certificate.{Certificate}
use Rattle.shadow_elim.specs.Elimination.{Remainder, remains, wide, too_many, elimination, listed_rows, first_inexact}
use Rattle.shadow_elim.specs.Plan.{found, nothing}
use Rattle.shadow_elim.specs.Projection.{Projected, cube_of, gives, refuses, left_by, projected, unless_wide, wide_rows, long_rows}
use Rattle.shadow_elim.specs.Sums.{total, first_wide, row_sums, rows_of_sums, wide_sum}
use Rattle.flow_graph.specs.Readings.{entry_reading, return_reading}
use Rattle.punch_step.proofs.Choosing.{some_all, some_of_all}
use Rattle.punch_step.proofs.Deciding.{contains_wide, contains_earlier, contains_later}
use Rattle.shadow_elim.specs.declared.sum.Sum.{Sum}
use Rattle.shadow_elim.specs.Questions.{IsMet, IsNever, is_negatable}
use Rattle.shadow_elim.specs.RightLimit.{IsRight, MeetsLimit}
use Rattle.shadow_elim.specs.Shadows.{pair_rows}
use Rattle.shadow_elim.specs.declared.limit.Kept.{Kept}
use Rattle.shadow_elim.specs.declared.limit.Limit.TheVariants.{Inexact}
use Rattle.shadow_elim.specs.declared.shadow.Pair.{Pair}
use Rattle.flow_graph.specs.declared.graph.Edge.{Edge}
use Rattle.flow_graph.specs.declared.graph.Edge.TheVariants as edges
use Rattle.summary_form.specs.declared.query.Query.{Query}
use Rattle.weakest_pre.specs.Predecessors.{asked_atoms}
use Rattle.weakest_pre.specs.Preimage.{preimage, lin_sum, assigned_sums}
use Rattle.must_region.specs.Traces.{Trace}
use Rattle.query_rules.specs.Crossings.{Crossing, IsAskedAcross, IsMarkQuestion, IsRead, IsShownToCome, IsShownToKill, IsShownToSplit, cube_question, edge_crossing, of_elimination, of_mark, of_negation, of_source, of_sum, of_trail, pre_columns, rows_across, sum_question}
use Rattle.query_rules.specs.Rows.{seen_at}
use Rattle.linear_formula.specs.LinearSum.{Valuation, Is64}
use Rattle.linear_formula.specs.Formula.{HoldsAll}
use Rattle.shadow_elim.specs.declared.shadow.Pre.{Pre}
use Rattle.query_rules.specs.declared.step.Step.{Step}
use Rattle.query_rules.specs.declared.step.Step.TheVariants as step
use Rattle.query_rules.specs.declared.step.Why.TheVariants as why
use Rattle.punch_step.specs.Cuts.{IsCut}
use Rattle.punch_step.specs.declared.cut.Cut.{Cut}
use Rattle.punch_step.specs.declared.plain.Frontier.{Frontier}
use Rattle.punch_step.specs.Frontiers.{CanGo, FirstAt, GivenUpAt, IfUnnegatable, IsHeldUp, IsPossible, IsPreAt, LimitAt, StepAt, crossing_at, first_of, trail_at}
use Rattle.punch_step.specs.Plain.{IsGivenUp, IsLimit}
use Rattle.punch_step.specs.Sights.{HasNoPoint, IsDecision, IsMissed}
use Rattle.punch_step.specs.declared.sight.Sight.TheVariants as sight

pub met_not_never : (rows : List Atom) → IsMet rows → ¬ IsNever rows
met_not_never rows m n = let e : found m.0 ≡ nothing n.0 = sym m.1 ∙ n.1 in cc

-- a preimage is one
pub same_pre : (p : Projected) (pre rows : List Atom) (pair other : Option (ℕ × (LinearSum × LinearSum))) → p ≡ gives pre pair →
    p ≡ gives rows other →
    rows ≡ pre
same_pre p pre rows pair other h k = let e : gives rows other ≡ gives pre pair = sym k ∙ h in cc

pub none_refused : (p : Projected) (kept : Kept) (rows : List Atom) (pair : Option (ℕ × (LinearSum × LinearSum))) → p ≡ refuses kept →
    ¬ (p ≡ gives rows pair)
none_refused p kept rows pair h k = let e : refuses kept ≡ gives rows pair = sym h ∙ k in cc

-- An elimination with an inexact pair

pub inexact_of : (columns : List ℕ) (atoms rows : List Atom) (pair : ℕ × (LinearSum × LinearSum)) → projected columns atoms
    ≡ gives rows (Some pair) →
    ((left : List LinearSum) × (elimination columns (listed_rows atoms columns) ≡ remains left))
    × (first_inexact columns (listed_rows atoms columns) ≡ Some pair)
inexact_of columns atoms rows pair h = by_left (elimination columns (listed_rows atoms columns)) refl where
  by_left : (r : Remainder) → elimination columns (listed_rows atoms columns) ≡ r →
      ((left : List LinearSum) × (elimination columns (listed_rows atoms columns) ≡ remains left))
      × (first_inexact columns (listed_rows atoms columns) ≡ Some pair)
  by_left (remains left) e = let k : left_by columns atoms (remains left) ≡ gives rows (Some pair) = sym (ap (left_by columns atoms) e) ∙ h
      in ((left, e), cc)
  by_left wide e = let k : left_by columns atoms wide ≡ gives rows (Some pair) = sym (ap (left_by columns atoms) e) ∙ h in cc
  by_left too_many e = let k : left_by columns atoms too_many ≡ gives rows (Some pair) = sym (ap (left_by columns atoms) e) ∙ h in cc

exact_read : (o : Option Sum) (r rows : List Atom) (pair : ℕ × (LinearSum × LinearSum)) →
    ¬ (unless_wide o (gives r None) ≡ gives rows (Some pair))
exact_read None r rows pair h = cc
exact_read (Some s) r rows pair h = cc

exact_assigned : (o u : Option Sum) (r rows : List Atom) (pair : ℕ × (LinearSum × LinearSum)) →
    ¬ (unless_wide o (unless_wide u (gives r None)) ≡ gives rows (Some pair))
exact_assigned None u r rows pair h = exact_read u r rows pair h
exact_assigned (Some s) u r rows pair h = cc

-- an inexact preimage is that of an input or a pick
pub own_projection : (edge : Edge) (target rows : List Atom) (pair : ℕ × (LinearSum × LinearSum)) → preimage edge target
    ≡ gives rows (Some pair) →
    (slot : ℕ) × (pre_columns edge ≡ slot ∷ []) × (projected (slot ∷ []) (asked_atoms edge target) ≡ gives rows (Some pair))
own_projection (edges.Entry to params) target rows pair h = absurd (exact_read _ _ rows pair h)
own_projection (edges.Assign from to slot value) target rows pair h = absurd (exact_assigned _ _ _ rows pair h)
own_projection (edges.Guard from to more) target rows pair h = cc
own_projection (edges.Input from to slot) target rows pair h = (slot, refl, h)
own_projection (edges.Pick from to slot more) target rows pair h = (slot, refl, h)
own_projection (edges.Call from to proc args results) target rows pair h = cc
own_projection (edges.Assert from to id more) target rows pair h = cc
own_projection (edges.Return from to slots) target rows pair h = absurd (exact_read _ _ rows pair h)

eliminated : (edge : Edge) (target : List Atom) (slot : ℕ) → pre_columns edge ≡ slot ∷ [] → (question : Question) →
    question ≡ asks.Eliminate (cube_of (asked_atoms edge target)) (slot ∷ []) → Contains (edge_crossing edge target).eliminating question
eliminated edge target slot e question is =
    subst (λ (xs : List ℕ). Contains (map (λ _. asks.Eliminate (cube_of (asked_atoms edge target)) xs) xs) question) (sym e)
    (0, omega arith, sym is)

pub own_columns : (edge : Edge) (target rows : List Atom) (pair : ℕ × (LinearSum × LinearSum)) → preimage edge target
    ≡ gives rows (Some pair) →
    pre_columns edge ≢ []
own_columns edge target rows pair h e = let r = own_projection edge target rows pair h in let no : r.0 ∷ [] ≡ [] = sym r.1 ∙ e in cc

-- the limit of an inexact pair
pub inexact_is : (q : Query) (t : Trace) (edge : Edge) (source target rows : List Atom) (pair : Pair) (kept : Kept) →
    preimage edge target ≡ gives rows (pair_rows (Some pair)) →
    kept.question ≡ asks.Eliminate (cube_of (asked_atoms edge target)) (pre_columns edge) → kept.limit ≡ Inexact pair →
    IsLimit q t source (edge_crossing edge target) kept
inexact_is q t edge source target rows pair kept h e l =
    let r = own_projection edge target rows _ h in
    let m = inexact_of (r.0 ∷ []) (asked_atoms edge target) rows _ r.2 in
    let right : MeetsLimit (asks.Eliminate (cube_of (asked_atoms edge target)) (r.0 ∷ [])) (Inexact pair) = (m.0.0, m.0.1, m.1) in
    let columns : kept.question ≡ asks.Eliminate (cube_of (asked_atoms edge target)) (r.0 ∷ []) = e
    ∙ ap (λ (xs : List ℕ). asks.Eliminate (cube_of (asked_atoms edge target)) xs) r.1 in
    record {
      right = subst (MeetsLimit kept.question) (sym l) (subst (λ (x : Question). MeetsLimit x (Inexact pair)) (sym columns) right);
      asked = of_elimination (eliminated edge target r.0 r.1 kept.question columns);
    }

module _ (q : Query) (t : Trace) (source : List Atom) (c : Crossing) where
  -- whatever answer the trail's question has, it isn't shown to come
  pub first_not_shown : (first : Option Kept) → IsMissed q t c first → ¬ IsShownToCome q t c
  first_not_shown None f = λ s. met_not_never (rows_across q t c) s.met f.0.never
  first_not_shown (Some kept) f = f.2

  -- given up at the first limit
  pub given_up_at : (from : ℕ) (first : Option Kept) (kept : Kept) → IsMissed q t c first → IsLimit q t source c kept →
      (¬ IsShownToKill source c) → (from ≢ 0 → ¬ IsShownToSplit q (t ∷ []) source c) →
      IsGivenUp q t source c from (first_of first kept)
  given_up_at from None kept f l kill split = record { limit = l; no_extend = first_not_shown None f; no_kill = kill; no_split = split }
  given_up_at from (Some first) kept f l kill split = record {
    limit = record { right = f.0; asked = of_trail (inl f.1) };
    no_extend = f.2;
    no_kill = kill;
    no_split = split;
  }

  -- where the preimage is refused there is none
  pub refused_here : (from : ℕ) (first : Option Kept) (kept : Kept) → IsMissed q t c first → c.preimage ≡ refuses kept →
      IsLimit q t source c kept → IsGivenUp q t source c from (first_of first kept)
  refused_here from first kept f h l =
      given_up_at from first kept f l (λ s. none_refused _ kept s.pre s.is_pre.0 h s.is_pre.1)
      (λ i s. none_refused _ kept s.pre s.is_pre.0 h s.is_pre.1)

  -- where a question of the source, or of the trail at it, met a limit, or the trail meets it
  pub limited_here : (from : ℕ) (first : Option Kept) (kept : Kept) (pre : List Atom) (pair : Option (ℕ × (LinearSum × LinearSum))) →
      IsMissed q t c first → c.preimage ≡ gives pre pair → IsLimit q t source c kept → (¬ IsNever (source ++ pre)) →
      (from ≢ 0 → pre ≢ [] → IsMet (source ++ pre) → IsTrue (list_all is_negatable pre) → IsRead t (source ++ pre) →
      ¬ IsNever (seen_at q t (source ++ pre))) →
      IsGivenUp q t source c from (first_of first kept)
  limited_here from first kept pre pair f h l kill split =
      given_up_at from first kept f l
      (λ s. kill (subst (λ (xs : List Atom). IsNever (source ++ xs)) (same_pre _ pre s.pre pair s.is_pre.0 h s.is_pre.1) s.never))
      (λ i s. subst (λ (xs : List Atom). xs ≢ [] → IsMet (source ++ xs) → IsTrue (list_all is_negatable xs) →
      IsRead t (source ++ xs) → ¬ IsNever (seen_at q t (source ++ xs)))
      (sym (same_pre _ pre s.pre pair s.is_pre.0 h s.is_pre.1)) (split i) s.several s.possible s.negatable s.apart.0.0 s.apart.0.1)

-- The question of a refused preimage

refused_sum : (sums : List Sum) (o : Option Sum) (next : Projected) (kept : Kept) → first_wide sums ≡ o →
    ((k : Kept) → ¬ (next ≡ refuses k)) →
    unless_wide o next ≡ refuses kept → (s : Sum) × Contains sums s × (kept.question ≡ sum_question s)
refused_sum sums None next kept e n h = absurd (n kept h)
refused_sum sums (Some s) next kept e n h =
    let k : wide_sum s ≡ kept = cc in
    (s, contains_wide sums s e, ap (λ (x : Kept). x.question) (sym k))

pub refused_first : (sums : List Sum) (o : Option Sum) (next : Projected) (kept : Kept) → first_wide sums ≡ o → unless_wide o next
    ≡ refuses kept →
    ((s : Sum) × Contains sums s × (kept.question ≡ sum_question s)) ⊎ (next ≡ refuses kept)
refused_first sums None next kept e h = inr h
refused_first sums (Some s) next kept e h =
    let k : wide_sum s ≡ kept = cc in
    inl (s, contains_wide sums s e, ap (λ (x : Kept). x.question) (sym k))

pub refused_elimination : (columns : List ℕ) (atoms : List Atom) (kept : Kept) → projected columns atoms ≡ refuses kept →
    kept.question ≡ asks.Eliminate (cube_of atoms) columns
refused_elimination columns atoms kept h = by_left (elimination columns (listed_rows atoms columns)) h where
  by_left : (r : Remainder) → left_by columns atoms r ≡ refuses kept → kept.question ≡ asks.Eliminate (cube_of atoms) columns
  by_left (remains left) k = cc
  by_left wide k = let e : wide_rows columns atoms ≡ kept = cc in ap (λ (x : Kept). x.question) (sym e)
  by_left too_many k = let e : long_rows columns atoms ≡ kept = cc in ap (λ (x : Kept). x.question) (sym e)

never_refused : (rows : List Atom) (kept : Kept) → ¬ (gives rows None ≡ refuses kept)
never_refused rows kept h = cc

pub refused_question : (q : Query) (t : Trace) (edge : Edge) (source target : List Atom) (kept : Kept) → preimage edge target
    ≡ refuses kept →
    IsAskedAcross q (t ∷ []) source (edge_crossing edge target) kept.question
refused_question q t (edges.Entry to params) source target kept h =
    let sums = row_sums (entry_reading params) target in
    let r = refused_sum sums (first_wide sums) (gives (rows_of_sums sums) None) kept refl (never_refused (rows_of_sums sums)) h in
    of_sum r.0 r.1 r.2
refused_question q t (edges.Return from to slots) source target kept h =
    let sums = row_sums (return_reading slots) target in
    let r = refused_sum sums (first_wide sums) (gives (rows_of_sums sums) None) kept refl (never_refused (rows_of_sums sums)) h in
    of_sum r.0 r.1 r.2
refused_question q t (edges.Input from to slot) source target kept h =
    of_elimination (0, omega arith, sym (refused_elimination (slot ∷ []) target kept h))
refused_question q t (edges.Pick from to slot more) source target kept h =
    of_elimination (0, omega arith, sym (refused_elimination (slot ∷ []) (target ++ more.atoms) kept h))
refused_question q t (edges.Guard from to more) source target kept h = absurd (never_refused _ kept h)
refused_question q t (edges.Assert from to id more) source target kept h = absurd (never_refused _ kept h)
refused_question q t (edges.Call from to proc args results) source target kept h = absurd (never_refused _ kept h)
refused_question q t (edges.Assign from to slot value) source target kept h =
    let one = lin_sum value ∷ [] in let sums = assigned_sums slot (total (lin_sum value)) target in
    let next = unless_wide (first_wide sums) (gives (rows_of_sums sums) None) in
    by_first (refused_first one (first_wide one) next kept refl h)
  where
    by_first : (((s : Sum) × Contains (lin_sum value ∷ []) s × (kept.question ≡ sum_question s))
        ⊎ (unless_wide (first_wide (assigned_sums slot (total (lin_sum value)) target))
        (gives (rows_of_sums (assigned_sums slot (total (lin_sum value)) target)) None) ≡ refuses kept)) →
        IsAskedAcross q (t ∷ []) source (edge_crossing (edges.Assign from to slot value) target) kept.question
    by_first (inl r) = of_sum r.0 (contains_earlier (lin_sum value ∷ []) (assigned_sums slot (total (lin_sum value)) target) r.0 r.1)
        r.2
    by_first (inr k) =
        let sums = assigned_sums slot (total (lin_sum value)) target in
        let r = refused_sum sums (first_wide sums) (gives (rows_of_sums sums) None) kept refl (never_refused (rows_of_sums sums)) k in
        of_sum r.0 (contains_later (lin_sum value ∷ []) sums r.0 r.1) r.2

-- Answers at a frontier

pub first_is_limit : (f : Frontier) (kept : Kept) → FirstAt f (Some kept) → LimitAt f kept
first_is_limit f kept h = record { right = h.0; asked = of_trail (inl h.1) }

-- given up, where the source can't be split by the preimage
pub held_up : (f : Frontier) (pre : Pre) (first : Option Kept) (kept : Kept) → FirstAt f first → IsPreAt f pre → IsHeldUp f pre.cube.atoms →
    LimitAt f kept →
    GivenUpAt f (first_of first kept)
held_up f pre first kept h p held l =
    limited_here f.query.now (trail_at f) f.source.now.atoms (crossing_at f) f.at.from first kept pre.cube.atoms
    (pair_rows pre.inexact) h p l
    (met_not_never (f.source.now.atoms ++ pre.cube.atoms) held.0.shown)
    (λ i s m n r. held.1 i s r)

pub given_step : (f : Frontier) (kept : Kept) (s : Step) → s ≡ step.Stuck f.at (why.Own kept) f.seen → GivenUpAt f kept → StepAt f s
given_step f kept s e g = subst (StepAt f) (sym e) (refl, refl, g)

-- where the preimage is exact and the trail doesn't come, no point of the trail meets the source and the preimage
pub apart_at : (f : Frontier) (pre : Pre) (v : Valuation) → CanGo f → FirstAt f None → IsPreAt f pre → pre.inexact ≡ None →
    Is64 v → HoldsAll v (f.source.now.atoms ++ pre.cube.atoms) →
    (f.at.from ≢ 0) × (pre.cube.atoms ≢ []) × HasNoPoint (seen_at f.query.now (trail_at f) (f.source.now.atoms ++ pre.cube.atoms))
apart_at f pre v can first p e b h = can.moves pre.cube.atoms v (p ∙ ap (λ (x : Option Pair). gives pre.cube.atoms (pair_rows x)) e) b h
    first.1

-- given up at a limit of the trail's question at the source and all of the preimage
pub limited_at : (f : Frontier) (pre : Pre) (first : Option Kept) (kept : Kept) → FirstAt f first → IsPreAt f pre →
    IsPossible (f.source.now.atoms ++ pre.cube.atoms) → IsRight kept →
    IsMarkQuestion f.query.now (trail_at f) (f.source.now.atoms ++ pre.cube.atoms) kept.question →
    (IsRead (trail_at f) (f.source.now.atoms ++ pre.cube.atoms) →
    ¬ IsNever (seen_at f.query.now (trail_at f) (f.source.now.atoms ++ pre.cube.atoms))) →
    GivenUpAt f (first_of first kept)
limited_at f pre first kept h p possible right asked apart =
    held_up f pre first kept h p (possible, λ i s r. apart r) (record {
      right = right;
      asked = of_mark pre.cube.atoms pre.cube.atoms (pair_rows pre.inexact, p) (some_of_all pre.cube.atoms) (inl asked);
    })

-- split by atoms of the preimage that no point of the trail meets
pub split_step : (f : Frontier) (pre : Pre) (cut : Cut) (follows proofs : List Certificate) → follows ≡ [] → IsPreAt f pre →
    IsPossible (f.source.now.atoms ++ pre.cube.atoms) → f.at.from ≢ 0 → IsTrue (list_all is_negatable pre.cube.atoms) →
    IsCut f.query.now (trail_at f) f.source.now.atoms pre.cube.atoms cut → proofs ≡ cut.proof ∷ [] →
    StepAt f (step.Split f.at cut.atoms.atoms follows proofs)
split_step f pre cut follows proofs none h possible inner negatable c e = (
  refl,
  inner,
  none,
  (
    cut.proof,
    e,
    record {
      pre = pre.cube.atoms;
      is_pre = (pair_rows pre.inexact, h);
      part = c.some;
      several = c.several;
      negatable = some_all is_negatable cut.atoms.atoms pre.cube.atoms c.some negatable;
      some_state = possible.point;
      values = possible.values;
      possible = possible.holds;
      refuted = c.refuted;
    },
  ),
)

-- given up at a limit of the source and the preimage
pub source_limited : (f : Frontier) (pre : Pre) (first : Option Kept) (kept : Kept) (rows : List Atom) → FirstAt f first → IsPreAt f pre →
    rows ≡ f.source.now.atoms ++ pre.cube.atoms → IsDecision rows (sight.Limit kept) → GivenUpAt f (first_of first kept)
source_limited f pre first kept rows h p e d =
    let met : ¬ IsMet (f.source.now.atoms ++ pre.cube.atoms) = subst (λ (xs : List Atom). ¬ IsMet xs) e d.2 in
    limited_here f.query.now (trail_at f) f.source.now.atoms (crossing_at f) f.at.from first kept pre.cube.atoms
    (pair_rows pre.inexact) h p
    (record { right = d.0; asked = of_source pre.cube.atoms (pair_rows pre.inexact, p) (d.1 ∙ ap cube_question e) })
    (subst (λ (xs : List Atom). ¬ IsNever xs) e d.3)
    (λ i s m n r. absurd (met m))

-- given up at an atom that has no negation
pub unnegatable_at : (f : Frontier) (pre : Pre) (first : Option Kept) (kept : Kept) → FirstAt f first → IsPreAt f pre →
    IsPossible (f.source.now.atoms ++ pre.cube.atoms) → IfUnnegatable pre.cube.atoms (Some kept) → GivenUpAt f (first_of first kept)
unnegatable_at f pre first kept h p possible u =
    limited_here f.query.now (trail_at f) f.source.now.atoms (crossing_at f) f.at.from first kept pre.cube.atoms
    (pair_rows pre.inexact) h p
    (record { right = u.0; asked = of_negation pre.cube.atoms (pair_rows pre.inexact, p) u.1.0 u.1.1 u.1.2 })
    (met_not_never (f.source.now.atoms ++ pre.cube.atoms) possible.shown)
    (λ i s m n r. absurd (u.2 n))

-- given up where the preimage met a limit
pub refused_at : (f : Frontier) (first : Option Kept) (kept : Kept) → FirstAt f first → preimage f.edge.now f.target.now.atoms
    ≡ refuses kept → IsRight kept →
    GivenUpAt f (first_of first kept)
refused_at f first kept h refused right =
    refused_here f.query.now (trail_at f) f.source.now.atoms (crossing_at f) f.at.from first kept h refused
    (record {
      right = right;
      asked = refused_question f.query.now (trail_at f) f.edge.now f.source.now.atoms f.target.now.atoms kept refused;
    })

pub empty_is : (atoms : List Atom) → true ≡ (length atoms == 0) → atoms ≡ []
empty_is [] h = refl
empty_is (a ∷ atoms) h = absurd (none (length atoms) h) where
  none : (n : ℕ) → ¬ (true ≡ (suc n == 0))
  none n k = grind arith
