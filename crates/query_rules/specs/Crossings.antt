-- Crossings: how a trail goes from a source into a target, over an edge that is no call or over a
-- call by a must. What holds of a crossing, what is decided of it without a limit, and what it
-- asks.
use Rattle.std.specs.Prelude.{◌≡◌, ◌≢◌, ◌⊎◌, ℕ, IsTrue, Contains, List, [], ◌∷◌, ◌++◌, map, None, Option, Some, pos, negsuc, slice_get}
use Rattle.std.specs.List.{list_all}
use Rattle.linear_formula.specs.LinearSum.{LinearSum, Valuation, Is64, valuation}
use Rattle.linear_formula.specs.Formula.{HoldsAll}
use Rattle.linear_formula.specs.declared.formula.Atom.{Atom}
use Rattle.linear_formula.specs.declared.question.Question.{Question}
use Rattle.linear_formula.specs.declared.question.Question.TheVariants as asks
use Rattle.infeasible_cert.specs.declared.certificate.Certificate.{Certificate}
use Rattle.shadow_elim.specs.Projection.{Projected, cube_of, gives}
use Rattle.shadow_elim.specs.Questions.{IsMet, IsNever, is_negatable}
use Rattle.shadow_elim.specs.Sums.{first_wide, row_sums, total}
use Rattle.shadow_elim.specs.declared.sum.Sum.{Sum}
use Rattle.flow_graph.specs.Calls.{call_site, call_edge}
use Rattle.flow_graph.specs.declared.graph.Edge.{Edge}
use Rattle.flow_graph.specs.declared.graph.Edge.TheVariants.{Entry, Assign, Input, Pick, Return}
use Rattle.flow_graph.specs.declared.graph.Graph.{Graph}
use Rattle.flow_graph.specs.Readings.{reading, entry_reading, return_reading}
use Rattle.weakest_pre.specs.Preimage.{preimage, lin_sum, assigned_sums}
use Rattle.weakest_pre.specs.Predecessors.{asked_atoms}
use Rattle.summary_form.specs.declared.query.Query.{Query}
use Rattle.summary_form.specs.declared.path.Path.{Path}
use Rattle.may_partition.specs.declared.region.RegionEdge.{RegionEdge}
use Rattle.must_region.specs.Traces.{Trace}
use Rattle.must_region.specs.Rules.{carried, carried_sums, extended, sums_of}
use Rattle.call_bridge.specs.Musts.{must_preimage, must_sums, slot_sums, plain_rows, must_rows, symbol_columns}
use Rattle.query_rules.specs.declared.step.Mark.{Mark}
use Rattle.query_rules.specs.Steps.{Model, Point}
use Rattle.query_rules.specs.Rows.{CallAt, Follow, IsRefutedBy, IsSome, PlainEdge, marks_of, seen_at}

-- Questions

abbrev pub sum_question : Sum → Question
sum_question s = asks.Combine s.summands s.constant

abbrev pub cube_question : List Atom → Question
cube_question atoms = asks.Cube (cube_of atoms)

-- the negation of an atom
abbrev pub negation_question : Atom → Question
negation_question a = asks.Combine ((negsuc 0, a.term) ∷ []) (pos 1)

-- of a trail that reaches a target
abbrev pub IsTrailQuestion : Query → Trace → List Sum → List Atom → Question → Type 0
IsTrailQuestion query t sums target question =
    ((s : Sum) × Contains sums s × (question ≡ sum_question s))
    ⊎ (question ≡ cube_question (seen_at query t target))

-- of a mark's trail, whether its end meets the atoms
abbrev pub IsMarkQuestion : Query → Trace → List Atom → Question → Type 0
IsMarkQuestion query t atoms question =
    IsTrailQuestion query t (row_sums (reading t.slots t.entry) atoms) atoms question

-- no sum of the atoms at the end of the trail is too wide
abbrev pub IsRead : Trace → List Atom → Type 0
IsRead t atoms = first_wide (row_sums (reading t.slots t.entry) atoms) ≡ None

-- The sums of a preimage over an edge, and the columns that it eliminates

abbrev pub pre_sums : Edge → List Atom → List Sum
pre_sums (Entry to params) target = row_sums (entry_reading params) target
pre_sums (Assign from to slot value) target =
    lin_sum value ∷ assigned_sums slot (total (lin_sum value)) target
pre_sums (Return from to slots) target = row_sums (return_reading slots) target
pre_sums _ target = []

-- the edge's own columns
abbrev pub pre_columns : Edge → List ℕ
pre_columns (Input from to slot) = slot ∷ []
pre_columns (Pick from to slot rows) = slot ∷ []
pre_columns _ = []

-- Crossings

pub record Crossing : Type 0 where
  pub target : List Atom
  -- the trail after it, and the sums by which it is carried there
  pub carried : Trace → Trace
  pub carrying : Trace → List Sum
  -- the preimage of the target, with the sums and the eliminations that it asks for
  pub preimage : Projected
  pub summing : List Sum
  pub eliminating : List Question

-- over an edge that is no call
abbrev pub edge_crossing : Edge → (target : List Atom) → Crossing
edge_crossing edge target = record {
  target = target;
  carried = λ t. extended t edge;
  carrying = λ t. sums_of t edge;
  preimage = preimage edge target;
  summing = pre_sums edge target;
  eliminating = map
      (λ (x : ℕ). asks.Eliminate (cube_of (asked_atoms edge target)) (pre_columns edge))
      (pre_columns edge);
}

-- over a call by a must
abbrev pub must_crossing : (fail : ℕ) → Edge → (target : List Atom) → Path → Crossing
must_crossing fail call target path = record {
  target = target;
  carried = λ t. carried t fail call path;
  carrying = λ t. carried_sums t call path;
  preimage = must_preimage path (call_site call) target;
  summing = must_sums path (call_site call) target
      ++ slot_sums path (call_site call).arguments
      (plain_rows path (call_site call) target);
  eliminating = asks.Eliminate
      (cube_of (must_rows path (call_site call) target))
      (symbol_columns (must_rows path (call_site call) target)) ∷ [];
}

-- the atoms are the preimage
abbrev pub IsPreOf : Crossing → List Atom → Type 0
IsPreOf c pre = (pair : Option (ℕ × (LinearSum × LinearSum))) × (c.preimage ≡ gives pre pair)

-- A trail

module _ (q : Query) (t : Trace) (c : Crossing) where
  -- the sums by which the trail is carried, and then of the target at its end
  abbrev pub sums_across : List Sum
  sums_across = c.carrying t ++ row_sums (reading (c.carried t).slots t.entry) c.target

  abbrev pub IsCarriedWell : Type 0
  IsCarriedWell = first_wide sums_across ≡ None

  -- its guard, the query's start, and the target at its end
  abbrev pub rows_across : List Atom
  rows_across = seen_at q (c.carried t) c.target

  -- at the point the trail enters the target
  pub record ComesInto (point : Point) : Type 0 where
    pub decided : IsCarriedWell
    pub values : Is64 (valuation point)
    pub met : HoldsAll (valuation point) rows_across

  -- it is decided without a limit that at some point it does
  pub record IsShownToCome : Type 0 where
    pub decided : IsCarriedWell
    pub met : IsMet rows_across

  -- or that at none it does
  pub record IsShownNotToCome : Type 0 where
    pub decided : IsCarriedWell
    pub never : IsNever rows_across

-- A source, and the preimage in it

-- The atoms are some of the preimage's or follow from it and the source; something in the source
-- meets the preimage, and no point of the trail meets the atoms in the source.
pub record IsSplitBy (g : Graph) (source pre : List Atom) (q : Query) (t : Trace)
    (atoms : List Atom) (follows : List Certificate) (proof : Certificate) : Type 0 where
  pub some_state : Valuation
  pub values : Is64 some_state
  pub possible : HoldsAll some_state (source ++ pre)
  pub follow : Follow g source pre atoms follows
  pub several : atoms ≢ []
  pub negatable : IsTrue (list_all is_negatable atoms)
  pub refuted : IsRefutedBy (seen_at q t (source ++ atoms)) proof

module _ (source : List Atom) (c : Crossing) where
  -- nothing in the source meets the preimage
  pub record IsShownToKill : Type 0 where
    pub pre : List Atom
    pub is_pre : IsPreOf c pre
    pub never : IsNever (source ++ pre)

  -- the source is split from the trail by atoms that follow from it and the preimage
  pub record IsSplitFrom (g : Graph) (q : Query) (t : Trace) (atoms : List Atom)
      (follows : List Certificate) (proof : Certificate) : Type 0 where
    pub pre : List Atom
    pub is_pre : IsPreOf c pre
    pub splits : IsSplitBy g source pre q t atoms follows proof

-- The trails that mark a source

-- the proposition is one of each of them
abbrev pub OfEach : (Trace → Type 0) → List Trace → Type 0
OfEach P [] = Unit {0}
OfEach P (t ∷ ts) = P t × OfEach P ts

-- or of some one
abbrev pub OfSome : (Trace → Type 0) → List Trace → Type 0
OfSome P [] = ⊥
OfSome P (t ∷ ts) = P t ⊎ OfSome P ts

module _ (q : Query) (ts : List Trace) (source : List Atom) (c : Crossing) where
  -- it is decided without a limit that all atoms of the preimage split the source from each trail
  pub record IsShownToSplit : Type 0 where
    pub pre : List Atom
    pub is_pre : IsPreOf c pre
    pub several : pre ≢ []
    pub negatable : IsTrue (list_all is_negatable pre)
    pub possible : IsMet (source ++ pre)
    pub apart : OfEach (λ t. IsRead t (source ++ pre) × IsNever (seen_at q t (source ++ pre))) ts

  -- or one of these, that they don't
  pub record IsShownNotToSplit : Type 0 where
    pub pre : List Atom
    pub is_pre : IsPreOf c pre
    pub fails : (pre ≡ []) ⊎ (IsNever (source ++ pre)
        ⊎ OfSome (λ t. IsRead t (source ++ pre) × IsMet (seen_at q t (source ++ pre))) ts)

  -- each question ends without a limit: no trail enters the target, and the source isn't split
  pub record ServesNeither : Type 0 where
    pub no_trail : OfEach (λ t. IsShownNotToCome q t c) ts
    pub not_split : IsShownNotToSplit

  -- a question of the crossing
  pub data IsAskedAcross (question : Question) : Type 0 where
    of_sum : (s : Sum) → Contains c.summing s → question ≡ sum_question s → IsAskedAcross question
    of_elimination : Contains c.eliminating question → IsAskedAcross question
    of_source : (pre : List Atom) → IsPreOf c pre → question ≡ cube_question (source ++ pre) →
        IsAskedAcross question
    of_negation : (pre : List Atom) → IsPreOf c pre → (a : Atom) → Contains pre a →
        question ≡ negation_question a → IsAskedAcross question
    of_trail : OfSome (λ t. IsTrailQuestion q (c.carried t) (sums_across q t c) c.target question)
        ts → IsAskedAcross question
    of_mark : (pre atoms : List Atom) → IsPreOf c pre → IsSome atoms pre →
        OfSome (λ t. IsMarkQuestion q t (source ++ atoms) question) ts → IsAskedAcross question

-- The crossings of a state

abbrev pub with_trail : Option Trace → List Trace → List Trace
with_trail None ts = ts
with_trail (Some t) ts = t ∷ ts

abbrev pub trails_of : List Trace → List Mark → List Trace
trails_of trails [] = []
trails_of trails (k ∷ marks) = with_trail (slice_get trails k.trail) (trails_of trails marks)

-- the trails that mark the region
abbrev pub trails_on : Model → (region : ℕ) → List Trace
trails_on m region = trails_of m.trails (marks_of region m.marks)

abbrev pub over_plain : {g : Graph} {m : Model} {k : RegionEdge} → PlainEdge g m k → Crossing
over_plain at = edge_crossing at.between.edge at.between.target.cube.atoms

abbrev pub call_by : {g : Graph} {m : Model} {k : RegionEdge} → CallAt g m k → Path → Crossing
call_by {g} c path =
    must_crossing g.fail (call_edge c.from c.to c.site) c.between.target.cube.atoms path

-- the trail carried over the call by a must
abbrev pub called_trail : {g : Graph} {m : Model} {k : RegionEdge} → Trace → CallAt g m k → Path →
    Trace
called_trail t c path = (call_by c path).carried t
