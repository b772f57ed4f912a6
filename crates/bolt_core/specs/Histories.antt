-- Histories: what each event of a board tells.
use Rattle.std.specs.Prelude.{◌≡◌, ℕ, ◌≤◌, List, [], ◌∷◌, ◌++◌, Bool, false, cond, ◌||◌, ◌==◌, Option, Some, None, slice_get}
use Rattle.query_tree.specs.declared.Rest.{Rest}
use Rattle.summary_form.specs.declared.query.Query.{Query}
use Rattle.summary_form.specs.declared.summary.Summary.{Summary}
use Rattle.bolt_core.specs.declared.slot.ClosedAs.{ClosedAs}

pub data Told : Type 0 where
  -- what was left of the query, its stored steps, and whether some child was open and not Starved
  took : (worker id left steps : ℕ) → (waiting : Bool) → Told
  said : (worker id : ℕ) → Summary → Told
  asked : (worker id spent child : ℕ) → Query → Told
  fed : (worker id spent child : ℕ) → Told
  parked : (worker id spent : ℕ) → Rest → Told
  -- as what the query closed, and the summaries that were appended
  closed : (worker id spent : ℕ) → ClosedAs → List Summary → Told
  stopped : (worker : ℕ) → Told

-- the summaries that the event names
abbrev pub named : Told → List Summary
named (took w i left steps waiting) = []
named (said w i s) = s ∷ []
named (asked w i n c q) = []
named (fed w i n c) = []
named (parked w i n rest) = []
named (closed w i n how ss) = ss
named (stopped w) = []

-- the named summaries in order
abbrev pub table_of : List Told → List Summary
table_of [] = []
table_of (e ∷ es) = named e ++ table_of es

-- whether the history has a Publish of the query
abbrev pub says_of : ℕ → Told → Bool
says_of i (took w j left steps waiting) = false
says_of i (said w j s) = i == j
says_of i (asked w j n c q) = false
says_of i (fed w j n c) = false
says_of i (parked w j n rest) = false
says_of i (closed w j n how ss) = false
says_of i (stopped w) = false

abbrev pub has_said : List Told → ℕ → Bool
has_said [] i = false
has_said (e ∷ es) i = says_of i e || has_said es i

-- the children that the query asked, with their queries
abbrev pub asks_by : ℕ → Told → List (ℕ × Query)
asks_by i (took w j left steps waiting) = []
asks_by i (said w j s) = []
asks_by i (asked w j n c q) = cond (j == i) ((c, q) ∷ []) []
asks_by i (fed w j n c) = []
asks_by i (parked w j n rest) = []
asks_by i (closed w j n how ss) = []
asks_by i (stopped w) = []

abbrev pub asks_of : List Told → ℕ → List (ℕ × Query)
asks_of [] i = []
asks_of (e ∷ es) i = asks_by i e ++ asks_of es i

-- as what the query closed
abbrev pub closes_by : ℕ → Told → Option ClosedAs → Option ClosedAs
closes_by i (took w j left steps waiting) o = o
closes_by i (said w j s) o = o
closes_by i (asked w j n c q) o = o
closes_by i (fed w j n c) o = o
closes_by i (parked w j n rest) o = o
closes_by i (closed w j n how ss) o = cond (j == i) (Some how) o
closes_by i (stopped w) o = o

abbrev pub closed_as : List Told → ℕ → Option ClosedAs
closed_as [] i = None
closed_as (e ∷ es) i = closes_by i e (closed_as es i)

-- no later Take of the query
abbrev pub IsLastTake : List Told → (i t : ℕ) → Type 0
IsLastTake h i t =
    (k w left steps : ℕ) (waiting : Bool) → slice_get h k ≡ Some (took w i left steps waiting) →
    k ≤ t

-- the event gives the job of the query back, or closes it
abbrev pub gives_back : ℕ → Told → Bool
gives_back k (took w i left steps waiting) = false
gives_back k (said w i s) = false
gives_back k (asked w i n c q) = k == i
gives_back k (fed w i n c) = k == i
gives_back k (parked w i n rest) = k == i
gives_back k (closed w i n how ss) = k == i
gives_back k (stopped w) = false

-- the event at this place is a Take of the query
pub record WasTaken (h : List Told) (i taken : ℕ) : Type 0 where
  pub worker : ℕ
  pub left : ℕ
  pub steps : ℕ
  pub waiting : Bool
  pub at : slice_get h taken ≡ Some (took worker i left steps waiting)
