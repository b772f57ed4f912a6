-- Which summaries answer a query, by the questions that are asked of the solver.
use Rattle.std.specs.Prelude.{◌≡◌, ◌<◌, ◌⊎◌, ℕ, All, List, ◌++◌, None, Some, slice_get, pos, nat_lt, if◌then◌else◌, ◌-◌}
use Rattle.linear_formula.specs.LinearSum.{LinearSum, Is64, valuation}
use Rattle.linear_formula.specs.Formula.{HoldsAll}
use Rattle.linear_formula.specs.Results.{constant_sum}
use Rattle.linear_formula.specs.declared.formula.Atom.{Atom}
use Rattle.linear_formula.specs.declared.question.Question.TheVariants as asks
use Rattle.infeasible_cert.specs.Refutation.{refutation_of}
use Rattle.infeasible_cert.specs.Terms.{HasTerms}
use Rattle.shadow_elim.specs.Entailment.{StopsAt, IsLimitOf}
use Rattle.shadow_elim.specs.Projection.{cube_of}
use Rattle.shadow_elim.specs.Questions.{IsMet, IsNever, IsShownToEntail, IsShownNotToEntail}
use Rattle.shadow_elim.specs.RightLimit.{IsRight}
use Rattle.shadow_elim.specs.Sums.{first_wide, row_sums, rows_of_sums, term_at, IsFirstWide}
use Rattle.shadow_elim.specs.declared.limit.Kept.{Kept}
use Rattle.shadow_elim.specs.declared.sum.Sum.{Sum}
use Rattle.lia_solver.specs.Entailment.{RefuteEach}
use Rattle.flow_graph.specs.Columns.{first_entry, first_exit, first_symbol}
use Rattle.summary_form.specs.Answering.{Answers}
use Rattle.summary_form.specs.declared.path.Path.{Path}
use Rattle.summary_form.specs.declared.query.Query.{Query}
use Rattle.summary_form.specs.declared.summary.Summary.{Summary}
use Rattle.summary_form.specs.declared.summary.Summary.TheVariants.{NotMay, Must}
use Rattle.summary_table.specs.declared.answer.Answer.{Answer}
use Rattle.summary_table.specs.declared.answer.Answer.TheVariants as answer
use Rattle.summary_table.specs.declared.answer.AnswerProof.{AnswerProof}
use Rattle.summary_table.specs.declared.answer.AnswerProof.TheVariants as proof

-- The questions

abbrev pub rows_of_query : Query → List Atom
rows_of_query q = q.start.atoms ++ q.end.atoms

-- a path's terms of entry and exit values in their columns, and 0 in the others
abbrev pub path_reading : Path → ℕ → LinearSum
path_reading p x =
    if nat_lt x first_entry then constant_sum (pos 0)
    else (if nat_lt x first_exit then term_at p.entry (x - first_entry)
    else (if nat_lt x first_symbol then term_at p.outcome (x - first_exit)
    else constant_sum (pos 0)))

-- of a must: the query's start and then its end, with the path's terms in place
abbrev pub read_sums : Query → Path → List Sum
read_sums q p = row_sums (path_reading p) (rows_of_query q)

-- after its guard
abbrev pub must_rows : Query → Path → List Atom
must_rows q p = p.guard.atoms ++ rows_of_sums (read_sums q p)

-- What a question decides without a limit

-- it ends without a limit: the not-may, or the must, answers
abbrev pub IsShownToAnswer : Query → Summary → Type 0
IsShownToAnswer q (NotMay s) =
    (s.proc ≡ q.proc) × (s.exit ≡ q.exit) × IsShownToEntail (rows_of_query q) (rows_of_query s)
IsShownToAnswer q (Must p) =
    (p.proc ≡ q.proc) × (p.exit ≡ q.exit) × (first_wide (read_sums q p) ≡ None)
    × IsMet (must_rows q p)

-- it isn't asked, since the summary is of another procedure or exit, or it ends without a limit:
-- the summary doesn't answer
abbrev pub IsShownNotToAnswer : Query → Summary → Type 0
IsShownNotToAnswer q (NotMay s) =
    s.proc ≡ q.proc → s.exit ≡ q.exit → IsShownNotToEntail (rows_of_query q) (rows_of_query s)
IsShownNotToAnswer q (Must p) =
    p.proc ≡ q.proc → p.exit ≡ q.exit →
    (first_wide (read_sums q p) ≡ None) × IsNever (must_rows q p)

-- the question of the cube met the limit
pub record IsCubeLimit (rows : List Atom) (kept : Kept) : Type 0 where
  pub asked : kept.question ≡ asks.Cube (cube_of rows)
  pub right : IsRight kept

-- the question meets the limit, which is its first one
abbrev pub MeetsLimitAt : Query → Summary → Kept → Type 0
MeetsLimitAt q (NotMay s) kept =
    (s.proc ≡ q.proc) × (s.exit ≡ q.exit)
    × StopsAt (rows_of_query q) (rows_of_query s) (IsLimitOf (rows_of_query q) kept)
MeetsLimitAt q (Must p) kept =
    (p.proc ≡ q.proc) × (p.exit ≡ q.exit)
    × (IsFirstWide (read_sums q p) kept
    ⊎ ((first_wide (read_sums q p) ≡ None) × IsCubeLimit (must_rows q p) kept))

-- Proofs

-- the proof is right, and of the summary's kind
abbrev pub IsProofOf : Query → Summary → AnswerProof → Type 0
IsProofOf q (NotMay s) (proof.Entailed certificates) =
    RefuteEach (rows_of_query q) (rows_of_query s) certificates
    × All (λ c. HasTerms (refutation_of c)) certificates
IsProofOf q (Must p) (proof.Met at) =
    Is64 (valuation at) × HoldsAll (valuation at) (must_rows q p)
IsProofOf q _ _ = ⊥

-- Answers of a table

-- the question of each summary before the place met a limit, or ended so that it doesn't answer
abbrev pub NoneBefore : Query → List Summary → ℕ → Type 0
NoneBefore q table place =
    (i : ℕ) (s : Summary) → i < place → slice_get table i ≡ Some s →
    IsShownNotToAnswer q s ⊎ ((kept : Kept) × MeetsLimitAt q s kept)

-- the first summary whose question was decided and that answers
pub record IsFirstAnswer (q : Query) (table : List Summary) (place : ℕ) (why : AnswerProof) :
    Type 0 where
  pub summary : Summary
  pub there : slice_get table place ≡ Some summary
  pub shown : IsShownToAnswer q summary
  pub is_proof : IsProofOf q summary why
  pub none_before : NoneBefore q table place

-- every question was decided, and no summary answers
abbrev pub AllDecided : Query → List Summary → Type 0
AllDecided q table =
    (i : ℕ) (s : Summary) → slice_get table i ≡ Some s → IsShownNotToAnswer q s

-- none that was decided answers, and the limit is the first that was met
pub record IsFirstLimit (q : Query) (table : List Summary) (kept : Kept) : Type 0 where
  pub place : ℕ
  pub summary : Summary
  pub there : slice_get table place ≡ Some summary
  pub limit : MeetsLimitAt q summary kept
  pub right : IsRight kept
  pub decided_before : (i : ℕ) (s : Summary) → i < place → slice_get table i ≡ Some s →
      IsShownNotToAnswer q s
  pub none : (i : ℕ) (s : Summary) → slice_get table i ≡ Some s →
      IsShownNotToAnswer q s ⊎ ((later : Kept) × MeetsLimitAt q s later)

abbrev pub IsTableAnswer : Query → List Summary → Answer → Type 0
IsTableAnswer q table (answer.Yes place why) = IsFirstAnswer q table place why
IsTableAnswer q table answer.None = AllDecided q table
IsTableAnswer q table (answer.Limit kept) = IsFirstLimit q table kept

-- In the words of summaries

-- the summary there answers the query
abbrev pub AnswersAt : Query → List Summary → ℕ → Type 0
AnswersAt q table place = (s : Summary) × (slice_get table place ≡ Some s) × Answers q s

-- no summary answers it
abbrev pub NoneAnswers : Query → List Summary → Type 0
NoneAnswers q table = (i : ℕ) (s : Summary) → slice_get table i ≡ Some s → ¬ Answers q s

abbrev pub IfAnswered : Answer → (ℕ → Type 0) → Type 0
IfAnswered (answer.Yes place why) P = P place
IfAnswered answer.None P = Unit {0}
IfAnswered (answer.Limit kept) P = Unit {0}

abbrev pub IfUnanswered : Answer → Type 0 → Type 0
IfUnanswered (answer.Yes place why) P = Unit {0}
IfUnanswered answer.None P = P
IfUnanswered (answer.Limit kept) P = Unit {0}
