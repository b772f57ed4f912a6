-- The text of a report.
use Rattle.std.specs.Prelude.{ℕ, ℤ, List, [], ◌∷◌, ◌++◌, codes, Bool, true, false, count_by}
use Rattle.std.specs.Fmt.{decimal, signed_decimal}
use Rattle.c_tree.specs.declared.tree.AssertPlace.{AssertPlace}
use Rattle.shadow_elim.specs.declared.limit.LimitKind.{LimitKind}
use Rattle.shadow_elim.specs.declared.limit.LimitKind.TheVariants.{Columns, Wide, Rows, Branches, Inexact}
use Rattle.bolt_core.specs.declared.job.Verdict.{Verdict}
use Rattle.bolt_core.specs.declared.job.Verdict.TheVariants.{Proved, Found, Budget, Limit}

abbrev pub kind_text : LimitKind → List ℕ
kind_text Columns = codes "columns"
kind_text Wide = codes "wide"
kind_text Rows = codes "rows"
kind_text Branches = codes "branches"
kind_text Inexact = codes "inexact"

-- values, each but the first one after a comma and a blank
abbrev pub more_text : List ℤ → List ℕ
more_text [] = []
more_text (z ∷ zs) = codes ", " ++ (signed_decimal z ++ more_text zs)

abbrev pub values_text : List ℤ → List ℕ
values_text [] = []
values_text (z ∷ zs) = signed_decimal z ++ more_text zs

abbrev pub list_text : List ℤ → List ℕ
list_text zs = codes "[" ++ (values_text zs ++ codes "]")

abbrev pub verdict_text : Verdict → List ℕ
verdict_text Proved = codes "proved"
verdict_text (Found list) = codes "found " ++ list_text list.items
verdict_text (Budget n) = codes "unknown (budget " ++ (decimal n ++ codes " spent)")
verdict_text (Limit kind) = codes "unknown (solver limit: " ++ (kind_text kind ++ codes ")")

-- the line of an assertion: the place of its name, and its verdict
abbrev pub line_of : AssertPlace → Verdict → List ℕ
line_of a v = decimal a.at.line
    ++ (codes ":" ++ (decimal a.at.column ++ (codes ": " ++ (verdict_text v ++ 10 ∷ []))))

-- the lines of the assertions, in source order
abbrev pub lines_of : List AssertPlace → List Verdict → List ℕ
lines_of [] vs = []
lines_of (a ∷ places) [] = []
lines_of (a ∷ places) (v ∷ vs) = line_of a v ++ lines_of places vs

abbrev pub is_proved : Verdict → Bool
is_proved Proved = true
is_proved _ = false

abbrev pub is_found : Verdict → Bool
is_found (Found list) = true
is_found _ = false

abbrev pub is_unknown : Verdict → Bool
is_unknown (Budget n) = true
is_unknown (Limit kind) = true
is_unknown _ = false

abbrev pub summary_of : List Verdict → List ℕ
summary_of vs =
    codes "summary: "
    ++ (decimal (count_by is_proved vs)
    ++ (codes " proved, "
    ++ (decimal (count_by is_found vs)
    ++ (codes " found, " ++ (decimal (count_by is_unknown vs) ++ (codes " unknown" ++ 10 ∷ []))))))

abbrev pub report_of : List AssertPlace → List Verdict → List ℕ
report_of places vs = lines_of places vs ++ summary_of vs
