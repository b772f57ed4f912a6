-- The text of a sweep.
use Rattle.std.specs.Prelude.{ℕ, ℤ, List, [], ◌∷◌, ◌++◌, codes, Bool, true, false, Option, None, Some, Vec, count_by}
use Rattle.std.specs.Fmt.{decimal}
use Rattle.std.specs.declared.alloc.Global.{Global}
use Rattle.c_tree.specs.declared.tree.AssertPlace.{AssertPlace}
use Rattle.report_text.specs.Bundles.{place_text}
use Rattle.report_text.specs.Report.{kind_text, list_text}
use Rattle.report_text.specs.declared.sweeps.Unfound.{Unfound}
use Rattle.report_text.specs.declared.sweeps.Unfound.TheVariants.{Proved, Spent, Limit}

-- the inputs of an entry
abbrev pub entry_of : Option (Vec ℤ Global) → Option (List ℤ)
entry_of None = None
entry_of (Some list) = Some list.items

abbrev pub unfound_text : Unfound → List ℕ
unfound_text Proved = codes "proved"
unfound_text (Spent edges) = codes "unknown (sweep " ++ (decimal edges ++ codes " spent)")
unfound_text (Limit kind) = codes "unknown (solver limit: " ++ (kind_text kind ++ codes ")")

-- what is written of an assertion: the inputs on which it fails, or what is written of all others
abbrev pub entry_text : Unfound → Option (List ℤ) → List ℕ
entry_text others None = unfound_text others
entry_text others (Some list) = codes "found " ++ list_text list

-- the line of an assertion: the place of its name, and what is written of it
abbrev pub entry_line : Unfound → AssertPlace → Option (List ℤ) → List ℕ
entry_line others a o = place_text a ++ (codes ": " ++ (entry_text others o ++ 10 ∷ []))

-- the lines of the assertions, in source order
abbrev pub entry_lines : Unfound → List AssertPlace → List (Option (List ℤ)) → List ℕ
entry_lines others [] os = []
entry_lines others (a ∷ places) [] = []
entry_lines others (a ∷ places) (o ∷ os) = entry_line others a o ++ entry_lines others places os

abbrev pub is_found_entry : Option (List ℤ) → Bool
is_found_entry None = false
is_found_entry (Some list) = true

abbrev pub is_unfound_entry : Option (List ℤ) → Bool
is_unfound_entry None = true
is_unfound_entry (Some list) = false

abbrev pub is_proved_entry : Unfound → Option (List ℤ) → Bool
is_proved_entry Proved None = true
is_proved_entry others o = false

abbrev pub is_unknown_entry : Unfound → Option (List ℤ) → Bool
is_unknown_entry (Spent edges) None = true
is_unknown_entry (Limit kind) None = true
is_unknown_entry others o = false

abbrev pub sweep_summary : Unfound → List (Option (List ℤ)) → List ℕ
sweep_summary others os =
    codes "summary: "
    ++ (decimal (count_by (is_proved_entry others) os)
    ++ (codes " proved, "
    ++ (decimal (count_by is_found_entry os)
    ++ (codes " found, "
    ++ (decimal (count_by (is_unknown_entry others) os) ++ (codes " unknown" ++ 10 ∷ []))))))

abbrev pub sweep_text : Unfound → List AssertPlace → List (Option (List ℤ)) → List ℕ
sweep_text others places os = entry_lines others places os ++ sweep_summary others os
