-- The text of a list of values, as std writes it.
use Rattle.std.proofs.Common.{◌≡◌, List, [], ◌∷◌, Some, ℤ, refl, ap}
use Rattle.std.specs.Fmt.{signed_decimal, debug_items, debug_list, ◌++?◌, comma_space}
use Rattle.report_text.specs.Report.{more_text, values_text, list_text}

-- the values after the first one
more_shown : (zs : List ℤ) → debug_items (λ z. Some (signed_decimal z)) comma_space zs ≡ Some (more_text zs)
more_shown [] = refl
more_shown (z ∷ zs) = ap (λ o. Some comma_space ++? Some (signed_decimal z) ++? o) (more_shown zs)

values_shown : (zs : List ℤ) → debug_items (λ z. Some (signed_decimal z)) [] zs ≡ Some (values_text zs)
values_shown [] = refl
values_shown (z ∷ zs) = ap (λ o. Some [] ++? Some (signed_decimal z) ++? o) (more_shown zs)

pub list_shown : (zs : List ℤ) → debug_list (λ z. Some (signed_decimal z)) zs ≡ Some (list_text zs)
list_shown zs = ap (λ o. Some (91 ∷ []) ++? o ++? Some (93 ∷ [])) (values_shown zs)
