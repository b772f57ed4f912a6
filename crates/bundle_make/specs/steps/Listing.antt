-- Lists of queries with the place of each.
use Rattle.std.specs.Prelude.{◌≡◌, ℕ, List, length, Option, Some, slice_get}
use Rattle.summary_form.specs.declared.query.Query.{Query}
use Rattle.bolt_core.specs.Anchors.{IsAnchored}
use Rattle.bolt_core.specs.Boards.{Shown}
use Rattle.bolt_core.specs.Groups.{Node}

-- of `count` queries those in the list, each once, with its place
pub record IsListing (count : ℕ) (ids : List ℕ) (numbers : List (Option ℕ)) : Type 0 where
  pub size : length numbers ≡ count
  pub there : (i n : ℕ) → slice_get numbers i ≡ Some (Some n) → slice_get ids n ≡ Some i
  pub back : (i n : ℕ) → slice_get ids n ≡ Some i → slice_get numbers i ≡ Some (Some n)

abbrev pub AreAnchored : Shown → List ℕ → Type 0
AreAnchored b ids =
    (n i : ℕ) → slice_get ids n ≡ Some i → (l : ℕ) × IsAnchored b.core.nodes l i

-- the claims ask what these queries ask
abbrev pub AreAskedBy : List Node → (ids : List ℕ) → (claims : List Query) → Type 0
AreAskedBy ns ids claims =
    (n i : ℕ) (node : Node) → slice_get ids n ≡ Some i → slice_get ns i ≡ Some node →
    slice_get claims n ≡ Some node.query
