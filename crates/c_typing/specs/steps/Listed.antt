-- What contracts see of the globals of a file, and how a map keeps their numbers.
use Rattle.std.specs.Prelude.{◌≡◌, ℕ, ℤ, List, map, Option, refl}
use denote.Ref.{Bor}
use Rattle.std.specs.Coded.{Coded, Coded-set, code_by, coded×, coded_ℕ, coded_ℤ, coded_list, coded_option, Π_prop}
use Rattle.indexmap.specs.IndexMap.{IndexMap}
use Rattle.c_tree.specs.declared.syntax_tree.GlobalTree.{GlobalTree}
use Rattle.c_tree.specs.declared.syntax_tree.Item.{Item}
use Rattle.c_tree.specs.SourceTree.{Global}
use Rattle.c_tree.specs.FileView.{item_of, global_of as tree_of_global}
use Rattle.c_typing.specs.Scope.{globals_of, global_names, global_of}
use Rattle.c_typing.specs.steps.Meanings.{found_in}

-- the globals of a file, in order
abbrev pub globals_in : List Item → List Global
globals_in is = globals_of (map item_of is)

abbrev pub names_in : List Item → List (List ℕ)
names_in is = global_names (globals_in is)

abbrev pub listed : List (Bor GlobalTree) → List Global
listed gs = map (λ (g : Bor GlobalTree). tree_of_global g.now) gs

-- the map has the number of the first global of each name
abbrev pub AreNumbered : {S : Type 0} → IndexMap (Bor (List ℕ)) ℕ S → List (Bor GlobalTree) → Type 0
AreNumbered m gs = (x : List ℕ) → found_in m x ≡ global_of (global_names (listed gs)) x

pub AreNumbered-prop : {S : Type 0} (m : IndexMap (Bor (List ℕ)) ℕ S) (gs : List (Bor GlobalTree)) →
    IsProp (AreNumbered m gs)
AreNumbered-prop m gs = Π_prop (λ x. Coded-set (coded_option coded_ℕ) (found_in m x)
    (global_of (global_names (listed gs)) x))

abbrev pub AreListed : List (Bor GlobalTree) → List Item → Type 0
AreListed gs is = listed gs ≡ globals_in is

coded_global : Coded Global
coded_global = code_by ((List ℕ × (ℕ × ℕ)) × Option ℤ)
    (coded× (coded× (coded_list coded_ℕ) (coded× coded_ℕ coded_ℕ)) (coded_option coded_ℤ))
    (λ g. ((g.named.name, (g.named.at.line, g.named.at.column)), g.value))
    (λ v. record {
      named = record { name = v.0.0; at = record { line = v.0.1.0; column = v.0.1.1 } };
      value = v.1;
    }) (λ g. refl)

pub AreListed-prop : (gs : List (Bor GlobalTree)) (is : List Item) → IsProp (AreListed gs is)
AreListed-prop gs is = Coded-set (coded_list coded_global) (listed gs) (globals_in is)
