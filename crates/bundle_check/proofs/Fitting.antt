-- Which columns the cubes of a claim name.
use Rattle.std.proofs.Common.{◌≡◌, ◌↔◌, ℕ, ◌+◌, List, Some, Bool, true, false, ◌&&◌, ◌||◌, nat_le, nat_lt, arith, refl, sym, ap, ◌∙◌}
use Rattle.std.specs.Prelude.{IsTrue}
use Rattle.std.proofs.lemmas.Bool.Decides.{nat_tests}
use Rattle.linear_formula.specs.Formula.{are_terms}
use Rattle.linear_formula.specs.declared.formula.Atom.{Atom}
use Rattle.linear_formula.proofs.Limits.{both, both_in}
use Rattle.flow_graph.specs.declared.graph.Graph.{Graph}
use Rattle.flow_graph.specs.Columns.{first_exit, is_entry_column, is_value_column, rows_name_only}
use Rattle.summary_form.specs.declared.query.ExitKind.{ExitKind}
use Rattle.summary_form.specs.declared.query.ExitKind.TheVariants.{Return, Fail}
use Rattle.summary_form.specs.declared.query.Query.{Query}
use Rattle.summary_form.specs.Instances.{arity_of}
use Rattle.summary_form.specs.NotMays.{Fits, is_end_column}
use Rattle.bundle_check.specs.steps.Names.{exits_named, is_allowed, is_exit_column}

-- no column is among none
none_lower : (x : ℕ) → nat_lt x 0 ≡ false
none_lower x = grind (arith, nat_tests)

none_among : (first x : ℕ) → (nat_le first x && nat_lt x (first + 0)) ≡ false
none_among first x = grind (arith, nat_tests)

pub same_names : (f k : ℕ → Bool) → ((x : ℕ) → f x ≡ k x) → (rows : List Atom) → rows_name_only f rows ≡ rows_name_only k rows
same_names f k e rows = λ i. rows_name_only (λ x. e x i) rows

middle : (a b c : Bool) → a ≡ false → c ≡ false → (a || (b || c)) ≡ b
middle true b c e f = absurd cc
middle false true c e f = refl
middle false false c e f = f

pub start_columns : (entries x : ℕ) → is_allowed (record { slots = 0; entries = entries; exits = 0 }) x ≡ is_entry_column entries x
start_columns entries x =
    middle (nat_lt x 0) (is_entry_column entries x) (is_exit_column 0 x) (none_lower x) (none_among first_exit x)

value_columns : (entries exits x : ℕ) → is_allowed (record { slots = 0; entries = entries; exits = exits }) x
    ≡ is_value_column entries exits x
value_columns entries exits x = ap (λ b. b || (is_entry_column entries x || is_exit_column exits x)) (none_lower x)

pub end_columns : (g : Graph) (exit : ExitKind) (x : ℕ) →
    is_allowed (record { slots = 0; entries = g.params; exits = exits_named exit g.exits })
    x
    ≡ is_end_column (arity_of (Some g)) exit x
end_columns g Return x = value_columns g.params g.exits x
end_columns g (Fail id) x = start_columns g.params x

pub fits_is : (g : Graph) (q : Query) → IsTrue (are_terms q.start.atoms) → IsTrue (are_terms q.end.atoms) → (a b r : Bool) →
    a ≡ rows_name_only (is_allowed (record { slots = 0; entries = g.params; exits = 0 })) q.start.atoms →
    b ≡ rows_name_only (is_allowed (record { slots = 0; entries = g.params; exits = exits_named q.exit g.exits })) q.end.atoms →
    r ≡ (a && b) → IsTrue r ↔ Fits q.proc (arity_of (Some g)) q
fits_is g q s t a b r ea eb er = (
  λ h. let w = both a b (sym er ∙ h) in record {
    of_procedure = refl;
    start_names = sym start ∙ w.0;
    end_names = sym end ∙ w.1;
    start_terms = s;
    end_terms = t;
  },
  λ h. er ∙ both_in a b (start ∙ h.start_names) (end ∙ h.end_names),
)
  where
    start : a ≡ rows_name_only (is_entry_column g.params) q.start.atoms
    start = ea ∙ same_names _ _ (start_columns g.params) q.start.atoms

    end : b ≡ rows_name_only (is_end_column (arity_of (Some g)) q.exit) q.end.atoms
    end = eb ∙ same_names _ _ (end_columns g q.exit) q.end.atoms
