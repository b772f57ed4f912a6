-- Queries that fit their graphs.
use Rattle.std.proofs.Common.{◌≡◌, ℕ, List, [], Option, Some, refl, sym, ap, subst, ◌∙◌}
use Rattle.std.specs.Prelude.{slice_get, IsTrue}
use Rattle.linear_formula.specs.Formula.{are_terms}
use Rattle.linear_formula.specs.declared.formula.Atom.{Atom}
use Rattle.flow_graph.specs.Columns.{is_entry_column, rows_name_only}
use Rattle.flow_graph.specs.declared.graph.Graph.{Graph}
use Rattle.summary_form.specs.Instances.{arity_in, arity_of}
use Rattle.summary_form.specs.NotMays.{is_end_column}
use Rattle.summary_form.specs.declared.query.Query.{Query}
use Rattle.test_forms.specs.Rows.{NamesAlone}
use Rattle.step_tests.specs.Ready.{IsFitting}

-- without an atom
pub all_fit : (gs : List Graph) (g : Graph) (q : Query) → slice_get gs q.proc ≡ Some g → q.start.atoms ≡ [] → q.end.atoms ≡ [] →
    IsFitting gs q
all_fit gs g q at start end = (
  g,
  at,
  record {
    of_procedure = refl;
    start_names = subst (λ (l : List Atom). IsTrue (rows_name_only (is_entry_column (arity_in gs q.proc).entries) l)) (sym start) refl;
    end_names = subst (λ (l : List Atom). IsTrue (rows_name_only (is_end_column (arity_in gs q.proc) q.exit) l)) (sym end) refl;
    start_terms = subst (λ (l : List Atom). IsTrue (are_terms l)) (sym start) refl;
    end_terms = subst (λ (l : List Atom). IsTrue (are_terms l)) (sym end) refl;
  },
)

-- of a graph with one parameter, whose start names that alone
pub start_fits : (gs : List Graph) (g : Graph) (q : Query) → slice_get gs q.proc ≡ Some g → g.params ≡ 1 → NamesAlone 10000 q.start.atoms →
    IsTrue (are_terms q.start.atoms) → q.end.atoms ≡ [] → IsFitting gs q
start_fits gs g q at params names terms end =
    let one : (arity_in gs q.proc).entries ≡ 1 = ap (λ (o : Option Graph). (arity_of o).entries) at ∙ params in (
      g,
      at,
      record {
        of_procedure = refl;
        start_names = names (is_entry_column (arity_in gs q.proc).entries)
            (subst (λ (n : ℕ). IsTrue (is_entry_column n 10000)) (sym one) refl);
        end_names = subst (λ (l : List Atom). IsTrue (rows_name_only (is_end_column (arity_in gs q.proc) q.exit) l)) (sym end) refl;
        start_terms = terms;
        end_terms = subst (λ (l : List Atom). IsTrue (are_terms l)) (sym end) refl;
      },
    )
