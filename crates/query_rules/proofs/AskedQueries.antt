-- A query that may be asked fits the called procedure.
use Rattle.std.proofs.Common.{◌≡◌, ⊎_elim, ℕ, ◌==◌, List, length, Option, Some, None, refl, sym, subst, ap, ◌∙◌}
use Rattle.std.specs.Prelude.{slice_get, IsTrue}
use borrow.Author.Tests.{eqb-true}
use Rattle.linear_formula.proofs.Limits.{both}
use Rattle.linear_formula.specs.Formula.{are_terms}
use Rattle.linear_formula.specs.declared.formula.Atom.{Atom}
use Rattle.flow_graph.specs.declared.graph.Graph.{Graph}
use Rattle.flow_graph.specs.Columns.{rows_name_only, is_entry_column}
use Rattle.flow_graph.specs.Linked.{AreGraphs, takes}
use Rattle.summary_form.specs.declared.query.Query.{Query}
use Rattle.summary_form.specs.declared.query.ExitKind.{ExitKind}
use Rattle.summary_form.specs.Instances.{arity_of, arity_in}
use Rattle.summary_form.specs.NotMays.{Fits, is_end_column}
use Rattle.summary_form.specs.Runs.{Arity}
use Rattle.may_partition.specs.declared.region.RegionEdge.{RegionEdge}
use Rattle.call_bridge.specs.Asked.{query_of, start_of, end_of}
use Rattle.call_bridge.proofs.Queries.{asked_fits}
use Rattle.infeasible_cert.specs.declared.certificate.Certificate.{Certificate}
use Rattle.summary_form.specs.declared.summary.Summary.{Summary}
use Rattle.query_rules.specs.Legal.{IsWeaker, MayAsk}
use Rattle.query_rules.specs.Rows.{AsksAt, CallAt}
use Rattle.query_rules.specs.Steps.{Model}
use Rattle.query_rules.proofs.Reaching.{Good, fits_call}

abbrev with_values : (entries exits : ℕ) → Arity
with_values n m = record { entries = n; exits = m }

taken : (o : Option Graph) (n m : ℕ) → IsTrue (takes o n m) → (callee : Graph) × (o ≡ Some callee)
taken None n m t = absurd cc
taken (Some callee) n m t = (callee, refl)

same_arity : (o : Option Graph) (n m : ℕ) → IsTrue (takes o n m) → with_values n m ≡ arity_of o
same_arity None n m t = absurd cc
same_arity (Some callee) n m t =
    let r = both (callee.params == n) (callee.exits == m) t in
    ap (λ k. with_values k m) (sym (eqb-true callee.params n r.0)) ∙ ap (with_values callee.params) (sym (eqb-true callee.exits m r.1))

-- a query with the procedure, the exit, the start and the end of one that fits
same_fits : (p : ℕ) (a : Arity) (exit : ExitKind) (rows : List Atom) (q : Query) → q.exit ≡ exit → q.start.atoms ≡ start_of rows →
    q.end.atoms ≡ end_of rows → Fits p a (query_of p exit rows) → Fits q.proc a q
same_fits p a exit rows q x s e f = record {
  of_procedure = refl;
  start_names = subst (λ (atoms : List Atom). IsTrue (rows_name_only (is_entry_column a.entries) atoms)) (sym s) f.start_names;
  end_names = subst (λ (atoms : List Atom). IsTrue (rows_name_only (is_end_column a q.exit) atoms)) (sym e)
      (subst (λ (k : ExitKind). IsTrue (rows_name_only (is_end_column a k) (end_of rows))) (sym x) f.end_names);
  start_terms = subst (λ (atoms : List Atom). IsTrue (are_terms atoms)) (sym s) f.start_terms;
  end_terms = subst (λ (atoms : List Atom). IsTrue (are_terms atoms)) (sym e) f.end_terms;
}

-- the arity of the called procedure
callee_arity : (gs : List Graph) (linked : AreGraphs gs) (g : Graph) (m : Model) → Good gs linked g m → (k : RegionEdge) →
    (c : CallAt g m k) → (p : ℕ) → p ≡ c.site.procedure →
    with_values (length c.site.arguments) (length c.site.results) ≡ arity_in gs p
callee_arity gs linked g m h k c p same =
    same_arity (slice_get gs c.site.procedure) (length c.site.arguments) (length c.site.results)
    (linked m.query.proc g h.at k.edge c.from c.to c.site (c.between.at_edge ∙ ap Some c.is_call)) ∙ ap (arity_in gs) (sym same)

pub asks_fitting : (gs : List Graph) (linked : AreGraphs gs) (g : Graph) (m : Model) → Good gs linked g m → (k : RegionEdge) →
    IsTrue (m.parted.live k) → (q : Query) → AsksAt g m k q →
    (callee : Graph) × (slice_get gs q.proc ≡ Some callee) × Fits q.proc (arity_in gs q.proc) q
asks_fitting gs linked g m h k live q a =
    let c = a.call in
    let t : IsTrue (takes (slice_get gs c.site.procedure) (length c.site.arguments) (length c.site.results)) = linked m.query.proc g h.at
    k.edge c.from c.to c.site
    (c.between.at_edge ∙ ap Some c.is_call) in
    let callee = taken (slice_get gs c.site.procedure) (length c.site.arguments) (length c.site.results) t in
    let arity = callee_arity gs linked g m h k c q.proc a.of_procedure in (
      callee.0,
      ap (slice_get gs) a.of_procedure ∙ callee.1,
      same_fits c.site.procedure (arity_in gs q.proc) c.exit a.rows q a.of_exit a.start a.end
          (subst (λ (n : Arity). Fits c.site.procedure n (query_of c.site.procedure c.exit a.rows)) arity
          (asked_fits c.site.procedure c.exit c.site c.between.source.cube.atoms c.between.target.cube.atoms a.rows a.pair
          (fits_call gs linked g m h k live c) a.is_asked)),
    )

-- a weaker query is of the same procedure, and fits it by itself
weaker_fits : (gs : List Graph) (linked : AreGraphs gs) (g : Graph) (m : Model) → Good gs linked g m → (k : RegionEdge) →
    IsTrue (m.parted.live k) → (asked q : Query) (follows : List Certificate) (a : AsksAt g m k asked) →
    IsWeaker a.call.site asked q follows →
    (callee : Graph) × (slice_get gs q.proc ≡ Some callee) × Fits q.proc (arity_in gs q.proc) q
weaker_fits gs linked g m h k live asked q follows a w =
    let f = asks_fitting gs linked g m h k live asked a in
    let of_call : q.proc ≡ a.call.site.procedure = w.entails.same_procedure ∙ a.of_procedure in (
      f.0,
      ap (slice_get gs) w.entails.same_procedure ∙ f.1,
      subst (λ (n : Arity). Fits q.proc n q) (callee_arity gs linked g m h k a.call q.proc of_call) w.fits,
    )

pub may_fit : (gs : List Graph) (linked : AreGraphs gs) (g : Graph) (m : Model) → Good gs linked g m → (k : RegionEdge) →
    IsTrue (m.parted.live k) → (table : List Summary) (q : Query) (follows : List Certificate) (seen : ℕ) →
    MayAsk g table m k q follows seen →
    (callee : Graph) × (slice_get gs q.proc ≡ Some callee) × Fits q.proc (arity_in gs q.proc) q
may_fit gs linked g m h k live table q follows seen l = ⊎_elim
    (λ same. subst (λ (x : Query). (callee : Graph) × (slice_get gs x.proc ≡ Some callee) × Fits x.proc (arity_in gs x.proc) x) (sym same.0)
    (asks_fitting gs linked g m h k live l.asked l.asks))
    (λ weak. weaker_fits gs linked g m h k live l.asked q follows l.asks weak) l.follow

-- it is of the asked query's exit kind
pub may_exit : (g : Graph) (table : List Summary) (m : Model) (k : RegionEdge) (q : Query) (follows : List Certificate) (seen : ℕ) →
    (l : MayAsk g table m k q follows seen) → q.exit ≡ l.asked.exit
may_exit g table m k q follows seen l =
    ⊎_elim (λ same. ap (λ (x : Query). x.exit) same.0) (λ weak. weak.entails.same_exit) l.follow
