-- A call asks one query, and which claims answer it.
use Rattle.std.proofs.Common.{◌≡◌, ◌↔◌, ℕ, List, map, Some, Bool, true, false, sym, subst, ap, ◌∙◌}
use Rattle.std.specs.Prelude.{slice_get, IsTrue}
use Rattle.std.specs.Option.{option_map}
use Rattle.std.proofs.lemmas.Option.{same_Some, slice_get-map}
use Rattle.infeasible_cert.specs.Refutation.{Refutation}
use Rattle.flow_graph.specs.Calls.{call_site}
use Rattle.flow_graph.specs.declared.graph.Graph.{Graph}
use Rattle.summary_form.specs.declared.query.ExitKind.{ExitKind}
use Rattle.summary_form.specs.declared.query.Query.{Query}
use Rattle.may_partition.specs.declared.region.Region.{Region}
use Rattle.may_partition.specs.declared.region.RegionEdge.{RegionEdge}
use Rattle.may_partition.specs.Parted.{Parted}
use Rattle.may_partition.specs.Shown.{Shown, is_live}
use Rattle.call_bridge.specs.Asked.{asked, query_of}
use Rattle.query_rules.specs.Rows.{call_exit}
use Rattle.proof_bundle.specs.Claims.{PureClaim, claim_of}
use Rattle.proof_bundle.specs.declared.bundle.Claim.{Claim}
use Rattle.bundle_check.specs.RightClaims.{HasAsked, KillsCall, asked_query, queries_of}
use Rattle.bundle_check.specs.steps.Checks.{Decides, IsAnswered}
use Rattle.bundle_check.specs.steps.Places.{Asks, AsksNone}
use Rattle.bundle_check.proofs.Deciding.{alive, never, same_rows}

-- One query

pub asked_same : (g : Graph) (exit : ExitKind) (p : Parted) (k : RegionEdge) (a b : HasAsked g exit p k) → asked_query a ≡ asked_query b
asked_same g exit p k a b =
    let x = a.between in
    let y = b.between in
    let edge : x.edge ≡ y.edge = same_Some x.edge y.edge (sym x.at_edge ∙ y.at_edge) in
    let source : x.source ≡ y.source = same_Some x.source y.source (sym x.at_source ∙ y.at_source) in
    let target : x.target ≡ y.target = same_Some x.target y.target (sym x.at_target ∙ y.at_target) in
    let call = sym a.is_call ∙ (edge ∙ b.is_call) in
    let site : a.site ≡ b.site = ap call_site call in
    let kind : a.kind ≡ b.kind = same_Some a.kind b.kind (sym a.is_kind ∙ ap (λ (r : Region). call_exit g.fail exit r.node) target
    ∙ b.is_kind) in
    let same : a.rows ≡ b.rows = same_rows a.rows b.rows a.pair b.pair (sym a.is_asked ∙ (λ i. asked (kind i) (site i)
    (source i).cube.atoms (target i).cube.atoms) ∙ b.is_asked) in
    λ i. query_of (site i).procedure (kind i) (same i)

-- the query of a claim by its number
pub query_of_claim : (claims : List Claim) (n : ℕ) (x : Claim) → slice_get claims n ≡ Some x →
    slice_get (queries_of (map claim_of claims)) n ≡ Some x.query
query_of_claim claims n x e =
    slice_get-map (λ (c : PureClaim). c.query) (map claim_of claims) n ∙ ap (option_map (λ (c : PureClaim). c.query))
    (slice_get-map claim_of claims n ∙ ap (option_map claim_of) e)

-- Kills by claims

module _ (g : Graph) (exit : ExitKind) (claims : List Query) (s : Shown) (k : RegionEdge) (number : ℕ) (cs : List Refutation) where
  abbrev Kill : Parted → Type 0
  Kill p = KillsCall g exit claims p k number cs

  pub no_call_asked : AsksNone g exit s k → Decides s (λ p. KillsCall g exit claims p k number cs) false
  no_call_asked none = never s Kill (λ p sh h. none p sh h.asks)

  pub call_decided : is_live s.edges k ≡ true → (q : Query) → Asks g exit s k q → (claim : Query) → slice_get claims number ≡ Some claim →
      (r : Bool) → (IsTrue r ↔ IsAnswered q claim cs) → Decides s (λ p. KillsCall g exit claims p k number cs) r
  call_decided live q asks claim there r answered p sh = (to_kill, from_kill) where
    a : HasAsked g exit p k
    a = (asks p sh).0

    is : asked_query a ≡ q
    is = (asks p sh).1

    to_kill : IsTrue r → KillsCall g exit claims p k number cs
    to_kill t =
        let w = subst (λ x. IsAnswered x claim cs) (sym is) (answered.0 t) in
        record {
          live = alive g s k p sh live;
          asks = a;
          claim = claim;
          there = there;
          of_procedure = w.of_procedure;
          of_exit = w.of_exit;
          shown = w.shown;
        }

    from_kill : KillsCall g exit claims p k number cs → IsTrue r
    from_kill h =
        let its = same_Some h.claim claim (sym h.there ∙ there) in
        let same : asked_query h.asks ≡ q = asked_same g exit p k h.asks a ∙ is in
        let w : IsAnswered (asked_query h.asks) h.claim cs = record {
          of_procedure = h.of_procedure;
          of_exit = h.of_exit;
          shown = h.shown;
        } in
        answered.1 (subst (λ x. IsAnswered x claim cs) same (subst (λ x. IsAnswered (asked_query h.asks) x cs) its w))
