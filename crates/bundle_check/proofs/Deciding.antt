-- What the checks of edges and of their regions say of every partition that is shown so.
use Rattle.std.proofs.Common.{◌≡◌, ◌≢◌, ◌↔◌, ℕ, List, [], ◌++◌, Option, Some, None, Bool, true, false, refl, sym, subst, ap, ◌∙◌}
use Rattle.std.specs.Prelude.{slice_get, IsTrue}
use Rattle.std.specs.List.{list_all}
use Rattle.std.proofs.lemmas.Option.{same_Some}
use Rattle.linear_formula.specs.LinearSum.{LinearSum}
use Rattle.linear_formula.specs.declared.formula.Atom.{Atom}
use Rattle.linear_formula.specs.declared.formula.Cube.{Cube}
use Rattle.infeasible_cert.specs.Refutation.{Refutation}
use Rattle.shadow_elim.specs.Projection.{gives}
use Rattle.flow_graph.specs.declared.graph.Graph.{Graph}
use Rattle.flow_graph.specs.declared.graph.Edge.{Edge}
use Rattle.flow_graph.specs.Shapes.{is_call}
use Rattle.weakest_pre.specs.Preimage.{preimage}
use Rattle.query_rules.specs.Rows.{IsPreimage}
use Rattle.may_partition.specs.declared.region.Region.{Region}
use Rattle.may_partition.specs.declared.region.RegionEdge.{RegionEdge}
use Rattle.may_partition.specs.Parted.{Parted}
use Rattle.may_partition.specs.Shown.{Shown, Shows, is_live}
use Rattle.bundle_check.specs.RightClaims.{Between, HasPreimage, IsRefutedBy, Kills, SplitsByPreimage, is_among}
use Rattle.bundle_check.specs.steps.Checks.{Decides}
use Rattle.bundle_check.specs.steps.Places.{IfPreimage, IsPlace}

pub untrue : IsTrue false → ⊥
untrue t = cc

-- false where it holds of nothing that is shown
pub never : (s : Shown) (P : Parted → Type 0) → ((p : Parted) → Shows s p → P p → ⊥) → Decides s P false
never s P none p sh = ((λ t. absurd (untrue t)), (λ h. absurd (none p sh h)))

-- the partition that is shown
abbrev pub parted_of : Shown → Parted
parted_of s = record { regions = s.regions; live = is_live s.edges; killed = λ k. false }

pub shows_own : (s : Shown) → Shows s (parted_of s)
shows_own s = record { regions = refl; live = λ k. refl }

pub same_rows : (rows more : List Atom) (pair other : Option (ℕ × (LinearSum × LinearSum))) → gives rows pair ≡ gives more other →
    rows ≡ more
same_rows rows more pair other e = cc

module _ (g : Graph) (s : Shown) (k : RegionEdge) (p : Parted) (sh : Shows s p) where
  pub alive : is_live s.edges k ≡ true → IsTrue (p.live k)
  alive e = sym (sh.live k) ∙ e

  pub region_there : (n : ℕ) (r : Region) → slice_get s.regions n ≡ Some r → slice_get p.regions n ≡ Some r
  region_there n r e = ap (λ rs. slice_get rs n) (sym sh.regions) ∙ e

  region_shown : (n : ℕ) (r : Region) → slice_get p.regions n ≡ Some r → slice_get s.regions n ≡ Some r
  region_shown n r e = ap (λ rs. slice_get rs n) sh.regions ∙ e

  module _ (edge : Edge) (source target : Region) (at : IsPlace g s k edge source target) where
    abbrev pub between : Between g p k
    between = record {
      edge = edge;
      source = source;
      target = target;
      at_edge = at.at_edge;
      at_source = region_there k.from source at.at_source;
      at_target = region_there k.to target at.at_target;
    }

    pub same_edge_of : (b : Between g p k) → b.edge ≡ edge
    same_edge_of b = same_Some b.edge edge (sym b.at_edge ∙ at.at_edge)

    pub same_source : (b : Between g p k) → b.source ≡ source
    same_source b = same_Some b.source source (sym (region_shown k.from b.source b.at_source) ∙ at.at_source)

    pub same_target : (b : Between g p k) → b.target ≡ target
    same_target b = same_Some b.target target (sym (region_shown k.to b.target b.at_target) ∙ at.at_target)

    -- of what is shown the preimage is that of this edge and this target
    its_preimage : (h : HasPreimage g p k) → (is_call edge ≡ false) × IsPreimage edge target.cube.atoms h.rows
    its_preimage h =
        let e = same_edge_of h.between in
        let t = same_target h.between in (
          sym (ap is_call e) ∙ h.plain,
          (h.pair, (λ i. preimage (sym e i) (sym t i).cube.atoms) ∙ h.is_pre),
        )

    pub no_preimage : IfPreimage edge target.cube.atoms None → HasPreimage g p k → ⊥
    no_preimage none h = let w = its_preimage h in none h.rows w.0 w.1

    module _ (before : Cube) (is : IfPreimage edge target.cube.atoms (Some before)) where
      abbrev pub has_preimage : HasPreimage g p k
      has_preimage = record {
        between = between;
        plain = is.0;
        rows = before.atoms;
        pair = is.1.0;
        is_pre = is.1.1;
      }

      pub preimage_rows : (h : HasPreimage g p k) → h.rows ≡ before.atoms
      preimage_rows h =
          let w = (its_preimage h).1 in same_rows h.rows before.atoms w.0 is.1.0 (sym w.1 ∙ is.1.1)

-- Kills

module _ (g : Graph) (s : Shown) (k : RegionEdge) (c : Refutation) where
  abbrev Kill : Parted → Type 0
  Kill p = Kills g p k c

  module _ (edge : Edge) (source target : Region) (at : IsPlace g s k edge source target) where
    pub no_kill_refused : IfPreimage edge target.cube.atoms None → Decides s (λ p. Kills g p k c) false
    no_kill_refused none = never s Kill (λ p sh h. no_preimage g s k p sh edge source target at none h.pre)

    pub kill_decided : is_live s.edges k ≡ true → (before : Cube) → IfPreimage edge target.cube.atoms (Some before) → (r : Bool) →
        (IsTrue r ↔ IsRefutedBy (source.cube.atoms ++ before.atoms) c) → Decides s (λ p. Kills g p k c) r
    kill_decided live before is r refuted p sh = (
      λ t. record {
        live = alive g s k p sh live;
        pre = has_preimage g s k p sh edge source target at before is;
        refuted = refuted.0 t;
      },
      λ h.
          let a = same_source g s k p sh edge source target at h.pre.between in
          let b = preimage_rows g s k p sh edge source target at before is h.pre in
          refuted.1 (subst (λ xs. IsRefutedBy xs c) (λ i. (a i).cube.atoms ++ b i) h.refuted),
    )

-- Splits of the first kind

module _ (g : Graph) (s : Shown) (k : RegionEdge) (atoms : List Atom) where
  abbrev Split : Parted → Type 0
  Split p = SplitsByPreimage g p k atoms

  module _ (edge : Edge) (source target : Region) (at : IsPlace g s k edge source target) where
    pub no_split_refused : IfPreimage edge target.cube.atoms None → Decides s (λ p. SplitsByPreimage g p k atoms) false
    no_split_refused none = never s Split (λ p sh h. no_preimage g s k p sh edge source target at none h.pre)

    pub split_decided : is_live s.edges k ≡ true → k.from ≢ 0 → atoms ≢ [] → (before : Cube) →
        IfPreimage edge target.cube.atoms (Some before) → (r : Bool) → r ≡ list_all (is_among before.atoms) atoms →
        Decides s (λ p. SplitsByPreimage g p k atoms) r
    split_decided live inner several before is r same p sh = (
      λ t. record {
        live = alive g s k p sh live;
        pre = has_preimage g s k p sh edge source target at before is;
        inner = inner;
        several = several;
        each = sym same ∙ t;
      },
      λ h.
          let b = preimage_rows g s k p sh edge source target at before is h.pre in
          same ∙ subst (λ rows. IsTrue (list_all (is_among rows) atoms)) b h.each,
    )
