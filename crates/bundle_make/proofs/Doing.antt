-- What steps do with whatever partition is shown.
use Rattle.std.proofs.Common.{◌≡◌, ℕ, List, [], ◌∷◌, ◌++◌, length, map, Bool, true, false, Some, refl, sym, subst, ap, ◌∙◌}
use Rattle.std.specs.Prelude.{slice_get}
use Rattle.std.proofs.lemmas.List.{append-nil}
use Rattle.std.proofs.lemmas.Option.{same_Some}
use Rattle.linear_formula.specs.declared.formula.Atom.{Atom}
use Rattle.infeasible_cert.specs.Refutation.{Refutation, refutation_of}
use Rattle.infeasible_cert.specs.declared.certificate.Certificate.{Certificate}
use Rattle.flow_graph.specs.declared.graph.Graph.{Graph}
use Rattle.summary_form.specs.declared.query.Query.{Query}
use Rattle.may_partition.specs.declared.region.Region.{Region}
use Rattle.may_partition.specs.declared.region.RegionEdge.{RegionEdge}
use Rattle.may_partition.specs.Parted.{Parted, kill_edge}
use Rattle.may_partition.specs.Shown.{Shown, Shows, is_live}
use Rattle.query_rules.specs.Rows.{rows_of_query}
use Rattle.query_rules.specs.Seen.{Seen}
use Rattle.query_rules.specs.declared.step.Asked.{Asked}
use Rattle.query_rules.specs.declared.step.Killer.TheVariants as killer
use Rattle.query_rules.specs.declared.step.Step.{Step}
use Rattle.query_rules.specs.declared.step.Step.TheVariants as step
use Rattle.query_rules.specs.Steps.{uncut}
use Rattle.bolt_core.specs.Boards as boards
use Rattle.bolt_core.specs.Groups.{Node}
use Rattle.bolt_core.specs.Leads.{IsClaimable}
use Rattle.proof_bundle.specs.Claims.{PureMove, kill, kill_call, move_of, split}
use Rattle.proof_bundle.specs.declared.bundle.Move.{Move}
use Rattle.bundle_check.specs.RightClaims.{HasAsked, asked_query, moved, moved_all}
use Rattle.bundle_check.specs.Walked.{MakesCall, kept, split_moves}
use Rattle.bundle_make.specs.steps.Killing.{is_killed}
use Rattle.bundle_make.specs.steps.Making.{AskMade, CallMade, Does, HasEntry, KillMade, StepMade}

clash : true ≡ false → ⊥
clash e = cc

-- the same is shown, of which nothing is made
pub idle : (s : Shown) (P : Parted → List PureMove → Type 0) → ((p : Parted) → Shows s p → P p []) → Does s s P []
idle s P f = record { makes = f; shows = λ p sh. sh }

module _ (old : Shown) (k : RegionEdge) (p : Parted) (sh : Shows old p) where
  not_live : is_live old.edges k ≡ false → p.live k ≡ true → ⊥
  not_live dead live = clash (sym live ∙ (sym (sh.live k) ∙ dead))

  not_dead : is_live old.edges k ≡ true → p.live k ≡ false → ⊥
  not_dead live dead = clash (sym live ∙ (sh.live k ∙ dead))

module _ (b : boards.Shown) (ids : List ℕ) (s : Seen) (g : Graph) (killed : List Bool) where
  -- Calls

  module _ (target : ℕ) (k : RegionEdge) (proof : List Certificate) (old : Shown) where
    pub call_dead : is_live old.edges k ≡ false → Does old old (CallMade b ids s g killed target k proof) []
    call_dead dead = idle old (CallMade b ids s g killed target k proof)
        (λ p sh claims asked n at. ((λ e. refl), (λ live. absurd (not_live old k p sh dead live))))

    pub call_done : is_live old.edges k ≡ true → (new : Shown) → ((p : Parted) → Shows old p → Shows new (kill_edge k p)) → (claim : ℕ) →
        slice_get ids claim ≡ Some target → (node : Node) → slice_get b.core.nodes target ≡ Some node → (cs : List Refutation) →
        ((p : Parted) → Shows old p → (h : HasAsked g s.query.exit p k)
        × (cs ≡ kept (rows_of_query (asked_query h)) (rows_of_query node.query) proof)) →
        Does old new (CallMade b ids s g killed target k proof) (kill_call k claim cs ∷ [])
    call_done live new shows claim listed node at cs over = record {
      makes = λ p sh claims asked n there.
          let w = over p sh in
          let same : node ≡ n = same_Some node n (sym at ∙ there) in (
            λ dead. absurd (not_dead old k p sh live dead),
            λ alive. (
              w.0,
              claim,
              asked claim target n listed there,
              ap (λ ds. kill_call k claim ds ∷ [])
                  (w.1 ∙ ap (λ (x : Node). kept (rows_of_query (asked_query w.0)) (rows_of_query x.query) proof) same),
            ),
          );
      shows = shows;
    }

  -- Asks

  module _ (entry : ℕ) (k : RegionEdge) (follows : List Certificate) (old : Shown) where
    pub ask_idle : is_killed killed entry ≡ false → Does old old (AskMade b ids s g killed entry k follows) []
    ask_idle is = idle old (AskMade b ids s g killed entry k follows)
        (λ p sh claims asked x at. ((λ e. refl), (λ e. absurd (clash (sym e ∙ is)))))

    abbrev Called : Parted → List Query → List PureMove → Query → Type 0
    Called p claims one q = MakesCall g s.query.exit p b.core.table (s.ancestors ++ s.query ∷ []) claims (is_killed killed) q k follows one

    -- by the claim of its child
    pub ask_called : is_killed killed entry ≡ true → (x : Asked) → slice_get s.asked entry ≡ Some x → IsClaimable b x.child x.query →
        (new : Shown) (one : List PureMove) → Does old new (CallMade b ids s g killed x.child k follows) one →
        Does old new (AskMade b ids s g killed entry k follows) one
    ask_called is x at c new one d = record {
      makes = λ p sh claims asked y there.
          let same : x ≡ y = same_Some x y (sym at ∙ there) in
          let query : c.node.query ≡ y.query = c.asks ∙ ap (λ (e : Asked). e.query) same in (
            λ e. absurd (clash (sym is ∙ e)),
            λ e. subst (Called p claims one) query (d.makes p sh claims asked c.node c.at),
          );
      shows = d.shows;
    }

    pub ask_step : (new : Shown) (one : List PureMove) (q : Query) (seen : ℕ) → HasEntry s.asked (step.Ask k q follows seen) entry →
        Does old new (AskMade b ids s g killed entry k follows) one →
        Does old new (StepMade b ids s g killed (step.Ask k q follows seen) entry) one
    ask_step new one q seen has d = record {
      makes = λ p sh claims asked.
          let w = d.makes p sh claims asked has.0 has.1 in (
            w.0,
            λ e. subst (Called p claims one) has.2 (w.1 e),
          );
      shows = d.shows;
    }

  -- Splits

  pub split_step : (old new : Shown) (k : RegionEdge) (atoms : List Atom) (follows proofs : List Certificate) (entry : ℕ) →
      ((p : Parted) → Shows old p → Shows new (moved_all (split_moves (length old.regions) k atoms follows) p)) →
      Does old new (StepMade b ids s g killed (step.Split k atoms follows proofs) entry) (split_moves (length old.regions) k atoms follows)
  split_step old new k atoms follows proofs entry shows = record {
    makes = λ p sh claims asked. ap (λ (rs : List Region). split_moves (length rs) k atoms follows) sh.regions;
    shows = shows;
  }

  -- Kills by certificates

  pub kill_done : (old new : Shown) (k : RegionEdge) (c : Certificate) → ((p : Parted) → Shows old p → Shows new (kill_edge k p)) →
      (made : PureMove) → made ≡ kill k (refutation_of c) → Does old new (KillMade b ids s g killed (killer.Certificate c) k) (made ∷ [])
  kill_done old new k c shows made is = record {
    makes = λ p sh claims asked. ap (λ x. x ∷ []) is;
    shows = λ p sh. subst (λ x. Shows new (moved x p)) (sym is) (shows p sh);
  }

  -- What a step puts after the moves before it

  abbrev pub Puts : List Move → List Move → Shown → Shown → Step → ℕ → Type 0
  Puts olds news old new t entry =
      (one : List PureMove) × (map move_of news ≡ map move_of olds ++ one) × Does old new (StepMade b ids s g killed t entry) one

  module _ (olds news : List Move) (old new : Shown) (u t : Step) (is : u ≡ t) (entry : ℕ) where
    pub puts_made : (one : List PureMove) → map move_of news ≡ map move_of olds ++ one →
        Does old new (StepMade b ids s g killed t entry) one → Puts olds news old new u entry
    puts_made one e d = subst (λ x. Puts olds news old new x entry) (sym is) (one, e, d)

    -- a split of a region
    pub puts_split : (k : RegionEdge) (atoms : List Atom) (e : RegionEdge) → e ≡ uncut k →
        ((p : Parted) → StepMade b ids s g killed t entry p (split (uncut k) atoms ∷ [])) →
        map move_of news ≡ map move_of olds ++ split_moves (length old.regions) e atoms [] →
        ((p : Parted) → Shows old p → Shows new (moved_all (split_moves (length old.regions) e atoms []) p)) →
        Puts olds news old new u entry
    puts_split k atoms e same makes made shows =
        puts_made (split (uncut k) atoms ∷ [])
        (subst (λ x. map move_of news ≡ map move_of olds ++ split_moves (length old.regions) x atoms []) same made)
        (record {
          makes = λ p sh. makes p;
          shows = subst (λ x. (p : Parted) → Shows old p → Shows new (moved_all (split_moves (length old.regions) x atoms []) p)) same
              shows;
        })

  pub puts_none : (olds : List Move) (old : Shown) (u t : Step) → u ≡ t → (entry : ℕ) →
      ((p : Parted) → StepMade b ids s g killed t entry p []) → Puts olds olds old old u entry
  puts_none olds old u t is entry makes =
      puts_made olds olds old old u t is entry [] (sym (append-nil (map move_of olds)))
      (idle old (StepMade b ids s g killed t entry) (λ p sh. makes p))
