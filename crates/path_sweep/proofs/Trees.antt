-- The path tree: fronts of feasible paths are feasible, and a path has one state by terms.
use Rattle.std.proofs.Common.{◌≡◌, ◌≢◌, ℕ, List, [], ◌∷◌, ◌++◌, map, ℤ, refl, sym, subst, ap, ◌∙◌, append_assoc}
use Rattle.std.proofs.lemmas.Option.{same_Some}
use Rattle.c_tree.specs.Meaning.{State}
use Rattle.flow_graph.specs.declared.graph.Graph.{Graph}
use Rattle.flow_graph.specs.declared.graph.Edge.{Edge}
use Rattle.flow_graph.specs.declared.graph.Edge.TheVariants.{Entry, Assign, Guard, Input, Pick, Call, Assert, Return}
use Rattle.flow_graph.specs.Runs.{Place, Step, GraphRun}
use Rattle.flow_graph.proofs.Uses.{Uses, step_cut, run_cut}
use Rattle.linear_formula.specs.LinearSum.{LinearSum}
use Rattle.shadow_elim.specs.declared.sum.Sum.{Sum}
use Rattle.path_sweep.specs.Executions.{Caller, Standing, entering, running, ended, standing_at, OverEdge, Over, Takes, IsFeasible}
use Rattle.path_sweep.specs.Guards.{Waiting, Stage, enters, runs, gave, fails, Walked, opened, FollowsEdge, FollowsAt, Follows, ComesTo}
use Rattle.path_sweep.proofs.Bounds.{Begins}

-- Inputs that are left follow those that are used
module _ (gs : List Graph) where
  plain_cut : (g : Graph) (cs : List Caller) (e : Edge) (s : State) (b : Standing) (ins rest : List ℤ) →
      (place : Place) × Step (GraphRun [] 0) e s ins place rest × (b ≡ standing_at g cs place) →
      Uses (λ i r. (place : Place) × Step (GraphRun [] 0) e s i place r × (b ≡ standing_at g cs place)) ins rest
  plain_cut g cs e s b ins rest h =
      let u = step_cut (GraphRun [] 0) (run_cut [] 0) e s ins rest h.0 h.1 in
      record { used = u.used; split = u.split; again = λ more. (h.0, u.again more, h.2) }

  edge_cut : (g : Graph) (cs : List Caller) (e : Edge) (s : State) (b : Standing) (ins rest : List ℤ) → OverEdge gs g cs e s ins b rest →
      Uses (λ i r. OverEdge gs g cs e s i b r) ins rest
  edge_cut g cs (Entry to params) s b ins rest h = plain_cut g cs (Entry to params) s b ins rest h
  edge_cut g cs (Assign from to slot value) s b ins rest h = plain_cut g cs (Assign from to slot value) s b ins rest h
  edge_cut g cs (Guard from to rows) s b ins rest h = plain_cut g cs (Guard from to rows) s b ins rest h
  edge_cut g cs (Input from to slot) s b ins rest h = plain_cut g cs (Input from to slot) s b ins rest h
  edge_cut g cs (Pick from to slot rows) s b ins rest h = plain_cut g cs (Pick from to slot rows) s b ins rest h
  edge_cut g cs (Assert from to id rows) s b ins rest h = plain_cut g cs (Assert from to id rows) s b ins rest h
  edge_cut g cs (Return from to slots) s b ins rest h = plain_cut g cs (Return from to slots) s b ins rest h
  edge_cut g cs (Call from to proc args results) s b ins rest h =
      record { used = []; split = sym h.3; again = λ more. (h.0, h.1, h.2, refl) }

  over_cut : (i : ℕ) (a b : Standing) (ins rest : List ℤ) → Over gs i a ins b rest → Uses (λ x r. Over gs i a x b r) ins rest
  over_cut i (entering g args cs) b ins rest h =
      record { used = []; split = sym h.5; again = λ more. (h.0, h.1, h.2, h.3, h.4, refl) }
  over_cut i (running g n s cs) b ins rest h =
      let u = edge_cut g cs h.0 s b ins rest h.3 in
      record { used = u.used; split = u.split; again = λ more. (h.0, h.1, h.2, u.again more) }
  over_cut i (ended e) b ins rest h = absurd h

  takes_cut : (path : List ℕ) (a b : Standing) (ins rest : List ℤ) → Takes gs path a ins b rest → Uses (λ x r. Takes gs path a x b r) ins
      rest
  takes_cut [] a b ins rest h = record { used = []; split = sym h.1; again = λ more. (h.0, refl) }
  takes_cut (i ∷ path) a b ins rest h =
      let m = over_cut i a h.0 ins h.1 h.2 in
      let n = takes_cut path h.0 b h.1 rest h.3 in
      record {
        used = m.used ++ n.used;
        split = m.split ∙ ap (λ l. m.used ++ l) n.split ∙ sym (append_assoc m.used n.used rest);
        again = λ more. (
          h.0,
          n.used ++ more,
          subst (λ x. Over gs i a x h.0 (n.used ++ more)) (sym (append_assoc m.used n.used more))
              (m.again (n.used ++ more)),
          n.again more,
        );
      }

  record Front (xs : List ℕ) (a : Standing) (ins : List ℤ) : Type 0 where
    pub to : Standing
    pub rest : List ℤ
    pub takes : Takes gs xs a ins to rest

  takes_front : (xs ys : List ℕ) (a b : Standing) (ins rest : List ℤ) → Takes gs (xs ++ ys) a ins b rest → Front xs a ins
  takes_front [] ys a b ins rest h = record { to = a; rest = ins; takes = (refl, refl) }
  takes_front (x ∷ xs) ys a b ins rest h =
      let f = takes_front xs ys h.0 b h.1 rest h.3 in
      record { to = f.to; rest = f.rest; takes = (h.0, h.1, h.2, f.takes) }

  -- The tree

  pub not_empty : (p : List ℕ) (i : ℕ) → (p ++ i ∷ []) ≢ []
  not_empty [] i e = cc
  not_empty (j ∷ p) i e = cc

  pub fronts : (main : ℕ) (p : List ℕ) (i : ℕ) (q : List ℕ) → Begins (p ++ i ∷ []) q → IsFeasible gs main q →
      IsFeasible gs main (p ++ i ∷ [])
  fronts main p i q b f =
      let t = subst (λ r. Takes gs r (entering f.taken.graph [] []) f.ins f.to []) b.is f.taken.takes in
      let front = takes_front (p ++ i ∷ []) b.more (entering f.taken.graph [] []) f.to f.ins [] t in
      let cut = takes_cut (p ++ i ∷ []) (entering f.taken.graph [] []) front.to f.ins front.rest front.takes in
      record {
        some = not_empty p i;
        ins = cut.used ++ [];
        to = front.to;
        taken = record { graph = f.taken.graph; at = f.taken.at; takes = cut.again [] };
      }

  pub any_front : (main : ℕ) (xs ys : List ℕ) → xs ≢ [] → IsFeasible gs main (xs ++ ys) → IsFeasible gs main xs
  any_front main xs ys some f =
      let front = takes_front xs ys (entering f.taken.graph [] []) f.to f.ins [] f.taken.takes in
      let cut = takes_cut xs (entering f.taken.graph [] []) front.to f.ins front.rest front.takes in
      record {
        some = some;
        ins = cut.used ++ [];
        to = front.to;
        taken = record { graph = f.taken.graph; at = f.taken.at; takes = cut.again [] };
      }

  pub begins_with : (main : ℕ) (p : List ℕ) → IsFeasible gs main p → Begins (0 ∷ []) p
  begins_with main [] f = absurd (f.some refl)
  begins_with main (i ∷ p) f = record { more = p; is = ap (λ n. n ∷ p) f.taken.takes.2.0 }

  -- its state is one
  edge_one : (w : Walked) (g : Graph) (node : ℕ) (slots entry : List LinearSum) (ws : List Waiting) (e : Edge) (sums sums' : List Sum)
      (x y : Walked) → FollowsEdge gs w g node slots entry ws e sums x → FollowsEdge gs w g node slots entry ws e sums' y →
      (sums ≡ sums') × (x ≡ y)
  edge_one w g node slots entry ws (Entry to params) sums sums' x y h k = (h.0 ∙ sym k.0, h.1 ∙ sym k.1)
  edge_one w g node slots entry ws (Assign from to slot value) sums sums' x y h k = (h.0 ∙ sym k.0, h.1 ∙ sym k.1)
  edge_one w g node slots entry ws (Guard from to rows) sums sums' x y h k = (h.0 ∙ sym k.0, h.1 ∙ sym k.1)
  edge_one w g node slots entry ws (Input from to slot) sums sums' x y h k = (h.0 ∙ sym k.0, h.1 ∙ sym k.1)
  edge_one w g node slots entry ws (Pick from to slot rows) sums sums' x y h k = (h.0 ∙ sym k.0, h.1 ∙ sym k.1)
  edge_one w g node slots entry ws (Assert from to id rows) sums sums' x y h k = (h.0 ∙ sym k.0, h.1 ∙ sym k.1)
  edge_one w g node slots entry ws (Return from to returned) sums sums' x y h k = (h.0 ∙ sym k.0, h.1 ∙ sym k.1)
  edge_one w g node slots entry ws (Call from to proc args results) sums sums' x y h k =
      let one : h.0 ≡ k.0 = same_Some h.0 k.0 (sym h.1 ∙ k.1) in (
        h.2 ∙ sym k.2,
        h.3 ∙ (ap (λ z. record w {
          at = enters z (map (Rattle.flow_graph.specs.Readings.term_at slots) args)
              (record { graph = g; to = to; results = results; slots = slots; entry = entry } ∷ ws);
        }) one ∙ sym k.3),
      )

  entry_one : (a b c d : ℕ) → Entry a b ≡ Entry c d → a ≡ c
  entry_one a b c d e = cc

  stage_one : (i : ℕ) (w : Walked) (stage : Stage) (sums sums' : List Sum) (x y : Walked) → FollowsAt gs i w stage sums x →
      FollowsAt gs i w stage sums' y → (sums ≡ sums') × (x ≡ y)
  stage_one i w (enters g args ws) sums sums' x y h k =
      let to : h.1 ≡ k.1 = entry_one h.1 h.2 k.1 k.2 (same_Some (Entry h.1 h.2) (Entry k.1 k.2) (sym h.3 ∙ k.3)) in
      (h.4 ∙ sym k.4, h.5 ∙ (ap (λ n. record w { at = runs g n (opened g args) args ws }) to ∙ sym k.5))
  stage_one i w (runs g node slots entry ws) sums sums' x y h k =
      let one : h.0 ≡ k.0 = same_Some h.0 k.0 (sym h.1 ∙ k.1) in
      edge_one w g node slots entry ws k.0 sums sums' x y (subst (λ e. FollowsEdge gs w g node slots entry ws e sums x) one h.3) k.3
  stage_one i w (gave ts) sums sums' x y h k = absurd h
  stage_one i w (fails id) sums sums' x y h k = absurd h

  pub follows_one : (i : ℕ) (w : Walked) (sums sums' : List Sum) (x y : Walked) → Follows gs i w sums x → Follows gs i w sums' y →
      (sums ≡ sums') × (x ≡ y)
  follows_one i w sums sums' x y h k = stage_one i w w.at sums sums' x y h k

  pub comes_one : (path : List ℕ) (w x y : Walked) → ComesTo gs path w x → ComesTo gs path w y → x ≡ y
  comes_one [] w x y h k = h ∙ sym k
  comes_one (i ∷ path) w x y h k =
      let one = follows_one i w h.0 k.0 h.1 k.1 h.2 k.2 in
      comes_one path k.1 x y (subst (λ z. ComesTo gs path z x) one.1 h.3) k.3
