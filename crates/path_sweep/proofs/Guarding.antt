-- A path's guard is met exactly where the path is taken.
use Rattle.std.proofs.Common.{◌≡◌, ℕ, zero, suc, ◌-◌, ◌<◌, List, [], ◌∷◌, ◌++◌, length, map, replicate, nat_lt, arith, Some, false, ℤ, pos, refl, sym, subst, ap, ◌∙◌, append_assoc, append-nil}
use Rattle.std.specs.Prelude.{slice_get, IsTrue}
use Rattle.std.specs.List.{list_all}
use borrow.Author.Tests.{ltb-true}
use Rattle.linear_formula.proofs.Limits.{both}
use Rattle.std.proofs.lemmas.Option.{same_Some, none-some}
use Rattle.c_tree.specs.Meaning.{State, with_slot, entered}
use Rattle.linear_formula.specs.LinearSum.{LinearSum, Valuation, Is64, value_of}
use Rattle.linear_formula.specs.Results.{constant_sum}
use Rattle.linear_formula.specs.Formula.{HoldsAll}
use Rattle.flow_graph.specs.declared.graph.Graph.{Graph}
use Rattle.flow_graph.specs.declared.graph.Edge.{Edge}
use Rattle.flow_graph.specs.declared.graph.Edge.TheVariants.{Entry, Assign, Guard, Input, Pick, Call, Assert, Return}
use Rattle.flow_graph.specs.Linked.{AreGraphs}
use Rattle.flow_graph.specs.Readings.{term_at}
use Rattle.flow_graph.specs.Runs.{Place, with_slots, Step, GraphRun}
use Rattle.flow_graph.specs.Shapes.{source, is_call}
use Rattle.summary_form.specs.Musts.{values_of}
use Rattle.summary_form.specs.Symbols.{is_symbol_column}
use Rattle.must_region.specs.Traces.{Trace}
use Rattle.must_region.specs.Rules.{extended, sums_of, set_terms}
use Rattle.must_region.specs.Trails.{slots_at, HasTerms}
use Rattle.must_region.proofs.Agreeing.{Agree, slots_agree}
use Rattle.must_region.proofs.Extending.{slots_set, values_returned}
use Rattle.shadow_elim.specs.declared.sum.Sum.{Sum}
use Rattle.path_sweep.specs.Executions.{Caller, Standing, entering, running, returns, standing_at, OverEdge, Over, Takes}
use Rattle.path_sweep.specs.Guards.{Waiting, Stage, enters, runs, gave, fails, Walked, begun, trace_at, opened, gives_back, stage_after, FollowsEdge, FollowsAt, ComesTo, caller_at, stage_at}
use Rattle.path_sweep.specs.Laws.{GuardsAreTaken, TakenPathsHaveGuards}
use Rattle.path_sweep.proofs.Stepping.{place_by, taken, found}
use Rattle.path_sweep.proofs.Fitting.{AllFit, FrameFits, StageFits, Fits, names_at, still_fits, begins, length_set_terms}

-- Values of terms

abbrev zero_sum : LinearSum
zero_sum = constant_sum (pos 0)

zero_slot : (v : Valuation) (k x : ℕ) → slots_at v (replicate k zero_sum) x ≡ pos 0
zero_slot v zero x = refl
zero_slot v (suc k) zero = refl
zero_slot v (suc k) (suc x) = zero_slot v k x

opened_slot : (v : Valuation) (args : List LinearSum) (k x : ℕ) → slots_at v (args ++ replicate k zero_sum) x ≡ entered (values_of v args) x
opened_slot v [] k x = zero_slot v k x
opened_slot v (t ∷ ts) k zero = refl
opened_slot v (t ∷ ts) k (suc x) = opened_slot v ts k x

opened_values : (v : Valuation) (g : Graph) (args : List LinearSum) → slots_at v (opened g args) ≡ entered (values_of v args)
opened_values v g args = λ i x. opened_slot v args (g.slots - g.params) x i

-- terms in slots
terms_set : (v : Valuation) (all : List LinearSum) (n : ℕ) → n ≡ length all → (xs : List ℕ) (ts : List LinearSum) →
    IsTrue (list_all (λ x. nat_lt x n) xs) → slots_at v (set_terms all xs ts) ≡ with_slots (slots_at v all) xs (values_of v ts)
terms_set v all n count [] ts ok = refl
terms_set v all n count (x ∷ xs) [] ok =
    let here = both (nat_lt x n) (list_all (λ y. nat_lt y n) xs) ok in
    let low : x < length (set_terms all xs []) = omega (arith, ltb-true x n here.0, count, length_set_terms all xs []) in
    slots_set v (set_terms all xs []) x (term_at [] 0) low ∙ ap (λ s. with_slot s x (pos 0)) (terms_set v all n count xs [] here.1)
terms_set v all n count (x ∷ xs) (t ∷ ts) ok =
    let here = both (nat_lt x n) (list_all (λ y. nat_lt y n) xs) ok in
    let low : x < length (set_terms all xs ts) = omega (arith, ltb-true x n here.0, count, length_set_terms all xs ts) in
    slots_set v (set_terms all xs ts) x t low ∙ ap (λ s. with_slot s x (value_of v t)) (terms_set v all n count xs ts here.1)

module _ (gs : List Graph) where
  returned : (v : Valuation) (n : ℕ) (ts : List LinearSum) (ws : List Waiting) → AllFit gs n ws →
      stage_at v (gives_back ts ws) ≡ returns (values_of v ts) (map (caller_at v) ws)
  returned v n ts [] h = refl
  returned v n ts (w ∷ ws) h = ap (λ s. running w.graph w.to s (map (caller_at v) ws))
      (terms_set v w.slots w.graph.slots (sym h.0.many) w.results ts h.0.results_in)

  standing : (v : Valuation) (n : ℕ) (g : Graph) (ws : List Waiting) (e : Edge) (t : Trace) → AllFit gs n ws →
      stage_at v (stage_after g ws e t) ≡ standing_at g (map (caller_at v) ws) (place_by v e t)
  standing v n g ws (Entry to params) t h = refl
  standing v n g ws (Assign from to slot value) t h = refl
  standing v n g ws (Guard from to rows) t h = refl
  standing v n g ws (Input from to slot) t h = refl
  standing v n g ws (Pick from to slot rows) t h = refl
  standing v n g ws (Call from to proc args results) t h = refl
  standing v n g ws (Assert from to id rows) t h = refl
  standing v n g ws (Return from to slots) t h = returned v n t.slots ws h

  callers_agree : (v w : Valuation) (n : ℕ) (ws : List Waiting) → Agree (is_symbol_column n) v w → AllFit gs n ws →
      map (caller_at v) ws ≡ map (caller_at w) ws
  callers_agree v w n [] a h = refl
  callers_agree v w n (x ∷ xs) a h =
      ap (λ s. record { graph = x.graph; to = x.to; results = x.results; slots = s } ∷ map (caller_at v) xs)
      (slots_agree (is_symbol_column n) v w x.slots a h.0.slot_names)
      ∙ ap (λ cs. caller_at w x ∷ cs) (callers_agree v w n xs a h.1)

  kept_at : (w : Walked) (node : ℕ) (g : Graph) (slots entry : List LinearSum) → FrameFits gs w.symbols g slots entry →
      HasTerms g (trace_at w node slots entry)
  kept_at w node g slots entry k = record { many = λ _. k.many; unfailed = λ _. refl }

  -- One edge: what meets the new guard takes it

  pub record Took (i : ℕ) (w new : Walked) (stage : Stage) (v : Valuation) : Type 0 where
    pub meets : HoldsAll v w.guard
    pub used : List ℤ
    pub inputs : values_of v new.inputs ≡ values_of v w.inputs ++ used
    pub over : (more : List ℤ) → Over gs i (stage_at v stage) (used ++ more) (stage_at v new.at) more

  module _ (v : Valuation) (v64 : Is64 v) (w : Walked) (g : Graph) (node : ℕ) (slots entry : List LinearSum) (ws : List Waiting)
      (frame : FrameFits gs w.symbols g slots entry) (waits : AllFit gs w.symbols ws) (i : ℕ) where
    plain_took : (e : Edge) → is_call e ≡ false → ((s : State) (cs : List Caller) (ins : List ℤ) (b : Standing) (rest : List ℤ) →
        ((place : Place) × Step (GraphRun [] 0) e s ins place rest × (b ≡ standing_at g cs place)) → OverEdge gs g cs e s ins b rest) →
        slice_get g.edges i ≡ Some e → source e ≡ Some node → (new : Walked) →
        new ≡ record {
          symbols = (extended (trace_at w node slots entry) e).symbols;
          guard = (extended (trace_at w node slots entry) e).guard.atoms;
          inputs = (extended (trace_at w node slots entry) e).inputs;
          at = stage_after g ws e (extended (trace_at w node slots entry) e);
        } → HoldsAll v new.guard → Took i w new (runs g node slots entry ws) v
    plain_took e plain over at src new is h =
        let t = trace_at w node slots entry in
        let h' : HoldsAll v (extended t e).guard.atoms = subst (λ (x : Walked). HoldsAll v x.guard) is h in
        let k = taken g t (kept_at w node g slots entry frame) i e at src plain v v64 h' in
        record {
          meets = k.less;
          used = k.used;
          inputs = ap (λ (x : Walked). values_of v x.inputs) is ∙ k.inputs;
          over = λ more. (
            e,
            at,
            src,
            over (slots_at v slots) (map (caller_at v) ws) (k.used ++ more) (stage_at v new.at)
                more (
                  place_by v e (extended t e),
                  k.step more,
                  ap (λ (x : Walked). stage_at v x.at) is ∙ standing v w.symbols g ws e (extended t e) waits,
                ),
          );
        }

    edge_took : (e : Edge) → slice_get g.edges i ≡ Some e → source e ≡ Some node → (sums : List Sum) (new : Walked) →
        FollowsEdge gs w g node slots entry ws e sums new → HoldsAll v new.guard → Took i w new (runs g node slots entry ws) v
    edge_took (Entry to params) at src sums new f h = absurd (none-some node src)
    edge_took (Assign from to slot value) at src sums new f h = plain_took (Assign from to slot value) refl (λ s cs ins b rest o. o) at src
        new f.1 h
    edge_took (Guard from to rows) at src sums new f h = plain_took (Guard from to rows) refl (λ s cs ins b rest o. o) at src new f.1 h
    edge_took (Input from to slot) at src sums new f h = plain_took (Input from to slot) refl (λ s cs ins b rest o. o) at src new f.1 h
    edge_took (Pick from to slot rows) at src sums new f h = plain_took (Pick from to slot rows) refl (λ s cs ins b rest o. o) at src new
        f.1 h
    edge_took (Assert from to id rows) at src sums new f h = plain_took (Assert from to id rows) refl (λ s cs ins b rest o. o) at src new
        f.1 h
    edge_took (Return from to slots) at src sums new f h = plain_took (Return from to slots) refl (λ s cs ins b rest o. o) at src new f.1 h
    edge_took (Call from to proc args results) at src sums new f h = record {
      meets = subst (λ (x : Walked). HoldsAll v x.guard) f.3 h;
      used = [];
      inputs = ap (λ (x : Walked). values_of v x.inputs) f.3 ∙ sym (append-nil (values_of v w.inputs));
      over = λ more. (
        Call from to proc args results,
        at,
        src,
        (
          f.0,
          f.1,
          ap (λ (x : Walked). stage_at v x.at) f.3
              ∙ ap (λ xs. entering f.0 xs (record { graph = g; to = to; results = results; slots = slots_at v slots } ∷ map (caller_at v)
              ws))
              (values_returned v slots args),
          refl,
        ),
      );
    }

  stage_took : (v : Valuation) → Is64 v → (w : Walked) (stage : Stage) → StageFits gs w.symbols stage → (i : ℕ) (sums : List Sum)
      (new : Walked) →
      FollowsAt gs i w stage sums new → HoldsAll v new.guard → Took i w new stage v
  stage_took v v64 w (enters g args ws) s i sums new f h = record {
    meets = subst (λ (x : Walked). HoldsAll v x.guard) f.5 h;
    used = [];
    inputs = ap (λ (x : Walked). values_of v x.inputs) f.5 ∙ sym (append-nil (values_of v w.inputs));
    over = λ more. (
      f.0,
      f.1,
      f.2,
      f.3,
      ap (λ (x : Walked). stage_at v x.at) f.5
          ∙ ap (λ z. running g f.1 z (map (caller_at v) ws)) (opened_values v g args),
      refl,
    );
  }
  stage_took v v64 w (runs g node slots entry ws) s i sums new f h =
      edge_took v v64 w g node slots entry ws s.0 s.1 i f.0 f.1 f.2 sums new f.3 h
  stage_took v v64 w (gave ts) s i sums new f h = absurd f
  stage_took v v64 w (fails id) s i sums new f h = absurd f

  -- A path

  record TookAll (path : List ℕ) (w new : Walked) (v : Valuation) : Type 0 where
    pub meets : HoldsAll v w.guard
    pub used : List ℤ
    pub inputs : values_of v new.inputs ≡ values_of v w.inputs ++ used
    pub takes : (more : List ℤ) → Takes gs path (stage_at v w.at) (used ++ more) (stage_at v new.at) more

  path_took : AreGraphs gs → (v : Valuation) → Is64 v → (path : List ℕ) (w new : Walked) → Fits gs w → ComesTo gs path w new →
      HoldsAll v new.guard → TookAll path w new v
  path_took linked v v64 [] w new f c h = record {
    meets = subst (λ (x : Walked). HoldsAll v x.guard) c h;
    used = [];
    inputs = ap (λ (x : Walked). values_of v x.inputs) c ∙ sym (append-nil (values_of v w.inputs));
    takes = λ more. (ap (λ (x : Walked). stage_at v x.at) c, refl);
  }
  path_took linked v v64 (i ∷ path) w new f c h =
      let r = path_took linked v v64 path c.1 new (still_fits gs linked w f i c.0 c.1 c.2) c.3 h in
      let s = stage_took v v64 w w.at f.stage i c.0 c.1 c.2 r.meets in
      record {
        meets = s.meets;
        used = s.used ++ r.used;
        inputs = r.inputs ∙ (ap (λ xs. xs ++ r.used) s.inputs ∙ append_assoc (values_of v w.inputs) s.used r.used);
        takes = λ more. (
          stage_at v c.1.at,
          r.used ++ more,
          subst (λ l. Over gs i (stage_at v w.at) l (stage_at v c.1.at) (r.used ++ more)) (sym (append_assoc s.used r.used more))
              (s.over (r.used ++ more)),
          r.takes more,
        );
      }

  -- One edge that is taken: some assignment meets the new guard

  pub record Went (i : ℕ) (w : Walked) (stage : Stage) (v : Valuation) (ins rest : List ℤ) (b : Standing) : Type 0 where
    pub sums : List Sum
    pub new : Walked
    pub follows : FollowsAt gs i w stage sums new
    pub at : Valuation
    pub values : Is64 at
    pub meets : HoldsAll at new.guard
    pub place : stage_at at new.at ≡ b
    pub inputs : values_of at new.inputs ++ rest ≡ values_of v w.inputs ++ ins

  module _ (v : Valuation) (v64 : Is64 v) (w : Walked) (f : Fits gs w) (g : Graph) (node : ℕ) (slots entry : List LinearSum)
      (ws : List Waiting)
      (frame : FrameFits gs w.symbols g slots entry) (waits : AllFit gs w.symbols ws) (m : HoldsAll v w.guard) (i : ℕ) where
    plain_went : (e : Edge) → is_call e ≡ false → slice_get g.edges i ≡ Some e → source e ≡ Some node →
        ((sums : List Sum) (new : Walked) → sums ≡ sums_of (trace_at w node slots entry) e → new ≡ record {
          symbols = (extended (trace_at w node slots entry) e).symbols;
          guard = (extended (trace_at w node slots entry) e).guard.atoms;
          inputs = (extended (trace_at w node slots entry) e).inputs;
          at = stage_after g ws e (extended (trace_at w node slots entry) e);
        } → FollowsEdge gs w g node slots entry ws e sums new) → (ins rest : List ℤ) (b : Standing) (place : Place) →
        Step (GraphRun [] 0) e (slots_at v slots) ins place rest → b ≡ standing_at g (map (caller_at v) ws) place →
        Went i w (runs g node slots entry ws) v ins rest b
    plain_went e plain at src follows ins rest b place st is =
        let t = trace_at w node slots entry in
        let names = names_at gs w node g slots entry f frame in
        let d = found g t (kept_at w node g slots entry frame) i names e at src plain v v64 m ins rest place st in
        let new : Walked = record {
          symbols = (extended t e).symbols;
          guard = (extended t e).guard.atoms;
          inputs = (extended t e).inputs;
          at = stage_after g ws e (extended t e);
        } in
        record {
          sums = sums_of t e;
          new = new;
          follows = (e, at, src, follows (sums_of t e) new refl refl);
          at = d.at;
          values = d.values;
          meets = d.meets;
          place = standing d.at w.symbols g ws e (extended t e) waits
              ∙ (ap (λ cs. standing_at g cs (place_by d.at e (extended t e))) (sym (callers_agree v d.at w.symbols ws d.agrees waits))
              ∙ (ap (standing_at g (map (caller_at v) ws)) d.place ∙ sym is));
          inputs = ap (λ l. l ++ rest) d.inputs
              ∙ (append_assoc (values_of v w.inputs) d.used rest ∙ ap (λ l. values_of v w.inputs ++ l) (sym d.split));
        }

    edge_went : (e : Edge) → slice_get g.edges i ≡ Some e → source e ≡ Some node → (ins rest : List ℤ) (b : Standing) →
        OverEdge gs g (map (caller_at v) ws) e (slots_at v slots) ins b rest → Went i w (runs g node slots entry ws) v ins rest b
    edge_went (Entry to params) at src ins rest b o = absurd (none-some node src)
    edge_went (Assign from to slot value) at src ins rest b o =
        plain_went (Assign from to slot value) refl at src (λ sums new x y. (x, y)) ins rest b o.0 o.1 o.2
    edge_went (Guard from to rows) at src ins rest b o = plain_went (Guard from to rows) refl at src (λ sums new x y. (x, y)) ins rest b o.0
        o.1
        o.2
    edge_went (Input from to slot) at src ins rest b o = plain_went (Input from to slot) refl at src (λ sums new x y. (x, y)) ins rest b o.0
        o.1
        o.2
    edge_went (Pick from to slot rows) at src ins rest b o =
        plain_went (Pick from to slot rows) refl at src (λ sums new x y. (x, y)) ins rest b o.0 o.1 o.2
    edge_went (Assert from to id rows) at src ins rest b o =
        plain_went (Assert from to id rows) refl at src (λ sums new x y. (x, y)) ins rest b o.0 o.1 o.2
    edge_went (Return from to slots) at src ins rest b o =
        plain_went (Return from to slots) refl at src (λ sums new x y. (x, y)) ins rest b o.0 o.1 o.2
    edge_went (Call from to proc args results) at src ins rest b o =
        let waiting : Waiting = record { graph = g; to = to; results = results; slots = slots; entry = entry } in
        record {
          sums = [];
          new = record w { at = enters o.0 (map (term_at slots) args) (waiting ∷ ws) };
          follows = (Call from to proc args results, at, src, (o.0, o.1, refl, refl));
          at = v;
          values = v64;
          meets = m;
          place = ap (λ xs. entering o.0 xs (record { graph = g; to = to; results = results; slots = slots_at v slots } ∷ map (caller_at v)
              ws))
              (values_returned v slots args) ∙ sym o.2;
          inputs = ap (λ l. values_of v w.inputs ++ l) o.3;
        }

  stage_went : (v : Valuation) → Is64 v → (w : Walked) → Fits gs w → (stage : Stage) → StageFits gs w.symbols stage → HoldsAll v w.guard →
      (i : ℕ) (ins rest : List ℤ) (b : Standing) → Over gs i (stage_at v stage) ins b rest → Went i w stage v ins rest b
  stage_went v v64 w f (enters g args ws) s m i ins rest b o = record {
    sums = [];
    new = record w { at = runs g o.1 (opened g args) args ws };
    follows = (o.0, o.1, o.2, o.3, refl, refl);
    at = v;
    values = v64;
    meets = m;
    place = ap (λ z. running g o.1 z (map (caller_at v) ws)) (opened_values v g args) ∙ sym o.4;
    inputs = ap (λ l. values_of v w.inputs ++ l) o.5;
  }
  stage_went v v64 w f (runs g node slots entry ws) s m i ins rest b o =
      edge_went v v64 w f g node slots entry ws s.0 s.1 m i o.0 o.1 o.2 ins rest b o.3
  stage_went v v64 w f (gave ts) s m i ins rest b o = absurd o
  stage_went v v64 w f (fails id) s m i ins rest b o = absurd o

  record WentAll (path : List ℕ) (w : Walked) (v : Valuation) (ins rest : List ℤ) (b : Standing) : Type 0 where
    pub new : Walked
    pub comes : ComesTo gs path w new
    pub at : Valuation
    pub values : Is64 at
    pub meets : HoldsAll at new.guard
    pub place : stage_at at new.at ≡ b
    pub inputs : values_of at new.inputs ++ rest ≡ values_of v w.inputs ++ ins

  path_went : AreGraphs gs → (path : List ℕ) (v : Valuation) → Is64 v → (w : Walked) → Fits gs w → HoldsAll v w.guard →
      (ins rest : List ℤ) (b : Standing) → Takes gs path (stage_at v w.at) ins b rest → WentAll path w v ins rest b
  path_went linked [] v v64 w f m ins rest b t = record {
    new = w;
    comes = refl;
    at = v;
    values = v64;
    meets = m;
    place = sym t.0;
    inputs = ap (λ l. values_of v w.inputs ++ l) t.1;
  }
  path_went linked (i ∷ path) v v64 w f m ins rest b t =
      let s = stage_went v v64 w f w.at f.stage m i ins t.1 t.0 t.2 in
      let r = path_went linked path s.at s.values s.new (still_fits gs linked w f i s.sums s.new s.follows) s.meets t.1 rest b
      (subst (λ z. Takes gs path z t.1 b rest) (sym s.place) t.3) in
      record {
        new = r.new;
        comes = (s.sums, s.new, s.follows, r.comes);
        at = r.at;
        values = r.values;
        meets = r.meets;
        place = r.place;
        inputs = r.inputs ∙ s.inputs;
      }

pub guards_are_taken : GuardsAreTaken
guards_are_taken gs main g path new linked at none c v v64 h =
    let r = path_took gs linked v v64 path (begun g) new (begins gs g (main, at) none) c h in
    record {
      graph = g;
      at = at;
      takes = subst (λ l. Takes gs path (entering g [] []) l (stage_at v new.at) []) (append-nil r.used ∙ sym r.inputs) (r.takes []);
    }

abbrev some_values : Valuation
some_values x = pos 0

pub taken_paths_have_guards : TakenPathsHaveGuards
taken_paths_have_guards gs main g path ins b linked at none t =
    let same : t.graph ≡ g = same_Some t.graph g (sym t.at ∙ at) in
    let r = path_went gs linked path some_values (λ x. refl) (begun g) (begins gs g (main, at) none) tt ins [] b
    (subst (λ z. Takes gs path (entering z [] []) ins b []) same t.takes) in
    record {
      new = r.new;
      comes = r.comes;
      at = r.at;
      values = r.values;
      meets = r.meets;
      inputs = sym (append-nil (values_of r.at r.new.inputs)) ∙ r.inputs;
      place = r.place;
    }
