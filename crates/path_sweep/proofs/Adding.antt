-- What an edge adds to a path, and the frame after it.
use Rattle.std.proofs.Common.{◌≡◌, ℕ, List, [], ◌∷◌, ◌++◌, ◌+◌, length, map, Option, Some, None, Result, Ok, Err, false, ◌==◌, refl, sym, subst, ap, ◌∙◌}
use Rattle.std.specs.Prelude.{slice_get, slice_index_or, IfOk, OnOk, IsTrue}
use Rattle.std.proofs.lemmas.Option.{same_Some, none-some, get_or_from_slice_get}
use borrow.Author.Tests.{eqb-true}
use Rattle.linear_formula.proofs.Limits.{both}
use Rattle.flow_graph.specs.Calls.{CallSite, call_edge}
use Rattle.flow_graph.specs.Linked.{AreGraphs, takes}
use Rattle.linear_formula.specs.LinearSum.{LinearSum}
use Rattle.flow_graph.specs.declared.graph.Edge.{Edge}
use Rattle.flow_graph.specs.declared.graph.Edge.TheVariants.{Entry, Assign, Guard, Input, Pick, Call, Assert, Return}
use Rattle.flow_graph.specs.declared.graph.Graph.{Graph}
use Rattle.flow_graph.specs.Readings.{term_at}
use Rattle.flow_graph.specs.Shapes.{source, target, is_call}
use Rattle.flow_graph.specs.WellFormed.{first_node, is_entry_of}
use Rattle.must_region.specs.Traces.{Trace}
use Rattle.must_region.specs.Rules.{extended, sums_of}
use Rattle.shadow_elim.specs.Sums.{first_wide, IsFirstWide}
use Rattle.std.specs.Result.{IsErr, IsErrAnd}
use Rattle.shadow_elim.specs.Projection.{IfRefused}
use Rattle.shadow_elim.specs.declared.projection.ProjectionError.{ProjectionError}
use Rattle.shadow_elim.specs.declared.projection.ProjectionError.TheVariants as refusal
use Rattle.shadow_elim.specs.declared.limit.Kept.{Kept}
use Rattle.path_sweep.specs.Guards.{Waiting, Stage, enters, runs, gave, fails, Walked, opened, gives_back, stage_after, trace_at, FollowsEdge}
use Rattle.path_sweep.specs.declared.frames.Frame.{Frame}
use Rattle.path_sweep.specs.declared.frames.Level.{Level}
use Rattle.path_sweep.specs.declared.frames.Place.TheVariants.{Entering, At}
use Rattle.path_sweep.specs.declared.links.Following.{Following}
use Rattle.path_sweep.specs.declared.links.Links.{Links}
use Rattle.path_sweep.specs.declared.step.Step.{Step}
use Rattle.path_sweep.specs.steps.Linking.{AreAllLinks, IsFirst, Leaves}
use Rattle.path_sweep.specs.steps.Frames.{Wait, IsStage, CanFollow, bare, bare_trace, HasWaiting, IsMoved, IsReturned, IsBehind, HasNext, IsStep, IsWideStep}
use Rattle.path_sweep.proofs.Ordering.{last_pushed, old_pushed}

pub if_ok_map : {A : Type 0} {E : Type 0} (r : Result A E) (P Q : A → Type 0) → ((a : A) → P a → Q a) → IfOk r P → IfOk r Q
if_ok_map (Ok a) P Q f h = f a h
if_ok_map (Err e) P Q f h = h

-- Edge 0

pub entry_at : (g : Graph) → (to : ℕ) × (slice_get g.edges 0 ≡ Some (Entry to g.params))
entry_at g = on (slice_get g.edges 0) (g.well_formed).begins where
  by_edge : (e : Edge) → IsTrue (is_entry_of g.params (Some e)) → (to : ℕ) × (Some e ≡ Some (Entry to g.params))
  by_edge (Entry to n) h = (to, ap (λ k. Some (Entry to k)) (eqb-true n g.params h))
  by_edge (Assign from to slot value) h = absurd (cc)
  by_edge (Guard from to rows) h = absurd (cc)
  by_edge (Input from to slot) h = absurd (cc)
  by_edge (Pick from to slot rows) h = absurd (cc)
  by_edge (Call from to proc args results) h = absurd (cc)
  by_edge (Assert from to id rows) h = absurd (cc)
  by_edge (Return from to slots) h = absurd (cc)

  on : (o : Option Edge) → IsTrue (is_entry_of g.params o) → (to : ℕ) × (o ≡ Some (Entry to g.params))
  on None h = absurd (cc)
  on (Some e) h = by_edge e h

pub first_is : (edges : List Edge) (to params : ℕ) → slice_get edges 0 ≡ Some (Entry to params) → first_node edges ≡ to
first_is [] to params e = absurd (none-some (Entry to params) e)
first_is (x ∷ edges) to params e = ap target (same_Some x (Entry to params) e)

node_same : (m n : ℕ) → At m ≡ At n → m ≡ n
node_same m n e = cc

module _ (gs : List Graph) where
  -- the frames below stay where a level is put on the others
  pub wait_more : (levels : List Level) (x : Level) (o : Option ℕ) (ws : List Waiting) → Wait gs levels o ws → Wait gs (levels ++ x ∷ []) o
      ws
  wait_more levels x None [] h = tt
  wait_more levels x None (w ∷ ws) h = absurd h
  wait_more levels x (Some c) [] h = absurd h
  wait_more levels x (Some c) (w ∷ ws) h = (h.0, old_pushed levels x c h.0 h.1, h.2, wait_more levels x h.0.frame.caller ws h.3)

  pub waits_at : (levels : List Level) (o : Option ℕ) (ws : List Waiting) → Wait gs levels o ws → HasWaiting gs levels o
  waits_at levels None ws h = tt
  waits_at levels (Some c) [] h = absurd h
  waits_at levels (Some c) (w ∷ ws) h = (h.0, w, h.1, h.2)

  -- the stage of a frame that enters, and of one at a node
  pub record Enters (levels : List Level) (f : Frame) (stage : Stage) : Type 0 where
    pub graph : Graph
    pub args : List LinearSum
    pub ws : List Waiting
    pub is : stage ≡ enters graph args ws
    pub at : slice_get gs f.proc ≡ Some graph
    pub slots : f.slots ≡ opened graph args
    pub entry : f.entry ≡ args
    pub waits : Wait gs levels f.caller ws

  pub entering : (levels : List Level) (f : Frame) (stage : Stage) → f.place ≡ Entering → IsStage gs levels f stage → Enters levels f stage
  entering levels f (enters g args ws) p h = record {
    graph = g;
    args = args;
    ws = ws;
    is = refl;
    at = h.1;
    slots = h.2;
    entry = h.3;
    waits = h.4;
  }
  entering levels f (runs g node slots entry ws) p h = absurd (let e = sym h.0 ∙ p in cc)
  entering levels f (gave terms) p h = absurd (let e = sym h.0 ∙ p in cc)
  entering levels f (fails id) p h = absurd (let e = sym h ∙ p in cc)

  pub record Runs (levels : List Level) (f : Frame) (node : ℕ) (stage : Stage) : Type 0 where
    pub graph : Graph
    pub ws : List Waiting
    pub is : stage ≡ runs graph node f.slots f.entry ws
    pub at : slice_get gs f.proc ≡ Some graph
    pub waits : Wait gs levels f.caller ws

  pub running : (levels : List Level) (f : Frame) (node : ℕ) (stage : Stage) → f.place ≡ At node → IsStage gs levels f stage →
      Runs levels f node stage
  running levels f node (enters g args ws) p h = absurd (let e = sym h.0 ∙ p in cc)
  running levels f node (runs g n slots entry ws) p h =
      let e : n ≡ node = node_same n node (sym h.0 ∙ p) in
      record {
        graph = g;
        ws = ws;
        is = ap (λ m. runs g m slots entry ws) e
            ∙ (ap (λ s. runs g node s entry ws) (sym h.2) ∙ ap (λ s. runs g node f.slots s ws) (sym h.3));
        at = h.1;
        waits = h.4;
      }
  running levels f node (gave terms) p h = absurd (let e = sym h.0 ∙ p in cc)
  running levels f node (fails id) p h = absurd (let e = sym h ∙ p in cc)

  -- over edge 0
  pub entry_step : (levels : List Level) (f next : Frame) (symbols edge : ℕ) (step : Step) (g : Graph) (stage : Stage) →
      f.place ≡ Entering →
      HasNext gs levels f edge → slice_get gs f.proc ≡ Some g → next ≡ record f { place = At (first_node g.edges) } → step.frame ≡ next →
      step.rows.atoms ≡ [] → step.read ≡ [] → step.symbols ≡ symbols → IsStage gs levels f stage → IsStep gs levels f symbols edge step
      stage
  entry_step levels f next symbols edge step g stage p n at_g is frame rows read count h =
      let en = entering levels f stage p h in
      let other = entering levels f n.stage p n.is in
      let zero_edge : edge ≡ 0 = subst (λ s. CanFollow s edge) other.is n.can in
      let start = entry_at en.graph in
      let same : en.graph ≡ g = same_Some en.graph g (sym en.at ∙ at_g) in
      let node : first_node g.edges ≡ start.0 = ap (λ (x : Graph). first_node x.edges) (sym same)
      ∙ first_is en.graph.edges start.0 en.graph.params start.1 in
      subst (IsStep gs levels f symbols edge step) (sym en.is) (record {
        sums = [];
        after = record { symbols = symbols; guard = []; inputs = []; at = runs en.graph start.0 (opened en.graph en.args) en.args en.ws };
        follows = (zero_edge, start.0, en.graph.params, start.1, refl, refl);
        narrow = refl;
        rows = rows;
        read = read;
        count = count;
        lies = λ l lf le. subst (λ fr. IsStage gs (levels ++ l ∷ []) fr (runs en.graph start.0 (opened en.graph en.args) en.args en.ws))
            (sym (frame ∙ is)) (ap At node, en.at, en.slots, en.entry, wait_more levels l f.caller en.ws en.waits);
      })

  -- over a call
  pub call_step : (levels : List Level) (f next : Frame) (symbols edge node from to : ℕ) (site : CallSite) (h : Graph)
      (step : Step)
      (stage : Stage) → f.place ≡ At node → (g : Graph) → slice_get gs f.proc ≡ Some g → slice_get g.edges edge
      ≡ Some (call_edge from to site) →
      source (call_edge from to site) ≡ Some node → slice_get gs site.procedure ≡ Some h →
      next ≡ record {
        proc = site.procedure;
        place = Entering;
        slots = opened h (map (term_at f.slots) site.arguments);
        entry = map (term_at f.slots) site.arguments;
        caller = Some (length levels);
      } → step.frame ≡ next → step.rows.atoms ≡ [] → step.read ≡ [] → step.symbols ≡ symbols → IsStage gs levels f stage →
      IsStep gs levels f symbols edge step stage
  call_step levels f next symbols edge node from to site h step stage p g at_g at src at_h is frame rows read count st =
      let en = running levels f node stage p st in
      let same : en.graph ≡ g = same_Some en.graph g (sym en.at ∙ at_g) in
      let at' : slice_get en.graph.edges edge ≡ Some (call_edge from to site) =
      subst (λ (x : Graph). slice_get x.edges edge ≡ Some (call_edge from to site)) (sym same) at in
      let waiting : Waiting = record { graph = en.graph; to = to; results = site.results; slots = f.slots; entry = f.entry } in
      subst (IsStep gs levels f symbols edge step) (sym en.is) (record {
        sums = [];
        after = record {
          symbols = symbols;
          guard = [];
          inputs = [];
          at = enters h (map (term_at f.slots) site.arguments) (waiting ∷ en.ws);
        };
        follows = (call_edge from to site, at', src, (h, at_h, refl, refl));
        narrow = refl;
        rows = rows;
        read = read;
        count = count;
        lies = λ l lf le. subst (λ fr. IsStage gs (levels ++ l ∷ []) fr (enters h (map (term_at f.slots) site.arguments) (waiting ∷ en.ws)))
            (sym (frame ∙ is)) (
              refl,
              at_h,
              refl,
              refl,
              (
                l,
                last_pushed levels l,
                record {
                  graph = ap (λ (x : Frame). slice_get gs x.proc) lf ∙ en.at;
                  from = from;
                  site = site;
                  call = ap (slice_get en.graph.edges) le ∙ at';
                  results = refl;
                  slots = ap (λ (x : Frame). x.slots) lf;
                  entry = ap (λ (x : Frame). x.entry) lf;
                },
                subst (λ (x : Frame). Wait gs (levels ++ l ∷ []) x.caller en.ws) (sym lf) (wait_more levels l f.caller en.ws en.waits),
              ),
            );
      })

  -- over an edge that is no call

  plain_follow : (w : Walked) (g : Graph) (node : ℕ) (slots entry : List LinearSum) (ws : List Waiting) (e : Edge) → is_call e ≡ false →
      FollowsEdge gs w g node slots entry ws e (sums_of (trace_at w node slots entry) e) (record {
        symbols = (extended (trace_at w node slots entry) e).symbols;
        guard = (extended (trace_at w node slots entry) e).guard.atoms;
        inputs = (extended (trace_at w node slots entry) e).inputs;
        at = stage_after g ws e (extended (trace_at w node slots entry) e);
      })
  plain_follow w g node slots entry ws (Entry to params) p = (refl, refl)
  plain_follow w g node slots entry ws (Assign from to slot value) p = (refl, refl)
  plain_follow w g node slots entry ws (Guard from to rows) p = (refl, refl)
  plain_follow w g node slots entry ws (Input from to slot) p = (refl, refl)
  plain_follow w g node slots entry ws (Pick from to slot rows) p = (refl, refl)
  plain_follow w g node slots entry ws (Call from to proc args results) p = absurd (cc)
  plain_follow w g node slots entry ws (Assert from to id rows) p = (refl, refl)
  plain_follow w g node slots entry ws (Return from to returned) p = (refl, refl)

  module _ (levels : List Level) (l : Level) (f next : Frame) (g : Graph) (ws : List Waiting) (at : slice_get gs f.proc ≡ Some g) where
    moved : (t : Trace) → IsMoved f (At t.node) t next → Wait gs levels f.caller ws →
        IsStage gs (levels ++ l ∷ []) next (runs g t.node t.slots t.entry ws)
    moved t m h = (
      m.place_is,
      ap (slice_get gs) m.proc ∙ at,
      m.slots,
      m.entry,
      subst (λ o. Wait gs (levels ++ l ∷ []) o ws) (sym m.caller) (wait_more levels l f.caller ws h),
    )

    came_back : (t : Trace) (o : Option ℕ) (ws : List Waiting) → IsReturned gs levels f o t next → Wait gs levels o ws →
        IsStage gs (levels ++ l ∷ []) next (gives_back t.slots ws)
    came_back t None [] r h = (r.place_is, r.slots)
    came_back t None (w ∷ ws) r h = absurd h
    came_back t (Some c) [] r h = absurd h
    came_back t (Some c) (w ∷ ws) r h =
        let b = r h.0 w h.1 h.2 in (
          b.place,
          ap (slice_get gs) b.proc ∙ h.2.graph,
          b.slots,
          b.entry,
          subst (λ o. Wait gs (levels ++ l ∷ []) o ws) (sym b.caller) (wait_more levels l h.0.frame.caller ws h.3),
        )

    plain_lies : (e : Edge) → is_call e ≡ false → (t : Trace) → IsBehind gs levels f e t next → Wait gs levels f.caller ws →
        IsStage gs (levels ++ l ∷ []) next (stage_after g ws e t)
    plain_lies (Entry to params) p t b h = moved t b h
    plain_lies (Assign from to slot value) p t b h = moved t b h
    plain_lies (Guard from to rows) p t b h = moved t b h
    plain_lies (Input from to slot) p t b h = moved t b h
    plain_lies (Pick from to slot rows) p t b h = moved t b h
    plain_lies (Call from to proc args results) p t b h = absurd (cc)
    plain_lies (Assert from to id rows) p t b h = b.place_is
    plain_lies (Return from to slots) p t b h = came_back t f.caller ws b h

  pub plain_step : (levels : List Level) (f next : Frame) (symbols edge node : ℕ) (e : Edge) (step : Step) (stage : Stage) →
      f.place ≡ At node →
      (g : Graph) → slice_get gs f.proc ≡ Some g → slice_get g.edges edge ≡ Some e → source e ≡ Some node → is_call e ≡ false →
      (t : Trace) →
      t ≡ extended (bare_trace symbols node f.slots f.entry) e → first_wide (sums_of (bare_trace symbols node f.slots f.entry) e) ≡ None →
      IsBehind gs levels f e t next → step.frame ≡ next → step.rows.atoms ≡ t.guard.atoms → step.read ≡ t.inputs → step.symbols
      ≡ t.symbols →
      IsStage gs levels f stage → IsStep gs levels f symbols edge step stage
  plain_step levels f next symbols edge node e step stage p g at_g at src plain t is narrow b frame rows read count st =
      let en = running levels f node stage p st in
      let same : en.graph ≡ g = same_Some en.graph g (sym en.at ∙ at_g) in
      let bt : Trace = bare_trace symbols node f.slots f.entry in
      let b' : IsBehind gs levels f e (extended bt e) next = subst (λ x. IsBehind gs levels f e x next) is b in
      subst (IsStep gs levels f symbols edge step) (sym en.is) (record {
        sums = sums_of bt e;
        after = record {
          symbols = (extended bt e).symbols;
          guard = (extended bt e).guard.atoms;
          inputs = (extended bt e).inputs;
          at = stage_after en.graph en.ws e (extended bt e);
        };
        follows = (
          e,
          subst (λ (x : Graph). slice_get x.edges edge ≡ Some e) (sym same) at,
          src,
          plain_follow (bare symbols (runs en.graph node f.slots f.entry en.ws)) en.graph node f.slots f.entry en.ws e plain,
        );
        narrow = narrow;
        rows = rows ∙ ap (λ (x : Trace). x.guard.atoms) is;
        read = read ∙ ap (λ (x : Trace). x.inputs) is;
        count = count ∙ ap (λ (x : Trace). x.symbols) is;
        lies = λ l lf le. subst (λ fr. IsStage gs (levels ++ l ∷ []) fr (stage_after en.graph en.ws e (extended bt e))) (sym frame)
            (plain_lies levels l f next en.graph en.ws en.at e plain (extended bt e) b' en.waits);
      })

  pub plain_wide : (levels : List Level) (f : Frame) (symbols edge node : ℕ) (e : Edge) (kept : Kept) (stage : Stage) → f.place ≡ At node →
      (g : Graph) → slice_get gs f.proc ≡ Some g → slice_get g.edges edge ≡ Some e → source e ≡ Some node → is_call e ≡ false →
      IsFirstWide (sums_of (bare_trace symbols node f.slots f.entry) e) kept → IsStage gs levels f stage → IsWideStep gs symbols edge kept
      stage
  plain_wide levels f symbols edge node e kept stage p g at_g at src plain wide st =
      let en = running levels f node stage p st in
      let same : en.graph ≡ g = same_Some en.graph g (sym en.at ∙ at_g) in
      let bt : Trace = bare_trace symbols node f.slots f.entry in
      subst (IsWideStep gs symbols edge kept) (sym en.is) (record {
        sums = sums_of bt e;
        after = record {
          symbols = (extended bt e).symbols;
          guard = (extended bt e).guard.atoms;
          inputs = (extended bt e).inputs;
          at = stage_after en.graph en.ws e (extended bt e);
        };
        follows = (
          e,
          subst (λ (x : Graph). slice_get x.edges edge ≡ Some e) (sym same) at,
          src,
          plain_follow (bare symbols (runs en.graph node f.slots f.entry en.ws)) en.graph node f.slots f.entry en.ws e plain,
        );
        wide = wide;
      })

  -- the edge that may follow a frame at a node
  pub next_at : (levels : List Level) (f : Frame) (edge node : ℕ) → f.place ≡ At node → HasNext gs levels f edge → (g : Graph) →
      slice_get gs f.proc ≡ Some g → (e : Edge) × (slice_get g.edges edge ≡ Some e) × (source e ≡ Some node)
  next_at levels f edge node p n g at_g =
      let en = running levels f node n.stage p n.is in
      let can : CanFollow (runs en.graph node f.slots f.entry en.ws) edge = subst (λ s. CanFollow s edge) en.is n.can in
      let same : en.graph ≡ g = same_Some en.graph g (sym en.at ∙ at_g) in
      (can.0, subst (λ (x : Graph). slice_get x.edges edge ≡ Some can.0) same can.1, can.2)

  pub graph_at : (levels : List Level) (f : Frame) (edge node : ℕ) → f.place ≡ At node → HasNext gs levels f edge →
      (g : Graph) × (slice_get gs f.proc ≡ Some g)
  graph_at levels f edge node p n = let en = running levels f node n.stage p n.is in (en.graph, en.at)

-- what stands at a place is what was read there
pub read_at : {X : Type 0} (xs : List X) (i : ℕ) (x y : X) → slice_get xs i ≡ Some y → x ≡ slice_index_or xs i x → slice_get xs i ≡ Some x
read_at xs i x y at is = at ∙ ap Some (sym (is ∙ get_or_from_slice_get xs i y x at))

pub list_at : {X : Type 0} (xs ys : List X) (i : ℕ) (x y : X) → ys ≡ xs → slice_get ys i ≡ Some y → x ≡ slice_index_or xs i x →
    slice_get xs i ≡ Some x
list_at xs ys i x y same at is = read_at xs i x y (subst (λ zs. slice_get zs i ≡ Some y) same at) is

pub not_call : (e : Edge) → ((from to proc : ℕ) (args results : List ℕ) → e ≡ Call from to proc args results → ⊥) → is_call e ≡ false
not_call (Entry to params) h = refl
not_call (Assign from to slot value) h = refl
not_call (Guard from to rows) h = refl
not_call (Input from to slot) h = refl
not_call (Pick from to slot rows) h = refl
not_call (Call from to proc args results) h = absurd (h from to proc args results refl)
not_call (Assert from to id rows) h = refl
not_call (Return from to slots) h = refl

pub level_same : (levels : List Level) (c : ℕ) (x l : Level) → slice_get levels c ≡ Some l → x ≡ slice_index_or levels c x → l ≡ x
level_same levels c x l at is = sym (is ∙ get_or_from_slice_get levels c l x at)

pub err_is : {A : Type 0} {E : Type 0} (r : Result A E) (e : E) → IsErr r → IsErrAnd r (λ x. x ≡ e) → r ≡ Err e
err_is (Ok a) e h k = absurd (cc)
err_is (Err x) e h k = ap Err k

pub refused_map : (e : ProjectionError) (P Q : Kept → Type 0) → ((k : Kept) → P k → Q k) → IfRefused e P → IfRefused e Q
refused_map (refusal.Limit kept) P Q f h = f kept h
refused_map refusal.Memory P Q f h = tt

-- the edge that was read there
pub record Here (gs : List Graph) (f : Frame) (edge node : ℕ) (g : Graph) (e : Edge) : Type 0 where
  pub at : slice_get gs f.proc ≡ Some g
  pub here : slice_get g.edges edge ≡ Some e
  pub leaves : source e ≡ Some node

pub edge_here : (gs : List Graph) (levels : List Level) (f : Frame) (edge node : ℕ) → f.place ≡ At node → HasNext gs levels f edge →
    (g : Graph)
    (edges : List Edge) (e : Edge) → g ≡ slice_index_or gs f.proc g → edges ≡ (slice_index_or gs f.proc g).edges →
    e ≡ slice_index_or edges edge e →
    Here gs f edge node g e
edge_here gs levels f edge node p n g edges e g_is edges_are e_is =
    let there = graph_at gs levels f edge node p n in
    let at = read_at gs f.proc g there.0 there.1 g_is in
    let k = next_at gs levels f edge node p n g at in
    let list : edges ≡ g.edges = edges_are ∙ ap (λ (x : Graph). x.edges) (sym g_is) in
    let same : k.0 ≡ e = sym (e_is ∙ get_or_from_slice_get edges edge k.0 e (subst (λ es. slice_get es edge ≡ Some k.0) (sym list) k.1)) in
    record {
      at = at;
      here = subst (λ x. slice_get g.edges edge ≡ Some x) same k.1;
      leaves = subst (λ x. source x ≡ Some node) same k.2;
    }

-- the graph of the called procedure
pub callee_at : (gs : List Graph) → AreGraphs gs → (p : ℕ) (g : Graph) → slice_get gs p ≡ Some g →
    (i from to : ℕ) (site : CallSite) →
    slice_get g.edges i ≡ Some (call_edge from to site) → (h : Graph) × (slice_get gs site.procedure ≡ Some h)
    × (length site.arguments ≡ h.params)
callee_at gs linked p g at i from to site call = on (slice_get gs site.procedure) (linked p g at i from to site call) where
  on : (o : Option Graph) → IsTrue (takes o (length site.arguments) (length site.results)) → (h : Graph) × (o ≡ Some h)
      × (length site.arguments ≡ h.params)
  on None t = absurd (cc)
  on (Some h) t = (
    h,
    refl,
    sym (eqb-true h.params (length site.arguments) (both (h.params == length site.arguments) (h.exits == length site.results) t).0),
  )

pub callee_read : (gs : List Graph) → AreGraphs gs → (p : ℕ) (g : Graph) → slice_get gs p ≡ Some g →
    (i from to : ℕ) (site : CallSite) →
    slice_get g.edges i ≡ Some (call_edge from to site) → (h : Graph) → h ≡ slice_index_or gs site.procedure h →
    (slice_get gs site.procedure ≡ Some h) × (length site.arguments ≡ h.params)
callee_read gs linked p g at i from to site call h is =
    let k = callee_at gs linked p g at i from to site call in
    let same : h ≡ k.0 = is ∙ get_or_from_slice_get gs site.procedure k.0 h k.1 in
    (k.1 ∙ ap Some (sym same), k.2 ∙ ap (λ (x : Graph). x.params) (sym same))

-- the edges that may follow a frame at a node
pub first_may : (gs : List Graph) (levels : List Level) (following : Following) (f : Frame) (node : ℕ) (stage : Stage) (o : Option ℕ) →
    AreAllLinks gs following → f.place ≡ At node → IsStage gs levels f stage →
    ((l : Links) → slice_get following.graphs.items f.proc ≡ Some l → o ≡ slice_index_or l.first.items node None) →
    IsFirst (CanFollow stage) 0 o
first_may gs levels following f node stage o links p is read =
    let en = running gs levels f node stage p is in
    let l = links.each f.proc en.graph en.at in
    subst (λ s. IsFirst (CanFollow s) 0 o) (sym en.is)
    (subst (IsFirst (Leaves en.graph.edges node) 0) (sym (read l.0 l.1)) (l.2.first node))

pub next_may : (gs : List Graph) (levels : List Level) (following : Following) (f : Frame) (node edge : ℕ) (stage : Stage) (o : Option ℕ) →
    AreAllLinks gs following → f.place ≡ At node → IsStage gs levels f stage → CanFollow stage edge →
    ((l : Links) → slice_get following.graphs.items f.proc ≡ Some l → o ≡ slice_index_or l.next.items edge None) →
    IsFirst (CanFollow stage) (edge + 1) o
next_may gs levels following f node edge stage o links p is can read =
    let en = running gs levels f node stage p is in
    let l = links.each f.proc en.graph en.at in
    subst (λ s. IsFirst (CanFollow s) (edge + 1) o) (sym en.is)
    (subst (IsFirst (Leaves en.graph.edges node) (edge + 1)) (sym (read l.0 l.1))
    (l.2.next node edge (subst (λ s. CanFollow s edge) en.is can)))

pub same_read : {X : Type 0} (xs ys : List X) (i : ℕ) (x y : X) → xs ≡ ys → slice_get ys i ≡ Some y → x ≡ slice_index_or xs i x → x ≡ y
same_read xs ys i x y same at is = is ∙ get_or_from_slice_get xs i y x (subst (λ zs. slice_get zs i ≡ Some y) (sym same) at)

pub ok_case : {A : Type 0} {E : Type 0} (r : Result A E) (P : Type 0) → ((a : A) → r ≡ Ok a → P) → OnOk r P
ok_case (Ok a) P f = f a refl
ok_case (Err e) P f = tt

pub ok_has : {A : Type 0} {E : Type 0} (r : Result A E) (P : Type 0) (a : A) → r ≡ Ok a → OnOk r P → P
ok_has r P a e h = subst (λ x. OnOk x P) e h
