-- A run that fails has its path.
use Rattle.std.proofs.Common.{◌≡◌, ℕ, zero, suc, List, [], ◌∷◌, ◌++◌, Option, Some, None, ℤ, map, refl, sym, subst, ap}
use Rattle.std.specs.Prelude.{slice_get}
use Rattle.c_tree.specs.Meaning.{entered}
use Rattle.flow_graph.specs.declared.graph.Edge.{Edge}
use Rattle.flow_graph.specs.declared.graph.Edge.TheVariants.{Entry, Assign, Guard, Input, Pick, Call, Assert, Return}
use Rattle.flow_graph.specs.declared.graph.Graph.{Graph}
use Rattle.flow_graph.specs.Shapes.{source}
use Rattle.flow_graph.specs.Runs.{End, came, stopped, failed, Place, inside, left, failing, halted, Called, Step, EndsIn, EntersGraph, GraphRun, after_call}
use Rattle.path_sweep.specs.Executions.{Caller, Standing, entering, running, ended, returns, standing_at, OverEdge, Over, Takes}
use Rattle.path_sweep.specs.Laws.{FailuresHavePaths}

module _ (gs : List Graph) where
  pub takes_append : (xs ys : List ℕ) (a b c : Standing) (ins mid rest : List ℤ) → Takes gs xs a ins b mid → Takes gs ys b mid c rest →
      Takes gs (xs ++ ys) a ins c rest
  takes_append [] ys a b c ins mid rest h k =
      subst (λ z. Takes gs ys z ins c rest) h.0 (subst (λ l. Takes gs ys b l c rest) h.1 k)
  takes_append (x ∷ xs) ys a b c ins mid rest h k = (h.0, h.1, h.2, takes_append xs ys h.0 b c h.1 mid rest h.3 k)

  -- where the end of a frame leads
  abbrev after : End → List Caller → Standing
  after (came values) cs = returns values cs
  after stopped cs = ended stopped
  after (failed id) cs = ended (failed id)

  abbrev Goes : End → Type 0
  Goes (came values) = Unit {0}
  Goes stopped = ⊥
  Goes (failed id) = Unit {0}

  record HasPath (a : Standing) (ins : List ℤ) (b : Standing) (rest : List ℤ) : Type 0 where
    pub path : List ℕ
    pub takes : Takes gs path a ins b rest

  one : (i : ℕ) (a c b : Standing) (ins mid rest : List ℤ) → Over gs i a ins c mid → HasPath c mid b rest → HasPath a ins b rest
  one i a c b ins mid rest h p = record { path = i ∷ p.path; takes = (c, mid, h, p.takes) }

  join : (a b c : Standing) (ins mid rest : List ℤ) → HasPath a ins b mid → HasPath b mid c rest → HasPath a ins c rest
  join a b c ins mid rest p q = record { path = p.path ++ q.path; takes = takes_append p.path q.path a b c ins mid rest p.takes q.takes }

  -- the calls of a frame have paths
  abbrev HavePaths : Called → Type 0
  HavePaths C = (p : ℕ) (args ins rest : List ℤ) (end : End) → C p args ins rest end → Goes end → (cs : List Caller) →
      (h : Graph) × (slice_get gs p ≡ Some h) × HasPath (entering h args cs) ins (after end cs) rest

  module _ (C : Called) (calls : HavePaths C) (g : Graph) (cs : List Caller) where
    ends : (k : ℕ) (a : Place) (ins rest : List ℤ) (end : End) → EndsIn C g.edges k a ins rest end → Goes end →
        HasPath (standing_at g cs a) ins (after end cs) rest
    ends zero (inside n s) ins rest end h w = absurd (subst Goes h.0.0 w)
    ends zero (left values) ins rest end h w = record { path = []; takes = (ap (λ e. after e cs) h.0, h.1) }
    ends zero (failing id s) ins rest end h w = record { path = []; takes = (ap (λ e. after e cs) h.0, h.1) }
    ends zero halted ins rest end h w = absurd (subst Goes h.0 w)
    ends (suc k) (left values) ins rest end h w = absurd h.2
    ends (suc k) (failing id s) ins rest end h w = absurd h.2
    ends (suc k) halted ins rest end h w = absurd h.2
    ends (suc k) (inside n s) ins rest end h w =
        by_edge h.2.0 h.2.1 h.2.2 h.2.3 h.0 h.1 h.2.4 (λ v. ends k h.0 h.1 rest end h.3 v) (λ e. halts k h.0 h.1 rest end e h.3 w) w where
          halts : (k : ℕ) (b : Place) (mid rest : List ℤ) (end : End) → b ≡ halted → EndsIn C g.edges k b mid rest end → Goes end → ⊥
          halts k b mid rest end e f w = at_halt k mid rest (subst (λ z. EndsIn C g.edges k z mid rest end) e f) where
            at_halt : (k : ℕ) (mid rest : List ℤ) → EndsIn C g.edges k halted mid rest end → ⊥
            at_halt zero mid rest f = subst Goes f.0 w
            at_halt (suc k) mid rest f = f.2

          plain : (i : ℕ) (e : Edge) → slice_get g.edges i ≡ Some e → source e ≡ Some n → (b : Place) (mid : List ℤ) →
              OverEdge gs g cs e s ins (standing_at g cs b) mid → HasPath (standing_at g cs b) mid (after end cs) rest →
              HasPath (running g n s cs) ins (after end cs) rest
          plain i e at src b mid o p = one i (running g n s cs) (standing_at g cs b) (after end cs) ins mid rest (e, at, src, o) p

          by_edge : (i : ℕ) (e : Edge) → slice_get g.edges i ≡ Some e → source e ≡ Some n → (b : Place) (mid : List ℤ) →
              Step C e s ins b mid → (Goes end → HasPath (standing_at g cs b) mid (after end cs) rest) → (b ≡ halted → ⊥) → Goes end →
              HasPath (running g n s cs) ins (after end cs) rest
          by_edge i (Entry to params) at src b mid st next no_halt w = absurd st
          by_edge i (Assign from to x value) at src b mid st next no_halt w = plain i (Assign from to x value) at src b mid (b, st, refl)
              (next w)
          by_edge i (Guard from to rows) at src b mid st next no_halt w = plain i (Guard from to rows) at src b mid (b, st, refl) (next w)
          by_edge i (Input from to x) at src b mid st next no_halt w = plain i (Input from to x) at src b mid (b, st, refl) (next w)
          by_edge i (Pick from to x rows) at src b mid st next no_halt w = plain i (Pick from to x rows) at src b mid (b, st, refl) (next w)
          by_edge i (Assert from to id rows) at src b mid st next no_halt w = plain i (Assert from to id rows) at src b mid (b, st, refl)
              (next w)
          by_edge i (Return from to x) at src b mid st next no_halt w = plain i (Return from to x) at src b mid (b, st, refl) (next w)
          by_edge i (Call from to proc args results) at src b mid st next no_halt w = by_end st.0 st.1 st.2 where
            c : Caller
            c = record { graph = g; to = to; results = results; slots = s }

            called : (e : End) → C proc (map s args) ins mid e → Goes e → standing_at g cs b ≡ after e (c ∷ cs) →
                HasPath (running g n s cs) ins (after end cs) rest
            called e run goes meet =
                let p = calls proc (map s args) ins mid e run goes (c ∷ cs) in
                one i (running g n s cs) (entering p.0 (map s args) (c ∷ cs)) (after end cs) ins ins rest
                (Call from to proc args results, at, src, (p.0, p.1, refl, refl))
                (join (entering p.0 (map s args) (c ∷ cs)) (standing_at g cs b) (after end cs) ins mid rest
                (subst (λ z. HasPath (entering p.0 (map s args) (c ∷ cs)) ins z mid) (sym meet) p.2) (next w))

            by_end : (e : End) → C proc (map s args) ins mid e → b ≡ after_call to results s e → HasPath (running g n s cs) ins
                (after end cs)
                rest
            by_end (came values) run at_b = called (came values) run tt (ap (standing_at g cs) at_b)
            by_end (failed id) run at_b = called (failed id) run tt (ap (standing_at g cs) at_b)
            by_end stopped run at_b = absurd (no_halt at_b)

  enters : (C : Called) → HavePaths C → (p : ℕ) (o : Option Graph) → slice_get gs p ≡ o → (args ins rest : List ℤ) (end : End) →
      EntersGraph C o args ins rest end → Goes end → (cs : List Caller) →
      (h : Graph) × (slice_get gs p ≡ Some h) × HasPath (entering h args cs) ins (after end cs) rest
  enters C calls p None e args ins rest end f w cs = absurd f
  enters C calls p (Some h) e args ins rest end f w cs = (
    h,
    e,
    one 0 (entering h args cs) (running h f.0 (entered args) cs) (after end cs)
        ins ins rest (refl, f.0, f.1, f.3, refl, refl) (ends C calls h cs f.2 (inside f.0 (entered args)) ins rest end f.4 w),
  )

  graphs : (d : ℕ) → HavePaths (GraphRun gs d)
  graphs zero p args ins rest end run w cs = absurd run
  graphs (suc d) p args ins rest end run w cs = enters (GraphRun gs d) (graphs d) p (slice_get gs p) refl args ins rest end run w cs

pub failures_have_paths : FailuresHavePaths
failures_have_paths gs main d ins id run =
    let p = graphs gs d main [] ins [] (failed id) run tt [] in
    (p.2.path, record { graph = p.0; at = p.1; takes = p.2.takes })
