use Rattle.std.proofs.Common.{◌≡◌, ◌<◌, ◌+◌, ◌∷◌, ◌++◌, [], List, ℕ, ℤ, length, get_or, set, to_z, of_z, FitsSigned, to_z-of_z, arith, rules, refl, sym, ap, subst, ◌∙◌}
use Rattle.std.specs.Int.{w128}
use Rattle.std.proofs.lemmas.List.{get_or_default}
use Rattle.linear_formula.specs.LinearSum.{LinearSum}
use Rattle.lia_solver.specs.declared.table.Line.{Line}
use Rattle.lia_solver.specs.declared.table.Origin.{Origin}
use Rattle.lia_solver.specs.steps.Buckets.{hash_of, chain_of}
use Rattle.lia_solver.specs.steps.Entries.{IsAdded, first_of}
use Rattle.lia_solver.specs.steps.Lines.{AreLines, entries_of, heads_of, parts_at, joined_line}
use Rattle.lia_solver.proofs.Chains.{no_line, chained-in, lines-joined, lines-grown, lines-added, IsLastLine}
use Rattle.lia_solver.proofs.TableEntries.{added-joined, added-new}
use Rattle.lia_solver.proofs.table.Table.put.Goals as goal

-- the line that is joined, as it stood
joined-is : (lines : List Line) (place : ℕ) (line result : Line) (constant : ℤ) (o : Origin) → place < length lines →
    line ≡ get_or lines place line → FitsSigned w128 constant → result ≡ joined_line line (to_z w128 (of_z w128 constant)) o → result
    ≡ joined_line (get_or lines place no_line) constant o
joined-is lines place line result constant o h e f g =
    g ∙ ap (λ z. joined_line line z o) (to_z-of_z f) ∙ ap (λ l. joined_line l constant o)
    (e ∙ get_or_default lines place line no_line h)

pub find-requires-clause-chained : goal.find-requires-clause-chained
find-requires-clause-chained c =
    chained-in c.self.inside.parts.items c.deref-2.result.now c.self.inside.lines.items c.deref-3.result.now
    (heads_of c.self.inside.few c.self.inside.many.items) c.heads_of-heads.result.now c.chain_of-chain.result c.hash_of-hash.result
    c.args.parts.now c.self.invariant c.deref-2.ensures.value c.deref-3.ensures.value
    (c.heads_of-heads.ensures ∙ ap (heads_of c.self.inside.few) c.deref.ensures.value) c.hash_of-hash.ensures
    c.chain_of-chain.ensures.value

pub invariant_of-self : goal.invariant_of-self
invariant_of-self c =
    let pool = c.self.inside.parts.items in
    let lines = c.self.inside.lines.items in
    let heads = heads_of c.self.inside.few c.self.inside.many.items in
    let h : c.in-Some.place < length lines = omega (arith, c.in-Some.ensures.0, ap (λ (ls : List Line). length ls) c.deref-3.ensures.value)
    in
    let f : FitsSigned w128 c.args.constant = search rules in
    subst (λ (l : Line). AreLines pool (set lines c.in-Some.place l) heads)
    (sym (joined-is lines c.in-Some.place c.index_mut.result.now c.join.new.line c.args.constant c.args.origin h c.index_mut.ensures.value f
    c.join.ensures)) (lines-joined (length heads) pool lines heads c.in-Some.place c.args.constant c.args.origin c.self.invariant h)

pub returns-in-Some : goal.returns-in-Some
returns-in-Some c =
    let pool = c.self.inside.parts.items in
    let lines = c.self.inside.lines.items in
    let h : c.in-Some.place < length lines = omega (arith, c.in-Some.ensures.0, ap (λ (ls : List Line). length ls) c.deref-3.ensures.value)
    in
    let f : FitsSigned w128 c.args.constant = search rules in
    let t : LinearSum = record { parts = c.args.parts.now; constant = c.args.constant } in
    let here : parts_at pool lines c.in-Some.place ≡ t.parts = ap (λ ls. parts_at pool ls c.in-Some.place) (sym c.deref-3.ensures.value)
    ∙ ap (λ ps. parts_at ps c.deref-3.result.now c.in-Some.place) (sym c.deref-2.ensures.value) ∙ c.in-Some.ensures.1 in
    subst (λ (l : Line). IsAdded t c.args.origin c.args.self.now (entries_of pool (set lines c.in-Some.place l)))
    (sym (joined-is lines c.in-Some.place c.index_mut.result.now c.join.new.line c.args.constant c.args.origin h c.index_mut.ensures.value f
    c.join.ensures)) (added-joined pool lines c.args.self.now c.in-Some.place t c.args.origin c.self.view_is h here)

pub invariant_of-self-in_err-push-in-None : goal.invariant_of-self-in_err-push-in-None
invariant_of-self-in_err-push-in-None c =
    let heads = heads_of c.self.inside.few c.self.inside.many.items in
    subst (λ (ps : List (ℕ × ℤ)). AreLines ps c.push.new.self.items heads) (sym c.in_ok-append-in-None.ensures.items)
    (subst (λ (ls : List Line). AreLines (c.self.inside.parts.items ++ c.args.parts.now) ls heads)
    (sym c.in_err-push-in-None.ensures.items)
    (lines-grown (length heads) c.self.inside.parts.items c.args.parts.now c.self.inside.lines.items heads c.self.invariant))

-- the line that is pushed
abbrev line_of : (start end before hash first : ℕ) → ℤ → Origin → Line
line_of start end before hash first c o = record {
  start = start;
  end = end;
  constant = c;
  least = c;
  origin = o;
  before = before;
  hash = hash;
  first = first;
}

pushed-line : (chains : ℕ) (pool parts more : List (ℕ × ℤ)) (heads : List ℕ) (start end chain hash before first : ℕ) (c : ℤ)
    (o : Origin) →
    start ≡ length pool → end ≡ length more → more ≡ pool ++ parts → hash ≡ hash_of parts → chain ≡ chain_of chains hash →
    before ≡ get_or heads chain 0 → first ≡ first_of parts → IsLastLine chains pool parts heads (line_of start end before hash first c o)
pushed-line chains pool parts more heads start end chain hash before first c o e f g h b k i = record {
  start = e;
  end = f ∙ ap (λ (ps : List (ℕ × ℤ)). length ps) g;
  before = k ∙ ap (λ (m : ℕ). get_or heads m 0) (b ∙ ap (chain_of chains) h);
  hash = h;
  first = i;
}

pub invariant_of-self-in-None : goal.invariant_of-self-in-None
invariant_of-self-in-None c =
    let pool = c.self.inside.parts.items in
    let lines = c.self.inside.lines.items in
    let heads = heads_of c.self.inside.few c.self.inside.many.items in
    let parts = c.args.parts.now in
    let hash = c.hash_of-hash.result in
    let before = get_or c.heads_of-heads.result.now c.chain_of-chain.result 0 in
    let l = line_of c.len-start.result c.len-end.result before hash c.first_of-first.result (to_z w128 (of_z w128 c.args.constant))
    c.args.origin in
    let more : c.append.new.pool.items ≡ pool ++ parts = c.in_ok-append-in-None.ensures.items in
    let items : c.push.new.self.items ≡ lines ++ l ∷ [] = c.in_ok-push-in-None.ensures.items in
    let uses : c.heads_of-heads.result.now ≡ heads = c.heads_of-heads.ensures
    ∙ ap (heads_of c.self.inside.few) c.deref.ensures.value in
    let chain : c.chain_of-chain.result ≡ chain_of (length heads) hash = c.chain_of-chain.ensures.value
    ∙ ap (λ (hs : List ℕ). chain_of (length hs) hash) uses in
    let head : before ≡ get_or heads c.chain_of-chain.result 0 = ap (λ hs. get_or hs c.chain_of-chain.result 0) uses in
    let last = pushed-line (length heads) pool parts c.append.new.pool.items heads c.len-start.result c.len-end.result
    c.chain_of-chain.result hash before c.first_of-first.result (to_z w128 (of_z w128 c.args.constant)) c.args.origin
    (c.len-start.ensures ∙ c.self.inside.parts.ok.0) (c.len-end.ensures ∙ c.append.new.pool.ok.0) more c.hash_of-hash.ensures
    chain head c.first_of-first.ensures in
    let number : c.in-Ok.number ≡ length lines + 1 = omega (arith, c.in-Ok.ensures, c.len.ensures, c.self.inside.lines.ok.0) in
    subst (λ (hs : List ℕ). AreLines c.append.new.pool.items c.push.new.self.items hs) (sym c.set_head.ensures)
    (lines-added pool parts c.append.new.pool.items lines c.push.new.self.items heads l c.chain_of-chain.result c.in-Ok.number
    c.self.invariant last more items (chain ∙ ap (chain_of (length heads)) c.hash_of-hash.ensures) number)

pub returns-in_ok-push-in-None : goal.returns-in_ok-push-in-None
returns-in_ok-push-in-None c =
    let pool = c.self.inside.parts.items in
    let lines = c.self.inside.lines.items in
    let heads = heads_of c.self.inside.few c.self.inside.many.items in
    let parts = c.args.parts.now in
    let hash = c.hash_of-hash.result in
    let before = get_or c.heads_of-heads.result.now c.chain_of-chain.result 0 in
    let f : FitsSigned w128 c.args.constant = search rules in
    let t : LinearSum = record { parts = parts; constant = c.args.constant } in
    let l = line_of c.len-start.result c.len-end.result before hash c.first_of-first.result (to_z w128 (of_z w128 c.args.constant))
    c.args.origin in
    let more : c.append.new.pool.items ≡ pool ++ parts = c.in_ok-append-in-None.ensures.items in
    let items : c.push.new.self.items ≡ lines ++ l ∷ [] = c.in_ok-push-in-None.ensures.items in
    let uses : c.heads_of-heads.result.now ≡ heads = c.heads_of-heads.ensures
    ∙ ap (heads_of c.self.inside.few) c.deref.ensures.value in
    let chain : c.chain_of-chain.result ≡ chain_of (length heads) hash = c.chain_of-chain.ensures.value
    ∙ ap (λ (hs : List ℕ). chain_of (length hs) hash) uses in
    let head : before ≡ get_or heads c.chain_of-chain.result 0 = ap (λ hs. get_or hs c.chain_of-chain.result 0) uses in
    let last = pushed-line (length heads) pool parts c.append.new.pool.items heads c.len-start.result c.len-end.result
    c.chain_of-chain.result hash before c.first_of-first.result (to_z w128 (of_z w128 c.args.constant)) c.args.origin
    (c.len-start.ensures ∙ c.self.inside.parts.ok.0) (c.len-end.ensures ∙ c.append.new.pool.ok.0) more c.hash_of-hash.ensures
    chain head c.first_of-first.ensures in
    let other : (i : ℕ) → i < length lines → parts_at pool lines i ≡ parts → ⊥ =
    λ i k e. c.in-None.ensures i (subst (λ (ls : List Line). i < length ls) (sym c.deref-3.ensures.value) k)
    (ap (λ ls. parts_at c.deref-2.result.now ls i) c.deref-3.ensures.value ∙ ap (λ ps. parts_at ps lines i) c.deref-2.ensures.value ∙ e) in
    subst (λ (ps : List (ℕ × ℤ)). IsAdded t c.args.origin c.args.self.now (entries_of ps c.push.new.self.items)) (sym more)
    (subst (λ (ls : List Line). IsAdded t c.args.origin c.args.self.now (entries_of (pool ++ parts) ls)) (sym items)
    (added-new (length heads) pool lines heads c.args.self.now t c.args.origin l c.self.view_is c.self.invariant.chained.lying other last
    (to_z-of_z f) (to_z-of_z f) refl))
