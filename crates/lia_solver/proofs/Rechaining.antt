-- The lines of a table, put into chains anew.
use Rattle.std.proofs.Common.{◌≡◌, ◌⊎◌, inl, inr, ℕ, suc, ◌+◌, ◌<◌, ◌≤◌, List, [], ◌∷◌, length, map, get_or, set, replicate, ℤ, arith, refl, sym, ap, subst, ◌∙◌}
use Rattle.std.specs.List.{slice_range}
use Rattle.std.proofs.lemmas.Bool.{cases_lt, cases_eq}
use Rattle.std.proofs.lemmas.List.{get_or-replicate, get_or_default, length-set, get_or-set_same, get_or-set_other}
use Rattle.lia_solver.specs.declared.table.Line.{Line}
use Rattle.lia_solver.specs.steps.Buckets.{hash_of, chain_of}
use Rattle.lia_solver.specs.steps.Entries.{first_of}
use Rattle.lia_solver.specs.steps.Lines.{parts_of_line, parts_at, bucket_at, IsPast, AreInPool, IsChainedAnew}
use Rattle.lia_solver.proofs.Chains.{past-alike, chain-bound, hash-bound}
use Rattle.lia_solver.proofs.TableEntries.{entry_of_line}

-- the line is the same but for the one before it
pub record IsKept (l m : Line) : Type 0 where
  pub start : l.start ≡ m.start
  pub end : l.end ≡ m.end
  pub constant : l.constant ≡ m.constant
  pub least : l.least ≡ m.least
  pub origin : l.origin ≡ m.origin
  pub hash : l.hash ≡ m.hash
  pub first : l.first ≡ m.first

kept-itself : (l : Line) → IsKept l l
kept-itself l = record {
  start = refl;
  end = refl;
  constant = refl;
  least = refl;
  origin = refl;
  hash = refl;
  first = refl;
}

-- the first lines are in their chains
pub record AreChainedTo (chains : ℕ) (pool : List (ℕ × ℤ)) (old lines : List Line) (heads : List ℕ) (n : ℕ) : Type 0 where
  pub count : length lines ≡ length old
  pub kept : (i : ℕ) (d : Line) → i < length old → IsKept (get_or lines i d) (get_or old i d)
  pub before : (i : ℕ) (d : Line) → i < n → IsPast chains pool old i (bucket_at chains pool old i) (get_or lines i d).before
  pub last : (b : ℕ) → b < chains → IsPast chains pool old n b (get_or heads b 0)

pub chained-none : (chains : ℕ) (pool : List (ℕ × ℤ)) (old : List Line) (heads : List ℕ) → heads ≡ replicate chains 0 →
    AreChainedTo chains pool old old heads 0
chained-none chains pool old heads e = record {
  count = refl;
  kept = λ i d h. kept-itself (get_or old i d);
  before = λ i d h. absurd (omega (arith, h));
  last = λ b h. subst (λ (p : ℕ). IsPast chains pool old 0 b p)
      (sym (ap (λ (hs : List ℕ). get_or hs b 0) e ∙ get_or-replicate chains b 0 0 h)) (record {
        limit = omega arith;
        none = λ j u v w. omega (arith, v);
        last = λ j u. absurd (omega (arith, u));
      });
}

-- the next line in its chain
abbrev pub chained_line : Line → (before : ℕ) → Line
chained_line l before = record l { before = before }

pub chained-more : (chains : ℕ) (pool : List (ℕ × ℤ)) (old lines : List Line) (heads : List ℕ) (n : ℕ) (d : Line) (chain : ℕ) →
    0 < chains → length heads ≡ chains → n < length old → AreInPool pool old → AreChainedTo chains pool old lines heads n →
    chain ≡ chain_of chains (get_or lines n d).hash →
    AreChainedTo chains pool old (set lines n (chained_line (get_or lines n d) (get_or heads chain 0))) (set heads chain (n + 1)) (n + 1)
chained-more chains pool old lines heads n d chain some size inside p h e = record {
  count = length-set lines n l ∙ h.count;
  kept = λ i f q. kept i f q (cases_eq i n);
  before = λ i f q. before i f q (cases_eq i n);
  last = λ b q. last b q (cases_eq b chain);
} where
  l : Line
  l = chained_line (get_or lines n d) (get_or heads chain 0)

  anew : (r m : Line) → IsKept r m → IsKept (chained_line r (get_or heads chain 0)) m
  anew r m k = record {
    start = k.start;
    end = k.end;
    constant = k.constant;
    least = k.least;
    origin = k.origin;
    hash = k.hash;
    first = k.first;
  }

  there : n < length lines
  there = omega (arith, inside, h.count)

  here : chain ≡ bucket_at chains pool old n
  here = e ∙ ap (chain_of chains) ((h.kept n d inside).hash ∙ p.hash n d inside)

  bound : chain < chains
  bound = subst (λ (c : ℕ). c < chains) (sym here) (chain-bound chains (hash_of (parts_at pool old n)) some
      (hash-bound (parts_at pool old n)))

  kept : (i : ℕ) (f : Line) → i < length old → (i ≡ n) ⊎ (i ≡ n → ⊥) → IsKept (get_or (set lines n l) i f) (get_or old i f)
  kept i f q (inl s) =
      subst (λ (j : ℕ). IsKept (get_or (set lines n l) j f) (get_or old j f)) (sym s)
      (subst (λ (r : Line). IsKept r (get_or old n f)) (sym (get_or-set_same lines n l f there))
      (subst (λ (r : Line). IsKept (chained_line r (get_or heads chain 0)) (get_or old n f)) (get_or_default lines n f d there)
      (anew (get_or lines n f) (get_or old n f) (h.kept n f inside))))
  kept i f q (inr m) = subst (λ (r : Line). IsKept r (get_or old i f)) (sym (get_or-set_other lines n i l f m)) (h.kept i f q)

  before : (i : ℕ) (f : Line) → i < n + 1 → (i ≡ n) ⊎ (i ≡ n → ⊥) → IsPast chains pool old i (bucket_at chains pool old i)
      (get_or (set lines n l) i f).before
  before i f q (inl s) =
      subst (λ (j : ℕ). IsPast chains pool old j (bucket_at chains pool old j) (get_or (set lines n l) j f).before) (sym s)
      (subst (λ (r : Line). IsPast chains pool old n (bucket_at chains pool old n) r.before) (sym (get_or-set_same lines n l f there))
      (subst (λ (b : ℕ). IsPast chains pool old n b (get_or heads chain 0)) here (h.last chain bound)))
  before i f q (inr m) =
      let less : i < n = omega (arith, q, m) in
      subst (λ (r : Line). IsPast chains pool old i (bucket_at chains pool old i) r.before) (sym (get_or-set_other lines n i l f m))
      (h.before i f less)

  last : (b : ℕ) → b < chains → (b ≡ chain) ⊎ (b ≡ chain → ⊥) → IsPast chains pool old (n + 1) b (get_or (set heads chain (n + 1)) b 0)
  last b q (inl s) =
      let g = get_or-set_same heads chain (n + 1) 0 (omega (arith, bound, size)) in
      subst (λ (p : ℕ). IsPast chains pool old (n + 1) b p)
      (sym (ap (λ (c : ℕ). get_or (set heads chain (n + 1)) c 0) s ∙ g)) (record {
        limit = omega arith;
        none = λ j u v w. omega (arith, u, v);
        last = λ j u. ap (bucket_at chains pool old) (omega (arith, u)) ∙ sym here ∙ sym s;
      })
  last b q (inr m) =
      let g = h.last b q in
      subst (λ (p : ℕ). IsPast chains pool old (n + 1) b p) (sym (get_or-set_other heads chain b (n + 1) 0 m)) (record {
        limit = omega (arith, g.limit);
        none = λ j u v w. beyond j u v w (cases_lt j n);
        last = g.last;
      }) where
        beyond : (j : ℕ) → get_or heads b 0 ≤ j → j < n + 1 → bucket_at chains pool old j ≡ b → (j < n) ⊎ (n ≤ j) → ⊥
        beyond j u v w (inl lt) = (h.last b q).none j u lt w
        beyond j u v w (inr ge) =
            let same : j ≡ n = omega (arith, v, ge) in
            m (sym w ∙ ap (bucket_at chains pool old) same ∙ sym here)

-- All lines

map-same : {B : Type 0} (f : Line → B) (xs ys : List Line) → length xs ≡ length ys →
    ((i : ℕ) (d : Line) → i < length ys → f (get_or xs i d) ≡ f (get_or ys i d)) → map f xs ≡ map f ys
map-same f [] [] e h = refl
map-same f [] (y ∷ ys) e h = absurd (omega (arith, e))
map-same f (x ∷ xs) [] e h = absurd (omega (arith, e))
map-same f (x ∷ xs) (y ∷ ys) e h =
    ap (λ z. z ∷ map f xs) (h 0 y (omega arith))
    ∙ ap (λ zs. f y ∷ zs) (map-same f xs ys (omega (arith, e)) (λ i d k. h (suc i) d (omega (arith, k))))

kept-parts : (pool : List (ℕ × ℤ)) (l m : Line) → IsKept l m → parts_of_line pool l ≡ parts_of_line pool m
kept-parts pool l m k = ap (λ a. slice_range pool a l.end) k.start ∙ ap (λ b. slice_range pool m.start b) k.end

kept-entry : (pool : List (ℕ × ℤ)) (l m : Line) → IsKept l m → entry_of_line pool l ≡ entry_of_line pool m
kept-entry pool l m k = λ i. record {
  sum = record { parts = kept-parts pool l m k i; constant = k.constant i };
  least = k.least i;
  origin = k.origin i;
}

pub chained-all : (pool : List (ℕ × ℤ)) (old lines : List Line) (heads : List ℕ) (n : ℕ) → 0 < length heads → length heads ≤ 65536 →
    n ≡ length old → AreInPool pool old → AreChainedTo (length heads) pool old lines heads n → IsChainedAnew pool old lines heads
chained-all pool old lines heads n some limit e p h = record {
  lines = record {
    chained = record {
      lying = record {
        inside = λ i d q.
            let k = h.kept i d (below i q) in
            let b = p.inside i d (below i q) in
            (omega (arith, k.start, k.end, b.0), omega (arith, k.end, b.1));
        hash = λ i d q. (h.kept i d (below i q)).hash ∙ p.hash i d (below i q) ∙ sym (ap hash_of (same i));
        first = λ i d q. (h.kept i d (below i q)).first ∙ p.first i d (below i q) ∙ sym (ap first_of (same i));
      };
      before = λ i d q.
          subst (λ (b : ℕ). IsPast chains pool lines i b (get_or lines i d).before) (sym (ap (λ ps. bucket ps) (same i)))
          (past-alike chains pool pool old lines i (bucket_at chains pool old i) (get_or lines i d).before same
          (h.before i d (omega (arith, below i q, e))));
    };
    some = some;
    limit = limit;
    last = λ b q.
        let all : length lines ≡ n = h.count ∙ sym e in
        subst (λ (m : ℕ). IsPast chains pool lines m b (get_or heads b 0)) (sym all)
        (past-alike chains pool pool old lines n b (get_or heads b 0) same (h.last b q));
  };
  entries = map-same (entry_of_line pool) lines old h.count (λ i d q. kept-entry pool (get_or lines i d) (get_or old i d) (h.kept i d q));
} where
  chains : ℕ
  chains = length heads

  bucket : List (ℕ × ℤ) → ℕ
  bucket ps = chain_of chains (hash_of ps)

  below : (i : ℕ) → i < length lines → i < length old
  below i q = omega (arith, q, h.count)

  same : (i : ℕ) → parts_at pool lines i ≡ parts_at pool old i
  same i = ap (λ ps. get_or ps i []) (map-same (parts_of_line pool) lines old h.count (λ j d q. kept-parts pool (get_or lines j d)
      (get_or old j d) (h.kept j d q)))
