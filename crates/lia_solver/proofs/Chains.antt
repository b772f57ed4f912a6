-- The chains of a table's rows.
use Rattle.std.proofs.Common.{◌≡◌, ◌⊎◌, inl, inr, ℕ, suc, zero, ◌+◌, ◌-◌, ◌<◌, ◌≤◌, List, [], ◌∷◌, ◌++◌, length, map, get_or, set, replicate, take, drop, fold, ℤ, pos, Bool, true, false, ◌*◌, ◌%◌, arith, refl, sym, ap, subst, ◌∙◌}
use Rattle.std.specs.Prelude.{int_lt, unsigned_abs, if◌then◌else◌}
use Rattle.std.proofs.lemmas.Bool.{cases_lt, cases_eq}
use Rattle.lia_solver.specs.declared.table.Line.{Line}
use Rattle.lia_solver.specs.declared.table.Origin.{Origin}
use Rattle.lia_solver.specs.declared.table.Origin.TheVariants.{Given}
use Rattle.lia_solver.specs.steps.Buckets.{sign_code, next_hash, hash_of, chain_of, bucket_of}
use Rattle.lia_solver.specs.steps.Entries.{first_of}
use Rattle.std.specs.Int.{int_min}
use Rattle.std.specs.List.{slice_range}
use Rattle.std.proofs.lemmas.List.{get_or-map, get_or-replicate, length-replicate, length-map, length-set, length-drop, length-append, take-append-le, take_all, get_or_append_left, get_or_push, get_or_default, drop-append-le, map-append, get_or-set_same, get_or-set_other}
use Rattle.std.proofs.Math.Nat.{mod-lt, mul-le-mul_left, div-lt_iff_lt-mul}
use Rattle.std.proofs.Math.Seq.{drop-append_seam, map-set_same}
use Rattle.lia_solver.specs.steps.Lines.{parts_of_line, parts_at, bucket_at, IsPast, AreInPool, AreHeaded, AreLines, IsChained, heads_of, joined_line}

-- A search along a chain

-- no line from `past` on has these coefficients, and the one before it is in their chain
pub record IsFinding (chains : ℕ) (pool : List (ℕ × ℤ)) (lines : List Line) (past : ℕ) (parts : List (ℕ × ℤ)) : Type 0 where
  pub limit : past ≤ length lines
  pub other : (j : ℕ) → past ≤ j → j < length lines → parts_at pool lines j ≡ parts → ⊥
  pub chain : (j : ℕ) → past ≡ suc j → bucket_at chains pool lines j ≡ bucket_of chains parts

-- the line before has other coefficients
pub finding-more : (chains : ℕ) (pool : List (ℕ × ℤ)) (lines : List Line) (past place before : ℕ) (parts : List (ℕ × ℤ)) →
    past ≡ suc place → IsFinding chains pool lines past parts → IsPast chains pool lines place (bucket_at chains pool lines place) before →
    (parts_at pool lines place ≡ parts → ⊥) → IsFinding chains pool lines before parts
finding-more chains pool lines past place before parts e f h n = record {
  limit = omega (arith, h.limit, f.limit, e);
  other = λ j a b d. by_side j a b d (cases_lt j place);
  chain = λ j d. h.last j d ∙ f.chain place e;
} where
  by_side : (j : ℕ) → before ≤ j → j < length lines → parts_at pool lines j ≡ parts → (j < place) ⊎ (place ≤ j) → ⊥
  by_side j a b d (inl lt) = h.none j a lt (ap (bucket_of chains) d ∙ sym (f.chain place e))
  by_side j a b d (inr le) = by_place (cases_lt place j) where
    by_place : (place < j) ⊎ (j ≤ place) → ⊥
    by_place (inl lt) = f.other j (omega (arith, e, lt)) b d
    by_place (inr ge) =
        let same : j ≡ place = omega (arith, le, ge) in
        n (ap (parts_at pool lines) (sym same) ∙ d)

-- Lines at their places

pub parts-map : (pool : List (ℕ × ℤ)) (lines : List Line) (i : ℕ) (d : Line) → i < length lines → parts_at pool lines i
    ≡ parts_of_line pool (get_or lines i d)
parts-map pool lines i d h = get_or-map (parts_of_line pool) lines i d [] h

-- the lines of both lie at the same places and are in the same chains
pub record AreAlike (pool other : List (ℕ × ℤ)) (lines more : List Line) : Type 0 where
  pub count : length more ≡ length lines
  pub parts : (i : ℕ) → parts_at other more i ≡ parts_at pool lines i
  pub inside : (i : ℕ) (d : Line) → i < length lines → ((get_or more i d).start ≤ (get_or more i d).end)
      × ((get_or more i d).end ≤ length other)
  pub before : (i : ℕ) (d : Line) → i < length lines → (get_or more i d).before ≡ (get_or lines i d).before
  pub hash : (i : ℕ) (d : Line) → i < length lines → (get_or more i d).hash ≡ (get_or lines i d).hash
  pub first : (i : ℕ) (d : Line) → i < length lines → (get_or more i d).first ≡ (get_or lines i d).first

pub past-alike : (chains : ℕ) (pool other : List (ℕ × ℤ)) (lines more : List Line) (n b past : ℕ) →
    ((i : ℕ) → parts_at other more i ≡ parts_at pool lines i) →
    IsPast chains pool lines n b past → IsPast chains other more n b past
past-alike chains pool other lines more n b past e h = record {
  limit = h.limit;
  none = λ j l k g. h.none j l k (sym (ap (bucket_of chains) (e j)) ∙ g);
  last = λ j g. ap (bucket_of chains) (e j) ∙ h.last j g;
}

pub lines-alike : (chains : ℕ) (pool other : List (ℕ × ℤ)) (lines more : List Line) (heads : List ℕ) →
    AreHeaded chains pool lines heads → AreAlike pool other lines more → AreHeaded chains other more heads
lines-alike chains pool other lines more heads h a = record {
  chained = record {
    lying = record {
      inside = λ i d k. a.inside i d (omega (arith, k, a.count));
      hash = λ i d k.
          let q : i < length lines = omega (arith, k, a.count) in
          a.hash i d q ∙ h.chained.lying.hash i d q ∙ sym (ap hash_of (a.parts i));
      first = λ i d k.
          let q : i < length lines = omega (arith, k, a.count) in
          a.first i d q ∙ h.chained.lying.first i d q ∙ sym (ap first_of (a.parts i));
    };
    before = λ i d k.
        let q : i < length lines = omega (arith, k, a.count) in
        subst (λ (p : ℕ). IsPast chains other more i (bucket_at chains other more i) p) (sym (a.before i d q))
        (subst (λ (b : ℕ). IsPast chains other more i b (get_or lines i d).before) (sym (ap (bucket_of chains) (a.parts i)))
        (past-alike chains pool other lines more i (bucket_at chains pool lines i) (get_or lines i d).before a.parts
        (h.chained.before i d q)));
  };
  some = h.some;
  limit = h.limit;
  last = λ b k. subst (λ (n : ℕ). IsPast chains other more n b (get_or heads b 0)) (sym a.count)
      (past-alike chains pool other lines more (length lines) b (get_or heads b 0) a.parts (h.last b k));
}

-- A line that is joined with one more row

-- what code reads where there is no line
abbrev pub no_line : Line
no_line = record {
  start = 0;
  end = 0;
  constant = pos 0;
  least = pos 0;
  origin = Given 0;
  before = 0;
  hash = 0;
  first = 0;
}

-- the line lies at the same place and in the same chain
pub record IsLike (l m : Line) : Type 0 where
  pub start : l.start ≡ m.start
  pub end : l.end ≡ m.end
  pub before : l.before ≡ m.before
  pub hash : l.hash ≡ m.hash
  pub first : l.first ≡ m.first

like-same : (l : Line) → IsLike l l
like-same l = record { start = refl; end = refl; before = refl; hash = refl; first = refl }

line-set : (lines : List Line) (i k : ℕ) (l d : Line) → k < length lines → IsLike l (get_or lines i d) →
    IsLike (get_or (set lines i l) k d) (get_or lines k d)
line-set [] i k l d h e = absurd (omega (arith, h))
line-set (r ∷ rs) zero zero l d h e = e
line-set (r ∷ rs) zero (suc k) l d h e = like-same (get_or rs k d)
line-set (r ∷ rs) (suc i) zero l d h e = like-same r
line-set (r ∷ rs) (suc i) (suc k) l d h e = line-set rs i k l d (omega (arith, h)) e

joined-same : (l : Line) (c : ℤ) (o : Origin) → IsLike (joined_line l c o) l
joined-same l c o = by_test (int_lt l.constant c) where
  of : Bool → Line
  of b = if b then record l { constant = c; least = int_min l.least c; origin = o } else record l { least = int_min l.least c }

  by_test : (b : Bool) → IsLike (of b) l
  by_test true = record { start = refl; end = refl; before = refl; hash = refl; first = refl }
  by_test false = record { start = refl; end = refl; before = refl; hash = refl; first = refl }

range-same : (pool : List (ℕ × ℤ)) (l m : Line) → IsLike l m → parts_of_line pool l ≡ parts_of_line pool m
range-same pool l m s = ap (λ a. slice_range pool a l.end) s.start ∙ ap (λ b. slice_range pool m.start b) s.end

pub lines-joined : (chains : ℕ) (pool : List (ℕ × ℤ)) (lines : List Line) (heads : List ℕ) (i : ℕ) (c : ℤ) (o : Origin) →
    AreHeaded chains pool lines heads → i < length lines →
    AreHeaded chains pool (set lines i (joined_line (get_or lines i no_line) c o)) heads
lines-joined chains pool lines heads i c o h k = lines-alike chains pool pool lines (set lines i l) heads h (record {
  count = length-set lines i l;
  parts = λ j. ap (λ ps. get_or ps j []) (map-set_same (parts_of_line pool) lines i l no_line
      (range-same pool l (get_or lines i no_line) s));
  inside = λ j d q.
      let e = like j d q in
      let b = h.chained.lying.inside j d q in
      (omega (arith, e.start, e.end, b.0), omega (arith, e.end, b.1));
  before = λ j d q. (like j d q).before;
  hash = λ j d q. (like j d q).hash;
  first = λ j d q. (like j d q).first;
}) where
  l : Line
  l = joined_line (get_or lines i no_line) c o

  s : IsLike l (get_or lines i no_line)
  s = joined-same (get_or lines i no_line) c o

  like : (j : ℕ) (d : Line) → j < length lines → IsLike (get_or (set lines i l) j d) (get_or lines j d)
  like j d q = line-set lines i j l d q (subst (λ (r : Line). IsLike l r) (get_or_default lines i no_line d k) s)

-- A line more

pub range-more : (pool more : List (ℕ × ℤ)) (a b : ℕ) → a ≤ b → b ≤ length pool → slice_range (pool ++ more) a b ≡ slice_range pool a b
range-more pool more a b h k =
    ap (take (b - a)) (drop-append-le a pool more (omega (arith, h, k))) ∙ take-append-le (b - a) (drop a pool) more
    (omega (arith, length-drop a pool, h, k))

pub map-more : {B : Type 0} (f g : Line → B) (lines : List Line) → ((i : ℕ) (d : Line) → i < length lines → f (get_or lines i d)
    ≡ g (get_or lines i d)) → map f lines ≡ map g lines
map-more f g [] h = refl
map-more f g (l ∷ ls) h =
    ap (λ y. y ∷ map f ls) (h 0 l (omega arith)) ∙ ap (λ ys. g l ∷ ys) (map-more f g ls (λ i d k. h (suc i) d (omega (arith, k))))

parts-grown : (pool more : List (ℕ × ℤ)) (lines : List Line) → AreInPool pool lines → map (parts_of_line (pool ++ more)) lines
    ≡ map (parts_of_line pool) lines
parts-grown pool more lines h =
    map-more (parts_of_line (pool ++ more)) (parts_of_line pool) lines (λ i d k. range-more pool more _ _ (h.inside i d k).0
    (h.inside i d k).1)

-- the pool alone has grown
pub lines-grown : (chains : ℕ) (pool more : List (ℕ × ℤ)) (lines : List Line) (heads : List ℕ) → AreHeaded chains pool lines heads →
    AreHeaded chains (pool ++ more) lines heads
lines-grown chains pool more lines heads h = lines-alike chains pool (pool ++ more) lines lines heads h (record {
  count = refl;
  parts = λ i. ap (λ ps. get_or ps i []) (parts-grown pool more lines h.chained.lying);
  inside = λ i d k. ((h.chained.lying.inside i d k).0, omega (arith, (h.chained.lying.inside i d k).1, length-append pool more));
  before = λ i d k. refl;
  hash = λ i d k. refl;
  first = λ i d k. refl;
})

-- a line at the end, with these coefficients and in their chain
pub record IsLastLine (chains : ℕ) (pool parts : List (ℕ × ℤ)) (heads : List ℕ) (l : Line) : Type 0 where
  pub start : l.start ≡ length pool
  pub end : l.end ≡ length (pool ++ parts)
  pub before : l.before ≡ get_or heads (bucket_of chains parts) 0
  pub hash : l.hash ≡ hash_of parts
  pub first : l.first ≡ first_of parts

pub last-parts : (chains : ℕ) (pool parts : List (ℕ × ℤ)) (heads : List ℕ) (l : Line) → IsLastLine chains pool parts heads l →
    parts_of_line (pool ++ parts) l ≡ parts
last-parts chains pool parts heads l h =
    ap (λ a. slice_range (pool ++ parts) a l.end) h.start ∙ ap (λ b. take (b - length pool) (drop (length pool) (pool ++ parts))) h.end
    ∙ ap (take (length (pool ++ parts) - length pool)) (drop-append_seam pool parts)
    ∙ take_all (length (pool ++ parts) - length pool) parts (omega (arith, length-append pool parts))

pub hash-bound : (parts : List (ℕ × ℤ)) → hash_of parts < 4294967296
hash-bound parts = bound 0 parts (omega arith) where
  bound : (h : ℕ) (ps : List (ℕ × ℤ)) → h < 4294967296 → fold next_hash h ps < 4294967296
  bound h [] k = k
  bound h (p ∷ ps) k = bound (next_hash h p) ps
      (mod-lt ((h + (101 * p.0 + 7 * unsigned_abs p.1 + sign_code p.1)) % 4294967296 * 2654435761) {m = 4294967296} (omega arith))

pub chain-bound : (chains hash : ℕ) → 0 < chains → hash < 4294967296 → chain_of chains hash < chains
chain-bound chains hash h k = (div-lt_iff_lt-mul {k = 4294967296} {x = hash * chains} {y = chains} (omega arith)).1
    (omega (arith, h, k, mul-le-mul_left {m = hash + 1} {n = 4294967296} chains (omega (arith, k))))

bucket-bound : (chains : ℕ) (parts : List (ℕ × ℤ)) → 0 < chains → bucket_of chains parts < chains
bucket-bound chains parts h = chain-bound chains (hash_of parts) h (hash-bound parts)

pub lines-pushed : (chains : ℕ) (pool parts : List (ℕ × ℤ)) (lines : List Line) (heads : List ℕ) (l : Line) →
    AreHeaded chains pool lines heads → length heads ≡ chains → IsLastLine chains pool parts heads l →
    AreHeaded chains (pool ++ parts) (lines ++ l ∷ []) (set heads (bucket_of chains parts) (length lines + 1))
lines-pushed chains pool parts lines heads l h n k = record {
  chained = record {
    lying = record {
      inside = λ i d q. inside i d (cases_lt i (length lines)) q;
      hash = λ i d q. hash i d (cases_lt i (length lines)) q;
      first = λ i d q. first i d (cases_lt i (length lines)) q;
    };
    before = λ i d q. before i d (cases_lt i (length lines)) q;
  };
  some = h.some;
  limit = h.limit;
  last = λ b q. last b q (cases_eq b (bucket_of chains parts));
} where
  all : List (ℕ × ℤ)
  all = pool ++ parts

  lines' : List Line
  lines' = lines ++ l ∷ []

  parts_are : map (parts_of_line all) lines' ≡ map (parts_of_line pool) lines ++ parts ∷ []
  parts_are = map-append (parts_of_line all) lines (l ∷ []) ∙ ap (λ ps. ps ++ parts_of_line all l ∷ [])
      (parts-grown pool parts lines h.chained.lying)
      ∙ ap (λ ps. map (parts_of_line pool) lines ++ ps ∷ []) (last-parts chains pool parts heads l k)

  count : length (map (parts_of_line pool) lines) ≡ length lines
  count = length-map lines (parts_of_line pool)

  old : (j : ℕ) → j < length lines → parts_at all lines' j ≡ parts_at pool lines j
  old j q = ap (λ ps. get_or ps j []) parts_are
      ∙ get_or_append_left (map (parts_of_line pool) lines) (parts ∷ []) [] j (omega (arith, count, q))

  new : parts_at all lines' (length lines) ≡ parts
  new = ap (λ ps. get_or ps (length lines) []) parts_are ∙ get_or_push (map (parts_of_line pool) lines) parts [] (length lines) count

  inside : (i : ℕ) (d : Line) → (i < length lines) ⊎ (length lines ≤ i) → i < length lines' → ((get_or lines' i d).start
      ≤ (get_or lines' i d).end) × ((get_or lines' i d).end ≤ length all)
  inside i d (inl lt) q =
      let e = get_or_append_left lines (l ∷ []) d i lt in
      let b = h.chained.lying.inside i d lt in
      subst (λ (r : Line). (r.start ≤ r.end) × (r.end ≤ length all)) (sym e)
      (b.0, omega (arith, b.1, length-append pool parts))
  inside i d (inr le) q =
      let e = get_or_push lines l d i (omega (arith, le, q, length-append lines (l ∷ []))) in
      subst (λ (r : Line). (r.start ≤ r.end) × (r.end ≤ length all)) (sym e)
      (omega (arith, k.start, k.end, length-append pool parts), omega (arith, k.end))

  hash : (i : ℕ) (d : Line) → (i < length lines) ⊎ (length lines ≤ i) → i < length lines' → (get_or lines' i d).hash
      ≡ hash_of (parts_at all lines' i)
  hash i d (inl lt) q =
      ap (λ (r : Line). r.hash) (get_or_append_left lines (l ∷ []) d i lt) ∙ h.chained.lying.hash i d lt ∙ sym (ap hash_of (old i lt))
  hash i d (inr le) q =
      let at : i ≡ length lines = omega (arith, le, q, length-append lines (l ∷ [])) in
      ap (λ (r : Line). r.hash) (get_or_push lines l d i (sym at)) ∙ k.hash ∙ sym (ap hash_of (ap (parts_at all lines') at ∙ new))

  first : (i : ℕ) (d : Line) → (i < length lines) ⊎ (length lines ≤ i) → i < length lines' → (get_or lines' i d).first
      ≡ first_of (parts_at all lines' i)
  first i d (inl lt) q =
      ap (λ (r : Line). r.first) (get_or_append_left lines (l ∷ []) d i lt) ∙ h.chained.lying.first i d lt
      ∙ sym (ap first_of (old i lt))
  first i d (inr le) q =
      let at : i ≡ length lines = omega (arith, le, q, length-append lines (l ∷ [])) in
      ap (λ (r : Line). r.first) (get_or_push lines l d i (sym at)) ∙ k.first ∙ sym (ap first_of (ap (parts_at all lines') at ∙ new))

  -- what is known of the first lines
  past-old : (n b past : ℕ) → n ≤ length lines → IsPast chains pool lines n b past → IsPast chains all lines' n b past
  past-old n b past q g = record {
    limit = g.limit;
    none = λ j u v w. g.none j u v (sym (ap (bucket_of chains) (old j (omega (arith, q, v)))) ∙ w);
    last = λ j u. ap (bucket_of chains) (old j (omega (arith, q, u, g.limit))) ∙ g.last j u;
  }

  before : (i : ℕ) (d : Line) → (i < length lines) ⊎ (length lines ≤ i) → i < length lines' →
      IsPast chains all lines' i (bucket_at chains all lines' i) (get_or lines' i d).before
  before i d (inl lt) q =
      let e = get_or_append_left lines (l ∷ []) d i lt in
      subst (λ (r : Line). IsPast chains all lines' i (bucket_at chains all lines' i) r.before) (sym e)
      (subst (λ (b : ℕ). IsPast chains all lines' i b (get_or lines i d).before) (sym (ap (bucket_of chains) (old i lt)))
      (past-old i (bucket_at chains pool lines i) (get_or lines i d).before (omega (arith, lt)) (h.chained.before i d lt)))
  before i d (inr le) q =
      let at : i ≡ length lines = omega (arith, le, q, length-append lines (l ∷ [])) in
      let e = get_or_push lines l d i (sym at) in
      let b = bucket_of chains parts in
      subst (λ (r : Line). IsPast chains all lines' i (bucket_at chains all lines' i) r.before) (sym e)
      (subst (λ (m : ℕ). IsPast chains all lines' m (bucket_at chains all lines' m) l.before) (sym at)
      (subst (λ (c : ℕ). IsPast chains all lines' (length lines) c l.before) (sym (ap (bucket_of chains) new))
      (subst (λ (p : ℕ). IsPast chains all lines' (length lines) b p) (sym k.before)
      (past-old (length lines) b (get_or heads b 0) (omega arith) (h.last b (bucket-bound chains parts h.some))))))

  last : (b : ℕ) → b < chains → (b ≡ bucket_of chains parts) ⊎ (b ≡ bucket_of chains parts → ⊥) →
      IsPast chains all lines' (length lines') b (get_or (set heads (bucket_of chains parts) (length lines + 1)) b 0)
  last b q (inl e) =
      let here = get_or-set_same heads (bucket_of chains parts) (length lines + 1) 0 (omega (arith, n, bucket-bound chains parts h.some)) in
      subst (λ (p : ℕ). IsPast chains all lines' (length lines') b p)
      (sym (ap (λ (c : ℕ). get_or (set heads (bucket_of chains parts) (length lines + 1)) c
      0) e ∙ here)) (record {
        limit = omega (arith, length-append lines (l ∷ []));
        none = λ j u v w. omega (arith, u, v, length-append lines (l ∷ []));
        last = λ j u. ap (bucket_at chains all lines') (omega (arith, u)) ∙ ap (bucket_of chains) new ∙ sym e;
      })
  last b q (inr m) =
      let there = get_or-set_other heads (bucket_of chains parts) b (length lines + 1) 0 m in
      let g = past-old (length lines) b (get_or heads b 0) (omega arith) (h.last b q) in
      subst (λ (p : ℕ). IsPast chains all lines' (length lines') b p) (sym there) (record {
        limit = omega (arith, g.limit, length-append lines (l ∷ []));
        none = λ j u v w. beyond j u v w (cases_lt j (length lines));
        last = g.last;
      }) where
        beyond : (j : ℕ) → get_or heads b 0 ≤ j → j < length lines' → bucket_at chains all lines' j ≡ b → (j < length lines)
            ⊎ (length lines ≤ j) →
            ⊥
        beyond j u v w (inl lt) = (past-old (length lines) b (get_or heads b 0) (omega arith) (h.last b q)).none j u lt w
        beyond j u v w (inr le) =
            let at : j ≡ length lines = omega (arith, le, v, length-append lines (l ∷ [])) in
            m (sym w ∙ ap (bucket_at chains all lines') at ∙ ap (bucket_of chains) new)

-- the same, in the code's words
pub lines-added : (pool parts more : List (ℕ × ℤ)) (lines items : List Line) (heads : List ℕ) (l : Line) (chain number : ℕ) →
    AreLines pool lines heads → IsLastLine (length heads) pool parts heads l → more ≡ pool ++ parts → items ≡ lines ++ l ∷ [] →
    chain ≡ bucket_of (length heads) parts → number ≡ length lines + 1 → AreLines more items (set heads chain number)
lines-added pool parts more lines items heads l chain number h k e f g n =
    subst (λ (ps : List (ℕ × ℤ)). AreLines ps items (set heads chain number)) (sym e)
    (subst (λ (ls : List Line). AreLines (pool ++ parts) ls (set heads chain number)) (sym f)
    (subst (λ (m : ℕ). AreLines (pool ++ parts) (lines ++ l ∷ []) (set heads chain m)) (sym n)
    (subst (λ (b : ℕ). AreLines (pool ++ parts) (lines ++ l ∷ []) (set heads b (length lines + 1))) (sym g)
    (subst (λ (c : ℕ). AreHeaded c (pool ++ parts) (lines ++ l ∷ []) (set heads (bucket_of (length heads) parts) (length lines + 1)))
    (sym (length-set heads (bucket_of (length heads) parts) (length lines + 1)))
    (lines-pushed (length heads) pool parts lines heads l h refl k)))))

-- The heads in use

pub heads-many : (few many : List ℕ) → 0 < length many → heads_of few many ≡ many
heads-many few [] h = absurd (omega (arith, h))
heads-many few (m ∷ ms) h = refl

pub heads-few : (few many : List ℕ) → length many ≡ 0 → heads_of few many ≡ few
heads-few few [] h = refl
heads-few few (m ∷ ms) h = absurd (omega (arith, h))

pub heads-set_few : (few many : List ℕ) (i n : ℕ) → length many ≡ 0 → heads_of (set few i n) many ≡ set (heads_of few many) i n
heads-set_few few [] i n h = refl
heads-set_few few (m ∷ ms) i n h = absurd (omega (arith, h))

pub heads-set_many : (few many : List ℕ) (i n : ℕ) → 0 < length many → heads_of few (set many i n) ≡ set (heads_of few many) i n
heads-set_many few [] i n h = absurd (omega (arith, h))
heads-set_many few (m ∷ ms) zero n h = refl
heads-set_many few (m ∷ ms) (suc i) n h = refl

-- the head of a chain, in the code's words
pub chained-in : (pool items : List (ℕ × ℤ)) (lines found : List Line) (heads uses : List ℕ) (chain hash : ℕ) (parts : List (ℕ × ℤ)) →
    AreLines pool lines heads → items ≡ pool → found ≡ lines → uses ≡ heads → hash ≡ hash_of parts → chain ≡ chain_of (length uses) hash →
    IsChained (length uses) items found (get_or uses chain 0) parts
chained-in pool items lines found heads uses chain hash parts h p l u e f =
    subst (λ (ps : List (ℕ × ℤ)). IsChained (length uses) ps found (get_or uses chain 0) parts) (sym p)
    (subst (λ (ls : List Line). IsChained (length uses) pool ls (get_or uses chain 0) parts) (sym l)
    (subst (λ (hs : List ℕ). IsChained (length hs) pool lines (get_or hs chain 0) parts) (sym u) (record {
      chained = h.chained;
      head = subst (λ (b : ℕ). IsPast (length heads) pool lines (length lines) (bucket_of (length heads) parts) (get_or heads b 0))
          (sym place) (h.last (bucket_of (length heads) parts) (bucket-bound (length heads) parts h.some));
    }))) where
      place : chain ≡ bucket_of (length heads) parts
      place = f ∙ ap (λ (hs : List ℕ). chain_of (length hs) hash) u ∙ ap (chain_of (length heads)) e

-- A table without rows

pub lines-none : (chains : ℕ) → 0 < chains → chains ≤ 65536 → AreLines [] [] (replicate chains 0)
lines-none chains h k = subst (λ (n : ℕ). AreHeaded n [] [] (replicate chains 0)) (sym (length-replicate chains 0)) (record {
  chained = record {
    lying = record {
      inside = λ i d q. absurd (omega (arith, q));
      hash = λ i d q. absurd (omega (arith, q));
      first = λ i d q. absurd (omega (arith, q));
    };
    before = λ i d q. absurd (omega (arith, q));
  };
  some = h;
  limit = k;
  last = λ b q. subst (λ (p : ℕ). IsPast chains [] [] 0 b p) (sym (get_or-replicate chains b 0 0 q)) (record {
    limit = omega arith;
    none = λ j u v w. omega (arith, v);
    last = λ j u. absurd (omega (arith, u));
  });
})
