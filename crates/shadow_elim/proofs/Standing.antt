-- What the rows of the next column and the lists of the others say together.
use Rattle.std.proofs.Common.{◌≡◌, ℕ, suc, ◌+◌, ◌<◌, Bool, true, false, not, cond, List, [], ◌∷◌, ◌++◌, length, map, get_or, take, drop, length-drop, ◌-◌, ℤ, pos, negsuc, zero, arith, refl, sym, ap, subst, ◌∙◌}
use Rattle.std.specs.Prelude.{All, Contains, filter, flat_map, nat_lt, int_lt, if◌then◌else◌}
use Rattle.std.specs.List.{list_all, sum_by}
use Rattle.std.proofs.lemmas.Bool.{ltb-true, ltb-false}
use Rattle.std.proofs.lemmas.List.{append_assoc, take_all, drop_more, get_or_append_left, get_or_at, length-append, map-append}
use Rattle.std.proofs.lemmas.List.Elements.{All-nil, All-contains, All-weaker}
use Rattle.linear_formula.specs.LinearSum.{LinearSum, coefficient, is_within, is_zero}
use Rattle.infeasible_cert.specs.Right.{AreRightSteps, rows_after}
use Rattle.infeasible_cert.specs.declared.certificate.Derived.{Derived}
use Rattle.infeasible_cert.proofs.Deriving.{after-is}
use Rattle.shadow_elim.specs.declared.row.Row.{Row}
use Rattle.shadow_elim.specs.declared.pairing.Candidate.{Candidate}
use Rattle.shadow_elim.specs.declared.elimination.Stage.{Stage}
use Rattle.shadow_elim.specs.Division.{tightened}
use Rattle.shadow_elim.specs.Elimination.{is_upper, is_lower, is_free, pair_sum, pair_sums, remains, too_many, wide, counted, after_column, elimination}
use Rattle.shadow_elim.specs.Reduction.{reduced, SameReduced}
use Rattle.shadow_elim.specs.Stages.{terms_of, IsStage, AreStages, AreNumbered}
use Rattle.shadow_elim.specs.steps.Making.{candidate_terms, candidates, steps_of, numbered, AreTerms, AllFounded, IsFounded}
use Rattle.shadow_elim.specs.steps.Lists.{list_at, names, Hold, staying, AreAllFounded, AreAdded, AreTaken, AreTooMany}
use Rattle.shadow_elim.proofs.Assembling.{terms-candidates, terms-numbered}
use Rattle.shadow_elim.proofs.Filtering.{filter-reduced, reduced-again}
use Rattle.shadow_elim.proofs.Growing.{reduced-grows}
use Rattle.shadow_elim.proofs.Holding.{names-respects, hold-agree, hold-reduced, hold-same, hold-none, hold-count, none-at}
use Rattle.shadow_elim.proofs.MadeRight.{candidates-founded, founded-from_all, founded-grows, steps-right, numbers-right, rows_after-append, length-rows_after, right-append}
use Rattle.shadow_elim.proofs.Passing.{passing-more, passing-stop}
use Rattle.shadow_elim.proofs.Reductions.{same-itself, same-reduced}
use Rattle.shadow_elim.proofs.Tests.{at_most_no, at_most_yes}

no_way : true ≡ false → ⊥
no_way h = cc

-- Rows that pass two tests

filter-inside : (p q : LinearSum → Bool) → ((t : LinearSum) → p t ≡ true → q t ≡ true) → (ts : List LinearSum) → filter p (filter q ts)
    ≡ filter p ts
filter-inside p q f [] = refl
filter-inside p q f (t ∷ ts) = by_test (q t) (p t) refl refl (filter-inside p q f ts) where
  by_test : (a b : Bool) → q t ≡ a → p t ≡ b → filter p (filter q ts) ≡ filter p ts → filter p (cond a (t ∷ filter q ts) (filter q ts))
      ≡ cond b (t ∷ filter p ts) (filter p ts)
  by_test true b e g r =
      ap (λ (z : Bool). cond z (t ∷ filter p (filter q ts)) (filter p (filter q ts))) g
      ∙ ap (λ (l : List LinearSum). cond b (t ∷ l) l) r
  by_test false true e g r = absurd (no_way (sym (f t g) ∙ e))
  by_test false false e g r = r

filter-apart : (p q : LinearSum → Bool) → ((t : LinearSum) → q t ≡ true → p t ≡ false) → (ts : List LinearSum) → filter p (filter q ts) ≡ []
filter-apart p q f [] = refl
filter-apart p q f (t ∷ ts) = by_test (q t) refl (filter-apart p q f ts) where
  by_test : (a : Bool) → q t ≡ a → filter p (filter q ts) ≡ [] → filter p (cond a (t ∷ filter q ts) (filter q ts)) ≡ []
  by_test true e r = ap (λ (z : Bool). cond z (t ∷ filter p (filter q ts)) (filter p (filter q ts))) (f t e) ∙ r
  by_test false e r = r

upper-names : (x : ℕ) (t : LinearSum) → is_upper x t ≡ true → names x t ≡ true
upper-names x t h = by_value (coefficient x t) h where
  by_value : (z : ℤ) → int_lt (pos 0) z ≡ true → not (is_zero z) ≡ true
  by_value (pos zero) e = absurd (no_way (sym e))
  by_value (pos (suc n)) e = refl
  by_value (negsuc n) e = refl

lower-names : (x : ℕ) (t : LinearSum) → is_lower x t ≡ true → names x t ≡ true
lower-names x t h = by_value (coefficient x t) h where
  by_value : (z : ℤ) → int_lt z (pos 0) ≡ true → not (is_zero z) ≡ true
  by_value (pos zero) e = absurd (no_way (sym e))
  by_value (pos (suc n)) e = refl
  by_value (negsuc n) e = refl

names-not_free : (x : ℕ) (t : LinearSum) → names x t ≡ true → is_free x t ≡ false
names-not_free x t h = by_test (is_free x t) h where
  by_test : (b : Bool) → not b ≡ true → b ≡ false
  by_test false e = refl
  by_test true e = absurd (no_way (sym e))

-- The rows that are left

-- those of the next column, and those in the lists
pub record IsSpread (x : ℕ) (xs : List ℕ) (rows now : List LinearSum) (lists : List (List Candidate)) : Type 0 where
  pub uppers : filter (is_upper x) now ≡ filter (is_upper x) rows
  pub lowers : filter (is_lower x) now ≡ filter (is_lower x) rows
  pub held : List LinearSum
  pub hold : Hold xs held lists
  pub frees : SameReduced (held ++ filter (is_free x) now) (filter (is_free x) rows)
  pub count : length lists ≡ suc (length xs)

abbrev pub Stands : List ℕ → (rows now : List LinearSum) → List (List Candidate) → Type 0
Stands [] rows now lists = now ≡ rows
Stands (x ∷ xs) rows now lists = IsSpread x xs rows now lists

pub stands-first : (xs : List ℕ) (rows : List LinearSum) (lists : List (List Candidate)) → length lists ≡ length xs →
    All (λ l. l ≡ []) lists → Stands xs rows rows lists
stands-first [] rows lists n h = refl
stands-first (x ∷ xs) rows lists n h = record {
  uppers = refl;
  lowers = refl;
  held = [];
  hold = hold-none xs lists (none-at lists h);
  frees = same-itself (filter (is_free x) rows);
  count = n;
}

-- After a column

pub record IsPast (x : ℕ) (xs : List ℕ) (rows next : List LinearSum) (lists : List (List Candidate)) : Type 0 where
  pub after : after_column x rows ≡ counted next
  pub hold : Hold xs next lists
  pub again : reduced next ≡ next
  pub size : sum_by staying lists ≡ length next
  pub count : length lists ≡ suc (length xs)

same-pairs : (x : ℕ) (rows now : List LinearSum) → filter (is_upper x) now ≡ filter (is_upper x) rows → filter (is_lower x) now
    ≡ filter (is_lower x) rows → pair_sums x now ≡ pair_sums x rows
same-pairs x rows now u l =
    ap (λ (us : List LinearSum). map (pair_sum x) (flat_map (λ s. map (λ t. (s, t)) (filter (is_lower x) now)) us)) u
    ∙ ap (λ (ls : List LinearSum). map (pair_sum x) (flat_map (λ s. map (λ t. (s, t)) ls) (filter (is_upper x) rows))) l

abbrev left_by : ℕ → List LinearSum → List LinearSum
left_by x rows = reduced (filter (is_free x) rows ++ map tightened (pair_sums x rows))

spread-left : (x : ℕ) (xs : List ℕ) (rows : List LinearSum) (now : List Row) (lists : List (List Candidate)) →
    (s : IsSpread x xs rows (terms_of now) lists) → reduced (s.held ++ candidate_terms (candidates x now)) ≡ left_by x rows
spread-left x xs rows now lists s =
    let news = map tightened (pair_sums x (terms_of now)) in
    ap (λ (ts : List LinearSum). reduced (s.held ++ ts)) (terms-candidates x now)
    ∙ ap reduced (sym (append_assoc s.held (filter (is_free x) (terms_of now)) news)) ∙ s.frees news
    ∙ ap (λ (ts : List LinearSum). reduced (filter (is_free x) rows ++ map tightened ts))
    (same-pairs x rows (terms_of now) s.uppers s.lowers)

within-counted : (x : ℕ) (rows now : List LinearSum) → filter (is_upper x) now ≡ filter (is_upper x) rows →
    filter (is_lower x) now ≡ filter (is_lower x) rows → list_all is_within (pair_sums x now) ≡ true →
    after_column x rows ≡ counted (left_by x rows)
within-counted x rows now u l w =
    ap (λ (b : Bool). if b then counted (left_by x rows) else wide) (ap (list_all is_within) (sym (same-pairs x rows now u l)) ∙ w)

pub past-column : (x : ℕ) (xs : List ℕ) (rows : List LinearSum) (now : List Row) (old new : List (List Candidate)) →
    IsSpread x xs rows (terms_of now) old → AreAdded xs (candidates x now) old new →
    list_all is_within (pair_sums x (terms_of now)) ≡ true → IsPast x xs rows (left_by x rows) new
past-column x xs rows now old new s a w =
    let all = s.held ++ candidate_terms (candidates x now) in
    let e = spread-left x xs rows now old s in
    let h = a.hold s.held s.hold in
    record {
      after = within-counted x rows (terms_of now) s.uppers s.lowers w;
      hold = hold-same xs (reduced all) (left_by x rows) new e (hold-reduced xs all new h);
      again = reduced-again (filter (is_free x) rows ++ map tightened (pair_sums x rows));
      size = hold-count xs all new (a.count ∙ s.count) h ∙ ap length e;
      count = a.count ∙ s.count;
    }

-- where some candidates are too many already, all are
past-many : (x : ℕ) (xs : List ℕ) (rows : List LinearSum) (now : List Row) (old new : List (List Candidate)) →
    IsSpread x xs rows (terms_of now) old → AreTooMany xs (candidates x now) old new →
    list_all is_within (pair_sums x (terms_of now)) ≡ true → after_column x rows ≡ too_many
past-many x xs rows now old new s m w =
    let part = s.held ++ candidate_terms m.first in
    let rest = candidate_terms m.rest in
    let size = hold-count xs part new (m.added.count ∙ s.count) (m.added.hold s.held s.hold) in
    let split : s.held ++ candidate_terms (candidates x now) ≡ part ++ rest = ap (λ (cs : List Candidate). s.held ++ candidate_terms cs)
    m.split ∙ ap (λ (ts : List LinearSum). s.held ++ ts) (map-append (λ (c : Candidate). c.term) m.first m.rest)
    ∙ sym (append_assoc s.held (candidate_terms m.first) rest) in
    let left = ap length (ap reduced (sym split) ∙ spread-left x xs rows now old s) in
    let many : 4096 < length (left_by x rows) = omega (
      arith,
      size,
      left,
      reduced-grows part rest,
      ltb-true 4096 (sum_by staying new) m.beyond,
    ) in
    within-counted x rows (terms_of now) s.uppers s.lowers w
    ∙ ap (λ (b : Bool). if b then remains (left_by x rows) else too_many) (at_most_no (length (left_by x rows)) 4096 many)

pub past-wide : (x : ℕ) (xs : List ℕ) (rows now : List LinearSum) (lists : List (List Candidate)) → IsSpread x xs rows now lists →
    list_all is_within (pair_sums x now) ≡ false → after_column x rows ≡ wide
past-wide x xs rows now lists s w =
    ap (λ (b : Bool). if b then counted (left_by x rows) else wide) (ap (list_all is_within) (sym (same-pairs x rows now s.uppers s.lowers))
    ∙ w)

-- the limit of rows
pub past-remains : (x : ℕ) (xs : List ℕ) (rows next : List LinearSum) (lists : List (List Candidate)) → IsPast x xs rows next lists →
    nat_lt 4096 (sum_by staying lists) ≡ false → after_column x rows ≡ remains next
past-remains x xs rows next lists p h =
    let e : nat_lt 4096 (length next) ≡ false = ap (nat_lt 4096) (sym p.size) ∙ h in
    p.after ∙ ap (λ (b : Bool). if b then remains next else too_many) (at_most_yes (length next) 4096 (ltb-false 4096 (length next) e))

pub past-too_many : (x : ℕ) (xs : List ℕ) (rows next : List LinearSum) (lists : List (List Candidate)) → IsPast x xs rows next lists →
    nat_lt 4096 (sum_by staying lists) ≡ true → after_column x rows ≡ too_many
past-too_many x xs rows next lists p h =
    let e : nat_lt 4096 (length next) ≡ true = ap (nat_lt 4096) (sym p.size) ∙ h in
    p.after ∙ ap (λ (b : Bool). if b then remains next else too_many) (at_most_no (length next) 4096 (ltb-true 4096 (length next) e))

-- The rows of the next column are taken out of their list

last-list : (front : List (List Candidate)) (last : List Candidate) (n : ℕ) → length front ≡ n → list_at (front ++ last ∷ []) n ≡ last
last-list front last n h = get_or_at front last [] [] n h

pub stands-next : (xs : List ℕ) (next now : List LinearSum) (old new : List (List Candidate)) (last : List Candidate) → Hold xs next old →
    reduced next ≡ next → length old ≡ suc (length xs) → old ≡ new ++ last ∷ [] → now ≡ reduced (candidate_terms last) →
    Stands xs next now new
stands-next [] next now old new last h again n e f =
    let k : length new ≡ 0 = omega (arith, n, ap length e, length-append new (last ∷ [])) in
    let at : list_at old 0 ≡ last = ap (λ ls. list_at ls 0) e ∙ last-list new last 0 k in
    f ∙ ap (λ (l : List Candidate). reduced (candidate_terms l)) (sym at) ∙ sym (same-reduced next (candidate_terms (list_at old 0)) h)
    ∙ again
stands-next (y ∷ ys) next now old new last h again n e f =
    let k : length new ≡ suc (length ys) = omega (arith, n, ap length e, length-append new (last ∷ [])) in
    let at : list_at old (suc (length ys)) ≡ last = ap (λ ls. list_at ls (suc (length ys))) e ∙ last-list new last (suc (length ys)) k in
    let g : now ≡ filter (names y) next = f ∙ ap (λ (l : List Candidate). reduced (candidate_terms l)) (sym at)
    ∙ sym (same-reduced (filter (names y) next) (candidate_terms (list_at old (suc (length ys)))) h.0)
    ∙ sym (filter-reduced (names y) (names-respects y) next) ∙ ap (filter (names y)) again in
    let none : filter (is_free y) now ≡ [] = ap (filter (is_free y)) g ∙ filter-apart (is_free y) (names y) (names-not_free y) next in
    record {
      uppers = ap (filter (is_upper y)) g ∙ filter-inside (is_upper y) (names y) (upper-names y) next;
      lowers = ap (filter (is_lower y)) g ∙ filter-inside (is_lower y) (names y) (lower-names y) next;
      held = filter (is_free y) next;
      hold = hold-agree ys (filter (is_free y) next) old new (λ m q. sym (ap (λ ls. list_at ls m) e
          ∙ get_or_append_left new (last ∷ []) [] m (omega (arith, q, k)))) h.1;
      frees = subst (λ (ts : List LinearSum). SameReduced ts (filter (is_free y) next))
          (sym (ap (λ (ts : List LinearSum). filter (is_free y)
          next ++ ts) none ∙ append_nil (filter (is_free y) next))) (same-itself (filter (is_free y) next));
      count = k;
    } where
      append_nil : (ts : List LinearSum) → ts ++ [] ≡ ts
      append_nil [] = refl
      append_nil (t ∷ ts) = ap (λ (us : List LinearSum). t ∷ us) (append_nil ts)

-- The loop over the columns

pub record IsPassing (columns : List ℕ) (i : ℕ) (all : List LinearSum) (done : List Stage) (now : List LinearSum)
    (lists : List (List Candidate)) : Type 0 where
  pub rows : List LinearSum
  pub stages : AreStages (take i columns) all done rows
  pub stands : Stands (drop i columns) rows now lists

-- what stands before a column
pub spread-of : (columns : List ℕ) (i : ℕ) (rows now : List LinearSum) (lists : List (List Candidate)) → i < length columns →
    Stands (drop i columns) rows now lists → IsSpread (get_or columns i 0) (drop (i + 1) columns) rows now lists
spread-of columns i rows now lists h s =
    subst (λ (xs : List ℕ). Stands xs rows now lists) (drop_more columns i 0 h) s

-- Steps

pub record AreMadeRight (base : List LinearSum) (steps : List Derived) (now : List Row) (lists : List (List Candidate)) : Type 0 where
  pub right : AreRightSteps base steps
  pub numbers : AreNumbered (rows_after base steps) now
  pub founded : AreAllFounded (rows_after base steps) lists

all-lists-left : (P : List Candidate → Type 0) (ls ks : List (List Candidate)) → All P (ls ++ ks) → All P ls
all-lists-left P ls ks h = λ k d lt. subst P (get_or_append_left ls ks d k lt) (h k d (omega (arith, lt, length-append ls ks)))

pub right-next : (base : List LinearSum) (first x : ℕ) (xs : List ℕ) (now left : List Row) (before after : List Derived)
    (old mid new : List (List Candidate)) → length base ≡ first → AreMadeRight base before now old → AreTerms now →
    AreAdded xs (candidates x now) old mid → AreTaken first mid new before after left → AreMadeRight base after left new
right-next base first x xs now left before after old mid new h r t a k =
    let here = rows_after base before in
    let more = steps_of k.kept in
    let f : AreAllFounded here mid = a.founded here r.founded (candidates-founded here x now r.numbers t) in
    let g : AreAllFounded here (new ++ k.last ∷ []) = subst (λ ls. AreAllFounded here ls) k.lists f in
    let last : AllFounded here k.last = subst (λ (l : List Candidate). AllFounded here l) (get_or_at new k.last [] [] (length new) refl)
    (g (length new) [] (omega (arith, length-append new (k.last ∷ [])))) in
    let kept = founded-from_all here k.kept (All-weaker (λ c. Contains k.last c) (λ c. IsFounded here c.term c.origin) (λ c q.
    All-contains (λ d. IsFounded here d.term d.origin) k.last c last q) k.kept k.among) in
    let grown : rows_after base after ≡ here ++ map (λ d. d.row.term) more = ap (rows_after base) k.steps ∙ rows_after-append base before
    more
    ∙ after-is here more in
    let next : length here ≡ first + length before = length-rows_after base before ∙ ap (λ (m : ℕ). m + length before) h in
    record {
      right = subst (λ (ds : List Derived). AreRightSteps base ds) (sym k.steps) (right-append base before more r.right
          (steps-right here k.kept kept));
      numbers = subst (λ (ts : List LinearSum). AreNumbered ts left) (sym grown) (subst (λ (rs : List Row). AreNumbered
          (here ++ map (λ d. d.row.term) more) rs) (ap (λ (m : ℕ). numbered m k.kept) next ∙ sym k.rows) (numbers-right here k.kept kept));
      founded = subst (λ (ts : List LinearSum). AreAllFounded ts new) (sym grown) (All-weaker (AllFounded here)
          (AllFounded (here ++ map (λ d. d.row.term) more)) (λ l q. All-weaker (λ c. IsFounded here c.term c.origin)
          (λ c. IsFounded (here ++ map (λ d. d.row.term) more) c.term c.origin)
          (λ c p. founded-grows here (map (λ d. d.row.term) more) c.term c.origin p) l q) new (all-lists-left (AllFounded here) new
          (k.last ∷ []) g));
    }

-- The loop's answers

pub passing-first : (columns : List ℕ) (all : List LinearSum) (done : List Stage) (lists : List (List Candidate)) → done ≡ [] →
    length lists ≡ length columns → All (λ l. l ≡ []) lists → IsPassing columns 0 all done all lists
passing-first columns all done lists d n h = record {
  rows = all;
  stages = subst (λ (ss : List Stage). AreStages [] all ss all) (sym d) refl;
  stands = stands-first columns all lists n h;
}

pub passing-wide : (columns : List ℕ) (i : ℕ) (all : List LinearSum) (done : List Stage) (now : List LinearSum)
    (lists : List (List Candidate)) → i < length columns → IsPassing columns i all done now lists →
    list_all is_within (pair_sums (get_or columns i 0) now) ≡ false → elimination columns all ≡ wide
passing-wide columns i all done now lists h p w =
    passing-stop columns i all done p.rows wide h p.stages (past-wide (get_or columns i 0) (drop (i + 1) columns) p.rows now lists
    (spread-of columns i p.rows now lists h p.stands) w)

past-of : (columns : List ℕ) (i : ℕ) (all : List LinearSum) (done : List Stage) (now : List Row) (old mid : List (List Candidate)) →
    i < length columns → (p : IsPassing columns i all done (terms_of now) old) →
    AreAdded (drop (i + 1) columns) (candidates (get_or columns i 0) now) old mid →
    list_all is_within (pair_sums (get_or columns i 0) (terms_of now)) ≡ true →
    IsPast (get_or columns i 0) (drop (i + 1) columns) p.rows (left_by (get_or columns i 0) p.rows) mid
past-of columns i all done now old mid h p a w =
    past-column (get_or columns i 0) (drop (i + 1) columns) p.rows now old mid
    (spread-of columns i p.rows (terms_of now) old h p.stands) a w

pub passing-too_many : (columns : List ℕ) (i : ℕ) (all : List LinearSum) (done : List Stage) (now : List Row)
    (old mid : List (List Candidate)) → i < length columns → IsPassing columns i all done (terms_of now) old →
    AreAdded (drop (i + 1) columns) (candidates (get_or columns i 0) now) old mid →
    list_all is_within (pair_sums (get_or columns i 0) (terms_of now)) ≡ true → nat_lt 4096 (sum_by staying mid) ≡ true →
    elimination columns all ≡ too_many
passing-too_many columns i all done now old mid h p a w m =
    passing-stop columns i all done p.rows too_many h p.stages (past-too_many (get_or columns i 0) (drop (i + 1) columns) p.rows
    (left_by (get_or columns i 0) p.rows) mid (past-of columns i all done now old mid h p a w) m)

pub passing-many : (columns : List ℕ) (i : ℕ) (all : List LinearSum) (done : List Stage) (now : List Row)
    (old mid : List (List Candidate)) → i < length columns → IsPassing columns i all done (terms_of now) old →
    AreTooMany (drop (i + 1) columns) (candidates (get_or columns i 0) now) old mid →
    list_all is_within (pair_sums (get_or columns i 0) (terms_of now)) ≡ true → elimination columns all ≡ too_many
passing-many columns i all done now old mid h p m w =
    passing-stop columns i all done p.rows too_many h p.stages (past-many (get_or columns i 0) (drop (i + 1) columns) p.rows now old mid
    (spread-of columns i p.rows (terms_of now) old h p.stands) m w)

pub passing-next : (columns : List ℕ) (i first : ℕ) (all : List LinearSum) (now left : List Row) (done more : List Stage) (s : Stage)
    (old mid new : List (List Candidate)) (before after : List Derived) → i < length columns →
    IsPassing columns i all done (terms_of now) old → IsStage (get_or columns i 0) (terms_of now) s →
    AreAdded (drop (i + 1) columns) (candidates (get_or columns i 0) now) old mid →
    list_all is_within (pair_sums (get_or columns i 0) (terms_of now)) ≡ true → nat_lt 4096 (sum_by staying mid) ≡ false →
    more ≡ done ++ s ∷ [] → AreTaken first mid new before after left → IsPassing columns (i + 1) all more (terms_of left) new
passing-next columns i first all now left done more s old mid new before after h p g a w m n k =
    let x = get_or columns i 0 in
    let xs = drop (i + 1) columns in
    let next = left_by x p.rows in
    let spread = spread-of columns i p.rows (terms_of now) old h p.stands in
    let past = past-of columns i all done now old mid h p a w in
    record {
      rows = next;
      stages = passing-more columns i all done more p.rows next s h p.stages (record {
        column = g.column;
        uppers = g.uppers ∙ spread.uppers;
        lowers = g.lowers ∙ spread.lowers;
      }) (past-remains x xs p.rows next mid past m) n;
      stands = stands-next xs next (terms_of left) mid new k.last past.hold past.again past.count k.lists (ap terms_of k.rows
          ∙ terms-numbered (first + length before) k.kept ∙ k.terms);
    }

pub right-first : (base : List LinearSum) (now : List Row) (steps : List Derived) (lists : List (List Candidate)) → steps ≡ [] →
    AreNumbered base now → All (λ l. l ≡ []) lists → AreMadeRight base steps now lists
right-first base now steps lists e n h =
    subst (λ (ds : List Derived). AreMadeRight base ds now lists) (sym e) (record {
      right = tt;
      numbers = n;
      founded = All-weaker (λ l. l ≡ []) (AllFounded base) (λ l q. subst (AllFounded base) (sym q) (All-nil (λ c. IsFounded base c.term
          c.origin))) lists h;
    })

-- the columns after a place, as the code slices them
pub all-others : (xs : List ℕ) (n : ℕ) (cs : List Candidate) (old new : List (List Candidate)) → AreAdded (take (length xs - n) (drop n xs))
    cs
    old new → AreAdded (drop n xs) cs old new
all-others xs n cs old new h =
    subst (λ (ys : List ℕ). AreAdded ys cs old new) (take_all (length xs - n) (drop n xs) (omega (arith, length-drop n xs))) h

pub all-others_many : (xs : List ℕ) (n : ℕ) (cs : List Candidate) (old new : List (List Candidate)) →
    AreTooMany (take (length xs - n) (drop n xs)) cs old new → AreTooMany (drop n xs) cs old new
all-others_many xs n cs old new h =
    subst (λ (ys : List ℕ). AreTooMany ys cs old new) (take_all (length xs - n) (drop n xs) (omega (arith, length-drop n xs))) h
