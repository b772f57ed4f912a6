-- The table of procedures, name by name.
use Rattle.std.proofs.Common.{◌≡◌, ℕ, ◌+◌, ◌<◌, Bool, true, false, Bor, List, [], ◌∷◌, length, drop, get_or, Option, Some, None, is_some, refl, ap, sym, ◌∙◌, bytes_eq, if◌then◌else◌}
use Rattle.std.proofs.lemmas.List.{at_drop_more}
use Rattle.indexmap.specs.IndexMap.{IndexMap, UpdatesBy}
use Rattle.c_tree.specs.declared.syntax_tree.ProcTree.{ProcTree}
use Rattle.c_tree.specs.declared.syntax_tree.Item.{Item}
use Rattle.c_tree.specs.declared.syntax_tree.Item.TheVariants.{Proto, Proc, Globals}
use Rattle.c_tree.specs.SourceTree.{ProcedureTree}
use Rattle.c_tree.specs.FileView.{procedure_tree_of}
use Rattle.c_typing.specs.declared.table.Definition.{Definition}
use Rattle.c_typing.specs.Scope.{Callee, defined, defined_from}
use Rattle.c_typing.specs.steps.Meanings.{found_in}
use Rattle.c_typing.specs.steps.Tables.{procedures_in, defined_as, kept_or}
use Rattle.c_typing.proofs.Known.{changed, are-same}

is_none : {T : Type 0} (o : Option T) → is_some o ≡ false → o ≡ None
is_none None e = refl
is_none (Some t) e = absurd cc

pub added : {S : Type 0} (bs : List ℕ) (m n : IndexMap (Bor (List ℕ)) Definition S) (d : Definition) (p : ProcedureTree) (number : ℕ) →
    bs ≡ p.named.name → d ≡ record { number = number; params = length p.params; void = p.void } →
    is_some (found_in m bs) ≡ false → UpdatesBy (λ x y. bytes_eq x.now y.now) (λ k. bytes_eq bs k.now) m n (Some d) →
    (x : List ℕ) → found_in n x ≡ kept_or (found_in m x) p number x
added bs m n d p number named is absent updates x = changed bs m n (Some d) (Some d) updates refl x ∙ go (bytes_eq bs x) refl (found_in m x)
    refl
  where
    go : (b : Bool) → bytes_eq bs x ≡ b → (o : Option Definition) → found_in m x ≡ o → (if b then Some d else found_in m x)
        ≡ kept_or (found_in m x) p number x
    go true same o old =
        let none : found_in m x ≡ None = ap (found_in m) (sym (are-same bs x same)) ∙ is_none (found_in m bs) absent in
        let here : bytes_eq p.named.name x ≡ true = ap (λ y. bytes_eq y x) (sym named) ∙ same in
        ap Some is ∙ sym (ap (λ b. if b then Some (record { number = number; params = length p.params; void = p.void }) else None) here)
        ∙ sym (ap (λ r. kept_or r p number x) none)
    go false other None old =
        let here : bytes_eq p.named.name x ≡ false = ap (λ y. bytes_eq y x) (sym named) ∙ other in
        old ∙ sym (ap (λ b. if b then Some (record { number = number; params = length p.params; void = p.void }) else None) here)
        ∙ sym (ap (λ r. kept_or r p number x) old)
    go false other (Some e) old = old ∙ sym (ap (λ r. kept_or r p number x) old)

-- what is known of a name already, or else what the rest says
abbrev pub found_or : Option Definition → Callee → Callee
found_or None c = c
found_or (Some d) c = defined d.number d.params d.void

pub found_end : (o : Option Definition) (x : List ℕ) (n : ℕ) (items : List Item) (i : ℕ) (c : Callee) → drop i items ≡ [] →
    found_or o (defined_from n (procedures_in (drop i items)) x) ≡ c → defined_as o ≡ c
found_end None x n items i c past h = sym (ap (λ r. defined_from n (procedures_in r) x) past) ∙ h
found_end (Some d) x n items i c past h = h

behind : (p : ProcedureTree) (n : ℕ) (x : List ℕ) (after : Callee) (r : Option Definition) (b : Bool) → bytes_eq p.named.name x ≡ b →
    found_or (kept_or r p n x) after ≡ found_or r (if b then defined n (length p.params) p.void else after)
behind p n x after (Some e) b is = refl
behind p n x after None true is = ap (λ b. found_or (if b then Some (record { number = n; params = length p.params; void = p.void }) else
    None)
    after) is
behind p n x after None false is = ap (λ b. found_or (if b then Some (record { number = n; params = length p.params; void = p.void }) else
    None)
    after) is

pub proc_turn : (items : List Item) (i : ℕ) (d : Item) (p : ProcTree) (n n' : ℕ) (o o' : Option Definition) (x : List ℕ) (c : Callee) →
    i < length items → d ≡ get_or items i d → d ≡ Proc p → n' ≡ n + 1 → o' ≡ kept_or o (procedure_tree_of p) n x →
    found_or o (defined_from n (procedures_in (drop i items)) x) ≡ c → found_or o' (defined_from n' (procedures_in (drop (i + 1) items)) x)
    ≡ c
proc_turn items i d p n n' o o' x c less at is next kept left =
    let rest = procedures_in (drop (i + 1) items) in
    let q = procedure_tree_of p in
    ap (λ r. found_or r (defined_from n' rest x)) kept ∙ ap (λ k. found_or (kept_or o q n x) (defined_from k rest x)) next
    ∙ behind q n x (defined_from (n + 1) rest x) o (bytes_eq q.named.name x) refl
    ∙ ap (λ t. found_or o (defined_from n (procedures_in (t ∷ drop (i + 1) items)) x)) (sym is ∙ at)
    ∙ sym (at_drop_more (λ r. found_or o (defined_from n (procedures_in r) x)) items i d less) ∙ left

no_procedure : (t : Item) (rest : List Item) → ((p : ProcTree) → t ≡ Proc p → ⊥) → procedures_in (t ∷ rest) ≡ procedures_in rest
no_procedure (Proto n) rest other = refl
no_procedure (Proc p) rest other = absurd (other p refl)
no_procedure (Globals gs) rest other = refl

pub plain_turn : (items : List Item) (i : ℕ) (d : Item) (n n' : ℕ) (o o' : Option Definition) (x : List ℕ) (c : Callee) → i < length items →
    d ≡ get_or items i d → ((p : ProcTree) → d ≡ Proc p → ⊥) → n' ≡ n → o' ≡ o →
    found_or o (defined_from n (procedures_in (drop i items)) x) ≡ c → found_or o' (defined_from n' (procedures_in (drop (i + 1) items)) x)
    ≡ c
plain_turn items i d n n' o o' x c less at other same kept left =
    ap (λ r. found_or r (defined_from n' (procedures_in (drop (i + 1) items)) x)) kept
    ∙ ap (λ k. found_or o (defined_from k (procedures_in (drop (i + 1) items)) x)) same
    ∙ sym (ap (λ ps. found_or o (defined_from n ps x)) (no_procedure d (drop (i + 1) items) other))
    ∙ ap (λ t. found_or o (defined_from n (procedures_in (t ∷ drop (i + 1) items)) x)) at
    ∙ sym (at_drop_more (λ r. found_or o (defined_from n (procedures_in r) x)) items i d less) ∙ left
