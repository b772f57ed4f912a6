-- A step reads its token: declarations of globals.
use Rattle.std.specs.Prelude.{◌≡◌, List, [], ◌∷◌, ◌++◌, Bool, true, false}
use Rattle.std.proofs.Common.{sym, subst, append_assoc}
use Rattle.c_lexer.specs.declared.token.Punct.TheVariants as punct
use Rattle.c_lexer.specs.declared.token.TokenKind.{TokenKind}
use Rattle.c_lexer.specs.declared.token.TokenKind.TheVariants as kind
use Rattle.c_lexer.specs.Pure.{PureToken}
use Rattle.c_tree.specs.SourceTree as tree
use Rattle.c_tree.specs.SourceTree.{Identifier, Global}
use Rattle.c_parser.specs.Grammar.{a_name, IsGlobal, IsGlobals, IsType}
use Rattle.c_parser.specs.Grammar as grammar
use Rattle.c_parser.specs.steps.Machine.{global_read, global_named, global_signed, global_assigned, first_global}
use Rattle.c_parser.proofs.Reading.{Item, Marked, token, the_mark, absent, present, TitleText, title, GlobalsText, no_globals, globals_text, sign_mark, next_global, assigned_global, signed_global, read_global, Reaches, reads_at, item_at}

globals_at : {xs ys : List PureToken} {gs hs : List Global} → IsGlobals xs gs → xs ≡ ys → gs ≡ hs → IsGlobals ys hs
globals_at {ys = ys} {gs} h e f = subst (λ l. IsGlobals ys l) f (subst (λ l. IsGlobals l gs) e h)

all_globals : {ts us : List PureToken} {gs hs : List Global} → GlobalsText ts gs → IsGlobals us hs → IsGlobals (ts ++ us) (gs ++ hs)
all_globals no_globals h = h
all_globals {hs = hs} (globals_text {t = t} {gs} {g} before one k) h =
    globals_at (all_globals before (grammar.more one t k.is h)) (simp append_assoc) (sym (append_assoc gs (g ∷ []) hs))

globals_item : {ts names us : List PureToken} {t : PureToken} {gs : List Global} {g : Global} → IsType ts → GlobalsText names gs →
    IsGlobal us g → Marked punct.Semicolon t → Item (ts ++ (names ++ (us ++ t ∷ []))) (tree.globals (gs ++ g ∷ []))
globals_item {t = t} ty before one k = record { deep = _; is = grammar.globals ty (all_globals before (grammar.last one t k.is)) }

-- after a global
pub read_reads : {ts names us : List PureToken} {gs : List Global} {g : Global} → IsType ts → GlobalsText names gs → IsGlobal us g →
    (k : TokenKind) (x : Identifier) → Reaches (global_read k (gs ++ g ∷ [])) ((ts ++ (names ++ us)) ++ token k x ∷ [])
read_reads ty before one (kind.Mark punct.Comma) x = reads_at (next_global ty (globals_text before one (the_mark punct.Comma x)))
    (simp append_assoc)
read_reads ty before one (kind.Mark punct.Semicolon) x = item_at (globals_item ty before one (the_mark punct.Semicolon x))
    (simp append_assoc)
read_reads ty before one (kind.Mark m) x = tt
read_reads ty before one (kind.Literal n) x = tt
read_reads ty before one (kind.Word w) x = tt
read_reads ty before one kind.Name x = tt

-- after its name
pub named_reads : {ts names : List PureToken} {gs : List Global} (n : Identifier) → IsType ts → GlobalsText names gs →
    (k : TokenKind) (x : Identifier) → Reaches (global_named k n gs) ((ts ++ (names ++ a_name n ∷ [])) ++ token k x ∷ [])
named_reads n ty before (kind.Mark punct.Assign) x = reads_at (assigned_global {n = n} ty before (the_mark punct.Assign x))
    (simp append_assoc)
named_reads n ty before (kind.Mark m) x = read_reads ty before (grammar.bare {n = n}) (kind.Mark m) x
named_reads n ty before (kind.Literal v) x = tt
named_reads n ty before (kind.Word w) x = tt
named_reads n ty before kind.Name x = tt

-- after the name of an item
pub titled_reads : {outer void : Bool} {n : Identifier} {text : List PureToken} → TitleText outer void n text →
    (k : TokenKind) (x : Identifier) → Reaches (first_global outer void k n) (text ++ token k x ∷ [])
titled_reads {n = n} (title absent (grammar.typed ty)) k x = named_reads n ty no_globals k x
titled_reads (title absent (grammar.void h)) k x = tt
titled_reads (title (present e) r) k x = tt

-- after a sign
pub signed_reads : {ts names : List PureToken} {t u : PureToken} {gs : List Global} (n : Identifier) (minus : Bool) → IsType ts →
    GlobalsText names gs → Marked punct.Assign t → Marked (sign_mark minus) u → (k : TokenKind) (x : Identifier) →
    Reaches (global_signed minus k n gs) ((ts ++ (names ++ a_name n ∷ t ∷ u ∷ [])) ++ token k x ∷ [])
signed_reads {t = t} {u} n true ty before a m (kind.Literal v) x = reads_at (read_global ty before (grammar.valued {n = n} {t = t} a.is
    (grammar.after_minus {n = v} {at = x.at} {text = x.name} {t = u} m.is))) (simp append_assoc)
signed_reads {t = t} {u} n false ty before a m (kind.Literal v) x = reads_at (read_global ty before (grammar.valued {n = n} {t = t} a.is
    (grammar.after_plus {n = v} {at = x.at} {text = x.name} {t = u} m.is))) (simp append_assoc)
signed_reads n minus ty before a m (kind.Mark p) x = tt
signed_reads n minus ty before a m (kind.Word w) x = tt
signed_reads n minus ty before a m kind.Name x = tt

-- after `=`
pub assigned_reads : {ts names : List PureToken} {t : PureToken} {gs : List Global} (n : Identifier) → IsType ts → GlobalsText names gs →
    Marked punct.Assign t → (k : TokenKind) (x : Identifier) →
    Reaches (global_assigned k n gs) ((ts ++ (names ++ a_name n ∷ t ∷ [])) ++ token k x ∷ [])
assigned_reads n ty before a (kind.Mark punct.Minus) x = reads_at (signed_global {n = n} true ty before a (the_mark punct.Minus x))
    (simp append_assoc)
assigned_reads n ty before a (kind.Mark punct.Plus) x = reads_at (signed_global {n = n} false ty before a (the_mark punct.Plus x))
    (simp append_assoc)
assigned_reads n ty before a (kind.Mark m) x = tt
assigned_reads {t = t} n ty before a (kind.Literal v) x = reads_at (read_global ty before (grammar.valued {n = n} {t = t} a.is
    (grammar.unsigned {n = v} {at = x.at} {text = x.name})))
    (simp append_assoc)
assigned_reads n ty before a (kind.Word w) x = tt
assigned_reads n ty before a kind.Name x = tt
