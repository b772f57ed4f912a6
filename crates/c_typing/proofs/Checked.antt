-- What the first fault, or none, says of a tree.
use Rattle.std.proofs.Common.{◌≡◌, true, false, List, [], Option, Some, None, codes, inl, inr, refl, ap, sym, ◌∙◌, subst}
use Rattle.c_tree.specs.declared.tree.Pos.{Pos}
use Rattle.c_tree.specs.Syntax.{PureProgram}
use Rattle.c_tree.specs.SourceTree.{FileItem}
use Rattle.c_typing.specs.declared.fault.TypeFault.{TypeFault}
use Rattle.c_typing.specs.declared.fault.TypeFault.TheVariants.{NoMain}
use Rattle.c_typing.specs.declared.fault.TypeError.{TypeError}
use Rattle.c_typing.specs.declared.fault.TypeError.TheVariants.{Refused, Memory}
use Rattle.c_typing.specs.Scope.{procedures_of, defined_from}
use Rattle.c_typing.specs.Faults.{Fault, all_faults}
use Rattle.c_typing.specs.Answer.{IsProgram, LacksMain, IsFirstFault, DefinesMain, start}
use Rattle.c_typing.specs.steps.Least.{least_from}
use Rattle.c_typing.specs.steps.Tables.{is_defined}
use Rattle.c_typing.proofs.Least.{least-is_first, first-is_least, least-none}
use Rattle.c_typing.proofs.Filed.{defined-is}

no_least : (is : List FileItem) → all_faults is ≡ [] → least_from None (all_faults is) ≡ None
no_least is e = ap (least_from None) e

-- a fault is there: it is the first, no other is, and there is no program
pub fault_told : (is : List FileItem) (f : TypeFault) (p : Pos) → least_from None (all_faults is) ≡ Some (record { fault = f; at = p }) →
    IsFirstFault is f p
fault_told is f p e = inl (least-is_first is (record { fault = f; at = p }) e)

pub fault_only : (is : List FileItem) (f g : TypeFault) (p q : Pos) → least_from None (all_faults is)
    ≡ Some (record { fault = f; at = p }) →
    IsFirstFault is g q → Refused f p ≡ Refused g q
fault_only is f g p q e (inl first) =
    let one : Fault = record { fault = f; at = p } in
    let other : Fault = record { fault = g; at = q } in
    let same : Some one ≡ Some other = sym e ∙ first-is_least is other first in
    ap (λ (o : Option Fault). elim o as (λ _. TypeError) [ None ↦ Memory | Some x ↦ Refused x.fault x.at ]) same
fault_only is f g p q e (inr lacks) = absurd (let none = no_least is lacks.faultless in cc)

pub fault_no_program : (is : List FileItem) (f : Fault) (P : PureProgram) → least_from None (all_faults is) ≡ Some f → IsProgram is P → ⊥
fault_no_program is f P e program = let none = no_least is program.faultless in cc

-- no fault is there

pub none_first : (is : List FileItem) (g : TypeFault) (q : Pos) → least_from None (all_faults is) ≡ None → IsFirstFault is g q →
    LacksMain is (record { fault = g; at = q })
none_first is g q e (inl first) = absurd (let some = first-is_least is (record { fault = g; at = q }) first in cc)
none_first is g q e (inr lacks) = lacks

not_main : (is : List FileItem) → is_defined (defined_from 0 (procedures_of is) (codes "main")) ≡ false → DefinesMain is → ⊥
not_main is e main = let same = defined-is 0 (procedures_of is) (codes "main") in cc

pub defines_main : (is : List FileItem) → is_defined (defined_from 0 (procedures_of is) (codes "main")) ≡ true → DefinesMain is
defines_main is e = sym (defined-is 0 (procedures_of is) (codes "main")) ∙ e

pub lacks_main : (is : List FileItem) → least_from None (all_faults is) ≡ None →
    is_defined (defined_from 0 (procedures_of is) (codes "main"))
    ≡ false → IsFirstFault is NoMain start
lacks_main is e none = inr (record { faultless = least-none (all_faults is) e; no_main = not_main is none; told = refl })

pub lacks_only : (is : List FileItem) (g : TypeFault) (q : Pos) → least_from None (all_faults is) ≡ None → IsFirstFault is g q →
    Refused NoMain start ≡ Refused g q
lacks_only is g q e first =
    let told = (none_first is g q e first).told in
    sym (ap (λ (x : Fault). Refused x.fault x.at) told)

pub lacks_program : (is : List FileItem) (P : PureProgram) → is_defined (defined_from 0 (procedures_of is) (codes "main")) ≡ false →
    IsProgram is P → ⊥
lacks_program is P none program = not_main is none program.main

pub main_first : (is : List FileItem) (g : TypeFault) (q : Pos) → least_from None (all_faults is) ≡ None → DefinesMain is →
    IsFirstFault is g q → ⊥
main_first is g q e main first = (none_first is g q e first).no_main main

abbrev IsTold : List FileItem → TypeError → Type 0
IsTold is (Refused f p) = IsFirstFault is f p
IsTold is Memory = Unit {0}

pub told_as : (is : List FileItem) (f g : TypeFault) (p q : Pos) → IsFirstFault is f p → Refused f p ≡ Refused g q → IsFirstFault is g q
told_as is f g p q h e = subst (IsTold is) e h
