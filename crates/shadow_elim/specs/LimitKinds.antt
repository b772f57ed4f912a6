-- Which limit was met, without what it keeps.
use Rattle.shadow_elim.specs.declared.limit.Limit.{Limit}
use Rattle.shadow_elim.specs.declared.limit.Limit.TheVariants as limit
use Rattle.shadow_elim.specs.declared.limit.LimitKind.{LimitKind}
use Rattle.shadow_elim.specs.declared.limit.LimitKind.TheVariants as kind

abbrev pub kind_of : Limit → LimitKind
kind_of limit.Columns = kind.Columns
kind_of (limit.Wide branch) = kind.Wide
kind_of (limit.Rows branch) = kind.Rows
kind_of (limit.Branches branches) = kind.Branches
kind_of (limit.Inexact pair) = kind.Inexact
