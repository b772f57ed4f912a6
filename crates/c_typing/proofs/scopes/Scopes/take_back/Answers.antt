use Rattle.std.proofs.Common.{arith, ◌∙◌}
use Rattle.c_typing.proofs.Known.{opens_depth, opens_linked, declares_depth, declares_there, declares_linked}
use Rattle.c_typing.proofs.scopes.Scopes.take_back.Goals as goal

pub overflow_sub-self : goal.overflow_sub-self
overflow_sub-self c =
    let depth = c.args.self.now.depth_is in
    let less = opens_depth c.args.self.now.entries.items c.pop.new.self.items c.in_ok-entry.entry c.in_ok-entry.ensures.items c.in-Opens.is
    in
    omega arith

pub invariant_of-self-in-Opens : goal.invariant_of-self-in-Opens
invariant_of-self-in-Opens c =
    let depth = c.args.self.now.depth_is in
    let less = opens_depth c.args.self.now.entries.items c.pop.new.self.items c.in_ok-entry.entry c.in_ok-entry.ensures.items c.in-Opens.is
    in
    record {
      depth_is = omega arith;
      linked = opens_linked c.args.self.now.entries.items c.pop.new.self.items c.in_ok-entry.entry c.args.self.now.meanings
          c.in_ok-entry.ensures.items c.in-Opens.is c.args.self.now.linked;
    }

pub restore-requires : goal.restore-requires
restore-requires c =
    declares_there c.args.self.now.entries.items c.pop.new.self.items c.in_ok-entry.entry c.in-Declares.name c.in-Declares.field-1
    c.in-Declares.before c.args.self.now.meanings c.in_ok-entry.ensures.items c.in-Declares.is c.args.self.now.linked

pub invariant_of-self-in-Declares : goal.invariant_of-self-in-Declares
invariant_of-self-in-Declares c =
    let old = c.args.self.now.entries.items in
    let new = c.pop.new.self.items in
    let entry = c.in_ok-entry.entry in
    let d = c.in-Declares in
    record {
      depth_is = c.args.self.now.depth_is ∙ declares_depth old new entry d.name d.field-1 d.before c.in_ok-entry.ensures.items d.is;
      linked = declares_linked old new entry d.name d.field-1 d.before c.args.self.now.meanings c.restore.new.meanings
          c.in_ok-entry.ensures.items d.is c.args.self.now.linked c.restore.ensures;
    }
