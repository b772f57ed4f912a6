use Rattle.std.proofs.Common.{◌≡◌, ◌∙◌, ap, sym, length, arith}
use Rattle.c_typing.specs.steps.Meanings.{found_in}
use Rattle.c_typing.proofs.Numbered.{new_numbered, old_numbered}
use Rattle.c_typing.proofs.globals.keep.Goals.{then-not-contains_key+in_ok-insert, else-not-contains_key}
use Rattle.c_typing.proofs.globals.keep.Goals as goal

pub returns-clause-numbers : goal.returns-clause-numbers
returns-clause-numbers c =
    elim c.if-not-contains_key.branch [
      | then-not-contains_key+in_ok-insert w ↦
          let count : w.len.result ≡ length c.args.list.now.items = omega (arith, w.len.ensures, c.args.list.now.ok.0) in
          λ x. ap (λ m. found_in m x) w.numbers-is
          ∙ new_numbered c.as_str-name.result.now c.args.numbers.now w.insert.new.self c.args.list.now.items c.push.new.self.items
          c.args.tree w.len.result
          c.requires c.as_str-name.ensures.value count (sym c.contains_key.ensures ∙ w.if-not-contains_key.true)
          w.in_ok-insert.ensures.updates c.in_ok-push.ensures.items x
      | else-not-contains_key w ↦ old_numbered c.as_str-name.result.now c.args.numbers.now _ c.args.list.now.items c.push.new.self.items
          c.args.tree c.requires c.as_str-name.ensures.value (sym c.contains_key.ensures ∙ w.if-not-contains_key.false)
          w.numbers-is c.in_ok-push.ensures.items
    ]
