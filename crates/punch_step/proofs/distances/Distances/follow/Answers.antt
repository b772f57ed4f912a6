use Rattle.std.proofs.Common.{◌≡◌, ◌∙◌, ◌-◌, ◌<◌, ◌==◌, Some, refl, length, sym, subst, ap}
use Rattle.std.specs.Prelude.{slice_get, if◌then◌else◌}
use Rattle.std.specs.Option.{option_copied}
use Rattle.query_rules.specs.Paths.{gives_up}
use Rattle.query_rules.specs.Steps.{uncut, stepped}
use Rattle.query_rules.specs.declared.step.Step.TheVariants as step
use Rattle.may_partition.specs.Shown.{Shown}
use Rattle.punch_step.specs.steps.Following.{AreOf}
use Rattle.punch_step.proofs.Followed.{is_last, kill_followed, noted_kill, mark_followed, mark_within, on_ok, split_from, stuck_followed}
use Rattle.punch_step.proofs.distances.Distances.follow.Goals as goal

pub index_mut-requires : goal.index_mut-requires
index_mut-requires c =
    let b = c.requires in let k = c.in-Some-Extend.edge in
    let is : b.step ≡ step.Extend c.in-Some-Extend.edge c.in-Some-Extend.field-0-1 c.in-Some-Extend.field-0-2 = is_last c.args.state.now
    c.args.self.now c.requires (step.Extend c.in-Some-Extend.edge c.in-Some-Extend.field-0-1 c.in-Some-Extend.field-0-2)
    (ap (λ xs. slice_get xs (length xs - 1)) (sym c.steps.ensures) ∙ sym c.last.ensures.value
    ∙ ap option_copied c.in-Some-Extend.is ∙ ap Some c.in-Some-Extend.field-0-is) in
    subst (λ n. k.to < n) (sym c.args.self.now.marked.ok.0) (mark_within c.args.state.now c.args.self.now b k
    (if k.edge == 0 then 0 else length b.model.trails) c.in-Some-Extend.field-0-2
    (ap (λ x. (stepped b.graph b.table x b.model).parted.regions) is)
    (λ e. ap (λ x. (stepped b.graph b.table x b.model).parted.live e) is)
    (ap (λ x. (stepped b.graph b.table x b.model).marks) is) (λ e. ap (gives_up e) is))

pub returns-in-Some-Extend-clause-followed : goal.returns-in-Some-Extend-clause-followed
returns-in-Some-Extend-clause-followed c =
    let b = c.requires in let k = c.in-Some-Extend.edge in
    let is : b.step ≡ step.Extend c.in-Some-Extend.edge c.in-Some-Extend.field-0-1 c.in-Some-Extend.field-0-2 = is_last c.args.state.now
    c.args.self.now c.requires (step.Extend c.in-Some-Extend.edge c.in-Some-Extend.field-0-1 c.in-Some-Extend.field-0-2)
    (ap (λ xs. slice_get xs (length xs - 1)) (sym c.steps.ensures) ∙ sym c.last.ensures.value
    ∙ ap option_copied c.in-Some-Extend.is ∙ ap Some c.in-Some-Extend.field-0-is) in
    mark_followed c.args.state.now c.args.self.now b k (if k.edge == 0 then 0 else length b.model.trails) c.in-Some-Extend.field-0-2
    (ap (λ x. (stepped b.graph b.table x b.model).parted.regions) is)
    (λ e. ap (λ x. (stepped b.graph b.table x b.model).parted.live e) is)
    (ap (λ x. (stepped b.graph b.table x b.model).marks) is) (λ e. ap (gives_up e) is)
    _ refl refl refl refl refl

pub index_mut-requires-in-Some-CallExtend : goal.index_mut-requires-in-Some-CallExtend
index_mut-requires-in-Some-CallExtend c =
    let b = c.requires in let k = c.in-Some-CallExtend.edge in
    let is : b.step ≡ step.CallExtend c.in-Some-CallExtend.edge c.in-Some-CallExtend.field-0-1 c.in-Some-CallExtend.field-0-2
    c.in-Some-CallExtend.field-0-3 = is_last c.args.state.now c.args.self.now c.requires
    (step.CallExtend c.in-Some-CallExtend.edge c.in-Some-CallExtend.field-0-1 c.in-Some-CallExtend.field-0-2 c.in-Some-CallExtend.field-0-3)
    (ap (λ xs. slice_get xs (length xs - 1)) (sym c.steps.ensures) ∙ sym c.last.ensures.value
    ∙ ap option_copied c.in-Some-CallExtend.is ∙ ap Some c.in-Some-CallExtend.field-0-is) in
    subst (λ n. k.to < n) (sym c.args.self.now.marked.ok.0) (mark_within c.args.state.now c.args.self.now b k (length b.model.trails)
    c.in-Some-CallExtend.field-0-3
    (ap (λ x. (stepped b.graph b.table x b.model).parted.regions) is)
    (λ e. ap (λ x. (stepped b.graph b.table x b.model).parted.live e) is)
    (ap (λ x. (stepped b.graph b.table x b.model).marks) is) (λ e. ap (gives_up e) is))

pub returns-in-Some-CallExtend-clause-followed : goal.returns-in-Some-CallExtend-clause-followed
returns-in-Some-CallExtend-clause-followed c =
    let b = c.requires in let k = c.in-Some-CallExtend.edge in
    let is : b.step ≡ step.CallExtend c.in-Some-CallExtend.edge c.in-Some-CallExtend.field-0-1 c.in-Some-CallExtend.field-0-2
    c.in-Some-CallExtend.field-0-3 = is_last c.args.state.now c.args.self.now c.requires
    (step.CallExtend c.in-Some-CallExtend.edge c.in-Some-CallExtend.field-0-1 c.in-Some-CallExtend.field-0-2 c.in-Some-CallExtend.field-0-3)
    (ap (λ xs. slice_get xs (length xs - 1)) (sym c.steps.ensures) ∙ sym c.last.ensures.value
    ∙ ap option_copied c.in-Some-CallExtend.is ∙ ap Some c.in-Some-CallExtend.field-0-is) in
    mark_followed c.args.state.now c.args.self.now b k (length b.model.trails) c.in-Some-CallExtend.field-0-3
    (ap (λ x. (stepped b.graph b.table x b.model).parted.regions) is)
    (λ e. ap (λ x. (stepped b.graph b.table x b.model).parted.live e) is)
    (ap (λ x. (stepped b.graph b.table x b.model).marks) is) (λ e. ap (gives_up e) is)
    _ refl refl refl refl refl

pub divide-requires : goal.divide-requires
divide-requires c =
    let b = c.requires in
    let is : b.step ≡ step.Split c.in-Some-Split.edge c.in-Some-Split.field-0-1 c.in-Some-Split.field-0-2 c.in-Some-Split.field-0-3 =
    is_last c.args.state.now
    c.args.self.now c.requires (step.Split c.in-Some-Split.edge c.in-Some-Split.field-0-1 c.in-Some-Split.field-0-2
    c.in-Some-Split.field-0-3)
    (ap (λ xs. slice_get xs (length xs - 1)) (sym c.steps.ensures) ∙ sym c.last.ensures.value
    ∙ ap option_copied c.in-Some-Split.is ∙ ap Some c.in-Some-Split.field-0-is) in
    record {
      split = split_from c.args.state.now c.args.self.now b c.in-Some-Split.edge c.in-Some-Split.field-0-1
          (ap (λ x. (stepped b.graph b.table x b.model).parted) is) (λ e. ap (gives_up e) is);
    }

pub divide-requires-in-Some-CallSplit : goal.divide-requires-in-Some-CallSplit
divide-requires-in-Some-CallSplit c =
    let b = c.requires in
    let last = step.CallSplit c.in-Some-CallSplit.edge c.in-Some-CallSplit.field-0-1 c.in-Some-CallSplit.field-0-2
    c.in-Some-CallSplit.field-0-3 c.in-Some-CallSplit.field-0-4 in
    let is : b.step ≡ last = is_last c.args.state.now c.args.self.now c.requires last
    (ap (λ xs. slice_get xs (length xs - 1)) (sym c.steps.ensures) ∙ sym c.last.ensures.value
    ∙ ap option_copied c.in-Some-CallSplit.is ∙ ap Some c.in-Some-CallSplit.field-0-is) in
    record {
      split = split_from c.args.state.now c.args.self.now b (uncut c.in-Some-CallSplit.edge) c.in-Some-CallSplit.field-0-2
          (ap (λ x. (stepped b.graph b.table x b.model).parted) is) (λ e. ap (gives_up e) is);
    }

pub divide-requires-in-Some-CallPart : goal.divide-requires-in-Some-CallPart
divide-requires-in-Some-CallPart c =
    let b = c.requires in
    let last = step.CallPart c.in-Some-CallPart.edge c.in-Some-CallPart.field-0-1 c.in-Some-CallPart.field-0-2 c.in-Some-CallPart.field-0-3
    c.in-Some-CallPart.field-0-4 c.in-Some-CallPart.field-0-5 in
    let is : b.step ≡ last = is_last c.args.state.now c.args.self.now c.requires last
    (ap (λ xs. slice_get xs (length xs - 1)) (sym c.steps.ensures) ∙ sym c.last.ensures.value
    ∙ ap option_copied c.in-Some-CallPart.is ∙ ap Some c.in-Some-CallPart.field-0-is) in
    record {
      split = split_from c.args.state.now c.args.self.now b (uncut c.in-Some-CallPart.edge) c.in-Some-CallPart.field-0-3
          (ap (λ x. (stepped b.graph b.table x b.model).parted) is) (λ e. ap (gives_up e) is);
    }

pub returns-in_ok-add-in-Some-Stuck-clause-followed : goal.returns-in_ok-add-in-Some-Stuck-clause-followed
returns-in_ok-add-in-Some-Stuck-clause-followed c =
    let b = c.requires in
    let is : b.step ≡ step.Stuck c.in-Some-Stuck.edge c.in-Some-Stuck.field-0-1 c.in-Some-Stuck.field-0-2 = is_last c.args.state.now
    c.args.self.now c.requires (step.Stuck c.in-Some-Stuck.edge c.in-Some-Stuck.field-0-1 c.in-Some-Stuck.field-0-2)
    (ap (λ xs. slice_get xs (length xs - 1)) (sym c.steps.ensures) ∙ sym c.last.ensures.value
    ∙ ap option_copied c.in-Some-Stuck.is ∙ ap Some c.in-Some-Stuck.field-0-is) in
    let rest = c.leave-in-Some-Stuck.ensures.rest in
    on_ok c.leave-in-Some-Stuck.result
    (stuck_followed c.args.state.now c.args.self.now b c.in-Some-Stuck.edge c.in-Some-Stuck.field-0-1 c.in-Some-Stuck.field-0-2 is
    c.add.new.self
    c.in_ok-add-in-Some-Stuck.ensures.live c.leave-in-Some-Stuck.new.self rest.target rest.shut rest.marked
    c.leave-in-Some-Stuck.ensures.noted
    (subst (λ (p : Shown). AreOf p c.leave-in-Some-Stuck.new.self) c.partition-in-Some-Stuck.ensures c.leave-in-Some-Stuck.ensures.far))

pub returns-in-Some-Kill-clause-followed : goal.returns-in-Some-Kill-clause-followed
returns-in-Some-Kill-clause-followed c =
    let s = c.args.state.now in let d = c.args.self.now in let b = c.requires in let k = c.in-Some-Kill.edge in
    let is : b.step ≡ step.Kill k c.in-Some-Kill.field-0-1 = is_last s d c.requires (step.Kill k c.in-Some-Kill.field-0-1)
    (ap (λ xs. slice_get xs (length xs - 1)) (sym c.steps.ensures) ∙ sym c.last.ensures.value
    ∙ ap option_copied c.in-Some-Kill.is ∙ ap Some c.in-Some-Kill.field-0-is) in
    let new = c.leave.new.self in let rest = c.leave.ensures.rest in
    on_ok c.leave.result
    (kill_followed s d b k c.in-Some-Kill.field-0-1 is new (record { target = rest.target; shut = rest.shut; marked = rest.marked })
    (subst (λ (p : Shown). AreOf p new) c.partition.ensures c.leave.ensures.far)
    (noted_kill s d b k c.in-Some-Kill.field-0-1 is new.noted.items
    (λ r e h. c.forget.ensures r e (subst (λ v. slice_get v.items r ≡ Some (Some e)) c.leave.ensures.noted h))))
