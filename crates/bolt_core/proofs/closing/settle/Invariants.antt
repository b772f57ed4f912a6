use Rattle.bolt_core.proofs.closing.settle.Given as goal

abbrev pub ghost-show_group : goal.ghost-show_group
ghost-show_group g a = g.base
