use Rattle.step_tests.proofs.families.begun_beside.Goals as goal

pub begun_root-requires : goal.begun_root-requires
begun_root-requires c = c.requires.analysed.grounded.table_holds
