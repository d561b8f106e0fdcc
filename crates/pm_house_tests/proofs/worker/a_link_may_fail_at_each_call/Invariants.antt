use Rattle.pm_house_tests.proofs.worker.a_link_may_fail_at_each_call.Given as goal

-- the room and the ledger that were just made
abbrev pub ghosts-one_line-H-Ledger : goal.ghosts-one_line-H-Ledger
ghosts-one_line-H-Ledger g a = record { name = a.blank.name; parts = a.blank.parts }

abbrev pub ghosts-one_line-H-Naming : goal.ghosts-one_line-H-Naming
ghosts-one_line-H-Naming g a = record { book = a.opened }

abbrev pub ghosts-one_line-H-Home : goal.ghosts-one_line-H-Home
ghosts-one_line-H-Home g a = record { all = a.blank.parts }
