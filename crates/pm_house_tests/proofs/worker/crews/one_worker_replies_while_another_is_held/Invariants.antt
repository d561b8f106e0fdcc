use Rattle.pm_house_tests.proofs.worker.crews.one_worker_replies_while_another_is_held.Given as goal

-- the room and the ledger that were just made
abbrev pub ghosts-classes-H-Ledger : goal.ghosts-classes-H-Ledger
ghosts-classes-H-Ledger g a = record { name = a.blank.name; parts = a.blank.parts }

abbrev pub ghosts-classes-H-Naming : goal.ghosts-classes-H-Naming
ghosts-classes-H-Naming g a = record { book = a.opened }

abbrev pub ghosts-classes-H-Home : goal.ghosts-classes-H-Home
ghosts-classes-H-Home g a = record { all = a.blank.parts }
