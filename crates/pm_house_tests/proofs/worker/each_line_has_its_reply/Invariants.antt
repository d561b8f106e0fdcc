use Rattle.pm_house_tests.proofs.worker.each_line_has_its_reply.Given as goal

-- the room and the ledger that were just made
abbrev pub ghosts-mixed-H-Ledger : goal.ghosts-mixed-H-Ledger
ghosts-mixed-H-Ledger g a = record { name = a.blank.name; parts = a.blank.parts }

abbrev pub ghosts-mixed-H-Naming : goal.ghosts-mixed-H-Naming
ghosts-mixed-H-Naming g a = record { book = a.opened }

abbrev pub ghosts-mixed-H-Home : goal.ghosts-mixed-H-Home
ghosts-mixed-H-Home g a = record { all = a.blank.parts }
