use Rattle.pm_recovery_tests.proofs.houses.go_on.Given as goal

-- the room and the ledger that were just made
abbrev pub ghosts-house_over-H-Ledger : goal.ghosts-house_over-H-Ledger
ghosts-house_over-H-Ledger g a = record { name = a.blank.name; parts = a.blank.parts }

abbrev pub ghosts-house_over-H-Naming : goal.ghosts-house_over-H-Naming
ghosts-house_over-H-Naming g a = record { book = a.opened }

abbrev pub ghosts-house_over-H-Home : goal.ghosts-house_over-H-Home
ghosts-house_over-H-Home g a = record { all = a.blank.parts }
