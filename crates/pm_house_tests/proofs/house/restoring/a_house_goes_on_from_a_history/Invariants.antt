use Rattle.pm_house_tests.proofs.house.restoring.a_house_goes_on_from_a_history.Given as goal

-- the room and the ledger that were just made
abbrev pub ghosts-three_entries-H-Ledger : goal.ghosts-three_entries-H-Ledger
ghosts-three_entries-H-Ledger g a = record { name = a.blank.name; parts = a.blank.parts }

abbrev pub ghosts-three_entries-H-Naming : goal.ghosts-three_entries-H-Naming
ghosts-three_entries-H-Naming g a = record { book = a.opened }

abbrev pub ghosts-three_entries-H-Home : goal.ghosts-three_entries-H-Home
ghosts-three_entries-H-Home g a = record { all = a.blank.parts }
