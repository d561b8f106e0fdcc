use Rattle.pm_house_tests.proofs.house.threads_share_one_history.Given as goal

-- the room and the ledger that were just made
abbrev pub ghosts-two_callers-H-Ledger : goal.ghosts-two_callers-H-Ledger
ghosts-two_callers-H-Ledger g a = record { name = a.blank.name; parts = a.blank.parts }

abbrev pub ghosts-two_callers-H-Naming : goal.ghosts-two_callers-H-Naming
ghosts-two_callers-H-Naming g a = record { book = a.opened }

abbrev pub ghosts-two_callers-H-Home : goal.ghosts-two_callers-H-Home
ghosts-two_callers-H-Home g a = record { all = a.blank.parts }
