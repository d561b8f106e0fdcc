use Rattle.callers.proofs.main.Given as goal

-- the room and the ledger that were just made
abbrev pub ghosts-run-H-Ledger : goal.ghosts-run-H-Ledger
ghosts-run-H-Ledger g a = record { name = a.blank.name; parts = a.blank.parts }

abbrev pub ghosts-run-H-Naming : goal.ghosts-run-H-Naming
ghosts-run-H-Naming g a = record { book = a.opened }

abbrev pub ghosts-run-H-Home : goal.ghosts-run-H-Home
ghosts-run-H-Home g a = record { all = a.blank.parts }
