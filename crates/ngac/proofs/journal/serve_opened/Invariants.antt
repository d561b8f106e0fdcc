use Rattle.ngac.proofs.journal.serve_opened.Given as goal

-- the room and the ledger that were just made
abbrev pub ghosts-serve_on-H-Ledger : goal.ghosts-serve_on-H-Ledger
ghosts-serve_on-H-Ledger g a = record { name = a.blank.name; parts = a.blank.parts }

abbrev pub ghosts-serve_on-H-Naming : goal.ghosts-serve_on-H-Naming
ghosts-serve_on-H-Naming g a = record { book = a.opened }

abbrev pub ghosts-serve_on-H-Home : goal.ghosts-serve_on-H-Home
ghosts-serve_on-H-Home g a = record { all = a.blank.parts }
