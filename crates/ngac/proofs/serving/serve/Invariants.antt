use Rattle.ngac.proofs.serving.serve.Given as goal

-- the room and the ledger that were just made
abbrev pub ghosts-serve_anew-H-Ledger : goal.ghosts-serve_anew-H-Ledger
ghosts-serve_anew-H-Ledger g a = record { name = a.blank.name; parts = a.blank.parts }

abbrev pub ghosts-serve_anew-H-Naming : goal.ghosts-serve_anew-H-Naming
ghosts-serve_anew-H-Naming g a = record { book = a.opened }

abbrev pub ghosts-serve_anew-H-Home : goal.ghosts-serve_anew-H-Home
ghosts-serve_anew-H-Home g a = record { all = a.blank.parts }
