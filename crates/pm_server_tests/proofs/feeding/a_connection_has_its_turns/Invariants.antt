use Rattle.pm_server_tests.proofs.feeding.a_connection_has_its_turns.Given as goal

-- the room and the ledger that were just made
abbrev pub ghosts-accepted_and_served-H-Ledger : goal.ghosts-accepted_and_served-H-Ledger
ghosts-accepted_and_served-H-Ledger g a = record { name = a.blank.name; parts = a.blank.parts }

abbrev pub ghosts-accepted_and_served-H-Naming : goal.ghosts-accepted_and_served-H-Naming
ghosts-accepted_and_served-H-Naming g a = record { book = a.opened }

abbrev pub ghosts-accepted_and_served-H-Home : goal.ghosts-accepted_and_served-H-Home
ghosts-accepted_and_served-H-Home g a = record { all = a.blank.parts }
