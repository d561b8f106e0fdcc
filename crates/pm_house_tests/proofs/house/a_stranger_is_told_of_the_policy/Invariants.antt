use Rattle.pm_house_tests.proofs.house.a_stranger_is_told_of_the_policy.Given as goal

-- the room and the ledger that were just made
abbrev pub ghosts-policy_of_a_stranger-H-Ledger : goal.ghosts-policy_of_a_stranger-H-Ledger
ghosts-policy_of_a_stranger-H-Ledger g a = record { name = a.blank.name; parts = a.blank.parts }

abbrev pub ghosts-policy_of_a_stranger-H-Naming : goal.ghosts-policy_of_a_stranger-H-Naming
ghosts-policy_of_a_stranger-H-Naming g a = record { book = a.opened }

abbrev pub ghosts-policy_of_a_stranger-H-Home : goal.ghosts-policy_of_a_stranger-H-Home
ghosts-policy_of_a_stranger-H-Home g a = record { all = a.blank.parts }
