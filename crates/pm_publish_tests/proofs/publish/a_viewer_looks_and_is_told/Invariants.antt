use Rattle.pm_publish_tests.proofs.publish.a_viewer_looks_and_is_told.Given as goal

-- the room that was just opened
abbrev pub ghosts-look_and_be_told : goal.ghosts-look_and_be_told
ghosts-look_and_be_told g a = record { book = a.opened }
