use Rattle.pm_publish_tests.proofs.publish.versions_never_fall_beside_a_publisher.Given as goal

-- the room that was just opened
abbrev pub ghosts-look_beside_a_publisher : goal.ghosts-look_beside_a_publisher
ghosts-look_beside_a_publisher g a = record { book = a.opened }
