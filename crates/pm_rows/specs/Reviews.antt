-- Worked rows on reviews.
use Rattle.std.specs.Prelude.{List, [], ◌∷◌, codes}
use Rattle.pm_rows.specs.Rows.{Row}

-- What is wrong with the form of a review, what it names that isn't there, and what isn't a user. An element of any kind has
-- entries, and a user who is named twice is counted twice.
abbrev pub refused_reviews : Row
refused_reviews = record {
  lines =
      codes "{\"cmd\":\"caps\",\"proc\":1,\"user\":\"none\"}" ∷
      codes "{\"cmd\":\"caps\",\"proc\":0}" ∷
      codes "{\"cmd\":\"caps\",\"proc\":0,\"user\":\"none\"}" ∷
      codes "{\"cmd\":\"caps\",\"proc\":0,\"user\":\"pm\"}" ∷
      codes "{\"cmd\":\"caps\",\"id\":5,\"proc\":0,\"user\":\"root\"}" ∷
      codes "{\"cmd\":\"entries\",\"element\":\"pm\",\"proc\":0}" ∷
      codes "{\"cmd\":\"survey\",\"proc\":0,\"users\":[]}" ∷
      codes "{\"cmd\":\"survey\",\"proc\":0,\"users\":[\"pm\",\"none\"]}" ∷
      codes "{\"cmd\":\"survey\",\"proc\":0,\"users\":[\"root\",\"pm\"]}" ∷
      codes "{\"cmd\":\"survey\",\"id\":7,\"proc\":0,\"users\":[\"root\",\"root\"]}" ∷ [];
  replies =
      codes "{\"no\":\"unknown_process\",\"v\":0}" ∷
      codes "{\"field\":\"user\",\"no\":\"bad_field\",\"v\":0}" ∷
      codes "{\"name\":\"none\",\"no\":\"unknown_name\",\"v\":0}" ∷
      codes "{\"no\":\"bad_kinds\",\"v\":0}" ∷
      codes "{\"id\":5,\"list\":[],\"ok\":\"caps\",\"v\":0}" ∷
      codes "{\"list\":[],\"ok\":\"entries\",\"v\":0}" ∷
      codes "{\"field\":\"users\",\"no\":\"bad_field\",\"v\":0}" ∷
      codes "{\"name\":\"none\",\"no\":\"unknown_name\",\"v\":0}" ∷
      codes "{\"no\":\"bad_kinds\",\"v\":0}" ∷
      codes "{\"counts\":[[\"root\",0],[\"root\",0]],\"id\":7,\"ok\":\"survey\",\"v\":0}" ∷ [];
}

-- What those in an attribute may do is told of each of them, and by whoever may review. An access of its own needs no review.
abbrev pub staff_and_documents : Row
staff_and_documents = record {
  lines =
      codes "{\"cmd\":\"create_pc\",\"name\":\"files\",\"proc\":0}" ∷
      codes "{\"cmd\":\"create_ua\",\"into\":\"files\",\"name\":\"staff\",\"proc\":0}" ∷
      codes "{\"cmd\":\"create_oa\",\"into\":\"files\",\"name\":\"docs\",\"proc\":0}" ∷
      codes "{\"cmd\":\"create_user\",\"into\":\"staff\",\"name\":\"ann\",\"proc\":0}" ∷
      codes "{\"cmd\":\"create_user\",\"into\":\"staff\",\"name\":\"bob\",\"proc\":0}" ∷
      codes "{\"cmd\":\"create_object\",\"into\":\"docs\",\"name\":\"memo\",\"proc\":0}" ∷
      codes "{\"at\":\"docs\",\"cmd\":\"associate\",\"proc\":0,\"rights\":[\"read\"],\"ua\":\"staff\"}" ∷
      codes "{\"cmd\":\"open_session\",\"user\":\"ann\"}" ∷
      codes "{\"cmd\":\"start_process\",\"session\":1}" ∷
      codes "{\"cmd\":\"open_session\",\"user\":\"bob\"}" ∷
      codes "{\"cmd\":\"start_process\",\"session\":2}" ∷
      codes "{\"cmd\":\"caps\",\"proc\":0,\"user\":\"ann\"}" ∷
      codes "{\"cmd\":\"entries\",\"element\":\"memo\",\"proc\":0}" ∷
      codes "{\"cmd\":\"survey\",\"proc\":0,\"users\":[\"ann\",\"root\"]}" ∷
      codes "{\"cmd\":\"caps\",\"proc\":1,\"user\":\"ann\"}" ∷ [];
  replies =
      codes "{\"ok\":\"done\",\"v\":1}" ∷
      codes "{\"ok\":\"done\",\"v\":2}" ∷
      codes "{\"ok\":\"done\",\"v\":3}" ∷
      codes "{\"ok\":\"done\",\"v\":4}" ∷
      codes "{\"ok\":\"done\",\"v\":5}" ∷
      codes "{\"ok\":\"done\",\"v\":6}" ∷
      codes "{\"ok\":\"done\",\"v\":7}" ∷
      codes "{\"ok\":\"done\",\"session\":1,\"v\":8}" ∷
      codes "{\"ok\":\"done\",\"process\":1,\"v\":9}" ∷
      codes "{\"ok\":\"done\",\"session\":2,\"v\":10}" ∷
      codes "{\"ok\":\"done\",\"process\":2,\"v\":11}" ∷
      codes "{\"list\":[[\"docs\",\"1\"],[\"memo\",\"1\"]],\"ok\":\"caps\",\"v\":11}" ∷
      codes "{\"list\":[[\"ann\",\"1\"],[\"bob\",\"1\"]],\"ok\":\"entries\",\"v\":11}" ∷
      codes "{\"counts\":[[\"ann\",2],[\"root\",0]],\"ok\":\"survey\",\"v\":11}" ∷
      codes "{\"class\":\"files\",\"no\":\"denied\",\"right\":\"review\",\"target\":\"ann\",\"v\":11}" ∷ [];
}

-- A right that a prohibition on the user covers isn't told; one on a process takes nothing from what is told. Whoever has the
-- right `review` on an element may ask for its entries, and who is no user is told so only where the capability is had.
abbrev pub prohibited_rights : Row
prohibited_rights = record {
  lines =
      codes "{\"cmd\":\"create_pc\",\"name\":\"files\",\"proc\":0}" ∷
      codes "{\"cmd\":\"create_ua\",\"into\":\"files\",\"name\":\"staff\",\"proc\":0}" ∷
      codes "{\"cmd\":\"create_oa\",\"into\":\"files\",\"name\":\"docs\",\"proc\":0}" ∷
      codes "{\"cmd\":\"create_user\",\"into\":\"staff\",\"name\":\"ann\",\"proc\":0}" ∷
      codes "{\"at\":\"docs\",\"cmd\":\"associate\",\"proc\":0,\"rights\":[\"review\",\"write\",\"read\"],\"ua\":\"staff\"}" ∷
      codes "{\"cmd\":\"open_session\",\"user\":\"ann\"}" ∷
      codes "{\"cmd\":\"start_process\",\"session\":1}" ∷
      codes "{\"cmd\":\"prohibit\",\"exc\":[],\"inc\":[\"docs\"],\"mode\":\"all\",\"name\":\"bar\",\"proc\":0,\"rights\":[\"write\"],\"subject\":{\"user\":\"ann\"}}" ∷
      codes "{\"cmd\":\"prohibit\",\"exc\":[],\"inc\":[\"docs\"],\"mode\":\"all\",\"name\":\"wall\",\"proc\":0,\"rights\":[\"read\"],\"subject\":{\"process\":1}}" ∷
      codes "{\"cmd\":\"caps\",\"proc\":0,\"user\":\"ann\"}" ∷
      codes "{\"cmd\":\"entries\",\"element\":\"docs\",\"proc\":1}" ∷
      codes "{\"cmd\":\"survey\",\"proc\":1,\"users\":[\"docs\",\"ann\"]}" ∷
      codes "{\"cmd\":\"caps\",\"proc\":1,\"user\":\"docs\"}" ∷ [];
  replies =
      codes "{\"ok\":\"done\",\"v\":1}" ∷
      codes "{\"ok\":\"done\",\"v\":2}" ∷
      codes "{\"ok\":\"done\",\"v\":3}" ∷
      codes "{\"ok\":\"done\",\"v\":4}" ∷
      codes "{\"ok\":\"done\",\"v\":5}" ∷
      codes "{\"ok\":\"done\",\"session\":1,\"v\":6}" ∷
      codes "{\"ok\":\"done\",\"process\":1,\"v\":7}" ∷
      codes "{\"ok\":\"done\",\"v\":8}" ∷
      codes "{\"ok\":\"done\",\"v\":9}" ∷
      codes "{\"list\":[[\"docs\",\"10001\"]],\"ok\":\"caps\",\"v\":9}" ∷
      codes "{\"list\":[[\"ann\",\"10001\"]],\"ok\":\"entries\",\"v\":9}" ∷
      codes "{\"class\":\"files\",\"no\":\"denied\",\"right\":\"review\",\"target\":\"ann\",\"v\":9}" ∷
      codes "{\"no\":\"bad_kinds\",\"v\":9}" ∷ [];
}

abbrev pub review_rows : List Row
review_rows = refused_reviews ∷ staff_and_documents ∷ prohibited_rights ∷ []
