-- Worked rows on prohibitions and on the capabilities of a delegate.
use Rattle.std.specs.Prelude.{List, [], ◌∷◌, ◌++◌, codes}
use Rattle.pm_rows.specs.Rows.{Row, staff_lines, staff_replies}

-- A prohibition on an attribute denies the users in it, its rights alone, and nothing in its exclusion. Of two that apply
-- and cover, the first in order of creation is told.
abbrev pub prohibition_on_attribute : Row
prohibition_on_attribute = record {
  lines =
      staff_lines ++
      codes "{\"cmd\":\"create_oa\",\"into\":\"docs\",\"name\":\"shown\",\"proc\":0}" ∷
      codes "{\"cmd\":\"create_object\",\"into\":\"shown\",\"name\":\"flyer\",\"proc\":0}" ∷
      codes "{\"at\":\"memo\",\"cmd\":\"associate\",\"proc\":0,\"rights\":[\"write\"],\"ua\":\"staff\"}" ∷
      codes "{\"cmd\":\"prohibit\",\"exc\":[\"shown\"],\"inc\":[\"docs\"],\"mode\":\"all\",\"name\":\"lock\",\"proc\":0,\"rights\":[\"read\"],\"subject\":{\"ua\":\"staff\"}}" ∷
      codes "{\"cmd\":\"access\",\"proc\":1,\"right\":\"read\",\"target\":\"memo\"}" ∷
      codes "{\"cmd\":\"access\",\"proc\":1,\"right\":\"write\",\"target\":\"memo\"}" ∷
      codes "{\"cmd\":\"access\",\"proc\":1,\"right\":\"read\",\"target\":\"flyer\"}" ∷
      codes "{\"cmd\":\"prohibit\",\"exc\":[],\"inc\":[\"docs\"],\"mode\":\"all\",\"name\":\"hold\",\"proc\":0,\"rights\":[\"read\"],\"subject\":{\"user\":\"ann\"}}" ∷
      codes "{\"cmd\":\"access\",\"proc\":1,\"right\":\"read\",\"target\":\"memo\"}" ∷
      codes "{\"cmd\":\"access\",\"proc\":1,\"right\":\"read\",\"target\":\"flyer\"}" ∷
      codes "{\"cmd\":\"access\",\"proc\":2,\"right\":\"read\",\"target\":\"flyer\"}" ∷
      codes "{\"cmd\":\"lift\",\"name\":\"lock\",\"proc\":0}" ∷
      codes "{\"cmd\":\"access\",\"proc\":1,\"right\":\"read\",\"target\":\"memo\"}" ∷
      codes "{\"cmd\":\"access\",\"proc\":2,\"right\":\"read\",\"target\":\"memo\"}" ∷ [];
  replies =
      staff_replies ++
      codes "{\"ok\":\"done\",\"v\":12}" ∷
      codes "{\"ok\":\"done\",\"v\":13}" ∷
      codes "{\"ok\":\"done\",\"v\":14}" ∷
      codes "{\"ok\":\"done\",\"v\":15}" ∷
      codes "{\"no\":\"denied\",\"prohibition\":\"lock\",\"right\":\"read\",\"target\":\"memo\",\"v\":15}" ∷
      codes "{\"ok\":\"granted\",\"v\":15}" ∷
      codes "{\"ok\":\"granted\",\"v\":15}" ∷
      codes "{\"ok\":\"done\",\"v\":16}" ∷
      codes "{\"no\":\"denied\",\"prohibition\":\"lock\",\"right\":\"read\",\"target\":\"memo\",\"v\":16}" ∷
      codes "{\"no\":\"denied\",\"prohibition\":\"hold\",\"right\":\"read\",\"target\":\"flyer\",\"v\":16}" ∷
      codes "{\"ok\":\"granted\",\"v\":16}" ∷
      codes "{\"ok\":\"done\",\"v\":17}" ∷
      codes "{\"no\":\"denied\",\"prohibition\":\"hold\",\"right\":\"read\",\"target\":\"memo\",\"v\":17}" ∷
      codes "{\"ok\":\"granted\",\"v\":17}" ∷ [];
}

-- Mode any with an inclusion: what is in it is covered, and nothing else. Subjects are of their kinds: a user is no user
-- attribute.
abbrev pub inclusion_of_mode_any : Row
inclusion_of_mode_any = record {
  lines =
      staff_lines ++
      codes "{\"cmd\":\"create_oa\",\"into\":\"docs\",\"name\":\"shown\",\"proc\":0}" ∷
      codes "{\"cmd\":\"create_object\",\"into\":\"shown\",\"name\":\"flyer\",\"proc\":0}" ∷
      codes "{\"cmd\":\"prohibit\",\"exc\":[],\"inc\":[\"shown\"],\"mode\":\"any\",\"name\":\"lock\",\"proc\":0,\"rights\":[\"read\"],\"subject\":{\"ua\":\"ann\"}}" ∷
      codes "{\"cmd\":\"prohibit\",\"exc\":[],\"inc\":[\"shown\"],\"mode\":\"any\",\"name\":\"lock\",\"proc\":0,\"rights\":[\"read\"],\"subject\":{\"user\":\"staff\"}}" ∷
      codes "{\"cmd\":\"prohibit\",\"exc\":[],\"inc\":[\"shown\"],\"mode\":\"any\",\"name\":\"lock\",\"proc\":0,\"rights\":[\"read\"],\"subject\":{\"user\":\"ann\"}}" ∷
      codes "{\"cmd\":\"access\",\"proc\":1,\"right\":\"read\",\"target\":\"flyer\"}" ∷
      codes "{\"cmd\":\"access\",\"proc\":1,\"right\":\"read\",\"target\":\"memo\"}" ∷ [];
  replies =
      staff_replies ++
      codes "{\"ok\":\"done\",\"v\":12}" ∷
      codes "{\"ok\":\"done\",\"v\":13}" ∷
      codes "{\"no\":\"bad_kinds\",\"v\":13}" ∷
      codes "{\"no\":\"bad_kinds\",\"v\":13}" ∷
      codes "{\"ok\":\"done\",\"v\":14}" ∷
      codes "{\"no\":\"denied\",\"prohibition\":\"lock\",\"right\":\"read\",\"target\":\"flyer\",\"v\":14}" ∷
      codes "{\"ok\":\"granted\",\"v\":14}" ∷ [];
}

-- A delegate who has the first capability of a command and lacks the second is told the second; who lacks both is told the
-- first.
abbrev pub second_capability : Row
second_capability = record {
  lines =
      codes "{\"cmd\":\"create_pc\",\"name\":\"wards\",\"proc\":0}" ∷
      codes "{\"cmd\":\"create_ua\",\"into\":\"wards\",\"name\":\"heads\",\"proc\":0}" ∷
      codes "{\"cmd\":\"create_user\",\"into\":\"heads\",\"name\":\"ann\",\"proc\":0}" ∷
      codes "{\"cmd\":\"create_oa\",\"into\":\"wards\",\"name\":\"east\",\"proc\":0}" ∷
      codes "{\"cmd\":\"create_oa\",\"into\":\"wards\",\"name\":\"west\",\"proc\":0}" ∷
      codes "{\"cmd\":\"create_object\",\"into\":\"east\",\"name\":\"chart\",\"proc\":0}" ∷
      codes "{\"at\":\"east\",\"cmd\":\"associate\",\"proc\":0,\"rights\":[\"assign\",\"deassign\"],\"ua\":\"heads\"}" ∷
      codes "{\"at\":\"heads\",\"cmd\":\"associate\",\"proc\":0,\"rights\":[\"associate\",\"prohibit\"],\"ua\":\"heads\"}" ∷
      codes "{\"cmd\":\"open_session\",\"user\":\"ann\"}" ∷
      codes "{\"cmd\":\"start_process\",\"session\":1}" ∷
      codes "{\"cmd\":\"assign\",\"from\":\"chart\",\"proc\":1,\"to\":\"west\"}" ∷
      codes "{\"cmd\":\"assign\",\"from\":\"west\",\"proc\":1,\"to\":\"east\"}" ∷
      codes "{\"cmd\":\"deassign\",\"from\":\"chart\",\"proc\":1,\"to\":\"east\"}" ∷
      codes "{\"cmd\":\"deassign\",\"from\":\"west\",\"proc\":1,\"to\":\"east\"}" ∷
      codes "{\"at\":\"west\",\"cmd\":\"associate\",\"proc\":1,\"rights\":[\"read\"],\"ua\":\"heads\"}" ∷
      codes "{\"at\":\"east\",\"cmd\":\"dissociate\",\"proc\":1,\"ua\":\"heads\"}" ∷
      codes "{\"cmd\":\"prohibit\",\"exc\":[],\"inc\":[\"east\"],\"mode\":\"all\",\"name\":\"lock\",\"proc\":1,\"rights\":[\"read\"],\"subject\":{\"user\":\"ann\"}}" ∷
      codes "{\"cmd\":\"prohibit\",\"exc\":[\"west\"],\"inc\":[],\"mode\":\"all\",\"name\":\"lock\",\"proc\":1,\"rights\":[\"read\"],\"subject\":{\"process\":1}}" ∷
      codes "{\"cmd\":\"prohibit\",\"exc\":[],\"inc\":[\"east\"],\"mode\":\"all\",\"name\":\"lock\",\"proc\":1,\"rights\":[\"read\"],\"subject\":{\"user\":\"root\"}}" ∷
      codes "{\"cmd\":\"assign\",\"from\":\"heads\",\"proc\":0,\"to\":\"east\"}" ∷ [];
  replies =
      codes "{\"ok\":\"done\",\"v\":1}" ∷
      codes "{\"ok\":\"done\",\"v\":2}" ∷
      codes "{\"ok\":\"done\",\"v\":3}" ∷
      codes "{\"ok\":\"done\",\"v\":4}" ∷
      codes "{\"ok\":\"done\",\"v\":5}" ∷
      codes "{\"ok\":\"done\",\"v\":6}" ∷
      codes "{\"ok\":\"done\",\"v\":7}" ∷
      codes "{\"ok\":\"done\",\"v\":8}" ∷
      codes "{\"ok\":\"done\",\"session\":1,\"v\":9}" ∷
      codes "{\"ok\":\"done\",\"process\":1,\"v\":10}" ∷
      codes "{\"class\":\"wards\",\"no\":\"denied\",\"right\":\"assign_to\",\"target\":\"west\",\"v\":10}" ∷
      codes "{\"class\":\"wards\",\"no\":\"denied\",\"right\":\"assign\",\"target\":\"west\",\"v\":10}" ∷
      codes "{\"class\":\"wards\",\"no\":\"denied\",\"right\":\"deassign_from\",\"target\":\"east\",\"v\":10}" ∷
      codes "{\"class\":\"wards\",\"no\":\"denied\",\"right\":\"deassign\",\"target\":\"west\",\"v\":10}" ∷
      codes "{\"class\":\"wards\",\"no\":\"denied\",\"right\":\"associate_to\",\"target\":\"west\",\"v\":10}" ∷
      codes "{\"class\":\"wards\",\"no\":\"denied\",\"right\":\"associate_to\",\"target\":\"east\",\"v\":10}" ∷
      codes "{\"class\":\"wards\",\"no\":\"denied\",\"right\":\"prohibit_to\",\"target\":\"east\",\"v\":10}" ∷
      codes "{\"class\":\"wards\",\"no\":\"denied\",\"right\":\"prohibit_to\",\"target\":\"west\",\"v\":10}" ∷
      codes "{\"class\":\"pm\",\"no\":\"denied\",\"right\":\"prohibit\",\"target\":\"root\",\"v\":10}" ∷
      codes "{\"no\":\"bad_kinds\",\"v\":10}" ∷ [];
}

abbrev pub denial_rows : List Row
denial_rows = prohibition_on_attribute ∷ inclusion_of_mode_any ∷ second_capability ∷ []
