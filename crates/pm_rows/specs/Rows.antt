-- Worked rows: lines, and the replies that must come from the opening state on. The definitions are tried on them by
-- computation, from bytes to bytes.
use Rattle.std.specs.Prelude.{◌≡◌, ℕ, List, [], ◌∷◌, ◌++◌, codes}
use Rattle.pm_model.specs.Solo.{solo}

pub record Row : Type 0 where
  pub lines : List (List ℕ)
  pub replies : List (List ℕ)

-- the lines, each with its line feed
abbrev pub text_of : List (List ℕ) → List ℕ
text_of [] = []
text_of (l ∷ ls) = l ++ 10 ∷ text_of ls

abbrev pub Hold : List Row → Type 0
Hold [] = Unit {0}
Hold (row ∷ rows) = (solo (text_of row.lines) ≡ text_of row.replies) × Hold rows

-- A class is made; the same name again is taken.
abbrev pub class_named_twice : Row
class_named_twice = record {
  lines =
      codes "{\"cmd\":\"create_pc\",\"id\":1,\"name\":\"files\",\"proc\":0}" ∷
      codes "{\"cmd\":\"create_pc\",\"id\":1,\"name\":\"files\",\"proc\":0}" ∷ [];
  replies =
      codes "{\"id\":1,\"ok\":\"done\",\"v\":1}" ∷
      codes "{\"id\":1,\"no\":\"name_taken\",\"v\":1}" ∷ [];
}

-- A command and an access name a live process. What is wrong with a line's form is told before.
abbrev pub other_process : Row
other_process = record {
  lines =
      codes "{\"cmd\":\"create_pc\",\"name\":\"files\",\"proc\":1}" ∷
      codes "{\"cmd\":\"create_pc\",\"id\":\"x\",\"name\":7,\"proc\":1}" ∷
      codes "{\"cmd\":\"create_pc\",\"id\":2,\"name\":7,\"proc\":1}" ∷
      codes "{\"cmd\":\"access\",\"proc\":1,\"right\":\"read\",\"target\":\"pm\"}" ∷ [];
  replies =
      codes "{\"no\":\"unknown_process\",\"v\":0}" ∷
      codes "{\"field\":\"id\",\"no\":\"bad_field\",\"v\":0}" ∷
      codes "{\"field\":\"name\",\"id\":2,\"no\":\"bad_field\",\"v\":0}" ∷
      codes "{\"no\":\"unknown_process\",\"v\":0}" ∷ [];
}

-- Each bad form once.
abbrev pub bad_forms : Row
bad_forms = record {
  lines =
      [] ∷
      codes "[]" ∷
      codes "{}" ∷
      codes "{\"cmd\":\"fly\",\"id\":3}" ∷
      codes "{\"cmd\":\"create_pc\",\"id\":1,\"name\":\"a b\",\"proc\":0}" ∷
      codes "{\"cmd\":\"version\",\"id\":1.0}" ∷ [];
  replies =
      codes "{\"no\":\"not_json\",\"v\":0}" ∷
      codes "{\"no\":\"not_request\",\"v\":0}" ∷
      codes "{\"no\":\"not_request\",\"v\":0}" ∷
      codes "{\"id\":3,\"no\":\"unknown_command\",\"v\":0}" ∷
      codes "{\"field\":\"name\",\"id\":1,\"no\":\"bad_field\",\"v\":0}" ∷
      codes "{\"field\":\"id\",\"no\":\"bad_field\",\"v\":0}" ∷ [];
}

-- Attributes in a class: what may be assigned, what may be taken away, and a version that isn't reached.
abbrev pub attributes : Row
attributes = record {
  lines =
      codes "{\"cmd\":\"create_pc\",\"name\":\"files\",\"proc\":0}" ∷
      codes "{\"cmd\":\"create_ua\",\"into\":\"files\",\"name\":\"staff\",\"proc\":0}" ∷
      codes "{\"cmd\":\"create_ua\",\"into\":\"staff\",\"name\":\"team\",\"proc\":0}" ∷
      codes "{\"cmd\":\"assign\",\"from\":\"staff\",\"proc\":0,\"to\":\"team\"}" ∷
      codes "{\"cmd\":\"assign\",\"from\":\"staff\",\"proc\":0,\"to\":\"files\"}" ∷
      codes "{\"cmd\":\"assign\",\"from\":\"files\",\"proc\":0,\"to\":\"staff\"}" ∷
      codes "{\"cmd\":\"deassign\",\"from\":\"staff\",\"proc\":0,\"to\":\"files\"}" ∷
      codes "{\"cmd\":\"deassign\",\"from\":\"team\",\"proc\":0,\"to\":\"files\"}" ∷
      codes "{\"cmd\":\"deassign\",\"from\":\"pm_admins\",\"proc\":0,\"to\":\"pm\"}" ∷
      codes "{\"cmd\":\"create_ua\",\"into\":\"nobody\",\"name\":\"x\",\"proc\":0}" ∷
      codes "{\"after\":4,\"cmd\":\"version\"}" ∷ [];
  replies =
      codes "{\"ok\":\"done\",\"v\":1}" ∷
      codes "{\"ok\":\"done\",\"v\":2}" ∷
      codes "{\"ok\":\"done\",\"v\":3}" ∷
      codes "{\"no\":\"cycle\",\"v\":3}" ∷
      codes "{\"no\":\"already\",\"v\":3}" ∷
      codes "{\"no\":\"bad_kinds\",\"v\":3}" ∷
      codes "{\"no\":\"last_container\",\"v\":3}" ∷
      codes "{\"no\":\"absent\",\"v\":3}" ∷
      codes "{\"no\":\"builtin\",\"v\":3}" ∷
      codes "{\"name\":\"nobody\",\"no\":\"unknown_name\",\"v\":3}" ∷
      codes "{\"no\":\"ahead\",\"v\":3}" ∷ [];
}

-- A right is given where a class holds an object: who isn't in the attribute is denied, for the class; who is in it is
-- granted; a class is reached by no association.
abbrev pub first_privilege : Row
first_privilege = record {
  lines =
      codes "{\"cmd\":\"create_pc\",\"name\":\"files\",\"proc\":0}" ∷
      codes "{\"cmd\":\"create_ua\",\"into\":\"files\",\"name\":\"staff\",\"proc\":0}" ∷
      codes "{\"cmd\":\"create_oa\",\"into\":\"files\",\"name\":\"docs\",\"proc\":0}" ∷
      codes "{\"cmd\":\"create_object\",\"into\":\"docs\",\"name\":\"memo\",\"proc\":0}" ∷
      codes "{\"at\":\"docs\",\"cmd\":\"associate\",\"proc\":0,\"rights\":[\"read\"],\"ua\":\"staff\"}" ∷
      codes "{\"cmd\":\"access\",\"proc\":0,\"right\":\"read\",\"target\":\"memo\"}" ∷
      codes "{\"cmd\":\"assign\",\"from\":\"root\",\"proc\":0,\"to\":\"staff\"}" ∷
      codes "{\"cmd\":\"access\",\"proc\":0,\"right\":\"read\",\"target\":\"memo\"}" ∷
      codes "{\"cmd\":\"access\",\"proc\":0,\"right\":\"read\",\"target\":\"files\"}" ∷
      codes "{\"cmd\":\"access\",\"proc\":0,\"right\":\"fly\",\"target\":\"memo\"}" ∷
      codes "{\"at\":\"docs\",\"cmd\":\"associate\",\"proc\":0,\"rights\":[\"write\"],\"ua\":\"staff\"}" ∷
      codes "{\"at\":\"memo\",\"cmd\":\"dissociate\",\"proc\":0,\"ua\":\"staff\"}" ∷ [];
  replies =
      codes "{\"ok\":\"done\",\"v\":1}" ∷
      codes "{\"ok\":\"done\",\"v\":2}" ∷
      codes "{\"ok\":\"done\",\"v\":3}" ∷
      codes "{\"ok\":\"done\",\"v\":4}" ∷
      codes "{\"ok\":\"done\",\"v\":5}" ∷
      codes "{\"class\":\"files\",\"no\":\"denied\",\"right\":\"read\",\"target\":\"memo\",\"v\":5}" ∷
      codes "{\"ok\":\"done\",\"v\":6}" ∷
      codes "{\"ok\":\"granted\",\"v\":6}" ∷
      codes "{\"class\":\"files\",\"no\":\"denied\",\"right\":\"read\",\"target\":\"files\",\"v\":6}" ∷
      codes "{\"name\":\"fly\",\"no\":\"unknown_name\",\"v\":6}" ∷
      codes "{\"no\":\"already\",\"v\":6}" ∷
      codes "{\"no\":\"absent\",\"v\":6}" ∷ [];
}

-- An object in two classes: the one in which no association gives the right is told; one at the object itself is in both.
abbrev pub two_classes : Row
two_classes = record {
  lines =
      codes "{\"cmd\":\"create_pc\",\"name\":\"a\",\"proc\":0}" ∷
      codes "{\"cmd\":\"create_pc\",\"name\":\"b\",\"proc\":0}" ∷
      codes "{\"cmd\":\"create_ua\",\"into\":\"a\",\"name\":\"staff\",\"proc\":0}" ∷
      codes "{\"cmd\":\"create_oa\",\"into\":\"a\",\"name\":\"docs\",\"proc\":0}" ∷
      codes "{\"cmd\":\"create_object\",\"into\":\"docs\",\"name\":\"memo\",\"proc\":0}" ∷
      codes "{\"cmd\":\"assign\",\"from\":\"memo\",\"proc\":0,\"to\":\"b\"}" ∷
      codes "{\"cmd\":\"assign\",\"from\":\"root\",\"proc\":0,\"to\":\"staff\"}" ∷
      codes "{\"at\":\"docs\",\"cmd\":\"associate\",\"proc\":0,\"rights\":[\"read\"],\"ua\":\"staff\"}" ∷
      codes "{\"cmd\":\"access\",\"proc\":0,\"right\":\"read\",\"target\":\"memo\"}" ∷
      codes "{\"at\":\"memo\",\"cmd\":\"associate\",\"proc\":0,\"rights\":[\"read\"],\"ua\":\"staff\"}" ∷
      codes "{\"cmd\":\"access\",\"proc\":0,\"right\":\"read\",\"target\":\"memo\"}" ∷ [];
  replies =
      codes "{\"ok\":\"done\",\"v\":1}" ∷
      codes "{\"ok\":\"done\",\"v\":2}" ∷
      codes "{\"ok\":\"done\",\"v\":3}" ∷
      codes "{\"ok\":\"done\",\"v\":4}" ∷
      codes "{\"ok\":\"done\",\"v\":5}" ∷
      codes "{\"ok\":\"done\",\"v\":6}" ∷
      codes "{\"ok\":\"done\",\"v\":7}" ∷
      codes "{\"ok\":\"done\",\"v\":8}" ∷
      codes "{\"class\":\"b\",\"no\":\"denied\",\"right\":\"read\",\"target\":\"memo\",\"v\":8}" ∷
      codes "{\"ok\":\"done\",\"v\":9}" ∷
      codes "{\"ok\":\"granted\",\"v\":9}" ∷ [];
}

-- ---- two users, each with a session and a process

-- ann and bob are staff, and staff read what is in docs
abbrev pub staff_lines : List (List ℕ)
staff_lines =
    codes "{\"cmd\":\"create_pc\",\"name\":\"files\",\"proc\":0}" ∷
    codes "{\"cmd\":\"create_ua\",\"into\":\"files\",\"name\":\"staff\",\"proc\":0}" ∷
    codes "{\"cmd\":\"create_oa\",\"into\":\"files\",\"name\":\"docs\",\"proc\":0}" ∷
    codes "{\"cmd\":\"create_user\",\"into\":\"staff\",\"name\":\"ann\",\"proc\":0}" ∷
    codes "{\"cmd\":\"create_user\",\"into\":\"staff\",\"name\":\"bob\",\"proc\":0}" ∷
    codes "{\"cmd\":\"create_object\",\"into\":\"docs\",\"name\":\"memo\",\"proc\":0}" ∷
    codes "{\"at\":\"docs\",\"cmd\":\"associate\",\"proc\":0,\"rights\":[\"read\"],\"ua\":\"staff\"}" ∷
    codes "{\"cmd\":\"open_session\",\"user\":\"ann\"}" ∷
    codes "{\"cmd\":\"start_process\",\"session\":1}" ∷
    codes "{\"cmd\":\"open_session\",\"user\":\"bob\"}" ∷
    codes "{\"cmd\":\"start_process\",\"session\":2}" ∷ []

abbrev pub staff_replies : List (List ℕ)
staff_replies =
    codes "{\"ok\":\"done\",\"v\":1}" ∷
    codes "{\"ok\":\"done\",\"v\":2}" ∷
    codes "{\"ok\":\"done\",\"v\":3}" ∷
    codes "{\"ok\":\"done\",\"v\":4}" ∷
    codes "{\"ok\":\"done\",\"v\":5}" ∷
    codes "{\"ok\":\"done\",\"v\":6}" ∷
    codes "{\"ok\":\"done\",\"v\":7}" ∷
    codes "{\"ok\":\"done\",\"session\":1,\"v\":8}" ∷
    codes "{\"ok\":\"done\",\"process\":1,\"v\":9}" ∷
    codes "{\"ok\":\"done\",\"session\":2,\"v\":10}" ∷
    codes "{\"ok\":\"done\",\"process\":2,\"v\":11}" ∷ []

-- A second class comes to hold the object: the privilege needs both, and the one that lacks it is told.
abbrev pub second_class_denies : Row
second_class_denies = record {
  lines =
      staff_lines ++
      codes "{\"cmd\":\"create_pc\",\"name\":\"secret\",\"proc\":0}" ∷
      codes "{\"cmd\":\"create_oa\",\"into\":\"secret\",\"name\":\"vault\",\"proc\":0}" ∷
      codes "{\"cmd\":\"assign\",\"from\":\"memo\",\"proc\":0,\"to\":\"vault\"}" ∷
      codes "{\"cmd\":\"access\",\"proc\":1,\"right\":\"read\",\"target\":\"memo\"}" ∷ [];
  replies =
      staff_replies ++
      codes "{\"ok\":\"done\",\"v\":12}" ∷
      codes "{\"ok\":\"done\",\"v\":13}" ∷
      codes "{\"ok\":\"done\",\"v\":14}" ∷
      codes "{\"class\":\"secret\",\"no\":\"denied\",\"right\":\"read\",\"target\":\"memo\",\"v\":14}" ∷ [];
}

-- A prohibition of mode any without inclusion attributes: it covers what isn't contained in every exclusion attribute.
abbrev pub prohibition_of_mode_any : Row
prohibition_of_mode_any = record {
  lines =
      staff_lines ++
      codes "{\"cmd\":\"create_oa\",\"into\":\"docs\",\"name\":\"shown\",\"proc\":0}" ∷
      codes "{\"cmd\":\"create_object\",\"into\":\"shown\",\"name\":\"flyer\",\"proc\":0}" ∷
      codes "{\"cmd\":\"prohibit\",\"exc\":[\"shown\",\"docs\"],\"inc\":[],\"mode\":\"any\",\"name\":\"lock\",\"proc\":0,\"rights\":[\"read\"],\"subject\":{\"user\":\"ann\"}}" ∷
      codes "{\"cmd\":\"access\",\"proc\":1,\"right\":\"read\",\"target\":\"memo\"}" ∷
      codes "{\"cmd\":\"access\",\"proc\":1,\"right\":\"read\",\"target\":\"flyer\"}" ∷ [];
  replies =
      staff_replies ++
      codes "{\"ok\":\"done\",\"v\":12}" ∷
      codes "{\"ok\":\"done\",\"v\":13}" ∷
      codes "{\"ok\":\"done\",\"v\":14}" ∷
      codes "{\"no\":\"denied\",\"prohibition\":\"lock\",\"right\":\"read\",\"target\":\"memo\",\"v\":14}" ∷
      codes "{\"ok\":\"granted\",\"v\":14}" ∷ [];
}

-- A prohibition on a process denies that one alone, and goes with it; no number comes back.
abbrev pub prohibition_on_process : Row
prohibition_on_process = record {
  lines =
      staff_lines ++
      codes "{\"cmd\":\"start_process\",\"session\":1}" ∷
      codes "{\"cmd\":\"prohibit\",\"exc\":[],\"inc\":[\"docs\"],\"mode\":\"all\",\"name\":\"hold\",\"proc\":0,\"rights\":[\"read\"],\"subject\":{\"process\":1}}" ∷
      codes "{\"cmd\":\"access\",\"proc\":1,\"right\":\"read\",\"target\":\"memo\"}" ∷
      codes "{\"cmd\":\"access\",\"proc\":3,\"right\":\"read\",\"target\":\"memo\"}" ∷
      codes "{\"cmd\":\"end_process\",\"process\":1}" ∷
      codes "{\"cmd\":\"lift\",\"name\":\"hold\",\"proc\":0}" ∷
      codes "{\"cmd\":\"access\",\"proc\":1,\"right\":\"read\",\"target\":\"memo\"}" ∷ [];
  replies =
      staff_replies ++
      codes "{\"ok\":\"done\",\"process\":3,\"v\":12}" ∷
      codes "{\"ok\":\"done\",\"v\":13}" ∷
      codes "{\"no\":\"denied\",\"prohibition\":\"hold\",\"right\":\"read\",\"target\":\"memo\",\"v\":13}" ∷
      codes "{\"ok\":\"granted\",\"v\":13}" ∷
      codes "{\"ok\":\"done\",\"v\":14}" ∷
      codes "{\"name\":\"hold\",\"no\":\"unknown_name\",\"v\":14}" ∷
      codes "{\"no\":\"unknown_process\",\"v\":14}" ∷ [];
}

-- Two classes lack the right and a prohibition denies it: the class of the lower number is told.
abbrev pub first_lacking_class : Row
first_lacking_class = record {
  lines =
      staff_lines ++
      codes "{\"cmd\":\"create_pc\",\"name\":\"p1\",\"proc\":0}" ∷
      codes "{\"cmd\":\"create_pc\",\"name\":\"p2\",\"proc\":0}" ∷
      codes "{\"cmd\":\"assign\",\"from\":\"memo\",\"proc\":0,\"to\":\"p2\"}" ∷
      codes "{\"cmd\":\"assign\",\"from\":\"memo\",\"proc\":0,\"to\":\"p1\"}" ∷
      codes "{\"cmd\":\"prohibit\",\"exc\":[],\"inc\":[\"docs\"],\"mode\":\"all\",\"name\":\"lock\",\"proc\":0,\"rights\":[\"read\"],\"subject\":{\"user\":\"ann\"}}" ∷
      codes "{\"cmd\":\"access\",\"proc\":1,\"right\":\"read\",\"target\":\"memo\"}" ∷ [];
  replies =
      staff_replies ++
      codes "{\"ok\":\"done\",\"v\":12}" ∷
      codes "{\"ok\":\"done\",\"v\":13}" ∷
      codes "{\"ok\":\"done\",\"v\":14}" ∷
      codes "{\"ok\":\"done\",\"v\":15}" ∷
      codes "{\"ok\":\"done\",\"v\":16}" ∷
      codes "{\"class\":\"p1\",\"no\":\"denied\",\"right\":\"read\",\"target\":\"memo\",\"v\":16}" ∷ [];
}

-- A right that is defined is an access right. Its name, and the word of a command, are taken.
abbrev pub defined_right : Row
defined_right = record {
  lines =
      staff_lines ++
      codes "{\"cmd\":\"define_right\",\"name\":\"sign\",\"proc\":0}" ∷
      codes "{\"cmd\":\"access\",\"proc\":1,\"right\":\"sign\",\"target\":\"memo\"}" ∷
      codes "{\"cmd\":\"define_right\",\"name\":\"assign\",\"proc\":0}" ∷
      codes "{\"cmd\":\"define_right\",\"name\":\"sign\",\"proc\":0}" ∷ [];
  replies =
      staff_replies ++
      codes "{\"ok\":\"done\",\"v\":12}" ∷
      codes "{\"class\":\"files\",\"no\":\"denied\",\"right\":\"sign\",\"target\":\"memo\",\"v\":12}" ∷
      codes "{\"no\":\"name_taken\",\"v\":12}" ∷
      codes "{\"no\":\"name_taken\",\"v\":12}" ∷ [];
}

-- A user without the right makes no class. An element is deleted that isn't the opening's, that nothing is assigned to and
-- nothing else names; its name is then unknown. A session keeps its user until it is closed.
abbrev pub deletions : Row
deletions = record {
  lines =
      staff_lines ++
      codes "{\"cmd\":\"create_pc\",\"name\":\"x\",\"proc\":1}" ∷
      codes "{\"cmd\":\"delete\",\"name\":\"docs\",\"proc\":0}" ∷
      codes "{\"cmd\":\"delete\",\"name\":\"ann\",\"proc\":0}" ∷
      codes "{\"cmd\":\"delete\",\"name\":\"root\",\"proc\":0}" ∷
      codes "{\"cmd\":\"delete\",\"name\":\"memo\",\"proc\":0}" ∷
      codes "{\"cmd\":\"delete\",\"name\":\"memo\",\"proc\":0}" ∷
      codes "{\"cmd\":\"delete\",\"name\":\"docs\",\"proc\":0}" ∷
      codes "{\"cmd\":\"close_session\",\"session\":1}" ∷
      codes "{\"cmd\":\"delete\",\"name\":\"ann\",\"proc\":0}" ∷ [];
  replies =
      staff_replies ++
      codes "{\"class\":\"pm\",\"no\":\"denied\",\"right\":\"create_ua\",\"target\":\"pm\",\"v\":11}" ∷
      codes "{\"no\":\"occupied\",\"v\":11}" ∷
      codes "{\"no\":\"in_use\",\"v\":11}" ∷
      codes "{\"no\":\"builtin\",\"v\":11}" ∷
      codes "{\"ok\":\"done\",\"v\":12}" ∷
      codes "{\"name\":\"memo\",\"no\":\"unknown_name\",\"v\":12}" ∷
      codes "{\"no\":\"in_use\",\"v\":12}" ∷
      codes "{\"ok\":\"done\",\"v\":13}" ∷
      codes "{\"ok\":\"done\",\"v\":14}" ∷ [];
}

-- The order of refusals: the version, the process, the names, the capabilities, the preconditions.
abbrev pub order_of_refusals : Row
order_of_refusals = record {
  lines =
      staff_lines ++
      codes "{\"after\":50,\"cmd\":\"delete\",\"name\":\"nobody\",\"proc\":99}" ∷
      codes "{\"cmd\":\"delete\",\"name\":\"nobody\",\"proc\":99}" ∷
      codes "{\"cmd\":\"delete\",\"name\":\"nobody\",\"proc\":1}" ∷
      codes "{\"cmd\":\"delete\",\"name\":\"docs\",\"proc\":1}" ∷
      codes "{\"cmd\":\"delete\",\"name\":\"docs\",\"proc\":0}" ∷ [];
  replies =
      staff_replies ++
      codes "{\"no\":\"ahead\",\"v\":11}" ∷
      codes "{\"no\":\"unknown_process\",\"v\":11}" ∷
      codes "{\"name\":\"nobody\",\"no\":\"unknown_name\",\"v\":11}" ∷
      codes "{\"class\":\"files\",\"no\":\"denied\",\"right\":\"delete\",\"target\":\"docs\",\"v\":11}" ∷
      codes "{\"no\":\"occupied\",\"v\":11}" ∷ [];
}

-- A delegate: who heads a ward makes users there, and neither on the next ward nor anything else there.
abbrev pub delegate : Row
delegate = record {
  lines =
      codes "{\"cmd\":\"create_pc\",\"name\":\"wards\",\"proc\":0}" ∷
      codes "{\"cmd\":\"create_ua\",\"into\":\"wards\",\"name\":\"east\",\"proc\":0}" ∷
      codes "{\"cmd\":\"create_ua\",\"into\":\"wards\",\"name\":\"west\",\"proc\":0}" ∷
      codes "{\"cmd\":\"create_ua\",\"into\":\"wards\",\"name\":\"heads\",\"proc\":0}" ∷
      codes "{\"cmd\":\"create_user\",\"into\":\"heads\",\"name\":\"ann\",\"proc\":0}" ∷
      codes "{\"at\":\"east\",\"cmd\":\"associate\",\"proc\":0,\"rights\":[\"create_user\"],\"ua\":\"heads\"}" ∷
      codes "{\"cmd\":\"open_session\",\"user\":\"ann\"}" ∷
      codes "{\"cmd\":\"start_process\",\"session\":1}" ∷
      codes "{\"cmd\":\"create_user\",\"into\":\"east\",\"name\":\"bob\",\"proc\":1}" ∷
      codes "{\"cmd\":\"create_user\",\"into\":\"west\",\"name\":\"eve\",\"proc\":1}" ∷
      codes "{\"cmd\":\"create_ua\",\"into\":\"east\",\"name\":\"team\",\"proc\":1}" ∷
      codes "{\"cmd\":\"delete\",\"name\":\"bob\",\"proc\":1}" ∷ [];
  replies =
      codes "{\"ok\":\"done\",\"v\":1}" ∷
      codes "{\"ok\":\"done\",\"v\":2}" ∷
      codes "{\"ok\":\"done\",\"v\":3}" ∷
      codes "{\"ok\":\"done\",\"v\":4}" ∷
      codes "{\"ok\":\"done\",\"v\":5}" ∷
      codes "{\"ok\":\"done\",\"v\":6}" ∷
      codes "{\"ok\":\"done\",\"session\":1,\"v\":7}" ∷
      codes "{\"ok\":\"done\",\"process\":1,\"v\":8}" ∷
      codes "{\"ok\":\"done\",\"v\":9}" ∷
      codes "{\"class\":\"wards\",\"no\":\"denied\",\"right\":\"create_user\",\"target\":\"west\",\"v\":9}" ∷
      codes "{\"class\":\"wards\",\"no\":\"denied\",\"right\":\"create_ua\",\"target\":\"east\",\"v\":9}" ∷
      codes "{\"class\":\"wards\",\"no\":\"denied\",\"right\":\"delete\",\"target\":\"bob\",\"v\":9}" ∷ [];
}

-- A prohibition on the root user denies it an access, and no command.
abbrev pub prohibited_root : Row
prohibited_root = record {
  lines =
      staff_lines ++
      codes "{\"cmd\":\"assign\",\"from\":\"root\",\"proc\":0,\"to\":\"staff\"}" ∷
      codes "{\"cmd\":\"access\",\"proc\":0,\"right\":\"read\",\"target\":\"memo\"}" ∷
      codes "{\"cmd\":\"prohibit\",\"exc\":[],\"inc\":[\"docs\"],\"mode\":\"all\",\"name\":\"lock\",\"proc\":0,\"rights\":[\"read\",\"delete\"],\"subject\":{\"user\":\"root\"}}" ∷
      codes "{\"cmd\":\"access\",\"proc\":0,\"right\":\"read\",\"target\":\"memo\"}" ∷
      codes "{\"cmd\":\"delete\",\"name\":\"memo\",\"proc\":0}" ∷ [];
  replies =
      staff_replies ++
      codes "{\"ok\":\"done\",\"v\":12}" ∷
      codes "{\"ok\":\"granted\",\"v\":12}" ∷
      codes "{\"ok\":\"done\",\"v\":13}" ∷
      codes "{\"no\":\"denied\",\"prohibition\":\"lock\",\"right\":\"read\",\"target\":\"memo\",\"v\":13}" ∷
      codes "{\"ok\":\"done\",\"v\":14}" ∷ [];
}

abbrev pub rows : List Row
rows =
    class_named_twice ∷ other_process ∷ bad_forms ∷ attributes ∷ first_privilege ∷ two_classes ∷ second_class_denies
    ∷ prohibition_of_mode_any ∷ prohibition_on_process ∷ first_lacking_class ∷ defined_right ∷ deletions ∷ order_of_refusals ∷ delegate ∷ prohibited_root ∷ []
