-- Worked rows on obligations.
use Rattle.std.specs.Prelude.{List, [], ◌∷◌, codes}
use Rattle.pm_rows.specs.Rows.{Row}

-- What is wrong with an obligation's form, and what it names that isn't there.
abbrev pub bad_obligations : Row
bad_obligations = record {
  lines =
      codes "{\"cmd\":\"oblige\",\"do\":[],\"name\":\"x\",\"proc\":0,\"when\":{\"on\":\"read\"}}" ∷
      codes "{\"cmd\":\"oblige\",\"do\":[],\"name\":\"x\",\"proc\":0,\"when\":{\"on\":\"\"}}" ∷
      codes "{\"cmd\":\"oblige\",\"do\":[{\"cmd\":\"lift\",\"name\":\"p\"}],\"name\":\"x\",\"proc\":0,\"when\":{\"on\":\"fly\"}}" ∷
      codes "{\"cmd\":\"withdraw\",\"name\":\"none\",\"proc\":0}" ∷ [];
  replies =
      codes "{\"field\":\"do\",\"no\":\"bad_field\",\"v\":0}" ∷
      codes "{\"field\":\"when\",\"no\":\"bad_field\",\"v\":0}" ∷
      codes "{\"name\":\"fly\",\"no\":\"unknown_name\",\"v\":0}" ∷
      codes "{\"name\":\"none\",\"no\":\"unknown_name\",\"v\":0}" ∷ [];
}

-- What a response makes has a new name, of the version, the obligation's place and the action's.
abbrev pub class_raises_a_response : Row
class_raises_a_response = record {
  lines =
      codes "{\"cmd\":\"oblige\",\"do\":[{\"cmd\":\"create_ua\",\"into\":\"pm\",\"name\":\"$fresh\"}],\"name\":\"x\",\"proc\":0,\"when\":{\"on\":\"create_pc\"}}" ∷
      codes "{\"cmd\":\"create_pc\",\"name\":\"files\",\"proc\":0}" ∷
      codes "{\"cmd\":\"create_ua\",\"into\":\"x2.1.1\",\"name\":\"staff\",\"proc\":0}" ∷ [];
  replies =
      codes "{\"ok\":\"done\",\"v\":1}" ∷
      codes "{\"fired\":1,\"ok\":\"done\",\"v\":2}" ∷
      codes "{\"ok\":\"done\",\"v\":3}" ∷ [];
}

-- A refused response refuses the request that raised it, which leaves nothing behind.
abbrev pub response_is_refused : Row
response_is_refused = record {
  lines =
      codes "{\"cmd\":\"oblige\",\"do\":[{\"cmd\":\"create_ua\",\"into\":\"pm\",\"name\":\"$fresh\"},{\"cmd\":\"lift\",\"name\":\"p\"}],\"name\":\"x\",\"proc\":0,\"when\":{\"on\":\"create_pc\"}}" ∷
      codes "{\"cmd\":\"create_pc\",\"name\":\"files\",\"proc\":0}" ∷
      codes "{\"cmd\":\"withdraw\",\"name\":\"x\",\"proc\":0}" ∷
      codes "{\"cmd\":\"create_pc\",\"name\":\"files\",\"proc\":0}" ∷ [];
  replies =
      codes "{\"ok\":\"done\",\"v\":1}" ∷
      codes "{\"action\":2,\"no\":\"response_refused\",\"obligation\":\"x\",\"v\":1,\"why\":\"unknown_name\"}" ∷
      codes "{\"ok\":\"done\",\"v\":2}" ∷
      codes "{\"ok\":\"done\",\"v\":3}" ∷ [];
}

abbrev pub obligation_rows : List Row
obligation_rows = bad_obligations ∷ class_raises_a_response ∷ response_is_refused ∷ []
