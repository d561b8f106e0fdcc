-- Worked rows on the forms of lines.
use Rattle.std.specs.Prelude.{List, [], ◌∷◌, codes}
use Rattle.pm_rows.specs.Rows.{Row}

-- Of several bad fields the first is told: `id`, `after`, `proc`, and then those of the row in its order.
abbrev pub first_bad_field : Row
first_bad_field = record {
  lines =
      codes "{\"after\":-1,\"cmd\":\"create_pc\",\"id\":-1,\"name\":\"a b\",\"proc\":\"x\"}" ∷
      codes "{\"after\":-1,\"cmd\":\"create_pc\",\"name\":\"a b\",\"proc\":\"x\"}" ∷
      codes "{\"cmd\":\"create_pc\",\"name\":\"a b\",\"proc\":\"x\"}" ∷
      codes "{\"cmd\":\"create_pc\",\"proc\":4294967296}" ∷
      codes "{\"cmd\":\"access\",\"right\":7,\"target\":8}" ∷
      codes "{\"cmd\":\"access\",\"proc\":0,\"right\":7,\"target\":8}" ∷
      codes "{\"cmd\":\"create_ua\",\"into\":7,\"name\":8,\"proc\":0}" ∷
      codes "{\"cmd\":\"assign\",\"proc\":0}" ∷
      codes "{\"at\":7,\"cmd\":\"associate\",\"proc\":0,\"rights\":[],\"ua\":\"pm_admins\"}" ∷
      codes "{\"cmd\":\"prohibit\",\"exc\":7,\"inc\":7,\"mode\":7,\"name\":7,\"proc\":0,\"rights\":7,\"subject\":7}" ∷
      codes "{\"cmd\":\"prohibit\",\"exc\":7,\"inc\":7,\"mode\":7,\"name\":\"p\",\"proc\":0,\"rights\":7,\"subject\":{\"ua\":\"pm\",\"user\":\"root\"}}" ∷
      codes "{\"cmd\":\"prohibit\",\"exc\":7,\"inc\":7,\"mode\":7,\"name\":\"p\",\"proc\":0,\"rights\":[7],\"subject\":{\"user\":\"root\"}}" ∷
      codes "{\"cmd\":\"prohibit\",\"exc\":7,\"inc\":7,\"mode\":7,\"name\":\"p\",\"proc\":0,\"rights\":[\"read\"],\"subject\":{\"user\":\"root\"}}" ∷
      codes "{\"cmd\":\"prohibit\",\"exc\":7,\"inc\":[],\"mode\":7,\"name\":\"p\",\"proc\":0,\"rights\":[\"read\"],\"subject\":{\"user\":\"root\"}}" ∷
      codes "{\"cmd\":\"prohibit\",\"exc\":[],\"inc\":[],\"mode\":\"some\",\"name\":\"p\",\"proc\":0,\"rights\":[\"read\"],\"subject\":{\"user\":\"root\"}}" ∷
      codes "{\"cmd\":\"prohibit\",\"exc\":[],\"inc\":[],\"mode\":\"all\",\"name\":\"p\",\"proc\":0,\"rights\":[\"read\"],\"subject\":{\"user\":\"root\"}}" ∷ [];
  replies =
      codes "{\"field\":\"id\",\"no\":\"bad_field\",\"v\":0}" ∷
      codes "{\"field\":\"after\",\"no\":\"bad_field\",\"v\":0}" ∷
      codes "{\"field\":\"proc\",\"no\":\"bad_field\",\"v\":0}" ∷
      codes "{\"field\":\"proc\",\"no\":\"bad_field\",\"v\":0}" ∷
      codes "{\"field\":\"proc\",\"no\":\"bad_field\",\"v\":0}" ∷
      codes "{\"field\":\"right\",\"no\":\"bad_field\",\"v\":0}" ∷
      codes "{\"field\":\"name\",\"no\":\"bad_field\",\"v\":0}" ∷
      codes "{\"field\":\"from\",\"no\":\"bad_field\",\"v\":0}" ∷
      codes "{\"field\":\"rights\",\"no\":\"bad_field\",\"v\":0}" ∷
      codes "{\"field\":\"name\",\"no\":\"bad_field\",\"v\":0}" ∷
      codes "{\"field\":\"subject\",\"no\":\"bad_field\",\"v\":0}" ∷
      codes "{\"field\":\"rights\",\"no\":\"bad_field\",\"v\":0}" ∷
      codes "{\"field\":\"inc\",\"no\":\"bad_field\",\"v\":0}" ∷
      codes "{\"field\":\"exc\",\"no\":\"bad_field\",\"v\":0}" ∷
      codes "{\"field\":\"mode\",\"no\":\"bad_field\",\"v\":0}" ∷
      codes "{\"no\":\"empty_range\",\"v\":0}" ∷ [];
}

-- A name has up to 64 bytes, and may have each of the odd ones. A list of rights has up to 32 names, whatever repeats.
abbrev pub longest_forms : Row
longest_forms = record {
  lines =
      codes "{\"cmd\":\"create_pc\",\"name\":\"Az09_-.-_90zA\",\"proc\":0}" ∷
      codes "{\"cmd\":\"create_pc\",\"name\":\"abcdefghijklmnopqrstuvwxyzabcdefghijklmnopqrstuvwxyz0123456789ab\",\"proc\":0}" ∷
      codes "{\"cmd\":\"create_pc\",\"name\":\"abcdefghijklmnopqrstuvwxyzabcdefghijklmnopqrstuvwxyz0123456789abc\",\"proc\":0}" ∷
      codes "{\"cmd\":\"create_pc\",\"name\":\"\",\"proc\":0}" ∷
      codes "{\"at\":\"pm_admins\",\"cmd\":\"associate\",\"proc\":0,\"rights\":[\"read\",\"read\",\"read\",\"read\",\"read\",\"read\",\"read\",\"read\",\"read\",\"read\",\"read\",\"read\",\"read\",\"read\",\"read\",\"read\",\"read\",\"read\",\"read\",\"read\",\"read\",\"read\",\"read\",\"read\",\"read\",\"read\",\"read\",\"read\",\"read\",\"read\",\"read\",\"read\",\"read\"],\"ua\":\"pm_admins\"}" ∷
      codes "{\"at\":\"pm_admins\",\"cmd\":\"associate\",\"proc\":0,\"rights\":[\"read\",\"read\",\"read\",\"read\",\"read\",\"read\",\"read\",\"read\",\"read\",\"read\",\"read\",\"read\",\"read\",\"read\",\"read\",\"read\",\"read\",\"read\",\"read\",\"read\",\"read\",\"read\",\"read\",\"read\",\"read\",\"read\",\"read\",\"read\",\"read\",\"read\",\"read\",\"read\"],\"ua\":\"pm_admins\"}" ∷ [];
  replies =
      codes "{\"ok\":\"done\",\"v\":1}" ∷
      codes "{\"ok\":\"done\",\"v\":2}" ∷
      codes "{\"field\":\"name\",\"no\":\"bad_field\",\"v\":2}" ∷
      codes "{\"field\":\"name\",\"no\":\"bad_field\",\"v\":2}" ∷
      codes "{\"field\":\"rights\",\"no\":\"bad_field\",\"v\":2}" ∷
      codes "{\"ok\":\"done\",\"v\":3}" ∷ [];
}

abbrev pub form_rows : List Row
form_rows = first_bad_field ∷ longest_forms ∷ []
