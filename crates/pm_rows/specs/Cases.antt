-- Single definitions on small cases that are written out: kinds, ranges of prohibitions, names and lengths of lines.
use Rattle.std.specs.Prelude.{◌≡◌, ◌≤◌, ◌<◌, ◌+◌, ◌==◌, ◌||◌, ◌&&◌, ℕ, zero, suc, Bool, List, [], ◌∷◌, ◌++◌, codes, length, map, filter}
use Rattle.pm_model.specs.Decision.{range_by}
use Rattle.pm_model.specs.Lines.{whole, too_long, events}
use Rattle.pm_model.specs.Solo.{solo}
use Rattle.pm_model.specs.declared.elements.Kind.{Kind}
use Rattle.pm_model.specs.declared.elements.Kind.TheVariants.{User, Ua, Object, Oa, Pc}
use Rattle.pm_model.specs.declared.prohibitions.Mode.{Mode}
use Rattle.pm_model.specs.declared.prohibitions.Mode.TheVariants.{All, Any}

-- ---- kinds

abbrev pub kinds : List Kind
kinds = User ∷ Ua ∷ Object ∷ Oa ∷ Pc ∷ []

-- each kind beside each
abbrev pub pairs_of : List Kind → List (Kind × Kind)
pairs_of [] = []
pairs_of (k ∷ ks) = map (λ l. (k, l)) kinds ++ pairs_of ks

abbrev pub assigned_kinds : List (Kind × Kind)
assigned_kinds = (User, Ua) ∷ (Ua, Ua) ∷ (Ua, Pc) ∷ (Object, Oa) ∷ (Object, Pc) ∷ (Oa, Oa) ∷ (Oa, Pc) ∷ []

abbrev pub associated_kinds : List (Kind × Kind)
associated_kinds = (Ua, Ua) ∷ (Ua, Object) ∷ (Ua, Oa) ∷ []

-- ---- ranges

-- elements 10 and 30 are in 1, 20 and 30 in 2, and 40 is in neither
abbrev pub lies_in : ℕ → ℕ → Bool
lies_in e a = (e == 10 && a == 1) || (e == 20 && a == 2) || (e == 30 && (a == 1 || a == 2))

pub record Range : Type 0 where
  pub mode : Mode
  pub inc : List ℕ
  pub exc : List ℕ
  pub covered : List ℕ

abbrev pub range : Mode → List ℕ → List ℕ → List ℕ → Range
range mode inc exc covered = record { mode = mode; inc = inc; exc = exc; covered = covered }

abbrev pub ranges : List Range
ranges =
    range All (1 ∷ []) [] (10 ∷ 30 ∷ [])
    ∷ range All (1 ∷ 2 ∷ []) [] (30 ∷ [])
    ∷ range All (1 ∷ []) (2 ∷ []) (10 ∷ [])
    ∷ range All [] (1 ∷ []) (20 ∷ 40 ∷ [])
    ∷ range All [] (1 ∷ 2 ∷ []) (40 ∷ [])
    ∷ range Any (1 ∷ []) [] (10 ∷ 30 ∷ [])
    ∷ range Any (1 ∷ 2 ∷ []) [] (10 ∷ 20 ∷ 30 ∷ [])
    ∷ range Any (1 ∷ []) (2 ∷ []) (10 ∷ 30 ∷ 40 ∷ [])
    ∷ range Any [] (1 ∷ []) (20 ∷ 40 ∷ [])
    ∷ range Any [] (1 ∷ 2 ∷ []) (10 ∷ 20 ∷ 40 ∷ []) ∷ []

abbrev pub Covers : Range → Type 0
Covers r = filter (range_by lies_in r.mode r.inc r.exc) (10 ∷ 20 ∷ 30 ∷ 40 ∷ []) ≡ r.covered

-- ---- names

-- the bytes from n on, so many
abbrev pub bytes_from : ℕ → ℕ → List ℕ
bytes_from n zero = []
bytes_from n (suc more) = n ∷ bytes_from (n + 1) more

abbrev pub name_bytes : List ℕ
name_bytes = codes "-.0123456789ABCDEFGHIJKLMNOPQRSTUVWXYZ_abcdefghijklmnopqrstuvwxyz"

-- ---- lines

-- a line of up to 8,192 bytes is whole, and a longer one too long
pub record IsCutAt (line : List ℕ) : Type 0 where
  pub fits : length line ≤ 8192 → events (line ++ 10 ∷ []) ≡ whole line ∷ []
  pub longer : 8192 < length line → events (line ++ 10 ∷ []) ≡ too_long ∷ []
  pub told : 8192 < length line → solo (line ++ 10 ∷ []) ≡ codes "{\"no\":\"too_long\",\"v\":0}" ++ 10 ∷ []
