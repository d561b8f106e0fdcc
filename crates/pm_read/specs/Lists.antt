-- What a request has of the lists of its line.
use Rattle.std.specs.Prelude.{◌≡◌, ◌≢◌, ◌↔◌, ◌<◌, ◌≤◌, ◌+◌, ℕ, List, length, bytes_eq, Option, Some, option_and_then, Contains}
use Rattle.std.specs.List.{AllPairs, position_or_len}
use Rattle.serde_json.specs.Find.{get}
use Rattle.serde_json.specs.Read.{read}
use Rattle.pm_model.specs.Forms.{list_form}
use Rattle.pm_model.specs.Asked.{asked}
use Rattle.pm_model.specs.Words.{key_text}
use Rattle.pm_model.specs.declared.words.Key.{Key}
use Rattle.pm_model.specs.declared.words.Key.TheVariants as key
use Rattle.pm_model.specs.declared.requests.Body.TheVariants.{Admin}
use Rattle.pm_model.specs.declared.requests.What.TheVariants as what
use Rattle.pm_model.specs.declared.requests.Command.{Command}
use Rattle.pm_model.specs.declared.requests.Command.TheVariants.{Associate, Prohibit}

-- what the line asks for is this command, by the process
abbrev pub AsksFor : List ℕ → Option ℕ → ℕ → Command → Type 0
AsksFor line after process command = (asked line).what ≡ what.Request (record { after = after; body = Admin process command })

-- the names that the line lists at the key, where it has a list of names there
abbrev pub listed : List ℕ → Key → Option (List (List ℕ))
listed line k = option_and_then (λ d. option_and_then list_form (get (key_text k) d)) (read line)

-- the first place of the name in a list that has it
abbrev pub first_place : List (List ℕ) → List ℕ → ℕ
first_place names name = position_or_len (bytes_eq name) names

-- of a list of 1 to 32 names, each name once, in the order of their first places
pub record IsSetOf (set names : List (List ℕ)) : Type 0 where
  pub some : 0 < length names
  pub few : length names ≤ 32
  pub once : AllPairs (λ m n. m ≢ n) set
  pub same : (name : List ℕ) → Contains set name ↔ Contains names name
  pub first : AllPairs (λ m n. first_place names m < first_place names n) set

-- where these lists stand at keys
module _ (lists : Key → Option (List (List ℕ))) where
  -- the rights are the set of what is listed
  pub record HasRights (rights : List (List ℕ)) : Type 0 where
    pub names : List (List ℕ)
    pub there : lists key.Rights ≡ Some names
    pub is_set : IsSetOf rights names

  -- the two sets of a prohibition are listed so, and have at most 32 names together
  pub record HasSets (inc exc : List (List ℕ)) : Type 0 where
    pub included : lists key.Inc ≡ Some inc
    pub excluded : lists key.Exc ≡ Some exc
    pub few : length inc + length exc ≤ 32

  abbrev pub HasLists : Command → Type 0
  HasLists (Associate ua rights at) = HasRights rights
  HasLists (Prohibit name subject rights inc exc mode) = HasRights rights × HasSets inc exc
  HasLists _ = Unit {0}
