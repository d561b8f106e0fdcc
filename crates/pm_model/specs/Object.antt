-- An object of a line: its members in alphabetical order, some of which may be absent. JSON itself is serde_json's word
-- `compact_text`; the rest is the project's own.
use Rattle.std.specs.Prelude.{ℕ, List, [], ◌∷◌, ◌++◌, codes, Option, None, Some, option_map}
use Rattle.serde_json.specs.Data.{Data, array, object, number, unsigned, string, Items, no_items, item, Members, no_members, member}
use Rattle.serde_json.specs.Written.{compact_text}

abbrev pub with_member : List ℕ → Option Data → Members → Members
with_member key None ms = ms
with_member key (Some d) ms = member key d ms

-- the members that are there
abbrev pub present : List (List ℕ × Option Data) → Members
present [] = no_members
present (f ∷ fs) = with_member f.0 f.1 (present fs)

-- the line of an object with these members, and its line feed
abbrev pub line_of : List (List ℕ × Option Data) → List ℕ
line_of fs = compact_text (object (present fs)) ++ codes "\n"

abbrev pub whole : ℕ → Option Data
whole n = Some (number (unsigned n))

abbrev pub texted : List ℕ → Option Data
texted s = Some (string s)

abbrev pub whole_if : Option ℕ → Option Data
whole_if n = option_map (λ n. number (unsigned n)) n

abbrev pub items_of : List Data → Items
items_of [] = no_items
items_of (d ∷ ds) = item d (items_of ds)

-- a list
abbrev pub listed : List Data → Data
listed ds = array (items_of ds)
