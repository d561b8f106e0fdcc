-- What a set of numbers keeps beside its words.
use Rattle.std.specs.Prelude.{◌≡◌, ℕ, ◌*◌, ◌<◌, ◌≤◌, List, slice_index, vec_len}
use Rattle.pm_assoc.specs.Holders.{in_set, count_below}
use Rattle.pm_assoc.specs.declared.holders.Holders.TheInside.{Inside}

abbrev pub words_of : Inside → List ℕ
words_of h = h.words.items

pub record IsCounted (h : Inside) : Type 0 where
  pub long : vec_len h.before ≡ vec_len h.words
  pub few : vec_len h.words ≤ 67108864
  -- the count beside word k is of the numbers before it
  pub counts : (k : ℕ) → k < vec_len h.words → slice_index h.before.items k ≡ count_below (in_set h.words.items) (64 * k)
  pub all : h.count ≡ count_below (in_set h.words.items) (64 * vec_len h.words)
