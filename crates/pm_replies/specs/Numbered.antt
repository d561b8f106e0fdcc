-- A reply with names as one whose elements have the places of their names for numbers.
use Rattle.std.specs.Prelude.{◌≡◌, ◌+◌, ℕ, Bool, List, [], ◌∷◌, length, get_or, map, nat_lt}
use Rattle.pm_model.specs.Nameable.{IsNameable, IsRefusalNameable}
use Rattle.pm_model.specs.declared.replies.Refusal.{Refusal}
use Rattle.pm_model.specs.declared.replies.Reply.{Reply}
use Rattle.pm_model.specs.declared.reviews.Pair.{Pair}
use Rattle.pm_replies.specs.ByNames.{by_names, refusal_by_names}
use Rattle.pm_replies.specs.declared.texts.RefusalText.{RefusalText}
use Rattle.pm_replies.specs.declared.texts.ReplyText.{ReplyText}
use Rattle.pm_replies.specs.declared.texts.TextCount.{TextCount}
use Rattle.pm_replies.specs.declared.texts.TextPair.{TextPair}

-- the name at a place from 0
abbrev pub name_among : List (List ℕ) → ℕ → List ℕ
name_among names n = get_or names n []

abbrev pub is_among : List (List ℕ) → ℕ → Bool
is_among names n = nat_lt n (length names)

-- the pairs, numbered from n on
abbrev pub pairs_from : ℕ → List TextPair → List Pair
pairs_from n [] = []
pairs_from n (p ∷ ps) = record { element = n; rights = p.rights } ∷ pairs_from (n + 1) ps

-- as many numbers, from n on
abbrev pub numbers_from : ℕ → List TextCount → List ℕ
numbers_from n [] = []
numbers_from n (c ∷ cs) = n ∷ numbers_from (n + 1) cs

abbrev pub pair_names : List TextPair → List (List ℕ)
pair_names list = map (λ (p : TextPair). p.name) list

abbrev pub count_names : List TextCount → List (List ℕ)
count_names list = map (λ (c : TextCount). c.name) list

abbrev pub counts_of : List TextCount → List ℕ
counts_of list = map (λ (c : TextCount). c.count) list

-- with the names at their places the reply is the one with names
pub record IsNumbered (said : ReplyText) (names : List (List ℕ)) (told : Reply) : Type 0 where
  pub named : by_names (name_among names) told ≡ said
  pub nameable : IsNameable (is_among names) told

-- the same of a refusal
pub record IsRefusalNumbered (said : RefusalText) (names : List (List ℕ)) (why : Refusal) : Type 0 where
  pub named : refusal_by_names (name_among names) why ≡ said
  pub nameable : IsRefusalNameable (is_among names) why
