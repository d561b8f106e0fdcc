-- Worked rows on kept reviews, and small lists and what becomes of their elements.
use Rattle.std.specs.Prelude.{◌≡◌, ℕ, List, [], ◌∷◌, ◌++◌, codes}
use Rattle.pm_model.specs.LastChanges.{changed, changes_between}
use Rattle.pm_model.specs.Reviews.{pair}
use Rattle.pm_model.specs.State.{element, name_numbered}
use Rattle.pm_model.specs.declared.elements.Element.{Element}
use Rattle.pm_model.specs.declared.elements.Kind.TheVariants.{Object}
use Rattle.pm_model.specs.declared.reviews.Changed.{Changed}
use Rattle.pm_model.specs.declared.reviews.Pair.{Pair}
use Rattle.pm_rows.specs.Rows.{Row, staff_lines, staff_replies}

-- ---- lines

-- What is wrong with the form of a kept review, and which fields are told first.
abbrev pub bad_reviews : Row
bad_reviews = record {
  lines =
      codes "{\"cmd\":\"keep\",\"kind\":\"survey\",\"of\":7,\"proc\":0}" ∷
      codes "{\"cmd\":\"keep\",\"kind\":\"caps\",\"of\":7,\"proc\":0}" ∷
      codes "{\"cmd\":\"keep\",\"of\":\"root\",\"proc\":0}" ∷
      codes "{\"cmd\":\"drop_review\",\"proc\":0,\"review\":-1}" ∷
      codes "{\"cmd\":\"kept\",\"proc\":0}" ∷
      codes "{\"cmd\":\"changes\",\"proc\":\"x\",\"review\":\"x\"}" ∷
      codes "{\"cmd\":\"keep\",\"kind\":\"entries\",\"of\":\"root\",\"proc\":1}" ∷
      codes "{\"cmd\":\"kept\",\"proc\":1,\"review\":0}" ∷ [];
  replies =
      codes "{\"field\":\"kind\",\"no\":\"bad_field\",\"v\":0}" ∷
      codes "{\"field\":\"of\",\"no\":\"bad_field\",\"v\":0}" ∷
      codes "{\"field\":\"kind\",\"no\":\"bad_field\",\"v\":0}" ∷
      codes "{\"field\":\"review\",\"no\":\"bad_field\",\"v\":0}" ∷
      codes "{\"field\":\"review\",\"no\":\"bad_field\",\"v\":0}" ∷
      codes "{\"field\":\"proc\",\"no\":\"bad_field\",\"v\":0}" ∷
      codes "{\"no\":\"unknown_process\",\"v\":0}" ∷
      codes "{\"no\":\"unknown_process\",\"v\":0}" ∷ [];
}

-- A review is kept once, by whoever may have it, and what it is of stays. Its last change is that of the last entry that has
-- changed its list. Once it is dropped its number goes to the next that is kept, which has no last change.
abbrev pub reviews_of_staff : Row
reviews_of_staff = record {
  lines =
      staff_lines ++
      codes "{\"cmd\":\"keep\",\"kind\":\"caps\",\"of\":\"ann\",\"proc\":0}" ∷
      codes "{\"cmd\":\"keep\",\"kind\":\"caps\",\"of\":\"ann\",\"proc\":0}" ∷
      codes "{\"cmd\":\"keep\",\"kind\":\"caps\",\"of\":\"docs\",\"proc\":0}" ∷
      codes "{\"cmd\":\"keep\",\"kind\":\"caps\",\"of\":\"none\",\"proc\":0}" ∷
      codes "{\"cmd\":\"keep\",\"kind\":\"entries\",\"of\":\"memo\",\"proc\":1}" ∷
      codes "{\"cmd\":\"drop_review\",\"proc\":0,\"review\":5}" ∷
      codes "{\"cmd\":\"kept\",\"proc\":0,\"review\":0}" ∷
      codes "{\"cmd\":\"kept\",\"proc\":1,\"review\":0}" ∷
      codes "{\"cmd\":\"changes\",\"proc\":0,\"review\":0}" ∷
      codes "{\"cmd\":\"keep\",\"id\":9,\"kind\":\"entries\",\"of\":\"memo\",\"proc\":0}" ∷
      codes "{\"cmd\":\"delete\",\"name\":\"memo\",\"proc\":0}" ∷
      codes "{\"at\":\"docs\",\"cmd\":\"dissociate\",\"proc\":0,\"ua\":\"staff\"}" ∷
      codes "{\"cmd\":\"create_pc\",\"name\":\"labs\",\"proc\":0}" ∷
      codes "{\"cmd\":\"changes\",\"proc\":0,\"review\":0}" ∷
      codes "{\"cmd\":\"changes\",\"proc\":0,\"review\":1}" ∷
      codes "{\"cmd\":\"kept\",\"proc\":0,\"review\":0}" ∷
      codes "{\"cmd\":\"drop_review\",\"proc\":1,\"review\":0}" ∷
      codes "{\"cmd\":\"drop_review\",\"proc\":0,\"review\":0}" ∷
      codes "{\"cmd\":\"changes\",\"proc\":0,\"review\":0}" ∷
      codes "{\"cmd\":\"keep\",\"kind\":\"caps\",\"of\":\"bob\",\"proc\":0}" ∷
      codes "{\"cmd\":\"changes\",\"id\":9,\"proc\":0,\"review\":0}" ∷ [];
  replies =
      staff_replies ++
      codes "{\"ok\":\"done\",\"review\":0,\"v\":12}" ∷
      codes "{\"no\":\"already\",\"v\":12}" ∷
      codes "{\"no\":\"bad_kinds\",\"v\":12}" ∷
      codes "{\"name\":\"none\",\"no\":\"unknown_name\",\"v\":12}" ∷
      codes "{\"class\":\"files\",\"no\":\"denied\",\"right\":\"review\",\"target\":\"memo\",\"v\":12}" ∷
      codes "{\"no\":\"unknown_review\",\"v\":12}" ∷
      codes "{\"list\":[[\"docs\",\"1\"],[\"memo\",\"1\"]],\"ok\":\"kept\",\"v\":12}" ∷
      codes "{\"class\":\"files\",\"no\":\"denied\",\"right\":\"review\",\"target\":\"ann\",\"v\":12}" ∷
      codes "{\"at\":0,\"list\":[],\"ok\":\"changes\",\"v\":12}" ∷
      codes "{\"id\":9,\"ok\":\"done\",\"review\":1,\"v\":13}" ∷
      codes "{\"no\":\"in_use\",\"v\":13}" ∷
      codes "{\"ok\":\"done\",\"v\":14}" ∷
      codes "{\"ok\":\"done\",\"v\":15}" ∷
      codes "{\"at\":14,\"list\":[[\"docs\",\"1\",\"0\"],[\"memo\",\"1\",\"0\"]],\"ok\":\"changes\",\"v\":15}" ∷
      codes "{\"at\":14,\"list\":[[\"ann\",\"1\",\"0\"],[\"bob\",\"1\",\"0\"]],\"ok\":\"changes\",\"v\":15}" ∷
      codes "{\"list\":[],\"ok\":\"kept\",\"v\":15}" ∷
      codes "{\"class\":\"files\",\"no\":\"denied\",\"right\":\"review\",\"target\":\"ann\",\"v\":15}" ∷
      codes "{\"ok\":\"done\",\"v\":16}" ∷
      codes "{\"no\":\"unknown_review\",\"v\":16}" ∷
      codes "{\"ok\":\"done\",\"review\":0,\"v\":17}" ∷
      codes "{\"at\":0,\"id\":9,\"list\":[],\"ok\":\"changes\",\"v\":17}" ∷ [];
}

-- A response deletes what was read, and makes another object, which takes its number: of the two the old one is told first.
-- Where an entry takes an element away, and a later one gives its number to another, each is told by its own entry.
abbrev pub number_changes_hands : Row
number_changes_hands = record {
  lines =
      staff_lines ++
      codes "{\"cmd\":\"keep\",\"kind\":\"caps\",\"of\":\"ann\",\"proc\":0}" ∷
      codes "{\"cmd\":\"oblige\",\"do\":[{\"cmd\":\"delete\",\"name\":\"$target\"},{\"cmd\":\"create_object\",\"into\":\"docs\",\"name\":\"$fresh\"}],\"name\":\"x\",\"proc\":0,\"when\":{\"on\":\"read\"}}" ∷
      codes "{\"cmd\":\"access\",\"proc\":1,\"right\":\"read\",\"target\":\"memo\"}" ∷
      codes "{\"cmd\":\"changes\",\"proc\":0,\"review\":0}" ∷
      codes "{\"cmd\":\"delete\",\"name\":\"x14.1.2\",\"proc\":0}" ∷
      codes "{\"cmd\":\"changes\",\"proc\":0,\"review\":0}" ∷
      codes "{\"cmd\":\"create_object\",\"into\":\"docs\",\"name\":\"flyer\",\"proc\":0}" ∷
      codes "{\"cmd\":\"changes\",\"proc\":0,\"review\":0}" ∷
      codes "{\"cmd\":\"kept\",\"proc\":0,\"review\":0}" ∷ [];
  replies =
      staff_replies ++
      codes "{\"ok\":\"done\",\"review\":0,\"v\":12}" ∷
      codes "{\"ok\":\"done\",\"v\":13}" ∷
      codes "{\"fired\":1,\"ok\":\"granted\",\"v\":14}" ∷
      codes "{\"at\":14,\"list\":[[\"memo\",\"1\",\"0\"],[\"x14.1.2\",\"0\",\"1\"]],\"ok\":\"changes\",\"v\":14}" ∷
      codes "{\"ok\":\"done\",\"v\":15}" ∷
      codes "{\"at\":15,\"list\":[[\"x14.1.2\",\"1\",\"0\"]],\"ok\":\"changes\",\"v\":15}" ∷
      codes "{\"ok\":\"done\",\"v\":16}" ∷
      codes "{\"at\":16,\"list\":[[\"flyer\",\"0\",\"1\"]],\"ok\":\"changes\",\"v\":16}" ∷
      codes "{\"list\":[[\"docs\",\"1\"],[\"flyer\",\"1\"]],\"ok\":\"kept\",\"v\":16}" ∷ [];
}

abbrev pub kept_rows : List Row
kept_rows = bad_reviews ∷ reviews_of_staff ∷ number_changes_hands ∷ []

-- ---- two lists

pub record Between : Type 0 where
  pub was : List Element
  pub is : List Element
  pub old : List Pair
  pub new : List Pair
  pub told : List Changed

abbrev pub object : ℕ → List ℕ → Element
object n name = element n Object name

abbrev pub a_to_d : List Element
a_to_d = object 1 (codes "a") ∷ object 2 (codes "b") ∷ object 3 (codes "c") ∷ object 4 (codes "d") ∷ []

-- of the same elements: two lists that are one; an element whose rights are others, one that goes, one that stays and one
-- that comes
abbrev pub same_lists : Between
same_lists = record { was = a_to_d; is = a_to_d; old = pair 1 1 ∷ pair 3 5 ∷ []; new = pair 1 1 ∷ pair 3 5 ∷ []; told = [] }

abbrev pub other_rights : Between
other_rights = record {
  was = a_to_d;
  is = a_to_d;
  old = pair 1 1 ∷ pair 2 5 ∷ pair 3 1 ∷ [];
  new = pair 1 3 ∷ pair 3 1 ∷ pair 4 2 ∷ [];
  told = changed (codes "a") 1 3 ∷ changed (codes "b") 5 0 ∷ changed (codes "d") 0 2 ∷ [];
}

-- a number that another element has now, with the same rights; with none; and with some where the old one had none
abbrev pub same_rights_of_another : Between
same_rights_of_another = record {
  was = object 2 (codes "b") ∷ [];
  is = object 2 (codes "c") ∷ [];
  old = pair 2 5 ∷ [];
  new = pair 2 5 ∷ [];
  told = changed (codes "b") 5 0 ∷ changed (codes "c") 0 5 ∷ [];
}

abbrev pub none_of_another : Between
none_of_another = record {
  was = object 2 (codes "b") ∷ [];
  is = object 2 (codes "c") ∷ [];
  old = pair 2 5 ∷ [];
  new = [];
  told = changed (codes "b") 5 0 ∷ [];
}

abbrev pub some_of_another : Between
some_of_another = record {
  was = object 2 (codes "b") ∷ [];
  is = object 2 (codes "c") ∷ [];
  old = [];
  new = pair 2 5 ∷ [];
  told = changed (codes "c") 0 5 ∷ [];
}

-- a name that another number has now is that of another element
abbrev pub name_of_another : Between
name_of_another = record {
  was = object 1 (codes "a") ∷ [];
  is = object 3 (codes "a") ∷ [];
  old = pair 1 1 ∷ [];
  new = pair 3 1 ∷ [];
  told = changed (codes "a") 1 0 ∷ changed (codes "a") 0 1 ∷ [];
}

abbrev pub betweens : List Between
betweens = same_lists ∷ other_rights ∷ same_rights_of_another ∷ none_of_another ∷ some_of_another ∷ name_of_another ∷ []

abbrev pub Tells : Between → Type 0
Tells r = changes_between (name_numbered r.was) (name_numbered r.is) r.old r.new ≡ r.told
