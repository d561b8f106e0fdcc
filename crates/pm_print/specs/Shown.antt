-- What the line of a reply shows, with names in place of the numbers of elements, and the word of what a response is
-- refused for.
use Rattle.std.specs.Prelude.{ℕ, List, map}
use Rattle.std.specs.List.{zip}
use Rattle.pm_model.specs.declared.replies.Reason.{Reason}
use Rattle.pm_model.specs.declared.replies.Reason.TheVariants.{Class, Prohibition}
use Rattle.pm_model.specs.declared.replies.Refusal.{Refusal}
use Rattle.pm_model.specs.declared.replies.Refusal.TheVariants.{Denied}
use Rattle.pm_model.specs.declared.replies.Reply.{Reply}
use Rattle.pm_model.specs.declared.replies.Reply.TheVariants.{Caps, Entries, Survey, Kept, Refused, ResponseRefused}
use Rattle.pm_model.specs.declared.reviews.Pair.{Pair}
use Rattle.pm_model.specs.Text.{refusal_word}
use Rattle.pm_model.specs.declared.words.Word.{Word}
use Rattle.pm_model.specs.declared.words.Word.TheVariants as word

-- a reply that tells no element by its number, or a right that is denied on a target for a class or a prohibition, or a
-- response that is refused: its obligation, the action's number and the refusal's word; or a review: its word, and names with
-- their rights, or names with their counts
pub data Shown : Type 0 where
  plain : Reply → Shown
  denied : List ℕ → List ℕ → List ℕ → Shown
  prohibited : List ℕ → List ℕ → List ℕ → Shown
  response_refused : List ℕ → ℕ → Word → Shown
  reviewed : Word → List (List ℕ × ℕ) → Shown
  surveyed : List (List ℕ × ℕ) → Shown

abbrev pub shown_denial : (ℕ → List ℕ) → List ℕ → ℕ → Reason → Shown
shown_denial names right target (Class pc) = denied right (names target) (names pc)
shown_denial names right target (Prohibition name) = prohibited right (names target) name

abbrev pub shown_refusal : (ℕ → List ℕ) → Refusal → Shown
shown_refusal names (Denied right target reason) = shown_denial names right target reason
shown_refusal names why = plain (Refused why)

abbrev pub shown_pairs : (ℕ → List ℕ) → List Pair → List (List ℕ × ℕ)
shown_pairs names list = map (λ (p : Pair). (names p.element, p.rights)) list

abbrev pub shown_counts : (ℕ → List ℕ) → List (ℕ × ℕ) → List (List ℕ × ℕ)
shown_counts names counts = map (λ (c : ℕ × ℕ). (names c.0, c.1)) counts

-- what is shown of a reply, where elements have these names
abbrev pub shown : (ℕ → List ℕ) → Reply → Shown
shown names (Caps list) = reviewed word.Caps (shown_pairs names list)
shown names (Entries list) = reviewed word.Entries (shown_pairs names list)
shown names (Survey users counts) = surveyed (shown_counts names (zip users counts))
shown names (Kept list) = reviewed word.Kept (shown_pairs names list)
shown names (Refused why) = shown_refusal names why
shown names (ResponseRefused obligation action why) = response_refused obligation action (refusal_word why)
shown names reply = plain reply
