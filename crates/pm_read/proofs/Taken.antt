-- No right gets the word of a command for its name.
use Rattle.std.proofs.Common.{◌≡◌, ℕ, List, Option, Some, IsSome, Bool, true, false, ◌||◌, bytes_eq, if◌then◌else◌, refl, sym, subst}
use Rattle.std.proofs.lemmas.Bool.{cond_both}
use Rattle.std.proofs.lemmas.Slice.Eq.{bytes_eq-Decides}
use Rattle.std.specs.List.{list_any}
use Rattle.serde_json.specs.Data.{Data}
use Rattle.pm_model.specs.State.{Graph}
use Rattle.pm_model.specs.RightSet.{commands, command_words}
use Rattle.pm_model.specs.Words.{word_text}
use Rattle.pm_model.specs.Asked.{row_of}
use Rattle.pm_model.specs.Effect.{refusal}
use Rattle.pm_model.specs.declared.requests.Change.TheVariants.{DefineRight}
use Rattle.pm_model.specs.declared.replies.Refusal.TheVariants.{NameTaken}

abbrev IsTaken : List ℕ → Type 0
IsTaken w = list_any (bytes_eq w) command_words ≡ true

-- the word is this one, or one of the rest
step : {A : Type 0} (w x : List ℕ) (row : A) (rest : Option A) → IsTaken x → (IsSome rest → IsTaken w) →
    IsSome (if bytes_eq w x then Some row else rest) → IsTaken w
step w x row rest taken later = cond_both (bytes_eq w x) (Some row) rest (λ o. IsSome o → IsTaken w)
    (λ is some. subst IsTaken (sym ((bytes_eq-Decides w x).0 is)) taken) (λ is some. later some)

word-taken : (look : List ℕ → Option Data) (w : List ℕ) → IsSome (row_of look w) → IsTaken w
unfolding word_text commands
word-taken look w =
    step w _ _ _ refl (step w _ _ _ refl (step w _ _ _ refl (step w _ _ _ refl (step w _ _ _ refl (step w _ _ _ refl
    (step w _ _ _ refl (step w _ _ _ refl (step w _ _ _ refl (step w _ _ _ refl (step w _ _ _ refl (step w _ _ _ refl
    (step w _ _ _ refl (step w _ _ _ refl (step w _ _ _ refl (step w _ _ _ refl (step w _ _ _ refl (step w _ _ _ refl
    (step w _ _ _ refl (step w _ _ _ refl (step w _ _ _ refl (step w _ _ _ refl (step w _ _ _ refl (step w _ _ _ refl
    (step w _ _ _ refl (step w _ _ _ refl (step w _ _ _ refl (step w _ _ _ refl
    (λ none. absurd (cc)))))))))))))))))))))))))))))

-- so a right of that name is refused
or-true : (a b : Bool) → b ≡ true → (a || b) ≡ true
or-true true b is = refl
or-true false b is = is

pub command_word_is_taken : (G : Graph) (look : List ℕ → Option Data) (w : List ℕ) → IsSome (row_of look w) →
    refusal G (DefineRight w) ≡ Some NameTaken
command_word_is_taken G look w some =
    rw (or-true (list_any (bytes_eq w) G.rights) (list_any (bytes_eq w) command_words) (word-taken look w some)) refl
