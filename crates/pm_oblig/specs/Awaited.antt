-- What obligations wait for, by operation: a filter for events, which may know of more than there is. The project's own.
use Rattle.std.specs.Prelude.{◌≡◌, ℕ, ◌/◌, ◌%◌, ◌==◌, ◌&&◌, Bool, true, false, List, Option, None, Some, All, bytes_eq}
use Rattle.std.specs.Int.{bit_at}
use Rattle.std.specs.List.{list_any, find}
use Rattle.pm_model.specs.declared.obligations.Obligation.{Obligation}
use Rattle.pm_oblig.specs.declared.targets.TargetWord.{TargetWord}
use Rattle.pm_oblig.specs.declared.targets.Targets.{Targets}

-- the word in which n has its bit
abbrev pub is_word_of : ℕ → TargetWord → Bool
is_word_of n w = w.number == n / 64

-- some word has the number: bit i of word k is the number 64 k + i
abbrev pub in_words : List TargetWord → ℕ → Bool
in_words words n = list_any (λ (w : TargetWord). is_word_of n w && bit_at w.bits (n % 64) == 1) words

-- some obligation may give this target, or give none
abbrev pub has_target : Targets → Option ℕ → Bool
has_target t None = t.anywhere
has_target t (Some n) = in_words t.words n

abbrev pub may_have : Option Targets → Option ℕ → Bool
may_have None target = false
may_have (Some t) target = has_target t target

abbrev pub is_of : List ℕ → Targets → Bool
is_of operation t = bytes_eq t.operation operation

-- what is known of an operation; None, where nothing waits for it
abbrev pub known_of : List Targets → List ℕ → Option Targets
known_of known operation = find (is_of operation) known

-- each obligation that waits for the operation is known to, with the target that it gives
abbrev pub KnowsTargets : List Obligation → List ℕ → Option Targets → Type 0
KnowsTargets obligations operation known =
    All (λ (o : Obligation). bytes_eq o.pattern.on operation ≡ true → may_have known o.pattern.target ≡ true) obligations

-- of every operation
abbrev pub AreKnown : List Obligation → List Targets → Type 0
AreKnown obligations known = (operation : List ℕ) → KnowsTargets obligations operation (known_of known operation)

-- what was known of an operation still is
abbrev pub HasMore : Targets → Targets → Type 0
HasMore old new = (target : Option ℕ) → has_target old target ≡ true → has_target new target ≡ true

abbrev pub KnowsMore : List Targets → List Targets → Type 0
KnowsMore old new =
    (operation : List ℕ) (target : Option ℕ) → may_have (known_of old operation) target ≡ true → may_have (known_of new operation) target ≡ true
