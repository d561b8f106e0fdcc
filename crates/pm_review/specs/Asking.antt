-- A closure that tells the rights that a source judges by, at any reference to the source: so many may call it at once.
use Rattle.std.specs.Prelude.{◌≡◌, ℕ}
use Rattle.std.specs.Borrow.{Bor}
use Rattle.pm_model.specs.Decision.{Judgement}
use Rattle.pm_review.specs.Live.{IsLive}

module _ {J : Type 0} (source : J) (judgement : Judgement) where
  -- it may be called at a user and an element that are live
  abbrev pub Accepts : (Bor J → ℕ → ℕ → Type 0) → Type 0
  Accepts pre = (s : Bor J) (u e : ℕ) → s.now ≡ source → IsLive judgement u → IsLive judgement e → pre s u e

  -- and then it answers the rights of the one on the other
  abbrev pub AnswersRights : (Bor J → ℕ → ℕ → ℕ → Type 0) → Type 0
  AnswersRights post =
      (s : Bor J) (u e rights : ℕ) → s.now ≡ source → IsLive judgement u → IsLive judgement e → post s u e rights → rights ≡ judgement.rights u e
