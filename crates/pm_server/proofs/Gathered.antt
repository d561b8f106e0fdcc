-- What is gathered of events, one after another.
use Rattle.std.proofs.Common.{inl, inr, ◌≡◌, ◌<◌, ◌+◌, ◌||◌, ℕ, Bool, true, false, ◌⊎◌, List, [], take, length, get_or, refl, sym, ◌∙◌, ap, subst, arith, ⊎_elim}
use Rattle.std.specs.List.{list_any}
use Rattle.std.proofs.lemmas.Bool.{cases_eq}
use Rattle.std.proofs.lemmas.Bool.Decides.{nat_tests}
use Rattle.std.proofs.lemmas.List.Folds.{list_any_more}
use Rattle.mio.specs.Event.{event_token}
use Rattle.mio.specs.declared.event.event.Event.{Event}
use Rattle.pm_server.specs.KeySets.{KeySet, HasKey, HasAdded, HasAddedAll, is_told}

told-more : (p : Event → Bool) (events : List Event) (n : ℕ) (e : Event) → n < length events → e ≡ get_or events n e →
    list_any p (take (n + 1) events) ≡ (list_any p (take n events) || p e)
told-more p events n e short is = list_any_more p events n e short ∙ ap (λ x. list_any p (take n events) || p x) (sym is)

or-told : (b c : Bool) → c ≡ true → (b || c) ≡ true
or-told true c is = refl
or-told false c is = is

or-untold : (b c : Bool) → c ≡ false → (b || c) ≡ b
or-untold true c is = refl
or-untold false c is = is

-- one event more
pub woken_more : (key : ℕ) (events : List Event) (n : ℕ) (e : Event) (was : Bool) → n < length events → e ≡ get_or events n e →
    was ≡ list_any (is_told key) (take n events) → (was || is_told key e) ≡ list_any (is_told key) (take (n + 1) events)
woken_more key events n e was short is so_far = ap (λ b. b || is_told key e) so_far ∙ sym (told-more (is_told key) events n e short is)

pub added_more : (s t u : KeySet) (events : List Event) (n : ℕ) (e : Event) (key : ℕ) → n < length events → e ≡ get_or events n e → (event_token e).0 ≡ key →
    HasAddedAll s t (take n events) → HasAdded t u key → HasAddedAll s u (take (n + 1) events)
added_more s t u events n e key short is told so_far added k within =
    let step = told-more (is_told k) events n e short is in
    elim (cases_eq k key) [
      | inl same ↦
          let yes : is_told k e ≡ true = grind (arith, nat_tests) in
          let now : list_any (is_told k) (take (n + 1) events) ≡ true = step ∙ or-told (list_any (is_told k) (take n events)) (is_told k e) yes in
          ((λ has. inr now), (λ why. subst (HasKey u) (sym same) (added.new (subst (λ (j : ℕ). j < 1024) same within))))
      | inr not ↦
          let no : is_told k e ≡ false = grind (arith, nat_tests) in
          let same : list_any (is_told k) (take (n + 1) events) ≡ list_any (is_told k) (take n events) =
          step ∙ or-untold (list_any (is_told k) (take n events)) (is_told k e) no in
          let old = so_far k within in
          let kept = added.others k not in (
            (λ has. subst (λ (b : Bool). HasKey s k ⊎ (b ≡ true)) (sym same) (old.0 (kept.0 has))),
            (λ why. kept.1 (old.1 (subst (λ (b : Bool). HasKey s k ⊎ (b ≡ true)) same why))),
          )
    ]

pub added_none : (s : KeySet) → HasAddedAll s s []
added_none s k within = ((λ has. inl has), (λ why. ⊎_elim (λ has. has) (λ no. absurd (cc (no))) why))
