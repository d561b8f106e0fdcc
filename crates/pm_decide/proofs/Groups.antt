-- The associations of a user attribute are asked about together.
use Rattle.std.proofs.Common.{◌≡◌, ℕ, Bool, true, false, List, [], ◌∷◌, ◌&&◌, ◌||◌, refl, ◌∙◌}
use Rattle.std.proofs.lemmas.List.Folds.{list_any-append}
use Rattle.std.specs.List.{list_any}
use Rattle.pm_model.specs.declared.rights.Grant.{Grant}
use Rattle.pm_model.specs.declared.rights.Grantee.{Grantee}
use Rattle.pm_model.specs.Decision.{meets, is_met, of_grantee, associations_of}
use Rattle.pm_decide.specs.Gives.{gives, some_gives}
use Rattle.pm_decide.specs.Hits.{some_of}

none_in : (in_ua : Bool) → false ≡ (in_ua && false)
none_in true = refl
none_in false = refl

one_in : (has in_ua in_place in_class rest : Bool) →
    ((has && in_ua && in_place && in_class) || (in_ua && rest)) ≡ (in_ua && ((has && in_place && in_class) || rest))
one_in true true a c rest = refl
one_in false true a c rest = refl
one_in true false a c rest = refl
one_in false false a c rest = refl

module _ (below : ℕ → ℕ → Bool) (u r e pc : ℕ) where
  any_of_group : (ua : ℕ) (hs : List Grant) →
      is_met below (of_grantee (record { ua = ua; grants = hs })) u r e pc ≡ (below u ua && list_any (gives below r e pc) hs)
  any_of_group ua [] = none_in (below u ua)
  any_of_group ua (h ∷ hs) = rw (any_of_group ua hs) (one_in _ (below u ua) _ _ (list_any (gives below r e pc) hs))

  -- an association of the user attribute meets where the user is in it and a grant gives
  met_by_group : (g : Grantee) → is_met below (of_grantee g) u r e pc ≡ (below u g.ua && list_any (gives below r e pc) g.grants)
  met_by_group g = any_of_group g.ua g.grants

  -- the first user attribute is asked about, and then those after it
  is_met-cons : (g : Grantee) (gs : List Grantee) →
      is_met below (associations_of (g ∷ gs)) u r e pc ≡ (is_met below (of_grantee g) u r e pc || is_met below (associations_of gs) u r e pc)
  is_met-cons g gs = list_any-append (meets below u r e pc) (of_grantee g) (associations_of gs)

  -- some association meets where a user attribute that contains the user has a grant that gives
  pub met_by_some : (gs : List Grantee) → is_met below (associations_of gs) u r e pc ≡ some_of (below u) (some_gives below r e pc) gs
  met_by_some [] = refl
  met_by_some (g ∷ gs) = is_met-cons g gs ∙ rw (met_by_group g, met_by_some gs) refl
