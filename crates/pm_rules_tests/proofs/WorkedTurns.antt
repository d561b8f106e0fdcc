-- On the worked occasion each action is passed by, and there is no work; and that memory was wanting stays so.
use Rattle.std.proofs.Common.{◌≡◌, ℕ, ◌-◌, ◌||◌, Bool, true, false, List, Ok, option_map, slice_get, refl, zero, suc}
use Rattle.std.specs.Option.{option_and_then}
use Rattle.pm_model.specs.Containment.{contained}
use Rattle.pm_model.specs.State.{opening_graph}
use Rattle.pm_model.specs.declared.obligations.Obligation.{Obligation}
use Rattle.pm_model.specs.declared.obligations.Place.{Place}
use Rattle.pm_affect.specs.Counting.{Work}
use Rattle.pm_runner.specs.Turns.{acted_at, acted_by, work_acted_at, work_acted_by}
use Rattle.pm_runner.specs.Worked.{occasion_of}

-- by their places from 0
passed : (first second : List ℕ) (place : Place) (n m : ℕ) →
    acted_by (occasion_of first second) opening_graph place
    (option_and_then (λ (o : Obligation). option_map (λ a. (o, a)) (slice_get o.response m)) (slice_get (occasion_of first second).obligations n))
    ≡ Ok opening_graph
unfolding contained
passed first second place zero zero = refl
passed first second place zero (suc zero) = refl
passed first second place zero (suc (suc m)) = refl
passed first second place (suc zero) zero = refl
passed first second place (suc zero) (suc zero) = refl
passed first second place (suc zero) (suc (suc m)) = refl
passed first second place (suc (suc n)) m = refl

pub passed_by : (first second : List ℕ) (place : Place) → acted_at (occasion_of first second) opening_graph place ≡ Ok opening_graph
passed_by first second place = passed first second place (place.obligation - 1) (place.action - 1)

done-none : (w : Work) (first second : List ℕ) (place : Place) (n m : ℕ) →
    work_acted_by w (occasion_of first second) opening_graph place
    (option_and_then (λ (o : Obligation). option_map (λ a. (o, a)) (slice_get o.response m)) (slice_get (occasion_of first second).obligations n))
    ≡ 0
unfolding contained
done-none w first second place zero zero = refl
done-none w first second place zero (suc zero) = refl
done-none w first second place zero (suc (suc m)) = refl
done-none w first second place (suc zero) zero = refl
done-none w first second place (suc zero) (suc zero) = refl
done-none w first second place (suc zero) (suc (suc m)) = refl
done-none w first second place (suc (suc n)) m = refl

pub none_done : (w : Work) (first second : List ℕ) (place : Place) → work_acted_at w (occasion_of first second) opening_graph place ≡ 0
none_done w first second place = done-none w first second place (place.obligation - 1) (place.action - 1)

-- ---- whether memory was wanting

pub still_short : (short : Bool) → short ≡ (short || false)
still_short true = refl
still_short false = refl

pub now_short : (short : Bool) → true ≡ (short || true)
now_short true = refl
now_short false = refl
