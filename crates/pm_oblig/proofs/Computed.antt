-- The worked examples, computed.
use Rattle.std.proofs.Common.{◌≡◌, ◌∷◌, [], Ok, Err, refl}
use Rattle.std.specs.Fmt.{digits}
use Rattle.pm_model.specs.Containment.{contained}
use Rattle.pm_model.specs.RightSet.{opening_rights}
use Rattle.pm_model.specs.Obligations.{matching}
use Rattle.pm_model.specs.Responses.{responses}
use Rattle.pm_oblig.specs.Worked.{office, reading, reading_names, obligations, keeps_track, bars_writing, acts_for_ann, office_after, stopped}

pub two_match : matching (contained office.assigned) obligations reading ≡ keeps_track ∷ bars_writing ∷ []
unfolding contained
two_match = refl

pub two_respond : responses reading_names 7 office (keeps_track ∷ bars_writing ∷ []) ≡ Ok office_after
unfolding contained opening_rights digits
two_respond = refl

pub third_is_stopped : responses reading_names 7 office (keeps_track ∷ bars_writing ∷ acts_for_ann ∷ []) ≡ Err stopped
unfolding contained opening_rights digits
third_is_stopped = refl
