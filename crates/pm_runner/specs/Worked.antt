-- A small worked occasion: two obligations of which each action is passed by.
use Rattle.std.specs.Prelude.{ℕ, false, List, [], ◌∷◌, codes, None}
use Rattle.pm_model.specs.State.{root}
use Rattle.pm_model.specs.declared.actions.Term.TheVariants.{EventUser}
use Rattle.pm_model.specs.declared.actions.Act.TheVariants as act
use Rattle.pm_model.specs.declared.actions.Action.{Action}
use Rattle.pm_model.specs.declared.obligations.Obligation.{Obligation}
use Rattle.pm_runner.specs.Turns.{Occasion}

-- no user is out of itself
abbrev pub passed_by : Action
passed_by = record { guards = record { within = false; inner = EventUser; outer = EventUser } ∷ []; act = act.Delete EventUser }

abbrev pub obligation_of : List ℕ → Obligation
obligation_of name =
    record {
      name = name;
      author = root;
      pattern = record { on = name; user = None; target = None };
      response = passed_by ∷ passed_by ∷ [];
    }

abbrev pub occasion_of : List ℕ → List ℕ → Occasion
occasion_of first second =
    record {
      names = record { user = codes "root"; target = codes "pm"; process = 0 };
      version = 1;
      obligations = obligation_of first ∷ obligation_of second ∷ [];
    }
