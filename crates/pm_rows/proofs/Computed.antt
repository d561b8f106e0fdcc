-- Histories, computed.
use Rattle.std.proofs.Common.{◌≡◌, true, false, refl}
use Rattle.pm_model.specs.Containment.{contained}
use Rattle.pm_model.specs.RightSet.{opening_rights, commands}
use Rattle.pm_model.specs.Words.{word_text}
use Rattle.pm_model.specs.History.{replay, IsLegal}
use Rattle.pm_model.specs.Formed.{Each}
use Rattle.pm_rows.specs.Histories.{two_entries, after_two, late_assignment, after_late, legal, illegal}

pub histories_legal : Each IsLegal legal
unfolding opening_rights commands word_text
histories_legal = (tt, ((refl, (refl, tt)), ((refl, tt), tt)))

pub histories_illegal : Each (λ H. IsLegal H → ⊥) illegal
unfolding contained opening_rights commands word_text
histories_illegal = (
  λ h. let no : false ≡ true = h.0 in cc,
  (
    λ h. let no : false ≡ true = h.0 in cc,
    (
      λ h. let no : false ≡ true = h.0 in cc,
      (
        λ h. let no : false ≡ true = h.1.0 in cc,
        (
          λ h. let no : false ≡ true = h.0 in cc,
          (
            λ h. let no : false ≡ true = h.0 in cc,
            tt,
          ),
        ),
      ),
    ),
  ),
)

pub history_replayed : replay two_entries ≡ after_two
unfolding opening_rights commands word_text
history_replayed = refl

pub late_replayed : replay late_assignment ≡ after_late
unfolding contained opening_rights commands word_text
late_replayed = refl
