use Rattle.std.proofs.Common.{[], map}
use Rattle.pm_document_text.specs.Text.{assignment_told, policy_back}
use Rattle.pm_model.specs.Object.{listed}
use Rattle.pm_model.specs.Words.{word_text}
use Rattle.pm_model.specs.declared.words.Word.TheVariants.{Assignments}
use Rattle.pm_print.proofs.Appending.{adds-as}
use Rattle.pm_print.proofs.Members.{line_by}
use Rattle.pm_document_text.proofs.text.add_document.Goals as goal

pub returns : goal.returns
returns c =
    let D = c.args.policy.now in
    adds-as _ _ _ _ _ (line_by (word_text Assignments) (listed (map assignment_told D.assignments)) (policy_back D) []) c.add_parts.ensures
