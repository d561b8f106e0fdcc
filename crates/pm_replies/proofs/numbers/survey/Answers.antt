use Rattle.pm_replies.proofs.Numbering.{survey_numbered}
use Rattle.pm_replies.proofs.numbers.survey.Goals as goal

pub returns : goal.returns
returns c = rw (c.in_ok-count_names.ensures, c.in_ok-users.ensures, c.in_ok-counts.ensures) (survey_numbered c.args.list.now)
