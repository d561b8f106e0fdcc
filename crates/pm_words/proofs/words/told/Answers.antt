use Rattle.std.proofs.Common.{subst}
use Rattle.clap.specs.Words.{found_of, rows_of}
use Rattle.pm_words.specs.Told.{TellsMet}
use Rattle.pm_words.proofs.Values.{met_is, none_met}
use Rattle.pm_words.proofs.words.told.Goals as goal

pub returns-in_err-name : goal.returns-in_err-name
returns-in_err-name c words tells = absurd (subst (TellsMet words) (none_met c.args.matches.now c.in_err-name.ensures.variant) tells)

pub returns : goal.returns
returns c words tells =
    let told = c.in_ok-name.ensures in
    c.told_by.ensures words
    (subst (TellsMet words) (met_is c.args.matches.now c.in_ok-name.name.now (rows_of (found_of c.in_ok-name.values.now)) told.name told.rows) tells)
