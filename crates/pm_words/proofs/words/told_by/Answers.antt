use Rattle.std.proofs.Common.{[], codes, subst}
use Rattle.clap.specs.Words.{found_of, rows_of}
use Rattle.pm_words.specs.Told.{Tells}
use Rattle.pm_words.proofs.Values.{other_told, said_by}
use Rattle.pm_words.proofs.words.told_by.Goals as goal

pub returns-in-run : goal.returns-in-run
returns-in-run c words tells =
    let found = found_of c.args.values.now in
    said_by words (codes "run") found (subst (λ name. Tells words name (rows_of found)) c.in-run.is tells) [] [] tt tt

pub returns-in-generate : goal.returns-in-generate
returns-in-generate c words tells =
    let rows = rows_of (found_of c.args.values.now) in
    c.generator.ensures words (subst (λ name. Tells words name rows) c.in-generate.is tells)

pub returns-in-serve : goal.returns-in-serve
returns-in-serve c words tells =
    let rows = rows_of (found_of c.args.values.now) in
    c.server.ensures words (subst (λ name. Tells words name rows) c.in-serve.is tells)

pub returns-in-text : goal.returns-in-text
returns-in-text c words tells =
    let rows = rows_of (found_of c.args.values.now) in
    c.journal_server.ensures words (subst (λ name. Tells words name rows) c.in-text.is tells)

pub returns-in-text-2 : goal.returns-in-text-2
returns-in-text-2 c words tells =
    let found = found_of c.args.values.now in
    said_by words (codes "request-lines") found (subst (λ name. Tells words name (rows_of found)) c.in-text-2.is tells) [] [] tt tt

pub returns-in-export : goal.returns-in-export
returns-in-export c words tells =
    let found = found_of c.args.values.now in
    said_by words (codes "export") found (subst (λ name. Tells words name (rows_of found)) c.in-export.is tells) [] [] tt tt

pub returns-in_default : goal.returns-in_default
returns-in_default c words tells =
    absurd (other_told words c.args.name.now (rows_of (found_of c.args.values.now)) tells c.in_default.not-run c.in_default.not-generate c.in_default.not-serve c.in_default.not-text c.in_default.not-text-2 c.in_default.not-export)
