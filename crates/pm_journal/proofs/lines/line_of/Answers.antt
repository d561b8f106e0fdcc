use Rattle.std.proofs.Common.{rules, ◌≡◌, inr, ap, subst, sym, arith, None}
use Rattle.pm_model.specs.Asked.{asked}
use Rattle.pm_model.specs.declared.requests.Asked.{Asked}
use Rattle.pm_model.specs.declared.requests.What.TheVariants as what
use Rattle.pm_print.specs.Askable.{IsAskable}
use Rattle.pm_journal.specs.Notes.{IsRequest}
use Rattle.pm_journal.proofs.Keeping.{same_entry}
use Rattle.pm_journal.proofs.lines.line_of.Goals as goal

pub returns-clause-line : goal.returns-clause-line
returns-clause-line c =
    let request = c.args.entry.now.request in
    let line = c.in_ok-line.line.items in
    let askable : IsAskable request = search rules in
    let asks : (asked line).what ≡ what.Request request = ap (λ (a : Asked). a.what) (c.printed_is_asked.ensures None request line tt askable c.in_ok-line.ensures) in
    record { short = omega (arith, c.if-len-gt-LONGEST_LINE.false, c.len.ensures); asks = subst IsRequest (sym asks) tt }

pub returns-clause-entry : goal.returns-clause-entry
returns-clause-entry c =
    let request = c.args.entry.now.request in
    let line = c.in_ok-line.line.items in
    let askable : IsAskable request = search rules in
    let asks : (asked line).what ≡ what.Request request = ap (λ (a : Asked). a.what) (c.printed_is_asked.ensures None request line tt askable c.in_ok-line.ensures) in
    same_entry c.args.entry.now line asks

pub returns-then-len-gt-LONGEST_LINE-clause-refused : goal.returns-then-len-gt-LONGEST_LINE-clause-refused
returns-then-len-gt-LONGEST_LINE-clause-refused c none =
    inr (c.in_ok-line.line.items, c.in_ok-line.ensures, omega (arith, c.if-len-gt-LONGEST_LINE.true, c.len.ensures))
