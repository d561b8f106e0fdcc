use Rattle.pm_replies.proofs.Reading.{same_printed}
use Rattle.pm_replies.proofs.confirm.is_said.Goals as goal

pub returns-clause-no : goal.returns-clause-no
returns-clause-no c =
    λ other told. c.is_line.ensures.no other
    (rw (c.as_slice.ensures.value, c.in_ok-print_reply.ensures.ok, c.new-printed.ensures.items)
    (same_printed c.args.line.now c.args.said.now c.in_ok-numbered.numbered.names.list c.in_ok-numbered.numbered.reply c.in_ok-numbered.ensures told))
