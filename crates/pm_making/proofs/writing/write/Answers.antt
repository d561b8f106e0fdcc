use Rattle.std.proofs.Common.{◌∙◌, ◌++◌, ap, None}
use Rattle.std.proofs.lemmas.Result.{on_ok_weaker}
use Rattle.pm_print.specs.Requested.{request_text}
use Rattle.pm_making.proofs.Written.{front-told, front_itself}
use Rattle.pm_making.proofs.writing.write.Goals as goal

pub returns-in_err-request-clause-front : goal.returns-in_err-request-clause-front
returns-in_err-request-clause-front g c = front_itself c.args.out.now.items

pub returns-clause-ok : goal.returns-clause-ok
returns-clause-ok g c =
    on_ok_weaker c.print_request.result (λ is. is ∙ ap (λ r. c.args.out.now.items ++ request_text None r) c.in_ok-request.ensures) c.print_request.ensures.ok

pub returns-clause-front : goal.returns-clause-front
returns-clause-front g c =
    front-told c.print_request.result c.args.out.now.items c.print_request.new.out.items (request_text None c.in_ok-request.request)
    c.print_request.ensures.ok c.print_request.ensures.err
