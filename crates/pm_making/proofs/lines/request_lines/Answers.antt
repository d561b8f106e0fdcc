use Rattle.std.proofs.Common.{◌∙◌, ap, take}
use Rattle.std.proofs.lemmas.Result.{on_err_weaker}
use Rattle.pm_making.specs.Lines.{document_lines}
use Rattle.pm_making.proofs.Written.{whole-ok}
use Rattle.pm_making.proofs.lines.request_lines.Goals as goal

pub returns-clause-ok : goal.returns-clause-ok
returns-clause-ok c =
    whole-ok c.whole_or_none.result c.write_parts-written.result c.args.out.now.items c.write_parts-written.new.out.items c.whole_or_none.new.out.items
    (document_lines c.args.policy.now) c.whole_or_none.ensures.same c.whole_or_none.ensures.ok c.write_parts-written.ensures.ok

pub returns-clause-err : goal.returns-clause-err
returns-clause-err c =
    on_err_weaker c.whole_or_none.result
    (λ is. is ∙ ap (λ n. take n c.write_parts-written.new.out.items) (c.len-before.ensures ∙ c.args.out.now.ok.0) ∙ c.write_parts-written.ensures.front)
    c.whole_or_none.ensures.err
