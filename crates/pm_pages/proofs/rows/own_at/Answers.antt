use Rattle.std.proofs.Common.{sym, ◌∙◌}
use Rattle.std.proofs.lemmas.Result.{on_ok_weaker}
use Rattle.pm_pages.specs.Listed.{owned}
use Rattle.pm_pages.proofs.Changed.{set_edited}
use Rattle.pm_pages.proofs.Owning.{own_page_read}
use Rattle.pm_pages.proofs.rows.own_at.Goals as goal

pub returns-clause-pages : goal.returns-clause-pages
returns-clause-pages g c =
    on_ok_weaker c.own.result (λ done. rw done
    (set_edited owned c.args.pages.now.items c.args.k c.index_mut-page.result.now c.requires c.index_mut-page.ensures.value)) c.own.ensures.page

pub returns-clause-own : goal.returns-clause-own
returns-clause-own g c = λ o.
    c.own.ensures.own (sym (own_page_read c.args.pages.now.items c.args.k c.index_mut-page.result.now c.requires c.index_mut-page.ensures.value) ∙ o)
