-- Lists of well formed graphs are by rising number, and of live elements.
use Rattle.std.proofs.Common.{sym}
use Rattle.pm_model.specs.State.{name_numbered}
use Rattle.pm_step.proofs.Settled.{names-alike, same-as-before, same-unchanged}
use Rattle.pm_step.proofs.settling.changes_in.Goals as goal

pub changes_of_rights-requires-clause-old_rises : goal.changes_of_rights-requires-clause-old_rises
changes_of_rights-requires-clause-old_rises c =
    rw (c.list-old.ensures) (c.lists_rise.ensures.rising c.args.before.now.graph c.args.of.now (rw (c.graph.ensures) at c.formed.ensures))

pub changes_of_rights-requires-clause-new_rises : goal.changes_of_rights-requires-clause-new_rises
changes_of_rights-requires-clause-new_rises c =
    rw (c.in_ok-new.ensures.list) (c.lists_rise.ensures.rising c.args.draft.now.graph c.args.of.now (rw (c.graph-2.ensures) at c.formed-2.ensures))

pub changes_of_rights-requires-clause-old_named : goal.changes_of_rights-requires-clause-old_named
changes_of_rights-requires-clause-old_named c =
    rw (c.list-old.ensures, c.graph-was.ensures)
    (c.lists_rise.ensures.live c.args.before.now.graph c.args.of.now (rw (c.graph.ensures) at c.formed.ensures))

pub changes_of_rights-requires-clause-new_named : goal.changes_of_rights-requires-clause-new_named
changes_of_rights-requires-clause-new_named c =
    rw (c.in_ok-new.ensures.list, c.graph-is.ensures)
    (c.lists_rise.ensures.live c.args.draft.now.graph c.args.of.now (rw (c.graph-2.ensures) at c.formed-2.ensures))

pub changes_of_rights-requires-clause-names : goal.changes_of_rights-requires-clause-names
changes_of_rights-requires-clause-names c =
    rw (c.list-old.ensures, c.graph-was.ensures, c.graph-is.ensures)
    (names-alike c.args.before.now c.args.draft.now _ c.replayed.ensures c.requires.history (c.keeps_names.ensures c.if-keeps_names.true)
    (c.lists_rise.ensures.live c.args.before.now.graph c.args.of.now (rw (c.graph.ensures) at c.formed.ensures)))

pub changes-requires-clause-old_rises : goal.changes-requires-clause-old_rises
changes-requires-clause-old_rises c =
    rw (c.list-old.ensures) (c.lists_rise.ensures.rising c.args.before.now.graph c.args.of.now (rw (c.graph.ensures) at c.formed.ensures))

pub changes-requires-clause-new_rises : goal.changes-requires-clause-new_rises
changes-requires-clause-new_rises c =
    rw (c.in_ok-new.ensures.list) (c.lists_rise.ensures.rising c.args.draft.now.graph c.args.of.now (rw (c.graph-2.ensures) at c.formed-2.ensures))

pub changes-requires-clause-old_named : goal.changes-requires-clause-old_named
changes-requires-clause-old_named c =
    rw (c.list-old.ensures, c.graph-was.ensures)
    (c.lists_rise.ensures.live c.args.before.now.graph c.args.of.now (rw (c.graph.ensures) at c.formed.ensures))

pub changes-requires-clause-new_named : goal.changes-requires-clause-new_named
changes-requires-clause-new_named c =
    rw (c.in_ok-new.ensures.list, c.graph-is.ensures)
    (c.lists_rise.ensures.live c.args.draft.now.graph c.args.of.now (rw (c.graph-2.ensures) at c.formed-2.ensures))

pub returns-then-keeps_list : goal.returns-then-keeps_list
returns-then-keeps_list c =
    let G = c.args.before.now.graph in
    let H = c.args.draft.now.graph in
    rw c.new.ensures
    (sym (same-unchanged (name_numbered G.elements) (name_numbered H.elements) _ _
    (same-as-before c.args.before.now c.args.draft.now c.args.of.now c.replayed.ensures c.requires.history (c.keeps_list.ensures c.if-keeps_list.true))
    (names-alike c.args.before.now c.args.draft.now _ c.replayed.ensures c.requires.history (c.keeps_names.ensures c.if-keeps_names.true)
    (c.lists_rise.ensures.live G c.args.of.now (rw (c.graph.ensures) at c.formed.ensures)))))
