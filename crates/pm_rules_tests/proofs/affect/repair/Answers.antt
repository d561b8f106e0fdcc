use Rattle.pm_affect.specs.Example.{elements, is_shown, staff_rights, users}
use Rattle.pm_affect.proofs.Before.{agreed_right}
use Rattle.pm_affect.proofs.Given.{anew_among, anew_given}
use Rattle.pm_rules_tests.proofs.affect.repair.Goals as goal

pub update-requires-clause-lists : goal.update-requires-clause-lists
update-requires-clause-lists g c =
    rw (c.in_ok-elements.ensures, c.in_ok-users.ensures)
    (agreed_right (is_shown c.args.words.now) c.args.region.now (staff_rights c.args.words.now c.args.was) (staff_rights c.args.words.now c.args.now) elements users
    c.args.lists c.requires.given c.requires.among c.requires.outside)

pub returns-clause-given : goal.returns-clause-given
returns-clause-given g c =
    anew_given (staff_rights c.args.words.now c.args.now) elements users c.args.lists c.in_ok-new.new
    (rw c.in_ok-elements.ensures at c.in_ok-new.ensures.caps) (rw c.in_ok-users.ensures at c.in_ok-new.ensures.entries)

pub returns-clause-among : goal.returns-clause-among
returns-clause-among g c =
    anew_among (staff_rights c.args.words.now c.args.now) elements users c.args.lists c.in_ok-new.new
    (rw c.in_ok-elements.ensures at c.in_ok-new.ensures.caps) (rw c.in_ok-users.ensures at c.in_ok-new.ensures.entries) c.requires.among
