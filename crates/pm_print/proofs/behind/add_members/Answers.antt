-- One member more.
use Rattle.std.proofs.Common.{◌≡◌, ◌+◌, length, map, take, ap, ◌∙◌, arith, length-append}
use Rattle.std.proofs.lemmas.Grind.{common_steps}
use Rattle.pm_print.specs.Behind.{member_told}
use Rattle.pm_print.specs.Members.{leading, leading_all}
use Rattle.pm_print.proofs.Appending.{appended-then}
use Rattle.pm_print.proofs.MemberTexts.{members_more, members_within}
use Rattle.pm_print.proofs.behind.add_members.Goals as goal

pub returns-in_err-add_member : goal.returns-in_err-add_member
returns-in_err-add_member c =
    let i = c.loop-member.member-index in
    let member = member_told c.member-item.result in
    let more = members_more member_told c.args.members.now i c.member-item.result c.loop-member-test.true c.member-item.is in
    let before = leading_all (map member_told (take i c.args.members.now)) in
    let longer : length (leading_all (map member_told (take (i + 1) c.args.members.now))) ≡ length before + length (leading member.0 member.1) = ap length more ∙ length-append before (leading member.0 member.1) in
    let within = members_within member_told (i + 1) c.args.members.now in
    grind (arith, common_steps)

pub loop-member-preserved : goal.loop-member-preserved
loop-member-preserved c =
    let more = members_more member_told c.args.members.now c.loop-member.member-index c.member-item.result c.loop-member-test.true c.member-item.is in
    appended-then _ _ _ _ _ _ _ _ _ c.loop-member.invariant c.in_ok-add_member.ensures more (ap length more ∙ length-append _ _)
