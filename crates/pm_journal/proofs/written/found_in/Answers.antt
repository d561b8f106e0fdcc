use Rattle.std.proofs.Common.{◌≡◌, ◌∙◌, ap, subst, arith, List, ℕ, take, drop, length, length-drop}
use Rattle.pm_model.specs.Asked.{asked}
use Rattle.pm_model.specs.declared.requests.Entry.{Entry}
use Rattle.pm_model.specs.declared.requests.Request.{Request}
use Rattle.pm_model.specs.declared.requests.What.TheVariants as what
use Rattle.pm_journal.specs.Founds.{IsFoundWhole}
use Rattle.pm_journal.specs.Notes.{IsRequest}
use Rattle.pm_journal.proofs.Parts.{AreParts, asks_nothing, asks_one, none_of, some_of}
use Rattle.pm_journal.proofs.written.found_in.Goals as goal

pub returns-in_default-clause-found : goal.returns-in_default-clause-found
returns-in_default-clause-found c =
    let bytes = c.args.bytes.now in
    let body = c.split_at.result.1.now in
    let after_len = c.split_at-2.result.1.now in
    let after_seat = c.split_at-3.result.1.now in
    let rest = c.split_at-4.result.1.now in
    let line = c.split_at-5.result.0.now in
    let parts : AreParts bytes c.split_at-2.result.0.now c.split_at-3.result.0.now c.split_at-4.result.0.now line rest c.u32_in-len.result = record {
      gate = c.if-bytes-eq0.false;
      long = omega (arith, c.if-body-lt17.false, ap length c.split_at.ensures.back);
      len_bytes_are = cc;
      seat_is = cc;
      nth_is = cc;
      rest_is = cc;
      len_is = c.u32_in-len.ensures;
      line_is = c.split_at-5.ensures.front;
      short = omega (arith, c.if-len-gt8192.false);
      more = omega (arith, c.if-rest-len.false);
    } in
    let none = none_of (IsRequest (asked line).what → ⊥) (λ r. (asked line).what ≡ what.Request r) c.in_ok-request.field-0 c.in_default.not-Some c.in_ok-request.ensures in
    asks_nothing bytes c.split_at-2.result.0.now c.split_at-3.result.0.now c.split_at-4.result.0.now line rest c.u32_in-len.result parts none

pub returns-clause-found : goal.returns-clause-found
returns-clause-found c =
    let bytes = c.args.bytes.now in
    let seat = c.split_at-3.result.0.now in
    let nth = c.split_at-4.result.0.now in
    let rest = c.split_at-4.result.1.now in
    let line = c.split_at-5.result.0.now in
    let parts : AreParts bytes c.split_at-2.result.0.now seat nth line rest c.u32_in-len.result = record {
      gate = c.if-bytes-eq0.false;
      long = omega (arith, c.if-body-lt17.false, ap length c.split_at.ensures.back);
      len_bytes_are = cc;
      seat_is = cc;
      nth_is = cc;
      rest_is = cc;
      len_is = c.u32_in-len.ensures;
      line_is = c.split_at-5.ensures.front;
      short = omega (arith, c.if-len-gt8192.false);
      more = omega (arith, c.if-rest-len.false);
    } in
    let is = some_of (IsRequest (asked line).what → ⊥) (λ r. (asked line).what ≡ what.Request r) c.in_ok-request.field-0 c.in-Some.request c.in-Some.is c.in_ok-request.ensures in
    let found = asks_one bytes c.split_at-2.result.0.now seat nth line rest c.u32_in-len.result parts c.in-Some.request is in
    rw (c.u32_in.ensures, c.u64_in.ensures) found
