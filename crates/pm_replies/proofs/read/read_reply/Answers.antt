use Rattle.std.proofs.Common.{IsTrue, false}
use Rattle.serde_json.specs.View.{view}
use Rattle.pm_replies.proofs.Reading.{confirmed-none, confirmed-one, no_value}
use Rattle.pm_replies.proofs.read.read_reply.Goals as goal

pub returns-in-Err-clause-none : goal.returns-in-Err-clause-none
returns-in-Err-clause-none c =
    λ e id v names reply can is. no_value c.args.line.now id v names reply can is
    (c.in-Err.ensures.err (λ m. let f : IsTrue false = c.if-is_memory.ensures.1 m in cc))

pub returns-in-Ok-None-clause-none : goal.returns-in-Ok-None-clause-none
returns-in-Ok-None-clause-none c =
    let none = rw c.in-Ok-None.field-0-is at c.in-Ok-None.ensures in
    λ e id v names reply can is. confirmed-none c.args.line.now id v names reply can is (view c.in-Ok.value) c.in-Ok.ensures.ok.1 none

pub returns-clause-one : goal.returns-clause-one
returns-clause-one c =
    let some = rw c.in-Ok-Some.field-0-is at c.in-Ok-Some.ensures in
    λ id v names reply can is. confirmed-one c.args.line.now id v names reply can is (view c.in-Ok.value) c.in-Ok-Some.said c.in-Ok.ensures.ok.1 some
