use Rattle.serde_json.specs.View.{view}
use Rattle.pm_model.specs.Forms.{looking}
use Rattle.pm_model.specs.Asked.{row_of}
use Rattle.pm_read.proofs.Asking.{head_reads}
use Rattle.pm_read.proofs.read.worded.Goals as goal

pub returns-in-Some : goal.returns-in-Some
returns-in-Some c =
    let look = looking (view c.args.value.now) in
    head_reads look c.in-Some.row (row_of look c.args.word.now) c.with_head.result c.in-Some.ensures c.with_head.ensures
