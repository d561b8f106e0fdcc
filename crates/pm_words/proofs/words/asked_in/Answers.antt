use Rattle.std.proofs.Common.{◌∙◌, sym, map, true≢false}
use Rattle.std.specs.Prelude.{string_bytes}
use Rattle.clap.specs.Simple.{app_of}
use Rattle.clap.proofs.WalkLemmas.{list_any-map}
use Rattle.pm_words.specs.Words.{is_flag}
use Rattle.pm_words.proofs.Asking.{flagged, read_by, refused}
use Rattle.pm_words.proofs.words.asked_in.Goals as goal

pub returns-then-has_flag : goal.returns-then-has_flag
returns-then-has_flag c =
    let words = c.args.words.now in
    flagged (map string_bytes words) (sym (c.if-has_flag.ensures ∙ list_any-map is_flag string_bytes words))

pub returns-in-Ok : goal.returns-in-Ok
returns-in-Ok c =
    let words = c.args.words.now in
    let clean = sym (c.if-has_flag.ensures ∙ list_any-map is_flag string_bytes words) in
    let parse = c.in-Ok.ensures in
    c.told.ensures (map string_bytes words)
    (read_by (map string_bytes words) (app_of c.in_ok-make_command.field-0) c.in-Ok.matches c.in_ok-make_command.ensures clean parse.matches parse.kinds)

pub returns-in-Err-2 : goal.returns-in-Err-2
returns-in-Err-2 c =
    let words = c.args.words.now in
    let clean = sym (c.if-has_flag.ensures ∙ list_any-map is_flag string_bytes words) in
    refused (map string_bytes words) (app_of c.in_ok-make_command.field-0) c.in-Err.error c.in_ok-make_command.ensures clean c.in-Err.ensures.kinds
    (λ lacks. true≢false (sym (c.lacks_memory.ensures.1 lacks) ∙ c.if-lacks_memory.false))
