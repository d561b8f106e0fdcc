use Rattle.std.proofs.Common.{◌≡◌, ◌∙◌, ap, length, map, subst, sym}
use Rattle.std.specs.Prelude.{string_bytes}
use Rattle.pm_words.specs.Words.{words_of, IsAsked}
use Rattle.pm_words.proofs.Exactly.{file_of_last, no_file}
use Rattle.pm_words.proofs.words.file_behind.Goals as goal

pub returns-then-asks_journal : goal.returns-then-asks_journal
returns-then-asks_journal c =
    let words = words_of c.args.args in
    let slice = c.as_slice.ensures in
    let read : map string_bytes c.as_slice.result.now ≡ words = ap (map string_bytes) (slice.value ∙ c.in_ok-words.ensures) in
    let is = subst (λ words. IsAsked words c.in_ok-asked.asked) read c.in_ok-asked.ensures in
    let items : map string_bytes c.in_ok-words.words.items ≡ words = ap (map string_bytes) c.in_ok-words.ensures in
    let pop = c.pop.ensures in
    file_of_last string_bytes words c.in_ok-asked.asked c.in_ok-words.words.items _ c.pop.result c.in_ok-words.words.len items (sym slice.len ∙ ap length slice.value) pop.items pop.variant.1 is
    (sym c.if-asks_journal.ensures)

pub returns : goal.returns
returns c =
    let read = ap (map string_bytes) (c.as_slice.ensures.value ∙ c.in_ok-words.ensures) in
    let is = subst (λ words. IsAsked words c.in_ok-asked.asked) read c.in_ok-asked.ensures in
    no_file (words_of c.args.args) c.in_ok-asked.asked is (sym c.if-asks_journal.ensures)
