use Rattle.std.proofs.Common.{◌≡◌, ◌∙◌, ap, subst, map, None, Some}
use Rattle.std.specs.Prelude.{string_bytes}
use Rattle.std.proofs.lemmas.Result.{IfOk-weaker}
use Rattle.pm_words.specs.Words.{words_of, IsAsked}
use Rattle.pm_words.specs.declared.words.Asked.TheVariants.{Run, Generate, Serve, ServeJournal, RequestLines, Export}
use Rattle.pm_words.proofs.Exactly.{exactly}
use Rattle.pm_words.proofs.words.read_words.Goals.{After-drop-words}
use Rattle.pm_words.proofs.words.read_words.Goals as goal

read_as : (c : After-drop-words) → map string_bytes c.as_slice.result.now ≡ words_of c.in-Ok.args
read_as c = ap (map string_bytes) (c.as_slice.ensures.value ∙ c.in_ok-words-in-Ok.ensures)

pub returns-in_ok-words-in-Ok-clause-run : goal.returns-in_ok-words-in-Ok-clause-run
returns-in_ok-words-in-Ok-clause-run c =
    rw c.in-Ok.is (IfOk-weaker c.asked_in.result _ _ (λ asked is. exactly (words_of c.in-Ok.args) asked (Some Run) (subst (λ words. IsAsked words asked) (read_as c) is)) c.asked_in.ensures)

pub returns-in_ok-words-in-Ok-clause-generate : goal.returns-in_ok-words-in-Ok-clause-generate
returns-in_ok-words-in-Ok-clause-generate c n =
    rw c.in-Ok.is (IfOk-weaker c.asked_in.result _ _ (λ asked is. exactly (words_of c.in-Ok.args) asked (Some (Generate n)) (subst (λ words. IsAsked words asked) (read_as c) is)) c.asked_in.ensures)

pub returns-in_ok-words-in-Ok-clause-serve : goal.returns-in_ok-words-in-Ok-clause-serve
returns-in_ok-words-in-Ok-clause-serve c p w =
    rw c.in-Ok.is (IfOk-weaker c.asked_in.result _ _ (λ asked is. exactly (words_of c.in-Ok.args) asked (Some (Serve p w)) (subst (λ words. IsAsked words asked) (read_as c) is)) c.asked_in.ensures)

pub returns-in_ok-words-in-Ok-clause-serve_journal : goal.returns-in_ok-words-in-Ok-clause-serve_journal
returns-in_ok-words-in-Ok-clause-serve_journal c p w =
    rw c.in-Ok.is (IfOk-weaker c.asked_in.result _ _ (λ asked is. exactly (words_of c.in-Ok.args) asked (Some (ServeJournal p w)) (subst (λ words. IsAsked words asked) (read_as c) is)) c.asked_in.ensures)

pub returns-in_ok-words-in-Ok-clause-request_lines : goal.returns-in_ok-words-in-Ok-clause-request_lines
returns-in_ok-words-in-Ok-clause-request_lines c =
    rw c.in-Ok.is (IfOk-weaker c.asked_in.result _ _ (λ asked is. exactly (words_of c.in-Ok.args) asked (Some RequestLines) (subst (λ words. IsAsked words asked) (read_as c) is)) c.asked_in.ensures)

pub returns-in_ok-words-in-Ok-clause-export : goal.returns-in_ok-words-in-Ok-clause-export
returns-in_ok-words-in-Ok-clause-export c =
    rw c.in-Ok.is (IfOk-weaker c.asked_in.result _ _ (λ asked is. exactly (words_of c.in-Ok.args) asked (Some Export) (subst (λ words. IsAsked words asked) (read_as c) is)) c.asked_in.ensures)

pub returns-in_ok-words-in-Ok-clause-other : goal.returns-in_ok-words-in-Ok-clause-other
returns-in_ok-words-in-Ok-clause-other c =
    rw c.in-Ok.is (IfOk-weaker c.asked_in.result _ _ (λ asked is. exactly (words_of c.in-Ok.args) asked None (subst (λ words. IsAsked words asked) (read_as c) is)) c.asked_in.ensures)
