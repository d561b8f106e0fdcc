use Rattle.pm_words.proofs.words.file_in.Goals as goal

pub returns-in-Ok-clause-file : goal.returns-in-Ok-clause-file
returns-in-Ok-clause-file c text = rw c.in-Ok.is (c.file_behind.ensures text)
