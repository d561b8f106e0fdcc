-- The statuses of the program: their numbers, and what it says of them.
use Rattle.std.specs.Prelude.{ℕ, List, [], ◌++◌, Option, Some, None, codes, decimal, if◌then◌else◌, length, nat_lt}
use Rattle.std.specs.Option.{option_map_or}
use Rattle.pm_run.specs.declared.statuses.Status.{Status}
use Rattle.pm_run.specs.declared.statuses.Status.TheVariants.{Done, Usage, ReadFault, WriteFault, Memory, TooMuch, Serve, ListenFault, ServeFault, ServeJournal, JournalFault, NotJournal, Damaged, Illegal, DocumentRefused}

-- the number that the process ends with
abbrev pub status_number : Status → ℕ
status_number Done = 0
status_number Usage = 2
status_number ReadFault = 3
status_number WriteFault = 4
status_number Memory = 5
status_number TooMuch = 6
status_number (Serve port workers) = 0
status_number ListenFault = 7
status_number ServeFault = 11
status_number (ServeJournal port workers) = 0
status_number JournalFault = 8
status_number NotJournal = 9
status_number (Damaged at) = 9
status_number (Illegal at) = 9
status_number DocumentRefused = 10

-- what is said on `err`, before the place
abbrev pub status_text : Status → List ℕ
status_text Done = []
status_text Usage = codes "usage: ngac run | ngac generate N | ngac serve PORT WORKERS | ngac serve-journal PORT WORKERS FILE | ngac request-lines | ngac export\n"
status_text ReadFault = codes "ngac: read failed\n"
status_text WriteFault = codes "ngac: write failed\n"
status_text Memory = codes "ngac: out of memory\n"
status_text TooMuch = codes "ngac: too much input\n"
status_text (Serve port workers) = []
status_text ListenFault = codes "ngac: listen failed\n"
status_text ServeFault = codes "ngac: serving failed\n"
status_text (ServeJournal port workers) = []
status_text JournalFault = codes "ngac: journal failed\n"
status_text NotJournal = codes "ngac: not a journal\n"
status_text (Damaged at) = codes "ngac: journal damaged at "
status_text (Illegal at) = codes "ngac: journal illegal at "
status_text DocumentRefused = codes "ngac: document refused\n"

-- the place in a journal
abbrev pub status_place : Status → Option ℕ
status_place (Damaged at) = Some at
status_place (Illegal at) = Some at
status_place _ = None

-- all that is said
abbrev pub status_line : Status → List ℕ
status_line status = status_text status ++ option_map_or (λ at. decimal at ++ codes "\n") (status_place status) []

-- how a run over this input ends where nothing fails
abbrev pub ending : ℕ → List ℕ → Status
ending limit input = if nat_lt (length input) limit then Done else TooMuch
