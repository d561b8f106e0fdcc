-- Keys and fixed texts have the form of names, and so few bytes.
use Rattle.std.proofs.Common.{◌≡◌, ◌≤◌, ◌<◌, ◌^◌, ℕ, List, [], ◌∷◌, ◌&&◌, IsTrue, length, decimal, refl, ap, arith, length-append, leb-true}
use Rattle.std.proofs.lemmas.Bool.{and_parts}
use Rattle.std.proofs.lemmas.Fmt.{length-decimal-le}
use Rattle.std.specs.List.{list_all}
use Rattle.std.specs.Prelude.{codes, nat_lt, nat_le}
use Rattle.json.specs.Print.{quoted}
use Rattle.pm_model.specs.Name.{is_name, is_name_byte, longest_name}
use Rattle.pm_model.specs.Words.{key_text, word_text}
use Rattle.pm_model.specs.declared.words.Key.{Key}
use Rattle.pm_model.specs.declared.words.Key.TheVariants as key
use Rattle.pm_model.specs.declared.words.Word.{Word}
use Rattle.pm_model.specs.declared.words.Word.TheVariants as word
use Rattle.pm_model.specs.declared.actions.Term.TheVariants.{EventUser, EventTarget, Fresh}
use Rattle.pm_print.specs.Actions.{event_process_text, term_text}
use Rattle.pm_print.specs.Growth.{decimal_most, key_most, quoted_most}
use Rattle.pm_print.specs.Members.{keyed}
use Rattle.pm_print.proofs.Members.{quoted-marked, quoted-plain, plain-name}

pub key_name : (k : Key) → IsTrue (is_name (key_text k))
unfolding key_text
key_name key.Action = refl
key_name key.After = refl
key_name key.At = refl
key_name key.Class = refl
key_name key.Cmd = refl
key_name key.Counts = refl
key_name key.Do = refl
key_name key.Element = refl
key_name key.Exc = refl
key_name key.Field = refl
key_name key.Fired = refl
key_name key.From = refl
key_name key.Id = refl
key_name key.If = refl
key_name key.Inc = refl
key_name key.Into = refl
key_name key.Kind = refl
key_name key.List = refl
key_name key.Mode = refl
key_name key.Name = refl
key_name key.No = refl
key_name key.Obligation = refl
key_name key.Of = refl
key_name key.Ok = refl
key_name key.On = refl
key_name key.Proc = refl
key_name key.Process = refl
key_name key.Prohibition = refl
key_name key.Review = refl
key_name key.Right = refl
key_name key.Rights = refl
key_name key.Session = refl
key_name key.Subject = refl
key_name key.Table = refl
key_name key.Target = refl
key_name key.To = refl
key_name key.Ua = refl
key_name key.User = refl
key_name key.Users = refl
key_name key.V = refl
key_name key.When = refl
key_name key.Why = refl

pub word_name : (w : Word) → IsTrue (is_name (word_text w))
unfolding word_text
word_name word.CreatePc = refl
word_name word.CreateUser = refl
word_name word.CreateUa = refl
word_name word.CreateOa = refl
word_name word.CreateObject = refl
word_name word.Delete = refl
word_name word.Assign = refl
word_name word.Deassign = refl
word_name word.Associate = refl
word_name word.Dissociate = refl
word_name word.Prohibit = refl
word_name word.Lift = refl
word_name word.DefineRight = refl
word_name word.Oblige = refl
word_name word.Withdraw = refl
word_name word.Keep = refl
word_name word.DropReview = refl
word_name word.Access = refl
word_name word.Version = refl
word_name word.OpenSession = refl
word_name word.CloseSession = refl
word_name word.StartProcess = refl
word_name word.EndProcess = refl
word_name word.Caps = refl
word_name word.Entries = refl
word_name word.Kept = refl
word_name word.Changes = refl
word_name word.Survey = refl
word_name word.Done = refl
word_name word.Granted = refl
word_name word.TooLong = refl
word_name word.NotJson = refl
word_name word.NotRequest = refl
word_name word.UnknownCommand = refl
word_name word.BadField = refl
word_name word.Ahead = refl
word_name word.UnknownProcess = refl
word_name word.UnknownSession = refl
word_name word.UnknownReview = refl
word_name word.ResponseRefused = refl
word_name word.KeepFault = refl
word_name word.UnknownName = refl
word_name word.Denied = refl
word_name word.BadKinds = refl
word_name word.NameTaken = refl
word_name word.Already = refl
word_name word.Absent = refl
word_name word.Cycle = refl
word_name word.Occupied = refl
word_name word.InUse = refl
word_name word.LastContainer = refl
word_name word.Builtin = refl
word_name word.EmptyRange = refl
word_name word.Full = refl
word_name word.Elements = refl
word_name word.Assignments = refl
word_name word.Associations = refl
word_name word.Prohibitions = refl
word_name word.Obligations = refl
word_name word.Sessions = refl
word_name word.Processes = refl
word_name word.Reviews = refl
word_name word.History = refl
word_name word.Rights = refl
word_name word.All = refl
word_name word.Any = refl

pub event_user : quoted (term_text EventUser) ≡ codes "\"$user\""
unfolding term_text
event_user = quoted-marked (codes "user") refl

pub event_target : quoted (term_text EventTarget) ≡ codes "\"$target\""
unfolding term_text
event_target = quoted-marked (codes "target") refl

pub fresh : quoted (term_text Fresh) ≡ codes "\"$fresh\""
unfolding term_text
fresh = quoted-marked (codes "fresh") refl

pub event_process : quoted event_process_text ≡ codes "\"$process\""
unfolding event_process_text
event_process = quoted-marked (codes "process") refl

pub name_length : (s : List ℕ) → IsTrue (is_name s) → length s ≤ longest_name
name_length s h = leb-true (length s) longest_name (and_parts (nat_lt 0 (length s)) (nat_le (length s) longest_name) (and_parts (nat_lt 0 (length s) && nat_le (length s) longest_name) (list_all is_name_byte s) h).0).1

pub quoted_size : (s : List ℕ) → IsTrue (is_name s) → length (quoted s) ≤ quoted_most
quoted_size s h =
    let short = name_length s h in
    let e = ap length (quoted-plain s (plain-name s h)) in
    let a = length-append s (34 ∷ []) in
    omega (arith, short, e, a)

pub key_size : (k : Key) → length (keyed (key_text k)) ≤ key_most
unfolding keyed
key_size k =
    let q = quoted_size (key_text k) (key_name k) in
    let a = length-append (quoted (key_text k)) (58 ∷ []) in
    omega (arith, q, a)

pub decimal_size : (n : ℕ) → n < 2 ^ 64 → length (decimal n) ≤ decimal_most
decimal_size n h = length-decimal-le decimal_most n (omega arith) (omega arith) h
