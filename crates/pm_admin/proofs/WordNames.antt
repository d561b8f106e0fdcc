-- Each word has the form of a name.
use Rattle.std.proofs.Common.{IsTrue, refl}
use Rattle.pm_model.specs.Name.{is_name}
use Rattle.pm_model.specs.Words.{word_text}
use Rattle.pm_model.specs.declared.words.Word.{Word}
use Rattle.pm_model.specs.declared.words.Word.TheVariants as word

pub word_is_name : (w : Word) → IsTrue (is_name (word_text w))
unfolding word_text
word_is_name word.CreatePc = refl
word_is_name word.CreateUser = refl
word_is_name word.CreateUa = refl
word_is_name word.CreateOa = refl
word_is_name word.CreateObject = refl
word_is_name word.Delete = refl
word_is_name word.Assign = refl
word_is_name word.Deassign = refl
word_is_name word.Associate = refl
word_is_name word.Dissociate = refl
word_is_name word.Prohibit = refl
word_is_name word.Lift = refl
word_is_name word.DefineRight = refl
word_is_name word.Oblige = refl
word_is_name word.Withdraw = refl
word_is_name word.Keep = refl
word_is_name word.DropReview = refl
word_is_name word.Access = refl
word_is_name word.Version = refl
word_is_name word.OpenSession = refl
word_is_name word.CloseSession = refl
word_is_name word.StartProcess = refl
word_is_name word.EndProcess = refl
word_is_name word.Caps = refl
word_is_name word.Entries = refl
word_is_name word.Kept = refl
word_is_name word.Changes = refl
word_is_name word.Survey = refl
word_is_name word.Done = refl
word_is_name word.Granted = refl
word_is_name word.TooLong = refl
word_is_name word.NotJson = refl
word_is_name word.NotRequest = refl
word_is_name word.UnknownCommand = refl
word_is_name word.BadField = refl
word_is_name word.Ahead = refl
word_is_name word.UnknownProcess = refl
word_is_name word.UnknownSession = refl
word_is_name word.UnknownReview = refl
word_is_name word.ResponseRefused = refl
word_is_name word.KeepFault = refl
word_is_name word.UnknownName = refl
word_is_name word.Denied = refl
word_is_name word.BadKinds = refl
word_is_name word.NameTaken = refl
word_is_name word.Already = refl
word_is_name word.Absent = refl
word_is_name word.Cycle = refl
word_is_name word.Occupied = refl
word_is_name word.InUse = refl
word_is_name word.LastContainer = refl
word_is_name word.Builtin = refl
word_is_name word.EmptyRange = refl
word_is_name word.Full = refl
word_is_name word.Elements = refl
word_is_name word.Assignments = refl
word_is_name word.Associations = refl
word_is_name word.Prohibitions = refl
word_is_name word.Obligations = refl
word_is_name word.Sessions = refl
word_is_name word.Processes = refl
word_is_name word.Reviews = refl
word_is_name word.History = refl
word_is_name word.Rights = refl
word_is_name word.All = refl
word_is_name word.Any = refl
