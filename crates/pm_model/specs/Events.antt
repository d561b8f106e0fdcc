-- What requests raise: who did by which process what to which element. Source: the standard's events; which element an
-- administrative command is done to is the project's own. One clause of `done_to` for each change.
use Rattle.std.specs.Prelude.{ℕ, List, [], Option, None, Some, option_map, unwrap_or, slice_get}
use Rattle.std.specs.List.{remove}
use Rattle.pm_model.specs.State.{Graph, name_numbered}
use Rattle.pm_model.specs.Containment.{contained}
use Rattle.pm_model.specs.Authority.{pm, subject_element}
use Rattle.pm_model.specs.Obligations.{matching}
use Rattle.pm_model.specs.Words.{word_text}
use Rattle.pm_model.specs.declared.elements.Kind.{Kind}
use Rattle.pm_model.specs.declared.elements.Kind.TheVariants.{User, Ua, Object, Oa, Pc}
use Rattle.pm_model.specs.declared.events.Event.{Event}
use Rattle.pm_model.specs.declared.events.EventNames.{EventNames}
use Rattle.pm_model.specs.declared.obligations.Obligation.{Obligation}
use Rattle.pm_model.specs.declared.prohibitions.Prohibition.{Prohibition}
use Rattle.pm_model.specs.declared.requests.Change.{Change}
use Rattle.pm_model.specs.declared.requests.Change.TheVariants as change
use Rattle.pm_model.specs.declared.words.Word.{Word}
use Rattle.pm_model.specs.declared.words.Word.TheVariants as word

abbrev pub word_to_create : Kind → Word
word_to_create User = word.CreateUser
word_to_create Ua = word.CreateUa
word_to_create Oa = word.CreateOa
word_to_create Object = word.CreateObject
word_to_create Pc = word.CreatePc

-- the element that a prohibition is about, and the one that an obligation watches
abbrev pub barred_in : Graph → Option Prohibition → ℕ
barred_in G None = pm
barred_in G (Some p) = subject_element G p.subject

abbrev pub watched_by : Option Obligation → ℕ
watched_by None = pm
watched_by (Some o) = unwrap_or o.pattern.target pm

-- the command's word, and the element that it is done to; none of a change of sessions and processes
abbrev pub done_to : Graph → Change → Option (Word × ℕ)
done_to G (change.Create id kind name into) = Some (word_to_create kind, unwrap_or into pm)
done_to G (change.Delete id) = Some (word.Delete, id)
done_to G (change.Assign x y) = Some (word.Assign, y)
done_to G (change.Deassign x y) = Some (word.Deassign, y)
done_to G (change.Associate u r t) = Some (word.Associate, t)
done_to G (change.Dissociate u t) = Some (word.Dissociate, t)
done_to G (change.Prohibit p) = Some (word.Prohibit, subject_element G p.subject)
done_to G (change.Lift i) = Some (word.Lift, barred_in G (slice_get G.prohibitions i))
done_to G (change.Oblige o) = Some (word.Oblige, unwrap_or o.pattern.target pm)
done_to G (change.Withdraw i) = Some (word.Withdraw, watched_by (slice_get G.obligations i))
done_to G (change.DefineRight name) = Some (word.DefineRight, pm)
done_to G _ = None

-- what the user does by the process
abbrev pub event : ℕ → ℕ → List ℕ → ℕ → Event
event u q operation target = record { user = u; process = q; operation = operation; target = target }

-- the event that a change raises, where the user makes it by the process
abbrev pub raised : Graph → ℕ → ℕ → Change → Option Event
raised G u q change = option_map (λ done. event u q (word_text done.0) done.1) (done_to G change)

-- what the event's user and target are called
abbrev pub names_in : Graph → Event → EventNames
names_in G e = record { user = name_numbered G.elements e.user; target = name_numbered G.elements e.target; process = e.process }

-- the obligations that may respond to a change: one that it withdraws may not
abbrev pub obliging : Graph → Change → List Obligation
obliging G (change.Withdraw i) = remove G.obligations i
obliging G _ = G.obligations

-- of the obligations, those that the event matches in the graph
abbrev pub responders : Graph → List Obligation → Option Event → List Obligation
responders G obligations None = []
responders G obligations (Some e) = matching (contained G.assigned) obligations e
