-- Requests that ask what takes no memory, and replies to which nothing has responded.
use Rattle.std.specs.Prelude.{◌==◌, Bool, true, false}
use Rattle.pm_model.specs.declared.replies.Reply.{Reply}
use Rattle.pm_model.specs.declared.replies.Reply.TheVariants as reply
use Rattle.pm_model.specs.declared.requests.Body.{Body}
use Rattle.pm_model.specs.declared.requests.Body.TheVariants as body

-- it asks what takes no memory: what the version is, or for an access
abbrev pub asks_freely : Body → Bool
asks_freely body.Version = true
asks_freely (body.Access process right target) = true
asks_freely _ = false

-- no obligation has responded
abbrev pub none_responded : Reply → Bool
none_responded (reply.Done fired shown) = fired == 0
none_responded (reply.Granted fired) = fired == 0
none_responded (reply.ResponseRefused obligation action why) = false
none_responded _ = true
