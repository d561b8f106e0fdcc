-- What a session is to its callers.
use Rattle.std.specs.Prelude.{ℕ, ◌≤◌, ◌+◌, List, length}

pub record Streams : Type 0 where
  -- the bytes that wait to be answered
  pub waiting : List ℕ
  -- the bytes that wait to be sent
  pub output : List ℕ

-- a reply without a list fits behind this output, among 16,384 bytes
abbrev pub HasReplyRoom : List ℕ → Type 0
HasReplyRoom output = length output + 1024 ≤ 16384
