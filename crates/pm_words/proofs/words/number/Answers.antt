use Rattle.std.proofs.Common.{arith}
use Rattle.pm_words.proofs.words.number.Goals as goal
use Rattle.pm_words.proofs.Numbers.{unread, other, same}

pub returns-in_default : goal.returns-in_default
returns-in_default c = unread c.from_str_radix.ensures.value c.in_default.is

pub returns-then-eq : goal.returns-then-eq
returns-then-eq c = same c.from_str_radix.ensures.value c.in-Ok.is (omega arith) c.format.ensures.text c.eq.ensures c.if-eq.true

pub returns : goal.returns
returns c = other c.from_str_radix.ensures.value c.in-Ok.is c.format.ensures.text c.eq.ensures c.if-eq.false
