use Rattle.std.proofs.Common.{◌≡◌, ◌∙◌, ◌<◌, ◌/◌, ◌*◌, false, length, vec_len, sym, arith, inl, inr}
use Rattle.std.proofs.lemmas.Bool.{cases_lt}
use Rattle.pm_assoc.specs.Holders.{in_set}
use Rattle.pm_assoc.proofs.Counts.{count-le, count-ahead, count-behind}
use Rattle.pm_assoc.proofs.holders.Holders.insert.Goals as goal

pub raise-requires : goal.raise-requires
raise-requires c k behind within =
    let counted = c.self.invariant.counts k (omega (arith, within, c.self.invariant.long)) in
    let few = count-le (in_set c.self.inside.words.items) (64 * k) in
    omega (arith, counted, few, within, c.self.invariant.long, c.self.invariant.few)

pub overflow_add-self : goal.overflow_add-self
overflow_add-self c =
    let few = count-le (in_set c.self.inside.words.items) (64 * vec_len c.self.inside.words) in
    omega (arith, c.self.invariant.all, few, c.self.invariant.few)

pub invariant_of-self : goal.invariant_of-self
invariant_of-self c =
    let h = c.self.inside in
    let n = c.args.number in
    let old = in_set h.words.items in
    let new = in_set c.set_bit.new.words.items in
    let none : old n ≡ false = rw (← c.as_slice.ensures.value) (sym c.has_bit.ensures ∙ c.if-has_bit.false) in
    let within : n / 64 < length h.words.items = rw (← c.self.view_is) at c.requires in
    let end : n < 64 * vec_len h.words = omega (arith, within, h.words.ok.0) in
    record {
      long = omega (arith, c.raise.ensures.long, c.set_bit.ensures.long, c.self.invariant.long);
      few = omega (arith, c.set_bit.ensures.long, c.self.invariant.few);
      counts = λ k l.
          let inside : k < vec_len h.words = omega (arith, l, c.set_bit.ensures.long) in
          let was = c.self.invariant.counts k inside in
          elim (cases_lt (n / 64) k) [
            | inl past ↦
                let raised = c.raise.ensures.behind k (omega (arith, past)) (omega (arith, inside, c.self.invariant.long)) in
                let more = count-behind old new n c.set_bit.ensures.set none (64 * k) (omega (arith, past)) in
                omega (arith, raised, was, more)
            | inr most ↦
                c.raise.ensures.ahead k (omega (arith, most)) ∙ was ∙ sym (count-ahead old new n c.set_bit.ensures.set (64 * k) (omega (arith, most)))
          ];
      all =
          let more = count-behind old new n c.set_bit.ensures.set none (64 * vec_len h.words) end in
          rw c.set_bit.ensures.long (omega (arith, c.self.invariant.all, more));
    }
