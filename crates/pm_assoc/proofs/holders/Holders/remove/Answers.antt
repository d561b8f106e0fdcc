use Rattle.std.proofs.Common.{◌≡◌, ◌∙◌, ◌<◌, ◌/◌, ◌*◌, true, vec_len, sym, arith, inl, inr}
use Rattle.std.proofs.lemmas.Bool.{cases_lt}
use Rattle.pm_assoc.specs.Holders.{in_set}
use Rattle.pm_assoc.proofs.SetBits.{within_set}
use Rattle.pm_assoc.proofs.Counts.{count-ahead, count-behind, taken, gone}
use Rattle.pm_assoc.proofs.holders.Holders.remove.Goals as goal

pub lower-requires : goal.lower-requires
lower-requires c k behind within =
    let h = c.self.inside in
    let n = c.args.number in
    let old = in_set h.words.items in
    let new = in_set c.clear_bit.new.words.items in
    let had : old n ≡ true = rw (← c.as_slice.ensures.value) (sym c.has_bit.ensures ∙ c.if-not-has_bit.false) in
    let counted = c.self.invariant.counts k (omega (arith, within, c.self.invariant.long)) in
    let more = count-behind new old n (taken old new n had c.clear_bit.ensures.cleared) (gone old new n c.clear_bit.ensures.cleared) (64 * k) (omega (arith, behind)) in
    omega (arith, counted, more)

pub overflow_sub-self : goal.overflow_sub-self
overflow_sub-self c =
    let h = c.self.inside in
    let n = c.args.number in
    let old = in_set h.words.items in
    let new = in_set c.clear_bit.new.words.items in
    let had : old n ≡ true = rw (← c.as_slice.ensures.value) (sym c.has_bit.ensures ∙ c.if-not-has_bit.false) in
    let within = within_set h.words.items n had in
    let end : n < 64 * vec_len h.words = omega (arith, within, h.words.ok.0) in
    let more = count-behind new old n (taken old new n had c.clear_bit.ensures.cleared) (gone old new n c.clear_bit.ensures.cleared) (64 * vec_len h.words) end in
    omega (arith, c.self.invariant.all, more)

pub invariant_of-self : goal.invariant_of-self
invariant_of-self c =
    let h = c.self.inside in
    let n = c.args.number in
    let old = in_set h.words.items in
    let new = in_set c.clear_bit.new.words.items in
    let had : old n ≡ true = rw (← c.as_slice.ensures.value) (sym c.has_bit.ensures ∙ c.if-not-has_bit.false) in
    let within = within_set h.words.items n had in
    let end : n < 64 * vec_len h.words = omega (arith, within, h.words.ok.0) in
    let made = taken old new n had c.clear_bit.ensures.cleared in
    let none = gone old new n c.clear_bit.ensures.cleared in
    record {
      long = omega (arith, c.lower.ensures.long, c.clear_bit.ensures.long, c.self.invariant.long);
      few = omega (arith, c.clear_bit.ensures.long, c.self.invariant.few);
      counts = λ k l.
          let inside : k < vec_len h.words = omega (arith, l, c.clear_bit.ensures.long) in
          let was = c.self.invariant.counts k inside in
          elim (cases_lt (n / 64) k) [
            | inl past ↦
                let lowered = c.lower.ensures.behind k (omega (arith, past)) (omega (arith, inside, c.self.invariant.long)) in
                let more = count-behind new old n made none (64 * k) (omega (arith, past)) in
                omega (arith, lowered, was, more)
            | inr most ↦
                c.lower.ensures.ahead k (omega (arith, most)) ∙ was ∙ count-ahead new old n made (64 * k) (omega (arith, most))
          ];
      all =
          let more = count-behind new old n made none (64 * vec_len h.words) end in
          rw c.clear_bit.ensures.long (omega (arith, c.self.invariant.all, more));
    }
