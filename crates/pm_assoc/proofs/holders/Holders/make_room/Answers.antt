use Rattle.std.proofs.Common.{◌≡◌, ◌∙◌, ◌≤◌, ◌/◌, ◌*◌, ◌+◌, ℕ, vec_len, ap, sym, arith, inl, inr}
use Rattle.std.proofs.lemmas.Bool.{cases_lt}
use Rattle.pm_assoc.specs.Holders.{in_set, count_below}
use Rattle.pm_assoc.proofs.SetBits.{past_set}
use Rattle.pm_assoc.proofs.Counts.{count-le, count-same, count-past}
use Rattle.pm_assoc.proofs.holders.Holders.make_room.Goals as goal

pub overflow_cast-self-inside : goal.overflow_cast-self-inside
overflow_cast-self-inside c =
    let few = count-le (in_set c.self.inside.words.items) (64 * vec_len c.self.inside.words) in
    omega (arith, c.self.invariant.all, few, c.if-n-len.false, c.len.ensures, c.ranges.number.fits)

pub invariant_of-self-2 : goal.invariant_of-self-2
invariant_of-self-2 c =
    let h = c.self.inside in
    let old = in_set h.words.items in
    let new = in_set c.lengthen.new.words.items in
    let same : (q : ℕ) → old q ≡ new q = λ q. sym (c.lengthen.ensures.same q ∙ ap (λ ws. in_set ws q) c.in_ok-reserve.ensures.items) in
    let longer : c.args.number / 64 + 1 ≡ vec_len c.lengthen.new.words =
    omega (arith, c.lengthen.ensures.long, c.in_ok-reserve.ensures.len, c.if-n-len.false, c.len.ensures) in
    let least : vec_len h.words ≤ vec_len c.lengthen.new.words = omega (arith, c.lengthen.ensures.long, c.in_ok-reserve.ensures.len) in
    let past : (m : ℕ) → vec_len h.words ≤ m → count_below old (64 * m) ≡ count_below old (64 * vec_len h.words) =
    λ m l. count-past old (64 * vec_len h.words) (64 * m) (λ q far. past_set h.words.items q (omega (arith, far, h.words.ok.0))) (omega (arith, l)) in
    let all : (m : ℕ) → vec_len h.words ≤ m → h.count ≡ count_below new (64 * m) =
    λ m l. c.self.invariant.all ∙ sym (past m l) ∙ count-same old new (64 * m) (λ q b. same q) in
    record {
      long = omega (arith, c.lengthen.ensures.long, c.lengthen_counts.ensures.long, c.in_ok-reserve.ensures.len, c.in_ok-reserve-2.ensures.len, c.self.invariant.long);
      few = omega (arith, longer, c.ranges.number.fits);
      counts = λ k l. elim (cases_lt k (vec_len h.words)) [
        | inl there ↦
            c.lengthen_counts.ensures.ahead k (omega (arith, there, c.in_ok-reserve-2.ensures.len, c.self.invariant.long))
            ∙ rw c.in_ok-reserve-2.ensures.items (c.self.invariant.counts k there)
            ∙ count-same old new (64 * k) (λ q b. same q)
        | inr behind ↦
            c.lengthen_counts.ensures.behind k (omega (arith, behind, c.in_ok-reserve-2.ensures.len, c.self.invariant.long)) (omega (arith, l, longer)) ∙ all k behind
      ];
      all = all (vec_len c.lengthen.new.words) least;
    }
