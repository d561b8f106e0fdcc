use Rattle.std.proofs.Common.{◌≡◌, ◌∙◌, ◌<◌, ◌/◌, ◌*◌, ◌%◌, ◌^◌, length, vec_len, get_or, count_ones, sym, ap, arith}
use Rattle.std.proofs.lemmas.List.{get_or_read}
use Rattle.pm_assoc.specs.Holders.{in_set, count_below}
use Rattle.pm_assoc.proofs.Counts.{by_word, by_all}
use Rattle.pm_assoc.proofs.holders.Holders.place.Goals as goal

pub returns-then-k-len : goal.returns-then-k-len
returns-then-k-len c =
    let h = c.self.inside in
    let long : vec_len h.words ≡ length h.words.items = omega (arith, h.words.ok.0) in
    rw (← c.self.view_is, c.self.invariant.all, long)
    (sym (by_all h.words.items c.args.number (omega (arith, long, c.len.ensures, c.if-k-len.true))))

pub returns : goal.returns
returns c =
    let h = c.self.inside in
    let n = c.args.number in
    let long : vec_len h.words ≡ length h.words.items = omega (arith, h.words.ok.0) in
    let within : n / 64 < length h.words.items = omega (arith, long, c.len.ensures, c.if-k-len.false) in
    let counted : n / 64 < length h.before.items = omega (arith, long, within, c.self.invariant.long, h.before.ok.0) in
    let count : c.index.result.now ≡ get_or h.before.items (n / 64) 0 = get_or_read h.before.items (n / 64) _ counted c.index.ensures 0 in
    let word : c.index-2.result.now ≡ get_or h.words.items (n / 64) 0 = get_or_read h.words.items (n / 64) _ within c.index-2.ensures 0 in
    let ahead : c.index.result.now ≡ count_below (in_set h.words.items) (64 * (n / 64)) = count ∙ c.self.invariant.counts (n / 64) (omega (arith, within, long)) in
    let beside : c.lower_in.result ≡ count_ones (get_or h.words.items (n / 64) 0 % 2 ^ (n % 64)) = c.lower_in.ensures ∙ ap (λ w. count_ones (w % 2 ^ (n % 64))) word in
    rw (← c.self.view_is, ahead, beside) (sym (by_word h.words.items n))
