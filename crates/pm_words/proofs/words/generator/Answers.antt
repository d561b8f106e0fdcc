use Rattle.std.proofs.Common.{[], ◌∷◌, codes, refl}
use Rattle.clap.specs.Words.{found_of}
use Rattle.pm_words.proofs.Values.{fails_at, other_by, said_by, size}
use Rattle.pm_words.proofs.words.generator.Goals as goal

pub returns-in_err-size : goal.returns-in_err-size
returns-in_err-size c words tells =
    let found = found_of c.args.values.now in
    rw c.from_residual.ensures (other_by words (codes "generate") found tells (λ ns ts read given. fails_at found [] size [] ns c.in_err-size.ensures read))

pub returns : goal.returns
returns c words tells =
    let is_size = (c.in_ok-size.ensures c.in_ok-size.size).0 refl in
    said_by words (codes "generate") (found_of c.args.values.now) tells (c.in_ok-size.size ∷ []) [] (is_size, tt) tt
