use Rattle.std.proofs.Common.{◌≡◌, ◌⊎◌, inl, inr, ⊎_elim, ◌∙◌, ◌++◌, ◌∷◌, [], ◌<◌, ◌^◌, ap, sym, subst, List, ℕ, Option, Some, None, arith}
use Rattle.pm_disk.specs.Disks.{Leaves}
use Rattle.pm_journal.specs.Journals.{StandsFor, StandsForAny, MayBeLost, noted, written}
use Rattle.pm_journal.specs.Notes.{Note}
use Rattle.pm_journal.proofs.Moments.{and_then, weakly}
use Rattle.pm_journal.proofs.Pieces.{piece_of_note, for_any, for_this}
use Rattle.pm_journal.proofs.journal.Journal.append.Goals as goal

pub returns-in-Ok-enter-clause-ok : goal.returns-in-Ok-enter-clause-ok
returns-in-Ok-enter-clause-ok g c tells =
    let D = g.D.Disk in
    let note : Note = written c.args.seat c.args.nth c.args.line.now in
    let piece : List ℕ = c.deref.result.now in
    let made = piece_of_note note piece (record { seat = omega (arith, c.ranges.seat.fits); nth = omega (arith, c.ranges.nth.fits); line = c.requires.line }) (c.deref.ensures.value ∙ c.in-Ok.ensures) in
    let settled = c.settle.ensures.kept tells in
    let lost_none = c.in-Ok-settle.ensures.ok in
    let ok = c.in-Ok-enter.ensures.ok tells in
    (ok.0 ∙ ap (λ (ns : List Note). ns ++ noted piece ∷ []) settled ∙ ap (λ (n : Note). c.args.self.now.kept ++ n ∷ []) made.note, ok.1)

pub returns-in-Ok-enter-clause-any_moment : goal.returns-in-Ok-enter-clause-any_moment
returns-in-Ok-enter-clause-any_moment g c tells =
    let D = g.D.Disk in
    let note : Note = written c.args.seat c.args.nth c.args.line.now in
    let piece : List ℕ = c.deref.result.now in
    let made = piece_of_note note piece (record { seat = omega (arith, c.ranges.seat.fits); nth = omega (arith, c.ranges.nth.fits); line = c.requires.line }) (c.deref.ensures.value ∙ c.in-Ok.ensures) in
    let settled = c.settle.ensures.kept tells in
    let lost_none = c.in-Ok-settle.ensures.ok in
    let before : Leaves D.moment D.left_since c.args.self.now.disk c.settle.new.self.disk (StandsForAny c.args.self.now.kept c.args.self.now.lost note) =
    weakly D.moment D.left_since c.args.self.now.disk c.settle.new.self.disk (StandsFor c.args.self.now.kept c.args.self.now.lost) (StandsForAny c.args.self.now.kept c.args.self.now.lost note) (λ f stands. inl stands) (c.settle.ensures.any_moment tells) in
    let entering : Leaves D.moment D.left_since c.settle.new.self.disk c.enter.new.self.disk (StandsFor c.args.self.now.kept (Some note)) =
    subst (λ (n : Note). Leaves D.moment D.left_since c.settle.new.self.disk c.enter.new.self.disk (StandsFor c.args.self.now.kept (Some n))) made.note
    (subst (λ (ns : List Note). Leaves D.moment D.left_since c.settle.new.self.disk c.enter.new.self.disk (StandsFor ns (Some (noted piece)))) settled (c.enter.ensures.any_moment tells)) in
    let after : Leaves D.moment D.left_since c.settle.new.self.disk c.enter.new.self.disk (StandsForAny c.args.self.now.kept c.args.self.now.lost note) =
    weakly D.moment D.left_since c.settle.new.self.disk c.enter.new.self.disk (StandsFor c.args.self.now.kept (Some note)) (StandsForAny c.args.self.now.kept c.args.self.now.lost note) (for_this c.args.self.now.kept c.args.self.now.lost note) entering in
    and_then D.moment D.left_since c.args.self.now.disk c.settle.new.self.disk c.enter.new.self.disk (StandsForAny c.args.self.now.kept c.args.self.now.lost note) before after

pub returns-clause-err : goal.returns-clause-err
returns-clause-err g c tells =
    let D = g.D.Disk in
    let note : Note = written c.args.seat c.args.nth c.args.line.now in
    let piece : List ℕ = c.deref.result.now in
    let made = piece_of_note note piece (record { seat = omega (arith, c.ranges.seat.fits); nth = omega (arith, c.ranges.nth.fits); line = c.requires.line }) (c.deref.ensures.value ∙ c.in-Ok.ensures) in
    let settled = c.settle.ensures.kept tells in
    let lost_none = c.in-Ok-settle.ensures.ok in
    let err = c.in-Err-enter.ensures.err tells in
    (err.0 ∙ settled, ⊎_elim (λ none. inl none) (λ this. inr (inr (this ∙ ap (λ (n : Note). Some n) made.note))) err.1)

pub returns-clause-any_moment : goal.returns-clause-any_moment
returns-clause-any_moment g c tells =
    let D = g.D.Disk in
    let note : Note = written c.args.seat c.args.nth c.args.line.now in
    let piece : List ℕ = c.deref.result.now in
    let made = piece_of_note note piece (record { seat = omega (arith, c.ranges.seat.fits); nth = omega (arith, c.ranges.nth.fits); line = c.requires.line }) (c.deref.ensures.value ∙ c.in-Ok.ensures) in
    let settled = c.settle.ensures.kept tells in
    let lost_none = c.in-Ok-settle.ensures.ok in
    let before : Leaves D.moment D.left_since c.args.self.now.disk c.settle.new.self.disk (StandsForAny c.args.self.now.kept c.args.self.now.lost note) =
    weakly D.moment D.left_since c.args.self.now.disk c.settle.new.self.disk (StandsFor c.args.self.now.kept c.args.self.now.lost) (StandsForAny c.args.self.now.kept c.args.self.now.lost note) (λ f stands. inl stands) (c.settle.ensures.any_moment tells) in
    let entering : Leaves D.moment D.left_since c.settle.new.self.disk c.enter.new.self.disk (StandsFor c.args.self.now.kept (Some note)) =
    subst (λ (n : Note). Leaves D.moment D.left_since c.settle.new.self.disk c.enter.new.self.disk (StandsFor c.args.self.now.kept (Some n))) made.note
    (subst (λ (ns : List Note). Leaves D.moment D.left_since c.settle.new.self.disk c.enter.new.self.disk (StandsFor ns (Some (noted piece)))) settled (c.enter.ensures.any_moment tells)) in
    let after : Leaves D.moment D.left_since c.settle.new.self.disk c.enter.new.self.disk (StandsForAny c.args.self.now.kept c.args.self.now.lost note) =
    weakly D.moment D.left_since c.settle.new.self.disk c.enter.new.self.disk (StandsFor c.args.self.now.kept (Some note)) (StandsForAny c.args.self.now.kept c.args.self.now.lost note) (for_this c.args.self.now.kept c.args.self.now.lost note) entering in
    and_then D.moment D.left_since c.args.self.now.disk c.settle.new.self.disk c.enter.new.self.disk (StandsForAny c.args.self.now.kept c.args.self.now.lost note) before after

pub returns-in-Err-clause-any_moment : goal.returns-in-Err-clause-any_moment
returns-in-Err-clause-any_moment g c tells =
    let D = g.D.Disk in
    let note : Note = written c.args.seat c.args.nth c.args.line.now in
    weakly D.moment D.left_since c.args.self.now.disk c.settle.new.self.disk (StandsFor c.args.self.now.kept c.args.self.now.lost) (StandsForAny c.args.self.now.kept c.args.self.now.lost note)
    (for_any c.args.self.now.kept c.args.self.now.lost note) (c.settle.ensures.any_moment tells)

pub enter-requires-clause-piece : goal.enter-requires-clause-piece
enter-requires-clause-piece g c =
    let note : Note = written c.args.seat c.args.nth c.args.line.now in
    (piece_of_note note c.deref.result.now (record { seat = omega (arith, c.ranges.seat.fits); nth = omega (arith, c.ranges.nth.fits); line = c.requires.line }) (c.deref.ensures.value ∙ c.in-Ok.ensures)).is
