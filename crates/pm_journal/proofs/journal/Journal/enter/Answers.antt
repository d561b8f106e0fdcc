use Rattle.std.proofs.Common.{rules, ◌≡◌, ◌<◌, ◌≤◌, ◌⊎◌, inl, inr, ◌∙◌, ◌+◌, ◌-◌, zero, ap, sym, subst, arith, List, ◌++◌, ◌∷◌, [], ℕ, Option, None, Some, length, take, drop}
use Rattle.pm_disk.specs.Disks.{Each, Leaves}
use Rattle.pm_journal.specs.Images.{Rests, Doubts}
use Rattle.pm_journal.specs.Notes.{Note}
use Rattle.pm_journal.specs.Journals.{IsSound, IsPlaced, StandsFor, kept_in, lost_in, noted}
use Rattle.pm_journal.proofs.Moments.{and_then, weakly}
use Rattle.pm_journal.proofs.Sound.{no_doubt, stage_failed, stage_done, turn_failed, turn_done, rests_for, doubts_for, piece_size}
use Rattle.pm_journal.proofs.Results.{on_err}
use Rattle.pm_journal.proofs.journal.Journal.enter.Goals as goal

pub invariant_of-self : goal.invariant_of-self
invariant_of-self g c =
    let j = c.self.inside in
    let room : j.count < 262144 = omega (arith, ap (λ v. v.count) c.self.view_is, c.requires.room) in
    let D = g.D.Disk in
    let c0 = D.content j.disk in
    let may0 = D.may_leave j.disk in
    let piece = c.args.piece.now in
    let start = take j.end c0 in
    let b = take (length piece - 1) piece in
    let n0 : j.doubt ≡ 0 = no_doubt j.doubt (drop (j.end + 1) c0) (ap (λ v. v.lost) c.self.view_is ∙ c.requires.settled) in (
      c.self.invariant.0,
      λ tells.
          let sound = subst (λ (n : ℕ). IsSound c0 may0 j.end j.count n) n0 (c.self.invariant.1 tells) in
          let c1 = D.content c.stage.new.disk in
          let may1 = D.may_leave c.stage.new.disk in
          let shut = c.stage.ensures.shut tells start sound.images in
          let failed = stage_failed j.end j.count c0 piece may0 sound c.requires.piece room may1 c1 shut.0 (g.met.D.Disk.is_image c.stage.new.disk tells) in
          subst (λ (n : ℕ). IsSound c1 may1 j.end j.count n) (sym n0) failed.0,
    )

pub returns-in_err-stage-clause-err : goal.returns-in_err-stage-clause-err
returns-in_err-stage-clause-err g c tells =
    let j = c.self.inside in
    let room : j.count < 262144 = omega (arith, ap (λ v. v.count) c.self.view_is, c.requires.room) in
    let D = g.D.Disk in
    let c0 = D.content j.disk in
    let may0 = D.may_leave j.disk in
    let piece = c.args.piece.now in
    let start = take j.end c0 in
    let b = take (length piece - 1) piece in
    let n0 : j.doubt ≡ 0 = no_doubt j.doubt (drop (j.end + 1) c0) (ap (λ v. v.lost) c.self.view_is ∙ c.requires.settled) in
    let sound = subst (λ (n : ℕ). IsSound c0 may0 j.end j.count n) n0 (c.self.invariant.1 tells) in
    let c1 = D.content c.stage.new.disk in
    let may1 = D.may_leave c.stage.new.disk in
    let shut = c.stage.ensures.shut tells start sound.images in
    let kept_is : kept_in j.count start ≡ c.args.self.now.kept = ap (λ v. v.kept) c.self.view_is in
    let failed = stage_failed j.end j.count c0 piece may0 sound c.requires.piece room may1 c1 shut.0 (g.met.D.Disk.is_image c.stage.new.disk tells) in
    on_err c.from_residual.result (failed.1 ∙ kept_is, inl (ap (λ (n : ℕ). lost_in n (drop (j.end + 1) c1)) n0))

pub returns-in_err-stage-clause-any_moment : goal.returns-in_err-stage-clause-any_moment
returns-in_err-stage-clause-any_moment g c tells =
    let j = c.self.inside in
    let room : j.count < 262144 = omega (arith, ap (λ v. v.count) c.self.view_is, c.requires.room) in
    let D = g.D.Disk in
    let c0 = D.content j.disk in
    let may0 = D.may_leave j.disk in
    let piece = c.args.piece.now in
    let start = take j.end c0 in
    let b = take (length piece - 1) piece in
    let n0 : j.doubt ≡ 0 = no_doubt j.doubt (drop (j.end + 1) c0) (ap (λ v. v.lost) c.self.view_is ∙ c.requires.settled) in
    let sound = subst (λ (n : ℕ). IsSound c0 may0 j.end j.count n) n0 (c.self.invariant.1 tells) in
    let c1 = D.content c.stage.new.disk in
    let may1 = D.may_leave c.stage.new.disk in
    let shut = c.stage.ensures.shut tells start sound.images in
    let kept_is : kept_in j.count start ≡ c.args.self.now.kept = ap (λ v. v.kept) c.self.view_is in
    let disk_is : j.disk ≡ c.args.self.now.disk = ap (λ v. v.disk) c.self.view_is in
    let for_rests : (f : List ℕ) → Rests j.end start f → StandsFor (kept_in j.count start) (Some (noted piece)) f = rests_for j.end j.count c0 piece may0 sound c.requires.piece room in
    let first : Leaves D.moment D.left_since j.disk c.stage.new.disk (StandsFor (kept_in j.count start) (Some (noted piece))) = weakly D.moment D.left_since j.disk c.stage.new.disk (Rests j.end start) (StandsFor (kept_in j.count start) (Some (noted piece))) for_rests shut.1 in
    subst (λ (ns : List Note). Leaves D.moment D.left_since c.args.self.now.disk c.stage.new.disk (StandsFor ns (Some (noted piece)))) kept_is (subst (λ d. Leaves D.moment D.left_since d c.stage.new.disk (StandsFor (kept_in j.count start) (Some (noted piece)))) disk_is first)

pub invariant_of-self-in-Ok : goal.invariant_of-self-in-Ok
invariant_of-self-in-Ok g c =
    let j = c.self.inside in
    let room : j.count < 262144 = omega (arith, ap (λ v. v.count) c.self.view_is, c.requires.room) in
    let D = g.D.Disk in
    let c0 = D.content j.disk in
    let may0 = D.may_leave j.disk in
    let piece = c.args.piece.now in
    let start = take j.end c0 in
    let b = take (length piece - 1) piece in
    let n0 : j.doubt ≡ 0 = no_doubt j.doubt (drop (j.end + 1) c0) (ap (λ v. v.lost) c.self.view_is ∙ c.requires.settled) in
    let placed = c.self.invariant.0 in
    let count_is : j.count ≡ c.args.self.now.count = ap (λ v. v.count) c.self.view_is in (
      record { end = omega (arith, placed.end, c.requires.short); count = omega (arith, count_is, c.requires.room); doubt = placed.doubt },
      λ tells.
          let sound = subst (λ (n : ℕ). IsSound c0 may0 j.end j.count n) n0 (c.self.invariant.1 tells) in
          let c1 = D.content c.stage.new.disk in
          let may1 = D.may_leave c.stage.new.disk in
          let shut = c.stage.ensures.shut tells start sound.images in
          let doubts = stage_done j.end j.count c0 piece may0 sound c.requires.piece room c1 may1 (g.met.D.Disk.is_image j.disk tells) (c.in_ok-stage.ensures.written tells) (c.in_ok-stage.ensures.durable tells) in
          let c2 = D.content c.turn.new.disk in
          let may2 = D.may_leave c.turn.new.disk in
          let turned = c.turn.ensures.doubt tells start b doubts.1 in
          let now = g.met.D.Disk.is_image c.turn.new.disk tells in
          let done = turn_done j.end j.count c0 piece may0 sound c.requires.piece room c1 c2 may2 doubts.0 (c.in-Ok.ensures.written tells) (c.in-Ok.ensures.durable tells) now in
          subst (λ (n : ℕ). IsSound c2 may2 (j.end + length piece) (j.count + 1) n) (sym n0) done.0,
    )

pub invariant_of-self-in-Err : goal.invariant_of-self-in-Err
invariant_of-self-in-Err g c =
    let j = c.self.inside in
    let room : j.count < 262144 = omega (arith, ap (λ v. v.count) c.self.view_is, c.requires.room) in
    let D = g.D.Disk in
    let c0 = D.content j.disk in
    let may0 = D.may_leave j.disk in
    let piece = c.args.piece.now in
    let start = take j.end c0 in
    let b = take (length piece - 1) piece in
    let n0 : j.doubt ≡ 0 = no_doubt j.doubt (drop (j.end + 1) c0) (ap (λ v. v.lost) c.self.view_is ∙ c.requires.settled) in
    let placed = c.self.invariant.0 in (
      record { end = placed.end; count = placed.count; doubt = c.requires.short },
      λ tells.
          let sound = subst (λ (n : ℕ). IsSound c0 may0 j.end j.count n) n0 (c.self.invariant.1 tells) in
          let c1 = D.content c.stage.new.disk in
          let may1 = D.may_leave c.stage.new.disk in
          let shut = c.stage.ensures.shut tells start sound.images in
          let doubts = stage_done j.end j.count c0 piece may0 sound c.requires.piece room c1 may1 (g.met.D.Disk.is_image j.disk tells) (c.in_ok-stage.ensures.written tells) (c.in_ok-stage.ensures.durable tells) in
          let c2 = D.content c.turn.new.disk in
          let may2 = D.may_leave c.turn.new.disk in
          let turned = c.turn.ensures.doubt tells start b doubts.1 in
          let now = g.met.D.Disk.is_image c.turn.new.disk tells in
          let failed = turn_failed j.end j.count c0 piece may0 sound c.requires.piece room may2 c2 turned.0 now in
          failed.0,
    )

pub returns-in-Ok-clause-ok : goal.returns-in-Ok-clause-ok
returns-in-Ok-clause-ok g c tells =
    let j = c.self.inside in
    let room : j.count < 262144 = omega (arith, ap (λ v. v.count) c.self.view_is, c.requires.room) in
    let D = g.D.Disk in
    let c0 = D.content j.disk in
    let may0 = D.may_leave j.disk in
    let piece = c.args.piece.now in
    let start = take j.end c0 in
    let b = take (length piece - 1) piece in
    let n0 : j.doubt ≡ 0 = no_doubt j.doubt (drop (j.end + 1) c0) (ap (λ v. v.lost) c.self.view_is ∙ c.requires.settled) in
    let sound = subst (λ (n : ℕ). IsSound c0 may0 j.end j.count n) n0 (c.self.invariant.1 tells) in
    let c1 = D.content c.stage.new.disk in
    let may1 = D.may_leave c.stage.new.disk in
    let shut = c.stage.ensures.shut tells start sound.images in
    let kept_is : kept_in j.count start ≡ c.args.self.now.kept = ap (λ v. v.kept) c.self.view_is in
    let doubts = stage_done j.end j.count c0 piece may0 sound c.requires.piece room c1 may1 (g.met.D.Disk.is_image j.disk tells) (c.in_ok-stage.ensures.written tells) (c.in_ok-stage.ensures.durable tells) in
    let c2 = D.content c.turn.new.disk in
    let may2 = D.may_leave c.turn.new.disk in
    let turned = c.turn.ensures.doubt tells start b doubts.1 in
    let now = g.met.D.Disk.is_image c.turn.new.disk tells in
    let done = turn_done j.end j.count c0 piece may0 sound c.requires.piece room c1 c2 may2 doubts.0 (c.in-Ok.ensures.written tells) (c.in-Ok.ensures.durable tells) now in
    (subst (λ (ns : List Note). kept_in (j.count + 1) (take (j.end + length piece) c2) ≡ ns ++ noted piece ∷ []) kept_is done.1, ap (λ (n : ℕ). lost_in n (drop (j.end + length piece + 1) c2)) n0)

pub returns-in-Ok-clause-any_moment : goal.returns-in-Ok-clause-any_moment
returns-in-Ok-clause-any_moment g c tells =
    let j = c.self.inside in
    let room : j.count < 262144 = omega (arith, ap (λ v. v.count) c.self.view_is, c.requires.room) in
    let D = g.D.Disk in
    let c0 = D.content j.disk in
    let may0 = D.may_leave j.disk in
    let piece = c.args.piece.now in
    let start = take j.end c0 in
    let b = take (length piece - 1) piece in
    let n0 : j.doubt ≡ 0 = no_doubt j.doubt (drop (j.end + 1) c0) (ap (λ v. v.lost) c.self.view_is ∙ c.requires.settled) in
    let sound = subst (λ (n : ℕ). IsSound c0 may0 j.end j.count n) n0 (c.self.invariant.1 tells) in
    let c1 = D.content c.stage.new.disk in
    let may1 = D.may_leave c.stage.new.disk in
    let shut = c.stage.ensures.shut tells start sound.images in
    let kept_is : kept_in j.count start ≡ c.args.self.now.kept = ap (λ v. v.kept) c.self.view_is in
    let disk_is : j.disk ≡ c.args.self.now.disk = ap (λ v. v.disk) c.self.view_is in
    let doubts = stage_done j.end j.count c0 piece may0 sound c.requires.piece room c1 may1 (g.met.D.Disk.is_image j.disk tells) (c.in_ok-stage.ensures.written tells) (c.in_ok-stage.ensures.durable tells) in
    let c2 = D.content c.turn.new.disk in
    let may2 = D.may_leave c.turn.new.disk in
    let turned = c.turn.ensures.doubt tells start b doubts.1 in
    let now = g.met.D.Disk.is_image c.turn.new.disk tells in
    let for_rests : (f : List ℕ) → Rests j.end start f → StandsFor (kept_in j.count start) (Some (noted piece)) f = rests_for j.end j.count c0 piece may0 sound c.requires.piece room in
    let first : Leaves D.moment D.left_since j.disk c.stage.new.disk (StandsFor (kept_in j.count start) (Some (noted piece))) = weakly D.moment D.left_since j.disk c.stage.new.disk (Rests j.end start) (StandsFor (kept_in j.count start) (Some (noted piece))) for_rests shut.1 in
    let for_doubts : (f : List ℕ) → Doubts j.end start b f → StandsFor (kept_in j.count start) (Some (noted piece)) f = doubts_for j.end j.count c0 piece may0 sound c.requires.piece room in
    let second : Leaves D.moment D.left_since c.stage.new.disk c.turn.new.disk (StandsFor (kept_in j.count start) (Some (noted piece))) = weakly D.moment D.left_since c.stage.new.disk c.turn.new.disk (Doubts j.end start b) (StandsFor (kept_in j.count start) (Some (noted piece))) for_doubts turned.1 in
    let both = and_then D.moment D.left_since j.disk c.stage.new.disk c.turn.new.disk (StandsFor (kept_in j.count start) (Some (noted piece))) first second in
    subst (λ (ns : List Note). Leaves D.moment D.left_since c.args.self.now.disk c.turn.new.disk (StandsFor ns (Some (noted piece)))) kept_is (subst (λ d. Leaves D.moment D.left_since d c.turn.new.disk (StandsFor (kept_in j.count start) (Some (noted piece)))) disk_is both)

pub returns-in-Err-clause-err : goal.returns-in-Err-clause-err
returns-in-Err-clause-err g c tells =
    let j = c.self.inside in
    let room : j.count < 262144 = omega (arith, ap (λ v. v.count) c.self.view_is, c.requires.room) in
    let D = g.D.Disk in
    let c0 = D.content j.disk in
    let may0 = D.may_leave j.disk in
    let piece = c.args.piece.now in
    let start = take j.end c0 in
    let b = take (length piece - 1) piece in
    let n0 : j.doubt ≡ 0 = no_doubt j.doubt (drop (j.end + 1) c0) (ap (λ v. v.lost) c.self.view_is ∙ c.requires.settled) in
    let sound = subst (λ (n : ℕ). IsSound c0 may0 j.end j.count n) n0 (c.self.invariant.1 tells) in
    let c1 = D.content c.stage.new.disk in
    let may1 = D.may_leave c.stage.new.disk in
    let shut = c.stage.ensures.shut tells start sound.images in
    let kept_is : kept_in j.count start ≡ c.args.self.now.kept = ap (λ v. v.kept) c.self.view_is in
    let doubts = stage_done j.end j.count c0 piece may0 sound c.requires.piece room c1 may1 (g.met.D.Disk.is_image j.disk tells) (c.in_ok-stage.ensures.written tells) (c.in_ok-stage.ensures.durable tells) in
    let c2 = D.content c.turn.new.disk in
    let may2 = D.may_leave c.turn.new.disk in
    let turned = c.turn.ensures.doubt tells start b doubts.1 in
    let now = g.met.D.Disk.is_image c.turn.new.disk tells in
    let failed = turn_failed j.end j.count c0 piece may0 sound c.requires.piece room may2 c2 turned.0 now in
    (failed.1 ∙ kept_is, inr failed.2)

pub returns-in-Err-clause-any_moment : goal.returns-in-Err-clause-any_moment
returns-in-Err-clause-any_moment g c tells =
    let j = c.self.inside in
    let room : j.count < 262144 = omega (arith, ap (λ v. v.count) c.self.view_is, c.requires.room) in
    let D = g.D.Disk in
    let c0 = D.content j.disk in
    let may0 = D.may_leave j.disk in
    let piece = c.args.piece.now in
    let start = take j.end c0 in
    let b = take (length piece - 1) piece in
    let n0 : j.doubt ≡ 0 = no_doubt j.doubt (drop (j.end + 1) c0) (ap (λ v. v.lost) c.self.view_is ∙ c.requires.settled) in
    let sound = subst (λ (n : ℕ). IsSound c0 may0 j.end j.count n) n0 (c.self.invariant.1 tells) in
    let c1 = D.content c.stage.new.disk in
    let may1 = D.may_leave c.stage.new.disk in
    let shut = c.stage.ensures.shut tells start sound.images in
    let kept_is : kept_in j.count start ≡ c.args.self.now.kept = ap (λ v. v.kept) c.self.view_is in
    let disk_is : j.disk ≡ c.args.self.now.disk = ap (λ v. v.disk) c.self.view_is in
    let doubts = stage_done j.end j.count c0 piece may0 sound c.requires.piece room c1 may1 (g.met.D.Disk.is_image j.disk tells) (c.in_ok-stage.ensures.written tells) (c.in_ok-stage.ensures.durable tells) in
    let c2 = D.content c.turn.new.disk in
    let may2 = D.may_leave c.turn.new.disk in
    let turned = c.turn.ensures.doubt tells start b doubts.1 in
    let now = g.met.D.Disk.is_image c.turn.new.disk tells in
    let for_rests : (f : List ℕ) → Rests j.end start f → StandsFor (kept_in j.count start) (Some (noted piece)) f = rests_for j.end j.count c0 piece may0 sound c.requires.piece room in
    let first : Leaves D.moment D.left_since j.disk c.stage.new.disk (StandsFor (kept_in j.count start) (Some (noted piece))) = weakly D.moment D.left_since j.disk c.stage.new.disk (Rests j.end start) (StandsFor (kept_in j.count start) (Some (noted piece))) for_rests shut.1 in
    let for_doubts : (f : List ℕ) → Doubts j.end start b f → StandsFor (kept_in j.count start) (Some (noted piece)) f = doubts_for j.end j.count c0 piece may0 sound c.requires.piece room in
    let second : Leaves D.moment D.left_since c.stage.new.disk c.turn.new.disk (StandsFor (kept_in j.count start) (Some (noted piece))) = weakly D.moment D.left_since c.stage.new.disk c.turn.new.disk (Doubts j.end start b) (StandsFor (kept_in j.count start) (Some (noted piece))) for_doubts turned.1 in
    let both = and_then D.moment D.left_since j.disk c.stage.new.disk c.turn.new.disk (StandsFor (kept_in j.count start) (Some (noted piece))) first second in
    subst (λ (ns : List Note). Leaves D.moment D.left_since c.args.self.now.disk c.turn.new.disk (StandsFor ns (Some (noted piece)))) kept_is (subst (λ d. Leaves D.moment D.left_since d c.turn.new.disk (StandsFor (kept_in j.count start) (Some (noted piece)))) disk_is both)
