use Rattle.std.proofs.Common.{rules, ◌≡◌, ◌<◌, ◌≤◌, ◌⊎◌, inl, inr, ◌∙◌, ◌+◌, ◌-◌, zero, suc, ap, sym, refl, subst, arith, List, ◌++◌, ◌∷◌, [], ℕ, Option, None, Some, length, take, drop}
use Rattle.pm_disk.specs.Disks.{Each, Leaves}
use Rattle.pm_journal.specs.Images.{Rests, Doubts}
use Rattle.pm_journal.specs.Notes.{Note, note_of}
use Rattle.pm_journal.specs.Journals.{IsSound, IsPlaced, StandsFor, kept_in, lost_in}
use Rattle.pm_journal.proofs.Moments.{started, weakly}
use Rattle.pm_journal.proofs.Results.{on_err}
use Rattle.pm_journal.proofs.Sound.{sound_stands, shut_failed, shut_done, doubted_for, one_less}
use Rattle.pm_journal.proofs.journal.Journal.settle.Goals as goal

-- no gate is in doubt
pub returns-then-self-eq0-clause-any_moment : goal.returns-then-self-eq0-clause-any_moment
returns-then-self-eq0-clause-any_moment g c tells =
    let j = c.self.inside in
    let D = g.D.Disk in
    let stands : Each (D.may_leave j.disk) (StandsFor c.args.self.now.kept c.args.self.now.lost) =
    rw (← c.self.view_is) (sound_stands j.end j.count j.doubt (D.content j.disk) (D.may_leave j.disk) (c.self.invariant.1 tells)) in
    let disk_is : j.disk ≡ c.args.self.now.disk = ap (λ v. v.disk) c.self.view_is in
    subst (λ d. Leaves D.moment D.left_since d d (StandsFor c.args.self.now.kept c.args.self.now.lost)) disk_is
    (started D.moment D.left_since j.disk (StandsFor c.args.self.now.kept c.args.self.now.lost) (λ f left. stands f (g.met.D.Disk.only_now j.disk f tells left)))

pub invariant_of-self : goal.invariant_of-self
invariant_of-self g c =
    let j = c.self.inside in
    let D = g.D.Disk in
    let c0 = D.content j.disk in
    let may0 = D.may_leave j.disk in
    let start = take j.end c0 in
    let m = j.doubt - 1 in
    let b = take m (drop (j.end + 1) c0) in
    let n0 : j.doubt ≡ suc m = one_less j.doubt c.if-self-eq0.false in (
      c.self.invariant.0,
      λ tells.
          let sound = subst (λ (n : ℕ). IsSound c0 may0 j.end j.count n) n0 (c.self.invariant.1 tells) in
          let c1 = D.content c.turn.new.disk in
          let may1 = D.may_leave c.turn.new.disk in
          let turned = c.turn.ensures.doubt tells start b sound.images.2 in
          let now = g.met.D.Disk.is_image c.turn.new.disk tells in
          let failed = shut_failed j.end j.count m c0 may0 sound may1 c1 turned.0 now in
          subst (λ (n : ℕ). IsSound c1 may1 j.end j.count n) (sym n0) failed.0,
    )

pub returns-in_err-turn-clause-kept : goal.returns-in_err-turn-clause-kept
returns-in_err-turn-clause-kept g c tells =
    let j = c.self.inside in
    let D = g.D.Disk in
    let c0 = D.content j.disk in
    let may0 = D.may_leave j.disk in
    let start = take j.end c0 in
    let m = j.doubt - 1 in
    let b = take m (drop (j.end + 1) c0) in
    let n0 : j.doubt ≡ suc m = one_less j.doubt c.if-self-eq0.false in
    let sound = subst (λ (n : ℕ). IsSound c0 may0 j.end j.count n) n0 (c.self.invariant.1 tells) in
    let c1 = D.content c.turn.new.disk in
    let may1 = D.may_leave c.turn.new.disk in
    let turned = c.turn.ensures.doubt tells start b sound.images.2 in
    let now = g.met.D.Disk.is_image c.turn.new.disk tells in
    let kept_is : kept_in j.count start ≡ c.args.self.now.kept = ap (λ v. v.kept) c.self.view_is in
    let lost_is : lost_in j.doubt (drop (j.end + 1) c0) ≡ c.args.self.now.lost = ap (λ v. v.lost) c.self.view_is in
    let failed = shut_failed j.end j.count m c0 may0 sound may1 c1 turned.0 now in
    failed.1 ∙ kept_is

pub returns-in_err-turn-clause-err : goal.returns-in_err-turn-clause-err
returns-in_err-turn-clause-err g c tells =
    let j = c.self.inside in
    let D = g.D.Disk in
    let c0 = D.content j.disk in
    let may0 = D.may_leave j.disk in
    let start = take j.end c0 in
    let m = j.doubt - 1 in
    let b = take m (drop (j.end + 1) c0) in
    let n0 : j.doubt ≡ suc m = one_less j.doubt c.if-self-eq0.false in
    let sound = subst (λ (n : ℕ). IsSound c0 may0 j.end j.count n) n0 (c.self.invariant.1 tells) in
    let c1 = D.content c.turn.new.disk in
    let may1 = D.may_leave c.turn.new.disk in
    let turned = c.turn.ensures.doubt tells start b sound.images.2 in
    let now = g.met.D.Disk.is_image c.turn.new.disk tells in
    let kept_is : kept_in j.count start ≡ c.args.self.now.kept = ap (λ v. v.kept) c.self.view_is in
    let lost_is : lost_in j.doubt (drop (j.end + 1) c0) ≡ c.args.self.now.lost = ap (λ v. v.lost) c.self.view_is in
    let failed = shut_failed j.end j.count m c0 may0 sound may1 c1 turned.0 now in
    on_err c.from_residual.result (ap (λ (n : ℕ). lost_in n (drop (j.end + 1) c1)) n0 ∙ failed.2 ∙ sym (ap (λ (n : ℕ). lost_in n (drop (j.end + 1) c0)) n0) ∙ lost_is)

pub returns-in_err-turn-clause-any_moment : goal.returns-in_err-turn-clause-any_moment
returns-in_err-turn-clause-any_moment g c tells =
    let j = c.self.inside in
    let D = g.D.Disk in
    let c0 = D.content j.disk in
    let may0 = D.may_leave j.disk in
    let start = take j.end c0 in
    let m = j.doubt - 1 in
    let b = take m (drop (j.end + 1) c0) in
    let n0 : j.doubt ≡ suc m = one_less j.doubt c.if-self-eq0.false in
    let sound = subst (λ (n : ℕ). IsSound c0 may0 j.end j.count n) n0 (c.self.invariant.1 tells) in
    let c1 = D.content c.turn.new.disk in
    let may1 = D.may_leave c.turn.new.disk in
    let turned = c.turn.ensures.doubt tells start b sound.images.2 in
    let now = g.met.D.Disk.is_image c.turn.new.disk tells in
    let kept_is : kept_in j.count start ≡ c.args.self.now.kept = ap (λ v. v.kept) c.self.view_is in
    let lost_is : lost_in j.doubt (drop (j.end + 1) c0) ≡ c.args.self.now.lost = ap (λ v. v.lost) c.self.view_is in
    let disk_is : j.disk ≡ c.args.self.now.disk = ap (λ v. v.disk) c.self.view_is in
    let lost_one : Some (note_of b) ≡ c.args.self.now.lost = sym (ap (λ (n : ℕ). lost_in n (drop (j.end + 1) c0)) n0) ∙ lost_is in
    let for_doubts : (f : List ℕ) → Doubts j.end start b f → StandsFor (kept_in j.count start) (Some (note_of b)) f = doubted_for j.end j.count m c0 may0 sound in
    let one : Leaves D.moment D.left_since j.disk c.turn.new.disk (StandsFor (kept_in j.count start) (Some (note_of b))) =
    weakly D.moment D.left_since j.disk c.turn.new.disk (Doubts j.end start b) (StandsFor (kept_in j.count start) (Some (note_of b))) for_doubts turned.1 in
    subst (λ d. Leaves D.moment D.left_since d c.turn.new.disk (StandsFor c.args.self.now.kept c.args.self.now.lost)) disk_is
    (subst (λ (l : Option Note). Leaves D.moment D.left_since j.disk c.turn.new.disk (StandsFor c.args.self.now.kept l)) lost_one
    (subst (λ (ns : List Note). Leaves D.moment D.left_since j.disk c.turn.new.disk (StandsFor ns (Some (note_of b)))) kept_is one))

pub returns-clause-any_moment : goal.returns-clause-any_moment
returns-clause-any_moment g c tells =
    let j = c.self.inside in
    let D = g.D.Disk in
    let c0 = D.content j.disk in
    let may0 = D.may_leave j.disk in
    let start = take j.end c0 in
    let m = j.doubt - 1 in
    let b = take m (drop (j.end + 1) c0) in
    let n0 : j.doubt ≡ suc m = one_less j.doubt c.if-self-eq0.false in
    let sound = subst (λ (n : ℕ). IsSound c0 may0 j.end j.count n) n0 (c.self.invariant.1 tells) in
    let c1 = D.content c.turn.new.disk in
    let may1 = D.may_leave c.turn.new.disk in
    let turned = c.turn.ensures.doubt tells start b sound.images.2 in
    let now = g.met.D.Disk.is_image c.turn.new.disk tells in
    let kept_is : kept_in j.count start ≡ c.args.self.now.kept = ap (λ v. v.kept) c.self.view_is in
    let lost_is : lost_in j.doubt (drop (j.end + 1) c0) ≡ c.args.self.now.lost = ap (λ v. v.lost) c.self.view_is in
    let disk_is : j.disk ≡ c.args.self.now.disk = ap (λ v. v.disk) c.self.view_is in
    let lost_one : Some (note_of b) ≡ c.args.self.now.lost = sym (ap (λ (n : ℕ). lost_in n (drop (j.end + 1) c0)) n0) ∙ lost_is in
    let for_doubts : (f : List ℕ) → Doubts j.end start b f → StandsFor (kept_in j.count start) (Some (note_of b)) f = doubted_for j.end j.count m c0 may0 sound in
    let one : Leaves D.moment D.left_since j.disk c.turn.new.disk (StandsFor (kept_in j.count start) (Some (note_of b))) =
    weakly D.moment D.left_since j.disk c.turn.new.disk (Doubts j.end start b) (StandsFor (kept_in j.count start) (Some (note_of b))) for_doubts turned.1 in
    subst (λ d. Leaves D.moment D.left_since d c.turn.new.disk (StandsFor c.args.self.now.kept c.args.self.now.lost)) disk_is
    (subst (λ (l : Option Note). Leaves D.moment D.left_since j.disk c.turn.new.disk (StandsFor c.args.self.now.kept l)) lost_one
    (subst (λ (ns : List Note). Leaves D.moment D.left_since j.disk c.turn.new.disk (StandsFor ns (Some (note_of b)))) kept_is one))
