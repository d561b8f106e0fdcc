-- The first line, where one is whole, and what is behind it.
use Rattle.std.proofs.Common.{◌≡◌, ◌≤◌, ℕ, List, [], ◌∷◌, ◌++◌, length, Bool, true, false, ◌==◌, Option, Some, None, refl, sym, ◌∙◌, ap, subst, arith, append_assoc, append-nil}
use Rattle.std.proofs.lemmas.Bool.{eqb-true}
use Rattle.pm_model.specs.Lines.{event_of, events, fit, shape, cut_from, cut}
use Rattle.pm_session.specs.Cuts.{HasNoFeed, IsCut, open_line}
use Rattle.pm_session.proofs.Feeds.{HasNoFeed-nil, HasNoFeed-head, HasNoFeed-tail, HasNoFeed-push, HasNoFeed-cons}
use Rattle.pm_session.proofs.Fitting.{HasNoFeed-fit, length-fit}
use Rattle.pm_session.proofs.Kept.{shape_from-line, events_from-line}
use Rattle.pm_session.proofs.OpenLine.{open_from-line, open_line-plain, fit-open_line}

cut_from-line : (begun line rest : List ℕ) → HasNoFeed line → cut_from begun (line ++ 10 ∷ rest) ≡ Some (begun ++ line, rest)
cut_from-line begun [] rest h = rw (append-nil begun) refl
cut_from-line begun (c ∷ cs) rest h =
    let no = HasNoFeed-head c cs h in rw no (cut_from-line (begun ++ c ∷ []) cs rest (HasNoFeed-tail c cs h) ∙ rw append_assoc refl)

cut_from-plain : (begun bytes : List ℕ) → HasNoFeed bytes → cut_from begun bytes ≡ None
cut_from-plain begun [] h = refl
cut_from-plain begun (c ∷ cs) h =
    let no = HasNoFeed-head c cs h in rw no (cut_from-plain (begun ++ c ∷ []) cs (HasNoFeed-tail c cs h))

-- a line, its line feed and what is behind it are cut there
pub cut-line : (bytes line rest : List ℕ) → IsCut bytes line rest → cut bytes ≡ Some (line, rest)
cut-line bytes line rest h = let e = h.split in rw e (cut_from-line [] line rest h.plain)

-- without a line feed there is no cut
pub cut-plain : (bytes : List ℕ) → HasNoFeed bytes → cut bytes ≡ None
cut-plain bytes h = cut_from-plain [] bytes h

IsCut-cut_from-by : (b : Bool) (begun : List ℕ) (c : ℕ) (cs : List ℕ) (p : List ℕ × List ℕ) → HasNoFeed begun → (c == 10) ≡ b
    → cut_from begun (c ∷ cs) ≡ Some p
    → (HasNoFeed (begun ++ c ∷ []) → cut_from (begun ++ c ∷ []) cs ≡ Some p → IsCut ((begun ++ c ∷ []) ++ cs) p.0 p.1)
    → IsCut (begun ++ c ∷ cs) p.0 p.1
IsCut-cut_from-by true begun c cs p h t e next =
    let found : Some (begun, cs) ≡ Some p = rw t at e in
    let is : (begun, cs) ≡ p = cc in
    let feed : c ≡ 10 = eqb-true c 10 t in
    subst (λ (q : List ℕ × List ℕ). IsCut (begun ++ c ∷ cs) q.0 q.1) is
    (record { split = ap (λ n. begun ++ n ∷ cs) feed; plain = h })
IsCut-cut_from-by false begun c cs p h t e next =
    rw append_assoc at (next (HasNoFeed-push begun c h t) (rw t at e))

IsCut-cut_from : (begun bytes : List ℕ) (p : List ℕ × List ℕ) → HasNoFeed begun → cut_from begun bytes ≡ Some p → IsCut (begun ++ bytes) p.0 p.1
IsCut-cut_from begun [] p h e = cc
IsCut-cut_from begun (c ∷ cs) p h e = IsCut-cut_from-by (c == 10) begun c cs p h refl e (IsCut-cut_from (begun ++ c ∷ []) cs p)

-- a cut parts the bytes at their first line feed
pub IsCut-cut : (bytes : List ℕ) (p : List ℕ × List ℕ) → cut bytes ≡ Some p → IsCut bytes p.0 p.1
IsCut-cut bytes p e = IsCut-cut_from [] bytes p HasNoFeed-nil e

HasNoFeed-cut_from-by : (b : Bool) (begun : List ℕ) (c : ℕ) (cs : List ℕ) → (c == 10) ≡ b → cut_from begun (c ∷ cs) ≡ None
    → (cut_from (begun ++ c ∷ []) cs ≡ None → HasNoFeed cs) → HasNoFeed (c ∷ cs)
HasNoFeed-cut_from-by true begun c cs t e next = let found = rw t at e in cc
HasNoFeed-cut_from-by false begun c cs t e next = HasNoFeed-cons c cs t (next (rw t at e))

HasNoFeed-cut_from : (begun bytes : List ℕ) → cut_from begun bytes ≡ None → HasNoFeed bytes
HasNoFeed-cut_from begun [] e = HasNoFeed-nil
HasNoFeed-cut_from begun (c ∷ cs) e = HasNoFeed-cut_from-by (c == 10) begun c cs refl e (HasNoFeed-cut_from (begun ++ c ∷ []) cs)

-- where there is no cut, no line feed has come
pub HasNoFeed-cut : (bytes : List ℕ) → cut bytes ≡ None → HasNoFeed bytes
HasNoFeed-cut bytes e = HasNoFeed-cut_from [] bytes e

-- ---- what a cut tells of the events, of what is kept, and of the open line

-- the first event is of the first line, and the others are of what is behind it
pub events-cut : (bytes line rest more : List ℕ) → IsCut bytes line rest → events (bytes ++ more) ≡ event_of line ∷ events (rest ++ more)
events-cut bytes line rest more h =
    let e = h.split in rw (e, append_assoc) (events_from-line [] line (10 ∷ (rest ++ more)) h.plain)

-- without a line feed there is no event
pub events-plain : (bytes : List ℕ) → HasNoFeed bytes → events bytes ≡ []
events-plain bytes h = rw (append-nil bytes) at (events_from-line [] bytes [] h)

-- nor where there is no cut
pub events-no_cut : (bytes : List ℕ) → cut bytes ≡ None → events bytes ≡ []
events-no_cut bytes e = events-plain bytes (HasNoFeed-cut bytes e)

abbrev rest_of_some : Option (List ℕ × List ℕ) → List ℕ
rest_of_some None = []
rest_of_some (Some p) = p.1

-- what is behind a line that is kept is kept too
pub shape-rest : (bytes line rest : List ℕ) → IsCut bytes line rest → shape bytes ≡ bytes → shape rest ≡ rest
shape-rest bytes line rest h kept =
    let e = h.split in
    let kept_line : shape (line ++ 10 ∷ rest) ≡ fit line ++ 10 ∷ shape rest = shape_from-line [] line (10 ∷ rest) h.plain in
    let same : fit line ++ 10 ∷ shape rest ≡ line ++ 10 ∷ rest = sym kept_line ∙ ap shape (sym e) ∙ kept ∙ e in
    let left = cut_from-line [] (fit line) (shape rest) (HasNoFeed-fit line h.plain) in
    let right = cut_from-line [] line rest h.plain in
    ap rest_of_some (sym left ∙ ap cut same ∙ right)

-- a whole line is no part of the open one
pub open_line-rest : (bytes line rest : List ℕ) → IsCut bytes line rest → open_line bytes ≡ open_line rest
open_line-rest bytes line rest h = let e = h.split in rw e (open_from-line [] line (10 ∷ rest) h.plain)

-- where no whole line waits, no more than 8,193 bytes do
pub length-no_cut : (bytes : List ℕ) → shape bytes ≡ bytes → cut bytes ≡ None → length bytes ≤ 8193
length-no_cut bytes kept none =
    let all = open_line-plain bytes (HasNoFeed-cut bytes none) in
    let n = length-fit (open_line bytes) in
    let m : length (fit (open_line bytes)) ≡ length bytes = ap length (fit-open_line bytes kept ∙ all) in
    omega arith
