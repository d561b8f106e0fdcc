-- The line that isn't whole yet, and the whole lines before it.
use Rattle.std.proofs.Common.{◌≡◌, ◌<◌, ◌≤◌, ◌-◌, ◌+◌, ℕ, List, [], ◌∷◌, ◌++◌, length, take, Bool, true, false, ◌==◌, if◌then◌else◌, refl, sym, ◌∙◌, ap, arith, append_assoc, append-nil, length-append}
use Rattle.std.proofs.lemmas.List.{take_at}
use Rattle.pm_model.specs.Lines.{longest_line, blank_line, fit, shape_from, shape}
use Rattle.pm_session.specs.Cuts.{HasNoFeed, open_from, open_line}
use Rattle.pm_session.proofs.Feeds.{HasNoFeed-nil, HasNoFeed-head, HasNoFeed-tail, HasNoFeed-push, HasNoFeed-cons}
use Rattle.pm_session.proofs.Fitting.{fit-short, fit-long, HasNoFeed-fit}
use Rattle.pm_session.proofs.Kept.{shape_from-line}

-- the whole lines, as they are kept
abbrev closed_from : List ℕ → List ℕ → List ℕ
closed_from begun [] = []
closed_from begun (c ∷ cs) = if c == 10 then fit begun ++ 10 ∷ closed_from [] cs else closed_from (begun ++ c ∷ []) cs

-- those of bytes at whose start no line has begun
abbrev closed_lines : List ℕ → List ℕ
closed_lines = closed_from []

-- ---- two parts

shape_from-append-cons : (b : Bool) (begun : List ℕ) (c : ℕ) (cs more : List ℕ) → (c == 10) ≡ b
    → shape_from [] (cs ++ more) ≡ closed_from [] cs ++ shape_from (open_from [] cs) more
    → shape_from (begun ++ c ∷ []) (cs ++ more) ≡ closed_from (begun ++ c ∷ []) cs ++ shape_from (open_from (begun ++ c ∷ []) cs) more
    → shape_from begun (c ∷ cs ++ more) ≡ closed_from begun (c ∷ cs) ++ shape_from (open_from begun (c ∷ cs)) more
shape_from-append-cons true begun c cs more t next within = rw (t, next, append_assoc) refl
shape_from-append-cons false begun c cs more t next within = rw (t, within) refl

shape_from-append : (begun bytes more : List ℕ) → shape_from begun (bytes ++ more) ≡ closed_from begun bytes ++ shape_from (open_from begun bytes) more
shape_from-append begun [] more = refl
shape_from-append begun (c ∷ cs) more =
    shape_from-append-cons (c == 10) begun c cs more refl (shape_from-append [] cs more) (shape_from-append (begun ++ c ∷ []) cs more)

open_from-append-cons : (b : Bool) (begun : List ℕ) (c : ℕ) (cs more : List ℕ) → (c == 10) ≡ b
    → open_from [] (cs ++ more) ≡ open_from (open_from [] cs) more
    → open_from (begun ++ c ∷ []) (cs ++ more) ≡ open_from (open_from (begun ++ c ∷ []) cs) more
    → open_from begun (c ∷ cs ++ more) ≡ open_from (open_from begun (c ∷ cs)) more
open_from-append-cons true begun c cs more t next within = rw (t, next) refl
open_from-append-cons false begun c cs more t next within = rw (t, within) refl

open_from-append : (begun bytes more : List ℕ) → open_from begun (bytes ++ more) ≡ open_from (open_from begun bytes) more
open_from-append begun [] more = refl
open_from-append begun (c ∷ cs) more =
    open_from-append-cons (c == 10) begun c cs more refl (open_from-append [] cs more) (open_from-append (begun ++ c ∷ []) cs more)

-- bytes without a line feed are of the line that has begun
pub open_from-line : (begun line more : List ℕ) → HasNoFeed line → open_from begun (line ++ more) ≡ open_from (begun ++ line) more
open_from-line begun [] more h = rw (append-nil begun) refl
open_from-line begun (c ∷ cs) more h =
    let no = HasNoFeed-head c cs h in rw no (open_from-line (begun ++ c ∷ []) cs more (HasNoFeed-tail c cs h) ∙ rw append_assoc refl)

-- what has come of a line grows by bytes without a line feed
pub open_line-append : (bytes part : List ℕ) → HasNoFeed part → open_line (bytes ++ part) ≡ open_line bytes ++ part
open_line-append bytes part plain =
    open_from-append [] bytes part ∙ rw (append-nil part) at (open_from-line (open_line bytes) part [] plain)

-- a line feed ends it
pub open_line-feed : (bytes : List ℕ) → open_line (bytes ++ 10 ∷ []) ≡ []
open_line-feed bytes = open_from-append [] bytes (10 ∷ [])

-- where no line feed has come, all bytes are of one line
pub open_line-plain : (bytes : List ℕ) → HasNoFeed bytes → open_line bytes ≡ bytes
open_line-plain bytes plain = open_line-append [] bytes plain

-- ---- how long it is

open_from-short-by : (b : Bool) (begun : List ℕ) (c : ℕ) (cs : List ℕ) → (c == 10) ≡ b
    → length (open_from [] cs) ≤ length cs
    → length (open_from (begun ++ c ∷ []) cs) ≤ length (begun ++ c ∷ []) + length cs
    → length (open_from begun (c ∷ cs)) ≤ length begun + (length cs + 1)
open_from-short-by true begun c cs t fresh within = rw t (omega arith)
open_from-short-by false begun c cs t fresh within = let l = length-append begun (c ∷ []) in rw t (omega arith)

open_from-short : (begun bytes : List ℕ) → length (open_from begun bytes) ≤ length begun + length bytes
open_from-short begun [] = omega arith
open_from-short begun (c ∷ cs) =
    let fresh = open_from-short [] cs in
    let s = open_from-short-by (c == 10) begun c cs refl (omega arith) (open_from-short (begun ++ c ∷ []) cs) in
    omega arith

-- it is no longer than what has come
pub length-open_line : (bytes : List ℕ) → length (open_line bytes) ≤ length bytes
length-open_line bytes = let l = open_from-short [] bytes in omega arith

open_from-plain-by : (b : Bool) (begun : List ℕ) (c : ℕ) (cs : List ℕ) → (c == 10) ≡ b
    → length (open_from begun (c ∷ cs)) ≡ length begun + length (c ∷ cs)
    → (length (open_from (begun ++ c ∷ []) cs) ≡ length (begun ++ c ∷ []) + length cs → HasNoFeed cs)
    → HasNoFeed (c ∷ cs)
open_from-plain-by true begun c cs t e next =
    let short = open_from-short [] cs in
    let same = rw t at e in
    absurd (omega arith)
open_from-plain-by false begun c cs t e next =
    let same = rw t at e in
    let l = length-append begun (c ∷ []) in
    HasNoFeed-cons c cs t (next (omega arith))

open_from-plain : (begun bytes : List ℕ) → length (open_from begun bytes) ≡ length begun + length bytes → HasNoFeed bytes
open_from-plain begun [] e = HasNoFeed-nil
open_from-plain begun (c ∷ cs) e = open_from-plain-by (c == 10) begun c cs refl e (open_from-plain (begun ++ c ∷ []) cs)

-- where it is as long, no line feed has come
pub HasNoFeed-open_line : (bytes : List ℕ) → length (open_line bytes) ≡ length bytes → HasNoFeed bytes
HasNoFeed-open_line bytes e = open_from-plain [] bytes (omega arith)

-- ---- what is kept of it

open_from-shaped-cons : (b : Bool) (begun : List ℕ) (c : ℕ) (cs : List ℕ) → (c == 10) ≡ b → HasNoFeed begun
    → open_from [] (shape_from [] cs) ≡ fit (open_from [] cs)
    → ((c == 10) ≡ false → open_from [] (shape_from (begun ++ c ∷ []) cs) ≡ fit (open_from (begun ++ c ∷ []) cs))
    → open_from [] (shape_from begun (c ∷ cs)) ≡ fit (open_from begun (c ∷ cs))
open_from-shaped-cons true begun c cs t h next within =
    rw t (open_from-line [] (fit begun) (10 ∷ shape_from [] cs) (HasNoFeed-fit begun h) ∙ next)
open_from-shaped-cons false begun c cs t h next within = rw t (within t)

open_from-shaped : (begun bytes : List ℕ) → HasNoFeed begun → open_from [] (shape_from begun bytes) ≡ fit (open_from begun bytes)
open_from-shaped begun [] h = rw (append-nil (fit begun)) at (open_from-line [] (fit begun) [] (HasNoFeed-fit begun h))
open_from-shaped begun (c ∷ cs) h =
    open_from-shaped-cons (c == 10) begun c cs refl h (open_from-shaped [] cs HasNoFeed-nil)
    (λ apart. open_from-shaped (begun ++ c ∷ []) cs (HasNoFeed-push begun c h apart))

-- of an open line is kept what fits
pub open_line-shape : (bytes : List ℕ) → open_line (shape bytes) ≡ fit (open_line bytes)
open_line-shape bytes = open_from-shaped [] bytes HasNoFeed-nil

-- it fits already where the bytes are kept so
pub fit-open_line : (bytes : List ℕ) → shape bytes ≡ bytes → fit (open_line bytes) ≡ open_line bytes
fit-open_line bytes kept = sym (open_line-shape bytes) ∙ ap open_line kept

kept-parts : (bytes : List ℕ) → shape bytes ≡ bytes → bytes ≡ closed_lines bytes ++ open_line bytes
kept-parts bytes kept =
    let parts : shape (bytes ++ []) ≡ closed_lines bytes ++ fit (open_line bytes) = shape_from-append [] bytes [] in
    sym kept ∙ ap shape (sym (append-nil bytes)) ∙ parts ∙ ap (λ l. closed_lines bytes ++ l) (fit-open_line bytes kept)

shape-append-part : (bytes part : List ℕ) → HasNoFeed part → shape (bytes ++ part) ≡ closed_lines bytes ++ fit (open_line bytes ++ part)
shape-append-part bytes part plain =
    shape_from-append [] bytes part
    ∙ ap (λ l. closed_lines bytes ++ l) (rw (append-nil part) at (shape_from-line (open_line bytes) part [] plain))

-- bytes without a line feed are kept as they are while their line isn't too long
pub shape-append-short : (bytes part : List ℕ) → shape bytes ≡ bytes → HasNoFeed part
    → length (open_line bytes) + length part ≤ longest_line → bytes ++ part ≡ shape (bytes ++ part)
shape-append-short bytes part kept plain short =
    let l = length-append (open_line bytes) part in
    let fits : fit (open_line bytes ++ part) ≡ open_line bytes ++ part = fit-short (open_line bytes ++ part) (omega arith) in
    ap (λ l. l ++ part) (kept-parts bytes kept) ∙ append_assoc (closed_lines bytes) (open_line bytes) part
    ∙ ap (λ l. closed_lines bytes ++ l) (sym fits) ∙ sym (shape-append-part bytes part plain)

-- else their line gives way to spaces
pub shape-append-long : (bytes part : List ℕ) → shape bytes ≡ bytes → HasNoFeed part
    → longest_line < length (open_line bytes) + length part
    → take (length bytes - length (open_line bytes)) bytes ++ blank_line ≡ shape (bytes ++ part)
shape-append-long bytes part kept plain long =
    let l = length-append (open_line bytes) part in
    let parts = kept-parts bytes kept in
    let total : length bytes ≡ length (closed_lines bytes) + length (open_line bytes) =
    ap length parts ∙ length-append (closed_lines bytes) (open_line bytes) in
    let front : take (length bytes - length (open_line bytes)) bytes ≡ closed_lines bytes =
    ap (take (length bytes - length (open_line bytes))) parts
    ∙ take_at (closed_lines bytes) (open_line bytes) (length bytes - length (open_line bytes)) (omega arith) in
    let blank : fit (open_line bytes ++ part) ≡ blank_line = fit-long (open_line bytes ++ part) (omega arith) in
    ap (λ l. l ++ blank_line) front ∙ ap (λ l. closed_lines bytes ++ l) (sym blank) ∙ sym (shape-append-part bytes part plain)

-- a line feed is kept as it is
pub shape-append-feed : (bytes : List ℕ) → shape bytes ≡ bytes → bytes ++ 10 ∷ [] ≡ shape (bytes ++ 10 ∷ [])
shape-append-feed bytes kept =
    ap (λ l. l ++ 10 ∷ []) (kept-parts bytes kept) ∙ append_assoc (closed_lines bytes) (open_line bytes) (10 ∷ [])
    ∙ ap (λ l. closed_lines bytes ++ (l ++ 10 ∷ [])) (sym (fit-open_line bytes kept)) ∙ sym (shape_from-append [] bytes (10 ∷ []))
