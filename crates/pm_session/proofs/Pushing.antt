-- Bytes that go in behind those that wait.
use Rattle.std.proofs.Common.{◌≡◌, ◌<◌, ◌≤◌, ◌+◌, ◌-◌, ℕ, List, [], ◌∷◌, ◌++◌, length, take, drop, replicate, sym, arith, ap, ◌∙◌, append_assoc, length-append, length-take, length-drop, append-nil}
use Rattle.std.proofs.lemmas.List.{take_all, take_at, take-append-drop}
use Rattle.pm_model.specs.Lines.{fit, shape, blank_line}
use Rattle.pm_session.specs.Cuts.{HasNoFeed, IsCut, open_line}
use Rattle.pm_session.specs.Waiting.{IsWaiting, HasPushed}
use Rattle.pm_session.proofs.Fitting.{fit-short, fit-long, length-blank_line}
use Rattle.pm_session.proofs.Kept.{shape-shape-append, shape-shape}
use Rattle.pm_session.proofs.OpenLine.{open_line-append, open_line-feed, open_line-shape, length-open_line, shape-append-short, shape-append-long, shape-append-feed}

-- the open line is no longer than what waits
pub IsWaiting-tail : (bytes : List ℕ) (tail : ℕ) → IsWaiting bytes tail → tail ≤ length bytes
IsWaiting-tail bytes tail waits = let o = waits.opened in let l = length-open_line bytes in omega arith

-- what is kept of bytes waits
IsWaiting-shape : (bytes new : List ℕ) (tail : ℕ) → new ≡ shape bytes → length (fit (open_line bytes)) ≡ tail → IsWaiting new tail
IsWaiting-shape bytes new tail is opened =
    rw is (record { shaped = shape-shape bytes; opened = ap length (open_line-shape bytes) ∙ opened })

-- bytes without a line feed, while their line isn't too long with them
pub HasPushed-short : (old part : List ℕ) (tail : ℕ) → IsWaiting old tail → HasNoFeed part → tail + length part ≤ 8192
    → HasPushed old (old ++ part) (tail + length part) part
HasPushed-short old part tail waits plain short =
    let o = waits.opened in
    let l = length-append (open_line old) part in
    let is = shape-append-short old part waits.shaped plain (omega arith) in
    let fits : fit (open_line old ++ part) ≡ open_line old ++ part = fit-short (open_line old ++ part) (omega arith) in
    record {
      shaped = is;
      kept =
          IsWaiting-shape (old ++ part) (old ++ part) (tail + length part) is
          (ap length (ap fit (open_line-append old part plain) ∙ fits) ∙ omega arith);
      short = omega (arith, length-append old part);
    }

-- bytes without a line feed, with which their line is too long
pub HasPushed-long : (old part new : List ℕ) (tail : ℕ) → IsWaiting old tail → HasNoFeed part → 8192 < tail + length part
    → new ≡ take (length old - tail) old ++ blank_line → HasPushed old new 8193 part
HasPushed-long old part new tail waits plain long is =
    let o : length (open_line old) ≡ tail = waits.opened in
    let l = length-append (open_line old) part in
    let blank : fit (open_line old ++ part) ≡ blank_line = fit-long (open_line old ++ part) (omega arith) in
    let shaped : new ≡ shape (old ++ part) =
    is ∙ ap (λ n. take (length old - n) old ++ blank_line) (sym o) ∙ shape-append-long old part waits.shaped plain (omega arith) in
    record {
      shaped = shaped;
      kept =
          IsWaiting-shape (old ++ part) new 8193 shaped
          (ap length (ap fit (open_line-append old part plain) ∙ blank) ∙ length-blank_line);
      short =
          let n = ap length is ∙ length-append (take (length old - tail) old) blank_line in
          let closed = length-take (length old - tail) old in
          let spaces = length-blank_line in
          let within = IsWaiting-tail old tail waits in
          omega arith;
    }

-- a line feed
pub HasPushed-feed : (old : List ℕ) (tail : ℕ) → IsWaiting old tail → HasPushed old (old ++ 10 ∷ []) 0 (10 ∷ [])
HasPushed-feed old tail waits =
    let is = shape-append-feed old waits.shaped in
    record {
      shaped = is;
      kept = IsWaiting-shape (old ++ 10 ∷ []) (old ++ 10 ∷ []) 0 is (ap length (ap fit (open_line-feed old)));
      short = omega (arith, length-append old (10 ∷ []));
    }

-- bytes that come one part after the other
pub HasPushed-then : (old now new : List ℕ) (tail after : ℕ) (a b : List ℕ) → HasPushed old now tail a → HasPushed now new after b
    → HasPushed old new after (a ++ b)
HasPushed-then old now new tail after a b first second =
    let n = first.short in
    let m = second.short in
    let l = length-append a b in
    record {
      shaped =
          second.shaped ∙ ap (λ w. shape (w ++ b)) first.shaped ∙ shape-shape-append (old ++ a) b ∙ ap shape (append_assoc old a b);
      kept = second.kept;
      short = omega arith;
    }

-- no bytes
pub HasPushed-none : (old : List ℕ) (tail : ℕ) → IsWaiting old tail → HasPushed old old tail []
HasPushed-none old tail waits = record { shaped = sym waits.shaped ∙ ap shape (sym (append-nil old)); kept = waits; short = omega arith }

-- the bytes up to a line feed, from those up to the line
pub take-line : (bytes rest : List ℕ) (start count : ℕ) → start + count < length bytes
    → IsCut (drop start bytes) (take count (drop start bytes)) rest
    → take (start + (count + 1)) bytes ≡ take start bytes ++ (take count (drop start bytes) ++ 10 ∷ [])
take-line bytes rest start count within h =
    let line = take count (drop start bytes) in
    let front = take start bytes ++ (line ++ 10 ∷ []) in
    let parts : bytes ≡ front ++ rest =
    sym (take-append-drop start bytes) ∙ ap (λ l. take start bytes ++ l) (h.split ∙ sym (append_assoc line (10 ∷ []) rest))
    ∙ sym (append_assoc (take start bytes) (line ++ 10 ∷ []) rest) in
    let n = length-append (take start bytes) (line ++ 10 ∷ []) in
    let m = length-append line (10 ∷ []) in
    let a = length-take start bytes in
    let b = length-take count (drop start bytes) in
    let d = length-drop start bytes in
    ap (take (start + (count + 1))) parts ∙ take_at front rest (start + (count + 1)) (omega arith)

-- 8,193 spaces behind the bytes that are left
pub blanked : (bytes kept new : List ℕ) (front n m : ℕ) → kept ≡ take front bytes → n ≡ front + 8192 + 1 → n ≡ m + 8193
    → new ≡ take n kept ++ replicate (n - m) 32 → new ≡ take front bytes ++ blank_line
unfolding blank_line
blanked bytes kept new front n m is_kept to from is_new =
    let few = ap length is_kept ∙ length-take front bytes in
    let spaces : n - m ≡ 8193 = omega arith in
    is_new ∙ rw spaces (ap (λ l. l ++ replicate 8193 32) (take_all n kept (omega arith) ∙ is_kept))
