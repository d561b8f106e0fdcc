-- Reading piece by piece.
use Rattle.std.proofs.Common.{◌≡◌, ◌⊎◌, ℕ, zero, suc, ◌+◌, ◌-◌, ◌≤◌, ◌<◌, min, List, [], ◌∷◌, ◌++◌, length, take, drop, refl, sym, ◌∙◌, ap, subst, arith, length-append, length-take, append_assoc}
use Rattle.std.proofs.lemmas.List.{drop-drop, take_at, drop_at, take-append-le, take_all, length-drop}
use borrow.Rule.Slice.PartMut.{put_mid, post_of}
use Rattle.pm_disk.specs.Disks.{Each, Elapses, Leaves, Stays, Reads, Fills}
use Rattle.pm_journal.proofs.Moments.{started, goes_on, and_then, weakly}

take_nil : (n : ℕ) → take {A = ℕ} n [] ≡ []
take_nil zero = refl
take_nil (suc n) = refl

pub take_then : (a n : ℕ) (xs : List ℕ) → take (a + n) xs ≡ take a xs ++ take n (drop a xs)
take_then zero n xs = let m : 0 + n ≡ n = omega arith in ap (λ (k : ℕ). take k xs) m
take_then (suc a) n [] = take_nil (suc a + n) ∙ sym (take_nil n)
take_then (suc a) n (x ∷ xs) =
    let m : suc a + n ≡ suc (a + n) = omega arith in
    ap (λ (k : ℕ). take k (x ∷ xs)) m ∙ ap (λ (l : List ℕ). x ∷ l) (take_then a n xs)

-- some bytes more stand behind those that were read
pub read_more : (content piece sub : List ℕ) (at got k n : ℕ) → got ≤ length piece → n ≤ length sub → take got piece ≡ take got (drop at content) → take n sub ≡ take n (drop (at + got) content)
    → take (got + n) (put_mid got k piece sub) ≡ take (got + n) (drop at content)
read_more content piece sub at got k n within most so_far more =
    let size : length (take got piece) ≡ got = omega (arith, length-take got piece, within) in
    take_then got n (put_mid got k piece sub)
    ∙ ap (λ (l : List ℕ). l ++ take n (drop got (put_mid got k piece sub))) (take_at (take got piece) (sub ++ post_of got k piece) got size)
    ∙ ap (λ (l : List ℕ). take got piece ++ take n l) (drop_at (take got piece) (sub ++ post_of got k piece) got size)
    ∙ ap (λ (l : List ℕ). take got piece ++ l) (take-append-le n sub (post_of got k piece) most)
    ∙ ap (λ (l : List ℕ). l ++ take n sub) so_far
    ∙ ap (λ (l : List ℕ). take got (drop at content) ++ l) (more ∙ ap (λ (l : List ℕ). take n l) (sym (drop-drop got at content)))
    ∙ sym (take_then got n (drop at content))

pub sized : (piece sub : List ℕ) (got : ℕ) → got ≤ length piece → length sub ≡ length piece - got → length (put_mid got (length piece - got) piece sub) ≡ length piece
sized piece sub got within size =
    omega (
      arith,
      length-append (take got piece) (sub ++ post_of got (length piece - got) piece),
      length-append sub (post_of got (length piece - got) piece),
      length-take got piece,
      length-drop (length piece - got) (drop got piece),
      length-drop got piece,
    )

module _ {D : Type 0} (content : D → List ℕ) (may : D → List ℕ → Type 0) (moment : D → ℕ) (left_since : D → ℕ → List ℕ → Type 0) where
  pub stays_at_first : (old : D) → Each (left_since old (moment old)) (may old) → Stays content may moment left_since old old
  stays_at_first old only = record { content = refl; crash = λ c left. left; moments = started moment left_since old (may old) only }

  pub stays_on : (old mid new : D) → Stays content may moment left_since old mid → content new ≡ content mid → Each (may new) (may mid)
      → Elapses (moment mid) (moment new) (left_since mid) (left_since new) (may new) → Stays content may moment left_since old new
  stays_on old mid new so_far same less time = record {
    content = same ∙ so_far.content;
    crash = λ c left. so_far.crash c (less c left);
    moments = goes_on moment left_since old mid new (may old) (may new) so_far.moments time (λ c left. so_far.crash c (less c left));
  }

  pub stays_then : (old mid new : D) → Stays content may moment left_since old mid → Stays content may moment left_since mid new → Stays content may moment left_since old new
  stays_then old mid new one two = record {
    content = two.content ∙ one.content;
    crash = λ c left. one.crash c (two.crash c left);
    moments = and_then moment left_since old mid new (may old) one.moments (weakly moment left_since mid new (may mid) (may old) one.crash two.moments);
  }
