-- Lines that are both too long are kept alike, and are one event.
use Rattle.std.proofs.Common.{◌≡◌, ◌<◌, ◌≤◌, ◌⊎◌, inl, inr, ℕ, List, ◌∷◌, [], ◌++◌, length, Bool, true, false, nat_lt, if◌then◌else◌, refl, sym, ◌∙◌, ap, arith, length-append}
use Rattle.std.proofs.lemmas.Bool.{lt-ltb, le-ltb, ltb-true, ltb-false}
use Rattle.std.proofs.lemmas.List.{length-replicate}
use Rattle.pm_model.specs.Lines.{longest_line, whole, too_long, event_of, blank_line, fit}
use Rattle.pm_session.specs.Cuts.{HasNoFeed}
use Rattle.pm_session.proofs.Feeds.{HasNoFeed-spaces}

-- a line of more than 8,192 bytes is kept as spaces
pub fit-long : (line : List ℕ) → longest_line < length line → fit line ≡ blank_line
fit-long line long = let test : nat_lt 8192 (length line) ≡ true = lt-ltb 8192 (length line) long in rw test refl

-- any other as it is
pub fit-short : (line : List ℕ) → length line ≤ longest_line → fit line ≡ line
fit-short line short = let test : nat_lt 8192 (length line) ≡ false = le-ltb 8192 (length line) short in rw test refl

-- a line of more than 8,192 bytes is told as too long
pub event_of-long : (line : List ℕ) → longest_line < length line → event_of line ≡ too_long
event_of-long line long = let test : nat_lt 8192 (length line) ≡ true = lt-ltb 8192 (length line) long in rw test refl

-- any other is whole
pub event_of-short : (line : List ℕ) → length line ≤ longest_line → event_of line ≡ whole line
event_of-short line short = let test : nat_lt 8192 (length line) ≡ false = le-ltb 8192 (length line) short in rw test refl

-- what stands for a line that is too long is too long itself
pub length-blank_line : length blank_line ≡ 8193
unfolding blank_line
length-blank_line = length-replicate {A = ℕ} 8193 32

HasNoFeed-blank_line : HasNoFeed blank_line
unfolding blank_line
HasNoFeed-blank_line = HasNoFeed-spaces 8193

if-either : {A : Type 0} {x y : A} (P : A → Type 0) (b : Bool) → P x → P y → P (if b then x else y)
if-either P true p q = p
if-either P false p q = q

-- no line feed comes into what is kept
pub HasNoFeed-fit : (line : List ℕ) → HasNoFeed line → HasNoFeed (fit line)
HasNoFeed-fit line plain = if-either HasNoFeed (nat_lt 8192 (length line)) HasNoFeed-blank_line plain

-- one line, or two that are both too long
abbrev pub Alike : List ℕ → List ℕ → Type 0
Alike f g = (f ≡ g) ⊎ ((longest_line < length f) × (longest_line < length g))

-- lines that are alike stay so, whatever byte comes
pub Alike-push : (f g : List ℕ) (c : ℕ) → Alike f g → Alike (f ++ c ∷ []) (g ++ c ∷ [])
Alike-push f g c (inl same) = inl (ap (λ l. l ++ c ∷ []) same)
Alike-push f g c (inr long) = inr (omega (arith, length-append f (c ∷ [])), omega (arith, length-append g (c ∷ [])))

-- they are kept alike
pub fit-alike : (f g : List ℕ) → Alike f g → fit f ≡ fit g
fit-alike f g (inl same) = ap fit same
fit-alike f g (inr long) = fit-long f long.0 ∙ sym (fit-long g long.1)

-- and are one event
pub event_of-alike : (f g : List ℕ) → Alike f g → event_of f ≡ event_of g
event_of-alike f g (inl same) = ap event_of same
event_of-alike f g (inr long) = event_of-long f long.0 ∙ sym (event_of-long g long.1)

Alike-fit-by : (b : Bool) (line : List ℕ) → nat_lt 8192 (length line) ≡ b → Alike (fit line) line
Alike-fit-by true line test =
    let long = ltb-true 8192 (length line) test in
    let blank : length (fit line) ≡ 8193 = ap length (fit-long line long) ∙ length-blank_line in
    inr (omega arith, long)
Alike-fit-by false line test = inl (fit-short line (ltb-false 8192 (length line) test))

-- what is kept of a line is alike to it
pub Alike-fit : (line : List ℕ) → Alike (fit line) line
Alike-fit line = Alike-fit-by (nat_lt 8192 (length line)) line refl

length-fit-by : (b : Bool) (line : List ℕ) → nat_lt 8192 (length line) ≡ b → length (fit line) ≤ 8193
length-fit-by true line test =
    let blank = ap length (fit-long line (ltb-true 8192 (length line) test)) ∙ length-blank_line in omega arith
length-fit-by false line test =
    let short = ltb-false 8192 (length line) test in
    let same = ap length (fit-short line short) in omega arith

-- no more than 8,193 bytes are kept of a line
pub length-fit : (line : List ℕ) → length (fit line) ≤ 8193
length-fit line = length-fit-by (nat_lt 8192 (length line)) line refl
