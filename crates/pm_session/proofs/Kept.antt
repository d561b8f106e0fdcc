-- What is kept of a stream stands for it, whatever comes behind it.
use Rattle.std.proofs.Common.{◌≡◌, ℕ, List, [], ◌∷◌, ◌++◌, Bool, true, false, ◌==◌, if◌then◌else◌, refl, sym, ◌∙◌, ap, append_assoc, append-nil}
use Rattle.pm_model.specs.Lines.{event_of, events_from, events, fit, shape_from, shape}
use Rattle.pm_session.specs.Cuts.{HasNoFeed}
use Rattle.pm_session.proofs.Feeds.{HasNoFeed-nil, HasNoFeed-head, HasNoFeed-tail, HasNoFeed-push}
use Rattle.pm_session.proofs.Fitting.{Alike, Alike-push, Alike-fit, fit-alike, event_of-alike, HasNoFeed-fit}

-- two choices by one test are equal where their sides are
if-same : {A : Type 0} {x y z w : A} (b : Bool) → (b ≡ true → x ≡ z) → (b ≡ false → y ≡ w) → (if b then x else y) ≡ (if b then z else w)
if-same true f g = f refl
if-same false f g = g refl

-- ---- going past bytes without a line feed

-- they are kept behind what has come of their line
pub shape_from-line : (begun line more : List ℕ) → HasNoFeed line → shape_from begun (line ++ more) ≡ shape_from (begun ++ line) more
shape_from-line begun [] more h = rw (append-nil begun) refl
shape_from-line begun (c ∷ cs) more h =
    let no = HasNoFeed-head c cs h in rw no (shape_from-line (begun ++ c ∷ []) cs more (HasNoFeed-tail c cs h) ∙ rw append_assoc refl)

-- and are told behind it
pub events_from-line : (begun line more : List ℕ) → HasNoFeed line → events_from begun (line ++ more) ≡ events_from (begun ++ line) more
events_from-line begun [] more h = rw (append-nil begun) refl
events_from-line begun (c ∷ cs) more h =
    let no = HasNoFeed-head c cs h in rw no (events_from-line (begun ++ c ∷ []) cs more (HasNoFeed-tail c cs h) ∙ rw append_assoc refl)

-- ---- lines that are alike go on alike

shape_from-alike : (f g more : List ℕ) → Alike f g → shape_from f more ≡ shape_from g more
shape_from-alike f g [] h = fit-alike f g h
shape_from-alike f g (c ∷ cs) h =
    if-same (c == 10) (λ _. ap (λ l. l ++ 10 ∷ shape_from [] cs) (fit-alike f g h))
    (λ _. shape_from-alike (f ++ c ∷ []) (g ++ c ∷ []) cs (Alike-push f g c h))

events_from-alike : (f g more : List ℕ) → Alike f g → events_from f more ≡ events_from g more
events_from-alike f g [] h = refl
events_from-alike f g (c ∷ cs) h =
    if-same (c == 10) (λ _. ap (λ e. e ∷ events_from [] cs) (event_of-alike f g h))
    (λ _. events_from-alike (f ++ c ∷ []) (g ++ c ∷ []) cs (Alike-push f g c h))

-- ---- line after line

shape_from-shaped-cons : (b : Bool) (begun : List ℕ) (c : ℕ) (cs more : List ℕ) → (c == 10) ≡ b → HasNoFeed begun
    → shape_from [] (shape_from [] cs ++ more) ≡ shape_from [] (cs ++ more)
    → ((c == 10) ≡ false → shape_from [] (shape_from (begun ++ c ∷ []) cs ++ more) ≡ shape_from (begun ++ c ∷ []) (cs ++ more))
    → shape_from [] (shape_from begun (c ∷ cs) ++ more) ≡ shape_from begun (c ∷ cs ++ more)
shape_from-shaped-cons true begun c cs more t h next within =
    let first : shape_from [] (fit begun ++ 10 ∷ (shape_from [] cs ++ more)) ≡ fit (fit begun) ++ 10 ∷ shape_from [] (shape_from [] cs ++ more) =
    shape_from-line [] (fit begun) (10 ∷ (shape_from [] cs ++ more)) (HasNoFeed-fit begun h) in
    let again = fit-alike (fit begun) begun (Alike-fit begun) in
    rw (t, append_assoc) (first ∙ rw (next, again) refl)
shape_from-shaped-cons false begun c cs more t h next within = rw t (within t)

shape_from-shaped : (begun bytes more : List ℕ) → HasNoFeed begun → shape_from [] (shape_from begun bytes ++ more) ≡ shape_from begun (bytes ++ more)
shape_from-shaped begun [] more h =
    shape_from-line [] (fit begun) more (HasNoFeed-fit begun h) ∙ shape_from-alike (fit begun) begun more (Alike-fit begun)
shape_from-shaped begun (c ∷ cs) more h =
    shape_from-shaped-cons (c == 10) begun c cs more refl h (shape_from-shaped [] cs more HasNoFeed-nil)
    (λ no. shape_from-shaped (begun ++ c ∷ []) cs more (HasNoFeed-push begun c h no))

events_from-shaped-cons : (b : Bool) (begun : List ℕ) (c : ℕ) (cs more : List ℕ) → (c == 10) ≡ b → HasNoFeed begun
    → events_from [] (shape_from [] cs ++ more) ≡ events_from [] (cs ++ more)
    → ((c == 10) ≡ false → events_from [] (shape_from (begun ++ c ∷ []) cs ++ more) ≡ events_from (begun ++ c ∷ []) (cs ++ more))
    → events_from [] (shape_from begun (c ∷ cs) ++ more) ≡ events_from begun (c ∷ cs ++ more)
events_from-shaped-cons true begun c cs more t h next within =
    let first : events_from [] (fit begun ++ 10 ∷ (shape_from [] cs ++ more)) ≡ event_of (fit begun) ∷ events_from [] (shape_from [] cs ++ more) =
    events_from-line [] (fit begun) (10 ∷ (shape_from [] cs ++ more)) (HasNoFeed-fit begun h) in
    let same = event_of-alike (fit begun) begun (Alike-fit begun) in
    rw (t, append_assoc) (first ∙ rw (next, same) refl)
events_from-shaped-cons false begun c cs more t h next within = rw t (within t)

events_from-shaped : (begun bytes more : List ℕ) → HasNoFeed begun → events_from [] (shape_from begun bytes ++ more) ≡ events_from begun (bytes ++ more)
events_from-shaped begun [] more h =
    events_from-line [] (fit begun) more (HasNoFeed-fit begun h) ∙ events_from-alike (fit begun) begun more (Alike-fit begun)
events_from-shaped begun (c ∷ cs) more h =
    events_from-shaped-cons (c == 10) begun c cs more refl h (events_from-shaped [] cs more HasNoFeed-nil)
    (λ no. events_from-shaped (begun ++ c ∷ []) cs more (HasNoFeed-push begun c h no))

-- ---- the laws

-- the bytes that come are kept behind what is kept as behind the stream itself
pub shape-shape-append : (a b : List ℕ) → shape (shape a ++ b) ≡ shape (a ++ b)
shape-shape-append a b = shape_from-shaped [] a b HasNoFeed-nil

-- and have the same events
pub events-shape-append : (a b : List ℕ) → events (shape a ++ b) ≡ events (a ++ b)
events-shape-append a b = events_from-shaped [] a b HasNoFeed-nil

-- what is kept is kept as it is
pub shape-shape : (a : List ℕ) → shape (shape a) ≡ shape a
shape-shape a = ap shape (sym (append-nil (shape a))) ∙ shape-shape-append a [] ∙ ap shape (append-nil a)

-- and has the events of the stream
pub events-shape : (a : List ℕ) → events (shape a) ≡ events a
events-shape a = ap events (sym (append-nil (shape a))) ∙ events-shape-append a [] ∙ ap events (append-nil a)
