-- Connections that stay.
use Rattle.std.proofs.Common.{◌≡◌, ◌≢◌, ◌≤◌, ℕ, Some, None, ◌⊎◌, inl, inr, arith, sym, ◌∙◌, ap, subst}
use Rattle.std.proofs.lemmas.Bool.{cases_eq}
use Rattle.slab.specs.Slab.{get, Updates}
use Rattle.pm_server.specs.Polled.{Polled, IsSilent, Stays, TakesOut}
use Rattle.pm_server.proofs.Polling.{no-some, value}

module _ {A : Type 0} (since_of : A → ℕ) where
  -- no connection goes, and the time may
  pub stays_all : (f g : Polled A) → f.time ≤ g.time → g.taker.place ≡ f.taker.place → g.conns ≡ f.conns → Stays since_of f g
  stays_all f g later place conns = record {
    later = later;
    place = place;
    rests = λ key rest here. inl (ap (λ s. get s key) conns ∙ here);
  }

  -- silence goes on
  pub stays_then : (f g h : Polled A) → Stays since_of f g → Stays since_of g h → Stays since_of f h
  stays_then f g h a b = record {
    later = omega (arith, a.later, b.later);
    place = b.place ∙ a.place;
    rests = λ key rest here. elim (a.rests key rest here) [
      | inl there ↦ b.rests key rest there
      | inr silent ↦ inr (omega (arith, b.later, silent))
    ];
  }

  -- another has come to a key with no connection
  pub stays_beside : (f g : Polled A) (key : ℕ) (new : A) → g.time ≡ f.time → g.taker.place ≡ f.taker.place → get f.conns key ≡ None → Updates f.conns g.conns key (Some new) → Stays since_of f g
  stays_beside f g key new now place none put = record {
    later = omega (arith, now);
    place = place;
    rests = λ k rest here.
        let apart : k ≢ key = (λ same. no-some (get f.conns k) rest here (subst (λ m. get f.conns m ≡ None) (sym same) none)) in
        inl (put.others k apart ∙ here);
  }

  -- one that is silent goes
  pub stays_but_silent : (f g : Polled A) (key : ℕ) → g.time ≡ f.time → g.taker.place ≡ f.taker.place → ((rest : A) → get f.conns key ≡ Some rest → IsSilent f.time (since_of rest)) → Updates f.conns g.conns key None
      → Stays since_of f g
  stays_but_silent f g key now place silent gone = record {
    later = omega (arith, now);
    place = place;
    rests = λ k rest here. elim (cases_eq k key) [
      | inl same ↦ inr (subst (λ n. IsSilent n (since_of rest)) (sym now) (silent rest (subst (λ m. get f.conns m ≡ Some rest) same here)))
      | inr apart ↦ inl (gone.others k apart ∙ here)
    ];
  }

  -- from an earlier moment with the same connections
  pub stays_from : (e f g : Polled A) → Stays since_of f g → f.time ≡ e.time → f.taker.place ≡ e.taker.place → f.conns ≡ e.conns → Stays since_of e g
  stays_from e f g h time place conns = stays_then e f g (stays_all e f (omega (arith, time)) place conns) h

-- one goes out, and the others stay
pub stays_or_goes : {A C : Type 0} (f g : Polled A) (conn : C) (conn_of : A → C) (key : ℕ) (rest : A) → TakesOut f g conn conn_of → get f.conns key ≡ Some rest → (get g.conns key ≡ Some rest) ⊎ (conn ≡ conn_of rest)
stays_or_goes f g conn conn_of key rest t here = elim (cases_eq key t.key) [
  | inl same ↦
      let both : Some t.rest ≡ Some rest = sym t.held ∙ subst (λ k. get f.conns k ≡ Some rest) same here in
      inr (t.is ∙ ap conn_of (ap (value rest) both))
  | inr apart ↦ inl (t.goes.gone.others key apart ∙ here)
]
