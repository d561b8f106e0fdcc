-- The region row by row, and the pairs of a row that are judged.
use Rattle.std.proofs.Common.{◌≡◌, ℕ, Bool, true, false, ◌==◌, ◌&&◌, ◌||◌, List, [], ◌∷◌, length, filter, None, if◌then◌else◌, refl, sym, ap, ◌∙◌, arith, append-nil}
use Rattle.std.specs.List.{list_any}
use Rattle.std.proofs.lemmas.Bool.{and_parts, eqb-true, false≢true, or_parts, true≢false}
use Rattle.std.proofs.lemmas.List.{length-map}
use Rattle.pm_model.specs.Decision.{range_by, applies_by}
use Rattle.pm_model.specs.declared.prohibitions.Subject.{Subject}
use Rattle.pm_model.specs.declared.prohibitions.Subject.TheVariants.{User, Ua, Process}
use Rattle.pm_affect.specs.Affected.{is_in}
use Rattle.pm_affect.specs.Judged.{in_scope, is_kept, judged, pairs_of}
use Rattle.pm_affect.specs.Lists.{Listed, Lists, is_among}
use Rattle.pm_affect.specs.Puts.{cleared}
use Rattle.pm_affect.specs.Rows.{has_near, has_row, is_near, is_near_row, is_nothing, is_process, is_some_row, is_wide, row, row_by, with_each}
use Rattle.pm_affect.specs.declared.region.Region.{Region}
use Rattle.pm_affect.specs.declared.region.Region.TheVariants.{Nothing, One, Under, Between, Barred}
use Rattle.pm_affect.specs.declared.region.Row.{Row}
use Rattle.pm_affect.specs.declared.region.Row.TheVariants.{Empty, Near, Whole}

-- which elements lie in the region with a user, by the row
abbrev by_row : Row → Bool → Bool
by_row Empty near = false
by_row Near near = near
by_row Whole near = true

module _ (below : ℕ → ℕ → Bool) where
  in-row : (region : Region) (u e : ℕ) → is_in below region u e ≡ by_row (row_by below region u) (is_near below region e)
  in-row Nothing u e = refl
  in-row (One x) u e = go (u == x) where
    go : (b : Bool) → (b || e == x) ≡ by_row (if b then Whole else Near) (e == x)
    go true = refl
    go false = refl
  in-row (Under x) u e = go (below u x) where
    go : (b : Bool) → (b || below e x) ≡ by_row (if b then Whole else Near) (below e x)
    go true = refl
    go false = refl
  in-row (Between ua at) u e = go (below u ua) where
    go : (b : Bool) → (b && below e at) ≡ by_row (if b then Near else Empty) (below e at)
    go true = refl
    go false = refl
  in-row (Barred p) u e = go (applies_by below u None p.subject) where
    go : (b : Bool) → (b && range_by below p.mode p.inc p.exc e) ≡ by_row (if b then Near else Empty) (range_by below p.mode p.inc p.exc e)
    go true = refl
    go false = refl

  module _ (region : Region) (u : ℕ) where
    pub row-empty : (es : List ℕ) → Empty ≡ row_by below region u → row (is_in below region) u es ≡ []
    row-empty [] is = refl
    row-empty (e ∷ es) is = rw (in-row region u e, ← is) (row-empty es is)

    pub row-whole : (es : List ℕ) → Whole ≡ row_by below region u → row (is_in below region) u es ≡ with_each u es
    row-whole [] is = refl
    row-whole (e ∷ es) is = rw (in-row region u e, ← is) (ap (λ l. (u, e) ∷ l) (row-whole es is))

    pub row-near : (es : List ℕ) → Near ≡ row_by below region u → row (is_in below region) u es ≡ with_each u (filter (is_near below region) es)
    row-near [] is = refl
    row-near (e ∷ es) is = go (is_near below region e) refl (row-near es is) where
      go : (b : Bool) → is_near below region e ≡ b → row (is_in below region) u es ≡ with_each u (filter (is_near below region) es) →
          row (is_in below region) u (e ∷ es) ≡ with_each u (filter (is_near below region) (e ∷ es))
      go true near rest = rw (in-row region u e, ← is, near) (ap (λ l. (u, e) ∷ l) rest)
      go false near rest = rw (in-row region u e, ← is, near) rest

  pub in-empty : (region : Region) (u e : ℕ) → Empty ≡ row_by below region u → false ≡ is_in below region u e
  in-empty region u e is = sym (in-row region u e ∙ ap (λ r. by_row r (is_near below region e)) (sym is))

  pub in-near : (region : Region) (u e : ℕ) → Near ≡ row_by below region u → is_near below region e ≡ is_in below region u e
  in-near region u e is = sym (in-row region u e ∙ ap (λ r. by_row r (is_near below region e)) (sym is))

  pub in-whole : (region : Region) (u e : ℕ) → Whole ≡ row_by below region u → true ≡ is_in below region u e
  in-whole region u e is = sym (in-row region u e ∙ ap (λ r. by_row r (is_near below region e)) (sym is))

  -- ---- no pair at all

  process-not : (s : Subject ℕ ℕ) (u : ℕ) → is_process s ≡ true → applies_by below u None s ≡ false
  process-not (User x) u is = absurd (cc)
  process-not (Ua x) u is = absurd (cc)
  process-not (Process p) u is = refl

  pub in-nothing : (region : Region) (u e : ℕ) → is_nothing region ≡ true → is_in below region u e ≡ false
  in-nothing Nothing u e is = refl
  in-nothing (One x) u e is = absurd (cc)
  in-nothing (Under x) u e is = absurd (cc)
  in-nothing (Between ua at) u e is = absurd (cc)
  in-nothing (Barred p) u e is = ap (λ b. b && range_by below p.mode p.inc p.exc e) (process-not p.subject u is)

  pub judged-nothing : (region : Region) (scope : ℕ → ℕ → Bool) (us es : List ℕ) → is_nothing region ≡ true → judged (is_in below region) scope us es ≡ []
  judged-nothing region scope us es is = none _ where
    none : (ps : List (ℕ × ℕ)) → filter (λ (p : ℕ × ℕ). is_in below region p.0 p.1 && scope p.0 p.1) ps ≡ []
    none [] = refl
    none (p ∷ ps) = rw (in-nothing region p.0 p.1 is) (none ps)

  -- ---- none with a user

  pub no_row_near : (region : Region) (u : ℕ) → has_row below region u ≡ false → has_near below region u ≡ false
  no_row_near region u none = go (row_by below region u) none where
    go : (r : Row) → is_some_row r ≡ false → is_near_row r ≡ false
    go Empty none = refl
    go Near none = absurd (true≢false none)
    go Whole none = absurd (true≢false none)

  no-row : (region : Region) (u e : ℕ) → has_row below region u ≡ false → is_in below region u e ≡ false
  no-row region u e none = go (row_by below region u) refl none where
    go : (r : Row) → r ≡ row_by below region u → is_some_row r ≡ false → is_in below region u e ≡ false
    go Empty is none = sym (in-empty region u e is)
    go Near is none = absurd (true≢false none)
    go Whole is none = absurd (true≢false none)

  pub judged-passed : (region : Region) (scope : ℕ → ℕ → Bool) (u : ℕ) (es : List ℕ) → has_row below region u ≡ false → judged (is_in below region) scope (u ∷ []) es ≡ []
  judged-passed region scope u [] none = refl
  judged-passed region scope u (e ∷ es) none = rw (no-row region u e none) (judged-passed region scope u es none)

pub cleared-nothing : (region : Region) (L : Lists) → is_nothing region ≡ true → L ≡ cleared region L
cleared-nothing Nothing L is = refl
cleared-nothing (One x) L is = absurd (cc)
cleared-nothing (Under x) L is = refl
cleared-nothing (Between ua at) L is = refl
cleared-nothing (Barred p) L is = refl

-- where all elements lie in the region with some users, and there are none
pub none_of_all : (inside : ℕ → ℕ → Bool) (u : ℕ) (es : List ℕ) → length es ≡ 0 → row inside u es ≡ []
none_of_all inside u [] none = refl
none_of_all inside u (e ∷ es) none = absurd (omega (arith, none))

-- where those alone lie in it that are near, and there are none
pub none_of_near : (below : ℕ → ℕ → Bool) (region : Region) (u : ℕ) (near es : List ℕ) → is_wide region ≡ false → length near ≡ 0 →
    (has_near below region u ≡ true → near ≡ filter (is_near below region) es) → row (is_in below region) u es ≡ []
none_of_near below region u near es narrow none those = go (row_by below region u) refl those where
  empty : (ns : List ℕ) → length ns ≡ 0 → ns ≡ []
  empty [] h = refl
  empty (n ∷ ns) h = absurd (omega (arith, h))

  go : (r : Row) → r ≡ row_by below region u → (is_near_row r ≡ true → near ≡ filter (is_near below region) es) → row (is_in below region) u es ≡ []
  go Empty is those = row-empty below region u es is
  go Near is those = row-near below region u es is ∙ ap (with_each u) (sym (those refl) ∙ empty near none)
  go Whole is those = absurd (not-whole region narrow (sym is)) where
    bare : (b : Bool) → (if b then Near else Empty) ≡ Whole → ⊥
    bare true h = cc
    bare false h = cc

    not-whole : (region : Region) → is_wide region ≡ false → row_by below region u ≡ Whole → ⊥
    not-whole Nothing narrow h = cc
    not-whole (One x) narrow h = cc
    not-whole (Under x) narrow h = cc
    not-whole (Between ua at) narrow h = bare (below u ua) h
    not-whole (Barred p) narrow h = bare (applies_by below u None p.subject) h

-- ---- nor any list

none-listed : (ks : List Listed) → (length ks == 0) ≡ true → ks ≡ []
none-listed [] is = refl
none-listed (k ∷ ks) is = let none = eqb-true (length (k ∷ ks)) 0 is in absurd (omega (arith, none))

pub no-lists : (L : Lists) → (length L.caps == 0 && length L.entries == 0) ≡ true → (L.caps ≡ []) × (L.entries ≡ [])
no-lists L is = let both = and_parts (length L.caps == 0) (length L.entries == 0) is in (none-listed L.caps both.0, none-listed L.entries both.1)

pub judged-unkept : (inside : ℕ → ℕ → Bool) (L : Lists) (us es : List ℕ) → (length L.caps == 0 && length L.entries == 0) ≡ true →
    judged inside (in_scope L) us es ≡ []
judged-unkept inside L us es is = let h = no-lists L is in rw (h.0, h.1) (none (pairs_of us es)) where
  not-both : (b : Bool) → (b && false) ≡ false
  not-both true = refl
  not-both false = refl

  none : (ps : List (ℕ × ℕ)) → filter (λ (p : ℕ × ℕ). inside p.0 p.1 && false) ps ≡ []
  none [] = refl
  none (p ∷ ps) = rw (not-both (inside p.0 p.1)) (none ps)

-- ---- the pairs of one user that are judged

pub length-row : (u : ℕ) (es : List ℕ) → length (with_each u es) ≡ length es
length-row u es = length-map {B = ℕ × ℕ} es (λ e. (u, e))

module _ (inside : ℕ → ℕ → Bool) (caps entries : List ℕ) (u : ℕ) where
  abbrev test : ℕ × ℕ → Bool
  test p = inside p.0 p.1 && is_kept caps entries p.0 p.1

  -- where the user's capabilities are kept, those with all elements
  pub row-caps : (es : List ℕ) → is_among caps u ≡ true → row inside u es ≡ judged inside (is_kept caps entries) (u ∷ []) es
  row-caps es kept = of es ∙ ap (filter test) (sym (append-nil (with_each u es))) where
    of : (es : List ℕ) → row inside u es ≡ filter test (with_each u es)
    of [] = refl
    of (e ∷ es) = go (inside u e) refl (of es) where
      go : (b : Bool) → inside u e ≡ b → row inside u es ≡ filter test (with_each u es) → row inside u (e ∷ es) ≡ filter test (with_each u (e ∷ es))
      go true is rest = rw (is, kept) (ap (λ l. (u, e) ∷ l) rest)
      go false is rest = rw is rest

  -- else those with the elements whose entries are kept
  pub row-entries : (es : List ℕ) → is_among caps u ≡ false → row inside u (filter (is_among entries) es) ≡ judged inside (is_kept caps entries) (u ∷ []) es
  row-entries es other = of es ∙ ap (filter test) (sym (append-nil (with_each u es))) where
    of : (es : List ℕ) → row inside u (filter (is_among entries) es) ≡ filter test (with_each u es)
    of [] = refl
    of (e ∷ es) = go (inside u e) (is_among entries e) refl refl (of es) where
      go : (a b : Bool) → inside u e ≡ a → is_among entries e ≡ b → row inside u (filter (is_among entries) es) ≡ filter test (with_each u es) →
          row inside u (filter (is_among entries) (e ∷ es)) ≡ filter test (with_each u (e ∷ es))
      go true true is at rest = rw (is, at, other, is) (ap (λ l. (u, e) ∷ l) rest)
      go false true is at rest = rw (is, at, is) rest
      go true false is at rest = rw (is, at, other) rest
      go false false is at rest = rw (is, at) rest

-- ---- where no user has a row of those that are near

pub none-near : (test : ℕ → Bool) (u : ℕ) (us : List ℕ) → list_any test us ≡ false → is_among us u ≡ true → test u ≡ true → ⊥
none-near test u [] none among is = cc
none-near test u (v ∷ us) none among is =
    let q = or_parts (test v) (list_any test us) none in go (λ rest. none-near test u us q.1 rest is) (v == u) refl where
      go : (is_among us u ≡ true → ⊥) → (b : Bool) → (v == u) ≡ b → ⊥
      go rest true same =
          let q = or_parts (test v) (list_any test us) none in
          let passes : test v ≡ true = ap test (eqb-true v u same) ∙ is in false≢true (sym q.0 ∙ passes)
      go rest false other = rest (rw other at among)
