-- Words ask for one thing at most.
use Rattle.std.proofs.Common.{◌≡◌, ◌∙◌, ◌<◌, ℕ, true, List, [], ◌∷◌, ◌++◌, Option, None, Some, arith, refl, sym, ap, ap₂, cond, length, map, option_map, subst, true≢false, false}
use Rattle.std.specs.Prelude.{◌↔◌, ⊤, IsSome, codes, decimal}
use Rattle.std.specs.List.{list_all}
use Rattle.std.specs.Option.{option_to_list}
use Rattle.std.specs.Str.{bytes_eq}
use Rattle.std.proofs.lemmas.Bool.{ltb-true}
use Rattle.std.proofs.lemmas.Fmt.{decimal_injective}
use Rattle.std.proofs.lemmas.List.{length-map, map-append}
use Rattle.clap.proofs.WalkLemmas.{both}
use Rattle.pm_words.specs.Lists.{Wanted, Entry}
use Rattle.pm_words.specs.Told.{asks_journal}
use Rattle.pm_words.specs.Words.{AreWithin, HasFile, IsServeJournal, Says, IsAsked}
use Rattle.pm_words.specs.declared.words.Asked.{Asked}
use Rattle.pm_words.specs.declared.words.Asked.TheVariants.{Run, Generate, Serve, ServeJournal, RequestLines, Export}
use Rattle.pm_words.proofs.Asking.{as_many, is_number, listed_by}

-- what is asked for by a word and its numbers
abbrev asked_by : List ℕ → List ℕ → Option Asked
asked_by name [] = cond (bytes_eq (codes "run") name) (Some Run) (cond (bytes_eq (codes "request-lines") name) (Some RequestLines) (cond (bytes_eq (codes "export") name) (Some Export) None))
asked_by name (n ∷ []) = cond (bytes_eq (codes "generate") name) (Some (Generate n)) None
asked_by name (p ∷ w ∷ []) = cond (bytes_eq (codes "serve") name) (Some (Serve p w)) (cond (bytes_eq (codes "serve-journal") name) (Some (ServeJournal p w)) None)
asked_by name (n ∷ m ∷ k ∷ ns) = None

-- the word, the numbers and the texts that ask for it
record Asks (words : List (List ℕ)) (asked : Asked) : Type 0 where
  pub name : List ℕ
  pub numbers : List ℕ
  pub texts : List (List ℕ)
  pub says : Says words name numbers texts
  pub is : asked_by name numbers ≡ Some asked

asks : (words : List (List ℕ)) (asked : Asked) → IsAsked words (Some asked) → Asks words asked
asks words Run says = record { name = codes "run"; numbers = []; texts = []; says = says; is = refl }
asks words (Generate n) says = record { name = codes "generate"; numbers = n ∷ []; texts = []; says = says; is = refl }
asks words (Serve p w) says = record { name = codes "serve"; numbers = p ∷ w ∷ []; texts = []; says = says; is = refl }
asks words (ServeJournal p w) says = record { name = codes "serve-journal"; numbers = p ∷ w ∷ []; texts = says.0 ∷ []; says = says.1; is = refl }
asks words RequestLines says = record { name = codes "request-lines"; numbers = []; texts = []; says = says; is = refl }
asks words Export says = record { name = codes "export"; numbers = []; texts = []; says = says; is = refl }

abbrev AreSmall : List ℕ → Type 0
AreSmall [] = ⊤
AreSmall (n ∷ ns) = (n < 65536) × AreSmall ns

are_small : (wanted : List Wanted) (numbers : List ℕ) → list_all is_number wanted ≡ true → AreWithin wanted numbers → AreSmall numbers
are_small [] [] small within = tt
are_small [] (n ∷ ns) small within = absurd within
are_small (w ∷ ws) [] small within = absurd within
are_small (w ∷ ws) (n ∷ ns) small within =
    let parts = both (is_number w) (list_all is_number ws) small in
    let most = ltb-true w.most 65536 parts.0 in
    (omega (arith, within.1, most), are_small ws ns parts.1 within.2)

small_numbers : (words : List (List ℕ)) (name : List ℕ) (numbers : List ℕ) (texts : List (List ℕ)) → Says words name numbers texts → AreSmall numbers
small_numbers words name numbers texts says =
    let l = listed_by words name numbers texts says in
    are_small l.entry.wanted numbers l.made.numbers l.within

-- words of one name have as many numbers
as_many_numbers : (words : List (List ℕ)) (name : List ℕ) (ns ms : List ℕ) (ts us : List (List ℕ)) → Says words name ns ts → Says words name ms us → length ns ≡ length ms
as_many_numbers words name ns ms ts us says other =
    let l = listed_by words name ns ts says in
    let m = listed_by words name ms us other in
    let l_named = l.named in
    let m_named = m.named in
    let same : l.entry ≡ m.entry = cc (l_named, m_named) in
    as_many l.entry.wanted ns l.within ∙ ap (λ (e : Entry). length e.wanted) same ∙ sym (as_many m.entry.wanted ms m.within)

same_numbers : (ns ms : List ℕ) (ts us : List (List ℕ)) → AreSmall ns → AreSmall ms → length ns ≡ length ms → map decimal ns ++ ts ≡ map decimal ms ++ us → ns ≡ ms
same_numbers [] [] ts us small lesser each same = refl
same_numbers [] (m ∷ ms) ts us small lesser each same = absurd (omega (arith, each))
same_numbers (n ∷ ns) [] ts us small lesser each same = absurd (omega (arith, each))
same_numbers (n ∷ ns) (m ∷ ms) ts us small lesser each same =
    let first : decimal n ≡ decimal m = cc same in
    let rest : map decimal ns ++ ts ≡ map decimal ms ++ us = cc same in
    let behind : length ns ≡ length ms = omega (arith, each) in
    ap₂ (λ (x : ℕ) (xs : List ℕ). x ∷ xs) (decimal_injective n m (omega (arith, small.0)) (omega (arith, lesser.0)) first) (same_numbers ns ms ts us small.1 lesser.1 behind rest)

one_thing : (words : List (List ℕ)) (a b : Option Asked) → IsAsked words a → IsAsked words b → a ≡ b
one_thing words None None none other = refl
one_thing words None (Some b) none says =
    let s = asks words b says in
    absurd (none s.name s.numbers s.texts s.says)
one_thing words (Some a) None says none =
    let s = asks words a says in
    absurd (none s.name s.numbers s.texts s.says)
one_thing words (Some a) (Some b) first second =
    let s = asks words a first in
    let t = asks words b second in
    let name : s.name ≡ t.name = cc (s.says.told, t.says.told) in
    let behind : map decimal s.numbers ++ s.texts ≡ map decimal t.numbers ++ t.texts = cc (s.says.told, t.says.told) in
    let says = subst (λ n. Says words n s.numbers s.texts) name s.says in
    let each = as_many_numbers words t.name s.numbers t.numbers s.texts t.texts says t.says in
    let small = small_numbers words s.name s.numbers s.texts s.says in
    let numbers = same_numbers s.numbers t.numbers s.texts t.texts small (small_numbers words t.name t.numbers t.texts t.says) each behind in
    sym s.is ∙ ap₂ asked_by name numbers ∙ t.is

pub exactly : (words : List (List ℕ)) (asked b : Option Asked) → IsAsked words asked → (asked ≡ b) ↔ IsAsked words b
exactly words asked b is = ((λ same. subst (IsAsked words) same is), one_thing words asked b is)

-- the file of what is asked for, where there is one
abbrev pub TellsFile : List (List ℕ) → Option (List ℕ) → Type 0
TellsFile words file = (text : List ℕ) → (file ≡ Some text) ↔ HasFile words text

pub no_file : (words : List (List ℕ)) (asked : Option Asked) → IsAsked words asked → asks_journal asked ≡ false → TellsFile words None
no_file words asked is none text = (
  (λ some. absurd (cc some)),
  (λ has. let is_asked : IsAsked words (Some (ServeJournal has.0 has.1)) = (text, has.2) in
      let same = one_thing words asked (Some (ServeJournal has.0 has.1)) is is_asked in
      absurd (true≢false (sym (ap asks_journal same) ∙ none))),
)

-- it is the last of the words
last_file : (words before : List (List ℕ)) (file : List ℕ) (p w : ℕ) → IsAsked words (Some (ServeJournal p w)) → words ≡ before ++ file ∷ [] → TellsFile words (Some file)
last_file words before file p w is last text = (
  (λ same. let same_text : file ≡ text = cc same in
      (p, w, subst (IsServeJournal words p w) (sym (last_is words before file p w is.0 is.1 last) ∙ same_text) is.1)),
  (λ has. let file_is = last_is words before file has.0 has.1 text has.2 last in ap Some file_is),
)
  where
    last_of : List (List ℕ) → List ℕ
    last_of [] = []
    last_of (t ∷ []) = t
    last_of (t ∷ u ∷ ts) = last_of (u ∷ ts)

    last_behind : (before : List (List ℕ)) (file : List ℕ) → last_of (before ++ file ∷ []) ≡ file
    last_behind [] file = refl
    last_behind (t ∷ []) file = refl
    last_behind (t ∷ u ∷ ts) file = last_behind (u ∷ ts) file

    last_is : (words before : List (List ℕ)) (file : List ℕ) (p w : ℕ) (text : List ℕ) → IsServeJournal words p w text → words ≡ before ++ file ∷ [] → file ≡ text
    last_is words before file p w text says last = sym (last_behind before file) ∙ ap last_of (sym last ∙ says.told)

pub file_of_last : {X : Type 0} (f : X → List ℕ) (words : List (List ℕ)) (asked : Option Asked) (items left : List X) (last : Option X) (n : ℕ) → map f items ≡ words → n ≡ length items
    → items ≡ left ++ option_to_list last → (0 < n → IsSome last) → IsAsked words asked → asks_journal asked ≡ true → TellsFile words (option_map f last)
file_of_last f words None items left last n are len split some is journal = absurd (true≢false (sym journal))
file_of_last f words (Some Run) items left last n are len split some is journal = absurd (true≢false (sym journal))
file_of_last f words (Some (Generate k)) items left last n are len split some is journal = absurd (true≢false (sym journal))
file_of_last f words (Some (Serve p w)) items left last n are len split some is journal = absurd (true≢false (sym journal))
file_of_last f words (Some RequestLines) items left last n are len split some is journal = absurd (true≢false (sym journal))
file_of_last f words (Some Export) items left last n are len split some is journal = absurd (true≢false (sym journal))
file_of_last f words (Some (ServeJournal p w)) items left None n are len split some is journal =
    let four : length words ≡ 4 = ap length is.1.told in
    let as_many = length-map items f in
    let all : length (map f items) ≡ length words = ap length are in
    absurd (cc (some (omega (arith, len, four, as_many, all))))
file_of_last f words (Some (ServeJournal p w)) items left (Some x) n are len split some is journal =
    last_file words (map f left) (f x) p w is (sym are ∙ ap (map f) split ∙ map-append f left (x ∷ []))
