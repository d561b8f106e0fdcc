-- What the command makes of words that are no flags.
use Rattle.std.proofs.Common.{◌≡◌, ◌∙◌, ◌||◌, Bool, true, false, List, [], ◌∷◌, Option, Some, None, refl, sym, ap, cond, fold, map, option_map}
use Rattle.std.specs.List.{find}
use Rattle.std.specs.Str.{bytes_eq}
use Rattle.std.proofs.Math.Bool.{and-false}
use Rattle.clap.specs.Walk.{Names, Text, Walk, answers_to, nothing_held, rows_after, stop_after, walk_from, walked}
use Rattle.clap.specs.Simple.{App, Shape, built, entered, filled_from, is_simple, label_of, names_of, rows_at}
use Rattle.clap.specs.Kinds.{Kinds, or_else}
use Rattle.clap.specs.Faults.{built_fault, is_simple_and_free, defaults_fault, level_fault, walk_fault}
use Rattle.clap.specs.declared.error.kind.ErrorKind.TheVariants as kind
use Rattle.clap.proofs.FaultLemmas.{stopped_fault}
use Rattle.clap.proofs.OnLiterals.{clap_on_literals}
use Rattle.clap.proofs.WalkLemmas.{walk_stopped}
use Rattle.pm_words.specs.Lists.{Entry, entries, labels_of}
use Rattle.pm_words.specs.Told.{app, bare_app, value_rule}
use Rattle.pm_words.proofs.Behind.{IsPlain, built_shape}

-- a word, as the command is built
abbrev pub built_entry : Entry → Shape
built_entry entry = built_shape entry.name (filled_from 1 (map value_rule (labels_of entry)))

abbrev pub built_top : Shape
built_top = record bare_app.top { is_leaf = false; is_built = true }

abbrev pub built_with : List Entry → App
built_with es = record { top = built_top; subs = map built_entry es }

pub is_simple_app : is_simple app ≡ true
unfolding app clap_on_literals
is_simple_app = refl

pub is_free_app : is_simple_and_free app ≡ true
unfolding app clap_on_literals
is_free_app = refl

pub built_is : built app ≡ built_with entries
unfolding app
built_is = refl

-- ---- the word that is met

abbrev pub named_in : List Entry → Text → Option Entry
named_in es word = find (λ e. bytes_eq e.name word) es

either_way : {X Y : Type 0} (f : X → Y) (b : Bool) (x : X) (o : Option X) (p : Option Y) → option_map f o ≡ p
    → option_map f (cond b (Some x) o) ≡ cond (b || false) (Some (f x)) p
either_way f true x o p same = refl
either_way f false x o p same = same

pub shape_met : (word : Text) (es : List Entry) → option_map built_entry (named_in es word) ≡ find (λ s. answers_to word (label_of s)) (map built_entry es)
shape_met word [] = refl
shape_met word (e ∷ es) = either_way built_entry (bytes_eq e.name word) e (named_in es word) _ (shape_met word es)

pub label_met : (word : Text) (es : List Entry) → option_map {U = Text × List Text} (λ e. (e.name, [])) (named_in es word) ≡ find (answers_to word) (map label_of (map built_entry es))
label_met word [] = refl
label_met word (e ∷ es) = either_way (λ (e : Entry). (e.name, [])) (bytes_eq e.name word) e (named_in es word) _ (label_met word es)

-- a walk that has met a word leaves it the words behind
abbrev stopped_at : Text → List Text → Walk
stopped_at name rest = record (walk_from nothing_held) { stopped = Some (name, rest) }

pub or_else-nil : (kinds : Kinds) → or_else kinds [] ≡ kinds
or_else-nil [] = refl
or_else-nil (k ∷ ks) = refl

module _ (es : List Entry) where
  abbrev a : App
  a = built_with es

  abbrev names : Names
  names = names_of a

  pub no_word : built_fault a nothing_held [] ≡ kind.MissingSubcommand ∷ []
  unfolding walk_fault defaults_fault
  no_word = refl

  pub other_word : (word : Text) (rest : List Text) → IsPlain word → named_in es word ≡ None
      → built_fault a nothing_held (word ∷ rest) ≡ kind.UnknownArgument ∷ kind.InvalidSubcommand ∷ []
  unfolding walk_fault
  other_word word rest p is =
      let none : find (answers_to word) names ≡ None = sym (label_met word es) ∙ ap (option_map (λ (e : Entry). (e.name, []))) is in
      let pl = p.long in let ps = p.short in let pd = p.dashes in
      simp (none, pl, ps, pd)

  module _ (e : Entry) (rest : List Text) (is : named_in es e.name ≡ Some e) where
    met : find (answers_to e.name) names ≡ Some (e.name, [])
    met = sym (label_met e.name es) ∙ ap (option_map (λ (e : Entry). (e.name, []))) is

    shape : find (λ s. answers_to e.name (label_of s)) (map built_entry es) ≡ Some (built_entry e)
    shape = sym (shape_met e.name es) ∙ ap (option_map built_entry) is

    first : walked [] names (walk_from nothing_held) e.name ≡ stopped_at e.name []
    unfolding walked
    first =
        let here = met in
        simp here

    stops : fold (walked [] names) (walk_from nothing_held) (e.name ∷ rest) ≡ stopped_at e.name rest
    stops = ap (λ (w : Walk). fold (walked [] names) w rest) first ∙ sym (walk_stopped [] names (walk_from nothing_held) e.name [] rest)

    no_fault : walk_fault built_top names (walk_from nothing_held) (e.name ∷ rest) ≡ []
    unfolding walk_fault
    no_fault =
        let here = met in
        let begun = first in
        let behind = stopped_fault built_top names (walk_from nothing_held) (e.name, []) rest in
        simp (here, begun, behind, and-false)

    pub word_fault : built_fault a nothing_held (e.name ∷ rest) ≡ level_fault (built_entry e) [] nothing_held rest false []
    unfolding defaults_fault
    word_fault =
        let right = no_fault in
        let stop = stops in
        let found = shape in
        simp (right, stop, found) (or_else-nil _)

    pub word_met : entered a (stop_after [] names (e.name ∷ rest)) ≡ Some (e.name, rows_after (built_entry e).rules [] rest)
    word_met = ap (λ (w : Walk). entered a w.stopped) stops ∙ ap (option_map (λ (s : Shape). rows_at s rest)) shape
