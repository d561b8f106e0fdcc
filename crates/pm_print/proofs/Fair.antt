-- The values that lines are made of (whole numbers below 2^64, texts in UTF-8, lists, and objects with their keys in order):
-- the compact text of one is read as that value.
use Rattle.std.proofs.Common.{◌≡◌, ℕ, ◌≤◌, ◌<◌, ◌^◌, List, [], ◌∷◌, ◌&&◌, Bool, true, false, IsUtf8, Some, decimal, max, suc, option_map, option_and_then, refl, sym, ap, ap₂, ◌∙◌, append-nil}
use Rattle.std.proofs.lemmas.Bool.{and_parts, and_from}
use Rattle.std.proofs.lemmas.Fmt.{IsAscii-decimal}
use Rattle.std.proofs.lemmas.Str.{IsUtf8-append, IsUtf8-from_ascii}
use Rattle.std.specs.Ordering.{nat_cmp, is_gt, match_ordering}
use Rattle.std.specs.Cmp.Lexicographic.{slice_cmp}
use Rattle.std.specs.declared.cmp.Ordering.{Ordering}
use Rattle.std.specs.declared.cmp.Ordering.TheVariants.{Less, Equal, Greater}
use Rattle.json.specs.Lex.{tokens}
use Rattle.json.specs.Json as json
use Rattle.json.specs.Tree as tree
use Rattle.json.proofs.Printed.Decimals.{IsNumber-decimal}
use Rattle.json.proofs.Printed.Tokens.{tokens-print}
use Rattle.json.proofs.Printed.Trees.{ArePrintable-json_tokens, value-json_tokens}
use Rattle.json.proofs.Printed.Utf8.{IsUtf8-are_ascii, IsUtf8-quoted, IsUtf8-boolean}
use Rattle.serde_json.specs.Data.{Num, unsigned, negative, float, Data, null, boolean, number, string, array, object, Items, no_items, item, Members, no_members, member, put, depth, items_depth, members_depth}
use Rattle.serde_json.specs.Read.{read, max_depth, of_json, of_items, of_members}
use Rattle.serde_json.specs.Written.{outline, items_outline, members_outline, compact_text, comma_if, items_text, members_text}
use Rattle.serde_json.proofs.Numbers.{number_of-decimal}
use Rattle.serde_json.proofs.Texts.{print-outline}

-- each key stands above k
abbrev pub all_above : List ℕ → Members → Bool
all_above k no_members = true
all_above k (member l e ms) = is_gt (slice_cmp nat_cmp l k) && all_above k ms

abbrev pub IsWhole : Num → Type 0
IsWhole (unsigned n) = n < 2 ^ 64
IsWhole (negative z) = ⊥
IsWhole (float x) = ⊥

abbrev mutual
  pub IsFair : Data → Type 0
  IsFair null = Unit {0}
  IsFair (boolean b) = Unit {0}
  IsFair (number n) = IsWhole n
  IsFair (string s) = IsUtf8 s
  IsFair (array ds) = ItemsFair ds
  IsFair (object ms) = MembersFair ms

  pub ItemsFair : Items → Type 0
  ItemsFair no_items = Unit {0}
  ItemsFair (item d ds) = IsFair d × ItemsFair ds

  pub MembersFair : Members → Type 0
  MembersFair no_members = Unit {0}
  MembersFair (member k d ms) = IsUtf8 k × IsFair d × (all_above k ms ≡ true) × MembersFair ms

-- ---- members go in at the end, where their keys stand in order

abbrev joined : Members → Members → Members
joined no_members ms = ms
joined (member k d found) ms = member k d (joined found ms)

-- k stands above each key
abbrev above_all : List ℕ → Members → Bool
above_all k no_members = true
above_all k (member l e ms) = is_gt (slice_cmp nat_cmp k l) && above_all k ms

-- each key of the second stands above each of the first
abbrev all_above_all : Members → Members → Bool
all_above_all found no_members = true
all_above_all found (member k d ms) = above_all k found && all_above_all found ms

put_past : (o : Ordering) (a b c : Members) → is_gt o ≡ true → match_ordering o a b c ≡ c
put_past Less a b c h = absurd cc
put_past Equal a b c h = absurd cc
put_past Greater a b c h = refl

put-last : (k : List ℕ) (d : Data) (found : Members) → above_all k found ≡ true → put k d found ≡ joined found (member k d no_members)
put-last k d no_members h = refl
put-last k d (member l e ms) h =
    let p = and_parts _ _ h in
    put_past (slice_cmp nat_cmp k l) _ _ _ p.0 ∙ ap (member l e) (put-last k d ms p.1)

above_all-joined : (l k : List ℕ) (d : Data) (found : Members) → above_all l found ≡ true → is_gt (slice_cmp nat_cmp l k) ≡ true → above_all l (joined found (member k d no_members)) ≡ true
above_all-joined l k d no_members h g = and_from _ _ g refl
above_all-joined l k d (member m e ms) h g = let p = and_parts _ _ h in and_from _ _ p.0 (above_all-joined l k d ms p.1 g)

more_above : (found : Members) (k : List ℕ) (d : Data) (ms : Members) → all_above_all found ms ≡ true → all_above k ms ≡ true → all_above_all (joined found (member k d no_members)) ms ≡ true
more_above found k d no_members h g = refl
more_above found k d (member l e ms) h g =
    let p = and_parts _ _ h in
    let q = and_parts _ _ g in
    and_from _ _ (above_all-joined l k d found p.0 q.0) (more_above found k d ms p.1 q.1)

joined-joined : (found : Members) (k : List ℕ) (d : Data) (ms : Members) → joined (joined found (member k d no_members)) ms ≡ joined found (member k d ms)
joined-joined no_members k d ms = refl
joined-joined (member l e found) k d ms = ap (member l e) (joined-joined found k d ms)

all_above_none : (ms : Members) → all_above_all no_members ms ≡ true
all_above_none no_members = refl
all_above_none (member k d ms) = all_above_none ms

joined-nil : (found : Members) → joined found no_members ≡ found
joined-nil no_members = refl
joined-nil (member k d ms) = ap (member k d) (joined-nil ms)

-- ---- the outline is read as the value

mutual
  of_json-outline : (d : Data) → IsFair d → of_json (outline d) ≡ Some d
  of_json-outline null h = refl
  of_json-outline (boolean b) h = refl
  of_json-outline (number (unsigned n)) h = ap (option_map number) (number_of-decimal n h)
  of_json-outline (number (negative z)) h = absurd h
  of_json-outline (number (float x)) h = absurd h
  of_json-outline (string s) h = refl
  of_json-outline (array ds) h = ap (option_map array) (of_items-outline ds h)
  of_json-outline (object ms) h = ap (option_map object) (of_members-outline ms no_members h (all_above_none ms))

  of_items-outline : (ds : Items) → ItemsFair ds → of_items (items_outline ds) ≡ Some ds
  of_items-outline no_items h = refl
  of_items-outline (item d ds) h = rw (of_json-outline d h.0, of_items-outline ds h.1) refl

  of_members-outline : (ms found : Members) → MembersFair ms → all_above_all found ms ≡ true → of_members (members_outline ms) found ≡ Some (joined found ms)
  of_members-outline no_members found h g = ap Some (sym (joined-nil found))
  of_members-outline (member k d ms) found h g =
      let p = and_parts _ _ g in
      ap (option_and_then (λ e. of_members (members_outline ms) (put k e found))) (of_json-outline d h.1)
      ∙ ap (of_members (members_outline ms)) (put-last k d found p.0)
      ∙ of_members-outline ms (joined found (member k d no_members)) h.3 (more_above found k d ms p.1 h.2)
      ∙ ap Some (joined-joined found k d ms)

mutual
  HasNumbers-outline : (d : Data) → IsFair d → tree.HasNumbers (outline d)
  HasNumbers-outline null h = tt
  HasNumbers-outline (boolean b) h = tt
  HasNumbers-outline (number (unsigned n)) h = IsNumber-decimal n h
  HasNumbers-outline (number (negative z)) h = absurd h
  HasNumbers-outline (number (float x)) h = absurd h
  HasNumbers-outline (string s) h = tt
  HasNumbers-outline (array ds) h = ItemsHaveNumbers-outline ds h
  HasNumbers-outline (object ms) h = MembersHaveNumbers-outline ms h

  ItemsHaveNumbers-outline : (ds : Items) → ItemsFair ds → tree.ItemsHaveNumbers (items_outline ds)
  ItemsHaveNumbers-outline no_items h = tt
  ItemsHaveNumbers-outline (item d ds) h = (HasNumbers-outline d h.0, ItemsHaveNumbers-outline ds h.1)

  MembersHaveNumbers-outline : (ms : Members) → MembersFair ms → tree.MembersHaveNumbers (members_outline ms)
  MembersHaveNumbers-outline no_members h = tt
  MembersHaveNumbers-outline (member k d ms) h = (HasNumbers-outline d h.1, MembersHaveNumbers-outline ms h.3)

mutual
  depth-outline : (d : Data) → tree.depth (outline d) ≡ depth d
  depth-outline null = refl
  depth-outline (boolean b) = refl
  depth-outline (number n) = refl
  depth-outline (string s) = refl
  depth-outline (array ds) = ap suc (items_depth-outline ds)
  depth-outline (object ms) = ap suc (members_depth-outline ms)

  items_depth-outline : (ds : Items) → tree.items_depth (items_outline ds) ≡ items_depth ds
  items_depth-outline no_items = refl
  items_depth-outline (item d ds) = ap₂ max (depth-outline d) (items_depth-outline ds)

  members_depth-outline : (ms : Members) → tree.members_depth (members_outline ms) ≡ members_depth ms
  members_depth-outline no_members = refl
  members_depth-outline (member k d ms) = ap₂ max (depth-outline d) (members_depth-outline ms)

tokens-compact : (d : Data) → IsFair d → tokens (compact_text d) ≡ tree.json_tokens (outline d)
tokens-compact d h = ap tokens (sym (print-outline d)) ∙ tokens-print (tree.json_tokens (outline d)) (ArePrintable-json_tokens (outline d) (HasNumbers-outline d h))

pub read-compact : (d : Data) → IsFair d → depth d ≤ max_depth → read (compact_text d) ≡ Some d
read-compact d h shallow =
    ap (λ o. option_and_then of_json (option_and_then (λ p. json.if_last p.0 p.1) o))
    (ap (json.value max_depth) (tokens-compact d h ∙ sym (append-nil _))
    ∙ value-json_tokens (outline d) max_depth [] (rw (depth-outline d) shallow))
    ∙ of_json-outline d h

-- ---- the text is UTF-8

byte_then : (x : ℕ) (s : List ℕ) → IsUtf8 (x ∷ []) → IsUtf8 s → IsUtf8 (x ∷ s)
byte_then x s one rest = IsUtf8-append (x ∷ []) s one rest

comma : (later : Bool) → IsUtf8 (comma_if later)
comma true = IsUtf8-are_ascii (44 ∷ []) refl
comma false = IsUtf8-are_ascii [] refl

mutual
  pub IsUtf8-compact : (d : Data) → IsFair d → IsUtf8 (compact_text d)
  IsUtf8-compact null h = IsUtf8-are_ascii _ refl
  IsUtf8-compact (boolean b) h = IsUtf8-boolean b
  IsUtf8-compact (number (unsigned n)) h = IsUtf8-from_ascii (decimal n) (IsAscii-decimal n h)
  IsUtf8-compact (number (negative z)) h = absurd h
  IsUtf8-compact (number (float x)) h = absurd h
  IsUtf8-compact (string s) h = IsUtf8-quoted s h
  IsUtf8-compact (array ds) h = byte_then 91 _ (IsUtf8-are_ascii (91 ∷ []) refl) (IsUtf8-items false ds h)
  IsUtf8-compact (object ms) h = byte_then 123 _ (IsUtf8-are_ascii (123 ∷ []) refl) (IsUtf8-members false ms h)

  IsUtf8-items : (later : Bool) (ds : Items) → ItemsFair ds → IsUtf8 (items_text later ds)
  IsUtf8-items later no_items h = IsUtf8-are_ascii (93 ∷ []) refl
  IsUtf8-items later (item d ds) h = IsUtf8-append _ _ (comma later) (IsUtf8-append _ _ (IsUtf8-compact d h.0) (IsUtf8-items true ds h.1))

  IsUtf8-members : (later : Bool) (ms : Members) → MembersFair ms → IsUtf8 (members_text later ms)
  IsUtf8-members later no_members h = IsUtf8-are_ascii (125 ∷ []) refl
  IsUtf8-members later (member k d ms) h =
      IsUtf8-append _ _ (comma later)
      (IsUtf8-append _ _ (IsUtf8-quoted k h.0)
      (byte_then 58 _ (IsUtf8-are_ascii (58 ∷ []) refl)
      (IsUtf8-append _ _ (IsUtf8-compact d h.1) (IsUtf8-members true ms h.3))))
