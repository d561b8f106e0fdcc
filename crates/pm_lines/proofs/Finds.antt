-- What a form finds and a row gives: a property of it, where it is there.
use Rattle.std.proofs.Common.{◌≡◌, Bool, true, false, Option, None, Some, Result, Ok, Err, IfSome, IfOk, option_and_then, option_map, if◌then◌else◌, refl}
use Rattle.serde_json.specs.Data.{Data}
use Rattle.pm_model.specs.Asked as rows
use Rattle.pm_model.specs.Results.{and_then}
use Rattle.pm_model.specs.declared.lines.BadLine.{BadLine}
use Rattle.pm_model.specs.declared.words.Key.{Key}

-- ---- what a form finds, if it does, has the property

pub record Finds {A : Type 0} (P : A → Type 0) (o : Option A) : Type 0 where
  pub each : IfSome o P

pub found : {A : Type 0} (P : A → Type 0) (a : A) → P a → Finds P (Some a)
found P a has = record { each = has }

pub nothing : {A : Type 0} (P : A → Type 0) → Finds P None
nothing P = record { each = tt }

pub next : {A B : Type 0} (Q : A → Type 0) (P : B → Type 0) (f : A → Option B) (o : Option A) → Finds Q o → ((a : A) → Q a → Finds P (f a)) → Finds P (option_and_then f o)
next Q P f None has later = record { each = tt }
next Q P f (Some a) has later = later a has.each

pub mapped : {A B : Type 0} (Q : A → Type 0) (P : B → Type 0) (f : A → B) (o : Option A) → Finds Q o → ((a : A) → Q a → P (f a)) → Finds P (option_map f o)
mapped Q P f None has later = record { each = tt }
mapped Q P f (Some a) has later = record { each = later a has.each }

abbrev pub Any : {A : Type 0} → A → Type 0
Any a = Unit {0}

pub any : {A : Type 0} (o : Option A) → Finds Any o
any None = record { each = tt }
any (Some a) = record { each = tt }

pub if_finds : {A : Type 0} (P : A → Type 0) (b : Bool) (o rest : Option A) → (b ≡ true → Finds P o) → Finds P rest → Finds P (if b then o else rest)
if_finds P true o rest first later = first refl
if_finds P false o rest first later = later

-- at a key, or of a value
pub of_form : {A : Type 0} (P : A → Type 0) (form : Data → Option A) → ((d : Data) → Finds P (form d)) → (o : Option Data) → Finds P (option_and_then form o)
of_form P form reads o = next Any P form o (any o) (λ d u. reads d)

-- ---- what a row gives, if it does, has the property

pub record Gives {A : Type 0} (P : A → Type 0) (r : Result A BadLine) : Type 0 where
  pub each : IfOk r P

pub here : {A : Type 0} (P : A → Type 0) (a : A) → P a → Gives P (Ok a)
here P a has = record { each = has }

pub after : {A B : Type 0} (Q : A → Type 0) (P : B → Type 0) (f : A → Result B BadLine) (r : Result A BadLine) → Gives Q r → ((a : A) → Q a → Gives P (f a)) → Gives P (and_then r f)
after Q P f (Ok a) gives later = later a gives.each
after Q P f (Err e) gives later = record { each = tt }

pub required : {A : Type 0} (P : A → Type 0) (k : Key) (o : Option A) → Finds P o → Gives P (rows.required k o)
required P k None finds = record { each = tt }
required P k (Some a) finds = record { each = finds.each }
