-- WRITING: the path that a list of entries without OptionalParam writes with some values, one for each entry; an entry without a
-- value passes its one over.
use Rattle.std.specs.Prelude.{◌≡◌, ℕ, ◌≤◌, Bool, true, false, cond, not, ◌&&◌, List, [], ◌∷◌, ◌++◌, length}
use Rattle.rules.specs.Paths.{slash, is_slash, longest_path, lawful}
use Rattle.rules.specs.Entries.{Entry, unit, static, param, optional, splat, is_bare_text, lawful_entries}
use Rattle.rules.specs.Pieces.{Value}
use Rattle.rules.specs.Spelling.{Cut, Spells}
use Rattle.rules.specs.Forests.{Forest, lawful_forest}
use Rattle.rules.specs.KeptLists.{KeptList, kept, entries_of}
use Rattle.rules.specs.Admission.{Spelled, FirstSpelled}

-- a slash in front, unless there is one
abbrev pub with_slash : List ℕ → List ℕ
with_slash [] = slash ∷ []
with_slash (b ∷ t) = cond (is_slash b) (b ∷ t) (slash ∷ (b ∷ t))

-- Unit and the empty static write nothing
abbrev pub is_silent : Entry → Bool
is_silent unit = true
is_silent (static []) = true
is_silent (static (b ∷ t)) = false
is_silent (param x) = false
is_silent (optional x) = false
is_silent (splat x) = false

abbrev pub all_silent : List Entry → Bool
all_silent [] = true
all_silent (e ∷ es) = is_silent e && all_silent es

abbrev pub text_written : List ℕ → List ℕ
text_written [] = []
text_written (b ∷ t) = with_slash (b ∷ t)

-- What one entry writes with its value; a bare slash only where it is due.
abbrev pub bytes_of : Entry → List ℕ → Bool → List ℕ
bytes_of unit v due = []
bytes_of (static t) v due = cond (is_bare_text t) (cond due (slash ∷ []) []) (text_written t)
bytes_of (param x) v due = with_slash v
bytes_of (optional x) v due = []
bytes_of (splat x) v due = with_slash v

-- whether a path ends with a slash behind some bytes more, where it does or does not before them
abbrev pub ends_slash : Bool → List ℕ → Bool
ends_slash ended [] = ended
ends_slash ended (b ∷ t) = ends_slash (is_slash b) t

-- the first of some values, and the others; past the last there is only the empty one
abbrev pub first_value : List (List ℕ) → List ℕ
first_value [] = []
first_value (v ∷ vs) = v

abbrev pub other_values : List (List ℕ) → List (List ℕ)
other_values [] = []
other_values (v ∷ vs) = vs

-- what an entry writes behind a path, in front of some entries: a bare slash is due where nothing is written behind it, and the
-- path does not end so already
abbrev pub bytes_at : Bool → Entry → List Entry → List ℕ → List ℕ
bytes_at ended e es v = bytes_of e v (all_silent es && not ended)

-- what some entries write behind a path that ends with a slash or does not
abbrev pub written_after : Bool → List Entry → List (List ℕ) → List ℕ
written_after ended [] vs = []
written_after ended (e ∷ es) vs = bytes_at ended e es (first_value vs) ++ written_after (ends_slash ended (bytes_at ended e es (first_value vs))) es (other_values vs)

-- THE WRITTEN PATH
abbrev pub written : List Entry → List (List ℕ) → List ℕ
written es vs = written_after false es vs

-- VALUES THAT FIT: that of a Param is not empty and without a slash; nothing but Unit and the empty static follows a Splat; no
-- entry is optional.
abbrev pub Fitting : Entry → List ℕ → List Entry → Type 0
Fitting unit v es = Unit {0}
Fitting (static t) v es = Unit {0}
Fitting (param x) v es = Value v
Fitting (optional x) v es = ⊥
Fitting (splat x) v es = all_silent es ≡ true

abbrev pub AllFitting : List Entry → List (List ℕ) → Type 0
AllFitting [] vs = Unit {0}
AllFitting (e ∷ es) vs = Fitting e (first_value vs) es × AllFitting es (other_values vs)

-- and the path has at most 2,048 bytes
pub record Fits (es : List Entry) (vs : List (List ℕ)) : Type 0 where
  pub values : AllFitting es vs
  pub short : length (written es vs) ≤ longest_path

-- A path that is written with fitting values spells its list.
abbrev pub WritingSpells : Type 0
WritingSpells = (es : List Entry) (vs : List (List ℕ)) → lawful_entries es ≡ true → AllFitting es vs → (cs : List Cut) × Spells es (written es vs) cs

-- A path that is written from a kept list of a forest with fitting values is lawful, spells that list, and is admitted, by it or
-- an earlier one.
pub record ReadBack (f : Forest) (before : List KeptList) (k : KeptList) (p : List ℕ) : Type 0 where
  pub lawful : lawful p ≡ true
  pub spelled : Spelled p k
  pub admitted : (j : KeptList) × FirstSpelled p (before ++ (k ∷ [])) j × FirstSpelled p (kept f) j

abbrev pub WrittenReadBack : Forest → Type 0
WrittenReadBack f = (before after : List KeptList) (k : KeptList) (vs : List (List ℕ)) → kept f ≡ before ++ (k ∷ after) → Fits (entries_of k.routes) vs → ReadBack f before k (written (entries_of k.routes) vs)

abbrev pub WritingReadBack : Type 0
WritingReadBack = (f : Forest) → lawful_forest f ≡ true → WrittenReadBack f
