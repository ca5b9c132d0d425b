-- Entries, the parts of a route. A text or a name is the list of its bytes.
use Rattle.std.specs.Prelude.{ℕ, Bool, true, false, ◌&&◌, List, [], ◌∷◌, length, drop, Some, None, Option, nat_le}
use Rattle.rules.specs.Paths.{is_slash, slash_free}

-- ENTRY: Unit; Static with a text; Param, OptionalParam or Splat with a name.
pub data Entry : Type 0 where
  unit : Entry
  static : List ℕ → Entry
  param : List ℕ → Entry
  optional : List ℕ → Entry
  splat : List ℕ → Entry

-- the most bytes of a static text, and of a name
abbrev pub longest_text : ℕ
longest_text = 24

-- a static text: at most 24 bytes, with no slash after the first
abbrev pub lawful_text : List ℕ → Bool
lawful_text t = nat_le (length t) longest_text && slash_free (drop 1 t)

-- a name: 1 to 24 bytes of any kind
abbrev pub lawful_name : List ℕ → Bool
lawful_name t = nat_le 1 (length t) && nat_le (length t) longest_text

abbrev pub lawful_entry : Entry → Bool
lawful_entry unit = true
lawful_entry (static t) = lawful_text t
lawful_entry (param x) = lawful_name x
lawful_entry (optional x) = lawful_name x
lawful_entry (splat x) = lawful_name x

abbrev pub lawful_entries : List Entry → Bool
lawful_entries [] = true
lawful_entries (e ∷ es) = lawful_entry e && lawful_entries es

abbrev pub is_optional : Entry → Bool
is_optional unit = false
is_optional (static t) = false
is_optional (param x) = false
is_optional (optional x) = true
is_optional (splat x) = false

-- the bare slash, "/", as a text and as an entry
abbrev pub is_bare_text : List ℕ → Bool
is_bare_text [] = false
is_bare_text (b ∷ []) = is_slash b
is_bare_text (b ∷ (c ∷ t)) = false

abbrev pub is_bare : Entry → Bool
is_bare unit = false
is_bare (static t) = is_bare_text t
is_bare (param x) = false
is_bare (optional x) = false
is_bare (splat x) = false

-- whether an entry that a list keeps owes a parameter record
abbrev pub has_value : Entry → Bool
has_value unit = false
has_value (static t) = false
has_value (param x) = true
has_value (optional x) = true
has_value (splat x) = true

-- THE MEANING OF A KIND is one entry, or none. These read the same off a meaning.
abbrev pub lawful_meaning : Option Entry → Bool
lawful_meaning None = true
lawful_meaning (Some e) = lawful_entry e

abbrev pub means_optional : Option Entry → Bool
means_optional None = false
means_optional (Some e) = is_optional e

abbrev pub means_bare : Option Entry → Bool
means_bare None = false
means_bare (Some e) = is_bare e

abbrev pub means_value : Option Entry → Bool
means_value None = false
means_value (Some e) = has_value e

abbrev pub means_count : Option Entry → ℕ
means_count None = 0
means_count (Some e) = 1

-- the meaning of a first kind in front of a list
abbrev pub with_entry : Option Entry → List Entry → List Entry
with_entry None es = es
with_entry (Some e) es = e ∷ es
