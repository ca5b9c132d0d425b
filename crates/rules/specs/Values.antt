-- THE VALUES that paths are written with, and the paths of a list.
use Rattle.std.specs.Prelude.{ℕ, ◌+◌, cond, ◌||◌, List, [], ◌∷◌, Some, None, Option, slice_index_or}
use Rattle.std.specs.Str.{bytes_eq}
use Rattle.rules.specs.declared.values.ValueRecord.{ValueRecord}
use Rattle.rules.specs.declared.refusal.Cause.TheVariants.{Place}
use Rattle.rules.specs.declared.refusal.EntryFault.{EntryFault}
use Rattle.rules.specs.Entries.{Entry, unit, static, param, optional, splat, has_value}
use Rattle.rules.specs.Choices.{choices, Apart}
use Rattle.rules.specs.TextParts.{bytes_in, outside}
use Rattle.rules.specs.Writing.{written}

-- the first value record of which a place lies outside the text, by its number
abbrev pub value_fault : List ℕ → ℕ → List ValueRecord → Option EntryFault
value_fault text i [] = None
value_fault text i (r ∷ rs) = cond (outside text r.name || outside text r.value) (Some (record { number = i; cause = Place })) (value_fault text (i + 1) rs)

-- the numbers of the value records that have a name, of records numbered from i
abbrev pub named_from : List ℕ → List ℕ → ℕ → List ValueRecord → List ℕ
named_from text x i [] = []
named_from text x i (r ∷ rs) = cond (bytes_eq (bytes_in text r.name) x) (i ∷ named_from text x (i + 1) rs) (named_from text x (i + 1) rs)

-- the name of an entry with a value
abbrev pub name_of_entry : Entry → List ℕ
name_of_entry unit = []
name_of_entry (static t) = []
name_of_entry (param x) = x
name_of_entry (optional x) = x
name_of_entry (splat x) = x

abbrev pub somes : List ℕ → List (Option ℕ)
somes [] = []
somes (n ∷ ns) = Some n ∷ somes ns

-- what an entry may be written with: one of the value records of its name or, if it has no value, nothing
abbrev pub choices_for : List ℕ → List ValueRecord → Entry → List (Option ℕ)
choices_for text rs e = cond (has_value e) (somes (named_from text (name_of_entry e) 0 rs)) (None ∷ [])

abbrev pub choices_for_all : List ℕ → List ValueRecord → List Entry → List (List (Option ℕ))
choices_for_all text rs [] = []
choices_for_all text rs (e ∷ es) = choices_for text rs e ∷ choices_for_all text rs es

-- ALL CHOICES of value records for a list, the first entry's changing slowest
abbrev pub path_choices : List ℕ → List ValueRecord → List Entry → List (List (Option ℕ))
path_choices text rs es = choices (choices_for_all text rs es)

-- the value of a record
abbrev pub no_value : ValueRecord
no_value = record { name = record { start = 0; len = 0 }; value = record { start = 0; len = 0 } }

abbrev pub value_of : List ℕ → List ValueRecord → Option ℕ → List ℕ
value_of text rs None = []
value_of text rs (Some i) = bytes_in text (slice_index_or rs i no_value).value

abbrev pub values_of : List ℕ → List ValueRecord → List (Option ℕ) → List (List ℕ)
values_of text rs [] = []
values_of text rs (c ∷ cs) = value_of text rs c ∷ values_of text rs cs

-- THE PATH of a number: what the list writes with the choice of that number
abbrev pub path_values : List ℕ → List ValueRecord → List Entry → ℕ → List (List ℕ)
path_values text rs es n = values_of text rs (slice_index_or (path_choices text rs es) n [])

abbrev pub path_of : List ℕ → List ValueRecord → List Entry → ℕ → List ℕ
path_of text rs es n = written es (path_values text rs es n)

-- Two different numbers choose different value records for some entry.
abbrev pub PathsApart : Type 0
PathsApart = (text : List ℕ) (rs : List ValueRecord) (es : List Entry) → Apart (path_choices text rs es) []
