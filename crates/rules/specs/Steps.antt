-- The reader's steps, entry by entry. Nothing here is to be believed: the law that what is read so is the answer of the first
-- kept list that the path spells, and nothing just where none is spelled, is proved of them (Admission, `ReaderAdmits`).
use Rattle.std.specs.Prelude.{◌≡◌, ℕ, ◌+◌, ◌-◌, Bool, true, false, cond, ◌||◌, List, [], ◌∷◌, ◌++◌, length, drop, Some, None, Option, nat_le, nat_lt}
use Rattle.rules.specs.declared.records.LevelRecord.{LevelRecord}
use Rattle.rules.specs.declared.records.ParamRecord.{ParamRecord}
use Rattle.rules.specs.declared.records.LineRecord.{LineRecord}
use Rattle.rules.specs.declared.segment.PathSegment.{PathSegment}
use Rattle.rules.specs.Choice.{or_else}
use Rattle.rules.specs.Paths.{is_slash}
use Rattle.rules.specs.Entries.{Entry, is_optional, is_bare, has_value}
use Rattle.rules.specs.Taking.{Taken, nothing, taking}
use Rattle.rules.specs.Keeping.{as_kept, still_kept, keep_or_drop, Numbered}
use Rattle.rules.specs.KeptLists.{KeptRoute, KeptList, entries_of}
use Rattle.rules.specs.Answers.{Answer, no_records, any_bare, part_length}
use Rattle.rules.specs.Records.{overlaid, records_of}
use Rattle.rules.specs.Forests.{Forest}
use Rattle.rules.specs.Lines.{Line, line_record, lines}

abbrev pub and_then : {A B : Type 0} → Option A → (A → Option B) → Option B
and_then None f = None
and_then (Some a) f = f a

abbrev pub is_ending : List ℕ → Bool
is_ending [] = true
is_ending (b ∷ []) = is_slash b
is_ending (b ∷ (c ∷ p)) = false

-- what the meaning of a kind takes of a rooted path
abbrev pub meaning_takes : Option Entry → List ℕ → Option Taken
meaning_takes None p = Some nothing
meaning_takes (Some e) p = taking e p

-- a meaning where it is kept
abbrev pub meaning_kept : Option Entry → Option Entry
meaning_kept None = None
meaning_kept (Some e) = Some (as_kept e)

-- what is left of some entries where the first n OptionalParams are kept, without numbers
abbrev pub kept_entries : ℕ → List Entry → List Entry
kept_entries n [] = []
kept_entries n (e ∷ es) = keep_or_drop (still_kept (is_optional e) n) (kept_entries 0 es) (λ m. as_kept e ∷ kept_entries m es)

abbrev pub has_bare : List Entry → Bool
has_bare [] = false
has_bare (e ∷ es) = is_bare e || has_bare es

-- how many bytes and values a list takes
abbrev pub add_taken : Taken → Bool → Option (ℕ × ℕ) → Option (ℕ × ℕ)
add_taken t v None = None
add_taken t v (Some u) = Some (t.0 + u.0, u.1 + cond v 1 0)

abbrev pub list_takes : List Entry → List ℕ → Option (ℕ × ℕ)
list_takes [] p = Some (0, 0)
list_takes (e ∷ es) p = and_then (taking e p) (λ t. add_taken t (has_value e) (list_takes es (drop t.0 p)))

-- what one route's kept entries read: the bytes taken, and the parameter records
abbrev pub value_record : Bool → ℕ → ℕ → ℕ → Taken → List ParamRecord
value_record v number level at t = cond v (record { level = level; entry = number; start = at + t.1; len = t.2 } ∷ []) []

abbrev pub add_read : Taken → List ParamRecord → Option (ℕ × List ParamRecord) → Option (ℕ × List ParamRecord)
add_read t rs None = None
add_read t rs (Some u) = Some (t.0 + u.0, rs ++ u.1)

abbrev pub list_reads : List Numbered → ℕ → ℕ → List ℕ → Option (ℕ × List ParamRecord)
list_reads [] level at p = Some (0, [])
list_reads (k ∷ ks) level at p = and_then (taking k.entry p) (λ t. add_read t (value_record (has_value k.entry) k.number level at t) (list_reads ks level (at + t.0) (drop t.0 p)))

-- the bytes taken, and how many records there are
abbrev pub count_read : Option (ℕ × List ParamRecord) → Option (ℕ × ℕ)
count_read None = None
count_read (Some u) = Some (u.0, length u.1)

-- a buffer after its records were written over its front
abbrev pub read_into : Option (ℕ × List ParamRecord) → List ParamRecord → List ParamRecord
read_into None ys = ys
read_into (Some u) ys = overlaid ys u.1

-- what a kept list reads
abbrev pub add_level : KeptRoute → ℕ → ℕ × List ParamRecord → Option Answer → Option Answer
add_level k at u None = None
add_level k at u (Some a) = Some (record { levels = record { id = k.id; start = at; len = part_length (any_bare k.entries) u.0 } ∷ a.levels; params = u.1 ++ a.params })

abbrev pub kept_reads : List KeptRoute → ℕ → ℕ → List ℕ → Option Answer
kept_reads [] level at p = cond (is_ending p) (Some no_records) None
kept_reads (k ∷ ks) level at p = and_then (list_reads k.entries level at p) (λ u. add_level k at u (kept_reads ks (level + 1) (at + u.0) (drop u.0 p)))

-- the first of some kept lists that reads the path to an ending
abbrev pub first_read : List KeptList → ℕ → ℕ → List ℕ → Option Answer
first_read [] level at p = None
first_read (l ∷ ls) level at p = or_else (kept_reads l.routes level at p) (first_read ls level at p)

-- what a match leaves in the buffers that it is lent, and how many records of each it uses
abbrev pub levels_after : Option Answer → List LevelRecord → List LevelRecord
levels_after None ys = ys
levels_after (Some a) ys = overlaid ys a.levels

abbrev pub params_after : Option Answer → List ParamRecord → List ParamRecord
params_after None ys = ys
params_after (Some a) ys = overlaid ys a.params

abbrev pub in_use : Option Answer → Option (ℕ × ℕ)
in_use None = None
in_use (Some a) = Some (length a.levels, length a.params)

pub record Matched (o : Option Answer) (r : Option (ℕ × ℕ)) (ls ls' : List LevelRecord) (ps ps' : List ParamRecord) : Type 0 where
  pub result : r ≡ in_use o
  pub levels : ls' ≡ levels_after o ls
  pub params : ps' ≡ params_after o ps

-- what is left of some room behind n records
abbrev pub room_after : ℕ → ℕ → Option ℕ
room_after n room = cond (nat_le n room) (Some (room - n)) None

-- what giving out a line leaves in the buffers that it is lent, and what it answers
pub record GivenOut (l : Line) (r : LineRecord) (is is' : List ℕ) (es es' : List PathSegment) (hs hs' : List ℕ) : Type 0 where
  pub counts : r ≡ line_record l
  pub ids : is' ≡ overlaid is l.ids
  pub entries : es' ≡ overlaid es (records_of l.entries)
  pub hooks : hs' ≡ overlaid hs l.hooks

-- the same of a kept list
pub record KeptOut (ks : List KeptRoute) (r : ℕ) (es es' : List PathSegment) : Type 0 where
  pub count : r ≡ length (entries_of ks)
  pub entries : es' ≡ overlaid es (records_of (entries_of ks))

-- the number of a line behind n others, or None where it is one of those
abbrev pub line_behind : ℕ → ℕ → Option ℕ
line_behind n j = cond (nat_lt j n) None (Some (j - n))

-- which of some items has a line, and the line's number there
abbrev pub or_later : {X : Type 0} → X → ℕ → Option ℕ → (ℕ → Option (X × ℕ)) → Option (X × ℕ)
or_later x j None later = Some (x, j)
or_later x j (Some m) later = later m

abbrev pub line_in : {X : Type 0} → (X → Forest) → List X → ℕ → Option (X × ℕ)
line_in f [] j = None
line_in f (x ∷ xs) j = or_later x j (line_behind (length (lines (f x))) j) (line_in f xs)
