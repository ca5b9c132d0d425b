-- WHAT THE CALLS OF WRITING TELL, and what they leave in their buffers.
use Rattle.std.specs.Prelude.{ℕ, ◌^◌, min, Bool, true, false, List, ◌∷◌, length, Some, None, Option, nat_le, nat_lt}
use Rattle.rules.specs.declared.refusal.EntryFault.{EntryFault}
use Rattle.rules.specs.declared.segment.EntryPlace.{EntryPlace}
use Rattle.rules.specs.declared.segment.PathSegment.{PathSegment}
use Rattle.rules.specs.declared.values.ValueRecord.{ValueRecord}
use Rattle.rules.specs.Paths.{slash, longest_path}
use Rattle.rules.specs.Entries.{Entry}
use Rattle.rules.specs.Keeping.{optionals}
use Rattle.rules.specs.Places.{list_limit, list_fault, entries_in}
use Rattle.rules.specs.Records.{records_of, zero_segment, padded, overlaid}
use Rattle.rules.specs.Refusals.{Told, answered, refused, bare, entry}
use Rattle.rules.specs.Values.{value_fault, path_choices, path_of}
use Rattle.rules.specs.Variants.{variant_of}

-- a slash or none, and a text
abbrev pub piece_bytes : Bool → List ℕ → List ℕ
piece_bytes true t = slash ∷ t
piece_bytes false t = t

-- a fault is refusal 9; else it goes on
abbrev pub unless_fault : {A : Type 0} → Option EntryFault → Told A → Told A
unless_fault None next = next
unless_fault (Some e) next = refused (9, entry e.number e.cause)

-- a refusal where there is cause for it; else it goes on
abbrev pub unless : {A : Type 0} → Bool → ℕ → Told A → Told A
unless true n next = refused (n, bare)
unless false n next = next

-- the most paths that are numbered, and the most optional entries of a list to expand
abbrev pub most_paths : ℕ
most_paths = 65535

abbrev pub most_optionals : ℕ
most_optionals = 16

-- THE COUNT OF PATHS of a list, with values from a table: 9 for the list and then for the value records, 16 where an entry is
-- optional, 17 where there are more than 65,535.
abbrev pub paths_told : List ℕ → List EntryPlace → List ℕ → List ValueRecord → Told ℕ
paths_told text ps vt rs =
    unless_fault (list_fault list_limit text ps)
    (unless_fault (value_fault vt 0 rs)
    (unless (nat_lt 0 (optionals (entries_in text ps))) 16
    (unless (nat_lt most_paths (length (path_choices vt rs (entries_in text ps)))) 17 (answered (length (path_choices vt rs (entries_in text ps)))))))

-- the path of a number, of so many: 18 where there is none of that number, 19 where it has more than 2,048 bytes or does not fit
abbrev pub fit_told : List ℕ → ℕ → Told ℕ
fit_told p room = unless (nat_lt (min longest_path room) (length p)) 19 (answered (length p))

abbrev pub and_number : Told ℕ → ℕ → Told ℕ → Told ℕ
and_number (answered count) n next = unless (nat_le count n) 18 next
and_number (refused e) n next = refused e

-- THE PATH OF A NUMBER, into a buffer of so many bytes
abbrev pub path_told : List ℕ → List EntryPlace → List ℕ → List ValueRecord → ℕ → ℕ → Told ℕ
path_told text ps vt rs n room = and_number (paths_told text ps vt rs) n (fit_told (path_of vt rs (entries_in text ps) n) room)

-- what is answered is written from the buffer's start on; the rest of it, and all of it after a refusal, is as it was
abbrev pub left_by : {A : Type 0} → Told ℕ → List A → List A → List A
left_by (answered n) xs out = overlaid out xs
left_by (refused e) xs out = out

-- THE VARIANT OF A NUMBER, into a buffer of so many records: 3, 9, 14, 15.
abbrev pub variant_told : List ℕ → List EntryPlace → ℕ → ℕ → Told ℕ
variant_told text ps v room =
    unless (nat_lt room (length ps)) 3
    (unless_fault (list_fault list_limit text ps)
    (unless (nat_lt most_optionals (optionals (entries_in text ps))) 14
    (unless (nat_le (2 ^ optionals (entries_in text ps)) v) 15 (answered (length (variant_of (entries_in text ps) v))))))

-- its records, and zero ones behind them; after a refusal the buffer is as it was
abbrev pub records_left : Told ℕ → List Entry → List PathSegment → List PathSegment
records_left (answered n) es out = padded (records_of es) zero_segment (length out)
records_left (refused e) es out = out
