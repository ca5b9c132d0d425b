-- LISTS THAT ARE HANDED OVER, each entry as a kind and a place in a text beside it: what they mean, and what is at fault in them.
use Rattle.std.specs.Prelude.{ℕ, ◌+◌, Bool, true, false, cond, ◌&&◌, List, [], ◌∷◌, length, drop, Some, None, Ok, Err, Option, Result, nat_le, nat_lt}
use Rattle.std.specs.Option.{option_map}
use Rattle.rules.specs.declared.segment.SegmentKind.{SegmentKind}
use Rattle.rules.specs.declared.segment.SegmentKind.TheVariants.{Unit as AUnit, Static, Param, OptionalParam, Splat}
use Rattle.rules.specs.declared.segment.PathSegment.{PathSegment}
use Rattle.rules.specs.declared.segment.EntryPlace.{EntryPlace}
use Rattle.rules.specs.declared.refusal.Cause.{Cause}
use Rattle.rules.specs.declared.refusal.Cause.TheVariants.{Count, Place, Length, Slash}
use Rattle.rules.specs.declared.refusal.EntryFault.{EntryFault}
use Rattle.rules.specs.Choice.{or_else}
use Rattle.rules.specs.Paths.{slash_free}
use Rattle.rules.specs.Records.{text_in}
use Rattle.rules.specs.Refusals.{Told, answered, refused, entry}
use Rattle.rules.specs.Entries.{Entry, unit, static, param, optional, splat, longest_text}
use Rattle.rules.specs.TextParts.{bytes_in, part_of}

-- the entry of a kind with a text or name
abbrev pub entry_of : SegmentKind → List ℕ → Entry
entry_of AUnit t = unit
entry_of Static t = static t
entry_of Param t = param t
entry_of OptionalParam t = optional t
entry_of Splat t = splat t

-- the entry that a record gives out
abbrev pub entry_in : PathSegment → Entry
entry_in s = entry_of s.kind (text_in s)

-- the most entries of a route's list, and of any other
abbrev pub route_limit : ℕ
route_limit = 6

abbrev pub list_limit : ℕ
list_limit = 96

-- what is wrong with a text, and with a name
abbrev pub text_fault : List ℕ → Option Cause
text_fault t = cond (nat_lt longest_text (length t)) (Some Length) (cond (slash_free (drop 1 t)) None (Some Slash))

abbrev pub name_fault : List ℕ → Option Cause
name_fault t = cond (nat_le 1 (length t) && nat_le (length t) longest_text) None (Some Length)

abbrev pub kind_fault : SegmentKind → List ℕ → Option Cause
kind_fault AUnit t = None
kind_fault Static t = text_fault t
kind_fault Param t = name_fault t
kind_fault OptionalParam t = name_fault t
kind_fault Splat t = name_fault t

abbrev pub fault_in : SegmentKind → Option (List ℕ) → Option Cause
fault_in k None = Some Place
fault_in k (Some t) = kind_fault k t

abbrev pub is_unit : SegmentKind → Bool
is_unit AUnit = true
is_unit Static = false
is_unit Param = false
is_unit OptionalParam = false
is_unit Splat = false

-- what is wrong with an entry; a Unit's place is ignored
abbrev pub place_fault : List ℕ → EntryPlace → Option Cause
place_fault text e = cond (is_unit e.kind) None (fault_in e.kind (part_of text e.place))

-- the entry at a place of a text, and those of a list
abbrev pub entry_at : List ℕ → EntryPlace → Entry
entry_at text e = entry_of e.kind (bytes_in text e.place)

abbrev pub entries_in : List ℕ → List EntryPlace → List Entry
entries_in text [] = []
entries_in text (e ∷ es) = entry_at text e ∷ entries_in text es

-- the same with the entry's number
abbrev pub numbered_fault : List ℕ → ℕ → EntryPlace → Option EntryFault
numbered_fault text i e = option_map (λ c. record { number = i; cause = c }) (place_fault text e)

-- the first entry at fault, of entries numbered from i
abbrev pub first_fault : List ℕ → ℕ → List EntryPlace → Option EntryFault
first_fault text i [] = None
first_fault text i (e ∷ es) = or_else (numbered_fault text i e) (first_fault text (i + 1) es)

-- the count first, and then the entries
abbrev pub list_fault : ℕ → List ℕ → List EntryPlace → Option EntryFault
list_fault limit text es = cond (nat_le (length es) limit) (first_fault text 0 es) (Some (record { number = limit; cause = Count }))

-- What becomes of a text of a kind that is handed over alone: the entry, or what is wrong with it.
abbrev pub or_fault : {A : Type 0} → A → Option Cause → Result A Cause
or_fault a None = Ok a
or_fault a (Some c) = Err c

abbrev pub entry_made : SegmentKind → List ℕ → Result Entry Cause
entry_made k t = or_fault (entry_of k t) (kind_fault k t)

-- A fault of an entry that is handed over alone is told with number 0.
abbrev pub fault_alone : {A : Type 0} → Result A Cause → Told A
fault_alone (Ok a) = answered a
fault_alone (Err c) = refused (9, entry 0 c)
