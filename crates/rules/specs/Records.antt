-- The records that calls give out, and the buffers that hold them.
use Rattle.std.specs.Prelude.{ℕ, ◌-◌, Bool, true, false, ◌&&◌, List, [], ◌∷◌, ◌++◌, length, take, drop, replicate, Some, None, Option, ◌==◌, slice_index, slice_set}
use Rattle.rules.specs.declared.records.LevelRecord.{LevelRecord}
use Rattle.rules.specs.declared.records.ParamRecord.{ParamRecord}
use Rattle.rules.specs.declared.segment.PathSegment.{PathSegment}
use Rattle.rules.specs.declared.segment.SegmentKind.{SegmentKind}
use Rattle.rules.specs.declared.segment.SegmentKind.TheVariants.{Unit as AUnit, Static, Param, OptionalParam, Splat}
use Rattle.rules.specs.Paths.{is_slash}
use Rattle.rules.specs.Entries.{Entry, unit, static, param, optional, splat, longest_text}

-- what unused records hold
abbrev pub zero_level : LevelRecord
zero_level = record { id = 0; start = 0; len = 0 }

abbrev pub zero_param : ParamRecord
zero_param = record { level = 0; entry = 0; start = 0; len = 0 }

-- a text of a kind, zero-filled to 24 bytes
abbrev pub record_with : SegmentKind → List ℕ → PathSegment
record_with k t = record { kind = k; len = length t; text = t ++ replicate (longest_text - length t) 0 }

-- an entry as it is given out
abbrev pub record_of : Entry → PathSegment
record_of unit = record_with AUnit []
record_of (static t) = record_with Static t
record_of (param x) = record_with Param x
record_of (optional x) = record_with OptionalParam x
record_of (splat x) = record_with Splat x

-- what an unused record holds
abbrev pub zero_segment : PathSegment
zero_segment = record_with AUnit []

-- the records of some entries
abbrev pub records_of : List Entry → List PathSegment
records_of [] = []
records_of (e ∷ es) = record_of e ∷ records_of es

-- a buffer after a kind has appended its entry, if it has one, at a place; past its end a buffer takes nothing
abbrev pub appended : List PathSegment → ℕ → Option Entry → List PathSegment
appended out at None = out
appended out at (Some e) = slice_set out at (record_of e)

-- the same at the front
abbrev pub put_front : List PathSegment → Option Entry → List PathSegment
put_front out o = appended out 0 o

-- some records from the start of a buffer of n, and zero ones behind them
abbrev pub padded : {A : Type 0} → List A → A → ℕ → List A
padded xs z n = xs ++ replicate (n - length xs) z

-- a buffer with some records written over its front
abbrev pub overlaid : {A : Type 0} → List A → List A → List A
overlaid ys xs = xs ++ drop (length xs) ys

-- the text or name of a record
abbrev pub text_in : PathSegment → List ℕ
text_in s = take s.len s.text

abbrev pub kind_has_value : SegmentKind → Bool
kind_has_value AUnit = false
kind_has_value Static = false
kind_has_value Param = true
kind_has_value OptionalParam = true
kind_has_value Splat = true

abbrev pub kind_is_static : SegmentKind → Bool
kind_is_static AUnit = false
kind_is_static Static = true
kind_is_static Param = false
kind_is_static OptionalParam = false
kind_is_static Splat = false

-- the record of the bare slash
abbrev pub record_is_bare : PathSegment → Bool
record_is_bare s = kind_is_static s.kind && (s.len == 1 && is_slash (slice_index s.text 0))

-- a kind where it is kept
abbrev pub kind_as_kept : SegmentKind → SegmentKind
kind_as_kept AUnit = AUnit
kind_as_kept Static = Static
kind_as_kept Param = Param
kind_as_kept OptionalParam = Param
kind_as_kept Splat = Splat
