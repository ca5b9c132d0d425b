-- REFUSALS: what each case of a refusal is told as, and what a call tells.
use Rattle.std.specs.Prelude.{ℕ, List, [], ◌++◌, Ok, Err, codes, decimal, Result}
use Rattle.rules.specs.declared.refusal.Cause.{Cause}
use Rattle.rules.specs.declared.refusal.Cause.TheVariants.{Count, Place, Length, Slash}
use Rattle.rules.specs.declared.refusal.EntryFault.{EntryFault}
use Rattle.rules.specs.declared.refusal.Refusal.{Refusal}
use Rattle.rules.specs.declared.refusal.Refusal.TheVariants.{LongPath, Unrooted, ShortOut, NoRoute, BadId, NotStanding, TooDeep, BookFull, BadEntry, MixedParent, ManyLines, HasChildren, NoLine, ManyOptionals, NoVariant, HasOptional, ManyPaths, NoPath, NoFit}

-- what a refusal carries beside its number: nothing, or an entry's number and its cause
pub data Carried : Type 0 where
  bare : Carried
  entry : ℕ → Cause → Carried

-- Each refusal's number, and what it carries.
abbrev pub numbered : Refusal → ℕ × Carried
numbered LongPath = (1, bare)
numbered Unrooted = (2, bare)
numbered ShortOut = (3, bare)
numbered NoRoute = (4, bare)
numbered BadId = (5, bare)
numbered NotStanding = (6, bare)
numbered TooDeep = (7, bare)
numbered BookFull = (8, bare)
numbered (BadEntry f) = (9, entry f.number f.cause)
numbered MixedParent = (10, bare)
numbered ManyLines = (11, bare)
numbered HasChildren = (12, bare)
numbered NoLine = (13, bare)
numbered ManyOptionals = (14, bare)
numbered NoVariant = (15, bare)
numbered HasOptional = (16, bare)
numbered ManyPaths = (17, bare)
numbered NoPath = (18, bare)
numbered NoFit = (19, bare)

-- the names that are shown
abbrev pub name_of : Refusal → List ℕ
name_of LongPath = codes "LongPath"
name_of Unrooted = codes "Unrooted"
name_of ShortOut = codes "ShortOut"
name_of NoRoute = codes "NoRoute"
name_of BadId = codes "BadId"
name_of NotStanding = codes "NotStanding"
name_of TooDeep = codes "TooDeep"
name_of BookFull = codes "BookFull"
name_of (BadEntry f) = codes "BadEntry"
name_of MixedParent = codes "MixedParent"
name_of ManyLines = codes "ManyLines"
name_of HasChildren = codes "HasChildren"
name_of NoLine = codes "NoLine"
name_of ManyOptionals = codes "ManyOptionals"
name_of NoVariant = codes "NoVariant"
name_of HasOptional = codes "HasOptional"
name_of ManyPaths = codes "ManyPaths"
name_of NoPath = codes "NoPath"
name_of NoFit = codes "NoFit"

abbrev pub cause_name : Cause → List ℕ
cause_name Count = codes "count"
cause_name Place = codes "place"
cause_name Length = codes "length"
cause_name Slash = codes "slash"

-- what is printed of a fault, as `entry 2: slash`
abbrev pub fault_text : EntryFault → List ℕ
fault_text f = codes "entry " ++ (decimal f.number ++ (codes ": " ++ cause_name f.cause))

-- what is printed of a refusal: its number, its name and the fault that it carries, as in `9 BadEntry (entry 2: slash)`
abbrev pub carried_text : Carried → List ℕ
carried_text bare = []
carried_text (entry i c) = codes " (" ++ (fault_text (record { number = i; cause = c }) ++ codes ")")

abbrev pub refusal_text : Refusal → List ℕ
refusal_text r = decimal (numbered r).0 ++ (codes " " ++ (name_of r ++ carried_text (numbered r).1))

-- What a call tells: its answer, or a refusal by its number with what it carries.
pub data Told (A : Type 0) : Type 0 where
  answered : A → Told A
  refused : ℕ × Carried → Told A

abbrev pub told : {A : Type 0} → Result A Refusal → Told A
told (Ok a) = answered a
told (Err e) = refused (numbered e)

-- an answer by what is read off it
abbrev pub read_off : {A B E : Type 0} → (A → B) → Result A E → Result B E
read_off f (Ok a) = Ok (f a)
read_off f (Err e) = Err e
