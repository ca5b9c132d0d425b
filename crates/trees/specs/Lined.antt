-- WHAT generate_routes AND generate_kept ANSWER, and what they leave in their buffers.
use Rattle.std.specs.Prelude.{◌≡◌, ℕ, ◌<◌, ◌≤◌, Bool, true, false, ◌&&◌, List, length, nat_le, slice_index_or}
use Rattle.rules.specs.declared.segment.PathSegment.{PathSegment}
use Rattle.rules.specs.declared.records.LineRecord.{LineRecord}
use Rattle.rules.specs.Forests.{Forest}
use Rattle.rules.specs.Lines.{Line, line_record, no_line, lines}
use Rattle.rules.specs.KeptLists.{kept, of_line, no_list, entries_of}
use Rattle.rules.specs.Bounds.{Bounds}
use Rattle.rules.specs.Records.{records_of, zero_segment, padded}
use Rattle.rules.specs.Refusals.{Told, answered, refused, bare}

-- buffers of ids, entries and hooks as long as a tree's bounds ask
abbrev pub holds_line : Bounds → ℕ → ℕ → ℕ → Bool
holds_line b ids entries hooks = (nat_le b.levels ids && nat_le b.levels hooks) && nat_le b.entries entries

-- what is told, and what the three buffers hold then
pub record LineLeft (t : Told LineRecord) (is : List ℕ) (es : List PathSegment) (hs : List ℕ) (t' : Told LineRecord) (is' : List ℕ) (es' : List PathSegment) (hs' : List ℕ) : Type 0 where
  pub tells : t ≡ t'
  pub ids : is ≡ is'
  pub entries : es ≡ es'
  pub hooks : hs ≡ hs'

-- Lined f b n is es hs t is' es' hs': asked for the line n of a tree that means f and has the bounds b, with buffers that held is,
-- es and hs, the call tells t and the buffers hold is', es' and hs'.
pub record Lined (f : Forest) (b : Bounds) (n : ℕ) (is : List ℕ) (es : List PathSegment) (hs : List ℕ) (t : Told LineRecord) (is' : List ℕ) (es' : List PathSegment) (hs' : List ℕ) : Type 0 where
  -- refusals 3 and 13 leave the buffers
  pub short : holds_line b (length is) (length es) (length hs) ≡ false → LineLeft t is' es' hs' (refused (3, bare)) is es hs
  pub missing : holds_line b (length is) (length es) (length hs) ≡ true → length (lines f) ≤ n → LineLeft t is' es' hs' (refused (13, bare)) is es hs
  -- the line, and zero records behind it
  pub found : holds_line b (length is) (length es) (length hs) ≡ true → n < length (lines f) → (l : Line) → l ≡ slice_index_or (lines f) n no_line → LineLeft t is' es' hs' (answered (line_record l)) (padded l.ids 0 (length is)) (padded (records_of l.entries) zero_segment (length es)) (padded l.hooks 0 (length hs))

-- KeptGiven f b j n es t es': the same for the kept list n of the line j, whose entries go into one buffer.
pub record KeptGiven (f : Forest) (b : Bounds) (j n : ℕ) (es : List PathSegment) (t : Told ℕ) (es' : List PathSegment) : Type 0 where
  pub short : nat_le b.entries (length es) ≡ false → (t ≡ refused (3, bare)) × (es' ≡ es)
  pub missing : nat_le b.entries (length es) ≡ true → length (lines f) ≤ j → (t ≡ refused (13, bare)) × (es' ≡ es)
  pub unkept : nat_le b.entries (length es) ≡ true → j < length (lines f) → length (of_line j (kept f)) ≤ n → (t ≡ refused (15, bare)) × (es' ≡ es)
  pub found : nat_le b.entries (length es) ≡ true → j < length (lines f) → n < length (of_line j (kept f)) → (t ≡ answered (length (entries_of (slice_index_or (of_line j (kept f)) n no_list).routes))) × (es' ≡ padded (records_of (entries_of (slice_index_or (of_line j (kept f)) n no_list).routes)) zero_segment (length es))
