-- THE PLAIN BOOK: what the calls of a book mean. Its state is a tree, an ordered list of routes, empty at first.
use Rattle.std.specs.Prelude.{ℕ, ◌+◌, Bool, false, cond, not, ◌&&◌, ◌||◌, List, [], length, Some, None, Option, ◌==◌, nat_le, nat_lt}
use Rattle.std.specs.Option.{option_map}
use Rattle.rules.specs.declared.mode.SsrMode.{SsrMode}
use Rattle.rules.specs.declared.segment.EntryPlace.{EntryPlace}
use Rattle.rules.specs.declared.refusal.EntryFault.{EntryFault}
use Rattle.rules.specs.Choice.{or_else}
use Rattle.rules.specs.Entries.{Entry}
use Rattle.rules.specs.Keeping.{mixed}
use Rattle.rules.specs.Forests.{Route, route_of, Forest, none, leaf, nest, beside}
use Rattle.rules.specs.Lines.{lines}
use Rattle.rules.specs.Places.{route_limit, list_fault, entries_in}
use Rattle.rules.specs.Refusals.{Carried, bare, entry}

-- the most routes, levels and lines of a book
abbrev pub most_routes : ℕ
most_routes = 128

abbrev pub most_levels : ℕ
most_levels = 8

abbrev pub most_lines : ℕ
most_lines = 128

-- a route of this id stands
abbrev pub stands : ℕ → Forest → Bool
stands w none = false
stands w (leaf r f) = r.id == w || stands w f
stands w (nest r k f) = r.id == w || (stands w k || stands w f)

-- how many routes stand
abbrev pub route_count : Forest → ℕ
route_count none = 0
route_count (leaf r f) = 1 + route_count f
route_count (nest r k f) = 1 + (route_count k + route_count f)

-- on which level the route of this id stands, the top being 1; 0 where none stands
abbrev pub level_of : ℕ → Forest → ℕ
level_of w none = 0
level_of w (leaf r f) = cond (r.id == w) 1 (level_of w f)
level_of w (nest r k f) = cond (r.id == w) 1 (cond (stands w k) (level_of w k + 1) (level_of w f))

-- the entries of the route of this id; none where it does not stand
abbrev pub entries_at : ℕ → Forest → List Entry
entries_at w none = []
entries_at w (leaf r f) = cond (r.id == w) r.entries (entries_at w f)
entries_at w (nest r k f) = cond (r.id == w) r.entries (cond (stands w k) (entries_at w k) (entries_at w f))

-- the route of this id has children
abbrev pub is_parent : ℕ → Forest → Bool
is_parent w none = false
is_parent w (leaf r f) = is_parent w f
is_parent w (nest r k f) = r.id == w || (is_parent w k || is_parent w f)

-- a childless route last at the top
abbrev pub put_last : Route → Forest → Forest
put_last n f = beside f (leaf n none)

-- a childless route last among the children of the route p
abbrev pub put_below : ℕ → Route → Forest → Forest
put_below p n none = none
put_below p n (leaf r f) = cond (r.id == p) (nest r (leaf n none) f) (leaf r (put_below p n f))
put_below p n (nest r k f) = cond (r.id == p) (nest r (put_last n k) f) (nest r (put_below p n k) (put_below p n f))

-- a route over some children, or childless where there are none
abbrev pub route_over : Route → Forest → Forest → Forest
route_over r none f = leaf r f
route_over r (leaf a k) f = nest r (leaf a k) f
route_over r (nest a j k) f = nest r (nest a j k) f

-- the tree without the route w
abbrev pub removed : ℕ → Forest → Forest
removed w none = none
removed w (leaf r f) = cond (r.id == w) f (leaf r (removed w f))
removed w (nest r k f) = cond (r.id == w) f (route_over r (removed w k) (removed w f))

-- a route with another mode and hook
abbrev pub with_mode : SsrMode → ℕ → Route → Route
with_mode m h r = route_of r.id r.entries m h

-- the tree in which the route w has another mode and hook
abbrev pub remoded : ℕ → SsrMode → ℕ → Forest → Forest
remoded w m h none = none
remoded w m h (leaf r f) = cond (r.id == w) (leaf (with_mode m h r) f) (leaf r (remoded w m h f))
remoded w m h (nest r k f) = cond (r.id == w) (nest (with_mode m h r) k f) (nest r (remoded w m h k) (remoded w m h f))

-- What add is handed: the parent's id, 0 for the top; the new route's id; its entries, each a kind and a place in the text beside
-- them; its mode and its hook.
pub record NewRoute : Type 0 where
  pub parent : ℕ
  pub id : ℕ
  pub places : List EntryPlace
  pub text : List ℕ
  pub mode : SsrMode
  pub hook : ℕ

-- the route that it asks for
abbrev pub new_route : NewRoute → Route
new_route n = route_of n.id (entries_in n.text n.places) n.mode n.hook

-- the tree with that route
abbrev pub grown : NewRoute → Forest → Forest
grown n f = cond (n.parent == 0) (put_last (new_route n) f) (put_below n.parent (new_route n) f)

abbrev pub bad_entry : EntryFault → ℕ × Carried
bad_entry e = (9, entry e.number e.cause)

-- a refusal where there is cause for it, and else the next
abbrev pub cause : Bool → ℕ → Option (ℕ × Carried) → Option (ℕ × Carried)
cause b n next = cond b (Some (n, bare)) next

-- THE REFUSALS OF EDITS: the first with a cause is told.
abbrev pub add_fault : Forest → NewRoute → Option (ℕ × Carried)
add_fault f n =
    let below = not (n.parent == 0) in
    cause (n.id == 0 || stands n.id f) 5
    (cause (below && not (stands n.parent f)) 6
    (cause (below && nat_le most_levels (level_of n.parent f)) 7
    (cause (nat_le most_routes (route_count f)) 8
    (or_else (option_map bad_entry (list_fault route_limit n.text n.places))
    (cause (below && mixed (entries_at n.parent f)) 10
    (cause (nat_lt most_lines (length (lines (grown n f)))) 11 None))))))

abbrev pub withdraw_fault : Forest → ℕ → Option (ℕ × Carried)
withdraw_fault f w = cause (not (stands w f)) 6 (cause (is_parent w f) 12 None)

abbrev pub remode_fault : Forest → ℕ → Option (ℕ × Carried)
remode_fault f w = cause (not (stands w f)) 6 None

-- a refused edit changes nothing
abbrev pub unless : Option (ℕ × Carried) → Forest → Forest → Forest
unless None f g = g
unless (Some e) f g = f

-- THE EDITS.
abbrev pub added : Forest → NewRoute → Forest
added f n = unless (add_fault f n) f (grown n f)

abbrev pub withdrawn : Forest → ℕ → Forest
withdrawn f w = unless (withdraw_fault f w) f (removed w f)

abbrev pub retuned : Forest → ℕ → SsrMode → ℕ → Forest
retuned f w m h = unless (remode_fault f w) f (remoded w m h f)
