use Rattle.std.proofs.Common.{◌≡◌, ℕ, Bool, false, ◌&&◌, List, ◌++◌, length, drop, Some, None, Option}
use Rattle.std.proofs.Math.Seq.{drop-append_seam}
use Rattle.std.proofs.lemmas.Slice.Eq.{strip_prefix_is}
use Rattle.std.proofs.lemmas.Bool.Decides.{Decides-eqb}
use Rattle.std.specs.Option.{MatchOption}
use Rattle.rules.specs.Paths.{rooted}
use Rattle.rules.specs.Taking.{begins}
use Rattle.rules.proofs.Words.{begins_front, begins_not}
use Rattle.segments.proofs.static_segment.begins_with.Goals as goal
use denote.Bor.{Bor}

-- what is told of the bytes behind a word, where there are some
is_word : (w p : List ℕ) (b : Bool) (r : Option (Bor (List ℕ))) → MatchOption r ((t : List ℕ) → p ≡ w ++ t → ⊥) (λ x. p ≡ w ++ x.now) → MatchOption r (b ≡ false) (λ x. b ≡ rooted x.now) → b ≡ (begins w p && rooted (drop (length w) p))
is_word w p b None n e = rw (begins_not w p n) e
is_word w p b (Some x) s e = rw (s, begins_front w x.now, drop-append_seam w x.now) e

pub returns : goal.returns
returns c = is_word c.args.word.now c.args.rest.now _ c.strip_prefix.result (strip_prefix_is Decides-eqb c.args.rest.now c.args.word.now c.strip_prefix.result c.strip_prefix.ensures.cases) c.is_some_and.ensures
