-- MODES of routes, by rank.
use Rattle.std.specs.Prelude.{ℕ, Bool, true, false, cond, nat_lt}
use Rattle.rules.specs.declared.mode.SsrMode.{SsrMode}
use Rattle.rules.specs.declared.mode.SsrMode.TheVariants.{OutOfOrder, PartiallyBlocked, InOrder, Async, Static}

-- each mode's rank, the lowest first
abbrev pub rank : SsrMode → ℕ
rank OutOfOrder = 0
rank PartiallyBlocked = 1
rank InOrder = 2
rank Async = 3
rank Static = 4

-- the one of higher rank
abbrev pub higher : SsrMode → SsrMode → SsrMode
higher a b = cond (nat_lt (rank a) (rank b)) b a

abbrev pub is_static : SsrMode → Bool
is_static OutOfOrder = false
is_static PartiallyBlocked = false
is_static InOrder = false
is_static Async = false
is_static Static = true
