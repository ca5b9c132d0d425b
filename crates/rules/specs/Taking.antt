-- TAKING: what one entry takes of a rooted path. It refuses, or answers the number of bytes that it takes with the start and
-- the length of its value, both 0 without a value.
use Rattle.std.specs.Prelude.{ℕ, ◌+◌, Bool, true, false, cond, ◌&&◌, List, [], ◌∷◌, length, drop, Some, None, Option, ◌==◌, nat_le}
use Rattle.std.specs.List.{prefix_len}
use Rattle.rules.specs.Paths.{is_slash, plain, rooted, lawful}
use Rattle.rules.specs.Entries.{Entry, unit, static, param, optional, splat}

-- the bytes taken, the value's start, the value's length
abbrev pub Taken : Type 0
Taken = ℕ × ℕ × ℕ

abbrev pub nothing : Taken
nothing = (0, 0, 0)

-- how many bytes the value of a parameter may have
abbrev pub value_length : ℕ → Bool
value_length n = nat_le 1 n

-- a slash and a value of n bytes
abbrev pub take_value : ℕ → Option Taken
take_value n = cond (value_length n) (Some (n + 1, 1, n)) None

-- a slash and the bytes up to the next slash or the end
abbrev pub take_param : List ℕ → Option Taken
take_param [] = None
take_param (b ∷ rest) = cond (is_slash b) (take_value (prefix_len plain rest)) None

-- whether a path begins with some bytes
abbrev pub begins : List ℕ → List ℕ → Bool
begins [] p = true
begins (b ∷ w) [] = false
begins (b ∷ w) (c ∷ p) = b == c && begins w p

-- a slash and a word, where the path then ends or goes on with a slash
abbrev pub take_word : List ℕ → List ℕ → Option Taken
take_word w [] = None
take_word w (b ∷ rest) = cond (is_slash b && (begins w rest && rooted (drop (length w) rest))) (Some (length w + 1, 0, 0)) None

-- the bare slash: nothing, where a byte is still to come
abbrev pub take_bare : List ℕ → Option Taken
take_bare [] = None
take_bare (b ∷ rest) = Some nothing

-- a static text behind its own leading slash
abbrev pub take_slashed : List ℕ → List ℕ → Option Taken
take_slashed [] p = take_bare p
take_slashed (c ∷ t) p = take_word (c ∷ t) p

-- a text without its own leading slash
abbrev pub word_of : List ℕ → List ℕ
word_of [] = []
word_of (c ∷ t) = cond (is_slash c) t (c ∷ t)

abbrev pub take_static : List ℕ → List ℕ → Option Taken
take_static [] p = Some nothing
take_static (c ∷ t) p = cond (is_slash c) (take_slashed t p) (take_word (c ∷ t) p)

-- everything
abbrev pub take_splat : List ℕ → Option Taken
take_splat [] = Some nothing
take_splat (b ∷ rest) = Some (length rest + 1, 1, length rest)

-- nothing at all, in the place of a refusal
abbrev pub or_nothing : Option Taken → Option Taken
or_nothing None = Some nothing
or_nothing (Some t) = Some t

abbrev pub taking : Entry → List ℕ → Option Taken
taking unit p = Some nothing
taking (static t) p = take_static t p
taking (param x) p = take_param p
taking (optional x) p = or_nothing (take_param p)
taking (splat x) p = take_splat p

-- THE READING LAW: what `test` of a kind answers. With an entry it does on every lawful path what the entry's taking does, and
-- refuses any other; with none it takes nothing.
abbrev pub testing : Option Entry → List ℕ → Option Taken
testing None p = Some nothing
testing (Some e) p = cond (lawful p) (taking e p) None
