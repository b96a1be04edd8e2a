-- What an iterator over a tape has ahead.
use Rattle.std.specs.Prelude.{ℕ, List, [], ◌∷◌}
use Rattle.tape.specs.declared.walk.Entries.{Entries}
use Rattle.tape.specs.declared.walk.Pairs.{Pairs}
use Rattle.tape.specs.Opened.{view_of}
use Rattle.tape.specs.Walk.{onward}

-- the positions of the values
abbrev pub rest : Entries → List ℕ
rest s = onward (view_of s.tape) s.at s.end

-- the elements two by two
abbrev pub by_twos : List ℕ → List (ℕ × ℕ)
by_twos [] = []
by_twos (n ∷ []) = []
by_twos (n ∷ (v ∷ ps)) = (n, v) ∷ by_twos ps

-- the positions of the names, each with that of its value
abbrev pub pairs_rest : Pairs → List (ℕ × ℕ)
pairs_rest s = by_twos (onward (view_of s.tape) s.at s.end)
