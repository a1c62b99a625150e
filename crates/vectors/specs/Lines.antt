-- The lines of a file, and the parts of a line.
use Rattle.std.specs.Prelude.{ℕ, List, [], ◌∷◌, ◌==◌, if◌then◌else◌, map}
use Rattle.std.specs.Str.Lines.{lines}

-- A byte and the trimmed bytes after it: a space with no bytes after it is left out.
abbrev pub before_trimmed : ℕ → List ℕ → List ℕ
before_trimmed b [] = if b == 32 then [] else b ∷ []
before_trimmed b (c ∷ cs) = b ∷ c ∷ cs

-- a line without the spaces at its end
abbrev pub trim_end : List ℕ → List ℕ
trim_end [] = []
trim_end (b ∷ bs) = before_trimmed b (trim_end bs)

-- a value without the spaces at its beginning
abbrev pub trim_start : List ℕ → List ℕ
trim_start [] = []
trim_start (b ∷ bs) = if b == 32 then trim_start bs else b ∷ bs

-- The lines of a file. The file is cut at each LF, and the bytes after the last LF are a line if there are any. One CR directly
-- before a LF is dropped (`lines` does both), and then all spaces at the line's end.
unfoldable pub lines_of : List ℕ → List (List ℕ)
lines_of file = map trim_end (lines file)
