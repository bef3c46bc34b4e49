-- Worked examples: the definition computes the lines of these files.
use Rattle.std.proofs.Common.{◌≡◌, [], ◌∷◌, refl}
use Rattle.release_files.specs.Lines.{lines_of}

-- a line may end with CR LF or with LF, and the last one without an end
each_end : lines_of (97 ∷ 13 ∷ 10 ∷ 98 ∷ 10 ∷ 99 ∷ [])
    ≡ record { number = 1; end = 3; bytes = 97 ∷ [] } ∷ record { number = 2; end = 5; bytes = 98 ∷ [] }
    ∷ record { number = 3; end = 6; bytes = 99 ∷ [] } ∷ []
unfolding lines_of
each_end = refl

-- an empty line is a line, and so is a last CR
empty_lines : lines_of (10 ∷ 13 ∷ []) ≡ record { number = 1; end = 1; bytes = [] }
    ∷ record { number = 2; end = 2; bytes = [] } ∷ []
unfolding lines_of
empty_lines = refl

-- one CR before LF is dropped, and so is a byte order mark
one_return : lines_of (239 ∷ 187 ∷ 191 ∷ 13 ∷ 13 ∷ 10 ∷ []) ≡ record { number = 1; end = 6; bytes = 13 ∷ [] } ∷ []
unfolding lines_of
one_return = refl

-- a byte order mark alone has no line
mark_alone : lines_of (239 ∷ 187 ∷ 191 ∷ []) ≡ []
unfolding lines_of
mark_alone = refl
