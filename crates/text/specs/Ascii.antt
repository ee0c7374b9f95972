-- Words as bytes: each character's number, which is its ASCII code.
use Rattle.std.specs.Prelude.{ℕ, Bool, List, codes, bytes_eq}
use Prim.Native.String.{String}

abbrev pub ascii : String → List ℕ
ascii word = codes word

-- two texts are byte for byte the same
abbrev pub same : List ℕ → List ℕ → Bool
same s t = bytes_eq s t
