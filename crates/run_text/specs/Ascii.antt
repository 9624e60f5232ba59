-- Quoted text as bytes.
use Rattle.std.specs.Prelude.{List, ℕ}
use Prim.Native.Char.{code}
use Prim.Native.String.{String, [], ◌∷◌}

-- the codes of the characters, which are ASCII
abbrev pub ascii : String → List ℕ
ascii [] = List.[]
ascii (c ∷ t) = List.◌∷◌ (code c) (ascii t)
