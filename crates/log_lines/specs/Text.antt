-- Text as the bytes that are printed.
use Rattle.std.specs.Prelude.{ℕ, List}
use Prim.Native.Char.{code}
use Prim.Native.String.{String, [], ◌∷◌}
use mathlib.Core.List as list

abbrev pub text : String → List ℕ
text [] = list.[]
text (c ∷ s) = list.◌∷◌ (code c) (text s)
