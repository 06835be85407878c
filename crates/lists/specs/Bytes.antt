-- Bytes in a list: some of them as a number, a number's bytes, and a run of bytes written over others.
use Rattle.std.specs.Prelude.{ℕ, suc, ◌+◌, ◌*◌, ◌/◌, ◌%◌, ◌^◌, ◌<◌, List, [], ◌∷◌, ◌++◌, length, get_or, take, drop}

-- byte n of a packet, counted from 0; 0 past its end
abbrev pub byte : List ℕ → ℕ → ℕ
byte p n = get_or p n 0

-- every entry is a byte
abbrev pub AreBytes : List ℕ → Type 0
AreBytes p = (i : ℕ) → byte p i < 256

-- two bytes as a number, most significant first
abbrev pub word : List ℕ → ℕ → ℕ
word p n = byte p n * 256 + byte p (n + 1)

-- four bytes as a number, most significant first
abbrev pub long : List ℕ → ℕ → ℕ
long p n = word p n * 65536 + word p (n + 2)

-- the two bytes of a number below 65,536
abbrev pub high : ℕ → ℕ
high n = n / 256 % 256

abbrev pub low : ℕ → ℕ
low n = n % 256

-- the n bytes from `at` on
unfoldable pub bytes_from : ℕ → List ℕ → ℕ → List ℕ
bytes_from ℕ.zero p at = []
bytes_from (suc n) p at = byte p at ∷ bytes_from n p (at + 1)

-- the same as a number, most significant first
unfoldable pub number : ℕ → List ℕ → ℕ → ℕ
number ℕ.zero p at = 0
number (suc n) p at = byte p at * 256 ^ n + number n p (at + 1)

-- a number in n bytes, most significant first
unfoldable pub in_bytes : ℕ → ℕ → List ℕ
in_bytes ℕ.zero v = []
in_bytes (suc n) v = (v / 256 ^ n % 256) ∷ in_bytes n v

-- `memory` with `bytes` in the place of those that stand from `at` on
unfoldable pub written : List ℕ → ℕ → List ℕ → List ℕ
written memory at bytes = take at memory ++ bytes ++ drop (at + length bytes) memory
