-- Laws of a packet as it is written: how long it is, that its IDs are read back, and that what stands behind them begins at `header`. Once over the
-- number of bytes of an ID.
use Prim.Native.Nat.{ℕ, ◌+◌, ◌^◌, ◌<◌}
use mathlib.Core.Path.{◌≡◌, refl, sym, ap, ◌∙◌}
use mathlib.Core.List.{List, [], ◌∷◌, ◌++◌, append_assoc}
use native.Mathlib.Nat.{add-zero}
use native.Mathlib.Omega.{arith}
use lib.ListN.{length, drop, length-append}
use lib.Seq.{drop-append-add}
use Rattle.lists.specs.Bytes.{byte, word, bytes_from, number, in_bytes}
use Rattle.lists.proofs.Numbers.{length_in, length_from, read_back, behind, number-one, number_two}
use Rattle.wire.specs.Packet.{header, destination, source, addressed}

-- two IDs by their bytes: the destination, and the source
pub record IDs (ids : ℕ) : Type 0 where
  pub to : List ℕ
  pub by : List ℕ
  pub to_long : length to ≡ ids
  pub by_long : length by ≡ ids

-- of numbers
abbrev numbered : (ids to by : ℕ) → IDs ids
numbered ids to by = record { to = in_bytes ids to; by = in_bytes ids by; to_long = length_in ids to; by_long = length_in ids by }

-- those of a packet, swapped
abbrev pub swapped : (ids : ℕ) → List ℕ → IDs ids
swapped ids p = record {
  to = bytes_from ids p (1 + ids);
  by = bytes_from ids p 1;
  to_long = length_from ids p (1 + ids);
  by_long = length_from ids p 1;
}

module _ {ids : ℕ} (both : IDs ids) (first : ℕ) where
  -- what stands before the rest
  abbrev front : List ℕ
  front = first ∷ (both.to ++ both.by)

  length_front : length front ≡ header ids
  length_front = simp length-append (omega (arith, both.to_long, both.by_long))

  module _ (rest : List ℕ) where
    abbrev whole : List ℕ
    whole = first ∷ (both.to ++ (both.by ++ rest))

    parts : whole ≡ front ++ rest
    parts = ap (λ (l : List ℕ). first ∷ l) (sym (append_assoc both.to both.by rest))

    pub length-headed : length whole ≡ header ids + length rest
    length-headed = ap length parts ∙ (length-append front rest ∙ ap (λ (n : ℕ). n + length rest) length_front)

    drop-headed : (k : ℕ) → drop (header ids + k) whole ≡ drop k rest
    drop-headed k = ap (drop (header ids + k)) parts ∙ (ap (λ (n : ℕ). drop (n + k) (front ++ rest)) (sym length_front) ∙ drop-append-add front rest k)

    number-headed : (n k : ℕ) → number n whole (header ids + k) ≡ number n rest k
    number-headed n k =
        ap (λ (l : List ℕ). number n l (header ids + k)) parts ∙ (ap (λ (h : ℕ). number n (front ++ rest) (h + k)) (sym length_front) ∙ behind n front rest k)

    pub byte-headed : (k : ℕ) → byte whole (header ids + k) ≡ byte rest k
    byte-headed k = sym (number-one whole (header ids + k)) ∙ (number-headed 1 k ∙ number-one rest k)

    -- the byte behind the IDs
    pub next_headed : byte whole (header ids) ≡ byte rest 0
    next_headed = ap (byte whole) (sym (add-zero (header ids))) ∙ byte-headed 0

    pub destination-headed : destination ids whole ≡ number ids (both.to ++ (both.by ++ rest)) 0
    destination-headed = behind ids (first ∷ []) (both.to ++ (both.by ++ rest)) 0

    pub source-headed : source ids whole ≡ number ids (both.by ++ rest) 0
    source-headed =
        let place : 1 + ids ≡ length (first ∷ both.to) + 0 = omega (arith, both.to_long) in
        ap (number ids whole) place ∙ behind ids (first ∷ both.to) (both.by ++ rest) 0

  -- what is put behind it makes one with more
  pub append-headed : (rest more : List ℕ) → whole rest ++ more ≡ whole (rest ++ more)
  append-headed rest more = ap (λ (l : List ℕ). l ++ more) (parts rest) ∙ (append_assoc front rest more ∙ sym (parts (rest ++ more)))

-- ---- of numbers

module _ (ids first to by : ℕ) where
  module _ (rest : List ℕ) where
    abbrev packet : List ℕ
    packet = addressed ids first to by rest

    pub length-addressed : length packet ≡ header ids + length rest
    unfolding addressed
    length-addressed = length-headed (numbered ids to by) first rest

    pub first_of : byte packet 0 ≡ first
    unfolding addressed
    first_of = refl

    pub drop-addressed : (k : ℕ) → drop (header ids + k) packet ≡ drop k rest
    unfolding addressed
    drop-addressed = drop-headed (numbered ids to by) first rest

    pub number-addressed : (n k : ℕ) → number n packet (header ids + k) ≡ number n rest k
    unfolding addressed
    number-addressed = number-headed (numbered ids to by) first rest

    pub byte-addressed : (k : ℕ) → byte packet (header ids + k) ≡ byte rest k
    unfolding addressed
    byte-addressed = byte-headed (numbered ids to by) first rest

    pub word-addressed : (k : ℕ) → word packet (header ids + k) ≡ word rest k
    word-addressed k = sym (number_two packet (header ids + k)) ∙ (number-addressed 2 k ∙ number_two rest k)

    pub byte-behind : byte packet (header ids) ≡ byte rest 0
    unfolding addressed
    byte-behind = next_headed (numbered ids to by) first rest

    pub destination-addressed : to < 256 ^ ids → destination ids packet ≡ to
    unfolding addressed
    destination-addressed small = destination-headed (numbered ids to by) first rest ∙ read_back ids to [] (in_bytes ids by ++ rest) small

    pub source-addressed : by < 256 ^ ids → source ids packet ≡ by
    unfolding addressed
    source-addressed small = source-headed (numbered ids to by) first rest ∙ read_back ids by [] rest small

  pub append-addressed : (rest more : List ℕ) → addressed ids first to by rest ++ more ≡ addressed ids first to by (rest ++ more)
  unfolding addressed
  append-addressed = append-headed (numbered ids to by) first
