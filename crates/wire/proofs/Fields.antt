-- Laws of a type 9 packet's fields: each by the packet's bytes, whichever of the two forms it has.
use Prim.Native.Nat.{ℕ, ◌+◌, ◌-◌, ◌≤◌, ◌<◌, ◌/◌, ◌%◌}
use mathlib.Core.Path.{◌≡◌, refl, sym, ap, ◌∙◌}
use mathlib.Core.List.{List}
use mathlib.Core.Bool.{Bool, true, false, cond, ◌||◌, or-true}
use native.Mathlib.Omega.{arith}
use native.Mathlib.Decide.{dec_lt}
use lib.ListN.{length}
use borrow.Author.Tests.{eq-eqb, ne_eqb, lt-ltb, le-ltb}
use Rattle.lists.specs.Bytes.{word}
use Rattle.wire.specs.Packet.{header, bit}
use Rattle.wire.specs.Segment.{Segment}
use Rattle.wire.specs.Type9.{flags, is_s, is_e, is_o, is_p, flow_of, segment_at, segment_of}
use Rattle.wire.specs.Inside.{data_from}

-- S and E are the two highest bits
pub low-flags : (b : ℕ) → b < 64 → (bit b 128 ≡ false) × (bit b 64 ≡ false)
low-flags b h = (ne_eqb (b / 128 % 2) 1 (λ e. omega arith), ne_eqb (b / 64 % 2) 1 (λ e. omega arith))

pub high_flags : (b : ℕ) → b < 256 → 64 ≤ b → (bit b 128 || bit b 64) ≡ true
high_flags b byte h = go (dec_lt b 128)
  where
    go : Dec (b < 128) → (bit b 128 || bit b 64) ≡ true
    go (yes l) = rw (eq-eqb (b / 64 % 2) 1 (omega arith)) (or-true (bit b 128))
    go (no l) = rw (eq-eqb (b / 128 % 2) 1 (omega arith))

module _ (ids : ℕ) (p : List ℕ) where
  -- the same in both forms
  abbrev either : Bool → Segment
  either b = cond b (segment_at ids p (header ids + 4) (word p (header ids + 2))) (segment_at ids p (header ids + 2) 0)

  pub begins_is : (segment_of ids p).begins ≡ is_s ids p
  unfolding segment_of segment_at
  begins_is = go (is_s ids p || is_e ids p)
    where
      go : (b : Bool) → (either b).begins ≡ is_s ids p
      go true = refl
      go false = refl

  pub ends_is : (segment_of ids p).ends ≡ is_e ids p
  unfolding segment_of segment_at
  ends_is = go (is_s ids p || is_e ids p)
    where
      go : (b : Bool) → (either b).ends ≡ is_e ids p
      go true = refl
      go false = refl

  pub odd_is : (segment_of ids p).odd ≡ is_o ids p
  unfolding segment_of segment_at
  odd_is = go (is_s ids p || is_e ids p)
    where
      go : (b : Bool) → (either b).odd ≡ is_o ids p
      go true = refl
      go false = refl

  pub pad_is : (segment_of ids p).pad ≡ is_p ids p
  unfolding segment_of segment_at
  pad_is = go (is_s ids p || is_e ids p)
    where
      go : (b : Bool) → (either b).pad ≡ is_p ids p
      go true = refl
      go false = refl

  pub flow_is : (segment_of ids p).flow ≡ flow_of ids p
  unfolding segment_of segment_at
  flow_is = go (is_s ids p || is_e ids p)
    where
      go : (b : Bool) → (either b).flow ≡ flow_of ids p
      go true = refl
      go false = refl

  pub raw_is : (segment_of ids p).raw ≡ length p - (segment_of ids p).from
  unfolding segment_of segment_at
  raw_is = go (is_s ids p || is_e ids p)
    where
      go : (b : Bool) → (either b).raw ≡ length p - (either b).from
      go true = refl
      go false = refl

  -- behind byte 6 at least
  pub from_least : header ids + 2 ≤ (segment_of ids p).from
  unfolding segment_of segment_at
  from_least = go (is_s ids p || is_e ids p)
    where
      go : (b : Bool) → header ids + 2 ≤ (either b).from
      go true = omega arith
      go false = omega arith

  -- a field of two bytes before the data
  pub field_is : (is_s ids p || is_e ids p) ≡ true → (segment_of ids p).field ≡ word p (header ids + 2)
  unfolding segment_of segment_at
  field_is f = rw f

  pub from_field : (is_s ids p || is_e ids p) ≡ true → (segment_of ids p).from ≡ header ids + 4
  unfolding segment_of segment_at
  from_field f = rw f

  -- by the place of the data: the two bytes before them
  pub before_data : (is_s ids p || is_e ids p) ≡ true → {from : ℕ} → from ≡ (segment_of ids p).from → word p (from - 2) ≡ (segment_of ids p).field
  before_data f {from} e =
      let place : from - 2 ≡ header ids + 2 = omega (arith, e, from_field f) in
      ap (word p) place ∙ sym (field_is f)

  pub from_is : flags ids p < 256 → (segment_of ids p).from ≡ data_from ids (flags ids p)
  unfolding segment_of segment_at
  from_is byte = go (dec_lt (flags ids p) 64)
    where
      go : Dec (flags ids p < 64) → (either (is_s ids p || is_e ids p)).from ≡ data_from ids (flags ids p)
      go (yes l) = let low = low-flags (flags ids p) l in rw (low.0, low.1, lt-ltb (flags ids p) 64 l)
      go (no l) = rw (high_flags (flags ids p) byte (omega arith), le-ltb (flags ids p) 64 (omega arith))
