-- Laws of numbers in bytes, of every number of bytes: how many there are, that they are read back, which numbers bytes make, and of
-- bytes copied. Then of one and of two bytes, as IDs have them.
use Prim.Native.Nat.{ℕ, suc, ◌+◌, ◌*◌, ◌/◌, ◌%◌, ◌^◌, ◌≤◌, ◌<◌}
use mathlib.Core.Path.{◌≡◌, refl, sym, ap, ap₂, ◌∙◌}
use mathlib.Core.List.{List, [], ◌∷◌, ◌++◌}
use native.Mathlib.Nat.{add-zero, add_comm, add_assoc, add-mul-div_right, div-eq_of_lt, mul-one, mul_assoc, mul-add, mul_comm, div-one, div-add-mod, div-div-eq-div-mul, mul-add-mod_self_left, mod-eq_of_lt, mod-lt, mod-one, pow-suc, one-le-pow, suc-mul, mul-le-mul_right}
use native.Mathlib.Numerals.{add-one}
use native.Mathlib.Omega.{arith}
use lib.ListN.{length, get_or}
use Rattle.lists.specs.Bytes.{byte, word, high, low, AreBytes, bytes_from, number, in_bytes}

-- a number has so many bytes
pub length_in : (n v : ℕ) → length (in_bytes n v) ≡ n
unfolding in_bytes
length_in ℕ.zero v = refl
length_in (suc n) v = ap suc (length_in n v)

-- ---- read back

-- behind one more byte the same number stands one later
later : (n x : ℕ) (p : List ℕ) (at : ℕ) → number n (x ∷ p) (at + 1) ≡ number n p at
unfolding number
later ℕ.zero x p at = refl
later (suc n) x p at = ap₂ (λ (a b : ℕ). a * 256 ^ n + b) (ap (λ (k : ℕ). get_or (x ∷ p) k 0) (add-one at)) (later n x p (at + 1))

-- behind a whole list, so many later
pub behind : (n : ℕ) (front p : List ℕ) (at : ℕ) → number n (front ++ p) (length front + at) ≡ number n p at
behind n [] p at = ap (number n p) (omega arith)
behind n (x ∷ front) p at = ap (number n (x ∷ (front ++ p))) (omega arith) ∙ (later n x (front ++ p) (length front + at) ∙ behind n front p at)

-- one more byte of a number
more : (v below : ℕ) → 0 < below → v / below % 256 * below + v % below ≡ v % (below * 256)
more v below pos =
    let quotient = v / below in
    let parts : quotient ≡ 256 * (v / (below * 256)) + quotient % 256 =
    sym (div-add-mod quotient 256) ∙ ap (λ (x : ℕ). 256 * x + quotient % 256) (div-div-eq-div-mul v below 256) in
    let whole : v ≡ below * 256 * (v / (below * 256)) + (quotient % 256 * below + v % below) =
    sym (div-add-mod v below)
    ∙ (ap (λ (x : ℕ). below * x + v % below) parts
    ∙ (ap (λ (x : ℕ). x + v % below) (mul-add below (256 * (v / (below * 256))) (quotient % 256))
    ∙ (add_assoc (below * (256 * (v / (below * 256)))) (below * (quotient % 256)) (v % below)
    ∙ ap₂ (λ (x y : ℕ). x + (y + v % below)) (sym (mul_assoc below 256 (v / (below * 256)))) (mul_comm below (quotient % 256))))) in
    let short : v % below < below = mod-lt v pos in
    let digit : quotient % 256 < 256 = mod-lt quotient (omega arith) in
    let room : suc (quotient % 256) * below ≤ 256 * below = mul-le-mul_right below digit in
    let within : quotient % 256 * below + below ≤ 256 * below = rw suc-mul at room in
    let small : quotient % 256 * below + v % below < below * 256 = omega arith in
    sym (ap (λ (x : ℕ). x % (below * 256)) whole ∙ (mul-add-mod_self_left (below * 256) (v / (below * 256)) (quotient % 256 * below + v % below) ∙ mod-eq_of_lt small))

pub read_mod : (n v : ℕ) (rest : List ℕ) → number n (in_bytes n v ++ rest) 0 ≡ v % 256 ^ n
unfolding number in_bytes
read_mod ℕ.zero v rest = sym (mod-one v)
read_mod (suc n) v rest =
    ap (λ (x : ℕ). v / 256 ^ n % 256 * 256 ^ n + x) (later n (v / 256 ^ n % 256) (in_bytes n v ++ rest) 0 ∙ read_mod n v rest)
    ∙ (more v (256 ^ n) (one-le-pow n 256 (omega arith)) ∙ ap (λ (x : ℕ). v % x) (sym (pow-suc 256 n)))

-- what is written of a number is read back, whatever stands before and behind
pub read_back : (n v : ℕ) (front rest : List ℕ) → v < 256 ^ n → number n (front ++ (in_bytes n v ++ rest)) (length front) ≡ v
read_back n v front rest small =
    ap (number n (front ++ (in_bytes n v ++ rest))) (sym (add-zero (length front)))
    ∙ (behind n front (in_bytes n v ++ rest) 0 ∙ (read_mod n v rest ∙ mod-eq_of_lt small))

-- bytes make a number below 256 ^ n
pub number-below : (n : ℕ) (p : List ℕ) (at : ℕ) → AreBytes p → number n p at < 256 ^ n
unfolding number
number-below ℕ.zero p at bytes = omega arith
number-below (suc n) p at bytes =
    let room : suc (byte p at) * 256 ^ n ≤ 256 * 256 ^ n = mul-le-mul_right (256 ^ n) (bytes at) in
    let rest : number n p (at + 1) < 256 ^ n = number-below n p (at + 1) bytes in
    let all : byte p at * 256 ^ n + 256 ^ n ≤ 256 ^ n * 256 = rw (suc-mul, mul_comm 256 (256 ^ n)) at room in
    rw pow-suc (omega arith)

-- ---- bytes copied

pub length_from : (n : ℕ) (p : List ℕ) (at : ℕ) → length (bytes_from n p at) ≡ n
unfolding bytes_from
length_from ℕ.zero p at = refl
length_from (suc n) p at = ap suc (length_from n p (at + 1))

-- they make the same number
pub read-from : (n : ℕ) (p : List ℕ) (at : ℕ) (rest : List ℕ) → number n (bytes_from n p at ++ rest) 0 ≡ number n p at
unfolding number bytes_from
read-from ℕ.zero p at rest = refl
read-from (suc n) p at rest =
    ap (λ (x : ℕ). byte p at * 256 ^ n + x) (later n (byte p at) (bytes_from n p (at + 1) ++ rest) 0 ∙ read-from n p (at + 1) rest)

-- what stands above n bytes is none of them
only_below : (n k v : ℕ) → in_bytes n (v + k * 256 ^ n) ≡ in_bytes n v
unfolding in_bytes
only_below ℕ.zero k v = refl
only_below (suc n) k v =
    let pos : 0 < 256 ^ n = one-le-pow n 256 (omega arith) in
    let wider : k * 256 ^ suc n ≡ k * 256 * 256 ^ n = ap (λ (x : ℕ). k * x) (pow-suc 256 n ∙ mul_comm (256 ^ n) 256) ∙ sym (mul_assoc k 256 (256 ^ n)) in
    let digit : (v + k * 256 * 256 ^ n) / 256 ^ n % 256 ≡ v / 256 ^ n % 256 = rw (add-mul-div_right v (k * 256) pos) (omega arith) in
    rw wider (ap₂ (λ (x : ℕ) (l : List ℕ). x ∷ l) digit (only_below n (k * 256) v))

-- and they are that number's bytes
pub from_is : (n : ℕ) (p : List ℕ) (at : ℕ) → AreBytes p → bytes_from n p at ≡ in_bytes n (number n p at)
unfolding number bytes_from in_bytes
from_is ℕ.zero p at bytes = refl
from_is (suc n) p at bytes =
    let rest : ℕ = number n p (at + 1) in
    let pos : 0 < 256 ^ n = one-le-pow n 256 (omega arith) in
    let small : rest / 256 ^ n ≡ 0 = div-eq_of_lt (number-below n p (at + 1) bytes) in
    let first : byte p at ≡ (rest + byte p at * 256 ^ n) / 256 ^ n % 256 = rw (add-mul-div_right rest (byte p at) pos) (omega (arith, bytes at)) in
    rw (add_comm (byte p at * 256 ^ n) rest)
    (ap₂ (λ (x : ℕ) (l : List ℕ). x ∷ l) first (from_is n p (at + 1) bytes ∙ sym (only_below n (byte p at) rest)))

-- ---- one byte and two
pub number-one : (p : List ℕ) (at : ℕ) → number 1 p at ≡ byte p at
unfolding number
number-one p at = simp (mul-one, add-zero)

pub number_two : (p : List ℕ) (at : ℕ) → number 2 p at ≡ word p at
unfolding number
number_two p at = simp (mul-one, add-zero)

pub in_one : (v : ℕ) → in_bytes 1 v ≡ (v % 256) ∷ []
unfolding in_bytes
in_one v = simp div-one

pub in_two : (v : ℕ) → in_bytes 2 v ≡ high v ∷ low v ∷ []
unfolding in_bytes
in_two v = simp div-one

-- IDs have one byte or two
pub one_or_two : (ids : ℕ) → 1 ≤ ids → ids ≤ 2 → (ids ≡ 1 → ⊥) → ids ≡ 2
one_or_two ids a b n = omega arith
