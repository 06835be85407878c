-- Laws of `rows`, for every width: reading a row, writing one, writing behind the table, and back to the words.
use Prim.Native.Nat.{ℕ, suc, ◌≤◌, ◌<◌, ◌+◌, ◌-◌, ◌*◌}
use mathlib.Core.Path.{◌≡◌, refl, ap, ap₂, sym, ◌∙◌}
use mathlib.Core.List.{List, [], ◌∷◌, ◌++◌, map, append_assoc}
use native.Mathlib.Omega.{arith}
use native.Mathlib.Nat.{mul-suc, mul-zero, mul-le-mul_left, add_comm, add-zero, add-suc, suc-add}
use lib.ListN.{length, get_or, take, drop, set, length-drop, length-map, length-append, get_or-map}
use lib.Seq.{drop-drop, drop-cons, take_all, take_at, drop_at, take-add, length-take-le, sets, set-get_or, get_or-set_other}
use Rattle.lists.specs.Bytes.{written}
use Rattle.lists.specs.Rows.{rows, joined, records_at}
use Rattle.lists.proofs.Written.{stores, drop-written, take-before, part-written, drop-behind}

step : (k i : ℕ) → k + k * i ≡ k * suc i
step k i = add_comm k (k * i) ∙ sym (mul-suc k i)

pub length-rows : (k n : ℕ) (w : List ℕ) → length (rows k n w) ≡ n
unfolding rows
length-rows k ℕ.zero w = refl
length-rows k (suc n) w = ap suc (length-rows k n (drop k w))

pub row_at : (k n i : ℕ) (w : List ℕ) → i < n → get_or (rows k n w) i [] ≡ take k (drop (k * i) w)
unfolding rows
row_at k ℕ.zero i w h = absurd (omega arith)
row_at k (suc n) ℕ.zero w h = rw (mul-zero k)
row_at k (suc n) (suc i) w h =
    row_at k n i (drop k w) (omega arith) ∙ ap (λ (l : List ℕ). take k l) (drop-drop (k * i) k w ∙ ap (λ (j : ℕ). drop j w) (step k i))

-- a whole row written is a `set` of that row
pub row_written : (k n i : ℕ) (w row : List ℕ) → length row ≡ k → i < n → k * n ≤ length w → rows k n (written w (k * i) row) ≡ set (rows k n w) i row
unfolding rows
row_written k ℕ.zero i w row e h z = absurd (omega arith)
row_written k (suc n) ℕ.zero w row e h z =
    let m = mul-suc k n in
    let place : k * 0 ≡ 0 = mul-zero k in
    let fits : 0 + length row ≤ length w = omega arith in
    let front : take k (written w 0 row) ≡ row = ap (λ (j : ℕ). take j (written w 0 row)) (sym e) ∙ part-written w row 0 fits in
    let rest : drop k (written w 0 row) ≡ drop k w = drop-behind w row 0 fits k (omega arith) in
    rw place (ap₂ (λ (x y : List ℕ). x ∷ rows k n y) front rest)
row_written k (suc n) (suc i) w row e h z =
    let m = mul-suc k n in
    let more = mul-suc k i in
    let below : k * suc i ≤ k * n = mul-le-mul_left k (omega arith) in
    let place : k * suc i ≡ k + k * i = sym (step k i) in
    let fits : k + k * i + length row ≤ length w = omega arith in
    let front : take k (written w (k + k * i) row) ≡ take k w = take-before w row (k + k * i) fits k (omega arith) in
    rw place
    (ap₂ (λ (x : List ℕ) (y : List (List ℕ)). x ∷ y) front
    (ap (λ (l : List ℕ). rows k n l) (drop-written k w row (k * i) fits) ∙ row_written k n i (drop k w) row e (omega arith) (simp length-drop (omega arith))))

-- what is written behind the table changes no row
pub rows_before : (k n at : ℕ) (w values : List ℕ) → k * n ≤ at → at + length values ≤ length w → rows k n (written w at values) ≡ rows k n w
unfolding rows
rows_before k ℕ.zero at w values h fits = refl
rows_before k (suc n) at w values h fits =
    let m = mul-suc k n in
    let place : at ≡ k + (at - k) = omega arith in
    let room : k + (at - k) + length values ≤ length w = omega arith in
    let front : take k (written w (k + (at - k)) values) ≡ take k w = take-before w values (k + (at - k)) room k (omega arith) in
    let rest : rows k n (written (drop k w) (at - k) values) ≡ rows k n (drop k w) = rows_before k n (at - k) (drop k w) values (omega arith) (simp length-drop (omega arith)) in
    ap (λ (i : ℕ). rows k (suc n) (written w i values)) place
    ∙ ap₂ (λ (x : List ℕ) (y : List (List ℕ)). x ∷ y) front (ap (λ (l : List ℕ). rows k n l) (drop-written k w values (at - k) room) ∙ rest)

-- the rows are the words and no more
pub joined_front : (k n : ℕ) (w : List ℕ) → k * n ≤ length w → joined (rows k n w) ≡ take (k * n) w
unfolding rows joined
joined_front k ℕ.zero w h = rw (mul-zero k)
joined_front k (suc n) w h =
    let m = mul-suc k n in
    ap (λ (l : List ℕ). take k w ++ l) (joined_front k n (drop k w) (simp length-drop (omega arith)))
    ∙ (sym (take-add k (k * n) w) ∙ ap (λ (j : ℕ). take j w) (step k n))

pub map-set : {A B : Type 0} (f : A → B) (l : List A) (i : ℕ) (a : A) → map f (set l i a) ≡ set (map f l) i (f a)
map-set f [] i a = refl
map-set f (x ∷ l) ℕ.zero a = refl
map-set {A} {B} f (x ∷ l) (suc i) a = ap (λ (m : List B). f x ∷ m) (map-set f l i a)

-- ---- words read and written one by one, as code does

-- the `count` words from place k of those at `at` on
abbrev pub read_at : List ℕ → ℕ → ℕ → ℕ → List ℕ
read_at w at k ℕ.zero = []
read_at w at k (suc count) = get_or w (at + k) 0 ∷ read_at w at (suc k) count

pub read_is : (w : List ℕ) (at k count : ℕ) → at + k + count ≤ length w → read_at w at k count ≡ take count (drop (at + k) w)
read_is w at k ℕ.zero h = refl
read_is w at k (suc count) h =
    ap (λ (l : List ℕ). get_or w (at + k) 0 ∷ l) (read_is w at (suc k) count (omega arith) ∙ ap (λ (n : ℕ). take count (drop n w)) (add-suc at k))
    ∙ sym (ap (take (suc count)) (drop-cons w (at + k) 0 (omega arith)))

-- the words with these in the place of those from place k of those at `at` on
abbrev pub write_at : List ℕ → ℕ → ℕ → List ℕ → List ℕ
write_at w at k [] = w
write_at w at k (v ∷ vs) = write_at (set w (at + k) v) at (suc k) vs

write_sets : (w : List ℕ) (at k : ℕ) (vs : List ℕ) → write_at w at k vs ≡ sets w (at + k) vs
write_sets w at k [] = refl
write_sets w at k (v ∷ vs) = write_sets (set w (at + k) v) at (suc k) vs ∙ ap (λ (n : ℕ). sets (set w (at + k) v) n vs) (add-suc at k)

pub write_is : (w : List ℕ) (at : ℕ) (vs : List ℕ) → at + length vs ≤ length w → write_at w at 0 vs ≡ written w at vs
write_is w at vs h = write_sets w at 0 vs ∙ (ap (λ (n : ℕ). sets w n vs) (add-zero at) ∙ stores w vs at h)

-- words written as they stand change nothing, and what follows them is written behind
write_read : (w : List ℕ) (at k count : ℕ) (vs : List ℕ) → write_at w at k (read_at w at k count ++ vs) ≡ write_at w at (k + count) vs
write_read w at k ℕ.zero vs = ap (λ (n : ℕ). write_at w at n vs) (sym (add-zero k))
write_read w at k (suc count) vs =
    ap (λ (l : List ℕ). write_at l at (suc k) (read_at w at (suc k) count ++ vs)) (set-get_or w (at + k) 0)
    ∙ (write_read w at (suc k) count vs ∙ ap (λ (n : ℕ). write_at w at n vs) (suc-add k count ∙ sym (add-suc k count)))

-- a word written changes none of those behind it
read_behind : (w : List ℕ) (at j v k count : ℕ) → j < k → read_at (set w (at + j) v) at k count ≡ read_at w at k count
read_behind w at j v k ℕ.zero h = refl
read_behind w at j v k (suc count) h =
    ap₂ (λ (x : ℕ) (l : List ℕ). x ∷ l) (get_or-set_other w (at + j) (at + k) v 0 (λ e. omega arith)) (read_behind w at j v (suc k) count (omega arith))

-- the first word written, and those behind the next `count`: these are as they were
pub write_around : (w : List ℕ) (at v count : ℕ) (vs : List ℕ)
    → write_at w at 0 (v ∷ (read_at w at 1 count ++ vs)) ≡ write_at (set w (at + 0) v) at (1 + count) vs
write_around w at v count vs =
    ap (λ (l : List ℕ). write_at (set w (at + 0) v) at 1 (l ++ vs)) (sym (read_behind w at 0 v 1 count (omega arith)))
    ∙ write_read (set w (at + 0) v) at 1 count vs

-- ---- records kept as rows: `from` reads one out of its words, `to` gives its words
module _ {A : Type 0} (from : List ℕ → A) (width count first : ℕ) where
  pub length-records : (w : List ℕ) → length (records_at from width count first w) ≡ count
  length-records w = length-map (rows width count (drop first w)) from ∙ length-rows width count (drop first w)

  module _ (w : List ℕ) (fits : first + width * count ≤ length w) where
    place-fits : (i : ℕ) → i < count → first + width * i + width ≤ length w
    place-fits i h = omega (arith, mul-suc width i, mul-le-mul_left width h)

    -- record i is what its words say
    pub record_read : (i : ℕ) → i < count → from (read_at w (first + width * i) 0 width) ≡ get_or (records_at from width count first w) i (from [])
    record_read i h =
        let at : ℕ = first + width * i in
        ap from
        (read_is w at 0 width (omega (arith, place-fits i h))
        ∙ ap (take width) (ap (λ (n : ℕ). drop n w) (add-zero at) ∙ sym (drop-drop (width * i) first w))
        ∙ sym (row_at width count i (drop first w) h))
        ∙ sym (get_or-map from (rows width count (drop first w)) i [])

    -- its words written are a `set` of that record
    pub record_put : (i : ℕ) (row : List ℕ) → length row ≡ width → i < count
        → records_at from width count first (written w (first + width * i) row) ≡ set (records_at from width count first w) i (from row)
    record_put i row e h =
        ap (map from)
        (ap (rows width count) (drop-written first w row (width * i) (omega (arith, place-fits i h)))
        ∙ row_written width count i (drop first w) row e h (simp length-drop (omega arith)))
        ∙ map-set from (rows width count (drop first w)) i row

    -- words written behind the records change none
    pub records-before : (at : ℕ) (values : List ℕ) → first + width * count ≤ at → at + length values ≤ length w
        → records_at from width count first (written w at values) ≡ records_at from width count first w
    records-before at values h g =
        let place : at ≡ first + (at - first) = omega arith in
        let room : first + (at - first) + length values ≤ length w = omega arith in
        ap (λ (n : ℕ). records_at from width count first (written w n values)) place
        ∙ ap (map from)
        (ap (rows width count) (drop-written first w values (at - first) room)
        ∙ rows_before width count (at - first) (drop first w) values (omega arith) (simp length-drop (omega arith)))

    -- nor do words written before them
    pub records-behind : (at : ℕ) (values : List ℕ) → at + length values ≤ first
        → records_at from width count first (written w at values) ≡ records_at from width count first w
    records-behind at values h = ap (λ (l : List ℕ). map from (rows width count l)) (drop-behind w values at (omega arith) first h)

-- ---- records are their words and no more

-- `to` gives the words of a record and `from` reads them, each all that the other has
pub record Rowed {A : Type 0} (width : ℕ) (from : List ℕ → A) (to : A → List ℕ) : Type 0 where
  pub wide : (a : A) → length (to a) ≡ width
  pub same : (a : A) → from (to a) ≡ a
  pub again : (w : List ℕ) → to (from (read_at w 0 0 width)) ≡ read_at w 0 0 width

module _ {A : Type 0} {width : ℕ} {from : List ℕ → A} {to : A → List ℕ} (both : Rowed width from to) where
  -- a row is the words of its record
  pub row_again : (row : List ℕ) → length row ≡ width → to (from row) ≡ row
  row_again row e =
      let whole : read_at row 0 0 width ≡ row = read_is row 0 0 width (omega arith) ∙ take_all width row (omega arith) in
      ap (λ (l : List ℕ). to (from l)) (sym whole) ∙ (both.again row ∙ whole)

  rows_again : (n : ℕ) (w : List ℕ) → width * n ≤ length w → map to (map from (rows width n w)) ≡ rows width n w
  unfolding rows
  rows_again ℕ.zero w h = refl
  rows_again (suc n) w h =
      let m = mul-suc width n in
      ap₂ (λ (x : List ℕ) (y : List (List ℕ)). x ∷ y)
      (row_again (take width w) (length-take-le width w (omega arith))) (rows_again n (drop width w) (simp length-drop (omega arith)))

  -- the words of the records that stand in a table are the table's
  pub records_words : (count first : ℕ) (w : List ℕ) → first + width * count ≤ length w
      → joined (map to (records_at from width count first w)) ≡ take (width * count) (drop first w)
  records_words count first w h =
      let fits : width * count ≤ length (drop first w) = simp length-drop (omega arith) in
      ap joined (rows_again count (drop first w) fits) ∙ joined_front width count (drop first w) fits

  -- the records of a table made of records are those
  records-made : (l : List A) (rest : List ℕ) → map from (rows width (length l) (joined (map to l) ++ rest)) ≡ l
  unfolding rows joined
  records-made [] rest = refl
  records-made (a ∷ l) rest =
      let front : to a ++ joined (map to l) ++ rest ≡ to a ++ (joined (map to l) ++ rest) = append_assoc (to a) (joined (map to l)) rest in
      ap (λ (w : List ℕ). map from (take width w ∷ rows width (length l) (drop width w))) front
      ∙ ap₂ (λ (x : A) (y : List A). x ∷ y)
      (ap from (take_at (to a) (joined (map to l) ++ rest) width (both.wide a)) ∙ both.same a)
      (ap (λ (w : List ℕ). map from (rows width (length l) w)) (drop_at (to a) (joined (map to l) ++ rest) width (both.wide a)) ∙ records-made l rest)

  pub words_records : (count first : ℕ) (front : List ℕ) (l : List A) (rest : List ℕ) → length front ≡ first → length l ≡ count
      → records_at from width count first (front ++ (joined (map to l) ++ rest)) ≡ l
  words_records count first front l rest f e =
      ap (λ (w : List ℕ). map from (rows width count w)) (drop_at front (joined (map to l) ++ rest) first f)
      ∙ (ap (λ (n : ℕ). map from (rows width n (joined (map to l) ++ rest))) (sym e) ∙ records-made l rest)

  pub length-joined : (l : List A) → length (joined (map to l)) ≡ width * length l
  unfolding joined
  length-joined [] = sym (mul-zero width)
  length-joined (a ∷ l) = length-append (to a) (joined (map to l)) ∙ omega (arith, both.wide a, length-joined l, mul-suc width (length l))
