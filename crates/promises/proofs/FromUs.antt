-- What is responded to is a message packet addressed to us: a row that writes comes behind row 3, and only message rows write.
use Prim.Native.Nat.{ℕ, ◌+◌, ◌*◌}
use mathlib.Core.Path.{◌≡◌, refl, ap, sym, ◌∙◌}
use mathlib.Core.Logic.{◌⊎◌, inl, inr}
use mathlib.Core.List.{List, [], ◌∷◌, ◌++◌}
use mathlib.Core.Bool.{Bool, true, false, cond}
use mathlib.Core.Option as option
use lib.ListN.{length, take, drop}
use borrow.Author.Tests.{eqb-true, not-false}
use Rattle.tables.specs.Refusals.{Leaves, all, Row, Verdict, refuse, accept, verdict, none}
use Rattle.tables.proofs.Exactly.{none-held}
use Rattle.lists.specs.Bytes.{byte, written}
use Rattle.lists.proofs.Numbers.{read-from}
use Rattle.wire.specs.Packet.{header, priority, packet_type, destination, source, first_byte_of}
use Rattle.wire.proofs.Addressed.{swapped, append-headed, source-headed}
use Rattle.contexts.specs.State.{ids_in}
use Rattle.wire.specs.Head.{is9, is11, head_rows}
use Rattle.responses.specs.Type13.{above, response_to, answered}
use Rattle.reading.specs.Table.{Lent, state_in, lent_rows, table}
use Rattle.reading.specs.Read.{reading, outcome, accepting}
use Rattle.lists.proofs.Tests.{by_test, ◌and◌}
use Rattle.wire.proofs.HeadLaws.{one_type}
use Rattle.reading.proofs.Kept.{other_type}
use Rattle.lists.specs.Each.{Each}
use Rattle.promises.specs.Responses.{status_of, response_left, Responds}
use Rattle.promises.proofs.Status.{writes, nothing_written, refused_so, stream_silent, said_status, written_by_lem}

-- rows that leave all decide, or their tests fail
past_quiet : (earlier later : List Row) → Each (λ (r : Row). r.leaves ≡ all) earlier → ((number : ℕ) × (verdict (earlier ++ later) ≡ refuse number all)) ⊎ none earlier
unfolding verdict none
past_quiet [] later q = inr tt
past_quiet (r ∷ earlier) later q = go r.holds refl (past_quiet earlier later q.1)
  where
    go : (b : Bool) → r.holds ≡ b → ((number : ℕ) × (verdict (earlier ++ later) ≡ refuse number all)) ⊎ none earlier
        → ((number : ℕ) × (cond b (refuse r.number r.leaves) (verdict (earlier ++ later)) ≡ refuse number all)) ⊎ ((b ≡ false) × none earlier)
    go true h o = inl (r.number, ap (refuse r.number) q.0)
    go false h (inl w) = inl w
    go false h (inr n) = inr (refl, n)

module _ (x : Lent) where
  -- row 3 is the fifth
  addressed : none (take 5 (table x)) → destination (ids_in (state_in x)) x.packet ≡ (state_in x).setup.device
  unfolding none table lent_rows head_rows
  addressed n = eqb-true (destination (ids_in (state_in x)) x.packet) (state_in x).setup.device (not-false _ n.1.1.1.1.0)

  -- the first five write nothing; so a verdict that writes has passed them
  written_for_us : (number status : ℕ) (leaves : Leaves) → verdict (table x) ≡ refuse number leaves → writes leaves ≡ option.some status → destination (ids_in (state_in x)) x.packet ≡ (state_in x).setup.device
  unfolding table lent_rows head_rows
  written_for_us number status leaves e w = go (past_quiet (take 5 (table x)) (drop 5 (table x)) (refl and refl and refl and refl and refl and tt))
    where
      go : ((n : ℕ) × (verdict (table x) ≡ refuse n all)) ⊎ none (take 5 (table x)) → destination (ids_in (state_in x)) x.packet ≡ (state_in x).setup.device
      go (inl q) =
          let same : refuse number leaves ≡ refuse q.0 all = sym e ∙ q.1 in
          let l : leaves ≡ all = cc in
          nothing_written status (sym (ap writes l) ∙ w)
      go (inr n) = addressed n

  -- what is responded to is of type 11 and addressed to us
  record Right : Type 0 where
    type : is11 x.packet ≡ true
    for_us : destination (ids_in (state_in x)) x.packet ≡ (state_in x).setup.device

  first_five : none (table x) → none (take 5 (table x))
  unfolding none table lent_rows head_rows
  first_five n = n.0 and n.1.0 and n.1.1.0 and n.1.1.1.0 and n.1.1.1.1.0 and tt

  accepted_right : none (table x) → (status : ℕ) → status_of x (accepting x).says ≡ option.some status → Right
  accepted_right n status s =
      by_test (is9 x.packet)
      (λ t. nothing_written status (sym (stream_silent x (one_type x.packet t)) ∙ rw t at s))
      (λ t. record { type = other_type x n t; for_us = addressed (first_five n) })

  right : (v : Verdict) → verdict (table x) ≡ v → (status : ℕ) → status_of x (outcome x v).says ≡ option.some status → Right
  right (refuse number leaves) e status s =
      let so = refused_so x number leaves e in
      let w : writes leaves ≡ option.some status = sym so.status ∙ (sym (said_status x number leaves) ∙ s) in
      record { type = so.type status w; for_us = written_for_us number status leaves e w }
  right accept e status s = accepted_right (none-held (table x) e) status s

-- a response's source is the request's destination
source_is : (ids : ℕ) (response p : List ℕ) (status : ℕ) → source ids (answered ids response p status) ≡ destination ids p
unfolding answered written response_to
source_is ids response p status =
    let first : ℕ = first_byte_of ids (above (priority p)) 13 in
    let fields : List ℕ = (0b0001 * 16 + status) ∷ byte p (header ids + 1) ∷ [] in
    let behind : List ℕ = drop (0 + length (response_to ids p status)) response in
    ap (source ids) (append-headed (swapped ids p) first fields behind)
    ∙ (source-headed (swapped ids p) first (fields ++ behind) ∙ read-from ids p 1 (fields ++ behind))

pub from_us : (x : Lent) (status : ℕ) → status_of x (reading x).says ≡ option.some status → Responds x
from_us x status s =
    let r : Right x = unfold reading in (right x (verdict (table x)) refl status s) in
    record {
      to_message = eqb-true (packet_type x.packet) 11 r.type;
      for_us = r.for_us;
      own-source = ap (source (ids_in (state_in x))) (written_by_lem x ∙ ap (response_left x) s) ∙ (source_is (ids_in (state_in x)) x.desk.response x.packet status ∙ r.for_us);
    }
