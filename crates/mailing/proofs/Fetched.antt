-- What the caller has of an answer: by the definitions what the room holds, and by `message_room` the same, since on a good desk it hands back
-- the room itself and not an empty part.
use Prim.Native.Nat.{ℕ, ◌*◌, ◌≤◌, ◌<◌}
use mathlib.Core.Path.{◌≡◌, refl, ap, sym, ◌∙◌, subst}
use mathlib.Core.List.{List, [], ◌∷◌}
use mathlib.Core.Bool.{false}
use native.Mathlib.Nat.{zero-add}
use lib.ListN.{length, take, drop}
use Rattle.answers.specs.Answers.{Said, held, delivered, message, refused}
use Rattle.reading.specs.Desk.{Desk}
use Rattle.room_parts.specs.Parts.{Part, part, message_room}
use Rattle.room_parts.proofs.Laws.{message_room_itself}
use Rattle.flows.specs.Deliveries.{in_room}
use Rattle.mailing.specs.Mail.{Mail, Posted, mail_answer}
use Rattle.mailing.specs.Run.{mail_by, of_name}
use Rattle.mailing.specs.ReadBack.{GoodDesk}
use Rattle.mailing.specs.OfCalls.{RoomCall, FetchesMail}
use Rattle.mailing.proofs.Sizes.{Sized}
use Rattle.mailing.proofs.Rooms.{fits-room}
use Rattle.mailing.proofs.Contexts.{is_told_of}

-- ---- `message_room`

-- on a good desk it is asked for the room itself, for every context and every length that a room has
pub room_itself : (d : Desk) (n l : ℕ) → GoodDesk d → n < 8 → l ≤ 4096 → message_room d.words (length d.message_memory) n l ≡ part (n * 4096) l
room_itself d n l g h fits = message_room_itself d.words (length d.message_memory) n l g.good.whole g.good.good g.lends.boxes h fits

-- so it hands back what the room holds
pub hands_room : (d : Desk) (n l : ℕ) (bytes : List ℕ) → GoodDesk d → n < 8 → l ≤ 4096 → RoomCall d n l bytes → bytes ≡ in_room 4096 d.message_memory n l
hands_room d n l bytes g h fits c =
    let place : message_room d.words (length c.memory.now) n l ≡ part (n * 4096) l =
    ap (λ (memory : List ℕ). message_room d.words (length memory) n l) c.own ∙ room_itself d n l g h fits in
    sym c.handed ∙ (c.promised.bytes
    ∙ (ap (λ (p : Part). take p.size (drop p.from c.memory.now)) place ∙ ap (λ (memory : List ℕ). in_room 4096 memory n l) c.own))

-- and there is such a call, wherever the memory lies
pub room_call : (d : Desk) (n l : ℕ) → message_room d.words (length d.message_memory) n l ≡ part (n * 4096) l → RoomCall d n l (in_room 4096 d.message_memory n l)
room_call d n l place = record {
  memory = record { ref_ptr = (0, 0); now = d.message_memory };
  room = record { ref_ptr = (0, n * 4096); now = in_room 4096 d.message_memory n l };
  own = refl;
  promised = rw place (record { block = refl; offset = sym (zero-add (n * 4096)); bytes = refl });
  handed = refl;
}

-- ---- What a run relies on

-- no message of its source, letter and mbox from an answer that is not of it; and from its own answer the message, where its room holds it
pub record Has (x : Posted) (d : Desk) (says : Said) (mail : List Mail) : Type 0 where
  pub silent : is_told_of x says ≡ false → of_name x mail ≡ []
  pub message_itself : (n : ℕ) → n < 8 → GoodDesk d → in_room 4096 d.message_memory n (length x.mail.bytes) ≡ x.mail.bytes → says ≡ mail_answer x n → mail ≡ x.mail ∷ []

module _ (x : Posted) where
  -- a message to its name with those bytes
  abbrev with_bytes : List ℕ → List Mail
  with_bytes bytes = record { source = x.mail.source; letter = x.mail.letter; mailbox = x.mail.mailbox; bytes = bytes } ∷ []

  -- by the definitions
  pub has_defined : (d : Desk) (says : Said) → Has x d says (mail_by d.message_memory says)
  has_defined d says = record { silent = go says; message_itself = λ n h g room e. ap (mail_by d.message_memory) e ∙ ap with_bytes room }
    where
      go : (says : Said) → is_told_of x says ≡ false → of_name x (mail_by d.message_memory says) ≡ []
      go (message context source letter mailbox size) e = rw e
      go held e = refl
      go (delivered context flow stream size) e = refl
      go (refused number) e = refl

  -- by the calls
  pub has-fetched : Sized x → (d : Desk) (says : Said) (mail : List Mail) → FetchesMail d says mail → Has x d says mail
  has-fetched z d says mail f = record { silent = go says f; message_itself = λ n h g room e. itself n h g room (subst (λ (s : Said). FetchesMail d s mail) e f) }
    where
      go : (says : Said) → FetchesMail d says mail → is_told_of x says ≡ false → of_name x mail ≡ []
      go (message context source letter mailbox size) f e = ap (of_name x) f.2 ∙ rw e
      go held f e = ap (of_name x) f
      go (delivered context flow stream size) f e = ap (of_name x) f
      go (refused number) f e = ap (of_name x) f

      itself : (n : ℕ) → n < 8 → GoodDesk d → in_room 4096 d.message_memory n (length x.mail.bytes) ≡ x.mail.bytes → FetchesMail d (mail_answer x n) mail → mail ≡ x.mail ∷ []
      itself n h g room f = f.2 ∙ ap with_bytes (hands_room d n (length x.mail.bytes) f.0 g h (fits-room x z) f.1 ∙ room)
