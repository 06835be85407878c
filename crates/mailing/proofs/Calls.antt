-- The calls of a run, for the proof: both those that the definitions have and those that people make. A call reads its packet with any response
-- buffer that 12 allows, says and leaves what the definition says, and gives the caller what `Has` says.
use Prim.Native.Nat.{ℕ, ◌≤◌}
use mathlib.Core.Path.{sym, subst}
use mathlib.Core.List.{List, [], ◌∷◌}
use lib.ListN.{length}
use Rattle.answers.specs.Answers.{Said, said}
use Rattle.wire.specs.declared.Setup.{Setup}
use Rattle.responses.specs.Type13.{response_size}
use Rattle.contexts.specs.State.{ids_in}
use Rattle.reading.specs.Desk.{Desk, state_on, with_response}
use Rattle.reading.specs.Table.{Lent, lent}
use Rattle.reading.specs.Read.{Settled}
use Rattle.reading.proofs.Response.{still_allowed}
use Rattle.reading.proofs.Spoken.{answered_by, says_it, promised}
use Rattle.flows.specs.Deliveries.{read, after}
use Rattle.mailing.specs.Mail.{Mail, Posted}
use Rattle.mailing.specs.Run.{MailTurn, turn_packet, run_packets, MailCall, mail_by, calls_of}
use Rattle.mailing.specs.OfCalls.{FetchesMail, MailCalls, all_made, made}
use Rattle.mailing.proofs.Sizes.{Sized}
use Rattle.mailing.proofs.Fetched.{Has, has_defined, has-fetched}

-- a call that says and leaves what the definition does
abbrev pub call_with : Desk → List ℕ → List Mail → MailCall
call_with d p mail = record { lent = d; packet = p; says = (read d p).says; left = after d p; mail = mail }

-- a call for each turn
pub data Calls (setup : Setup) (x : Posted) : Desk → List MailTurn → List MailCall → Type 0 where
  none : {d : Desk} → Calls setup x d [] []
  one : {d : Desk} {t : MailTurn} {ts : List MailTurn} {cs : List MailCall} (given : List ℕ) (mail : List Mail)
      → response_size (ids_in (state_on d)) ≤ length given
      → Has x (after (with_response d given) (turn_packet setup x t)) (read (with_response d given) (turn_packet setup x t)).says mail
      → Calls setup x (after (with_response d given) (turn_packet setup x t)) ts cs
      → Calls setup x d (t ∷ ts) (call_with (with_response d given) (turn_packet setup x t) mail ∷ cs)

module _ (setup : Setup) (x : Posted) where
  -- by the definitions, with the response buffer of the desk
  pub of_definitions : (ts : List MailTurn) (d : Desk) → response_size (ids_in (state_on d)) ≤ length d.response → Calls setup x d ts (calls_of d (run_packets setup x ts))
  of_definitions [] d h = none
  of_definitions (t ∷ ts) d h =
      let p : List ℕ = turn_packet setup x t in
      one d.response (mail_by (after d p).message_memory (read d p).says) h (has_defined x (after d p) (read d p).says)
      (of_definitions ts (after d p) (still_allowed (lent d p) h))

  -- by promises
  pub of_promises : Sized x → {d : Desk} {cs : List MailCall} (ts : List MailTurn) → MailCalls d (run_packets setup x ts) cs → Calls setup x d ts cs
  of_promises z [] all_made = none
  of_promises z {d} (t ∷ ts) (made {cs = cs} given r left mail h promise f rest) =
      let p : List ℕ = turn_packet setup x t in
      let e : Desk = with_response d given in
      subst (λ (y : Settled). Has x y.desk y.says mail → Calls setup x y.desk ts cs
      → Calls setup x d (t ∷ ts) (record { lent = e; packet = p; says = y.says; left = y.desk; mail = mail } ∷ cs))
      (sym promise) (one given mail h)
      (has-fetched x z left (said r.answer) mail f) (of_promises z {d = left} ts rest)

-- ---- There are such calls

-- at each delivery `message_room` can hand back what the room holds
abbrev pub Handed : Desk → List (List ℕ) → Type 0
Handed d [] = Unit {0}
Handed d (p ∷ ps) = FetchesMail (after d p) (read d p).says (mail_by (after d p).message_memory (read d p).says) × Handed (after d p) ps

-- then the calls that the definitions have can be made
pub defined_made : (ps : List (List ℕ)) (d : Desk) → response_size (ids_in (state_on d)) ≤ length d.response → Handed d ps → MailCalls d ps (calls_of d ps)
defined_made [] d h f = all_made
defined_made (p ∷ ps) d h f =
    let x : Lent = lent d p in
    let mail : List Mail = mail_by (after d p).message_memory (read d p).says in
    let rest = defined_made ps (after d p) (still_allowed x h) f.1 in
    subst (λ (s : Said). FetchesMail (after d p) s mail → MailCalls d (p ∷ ps) (record { lent = d; packet = p; says = s; left = after d p; mail = mail } ∷ calls_of (after d p) ps))
    (says_it x) (λ g. made d.response (answered_by x) (after d p) mail h (promised x) g rest) f.0
