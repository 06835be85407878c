-- Runs over packets that are put on a flow: what they deliver, and what the flow has in the end.
use Prim.Native.Nat.{◌+◌}
use mathlib.Core.Path.{◌≡◌, refl, ap, ◌∙◌}
use mathlib.Core.List.{List, [], ◌∷◌, ◌++◌}
use mathlib.Core.Bool.{Bool, true, false, cond}
use mathlib.Core.Option.{Option, none, some}
use Rattle.wire.specs.declared.Flow.{Flow}
use Rattle.wire.specs.declared.Setup.{Setup}
use Rattle.flows.specs.OneFlow.{PDU}
use Rattle.sending.specs.Sending.{Put}
use Rattle.sending.specs.OneFlow.{packet_step, delivered_pdu, also, flow_deliveries, arriving}
use Rattle.sending.proofs.OneFlow.{after_put, Good}

module _ (setup : Setup) where
  -- what is delivered, and what the flow has in the end
  abbrev pub gives : Option PDU → List Put → List PDU
  gives o xs = flow_deliveries setup o (arriving xs)

  abbrev pub leaves : Option PDU → List Put → Option PDU
  leaves o [] = o
  leaves o (x ∷ xs) = leaves (after_put setup o x) xs

  -- one run after the other
  pub gives-append : (xs ys : List Put) (o : Option PDU) → gives o (xs ++ ys) ≡ gives o xs ++ gives (leaves o xs) ys
  gives-append [] ys o = refl
  gives-append (x ∷ xs) ys o = go x.lost (gives-append xs ys)
    where
      front : (w : Option PDU) (a b : List PDU) → also w (a ++ b) ≡ also w a ++ b
      front none a b = refl
      front (some p) a b = refl

      go : (t : Bool) → ((o : Option PDU) → gives o (xs ++ ys) ≡ gives o xs ++ gives (leaves o xs) ys)
          → flow_deliveries setup o (cond t (arriving (xs ++ ys)) (x.packet ∷ arriving (xs ++ ys)))
          ≡ flow_deliveries setup o (cond t (arriving xs) (x.packet ∷ arriving xs)) ++ gives (leaves (cond t o (packet_step setup o x.packet).next) xs) ys
      go true rest = rest o
      go false rest =
          let o' : Option PDU = (packet_step setup o x.packet).next in
          ap (also (delivered_pdu (packet_step setup o x.packet).told)) (rest o')
          ∙ front (delivered_pdu (packet_step setup o x.packet).told) (gives o' xs) (gives (leaves o' xs) ys)

-- what is whole, of packets that are put on
abbrev pub completed : List Put → List PDU
completed [] = []
completed (x ∷ xs) = also x.whole (completed xs)

-- a good run delivers what is whole
pub good-gives : (setup : Setup) (flow : Flow) (xs : List Put) (o : Option PDU) → Good setup flow o xs → gives setup o xs ≡ completed xs
good-gives setup flow [] o g = refl
good-gives setup flow (x ∷ xs) o g = go x.lost refl (good-gives setup flow xs)
  where
    go : (t : Bool) → x.lost ≡ t → ((o : Option PDU) → Good setup flow o xs → gives setup o xs ≡ completed xs)
        → flow_deliveries setup o (cond t (arriving xs) (x.packet ∷ arriving xs)) ≡ also x.whole (completed xs)
    go true e rest =
        let w : none ≡ x.whole = rw e at g.1 in
        let k : Good setup flow o xs = rw e at g.2 in
        rest o k ∙ ap (λ (y : Option PDU). also y (completed xs)) w
    go false e rest =
        let w : delivered_pdu (packet_step setup o x.packet).told ≡ x.whole = rw e at g.1 in
        let k : Good setup flow (packet_step setup o x.packet).next xs = rw e at g.2 in
        ap (also (delivered_pdu (packet_step setup o x.packet).told)) (rest (packet_step setup o x.packet).next k) ∙ ap (λ (y : Option PDU). also y (completed xs)) w
