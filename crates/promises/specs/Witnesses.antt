-- The premises of the promises can be met: for each there is a witness, most of them computed.
use Rattle.sending.specs.Mixture.{MixtureIsFair, MixtureDelivered}
use Rattle.eleven.specs.Eleven.{MailRunsNotEmpty}
use Rattle.eleven.specs.LastFirst.{LastFirstDelivered}
use Rattle.demands.specs.Witnesses.{CallsNotEmpty, AllowedNotEmpty, FlowsNotEmpty, PriorityNotEmpty, JointNotEmpty, WidthsNotEmpty}
use Rattle.sixteen.specs.Sixteen.{SixteenAtOnce, SixteenDelivered}
use Rattle.promises.specs.Ignored.{IgnoredNotEmpty}

pub record PremisesCanBeMet : Type 0 where
  -- there are numbers that setup takes, and calls: setup says ready, any packets can be read, every PDU that a room holds can be written
  pub allowed : AllowedNotEmpty
  pub calls : CallsNotEmpty
  -- packets that differ only in reserved bits and the pad
  pub ignored : IgnoredNotEmpty
  -- a message whose segments come in reverse order, with others between
  pub mail : MailRunsNotEmpty
  -- a message of sixteen segments that comes last-first
  pub last_first_lem : LastFirstDelivered
  -- a fair sending with a loss, mixed flows and messages between, to the byte; read by the definitions it delivers what is whole
  pub mixture : MixtureIsFair
  pub mixture_delivered : MixtureDelivered
  -- sixteen PDUs open at once, a lost start, a lost middle, packets of every other kind between
  pub sixteen : SixteenAtOnce
  pub sixteen_delivered : SixteenDelivered
  -- packets of at most sixteen flows
  pub flows : FlowsNotEmpty
  -- two of them that differ in priority alone
  pub priority : PriorityNotEmpty
  -- a packet of one width, and the same of the other
  pub widths : WidthsNotEmpty
  -- the joint happens: example 9
  pub joint : JointNotEmpty
