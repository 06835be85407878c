-- The promises hold: each by the theorem that is cited.
use Rattle.sending.proofs.Cut.{segments-read_back}
use Rattle.sending.proofs.Meaning.{in_order, whole_is_intact}
use Rattle.sending.proofs.Joint.{joint_exactly, joint_only, joint-length, joint_unsent}
use Rattle.sending.proofs.Untold.{joint_untold}
use Rattle.sending.proofs.Mixture.{mixture-is_fair}
use Rattle.sending.proofs.MixtureRun.{mixture_delivered}
use Rattle.sending.proofs.Widths.{segment_of_other_width_refused, segments_same_but_for_ids}
use Rattle.flows.proofs.Apart.{flows_apart, same_packets_same_answers}
use Rattle.flows.proofs.Widths.{other_width_refused, same_but_for_ids}
use Rattle.priorities.proofs.Joined.{delivered_flow}
use Rattle.priorities.proofs.Apart.{priority_apart}
use Rattle.counting.proofs.Complete.{complete_by_count, marks_within}
use Rattle.mailing.proofs.Packets.{mail_read}
use Rattle.mailing.proofs.Desks.{others_leave_mail}
use Rattle.mailing.proofs.Runs.{message_read_back_of_calls}
use Rattle.eleven.proofs.Eleven.{mail_runs_not_empty}
use Rattle.eleven.proofs.LastFirst.{last_first_delivered}
use Rattle.paper_examples.proofs.Table.{examples_hold, examples_of_02}
use Rattle.calls.proofs.Rooms.{room_of_delivered}
use Rattle.demands.proofs.Demands.{ours_meets, our_writer_meets, corollary3}
use Rattle.demands.proofs.OfCalls.{demand2_of_calls, demand3_of_calls, demand3_any_loss}
use Rattle.demands.proofs.Impostors.{impostors_break}
use Rattle.demands.proofs.Witnesses.{calls_not_empty, allowed_not_empty, flows_not_empty, priority_not_empty, joint_not_empty, widths_not_empty}
use Rattle.sixteen.proofs.Sixteen.{sixteen_at_once, sixteen_delivered}
use Rattle.promises.specs.Statements.{Promises}
use Rattle.promises.specs.Witnesses.{PremisesCanBeMet}
use Rattle.promises.proofs.ByTable.{reading_by_table, head_by_table, setup_by-table, abandon_stream_by_table, abandon_message_by_table}
use Rattle.promises.proofs.ByTable.{ask_stream_by_table, ask_message_by_table, writer_by_table}
use Rattle.promises.proofs.Responses.{responses_exactly}
use Rattle.promises.proofs.GoodStates.{good_states_stay}
use Rattle.promises.proofs.Determinism.{one_outcome_each}
use Rattle.promises.proofs.Ignored.{reserved_and_pad_ignored, ignored_not_empty}

pub premises_can_be_met : PremisesCanBeMet
premises_can_be_met = record {
  allowed = allowed_not_empty;
  calls = calls_not_empty;
  ignored = ignored_not_empty;
  mail = mail_runs_not_empty;
  last_first_lem = last_first_delivered;
  mixture = mixture-is_fair;
  mixture_delivered = mixture_delivered;
  sixteen = sixteen_at_once;
  sixteen_delivered = sixteen_delivered;
  flows = flows_not_empty;
  priority = priority_not_empty;
  widths = widths_not_empty;
  joint = joint_not_empty;
}

pub promises : Promises
promises = record {
  reading = reading_by_table;
  setup = setup_by-table;
  abandon_stream_lem = abandon_stream_by_table;
  abandon_message_lem = abandon_message_by_table;
  ask_stream_lem = ask_stream_by_table;
  ask_message_lem = ask_message_by_table;
  writer = writer_by_table;
  one-outcome = one_outcome_each;
  good_states = good_states_stay;
  head = head_by_table;
  ignored = reserved_and_pad_ignored;
  segments = segments-read_back;
  mail_segments = mail_read;
  responses = responses_exactly;
  room = room_of_delivered;
  demand2 = demand2_of_calls;
  messages = message_read_back_of_calls;
  mail_stays = others_leave_mail;
  demand3 = demand3_of_calls;
  corollary3 = corollary3;
  any_loss = demand3_any_loss;
  in_order = in_order;
  whole_is_intact = whole_is_intact;
  flows_apart = flows_apart;
  same_answers = same_packets_same_answers;
  ours = ours_meets;
  our_writer = our_writer_meets;
  impostors = impostors_break;
  joint = joint_exactly;
  joint_only = joint_only;
  joint-length = joint-length;
  joint_unsent = joint_unsent;
  joint_untold = joint_untold;
  other_width = other_width_refused;
  other_segment = segment_of_other_width_refused;
  same-segments = segments_same_but_for_ids;
  same-packets = same_but_for_ids;
  delivered_flow = delivered_flow;
  priority_apart = priority_apart;
  complete_by_count = complete_by_count;
  marks_within = marks_within;
  examples = examples_hold;
  examples_of_02 = examples_of_02;
  witnesses = premises_can_be_met;
}
