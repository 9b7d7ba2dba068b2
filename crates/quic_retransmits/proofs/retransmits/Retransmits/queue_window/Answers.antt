use Rattle.quic_retransmits.specs.Ids.{is_in_ids, id_rooms}
use Rattle.quic_retransmits.proofs.Sets.{placed}
use Rattle.quic_retransmits.proofs.retransmits.Retransmits.queue_window.Goals as goal

pub returns-then-due-clause-room : goal.returns-then-due-clause-room
returns-then-due-clause-room c = λ _. placed (is_in_ids c.insert_reserved.new.self) (is_in_ids c.args.self.now.max_stream_data) c.args.id (id_rooms c.insert_reserved.new.self) c.insert_reserved.ensures.set
