use Rattle.quic_streams.specs.Payload.{control_order}
use Rattle.quic_streams.proofs.ControlRuns.{done-on-ok, all-within, all-entries}
use Rattle.quic_streams.proofs.state.StreamsState.write_control_frames.Goals as goal

pub returns-clause-full : goal.returns-clause-full
returns-clause-full c = done-on-ok _ _ c.write_control.result _ c.write_control.ensures.writes

pub returns-clause-within : goal.returns-clause-within
returns-clause-within c = λ l. all-within _ control_order _ c.write_control.result _ c.write_control.ensures.writes l

pub returns-clause-from : goal.returns-clause-from
returns-clause-from c = all-entries _ control_order _ c.write_control.result _ c.write_control.ensures.writes
