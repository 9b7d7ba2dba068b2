use Rattle.std.proofs.Common.{refl, inl, inr}
use Rattle.quic_values.specs.declared.ids.Dir.TheVariants.{Bi, Uni}
use Rattle.quic_history.specs.declared.control.ControlKind.TheVariants as kinds
use Rattle.quic_streams.proofs.HeldMaps.{on_err}
use Rattle.quic_streams.proofs.state.StreamsState.write_kinds.Goals as goal

pub returns-in_err-write_kind-4-clause-writes : goal.returns-in_err-write_kind-4-clause-writes
returns-in_err-write_kind-4-clause-writes c = inl (_, record { turns = c.in_ok-write_kind.ensures.turns; done = c.in_ok-write_kind.ensures.done }, inl (_, record { turns = c.in_ok-write_kind-2.ensures.turns; done = c.in_ok-write_kind-2.ensures.done }, inl (_, record { turns = c.in_ok-write_kind-3.ensures.turns; done = c.in_ok-write_kind-3.ensures.done }, inr (c.from_residual-in_err-write_kind-4.ensures.0, c.in_err-write_kind-4.ensures.turns))))

pub returns-in_err-write_kind-5-clause-writes : goal.returns-in_err-write_kind-5-clause-writes
returns-in_err-write_kind-5-clause-writes c = inl (_, record { turns = c.in_ok-write_kind.ensures.turns; done = c.in_ok-write_kind.ensures.done }, inl (_, record { turns = c.in_ok-write_kind-2.ensures.turns; done = c.in_ok-write_kind-2.ensures.done }, inl (_, record { turns = c.in_ok-write_kind-3.ensures.turns; done = c.in_ok-write_kind-3.ensures.done }, inl (_, record { turns = c.in_ok-write_kind-4.ensures.turns; done = c.in_ok-write_kind-4.ensures.done }, inr (c.from_residual-in_err-write_kind-5.ensures.0, c.in_err-write_kind-5.ensures.turns)))))

pub returns-in_err-write_kind-6-clause-writes : goal.returns-in_err-write_kind-6-clause-writes
returns-in_err-write_kind-6-clause-writes c = inl (_, record { turns = c.in_ok-write_kind.ensures.turns; done = c.in_ok-write_kind.ensures.done }, inl (_, record { turns = c.in_ok-write_kind-2.ensures.turns; done = c.in_ok-write_kind-2.ensures.done }, inl (_, record { turns = c.in_ok-write_kind-3.ensures.turns; done = c.in_ok-write_kind-3.ensures.done }, inl (_, record { turns = c.in_ok-write_kind-4.ensures.turns; done = c.in_ok-write_kind-4.ensures.done }, inl (_, record { turns = c.in_ok-write_kind-5.ensures.turns; done = c.in_ok-write_kind-5.ensures.done }, inr (c.from_residual-in_err-write_kind-6.ensures.0, c.in_err-write_kind-6.ensures.turns))))))

pub returns-in_err-write_kind-7-clause-writes : goal.returns-in_err-write_kind-7-clause-writes
returns-in_err-write_kind-7-clause-writes c = inl (_, record { turns = c.in_ok-write_kind.ensures.turns; done = c.in_ok-write_kind.ensures.done }, inl (_, record { turns = c.in_ok-write_kind-2.ensures.turns; done = c.in_ok-write_kind-2.ensures.done }, inl (_, record { turns = c.in_ok-write_kind-3.ensures.turns; done = c.in_ok-write_kind-3.ensures.done }, inl (_, record { turns = c.in_ok-write_kind-4.ensures.turns; done = c.in_ok-write_kind-4.ensures.done }, inl (_, record { turns = c.in_ok-write_kind-5.ensures.turns; done = c.in_ok-write_kind-5.ensures.done }, inl (_, record { turns = c.in_ok-write_kind-6.ensures.turns; done = c.in_ok-write_kind-6.ensures.done }, inr (c.from_residual-in_err-write_kind-7.ensures.0, c.in_err-write_kind-7.ensures.turns)))))))

pub returns-in_err-write_kind-8-clause-writes : goal.returns-in_err-write_kind-8-clause-writes
returns-in_err-write_kind-8-clause-writes c = inl (_, record { turns = c.in_ok-write_kind.ensures.turns; done = c.in_ok-write_kind.ensures.done }, inl (_, record { turns = c.in_ok-write_kind-2.ensures.turns; done = c.in_ok-write_kind-2.ensures.done }, inl (_, record { turns = c.in_ok-write_kind-3.ensures.turns; done = c.in_ok-write_kind-3.ensures.done }, inl (_, record { turns = c.in_ok-write_kind-4.ensures.turns; done = c.in_ok-write_kind-4.ensures.done }, inl (_, record { turns = c.in_ok-write_kind-5.ensures.turns; done = c.in_ok-write_kind-5.ensures.done }, inl (_, record { turns = c.in_ok-write_kind-6.ensures.turns; done = c.in_ok-write_kind-6.ensures.done }, inl (_, record { turns = c.in_ok-write_kind-7.ensures.turns; done = c.in_ok-write_kind-7.ensures.done }, inr (c.from_residual-in_err-write_kind-8.ensures.0, c.in_err-write_kind-8.ensures.turns))))))))

pub returns-clause-writes : goal.returns-clause-writes
returns-clause-writes c = inl (_, record { turns = c.in_ok-write_kind.ensures.turns; done = c.in_ok-write_kind.ensures.done }, inl (_, record { turns = c.in_ok-write_kind-2.ensures.turns; done = c.in_ok-write_kind-2.ensures.done }, inl (_, record { turns = c.in_ok-write_kind-3.ensures.turns; done = c.in_ok-write_kind-3.ensures.done }, inl (_, record { turns = c.in_ok-write_kind-4.ensures.turns; done = c.in_ok-write_kind-4.ensures.done }, inl (_, record { turns = c.in_ok-write_kind-5.ensures.turns; done = c.in_ok-write_kind-5.ensures.done }, inl (_, record { turns = c.in_ok-write_kind-6.ensures.turns; done = c.in_ok-write_kind-6.ensures.done }, inl (_, record { turns = c.in_ok-write_kind-7.ensures.turns; done = c.in_ok-write_kind-7.ensures.done }, inl (_, record { turns = c.in_ok-write_kind-8.ensures.turns; done = c.in_ok-write_kind-8.ensures.done }, refl))))))))

pub returns-in_err-write_kind-clause-refused : goal.returns-in_err-write_kind-clause-refused
returns-in_err-write_kind-clause-refused c = on_err c.from_residual.result (record { kind = kinds.ResetStream; left = c.in_err-write_kind.ensures.refused })

pub returns-in_err-write_kind-2-clause-refused : goal.returns-in_err-write_kind-2-clause-refused
returns-in_err-write_kind-2-clause-refused c = on_err c.from_residual-in_err-write_kind-2.result (record { kind = kinds.StopSending; left = c.in_err-write_kind-2.ensures.refused })

pub returns-in_err-write_kind-3-clause-refused : goal.returns-in_err-write_kind-3-clause-refused
returns-in_err-write_kind-3-clause-refused c = on_err c.from_residual-in_err-write_kind-3.result (record { kind = kinds.MaxData; left = c.in_err-write_kind-3.ensures.refused })

pub returns-in_err-write_kind-4-clause-refused : goal.returns-in_err-write_kind-4-clause-refused
returns-in_err-write_kind-4-clause-refused c = on_err c.from_residual-in_err-write_kind-4.result (record { kind = kinds.MaxStreamData; left = c.in_err-write_kind-4.ensures.refused })

pub returns-in_err-write_kind-5-clause-refused : goal.returns-in_err-write_kind-5-clause-refused
returns-in_err-write_kind-5-clause-refused c = on_err c.from_residual-in_err-write_kind-5.result (record { kind = kinds.MaxStreams Bi; left = c.in_err-write_kind-5.ensures.refused })

pub returns-in_err-write_kind-6-clause-refused : goal.returns-in_err-write_kind-6-clause-refused
returns-in_err-write_kind-6-clause-refused c = on_err c.from_residual-in_err-write_kind-6.result (record { kind = kinds.MaxStreams Uni; left = c.in_err-write_kind-6.ensures.refused })

pub returns-in_err-write_kind-7-clause-refused : goal.returns-in_err-write_kind-7-clause-refused
returns-in_err-write_kind-7-clause-refused c = on_err c.from_residual-in_err-write_kind-7.result (record { kind = kinds.DataBlocked; left = c.in_err-write_kind-7.ensures.refused })

pub returns-in_err-write_kind-8-clause-refused : goal.returns-in_err-write_kind-8-clause-refused
returns-in_err-write_kind-8-clause-refused c = on_err c.from_residual-in_err-write_kind-8.result (record { kind = kinds.StreamDataBlocked; left = c.in_err-write_kind-8.ensures.refused })
