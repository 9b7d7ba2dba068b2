use Rattle.std.proofs.Common.{Bool, ◌∙◌, ap, refl, subst, inl, inr}
use Rattle.quic_streams_c.specs.declared.connection.RawConfig.{RawConfig}
use Rattle.quic_streams_c.specs.Settings.{IsConfig, IsNewOf, is_tracked}
use Rattle.quic_streams_c.proofs.Calls.{opens, stays}
use Rattle.quic_streams_c.proofs.Known.{known-taken, unknown-refused}
use Rattle.quic_streams_c.proofs.connection.qs_conn_open_words.Goals as goal

pub returns-then-not-are_zero_from : goal.returns-then-not-are_zero_from
returns-then-not-are_zero_from c =
    stays c.args.words.now c.args.handle.now.slot.value _ (λ live. c.if-handle-eq1.false (c.args.handle.now.tied.1 live))
    (λ new is. unknown-refused 9 c.args.words.now _ _ _ c.are_zero_from.ensures c.if-not-are_zero_from.true (refl, is))

pub returns-in_default : goal.returns-in_default
returns-in_default c =
    let bad : IsConfig c.config_at-raw.result → ⊥ = c.in_default.ensures in
    stays c.args.words.now c.args.handle.now.slot.value _ (λ live. c.if-handle-eq1.false (c.args.handle.now.tied.1 live))
    (λ new is. known-taken 9 c.args.words.now _ _ _ c.are_zero_from.ensures c.if-not-are_zero_from.false (inl (refl, is, rw c.config_at-raw.ensures at bad)))

pub returns-in-Ok : goal.returns-in-Ok
returns-in-Ok c =
    let P : Bool → Type 0 = λ tracks. IsNewOf c.in-Some.config tracks c.in-Ok.session.value in
    let new = subst P (c.is_tracked.ensures ∙ ap (λ (r : RawConfig). is_tracked r) c.config_at-raw.ensures) c.in-Ok.ensures in
    rw c.holding.ensures (opens c.args.words.now c.args.handle.now.slot.value _ _ (λ live. c.if-handle-eq1.false (c.args.handle.now.tied.1 live))
    (known-taken 9 c.args.words.now _ _ _ c.are_zero_from.ensures c.if-not-are_zero_from.false (inr (record {
      good = rw c.config_at-raw.ensures at c.in-Some.ensures.0;
      config = c.in-Some.config;
      is = rw c.config_at-raw.ensures at c.in-Some.ensures.1;
      made = inr (refl, (c.in-Ok.session.value, refl, new));
    }))))

pub returns-in-Err : goal.returns-in-Err
returns-in-Err c =
    stays c.args.words.now c.args.handle.now.slot.value _ (λ live. c.if-handle-eq1.false (c.args.handle.now.tied.1 live))
    (λ new is. known-taken 9 c.args.words.now _ _ _ c.are_zero_from.ensures c.if-not-are_zero_from.false (inr (record {
      good = rw c.config_at-raw.ensures at c.in-Some.ensures.0;
      config = c.in-Some.config;
      is = rw c.config_at-raw.ensures at c.in-Some.ensures.1;
      made = inl (refl, is);
    })))
