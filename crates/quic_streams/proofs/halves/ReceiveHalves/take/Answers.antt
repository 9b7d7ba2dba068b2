use Rattle.std.proofs.Common.{rules, sym, ap, ◌∙◌, Some}
use Rattle.quic_streams.specs.Held.{halves_view, half_in}
use Rattle.quic_history.specs.Halves.{with_half}
use Rattle.quic_streams.proofs.HeldMaps.{held-put, entry_half, on_err}
use Rattle.quic_history.proofs.HalfMaps.{taken-some, with_half-back}
use Rattle.quic_streams.proofs.halves.ReceiveHalves.take.Goals as goal

pub returns-in_err-half-in-None-used-clause-err : goal.returns-in_err-half-in-None-used-clause-err
unfolding halves_view
returns-in_err-half-in-None-used-clause-err c =
    let w = c.args.self.now.window in
    let moved = held-put w _ _ c.args.id _ ((c.get_mut.follows.holds c.take-used.new.self).3 (search rules)).0 in
    let none = sym c.take-used.ensures.value ∙ c.in-None-used.is in
    on_err _ (moved ∙ ap (λ o. with_half (halves_view c.args.self.now) c.args.id (entry_half w (Some o))) c.take-used.ensures.after
    ∙ with_half-back (halves_view c.args.self.now) c.args.id _ (ap (entry_half w) (sym c.in-Some.ensures.value) ∙ ap (λ o. Some (half_in w o)) none))

pub returns-in-Some-used-clause-held : goal.returns-in-Some-used-clause-held
unfolding halves_view
returns-in-Some-used-clause-held c =
    let w = c.args.self.now.window in
    let moved = held-put w _ _ c.args.id _ ((c.get_mut.follows.holds c.take-used.new.self).3 (search rules)).0 in
    moved ∙ ap (λ o. with_half (halves_view c.args.self.now) c.args.id (entry_half w (Some o))) c.take-used.ensures.after
    ∙ sym (taken-some (halves_view c.args.self.now) c.args.id w _ (ap (entry_half w) (sym c.in-Some.ensures.value)))

pub returns-in_ok-half-in-None-used-clause-held : goal.returns-in_ok-half-in-None-used-clause-held
unfolding halves_view
returns-in_ok-half-in-None-used-clause-held c =
    let w = c.args.self.now.window in
    let moved = held-put w _ _ c.args.id _ ((c.get_mut.follows.holds c.take-used.new.self).3 (search rules)).0 in
    moved ∙ ap (λ o. with_half (halves_view c.args.self.now) c.args.id (entry_half w (Some o))) c.take-used.ensures.after
    ∙ sym (taken-some (halves_view c.args.self.now) c.args.id w _ (ap (entry_half w) (sym c.in-Some.ensures.value)))
