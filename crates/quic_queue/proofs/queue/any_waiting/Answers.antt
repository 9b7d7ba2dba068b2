use Rattle.std.proofs.Common.{◌∷◌, refl, sym, ◌∙◌}
use Rattle.quic_queue.proofs.Lines.{any_here, any_later}
use Rattle.quic_queue.proofs.queue.any_waiting.Goals as goal

pub returns-then-any_in : goal.returns-then-any_in
returns-then-any_in g c = λ p tells.
    let top = c.args.top.now in
    let es = c.args.lower.now.entries in
    let passes = sym (c.any_in.ensures p tells) ∙ c.if-any_in.true in
    sym (any_here p (record { 0 = top.priority }, top.ids) ((record { 0 = top.priority }, top.ids) ∷ es) es refl passes)

pub returns : goal.returns
returns g c = λ p tells.
    let top = c.args.top.now in
    let es = c.args.lower.now.entries in
    let fails = sym (c.any_in.ensures p tells) ∙ c.if-any_in.false in
    c.any_at.ensures p tells ∙ sym (any_later p (record { 0 = top.priority }, top.ids) ((record { 0 = top.priority }, top.ids) ∷ es) es refl fails)
