use Rattle.std.proofs.Common.{◌≡◌, ◌∙◌, length, sym}
use Rattle.quic_link.proofs.Basics.{same_id}
use Rattle.quic_exchange.proofs.Texts.{empty-list, empty-accepted}
use Rattle.quic_exchange.proofs.sent.SentText.is_all_accepted.Goals as goal

pub returns-then-is_empty-clause-yes : goal.returns-then-is_empty-clause-yes
returns-then-is_empty-clause-yes c e =
    let none : length c.self.inside.bytes.items ≡ 0 = sym c.self.inside.bytes.ok.0 ∙ same_id _ 0 (sym c.is_empty.ensures ∙ c.if-is_empty.true) in
    rw (← c.self.view_is) (empty-accepted (record { bytes = c.self.inside.bytes.items; accepted = c.self.inside.accepted.items }) (empty-list c.self.inside.bytes.items none))
