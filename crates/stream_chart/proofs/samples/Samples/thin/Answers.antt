use Rattle.std.proofs.Common.{◌≡◌, ap, rules}
use Rattle.std.specs.Prelude.{filter}
use Rattle.std.proofs.lemmas.Fn.{filter_same}
use Rattle.stream_chart.specs.Sampled.{is_sampled, doubled}
use Rattle.stream_chart.proofs.samples.Samples.thin.Goals as goal

pub returns-then-len-ge47 : goal.returns-then-len-ge47
returns-then-len-ge47 c =
    let kept : c.retain.new.self.items ≡ filter (is_sampled c.saturating_mul-distance.result) c.self.inside.rows.items =
    filter_same _ (is_sampled c.saturating_mul-distance.result) _ (λ d b f' k. search rules) _ _ c.retain.ensures.filtered in
    let far : c.saturating_mul-distance.result ≡ doubled c.self.inside.distance = search rules in
    rw kept (rw far (search rules))
