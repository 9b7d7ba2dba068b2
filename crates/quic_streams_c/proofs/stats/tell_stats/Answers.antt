use Rattle.std.proofs.Common.{refl, ap, ◌∙◌, ℕ, List}
use Rattle.quic_session.specs.declared.counts.Counts.{Counts}
use Rattle.quic_streams_c.specs.declared.stats.RawStats.{RawStats}
use Rattle.quic_streams_c.specs.Stats.{raw_stats, stats_words}
use Rattle.quic_streams_c.specs.Words.{words_filled}
use Rattle.quic_streams_c.proofs.stats.tell_stats.Goals as goal

pub returns : goal.returns
returns c = (
  refl,
  c.fill_words.ensures
      ∙ ap (λ (known : List ℕ). words_filled known c.args.words.now)
      (c.stats_words.ensures ∙ ap (λ (s : RawStats). stats_words s) c.raw_stats-stats.ensures ∙ ap (λ (x : Counts). stats_words (raw_stats x)) c.counts.ensures),
)
