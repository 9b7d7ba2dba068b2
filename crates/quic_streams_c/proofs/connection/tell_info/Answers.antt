use Rattle.std.proofs.Common.{refl, ap, ◌∙◌, ℕ, List}
use Rattle.quic_streams_c.specs.Words.{words_filled}
use Rattle.quic_streams_c.proofs.connection.tell_info.Goals as goal

pub returns : goal.returns
returns c = (
  refl,
  (c.info_of-info.result, c.info_of-info.ensures, c.fill_words.ensures ∙ ap (λ (known : List ℕ). words_filled known c.args.words.now) c.info_words.ensures),
)
