use Rattle.std.proofs.Common.{sym, subst, ◌∙◌, ◌≡◌, ℕ, Some, None}
use Rattle.quic_ordered.specs.Entries.{piece_at}
use Rattle.quic_ordered.proofs.Joining.{takes, stays_apart, join_stems, join_has, join_keeps}
use Rattle.quic_ordered.proofs.gaps.join.Goals as goal

pub unreachable-requires : goal.unreachable-requires
unreachable-requires c =
    let j = c.absorb.ensures.joins _ c.requires.apart c.requires.spans c.in_ok-base.ensures.joins in
    j.slot (subst (λ (k : ℕ). piece_at c.absorb.new.pieces k ≡ None) j.offset c.in-Err.ensures.absent)

pub returns-clause-takes : goal.returns-clause-takes
returns-clause-takes c =
    let j = c.absorb.ensures.joins _ c.requires.apart c.requires.spans c.in_ok-base.ensures.joins in
    takes c.args.pieces.now c.absorb.new.pieces c.insert.new.self c.args.new.now c.absorb.new.base c.args.start c.args.end (record {
      apart = c.requires.apart;
      some = c.requires.some;
      spans = c.requires.spans;
      joins = j;
      none = c.absorb.ensures.none;
      mine = subst (λ (k : ℕ). piece_at c.insert.new.self k ≡ Some c.absorb.new.base) j.offset c.in-Ok.ensures.here;
      others = λ x ne. c.in-Ok.ensures.others x (λ same. ne (same ∙ j.offset));
    })

pub returns-clause-apart : goal.returns-clause-apart
returns-clause-apart c =
    let j = c.absorb.ensures.joins _ c.requires.apart c.requires.spans c.in_ok-base.ensures.joins in
    stays_apart c.args.pieces.now c.absorb.new.pieces c.insert.new.self c.args.new.now c.absorb.new.base c.args.start c.args.end (record {
      apart = c.requires.apart;
      some = c.requires.some;
      spans = c.requires.spans;
      joins = j;
      none = c.absorb.ensures.none;
      mine = subst (λ (k : ℕ). piece_at c.insert.new.self k ≡ Some c.absorb.new.base) j.offset c.in-Ok.ensures.here;
      others = λ x ne. c.in-Ok.ensures.others x (λ same. ne (same ∙ j.offset));
    })

pub returns-clause-stems : goal.returns-clause-stems
returns-clause-stems c =
    let j = c.absorb.ensures.joins _ c.requires.apart c.requires.spans c.in_ok-base.ensures.joins in
    join_stems c.args.pieces.now c.absorb.new.pieces c.insert.new.self c.args.new.now c.absorb.new.base c.args.start c.args.end (record {
      apart = c.requires.apart;
      some = c.requires.some;
      spans = c.requires.spans;
      joins = j;
      none = c.absorb.ensures.none;
      mine = subst (λ (k : ℕ). piece_at c.insert.new.self k ≡ Some c.absorb.new.base) j.offset c.in-Ok.ensures.here;
      others = λ x ne. c.in-Ok.ensures.others x (λ same. ne (same ∙ j.offset));
    }) (c.absorb.ensures.memory ∙ c.in_ok-base.ensures.memory ∙ sym c.absorb.ensures.len)

pub returns-clause-joined : goal.returns-clause-joined
returns-clause-joined c =
    let j = c.absorb.ensures.joins _ c.requires.apart c.requires.spans c.in_ok-base.ensures.joins in
    join_has c.args.pieces.now c.absorb.new.pieces c.insert.new.self c.args.new.now c.absorb.new.base c.args.start c.args.end (record {
      apart = c.requires.apart;
      some = c.requires.some;
      spans = c.requires.spans;
      joins = j;
      none = c.absorb.ensures.none;
      mine = subst (λ (k : ℕ). piece_at c.insert.new.self k ≡ Some c.absorb.new.base) j.offset c.in-Ok.ensures.here;
      others = λ x ne. c.in-Ok.ensures.others x (λ same. ne (same ∙ j.offset));
    }) (c.absorb.ensures.memory ∙ c.in_ok-base.ensures.memory ∙ sym c.absorb.ensures.len)

pub returns-clause-stays : goal.returns-clause-stays
returns-clause-stays c =
    let j = c.absorb.ensures.joins _ c.requires.apart c.requires.spans c.in_ok-base.ensures.joins in
    join_keeps c.args.pieces.now c.absorb.new.pieces c.insert.new.self c.args.new.now c.absorb.new.base c.args.start c.args.end (record {
      apart = c.requires.apart;
      some = c.requires.some;
      spans = c.requires.spans;
      joins = j;
      none = c.absorb.ensures.none;
      mine = subst (λ (k : ℕ). piece_at c.insert.new.self k ≡ Some c.absorb.new.base) j.offset c.in-Ok.ensures.here;
      others = λ x ne. c.in-Ok.ensures.others x (λ same. ne (same ∙ j.offset));
    })
