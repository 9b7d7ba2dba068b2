use Rattle.std.proofs.Common.{rules, ◌≡◌, ◌<◌, ◌∷◌, [], ℕ, true, List, take, length, is_some, sym, ap, ◌∙◌, subst}
use Rattle.std.specs.Prelude.{All}
use Rattle.std.proofs.lemmas.List.{take_more, take_all}
use Rattle.std.proofs.lemmas.List.Elements.{All-append, All-cons}
use Rattle.quic_outgoing.specs.Seen.{senders, is_made}
use Rattle.quic_outgoing.proofs.Marks.{all-none}
use Rattle.quic_outgoing.proofs.entries.SendEntries.make_all.Goals as goal

pub loop-index-preserved : goal.loop-index-preserved
loop-index-preserved c =
    let i = c.loop-index.invariant in
    let e = c.make.ensures in
    let ids = c.args.ids.now in
    let n = c.loop-index.index in
    let x = c.index-ids-index.result in
    let P : ℕ → Type 0 = λ q. is_made c.make.new.self q ≡ true in
    let within : n < length ids = search rules in
    let held : is_some (senders c.args.self.now x) ≡ true = ap (λ q. is_some (senders c.args.self.now q)) c.index-ids-index.is ∙ c.requires n x within in
    let now : P x = c.in_ok-make.ensures.made (ap (λ f. is_some (f x)) i.halves ∙ held) in
    let all = All-append P (take n ids) (x ∷ []) (λ k d h. e.kept _ (i.made k d h)) (All-cons P x [] now (all-none P)) in
    record {
      made = rw (take_more ids n x within, sym c.index-ids-index.is) all;
      halves = e.halves ∙ i.halves;
      side = e.side ∙ i.side;
      first = e.first ∙ i.first;
      room = e.room ∙ i.room;
    }

pub returns-clause-made : goal.returns-clause-made
returns-clause-made c =
    let ids = c.args.ids.now in
    let n = c.loop-index.index in
    let all : take n ids ≡ ids = take_all n ids (search rules) in
    let P : List ℕ → Type 0 = λ l. All (λ q. is_made c.loop-index.self q ≡ true) l in
    subst P all c.loop-index.invariant.made
