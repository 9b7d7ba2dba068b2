-- What the server does to what a client sent early, within an era.
use Rattle.std.proofs.Common.{◌≡◌, None, Ok, refl, sym, ap, ◌∙◌, subst, arith}
use Rattle.std.proofs.lemmas.Option.{none-some}
use Rattle.quic_values.specs.declared.ids.Side.TheVariants.{Client}
use Rattle.quic_history.specs.World.{Made}
use Rattle.quic_history.specs.Sends.{with_params_given}
use Rattle.quic_link.specs.Endpoints.{LimitsWithin, limits_of}
use Rattle.quic_endpoint.specs.Ends.{with_world}
use Rattle.quic_steps.specs.declared.steps.End.{End}
use Rattle.quic_steps.specs.declared.steps.End.TheVariants.{A, B}
use Rattle.quic_steps.specs.declared.steps.Step.{Step}
use Rattle.quic_steps.specs.declared.steps.Reply.TheVariants.{Done}
use Rattle.quic_exchange.specs.State.{PairState, the_end}
use Rattle.quic_exchange.specs.Gone.{with_all_noted}
use Rattle.quic_exchange.specs.History.{Past, after}
use Rattle.quic_exchange.specs.Tale.{told_of, with_limits_given, with_unsent_told}
use Rattle.quic_exchange.proofs.Origins.{Origin, made_in}
use Rattle.quic_exchange.proofs.Eras.{Changes, accepts, retries, tales_changed}
use Rattle.quic_exchange.proofs.Joined.{Joined}
use Rattle.quic_exchange.proofs.Counted.{Counted}
use Rattle.quic_exchange.proofs.Recounted.{Recounted, made_at}
use Rattle.quic_exchange.proofs.OwnDoings.{own-unacked}
use Rattle.quic_exchange.proofs.EarlyCalls.{seen-given, seen-again, counted-limits, counted-again}

pub joined-changed : (a b : Origin) (p : Past) (old new : PairState) → Joined a b p old → (step : Step) → Changes b p old new step → Joined a b (after p step (Ok Done)) new
joined-changed a b p old new j step (accepts k within few) =
    let P : Made → Type 0 = λ m. LimitsWithin k.limits.others (limits_of m) in
    let s = seen-given p old new j.first j.second k.limits.others j.seen (subst P (sym j.made_second) within) (ap (λ (v : PairState). v.a) k.is) (ap (λ (v : PairState). v.b) k.is) (ap (λ (v : PairState). v.sent) k.is) in
    record { first = s.end; second = j.second; made_first = s.made ∙ j.made_first; made_second = j.made_second; seen = s.seen }
joined-changed a b p old new j step (retries k m did mine accepted kept) =
    let s = seen-again p old new j.first j.second k.streams k.sent j.seen (own-unacked m old.a.streams did) (k.again (own-unacked m old.a.streams did)) mine k.left (ap (λ (v : PairState). v.a) k.is) (ap (λ (v : PairState). v.b) k.is) (ap (λ (v : PairState). v.sent) k.is) accepted kept in
    record { first = s.end; second = j.second; made_first = s.made ∙ j.made_first; made_second = j.made_second; seen = s.seen }

pub recounted-changed : (a b : Origin) (p : Past) (old new : PairState) (r : Recounted a b old) (step : Step) (c : Changes b p old new step) → (s : Recounted a b new) × (s.tales ≡ tales_changed c r.tales)
recounted-changed a b p old new r step (accepts k within few) =
    let t = told_of A (with_limits_given Client k.limits.others) r.tales in
    let P : PairState → Type 0 = λ v. (s : Recounted a b v) × (s.tales ≡ t) in
    subst P (sym k.is) (record { tales = t; counted = both; count = r.count; left = r.left; fresh = r.fresh }, refl)
  where
    both : (who : End) → Counted (made_at a b who) (the_end (record old { a = with_world old.a (with_params_given old.a.streams k.limits.others); waits = None }) who).streams ((told_of A (with_limits_given Client k.limits.others) r.tales).of who)
    both A = counted-limits (made_in Client a) old.a.streams (with_params_given old.a.streams k.limits.others) (r.tales.of A) k.limits.others (few.few_bi, few.few_uni) (r.counted A) refl
    both B = r.counted B
recounted-changed a b p old new r step (retries k m did mine accepted kept) =
    let t = told_of A (with_unsent_told Client) r.tales in
    let P : PairState → Type 0 = λ v. (s : Recounted a b v) × (s.tales ≡ t) in
    let size = k.left.size in
    subst P (sym k.is) (
      record {
        tales = t;
        counted = both;
        count = r.count ∙ sym size;
        left = λ number s rest all got rest_is spelled. absurd (none-some rest (sym (k.left.each number s got).rest ∙ rest_is));
        fresh = λ number h. r.fresh number (omega (arith, size, h));
      },
      refl,
    )
  where
    both : (who : End) → Counted (made_at a b who) (the_end (record old { a = record { streams = k.streams; pending = with_all_noted old.a.pending old.sent }; sent = k.sent }) who).streams ((told_of A (with_unsent_told Client) r.tales).of who)
    both A = counted-again (made_in Client a) old.a.streams k.streams (r.tales.of A) (own-unacked m old.a.streams did) (r.counted A) (k.again (own-unacked m old.a.streams did))
    both B = r.counted B
