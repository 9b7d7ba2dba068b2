-- What is told of an end that was just made, and was given limits.
use Rattle.std.proofs.Common.{◌≡◌, ℕ, [], ◌∷◌, Ok, refl, sym, ap, arith, ◌≤◌}
use Rattle.std.specs.Prelude.{max, min, ◌^◌}
use Rattle.quic_values.specs.declared.ids.Dir.{Dir}
use Rattle.quic_values.specs.declared.ids.Dir.TheVariants.{Bi, Uni}
use Rattle.quic_flows.specs.Flow.{new_flow, with_least_limit}
use Rattle.quic_outgoing.specs.declared.limits.PeerLimits.{PeerLimits}
use Rattle.quic_outgoing.specs.History.{count_in}
use Rattle.quic_outgoing.specs.Outgoing.{first_of, with_params}
use Rattle.quic_outgoing.specs.Senders.{first_limit}
use Rattle.quic_history.specs.World.{Made, start}
use Rattle.quic_history.specs.Sends.{with_out}
use Rattle.quic_history.specs.SendEvents.{GaveLimits}
use Rattle.quic_history.specs.History.{Sending, IsStart}
use Rattle.quic_history.proofs.Beginnings.{begins}
use Rattle.quic_history.proofs.Histories.{next as next-call}
use Rattle.quic_history.proofs.Unopened.{given-unopened}
use Rattle.quic_exchange.specs.Tale.{tale_begun, first_count}
use Rattle.quic_exchange.proofs.Counted.{Counted}

-- counts of streams that limits give are no more than there may be
abbrev pub AreFew : PeerLimits → Type 0
AreFew limits = (limits.initial_max_streams_bidi ≤ 2 ^ 60) × (limits.initial_max_streams_uni ≤ 2 ^ 60)

flow_given : (limit : ℕ) → with_least_limit limit (new_flow 0) ≡ new_flow limit
flow_given limit = let l : max 0 limit ≡ limit = omega arith in ap (λ n. record (new_flow 0) { limit = n }) l

most_of : (n : ℕ) → max 0 n ≡ n
most_of n = omega arith

count_given : (n : ℕ) → n ≤ 2 ^ 60 → max 0 (min n (2 ^ 60)) ≡ n
count_given n few = omega arith

counts_given : (limits : PeerLimits) → AreFew limits → (d : Dir) → max 0 (min (count_in limits d) (2 ^ 60)) ≡ first_count limits d
counts_given limits few Bi = count_given limits.initial_max_streams_bidi few.0
counts_given limits few Uni = count_given limits.initial_max_streams_uni few.1

pub counted-given : (m : Made) (limits : PeerLimits) → IsStart m (start m) → AreFew limits → Counted m (with_out (start m) (with_params (start m).out limits)) (tale_begun m.side m.send_window limits)
counted-given m limits s few =
    let e = Sending (GaveLimits limits (Ok tt)) in
    let w = with_out (start m) (with_params (start m).out limits) in
    record {
      calls = e ∷ [];
      from = next-call m [] (start m) e w tt (begins m (start m) s) (sym (given-unopened (start m) limits refl refl));
      plain = (refl, tt);
      tells = record {
        flow_is = λ q. flow_given (first_limit m.side (first_of limits) q);
        streams_are = refl;
        written_is = omega arith;
        limit_is = most_of limits.initial_max_data;
        window_is = refl;
        opened_are = λ d. omega arith;
        counts_are = counts_given limits few;
      };
    }
