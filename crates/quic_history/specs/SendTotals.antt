-- What an end keeps account of, of what it sends and opens.
use Rattle.std.specs.Prelude.{ℕ}
use Rattle.quic_values.specs.declared.ids.Dir.{Dir}
use Rattle.quic_values.specs.declared.ids.Dir.TheVariants.{Bi, Uni}
use Rattle.quic_limits.specs.Own.{Own}
use Rattle.quic_outgoing.specs.Outgoing.{Outgoing}

-- data_sent: how many bytes were written
-- max_data: how many may be
-- own_bi, own_uni: how many streams were opened, and how many may be
pub record SendTotals : Type 0 where
  pub data_sent : ℕ
  pub max_data : ℕ
  pub own_bi : Own
  pub own_uni : Own

abbrev pub send_totals : Outgoing → SendTotals
send_totals o = record { data_sent = o.budget.data_sent; max_data = o.budget.max_data; own_bi = o.own_bi; own_uni = o.own_uni }

-- that of the streams of a direction
abbrev pub own_total : SendTotals → Dir → Own
own_total a Bi = a.own_bi
own_total a Uni = a.own_uni
