-- Stream ids (RFC 9000 section 2.1): bit 0 is the initiator, bit 1 the direction, the rest the index.
use Rattle.std.specs.Prelude.{ℕ, Bool, true, false, ◌+◌, ◌*◌, ◌/◌, ◌%◌, ◌==◌, if◌then◌else◌, List, ◌++◌, codes}
use Rattle.std.specs.Fmt.{decimal}
use Rattle.quic_values.specs.declared.ids.Side.{Side}
use Rattle.quic_values.specs.declared.ids.Side.TheVariants.{Client, Server}
use Rattle.quic_values.specs.declared.ids.Dir.{Dir}
use Rattle.quic_values.specs.declared.ids.Dir.TheVariants.{Bi, Uni}

abbrev pub other_side : Side → Side
other_side Client = Server
other_side Server = Client

abbrev pub is_client_side : Side → Bool
is_client_side Client = true
is_client_side Server = false

abbrev pub side_bit : Side → ℕ
side_bit Client = 0
side_bit Server = 1

abbrev pub dir_bit : Dir → ℕ
dir_bit Bi = 0
dir_bit Uni = 1

abbrev pub stream_id : Side → Dir → ℕ → ℕ
stream_id initiator dir index = 4 * index + 2 * dir_bit dir + side_bit initiator

abbrev pub initiator_of : ℕ → Side
initiator_of id = if id % 2 == 0 then Client else Server

abbrev pub dir_of : ℕ → Dir
dir_of id = if id / 2 % 2 == 0 then Bi else Uni

abbrev pub index_of : ℕ → ℕ
index_of id = id / 4

-- what is printed of a side, a direction and an id
abbrev pub side_text : Side → List ℕ
side_text Client = codes "client"
side_text Server = codes "server"

abbrev pub dir_text : Dir → List ℕ
dir_text Bi = codes "bidirectional"
dir_text Uni = codes "unidirectional"

abbrev pub id_text : ℕ → List ℕ
id_text id = side_text (initiator_of id) ++ codes " " ++ dir_text (dir_of id) ++ codes " stream " ++ decimal (index_of id)
