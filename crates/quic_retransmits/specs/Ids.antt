-- Sets of stream ids, and the room in them.
use Rattle.std.specs.Prelude.{ℕ, ◌+◌, Bool, false, ◌==◌, ◌||◌, if◌then◌else◌, Option, Some, None, unwrap_or}
use Rattle.std.specs.Option.{option_map}
use Rattle.std.specs.HashSet.{contains, hash_set_len, spare}
use Rattle.quic_retransmits.specs.declared.id_table.IdTable.{IdTable}
use Rattle.quic_retransmits.specs.declared.stream_ids.StreamIds.{StreamIds}

-- whether an id stands in the place of its own
abbrev pub has_own_place : Option ℕ → ℕ → Bool
has_own_place None id = false
has_own_place (Some first) id = id == first

-- whether an id is in a table
abbrev pub is_in_table : IdTable → ℕ → Bool
is_in_table t id = unwrap_or (option_map (λ b. contains ◌==◌ b.value id) t.table) false

-- how many ids a table has: none before it is made
abbrev pub table_count : IdTable → ℕ
table_count t = unwrap_or (option_map (λ b. hash_set_len b.value) t.table) 0

-- how many more ids fit into a table without new memory: none before it is made
abbrev pub table_room : IdTable → ℕ
table_room t = unwrap_or (option_map (λ b. spare b.value) t.table) 0

-- whether an id is in a set
abbrev pub is_in_ids : StreamIds → ℕ → Bool
is_in_ids s id = has_own_place s.first id || is_in_table s.others id

-- how many ids a set has
abbrev pub count_with : Option ℕ → StreamIds → ℕ
count_with None s = table_count s.others
count_with (Some first) s = if is_in_table s.others first then table_count s.others else table_count s.others + 1

abbrev pub id_count : StreamIds → ℕ
id_count s = count_with s.first s

-- 1 where an id stands in the place of its own
abbrev pub own_entries : Option ℕ → ℕ
own_entries None = 0
own_entries (Some first) = 1

-- how many places the ids of a set take: one that stands in two takes two
abbrev pub id_entries : StreamIds → ℕ
id_entries s = table_count s.others + own_entries s.first

-- 1 where no id stands in the place of its own
abbrev pub own_rooms : Option ℕ → ℕ
own_rooms None = 1
own_rooms (Some first) = 0

-- how many more ids fit without new memory
abbrev pub id_rooms : StreamIds → ℕ
id_rooms s = table_room s.others + own_rooms s.first

-- how many places there are for an id: it has one where it is in the set
abbrev pub id_places : StreamIds → ℕ → ℕ
id_places s id = if is_in_ids s id then 1 else id_rooms s
