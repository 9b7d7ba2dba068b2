-- How a call of C reaches its session.
use Rattle.std.specs.Prelude.{ℤ, negsuc, ◌≡◌, Option, Some, None}
use Rattle.quic_session.specs.declared.session.Session.{Session}

-- an open handle: its session is changed so, and stays in it
abbrev pub StaysOpen : (Session → Session → Type 0) → Session → Option Session → Type 0
StaysOpen Does s None = ⊥
StaysOpen Does s (Some t) = Does s t

-- a call: on a closed handle the answer is QS_ERR_CLOSED and nothing is written; on an open one the session is changed so
abbrev pub Calls : Option Session → ℤ → Option Session → Type 0 → (Session → Session → Type 0) → Type 0
Calls None code new Keeps Does = (code ≡ negsuc 0) × (new ≡ None) × Keeps
Calls (Some s) code new Keeps Does = StaysOpen Does s new

-- a question: on a closed handle the answer is QS_ERR_CLOSED and nothing is written; on an open one it is that of the session, of
-- which nothing changes
abbrev pub Questions : Option Session → ℤ → Option Session → Type 0 → (Session → Type 0) → Type 0
Questions None code new Keeps Tells = (code ≡ negsuc 0) × (new ≡ None) × Keeps
Questions (Some s) code new Keeps Tells = (new ≡ Some s) × Tells s

-- an argument is refused with QS_ERR_ARGUMENT, and nothing changes
abbrev pub Refuses : Session → ℤ → Session → Type 0
Refuses s code t = (code ≡ negsuc 2) × (t ≡ s)

-- a number with a bound is tested
abbrev pub WithNumber : {A : Type 0} → Option A → Type 0 → (A → Type 0) → Type 0
WithNumber None Refused Does = Refused
WithNumber (Some n) Refused Does = Does n
