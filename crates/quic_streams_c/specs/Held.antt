-- What a slot owns: nothing where no session is in it, else the session at the pointer, and the right to free its block.
use base.Fml.{Fml, ftrue}
use denote.RawPtr.{Ptr}
use Rattle.std.specs.declared.option.Option.{Option}
use Rattle.std.specs.declared.option.Option.TheVariants.{Some, None}
use Rattle.std.specs.Box.Ownership.{box_owns}
use Rattle.std.specs.Global.{Global}
use Rattle.std_heap.specs.contracts.GlobalAllocator.TheImpl.{ghosts}
use Rattle.quic_session.specs.declared.session.Session.{Session}
use Rattle.quic_session.specs.contracts.session.Session.{the_row}

abbrev pub slot_holds : Global → Ptr → Option Session → Fml
slot_holds alloc at None = ftrue
slot_holds alloc at (Some q) = box_owns (ghosts.dealloc_token alloc) the_row at q
