-- What a slot for a buffer owns: nothing where none is in it, else the buffer at the pointer, and the right to free its block.
use base.Fml.{Fml, ftrue}
use denote.RawPtr.{Ptr}
use Rattle.std.specs.declared.option.Option.{Option}
use Rattle.std.specs.declared.option.Option.TheVariants.{Some, None}
use Rattle.std.specs.Box.Ownership.{box_owns}
use Rattle.std.specs.Global.{Global}
use Rattle.std_heap.specs.contracts.GlobalAllocator.TheImpl.{ghosts}
use Rattle.quic_session.specs.declared.buffer.Buffer.{Buffer}
use Rattle.quic_session.specs.contracts.buffer.Buffer.{the_row}

abbrev pub buffer_holds : Global → Ptr → Option Buffer → Fml
buffer_holds alloc at None = ftrue
buffer_holds alloc at (Some q) = box_owns (ghosts.dealloc_token alloc) the_row at q
