-- Errors of reads.
use Rattle.quic_assembler.specs.declared.EnsureError.{EnsureError}
use Rattle.quic_assembler.specs.declared.EnsureError.TheVariants.{IllegalOrderedRead, OutOfMemory}
use Rattle.quic_receiving.specs.declared.errors.ReadableError.{ReadableError}
use Rattle.quic_receiving.specs.declared.errors.ReadableError.TheVariants as readable_error

-- why a stream is not open for reading, where its mode was not changed
abbrev pub readable_error_of : EnsureError → ReadableError
readable_error_of IllegalOrderedRead = readable_error.IllegalOrderedRead
readable_error_of OutOfMemory = readable_error.OutOfMemory
